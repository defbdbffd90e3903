-- `resolve_xml_entity` reads two and four bytes as one number: each return is a law of Predefined.antt about the name.
use mathlib.Core.Path.{sym, ◌∙◌}
use Prim.Native.Nat.{ℕ, ◌<◌}
use native.Mathlib.Omega.{arith}
use lib.Dec.{lit<}
use lib.ListN.{get_or}
use mathlib.Core.List.{List}
use Rattle.entity.proofs.Predefined.{is_lt, is_gt, is_amp_lem, is_apos, is_quot, none_two, none_four, none_else}
use Rattle.entity.proofs.resolve_xml_entity.Goals as goal
use Rattle.entity.proofs.resolve_xml_entity.Goals.{After-shared_slice_known-1}

-- places: the entry, seen from where two bytes were read, four, and where the name is not `amp` or is
abbrev name : After-shared_slice_known-1 → List ℕ
name c = c.args.name.now

-- the name consists of bytes
small : (c : After-shared_slice_known-1) (k : ℕ) → get_or (name c) k 0 < 0x100
small c k = omega (arith, c.type_inv.name k)

pub returns-then-two-eq29804 : goal.returns-then-two-eq29804
returns-then-two-eq29804 c =
    record { by_index = λ pool. is_lt (name (goal.at.returns-then-two-eq29804 c).After-shared_slice_known-1) pool (small (goal.at.returns-then-two-eq29804 c).After-shared_slice_known-1) c.if-name-eq2.true (sym c.u16_at-two.ensures.0 ∙ c.if-two-eq29804.true); by_index_2 = λ pool. lit< tt }

pub returns-then-two-eq29799 : goal.returns-then-two-eq29799
returns-then-two-eq29799 c =
    record { by_index = λ pool. is_gt (name (goal.at.returns-then-two-eq29799 c).After-shared_slice_known-1) pool (small (goal.at.returns-then-two-eq29799 c).After-shared_slice_known-1) c.if-name-eq2.true (sym c.u16_at-two.ensures.0 ∙ c.if-two-eq29799.true); by_index_2 = λ pool. lit< tt }

pub returns-then-name-eq2 : goal.returns-then-name-eq2
returns-then-name-eq2 c =
    record { by_index = λ pool. none_two (name (goal.at.returns-then-name-eq2 c).After-shared_slice_known-1) pool c.if-name-eq2.true (λ e. c.if-two-eq29804.false (c.u16_at-two.ensures.0 ∙ e)) (λ e. c.if-two-eq29799.false (c.u16_at-two.ensures.0 ∙ e)); by_index_2 = λ pool. tt }

pub returns-then-four-eq1936683105 : goal.returns-then-four-eq1936683105
returns-then-four-eq1936683105 c =
    record { by_index = λ pool. is_apos (name (goal.at.returns-then-four-eq1936683105 c).After-shared_slice_known-1) pool (small (goal.at.returns-then-four-eq1936683105 c).After-shared_slice_known-1) c.if-name-eq4.true (sym c.u32_at-four.ensures.0 ∙ c.if-four-eq1936683105.true); by_index_2 = λ pool. lit< tt }

pub returns-then-four-eq1953461617 : goal.returns-then-four-eq1953461617
returns-then-four-eq1953461617 c =
    record { by_index = λ pool. is_quot (name (goal.at.returns-then-four-eq1953461617 c).After-shared_slice_known-1) pool (small (goal.at.returns-then-four-eq1953461617 c).After-shared_slice_known-1) c.if-name-eq4.true (sym c.u32_at-four.ensures.0 ∙ c.if-four-eq1953461617.true); by_index_2 = λ pool. lit< tt }

pub returns-then-name-eq4 : goal.returns-then-name-eq4
returns-then-name-eq4 c =
    record { by_index = λ pool. none_four (name (goal.at.returns-then-name-eq4 c).After-shared_slice_known-1) pool c.if-name-eq4.true (λ e. c.if-four-eq1936683105.false (c.u32_at-four.ensures.0 ∙ e)) (λ e. c.if-four-eq1953461617.false (c.u32_at-four.ensures.0 ∙ e)); by_index_2 = λ pool. tt }

pub returns-then-is_three : goal.returns-then-is_three
returns-then-is_three c =
    record { by_index = λ pool. is_amp_lem (name (goal.at.returns-then-is_three c).After-shared_slice_known-1) pool (sym c.is_three.ensures ∙ c.if-is_three.true); by_index_2 = λ pool. lit< tt }

pub returns : goal.returns
returns c =
    record { by_index = λ pool. none_else (name (goal.at.returns c).After-shared_slice_known-1) pool c.if-name-eq2.false c.if-name-eq4.false (sym c.is_three.ensures ∙ c.if-is_three.false); by_index_2 = λ pool. tt }
