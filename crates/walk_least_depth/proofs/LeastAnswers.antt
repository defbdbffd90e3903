-- The call's core: the settings of its reading (`settings-are`), so that the outcomes by depth are those of the definition (`outcomes_are`,
-- `smooth_are`); and what is said of them is the definition's answer (`least_said`, `simple_least`). Assumes nothing.
use mathlib.Core.Path.{◌≡◌, refl, sym, ap, subst, ◌∙◌}
use mathlib.Core.Bool.{Bool, true, false}
use mathlib.Core.List.{List, []}
use Prim.Native.Nat.{ℕ, zero, suc, ◌≤◌}
use native.Mathlib.Omega.{arith}
use lib.Dec.{eqb, ltb}
use lib.ListN.{length, get_or, replicate, length-replicate}
use Rattle.text.specs.Bytes.{pick}
use Rattle.text.specs.Version.{Rule, rule_of}
use Rattle.text.specs.Simple.{Simple}
use Rattle.text.specs.Utf8.{WellFormed}
use Rattle.text.specs.Answers.{Done}
use Rattle.eols.specs.Stops.{rule_for}
use Rattle.eols.proofs.LineEnds.{version_rule}
use Rattle.halts.proofs.Smooth.{simple_plain}
use Rattle.entity.specs.Table.{marked}
use Rattle.tokens.specs.Outcome.{Outcome}
use Rattle.tokens.specs.Tokens.{Heads}
use Rattle.attribute.specs.Walk.{Settings, walk, normalize, inner_head, reading, reading_of}
use Rattle.attribute.specs.Heads.{attribute_head}
use Rattle.attribute.specs.Steps.{read_by}
use Rattle.attribute.proofs.Outer.{with_outer, walk_outer}
use Rattle.attribute.proofs.Single.{walk_plain}
use Rattle.memory.specs.Levels.{settings_by}
use Rattle.memory.specs.declared.Reading.{Reading}
use Rattle.memory.proofs.Readings.{by_limit}
use Rattle.walk_depths.specs.LeastDepth.{used_up, least_depth}
use Rattle.walk_depths.proofs.ByDepth.{least_enough, least_refused}
use Rattle.walk_least_depth.specs.Allowance.{settings_for, outcomes, Begins, Small, NeedKeeps, Says, how_for, allowed_for, least_answer}
use Rattle.walk_least_depth.specs.Allowance.{Need, Found, Cannot}
use Rattle.walk_least_depth.proofs.NeedRooms.{room_zeros}

-- ---- a new memory

zero_at : (n k : ℕ) → ◌≡◌ {A = ℕ} (get_or (replicate n 0) k 0) 0
zero_at zero k = refl
zero_at (suc n) zero = refl
zero_at (suc n) (suc k) = zero_at n k

pub new_room : (r : Reading) (list pool text : List ℕ) (openings : ℕ) → r.base ≡ 0 → openings ≤ r.limit → Small r text → WellFormed text
    → Begins (settings_for r list pool) list pool text (replicate 148 0) r.base openings
new_room r list pool text openings z few small utf8 =
    record {
      v = [];
      at_base = sym z;
      room = room_zeros (settings_for r list pool) list pool [] (replicate 148 0) (length-replicate {A = ℕ} 148 0) (zero_at 148);
      utf8 = utf8;
      few = subst (λ (n : ℕ). openings ≤ n) (sym (by_limit r.inner 0 list pool r.limit)) few;
      sum = omega (arith, z, small.short);
    }

pub keeps_says : {s : Settings} {list pool : List ℕ} {base a : ℕ} (o : ℕ → Outcome) {seen kept : List ℕ} (r : Need) → NeedKeeps s list pool base a o seen kept r → Says a o r
keeps_says o (Found depth openings len) k = k.tells.enough
keeps_says o (Cannot number first second) k = k.tells

-- ---- the outcomes of the definition

pub how_newer : (n : Bool) → eqb (pick n 1 0) 1 ≡ n
how_newer true = refl
how_newer false = refl

module _ (version : ℕ) (list pool : List ℕ) (limit : ℕ) where
  abbrev newer : Bool
  newer = ltb 1 version

  abbrev s : Settings
  s = reading_of (rule_of version) list pool limit

  settings_by_lem : (n past : Bool) → marked list ≡ past
      → settings_by (pick past 2 (pick n 1 0)) 0 list pool limit ≡ with_outer (read_by (pick past 2 (pick n 1 0)) 0) (reading_of (rule_for n) list pool limit)
  unfolding settings_by reading_of reading inner_head
  settings_by_lem true true e = rw e
  settings_by_lem false true e = rw e
  settings_by_lem true false e = rw e
  settings_by_lem false false e = rw e

  outer_heads_lem : (n : Bool) → read_by (pick n 1 0) 0 ≡ attribute_head (rule_for n)
  outer_heads_lem true = refl
  outer_heads_lem false = refl

  outer_walk : (rule : Rule) (t : List ℕ) (e : ℕ) → walk (reading_of rule list pool limit) (attribute_head rule) e t 0 ≡ normalize (reading_of rule list pool limit) e t
  unfolding normalize reading_of reading
  outer_walk rule t e = refl

  -- the value's own heads, with the reading's settings
  pub smooth_are : (t : List ℕ) (e : ℕ) → walk s (read_by (how_for version) 0) e t 0 ≡ normalize s e t
  smooth_are t e =
      ap (λ (h : Heads). walk s h e t 0) (outer_heads_lem newer ∙ ap attribute_head (version_rule version newer refl)) ∙ outer_walk (rule_of version) t e

  pub outcomes_are : (depth : ℕ) (t : List ℕ) (e : ℕ) → outcomes (allowed_for version (marked list) depth limit) list pool t 0 e ≡ normalize s e t
  outcomes_are depth t e =
      let at = read_by (how_for version) 0 in
      let inner : ℕ = pick (marked list) 2 (how_for version) in
      ap (λ (x : Settings). walk x at e t 0) (settings_by_lem newer (marked list) refl)
      ∙ walk_outer (read_by inner 0) (reading_of (rule_for newer) list pool limit) at e t 0
      ∙ ap (λ (rule : Rule). walk (reading_of rule list pool limit) at e t 0) (version_rule version newer refl)
      ∙ smooth_are t e

  -- ---- the definition's answer

  pub least_said : (t : List ℕ) (o : ℕ → Outcome) → ((e : ℕ) → o e ≡ normalize s e t) → (r : Need) → Says 128 o r → least_answer r ≡ least_depth s t
  least_said t o q (Found depth openings len) k =
      sym (least_enough s t depth openings len (record {
        within = k.within;
        value = k.value;
        size = k.size;
        from = λ e h. sym (q e) ∙ k.from e h;
        below = λ e h. subst (λ (x : Outcome). used_up x ≡ true) (q e) (k.below e h);
      }))
  least_said t o q (Cannot number first second) k = sym (least_refused s t k.before k.made number first second (sym (q 128) ∙ k.is))

  pub simple_least : (t : List ℕ) → Simple t → Done 0 0 ≡ least_depth s t
  simple_least t x =
      sym (least_enough s t 0 0 (length t) (record {
        within = omega arith;
        value = t;
        size = refl;
        from = λ e h. sym (smooth_are t e) ∙ walk_plain s (how_for version) e t 0 (simple_plain (eqb (how_for version) 1) t x);
        below = λ e h. absurd (omega (arith, h));
      }))
