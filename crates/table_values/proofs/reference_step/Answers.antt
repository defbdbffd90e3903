-- `reference_step`: a character reference where `#` comes next (`reference_number`), else an entity's (`reference_entity`).
use mathlib.Core.Path.{◌≡◌, sym, ap, ◌∙◌}
use mathlib.Core.List.{[]}
use Prim.Native.Nat.{ℕ, ◌+◌}
use native.Mathlib.Omega.{arith}
use Rattle.table_grammar.specs.EntityValue.{char_ref_from}
use Rattle.table_names.specs.NameTerms.{left}
use Rattle.table_values.proofs.EntityValues.{meets_as, meets_earlier}
use Rattle.table_values.proofs.EntityRefs.{reference_number, reference_entity}
use Rattle.table_values.proofs.reference_step.Goals as goal

pub returns-then-byte_at : goal.returns-then-byte_at
returns-then-byte_at c =
    let q : c.args.i + 1 + 1 ≡ c.args.i + 2 = omega arith in
    meets_as (reference_number c.args.quote c.args.newer c.args.text.now (c.args.i + 1)
    (sym c.byte_at.ensures ∙ c.if-byte_at.true) ∙ ap
    (λ (k : ℕ). char_ref_from c.args.quote [] (left c.args.newer c.args.text.now k)) q) (meets_earlier (omega arith) c.number_step.ensures)

pub returns : goal.returns
returns c =
    meets_as (reference_entity c.args.quote c.args.newer c.args.text.now (c.args.i + 1)
    (sym c.byte_at.ensures ∙ c.if-byte_at.false)) c.entity_step.ensures
