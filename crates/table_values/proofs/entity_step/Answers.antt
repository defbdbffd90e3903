-- `entity_step`: no name (`ref_none`), no `;` after it (`ref_open`), else the reference as it is written (`ref_closed`).
use mathlib.Core.Path.{sym, ◌∙◌}
use Prim.Native.Nat.{◌+◌}
use native.Mathlib.Omega.{arith}
use Rattle.table_names.proofs.NamesPast.{name_past}
use Rattle.table_values.proofs.EntityRefs.{ref_none, ref_open, ref_closed}
use Rattle.table_values.proofs.entity_step.Goals as goal

pub returns-then-end-i : goal.returns-then-end-i
returns-then-end-i c =
    ref_none c.args.i (name_past c.args.newer c.args.text.now (c.args.i + 1) c.name_end-end.result (omega (arith, c.requires.0))
    c.name_end-end.ensures.1) c.args.out.now c.if-end-i.true

pub returns-then-not-byte_at : goal.returns-then-not-byte_at
returns-then-not-byte_at c =
    ref_open c.args.i (name_past c.args.newer c.args.text.now (c.args.i + 1) c.name_end-end.result (omega (arith, c.requires.0))
    c.name_end-end.ensures.1) c.args.out.now c.if-end-i.false (sym c.byte_at.ensures ∙ c.if-not-byte_at.true)

pub returns : goal.returns
returns c =
    ref_closed c.args.i (name_past c.args.newer c.args.text.now (c.args.i + 1) c.name_end-end.result (omega (arith, c.requires.0))
    c.name_end-end.ensures.1) c.args.out.now c.if-end-i.false c.requires.0 c.requires.1
    (sym c.byte_at.ensures ∙ c.if-not-byte_at.false) c.put_over.ensures
