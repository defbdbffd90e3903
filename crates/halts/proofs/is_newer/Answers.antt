-- `is_newer`, by case: no suspect, `&` or CR, C2 or E2 with the line end that it starts or does not. Assumes nothing.
use lib.Dec.{eqb}
use Rattle.halts.proofs.Smooth.{newer_none_at, newer_amp_cr, newer_line}
use mathlib.Core.Bool.{not}
use mathlib.Core.Path.{sym, ap, ◌∙◌}
use Prim.Native.Nat.{ℕ}
use Rattle.halts.proofs.is_newer.Goals as goal

pub returns-then-not-is_suspect : goal.returns-then-not-is_suspect
returns-then-not-is_suspect c =
    let given = c.args in
    newer_none_at given.text.now given.i c.requires (sym c.is_suspect.ensures ∙ c.if-not-is_suspect.true)

pub returns-then-b : goal.returns-then-b
returns-then-b c =
    let given = c.args in
    newer_amp_cr given.text.now given.i c.requires c.if-b.true

pub returns : goal.returns
returns c =
    let given = c.args in
    ap (λ (w : ℕ). not (eqb w 0)) c.eol_width.ensures
    ∙ newer_line given.text.now given.i c.requires
    (sym c.is_suspect.ensures ∙ c.if-not-is_suspect.false) c.if-b.false
