-- A byte is laid where there is room for it (`adds_byte`); as a character it is its own bytes (`encode_1`), so that its form is that of the
-- character.
use Prim.Native.Nat.{ℕ}
use mathlib.Core.Path.{refl, sym, subst}
use mathlib.Core.List.{List, [], ◌∷◌}
use Rattle.charref.proofs.Encoding.{encode_1}
use Rattle.eols.specs.Stops.{rule_for}
use Rattle.canonical.specs.Canonical.{canonical}
use lib.Dec.{eqb}
use Rattle.memory.specs.Levels.{Adds}
use Rattle.memory.proofs.Fitted.{adds_byte}
use Rattle.flat.specs.Between.{Writes}
use Rattle.flat.proofs.Writing.{writes_plain, writes_form}
use Rattle.flat.proofs.write_byte.Goals as goal

pub returns-then-form-ne0 : goal.returns-then-form-ne0
returns-then-form-ne0 c =
    let a = c.args in
    writes_form c.if-form-ne0.true (a.b ∷ [])
    (subst (λ (x : List ℕ). Writes (canonical (rule_for (eqb a.form 2)) x) a.len a.out.now c.write_char_form.new.out c.write_char_form.result)
    (encode_1 a.b c.requires.0) c.write_char_form.ensures)

pub returns : goal.returns
returns c =
    let a = c.args in
    writes_plain c.if-form-ne0.false
    (refl, subst (Adds (a.b ∷ []) a.len a.out.now) (sym c.put_byte.ensures) (adds_byte a.b a.len a.out.now))
