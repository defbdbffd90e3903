-- An ASCII character is its byte (`encode_1`), and a byte is laid where there is room for it (`adds_byte`); others go to `write_wide`, and where
-- the form is wanted all go to `write_char_form`.
use Prim.Native.Nat.{ℕ}
use mathlib.Core.Path.{sym, ap, subst}
use mathlib.Core.List.{List, [], ◌∷◌}
use lib.ListN.{length}
use Rattle.charref.specs.CharRef.{encode}
use Rattle.charref.proofs.Encoding.{encode_1}
use Rattle.memory.specs.Levels.{Adds}
use Rattle.memory.proofs.Fitted.{adds_byte}
use Rattle.flat.proofs.Writing.{writes_plain, writes_form}
use Rattle.flat.proofs.write_char.Goals as goal

pub returns-then-form-ne0 : goal.returns-then-form-ne0
returns-then-form-ne0 c =
    let a = c.args in
    writes_form c.if-form-ne0.true (encode a.c) c.write_char_form.ensures

pub returns-then-c-lt128 : goal.returns-then-c-lt128
returns-then-c-lt128 c =
    let a = c.args in
    let byte = encode_1 a.c c.if-c-lt128.true in
    let added = subst (Adds (a.c ∷ []) a.len a.out.now) (sym c.put_byte.ensures) (adds_byte a.c a.len a.out.now) in
    writes_plain c.if-form-ne0.false
    (sym (ap length byte), subst (λ (x : List ℕ). Adds x a.len a.out.now c.put_byte.new.out) (sym byte) added)

pub returns : goal.returns
returns c =
    writes_plain c.if-form-ne0.false c.write_wide.ensures
