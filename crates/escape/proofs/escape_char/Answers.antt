-- `escape_char`, arm by arm: the bytes written are the reference to the byte that the arm is for (`reference_room`, `reference_put`), by
-- name whatever the kind of numbers (`named`), and in the last arm the byte itself (`other`). Assumes nothing.
use mathlib.Core.Path.{◌≡◌, refl, ap, ◌∙◌}
use mathlib.Core.Bool.{Bool}
use mathlib.Core.List.{List, [], ◌∷◌}
use Prim.Native.Nat.{ℕ}
use Rattle.text.specs.Bytes.{pick}
use Rattle.escape.specs.Scan.{reference_by}
use Rattle.escape.proofs.Levels.{pick_same, reference_other, reference_room, reference_put}
use Rattle.output.proofs.Laid.{laid_byte}
use Rattle.escape.proofs.escape_char.Goals as goal
use Rattle.escape.proofs.escape_char.Goals.{In_default}

-- the reference to a byte whose name is `bytes`
named : (hex : Bool) {b x : ℕ} (bytes : List ℕ) → b ≡ x → reference_by hex x ≡ pick hex bytes bytes → reference_by hex b ≡ bytes
named hex bytes e q = ap (reference_by hex) e ∙ q ∙ pick_same hex bytes

other : (c : In_default) → reference_by c.args.hex c.args.b ≡ c.args.b ∷ []
other c =
    let r = c.in_default.in_default-own.rest in
    let given = c.args in
    reference_other given.hex given.b r.0.0.0.0.0.0.0.1 r.0.0.0.0.0.0.1 r.0.0.0.0.0.1 r.0.0.0.0.1 r.0.0.0.1
    r.0.0.1 r.0.1 r.1

pub put-requires : goal.put-requires
unfolding reference_by
put-requires c =
    reference_room (named c.args.hex (38 ∷ 108 ∷ 116 ∷ 59 ∷ []) c.in-60.is refl) c.requires

pub put-requires-in-62 : goal.put-requires-in-62
unfolding reference_by
put-requires-in-62 c =
    reference_room (named c.args.hex (38 ∷ 103 ∷ 116 ∷ 59 ∷ []) c.in-62.is refl) c.requires

pub put-requires-in-38 : goal.put-requires-in-38
unfolding reference_by
put-requires-in-38 c =
    reference_room (named c.args.hex (38 ∷ 97 ∷ 109 ∷ 112 ∷ 59 ∷ []) c.in-38.is refl) c.requires

pub put-requires-in-39 : goal.put-requires-in-39
unfolding reference_by
put-requires-in-39 c =
    reference_room (named c.args.hex (38 ∷ 97 ∷ 112 ∷ 111 ∷ 115 ∷ 59 ∷ []) c.in-39.is refl) c.requires

pub put-requires-in-34 : goal.put-requires-in-34
unfolding reference_by
put-requires-in-34 c =
    reference_room (named c.args.hex (38 ∷ 113 ∷ 117 ∷ 111 ∷ 116 ∷ 59 ∷ []) c.in-34.is refl) c.requires

pub put_either-requires : goal.put_either-requires
unfolding reference_by
put_either-requires c =
    reference_room (ap (reference_by c.args.hex) c.in-13.is) c.requires

pub put_either-requires-in-10 : goal.put_either-requires-in-10
unfolding reference_by
put_either-requires-in-10 c =
    reference_room (ap (reference_by c.args.hex) c.in-10.is) c.requires

pub put_either-requires-in-9 : goal.put_either-requires-in-9
unfolding reference_by
put_either-requires-in-9 c =
    reference_room (ap (reference_by c.args.hex) c.in-9.is) c.requires

pub bounds-out-0 : goal.bounds-out-0
bounds-out-0 c = reference_room (other c) c.requires

pub returns-in-60 : goal.returns-in-60
unfolding reference_by
returns-in-60 c =
    let given = c.args in
    reference_put given.out.now (named given.hex (38 ∷ 108 ∷ 116 ∷ 59 ∷ []) c.in-60.is refl) c.put.ensures

pub returns-in-62 : goal.returns-in-62
unfolding reference_by
returns-in-62 c =
    let given = c.args in
    reference_put given.out.now (named given.hex (38 ∷ 103 ∷ 116 ∷ 59 ∷ []) c.in-62.is refl) c.put-in-62.ensures

pub returns-in-38 : goal.returns-in-38
unfolding reference_by
returns-in-38 c =
    let given = c.args in
    reference_put given.out.now (named given.hex (38 ∷ 97 ∷ 109 ∷ 112 ∷ 59 ∷ []) c.in-38.is refl) c.put-in-38.ensures

pub returns-in-39 : goal.returns-in-39
unfolding reference_by
returns-in-39 c =
    let given = c.args in
    reference_put given.out.now (named given.hex (38 ∷ 97 ∷ 112 ∷ 111 ∷ 115 ∷ 59 ∷ []) c.in-39.is refl) c.put-in-39.ensures

pub returns-in-34 : goal.returns-in-34
unfolding reference_by
returns-in-34 c =
    let given = c.args in
    reference_put given.out.now (named given.hex (38 ∷ 113 ∷ 117 ∷ 111 ∷ 116 ∷ 59 ∷ []) c.in-34.is refl) c.put-in-34.ensures

pub returns-in-13 : goal.returns-in-13
unfolding reference_by
returns-in-13 c =
    let given = c.args in
    reference_put given.out.now (ap (reference_by given.hex) c.in-13.is) c.put_either.ensures

pub returns-in-10 : goal.returns-in-10
unfolding reference_by
returns-in-10 c =
    let given = c.args in
    reference_put given.out.now (ap (reference_by given.hex) c.in-10.is) c.put_either-in-10.ensures

pub returns-in-9 : goal.returns-in-9
unfolding reference_by
returns-in-9 c =
    let given = c.args in
    reference_put given.out.now (ap (reference_by given.hex) c.in-9.is) c.put_either-in-9.ensures

pub returns-in_default : goal.returns-in_default
returns-in_default c =
    let given = c.args in
    reference_put given.out.now (other c) (refl, laid_byte [] given.out.now given.b (reference_room (other c) c.requires))
