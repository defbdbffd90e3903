-- Checks one after the other: the first that refuses answers. Assumes nothing.
use mathlib.Core.Path.{◌≡◌, refl, sym, ◌∙◌, ap}
use mathlib.Core.List.{List}
use mathlib.Core.Bool.{Bool, true, false}
use Prim.Native.Nat.{ℕ, ◌≤◌}
use native.Mathlib.Omega.{arith}
use lib.Dec.{ltb}
use lib.ListN.{length}
use borrow.Author.Tests.{ltb-false}
use Rattle.text.specs.Call.{Called, and_then, call_of, guarded, longest_text, length_check}
use Rattle.text.specs.Answers.{Answer}
use Rattle.text.specs.Answers.{Done, Refused}

pub stops : {r checked : Answer} (later : Answer) {number first second : ℕ} → r ≡ checked → r ≡ Refused number first second → r ≡ and_then checked later
stops later e q = q ∙ sym (ap (λ (a : Answer). and_then a later) (sym e ∙ q))

pub goes_on : {r checked : Answer} (later : Answer) {first second : ℕ} → r ≡ checked → r ≡ Done first second → later ≡ and_then checked later
goes_on later e q = sym (ap (λ (a : Answer). and_then a later) (sym e ∙ q))

-- the same of a call: what it leaves behind where the checks refuse, and where they let it pass
pub halts : {r checked : Answer} (buffers : List (List ℕ)) (rest : Called) {number first second : ℕ}
    → r ≡ checked → r ≡ Refused number first second → call_of r buffers ≡ guarded checked buffers rest
halts buffers rest e q =
    ap (λ (a : Answer). call_of a buffers) q ∙ sym (ap (λ (a : Answer). guarded a buffers rest) (sym e ∙ q))

pub passes : {r checked : Answer} (buffers : List (List ℕ)) (rest : Called) {first second : ℕ}
    → r ≡ checked → r ≡ Done first second → rest ≡ guarded checked buffers rest
passes buffers rest e q = sym (ap (λ (a : Answer). guarded a buffers rest) (sym e ∙ q))

-- where checks that begin with that of the text's length let a call pass, the text is no longer than that
pub checked_length : (text : List ℕ) (later : Answer) {first second : ℕ} → and_then (length_check text) later ≡ Done first second
    → length text ≤ longest_text
unfolding length_check
checked_length text later {first} {second} e = go (ltb longest_text (length text)) refl
  where
    go : (t : Bool) → ltb longest_text (length text) ≡ t → length text ≤ longest_text
    go false h = ltb-false longest_text (length text) h
    go true h =
        let q : Refused 1 (length text) 0 ≡ Done first second = rw h at e in
        let z : ◌≡◌ {A = ℕ} 0 1 = cc in
        absurd (omega arith)
