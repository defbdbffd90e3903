-- A call on a register as C sees it: the used length is stored, then answer words and number are put (`stored`). Assumes nothing.
use mathlib.Core.Path.{◌≡◌, ap, ◌∙◌}
use mathlib.Core.List.{List}
use Prim.Native.Nat.{ℕ}
use Rattle.text.specs.Call.{Called, called, call_of}
use Rattle.text.specs.Answers.{Answer}
use Rattle.register.specs.RegisterCalls.{lent}
use Rattle.changes.specs.Leaving.{used_after, leaving}

pub stored : (result : Answer) (used : ℕ) {number after : ℕ} {words buffer : List ℕ} {call : Called}
    → ((buffers : List (List ℕ)) → called number words buffers ≡ call_of result buffers) → after ≡ used_after result used
    → leaving result used buffer ≡ call → called number words (lent buffer after) ≡ call
stored result used {number} {after} {words} {buffer} put e is =
    put (lent buffer after) ∙ ap (λ (u : ℕ). call_of result (lent buffer u)) e ∙ is
