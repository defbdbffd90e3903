-- The three calls on a register whole: from form, buffer and used length to number, answer words and what is lent (document 02, K10).
-- Assumes nothing.
use Rattle.std.specs.Prelude.{ℕ, List, [], ◌∷◌, length}
use Rattle.text.specs.Call.{Called, called, guarded, text_check}
use Rattle.register.specs.Entries.{Entry, cost, count_in, Change, changed, refused, add, withdraw}
use Rattle.register.specs.Stored.{Held, holds, damaged, register, written}

-- what a call that changes a register is lent: the buffer, and the used length as a list of one word
abbrev pub lent : List ℕ → ℕ → List (List ℕ)
lent buffer used = buffer ∷ (used ∷ []) ∷ []

-- K10: an accepted change answers with the form's count and the used length; a refused call leaves every byte
abbrev pub leaves : List ℕ → ℕ → Change → Called
leaves buffer used (changed n es) = called 0 (n ∷ cost es ∷ []) (lent (written used es buffer) (cost es))
leaves buffer used (refused number) = called number (0 ∷ 0 ∷ []) (lent buffer used)

-- K10: 28 comes before the form is looked for
abbrev pub of_held : (List Entry → Change) → Held → Change
of_held change (holds es) = change es
of_held change damaged = refused 28

-- K10, add one: 1 and 5 of the form, 28, then 30
unfoldable pub add_call : List ℕ → List ℕ → ℕ → Called
unfolding add register
add_call form buffer used =
    guarded (text_check form) (lent buffer used) (leaves buffer used (of_held (add (length buffer) form) (register buffer used)))

-- K10, withdraw one: 1 and 5 of the form, 28, then 29
unfoldable pub withdraw_call : List ℕ → List ℕ → ℕ → Called
unfolding withdraw register
withdraw_call form buffer used =
    guarded (text_check form) (lent buffer used) (leaves buffer used (of_held (withdraw form) (register buffer used)))

abbrev pub counted : List ℕ → Held → Called
counted form (holds es) = called 0 (count_in form es ∷ 0 ∷ []) []
counted form damaged = called 28 (0 ∷ 0 ∷ []) []

-- K10, count one: 1 and 5 of the form, then 28
unfoldable pub count_call : List ℕ → List ℕ → ℕ → Called
unfolding count_in register
count_call form buffer used = guarded (text_check form) [] (counted form (register buffer used))
