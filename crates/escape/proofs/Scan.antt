-- What is written of a text's rest: a run of bytes that are not replaced as it stands, and then a replacement. Assumes nothing.
use mathlib.Core.Path.{◌≡◌, sym, ap, ◌∙◌}
use mathlib.Core.Bool.{true}
use mathlib.Core.List.{List, [], ◌∷◌, ◌++◌}
use Prim.Native.Nat.{ℕ, zero, suc, ◌+◌, ◌≤◌, ◌<◌}
use native.Mathlib.Omega.{arith}
use native.Mathlib.Nat.{le_refl}
use native.Mathlib.Numerals.{add-one}
use lib.ListN.{length, drop, get_or, drop_of_length-le}
use lib.Seq.{drop-cons}
use Rattle.output.specs.Runs.{Ends}
use Rattle.output.proofs.Writers.{Copies}
use Rattle.escape.specs.Escape.{Replacements, write}
use Rattle.escape.specs.Scan.{escaped_by, reference_by, chars_set}
use Rattle.escape.specs.declared.EscapeChars.{EscapeChars}
use Rattle.escape.proofs.Write.{write_at}

module _ (set : Replacements) where
  pub plain_run_lem : Copies set.picks (write set)
  plain_run_lem t i zero p = let q : i + 0 ≡ i = omega arith in rw q
  plain_run_lem t i (suc n) p =
      let f = p.to in
      let q : i + suc n ≡ i + 1 + n = omega arith in
      write_at set t i (omega arith)
      ∙ rw (p.none i (le_refl i) (omega arith), q, drop-cons t i 0 (omega arith), sym (add-one i))
      (ap (λ (l : List ℕ). get_or t i 0 ∷ l) (plain_run_lem t (i + 1) n
      (record { from = omega arith; to = omega arith; none = λ k g h. p.none k (omega arith) (omega arith) })))

  pub replaced : (t : List ℕ) (i : ℕ) → i < length t → set.picks (get_or t i 0) ≡ true → write set (drop i t) ≡ set.by (get_or t i 0) ++ write set (drop (i + 1) t)
  replaced t i h e = write_at set t i h ∙ rw e

  -- past the end nothing is left
  pub write_over : (t : List ℕ) (i : ℕ) → length t ≤ i → write set (drop i t) ≡ []
  unfolding write
  write_over t i h = rw (drop_of_length-le t h)

-- ---- by the flags of a level

pub chars_run : (chars : EscapeChars) → Copies (escaped_by chars) (write (chars_set chars))
unfolding chars_set
chars_run chars = plain_run_lem (chars_set chars)

-- at the byte where a run ends: the reference to it
pub chars_reference : (chars : EscapeChars) (t : List ℕ) (e : ℕ) → e < length t → Ends (escaped_by chars) t e
    → write (chars_set chars) (drop e t) ≡ reference_by chars.hex (get_or t e 0) ++ write (chars_set chars) (drop (e + 1) t)
unfolding chars_set
chars_reference chars t e h p = replaced (chars_set chars) t e h (p h)
