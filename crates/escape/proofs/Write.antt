-- Laws of writing by any replacement set: texts joined and taken apart, lengths, UTF-8. Assumes nothing.
use mathlib.Core.Path.{◌≡◌, refl, sym, ap, ◌∙◌}
use mathlib.Core.Bool.{true}
use mathlib.Core.List.{List, [], ◌∷◌, ◌++◌, append_assoc, append-nil}
use Prim.Native.Nat.{ℕ, ◌+◌, ◌*◌, ◌-◌, ◌≤◌, ◌<◌}
use native.Mathlib.Omega.{arith}
use native.Mathlib.Numerals.{add-one}
use lib.ListN.{length, take, drop, get_or, length-append}
use lib.Seq.{take-length, take-suc, drop-cons, take-add}
use Rattle.text.specs.Utf8.{State, between, after, WellFormed}
use Rattle.text.proofs.Bytes.{pick_by}
use Rattle.text.proofs.Utf8.{all_ascii, settle, next_ascii, after_append, after_ascii}
use lib.Dec.{leb}
use Rattle.escape.specs.Escape.{Replacements, write_byte, write}

-- ---- texts joined and taken apart

module _ (set : Replacements) where
  pub write_append : (a b : List ℕ) → write set (a ++ b) ≡ write set a ++ write set b
  unfolding write
  write_append [] b = refl
  write_append (x ∷ xs) b = rw (write_append xs b, append_assoc)

  -- the next byte, and the rest
  pub write_at : (text : List ℕ) (i : ℕ) → i < length text → write set (drop i text) ≡ write_byte set (get_or text i 0) ++ write set (drop (i + 1) text)
  unfolding write
  write_at text i h = rw (drop-cons text i 0 h, add-one i)

  -- one byte more
  pub write_next : (text : List ℕ) (i : ℕ) → i < length text → write set (take (i + 1) text) ≡ write set (take i text) ++ write_byte set (get_or text i 0)
  unfolding write
  write_next text i h =
      rw (add-one i, take-suc text i 0 h, write_append (take i text) (get_or text i 0 ∷ []), append-nil)

  -- a part more
  pub write_part : (text : List ℕ) (i n : ℕ) → write set (take (i + n) text) ≡ write set (take i text) ++ write set (take n (drop i text))
  write_part text i n = rw (take-add i n text, write_append)

  -- the count of a part, added to that of what is before it
  pub count_part : (text : List ℕ) (i n c m : ℕ) → n + i ≡ length (write set (take i text)) → m + c ≡ length (write set (take c (drop i text)))
      → n + m + (i + c) ≡ length (write set (take (i + c) text))
  count_part text i n c m e q = rw (write_part text i c, length-append) (omega (arith, e, q))

  pub count_rest : (text : List ℕ) (i n m : ℕ) → i ≤ length text → n + i ≡ length (write set (take i text))
      → m + (length text - i) ≡ length (write set (take (length text - i) (drop i text))) → n + m + length text ≡ length (write set text)
  count_rest text i n m h e q =
      let w : i + (length text - i) ≡ length text = omega arith in
      rw (w, take-length text) at (count_part text i n (length text - i) m e q)

-- ---- lengths

-- replacements of 1 to 6 bytes
pub record Sized (set : Replacements) : Type 0 where
  pub least : (b : ℕ) → set.picks b ≡ true → 1 ≤ length (set.by b)
  pub most : (b : ℕ) → set.picks b ≡ true → length (set.by b) ≤ 6

module _ (set : Replacements) (sized : Sized set) where
  pub byte_least : (b : ℕ) → 1 ≤ length (write_byte set b)
  byte_least b = pick_by (λ (l : List ℕ). 1 ≤ length l) (set.picks b) (sized.least b) (λ e. omega arith)

  pub byte_most : (b : ℕ) → length (write_byte set b) ≤ 6
  byte_most b = pick_by (λ (l : List ℕ). length l ≤ 6) (set.picks b) (sized.most b) (λ e. omega arith)

  pub write_least : (text : List ℕ) → length text ≤ length (write set text)
  unfolding write
  write_least [] = omega arith
  write_least (b ∷ bs) = rw length-append (omega (arith, byte_least b, write_least bs))

  pub write_most : (text : List ℕ) → length (write set text) ≤ 6 * length text
  unfolding write
  write_most [] = omega arith
  write_most (b ∷ bs) = rw length-append (omega (arith, byte_most b, write_most bs))

-- ---- UTF-8

-- ASCII bytes replaced by ASCII bytes, of which there is one at least
pub record Ascii (set : Replacements) : Type 0 where
  pub picked : (b : ℕ) → set.picks b ≡ true → leb b 0x7F ≡ true
  pub written : (b : ℕ) → set.picks b ≡ true → all_ascii (set.by b) ≡ true
  pub some : (b : ℕ) → set.picks b ≡ true → 1 ≤ length (set.by b)

-- a reader stands after the ASCII bytes where one ASCII byte leaves it
settles : (s : State) (bytes : List ℕ) → all_ascii bytes ≡ true → 1 ≤ length bytes → after s bytes ≡ settle s
settles s [] e h = absurd (omega arith)
settles s (b ∷ bs) e h = after_ascii s b bs e

module _ (set : Replacements) (ascii : Ascii set) where
  after_byte : (s : State) (b : ℕ) → after s (write_byte set b) ≡ after s (b ∷ [])
  after_byte s b =
      pick_by (λ (l : List ℕ). after s l ≡ after s (b ∷ [])) (set.picks b)
      (λ e. settles s (set.by b) (ascii.written b e) (ascii.some b e) ∙ sym (unfold after in next_ascii s b (ascii.picked b e)))
      (λ e. refl)

  -- a reader of what is written stands where a reader of the text stands
  pub after_write : (s : State) (text : List ℕ) → after s (write set text) ≡ after s text
  unfolding write after
  after_write s [] = refl
  after_write s (b ∷ bs) =
      after_append s (write_byte set b) (write set bs)
      ∙ ap (λ (t : State). after t (write set bs)) (after_byte s b)
      ∙ after_write (after s (b ∷ [])) bs

  pub write_well_formed : (text : List ℕ) → WellFormed text → WellFormed (write set text)
  unfolding WellFormed
  write_well_formed text h = after_write between text ∙ h
