-- Document 02, K8: the strict reading is alike but for 25 and 26 (`strict_alike`). Any other outcome of it is the lenient one: bytes,
-- openings and positions too. And it is the reading without its guard but for 26 (`unguarded`). Assumes nothing.
use mathlib.Core.Path.{◌≡◌, refl}
use Prim.Native.Nat.{ℕ, zero, suc, ◌+◌}
use mathlib.Core.Bool.{Bool, true, false, ◌||◌}
use mathlib.Core.List.{List, [], ◌∷◌}
use lib.Dec.{eqb}
use lib.ListN.{length}
use Rattle.text.specs.Bytes.{pick, same_bytes}
use Rattle.text.specs.Version.{Rule}
use Rattle.charref.specs.CharRef.{char_number, any_character, number_answer}
use Rattle.charref.specs.CharNumbers.{CharNumber}
use Rattle.charref.specs.CharNumbers.{Char, Forbidden}
use Rattle.charref.proofs.Rules.{char_related}
use Rattle.entity.specs.Binding.{Bound, text, external, predefined, unknown}
use Rattle.legal.specs.Legal.{is_char, in_value, in_table, may_stand, fault_at}
use Rattle.tokens.specs.Tokens.{Stop, kept, space, number, named, unterminated, copy, stop, barred, Head, head, token_of, skip_of, Heads, tokens}
use Rattle.tokens.specs.Outcome.{Outcome, done, refused, run, numbered, number_outcome}
use Rattle.tokens.proofs.Related.{Related, Keeps, keeps_related}
use Rattle.attribute.specs.Walk.{Settings, opened, answer, exhausted, walk, normalize, reading, reading_of}
use Rattle.attribute.specs.Strict.{barring, only_char, strictly, reading_by}
use Rattle.attribute.proofs.Deeper.{pick_related}

-- settings with another rule for character numbers
abbrev pub with_legal : (ℕ → CharNumber) → Settings → Settings
with_legal legal s = record { outer = s.outer; inner = s.inner; bind = s.bind; limit = s.limit; legal = legal }

-- ---- barring heads beside the heads themselves: every outcome is the same, but for refusals by some numbers, 26 one of them

module _ (excused : ℕ → Bool) (bars : excused 26 ≡ true) where
  abbrev Beside : Outcome → Outcome → Type 0
  Beside = Keeps excused

  beside : Related Beside
  beside = keeps_related excused

  barred_beside : (n offset : ℕ) (o : Outcome) → Beside (refused [] n 26 offset 0) o
  barred_beside n offset o = rw bars tt

  module _ (may : ℕ → Bool) (at : Heads) (f g : Stop → ℕ → Outcome) (h : (s : Stop) (n : ℕ) → Beside (f s n) (g s n)) where
    abbrev strict_run : ℕ → ℕ → List ℕ → ℕ → Outcome
    strict_run offset skip t n = run f (tokens (barring may at) offset skip t) n

    abbrev lenient_run : ℕ → ℕ → List ℕ → ℕ → Outcome
    lenient_run offset skip t n = run g (tokens at offset skip t) n

    guarded_beside : (t : List ℕ) (offset skip n : ℕ) → Beside (strict_run offset skip t n) (lenient_run offset skip t n)
    unfolding barring tokens run
    guarded_beside [] offset skip n = refl
    guarded_beside (b ∷ bs) offset (suc skip) n = guarded_beside bs (suc offset) skip n
    guarded_beside (b ∷ bs) offset zero n = go (at offset b bs) (fault_at may (b ∷ bs)) (λ k m. guarded_beside bs (suc offset) k m)
      where
        go : (z : Head) (x : Bool) → ((k m : ℕ) → Beside (strict_run (suc offset) k bs m) (lenient_run (suc offset) k bs m))
            → Beside (run f (token_of (pick x (head (barred offset) 0) z) ∷ tokens (barring may at) (suc offset) (skip_of (pick x (head (barred offset) 0) z)) bs) n)
            (run g (token_of z ∷ tokens at (suc offset) (skip_of z) bs) n)
        go z true ih = barred_beside n offset (run g (token_of z ∷ tokens at (suc offset) (skip_of z) bs) n)
        go (head (copy c) k) false ih =
            beside.joined (done (c ∷ []) n) (done (c ∷ []) n) (λ m. strict_run (suc offset) k bs m) (λ m. lenient_run (suc offset) k bs m) refl (λ m. ih k m)
        go (head (stop s) k) false ih =
            beside.joined (f s n) (g s n) (λ m. strict_run (suc offset) k bs m) (λ m. lenient_run (suc offset) k bs m) (h s n) (λ m. ih k m)
        go (head (barred o) k) false ih = barred_beside n o (refused [] n 26 o 0)

  -- ---- walks, where the character numbers are so

  module _ (r : Rule) (s : Settings) (legal : ℕ → CharNumber)
      (numbers : (digits : List ℕ) (n : ℕ) → Beside (number_outcome (only_char r) digits n) (number_outcome legal digits n)) where
    module _ (f g : List ℕ → ℕ → Outcome) (h : (t : List ℕ) (n : ℕ) → Beside (f t n) (g t n)) where
      opened_beside : (offset : ℕ) (name : List ℕ) (b : Bound) (n : ℕ) → Beside (opened s.limit f offset name b n) (opened s.limit g offset name b n)
      unfolding opened
      opened_beside offset name (text t) n = pick_related Beside beside s (eqb n s.limit) (refused [] n 17 offset 0) (f t (suc n)) (g t (suc n)) (h t (suc n))
      opened_beside offset name external n = beside.same (refused [] n 27 offset 0)
      opened_beside offset name (predefined t) n = h t n
      opened_beside offset name unknown n = beside.same (refused [] n 11 (suc offset) (suc offset + length name))

      answer_beside : (x : Stop) (n : ℕ) → Beside (answer (strictly r s) f x n) (answer (with_legal legal s) g x n)
      unfolding answer strictly
      answer_beside (kept b) n = refl
      answer_beside space n = refl
      answer_beside (number digits) n = numbers digits n
      answer_beside (named offset name) n =
          pick_related Beside beside s (same_bytes name (97 ∷ 109 ∷ 112 ∷ [])) (done (38 ∷ []) n)
          (opened s.limit f offset name (s.bind name) n) (opened s.limit g offset name (s.bind name) n) (opened_beside offset name (s.bind name) n)
      answer_beside (unterminated offset end) n = beside.same (refused [] n 10 offset end)

    -- at any level, with any depth, after any openings
    pub walk_beside : (may : ℕ → Bool) (at : Heads) (depth : ℕ) (t : List ℕ) (n : ℕ)
        → Keeps excused (walk (strictly r s) (barring may at) depth t n) (walk (with_legal legal s) at depth t n)
    unfolding walk strictly
    walk_beside may at zero t n = guarded_beside may at exhausted exhausted (λ x m. beside.same (exhausted x m)) t 0 0 n
    walk_beside may at (suc depth) t n =
        let f : List ℕ → ℕ → Outcome = λ u m. walk (strictly r s) (barring (may_stand in_table r) s.inner) depth u m in
        let g : List ℕ → ℕ → Outcome = λ u m. walk (with_legal legal s) s.inner depth u m in
        guarded_beside may at (answer (strictly r s) f) (answer (with_legal legal s) g) (answer_beside f g (λ u m. walk_beside (may_stand in_table r) s.inner depth u m)) t 0 0 n

    pub normalize_beside : (depth : ℕ) (t : List ℕ) → Keeps excused (normalize (strictly r s) depth t) (normalize (with_legal legal s) depth t)
    unfolding normalize strictly
    normalize_beside depth t = walk_beside (may_stand in_value r) s.outer depth t 0

-- ---- beside the same rule for character numbers: but for 26

abbrev pub by26 : ℕ → Bool
by26 why = eqb why 26

-- the strict reading without its guard
pub unguarded : (r : Rule) (s : Settings) (depth : ℕ) (t : List ℕ) → Keeps by26 (normalize (strictly r s) depth t) (normalize (with_legal (only_char r) s) depth t)
unguarded r s depth t = normalize_beside by26 refl r s (only_char r) (λ digits n. (keeps_related by26).same (number_outcome (only_char r) digits n)) depth t

-- ---- beside the rule that lets every character number pass: but for 25 and 26

abbrev pub strict_only : ℕ → Bool
strict_only why = eqb why 25 || eqb why 26

-- the same, or forbidden
data OrForbidden : CharNumber → CharNumber → Type 0 where
  the_same : (c : CharNumber) → OrForbidden c c
  forbidden : (c : CharNumber) → OrForbidden Forbidden c

only_char_lem : (r : Rule) (n : ℕ) → OrForbidden (only_char r n) (any_character n)
unfolding only_char
only_char_lem r n = go (is_char r n)
  where
    go : (x : Bool) → OrForbidden (pick x (Char n) Forbidden) (Char n)
    go true = the_same (Char n)
    go false = forbidden (Char n)

numbered_alike : (c d : CharNumber) → OrForbidden c d → (n : ℕ) → Keeps strict_only (numbered (number_answer c) n) (numbered (number_answer d) n)
unfolding numbered number_answer
numbered_alike c d (the_same e) n = (keeps_related strict_only).same (numbered (number_answer e) n)
numbered_alike c d (forbidden e) n = tt

number_alike : (r : Rule) (digits : List ℕ) (n : ℕ) → Keeps strict_only (number_outcome (only_char r) digits n) (number_outcome any_character digits n)
unfolding number_outcome
number_alike r digits n =
    numbered_alike (char_number (only_char r) digits) (char_number any_character digits) (char_related OrForbidden the_same (only_char r) any_character (only_char_lem r) digits) n

-- K8: what is strictly read, other than refusals by 25 and 26, is what the lenient reading gives: in any text, with any depth, after any
-- openings.
pub walk_alike : (r : Rule) (s : Settings) (may : ℕ → Bool) (at : Heads) (depth : ℕ) (t : List ℕ) (n : ℕ)
    → Keeps strict_only (walk (strictly r s) (barring may at) depth t n) (walk (with_legal any_character s) at depth t n)
walk_alike r s may at depth t n = walk_beside strict_only refl r s any_character (number_alike r) may at depth t n

pub normalize_alike : (r : Rule) (s : Settings) (depth : ℕ) (t : List ℕ)
    → Keeps strict_only (normalize (strictly r s) depth t) (normalize (with_legal any_character s) depth t)
normalize_alike r s depth t = normalize_beside strict_only refl r s any_character (number_alike r) depth t

module _ (r : Rule) (list pool : List ℕ) (limit depth : ℕ) (t : List ℕ) where
  pub strict_alike : Keeps strict_only (normalize (reading_by true r list pool limit) depth t) (normalize (reading_by false r list pool limit) depth t)
  unfolding reading_by reading_of reading
  strict_alike = normalize_alike r (reading_of r list pool limit) depth t

  -- a strictly accepted value is the lenient one, with the same openings
  pub strict_accepted : (value : List ℕ) (openings : ℕ) → normalize (reading_by true r list pool limit) depth t ≡ done value openings
      → normalize (reading_by false r list pool limit) depth t ≡ done value openings
  strict_accepted value openings e = rw e at strict_alike

  -- so is a refusal by another number, with the bytes and openings before it and its positions
  pub strict_refused : (before : List ℕ) (n why first second : ℕ) → strict_only why ≡ false
      → normalize (reading_by true r list pool limit) depth t ≡ refused before n why first second
      → normalize (reading_by false r list pool limit) depth t ≡ refused before n why first second
  strict_refused before n why first second w e = rw w at (rw e at strict_alike)
