-- Openings stay within the limit, and are the limit where 17 comes; no number is above 27 (`held_walk`). Assumes nothing.
use mathlib.Core.Path.{◌≡◌, refl, sym, ◌∙◌}
use Prim.Native.Nat.{ℕ, zero, suc, ◌+◌, ◌≤◌}
use native.Mathlib.Omega.{arith}
use mathlib.Core.Bool.{true, false, true≢false}
use mathlib.Core.List.{List, [], ◌∷◌, ◌++◌}
use lib.ListN.{length}
use lib.Dec.{eqb, lit≤}
use borrow.Author.Tests.{eqb-true, eqb-false}
use Rattle.text.specs.Bytes.{pick, same_bytes}
use Rattle.text.proofs.Bytes.{pick_by, pick_both}
use Rattle.charref.specs.CharRef.{char_number, number_answer}
use Rattle.charref.specs.CharNumbers.{CharNumber}
use Rattle.charref.specs.CharNumbers.{Char, UnexpectedSign, InvalidNumber, InvalidCodepoint, IllegalCharacter, Forbidden}
use Rattle.entity.specs.Binding.{Bound, text, external, predefined, unknown}
use Rattle.tokens.specs.Tokens.{Stop, kept, space, number, named, unterminated, Token, copy, stop, barred, Heads, tokens}
use Rattle.tokens.specs.Outcome.{Outcome, done, refused, prepend, followed, run, numbered, number_outcome}
use Rattle.attribute.specs.Walk.{Settings, opened, answer, exhausted, walk}

abbrev pub Held : ℕ → Outcome → Type 0
Held L (done value m) = m ≤ L
Held L (refused before m why first second) = (m ≤ L) × (eqb why 17 ≡ true → m ≡ L) × (why ≤ 27)

held_prepend : (L : ℕ) (front : List ℕ) (o : Outcome) → Held L o → Held L (prepend front o)
held_prepend L front (done value m) h = h
held_prepend L front (refused before m why first second) h = h

held_then : (L : ℕ) (o : Outcome) (k : ℕ → Outcome) → Held L o → ((m : ℕ) → m ≤ L → Held L (k m)) → Held L (followed o k)
held_then L (done value m) k h g = held_prepend L value (k m) (g m h)
held_then L (refused before m why first second) k h g = h

held_other : (L n why first second : ℕ) → eqb why 17 ≡ false → why ≤ 27 → n ≤ L → Held L (refused [] n why first second)
held_other L n why first second e small le = (le, λ q. absurd (true≢false (sym q ∙ e)), small)

held_run : (L : ℕ) (f : Stop → ℕ → Outcome) → ((s : Stop) (n : ℕ) → n ≤ L → Held L (f s n)) → (ts : List Token) (n : ℕ) → n ≤ L → Held L (run f ts n)
unfolding run
held_run L f h [] n le = le
held_run L f h (copy b ∷ ts) n le = held_prepend L (b ∷ []) (run f ts n) (held_run L f h ts n le)
held_run L f h (stop s ∷ ts) n le = held_then L (f s n) (λ m. run f ts m) (h s n le) (λ m q. held_run L f h ts m q)
held_run L f h (barred offset ∷ ts) n le = held_other L n 26 offset 0 refl (lit≤ tt) le

held_char : (L : ℕ) (c : CharNumber) (n : ℕ) → n ≤ L → Held L (numbered (number_answer c) n)
unfolding numbered number_answer
held_char L (Char c) n le = le
held_char L UnexpectedSign n le = held_other L n 12 0 0 refl (lit≤ tt) le
held_char L InvalidNumber n le = held_other L n 13 0 0 refl (lit≤ tt) le
held_char L (InvalidCodepoint c) n le = held_other L n 14 c 0 refl (lit≤ tt) le
held_char L IllegalCharacter n le = held_other L n 15 0 0 refl (lit≤ tt) le
held_char L Forbidden n le = held_other L n 25 0 0 refl (lit≤ tt) le

held_opened : (L : ℕ) (walked : List ℕ → ℕ → Outcome) → ((t : List ℕ) (n : ℕ) → n ≤ L → Held L (walked t n)) → (offset : ℕ) (name : List ℕ) (b : Bound) (n : ℕ) → n ≤ L
    → Held L (opened L walked offset name b n)
unfolding opened
held_opened L walked h offset name (text t) n le =
    pick_by (Held L) (eqb n L) {a = refused [] n 17 offset 0} {b = walked t (suc n)} (λ e. (le, λ q. eqb-true n L e, lit≤ tt)) (λ e. h t (suc n) (omega (arith, eqb-false n L e, le)))
held_opened L walked h offset name external n le = held_other L n 27 offset 0 refl (lit≤ tt) le
held_opened L walked h offset name (predefined t) n le = h t n le
held_opened L walked h offset name unknown n le = held_other L n 11 (suc offset) (suc offset + length name) refl (lit≤ tt) le

held_answer : (s : Settings) (walked : List ℕ → ℕ → Outcome) → ((t : List ℕ) (n : ℕ) → n ≤ s.limit → Held s.limit (walked t n)) → (x : Stop) (n : ℕ) → n ≤ s.limit
    → Held s.limit (answer s walked x n)
unfolding answer number_outcome
held_answer s walked h (kept b) n le = le
held_answer s walked h space n le = le
held_answer s walked h (number digits) n le = held_char s.limit (char_number s.legal digits) n le
held_answer s walked h (named offset name) n le =
    pick_both (Held s.limit) (same_bytes name (97 ∷ 109 ∷ 112 ∷ [])) {a = done (38 ∷ []) n} le (held_opened s.limit walked h offset name (s.bind name) n le)
held_answer s walked h (unterminated offset end) n le = held_other s.limit n 10 offset end refl (lit≤ tt) le

held_none : (L : ℕ) (x : Stop) (n : ℕ) → n ≤ L → Held L (exhausted x n)
unfolding exhausted
held_none L x n le = held_other L n 16 0 0 refl (lit≤ tt) le

pub held_walk : (s : Settings) (at : Heads) (depth : ℕ) (t : List ℕ) (n : ℕ) → n ≤ s.limit → Held s.limit (walk s at depth t n)
unfolding walk
held_walk s at zero t n le = held_run s.limit exhausted (held_none s.limit) (tokens at 0 0 t) n le
held_walk s at (suc depth) t n le = held_run s.limit _ (held_answer s _ (λ u m q. held_walk s s.inner depth u m q)) (tokens at 0 0 t) n le
