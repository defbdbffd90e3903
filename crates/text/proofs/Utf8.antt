-- Laws of UTF-8: texts joined, and taken apart at an ASCII byte. Assumes nothing.
use mathlib.Core.Path.{◌≡◌, refl, ap, sym, ◌∙◌}
use Prim.Native.Nat.{ℕ, ◌<◌}
use native.Mathlib.Omega.{arith}
use mathlib.Core.Bool.{Bool, true, false, ◌&&◌, true≢false}
use mathlib.Core.List.{List, [], ◌∷◌, ◌++◌}
use lib.Dec.{leb}
use borrow.Author.Tests.{leb-true, le-leb, lt-leb}
use Rattle.text.specs.Utf8.{State, between, one, two, three, after_e0, after_ed, after_f0, after_f4, broken, next, after, is_between, well_formed, WellFormed}
use Rattle.text.proofs.Bytes.{and_left, and_right}

-- ---- the test and the statement

pub is_between_lem : (s : State) → is_between s ≡ true → s ≡ between
unfolding is_between
is_between_lem between e = refl
is_between_lem one e = absurd (true≢false (sym e))
is_between_lem two e = absurd (true≢false (sym e))
is_between_lem three e = absurd (true≢false (sym e))
is_between_lem after_e0 e = absurd (true≢false (sym e))
is_between_lem after_ed e = absurd (true≢false (sym e))
is_between_lem after_f0 e = absurd (true≢false (sym e))
is_between_lem after_f4 e = absurd (true≢false (sym e))
is_between_lem broken e = absurd (true≢false (sym e))

pub tested : (t : List ℕ) → well_formed t ≡ true → WellFormed t
unfolding well_formed WellFormed
tested t e = is_between_lem (after between t) e

pub testable : (t : List ℕ) → WellFormed t → well_formed t ≡ true
unfolding well_formed WellFormed
testable t h = ap is_between h

-- ---- texts joined

pub after_append : (s : State) (xs ys : List ℕ) → after s (xs ++ ys) ≡ after (after s xs) ys
unfolding after
after_append s [] ys = refl
after_append s (x ∷ xs) ys = after_append (next s x) xs ys

pub after_broken : (xs : List ℕ) → after broken xs ≡ broken
unfolding after
after_broken [] = refl
after_broken (x ∷ xs) = after_broken xs

-- after a well-formed text, the rest decides
pub well_formed_append : (xs ys : List ℕ) → WellFormed xs → after between (xs ++ ys) ≡ after between ys
unfolding WellFormed
well_formed_append xs ys h = after_append between xs ys ∙ ap (λ (s : State). after s ys) h

pub append_well_formed : (xs ys : List ℕ) → WellFormed xs → WellFormed ys → WellFormed (xs ++ ys)
append_well_formed xs ys h k = unfold WellFormed in well_formed_append xs ys h ∙ (unfold WellFormed in k)

pub never_between : (xs : List ℕ) → after broken xs ≡ between → ⊥
never_between xs e =
    let p : broken ≡ between = sym (after_broken xs) ∙ e in
    let z : ◌≡◌ {A = ℕ} 0 1 = cc in
    omega arith

-- ---- ASCII

-- where an ASCII byte leaves a reader
abbrev pub settle : State → State
settle between = between
settle one = broken
settle two = broken
settle three = broken
settle after_e0 = broken
settle after_ed = broken
settle after_f0 = broken
settle after_f4 = broken
settle broken = broken

pub settle_settle : (s : State) → settle (settle s) ≡ settle s
settle_settle between = refl
settle_settle one = refl
settle_settle two = refl
settle_settle three = refl
settle_settle after_e0 = refl
settle_settle after_ed = refl
settle_settle after_f0 = refl
settle_settle after_f4 = refl
settle_settle broken = refl

-- a test against a number above the byte
low : (b k : ℕ) → leb b 0x7F ≡ true → 0x7F < k → leb k b ≡ false
low b k e h = lt-leb k b (omega (arith, leb-true b 0x7F e))

pub next_ascii : (s : State) (b : ℕ) → leb b 0x7F ≡ true → next s b ≡ settle s
unfolding next
next_ascii between b e = rw e
next_ascii one b e = rw (low b 0x80 e (omega arith))
next_ascii two b e = rw (low b 0x80 e (omega arith))
next_ascii three b e = rw (low b 0x80 e (omega arith))
next_ascii after_e0 b e = rw (low b 0xA0 e (omega arith))
next_ascii after_ed b e = rw (low b 0x80 e (omega arith))
next_ascii after_f0 b e = rw (low b 0x90 e (omega arith))
next_ascii after_f4 b e = rw (low b 0x80 e (omega arith))
next_ascii broken b e = refl

abbrev pub all_ascii : List ℕ → Bool
all_ascii [] = true
all_ascii (b ∷ bs) = leb b 0x7F && all_ascii bs

pub ascii_well_formed : (bs : List ℕ) → all_ascii bs ≡ true → WellFormed bs
unfolding WellFormed
ascii_well_formed [] e = refl
ascii_well_formed (b ∷ bs) e =
    rw (next_ascii between b (and_left (leb b 0x7F) (all_ascii bs) e))
    (unfold WellFormed in ascii_well_formed bs (and_right (leb b 0x7F) (all_ascii bs) e))

pub after_ascii : (s : State) (b : ℕ) (bs : List ℕ) → all_ascii (b ∷ bs) ≡ true → after s (b ∷ bs) ≡ settle s
unfolding after
after_ascii s b [] e = next_ascii s b (and_left (leb b 0x7F) true e)
after_ascii s b (c ∷ cs) e =
    rw (next_ascii s b (and_left (leb b 0x7F) (all_ascii (c ∷ cs)) e))
    (after_ascii (settle s) c cs (and_right (leb b 0x7F) (all_ascii (c ∷ cs)) e) ∙ settle_settle s)

-- a reader that an ASCII byte brings to the end of a well-formed text stood between two characters
pub settled : (s : State) (xs : List ℕ) → after (settle s) xs ≡ between → (s ≡ between) × (after between xs ≡ between)
settled between xs e = (refl, e)
settled one xs e = absurd (never_between xs e)
settled two xs e = absurd (never_between xs e)
settled three xs e = absurd (never_between xs e)
settled after_e0 xs e = absurd (never_between xs e)
settled after_ed xs e = absurd (never_between xs e)
settled after_f0 xs e = absurd (never_between xs e)
settled after_f4 xs e = absurd (never_between xs e)
settled broken xs e = absurd (never_between xs e)

-- an ASCII byte stands between characters: what is before it is well-formed, and what is after it
pub split_ascii : (xs ys : List ℕ) (c : ℕ) → c < 0x80 → WellFormed (xs ++ (c ∷ ys)) → WellFormed xs × WellFormed ys
unfolding WellFormed
split_ascii xs ys c h w =
    let e : leb c 0x7F ≡ true = le-leb c 0x7F (omega arith) in
    settled (after between xs) ys
    (ap (λ (s : State). after s ys) (sym (next_ascii (after between xs) c e)) ∙ sym (after_append between xs (c ∷ ys)) ∙ w)
