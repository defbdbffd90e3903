-- The heads of attribute values: a token takes up at least what it weighs, leaves a reader of UTF-8 where the bytes after it begin, and
-- bars no character. Assumes nothing.
use mathlib.Core.Path.{◌≡◌, refl, ap, sym, ◌∙◌}
use Prim.Native.Nat.{ℕ, zero, suc}
use native.Mathlib.Omega.{arith}
use mathlib.Core.Bool.{Bool, true, false, ◌||◌}
use mathlib.Core.List.{List, ◌∷◌}
use lib.ListN.{drop, length-drop}
use lib.Dec.{eqb, leb}
use borrow.Author.Tests.{eqb-true}
use Rattle.text.specs.Version.{Rule, xml10, xml11}
use Rattle.text.specs.Utf8.{State, next, after}
use Rattle.text.proofs.Bytes.{pick_by, pick_both}
use Rattle.text.proofs.Utf8.{settle, next_ascii}
use Rattle.eols.specs.LineEnds.{line_end}
use Rattle.eols.proofs.Normal.{line_end_settles}
use Rattle.charref.specs.CharNumbers.{CharNumber}
use Rattle.charref.specs.CharNumbers.{Char}
use Rattle.tokens.specs.Tokens.{kept, space, copy, stop, Head, head, name_at}
use Rattle.tokens.proofs.Carried.{Moving}
use Rattle.tokens.proofs.Lengths.{Fits, fits_moves, reference_fits, lengths}
use Rattle.tokens.proofs.Barred.{Passes, BarsNothing, reference_passes}
use Rattle.tokens.proofs.WellFormedness.{Whole, whole_moves, reference_whole, utf8}
use Rattle.attribute.specs.Heads.{space_or, other_head, attribute_head, past_head}
use Rattle.attribute.specs.Walk.{inner_head}

-- ---- lengths

space_fits : (bs : List ℕ) (w : ℕ) (other : Head) → Fits bs other → Fits bs (space_or w other)
unfolding space_or
space_fits bs zero other h = h
space_fits bs (suc w) other h = rw (length-drop w bs) (omega arith)

other_fits : (r : Rule) (b : ℕ) (bs : List ℕ) → Fits bs (other_head r b)
unfolding other_head
other_fits xml10 b bs = omega arith
other_fits xml11 b bs = pick_both (Fits bs) (eqb b 0xC2 || eqb b 0xE2) (omega arith) (omega arith)

attribute_fits : (r : Rule) (offset b : ℕ) (bs : List ℕ) → Fits bs (attribute_head r offset b bs)
unfolding attribute_head
attribute_fits r offset b bs =
    pick_both (Fits bs) (eqb b 38) (reference_fits false offset bs)
    (pick_both (Fits bs) (eqb b 9) (omega arith) (space_fits bs (line_end r (b ∷ bs)) (other_head r b) (other_fits r b bs)))

pub attribute_lengths : (legal : ℕ → CharNumber) (r : Rule) → Moving (lengths legal) (attribute_head r)
attribute_lengths legal r x offset b bs h = fits_moves legal x bs (attribute_head r offset b bs) (attribute_fits r offset b bs) h

past_fits : (offset b : ℕ) (bs : List ℕ) → Fits bs (past_head offset b bs)
unfolding past_head
past_fits offset b bs =
    pick_both (Fits bs) (eqb b 38) (reference_fits false offset bs)
    (pick_both (Fits bs) (eqb b 9 || eqb b 10 || eqb b 13) {a = head (stop space) 0} {b = head (copy b) 0} (omega arith) (omega arith))

pub past_lengths : (legal : ℕ → CharNumber) → Moving (lengths legal) past_head
past_lengths legal x offset b bs h = fits_moves legal x bs (past_head offset b bs) (past_fits offset b bs) h

pub inner_lengths : (legal : ℕ → CharNumber) (past : Bool) (r : Rule) → Moving (lengths legal) (inner_head past r)
unfolding inner_head
inner_lengths legal false r = attribute_lengths legal r
inner_lengths legal true r = past_lengths legal

-- ---- UTF-8

space_whole : (s : State) (b : ℕ) (bs : List ℕ) (w : ℕ) → ((v : ℕ) → w ≡ suc v → (x : State) → after x (b ∷ bs) ≡ after (settle x) (drop (suc v) (b ∷ bs)))
    → (other : Head) → Whole s b bs other → Whole s b bs (space_or w other)
unfolding space_or
space_whole s b bs zero d other h = h
space_whole s b bs (suc w) d other h = λ e. record { to = settle s; leaves = refl; whole = sym (d w refl s) ∙ e }

other_whole : (r : Rule) (s : State) (b : ℕ) (bs : List ℕ) → Whole s b bs (other_head r b)
unfolding other_head after
other_whole xml10 s b bs = λ e. record { to = next s b; leaves = refl; whole = e }
other_whole xml11 s b bs =
    pick_both (Whole s b bs) (eqb b 0xC2 || eqb b 0xE2) {a = head (stop (kept b)) 0} {b = head (copy b) 0}
    (λ e. record { to = next s b; leaves = refl; whole = e }) (λ e. record { to = next s b; leaves = refl; whole = e })

-- an ASCII byte as a space
blank_whole : (s : State) (b : ℕ) (bs : List ℕ) → leb b 0x7F ≡ true → Whole s b bs (head (stop space) 0)
unfolding after
blank_whole s b bs a e = record { to = settle s; leaves = refl; whole = ap (λ (x : State). after x bs) (sym (next_ascii s b a)) ∙ e }

attribute_whole : (r : Rule) (s : State) (offset b : ℕ) (bs : List ℕ) → Whole s b bs (attribute_head r offset b bs)
unfolding attribute_head
attribute_whole r s offset b bs =
    pick_by (Whole s b bs) (eqb b 38) (λ e. rw (eqb-true b 38 e) (reference_whole false s offset bs)) λ e.
    pick_by (Whole s b bs) (eqb b 9) {a = head (stop space) 0} (λ t. rw (eqb-true b 9 t) (blank_whole s 9 bs refl)) λ t.
    space_whole s b bs (line_end r (b ∷ bs)) (line_end_settles r (b ∷ bs)) (other_head r b) (other_whole r s b bs)

pub attribute_utf8 : (legal : ℕ → CharNumber) (own : (m n : ℕ) → legal m ≡ Char n → m ≡ n) (r : Rule) → Moving (utf8 legal own) (attribute_head r)
attribute_utf8 legal own r s offset b bs h = whole_moves legal own s b bs (attribute_head r offset b bs) (attribute_whole r s offset b bs) h

one_of_three : (b : ℕ) → eqb b 9 || eqb b 10 || eqb b 13 ≡ true → leb b 0x7F ≡ true
one_of_three b e = go (eqb b 9) refl (eqb b 10) refl e
  where
    go : (t : Bool) → eqb b 9 ≡ t → (l : Bool) → eqb b 10 ≡ l → t || l || eqb b 13 ≡ true → leb b 0x7F ≡ true
    go true p l q k = rw (eqb-true b 9 p)
    go false p true q k = rw (eqb-true b 10 q)
    go false p false q k = rw (eqb-true b 13 k)

past_whole : (s : State) (offset b : ℕ) (bs : List ℕ) → Whole s b bs (past_head offset b bs)
unfolding past_head after
past_whole s offset b bs =
    pick_by (Whole s b bs) (eqb b 38) (λ e. rw (eqb-true b 38 e) (reference_whole false s offset bs)) λ e.
    pick_by (Whole s b bs) (eqb b 9 || eqb b 10 || eqb b 13) {a = head (stop space) 0} {b = head (copy b) 0}
    (λ t. blank_whole s b bs (one_of_three b t)) (λ t z. record { to = next s b; leaves = refl; whole = z })

pub past_utf8 : (legal : ℕ → CharNumber) (own : (m n : ℕ) → legal m ≡ Char n → m ≡ n) → Moving (utf8 legal own) past_head
past_utf8 legal own s offset b bs h = whole_moves legal own s b bs (past_head offset b bs) (past_whole s offset b bs) h

pub inner_utf8 : (legal : ℕ → CharNumber) (own : (m n : ℕ) → legal m ≡ Char n → m ≡ n) (past : Bool) (r : Rule) → Moving (utf8 legal own) (inner_head past r)
unfolding inner_head
inner_utf8 legal own false r = attribute_utf8 legal own r
inner_utf8 legal own true r = past_utf8 legal own

-- ---- no character is barred

space_passes : (w : ℕ) (other : Head) → Passes other → Passes (space_or w other)
unfolding space_or
space_passes zero other h = h
space_passes (suc w) other h = λ p. p

other_passes : (r : Rule) (b : ℕ) → Passes (other_head r b)
unfolding other_head
other_passes xml10 b = λ p. p
other_passes xml11 b = pick_both Passes (eqb b 0xC2 || eqb b 0xE2) {a = head (stop (kept b)) 0} {b = head (copy b) 0} (λ p. p) (λ p. p)

pub attribute_passes : (r : Rule) → BarsNothing (attribute_head r)
unfolding attribute_head
attribute_passes r offset b bs =
    pick_both Passes (eqb b 38) (reference_passes offset bs (name_at false bs))
    (pick_both Passes (eqb b 9) {a = head (stop space) 0} (λ p. p) (space_passes (line_end r (b ∷ bs)) (other_head r b) (other_passes r b)))

pub past_passes : BarsNothing past_head
unfolding past_head
past_passes offset b bs =
    pick_both Passes (eqb b 38) (reference_passes offset bs (name_at false bs))
    (pick_both Passes (eqb b 9 || eqb b 10 || eqb b 13) {a = head (stop space) 0} {b = head (copy b) 0} (λ p. p) (λ p. p))

pub inner_passes : (past : Bool) (r : Rule) → BarsNothing (inner_head past r)
unfolding inner_head
inner_passes false r = attribute_passes r
inner_passes true r = past_passes
