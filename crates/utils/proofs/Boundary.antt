-- A cursor is outside exactly where the bytes before it are no whole characters; pieces are whole characters. Assumes nothing.
use mathlib.Core.Path.{◌≡◌, refl, sym, ◌∙◌, ap}
use Prim.Native.Nat.{ℕ, suc, ◌≤◌, ◌<◌}
use native.Mathlib.Omega.{arith}
use mathlib.Core.Bool.{Bool, true, false, not}
use mathlib.Core.List.{List}
use lib.ListN.{length, take, drop, get_or, take-append-drop}
use lib.Seq.{drop-cons, take-length}
use lib.Dec.{leb, ltb}
use borrow.Author.Tests.{ltb-true, ltb-false, le-ltb, leb-true}
use Rattle.text.specs.Bytes.{pick, within}
use Rattle.text.specs.Utf8.{State, between, one, two, three, after_e0, after_ed, after_f0, after_f4, broken, first, next, after, is_between, well_formed, WellFormed}
use Rattle.text.proofs.Bytes.{and_left, and_right, inside}
use Rattle.text.proofs.Utf8.{after_append, never_between, testable}
use Rattle.text.proofs.FirstByte.{first_low}
use Rattle.utils.specs.CData.{outside}
use Rattle.utils.proofs.Cuts.{at_end}

module _ (b : ℕ) (bs : List ℕ) where
  -- inside a character the byte is a tail
  tail : (lo hi : ℕ) (s : State) → 0x80 ≤ lo → hi ≤ 0xBF → after (pick (within lo hi b) s broken) bs ≡ between → within 0x80 0xBF b ≡ true
  tail lo hi s g h e = go (within lo hi b) refl e
    where
      go : (w : Bool) → within lo hi b ≡ w → after (pick w s broken) bs ≡ between → within 0x80 0xBF b ≡ true
      go true q e =
          let x : lo ≤ b = leb-true lo b (and_left (leb lo b) (leb b hi) q) in
          let y : b ≤ hi = leb-true b hi (and_right (leb lo b) (leb b hi) q) in
          inside 0x80 0xBF b (omega arith) (omega arith)
      go false q e = absurd (never_between bs e)

  -- between two characters it is none
  none : (w : Bool) → within 0x80 0xBF b ≡ w → after (first b) bs ≡ between → w ≡ false
  none false q e = refl
  none true q e =
      let x : 0x80 ≤ b = leb-true 0x80 b (and_left (leb 0x80 b) (leb b 0xBF) q) in
      let y : b ≤ 0xBF = leb-true b 0xBF (and_right (leb 0x80 b) (leb b 0xBF) q) in
      absurd (never_between bs (ap (λ (s : State). after s bs) (sym (first_low b x (omega arith))) ∙ e))

  tail_inside : (s : State) → after (next s b) bs ≡ between → within 0x80 0xBF b ≡ not (is_between s)
  unfolding next is_between
  tail_inside between e = none (within 0x80 0xBF b) refl e
  tail_inside one e = tail 0x80 0xBF between (omega arith) (omega arith) e
  tail_inside two e = tail 0x80 0xBF one (omega arith) (omega arith) e
  tail_inside three e = tail 0x80 0xBF two (omega arith) (omega arith) e
  tail_inside after_e0 e = tail 0xA0 0xBF one (omega arith) (omega arith) e
  tail_inside after_ed e = tail 0x80 0x9F one (omega arith) (omega arith) e
  tail_inside after_f0 e = tail 0x90 0xBF two (omega arith) (omega arith) e
  tail_inside after_f4 e = tail 0x80 0x8F two (omega arith) (omega arith) e
  tail_inside broken e = absurd (never_between bs e)

-- the byte at the offset, after those before it
at_byte : (t : List ℕ) (o : ℕ) → WellFormed t → o < length t → within 0x80 0xBF (get_or t o 0) ≡ not (well_formed (take o t))
unfolding WellFormed well_formed after
at_byte t o w h =
    tail_inside (get_or t o 0) (drop (suc o) t) (after between (take o t))
    (ap (after (after between (take o t))) (sym (drop-cons t o 0 h)) ∙ sym (after_append between (take o t) (drop o t)) ∙ ap (after between) (take-append-drop o t) ∙ w)

-- 20 is given past the end, and where the bytes before the offset are no whole characters
pub outside_is : (t : List ℕ) (o : ℕ) → WellFormed t → o ≤ length t → outside t o ≡ not (well_formed (take o t))
unfolding outside
outside_is t o w h = go (ltb o (length t)) refl
  where
    go : (v : Bool) → ltb o (length t) ≡ v → outside t o ≡ not (well_formed (take o t))
    go true q = rw (le-ltb (length t) o h) (at_byte t o w (ltb-true o (length t) q))
    go false q =
        let e : o ≡ length t = omega (arith, ltb-false o (length t) q) in
        at_end t o (sym e) ∙ ap not (sym (testable t w) ∙ ap well_formed (sym (take-length t) ∙ ap (λ (n : ℕ). take n t) (sym e)))

-- the start of a text is not outside
pub start_inside : (t : List ℕ) → WellFormed t → outside t 0 ≡ false
unfolding well_formed is_between after
start_inside t w = outside_is t 0 w (omega arith)
