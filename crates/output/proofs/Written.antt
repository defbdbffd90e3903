-- A writer's place: the first `at` bytes of a value lie in the output, and `rest` of it is still to come. Assumes nothing.
use mathlib.Core.Path.{◌≡◌, refl, sym, ap, ◌∙◌}
use mathlib.Core.List.{List, [], ◌∷◌, ◌++◌}
use Prim.Native.Nat.{ℕ, ◌+◌, ◌-◌, ◌≤◌, ◌<◌}
use native.Mathlib.Omega.{arith}
use lib.ListN.{length, take, drop, set, length-append, length-drop, length-take}
use lib.Seq.{length-take-le, take-add, drop-drop, take-append_seam, drop-append_seam, take-length}
use borrow.Rule.Slice.PartMut.{mid_of, put_mid}
use Rattle.text.specs.Call.{laid}
use Rattle.output.proofs.Laid.{laid_more, laid_byte, laid_length}

pub record Written (whole rest old out : List ℕ) (at : ℕ) : Type 0 where
  pub fits : at ≤ length whole
  pub holds : out ≡ laid (take at whole) old
  pub left : drop at whole ≡ rest

pub written_start : (whole old : List ℕ) → Written whole whole old old 0
written_start whole old = record { fits = omega arith; holds = refl; left = refl }

module _ {whole rest old out : List ℕ} {at : ℕ} (w : Written whole rest old out at) where
  -- how much is still to come
  pub to_come : at + length rest ≡ length whole
  to_come = omega (arith, ap length w.left, length-drop at whole, w.fits)

  -- the output keeps its length
  pub same_length : length whole ≤ length old → length out ≡ length old
  same_length h =
      ap length w.holds
      ∙ laid_length (take at whole) old (rw (length-take-le at whole w.fits) (omega (arith, w.fits)))

grown : (whole piece rest : List ℕ) (at : ℕ) → drop at whole ≡ piece ++ rest
    → (take (at + length piece) whole ≡ take at whole ++ piece) × (drop (at + length piece) whole ≡ rest)
grown whole piece rest at e = (
  take-add at (length piece) whole ∙ ap (λ (l : List ℕ). take at whole ++ l) (ap (take (length piece)) e ∙ take-append_seam piece rest),
  sym (drop-drop (length piece) at whole) ∙ ap (drop (length piece)) e ∙ drop-append_seam piece rest,
)

-- a piece more, by a call that is lent the rest of the output
pub written_more : {whole rest old out : List ℕ} (piece : List ℕ) {at : ℕ} {part : List ℕ}
    → Written whole (piece ++ rest) old out at → part ≡ laid piece (mid_of at (length out - at) out)
    → Written whole rest old (put_mid at (length out - at) out part) (at + length piece)
written_more {whole} {rest} {old} piece {at} w p =
    let g = grown whole piece rest at w.left in
    record {
      fits = omega (arith, to_come w, length-append piece rest);
      holds = laid_more (take at whole) piece old w.holds (sym (length-take-le at whole w.fits)) p ∙ ap (λ (l : List ℕ). laid l old) (sym g.0);
      left = g.1;
    }

-- one byte more
pub written_byte : {whole rest old out : List ℕ} (b : ℕ) {at : ℕ} → Written whole (b ∷ rest) old out at → length whole ≤ length old
    → Written whole rest old (set out at b) (at + 1)
written_byte {whole} {rest} {old} {out} b {at} w h =
    let g = grown whole (b ∷ []) rest at w.left in
    let n = length-take-le at whole w.fits in
    record {
      fits = omega (arith, to_come w);
      holds =
          ap (λ (l : List ℕ). set l at b) w.holds
          ∙ ap (λ (k : ℕ). set (laid (take at whole) old) k b) (sym n)
          ∙ laid_byte (take at whole) old b (rw n (omega (arith, to_come w)))
          ∙ ap (λ (l : List ℕ). laid l old) (sym g.0);
      left = g.1;
    }

-- nothing is left to come: all of it is written
pub written_all : {whole old out : List ℕ} {at : ℕ} → Written whole [] old out at → at ≡ length whole
written_all w = omega (arith, to_come w)

pub written_end : {whole old out : List ℕ} {at : ℕ} → Written whole [] old out at → out ≡ laid whole old
written_end {whole} {old} {out} {at} w =
    let q : at ≡ length whole = omega (arith, to_come w) in
    w.holds ∙ ap (λ (l : List ℕ). laid l old) (ap (λ (k : ℕ). take k whole) q ∙ take-length whole)

-- the same place with the rest said otherwise
pub written_as : {whole rest more old out : List ℕ} {at : ℕ} → rest ≡ more → Written whole rest old out at → Written whole more old out at
written_as e w = record { fits = w.fits; holds = w.holds; left = w.left ∙ e }

-- there is room for the next piece, and for the next byte
pub piece_room : {whole old out : List ℕ} (piece rest : List ℕ) {at : ℕ} → Written whole (piece ++ rest) old out at → length whole ≤ length old
    → length piece ≤ length (mid_of at (length out - at) out)
piece_room piece rest w h =
    simp (length-take, length-drop) (omega (arith, to_come w, same_length w h, length-append piece rest))

pub byte_room : {whole rest old out : List ℕ} {b : ℕ} {at : ℕ} → Written whole (b ∷ rest) old out at → length whole ≤ length old → at < length out
byte_room w h = omega (arith, to_come w, same_length w h)
