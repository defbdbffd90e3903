-- What fits is written, else nothing: a value in a buffer (`fitted_piece`, `fitted_level`, `fitted_again`), and what is added to any value
-- of a length (`adds_byte`, `adds_piece`, `adds_nothing`, `adds_none`). Assumes nothing.
use mathlib.Core.Path.{◌≡◌, refl, sym, ap, subst, ◌∙◌}
use mathlib.Core.Bool.{Bool, true, false}
use mathlib.Core.List.{List, [], ◌∷◌, ◌++◌, append-nil}
use Prim.Native.Nat.{ℕ, ◌+◌, ◌-◌, ◌≤◌, ◌<◌, min}
use native.Mathlib.Omega.{arith}
use lib.Dec.{ltb}
use lib.ListN.{length, take, drop, set, length-append, length-drop, length-set}
use lib.Seq.{length-take-le}
use borrow.Author.Tests.{ltb-true, ltb-false}
use borrow.Rule.Slice.PartMut.{mid_of, put_mid}
use Rattle.text.specs.Call.{laid}
use Rattle.output.specs.Over.{over}
use Rattle.output.proofs.Laid.{rest_part, rest_put, laid_length, laid_more, laid_byte}
use Rattle.output.proofs.Clip.{over_fits}
use Rattle.memory.specs.Levels.{Fitted, Adds}

pub fitted_start : (whole : List ℕ) → Fitted [] whole whole
fitted_start whole = record { size = refl; holds = λ h. refl }

-- what is longer than the buffer is not asked for
pub fitted_long : {value whole out : List ℕ} → length whole < length value → length out ≡ length whole → Fitted value whole out
fitted_long h e = record { size = e; holds = λ g. absurd (omega (arith, h, g)) }

empty_of : (l : List ℕ) → length l ≡ 0 → l ≡ []
empty_of [] e = refl
empty_of (b ∷ bs) e = absurd (omega (arith, e))

module _ {value whole out : List ℕ} (f : Fitted value whole out) where
  -- where the buffer is full, nothing more is written
  pub fitted_full : (more : List ℕ) → length out ≤ length value → Fitted (value ++ more) whole out
  fitted_full more h =
      record {
        size = f.size;
        holds = λ g.
            let n = length-append value more in
            let none : more ≡ [] = empty_of more (omega (arith, h, g, n, f.size)) in
            f.holds (omega (arith, g, n)) ∙ ap (λ (l : List ℕ). laid l whole) (sym (append-nil value) ∙ ap (λ (l : List ℕ). value ++ l) (sym none));
      }

  -- nor where the piece does not fit
  pub fitted_none : (more : List ℕ) → length out < length value + length more → Fitted (value ++ more) whole out
  fitted_none more h = fitted_long (rw length-append (omega (arith, h, f.size))) f.size

  -- a piece that fits, by a call that is lent the rest of the buffer
  pub fitted_piece : (more : List ℕ) {len : ℕ} {part : List ℕ} → length value ≡ len → length value + length more ≤ length out
      → part ≡ laid more (mid_of len (length out - len) out) → Fitted (value ++ more) whole (put_mid len (length out - len) out part)
  fitted_piece more {len} {part} q h p =
      let e = f.holds (omega (arith, h, f.size)) in
      let r = laid_more value more whole e (sym q) p in
      record {
        size = ap length r ∙ laid_length (value ++ more) whole (rw length-append (omega (arith, h, f.size)));
        holds = λ g. r;
      }

  -- one byte, where there is room for it
  pub fitted_byte : (b : ℕ) {len : ℕ} → length value ≡ len → len < length out → Fitted (value ++ (b ∷ [])) whole (set out len b)
  fitted_byte b {len} q h =
      let e = f.holds (omega (arith, q, h, f.size)) in
      let r : set out len b ≡ laid (value ++ (b ∷ [])) whole =
      ap (λ (l : List ℕ). set l len b) e ∙ ap (λ (k : ℕ). set (laid value whole) k b) (sym q) ∙ laid_byte value whole b (omega (arith, q, h, f.size)) in
      record {
        size = ap length r ∙ laid_length (value ++ (b ∷ [])) whole (rw length-append (omega (arith, q, h, f.size)));
        holds = λ g. r;
      }

  -- by a level that is lent the rest of the buffer, from the place or, if that is less, its end on
  pub fitted_level : (more : List ℕ) {len w : ℕ} {part : List ℕ} → length value ≡ len → w ≡ min len (length out)
      → Fitted more (mid_of w (length out - w) out) part → Fitted (value ++ more) whole (put_mid w (length out - w) out part)
  fitted_level more {len} {w} {part} q least g =
      record { size = same; holds = λ h. whole_fits h }
    where
      mid : mid_of w (length out - w) out ≡ drop w out
      mid = rest_part w out

      part_size : length part ≡ length out - w
      part_size = g.size ∙ ap length mid ∙ length-drop w out

      same : length (put_mid w (length out - w) out part) ≡ length whole
      same =
          ap length (rest_put w out part)
          ∙ length-append (take w out) part
          ∙ omega (arith, length-take-le w out (omega (arith, least)), part_size, least, f.size)

      whole_fits : length (value ++ more) ≤ length whole → put_mid w (length out - w) out part ≡ laid (value ++ more) whole
      whole_fits h =
          let n = length-append value more in
          let at : w ≡ length value = omega (arith, least, q, n, h, f.size) in
          let e = f.holds (omega (arith, h, n)) in
          let room : length more ≤ length (mid_of w (length out - w) out) = rw (ap length mid ∙ length-drop w out) (omega (arith, at, n, h, f.size)) in
          laid_more value more whole e at (g.holds room)

  -- a part of the value again, by a call that says so of what lies over the buffer
  pub fitted_again : (from count : ℕ) {len : ℕ} {new : List ℕ} → length value ≡ len → from + count ≤ len → len + count ≤ length out → length new ≡ length out
      → ((v w : List ℕ) → out ≡ over v w → length v ≡ len → new ≡ over (v ++ take count (drop from v)) w)
      → Fitted (value ++ take count (drop from value)) whole new
  fitted_again from count {len} {new} q inside h size says =
      let e = f.holds (omega (arith, q, h, f.size)) in
      let k : length (take count (drop from value)) ≡ count = length-take-le count (drop from value) (rw length-drop (omega (arith, q, inside))) in
      let room : length (value ++ take count (drop from value)) ≤ length whole = rw (length-append, k) (omega (arith, q, h, f.size)) in
      record {
        size = size ∙ f.size;
        holds = λ g.
            says value whole (e ∙ sym (over_fits value whole (omega (arith, q, h, f.size)))) q
            ∙ over_fits (value ++ take count (drop from value)) whole g;
      }

-- ---- bytes that are added after any value of a length

-- by a call that writes one byte where the buffer reaches it
pub adds_byte : (b len : ℕ) (old : List ℕ) → Adds (b ∷ []) len old (set old len b)
adds_byte b len old =
    record { buffer = length-set old len b; fits = λ value whole q f. go value whole q f (ltb len (length old)) refl }
  where
    go : (value whole : List ℕ) → length value ≡ len → Fitted value whole old → (t : Bool) → ltb len (length old) ≡ t
        → Fitted (value ++ (b ∷ [])) whole (set old len b)
    go value whole q f true t = fitted_byte f b q (ltb-true len (length old) t)
    go value whole q f false t =
        let full = ltb-false len (length old) t in
        fitted_long (rw length-append (omega (arith, full, q, f.size))) (length-set old len b ∙ f.size)

-- by a call that is lent the rest of the buffer, where they fit
pub adds_piece : (more : List ℕ) {len : ℕ} {old part : List ℕ} → len + length more ≤ length old → part ≡ laid more (mid_of len (length old - len) old)
    → Adds more len old (put_mid len (length old - len) old part)
adds_piece more {len} {old} {part} h p =
    record {
      buffer =
          ap length (rest_put len old part)
          ∙ length-append (take len old) part
          ∙ omega (arith, length-take-le len old (omega (arith, h)), part_size, h);
      fits = λ value whole q f. fitted_piece f more q (omega (arith, q, h)) p;
    }
  where
    rest : length (mid_of len (length old - len) old) ≡ length old - len
    rest = ap length (rest_part len old) ∙ length-drop len old

    part_size : length part ≡ length old - len
    part_size = ap length p ∙ laid_length more (mid_of len (length old - len) old) (omega (arith, rest, h)) ∙ rest

-- no bytes at all
pub adds_nothing : (len : ℕ) (old : List ℕ) → Adds [] len old old
adds_nothing len old =
    record { buffer = refl; fits = λ value whole q f. subst (λ (x : List ℕ). Fitted x whole old) (sym (append-nil value)) f }

-- nothing is written where they do not fit
pub adds_none : (more : List ℕ) (len : ℕ) (old : List ℕ) → length old < len + length more → Adds more len old old
adds_none more len old h = record { buffer = refl; fits = λ value whole q f. fitted_none f more (omega (arith, q, h)) }
