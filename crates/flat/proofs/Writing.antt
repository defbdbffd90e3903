-- Pieces written after a value, as they are or in their canonical form (`writes_plain`, `writes_form`, `writes_own`), where they fit and where
-- they do not (`writes_piece`, `writes_none`), and runs (`run_empty`, `form_most`). Assumes nothing.
use mathlib.Core.Path.{◌≡◌, refl, sym, ap, subst}
use mathlib.Core.Logic.{◌≢◌}
use mathlib.Core.Bool.{Bool}
use mathlib.Core.List.{List, []}
use Prim.Native.Nat.{ℕ, ◌+◌, ◌-◌, ◌*◌, ◌≤◌, ◌<◌}
use native.Mathlib.Omega.{arith}
use lib.Dec.{eqb}
use lib.ListN.{length, take, drop, length-drop}
use borrow.Rule.Slice.PartMut.{mid_of, put_mid}
use Rattle.text.specs.Call.{laid}
use Rattle.output.proofs.Laid.{rest_part}
use Rattle.eols.specs.Stops.{rule_for}
use Rattle.canonical.specs.Canonical.{canonical}
use Rattle.canonical.proofs.Canonical.{canonical_length}
use Rattle.halts.specs.Halts.{blanks_spaced}
use Rattle.halts.proofs.Spaces.{spaced_length}
use Rattle.memory.specs.Slots.{shaped}
use Rattle.memory.proofs.Shaped.{shaped_none, shaped_plain, shaped_form}
use Rattle.memory.proofs.Fitted.{adds_piece, adds_none, adds_nothing}
use Rattle.flat.specs.Between.{Writes}

-- ---- as the value is, or in its canonical form

pub writes_plain : {form : ℕ} → form ≡ 0 → {more old new : List ℕ} {len size : ℕ} → Writes more len old new size → Writes (shaped form more) len old new size
writes_plain e {more} {old} {new} {len} {size} w = subst (λ (x : List ℕ). Writes x len old new size) (sym (shaped_plain e more)) w

pub writes_form : {form : ℕ} → form ≢ 0 → (more : List ℕ) {old new : List ℕ} {len size : ℕ} → Writes (canonical (rule_for (eqb form 2)) more) len old new size
    → Writes (shaped form more) len old new size
writes_form n more {old} {new} {len} {size} w = subst (λ (x : List ℕ). Writes x len old new size) (sym (shaped_form n more)) w

-- what is its own form
pub writes_own : {form more old new : List ℕ} {len size : ℕ} → form ≡ more → Writes more len old new size → Writes form len old new size
writes_own {old = old} {new} {len} {size} e w = subst (λ (x : List ℕ). Writes x len old new size) (sym e) w

pub writes_nothing : (form len : ℕ) (old : List ℕ) → Writes (shaped form []) len old old 0
writes_nothing form len old = subst (λ (x : List ℕ). Writes x len old old 0) (sym (shaped_none form)) (refl, adds_nothing len old)

-- ---- a piece, where it fits and where it does not

pub writes_piece : (more : List ℕ) {len size : ℕ} {old part : List ℕ} → size ≡ length more → len + size ≤ length old → part ≡ laid more (mid_of len (length old - len) old)
    → Writes more len old (put_mid len (length old - len) old part) size
writes_piece more n h p = (n, adds_piece more (omega (arith, n, h)) p)

pub writes_none : (more : List ℕ) {len size : ℕ} {old : List ℕ} → size ≡ length more → length old < len + size → Writes more len old old size
writes_none more {len} {size} {old} n h = (n, adds_none more len old (omega (arith, n, h)))

-- ---- runs

pub run_empty : (t : List ℕ) (from to : ℕ) → to - from ≡ 0 → blanks_spaced (take (to - from) (drop from t)) ≡ []
run_empty t from to k = ap (λ (n : ℕ). blanks_spaced (take n (drop from t))) k

-- the form of a run is at most six times as long
pub form_most : (newer : Bool) (run : List ℕ) → length (canonical (rule_for newer) (blanks_spaced run)) ≤ 6 * length run
form_most newer run = omega (arith, (canonical_length (rule_for newer) (blanks_spaced run)).1, spaced_length run)

-- so there is room for it in the rest of the buffer
pub rest_room : (len : ℕ) (old : List ℕ) {n : ℕ} → len + n ≤ length old → n ≤ length (mid_of len (length old - len) old)
rest_room len old {n} h = omega (arith, h, ap length (rest_part len old), length-drop len old)
