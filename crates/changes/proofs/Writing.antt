-- Bytes as the code writes them: an entry (`entry_laid`), and those behind a gap that is closed (`gap_laid`). Assumes nothing.
use mathlib.Core.Path.{◌≡◌, refl}
use Prim.Native.Nat.{ℕ, ◌-◌}
use Rattle.std.proofs.Common.{zero-add, length-drop}
use Rattle.std.proofs.lemmas.List.{take_rest}
use Rattle.std.specs.List.{copy_within}
use mathlib.Core.List.{List, ◌++◌}
use lib.ListN.{length, drop}
use borrow.Rule.Slice.PartMut.{mid_of, put_mid}
use Rattle.text.specs.Call.{laid}
use Rattle.register.specs.Entries.{entry}
use Rattle.register.specs.Stored.{u32, entry_bytes}
use Rattle.output.proofs.Laid.{laid_more}

pub entry_laid : (form old : List ℕ) {first second third : List ℕ} → first ≡ laid (u32 (length form)) old → second ≡ laid (u32 1) (mid_of 4 (length first - 4) first)
    → third ≡ laid form (mid_of 8 (length (put_mid 4 (length first - 4) first second) - 8) (put_mid 4 (length first - 4) first second))
    → put_mid 8 (length (put_mid 4 (length first - 4) first second) - 8) (put_mid 4 (length first - 4) first second) third ≡ laid (entry_bytes (entry form 1)) old
unfolding entry_bytes u32
entry_laid form old p q r = laid_more (u32 (length form) ++ u32 1) form old (laid_more (u32 (length form)) (u32 1) old p refl q) refl r

-- what lies from `gap` on, moved to the start
pub gap_laid : (part : List ℕ) (gap : ℕ) → copy_within part gap (length part) 0 ≡ laid (drop gap part) part
gap_laid part gap = simp (zero-add, take_rest {X = ℕ}, length-drop {A = ℕ})
