-- A value copied by blocks of 16 bytes: what the loop keeps (`Holding`), a block more (`holding_next`), and the last one, which may overlap with
-- the one before it (`holding_end`). Assumes nothing.
use mathlib.Core.Path.{◌≡◌, refl, ap, ◌∙◌}
use mathlib.Core.List.{List}
use Prim.Native.Nat.{ℕ, ◌+◌, ◌-◌, ◌≤◌, ◌<◌}
use native.Mathlib.Omega.{arith}
use lib.ListN.{length, take, drop, length-drop}
use lib.Seq.{length-take-le}
use borrow.Rule.Slice.PartMut.{mid_of, put_mid}
use Rattle.text.specs.Call.{laid}
use Rattle.output.proofs.Laid.{laid_length, rest_part, laid_part, laid_ends}

-- the first i bytes are there, and the last block starts at `last`
pub record Holding (src old out : List ℕ) (last i : ℕ) : Type 0 where
  pub to : i ≤ length src
  pub ends : last + 16 ≡ length src
  pub holds : out ≡ laid (take i src) old
  pub size : length out ≡ length old

pub holding_start : (src old : List ℕ) → 16 ≤ length src → Holding src old old (length src - 16) 0
holding_start src old h = record { to = omega arith; ends = omega (arith, h); holds = refl; size = refl }

module _ {src old out : List ℕ} {last i : ℕ} (l : Holding src old out last i) (room : length src ≤ length old) where
  -- what a block is asked, there and in the output
  pub holding_block : (at e : ℕ) → e ≡ at + 16 → e ≤ length src → length (mid_of at (e - at) src) ≡ 16
  holding_block at e q h =
      length-take-le (e - at) (drop at src) (rw length-drop (omega (arith, q, h))) ∙ omega (arith, q)

  pub holding_room : (at : ℕ) → at + 16 ≤ length src → 16 ≤ length (mid_of at (length out - at) out)
  holding_room at h = rw (ap length (rest_part at out) ∙ length-drop at out) (omega (arith, h, room, l.size))

  pub holding_next : {part : List ℕ} → i < last → part ≡ laid (mid_of i (i + 16 - i) src) (mid_of i (length out - i) out)
      → Holding src old (put_mid i (length out - i) out part) last (i + 16)
  holding_next h p =
      let inside : i + 16 ≤ length src = omega (arith, h, l.ends) in
      let holds = laid_part src old i (i + 16) (omega arith) inside l.holds p in
      record {
        to = inside;
        ends = l.ends;
        holds = holds;
        size = ap length holds ∙ laid_length (take (i + 16) src) old (rw (length-take-le (i + 16) src inside) (omega (arith, inside, room)));
      }

  pub holding_end : {part : List ℕ} → last ≤ i → part ≡ laid (mid_of last (length src - last) src) (mid_of last (length out - last) out)
      → put_mid last (length out - last) out part ≡ laid src old
  holding_end h p = laid_ends src old i last h l.to l.holds p
