-- Writers of a value that copies runs without stops as they stand: what is written while they go on (`Writing`: `writing_run`,
-- `writing_piece`, `writing_done`). Assumes nothing.
use mathlib.Core.Path.{◌≡◌, ap, ◌∙◌}
use mathlib.Core.Bool.{Bool}
use mathlib.Core.List.{List, [], ◌++◌}
use Prim.Native.Nat.{ℕ, ◌+◌, ◌-◌, ◌≤◌}
use native.Mathlib.Omega.{arith}
use lib.ListN.{length, take, drop, length-append, length-drop}
use lib.Seq.{length-take-le}
use borrow.Rule.Slice.PartMut.{mid_of, put_mid}
use Rattle.output.specs.Runs.{Plain, Copied, Room}
use Rattle.output.proofs.Laid.{rest_part}
use Rattle.text.specs.Call.{laid}
use Rattle.output.proofs.Written.{Written, written_start, written_as, written_more, written_all, written_end, piece_room, to_come, same_length}
use Rattle.output.proofs.Runs.{plain_shift}

-- the value of a text's rest starts with the run that the rest starts with
abbrev pub Copies : (ℕ → Bool) → (List ℕ → List ℕ) → Type 0
Copies stop value = (t : List ℕ) (i n : ℕ) → Plain stop t i (i + n) → value (drop i t) ≡ take n (drop i t) ++ value (drop (i + n) t)

module _ (stop : ℕ → Bool) (value : List ℕ → List ℕ) (copies : Copies stop value) where
  run_size : (t : List ℕ) (i n : ℕ) → Plain stop t i (i + n) → length (take n (drop i t)) ≡ n
  run_size t i n p = length-take-le n (drop i t) (rw (length-drop i t) (omega (arith, p.to)))

  -- what a run adds
  pub run_length : (t : List ℕ) (i n : ℕ) → Plain stop t i (i + n) → length (value (drop i t)) ≡ n + length (value (drop (i + n) t))
  run_length t i n p = ap length (copies t i n p) ∙ rw (length-append, run_size t i n p)

  -- where there is room for the value there is room for the runs at the start
  pub value_room : (t out : List ℕ) → length (value t) ≤ length out → Room stop t out
  value_room t out h e p =
      let q : 0 + e ≡ e = omega arith in
      omega (arith, h, run_length t 0 e (rw q p))

  module _ (t : List ℕ) (i : ℕ) {whole old out : List ℕ} {at : ℕ} (w : Written whole (value (drop i t)) old out at) where
    pub rest_room : length whole ≤ length old → Room stop (mid_of i (length t - i) t) (mid_of at (length out - at) out)
    rest_room h =
        value_room (mid_of i (length t - i) t) (mid_of at (length out - at) out)
        (rw (rest_part i t, rest_part at out, length-drop at out) (omega (arith, h, to_come w, same_length w h)))

    -- a run that was copied from the rest of the text into the rest of the output
    module _ {n : ℕ} {part : List ℕ} (h : i ≤ length t) (c : Copied stop (mid_of i (length t - i) t) (mid_of at (length out - at) out) part n) where
      pub rest_run : Plain stop t i (i + n)
      rest_run = plain_shift stop t i n h (rw (rest_part i t) at c.run)

      pub run_written : Written whole (value (drop (i + n) t)) old (put_mid at (length out - at) out part) (at + n)
      run_written =
          rw (run_size t i n rest_run) at
          (written_more (take n (drop i t)) (written_as (copies t i n rest_run) w) (rw (rest_part i t) at c.holds))

-- ---- a writer's loop: the value of the first `i` bytes lies in the output, which has room for the value of all

pub record Writing (value : List ℕ → List ℕ) (t old out : List ℕ) (at i : ℕ) : Type 0 where
  pub to : i ≤ length t
  pub written : Written (value t) (value (drop i t)) old out at
  pub room : length (value t) ≤ length old

pub writing_start : (value : List ℕ → List ℕ) (t old : List ℕ) → length (value t) ≤ length old → Writing value t old old 0 0
writing_start value t old h = record { to = omega arith; written = written_start (value t) old; room = h }

module _ {value : List ℕ → List ℕ} {t old out : List ℕ} {at i : ℕ} (w : Writing value t old out at i) where
  pub writing_length : length out ≡ length old
  writing_length = same_length w.written w.room

  -- the place in the output, as long as it was
  pub writing_old : at ≤ length old
  writing_old = omega (arith, to_come w.written, w.room)

  pub writing_inside : at ≤ length out
  writing_inside = omega (arith, writing_old, writing_length)

  -- nothing is left to write
  pub writing_done : value (drop i t) ≡ [] → (at ≡ length (value t)) × (out ≡ laid (value t) old)
  writing_done e = let all = written_as e w.written in (written_all all, written_end all)

  -- a piece, of so many bytes of the text
  module _ (piece : List ℕ) (n : ℕ) (e : value (drop i t) ≡ piece ++ value (drop (i + n) t)) where
    pub piece_fits : length piece ≤ length (mid_of at (length out - at) out)
    piece_fits = piece_room piece (value (drop (i + n) t)) (written_as e w.written) w.room

    pub writing_piece : {m : ℕ} {part : List ℕ} → i + n ≤ length t → m ≡ length piece → part ≡ laid piece (mid_of at (length out - at) out)
        → Writing value t old (put_mid at (length out - at) out part) (at + m) (i + n)
    writing_piece h q d = record { to = h; written = rw q (written_more piece (written_as e w.written) d); room = w.room }

-- a run, copied from the rest of the text into the rest of the output
module _ {stop : ℕ → Bool} {value : List ℕ → List ℕ} (copies : Copies stop value) {t old out : List ℕ} {at i : ℕ} (w : Writing value t old out at i) where
  pub run_room : Room stop (mid_of i (length t - i) t) (mid_of at (length out - at) out)
  run_room = rest_room stop value copies t i w.written w.room

  pub writing_run : {n : ℕ} {part : List ℕ} → Copied stop (mid_of i (length t - i) t) (mid_of at (length out - at) out) part n
      → Writing value t old (put_mid at (length out - at) out part) (at + n) (i + n)
  writing_run c =
      record {
        to = (rest_run stop value copies t i w.written w.to c).to;
        written = run_written stop value copies t i w.written w.to c;
        room = w.room;
      }
