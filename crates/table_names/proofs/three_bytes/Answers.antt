-- `three_bytes`: no number where the text is too short, where a byte after the first is no tail, or where the form is overlong (`three_low`); else
-- the one of all three (`three_some`).
use mathlib.Core.Path.{refl, sym}
use mathlib.Core.Bool.{Bool}
use Prim.Native.Nat.{ℕ, ◌+◌, ◌<◌}
use native.Mathlib.Omega.{arith}
use lib.ListN.{length}
use Rattle.text.specs.Bytes.{pick}
use Rattle.table_names.specs.NameChars.{is_name_start, is_name_char}
use Rattle.table_names.proofs.CharWidths.{size_3}
use Rattle.table_names.proofs.WideNames.{name_scalar, short_width, tail_none, Tails3, tail_some, three_first, three_second, three_low, three_some}
use Rattle.table_names.proofs.three_bytes.Goals as goal
use Rattle.table_names.proofs.three_bytes.Goals.{Else-text-i-lt3, In_ok-d}

-- the test of a name start character, or of a name character
abbrev test : Bool → ℕ → Bool
test first = pick first is_name_start is_name_char

long : (c : Else-text-i-lt3) → c.args.i + 2 < length c.args.text.now
long c = omega (arith, c.if-text-i-lt3.false)

tails : (c : In_ok-d) → Tails3 c.args.text.now c.args.i c.in_ok-c.c c.in_ok-d.d
tails c = record { tail_2 = tail_some _ (sym c.in_ok-c.ensures); tail_3 = tail_some _ (sym c.in_ok-d.ensures) }

-- each adds less than 64
small : (c : In_ok-d) → (c.in_ok-c.c < 64) × (c.in_ok-d.d < 64)
small c =
    let x = tails c in
    (omega (arith, x.tail_2.adds, x.tail_2.top), omega (arith, x.tail_3.adds, x.tail_3.top))

pub returns-then-text-i-lt3 : goal.returns-then-text-i-lt3
returns-then-text-i-lt3 c =
    λ first. short_width (test first) (name_scalar first) c.args.text.now c.args.i c.requires.0
    (size_3 _ c.requires.1 c.requires.2) c.if-text-i-lt3.true

pub returns-in_err-c : goal.returns-in_err-c
returns-in_err-c c =
    λ first. rw c.from_residual.ensures
    (three_first (test first) (name_scalar first) c.args.text.now c.args.i (long (goal.at.returns-in_err-c c).Else-text-i-lt3) c.requires.1 c.requires.2
    (tail_none _ (sym c.in_err-c.ensures)))

pub returns-in_err-d : goal.returns-in_err-d
returns-in_err-d c =
    λ first. rw c.from_residual-in_err-d.ensures
    (three_second (test first) (name_scalar first) c.args.text.now c.args.i (long (goal.at.returns-in_err-d c).Else-text-i-lt3) c.requires.1 c.requires.2
    (tail_none _ (sym c.in_err-d.ensures)))

pub overflow_add-number : goal.overflow_add-number
overflow_add-number c = omega (arith, small (goal.at.overflow_add-number c).In_ok-d, c.from.ensures, c.requires.2)

pub overflow_mul-number-2 : goal.overflow_mul-number-2
overflow_mul-number-2 c = omega (arith, small (goal.at.overflow_mul-number-2 c).In_ok-d, c.from.ensures, c.requires.2)

pub overflow_add-number-2 : goal.overflow_add-number-2
overflow_add-number-2 c = omega (arith, small (goal.at.overflow_add-number-2 c).In_ok-d, c.from.ensures, c.requires.2)

pub returns-then-number-lt2048 : goal.returns-then-number-lt2048
returns-then-number-lt2048 c =
    let at = goal.at.returns-then-number-lt2048 c in
    let x = tails at.In_ok-d in
    λ first. three_low (test first) (name_scalar first) c.args.text.now c.args.i (long at.Else-text-i-lt3) c.requires.1 c.requires.2 x
    (omega (arith, x.tail_2.adds, x.tail_3.adds, c.from.ensures)) c.if-number-lt2048.true

pub returns : goal.returns
returns c =
    let at = goal.at.returns c in
    let x = tails at.In_ok-d in
    λ first. three_some (test first) (name_scalar first) c.args.text.now c.args.i (long at.Else-text-i-lt3) c.requires.1 c.requires.2 x
    (omega (arith, x.tail_2.adds, x.tail_3.adds, c.from.ensures)) c.if-number-lt2048.false refl
