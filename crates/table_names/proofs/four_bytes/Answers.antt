-- `four_bytes`: no number where the text is too short, where a byte after the first is no tail, or where the form is overlong (`four_low`); else
-- the one of all four (`four_some`).
use mathlib.Core.Path.{refl, sym}
use mathlib.Core.Bool.{Bool}
use Prim.Native.Nat.{ℕ, ◌+◌, ◌<◌}
use native.Mathlib.Omega.{arith}
use lib.ListN.{length}
use Rattle.text.specs.Bytes.{pick}
use Rattle.table_names.specs.NameChars.{is_name_start, is_name_char}
use Rattle.table_names.proofs.CharWidths.{size_4}
use Rattle.table_names.proofs.WideNames.{name_scalar, short_width, tail_none, Tails4, tail_some, four_first, four_second, four_third, four_low, four_some}
use Rattle.table_names.proofs.four_bytes.Goals as goal
use Rattle.table_names.proofs.four_bytes.Goals.{Else-text-i-lt4, In_ok-e}

-- the test of a name start character, or of a name character
abbrev test : Bool → ℕ → Bool
test first = pick first is_name_start is_name_char

long : (c : Else-text-i-lt4) → c.args.i + 3 < length c.args.text.now
long c = omega (arith, c.if-text-i-lt4.false)

tails : (c : In_ok-e) → Tails4 c.args.text.now c.args.i c.in_ok-c.c c.in_ok-d.d c.in_ok-e.e
tails c =
    record { tail_2 = tail_some _ (sym c.in_ok-c.ensures); tail_3 = tail_some _ (sym c.in_ok-d.ensures); tail_4 = tail_some _ (sym c.in_ok-e.ensures) }

-- each adds less than 64
small : (c : In_ok-e) → (c.in_ok-c.c < 64) × (c.in_ok-d.d < 64) × (c.in_ok-e.e < 64)
small c =
    let x = tails c in
    (omega (arith, x.tail_2.adds, x.tail_2.top), omega (arith, x.tail_3.adds, x.tail_3.top), omega (arith, x.tail_4.adds, x.tail_4.top))

pub returns-then-text-i-lt4 : goal.returns-then-text-i-lt4
returns-then-text-i-lt4 c =
    λ first. short_width (test first) (name_scalar first) c.args.text.now c.args.i c.requires.0 (size_4 _ c.requires.1) c.if-text-i-lt4.true

pub returns-in_err-c : goal.returns-in_err-c
returns-in_err-c c =
    λ first. rw c.from_residual.ensures
    (four_first (test first) (name_scalar first) c.args.text.now c.args.i (long (goal.at.returns-in_err-c c).Else-text-i-lt4) c.requires.1
    (tail_none _ (sym c.in_err-c.ensures)))

pub returns-in_err-d : goal.returns-in_err-d
returns-in_err-d c =
    λ first. rw c.from_residual-in_err-d.ensures
    (four_second (test first) (name_scalar first) c.args.text.now c.args.i (long (goal.at.returns-in_err-d c).Else-text-i-lt4) c.requires.1
    (tail_none _ (sym c.in_err-d.ensures)))

pub returns-in_err-e : goal.returns-in_err-e
returns-in_err-e c =
    λ first. rw c.from_residual-in_err-e.ensures
    (four_third (test first) (name_scalar first) c.args.text.now c.args.i (long (goal.at.returns-in_err-e c).Else-text-i-lt4) c.requires.1
    (tail_none _ (sym c.in_err-e.ensures)))

pub overflow_add-number : goal.overflow_add-number
overflow_add-number c = omega (arith, small (goal.at.overflow_add-number c).In_ok-e, c.from.ensures, c.requires.2)

pub overflow_mul-number-2 : goal.overflow_mul-number-2
overflow_mul-number-2 c = omega (arith, small (goal.at.overflow_mul-number-2 c).In_ok-e, c.from.ensures, c.requires.2)

pub overflow_add-number-2 : goal.overflow_add-number-2
overflow_add-number-2 c = omega (arith, small (goal.at.overflow_add-number-2 c).In_ok-e, c.from.ensures, c.requires.2)

pub overflow_mul-number-3 : goal.overflow_mul-number-3
overflow_mul-number-3 c = omega (arith, small (goal.at.overflow_mul-number-3 c).In_ok-e, c.from.ensures, c.requires.2)

pub overflow_add-number-3 : goal.overflow_add-number-3
overflow_add-number-3 c = omega (arith, small (goal.at.overflow_add-number-3 c).In_ok-e, c.from.ensures, c.requires.2)

pub returns-then-number-lt65536 : goal.returns-then-number-lt65536
returns-then-number-lt65536 c =
    let at = goal.at.returns-then-number-lt65536 c in
    let x = tails at.In_ok-e in
    λ first. four_low (test first) (name_scalar first) c.args.text.now c.args.i (long at.Else-text-i-lt4) c.requires.1 x
    (omega (arith, x.tail_2.adds, x.tail_3.adds, x.tail_4.adds, c.from.ensures)) c.if-number-lt65536.true

pub returns : goal.returns
returns c =
    let at = goal.at.returns c in
    let x = tails at.In_ok-e in
    λ first. four_some (test first) (name_scalar first) c.args.text.now c.args.i (long at.Else-text-i-lt4) c.requires.1 x
    (omega (arith, x.tail_2.adds, x.tail_3.adds, x.tail_4.adds, c.from.ensures)) c.if-number-lt65536.false refl
