-- `two_bytes`: no number where the text is too short (`short_width`) or the second byte is no tail (`two_broken`), else the one of both (`two_some`).
use mathlib.Core.Path.{refl, sym}
use mathlib.Core.Bool.{Bool}
use Prim.Native.Nat.{ℕ, ◌+◌, ◌<◌}
use native.Mathlib.Omega.{arith}
use lib.ListN.{length, get_or}
use Rattle.text.specs.Bytes.{pick}
use Rattle.table_names.specs.NameChars.{is_name_start, is_name_char}
use Rattle.table_names.proofs.CharWidths.{size_2}
use Rattle.table_names.proofs.WideNames.{name_scalar, short_width, tail_none, TailIs, tail_some, two_broken, two_some}
use Rattle.table_names.proofs.two_bytes.Goals as goal
use Rattle.table_names.proofs.two_bytes.Goals.{Else-text-i-lt2, In_ok-c}

-- the test of a name start character, or of a name character
abbrev test : Bool → ℕ → Bool
test first = pick first is_name_start is_name_char

long : (c : Else-text-i-lt2) → c.args.i + 1 < length c.args.text.now
long c = omega (arith, c.if-text-i-lt2.false)

tail : (c : In_ok-c) → TailIs (get_or c.args.text.now (c.args.i + 1) 0) c.in_ok-c.c
tail c = tail_some _ (sym c.in_ok-c.ensures)

pub returns-then-text-i-lt2 : goal.returns-then-text-i-lt2
returns-then-text-i-lt2 c =
    λ first. short_width (test first) (name_scalar first) c.args.text.now c.args.i c.requires.0
    (size_2 _ (omega (arith, c.requires.1)) c.requires.2) c.if-text-i-lt2.true

pub returns-in_err-c : goal.returns-in_err-c
returns-in_err-c c =
    λ first. rw c.from_residual.ensures
    (two_broken (test first) (name_scalar first) c.args.text.now c.args.i (long (goal.at.returns-in_err-c c).Else-text-i-lt2) c.requires.1 c.requires.2
    (tail_none _ (sym c.in_err-c.ensures)))

pub overflow_add-result : goal.overflow_add-result
overflow_add-result c =
    let x = tail (goal.at.overflow_add-result c).In_ok-c in
    omega (arith, x.adds, x.top, c.from.ensures, c.requires.2)

pub returns : goal.returns
returns c =
    let at = goal.at.returns c in
    let x = tail at.In_ok-c in
    λ first. sym (two_some (test first) (name_scalar first) c.args.text.now c.args.i (long at.Else-text-i-lt2) c.requires.1 c.requires.2
    x.tail (omega (arith, x.adds, c.from.ensures)) refl)
