-- `raw_hand`: the bytes at the end tell how many of them are the character (`Back`). Assumes nothing.
use mathlib.Core.Path.{sym, ap}
use native.Mathlib.Omega.{arith}
use Rattle.canonical.specs.LastCharacter.{filled_up}
use Rattle.canonical.proofs.LastCharacter.{Back, seen, back_some, back_one, more_than_1, back_two, more_than_2, back_three, more_than_3, back_four}
use Rattle.canonical.proofs.raw_hand.Goals as goal
use Rattle.canonical.proofs.raw_hand.Goals.{Start}

there : (s : Start) → Back s.args.form.now s.requires.char
there s = seen s.args.form.now s.requires.front s.requires.single s.requires.is

pub overflow_sub-d : goal.overflow_sub-d
overflow_sub-d c = back_some (there (goal.at.overflow_sub-d c).Start)

pub bounds-form-n : goal.bounds-form-n
bounds-form-n c = omega (arith, back_some (there (goal.at.bounds-form-n c).Start))

pub returns-then-d-lt128 : goal.returns-then-d-lt128
unfolding filled_up
returns-then-d-lt128 c front char single is = sym (ap (filled_up 4) (back_one (seen _ front single is) c.if-d-lt128.true))

pub overflow_sub-c : goal.overflow_sub-c
overflow_sub-c c = more_than_1 c.if-d-lt128.false (there (goal.at.overflow_sub-c c).Start)

pub bounds-form-n-2 : goal.bounds-form-n-2
bounds-form-n-2 c = omega (arith, more_than_1 c.if-d-lt128.false (there (goal.at.bounds-form-n-2 c).Start))

pub returns-then-c-ge192 : goal.returns-then-c-ge192
unfolding filled_up
returns-then-c-ge192 c front char single is =
    sym (ap (filled_up 4) (back_two c.if-d-lt128.false (seen _ front single is) c.if-c-ge192.true))

pub overflow_sub-b : goal.overflow_sub-b
overflow_sub-b c = more_than_2 c.if-d-lt128.false c.if-c-ge192.false (there (goal.at.overflow_sub-b c).Start)

pub bounds-form-n-3 : goal.bounds-form-n-3
bounds-form-n-3 c =
    omega (arith, more_than_2 c.if-d-lt128.false c.if-c-ge192.false (there (goal.at.bounds-form-n-3 c).Start))

pub returns-then-b-ge192 : goal.returns-then-b-ge192
unfolding filled_up
returns-then-b-ge192 c front char single is =
    sym (ap (filled_up 4) (back_three c.if-d-lt128.false c.if-c-ge192.false (seen _ front single is) c.if-b-ge192.true))

pub overflow_sub-result : goal.overflow_sub-result
overflow_sub-result c = more_than_3 c.if-d-lt128.false c.if-c-ge192.false c.if-b-ge192.false (there (goal.at.overflow_sub-result c).Start)

pub bounds-form-n-4 : goal.bounds-form-n-4
bounds-form-n-4 c =
    omega (arith, more_than_3 c.if-d-lt128.false c.if-c-ge192.false c.if-b-ge192.false (there (goal.at.bounds-form-n-4 c).Start))

pub returns : goal.returns
unfolding filled_up
returns c front char single is =
    sym (ap (filled_up 4) (back_four c.if-d-lt128.false c.if-c-ge192.false c.if-b-ge192.false (seen _ front single is)))
