-- `char_width` reads a character byte by byte, and leaves at the first byte that does not fit. What is known after each byte is a record
-- of Characters.antt, stated once for its place (`begun`, `second`, `third`); each return is a law on it.
use native.Mathlib.Omega.{arith}
use mathlib.Core.List.{List}
use Prim.Native.Nat.{ℕ}
use Rattle.text.specs.declared.validate.Lead.{Lead}
use Rattle.text.proofs.Bytes.{inside, above, below}
use Rattle.text.proofs.Characters.{char_ascii, Begun, Second, Third, no_first, no_room, two_inside, no_second, char_two, three_inside, no_third, char_three, four_inside, no_fourth, char_four}
use Rattle.text.proofs.validate.char_width.Goals as goal
use Rattle.text.proofs.validate.char_width.Goals.{Else-text-i, Else-width-eq2, Else-width-eq3}

abbrev text : Else-text-i → List ℕ
text c = c.args.text.now

abbrev at : Else-text-i → ℕ
at c = c.args.i

abbrev lead : Else-text-i → Lead
lead c = c.lead_of-lead.result

begun : (c : Else-text-i) → Begun (text c) (at c) (lead c)
begun c = record { leads = c.lead_of-lead.ensures; some = c.if-width-eq0.false; room = c.requires; reach = c.if-text-i.false }

second : (c : Else-width-eq2) → Second (c.args.text.now) (c.args.i) (c.lead_of-lead.result)
second c =
    record { begun = (record { leads = c.lead_of-lead.ensures; some = c.if-width-eq0.false; room = c.requires; reach = c.if-text-i.false }); fits = inside _ _ _ c.if-second-lead.false c.if-lead-second.false; wide = c.if-width-eq2.false }

third : (c : Else-width-eq3) → Third (c.args.text.now) (c.args.i) (c.lead_of-lead.result)
third c =
    record { second = (record { begun = (record { leads = c.lead_of-lead.ensures; some = c.if-width-eq0.false; room = c.requires; reach = c.if-text-i.false }); fits = inside _ _ _ c.if-second-lead.false c.if-lead-second.false; wide = c.if-width-eq2.false }); fits = inside _ _ _ c.if-text-i-lt128.false c.if-text-i-gt191.false; wide = c.if-width-eq3.false }

pub returns-then-b-lt128 : goal.returns-then-b-lt128
returns-then-b-lt128 c =
    char_ascii c.args.text.now c.args.i c.requires c.if-b-lt128.true

pub lead_of-lead-requires : goal.lead_of-lead-requires
lead_of-lead-requires c = c.if-b-lt128.false

pub returns-then-width-eq0 : goal.returns-then-width-eq0
returns-then-width-eq0 c = no_first c.lead_of-lead.ensures c.requires c.if-width-eq0.true

pub overflow_sub-text : goal.overflow_sub-text
overflow_sub-text c = omega (arith, c.requires)

pub returns-then-text-i : goal.returns-then-text-i
returns-then-text-i c = no_room c.lead_of-lead.ensures c.if-width-eq0.false c.requires c.if-text-i.true

pub overflow_add-second : goal.overflow_add-second
overflow_add-second c = omega (arith, two_inside (begun c))

pub bounds-text-i-2 : goal.bounds-text-i-2
bounds-text-i-2 c = two_inside (begun (goal.at.bounds-text-i-2 c).Else-text-i)

pub returns-then-second-lead : goal.returns-then-second-lead
returns-then-second-lead c = no_second (begun (goal.at.returns-then-second-lead c).Else-text-i) (below _ _ _ c.if-second-lead.true)

pub returns-then-lead-second : goal.returns-then-lead-second
returns-then-lead-second c = no_second (begun (goal.at.returns-then-lead-second c).Else-text-i) (above _ _ _ c.if-lead-second.true)

pub returns-then-width-eq2 : goal.returns-then-width-eq2
returns-then-width-eq2 c =
    char_two (begun (goal.at.returns-then-width-eq2 c).Else-text-i) c.if-width-eq2.true
    (inside _ _ _ c.if-second-lead.false c.if-lead-second.false)

pub overflow_add-i : goal.overflow_add-i
overflow_add-i c = omega (arith, three_inside (second c))

pub bounds-text-i-3 : goal.bounds-text-i-3
bounds-text-i-3 c = three_inside (second (goal.at.bounds-text-i-3 c).Else-width-eq2)

pub returns-then-text-i-lt128 : goal.returns-then-text-i-lt128
returns-then-text-i-lt128 c = no_third (second (goal.at.returns-then-text-i-lt128 c).Else-width-eq2) (below _ _ _ c.if-text-i-lt128.true)

pub overflow_add-i-2 : goal.overflow_add-i-2
overflow_add-i-2 c = omega (arith, three_inside (second (goal.at.overflow_add-i-2 c).Else-width-eq2))

pub bounds-text-i-4 : goal.bounds-text-i-4
bounds-text-i-4 c = three_inside (second (goal.at.bounds-text-i-4 c).Else-width-eq2)

pub returns-then-text-i-gt191 : goal.returns-then-text-i-gt191
returns-then-text-i-gt191 c = no_third (second (goal.at.returns-then-text-i-gt191 c).Else-width-eq2) (above _ _ _ c.if-text-i-gt191.true)

pub returns-then-width-eq3 : goal.returns-then-width-eq3
returns-then-width-eq3 c =
    char_three (second (goal.at.returns-then-width-eq3 c).Else-width-eq2) c.if-width-eq3.true
    (inside _ _ _ c.if-text-i-lt128.false c.if-text-i-gt191.false)

pub overflow_add-i-3 : goal.overflow_add-i-3
overflow_add-i-3 c = omega (arith, four_inside (third c))

pub bounds-text-i-5 : goal.bounds-text-i-5
bounds-text-i-5 c = four_inside (third (goal.at.bounds-text-i-5 c).Else-width-eq3)

pub returns-then-text-i-lt128-2 : goal.returns-then-text-i-lt128-2
returns-then-text-i-lt128-2 c = no_fourth (third (goal.at.returns-then-text-i-lt128-2 c).Else-width-eq3) (below _ _ _ c.if-text-i-lt128-2.true)

pub overflow_add-i-4 : goal.overflow_add-i-4
overflow_add-i-4 c = omega (arith, four_inside (third (goal.at.overflow_add-i-4 c).Else-width-eq3))

pub bounds-text-i-6 : goal.bounds-text-i-6
bounds-text-i-6 c = four_inside (third (goal.at.bounds-text-i-6 c).Else-width-eq3)

pub returns-then-text-i-gt191-2 : goal.returns-then-text-i-gt191-2
returns-then-text-i-gt191-2 c = no_fourth (third (goal.at.returns-then-text-i-gt191-2 c).Else-width-eq3) (above _ _ _ c.if-text-i-gt191-2.true)

pub returns : goal.returns
returns c = char_four (third (goal.at.returns c).Else-width-eq3) (inside _ _ _ c.if-text-i-lt128-2.false c.if-text-i-gt191-2.false)
