-- `indexed_step`: a character found at once (`referred_char`), no `;` (`referred_none`), a number (`referred_number`) or a name
-- (`referred_name`). Of the index only the lookup of a name makes another.
use mathlib.Core.Bool.{true}
use native.Mathlib.Omega.{arith}
use mathlib.Core.List.{List}
use Prim.Native.Nat.{ℕ}
use Rattle.entity.specs.Binding.{Bound, binding}
use Rattle.tokens.proofs.References.{digits_from}
use Rattle.unescape.proofs.Stops.{referred_none, referred_number, referred_name, referred_char}
use Rattle.unescape.proofs.indexed.indexed_step.Goals as goal
use Rattle.unescape.proofs.indexed.indexed_step.Goals.{Start}

-- the names' bindings
abbrev bound : Start → List ℕ → Bound
bound s = binding s.args.list.now s.args.pool.now

pub overflow_add-quick : goal.overflow_add-quick
overflow_add-quick c =
    omega (arith, c.in-Some.ensures.3.closed.inside)

pub char_step-requires : goal.char_step-requires
char_step-requires c =
    omega (arith, c.in-Some.ensures.3.low)

pub returns-in-Some : goal.returns-in-Some
returns-in-Some c =
    let given = c.args in
    let found = c.in-Some.ensures in
    record { referred = referred_char (bound (goal.at.returns-in-Some c).Start) given.text.now given.i c.in-Some.quick c.requires.i_in_bounds.1 found.2 found.3 c.char_step.ensures; lent = c.requires.valid_table.1 }

pub returns-then-end-text : goal.returns-then-end-text
returns-then-end-text c =
    let given = c.args in
    record { referred = referred_none (bound (goal.at.returns-then-end-text c).Start) given.text.now given.i c.inner_end-end.result c.requires.i_in_bounds.1 c.inner_end-end.ensures c.if-end-text.true; lent = c.requires.valid_table.1 }

pub slice_bounds-number_step-count : goal.slice_bounds-number_step-count
slice_bounds-number_step-count c =
    let given = c.args in
    digits_from true given.text.now given.i c.inner_end-end.result c.inner_end-end.ensures (omega (arith, c.inner_end-end.ensures.to, c.if-end-text.false)) c.if-text-start-eq35.true

pub slice_bounds-number_step-start : goal.slice_bounds-number_step-start
slice_bounds-number_step-start c =
    let given = c.args in
    digits_from true given.text.now given.i c.inner_end-end.result c.inner_end-end.ensures (omega (arith, c.inner_end-end.ensures.to, c.if-end-text.false)) c.if-text-start-eq35.true

pub returns-then-text-start-eq35 : goal.returns-then-text-start-eq35
returns-then-text-start-eq35 c =
    let given = c.args in
    record {
      referred = referred_number (bound (goal.at.returns-then-text-start-eq35 c).Start) given.text.now given.i c.inner_end-end.result c.requires.i_in_bounds.1 c.inner_end-end.ensures
          (omega (arith, c.inner_end-end.ensures.to, c.if-end-text.false)) c.if-text-start-eq35.true c.number_step.ensures;
      lent = c.requires.valid_table.1;
    }

pub returns : goal.returns
returns c =
    let given = c.args in
    record {
      referred = referred_name (bound (goal.at.returns c).Start) given.text.now given.i c.inner_end-end.result c.requires.i_in_bounds.1 c.inner_end-end.ensures
          (omega (arith, c.inner_end-end.ensures.to, c.if-end-text.false)) c.if-text-start-eq35.false c.found_step.ensures.named;
      lent = c.found_step.ensures.lent;
    }
