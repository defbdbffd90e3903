-- Digits that end by themselves are the character, where the rule allows it (`means_quick`). Else the name's end is looked for: none is a refusal, `#` a number, `amp` the
-- character, and any other name is left to the table; each is a law of References.antt.
use Prim.Native.Nat.{◌+◌, ◌≤◌, ◌<◌}
use lib.ListN.{length, get_or}
use mathlib.Core.Path.{◌≡◌, sym, ◌∙◌}
use native.Mathlib.Omega.{arith}
use Rattle.flat.proofs.References.{means_none, means_number, means_amp, means_name, means_quick, past_hash}
use Rattle.flat.proofs.read_reference.Goals as goal
use Rattle.flat.proofs.read_reference.Goals.{After-shared_slice_known-2-1}

-- the name ends at a `;`
closed : (c : After-shared_slice_known-2-1) → c.outer_end-end.result < length c.args.text.now
closed c = omega (arith, c.outer_end-end.ensures.to, c.if-end-text.false)

-- the digits start inside, when the name starts with `#`
digits_inside : (c : After-shared_slice_known-2-1) → get_or c.args.text.now (c.args.at + 1) 0 ≡ 35 → c.args.at + 1 + 1 ≤ c.outer_end-end.result
digits_inside c hash =
    let a = c.args in
    past_hash a.text.now (a.at + 1) c.outer_end-end.result c.outer_end-end.ensures (closed c) hash

pub overflow_add-result : goal.overflow_add-result
overflow_add-result c =
    omega (arith, c.in-Some.ensures.3.closed.inside, c.requires)

pub returns-then-is_allowed : goal.returns-then-is_allowed
returns-then-is_allowed c =
    let found = c.in-Some.ensures in
    means_quick c.args.rule c.args.text.now c.args.at c.requires.2 c.in-Some.quick found.2 found.3
    (rw c.if-is_allowed.true at c.is_allowed.ensures)

pub returns-then-end-text : goal.returns-then-end-text
returns-then-end-text c =
    means_none c.args.rule c.args.text.now c.args.at c.requires.2 c.outer_end-end.ensures c.if-end-text.true

pub slice_bounds-number_meaning-count : goal.slice_bounds-number_meaning-count
slice_bounds-number_meaning-count c = digits_inside (goal.at.slice_bounds-number_meaning-count c).After-shared_slice_known-2-1 c.if-text-from-eq35.true

pub slice_bounds-number_meaning-start : goal.slice_bounds-number_meaning-start
slice_bounds-number_meaning-start c = digits_inside (goal.at.slice_bounds-number_meaning-start c).After-shared_slice_known-2-1 c.if-text-from-eq35.true

pub returns-then-text-from-eq35 : goal.returns-then-text-from-eq35
returns-then-text-from-eq35 c =
    means_number c.args.rule c.args.text.now c.args.at c.requires.2 c.outer_end-end.ensures (closed (goal.at.returns-then-text-from-eq35 c).After-shared_slice_known-2-1) c.if-text-from-eq35.true
    c.number_meaning.result c.number_meaning.ensures

pub returns-then-is_three : goal.returns-then-is_three
returns-then-is_three c =
    means_amp c.args.rule c.args.text.now c.args.at c.requires.2 c.outer_end-end.ensures (closed (goal.at.returns-then-is_three c).After-shared_slice_known-2-1) c.if-text-from-eq35.false
    (sym c.is_three.ensures ∙ c.if-is_three.true)

pub returns : goal.returns
returns c =
    means_name c.args.rule c.args.text.now c.args.at c.requires.2 c.outer_end-end.ensures (closed (goal.at.returns c).After-shared_slice_known-2-1) c.if-text-from-eq35.false
    (sym c.is_three.ensures ∙ c.if-is_three.false)
