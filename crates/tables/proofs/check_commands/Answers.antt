-- `check_commands` keeps `Standing`: the answer of the commands from here on, with those counted before them, is the table's.
use mathlib.Core.Path.{◌≡◌, ap, sym, ◌∙◌}
use native.Mathlib.Omega.{arith}
use borrow.Author.Rules.{rules}
use Rattle.std.specs.Prelude.{Err}
use Rattle.text.specs.Call.{answered}
use lib.ListN.{get_or}
use Rattle.entity.proofs.Commands.{size_one, declares_one}
use Rattle.tables.proofs.Commands.{start, refuses, goes_on}
use Rattle.tables.proofs.check_commands.Goals as goal
use Rattle.tables.proofs.check_commands.Goals.{After-check_text}

-- the command's byte is 1
one : (c : After-check_text) → get_or c.args.list.now c.loop-at.at 0 ≡ 1
one c = c.if-list-at-eq-TEXT.true

pub ascii_of-ascii-requires : goal.ascii_of-ascii-requires
ascii_of-ascii-requires c = c.requires.0

pub loop-at-init : goal.loop-at-init
loop-at-init c =
    start c.args.list.now c.args.pool.now c.mark_size-at.ensures c.requires.0 c.requires.1

pub bounds-list-at : goal.bounds-list-at
bounds-list-at c = c.loop-at-test.true

pub check_text-requires : goal.check_text-requires
check_text-requires c =
    record { at_in_bounds = (c.loop-at-test.true, c.if-list-at-eq-TEXT.true); ascii = c.ascii_of-ascii.ensures }

-- a command that is refused
pub returns-in_err-check_text : goal.returns-in_err-check_text
returns-in_err-check_text c =
    let asked = c.args in
    let handed : c.from_residual.result ≡ Err c.in_err-check_text.field-0.0 = search rules in
    let told = ap answered c.in_err-check_text.was in
    ap answered handed ∙ sym told ∙ c.check_text.ensures
    ∙ refuses asked.list.now asked.pool.now c.loop-at.at c.loop-at.count c.loop-at.invariant c.loop-at-test.true
    (declares_one (one (goal.at.returns-in_err-check_text c).After-check_text)) (sym c.check_text.ensures ∙ told)

-- one that is not
pub overflow_add-at : goal.overflow_add-at
overflow_add-at c = let s = c.loop-at.invariant in omega arith

pub overflow_add-count : goal.overflow_add-count
overflow_add-count c = let s = c.loop-at.invariant in omega arith

pub loop-at-smaller : goal.loop-at-smaller
loop-at-smaller c = let l = c.loop-at-test.true in omega arith

pub loop-at-preserved : goal.loop-at-preserved
loop-at-preserved c =
    let asked = c.args in
    goes_on asked.list.now asked.pool.now c.loop-at.at c.loop-at.count c.loop-at.invariant c.loop-at-test.true (declares_one (one (goal.at.loop-at-preserved c).After-check_text))
    (sym c.check_text.ensures ∙ ap answered c.in_ok-check_text.was) (size_one (one (goal.at.loop-at-preserved c).After-check_text))

pub check_later-requires : goal.check_later-requires
check_later-requires c = record { standing = c.loop-at.invariant; ascii = c.ascii_of-ascii.ensures }

pub returns : goal.returns
returns c = c.check_later.ensures
