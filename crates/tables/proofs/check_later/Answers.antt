-- `check_later` keeps `Standing`, as `check_commands` does, over commands of both kinds.
use mathlib.Core.Path.{◌≡◌, ap, sym, ◌∙◌}
use mathlib.Core.Bool.{true}
use native.Mathlib.Omega.{arith}
use borrow.Author.Rules.{rules}
use Rattle.std.specs.Prelude.{Err}
use Rattle.text.specs.Call.{answered}
use lib.ListN.{get_or}
use Rattle.entity.specs.Table.{declares}
use Rattle.entity.proofs.Commands.{size_some}
use Rattle.tables.proofs.Commands.{declares_by, finish, refuses, goes_on}
use Rattle.tables.proofs.check_later.Goals as goal
use Rattle.tables.proofs.check_later.Goals.{After-check_command, else-loop-at-test, then-loop-at-test+else-list-at}

-- the command's byte declares
is : (c : After-check_command) → declares (get_or c.args.list.now c.loop-at.at 0) ≡ true
is c = declares_by _ _ _ c.if-list-at.true (omega arith) (omega arith)

pub loop-at-init : goal.loop-at-init
loop-at-init c = c.requires.standing

pub bounds-list-at : goal.bounds-list-at
bounds-list-at c = c.loop-at-test.true

pub bounds-list-at-in-loop-at : goal.bounds-list-at-in-loop-at
bounds-list-at-in-loop-at c = c.loop-at-test.true

pub check_command-requires : goal.check_command-requires
check_command-requires c =
    record { at_in_bounds = (c.loop-at-test.true, declares_by _ _ _ c.if-list-at.true (omega arith) (omega arith)); ascii = c.requires.ascii }

-- a command that is refused
pub returns-in_err-check_command : goal.returns-in_err-check_command
returns-in_err-check_command c =
    let asked = c.args in
    let handed : c.from_residual.result ≡ Err c.in_err-check_command.field-0.0 = search rules in
    let told = ap answered c.in_err-check_command.was in
    ap answered handed ∙ sym told ∙ c.check_command.ensures
    ∙ refuses asked.list.now asked.pool.now c.loop-at.at c.loop-at.count c.loop-at.invariant c.loop-at-test.true
    (is (goal.at.returns-in_err-check_command c).After-check_command) (sym c.check_command.ensures ∙ told)

-- one that is not
pub bounds-list-at-in-loop-at-2 : goal.bounds-list-at-in-loop-at-2
bounds-list-at-in-loop-at-2 c = c.loop-at-test.true

pub overflow_add-at : goal.overflow_add-at
overflow_add-at c = let s = c.loop-at.invariant in omega (arith, s.fits, s.short, c.command_size-at.ensures.1)

pub overflow_add-count : goal.overflow_add-count
overflow_add-count c = let s = c.loop-at.invariant in omega (arith, s.fits, s.few, s.short)

pub loop-at-smaller : goal.loop-at-smaller
loop-at-smaller c =
    omega (arith, c.loop-at-test.true, c.command_size-at.ensures.0, size_some (get_or c.args.list.now c.loop-at.at 0))

pub loop-at-preserved : goal.loop-at-preserved
loop-at-preserved c =
    let asked = c.args in
    goes_on asked.list.now asked.pool.now c.loop-at.at c.loop-at.count c.loop-at.invariant c.loop-at-test.true (is (goal.at.loop-at-preserved c).After-check_command)
    (sym c.check_command.ensures ∙ ap answered c.in_ok-check_command.was) c.command_size-at.ensures.0

pub check_end-requires : goal.check_end-requires
check_end-requires c = c.loop-at.invariant.fits

pub returns : goal.returns
returns c =
    let asked = c.args in
    c.check_end.ensures
    ∙ finish asked.list.now asked.pool.now c.loop-at.at c.loop-at.count c.loop-at.invariant
    (λ h.
    elim c.loop-at-test.branch [
      | then-loop-at-test+else-list-at w ↦ declares_by _ _ _ w.if-list-at.false (omega arith) (omega arith)
      | else-loop-at-test w ↦ absurd (omega (arith, w.loop-at-test.false, h))
    ])
