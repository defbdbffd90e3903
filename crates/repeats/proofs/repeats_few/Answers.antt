-- `repeats_few` keeps `Looking` over all forms: none stands before its entry.
use Rattle.std.proofs.Common.{not, sym, ap, ◌∙◌, arith}
use borrow.Author.Tests.{not-true, not-false}
use Rattle.register.specs.Places.{Filled, entries_in}
use Rattle.register.proofs.Boundaries.{Turn, turn, turn_whole, front_filled}
use Rattle.repeats.proofs.Clearing.{clear_distinct}
use Rattle.repeats.proofs.Sifting.{looking_none, looking_on, looking_all, looking_repeats, absent_is}
use Rattle.repeats.proofs.repeats_few.Goals as goal
use Rattle.repeats.proofs.repeats_few.Goals.{At-loop-at, In-loop-at}

abbrev filled : (c : At-loop-at) → Filled c.args.register.now
filled c = c.requires

one : (c : In-loop-at) → Turn (c.requires) c.loop-at.invariant.place
one c = turn (c.requires) c.loop-at.invariant.place c.loop-at-test.true

pub loop-at-init : goal.loop-at-init
loop-at-init c = looking_none _ _

pub stands_before-requires : goal.stands_before-requires
stands_before-requires c =
    record { whole = turn_whole (filled (goal.at.stands_before-requires c).At-loop-at) c.loop-at.invariant.place (one c); filled = (front_filled (filled (goal.at.stands_before-requires c).At-loop-at) c.loop-at.invariant.place).1 }

pub returns-then-stands_before : goal.returns-then-stands_before
returns-then-stands_before c =
    sym (ap not (looking_repeats (filled (goal.at.returns-then-stands_before c).At-loop-at) c.loop-at.invariant (one (goal.at.returns-then-stands_before c).In-loop-at) (not-true _ (sym c.stands_before.ensures ∙ c.if-stands_before.true))))

pub end_at-at-requires : goal.end_at-at-requires
end_at-at-requires c =
    turn_whole (filled (goal.at.end_at-at-requires c).At-loop-at) c.loop-at.invariant.place (one (goal.at.end_at-at-requires c).In-loop-at)

pub loop-at-preserved : goal.loop-at-preserved
loop-at-preserved c =
    looking_on (filled (goal.at.loop-at-preserved c).At-loop-at) c.loop-at.invariant (one (goal.at.loop-at-preserved c).In-loop-at) c.end_at-at.ensures
    (λ p. sym (absent_is (filled (goal.at.loop-at-preserved c).At-loop-at) c.loop-at.invariant (one (goal.at.loop-at-preserved c).In-loop-at)) ∙ not-false _ (sym c.stands_before.ensures ∙ c.if-stands_before.false))

pub returns : goal.returns
returns c =
    sym (ap not (clear_distinct (entries_in c.args.register.now) (looking_all (filled (goal.at.returns c).At-loop-at) c.loop-at.invariant (omega arith))))
