-- `repeats_in_class` keeps `Sifting`: the table has every form of the class before, and none of these stands before its entry.
use Rattle.std.proofs.Common.{refl, ◌∙◌, subst, arith}
use Rattle.text.proofs.Bytes.{contrary}
use Rattle.register.specs.Places.{Filled}
use Rattle.register.proofs.Boundaries.{Turn, turn, turn_whole, front_filled}
use Rattle.repeats.specs.Filter.{Sifted}
use Rattle.repeats.proofs.Sifting.{sifting_none, sifting_on, looking_all, looking_repeats}
use Rattle.repeats.proofs.repeats_in_class.Goals as goal
use Rattle.repeats.proofs.repeats_in_class.Goals.{At-loop-at, In-loop-at}

abbrev filled : (c : At-loop-at) → Filled c.args.register.now
filled c = c.requires.filled

one : (c : In-loop-at) → Turn (c.requires.filled) c.loop-at.invariant.1.looking.place
one c = turn (c.requires.filled) c.loop-at.invariant.1.looking.place c.loop-at-test.true

pub loop-at-init : goal.loop-at-init
loop-at-init c = (refl, sifting_none _ _ _ _)

pub end_at-end-requires : goal.end_at-end-requires
end_at-end-requires c = turn_whole (filled (goal.at.end_at-end-requires c).At-loop-at) c.loop-at.invariant.1.looking.place (one c)

pub sift_entry-requires : goal.sift_entry-requires
sift_entry-requires c =
    let n = c.loop-at.invariant.0 in
    let place = c.loop-at.invariant.1.looking.place in
    record { whole = turn_whole (filled (goal.at.sift_entry-requires c).At-loop-at) place (one (goal.at.sift_entry-requires c).In-loop-at); filled = (front_filled (filled (goal.at.sift_entry-requires c).At-loop-at) place).1; end_value = c.end_at-end.ensures; in_bounds = (omega (arith, c.requires.in_bounds, n), omega (arith, c.requires.in_bounds, n), c.requires.in_bounds.2) }

pub returns-then-sift_entry : goal.returns-then-sift_entry
returns-then-sift_entry c =
    record {
      repeats = λ p. looking_repeats (filled (goal.at.returns-then-sift_entry c).At-loop-at) c.loop-at.invariant.1.looking (one (goal.at.returns-then-sift_entry c).In-loop-at) (c.sift_entry.ensures.told c.if-sift_entry.true);
      clear = λ p. contrary refl p;
    }

pub loop-at-preserved : goal.loop-at-preserved
loop-at-preserved c =
    let a = c.args in
    let s = subst (Sifted a.register.now c.loop-at.at a.class a.classes c.loop-at.table _) c.if-sift_entry.false c.sift_entry.ensures in
    (s.size ∙ c.loop-at.invariant.0, sifting_on (filled (goal.at.loop-at-preserved c).At-loop-at) c.loop-at.invariant.1 (one (goal.at.loop-at-preserved c).In-loop-at) s c.end_at-end.ensures)

pub returns : goal.returns
returns c =
    record { repeats = λ p. contrary p refl; clear = λ p. looking_all (filled (goal.at.returns c).At-loop-at) c.loop-at.invariant.1.looking (omega arith) }
