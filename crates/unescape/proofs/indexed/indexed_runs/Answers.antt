-- `indexed_runs`: what is written is the value of the tokens so far, and the index stays one (`Indexed`), after each run (`ran_on`) and after each
-- reference (`ran_step`), until the text ends (`ran_end`) or a reference is refused (`ran_refused`).
use native.Mathlib.Omega.{arith}
use mathlib.Core.Path.{◌≡◌, refl, ap}
use mathlib.Core.List.{List}
use Prim.Native.Nat.{ℕ, ◌+◌, ◌-◌, ◌<◌}
use lib.ListN.{length}
use borrow.Rule.Slice.PartMut.{put_mid}
use Rattle.entity.specs.Binding.{Bound, binding}
use Rattle.runs.specs.RunEnds.{RunEnd, is_amp}
use borrow.Author.Rules.{rules}
use Rattle.std.specs.Prelude.{Err}
use Rattle.tokens.specs.Walking.{stepped as as_step}
use Rattle.unescape.proofs.Known.{Known}
use Rattle.unescape.proofs.Turns.{Ran, ran_start, ran_length, ran_inside, ran_run, ran_near, ran_step, ran_refused, ran_end, amp_here}
use Rattle.unescape.proofs.Lending.{unkept, known_indexed}
use Rattle.unescape.proofs.indexed.indexed_runs.Goals as goal
use Rattle.unescape.proofs.indexed.indexed_runs.Goals.{After-indexed_step, After-put_over, Start}

-- the names' bindings
abbrev bound : Start → List ℕ → Bound
bound s = binding s.args.list.now s.args.pool.now

-- where the run ends, what the output holds after it, and how long the value is
abbrev ended : After-put_over → ℕ
ended c = c.next_byte-e.result

abbrev held : After-put_over → List ℕ
held c =
    let out = c.loop-i.out in
    let at = c.min-at.result in
    put_mid at (length out - at) out c.put_over.new.out

abbrev grown : After-put_over → ℕ
grown c = c.loop-i.len + (ended c - c.loop-i.i)

run_ends : (c : After-put_over) → RunEnd is_amp c.args.text.now c.loop-i.i (ended c)
run_ends c = c.next_byte-e.ensures

ran_on : (c : After-put_over) → Ran (binding c.args.list.now c.args.pool.now) c.args.text.now c.args.out.now (held c) unkept (ended c) (grown c)
ran_on c =
    ran_run c.loop-i.invariant.ran c.min-at.ensures (run_ends c, c.put_over.ensures)

-- a reference stands at the end of the run
here : (c : After-indexed_step) → c.next_byte-e.result < length c.args.text.now
here c = (amp_here c.args.text.now (c.next_byte-e.ensures) c.if-e-text.false).0

-- the step after the run, which keeps nothing
stepped : (c : After-indexed_step) → Known (binding c.args.list.now c.args.pool.now) c.args.text.now (c.next_byte-e.result) (c.loop-i.len + (c.next_byte-e.result - c.loop-i.i)) unkept (let out = c.loop-i.out in let at = c.min-at.result in put_mid at (length out - at) out c.put_over.new.out) unkept (put_mid c.min-rest.result (length (let out = c.loop-i.out in let at = c.min-at.result in put_mid at (length out - at) out c.put_over.new.out) - c.min-rest.result) (let out = c.loop-i.out in let at = c.min-at.result in put_mid at (length out - at) out c.put_over.new.out) c.indexed_step.new.out) (as_step c.indexed_step.result)
stepped c =
    known_indexed (binding c.args.list.now c.args.pool.now) c.args.text.now (c.next_byte-e.result) (c.loop-i.len + (c.next_byte-e.result - c.loop-i.i)) (let out = c.loop-i.out in let at = c.min-at.result in put_mid at (length out - at) out c.put_over.new.out)
    c.min-rest.ensures c.indexed_step.ensures.referred

pub loop-i-init : goal.loop-i-init
loop-i-init c =
    record {
      ran = ran_start (bound (goal.at.loop-i-init c).Start) c.args.text.now c.args.out.now (λ k. omega (arith, c.type_inv.text k));
      lent = c.requires.valid_table.1;
      size = refl;
    }

pub next_byte-e-requires : goal.next_byte-e-requires
next_byte-e-requires c = ran_inside c.loop-i.invariant.ran

pub min-at-requires : goal.min-at-requires
min-at-requires c = tt

pub slice_bounds-put_over-count : goal.slice_bounds-put_over-count
slice_bounds-put_over-count c = c.next_byte-e.ensures.run.from

pub slice_bounds-put_over-start : goal.slice_bounds-put_over-start
slice_bounds-put_over-start c = c.next_byte-e.ensures.run.from

pub slice_bounds-put_over-end : goal.slice_bounds-put_over-end
slice_bounds-put_over-end c = c.next_byte-e.ensures.run.to

pub slice_bounds-put_over-count-in-loop-i : goal.slice_bounds-put_over-count-in-loop-i
slice_bounds-put_over-count-in-loop-i c = omega (arith, c.min-at.ensures)

pub slice_bounds-put_over-start-in-loop-i : goal.slice_bounds-put_over-start-in-loop-i
slice_bounds-put_over-start-in-loop-i c = omega (arith, c.min-at.ensures)

pub overflow_sub-len : goal.overflow_sub-len
overflow_sub-len c = (run_ends (goal.at.overflow_sub-len c).After-put_over).run.from

pub overflow_add-len : goal.overflow_add-len
overflow_add-len c =
    omega (arith, (ran_on (goal.at.overflow_add-len c).After-put_over).short, (run_ends (goal.at.overflow_add-len c).After-put_over).run.to, c.requires.text_len_bound)

pub shape_of-index-then-e-text : goal.shape_of-index-then-e-text
shape_of-index-then-e-text c = c.loop-i.invariant.size

pub shape_of-out-then-e-text : goal.shape_of-out-then-e-text
shape_of-out-then-e-text c = ran_length (ran_on (goal.at.shape_of-out-then-e-text c).After-put_over)

pub returns-then-e-text : goal.returns-then-e-text
returns-then-e-text c =
    record { walked = ran_end (ran_on (goal.at.returns-then-e-text c).After-put_over) (omega (arith, c.if-e-text.true)); lent = c.loop-i.invariant.lent }

pub min-rest-requires : goal.min-rest-requires
min-rest-requires c = tt

pub slice_bounds-indexed_step-count : goal.slice_bounds-indexed_step-count
slice_bounds-indexed_step-count c = omega (arith, c.min-rest.ensures)

pub slice_bounds-indexed_step-start : goal.slice_bounds-indexed_step-start
slice_bounds-indexed_step-start c = omega (arith, c.min-rest.ensures)

pub indexed_step-requires : goal.indexed_step-requires
indexed_step-requires c =
    record { text_len_bound = c.requires.text_len_bound; i_in_bounds = amp_here c.args.text.now (run_ends (goal.at.indexed_step-requires c).After-put_over) c.if-e-text.false; valid_table = (c.requires.valid_table.0, c.loop-i.invariant.lent) }

pub overflow_add-len-in-loop-i : goal.overflow_add-len-in-loop-i
overflow_add-len-in-loop-i c =
    let n = ran_near (ran_on (goal.at.overflow_add-len-in-loop-i c).After-put_over) (stepped (goal.at.overflow_add-len-in-loop-i c).After-indexed_step) (ap as_step c.in_ok-next.was) in
    omega (arith, (ran_on (goal.at.overflow_add-len-in-loop-i c).After-put_over).short, n.2, (run_ends (goal.at.overflow_add-len-in-loop-i c).After-put_over).run.to, c.requires.text_len_bound)

pub loop-i-smaller : goal.loop-i-smaller
loop-i-smaller c =
    let n = ran_near (ran_on (goal.at.loop-i-smaller c).After-put_over) (stepped (goal.at.loop-i-smaller c).After-indexed_step) (ap as_step c.in_ok-next.was) in
    omega (arith, n.0, n.1, (run_ends (goal.at.loop-i-smaller c).After-put_over).run.from)

pub loop-i-preserved : goal.loop-i-preserved
loop-i-preserved c =
    record {
      ran = ran_step (ran_on (goal.at.loop-i-preserved c).After-put_over) (stepped (goal.at.loop-i-preserved c).After-indexed_step) (here (goal.at.loop-i-preserved c).After-indexed_step) (ap as_step c.in_ok-next.was);
      lent = c.indexed_step.ensures.lent;
      size = omega (arith, c.indexed_step.auto.index, c.loop-i.invariant.size);
    }

pub returns-in_err-next-clause-walked : goal.returns-in_err-next-clause-walked
returns-in_err-next-clause-walked c =
    let handed : c.from_residual.result ≡ Err c.in_err-next.field-0.0 = search rules in
    let after = (goal.at.returns-in_err-next-clause-walked c).After-indexed_step in
    rw handed (ran_refused (ran_on (goal.at.returns-in_err-next-clause-walked c).After-put_over) (stepped after) (here after) (ap as_step c.in_err-next.was))
