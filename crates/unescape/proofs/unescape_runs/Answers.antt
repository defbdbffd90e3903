-- `unescape_runs`: what is written is the value of the tokens so far (`Ran`), after each run (`ran_on`) and after each reference
-- (`ran_step`), until the text ends (`ran_end`) or a reference is refused (`ran_refused`).
use native.Mathlib.Omega.{arith}
use mathlib.Core.List.{List}
use Prim.Native.Nat.{ℕ, ◌+◌, ◌-◌, ◌<◌}
use lib.ListN.{length}
use borrow.Rule.Slice.PartMut.{put_mid}
use Rattle.entity.specs.Binding.{Bound, binding}
use borrow.Author.Rules.{rules}
use mathlib.Core.Path.{◌≡◌, ap}
use Rattle.std.specs.Prelude.{Err}
use Rattle.tokens.specs.Walking.{stepped}
use Rattle.unescape.proofs.Turns.{Ran, ran_start, ran_length, ran_inside, ran_kept, ran_run, ran_near, ran_step, ran_refused, ran_end, amp_here}
use Rattle.unescape.proofs.unescape_runs.Goals as goal
use Rattle.unescape.proofs.unescape_runs.Goals.{After-known_step, After-run_to_amp-e, Start}

-- the names' bindings
abbrev bound : Start → List ℕ → Bound
bound s = binding s.args.list.now s.args.pool.now

-- what the output holds after the run
abbrev held : After-run_to_amp-e → List ℕ
held c =
    let out = c.loop-seen.out in
    let at = c.min-at.result in
    put_mid at (length out - at) out c.run_to_amp-e.new.out

ran_on : (c : After-run_to_amp-e) → Ran (binding c.args.list.now c.args.pool.now) c.args.text.now c.args.out.now (held c) c.loop-seen.seen c.run_to_amp-e.result (c.loop-seen.len + (c.run_to_amp-e.result - c.loop-seen.i))
ran_on c = ran_run c.loop-seen.invariant c.min-at.ensures c.run_to_amp-e.ensures

-- a reference stands at the end of the run
here : (c : After-known_step) → c.run_to_amp-e.result < length c.args.text.now
here c = (amp_here c.args.text.now c.run_to_amp-e.ensures.0 c.if-e-text.false).0

pub loop-seen-init : goal.loop-seen-init
loop-seen-init c =
    ran_start (bound (goal.at.loop-seen-init c).Start) c.args.text.now c.args.out.now (λ k. omega (arith, c.type_inv.text k))

pub min-at-requires : goal.min-at-requires
min-at-requires c = tt

pub slice_bounds-run_to_amp-count : goal.slice_bounds-run_to_amp-count
slice_bounds-run_to_amp-count c = omega (arith, c.min-at.ensures)

pub slice_bounds-run_to_amp-start : goal.slice_bounds-run_to_amp-start
slice_bounds-run_to_amp-start c = omega (arith, c.min-at.ensures)

pub run_to_amp-e-requires : goal.run_to_amp-e-requires
run_to_amp-e-requires c = ran_inside c.loop-seen.invariant

pub overflow_sub-last : goal.overflow_sub-last
overflow_sub-last c = c.run_to_amp-e.ensures.0.run.from

pub overflow_add-len : goal.overflow_add-len
overflow_add-len c =
    omega (arith, (ran_on (goal.at.overflow_add-len c).After-run_to_amp-e).short, c.run_to_amp-e.ensures.0.run.to, c.requires.text_len_bound)

pub shape_of-out-then-e-text : goal.shape_of-out-then-e-text
shape_of-out-then-e-text c = ran_length (ran_on (goal.at.shape_of-out-then-e-text c).After-run_to_amp-e)

pub returns-then-e-text : goal.returns-then-e-text
returns-then-e-text c = ran_end (ran_on (goal.at.returns-then-e-text c).After-run_to_amp-e) (omega (arith, c.if-e-text.true))

pub known_step-requires : goal.known_step-requires
known_step-requires c =
    record { text_len_bound = c.requires.text_len_bound; i_in_bounds = amp_here c.args.text.now c.run_to_amp-e.ensures.0 c.if-e-text.false; valid_table = c.requires.valid_table; len_bound = ran_kept (ran_on (goal.at.known_step-requires c).After-run_to_amp-e) c.requires.text_len_bound }

-- the step after the run
pub overflow_add-len-in-loop-seen : goal.overflow_add-len-in-loop-seen
overflow_add-len-in-loop-seen c =
    let n = ran_near (ran_on (goal.at.overflow_add-len-in-loop-seen c).After-run_to_amp-e) c.known_step.ensures (ap stepped c.in_ok-next.was) in
    omega (arith, (ran_on (goal.at.overflow_add-len-in-loop-seen c).After-run_to_amp-e).short, n.2, c.run_to_amp-e.ensures.0.run.to, c.requires.text_len_bound)

pub loop-seen-smaller : goal.loop-seen-smaller
loop-seen-smaller c =
    let n = ran_near (ran_on (goal.at.loop-seen-smaller c).After-run_to_amp-e) c.known_step.ensures (ap stepped c.in_ok-next.was) in
    omega (arith, n.0, n.1, c.run_to_amp-e.ensures.0.run.from)

pub loop-seen-preserved : goal.loop-seen-preserved
loop-seen-preserved c =
    ran_step (ran_on (goal.at.loop-seen-preserved c).After-run_to_amp-e) c.known_step.ensures (here (goal.at.loop-seen-preserved c).After-known_step) (ap stepped c.in_ok-next.was)

pub returns-in_err-next : goal.returns-in_err-next
returns-in_err-next c =
    let handed : c.from_residual.result ≡ Err c.in_err-next.field-0.0 = search rules in
    let here = here (goal.at.returns-in_err-next c).After-known_step in
    rw handed (ran_refused (ran_on (goal.at.returns-in_err-next c).After-run_to_amp-e) c.known_step.ensures here (ap stepped c.in_err-next.was))
