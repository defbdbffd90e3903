-- `govlezna_rehearse`: a turn hands a span of the lent slice to `count_value`; the start, a turn and the end are laws of walk_rehearsal's Turning.antt
-- (`standing`, `ready_at`, `over_turn`, `rehearsed`).
use Prim.Native.Nat.{ℕ}
use Rattle.std.proofs.Common.{◌≡◌, ◌<◌, ◌≤◌, ◌∙◌, List, length, get_or, take, refl, sym, subst, arith}
use Rattle.std.proofs.lemmas.List.{get_or-take}
use lib.Seq.{length-take-le}
use Rattle.walk_rehearsal.specs.declared.Span.{Span}
use Rattle.walk_rehearsal.specs.Turns.{Ready, Turn}
use Rattle.walk_rehearsal.proofs.Spans.{no_span}
use Rattle.walk_rehearsal.proofs.Turning.{Standing, over_turn, over_done, ready_at, turn_within, count_most, standing, begun_within, rehearsed}
use Rattle.govlezna.specs.Calls.{rehearse_call}
use Rattle.govlezna.proofs.govlezna_rehearse.Goals as goal
use Rattle.govlezna.proofs.govlezna_rehearse.Goals.{After-begin-job, In-loop-s}

-- the job counts no more spans than are lent
few : (c : After-begin-job) → c.begin-job.result.count ≤ length c.args.spans.now
few c =
    let a = c.args in
    count_most a.text.now a.version a.depth a.limit a.list.now a.pool.now a.spans.now c.leaving-staying.result c.begin-job.result c.begin-job.ensures.job

-- in a turn: its span is one of those, and there; the slice has it; the job has passed its checks
counted : (c : In-loop-s) → c.begin-job.result.count ≤ length c.args.spans.now → c.loop-s.s-index < c.begin-job.result.count
counted c most = omega (arith, length-take-le c.begin-job.result.count c.args.spans.now most, c.loop-s-test.true)

sliced : (n : ℕ) (spans : List Span) (i : ℕ) → i < n → get_or (take n spans) i no_span ≡ get_or spans i no_span
sliced n spans i l = get_or-take n spans i no_span l

standing_at : (c : In-loop-s) → 0 < c.begin-job.result.count → Standing c.args.text.now c.begin-job.result c.args.list.now c.args.pool.now c.args.spans.now
standing_at c some =
    let a = c.args in
    standing a.text.now a.version a.depth a.limit a.list.now a.pool.now a.spans.now c.leaving-staying.result c.begin-job.result c.begin-job.ensures.job
    c.leaving-staying.ensures some

pub slice_bounds-s-items-end : goal.slice_bounds-s-items-end
slice_bounds-s-items-end c = sym (length-take-le c.begin-job.result.count c.args.spans.now (few (goal.at.slice_bounds-s-items-end c).After-begin-job))

pub loop-s-init : goal.loop-s-init
loop-s-init c =
    let a = c.args in
    record {
      within =
          λ h.
          begun_within a.text.now a.version a.depth a.limit a.list.now a.pool.now a.spans.now c.leaving-staying.result c.begin-job.result a.report.now
          c.begin-job.new.report c.begin-job.ensures h;
      same = refl;
    }

pub count_value-requires : goal.count_value-requires
count_value-requires c =
    let a = c.args in
    let k = c.loop-s in
    let j = c.begin-job.result in
    let most = few (goal.at.count_value-requires c).After-begin-job in
    let turn = (goal.at.count_value-requires c).In-loop-s in
    let inside = counted turn most in
    let some : 0 < j.count = omega (arith, inside) in
    subst (λ (s : Span). Ready a.text.now s j a.list.now a.pool.now k.report) (sym (sliced j.count a.spans.now k.s-index inside))
    (ready_at a.text.now j a.list.now a.pool.now a.spans.now (standing_at turn some) k.s-index k.report (omega (arith, inside, most)) (k.invariant.within some))

pub loop-s-preserved : goal.loop-s-preserved
loop-s-preserved c =
    let a = c.args in
    let k = c.loop-s in
    let j = c.begin-job.result in
    let most = few (goal.at.loop-s-preserved c).After-begin-job in
    let inside = counted (goal.at.loop-s-preserved c).In-loop-s most in
    let made = c.count_value.new.report in
    let turn : Turn a.text.now (get_or a.spans.now k.s-index no_span) j a.list.now a.pool.now k.report made =
    subst (λ (s : Span). Turn a.text.now s j a.list.now a.pool.now k.report made) (sliced j.count a.spans.now k.s-index inside) c.count_value.ensures in
    record {
      within = λ h. turn_within a.text.now j a.list.now a.pool.now a.spans.now k.s-index k.report made (k.invariant.within h) turn;
      same =
          k.invariant.same
          ∙ over_turn a.text.now j a.list.now a.pool.now a.spans.now k.s-index k.report made inside (omega (arith, inside, most)) turn;
    }

pub returns : goal.returns
unfolding rehearse_call
returns c =
    let a = c.args in
    let k = c.loop-s in
    let j = c.begin-job.result in
    let most = few (goal.at.returns c).After-begin-job in
    rehearsed a.text.now a.version a.depth a.limit a.list.now a.pool.now a.spans.now c.leaving-staying.result j a.report.now c.begin-job.new.report c.begin-job.ensures
    c.leaving-staying.ensures (c.put.ensures _)
    (k.invariant.same ∙ over_done a.text.now j a.list.now a.pool.now a.spans.now k.s-index k.report (omega (arith, length-take-le j.count a.spans.now most, c.loop-s-test.false)))
