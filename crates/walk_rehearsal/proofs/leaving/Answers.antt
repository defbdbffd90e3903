-- `leaving`: a turn copies a span out of the lent slice and calls `further`; each turn and the end are laws of Spans.antt (`inside_next`, `inside_end`).
use Rattle.std.proofs.Common.{ℕ, ◌∙◌, ◌+◌, ap, sym, arith, drop, get_or}
use Rattle.walk_rehearsal.proofs.Spans.{no_span, comes_to, inside_next, inside_end, further_most}
use Rattle.walk_rehearsal.proofs.leaving.Goals as goal

pub loop-i-preserved : goal.loop-i-preserved
loop-i-preserved c =
    let size = c.args.size in
    let spans = c.args.spans.now in
    let i = c.loop-i.i in
    let kept = c.loop-i.invariant in
    let e = c.further-staying.ensures in
    record {
      within = omega (arith, c.loop-i-test.true);
      most = omega (arith, e, further_most size (get_or spans i no_span) i c.loop-i.staying kept.most);
      left = ap (λ (y : ℕ). comes_to size (i + 1) y (drop (i + 1) spans)) e ∙ inside_next size spans i c.loop-i.staying c.loop-i-test.true kept.most ∙ kept.left;
    }

pub returns : goal.returns
returns c = sym (inside_end c.args.size c.args.spans.now c.loop-i.i c.loop-i.staying c.loop-i-test.false) ∙ c.loop-i.invariant.left
