-- `seen_step`: what stands in the slot that matches is had again, written where there is room or left where the output is full
-- (`again_none`); in every other case nothing is written.
use Prim.Native.Nat.{◌+◌}
use lib.ListN.{length, get_or, take, drop}
use Rattle.tokens.proofs.Repeats.{again_none}
use mathlib.Core.Path.{refl, ap, ◌∙◌}
use native.Mathlib.Omega.{arith}
use Rattle.tokens.proofs.seen_step.Goals as goal
use Rattle.tokens.proofs.seen_step.Goals.{then-len-out+else-out-len, else-len-out}

pub overflow_add-made-then-k-lt-PLACES : goal.overflow_add-made-then-k-lt-PLACES
overflow_add-made-then-k-lt-PLACES c =
    omega (arith, c.requires.kept.few c.seen_at-k.result c.if-k-lt-PLACES.true, c.requires.openings_le_limit)

pub returns-then-out-len : goal.returns-then-out-len
returns-then-out-len c = refl

pub put_again-requires : goal.put_again-requires
put_again-requires c =
    (c.requires.kept.inside c.seen_at-k.result c.if-k-lt-PLACES.true, omega (arith, c.if-out-len.false, c.if-len-out.true))

pub overflow_sub-result : goal.overflow_sub-result
overflow_sub-result c =
    omega (arith, c.requires.kept.shifts c.seen_at-k.result c.if-k-lt-PLACES.true)

pub shape_of-out-then-made-limit : goal.shape_of-out-then-made-limit
shape_of-out-then-made-limit c =
    elim c.if-len-out.branch [ then-len-out+else-out-len w ↦ ap length w.out-is ∙ w.put_again.ensures.0 | else-len-out w ↦ ap length w.out-is ]

pub returns-then-made-limit : goal.returns-then-made-limit
returns-then-made-limit c =
    let a = c.args in
    let k = c.seen_at-k.result in
    let known = c.if-k-lt-PLACES.true in
    let out = c.if-len-out.out in
    let start = get_or a.seen.now (k + 8) 0 in
    let count = get_or a.seen.now (k + 12) 0 in
    record {
      slot = k;
      known = known;
      met = c.seen_at-k.ensures.1 known;
      to = refl;
      size = refl;
      opens = refl;
      within = omega (arith, c.if-made-limit.true);
      same_length = elim c.if-len-out.branch [ then-len-out+else-out-len w ↦ ap length w.out-is ∙ w.put_again.ensures.0 | else-len-out w ↦ ap length w.out-is ];
      writes = λ value whole e n.
          elim c.if-len-out.branch [
            | then-len-out+else-out-len w ↦ w.out-is ∙ w.put_again.ensures.1 value whole e n
            | else-len-out w ↦ w.out-is ∙ again_none value (take count (drop start value)) whole a.len e n w.if-len-out.false
          ];
    }

pub returns-else-made-limit : goal.returns-else-made-limit
returns-else-made-limit c = refl

pub returns-else-k-lt-PLACES : goal.returns-else-k-lt-PLACES
returns-else-k-lt-PLACES c = refl
