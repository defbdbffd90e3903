-- `eols_length`: n is what the first i bytes give; a run adds its own length (`run_counts`), a step one byte (`step_length`).
use mathlib.Core.Path.{sym, ap, ◌∙◌}
use native.Mathlib.Omega.{arith}
use lib.ListN.{length}
use Rattle.eols.specs.LineEnds.{eols}
use Rattle.eols.proofs.Writing.{eols_over, run_counts, step_length}
use Rattle.eols.proofs.eols_length.Goals as goal

pub loop-i-init : goal.loop-i-init
unfolding eols
loop-i-init c = (omega arith, omega arith, omega arith)

pub plain_end-e-requires : goal.plain_end-e-requires
plain_end-e-requires c = c.loop-i.invariant.0

pub overflow_sub-n : goal.overflow_sub-n
overflow_sub-n c = c.plain_end-e.ensures.from

pub overflow_add-n : goal.overflow_add-n
overflow_add-n c = omega (arith, c.loop-i.invariant.1, c.plain_end-e.ensures.from, c.plain_end-e.ensures.to)

pub returns-then-e-text : goal.returns-then-e-text
returns-then-e-text c =
    let given = c.args in
    let z = run_counts given.newer given.text.now c.loop-i.i c.plain_end-e.result c.plain_end-e.ensures in
    let o = ap length (eols_over given.newer given.text.now c.plain_end-e.result (omega arith)) in
    sym (c.loop-i.invariant.2 ∙ omega (arith, z, o))

pub normalize_eol_step-step-requires : goal.normalize_eol_step-step-requires
normalize_eol_step-step-requires c = omega (arith, c.plain_end-e.ensures.to)

pub overflow_add-n-in-loop-i : goal.overflow_add-n-in-loop-i
overflow_add-n-in-loop-i c =
    omega (arith, c.loop-i.invariant.1, c.plain_end-e.ensures.from, c.plain_end-e.ensures.to)

pub overflow_add-i : goal.overflow_add-i
overflow_add-i c = omega (arith, c.normalize_eol_step-step.ensures.inside)

pub loop-i-smaller : goal.loop-i-smaller
loop-i-smaller c =
    omega (
      arith,
      c.normalize_eol_step-step.ensures.some,
      c.normalize_eol_step-step.ensures.inside,
      c.plain_end-e.ensures.from,
    )

pub loop-i-preserved : goal.loop-i-preserved
loop-i-preserved c =
    let given = c.args in (
      omega (arith, c.normalize_eol_step-step.ensures.inside),
      omega (arith, c.loop-i.invariant.1, c.plain_end-e.ensures.from, c.normalize_eol_step-step.ensures.some),
      c.loop-i.invariant.2 ∙ omega (
        arith,
        run_counts given.newer given.text.now c.loop-i.i c.plain_end-e.result c.plain_end-e.ensures,
        step_length
            _ _ _ _ c.normalize_eol_step-step.ensures,
        c.plain_end-e.ensures.from,
      ),
    )

pub returns : goal.returns
returns c =
    let given = c.args in
    sym (c.loop-i.invariant.2 ∙ omega (arith, ap length (eols_over given.newer given.text.now c.loop-i.i c.loop-i-test.false)))
