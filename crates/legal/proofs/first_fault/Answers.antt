-- `first_fault`: at no place before i a fault begins; a block without suspects keeps that, one with a suspect keeps it or has the answer, and
-- the rest ends the search. Assumes nothing.
use native.Mathlib.Omega.{arith}
use Prim.Native.Nat.{◌+◌}
use Rattle.legal.specs.FirstFault.{faults_by}
use Rattle.legal.proofs.Clean.{searched_none, searched_more, first_join, first_longer, first_none}
use Rattle.legal.proofs.first_fault.Goals as goal
use Rattle.legal.proofs.first_fault.Goals.{then-any_suspect+else-near-i, else-any_suspect}

pub loop-i-init : goal.loop-i-init
loop-i-init c = searched_none c.requires.order c.requires.fits

pub overflow_sub-to : goal.overflow_sub-to
overflow_sub-to c = c.loop-i.invariant.within

pub any_suspect-requires : goal.any_suspect-requires
any_suspect-requires c = omega (arith, c.loop-i.invariant.within, c.loop-i-test.true, c.requires.fits)

pub fault_in_block-near-requires : goal.fault_in_block-near-requires
fault_in_block-near-requires c =
    omega (arith, c.loop-i.invariant.within, c.loop-i-test.true, c.requires.fits)

pub overflow_add-i : goal.overflow_add-i
overflow_add-i c =
    omega (arith, c.loop-i.invariant.within, c.loop-i-test.true, c.requires.fits)

pub returns-then-near-i : goal.returns-then-near-i
returns-then-near-i c =
    let given = c.args in
    let fault = faults_by given.rule in
    first_join fault given.text.now c.loop-i.i c.loop-i.invariant.clean
    (first_longer fault given.text.now (omega (arith, c.loop-i.invariant.within, c.loop-i-test.true))
    c.fault_in_block-near.ensures c.if-near-i.true)

pub overflow_add-i-in-loop-i : goal.overflow_add-i-in-loop-i
overflow_add-i-in-loop-i c = omega (arith, c.loop-i.invariant.within, c.loop-i-test.true)

pub loop-i-smaller : goal.loop-i-smaller
loop-i-smaller c = omega (arith, c.loop-i.invariant.within, c.loop-i-test.true)

pub loop-i-preserved : goal.loop-i-preserved
loop-i-preserved c =
    let given = c.args in
    let i = c.loop-i.i in
    searched_more (i + 16) (omega (arith, c.loop-i.invariant.within, c.loop-i-test.true))
    (elim c.if-any_suspect.branch [
      | then-any_suspect+else-near-i w ↦ first_none (faults_by given.rule) given.text.now w.fault_in_block-near.ensures w.if-near-i.false
      | else-any_suspect w ↦ c.any_suspect.ensures w.if-any_suspect.false given.rule
    ])
    c.loop-i.invariant

pub fault_in_rest-requires : goal.fault_in_rest-requires
fault_in_rest-requires c =
    let kept = c.loop-i.invariant in
    record {
      part = record { order = kept.within; fits = c.requires.fits };
      to_bound = omega (arith, kept.within, c.loop-i-test.false);
    }

pub returns : goal.returns
returns c =
    let given = c.args in
    first_join (faults_by given.rule) given.text.now c.loop-i.i c.loop-i.invariant.clean c.fault_in_rest.ensures
