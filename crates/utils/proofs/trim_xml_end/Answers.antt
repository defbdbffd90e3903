-- `utils::trim_xml_end` counts from the end. The invariant: the bytes passed are white space. Assumes nothing.
use native.Mathlib.Omega.{arith}
use mathlib.Core.Path.{sym, ◌∙◌}
use Prim.Native.Nat.{◌+◌, ◌-◌}
use Rattle.utils.proofs.Trim.{kept_on, kept_stop, end_at}
use Rattle.utils.proofs.trim_xml_end.Goals as goal

pub loop-i-init : goal.loop-i-init
loop-i-init c = c.drop_blanks-i.ensures

pub returns-then-not-is_whitespace : goal.returns-then-not-is_whitespace
returns-then-not-is_whitespace c =
    let t = c.args.text.now in
    let stop = kept_stop t c.loop-i.i (omega arith) c.loop-i.invariant.fits (sym c.is_whitespace.ensures ∙ c.if-not-is_whitespace.true) in
    end_at t (c.loop-i.i - 1 + 1) (omega (arith, stop, c.loop-i.invariant.same, c.loop-i-test.true))

pub loop-i-preserved : goal.loop-i-preserved
loop-i-preserved c =
    let t = c.args.text.now in
    let blank = sym c.is_whitespace.ensures ∙ c.if-not-is_whitespace.false in
    record { fits = omega (arith, c.loop-i.invariant.fits); same = sym (kept_on t c.loop-i.i (omega arith) c.loop-i.invariant.fits blank) ∙ c.loop-i.invariant.same }

pub returns : goal.returns
returns c = end_at c.args.text.now 0 (omega (arith, c.loop-i.invariant.same))
