-- `utils::trim_xml_start` counts the white space in front. The invariant: the bytes passed are white space. Assumes nothing.
use native.Mathlib.Omega.{arith}
use mathlib.Core.Path.{sym, ◌∙◌}
use Rattle.utils.proofs.Trim.{blank_on, blank_stop, blank_over, start_at, start_none}
use Rattle.utils.proofs.trim_xml_start.Goals as goal

pub loop-i-init : goal.loop-i-init
loop-i-init c = c.skip_blanks-i.ensures

pub returns-then-not-is_whitespace : goal.returns-then-not-is_whitespace
returns-then-not-is_whitespace c =
    let t = c.args.text.now in
    start_at t c.loop-i.i (sym (blank_stop t c.loop-i.i (omega arith) (sym c.is_whitespace.ensures ∙ c.if-not-is_whitespace.true)) ∙ c.loop-i.invariant.same)

pub loop-i-preserved : goal.loop-i-preserved
loop-i-preserved c =
    let t = c.args.text.now in
    record { fits = omega arith; same = sym (blank_on t c.loop-i.i (omega arith) (sym c.is_whitespace.ensures ∙ c.if-not-is_whitespace.false)) ∙ c.loop-i.invariant.same }

pub returns : goal.returns
returns c =
    let t = c.args.text.now in
    start_none t (omega (arith, blank_over t c.loop-i.i (omega arith), c.loop-i.invariant.same, c.loop-i.invariant.fits))
