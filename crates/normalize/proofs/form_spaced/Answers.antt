-- `form_spaced` ends as the writer of runs says: the form is laid where it fits (`form_laid`), else the output is left (`form_left_lem`).
use Rattle.tokens.specs.Walking.{short_of}
use Rattle.tokens.proofs.Buffers.{short_answer}
use mathlib.Core.Path.{◌∙◌}
use native.Mathlib.Omega.{arith}
use Rattle.eols.specs.Stops.{rule_for}
use Rattle.canonical.specs.Canonical.{canonical}
use Rattle.halts.specs.Halts.{blanks_spaced}
use Rattle.normalize.proofs.Texts.{form_left_lem, form_laid}
use Rattle.normalize.proofs.form_spaced.Goals as goal

pub returns-then-out-length : goal.returns-then-out-length
returns-then-out-length c =
    let a = c.args in
    let short = form_left_lem (short_of a.buffer) (canonical (rule_for a.newer) (blanks_spaced a.text.now)) a.out.now c.write_form-length.ensures.writes c.write_form-length.ensures.out_unchanged
    (omega (arith, c.if-out-length.true, c.write_form-length.ensures.writes.1.buffer)) in
    (short_answer a.buffer _ c.too_short.ensures ∙ short.0, short.1)

pub returns : goal.returns
returns c =
    let a = c.args in
    form_laid (short_of a.buffer) (canonical (rule_for a.newer) (blanks_spaced a.text.now)) a.out.now c.write_form-length.ensures.writes (omega (arith, c.if-out-length.false, c.write_form-length.ensures.writes.1.buffer))
