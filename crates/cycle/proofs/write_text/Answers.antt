-- The text is laid whole where it fits (`text_laid`), else nothing is (`text_long`), or its form is written (`text_form`).
use Rattle.cycle.proofs.Exhausted.{text_laid, text_long, text_form}
use Rattle.cycle.proofs.write_text.Goals as goal

pub returns-then-form-ne0 : goal.returns-then-form-ne0
returns-then-form-ne0 c =
    text_form c.if-form-ne0.true c.args.text.now c.write_value.ensures

pub returns-then-n-out : goal.returns-then-n-out
returns-then-n-out c =
    text_laid c.if-form-ne0.false c.args.text.now c.if-n-out.true c.put_run.ensures

pub returns-else-n-out : goal.returns-else-n-out
returns-else-n-out c = text_long c.if-form-ne0.false c.args.text.now c.if-n-out.false
