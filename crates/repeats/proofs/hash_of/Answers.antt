-- `hash_of`: short and long forms.
use Rattle.std.proofs.Common.{◌∙◌}
use Rattle.repeats.proofs.Hashing.{hash_short_lem, hash_long_lem}
use Rattle.repeats.proofs.hash_of.Goals as goal

pub returns-then-form-lt8 : goal.returns-then-form-lt8
returns-then-form-lt8 c = c.hash_short.ensures ∙ hash_short_lem c.args.form.now c.if-form-lt8.true

pub returns : goal.returns
returns c = c.hash_long.ensures ∙ hash_long_lem c.args.form.now c.if-form-lt8.false
