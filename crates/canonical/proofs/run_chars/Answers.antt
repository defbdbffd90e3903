-- `run_chars` meets its contract: level 0 where spaces are wanted, else level 3. Assumes nothing.
use mathlib.Core.Path.{sym, ap, ◌∙◌}
use mathlib.Core.Bool.{Bool}
use Rattle.text.specs.Bytes.{pick}
use Rattle.escape.specs.Escape.{full, attribute, level_of}
use Rattle.escape.specs.Scan.{level_chars}
use Rattle.canonical.proofs.run_chars.Goals as goal

pub returns-then-spaces : goal.returns-then-spaces
unfolding level_of
returns-then-spaces c = c.escape_chars.ensures ∙ sym (ap (λ (s : Bool). level_chars (pick s full attribute)) c.if-spaces.true)

pub returns : goal.returns
unfolding level_of
returns c = c.escape_chars-2.ensures ∙ sym (ap (λ (s : Bool). level_chars (pick s full attribute)) c.if-spaces.false)
