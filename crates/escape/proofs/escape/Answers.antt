-- `escape` meets its contract: the flags of the level name its set. Assumes nothing.
use mathlib.Core.Path.{ap, ◌∙◌}
use Rattle.text.specs.Call.{finish}
use Rattle.escape.specs.Escape.{Replacements, write, level_of}
use Rattle.escape.specs.Scan.{chars_set}
use Rattle.escape.proofs.Levels.{chars_level}
use Rattle.escape.proofs.escape.Goals as goal

pub returns : goal.returns
returns c =
    let given = c.args in
    let same = ap chars_set c.escape_chars.ensures ∙ chars_level (level_of given.level) in
    c.escape_by.ensures ∙ ap (λ (s : Replacements). finish (write s given.text.now) 0 given.out.now) same
