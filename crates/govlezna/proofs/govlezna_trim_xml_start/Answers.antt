-- `govlezna_trim_xml_start` puts the part that `trim_xml_start` finds, once the text is checked (`trims`).
use mathlib.Core.Path.{◌∙◌}
use mathlib.Core.List.{[]}
use Rattle.utils.specs.Trim.{trim_start}
use Rattle.govlezna.proofs.Passing.{trims}
use Rattle.govlezna.proofs.govlezna_trim_xml_start.Goals as goal

pub returns : goal.returns
returns c =
    c.put.ensures [] ∙ trims trim_start c.args.text.now c.checked_part.ensures c.trim_xml_start.ensures
