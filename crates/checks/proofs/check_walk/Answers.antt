-- `check_walk`: where length, settings and UTF-8 refuse nothing (`all_pass`) the table's check answers; a simple text is UTF-8 (`simple_passes`).
use mathlib.Core.Path.{◌≡◌, ap, sym, ◌∙◌}
use Rattle.text.specs.Call.{answered, and_then, argument_check}
use Rattle.entity.specs.Table.{table_check}
use Rattle.attribute.specs.Checks.{settings_check}
use Rattle.checks.proofs.Checks.{all_pass, simple_passes}
use Rattle.checks.proofs.check_walk.Goals as goal
use Rattle.checks.proofs.check_walk.Goals.{then-not-simple+in_ok-check_utf8, else-not-simple}

pub returns : goal.returns
returns c =
    let a = c.args in
    let t = a.text.now in
    let table = table_check a.list.now a.pool.now in
    let size = sym c.check_length.ensures ∙ ap answered c.in_ok-check_length.was in
    let settings = sym c.check_settings.ensures ∙ ap answered c.in_ok-check_settings.was in
    let rest : table ≡ and_then (argument_check t (settings_check a.version a.depth a.limit)) table =
    elim c.if-not-simple.branch [
      | then-not-simple+in_ok-check_utf8 w ↦ all_pass table size settings (sym w.check_utf8.ensures ∙ ap answered w.in_ok-check_utf8.was)
      | else-not-simple w ↦ all_pass table size settings (simple_passes t (c.requires w.if-not-simple.false))
    ] in
    c.check_lent.ensures ∙ rest
