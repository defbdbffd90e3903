-- `c14n` answers as the check of the text refuses, or else as `escape_by` does: the flags name the set (`chars_c14n`). Assumes nothing.
use mathlib.Core.Path.{ap, sym, ◌∙◌}
use mathlib.Core.List.{[], ◌∷◌}
use Rattle.text.specs.Call.{answered, finish}
use Rattle.text.proofs.Call.{passes, checked_length}
use Rattle.escape.specs.Escape.{Replacements, write}
use Rattle.escape.specs.Scan.{chars_set}
use Rattle.c14n.proofs.Sets.{chars_c14n}
use Rattle.c14n.proofs.c14n.Goals as goal

pub escape_by-requires : goal.escape_by-requires
escape_by-requires c = checked_length c.args.text.now _ (sym c.check_text.ensures ∙ ap answered c.in_ok-check_text.was)

pub returns : goal.returns
returns c =
    let given = c.args in
    let same = ap chars_set c.c14n_chars.ensures ∙ chars_c14n given.attribute in
    c.escape_by.ensures
    ∙ ap (λ (s : Replacements). finish (write s given.text.now) 0 given.out.now) same
    ∙ passes (given.out.now ∷ []) _ c.check_text.ensures (ap answered c.in_ok-check_text.was)
