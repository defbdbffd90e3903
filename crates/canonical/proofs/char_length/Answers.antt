-- `char_length`: each way out by the law of its kind of character (proofs/Characters.antt). Assumes nothing.
use mathlib.Core.Path.{sym, ap, ◌∙◌}
use native.Mathlib.Omega.{arith}
use lib.ListN.{length}
use Rattle.eols.specs.Stops.{rule_for}
use Rattle.canonical.proofs.Characters.{char_added, char_special, apart, char_plain}
use Rattle.canonical.proofs.char_length.Goals as goal

pub returns-then-c-lt128 : goal.returns-then-c-lt128
returns-then-c-lt128 c =
    let given = c.args in
    omega (arith, c.added_one.ensures, char_added (rule_for given.newer) given.c _ c.escape_chars.ensures c.if-c-lt128.true)

pub returns-then-newer-c : goal.returns-then-newer-c
returns-then-newer-c c =
    let given = c.args in
    c.special_length.ensures.0 ∙ sym (ap length (char_special given.newer given.c 2 c.if-newer-c.true))

pub returns-then-newer-c-2 : goal.returns-then-newer-c-2
returns-then-newer-c-2 c =
    let given = c.args in
    c.special_length-then-newer-c-2.ensures.0 ∙ sym (ap length (char_special given.newer given.c 3 c.if-newer-c-2.true))

pub returns : goal.returns
returns c =
    let given = c.args in
    let none = apart given.newer given.c c.if-newer-c.false c.if-newer-c-2.false in
    let wide = c.if-c-lt128.false in
    c.utf8_length.ensures ∙ sym (ap length (char_plain (rule_for given.newer) given.c (omega (arith, wide)) none))
