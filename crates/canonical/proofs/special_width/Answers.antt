-- `special_width`: a law for each return (`special_nel`, `special_ls`, `special_none`).
use mathlib.Core.Path.{sym, ◌∙◌}
use lib.ListN.{drop}
use mathlib.Core.List.{[], ◌∷◌}
use Rattle.runs.proofs.Specials.{special_nel, special_ls, special_none}
use Rattle.text.proofs.Patterns.{begins_cons}
use Rattle.canonical.proofs.special_width.Goals as goal

pub returns-then-two_at : goal.returns-then-two_at
returns-then-two_at c =
    let given = c.args in
    sym (special_nel (drop given.i given.value.now) (sym c.two_at.ensures ∙ c.if-two_at.true))

pub returns-then-two_at-2 : goal.returns-then-two_at-2
returns-then-two_at-2 c =
    let given = c.args in
    sym (special_ls (drop given.i given.value.now) (sym c.two_at.ensures ∙ c.if-two_at.false)
    (begins_cons 0xE2 (0x80 ∷ 0xA8 ∷ []) given.value.now given.i
    ∙ rw (sym c.byte_at.ensures ∙ c.if-byte_at.true, sym c.two_at-then-byte_at.ensures ∙ c.if-two_at-2.true)))

pub returns-else-two_at-2 : goal.returns-else-two_at-2
returns-else-two_at-2 c =
    let given = c.args in
    sym (special_none (drop given.i given.value.now) (sym c.two_at.ensures ∙ c.if-two_at.false)
    (begins_cons 0xE2 (0x80 ∷ 0xA8 ∷ []) given.value.now given.i
    ∙ rw (sym c.byte_at.ensures ∙ c.if-byte_at.true, sym c.two_at-then-byte_at.ensures ∙ c.if-two_at-2.false)))

pub returns-else-byte_at : goal.returns-else-byte_at
returns-else-byte_at c =
    let given = c.args in
    sym (special_none (drop given.i given.value.now) (sym c.two_at.ensures ∙ c.if-two_at.false)
    (begins_cons 0xE2 (0x80 ∷ 0xA8 ∷ []) given.value.now given.i ∙ rw (sym c.byte_at.ensures ∙ c.if-byte_at.false)))
