-- The version gives how the value is read, the mark how the texts of the list are.
use mathlib.Core.Path.{sym, ◌∙◌}
use Rattle.walk_least_depth.proofs.allowed_for.Goals as goal

pub returns-then-is_marked : goal.returns-then-is_marked
returns-then-is_marked c =
    let q = sym c.is_marked.ensures ∙ c.if-is_marked.true in
    rw (c.how_of-how.ensures, q)

pub returns-else-is_marked : goal.returns-else-is_marked
returns-else-is_marked c =
    let q = sym c.is_marked.ensures ∙ c.if-is_marked.false in
    rw (c.how_of-how.ensures, q)
