-- `is_named`: a name of another length (`differ_length`), or the bytes decide, which lie in the pool.
use Rattle.std.proofs.Common.{◌+◌, ◌≤◌, length, sym, ◌∙◌, arith}
use borrow.Author.Tests.{ne_eqb}
use Rattle.entity.specs.Table.{little_endian}
use Rattle.entity.proofs.Lookup.{differ_length, same_part}
use Rattle.entity.proofs.is_named.Goals as goal

pub returns-else-from-name : goal.returns-else-from-name
returns-else-from-name c =
    let a = c.args in
    let start = little_endian a.list.now (a.at + 1) 4 in
    let fits : start + c.from.result ≤ length a.pool.now = omega (arith, c.requires.at_in_bounds_2, c.from.ensures) in
    let other = differ_length a.pool.now start a.name.now c.from.result fits c.if-from-name.false in
    ne_eqb _ _ c.if-from-name.false ∙ sym (rw c.from.ensures at other)

pub same_part-requires : goal.same_part-requires
same_part-requires c = omega (arith, c.requires.at_in_bounds_2, c.u32_at.ensures.0, c.from.ensures, c.if-from-name.true)

pub returns-then-from-name : goal.returns-then-from-name
returns-then-from-name c =
    let a = c.args in
    sym (same_part a.pool.now a.name.now c.u32_at.ensures.0 (sym c.if-from-name.true ∙ c.from.ensures) (sym c.same_part.ensures))
