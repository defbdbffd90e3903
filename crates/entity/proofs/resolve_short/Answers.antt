-- `resolve_short`: as `resolve_entity`, with the bytes of a name compared one by one.
use Rattle.std.proofs.Common.{◌+◌, ◌≤◌, length, refl, ◌∙◌, arith}
use Rattle.entity.specs.Table.{little_endian}
use Rattle.entity.proofs.Lookup.{begin, in_list, over, other_declares, command, on, hit, agree_none, agree_more, same_all, differ_length, differ_at}
use Rattle.entity.proofs.resolve_short.Goals as goal
use Rattle.entity.proofs.resolve_short.Goals.{After-u32_at-from}

-- the name's bytes are in the pool
inside : (c : After-u32_at-from) → c.u32_at-from.result + length c.args.name.now ≤ length c.args.pool.now
inside c =
    let k = command c.commands.invariant c.if-list-at-ne-TEXT.false in
    omega (arith, k.name, c.u32_at-from.ensures.0, c.from-length.ensures, c.if-length-name.false)

pub commands-init : goal.commands-init
commands-init c = begin c.args.list.now c.args.pool.now c.args.name.now c.requires c.mark_size-at.ensures

pub bounds-list-at : goal.bounds-list-at
bounds-list-at c = in_list c.commands.invariant

pub bounds-list-at-then-list-at-ne-TEXT : goal.bounds-list-at-then-list-at-ne-TEXT
bounds-list-at-then-list-at-ne-TEXT c = in_list c.commands.invariant

pub bounds-list-at-in-commands : goal.bounds-list-at-in-commands
bounds-list-at-in-commands c = let k = command c.commands.invariant c.if-list-at-ne-TEXT.false in omega arith

-- a name of another length
pub commands-preserved-then-length-name : goal.commands-preserved-then-length-name
commands-preserved-then-length-name c =
    let a = c.args in
    let k = command c.commands.invariant c.if-list-at-ne-TEXT.false in
    let start = little_endian a.list.now (c.commands.at + 1) 4 in
    let fits : start + c.from-length.result ≤ length a.pool.now = omega (arith, k.name, c.from-length.ensures) in
    on c.commands.invariant c.if-list-at-ne-TEXT.false refl c.from-length.ensures
    (differ_length a.pool.now start a.name.now c.from-length.result fits c.if-length-name.true)

pub u32_at-from-requires : goal.u32_at-from-requires
u32_at-from-requires c = let k = command c.commands.invariant c.if-list-at-ne-TEXT.false in omega arith

pub text_at-bound-requires : goal.text_at-bound-requires
text_at-bound-requires c = (command c.commands.invariant c.if-list-at-ne-TEXT.false).fits

pub bytes-init : goal.bytes-init
bytes-init c = agree_none c.args.pool.now c.u32_at-from.result c.args.name.now

pub bounds-pool-from : goal.bounds-pool-from
bounds-pool-from c = omega (arith, inside (goal.at.bounds-pool-from c).After-u32_at-from, c.bytes.invariant.fits)

pub bytes-preserved : goal.bytes-preserved
bytes-preserved c =
    let a = c.args in
    let more : c.bytes.k + 1 ≤ length a.name.now = omega (arith, c.bytes.invariant.fits) in
    agree_more a.pool.now c.u32_at-from.result a.name.now c.bytes.k c.bytes.invariant (omega (arith, more)) c.if-pool-from.false (omega arith)

-- a byte that differs
pub commands-preserved : goal.commands-preserved
commands-preserved c =
    let a = c.args in
    let more : c.bytes.k + 1 ≤ c.from-length.result = omega (arith, c.bytes.invariant.fits) in
    on c.commands.invariant c.if-list-at-ne-TEXT.false c.u32_at-from.ensures.0 c.from-length.ensures
    (differ_at a.pool.now c.u32_at-from.result a.name.now c.from-length.result c.bytes.k (omega (arith, more)) c.if-pool-from.true)

-- no command has the name
pub returns-else-list-at-eq-EXTERNAL : goal.returns-else-list-at-eq-EXTERNAL
returns-else-list-at-eq-EXTERNAL c =
    let pool = c.args.pool.now in
    let none = over c.commands.invariant (other_declares c.if-list-at-ne-TEXT.true (λ e. omega (arith, e, c.if-list-at-eq-EXTERNAL.false))) in
    record { result_value = c.resolve_xml_entity.ensures.by_index pool ∙ none; lies = c.resolve_xml_entity.ensures.by_index_2 pool }

-- this command has it
pub returns-then-k-length : goal.returns-then-k-length
returns-then-k-length c =
    let a = c.args in
    let start = c.u32_at-from in
    let fits : start.result + c.from-length.result ≤ length a.pool.now =
    omega (arith, inside (goal.at.returns-then-k-length c).After-u32_at-from, c.if-length-name.false) in
    let all : c.from-length.result ≤ c.bytes.k = omega (arith, c.if-k-length.true) in
    let same = same_all a.pool.now start.result a.name.now c.from-length.result fits c.if-length-name.false c.bytes.invariant all in
    let both = hit c.commands.invariant c.if-list-at-ne-TEXT.false start.ensures.0 c.from-length.ensures same c.text_at-bound.result c.text_at-bound.ensures in
    record { result_value = both.0; lies = both.1 }
