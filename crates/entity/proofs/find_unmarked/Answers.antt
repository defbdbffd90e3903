-- `find_unmarked` answers with the first command 1 that has the name (`defines_hit`), or as `find_later` where another command comes: the loop
-- over commands keeps `Here`, the loop over bytes `Agree`.
use Rattle.std.proofs.Common.{ℕ, ◌+◌, ◌≤◌, length, refl, sym, ap, ◌∙◌, arith}
use Rattle.entity.specs.Table.{little_endian}
use Rattle.entity.proofs.Lookup.{in_list, over, last_over, command, on, agree_more, same_all, differ_length, differ_at, same_part}
use Rattle.entity.proofs.Referents.{defines_hit}
use Rattle.entity.proofs.find_unmarked.Goals as goal
use Rattle.entity.proofs.find_unmarked.Goals.{After-u32_at-start}

-- the name's bytes are in the pool
inside : (c : After-u32_at-start) → c.u32_at-start.result + length c.args.name.now ≤ length c.args.pool.now
inside c =
    let k = command c.commands.invariant c.if-list-at-ne-TEXT.false in
    omega (arith, k.name, c.u32_at-start.ensures.0, c.from-length.ensures, c.if-length-name.false)

pub bounds-list-at : goal.bounds-list-at
bounds-list-at c = in_list c.commands.invariant

pub overflow_add-at : goal.overflow_add-at
overflow_add-at c = omega (arith, in_list c.commands.invariant)

pub bounds-list-at-in-commands : goal.bounds-list-at-in-commands
bounds-list-at-in-commands c = let k = command c.commands.invariant c.if-list-at-ne-TEXT.false in omega arith

-- a name of another length
pub commands-preserved-then-length-name : goal.commands-preserved-then-length-name
commands-preserved-then-length-name c =
    let a = c.args in
    let k = command c.commands.invariant c.if-list-at-ne-TEXT.false in
    let start = little_endian a.list.now (c.commands.at + 1) 4 in
    let fits : start + c.from-length.result ≤ length a.pool.now = omega (arith, k.name, c.from-length.ensures) in
    on c.commands.invariant c.if-list-at-ne-TEXT.false refl c.from-length.ensures
    (differ_length a.pool.now start a.name.now c.from-length.result fits c.if-length-name.true)

pub u32_at-start-requires : goal.u32_at-start-requires
u32_at-start-requires c = let k = command c.commands.invariant c.if-list-at-ne-TEXT.false in omega arith

pub ends_differ-requires : goal.ends_differ-requires
ends_differ-requires c = inside c

-- a name with another end
pub commands-preserved-then-ends_differ : goal.commands-preserved-then-ends_differ
commands-preserved-then-ends_differ c =
    on c.commands.invariant c.if-list-at-ne-TEXT.false c.u32_at-start.ensures.0 (sym c.if-length-name.false ∙ c.from-length.ensures)
    (c.ends_differ.ensures c.if-ends_differ.true)

pub text_start-text-requires : goal.text_start-text-requires
text_start-text-requires c = (command c.commands.invariant c.if-list-at-ne-TEXT.false).fits

pub text_length-requires : goal.text_length-requires
text_length-requires c = (command c.commands.invariant c.if-list-at-ne-TEXT.false).fits

pub same_words-i-requires : goal.same_words-i-requires
same_words-i-requires c = inside (goal.at.same_words-i-requires c).After-u32_at-start

pub bytes-init : goal.bytes-init
bytes-init c = c.same_words-i.ensures

pub bounds-pool-start : goal.bounds-pool-start
bounds-pool-start c = omega (arith, inside (goal.at.bounds-pool-start c).After-u32_at-start, c.bytes.invariant.fits)

pub bytes-preserved : goal.bytes-preserved
bytes-preserved c =
    let a = c.args in
    let more : c.bytes.i + 1 ≤ length a.name.now = omega (arith, c.bytes.invariant.fits) in
    agree_more a.pool.now c.u32_at-start.result a.name.now c.bytes.i c.bytes.invariant (omega (arith, more)) c.if-pool-start.false (omega arith)

-- a byte that differs
pub commands-preserved : goal.commands-preserved
commands-preserved c =
    let a = c.args in
    let more : c.bytes.i + 1 ≤ c.from-length.result = omega (arith, c.bytes.invariant.fits) in
    on c.commands.invariant c.if-list-at-ne-TEXT.false c.u32_at-start.ensures.0 c.from-length.ensures
    (differ_at a.pool.now c.u32_at-start.result a.name.now c.from-length.result c.bytes.i (omega (arith, more)) c.if-pool-start.true)

-- the list is over
pub returns-then-at-list : goal.returns-then-at-list
returns-then-at-list c =
    let h = c.commands.invariant in
    c.plain_referent.ensures c.args.list.now c.args.pool.now (over h (last_over h (omega (arith, c.if-at-list.true))))

-- this command has it
pub returns-then-i-length : goal.returns-then-i-length
returns-then-i-length c =
    let a = c.args in
    let start = c.u32_at-start in
    let fits : start.result + c.from-length.result ≤ length a.pool.now =
    omega (arith, inside (goal.at.returns-then-i-length c).After-u32_at-start, c.if-length-name.false) in
    let all : c.from-length.result ≤ c.bytes.i = omega (arith, c.if-i-length.true) in
    let same = same_all a.pool.now start.result a.name.now c.from-length.result fits c.if-length-name.false c.bytes.invariant all in
    let named = same_part a.pool.now a.name.now start.ensures.0 c.from-length.ensures same in
    let short : little_endian a.list.now (c.commands.at + 10) 2 ≤ 65535 = omega (arith, c.text_length.ensures) in
    record {
      defines = defines_hit a.list.now a.pool.now a.name.now c.commands.at c.commands.invariant c.if-list-at-ne-TEXT.false named short;
      same = named;
      starts = c.text_start-text.ensures.0;
      ends = ap (λ (n : ℕ). c.text_start-text.result + n) c.text_length.ensures.0;
    }
