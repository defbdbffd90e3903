-- `find_later` answers with the first command that has the name (`refers_hit`), or as a name that no command has: the loop over commands, of both
-- kinds, keeps `Here`, the loop over bytes `Agree`.
use Rattle.std.proofs.Common.{ℕ, ◌+◌, ◌-◌, ◌≤◌, ◌<◌, ◌≡◌, ◌≢◌, List, length, get_or, true, false, refl, sym, ◌∙◌, arith}
use Rattle.text.specs.Bytes.{same_bytes}
use Rattle.entity.specs.Table.{little_endian, part, declares}
use Rattle.entity.specs.Steps.{command_size, Here}
use Rattle.entity.proofs.Commands.{size_some, size_one}
use Rattle.entity.proofs.Lookup.{in_list, over, end_declares, here_declares, Declared, declared, passed_by, agree_more, same_all, differ_length, differ_at, same_part}
use Rattle.entity.proofs.Referents.{refers_hit}
use Rattle.entity.proofs.find_later.Goals as goal
use Rattle.entity.proofs.find_later.Goals.{After-u32_at-first}

-- a command at which the lookup stands: its operands are in the list, its name in the pool
module _ {list pool name : List ℕ} {at : ℕ} (h : Here list pool name at) (other : get_or list at 0 ≢ 0) where
  is : declares (get_or list at 0) ≡ true
  is = here_declares h other

  known : Declared list pool at
  known = declared h is

  six : at + 6 ≤ length list
  six = omega (arith, known.fits, size_some (get_or list at 0))

  -- past a command of another name: nearer to the list's end, and the lookup stands there
  module _ {size : ℕ} (wide : size ≡ command_size (get_or list at 0)) where
    nearer : length list - (at + size) < length list - at
    nearer = omega (arith, in_list h, wide, size_some (get_or list at 0))

    passes : {start n : ℕ} → start ≡ little_endian list (at + 1) 4 → n ≡ get_or list (at + 5) 0 → same_bytes (part pool start n) name ≡ false
        → Here list pool name (at + size)
    passes s n e = passed_by h is wide (same_part pool name s n e)

-- the name's bytes are in the pool
inside : (c : After-u32_at-first) → c.u32_at-first.result + length c.args.name.now ≤ length c.args.pool.now
inside c =
    let k = known c.commands.invariant c.if-list-at-eq-END.false in
    omega (arith, k.name, c.u32_at-first.ensures.0, c.from-length.ensures, c.if-length-name.false)

pub bounds-list-at : goal.bounds-list-at
bounds-list-at c = in_list c.commands.invariant

pub bounds-list-at-in-commands : goal.bounds-list-at-in-commands
bounds-list-at-in-commands c = omega (arith, six c.commands.invariant c.if-list-at-eq-END.false)

-- a name of another length
pub bounds-list-at-then-length-name : goal.bounds-list-at-then-length-name
bounds-list-at-then-length-name c = in_list c.commands.invariant

pub commands-smaller-then-length-name : goal.commands-smaller-then-length-name
commands-smaller-then-length-name c = nearer c.commands.invariant c.if-list-at-eq-END.false c.command_size-at.ensures.0

pub commands-preserved-then-length-name : goal.commands-preserved-then-length-name
commands-preserved-then-length-name c =
    let a = c.args in
    let h = c.commands.invariant in
    let other = c.if-list-at-eq-END.false in
    let start = little_endian a.list.now (c.commands.at + 1) 4 in
    let fits : start + c.from-length.result ≤ length a.pool.now = omega (arith, (known h other).name, c.from-length.ensures) in
    passes h other c.command_size-at.ensures.0 refl c.from-length.ensures (differ_length a.pool.now start a.name.now c.from-length.result fits c.if-length-name.true)

pub u32_at-first-requires : goal.u32_at-first-requires
u32_at-first-requires c = omega (arith, six c.commands.invariant c.if-list-at-eq-END.false)

pub ends_differ-requires : goal.ends_differ-requires
ends_differ-requires c = inside c

-- a name with another end
pub bounds-list-at-then-ends_differ : goal.bounds-list-at-then-ends_differ
bounds-list-at-then-ends_differ c = in_list c.commands.invariant

pub commands-smaller-then-ends_differ : goal.commands-smaller-then-ends_differ
commands-smaller-then-ends_differ c = nearer c.commands.invariant c.if-list-at-eq-END.false c.command_size-at-then-ends_differ.ensures.0

pub commands-preserved-then-ends_differ : goal.commands-preserved-then-ends_differ
commands-preserved-then-ends_differ c =
    passes c.commands.invariant c.if-list-at-eq-END.false c.command_size-at-then-ends_differ.ensures.0 c.u32_at-first.ensures.0
    (sym c.if-length-name.false ∙ c.from-length.ensures) (c.ends_differ.ensures c.if-ends_differ.true)

pub referent_at-found-requires : goal.referent_at-found-requires
referent_at-found-requires c =
    let k = known c.commands.invariant c.if-list-at-eq-END.false in
    (in_list c.commands.invariant, λ one. omega (arith, k.fits, size_one one))

pub same_words-i-requires : goal.same_words-i-requires
same_words-i-requires c = inside (goal.at.same_words-i-requires c).After-u32_at-first

pub bytes-init : goal.bytes-init
bytes-init c = c.same_words-i.ensures

pub bounds-pool-first : goal.bounds-pool-first
bounds-pool-first c =
    omega (arith, inside (goal.at.bounds-pool-first c).After-u32_at-first, c.bytes.invariant.fits, c.if-i-length.false, c.if-length-name.false)

pub bytes-preserved : goal.bytes-preserved
bytes-preserved c =
    let a = c.args in
    let more : c.bytes.i + 1 ≤ length a.name.now = omega (arith, c.bytes.invariant.fits, c.if-i-length.false, c.if-length-name.false) in
    agree_more a.pool.now c.u32_at-first.result a.name.now c.bytes.i c.bytes.invariant (omega (arith, more)) c.if-pool-first.false (omega arith)

-- a byte that differs
pub bounds-list-at-in-commands-2 : goal.bounds-list-at-in-commands-2
bounds-list-at-in-commands-2 c = in_list c.commands.invariant

pub commands-smaller : goal.commands-smaller
commands-smaller c = nearer c.commands.invariant c.if-list-at-eq-END.false c.command_size-at-in-commands.ensures.0

pub commands-preserved : goal.commands-preserved
commands-preserved c =
    let a = c.args in
    let more : c.bytes.i + 1 ≤ c.from-length.result = omega (arith, c.bytes.invariant.fits, c.if-i-length.false, c.if-length-name.false) in
    passes c.commands.invariant c.if-list-at-eq-END.false c.command_size-at-in-commands.ensures.0 c.u32_at-first.ensures.0 c.from-length.ensures
    (differ_at a.pool.now c.u32_at-first.result a.name.now c.from-length.result c.bytes.i (omega (arith, more)) c.if-pool-first.true)

-- no command has the name
pub returns-then-list-at-eq-END : goal.returns-then-list-at-eq-END
returns-then-list-at-eq-END c =
    c.plain_referent.ensures c.args.list.now c.args.pool.now (over c.commands.invariant (end_declares c.if-list-at-eq-END.true))

-- this command has it
pub returns-then-i-length : goal.returns-then-i-length
returns-then-i-length c =
    let a = c.args in
    let start = c.u32_at-first in
    let fits : start.result + c.from-length.result ≤ length a.pool.now =
    omega (arith, inside (goal.at.returns-then-i-length c).After-u32_at-first, c.if-length-name.false) in
    let all : c.from-length.result ≤ c.bytes.i = omega (arith, c.if-i-length.true) in
    let same = same_all a.pool.now start.result a.name.now c.from-length.result fits c.if-length-name.false c.bytes.invariant all in
    refers_hit c.commands.invariant (is c.commands.invariant c.if-list-at-eq-END.false) (same_part a.pool.now a.name.now start.ensures.0 c.from-length.ensures same)
    c.referent_at-found.result c.referent_at-found.ensures
