-- `look_up` keeps `Looking`: a command with the name is `index_hit`, an empty slot `index_miss`, and full slots are answered by the plain lookup.
-- Whether a slot is empty is asked of `omega`, so that another number is refused as one.
use Rattle.std.proofs.Common.{ℕ, ◌-◌, ◌<◌, ◌≢◌, length, get_or, refl, ap, ◌∙◌, arith}
use Rattle.entity.proofs.Commands.{size_some, size_one}
use Rattle.entity.proofs.Lookup.{Declared}
use Rattle.table_index.specs.Index.{home_at, home_of, slot_of, Sized}
use Rattle.table_index.proofs.Finding.{probing_none}
use Rattle.table_index.proofs.IndexStates.{built_sized}
use Rattle.table_index.proofs.Looked.{looked_none, looked_declared, looked_hit, looked_more, long_none}
use Rattle.table_index.proofs.look_up.Goals as goal
use Rattle.table_index.proofs.look_up.Goals.{After-hash, Else-s-eq0}

sized : (c : After-hash) → Sized c.args.index.now
sized c = built_sized _ _ c.requires.ready.0 c.requires.ready.1

-- the slot has something in it
some : (c : Else-s-eq0) → c.slot_at-s.result ≢ 0
some c none = absurd (omega (arith, none, c.if-s-eq0.false))

-- the slot's command
declared : (c : Else-s-eq0) → Declared c.args.list.now c.args.pool.now (c.slot_at-s.result - 1)
declared c = looked_declared c.loop-k.invariant c.loop-k-test.true c.slot_at-s.ensures.0 (some c)

pub plain_referent-requires : goal.plain_referent-requires
plain_referent-requires c = tt

pub returns-then-name-gt255 : goal.returns-then-name-gt255
returns-then-name-gt255 c =
    let list = c.args.list.now in
    let pool = c.args.pool.now in
    let bytes : (k : ℕ) → get_or list k 0 < 0x100 = λ k. omega (arith, c.type_inv.list k) in
    let whole = c.requires.ready.0.built c.requires.ready.1 in
    c.plain_referent.ensures list pool (long_none list pool c.args.name.now c.requires.valid_table whole bytes c.if-name-gt255.true)

pub hash-requires : goal.hash-requires
hash-requires c = omega (arith, c.if-name-gt255.false)

pub overflow_sub-index : goal.overflow_sub-index
overflow_sub-index c = omega (arith, (sized c).least)

pub home-from-requires : goal.home-from-requires
home-from-requires c = (c.hash.ensures.1, omega (arith, (sized c).least), omega (arith, (sized c).least, (sized c).large))

pub loop-k-init : goal.loop-k-init
loop-k-init c =
    let a = c.args in
    let size = length a.index.now in
    record {
      valid = c.requires.valid_table;
      whole = c.requires.ready.0.built c.requires.ready.1;
      is = c.home-from.ensures.0 ∙ ap (λ (h : ℕ). home_at h (size - 1)) c.hash.ensures.0;
      fits = c.home-from.ensures.1;
      large = c.requires.ready.0.large;
      within = omega arith;
      probing = probing_none a.list.now a.pool.now (home_of size) (slot_of a.index.now) a.name.now;
    }

pub overflow_add-from : goal.overflow_add-from
overflow_add-from c = let l = c.loop-k.invariant in omega (arith, l.fits, l.large, c.loop-k-test.true)

pub slot_at-s-requires : goal.slot_at-s-requires
slot_at-s-requires c = let l = c.loop-k.invariant in (omega (arith, l.fits, c.loop-k-test.true), l.large)

pub plain_referent-requires-then-s-eq0 : goal.plain_referent-requires-then-s-eq0
plain_referent-requires-then-s-eq0 c = tt

pub returns-then-s-eq0 : goal.returns-then-s-eq0
returns-then-s-eq0 c =
    let a = c.args in
    let none = looked_none c.loop-k.invariant c.loop-k-test.true c.slot_at-s.ensures.0 (omega (arith, c.if-s-eq0.true)) in
    c.plain_referent-then-s-eq0.ensures a.list.now a.pool.now none

pub overflow_sub-s : goal.overflow_sub-s
overflow_sub-s c = omega (arith, c.if-s-eq0.false)

pub is_name-requires : goal.is_name-requires
is_name-requires c =
    let d = declared c in
    record { at_in_bounds = omega (arith, d.fits, size_some (get_or c.args.list.now (c.slot_at-s.result - 1) 0)); at_in_bounds_2 = d.name }

pub overflow_sub-s-then-is_name : goal.overflow_sub-s-then-is_name
overflow_sub-s-then-is_name c = omega (arith, c.if-s-eq0.false)

pub referent_at-requires : goal.referent_at-requires
referent_at-requires c =
    let d = declared (goal.at.referent_at-requires c).Else-s-eq0 in
    (omega (arith, d.fits, size_some (get_or c.args.list.now (c.slot_at-s.result - 1) 0)), λ one. omega (arith, d.fits, size_one one))

pub returns-then-is_name : goal.returns-then-is_name
returns-then-is_name c =
    let taken = looked_hit c.loop-k.invariant c.loop-k-test.true c.slot_at-s.ensures.0 (some (goal.at.returns-then-is_name c).Else-s-eq0) in
    taken c.is_name.ensures c.if-is_name.true c.referent_at.result c.referent_at.ensures

pub loop-k-preserved : goal.loop-k-preserved
loop-k-preserved c =
    looked_more c.loop-k.invariant c.loop-k-test.true c.slot_at-s.ensures.0 (some (goal.at.loop-k-preserved c).Else-s-eq0) c.is_name.ensures c.if-is_name.false refl

pub find_entity-requires : goal.find_entity-requires
find_entity-requires c = c.loop-k.invariant.valid

pub returns : goal.returns
returns c = c.find_entity.ensures
