-- `refers_to` asks an index that is whole, trusts a slot that names a command of this name (`refers_known`) and a word that is set
-- (`refers_trusted`), and else asks the index behind the memory, or the table. Both are lent the table as parts that are all of it (`asked`, `answered`).
use mathlib.Core.Path.{◌≡◌, sym, ap, ◌∙◌}
use mathlib.Core.Logic.{◌≢◌}
use mathlib.Core.List.{List}
use Prim.Native.Nat.{ℕ, ◌+◌, ◌-◌, ◌<◌}
use native.Mathlib.Omega.{arith}
use native.Mathlib.Nat.{le_refl}
use lib.ListN.{length, get_or, take}
use lib.Seq.{take_all}
use borrow.Rule.Slice.PartMut.{mid_of, put_mid}
use Rattle.entity.specs.Table.{ValidTable}
use Rattle.entity.specs.Commands.{Defines, Refers}
use Rattle.entity.specs.declared.Referent.{Referent}
use Rattle.table_index.specs.Index.{Ready}
use Rattle.memory.specs.Slots.{Trusts, Indexed}
use Rattle.memory.proofs.Keeping.{plain_after, index_lent, index_kept, index_same}
use Rattle.memory.proofs.Hits.{refers_known, refers_trusted}
use Rattle.memory.proofs.refers_to.Goals as goal

-- a slot's word names a command by its offset and 1
less_one : {n : ℕ} → n ≢ 0 → n ≡ n - 1 + 1
less_one {n} h = omega (arith, h)

slot_defines : {list pool words : List ℕ} {k : ℕ} → Trusts list pool words → k < 16 → get_or words k 0 ≢ 0 → Defines list pool (get_or words k 0 - 1)
slot_defines {list} {pool} {words} {k} t h e = t.defines k (get_or words k 0 - 1) h (less_one e)

-- a part that is all of a list
abbrev all : List ℕ → List ℕ
all l = take (length l) l

whole : (l : List ℕ) → all l ≡ l
whole l = take_all (length l) l (le_refl _)

-- what `find` is asked, and what it answers
asked : {list pool words : List ℕ} → ValidTable list pool → Trusts list pool words → 84 < length words → ValidTable (all list) (all pool) × ((length (mid_of 84 (length words - 84) words) ≢ 0) × Ready (all list) (all pool) (mid_of 84 (length words - 84) words))
asked {list} {pool} {words} valid t h = rw (whole list, whole pool) (valid, index_lent t h)

answered : (list pool name : List ℕ) (r : Referent) {words part : List ℕ} → 84 < length words → Refers (all list) (all pool) (all name) r → Ready (all list) (all pool) part × (length part ≡ length (mid_of 84 (length words - 84) words)) → Refers list pool name r × Indexed list pool words (put_mid 84 (length words - 84) words part)
answered list pool name r {words} {part} h refers kept =
    let ready : Ready list pool part = rw (whole list, whole pool) at kept.0 in
    (rw (whole list, whole pool, whole name) at refers, index_kept h ready kept.1)

pub slice_bounds-find-end : goal.slice_bounds-find-end
slice_bounds-find-end c = ap length (sym (whole c.args.list.now))

pub slice_bounds-find-end-then-is_indexed : goal.slice_bounds-find-end-then-is_indexed
slice_bounds-find-end-then-is_indexed c = ap length (sym (whole c.args.pool.now))

pub slice_bounds-find-end-then-is_indexed-2 : goal.slice_bounds-find-end-then-is_indexed-2
slice_bounds-find-end-then-is_indexed-2 c = ap length (sym (whole c.args.name.now))

pub slice_bounds-find-count : goal.slice_bounds-find-count
slice_bounds-find-count c = omega (arith, c.is_indexed.ensures c.if-is_indexed.true)

pub slice_bounds-find-start : goal.slice_bounds-find-start
slice_bounds-find-start c = omega (arith, c.is_indexed.ensures c.if-is_indexed.true)

pub find-requires : goal.find-requires
find-requires c =
    let both = asked c.requires.valid_table c.requires.trusts (c.is_indexed.ensures c.if-is_indexed.true) in
    record { valid_table = both.0; index_nonzero = both.1 }

pub returns-then-is_indexed : goal.returns-then-is_indexed
returns-then-is_indexed c =
    let a = c.args in
    let both = answered a.list.now a.pool.now a.name.now c.find.result (c.is_indexed.ensures c.if-is_indexed.true) c.find.ensures.refers c.find.ensures.ready in
    record { refers = both.0; indexed = both.1 }

pub bounds-seen-slot : goal.bounds-seen-slot
bounds-seen-slot c =
    omega (arith, c.requires.trusts.size c.if-seen-ne0.true, c.requires.slot_bound.0)

pub is_named-requires : goal.is_named-requires
is_named-requires c =
    let d = slot_defines c.requires.trusts c.requires.slot_bound.0 c.if-known-ne0.true in
    record { at_in_bounds = omega (arith, d.fits); at_in_bounds_2 = d.name }

pub text_start-start-requires : goal.text_start-start-requires
text_start-start-requires c =
    (slot_defines c.requires.trusts c.requires.slot_bound.0 c.if-known-ne0.true).fits

pub text_length-requires : goal.text_length-requires
text_length-requires c =
    (slot_defines c.requires.trusts c.requires.slot_bound.0 c.if-known-ne0.true).fits

pub returns-then-is_named : goal.returns-then-is_named
returns-then-is_named c =
    record {
      refers = let named = sym c.is_named.ensures ∙ c.if-is_named.true in
          refers_known c.args.name.now c.requires.trusts c.requires.slot_bound.0 (less_one c.if-known-ne0.true) named
          c.text_start-start.ensures.0 c.text_length.ensures.0;
      indexed = index_same c.requires.trusts;
    }

pub offset_bounds-seen-plain_word : goal.offset_bounds-seen-plain_word
offset_bounds-seen-plain_word c =
    omega (arith, c.plain_word.ensures, plain_after c.in-Predefined.b, c.requires.trusts.size c.if-seen-ne0.true)

pub bounds-seen-plain_word : goal.bounds-seen-plain_word
bounds-seen-plain_word c =
    omega (arith, c.plain_word.ensures, plain_after c.in-Predefined.b, c.requires.trusts.size c.if-seen-ne0.true)

pub returns-then-seen-plain_word-ne0 : goal.returns-then-seen-plain_word-ne0
returns-then-seen-plain_word-ne0 c =
    record {
      refers = refers_trusted c.args.name.now c.requires.trusts c.requires.slot_bound.1 c.resolve_xml_entity.result c.resolve_xml_entity.ensures.by_index c.resolve_xml_entity.ensures.by_index_2
          c.in-Predefined.is (λ z. c.if-seen-plain_word-ne0.true (ap (λ (n : ℕ). get_or c.args.seen.now n 0) c.plain_word.ensures ∙ z));
      indexed = index_same c.requires.trusts;
    }

pub slice_bounds-find_entity-end : goal.slice_bounds-find_entity-end
slice_bounds-find_entity-end c = ap length (sym (whole c.args.list.now))

pub slice_bounds-find_entity-end-then-seen-le84 : goal.slice_bounds-find_entity-end-then-seen-le84
slice_bounds-find_entity-end-then-seen-le84 c = ap length (sym (whole c.args.pool.now))

pub slice_bounds-find_entity-end-then-seen-le84-2 : goal.slice_bounds-find_entity-end-then-seen-le84-2
slice_bounds-find_entity-end-then-seen-le84-2 c = ap length (sym (whole c.args.name.now))

pub find_entity-requires : goal.find_entity-requires
find_entity-requires c =
    rw (whole c.args.list.now, whole c.args.pool.now) c.requires.valid_table

pub returns-then-seen-le84 : goal.returns-then-seen-le84
returns-then-seen-le84 c =
    let a = c.args in
    record { refers = rw (whole a.list.now, whole a.pool.now, whole a.name.now) at c.find_entity.ensures; indexed = index_same c.requires.trusts }

pub slice_bounds-find-end-2 : goal.slice_bounds-find-end-2
slice_bounds-find-end-2 c = ap length (sym (whole c.args.list.now))

pub slice_bounds-find-end-3 : goal.slice_bounds-find-end-3
slice_bounds-find-end-3 c = ap length (sym (whole c.args.pool.now))

pub slice_bounds-find-end-4 : goal.slice_bounds-find-end-4
slice_bounds-find-end-4 c = ap length (sym (whole c.args.name.now))

pub find-requires-2 : goal.find-requires-2
find-requires-2 c =
    let both = asked c.requires.valid_table c.requires.trusts (omega (arith, c.if-seen-le84.false)) in
    record { valid_table = both.0; index_nonzero = both.1 }

pub returns : goal.returns
returns c =
    let a = c.args in
    let both = answered a.list.now a.pool.now a.name.now c.find-2.result (omega (arith, c.if-seen-le84.false)) c.find-2.ensures.refers c.find-2.ensures.ready in
    record { refers = both.0; indexed = both.1 }
