-- A text of the table is refused at the limit, had again from the memory, copied when it is short and without halts, or left to be opened; each
-- return is a law of Halting.antt. A look that finds nothing leaves the output as it was (`untouched`).
use Rattle.halts.specs.Halts.{blanks_spaced}
use Prim.Native.Nat.{ℕ, ◌-◌}
use mathlib.Core.Path.{◌≡◌, sym, subst}
use mathlib.Core.List.{List}
use native.Mathlib.Omega.{arith}
use lib.ListN.{length, take, drop}
use Rattle.memory.specs.Slots.{shaped}
use Rattle.memory.specs.Levels.{HadKeeps, level_of}
use Rattle.std.specs.Prelude.{Option, Ok}
use Rattle.memory.specs.declared.Had.{Had}
use Rattle.flat.specs.Between.{Writes, HaltKeeps, Referred}
use Rattle.flat.specs.declared.Halted.TheVariants.{Opening}
use Rattle.flat.proofs.Halting.{halt_limit, halt_again, halt_opens, halt_leaf}
use Rattle.flat.proofs.text_step.Goals as goal
use Rattle.flat.proofs.text_step.Goals.{After-again, In_default}

-- the output after the look
abbrev out_looked : After-again → List ℕ
out_looked c = c.again.new.out

-- ---- facts of these places
-- what the look keeps, of its result as it was matched
had_kept : (c : After-again) {r : Option Had} → c.again.result ≡ r → HadKeeps c.args.command c.args.slot c.args.reading c.args.place c.args.seen.now c.args.out.now (out_looked c) r
had_kept c q =
    let a = c.args in
    subst (HadKeeps a.command a.slot a.reading a.place a.seen.now a.out.now (out_looked c)) q c.again.ensures

-- where it found nothing, the output is as it was
untouched : (c : In_default) → c.again.new.out ≡ c.args.out.now
untouched c =
    let a = c.args in
    subst (HadKeeps a.command a.slot a.reading a.place a.seen.now a.out.now c.again.new.out) c.in_default.is c.again.ensures

-- the text is left to be opened
left_to_open : (c : In_default) (t list pool : List ℕ) → Referred c.args.reading t list pool c.args.place c.args.command c.args.next c.args.value.now → HaltKeeps (level_of c.args.reading list pool t) c.args.reading.base c.args.place c.args.out.now c.args.seen.now (c.again.new.out) c.args.seen.now (Ok (Opening c.args.next c.args.command c.args.slot))
left_to_open c t list pool k =
    let a = c.args in
    subst
    (λ (x : List ℕ). HaltKeeps (level_of a.reading list pool t) a.reading.base a.place a.out.now a.seen.now x a.seen.now
    (Ok (Opening a.next a.command a.slot))) (sym (untouched c))
    (halt_opens a.reading t list pool a.place k c.requires.command_bound.1 a.out.now a.seen.now c.if-place-reading.false)

-- ---- the limit, and the look
pub returns-then-place-reading : goal.returns-then-place-reading
returns-then-place-reading c = λ t list pool k.
    let a = c.args in
    halt_limit a.reading t list pool a.place k c.requires.command_bound.1 a.out.now a.seen.now c.if-place-reading.true

pub returns-in-Some : goal.returns-in-Some
returns-in-Some c = λ t list pool k.
    let a = c.args in
    halt_again a.reading t list pool a.place k c.requires.command_bound.1 a.out.now a.seen.now (had_kept (goal.at.returns-in-Some c).After-again c.in-Some.is)

pub write_run-n-requires : goal.write_run-n-requires
write_run-n-requires c =
    (omega arith, omega arith, omega (arith, c.requires.command_bound.2), omega (arith, c.requires.openings_le_limit))

pub overflow_add-reading : goal.overflow_add-reading
overflow_add-reading c = omega (arith, c.requires.openings_le_limit)

pub keep-requires : goal.keep-requires
keep-requires c =
    record { command_bound = (c.requires.command_bound.0, c.requires.command_bound.1); in_bounds = c.requires.bounds.size }

pub overflow_add-result : goal.overflow_add-result
overflow_add-result c = omega (arith, c.requires.openings_le_limit)

pub returns-then-is_leaf : goal.returns-then-is_leaf
returns-then-is_leaf c = λ t list pool k.
    let a = c.args in
    let added =
    subst
    (λ (x : List ℕ). Writes (shaped a.reading.form (blanks_spaced (take (length a.value.now - 0) (drop 0 a.value.now)))) a.place.len x
    c.write_run-n.new.out c.write_run-n.result) (untouched (goal.at.returns-then-is_leaf c).In_default) c.write_run-n.ensures in
    halt_leaf a.reading t list pool a.place k c.requires.command_bound.1 a.out.now a.seen.now c.if-place-reading.false
    c.if-reading-ne1.true (c.is_leaf.ensures c.if-is_leaf.true) added c.keep.ensures

pub returns-else-is_leaf : goal.returns-else-is_leaf
returns-else-is_leaf c = left_to_open (goal.at.returns-else-is_leaf c).In_default

pub returns-else-reading-ne1 : goal.returns-else-reading-ne1
returns-else-reading-ne1 c = left_to_open (goal.at.returns-else-reading-ne1 c).In_default
