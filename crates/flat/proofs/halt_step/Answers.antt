-- A halt is a line end or a blank, one space (`halt_blank`), or a reference: `&lt;` or `&gt;` told by its bytes (`halt_plain`), or what it means
-- decides (`means`): a character is written, a name goes on in `named_step`, a refusal is handed on. Without a memory it may pause instead, and
-- nothing has changed.
use Prim.Native.Nat.{◌+◌}
use mathlib.Core.Path.{◌≡◌, ap, subst, ◌∙◌}
use native.Mathlib.Omega.{arith}
use Rattle.memory.proofs.Readings.{lent_within, lent_room, lent_trusts}
use Rattle.flat.specs.Between.{Means}
use borrow.Author.Rules.{rules}
use Rattle.std.specs.Prelude.{Result, Ok, Err}
use Rattle.text.specs.declared.refusals.Refusal.{Refusal}
use Rattle.flat.specs.declared.Meaning.{Meaning}
use Rattle.flat.proofs.Halting.{halt_blank, halt_plain, plain_ascii, halt_char, halt_refused}
use Rattle.flat.proofs.halt_step.Goals as goal
use Rattle.flat.proofs.halt_step.Goals.{After-read_reference}

-- what the reference means, as it was matched
means : (c : After-read_reference) {r : Result Meaning Refusal} → c.read_reference.result ≡ r → Means c.args.reading.inguard c.args.text.now c.args.place.at r
means c q = subst (Means c.args.reading.inguard c.args.text.now c.args.place.at) q c.read_reference.ensures

pub overflow_add-result : goal.overflow_add-result
overflow_add-result c =
    omega (arith, c.blank_width-width.ensures.inside, c.requires.depth_nonzero.2)

pub returns-then-text-at-ne38 : goal.returns-then-text-at-ne38
returns-then-text-at-ne38 c =
    let a = c.args in
    halt_blank a.reading a.text.now a.list.now a.pool.now a.place c.requires.depth_nonzero.0 a.out.now a.seen.now
    c.requires.at_in_bounds.0 c.requires.at_in_bounds.1 c.blank_width-width.ensures c.put_byte.ensures

pub write_byte-written-requires : goal.write_byte-written-requires
write_byte-written-requires c =
    let a = c.args in
    let plain = c.in-Some.ensures a.pool.now c.requires.valid_table (lent_trusts a.reading a.list.now a.pool.now a.text.now c.requires.lent) in
    let within = lent_within a.reading a.list.now a.pool.now a.text.now c.requires.lent in
    let room = lent_room a.reading a.list.now a.pool.now a.text.now c.requires.lent in
    (plain_ascii a.text.now a.list.now a.pool.now a.place.at c.in-Some.plain plain, omega (arith, room, within, c.requires.depth_nonzero.1))

pub returns-in-Some : goal.returns-in-Some
returns-in-Some c =
    let a = c.args in
    let trusts = lent_trusts a.reading a.list.now a.pool.now a.text.now c.requires.lent in
    let plain = c.in-Some.ensures a.pool.now c.requires.valid_table trusts in
    let next : a.place.at + 3 + 1 ≡ a.place.at + 4 = omega arith in
    rw next at
    (halt_plain a.reading a.text.now a.list.now a.pool.now a.place c.requires.depth_nonzero.0 a.out.now a.seen.now
    plain.name plain.bound c.write_byte-written.ensures)

pub write_char-more-requires : goal.write_char-more-requires
write_char-more-requires c =
    let a = c.args in
    let room = lent_room a.reading a.list.now a.pool.now a.text.now c.requires.lent in
    let within = lent_within a.reading a.list.now a.pool.now a.text.now c.requires.lent in
    ((means (goal.at.write_char-more-requires c).After-read_reference (c.in_ok-c.was ∙ ap (λ m. Ok m) c.in-Char.is)).small, omega (arith, room, within, c.requires.depth_nonzero.1))

pub named_step-requires : goal.named_step-requires
named_step-requires c =
    record { valid_table = c.requires.valid_table; depth_nonzero = c.requires.depth_nonzero; for_name = means (goal.at.named_step-requires c).After-read_reference (c.in_ok-c.was ∙ ap (λ m. Ok m) c.in-Name.is); lent = c.requires.lent }

pub returns-in-Char : goal.returns-in-Char
returns-in-Char c =
    let a = c.args in
    halt_char a.reading a.text.now a.list.now a.pool.now a.place c.requires.depth_nonzero.0 a.out.now a.seen.now
    (means (goal.at.returns-in-Char c).After-read_reference (c.in_ok-c.was ∙ ap (λ m. Ok m) c.in-Char.is)) c.write_char-more.ensures

pub returns-in_err-c : goal.returns-in_err-c
returns-in_err-c c =
    let a = c.args in
    let handed : c.from_residual.result ≡ Err c.in_err-c.field-0.0 = search rules in
    rw handed
    (halt_refused a.reading a.text.now a.list.now a.pool.now a.place c.requires.depth_nonzero.0 a.out.now a.seen.now
    c.requires.at_in_bounds.0 (means (goal.at.returns-in_err-c c).After-read_reference c.in_err-c.was))
