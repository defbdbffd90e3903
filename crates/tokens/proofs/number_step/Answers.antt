-- `number_step`: no digits and a number that is refused are passed upward (`number_refused`); a character is written (`number_written`).
-- The digits are lent as a part of themselves, so that what is read is the number of the whole (`number`).
use mathlib.Core.Path.{◌≡◌, sym, ap, ◌∙◌}
use native.Mathlib.Nat.{le_refl}
use lib.ListN.{length, take}
use lib.Seq.{take_all}
use Rattle.charref.specs.CharRef.{char_number, any_character}
use Rattle.charref.proofs.Numbers.{char_none, char_number_character_lem}
use Rattle.std.specs.Prelude.{Result}
use borrow.Author.Rules.{rules}
use Prim.Native.Nat.{ℕ}
use Rattle.charref.specs.Reading.{legal_by}
use Rattle.charref.specs.Errors.{read_as, refusal_for}
use Rattle.charref.specs.declared.ParseCharRefError.{ParseCharRefError}
use Rattle.charref.proofs.Errors.{read_char}
use Rattle.tokens.proofs.Numbers.{number_written, number_refused}
use Rattle.tokens.proofs.number_step.Goals as goal
use Rattle.tokens.proofs.number_step.Goals.{Start}

-- the digits are handed on as a part that is all of them
all_digits : (s : Start) → take (length s.args.digits.now) s.args.digits.now ≡ s.args.digits.now
all_digits s = take_all (length s.args.digits.now) s.args.digits.now (le_refl _)

pub returns-then-len-eq0 : goal.returns-then-len-eq0
returns-then-len-eq0 c =
    let given = c.args in
    number_refused given.digits.now given.next given.openings given.out.now
    (ap read_as (char_none any_character given.digits.now c.if-len-eq0.true))

pub slice_bounds-parse_number-end : goal.slice_bounds-parse_number-end
slice_bounds-parse_number-end c = ap length (sym (all_digits (goal.at.slice_bounds-parse_number-end c).Start))

-- the number of the whole
number : (s : Start) {r : Result ℕ ParseCharRefError}
    → r ≡ read_as (char_number (legal_by 0) (take (length s.args.digits.now) s.args.digits.now))
    → r ≡ read_as (char_number any_character s.args.digits.now)
number s e = e ∙ ap (λ d. read_as (char_number any_character d)) (all_digits s)

pub returns-in_default : goal.returns-in_default
returns-in_default c =
    let given = c.args in
    let handed : c.from.result ≡ refusal_for c.unwrap_err.result = search rules in
    rw handed
    (number_refused given.digits.now given.next given.openings given.out.now
    (number (goal.at.returns-in_default c).Start (sym c.unwrap_err.ensures ∙ c.parse_number-n.ensures)))

pub char_step-requires : goal.char_step-requires
char_step-requires c =
    (char_number_character_lem c.args.digits.now c.in-Ok.c
    (read_char _ (sym c.in-Ok.is ∙ number (goal.at.char_step-requires c).Start c.parse_number-n.ensures))).most

pub returns : goal.returns
returns c =
    let given = c.args in
    number_written given.digits.now given.next given.openings
    (read_char _ (sym c.in-Ok.is ∙ number (goal.at.returns c).Start c.parse_number-n.ensures)) c.char_step.ensures
