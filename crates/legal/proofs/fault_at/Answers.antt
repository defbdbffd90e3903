-- `fault_at`, by the byte: printable, ASCII, EF, C2 where C2 can begin a fault, any other. Assumes nothing.
use mathlib.Core.Path.{◌≡◌, sym, ap, ◌∙◌}
use Prim.Native.Nat.{ℕ}
use lib.Dec.{eqb}
use lib.ListN.{drop, get_or}
use borrow.Author.Tests.{eqb-true}
use Rattle.text.proofs.Bytes.{and_left, and_right}
use Rattle.legal.specs.FirstFault.{faults_by}
use Rattle.legal.proofs.Clean.{at_printable, at_ascii, at_other}
use Rattle.legal.proofs.fault_at.Goals as goal
use Rattle.legal.proofs.fault_at.Goals.{Then-b-rule}

pub returns-then-b : goal.returns-then-b
returns-then-b c =
    at_printable c.args.text.now c.args.i c.args.rule c.requires c.if-b.true

pub returns-then-b-lt128 : goal.returns-then-b-lt128
returns-then-b-lt128 c =
    c.ascii_fault.ensures ∙ at_ascii c.args.text.now c.args.i c.args.rule c.requires c.if-b-lt128.true

pub returns-then-b-2 : goal.returns-then-b-2
returns-then-b-2 c = c.noncharacter_at.ensures c.args.rule

-- the byte is C2, and the rule is that of a value under 1.1
is_c2 : (c : Then-b-rule) → get_or c.args.text.now c.args.i 0 ≡ 0xC2
is_c2 c =
    let b = get_or c.args.text.now c.args.i 0 in
    eqb-true b 0xC2 (and_left (eqb b 0xC2) (eqb c.args.rule 1) c.if-b-rule.true)

is_one : (c : Then-b-rule) → c.args.rule ≡ 1
is_one c =
    let b = get_or c.args.text.now c.args.i 0 in
    eqb-true c.args.rule 1 (and_right (eqb b 0xC2) (eqb c.args.rule 1) c.if-b-rule.true)

pub restricted_at-requires : goal.restricted_at-requires
restricted_at-requires c = record { i_in_bounds = c.requires; i_value = is_c2 c }

pub returns-then-b-rule : goal.returns-then-b-rule
returns-then-b-rule c =
    let given = c.args in
    c.restricted_at.ensures ∙ ap (λ (n : ℕ). faults_by n (drop given.i given.text.now)) (sym (is_one (goal.at.returns-then-b-rule c).Then-b-rule))

pub returns : goal.returns
returns c =
    at_other c.args.text.now c.args.i c.args.rule c.requires c.if-b-lt128.false c.if-b-2.false c.if-b-rule.false
