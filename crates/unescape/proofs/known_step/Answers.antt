-- `known_step`: a reference that is kept is given again (`known_again`); else it is read as it stands, and refuses (`known_once`) or
-- is kept then (`known_kept`).
use native.Mathlib.Omega.{arith}
use mathlib.Core.List.{List}
use Prim.Native.Nat.{ℕ}
use Rattle.entity.specs.Binding.{Bound, binding}
use borrow.Author.Rules.{rules}
use mathlib.Core.Path.{◌≡◌, sym, ap, ◌∙◌}
use Rattle.std.specs.Prelude.{Err}
use Rattle.tokens.specs.Walking.{stepped}
use Rattle.tokens.proofs.Repeats.{repeated, unwritten}
use Rattle.unescape.proofs.Known.{known_again, known_once, known_kept}
use Rattle.unescape.proofs.Turns.{referred_as}
use Rattle.unescape.proofs.known_step.Goals as goal
use Rattle.unescape.proofs.known_step.Goals.{Start}

-- the names' bindings
abbrev bound : Start → List ℕ → Bound
bound s = binding s.args.list.now s.args.pool.now

pub returns-in-Some : goal.returns-in-Some
returns-in-Some c =
    let a = c.args in
    known_again (bound (goal.at.returns-in-Some c).Start) a.text.now a.i a.len a.seen.now a.out.now c.requires.i_in_bounds.1
    (repeated a.text.now a.i a.len 0 0 a.seen.now c.in-Some.is c.seen_step.ensures)

pub returns-in_err-step : goal.returns-in_err-step
returns-in_err-step c =
    let a = c.args in
    let handed : c.from_residual.result ≡ Err c.in_err-step.field-0.0 = search rules in
    rw (ap stepped (handed ∙ sym c.in_err-step.was))
    (known_once (bound (goal.at.returns-in_err-step c).Start) a.text.now a.i a.len a.seen.now a.out.now
    (unwritten a.text.now a.i a.len 0 0 a.seen.now c.in_default.is c.seen_step.ensures)
    c.min-rest.ensures c.unescape_step.ensures)

pub overflow_sub-step : goal.overflow_sub-step
overflow_sub-step c =
    let n = (referred_as (bound (goal.at.overflow_sub-step c).Start) c.args.text.now (ap stepped c.in_ok-step.was) c.unescape_step.ensures).near in
    omega (arith, n.0)

pub remember-requires : goal.remember-requires
remember-requires c =
    let n = (referred_as (bound (goal.at.remember-requires c).Start) c.args.text.now (ap stepped c.in_ok-step.was) c.unescape_step.ensures).near in
    record { le_width = (omega (arith, n.0), omega (arith, n.0, n.1)); seen_len = (c.requires.len_bound.1.size, c.requires.len_bound.2) }

pub returns : goal.returns
returns c =
    let a = c.args in
    known_kept (bound (goal.at.returns c).Start) a.text.now a.i a.len a.seen.now a.out.now
    (unwritten a.text.now a.i a.len 0 0 a.seen.now c.in_default.is c.seen_step.ensures)
    c.min-rest.ensures (λ k. omega (arith, c.type_inv.text k)) c.requires.i_in_bounds.1
    (referred_as (bound (goal.at.returns c).Start) a.text.now (ap stepped c.in_ok-step.was) c.unescape_step.ensures)
    c.remember.ensures
