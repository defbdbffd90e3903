-- `is_plain`: a list of at most two bytes hides nothing (`bare_unhidden`), and a word that is set says it of its name (`Trusts`). Assumes nothing.
use mathlib.Core.Path.{sym, ap, ◌∙◌}
use mathlib.Core.Bool.{not, true≢false}
use native.Mathlib.Omega.{arith}
use Prim.Native.Nat.{ℕ}
use lib.ListN.{get_or}
use borrow.Author.Tests.{eq-eqb}
use Rattle.memory.proofs.Keeping.{plain_after}
use Rattle.memory.proofs.Unhidden.{bare_unhidden}
use Rattle.memory.proofs.is_plain.Goals as goal

pub returns-then-list-le2 : goal.returns-then-list-le2
returns-then-list-le2 c =
    let given = c.args in
    λ pool valid trusts other e. bare_unhidden given.list.now pool given.b valid c.if-list-le2.true

pub returns-then-seen-eq0 : goal.returns-then-seen-eq0
returns-then-seen-eq0 c = λ pool valid trusts other e. absurd (true≢false (sym e))

pub offset_bounds-seen-plain_word : goal.offset_bounds-seen-plain_word
offset_bounds-seen-plain_word c =
    omega (arith, c.plain_word.ensures, plain_after c.args.b, c.requires c.if-seen-eq0.false)

pub bounds-seen-plain_word : goal.bounds-seen-plain_word
bounds-seen-plain_word c =
    omega (arith, c.plain_word.ensures, plain_after c.args.b, c.requires c.if-seen-eq0.false)

pub returns : goal.returns
returns c =
    let given = c.args in
    λ pool valid trusts other e.
    trusts.plain given.b other
    (λ z. true≢false (sym e ∙ ap not (eq-eqb _ 0 (ap (λ (n : ℕ). get_or given.seen.now n 0) c.plain_word.ensures ∙ z))))
