-- `same_long` keeps `Alike`, eight bytes further at each turn; the last word, which may overlap, decides (`last_word`).
use mathlib.Core.Path.{sym, ap₂, ◌∙◌}
use native.Mathlib.Omega.{arith}
use Prim.Native.Nat.{◌-◌}
use lib.Dec.{eqb}
use lib.ListN.{length}
use Rattle.register.specs.Places.{Small}
use Rattle.register.proofs.Comparing.{differ_word, last_word}
use Rattle.register.proofs.same_long.Goals as goal
use Rattle.register.proofs.same_long.Goals.{At-loop-i}

small_a : (c : At-loop-i) → Small c.args.a.now
small_a c k = omega (arith, c.type_inv.a k)

small_b : (c : At-loop-i) → Small c.args.b.now
small_b c k = omega (arith, c.type_inv.b k)

pub returns-then-word : goal.returns-then-word
returns-then-word c =
    differ_word c.args.a.now c.args.b.now c.loop-i.i
    (λ e. c.if-word.true (c.word.ensures ∙ e ∙ sym c.word-in-loop-i.ensures))

pub returns : goal.returns
returns c =
    let at = (goal.at.returns c).At-loop-i in
    let a = c.args.a.now in
    let b = c.args.b.now in
    ap₂ eqb c.word-2.ensures c.word-3.ensures
    ∙ last_word a b (small_a at) (small_b at) c.loop-i.i (length a - 8) c.requires.0 c.loop-i.invariant c.loop-i-test.false
    (omega (arith, c.requires))
