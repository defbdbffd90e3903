-- `put_again`: one byte is one store (`again_one`); else the loop keeps, of whatever value lay in the output at its start, that k bytes of it
-- from `from` on follow it (`again_byte`).
use Rattle.output.proofs.Clip.{length_over}
use Rattle.tokens.proofs.Repeats.{again_byte, again_one}
use Prim.Native.Nat.{ℕ, zero-le}
use mathlib.Core.Path.{◌≡◌, refl, sym, ap, ◌∙◌}
use mathlib.Core.List.{List, ◌++◌, append-nil}
use native.Mathlib.Omega.{arith}
use lib.ListN.{length, take, drop, length-set, get_or}
use Rattle.output.specs.Over.{over}
use Rattle.tokens.proofs.put_again.Goals as goal

pub bounds-out-from : goal.bounds-out-from
bounds-out-from c = omega (arith, c.requires, c.if-count-eq1.true)

pub bounds-out-at : goal.bounds-out-at
bounds-out-at c = omega (arith, c.requires, c.if-count-eq1.true)

pub shape_of-out-then-count-eq1 : goal.shape_of-out-then-count-eq1
shape_of-out-then-count-eq1 c =
    let given = c.args in
    length-set given.out.now given.at (get_or given.out.now given.from 0)

pub returns-then-count-eq1 : goal.returns-then-count-eq1
returns-then-count-eq1 c =
    let one = c.if-count-eq1.true in
    let a = c.args in (
      length-set a.out.now a.at (get_or a.out.now a.from 0),
      λ value whole e n.
          again_one value whole a.from a.at a.count one n (omega (arith, c.requires, one)) (omega (arith, c.requires, ap length e, length_over value whole)) e,
    )

pub loop-k-init : goal.loop-k-init
loop-k-init c = (zero-le, refl, λ value whole e n. e ∙ ap (λ (l : List ℕ). over l whole) (sym (append-nil value)))

pub bounds-out-from-in-loop-k : goal.bounds-out-from-in-loop-k
bounds-out-from-in-loop-k c = omega arith

pub bounds-out-at-in-loop-k : goal.bounds-out-at-in-loop-k
bounds-out-at-in-loop-k c = omega arith

pub loop-k-preserved : goal.loop-k-preserved
loop-k-preserved c =
    let a = c.args in (
      omega arith,
      simp length-set c.loop-k.invariant.1,
      λ value whole e n. again_byte value whole a.from a.at c.loop-k.k n (omega arith) (omega (arith, ap length e, length_over value whole)) (c.loop-k.invariant.2 value whole e n),
    )

pub shape_of-out : goal.shape_of-out
shape_of-out c = c.loop-k.invariant.1

pub returns : goal.returns
returns c =
    let a = c.args in
    let q : c.loop-k.k ≡ a.count = omega arith in
    (c.loop-k.invariant.1, λ value whole e n. c.loop-k.invariant.2 value whole e n ∙ ap (λ (k : ℕ). over (value ++ take k (drop a.from value)) whole) q)
