-- `joined_bits` keeps: if no bit is set, the bytes of the k words so far are ASCII; a word more adds its eight (`at_most_append`).
use mathlib.Core.Path.{◌≡◌}
use Prim.Native.Nat.{◌+◌, ◌*◌}
use native.Mathlib.Omega.{arith}
use borrow.Author.Count.{below_none}
use Rattle.text.proofs.Words.{or_none, at_most_append}
use borrow.Author.Rules.{rules}
use Rattle.text.proofs.validate.joined_bits.Goals as goal

pub loop-k-init : goal.loop-k-init
loop-k-init c = (search rules, λ e. record { at_most = below_none _ })

pub overflow_mul-k : goal.overflow_mul-k
overflow_mul-k c = omega (arith, c.requires, c.loop-k.invariant.0)

pub overflow_add-i : goal.overflow_add-i
overflow_add-i c = omega (arith, c.requires, c.loop-k.invariant.0)

pub high_bits-bits-requires : goal.high_bits-bits-requires
high_bits-bits-requires c = omega (arith, c.requires, c.loop-k.invariant.0)

pub loop-k-preserved : goal.loop-k-preserved
loop-k-preserved c = (
  search rules,
  λ e.
      let z = or_none c.loop-k.bits c.high_bits-bits.result e in
      let q : 8 * c.loop-k.k + 8 ≡ 8 * (c.loop-k.k + 1) = omega arith in
      rw q at (at_most_append _ _ _ 8 _ (c.loop-k.invariant.1 z.0) (c.high_bits-bits.ensures z.1)),
)

pub returns : goal.returns
returns c =
    λ e. let q : c.loop-k.k ≡ c.args.words = omega (arith, c.loop-k.invariant.0) in rw q at (c.loop-k.invariant.1 e)
