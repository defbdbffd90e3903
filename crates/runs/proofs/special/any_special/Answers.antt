-- `any_special`: where nothing was hit, at none of the first k bytes one stands (`below_more`).
use mathlib.Core.Path.{◌≡◌}
use native.Mathlib.Omega.{arith}
use Prim.Native.Nat.{ℕ, ◌+◌}
use lib.ListN.{drop}
use borrow.Author.Count.{below_none, below_more}
use Rattle.text.specs.Version.{xml11}
use Rattle.text.proofs.Bytes.{or_left, or_right}
use Rattle.runs.specs.Specials.{special}
use Rattle.runs.proofs.Specials.{common_of}
use borrow.Author.Rules.{rules}
use Rattle.runs.proofs.special.any_special.Goals as goal

pub loop-k-init : goal.loop-k-init
loop-k-init c = (search rules, λ e. below_none _)

pub loop-k-preserved : goal.loop-k-preserved
loop-k-preserved c =
    let given = c.args in (
      search rules,
      λ e. below_more (λ (m : ℕ). special xml11 (drop (given.i + m) given.value.now) ≡ 0) _ (c.loop-k.invariant.1 (or_left _ _ e))
          (c.special_at-hit.ensures (or_right c.loop-k.hit _ e)),
    )

pub returns : goal.returns
returns c =
    let given = c.args in
    λ e. common_of xml11 given.value.now given.i 32 (omega (arith, c.requires)) (λ m h. c.loop-k.invariant.1 e m (omega (arith, h)))
