-- `seen_at` compares the word that is read with the four keys one by one: it leaves at the first that is the same, or with 4.
use lib.ListN.{get_or}
use mathlib.Core.Path.{sym, ap, ◌∙◌}
use native.Mathlib.Omega.{arith}
use Rattle.tokens.specs.Seen.{moved_up}
use Prim.Native.Nat.{ℕ, zero-le, ◌+◌}
use Rattle.tokens.proofs.seen_at.Goals as goal

pub returns-then-text-at-lt8 : goal.returns-then-text-at-lt8
returns-then-text-at-lt8 c = (omega arith, λ h. absurd (omega arith))

pub word-word-requires : goal.word-word-requires
word-word-requires c = omega arith

pub loop-k-init : goal.loop-k-init
loop-k-init c = zero-le

pub bounds-seen-k : goal.bounds-seen-k
bounds-seen-k c = omega arith

pub moved_up-requires : goal.moved_up-requires
moved_up-requires c = c.requires.by_index c.loop-k.k c.loop-k-test.true

pub bounds-seen-k-in-loop-k : goal.bounds-seen-k-in-loop-k
bounds-seen-k-in-loop-k c = omega arith

pub returns-then-moved_up-seen : goal.returns-then-moved_up-seen
returns-then-moved_up-seen c =
    let seen = c.args.seen.now in
    let word = ap (λ (n : ℕ). moved_up (get_or seen (c.loop-k.k + 4) 0) n) (sym c.word-word.ensures) in
    (c.loop-k.invariant, λ h. record { room = omega arith; same = word ∙ sym c.moved_up.ensures ∙ c.if-moved_up-seen.true })

pub loop-k-preserved : goal.loop-k-preserved
loop-k-preserved c = omega arith

pub returns : goal.returns
returns c = (c.loop-k.invariant, λ h. absurd (omega arith))
