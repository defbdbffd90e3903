-- `keep_plain` stores one word; no words are left as they are.
use mathlib.Core.Path.{refl, ap}
use Prim.Native.Nat.{ℕ}
use native.Mathlib.Omega.{arith}
use lib.ListN.{set}
use Rattle.memory.proofs.Keeping.{plain_after}
use Rattle.memory.proofs.keep_plain.Goals as goal

pub returns-then-seen-eq0 : goal.returns-then-seen-eq0
returns-then-seen-eq0 c = record { none = λ q. refl; enters = λ q. absurd (q c.if-seen-eq0.true) }

pub offset_bounds-seen-plain_word : goal.offset_bounds-seen-plain_word
offset_bounds-seen-plain_word c =
    omega (arith, c.plain_word.ensures, plain_after c.args.b, c.requires c.if-seen-eq0.false)

pub bounds-seen-plain_word : goal.bounds-seen-plain_word
bounds-seen-plain_word c =
    omega (arith, c.plain_word.ensures, plain_after c.args.b, c.requires c.if-seen-eq0.false)

pub returns : goal.returns
returns c =
    let words = c.args.seen.now in
    record { none = λ q. absurd (c.if-seen-eq0.false q); enters = λ q. ap (λ (n : ℕ). set words n 1) c.plain_word.ensures }
