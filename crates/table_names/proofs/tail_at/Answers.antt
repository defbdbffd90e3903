-- `tail_at` is what a UTF8-tail adds (`tail_is`), where the byte is one (`tail_not`).
use mathlib.Core.Path.{sym, ap, ◌∙◌}
use Prim.Native.Nat.{ℕ}
use Rattle.std.specs.Prelude.{Some}
use Rattle.table_names.proofs.TailBits.{tail_is, tail_not}
use Rattle.table_names.proofs.tail_at.Goals as goal

pub returns-then-b : goal.returns-then-b
returns-then-b c = ap (λ (n : ℕ). Some n) c.from.ensures ∙ sym (tail_is _ c.if-b.true)

pub returns : goal.returns
returns c = sym (tail_not _ c.if-b.false)
