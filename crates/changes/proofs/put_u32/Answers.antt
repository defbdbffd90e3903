-- `put_u32`: the four lowest bytes of the number, and the rest stays.
use Rattle.std.proofs.Common.{List, ℕ, ◌++◌, take, drop, ap, ◌∙◌}
use Rattle.register.specs.Stored.{u32}
use Rattle.changes.proofs.put_u32.Goals as goal

pub returns : goal.returns
unfolding u32
returns c =
    let four = c.copy_from_slice.ensures.after ∙ ap (take 4) c.to_le_bytes.ensures in
    ap (λ (l : List ℕ). l ++ drop 4 c.args.out.now) four
