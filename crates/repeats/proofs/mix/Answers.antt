-- `mix`: both sums wrap as the definition has it.
use Rattle.std.proofs.Common.{ℕ, ◌+◌, ◌*◌, ◌/◌, ◌%◌, ◌^◌, ap, ◌∙◌}
use Rattle.repeats.specs.Hash.{mix}
use Rattle.repeats.proofs.mix.Goals as goal

pub returns : goal.returns
unfolding mix
returns c =
    c.wrapping_add_u64.ensures.value
    ∙ ap (λ (x : ℕ). (x % 0x100000000 * 0xFD7046C5 + x / 0x100000000 * 0xB55A4F09) % 2 ^ 64) c.wrapping_add_u64-x.ensures.value
