-- `stands_before`: the bytes before the entry are looked through for its form.
use Rattle.std.proofs.Common.{◌≡◌, ℕ, ◌+◌, ◌-◌, take, drop, subst, ◌∙◌, arith}
use Rattle.register.specs.Stored.{u32_at}
use Rattle.register.specs.Places.{entries_in, Finds}
use Rattle.repeats.specs.Filter.{form_at}
use Rattle.repeats.proofs.Before.{found_tells}
use Rattle.repeats.proofs.stands_before.Goals as goal

pub returns : goal.returns
returns c =
    let register = c.args.register.now in
    let from = c.args.at + 8 in
    let before = entries_in (take c.args.at register) in
    let n : c.end_at-end.result - from ≡ u32_at register c.args.at = omega (arith, c.end_at-end.ensures) in
    let finds = subst (λ (k : ℕ). Finds (take k (drop from register)) before c.find.result) n c.find.ensures in
    c.is_some.ensures ∙ found_tells (form_at register c.args.at) before c.find.result finds
