-- `check_entry`: an entry that is cut (`spoiled_cut`), has no count or is no UTF-8 is a fault; else it is good.
use mathlib.Core.Path.{◌≡◌, sym, ap, ◌∙◌}
use native.Mathlib.Omega.{arith}
use Prim.Native.Nat.{ℕ, ◌+◌, ◌-◌}
use lib.ListN.{take, drop}
use Rattle.text.specs.Utf8.{well_formed}
use Rattle.register.specs.Stored.{u32_at}
use Rattle.register.specs.Places.{Whole}
use Rattle.register.proofs.Checking.{spoiled_cut, spoiled_count, spoiled_utf8}
use Rattle.register.proofs.check_entry.Goals as goal
use Rattle.register.proofs.check_entry.Goals.{Else-left-u32_at, After-is_utf8}

whole : (c : Else-left-u32_at) → Whole c.args.register.now c.args.at
whole c = record { fits = omega (arith, c.requires, c.if-left-u32_at.false, c.u32_at.ensures, c.if-left-lt8.false) }

-- the form that was checked is the entry's
checked : (c : After-is_utf8)
    → c.is_utf8.result ≡ well_formed (take (u32_at c.args.register.now c.args.at) (drop (c.args.at + 8) c.args.register.now))
checked c =
    let register = c.args.register.now in
    let from = c.args.at + 8 in
    let n : c.end_at-end.result - from ≡ u32_at register c.args.at = omega (arith, c.end_at-end.ensures) in
    c.is_utf8.ensures ∙ ap (λ (k : ℕ). well_formed (take k (drop from register))) n

pub returns-then-left-lt8 : goal.returns-then-left-lt8
returns-then-left-lt8 c = spoiled_cut c.args.register.now c.args.at c.requires (omega arith)

pub returns-then-left-u32_at : goal.returns-then-left-u32_at
returns-then-left-u32_at c = spoiled_cut c.args.register.now c.args.at c.requires (omega (arith, c.u32_at.ensures))

pub returns-then-u32_at-eq0 : goal.returns-then-u32_at-eq0
returns-then-u32_at-eq0 c =
    let w = whole (goal.at.returns-then-u32_at-eq0 c).Else-left-u32_at in
    spoiled_count c.args.register.now c.args.at w (sym c.u32_at-2.ensures.0 ∙ c.if-u32_at-eq0.true)

pub returns : goal.returns
returns c =
    let w = whole (goal.at.returns c).Else-left-u32_at in
    spoiled_utf8 c.args.register.now c.args.at w (sym (checked (goal.at.returns c).After-is_utf8) ∙ c.if-is_utf8.false)
