-- `quick_plain`: where the four bytes are `&lt;` or `&gt;` and `is_plain` holds, the name is that predefined one (`plain_two`).
use mathlib.Core.Path.{refl}
use native.Mathlib.Omega.{arith}
use Rattle.entity.specs.Binding.{predefined_of}
use Rattle.flat.proofs.References.{plain_two}
use Rattle.flat.proofs.quick_plain.Goals as goal

pub returns-then-is_plain : goal.returns-then-is_plain
returns-then-is_plain c =
    let a = c.args in
    λ pool valid trusts.
    plain_two a.text.now a.list.now pool a.at (omega (arith, c.if-text-at-lt4.false, c.requires.at_in_bounds.0)) c.requires.at_in_bounds.2
    c.if-text-at-eq108.true c.if-text-at-ne116.false c.if-text-at-ne59.false (λ z. omega (arith, z)) (λ z. omega (arith, z))
    (λ z. omega (arith, z)) refl (unfold predefined_of in refl)
    (c.is_plain.ensures pool valid trusts (λ z. omega (arith, z)) c.if-is_plain.true)

pub returns-then-is_plain-2 : goal.returns-then-is_plain-2
returns-then-is_plain-2 c =
    let a = c.args in
    λ pool valid trusts.
    plain_two a.text.now a.list.now pool a.at (omega (arith, c.if-text-at-lt4.false, c.requires.at_in_bounds.0)) c.requires.at_in_bounds.2
    c.if-text-at-ne103.false c.if-text-at-ne116.false c.if-text-at-ne59.false (λ z. omega (arith, z)) (λ z. omega (arith, z))
    (λ z. omega (arith, z)) refl (unfold predefined_of in refl)
    (c.is_plain-2.ensures pool valid trusts (λ z. omega (arith, z)) c.if-is_plain-2.true)
