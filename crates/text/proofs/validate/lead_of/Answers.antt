-- `lead_of`, return by return: the state after the first byte (laws of FirstByte.antt), and what it wants next (`leads`, `leads_none`).
use mathlib.Core.Path.{refl, sym, subst}
use native.Mathlib.Omega.{arith}
use Rattle.text.specs.Blocks.{Leads}
use Rattle.text.specs.Utf8.{is_between, next, one, two, three, after_e0, after_ed, after_f0, after_f4}
use Rattle.text.proofs.FirstByte.{first_low, first_one, first_e0, first_ed, first_two, first_f0, first_three, first_f4, first_high}
use Rattle.text.proofs.Characters.{leads_none, leads}
use Rattle.text.proofs.validate.lead_of.Goals as goal

pub returns-then-b-lt194 : goal.returns-then-b-lt194
returns-then-b-lt194 c =
    let given = c.args in
    subst (Leads given.b) (sym c.leading.ensures)
    (leads_none given.b 0x80 0xBF (first_low _ c.requires c.if-b-lt194.true))

pub returns-then-b-lt224 : goal.returns-then-b-lt224
unfolding is_between next
returns-then-b-lt224 c =
    let given = c.args in
    subst (Leads given.b) (sym c.leading-then-b-lt224.ensures)
    (leads given.b 2 0x80 0xBF one (first_one _ c.if-b-lt194.false c.if-b-lt224.true) refl (λ x. refl) (omega arith) (omega arith))

pub returns-then-b-eq224 : goal.returns-then-b-eq224
unfolding is_between next
returns-then-b-eq224 c =
    let given = c.args in
    subst (Leads given.b) (sym c.leading-then-b-eq224.ensures)
    (leads given.b 3 0xA0 0xBF after_e0 (first_e0 _ c.if-b-eq224.true) refl (λ x. refl) (omega arith) (omega arith))

pub returns-then-b-eq237 : goal.returns-then-b-eq237
unfolding is_between next
returns-then-b-eq237 c =
    let given = c.args in
    subst (Leads given.b) (sym c.leading-then-b-eq237.ensures)
    (leads given.b 3 0x80 0x9F after_ed (first_ed _ c.if-b-eq237.true) refl (λ x. refl) (omega arith) (omega arith))

pub returns-then-b-lt240 : goal.returns-then-b-lt240
unfolding is_between next
returns-then-b-lt240 c =
    let given = c.args in
    subst (Leads given.b) (sym c.leading-then-b-lt240.ensures)
    (leads given.b 3 0x80 0xBF two (first_two given.b (omega arith) c.if-b-lt240.true c.if-b-eq237.false) refl (λ x. refl) (omega arith) (omega arith))

pub returns-then-b-eq240 : goal.returns-then-b-eq240
unfolding is_between next
returns-then-b-eq240 c =
    let given = c.args in
    subst (Leads given.b) (sym c.leading-then-b-eq240.ensures)
    (leads given.b 4 0x90 0xBF after_f0 (first_f0 _ c.if-b-eq240.true) refl (λ x. refl) (omega arith) (omega arith))

pub returns-then-b-lt244 : goal.returns-then-b-lt244
unfolding is_between next
returns-then-b-lt244 c =
    let given = c.args in
    subst (Leads given.b) (sym c.leading-then-b-lt244.ensures)
    (leads given.b 4 0x80 0xBF three (first_three given.b (omega arith) c.if-b-lt244.true) refl (λ x. refl) (omega arith) (omega arith))

pub returns-then-b-eq244 : goal.returns-then-b-eq244
unfolding is_between next
returns-then-b-eq244 c =
    let given = c.args in
    subst (Leads given.b) (sym c.leading-then-b-eq244.ensures)
    (leads given.b 4 0x80 0x8F after_f4 (first_f4 _ c.if-b-eq244.true) refl (λ x. refl) (omega arith) (omega arith))

pub returns : goal.returns
returns c =
    let given = c.args in
    subst (Leads given.b) (sym c.leading-2.ensures)
    (leads_none given.b 0x80 0xBF (first_high given.b (omega arith)))
