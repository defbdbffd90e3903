-- `named_hand`: the form ends with none of the references before (`no_1`, ..), and with the one that is answered. Assumes nothing.
use mathlib.Core.Path.{◌≡◌, sym, ◌∙◌}
use mathlib.Core.Bool.{false}
use mathlib.Core.List.{List, [], ◌∷◌}
use Prim.Native.Nat.{ℕ}
use Rattle.canonical.specs.LastCharacter.{filled_up}
use Rattle.canonical.specs.FormEnds.{ends_with, last_named}
use Rattle.canonical.proofs.named_hand.Goals as goal
use Rattle.canonical.proofs.named_hand.Goals.{Else-ends_with, Else-ends_with-2, Else-ends_with-3, Else-ends_with-4, Else-ends_with-5}

-- places: where a test failed, seen from where the next did; the form, seen from the first
abbrev form : Else-ends_with → List ℕ
form c = c.args.form.now

no_1 : (c : Else-ends_with) → ends_with (38 ∷ 108 ∷ 116 ∷ 59 ∷ []) (form c) ≡ false
no_1 c = sym c.ends_with.ensures ∙ c.if-ends_with.false

no_2 : (c : Else-ends_with-2) → ends_with (38 ∷ 103 ∷ 116 ∷ 59 ∷ []) (c.args.form.now) ≡ false
no_2 c = sym c.ends_with-2.ensures ∙ c.if-ends_with-2.false

no_3 : (c : Else-ends_with-3) → ends_with (38 ∷ 97 ∷ 109 ∷ 112 ∷ 59 ∷ []) (c.args.form.now) ≡ false
no_3 c = sym c.ends_with-3.ensures ∙ c.if-ends_with-3.false

no_4 : (c : Else-ends_with-4) → ends_with (38 ∷ 97 ∷ 112 ∷ 111 ∷ 115 ∷ 59 ∷ []) (c.args.form.now) ≡ false
no_4 c = sym c.ends_with-4.ensures ∙ c.if-ends_with-4.false

no_5 : (c : Else-ends_with-5) → ends_with (38 ∷ 113 ∷ 117 ∷ 111 ∷ 116 ∷ 59 ∷ []) (c.args.form.now) ≡ false
no_5 c = sym c.ends_with-5.ensures ∙ c.if-ends_with-5.false

pub returns-then-ends_with : goal.returns-then-ends_with
unfolding last_named filled_up
returns-then-ends_with c = sym (rw (sym c.ends_with.ensures ∙ c.if-ends_with.true))

pub returns-then-ends_with-2 : goal.returns-then-ends_with-2
unfolding last_named filled_up
returns-then-ends_with-2 c =
    sym (rw (no_1 (goal.at.returns-then-ends_with-2 c).Else-ends_with, sym c.ends_with-2.ensures ∙ c.if-ends_with-2.true))

pub returns-then-ends_with-3 : goal.returns-then-ends_with-3
unfolding last_named filled_up
returns-then-ends_with-3 c =
    sym (rw (no_1 (goal.at.returns-then-ends_with-3 c).Else-ends_with, no_2 (goal.at.returns-then-ends_with-3 c).Else-ends_with-2, sym c.ends_with-3.ensures ∙ c.if-ends_with-3.true))

pub returns-then-ends_with-4 : goal.returns-then-ends_with-4
unfolding last_named filled_up
returns-then-ends_with-4 c =
    sym (rw (no_1 (goal.at.returns-then-ends_with-4 c).Else-ends_with, no_2 (goal.at.returns-then-ends_with-4 c).Else-ends_with-2, no_3 (goal.at.returns-then-ends_with-4 c).Else-ends_with-3, sym c.ends_with-4.ensures ∙ c.if-ends_with-4.true))

pub returns-then-ends_with-5 : goal.returns-then-ends_with-5
unfolding last_named filled_up
returns-then-ends_with-5 c =
    sym (rw (no_1 (goal.at.returns-then-ends_with-5 c).Else-ends_with, no_2 (goal.at.returns-then-ends_with-5 c).Else-ends_with-2, no_3 (goal.at.returns-then-ends_with-5 c).Else-ends_with-3, no_4 (goal.at.returns-then-ends_with-5 c).Else-ends_with-4, sym c.ends_with-5.ensures ∙ c.if-ends_with-5.true))

pub returns : goal.returns
unfolding last_named filled_up
returns c =
    c.numbered_hand.ensures
    ∙ sym (rw (no_1 (goal.at.returns c).Else-ends_with, no_2 (goal.at.returns c).Else-ends_with-2, no_3 (goal.at.returns c).Else-ends_with-3, no_4 (goal.at.returns c).Else-ends_with-4, no_5 (goal.at.returns c).Else-ends_with-5))
