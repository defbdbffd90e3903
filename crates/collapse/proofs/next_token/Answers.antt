-- `next_token` finds what the definition says, case by case (`token_outside`, `token_none`, `token_some`).
use Prim.Native.Nat.{◌<◌}
use native.Mathlib.Omega.{arith}
use mathlib.Core.Path.{◌≡◌, sym, ◌∙◌}
use mathlib.Core.Bool.{false}
use lib.ListN.{length}
use Rattle.utils.specs.CData.{outside}
use Rattle.utils.proofs.Cuts.{inside_le}
use Rattle.collapse.proofs.Stage.{spaces_fit}
use Rattle.collapse.proofs.NextToken.{token_outside, token_none, token_some}
use Rattle.collapse.proofs.next_token.Goals as goal
use Rattle.collapse.proofs.next_token.Goals.{Else-is_outside, Else-start-text}

inside : (c : Else-is_outside) → outside c.args.text.now c.args.offset ≡ false
inside c = sym c.is_outside.ensures ∙ c.if-is_outside.false

-- the token starts in the text
starts : (c : Else-start-text) → c.skip_spaces-start.result < length c.args.text.now
starts c =
    let a = c.args in
    let fits = spaces_fit a.text.now a.offset (inside_le a.text.now a.offset (sym c.is_outside.ensures ∙ c.if-is_outside.false)) in
    omega (arith, c.skip_spaces-start.ensures, fits, c.if-start-text.false)

pub returns-then-is_outside : goal.returns-then-is_outside
returns-then-is_outside c =
    let a = c.args in
    token_outside a.text.now a.offset (sym c.is_outside.ensures ∙ c.if-is_outside.true)

pub skip_spaces-start-requires : goal.skip_spaces-start-requires
skip_spaces-start-requires c = inside_le c.args.text.now c.args.offset (inside c)

pub returns-then-start-text : goal.returns-then-start-text
returns-then-start-text c =
    token_none c.args.text.now c.args.offset (inside (goal.at.returns-then-start-text c).Else-is_outside) c.skip_spaces-start.ensures (omega (arith, c.if-start-text.true))

pub token_end-end-requires : goal.token_end-end-requires
token_end-end-requires c = omega (arith, starts c)

pub overflow_sub-result : goal.overflow_sub-result
overflow_sub-result c = c.token_end-end.ensures.run.from

pub returns : goal.returns
returns c =
    let a = c.args in
    token_some a.text.now a.offset (inside (goal.at.returns c).Else-is_outside) c.skip_spaces-start.ensures (starts (goal.at.returns c).Else-start-text) c.token_end-end.ensures
