-- `put_bytes` meets its contract: at each turn the first i bytes are a run, and are laid over the output. Assumes nothing.
use mathlib.Core.Path.{◌≡◌, sym, ap, ◌∙◌}
use Prim.Native.Nat.{◌<◌}
use native.Mathlib.Omega.{arith}
use lib.ListN.{length, get_or}
use Rattle.output.proofs.Runs.{copied_none, copied_length, copied_byte, byte_fits}
use Rattle.escape.specs.Scan.{escaped_by, shown}
use Rattle.escape.proofs.Shown.{shown_length, shown_at, shown_escaped}
use Rattle.escape.proofs.put_bytes.Goals as goal
use Rattle.escape.proofs.put_bytes.Goals.{After-is_escaped}

-- the byte is inside, and is escaped where what is copied for it is
inside : (c : After-is_escaped) → c.loop-i.i < length (shown c.args.spaces c.args.text.now)
inside c = omega (arith, c.loop-i-test.true, shown_length c.args.spaces c.args.text.now)

tested : (c : After-is_escaped) → escaped_by c.args.chars (get_or (shown c.args.spaces c.args.text.now) c.loop-i.i 0) ≡ c.is_escaped.result
tested c =
    let given = c.args in
    ap (escaped_by given.chars) (shown_at given.spaces given.text.now c.loop-i.i)
    ∙ shown_escaped given.chars given.spaces c.requires.shows (get_or given.text.now c.loop-i.i 0)
    ∙ sym c.is_escaped.ensures

pub loop-i-init : goal.loop-i-init
loop-i-init c = (copied_none _ _ _, c.requires.room)

pub shape_of-out-then-is_escaped : goal.shape_of-out-then-is_escaped
shape_of-out-then-is_escaped c = let kept = c.loop-i.invariant in copied_length _ _ _ kept.0 kept.1

pub returns-then-is_escaped : goal.returns-then-is_escaped
returns-then-is_escaped c = record { copied = c.loop-i.invariant.0; ends = λ h. tested (goal.at.returns-then-is_escaped c).After-is_escaped ∙ c.if-is_escaped.true }

pub bounds-out-i : goal.bounds-out-i
bounds-out-i c =
    byte_fits _ _ _ c.loop-i.invariant.0 c.loop-i.invariant.1 (inside (goal.at.bounds-out-i c).After-is_escaped) (tested (goal.at.bounds-out-i c).After-is_escaped ∙ c.if-is_escaped.false)

pub loop-i-preserved : goal.loop-i-preserved
loop-i-preserved c =
    let given = c.args in
    let byte = c.shown_byte.ensures ∙ sym (shown_at given.spaces given.text.now c.loop-i.i) in
    (rw (sym byte) at (copied_byte _ _ _ c.loop-i.invariant.0 c.loop-i.invariant.1 (inside (goal.at.loop-i-preserved c).After-is_escaped) (tested (goal.at.loop-i-preserved c).After-is_escaped ∙ c.if-is_escaped.false)), c.loop-i.invariant.1)

pub shape_of-out : goal.shape_of-out
shape_of-out c = copied_length _ _ _ c.loop-i.invariant.0 c.loop-i.invariant.1

pub returns : goal.returns
returns c =
    let given = c.args in
    let all : c.loop-i.i ≡ length given.text.now = omega arith in
    record { copied = rw all at c.loop-i.invariant.0; ends = λ h. absurd (omega (arith, h, shown_length given.spaces given.text.now)) }
