-- `form_copied` counts only where the output may be too short: a form has at most six times the bytes of its value (`at-most-six`).
use Rattle.tokens.specs.Walking.{short_of}
use Rattle.tokens.proofs.Buffers.{short_answer}
use mathlib.Core.Path.{◌∙◌}
use Prim.Native.Nat.{◌≤◌}
use lib.ListN.{length}
use native.Mathlib.Omega.{arith}
use Rattle.eols.specs.Stops.{rule_for}
use Rattle.canonical.specs.Canonical.{canonical}
use Rattle.canonical.proofs.Canonical.{canonical_length as at-most-six}
use Rattle.normalize.proofs.Texts.{form_short, form_written}
use Rattle.normalize.proofs.form_copied.Goals as goal
use Rattle.normalize.proofs.form_copied.Goals.{Joined-out-text, then-out-text+else-out-length, else-out-text}

-- there is room for the form
form_fits : (c : Joined-out-text) → length (canonical (rule_for c.args.newer) c.args.text.now) ≤ length c.args.out.now
form_fits c =
    let six = (at-most-six (rule_for c.args.newer) c.args.text.now).1 in
    elim c.if-out-text.branch [
      | then-out-text+else-out-length w ↦ omega (arith, w.canonical_length-length.ensures, w.if-out-length.false)
      | else-out-text w ↦ omega (arith, w.if-out-text.false, six)
    ]

pub returns-then-out-length : goal.returns-then-out-length
returns-then-out-length c =
    let a = c.args in
    let short = form_short (short_of a.buffer) (canonical (rule_for a.newer) a.text.now) a.out.now c.canonical_length-length.ensures c.if-out-length.true in
    (short_answer a.buffer _ c.too_short.ensures ∙ short.0, short.1)

pub write_canonical-written-requires : goal.write_canonical-written-requires
write_canonical-written-requires c = form_fits (goal.at.write_canonical-written-requires c).Joined-out-text

pub returns : goal.returns
returns c =
    let a = c.args in
    form_written (short_of a.buffer) (canonical (rule_for a.newer) a.text.now) a.out.now c.write_canonical-written.ensures.0
    (form_fits (goal.at.returns c).Joined-out-text) c.write_canonical-written.ensures.1
