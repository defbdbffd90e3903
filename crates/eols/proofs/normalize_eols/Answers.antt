use lib.Dec.{ltb}
use Rattle.eols.specs.Stops.{rule_for}
use mathlib.Core.Path.{refl, ap, ◌∙◌}
use native.Mathlib.Omega.{arith}
use lib.ListN.{length}
use Rattle.text.specs.Call.{laid}
use Rattle.text.specs.Version.{Rule, rule_of}
use Rattle.output.proofs.Finish.{finish_short, finish_laid}
use Rattle.eols.specs.LineEnds.{eols}
use Rattle.eols.proofs.LineEnds.{version_rule}
use Rattle.eols.proofs.Normal.{eols_length as no_longer}
use Rattle.eols.proofs.normalize_eols.Goals as goal
use Rattle.eols.proofs.normalize_eols.Goals.{Joined-out-text, then-out-text+else-out-n, else-out-text}
use Rattle.std.proofs.Common.{◌≤◌}

pub returns-then-out-n : goal.returns-then-out-n
returns-then-out-n c =
    let given = c.args in
    finish_short (eols (rule_of given.version) given.text.now) 0 given.out.now
    (c.eols_length-n.ensures ∙ ap (λ (r : Rule). length (eols r given.text.now)) (version_rule given.version _ refl)) c.if-out-n.true

-- the output has room for the result
room : (c : Joined-out-text) → length (eols (rule_for (ltb 1 c.args.version)) c.args.text.now) ≤ length c.args.out.now
room c =
    elim c.if-out-text.branch [
      | then-out-text+else-out-n w ↦ omega arith
      | else-out-text w ↦ omega (arith, no_longer (rule_for (ltb 1 c.args.version)) c.args.text.now)
    ]

pub write_eols-written-requires : goal.write_eols-written-requires
write_eols-written-requires c = room (goal.at.write_eols-written-requires c).Joined-out-text

pub returns : goal.returns
returns c =
    let given = c.args in
    finish_laid (eols (rule_of given.version) given.text.now) 0 given.out.now
    (c.write_eols-written.ensures.0 ∙ ap (λ (r : Rule). length (eols r given.text.now)) (version_rule given.version _ refl))
    (omega (arith, room (goal.at.returns c).Joined-out-text, c.write_eols-written.ensures.0))
    (c.write_eols-written.ensures.1 ∙ ap (λ (r : Rule). laid (eols r given.text.now) given.out.now) (version_rule given.version _ refl))
