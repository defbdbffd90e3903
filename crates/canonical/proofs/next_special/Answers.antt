-- `next_special`: under XML 1.0 there is none (`common_older`); else what is passed stays without one, by blocks and then byte by byte.
use mathlib.Core.Path.{◌≡◌, sym, ◌∙◌}
use native.Mathlib.Omega.{arith}
use lib.ListN.{length, drop}
use Rattle.text.specs.Version.{xml11}
use Rattle.runs.proofs.Specials.{common_join, common_one}
use Rattle.canonical.proofs.Between.{common_older, common_newer, newer_special}
use Rattle.canonical.proofs.next_special.Goals as goal

pub returns-then-not-newer : goal.returns-then-not-newer
returns-then-not-newer c =
    record { common = common_older c.args.newer _ _ c.if-not-newer.true c.requires; nonzero = λ h. absurd (omega (arith, h)) }

pub returns-then-special_width-ne0 : goal.returns-then-special_width-ne0
returns-then-special_width-ne0 c =
    let given = c.args in
    record {
      common = common_newer given.newer _ _ _ c.if-not-newer.false c.loop-i.invariant;
      nonzero = λ h. newer_special given.newer (drop c.loop-i.i given.value.now)
          c.if-not-newer.false (omega (arith, c.special_width.ensures, c.if-special_width-ne0.true));
    }

pub loop-i-preserved : goal.loop-i-preserved
loop-i-preserved c =
    common_join xml11 _ _ c.loop-i.i _ c.loop-i.invariant (common_one xml11 _ _ c.loop-i-test.true (sym c.special_width.ensures ∙ c.if-special_width-ne0.false))

pub returns : goal.returns
returns c =
    let all : c.loop-i.i ≡ length c.args.value.now = omega arith in
    record { common = common_newer c.args.newer _ _ _ c.if-not-newer.false (rw all at c.loop-i.invariant); nonzero = λ h. absurd (omega (arith, h)) }
