-- Without a stop the text is its own value at every depth (`smooth_none`); else depth 0 is used up, and depth 1 is enough (`smooth_some`).
use mathlib.Core.Path.{◌∙◌, sym, ap, subst}
use mathlib.Core.Bool.{Bool}
use lib.ListN.{length}
use Rattle.halts.specs.Halts.{Smooth, any_stop, stop_byte}
use Rattle.walk_least_depth.proofs.SmoothNeeds.{smooth_none, smooth_some, stops_deep}
use Rattle.walk_least_depth.proofs.smooth_need.Goals as goal

pub returns-then-not-has_stop : goal.returns-then-not-has_stop
returns-then-not-has_stop c =
    let a = c.args in
    λ s how q. smooth_none s how a.text.now a.openings a.allowance
    (ap (λ (n : Bool). any_stop (stop_byte n) a.text.now) q ∙ sym c.has_stop.ensures ∙ c.if-not-has_stop.true)

pub returns-then-allowance-eq0 : goal.returns-then-allowance-eq0
returns-then-allowance-eq0 c =
    let a = c.args in
    λ s how q. stops_deep s how a.text.now a.openings
    (ap (λ (n : Bool). any_stop (stop_byte n) a.text.now) q ∙ sym c.has_stop.ensures ∙ c.if-not-has_stop.false) c.if-allowance-eq0.true

pub returns : goal.returns
returns c =
    let a = c.args in
    λ s how q. smooth_some s how a.text.now a.openings a.allowance c.if-allowance-eq0.false
    (subst (λ (n : Bool). Smooth n a.text.now 0 (length a.text.now)) (sym q) c.requires)
    (ap (λ (n : Bool). any_stop (stop_byte n) a.text.now) q ∙ sym c.has_stop.ensures ∙ c.if-not-has_stop.false)
