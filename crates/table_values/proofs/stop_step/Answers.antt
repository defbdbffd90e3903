-- `stop_step`: a reference at `&`, 21 at `%`, else a line end or a byte that may start one.
use mathlib.Core.Path.{refl}
use mathlib.Core.List.{[]}
use native.Mathlib.Omega.{arith}
use Rattle.table_values.proofs.EntityValues.{amp_step, percent_step, meets_as}
use Rattle.table_values.proofs.stop_step.Goals as goal

pub returns-then-b-eq38 : goal.returns-then-b-eq38
returns-then-b-eq38 c =
    meets_as (amp_step c.args.quote c.args.newer c.args.text.now c.args.i c.requires.0 c.if-b-eq38.true) c.reference_step.ensures

pub returns-then-b-eq37 : goal.returns-then-b-eq37
returns-then-b-eq37 c =
    record { value = []; is = percent_step c.args.quote c.args.newer c.args.text.now c.args.i c.requires.0 c.if-b-eq37.true; kept = (omega (arith, c.requires.0), refl) }
