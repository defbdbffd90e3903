-- An empty run gives nothing in any form; another is written as it is (`writes_plain`), or its form is (`writes_form`).
use mathlib.Core.Path.{sym, subst}
use mathlib.Core.List.{List}
use Rattle.halts.specs.Halts.{blanks_spaced}
use Rattle.memory.specs.Slots.{shaped}
use lib.ListN.{take, drop}
use Prim.Native.Nat.{◌-◌}
use Rattle.flat.specs.Between.{Writes}
use Rattle.flat.proofs.Writing.{writes_plain, writes_form, writes_nothing, run_empty}
use Rattle.flat.proofs.write_run.Goals as goal

pub returns-then-n-eq0 : goal.returns-then-n-eq0
returns-then-n-eq0 c =
    let a = c.args in
    subst (λ (x : List _). Writes (shaped a.form x) a.len a.out.now a.out.now 0)
    (sym (run_empty a.text.now a.from a.to c.if-n-eq0.true)) (writes_nothing a.form a.len a.out.now)

pub returns-then-form-ne0 : goal.returns-then-form-ne0
returns-then-form-ne0 c =
    let a = c.args in
    writes_form c.if-form-ne0.true (blanks_spaced (take (a.to - a.from) (drop a.from a.text.now))) c.write_form.ensures.writes

pub returns : goal.returns
returns c =
    writes_plain c.if-form-ne0.false c.write_spaced.ensures.writes
