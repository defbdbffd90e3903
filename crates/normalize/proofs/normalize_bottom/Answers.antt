-- `normalize_bottom` is refused at a fault that `bottom_fault` finds, and where `has_stop` finds a stop; else the text is its own value
-- (`own_value`), of which the copy or the form ends as those say, or 18 is answered. Without such a fault the heads are those below.
use Rattle.tokens.specs.Walking.{short_of}
use mathlib.Core.Path.{refl, ◌≡◌, sym, ap, ◌∙◌}
use Rattle.tokens.specs.Outcome.{done}
use Rattle.attribute.specs.Walk.{Settings, walk}
use Rattle.attribute.specs.Steps.{read_by}
use Rattle.cycle.proofs.Exhausted.{exhausted_any, exhausted_none}
use Rattle.normalize.specs.Calls.{written_in}
use Rattle.normalize.proofs.Texts.{ended_same, ended_stopped, lacks_done, lacks_none, form_ended, plain_ended}
use Rattle.normalize.proofs.normalize_bottom.Goals as goal
use Rattle.normalize.proofs.normalize_bottom.Goals.{Else-has_stop}

-- the text has no stop, and no character of it may not stand
own_value : (c : Else-has_stop) (s : Settings) → walk s (read_by c.args.how c.args.guard) 0 c.args.text.now 0 ≡ done c.args.text.now 0
own_value c s =
    let a = c.args in
    c.bottom_fault-fault.ensures.other c.if-fault-text.false s 0
    ∙ exhausted_none a.how s a.text.now 0 (sym c.has_stop.ensures ∙ c.if-has_stop.false)

pub bottom_fault-fault-requires : goal.bottom_fault-fault-requires
bottom_fault-fault-requires c = tt

pub returns-then-fault-text : goal.returns-then-fault-text
returns-then-fault-text c =
    let a = c.args in
    λ s. ended_stopped (short_of a.buffer) a.out.now (ap (written_in a.form a.lacks) (c.bottom_fault-fault.ensures.barred c.if-fault-text.true s 0))

pub has_stop-requires : goal.has_stop-requires
has_stop-requires c = tt

pub returns-then-has_stop : goal.returns-then-has_stop
returns-then-has_stop c =
    let a = c.args in
    λ s. ended_stopped (short_of a.buffer) a.out.now
    (ap (written_in a.form a.lacks)
    (c.bottom_fault-fault.ensures.other c.if-fault-text.false s 0
    ∙ (exhausted_any a.how s a.text.now 0 (sym c.has_stop.ensures ∙ c.if-has_stop.true)).is))

pub returns-then-lacks : goal.returns-then-lacks
returns-then-lacks c =
    let a = c.args in
    λ s. ended_same (short_of a.buffer) a.out.now (ap (written_in a.form a.lacks) (own_value (goal.at.returns-then-lacks c).Else-has_stop s))
    (lacks_done (short_of a.buffer) a.out.now a.form a.lacks c.if-lacks.true a.text.now 0 refl)

pub form_copied-requires : goal.form_copied-requires
form_copied-requires c = c.requires

pub returns-then-form-ne0 : goal.returns-then-form-ne0
returns-then-form-ne0 c =
    let a = c.args in
    λ s. ended_same (short_of a.buffer) a.out.now (ap (written_in a.form a.lacks) (own_value (goal.at.returns-then-form-ne0 c).Else-has_stop s))
    (lacks_none (short_of a.buffer) a.out.now a.form a.lacks c.if-lacks.false (done a.text.now 0)
    (form_ended (short_of a.buffer) a.out.now a.text.now c.if-form-ne0.true c.form_copied.ensures))

pub copied_whole-requires : goal.copied_whole-requires
copied_whole-requires c = tt

pub returns : goal.returns
returns c =
    let a = c.args in
    λ s. ended_same (short_of a.buffer) a.out.now (ap (written_in a.form a.lacks) (own_value (goal.at.returns c).Else-has_stop s))
    (lacks_none (short_of a.buffer) a.out.now a.form a.lacks c.if-lacks.false (done a.text.now 0)
    (plain_ended (short_of a.buffer) a.out.now a.text.now c.if-form-ne0.false c.copied_whole.ensures))
