-- `read_declarations`: the count leaves both buffers (`nothing_before`), and says all that the call answers.
use mathlib.Core.Path.{refl, ap₂, ◌∙◌}
use mathlib.Core.List.{◌++◌}
use Rattle.eols.proofs.LineEnds.{version_rule}
use Rattle.table_declarations.proofs.Outcomes.{nothing_before, answer_short, answer_ready, answer_done, answer_broken}
use Rattle.table_grammar.specs.TableWritten.{read_declarations}
use Rattle.text.specs.Call.{answered}
use Rattle.text.specs.Version.{rule_of}
use Rattle.table_declarations.proofs.read_declarations.Goals as goal

pub returns-in-Err : goal.returns-in-Err
returns-in-Err c =
    let p = nothing_before c.read_all.new.list c.args.list.now c.read_all.auto.list in
    let q = nothing_before c.read_all.new.pool c.args.pool.now c.read_all.auto.pool in
    answer_broken _ _ c.args.text.now (version_rule c.args.version _ refl) (answered c.fault_answer.result)
    c.in-Err.ensures (c.read_all.new.list ++ c.args.list.now) (c.read_all.new.pool ++ c.args.pool.now) c.fault_answer.ensures
    ∙ ap₂ (read_declarations (rule_of c.args.version) c.args.text.now) p q

pub returns-then-list-length : goal.returns-then-list-length
returns-then-list-length c =
    let p = nothing_before c.read_all.new.list c.args.list.now c.read_all.auto.list in
    let q = nothing_before c.read_all.new.pool c.args.pool.now c.read_all.auto.pool in
    answer_short _ _ c.args.text.now (version_rule c.args.version _ refl) c.in-Ok.ensures
    (c.read_all.new.list ++ c.args.list.now) (c.read_all.new.pool ++ c.args.pool.now) c.if-list-length.true
    ∙ ap₂ (read_declarations (rule_of c.args.version) c.args.text.now) p q

pub write_all-requires-clause-counted : goal.write_all-requires-clause-counted
write_all-requires-clause-counted c =
    answer_ready _ _ c.args.text.now (version_rule c.args.version _ refl) c.in-Ok.ensures
    (c.read_all.new.list ++ c.args.list.now) (c.read_all.new.pool ++ c.args.pool.now) c.if-list-length.false

pub returns : goal.returns
returns c =
    let p = nothing_before c.read_all.new.list c.args.list.now c.read_all.auto.list in
    let q = nothing_before c.read_all.new.pool c.args.pool.now c.read_all.auto.pool in
    answer_done _ _ c.args.text.now (version_rule c.args.version _ refl) c.in-Ok.ensures
    (c.read_all.new.list ++ c.args.list.now) (c.read_all.new.pool ++ c.args.pool.now) c.if-list-length.false c.write_all.ensures
    ∙ ap₂ (read_declarations (rule_of c.args.version) c.args.text.now) p q
