-- `read_value`: a simple text is its own value (`verdict_simple`), one that is not UTF-8 falls by 5 (`verdict_utf8`), and of any other normalization
-- without room gives the verdict (`verdict_read`).
use mathlib.Core.Path.{sym, ap, ◌∙◌}
use mathlib.Core.List.{[]}
use native.Mathlib.Omega.{arith}
use Rattle.text.proofs.Longest.{end_whole}
use Rattle.text.proofs.Printable.{simple_well_formed}
use Rattle.tokens.specs.Outcome.{Outcome, answer_in}
use Rattle.normalize.specs.Calls.{outcome_for}
use Rattle.normalize.proofs.Texts.{simple_value, shown_plain}
use Rattle.walk_rehearsal.specs.Turns.{settings_of, verdict_by}
use Rattle.walk_rehearsal.proofs.Verdicts.{wanted_for, lenient, reads_so, verdict_simple, verdict_utf8, verdict_read}
use Rattle.walk_rehearsal.proofs.read_value.Goals as goal

pub returns-then-is_simple : goal.returns-then-is_simple
returns-then-is_simple c =
    let a = c.args in
    let simple = c.is_simple.ensures c.if-is_simple.true in
    let set = settings_of a.job a.list.now a.pool.now in
    reads_so a.job a.list.now a.pool.now a.value.now (λ k. omega (arith, c.type_inv.list k)) c.requires.value_len_bound c.requires.limit_bound
    (verdict_simple set a.job.depth a.value.now (simple_well_formed a.value.now simple)
    (sym (lenient a.job a.list.now a.pool.now a.value.now) ∙ simple_value (wanted_for a.job) a.list.now a.pool.now a.value.now simple))

pub returns-then-end-value : goal.returns-then-end-value
returns-then-end-value c =
    let a = c.args in
    reads_so a.job a.list.now a.pool.now a.value.now (λ k. omega (arith, c.type_inv.list k)) c.requires.value_len_bound c.requires.limit_bound
    (verdict_utf8 (settings_of a.job a.list.now a.pool.now) a.job.depth a.value.now (λ e. c.if-end-value.true (c.utf8_end-end.ensures ∙ e)))

pub normalized-requires : goal.normalized-requires
normalized-requires c =
    record { valid_table = c.requires.valid_table; text_len_bound = c.requires.value_len_bound; limit_bound = c.requires.limit_bound; well_formed = end_whole c.args.value.now (sym c.utf8_end-end.ensures ∙ c.if-end-value.false) }

pub returns : goal.returns
returns c =
    let a = c.args in
    let o = outcome_for (wanted_for a.job) a.list.now a.pool.now a.value.now in
    let so = shown_plain o ∙ lenient a.job a.list.now a.pool.now a.value.now in
    let whole = end_whole a.value.now (sym c.utf8_end-end.ensures ∙ c.if-end-value.false) in
    reads_so a.job a.list.now a.pool.now a.value.now (λ k. omega (arith, c.type_inv.list k)) c.requires.value_len_bound c.requires.limit_bound
    (c.verdict_by.ensures
    ∙ ap verdict_by (c.normalized.ensures.0 ∙ ap (λ (x : Outcome). answer_in 19 x []) so)
    ∙ verdict_read (settings_of a.job a.list.now a.pool.now) a.job.depth a.value.now whole)
