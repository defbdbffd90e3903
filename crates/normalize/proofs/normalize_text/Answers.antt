-- `normalize_text` makes a first pass without a memory, and goes on with one from a text to open or a pause (Texts.antt).
use borrow.Author.Rules.{rules}
use mathlib.Core.Path.{◌≡◌, ap, ◌∙◌}
use Rattle.std.specs.Prelude.{Ok, Err}
use Rattle.normalize.proofs.Texts.{start_lent, text_end, text_stopped, text_opens, text_pauses, on_lent, on_walks}
use Rattle.normalize.proofs.normalize_text.Goals as goal

pub normalize_flat-requires : goal.normalize_flat-requires
normalize_flat-requires c =
    let a = c.args in
    record { valid_table = c.requires.valid_table; depth_nonzero = (c.requires.base_value.1.deep, c.requires.base_value.1.most, c.requires.base_value.1.short); halt_at = c.requires.halt_at; lent = start_lent a.reading a.list.now a.pool.now a.text.now c.requires.base_value.0 c.requires.well_formed c.requires.base_value.1.short a.out.now }

pub normalize_opened-requires : goal.normalize_opened-requires
normalize_opened-requires c =
    let a = c.args in
    let came = text_opens a.reading a.list.now a.pool.now a.text.now c.requires.base_value.0 c.requires.well_formed c.normalize_flat.ensures (c.in_ok-len.was ∙ ap (λ r. Ok r) c.in-Opening.is) in
    record { valid_table = c.requires.valid_table; base_value = c.requires.base_value; lent = on_lent a.reading a.list.now a.pool.now a.text.now c.requires.base_value.0 c.requires.well_formed c.normalize_flat.ensures came c.requires.base_value.1.short }

pub normalize_opened-requires-in-Paused : goal.normalize_opened-requires-in-Paused
normalize_opened-requires-in-Paused c =
    let a = c.args in
    let came = text_pauses a.reading a.list.now a.pool.now a.text.now c.requires.base_value.0 c.requires.well_formed c.normalize_flat.ensures (c.in_ok-len.was ∙ ap (λ r. Ok r) c.in-Paused.is) in
    record { valid_table = c.requires.valid_table; base_value = c.requires.base_value; lent = on_lent a.reading a.list.now a.pool.now a.text.now c.requires.base_value.0 c.requires.well_formed c.normalize_flat.ensures came c.requires.base_value.1.short }

pub returns-in-End : goal.returns-in-End
returns-in-End c =
    let a = c.args in
    text_end a.reading a.list.now a.pool.now a.text.now c.requires.base_value.0 c.requires.well_formed c.normalize_flat.ensures (c.in_ok-len.was ∙ ap (λ r. Ok r) c.in-End.is)

pub returns-in_err-len : goal.returns-in_err-len
returns-in_err-len c =
    let a = c.args in
    let handed : c.from_residual.result ≡ Err c.in_err-len.field-0.0.refusal = search rules in
    rw handed
    (text_stopped a.reading a.list.now a.pool.now a.text.now c.requires.base_value.0 c.requires.well_formed c.normalize_flat.ensures
    c.in_err-len.was)

pub returns-in-Opening : goal.returns-in-Opening
returns-in-Opening c =
    let a = c.args in
    let came = text_opens a.reading a.list.now a.pool.now a.text.now c.requires.base_value.0 c.requires.well_formed c.normalize_flat.ensures (c.in_ok-len.was ∙ ap (λ r. Ok r) c.in-Opening.is) in
    on_walks a.reading a.list.now a.pool.now a.text.now c.requires.base_value.0 c.requires.well_formed c.normalize_flat.ensures came c.normalize_opened.ensures

pub returns-in-Paused : goal.returns-in-Paused
returns-in-Paused c =
    let a = c.args in
    let came = text_pauses a.reading a.list.now a.pool.now a.text.now c.requires.base_value.0 c.requires.well_formed c.normalize_flat.ensures (c.in_ok-len.was ∙ ap (λ r. Ok r) c.in-Paused.is) in
    on_walks a.reading a.list.now a.pool.now a.text.now c.requires.base_value.0 c.requires.well_formed c.normalize_flat.ensures came c.normalize_opened-in-Paused.ensures
