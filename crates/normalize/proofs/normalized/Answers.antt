-- `normalized` takes one of five ways: depth 0, the walk, with a count of the value alone first or not, and of a text without halts a character
-- that may not stand, or a copy; each is the walk that the call asks for (Texts.antt).
use Rattle.tokens.specs.Walking.{short_of}
use Rattle.normalize.proofs.Texts.{call_bottom, read_asked, call_read, call_barred, call_spaced}
use Rattle.normalize.proofs.normalized.Goals as goal

pub returns-then-wanted-eq0 : goal.returns-then-wanted-eq0
returns-then-wanted-eq0 c =
    let a = c.args in
    call_bottom a.wanted a.list.now a.pool.now a.text.now a.form a.lacks c.reading_for-used_up.ensures (short_of a.buffer) a.out.now c.if-wanted-eq0.true
    c.normalize_bottom.ensures

pub form_into-requires : goal.form_into-requires
form_into-requires c =
    let a = c.args in
    let p = read_asked a.wanted a.list.now a.pool.now a.text.now a.form a.lacks c.reading_for-reading.ensures c.if-wanted-eq0.false c.requires.limit_bound c.requires.text_len_bound c.requires.well_formed c.first_halt-first.ensures in
    record { valid_table = c.requires.valid_table; base_value = p.0; halt_at = p.1.0; well_formed = p.1.1 }

pub returns-then-form-text : goal.returns-then-form-text
returns-then-form-text c =
    let a = c.args in
    call_read a.wanted a.list.now a.pool.now a.text.now a.form a.lacks c.reading_for-reading.ensures (short_of a.buffer) a.out.now c.form_into.ensures

pub normalize_into-requires : goal.normalize_into-requires
normalize_into-requires c =
    let a = c.args in
    let asked = read_asked a.wanted a.list.now a.pool.now a.text.now a.form a.lacks c.reading_for-reading.ensures c.if-wanted-eq0.false c.requires.limit_bound c.requires.text_len_bound c.requires.well_formed c.first_halt-first.ensures in
    record { valid_table = c.requires.valid_table; base_value = asked.0; halt_at = asked.1.0; well_formed = asked.1.1 }

pub returns-then-first-text : goal.returns-then-first-text
returns-then-first-text c =
    let a = c.args in
    call_read a.wanted a.list.now a.pool.now a.text.now a.form a.lacks c.reading_for-reading.ensures (short_of a.buffer) a.out.now c.normalize_into.ensures

pub returns-then-fault-first : goal.returns-then-fault-first
returns-then-fault-first c =
    let a = c.args in
    call_barred a.wanted a.list.now a.pool.now a.text.now a.form a.lacks c.if-wanted-eq0.false c.first_halt-first.ensures c.if-first-text.false
    c.outer_guard.ensures c.run_fault-fault.ensures (short_of a.buffer) a.out.now c.if-fault-first.true

pub returns : goal.returns
returns c =
    let a = c.args in
    call_spaced a.wanted a.list.now a.pool.now a.text.now a.form a.lacks c.if-wanted-eq0.false c.first_halt-first.ensures c.if-first-text.false
    c.outer_guard.ensures c.run_fault-fault.ensures (short_of a.buffer) a.out.now c.if-fault-first.false c.spaced_whole.ensures
