-- `bound_step`: a text of the table (`named_text`), an external entity (`named_external`), one of the five names (`named_predefined`) or
-- none of these (`named_unknown`).
use mathlib.Core.Path.{sym, ap, subst}
use Rattle.entity.specs.Binding.{Lies, bound_to}
use Rattle.unescape.proofs.Stops.{named_text, named_external, named_predefined, named_unknown}
use Rattle.unescape.proofs.bound_step.Goals as goal

pub slice_bounds-put_over-count : goal.slice_bounds-put_over-count
slice_bounds-put_over-count c =
    (subst (Lies c.args.pool.now) c.in-Text.is c.requires.lies).0

pub slice_bounds-put_over-start : goal.slice_bounds-put_over-start
slice_bounds-put_over-start c =
    (subst (Lies c.args.pool.now) c.in-Text.is c.requires.lies).0

pub slice_bounds-put_over-end : goal.slice_bounds-put_over-end
slice_bounds-put_over-end c =
    (subst (Lies c.args.pool.now) c.in-Text.is c.requires.lies).1

pub overflow_sub-result : goal.overflow_sub-result
overflow_sub-result c =
    (subst (Lies c.args.pool.now) c.in-Text.is c.requires.lies).0

pub returns-in-Text : goal.returns-in-Text
returns-in-Text c =
    let given = c.args in
    λ name n.
    named_text given.pool.now name given.i given.next c.in-Text.start c.in-Text.end
    (ap (bound_to given.pool.now) (sym c.in-Text.is)) (subst (Lies given.pool.now) c.in-Text.is c.requires.lies) c.put_over.ensures

pub returns-in-External : goal.returns-in-External
returns-in-External c =
    let given = c.args in
    λ name n. named_external given.pool.now name given.i given.next (ap (bound_to given.pool.now) (sym c.in-External.is))

pub returns-in-Predefined : goal.returns-in-Predefined
returns-in-Predefined c =
    let given = c.args in
    λ name n.
    named_predefined given.pool.now name given.i given.next c.in-Predefined.b
    (ap (bound_to given.pool.now) (sym c.in-Predefined.is)) c.put_byte.ensures

pub returns-in-Unknown : goal.returns-in-Unknown
returns-in-Unknown c =
    let given = c.args in
    λ name n.
    named_unknown given.pool.now name given.i given.next n (ap (bound_to given.pool.now) (sym c.in-Unknown.is))
