-- `form_length`: n is what the first i bytes give (`counted`), at most six for each; a run adds what level 3 writes, a reference its
-- own length.
use mathlib.Core.Path.{◌≡◌, refl, sym, ap, ◌∙◌}
use mathlib.Core.List.{List}
use native.Mathlib.Omega.{arith}
use Prim.Native.Nat.{ℕ, ◌+◌, ◌-◌, ◌*◌, ◌≤◌, ◌<◌}
use lib.ListN.{length, drop, length-take}
use borrow.Rule.Slice.PartMut.{mid_of}
use Rattle.eols.specs.Stops.{rule_for}
use Rattle.runs.specs.Specials.{Common}
use Rattle.escape.specs.Escape.{attribute, level_set, write}
use Rattle.escape.specs.Scan.{chars_set, shown}
use Rattle.escape.specs.declared.EscapeChars.{EscapeChars}
use Rattle.escape.proofs.Shown.{shown_length}
use Rattle.canonical.specs.Canonical.{canonical_from, canonical}
use Rattle.canonical.proofs.Between.{canonical_over, run_length, run_most, own_least, own_inside, own_length}
use Rattle.canonical.proofs.Spaced.{shown_common, Stop, shown_stop, part_written, part_counted}
use Rattle.canonical.proofs.form_length.Goals as goal
use Rattle.canonical.proofs.form_length.Goals.{After-escaped_length-n, After-special_width-width}

-- where the run ends, what is written for it and how many bytes these are
abbrev end : After-escaped_length-n → ℕ
end c = c.next_special-end.result

abbrev piece : After-escaped_length-n → List ℕ
piece c = write (level_set attribute) (mid_of c.loop-chars.i (end c - c.loop-chars.i) (shown c.args.spaces c.args.text.now))

common : (c : After-escaped_length-n) → Common (rule_for c.args.newer) (shown c.args.spaces c.args.text.now) c.loop-chars.i (end c)
common c = shown_common c.args.spaces c.next_special-end.ensures.common

added : (c : After-escaped_length-n) → c.escaped_length-n.result ≡ length (piece c)
added c =
    let a = c.args in
    let part = mid_of c.loop-chars.i (end c - c.loop-chars.i) a.text.now in
    c.escaped_length-n.ensures
    ∙ ap (λ (chars : EscapeChars). length (write (chars_set chars) part)) c.run_chars-chars.ensures
    ∙ part_counted a.spaces part
    ∙ ap length (part_written a.spaces c.loop-chars.i (end c - c.loop-chars.i) a.text.now)

most : (c : After-escaped_length-n) → c.escaped_length-n.result ≤ 6 * (end c - c.loop-chars.i)
most c = omega (arith, added c, run_most _ _ _ _ (common c) {run = piece c} refl)

counted : (c : After-escaped_length-n) → length (canonical (rule_for c.args.newer) (shown c.args.spaces c.args.text.now)) ≡ c.loop-chars.n + c.escaped_length-n.result + length (canonical_from (rule_for c.args.newer) 0 (drop (end c) (shown c.args.spaces c.args.text.now)))
counted c =
    let sum = run_length _ _ _ _ (common c) {run = piece c} refl in
    c.loop-chars.invariant.2 ∙ omega (arith, added c, sum)

-- a run that is not the last ends at one of the two
stop : (c : After-special_width-width) → Stop c.args.newer (shown c.args.spaces c.args.text.now) c.next_special-end.result c.special_width-width.result
stop c =
    let inside : c.next_special-end.result < length c.args.text.now = omega (arith, c.if-end-text.false, c.next_special-end.ensures.common.to) in
    shown_stop c.args.newer c.args.spaces c.args.text.now inside c.next_special-end.ensures.nonzero c.special_width-width.ensures

pub loop-chars-init : goal.loop-chars-init
unfolding canonical
loop-chars-init c = (omega arith, omega arith, omega arith)

pub next_special-end-requires : goal.next_special-end-requires
next_special-end-requires c = c.loop-chars.invariant.0

pub slice_bounds-escaped_length-count : goal.slice_bounds-escaped_length-count
slice_bounds-escaped_length-count c = c.next_special-end.ensures.common.from

pub slice_bounds-escaped_length-start : goal.slice_bounds-escaped_length-start
slice_bounds-escaped_length-start c = c.next_special-end.ensures.common.from

pub slice_bounds-escaped_length-end : goal.slice_bounds-escaped_length-end
slice_bounds-escaped_length-end c = c.next_special-end.ensures.common.to

pub escaped_length-n-requires : goal.escaped_length-n-requires
escaped_length-n-requires c =
    omega (arith, length-take (c.next_special-end.result - c.loop-chars.i) (drop c.loop-chars.i c.args.text.now), c.requires, c.next_special-end.ensures.common.to)

pub overflow_add-n : goal.overflow_add-n
overflow_add-n c =
    omega (arith, c.requires, c.loop-chars.invariant.1, most c, c.next_special-end.ensures.common.from, c.next_special-end.ensures.common.to)

pub returns-then-end-text : goal.returns-then-end-text
returns-then-end-text c =
    let all = shown c.args.spaces c.args.text.now in
    let over = ap length (canonical_over (rule_for c.args.newer) all c.next_special-end.result (omega (arith, c.if-end-text.true, shown_length c.args.spaces c.args.text.now))) in
    sym (counted (goal.at.returns-then-end-text c).After-escaped_length-n ∙ omega (arith, over))

pub special_width-width-requires : goal.special_width-width-requires
special_width-width-requires c = omega (arith, c.if-end-text.false, c.next_special-end.ensures.common.to)

pub overflow_add-n-in-loop-chars : goal.overflow_add-n-in-loop-chars
overflow_add-n-in-loop-chars c =
    omega (arith, c.requires, c.special_length-n.ensures.1, c.loop-chars.invariant.1, most (goal.at.overflow_add-n-in-loop-chars c).After-escaped_length-n, c.next_special-end.ensures.common.from, c.next_special-end.ensures.common.to)

-- where the next run starts
next_inside : (c : After-special_width-width) → c.next_special-end.result + c.special_width-width.result ≤ length c.args.text.now
next_inside c =
    let s = stop c in
    omega (arith, own_inside c.args.newer (shown c.args.spaces c.args.text.now) c.next_special-end.result s.inside s.some s.width_is, shown_length c.args.spaces c.args.text.now)

least : (c : After-special_width-width) → 2 ≤ c.special_width-width.result
least c =
    let s = stop c in
    own_least c.args.newer (shown c.args.spaces c.args.text.now) c.next_special-end.result s.inside s.some s.width_is

pub overflow_add-i : goal.overflow_add-i
overflow_add-i c = omega (arith, c.requires, next_inside (goal.at.overflow_add-i c).After-special_width-width)

pub loop-chars-smaller : goal.loop-chars-smaller
loop-chars-smaller c =
    let w = (goal.at.loop-chars-smaller c).After-special_width-width in
    omega (arith, c.next_special-end.ensures.common.from, least w, next_inside w)

pub loop-chars-preserved : goal.loop-chars-preserved
loop-chars-preserved c =
    let d = (goal.at.loop-chars-preserved c).After-escaped_length-n in
    let w = (goal.at.loop-chars-preserved c).After-special_width-width in
    let s = stop w in
    let own = own_length c.args.newer (shown c.args.spaces c.args.text.now) c.next_special-end.result s.inside s.some s.width_is in (
      next_inside w,
      omega (arith, c.loop-chars.invariant.1, most d, least w, c.special_length-n.ensures.1, c.next_special-end.ensures.common.from),
      counted d ∙ omega (arith, own, c.special_length-n.ensures.0),
    )
