-- `write_escaped` keeps `Writing`: what is written of the first i bytes, as they are copied, lies in the output, and the rest of it is kept. A turn copies a run
-- (`run`) and ends there, or writes the reference to the byte where the run ends (`reference_next`, `writing_piece`). Assumes nothing.
use Rattle.std.proofs.Common.{◌≡◌, ◌≢◌, Bool, List, ◌++◌, ℕ, ◌+◌, ◌-◌, ◌≤◌, ◌<◌, length, drop, get_or, sym, ap, ◌∙◌, arith}
use borrow.Rule.Slice.PartMut.{mid_of, put_mid}
use Rattle.output.specs.Runs.{Copied, Ends, Room}
use Rattle.output.proofs.Runs.{ends_shift}
use Rattle.output.proofs.Writers.{Writing, writing_start, writing_old, writing_inside, writing_length, writing_done, run_room, writing_run, piece_fits, writing_piece}
use Rattle.escape.specs.Escape.{write}
use Rattle.escape.specs.Scan.{escaped_by, reference_by, chars_set, shown, Shows}
use Rattle.escape.specs.declared.EscapeChars.{EscapeChars}
use Rattle.escape.proofs.Shown.{shown_length, shown_mid, shown_at, shown_escaped, shown_kept}
use Rattle.escape.proofs.Scan.{chars_run, write_over, chars_reference}
use Rattle.escape.proofs.write_escaped.Goals as goal
use Rattle.escape.proofs.write_escaped.Goals.{After-put_plain-count}

module _ (chars : EscapeChars) (spaces : Bool) (text : List ℕ) where
  -- the rest of the text, as it is copied
  rest_shown : (i : ℕ) → shown spaces (mid_of i (length text - i) text) ≡ mid_of i (length (shown spaces text) - i) (shown spaces text)
  rest_shown i =
      shown_mid spaces i (length text - i) text
      ∙ sym (ap (λ (n : ℕ). mid_of i (n - i) (shown spaces text)) (shown_length spaces text))

  module _ {old out : List ℕ} {at i : ℕ} (w : Writing (write (chars_set chars)) (shown spaces text) old out at i) where
    -- there is room for a run
    room : Room (escaped_by chars) (shown spaces (mid_of i (length text - i) text)) (mid_of at (length out - at) out)
    room = rw (rest_shown i) (run_room (chars_run chars) w)

    -- a run is copied
    run_of : {n : ℕ} {part : List ℕ} → Copied (escaped_by chars) (shown spaces (mid_of i (length text - i) text)) (mid_of at (length out - at) out) part n
        → Writing (write (chars_set chars)) (shown spaces text) old (put_mid at (length out - at) out part) (at + n) (i + n)
    run_of c = writing_run (chars_run chars) w (rw (rest_shown i) at c)

    -- a byte follows it, and the reference to this byte, which is copied as it is, is what is written next
    reference_of : (n : ℕ) → Shows chars spaces → Ends (escaped_by chars) (shown spaces (mid_of i (length text - i) text)) n → i + n < length text
        → write (chars_set chars) (drop (i + n) (shown spaces text))
        ≡ reference_by chars.hex (get_or text (i + n) 0) ++ write (chars_set chars) (drop (i + n + 1) (shown spaces text))
    reference_of n shows ends h =
        let all = shown spaces text in
        let stop = get_or text (i + n) 0 in
        let inside : i + n < length all = omega (arith, h, shown_length spaces text) in
        let here = shown_at spaces text (i + n) in
        let ends_all : Ends (escaped_by chars) all (i + n) = ends_shift (escaped_by chars) all i n w.to (rw (rest_shown i) at ends) in
        let same : get_or all (i + n) 0 ≡ stop =
        here
        ∙ shown_kept chars spaces shows stop
        (sym (shown_escaped chars spaces shows stop) ∙ sym (ap (escaped_by chars) here) ∙ ends_all inside) in
        chars_reference chars all (i + n) inside ends_all
        ∙ ap (λ (b : ℕ). reference_by chars.hex b ++ write (chars_set chars) (drop (i + n + 1) all)) same

-- the run is copied: how far the text is passed and the output written then, and what lies in the output
abbrev end : After-put_plain-count → ℕ
end c = c.loop-chars.i + c.put_plain-count.result

abbrev reached : After-put_plain-count → ℕ
reached c = c.loop-chars.at + c.put_plain-count.result

abbrev held : After-put_plain-count → List ℕ
held c = put_mid c.loop-chars.at (length c.loop-chars.out - c.loop-chars.at) c.loop-chars.out c.put_plain-count.new.out

run : (c : After-put_plain-count) → Writing (write (chars_set c.args.chars)) (shown c.args.spaces c.args.text.now) c.args.out.now (held c) (reached c) (end c)
run c = run_of c.args.chars c.args.spaces c.args.text.now c.loop-chars.invariant c.put_plain-count.ensures.copied

inside : (c : After-put_plain-count) → end c ≤ length c.args.text.now
inside c = omega (arith, (run c).to, shown_length c.args.spaces c.args.text.now)

-- where a byte follows the run
reference_next : (c : After-put_plain-count) → end c ≢ length c.args.text.now
    → write (chars_set c.args.chars) (drop (end c) (shown c.args.spaces c.args.text.now))
    ≡ reference_by c.args.chars.hex (get_or c.args.text.now (end c) 0) ++ write (chars_set c.args.chars) (drop (end c + 1) (shown c.args.spaces c.args.text.now))
reference_next c h =
    reference_of c.args.chars c.args.spaces c.args.text.now c.loop-chars.invariant c.put_plain-count.result c.requires.shows c.put_plain-count.ensures.ends
    (omega (arith, inside c))

pub loop-chars-init : goal.loop-chars-init
loop-chars-init c = writing_start _ _ _ c.requires.text_in_bounds

pub slice_bounds-put_plain-count : goal.slice_bounds-put_plain-count
slice_bounds-put_plain-count c = let given = c.args in omega (arith, c.loop-chars.invariant.to, shown_length given.spaces given.text.now)

pub slice_bounds-put_plain-start : goal.slice_bounds-put_plain-start
slice_bounds-put_plain-start c = let given = c.args in omega (arith, c.loop-chars.invariant.to, shown_length given.spaces given.text.now)

pub slice_bounds-put_plain-count-in-loop-chars : goal.slice_bounds-put_plain-count-in-loop-chars
slice_bounds-put_plain-count-in-loop-chars c = writing_inside c.loop-chars.invariant

pub slice_bounds-put_plain-start-in-loop-chars : goal.slice_bounds-put_plain-start-in-loop-chars
slice_bounds-put_plain-start-in-loop-chars c = writing_inside c.loop-chars.invariant

pub put_plain-count-requires : goal.put_plain-count-requires
put_plain-count-requires c =
    record { shows = c.requires.shows; room = room c.args.chars c.args.spaces c.args.text.now c.loop-chars.invariant }

pub overflow_add-end : goal.overflow_add-end
overflow_add-end c = omega (arith, inside (goal.at.overflow_add-end c).After-put_plain-count)

pub overflow_add-at : goal.overflow_add-at
overflow_add-at c = omega (arith, writing_old (run (goal.at.overflow_add-at c).After-put_plain-count))

pub shape_of-out-then-end-text : goal.shape_of-out-then-end-text
shape_of-out-then-end-text c = writing_length (run (goal.at.shape_of-out-then-end-text c).After-put_plain-count)

pub returns-then-end-text : goal.returns-then-end-text
returns-then-end-text c =
    let d = (goal.at.returns-then-end-text c).After-put_plain-count in
    let all = shown c.args.spaces c.args.text.now in
    let both = writing_done (run d) (write_over (chars_set c.args.chars) all (end d) (omega (arith, c.if-end-text.true, shown_length c.args.spaces c.args.text.now))) in
    record { value = both.0; out_after = both.1 }

pub bounds-text-end : goal.bounds-text-end
bounds-text-end c = omega (arith, inside (goal.at.bounds-text-end c).After-put_plain-count)

pub slice_bounds-escape_char-count : goal.slice_bounds-escape_char-count
slice_bounds-escape_char-count c = writing_inside (run (goal.at.slice_bounds-escape_char-count c).After-put_plain-count)

pub slice_bounds-escape_char-start : goal.slice_bounds-escape_char-start
slice_bounds-escape_char-start c = writing_inside (run (goal.at.slice_bounds-escape_char-start c).After-put_plain-count)

pub escape_char-at-requires : goal.escape_char-at-requires
escape_char-at-requires c =
    let d = (goal.at.escape_char-at-requires c).After-put_plain-count in
    piece_fits (run d) _ 1 (reference_next d c.if-end-text.false)

pub overflow_add-at-in-loop-chars : goal.overflow_add-at-in-loop-chars
overflow_add-at-in-loop-chars c =
    let d = (goal.at.overflow_add-at-in-loop-chars c).After-put_plain-count in
    let w = writing_piece (run d) _ 1 (reference_next d c.if-end-text.false) (omega (arith, inside d, shown_length c.args.spaces c.args.text.now)) c.escape_char-at.ensures.0 c.escape_char-at.ensures.1 in
    omega (arith, writing_old w)

pub overflow_add-i : goal.overflow_add-i
overflow_add-i c = omega (arith, inside (goal.at.overflow_add-i c).After-put_plain-count)

pub loop-chars-smaller : goal.loop-chars-smaller
loop-chars-smaller c = omega (arith, inside (goal.at.loop-chars-smaller c).After-put_plain-count)

pub loop-chars-preserved : goal.loop-chars-preserved
loop-chars-preserved c =
    let d = (goal.at.loop-chars-preserved c).After-put_plain-count in
    writing_piece (run d) _ 1 (reference_next d c.if-end-text.false) (omega (arith, inside d, shown_length c.args.spaces c.args.text.now)) c.escape_char-at.ensures.0 c.escape_char-at.ensures.1
