-- `seen` keeps `Scanned`: no place passed is free or holds the fingerprint. The table changes only where it returns.
use Rattle.std.proofs.Common.{◌≡◌, ℕ, ◌+◌, ◌-◌, ◌<◌, true, false, List, get_or, set, drop, sym, ap, ◌∙◌, subst, arith}
use Rattle.std.proofs.lemmas.List.{get_or-take, get_or-drop, set-get_or}
use borrow.Rule.Slice.PartMut.{put_mid, put_same, mid_len, set_mid_at}
use Rattle.repeats.specs.Filter.{Seen}
use Rattle.repeats.proofs.Filtering.{Scanned, scanned_on, scanned_there, scanned_full, scanned_free}
use Rattle.repeats.proofs.seen.Goals as goal
use Rattle.repeats.proofs.seen.Goals.{At-loop-held, In-loop-held}

-- so many places are looked through
within : (c : In-loop-held) → c.loop-held.held-index < 128
within c = omega (arith, mid_len c.args.home (c.args.home + 128) c.args.table.now c.requires.0)

-- what stands at the place is what stood there
held : (c : In-loop-held)
    → get_or c.loop-held.held-items c.loop-held.held-index 0 ≡ get_or c.args.table.now (c.args.home + c.loop-held.held-index) 0
held c =
    let table = c.args.table.now in
    let home = c.args.home in
    let i = c.loop-held.held-index in
    ap (λ (l : List ℕ). get_or l i 0) c.loop-held.invariant.0
    ∙ get_or-take (home + 128 - home) (drop home table) i 0 (let w = within c in omega arith) ∙ get_or-drop home table i 0

-- the places are put back as they were
back : (c : At-loop-held) → put_mid c.args.home (c.args.home + 128 - c.args.home) c.args.table.now c.loop-held.held-items ≡ c.args.table.now
back c =
    let table = c.args.table.now in
    let home = c.args.home in
    ap (put_mid home (home + 128 - home) table) c.loop-held.invariant.0 ∙ put_same home (home + 128 - home) table

pub returns-then-held-eq0 : goal.returns-then-held-eq0
returns-then-held-eq0 c =
    let here = (goal.at.returns-then-held-eq0 c).In-loop-held in
    let table = c.args.table.now in
    let home = c.args.home in
    let print = c.args.fingerprint in
    let i = c.loop-held.held-index in
    let w = within here in
    let put : put_mid home (home + 128 - home) table (set c.loop-held.held-items i print) ≡ set table (home + i) print =
    ap (λ (l : List ℕ). put_mid home (home + 128 - home) table (set l i print)) c.loop-held.invariant.0
    ∙ set_mid_at home (home + 128 - home) i table print c.loop-held-test.true in
    subst (λ (t : List ℕ). Seen table home print t false) (sym put)
    (scanned_free c.loop-held.invariant.1 (omega arith) (omega (arith, c.requires)) c.requires.2 (sym (held here) ∙ c.if-held-eq0.true))

pub returns-then-held-fingerprint : goal.returns-then-held-fingerprint
returns-then-held-fingerprint c =
    let at = goal.at.returns-then-held-fingerprint c in
    let here = at.In-loop-held in
    let table = c.args.table.now in
    let home = c.args.home in
    let print = c.args.fingerprint in
    let i = c.loop-held.held-index in
    let w = within here in
    let put = ap (put_mid home (home + 128 - home) table) (set-get_or c.loop-held.held-items i 0) ∙ back at.At-loop-held in
    subst (λ (t : List ℕ). Seen table home print t true) (sym put)
    (scanned_there c.loop-held.invariant.1 (omega arith) (λ e. c.if-held-eq0.false (held here ∙ e)) (sym (held here) ∙ c.if-held-fingerprint.true))

pub loop-held-preserved : goal.loop-held-preserved
loop-held-preserved c =
    let here = (goal.at.loop-held-preserved c).In-loop-held in
    let i = c.loop-held.held-index in
    let next : c.args.home + i + 1 ≡ c.args.home + (i + 1) = omega arith in
    let w = within here in (
      set-get_or c.loop-held.held-items i 0 ∙ c.loop-held.invariant.0,
      subst (Scanned c.args.table.now c.args.home c.args.fingerprint) next
          (scanned_on c.loop-held.invariant.1 (omega arith) (λ e. c.if-held-eq0.false (held here ∙ e)) (λ e. c.if-held-fingerprint.false (held here ∙ e))),
    )

pub returns : goal.returns
returns c =
    let after = (goal.at.returns c).At-loop-held in
    subst (λ (t : List ℕ). Seen c.args.table.now c.args.home c.args.fingerprint t true) (sym (back after))
    (scanned_full c.loop-held.invariant.1 (omega (arith, mid_len c.args.home (c.args.home + 128) c.args.table.now c.requires.0)))
