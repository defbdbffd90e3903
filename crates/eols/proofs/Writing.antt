-- Counting and writing: what a run and a step add. Assumes nothing.
use mathlib.Core.Path.{◌≡◌, sym, ap, ◌∙◌}
use mathlib.Core.Bool.{Bool}
use mathlib.Core.List.{List, [], ◌++◌}
use Prim.Native.Nat.{ℕ, ◌+◌, ◌-◌, ◌≤◌}
use native.Mathlib.Omega.{arith}
use lib.ListN.{length, take, drop, length-append, drop_of_length-le}
use lib.Seq.{length-take-le, take-append_seam, drop-append_seam}
use Rattle.text.specs.Call.{laid}
use Rattle.output.specs.Runs.{Plain, Copied, Room}
use Rattle.output.proofs.Writers.{run_length, value_room}
use Rattle.output.proofs.Written.{Written}
use Rattle.runs.specs.RunEnds.{line_stop}
use Rattle.eols.specs.LineEnds.{eols_from, eols}
use Rattle.eols.specs.Stops.{rule_for, Stepped}
use Rattle.eols.specs.declared.Step.{Step}
use Rattle.eols.proofs.LineEnds.{plain_run_lem}

-- past the end nothing is left
pub eols_over : (newer : Bool) (t : List ℕ) (i : ℕ) → length t ≤ i → eols_from (rule_for newer) 0 (drop i t) ≡ []
unfolding eols_from
eols_over newer t i h = rw (drop_of_length-le t h)

pub run_counts : (newer : Bool) (t : List ℕ) (i e : ℕ) → Plain (line_stop newer) t i e
    → length (eols_from (rule_for newer) 0 (drop i t)) ≡ e - i + length (eols_from (rule_for newer) 0 (drop e t))
run_counts newer t i e p =
    let q : i + (e - i) ≡ e = omega (arith, p.from) in
    run_length (line_stop newer) (eols_from (rule_for newer) 0) (plain_run_lem newer) t i (e - i) (rw q p) ∙ rw q

pub step_length : (newer : Bool) (t : List ℕ) (e : ℕ) (s : Step) → Stepped newer t e s
    → length (eols_from (rule_for newer) 0 (drop e t)) ≡ 1 + length (eols_from (rule_for newer) 0 (drop (e + s.width) t))
step_length newer t e s p = ap length p.rest ∙ omega arith

-- ---- the run at the text's start

-- there is room for it
pub start_room : (newer : Bool) (t out : List ℕ) → length (eols (rule_for newer) t) ≤ length out → Room (line_stop newer) t out
unfolding eols
start_room newer t out h = value_room (line_stop newer) (eols_from (rule_for newer) 0) (plain_run_lem newer) t out h

-- and what is written once it is copied
pub start_written : (newer : Bool) (t : List ℕ) {old out : List ℕ} {n : ℕ} → Copied (line_stop newer) t old out n
    → Written (eols (rule_for newer) t) (eols_from (rule_for newer) 0 (drop n t)) old out n
unfolding eols
start_written newer t {old} {out} {n} c =
    let v = eols_from (rule_for newer) 0 (drop n t) in
    let z : 0 + n ≡ n = omega arith in
    let e : eols_from (rule_for newer) 0 t ≡ take n t ++ v = rw z at (plain_run_lem newer t 0 n (rw z c.run)) in
    let m = length-take-le n t c.run.to in
    record {
      fits = omega (arith, ap length e, length-append (take n t) v, m);
      holds = c.holds ∙ ap (λ (l : List ℕ). laid l old) (sym (ap (take n) e ∙ rw m at (take-append_seam (take n t) v)));
      left = ap (drop n) e ∙ rw m at (drop-append_seam (take n t) v);
    }
