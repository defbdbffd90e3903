-- How a call ends that walks twice, the count first and then the write, or that copies its text. Assumes nothing.
use mathlib.Core.Path.{◌≡◌, refl, sym, ap, ap₂, ◌∙◌}
use mathlib.Core.List.{List, [], ◌∷◌}
use Prim.Native.Nat.{ℕ, ◌≤◌, ◌<◌}
use native.Mathlib.Omega.{arith}
use lib.ListN.{length, take, drop}
use lib.Seq.{take-append_seam}
use borrow.Author.Tests.{lt-ltb, le-ltb}
use Rattle.text.specs.Call.{call_of, laid}
use Rattle.text.specs.Answers.{Answer}
use Rattle.text.specs.Answers.{Done, Refused}
use Rattle.output.specs.Over.{over}
use Rattle.output.proofs.Clip.{over_fits}
use Rattle.tokens.specs.Outcome.{Outcome, done, refused, produced, answer_of, answer_in, left_in, finished}
use Rattle.tokens.specs.Walking.{Walked, Ended}

pub ended_call : (o : Outcome) (out : List ℕ) {last : List ℕ} {r : Answer} → Ended 19 o out last r → call_of r (last ∷ []) ≡ finished o out
unfolding finished
ended_call o out e = ap₂ (λ (a : Answer) (l : List ℕ). call_of a (l ∷ [])) e.0 e.1

-- a refusal changes no buffer
pub ended_refused : (short : ℕ) (o : Outcome) (out : List ℕ) {old new : List ℕ} {r : Answer} {number first second : ℕ}
    → r ≡ Refused number first second → Walked o old new r → Ended short o out out r
unfolding answer_in left_in
ended_refused short (done value openings) out e w =
    let q = w.answers in
    let z : ◌≡◌ {A = ℕ} 0 1 = cc in
    absurd (omega arith)
ended_refused short (refused before openings number first second) out e w = (w.answers, refl)

module _ (short : ℕ) (value : List ℕ) (openings : ℕ) (out : List ℕ) {len : ℕ} (size : len ≡ length value) where
  done_short : length out < len → (Refused short len 0 ≡ answer_in short (done value openings) out) × (out ≡ left_in (done value openings) out)
  unfolding answer_in left_in
  done_short h =
      let t = lt-ltb (length out) (length value) (omega (arith, size, h)) in
      (ap (λ (k : ℕ). Refused short k 0) size ∙ rw t, rw t)

  done_written : len ≤ length out → (Done (length value) openings ≡ answer_in short (done value openings) out) × (over value out ≡ left_in (done value openings) out)
  unfolding answer_in left_in
  done_written h =
      let fits : length value ≤ length out = omega (arith, size, h) in
      let t = le-ltb (length out) (length value) fits in
      (rw t, over_fits value out fits ∙ rw t)

-- a text that is its own value: refused, or copied
module _ (short : ℕ) (t out : List ℕ) where
  pub whole_short : length out < length t → Ended short (done t 0) out out (Refused short (length t) 0)
  whole_short h = done_short short t 0 out refl h

  pub whole_written : {last : List ℕ} → length t ≤ length out → last ≡ laid t out → Ended short (done t 0) out last (Done (length t) 0)
  whole_written h e =
      let k = done_written short t 0 out refl h in
      (k.0, e ∙ sym (over_fits t out h) ∙ k.1)

module _ (short : ℕ) (o : Outcome) (out : List ℕ) {old new : List ℕ} {r : Answer} {len openings : ℕ} (e : r ≡ Done len openings) (w : Walked o old new r) where
  -- the count, taken apart
  record Counted : Type 0 where
    value : List ℕ
    made : ℕ
    whole : o ≡ done value made
    size : len ≡ length value

  counted : Counted
  counted = go o refl (sym e ∙ w.answers)
    where
      go : (p : Outcome) → o ≡ p → Done len openings ≡ answer_of p → Counted
      go (done value made) q a = record { value = value; made = made; whole = q; size = cc }
      go (refused before made number first second) q a = let z : ◌≡◌ {A = ℕ} 0 1 = cc in absurd (omega arith)

  -- refusals 18 and 19
  pub ended_short : length out < len → Ended short o out out (Refused short len 0)
  ended_short h =
      let n = counted in
      let k = done_short short n.value n.made out n.size h in
      (k.0 ∙ ap (λ (p : Outcome). answer_in short p out) (sym n.whole), k.1 ∙ ap (λ (p : Outcome). left_in p out) (sym n.whole))

  -- the write, where there is room
  pub ended_written : {last : List ℕ} {q : Answer} → len ≤ length out → Walked o out last q → Ended short o out last q
  ended_written {last} {q} h v =
      let n = counted in
      let k = done_written short n.value n.made out n.size h in (
        v.answers ∙ ap answer_of n.whole ∙ k.0 ∙ ap (λ (p : Outcome). answer_in short p out) (sym n.whole),
        v.writes ∙ ap (λ (p : Outcome). over (produced p) out) n.whole ∙ k.1 ∙ ap (λ (p : Outcome). left_in p out) (sym n.whole),
      )

  -- no write, where the count was lent room enough: what it holds is copied
  pub ended_held : {last : List ℕ} → len ≤ length old → len ≤ length out → last ≡ laid (take len new) out → Ended short o out last r
  ended_held {last} g h q =
      let n = counted in
      let k = done_written short n.value n.made out n.size h in
      let fits : length n.value ≤ length old = omega (arith, n.size, g) in
      let room : length n.value ≤ length out = omega (arith, n.size, h) in
      let holds : new ≡ laid n.value old = w.writes ∙ ap (λ (p : Outcome). over (produced p) old) n.whole ∙ over_fits n.value old fits in
      let taken : take len new ≡ n.value =
      ap₂ (λ (k : ℕ) (l : List ℕ). take k l) n.size holds ∙ take-append_seam n.value (drop (length n.value) old)
      in (
        w.answers ∙ ap answer_of n.whole ∙ k.0 ∙ ap (λ (p : Outcome). answer_in short p out) (sym n.whole),
        q ∙ ap (λ (l : List ℕ). laid l out) taken ∙ sym (over_fits n.value out room) ∙ k.1 ∙ ap (λ (p : Outcome). left_in p out) (sym n.whole),
      )
