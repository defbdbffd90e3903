-- How the second stage over an outcome ends: refused as the walk is, or by 18 (`collapsed_refused`); else the scratch holds the value
-- (`filled`), and what the stage makes of it goes to the output (`collapsed_written`). Assumes nothing.
use mathlib.Core.Path.{◌≡◌, refl, sym, ap, ◌∙◌}
use mathlib.Core.Bool.{Bool, true, false}
use mathlib.Core.List.{List, [], ◌∷◌}
use Prim.Native.Nat.{ℕ, ◌≤◌}
use native.Mathlib.Omega.{arith}
use lib.Dec.{ltb}
use lib.ListN.{length, take, drop}
use lib.Seq.{take-append_seam}
use borrow.Author.Tests.{ltb-false, le-ltb}
use Rattle.text.specs.Bytes.{pick}
use Rattle.text.specs.Call.{Called, called, call_of, laid, finish}
use Rattle.text.specs.Answers.{Answer, Done, Refused}
use Rattle.collapse.specs.Collapse.{collapse}
use Rattle.tokens.specs.Outcome.{Outcome, done, refused, answer_in, left_in}
use Rattle.tokens.specs.Walking.{Ended}
use Rattle.nmtokens.specs.Nmtokens.{collapsed}

-- what a call leaves, with the scratch before its output
abbrev behind : List ℕ → Called → Called
behind scratch (called number words buffers) = called number words (scratch ∷ buffers)

behind_call : (q : Answer) (scratch : List ℕ) (buffers : List (List ℕ)) → call_of q (scratch ∷ buffers) ≡ behind scratch (call_of q buffers)
behind_call (Done first second) scratch buffers = refl
behind_call (Refused number first second) scratch buffers = refl

behind_pick : (t : Bool) (scratch : List ℕ) (a b : Called) → behind scratch (pick t a b) ≡ pick t (behind scratch a) (behind scratch b)
behind_pick true scratch a b = refl
behind_pick false scratch a b = refl

-- where the value fits
collapsed_fits : (value : List ℕ) (openings : ℕ) (scratch out : List ℕ) → length value ≤ length scratch
    → behind (laid value scratch) (finish (collapse value) openings out) ≡ collapsed (done value openings) scratch out
unfolding collapsed finish
collapsed_fits value openings scratch out h =
    rw (le-ltb (length scratch) (length value) h) (behind_pick (ltb (length out) (length (collapse value))) (laid value scratch) _ _)

-- a value that fits: 19, or what is written
abbrev ends : List ℕ → ℕ → List ℕ → List ℕ → Called
ends value openings scratch out =
    pick (ltb (length out) (length (collapse value))) (called 19 (length (collapse value) ∷ 0 ∷ []) (laid value scratch ∷ out ∷ []))
    (called 0 (length (collapse value) ∷ openings ∷ []) (laid value scratch ∷ laid (collapse value) out ∷ []))

-- a refusal of the walk, or 18
pub collapsed_refused : (o : Outcome) (scratch out last : List ℕ) {a : Answer} {number first second : ℕ} → Ended 18 o scratch last a
    → a ≡ Refused number first second → call_of a (last ∷ out ∷ []) ≡ collapsed o scratch out
unfolding answer_in left_in collapsed
collapsed_refused (done value openings) scratch out last {a} {number} {first} {second} e q = go (ltb (length scratch) (length value)) e
  where
    go : (t : Bool) → (a ≡ pick t (Refused 18 (length value) 0) (Done (length value) openings)) × (last ≡ pick t scratch (laid value scratch))
        → call_of a (last ∷ out ∷ []) ≡ pick t (called 18 (length value ∷ 0 ∷ []) (scratch ∷ out ∷ [])) (ends value openings scratch out)
    go true k = rw (k.0, k.1)
    go false k =
        let p = k.0 in
        let z : ◌≡◌ {A = ℕ} 0 1 = cc in
        absurd (omega arith)
collapsed_refused (refused before openings n f s) scratch out last e q = rw (e.0, e.1)

-- the scratch holds the value
pub record Filled (o : Outcome) (scratch last : List ℕ) (len made : ℕ) : Type 0 where
  pub value : List ℕ
  pub whole : o ≡ done value made
  pub size : len ≡ length value
  pub holds : last ≡ laid value scratch
  pub room : length value ≤ length scratch

pub filled : (o : Outcome) (scratch last : List ℕ) {a : Answer} {len made : ℕ} → Ended 18 o scratch last a → a ≡ Done len made → Filled o scratch last len made
unfolding answer_in left_in
filled (done value openings) scratch last {a} {len} {made} e q = go (ltb (length scratch) (length value)) refl e
  where
    go : (t : Bool) → ltb (length scratch) (length value) ≡ t
        → (a ≡ pick t (Refused 18 (length value) 0) (Done (length value) openings)) × (last ≡ pick t scratch (laid value scratch))
        → Filled (done value openings) scratch last len made
    go true h k =
        let p = k.0 in
        let z : ◌≡◌ {A = ℕ} 0 1 = cc in
        absurd (omega arith)
    go false h k =
        let p = k.0 in
        let m : openings ≡ made = cc in
        let n : len ≡ length value = cc in
        record { value = value; whole = ap (done value) m; size = n; holds = k.1; room = ltb-false (length scratch) (length value) h }
filled (refused before openings n f s) scratch last e q =
    let p = e.0 in
    let z : ◌≡◌ {A = ℕ} 0 1 = cc in
    absurd (omega arith)

module _ {o : Outcome} {scratch last : List ℕ} {len made : ℕ} (f : Filled o scratch last len made) where
  -- its first bytes are the value
  filled_value : take len last ≡ f.value
  filled_value =
      ap (λ (n : ℕ). take n last) f.size ∙ ap (take (length f.value)) f.holds ∙ take-append_seam f.value (drop (length f.value) scratch)

  pub collapsed_written : (out new : List ℕ) (q : Answer) → call_of q (new ∷ []) ≡ finish (collapse (take len last)) made out
      → call_of q (last ∷ new ∷ []) ≡ collapsed o scratch out
  collapsed_written out new q e =
      behind_call q last (new ∷ [])
      ∙ ap (behind last) (e ∙ ap (λ (v : List ℕ). finish (collapse v) made out) filled_value)
      ∙ ap (λ (l : List ℕ). behind l (finish (collapse f.value) made out)) f.holds
      ∙ collapsed_fits f.value made scratch out f.room
      ∙ ap (λ (p : Outcome). collapsed p scratch out) (sym f.whole)
