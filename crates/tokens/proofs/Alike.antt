-- References whose bytes are the same: where one has a value, so has the other. Assumes nothing.
use mathlib.Core.Path.{◌≡◌, refl, sym, ap, ◌∙◌}
use mathlib.Core.Bool.{Bool, true, false, ◌&&◌}
use mathlib.Core.List.{List, [], ◌∷◌}
use Prim.Native.Nat.{ℕ, suc, ◌+◌, ◌-◌, ◌≤◌, ◌<◌}
use native.Mathlib.Omega.{arith}
use native.Mathlib.Nat.{add-zero}
use lib.Dec.{eqb}
use lib.ListN.{length, get_or, drop, length-drop}
use lib.Seq.{get_or-drop}
use Rattle.text.specs.Bytes.{pick}
use Rattle.tokens.specs.Tokens.{Stop, Head, head, Heads, stop, number, named, token_of, skip_of, Name, ended, endless, longer, name_at, reference_to, reference_at}
use Rattle.tokens.specs.Outcome.{Outcome, done}
use Rattle.tokens.specs.Walking.{head_at, next_at, outcome_of}
use Rattle.tokens.specs.Seen.{Shifts}

-- ---- names

-- the first byte of a name, where what is known of the rest carries over
same_byte : (t u : Bool) (b : ℕ) (r s : Name) (name : List ℕ)
    → pick t (ended []) (pick u endless (longer b r)) ≡ ended name
    → ((more : List ℕ) → r ≡ ended more → name ≡ b ∷ more → s ≡ ended more)
    → pick t (ended []) (pick u endless (longer b s)) ≡ ended name
same_byte true u b r s name e f = e
same_byte false true b r s name e f = e
same_byte false false b (ended more) s name e f =
    let q : name ≡ b ∷ more = cc in
    ap (longer b) (f more refl q) ∙ e
same_byte false false b endless s name e f =
    let z : ◌≡◌ {A = ℕ} 0 1 = cc in
    absurd (omega arith)

-- a text that starts with the same bytes, up to the `;`, has the same name
same_name : (inner : Bool) (bs cs name : List ℕ) → name_at inner bs ≡ ended name → length name < length cs
    → ((k : ℕ) → k ≤ length name → get_or cs k 0 ≡ get_or bs k 0)
    → name_at inner cs ≡ ended name
unfolding name_at
same_name inner [] cs name e h g =
    let z : ◌≡◌ {A = ℕ} 0 1 = cc in
    absurd (omega arith)
same_name inner (b ∷ bs) [] name e h g = absurd (omega arith)
same_name inner (b ∷ bs) (c ∷ cs) name e h g =
    let q : c ≡ b = g 0 (omega arith) in
    ap (λ (x : ℕ). name_at inner (x ∷ cs)) q
    ∙ same_byte (eqb b 59) (inner && eqb b 38) b (name_at inner bs) (name_at inner cs) name e
    (λ more r n.
    let l : length name ≡ suc (length more) = ap length n in
    same_name inner bs cs more r (omega arith) (λ k m. g (suc k) (omega arith)))

-- ---- what is referred to

skip_as : (t : Bool) (offset n : ℕ) (bs name : List ℕ) → skip_of (pick t (head (stop (number bs)) n) (head (stop (named offset name)) n)) ≡ n
skip_as true offset n bs name = refl
skip_as false offset n bs name = refl

to_skip : (offset : ℕ) (name : List ℕ) → skip_of (reference_to offset name name) ≡ suc (length name)
unfolding reference_to
to_skip offset [] = refl
to_skip offset (b ∷ bs) = skip_as (eqb b 35) offset (suc (length (b ∷ bs))) bs (b ∷ bs)

module _ (answer : Stop → ℕ → Outcome) (limit : ℕ) (shifts : Shifts limit answer) (i j : ℕ) (value : List ℕ) (m n k : ℕ) (h : n + k ≤ limit) where
  answer_as : (t : Bool) (s : ℕ) (bs name : List ℕ)
      → outcome_of answer (token_of (pick t (head (stop (number bs)) s) (head (stop (named i name)) s))) m ≡ done value (m + k)
      → outcome_of answer (token_of (pick t (head (stop (number bs)) s) (head (stop (named j name)) s))) n ≡ done value (n + k)
  answer_as true s bs name e = shifts.numbers bs value m n k e h
  answer_as false s bs name e = shifts.names i j name value m n k e h

  to_answer : (name : List ℕ) → outcome_of answer (token_of (reference_to i name name)) m ≡ done value (m + k)
      → outcome_of answer (token_of (reference_to j name name)) n ≡ done value (n + k)
  unfolding reference_to
  to_answer [] e = shifts.names i j [] value m n k e h
  to_answer (b ∷ bs) e = answer_as (eqb b 35) (suc (length (b ∷ bs))) bs (b ∷ bs) e

-- ---- references

module _ (inner : Bool) (at : Heads) (reads : (offset : ℕ) (bs : List ℕ) → at offset 38 bs ≡ reference_at offset bs (name_at inner bs))
    (answer : Stop → ℕ → Outcome) (limit : ℕ) (shifts : Shifts limit answer) (text : List ℕ) where
  reads_at : (i : ℕ) → get_or text i 0 ≡ 38 → head_at at text i ≡ reference_at i (drop (i + 1) text) (name_at inner (drop (i + 1) text))
  reads_at i b = ap (λ (x : ℕ). at i x (drop (i + 1) text)) b ∙ reads i (drop (i + 1) text)

  named_at : (i : ℕ) (name : List ℕ) → get_or text i 0 ≡ 38 → name_at inner (drop (i + 1) text) ≡ ended name → head_at at text i ≡ reference_to i name name
  unfolding reference_at
  named_at i name b e = reads_at i b ∙ ap (reference_at i (drop (i + 1) text)) e

  endless_at : (i m n : ℕ) (value : List ℕ) → get_or text i 0 ≡ 38 → name_at inner (drop (i + 1) text) ≡ endless
      → outcome_of answer (token_of (head_at at text i)) m ≡ done value n → ⊥
  unfolding reference_at
  endless_at i m n value b e o =
      let q = reads_at i b ∙ ap (reference_at i (drop (i + 1) text)) e in
      shifts.unended i (i + suc (length (drop (i + 1) text))) m n value (sym (ap (λ (z : Head). outcome_of answer (token_of z) m) q) ∙ o)

  -- the same bytes at another offset: the same width, and the same value after any openings that leave room for its own
  pub alike : (p e w : ℕ) → get_or text p 0 ≡ 38 → p + w ≤ length text → e + w ≤ length text
      → ((k : ℕ) → k < w → get_or text (e + k) 0 ≡ get_or text (p + k) 0)
      → next_at at text p ≡ p + w
      → (n k : ℕ) (value : List ℕ) → outcome_of answer (token_of (head_at at text p)) n ≡ done value (n + k)
      → (next_at at text e ≡ e + w)
      × ((m : ℕ) → m + k ≤ limit → outcome_of answer (token_of (head_at at text e)) m ≡ done value (m + k))
  alike p e w amp hp he same next n k value o = go (name_at inner (drop (p + 1) text)) refl
    where
      go : (z : Name) → name_at inner (drop (p + 1) text) ≡ z
          → (next_at at text e ≡ e + w)
          × ((m : ℕ) → m + k ≤ limit → outcome_of answer (token_of (head_at at text e)) m ≡ done value (m + k))
      go endless q = absurd (endless_at p n (n + k) value amp q o)
      go (ended name) q =
          let d = named_at p name amp q in
          let s : skip_of (head_at at text p) ≡ suc (length name) = ap skip_of d ∙ to_skip p name in
          let y : w ≡ suc (suc (length name)) = omega arith in
          let x : length (drop (e + 1) text) ≡ length text - (e + 1) = length-drop (e + 1) text in
          let amp' : get_or text e 0 ≡ 38 =
          ap (λ (i : ℕ). get_or text i 0) (sym (add-zero e)) ∙ same 0 (omega arith) ∙ ap (λ (i : ℕ). get_or text i 0) (add-zero p) ∙ amp in
          let r : name_at inner (drop (e + 1) text) ≡ ended name =
          same_name inner (drop (p + 1) text) (drop (e + 1) text) name q (omega arith) (λ i l. byte i (omega arith)) in
          let d' = named_at e name amp' r in
          let s' : skip_of (head_at at text e) ≡ suc (length name) = ap skip_of d' ∙ to_skip e name in (
            omega arith,
            λ m h.
                ap (λ (z : Head). outcome_of answer (token_of z) m) d'
                ∙ to_answer answer limit shifts p e value n m k h name (sym (ap (λ (z : Head). outcome_of answer (token_of z) n) d) ∙ o),
          )
        where
          byte : (i : ℕ) → suc i < w → get_or (drop (e + 1) text) i 0 ≡ get_or (drop (p + 1) text) i 0
          byte i l =
              let a : e + 1 + i ≡ e + suc i = omega arith in
              let b : p + suc i ≡ p + 1 + i = omega arith in
              get_or-drop (e + 1) text i 0
              ∙ ap (λ (x : ℕ). get_or text x 0) a
              ∙ same (suc i) l
              ∙ ap (λ (x : ℕ). get_or text x 0) b
              ∙ sym (get_or-drop (p + 1) text i 0)
