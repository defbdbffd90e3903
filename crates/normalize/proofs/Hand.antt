-- The canonical form of a call, with 4 bytes of scratch: where it is refused (`hand_refused`), and where it is written (`hand_made`), the last
-- character of whose value goes to the scratch (`handed_laid`), unless it is empty (`hand_empty`). Assumes nothing.
use mathlib.Core.Path.{◌≡◌, refl, sym, ap, ap₂, subst, ◌∙◌}
use mathlib.Core.Logic.{◌≢◌}
use mathlib.Core.Bool.{Bool, true, false}
use mathlib.Core.List.{List, [], ◌∷◌}
use Prim.Native.Nat.{ℕ, ◌≤◌}
use native.Mathlib.Omega.{arith}
use lib.Dec.{eqb, ltb}
use lib.ListN.{length, take, drop}
use lib.Seq.{take-append_seam}
use borrow.Author.Tests.{ltb-true, ltb-false}
use Rattle.text.specs.Bytes.{pick}
use Rattle.text.specs.Version.{Rule, rule_of}
use Rattle.text.specs.Utf8.{WellFormed}
use Rattle.text.specs.Call.{call_of, laid}
use Rattle.text.specs.Answers.{Answer}
use Rattle.text.specs.Answers.{Done, Refused}
use Rattle.output.proofs.Laid.{laid_length}
use Rattle.eols.specs.Stops.{rule_for}
use Rattle.eols.proofs.LineEnds.{version_rule}
use Rattle.canonical.specs.Canonical.{canonical}
use Rattle.canonical.specs.LastCharacter.{in_hand}
use Rattle.canonical.specs.FormEnds.{FormOf}
use Rattle.canonical.proofs.Canonical.{canonical_length}
use Rattle.tokens.specs.Outcome.{Outcome, done, refused, answer_in, left_in}
use Rattle.tokens.specs.Walking.{Ended}
use Rattle.attribute.specs.Form.{handed, formed}
use Rattle.attribute.proofs.InHand.{in_hand_short, in_hand_no_room, in_hand_done}
use Rattle.memory.specs.Slots.{shaped}
use Rattle.memory.proofs.Shaped.{shaped_form}
use Rattle.normalize.specs.Calls.{written_in}

-- the form that a version asks for
pub form_is : (version : ℕ) {form : ℕ} → form ≡ pick (ltb 1 version) 2 1 → (value : List ℕ) → shaped form value ≡ canonical (rule_of version) value
form_is version {form} e value =
    shaped_form (λ q. zero_not (ltb 1 version) (sym e ∙ q)) value
    ∙ ap (λ (rule : Rule). canonical rule value) (ap rule_for (ap (λ (n : ℕ). eqb n 2) e ∙ flag (ltb 1 version)) ∙ version_rule version (ltb 1 version) refl)
  where
    zero_not : (t : Bool) → ◌≡◌ {A = ℕ} (pick t 2 1) 0 → ⊥
    zero_not true q = omega (arith, q)
    zero_not false q = omega (arith, q)

    flag : (t : Bool) → eqb (pick t 2 1) 2 ≡ t
    flag true = refl
    flag false = refl

-- a form that was written
pub record Made (r : Rule) (o : Outcome) (scratch out new : List ℕ) (len made : ℕ) : Type 0 where
  pub value : List ℕ
  pub whole : o ≡ done value made
  pub enough : 4 ≤ length scratch
  pub fits : len ≤ length new
  pub taken : take len new ≡ canonical r value
  pub call : call_of (Done len made) (handed value scratch ∷ new ∷ []) ≡ formed r o scratch out

module _ (r : Rule) (form : ℕ) (is : (value : List ℕ) → shaped form value ≡ canonical r value) (o : Outcome) (scratch out : List ℕ) {new : List ℕ} {a : Answer}
    (e : Ended 19 (written_in form (ltb (length scratch) 4) o) out new a) where
  pub hand_refused : {number first second : ℕ} → a ≡ Refused number first second → call_of a (scratch ∷ new ∷ []) ≡ formed r o scratch out
  unfolding answer_in left_in formed
  hand_refused {number} {first} {second} q = go o e
    where
      room : (value : List ℕ) (made : ℕ) → 4 ≤ length scratch → (t : Bool) → ltb (length out) (length (canonical r value)) ≡ t
          → (a ≡ pick t (Refused 19 (length (canonical r value)) 0) (Done (length (canonical r value)) made)) × (new ≡ pick t out (laid (canonical r value) out))
          → call_of a (scratch ∷ new ∷ []) ≡ formed r (done value made) scratch out
      room value made h true u k =
          ap₂ (λ (x : Answer) (l : List ℕ). call_of x (scratch ∷ l ∷ [])) k.0 k.1
          ∙ sym (in_hand_no_room r value made scratch out h (ltb-true (length out) (length (canonical r value)) u))
      room value made h false u k =
          let w = k.0 in
          let z : ◌≡◌ {A = ℕ} 0 1 = cc in
          absurd (omega (arith, z))

      lack : (value : List ℕ) (made : ℕ) (t : Bool) → ltb (length scratch) 4 ≡ t
          → Ended 19 (pick t (refused [] made 18 4 0) (done (shaped form value) made)) out new a → call_of a (scratch ∷ new ∷ []) ≡ formed r (done value made) scratch out
      lack value made true h k =
          ap₂ (λ (x : Answer) (l : List ℕ). call_of x (scratch ∷ l ∷ [])) k.0 k.1
          ∙ sym (in_hand_short r value made scratch out (ltb-true (length scratch) 4 h))
      lack value made false h k =
          room value made (ltb-false (length scratch) 4 h) (ltb (length out) (length (canonical r value))) refl
          (subst (λ (x : List ℕ). Ended 19 (done x made) out new a) (is value) k)

      go : (p : Outcome) → Ended 19 (written_in form (ltb (length scratch) 4) p) out new a → call_of a (scratch ∷ new ∷ []) ≡ formed r p scratch out
      go (refused before made n f s) k = ap₂ (λ (x : Answer) (l : List ℕ). call_of x (scratch ∷ l ∷ [])) k.0 k.1
      go (done value made) k = lack value made (ltb (length scratch) 4) refl k

  pub hand_made : {len made : ℕ} → a ≡ Done len made → Made r o scratch out new len made
  unfolding answer_in left_in
  hand_made {len} {made} q = go o e
    where
      room : (value : List ℕ) (m : ℕ) → 4 ≤ length scratch → (t : Bool) → ltb (length out) (length (canonical r value)) ≡ t
          → (a ≡ pick t (Refused 19 (length (canonical r value)) 0) (Done (length (canonical r value)) m)) × (new ≡ pick t out (laid (canonical r value) out))
          → Made r (done value m) scratch out new len made
      room value m h true u k =
          let w = k.0 in
          let z : ◌≡◌ {A = ℕ} 0 1 = cc in
          absurd (omega (arith, z))
      room value m h false u k =
          let w = k.0 in
          let x : m ≡ made = cc in
          let y : len ≡ length (canonical r value) = cc in
          let fits = ltb-false (length out) (length (canonical r value)) u in
          record {
            value = value;
            whole = ap (done value) x;
            enough = h;
            fits = omega (arith, y, fits, ap length k.1, laid_length (canonical r value) out fits);
            taken =
                ap₂ (λ (n : ℕ) (l : List ℕ). take n l) y k.1
                ∙ take-append_seam (canonical r value) (drop (length (canonical r value)) out);
            call =
                ap₂ (λ (n i : ℕ). call_of (Done n i) (handed value scratch ∷ new ∷ [])) y (sym x)
                ∙ ap (λ (l : List ℕ). call_of (Done (length (canonical r value)) m) (handed value scratch ∷ l ∷ [])) k.1
                ∙ sym (in_hand_done r value m scratch out h fits);
          }

      lack : (value : List ℕ) (m : ℕ) (t : Bool) → ltb (length scratch) 4 ≡ t
          → Ended 19 (pick t (refused [] m 18 4 0) (done (shaped form value) m)) out new a → Made r (done value m) scratch out new len made
      lack value m true h k =
          let w = k.0 in
          let z : ◌≡◌ {A = ℕ} 0 1 = cc in
          absurd (omega (arith, z))
      lack value m false h k =
          room value m (ltb-false (length scratch) 4 h) (ltb (length out) (length (canonical r value))) refl
          (subst (λ (x : List ℕ). Ended 19 (done x m) out new a) (is value) k)

      go : (p : Outcome) → Ended 19 (written_in form (ltb (length scratch) 4) p) out new a → Made r p scratch out new len made
      go (refused before m n f s) k =
          let w = k.0 in
          let z : ◌≡◌ {A = ℕ} 0 1 = cc in
          absurd (omega (arith, z))
      go (done value m) k = lack value m (ltb (length scratch) 4) refl k

-- ---- the scratch

-- what is given over where there is a form
pub made_form : {r : Rule} {o : Outcome} {scratch out new : List ℕ} {len made : ℕ} → (m : Made r o scratch out new len made) → WellFormed m.value → length (take len new) ≢ 0
    → FormOf (take len new)
made_form {r} m w n =
    let most = (canonical_length r m.value).1 in
    record { rule = r; value = m.value; whole = w; some = omega (arith, n, most, ap length m.taken); is = m.taken }

-- an empty value leaves it
pub hand_empty : (form : List ℕ) → length form ≡ 0 → (rule : Rule) (value scratch : List ℕ) → form ≡ canonical rule value → scratch ≡ handed value scratch
hand_empty form n rule [] scratch q = refl
hand_empty form n rule (b ∷ bs) scratch q = absurd (omega (arith, n, ap length q, (canonical_length rule (b ∷ bs)).0))

-- another is not empty, and its last character goes there
pub hand_some : (form : List ℕ) → length form ≢ 0 → (rule : Rule) (value : List ℕ) → form ≡ canonical rule value → 1 ≤ length value
hand_some form n rule value q = omega (arith, n, ap length q, (canonical_length rule value).1)

pub handed_laid : (value scratch : List ℕ) → 1 ≤ length value → laid (in_hand value) scratch ≡ handed value scratch
handed_laid [] scratch h = absurd (omega (arith, h))
handed_laid (b ∷ bs) scratch h = refl
