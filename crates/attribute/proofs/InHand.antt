-- The canonical form from 4 bytes of scratch (document 02, K7): each of its answers, and that form, openings and refusals are those of a scratch
-- that holds the whole value. Assumes nothing.
use mathlib.Core.Path.{◌≡◌, refl, sym, ap, ◌∙◌}
use mathlib.Core.List.{List, [], ◌∷◌, ◌++◌}
use Prim.Native.Nat.{ℕ, ◌≤◌, ◌<◌}
use native.Mathlib.Omega.{arith}
use lib.Dec.{ltb}
use lib.ListN.{length}
use borrow.Author.Tests.{lt-ltb, le-ltb}
use Rattle.text.specs.Bytes.{pick}
use Rattle.text.specs.Version.{Rule}
use Rattle.text.specs.Call.{Called, called, laid, finish}
use Rattle.output.proofs.Laid.{laid_length, laid_rest}
use Rattle.canonical.specs.Canonical.{canonical}
use Rattle.canonical.specs.LastCharacter.{last_character, filled_up, in_hand}
use Rattle.tokens.specs.Outcome.{Outcome, done, refused}
use Rattle.attribute.specs.Form.{besides, formed_whole, handed, formed, without_scratch, HoldsWhole}

-- ---- the scratch

-- 4 bytes, whatever the value
pub hand_length : (value : List ℕ) → length (in_hand value) ≡ 4
unfolding in_hand
hand_length value = four (last_character value)
  where
    four : (l : List ℕ) → length (filled_up 4 l) ≡ 4
    four [] = refl
    four (a ∷ []) = refl
    four (a ∷ b ∷ []) = refl
    four (a ∷ b ∷ c ∷ []) = refl
    four (a ∷ b ∷ c ∷ d ∷ l) = refl

-- the scratch keeps its length
pub handed_length : (value scratch : List ℕ) → 4 ≤ length scratch → length (handed value scratch) ≡ length scratch
handed_length [] scratch h = refl
handed_length (b ∷ bs) scratch h = laid_length (in_hand (b ∷ bs)) scratch (omega (arith, hand_length (b ∷ bs), h))

-- the same value again leaves it
pub handed_again : (value scratch : List ℕ) → handed value (handed value scratch) ≡ handed value scratch
handed_again [] scratch = refl
handed_again (b ∷ bs) scratch = ap (λ (l : List ℕ). in_hand (b ∷ bs) ++ l) (laid_rest (in_hand (b ∷ bs)) scratch)

-- ---- the answers

module _ (r : Rule) (value : List ℕ) (openings : ℕ) (scratch out : List ℕ) where
  -- K7: 18 names 4 as the length needed, for an empty value too, and comes before 19
  pub in_hand_short : length scratch < 4 → formed r (done value openings) scratch out ≡ called 18 (4 ∷ 0 ∷ []) (scratch ∷ out ∷ [])
  unfolding formed
  in_hand_short h = rw (lt-ltb (length scratch) 4 h)

  module _ (enough : 4 ≤ length scratch) where
    -- K7: 19 leaves the scratch
    pub in_hand_no_room : length out < length (canonical r value)
        → formed r (done value openings) scratch out ≡ called 19 (length (canonical r value) ∷ 0 ∷ []) (scratch ∷ out ∷ [])
    unfolding formed finish
    in_hand_no_room h = rw (le-ltb (length scratch) 4 enough, lt-ltb (length out) (length (canonical r value)) h)

    pub in_hand_done : length (canonical r value) ≤ length out
        → formed r (done value openings) scratch out
        ≡ called 0 (length (canonical r value) ∷ openings ∷ []) (handed value scratch ∷ laid (canonical r value) out ∷ [])
    unfolding formed finish
    in_hand_done h = rw (le-ltb (length scratch) 4 enough, le-ltb (length out) (length (canonical r value)) h)

-- ---- the same form, openings and refusals

without_besides : (scratch : List ℕ) (c : Called) → without_scratch (besides scratch c) ≡ c
without_besides scratch (called number words buffers) = refl

-- K7: the same form, openings and refusals as from a scratch that holds the whole value, each with room enough
pub same_form : (r : Rule) (o : Outcome) (whole small out : List ℕ) → HoldsWhole o whole → 4 ≤ length small
    → without_scratch (formed r o small out) ≡ without_scratch (formed_whole r o whole out)
unfolding formed formed_whole
same_form r (done value openings) whole small out h k =
    rw (le-ltb (length small) 4 k, le-ltb (length whole) (length value) h)
    (without_besides (pick (ltb (length out) (length (canonical r value))) small (handed value small)) (finish (canonical r value) openings out)
    ∙ sym (without_besides (laid value whole) (finish (canonical r value) openings out)))
same_form r (refused before openings number first second) whole small out h k = refl
