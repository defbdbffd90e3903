-- K7, of both calls: the same form, openings and refusals (`k7_same`), 18 (`k7_short`, `k7_walk_first`), the character in hand (`k7_hand`), and
-- that 19 leaves it (`k7_no_room`); of any value whose normalization answers, with any table. Assumes nothing.
use mathlib.Core.Path.{◌≡◌, refl, sym, ap, ◌∙◌}
use mathlib.Core.Logic.{◌≢◌}
use mathlib.Core.Bool.{Bool, true, false}
use mathlib.Core.List.{List, [], ◌∷◌}
use Prim.Native.Nat.{ℕ, ◌≤◌, ◌<◌}
use lib.ListN.{length, take}
use Rattle.text.specs.Version.{Rule}
use Rattle.text.specs.Call.{Called, called, guarded, laid}
use Rattle.text.specs.Answers.{Answer}
use Rattle.text.specs.Answers.{Done, Refused}
use Rattle.tokens.specs.Outcome.{Outcome, done}
use Rattle.attribute.specs.Form.{handed, formed, formed_whole, without_scratch, HoldsWhole}
use Rattle.attribute.proofs.InHand.{same_form, in_hand_short, in_hand_no_room, in_hand_done}
use Rattle.govlezna.specs.Calls.{canonical_form_call, canonical_form_strict_call}
use Rattle.demands.specs.Demands.{Asked, rule_for, form_of}
use Rattle.demands.proofs.CallDemands.{taken_passes}
use Rattle.requests.specs.SmallScratch.{canonical_by, normalize_by, walked_by, checks_of}
use Rattle.requests.proofs.Readings.{gave, normalize_is, refused_before}

-- behind the checks of the arguments
guarded_same : (c : Answer) (r : Rule) (o : Outcome) (whole small out : List ℕ) → HoldsWhole o whole → 4 ≤ length small
    → without_scratch (guarded c (small ∷ out ∷ []) (formed r o small out)) ≡ without_scratch (guarded c (whole ∷ out ∷ []) (formed_whole r o whole out))
guarded_same (Done first second) r o whole small out h k = same_form r o whole small out h k
guarded_same (Refused number first second) r o whole small out h k = refl

module _ (strict : Bool) (a : Asked) where
  abbrev call : List ℕ → List ℕ → Called
  call scratch out = canonical_by strict a scratch out

  abbrev walks : Outcome
  walks = walked_by strict a

  is_formed : (scratch out : List ℕ) → call scratch out ≡ guarded (checks_of a) (scratch ∷ out ∷ []) (formed (rule_for a) walks scratch out)
  unfolding canonical_form_call canonical_form_strict_call
  is_formed scratch out = go strict
    where
      go : (s : Bool) → canonical_by s a scratch out ≡ guarded (checks_of a) (scratch ∷ out ∷ []) (formed (rule_for a) (walked_by s a) scratch out)
      go false = refl
      go true = refl

  -- K7: "giving the same form, openings and refusals": as with a scratch that holds the whole value, all but the scratch
  pub k7_same : (whole small out : List ℕ) → HoldsWhole walks whole → 4 ≤ length small
      → without_scratch (call small out) ≡ without_scratch (guarded (checks_of a) (whole ∷ out ∷ []) (formed_whole (rule_for a) walks whole out))
  k7_same whole small out h k = ap without_scratch (is_formed small out) ∙ guarded_same (checks_of a) (rule_for a) walks whole small out h k

  -- K7: 18 comes after the refusals of the arguments and of the walk, which leave the scratch, whatever its length: a number, other than 19,
  -- by which normalization refuses the value is the form's, with the same words
  pub k7_walk_first : (lent : List ℕ) {number : ℕ} {words : List ℕ} {left : List (List ℕ)} → normalize_by strict a lent ≡ called number words left
      → number ≢ 0 → number ≢ 19 → (scratch out : List ℕ) → call scratch out ≡ called number words (scratch ∷ out ∷ [])
  unfolding formed
  k7_walk_first lent e not0 not19 scratch out =
      is_formed scratch out
      ∙ refused_before (checks_of a) walks lent (scratch ∷ out ∷ []) (formed (rule_for a) walks scratch out)
      (λ before m why first second q. ap (λ (o : Outcome). formed (rule_for a) o scratch out) q) (sym (normalize_is strict a lent) ∙ e) not0 not19

  -- of a value whose normalization answers 0, with any output
  module _ (lent : List ℕ) {size openings : ℕ} {left : List ℕ} (answers : normalize_by strict a lent ≡ called 0 (size ∷ openings ∷ []) (left ∷ [])) (scratch out : List ℕ) where
    abbrev value : List ℕ
    value = take size left

    abbrev form : List ℕ
    form = form_of a value

    of_value : call scratch out ≡ formed (rule_for a) (done value openings) scratch out
    of_value =
        let x = gave strict a lent answers in
        is_formed scratch out
        ∙ ap (λ (c : Answer). guarded c (scratch ∷ out ∷ []) (formed (rule_for a) walks scratch out)) (taken_passes a x.taken)
        ∙ ap (λ (o : Outcome). formed (rule_for a) o scratch out) x.reads

    -- K7: "18 now means a scratch shorter than 4 bytes and names 4 as the length needed": for an empty value too, and whatever the output
    pub k7_short : length scratch < 4 → call scratch out ≡ called 18 (4 ∷ 0 ∷ []) (scratch ∷ out ∷ [])
    k7_short h = of_value ∙ in_hand_short (rule_for a) value openings scratch out h

    -- K7: "after [..] 19 too, all of it is unchanged"
    pub k7_no_room : 4 ≤ length scratch → length out < length form → call scratch out ≡ called 19 (length form ∷ 0 ∷ []) (scratch ∷ out ∷ [])
    k7_no_room h k = of_value ∙ in_hand_no_room (rule_for a) value openings scratch out h k

    -- K7: "After success its first 4 bytes are the last character of the value, filled up with zero bytes, the rest untouched; after an empty value
    -- [..] all of it is unchanged"
    pub k7_hand : 4 ≤ length scratch → length form ≤ length out
        → call scratch out ≡ called 0 (length form ∷ openings ∷ []) (handed value scratch ∷ laid form out ∷ [])
    k7_hand h k = of_value ∙ in_hand_done (rule_for a) value openings scratch out h k
