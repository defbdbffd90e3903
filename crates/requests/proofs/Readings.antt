-- What a normalization that answered 0, lenient or strict, had made of its text (`gave`), and one that refused by neither 0 nor 19
-- (`refused_before`). Assumes nothing.
use mathlib.Core.Path.{◌≡◌, refl, sym, ap₂, ◌∙◌}
use mathlib.Core.Logic.{◌≢◌}
use Prim.Native.Nat.{ℕ}
use mathlib.Core.Bool.{Bool, true, false}
use mathlib.Core.List.{List, [], ◌∷◌}
use lib.Dec.{ltb}
use lib.ListN.{length, take}
use Rattle.text.specs.Bytes.{pick}
use Rattle.text.specs.Call.{Called, called, guarded, laid, finish}
use Rattle.text.specs.Answers.{Answer}
use Rattle.text.specs.Answers.{Done, Refused}
use Rattle.tokens.specs.Outcome.{Outcome, done, refused, finished}
use Rattle.govlezna.specs.Calls.{normalize_attribute_value_call, normalize_attribute_value_strict_call}
use Rattle.demands.specs.Demands.{Asked, Taken}
use Rattle.demands.proofs.CallDemands.{first_bytes, normalize_answered}
use Rattle.demands.proofs.Numbers.{finished_done}
use Rattle.requests.specs.SmallScratch.{normalize_by, checks_of, walked_by}
use Rattle.requests.proofs.Strict.{k8_answered}

-- refused by none of 1 to 9, and read
pub record Gave (strict : Bool) (a : Asked) (value : List ℕ) (openings : ℕ) : Type 0 where
  pub taken : Taken a
  pub reads : walked_by strict a ≡ done value openings

-- a normalization that answered 0 gave the value that it left
pub gave : (strict : Bool) (a : Asked) (out : List ℕ) {size openings : ℕ} {left : List ℕ} → normalize_by strict a out ≡ called 0 (size ∷ openings ∷ []) (left ∷ [])
    → Gave strict a (take size left) openings
gave false a out {size} {openings} {left} e =
    let x = normalize_answered a out e in
    let w = x.holds.words_are in
    let b = x.holds.left_is in
    let n : size ≡ length x.value = cc in
    let m : x.openings ≡ openings = cc in
    let l : left ≡ laid x.value out = cc in
    record { taken = x.accepted.taken; reads = x.accepted.reads ∙ ap₂ done (sym (first_bytes x.value out n l)) m }
gave true a out e = let x = k8_answered a out e in record { taken = x.accepted.taken; reads = x.accepted.reads }

-- a normalization is its checks, and then what is left of the walk
pub normalize_is : (strict : Bool) (a : Asked) (out : List ℕ) → normalize_by strict a out ≡ guarded (checks_of a) (out ∷ []) (finished (walked_by strict a) out)
unfolding normalize_attribute_value_call normalize_attribute_value_strict_call
normalize_is false a out = refl
normalize_is true a out = refl

-- another call with the same checks and walk, whose refusals leave what it is lent: where normalization refuses, but not by 19, so does it
pub refused_before : (checks : Answer) (o : Outcome) (lent : List ℕ) (buffers : List (List ℕ)) (rest : Called)
    → ((before : List ℕ) (m why first second : ℕ) → o ≡ refused before m why first second → rest ≡ called why (first ∷ second ∷ []) buffers)
    → {number : ℕ} {words : List ℕ} {left : List (List ℕ)} → guarded checks (lent ∷ []) (finished o lent) ≡ called number words left → number ≢ 0 → number ≢ 19
    → guarded checks buffers rest ≡ called number words buffers
unfolding finished finish
refused_before (Refused why first second) o lent buffers rest leaves {number} {words} {left} e not0 not19 =
    let n : why ≡ number = cc in
    let w : first ∷ second ∷ [] ≡ words = cc in
    ap₂ (λ (k : ℕ) (ws : List ℕ). called k ws buffers) n w
refused_before (Done one two) (refused before m why first second) lent buffers rest leaves {number} {words} {left} e not0 not19 =
    let n : why ≡ number = cc in
    let w : first ∷ second ∷ [] ≡ words = cc in
    leaves before m why first second refl ∙ ap₂ (λ (k : ℕ) (ws : List ℕ). called k ws buffers) n w
refused_before (Done one two) (done value m) lent buffers rest leaves {number} {words} {left} e not0 not19 =
    go (ltb (length lent) (length value)) (sym (finished_done value m lent) ∙ e)
  where
    go : (short : Bool) → pick short (called 19 (length value ∷ 0 ∷ []) (lent ∷ [])) (called 0 (length value ∷ m ∷ []) (laid value lent ∷ [])) ≡ called number words left
        → rest ≡ called number words buffers
    go true k = absurd (not19 cc)
    go false k = absurd (not0 cc)
