-- The standards' wording, of normalization, lenient and strict, under either version and with lists of either marking: what a call gave is 3.3.3's
-- value (`standard_answered`); where it refuses by a number of its references, 3.3.3 gives none (`standard_refused`); where 3.3.3 gives a value, it
-- gives its bytes, or meets a limit (`standard_met`). The standard has no depth, and none is asked of it. Of a marked list nothing is asked but
-- of the value itself (`k4_standard`), and that is needed (`k4_line_end`). Assumes nothing.
use mathlib.Core.Path.{◌≡◌, refl, sym, ap, subst, ◌∙◌}
use Prim.Native.Nat.{ℕ, zero, suc, ◌+◌}
use native.Mathlib.Omega.{arith}
use mathlib.Core.Bool.{Bool, true, false, ◌||◌}
use mathlib.Core.Option.{Option, none, some}
use mathlib.Core.List.{List, [], ◌∷◌}
use lib.Dec.{eqb, ltb}
use lib.ListN.{length, take}
use borrow.Author.Tests.{eqb-true, ltb-true, ltb-false}
use Rattle.text.specs.Bytes.{pick}
use Rattle.text.specs.Call.{called, guarded, laid, finish, length_check, utf8_check}
use Rattle.text.specs.Utf8.{utf8_end}
use Rattle.text.specs.Answers.{Answer}
use Rattle.text.specs.Answers.{Done, Refused}
use Rattle.text.proofs.Bytes.{contrary}
use Rattle.charref.specs.CharRef.{any_character}
use Rattle.entity.specs.Table.{marked, table_check}
use Rattle.entity.specs.Binding.{binding}
use Rattle.entity.proofs.Tables.{binding_good}
use Rattle.tokens.specs.Outcome.{Outcome, done, refused, finished}
use Rattle.attribute.specs.Checks.{settings_check}
use Rattle.attribute.specs.Walk.{normalize, reading, reading_of}
use Rattle.attribute.specs.Strict.{reading_by}
use Rattle.attribute.proofs.Strict.{by26}
use Rattle.govlezna.specs.Calls.{normalize_attribute_value_call}
use Rattle.demands.specs.Demands.{Asked, rule_for, Taken}
use Rattle.demands.specs.CallDemands.{listed}
use Rattle.demands.specs.Characters.{encode_all, decode}
use Rattle.demands.specs.Standard.{line_ends_of, lines_of, standard, lookup_of, SteadyText, SteadyBound, FromStandard, limited, Meets}
use Rattle.demands.proofs.AnyDepth.{accepted_ever, refused_never, met_ever}
use Rattle.demands.proofs.StrictStandard.{MeetsStrictly, strict_is_standard, strict_refused_standard, strict_standard_met}
use Rattle.demands.proofs.CallDemands.{taken_by}
use Rattle.demands.proofs.Numbers.{By, finished_done}
use Rattle.demands.proofs.Refusals.{by_walk}
use Rattle.requests.specs.SmallScratch.{normalize_by, walked_by, checks_of}
use Rattle.requests.specs.Standard.{legal_by, standard_by, Gives, GivesNone, SteadyAsked, GaveStandard, reference_numbers, argument_numbers, limit_numbers, AnswersStandard, gives, no_room, limit, wrongly_asked}
use Rattle.requests.proofs.Readings.{gave, normalize_is}

-- ---- numbers

-- what holds of each number of a list holds of one that is listed
abbrev pub Every : (ℕ → Type 0) → List ℕ → Type 0
Every P [] = Unit {0}
Every P (n ∷ ns) = P n × Every P ns

pub listed_one : (P : ℕ → Type 0) (number : ℕ) (ns : List ℕ) → Every P ns → listed number ns ≡ true → P number
listed_one P number [] h e = let z : ◌≡◌ {A = ℕ} 0 1 = cc in absurd (omega (arith, z))
listed_one P number (n ∷ ns) h e = go (eqb number n) refl e (λ k. listed_one P number ns h.1 k)
  where
    go : (b : Bool) → eqb number n ≡ b → b || listed number ns ≡ true → (listed number ns ≡ true → P number) → P number
    go true q k later = subst P (sym (eqb-true number n q)) h.0
    go false q k later = later k

-- the checks refuse by numbers of the arguments
check_listed : (a : Asked) → By (λ (n : ℕ). listed n argument_numbers ≡ true) (checks_of a)
check_listed a =
    by_walk argument_numbers a.text a.version a.depth a.limit a.list a.pool refl refl refl refl refl (record { six = refl; seven = refl; eight = refl; nine = refl })

-- ---- of the reading

-- the outcome is the UTF-8 of these characters, or a refusal by a limit
abbrev MeetsBy : Bool → Outcome → List ℕ → Type 0
MeetsBy strict (done value n) v = value ≡ encode_all v
MeetsBy strict (refused before n why first second) v = listed why (limit_numbers strict) ≡ true

lenient_meets : (o : Outcome) (v : List ℕ) → Meets o v → MeetsBy false o v
lenient_meets (done value n) v h = h
lenient_meets (refused before n why first second) v h = go (eqb why 16) (eqb why 17) h
  where
    go : (x y : Bool) → x || y ≡ true → x || (y || false) ≡ true
    go true y e = refl
    go false true e = refl
    go false false e = e

strict_meets : (o : Outcome) (v : List ℕ) → MeetsStrictly o v → MeetsBy true o v
strict_meets (done value n) v h = h
strict_meets (refused before n why first second) v h = go (eqb why 16) (eqb why 17) (eqb why 26) h
  where
    go : (x y z : Bool) → (x || y) || z ≡ true → x || (y || (z || false)) ≡ true
    go true y z e = refl
    go false true z e = refl
    go false false true e = refl
    go false false false e = e

module _ (strict : Bool) (a : Asked) (steady : SteadyAsked a) (taken : Taken a) where
  abbrev o : Outcome
  o = walked_by strict a

  -- a value is the standard's
  read_given : (more : ℕ) (value : List ℕ) (openings : ℕ) → o ≡ done value openings → FromStandard (standard_by strict a (more + a.depth)) value
  unfolding reading_by reading_of reading
  read_given more value openings e = go strict e
    where
      go : (b : Bool) → walked_by b a ≡ done value openings → FromStandard (standard_by b a (more + a.depth)) value
      go false q =
          accepted_ever any_character (rule_for a) (marked a.list) (binding a.list a.pool) a.limit (binding_good a.list a.pool taken.table) steady.texts
          a.depth a.text taken.utf8 steady.value more value openings q
      go true q =
          strict_is_standard (rule_for a) (marked a.list) (binding a.list a.pool) a.limit (binding_good a.list a.pool taken.table) steady.texts
          a.depth a.text taken.utf8 steady.value more value openings q

  -- a refusal by no limit has none there
  read_refused : (before : List ℕ) (n why first second : ℕ) → o ≡ refused before n why first second → limited why ≡ false → by26 why ≡ false → GivesNone strict a
  unfolding reading_by reading_of reading
  read_refused before n why first second e l b = go strict e
    where
      go : (x : Bool) → walked_by x a ≡ refused before n why first second → GivesNone x a
      go false q =
          refused_never any_character (rule_for a) (marked a.list) (binding a.list a.pool) a.limit (binding_good a.list a.pool taken.table) steady.texts
          a.depth a.text taken.utf8 steady.value before n why first second q l
      go true q =
          strict_refused_standard (rule_for a) (marked a.list) (binding a.list a.pool) a.limit (binding_good a.list a.pool taken.table) steady.texts
          a.depth a.text taken.utf8 steady.value before n why first second q b l

  -- a value of the standard is given, or a limit met
  read_met : (fuel : ℕ) (v : List ℕ) → standard_by strict a fuel ≡ some v → MeetsBy strict o v
  unfolding reading_by reading_of reading
  read_met fuel v e = go strict e
    where
      go : (x : Bool) → standard_by x a fuel ≡ some v → MeetsBy x (walked_by x a) v
      go false q =
          lenient_meets (walked_by false a) v
          (met_ever any_character (rule_for a) (marked a.list) (binding a.list a.pool) a.limit (binding_good a.list a.pool taken.table) steady.texts
          a.depth a.text taken.utf8 steady.value fuel v q)
      go true q =
          strict_meets (walked_by true a) v
          (strict_standard_met (rule_for a) (marked a.list) (binding a.list a.pool) a.limit (binding_good a.list a.pool taken.table) steady.texts
          a.depth a.text taken.utf8 steady.value fuel v q)

-- ---- of the calls

module _ (strict : Bool) (a : Asked) (steady : SteadyAsked a) (out : List ℕ) where
  -- what a call gave is what 3.3.3 gives
  pub standard_answered : {size openings : ℕ} {left : List ℕ} → normalize_by strict a out ≡ called 0 (size ∷ openings ∷ []) (left ∷ []) → GaveStandard strict a (take size left)
  standard_answered {size} {openings} {left} e =
      let x = gave strict a out e in
      let y = read_given strict a steady x.taken 0 (take size left) openings x.reads in
      record { characters = y.characters; gives = record { fuel = 0 + a.depth; defined = y.defined }; bytes = y.bytes }

  -- where a call refuses a reference, of the value or of a text that it opened, 3.3.3 gives no value
  pub standard_refused : {number : ℕ} {words : List ℕ} {left : List (List ℕ)} → normalize_by strict a out ≡ called number words left
      → listed number reference_numbers ≡ true → GivesNone strict a
  unfolding finished finish
  standard_refused {number} {words} {left} e l = go (checks_of a) refl (check_listed a) (walked_by strict a) refl (sym (normalize_is strict a out) ∙ e)
    where
      -- what holds of each of these numbers
      of_each : (P : ℕ → Type 0) → Every P reference_numbers → P number
      of_each P h = listed_one P number reference_numbers h l

      go : (c : Answer) → checks_of a ≡ c → By (λ (n : ℕ). listed n argument_numbers ≡ true) c → (p : Outcome) → walked_by strict a ≡ p
          → guarded c (out ∷ []) (finished p out) ≡ called number words left → GivesNone strict a
      go (Refused why first second) q h p w k =
          let n : why ≡ number = cc in
          (contrary (subst (λ (x : ℕ). listed x argument_numbers ≡ true) n h)
          (of_each (λ (x : ℕ). listed x argument_numbers ≡ false) (refl, (refl, (refl, (refl, (refl, (refl, (refl, (refl, tt))))))))))
      go (Done one two) q h (refused before m why first second) w k =
          let n : why ≡ number = cc in
          read_refused strict a steady (taken_by a q) before m why first second w
          (subst (λ (x : ℕ). limited x ≡ false) (sym n) (of_each (λ (x : ℕ). limited x ≡ false) (refl, (refl, (refl, (refl, (refl, (refl, (refl, (refl, tt))))))))))
          (subst (λ (x : ℕ). by26 x ≡ false) (sym n) (of_each (λ (x : ℕ). by26 x ≡ false) (refl, (refl, (refl, (refl, (refl, (refl, (refl, (refl, tt))))))))))
      go (Done one two) q h (done value m) w k = room (ltb (length out) (length value)) (sym (finished_done value m out) ∙ k)
        where
          room : (short : Bool)
              → pick short (called 19 (length value ∷ 0 ∷ []) (out ∷ [])) (called 0 (length value ∷ m ∷ []) (laid value out ∷ [])) ≡ called number words left
              → GivesNone strict a
          room true r =
              let n : 19 ≡ number = cc in
              (contrary (subst (λ (x : ℕ). eqb x 19 ≡ true) n refl) (of_each (λ (x : ℕ). eqb x 19 ≡ false) (refl, (refl, (refl, (refl, (refl, (refl, (refl, (refl, tt))))))))))
          room false r =
              let n : 0 ≡ number = cc in
              (contrary (subst (λ (x : ℕ). eqb x 0 ≡ true) n refl) (of_each (λ (x : ℕ). eqb x 0 ≡ false) (refl, (refl, (refl, (refl, (refl, (refl, (refl, (refl, tt))))))))))

  -- where 3.3.3 gives a value, a call gives its bytes, or meets a limit
  pub standard_met : (v : List ℕ) → Gives strict a v → AnswersStandard strict v out (normalize_by strict a out)
  unfolding finished finish
  standard_met v x = subst (AnswersStandard strict v out) (sym (normalize_is strict a out)) (go (checks_of a) refl (check_listed a))
    where
      given : (value : List ℕ) (m : ℕ) → value ≡ encode_all v → (short : Bool) → ltb (length out) (length value) ≡ short
          → AnswersStandard strict v out (pick short (called 19 (length value ∷ 0 ∷ []) (out ∷ [])) (called 0 (length value ∷ m ∷ []) (laid value out ∷ [])))
      given value m e true q = rw e (no_room (rw e at (ltb-true (length out) (length value) q)))
      given value m e false q = rw e (gives m (rw e at (ltb-false (length out) (length value) q)))

      of_walk : (p : Outcome) → MeetsBy strict p v → AnswersStandard strict v out (finished p out)
      of_walk (done value m) h = subst (AnswersStandard strict v out) (sym (finished_done value m out)) (given value m h (ltb (length out) (length value)) refl)
      of_walk (refused before m why first second) h = limit why (first ∷ second ∷ []) h

      go : (c : Answer) → checks_of a ≡ c → By (λ (n : ℕ). listed n argument_numbers ≡ true) c → AnswersStandard strict v out (guarded c (out ∷ []) (finished (walked_by strict a) out))
      go (Refused why first second) q h = wrongly_asked why (first ∷ second ∷ []) h
      go (Done one two) q h = of_walk (walked_by strict a) (read_met strict a steady (taken_by a q) x.fuel v x.defined)

-- ---- marked lists

-- K4: "Marked lists are judged by the standard alone": what normalization gives with one is 3.3.3's value after 2.11 in the value itself, with
-- nothing done to replacement texts first, with all fuel from the depth on; where no reference of the value holds a line end
pub k4_standard : (strict : Bool) (a : Asked) → marked a.list ≡ true → SteadyText (rule_for a) a.text → (out : List ℕ) {size openings : ℕ} {left : List ℕ}
    → normalize_by strict a out ≡ called 0 (size ∷ openings ∷ []) (left ∷ []) → (more : ℕ)
    → FromStandard (standard (legal_by strict a) (lookup_of (binding a.list a.pool)) (λ t. t) (more + a.depth) (line_ends_of (rule_for a) (decode a.text))) (take size left)
k4_standard strict a marks still out {size} {openings} {left} e more =
    let x = gave strict a out e in
    let lines : lines_of (marked a.list) (rule_for a) ≡ (λ t. t) = ap (λ (p : Bool). lines_of p (rule_for a)) marks ∙ unfold lines_of in refl in
    subst (λ (f : List ℕ → List ℕ). FromStandard (value_by f) (take size left)) lines
    (read_given strict a (record { value = still; texts = firm }) x.taken more (take size left) openings x.reads)
  where
    firm : (name : List ℕ) → SteadyBound (marked a.list) (rule_for a) (binding a.list a.pool name)
    firm name = subst (λ (p : Bool). SteadyBound p (rule_for a) (binding a.list a.pool name)) (sym marks) tt

    value_by : (List ℕ → List ℕ) → Option (List ℕ)
    value_by f = standard (legal_by strict a) (lookup_of (binding a.list a.pool)) f (more + a.depth) (line_ends_of (rule_for a) (decode a.text))

-- the smallest value that needs it: `&` CR `;` with a marked list that binds CR to `x`. Normalization gives `x`; by 2.11 the name is LF, and 3.3.3 gives
-- no value
abbrev line_end : Asked
line_end = record { version = 0; text = 38 ∷ 13 ∷ 59 ∷ []; list = 3 ∷ 1 ∷ 0 ∷ 0 ∷ 0 ∷ 0 ∷ 1 ∷ 1 ∷ 0 ∷ 0 ∷ 0 ∷ 1 ∷ 0 ∷ 0 ∷ []; pool = 13 ∷ 120 ∷ []; depth = 1; limit = 1 }

pub k4_line_end : (normalize_by false line_end (7 ∷ 7 ∷ []) ≡ called 0 (1 ∷ 1 ∷ []) ((120 ∷ 7 ∷ []) ∷ [])) × GivesNone false line_end
unfolding normalize_attribute_value_call length_check settings_check utf8_check utf8_end table_check finished normalize reading_of standard lines_of lookup_of binding
k4_line_end = (refl, none_given)
  where
    none_given : (fuel : ℕ) → standard_by false line_end fuel ≡ none
    none_given zero = refl
    none_given (suc fuel) = refl
