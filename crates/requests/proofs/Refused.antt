-- A call that reads with a table refuses by 10 to 17 or 25 to 27 exactly when its reading comes, in its text or in one that it opens, to a token
-- that is refused so (`refused_there`, `there_refused`). Assumes nothing.
use mathlib.Core.Path.{◌≡◌, refl, sym, ap, subst, ◌∙◌}
use Prim.Native.Nat.{ℕ}
use mathlib.Core.Bool.{Bool, true, false}
use mathlib.Core.List.{List, [], ◌∷◌}
use lib.Dec.{ltb}
use lib.ListN.{length}
use Rattle.text.specs.Bytes.{pick}
use Rattle.text.specs.Version.{rule_of}
use Rattle.text.specs.Call.{Called, called, guarded, and_then, laid, text_check, length_check, utf8_check, finish}
use Rattle.text.specs.Answers.{Answer}
use Rattle.text.specs.Answers.{Done, Refused}
use Rattle.text.proofs.Bytes.{contrary}
use Rattle.entity.specs.Table.{table_check}
use Rattle.entity.specs.Binding.{binding}
use Rattle.legal.specs.Legal.{in_value}
use Rattle.canonical.specs.Canonical.{canonical}
use Rattle.collapse.specs.Collapse.{collapse}
use Rattle.tokens.specs.Outcome.{Outcome, done, refused, finished}
use Rattle.unescape.specs.Unescape.{unescape}
use Rattle.attribute.specs.Walk.{normalize}
use Rattle.attribute.specs.Strict.{reading_by}
use Rattle.attribute.specs.Form.{besides, handed, formed}
use Rattle.nmtokens.specs.Nmtokens.{collapsed}
use Rattle.govlezna.specs.Calls.{walk_check, unescape_call, normalize_attribute_value_call, canonical_form_call, normalize_attribute_value_strict_call, canonical_form_strict_call, normalize_nmtokens_call}
use Rattle.demands.specs.CallDemands.{listed}
use Rattle.demands.proofs.Numbers.{By, by_then, by_length, by_utf8, by_table, finished_done}
use Rattle.demands.proofs.Refusals.{by_walk}
use Rattle.requests.specs.Unused.{Reader, normalizing, forming, listing, unescaping, call_with}
use Rattle.requests.specs.Standard.{argument_numbers}
use Rattle.requests.specs.Refused.{lent_to, RefusedThere, read_numbers, AnswersSo, so, wrongly_asked, CameTo}
use Rattle.requests.proofs.Reached.{Refusal, reached_refused, refused_reached, text_reached, reached_text}
use Rattle.requests.proofs.Standard.{listed_one}

-- ---- a call is its checks, and then what is left of what its reading makes of the text

abbrev checks : Reader → List ℕ → List ℕ → Answer
checks (normalizing strict t version depth limit out) list pool = walk_check t version depth limit list pool
checks (forming strict t version depth limit scratch out) list pool = walk_check t version depth limit list pool
checks (listing t version depth limit scratch out) list pool = walk_check t version depth limit list pool
checks (unescaping t out) list pool = and_then (text_check t) (table_check list pool)

abbrev outcome : Reader → List ℕ → List ℕ → Outcome
outcome (normalizing strict t version depth limit out) list pool = normalize (reading_by strict (rule_of version) list pool limit) depth t
outcome (forming strict t version depth limit scratch out) list pool = normalize (reading_by strict (rule_of version) list pool limit) depth t
outcome (listing t version depth limit scratch out) list pool = normalize (reading_by false (rule_of version) list pool limit) depth t
outcome (unescaping t out) list pool = unescape (binding list pool) t

abbrev leaves : Reader → Outcome → Called
leaves (normalizing strict t version depth limit out) o = finished o out
leaves (forming strict t version depth limit scratch out) o = formed (rule_of version) o scratch out
leaves (listing t version depth limit scratch out) o = collapsed o scratch out
leaves (unescaping t out) o = finished o out

call_is : (reader : Reader) (list pool : List ℕ) → call_with reader list pool ≡ guarded (checks reader list pool) (lent_to reader) (leaves reader (outcome reader list pool))
unfolding normalize_attribute_value_call canonical_form_call normalize_attribute_value_strict_call canonical_form_strict_call normalize_nmtokens_call unescape_call reading_by
call_is (normalizing false t version depth limit out) list pool = refl
call_is (normalizing true t version depth limit out) list pool = refl
call_is (forming false t version depth limit scratch out) list pool = refl
call_is (forming true t version depth limit scratch out) list pool = refl
call_is (listing t version depth limit scratch out) list pool = refl
call_is (unescaping t out) list pool = refl

check_listed : (reader : Reader) (list pool : List ℕ) → By (λ (n : ℕ). listed n argument_numbers ≡ true) (checks reader list pool)
check_listed (normalizing strict t version depth limit out) list pool =
    by_walk argument_numbers t version depth limit list pool refl refl refl refl refl (record { six = refl; seven = refl; eight = refl; nine = refl })
check_listed (forming strict t version depth limit scratch out) list pool =
    by_walk argument_numbers t version depth limit list pool refl refl refl refl refl (record { six = refl; seven = refl; eight = refl; nine = refl })
check_listed (listing t version depth limit scratch out) list pool =
    by_walk argument_numbers t version depth limit list pool refl refl refl refl refl (record { six = refl; seven = refl; eight = refl; nine = refl })
check_listed (unescaping t out) list pool =
    let P : ℕ → Type 0 = λ (n : ℕ). listed n argument_numbers ≡ true in
    by_then P (text_check t) (table_check list pool) (by_then P (length_check t) (utf8_check t) (by_length P refl t) (by_utf8 P refl t))
    (by_table P (record { six = refl; seven = refl; eight = refl; nine = refl }) list pool)

-- a refusal of the reading is the call's, and leaves what it was lent
leaves_refused : (reader : Reader) (before : List ℕ) (m why first second : ℕ) → leaves reader (refused before m why first second) ≡ called why (first ∷ second ∷ []) (lent_to reader)
unfolding finished formed collapsed
leaves_refused (normalizing strict t version depth limit out) before m why first second = refl
leaves_refused (forming strict t version depth limit scratch out) before m why first second = refl
leaves_refused (listing t version depth limit scratch out) before m why first second = refl
leaves_refused (unescaping t out) before m why first second = refl

-- a value is 0, 18 or 19
abbrev number_of : Called → ℕ
number_of (called number words buffers) = number

abbrev Ends : Called → Type 0
Ends c = listed (number_of c) read_numbers ≡ false

finished_ends : (value : List ℕ) (m : ℕ) (out : List ℕ) → Ends (finished (done value m) out)
unfolding finish
finished_ends value m out = subst Ends (sym (finished_done value m out)) (go (ltb (length out) (length value)))
  where
    go : (short : Bool) → Ends (pick short (called 19 (length value ∷ 0 ∷ []) (out ∷ [])) (called 0 (length value ∷ m ∷ []) (laid value out ∷ [])))
    go true = refl
    go false = refl

leaves_ends : (reader : Reader) (value : List ℕ) (m : ℕ) → Ends (leaves reader (done value m))
unfolding formed finish collapsed
leaves_ends (normalizing strict t version depth limit out) value m = finished_ends value m out
leaves_ends (forming strict t version depth limit scratch out) value m = go (ltb (length scratch) 4) (ltb (length out) (length form))
  where
    form : List ℕ
    form = canonical (rule_of version) value

    go : (b short : Bool)
        → Ends (pick b (called 18 (4 ∷ 0 ∷ []) (scratch ∷ out ∷ []))
        (besides (pick short scratch (handed value scratch))
        (pick short (called 19 (length form ∷ 0 ∷ []) (out ∷ [])) (called 0 (length form ∷ m ∷ []) (laid form out ∷ [])))))
    go true short = refl
    go false true = refl
    go false false = refl
leaves_ends (listing t version depth limit scratch out) value m = go (ltb (length scratch) (length value)) (ltb (length out) (length (collapse value)))
  where
    go : (b short : Bool)
        → Ends (pick b (called 18 (length value ∷ 0 ∷ []) (scratch ∷ out ∷ []))
        (pick short (called 19 (length (collapse value) ∷ 0 ∷ []) (laid value scratch ∷ out ∷ []))
        (called 0 (length (collapse value) ∷ m ∷ []) (laid value scratch ∷ laid (collapse value) out ∷ []))))
    go true short = refl
    go false true = refl
    go false false = refl
leaves_ends (unescaping t out) value m = finished_ends value m out

-- ---- exactly when

reading_refused : (reader : Reader) (list pool : List ℕ) {why first second : ℕ} → RefusedThere reader list pool why first second
    → Refusal (outcome reader list pool) why first second
unfolding normalize
reading_refused (normalizing strict t version depth limit out) list pool w = reached_refused (reading_by strict (rule_of version) list pool limit) in_value depth t 0 w
reading_refused (forming strict t version depth limit scratch out) list pool w = reached_refused (reading_by strict (rule_of version) list pool limit) in_value depth t 0 w
reading_refused (listing t version depth limit scratch out) list pool w = reached_refused (reading_by false (rule_of version) list pool limit) in_value depth t 0 w
reading_refused (unescaping t out) list pool w = text_reached (binding list pool) t w

refused_reading : (reader : Reader) (list pool : List ℕ) {why first second : ℕ} → Refusal (outcome reader list pool) why first second
    → RefusedThere reader list pool why first second
unfolding normalize
refused_reading (normalizing strict t version depth limit out) list pool r = refused_reached (reading_by strict (rule_of version) list pool limit) in_value depth t 0 r
refused_reading (forming strict t version depth limit scratch out) list pool r = refused_reached (reading_by strict (rule_of version) list pool limit) in_value depth t 0 r
refused_reading (listing t version depth limit scratch out) list pool r = refused_reached (reading_by false (rule_of version) list pool limit) in_value depth t 0 r
refused_reading (unescaping t out) list pool r = reached_text (binding list pool) t r

module _ (reader : Reader) (list pool : List ℕ) where
  -- Where a reading comes to a token that is refused so, the call refuses so and leaves what it was lent.
  pub refused_there : {why first second : ℕ} → RefusedThere reader list pool why first second → AnswersSo reader why first second (call_with reader list pool)
  refused_there {why} {first} {second} w =
      subst (AnswersSo reader why first second) (sym (call_is reader list pool)) (go (checks reader list pool) (check_listed reader list pool))
    where
      left : leaves reader (outcome reader list pool) ≡ called why (first ∷ second ∷ []) (lent_to reader)
      left =
          let r = reading_refused reader list pool w in
          ap (leaves reader) r.is ∙ leaves_refused reader r.before r.openings why first second

      go : (c : Answer) → By (λ (n : ℕ). listed n argument_numbers ≡ true) c
          → AnswersSo reader why first second (guarded c (lent_to reader) (leaves reader (outcome reader list pool)))
      go (Done one two) h = subst (AnswersSo reader why first second) (sym left) so
      go (Refused number one two) h = wrongly_asked number (one ∷ two ∷ []) h

  -- A call that refuses by one of these numbers has come to a token that is refused so.
  pub there_refused : {why : ℕ} {words : List ℕ} {left : List (List ℕ)} → call_with reader list pool ≡ called why words left → listed why read_numbers ≡ true
      → CameTo reader list pool why words
  there_refused {why} {words} {left} e l =
      go (checks reader list pool) (check_listed reader list pool) (outcome reader list pool) refl (sym (call_is reader list pool) ∙ e)
    where
      go : (c : Answer) → By (λ (n : ℕ). listed n argument_numbers ≡ true) c → (o : Outcome) → outcome reader list pool ≡ o
          → guarded c (lent_to reader) (leaves reader o) ≡ called why words left → CameTo reader list pool why words
      go (Refused number one two) h o q k =
          let n : number ≡ why = cc in
          contrary (subst (λ (x : ℕ). listed x argument_numbers ≡ true) n h)
          (listed_one (λ (x : ℕ). listed x argument_numbers ≡ false) why read_numbers (refl, (refl, (refl, (refl, (refl, (refl, (refl, (refl, (refl, (refl, (refl, tt))))))))))) l)
      go (Done one two) h (done value m) q k = contrary l (ap (λ (c : Called). listed (number_of c) read_numbers) (sym k) ∙ leaves_ends reader value m)
      go (Done one two) h (refused before m number one' two') q k =
          let same : called number (one' ∷ two' ∷ []) (lent_to reader) ≡ called why words left = sym (leaves_refused reader before m number one' two') ∙ k in
          let n : number ≡ why = cc in
          let w : words ≡ one' ∷ two' ∷ [] = cc in
          record {
            first = one';
            second = two';
            words_are = w;
            there = refused_reading reader list pool (record { before = before; openings = m; is = q ∙ ap (λ (x : ℕ). refused before m x one' two') n });
          }
