-- K14, of the calls. What the call answers with success is the least depth (`k14_least`); a value that normalization accepts at some depth has one,
-- and the call answers it (`k14_accepted`). A refusal of depth 128 is the call's, 32 in place of 16 (`k14_refused`), and the call has no other
-- (`k14_refuses`, `k14_numbers`). Assumes nothing.
use mathlib.Core.Path.{◌≡◌, refl, sym, ap, subst, ◌∙◌}
use mathlib.Core.Logic.{◌≢◌}
use mathlib.Core.Bool.{Bool, true, false, true≢false}
use mathlib.Core.List.{List, [], ◌∷◌}
use Prim.Native.Nat.{ℕ, ◌≤◌}
use native.Mathlib.Omega.{arith}
use lib.Dec.{eqb, ltb, leb}
use lib.ListN.{length}
use borrow.Author.Tests.{le-ltb, eqb-true, eq-eqb, leb-true, leb-false}
use Rattle.text.specs.Bytes.{pick}
use Rattle.text.specs.Call.{called, call_of, and_then, guarded, laid, finish, length_check, version_check, utf8_check, argument_check}
use Rattle.text.proofs.Bytes.{pick_both}
use Rattle.text.specs.Answers.{Answer}
use Rattle.text.specs.Answers.{Done, Refused}
use Rattle.entity.specs.Table.{table_check}
use Rattle.tokens.specs.Outcome.{Outcome, done, refused, finished}
use Rattle.attribute.specs.Checks.{settings_check}
use Rattle.attribute.specs.Walk.{Settings, normalize, reading_of}
use Rattle.walk_depths.specs.LeastDepth.{used_up, first_not, least_depth}
use Rattle.walk_depths.proofs.ByDepth.{normalize_on, least_from, least_refused}
use Rattle.walk_depths.proofs.Zeros.{Zeros, normalize_zeros}
use Rattle.govlezna.specs.Calls.{walk_check, normalize_attribute_value_call, least_depth_call}
use Rattle.demands.specs.Demands.{Asked, rule_for}
use Rattle.demands.specs.CallDemands.{normalize_of, listed, Refuses, success, refusal}
use Rattle.demands.proofs.Numbers.{By, Fails, TableNumbers, WalkNumbers, by_then, by_length, by_utf8, by_version, by_table, fails_reading, finished_done}
use Rattle.demands.proofs.CallDemands.{taken_passes, Normalized, normalize_answered}
use Rattle.requests.specs.LeastDepths.{deepened, least_depth_of, AnswersLeast, LeastWithin, RefusedAs, RefusesAs, least_numbers}

-- ---- numbers

-- what is said of the numbers of the checks, and of the walk besides
record CheckNumbers (P : ℕ → Type 0) : Type 0 where
  one : P 1
  three : P 3
  four : P 4
  five : P 5
  tables : TableNumbers P

abbrev Apart : ℕ → ℕ → Type 0
Apart k n = eqb n k ≡ false

abbrev checks_at : Asked → ℕ → Answer
checks_at a depth = walk_check a.text a.version depth a.limit a.list a.pool

abbrev settings : Asked → Settings
settings a = reading_of (rule_for a) a.list a.pool a.limit

abbrev outcome : Asked → Outcome
outcome a = normalize (settings a) 128 a.text

-- no depth up to 128 is refused by the checks
same_settings : (version depth limit : ℕ) → depth ≤ 128 → settings_check version depth limit ≡ settings_check version 128 limit
unfolding settings_check
same_settings version depth limit h = rw (le-ltb 128 depth h)

checks_same : (a : Asked) (depth : ℕ) → depth ≤ 128 → checks_at a depth ≡ checks_at a 128
checks_same a depth h = ap (λ (x : Answer). and_then (argument_check a.text x) (table_check a.list a.pool)) (same_settings a.version depth a.limit h)

checks_by : (P : ℕ → Type 0) → CheckNumbers P → (a : Asked) → By P (checks_at a 128)
unfolding settings_check
checks_by P h a =
    by_then P (argument_check a.text (settings_check a.version 128 a.limit)) (table_check a.list a.pool)
    (by_then P (length_check a.text) (and_then (settings_check a.version 128 a.limit) (utf8_check a.text)) (by_length P h.one a.text)
    (by_then P (settings_check a.version 128 a.limit) (utf8_check a.text) settings_by_lem (by_utf8 P h.five a.text)))
    (by_table P h.tables a.list a.pool)
  where
    settings_by_lem : By P (pick (ltb 1000000 a.limit) (Refused 3 0 0) (version_check a.version))
    settings_by_lem = pick_both (By P) (ltb 1000000 a.limit) {a = Refused 3 0 0} {b = version_check a.version} h.three (by_version P h.four a.version)

tables : (P : ℕ → Type 0) → P 6 → P 7 → P 8 → P 9 → TableNumbers P
tables P six seven eight nine = record { six = six; seven = seven; eight = eight; nine = nine }

not_zero : CheckNumbers (Apart 0)
not_zero = record { one = refl; three = refl; four = refl; five = refl; tables = tables (Apart 0) refl refl refl refl }

not_sixteen : CheckNumbers (Apart 16)
not_sixteen = record { one = refl; three = refl; four = refl; five = refl; tables = tables (Apart 16) refl refl refl refl }

not_32 : CheckNumbers (Apart 32)
not_32 = record { one = refl; three = refl; four = refl; five = refl; tables = tables (Apart 32) refl refl refl refl }

-- the walk's numbers, each but 16
walk_numbers : (P : ℕ → Type 0) → P 10 → P 11 → P 12 → P 13 → P 14 → P 15 → P 16 → P 17 → P 27 → WalkNumbers P
walk_numbers P ten eleven twelve thirteen fourteen fifteen sixteen seventeen twenty_seven =
    record {
      texts = record {
        ten = ten;
        eleven = eleven;
        twenty_seven = twenty_seven;
        numbers = record { twelve = twelve; thirteen = thirteen; fourteen = fourteen; fifteen = fifteen };
      };
      sixteen = sixteen;
      seventeen = seventeen;
    }

outcome_by : (P : ℕ → Type 0) → WalkNumbers P → (a : Asked) → Fails P (outcome a)
outcome_by P h a = fails_reading P h (rule_for a) a.list a.pool a.limit 128 a.text

not_apart : {k n : ℕ} → Apart k n → n ≡ k → ⊥
not_apart {k} {n} h e = true≢false (sym (eq-eqb n k e) ∙ h)

-- ---- what the calls are, after their checks

-- where depth 128 passes the checks, every smaller depth does
reads_at : (a : Asked) {first second : ℕ} → checks_at a 128 ≡ Done first second → (depth : ℕ) → depth ≤ 128 → (out : List ℕ)
    → normalize_of (deepened a depth) out ≡ finished (normalize (settings a) depth a.text) out
unfolding normalize_attribute_value_call
reads_at a pass depth h out =
    ap (λ (x : Answer). guarded x (out ∷ []) (finished (normalize (settings a) depth a.text) out)) (checks_same a depth h ∙ pass)

least_at : (a : Asked) {first second : ℕ} → checks_at a 128 ≡ Done first second → least_depth_of a ≡ call_of (least_depth (settings a) a.text) []
unfolding least_depth_call
least_at a pass = ap (λ (x : Answer). guarded x [] (call_of (least_depth (settings a) a.text) [])) pass

used_called : (o : Outcome) (out : List ℕ) → used_up o ≡ true → Zeros o → finished o out ≡ called 16 (0 ∷ 0 ∷ []) (out ∷ [])
unfolding finished
used_called (done value m) out h z = absurd (true≢false (sym h))
used_called (refused before m number first second) out h z =
    let e = eqb-true number 16 h in
    let w = z e in
    let one = w.0 in
    let two = w.1 in
    rw (e, one, two)

-- a value that depth 128 accepts
least_answered : (a : Asked) {first second : ℕ} → checks_at a 128 ≡ Done first second → (value : List ℕ) (openings : ℕ) → outcome a ≡ done value openings → AnswersLeast a
least_answered a pass value openings q =
    let s = settings a in
    let k = least_from s a.text value openings q in
    record {
      least = first_not (λ e. used_up (normalize s e a.text)) 0 129;
      answer = least_at a pass ∙ ap (λ (x : Answer). call_of x []) k.answer;
      is = record {
        value = value;
        openings = openings;
        allowed = k.allowed;
        from = λ e h top out.
            reads_at a pass e top out ∙ ap (λ (o : Outcome). finished o out) (k.from e h) ∙ finished_done value openings out;
        below = λ e h out.
            reads_at a pass e (omega (arith, h, k.allowed)) out
            ∙ used_called (normalize s e a.text) out (k.below e h) (normalize_zeros s e a.text);
      };
    }

-- ---- K14

-- K14: "Give the smallest depth from 0 to 128 at which a value is accepted under its limit": what the call answers is that.
pub k14_least : (a : Asked) {words : List ℕ} {left : List (List ℕ)} → least_depth_of a ≡ called 0 words left → AnswersLeast a
unfolding least_depth_call least_depth
k14_least a {words} {left} e = checked (checks_at a 128) refl (checks_by (Apart 0) not_zero a) e
  where
    refused_least : (number first second : ℕ) (x : Bool) → Apart 0 number
        → call_of (pick x (Refused 32 0 0) (Refused number first second)) [] ≡ called 0 words left → ⊥
    refused_least number first second true h k = let z : ◌≡◌ {A = ℕ} 32 0 = cc in omega (arith, z)
    refused_least number first second false h k = not_apart {k = 0} {n = number} h cc

    walked : {first second : ℕ} → checks_at a 128 ≡ Done first second → (o : Outcome) → outcome a ≡ o → Fails (Apart 0) o → least_depth_of a ≡ called 0 words left → AnswersLeast a
    walked pass (done value openings) q f k = least_answered a pass value openings q
    walked pass (refused before m number first second) q f k =
        absurd (refused_least number first second (eqb number 16) f
        (sym (ap (λ (x : Answer). call_of x []) (least_refused (settings a) a.text before m number first second q)) ∙ sym (least_at a pass) ∙ k))

    checked : (x : Answer) → checks_at a 128 ≡ x → By (Apart 0) x → least_depth_of a ≡ called 0 words left → AnswersLeast a
    checked (Done first second) q h k =
        walked q (outcome a) refl
        (outcome_by (Apart 0) (walk_numbers (Apart 0) refl refl refl refl refl refl refl refl refl) a) k
    checked (Refused number first second) q h k =
        let w : called number (first ∷ second ∷ []) [] ≡ called 0 words left =
        sym (ap (λ (x : Answer). guarded x [] (call_of (least_depth (settings a) a.text) [])) q) ∙ k in
        absurd (not_apart {k = 0} {n = number} h cc)

-- K14: a value that normalization accepts at some depth, under its limit, has a least depth, which is no greater, and the call answers it.
pub k14_accepted : (a : Asked) (depth : ℕ) (out : List ℕ) {words : List ℕ} {left : List (List ℕ)} → normalize_of (deepened a depth) out ≡ called 0 words left
    → LeastWithin a depth
k14_accepted a depth out {words} {left} e = record { answers = least; within = within (leb least.least depth) refl }
  where
    here : Normalized (deepened a depth) out words left
    here = normalize_answered (deepened a depth) out e

    deep : depth ≤ 128
    deep = here.accepted.taken.deep

    least : AnswersLeast a
    least =
        least_answered a (sym (checks_same a depth deep) ∙ taken_passes (deepened a depth) here.accepted.taken) here.value here.openings
        (normalize_on (settings a) a.text here.value depth 128 here.openings here.accepted.reads deep)

    within : (x : Bool) → leb least.least depth ≡ x → least.least ≤ depth
    within true q = leb-true least.least depth q
    within false q =
        let w : called 0 words left ≡ called 16 (0 ∷ 0 ∷ []) (out ∷ []) = sym e ∙ least.is.below depth (leb-false least.least depth q) out in
        let z : ◌≡◌ {A = ℕ} 0 16 = cc in
        absurd (omega (arith, z))

-- K14: "A value met by another refusal at depth 128 gets that refusal. 32 when even depth 128 is answered by 16, in place of that 16": whatever
-- depth 128 refuses by, arguments and table too. (19 is no refusal of the value.)
pub k14_refused : (a : Asked) (out : List ℕ) (number first second : ℕ) {left : List (List ℕ)}
    → normalize_of (deepened a 128) out ≡ called number (first ∷ second ∷ []) left → number ≢ 0 → number ≢ 19
    → RefusedAs a number first second
unfolding normalize_attribute_value_call least_depth_call finish finished
k14_refused a out number first second {left} e some room = checked (checks_at a 128) refl (checks_by (Apart 16) not_sixteen a)
  where
    -- a value is refused by 19 alone
    kept : (value : List ℕ) (openings : ℕ) → finish value openings out ≡ called number (first ∷ second ∷ []) left → ⊥
    kept value openings k = go (ltb (length out) (length value)) k
      where
        go : (x : Bool) → pick x (called 19 (length value ∷ 0 ∷ []) (out ∷ [])) (called 0 (length value ∷ openings ∷ []) (laid value out ∷ [])) ≡ called number (first ∷ second ∷ []) left → ⊥
        go true q = room cc
        go false q = some cc

    given : (n x y : ℕ) → called n (x ∷ y ∷ []) (out ∷ []) ≡ called number (first ∷ second ∷ []) left → (b : Bool) → eqb n 16 ≡ b
        → (b ≡ true → (x ≡ 0) × (y ≡ 0)) → call_of (pick b (Refused 32 0 0) (Refused n x y)) [] ≡ called (pick (eqb number 16) 32 number) (first ∷ second ∷ []) []
    given n x y k true q z =
        let is : n ≡ number = cc in
        let one : x ≡ first = cc in
        let two : y ≡ second = cc in
        let zero_one : 0 ≡ first = sym (z refl).0 ∙ one in
        let zero_two : 0 ≡ second = sym (z refl).1 ∙ two in
        rw (sym is, q, sym zero_one, sym zero_two)
    given n x y k false q z =
        let is : n ≡ number = cc in
        let one : x ≡ first = cc in
        let two : y ≡ second = cc in
        rw (sym is, q, one, two)

    walked : {x y : ℕ} → checks_at a 128 ≡ Done x y → (o : Outcome) → outcome a ≡ o → Zeros o → finished o out ≡ called number (first ∷ second ∷ []) left → RefusedAs a number first second
    walked pass (done value openings) q z k = absurd (kept value openings (sym (finished_done value openings out) ∙ k))
    walked pass (refused before m n x y) q z k =
        least_at a pass
        ∙ ap (λ (b : Answer). call_of b []) (least_refused (settings a) a.text before m n x y q)
        ∙ given n x y k (eqb n 16) refl (λ h. z (eqb-true n 16 h))

    checked : (x : Answer) → checks_at a 128 ≡ x → By (Apart 16) x → RefusedAs a number first second
    checked (Done x y) q h =
        walked q (outcome a) refl (normalize_zeros (settings a) 128 a.text) (sym (reads_at a q 128 (omega arith) out) ∙ e)
    checked (Refused n x y) q h =
        let k : called n (x ∷ y ∷ []) (out ∷ []) ≡ called number (first ∷ second ∷ []) left =
        sym (ap (λ (b : Answer). guarded b (out ∷ []) (finished (outcome a) out)) q) ∙ e in
        ap (λ (b : Answer). guarded b [] (call_of (least_depth (settings a) a.text) [])) q
        ∙ given n x y k false h (λ r. absurd (true≢false (sym r)))

-- and the call has no other refusals: each is that of depth 128, whatever output it is lent; 32 stands for its 16
pub k14_refuses : (a : Asked) (number : ℕ) {words : List ℕ} {left : List (List ℕ)} → least_depth_of a ≡ called number words left → number ≢ 0
    → (out : List ℕ) → RefusesAs a number words out
unfolding normalize_attribute_value_call least_depth_call finished
k14_refuses a number {words} {left} e some out = checked (checks_at a 128) refl (checks_by (Apart 32) not_32 a)
  where
    given : (n x y : ℕ) (b : Bool) → eqb n 16 ≡ b → (b ≡ true → (x ≡ 0) × (y ≡ 0)) → Apart 32 n
        → call_of (pick b (Refused 32 0 0) (Refused n x y)) [] ≡ called number words left
        → called n (x ∷ y ∷ []) (out ∷ []) ≡ called (pick (eqb number 32) 16 number) words (out ∷ [])
    given n x y true q z h k =
        let n_is : n ≡ 16 = eqb-true n 16 q in
        let is : 32 ≡ number = cc in
        let ws : 0 ∷ 0 ∷ [] ≡ words = cc in
        let one = (z refl).0 in
        let two = (z refl).1 in
        rw (sym is, sym ws, n_is, one, two)
    given n x y false q z h k =
        let is : n ≡ number = cc in
        let ws : x ∷ y ∷ [] ≡ words = cc in
        rw (sym is, sym ws, h)

    walked : {x y : ℕ} → checks_at a 128 ≡ Done x y → (o : Outcome) → outcome a ≡ o → Zeros o → Fails (Apart 32) o → RefusesAs a number words out
    walked pass (done value openings) q z f =
        let l = least_answered a pass value openings q in
        let w : called number words left ≡ called 0 (l.least ∷ 0 ∷ []) [] = sym e ∙ l.answer in
        absurd (some cc)
    walked pass (refused before m n x y) q z f =
        reads_at a pass 128 (omega arith) out
        ∙ ap (λ (o : Outcome). finished o out) q
        ∙ given n x y (eqb n 16) refl (λ h. z (eqb-true n 16 h)) f
        (sym (least_at a pass ∙ ap (λ (b : Answer). call_of b []) (least_refused (settings a) a.text before m n x y q)) ∙ e)

    checked : (x : Answer) → checks_at a 128 ≡ x → By (Apart 32) x → RefusesAs a number words out
    checked (Done x y) q h =
        walked q (outcome a) refl (normalize_zeros (settings a) 128 a.text)
        (outcome_by (Apart 32) (walk_numbers (Apart 32) refl refl refl refl refl refl refl refl refl) a)
    checked (Refused n x y) q h =
        let k : called n (x ∷ y ∷ []) [] ≡ called number words left =
        sym (ap (λ (b : Answer). guarded b [] (call_of (least_depth (settings a) a.text) [])) q) ∙ e in
        let is : n ≡ number = cc in
        let ws : x ∷ y ∷ [] ≡ words = cc in
        ap (λ (b : Answer). guarded b (out ∷ []) (finished (outcome a) out)) q ∙ rw (sym is, sym ws, h)

abbrev In : ℕ → Type 0
In n = listed n least_numbers ≡ true

-- of a number of the walk: 32 in place of 16
abbrev Becomes : ℕ → Type 0
Becomes n = In (pick (eqb n 16) 32 n)

-- Demand 1 of this call: success, or one of K14's numbers.
pub k14_numbers : (a : Asked) → Refuses least_numbers [] (least_depth_of a)
unfolding least_depth_call
k14_numbers a = checked (checks_at a 128) refl (checks_by In numbers a)
  where
    numbers : CheckNumbers In
    numbers = record { one = refl; three = refl; four = refl; five = refl; tables = tables In refl refl refl refl }

    given : (n x y : ℕ) (b : Bool) → In (pick b 32 n) → Refuses least_numbers [] (call_of (pick b (Refused 32 0 0) (Refused n x y)) [])
    given n x y true h = refusal 32 (0 ∷ 0 ∷ []) refl
    given n x y false h = refusal n (x ∷ y ∷ []) h

    walked : {x y : ℕ} → checks_at a 128 ≡ Done x y → (o : Outcome) → outcome a ≡ o → Fails Becomes o → Refuses least_numbers [] (least_depth_of a)
    walked pass (done value openings) q f =
        let l = least_answered a pass value openings q in
        subst (Refuses least_numbers []) (sym l.answer) (success (l.least ∷ 0 ∷ []) [])
    walked pass (refused before m n x y) q f =
        subst (Refuses least_numbers [])
        (sym (least_at a pass ∙ ap (λ (b : Answer). call_of b []) (least_refused (settings a) a.text before m n x y q))) (given n x y (eqb n 16) f)

    checked : (x : Answer) → checks_at a 128 ≡ x → By In x → Refuses least_numbers [] (least_depth_of a)
    checked (Done x y) q h =
        walked q (outcome a) refl (outcome_by Becomes (walk_numbers Becomes refl refl refl refl refl refl refl refl refl) a)
    checked (Refused n x y) q h =
        subst (Refuses least_numbers []) (sym (ap (λ (b : Answer). guarded b [] (call_of (least_depth (settings a) a.text) [])) q)) (refusal n (x ∷ y ∷ []) h)
