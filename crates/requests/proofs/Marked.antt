-- K4, of the calls, wherever the reference stands: a text of a marked list has a space for each TAB, LF and CR (`k4_gives`, `k4_form`, `k4_list`); these
-- and `&` are its stop bytes under either version (`k4_gives`, `k4_stopped`); and the standard's own example (`k4_example`). Assumes nothing.
use mathlib.Core.Path.{◌≡◌, refl, sym, ap, ap₂, ◌∙◌}
use Prim.Native.Nat.{ℕ, suc}
use mathlib.Core.Bool.{Bool, true, false, ◌||◌, true≢false}
use mathlib.Core.List.{List, [], ◌∷◌, ◌++◌, append-nil, append_assoc}
use lib.Dec.{eqb}
use lib.ListN.{length, take}
use borrow.Author.Tests.{ne_eqb}
use Rattle.text.specs.Version.{Rule, rule_of}
use Rattle.text.specs.Call.{called, laid, length_check, utf8_check}
use Rattle.text.specs.Utf8.{utf8_end}
use Rattle.text.proofs.Bytes.{or_left, or_right}
use Rattle.entity.specs.Table.{marked, table_check}
use Rattle.entity.specs.Binding.{Bound, text, external, predefined, unknown}
use Rattle.legal.specs.Legal.{Place, in_value}
use Rattle.tokens.specs.Tokens.{Stop, named, stop, copy, barred, Token, Head, Heads, token_of, skip_of, tokens}
use Rattle.tokens.specs.Outcome.{Outcome, done, refused, prepend, followed, run, produced, finished}
use Rattle.halts.specs.Halts.{any_stop, stop_byte}
use Rattle.halts.proofs.Smooth.{none_plain}
use Rattle.runs.specs.RunEnds.{is_amp}
use Rattle.attribute.specs.Heads.{past_head}
use Rattle.attribute.specs.Walk.{Settings, opened, answer, exhausted, walk, normalize, inner_head, reading, reading_of}
use Rattle.attribute.specs.Strict.{reading_by}
use Rattle.attribute.specs.Checks.{settings_check}
use Rattle.attribute.proofs.Stops.{IsStop, heads_copy, heads_stop}
use Rattle.attribute.proofs.Single.{walk_plain}
use Rattle.govlezna.specs.Calls.{normalize_attribute_value_call}
use Rattle.demands.specs.Demands.{Asked, rule_for, Accepted, form_of}
use Rattle.demands.specs.CallDemands.{normalize_of, canonical_of}
use Rattle.demands.proofs.CallDemands.{first_bytes, canonical_answered}
use Rattle.requests.specs.Marked.{each_space, MarkedGives, spaced, copied, StopsIn, values_before, Begins, LeadsTo, FormBegins, ListBegins}
use Rattle.requests.specs.External.{ReferenceIn, Through, itself, through}
use Rattle.requests.specs.Reached.{heads_in, stopped, Opens, Within, here, inside, RefusedAt}
use Rattle.requests.specs.Refused.{WithinValue, RefusedThere, AnswersSo}
use Rattle.requests.specs.Nmtokens.{nmtokens_of}
use Rattle.requests.specs.Unused.{Reader, normalizing, forming, listing, unescaping, call_with}
use Rattle.requests.proofs.Readings.{gave}
use Rattle.requests.proofs.Reached.{walk_run, refused_reached}
use Rattle.requests.proofs.Refused.{refused_there}
use Rattle.requests.proofs.Nmtokens.{k5_result}
use Rattle.requests.proofs.BeforeReference.{value_run}
use Rattle.requests.proofs.External.{through_within}

-- ---- a text past line ends

each_length : (u : List ℕ) → length (each_space u) ≡ length u
each_length [] = refl
each_length (b ∷ bs) = ap suc (each_length bs)

-- where the depth is not used up
past_run : (s : Settings) (walked : List ℕ → ℕ → Outcome) (u : List ℕ) (offset n : ℕ) → any_stop is_amp u ≡ false
    → run (answer s walked) (tokens past_head offset 0 u) n ≡ done (each_space u) n
unfolding run tokens past_head answer
past_run s walked [] offset n e = refl
past_run s walked (b ∷ bs) offset n e =
    let rest = past_run s walked bs (suc offset) n (or_right (is_amp b) (any_stop is_amp bs) e) in
    go (eqb b 9 || eqb b 10 || eqb b 13) refl rest
  where
    go : (t : Bool) → eqb b 9 || eqb b 10 || eqb b 13 ≡ t → run (answer s walked) (tokens past_head (suc offset) 0 bs) n ≡ done (each_space bs) n
        → run (answer s walked) (tokens past_head offset 0 (b ∷ bs)) n ≡ done (each_space (b ∷ bs)) n
    go true q rest = rw (or_left (is_amp b) (any_stop is_amp bs) e, q, rest)
    go false q rest = rw (or_left (is_amp b) (any_stop is_amp bs) e, q, rest)

-- at depth 0, up to the first stop
record Exhausts (o : Outcome) (n : ℕ) : Type 0 where
  before : List ℕ
  is : o ≡ refused before n 16 0 0

stop_run : (x : Token) (ts : List Token) (n : ℕ) → IsStop x → Exhausts (run exhausted (x ∷ ts) n) n
unfolding run exhausted
stop_run (copy b) ts n p = absurd p
stop_run (stop x) ts n p = record { before = []; is = refl }
stop_run (barred x) ts n p = elim p [ ]

exhausted_run : (u : List ℕ) (offset n : ℕ) → any_stop (stop_byte false) u ≡ true → Exhausts (run exhausted (tokens past_head offset 0 u) n) n
unfolding run tokens
exhausted_run [] offset n e = absurd (true≢false (sym e))
exhausted_run (b ∷ bs) offset n e = go (stop_byte false b) refl (λ k. exhausted_run bs (suc offset) n k) e
  where
    go : (t : Bool) → stop_byte false b ≡ t → (any_stop (stop_byte false) bs ≡ true → Exhausts (run exhausted (tokens past_head (suc offset) 0 bs) n) n)
        → t || any_stop (stop_byte false) bs ≡ true → Exhausts (run exhausted (tokens past_head offset 0 (b ∷ bs)) n) n
    go true q later k = stop_run (token_of (past_head offset b bs)) (tokens past_head (suc offset) (skip_of (past_head offset b bs)) bs) n (heads_stop 2 offset b bs q)
    go false q later k =
        let rest = later k in
        record {
          before = b ∷ rest.before;
          is =
              ap (λ (h : Head). run exhausted (token_of h ∷ tokens past_head (suc offset) (skip_of h) bs) n) (heads_copy 2 offset b bs q)
              ∙ ap (prepend (b ∷ [])) rest.is;
        }

-- ---- wherever the reference stands

produced_followed : (o : Outcome) (g : ℕ → Outcome) → Begins (produced (followed o g)) (produced o)
produced_followed (done value m) g = go (g m)
  where
    go : (o : Outcome) → Begins (produced (prepend value o)) value
    go (done v k) = record { rest = v; is = refl }
    go (refused v k why first second) = record { rest = v; is = refl }
produced_followed (refused before m why first second) g = record { rest = []; is = sym (append-nil before) }

produced_prepend : (front : List ℕ) (o : Outcome) → produced (prepend front o) ≡ front ++ produced o
produced_prepend front (done value m) = refl
produced_prepend front (refused before m why first second) = refl

-- a reference that opens a text is what is made of it
opened_is : (limit : ℕ) (walked : List ℕ → ℕ → Outcome) (offset : ℕ) (name : List ℕ) (b : Bound) (m : ℕ) (u : List ℕ) (m' : ℕ) → Opens limit m b u m'
    → opened limit walked offset name b m ≡ walked u m'
unfolding opened
opened_is limit walked offset name (text t) m u m' h = rw (ne_eqb m limit h.0) (ap₂ walked (sym h.1) (sym h.2))
opened_is limit walked offset name external m u m' h = absurd h
opened_is limit walked offset name (predefined t) m u m' h = ap₂ walked (sym h.0) (sym h.1)
opened_is limit walked offset name unknown m u m' h = absurd h

module _ (r : Rule) (list pool : List ℕ) (limit : ℕ) (marks : marked list ≡ true) where
  abbrev s : Settings
  s = reading_by false r list pool limit

  inner_is : s.inner ≡ past_head
  unfolding reading_by reading_of reading inner_head
  inner_is = rw marks

  gives_walk : (gives : List ℕ) {p : Place} {depth : ℕ} {t : List ℕ} {n : ℕ} → MarkedGives gives p depth t n → walk s (heads_in s p) depth t n ≡ done gives n
  gives_walk gives (spaced p depth less t n place deep plain e) =
      let is : walk s past_head (suc less) t n ≡ done (each_space t) n = unfold walk in past_run s (λ v j. walk s s.inner less v j) t 0 n plain in
      ap₂ (λ (q : Place) (d : ℕ). walk s (heads_in s q) d t n) place deep ∙ ap (λ (h : Heads). walk s h (suc less) t n) inner_is ∙ is ∙ ap (λ (v : List ℕ). done v n) (sym e)
  gives_walk gives (copied p depth t n place deep plain e) =
      ap₂ (λ (q : Place) (d : ℕ). walk s (heads_in s q) d t n) place deep ∙ ap (λ (h : Heads). walk s h 0 t n) inner_is
      ∙ walk_plain s 2 0 t n (none_plain (stop_byte false) t plain) ∙ ap (λ (v : List ℕ). done v n) (sym e)

  -- one reference more in front
  leads : (p : Place) (depth less : ℕ) (t : List ℕ) (n : ℕ) (before name : List ℕ) (m : ℕ) (u : List ℕ) (m' : ℕ) → depth ≡ suc less
      → (x : ReferenceIn s p depth t n before name m) → Opens s.limit m (s.bind name) u m' → (front : List ℕ) → Begins (produced (walk s s.inner less u m')) front
      → Begins (produced (walk s (heads_in s p) depth t n)) (x.value ++ front)
  unfolding run answer
  leads p depth less t n before name m u m' e x o front h =
      let q = value_run false r list pool limit p depth t before name x.after n x.is (sym (walk_run s p depth before n) ∙ x.reads) x.unended x.no_number in
      let f : Stop → ℕ → Outcome = stopped s (suc less) in
      let within = walk s s.inner less u m' in
      let answer_is : f (named (length before) name) m ≡ within =
      rw x.no_amp (opened_is s.limit (λ v j. walk s s.inner less v j) (length before) name (s.bind name) m u m' o) in
      let all : walk s (heads_in s p) depth t n ≡ prepend x.value (followed within (λ j. run f q.later j)) =
      walk_run s p depth t n ∙ q.is ∙ ap (λ (d : ℕ). prepend x.value (run (stopped s d) (stop (named (length before) name) ∷ q.later) m)) e
      ∙ ap (λ (y : Outcome). prepend x.value (followed y (λ j. run f q.later j))) answer_is in
      let more = produced_followed within (λ j. run f q.later j) in
      record {
        rest = h.rest ++ more.rest;
        is =
            ap produced all ∙ produced_prepend x.value (followed within (λ j. run f q.later j))
            ∙ ap (λ (l : List ℕ). x.value ++ l) (more.is ∙ ap (λ (l : List ℕ). l ++ more.rest) h.is ∙ append_assoc front h.rest more.rest)
            ∙ sym (append_assoc x.value front (h.rest ++ more.rest));
      }

  walk_begins : (gives : List ℕ) {p : Place} {depth : ℕ} {t : List ℕ} {n : ℕ} (w : Through s (MarkedGives gives) p depth t n)
      → Begins (produced (walk s (heads_in s p) depth t n)) (values_before s (MarkedGives gives) w ++ gives)
  unfolding values_before
  walk_begins gives (itself p depth t n x) = record { rest = []; is = ap produced (gives_walk gives x) ∙ sym (append-nil gives) }
  walk_begins gives (through p depth less t n before name m u m' e x o w) =
      let later = values_before s (MarkedGives gives) w in
      let y = leads p depth less t n before name m u m' e x o (later ++ gives) (walk_begins gives w) in
      record { rest = y.rest; is = y.is ∙ ap (λ (l : List ℕ). l ++ y.rest) (sym (append_assoc x.value later gives)) }

  -- a text that stops where the depth is used up
  stops_refused : (p : Place) (depth : ℕ) (t : List ℕ) (n : ℕ) → StopsIn p depth t n → Within s (RefusedAt s 16 0 0) p depth t n
  stops_refused p depth t n h =
      let x = exhausted_run t 0 n h.2 in
      let is : walk s past_head 0 t n ≡ refused x.before n 16 0 0 = unfold walk in x.is in
      let all : walk s (heads_in s p) depth t n ≡ refused x.before n 16 0 0 =
      ap₂ (λ (q : Place) (d : ℕ). walk s (heads_in s q) d t n) h.0 h.1 ∙ ap (λ (at : Heads). walk s at 0 t n) inner_is ∙ is in
      refused_reached s p depth t n (record { before = x.before; openings = n; is = all })

within_join : (s : Settings) (P Q : Place → ℕ → List ℕ → ℕ → Type 0) → ((p : Place) (depth : ℕ) (t : List ℕ) (n : ℕ) → P p depth t n → Within s Q p depth t n)
    → {p : Place} {depth : ℕ} {t : List ℕ} {n : ℕ} → Within s P p depth t n → Within s Q p depth t n
within_join s P Q h (here p depth t n x) = h p depth t n x
within_join s P Q h (inside p depth less t n u m e o w) = inside p depth less t n u m e o (within_join s P Q h w)

-- ---- of the calls

-- K4: "in replacement texts TAB, LF and CR each become one space", and where the depth is used up a text without stop bytes is copied: whatever is read
-- before the references that lead to the text, at any depth of nesting, the value begins with that, and then has what the text gives
pub k4_gives : (a : Asked) → marked a.list ≡ true → (gives : List ℕ)
    (w : Through (reading_by false (rule_for a) a.list a.pool a.limit) (MarkedGives gives) in_value a.depth a.text 0)
    → (out : List ℕ) {size openings : ℕ} {left : List ℕ} → normalize_of a out ≡ called 0 (size ∷ openings ∷ []) (left ∷ [])
    → Begins (take size left) (values_before (reading_by false (rule_for a) a.list a.pool a.limit) (MarkedGives gives) w ++ gives)
unfolding reading_by normalize
k4_gives a marks gives w out {size} {openings} {left} e =
    let x = walk_begins (rule_for a) a.list a.pool a.limit marks gives w in
    let y = gave false a out e in
    record { rest = x.rest; is = sym (ap produced y.reads) ∙ x.is }

-- what the walk gave begins so
accepted_begins : (a : Asked) → marked a.list ≡ true → (gives : List ℕ)
    (w : Through (reading_by false (rule_for a) a.list a.pool a.limit) (MarkedGives gives) in_value a.depth a.text 0) → (value : List ℕ) (openings : ℕ)
    → Accepted a value openings → Begins value (values_before (reading_by false (rule_for a) a.list a.pool a.limit) (MarkedGives gives) w ++ gives)
unfolding reading_by normalize
accepted_begins a marks gives w value openings p =
    let x = walk_begins (rule_for a) a.list a.pool a.limit marks gives w in
    record { rest = x.rest; is = sym (ap produced p.reads) ∙ x.is }

-- K4, of the canonical form: that of a value which begins so
pub k4_form : (a : Asked) → marked a.list ≡ true → (gives : List ℕ)
    (w : Through (reading_by false (rule_for a) a.list a.pool a.limit) (MarkedGives gives) in_value a.depth a.text 0)
    → (scratch out : List ℕ) {size openings : ℕ} {held left : List ℕ} → canonical_of a scratch out ≡ called 0 (size ∷ openings ∷ []) (held ∷ left ∷ [])
    → FormBegins a (take size left) (values_before (reading_by false (rule_for a) a.list a.pool a.limit) (MarkedGives gives) w ++ gives)
k4_form a marks gives w scratch out {size} {openings} {held} {left} e =
    let x = canonical_answered a scratch out e in
    let ws = x.words_are in
    let bs = x.buffers_are in
    let n : size ≡ length (form_of a x.value) = cc in
    let l : left ≡ laid (form_of a x.value) out = cc in
    record {
      value = x.value;
      begins = accepted_begins a marks gives w x.value x.openings x.accepted;
      form_is = first_bytes (form_of a x.value) out n l;
    }

-- K4, of a list of tokens: that of a value which begins so
pub k4_list : (a : Asked) → marked a.list ≡ true → (gives : List ℕ)
    (w : Through (reading_by false (rule_for a) a.list a.pool a.limit) (MarkedGives gives) in_value a.depth a.text 0)
    → (scratch out : List ℕ) {size openings : ℕ} {held left : List ℕ} → nmtokens_of a scratch out ≡ called 0 (size ∷ openings ∷ []) (held ∷ left ∷ [])
    → ListBegins (take size left) (values_before (reading_by false (rule_for a) a.list a.pool a.limit) (MarkedGives gives) w ++ gives)
k4_list a marks gives w scratch out {size} {openings} {held} {left} e =
    let x = k5_result a scratch out e in
    record { value = x.value; begins = accepted_begins a marks gives w x.value openings x.accepted; result_is = x.result }

-- K4: "the stop bytes are those three and `&` under either version": a text with any of them that is opened with the depth used up is 16, at any depth
-- of nesting, of every lenient call
pub k4_stopped : (reader : Reader) (list pool : List ℕ) → marked list ≡ true → LeadsTo StopsIn reader list pool → AnswersSo reader 16 0 0 (call_with reader list pool)
k4_stopped reader list pool marks w = refused_there reader list pool (go reader w)
  where
    value : (t : List ℕ) (version depth limit : ℕ) → Through (reading_by false (rule_of version) list pool limit) StopsIn in_value depth t 0
        → WithinValue (λ s. RefusedAt s 16 0 0) false t version depth limit list pool
    value t version depth limit x =
        let s = reading_by false (rule_of version) list pool limit in
        within_join s StopsIn (RefusedAt s 16 0 0) (stops_refused (rule_of version) list pool limit marks) (through_within false (rule_of version) list pool limit StopsIn x)

    go : (r : Reader) → LeadsTo StopsIn r list pool → RefusedThere r list pool 16 0 0
    go (normalizing false t version depth limit out) x = value t version depth limit x
    go (normalizing true t version depth limit out) x = absurd x
    go (forming false t version depth limit scratch out) x = value t version depth limit x
    go (forming true t version depth limit scratch out) x = absurd x
    go (listing t version depth limit scratch out) x = value t version depth limit x
    go (unescaping t out) x = absurd x

-- ---- the example of XML 1.0, 3.3.3: d = CR, a = LF, da = CR LF

abbrev example : List ℕ
example =
    1 ∷ 0 ∷ 0 ∷ 0 ∷ 0 ∷ 1 ∷ 1 ∷ 0 ∷ 0 ∷ 0 ∷ 1 ∷ 0
    ∷ 1 ∷ 2 ∷ 0 ∷ 0 ∷ 0 ∷ 1 ∷ 3 ∷ 0 ∷ 0 ∷ 0 ∷ 1 ∷ 0
    ∷ 1 ∷ 4 ∷ 0 ∷ 0 ∷ 0 ∷ 2 ∷ 6 ∷ 0 ∷ 0 ∷ 0 ∷ 2 ∷ 0
    ∷ 0 ∷ []

-- `&d;&d;A&a;&#x20;&a;B&da;`
abbrev example_value : List ℕ
example_value =
    38 ∷ 100 ∷ 59 ∷ 38 ∷ 100 ∷ 59 ∷ 65 ∷ 38 ∷ 97 ∷ 59 ∷ 38 ∷ 35 ∷ 120 ∷ 50 ∷ 48 ∷ 59 ∷ 38 ∷ 97 ∷ 59 ∷ 66 ∷ 38 ∷ 100 ∷ 97 ∷ 59 ∷ []

abbrev asked : List ℕ → Asked
asked list = record { version = 1; text = example_value; list = list; pool = 100 ∷ 13 ∷ 97 ∷ 10 ∷ 100 ∷ 97 ∷ 13 ∷ 10 ∷ []; depth = 2; limit = 5 }

-- marked, two spaces at the end, as the standard has it; unmarked, one
pub k4_example :
    (normalize_of (asked (3 ∷ example)) (0 ∷ 0 ∷ 0 ∷ 0 ∷ 0 ∷ 0 ∷ 0 ∷ 0 ∷ 0 ∷ 7 ∷ []) ≡ called 0 (9 ∷ 5 ∷ []) ((32 ∷ 32 ∷ 65 ∷ 32 ∷ 32 ∷ 32 ∷ 66 ∷ 32 ∷ 32 ∷ 7 ∷ []) ∷ []))
    × (normalize_of (asked example) (0 ∷ 0 ∷ 0 ∷ 0 ∷ 0 ∷ 0 ∷ 0 ∷ 0 ∷ 7 ∷ []) ≡ called 0 (8 ∷ 5 ∷ []) ((32 ∷ 32 ∷ 65 ∷ 32 ∷ 32 ∷ 32 ∷ 66 ∷ 32 ∷ 7 ∷ []) ∷ []))
unfolding normalize_attribute_value_call length_check settings_check utf8_check utf8_end table_check finished normalize reading_of
k4_example = (refl, refl)
