-- The premises of what is said of references and raw characters are met by calls with a table that defines something, by computation: K9, in a text that
-- is opened and in unescaping (`k9_met`, `k9_text_met`); K8, 26 in a text that is opened (`k8_26_met`), 25 (`k8_25_met`), and neither (`k8_same_met`);
-- K4 (`k4_met`, `k4_copied_met`, `k4_form_met`, `k4_list_met`, `k4_stopped_met`). Assumes nothing.
use mathlib.Core.Path.{◌≡◌, refl}
use Prim.Native.Nat.{ℕ}
use native.Mathlib.Omega.{arith}
use mathlib.Core.Bool.{Bool, true, false}
use mathlib.Core.List.{List, [], ◌∷◌}
use Rattle.text.specs.Version.{rule_of}
use Rattle.text.specs.Call.{called, length_check, utf8_check}
use Rattle.text.specs.Utf8.{utf8_end}
use Rattle.charref.specs.CharRef.{char_number, only_char}
use Rattle.entity.specs.Table.{table_check, marked}
use Rattle.entity.specs.Binding.{binding}
use Rattle.charref.specs.Chars.{is_char}
use Rattle.legal.specs.Legal.{in_value, in_table, may_stand, fault_at}
use Rattle.tokens.specs.Tokens.{tokens}
use Rattle.tokens.specs.Outcome.{run, finished}
use Rattle.unescape.specs.Unescape.{unescape}
use Rattle.attribute.specs.Checks.{settings_check}
use Rattle.attribute.specs.Walk.{walk, normalize, reading_of}
use Rattle.attribute.specs.Strict.{reading_by}
use Rattle.attribute.specs.Form.{formed}
use Rattle.nmtokens.specs.Nmtokens.{collapsed}
use Rattle.govlezna.specs.Calls.{normalize_attribute_value_call, normalize_attribute_value_strict_call, canonical_form_call, normalize_nmtokens_call}
use Rattle.demands.specs.Demands.{Asked, rule_for}
use Rattle.demands.specs.CallDemands.{normalize_of, canonical_of}
use Rattle.requests.specs.Strict.{strict_normalize_of}
use Rattle.requests.specs.Unused.{Reader, normalizing, unescaping, call_with}
use Rattle.requests.specs.Reached.{here, inside}
use Rattle.requests.specs.Refused.{AnswersSo, Barred, OutsideChar, WithinStrict, Answered27, Answered26, Answered25}
use Rattle.requests.specs.External.{Through, itself, through, RefersThere}
use Rattle.requests.specs.Allowed.{allowed_from, walk_texts, Allowed}
use Rattle.requests.specs.Marked.{MarkedGives, spaced, copied, StopsIn, values_before, Begins, FormBegins, ListBegins}
use Rattle.requests.specs.Nmtokens.{nmtokens_of}
use Rattle.requests.proofs.WhenRefused.{k9_only, k8_26_there, k8_26_only, k8_25_there, k8_25_only}
use Rattle.requests.proofs.External.{k9_refers}
use Rattle.requests.proofs.Allowed.{k8_same}
use Rattle.requests.proofs.Marked.{k4_gives, k4_form, k4_list, k4_stopped}

-- ---- K9: e = `b&x;`, x external

abbrev outside_list : List ℕ
outside_list = 1 ∷ 0 ∷ 0 ∷ 0 ∷ 0 ∷ 1 ∷ 1 ∷ 0 ∷ 0 ∷ 0 ∷ 4 ∷ 0 ∷ 2 ∷ 5 ∷ 0 ∷ 0 ∷ 0 ∷ 1 ∷ 0 ∷ []

abbrev outside_pool : List ℕ
outside_pool = 101 ∷ 98 ∷ 38 ∷ 120 ∷ 59 ∷ 120 ∷ []

-- `a&e;` under version 2, at depth 2, with one opening
abbrev outside_reader : Bool → Reader
outside_reader strict = normalizing strict (97 ∷ 38 ∷ 101 ∷ 59 ∷ []) 2 2 1 (7 ∷ [])

-- the `&` of `&x;` is at 1 in the text that is being walked
leads_outside : (strict : Bool) → RefersThere 1 (outside_reader strict) outside_list outside_pool
unfolding walk reading_by reading_of binding
leads_outside strict = go strict
  where
    go : (b : Bool) → RefersThere 1 (outside_reader b) outside_list outside_pool
    go false =
        through in_value 2 1 (97 ∷ 38 ∷ 101 ∷ 59 ∷ []) 0 (97 ∷ []) (101 ∷ []) 0 (98 ∷ 38 ∷ 120 ∷ 59 ∷ []) 1 refl
        (record { after = []; is = refl; value = 97 ∷ []; reads = refl; unended = refl; no_number = λ z. omega (arith, z); no_amp = refl })
        ((λ z. omega (arith, z)), refl, refl)
        (itself in_table 1 (98 ∷ 38 ∷ 120 ∷ 59 ∷ []) 1
        (record {
          less = 0;
          deep = refl;
          before = 98 ∷ [];
          name = 120 ∷ [];
          m = 1;
          reference = record { after = []; is = refl; value = 98 ∷ []; reads = refl; unended = refl; no_number = λ z. omega (arith, z); no_amp = refl };
          bound = refl;
          offset_is = refl;
        }))
    go true =
        through in_value 2 1 (97 ∷ 38 ∷ 101 ∷ 59 ∷ []) 0 (97 ∷ []) (101 ∷ []) 0 (98 ∷ 38 ∷ 120 ∷ 59 ∷ []) 1 refl
        (record { after = []; is = refl; value = 97 ∷ []; reads = refl; unended = refl; no_number = λ z. omega (arith, z); no_amp = refl })
        ((λ z. omega (arith, z)), refl, refl)
        (itself in_table 1 (98 ∷ 38 ∷ 120 ∷ 59 ∷ []) 1
        (record {
          less = 0;
          deep = refl;
          before = 98 ∷ [];
          name = 120 ∷ [];
          m = 1;
          reference = record { after = []; is = refl; value = 98 ∷ []; reads = refl; unended = refl; no_number = λ z. omega (arith, z); no_amp = refl };
          bound = refl;
          offset_is = refl;
        }))

outside_refuses : (strict : Bool) → call_with (outside_reader strict) outside_list outside_pool ≡ called 27 (1 ∷ 0 ∷ []) ((7 ∷ []) ∷ [])
unfolding normalize_attribute_value_call normalize_attribute_value_strict_call length_check settings_check utf8_check utf8_end table_check finished normalize reading_by reading_of
outside_refuses false = refl
outside_refuses true = refl

k9_met : (strict : Bool)
    → AnswersSo (outside_reader strict) 27 1 0 (call_with (outside_reader strict) outside_list outside_pool) × Answered27 (outside_reader strict) outside_list outside_pool (1 ∷ 0 ∷ [])
k9_met strict =
    (k9_refers (outside_reader strict) outside_list outside_pool 1 (leads_outside strict), k9_only (outside_reader strict) outside_list outside_pool (outside_refuses strict))

-- `a&e;&x;`: the text of e is copied, and `&x;` is at 4
k9_text_met : AnswersSo (unescaping (97 ∷ 38 ∷ 101 ∷ 59 ∷ 38 ∷ 120 ∷ 59 ∷ []) []) 27 4 0 (call_with (unescaping (97 ∷ 38 ∷ 101 ∷ 59 ∷ 38 ∷ 120 ∷ 59 ∷ []) []) outside_list outside_pool)
unfolding unescape binding
k9_text_met =
    k9_refers (unescaping (97 ∷ 38 ∷ 101 ∷ 59 ∷ 38 ∷ 120 ∷ 59 ∷ []) []) outside_list outside_pool 4
    (record {
      before = 97 ∷ 38 ∷ 101 ∷ 59 ∷ [];
      name = 120 ∷ [];
      after = [];
      is = refl;
      value = 97 ∷ 98 ∷ 38 ∷ 120 ∷ 59 ∷ [];
      m = 0;
      reads = refl;
      unended = refl;
      no_number = λ z. omega (arith, z);
      bound = refl;
      offset_is = refl;
    })

-- ---- K8: e = U+0001, under version 1

abbrev control_list : List ℕ
control_list = 1 ∷ 0 ∷ 0 ∷ 0 ∷ 0 ∷ 1 ∷ 1 ∷ 0 ∷ 0 ∷ 0 ∷ 1 ∷ 0 ∷ 0 ∷ []

-- `&e;`, and `&#1;`
abbrev raw_reader : Reader
raw_reader = normalizing true (38 ∷ 101 ∷ 59 ∷ []) 1 1 1 (7 ∷ [])

abbrev number_reader : Reader
number_reader = normalizing true (38 ∷ 35 ∷ 49 ∷ 59 ∷ []) 1 1 1 (7 ∷ [])

raw_there : WithinStrict (λ r. Barred r 0) raw_reader control_list (101 ∷ 1 ∷ [])
unfolding tokens run reading_by reading_of binding fault_at may_stand
raw_there =
    inside in_value 1 0 (38 ∷ 101 ∷ 59 ∷ []) 0 (1 ∷ []) 1 refl
    (record {
      k = 0;
      m = 0;
      offset = 0;
      name = 101 ∷ [];
      comes = record { read = record { front = []; cut = refl; value = []; reads = refl }; byte = 38; after = 101 ∷ 59 ∷ []; rest = refl; is = refl };
      no_amp = refl;
      opens = ((λ z. omega (arith, z)), refl, refl);
    })
    (here in_table 0 (1 ∷ []) 1 (record { m = 1; read = record { front = []; cut = refl; value = []; reads = refl }; fault = refl }))

number_there : WithinStrict OutsideChar number_reader control_list (101 ∷ 1 ∷ [])
unfolding tokens run reading_by reading_of char_number is_char
number_there =
    here in_value 1 (38 ∷ 35 ∷ 49 ∷ 59 ∷ []) 0
    (record {
      less = 0;
      deep = refl;
      k = 0;
      m = 0;
      digits = 49 ∷ [];
      comes = record { read = record { front = []; cut = refl; value = []; reads = refl }; byte = 38; after = 35 ∷ 49 ∷ 59 ∷ []; rest = refl; is = refl };
      c = 1;
      passes = refl;
      outside = refl;
    })

raw_refuses : (call_with raw_reader control_list (101 ∷ 1 ∷ []) ≡ called 26 (0 ∷ 0 ∷ []) ((7 ∷ []) ∷ []))
    × (call_with number_reader control_list (101 ∷ 1 ∷ []) ≡ called 25 (0 ∷ 0 ∷ []) ((7 ∷ []) ∷ []))
unfolding normalize_attribute_value_strict_call length_check settings_check utf8_check utf8_end table_check finished normalize reading_by reading_of
raw_refuses = (refl, refl)

k8_26_met : AnswersSo raw_reader 26 0 0 (call_with raw_reader control_list (101 ∷ 1 ∷ [])) × Answered26 raw_reader control_list (101 ∷ 1 ∷ []) (0 ∷ 0 ∷ [])
k8_26_met = (k8_26_there raw_reader control_list (101 ∷ 1 ∷ []) 0 raw_there, k8_26_only raw_reader control_list (101 ∷ 1 ∷ []) tt raw_refuses.0)

k8_25_met : AnswersSo number_reader 25 0 0 (call_with number_reader control_list (101 ∷ 1 ∷ [])) × Answered25 number_reader control_list (101 ∷ 1 ∷ []) (0 ∷ 0 ∷ [])
k8_25_met = (k8_25_there number_reader control_list (101 ∷ 1 ∷ []) number_there, k8_25_only number_reader control_list (101 ∷ 1 ∷ []) tt raw_refuses.1)

-- `&e;&#9;&q;` with e = `x`: both readings refuse it alike, by 11
abbrev allowed : Asked
allowed =
    record {
      version = 2;
      text = 38 ∷ 101 ∷ 59 ∷ 38 ∷ 35 ∷ 57 ∷ 59 ∷ 38 ∷ 113 ∷ 59 ∷ [];
      list = control_list;
      pool = 101 ∷ 120 ∷ [];
      depth = 1;
      limit = 1;
    }

all_allowed : Allowed allowed
unfolding allowed_from walk_texts reading_of may_stand only_char
all_allowed = record { value = refl; texts = (refl, tt) }

k8_same_met : strict_normalize_of allowed (7 ∷ []) ≡ normalize_of allowed (7 ∷ [])
k8_same_met = k8_same allowed all_allowed (7 ∷ [])

-- ---- K4: a marked list with e = TAB, or `x`

abbrev marked_asked : ℕ → ℕ → Asked
marked_asked depth c = record { version = 0; text = 97 ∷ 38 ∷ 101 ∷ 59 ∷ []; list = 3 ∷ control_list; pool = 101 ∷ c ∷ []; depth = depth; limit = 1 }

leads_tab : Through (reading_by false (rule_for (marked_asked 2 9)) (3 ∷ control_list) (101 ∷ 9 ∷ []) 1) (MarkedGives (32 ∷ [])) in_value 2 (97 ∷ 38 ∷ 101 ∷ 59 ∷ []) 0
unfolding walk reading_by reading_of binding
leads_tab =
    through in_value 2 1 (97 ∷ 38 ∷ 101 ∷ 59 ∷ []) 0 (97 ∷ []) (101 ∷ []) 0 (9 ∷ []) 1 refl
    (record { after = []; is = refl; value = 97 ∷ []; reads = refl; unended = refl; no_number = λ z. omega (arith, z); no_amp = refl })
    ((λ z. omega (arith, z)), refl, refl) (itself in_table 1 (9 ∷ []) 1 (spaced in_table 1 0 (9 ∷ []) 1 refl refl refl refl))

leads_plain : Through (reading_by false (rule_for (marked_asked 1 120)) (3 ∷ control_list) (101 ∷ 120 ∷ []) 1) (MarkedGives (120 ∷ [])) in_value 1 (97 ∷ 38 ∷ 101 ∷ 59 ∷ []) 0
unfolding walk reading_by reading_of binding
leads_plain =
    through in_value 1 0 (97 ∷ 38 ∷ 101 ∷ 59 ∷ []) 0 (97 ∷ []) (101 ∷ []) 0 (120 ∷ []) 1 refl
    (record { after = []; is = refl; value = 97 ∷ []; reads = refl; unended = refl; no_number = λ z. omega (arith, z); no_amp = refl })
    ((λ z. omega (arith, z)), refl, refl) (itself in_table 0 (120 ∷ []) 1 (copied in_table 0 (120 ∷ []) 1 refl refl refl refl))

leads_stop : Through (reading_by false (rule_of 0) (3 ∷ control_list) (101 ∷ 9 ∷ []) 1) StopsIn in_value 1 (97 ∷ 38 ∷ 101 ∷ 59 ∷ []) 0
unfolding walk reading_by reading_of binding
leads_stop =
    through in_value 1 0 (97 ∷ 38 ∷ 101 ∷ 59 ∷ []) 0 (97 ∷ []) (101 ∷ []) 0 (9 ∷ []) 1 refl
    (record { after = []; is = refl; value = 97 ∷ []; reads = refl; unended = refl; no_number = λ z. omega (arith, z); no_amp = refl })
    ((λ z. omega (arith, z)), refl, refl) (itself in_table 0 (9 ∷ []) 1 (refl, refl, refl))

marked_answers : (normalize_of (marked_asked 2 9) (7 ∷ 7 ∷ []) ≡ called 0 (2 ∷ 1 ∷ []) ((97 ∷ 32 ∷ []) ∷ []))
    × (normalize_of (marked_asked 1 120) (7 ∷ 7 ∷ []) ≡ called 0 (2 ∷ 1 ∷ []) ((97 ∷ 120 ∷ []) ∷ []))
unfolding normalize_attribute_value_call length_check settings_check utf8_check utf8_end table_check finished normalize reading_of
marked_answers = (refl, refl)

k4_met : Begins (97 ∷ 32 ∷ []) (97 ∷ 32 ∷ [])
unfolding marked values_before leads_tab
k4_met = k4_gives (marked_asked 2 9) refl (32 ∷ []) leads_tab (7 ∷ 7 ∷ []) marked_answers.0

k4_copied_met : Begins (97 ∷ 120 ∷ []) (97 ∷ 120 ∷ [])
unfolding marked values_before leads_plain
k4_copied_met = k4_gives (marked_asked 1 120) refl (120 ∷ []) leads_plain (7 ∷ 7 ∷ []) marked_answers.1

form_answers : canonical_of (marked_asked 2 9) (7 ∷ 7 ∷ 7 ∷ 7 ∷ []) (7 ∷ 7 ∷ []) ≡ called 0 (2 ∷ 1 ∷ []) ((32 ∷ 0 ∷ 0 ∷ 0 ∷ []) ∷ (97 ∷ 32 ∷ []) ∷ [])
unfolding canonical_form_call length_check settings_check utf8_check utf8_end table_check formed normalize reading_of
form_answers = refl

k4_form_met : FormBegins (marked_asked 2 9) (97 ∷ 32 ∷ []) (97 ∷ 32 ∷ [])
unfolding marked values_before leads_tab
k4_form_met = k4_form (marked_asked 2 9) refl (32 ∷ []) leads_tab (7 ∷ 7 ∷ 7 ∷ 7 ∷ []) (7 ∷ 7 ∷ []) form_answers

list_answers : nmtokens_of (marked_asked 2 9) (7 ∷ 7 ∷ []) (7 ∷ 7 ∷ []) ≡ called 0 (1 ∷ 1 ∷ []) ((97 ∷ 32 ∷ []) ∷ (97 ∷ 7 ∷ []) ∷ [])
unfolding normalize_nmtokens_call length_check settings_check utf8_check utf8_end table_check collapsed normalize reading_of
list_answers = refl

k4_list_met : ListBegins (97 ∷ []) (97 ∷ 32 ∷ [])
unfolding marked values_before leads_tab
k4_list_met = k4_list (marked_asked 2 9) refl (32 ∷ []) leads_tab (7 ∷ 7 ∷ []) (7 ∷ 7 ∷ []) list_answers

k4_stopped_met : AnswersSo (normalizing false (97 ∷ 38 ∷ 101 ∷ 59 ∷ []) 0 1 1 (7 ∷ [])) 16 0 0
    (call_with (normalizing false (97 ∷ 38 ∷ 101 ∷ 59 ∷ []) 0 1 1 (7 ∷ [])) (3 ∷ control_list) (101 ∷ 9 ∷ []))
unfolding marked
k4_stopped_met = k4_stopped (normalizing false (97 ∷ 38 ∷ 101 ∷ 59 ∷ []) 0 1 1 (7 ∷ [])) (3 ∷ control_list) (101 ∷ 9 ∷ []) refl leads_stop
