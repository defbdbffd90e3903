-- K8: where every raw character may stand, in the value and in each text that is opened, and each character reference names a Char, the strict
-- calls answer as the lenient ones (`k8_same`, `k8_same_form`). Assumes nothing.
use mathlib.Core.Path.{◌≡◌, refl, sym, ap, ◌∙◌}
use Prim.Native.Nat.{ℕ, zero, suc}
use mathlib.Core.Bool.{Bool, true, false, ◌&&◌, true≢false}
use mathlib.Core.List.{List, [], ◌∷◌}
use lib.Dec.{eqb}
use Rattle.text.specs.Bytes.{pick, same_bytes}
use Rattle.text.specs.Version.{Rule}
use Rattle.text.specs.Call.{guarded}
use Rattle.text.proofs.Bytes.{and_left, and_right}
use Rattle.charref.specs.CharRef.{char_number, any_character, number_answer, only_char}
use Rattle.charref.specs.CharNumbers.{CharNumber}
use Rattle.charref.specs.CharNumbers.{Char, Forbidden}
use Rattle.charref.proofs.Rules.{char_related}
use Rattle.entity.specs.Binding.{Bound, text, external, predefined, unknown}
use Rattle.charref.specs.Chars.{is_char}
use Rattle.legal.specs.Legal.{in_value, in_table, may_stand, fault_at}
use Rattle.tokens.specs.Tokens.{Stop, kept, space, number, named, unterminated, Token, copy, stop, barred, Head, head, token_of, skip_of, Heads, tokens}
use Rattle.tokens.specs.Outcome.{Outcome, done, refused, prepend, followed, run, numbered, number_outcome, finished}
use Rattle.tokens.specs.Lookups.{unless_refused, lookups, Each}
use Rattle.tokens.proofs.Lookups.{each_left, each_right}
use Rattle.attribute.specs.Walk.{Settings, opened, answer, exhausted, walk, normalize, reading, reading_of}
use Rattle.attribute.specs.Strict.{strictly, reading_by}
use Rattle.attribute.specs.Strict.{barring as guard}
use Rattle.attribute.specs.Form.{formed}
use Rattle.attribute.proofs.Strict.{with_legal}
use Rattle.govlezna.specs.Calls.{walk_check, normalize_attribute_value_call, canonical_form_call, normalize_attribute_value_strict_call, canonical_form_strict_call}
use Rattle.demands.specs.Demands.{Asked, rule_for}
use Rattle.demands.specs.CallDemands.{normalize_of, canonical_of}
use Rattle.requests.specs.Strict.{strict_normalize_of, strict_canonical_of}
use Rattle.requests.specs.Allowed.{is_allowed, number_allowed, allowed_from, texts_inside, texts_at, walk_texts, Allowed}

-- ---- character numbers

-- a number that names a Char is what the lenient reading says
allowed_number : (r : Rule) (digits : List ℕ) (n : ℕ) → is_allowed (char_number (only_char r) digits) ≡ true → number_outcome (only_char r) digits n ≡ number_outcome any_character digits n
unfolding number_outcome only_char
allowed_number r digits n h =
    ap (λ (c : CharNumber). numbered (number_answer c) n) (char_related (λ (c d : CharNumber). is_allowed c ≡ true → c ≡ d) (λ c e. refl) (only_char r) any_character only digits h)
  where
    only : (m : ℕ) → is_allowed (pick (is_char r m) (Char m) Forbidden) ≡ true → pick (is_char r m) (Char m) Forbidden ≡ Char m
    only m = go (is_char r m)
      where
        go : (x : Bool) → is_allowed (pick x (Char m) Forbidden) ≡ true → pick x (Char m) Forbidden ≡ Char m
        go true e = refl
        go false e = absurd (true≢false (sym e))

-- ---- runs

followed_on : (P : List ℕ → Type 0) (o : Outcome) (f g : ℕ → Outcome) (texts : ℕ → List (List ℕ)) → ((m : ℕ) → Each P (texts m) → f m ≡ g m) → Each P (unless_refused o texts)
    → followed o f ≡ followed o g
followed_on P (done value m) f g texts h e = ap (prepend value) (h m e)
followed_on P (refused before m why first second) f g texts h e = refl

module _ (P : List ℕ → Type 0) (may : ℕ → Bool) (r : Rule) (at : Heads) (f g : Stop → ℕ → Outcome) (texts : Stop → ℕ → List (List ℕ))
    (same : (x : Stop) (n : ℕ) → number_allowed r (stop x) ≡ true → Each P (texts x n) → f x n ≡ g x n) where
  abbrev Here : List ℕ → ℕ → ℕ → ℕ → Type 0
  Here t offset skip n = allowed_from may r at offset skip t ≡ true → Each P (lookups g texts (tokens at offset skip t) n)
      → run f (tokens (guard may at) offset skip t) n ≡ run g (tokens at offset skip t) n

  run_same : (t : List ℕ) (offset skip n : ℕ) → Here t offset skip n
  unfolding allowed_from guard tokens run lookups
  run_same [] offset skip n a e = refl
  run_same (b ∷ bs) offset (suc skip) n a e = run_same bs (suc offset) skip n a e
  run_same (b ∷ bs) offset zero n a e = go (at offset b bs) (fault_at may (b ∷ bs)) (λ k m. run_same bs (suc offset) k m) a e
    where
      go : (z : Head) (x : Bool) → ((k m : ℕ) → Here bs (suc offset) k m)
          → pick x false (number_allowed r (token_of z) && allowed_from may r at (suc offset) (skip_of z) bs) ≡ true
          → Each P (lookups g texts (token_of z ∷ tokens at (suc offset) (skip_of z) bs) n)
          → run f (token_of (pick x (head (barred offset) 0) z) ∷ tokens (guard may at) (suc offset) (skip_of (pick x (head (barred offset) 0) z)) bs) n
          ≡ run g (token_of z ∷ tokens at (suc offset) (skip_of z) bs) n
      go z true ih q h = absurd (true≢false (sym q))
      go (head (copy c) k) false ih q h = ap (prepend (c ∷ [])) (ih k n q h)
      go (head (stop y) k) false ih q h =
          let ok = number_allowed r (stop y) in
          let rest = allowed_from may r at (suc offset) k bs in
          let later = unless_refused (g y n) (λ m. lookups g texts (tokens at (suc offset) k bs) m) in
          ap (λ (o : Outcome). followed o (λ m. run f (tokens (guard may at) (suc offset) k bs) m)) (same y n (and_left ok rest q) (each_left P (texts y n) later h))
          ∙ followed_on P (g y n) (λ m. run f (tokens (guard may at) (suc offset) k bs) m) (λ m. run g (tokens at (suc offset) k bs) m)
          (λ m. lookups g texts (tokens at (suc offset) k bs) m) (λ m i. ih k m (and_right ok rest q) i) (each_right P (texts y n) later h)
      go (head (barred o) k) false ih q h = refl

-- none is opened where the depth is used up
none_opened : (P : List ℕ → Type 0) (ts : List Token) (n : ℕ) → Each P (lookups exhausted (λ x m. []) ts n)
unfolding lookups exhausted
none_opened P [] n = tt
none_opened P (copy b ∷ ts) n = none_opened P ts n
none_opened P (stop x ∷ ts) n = tt
none_opened P (barred o ∷ ts) n = tt

-- ---- walks

module _ (r : Rule) (s : Settings) where
  abbrev lenient : Settings
  lenient = with_legal any_character s

  abbrev InTable : List ℕ → Type 0
  InTable u = allowed_from (may_stand in_table r) r s.inner 0 0 u ≡ true

  module _ (f g : List ℕ → ℕ → Outcome) (texts : List ℕ → ℕ → List (List ℕ)) (h : (u : List ℕ) (n : ℕ) → InTable u → Each InTable (texts u n) → f u n ≡ g u n) where
    opened_same : (offset : ℕ) (name : List ℕ) (b : Bound) (n : ℕ) → Each InTable (texts_inside s.limit texts b n)
        → opened s.limit f offset name b n ≡ opened s.limit g offset name b n
    unfolding opened texts_inside
    opened_same offset name (text t) n e = go (eqb n s.limit) e
      where
        go : (full : Bool) → Each InTable (pick full [] (t ∷ texts t (suc n))) → pick full (refused [] n 17 offset 0) (f t (suc n)) ≡ pick full (refused [] n 17 offset 0) (g t (suc n))
        go true q = refl
        go false q = h t (suc n) q.0 q.1
    opened_same offset name external n e = refl
    opened_same offset name (predefined t) n e = h t n e.0 e.1
    opened_same offset name unknown n e = refl

    answer_same : (x : Stop) (n : ℕ) → number_allowed r (stop x) ≡ true → Each InTable (texts_at lenient texts x n)
        → answer (strictly r s) f x n ≡ answer lenient g x n
    unfolding answer strictly texts_at
    answer_same (kept b) n a e = refl
    answer_same space n a e = refl
    answer_same (number digits) n a e = allowed_number r digits n a
    answer_same (named offset name) n a e = go (same_bytes name (97 ∷ 109 ∷ 112 ∷ [])) e
      where
        go : (amp : Bool) → Each InTable (pick amp [] (texts_inside s.limit texts (s.bind name) n))
            → pick amp (done (38 ∷ []) n) (opened s.limit f offset name (s.bind name) n) ≡ pick amp (done (38 ∷ []) n) (opened s.limit g offset name (s.bind name) n)
        go true q = refl
        go false q = opened_same offset name (s.bind name) n q
    answer_same (unterminated offset end) n a e = refl

  walk_same : (may : ℕ → Bool) (at : Heads) (depth : ℕ) (t : List ℕ) (n : ℕ) → allowed_from may r at 0 0 t ≡ true → Each InTable (walk_texts lenient at depth t n)
      → walk (strictly r s) (guard may at) depth t n ≡ walk lenient at depth t n
  unfolding walk walk_texts strictly
  walk_same may at zero t n a e =
      run_same InTable may r at exhausted exhausted (λ x m. []) (λ x m i j. refl) t 0 0 n a (none_opened InTable (tokens at 0 0 t) n)
  walk_same may at (suc depth) t n a e =
      let f : List ℕ → ℕ → Outcome = λ u m. walk (strictly r s) (guard (may_stand in_table r) s.inner) depth u m in
      let g : List ℕ → ℕ → Outcome = λ u m. walk lenient s.inner depth u m in
      let texts : List ℕ → ℕ → List (List ℕ) = λ u m. walk_texts lenient s.inner depth u m in
      run_same InTable may r at (answer (strictly r s) f) (answer lenient g) (texts_at lenient texts)
      (answer_same f g texts (λ u m i j. walk_same (may_stand in_table r) s.inner depth u m i j)) t 0 0 n a e

-- ---- of the calls

value_same : (a : Asked) → Allowed a
    → normalize (reading_by true (rule_for a) a.list a.pool a.limit) a.depth a.text ≡ normalize (reading_of (rule_for a) a.list a.pool a.limit) a.depth a.text
unfolding normalize reading_by reading_of reading strictly
value_same a h =
    let s = reading_of (rule_for a) a.list a.pool a.limit in
    walk_same (rule_for a) s (may_stand in_value (rule_for a)) s.outer a.depth a.text 0 h.value h.texts

-- K8: "alike but for 25 and 26", which are given for nothing else: of what the rule allows, the strict answer is the lenient one, number, words and
-- every byte
pub k8_same : (a : Asked) → Allowed a → (out : List ℕ) → strict_normalize_of a out ≡ normalize_of a out
unfolding normalize_attribute_value_call normalize_attribute_value_strict_call
k8_same a h out =
    ap (λ (o : Outcome). guarded (walk_check a.text a.version a.depth a.limit a.list a.pool) (out ∷ []) (finished o out)) (value_same a h)

pub k8_same_form : (a : Asked) → Allowed a → (scratch out : List ℕ) → strict_canonical_of a scratch out ≡ canonical_of a scratch out
unfolding canonical_form_call canonical_form_strict_call
k8_same_form a h scratch out =
    ap (λ (o : Outcome). guarded (walk_check a.text a.version a.depth a.limit a.list a.pool) (scratch ∷ out ∷ []) (formed (rule_for a) o scratch out)) (value_same a h)
