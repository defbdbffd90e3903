-- K8 and K9, exactly when: 27 (`k9_there`, `k9_only`), 26 (`k8_26_there`, `k8_26_only`) and 25 (`k8_25_there`, `k8_25_only`), of every call that can
-- answer so, in the value and at any depth of nesting. Assumes nothing.
use mathlib.Core.Path.{◌≡◌, refl, sym, ap, ap₂, subst, ◌∙◌}
use Prim.Native.Nat.{ℕ, zero, suc}
use native.Mathlib.Omega.{arith}
use mathlib.Core.Bool.{Bool, true, false, true≢false}
use mathlib.Core.List.{List, [], ◌∷◌}
use lib.ListN.{drop}
use Rattle.text.specs.Bytes.{pick, same_bytes}
use Rattle.text.specs.Version.{Rule, rule_of}
use Rattle.text.specs.Call.{called}
use Rattle.text.specs.Answers.{Refused}
use Rattle.charref.specs.CharRef.{char_number, any_character, number_answer, only_char}
use Rattle.charref.specs.CharNumbers.{CharNumber}
use Rattle.charref.specs.CharNumbers.{Char, UnexpectedSign, InvalidNumber, InvalidCodepoint, IllegalCharacter, Forbidden}
use Rattle.charref.proofs.Numbers.{relegal, relegal_number, char_number_passes_lem}
use Rattle.entity.specs.Binding.{Bound, text, external, predefined, unknown, binding}
use Rattle.charref.specs.Chars.{is_char}
use Rattle.legal.specs.Legal.{Place, in_value, may_stand, char_from, fault_at}
use Rattle.tokens.specs.Tokens.{Stop, kept, space, number, named, unterminated, Token, copy, stop, barred}
use Rattle.unescape.specs.Unescape.{text_head, replaced}
use Rattle.attribute.specs.Walk.{Settings, reading_of}
use Rattle.attribute.specs.Strict.{strictly, reading_by}
use Rattle.demands.specs.CallDemands.{listed}
use Rattle.requests.specs.Unused.{Reader, normalizing, forming, listing, unescaping, call_with}
use Rattle.requests.specs.Reached.{heads_in, stopped, ReadTo, ComesTo, Within, here, inside, Own, OwnName, RefusedAt, OwnCopied, OwnInText, RefusedInText}
use Rattle.requests.specs.Refused.{WithinRead, RefusedThere, AnswersSo, Outside, OutsideText, OutsideThere, Barred, OutsideChar, IsStrict, WithinStrict, Answered27, Answered26, Answered25}
use Rattle.requests.proofs.Refused.{refused_there, there_refused}
use Rattle.requests.proofs.Places.{value_names, text_names, value_bars}

-- ---- at any depth of nesting

pub within_map : (s : Settings) (P Q : Place → ℕ → List ℕ → ℕ → Type 0) → ((p : Place) (depth : ℕ) (t : List ℕ) (n : ℕ) → P p depth t n → Q p depth t n)
    → {p : Place} {depth : ℕ} {t : List ℕ} {n : ℕ} → Within s P p depth t n → Within s Q p depth t n
within_map s P Q h (here p depth t n x) = here p depth t n (h p depth t n x)
within_map s P Q h (inside p depth less t n u m e o w) = inside p depth less t n u m e o (within_map s P Q h w)

within_says : (s : Settings) (P : Place → ℕ → List ℕ → ℕ → Type 0) (X : Type 0) → ((p : Place) (depth : ℕ) (t : List ℕ) (n : ℕ) → P p depth t n → X)
    → {p : Place} {depth : ℕ} {t : List ℕ} {n : ℕ} → Within s P p depth t n → X
within_says s P X h (here p depth t n x) = h p depth t n x
within_says s P X h (inside p depth less t n u m e o w) = within_says s P X h w

-- of each reading of an attribute value, and of unescaping
module _ (P P' : Settings → Place → ℕ → List ℕ → ℕ → Type 0) (Q Q' : (List ℕ → Bound) → List ℕ → Type 0)
    (h : (strict : Bool) (r : Rule) (list pool : List ℕ) (limit : ℕ) (p : Place) (depth : ℕ) (t : List ℕ) (n : ℕ)
    → P (reading_by strict r list pool limit) p depth t n → P' (reading_by strict r list pool limit) p depth t n)
    (k : (bind : List ℕ → Bound) (t : List ℕ) → Q bind t → Q' bind t) where
  of_value : (strict : Bool) (t : List ℕ) (version depth limit : ℕ) (list pool : List ℕ)
      → Within (reading_by strict (rule_of version) list pool limit) (P (reading_by strict (rule_of version) list pool limit)) in_value depth t 0
      → Within (reading_by strict (rule_of version) list pool limit) (P' (reading_by strict (rule_of version) list pool limit)) in_value depth t 0
  of_value strict t version depth limit list pool w =
      let s = reading_by strict (rule_of version) list pool limit in
      within_map s (P s) (P' s) (h strict (rule_of version) list pool limit) w

  read_map : (reader : Reader) (list pool : List ℕ) → WithinRead P Q reader list pool → WithinRead P' Q' reader list pool
  read_map (normalizing strict t version depth limit out) list pool w = of_value strict t version depth limit list pool w
  read_map (forming strict t version depth limit scratch out) list pool w = of_value strict t version depth limit list pool w
  read_map (listing t version depth limit scratch out) list pool w = of_value false t version depth limit list pool w
  read_map (unescaping t out) list pool w = k (binding list pool) t w

read_says : (P : Settings → Place → ℕ → List ℕ → ℕ → Type 0) (Q : (List ℕ → Bound) → List ℕ → Type 0) (X : Type 0)
    → ((s : Settings) (p : Place) (depth : ℕ) (t : List ℕ) (n : ℕ) → P s p depth t n → X) → ((bind : List ℕ → Bound) (t : List ℕ) → Q bind t → X)
    → (reader : Reader) (list pool : List ℕ) → WithinRead P Q reader list pool → X
read_says P Q X h k (normalizing strict t version depth limit out) list pool w =
    let s = reading_by strict (rule_of version) list pool limit in within_says s (P s) X (h s) w
read_says P Q X h k (forming strict t version depth limit scratch out) list pool w =
    let s = reading_by strict (rule_of version) list pool limit in within_says s (P s) X (h s) w
read_says P Q X h k (listing t version depth limit scratch out) list pool w =
    let s = reading_by false (rule_of version) list pool limit in within_says s (P s) X (h s) w
read_says P Q X h k (unescaping t out) list pool w = k (binding list pool) t w

-- ---- the numbers of a character reference

number_listed : (c : CharNumber) {why first second : ℕ} → number_answer c ≡ Refused why first second → listed why (12 ∷ 13 ∷ 14 ∷ 15 ∷ 25 ∷ []) ≡ true
unfolding number_answer
number_listed (Char n) e = let z : ◌≡◌ {A = ℕ} 0 1 = cc in absurd (omega (arith, z))
number_listed UnexpectedSign {why} e = let q : 12 ≡ why = cc in subst (λ (x : ℕ). listed x (12 ∷ 13 ∷ 14 ∷ 15 ∷ 25 ∷ []) ≡ true) q refl
number_listed InvalidNumber {why} e = let q : 13 ≡ why = cc in subst (λ (x : ℕ). listed x (12 ∷ 13 ∷ 14 ∷ 15 ∷ 25 ∷ []) ≡ true) q refl
number_listed (InvalidCodepoint n) {why} e = let q : 14 ≡ why = cc in subst (λ (x : ℕ). listed x (12 ∷ 13 ∷ 14 ∷ 15 ∷ 25 ∷ []) ≡ true) q refl
number_listed IllegalCharacter {why} e = let q : 15 ≡ why = cc in subst (λ (x : ℕ). listed x (12 ∷ 13 ∷ 14 ∷ 15 ∷ 25 ∷ []) ≡ true) q refl
number_listed Forbidden {why} e = let q : 25 ≡ why = cc in subst (λ (x : ℕ). listed x (12 ∷ 13 ∷ 14 ∷ 15 ∷ 25 ∷ []) ≡ true) q refl

-- ---- K9

-- a token that is refused by 27 is a reference to an external entity
record OwnOutside (s : Settings) (depth : ℕ) (x : Token) (first second : ℕ) : Type 0 where
  less : ℕ
  deep : depth ≡ suc less
  offset : ℕ
  name : List ℕ
  is : x ≡ stop (named offset name)
  no_amp : same_bytes name (97 ∷ 109 ∷ 112 ∷ []) ≡ false
  bound : s.bind name ≡ external
  first_is : first ≡ offset
  second_is : second ≡ 0

own_27 : (s : Settings) (depth : ℕ) (x : Token) (m first second : ℕ) → Own s depth x m 27 first second → OwnOutside s depth x first second
own_27 s depth (copy b) m first second h = absurd h
own_27 s depth (barred k) m first second h = absurd (omega (arith, h.0))
own_27 s zero (stop x) m first second h = absurd (omega (arith, h.0))
own_27 s (suc less) (stop (kept b)) m first second h = absurd h
own_27 s (suc less) (stop space) m first second h = absurd h
own_27 s (suc less) (stop (number digits)) m first second h = absurd (true≢false (sym (number_listed (char_number s.legal digits) h)))
own_27 s (suc less) (stop (named offset name)) m first second h = go (s.bind name) refl h.1
  where
    go : (b : Bound) → s.bind name ≡ b → OwnName s.limit m offset name b 27 first second → OwnOutside s (suc less) (stop (named offset name)) first second
    go (text t) e o = absurd (omega (arith, o.1))
    go external e o = record { less = less; deep = refl; offset = offset; name = name; is = refl; no_amp = h.0; bound = e; first_is = o.1; second_is = o.2 }
    go (predefined t) e o = absurd o
    go unknown e o = absurd (omega (arith, o.0))
own_27 s (suc less) (stop (unterminated offset end)) m first second h = absurd (omega (arith, h.0))

refused_outside : (strict : Bool) (r : Rule) (list pool : List ℕ) (limit first second : ℕ) (p : Place) (depth : ℕ) (t : List ℕ) (n : ℕ)
    → RefusedAt (reading_by strict r list pool limit) 27 first second p depth t n → Outside first (reading_by strict r list pool limit) p depth t n
refused_outside strict r list pool limit first second p depth t n x =
    let s = reading_by strict r list pool limit in
    let o = own_27 s depth x.token x.m first second x.own in
    let c : ComesTo (heads_in s p) (stopped s depth) t n x.k x.m (stop (named o.offset o.name)) =
    subst (ComesTo (heads_in s p) (stopped s depth) t n x.k x.m) o.is x.comes in
    let k : o.offset ≡ x.k = value_names strict r list pool limit p x.k c.byte c.after o.offset o.name c.is in
    let at : first ≡ x.k = o.first_is ∙ k in
    record {
      less = o.less;
      deep = o.deep;
      m = x.m;
      name = o.name;
      comes =
          subst (λ (j : ℕ). ComesTo (heads_in s p) (stopped s depth) t n j x.m (stop (named j o.name))) (sym at)
          (subst (λ (j : ℕ). ComesTo (heads_in s p) (stopped s depth) t n x.k x.m (stop (named j o.name))) k c);
      no_amp = o.no_amp;
      bound = o.bound;
    }

record OwnOutsideText (bind : List ℕ → Bound) (x : Stop) (first second : ℕ) : Type 0 where
  offset : ℕ
  name : List ℕ
  is : x ≡ named offset name
  bound : bind name ≡ external
  first_is : first ≡ offset
  second_is : second ≡ 0

text_27 : (bind : List ℕ → Bound) (x : Stop) (first second : ℕ) → OwnInText bind x 27 first second → OwnOutsideText bind x first second
text_27 bind (kept b) first second h = absurd h
text_27 bind space first second h = absurd h
text_27 bind (number digits) first second h = absurd (true≢false (sym (number_listed (char_number any_character digits) h)))
text_27 bind (named offset name) first second h = go (bind name) refl h
  where
    go : (b : Bound) → bind name ≡ b → OwnCopied offset name b 27 first second → OwnOutsideText bind (named offset name) first second
    go (text t) e o = absurd o
    go external e o = record { offset = offset; name = name; is = refl; bound = e; first_is = o.1; second_is = o.2 }
    go (predefined t) e o = absurd o
    go unknown e o = absurd (omega (arith, o.0))
text_27 bind (unterminated offset end) first second h = absurd (omega (arith, h.0))

refused_outside_text : (first second : ℕ) (bind : List ℕ → Bound) (t : List ℕ) → RefusedInText bind 27 first second t → OutsideText first bind t
refused_outside_text first second bind t x =
    let o = text_27 bind x.token first second x.own in
    let c : ComesTo text_head (replaced bind) t 0 x.k x.m (stop (named o.offset o.name)) =
    subst (λ (y : Stop). ComesTo text_head (replaced bind) t 0 x.k x.m (stop y)) o.is x.comes in
    let k : o.offset ≡ x.k = text_names x.k c.byte c.after o.offset o.name c.is in
    let at : first ≡ x.k = o.first_is ∙ k in
    record {
      m = x.m;
      name = o.name;
      comes =
          subst (λ (j : ℕ). ComesTo text_head (replaced bind) t 0 j x.m (stop (named j o.name))) (sym at)
          (subst (λ (j : ℕ). ComesTo text_head (replaced bind) t 0 x.k x.m (stop (named j o.name))) k c);
      bound = o.bound;
    }

-- and one to which the reading comes is refused so
outside_refused : (offset : ℕ) (strict : Bool) (r : Rule) (list pool : List ℕ) (limit : ℕ) (p : Place) (depth : ℕ) (t : List ℕ) (n : ℕ)
    → Outside offset (reading_by strict r list pool limit) p depth t n → RefusedAt (reading_by strict r list pool limit) 27 offset 0 p depth t n
outside_refused offset strict r list pool limit p depth t n x =
    record { k = offset; m = x.m; token = stop (named offset x.name); comes = x.comes; own = rw x.deep (x.no_amp, rw x.bound (refl, refl, refl)) }

outside_text_refused : (offset : ℕ) (bind : List ℕ → Bound) (t : List ℕ) → OutsideText offset bind t → RefusedInText bind 27 offset 0 t
outside_text_refused offset bind t x = record { k = offset; m = x.m; token = named offset x.name; comes = x.comes; own = rw x.bound (refl, refl, refl) }

module _ (reader : Reader) (list pool : List ℕ) where
  -- K9: "27 when a reference is bound by command 2, with the offset of `&`, before 17": in the text that is being walked, the value or one that
  -- is opened, wherever the reference stands, whatever the limit; in every call that reads with a table, unescaping too
  pub k9_there : (offset : ℕ) → OutsideThere reader list pool offset → AnswersSo reader 27 offset 0 (call_with reader list pool)
  k9_there offset w =
      refused_there reader list pool
      (read_map (Outside offset) (λ s. RefusedAt s 27 offset 0) (OutsideText offset) (λ bind t. RefusedInText bind 27 offset 0 t) (outside_refused offset)
      (outside_text_refused offset) reader list pool w)

  -- and only then
  pub k9_only : {words : List ℕ} {left : List (List ℕ)} → call_with reader list pool ≡ called 27 words left → Answered27 reader list pool words
  k9_only e =
      let x = there_refused reader list pool e refl in
      let nothing : x.second ≡ 0 =
      read_says (λ s. RefusedAt s 27 x.first x.second) (λ bind t. RefusedInText bind 27 x.first x.second t) (x.second ≡ 0)
      (λ s p depth t n y. (own_27 s depth y.token y.m x.first x.second y.own).second_is)
      (λ bind t y. (text_27 bind y.token x.first x.second y.own).second_is) reader list pool x.there in
      record {
        offset = x.first;
        words_are = x.words_are ∙ ap (λ (j : ℕ). x.first ∷ j ∷ []) nothing;
        there =
            read_map (λ s. RefusedAt s 27 x.first x.second) (Outside x.first) (λ bind t. RefusedInText bind 27 x.first x.second t) (OutsideText x.first)
            (λ strict r ls ps limit. refused_outside strict r ls ps limit x.first x.second) (refused_outside_text x.first x.second) reader list pool x.there;
      }

-- ---- K8

strict_map : (P : Rule → Settings → Place → ℕ → List ℕ → ℕ → Type 0) (why first second : ℕ)
    → ((r : Rule) (list pool : List ℕ) (limit : ℕ) (p : Place) (depth : ℕ) (t : List ℕ) (n : ℕ)
    → P r (reading_by true r list pool limit) p depth t n → RefusedAt (reading_by true r list pool limit) why first second p depth t n)
    → (reader : Reader) (list pool : List ℕ) → WithinStrict P reader list pool → RefusedThere reader list pool why first second
strict_map P why first second h (normalizing false t version depth limit out) list pool w = absurd w
strict_map P why first second h (normalizing true t version depth limit out) list pool w =
    let s = reading_by true (rule_of version) list pool limit in
    within_map s (P (rule_of version) s) (RefusedAt s why first second) (h (rule_of version) list pool limit) w
strict_map P why first second h (forming false t version depth limit scratch out) list pool w = absurd w
strict_map P why first second h (forming true t version depth limit scratch out) list pool w =
    let s = reading_by true (rule_of version) list pool limit in
    within_map s (P (rule_of version) s) (RefusedAt s why first second) (h (rule_of version) list pool limit) w
strict_map P why first second h (listing t version depth limit scratch out) list pool w = absurd w
strict_map P why first second h (unescaping t out) list pool w = absurd w

strict_back : (P : Rule → Settings → Place → ℕ → List ℕ → ℕ → Type 0) (why first second : ℕ)
    → ((r : Rule) (list pool : List ℕ) (limit : ℕ) (p : Place) (depth : ℕ) (t : List ℕ) (n : ℕ)
    → RefusedAt (reading_by true r list pool limit) why first second p depth t n → P r (reading_by true r list pool limit) p depth t n)
    → (reader : Reader) → IsStrict reader → (list pool : List ℕ) → RefusedThere reader list pool why first second → WithinStrict P reader list pool
strict_back P why first second h (normalizing false t version depth limit out) i list pool w = absurd i
strict_back P why first second h (normalizing true t version depth limit out) i list pool w =
    let s = reading_by true (rule_of version) list pool limit in
    within_map s (RefusedAt s why first second) (P (rule_of version) s) (h (rule_of version) list pool limit) w
strict_back P why first second h (forming false t version depth limit scratch out) i list pool w = absurd i
strict_back P why first second h (forming true t version depth limit scratch out) i list pool w =
    let s = reading_by true (rule_of version) list pool limit in
    within_map s (RefusedAt s why first second) (P (rule_of version) s) (h (rule_of version) list pool limit) w
strict_back P why first second h (listing t version depth limit scratch out) i list pool w = absurd i
strict_back P why first second h (unescaping t out) i list pool w = absurd i

-- a token that is refused by 26 is a character that is barred
own_26 : (s : Settings) (depth : ℕ) (x : Token) (m first second : ℕ) → Own s depth x m 26 first second → (x ≡ barred first) × (second ≡ 0)
own_26 s depth (copy b) m first second h = absurd h
own_26 s depth (barred k) m first second h = (ap barred (sym h.1), h.2)
own_26 s zero (stop x) m first second h = absurd (omega (arith, h.0))
own_26 s (suc less) (stop (kept b)) m first second h = absurd h
own_26 s (suc less) (stop space) m first second h = absurd h
own_26 s (suc less) (stop (number digits)) m first second h = absurd (true≢false (sym (number_listed (char_number s.legal digits) h)))
own_26 s (suc less) (stop (named offset name)) m first second h = go (s.bind name) h.1
  where
    go : (b : Bound) → OwnName s.limit m offset name b 26 first second → (stop (named offset name) ≡ barred first) × (second ≡ 0)
    go (text t) o = absurd (omega (arith, o.1))
    go external o = absurd (omega (arith, o.0))
    go (predefined t) o = absurd o
    go unknown o = absurd (omega (arith, o.0))
own_26 s (suc less) (stop (unterminated offset end)) m first second h = absurd (omega (arith, h.0))

refused_barred : (first second : ℕ) (r : Rule) (list pool : List ℕ) (limit : ℕ) (p : Place) (depth : ℕ) (t : List ℕ) (n : ℕ)
    → RefusedAt (reading_by true r list pool limit) 26 first second p depth t n → Barred r first (reading_by true r list pool limit) p depth t n
refused_barred first second r list pool limit p depth t n x =
    let s = reading_by true r list pool limit in
    let o = own_26 s depth x.token x.m first second x.own in
    let c : ComesTo (heads_in s p) (stopped s depth) t n x.k x.m (barred first) = subst (ComesTo (heads_in s p) (stopped s depth) t n x.k x.m) o.0 x.comes in
    let b = (value_bars r list pool limit p).0 x.k c.byte c.after first c.is in
    record {
      m = x.m;
      read = subst (λ (j : ℕ). ReadTo (heads_in s p) (stopped s depth) t n j x.m) (sym b.0) c.read;
      fault = ap (λ (j : ℕ). fault_at (may_stand p r) (drop j t)) b.0 ∙ ap (fault_at (may_stand p r)) c.rest ∙ b.1;
    }

barred_refused : (k : ℕ) (r : Rule) (list pool : List ℕ) (limit : ℕ) (p : Place) (depth : ℕ) (t : List ℕ) (n : ℕ)
    → Barred r k (reading_by true r list pool limit) p depth t n → RefusedAt (reading_by true r list pool limit) 26 k 0 p depth t n
unfolding fault_at char_from
barred_refused k r list pool limit p depth t n x = go (drop k t) refl
  where
    go : (l : List ℕ) → drop k t ≡ l → RefusedAt (reading_by true r list pool limit) 26 k 0 p depth t n
    go [] q = let e : fault_at (may_stand p r) [] ≡ true = ap (fault_at (may_stand p r)) (sym q) ∙ x.fault in absurd (true≢false (sym e))
    go (b ∷ bs) q =
        let e : fault_at (may_stand p r) (b ∷ bs) ≡ true = ap (fault_at (may_stand p r)) (sym q) ∙ x.fault in
        record {
          k = k;
          m = x.m;
          token = barred k;
          comes = record { read = x.read; byte = b; after = bs; rest = q; is = (value_bars r list pool limit p).1 k b bs e };
          own = (refl, refl, refl);
        }

-- one that is refused by 25 is a character number that is forbidden
answer_forbidden : (c : CharNumber) {first second : ℕ} → number_answer c ≡ Refused 25 first second → (c ≡ Forbidden) × (first ≡ 0) × (second ≡ 0)
unfolding number_answer
answer_forbidden (Char n) e = let z : ◌≡◌ {A = ℕ} 0 1 = cc in absurd (omega (arith, z))
answer_forbidden UnexpectedSign e = let z : ◌≡◌ {A = ℕ} 12 25 = cc in absurd (omega (arith, z))
answer_forbidden InvalidNumber e = let z : ◌≡◌ {A = ℕ} 13 25 = cc in absurd (omega (arith, z))
answer_forbidden (InvalidCodepoint n) e = let z : ◌≡◌ {A = ℕ} 14 25 = cc in absurd (omega (arith, z))
answer_forbidden IllegalCharacter e = let z : ◌≡◌ {A = ℕ} 15 25 = cc in absurd (omega (arith, z))
answer_forbidden Forbidden e = (refl, cc, cc)

record ForbiddenChar (r : Rule) (digits : List ℕ) : Type 0 where
  c : ℕ
  passes : char_number any_character digits ≡ Char c
  outside : is_char r c ≡ false

-- which 12 to 15 let pass, and which is outside Char
forbidden_char : (r : Rule) (digits : List ℕ) → char_number (only_char r) digits ≡ Forbidden → ForbiddenChar r digits
unfolding only_char
forbidden_char r digits e = go (char_number any_character digits) refl (sym (relegal_number (only_char r) digits) ∙ e)
  where
    by : (n : ℕ) → char_number any_character digits ≡ Char n → (x : Bool) → is_char r n ≡ x → pick x (Char n) Forbidden ≡ Forbidden → ForbiddenChar r digits
    by n q true i k = let z : ◌≡◌ {A = ℕ} 0 1 = cc in absurd (omega (arith, z))
    by n q false i k = record { c = n; passes = q; outside = i }

    go : (c : CharNumber) → char_number any_character digits ≡ c → relegal (only_char r) c ≡ Forbidden → ForbiddenChar r digits
    go (Char n) q k = by n q (is_char r n) refl k
    go UnexpectedSign q k = let z : ◌≡◌ {A = ℕ} 0 1 = cc in absurd (omega (arith, z))
    go InvalidNumber q k = let z : ◌≡◌ {A = ℕ} 0 1 = cc in absurd (omega (arith, z))
    go (InvalidCodepoint n) q k = let z : ◌≡◌ {A = ℕ} 0 1 = cc in absurd (omega (arith, z))
    go IllegalCharacter q k = let z : ◌≡◌ {A = ℕ} 0 1 = cc in absurd (omega (arith, z))
    go Forbidden q k = absurd (char_number_passes_lem digits q)

record OwnForbidden (s : Settings) (depth : ℕ) (x : Token) (first second : ℕ) : Type 0 where
  less : ℕ
  deep : depth ≡ suc less
  digits : List ℕ
  is : x ≡ stop (number digits)
  forbidden : char_number s.legal digits ≡ Forbidden
  words : (first ≡ 0) × (second ≡ 0)

own_25 : (s : Settings) (depth : ℕ) (x : Token) (m first second : ℕ) → Own s depth x m 25 first second → OwnForbidden s depth x first second
own_25 s depth (copy b) m first second h = absurd h
own_25 s depth (barred k) m first second h = absurd (omega (arith, h.0))
own_25 s zero (stop x) m first second h = absurd (omega (arith, h.0))
own_25 s (suc less) (stop (kept b)) m first second h = absurd h
own_25 s (suc less) (stop space) m first second h = absurd h
own_25 s (suc less) (stop (number digits)) m first second h =
    let f = answer_forbidden (char_number s.legal digits) h in
    record { less = less; deep = refl; digits = digits; is = refl; forbidden = f.0; words = (f.1, f.2) }
own_25 s (suc less) (stop (named offset name)) m first second h = go (s.bind name) h.1
  where
    go : (b : Bound) → OwnName s.limit m offset name b 25 first second → OwnForbidden s (suc less) (stop (named offset name)) first second
    go (text t) o = absurd (omega (arith, o.1))
    go external o = absurd (omega (arith, o.0))
    go (predefined t) o = absurd o
    go unknown o = absurd (omega (arith, o.0))
own_25 s (suc less) (stop (unterminated offset end)) m first second h = absurd (omega (arith, h.0))

refused_outside_char : (first second : ℕ) (r : Rule) (list pool : List ℕ) (limit : ℕ) (p : Place) (depth : ℕ) (t : List ℕ) (n : ℕ)
    → RefusedAt (reading_by true r list pool limit) 25 first second p depth t n → OutsideChar r (reading_by true r list pool limit) p depth t n
unfolding reading_by reading_of strictly
refused_outside_char first second r list pool limit p depth t n x =
    let s = reading_by true r list pool limit in
    let o = own_25 s depth x.token x.m first second x.own in
    let f = forbidden_char r o.digits o.forbidden in
    record {
      less = o.less;
      deep = o.deep;
      k = x.k;
      m = x.m;
      digits = o.digits;
      comes = subst (ComesTo (heads_in s p) (stopped s depth) t n x.k x.m) o.is x.comes;
      c = f.c;
      passes = f.passes;
      outside = f.outside;
    }

outside_char_refused : (r : Rule) (list pool : List ℕ) (limit : ℕ) (p : Place) (depth : ℕ) (t : List ℕ) (n : ℕ)
    → OutsideChar r (reading_by true r list pool limit) p depth t n → RefusedAt (reading_by true r list pool limit) 25 0 0 p depth t n
unfolding reading_by reading_of strictly only_char number_answer
outside_char_refused r list pool limit p depth t n x =
    let barrier : only_char r x.c ≡ Forbidden = rw x.outside refl in
    let is : char_number (only_char r) x.digits ≡ Forbidden =
    relegal_number (only_char r) x.digits ∙ ap (relegal (only_char r)) x.passes ∙ barrier in
    record { k = x.k; m = x.m; token = stop (number x.digits); comes = x.comes; own = rw x.deep (ap number_answer is) }

-- unescaping refuses by neither
text_26 : (bind : List ℕ → Bound) (x : Stop) (first second : ℕ) → OwnInText bind x 26 first second → ⊥
text_26 bind (kept b) first second h = h
text_26 bind space first second h = h
text_26 bind (number digits) first second h = true≢false (sym (number_listed (char_number any_character digits) h))
text_26 bind (named offset name) first second h = go (bind name) h
  where
    go : (b : Bound) → OwnCopied offset name b 26 first second → ⊥
    go (text t) o = o
    go external o = omega (arith, o.0)
    go (predefined t) o = o
    go unknown o = omega (arith, o.0)
text_26 bind (unterminated offset end) first second h = omega (arith, h.0)

text_25 : (bind : List ℕ → Bound) (x : Stop) (first second : ℕ) → OwnInText bind x 25 first second → ⊥
text_25 bind (kept b) first second h = h
text_25 bind space first second h = h
text_25 bind (number digits) first second h = char_number_passes_lem digits (answer_forbidden (char_number any_character digits) h).0
text_25 bind (named offset name) first second h = go (bind name) h
  where
    go : (b : Bound) → OwnCopied offset name b 25 first second → ⊥
    go (text t) o = o
    go external o = omega (arith, o.0)
    go (predefined t) o = o
    go unknown o = omega (arith, o.0)
text_25 bind (unterminated offset end) first second h = omega (arith, h.0)

module _ (reader : Reader) (list pool : List ℕ) where
  -- K8: "26 when a raw character, those between `&` and `;` excepted, breaks the rule, with its offset": where the reading comes to it, in the
  -- value or in a text that is opened
  pub k8_26_there : (k : ℕ) → WithinStrict (λ r. Barred r k) reader list pool → AnswersSo reader 26 k 0 (call_with reader list pool)
  k8_26_there k w = refused_there reader list pool (strict_map (λ r. Barred r k) 26 k 0 (barred_refused k) reader list pool w)

  -- and only then: the character at that offset may not stand there, and everything before it was read
  pub k8_26_only : IsStrict reader → {words : List ℕ} {left : List (List ℕ)} → call_with reader list pool ≡ called 26 words left → Answered26 reader list pool words
  k8_26_only i e =
      let x = there_refused reader list pool e refl in
      let nothing : x.second ≡ 0 =
      read_says (λ s. RefusedAt s 26 x.first x.second) (λ bind t. RefusedInText bind 26 x.first x.second t) (x.second ≡ 0)
      (λ s p depth t n y. (own_26 s depth y.token y.m x.first x.second y.own).1)
      (λ bind t y. absurd (text_26 bind y.token x.first x.second y.own)) reader list pool x.there in
      record {
        k = x.first;
        words_are = x.words_are ∙ ap (λ (j : ℕ). x.first ∷ j ∷ []) nothing;
        there = strict_back (λ r. Barred r x.first) 26 x.first x.second (refused_barred x.first x.second) reader i list pool x.there;
      }

  -- K8: "25 when a reference that passes 12 to 15 names a character outside Char": where the reading comes to it
  pub k8_25_there : WithinStrict OutsideChar reader list pool → AnswersSo reader 25 0 0 (call_with reader list pool)
  k8_25_there w = refused_there reader list pool (strict_map OutsideChar 25 0 0 outside_char_refused reader list pool w)

  -- and only then
  pub k8_25_only : IsStrict reader → {words : List ℕ} {left : List (List ℕ)} → call_with reader list pool ≡ called 25 words left → Answered25 reader list pool words
  k8_25_only i e =
      let x = there_refused reader list pool e refl in
      let nothing : (x.first ≡ 0) × (x.second ≡ 0) =
      read_says (λ s. RefusedAt s 25 x.first x.second) (λ bind t. RefusedInText bind 25 x.first x.second t) ((x.first ≡ 0) × (x.second ≡ 0))
      (λ s p depth t n y. (own_25 s depth y.token y.m x.first x.second y.own).words)
      (λ bind t y. absurd (text_25 bind y.token x.first x.second y.own)) reader list pool x.there in
      record {
        words_are = x.words_are ∙ ap₂ (λ (j k : ℕ). j ∷ k ∷ []) nothing.0 nothing.1;
        there = strict_back OutsideChar 25 x.first x.second (refused_outside_char x.first x.second) reader i list pool x.there;
      }
