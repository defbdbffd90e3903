-- Digits read up to the `;`: what is known after some of them, and the character that they write. Assumes nothing.
use mathlib.Core.Path.{◌≡◌, refl, sym, ap, ◌∙◌}
use mathlib.Core.Logic.{◌≢◌, inl, inr}
use mathlib.Core.Bool.{Bool, true, false}
use mathlib.Core.Option.{Option, none, some}
use mathlib.Core.List.{List, [], ◌∷◌, ◌++◌}
use Prim.Native.Nat.{ℕ, suc, ◌+◌, ◌*◌, ◌-◌, ◌≤◌, ◌<◌}
use native.Mathlib.Omega.{arith}
use native.Mathlib.Nat.{le_refl}
use native.Mathlib.Numerals.{add-one}
use lib.Dec.{eqb, ltb}
use lib.ListN.{length, get_or, take, drop, length-drop}
use lib.Seq.{take-suc, drop-cons, get_or-drop}
use borrow.Author.Tests.{eqb-true, ne_eqb, ltb-true, ltb-false, le-ltb}
use Rattle.text.specs.Bytes.{pick}
use Rattle.text.proofs.Bytes.{below}
use Rattle.charref.specs.CharRef.{digit_value, digit, number_from, small, in_base, judge, char_number, any_character}
use Rattle.std.specs.Prelude.{IfSome}
use Rattle.std.specs.Prelude as std
use Rattle.charref.specs.Reading.{Closed, Written, Found, Quickly}
use Rattle.charref.specs.CharNumbers.{Value, NoNumber}
use Rattle.charref.specs.CharNumbers.{Char}
use Rattle.charref.specs.declared.Quick.{Quick}
use Rattle.charref.proofs.Numbers.{number_step, number_stop_lem, base_digits}

-- ---- bytes that are no digits

value_of_x : digit_value 120 ≡ 16
unfolding digit_value
value_of_x = refl

value_of_amp : digit_value 38 ≡ 16
unfolding digit_value
value_of_amp = refl

value_of_semicolon : digit_value 59 ≡ 16
unfolding digit_value
value_of_semicolon = refl

value_of_plus : digit_value 43 ≡ 16
unfolding digit_value
value_of_plus = refl

value_of_minus : digit_value 45 ≡ 16
unfolding digit_value
value_of_minus = refl

apart : (b x : ℕ) → digit_value x ≡ 16 → digit_value b < 16 → b ≢ x
apart b x e h q = absurd (omega (arith, e, h, ap digit_value q))

-- ---- a digit more

number_more : (base n v b : ℕ) (s : List ℕ) → number_from base n s ≡ some v → digit_value b < base
    → number_from base n (s ++ (b ∷ [])) ≡ some (base * v + digit_value b)
unfolding number_from
number_more base n v b [] e h =
    let q : n ≡ v = cc in
    number_step base n b [] h ∙ ap (λ (m : ℕ). some (base * m + digit_value b)) q
number_more base n v b (a ∷ s) e h = go (digit base a) e (λ d q. number_more base (base * n + d) v b s q h)
  where
    go : (o : Option ℕ) → elim o [ none ↦ none | some d ↦ number_from base (base * n + d) s ] ≡ some v
        → ((d : ℕ) → number_from base (base * n + d) s ≡ some v → number_from base (base * n + d) (s ++ (b ∷ [])) ≡ some (base * v + digit_value b))
        → elim o [ none ↦ none | some d ↦ number_from base (base * n + d) (s ++ (b ∷ [])) ] ≡ some (base * v + digit_value b)
    go none f ih = absurd (let z : ◌≡◌ {A = ℕ} 0 1 = cc in omega arith)
    go (some d) f ih = ih d f

-- ---- the part from `from` up to `i`

module _ (text : List ℕ) (from i : ℕ) where
  part_first : from < i → i ≤ length text → take (i - from) (drop from text) ≡ get_or text from 0 ∷ take (i - (from + 1)) (drop (from + 1) text)
  part_first h l =
      let k : i - from ≡ suc (i - (from + 1)) = omega arith in
      let d : drop from text ≡ get_or text from 0 ∷ drop (from + 1) text =
      drop-cons text from 0 (omega arith) ∙ ap (λ (m : ℕ). get_or text from 0 ∷ drop m text) (sym (add-one from)) in
      rw (k, d)

  part_more : from ≤ i → i < length text → take (i + 1 - from) (drop from text) ≡ take (i - from) (drop from text) ++ (get_or text i 0 ∷ [])
  part_more h l =
      let n : i + 1 - from ≡ suc (i - from) = omega arith in
      let k : from + (i - from) ≡ i = omega arith in
      let b : get_or (drop from text) (i - from) 0 ≡ get_or text i 0 = get_or-drop from text (i - from) 0 ∙ ap (λ (m : ℕ). get_or text m 0) k in
      ap (λ (m : ℕ). take m (drop from text)) n
      ∙ take-suc (drop from text) (i - from) 0 (rw length-drop (omega arith))
      ∙ ap (λ (m : ℕ). take (i - from) (drop from text) ++ (m ∷ [])) b

-- ---- the loop

module _ (base : ℕ) (text : List ℕ) (from : ℕ) where
  -- the bytes from `from` up to `i` are digits, and write the value
  pub record Read (value i : ℕ) : Type 0 where
    pub past : from ≤ i
    pub inside : i ≤ length text
    pub low : value ≤ 0xD7FF
    pub number : number_from base 0 (take (i - from) (drop from text)) ≡ some value
    pub digits : (k : ℕ) → from ≤ k → k < i → digit_value (get_or text k 0) < base

  pub read_start : from ≤ length text → Read 0 from
  unfolding number_from
  read_start h =
      let z : from - from ≡ 0 = omega arith in
      record { past = le_refl from; inside = h; low = omega arith; number = rw z; digits = λ k g l. absurd (omega arith) }

  module _ {value i : ℕ} (r : Read value i) (h : i < length text) where
    pub read_digit : (d : ℕ) → d ≡ digit_value (get_or text i 0) → d < base → base * value + d ≤ 0xD7FF → Read (base * value + d) (i + 1)
    read_digit d e k l = record {
      past = omega (arith, r.past);
      inside = omega arith;
      low = l;
      number =
          ap (number_from base 0) (part_more text from i r.past h)
          ∙ number_more base 0 value (get_or text i 0) (take (i - from) (drop from text)) r.number (omega arith)
          ∙ ap (λ (v : ℕ). some (base * value + v)) (sym e);
      digits = λ m g n. go m (ltb m i) refl g n;
    }
      where
        go : (m : ℕ) (x : Bool) → ltb m i ≡ x → from ≤ m → m < i + 1 → digit_value (get_or text m 0) < base
        go m true q g n = r.digits m g (ltb-true m i q)
        go m false q g n =
            let z : m ≡ i = omega (arith, ltb-false m i q) in
            rw z (omega arith)

    module _ (most : base ≤ 16) (e : get_or text i 0 ≡ 59) where
      read_closed : Closed text from i
      read_closed = record {
        past = r.past;
        inside = h;
        semicolon = e;
        none =
            λ k g l.
            let d : digit_value (get_or text k 0) < 16 = omega (arith, r.digits k g l) in
            (apart (get_or text k 0) 59 value_of_semicolon d, apart (get_or text k 0) 38 value_of_amp d);
      }

      read_number : value ≢ 0 → in_base base (take (i - from) (drop from text)) ≡ Value value
      unfolding small number_from
      read_number n = go (ltb from i) refl
        where
          go : (x : Bool) → ltb from i ≡ x → in_base base (take (i - from) (drop from text)) ≡ Value value
          go false q =
              let z : i - from ≡ 0 = omega (arith, ltb-false from i q) in
              let w : number_from base 0 [] ≡ some value = rw z at r.number in
              absurd (n (let y : 0 ≡ value = cc in sym y))
          go true q =
              let l : from < i = ltb-true from i q in
              let d : digit_value (get_or text from 0) < 16 = omega (arith, r.digits from (le_refl from) l) in
              let p = part_first text from i l r.inside in
              ap (in_base base) p
              ∙ sym (base_digits base (get_or text from 0 ∷ take (i - (from + 1)) (drop (from + 1) text)) (λ z. absurd (omega arith)) (λ s. elim s [ inl y ↦ apart (get_or text from 0) 43 value_of_plus d y | inr y ↦ apart (get_or text from 0) 45 value_of_minus d y ]))
              ∙ ap small (ap (number_from base 0) (sym p) ∙ r.number)
              ∙ rw (le-ltb 4294967295 value (omega (arith, r.low)))

      pub read_end : value ≢ 0 → Written base text from (record { c = value; end = i })
      read_end n = record { closed = read_closed; number = read_number n; low = r.low }

-- ---- the character

judged : (n : ℕ) → n ≢ 0 → n ≤ 0xD7FF → judge any_character (Value n) ≡ Char n
unfolding judge
judged n h l = rw (ne_eqb n 0 h, below 0xD800 0xDFFF n (omega arith), le-ltb 1114111 n (omega arith))

-- an x is no digit of base 10
decimal : (s : List ℕ) (v : ℕ) → in_base 10 s ≡ Value v → char_number any_character s ≡ judge any_character (Value v)
unfolding char_number in_base small
decimal [] v e = absurd (let z : ◌≡◌ {A = ℕ} 0 1 = cc in omega arith)
decimal (b ∷ s) v e = go (eqb b 120) refl
  where
    go : (t : Bool) → eqb b 120 ≡ t → judge any_character (pick t (in_base 16 s) (in_base 10 (b ∷ s))) ≡ judge any_character (Value v)
    go false q = ap (judge any_character) e
    go true q =
        let x : b ≡ 120 = eqb-true b 120 q in
        let n : number_from 10 0 (120 ∷ s) ≡ none = number_stop_lem 10 0 120 s (rw value_of_x (omega arith)) in
        let f : in_base 10 (120 ∷ s) ≡ Value v = rw x at e in
        let g : NoNumber ≡ Value v = ap small (sym n) ∙ f in
        absurd (let z : ◌≡◌ {A = ℕ} 0 1 = cc in omega arith)

hex : (s : List ℕ) (v : ℕ) → in_base 16 s ≡ Value v → char_number any_character (120 ∷ s) ≡ judge any_character (Value v)
unfolding char_number
hex s v e = ap (judge any_character) e

module _ (text : List ℕ) (from : ℕ) (q : Quick) (some-char : q.c ≢ 0) where
  pub found_decimal : Written 10 text from q → Found text from q
  found_decimal w = record {
    closed = w.closed;
    character = decimal (take (q.end - from) (drop from text)) q.c w.number ∙ judged q.c some-char w.low;
    low = w.low;
  }

  pub found_hex : get_or text from 0 ≡ 120 → Written 16 text (from + 1) q → Found text from q
  found_hex x w =
      let d = w.closed in
      record {
        closed = record {
          past = omega (arith, d.past);
          inside = d.inside;
          semicolon = d.semicolon;
          none = λ k g l. go k (ltb from k) refl g l;
        };
        character =
            ap (char_number any_character) (part_first text from q.end (omega (arith, d.past)) (omega (arith, d.inside)) ∙ ap (λ (b : ℕ). b ∷ take (q.end - (from + 1)) (drop (from + 1) text)) x)
            ∙ hex (take (q.end - (from + 1)) (drop (from + 1) text)) q.c w.number
            ∙ judged q.c some-char w.low;
        low = w.low;
      }
    where
      go : (k : ℕ) (t : Bool) → ltb from k ≡ t → from ≤ k → k < q.end → (get_or text k 0 ≢ 59) × (get_or text k 0 ≢ 38)
      go k true e g l = w.closed.none k (omega (arith, ltb-true from k e)) l
      go k false e g l =
          let z : k ≡ from = omega (arith, ltb-false from k e) in
          rw z ((λ y. absurd (omega (arith, x, y))), λ y. absurd (omega (arith, x, y)))

-- the same of digits that may have been read
pub quickly_hex : (text : List ℕ) (from : ℕ) (r : std.Option Quick) → get_or text from 0 ≡ 120
    → IfSome r (λ q. (q.c ≢ 0) × Written 16 text (from + 1) q) → Quickly text from r
quickly_hex text from (std.Some q) x w = (w.0, found_hex text from q w.0 x w.1)
quickly_hex text from std.None x w = tt

pub quickly_decimal : (text : List ℕ) (from : ℕ) (r : std.Option Quick)
    → IfSome r (λ q. (q.c ≢ 0) × Written 10 text from q) → Quickly text from r
quickly_decimal text from (std.Some q) w = (w.0, found_decimal text from q w.0 w.1)
quickly_decimal text from std.None w = tt
