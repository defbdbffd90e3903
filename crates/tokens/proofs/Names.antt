-- Laws of a reference's name: what is known of it after some of its bytes. Assumes nothing.
use mathlib.Core.Path.{◌≡◌, refl, sym, ap, ◌∙◌}
use mathlib.Core.Logic.{◌≢◌}
use mathlib.Core.Bool.{Bool, true, false, ◌&&◌}
use mathlib.Core.List.{List, [], ◌∷◌, ◌++◌, append-nil, append_assoc}
use Prim.Native.Nat.{ℕ, zero, suc, ◌+◌, ◌-◌, ◌≤◌, ◌<◌}
use native.Mathlib.Omega.{arith}
use native.Mathlib.Nat.{le_refl}
use native.Mathlib.Numerals.{add-one}
use lib.Dec.{eqb, ltb}
use lib.ListN.{length, get_or, take, drop, length-drop, drop_of_length-le}
use lib.Seq.{take-suc, drop-cons, get_or-drop}
use borrow.Author.Tests.{eq-eqb, ne_eqb, ltb-true, ltb-false}
use Rattle.charref.specs.Reading.{Closed}
use Rattle.tokens.specs.Tokens.{Name, ended, endless, longer, name_at}
use Rattle.tokens.specs.Walking.{NameEnd}

-- a name with more bytes in front
abbrev joined : List ℕ → Name → Name
joined front (ended name) = ended (front ++ name)
joined front endless = endless

joined_none : (n : Name) → joined [] n ≡ n
joined_none (ended name) = refl
joined_none endless = refl

joined_byte : (front : List ℕ) (b : ℕ) (n : Name) → joined front (longer b n) ≡ joined (front ++ (b ∷ [])) n
joined_byte front b (ended name) = ap ended (sym (append_assoc front (b ∷ []) name))
joined_byte front b endless = refl

module _ (inner : Bool) (text : List ℕ) where
  module _ (i : ℕ) (h : i < length text) where
    here : name_at inner (drop i text) ≡ name_at inner (get_or text i 0 ∷ drop (i + 1) text)
    here = ap (name_at inner) (drop-cons text i 0 h ∙ ap (λ (k : ℕ). get_or text i 0 ∷ drop k text) (sym (add-one i)))

    at_end : get_or text i 0 ≡ 59 → name_at inner (drop i text) ≡ ended []
    unfolding name_at
    at_end e = here ∙ rw (eq-eqb (get_or text i 0) 59 e)

    module _ (e : get_or text i 0 ≢ 59) where
      at_amp : (inner && eqb (get_or text i 0) 38) ≡ true → name_at inner (drop i text) ≡ endless
      unfolding name_at
      at_amp a = here ∙ rw (ne_eqb (get_or text i 0) 59 e, a)

      at_other : (inner && eqb (get_or text i 0) 38) ≡ false → name_at inner (drop i text) ≡ longer (get_or text i 0) (name_at inner (drop (i + 1) text))
      unfolding name_at
      at_other a = here ∙ rw (ne_eqb (get_or text i 0) 59 e, a)

  -- the bytes up to `i` belong to the name that starts at `from`
  pub record Passed (from i : ℕ) : Type 0 where
    pub past : from ≤ i
    pub inside : i ≤ length text
    pub rest : name_at inner (drop from text) ≡ joined (take (i - from) (drop from text)) (name_at inner (drop i text))

  pub passed_start : (from : ℕ) → from ≤ length text → Passed from from
  passed_start from h =
      let z : from - from ≡ 0 = omega arith in
      record { past = le_refl from; inside = h; rest = rw z (sym (joined_none (name_at inner (drop from text)))) }

  module _ {from i : ℕ} (p : Passed from i) where
    -- at the end of the text
    pub passed_over : length text ≤ i → NameEnd inner text from i
    unfolding name_at
    passed_over h = record {
      from = p.past;
      to = p.inside;
      semicolon = λ l. absurd (omega arith);
      name = λ l. absurd (omega arith);
      none = λ q. p.rest ∙ rw (drop_of_length-le text h);
    }

    module _ (h : i < length text) where
      pub passed_end : get_or text i 0 ≡ 59 → NameEnd inner text from i
      passed_end e = record {
        from = p.past;
        to = p.inside;
        semicolon = λ l. e;
        name = λ l. p.rest ∙ rw (at_end i h e, append-nil);
        none = λ q. absurd (omega arith);
      }

      module _ (e : get_or text i 0 ≢ 59) where
        pub passed_amp : (inner && eqb (get_or text i 0) 38) ≡ true → NameEnd inner text from (length text)
        passed_amp a = record {
          from = omega (arith, p.past);
          to = le_refl (length text);
          semicolon = λ l. absurd (omega arith);
          name = λ l. absurd (omega arith);
          none = λ q. p.rest ∙ rw (at_amp i h e a);
        }

        pub passed_byte : (inner && eqb (get_or text i 0) 38) ≡ false → Passed from (i + 1)
        passed_byte a =
            let n : i + 1 - from ≡ suc (i - from) = omega (arith, p.past) in
            let k : from + (i - from) ≡ i = omega (arith, p.past) in
            let b : get_or (drop from text) (i - from) 0 ≡ get_or text i 0 = get_or-drop from text (i - from) 0 ∙ ap (λ (m : ℕ). get_or text m 0) k in
            let t : take (suc (i - from)) (drop from text) ≡ take (i - from) (drop from text) ++ (get_or text i 0 ∷ []) =
            take-suc (drop from text) (i - from) 0 (rw length-drop (omega (arith, p.past)))
            ∙ ap (λ (m : ℕ). take (i - from) (drop from text) ++ (m ∷ [])) b in
            record {
              past = omega (arith, p.past);
              inside = omega arith;
              rest =
                  p.rest
                  ∙ ap (joined (take (i - from) (drop from text))) (at_other i h e a)
                  ∙ joined_byte (take (i - from) (drop from text)) (get_or text i 0) (name_at inner (drop (i + 1) text))
                  ∙ rw (n, t);
            }

-- ---- a name whose `;` is known

no_amp : (inner : Bool) (b : ℕ) → b ≢ 38 → (inner && eqb b 38) ≡ false
no_amp false b h = refl
no_amp true b h = ne_eqb b 38 h

module _ (inner : Bool) (text : List ℕ) where
  pub closed_name : {from e : ℕ} → Closed text from e → NameEnd inner text from e
  closed_name {from} {e} d =
      let k : from + (e - from) ≡ e = omega (arith, d.past) in
      let p : Passed inner text from e = rw k at (go (e - from) (omega (arith, d.past))) in
      passed_end inner text p d.inside d.semicolon
    where
      go : (n : ℕ) → from + n ≤ e → Passed inner text from (from + n)
      go zero h =
          let z : from + 0 ≡ from = omega arith in
          rw z (passed_start inner text from (omega (arith, d.past, d.inside)))
      go (suc n) h =
          let b = d.none (from + n) (omega arith) (omega arith) in
          let z : from + suc n ≡ from + n + 1 = omega arith in
          rw z (passed_byte inner text (go n (omega arith)) (omega (arith, d.inside)) b.0 (no_amp inner (get_or text (from + n) 0) b.1))

  -- with the `#` in front of the number
  pub closed_reference : {start e : ℕ} → get_or text start 0 ≡ 35 → Closed text (start + 1) e → NameEnd inner text start e
  closed_reference {start} {e} b d =
      closed_name (record {
        past = omega (arith, d.past);
        inside = d.inside;
        semicolon = d.semicolon;
        none = λ k g l. go k (ltb start k) refl g l;
      })
    where
      go : (k : ℕ) (t : Bool) → ltb start k ≡ t → start ≤ k → k < e → (get_or text k 0 ≢ 59) × (get_or text k 0 ≢ 38)
      go k true q g l = d.none k (omega (arith, ltb-true start k q)) l
      go k false q g l =
          let z : k ≡ start = omega (arith, ltb-false start k q) in
          rw z ((λ y. absurd (omega (arith, b, y))), λ y. absurd (omega (arith, b, y)))
