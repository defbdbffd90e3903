-- What is ASCII in a text reads alike on bytes and on characters: the ends of names, the name `amp`, character numbers. Assumes nothing.
use mathlib.Core.Path.{◌≡◌, refl, ap, sym, ◌∙◌}
use Prim.Native.Nat.{ℕ, suc, ◌+◌, ◌*◌, ◌≤◌, ◌<◌}
use native.Mathlib.Omega.{arith}
use mathlib.Core.Bool.{Bool, true, false}
use mathlib.Core.List.{List, [], ◌∷◌, ◌++◌, append_assoc}
use lib.ListN.{length}
use lib.Dec.{eqb, ltb, lit≤}
use borrow.Author.Tests.{eqb-true, ltb-true, ltb-false}
use Rattle.text.specs.Bytes.{pick, same_bytes}
use Rattle.charref.specs.CharRef.{digit_value, number_from, in_base, judge, char_number, encode}
use Rattle.charref.specs.CharNumbers.{CharNumber}
use Rattle.charref.proofs.Encoding.{encode_1, encode_at_least}
use Rattle.charref.proofs.Apart.{AllApart, encode_apart, apart_append, encode_high, from_high, from_high_all, base_high, base_high_all, number_apart}
use Rattle.charref.proofs.Numbers.{number_step, number_stop_lem}
use Rattle.tokens.specs.Tokens.{Stop, number, named, stop, head, ended, endless, name_at, reference_to}
use Rattle.demands.specs.Characters.{encode_all}

pub encode_append : (xs ys : List ℕ) → encode_all (xs ++ ys) ≡ encode_all xs ++ encode_all ys
unfolding encode_all
encode_append [] ys = refl
encode_append (c ∷ cs) ys = ap (λ (l : List ℕ). encode c ++ l) (encode_append cs ys) ∙ sym (append_assoc (encode c) (encode_all cs) (encode_all ys))

-- ---- an ASCII character is in the bytes only where it is in the characters

pub all_apart : (x : ℕ) (cs : List ℕ) → x < 0x80 → AllApart x cs → AllApart x (encode_all cs)
unfolding encode_all
all_apart x [] h a = tt
all_apart x (c ∷ cs) h a = apart_append x (encode c) (encode_all cs) (encode_apart x c h a.0) (all_apart x cs h a.1)

-- ---- names

pub name_ends : (w rest : List ℕ) → AllApart 59 w → name_at false (w ++ 59 ∷ rest) ≡ ended w
unfolding name_at
name_ends [] rest a = refl
name_ends (b ∷ bs) rest a = rw (a.0, name_ends bs rest a.1)

pub name_endless : (w : List ℕ) → AllApart 59 w → name_at false w ≡ endless
unfolding name_at
name_endless [] a = refl
name_endless (b ∷ bs) a = rw (a.0, name_endless bs a.1)

-- the stop of a reference with that text
abbrev pub stop_of : ℕ → List ℕ → Stop
stop_of offset [] = named offset []
stop_of offset (c ∷ cs) = pick (eqb c 35) (number (encode_all cs)) (named offset (encode_all (c ∷ cs)))

refer_apart : (o : ℕ) (w rest all : List ℕ) → AllApart 35 w → 1 ≤ length w → reference_to o (w ++ rest) all ≡ head (stop (named o all)) (suc (length all))
unfolding reference_to
refer_apart o [] rest all a h = absurd (omega arith)
refer_apart o (b ∷ bs) rest all a h = rw a.0

refer_first : (o c : ℕ) (cs : List ℕ) (t : Bool) → eqb c 35 ≡ t
    → reference_to o (encode c ++ encode_all cs) (encode c ++ encode_all cs)
    ≡ head (stop (pick t (number (encode_all cs)) (named o (encode c ++ encode_all cs)))) (suc (length (encode c ++ encode_all cs)))
unfolding encode
refer_first o c cs true e = rw (eqb-true c 35 e) (unfold reference_to in refl)
refer_first o c cs false e = refer_apart o (encode c) (encode_all cs) (encode c ++ encode_all cs) (encode_apart 35 c (lit≤ tt) e) (encode_at_least c)

pub refer_head : (o : ℕ) (name : List ℕ) → reference_to o (encode_all name) (encode_all name) ≡ head (stop (stop_of o name)) (suc (length (encode_all name)))
unfolding encode_all
refer_head o [] = unfold reference_to in refl
refer_head o (c ∷ cs) = refer_first o c cs (eqb c 35) refl

-- ---- ASCII words

abbrev pub Ascii : List ℕ → Type 0
Ascii [] = Unit {0}
Ascii (x ∷ xs) = (x < 0x80) × Ascii xs

same_long : (w rest : List ℕ) → 1 ≤ length w → same_bytes (w ++ rest) [] ≡ false
same_long [] rest h = absurd (omega arith)
same_long (b ∷ bs) rest h = refl

same_apart : (x : ℕ) (w rest xs : List ℕ) → AllApart x w → 1 ≤ length w → same_bytes (w ++ rest) (x ∷ xs) ≡ false
same_apart x [] rest xs a h = absurd (omega arith)
same_apart x (b ∷ bs) rest xs a h = rw a.0

pub same_ascii : (name p : List ℕ) → Ascii p → same_bytes (encode_all name) p ≡ same_bytes name p
unfolding encode_all
same_ascii [] [] h = refl
same_ascii [] (x ∷ xs) h = refl
same_ascii (c ∷ cs) [] h = same_long (encode c) (encode_all cs) (encode_at_least c)
same_ascii (c ∷ cs) (x ∷ xs) h = go (same_ascii cs xs h.1) (eqb c x) refl
  where
    go : same_bytes (encode_all cs) xs ≡ same_bytes cs xs → (t : Bool) → eqb c x ≡ t → same_bytes (encode c ++ encode_all cs) (x ∷ xs) ≡ same_bytes (c ∷ cs) (x ∷ xs)
    go ih true e = let k = eqb-true c x e in let lo = h.0 in rw (encode_1 c (omega arith), ih)
    go ih false e = same_apart x (encode c) (encode_all cs) xs (encode_apart x c h.0 e) (encode_at_least c) ∙ sym (rw e)

-- ---- character numbers

module _ (base : ℕ) (small-base : base ≤ 16) where
  from_low : (n c : ℕ) (xs ys : List ℕ) → ((k : ℕ) → number_from base k xs ≡ number_from base k ys) → (t : Bool) → ltb (digit_value c) base ≡ t
      → number_from base n (c ∷ xs) ≡ number_from base n (c ∷ ys)
  from_low n c xs ys h true e =
      let l = ltb-true (digit_value c) base e in
      number_step base n c xs l ∙ h (base * n + digit_value c) ∙ sym (number_step base n c ys l)
  from_low n c xs ys h false e =
      let l = ltb-false (digit_value c) base e in
      number_stop_lem base n c xs l ∙ sym (number_stop_lem base n c ys l)

  from_same : (ds : List ℕ) (n : ℕ) → number_from base n (encode_all ds) ≡ number_from base n ds
  unfolding encode_all
  from_same [] n = refl
  from_same (c ∷ cs) n = go (λ k. from_same cs k) (ltb c 0x80) refl
    where
      go : ((k : ℕ) → number_from base k (encode_all cs) ≡ number_from base k cs) → (t : Bool) → ltb c 0x80 ≡ t → number_from base n (encode c ++ encode_all cs) ≡ number_from base n (c ∷ cs)
      go ih true e = rw (encode_1 c (ltb-true c 0x80 e)) (from_low n c (encode_all cs) cs ih (ltb (digit_value c) base) refl)
      go ih false e =
          from_high_all base small-base n (encode c) (encode_all cs) (encode_high c (ltb-false c 0x80 e)) (encode_at_least c)
          ∙ sym (from_high base small-base n c cs (ltb-false c 0x80 e))

  base_low : (c : ℕ) (xs ys : List ℕ) → number_from base 0 (c ∷ xs) ≡ number_from base 0 (c ∷ ys) → in_base base (c ∷ xs) ≡ in_base base (c ∷ ys)
  unfolding in_base
  base_low c xs ys e = rw e

  base_same : (ds : List ℕ) → in_base base (encode_all ds) ≡ in_base base ds
  unfolding encode_all
  base_same [] = refl
  base_same (c ∷ cs) = go (ltb c 0x80) refl
    where
      go : (t : Bool) → ltb c 0x80 ≡ t → in_base base (encode c ++ encode_all cs) ≡ in_base base (c ∷ cs)
      go true e =
          let q = encode_1 c (ltb-true c 0x80 e) in
          rw q (base_low c (encode_all cs) cs (rw q at (from_same (c ∷ cs) 0)))
      go false e =
          base_high_all base small-base (encode c) (encode_all cs) (encode_high c (ltb-false c 0x80 e)) (encode_at_least c)
          ∙ sym (base_high base small-base c cs (ltb-false c 0x80 e))

module _ (legal : ℕ → CharNumber) where
  number_first : (c : ℕ) (cs : List ℕ) (t : Bool) → eqb c 120 ≡ t → char_number legal (encode c ++ encode_all cs) ≡ judge legal (pick t (in_base 16 cs) (in_base 10 (c ∷ cs)))
  number_first c cs true e = rw (eqb-true c 120 e) (unfold encode in unfold char_number in ap (judge legal) (base_same 16 (lit≤ tt) cs))
  number_first c cs false e =
      number_apart legal (encode c) (encode_all cs) (encode_apart 120 c (lit≤ tt) e) (encode_at_least c)
      ∙ ap (judge legal) (unfold encode_all in base_same 10 (lit≤ tt) (c ∷ cs))

  pub number_same : (ds : List ℕ) → char_number legal (encode_all ds) ≡ char_number legal ds
  unfolding encode_all char_number
  number_same [] = refl
  number_same (c ∷ cs) = number_first c cs (eqb c 120) refl
