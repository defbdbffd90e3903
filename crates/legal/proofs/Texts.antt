-- Texts in which no fault begins: two joined are one where the first is whole characters (`legal_append`), the bytes of a character that may
-- stand are one (`legal_encoded`); and the same said by index (`legal_clean`, `clean_legal`). Assumes nothing.
use mathlib.Core.Path.{◌≡◌, refl, sym, ap, ◌∙◌}
use mathlib.Core.Bool.{Bool, true, false, not, true≢false}
use mathlib.Core.Option.{some}
use mathlib.Core.List.{List, [], ◌∷◌, ◌++◌}
use Prim.Native.Nat.{ℕ, zero, suc, ◌+◌, ◌/◌, ◌%◌, ◌≤◌, ◌<◌, zero-le, suc-le-suc}
use native.Mathlib.Omega.{arith}
use native.Mathlib.Nat.{le_refl, not-suc-le-zero, le_of_suc-le-suc}
use lib.ListN.{length, drop}
use Rattle.text.specs.Bytes.{pick, within}
use Rattle.text.specs.Utf8.{State, between, one, two, three, after_e0, after_ed, after_f0, after_f4, broken, next, after, is_between, WellFormed}
use Rattle.text.proofs.Bytes.{contrary, inside, within_low, within_top}
use Rattle.text.proofs.Utf8.{is_between_lem, never_between}
use Rattle.charref.specs.CharRef.{encode}
use Rattle.charref.proofs.Encoding.{by_size}
use Rattle.legal.specs.Legal.{bits, char_from, refuses, fault_at}
use Rattle.legal.specs.FirstFault.{Clean}
use Rattle.legal.proofs.Decoding.{Waits, waits_one, waits_two, waits_three, waits_e0, waits_ed, waits_f0, waits_f4, fault_encoded, fault_inside}

-- at none of its bytes a fault begins
abbrev pub Legal : (ℕ → Bool) → List ℕ → Type 0
Legal may [] = Unit {0}
Legal may (b ∷ bs) = (fault_at may (b ∷ bs) ≡ false) × Legal may bs

-- ---- what follows whole characters has no say

char_step : (s : State) (n b : ℕ) (bs ys : List ℕ)
    → ((m : ℕ) → is_between (next s b) ≡ false → char_from (next s b) m (bs ++ ys) ≡ char_from (next s b) m bs)
    → char_from s n (b ∷ bs ++ ys) ≡ char_from s n (b ∷ bs)
unfolding char_from
char_step s n b bs ys ih = go (is_between (next s b)) refl
  where
    go : (x : Bool) → is_between (next s b) ≡ x
        → pick x (some (bits s n b)) (char_from (next s b) (bits s n b) (bs ++ ys)) ≡ pick x (some (bits s n b)) (char_from (next s b) (bits s n b) bs)
    go true f = refl
    go false f = ih (bits s n b) f

-- inside of a character
char_tail : (s : State) (xs ys : List ℕ) → after s xs ≡ between → (n : ℕ) → is_between s ≡ false → char_from s n (xs ++ ys) ≡ char_from s n xs
unfolding is_between after
char_tail s [] ys e n f = contrary (ap is_between e) f
char_tail s (b ∷ bs) ys e n f = char_step s n b bs ys (char_tail (next s b) bs ys e)

-- between two
fault_front : (may : ℕ → Bool) (b : ℕ) (bs ys : List ℕ) → after between (b ∷ bs) ≡ between → fault_at may (b ∷ bs ++ ys) ≡ fault_at may (b ∷ bs)
unfolding fault_at after
fault_front may b bs ys e = ap (refuses may) (char_step between 0 b bs ys (char_tail (next between b) bs ys e))

-- a byte inside of a character of a text that ends between two
tail_by : {s t : State} {lo hi : ℕ} → Waits s lo hi t → 0x80 ≤ lo → hi ≤ 0xBF → (b : ℕ) (bs : List ℕ) → after (next s b) bs ≡ between → within 0x80 0xBF b ≡ true
tail_by {s} {t} {lo} {hi} w g h b bs e = go (within lo hi b) refl
  where
    go : (x : Bool) → within lo hi b ≡ x → within 0x80 0xBF b ≡ true
    go true f = inside 0x80 0xBF b (omega (arith, g, within_low lo hi b f)) (omega (arith, h, within_top lo hi b f))
    go false f =
        let q : next s b ≡ broken = w.after b ∙ (rw f) in
        absurd (never_between bs (ap (λ (u : State). after u bs) (sym q) ∙ e))

pub tail_byte : (s : State) (b : ℕ) (bs : List ℕ) → is_between s ≡ false → after (next s b) bs ≡ between → within 0x80 0xBF b ≡ true
unfolding is_between next
tail_byte between b bs f e = absurd (true≢false f)
tail_byte one b bs f e = tail_by waits_one (omega arith) (omega arith) b bs e
tail_byte two b bs f e = tail_by waits_two (omega arith) (omega arith) b bs e
tail_byte three b bs f e = tail_by waits_three (omega arith) (omega arith) b bs e
tail_byte after_e0 b bs f e = tail_by waits_e0 (omega arith) (omega arith) b bs e
tail_byte after_ed b bs f e = tail_by waits_ed (omega arith) (omega arith) b bs e
tail_byte after_f0 b bs f e = tail_by waits_f0 (omega arith) (omega arith) b bs e
tail_byte after_f4 b bs f e = tail_by waits_f4 (omega arith) (omega arith) b bs e
tail_byte broken b bs f e = absurd (never_between bs e)

module _ (may : ℕ → Bool) where
  legal_from : (s : State) (xs ys : List ℕ) → after s xs ≡ between → Legal may xs → Legal may ys → Legal may (xs ++ ys)
  unfolding after
  legal_from s [] ys e h k = k
  legal_from s (b ∷ bs) ys e h k = (go (is_between s) refl, legal_from (next s b) bs ys e h.1 k)
    where
      go : (x : Bool) → is_between s ≡ x → fault_at may (b ∷ bs ++ ys) ≡ false
      go true f =
          let q : s ≡ between = is_between_lem s f in
          fault_front may b bs ys (ap (λ (u : State). after u (b ∷ bs)) (sym q) ∙ e) ∙ h.0
      go false f = fault_inside may b (bs ++ ys) (tail_byte s b bs f e)

  pub legal_append : (xs ys : List ℕ) → WellFormed xs → Legal may xs → Legal may ys → Legal may (xs ++ ys)
  unfolding WellFormed
  legal_append xs ys w h k = legal_from between xs ys w h k

  -- ---- a character that may stand

  module _ (n : ℕ) (p : may n ≡ true) (u : within 0xD800 0xDFFF n ≡ false) (m : n ≤ 1114111) where
    -- no fault begins with its later bytes
    later : (k : ℕ) (bs : List ℕ) → fault_at may ((0x80 + k % 64) ∷ bs) ≡ false
    later k bs = fault_inside may (0x80 + k % 64) bs (inside 0x80 0xBF (0x80 + k % 64) (omega arith) (omega arith))

    pub legal_encoded : Legal may (encode n)
    legal_encoded =
        by_size (λ (l : List ℕ). fault_at may (l ++ []) ≡ false → Legal may l) n
        (λ a h. (h, tt))
        (λ a b h. (h, (later n [], tt)))
        (λ a b h. (h, (later (n / 64) ((0x80 + n % 64) ∷ []), (later n [], tt))))
        (λ a h. (h, (later (n / 4096) ((0x80 + n / 64 % 64) ∷ (0x80 + n % 64) ∷ []), (later (n / 64) ((0x80 + n % 64) ∷ []), (later n [], tt)))))
        (fault_encoded may n [] u m ∙ ap not p)

-- ---- the same by index

module _ (may : ℕ → Bool) where
  pub legal_at : (t : List ℕ) → Legal may t → (k : ℕ) → k < length t → fault_at may (drop k t) ≡ false
  legal_at [] h k l = absurd (not-suc-le-zero l)
  legal_at (b ∷ bs) h zero l = h.0
  legal_at (b ∷ bs) h (suc k) l = legal_at bs h.1 k (le_of_suc-le-suc l)

  pub at_legal : (t : List ℕ) → ((k : ℕ) → k < length t → fault_at may (drop k t) ≡ false) → Legal may t
  at_legal [] f = tt
  at_legal (b ∷ bs) f = (f 0 (suc-le-suc zero-le), at_legal bs (λ k l. f (suc k) (suc-le-suc l)))

  pub legal_clean : (t : List ℕ) → Legal may t → Clean (fault_at may) t 0 (length t)
  legal_clean t h = record { from = zero-le; to = le_refl (length t); none = λ k g l. legal_at t h k l }

  pub clean_legal : (t : List ℕ) → Clean (fault_at may) t 0 (length t) → Legal may t
  clean_legal t c = at_legal t (λ k l. c.none k zero-le l)
