-- A reader of UTF-8 before a text in which no fault begins (`Good`): with one byte more before the text (`good_cons`), one less
-- (`good_tail`), or whole characters more (`good_append`). Assumes nothing.
use mathlib.Core.Path.{◌≡◌, refl, sym, ap, ◌∙◌}
use mathlib.Core.Bool.{Bool, true, false, not}
use mathlib.Core.Option.{some}
use mathlib.Core.List.{List, ◌∷◌, ◌++◌}
use Prim.Native.Nat.{ℕ}
use Rattle.text.specs.Bytes.{pick, within}
use Rattle.text.specs.Utf8.{State, between, next, after, is_between, WellFormed}
use Rattle.text.proofs.Bytes.{contrary}
use Rattle.text.proofs.Utf8.{is_between_lem, after_append}
use Rattle.legal.specs.Legal.{bits, char_from, refuses, fault_at}
use Rattle.legal.proofs.Decoding.{fault_inside}
use Rattle.legal.proofs.Texts.{Legal, legal_append, tail_byte}

not_false : (t : Bool) → not t ≡ false → t ≡ true
not_false true e = refl
not_false false e = sym e

-- before a byte that is inside of no character a reader stands between two
pub lead_between : (s : State) (b : ℕ) (bs : List ℕ) → within 0x80 0xBF b ≡ false → after (next s b) bs ≡ between → s ≡ between
lead_between s b bs e h = go (is_between s) refl
  where
    go : (x : Bool) → is_between s ≡ x → s ≡ between
    go true f = is_between_lem s f
    go false f = contrary (tail_byte s b bs f h) e

-- between two characters the bits so far have no say
start : (s : State) (n b : ℕ) (bs : List ℕ) → s ≡ between → char_from s n (b ∷ bs) ≡ char_from between 0 (b ∷ bs)
unfolding char_from bits is_between
start s n b bs e = rw e refl

module _ (may : ℕ → Bool) where
  -- inside of a character with those bits so far: the character that the text completes may stand
  abbrev pub Pending : State → ℕ → List ℕ → Type 0
  Pending s n t = is_between s ≡ false → refuses may (char_from s n t) ≡ false

  -- and the text goes on in whole characters that may stand
  pub record Good (s : State) (n : ℕ) (t : List ℕ) : Type 0 where
    pub whole : after s t ≡ between
    pub pending : Pending s n t
    pub legal : Legal may t

  -- a character that the byte completes may stand
  abbrev pub Completes : State → ℕ → ℕ → Type 0
  Completes s n b = is_between (next s b) ≡ true → may (bits s n b) ≡ true

  promised : (s : State) (n b : ℕ) (bs : List ℕ) → Pending s n (b ∷ bs) → fault_at may (b ∷ bs) ≡ false → refuses may (char_from s n (b ∷ bs)) ≡ false
  unfolding fault_at
  promised s n b bs p e = go (is_between s) refl
    where
      go : (x : Bool) → is_between s ≡ x → refuses may (char_from s n (b ∷ bs)) ≡ false
      go true f = ap (refuses may) (start s n b bs (is_between_lem s f)) ∙ e
      go false f = p f

  -- past the byte
  pub onward : (s : State) (n b : ℕ) (bs : List ℕ) → Pending s n (b ∷ bs) → fault_at may (b ∷ bs) ≡ false → Completes s n b × Pending (next s b) (bits s n b) bs
  unfolding char_from
  onward s n b bs p e =
      let h = promised s n b bs p e in
      (λ f. not_false (may (bits s n b)) (rw f at h), λ f. rw f at h)

  backward : (s : State) (n b : ℕ) (bs : List ℕ) → Completes s n b → Pending (next s b) (bits s n b) bs → refuses may (char_from s n (b ∷ bs)) ≡ false
  unfolding char_from
  backward s n b bs c p = go (is_between (next s b)) refl
    where
      go : (x : Bool) → is_between (next s b) ≡ x → refuses may (pick x (some (bits s n b)) (char_from (next s b) (bits s n b) bs)) ≡ false
      go true f = ap not (c f)
      go false f = p f

  pub good_cons : (s : State) (n b : ℕ) (bs : List ℕ) → Completes s n b → (is_between s ≡ false → within 0x80 0xBF b ≡ true)
      → Good (next s b) (bits s n b) bs → Good s n (b ∷ bs)
  unfolding after fault_at
  good_cons s n b bs c tail g =
      record { whole = g.whole; pending = λ f. backward s n b bs c g.pending; legal = (go (is_between s) refl, g.legal) }
    where
      go : (x : Bool) → is_between s ≡ x → fault_at may (b ∷ bs) ≡ false
      go true f = ap (refuses may) (sym (start s n b bs (is_between_lem s f))) ∙ backward s n b bs c g.pending
      go false f = fault_inside may b bs (tail f)

  pub good_tail : (s : State) (n b : ℕ) (bs : List ℕ) → Good s n (b ∷ bs) → Completes s n b × Good (next s b) (bits s n b) bs
  unfolding after
  good_tail s n b bs g =
      let o = onward s n b bs g.pending g.legal.0 in
      (o.0, record { whole = g.whole; pending = o.1; legal = g.legal.1 })

  -- between two characters nothing is pending
  pub good_start : (s : State) (n : ℕ) (t : List ℕ) → s ≡ between → after between t ≡ between → Legal may t → Good s n t
  unfolding is_between
  good_start s n t e w l = record { whole = ap (λ (x : State). after x t) e ∙ w; pending = λ f. contrary (ap is_between e) f; legal = l }

  pub good_append : (xs ys : List ℕ) → WellFormed xs → Legal may xs → (s : State) (n m : ℕ) → s ≡ between → Good between m ys → Good s n (xs ++ ys)
  unfolding WellFormed
  good_append xs ys w l s n m e g =
      good_start s n (xs ++ ys) e (after_append between xs ys ∙ ap (λ (x : State). after x ys) w ∙ g.whole) (legal_append may xs ys w l g.legal)
