-- UTF-8 is kept: what is made of a UTF-8 text is UTF-8; the bytes before a refusal are not asked. An instance of what is carried, with
-- the heads of references. Assumes nothing.
use mathlib.Core.Path.{◌≡◌, refl, ap, sym, ◌∙◌}
use Prim.Native.Nat.{ℕ, suc}
use mathlib.Core.Bool.{Bool, ◌&&◌}
use mathlib.Core.List.{List, [], ◌∷◌, ◌++◌}
use lib.ListN.{length, drop}
use lib.Dec.{eqb}
use borrow.Author.Tests.{eqb-true}
use Rattle.text.specs.Utf8.{State, between, next, after, WellFormed}
use Rattle.text.proofs.Bytes.{pick_by, pick_both}
use Rattle.text.proofs.Utf8.{after_append, settle, settled, next_ascii}
use Rattle.charref.specs.CharRef.{char_number, any_character, encode}
use Rattle.charref.specs.CharNumbers.{CharNumber}
use Rattle.charref.specs.CharNumbers.{Char}
use Rattle.charref.proofs.Numbers.{Character, legal_character}
use Rattle.charref.proofs.Encoding.{encode_well_formed}
use Rattle.tokens.specs.Tokens.{kept, space, number, named, unterminated, Token, copy, stop, barred, Head, head, Name, ended, endless, longer, name_at, reference_at}
use Rattle.tokens.specs.Outcome.{Outcome, done, refused, prepend, followed}
use Rattle.tokens.proofs.Carried.{Carried, Moves}

-- a value brings a reader of UTF-8 from one state to another
abbrev pub Brings : State → State → Outcome → Type 0
Brings s s' (done value m) = after s value ≡ s'
Brings s s' (refused before m why first second) = Unit {0}

brings_prepend : (s s' s'' : State) (front : List ℕ) (o : Outcome) → after s front ≡ s' → Brings s' s'' o → Brings s s'' (prepend front o)
brings_prepend s s' s'' front (done value m) e h = after_append s front value ∙ ap (λ (x : State). after x value) e ∙ h
brings_prepend s s' s'' front (refused before m why first second) e h = tt

pub brings_joined : (s s' s'' : State) (o : Outcome) (rest : ℕ → Outcome) → Brings s s' o → ((m : ℕ) → Brings s' s'' (rest m)) → Brings s s'' (followed o rest)
brings_joined s s' s'' (done value m) rest e h = brings_prepend s s' s'' value (rest m) e (h m)
brings_joined s s' s'' (refused before m why first second) rest e h = tt

-- where a token leaves a reader: a reference stands between characters
abbrev pub Leaves : State → Token → State → Type 0
Leaves s (copy c) s' = next s c ≡ s'
Leaves s (stop (kept c)) s' = next s c ≡ s'
Leaves s (stop space) s' = settle s ≡ s'
Leaves s (stop (number digits)) s' = (s ≡ between) × (s' ≡ between)
Leaves s (stop (named offset name)) s' = (s ≡ between) × (s' ≡ between)
Leaves s (stop (unterminated offset end)) s' = Unit {0}
Leaves s (barred o) s' = Unit {0}

pub one_byte : (s s' : State) (c : ℕ) → next s c ≡ s' → after s (c ∷ []) ≡ s'
unfolding after
one_byte s s' c e = e

pub one_space : (s s' : State) → settle s ≡ s' → after s (32 ∷ []) ≡ s'
unfolding after
one_space s s' e = next_ascii s 32 refl ∙ e

-- a well-formed text stands for a reference
pub between_brings : (s s' : State) (value : List ℕ) → (s ≡ between) × (s' ≡ between) → WellFormed value → after s value ≡ s'
unfolding WellFormed
between_brings s s' value l h = ap (λ (x : State). after x value) l.0 ∙ h ∙ sym l.1

-- for every rule that names no other character than the one it is asked for
module _ (legal : ℕ → CharNumber) (own : (m n : ℕ) → legal m ≡ Char n → m ≡ n) where
  pub number_well_formed : (digits : List ℕ) (c : ℕ) → char_number legal digits ≡ Char c → WellFormed (encode c)
  number_well_formed digits c e =
      let h : Character c = legal_character legal own digits c e in
      encode_well_formed c h.no_surrogate h.most

  abbrev pub utf8 : Carried legal
  utf8 =
      record {
        Place = State;
        end = between;
        Stands = λ s t. after s t ≡ between;
        Leads = Leaves;
        Holds = λ s s' n o. Brings s s' o;
        nothing = λ s h n. h;
        refusal = λ s s' n why first second. tt;
        joined = λ s s' s'' n o rest e h. brings_joined s s' s'' o rest e h;
        copies = λ s s' c l n. one_byte s s' c l;
        keeps = λ s s' c l n. one_byte s s' c l;
        spaces = λ s s' l n. one_space s s' l;
        numbers = λ s s' digits c l e n. between_brings s s' (encode c) l (number_well_formed digits c e);
      }

-- the rule that lets every character pass is such a rule
pub any_own : (m n : ℕ) → any_character m ≡ Char n → m ≡ n
any_own m n e = cc

-- ---- heads: a token leaves a reader where the bytes after it begin

-- of a head of a text that a reader in that state finds whole
pub record Onwards (s : State) (t : Token) (rest : List ℕ) : Type 0 where
  pub to : State
  pub leaves : Leaves s t to
  pub whole : after to rest ≡ between

abbrev pub Whole : State → ℕ → List ℕ → Head → Type 0
Whole s b bs (head t skip) = after s (b ∷ bs) ≡ between → Onwards s t (drop skip bs)

-- a name that ends is what stands before a `;`
abbrev Splits : List ℕ → Name → Type 0
Splits bs (ended name) = bs ≡ name ++ 59 ∷ drop (suc (length name)) bs
Splits bs endless = Unit {0}

longer_splits : (b : ℕ) (bs : List ℕ) (n : Name) → Splits bs n → Splits (b ∷ bs) (longer b n)
longer_splits b bs (ended name) h = ap (λ (l : List ℕ). b ∷ l) h
longer_splits b bs endless h = tt

name_splits : (inner : Bool) (bs : List ℕ) → Splits bs (name_at inner bs)
unfolding name_at
name_splits inner [] = tt
name_splits inner (b ∷ bs) =
    pick_by (Splits (b ∷ bs)) (eqb b 59) {a = ended []} (λ e. ap (λ (x : ℕ). x ∷ bs) (eqb-true b 59 e)) λ e.
    pick_both (Splits (b ∷ bs)) (inner && eqb b 38) {a = endless} tt (longer_splits b bs (name_at inner bs) (name_splits inner bs))

-- the reader stands between characters before a reference and after it
past_name : (s : State) (bs name : List ℕ) → bs ≡ name ++ 59 ∷ drop (suc (length name)) bs → after s (38 ∷ bs) ≡ between
    → (s ≡ between) × (after between (drop (suc (length name)) bs) ≡ between)
unfolding after
past_name s bs name e h =
    let p = settled s bs (ap (λ (x : State). after x bs) (sym (next_ascii s 38 refl)) ∙ h) in
    let rest = drop (suc (length name)) bs in
    let q : after (settle (after between name)) rest ≡ between =
    ap (λ (x : State). after x rest) (sym (next_ascii (after between name) 59 refl))
    ∙ sym (after_append between name (59 ∷ rest)) ∙ sym (ap (after between) e) ∙ p.1 in
    (p.0, (settled (after between name) rest q).1)

ended_whole : (s : State) (offset : ℕ) (bs : List ℕ) (n : Name) → Splits bs n → Whole s 38 bs (reference_at offset bs n)
unfolding reference_at after
ended_whole s offset bs (ended []) h = λ e. let p = past_name s bs [] h e in record { to = between; leaves = (p.0, refl); whole = p.1 }
ended_whole s offset bs (ended (c ∷ cs)) h =
    pick_both (Whole s 38 bs) (eqb c 35)
    {a = head (stop (number cs)) (suc (length (c ∷ cs)))}
    {b = head (stop (named offset (c ∷ cs))) (suc (length (c ∷ cs)))}
    (λ e. let p = past_name s bs (c ∷ cs) h e in record { to = between; leaves = (p.0, refl); whole = p.1 })
    (λ e. let p = past_name s bs (c ∷ cs) h e in record { to = between; leaves = (p.0, refl); whole = p.1 })
ended_whole s offset bs endless h = λ e. record { to = next s 38; leaves = tt; whole = e }

pub reference_whole : (inner : Bool) (s : State) (offset : ℕ) (bs : List ℕ) → Whole s 38 bs (reference_at offset bs (name_at inner bs))
reference_whole inner s offset bs = ended_whole s offset bs (name_at inner bs) (name_splits inner bs)

pub whole_moves : (legal : ℕ → CharNumber) (own : (m n : ℕ) → legal m ≡ Char n → m ≡ n) (s : State) (b : ℕ) (bs : List ℕ) (z : Head)
    → Whole s b bs z → after s (b ∷ bs) ≡ between → Moves (utf8 legal own) s bs z
whole_moves legal own s b bs (head t skip) w h = let o = w h in record { to = o.to; leads = o.leaves; stands = o.whole }
