-- Document 02, K8: in a strictly accepted value every character matches Char (`strict_legal`). Carried along every walk: before whatever
-- goes on in whole characters that may stand, the bytes made so far are such. Assumes nothing.
use mathlib.Core.Path.{◌≡◌, refl, sym, ap, subst, ◌∙◌}
use Prim.Native.Nat.{ℕ, zero, suc, ◌<◌}
use native.Mathlib.Omega.{arith}
use mathlib.Core.Bool.{Bool, true, false, not, ◌||◌}
use mathlib.Core.Option.{Option, none, some}
use mathlib.Core.List.{List, [], ◌∷◌, ◌++◌, append_assoc, append-nil}
use lib.ListN.{length, drop}
use lib.Dec.{eqb}
use Rattle.text.specs.Bytes.{pick}
use Rattle.text.specs.Version.{Rule, xml10, xml11}
use Rattle.text.specs.Utf8.{State, between, next, after, is_between, WellFormed}
use Rattle.text.proofs.Bytes.{pick_by, pick_both, and_left, contrary, below}
use Rattle.text.proofs.Utf8.{settled, ascii_well_formed}
use Rattle.charref.specs.CharRef.{char_number, encode}
use Rattle.charref.specs.CharNumbers.{CharNumber}
use Rattle.charref.specs.CharNumbers.{Char, Forbidden}
use Rattle.charref.proofs.Numbers.{legal_character}
use Rattle.charref.proofs.Rules.{char_given}
use Rattle.legal.specs.Legal.{is_char, is_restricted, in_value, in_table, may_stand, bits, char_from, refuses, fault_at}
use Rattle.legal.proofs.Texts.{Legal, legal_encoded, tail_byte}
use Rattle.legal.proofs.Readers.{Pending, Good, onward, good_cons, good_start, good_append}
use Rattle.eols.specs.LineEnds.{line_end}
use Rattle.entity.specs.Binding.{Bound, GoodBound}
use Rattle.tokens.specs.Tokens.{kept, space, number, named, unterminated, Token, copy, stop, barred, Head, head, Heads, Name, ended, endless, name_at, reference_at}
use Rattle.tokens.specs.Outcome.{Outcome, done, refused, prepend, followed}
use Rattle.tokens.proofs.Carried.{Carried, Onward, Moves, Moving}
use Rattle.tokens.proofs.WellFormedness.{utf8, number_well_formed}
use Rattle.attribute.specs.Heads.{space_or, other_head, attribute_head, past_head}
use Rattle.attribute.specs.Walk.{Settings, walk, normalize, inner_head, reading}
use Rattle.attribute.specs.Strict.{barring, only_char, strictly}
use Rattle.attribute.proofs.Walked.{Opening, walk_carried}
use Rattle.attribute.proofs.Heads.{attribute_utf8, inner_utf8}

-- ---- a head that copies its byte covers that byte alone

abbrev Copies : ℕ → Head → Type 0
Copies b (head (copy c) k) = (c ≡ b) × (k ≡ 0)
Copies b (head (stop (kept c)) k) = (c ≡ b) × (k ≡ 0)
Copies b (head (stop space) k) = Unit {0}
Copies b (head (stop (number digits)) k) = Unit {0}
Copies b (head (stop (named offset name)) k) = Unit {0}
Copies b (head (stop (unterminated offset end)) k) = Unit {0}
Copies b (head (barred offset) k) = Unit {0}

reference_copies : (b offset : ℕ) (bs : List ℕ) (n : Name) → Copies b (reference_at offset bs n)
unfolding reference_at
reference_copies b offset bs (ended []) = tt
reference_copies b offset bs (ended (c ∷ cs)) =
    pick_both (Copies b) (eqb c 35) {a = head (stop (number cs)) (suc (length (c ∷ cs)))} {b = head (stop (named offset (c ∷ cs))) (suc (length (c ∷ cs)))} tt tt
reference_copies b offset bs endless = tt

space_copies : (b w : ℕ) (other : Head) → Copies b other → Copies b (space_or w other)
unfolding space_or
space_copies b zero other h = h
space_copies b (suc w) other h = tt

other_copies : (r : Rule) (b : ℕ) → Copies b (other_head r b)
unfolding other_head
other_copies xml10 b = (refl, refl)
other_copies xml11 b = pick_both (Copies b) (eqb b 0xC2 || eqb b 0xE2) {a = head (stop (kept b)) 0} {b = head (copy b) 0} (refl, refl) (refl, refl)

attribute_copies : (r : Rule) (offset b : ℕ) (bs : List ℕ) → Copies b (attribute_head r offset b bs)
unfolding attribute_head
attribute_copies r offset b bs =
    pick_both (Copies b) (eqb b 38) (reference_copies b offset bs (name_at false bs))
    (pick_both (Copies b) (eqb b 9) {a = head (stop space) 0} tt (space_copies b (line_end r (b ∷ bs)) (other_head r b) (other_copies r b)))

past_copies : (offset b : ℕ) (bs : List ℕ) → Copies b (past_head offset b bs)
unfolding past_head
past_copies offset b bs =
    pick_both (Copies b) (eqb b 38) (reference_copies b offset bs (name_at false bs))
    (pick_both (Copies b) (eqb b 9 || eqb b 10 || eqb b 13) {a = head (stop space) 0} {b = head (copy b) 0} tt (refl, refl))

inner_copies : (past : Bool) (r : Rule) (offset b : ℕ) (bs : List ℕ) → Copies b (inner_head past r offset b bs)
unfolding inner_head
inner_copies false r offset b bs = attribute_copies r offset b bs
inner_copies true r offset b bs = past_copies offset b bs

-- ---- what is carried

-- where a reader of UTF-8 stands, with the bits of its character so far; `lost` past a refusal
data Spot : Type 0 where
  spot : State → ℕ → Spot
  lost : Spot

module _ (may : ℕ → Bool) where
  abbrev GoodAt : Spot → List ℕ → Type 0
  GoodAt (spot s n) t = Good may s n t
  GoodAt lost t = Unit {0}

  abbrev StandsAt : Spot → List ℕ → Type 0
  StandsAt (spot s n) t = (after s t ≡ between) × Pending may s n t
  StandsAt lost t = Unit {0}

  -- bytes from one spot to another, before whatever is good there
  abbrev Extends : Spot → List ℕ → Spot → Type 0
  Extends x value y = (rest : List ℕ) → GoodAt y rest → GoodAt x (value ++ rest)

  -- any whole characters that may stand
  abbrev TakesAny : Spot → Spot → Type 0
  TakesAny x y = (value : List ℕ) → WellFormed value → Legal may value → Extends x value y

  abbrev LeadsTo : Spot → Token → Spot → Type 0
  LeadsTo x (copy c) y = Extends x (c ∷ []) y
  LeadsTo x (stop (kept c)) y = Extends x (c ∷ []) y
  LeadsTo x (stop space) y = Extends x (32 ∷ []) y
  LeadsTo x (stop (number digits)) y = TakesAny x y
  LeadsTo x (stop (named offset name)) y = TakesAny x y
  LeadsTo x (stop (unterminated offset end)) y = Unit {0}
  LeadsTo x (barred o) y = Unit {0}

  abbrev Made : Spot → Spot → Outcome → Type 0
  Made x y (done value m) = Extends x value y
  Made x y (refused before m why first second) = Unit {0}

  made_prepend : (x y z : Spot) (front : List ℕ) (o : Outcome) → Extends x front y → Made y z o → Made x z (prepend front o)
  made_prepend x y z front (done value m) e h = λ rest g. subst (GoodAt x) (sym (append_assoc front value rest)) (e (value ++ rest) (h rest g))
  made_prepend x y z front (refused before m why first second) e h = tt

  made_joined : (x y z : Spot) (o : Outcome) (rest : ℕ → Outcome) → Made x y o → ((m : ℕ) → Made y z (rest m)) → Made x z (followed o rest)
  made_joined x y z (done value m) rest e h = made_prepend x y z value (rest m) e (h m)
  made_joined x y z (refused before m why first second) rest e h = tt

  made_nothing : (x : Spot) → StandsAt x [] → Extends x [] (spot between 0)
  unfolding after
  made_nothing (spot s n) h rest g = good_start may s n rest h.0 g.whole g.legal
  made_nothing lost h rest g = tt

  lost_leads : (t : Token) → LeadsTo lost t lost
  lost_leads (copy c) = λ rest g. tt
  lost_leads (stop (kept c)) = λ rest g. tt
  lost_leads (stop space) = λ rest g. tt
  lost_leads (stop (number digits)) = λ value w l rest g. tt
  lost_leads (stop (named offset name)) = λ value w l rest g. tt
  lost_leads (stop (unterminated offset end)) = tt
  lost_leads (barred o) = tt

  takes_any : (s : State) (n : ℕ) → s ≡ between → TakesAny (spot s n) (spot between 0)
  takes_any s n e value w l rest g = good_append may value rest w l s n 0 e g

  nothing_pending : (n : ℕ) (t : List ℕ) → Pending may between n t
  unfolding is_between
  nothing_pending n t f = contrary refl f

  ascii_legal : (b : ℕ) → may b ≡ true → b < 0x80 → Legal may (encode b)
  ascii_legal b e h = legal_encoded may b e (below 0xD800 0xDFFF b (omega arith)) (omega arith)

  blank_legal : may 32 ≡ true → Legal may (32 ∷ [])
  unfolding encode
  blank_legal e = ascii_legal 32 e (omega arith)

  amp_legal : may 38 ≡ true → Legal may (38 ∷ [])
  unfolding encode
  amp_legal e = ascii_legal 38 e (omega arith)

refuses_weaker : (q may : ℕ → Bool) → ((n : ℕ) → q n ≡ true → may n ≡ true) → (o : Option ℕ) → refuses q o ≡ false → refuses may o ≡ false
refuses_weaker q may imp none e = e
refuses_weaker q may imp (some n) e = go (q n) refl
  where
    go : (x : Bool) → q n ≡ x → not (may n) ≡ false
    go true f = ap not (imp n f)
    go false f = contrary (ap not f) e

-- a rule for numbers that gives the character it was asked for, and only such as may stand
abbrev Gives : (ℕ → Bool) → (ℕ → CharNumber) → Type 0
Gives may legal = (m n : ℕ) → legal m ≡ Char n → (m ≡ n) × (may n ≡ true)

module _ (may : ℕ → Bool) (legal : ℕ → CharNumber) (gives : Gives may legal) where
  abbrev own : (m n : ℕ) → legal m ≡ Char n → m ≡ n
  own m n e = (gives m n e).0

  number_legal : (digits : List ℕ) (c : ℕ) → char_number legal digits ≡ Char c → Legal may (encode c)
  number_legal digits c e =
      let h = legal_character legal own digits c e in
      legal_encoded may c (char_given legal (λ (n : ℕ). may n ≡ true) (λ m n q. (gives m n q).1) digits c e) h.no_surrogate h.most

  abbrev characters : Carried legal
  characters =
      record {
        Place = Spot;
        end = spot between 0;
        Stands = StandsAt may;
        Leads = LeadsTo may;
        Holds = λ x y n o. Made may x y o;
        nothing = λ x h n. made_nothing may x h;
        refusal = λ x y n why first second. tt;
        joined = λ x y z n o rest e h. made_joined may x y z o rest e h;
        copies = λ x y c l n. l;
        keeps = λ x y c l n. l;
        spaces = λ x y l n. l;
        numbers = λ x y digits c l e n. l (encode c) (number_well_formed legal own digits c e) (number_legal digits c e);
      }

  -- ---- barring heads

  module _ (blank : may 32 ≡ true) where
    moves_byte : (s : State) (n b : ℕ) (bs : List ℕ) → StandsAt may (spot s n) (b ∷ bs) → fault_at may (b ∷ bs) ≡ false → Onward characters (spot s n) (copy b) bs
    unfolding after
    moves_byte s n b bs h e =
        let o = onward may s n b bs h.1 e in
        record {
          to = spot (next s b) (bits s n b);
          leads = λ rest g. good_cons may s n b rest o.0 (λ f. tail_byte s b bs f h.0) g;
          stands = (h.0, o.1);
        }

    head_moves : (s : State) (n b : ℕ) (bs : List ℕ) (z : Head) → StandsAt may (spot s n) (b ∷ bs) → fault_at may (b ∷ bs) ≡ false
        → Copies b z → Moves (utf8 legal own) s bs z → Moves characters (spot s n) bs z
    head_moves s n b bs (head (copy c) k) h e cp u = rw (cp.0, cp.1) (moves_byte s n b bs h e)
    head_moves s n b bs (head (stop (kept c)) k) h e cp u =
        rw (cp.0, cp.1) (let p = moves_byte s n b bs h e in record { to = p.to; leads = p.leads; stands = p.stands })
    head_moves s n b bs (head (stop space) k) h e cp u =
        let p = settled s (drop k bs) (ap (λ (x : State). after x (drop k bs)) u.leads ∙ u.stands) in
        record {
          to = spot between 0;
          leads = takes_any may s n p.0 (32 ∷ []) (ascii_well_formed (32 ∷ []) refl) (blank_legal may blank);
          stands = (p.1, nothing_pending may 0 (drop k bs));
        }
    head_moves s n b bs (head (stop (number digits)) k) h e cp u =
        record {
          to = spot between 0;
          leads = takes_any may s n u.leads.0;
          stands = (ap (λ (x : State). after x (drop k bs)) (sym u.leads.1) ∙ u.stands, nothing_pending may 0 (drop k bs));
        }
    head_moves s n b bs (head (stop (named offset name)) k) h e cp u =
        record {
          to = spot between 0;
          leads = takes_any may s n u.leads.0;
          stands = (ap (λ (x : State). after x (drop k bs)) (sym u.leads.1) ∙ u.stands, nothing_pending may 0 (drop k bs));
        }
    head_moves s n b bs (head (stop (unterminated offset end)) k) h e cp u = record { to = lost; leads = tt; stands = tt }
    head_moves s n b bs (head (barred o) k) h e cp u = record { to = lost; leads = tt; stands = tt }

    lost_moves : (bs : List ℕ) (z : Head) → Moves characters lost bs z
    lost_moves bs (head t k) = record { to = lost; leads = lost_leads may t; stands = tt }

    guarded_moves : (q : ℕ → Bool) → ((n : ℕ) → q n ≡ true → may n ≡ true) → (at : Heads) → Moving (utf8 legal own) at
        → ((offset b : ℕ) (bs : List ℕ) → Copies b (at offset b bs)) → Moving characters (barring q at)
    unfolding barring fault_at
    guarded_moves q imp at u c lost offset b bs h = lost_moves bs (barring q at offset b bs)
    guarded_moves q imp at u c (spot s n) offset b bs h =
        pick_by (Moves characters (spot s n) bs) (fault_at q (b ∷ bs)) {a = head (barred offset) 0} (λ e. record { to = lost; leads = tt; stands = tt })
        (λ e. head_moves s n b bs (at offset b bs) h (refuses_weaker q may imp (char_from between 0 (b ∷ bs)) e) (c offset b bs) (u s offset b bs h.0))

-- ---- walks

walked_made : (may : ℕ → Bool) (x y : Spot) (o : Outcome) → TakesAny may x y → Made may (spot between 0) (spot between 0) o → Made may x y o
unfolding WellFormed after
walked_made may x y (done value m) l h =
    let g : Good may between 0 value = subst (λ (t : List ℕ). Good may between 0 t) (append-nil value) (h [] (good_start may between 0 [] refl refl tt)) in
    l value g.whole g.legal
walked_made may x y (refused before m why first second) l h = tt

-- a value made so is whole characters that may stand
pub record Characters (may : ℕ → Bool) (value : List ℕ) : Type 0 where
  pub utf8 : WellFormed value
  pub legal : Legal may value

value_made : (may : ℕ → Bool) (o : Outcome) (value : List ℕ) (m : ℕ) → Made may (spot between 0) (spot between 0) o → o ≡ done value m → Characters may value
unfolding WellFormed after
value_made may o value m h e =
    let k : Made may (spot between 0) (spot between 0) (done value m) = subst (Made may (spot between 0) (spot between 0)) e h in
    let g : Good may between 0 value = subst (λ (t : List ℕ). Good may between 0 t) (append-nil value) (k [] (good_start may between 0 [] refl refl tt)) in
    record { utf8 = g.whole; legal = g.legal }

module _ (may : ℕ → Bool) (st : Settings) (gives : Gives may st.legal) (ampersand : may 38 ≡ true) (good : (name : List ℕ) → GoodBound (st.bind name)) where
  characters_opening : Opening st (characters may st.legal gives)
  unfolding WellFormed
  characters_opening =
      record {
        amp = λ x y offset name l n. l (38 ∷ []) (ascii_well_formed (38 ∷ []) refl) (amp_legal may ampersand);
        opens = λ walked w x y offset name t l e n q.
            walked_made may x y (walked t (suc n)) l (w (spot between 0) t (subst GoodBound e (good name), nothing_pending may 0 t) (suc n));
        stands_for = λ walked w x y offset name t l e n.
            walked_made may x y (walked t n) l (w (spot between 0) t (subst GoodBound e (good name), nothing_pending may 0 t) n);
      }

  walk_characters : Moving (characters may st.legal gives) st.inner → (at : Heads) → Moving (characters may st.legal gives) at → (depth : ℕ) (t : List ℕ) (n : ℕ)
      → (value : List ℕ) (openings : ℕ) → WellFormed t → walk st at depth t n ≡ done value openings → Characters may value
  unfolding WellFormed
  walk_characters i at g depth t n value openings h e =
      value_made may (walk st at depth t n) value openings
      (walk_carried st (characters may st.legal gives) characters_opening i at g depth (spot between 0) t (h, nothing_pending may 0 t) n) e

-- ---- the strict reading

only_gives : (r : Rule) → Gives (is_char r) (only_char r)
unfolding only_char
only_gives r m n e = go (is_char r m) refl e
  where
    go : (x : Bool) → is_char r m ≡ x → pick x (Char m) Forbidden ≡ Char n → (m ≡ n) × (is_char r n ≡ true)
    go true f q = let z : m ≡ n = cc in (z, rw z at f)
    go false f q = absurd (let z : ◌≡◌ {A = ℕ} 0 1 = cc in omega arith)

stands_in_value : (r : Rule) (n : ℕ) → may_stand in_value r n ≡ true → is_char r n ≡ true
unfolding may_stand
stands_in_value xml10 n e = e
stands_in_value xml11 n e = and_left (is_char xml11 n) (not (is_restricted n)) e

stands_in_table : (r : Rule) (n : ℕ) → may_stand in_table r n ≡ true → is_char r n ≡ true
unfolding may_stand
stands_in_table r n e = e

two : (r : Rule) → (is_char r 32 ≡ true) × (is_char r 38 ≡ true)
unfolding is_char
two xml10 = (refl, refl)
two xml11 = (refl, refl)

-- K8: every character of a strictly accepted value is Char, and the value is UTF-8; of a UTF-8 text, with UTF-8 replacement texts.
pub strict_legal : (r : Rule) (past : Bool) (bind : List ℕ → Bound) (limit depth : ℕ) (t value : List ℕ) (openings : ℕ) → ((name : List ℕ) → GoodBound (bind name))
    → WellFormed t → normalize (strictly r (reading r past bind limit)) depth t ≡ done value openings → Characters (is_char r) value
unfolding normalize strictly reading
strict_legal r past bind limit depth t value openings good w e =
    let st = strictly r (reading r past bind limit) in
    let gives = only_gives r in
    walk_characters (is_char r) st gives (two r).1 good
    (guarded_moves (is_char r) (only_char r) gives (two r).0 (may_stand in_table r) (stands_in_table r) (inner_head past r)
    (inner_utf8 (only_char r) (λ m n q. (gives m n q).0) past r) (inner_copies past r))
    (barring (may_stand in_value r) (attribute_head r))
    (guarded_moves (is_char r) (only_char r) gives (two r).0 (may_stand in_value r) (stands_in_value r) (attribute_head r)
    (attribute_utf8 (only_char r) (λ m n q. (gives m n q).0) r) (attribute_copies r))
    depth t 0 value openings w e
