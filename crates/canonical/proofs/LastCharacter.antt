-- The last character of a value is read off the end of its form: a reference there is the character's (`Reference`), since every `&` of a
-- form is followed by a `;` (`form_closed`), so that a `;` after it is one of its own; else the character stands there. Assumes nothing.
use mathlib.Core.Path.{◌≡◌, refl, sym, ap, ap₂, subst, ◌∙◌}
use mathlib.Core.Bool.{Bool, true, false, ◌&&◌, true≢false}
use mathlib.Core.Logic.{◌⊎◌, inl, inr, ⊎_elim}
use mathlib.Core.List.{List, [], ◌∷◌, ◌++◌, append_assoc, append-nil}
use Prim.Native.Nat.{ℕ, suc, ◌-◌, ◌≤◌, ◌<◌}
use native.Mathlib.Omega.{arith}
use lib.Dec.{eqb}
use lib.ListN.{length, take, drop, get_or, length-append, length-drop, drop_of_length-le, take-append-drop}
use lib.Pointwise.{pointwise}
use lib.Seq.{take_all, drop-append_seam}
use borrow.Author.Tests.{eqb-true, eq-eqb, ne_eqb}
use Rattle.text.specs.Bytes.{pick, within, begins, same_bytes}
use Rattle.text.specs.Version.{Rule, xml10, xml11}
use Rattle.text.specs.Utf8.{WellFormed}
use Rattle.text.proofs.Bytes.{inside, above, below, begins_split, pick_by}
use Rattle.text.proofs.Patterns.{begins_fits}
use Rattle.escape.specs.Escape.{attribute, level_set, write_byte}
use Rattle.escape.proofs.View.{Kind, is_lt, is_gt, is_amp_lem, is_apos, is_quot, is_cr_lem, is_lf, is_tab, is_other, kind}
use Rattle.canonical.specs.Canonical.{canonical, canonical_from}
use Rattle.canonical.specs.Starts.{Starts}
use Rattle.canonical.specs.LastCharacter.{last_from, last_character, filled_up, in_hand}
use Rattle.canonical.specs.FormEnds.{FormOf, Single, LastRaw, ends_with, last_numbered, last_named}
use Rattle.canonical.specs.FormEnds.Single.{one, two, three, four}
use Rattle.canonical.proofs.Append.{canonical_append}
use Rattle.canonical.proofs.Canonical.{Piece, by_level, as_nel, as_ls, as_c2, as_e2, Pieces, none, more, canonical_pieces, canonical_length}
use Rattle.canonical.proofs.Characters.{byte_form, copied, no_lead, none as no-form}
use Rattle.canonical.proofs.Singles.{Characters, characters}
use Rattle.canonical.proofs.Singles.Characters.{none as no_more, more as one_more_lem}

-- ---- one character

pub single_starts : {w : List ℕ} → Single w → Starts w
single_starts (one {a} h) = below 0x80 0xBF a (omega (arith, h))
single_starts (two {a} g h x y) = above 0x80 0xBF a (omega (arith, g))
single_starts (three {a} g h x y z w) = above 0x80 0xBF a (omega (arith, g))
single_starts (four {a} g x y z w u v) = above 0x80 0xBF a (omega (arith, g))

-- it is in hand after it, whatever was before
lead_last : (held : List ℕ) (b : ℕ) (bs : List ℕ) → within 0x80 0xBF b ≡ false → last_from held (b ∷ bs) ≡ last_from (b ∷ []) bs
unfolding last_from
lead_last held b bs e = rw e

tail_last : (held : List ℕ) (b : ℕ) (bs : List ℕ) → 0x80 ≤ b → b < 0xC0 → last_from held (b ∷ bs) ≡ last_from (held ++ (b ∷ [])) bs
unfolding last_from
tail_last held b bs x y = rw (inside 0x80 0xBF b x (omega arith))

single_last : {w : List ℕ} (held rest : List ℕ) → Single w → last_from held (w ++ rest) ≡ last_from w rest
single_last held rest (one {a} h) = lead_last held a rest (single_starts (one h))
single_last held rest (two {a} {b} g h x y) = lead_last held a (b ∷ rest) (single_starts (two g h x y)) ∙ tail_last (a ∷ []) b rest x y
single_last held rest (three {a} {b} {c} g h x y z w) =
    lead_last held a (b ∷ c ∷ rest) (single_starts (three g h x y z w)) ∙ tail_last (a ∷ []) b (c ∷ rest) x y ∙ tail_last (a ∷ b ∷ []) c rest z w
single_last held rest (four {a} {b} {c} {d} g x y z w u v) =
    lead_last held a (b ∷ c ∷ d ∷ rest) (single_starts (four g x y z w u v))
    ∙ tail_last (a ∷ []) b (c ∷ d ∷ rest) x y
    ∙ tail_last (a ∷ b ∷ []) c (d ∷ rest) z w
    ∙ tail_last (a ∷ b ∷ c ∷ []) d rest u v

-- ---- the characters before the last, and the last

pub record Parted (v : List ℕ) : Type 0 where
  pub before : List ℕ
  pub char : List ℕ
  pub single : Single char
  pub is : v ≡ before ++ char
  pub last : (held : List ℕ) → last_from held v ≡ char

part : {v : List ℕ} → Characters v → 1 ≤ length v → Parted v
unfolding last_from
part no_more h = absurd (omega arith)
part (one_more_lem {w = w} s no_more) h =
    record { before = []; char = w; single = s; is = append-nil w; last = λ held. single_last held [] s }
part (one_more_lem {w = w} s (one_more_lem {w = w2} {rest = rest2} s2 m)) h =
    let p : Parted (w2 ++ rest2) = part (one_more_lem s2 m) (filled s2 rest2) in
    record {
      before = w ++ p.before;
      char = p.char;
      single = p.single;
      is = ap (λ (l : List ℕ). w ++ l) p.is ∙ sym (append_assoc w p.before p.char);
      last = λ held. single_last held (w2 ++ rest2) s ∙ p.last w;
    }
  where
    filled : {x : List ℕ} → Single x → (y : List ℕ) → 1 ≤ length (x ++ y)
    filled (one a) l = omega arith
    filled (two g h x y) l = omega arith
    filled (three g h x y z w) l = omega arith
    filled (four g x y z w u v) l = omega arith

pub parted : (v : List ℕ) → WellFormed v → 1 ≤ length v → Parted v
parted v wf h = part (characters v wf) h

-- ---- references

-- `&` opens, `;` closes
abbrev opens : Bool → List ℕ → Bool
opens o [] = o
opens o (b ∷ bs) = opens (pick (eqb b 38) true (pick (eqb b 59) false o)) bs

opens_append : (o : Bool) (xs ys : List ℕ) → opens o (xs ++ ys) ≡ opens (opens o xs) ys
opens_append o [] ys = refl
opens_append o (x ∷ xs) ys = opens_append (pick (eqb x 38) true (pick (eqb x 59) false o)) xs ys

closed_byte : (b : ℕ) → Kind b → opens false (write_byte (level_set attribute) b) ≡ false
unfolding level_set
closed_byte b is_lt = refl
closed_byte b is_gt = refl
closed_byte b is_amp_lem = refl
closed_byte b is_apos = refl
closed_byte b is_quot = refl
closed_byte b is_cr_lem = refl
closed_byte b is_lf = refl
closed_byte b is_tab = refl
closed_byte b (is_other o) =
    let plain : write_byte (level_set attribute) b ≡ b ∷ [] =
    rw (o.no_lf, o.no_tab, o.no_apos, o.no_quot, o.no_gt, o.no_lt, o.no_amp, o.no_cr) in
    ap (opens false) plain ∙ rw o.no_amp (pick_by (λ (t : Bool). t ≡ false) (eqb b 59) {a = false} {b = false} (λ e. refl) (λ e. refl))

closed_piece : {r : Rule} {bytes front form : List ℕ} → Piece r bytes front form → opens false front ≡ false
closed_piece (by_level {b = b} p) = closed_byte b (kind b)
closed_piece as_nel = refl
closed_piece as_ls = refl
closed_piece (as_c2 q) = refl
closed_piece (as_e2 q) = refl

closed_pieces : {r : Rule} {value form : List ℕ} → Pieces r value form → opens false form ≡ false
closed_pieces none = refl
closed_pieces (more {front = front} {form = form} p m) =
    opens_append false front form ∙ ap (λ (o : Bool). opens o form) (closed_piece p) ∙ closed_pieces m

-- K7: no reference is left open at the end of a form
pub form_closed : (r : Rule) (v : List ℕ) → opens false (canonical r v) ≡ false
form_closed r v = closed_pieces (canonical_pieces r v)

-- the ten, and what each stands for
pub data Reference : List ℕ → List ℕ → Type 0 where
  of_lt : Reference (38 ∷ 108 ∷ 116 ∷ 59 ∷ []) (60 ∷ [])
  of_gt : Reference (38 ∷ 103 ∷ 116 ∷ 59 ∷ []) (62 ∷ [])
  of_amp : Reference (38 ∷ 97 ∷ 109 ∷ 112 ∷ 59 ∷ []) (38 ∷ [])
  of_apos : Reference (38 ∷ 97 ∷ 112 ∷ 111 ∷ 115 ∷ 59 ∷ []) (39 ∷ [])
  of_quot : Reference (38 ∷ 113 ∷ 117 ∷ 111 ∷ 116 ∷ 59 ∷ []) (34 ∷ [])
  of_cr : Reference (38 ∷ 35 ∷ 49 ∷ 51 ∷ 59 ∷ []) (13 ∷ [])
  of_lf : Reference (38 ∷ 35 ∷ 49 ∷ 48 ∷ 59 ∷ []) (10 ∷ [])
  of_tab : Reference (38 ∷ 35 ∷ 57 ∷ 59 ∷ []) (9 ∷ [])
  of_nel : Reference (38 ∷ 35 ∷ 49 ∷ 51 ∷ 51 ∷ 59 ∷ []) (0xC2 ∷ 0x85 ∷ [])
  of_ls : Reference (38 ∷ 35 ∷ 56 ∷ 50 ∷ 51 ∷ 50 ∷ 59 ∷ []) (0xE2 ∷ 0x80 ∷ 0xA8 ∷ [])

-- what the form of a character is
pub data Shown (r : Rule) (w : List ℕ) : Type 0 where
  by_name : {name : List ℕ} → canonical r w ≡ name → Reference name w → Shown r w
  as_is : canonical r w ≡ w → Shown r w

shown_one : (r : Rule) (a : ℕ) → a < 0x80 → Kind a → Shown r (a ∷ [])
unfolding level_set
shown_one r a h is_lt = by_name (byte_form r 60 h) of_lt
shown_one r a h is_gt = by_name (byte_form r 62 h) of_gt
shown_one r a h is_amp_lem = by_name (byte_form r 38 h) of_amp
shown_one r a h is_apos = by_name (byte_form r 39 h) of_apos
shown_one r a h is_quot = by_name (byte_form r 34 h) of_quot
shown_one r a h is_cr_lem = by_name (byte_form r 13 h) of_cr
shown_one r a h is_lf = by_name (byte_form r 10 h) of_lf
shown_one r a h is_tab = by_name (byte_form r 9 h) of_tab
shown_one r a h (is_other o) =
    as_is (byte_form r a h ∙ rw (o.no_lf, o.no_tab, o.no_apos, o.no_quot, o.no_gt, o.no_lt, o.no_amp, o.no_cr))

-- tails are copied
tail_is : (r : Rule) (b : ℕ) (bs : List ℕ) → 0x80 ≤ b → b < 0xC0 → canonical_from r 0 bs ≡ bs → canonical_from r 0 (b ∷ bs) ≡ b ∷ bs
tail_is r b bs x y e = copied r b bs x (no_lead r b bs (λ q. omega arith) (λ q. omega arith)) e

shown_two : (r : Rule) (a b : ℕ) → 0xC2 ≤ a → a < 0xE0 → 0x80 ≤ b → b < 0xC0 → Shown r (a ∷ b ∷ [])
unfolding canonical
shown_two xml10 a b g h x y = as_is (copied xml10 a (b ∷ []) (omega arith) refl (tail_is xml10 b [] x y (no-form xml10)))
shown_two xml11 a b g h x y = go (eqb a 0xC2) refl (eqb b 0x85) refl
  where
    go : (t : Bool) → eqb a 0xC2 ≡ t → (u : Bool) → eqb b 0x85 ≡ u → Shown xml11 (a ∷ b ∷ [])
    go true p true q = rw (eqb-true a 0xC2 p, eqb-true b 0x85 q) (by_name refl of_nel)
    go true p false q =
        as_is (copied xml11 a (b ∷ []) (omega arith) (rw (p, q, ne_eqb a 0xE2 (λ e. omega arith))) (tail_is xml11 b [] x y (no-form xml11)))
    go false p u q =
        as_is (copied xml11 a (b ∷ []) (omega arith) (rw (p, ne_eqb a 0xE2 (λ e. omega arith))) (tail_is xml11 b [] x y (no-form xml11)))

shown_three : (r : Rule) (a b c : ℕ) → 0xE0 ≤ a → a < 0xF0 → 0x80 ≤ b → b < 0xC0 → 0x80 ≤ c → c < 0xC0 → Shown r (a ∷ b ∷ c ∷ [])
unfolding canonical
shown_three xml10 a b c g h x y z w =
    as_is (copied xml10 a (b ∷ c ∷ []) (omega arith) refl (tail_is xml10 b (c ∷ []) x y (tail_is xml10 c [] z w (no-form xml10))))
shown_three xml11 a b c g h x y z w = go (eqb a 0xE2) refl (eqb b 0x80) refl (eqb c 0xA8) refl
  where
    rest : canonical_from xml11 0 (b ∷ c ∷ []) ≡ b ∷ c ∷ []
    rest = tail_is xml11 b (c ∷ []) x y (tail_is xml11 c [] z w (no-form xml11))

    go : (t : Bool) → eqb a 0xE2 ≡ t → (u : Bool) → eqb b 0x80 ≡ u → (v : Bool) → eqb c 0xA8 ≡ v → Shown xml11 (a ∷ b ∷ c ∷ [])
    go true p true q true s = rw (eqb-true a 0xE2 p, eqb-true b 0x80 q, eqb-true c 0xA8 s) (by_name refl of_ls)
    go true p true q false s = as_is (copied xml11 a (b ∷ c ∷ []) (omega arith) (rw (p, q, s, ne_eqb a 0xC2 (λ e. omega arith))) rest)
    go true p false q v s = as_is (copied xml11 a (b ∷ c ∷ []) (omega arith) (rw (p, q, ne_eqb a 0xC2 (λ e. omega arith))) rest)
    go false p u q v s = as_is (copied xml11 a (b ∷ c ∷ []) (omega arith) (rw (p, ne_eqb a 0xC2 (λ e. omega arith))) rest)

pub single_shown : (r : Rule) {w : List ℕ} → Single w → Shown r w
unfolding canonical
single_shown r (one {a} h) = shown_one r a h (kind a)
single_shown r (two {a} {b} g h x y) = shown_two r a b g h x y
single_shown r (three {a} {b} {c} g h x y z w) = shown_three r a b c g h x y z w
single_shown r (four {a} {b} {c} {d} g x y z w u v) =
    as_is (copied r a (b ∷ c ∷ d ∷ []) (omega (arith, g)) (no_lead r a (b ∷ c ∷ d ∷ []) (λ q. omega (arith, q, g)) (λ q. omega (arith, q, g)))
    (tail_is r b (c ∷ d ∷ []) x y (tail_is r c (d ∷ []) z w (tail_is r d [] u v (no-form r)))))

-- ---- the end of a list

pub at_end : (front w : List ℕ) (k : ℕ) → 1 ≤ k → k ≤ length w → get_or (front ++ w) (length (front ++ w) - k) 0 ≡ get_or w (length w - k) 0
at_end [] w k g h = refl
at_end (x ∷ xs) w k g h =
    let size = length-append xs w in
    let q : suc (length (xs ++ w)) - k ≡ suc (length (xs ++ w) - k) = omega arith in
    ap (λ (n : ℕ). get_or (x ∷ xs ++ w) n 0) q ∙ at_end xs w k g h

ends_split : (bytes form : List ℕ) → ends_with bytes form ≡ true → form ≡ take (length form - length bytes) form ++ bytes
ends_split bytes form e =
    let m = length form - length bytes in
    let rest = begins_split bytes (drop m form) e in
    let fits = begins_fits bytes (drop m form) e in
    let size = length-drop m form in
    let short : length (drop m form) ≤ length bytes = omega arith in
    let over : drop (length bytes) (drop m form) ≡ [] = drop_of_length-le (drop m form) short in
    sym (take-append-drop m form) ∙ ap (λ (l : List ℕ). take m form ++ l) (rest ∙ ap (λ (l : List ℕ). bytes ++ l) over ∙ append-nil bytes)

ends_same : (front bytes : List ℕ) → begins bytes bytes ≡ true → ends_with bytes (front ++ bytes) ≡ true
ends_same front bytes e =
    let size = length-append front bytes in
    let q : length (front ++ bytes) - length bytes ≡ length front = omega arith in
    ap (λ (n : ℕ). begins bytes (drop n (front ++ bytes))) q ∙ ap (begins bytes) (drop-append_seam front bytes) ∙ e

-- the bytes from the last `&` on
abbrev since_amp : List ℕ → List ℕ → List ℕ
since_amp held [] = held
since_amp held (b ∷ bs) = since_amp (pick (eqb b 38) (38 ∷ []) (held ++ (b ∷ []))) bs

since_append : (held xs ys : List ℕ) → since_amp held (xs ++ ys) ≡ since_amp (since_amp held xs) ys
since_append held [] ys = refl
since_append held (x ∷ xs) ys = since_append (pick (eqb x 38) (38 ∷ []) (held ++ (x ∷ []))) xs ys

-- whether a reference was open before the last byte
abbrev open_before : Bool → Bool → List ℕ → Bool
open_before o was [] = was
open_before o was (b ∷ bs) = open_before (pick (eqb b 38) true (pick (eqb b 59) false o)) o bs

before_append : (o was : Bool) (xs ys : List ℕ) → open_before o was (xs ++ ys) ≡ open_before (opens o xs) (open_before o was xs) ys
before_append o was [] ys = refl
before_append o was (x ∷ xs) ys = before_append (pick (eqb x 38) true (pick (eqb x 59) false o)) o xs ys

-- what a reference stands for
abbrev decoded : List ℕ → List ℕ
decoded name =
    pick (same_bytes name (38 ∷ 108 ∷ 116 ∷ 59 ∷ [])) (60 ∷ [])
    (pick (same_bytes name (38 ∷ 103 ∷ 116 ∷ 59 ∷ [])) (62 ∷ [])
    (pick (same_bytes name (38 ∷ 97 ∷ 109 ∷ 112 ∷ 59 ∷ [])) (38 ∷ [])
    (pick (same_bytes name (38 ∷ 97 ∷ 112 ∷ 111 ∷ 115 ∷ 59 ∷ [])) (39 ∷ [])
    (pick (same_bytes name (38 ∷ 113 ∷ 117 ∷ 111 ∷ 116 ∷ 59 ∷ [])) (34 ∷ [])
    (pick (same_bytes name (38 ∷ 35 ∷ 49 ∷ 51 ∷ 59 ∷ [])) (13 ∷ [])
    (pick (same_bytes name (38 ∷ 35 ∷ 49 ∷ 48 ∷ 59 ∷ [])) (10 ∷ [])
    (pick (same_bytes name (38 ∷ 35 ∷ 57 ∷ 59 ∷ [])) (9 ∷ [])
    (pick (same_bytes name (38 ∷ 35 ∷ 49 ∷ 51 ∷ 51 ∷ 59 ∷ [])) (0xC2 ∷ 0x85 ∷ [])
    (0xE2 ∷ 0x80 ∷ 0xA8 ∷ [])))))))))

-- of each of the ten, after whatever bytes
pub record Name (name w : List ℕ) : Type 0 where
  pub since : (held : List ℕ) → since_amp held name ≡ name
  pub opened : (o was : Bool) → open_before o was name ≡ true
  pub stands : decoded name ≡ w
  pub self : begins name name ≡ true
  pub semicolon : get_or name (length name - 1) 0 ≡ 59
  pub some : 1 ≤ length name

reference_name : {name w : List ℕ} → Reference name w → Name name w
reference_name of_lt = record { since = λ h. refl; opened = λ o was. refl; stands = refl; self = refl; semicolon = refl; some = omega arith }
reference_name of_gt = record { since = λ h. refl; opened = λ o was. refl; stands = refl; self = refl; semicolon = refl; some = omega arith }
reference_name of_amp = record { since = λ h. refl; opened = λ o was. refl; stands = refl; self = refl; semicolon = refl; some = omega arith }
reference_name of_apos = record { since = λ h. refl; opened = λ o was. refl; stands = refl; self = refl; semicolon = refl; some = omega arith }
reference_name of_quot = record { since = λ h. refl; opened = λ o was. refl; stands = refl; self = refl; semicolon = refl; some = omega arith }
reference_name of_cr = record { since = λ h. refl; opened = λ o was. refl; stands = refl; self = refl; semicolon = refl; some = omega arith }
reference_name of_lf = record { since = λ h. refl; opened = λ o was. refl; stands = refl; self = refl; semicolon = refl; some = omega arith }
reference_name of_tab = record { since = λ h. refl; opened = λ o was. refl; stands = refl; self = refl; semicolon = refl; some = omega arith }
reference_name of_nel = record { since = λ h. refl; opened = λ o was. refl; stands = refl; self = refl; semicolon = refl; some = omega arith }
reference_name of_ls = record { since = λ h. refl; opened = λ o was. refl; stands = refl; self = refl; semicolon = refl; some = omega arith }

-- ---- the form of a value, ended by that of its last character

pub record Ending (r : Rule) (v form : List ℕ) : Type 0 where
  pub front : List ℕ
  pub char : List ℕ
  pub single : Single char
  pub is : form ≡ front ++ canonical r char
  pub closed : opens false front ≡ false
  pub last : in_hand v ≡ filled_up 4 char

pub ending : (r : Rule) (v form : List ℕ) → WellFormed v → 1 ≤ length v → form ≡ canonical r v → Ending r v form
unfolding in_hand last_character
ending r v form wf h e =
    let p = parted v wf h in
    record {
      front = canonical r p.before;
      char = p.char;
      single = p.single;
      is = e ∙ ap (canonical r) p.is ∙ canonical_append r p.before p.char (single_starts p.single);
      closed = form_closed r p.before;
      last = ap (filled_up 4) (p.last []);
    }

-- a form has a byte where the value has
pub form_some : {form : List ℕ} → FormOf form → 1 ≤ length form
form_some f = omega (arith, f.some, (canonical_length f.rule f.value).0, ap length f.is)

-- the last byte of a character
single_end : {w : List ℕ} → Single w → (1 ≤ length w) × ((w ≡ get_or w (length w - 1) 0 ∷ []) ⊎ (0x80 ≤ get_or w (length w - 1) 0))
single_end (one h) = (omega arith, inl refl)
single_end (two g h x y) = (omega arith, inr x)
single_end (three g h x y z w) = (omega arith, inr z)
single_end (four g x y z w u v) = (omega arith, inr u)

module _ {r : Rule} {v form : List ℕ} (n : Ending r v form) where
  -- where the form ends in no `;`, the character stands there as it is
  pub ends_as_is : eqb (get_or form (length form - 1) 0) 59 ≡ false → form ≡ n.front ++ n.char
  ends_as_is e = go (single_shown r n.single)
    where
      go : Shown r n.char → form ≡ n.front ++ n.char
      go (as_is q) = n.is ∙ ap (λ (l : List ℕ). n.front ++ l) q
      go (by_name {name = name} q t) =
          let m = reference_name t in
          let f : form ≡ n.front ++ name = n.is ∙ ap (λ (l : List ℕ). n.front ++ l) q in
          let end = ap (λ (l : List ℕ). get_or l (length l - 1) 0) f ∙ at_end n.front name 1 (omega arith) m.some ∙ m.semicolon in
          absurd (true≢false (sym (eq-eqb (get_or form (length form - 1) 0) 59 end) ∙ e))

  pub ends_raw : eqb (get_or form (length form - 1) 0) 59 ≡ false → LastRaw form
  ends_raw e = record { front = n.front; char = n.char; single = n.single; is = ends_as_is e }

  -- where it ends in one of the ten, that is the character's
  named : {name w : List ℕ} → Reference name w → ends_with name form ≡ true → w ≡ n.char
  named {name} {w} t e = go (single_shown r n.single)
    where
      m : Name name w
      m = reference_name t

      split : form ≡ take (length form - length name) form ++ name
      split = ends_split name form e

      go : Shown r n.char → w ≡ n.char
      go (by_name {name = other} q u) =
          let k = reference_name u in
          let f : form ≡ n.front ++ other = n.is ∙ ap (λ (l : List ℕ). n.front ++ l) q in
          let one_way : since_amp [] form ≡ name =
          ap (since_amp []) split ∙ since_append [] (take (length form - length name) form) name ∙ m.since (since_amp [] (take (length form - length name) form)) in
          let other_way : since_amp [] form ≡ other = ap (since_amp []) f ∙ since_append [] n.front other ∙ k.since (since_amp [] n.front) in
          sym m.stands ∙ ap decoded (sym one_way ∙ other_way) ∙ k.stands
      go (as_is q) =
          let f : form ≡ n.front ++ n.char = n.is ∙ ap (λ (l : List ℕ). n.front ++ l) q in
          let some = single_end n.single in
          let here = ap (λ (l : List ℕ). get_or l (length l - 1) 0) f ∙ at_end n.front n.char 1 (omega arith) some.0 in
          let there = ap (λ (l : List ℕ). get_or l (length l - 1) 0) split ∙ at_end (take (length form - length name) form) name 1 (omega arith) m.some ∙ m.semicolon in
          let semicolon : get_or n.char (length n.char - 1) 0 ≡ 59 = sym here ∙ there in
          ⊎_elim
          (λ single.
          let g : form ≡ n.front ++ (59 ∷ []) = f ∙ ap (λ (l : List ℕ). n.front ++ l) (single ∙ ap (λ (b : ℕ). b ∷ []) semicolon) in
          let open-there =
          ap (open_before false false) split ∙ before_append false false (take (length form - length name) form) name
          ∙ m.opened (opens false (take (length form - length name) form)) (open_before false false (take (length form - length name) form)) in
          let closed-here = ap (open_before false false) g ∙ before_append false false n.front (59 ∷ []) ∙ n.closed in
          absurd (true≢false (sym open-there ∙ closed-here)))
          (λ high. absurd (omega (arith, high, semicolon)))
          some.1

  -- else the `;` is its own
  unnamed : eqb (get_or form (length form - 1) 0) 59 ≡ true → ((name w : List ℕ) → Reference name w → ends_with name form ≡ false) → 59 ∷ [] ≡ n.char
  unnamed e others = go (single_shown r n.single)
    where
      go : Shown r n.char → 59 ∷ [] ≡ n.char
      go (by_name {name = name} q t) =
          let f : form ≡ n.front ++ name = n.is ∙ ap (λ (l : List ℕ). n.front ++ l) q in
          absurd (true≢false (sym (ap (ends_with name) f ∙ ends_same n.front name (reference_name t).self) ∙ others name n.char t))
      go (as_is q) =
          let f : form ≡ n.front ++ n.char = n.is ∙ ap (λ (l : List ℕ). n.front ++ l) q in
          let some = single_end n.single in
          let here = ap (λ (l : List ℕ). get_or l (length l - 1) 0) f ∙ at_end n.front n.char 1 (omega arith) some.0 in
          let semicolon : get_or n.char (length n.char - 1) 0 ≡ 59 = sym here ∙ eqb-true (get_or form (length form - 1) 0) 59 e in
          ⊎_elim (λ single. sym (single ∙ ap (λ (b : ℕ). b ∷ []) semicolon)) (λ high. absurd (omega (arith, high, semicolon))) some.1

-- ---- bytes at the end

-- of as many bytes, equality tells
same_begins : (text bytes : List ℕ) → length text ≡ length bytes → pointwise eqb text bytes ≡ begins bytes text
same_begins [] [] e = refl
same_begins [] (b ∷ bs) e = absurd (omega (arith, e))
same_begins (a ∷ xs) [] e = absurd (omega (arith, e))
same_begins (a ∷ xs) (b ∷ bs) e = ap (λ (t : Bool). eqb a b && t) (same_begins xs bs (omega (arith, e)))

pub ends_equal : (bytes form : List ℕ) → length bytes ≤ length form
    → pointwise eqb (take (length form - (length form - length bytes)) (drop (length form - length bytes) form)) bytes ≡ ends_with bytes form
ends_equal bytes form h =
    let at = length form - length bytes in
    let rest = length-drop at form in
    ap (λ (l : List ℕ). pointwise eqb l bytes) (take_all (length form - at) (drop at form) (omega arith))
    ∙ same_begins (drop at form) bytes (omega arith)

-- a form that is too short for them
pub ends_short : (bytes form : List ℕ) → length form < length bytes → false ≡ ends_with bytes form
ends_short bytes form h = go (ends_with bytes form) refl
  where
    go : (t : Bool) → ends_with bytes form ≡ t → false ≡ t
    go false e = refl
    go true e =
        let fits = begins_fits bytes (drop (length form - length bytes) form) e in
        let size = length-drop (length form - length bytes) form in
        absurd (omega arith)

-- ---- the character that a reference at the end of the form names, or the `;` there

module _ (form : List ℕ)
    (lt : ends_with (38 ∷ 108 ∷ 116 ∷ 59 ∷ []) form ≡ false) (gt : ends_with (38 ∷ 103 ∷ 116 ∷ 59 ∷ []) form ≡ false)
    (amp : ends_with (38 ∷ 97 ∷ 109 ∷ 112 ∷ 59 ∷ []) form ≡ false) (apos : ends_with (38 ∷ 97 ∷ 112 ∷ 111 ∷ 115 ∷ 59 ∷ []) form ≡ false)
    (quot : ends_with (38 ∷ 113 ∷ 117 ∷ 111 ∷ 116 ∷ 59 ∷ []) form ≡ false) (cr : ends_with (38 ∷ 35 ∷ 49 ∷ 51 ∷ 59 ∷ []) form ≡ false)
    (lf : ends_with (38 ∷ 35 ∷ 49 ∷ 48 ∷ 59 ∷ []) form ≡ false) (tab : ends_with (38 ∷ 35 ∷ 57 ∷ 59 ∷ []) form ≡ false)
    (nel : ends_with (38 ∷ 35 ∷ 49 ∷ 51 ∷ 51 ∷ 59 ∷ []) form ≡ false) (ls : ends_with (38 ∷ 35 ∷ 56 ∷ 50 ∷ 51 ∷ 50 ∷ 59 ∷ []) form ≡ false) where
  none_of : (name w : List ℕ) → Reference name w → ends_with name form ≡ false
  none_of name w of_lt = lt
  none_of name w of_gt = gt
  none_of name w of_amp = amp
  none_of name w of_apos = apos
  none_of name w of_quot = quot
  none_of name w of_cr = cr
  none_of name w of_lf = lf
  none_of name w of_tab = tab
  none_of name w of_nel = nel
  none_of name w of_ls = ls

pub last_named_lem : {r : Rule} {v form : List ℕ} (n : Ending r v form) → eqb (get_or form (length form - 1) 0) 59 ≡ true → last_named form ≡ n.char
unfolding last_named last_numbered
last_named_lem {form = form} n e =
    pick_by (λ (w : List ℕ). w ≡ n.char) (ends_with (38 ∷ 108 ∷ 116 ∷ 59 ∷ []) form) (λ y. named n of_lt y) λ lt.
    pick_by (λ (w : List ℕ). w ≡ n.char) (ends_with (38 ∷ 103 ∷ 116 ∷ 59 ∷ []) form) (λ y. named n of_gt y) λ gt.
    pick_by (λ (w : List ℕ). w ≡ n.char) (ends_with (38 ∷ 97 ∷ 109 ∷ 112 ∷ 59 ∷ []) form) (λ y. named n of_amp y) λ amp.
    pick_by (λ (w : List ℕ). w ≡ n.char) (ends_with (38 ∷ 97 ∷ 112 ∷ 111 ∷ 115 ∷ 59 ∷ []) form) (λ y. named n of_apos y) λ apos.
    pick_by (λ (w : List ℕ). w ≡ n.char) (ends_with (38 ∷ 113 ∷ 117 ∷ 111 ∷ 116 ∷ 59 ∷ []) form) (λ y. named n of_quot y) λ quot.
    pick_by (λ (w : List ℕ). w ≡ n.char) (ends_with (38 ∷ 35 ∷ 49 ∷ 51 ∷ 59 ∷ []) form) (λ y. named n of_cr y) λ cr.
    pick_by (λ (w : List ℕ). w ≡ n.char) (ends_with (38 ∷ 35 ∷ 49 ∷ 48 ∷ 59 ∷ []) form) (λ y. named n of_lf y) λ lf.
    pick_by (λ (w : List ℕ). w ≡ n.char) (ends_with (38 ∷ 35 ∷ 57 ∷ 59 ∷ []) form) (λ y. named n of_tab y) λ tab.
    pick_by (λ (w : List ℕ). w ≡ n.char) (ends_with (38 ∷ 35 ∷ 49 ∷ 51 ∷ 51 ∷ 59 ∷ []) form) (λ y. named n of_nel y) λ nel.
    pick_by (λ (w : List ℕ). w ≡ n.char) (ends_with (38 ∷ 35 ∷ 56 ∷ 50 ∷ 51 ∷ 50 ∷ 59 ∷ []) form) (λ y. named n of_ls y) λ ls.
    unnamed n e (none_of form lt gt amp apos quot cr lf tab nel ls)

-- ---- a character that stands at the end as it is, by the bytes there

pub data Back (l : List ℕ) : List ℕ → Type 0 where
  back_1 : {w : List ℕ} → 1 ≤ length l → get_or l (length l - 1) 0 < 0x80 → w ≡ get_or l (length l - 1) 0 ∷ [] → Back l w
  back_2 : {w : List ℕ} → 2 ≤ length l → 0x80 ≤ get_or l (length l - 1) 0 → 0xC0 ≤ get_or l (length l - 2) 0
      → w ≡ get_or l (length l - 2) 0 ∷ get_or l (length l - 1) 0 ∷ [] → Back l w
  back_3 : {w : List ℕ} → 3 ≤ length l → 0x80 ≤ get_or l (length l - 1) 0 → get_or l (length l - 2) 0 < 0xC0 → 0xC0 ≤ get_or l (length l - 3) 0
      → w ≡ get_or l (length l - 3) 0 ∷ get_or l (length l - 2) 0 ∷ get_or l (length l - 1) 0 ∷ [] → Back l w
  back_4 : {w : List ℕ} → 4 ≤ length l → 0x80 ≤ get_or l (length l - 1) 0 → get_or l (length l - 2) 0 < 0xC0 → get_or l (length l - 3) 0 < 0xC0
      → w ≡ get_or l (length l - 4) 0 ∷ get_or l (length l - 3) 0 ∷ get_or l (length l - 2) 0 ∷ get_or l (length l - 1) 0 ∷ [] → Back l w

back : (front : List ℕ) {w : List ℕ} → Single w → Back (front ++ w) w
back front (one {a} h) =
    let n = length-append front (a ∷ []) in
    let d = at_end front (a ∷ []) 1 (omega arith) (omega arith) in
    back_1 (omega arith) (omega (arith, d, h)) (sym (ap (λ (x : ℕ). x ∷ []) d))
back front (two {a} {b} g h x y) =
    let w = a ∷ b ∷ [] in
    let n = length-append front w in
    let d = at_end front w 1 (omega arith) (omega arith) in
    let c = at_end front w 2 (omega arith) (omega arith) in
    back_2 (omega arith) (omega (arith, d, x)) (omega (arith, c, g)) (sym (ap₂ (λ (p q : ℕ). p ∷ q ∷ []) c d))
back front (three {a} {b} {c} g h x y z v) =
    let w = a ∷ b ∷ c ∷ [] in
    let n = length-append front w in
    let p1 = at_end front w 1 (omega arith) (omega arith) in
    let p2 = at_end front w 2 (omega arith) (omega arith) in
    let p3 = at_end front w 3 (omega arith) (omega arith) in
    back_3 (omega arith) (omega (arith, p1, z)) (omega (arith, p2, y)) (omega (arith, p3, g))
    (sym (ap₂ (λ (p : ℕ) (q : List ℕ). p ∷ q) p3 (ap₂ (λ (p q : ℕ). p ∷ q ∷ []) p2 p1)))
back front (four {a} {b} {c} {d} g x y z v s t) =
    let w = a ∷ b ∷ c ∷ d ∷ [] in
    let n = length-append front w in
    let p1 = at_end front w 1 (omega arith) (omega arith) in
    let p2 = at_end front w 2 (omega arith) (omega arith) in
    let p3 = at_end front w 3 (omega arith) (omega arith) in
    let p4 = at_end front w 4 (omega arith) (omega arith) in
    back_4 (omega arith) (omega (arith, p1, s)) (omega (arith, p2, v)) (omega (arith, p3, y))
    (sym (ap₂ (λ (p : ℕ) (q : List ℕ). p ∷ q) p4 (ap₂ (λ (p : ℕ) (q : List ℕ). p ∷ q) p3 (ap₂ (λ (p q : ℕ). p ∷ q ∷ []) p2 p1))))

pub seen : (l front : List ℕ) {w : List ℕ} → Single w → l ≡ front ++ w → Back l w
seen l front {w} s e = subst (λ (x : List ℕ). Back x w) (sym e) (back front s)

-- how many bytes there are, and which of them are the character's
pub back_some : {l w : List ℕ} → Back l w → 1 ≤ length l
back_some (back_1 n d e) = n
back_some (back_2 n d c e) = omega arith
back_some (back_3 n d c b e) = omega arith
back_some (back_4 n d c b e) = omega arith

pub back_one : {l w : List ℕ} → Back l w → get_or l (length l - 1) 0 < 0x80 → w ≡ get_or l (length l - 1) 0 ∷ []
back_one (back_1 n d e) h = e
back_one (back_2 n d c e) h = absurd (omega arith)
back_one (back_3 n d c b e) h = absurd (omega arith)
back_one (back_4 n d c b e) h = absurd (omega arith)

module _ {l w : List ℕ} (high : 0x80 ≤ get_or l (length l - 1) 0) where
  pub more_than_1 : Back l w → 2 ≤ length l
  more_than_1 (back_1 n d e) = absurd (omega arith)
  more_than_1 (back_2 n d c e) = n
  more_than_1 (back_3 n d c b e) = omega arith
  more_than_1 (back_4 n d c b e) = omega arith

  pub back_two : Back l w → 0xC0 ≤ get_or l (length l - 2) 0 → w ≡ get_or l (length l - 2) 0 ∷ get_or l (length l - 1) 0 ∷ []
  back_two (back_1 n d e) h = absurd (omega arith)
  back_two (back_2 n d c e) h = e
  back_two (back_3 n d c b e) h = absurd (omega arith)
  back_two (back_4 n d c b e) h = absurd (omega arith)

  module _ (tail : get_or l (length l - 2) 0 < 0xC0) where
    pub more_than_2 : Back l w → 3 ≤ length l
    more_than_2 (back_1 n d e) = absurd (omega arith)
    more_than_2 (back_2 n d c e) = absurd (omega arith)
    more_than_2 (back_3 n d c b e) = n
    more_than_2 (back_4 n d c b e) = omega arith

    pub back_three : Back l w → 0xC0 ≤ get_or l (length l - 3) 0 → w ≡ get_or l (length l - 3) 0 ∷ get_or l (length l - 2) 0 ∷ get_or l (length l - 1) 0 ∷ []
    back_three (back_1 n d e) h = absurd (omega arith)
    back_three (back_2 n d c e) h = absurd (omega arith)
    back_three (back_3 n d c b e) h = e
    back_three (back_4 n d c b e) h = absurd (omega arith)

    module _ (more-tail : get_or l (length l - 3) 0 < 0xC0) where
      pub more_than_3 : Back l w → 4 ≤ length l
      more_than_3 (back_1 n d e) = absurd (omega arith)
      more_than_3 (back_2 n d c e) = absurd (omega arith)
      more_than_3 (back_3 n d c b e) = absurd (omega arith)
      more_than_3 (back_4 n d c b e) = n

      pub back_four : Back l w → w ≡ get_or l (length l - 4) 0 ∷ get_or l (length l - 3) 0 ∷ get_or l (length l - 2) 0 ∷ get_or l (length l - 1) 0 ∷ []
      back_four (back_1 n d e) = absurd (omega arith)
      back_four (back_2 n d c e) = absurd (omega arith)
      back_four (back_3 n d c b e) = absurd (omega arith)
      back_four (back_4 n d c b e) = e
