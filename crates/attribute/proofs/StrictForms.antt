-- Document 02, K8: a form has no fault where its value has none (`form_legal`). So a value of Char is read again strictly from
-- its form (`strict_again_10`, `strict_again_11`), but under 1.1 a form that holds a raw RestrictedChar gets 26 (`strict_again_26`). Assumes
-- nothing.
use mathlib.Core.Path.{◌≡◌, refl, ap, sym, ◌∙◌}
use Prim.Native.Nat.{ℕ, suc}
use mathlib.Core.Bool.{Bool, true, false, not, ◌&&◌}
use mathlib.Core.Option.{Option, none, some}
use mathlib.Core.List.{List, [], ◌∷◌, ◌++◌}
use Rattle.text.specs.Bytes.{within}
use Rattle.text.specs.Version.{Rule, xml10, xml11}
use Rattle.text.specs.Utf8.{State, between, next, after, WellFormed}
use Rattle.text.proofs.Bytes.{and_left, and_right, contrary}
use Rattle.text.proofs.Utf8.{all_ascii, ascii_well_formed}
use Rattle.escape.specs.Escape.{attribute, level_set, write_byte}
use Rattle.escape.proofs.View.{Kind, Other, is_lt, is_gt, is_amp_lem, is_apos, is_quot, is_cr_lem, is_lf, is_tab, is_other, kind}
use Rattle.entity.specs.Binding.{Bound}
use Rattle.legal.specs.Legal.{is_char, is_restricted, Place, in_value, in_table, may_stand, bits, char_from, refuses, fault_at}
use Rattle.legal.proofs.Texts.{Legal, tail_byte}
use Rattle.legal.proofs.Readers.{Good, lead_between, good_cons, good_tail, good_start, good_append}
use Rattle.canonical.specs.Canonical.{canonical}
use Rattle.canonical.proofs.Canonical.{Piece, by_level, as_nel, as_ls, as_c2, as_e2, Pieces, none, more, canonical_pieces}
use Rattle.tokens.specs.Outcome.{Outcome, done}
use Rattle.attribute.specs.Walk.{normalize, reading}
use Rattle.attribute.specs.Strict.{strictly}
use Rattle.attribute.proofs.Reread.{LeavesPredefined}
use Rattle.attribute.proofs.Guarded.{Barred}
use Rattle.attribute.proofs.StrictReread.{first_fault, printable_passes, all_printable, strict_reread, strict_barred}
use Rattle.attribute.proofs.StrictValues.{Characters}

-- ---- faults of a form

-- what a character is written as
abbrev Written : List ℕ → Type 0
Written front = (all_printable front ≡ true) × (all_ascii front ≡ true)

module _ (place : Place) (r : Rule) where
  abbrev may : ℕ → Bool
  may = may_stand place r

  printable_legal : (bs : List ℕ) → all_printable bs ≡ true → Legal may bs
  printable_legal [] e = tt
  printable_legal (b ∷ bs) e =
      (printable_passes place r b bs (and_left (within 0x20 0x7E b) (all_printable bs) e), printable_legal bs (and_right (within 0x20 0x7E b) (all_printable bs) e))

  -- wherever a reader stands: the form is good where the value is
  abbrev Keeps : List ℕ → List ℕ → Type 0
  Keeps value form = (s : State) (n : ℕ) → Good may s n value → Good may s n form

  -- printable bytes in the place of whole characters
  instead : (front rest form : List ℕ) → Written front → Keeps rest form → (s : State) (n : ℕ) → s ≡ between → after between rest ≡ between → Legal may rest
      → Good may s n (front ++ form)
  instead front rest form p h s n e w l =
      good_append may front form (ascii_well_formed front p.1) (printable_legal front p.0) s n 0 e (h between 0 (good_start may between 0 rest refl w l))

  ascii_keeps : (b : ℕ) (front rest form : List ℕ) → within 0x80 0xBF b ≡ false → next between b ≡ between → Written front → Keeps rest form → Keeps (b ∷ rest) (front ++ form)
  unfolding after
  ascii_keeps b front rest form t a p h s n g =
      let z = lead_between s b rest t g.whole in
      let w : after (next between b) rest ≡ between = ap (λ (x : State). after (next x b) rest) (sym z) ∙ g.whole in
      instead front rest form p h s n z (ap (λ (x : State). after x rest) (sym a) ∙ w) g.legal.1

  byte_keeps : (b : ℕ) (rest form : List ℕ) → Keeps rest form → Keeps (b ∷ rest) (b ∷ form)
  unfolding after
  byte_keeps b rest form h s n g =
      let t = good_tail may s n b rest g in
      good_cons may s n b form t.0 (λ f. tail_byte s b rest f g.whole) (h (next s b) (bits s n b) t.1)

  other_keeps : (b : ℕ) → Other b → (rest form : List ℕ) → Keeps rest form → Keeps (b ∷ rest) (write_byte (level_set attribute) b ++ form)
  unfolding level_set
  other_keeps b o rest form h s n g =
      rw (o.no_lf, o.no_tab, o.no_apos, o.no_quot, o.no_gt, o.no_lt, o.no_amp, o.no_cr) (byte_keeps b rest form h s n g)

  level_keeps : (b : ℕ) → Kind b → (rest form : List ℕ) → Keeps rest form → Keeps (b ∷ rest) (write_byte (level_set attribute) b ++ form)
  unfolding level_set next
  level_keeps b is_lt rest form h = ascii_keeps 60 (38 ∷ 108 ∷ 116 ∷ 59 ∷ []) rest form refl refl (refl, refl) h
  level_keeps b is_gt rest form h = ascii_keeps 62 (38 ∷ 103 ∷ 116 ∷ 59 ∷ []) rest form refl refl (refl, refl) h
  level_keeps b is_amp_lem rest form h = ascii_keeps 38 (38 ∷ 97 ∷ 109 ∷ 112 ∷ 59 ∷ []) rest form refl refl (refl, refl) h
  level_keeps b is_apos rest form h = ascii_keeps 39 (38 ∷ 97 ∷ 112 ∷ 111 ∷ 115 ∷ 59 ∷ []) rest form refl refl (refl, refl) h
  level_keeps b is_quot rest form h = ascii_keeps 34 (38 ∷ 113 ∷ 117 ∷ 111 ∷ 116 ∷ 59 ∷ []) rest form refl refl (refl, refl) h
  level_keeps b is_cr_lem rest form h = ascii_keeps 13 (38 ∷ 35 ∷ 49 ∷ 51 ∷ 59 ∷ []) rest form refl refl (refl, refl) h
  level_keeps b is_lf rest form h = ascii_keeps 10 (38 ∷ 35 ∷ 49 ∷ 48 ∷ 59 ∷ []) rest form refl refl (refl, refl) h
  level_keeps b is_tab rest form h = ascii_keeps 9 (38 ∷ 35 ∷ 57 ∷ 59 ∷ []) rest form refl refl (refl, refl) h
  level_keeps b (is_other o) rest form h = other_keeps b o rest form h

nel_keeps : (place : Place) (rest form : List ℕ) → Keeps place xml11 rest form → Keeps place xml11 (0xC2 ∷ 0x85 ∷ rest) (38 ∷ 35 ∷ 49 ∷ 51 ∷ 51 ∷ 59 ∷ form)
unfolding after next
nel_keeps place rest form h s n g =
    let z = lead_between s 0xC2 (0x85 ∷ rest) refl g.whole in
    instead place xml11 (38 ∷ 35 ∷ 49 ∷ 51 ∷ 51 ∷ 59 ∷ []) rest form (refl, refl) h s n z
    (ap (λ (x : State). after x (0xC2 ∷ 0x85 ∷ rest)) (sym z) ∙ g.whole) g.legal.1.1

ls_keeps : (place : Place) (rest form : List ℕ) → Keeps place xml11 rest form → Keeps place xml11 (0xE2 ∷ 0x80 ∷ 0xA8 ∷ rest) (38 ∷ 35 ∷ 56 ∷ 50 ∷ 51 ∷ 50 ∷ 59 ∷ form)
unfolding after next
ls_keeps place rest form h s n g =
    let z = lead_between s 0xE2 (0x80 ∷ 0xA8 ∷ rest) refl g.whole in
    instead place xml11 (38 ∷ 35 ∷ 56 ∷ 50 ∷ 51 ∷ 50 ∷ 59 ∷ []) rest form (refl, refl) h s n z
    (ap (λ (x : State). after x (0xE2 ∷ 0x80 ∷ 0xA8 ∷ rest)) (sym z) ∙ g.whole) g.legal.1.1.1

piece_keeps : (place : Place) (r : Rule) (bytes front form : List ℕ) → Piece r bytes front form → (rest : List ℕ) → Keeps place r rest form → Keeps place r (bytes ++ rest) (front ++ form)
piece_keeps place r bytes front form (by_level {b = b} p) rest h = level_keeps place r b (kind b) rest form h
piece_keeps place r bytes front form as_nel rest h = nel_keeps place rest form h
piece_keeps place r bytes front form as_ls rest h = ls_keeps place rest form h
piece_keeps place r bytes front form (as_c2 q) rest h = byte_keeps place xml11 0xC2 rest form h
piece_keeps place r bytes front form (as_e2 q) rest h = byte_keeps place xml11 0xE2 rest form h

pieces_keep : (place : Place) (r : Rule) (value form : List ℕ) → Pieces r value form → Keeps place r value form
pieces_keep place r value form none s n g = g
pieces_keep place r value form (more {bytes = bytes} {front = front} {rest = rest} {form = left} p m) s n g =
    piece_keeps place r bytes front left p rest (λ u k q. pieces_keep place r rest left m u k q) s n g

-- the form of whole characters that may stand holds no other
pub form_legal : (place : Place) (r : Rule) (value : List ℕ) → Characters (may_stand place r) value → Legal (may_stand place r) (canonical r value)
unfolding WellFormed
form_legal place r value c =
    let g = good_start (may_stand place r) between 0 value refl c.utf8 c.legal in
    (pieces_keep place r value (canonical r value) (canonical_pieces r value) between 0 g).legal

legal_none : (may : ℕ → Bool) (t : List ℕ) (offset : ℕ) → Legal may t → first_fault may offset t ≡ none
unfolding first_fault
legal_none may [] offset h = refl
legal_none may (b ∷ bs) offset h = rw h.0 (legal_none may bs (suc offset) h.1)

-- ---- what breaks the rule of 1.1 among characters of Char

-- no RestrictedChar
abbrev pub unrestricted : ℕ → Bool
unrestricted n = not (is_restricted n)

refuses_restricted : (o : Option ℕ) → refuses (is_char xml11) o ≡ false → refuses (may_stand in_value xml11) o ≡ refuses unrestricted o
unfolding may_stand
refuses_restricted none e = refl
refuses_restricted (some n) e = go (is_char xml11 n) e
  where
    go : (x : Bool) → not x ≡ false → not (x && not (is_restricted n)) ≡ not (not (is_restricted n))
    go true q = refl
    go false q = contrary refl q

-- K8: in a text of Char the first that breaks the rule is the first RestrictedChar
pub first_restricted : (t : List ℕ) (offset : ℕ) → Legal (is_char xml11) t → first_fault (may_stand in_value xml11) offset t ≡ first_fault unrestricted offset t
unfolding first_fault fault_at
first_restricted [] offset h = refl
first_restricted (b ∷ bs) offset h = rw (refuses_restricted (char_from between 0 (b ∷ bs)) h.0, first_restricted bs (suc offset) h.1)

-- ---- read again

module _ (ends : Bool) (bind : List ℕ → Bound) (limit depth : ℕ) (P : LeavesPredefined bind) where
  -- the form of a value, read strictly at a depth of at least 1
  abbrev pub form_again : Rule → List ℕ → Outcome
  form_again r value = normalize (strictly r (reading r ends bind limit)) (suc depth) (canonical r value)

  -- K8: under 1.0 a value of Char is read again from its form, with no opening
  pub strict_again_10 : (value : List ℕ) → Characters (is_char xml10) value → form_again xml10 value ≡ done value 0
  unfolding may_stand
  strict_again_10 value c =
      strict_reread xml10 ends bind limit depth P value (legal_none (may_stand in_value xml10) (canonical xml10 value) 0 (form_legal in_value xml10 value c))

  module _ (value : List ℕ) (c : Characters (is_char xml11) value) where
    in_form : first_fault (may_stand in_value xml11) 0 (canonical xml11 value) ≡ first_fault unrestricted 0 (canonical xml11 value)
    unfolding may_stand
    in_form = first_restricted (canonical xml11 value) 0 (form_legal in_table xml11 value c)

    -- K8: under 1.1 so is one whose form holds no raw RestrictedChar
    pub strict_again_11 : first_fault unrestricted 0 (canonical xml11 value) ≡ none → form_again xml11 value ≡ done value 0
    strict_again_11 e = strict_reread xml11 ends bind limit depth P value (in_form ∙ e)

    -- K8: and the form of any other gets 26, with the offset of the first
    pub strict_again_26 : (k : ℕ) → first_fault unrestricted 0 (canonical xml11 value) ≡ some k → Barred k (form_again xml11 value)
    strict_again_26 k e = strict_barred xml11 ends bind limit depth P value k (in_form ∙ e)
