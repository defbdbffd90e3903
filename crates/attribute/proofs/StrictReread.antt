-- Document 02, K8: canonical forms read again strictly. A form in which no character breaks the rule gives its value with no opening
-- (`strict_reread`); otherwise it is refused by 26 at the first that does (`strict_barred`). Assumes nothing.
use mathlib.Core.Path.{◌≡◌, refl, ap, sym, ◌∙◌}
use Prim.Native.Nat.{ℕ, suc}
use native.Mathlib.Omega.{arith}
use mathlib.Core.Bool.{Bool, true, false, not, ◌&&◌}
use mathlib.Core.Option.{Option, none, some}
use mathlib.Core.List.{List, [], ◌∷◌, ◌++◌}
use lib.ListN.{length}
use Rattle.text.specs.Bytes.{pick, within}
use Rattle.text.specs.Version.{Rule, xml10, xml11}
use Rattle.text.proofs.Bytes.{and_left, and_right, within_low, within_top}
use Rattle.charref.specs.CharNumbers.{Char}
use Rattle.escape.specs.Escape.{attribute, level_set, write_byte}
use Rattle.escape.proofs.View.{Kind, Other, is_lt, is_gt, is_amp_lem, is_apos, is_quot, is_cr_lem, is_lf, is_tab, is_other, kind}
use Rattle.legal.specs.Legal.{is_char, Place, in_value, in_table, may_stand, fault_at}
use Rattle.legal.specs.FirstFault.{rule_number}
use Rattle.legal.proofs.Numbers.{faults_by_number, printable_may}
use Rattle.legal.proofs.Faults.{fault_ascii}
use Rattle.canonical.specs.Canonical.{canonical}
use Rattle.canonical.proofs.Canonical.{Plain, Piece, by_level, as_nel, as_ls, as_c2, as_e2, Pieces, none, more, canonical_pieces}
use Rattle.entity.specs.Binding.{Bound}
use Rattle.tokens.specs.Tokens.{head, copy, skip_of, Heads}
use Rattle.tokens.specs.Outcome.{Outcome, done}
use Rattle.attribute.specs.Heads.{attribute_head}
use Rattle.attribute.specs.Walk.{Settings, answer, walk, normalize, reading}
use Rattle.attribute.specs.Strict.{barring, only_char, strictly}
use Rattle.attribute.proofs.Reread.{LeavesPredefined, Readable, other_head_lem, c2_head, e2_head, reread, readable}
use Rattle.attribute.proofs.Guarded.{first_barred, Barred, Guards, guard_run, guards_none, guards_some}

-- the offset of the first byte of a text at which a fault begins
unfoldable pub first_fault : (ℕ → Bool) → ℕ → List ℕ → Option ℕ
unfolding fault_at
first_fault may offset [] = none
first_fault may offset (b ∷ bs) = let rest = first_fault may (suc offset) bs in pick (fault_at may (b ∷ bs)) (some offset) rest

-- ---- printable ASCII

-- it may stand anywhere
pub printable_passes : (p : Place) (r : Rule) (b : ℕ) (bs : List ℕ) → within 0x20 0x7E b ≡ true → fault_at (may_stand p r) (b ∷ bs) ≡ false
printable_passes p r b bs e =
    let low = within_low 0x20 0x7E b e in
    let top = within_top 0x20 0x7E b e in
    sym (faults_by_number p r (b ∷ bs)) ∙ fault_ascii (rule_number p r) b bs (omega arith) ∙ ap not (printable_may (rule_number p r) b low top)

abbrev pub all_printable : List ℕ → Bool
all_printable [] = true
all_printable (b ∷ bs) = within 0x20 0x7E b && all_printable bs

-- an offset past these bytes
abbrev past : List ℕ → ℕ → ℕ
past [] offset = offset
past (b ∷ bs) offset = past bs (suc offset)

-- ---- a form's heads meet its first fault: what a reference covers is printable

module _ (r : Rule) where
  abbrev may : ℕ → Bool
  may = may_stand in_value r

  abbrev Meets : List ℕ → Type 0
  Meets form = (offset : ℕ) → first_barred may (attribute_head r) offset 0 form ≡ first_fault may offset form

  -- a byte that is read alone
  alone_meets : (b : ℕ) (form : List ℕ) → ((offset : ℕ) → skip_of (attribute_head r offset b form) ≡ 0) → Meets form → Meets (b ∷ form)
  unfolding first_barred first_fault
  alone_meets b form e h offset = rw (e offset, h (suc offset))

  covered : (bs form : List ℕ) (offset : ℕ) → first_barred may (attribute_head r) offset (length bs) (bs ++ form) ≡ first_barred may (attribute_head r) (past bs offset) 0 form
  unfolding first_barred
  covered [] form offset = refl
  covered (b ∷ bs) form offset = covered bs form (suc offset)

  clear : (bs form : List ℕ) (offset : ℕ) → all_printable bs ≡ true → first_fault may offset (bs ++ form) ≡ first_fault may (past bs offset) form
  unfolding first_fault
  clear [] form offset e = refl
  clear (b ∷ bs) form offset e =
      rw (printable_passes in_value r b (bs ++ form) (and_left (within 0x20 0x7E b) (all_printable bs) e))
      (clear bs form (suc offset) (and_right (within 0x20 0x7E b) (all_printable bs) e))

  -- a reference
  reference_meets : (bs form : List ℕ) → all_printable bs ≡ true → ((offset : ℕ) → skip_of (attribute_head r offset 38 (bs ++ form)) ≡ length bs)
      → Meets form → Meets (38 ∷ bs ++ form)
  unfolding first_barred first_fault
  reference_meets bs form e s h offset =
      rw (printable_passes in_value r 38 (bs ++ form) refl, s offset)
      (covered bs form (suc offset) ∙ h (past bs (suc offset)) ∙ sym (clear bs form (suc offset) e))

  other_meets : (b : ℕ) → Other b → Plain r b → (form : List ℕ) → Meets form → Meets (write_byte (level_set attribute) b ++ form)
  unfolding level_set
  other_meets b o p form h offset =
      rw (o.no_lf, o.no_tab, o.no_apos, o.no_quot, o.no_gt, o.no_lt, o.no_amp, o.no_cr)
      (alone_meets b form (λ i. ap skip_of (other_head_lem r b o p i form)) h offset)

  level_meets : (b : ℕ) → Kind b → Plain r b → (form : List ℕ) → Meets form → Meets (write_byte (level_set attribute) b ++ form)
  unfolding level_set attribute_head
  level_meets b is_lt p form h offset = reference_meets (108 ∷ 116 ∷ 59 ∷ []) form refl (λ i. refl) h offset
  level_meets b is_gt p form h offset = reference_meets (103 ∷ 116 ∷ 59 ∷ []) form refl (λ i. refl) h offset
  level_meets b is_amp_lem p form h offset = reference_meets (97 ∷ 109 ∷ 112 ∷ 59 ∷ []) form refl (λ i. refl) h offset
  level_meets b is_apos p form h offset = reference_meets (97 ∷ 112 ∷ 111 ∷ 115 ∷ 59 ∷ []) form refl (λ i. refl) h offset
  level_meets b is_quot p form h offset = reference_meets (113 ∷ 117 ∷ 111 ∷ 116 ∷ 59 ∷ []) form refl (λ i. refl) h offset
  level_meets b is_cr_lem p form h offset = reference_meets (35 ∷ 49 ∷ 51 ∷ 59 ∷ []) form refl (λ i. refl) h offset
  level_meets b is_lf p form h offset = reference_meets (35 ∷ 49 ∷ 48 ∷ 59 ∷ []) form refl (λ i. refl) h offset
  level_meets b is_tab p form h offset = reference_meets (35 ∷ 57 ∷ 59 ∷ []) form refl (λ i. refl) h offset
  level_meets b (is_other o) p form h offset = other_meets b o p form h offset

piece_meets : (r : Rule) (bytes front form : List ℕ) → Piece r bytes front form → Meets r form → Meets r (front ++ form)
unfolding attribute_head
piece_meets r bytes front form (by_level {b = b} p) h = level_meets r b (kind b) p form h
piece_meets r bytes front form as_nel h = reference_meets xml11 (35 ∷ 49 ∷ 51 ∷ 51 ∷ 59 ∷ []) form refl (λ i. refl) h
piece_meets r bytes front form as_ls h = reference_meets xml11 (35 ∷ 56 ∷ 50 ∷ 51 ∷ 50 ∷ 59 ∷ []) form refl (λ i. refl) h
piece_meets r bytes front form (as_c2 q) h = alone_meets xml11 0xC2 form (λ i. ap skip_of (c2_head i form q)) h
piece_meets r bytes front form (as_e2 q) h = alone_meets xml11 0xE2 form (λ i. ap skip_of (e2_head i form q)) h

pieces_meet : (r : Rule) (value form : List ℕ) → Pieces r value form → Meets r form
unfolding first_barred first_fault
pieces_meet r value form none offset = refl
pieces_meet r value form (more {bytes = bytes} {front = front} {rest = rest} {form = left} p m) offset =
    piece_meets r bytes front left p (λ i. pieces_meet r rest left m i) offset

-- ---- the strict reading of a form

copied : (r : Rule) (at : Heads) (b : ℕ) → within 0x20 0x7E b ≡ true → at 0 b [] ≡ head (copy b) 0 → barring (may_stand in_table r) at 0 b [] ≡ head (copy b) 0
unfolding barring
copied r at b e h = rw (printable_passes in_table r b [] e) h

passed : (r : Rule) (n : ℕ) → is_char r n ≡ true → only_char r n ≡ Char n
unfolding only_char
passed r n e = rw e

five : (r : Rule) → (is_char r 13 ≡ true) × (is_char r 10 ≡ true) × (is_char r 9 ≡ true) × (is_char r 133 ≡ true) × (is_char r 8232 ≡ true)
unfolding is_char
five xml10 = (refl, refl, refl, refl, refl)
five xml11 = (refl, refl, refl, refl, refl)

-- what a form asks of settings is kept where they are made strict
pub strict_readable : (r : Rule) (s : Settings) → Readable s → Readable (strictly r s)
unfolding strictly
strict_readable r s P =
    let chars = five r in
    record {
      names = P.names;
      lt_copied = copied r s.inner 60 refl P.lt_copied;
      gt_copied = copied r s.inner 62 refl P.gt_copied;
      apos_copied = copied r s.inner 39 refl P.apos_copied;
      quot_copied = copied r s.inner 34 refl P.quot_copied;
      cr_legal = passed r 13 chars.0;
      lf_legal = passed r 10 chars.1;
      tab_legal = passed r 9 chars.2;
      nel_legal = passed r 133 chars.3;
      ls_legal = passed r 8232 chars.4;
    }

module _ (r : Rule) (ends : Bool) (bind : List ℕ → Bound) (limit depth : ℕ) (P : LeavesPredefined bind) (value : List ℕ) where
  -- the form, and what the strict reading makes of it at a depth of at least 1
  abbrev pub form : List ℕ
  form = canonical r value

  abbrev pub again : Outcome
  again = normalize (strictly r (reading r ends bind limit)) (suc depth) form

  guards_form : Guards (first_fault (may_stand in_value r) 0 form) (done value 0) again
  unfolding normalize walk strictly reading
  guards_form =
      let st = strictly r (reading r ends bind limit) in
      rw (pieces_meet r value form (canonical_pieces r value) 0) at
      (rw (reread r st depth (strict_readable r (reading r ends bind limit) (readable r ends bind limit P)) value) at
      (guard_run (may_stand in_value r) (attribute_head r) (answer st (λ u n. walk st st.inner depth u n)) form 0 0 0))

  -- K8: where no character of the form breaks the rule, it is read as the value, with no opening
  pub strict_reread : first_fault (may_stand in_value r) 0 form ≡ none → again ≡ done value 0
  strict_reread e = guards_none value 0 again (first_fault (may_stand in_value r) 0 form) guards_form e

  -- K8: otherwise it is refused by 26, with the offset of the first that does
  pub strict_barred : (k : ℕ) → first_fault (may_stand in_value r) 0 form ≡ some k → Barred k again
  strict_barred k e = guards_some value 0 k again (first_fault (may_stand in_value r) 0 form) guards_form e
