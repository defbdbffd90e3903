-- The canonical form of any bytes, read again under its rule, gives those bytes and no opening; so equal forms are of equal values.
-- Assumes nothing.
use mathlib.Core.Path.{◌≡◌, refl, ap, sym, ◌∙◌}
use mathlib.Core.Logic.{◌↔◌}
use Prim.Native.Nat.{ℕ, zero, suc}
use mathlib.Core.Bool.{Bool, true, false}
use mathlib.Core.List.{List, [], ◌∷◌, ◌++◌}
use Rattle.text.specs.Bytes.{begins}
use Rattle.text.specs.Version.{Rule, xml10, xml11}
use Rattle.charref.specs.CharNumbers.{Char}
use Rattle.escape.specs.Escape.{attribute, level_set, write_byte}
use Rattle.escape.proofs.View.{Kind, Other, is_lt, is_gt, is_amp_lem, is_apos, is_quot, is_cr_lem, is_lf, is_tab, is_other, kind}
use Rattle.entity.specs.Binding.{Bound, predefined, binding}
use Rattle.tokens.specs.Tokens.{head, copy, stop, kept, Heads, tokens}
use Rattle.tokens.specs.Outcome.{Outcome, done, prepend, run}
use Rattle.attribute.specs.Heads.{attribute_head}
use Rattle.attribute.specs.Walk.{Settings, answer, walk, normalize, inner_head, reading}
use Rattle.canonical.specs.Canonical.{canonical}
use Rattle.canonical.proofs.Canonical.{Plain, Piece, by_level, as_nel, as_ls, as_c2, as_e2, Pieces, none, more, canonical_pieces}

-- the four names that a canonical form asks for have their predefined texts
pub record LeavesPredefined (bind : List ℕ → Bound) : Type 0 where
  pub lt : bind (108 ∷ 116 ∷ []) ≡ predefined (60 ∷ [])
  pub gt : bind (103 ∷ 116 ∷ []) ≡ predefined (62 ∷ [])
  pub apos : bind (97 ∷ 112 ∷ 111 ∷ 115 ∷ []) ≡ predefined (39 ∷ [])
  pub quot : bind (113 ∷ 117 ∷ 111 ∷ 116 ∷ []) ≡ predefined (34 ∷ [])

-- settings under which a canonical form reads: its four names have their predefined texts, whose bytes are copied, and its five
-- character numbers pass
pub record Readable (st : Settings) : Type 0 where
  pub names : LeavesPredefined st.bind
  pub lt_copied : st.inner 0 60 [] ≡ head (copy 60) 0
  pub gt_copied : st.inner 0 62 [] ≡ head (copy 62) 0
  pub apos_copied : st.inner 0 39 [] ≡ head (copy 39) 0
  pub quot_copied : st.inner 0 34 [] ≡ head (copy 34) 0
  pub cr_legal : st.legal 13 ≡ Char 13
  pub lf_legal : st.legal 10 ≡ Char 10
  pub tab_legal : st.legal 9 ≡ Char 9
  pub nel_legal : st.legal 133 ≡ Char 133
  pub ls_legal : st.legal 8232 ≡ Char 8232

-- ---- heads

pub other_head_lem : (r : Rule) (b : ℕ) → Other b → Plain r b → (offset : ℕ) (bs : List ℕ) → attribute_head r offset b bs ≡ head (copy b) 0
unfolding attribute_head
other_head_lem xml10 b o p offset bs = rw (o.no_amp, o.no_tab, o.no_cr, o.no_lf)
other_head_lem xml11 b o p offset bs = rw (o.no_amp, o.no_tab, o.no_cr, o.no_lf, p.0, p.1)

pub c2_head : (offset : ℕ) (bs : List ℕ) → begins (0x85 ∷ []) bs ≡ false → attribute_head xml11 offset 0xC2 bs ≡ head (stop (kept 0xC2)) 0
unfolding attribute_head
c2_head offset bs e = rw e

pub e2_head : (offset : ℕ) (bs : List ℕ) → begins (0x80 ∷ 0xA8 ∷ []) bs ≡ false → attribute_head xml11 offset 0xE2 bs ≡ head (stop (kept 0xE2)) 0
unfolding attribute_head
e2_head offset bs e = rw e

-- ---- reading, piece by piece

module _ (r : Rule) (st : Settings) (depth : ℕ) where
  abbrev walk_from : ℕ → List ℕ → ℕ → Outcome
  walk_from offset t n = run (answer st (λ u m. walk st st.inner depth u m)) (tokens (attribute_head r) offset 0 t) n

  -- wherever it stands, the form is read as the value
  abbrev ReadAs : List ℕ → List ℕ → ℕ → Type 0
  ReadAs form value n = (offset : ℕ) → walk_from offset form n ≡ done value n

  -- a text of one byte that is copied, at any depth
  one_byte : (b : ℕ) → st.inner 0 b [] ≡ head (copy b) 0 → (d n : ℕ) → walk st st.inner d (b ∷ []) n ≡ done (b ∷ []) n
  unfolding walk
  one_byte b h zero n = rw h
  one_byte b h (suc d) n = rw h

  copy_read : (b : ℕ) (form value : List ℕ) (n : ℕ) → ((offset : ℕ) → attribute_head r offset b form ≡ head (copy b) 0) → ReadAs form value n → ReadAs (b ∷ form) (b ∷ value) n
  unfolding run tokens
  copy_read b form value n e h offset = rw (e offset) (ap (prepend (b ∷ [])) (h (suc offset)))

  kept_read : (b : ℕ) (form value : List ℕ) (n : ℕ) → ((offset : ℕ) → attribute_head r offset b form ≡ head (stop (kept b)) 0) → ReadAs form value n → ReadAs (b ∷ form) (b ∷ value) n
  unfolding run tokens answer
  kept_read b form value n e h offset = rw (e offset) (ap (prepend (b ∷ [])) (h (suc offset)))

  other_read : (b : ℕ) → Other b → Plain r b → (form value : List ℕ) (n : ℕ) → ReadAs form value n → ReadAs (write_byte (level_set attribute) b ++ form) (b ∷ value) n
  unfolding level_set
  other_read b o p form value n h offset =
      rw (o.no_lf, o.no_tab, o.no_apos, o.no_quot, o.no_gt, o.no_lt, o.no_amp, o.no_cr)
      (copy_read b form value n (λ i. other_head_lem r b o p i form) h offset)

  module _ (P : Readable st) where
    level_read : (b : ℕ) → Kind b → Plain r b → (form value : List ℕ) (n : ℕ) → ReadAs form value n → ReadAs (write_byte (level_set attribute) b ++ form) (b ∷ value) n
    unfolding level_set tokens attribute_head run answer
    level_read b is_lt p form value n h offset = rw (P.names.lt, one_byte 60 P.lt_copied) (ap (prepend (60 ∷ [])) (h _))
    level_read b is_gt p form value n h offset = rw (P.names.gt, one_byte 62 P.gt_copied) (ap (prepend (62 ∷ [])) (h _))
    level_read b is_amp_lem p form value n h offset = ap (prepend (38 ∷ [])) (h _)
    level_read b is_apos p form value n h offset = rw (P.names.apos, one_byte 39 P.apos_copied) (ap (prepend (39 ∷ [])) (h _))
    level_read b is_quot p form value n h offset = rw (P.names.quot, one_byte 34 P.quot_copied) (ap (prepend (34 ∷ [])) (h _))
    level_read b is_cr_lem p form value n h offset = rw P.cr_legal (ap (prepend (13 ∷ [])) (h _))
    level_read b is_lf p form value n h offset = rw P.lf_legal (ap (prepend (10 ∷ [])) (h _))
    level_read b is_tab p form value n h offset = rw P.tab_legal (ap (prepend (9 ∷ [])) (h _))
    level_read b (is_other o) p form value n h offset = other_read b o p form value n h offset

-- U+0085 and U+2028 under XML 1.1
module _ (st : Settings) (depth : ℕ) (P : Readable st) where
  nel_read : (form value : List ℕ) (n : ℕ) → ReadAs xml11 st depth form value n → ReadAs xml11 st depth (38 ∷ 35 ∷ 49 ∷ 51 ∷ 51 ∷ 59 ∷ form) (0xC2 ∷ 0x85 ∷ value) n
  unfolding tokens attribute_head run answer
  nel_read form value n h offset = rw P.nel_legal (ap (prepend (0xC2 ∷ 0x85 ∷ [])) (h _))

  ls_read : (form value : List ℕ) (n : ℕ) → ReadAs xml11 st depth form value n
      → ReadAs xml11 st depth (38 ∷ 35 ∷ 56 ∷ 50 ∷ 51 ∷ 50 ∷ 59 ∷ form) (0xE2 ∷ 0x80 ∷ 0xA8 ∷ value) n
  unfolding tokens attribute_head run answer
  ls_read form value n h offset = rw P.ls_legal (ap (prepend (0xE2 ∷ 0x80 ∷ 0xA8 ∷ [])) (h _))

  piece_read : (r : Rule) (bytes front form : List ℕ) → Piece r bytes front form → (value : List ℕ) (n : ℕ) → ReadAs r st depth form value n
      → ReadAs r st depth (front ++ form) (bytes ++ value) n
  piece_read r bytes front form (by_level {b = b} p) value n h = level_read r st depth P b (kind b) p form value n h
  piece_read r bytes front form as_nel value n h = nel_read form value n h
  piece_read r bytes front form as_ls value n h = ls_read form value n h
  piece_read r bytes front form (as_c2 q) value n h = kept_read xml11 st depth 0xC2 form value n (λ i. c2_head i form q) h
  piece_read r bytes front form (as_e2 q) value n h = kept_read xml11 st depth 0xE2 form value n (λ i. e2_head i form q) h

  pieces_read : (r : Rule) (value form : List ℕ) → Pieces r value form → (n : ℕ) → ReadAs r st depth form value n
  unfolding run tokens
  pieces_read r value form none n offset = refl
  pieces_read r value form (more {bytes = bytes} {front = front} {rest = rest} {form = left} p m) n offset =
      piece_read r bytes front left p rest n (λ i. pieces_read r rest left m n i) offset

-- ---- the theorems

-- read again at a depth of at least 1
pub reread : (r : Rule) (st : Settings) (depth : ℕ) → Readable st → (value : List ℕ) → walk st (attribute_head r) (suc depth) (canonical r value) 0 ≡ done value 0
unfolding walk
reread r st depth P value = pieces_read st depth P r value (canonical r value) (canonical_pieces r value) 0 0

-- the four are copied in replacement texts
abbrev Copied : Heads → Type 0
Copied at = (at 0 60 [] ≡ head (copy 60) 0) × (at 0 62 [] ≡ head (copy 62) 0) × (at 0 39 [] ≡ head (copy 39) 0) × (at 0 34 [] ≡ head (copy 34) 0)

copied : (r : Rule) (past : Bool) → Copied (inner_head past r)
unfolding inner_head
copied r true = (refl, refl, refl, refl)
copied xml10 false = (refl, refl, refl, refl)
copied xml11 false = (refl, refl, refl, refl)

-- past line ends or not
pub readable : (r : Rule) (past : Bool) (bind : List ℕ → Bound) (limit : ℕ) → LeavesPredefined bind → Readable (reading r past bind limit)
unfolding reading
readable r past bind limit P =
    let four = copied r past in
    record {
      names = P;
      lt_copied = four.0;
      gt_copied = four.1;
      apos_copied = four.2;
      quot_copied = four.3;
      cr_legal = refl;
      lf_legal = refl;
      tab_legal = refl;
      nel_legal = refl;
      ls_legal = refl;
    }

-- A canonical form is read, with any limit, at any depth from 1 on and with any binding that leaves lt, gt, apos and quot predefined, past line
-- ends or not, as the value it was written from, with no opening.
pub normalize_canonical : (r : Rule) (past : Bool) (bind : List ℕ → Bound) (limit depth : ℕ) → LeavesPredefined bind → (value : List ℕ)
    → normalize (reading r past bind limit) (suc depth) (canonical r value) ≡ done value 0
unfolding normalize reading
normalize_canonical r past bind limit depth P value = reread r (reading r past bind limit) depth (readable r past bind limit P) value

no_table_lem : LeavesPredefined (binding (0 ∷ []) [])
unfolding binding
no_table_lem = record { lt = refl; gt = refl; apos = refl; quot = refl }

-- equal canonical forms are of equal values
pub canonical_injective : (r : Rule) (a b : List ℕ) → canonical r a ≡ canonical r b → a ≡ b
canonical_injective r a b e =
    let p : done a 0 ≡ done b 0 =
    sym (normalize_canonical r false (binding (0 ∷ []) []) 0 0 no_table_lem a)
    ∙ ap (λ (t : List ℕ). normalize (reading r false (binding (0 ∷ []) []) 0) 1 t) e
    ∙ normalize_canonical r false (binding (0 ∷ []) []) 0 0 no_table_lem b in
    cc

-- Values are equal exactly when their canonical forms are.
pub canonical_exactly : (r : Rule) (a b : List ℕ) → (a ≡ b) ↔ (canonical r a ≡ canonical r b)
canonical_exactly r a b = (λ e. ap (canonical r) e, canonical_injective r a b)
