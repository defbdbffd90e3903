-- A text written by a replacement set is read as itself by any reader that suits the set (`written_read`): one proof for unescaping and for
-- attribute values, for the four levels (demand 2) and for Canonical XML (K1). Assumes nothing.
use mathlib.Core.Path.{◌≡◌, refl, ap, subst, ◌∙◌}
use Prim.Native.Nat.{ℕ, suc}
use mathlib.Core.Bool.{Bool, true, false, ◌&&◌, ◌||◌}
use mathlib.Core.List.{List, [], ◌∷◌, ◌++◌}
use lib.Dec.{eqb}
use borrow.Author.Tests.{eqb-true}
use Rattle.text.proofs.Bytes.{pick_by, contrary, or_left, or_right}
use Rattle.charref.specs.CharRef.{any_character}
use Rattle.entity.specs.Table.{Declaration, declarations}
use Rattle.entity.specs.Binding.{Bound, binding_in, binding}
use Rattle.escape.specs.Escape.{Replacements, write_byte, write, Level, reference, hex_reference, level_of, level_set}
use Rattle.escape.specs.Scan.{escaped_by, reference_by, chars_set, level_chars}
use Rattle.escape.specs.declared.EscapeChars.{EscapeChars}
use Rattle.escape.proofs.View.{Kind, Other, is_lt, is_gt, is_amp_lem, is_apos, is_quot, is_cr_lem, is_lf, is_tab, is_other, kind}
use Rattle.escape.proofs.Levels.{chars_level, chars_amp, escaped_other}
use Rattle.tokens.specs.Tokens.{Stop, number, named, copy, Heads, head, name_at, ended, reference_at, tokens}
use Rattle.tokens.specs.Outcome.{Outcome, done, prepend, run, number_outcome}
use Rattle.tokens.specs.Walking.{Copies}
use Rattle.unescape.specs.Unescape.{text_head, replaced, unescape}

-- ---- any reader: the heads of a text, and the answers to its stops

module _ (at : Heads) (answer : Stop → ℕ → Outcome) where
  abbrev read_from : ℕ → List ℕ → ℕ → Outcome
  read_from offset t n = run answer (tokens at offset 0 t) n

  -- these bytes are read as the byte b, whatever follows and wherever they stand, with no opening
  pub ReadAs : List ℕ → ℕ → Type 0
  ReadAs front b = (rest value : List ℕ) (n : ℕ) → ((offset : ℕ) → read_from offset rest n ≡ done value n)
      → (offset : ℕ) → read_from offset (front ++ rest) n ≡ done (b ∷ value) n

  -- the reader suits a set: each replaced byte is written as a reference that is read as that byte, and all else is copied
  pub record ReadsBack (set : Replacements) : Type 0 where
    pub reads : (b : ℕ) → set.picks b ≡ true → ReadAs (set.by b) b
    pub copies : Copies set.picks at

  copy_read : (b : ℕ) → ((offset : ℕ) (rest : List ℕ) → at offset b rest ≡ head (copy b) 0) → ReadAs (b ∷ []) b
  unfolding tokens run ReadAs
  copy_read b e rest value n h offset = rw (e offset rest) (ap (prepend (b ∷ [])) (h (suc offset)))

  module _ (set : Replacements) (back : ReadsBack set) where
    byte_read : (b : ℕ) → ReadAs (write_byte set b) b
    byte_read b =
        pick_by (λ (front : List ℕ). ReadAs front b) (set.picks b) {a = set.by b} {b = b ∷ []}
        (back.reads b) (λ e. copy_read b (λ offset rest. back.copies offset b rest e))

    -- what is written is read as the text, with no opening
    pub written_read : (t : List ℕ) (n offset : ℕ) → read_from offset (write set t) n ≡ done t n
    unfolding write ReadAs tokens run
    written_read [] n offset = refl
    written_read (b ∷ bs) n offset = byte_read b (write set bs) bs n (written_read bs n) offset

-- a byte that is not replaced is none that is
pub not_picked : (picks : ℕ → Bool) (x b : ℕ) → picks x ≡ true → picks b ≡ false → eqb b x ≡ false
not_picked picks x b h e = go (eqb b x) refl
  where
    go : (t : Bool) → eqb b x ≡ t → t ≡ false
    go true q = contrary h (rw (eqb-true b x q) at e)
    go false q = refl

-- ---- readers of references

-- `;` or `&` stands in a name
unfoldable has_end : List ℕ → Bool
has_end [] = false
has_end (b ∷ bs) = eqb b 59 || eqb b 38 || has_end bs

and_false : (t : Bool) → t && false ≡ false
and_false true = refl
and_false false = refl

-- a name without them runs to the next `;`, for either kind of name
name_ends : (inner : Bool) (name rest : List ℕ) → has_end name ≡ false → name_at inner (name ++ 59 ∷ rest) ≡ ended name
unfolding name_at has_end
name_ends inner [] rest e = refl
name_ends inner (b ∷ bs) rest e =
    let both = or_left (eqb b 59 || eqb b 38) (has_end bs) e in
    let later = name_ends inner bs rest (or_right (eqb b 59 || eqb b 38) (has_end bs) e) in
    rw (or_left (eqb b 59) (eqb b 38) both, or_right (eqb b 59) (eqb b 38) both, and_false inner, later)

-- `&` starts a reference, the five names are read as their characters, and numbers as those of any character
pub record Refers (inner : Bool) (at : Heads) (answer : Stop → ℕ → Outcome) : Type 0 where
  pub heads : (offset : ℕ) (bs : List ℕ) → at offset 38 bs ≡ reference_at offset bs (name_at inner bs)
  pub lt : (offset n : ℕ) → answer (named offset (108 ∷ 116 ∷ [])) n ≡ done (60 ∷ []) n
  pub gt : (offset n : ℕ) → answer (named offset (103 ∷ 116 ∷ [])) n ≡ done (62 ∷ []) n
  pub amp : (offset n : ℕ) → answer (named offset (97 ∷ 109 ∷ 112 ∷ [])) n ≡ done (38 ∷ []) n
  pub apos : (offset n : ℕ) → answer (named offset (97 ∷ 112 ∷ 111 ∷ 115 ∷ [])) n ≡ done (39 ∷ []) n
  pub quot : (offset n : ℕ) → answer (named offset (113 ∷ 117 ∷ 111 ∷ 116 ∷ [])) n ≡ done (34 ∷ []) n
  pub numbers : (digits : List ℕ) (n : ℕ) → answer (number digits) n ≡ number_outcome any_character digits n

module _ (inner : Bool) (at : Heads) (answer : Stop → ℕ → Outcome) (refers : Refers inner at answer) where
  -- the head of a reference with that name
  referred : (name rest : List ℕ) → has_end name ≡ false → (offset : ℕ) → at offset 38 (name ++ 59 ∷ rest) ≡ reference_at offset (name ++ 59 ∷ rest) (ended name)
  referred name rest e offset = refers.heads offset (name ++ 59 ∷ rest) ∙ ap (reference_at offset (name ++ 59 ∷ rest)) (name_ends inner name rest e)

  -- a reference of the levels is read as its byte
  reference_read : (b : ℕ) → Kind b → (Other b → ⊥) → ReadAs at answer (reference b) b
  unfolding reference ReadAs tokens run reference_at number_outcome has_end
  reference_read b is_lt some rest value n h offset = rw (referred (108 ∷ 116 ∷ []) rest refl offset, refers.lt offset n) (ap (prepend (60 ∷ [])) (h _))
  reference_read b is_gt some rest value n h offset = rw (referred (103 ∷ 116 ∷ []) rest refl offset, refers.gt offset n) (ap (prepend (62 ∷ [])) (h _))
  reference_read b is_amp_lem some rest value n h offset = rw (referred (97 ∷ 109 ∷ 112 ∷ []) rest refl offset, refers.amp offset n) (ap (prepend (38 ∷ [])) (h _))
  reference_read b is_apos some rest value n h offset =
      rw (referred (97 ∷ 112 ∷ 111 ∷ 115 ∷ []) rest refl offset, refers.apos offset n) (ap (prepend (39 ∷ [])) (h _))
  reference_read b is_quot some rest value n h offset =
      rw (referred (113 ∷ 117 ∷ 111 ∷ 116 ∷ []) rest refl offset, refers.quot offset n) (ap (prepend (34 ∷ [])) (h _))
  reference_read b is_cr_lem some rest value n h offset =
      rw (referred (35 ∷ 49 ∷ 51 ∷ []) rest refl offset, refers.numbers (49 ∷ 51 ∷ []) n) (ap (prepend (13 ∷ [])) (h _))
  reference_read b is_lf some rest value n h offset =
      rw (referred (35 ∷ 49 ∷ 48 ∷ []) rest refl offset, refers.numbers (49 ∷ 48 ∷ []) n) (ap (prepend (10 ∷ [])) (h _))
  reference_read b is_tab some rest value n h offset =
      rw (referred (35 ∷ 57 ∷ []) rest refl offset, refers.numbers (57 ∷ []) n) (ap (prepend (9 ∷ [])) (h _))
  reference_read b (is_other o) some rest value n h offset = absurd (some o)

  -- and one with a hexadecimal number
  hex_read : (b : ℕ) → Kind b → (Other b → ⊥) → ReadAs at answer (hex_reference b) b
  unfolding hex_reference ReadAs tokens run reference_at number_outcome has_end
  hex_read b is_cr_lem some rest value n h offset =
      rw (referred (35 ∷ 120 ∷ 68 ∷ []) rest refl offset, refers.numbers (120 ∷ 68 ∷ []) n) (ap (prepend (13 ∷ [])) (h _))
  hex_read b is_lf some rest value n h offset =
      rw (referred (35 ∷ 120 ∷ 65 ∷ []) rest refl offset, refers.numbers (120 ∷ 65 ∷ []) n) (ap (prepend (10 ∷ [])) (h _))
  hex_read b is_tab some rest value n h offset =
      rw (referred (35 ∷ 120 ∷ 57 ∷ []) rest refl offset, refers.numbers (120 ∷ 57 ∷ []) n) (ap (prepend (9 ∷ [])) (h _))
  hex_read b is_lt some rest value n h offset = reference_read b is_lt some rest value n h offset
  hex_read b is_gt some rest value n h offset = reference_read b is_gt some rest value n h offset
  hex_read b is_amp_lem some rest value n h offset = reference_read b is_amp_lem some rest value n h offset
  hex_read b is_apos some rest value n h offset = reference_read b is_apos some rest value n h offset
  hex_read b is_quot some rest value n h offset = reference_read b is_quot some rest value n h offset
  hex_read b (is_other o) some rest value n h offset = absurd (some o)

  by_read : (hex : Bool) (b : ℕ) → (Other b → ⊥) → ReadAs at answer (reference_by hex b) b
  unfolding reference_by
  by_read true b some = hex_read b (kind b) some
  by_read false b some = reference_read b (kind b) some

  -- such a reader suits every set that flags name, where it copies what the set does not replace
  pub chars_back : (chars : EscapeChars) → Copies (escaped_by chars) at → ReadsBack at answer (chars_set chars)
  unfolding chars_set
  chars_back chars copies =
      record { reads = λ b e. by_read chars.hex b (λ o. contrary e (escaped_other chars b o)); copies = copies }

-- ---- unescaping

-- the empty table
abbrev pub no_table : List ℕ → Bound
no_table name = binding (0 ∷ []) [] name

-- a set that unescaping suits
abbrev pub UnescapesBack : Replacements → Type 0
UnescapesBack set = ReadsBack text_head (replaced no_table) set

text_refers : Refers true text_head (replaced no_table)
unfolding text_head replaced binding
text_refers =
    record {
      heads = λ offset bs. refl;
      lt = λ offset n. refl;
      gt = λ offset n. refl;
      amp = λ offset n. refl;
      apos = λ offset n. refl;
      quot = λ offset n. refl;
      numbers = λ digits n. refl;
    }

text_copies : (picks : ℕ → Bool) → picks 38 ≡ true → Copies picks text_head
unfolding text_head
text_copies picks amp offset b rest e = rw (not_picked picks 38 b amp e)

-- every set that flags name
pub chars_reads : (chars : EscapeChars) → UnescapesBack (chars_set chars)
chars_reads chars = chars_back true text_head (replaced no_table) text_refers chars (text_copies (escaped_by chars) (chars_amp chars))

-- each of the four levels
pub level_reads : (l : Level) → UnescapesBack (level_set l)
level_reads l = subst UnescapesBack (chars_level l) (chars_reads (level_chars l))

-- over any set that reads back, what is written unescapes, with an empty table, to the text
pub unescape_write : (set : Replacements) → UnescapesBack set → (t : List ℕ) → unescape no_table (write set t) ≡ done t 0
unfolding unescape
unescape_write set back t = written_read text_head (replaced no_table) set back t 0 0

-- ---- every empty table

-- a table that declares nothing reads as the empty table, whatever its pool
pub unescape_undeclared : (list pool : List ℕ) → declarations list ≡ [] → (t : List ℕ) → unescape (binding list pool) t ≡ unescape no_table t
unfolding binding binding_in declarations
unescape_undeclared list pool e t = ap (λ (ds : List Declaration). unescape (λ name. binding_in ds pool name) t) e

-- demand 2: a text escaped at any of the four levels unescapes, with an empty table, to itself
pub unescape_escape : (level : ℕ) (t : List ℕ) (list pool : List ℕ) → declarations list ≡ []
    → unescape (binding list pool) (write (level_set (level_of level)) t) ≡ done t 0
unescape_escape level t list pool e =
    unescape_undeclared list pool e (write (level_set (level_of level)) t) ∙ unescape_write (level_set (level_of level)) (level_reads (level_of level)) t
