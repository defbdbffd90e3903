-- The references that are written, and the sets that flags name, the four levels among them. Assumes nothing.
use mathlib.Core.Path.{◌≡◌, refl, subst}
use mathlib.Core.Bool.{Bool, true, false, ◌&&◌}
use mathlib.Core.Logic.{◌≢◌}
use mathlib.Core.List.{List, [], ◌∷◌}
use Prim.Native.Nat.{ℕ, ◌+◌, ◌*◌, ◌≤◌, ◌<◌}
use native.Mathlib.Omega.{arith}
use lib.Dec.{eqb, leb, lit≤}
use lib.ListN.{length, take, drop, get_or, length-append, length-drop}
use lib.Seq.{get_or-drop}
use Rattle.text.specs.Bytes.{pick}
use Rattle.text.specs.Utf8.{WellFormed}
use Rattle.text.proofs.Bytes.{pick_by, contrary}
use Rattle.text.proofs.Utf8.{all_ascii}
use borrow.Author.Tests.{ne_eqb}
use Rattle.text.specs.Call.{laid}
use Rattle.escape.specs.Escape.{Level, write_byte, write, full, partial, minimal, attribute, reference, level_set}
use Rattle.escape.specs.Scan.{escaped_by, reference_by, added_by, chars_set, level_chars}
use Rattle.escape.specs.declared.EscapeChars.{EscapeChars}
use Rattle.escape.proofs.Write.{Sized, Ascii, byte_most, write_next, write_least, write_most, write_well_formed}
use Rattle.escape.proofs.View.{Kind, Other, is_lt, is_gt, is_amp_lem, is_apos, is_quot, is_cr_lem, is_lf, is_tab, is_other, kind}

-- where both are the same
pub pick_same : (t : Bool) (l : List ℕ) → pick t l l ≡ l
pick_same true l = refl
pick_same false l = refl

-- a byte that no set replaces
pub reference_other : (hex : Bool) (b : ℕ) → b ≢ 60 → b ≢ 62 → b ≢ 38 → b ≢ 39 → b ≢ 34 → b ≢ 13 → b ≢ 10 → b ≢ 9 → reference_by hex b ≡ b ∷ []
unfolding reference_by
reference_other hex b lt gt amp apos quot cr lf tab =
    rw (ne_eqb b 60 lt, ne_eqb b 62 gt, ne_eqb b 38 amp, ne_eqb b 39 apos, ne_eqb b 34 quot, ne_eqb b 13 cr, ne_eqb b 10 lf, ne_eqb b 9 tab)
    (pick_same hex (b ∷ []))

-- what holds of the three numbers and of the references of the levels holds of every reference
pub reference_by_lem : (P : List ℕ → Type 0) (hex : Bool) (b : ℕ) → P (38 ∷ 35 ∷ 120 ∷ 57 ∷ 59 ∷ []) → P (38 ∷ 35 ∷ 120 ∷ 65 ∷ 59 ∷ [])
    → P (38 ∷ 35 ∷ 120 ∷ 68 ∷ 59 ∷ []) → P (reference b) → P (reference_by hex b)
unfolding reference_by
reference_by_lem P false b tab lf cr other = other
reference_by_lem P true b tab lf cr other =
    pick_by P (eqb b 9) (λ e. tab) (λ e. pick_by P (eqb b 10) (λ f. lf) (λ f. pick_by P (eqb b 13) (λ g. cr) (λ g. other)))

-- a writer of these bytes is a writer of the reference that they are
pub reference_room : {some bytes : List ℕ} {room : ℕ} → some ≡ bytes → length some ≤ room → length bytes ≤ room
reference_room e h = rw e at h

pub reference_put : {some bytes : List ℕ} {count : ℕ} {new : List ℕ} (out : List ℕ) → some ≡ bytes
    → (count ≡ length bytes) × (new ≡ laid bytes out) → (count ≡ length some) × (new ≡ laid some out)
reference_put out e p = rw e p

-- the flags of a level name the bytes that it replaces
pub chars_level : (level : Level) → chars_set (level_chars level) ≡ level_set level
unfolding chars_set level_chars level_set
chars_level full = refl
chars_level partial = refl
chars_level minimal = refl
chars_level attribute = refl

-- ---- the count

and_false : (t : Bool) → t && false ≡ false
and_false true = refl
and_false false = refl

abbrev AddedAt : Bool → Bool → Bool → Bool → Bool → ℕ → Type 0
AddedAt blanks apos quot gt hex b =
    added_by (record { blanks = blanks; apos = apos; quot = quot; gt = gt; hex = hex }) b + 1
    ≡ length (write_byte (chars_set (record { blanks = blanks; apos = apos; quot = quot; gt = gt; hex = hex })) b)

added_at : (blanks apos quot gt hex : Bool) (b : ℕ) → Kind b → AddedAt blanks apos quot gt hex b
unfolding added_by chars_set
added_at blanks apos quot gt hex b is_lt = simp (and_false, pick_same)
added_at blanks apos quot true hex b is_gt = simp (and_false, pick_same)
added_at blanks apos quot false hex b is_gt = simp and_false
added_at blanks apos quot gt hex b is_amp_lem = simp (and_false, pick_same)
added_at blanks true quot gt hex b is_apos = simp (and_false, pick_same)
added_at blanks false quot gt hex b is_apos = simp and_false
added_at blanks apos true gt hex b is_quot = simp (and_false, pick_same)
added_at blanks apos false gt hex b is_quot = simp and_false
added_at blanks apos quot gt true b is_cr_lem = simp and_false
added_at blanks apos quot gt false b is_cr_lem = simp and_false
added_at true apos quot gt true b is_lf = refl
added_at true apos quot gt false b is_lf = refl
added_at false apos quot gt hex b is_lf = simp and_false
added_at true apos quot gt true b is_tab = refl
added_at true apos quot gt false b is_tab = refl
added_at false apos quot gt hex b is_tab = simp and_false
added_at blanks apos quot gt hex b (is_other o) =
    rw (o.no_lt, o.no_gt, o.no_amp, o.no_apos, o.no_quot, o.no_cr, o.no_lf, o.no_tab) (simp and_false)

pub added_length : (chars : EscapeChars) (b : ℕ) → added_by chars b + 1 ≡ length (write_byte (chars_set chars) b)
added_length chars b = added_at chars.blanks chars.apos chars.quot chars.gt chars.hex b (kind b)

-- no byte past `>` is replaced
pub past_gt : (chars : EscapeChars) (b : ℕ) → 62 < b → escaped_by chars b ≡ false
unfolding escaped_by
past_gt chars b h =
    rw (
      ne_eqb b 10 (λ e. omega arith),
      ne_eqb b 9 (λ e. omega arith),
      ne_eqb b 39 (λ e. omega arith),
      ne_eqb b 34 (λ e. omega arith),
      ne_eqb b 62 (λ e. omega arith),
      ne_eqb b 60 (λ e. omega arith),
      ne_eqb b 38 (λ e. omega arith),
      ne_eqb b 13 (λ e. omega arith),
    )
    (simp and_false)

pub past_gt_added : (chars : EscapeChars) (b : ℕ) → 62 < b → added_by chars b ≡ 0
unfolding added_by
past_gt_added chars b h =
    rw (
      ne_eqb b 10 (λ e. omega arith),
      ne_eqb b 9 (λ e. omega arith),
      ne_eqb b 39 (λ e. omega arith),
      ne_eqb b 34 (λ e. omega arith),
      ne_eqb b 62 (λ e. omega arith),
      ne_eqb b 60 (λ e. omega arith),
      ne_eqb b 38 (λ e. omega arith),
      ne_eqb b 13 (λ e. omega arith),
    )

-- ---- their replacements: 1 to 6 bytes, ASCII for ASCII

reference_least : (b : ℕ) → Kind b → 1 ≤ length (reference b)
unfolding reference
reference_least b is_lt = lit≤ tt
reference_least b is_gt = lit≤ tt
reference_least b is_amp_lem = lit≤ tt
reference_least b is_apos = lit≤ tt
reference_least b is_quot = lit≤ tt
reference_least b is_cr_lem = lit≤ tt
reference_least b is_lf = lit≤ tt
reference_least b is_tab = lit≤ tt
reference_least b (is_other o) = rw (o.no_lt, o.no_gt, o.no_amp, o.no_apos, o.no_quot, o.no_cr, o.no_lf, o.no_tab) (lit≤ tt)

reference_most : (b : ℕ) → Kind b → length (reference b) ≤ 6
unfolding reference
reference_most b is_lt = lit≤ tt
reference_most b is_gt = lit≤ tt
reference_most b is_amp_lem = lit≤ tt
reference_most b is_apos = lit≤ tt
reference_most b is_quot = lit≤ tt
reference_most b is_cr_lem = lit≤ tt
reference_most b is_lf = lit≤ tt
reference_most b is_tab = lit≤ tt
reference_most b (is_other o) = rw (o.no_lt, o.no_gt, o.no_amp, o.no_apos, o.no_quot, o.no_cr, o.no_lf, o.no_tab) (lit≤ tt)

pub chars_sized : (chars : EscapeChars) → Sized (chars_set chars)
unfolding chars_set
chars_sized chars =
    record {
      least = λ b e. reference_by_lem (λ l. 1 ≤ length l) chars.hex b (lit≤ tt) (lit≤ tt) (lit≤ tt) (reference_least b (kind b));
      most = λ b e. reference_by_lem (λ l. length l ≤ 6) chars.hex b (lit≤ tt) (lit≤ tt) (lit≤ tt) (reference_most b (kind b));
    }

pub level_sized : (level : Level) → Sized (level_set level)
level_sized level = subst Sized (chars_level level) (chars_sized (level_chars level))

pub added_most : (chars : EscapeChars) (b : ℕ) → added_by chars b ≤ 5
added_most chars b = omega (arith, added_length chars b, byte_most (chars_set chars) (chars_sized chars) b)

-- the count of a part, with one byte more
pub count_next : (chars : EscapeChars) (text : List ℕ) (i k n m : ℕ) → i + k < length text
    → n + k ≡ length (write (chars_set chars) (take k (drop i text))) → m ≡ added_by chars (get_or text (i + k) 0)
    → n + m + (k + 1) ≡ length (write (chars_set chars) (take (k + 1) (drop i text)))
count_next chars text i k n m h e q =
    rw (write_next (chars_set chars) (drop i text) k (rw length-drop (omega arith)), length-append, get_or-drop)
    (omega (arith, e, q, added_length chars (get_or text (i + k) 0)))

reference_ascii : (b : ℕ) → Kind b → leb b 0x7F ≡ true → all_ascii (reference b) ≡ true
unfolding reference
reference_ascii b is_lt e = refl
reference_ascii b is_gt e = refl
reference_ascii b is_amp_lem e = refl
reference_ascii b is_apos e = refl
reference_ascii b is_quot e = refl
reference_ascii b is_cr_lem e = refl
reference_ascii b is_lf e = refl
reference_ascii b is_tab e = refl
reference_ascii b (is_other o) e =
    rw (o.no_lt, o.no_gt, o.no_amp, o.no_apos, o.no_quot, o.no_cr, o.no_lf, o.no_tab, e)

-- a byte that is none of the eight is never replaced, and `&` always is
pub escaped_other : (chars : EscapeChars) (b : ℕ) → Other b → escaped_by chars b ≡ false
unfolding escaped_by
escaped_other chars b o =
    rw (o.no_lf, o.no_tab, o.no_apos, o.no_quot, o.no_gt, o.no_lt, o.no_amp, o.no_cr) (simp and_false)

pub chars_amp : (chars : EscapeChars) → escaped_by chars 38 ≡ true
unfolding escaped_by
chars_amp chars = simp and_false

escaped_ascii : (chars : EscapeChars) (b : ℕ) → Kind b → escaped_by chars b ≡ true → leb b 0x7F ≡ true
escaped_ascii chars b is_lt e = refl
escaped_ascii chars b is_gt e = refl
escaped_ascii chars b is_amp_lem e = refl
escaped_ascii chars b is_apos e = refl
escaped_ascii chars b is_quot e = refl
escaped_ascii chars b is_cr_lem e = refl
escaped_ascii chars b is_lf e = refl
escaped_ascii chars b is_tab e = refl
escaped_ascii chars b (is_other o) e = contrary e (escaped_other chars b o)

pub chars_ascii : (chars : EscapeChars) → Ascii (chars_set chars)
unfolding chars_set
chars_ascii chars =
    record {
      picked = λ b e. escaped_ascii chars b (kind b) e;
      written = λ b e. reference_by_lem (λ l. all_ascii l ≡ true) chars.hex b refl refl refl (reference_ascii b (kind b) (escaped_ascii chars b (kind b) e));
      some = λ b e. (chars_sized chars).least b e;
    }

pub level_ascii : (level : Level) → Ascii (level_set level)
level_ascii level = subst Ascii (chars_level level) (chars_ascii (level_chars level))

-- ---- what every level keeps: the written length is at least the text's and at most 6 times it, and UTF-8 stays UTF-8

-- An escaped text is at least as long as the text.
pub escape_least : (level : Level) (text : List ℕ) → length text ≤ length (write (level_set level) text)
escape_least level text = write_least (level_set level) (level_sized level) text

-- An escaped text is at most 6 times as long as the text.
pub escape_most : (level : Level) (text : List ℕ) → length (write (level_set level) text) ≤ 6 * length text
escape_most level text = write_most (level_set level) (level_sized level) text

-- A UTF-8 text escaped at any of the four levels is UTF-8.
pub escape_well_formed : (level : Level) (text : List ℕ) → WellFormed text → WellFormed (write (level_set level) text)
escape_well_formed level text h = write_well_formed (level_set level) (level_ascii level) text h
