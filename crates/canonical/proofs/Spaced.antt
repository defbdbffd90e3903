-- A text whose TAB and LF are copied as spaces, where these are wanted: it has the same U+0085 and U+2028, and level 0 writes and counts it as
-- level 3 does. Assumes nothing.
use mathlib.Core.Path.{◌≡◌, refl, sym, ap, ap₂, ◌∙◌}
use mathlib.Core.Bool.{Bool, true, false, ◌&&◌, ◌||◌, true≢false}
use mathlib.Core.List.{List, [], ◌∷◌, ◌++◌, append-nil}
use Prim.Native.Nat.{ℕ, zero, suc, ◌+◌, ◌-◌, ◌<◌}
use native.Mathlib.Omega.{arith}
use lib.Dec.{eqb}
use lib.ListN.{length, take, drop, length-append, length-take}
use lib.Seq.{take_all, drop-drop}
use borrow.Author.Tests.{ne_eqb}
use borrow.Rule.Slice.PartMut.{mid_of}
use Rattle.text.specs.Bytes.{pick, begins}
use Rattle.text.specs.Version.{Rule, xml10, xml11}
use Rattle.text.proofs.Bytes.{or_left, or_right}
use Rattle.halts.specs.Halts.{halts, Smooth, spaced, blanks_spaced}
use Rattle.eols.specs.Stops.{rule_for}
use Rattle.runs.specs.Specials.{special, Common}
use Rattle.escape.specs.Escape.{Replacements, full, attribute, level_set, write, write_byte}
use Rattle.escape.specs.Scan.{chars_set, level_chars, shown, Shows}
use Rattle.escape.specs.declared.EscapeChars.{EscapeChars}
use Rattle.escape.proofs.View.{Kind, Other, is_lt, is_gt, is_amp_lem, is_apos, is_quot, is_cr_lem, is_lf, is_tab, is_other, kind}
use Rattle.escape.proofs.Levels.{chars_level}
use Rattle.escape.proofs.Shown.{shown_length, shown_mid}
use Rattle.canonical.specs.Canonical.{canonical}
use Rattle.canonical.proofs.Between.{common_write, canonical_over}

-- ---- U+0085 and U+2028

-- a byte past the space is there in both
spaced_past : (b p : ℕ) → 32 < p → Kind b → eqb (spaced b) p ≡ eqb b p
spaced_past b p h is_tab = ne_eqb 32 p (λ q. omega arith) ∙ sym (ne_eqb 9 p (λ q. omega arith))
spaced_past b p h is_lf = ne_eqb 32 p (λ q. omega arith) ∙ sym (ne_eqb 10 p (λ q. omega arith))
spaced_past b p h is_lt = refl
spaced_past b p h is_gt = refl
spaced_past b p h is_amp_lem = refl
spaced_past b p h is_apos = refl
spaced_past b p h is_quot = refl
spaced_past b p h is_cr_lem = refl
spaced_past b p h (is_other o) = rw (o.no_tab, o.no_lf)

-- a pattern of such bytes
abbrev Past : List ℕ → Type 0
Past [] = Unit {0}
Past (p ∷ ps) = (32 < p) × Past ps

spaced_begins : (ps t : List ℕ) → Past ps → begins ps (blanks_spaced t) ≡ begins ps t
spaced_begins [] t h = refl
spaced_begins (p ∷ ps) [] h = refl
spaced_begins (p ∷ ps) (b ∷ bs) h = ap₂ ◌&&◌ (spaced_past b p h.0 (kind b)) (spaced_begins ps bs h.1)

spaced_special : (r : Rule) (t : List ℕ) → special r (blanks_spaced t) ≡ special r t
spaced_special xml10 t = refl
spaced_special xml11 t =
    ap₂ (λ (a b : Bool). pick a 2 (pick b 3 0)) (spaced_begins (0xC2 ∷ 0x85 ∷ []) t (omega arith, (omega arith, tt)))
    (spaced_begins (0xE2 ∷ 0x80 ∷ 0xA8 ∷ []) t (omega arith, (omega arith, (omega arith, tt))))

spaced_drop : (i : ℕ) (t : List ℕ) → blanks_spaced (drop i t) ≡ drop i (blanks_spaced t)
spaced_drop zero t = refl
spaced_drop (suc i) [] = refl
spaced_drop (suc i) (b ∷ bs) = spaced_drop i bs

pub shown_special : (s : Bool) (r : Rule) (t : List ℕ) (i : ℕ) → special r (drop i (shown s t)) ≡ special r (drop i t)
shown_special false r t i = refl
shown_special true r t i = ap (special r) (sym (spaced_drop i t)) ∙ spaced_special r (drop i t)

pub shown_common : (s : Bool) {r : Rule} {t : List ℕ} {i e : ℕ} → Common r t i e → Common r (shown s t) i e
shown_common s {r} {t} p =
    record { from = p.from; to = rw (shown_length s t) p.to; none = λ k g h. shown_special s r t k ∙ p.none k g h }

-- where a run that is not the last ends: one of the two, so many bytes wide
pub record Stop (newer : Bool) (t : List ℕ) (e width : ℕ) : Type 0 where
  pub inside : e < length t
  pub some : 0 < special (rule_for newer) (drop e t)
  pub width_is : width ≡ special xml11 (drop e t)

pub shown_stop : (newer s : Bool) (t : List ℕ) {e width : ℕ} → e < length t → (e < length t → 0 < special (rule_for newer) (drop e t))
    → width ≡ special xml11 (drop e t) → Stop newer (shown s t) e width
shown_stop newer s t {e} h some w =
    record {
      inside = omega (arith, h, shown_length s t);
      some = omega (arith, shown_special s (rule_for newer) t e, some h);
      width_is = w ∙ sym (shown_special s xml11 t e);
    }

-- ---- what is written

pub run_shows : (s : Bool) → Shows (level_chars (pick s full attribute)) s
unfolding level_chars
run_shows false e = absurd (true≢false (sym e))
run_shows true e = refl

pub spaced_other : (b : ℕ) → Other b → spaced b ≡ b
spaced_other b o = rw (o.no_tab, o.no_lf)

-- a byte that neither level replaces
plain_byte : (b : ℕ) → Other b → (write_byte (level_set full) b ≡ b ∷ []) × (write_byte (level_set attribute) b ≡ b ∷ [])
unfolding level_set
plain_byte b o =
    (rw (o.no_apos, o.no_quot, o.no_gt, o.no_lt, o.no_amp, o.no_cr), rw (o.no_lf, o.no_tab, o.no_apos, o.no_quot, o.no_gt, o.no_lt, o.no_amp, o.no_cr))

spaced_byte : (b : ℕ) → Kind b → write_byte (level_set full) (spaced b) ≡ write_byte (level_set attribute) (spaced b)
unfolding level_set
spaced_byte b is_tab = refl
spaced_byte b is_lf = refl
spaced_byte b is_lt = refl
spaced_byte b is_gt = refl
spaced_byte b is_amp_lem = refl
spaced_byte b is_apos = refl
spaced_byte b is_quot = refl
spaced_byte b is_cr_lem = refl
spaced_byte b (is_other o) =
    ap (write_byte (level_set full)) (spaced_other b o) ∙ (plain_byte b o).0 ∙ sym (ap (write_byte (level_set attribute)) (spaced_other b o) ∙ (plain_byte b o).1)

spaced_write : (t : List ℕ) → write (level_set full) (blanks_spaced t) ≡ write (level_set attribute) (blanks_spaced t)
unfolding write
spaced_write [] = refl
spaced_write (b ∷ bs) = ap₂ ◌++◌ (spaced_byte b (kind b)) (spaced_write bs)

counted_byte : (b : ℕ) → Kind b → length (write_byte (level_set full) b) ≡ length (write_byte (level_set full) (spaced b))
unfolding level_set
counted_byte b is_tab = refl
counted_byte b is_lf = refl
counted_byte b is_lt = refl
counted_byte b is_gt = refl
counted_byte b is_amp_lem = refl
counted_byte b is_apos = refl
counted_byte b is_quot = refl
counted_byte b is_cr_lem = refl
counted_byte b (is_other o) = sym (ap (λ (c : ℕ). length (write_byte (level_set full) c)) (spaced_other b o))

counted_write : (t : List ℕ) → length (write (level_set full) t) ≡ length (write (level_set full) (blanks_spaced t))
unfolding write
counted_write [] = refl
counted_write (b ∷ bs) =
    length-append (write_byte (level_set full) b) (write (level_set full) bs)
    ∙ ap₂ ◌+◌ (counted_byte b (kind b)) (counted_write bs)
    ∙ sym (length-append (write_byte (level_set full) (spaced b)) (write (level_set full) (blanks_spaced bs)))

-- a part of the text, and its length
pub part_written : (s : Bool) (i n : ℕ) (t : List ℕ)
    → write (chars_set (level_chars (pick s full attribute))) (shown s (mid_of i n t)) ≡ write (level_set attribute) (mid_of i n (shown s t))
part_written s i n t = go s ∙ ap (write (level_set attribute)) (shown_mid s i n t)
  where
    go : (s : Bool) → write (chars_set (level_chars (pick s full attribute))) (shown s (mid_of i n t)) ≡ write (level_set attribute) (shown s (mid_of i n t))
    go false = ap (λ (set : Replacements). write set (mid_of i n t)) (chars_level attribute)
    go true = ap (λ (set : Replacements). write set (blanks_spaced (mid_of i n t))) (chars_level full) ∙ spaced_write (mid_of i n t)

pub part_of : (s : Bool) (i n : ℕ) (t : List ℕ) {chars : EscapeChars} → chars ≡ level_chars (pick s full attribute)
    → write (chars_set chars) (shown s (mid_of i n t)) ≡ write (level_set attribute) (mid_of i n (shown s t))
part_of s i n t e = ap (λ (chars : EscapeChars). write (chars_set chars) (shown s (mid_of i n t))) e ∙ part_written s i n t

pub part_counted : (s : Bool) (l : List ℕ)
    → length (write (chars_set (level_chars (pick s full attribute))) l) ≡ length (write (chars_set (level_chars (pick s full attribute))) (shown s l))
part_counted false l = refl
part_counted true l =
    ap (λ (set : Replacements). length (write set l)) (chars_level full)
    ∙ counted_write l
    ∙ sym (ap (λ (set : Replacements). length (write set (blanks_spaced l))) (chars_level full))

-- ---- a run that no halt of XML 1.1 is in has the same form under both versions

smooth_special : (t : List ℕ) → halts true t ≡ false → special xml11 t ≡ 0
smooth_special [] e = refl
smooth_special (b ∷ bs) e =
    let two = begins (0xC2 ∷ 0x85 ∷ []) (b ∷ bs) in
    let three = begins (0xE2 ∷ 0x80 ∷ 0xA8 ∷ []) (b ∷ bs) in
    let both = or_right (eqb b 38 || eqb b 13) (two || three) e in
    ap₂ (λ (x y : Bool). pick x 2 (pick y 3 0)) (or_left two three both) (or_right two three both)

begins_take : (ps : List ℕ) (n : ℕ) (t : List ℕ) → begins ps t ≡ false → begins ps (take n t) ≡ false
begins_take [] n t e = e
begins_take (p ∷ ps) zero t e = refl
begins_take (p ∷ ps) (suc n) [] e = refl
begins_take (p ∷ ps) (suc n) (b ∷ bs) e = go (λ q. begins_take ps n bs q) (eqb b p) e
  where
    go : (begins ps bs ≡ false → begins ps (take n bs) ≡ false) → (x : Bool) → x && begins ps bs ≡ false → x && begins ps (take n bs) ≡ false
    go ih true q = ih q
    go ih false q = refl

none_special : (a b : Bool) → ◌≡◌ {A = ℕ} (pick a 2 (pick b 3 0)) 0 → (a ≡ false) × (b ≡ false)
none_special true b e = absurd (omega (arith, e))
none_special false true e = absurd (omega (arith, e))
none_special false false e = (refl, refl)

special_take : (n : ℕ) (t : List ℕ) → special xml11 t ≡ 0 → special xml11 (take n t) ≡ 0
special_take n t e =
    let none = none_special (begins (0xC2 ∷ 0x85 ∷ []) t) (begins (0xE2 ∷ 0x80 ∷ 0xA8 ∷ []) t) e in
    ap₂ (λ (x y : Bool). pick x 2 (pick y 3 0)) (begins_take (0xC2 ∷ 0x85 ∷ []) n t none.0) (begins_take (0xE2 ∷ 0x80 ∷ 0xA8 ∷ []) n t none.1)

drop_take : (k n : ℕ) (t : List ℕ) → drop k (take n t) ≡ take (n - k) (drop k t)
drop_take zero n t = let q : n - 0 ≡ n = omega arith in rw q refl
drop_take (suc k) zero t = ap (λ (m : ℕ). take m (drop (suc k) t)) (let q : ◌≡◌ {A = ℕ} 0 (0 - suc k) = omega arith in q)
drop_take (suc k) (suc n) [] = let q : suc n - suc k ≡ n - k = omega arith in rw q (sym (take_none (n - k)))
  where
    take_none : (m : ℕ) → ◌≡◌ {A = List ℕ} (take m []) []
    take_none zero = refl
    take_none (suc m) = refl
drop_take (suc k) (suc n) (b ∷ bs) = let q : suc n - suc k ≡ n - k = omega arith in rw q (drop_take k n bs)

part_common : (t : List ℕ) (i e : ℕ) → Smooth true t i e → Common xml11 (mid_of i (e - i) t) 0 (length (mid_of i (e - i) t))
part_common t i e s =
    record {
      from = omega arith;
      to = omega arith;
      none = λ k g h.
          let small = length-take (e - i) (drop i t) in
          let here = smooth_special (drop (i + k) t) (s.none (i + k) (omega arith) (omega arith)) in
          ap (special xml11) (drop_take k (e - i) (drop i t)) ∙ special_take (e - i - k) (drop k (drop i t)) (ap (special xml11) (drop-drop k i t) ∙ here);
    }

-- level 3 writes all of a text without the two
written_common : (r : Rule) (t : List ℕ) → Common r t 0 (length t) → canonical r t ≡ write (level_set attribute) t
unfolding canonical
written_common r t p =
    common_write r t 0 (length t) p
    ∙ ap₂ ◌++◌ (ap (write (level_set attribute)) (take_all (length t - 0) t (omega arith))) (canonical_over r t (length t) (omega arith))
    ∙ append-nil (write (level_set attribute) t)

-- so that its writer need not look for them
pub smooth_older : (t : List ℕ) (i e : ℕ) → Smooth true t i e
    → canonical xml11 (blanks_spaced (mid_of i (e - i) t)) ≡ canonical xml10 (blanks_spaced (mid_of i (e - i) t))
smooth_older t i e s =
    let l = mid_of i (e - i) t in
    let p = shown_common true (part_common t i e s) in
    let q : Common xml11 (blanks_spaced l) 0 (length (blanks_spaced l)) = rw (sym (shown_length true l)) at p in
    written_common xml11 (blanks_spaced l) q
    ∙ sym (written_common xml10 (blanks_spaced l) (record { from = omega arith; to = omega arith; none = λ k g h. refl }))
