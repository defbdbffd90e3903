-- A run without the bytes of `changed_by` is its own canonical form, TAB and LF as spaces (`own_form`). Runs tested by blocks, the last of which
-- may overlap with the one before it (`block_more`, `block_last`). Assumes nothing.
use mathlib.Core.Path.{◌≡◌, refl, sym, ap, ◌∙◌}
use mathlib.Core.Bool.{Bool, true, false, ◌&&◌, ◌||◌, true≢false}
use mathlib.Core.List.{List, [], ◌∷◌}
use Prim.Native.Nat.{ℕ, suc, ◌+◌, ◌-◌, ◌≤◌, ◌<◌, zero-le, min}
use native.Mathlib.Omega.{arith}
use lib.Dec.{eqb, ltb}
use lib.ListN.{length, take, drop, get_or, length-drop}
use lib.Seq.{length-take-le, get_or-take, get_or-drop}
use borrow.Author.Tests.{ltb-true, ltb-false}
use Rattle.text.proofs.Bytes.{or_left, or_right}
use Rattle.output.specs.Runs.{Plain}
use Rattle.output.proofs.Runs.{plain_of}
use Rattle.eols.specs.Stops.{rule_for}
use Rattle.halts.specs.Halts.{spaced, blanks_spaced}
use Rattle.escape.specs.Escape.{full}
use Rattle.escape.specs.Scan.{escaped_by, level_chars}
use Rattle.escape.proofs.View.{Kind, Other, is_lt, is_gt, is_amp_lem, is_apos, is_quot, is_cr_lem, is_lf, is_tab, is_other, kind}
use Rattle.canonical.specs.Canonical.{canonical}
use Rattle.canonical.specs.Runs.{changed_by, Unchanged}
use Rattle.canonical.proofs.Spaced.{spaced_other}

-- ---- the form

-- the bytes in the order of the code
pub changed_byte : (newer : Bool) (b : ℕ) → Kind b
    → eqb b 60 || eqb b 62 || eqb b 38 || eqb b 39 || eqb b 34 || eqb b 13 || (newer && (eqb b 0xC2 || eqb b 0xE2)) ≡ changed_by newer b
unfolding changed_by
changed_byte newer b is_lt = refl
changed_byte newer b is_gt = refl
changed_byte newer b is_amp_lem = refl
changed_byte newer b is_apos = refl
changed_byte newer b is_quot = refl
changed_byte newer b is_cr_lem = refl
changed_byte newer b is_lf = refl
changed_byte newer b is_tab = refl
changed_byte newer b (is_other o) = rw (o.no_apos, o.no_quot, o.no_gt, o.no_lt, o.no_amp, o.no_cr)

-- a byte is written as it is, and stands for no other
own_other : (newer : Bool) (b : ℕ) (t : List ℕ) → Other b → changed_by newer b ≡ false → canonical (rule_for newer) (b ∷ t) ≡ b ∷ canonical (rule_for newer) t
unfolding canonical changed_by
own_other false b t o e = rw (o.no_lf, o.no_tab, o.no_apos, o.no_quot, o.no_gt, o.no_lt, o.no_amp, o.no_cr)
own_other true b t o e =
    let no_start = or_right (escaped_by (level_chars full) b) (eqb b 0xC2 || eqb b 0xE2) e in
    let no-c2 = or_left (eqb b 0xC2) (eqb b 0xE2) no_start in
    let no-e2 = or_right (eqb b 0xC2) (eqb b 0xE2) no_start in
    rw (no-c2, no-e2, o.no_lf, o.no_tab, o.no_apos, o.no_quot, o.no_gt, o.no_lt, o.no_amp, o.no_cr)

own_byte : (newer : Bool) (b : ℕ) (t : List ℕ) → Kind b → changed_by newer b ≡ false
    → canonical (rule_for newer) (spaced b ∷ t) ≡ spaced b ∷ canonical (rule_for newer) t
unfolding canonical changed_by
own_byte newer b t is_lt e = absurd (true≢false e)
own_byte newer b t is_gt e = absurd (true≢false e)
own_byte newer b t is_amp_lem e = absurd (true≢false e)
own_byte newer b t is_apos e = absurd (true≢false e)
own_byte newer b t is_quot e = absurd (true≢false e)
own_byte newer b t is_cr_lem e = absurd (true≢false e)
own_byte false b t is_lf e = refl
own_byte true b t is_lf e = refl
own_byte false b t is_tab e = refl
own_byte true b t is_tab e = refl
own_byte newer b t (is_other o) e = rw (spaced_other b o) (own_other newer b t o e)

own_bytes : (newer : Bool) (run : List ℕ) → ((k : ℕ) → k < length run → changed_by newer (get_or run k 0) ≡ false)
    → canonical (rule_for newer) (blanks_spaced run) ≡ blanks_spaced run
unfolding canonical
own_bytes newer [] f = refl
own_bytes newer (b ∷ bs) f =
    own_byte newer b (blanks_spaced bs) (kind b) (f 0 (omega arith))
    ∙ ap (λ (t : List ℕ). spaced b ∷ t) (own_bytes newer bs (λ k h. f (suc k) (omega (arith, h))))

pub own_form : (newer : Bool) (run : List ℕ) → Unchanged newer run → canonical (rule_for newer) (blanks_spaced run) ≡ blanks_spaced run
own_form newer run p = own_bytes newer run (λ k h. p.none k (omega arith) h)

-- ---- what the loops over a run find

pub plain_whole : {stop : ℕ → Bool} {run : List ℕ} {i : ℕ} → Plain stop run 0 i → length run ≤ i → Plain stop run 0 (length run)
plain_whole {stop} {run} {i} p h = let q : i ≡ length run = omega (arith, p.to, h) in rw q at p

-- a block by itself, and as a part of the run
pub block_in : {stop : ℕ → Bool} {run : List ℕ} (at size : ℕ) → at + size ≤ length run
    → Plain stop (take (at + size - at) (drop at run)) 0 (length (take (at + size - at) (drop at run))) → Plain stop run at (at + size)
block_in {stop} {run} at size h p =
    let n : at + size - at ≡ size = omega arith in
    let long : length (take size (drop at run)) ≡ size = length-take-le size (drop at run) (rw (length-drop at run) (omega arith)) in
    let block : Plain stop (take size (drop at run)) 0 (length (take size (drop at run))) = rw n at p in
    plain_of stop run at size h
    (λ m l. ap stop (sym (get_or-take size (drop at run) m 0 l ∙ get_or-drop at run m 0)) ∙ block.none m zero-le (rw long l))

-- after the test of a block of `size` bytes, which starts at i, or before it where it is the last one
module _ (size : ℕ) {stop : ℕ → Bool} {run : List ℕ} {i at : ℕ} (before : Plain stop run 0 i)
    (starts : at ≡ min i (length run - size)) (block : Plain stop run at (at + size)) where
  reached : Plain stop run 0 (at + size)
  reached = record { from = omega arith; to = block.to; none = λ k g l. go k (ltb k i) refl l }
    where
      go : (k : ℕ) (x : Bool) → ltb k i ≡ x → k < at + size → stop (get_or run k 0) ≡ false
      go k true q l = before.none k (omega arith) (ltb-true k i q)
      go k false q l = block.none k (omega (arith, starts, ltb-false k i q)) l

  pub block_more : i < length run - size → Plain stop run 0 (i + size)
  block_more h = let q : at + size ≡ i + size = omega (arith, starts, h) in rw q at reached

  pub block_last : length run - size ≤ i → Plain stop run 0 (length run)
  block_last h = plain_whole reached (omega (arith, starts, h))
