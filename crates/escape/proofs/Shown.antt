-- Texts whose TAB and LF are copied as spaces, where these are wanted: byte by byte, and neither they nor spaces are escaped. Assumes nothing.
use mathlib.Core.Path.{◌≡◌, refl, sym, ap, ◌∙◌}
use mathlib.Core.Bool.{Bool, true, false, ◌&&◌, ◌||◌, true≢false}
use mathlib.Core.List.{List, [], ◌∷◌}
use Prim.Native.Nat.{ℕ, zero, suc, ◌+◌, ◌≤◌}
use native.Mathlib.Omega.{arith}
use lib.Dec.{eqb}
use lib.ListN.{length, take, drop, get_or, length-drop}
use lib.Seq.{length-take-le}
use borrow.Author.Tests.{eqb-true}
use borrow.Rule.Slice.PartMut.{mid_of}
use Rattle.text.specs.Bytes.{pick}
use Rattle.output.specs.Runs.{Plain}
use Rattle.halts.specs.Halts.{blanks_spaced}
use Rattle.halts.proofs.Spaces.{spaced_length, spaced_at}
use Rattle.escape.specs.Scan.{escaped_by, shown_byte, shown, Shows}
use Rattle.escape.specs.declared.EscapeChars.{EscapeChars}

pub shown_length : (s : Bool) (t : List ℕ) → length (shown s t) ≡ length t
shown_length false t = refl
shown_length true t = spaced_length t

spaced_drop : (i : ℕ) (t : List ℕ) → blanks_spaced (drop i t) ≡ drop i (blanks_spaced t)
spaced_drop zero t = refl
spaced_drop (suc i) [] = refl
spaced_drop (suc i) (b ∷ bs) = spaced_drop i bs

spaced_take : (n : ℕ) (t : List ℕ) → blanks_spaced (take n t) ≡ take n (blanks_spaced t)
spaced_take zero t = refl
spaced_take (suc n) [] = refl
spaced_take (suc n) (b ∷ bs) = ap (λ (l : List ℕ). pick (eqb b 9 || eqb b 10) 32 b ∷ l) (spaced_take n bs)

-- a part of it
pub shown_mid : (s : Bool) (i n : ℕ) (t : List ℕ) → shown s (mid_of i n t) ≡ mid_of i n (shown s t)
shown_mid false i n t = refl
shown_mid true i n t = spaced_take n (drop i t) ∙ ap (take n) (spaced_drop i t)

pub mid_length : (i n : ℕ) (t : List ℕ) → i + n ≤ length t → length (mid_of i n t) ≡ n
mid_length i n t h = length-take-le n (drop i t) (rw (length-drop i t) (omega arith))

pub shown_at : (s : Bool) (t : List ℕ) (k : ℕ) → get_or (shown s t) k 0 ≡ shown_byte s (get_or t k 0)
shown_at false t k = refl
shown_at true t k = spaced_at t k

-- ---- what is escaped

no_others : (apos quot gt : Bool) → apos && false || quot && false || gt && false || false || false || false ≡ false
no_others apos quot gt = rw (and_false apos, and_false quot, and_false gt)
  where
    and_false : (t : Bool) → t && false ≡ false
    and_false true = refl
    and_false false = refl

module _ (chars : EscapeChars) (s : Bool) (shows : Shows chars s) where
  pub shown_escaped : (b : ℕ) → escaped_by chars (shown_byte s b) ≡ escaped_by chars b
  unfolding escaped_by
  shown_escaped b = go s shows (eqb b 9) refl (eqb b 10) refl
    where
      go : (s : Bool) → Shows chars s → (t : Bool) → eqb b 9 ≡ t → (l : Bool) → eqb b 10 ≡ l → escaped_by chars (pick (s && (t || l)) 32 b) ≡ escaped_by chars b
      go false h t p l q = refl
      go true h true p l q = rw (eqb-true b 9 p, h refl)
      go true h false p true q = rw (eqb-true b 10 q, h refl)
      go true h false p false q = refl

  -- a byte that is escaped is no blank there
  pub shown_kept : (b : ℕ) → escaped_by chars b ≡ true → shown_byte s b ≡ b
  unfolding escaped_by
  shown_kept b e = go s shows (eqb b 9) refl (eqb b 10) refl
    where
      go : (s : Bool) → Shows chars s → (t : Bool) → eqb b 9 ≡ t → (l : Bool) → eqb b 10 ≡ l → pick (s && (t || l)) 32 b ≡ b
      go false h t p l q = refl
      go true h true p l q = absurd (true≢false (sym e ∙ rw (eqb-true b 9 p, h refl) (no_others chars.apos chars.quot chars.gt)))
      go true h false p true q = absurd (true≢false (sym e ∙ rw (eqb-true b 10 q, h refl) (no_others chars.apos chars.quot chars.gt)))
      go true h false p false q = refl

  pub shown_plain : {t : List ℕ} {i e : ℕ} → Plain (escaped_by chars) t i e → Plain (escaped_by chars) (shown s t) i e
  shown_plain {t} p =
      record {
        from = p.from;
        to = rw (shown_length s t) p.to;
        none = λ k g h. ap (escaped_by chars) (shown_at s t k) ∙ shown_escaped (get_or t k 0) ∙ p.none k g h;
      }
