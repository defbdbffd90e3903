-- The canonical form of two parts of a value, the second of which starts with a character, is the forms of the parts, joined. Assumes nothing.
use mathlib.Core.Path.{◌≡◌, refl, sym, ap, ap₂, ◌∙◌}
use mathlib.Core.Bool.{Bool, true, false, ◌&&◌, true≢false}
use mathlib.Core.List.{List, [], ◌∷◌, ◌++◌, append_assoc}
use Prim.Native.Nat.{ℕ, zero, suc, ◌+◌, ◌/◌, ◌≤◌, ◌<◌}
use native.Mathlib.Omega.{arith}
use lib.Dec.{eqb}
use lib.ListN.{length}
use borrow.Author.Tests.{ne_eqb}
use Rattle.text.specs.Bytes.{pick, within, begins}
use Rattle.text.specs.Version.{Rule, xml10, xml11}
use Rattle.text.specs.Utf8.{WellFormed}
use Rattle.text.proofs.Utf8.{never_between, well_formed_append}
use Rattle.text.proofs.Bytes.{within_low, within_top, above, below, pick_by}
use Rattle.text.proofs.Patterns.{begins_fits}
use Rattle.text.proofs.FirstByte.{first_low}
use Rattle.charref.specs.CharRef.{encode}
use Rattle.charref.proofs.Encoding.{by_size}
use Rattle.canonical.specs.Canonical.{canonical_byte, covered, canonical_from, canonical}
use Rattle.canonical.specs.Starts.{Starts}

-- ---- what starts with a character

pub starts_append : (xs ys : List ℕ) → Starts xs → Starts ys → Starts (xs ++ ys)
starts_append [] ys h k = k
starts_append (x ∷ xs) ys h k = h

pub starts_ascii : (b : ℕ) (bs : List ℕ) → b < 0x80 → Starts (b ∷ bs)
starts_ascii b bs h = below 0x80 0xBF b (omega arith)

pub starts_lead : (b : ℕ) (bs : List ℕ) → 0xC0 ≤ b → Starts (b ∷ bs)
starts_lead b bs h = above 0x80 0xBF b (omega arith)

-- the bytes of a character
pub starts_encode : (n : ℕ) → Starts (encode n)
starts_encode n =
    by_size Starts n
    (λ a. below 0x80 0xBF n (omega arith))
    (λ a b. above 0x80 0xBF (0xC0 + n / 64) (omega arith))
    (λ a b. above 0x80 0xBF (0xE0 + n / 4096) (omega arith))
    (λ a. above 0x80 0xBF (0xF0 + n / 262144) (omega arith))

-- a reader that stands between two characters meets no other
pub starts_well_formed : (t : List ℕ) → WellFormed t → Starts t
unfolding WellFormed
starts_well_formed [] h = tt
starts_well_formed (b ∷ bs) h = go (within 0x80 0xBF b) refl
  where
    go : (t : Bool) → within 0x80 0xBF b ≡ t → t ≡ false
    go false e = refl
    go true e =
        let low : 0x80 ≤ b = within_low 0x80 0xBF b e in
        let top : b ≤ 0xBF = within_top 0x80 0xBF b e in
        absurd (never_between bs (rw (first_low b low (omega arith)) at h))

-- the rest after whole characters starts with one
pub starts_after : (xs ys : List ℕ) → WellFormed xs → WellFormed (xs ++ ys) → Starts ys
starts_after xs ys h k = starts_well_formed ys (unfold WellFormed in (sym (well_formed_append xs ys h) ∙ (unfold WellFormed in k)))

-- ---- a pattern of tails is not met across the seam

module _ (ys : List ℕ) (starts : Starts ys) where
  abbrev Same : List ℕ → Type 0
  Same ps = (xs : List ℕ) → begins ps (xs ++ ys) ≡ begins ps xs

  not_there : (p : ℕ) (ps l : List ℕ) → within 0x80 0xBF p ≡ true → Starts l → begins (p ∷ ps) l ≡ false
  not_there p ps [] e h = refl
  not_there p ps (b ∷ bs) e h = rw (ne_eqb b p (λ q. true≢false (sym e ∙ ap (within 0x80 0xBF) (sym q) ∙ h))) refl

  seam : (p : ℕ) (ps : List ℕ) → within 0x80 0xBF p ≡ true → Same ps → Same (p ∷ ps)
  seam p ps e s [] = not_there p ps ys e starts
  seam p ps e s (x ∷ xs) = ap (λ (t : Bool). eqb x p && t) (s xs)

  seam_nel : Same (0x85 ∷ [])
  seam_nel = seam 0x85 [] refl (λ xs. refl)

  seam_ls : Same (0x80 ∷ 0xA8 ∷ [])
  seam_ls = seam 0x80 (0xA8 ∷ []) refl (seam 0xA8 [] refl (λ xs. refl))

  byte_seam : (r : Rule) (b : ℕ) (xs : List ℕ) → (canonical_byte r b (xs ++ ys) ≡ canonical_byte r b xs) × (covered r b (xs ++ ys) ≡ covered r b xs)
  unfolding canonical_byte covered
  byte_seam xml10 b xs = (refl, refl)
  byte_seam xml11 b xs = (rw (seam_nel xs, seam_ls xs), rw (seam_nel xs, seam_ls xs))

  covered_fits : (r : Rule) (b : ℕ) (xs : List ℕ) → covered r b xs ≤ length xs
  unfolding covered
  covered_fits xml10 b xs = omega arith
  covered_fits xml11 b xs =
      pick_by (λ (w : ℕ). w ≤ length xs) (begins (0xC2 ∷ 0x85 ∷ []) (b ∷ xs)) {a = 1} {b = pick (begins (0xE2 ∷ 0x80 ∷ 0xA8 ∷ []) (b ∷ xs)) 2 0}
      (λ e. omega (arith, begins_fits (0xC2 ∷ 0x85 ∷ []) (b ∷ xs) e))
      (λ e. pick_by (λ (w : ℕ). w ≤ length xs) (begins (0xE2 ∷ 0x80 ∷ 0xA8 ∷ []) (b ∷ xs)) {a = 2} {b = 0}
      (λ f. omega (arith, begins_fits (0xE2 ∷ 0x80 ∷ 0xA8 ∷ []) (b ∷ xs) f))
      (λ f. omega arith))

  joined : (r : Rule) (k : ℕ) (xs : List ℕ) → k ≤ length xs → canonical_from r k (xs ++ ys) ≡ canonical_from r k xs ++ canonical_from r 0 ys
  unfolding canonical_from
  joined r zero [] h = refl
  joined r (suc k) [] h = absurd (omega (arith, h))
  joined r (suc k) (x ∷ xs) h = joined r k xs (omega (arith, h))
  joined r zero (x ∷ xs) h =
      let s = byte_seam r x xs in
      ap₂ (λ (l : List ℕ) (n : ℕ). l ++ canonical_from r n (xs ++ ys)) s.0 s.1
      ∙ ap (λ (l : List ℕ). canonical_byte r x xs ++ l) (joined r (covered r x xs) xs (covered_fits r x xs))
      ∙ sym (append_assoc (canonical_byte r x xs) (canonical_from r (covered r x xs) xs) (canonical_from r 0 ys))

-- K7: the forms of the parts, joined; lead byte and rest of a character are one part
pub canonical_append : (r : Rule) (xs ys : List ℕ) → Starts ys → canonical r (xs ++ ys) ≡ canonical r xs ++ canonical r ys
unfolding canonical
canonical_append r xs ys starts = joined ys starts r 0 xs (omega arith)

-- whole characters and whatever follows them in UTF-8
pub canonical_whole : (r : Rule) (xs ys : List ℕ) → WellFormed xs → WellFormed (xs ++ ys) → canonical r (xs ++ ys) ≡ canonical r xs ++ canonical r ys
canonical_whole r xs ys h k = canonical_append r xs ys (starts_after xs ys h k)

-- pieces that are whole characters, joined
abbrev pub AllWhole : List (List ℕ) → Type 0
AllWhole [] = Unit {0}
AllWhole (w ∷ ws) = WellFormed w × AllWhole ws

abbrev pub together : List (List ℕ) → List ℕ
together [] = []
together (w ∷ ws) = w ++ together ws

-- and their forms, joined
abbrev pub forms_together : Rule → List (List ℕ) → List ℕ
forms_together r [] = []
forms_together r (w ∷ ws) = canonical r w ++ forms_together r ws

starts_together : (ws : List (List ℕ)) → AllWhole ws → Starts (together ws)
starts_together [] h = tt
starts_together (w ∷ ws) h = starts_append w (together ws) (starts_well_formed w h.0) (starts_together ws h.1)

-- K7: the canonical form of pieces that are whole characters is the forms of the pieces, joined
pub canonical_together : (r : Rule) (ws : List (List ℕ)) → AllWhole ws → canonical r (together ws) ≡ forms_together r ws
canonical_together r [] h = unfold canonical in refl
canonical_together r (w ∷ ws) h =
    canonical_append r w (together ws) (starts_together ws h.1) ∙ ap (λ (l : List ℕ). canonical r w ++ l) (canonical_together r ws h.1)
