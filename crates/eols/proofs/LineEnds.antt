-- Laws of line ends: the head of a text, runs, length. Assumes nothing.
use mathlib.Core.Path.{◌≡◌, refl, sym, ap, ◌∙◌}
use mathlib.Core.Bool.{Bool, true, false, ◌&&◌, ◌||◌}
use mathlib.Core.List.{List, [], ◌∷◌}
use Prim.Native.Nat.{ℕ, zero, suc, ◌+◌, ◌≤◌, ◌<◌, zero-le}
use native.Mathlib.Omega.{arith}
use native.Mathlib.Nat.{le_refl}
use lib.Dec.{eqb, ltb}
use lib.ListN.{length, drop, get_or, length-drop}
use lib.Seq.{drop-drop}
use borrow.Author.Tests.{eqb-true, eqb-false, eq-eqb, ne_eqb, lt-ltb}
use Rattle.text.specs.Bytes.{begins}
use Rattle.text.specs.Version.{Rule, xml10, xml11, rule_of}
use Rattle.text.proofs.Bytes.{pick_by, or_left, or_right}
use Rattle.text.proofs.Patterns.{at_head, begins_fits}
use Rattle.eols.specs.LineEnds.{line_ends, width_of, line_end, eol_byte, eol_skip, eols_from}
use Rattle.output.proofs.Writers.{Copies}
use Rattle.runs.specs.RunEnds.{line_stop}
use Rattle.eols.specs.Stops.{rule_for, Stepped}

-- to skip bytes is to start later
pub eols_skip : (r : Rule) (k : ℕ) (bs : List ℕ) → eols_from r k bs ≡ eols_from r 0 (drop k bs)
unfolding eols_from
eols_skip r zero bs = refl
eols_skip r (suc k) [] = refl
eols_skip r (suc k) (b ∷ bs) = eols_skip r k bs

-- the byte or line end at an index
pub eols_at : (r : Rule) (t : List ℕ) (i : ℕ) → i < length t
    → eols_from r 0 (drop i t) ≡ eol_byte (line_end r (drop i t)) (get_or t i 0) ∷ eols_from r 0 (drop (i + 1 + eol_skip (line_end r (drop i t))) t)
unfolding eols_from
eols_at r t i h =
    rw (at_head t i h)
    (ap (λ (l : List ℕ). eol_byte (line_end r (get_or t i 0 ∷ drop (i + 1) t)) (get_or t i 0) ∷ l)
    (eols_skip r (eol_skip (line_end r (get_or t i 0 ∷ drop (i + 1) t))) (drop (i + 1) t)
    ∙ ap (eols_from r 0) (drop-drop (eol_skip (line_end r (get_or t i 0 ∷ drop (i + 1) t))) (i + 1) t)))

width_fits : (ps : List (List ℕ)) (t : List ℕ) → width_of ps t ≤ length t
unfolding width_of
width_fits [] t = zero-le
width_fits (p ∷ ps) t =
    pick_by (λ (w : ℕ). w ≤ length t) (begins p t) {a = length p} {b = width_of ps t} (λ e. begins_fits p t e) (λ e. width_fits ps t)

pub line_end_fits : (r : Rule) (t : List ℕ) → line_end r t ≤ length t
unfolding line_end
line_end_fits r t = width_fits (line_ends r) t

-- ---- the widths, case by case

module _ (b : ℕ) (bs : List ℕ) where
  pub cr_lf : (newer : Bool) → b ≡ 13 → begins (10 ∷ []) bs ≡ true → line_end (rule_for newer) (b ∷ bs) ≡ 2
  unfolding line_end
  cr_lf false e f = rw (eq-eqb b 13 e, f)
  cr_lf true e f = rw (eq-eqb b 13 e, f)

  pub cr_nel : b ≡ 13 → begins (10 ∷ []) bs ≡ false → begins (0xC2 ∷ 0x85 ∷ []) bs ≡ true → line_end xml11 (b ∷ bs) ≡ 3
  unfolding line_end
  cr_nel e f g = rw (eq-eqb b 13 e, f, g)

  pub cr_alone10 : b ≡ 13 → begins (10 ∷ []) bs ≡ false → line_end xml10 (b ∷ bs) ≡ 1
  unfolding line_end
  cr_alone10 e f = rw (eq-eqb b 13 e, f)

  pub cr_alone11 : b ≡ 13 → begins (10 ∷ []) bs ≡ false → begins (0xC2 ∷ 0x85 ∷ []) bs ≡ false → line_end xml11 (b ∷ bs) ≡ 1
  unfolding line_end
  cr_alone11 e f g = rw (eq-eqb b 13 e, f, g)

  pub lf_alone : (newer : Bool) → b ≡ 10 → line_end (rule_for newer) (b ∷ bs) ≡ 1
  unfolding line_end
  lf_alone false e = rw (ne_eqb b 13 (λ q. omega arith), eq-eqb b 10 e)
  lf_alone true e = rw (ne_eqb b 13 (λ q. omega arith), eq-eqb b 10 e)

  pub none10 : (b ≡ 13 → ⊥) → (b ≡ 10 → ⊥) → line_end xml10 (b ∷ bs) ≡ 0
  unfolding line_end
  none10 n m = rw (ne_eqb b 13 n, ne_eqb b 10 m)

  module _ (n : b ≡ 13 → ⊥) (m : b ≡ 10 → ⊥) where
    pub nel : b ≡ 0xC2 → begins (0x85 ∷ []) bs ≡ true → line_end xml11 (b ∷ bs) ≡ 2
    unfolding line_end
    nel e f = rw (ne_eqb b 13 n, ne_eqb b 10 m, eq-eqb b 0xC2 e, f)

    pub not_nel : b ≡ 0xC2 → begins (0x85 ∷ []) bs ≡ false → line_end xml11 (b ∷ bs) ≡ 0
    unfolding line_end
    not_nel e f = rw (ne_eqb b 13 n, ne_eqb b 10 m, eq-eqb b 0xC2 e, f, ne_eqb b 0xE2 (λ q. omega arith))

    pub ls : b ≡ 0xE2 → begins (0x80 ∷ 0xA8 ∷ []) bs ≡ true → line_end xml11 (b ∷ bs) ≡ 3
    unfolding line_end
    ls e f = rw (ne_eqb b 13 n, ne_eqb b 10 m, ne_eqb b 0xC2 (λ q. omega arith), eq-eqb b 0xE2 e, f)

    pub not_ls : b ≡ 0xE2 → begins (0x80 ∷ 0xA8 ∷ []) bs ≡ false → line_end xml11 (b ∷ bs) ≡ 0
    unfolding line_end
    not_ls e f = rw (ne_eqb b 13 n, ne_eqb b 10 m, ne_eqb b 0xC2 (λ q. omega arith), eq-eqb b 0xE2 e, f)

    pub none11 : (b ≡ 0xC2 → ⊥) → (b ≡ 0xE2 → ⊥) → line_end xml11 (b ∷ bs) ≡ 0
    unfolding line_end
    none11 c e = rw (ne_eqb b 13 n, ne_eqb b 10 m, ne_eqb b 0xC2 c, ne_eqb b 0xE2 e)

-- the width at an index, from the byte there and those after it
pub width_at : (r : Rule) (t : List ℕ) (i : ℕ) {w : ℕ} → i < length t → line_end r (get_or t i 0 ∷ drop (i + 1) t) ≡ w → w ≡ line_end r (drop i t)
width_at r t i h e = sym (ap (line_end r) (at_head t i h) ∙ e)

-- ---- what is written for the byte or the line end at an index

width_ends : (r : Rule) (t : List ℕ) (i : ℕ) → i < length t → (w : ℕ) → w ≡ line_end r (drop i t) → i + w ≤ length t
width_ends r t i h w e = omega (arith, line_end_fits r (drop i t), length-drop i t)

pub step_copies : (newer : Bool) (t : List ℕ) (i : ℕ) → i < length t → 0 ≡ line_end (rule_for newer) (drop i t)
    → Stepped newer t i (record { byte = get_or t i 0; width = 1 })
unfolding eol_byte eol_skip
step_copies newer t i h e =
    let q : i + 1 + 0 ≡ i + 1 = omega arith in
    record { some = omega arith; inside = omega arith; rest = eols_at (rule_for newer) t i h ∙ rw (sym e, q) }

pub step_ends : (newer : Bool) (t : List ℕ) (i w : ℕ) → i < length t → (w ≡ 0 → ⊥) → w ≡ line_end (rule_for newer) (drop i t)
    → Stepped newer t i (record { byte = 10; width = w })
unfolding eol_byte eol_skip
step_ends newer t i zero h n e = absurd (n refl)
step_ends newer t i (suc w) h n e =
    let q : i + 1 + w ≡ i + suc w = omega arith in
    record { some = omega arith; inside = width_ends (rule_for newer) t i h (suc w) e; rest = eols_at (rule_for newer) t i h ∙ rw (sym e, q) }

-- ---- runs

-- a byte that is no stop is copied, LF too
plain_width : (newer : Bool) (b : ℕ) (bs : List ℕ) → line_stop newer b ≡ false → (eol_byte (line_end (rule_for newer) (b ∷ bs)) b ≡ b) × (eol_skip (line_end (rule_for newer) (b ∷ bs)) ≡ 0)
unfolding eol_byte eol_skip
plain_width newer b bs e = go newer e (eqb b 10) refl
  where
    not_cr : (v : Bool) → line_stop v b ≡ false → b ≡ 13 → ⊥
    not_cr v f = eqb-false b 13 (or_left (eqb b 13) (v && (eqb b 0xC2 || eqb b 0xE2)) f)

    go : (v : Bool) → line_stop v b ≡ false → (u : Bool) → eqb b 10 ≡ u
        → (eol_byte (line_end (rule_for v) (b ∷ bs)) b ≡ b) × (eol_skip (line_end (rule_for v) (b ∷ bs)) ≡ 0)
    go v f true q = rw (lf_alone b bs v (eqb-true b 10 q)) (sym (eqb-true b 10 q), refl)
    go false f false q = rw (none10 b bs (not_cr false f) (eqb-false b 10 q)) (refl, refl)
    go true f false q =
        let g = or_right (eqb b 13) (eqb b 0xC2 || eqb b 0xE2) f in
        rw (none11 b bs (not_cr true f) (eqb-false b 10 q) (eqb-false b 0xC2 (or_left (eqb b 0xC2) (eqb b 0xE2) g)) (eqb-false b 0xE2 (or_right (eqb b 0xC2) (eqb b 0xE2) g)))
        (refl, refl)

plain_one : (newer : Bool) (t : List ℕ) (i : ℕ) → i < length t → line_stop newer (get_or t i 0) ≡ false
    → eols_from (rule_for newer) 0 (drop i t) ≡ get_or t i 0 ∷ eols_from (rule_for newer) 0 (drop (i + 1) t)
unfolding eols_from
plain_one newer t i h e =
    let z = plain_width newer (get_or t i 0) (drop (i + 1) t) e in
    rw (at_head t i h, z.0, z.1)

-- a run without stops is copied as it stands
pub plain_run_lem : (newer : Bool) → Copies (line_stop newer) (eols_from (rule_for newer) 0)
plain_run_lem newer t i zero p = let q : i + 0 ≡ i = omega arith in rw q
plain_run_lem newer t i (suc n) p =
    let f = p.to in
    let q : i + suc n ≡ i + 1 + n = omega arith in
    plain_one newer t i (omega arith) (p.none i (le_refl i) (omega arith))
    ∙ rw (at_head t i (omega arith), q)
    (ap (λ (l : List ℕ). get_or t i 0 ∷ l) (plain_run_lem newer t (i + 1) n
    (record { from = omega arith; to = omega arith; none = λ k g h. p.none k (omega arith) (omega arith) })))

pub version_rule : (version : ℕ) (newer : Bool) → newer ≡ ltb 1 version → rule_for newer ≡ rule_of version
version_rule zero newer e = rw e
version_rule (suc zero) newer e = rw e
version_rule (suc (suc n)) newer e = rw (e, lt-ltb 1 (suc (suc n)) (omega arith))
