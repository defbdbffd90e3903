-- What is left of a text after line ends from a place on: at the end, at a byte that stands for itself, after a run, at a line end.
-- Assumes nothing.
use mathlib.Core.Path.{◌≡◌, refl, ap, ◌∙◌}
use mathlib.Core.Bool.{Bool, true, false}
use mathlib.Core.List.{List, [], ◌∷◌, ◌++◌}
use Prim.Native.Nat.{ℕ, ◌+◌, ◌≤◌, ◌<◌}
use native.Mathlib.Omega.{arith}
use lib.ListN.{length, take, drop, get_or}
use borrow.Author.Tests.{ne_eqb}
use Rattle.text.specs.Bytes.{begins}
use Rattle.text.proofs.Patterns.{at_head}
use Rattle.output.proofs.Runs.{plain_byte}
use Rattle.runs.specs.RunEnds.{line_stop}
use Rattle.eols.specs.LineEnds.{line_end}
use Rattle.eols.specs.Stops.{rule_for}
use Rattle.eols.proofs.LineEnds.{plain_run_lem, step_copies, step_ends, cr_lf, cr_nel, cr_alone10, cr_alone11, lf_alone}
use Rattle.eols.proofs.Writing.{eols_over}
use Rattle.table_names.specs.NameTerms.{left}

pub left_end : (newer : Bool) (t : List ℕ) (i : ℕ) → length t ≤ i → left newer t i ≡ []
left_end newer t i h = eols_over newer t i h

pub left_byte : (newer : Bool) (t : List ℕ) (i : ℕ) → i < length t → line_stop newer (get_or t i 0) ≡ false
    → left newer t i ≡ get_or t i 0 ∷ left newer t (i + 1)
left_byte newer t i h e =
    plain_run_lem newer t i 1 (plain_byte (line_stop newer) t i h e) ∙ ap (λ (l : List ℕ). take 1 l ++ left newer t (i + 1)) (at_head t i h)

-- printable ASCII, and all up to C1, starts no line end other than LF
pub no_stop : (newer : Bool) (b : ℕ) → 14 ≤ b → b < 0xC2 → line_stop newer b ≡ false
no_stop true b h k = rw (ne_eqb b 13 (λ q. omega arith), ne_eqb b 0xC2 (λ q. omega arith), ne_eqb b 0xE2 (λ q. omega arith))
no_stop false b h k = rw (ne_eqb b 13 (λ q. omega arith))

pub left_ascii : (newer : Bool) (t : List ℕ) (i : ℕ) → i < length t → 14 ≤ get_or t i 0 → get_or t i 0 < 0xC2
    → left newer t i ≡ get_or t i 0 ∷ left newer t (i + 1)
left_ascii newer t i h a b = left_byte newer t i h (no_stop newer (get_or t i 0) a b)

pub left_tab : (newer : Bool) (t : List ℕ) (i : ℕ) → i < length t → get_or t i 0 ≡ 9 → left newer t i ≡ get_or t i 0 ∷ left newer t (i + 1)
left_tab newer t i h e = left_byte newer t i h (rw e (go newer))
  where
    go : (v : Bool) → line_stop v 9 ≡ false
    go true = refl
    go false = refl

-- where no line end stands the byte is none that starts one by itself
pub no_end : (newer : Bool) (b : ℕ) (bs : List ℕ) → line_end (rule_for newer) (b ∷ bs) ≡ 0 → (b ≡ 13 → ⊥) × (b ≡ 10 → ⊥)
no_end newer b bs e = (λ q. cr newer e q (begins (10 ∷ []) bs) refl (begins (0xC2 ∷ 0x85 ∷ []) bs) refl, λ q. let z = lf_alone b bs newer q in absurd (omega arith))
  where
    cr : (v : Bool) → line_end (rule_for v) (b ∷ bs) ≡ 0 → b ≡ 13 → (x : Bool) → begins (10 ∷ []) bs ≡ x → (y : Bool) → begins (0xC2 ∷ 0x85 ∷ []) bs ≡ y → ⊥
    cr v z q true f y g = let w = cr_lf b bs v q f in absurd (omega arith)
    cr false z q false f y g = let w = cr_alone10 b bs q f in absurd (omega arith)
    cr true z q false f true g = let w = cr_nel b bs q f g in absurd (omega arith)
    cr true z q false f false g = let w = cr_alone11 b bs q f g in absurd (omega arith)

pub left_kept : (newer : Bool) (t : List ℕ) (i : ℕ) → i < length t → 0 ≡ line_end (rule_for newer) (drop i t)
    → left newer t i ≡ get_or t i 0 ∷ left newer t (i + 1)
left_kept newer t i h e = (step_copies newer t i h e).rest

pub left_ended : (newer : Bool) (t : List ℕ) (i w : ℕ) → i < length t → (w ≡ 0 → ⊥) → w ≡ line_end (rule_for newer) (drop i t)
    → left newer t i ≡ 10 ∷ left newer t (i + w)
left_ended newer t i w h n e = (step_ends newer t i w h n e).rest

pub ended_inside : (newer : Bool) (t : List ℕ) (i w : ℕ) → i < length t → (w ≡ 0 → ⊥) → w ≡ line_end (rule_for newer) (drop i t) → i + w ≤ length t
ended_inside newer t i w h n e = (step_ends newer t i w h n e).inside
