-- The stops of a value, and of a character reference in it. Assumes nothing.
use mathlib.Core.Path.{◌≡◌, refl, ap, ◌∙◌}
use mathlib.Core.Bool.{Bool, true, false, not, ◌||◌}
use mathlib.Core.List.{List}
use Prim.Native.Nat.{ℕ, ◌+◌, ◌-◌, ◌≤◌}
use lib.Dec.{eqb, ltb}
use native.Mathlib.Omega.{arith}
use lib.ListN.{length, drop, length-drop}
use Rattle.text.proofs.Bytes.{or_right}
use Rattle.output.specs.Runs.{Plain}
use Rattle.runs.specs.RunEnds.{line_stop, RunEnd}
use Rattle.output.proofs.Laid.{rest_part}
use Rattle.output.proofs.Runs.{plain_join}
use borrow.Author.Tests.{ltb-false}
use borrow.Rule.Slice.PartMut.{mid_of}
use Rattle.std.specs.List.{position, position_or_len}
use Rattle.std.specs.Option.{unwrap_or}
use Rattle.std.proofs.lemmas.Bool.{not-true, not-false}
use Rattle.std.proofs.lemmas.List.Sums.{prefix_len-le-length, prefix_len_passes, prefix_len_stops}
use Rattle.std.proofs.Common.{get_or-drop, Option}
use Rattle.table_values.specs.ValueSteps.{value_stop}

-- a run of a value has no line end other than LF
pub value_lines : (quote : ℕ) (newer : Bool) (b : ℕ) → value_stop quote newer b ≡ false → line_stop newer b ≡ false
value_lines quote newer b e = or_right (eqb b quote || eqb b 38 || eqb b 37) (line_stop newer b) e

first_place : (stops : ℕ → Bool) (l : List ℕ) → unwrap_or (position stops l) (length l) ≡ position_or_len stops l
first_place stops l = go (ltb (position_or_len stops l) (length l)) refl
  where
    go : (b : Bool) → ltb (position_or_len stops l) (length l) ≡ b → unwrap_or (position stops l) (length l) ≡ position_or_len stops l
    go true e = rw e
    go false e = rw e (omega (arith, ltb-false _ _ e, prefix_len-le-length (λ b. not (stops b)) l))

-- it ends at the first stop of what is left, or where that ends
pub run_first : (stops : ℕ → Bool) (t : List ℕ) {i k : ℕ} (r : Option ℕ) → i ≤ length t → r ≡ position stops (mid_of i (length t - i) t)
    → k ≡ unwrap_or r (length (mid_of i (length t - i) t)) → RunEnd stops t i (i + k)
run_first stops t {i} {k} r h p e = first (e ∙ ap (λ (o : Option ℕ). unwrap_or o (length part)) p ∙ first_place stops part ∙ ap (position_or_len stops) (rest_part i t))
  where
    part : List ℕ
    part = mid_of i (length t - i) t

    passes : ℕ → Bool
    passes b = not (stops b)

    first : k ≡ position_or_len stops (drop i t) → RunEnd stops t i (i + k)
    first e =
        let inside = prefix_len-le-length passes (drop i t) in
        record {
          run = record {
            from = omega arith;
            to = omega (arith, e, inside, length-drop i t, h);
            none = λ j g l.
                let q : i + (j - i) ≡ j = omega (arith, g) in
                rw q at (rw get_or-drop at (not-true _ (prefix_len_passes passes (drop i t) (j - i) 0 (omega (arith, e, l)))));
          };
          ends = λ l. rw (← e, get_or-drop) at (not-false _ (prefix_len_stops passes (drop i t) 0 (omega (arith, e, l, length-drop i t))));
        }

pub run_joined : {stops : ℕ → Bool} {t : List ℕ} {i j e : ℕ} → Plain stops t i j → RunEnd stops t j e → RunEnd stops t i e
run_joined p r = record { run = plain_join _ _ _ _ _ p r.run; ends = r.ends }
