-- White space: one character or line end of it, and where it ends. Assumes nothing.
use mathlib.Core.Path.{◌≡◌, refl, sym, ap, ◌∙◌}
use mathlib.Core.Bool.{Bool, true, false, ◌||◌}
use mathlib.Core.List.{List, [], ◌∷◌}
use Prim.Native.Nat.{ℕ, zero, suc, ◌+◌, ◌≤◌, ◌<◌}
use native.Mathlib.Omega.{arith}
use lib.Dec.{eqb}
use lib.ListN.{length, drop, get_or}
use borrow.Author.Tests.{ne_eqb, eqb-true}
use Rattle.text.proofs.Patterns.{at_head}
use Rattle.eols.specs.LineEnds.{line_end}
use Rattle.eols.specs.Stops.{rule_for}
use Rattle.table_grammar.specs.EntityValue.{is_white, read, after_space, space}
use Rattle.table_names.specs.NameTerms.{left}
use Rattle.table_values.specs.ValueSteps.{Dark, Passes, White, Spaced}
use Rattle.table_values.proofs.LeftPlaces.{left_end, left_ascii, left_tab, no_end, left_kept, left_ended, ended_inside}

white_head : (t bs : List ℕ) (b : ℕ) → t ≡ b ∷ bs → is_white b ≡ true → Passes t bs
unfolding space after_space
white_head t bs b e w = record { some = rw (e, w); on = rw (e, w) }

dark_head : (t bs : List ℕ) (b : ℕ) → t ≡ b ∷ bs → is_white b ≡ false → Dark t
unfolding space after_space
dark_head t bs b e w = record { none = rw (e, w); still = rw (e, w) }

pub dark_end : (t : List ℕ) → t ≡ [] → Dark t
unfolding space after_space
dark_end t e = record { none = rw e; still = rw e }

suc_not : {k : ℕ} → suc k ≡ 0 → ⊥
suc_not q = absurd (omega arith)

one≢zero : ◌≡◌ {A = ℕ} 1 0 → ⊥
one≢zero e = absurd (omega arith)

white_space : (b : ℕ) → b ≡ 32 → is_white b ≡ true
unfolding is_white
white_space b e = rw e

white_nine : (b : ℕ) → b ≡ 9 → is_white b ≡ true
unfolding is_white
white_nine b e = rw e

white_ten : (b : ℕ) → b ≡ 10 → is_white b ≡ true
unfolding is_white
white_ten b e = rw e

not_white : (b : ℕ) → eqb b 32 || eqb b 9 ≡ false → (b ≡ 13 → ⊥) → (b ≡ 10 → ⊥) → is_white b ≡ false
unfolding is_white
not_white b e n m = rw (e, ne_eqb b 0xD n, ne_eqb b 0xA m)

module _ (newer : Bool) (t : List ℕ) (i : ℕ) (h : i < length t) where
  -- SPACE and TAB
  pub white_blank : eqb (get_or t i 0) 32 || eqb (get_or t i 0) 9 ≡ true → White newer t i 1
  white_blank e = record { inside = omega arith; dark = λ z. absurd (one≢zero z); white = λ n. go (eqb (get_or t i 0) 32) refl }
    where
      go : (x : Bool) → eqb (get_or t i 0) 32 ≡ x → Passes (left newer t i) (left newer t (i + 1))
      go true f =
          let z = eqb-true (get_or t i 0) 32 f in
          white_head (left newer t i) (left newer t (i + 1)) (get_or t i 0) (left_ascii newer t i h (omega arith) (omega arith)) (white_space (get_or t i 0) z)
      go false f =
          let z : get_or t i 0 ≡ 9 = eqb-true (get_or t i 0) 9 (rw f at e) in
          white_head (left newer t i) (left newer t (i + 1)) (get_or t i 0) (left_tab newer t i h z) (white_nine (get_or t i 0) z)

  -- line ends
  pub white_line : (w : ℕ) → eqb (get_or t i 0) 32 || eqb (get_or t i 0) 9 ≡ false → w ≡ line_end (rule_for newer) (drop i t) → White newer t i w
  white_line w f e = record { inside = inside w e; dark = λ z. dark w e z; white = λ n. white_head (left newer t i) (left newer t (i + w)) 10 (left_ended newer t i w h n e) (white_ten 10 refl) }
    where
      inside : (w : ℕ) → w ≡ line_end (rule_for newer) (drop i t) → i + w ≤ length t
      inside zero e = omega arith
      inside (suc w) e = ended_inside newer t i (suc w) h (λ q. suc_not q) e

      dark : (w : ℕ) → w ≡ line_end (rule_for newer) (drop i t) → w ≡ 0 → Dark (left newer t i)
      dark w e z =
          let b = get_or t i 0 in
          let n = no_end newer b (drop (i + 1) t) (sym (ap (line_end (rule_for newer)) (at_head t i h)) ∙ sym e ∙ z) in
          dark_head (left newer t i) (left newer t (i + 1)) b (left_kept newer t i h (sym z ∙ e))
          (not_white b f n.0 n.1)

-- ---- how far white space goes

pub record Spacing (newer : Bool) (t : List ℕ) (from i : ℕ) : Type 0 where
  pub order : from ≤ i
  pub to : i ≤ length t
  pub on : after_space (left newer t from) ≡ after_space (left newer t i)
  pub some : from < i → space (left newer t from) ≡ read [] (after_space (left newer t i))

pub spacing_end : {newer : Bool} {t : List ℕ} {from i : ℕ} → Spacing newer t from i → Dark (left newer t i) → Spaced newer t from i
spacing_end {newer} {t} {from} {i} s d =
    record {
      from = s.order;
      to = s.to;
      rest = s.on ∙ d.still;
      none = λ e. rw e at d.none;
      some = λ l. s.some l ∙ ap (λ (l : List ℕ). read [] l) d.still;
    }

pub spacing_over : {newer : Bool} {t : List ℕ} {from i : ℕ} → Spacing newer t from i → length t ≤ i → Spaced newer t from i
spacing_over {newer} {t} {from} {i} s h = spacing_end s (dark_end (left newer t i) (left_end newer t i h))
