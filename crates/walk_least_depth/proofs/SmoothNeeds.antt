-- A text without halts: at depth 0 it is its own value where it has no stop (`smooth_none`), else 16 (`stops_deep`); at every other depth its
-- blanks are spaces (`smooth_some`). A halt is a stop (`halt_stops`). Assumes nothing.
use mathlib.Core.Path.{◌≡◌, refl, sym, ap, ◌∙◌}
use mathlib.Core.Logic.{◌≢◌}
use mathlib.Core.Bool.{Bool, true, false, ◌||◌, ◌&&◌}
use mathlib.Core.List.{List, [], ◌∷◌}
use Prim.Native.Nat.{ℕ, zero, suc, ◌<◌}
use native.Mathlib.Omega.{arith}
use native.Mathlib.Nat.{le_refl}
use lib.Dec.{eqb}
use lib.ListN.{length, drop}
use Rattle.text.specs.Bytes.{begins}
use Rattle.halts.specs.Halts.{halts, Smooth, HaltAt, any_stop, stop_byte, blanks_spaced}
use Rattle.halts.proofs.Spaces.{spaced_length}
use Rattle.attribute.specs.Walk.{Settings, walk}
use Rattle.attribute.specs.Steps.{read_by}
use Rattle.memory.proofs.Stretches.{smooth_whole}
use Rattle.cycle.proofs.Exhausted.{exhausted_any, exhausted_none}
use Rattle.walk_depths.specs.LeastDepth.{used_up}
use Rattle.walk_depths.specs.Summary.{Enough, Refusal}
use Rattle.walk_depths.proofs.ByDepth.{done_on}

module _ (s : Settings) (how : ℕ) (t : List ℕ) (n : ℕ) where
  pub smooth_none : (a : ℕ) → any_stop (stop_byte (eqb how 1)) t ≡ false → Enough a 0 n (length t) (λ d. walk s (read_by how 0) d t n)
  smooth_none a e =
      record {
        within = omega arith;
        value = t;
        size = refl;
        from = λ d h. done_on s (read_by how 0) t n {d = 0} (exhausted_none how s t n e) h;
        below = λ d h. absurd (omega (arith, h));
      }

  -- at depth 0 a stop uses it up
  pub stops_used : any_stop (stop_byte (eqb how 1)) t ≡ true → used_up (walk s (read_by how 0) 0 t n) ≡ true
  stops_used e = ap used_up (exhausted_any how s t n e).is

  pub stops_deep : any_stop (stop_byte (eqb how 1)) t ≡ true → {a : ℕ} → a ≡ 0 → Refusal 16 0 0 (walk s (read_by how 0) a t n)
  stops_deep e {a} z =
      let x = exhausted_any how s t n e in
      record { before = x.before; made = n; is = ap (λ (d : ℕ). walk s (read_by how 0) d t n) z ∙ x.is }

  pub smooth_some : (a : ℕ) → a ≢ 0 → Smooth (eqb how 1) t 0 (length t) → any_stop (stop_byte (eqb how 1)) t ≡ true
      → Enough a 1 n (length t) (λ d. walk s (read_by how 0) d t n)
  smooth_some a deep p e =
      record {
        within = omega (arith, deep);
        value = blanks_spaced t;
        size = spaced_length t;
        from = λ d h. smooth_whole s how 0 d (λ q. omega (arith, q, h)) t n p (record { from = omega arith; to = le_refl _; none = λ k g l. refl });
        below = λ d h. ap (λ (k : ℕ). used_up (walk s (read_by how 0) k t n)) (omega (arith, h)) ∙ stops_used e;
      }

-- ---- a halt is a stop

or_true : (a b : Bool) → b ≡ true → a || b ≡ true
or_true true b e = refl
or_true false b e = e

head_stops : (newer : Bool) (b : ℕ) (bs : List ℕ) → halts newer (b ∷ bs) ≡ true → stop_byte newer b ≡ true
head_stops newer b bs e = go (eqb b 9) (eqb b 10) (eqb b 13) (eqb b 38) newer (eqb b 0xC2) (eqb b 0xE2) (begins (0x85 ∷ []) bs) (begins (0x80 ∷ 0xA8 ∷ []) bs) e
  where
    go : (p q r a n x y u w : Bool) → a || r || (n && ((x && u) || (y && w))) ≡ true → p || q || r || a || (n && (x || y)) ≡ true
    go true q r a n x y u w h = refl
    go false true r a n x y u w h = refl
    go false false true a n x y u w h = refl
    go false false false true n x y u w h = refl
    go false false false false true true y u w h = refl
    go false false false false true false true u w h = refl
    go false false false false true false false u w h = h
    go false false false false false x y u w h = h

any_at : (stop : ℕ → Bool) (t : List ℕ) (e : ℕ) → ((b : ℕ) (bs : List ℕ) → drop e t ≡ b ∷ bs → stop b ≡ true) → e < length t → any_stop stop t ≡ true
any_at stop [] e k h = absurd (omega (arith, h))
any_at stop (b ∷ bs) zero k h = ap (λ (x : Bool). x || any_stop stop bs) (k b bs refl)
any_at stop (b ∷ bs) (suc e) k h = or_true (stop b) (any_stop stop bs) (any_at stop bs e k (omega (arith, h)))

pub halt_stops : (newer : Bool) (t : List ℕ) {e : ℕ} → HaltAt newer t 0 e → e ≢ length t → any_stop (stop_byte newer) t ≡ true
halt_stops newer t {e} h d =
    let inside : e < length t = omega (arith, d, h.smooth.to) in
    any_at (stop_byte newer) t e (λ b bs q. head_stops newer b bs (ap (halts newer) (sym q) ∙ h.ends inside)) inside
