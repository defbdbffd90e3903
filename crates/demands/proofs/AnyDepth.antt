-- The standard has no depth: its values without regard to the fuel. Where the walk, at its own depth, refuses by another number than 16 and
-- 17, 3.3.3 gives no value with any fuel (`refused_never`); where 3.3.3 gives one with any fuel, the walk gives its bytes or refuses by 16 or 17
-- (`met_ever`); an accepted value is what 3.3.3 gives with all fuel from that depth on (`accepted_ever`). Assumes nothing.
use mathlib.Core.Path.{◌≡◌, refl, sym, subst, ap, ◌∙◌}
use Prim.Native.Nat.{ℕ, ◌+◌}
use native.Mathlib.Omega.{arith}
use mathlib.Core.Bool.{Bool, true, false}
use mathlib.Core.Option.{Option, none, some}
use mathlib.Core.List.{List}
use lib.Dec.{eqb}
use Rattle.text.specs.Version.{Rule}
use Rattle.text.specs.Utf8.{WellFormed}
use Rattle.text.proofs.Bytes.{or_left}
use Rattle.charref.specs.CharNumbers.{CharNumber}
use Rattle.entity.specs.Binding.{Bound, GoodBound}
use Rattle.tokens.specs.Outcome.{Outcome, done, refused}
use Rattle.attribute.specs.Walk.{Settings, normalize, reading}
use Rattle.attribute.proofs.Strict.{with_legal}
use Rattle.attribute.proofs.Deeper.{deeper_done, deeper_refused}
use Rattle.demands.specs.Characters.{decode}
use Rattle.demands.specs.Standard.{line_ends_of, lines_of, standard, lookup_of, SteadyText, SteadyBound, FromStandard, limited, Meets}
use Rattle.demands.proofs.Standard.{accepted_is_standard, refused_is_standard, standard_is_met}
use Rattle.demands.proofs.StandardDepth.{standard_deeper}

module _ (legal : ℕ → CharNumber) (r : Rule) (past : Bool) (bind : List ℕ → Bound) (limit : ℕ)
    (good : (name : List ℕ) → GoodBound (bind name)) (firm : (name : List ℕ) → SteadyBound past r (bind name)) (depth : ℕ) (t : List ℕ) (wf : WellFormed t) (still : SteadyText r t)
  where
    abbrev s : Settings
    s = with_legal legal (reading r past bind limit)

    -- the standard's value, with any fuel
    abbrev pub with_fuel : ℕ → Option (List ℕ)
    with_fuel fuel = standard legal (lookup_of bind) (lines_of past r) fuel (line_ends_of r (decode t))

    -- with more of it
    more_fuel : (fuel more : ℕ) (v : List ℕ) → with_fuel fuel ≡ some v → with_fuel (more + fuel) ≡ some v
    more_fuel fuel more v e = standard_deeper legal (lookup_of bind) (lines_of past r) fuel more (line_ends_of r (decode t)) v e

    later_refused : (more : ℕ) (before : List ℕ) (n why first second : ℕ) → limited why ≡ false → normalize s depth t ≡ refused before n why first second
        → normalize s (more + depth) t ≡ refused before n why first second
    unfolding normalize
    later_refused more before n why first second l e =
        deeper_refused s s.outer depth more t before 0 n why first second (or_left (eqb why 16) (eqb why 17) l) e

    later_done : (more : ℕ) (value : List ℕ) (n : ℕ) → normalize s depth t ≡ done value n → normalize s (more + depth) t ≡ done value n
    unfolding normalize
    later_done more value n e = deeper_done s s.outer depth more t value 0 n e

    -- an accepted value is the standard's, with all fuel from the depth on
    pub accepted_ever : (more : ℕ) (value : List ℕ) (n : ℕ) → normalize s depth t ≡ done value n → FromStandard (with_fuel (more + depth)) value
    accepted_ever more value n e = accepted_is_standard legal r past bind limit good firm (more + depth) t wf still value n (later_done more value n e)

    -- where the walk refuses by another number than 16 and 17, the standard gives no value, with any fuel
    pub refused_never : (before : List ℕ) (n why first second : ℕ) → normalize s depth t ≡ refused before n why first second → limited why ≡ false
        → (fuel : ℕ) → with_fuel fuel ≡ none
    refused_never before n why first second e l fuel = go (with_fuel fuel) refl
      where
        sum : fuel + depth ≡ depth + fuel
        sum = omega arith

        later : with_fuel (fuel + depth) ≡ none
        later =
            refused_is_standard legal r past bind limit good firm (fuel + depth) t wf still before n why first second (later_refused fuel before n why first second l e) l

        go : (x : Option (List ℕ)) → with_fuel fuel ≡ x → with_fuel fuel ≡ none
        go none q = q
        go (some v) q =
            let p : none ≡ some v = sym later ∙ ap with_fuel sum ∙ more_fuel fuel depth v q in
            let z : ◌≡◌ {A = ℕ} 0 1 = cc in
            absurd (omega (arith, z))

    -- where the standard gives a value with any fuel, the walk gives its bytes, or refuses by 16 or 17
    pub met_ever : (fuel : ℕ) (v : List ℕ) → with_fuel fuel ≡ some v → Meets (normalize s depth t) v
    met_ever fuel v e = go (normalize s depth t) refl
      where
        sum : fuel + depth ≡ depth + fuel
        sum = omega arith

        meets : Meets (normalize s (fuel + depth) t) v
        meets = standard_is_met legal r past bind limit good firm (fuel + depth) t wf still v (ap with_fuel sum ∙ more_fuel fuel depth v e)

        go : (o : Outcome) → normalize s depth t ≡ o → Meets o v
        go (done value n) q = subst (λ (x : Outcome). Meets x v) (later_done fuel value n q) meets
        go (refused before n why first second) q = by (limited why) refl
          where
            by : (b : Bool) → limited why ≡ b → limited why ≡ true
            by true p = p
            by false p = subst (λ (x : Outcome). Meets x v) (later_refused fuel before n why first second p q) meets
