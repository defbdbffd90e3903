-- Document 02, K8: the strict reading is 3.3.3 of the standards with character references that name only Char (XML 1.0 and 1.1, 2.2), but
-- for raw characters that break the rule, 26. Assumes nothing.
use mathlib.Core.Path.{◌≡◌, refl}
use Prim.Native.Nat.{ℕ, ◌+◌}
use mathlib.Core.Bool.{Bool, true, false, ◌||◌}
use mathlib.Core.Option.{Option, none, some}
use mathlib.Core.List.{List}
use Rattle.text.specs.Version.{Rule}
use Rattle.text.specs.Utf8.{WellFormed}
use Rattle.entity.specs.Binding.{Bound, GoodBound}
use Rattle.tokens.specs.Outcome.{Outcome, done, refused}
use Rattle.tokens.proofs.Related.{Keeps}
use Rattle.attribute.specs.Walk.{normalize, reading}
use Rattle.attribute.specs.Strict.{only_char, strictly}
use Rattle.attribute.proofs.Strict.{with_legal, by26, unguarded}
use Rattle.demands.specs.Characters.{encode_all, decode}
use Rattle.demands.specs.Standard.{line_ends_of, lines_of, standard, lookup_of, SteadyText, SteadyBound, FromStandard, limited, Meets}
use Rattle.demands.proofs.AnyDepth.{accepted_ever, refused_never, met_ever}

-- the outcome is the UTF-8 of these characters, or a refusal by a limit or by 26
abbrev pub MeetsStrictly : Outcome → List ℕ → Type 0
MeetsStrictly (done value n) v = value ≡ encode_all v
MeetsStrictly (refused before n why first second) v = limited why || by26 why ≡ true

meets_so : (o p : Outcome) (v : List ℕ) → Keeps by26 o p → Meets p v → MeetsStrictly o v
meets_so (done value n) p v k h = rw k at h
meets_so (refused before n why first second) p v k h = go (by26 why) refl
  where
    go : (x : Bool) → by26 why ≡ x → limited why || by26 why ≡ true
    go true e = rw e (either (limited why))
      where
        either : (y : Bool) → y || true ≡ true
        either true = refl
        either false = refl
    go false e = let q : limited why ≡ true = rw (rw e at k) at h in rw q

module _ (r : Rule) (past : Bool) (bind : List ℕ → Bound) (limit : ℕ) (good : (name : List ℕ) → GoodBound (bind name)) (firm : (name : List ℕ) → SteadyBound past r (bind name))
    (depth : ℕ) (t : List ℕ) (wf : WellFormed t) (still : SteadyText r t)
  where
    -- the standard's value, where a character reference may name only Char, with any fuel
    abbrev pub char_standard : ℕ → Option (List ℕ)
    char_standard fuel = standard (only_char r) (lookup_of bind) (lines_of past r) fuel (line_ends_of r (decode t))

    abbrev pub strict_read : Outcome
    strict_read = normalize (strictly r (reading r past bind limit)) depth t

    -- a strictly accepted value is the standard's, with all fuel from the depth on
    pub strict_is_standard : (more : ℕ) (value : List ℕ) (n : ℕ) → strict_read ≡ done value n → FromStandard (char_standard (more + depth)) value
    strict_is_standard more value n e =
        accepted_ever (only_char r) r past bind limit good firm depth t wf still more value n (rw e at (unguarded r (reading r past bind limit) depth t))

    -- where the strict reading refuses by another number than 16, 17 and 26, the standard gives none, with any fuel
    pub strict_refused_standard : (before : List ℕ) (n why first second : ℕ) → strict_read ≡ refused before n why first second
        → by26 why ≡ false → limited why ≡ false → (fuel : ℕ) → char_standard fuel ≡ none
    strict_refused_standard before n why first second e b l =
        refused_never (only_char r) r past bind limit good firm depth t wf still before n why first second
        (rw b at (rw e at (unguarded r (reading r past bind limit) depth t))) l

    -- where the standard gives a value with any fuel, the strict reading gives its bytes, or refuses by 16, 17 or 26
    pub strict_standard_met : (fuel : ℕ) (v : List ℕ) → char_standard fuel ≡ some v → MeetsStrictly strict_read v
    strict_standard_met fuel v e =
        meets_so strict_read (normalize (with_legal (only_char r) (reading r past bind limit)) depth t) v (unguarded r (reading r past bind limit) depth t)
        (met_ever (only_char r) r past bind limit good firm depth t wf still fuel v e)
