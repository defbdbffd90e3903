-- Small values read strictly, for both versions, by computation (document 02, K8). Assumes nothing.
use mathlib.Core.Path.{◌≡◌, refl}
use mathlib.Core.Bool.{true, false}
use mathlib.Core.List.{List, [], ◌∷◌}
use Prim.Native.Nat.{ℕ}
use Rattle.text.specs.Version.{Rule, xml10, xml11}
use Rattle.canonical.specs.Canonical.{canonical}
use Rattle.tokens.specs.Outcome.{Outcome, done, refused}
use Rattle.attribute.specs.Walk.{normalize}
use Rattle.attribute.specs.Strict.{reading_by}

-- with no table
strict : Rule → ℕ → List ℕ → Outcome
strict r depth t = normalize (reading_by true r (0 ∷ []) [] 0) depth t

-- e is the pool after its first byte, with an opening limit of 1; K4: the list marked
abbrev one : ℕ → List ℕ
one size = 1 ∷ 0 ∷ 0 ∷ 0 ∷ 0 ∷ 1 ∷ 1 ∷ 0 ∷ 0 ∷ 0 ∷ size ∷ 0 ∷ 0 ∷ []

through : Rule → ℕ → ℕ → List ℕ → Outcome
through r depth size t = normalize (reading_by true r (one size) (101 ∷ t) 1) depth (38 ∷ 101 ∷ 59 ∷ [])

marked_through : Rule → ℕ → ℕ → List ℕ → Outcome
marked_through r depth size t = normalize (reading_by true r (3 ∷ one size) (101 ∷ t) 1) depth (38 ∷ 101 ∷ 59 ∷ [])

Both : Rule → Type 0
Both r =
    (strict r 0 (9 ∷ 1 ∷ []) ≡ refused [] 0 16 0 0)  -- TAB U+0001, depth 0: the stop comes first
    × (strict r 0 (1 ∷ 9 ∷ []) ≡ refused [] 0 26 0 0)  -- U+0001 TAB, depth 0
    × (strict r 0 (97 ∷ 1 ∷ []) ≡ refused (97 ∷ []) 0 26 1 0)  -- a U+0001
    × (strict r 1 (38 ∷ 1 ∷ 59 ∷ []) ≡ refused [] 0 11 1 2)  -- & U+0001 ;
    × (strict r 1 (38 ∷ 1 ∷ []) ≡ refused [] 0 10 0 2)  -- & U+0001
    × (strict r 1 (38 ∷ 35 ∷ 120 ∷ 70 ∷ 70 ∷ 70 ∷ 69 ∷ 59 ∷ []) ≡ refused [] 0 25 0 0)  -- &#xFFFE;
    × (strict r 1 (38 ∷ 35 ∷ 48 ∷ 59 ∷ []) ≡ refused [] 0 15 0 0)  -- &#0;
    × (strict r 0 (0xEF ∷ 0xBF ∷ 0xBE ∷ []) ≡ refused [] 0 26 0 0)  -- U+FFFE
    × (strict r 0 (0xEF ∷ 0xBF ∷ 0xBD ∷ []) ≡ done (0xEF ∷ 0xBF ∷ 0xBD ∷ []) 0)  -- U+FFFD
    × (strict r 0 (0 ∷ []) ≡ refused [] 0 26 0 0)  -- U+0000
    × (through r 1 3 (0xEF ∷ 0xBF ∷ 0xBE ∷ []) ≡ refused [] 1 26 0 0)  -- &e;, e = U+FFFE
    × (through r 1 2 (97 ∷ 0 ∷ []) ≡ refused (97 ∷ []) 1 26 1 0)  -- &e;, e = a U+0000
    × (through r 1 1 (0x7F ∷ []) ≡ done (0x7F ∷ []) 1)  -- &e;, e = U+007F

both : (r : Rule) → Both r
unfolding Both strict through normalize reading_by
both xml10 = (refl, refl, refl, refl, refl, refl, refl, refl, refl, refl, refl, refl, refl)
both xml11 = (refl, refl, refl, refl, refl, refl, refl, refl, refl, refl, refl, refl, refl)

-- under 1.0 RestrictedChar has no say, and what is no Char comes by no way
version_10 : (strict xml10 0 (0x7F ∷ []) ≡ done (0x7F ∷ []) 0)  -- U+007F
    × (strict xml10 0 (0xC2 ∷ 0x80 ∷ []) ≡ done (0xC2 ∷ 0x80 ∷ []) 0)  -- U+0080
    × (strict xml10 1 (97 ∷ 38 ∷ 35 ∷ 49 ∷ 59 ∷ []) ≡ refused (97 ∷ []) 0 25 0 0)  -- a&#1;
    × (through xml10 1 1 (1 ∷ []) ≡ refused [] 1 26 0 0)  -- &e;, e = U+0001
unfolding strict through normalize reading_by
version_10 = (refl, refl, refl, refl)

version_11 : (strict xml11 0 (0x7F ∷ []) ≡ refused [] 0 26 0 0)  -- U+007F
    × (strict xml11 0 (0xC2 ∷ 0x80 ∷ []) ≡ refused [] 0 26 0 0)  -- U+0080, depth 0: before 16
    × (strict xml11 1 (13 ∷ 0xC2 ∷ 0x80 ∷ []) ≡ refused (32 ∷ []) 0 26 1 0)  -- CR U+0080
    × (strict xml11 1 (0xC2 ∷ 0x85 ∷ []) ≡ done (32 ∷ []) 0)  -- U+0085, a line end
    × (strict xml11 1 (0xE2 ∷ 0x80 ∷ 0xA8 ∷ []) ≡ done (32 ∷ []) 0)  -- U+2028
    × (strict xml11 1 (97 ∷ 38 ∷ 35 ∷ 49 ∷ 59 ∷ []) ≡ done (97 ∷ 1 ∷ []) 0)  -- a&#1;
    × (strict xml11 1 (canonical xml11 (97 ∷ 1 ∷ [])) ≡ refused (97 ∷ []) 0 26 1 0)  -- its form, read again
    × (through xml11 1 1 (1 ∷ []) ≡ done (1 ∷ []) 1)  -- &e;, e = U+0001
    × (through xml11 1 2 (0xC2 ∷ 0x80 ∷ []) ≡ refused [] 1 16 0 0)  -- &e;, e = U+0080, depth 1
    × (marked_through xml11 1 2 (0xC2 ∷ 0x80 ∷ []) ≡ done (0xC2 ∷ 0x80 ∷ []) 1)  -- the same, the list marked
unfolding strict through marked_through normalize reading_by canonical
version_11 = (refl, refl, refl, refl, refl, refl, refl, refl, refl, refl)

-- what the lenient reading says of U+0080 at depth 0
lenient_80 : normalize (reading_by false xml11 (0 ∷ []) [] 0) 0 (0xC2 ∷ 0x80 ∷ []) ≡ refused [] 0 16 0 0
unfolding normalize reading_by
lenient_80 = refl

-- a name that holds U+0001 is found: U+0001 = x
odd_name : normalize (reading_by true xml10 (one 1) (1 ∷ 120 ∷ []) 1) 1 (38 ∷ 1 ∷ 59 ∷ []) ≡ done (120 ∷ []) 1
unfolding normalize reading_by
odd_name = refl
