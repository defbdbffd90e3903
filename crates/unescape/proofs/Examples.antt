-- Document 01's examples of unescaping (Test seams), and the names that small texts look up (document 02, K13), by computation. Assumes
-- nothing.
use mathlib.Core.Path.{◌≡◌, refl}
use mathlib.Core.List.{List, [], ◌∷◌}
use Prim.Native.Nat.{ℕ}
use Rattle.entity.specs.Binding.{binding}
use Rattle.tokens.specs.Outcome.{Outcome, done, refused}
use Rattle.unescape.specs.Unescape.{unescape}
use Rattle.unescape.specs.LookedUpInText.{looked_up_in_text}

-- with the empty table
empty : List ℕ → Outcome
unfolding unescape
empty t = unescape (binding (0 ∷ []) []) t

-- amp = `X`
amp_is_x : List ℕ → Outcome
unfolding unescape
amp_is_x t = unescape (binding (1 ∷ 0 ∷ 0 ∷ 0 ∷ 0 ∷ 3 ∷ 3 ∷ 0 ∷ 0 ∷ 0 ∷ 1 ∷ 0 ∷ 0 ∷ []) (97 ∷ 109 ∷ 112 ∷ 88 ∷ [])) t

table :
    (empty (38 ∷ 97 ∷ 38 ∷ 98 ∷ 59 ∷ []) ≡ refused [] 0 10 0 5)  -- &a&b;
    × (empty (38 ∷ 59 ∷ []) ≡ refused [] 0 11 1 1)  -- &;
    × (empty (97 ∷ 38 ∷ 98 ∷ 59 ∷ []) ≡ refused (97 ∷ []) 0 11 2 3)  -- a&b;
    × (empty (38 ∷ 35 ∷ 120 ∷ 52 ∷ 49 ∷ 59 ∷ 38 ∷ 35 ∷ 54 ∷ 53 ∷ 59 ∷ []) ≡ done (65 ∷ 65 ∷ []) 0)  -- &#x41;&#65;
    × (empty (38 ∷ 35 ∷ 43 ∷ 49 ∷ 59 ∷ []) ≡ refused [] 0 12 0 0)  -- &#+1;
    × (empty (38 ∷ 35 ∷ 88 ∷ 52 ∷ 49 ∷ 59 ∷ []) ≡ refused [] 0 13 0 0)  -- &#X41;
    × (empty (38 ∷ 35 ∷ 59 ∷ []) ≡ refused [] 0 13 0 0)  -- &#;
    × (empty (38 ∷ 35 ∷ 120 ∷ 68 ∷ 56 ∷ 48 ∷ 48 ∷ 59 ∷ []) ≡ refused [] 0 14 55296 0)  -- &#xD800;
    × (empty (38 ∷ 35 ∷ 48 ∷ 59 ∷ []) ≡ refused [] 0 15 0 0)  -- &#0;
    × (empty (38 ∷ 35 ∷ 49 ∷ 59 ∷ []) ≡ done (1 ∷ []) 0)  -- &#1;
    × (empty (38 ∷ 97 ∷ 109 ∷ 112 ∷ 59 ∷ 108 ∷ 116 ∷ 59 ∷ []) ≡ done (38 ∷ 108 ∷ 116 ∷ 59 ∷ []) 0)  -- &amp;lt;
    × (amp_is_x (38 ∷ 97 ∷ 109 ∷ 112 ∷ 59 ∷ []) ≡ done (88 ∷ []) 0)  -- &amp;
unfolding empty amp_is_x unescape binding
table = (refl, refl, refl, refl, refl, refl, refl, refl, refl, refl, refl, refl)

-- K13: e = `&f;`; `amp` is looked up, the names in a text that is copied are not, and none is after the refusal
names : List ℕ → List (List ℕ)
unfolding looked_up_in_text
names t = looked_up_in_text (binding (1 ∷ 0 ∷ 0 ∷ 0 ∷ 0 ∷ 1 ∷ 1 ∷ 0 ∷ 0 ∷ 0 ∷ 3 ∷ 0 ∷ 0 ∷ []) (101 ∷ 38 ∷ 102 ∷ 59 ∷ [])) t

names_looked_up :
    (names (38 ∷ 97 ∷ 109 ∷ 112 ∷ 59 ∷ 38 ∷ 101 ∷ 59 ∷ []) ≡ (97 ∷ 109 ∷ 112 ∷ []) ∷ (101 ∷ []) ∷ [])  -- &amp;&e;
    × (names (38 ∷ 102 ∷ 59 ∷ 38 ∷ 101 ∷ 59 ∷ []) ≡ (102 ∷ []) ∷ [])  -- &f;&e;: 11 at f
    × (names (38 ∷ 101 ∷ 59 ∷ 38 ∷ 35 ∷ 48 ∷ 59 ∷ 38 ∷ 101 ∷ 59 ∷ []) ≡ (101 ∷ []) ∷ [])  -- &e;&#0;&e;: 15
unfolding names looked_up_in_text binding
names_looked_up = (refl, refl, refl)
