-- Every byte that one of the sets replaces, and some that neither does, by computation. Assumes nothing.
use mathlib.Core.Path.{◌≡◌, refl}
use mathlib.Core.List.{List, [], ◌∷◌}
use Prim.Native.Nat.{ℕ}
use Rattle.escape.specs.Escape.{write}
use Rattle.c14n.specs.C14n.{c14n_attribute, c14n_text}

-- TAB LF CR space " & ' < > a
abbrev characters : List ℕ
characters = 9 ∷ 10 ∷ 13 ∷ 32 ∷ 34 ∷ 38 ∷ 39 ∷ 60 ∷ 62 ∷ 97 ∷ []

-- &#x9;&#xA;&#xD; &quot;&amp;'&lt;>a
in_attributes : write c14n_attribute characters
    ≡ 38 ∷ 35 ∷ 120 ∷ 57 ∷ 59 ∷ 38 ∷ 35 ∷ 120 ∷ 65 ∷ 59 ∷ 38 ∷ 35 ∷ 120 ∷ 68 ∷ 59 ∷ 32
    ∷ 38 ∷ 113 ∷ 117 ∷ 111 ∷ 116 ∷ 59 ∷ 38 ∷ 97 ∷ 109 ∷ 112 ∷ 59 ∷ 39
    ∷ 38 ∷ 108 ∷ 116 ∷ 59 ∷ 62 ∷ 97 ∷ []
unfolding write c14n_attribute
in_attributes = refl

-- TAB LF &#xD; "&amp;'&lt;&gt;a
in_text : write c14n_text characters
    ≡ 9 ∷ 10 ∷ 38 ∷ 35 ∷ 120 ∷ 68 ∷ 59 ∷ 32 ∷ 34 ∷ 38 ∷ 97 ∷ 109 ∷ 112 ∷ 59 ∷ 39 ∷ 38 ∷ 108 ∷ 116 ∷ 59 ∷ 38 ∷ 103 ∷ 116 ∷ 59 ∷ 97 ∷ []
unfolding write c14n_text
in_text = refl
