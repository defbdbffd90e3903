-- Small attribute values and canonical forms, for both versions, by computation (document 01, Test seams and Refusals by place).
-- Assumes nothing.
use mathlib.Core.Path.{◌≡◌, refl}
use mathlib.Core.Bool.{Bool, true, false}
use mathlib.Core.List.{List, [], ◌∷◌}
use Prim.Native.Nat.{ℕ}
use Rattle.text.specs.Version.{Rule, xml10, xml11}
use Rattle.text.specs.Call.{called}
use Rattle.entity.specs.Binding.{binding}
use Rattle.tokens.specs.Outcome.{Outcome, done, refused}
use Rattle.attribute.specs.Walk.{normalize, reading, reading_of}
use Rattle.attribute.specs.Form.{formed_whole, formed}

-- e = `&lt;x`; amp = `X`
abbrev list : List ℕ
list =
    1 ∷ 0 ∷ 0 ∷ 0 ∷ 0 ∷ 1 ∷ 1 ∷ 0 ∷ 0 ∷ 0 ∷ 5 ∷ 0
    ∷ 1 ∷ 6 ∷ 0 ∷ 0 ∷ 0 ∷ 3 ∷ 9 ∷ 0 ∷ 0 ∷ 0 ∷ 1 ∷ 0
    ∷ 0 ∷ []

abbrev pool : List ℕ
pool = 101 ∷ 38 ∷ 108 ∷ 116 ∷ 59 ∷ 120 ∷ 97 ∷ 109 ∷ 112 ∷ 88 ∷ []

-- with that table, at a depth, with an opening limit
value : Rule → ℕ → ℕ → List ℕ → Outcome
value r depth limit t = normalize (reading_of r list pool limit) depth t

Values : Rule → Type 0
Values r =
    (value r 1 0 (38 ∷ 35 ∷ 49 ∷ 48 ∷ 59 ∷ []) ≡ done (10 ∷ []) 0)  -- &#10;
    × (value r 1 0 (38 ∷ 97 ∷ 38 ∷ 98 ∷ 59 ∷ []) ≡ refused [] 0 11 1 4)  -- &a&b;
    × (value r 1 0 (38 ∷ 97 ∷ 109 ∷ 112 ∷ 59 ∷ []) ≡ done (38 ∷ []) 0)  -- &amp;
    × (value r 0 0 (97 ∷ 32 ∷ 98 ∷ []) ≡ done (97 ∷ 32 ∷ 98 ∷ []) 0)  -- a b, depth 0
    × (value r 0 0 (97 ∷ 9 ∷ []) ≡ refused (97 ∷ []) 0 16 0 0)  -- a TAB, depth 0
    × (value r 1 0 (97 ∷ 9 ∷ []) ≡ done (97 ∷ 32 ∷ []) 0)  -- a TAB, limit 0
    × (value r 2 1 (38 ∷ 101 ∷ 59 ∷ []) ≡ done (60 ∷ 120 ∷ []) 1)  -- &e;
    × (value r 2 1 (38 ∷ 101 ∷ 59 ∷ 38 ∷ 101 ∷ 59 ∷ []) ≡ refused (60 ∷ 120 ∷ []) 1 17 3 0)  -- &e;&e;, limit 1

values : (r : Rule) → Values r
unfolding Values value normalize reading_of
values xml10 = (refl, refl, refl, refl, refl, refl, refl, refl)
values xml11 = (refl, refl, refl, refl, refl, refl, refl, refl)

-- document 02, K9: e and amp external; f = `&e;`
abbrev outsiders : List ℕ
outsiders = 2 ∷ 0 ∷ 0 ∷ 0 ∷ 0 ∷ 1 ∷ 1 ∷ 1 ∷ 0 ∷ 0 ∷ 0 ∷ 1 ∷ 2 ∷ 0 ∷ 0 ∷ 0 ∷ 3 ∷ 0 ∷ 2 ∷ 5 ∷ 0 ∷ 0 ∷ 0 ∷ 3 ∷ 0 ∷ []

external_value : Rule → ℕ → ℕ → List ℕ → Outcome
external_value r depth limit t = normalize (reading_of r outsiders (101 ∷ 102 ∷ 38 ∷ 101 ∷ 59 ∷ 97 ∷ 109 ∷ 112 ∷ []) limit) depth t

Externals : Rule → Type 0
Externals r =
    (external_value r 1 0 (38 ∷ 101 ∷ 59 ∷ []) ≡ refused [] 0 27 0 0)  -- &e;, limit 0
    × (external_value r 0 1 (38 ∷ 101 ∷ 59 ∷ []) ≡ refused [] 0 16 0 0)  -- &e;, depth 0
    × (external_value r 2 1 (97 ∷ 38 ∷ 102 ∷ 59 ∷ []) ≡ refused (97 ∷ []) 1 27 0 0)  -- a&f;
    × (external_value r 1 0 (38 ∷ 97 ∷ 109 ∷ 112 ∷ 59 ∷ []) ≡ done (38 ∷ []) 0)  -- &amp;

externals : (r : Rule) → Externals r
unfolding Externals external_value normalize reading_of
externals xml10 = (refl, refl, refl, refl)
externals xml11 = (refl, refl, refl, refl)

-- document 02, K4: d = CR LF, h = `½`, n = U+0085, in texts past line ends and in others
abbrev line_texts : List ℕ
line_texts =
    1 ∷ 0 ∷ 0 ∷ 0 ∷ 0 ∷ 1 ∷ 1 ∷ 0 ∷ 0 ∷ 0 ∷ 2 ∷ 0
    ∷ 1 ∷ 3 ∷ 0 ∷ 0 ∷ 0 ∷ 1 ∷ 4 ∷ 0 ∷ 0 ∷ 0 ∷ 2 ∷ 0
    ∷ 1 ∷ 6 ∷ 0 ∷ 0 ∷ 0 ∷ 1 ∷ 7 ∷ 0 ∷ 0 ∷ 0 ∷ 2 ∷ 0
    ∷ 0 ∷ []

line_value : Rule → Bool → ℕ → List ℕ → Outcome
line_value r past depth t = normalize (reading r past (binding line_texts (100 ∷ 13 ∷ 10 ∷ 104 ∷ 0xC2 ∷ 0xBD ∷ 110 ∷ 0xC2 ∷ 0x85 ∷ [])) 1) depth t

Past : Rule → Type 0
Past r =
    (line_value r true 2 (38 ∷ 100 ∷ 59 ∷ []) ≡ done (32 ∷ 32 ∷ []) 1)  -- &d;
    × (line_value r true 1 (38 ∷ 100 ∷ 59 ∷ []) ≡ refused [] 1 16 0 0)  -- &d;, depth 1
    × (line_value r true 1 (38 ∷ 104 ∷ 59 ∷ []) ≡ done (0xC2 ∷ 0xBD ∷ []) 1)  -- &h;, depth 1
    × (line_value r true 2 (38 ∷ 110 ∷ 59 ∷ []) ≡ done (0xC2 ∷ 0x85 ∷ []) 1)  -- &n;
    × (line_value r true 1 (13 ∷ 10 ∷ []) ≡ done (32 ∷ []) 0)  -- CR LF in the value itself

past : (r : Rule) → Past r
unfolding Past line_value normalize reading binding
past xml10 = (refl, refl, refl, refl, refl)
past xml11 = (refl, refl, refl, refl, refl)

not_past : (line_value xml11 false 2 (38 ∷ 100 ∷ 59 ∷ []) ≡ done (32 ∷ []) 1)  -- &d;
    × (line_value xml11 false 1 (38 ∷ 104 ∷ 59 ∷ []) ≡ refused [] 1 16 0 0)  -- &h;, depth 1
    × (line_value xml11 false 2 (38 ∷ 110 ∷ 59 ∷ []) ≡ done (32 ∷ []) 1)  -- &n;
unfolding line_value normalize reading binding
not_past = (refl, refl, refl)

-- the value `<`, whose form is `&lt;`: with room, with a short output, with a short scratch, and a refusal of the walk
Forms : Rule → Type 0
Forms r =
    (formed_whole r (done (60 ∷ []) 7) (1 ∷ 2 ∷ []) (1 ∷ 2 ∷ 3 ∷ 4 ∷ 5 ∷ []) ≡ called 0 (4 ∷ 7 ∷ []) ((60 ∷ 2 ∷ []) ∷ (38 ∷ 108 ∷ 116 ∷ 59 ∷ 5 ∷ []) ∷ []))
    × (formed_whole r (done (60 ∷ []) 7) (1 ∷ 2 ∷ []) (1 ∷ 2 ∷ []) ≡ called 19 (4 ∷ 0 ∷ []) ((60 ∷ 2 ∷ []) ∷ (1 ∷ 2 ∷ []) ∷ []))
    × (formed_whole r (done (60 ∷ []) 7) [] (1 ∷ 2 ∷ []) ≡ called 18 (1 ∷ 0 ∷ []) ([] ∷ (1 ∷ 2 ∷ []) ∷ []))
    × (formed_whole r (refused (60 ∷ []) 7 11 1 4) (1 ∷ 2 ∷ []) (1 ∷ 2 ∷ []) ≡ called 11 (1 ∷ 4 ∷ []) ((1 ∷ 2 ∷ []) ∷ (1 ∷ 2 ∷ []) ∷ []))

forms : (r : Rule) → Forms r
unfolding Forms formed_whole
forms xml10 = (refl, refl, refl, refl)
forms xml11 = (refl, refl, refl, refl)

-- document 02, K7: the value `a<`, whose form ends in `;`; a short output; 3 bytes of scratch, with an empty value and with a refusal of the walk;
-- an empty value; `&` and then `;`
Hands : Rule → Type 0
Hands r =
    (formed r (done (97 ∷ 60 ∷ []) 7) (1 ∷ 2 ∷ 3 ∷ 4 ∷ 5 ∷ []) (1 ∷ 2 ∷ 3 ∷ 4 ∷ 5 ∷ 6 ∷ [])
    ≡ called 0 (5 ∷ 7 ∷ []) ((60 ∷ 0 ∷ 0 ∷ 0 ∷ 5 ∷ []) ∷ (97 ∷ 38 ∷ 108 ∷ 116 ∷ 59 ∷ 6 ∷ []) ∷ []))
    × (formed r (done (97 ∷ 60 ∷ []) 7) (1 ∷ 2 ∷ 3 ∷ 4 ∷ []) (1 ∷ []) ≡ called 19 (5 ∷ 0 ∷ []) ((1 ∷ 2 ∷ 3 ∷ 4 ∷ []) ∷ (1 ∷ []) ∷ []))
    × (formed r (done [] 0) (1 ∷ 2 ∷ 3 ∷ []) (1 ∷ []) ≡ called 18 (4 ∷ 0 ∷ []) ((1 ∷ 2 ∷ 3 ∷ []) ∷ (1 ∷ []) ∷ []))
    × (formed r (refused [] 7 11 1 4) (1 ∷ 2 ∷ 3 ∷ []) (1 ∷ []) ≡ called 11 (1 ∷ 4 ∷ []) ((1 ∷ 2 ∷ 3 ∷ []) ∷ (1 ∷ []) ∷ []))
    × (formed r (done [] 2) (1 ∷ 2 ∷ 3 ∷ 4 ∷ []) (1 ∷ []) ≡ called 0 (0 ∷ 2 ∷ []) ((1 ∷ 2 ∷ 3 ∷ 4 ∷ []) ∷ (1 ∷ []) ∷ []))
    × (formed r (done (38 ∷ 59 ∷ []) 0) (1 ∷ 2 ∷ 3 ∷ 4 ∷ []) (1 ∷ 2 ∷ 3 ∷ 4 ∷ 5 ∷ 6 ∷ [])
    ≡ called 0 (6 ∷ 0 ∷ []) ((59 ∷ 0 ∷ 0 ∷ 0 ∷ []) ∷ (38 ∷ 97 ∷ 109 ∷ 112 ∷ 59 ∷ 59 ∷ []) ∷ []))

hands : (r : Rule) → Hands r
unfolding Hands formed
hands xml10 = (refl, refl, refl, refl, refl, refl)
hands xml11 = (refl, refl, refl, refl, refl, refl)
