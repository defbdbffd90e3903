-- The standards' own wording (XML 1.0 and 1.1, 2.11 and 3.3.3) on characters: a text is a list of code points. Read it beside the
-- standards. Document 01's departures are parameters, or are marked "Departure". Assumes nothing.
use Rattle.std.specs.Prelude.{◌≡◌, ℕ, zero, suc, Bool, true, false, ◌&&◌, ◌||◌, not, List, [], ◌∷◌, ◌++◌, length, eqb}
use Rattle.std.proofs.Math.Option.{Option, none, some}
use Rattle.text.specs.Bytes.{pick, same_bytes}
use Rattle.text.specs.Version.{Rule, xml10, xml11}
use Rattle.charref.specs.CharRef.{char_number}
use Rattle.charref.specs.CharNumbers.{CharNumber}
use Rattle.charref.specs.CharNumbers.{Char, UnexpectedSign, InvalidNumber, InvalidCodepoint, IllegalCharacter, Forbidden}
use Rattle.entity.specs.Binding.{Bound, text, external, predefined, unknown}
use Rattle.tokens.specs.Tokens.{Name, ended, endless, name_at}
use Rattle.tokens.specs.Outcome.{Outcome, done, refused}
use Rattle.demands.specs.Characters.{encode_all, decode}

-- 2.11: "the two-character sequence #xD #xA"; XML 1.1: also "#xD #x85"
unfoldable pub pair_ends : Rule → ℕ → ℕ → Bool
pair_ends xml10 c d = eqb c 13 && eqb d 10
pair_ends xml11 c d = eqb c 13 && (eqb d 10 || eqb d 0x85)

-- 2.11: "any #xD that is not followed by #xA"; XML 1.1: also "#x85" and "#x2028"
unfoldable pub alone : Rule → ℕ → ℕ
alone xml10 c = pick (eqb c 13) 10 c
alone xml11 c = pick (eqb c 13 || (eqb c 0x85 || eqb c 0x2028)) 10 c

-- 2.11: the characters after "translating" these "to a single #xA character"
unfoldable pub line_ends_of : Rule → List ℕ → List ℕ
unfolding pair_ends alone
line_ends_of r [] = []
line_ends_of r (c ∷ []) = alone r c ∷ []
line_ends_of r (c ∷ d ∷ cs) =
    let past = line_ends_of r cs in
    let rest = line_ends_of r (d ∷ cs) in
    pick (pair_ends r c d) (10 ∷ past) (alone r c ∷ rest)

-- 3.3.3: "a white space character (#x20, #xD, #xA, #x9)"
unfoldable pub is_white : ℕ → Bool
is_white c = eqb c 0x20 || (eqb c 0xD || (eqb c 0xA || eqb c 9))

-- one value after the other, where both are defined
unfoldable pub both : Option (List ℕ) → Option (List ℕ) → Option (List ℕ)
both none w = none
both (some v) none = none
both (some v) (some w) = some (v ++ w)

-- what stands between `&` and `;`, and how many characters that is with the `;`
abbrev pub name_then : (List ℕ → Option (List ℕ)) → Name → Option (List ℕ)
name_then ref (ended name) = ref name
name_then ref endless = none

abbrev pub name_skip : Name → ℕ
name_skip (ended name) = suc (length name)
name_skip endless = 0

-- 3.3.3, step 3, for each character or reference in turn: a reference appends what `ref` gives for the text between its `&` and its
-- `;` (Departure: whatever that text is), a white space character appends #x20, another character itself. Undefined where a
-- reference has no `;` or no value. `skip` characters are passed over first.
unfoldable pub value_of : (List ℕ → Option (List ℕ)) → ℕ → List ℕ → Option (List ℕ)
unfolding is_white both name_at
value_of ref skip [] = some []
value_of ref (suc skip) (c ∷ cs) = value_of ref skip cs
value_of ref zero (c ∷ cs) =
    let rest = value_of ref 0 cs in
    let beyond = value_of ref (name_skip (name_at false cs)) cs in
    pick (eqb c 38) (both (name_then ref (name_at false cs)) beyond)
    (pick (is_white c) (both (some (32 ∷ [])) rest)
    (both (some (c ∷ [])) rest))

-- 3.3.3: "For a character reference, append the referenced character": `char_number` reads 4.1, [66] CharRef, after its `#`
unfoldable pub character_value : CharNumber → Option (List ℕ)
character_value (Char n) = some (n ∷ [])
character_value UnexpectedSign = none
character_value InvalidNumber = none
character_value (InvalidCodepoint n) = none
character_value IllegalCharacter = none
character_value Forbidden = none

-- 3.3.3: "For an entity reference, recursively apply step 3 of this algorithm to the replacement text of the entity"
unfoldable pub replaced_by : (List ℕ → Option (List ℕ)) → Option (List ℕ) → Option (List ℕ)
replaced_by step none = none
replaced_by step (some t) = step t

-- Departure: `amp` is `&` and is not looked up (by 4.6 an entity `amp` must be so; document 01 lets a table say otherwise)
unfoldable pub entity_value : (List ℕ → Option (List ℕ)) → (List ℕ → Option (List ℕ)) → List ℕ → Option (List ℕ)
unfolding replaced_by
entity_value lookup step name = pick (same_bytes name (97 ∷ 109 ∷ 112 ∷ [])) (some (38 ∷ [])) (replaced_by step (lookup name))

-- Departure: `legal` says which characters a character reference may name; the standard's is 2.2, [2] Char, document 01's is all
unfoldable pub reference_value : (ℕ → CharNumber) → (List ℕ → Option (List ℕ)) → (List ℕ → Option (List ℕ)) → List ℕ → Option (List ℕ)
unfolding character_value entity_value char_number
reference_value legal lookup step [] = entity_value lookup step []
reference_value legal lookup step (c ∷ cs) = pick (eqb c 35) (character_value (char_number legal cs)) (entity_value lookup step (c ∷ cs))

-- 3.3.3: the normalized value of a text after its line ends; the depth is fuel, and at 0 no reference has a value.
-- Departure: `lines` is what is done to a replacement text first; the standard's is nothing, that of documents 01 and 02 `lines_of`
unfoldable pub standard : (ℕ → CharNumber) → (List ℕ → Option (List ℕ)) → (List ℕ → List ℕ) → ℕ → List ℕ → Option (List ℕ)
unfolding value_of reference_value
standard legal lookup lines zero cs = value_of (λ name. none) 0 cs
standard legal lookup lines (suc depth) cs =
    value_of (reference_value legal lookup (λ t. standard legal lookup lines depth (lines t))) 0 cs

-- Departure: documents 01 and 02 join the line ends of a replacement text first; K4: not where its list is marked, `past`, as the standard
unfoldable pub lines_of : Bool → Rule → List ℕ → List ℕ
unfolding line_ends_of
lines_of false r t = line_ends_of r t
lines_of true r t = t

-- ---- what the walk on bytes is compared by

-- 4.4: the replacement text that a name is bound to, on characters; 3.1, "No External Entity References": an external one has none here
unfoldable pub characters_of : Bound → Option (List ℕ)
unfolding decode
characters_of (text t) = some (decode t)
characters_of external = none
characters_of (predefined t) = some (decode t)
characters_of unknown = none

unfoldable pub lookup_of : (List ℕ → Bound) → List ℕ → Option (List ℕ)
unfolding characters_of encode_all
lookup_of bind name = characters_of (bind (encode_all name))

-- a character that 2.11 leaves: not CR, and under XML 1.1 not U+0085 or U+2028
unfoldable pub steady : Rule → ℕ → Bool
steady xml10 c = not (eqb c 13)
steady xml11 c = not (eqb c 13 || (eqb c 0x85 || eqb c 0x2028))

-- every character from a `&` to the next `;` is steady; `inside` says whether a `&` has been read
unfoldable pub steady_refs : Rule → Bool → List ℕ → Bool
unfolding steady
steady_refs r inside [] = true
steady_refs r false (c ∷ cs) = steady_refs r (eqb c 38) cs
steady_refs r true (c ∷ cs) =
    let out = steady_refs r false cs in
    let on = steady_refs r true cs in
    pick (eqb c 59) out (steady r c && on)

-- Departure: a name keeps line ends as they are (document 01, Attribute walk), so this is asked of a text and of replacement texts
abbrev pub SteadyText : Rule → List ℕ → Type 0
SteadyText r t = steady_refs r false (decode t) ≡ true

-- K4: of texts past line ends nothing is asked
abbrev pub SteadyBound : Bool → Rule → Bound → Type 0
SteadyBound true r b = Unit {0}
SteadyBound false r (text t) = SteadyText r t
SteadyBound false r external = Unit {0}
SteadyBound false r (predefined t) = SteadyText r t
SteadyBound false r unknown = Unit {0}

-- the standard's value is those characters, of which the bytes are the UTF-8
pub record FromStandard (x : Option (List ℕ)) (value : List ℕ) : Type 0 where
  pub characters : List ℕ
  pub defined : x ≡ some characters
  pub bytes : value ≡ encode_all characters

-- document 01's own limits, which the standard has not: 16 and 17
abbrev pub limited : ℕ → Bool
limited why = eqb why 16 || eqb why 17

-- the outcome is the UTF-8 of these characters, or a refusal by a limit
abbrev pub Meets : Outcome → List ℕ → Type 0
Meets (done value n) v = value ≡ encode_all v
Meets (refused before n why first second) v = limited why ≡ true
