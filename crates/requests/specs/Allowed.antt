-- K8: texts in which the strict reading finds nothing to refuse by 25 or 26, and the texts that a walk opens (document 02). Assumes nothing.
use Rattle.std.specs.Prelude.{◌≡◌, ℕ, zero, suc, Bool, true, false, ◌&&◌, List, [], ◌∷◌, eqb}
use Rattle.text.specs.Bytes.{pick, same_bytes}
use Rattle.text.specs.Version.{Rule}
use Rattle.charref.specs.CharRef.{char_number, only_char}
use Rattle.charref.specs.CharNumbers.{CharNumber}
use Rattle.charref.specs.CharNumbers.{Char, UnexpectedSign, InvalidNumber, InvalidCodepoint, IllegalCharacter, Forbidden}
use Rattle.entity.specs.Binding.{Bound, text, external, predefined, unknown}
use Rattle.legal.specs.Legal.{in_value, in_table, may_stand, fault_at}
use Rattle.tokens.specs.Tokens.{Stop, kept, space, number, named, unterminated, Token, copy, stop, barred, token_of, skip_of, Heads, tokens}
use Rattle.tokens.specs.Lookups.{lookups, Each}
use Rattle.attribute.specs.Walk.{Settings, answer, walk, reading_of}
use Rattle.demands.specs.Demands.{Asked, rule_for}

-- 12 to 15, or a character that the rule lets pass
abbrev pub is_allowed : CharNumber → Bool
is_allowed (Char n) = true
is_allowed UnexpectedSign = true
is_allowed InvalidNumber = true
is_allowed (InvalidCodepoint n) = true
is_allowed IllegalCharacter = true
is_allowed Forbidden = false

-- a character reference names no character outside Char
abbrev pub number_allowed : Rule → Token → Bool
number_allowed r (copy b) = true
number_allowed r (stop (kept b)) = true
number_allowed r (stop space) = true
number_allowed r (stop (number digits)) = is_allowed (char_number (only_char r) digits)
number_allowed r (stop (named offset name)) = true
number_allowed r (stop (unterminated offset end)) = true
number_allowed r (barred offset) = true

-- every raw character of a text may stand there, those between `&` and `;` excepted, and each character reference names a Char; the bytes after the
-- first of a reference or a line end are passed over
unfoldable pub allowed_from : (ℕ → Bool) → Rule → Heads → ℕ → ℕ → List ℕ → Bool
unfolding fault_at
allowed_from may r at offset skip [] = true
allowed_from may r at offset (suc skip) (b ∷ bs) = allowed_from may r at (suc offset) skip bs
allowed_from may r at offset zero (b ∷ bs) =
    let rest = allowed_from may r at (suc offset) (skip_of (at offset b bs)) bs in
    pick (fault_at may (b ∷ bs)) false (number_allowed r (token_of (at offset b bs)) && rest)

-- ---- the texts that a walk opens, in order, up to the refusal

-- the text of a reference, and those that its walk opens; none where 17, 27 or 11 keeps it closed
unfoldable pub texts_inside : ℕ → (List ℕ → ℕ → List (List ℕ)) → Bound → ℕ → List (List ℕ)
texts_inside limit texts (text t) openings = let inner = texts t (suc openings) in pick (eqb openings limit) [] (t ∷ inner)
texts_inside limit texts external openings = []
texts_inside limit texts (predefined t) openings = t ∷ texts t openings
texts_inside limit texts unknown openings = []

-- `amp` opens none
unfoldable pub texts_at : Settings → (List ℕ → ℕ → List (List ℕ)) → Stop → ℕ → List (List ℕ)
unfolding texts_inside
texts_at s texts (kept b) openings = []
texts_at s texts space openings = []
texts_at s texts (number digits) openings = []
texts_at s texts (named offset name) openings =
    let other = texts_inside s.limit texts (s.bind name) openings in
    pick (same_bytes name (97 ∷ 109 ∷ 112 ∷ [])) [] other
texts_at s texts (unterminated offset end) openings = []

-- those of a text that is walked with a depth; at depth 0 every stop is 16
unfoldable pub walk_texts : Settings → Heads → ℕ → List ℕ → ℕ → List (List ℕ)
unfolding lookups tokens answer walk texts_at
walk_texts s at zero t openings = []
walk_texts s at (suc depth) t openings =
    lookups (answer s (λ u n. walk s s.inner depth u n)) (texts_at s (λ u n. walk_texts s s.inner depth u n)) (tokens at 0 0 t) openings

-- K8: "characters must match Char", raw ones and those that a reference names, in the value and in each text that is opened
pub record Allowed (a : Asked) : Type 0 where
  pub value : allowed_from (may_stand in_value (rule_for a)) (rule_for a) (reading_of (rule_for a) a.list a.pool a.limit).outer 0 0 a.text ≡ true
  pub texts : Each (λ (u : List ℕ). allowed_from (may_stand in_table (rule_for a)) (rule_for a) (reading_of (rule_for a) a.list a.pool a.limit).inner 0 0 u ≡ true)
      (walk_texts (reading_of (rule_for a) a.list a.pool a.limit) (reading_of (rule_for a) a.list a.pool a.limit).outer a.depth a.text 0)
