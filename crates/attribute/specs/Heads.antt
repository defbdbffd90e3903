-- How an attribute value is cut into tokens (document 01, Attribute walk; document 02, K4; XML 1.0 and 1.1, 2.11 and 3.3.3). Assumes
-- nothing.
use Rattle.std.specs.Prelude.{ℕ, zero, suc, false, ◌||◌, List, ◌∷◌, eqb}
use Rattle.text.specs.Bytes.{pick}
use Rattle.text.specs.Version.{Rule, xml10, xml11}
use Rattle.eols.specs.LineEnds.{line_end}
use Rattle.tokens.specs.Tokens.{kept, space, copy, stop, Head, head, name_at, reference_at}

-- one line end of the version becomes one space
unfoldable pub space_or : ℕ → Head → Head
space_or zero other = other
space_or (suc w) other = head (stop space) w

-- stop bytes of 1.1: a C2 or E2 character that is no line end is copied
unfoldable pub other_head : Rule → ℕ → Head
other_head xml10 b = head (copy b) 0
other_head xml11 b = pick (eqb b 0xC2 || eqb b 0xE2) (head (stop (kept b)) 0) (head (copy b) 0)

-- `&`: the name runs to the next `;`
abbrev pub reference_or : ℕ → ℕ → List ℕ → Head → Head
reference_or offset b bs other = pick (eqb b 38) (reference_at offset bs (name_at false bs)) other

-- TAB, LF, or one line end of the version, becomes one space
unfoldable pub attribute_head : Rule → ℕ → ℕ → List ℕ → Head
unfolding reference_at name_at space_or other_head line_end
attribute_head r offset b bs =
    reference_or offset b bs
    (pick (eqb b 9) (head (stop space) 0)
    (space_or (line_end r (b ∷ bs)) (other_head r b)))

-- document 02, K4: in a text past line ends TAB, LF and CR each become one space, and nothing is joined
unfoldable pub past_head : ℕ → ℕ → List ℕ → Head
unfolding reference_at name_at
past_head offset b bs = reference_or offset b bs (pick (eqb b 9 || eqb b 10 || eqb b 13) (head (stop space) 0) (head (copy b) 0))
