-- The escaping of W3C Canonical XML 1.0, 2.3, as replacement sets (document 02, K1). Assumes nothing.
use Rattle.std.specs.Prelude.{Bool, true, false, ◌||◌, eqb}
use Rattle.escape.specs.Escape.{Replacements, hex_reference}

-- 2.3, attribute nodes: & < " TAB LF CR; > and ' stay
unfoldable pub c14n_attribute : Replacements
unfolding hex_reference
c14n_attribute = record { picks = λ b. eqb b 38 || eqb b 60 || eqb b 34 || eqb b 9 || eqb b 10 || eqb b 13; by = hex_reference }

-- 2.3, text nodes: & < > CR; quotes, TAB and LF stay
unfoldable pub c14n_text : Replacements
unfolding hex_reference
c14n_text = record { picks = λ b. eqb b 38 || eqb b 60 || eqb b 62 || eqb b 13; by = hex_reference }

-- attribute values or text
abbrev pub c14n_set : Bool → Replacements
c14n_set true = c14n_attribute
c14n_set false = c14n_text
