-- The names that unescaping looks up (document 02, K13). Assumes nothing.
use Rattle.std.specs.Prelude.{ℕ, List, [], ◌∷◌}
use Rattle.entity.specs.Binding.{Bound}
use Rattle.tokens.specs.Tokens.{Stop, kept, space, number, named, unterminated, tokens}
use Rattle.tokens.specs.Lookups.{lookups}
use Rattle.unescape.specs.Unescape.{text_head, replaced}

-- every name, `amp` too, is looked up; the text is copied and not opened, so no name of it is
unfoldable pub name_asked : Stop → ℕ → List (List ℕ)
name_asked (kept b) openings = []
name_asked space openings = []
name_asked (number digits) openings = []
name_asked (named offset name) openings = name ∷ []
name_asked (unterminated offset end) openings = []

-- the names that unescaping a text looks up, in order, up to the refusal
unfoldable pub looked_up_in_text : (List ℕ → Bound) → List ℕ → List (List ℕ)
unfolding lookups tokens text_head replaced name_asked
looked_up_in_text bind t = lookups (replaced bind) name_asked (tokens text_head 0 0 t) 0
