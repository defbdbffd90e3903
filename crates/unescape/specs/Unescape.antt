-- Unescaping (document 01, Unescaping): a replacement text is copied and not opened. Assumes nothing.
use Rattle.std.specs.Prelude.{ℕ, suc, ◌+◌, true, List, [], ◌∷◌, length, eqb}
use Rattle.text.specs.Bytes.{pick}
use Rattle.charref.specs.CharRef.{any_character}
use Rattle.entity.specs.Binding.{Bound, text, external, predefined, unknown}
use Rattle.tokens.specs.Tokens.{Stop, kept, space, number, named, unterminated, copy, Head, head, name_at, reference_at, tokens}
use Rattle.tokens.specs.Outcome.{Outcome, done, refused, run, number_outcome}

-- from `&`, the next `&` or `;` must be `;`
unfoldable pub text_head : ℕ → ℕ → List ℕ → Head
unfolding reference_at name_at
text_head offset b bs = pick (eqb b 38) (reference_at offset bs (name_at true bs)) (head (copy b) 0)

-- the text copied; refusal 27 (document 02, K9) has the offset of `&`, refusal 11 start and end of the name
unfoldable pub copied : ℕ → List ℕ → Bound → ℕ → Outcome
copied offset name (text t) openings = done t openings
copied offset name external openings = refused [] openings 27 offset 0
copied offset name (predefined t) openings = done t openings
copied offset name unknown openings = refused [] openings 11 (suc offset) (suc offset + length name)

-- every name, `amp` too, is looked up; a text that is unescaped has no `kept` and no `space`
unfoldable pub replaced : (List ℕ → Bound) → Stop → ℕ → Outcome
unfolding number_outcome copied
replaced bind (kept b) openings = done (b ∷ []) openings
replaced bind space openings = done (32 ∷ []) openings
replaced bind (number digits) openings = number_outcome any_character digits openings
replaced bind (named offset name) openings = copied offset name (bind name) openings
replaced bind (unterminated offset end) openings = refused [] openings 10 offset end

unfoldable pub unescape_from : (List ℕ → Bound) → ℕ → List ℕ → Outcome
unfolding run tokens text_head replaced
unescape_from bind offset t = run (replaced bind) (tokens text_head offset 0 t) 0

unfoldable pub unescape : (List ℕ → Bound) → List ℕ → Outcome
unfolding unescape_from
unescape bind t = unescape_from bind 0 t
