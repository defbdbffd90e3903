-- The next token from an offset on (document 02, K5). Assumes nothing.
use Rattle.std.specs.Prelude.{ℕ, zero, suc, ◌+◌, List, [], ◌∷◌, drop}
use Rattle.text.specs.Bytes.{pick}
use Rattle.utils.specs.CData.{outside}
use Rattle.utils.specs.CData.{Piece}
use Rattle.utils.specs.CData.{part, no_more, outside_at}
use Rattle.collapse.specs.Collapse.{is_space, spaces}
use Rattle.collapse.specs.declared.Found.{Found}

-- K5: how many bytes stand before the next space or the end
unfoldable pub token_size : List ℕ → ℕ
token_size [] = 0
token_size (b ∷ bs) = pick (is_space b) 0 (suc (token_size bs))

-- what a call finds, and the offset that it leaves
abbrev pub found : Piece → ℕ → Found
found piece next = record { piece = piece; next = next }

-- K5: start and length, "with the offset after them, or no more if only spaces or nothing is left"
unfoldable pub token_at : ℕ → ℕ → ℕ → Found
token_at offset start zero = found no_more offset
token_at offset start (suc size) = found (part start (suc size)) (start + suc size)

-- K5: after the spaces at the offset
unfoldable pub token_from : List ℕ → ℕ → Found
unfolding token_at token_size spaces
token_from text offset = token_at offset (offset + spaces (drop offset text)) (token_size (drop (offset + spaces (drop offset text)) text))

-- K5: one call; 20 and "no more" leave the offset as it is
unfoldable pub next_token : List ℕ → ℕ → Found
unfolding token_from outside
next_token text offset = pick (outside text offset) (found (outside_at offset) offset) (token_from text offset)
