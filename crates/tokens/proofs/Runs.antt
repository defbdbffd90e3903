-- The tokens from an index on. Assumes nothing.
use mathlib.Core.Path.{◌≡◌, refl, sym, ap, ◌∙◌}
use mathlib.Core.List.{List, [], ◌∷◌}
use Prim.Native.Nat.{ℕ, zero, suc, ◌+◌, ◌<◌}
use native.Mathlib.Nat.{add-zero, add-suc, suc-add}
use native.Mathlib.Numerals.{add-one}
use lib.ListN.{length, get_or, drop}
use lib.Seq.{drop-cons, drop-drop}
use Rattle.tokens.specs.Tokens.{Heads, Token, tokens, token_of, skip_of}
use Rattle.tokens.specs.Walking.{head_at, next_at}

-- to skip k bytes is to start k bytes later
pub tokens_skip : (at : Heads) (bs : List ℕ) (offset k : ℕ) → tokens at offset k bs ≡ tokens at (offset + k) 0 (drop k bs)
unfolding tokens
tokens_skip at bs offset zero = ap (λ (o : ℕ). tokens at o 0 bs) (sym (add-zero offset))
tokens_skip at [] offset (suc k) = refl
tokens_skip at (b ∷ bs) offset (suc k) =
    tokens_skip at bs (suc offset) k ∙ ap (λ (o : ℕ). tokens at o 0 (drop k bs)) (suc-add offset k ∙ sym (add-suc offset k))

-- the tokens from an index on: the head there, and the tokens after it
pub tokens_at : (at : Heads) (text : List ℕ) (i : ℕ) → i < length text
    → tokens at i 0 (drop i text) ≡ token_of (head_at at text i) ∷ tokens at (next_at at text i) 0 (drop (next_at at text i) text)
unfolding tokens
tokens_at at text i h =
    let skip = skip_of (head_at at text i) in
    ap (tokens at i 0) (drop-cons text i 0 h ∙ ap (λ (k : ℕ). get_or text i 0 ∷ drop k text) (sym (add-one i)))
    ∙ ap (λ (l : List Token). token_of (head_at at text i) ∷ l)
    (ap (λ (k : ℕ). tokens at k skip (drop (i + 1) text)) (sym (add-one i))
    ∙ tokens_skip at (drop (i + 1) text) (i + 1) skip
    ∙ ap (tokens at (next_at at text i) 0) (drop-drop skip (i + 1) text))
