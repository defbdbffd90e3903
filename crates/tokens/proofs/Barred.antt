-- Heads that bar no character (document 02, K8: the lenient readings). Assumes nothing.
use Prim.Native.Nat.{ℕ, suc}
use mathlib.Core.List.{List, [], ◌∷◌}
use lib.Dec.{eqb}
use lib.ListN.{length}
use Rattle.text.proofs.Bytes.{pick_both}
use Rattle.tokens.specs.Tokens.{number, named, Token, copy, stop, barred, Head, head, Heads, token_of, Name, ended, endless, reference_to, reference_at}

abbrev pub IsBarred : Token → Type 0
IsBarred (copy b) = ⊥
IsBarred (stop s) = ⊥
IsBarred (barred o) = Unit {0}

abbrev pub Passes : Head → Type 0
Passes z = IsBarred (token_of z) → ⊥

abbrev pub BarsNothing : Heads → Type 0
BarsNothing at = (offset b : ℕ) (bs : List ℕ) → Passes (at offset b bs)

-- a reference is a stop
pub reference_passes : (offset : ℕ) (bs : List ℕ) (n : Name) → Passes (reference_at offset bs n)
unfolding reference_at reference_to
reference_passes offset bs (ended []) = λ p. p
reference_passes offset bs (ended (b ∷ name)) =
    pick_both Passes (eqb b 35)
    {a = head (stop (number name)) (suc (suc (length name)))} {b = head (stop (named offset (b ∷ name))) (suc (suc (length name)))} (λ p. p) (λ p. p)
reference_passes offset bs endless = λ p. p
