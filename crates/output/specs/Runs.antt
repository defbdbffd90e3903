-- Runs of bytes that are copied as they stand, over any test for the bytes at which a run stops: the terms in which writers are proved. Assumes nothing.
use Rattle.std.specs.Prelude.{ℕ, ◌+◌, ◌≤◌, ◌<◌, ◌≡◌, Bool, true, false, ◌||◌, List, eqb, length, take, get_or}
use Rattle.text.specs.Call.{laid}

-- no stop from `i` up to `e`
pub record Plain (stop : ℕ → Bool) (text : List ℕ) (i e : ℕ) : Type 0 where
  pub from : i ≤ e
  pub to : e ≤ length text
  pub none : (k : ℕ) → i ≤ k → k < e → stop (get_or text k 0) ≡ false

-- a run may stop at either of two bytes
abbrev pub either_byte : ℕ → ℕ → ℕ → Bool
either_byte a b c = eqb c a || eqb c b

-- the first `e` bytes of the text are a run, and lie at the start of the output
pub record Copied (stop : ℕ → Bool) (text old out : List ℕ) (e : ℕ) : Type 0 where
  pub run : Plain stop text 0 e
  pub holds : out ≡ laid (take e text) old

-- which goes on to the next stop, or to the text's end
abbrev pub Ends : (ℕ → Bool) → List ℕ → ℕ → Type 0
Ends stop text e = e < length text → stop (get_or text e 0) ≡ true

-- the output has room for any run at the text's start
abbrev pub Room : (ℕ → Bool) → List ℕ → List ℕ → Type 0
Room stop text out = (e : ℕ) → Plain stop text 0 e → e ≤ length out

-- a run that two pieces of `size` bytes cover, its first and its last, and an output with room for it
pub record TwoPieces (src out : List ℕ) (size : ℕ) : Type 0 where
  pub small : size ≤ 16
  pub reaches : size ≤ length src
  pub covers : length src ≤ size + size
  pub room : length src ≤ length out
