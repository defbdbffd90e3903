-- The second stage in one pass over the bytes that stay: the terms in which its code is proved. No promise of a call rests on these.
-- Assumes nothing.
use Rattle.std.specs.Prelude.{ℕ, ◌≤◌, ◌<◌, ◌≡◌, Bool, true, false, ◌&&◌, List, [], ◌∷◌, length, drop}
use Rattle.text.specs.Bytes.{pick}
use Rattle.collapse.specs.Collapse.{is_space, ends}

-- the text begins with a space that goes: before a space, or before the end
unfoldable pub goes : List ℕ → Bool
unfolding ends
goes [] = false
goes (b ∷ bs) = is_space b && ends bs

-- a text after its leading spaces, without the spaces that go
unfoldable pub tidied : List ℕ → List ℕ
unfolding ends
tidied [] = []
tidied (b ∷ bs) = pick (is_space b && ends bs) (tidied bs) (b ∷ tidied bs)

-- every byte from `i` up to `e` stays
pub record Stays (text : List ℕ) (i e : ℕ) : Type 0 where
  pub from : i ≤ e
  pub to : e ≤ length text
  pub none : (k : ℕ) → i ≤ k → k < e → goes (drop k text) ≡ false

-- and at `e` stands a space that goes, or the text ends
pub record StayEnd (text : List ℕ) (i e : ℕ) : Type 0 where
  pub run : Stays text i e
  pub stops : e < length text → goes (drop e text) ≡ true
