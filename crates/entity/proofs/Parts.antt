-- Parts of the pool. Assumes nothing.
use mathlib.Core.Path.{◌≡◌}
use mathlib.Core.Bool.{Bool, false, ◌||◌}
use mathlib.Core.List.{List}
use Prim.Native.Nat.{ℕ, ◌+◌, ◌≤◌, ◌<◌}
use native.Mathlib.Omega.{arith}
use lib.Dec.{ltb}
use lib.ListN.{length, get_or, length-take, length-drop}
use lib.Seq.{get_or-take, get_or-drop}
use borrow.Author.Tests.{ltb-false}
use Rattle.text.proofs.Bytes.{or_left, or_right}
use Rattle.entity.specs.Table.{part}

module _ (pool : List ℕ) (start size : ℕ) where
  pub part_length : start + size ≤ length pool → length (part pool start size) ≡ size
  unfolding part
  part_length h = simp (length-take, length-drop) (omega arith)

  pub part_at : (i : ℕ) → i < size → get_or (part pool start size) i 0 ≡ get_or pool (start + i) 0
  unfolding part
  part_at i h = rw (get_or-take, get_or-drop)

-- refusal 8 of a declaration, as the code tests it
module _ (pool : List ℕ) (name n text t : ℕ) where
  abbrev pub past : Bool
  past = ltb (length pool) (name + n) || ltb (length pool) (text + t)

  pub name_fits : past ≡ false → name + n ≤ length pool
  name_fits e = ltb-false (length pool) (name + n) (or_left (ltb (length pool) (name + n)) (ltb (length pool) (text + t)) e)

  pub text_fits : past ≡ false → text + t ≤ length pool
  text_fits e = ltb-false (length pool) (text + t) (or_right (ltb (length pool) (name + n)) (ltb (length pool) (text + t)) e)
