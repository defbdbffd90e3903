-- What replaces a reference stays the same at another offset and after other openings. Assumes nothing.
use Prim.Native.Nat.{ℕ}
use mathlib.Core.List.{List, []}
use Rattle.charref.specs.CharRef.{any_character}
use Rattle.entity.specs.Binding.{Bound, text, external, predefined, unknown}
use Rattle.tokens.specs.Seen.{Shifts}
use Rattle.tokens.proofs.Moved.{Moved, moved_still, number_moved, moved_shifts, refused_done}
use Rattle.unescape.specs.Unescape.{copied, replaced}

module _ (bind : List ℕ → Bound) (limit : ℕ) where
  copied_moved : (i j : ℕ) (name : List ℕ) (b : Bound) (m n : ℕ) → Moved limit m n (copied i name b m) (copied j name b n)
  unfolding copied
  copied_moved i j name (text t) m n = moved_still limit m n t
  copied_moved i j name external m n = tt
  copied_moved i j name (predefined t) m n = moved_still limit m n t
  copied_moved i j name unknown m n = tt

  pub replaced_shifts : Shifts limit (replaced bind)
  unfolding replaced
  replaced_shifts =
      moved_shifts limit (replaced bind) (λ digits m n. number_moved limit any_character digits m n) (λ i j name m n. copied_moved i j name (bind name) m n)
      (λ i e m n value. refused_done [] value m 10 i e n)
