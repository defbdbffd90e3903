-- Spaces by their index in a text: how they are counted, which of them go, and where a token ends. Assumes nothing.
use mathlib.Core.Path.{◌≡◌, ap, ◌∙◌}
use Prim.Native.Nat.{ℕ, suc, ◌+◌, ◌≤◌, ◌<◌}
use native.Mathlib.Omega.{arith}
use mathlib.Core.Bool.{true, false, ◌&&◌}
use mathlib.Core.List.{List, ◌∷◌}
use lib.ListN.{length, drop, get_or, drop_of_length-le}
use Rattle.utils.proofs.Rest.{byte_first}
use Rattle.collapse.specs.Collapse.{is_space, spaces, ends}
use Rattle.collapse.specs.Stage.{goes}

module _ (t : List ℕ) (i : ℕ) where
  -- a space is counted, and another byte or the end ends the count
  pub space_on : i < length t → is_space (get_or t i 0) ≡ true → i + spaces (drop i t) ≡ (i + 1) + spaces (drop (i + 1) t)
  space_on h e = omega (arith, ap spaces (byte_first t i h), counted (get_or t i 0) (drop (i + 1) t) e)
    where
      counted : (b : ℕ) (bs : List ℕ) → is_space b ≡ true → spaces (b ∷ bs) ≡ suc (spaces bs)
      counted b bs q = unfold spaces in rw q

  pub space_stop : i < length t → is_space (get_or t i 0) ≡ false → i + spaces (drop i t) ≡ i
  space_stop h e = omega (arith, ap spaces (byte_first t i h), stopped (get_or t i 0) (drop (i + 1) t) e)
    where
      stopped : (b : ℕ) (bs : List ℕ) → is_space b ≡ false → spaces (b ∷ bs) ≡ 0
      stopped b bs q = unfold spaces in rw q

  pub space_over : length t ≤ i → i + spaces (drop i t) ≡ i
  unfolding spaces
  space_over h = omega (arith, ap spaces (drop_of_length-le t h))

  -- what goes
  first_goes : i < length t → goes (drop i t) ≡ is_space (get_or t i 0) && ends (drop (i + 1) t)
  unfolding goes
  first_goes h = ap goes (byte_first t i h)

  pub goes_not : i < length t → is_space (get_or t i 0) ≡ false → goes (drop i t) ≡ false
  goes_not h e = first_goes h ∙ rw e

  pub goes_last : i + 1 ≡ length t → is_space (get_or t i 0) ≡ true → goes (drop i t) ≡ true
  unfolding ends
  goes_last h e = first_goes (omega (arith, h)) ∙ rw (e, drop_of_length-le t {i = i + 1} (omega (arith, h)))

  pub goes_pair : i + 1 < length t → goes (drop i t) ≡ is_space (get_or t i 0) && is_space (get_or t (i + 1) 0)
  unfolding ends
  goes_pair h =
      first_goes (omega (arith, h))
      ∙ ap (λ (l : List ℕ). is_space (get_or t i 0) && ends l) (byte_first t (i + 1) h)
