-- The depth of the standard's definition is fuel only: a value at one depth is the value at every greater one. Assumes nothing.
use mathlib.Core.Path.{◌≡◌, refl}
use Prim.Native.Nat.{ℕ, zero, suc, ◌+◌}
use native.Mathlib.Nat.{zero-add, suc-add}
use mathlib.Core.Bool.{Bool, true, false}
use mathlib.Core.Option.{Option, none, some}
use mathlib.Core.List.{List, [], ◌∷◌}
use lib.Dec.{eqb}
use Rattle.text.specs.Bytes.{pick, same_bytes}
use Rattle.charref.specs.CharRef.{char_number}
use Rattle.charref.specs.CharNumbers.{CharNumber}
use Rattle.tokens.specs.Tokens.{Name, ended, endless, name_at}
use Rattle.demands.specs.Standard.{is_white, both, name_then, name_skip, value_of, character_value, replaced_by, entity_value, reference_value, standard}

-- where the first has a value, the second has the same
abbrev Below : Option (List ℕ) → Option (List ℕ) → Type 0
Below none y = Unit {0}
Below (some v) y = y ≡ some v

same_below : (x : Option (List ℕ)) → Below x x
same_below none = tt
same_below (some v) = refl

join_below : (x x' y y' : Option (List ℕ)) → Below x x' → Below y y' → Below (both x y) (both x' y')
unfolding both
join_below none x' y y' h k = tt
join_below (some v) x' none y' h k = tt
join_below (some v) x' (some w) y' h k = rw (h, k)

pick_below : (t : Bool) (a a' b b' : Option (List ℕ)) → Below a a' → Below b b' → Below (pick t a b) (pick t a' b')
pick_below true a a' b b' h k = h
pick_below false a a' b b' h k = k

module _ (ref ref' : List ℕ → Option (List ℕ)) (h : (name : List ℕ) → Below (ref name) (ref' name)) where
  name_below : (n : Name) → Below (name_then ref n) (name_then ref' n)
  name_below (ended name) = h name
  name_below endless = tt

  value_below : (cs : List ℕ) (skip : ℕ) → Below (value_of ref skip cs) (value_of ref' skip cs)
  unfolding value_of
  value_below [] zero = refl
  value_below [] (suc skip) = refl
  value_below (c ∷ cs) (suc skip) = value_below cs skip
  value_below (c ∷ cs) zero =
      pick_below (eqb c 38) (both (name_then ref (name_at false cs)) (value_of ref (name_skip (name_at false cs)) cs)) (both (name_then ref' (name_at false cs)) (value_of ref' (name_skip (name_at false cs)) cs))
      (pick (is_white c) (both (some (32 ∷ [])) (value_of ref 0 cs)) (both (some (c ∷ [])) (value_of ref 0 cs)))
      (pick (is_white c) (both (some (32 ∷ [])) (value_of ref' 0 cs)) (both (some (c ∷ [])) (value_of ref' 0 cs)))
      (join_below (name_then ref (name_at false cs)) (name_then ref' (name_at false cs)) (value_of ref (name_skip (name_at false cs)) cs) (value_of ref' (name_skip (name_at false cs)) cs)
      (name_below (name_at false cs)) (value_below cs (name_skip (name_at false cs))))
      (pick_below (is_white c) (both (some (32 ∷ [])) (value_of ref 0 cs)) (both (some (32 ∷ [])) (value_of ref' 0 cs)) (both (some (c ∷ [])) (value_of ref 0 cs)) (both (some (c ∷ [])) (value_of ref' 0 cs))
      (join_below (some (32 ∷ [])) (some (32 ∷ [])) (value_of ref 0 cs) (value_of ref' 0 cs) refl (value_below cs 0))
      (join_below (some (c ∷ [])) (some (c ∷ [])) (value_of ref 0 cs) (value_of ref' 0 cs) refl (value_below cs 0)))

module _ (legal : ℕ → CharNumber) (lookup : List ℕ → Option (List ℕ)) where
  module _ (step step' : List ℕ → Option (List ℕ)) (h : (t : List ℕ) → Below (step t) (step' t)) where
    replaced_below : (x : Option (List ℕ)) → Below (replaced_by step x) (replaced_by step' x)
    unfolding replaced_by
    replaced_below none = tt
    replaced_below (some t) = h t

    entity_below : (name : List ℕ) → Below (entity_value lookup step name) (entity_value lookup step' name)
    unfolding entity_value
    entity_below name =
        pick_below (same_bytes name (97 ∷ 109 ∷ 112 ∷ [])) (some (38 ∷ [])) (some (38 ∷ [])) (replaced_by step (lookup name)) (replaced_by step' (lookup name)) refl (replaced_below (lookup name))

    reference_below : (name : List ℕ) → Below (reference_value legal lookup step name) (reference_value legal lookup step' name)
    unfolding reference_value
    reference_below [] = entity_below []
    reference_below (c ∷ cs) =
        pick_below (eqb c 35) (character_value (char_number legal cs)) (character_value (char_number legal cs)) (entity_value lookup step (c ∷ cs)) (entity_value lookup step' (c ∷ cs))
        (same_below (character_value (char_number legal cs))) (entity_below (c ∷ cs))

  standard_below : (lines : List ℕ → List ℕ) (depth : ℕ) (cs : List ℕ) → Below (standard legal lookup lines depth cs) (standard legal lookup lines (suc depth) cs)
  unfolding standard
  standard_below lines zero cs =
      value_below (λ name. none) (reference_value legal lookup (λ t. standard legal lookup lines 0 (lines t))) (λ name. tt) cs 0
  standard_below lines (suc depth) cs =
      value_below (reference_value legal lookup (λ t. standard legal lookup lines depth (lines t))) (reference_value legal lookup (λ t. standard legal lookup lines (suc depth) (lines t)))
      (reference_below (λ t. standard legal lookup lines depth (lines t)) (λ t. standard legal lookup lines (suc depth) (lines t)) (λ t. standard_below lines depth (lines t))) cs 0

  -- a value of the standard is its value at every greater depth
  pub standard_deeper : (lines : List ℕ → List ℕ) (depth more : ℕ) (cs v : List ℕ) → standard legal lookup lines depth cs ≡ some v
      → standard legal lookup lines (more + depth) cs ≡ some v
  standard_deeper lines depth zero cs v e = rw (zero-add depth) e
  standard_deeper lines depth (suc more) cs v e =
      rw (suc-add more depth) (rw (standard_deeper lines depth more cs v e) at (standard_below lines (more + depth) cs))
