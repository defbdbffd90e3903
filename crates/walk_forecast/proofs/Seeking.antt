-- The search for the first definition with a name: from the list's start (`seeking_start`) past those with another name (`seeking_next`), and never past
-- all where the name is bound to a text (`seeking_declares`), to the one that has it (`seeking_found`). Assumes nothing.
use mathlib.Core.Path.{◌≡◌, refl, ap, sym, ◌∙◌, subst}
use mathlib.Core.Bool.{Bool, true, false}
use mathlib.Core.List.{List, [], ◌∷◌}
use Prim.Native.Nat.{ℕ, ◌+◌, ◌-◌, ◌<◌}
use native.Mathlib.Omega.{arith}
use lib.ListN.{length, get_or, take, drop}
use Rattle.text.specs.Bytes.{pick, same_bytes}
use Rattle.entity.specs.Table.{little_endian, part, mark_size, declares, declarations, ValidTable}
use Rattle.entity.specs.Binding.{Bound, text, predefined, external, unknown, predefined_of, body_bound, binding}
use Rattle.entity.specs.Commands.{command_name, command_text, Defines}
use Rattle.entity.specs.Steps.{command_size, Here}
use Rattle.entity.proofs.Lookup.{begin, over, Declared, declared, passed_by, found}
use Rattle.walk_pairs.specs.PairSums.{nth_body}
use Rattle.walk_forecast.specs.Numbering.{Standing}
use Rattle.walk_forecast.proofs.Standing.{standing_start, standing_there, standing_body, standing_next}

-- a predefined name is not bound to a text of the table
abbrev NoText : Bound → Type 0
NoText (text t) = ⊥
NoText (predefined t) = Unit {0}
NoText external = Unit {0}
NoText unknown = Unit {0}

predefined_no_text : (name : List ℕ) → NoText (predefined_of name)
unfolding predefined_of
predefined_no_text name =
    go (same_bytes name (108 ∷ 116 ∷ [])) (same_bytes name (103 ∷ 116 ∷ [])) (same_bytes name (97 ∷ 109 ∷ 112 ∷ []))
    (same_bytes name (97 ∷ 112 ∷ 111 ∷ 115 ∷ [])) (same_bytes name (113 ∷ 117 ∷ 111 ∷ 116 ∷ []))
  where
    go : (l g a p q : Bool)
        → NoText (pick l (predefined (60 ∷ [])) (pick g (predefined (62 ∷ [])) (pick a (predefined (38 ∷ []))
        (pick p (predefined (39 ∷ [])) (pick q (predefined (34 ∷ [])) unknown)))))
    go true g a p q = tt
    go false true a p q = tt
    go false false true p q = tt
    go false false false true q = tt
    go false false false false true = tt
    go false false false false false = tt

-- the name of a command, as it is lent
pub name_lent : (list pool : List ℕ) (command : ℕ) {start end : ℕ} → start ≡ little_endian list (command + 1) 4 → end ≡ start + get_or list (command + 5) 0
    → take (end - start) (drop start pool) ≡ command_name list pool command
unfolding part
name_lent list pool command {start} {end} p q =
    let size : end - start ≡ get_or list (command + 5) 0 = omega (arith, q) in
    ap (λ (n : ℕ). take n (drop start pool)) size ∙ ap (λ (n : ℕ). take (get_or list (command + 5) 0) (drop n pool)) p

pub record Seeking (list pool name : List ℕ) (at number : ℕ) : Type 0 where
  pub here : Here list pool name at
  pub standing : Standing list pool number at

pub seeking_start : (list pool name : List ℕ) {at : ℕ} → ValidTable list pool → at ≡ mark_size list → Seeking list pool name at 0
seeking_start list pool name v q = record { here = begin list pool name v q; standing = standing_start list pool v q }

module _ {list pool name : List ℕ} {at number : ℕ} (s : Seeking list pool name at number) {t : List ℕ} (bound : binding list pool name ≡ text t) where
  pub seeking_declares : declares (get_or list at 0) ≡ true
  seeking_declares = go (declares (get_or list at 0)) refl
    where
      go : (b : Bool) → declares (get_or list at 0) ≡ b → declares (get_or list at 0) ≡ true
      go true e = e
      go false e = absurd (subst NoText (over s.here e ∙ bound) (predefined_no_text name))

  pub seeking_named : Declared list pool at
  seeking_named = declared s.here seeking_declares

  pub seeking_next : {size : ℕ} → size ≡ command_size (get_or list at 0) → same_bytes (command_name list pool at) name ≡ false → Seeking list pool name (at + size) (number + 1)
  seeking_next w e = record { here = passed_by s.here seeking_declares w e; standing = standing_next s.standing seeking_declares w }

  pub seeking_found : same_bytes (command_name list pool at) name ≡ true
      → (number < length (declarations list)) × (body_bound pool (nth_body (declarations list) number) ≡ text t)
  seeking_found e = (
    standing_there s.standing seeking_declares,
    ap (body_bound pool) (standing_body s.standing seeking_declares) ∙ sym (found s.here seeking_declares e) ∙ bound,
  )

-- the name of a command that defines it is bound to its text
pub lent_bound : (list pool : List ℕ) (command : ℕ) {start more : ℕ} → Defines list pool command → start ≡ little_endian list (command + 1) 4
    → more ≡ get_or list (command + 5) 0 → binding list pool (take (start + more - start) (drop start pool)) ≡ text (command_text list pool command)
lent_bound list pool command {start} {more} d p q =
    ap (binding list pool) (name_lent list pool command p (ap (λ (n : ℕ). start + n) q)) ∙ d.binds
