-- What the code has tested where it reads the memory: a slot that is had again (`hit_tests`, `own_tests`) with what is asked of it
-- (`memory_bounds`), and what a name refers to by the memory (`refers_known`, `refers_trusted`). Assumes nothing.
use mathlib.Core.Path.{◌≡◌, refl, sym, ap, subst, ◌∙◌}
use mathlib.Core.Logic.{◌≢◌}
use mathlib.Core.Bool.{Bool, true, false, not, ◌||◌, true≢false}
use mathlib.Core.List.{List, [], ◌∷◌}
use Prim.Native.Nat.{ℕ, ◌+◌, ◌≤◌, ◌<◌}
use native.Mathlib.Omega.{arith}
use lib.Dec.{eqb, ltb}
use lib.ListN.{length, get_or}
use borrow.Author.Tests.{eqb-true, ltb-false}
use Rattle.text.specs.Bytes.{same_bytes}
use Rattle.text.proofs.Bytes.{or_left, or_right}
use Rattle.entity.specs.Table.{little_endian}
use Rattle.entity.specs.Binding.{predefined, predefined_of, bound_to, Lies}
use Rattle.entity.specs.Commands.{command_name, RefersTo, Refers}
use Rattle.entity.specs.declared.Binding.{Binding}
use Rattle.entity.specs.declared.Binding.TheVariants.{Predefined}
use Rattle.entity.specs.declared.Referent.TheVariants.{Predefined as Plain}
use Rattle.attribute.specs.Walk.{Settings}
use Rattle.memory.specs.Slots.{plain_word, Trusts, Memory}
use Rattle.memory.specs.Levels.{Bounds}
use Rattle.memory.proofs.Unhidden.{not_amp}

-- the command is this one, and its depth is enough
pub hit_tests : (a b d e : ℕ) → (not (eqb a b) || ltb d e) ≡ false → (a ≡ b) × (e ≤ d)
hit_tests a b d e t = (eqb-true a b (told (eqb a b) (or_left (not (eqb a b)) (ltb d e) t)), ltb-false d e (or_right (not (eqb a b)) (ltb d e) t))
  where
    told : (x : Bool) → not x ≡ false → x ≡ true
    told true q = refl
    told false q = absurd (true≢false q)

-- the part is the level's own, and fits
pub own_tests : (a b d e : ℕ) → (ltb a b || ltb d e) ≡ false → (b ≤ a) × (e ≤ d)
own_tests a b d e t = (ltb-false a b (or_left (ltb a b) (ltb d e) t), ltb-false d e (or_right (ltb a b) (ltb d e) t))

-- a memory has the bounds that are asked for
pub memory_bounds : (s : Settings) (form : ℕ) (list pool : List ℕ) {v words : List ℕ} {reached : ℕ} (command slot : ℕ) → Memory s form list pool v words → slot < 16
    → length v ≡ reached
    → Bounds command slot s.limit reached words
memory_bounds s form list pool command slot m h e =
    record {
      size = m.size;
      inside = λ q. omega (arith, (m.stands slot command h q).inside, e);
      few = λ q. (m.stands slot command h q).few;
    }

-- ---- what a name refers to

-- the command that a slot names, where it has the name
pub refers_known : {list pool words : List ℕ} (name : List ℕ) {k c start size : ℕ} → Trusts list pool words → k < 16 → get_or words k 0 ≡ c + 1
    → same_bytes (command_name list pool c) name ≡ true → start ≡ little_endian list (c + 6) 4 → size ≡ little_endian list (c + 10) 2
    → RefersTo list pool name c start (start + size)
refers_known name {k} {c} {start} t h e same s n = record { defines = t.defines k c h e; same = same; starts = s; ends = ap (λ (x : ℕ). start + x) n }

-- the byte of a predefined name whose word is set
pub refers_trusted : {list pool words : List ℕ} (name : List ℕ) {b : ℕ} → Trusts list pool words → same_bytes name (97 ∷ 109 ∷ 112 ∷ []) ≡ false
    → (r : Binding) → ((x : List ℕ) → bound_to x r ≡ predefined_of name) → ((x : List ℕ) → Lies x r) → r ≡ Predefined b → get_or words (plain_word b) 0 ≢ 0
    → Refers list pool name (Plain b)
unfolding bound_to
refers_trusted {list} {pool} name {b} t amp r bound lies q set =
    let p : predefined_of name ≡ predefined (b ∷ []) = sym (bound pool) ∙ ap (bound_to pool) q in
    (subst (Lies pool) q (lies pool), p, t.plain b (not_amp name b amp p) set name p)
