-- One command more, in the words: no slot of its name is empty (`inserted_vain`), or the first empty one is filled (`inserted_more`).
-- Assumes nothing.
use Rattle.std.proofs.Common.{◌≡◌, ℕ, ◌+◌, ◌-◌, ◌<◌, ◌≢◌, List, length, get_or, take, drop, refl, ap, ◌∙◌, subst, ap₂, arith}
use Rattle.entity.specs.Table.{little_endian, part}
use Rattle.entity.specs.Commands.{command_name}
use Rattle.table_index.specs.NameHash.{hash_of}
use Rattle.table_index.specs.Index.{FilledAt, home_at, home_of, slot_of, Vacant, FirstEmpty, Inserted}
use Rattle.table_index.proofs.Filing.{index_vain, index_more}

-- the home of the command's name, as the code lends it
pub home_name : (list pool : List ℕ) (at words : ℕ) {start end h from : ℕ} → start ≡ little_endian list (at + 1) 4 → end ≡ start + get_or list (at + 5) 0
    → h ≡ hash_of (take (end - start) (drop start pool)) → from ≡ home_at h words → from ≡ home_at (hash_of (command_name list pool at)) words
unfolding part
home_name list pool at words {start} {end} s e h f =
    let n : end - start ≡ get_or list (at + 5) 0 = omega (arith, e) in
    f ∙ ap (λ (x : ℕ). home_at x words) (h ∙ ap₂ (λ (a b : ℕ). hash_of (take a (drop b pool))) n s)

-- the first empty slot is empty; which it is is asked by itself, so that a wrong one is refused as a number
pub first_vacant : {words : List ℕ} {from k s : ℕ} → FirstEmpty words from k → k < 16 → s ≡ from + k → Vacant words s
first_vacant {words} f below e = record { is = ap (slot_of words) e ∙ f.empty below }

module _ (list pool : List ℕ) (at : ℕ) (words : List ℕ) {from k : ℕ} (is : from ≡ home_of (length words) (command_name list pool at)) (f : FirstEmpty words from k) where
  abbrev home : List ℕ → ℕ
  home = home_of (length words)

  full : (i : ℕ) → i < k → slot_of words (home (command_name list pool at) + i) ≢ 0
  full i l = subst (λ (n : ℕ). slot_of words (n + i) ≢ 0) is (f.taken i l)

  pub inserted_vain : k ≡ 16 → Inserted list pool at words words
  inserted_vain q = record { size = refl; more = λ cs p x. index_vain list pool home (slot_of words) at cs p x (λ i l. full i (omega (arith, q, l))) }

  pub inserted_more : k < 16 → {new : List ℕ} {s : ℕ} → s ≡ from + k → FilledAt (slot_of words) (slot_of new) s at → length new ≡ length words
      → Inserted list pool at words new
  inserted_more below {new} {s} place filled size =
      record {
        size = size;
        more = λ cs p x. index_more list pool home (slot_of words) at cs p x k below full (slot_of new)
            (subst (λ (n : ℕ). FilledAt (slot_of words) (slot_of new) n at) (place ∙ ap (λ (n : ℕ). n + k) is) filled);
      }
