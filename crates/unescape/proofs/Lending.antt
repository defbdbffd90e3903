-- The walk by an index: the words that are lent to it (`lent_zeros`, `lent_kept`), and its loop, which keeps no reference (`Indexed`).
-- Assumes nothing.
use mathlib.Core.Path.{◌≡◌, refl, sym, ◌∙◌}
use mathlib.Core.List.{List}
use Prim.Native.Nat.{ℕ, ◌-◌, ◌≤◌, min}
use native.Mathlib.Omega.{arith}
use lib.ListN.{length, replicate, length-replicate}
use borrow.Rule.Slice.PartMut.{mid_of, put_mid}
use Rattle.entity.specs.Binding.{Bound, binding}
use Rattle.table_index.specs.Index.{Ready}
use Rattle.table_index.proofs.IndexStates.{ready_zeros}
use Rattle.tokens.specs.Seen.{seen_size}
use Rattle.tokens.specs.Walking.{Step}
use Rattle.unescape.specs.Steps.{Referred, Lent}
use Rattle.unescape.proofs.Known.{Known, known_once}
use Rattle.unescape.proofs.Turns.{Ran}

module _ (list pool : List ℕ) where
  -- an index that is not built yet
  pub lent_zeros : (n : ℕ) → 5 ≤ n → n ≤ 0x10000 → Lent list pool (replicate n 0)
  lent_zeros n least large =
      let all : length {A = ℕ} (replicate n 0) ≡ n = length-replicate n 0 in
      record { some = λ z. absurd (omega (arith, all, z, least)); ready = ready_zeros list pool n least large }

  -- a lookup leaves as many words
  pub lent_kept : {old new : List ℕ} → Lent list pool old → Ready list pool new × (length new ≡ length old) → Lent list pool new
  lent_kept l r = record { some = λ z. l.some (sym r.1 ∙ z); ready = r.0 }

-- what is kept of references: nothing
abbrev pub unkept : List ℕ
unkept = replicate seen_size 0

-- a step that keeps nothing
pub known_indexed : (bind : List ℕ → Bound) (text : List ℕ) (i len : ℕ) (out : List ℕ) {part : List ℕ} {wd : ℕ} {r : Step} → wd ≡ min len (length out)
    → Referred bind text i (mid_of wd (length out - wd) out) part r → Known bind text i len unkept out unkept (put_mid wd (length out - wd) out part) r
known_indexed bind text i len out least s = known_once bind text i len unkept out refl least s

-- the loop: the value so far, and an index of as many words as at its start
pub record Indexed (list pool text words old index out : List ℕ) (i len : ℕ) : Type 0 where
  pub ran : Ran (binding list pool) text old out unkept i len
  pub lent : Lent list pool index
  pub size : length index ≡ length words
