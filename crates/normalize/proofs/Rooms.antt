-- The words of a long text's walk: zeros at first (`room_new`), and the 16 of the texts that a walk opened are cleared after it, one by one
-- (`forgetting_none`, `forgetting_one`, `forgetting_all`). Assumes nothing.
use mathlib.Core.Path.{◌≡◌, refl, sym, ap, subst, ◌∙◌}
use mathlib.Core.Logic.{◌≢◌}
use mathlib.Core.Bool.{Bool, true, false}
use mathlib.Core.List.{List}
use Prim.Native.Nat.{ℕ, zero, suc, ◌+◌, ◌≤◌, ◌<◌}
use native.Mathlib.Omega.{arith}
use lib.Dec.{eqb}
use lib.ListN.{length, get_or, set, drop, replicate, length-set, length-replicate, replicate-append-replicate}
use lib.Seq.{get_or-set_same, get_or-set_other, drop-set-lt, drop_at}
use borrow.Author.Tests.{eqb-true, eqb-false}
use Rattle.table_index.specs.Index.{Ready}
use Rattle.table_index.proofs.IndexStates.{ready_zeros}
use Rattle.memory.specs.Slots.{plain_word, Trusts, Forgot}

-- ---- new words

-- the words behind the memory are zeros too
zeros_behind : (m : ℕ) → drop {A = ℕ} 84 (replicate (84 + m) 0) ≡ replicate m 0
zeros_behind m =
    ap (drop {A = ℕ} 84) (sym (replicate-append-replicate {A = ℕ} 84 m 0)) ∙ drop_at (replicate 84 0) (replicate m 0) 84 (length-replicate {A = ℕ} 84 0)

zeros_at : (n k : ℕ) → ◌≡◌ {A = ℕ} (get_or (replicate n 0) k 0) 0
zeros_at zero k = refl
zeros_at (suc n) zero = refl
zeros_at (suc n) (suc k) = zeros_at n k

-- 84 words of memory and so many of an index say nothing yet
pub room_new : (list pool : List ℕ) (m : ℕ) → 5 ≤ m → m ≤ 0x10000 → Trusts list pool (replicate (84 + m) 0)
room_new list pool m least large =
    record {
      size = λ z. omega (arith, length-replicate {A = ℕ} (84 + m) 0);
      defines = λ k c h e. absurd (omega (arith, zeros_at (84 + m) k, e));
      plain = λ b z q. absurd (q (zeros_at (84 + m) (plain_word b)));
      index = subst (Ready list pool) (sym (zeros_behind m)) (ready_zeros list pool m least large);
    }

-- ---- clearing the slots

-- the first k are cleared
pub record Forgetting (old room : List ℕ) (k : ℕ) : Type 0 where
  pub low : k ≤ 16
  pub words : length room ≡ length old
  pub slots : (j : ℕ) → j < k → get_or room j 0 ≡ 0
  pub others : (j : ℕ) → k ≤ j → get_or room j 0 ≡ get_or old j 0
  pub behind : drop 84 room ≡ drop 84 old

pub forgetting_none : (room : List ℕ) → Forgetting room room 0
forgetting_none room =
    record { low = omega arith; words = refl; slots = λ j h. absurd (omega (arith, h)); others = λ j h. refl; behind = refl }

pub forgetting_one : {old room : List ℕ} {k : ℕ} → 84 ≤ length old → Forgetting old room k → k < 16 → Forgetting old (set room k 0) (k + 1)
forgetting_one {old} {room} {k} size f h =
    record {
      low = omega (arith, h);
      words = length-set room k 0 ∙ f.words;
      slots = λ j l. cleared j l (eqb j k) refl;
      others = λ j l. get_or-set_other room k j 0 0 (λ q. omega (arith, q, l)) ∙ f.others j (omega (arith, l));
      behind = drop-set-lt 84 room k 0 (omega (arith, h)) ∙ f.behind;
    }
  where
    cleared : (j : ℕ) → j < k + 1 → (b : Bool) → eqb j k ≡ b → get_or (set room k 0) j 0 ≡ 0
    cleared j l true e =
        ap (λ (i : ℕ). get_or (set room k 0) i 0) (eqb-true j k e) ∙ get_or-set_same room k 0 0 (omega (arith, f.words, size, h))
    cleared j l false e =
        let other : j ≢ k = eqb-false j k e in
        get_or-set_other room k j 0 0 other ∙ f.slots j (omega (arith, l, other))

pub forgetting_all : {old room : List ℕ} {k : ℕ} → Forgetting old room k → 16 ≤ k → Forgot old room
forgetting_all {old} {room} {k} f h =
    record {
      words = f.words;
      slots = λ j l. f.slots j (omega (arith, l, h));
      others = λ j l. f.others j (omega (arith, l, f.low));
      behind = f.behind;
    }
