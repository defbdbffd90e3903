-- The states of an index: what holds of no words, of zeros, and after a change of the state (`ready_none`, `ready_zeros`, `ready_built`,
-- `ready_given_up`, `ready_counted`). Assumes nothing.
use Rattle.std.proofs.Common.{◌≡◌, ℕ, zero, suc, ◌+◌, ◌-◌, ◌/◌, ◌%◌, ◌<◌, ◌≤◌, true, ◌≢◌, List, [], ◌∷◌, length, get_or, set, replicate, sym, refl, ap, ◌∙◌, subst, arith, length-set, get_or-set_same}
use lib.ListN.{length-replicate}
use Rattle.table_index.specs.Index.{member, Filed, Indexes, digit, slot_of, home_of, built_state, given_up, state_of, Sized, Whole, Ready}
use Rattle.table_index.proofs.PackedSlots.{slot_zero, slot_state}

pub sized_same : {old new : List ℕ} → length new ≡ length old → Sized old → Sized new
sized_same e s = record { least = omega (arith, e, s.least); large = omega (arith, e, s.large) }

-- an index is one by whatever gives the same slots
indexes_same : (list pool : List ℕ) (home : List ℕ → ℕ) (old new : ℕ → ℕ) (cs : List ℕ) → ((s : ℕ) → new s ≡ old s) → Indexes list pool home old cs
    → Indexes list pool home new cs
indexes_same list pool home old new cs same x =
    record {
      only = λ s h. subst (λ (n : ℕ). member_of n) (sym (same s)) (x.only s (λ e. h (same s ∙ e)));
      all = λ c m. filed_same (x.all c m);
    }
  where
    member_of : ℕ → Type 0
    member_of n = member (n - 1) cs ≡ true

    filed_same : {h c : ℕ} → Filed old h c → Filed new h c
    filed_same {h} {c} f =
        record {
          place = f.place;
          within = f.within;
          taken = λ i l e. f.taken i l (sym (same (h + i)) ∙ e);
          before = λ i l. subst (λ (n : ℕ). n ≤ c) (sym (same (h + i))) (f.before i l);
          stands = λ l. same (h + f.place) ∙ f.stands l;
        }

-- no words have no state
state_some : (words : List ℕ) → state_of words ≡ built_state → length words ≢ 0
state_some [] e = absurd (omega (arith, e))
state_some (w ∷ ws) e = λ none. absurd (omega (arith, none))

-- ---- what holds of an index at any time

module _ (list pool : List ℕ) where
  pub ready_none : Ready list pool []
  ready_none =
      record {
        size = λ h. absurd (h refl);
        large = omega arith;
        low = omega arith;
        built = λ e. absurd (omega (arith, e));
        empty = λ h s. slot_zero (s % 4);
      }

  zero_at : (n k : ℕ) → ◌≡◌ {A = ℕ} (get_or (replicate n 0) k 0) 0
  zero_at zero k = refl
  zero_at (suc n) zero = refl
  zero_at (suc n) (suc k) = zero_at n k

  pub ready_zeros : (n : ℕ) → 5 ≤ n → n ≤ 0x10000 → Ready list pool (replicate n 0)
  ready_zeros n least large =
      let all : length {A = ℕ} (replicate n 0) ≡ n = length-replicate n 0 in
      record {
        size = λ h. omega (arith, all, least);
        large = omega (arith, all, large);
        low = omega (arith, zero_at n 0);
        built = λ e. absurd (omega (arith, e, zero_at n 0));
        empty = λ h s. ap (digit (s % 4)) (zero_at n (1 + s / 4)) ∙ slot_zero (s % 4);
      }

  module _ {words : List ℕ} (r : Ready list pool words) where
    pub ready_sized : length words ≢ 0 → Sized words
    ready_sized some = record { least = r.size some; large = r.large }

    pub built_sized : state_of words ≡ built_state → Sized words
    built_sized e = ready_sized (λ none. state_some words e none)

    -- neither built nor given up
    pub ready_empty : state_of words ≢ built_state → state_of words ≢ given_up → (s : ℕ) → slot_of words s ≡ 0
    ready_empty unbuilt going = r.empty (omega (arith, r.low, unbuilt, going))

  -- the state becomes another
  module _ (words : List ℕ) (v : ℕ) (s : Sized words) where
    set_size : length (set words 0 v) ≡ length words
    set_size = length-set words 0 v

    pub set_state : state_of (set words 0 v) ≡ v
    set_state = get_or-set_same words 0 v 0 (omega (arith, s.least))

    -- all commands are in the slots
    pub ready_built : v ≡ built_state → Whole list pool words → Ready list pool (set words 0 v)
    ready_built e w =
        record {
          size = λ h. omega (arith, set_size, s.least);
          large = omega (arith, set_size, s.large);
          low = omega (arith, set_state, e);
          built = λ q. whole;
          empty = λ h. absurd (omega (arith, h, set_state, e));
        }
      where
        whole : Whole list pool (set words 0 v)
        whole =
            record {
              end = w.end;
              commands = w.commands;
              passed = w.passed;
              over = w.over;
              indexes =
                  subst (λ (n : ℕ). Indexes list pool (home_of n) (slot_of (set words 0 v)) w.commands) (sym set_size)
                  (indexes_same list pool (home_of (length words)) (slot_of words) (slot_of (set words 0 v)) w.commands (slot_state words v) w.indexes);
            }

    pub ready_given_up : v ≡ given_up → Ready list pool (set words 0 v)
    ready_given_up e =
        record {
          size = λ h. omega (arith, set_size, s.least);
          large = omega (arith, set_size, s.large);
          low = omega (arith, set_state, e);
          built = λ q. absurd (omega (arith, q, set_state, e));
          empty = λ h. absurd (omega (arith, h, set_state, e));
        }

    -- the slots are empty still
    pub ready_counted : v < built_state → ((i : ℕ) → slot_of words i ≡ 0) → Ready list pool (set words 0 v)
    ready_counted l none =
        record {
          size = λ h. omega (arith, set_size, s.least);
          large = omega (arith, set_size, s.large);
          low = omega (arith, set_state, l);
          built = λ q. absurd (omega (arith, q, set_state, l));
          empty = λ h i. slot_state words v i ∙ none i;
        }
