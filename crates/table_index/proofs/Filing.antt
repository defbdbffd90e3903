-- Building: no command passed, one more in the first empty slot of its name, one more where none is empty. Assumes nothing.
use Rattle.std.proofs.Common.{◌≡◌, ℕ, ◌+◌, ◌-◌, ◌<◌, ◌≤◌, Bool, true, false, eqb, ◌≢◌, List, [], ◌∷◌, sym, refl, ap, ◌∙◌, subst, true≢false, arith, eqb-true}
use borrow.Author.Tests.{eqb-false}
use Rattle.entity.specs.Commands.{command_name}
use Rattle.table_index.specs.Index.{Passed, member, Filed, Indexes, FilledAt}
use Rattle.table_index.proofs.CommandsPassed.{member_first, member_later, member_cases, passed_less}

module _ (list pool : List ℕ) (home : List ℕ → ℕ) where
  -- nothing is filed
  pub index_none : (slot : ℕ → ℕ) → ((s : ℕ) → slot s ≡ 0) → Indexes list pool home slot []
  unfolding member
  index_none slot empty = record { only = λ s h. absurd (h (empty s)); all = λ c h. absurd (true≢false (sym h)) }

  module _ (slot : ℕ → ℕ) (at : ℕ) (cs : List ℕ) (passed : Passed list at cs) (now : Indexes list pool home slot cs) where
    abbrev own : ℕ
    own = home (command_name list pool at)

    -- what is in a slot is a command before the place
    earlier : (s : ℕ) → slot s ≢ 0 → slot s ≤ at
    earlier s h = omega (arith, passed_less list at cs passed (slot s - 1) (now.only s h))

    -- all its slots are taken
    pub index_vain : ((i : ℕ) → i < 16 → slot (own + i) ≢ 0) → Indexes list pool home slot (at ∷ cs)
    index_vain full =
        record {
          only = λ s h. member_later (slot s - 1) at cs (now.only s h);
          all = λ c h. member_cases (λ (x : ℕ). Filed slot (home (command_name list pool x)) x) c at cs h mine (now.all c);
        }
      where
        mine : Filed slot own at
        mine =
            record {
              place = 16;
              within = omega arith;
              taken = full;
              before = λ i l. earlier (own + i) (full i l);
              stands = λ l. absurd (omega (arith, l));
            }

    -- the first empty one is filled
    module _ (k : ℕ) (less : k < 16) (full : (i : ℕ) → i < k → slot (own + i) ≢ 0) (new : ℕ → ℕ) (filled : FilledAt slot new (own + k) at) where
      -- a slot that was taken keeps what it has
      kept : (s : ℕ) → slot s ≢ 0 → new s ≡ slot s
      kept s h = filled.others s (λ e. h (ap slot e ∙ filled.was))

      kept_some : (s : ℕ) → slot s ≢ 0 → new s ≢ 0
      kept_some s h e = h (sym (kept s h) ∙ e)

      refiled : (h c : ℕ) → Filed slot h c → Filed new h c
      refiled h c f =
          record {
            place = f.place;
            within = f.within;
            taken = λ i l. kept_some (h + i) (f.taken i l);
            before = λ i l. subst (λ (n : ℕ). n ≤ c) (sym (kept (h + i) (f.taken i l))) (f.before i l);
            stands = λ l. kept (h + f.place) (λ e. absurd (omega (arith, f.stands l, e))) ∙ f.stands l;
          }

      mine : Filed new own at
      mine =
          record {
            place = k;
            within = omega (arith, less);
            taken = λ i l. kept_some (own + i) (full i l);
            before = λ i l. subst (λ (n : ℕ). n ≤ at) (sym (kept (own + i) (full i l))) (earlier (own + i) (full i l));
            stands = λ l. filled.is;
          }

      only_new : (s : ℕ) → new s ≢ 0 → (t : Bool) → eqb s (own + k) ≡ t → member (new s - 1) (at ∷ cs) ≡ true
      only_new s h true e =
          let q : new s ≡ at + 1 = ap new (eqb-true s (own + k) e) ∙ filled.is in
          let m : new s - 1 ≡ at = omega (arith, q) in
          subst (λ (n : ℕ). member n (at ∷ cs) ≡ true) (sym m) (member_first at cs)
      only_new s h false e =
          let q = filled.others s (λ d. eqb-false s (own + k) e d) in
          subst (λ (n : ℕ). member (n - 1) (at ∷ cs) ≡ true) (sym q) (member_later (slot s - 1) at cs (now.only s (λ z. h (q ∙ z))))

      pub index_more : Indexes list pool home new (at ∷ cs)
      index_more =
          record {
            only = λ s h. only_new s h (eqb s (own + k)) refl;
            all = λ c h. member_cases (λ (x : ℕ). Filed new (home (command_name list pool x)) x) c at cs h mine (λ m. refiled (home (command_name list pool c)) c (now.all c m));
          }
