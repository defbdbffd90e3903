-- Lookups: what a probe finds is the command that binds the name; where it meets an empty slot no command has it. Assumes nothing.
use Rattle.std.proofs.Common.{◌≡◌, ℕ, ◌+◌, ◌-◌, ◌<◌, Bool, true, false, ltb, ◌≢◌, List, get_or, sym, refl, ap, ◌∙◌, subst, true≢false, arith, ltb-false, ltb-true}
use Rattle.text.specs.Bytes.{same_bytes}
use Rattle.text.proofs.Bytes.{same_equal}
use Rattle.entity.specs.Table.{declares, ValidTable}
use Rattle.entity.specs.Binding.{binding, predefined_of}
use Rattle.entity.specs.Commands.{command_name, Refers}
use Rattle.entity.specs.Steps.{Here, ReferentAt}
use Rattle.entity.specs.declared.Referent.{Referent}
use Rattle.entity.proofs.Referents.{refers_hit}
use Rattle.table_index.specs.Index.{Passed, member, Filed, Indexes, Probing}
use Rattle.table_index.proofs.CommandsPassed.{until, stands_at, stands_over, passed_less, passed_declares}

module _ (list pool : List ℕ) (home : List ℕ → ℕ) (slot : ℕ → ℕ) (name : List ℕ) where
  abbrev named : ℕ → Bool
  named c = same_bytes (command_name list pool c) name

  pub probing_none : Probing list pool home slot name 0
  probing_none = record { taken = λ i l. absurd (omega (arith, l)); others = λ i l. absurd (omega (arith, l)) }

  pub probing_more : (k : ℕ) {j : ℕ} → Probing list pool home slot name k → slot (home name + k) ≢ 0 → named (slot (home name + k) - 1) ≡ false → j ≡ k + 1
      → Probing list pool home slot name j
  probing_more k {j} p some other is =
      record {
        taken = λ i l. pick_taken i l (ltb i k) refl;
        others = λ i l. pick_others i l (ltb i k) refl;
      }
    where
      last : (i : ℕ) → i < j → ltb i k ≡ false → k ≡ i
      last i l e = omega (arith, l, is, ltb-false i k e)

      pick_taken : (i : ℕ) → i < j → (t : Bool) → ltb i k ≡ t → slot (home name + i) ≢ 0
      pick_taken i l true e = p.taken i (ltb-true i k e)
      pick_taken i l false e = subst (λ (n : ℕ). slot (home name + n) ≢ 0) (last i l e) some

      pick_others : (i : ℕ) → i < j → (t : Bool) → ltb i k ≡ t → named (slot (home name + i) - 1) ≡ false
      pick_others i l true e = p.others i (ltb-true i k e)
      pick_others i l false e = subst (λ (n : ℕ). named (slot (home name + n) - 1) ≡ false) (last i l e) other

module _ (list pool : List ℕ) (home : List ℕ → ℕ) (slot : ℕ → ℕ) (name : List ℕ) (valid : ValidTable list pool) where
  abbrev has_it : ℕ → Bool
  has_it c = same_bytes (command_name list pool c) name

  module _ (end : ℕ) (cs : List ℕ) (passed : Passed list end cs) (whole : Indexes list pool home slot cs) (k : ℕ) (less : k < 16) (p : Probing list pool home slot name k) where
    -- a command with the name is filed from the name's home on, and not before the probe
    filed : (c : ℕ) → member c cs ≡ true → has_it c ≡ true → Filed slot (home name) c
    filed c m e = subst (λ (n : List ℕ). Filed slot (home n) c) (same_equal (command_name list pool c) name e) (whole.all c m)

    not_before : (c : ℕ) → has_it c ≡ true → (f : Filed slot (home name) c) → f.place < k → ⊥
    not_before c e f l =
        let q : slot (home name + f.place) - 1 ≡ c = omega (arith, f.stands (omega (arith, l, less))) in
        true≢false (sym e ∙ sym (ap has_it q) ∙ p.others f.place l)

    -- ---- an empty slot: no command has the name
    module _ (empty : slot (home name + k) ≡ 0) where
      no_command : (c : ℕ) → member c cs ≡ true → (t : Bool) → has_it c ≡ t → has_it c ≡ false
      no_command c m false e = e
      no_command c m true e = absurd (place (filed c m e))
        where
          place : Filed slot (home name) c → ⊥
          place f = go (ltb f.place k) refl
            where
              go : (t : Bool) → ltb f.place k ≡ t → ⊥
              go true q = not_before c e f (ltb-true f.place k q)
              go false q = go2 (ltb k f.place) refl
                where
                  go2 : (t : Bool) → ltb k f.place ≡ t → ⊥
                  go2 true r = f.taken k (ltb-true k f.place r) empty
                  go2 false r =
                      let same : f.place ≡ k = omega (arith, ltb-false f.place k q, ltb-false k f.place r) in
                      absurd (omega (arith, f.stands (omega (arith, same, less)), subst (λ (n : ℕ). slot (home name + n) ≡ 0) (sym same) empty))

      pub index_miss : declares (get_or list end 0) ≡ false → predefined_of name ≡ binding list pool name
      index_miss over = stands_over list pool name valid end cs passed over (λ c m. no_command c m (has_it c) refl)

    -- ---- a command with the name: no command before it has it
    module _ (c : ℕ) (here : slot (home name + k) ≡ c + 1) (has : has_it c ≡ true) where
      is_member : member c cs ≡ true
      is_member = let q : slot (home name + k) - 1 ≡ c = omega (arith, here) in subst (λ (n : ℕ). member n cs ≡ true) q (whole.only (home name + k) (λ z. absurd (omega (arith, here, z))))

      none_earlier : (d : ℕ) → member d cs ≡ true → d < c → (t : Bool) → has_it d ≡ t → has_it d ≡ false
      none_earlier d m l false e = e
      none_earlier d m l true e = absurd (place (filed d m e))
        where
          place : Filed slot (home name) d → ⊥
          place f = go (ltb f.place k) refl
            where
              go : (t : Bool) → ltb f.place k ≡ t → ⊥
              go true q = not_before d e f (ltb-true f.place k q)
              go false q = go2 (ltb k f.place) refl
                where
                  go2 : (t : Bool) → ltb k f.place ≡ t → ⊥
                  go2 true r = absurd (omega (arith, f.before k (ltb-true k f.place r), here, l))
                  go2 false r =
                      let same : f.place ≡ k = omega (arith, ltb-false f.place k q, ltb-false k f.place r) in
                      absurd (omega (arith, f.stands (omega (arith, same, less)), subst (λ (n : ℕ). slot (home name + n) ≡ c + 1) (sym same) here, l))

      pub index_here : Here list pool name c
      index_here =
          let u = until list end cs passed c is_member in
          stands_at list pool name valid c u.earlier u.passed
          (λ d m. none_earlier d (u.among d m) (passed_less list c u.earlier u.passed d m) (has_it d) refl)

      -- what the code answers there is what the name refers to
      pub index_hit : (r : Referent) → ReferentAt list c r → Refers list pool name r
      index_hit r t = refers_hit index_here (passed_declares list end cs passed c is_member) has r t
