-- A command that was passed in a valid table: its operands are in the list, its name in the pool (`command_declared`); and where the loop that
-- files all commands stands, goes on and ends (`building_more`, `building_over`, `building_vain`). Assumes nothing.
use Rattle.std.proofs.Common.{◌≡◌, ℕ, suc, ◌+◌, ◌<◌, ◌≤◌, Bool, true, false, ltb, ◌≢◌, List, [], ◌∷◌, length, get_or, drop, set, sym, refl, ap, ◌∙◌, subst, arith, length-set, drop_of_length-le, drop-cons, ltb-false, ltb-true, ne_eqb}
use Rattle.text.proofs.Bytes.{or_left}
use Rattle.entity.specs.Table.{little_endian, declares, body_past, runs_past, commands_check, ValidTable}
use Rattle.entity.specs.Steps.{command_size, command_check, IsDone}
use Rattle.entity.proofs.Commands.{both_done, past_mark, command_done, next_check}
use Rattle.entity.proofs.Lookup.{table_done, Declared, end_declares}
use Rattle.entity.proofs.Tables.{valid_short}
use Rattle.entity.proofs.Reading.{body_at, declaration_at_lem}
use Rattle.table_index.specs.Index.{Passed, member, Indexes, home_of, slot_of, built_state, given_up, Inserted, Building, Built}
use Rattle.table_index.proofs.CommandsPassed.{until, passed_declares}
use Rattle.table_index.proofs.IndexStates.{sized_same, ready_built, ready_given_up}

-- the state changes after a command more
pub inserted_size : {list pool old new : List ℕ} {at n : ℕ} (v : ℕ) → Inserted list pool at old new → length old ≡ n → length (set new 0 v) ≡ n
inserted_size {new = new} v i same = length-set new 0 v ∙ i.size ∙ same

module _ (list pool : List ℕ) where
  abbrev ValidAt : ℕ → Type 0
  ValidAt at = IsDone (commands_check pool at 0 (drop at list))

  in_valid : (at : ℕ) → ValidAt at → at < length list
  in_valid at h = go (ltb at (length list)) refl
    where
      none : length list ≤ at → IsDone (commands_check pool at 0 [])
      none l = rw (drop_of_length-le list l) at h

      go : (t : Bool) → ltb at (length list) ≡ t → at < length list
      go true e = ltb-true at (length list) e
      go false e = absurd (unfold commands_check in none (ltb-false at (length list) e))

  both : (at : ℕ) → ValidAt at → declares (get_or list at 0) ≡ true → IsDone (command_check list pool at) × ValidAt (at + command_size (get_or list at 0))
  both at h is =
      let next = at + command_size (get_or list at 0) in
      both_done (command_check list pool at) (commands_check pool next 0 (drop next list)) (rw (next_check list pool at (in_valid at h) is) at h)

  valid_at : ValidTable list pool → (at : ℕ) (cs : List ℕ) → Passed list at cs → ValidAt at
  valid_at v at [] p = subst ValidAt (sym p) (subst IsDone (past_mark list pool) (table_done list pool v))
  valid_at v at (c ∷ cs) p = subst ValidAt (sym p.2) (both c (valid_at v c cs p.0) p.1).1

  declared_at : (at : ℕ) → ValidAt at → declares (get_or list at 0) ≡ true → Declared list pool at
  unfolding runs_past
  declared_at at h is =
      let d = command_done list pool at (both at h is).0 in
      let r = rw (declaration_at_lem list at) at d.1 in
      let end = little_endian list (at + 1) 4 + get_or list (at + 5) 0 in
      record { fits = d.0; name = ltb-false (length pool) end (or_left (ltb (length pool) end) (body_past pool (body_at list at)) r) }

  declares_at : (at : ℕ) → ValidAt at → get_or list at 0 ≢ 0 → declares (get_or list at 0) ≡ true
  declares_at at h other = go (get_or list at 0) (drop (suc at) list) other (declares (get_or list at 0)) refl (subst IsDone here h)
    where
      here : commands_check pool at 0 (drop at list) ≡ commands_check pool at 0 (get_or list at 0 ∷ drop (suc at) list)
      here = ap (commands_check pool at 0) (drop-cons list at 0 (in_valid at h))

      go : (b : ℕ) (bs : List ℕ) → b ≢ 0 → (t : Bool) → declares b ≡ t → IsDone (commands_check pool at 0 (b ∷ bs)) → declares b ≡ true
      go b bs n true e d = e
      go b bs n false e d = absurd (unfold commands_check in rw (ne_eqb b 0 n, e) at d)

  -- where the loop over the commands stands
  module _ {at : ℕ} {words : List ℕ} (b : Building list pool words at) where
    pub building_inside : at < length list
    building_inside = in_valid at (valid_at b.valid at b.commands b.passed)

    module _ (other : get_or list at 0 ≢ 0) where
      pub building_declares : declares (get_or list at 0) ≡ true
      building_declares = declares_at at (valid_at b.valid at b.commands b.passed) other

      pub building_declared : Declared list pool at
      building_declared = declared_at at (valid_at b.valid at b.commands b.passed) building_declares

      -- one more
      pub building_more : {new : List ℕ} {next size : ℕ} → Inserted list pool at words new → size ≡ command_size (get_or list at 0) → next ≡ at + size → Building list pool new next
      building_more {new} {next} i w q =
          record {
            valid = b.valid;
            sized = sized_same i.size b.sized;
            commands = at ∷ b.commands;
            passed = (b.passed, building_declares, q ∙ ap (λ (n : ℕ). at + n) w);
            indexes =
                subst (λ (n : ℕ). Indexes list pool (home_of n) (slot_of new) (at ∷ b.commands)) (sym i.size) (i.more b.commands b.passed b.indexes);
          }

    pub building_short : at < 49154
    building_short = omega (arith, building_inside, valid_short list pool b.valid)

    -- the state at both ends, of as many words as there were
    module _ {old : List ℕ} {v : ℕ} (same : length words ≡ length old) where
      pub building_over : get_or list at 0 ≡ 0 → v ≡ built_state → Built list pool old (set words 0 v)
      building_over e is =
          record {
            size = length-set words 0 v ∙ same;
            ready = ready_built list pool words v b.sized is
                (record { end = at; commands = b.commands; passed = b.passed; over = end_declares e; indexes = b.indexes });
          }

      pub building_vain : {new : List ℕ} → Inserted list pool at words new → v ≡ given_up → Built list pool old (set new 0 v)
      building_vain {new} i is =
          record { size = inserted_size v i same; ready = ready_given_up list pool new v (sized_same i.size b.sized) is }

  -- a command of the index
  pub command_declared : ValidTable list pool → (at : ℕ) (cs : List ℕ) → Passed list at cs → (c : ℕ) → member c cs ≡ true → Declared list pool c
  command_declared v at cs p c m =
      let u = until list at cs p c m in
      declared_at c (valid_at v c u.earlier u.passed) (passed_declares list at cs p c m)
