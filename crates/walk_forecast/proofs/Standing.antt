-- Over the definitions of a table in their order: the first (`standing_start`), the next (`standing_next`) and the last (`standing_end`); what the
-- one at a place is (`standing_body`, `standing-text`), and that a note of its number is right (`numbers_noted`). Assumes nothing.
use mathlib.Core.Path.{◌≡◌, refl, ap, sym, subst, ◌∙◌}
use mathlib.Core.Logic.{◌≢◌}
use mathlib.Core.Bool.{Bool, true, false, true≢false}
use mathlib.Core.List.{List, [], ◌∷◌}
use Prim.Native.Nat.{ℕ, suc, ◌+◌, ◌-◌, ◌*◌, ◌/◌, ◌%◌, ◌≤◌, ◌<◌}
use native.Mathlib.Omega.{arith}
use native.Mathlib.Nat.{add-zero, zero-add}
use lib.Dec.{eqb, ltb}
use lib.ListN.{length, get_or, drop, set, drop_of_length-le}
use lib.Seq.{drop-cons, get_or-set_same, get_or-set_other}
use borrow.Author.Tests.{ltb-true, ltb-false, eqb-true, eqb-false, ne_eqb}
use Rattle.text.specs.Bytes.{pick}
use Rattle.entity.specs.Table.{Declaration, text_of, mark_size, declares, declaration, operands, declarations, declarations_from, commands_check, ValidTable}
use Rattle.entity.specs.Binding.{body_bound}
use Rattle.entity.specs.Steps.{IsDone, command_size, command_check, declaration_at}
use Rattle.entity.proofs.Commands.{both_done, skip_declarations, past_mark, next_check, next_declaration, command_done, declares_one, size_one, size_some}
use Rattle.entity.proofs.Lookup.{table_done, end_declares}
use Rattle.entity.proofs.Reading.{body_at, body_text, declaration_at_lem}
use Rattle.walk_pairs.specs.PairSums.{nth_body}
use Rattle.walk_forecast.specs.Numbering.{Numbered, Numbers, Standing}

pub standing_start : (list pool : List ℕ) {at : ℕ} → ValidTable list pool → at ≡ mark_size list → Standing list pool 0 at
unfolding declarations
standing_start list pool {at} v q =
    subst (Standing list pool 0) (sym q) (record {
      valid = subst IsDone (past_mark list pool) (table_done list pool v);
      size = ap length all ∙ sym (zero-add _);
      rest = λ n. ap (nth_body (declarations list)) (zero-add n) ∙ ap (λ (ds : List Declaration). nth_body ds n) all;
      wide = omega arith;
    })
  where
    all : declarations list ≡ declarations_from 0 (drop (mark_size list) list)
    all = skip_declarations list (mark_size list)

module _ {list pool : List ℕ} {k at : ℕ} (s : Standing list pool k at) where
  -- the list has a byte there
  pub standing_inside : at < length list
  standing_inside = go (ltb at (length list)) refl
    where
      none : length list ≤ at → IsDone (commands_check pool at 0 [])
      none l = rw (drop_of_length-le list l) at s.valid

      go : (t : Bool) → ltb at (length list) ≡ t → at < length list
      go true e = ltb-true at (length list) e
      go false e = absurd (unfold commands_check in none (ltb-false at (length list) e))

  -- the end: all definitions are before it
  pub standing_end : get_or list at 0 ≡ 0 → k ≡ length (declarations list)
  standing_end e = sym (s.size ∙ ap (λ (ds : List Declaration). k + length ds) none ∙ add-zero k)
    where
      go : (b : ℕ) (bs : List ℕ) (t : Bool) → t ≡ false → pick t (declaration b bs ∷ declarations_from (operands b) bs) [] ≡ []
      go b bs true q = absurd (true≢false q)
      go b bs false q = refl

      none : declarations_from 0 (drop at list) ≡ []
      none =
          ap (declarations_from 0) (drop-cons list at 0 standing_inside)
          ∙ unfold declarations_from in go (get_or list at 0) (drop (suc at) list) (declares (get_or list at 0)) (end_declares e)

  -- no end: a definition
  pub standing_declares : get_or list at 0 ≢ 0 → declares (get_or list at 0) ≡ true
  standing_declares other = go (get_or list at 0) (drop (suc at) list) other (declares (get_or list at 0)) refl (subst IsDone begins s.valid)
    where
      begins : commands_check pool at 0 (drop at list) ≡ commands_check pool at 0 (get_or list at 0 ∷ drop (suc at) list)
      begins = ap (commands_check pool at 0) (drop-cons list at 0 standing_inside)

      go : (b : ℕ) (bs : List ℕ) → b ≢ 0 → (t : Bool) → declares b ≡ t → IsDone (commands_check pool at 0 (b ∷ bs)) → declares b ≡ true
      go b bs n true e d = e
      go b bs n false e d = absurd (unfold commands_check in rw (ne_eqb b 0 n, e) at d)

  module _ (is : declares (get_or list at 0) ≡ true) where
    abbrev next : ℕ
    next = at + command_size (get_or list at 0)

    here : declarations_from 0 (drop at list) ≡ declaration_at list at ∷ declarations_from 0 (drop next list)
    here = next_declaration list pool at standing_inside is

    checked : IsDone (command_check list pool at) × IsDone (commands_check pool next 0 (drop next list))
    checked = both_done (command_check list pool at) (commands_check pool next 0 (drop next list)) (subst IsDone (next_check list pool at standing_inside is) s.valid)

    pub standing_fits : next ≤ length list
    standing_fits = (command_done list pool at checked.0).0

    pub standing_there : k < length (declarations list)
    standing_there = omega (arith, s.size, ap length here)

    pub standing_body : nth_body (declarations list) k ≡ body_at list at
    standing_body =
        ap (nth_body (declarations list)) (sym (add-zero k)) ∙ s.rest 0 ∙ ap (λ (ds : List Declaration). nth_body ds 0) here
        ∙ ap (λ (d : Declaration). d.body) (declaration_at_lem list at)

    pub standing_next : {size : ℕ} → size ≡ command_size (get_or list at 0) → Standing list pool (k + 1) (at + size)
    standing_next {size} w =
        subst (λ (n : ℕ). Standing list pool (k + 1) (at + n)) (sym w) (record {
          valid = checked.1;
          size = omega (arith, s.size, ap length here);
          rest = λ n.
              ap (nth_body (declarations list)) (omega arith) ∙ s.rest (suc n) ∙ ap (λ (ds : List Declaration). nth_body ds (suc n)) here;
          wide = omega (arith, s.wide, size_some (get_or list at 0));
        })

  -- of a command 1: its text
  module _ (one : get_or list at 0 ≡ 1) where
    pub standing_gives : Numbered list pool at k
    unfolding body_bound text_of
    standing_gives =
        record {
          there = standing_there (declares_one one);
          gives = ap (body_bound pool) (standing_body (declares_one one) ∙ body_text list at one);
        }

    pub standing_command : at + 12 ≤ length list
    standing_command = omega (arith, standing_fits (declares_one one), size_one one)

-- ---- notes of numbers

pub numbers_none : (list pool numbers : List ℕ) → ((slot : ℕ) → get_or numbers slot 0 ≡ 0) → Numbers list pool numbers
numbers_none list pool numbers z slot r k small e = absurd (omega (arith, z slot, e))

-- one more
pub numbers_noted : {list pool : List ℕ} (numbers : List ℕ) {k at : ℕ} (slot entry : ℕ) → Numbers list pool numbers → Numbered list pool at k → slot < length numbers
    → slot ≡ at / 6 → entry ≡ 6 * k + at % 6 + 1 → Numbers list pool (set numbers slot entry)
numbers_noted {list} {pool} numbers {k} {at} slot entry n is fits q e j r m small h = go (eqb j slot) refl
  where
    go : (t : Bool) → eqb j slot ≡ t → Numbered list pool (6 * j + r) m
    go true w =
        let same : entry ≡ 6 * m + r + 1 = sym (get_or-set_same numbers slot entry 0 fits) ∙ ap (λ (i : ℕ). get_or (set numbers slot entry) i 0) (sym (eqb-true j slot w)) ∙ h in
        let a : at ≡ 6 * j + r = omega (arith, q, e, small, same, eqb-true j slot w) in
        let b : k ≡ m = omega (arith, e, small, same) in
        subst (λ (x : ℕ). Numbered list pool x m) a (subst (Numbered list pool at) b is)
    go false w = n j r m small (sym (get_or-set_other numbers slot j entry 0 (eqb-false j slot w)) ∙ h)

-- the note at the slot of a command is its own where the rest of its offset is
pub noted_is : {list pool : List ℕ} (numbers : List ℕ) (command noted : ℕ) → Numbers list pool numbers → noted ≡ get_or numbers (command / 6) 0 → noted ≢ 0
    → (noted - 1) % 6 ≡ command % 6 → Numbered list pool command ((noted - 1) / 6)
noted_is {list} {pool} numbers command noted n q some e =
    let w : get_or numbers (command / 6) 0 ≡ 6 * ((noted - 1) / 6) + command % 6 + 1 = omega (arith, q, some, e) in
    let c : 6 * (command / 6) + command % 6 ≡ command = omega arith in
    subst (λ (x : ℕ). Numbered list pool x ((noted - 1) / 6)) c (n (command / 6) (command % 6) ((noted - 1) / 6) (omega arith) w)
