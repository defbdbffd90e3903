-- The check of a table, one command after the other. Assumes nothing.
use mathlib.Core.Path.{◌≡◌, refl, ap, sym, subst, ◌∙◌}
use mathlib.Core.Logic.{◌≢◌}
use mathlib.Core.Bool.{Bool, true, false, true≢false, ◌&&◌, ◌||◌}
use mathlib.Core.List.{List, [], ◌∷◌}
use Prim.Native.Nat.{ℕ, suc, ◌+◌, ◌≤◌, ◌<◌}
use native.Mathlib.Omega.{arith}
use native.Mathlib.Nat.{add-zero, zero-add}
use native.Mathlib.Numerals.{add-one}
use lib.Dec.{eqb, leb, ltb}
use lib.ListN.{length, get_or, drop, drop_of_length-le}
use lib.Seq.{drop-cons}
use borrow.Author.Tests.{lt-ltb, le-ltb, eq-eqb, ne_eqb, ltb-true, ltb-false, leb-true, eqb-true, eqb-false}
use Rattle.text.specs.Bytes.{pick}
use Rattle.text.specs.Call.{and_then, passed}
use Rattle.text.specs.Answers.{Answer}
use Rattle.text.specs.Answers.{Done, Refused}
use Rattle.text.proofs.Bytes.{and_left, and_right}
use Rattle.entity.specs.Table.{little_endian, Body, inside, outside, Declaration, mark_size, declares, declaration, declarations_from, declaration_check, end_check, commands_check, declarations, size_check, table_check, operands}
use Rattle.entity.specs.Steps.{command_size, declaration_at, command_check}
use Rattle.entity.proofs.Reading.{body_text, body_outside, declaration_at_lem}
use Rattle.entity.proofs.Commands.{is_done, no_end, skip_declarations, mark_fits, past_mark, next_declaration, next_check, size_one, size_some, command_done}
use Rattle.tables.specs.Steps.{last_check, answer_from, Standing}
use Rattle.tables.proofs.Parts.{outside_empty}

pub size_two : {b : ℕ} → b ≡ 2 → 6 ≡ command_size b
unfolding command_size
size_two {b} e = sym (ap command_size e)

-- a declaration that is no command 1 is a command 2
pub other_two : {b : ℕ} → declares b ≡ true → b ≢ 1 → b ≡ 2
unfolding declares
other_two {b} e other = eqb-true b 2 (rw (ne_eqb b 1 other) at e)

-- what a test by two numbers says; these are asked by themselves, so that another command is refused as a number
pub declares_by : (b m n : ℕ) {t : Bool} → eqb b m || eqb b n ≡ t → m ≡ 1 → n ≡ 2 → declares b ≡ t
unfolding declares
declares_by b m n e one two = rw (one, two) at e

-- no declaration any more
answer_last : (pool l : List ℕ) (at count : ℕ) → ((b : ℕ) (bs : List ℕ) → l ≡ b ∷ bs → declares b ≡ false)
    → and_then (commands_check pool at 0 l) (Done (count + length (declarations_from 0 l)) 0) ≡ last_check l at count
unfolding commands_check declarations_from last_check
answer_last pool [] at count other = refl
answer_last pool (b ∷ bs) at count other = go (eqb b 0) (declares b) (other b bs refl)
  where
    rest : Answer
    rest = pick (ltb (length bs) (operands b)) (Refused 7 at 0) (declaration_check pool at (declaration b bs) (commands_check pool (suc at) (operands b) bs))

    all : List Declaration
    all = declaration b bs ∷ declarations_from (operands b) bs

    go : (z t : Bool) → t ≡ false → and_then (pick z (end_check bs (suc at)) (pick t rest (Refused 7 at 0))) (Done (count + length (pick t all [])) 0)
        ≡ pick z (and_then (end_check bs (suc at)) (Done count 0)) (Refused 7 at 0)
    go z true e = absurd (true≢false e)
    go true false e = rw (add-zero count)
    go false false e = refl

-- what `last_check` is at an offset, by the tests of the code; `end` is a number of its own, so that a wrong one is refused as a number
module _ (list : List ℕ) (at count : ℕ) where
  pub last_none : at ≡ length list → Refused 7 at 0 ≡ last_check (drop at list) at count
  unfolding last_check
  last_none e = let h : length list ≤ at = omega arith in rw (drop_of_length-le list h)

  module _ (in_list : at < length list) where
    at_byte : drop at list ≡ get_or list at 0 ∷ drop (at + 1) list
    at_byte = rw (add-one at) (drop-cons list at 0 in_list)

    pub last_other : (get_or list at 0 ≡ 0 → ⊥) → Refused 7 at 0 ≡ last_check (drop at list) at count
    unfolding last_check
    last_other other = rw (at_byte, ne_eqb (get_or list at 0) 0 other)

    pub last_more : {end : ℕ} → get_or list at 0 ≡ 0 → (at + 1 ≡ length list → ⊥) → end ≡ at + 1 → Refused 7 end 0 ≡ last_check (drop at list) at count
    unfolding last_check end_check
    last_more is more e =
        let h : at + 1 < length list = omega arith in
        rw (at_byte, eq-eqb (get_or list at 0) 0 is, drop-cons list (at + 1) 0 h, e, add-one at)

    pub last_end : get_or list at 0 ≡ 0 → at + 1 ≡ length list → Done count 0 ≡ last_check (drop at list) at count
    unfolding last_check end_check
    last_end is all =
        let h : length list ≤ at + 1 = omega arith in
        rw (at_byte, eq-eqb (get_or list at 0) 0 is, drop_of_length-le list h)

-- the declaration of a command 1, and of another
abbrev named : List ℕ → ℕ → Body → Declaration
named list at b = record { name_start = little_endian list (at + 1) 4; name_length = get_or list (at + 5) 0; body = b }

declaration_text : (list : List ℕ) (at : ℕ) → get_or list at 0 ≡ 1
    → declaration_at list at ≡ named list at (inside (little_endian list (at + 6) 4) (little_endian list (at + 10) 2))
declaration_text list at one = declaration_at_lem list at ∙ ap (named list at) (body_text list at one)

declaration_outside : (list : List ℕ) (at : ℕ) → get_or list at 0 ≢ 1 → declaration_at list at ≡ named list at outside
declaration_outside list at other = declaration_at_lem list at ∙ ap (named list at) (body_outside list at other)

-- where the operands are not cut; how wide the command is is asked by itself, so that a wrong width is refused as a number
pub command_whole : (list pool : List ℕ) (at : ℕ) {size : ℕ} → size ≡ command_size (get_or list at 0) → at + size ≤ length list
    → declaration_check pool at (declaration_at list at) passed ≡ command_check list pool at
unfolding command_check
command_whole list pool at e h = rw (le-ltb (length list) (at + command_size (get_or list at 0)) (omega (arith, e, h)))

pub command_cut : (list pool : List ℕ) (at : ℕ) {size : ℕ} → size ≡ command_size (get_or list at 0) → length list < at + size → Refused 7 at 0 ≡ command_check list pool at
unfolding command_check
command_cut list pool at e h = rw (lt-ltb (length list) (at + command_size (get_or list at 0)) (omega (arith, e, h)))

-- the same of commands 1 and 2, by the numbers that were read and the answer for them; an external entity is checked as one with an empty text
module _ (list pool : List ℕ) (at : ℕ) {name n : ℕ} (is_name : name ≡ little_endian list (at + 1) 4) (is-size : n ≡ get_or list (at + 5) 0) {r : Answer} where
  pub text_whole : get_or list at 0 ≡ 1 → at + 12 ≤ length list → {text t : ℕ} → text ≡ little_endian list (at + 6) 4 → t ≡ little_endian list (at + 10) 2
      → r ≡ declaration_check pool at (record { name_start = name; name_length = n; body = inside text t }) passed → r ≡ command_check list pool at
  text_whole one h p q told =
      let d : named list at (inside (little_endian list (at + 6) 4) (little_endian list (at + 10) 2)) ≡ declaration_at list at = sym (declaration_text list at one) in
      rw (is_name, is-size, p, q) at told
      ∙ ap (λ (x : Declaration). declaration_check pool at x passed) d ∙ command_whole list pool at (size_one one) h

  pub external_whole : get_or list at 0 ≡ 2 → at + 6 ≤ length list
      → r ≡ declaration_check pool at (record { name_start = name; name_length = n; body = inside 0 0 }) passed → r ≡ command_check list pool at
  external_whole two h told =
      let d : named list at outside ≡ declaration_at list at = sym (declaration_outside list at (λ one. omega (arith, one, two))) in
      rw (is_name, is-size) at told ∙ outside_empty pool at (little_endian list (at + 1) 4) (get_or list (at + 5) 0)
      ∙ ap (λ (x : Declaration). declaration_check pool at x passed) d ∙ command_whole list pool at (size_two two) h

module _ (list pool : List ℕ) where
  -- a check starts after the mark; where that is is asked by itself
  pub start : {at : ℕ} → at ≡ mark_size list → length list ≤ 49154 → length pool ≤ 1048576 → Standing list pool at 0
  start q h k =
      subst (λ (n : ℕ). Standing list pool n 0) (sym q) (record {
        fits = mark_fits list;
        few = omega arith;
        short = h;
        is = unfold answer_from table_check size_check declarations in
            rw (
              le-ltb 49154 (length list) h,
              le-ltb 1048576 (length pool) k,
              zero-add (length (declarations_from 0 (drop (mark_size list) list))),
              past_mark list pool,
              skip_declarations list (mark_size list),
            );
      })

  pub long_pool : length list ≤ 49154 → 1048576 < length pool → Refused 6 0 0 ≡ table_check list pool
  unfolding table_check size_check
  long_pool h k = rw (le-ltb 49154 (length list) h, lt-ltb 1048576 (length pool) k)

  module _ (at count : ℕ) (s : Standing list pool at count) where
    pub finish : (at < length list → declares (get_or list at 0) ≡ false) → last_check (drop at list) at count ≡ table_check list pool
    unfolding answer_from
    finish other = sym (answer_last pool (drop at list) at count (λ b bs e. go (ltb at (length list)) refl e)) ∙ s.is
      where
        go : {b : ℕ} {bs : List ℕ} (t : Bool) → ltb at (length list) ≡ t → drop at list ≡ b ∷ bs → declares b ≡ false
        go {b} {bs} true h e =
            let l = ltb-true at (length list) h in
            let z : get_or list at 0 ∷ drop (suc at) list ≡ b ∷ bs = sym (drop-cons list at 0 l) ∙ e in
            let y : get_or list at 0 ≡ b = cc in
            sym (ap declares y) ∙ other l
        go {b} {bs} false h e =
            let l = ltb-false at (length list) h in
            let z : [] ≡ b ∷ bs = sym (drop_of_length-le list l) ∙ e in
            let w : ◌≡◌ {A = ℕ} 0 1 = cc in
            absurd (omega (arith, w))

    module _ (in_list : at < length list) (is : declares (get_or list at 0) ≡ true) where
      abbrev then : ℕ
      then = at + command_size (get_or list at 0)

      turn : answer_from list pool at count
          ≡ and_then (and_then (command_check list pool at) (commands_check pool then 0 (drop then list))) (Done (count + 1 + length (declarations_from 0 (drop then list))) 0)
      unfolding answer_from
      turn =
          let q : count + suc (length (declarations_from 0 (drop then list))) ≡ count + 1 + length (declarations_from 0 (drop then list)) = omega arith in
          rw (next_check list pool at in_list is, next_declaration list pool at in_list is, q)

      pub refuses : {number first second : ℕ} → command_check list pool at ≡ Refused number first second → command_check list pool at ≡ table_check list pool
      refuses e = e ∙ sym (rw e at turn) ∙ s.is

      -- how wide the command is is asked by itself
      pub goes_on : {a b size : ℕ} → command_check list pool at ≡ Done a b → size ≡ command_size (get_or list at 0) → Standing list pool (at + size) (count + 1)
      goes_on {a} {b} {size} e w = subst (λ (n : ℕ). Standing list pool (at + n) (count + 1)) (sym w) next
        where
          next : Standing list pool then (count + 1)
          next =
              record {
                fits = (command_done list pool at (is_done e)).0;
                few = omega (arith, s.few, size_some (get_or list at 0));
                short = s.short;
                is = unfold answer_from in sym (rw e at turn) ∙ s.is;
              }

    -- too few bytes for a command: the list's end answers, also at the first byte of one
    pub short_end : length list < at + 6 → last_check (drop at list) at count ≡ table_check list pool
    short_end few = go (ltb at (length list)) refl (declares (get_or list at 0)) refl
      where
        go : (t : Bool) → ltb at (length list) ≡ t → (u : Bool) → declares (get_or list at 0) ≡ u → last_check (drop at list) at count ≡ table_check list pool
        go false h u e = finish (λ l. absurd (omega (arith, l, ltb-false at (length list) h)))
        go true h false e = finish (λ l. e)
        go true h true e =
            let l = ltb-true at (length list) h in
            let r = command_cut list pool at {size = command_size (get_or list at 0)} refl (omega (arith, few, size_some (get_or list at 0))) in
            sym (last_other list at count l (λ z. eqb-false (get_or list at 0) 0 (no_end (get_or list at 0) e) z)) ∙ r ∙ refuses l e (sym r)

-- a list of one byte has no command
pub short_list : (list pool : List ℕ) {at : ℕ} → at ≡ mark_size list → eqb (length list) 1 && leb (length pool) 1048576 ≡ true → last_check (drop at list) at 0 ≡ table_check list pool
short_list list pool {at} q t = short_end list pool at 0 (start list pool q (omega (arith, one)) fits) (omega (arith, one))
  where
    one : length list ≡ 1
    one = eqb-true (length list) 1 (and_left (eqb (length list) 1) (leb (length pool) 1048576) t)

    fits : length pool ≤ 1048576
    fits = leb-true (length pool) 1048576 (and_right (eqb (length list) 1) (leb (length pool) 1048576) t)
