-- A lookup in a valid table: what is known at the command that it stands at. Assumes nothing.
use mathlib.Core.Path.{◌≡◌, refl, ap, ap₂, sym, subst, ◌∙◌}
use mathlib.Core.Logic.{◌≢◌}
use mathlib.Core.Bool.{Bool, true, false, true≢false}
use mathlib.Core.List.{List, [], ◌∷◌}
use Prim.Native.Nat.{ℕ, zero, suc, ◌+◌, ◌-◌, ◌≤◌, ◌<◌, zero-le}
use native.Mathlib.Omega.{arith}
use native.Mathlib.Nat.{le_refl}
use lib.Dec.{eqb, ltb}
use lib.ListN.{length, get_or, take, drop, length-drop, drop_of_length-le}
use lib.Seq.{drop-cons, ext_get_or, take_all}
use borrow.Author.Count.{below_none, below_more}
use borrow.Author.Tests.{ne_eqb, eqb-true, ltb-true, ltb-false}
use Rattle.text.specs.Bytes.{pick, same_bytes}
use Rattle.text.specs.Blocks.{word_at}
use Rattle.text.specs.Call.{and_then}
use Rattle.text.specs.Answers.{Answer}
use Rattle.text.specs.Answers.{Done, Refused}
use Rattle.text.proofs.Bytes.{equal_same, or_left}
use Rattle.entity.specs.Table.{little_endian, part, Declaration, mark_size, declares, declaration, operands, name_of, text_of, declarations_from, declarations, body_past, runs_past, ill_formed, declaration_check, end_check, commands_check, size_check, table_check, ValidTable}
use Rattle.entity.specs.Binding.{text, body_bound, binding_in, binding, predefined_of, bound_to, Lies}
use Rattle.entity.specs.Commands.{command_name, command_text}
use Rattle.entity.specs.Steps.{command_size, command_check, TextAt, Agree, IsDone, Here}
use Rattle.entity.specs.declared.Binding.{Binding}
use Rattle.entity.specs.declared.Binding.TheVariants.{Text, Predefined, External, Unknown}
use Rattle.entity.proofs.Commands.{is_done, both_done, skip_declarations, past_mark, command_done, next_check, next_declaration, size_one, size_some, declares_one}
use Rattle.entity.proofs.Parts.{part_length, part_at, name_fits, text_fits}
use Rattle.entity.proofs.Predefined.{not_same}
use Rattle.entity.proofs.Reading.{body_at, body_text, declaration_at_lem}
use Rattle.entity.proofs.Words.{word_bytes, same_u32}

-- ---- names

module _ (pool : List ℕ) (start : ℕ) (name : List ℕ) where
  pub agree_none : Agree pool start name 0
  agree_none = record { fits = zero-le; agree = below_none (λ k. get_or pool (start + k) 0 ≡ get_or name k 0) }

  -- one more; how many these are is asked by itself, so that a wrong number is refused as one
  pub agree_more : (i : ℕ) {j : ℕ} → Agree pool start name i → i < length name → get_or pool (start + i) 0 ≡ get_or name i 0 → j ≡ i + 1 → Agree pool start name j
  agree_more i a h e is = rw is (record { fits = omega arith; agree = below_more (λ k. get_or pool (start + k) 0 ≡ get_or name k 0) i a.agree e })

  -- eight more, by one word
  pub agree_word : (i : ℕ) → Agree pool start name i → i + 8 ≤ length name → ((k : ℕ) → get_or pool k 0 < 0x100) → ((k : ℕ) → get_or name k 0 < 0x100)
      → word_at pool (start + i) ≡ word_at name i → Agree pool start name (i + 8)
  agree_word i a h ps ns e = record { fits = h; agree = λ k l. go (ltb k i) refl l }
    where
      go : {k : ℕ} (t : Bool) → ltb k i ≡ t → k < i + 8 → get_or pool (start + k) 0 ≡ get_or name k 0
      go {k} true q l = a.agree k (ltb-true k i q)
      go {k} false q l =
          let g = ltb-false k i q in
          let p1 : start + i + (k - i) ≡ start + k = omega arith in
          let p2 : i + (k - i) ≡ k = omega arith in
          rw (p1, p2) at (word_bytes pool name (start + i) i ps ns e (k - i) (omega arith))

  module _ (n : ℕ) where
    pub same_all : {i : ℕ} → start + n ≤ length pool → n ≡ length name → Agree pool start name i → n ≤ i → same_bytes (part pool start n) name ≡ true
    same_all {i} h l a to =
        let s = part_length pool start n h in
        let at_byte : (k : ℕ) → k < n → get_or (part pool start n) k 0 ≡ get_or name k 0 = λ k q. part_at pool start n k q ∙ a.agree k (omega arith) in
        let q : part pool start n ≡ name = ext_get_or 0 (part pool start n) name (s ∙ l) (λ k m. at_byte k (rw s at m)) in
        rw q (equal_same name)

    differ : (part pool start n ≡ name → ⊥) → same_bytes (part pool start n) name ≡ false
    differ other = not_same (part pool start n) name other

    pub differ_length : start + n ≤ length pool → (n ≡ length name → ⊥) → same_bytes (part pool start n) name ≡ false
    differ_length h other = differ (λ e. other (sym (part_length pool start n h) ∙ ap length e))

    pub differ_at : (i : ℕ) → i < n → (get_or pool (start + i) 0 ≡ get_or name i 0 → ⊥) → same_bytes (part pool start n) name ≡ false
    differ_at i h other = differ (λ e. other (sym (part_at pool start n i h) ∙ ap (λ (l : List ℕ). get_or l i 0) e))

    -- four bytes as one number
    pub differ_u32 : (i : ℕ) → i + 4 ≤ n → (little_endian pool (start + i) 4 ≡ little_endian name i 4 → ⊥) → same_bytes (part pool start n) name ≡ false
    differ_u32 i h other = differ (λ e. other (same_u32 pool name (start + i) i (λ k l. at_byte e k (omega arith))))
      where
        at_byte : part pool start n ≡ name → (k : ℕ) → i + k < n → get_or pool (start + i + k) 0 ≡ get_or name (i + k) 0
        at_byte e k l =
            let q : start + (i + k) ≡ start + i + k = omega arith in
            rw q at (sym (part_at pool start n (i + k) l) ∙ ap (λ (l : List ℕ). get_or l (i + k) 0) e)

-- the same bytes by other numbers for start and length
pub same_part : (pool name : List ℕ) {start n s m : ℕ} {x : Bool} → start ≡ s → n ≡ m → same_bytes (part pool start n) name ≡ x → same_bytes (part pool s m) name ≡ x
same_part pool name p q e = sym (ap₂ (λ (a b : ℕ). same_bytes (part pool a b) name) p q) ∙ e

-- ---- a slice, handed on as a part of itself

pub whole_part : (l : List ℕ) → take (length l) l ≡ l
whole_part l = take_all (length l) l (le_refl (length l))

-- ---- commands

pub table_done : (list pool : List ℕ) → ValidTable list pool → IsDone (commands_check pool 0 (mark_size list) list)
unfolding table_check
table_done list pool e =
    let p = both_done (size_check list pool) (and_then (commands_check pool 0 (mark_size list) list) (Done (length (declarations list)) 0)) (is_done e) in
    (both_done (commands_check pool 0 (mark_size list) list) (Done (length (declarations list)) 0) p.1).0

-- a lookup starts after the mark; where that is is asked by itself
pub begin : (list pool name : List ℕ) {at : ℕ} → ValidTable list pool → at ≡ mark_size list → Here list pool name at
unfolding binding declarations
begin list pool name e q = subst (Here list pool name) (sym q) (record { valid = subst IsDone (past_mark list pool) (table_done list pool e); is = all })
  where
    all : binding_in (declarations_from 0 (drop (mark_size list) list)) pool name ≡ binding list pool name
    all = ap (λ (ds : List Declaration). binding_in ds pool name) (sym (skip_declarations list (mark_size list)))

-- ---- the list after its mark, as a list of its own

-- where a check counts from does not change whether it refuses
done_anywhere : (pool l : List ℕ) (a b skip : ℕ) → IsDone (commands_check pool a skip l) → IsDone (commands_check pool b skip l)
unfolding commands_check declaration_check end_check
done_anywhere pool [] a b skip h = absurd h
done_anywhere pool (x ∷ xs) a b (suc skip) h = done_anywhere pool xs (suc a) (suc b) skip h
done_anywhere pool (x ∷ xs) a b zero h =
    go (end_check xs (suc a)) (end_check xs (suc b)) (commands_check pool (suc a) (operands x) xs) (commands_check pool (suc b) (operands x) xs) (eqb x 0) (declares x) (ltb (length xs) (operands x)) (runs_past pool d) (ill_formed pool d) (ends xs) (done_anywhere pool xs (suc a) (suc b) (operands x)) h
  where
    d : Declaration
    d = declaration x xs

    ends : (l : List ℕ) → IsDone (end_check l (suc a)) → IsDone (end_check l (suc b))
    ends [] k = k
    ends (y ∷ ys) k = absurd k

    answer : ℕ → Answer → Answer → (z t c p i : Bool) → Answer
    answer n end rest z t c p i = pick z end (pick t (pick c (Refused 7 n 0) (pick p (Refused 8 n 0) (pick i (Refused 9 n 0) rest))) (Refused 7 n 0))

    go : (ea eb ra rb : Answer) (z t c p i : Bool) → (IsDone ea → IsDone eb) → (IsDone ra → IsDone rb) → IsDone (answer a ea ra z t c p i) → IsDone (answer b eb rb z t c p i)
    go ea eb ra rb true t c p i e r k = e k
    go ea eb ra rb false false c p i e r k = absurd k
    go ea eb ra rb false true true p i e r k = absurd k
    go ea eb ra rb false true false true i e r k = absurd k
    go ea eb ra rb false true false false true e r k = absurd k
    go ea eb ra rb false true false false false e r k = r k

-- no second mark
unmarked : (pool l : List ℕ) (at : ℕ) → IsDone (commands_check pool at 0 l) → mark_size l ≡ 0
unfolding commands_check mark_size
unmarked pool [] at h = refl
unmarked pool (x ∷ xs) at h = go (eqb x 3) refl
  where
    go : (t : Bool) → eqb x 3 ≡ t → mark_size (x ∷ xs) ≡ 0
    go true e = absurd (subst (λ (n : ℕ). IsDone (commands_check pool at 0 (n ∷ xs))) (eqb-true x 3 e) h)
    go false e = rw e

module _ (list pool : List ℕ) (e : ValidTable list pool) where
  abbrev rest : List ℕ
  rest = drop (mark_size list) list

  rest_done : IsDone (commands_check pool (mark_size list) 0 rest)
  rest_done = subst IsDone (past_mark list pool) (table_done list pool e)

  none : mark_size rest ≡ 0
  none = unmarked pool rest (mark_size list) rest_done

  pub rest_binds : (name : List ℕ) → binding rest pool name ≡ binding list pool name
  unfolding binding declarations
  rest_binds name = ap (λ (ds : List Declaration). binding_in ds pool name) (ap (λ (n : ℕ). declarations_from n rest) none ∙ sym (skip_declarations list (mark_size list)))

  -- the rest as the code lends it
  pub rest_is : {from : ℕ} → from ≡ mark_size list → take (length list - from) (drop from list) ≡ rest
  rest_is {from} q = take_all (length list - from) (drop from list) (omega (arith, length-drop from list)) ∙ ap (λ (n : ℕ). drop n list) q

  pub begin_rest : (name : List ℕ) {from : ℕ} → from ≡ mark_size list → Here (take (length list - from) (drop from list)) pool name 0
  unfolding binding declarations
  begin_rest name q = subst (λ (l : List ℕ). Here l pool name 0) (sym (rest_is q)) here
    where
      here : Here rest pool name 0
      here =
          record {
            valid = done_anywhere pool rest (mark_size list) 0 0 rest_done;
            is = ap (λ (n : ℕ). binding_in (declarations_from n rest) pool name) (sym none);
          }

-- ---- a command

-- the command's byte is there
pub in_list : {list pool name : List ℕ} {at : ℕ} → Here list pool name at → at < length list
in_list {list} {pool} {name} {at} h = go (ltb at (length list)) refl
  where
    none : length list ≤ at → IsDone (commands_check pool at 0 [])
    none l = rw (drop_of_length-le list l) at h.valid

    go : (t : Bool) → ltb at (length list) ≡ t → at < length list
    go true e = ltb-true at (length list) e
    go false e = absurd (unfold commands_check in none (ltb-false at (length list) e))

-- at a byte that declares nothing the table has no more names
pub over : {list pool name : List ℕ} {at : ℕ} → Here list pool name at → declares (get_or list at 0) ≡ false → predefined_of name ≡ binding list pool name
unfolding binding_in predefined_of
over {list} {pool} {name} {at} h other = sym (ap (λ (ds : List Declaration). binding_in ds pool name) none) ∙ h.is
  where
    go : (b : ℕ) (bs : List ℕ) (t : Bool) → t ≡ false → pick t (declaration b bs ∷ declarations_from (operands b) bs) [] ≡ []
    go b bs true e = absurd (true≢false e)
    go b bs false e = refl

    none : declarations_from 0 (drop at list) ≡ []
    none = ap (declarations_from 0) (drop-cons list at 0 (in_list h)) ∙ unfold declarations_from in go (get_or list at 0) (drop (suc at) list) (declares (get_or list at 0)) other

pub end_declares : {b : ℕ} → b ≡ 0 → declares b ≡ false
unfolding declares
end_declares {b} e = ap declares e

pub other_declares : {b : ℕ} → b ≢ 1 → b ≢ 2 → declares b ≡ false
unfolding declares
other_declares {b} one two = rw (ne_eqb b 1 one, ne_eqb b 2 two)

-- a byte that is not the end is a declaration's
pub here_declares : {list pool name : List ℕ} {at : ℕ} → Here list pool name at → get_or list at 0 ≢ 0 → declares (get_or list at 0) ≡ true
here_declares {list} {pool} {name} {at} h other = go (get_or list at 0) (drop (suc at) list) other (declares (get_or list at 0)) refl (subst IsDone here h.valid)
  where
    here : commands_check pool at 0 (drop at list) ≡ commands_check pool at 0 (get_or list at 0 ∷ drop (suc at) list)
    here = ap (commands_check pool at 0) (drop-cons list at 0 (in_list h))

    go : (b : ℕ) (bs : List ℕ) → b ≢ 0 → (t : Bool) → declares b ≡ t → IsDone (commands_check pool at 0 (b ∷ bs)) → declares b ≡ true
    go b bs n true e d = e
    go b bs n false e d = absurd (unfold commands_check in rw (ne_eqb b 0 n, e) at d)

-- a declaration: its operands are there, and its name lies in the pool
pub record Declared (list pool : List ℕ) (at : ℕ) : Type 0 where
  pub fits : at + command_size (get_or list at 0) ≤ length list
  pub name : little_endian list (at + 1) 4 + get_or list (at + 5) 0 ≤ length pool

module _ {list pool name : List ℕ} {at : ℕ} (h : Here list pool name at) (is : declares (get_or list at 0) ≡ true) where
  abbrev next : ℕ
  next = at + command_size (get_or list at 0)

  done : IsDone (command_check list pool at) × IsDone (commands_check pool next 0 (drop next list))
  done = both_done (command_check list pool at) (commands_check pool next 0 (drop next list)) (rw (next_check list pool at (in_list h) is) at h.valid)

  pub declared : Declared list pool at
  unfolding runs_past
  declared =
      let d = command_done list pool at done.0 in
      let r = rw (declaration_at_lem list at) at d.1 in
      let end = little_endian list (at + 1) 4 + get_or list (at + 5) 0 in
      record { fits = d.0; name = ltb-false (length pool) end (or_left (ltb (length pool) end) (body_past pool (body_at list at)) r) }

  turn : binding_in (declarations_from 0 (drop at list)) pool name
      ≡ pick (same_bytes (command_name list pool at) name) (body_bound pool (body_at list at)) (binding_in (declarations_from 0 (drop next list)) pool name)
  unfolding binding_in name_of
  turn = rw (next_declaration list pool at (in_list h) is, declaration_at_lem list at)

  -- another name; how wide the command is is asked by itself
  pub passed_by : {size : ℕ} → size ≡ command_size (get_or list at 0) → same_bytes (command_name list pool at) name ≡ false → Here list pool name (at + size)
  passed_by w e = subst (λ (n : ℕ). Here list pool name (at + n)) (sym w) (record { valid = done.1; is = sym (rw e at turn) ∙ h.is })

  -- this name
  pub found : same_bytes (command_name list pool at) name ≡ true → binding list pool name ≡ body_bound pool (body_at list at)
  found e = sym h.is ∙ rw e at turn

-- fewer bytes than a command takes
pub last_over : {list pool name : List ℕ} {at : ℕ} → Here list pool name at → length list < at + 6 → declares (get_or list at 0) ≡ false
last_over {list} {pool} {name} {at} h last = go (declares (get_or list at 0)) refl
  where
    go : (t : Bool) → declares (get_or list at 0) ≡ t → declares (get_or list at 0) ≡ false
    go true e = absurd (omega (arith, (declared h e).fits, size_some (get_or list at 0), last))
    go false e = e

-- a command 1: its operands are there, and name and text lie in the pool
pub record Command (list pool : List ℕ) (at : ℕ) : Type 0 where
  pub fits : at + 12 ≤ length list
  pub name : little_endian list (at + 1) 4 + get_or list (at + 5) 0 ≤ length pool
  pub text : little_endian list (at + 6) 4 + little_endian list (at + 10) 2 ≤ length pool

module _ {list pool name : List ℕ} {at : ℕ} (h : Here list pool name at) (one : get_or list at 0 ≡ 1) where
  pub command : Command list pool at
  unfolding runs_past
  command =
      let d = command_done list pool at (done h (declares_one one)).0 in
      let r = rw (declaration_at_lem list at, body_text list at one) at d.1 in
      record { fits = omega (arith, d.0, size_one one); name = name_fits pool _ _ _ _ r; text = text_fits pool _ _ _ _ r }

  found_text : same_bytes (command_name list pool at) name ≡ true → binding list pool name ≡ text (command_text list pool at)
  unfolding body_bound text_of
  found_text e = found h (declares_one one) e ∙ ap (body_bound pool) (body_text list at one)

  module _ {start n : ℕ} (is-start : start ≡ little_endian list (at + 1) 4) (is-length : n ≡ get_or list (at + 5) 0) where
    -- another name
    pub on : same_bytes (part pool start n) name ≡ false → Here list pool name (at + 12)
    on e = passed_by h (declares_one one) (size_one one) (same_part pool name is-start is-length e)

    -- this name
    pub hit : same_bytes (part pool start n) name ≡ true → (r : Binding) → TextAt list at r → (bound_to pool r ≡ binding list pool name) × Lies pool r
    unfolding bound_to
    hit e (Text from end) t =
        let k = command in
        let q : end - from ≡ little_endian list (at + 10) 2 = omega arith in
        (rw (q, t.0) (sym (found_text (same_part pool name is-start is-length e))), (omega arith, omega arith, t.2))
    hit e (Predefined b) t = absurd t
    hit e External t = absurd t
    hit e Unknown t = absurd t
