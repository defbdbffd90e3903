-- A text that was read whole gives the same again, and is written whole: list and pool. Assumes nothing.
use mathlib.Core.Path.{◌≡◌, refl, sym, ap, ap₂, ◌∙◌, subst}
use mathlib.Core.Bool.{Bool, true, false, true≢false, ◌||◌}
use mathlib.Core.List.{List, [], ◌∷◌, ◌++◌}
use Prim.Native.Nat.{ℕ, suc, ◌+◌, ◌-◌, ◌*◌, ◌≤◌, ◌<◌}
use native.Mathlib.Omega.{arith}
use lib.Dec.{ltb}
use lib.ListN.{length, set, length-append, length-set}
use borrow.Author.Tests.{ltb-false}
use borrow.Rule.Slice.PartMut.{mid_of, put_mid}
use Rattle.text.proofs.Bytes.{or_left, or_right}
use Rattle.text.specs.Call.{Called, called, call_of, laid}
use Rattle.text.specs.Version.{Rule}
use Rattle.text.specs.Answers.{Answer}
use Rattle.output.specs.Over.{over}
use Rattle.output.proofs.Clip.{over_byte, over_fits}
use Rattle.output.proofs.Laid.{rest_part, rest_put}
use Rattle.eols.specs.LineEnds.{eols}
use Rattle.eols.specs.Stops.{rule_for}
use Rattle.table_grammar.specs.EntityValue.{Read, read, departs, exceeds, refused}
use Rattle.table_grammar.specs.EntityDecl.{Entity, entities}
use Rattle.table_grammar.specs.TableWritten.{commands_from, list_of, pool_of, most, no_room, tabled, read_declarations}
use Rattle.table_names.specs.NameTerms.{left}
use Rattle.table_values.specs.ValueSteps.{fault}
use Rattle.table_declarations.specs.DeclarationSteps.{meant_all, KeptAll, MeetsAll, Counted}
use Rattle.table_values.specs.declared.Fault.{Fault}
use Rattle.table_values.specs.declared.Fault.TheVariants.{Misplaced, Excessive, Refused as Wrong}
use Rattle.std.specs.Prelude.{Result, Ok, Err}
use Rattle.table_declarations.specs.declared.Totals.{Totals}
use Rattle.table_values.proofs.EntityValues.{put_same}
use Rattle.table_grammar.proofs.ValidTables.{commands_length, list_length_lem}

abbrev found_of : Read (List Entity) → List Entity
found_of (read es end) = es
found_of (departs rest) = []
found_of (exceeds rest) = []
found_of (refused number first) = []

abbrev is_read : Read (List Entity) → Bool
is_read (read es end) = true
is_read (departs rest) = false
is_read (exceeds rest) = false
is_read (refused number first) = false

never_fault : (newer : Bool) (t : List ℕ) (es : List Entity) (f : Fault) → read es [] ≡ fault newer t f → ⊥
never_fault newer t es (Misplaced at) e = true≢false (ap is_read e)
never_fault newer t es (Excessive at) e = true≢false (ap is_read e)
never_fault newer t es (Wrong refusal) e = true≢false (ap is_read e)

-- what is written for a text that reads as these
pub written_again : {newer : Bool} {t list pool list' pool' : List ℕ} {r : Result Totals Fault} (es : List Entity) → entities most (left newer t 0) ≡ read es []
    → MeetsAll newer t list pool list' pool' r → (list' ≡ over (commands_from 0 es) list) × (pool' ≡ over (pool_of es) pool)
written_again {newer} {t} {list} {pool} {list'} {pool'} {r} es e m = go r m.found (sym e ∙ m.is) m.kept
  where
    go : (r : Result Totals Fault) (found : List Entity) → read es [] ≡ meant_all newer t found r → KeptAll t found list pool list' pool' r
        → (list' ≡ over (commands_from 0 es) list) × (pool' ≡ over (pool_of es) pool)
    go (Ok totals) found q k =
        let same : found ≡ es = sym (ap found_of q) in
        (k.commands ∙ ap (λ (l : List Entity). over (commands_from 0 l) list) same, k.texts ∙ ap (λ (l : List Entity). over (pool_of l) pool) same)
    go (Err f) found q k = absurd (never_fault newer t es f q)

-- ---- the list: the mark, the commands, the end

-- the list with its mark, the commands after it and the end after them
pub list_whole : (es : List Entity) (list part : List ℕ) (size : ℕ) → size ≡ length (list_of es) → size ≤ length list → part ≡ over (commands_from 0 es) (mid_of 1 (length list - 1) list)
    → set (set (put_mid 1 (length list - 1) list part) 0 3) (size - 1) 0 ≡ laid (list_of es) list
list_whole es [] part size e h p = absurd (omega (arith, list_length_lem es))
list_whole es (x ∷ xs) part size e h p =
    let c = commands_from 0 es in
    let q : size - 1 ≡ suc (length c) = omega (arith, e, list_length_lem es, commands_length 0 es) in
    let n : length c + 1 ≤ length xs = omega (arith, e, h, list_length_lem es, commands_length 0 es) in
    let l : length (c ++ 0 ∷ []) ≡ length c + 1 = length-append c (0 ∷ []) in
    let body : part ≡ over c xs = p ∙ ap (over c) (rest_part 1 (x ∷ xs)) in
    ap₂ (λ (z : List ℕ) (k : ℕ). set (set z 0 3) k 0) (rest_put 1 (x ∷ xs) part) q
    ∙ ap (λ (z : List ℕ). 3 ∷ set z (length c) 0) body
    ∙ ap (λ (z : List ℕ). 3 ∷ z) (over_byte c xs 0 ∙ over_fits (c ++ 0 ∷ []) xs (omega (arith, l, n)))
    ∙ marked_laid
  where
    marked_laid : 3 ∷ laid (commands_from 0 es ++ 0 ∷ []) xs ≡ laid (list_of es) (x ∷ xs)
    marked_laid = unfold list_of in refl

pub pool_whole : (es : List Entity) (pool pool' : List ℕ) → length (pool_of es) ≤ length pool → pool' ≡ over (pool_of es) pool → pool' ≡ laid (pool_of es) pool
pool_whole es pool pool' h e = e ∙ over_fits (pool_of es) pool h

-- ---- the call

no_room_lem : (es : List Entity) (list pool : List ℕ) {length' size : ℕ} {b : Bool} → length' ≡ length (list_of es) → size ≡ length (pool_of es)
    → ltb (length list) length' || ltb (length pool) size || ltb 1048576 size ≡ b → no_room es list pool ≡ b
unfolding no_room
no_room_lem es list pool p q f = rw (p, q) at f

module _ (newer : Bool) (t list pool : List ℕ) where
  abbrev answered : Read (List Entity) → Called
  answered r = tabled (left newer t 0) r list pool

  pub call_short : {es : List Entity} {length' size : ℕ} → entities most (left newer t 0) ≡ read es [] → length' ≡ length (list_of es) → size ≡ length (pool_of es)
      → ltb (length list) length' || ltb (length pool) size || ltb 1048576 size ≡ true
      → called 23 (length' ∷ size ∷ []) (list ∷ pool ∷ []) ≡ answered (entities most (left newer t 0))
  call_short {es} {length'} {size} e p q f = same ∙ sym (ap answered e)
    where
      same : called 23 (length' ∷ size ∷ []) (list ∷ pool ∷ []) ≡ answered (read es [])
      same = unfold tabled in rw (p, q, no_room_lem es list pool p q f)

  pub call_done : {es : List Entity} {length' size : ℕ} {list' pool' : List ℕ} → entities most (left newer t 0) ≡ read es [] → length' ≡ length (list_of es) → size ≡ length (pool_of es)
      → ltb (length list) length' || ltb (length pool) size || ltb 1048576 size ≡ false → list' ≡ laid (list_of es) list → pool' ≡ laid (pool_of es) pool
      → called 0 (length' ∷ size ∷ []) (list' ∷ pool' ∷ []) ≡ answered (entities most (left newer t 0))
  call_done {es} {length'} {size} {list'} {pool'} e p q f x y = same ∙ sym (ap answered e)
    where
      same : called 0 (length' ∷ size ∷ []) (list' ∷ pool' ∷ []) ≡ answered (read es [])
      same = unfold tabled in rw (p, q, x, y, no_room_lem es list pool p q f)

  pub call_broken : (f : Fault) (a : Answer) → entities most (left newer t 0) ≡ fault newer t f
      → ((list pool : List ℕ) → call_of a (list ∷ pool ∷ []) ≡ tabled (left newer t 0) (fault newer t f) list pool)
      → call_of a (list ∷ pool ∷ []) ≡ answered (entities most (left newer t 0))
  call_broken f a e told = told list pool ∙ sym (ap answered e)

-- the call by the version's rule
pub call_rule : (newer : Bool) (r : Rule) (t list pool : List ℕ) → rule_for newer ≡ r → tabled (left newer t 0) (entities most (left newer t 0)) list pool ≡ read_declarations r t list pool
unfolding read_declarations eols
call_rule newer r t list pool e = rw (sym e)

-- a part of no bytes before the rest
pub nothing_before : (part rest : List ℕ) → length part ≡ 0 → part ++ rest ≡ rest
nothing_before [] rest e = refl
nothing_before (x ∷ part) rest e = absurd (omega arith)

pub found_same : {es fs : List Entity} → read es [] ≡ read fs [] → es ≡ fs
found_same e = ap found_of e

-- a place of the list after its rest was written
pub put_inside : (list part : List ℕ) {k : ℕ} → 1 ≤ length list → length part ≡ length (mid_of 1 (length list - 1) list) → k < length list → k < length (put_mid 1 (length list - 1) list part)
put_inside list part h e l = rw (put_same 1 list part h e) l

-- ---- from the count to the answer

module _ (newer : Bool) (r : Rule) (t : List ℕ) (rule : rule_for newer ≡ r) where
  module _ {l p l' p' : List ℕ} {totals : Totals} (m : MeetsAll newer t l p l' p' (Ok totals)) (list pool : List ℕ) where
    sized_list : 12 * totals.count + 2 ≡ length (list_of m.found)
    sized_list = omega (arith, list_length_lem m.found, m.kept.counted)

    abbrev tests : Bool
    tests = ltb (length list) (12 * totals.count + 2) || ltb (length pool) totals.pool || ltb 1048576 totals.pool

    pub answer_short : tests ≡ true → called 23 ((12 * totals.count + 2) ∷ totals.pool ∷ []) (list ∷ pool ∷ []) ≡ read_declarations r t list pool
    answer_short f = call_short newer t list pool m.is sized_list m.kept.sized f ∙ call_rule newer r t list pool rule

    pub answer_ready : tests ≡ false → Counted newer t (12 * totals.count + 2) list pool
    answer_ready f =
        let x = or_left (ltb (length list) (12 * totals.count + 2) || ltb (length pool) totals.pool) (ltb 1048576 totals.pool) f in
        record {
          found = m.found;
          is = m.is;
          length_is = sized_list;
          list_fits = ltb-false (length list) (12 * totals.count + 2) (or_left (ltb (length list) (12 * totals.count + 2)) (ltb (length pool) totals.pool) x);
          pool_fits = subst (λ (n : ℕ). n ≤ length pool) m.kept.sized (ltb-false (length pool) totals.pool (or_right (ltb (length list) (12 * totals.count + 2)) (ltb (length pool) totals.pool) x));
        }

    pub answer_done : {list' pool' : List ℕ} → tests ≡ false
        → ((es : List Entity) → entities most (left newer t 0) ≡ read es [] → (list' ≡ laid (list_of es) list) × (pool' ≡ laid (pool_of es) pool))
        → called 0 ((12 * totals.count + 2) ∷ totals.pool ∷ []) (list' ∷ pool' ∷ []) ≡ read_declarations r t list pool
    answer_done f w =
        let z = w m.found m.is in
        call_done newer t list pool m.is sized_list m.kept.sized f z.0 z.1 ∙ call_rule newer r t list pool rule

  pub answer_broken : {l p l' p' : List ℕ} {f : Fault} (a : Answer) → MeetsAll newer t l p l' p' (Err f) → (list pool : List ℕ)
      → ((list pool : List ℕ) → call_of a (list ∷ pool ∷ []) ≡ tabled (left newer t 0) (fault newer t f) list pool)
      → call_of a (list ∷ pool ∷ []) ≡ read_declarations r t list pool
  answer_broken {f = f} a m list pool told = call_broken newer t list pool f a m.is told ∙ call_rule newer r t list pool rule

pub set_inside : (list part : List ℕ) (b : ℕ) {k : ℕ} → 1 ≤ length list → length part ≡ length (mid_of 1 (length list - 1) list) → k < length list
    → k < length (set (put_mid 1 (length list - 1) list part) 0 b)
set_inside list part b h e l = rw (length-set (put_mid 1 (length list - 1) list part) 0 b) (put_inside list part h e l)
