-- Normalized values: how long they are, that they are UTF-8, and how many openings they take. Assumes nothing.
use mathlib.Core.Path.{◌≡◌, refl, subst}
use mathlib.Core.Logic.{◌≢◌}
use mathlib.Core.Bool.{Bool}
use Prim.Native.Nat.{ℕ, suc, ◌+◌, ◌*◌, ◌≤◌, ◌<◌}
use native.Mathlib.Omega.{arith}
use native.Mathlib.Nat.{le_refl}
use mathlib.Core.List.{List, [], ◌∷◌}
use lib.ListN.{length, get_or}
use borrow.Author.Tests.{eqb-false}
use Rattle.text.specs.Version.{Rule}
use Rattle.text.specs.Utf8.{State, between, WellFormed}
use Rattle.text.proofs.Utf8.{ascii_well_formed}
use Rattle.charref.specs.CharRef.{any_character}
use Rattle.charref.specs.CharNumbers.{Char}
use Rattle.entity.specs.Table.{marked, ValidTable}
use Rattle.entity.specs.Binding.{Bound, binding, ShortBound, GoodBound}
use Rattle.entity.proofs.Tables.{binding_good, binding_short}
use Rattle.tokens.specs.Tokens.{Heads}
use Rattle.tokens.specs.Outcome.{Outcome, done, refused, produced}
use Rattle.tokens.proofs.Carried.{Moving}
use Rattle.tokens.proofs.Openings.{openings_of, within_limit, within_moving}
use Rattle.tokens.proofs.Lengths.{Bounded, bounded_more, lengths}
use Rattle.tokens.proofs.WellFormedness.{Brings, between_brings, utf8, any_own}
use Rattle.attribute.specs.Heads.{attribute_head}
use Rattle.attribute.specs.Walk.{Settings, walk, normalize, reading, reading_of}
use Rattle.attribute.proofs.Walked.{Opening, walk_carried}
use Rattle.attribute.proofs.Heads.{attribute_lengths, inner_lengths, attribute_utf8, inner_utf8}

-- ---- lengths

produced_bounded : (x n : ℕ) (o : Outcome) → Bounded x 0 n o → length (produced o) + 65535 * n ≤ x + 65535 * openings_of o
produced_bounded x n (done value m) h = omega arith
produced_bounded x n (refused before m why first second) h = omega arith

module _ (st : Settings) (short : (name : List ℕ) → ShortBound (st.bind name)) where
  pub length_opening : Opening st (lengths st.legal)
  length_opening =
      record {
        amp = λ x y offset name l n. omega arith;
        opens = λ walked w x y offset name t l e n q.
            let s : length t ≤ 65535 = subst ShortBound e (short name) in
            bounded_more (length t) 0 x y (suc n) n (walked t (suc n)) (omega arith) (omega arith) (w (length t) t (le_refl _) (suc n));
        stands_for = λ walked w x y offset name t l e n.
            let s : length t ≤ 1 = subst ShortBound e (short name) in
            bounded_more (length t) 0 x y n n (walked t n) (omega arith) (omega arith) (w (length t) t (le_refl _) n);
      }

  -- the bytes made, before a refusal too
  pub walk_most : Moving (lengths st.legal) st.inner → (at : Heads) → Moving (lengths st.legal) at → (depth : ℕ) (t : List ℕ) (n : ℕ)
      → length (produced (walk st at depth t n)) + 65535 * n ≤ length t + 65535 * openings_of (walk st at depth t n)
  walk_most i at g depth t n =
      produced_bounded (length t) n (walk st at depth t n)
      (walk_carried st (lengths st.legal) length_opening i at g depth (length t) t (le_refl _) n)

-- ---- UTF-8

amp_well_formed : WellFormed (38 ∷ [])
amp_well_formed = ascii_well_formed (38 ∷ []) refl

-- a text walked from between two characters to between two stands for a reference
walked_brings : (s s' : State) (o : Outcome) → (s ≡ between) × (s' ≡ between) → Brings between between o → Brings s s' o
unfolding WellFormed
walked_brings s s' (done value m) l h = between_brings s s' value l h
walked_brings s s' (refused before m why first second) l h = tt

value_brings : (o : Outcome) (value : List ℕ) (openings : ℕ) → Brings between between o → o ≡ done value openings → WellFormed value
unfolding WellFormed
value_brings o value openings h e = rw e at h

module _ (st : Settings) (own : (m n : ℕ) → st.legal m ≡ Char n → m ≡ n) (good : (name : List ℕ) → GoodBound (st.bind name)) where
  pub utf8_opening : Opening st (utf8 st.legal own)
  unfolding WellFormed
  utf8_opening =
      record {
        amp = λ s s' offset name l n. between_brings s s' (38 ∷ []) l amp_well_formed;
        opens = λ walked w s s' offset name t l e n q. walked_brings s s' (walked t (suc n)) l (w between t (subst GoodBound e (good name)) (suc n));
        stands_for = λ walked w s s' offset name t l e n. walked_brings s s' (walked t n) l (w between t (subst GoodBound e (good name)) n);
      }

  pub walk_well_formed : Moving (utf8 st.legal own) st.inner → (at : Heads) → Moving (utf8 st.legal own) at → (depth : ℕ) (t : List ℕ) (n : ℕ)
      → (value : List ℕ) (openings : ℕ) → WellFormed t → walk st at depth t n ≡ done value openings → WellFormed value
  unfolding WellFormed
  walk_well_formed i at g depth t n value openings h e =
      value_brings (walk st at depth t n) value openings (walk_carried st (utf8 st.legal own) utf8_opening i at g depth between t h n) e

-- ---- openings

module _ (st : Settings) where
  pub limit_opening : Opening st (within_limit st.limit st.legal)
  limit_opening =
      record {
        amp = λ x y offset name l n h. h;
        opens = λ walked w x y offset name t l e n q h.
            let d : n ≢ st.limit = eqb-false n st.limit q in
            w tt t tt (suc n) (omega arith);
        stands_for = λ walked w x y offset name t l e n. w tt t tt n;
      }

  -- openings that start within the limit stay there
  pub walk_within : (at : Heads) (depth : ℕ) (t : List ℕ) (n : ℕ) → n ≤ st.limit → openings_of (walk st at depth t n) ≤ st.limit
  walk_within at depth t n h =
      walk_carried st (within_limit st.limit st.legal) limit_opening (within_moving st.limit st.legal st.inner)
      at (within_moving st.limit st.legal at) depth tt t tt n h

-- ---- the reading of a call

module _ (r : Rule) (past : Bool) (bind : List ℕ → Bound) (limit depth : ℕ) (t : List ℕ) where
  pub walk_length : ((name : List ℕ) → ShortBound (bind name)) → (n : ℕ)
      → length (produced (walk (reading r past bind limit) (attribute_head r) depth t n)) + 65535 * n
      ≤ length t + 65535 * openings_of (walk (reading r past bind limit) (attribute_head r) depth t n)
  unfolding reading
  walk_length short n =
      walk_most (reading r past bind limit) short (inner_lengths any_character past r) (attribute_head r) (attribute_lengths any_character r) depth t n

  pub produced_length : ((name : List ℕ) → ShortBound (bind name))
      → length (produced (normalize (reading r past bind limit) depth t)) ≤ length t + 65535 * openings_of (normalize (reading r past bind limit) depth t)
  unfolding normalize reading
  produced_length short = omega (arith, walk_length short 0)

  pub value_length : ((name : List ℕ) → ShortBound (bind name)) → (value : List ℕ) (openings : ℕ)
      → normalize (reading r past bind limit) depth t ≡ done value openings → length value ≤ length t + 65535 * openings
  value_length short value openings e = rw e at (produced_length short)

  pub normalize_well_formed : ((name : List ℕ) → GoodBound (bind name)) → (value : List ℕ) (openings : ℕ)
      → WellFormed t → normalize (reading r past bind limit) depth t ≡ done value openings → WellFormed value
  unfolding normalize reading
  normalize_well_formed good =
      walk_well_formed (reading r past bind limit) any_own good (inner_utf8 any_character any_own past r) (attribute_head r) (attribute_utf8 any_character any_own r) depth t 0

  -- An accepted value took at most as many openings as the limit.
  pub openings_within : (value : List ℕ) (openings : ℕ) → normalize (reading r past bind limit) depth t ≡ done value openings → openings ≤ limit
  unfolding normalize reading
  openings_within value openings e = rw e at (walk_within (reading r past bind limit) (attribute_head r) depth t 0 (omega arith))

-- with a table
module _ (r : Rule) (list pool : List ℕ) (limit depth : ℕ) (t value : List ℕ) (openings : ℕ) (e : normalize (reading_of r list pool limit) depth t ≡ done value openings) where
  -- An accepted value is at most as long as its text and 65,535 bytes for each opening; of a list of bytes.
  pub table_length : ((k : ℕ) → get_or list k 0 < 0x100) → length value ≤ length t + 65535 * openings
  unfolding reading_of
  table_length small = value_length r (marked list) (binding list pool) limit depth t (binding_short list pool small) value openings e

  -- With a valid table, what a UTF-8 text is normalized to is UTF-8.
  pub table_well_formed : ValidTable list pool → WellFormed t → WellFormed value
  unfolding reading_of
  table_well_formed valid h = normalize_well_formed r (marked list) (binding list pool) limit depth t (binding_good list pool valid) value openings h e
