-- Unescaped texts: no opening is made, UTF-8 is kept, and no character is barred. The first two are instances of what is carried along a
-- run. Assumes nothing.
use mathlib.Core.Path.{◌≡◌, refl, subst}
use Prim.Native.Nat.{ℕ, suc, ◌+◌}
use mathlib.Core.Bool.{true}
use mathlib.Core.List.{List}
use lib.ListN.{length}
use lib.Dec.{eqb}
use borrow.Author.Tests.{eqb-true}
use Rattle.text.specs.Utf8.{State, between, next, after, WellFormed}
use Rattle.text.proofs.Bytes.{pick_by, pick_both}
use Rattle.charref.specs.CharRef.{any_character}
use Rattle.entity.specs.Binding.{Bound, text, external, predefined, unknown, GoodBound}
use Rattle.tokens.specs.Tokens.{kept, space, number, named, unterminated, copy, stop, head, name_at}
use Rattle.tokens.specs.Outcome.{done}
use Rattle.tokens.proofs.Carried.{Carried, Moving, Answering, run_carried, number_carried}
use Rattle.tokens.proofs.Openings.{openings_of, none_made, none_moving}
use Rattle.tokens.proofs.Barred.{Passes, BarsNothing, reference_passes}
use Rattle.tokens.proofs.WellFormedness.{between_brings, Whole, whole_moves, reference_whole, utf8, any_own}
use Rattle.unescape.specs.Unescape.{text_head, copied, replaced, unescape}

module _ (bind : List ℕ → Bound) (C : Carried any_character) where
  -- the text that a name is bound to, where it is copied
  pub record Copying : Type 0 where
    pub bound : (x y : C.Place) (offset : ℕ) (name t : List ℕ) → C.Leads x (stop (named offset name)) y → bind name ≡ text t → (n : ℕ) → C.Holds x y n (done t n)
    pub stands_for : (x y : C.Place) (offset : ℕ) (name t : List ℕ) → C.Leads x (stop (named offset name)) y → bind name ≡ predefined t → (n : ℕ) → C.Holds x y n (done t n)

  module _ (P : Copying) where
    copied_carried : (x y : C.Place) (offset : ℕ) (name : List ℕ) → C.Leads x (stop (named offset name)) y → (b : Bound) → bind name ≡ b → (n : ℕ)
        → C.Holds x y n (copied offset name b n)
    unfolding copied
    copied_carried x y offset name l (text t) e n = P.bound x y offset name t l e n
    copied_carried x y offset name l external e n = C.refusal x y n 27 offset 0
    copied_carried x y offset name l (predefined t) e n = P.stands_for x y offset name t l e n
    copied_carried x y offset name l unknown e n = C.refusal x y n 11 (suc offset) (suc offset + length name)

    replaced_carried : Answering C (replaced bind)
    unfolding replaced
    replaced_carried x y (kept b) l n = C.keeps x y b l n
    replaced_carried x y space l n = C.spaces x y l n
    replaced_carried x y (number digits) l n = number_carried C x y digits l n
    replaced_carried x y (named offset name) l n = copied_carried x y offset name l (bind name) refl n
    replaced_carried x y (unterminated offset end) l n = C.refusal x y n 10 offset end

    pub unescape_carried : Moving C text_head → (x : C.Place) (t : List ℕ) → C.Stands x t → C.Holds x C.end 0 (unescape bind t)
    unfolding unescape
    unescape_carried g x t h = run_carried C text_head g (replaced bind) replaced_carried t x 0 0 h 0

-- ---- openings

-- Unescaping opens no entity, accepted or refused.
pub unescape_openings : (bind : List ℕ → Bound) (t : List ℕ) → openings_of (unescape bind t) ≡ 0
unescape_openings bind t =
    unescape_carried bind (none_made any_character)
    (record { bound = λ x y offset name u l e n. refl; stands_for = λ x y offset name u l e n. refl })
    (none_moving any_character text_head) tt t tt

-- An unescaped text took no opening: the second answer word is 0.
pub no_openings : (bind : List ℕ → Bound) (t value : List ℕ) (openings : ℕ) → unescape bind t ≡ done value openings → openings ≡ 0
no_openings bind t value openings e = rw e at (unescape_openings bind t)

-- ---- UTF-8

text_whole : (s : State) (offset b : ℕ) (bs : List ℕ) → Whole s b bs (text_head offset b bs)
unfolding text_head after
text_whole s offset b bs =
    pick_by (Whole s b bs) (eqb b 38) {b = head (copy b) 0}
    (λ e. rw (eqb-true b 38 e) (reference_whole true s offset bs)) (λ e h. record { to = next s b; leaves = refl; whole = h })

text_utf8 : Moving (utf8 any_character any_own) text_head
text_utf8 s offset b bs h = whole_moves any_character any_own s b bs (text_head offset b bs) (text_whole s offset b bs) h

module _ (bind : List ℕ → Bound) (good : (name : List ℕ) → GoodBound (bind name)) where
  utf8_copying : Copying bind (utf8 any_character any_own)
  utf8_copying =
      record {
        bound = λ s s' offset name t l e n. between_brings s s' t l (subst GoodBound e (good name));
        stands_for = λ s s' offset name t l e n. between_brings s s' t l (subst GoodBound e (good name));
      }

  -- With bindings that are UTF-8, as those of a valid table are, what a UTF-8 text is unescaped to is UTF-8.
  pub unescape_well_formed : (t value : List ℕ) (openings : ℕ) → WellFormed t → unescape bind t ≡ done value openings → WellFormed value
  unfolding WellFormed
  unescape_well_formed t value openings h e = rw e at (unescape_carried bind (utf8 any_character any_own) utf8_copying text_utf8 between t h)

-- ---- no character is barred

pub text_passes : BarsNothing text_head
unfolding text_head
text_passes offset b bs = pick_both Passes (eqb b 38) {b = head (copy b) 0} (reference_passes offset bs (name_at true bs)) (λ p. p)
