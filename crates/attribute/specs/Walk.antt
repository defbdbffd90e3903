-- The attribute walk (document 01, Attribute walk; document 02, K4 and K9; XML 1.0 and 1.1, 3.3.3). Assumes nothing.
use Rattle.std.specs.Prelude.{ℕ, zero, suc, ◌+◌, List, [], ◌∷◌, Bool, true, false, length, eqb}
use Rattle.text.specs.Bytes.{pick, same_bytes}
use Rattle.text.specs.Version.{Rule}
use Rattle.charref.specs.CharRef.{any_character}
use Rattle.charref.specs.CharNumbers.{CharNumber}
use Rattle.entity.specs.Table.{marked}
use Rattle.entity.specs.Binding.{Bound, text, external, predefined, unknown, binding}
use Rattle.tokens.specs.Tokens.{Stop, kept, space, number, named, unterminated, Heads, tokens}
use Rattle.tokens.specs.Outcome.{Outcome, done, refused, run, number_outcome}
use Rattle.attribute.specs.Heads.{attribute_head, past_head}

-- What a reading is set to: the heads of the outer text, those of replacement texts, what names are bound to, the opening limit,
-- and what becomes of a character number
pub record Settings : Type 0 where
  pub outer : Heads
  pub inner : Heads
  pub bind : List ℕ → Bound
  pub limit : ℕ
  pub legal : ℕ → CharNumber

-- a table text is an opening: 17 where the openings so far equal the limit; then the text is walked, with the depth one less;
-- document 02, K9: an external entity is 27
unfoldable pub opened : ℕ → (List ℕ → ℕ → Outcome) → ℕ → List ℕ → Bound → ℕ → Outcome
opened limit walked offset name (text t) openings =
    let inner = walked t (suc openings) in
    pick (eqb openings limit) (refused [] openings 17 offset 0) inner
opened limit walked offset name external openings = refused [] openings 27 offset 0
opened limit walked offset name (predefined t) openings = walked t openings
opened limit walked offset name unknown openings = refused [] openings 11 (suc offset) (suc offset + length name)

-- a stop, where the depth is not used up: `walked` walks a replacement text; `amp` gives `&` without asking the table
unfoldable pub answer : Settings → (List ℕ → ℕ → Outcome) → Stop → ℕ → Outcome
unfolding number_outcome opened
answer s walked (kept b) openings = done (b ∷ []) openings
answer s walked space openings = done (32 ∷ []) openings
answer s walked (number digits) openings = number_outcome s.legal digits openings
answer s walked (named offset name) openings =
    let other = opened s.limit walked offset name (s.bind name) openings in
    pick (same_bytes name (97 ∷ 109 ∷ 112 ∷ [])) (done (38 ∷ []) openings) other
answer s walked (unterminated offset end) openings = refused [] openings 10 offset end

-- depth 0: 16 at every stop
unfoldable pub exhausted : Stop → ℕ → Outcome
exhausted x openings = refused [] openings 16 0 0

-- the value of a text with those heads, walked with a depth; replacement texts have the inner heads
unfoldable pub walk : Settings → Heads → ℕ → List ℕ → ℕ → Outcome
unfolding run tokens answer exhausted
walk s at zero t openings = run exhausted (tokens at 0 0 t) openings
walk s at (suc depth) t openings = run (answer s (λ u n. walk s s.inner depth u n)) (tokens at 0 0 t) openings

-- the attribute value normalized
unfoldable pub normalize : Settings → ℕ → List ℕ → Outcome
unfolding walk
normalize s depth t = walk s s.outer depth t 0

-- line ends are joined inside each replacement text as in the outer value; K4: where `past` holds, replacement texts are past them
unfoldable pub inner_head : Bool → Rule → Heads
unfolding attribute_head past_head
inner_head false r = attribute_head r
inner_head true r = past_head

unfoldable pub reading : Rule → Bool → (List ℕ → Bound) → ℕ → Settings
unfolding attribute_head inner_head
reading r past bind limit =
    record { outer = attribute_head r; inner = inner_head past r; bind = bind; limit = limit; legal = any_character }

-- the reading of a call: version, table and limit; K4: the texts of a marked list are past line ends
unfoldable pub reading_of : Rule → List ℕ → List ℕ → ℕ → Settings
unfolding reading binding marked
reading_of r list pool limit = reading r (marked list) (binding list pool) limit
