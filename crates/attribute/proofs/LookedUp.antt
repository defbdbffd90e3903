-- K13: a table has no say beyond the names that a reading looks up. Two readings that differ in what names are bound to, and bind alike
-- each name that the first looks up, give one outcome and look up the same names (`walk_agrees`), over any heads and any rule for
-- characters. Assumes nothing.
use mathlib.Core.Path.{◌≡◌, refl, ap, subst, ◌∙◌}
use Prim.Native.Nat.{ℕ, zero, suc}
use mathlib.Core.Bool.{Bool, true, false}
use mathlib.Core.List.{List, [], ◌∷◌}
use lib.Dec.{eqb}
use Rattle.text.specs.Bytes.{pick, same_bytes}
use Rattle.text.specs.Version.{Rule}
use Rattle.entity.specs.Table.{marked}
use Rattle.entity.specs.Binding.{Bound, text, external, predefined, unknown, binding}
use Rattle.tokens.specs.Tokens.{Stop, kept, space, number, named, unterminated, Heads, tokens}
use Rattle.tokens.specs.Outcome.{Outcome, done, refused, number_outcome}
use Rattle.tokens.specs.Lookups.{Each}
use Rattle.tokens.proofs.Lookups.{Agree, agree_itself, each_weaker, run_agrees}
use Rattle.attribute.specs.Walk.{Settings, opened, answer, walk, normalize, reading, reading_of}
use Rattle.attribute.specs.Strict.{strictly, reading_by}
use Rattle.attribute.specs.LookedUp.{names_inside, names_at, walk_names, looked_up}

-- the same reading with other bindings
abbrev pub rebound : Settings → (List ℕ → Bound) → Settings
rebound s other = record { outer = s.outer; inner = s.inner; bind = other; limit = s.limit; legal = s.legal }

module _ (s : Settings) (other : List ℕ → Bound) where
  abbrev pub Same : List ℕ → Type 0
  Same name = s.bind name ≡ other name

  module _ (f g : List ℕ → ℕ → Outcome) (names others : List ℕ → ℕ → List (List ℕ))
      (h : (t : List ℕ) (n : ℕ) → Each Same (names t n) → Agree (f t n) (g t n) (names t n) (others t n)) where
    -- a text that is opened, or not
    opened_agrees : (offset : ℕ) (name : List ℕ) (b : Bound) (n : ℕ) → Each Same (names_inside s.limit names b n)
        → Agree (opened s.limit f offset name b n) (opened s.limit g offset name b n) (names_inside s.limit names b n) (names_inside s.limit others b n)
    unfolding opened names_inside
    opened_agrees offset name (text t) n e = go (eqb n s.limit) e
      where
        go : (full : Bool) → Each Same (pick full [] (names t (suc n)))
            → Agree (pick full (refused [] n 17 offset 0) (f t (suc n))) (pick full (refused [] n 17 offset 0) (g t (suc n))) (pick full [] (names t (suc n)))
            (pick full [] (others t (suc n)))
        go true q = agree_itself (refused [] n 17 offset 0) []
        go false q = h t (suc n) q
    opened_agrees offset name external n e = agree_itself (opened s.limit f offset name external n) []
    opened_agrees offset name (predefined t) n e = h t n e
    opened_agrees offset name unknown n e = agree_itself (opened s.limit f offset name unknown n) []

    -- a reference: its name is bound alike
    named_agrees : (offset : ℕ) (name : List ℕ) (n : ℕ) → Same name → Each Same (names_inside s.limit names (s.bind name) n)
        → Agree (opened s.limit f offset name (s.bind name) n) (opened s.limit g offset name (other name) n) (name ∷ names_inside s.limit names (s.bind name) n)
        (name ∷ names_inside s.limit others (other name) n)
    named_agrees offset name n here inside =
        let o = opened_agrees offset name (s.bind name) n inside in
        record {
          outcome = o.outcome ∙ ap (λ (b : Bound). opened s.limit g offset name b n) here;
          asks = ap (λ (xs : List (List ℕ)). name ∷ xs) (o.asks ∙ ap (λ (b : Bound). names_inside s.limit others b n) here);
        }

    answer_agrees : (x : Stop) (n : ℕ) → Each Same (names_at s names x n)
        → Agree (answer s f x n) (answer (rebound s other) g x n) (names_at s names x n) (names_at (rebound s other) others x n)
    unfolding answer names_at
    answer_agrees (kept b) n e = agree_itself (done (b ∷ []) n) []
    answer_agrees space n e = agree_itself (done (32 ∷ []) n) []
    answer_agrees (number digits) n e = agree_itself (number_outcome s.legal digits n) []
    answer_agrees (named offset name) n e = go (same_bytes name (97 ∷ 109 ∷ 112 ∷ [])) e
      where
        go : (amp : Bool) → Each Same (pick amp [] (name ∷ names_inside s.limit names (s.bind name) n))
            → Agree (pick amp (done (38 ∷ []) n) (opened s.limit f offset name (s.bind name) n))
            (pick amp (done (38 ∷ []) n) (opened s.limit g offset name (other name) n)) (pick amp [] (name ∷ names_inside s.limit names (s.bind name) n))
            (pick amp [] (name ∷ names_inside s.limit others (other name) n))
        go true q = agree_itself (done (38 ∷ []) n) []
        go false q = named_agrees offset name n q.0 q.1
    answer_agrees (unterminated offset end) n e = agree_itself (refused [] n 10 offset end) []

  -- K13, of any reading and any text.
  pub walk_agrees : (at : Heads) (depth : ℕ) (t : List ℕ) (n : ℕ) → Each Same (walk_names s at depth t n)
      → Agree (walk s at depth t n) (walk (rebound s other) at depth t n) (walk_names s at depth t n) (walk_names (rebound s other) at depth t n)
  unfolding walk walk_names
  walk_agrees at zero t n e = agree_itself (walk s at zero t n) []
  walk_agrees at (suc depth) t n e =
      run_agrees Same (answer s (λ u m. walk s s.inner depth u m)) (answer (rebound s other) (λ u m. walk (rebound s other) s.inner depth u m))
      (names_at s (λ u m. walk_names s s.inner depth u m)) (names_at (rebound s other) (λ u m. walk_names (rebound s other) s.inner depth u m))
      (answer_agrees (λ u m. walk s s.inner depth u m) (λ u m. walk (rebound s other) s.inner depth u m) (λ u m. walk_names s s.inner depth u m)
      (λ u m. walk_names (rebound s other) s.inner depth u m) (λ u m q. walk_agrees s.inner depth u m q)) (tokens at 0 0 t) n e

  -- a value
  pub value_agrees : (depth : ℕ) (t : List ℕ) → Each Same (looked_up s depth t)
      → Agree (normalize s depth t) (normalize (rebound s other) depth t) (looked_up s depth t) (looked_up (rebound s other) depth t)
  unfolding normalize looked_up
  value_agrees depth t e = walk_agrees s.outer depth t 0 e

-- ---- the readings of the calls

-- two tables of one marking: the readings differ in their bindings alone
other_table : (strict : Bool) (r : Rule) (list pool list' pool' : List ℕ) (limit : ℕ) → marked list ≡ marked list'
    → rebound (reading_by strict r list pool limit) (binding list' pool') ≡ reading_by strict r list' pool' limit
unfolding reading_by reading_of reading strictly
other_table false r list pool list' pool' limit e = ap (λ (past : Bool). reading r past (binding list' pool') limit) e
other_table true r list pool list' pool' limit e = ap (λ (past : Bool). strictly r (reading r past (binding list' pool') limit)) e

bound_by : (strict : Bool) (r : Rule) (list pool : List ℕ) (limit : ℕ) (name : List ℕ) → (reading_by strict r list pool limit).bind name ≡ binding list pool name
unfolding reading_by reading_of reading strictly
bound_by false r list pool limit name = refl
bound_by true r list pool limit name = refl

-- K13: two tables of one marking that bind alike each name that reading a value with the first looks up give one outcome, lenient or
-- strict, and the reading with the second looks up the same names.
pub unused_table : (strict : Bool) (r : Rule) (list pool list' pool' : List ℕ) (limit depth : ℕ) (t : List ℕ) → marked list ≡ marked list'
    → Each (λ (name : List ℕ). binding list pool name ≡ binding list' pool' name) (looked_up (reading_by strict r list pool limit) depth t)
    → Agree (normalize (reading_by strict r list pool limit) depth t) (normalize (reading_by strict r list' pool' limit) depth t)
    (looked_up (reading_by strict r list pool limit) depth t) (looked_up (reading_by strict r list' pool' limit) depth t)
unused_table strict r list pool list' pool' limit depth t m e =
    let s = reading_by strict r list pool limit in
    let same = each_weaker (λ (name : List ℕ). binding list pool name ≡ binding list' pool' name) (Same s (binding list' pool'))
    (λ name h. bound_by strict r list pool limit name ∙ h) (looked_up s depth t) e in
    subst (λ (x : Settings). Agree (normalize s depth t) (normalize x depth t) (looked_up s depth t) (looked_up x depth t))
    (other_table strict r list pool list' pool' limit m) (value_agrees s (binding list' pool') depth t same)
