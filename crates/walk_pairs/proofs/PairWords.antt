-- K6's words: a pair is what its two words say (`words_give_back`); how many there are (`rows_length`), each by its position (`rows_word`), and
-- a buffer that has each at its position is the buffer of the definition (`rows_laid`). Assumes nothing.
use mathlib.Core.Path.{◌≡◌, refl, ap, ap₂, sym, ◌∙◌, subst}
use mathlib.Core.Logic.{◌≢◌}
use Prim.Native.Nat.{ℕ, zero, suc, ◌+◌, ◌-◌, ◌*◌, ◌≤◌, ◌<◌}
use native.Mathlib.Omega.{arith}
use native.Mathlib.Nat.{add-zero, zero-add, zero-mul, suc-mul}
use mathlib.Core.Bool.{Bool, true, false}
use mathlib.Core.List.{List, [], ◌∷◌, ◌++◌}
use lib.ListN.{length, get_or, take, drop, length-append, length-take, length-drop, take-append-drop, get_or-append}
use lib.Seq.{ext_get_or, get_or-take, get_or-drop, get_or-append-add, length-take-le, take-add}
use lib.Dec.{eqb, leb}
use borrow.Author.Tests.{eqb-true, eqb-false, ne_eqb, le-leb, lt-leb}
use Rattle.text.specs.Bytes.{pick}
use Rattle.text.specs.Call.{laid}
use Rattle.entity.specs.Table.{Body, inside, outside, Declaration}
use Rattle.tokens.specs.Outcome.{Outcome, done, refused, produced}
use Rattle.tokens.proofs.Openings.{openings_of}
use Rattle.attribute.specs.Walk.{Settings, walk}
use Rattle.memory.proofs.Levels.{Brief}
use Rattle.walk_pairs.specs.Forecast.{Sum, sized, fails, summary, relimit, pair_at, first_word, second_word, body_words, row_from, all_rows}
use Rattle.walk_pairs.specs.PairSums.{from_words, nth_body}
use Rattle.walk_pairs.proofs.HeldCounts.{Held, held_walk}

-- ---- two words hold a pair

abbrev Fits : Sum → Type 0
Fits (sized l k) = (l < 9223372036854775808) × (k ≤ 1000000)
Fits (fails why k) = (k ≤ 1000000) × (eqb why 17 ≡ true → k ≡ 1000000) × (why ≤ 27)

-- a pair from its words, by the tests of `from_words`
abbrev told : ℕ → ℕ → Sum
told a b = pick (eqb b 1000001) (fails 17 1000000) (pick (leb 9223372036854775808 a) (fails (a - 9223372036854775808) b) (sized a b))

given_back : (p : Sum) → Fits p → from_words (first_word p) (second_word p) ≡ p
unfolding from_words first_word second_word
given_back (sized l k) h = rw (ne_eqb k 1000001 (λ e. omega (arith, e, h.1)), lt-leb 9223372036854775808 l h.0)
given_back (fails why k) h = go (eqb why 17) refl
  where
    go : (t : Bool) → eqb why 17 ≡ t → told (pick t 0 (9223372036854775808 + why)) (pick t 1000001 k) ≡ fails why k
    go true e = ap₂ fails (sym (eqb-true why 17 e)) (sym (h.1 e))
    go false e =
        rw (ne_eqb k 1000001 (λ q. omega (arith, q, h.0)), le-leb 9223372036854775808 (9223372036854775808 + why) (omega arith))
        (ap (λ (x : ℕ). fails x k) (omega arith))

outcome_fits : (t : List ℕ) → length t ≤ 65535 → (o : Outcome) → Held 1000000 o → length (produced o) + 65535 * 0 ≤ length t + 65535 * openings_of o → Fits (summary o)
unfolding summary
outcome_fits t le (done value m) h b = (omega (arith, b, h, le), h)
outcome_fits t le (refused before m why first second) h b = h

module _ (s : Settings) (brief : Brief (relimit s 1000000)) (depth : ℕ) (t : List ℕ) (le : length t ≤ 65535) where
  -- numbers of a pair: no length reaches 2^63, and openings are at most 1,000,000, as many where 17 comes
  pair_fits : Fits (pair_at s depth t)
  unfolding pair_at
  pair_fits =
      let o : Outcome = walk (relimit s 1000000) s.inner depth t 0 in
      outcome_fits t le o (held_walk (relimit s 1000000) s.inner depth t 0 (omega arith)) (brief depth 0 t)

  -- K6: a pair is what its two words say
  pub words_give_back : from_words (first_word (pair_at s depth t)) (second_word (pair_at s depth t)) ≡ pair_at s depth t
  words_give_back = given_back (pair_at s depth t) pair_fits

second_small : (p : Sum) → Fits p → second_word p ≤ 1000001
unfolding second_word
second_small (sized l k) h = omega (arith, h.1)
second_small (fails why k) h = go (eqb why 17)
  where
    go : (t : Bool) → pick t 1000001 k ≤ 1000001
    go true = omega arith
    go false = omega (arith, h.0)

first_small : (p : Sum) → Fits p → first_word p ≤ 9223372036854775835
unfolding first_word
first_small (sized l k) h = omega (arith, h.0)
first_small (fails why k) h = go (eqb why 17)
  where
    go : (t : Bool) → pick t 0 (9223372036854775808 + why) ≤ 9223372036854775835
    go true = omega arith
    go false = omega (arith, h.2)

first_other : (p : Sum) → Fits p → first_word p ≢ 9223372036854775825
unfolding first_word
first_other (sized l k) h = λ e. omega (arith, h.0, e)
first_other (fails why k) h = go (eqb why 17) refl
  where
    go : (t : Bool) → eqb why 17 ≡ t → pick t 0 (9223372036854775808 + why) ≢ 9223372036854775825
    go true q = λ e. omega (arith, e)
    go false q = λ e. eqb-false why 17 q (omega (arith, e))

-- 17 is no refusal of a pair
pub pair_other : (s : Settings) → Brief (relimit s 1000000) → (depth : ℕ) (t : List ℕ) → length t ≤ 65535 → first_word (pair_at s depth t) ≢ 9223372036854775825
pair_other s brief depth t le = first_other (pair_at s depth t) (pair_fits s brief depth t le)

-- so no number of a pair is too large for its word, nor a sum of openings with it
pub pair_first : (s : Settings) → Brief (relimit s 1000000) → (depth : ℕ) (t : List ℕ) → length t ≤ 65535 → first_word (pair_at s depth t) ≤ 9223372036854775835
pair_first s brief depth t le = first_small (pair_at s depth t) (pair_fits s brief depth t le)

pub pair_second : (s : Settings) → Brief (relimit s 1000000) → (depth : ℕ) (t : List ℕ) → length t ≤ 65535 → second_word (pair_at s depth t) ≤ 1000001
pair_second s brief depth t le = second_small (pair_at s depth t) (pair_fits s brief depth t le)

-- ---- the words in order

-- a position as a pair's, and which of its two words
record Half (i : ℕ) : Type 0 where
  pair : ℕ
  word : ℕ
  is : i ≡ 2 * pair + word
  less : word < 2

half : (i : ℕ) → Half i
half zero = record { pair = 0; word = 0; is = omega arith; less = omega arith }
half (suc zero) = record { pair = 0; word = 1; is = omega arith; less = omega arith }
half (suc (suc i)) =
    let h = half i in
    record { pair = suc h.pair; word = h.word; is = omega (arith, h.is); less = h.less }

module _ (s : Settings) (pool : List ℕ) where
  body_length : (depth : ℕ) (b : Body) → length (body_words s pool depth b) ≡ 2
  unfolding body_words
  body_length depth (inside start size) = refl
  body_length depth outside = refl

  row_length : (b : Body) (depth count : ℕ) → length (row_from s pool b depth count) ≡ 2 * count
  unfolding row_from
  row_length b depth zero = refl
  row_length b depth (suc count) =
      length-append (body_words s pool depth b) (row_from s pool b (suc depth) count)
      ∙ omega (arith, body_length depth b, row_length b (suc depth) count)

  -- a word of a row
  row_word : (b : Body) (count depth d k : ℕ) → d < count → k < 2 → get_or (row_from s pool b depth count) (2 * d + k) 0 ≡ get_or (body_words s pool (depth + d) b) k 0
  unfolding row_from
  row_word b zero depth d k l h = absurd (omega (arith, l))
  row_word b (suc count) depth zero k l h =
      ap (λ (i : ℕ). get_or (body_words s pool depth b ++ row_from s pool b (suc depth) count) i 0) (omega arith)
      ∙ get_or-append (body_words s pool depth b) (row_from s pool b (suc depth) count) 0 k (omega (arith, h, body_length depth b))
      ∙ ap (λ (e : ℕ). get_or (body_words s pool e b) k 0) (sym (add-zero depth))
  row_word b (suc count) depth (suc d) k l h =
      let q : 2 * suc d + k ≡ length (body_words s pool depth b) + (2 * d + k) = omega (arith, body_length depth b) in
      let r : suc depth + d ≡ depth + suc d = omega arith in
      ap (λ (i : ℕ). get_or (body_words s pool depth b ++ row_from s pool b (suc depth) count) i 0) q
      ∙ get_or-append-add (body_words s pool depth b) (row_from s pool b (suc depth) count) (2 * d + k) 0
      ∙ row_word b count (suc depth) d k (omega (arith, l)) h ∙ ap (λ (e : ℕ). get_or (body_words s pool e b) k 0) r

  module _ (top : ℕ) where
    abbrev width : ℕ
    width = 2 * suc top

    abbrev row : Body → List ℕ
    row b = row_from s pool b 0 (suc top)

    next_row : (n i : ℕ) → width + (n * width + i) ≡ suc n * width + i
    next_row n i = omega (arith, suc-mul n width)

    pub rows_length : (ds : List Declaration) → length (all_rows s pool top ds) ≡ length ds * width
    unfolding all_rows
    rows_length [] = sym (zero-mul width)
    rows_length (d ∷ ds) =
        length-append (row d.body) (all_rows s pool top ds)
        ∙ omega (arith, row_length d.body 0 (suc top), rows_length ds, suc-mul (length ds) width)

    -- K6: a definition's word at a depth, by its position
    pub rows_word : (ds : List Declaration) (n d k : ℕ) → n < length ds → d ≤ top → k < 2
        → get_or (all_rows s pool top ds) (n * width + (2 * d + k)) 0 ≡ get_or (body_words s pool d (nth_body ds n)) k 0
    unfolding all_rows
    rows_word [] n d k l le h = absurd (omega (arith, l))
    rows_word (x ∷ ds) zero d k l le h =
        let q : zero * width + (2 * d + k) ≡ 2 * d + k = omega (arith, zero-mul width) in
        let r : zero + d ≡ d = omega arith in
        ap (λ (i : ℕ). get_or (row x.body ++ all_rows s pool top ds) i 0) q
        ∙ get_or-append (row x.body) (all_rows s pool top ds) 0 (2 * d + k) (omega (arith, row_length x.body 0 (suc top), le, h))
        ∙ row_word x.body (suc top) 0 d k (omega (arith, le)) h ∙ ap (λ (e : ℕ). get_or (body_words s pool e x.body) k 0) r
    rows_word (x ∷ ds) (suc n) d k l le h =
        let q : suc n * width + (2 * d + k) ≡ length (row x.body) + (n * width + (2 * d + k)) = omega (arith, row_length x.body 0 (suc top), suc-mul n width) in
        ap (λ (i : ℕ). get_or (row x.body ++ all_rows s pool top ds) i 0) q
        ∙ get_or-append-add (row x.body) (all_rows s pool top ds) (n * width + (2 * d + k)) 0
        ∙ rows_word ds n d k (omega (arith, l)) le h

    -- ---- a buffer by its words

    -- all words of a definition
    abbrev pub Words : List Declaration → List ℕ → Type 0
    Words ds w =
        (n d k : ℕ) → n < length ds → d ≤ top → k < 2 → get_or w (n * width + (2 * d + k)) 0 ≡ get_or (body_words s pool d (nth_body ds n)) k 0

    row_is : (b : Body) (w : List ℕ) → width ≤ length w → ((d k : ℕ) → d ≤ top → k < 2 → get_or w (2 * d + k) 0 ≡ get_or (body_words s pool d b) k 0)
        → take width w ≡ row b
    row_is b w le h =
        ext_get_or 0 (take width w) (row b) (length-take-le width w le ∙ sym (row_length b 0 (suc top)))
        (λ i l. same i (omega (arith, l, length-take-le width w le)))
      where
        same : (i : ℕ) → i < width → get_or (take width w) i 0 ≡ get_or (row b) i 0
        same i l =
            let p = half i in
            let low : p.pair ≤ top = omega (arith, l, p.is) in
            get_or-take width w i 0 l ∙ ap (λ (j : ℕ). get_or w j 0) p.is ∙ h p.pair p.word low p.less
            ∙ ap (λ (e : ℕ). get_or (body_words s pool e b) p.word 0) (sym (zero-add p.pair))
            ∙ sym (row_word b (suc top) 0 p.pair p.word (omega (arith, low)) p.less) ∙ ap (λ (j : ℕ). get_or (row b) j 0) (sym p.is)

    rows_are : (ds : List Declaration) (w : List ℕ) → length ds * width ≤ length w → Words ds w → take (length ds * width) w ≡ all_rows s pool top ds
    unfolding all_rows
    rows_are [] w le h = ap (λ (n : ℕ). take n w) (zero-mul width)
    rows_are (x ∷ ds) w le h =
        let size : suc (length ds) * width ≡ width + length ds * width = omega (arith, suc-mul (length ds) width) in
        ap (λ (n : ℕ). take n w) size ∙ take-add width (length ds * width) w
        ∙ ap₂ (λ (a b : List ℕ). a ++ b) (row_is x.body w (omega (arith, le, size)) here)
        (rows_are ds (drop width w) (omega (arith, le, size, length-drop width w)) later)
      where
        here : (d k : ℕ) → d ≤ top → k < 2 → get_or w (2 * d + k) 0 ≡ get_or (body_words s pool d x.body) k 0
        here d k low less =
            let q : 2 * d + k ≡ zero * width + (2 * d + k) = omega (arith, zero-mul width) in
            ap (λ (j : ℕ). get_or w j 0) q ∙ h zero d k (omega arith) low less

        later : Words ds (drop width w)
        later n d k l low less =
            get_or-drop width w (n * width + (2 * d + k)) 0 ∙ ap (λ (j : ℕ). get_or w j 0) (next_row n (2 * d + k)) ∙ h (suc n) d k (omega (arith, l)) low less

    pub rows_laid : (ds : List Declaration) (w old : List ℕ) → length ds * width ≤ length w → Words ds w → drop (length ds * width) w ≡ drop (length ds * width) old
        → w ≡ laid (all_rows s pool top ds) old
    rows_laid ds w old le h kept =
        let n = length ds * width in
        sym (take-append-drop n w) ∙ ap₂ (λ (a b : List ℕ). a ++ b) (rows_are ds w le h) (kept ∙ ap (λ (i : ℕ). drop i old) (sym (rows_length ds)))
