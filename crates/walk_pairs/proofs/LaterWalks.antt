-- A walk that begins after more openings, under another limit (`walk_shifted`), and so what a pair gives where its definition is referred to
-- (`pair_placed`); a pair that is not 16 is that of every greater depth (`pair_settled`). Assumes nothing.
use mathlib.Core.Path.{◌≡◌, refl, ap, ap₂, sym, ◌∙◌}
use Prim.Native.Nat.{ℕ, zero, suc, ◌+◌, ◌≤◌, ◌<◌}
use native.Mathlib.Omega.{arith}
use native.Mathlib.Nat.{le_refl, zero-add, suc-add}
use mathlib.Core.Bool.{Bool, true, false, true≢false}
use mathlib.Core.List.{List, [], ◌∷◌, ◌++◌}
use lib.ListN.{length}
use lib.Dec.{eqb, leb}
use borrow.Author.Tests.{leb-true, leb-false, eqb-true, eqb-false}
use Rattle.text.specs.Bytes.{pick, same_bytes}
use Rattle.text.proofs.Bytes.{pick_both}
use Rattle.text.specs.Answers.{Answer}
use Rattle.text.specs.Answers.{Done, Refused}
use Rattle.charref.specs.CharRef.{char_number, number_answer, encode}
use Rattle.charref.specs.CharNumbers.{CharNumber}
use Rattle.charref.specs.CharNumbers.{Char, UnexpectedSign, InvalidNumber, InvalidCodepoint, IllegalCharacter, Forbidden}
use Rattle.entity.specs.Binding.{Bound, text, external, predefined, unknown}
use Rattle.tokens.specs.Tokens.{Stop, kept, space, number, named, unterminated, Token, copy, stop, barred, Heads, tokens}
use Rattle.tokens.specs.Outcome.{Outcome, done, refused, prepend, followed, run, numbered, number_outcome}
use Rattle.attribute.specs.Walk.{Settings, opened, answer, exhausted, walk}
use Rattle.walk_pairs.specs.Forecast.{Sum, sized, fails, summary, relimit, pair_at}
use Rattle.walk_depths.proofs.ByDepth.{done_on, refused_on}
use Rattle.walk_pairs.specs.PairSums.{placed}

-- ---- openings are never taken back
abbrev Grows : ℕ → Outcome → Type 0
Grows a (done value k) = a ≤ k
Grows a (refused before k why first second) = a ≤ k

grows_prepend : (a : ℕ) (front : List ℕ) (o : Outcome) → Grows a o → Grows a (prepend front o)
grows_prepend a front (done value k) h = h
grows_prepend a front (refused before k why first second) h = h

grows_less : (a b : ℕ) (o : Outcome) → a ≤ b → Grows b o → Grows a o
grows_less a b (done value k) le h = omega arith
grows_less a b (refused before k why first second) le h = omega arith

grows_then : (a : ℕ) (o : Outcome) (k : ℕ → Outcome) → Grows a o → ((m : ℕ) → Grows m (k m)) → Grows a (followed o k)
grows_then a (done value m) k h g = grows_less a m (prepend value (k m)) h (grows_prepend m value (k m) (g m))
grows_then a (refused before m why first second) k h g = h

grows_run : (f : Stop → ℕ → Outcome) → ((s : Stop) (n : ℕ) → Grows n (f s n)) → (ts : List Token) (n : ℕ) → Grows n (run f ts n)
unfolding run
grows_run f h [] n = le_refl n
grows_run f h (copy b ∷ ts) n = grows_prepend n (b ∷ []) (run f ts n) (grows_run f h ts n)
grows_run f h (stop s ∷ ts) n = grows_then n (f s n) (λ m. run f ts m) (h s n) (λ m. grows_run f h ts m)
grows_run f h (barred offset ∷ ts) n = le_refl n

grows_numbered : (a : Answer) (n : ℕ) → Grows n (numbered a n)
unfolding numbered
grows_numbered (Done c second) n = le_refl n
grows_numbered (Refused why first second) n = le_refl n

grows_opened : (limit : ℕ) (walked : List ℕ → ℕ → Outcome) → ((t : List ℕ) (n : ℕ) → Grows n (walked t n)) → (offset : ℕ) (name : List ℕ) (b : Bound) (n : ℕ)
    → Grows n (opened limit walked offset name b n)
unfolding opened
grows_opened limit walked h offset name (text t) n =
    pick_both (Grows n) (eqb n limit) {a = refused [] n 17 offset 0} (le_refl n) (grows_less n (suc n) (walked t (suc n)) (omega arith) (h t (suc n)))
grows_opened limit walked h offset name external n = le_refl n
grows_opened limit walked h offset name (predefined t) n = h t n
grows_opened limit walked h offset name unknown n = le_refl n

grows_answer : (s : Settings) (walked : List ℕ → ℕ → Outcome) → ((t : List ℕ) (n : ℕ) → Grows n (walked t n)) → (x : Stop) (n : ℕ) → Grows n (answer s walked x n)
unfolding answer
grows_answer s walked h (kept b) n = le_refl n
grows_answer s walked h space n = le_refl n
grows_answer s walked h (number digits) n = unfold number_outcome in grows_numbered (number_answer (char_number s.legal digits)) n
grows_answer s walked h (named offset name) n =
    pick_both (Grows n) (same_bytes name (97 ∷ 109 ∷ 112 ∷ [])) {a = done (38 ∷ []) n} (le_refl n) (grows_opened s.limit walked h offset name (s.bind name) n)
grows_answer s walked h (unterminated offset end) n = le_refl n

grows_exhausted : (x : Stop) (n : ℕ) → Grows n (exhausted x n)
unfolding exhausted
grows_exhausted x n = le_refl n

grows_walk : (s : Settings) (at : Heads) (depth : ℕ) (t : List ℕ) (n : ℕ) → Grows n (walk s at depth t n)
unfolding walk
grows_walk s at zero t n = grows_run exhausted grows_exhausted (tokens at 0 0 t) n
grows_walk s at (suc depth) t n = grows_run _ (grows_answer s _ (λ u m. grows_walk s s.inner depth u m)) (tokens at 0 0 t) n

-- ---- the walk from more openings on
abbrev pub Is17 : ℕ → Outcome → Type 0
Is17 limit (done value k) = ⊥
Is17 limit (refused before k why first second) = (why ≡ 17) × (k ≡ limit)

is17_prepend : (limit : ℕ) (front : List ℕ) (o : Outcome) → Is17 limit o → Is17 limit (prepend front o)
is17_prepend limit front (done value k) h = h
is17_prepend limit front (refused before k why first second) h = h

is17_then : (limit : ℕ) (o : Outcome) (k : ℕ → Outcome) → Is17 limit o → Is17 limit (followed o k)
is17_then limit (done value m) k h = absurd h
is17_then limit (refused before m why first second) k h = h

pub is17_summary : (limit : ℕ) (o : Outcome) → Is17 limit o → summary o ≡ fails 17 limit
unfolding summary
is17_summary limit (done value k) h = absurd h
is17_summary limit (refused before k why first second) h = ap₂ fails h.0 h.1

-- L is the limit of the walk that begins `more` openings later, M that of the other
module _ (L M more : ℕ) (fits : L ≤ M + more) where
  abbrev pub Later : Bool → ℕ → Outcome → Outcome → Type 0
  Later true k o' p = Is17 L p
  Later false k o' p = (k + more ≤ L → p ≡ o') × (L < k + more → Is17 L p)

  abbrev pub Shifted : Outcome → Outcome → Type 0
  Shifted (done value k) p = Later false k (done value (k + more)) p
  Shifted (refused before k why first second) p = Later (eqb why 17) k (refused before (k + more) why first second) p

  later_late : (t : Bool) (k : ℕ) (o' p : Outcome) → L < k + more → Is17 L p → Later t k o' p
  later_late true k o' p h e = e
  later_late false k o' p h e = (λ q. absurd (omega arith), λ q. e)

  late : (a : ℕ) (o p : Outcome) → Grows a o → L < a + more → Is17 L p → Shifted o p
  late a (done value k) p g h e = later_late false k (done value (k + more)) p (omega arith) e
  late a (refused before k why first second) p g h e = later_late (eqb why 17) k (refused before (k + more) why first second) p (omega arith) e

  -- what is done with both answers
  later_map : (f : Outcome → Outcome) → ((p : Outcome) → Is17 L p → Is17 L (f p)) → (t : Bool) (k : ℕ) (o' p : Outcome) → Later t k o' p → Later t k (f o') (f p)
  later_map f h true k o' p e = h p e
  later_map f h false k o' p e = (λ q. ap f (e.0 q), λ q. h p (e.1 q))

  shifted_prepend : (front : List ℕ) (o p : Outcome) → Shifted o p → Shifted (prepend front o) (prepend front p)
  shifted_prepend front (done value k) p h = later_map (prepend front) (is17_prepend L front) false k (done value (k + more)) p h
  shifted_prepend front (refused before k why first second) p h =
      later_map (prepend front) (is17_prepend L front) (eqb why 17) k (refused before (k + more) why first second) p h

  shifted_then : (o p : Outcome) (f g : ℕ → Outcome) → Shifted o p → ((m : ℕ) → Grows m (f m)) → ((m : ℕ) → m + more ≤ L → Shifted (f m) (g (m + more)))
      → Shifted (followed o f) (followed p g)
  shifted_then (done value k) p f g h gr s = go (leb (k + more) L) refl
    where
      go : (t : Bool) → leb (k + more) L ≡ t → Shifted (prepend value (f k)) (followed p g)
      go true e = let q = leb-true (k + more) L e in rw (h.0 q) (shifted_prepend value (f k) (g (k + more)) (s k q))
      go false e = let q = leb-false (k + more) L e in late k (prepend value (f k)) (followed p g) (grows_prepend k value (f k) (gr k)) q (is17_then L p g (h.1 q))
  shifted_then (refused before k why first second) p f g h gr s =
      later_map (λ o. followed o g) (λ o e. is17_then L o g e) (eqb why 17) k (refused before (k + more) why first second) p h

  shifted_run : (f g : Stop → ℕ → Outcome) → ((s : Stop) (n : ℕ) → Grows n (f s n)) → ((s : Stop) (n : ℕ) → n + more ≤ L → Shifted (f s n) (g s (n + more)))
      → (ts : List Token) (n : ℕ) → n + more ≤ L → Shifted (run f ts n) (run g ts (n + more))
  unfolding run
  shifted_run f g gr h [] n le = (λ q. refl, λ q. absurd (omega arith))
  shifted_run f g gr h (copy b ∷ ts) n le = shifted_prepend (b ∷ []) (run f ts n) (run g ts (n + more)) (shifted_run f g gr h ts n le)
  shifted_run f g gr h (stop s ∷ ts) n le =
      shifted_then (f s n) (g s (n + more)) (λ m. run f ts m) (λ m. run g ts m) (h s n le) (λ m. grows_run f gr ts m) (λ m q. shifted_run f g gr h ts m q)
  shifted_run f g gr h (barred offset ∷ ts) n le = (λ q. refl, λ q. absurd (omega arith))

  -- a value, or a refusal, that both give at once
  both_done : (v : List ℕ) (n : ℕ) → n + more ≤ L → Shifted (done v n) (done v (n + more))
  both_done v n le = (λ q. refl, λ q. absurd (omega arith))

  later_both : (t : Bool) (n : ℕ) (p : Outcome) → t ≡ false → n + more ≤ L → Later t n p p
  later_both true n p e le = absurd (true≢false e)
  later_both false n p e le = (λ q. refl, λ q. absurd (omega arith))

  both_refused : (n why first second : ℕ) → eqb why 17 ≡ false → n + more ≤ L → Shifted (refused [] n why first second) (refused [] (n + more) why first second)
  both_refused n why first second e le = later_both (eqb why 17) n (refused [] (n + more) why first second) e le

  module _ (st : Settings) (walkedM walkedL : List ℕ → ℕ → Outcome) (gr : (t : List ℕ) (n : ℕ) → Grows n (walkedM t n))
      (ih : (t : List ℕ) (n : ℕ) → n + more ≤ L → Shifted (walkedM t n) (walkedL t (n + more))) where
    shifted_opened : (offset : ℕ) (name : List ℕ) (b : Bound) (n : ℕ) → n + more ≤ L → Shifted (opened M walkedM offset name b n) (opened L walkedL offset name b (n + more))
    unfolding opened
    shifted_opened offset name (text t) n le = go (eqb n M) refl (eqb (n + more) L) refl
      where
        go : (x : Bool) → eqb n M ≡ x → (y : Bool) → eqb (n + more) L ≡ y
            → Shifted (pick x (refused [] n 17 offset 0) (walkedM t (suc n))) (pick y (refused [] (n + more) 17 offset 0) (walkedL t (suc (n + more))))
        go true e true f = (refl, eqb-true (n + more) L f)
        go true e false f = absurd (eqb-false (n + more) L f (let z = eqb-true n M e in omega arith))
        go false e true f = late (suc n) (walkedM t (suc n)) (refused [] (n + more) 17 offset 0) (gr t (suc n)) (let z = eqb-true (n + more) L f in omega arith) (refl, eqb-true (n + more) L f)
        go false e false f = rw (← (suc-add n more)) (ih t (suc n) (let z = eqb-false (n + more) L f in omega arith))
    shifted_opened offset name external n le = both_refused n 27 offset 0 refl le
    shifted_opened offset name (predefined t) n le = ih t n le
    shifted_opened offset name unknown n le = both_refused n 11 _ _ refl le

    shifted_answer : ((digits : List ℕ) (n : ℕ) → n + more ≤ L → Shifted (number_outcome st.legal digits n) (number_outcome st.legal digits (n + more)))
        → (x : Stop) (n : ℕ) → n + more ≤ L → Shifted (answer (relimit st M) walkedM x n) (answer (relimit st L) walkedL x (n + more))
    unfolding answer
    shifted_answer c (kept b) n le = both_done (b ∷ []) n le
    shifted_answer c space n le = both_done (32 ∷ []) n le
    shifted_answer c (number digits) n le = c digits n le
    shifted_answer c (named offset name) n le = go (same_bytes name (97 ∷ 109 ∷ 112 ∷ []))
      where
        go : (t : Bool)
            → Shifted (pick t (done (38 ∷ []) n) (opened M walkedM offset name (st.bind name) n))
            (pick t (done (38 ∷ []) (n + more)) (opened L walkedL offset name (st.bind name) (n + more)))
        go true = both_done (38 ∷ []) n le
        go false = shifted_opened offset name (st.bind name) n le
    shifted_answer c (unterminated offset end) n le = both_refused n 10 offset end refl le

  exhausted_shifted : (x : Stop) (n : ℕ) → n + more ≤ L → Shifted (exhausted x n) (exhausted x (n + more))
  unfolding exhausted
  exhausted_shifted x n le = both_refused n 16 0 0 refl le

  char_shifted : (c : CharNumber) (n : ℕ) → n + more ≤ L → Shifted (numbered (number_answer c) n) (numbered (number_answer c) (n + more))
  unfolding numbered number_answer
  char_shifted (Char c) n le = both_done (encode c) n le
  char_shifted UnexpectedSign n le = both_refused n 12 0 0 refl le
  char_shifted InvalidNumber n le = both_refused n 13 0 0 refl le
  char_shifted (InvalidCodepoint c) n le = both_refused n 14 c 0 refl le
  char_shifted IllegalCharacter n le = both_refused n 15 0 0 refl le
  char_shifted Forbidden n le = both_refused n 25 0 0 refl le

  number_shifted : (legal : ℕ → CharNumber) (digits : List ℕ) (n : ℕ) → n + more ≤ L → Shifted (number_outcome legal digits n) (number_outcome legal digits (n + more))
  unfolding number_outcome
  number_shifted legal digits n le = char_shifted (char_number legal digits) n le

  pub walk_shifted : (st : Settings) (at : Heads) (depth : ℕ) (t : List ℕ) (n : ℕ) → n + more ≤ L
      → Shifted (walk (relimit st M) at depth t n) (walk (relimit st L) at depth t (n + more))
  unfolding walk
  walk_shifted st at zero t n le = shifted_run exhausted exhausted grows_exhausted exhausted_shifted (tokens at 0 0 t) n le
  walk_shifted st at (suc depth) t n le =
      shifted_run (answer (relimit st M) (λ u m. walk (relimit st M) st.inner depth u m)) (answer (relimit st L) (λ u m. walk (relimit st L) st.inner depth u m))
      (grows_answer (relimit st M) (λ u m. walk (relimit st M) st.inner depth u m) (λ u m. grows_walk (relimit st M) st.inner depth u m))
      (shifted_answer st (λ u m. walk (relimit st M) st.inner depth u m) (λ u m. walk (relimit st L) st.inner depth u m)
      (λ u m. grows_walk (relimit st M) st.inner depth u m) (λ u m q. walk_shifted st st.inner depth u m q)
      (λ digits m q. number_shifted st.legal digits m q))
      (tokens at 0 0 t) n le

  -- what a pair gives where more openings were made before
  placed_shifted : (o p : Outcome) → Shifted o p → placed L more (summary o) ≡ summary p
  unfolding placed summary
  placed_shifted (done value k) p h = go (leb (more + k) L) refl
    where
      go : (t : Bool) → leb (more + k) L ≡ t → pick t (sized (length value) (more + k)) (fails 17 L) ≡ summary p
      go true e = let q = leb-true (more + k) L e in sym (ap summary (h.0 (omega arith)) ∙ ap (sized (length value)) (omega arith))
      go false e = let q = leb-false (more + k) L e in sym (is17_summary L p (h.1 (omega arith)))
  placed_shifted (refused before k why first second) p h = go (eqb why 17) h (leb (more + k) L) refl
    where
      go : (t : Bool) → Later t k (refused before (k + more) why first second) p → (u : Bool) → leb (more + k) L ≡ u
          → pick t (fails 17 L) (pick u (fails why (more + k)) (fails 17 L)) ≡ summary p
      go true g u e = sym (is17_summary L p g)
      go false g true e = let q = leb-true (more + k) L e in sym (ap summary (g.0 (omega arith)) ∙ ap (fails why) (omega arith))
      go false g false e = let q = leb-false (more + k) L e in sym (is17_summary L p (g.1 (omega arith)))

-- the pair of a text, used where n openings were made before
pub pair_placed : (st : Settings) (L M : ℕ) → L ≤ M → (at : Heads) (depth : ℕ) (t : List ℕ) (n : ℕ) → n ≤ L
    → placed L n (summary (walk (relimit st M) at depth t 0)) ≡ summary (walk (relimit st L) at depth t n)
pair_placed st L M le at depth t n h =
    placed_shifted L M n (omega arith) (walk (relimit st M) at depth t 0) (walk (relimit st L) at depth t n)
    (rw (zero-add n) at (walk_shifted L M n (omega arith) st at depth t 0 (omega arith)))

-- ---- a pair that is settled stays

abbrev pub Settled : Sum → Type 0
Settled (sized len openings) = Unit {0}
Settled (fails why openings) = eqb why 16 ≡ false

pub pair_settled : (s : Settings) (t : List ℕ) (d e : ℕ) → d ≤ e → Settled (pair_at s d t) → pair_at s e t ≡ pair_at s d t
unfolding pair_at summary
pair_settled s t d e le h = go (by d) refl h
  where
    by : ℕ → Outcome
    by n = walk (relimit s 1000000) s.inner n t 0

    go : (o : Outcome) → by d ≡ o → Settled (summary o) → summary (by e) ≡ summary (by d)
    go (done value m) q x = ap summary (done_on (relimit s 1000000) s.inner t 0 q le ∙ sym q)
    go (refused before m why first second) q x = ap summary (refused_on (relimit s 1000000) s.inner t 0 q x le ∙ sym q)
