-- The second stage in one pass: it is `tidied` after the leading spaces (`collapse_tidied`). A run in which every byte stays is copied
-- (`collapsing_run`), of the spaces that follow one at most stays (`collapsing_skip`), and none at the end (`collapsing_end`). Assumes nothing.
use mathlib.Core.Path.{◌≡◌, refl, sym, ap, ◌∙◌}
use Prim.Native.Nat.{ℕ, zero, suc, ◌+◌, ◌-◌, ◌≤◌, ◌<◌, min}
use native.Mathlib.Omega.{arith}
use mathlib.Core.Bool.{Bool, true, false, ◌&&◌, true≢false}
use mathlib.Core.List.{List, [], ◌∷◌, ◌++◌, append_assoc, append-nil}
use lib.ListN.{length, take, drop, length-append, length-drop}
use lib.Seq.{length-take-le, drop-drop}
use borrow.Rule.Slice.PartMut.{mid_of, put_mid}
use Rattle.text.specs.Bytes.{pick}
use Rattle.text.proofs.Bytes.{pick_both}
use Rattle.output.specs.Over.{over}
use Rattle.output.proofs.Clip.{length_over, over_more}
use Rattle.collapse.specs.Collapse.{is_space, spaces, is_empty, space_first, drop_leading, drop_trailing, single_spaces, collapse, ends}
use Rattle.collapse.specs.Stage.{goes, tidied, Stays}

-- ---- one pass

pub ends_trailing : (t : List ℕ) → ends (drop_trailing t) ≡ ends t
unfolding drop_trailing ends is_empty
ends_trailing [] = refl
ends_trailing (b ∷ bs) = go (is_space b) refl (drop_trailing bs)
  where
    go : (s : Bool) → is_space b ≡ s → (rest : List ℕ) → ends (pick (s && is_empty rest) [] (b ∷ rest)) ≡ s
    go true e [] = refl
    go true e (c ∷ cs) = e
    go false e rest = e

tidied_is : (t : List ℕ) → single_spaces (drop_trailing t) ≡ tidied t
unfolding single_spaces drop_trailing tidied is_empty space_first ends
tidied_is [] = refl
tidied_is (b ∷ bs) = go (is_space b) refl (drop_trailing bs) refl (tidied_is bs)
  where
    go : (s : Bool) → is_space b ≡ s → (rest : List ℕ) → drop_trailing bs ≡ rest → single_spaces (drop_trailing bs) ≡ tidied bs
        → single_spaces (pick (s && is_empty rest) [] (b ∷ rest)) ≡ pick (s && ends bs) (tidied bs) (b ∷ tidied bs)
    go true e [] q ih = rw (sym (ends_trailing bs), q) (ap single_spaces (sym q) ∙ ih)
    go true e (c ∷ cs) q ih = rw (e, sym (ends_trailing bs), sym ih, q)
    go false e rest q ih = rw (e, sym ih, q)

pub collapse_tidied : (t : List ℕ) → collapse t ≡ tidied (drop (spaces t) t)
unfolding collapse drop_leading
collapse_tidied t = tidied_is (drop (spaces t) t)

-- nothing is added
tidied_shorter : (l : List ℕ) → length (tidied l) ≤ length l
unfolding tidied
tidied_shorter [] = omega arith
tidied_shorter (b ∷ bs) =
    pick_both (λ (l : List ℕ). length l ≤ suc (length bs)) (is_space b && ends bs) {a = tidied bs} {b = b ∷ tidied bs}
    (omega (arith, tidied_shorter bs)) (omega (arith, tidied_shorter bs))

pub collapse_shorter : (t : List ℕ) → length (collapse t) ≤ length t
collapse_shorter t = omega (arith, ap length (collapse_tidied t), tidied_shorter (drop (spaces t) t), length-drop (spaces t) t)

-- ---- runs that stay

run_tidied : (l : List ℕ) (n : ℕ) → n ≤ length l → ((m : ℕ) → m < n → goes (drop m l) ≡ false) → tidied l ≡ take n l ++ tidied (drop n l)
unfolding tidied goes
run_tidied l zero h f = refl
run_tidied [] (suc n) h f = absurd (omega (arith, h))
run_tidied (b ∷ bs) (suc n) h f =
    let e : is_space b && ends bs ≡ false = f 0 (omega arith) in
    rw e (ap (λ (l : List ℕ). b ∷ l) (run_tidied bs n (omega (arith, h)) (λ m g. f (suc m) (omega (arith, g)))))

pub stays_of : (t : List ℕ) (i n : ℕ) → i + n ≤ length t → ((m : ℕ) → m < n → goes (drop (i + m) t) ≡ false) → Stays t i (i + n)
stays_of t i n h f =
    record { from = omega arith; to = h; none = λ k a b. let q : i + (k - i) ≡ k = omega (arith, a) in rw q at (f (k - i) (omega (arith, a, b))) }

-- ---- the spaces between two runs

spaces_le : (l : List ℕ) → spaces l ≤ length l
unfolding spaces
spaces_le [] = omega arith
spaces_le (b ∷ bs) = go (is_space b) (spaces_le bs)
  where
    go : (s : Bool) → spaces bs ≤ length bs → pick s (suc (spaces bs)) 0 ≤ suc (length bs)
    go true h = omega (arith, h)
    go false h = omega arith

pub spaces_fit : (t : List ℕ) (i : ℕ) → i ≤ length t → i + spaces (drop i t) ≤ length t
spaces_fit t i h = omega (arith, spaces_le (drop i t), length-drop i t, h)

-- all of them go but the last
skip_tidied : (l : List ℕ) (n : ℕ) → spaces l ≡ suc n → tidied l ≡ tidied (drop n l)
unfolding spaces tidied ends
skip_tidied l zero e = refl
skip_tidied [] (suc n) e = refl
skip_tidied (b ∷ []) (suc n) e = absurd (go (is_space b) e)
  where
    go : (s : Bool) → pick s 1 0 ≡ suc (suc n) → ⊥
    go true q = omega (arith, q)
    go false q = omega (arith, q)
skip_tidied (b ∷ c ∷ cs) (suc n) e = go (is_space b) refl (is_space c) refl (λ q. skip_tidied (c ∷ cs) n q)
  where
    go : (s : Bool) → is_space b ≡ s → (u : Bool) → is_space c ≡ u → (spaces (c ∷ cs) ≡ suc n → tidied (c ∷ cs) ≡ tidied (drop n (c ∷ cs)))
        → pick (s && u) (tidied (c ∷ cs)) (b ∷ tidied (c ∷ cs)) ≡ tidied (drop n (c ∷ cs))
    go true p true q ih = ih (let z : suc (spaces (c ∷ cs)) ≡ suc (suc n) = rw p at e in omega (arith, z))
    go true p false q ih = absurd (let z : 1 ≡ suc (suc n) = rw (p, q) at e in omega (arith, z))
    go false p u q ih = absurd (let z : 0 ≡ suc (suc n) = rw p at e in omega (arith, z))

-- at the end the last one too
all_tidied : (l : List ℕ) → spaces l ≡ length l → tidied l ≡ []
unfolding spaces tidied ends
all_tidied [] e = refl
all_tidied (b ∷ bs) e = go (is_space b) refl (λ q. all_tidied bs q)
  where
    first : (l : List ℕ) → spaces l ≡ length l → ends l ≡ true
    first [] q = refl
    first (c ∷ cs) q = one (is_space c) q
      where
        one : (u : Bool) → pick u (suc (spaces cs)) 0 ≡ suc (length cs) → u ≡ true
        one true z = refl
        one false z = absurd (omega (arith, z))

    go : (s : Bool) → is_space b ≡ s → (spaces bs ≡ length bs → tidied bs ≡ []) → pick (s && ends bs) (tidied bs) (b ∷ tidied bs) ≡ []
    go true p ih =
        let z : suc (spaces bs) ≡ suc (length bs) = rw p at e in
        let y : spaces bs ≡ length bs = omega (arith, z) in
        rw (first bs y) (ih y)
    go false p ih = absurd (let z : 0 ≡ suc (length bs) = rw p at e in omega (arith, z))

-- a space that goes stands before another, unless the text ends
goes_two : (l : List ℕ) → goes l ≡ true → spaces l < length l → 2 ≤ spaces l
unfolding goes spaces ends
goes_two [] e h = absurd (true≢false (sym e))
goes_two (b ∷ []) e h = go (is_space b) e h
  where
    go : (s : Bool) → s && true ≡ true → pick s 1 0 < 1 → 2 ≤ pick s 1 0
    go true q k = absurd (omega (arith, k))
    go false q k = absurd (true≢false (sym q))
goes_two (b ∷ c ∷ cs) e h = go (is_space b) (is_space c) e
  where
    go : (s u : Bool) → s && u ≡ true → 2 ≤ pick s (suc (pick u (suc (spaces cs)) 0)) 0
    go true true q = omega arith
    go true false q = absurd (true≢false (sym q))
    go false u q = absurd (true≢false (sym q))

-- ---- the pass over a value

-- the first `i` bytes of the value have given the first `at` of the result, and what fits of these lies in the output
pub record Collapsing (value old out : List ℕ) (at i : ℕ) : Type 0 where
  pub front : List ℕ
  pub size : at ≡ length front
  pub whole : collapse value ≡ front ++ tidied (drop i value)
  pub holds : out ≡ over front old
  pub to : i ≤ length value
  pub under : at ≤ i

pub collapsing_start : (value old : List ℕ) {i : ℕ} → i ≡ 0 + spaces (drop 0 value) → Collapsing value old old 0 i
collapsing_start value old {i} e =
    record {
      front = [];
      size = refl;
      whole = collapse_tidied value ∙ ap (λ (n : ℕ). tidied (drop n value)) (let q : spaces value ≡ i = omega (arith, e) in q);
      holds = refl;
      to = omega (arith, e, spaces_le value);
      under = omega arith;
    }

module _ {value old out : List ℕ} {at i : ℕ} (c : Collapsing value old out at i) where
  -- the output keeps its length
  pub collapsing_length : length out ≡ length old
  collapsing_length = ap length c.holds ∙ length_over c.front old

  -- a run more, by a call that is lent the rest of the output
  pub collapsing_run : {e room : ℕ} {part : List ℕ} → Stays value i e → room ≡ min at (length out)
      → part ≡ over (mid_of i (e - i) value) (mid_of room (length out - room) out)
      → Collapsing value old (put_mid room (length out - room) out part) (at + (e - i)) e
  collapsing_run {e} {room} {part} s r p =
      let run = mid_of i (e - i) value in
      let q : i + (e - i) ≡ e = omega (arith, s.from) in
      let n : length run ≡ e - i = length-take-le (e - i) (drop i value) (omega (arith, length-drop i value, s.to)) in
      let rest : tidied (drop i value) ≡ run ++ tidied (drop e value) =
      run_tidied (drop i value) (e - i) (omega (arith, length-drop i value, s.to))
      (λ m h. ap goes (drop-drop m i value) ∙ s.none (i + m) (omega arith) (omega (arith, h, s.from)))
      ∙ ap (λ (l : List ℕ). run ++ tidied l) (drop-drop (e - i) i value ∙ ap (λ (k : ℕ). drop k value) q) in
      record {
        front = c.front ++ run;
        size = omega (arith, c.size, n, length-append c.front run);
        whole = c.whole ∙ ap (λ (l : List ℕ). c.front ++ l) rest ∙ sym (append_assoc c.front run (tidied (drop e value)));
        holds = over_more c.front run old c.holds c.size r p;
        to = s.to;
        under = omega (arith, c.under, s.from);
      }

  -- the spaces after it, up to the last, where a token follows
  pub collapsing_skip : {next : ℕ} → (i < length value → goes (drop i value) ≡ true) → next ≡ i + spaces (drop i value) → (next ≡ length value → ⊥)
      → (i < next - 1) × Collapsing value old out at (next - 1)
  collapsing_skip {next} g e h =
      let fits : next ≤ length value = omega (arith, e, spaces_fit value i c.to) in
      let less : next < length value = omega (arith, fits, h) in
      let two : 2 ≤ spaces (drop i value) = goes_two (drop i value) (g (omega (arith, less, e))) (omega (arith, less, e, length-drop i value)) in
      let count = spaces (drop i value) - 1 in
      let n : spaces (drop i value) ≡ suc count = omega (arith, two) in
      let q : i + count ≡ next - 1 = omega (arith, e, two) in (
        omega (arith, e, two),
        record {
          front = c.front;
          size = c.size;
          whole =
              c.whole
              ∙ ap (λ (l : List ℕ). c.front ++ l) (skip_tidied (drop i value) count n ∙ ap tidied (drop-drop count i value ∙ ap (λ (k : ℕ). drop k value) q));
          holds = c.holds;
          to = omega (arith, fits);
          under = omega (arith, c.under, e, two);
        },
      )

  -- or none, where the value ends
  pub collapsing_end : {next : ℕ} → next ≡ i + spaces (drop i value) → next ≡ length value → (at ≡ length (collapse value)) × (out ≡ over (collapse value) old)
  collapsing_end {next} e h =
      let all : spaces (drop i value) ≡ length (drop i value) = omega (arith, e, h, length-drop i value, c.to) in
      let done : collapse value ≡ c.front = c.whole ∙ ap (λ (l : List ℕ). c.front ++ l) (all_tidied (drop i value) all) ∙ append-nil c.front in
      (c.size ∙ ap length (sym done), c.holds ∙ ap (λ (l : List ℕ). over l old) (sym done))
