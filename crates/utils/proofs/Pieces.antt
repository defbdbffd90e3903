-- The whole iteration: the pieces joined are the text, none holds `]]>`, each is as long as it can be, then "no more". Assumes nothing.
use mathlib.Core.Path.{◌≡◌, refl, sym, ◌∙◌, ap, ap₂, subst}
use Prim.Native.Nat.{ℕ, zero, suc, ◌+◌, ◌-◌, ◌*◌, ◌/◌, ◌≤◌, ◌<◌}
use native.Mathlib.Omega.{arith}
use native.Mathlib.Numerals.{add-one}
use mathlib.Core.Bool.{Bool, true, false, ◌&&◌, ◌||◌}
use mathlib.Core.List.{List, [], ◌∷◌, ◌++◌, append_assoc, append-nil}
use lib.ListN.{length, take, drop, get_or, replicate, length-append, length-drop}
use lib.Seq.{take_at, drop_at, drop-drop, get_or-drop, take-append-add}
use lib.Dec.{eqb}
use borrow.Author.Tests.{eq-eqb, ne_eqb, le-ltb}
use Rattle.text.specs.Bytes.{begins}
use Rattle.text.specs.Utf8.{WellFormed}
use Rattle.text.proofs.Bytes.{begins_split}
use Rattle.text.proofs.Utf8.{split_ascii, ascii_well_formed}
use Rattle.utils.proofs.Boundary.{start_inside}
use Rattle.utils.specs.CData.{closing, first_cut, stepped, piece_from, outside, cdata_step}
use Rattle.utils.specs.Pieces.{holds, pieces_in, pieces, joined, AtCut, cursor_at, calls, handed}
use Rattle.utils.specs.declared.Cursor.{Cursor}
use Rattle.utils.specs.CData.{part, no_more}
use Rattle.utils.specs.declared.Stepped.{Stepped}

-- ---- where the first cut falls

-- what the whole does not begin with, no part from its start begins with
begins_part : (p u v : List ℕ) → begins p (u ++ v) ≡ false → begins p u ≡ false
begins_part [] u v e = e
begins_part (p ∷ ps) [] v e = refl
begins_part (p ∷ ps) (b ∷ bs) v e = go (eqb b p) (begins_part ps bs v) e
  where
    go : (w : Bool) → (begins ps (bs ++ v) ≡ false → begins ps bs ≡ false) → w && begins ps (bs ++ v) ≡ false → w && begins ps bs ≡ false
    go true ih f = ih f
    go false ih f = refl

-- a text with no cut, or one whose first cut stands behind `xs` and `]]`
data Cut (t : List ℕ) : Type 0 where
  last : holds t ≡ false → first_cut t ≡ length t → Cut t
  cut : (xs rest : List ℕ) → t ≡ (xs ++ (93 ∷ 93 ∷ [])) ++ (62 ∷ rest) → holds (xs ++ (93 ∷ 93 ∷ [])) ≡ false → first_cut t ≡ length xs + 2 → Cut t

view_cons : (b : ℕ) (bs : List ℕ) (w : Bool) → begins closing (b ∷ bs) ≡ w → Cut bs → Cut (b ∷ bs)
unfolding first_cut
view_cons b bs true e v = cut [] (drop 3 (b ∷ bs)) (begins_split closing (b ∷ bs) e) refl (rw e)
view_cons b bs false e (last h q) = last (rw e h) (rw e (ap suc q))
view_cons b bs false e (cut xs rest s h q) =
    let f : begins closing ((b ∷ xs ++ (93 ∷ 93 ∷ [])) ++ (62 ∷ rest)) ≡ false = ap (λ (l : List ℕ). begins closing (b ∷ l)) (sym s) ∙ e in
    let g : begins closing (b ∷ xs ++ (93 ∷ 93 ∷ [])) ≡ false = begins_part closing (b ∷ xs ++ (93 ∷ 93 ∷ [])) (62 ∷ rest) f in
    cut (b ∷ xs) rest (ap (λ (l : List ℕ). b ∷ l) s) (rw g h) (rw e (omega (arith, q)))

view : (t : List ℕ) → Cut t
unfolding first_cut
view [] = last refl refl
view (b ∷ bs) = view_cons b bs (begins closing (b ∷ bs)) refl (view bs)

-- ---- the pieces, one by one

data Split (n : ℕ) (t : List ℕ) : Type 0 where
  one : holds t ≡ false → first_cut t ≡ length t → pieces_in (suc n) t ≡ t ∷ [] → Split n t
  more : (xs rest : List ℕ) → t ≡ (xs ++ (93 ∷ 93 ∷ [])) ++ (62 ∷ rest) → holds (xs ++ (93 ∷ 93 ∷ [])) ≡ false
      → first_cut t ≡ length xs + 2 → pieces_in (suc n) t ≡ (xs ++ (93 ∷ 93 ∷ [])) ∷ pieces_in n (62 ∷ rest) → Split n t

-- the lengths at a cut
front_length : (xs : List ℕ) → length (xs ++ (93 ∷ 93 ∷ [])) ≡ length xs + 2
front_length xs = length-append xs (93 ∷ 93 ∷ [])

whole_length : (t xs rest : List ℕ) → t ≡ (xs ++ (93 ∷ 93 ∷ [])) ++ (62 ∷ rest) → length t ≡ length xs + 2 + suc (length rest)
whole_length t xs rest s = ap length s ∙ length-append (xs ++ (93 ∷ 93 ∷ [])) (62 ∷ rest) ∙ ap (λ (n : ℕ). n + suc (length rest)) (front_length xs)

split_of : (n : ℕ) (t : List ℕ) → Cut t → Split n t
unfolding pieces_in
split_of n t (last h q) = one h q (rw (eq-eqb (first_cut t) (length t) q))
split_of n t (cut xs rest s h q) =
    let l : first_cut t ≡ length t → ⊥ = λ p. omega (arith, whole_length t xs rest s) in
    let f : length (xs ++ (93 ∷ 93 ∷ [])) ≡ first_cut t = front_length xs ∙ sym q in
    let x : take (first_cut t) t ≡ xs ++ (93 ∷ 93 ∷ []) = ap (take (first_cut t)) s ∙ take_at (xs ++ (93 ∷ 93 ∷ [])) (62 ∷ rest) (first_cut t) f in
    let y : drop (first_cut t) t ≡ 62 ∷ rest = ap (drop (first_cut t)) s ∙ drop_at (xs ++ (93 ∷ 93 ∷ [])) (62 ∷ rest) (first_cut t) f in
    more xs rest s h q (rw (ne_eqb (first_cut t) (length t) l) (ap₂ (λ (p r : List ℕ). p ∷ pieces_in n r) x y))

split : (n : ℕ) (t : List ℕ) → Split n t
split n t = split_of n t (view t)

-- ---- joined, they are the text

join_in : (n : ℕ) (t : List ℕ) → length t < n → joined (pieces_in n t) ≡ t
join_in zero t h = absurd (omega arith)
join_in (suc n) t h = go (split n t) (λ rest. join_in n (62 ∷ rest))
  where
    go : Split n t → ((rest : List ℕ) → length (62 ∷ rest) < n → joined (pieces_in n (62 ∷ rest)) ≡ 62 ∷ rest) → joined (pieces_in (suc n) t) ≡ t
    go (one f q e) ih = ap joined e ∙ append-nil t
    go (more xs rest s f q e) ih =
        ap joined e ∙ ap (λ (r : List ℕ). (xs ++ (93 ∷ 93 ∷ [])) ++ r) (ih rest (omega (arith, whole_length t xs rest s))) ∙ sym s

-- CDATA: the pieces joined are the text.
pub pieces_joined : (t : List ℕ) → joined (pieces t) ≡ t
unfolding pieces
pieces_joined t = join_in (length t + 1) t (omega arith)

-- ---- none holds `]]>`

free_in : (n : ℕ) (t : List ℕ) (k : ℕ) → holds (get_or (pieces_in n t) k []) ≡ false
unfolding pieces_in
free_in zero t k = refl
free_in (suc n) t k = go k (split n t) (λ rest m. free_in n (62 ∷ rest) m)
  where
    go : (k : ℕ) → Split n t → ((rest : List ℕ) (m : ℕ) → holds (get_or (pieces_in n (62 ∷ rest)) m []) ≡ false) → holds (get_or (pieces_in (suc n) t) k []) ≡ false
    go zero (one f q e) ih = rw e f
    go (suc m) (one f q e) ih = rw e
    go zero (more xs rest s f q e) ih = rw e f
    go (suc m) (more xs rest s f q e) ih = rw e (ih rest m)

-- CDATA: no piece holds `]]>`.
pub pieces_free : (t : List ℕ) (k : ℕ) → holds (get_or (pieces t) k []) ≡ false
unfolding pieces
pieces_free t k = free_in (length t + 1) t k

-- ---- how many there are

-- a piece that ends at a cut and starts with `>` has three bytes
longer : (xs rest r : List ℕ) → 62 ∷ rest ≡ (xs ++ (93 ∷ 93 ∷ [])) ++ (62 ∷ r) → 1 ≤ length xs
longer [] rest r s = absurd (let z : ◌≡◌ {A = ℕ} 62 93 = cc in omega arith)
longer (x ∷ xs) rest r s = omega arith

count_gt : (n : ℕ) (rest : List ℕ) → 3 * length (pieces_in n (62 ∷ rest)) ≤ length rest + 3
unfolding pieces_in
count_gt zero rest = omega arith
count_gt (suc n) rest = go (split n (62 ∷ rest)) (count_gt n)
  where
    go : Split n (62 ∷ rest) → ((r : List ℕ) → 3 * length (pieces_in n (62 ∷ r)) ≤ length r + 3) → 3 * length (pieces_in (suc n) (62 ∷ rest)) ≤ length rest + 3
    go (one f q e) ih = omega (arith, ap length e)
    go (more xs r s f q e) ih = omega (arith, ap length e, ih r, whole_length (62 ∷ rest) xs r s, longer xs rest r s)

count_in_lem : (n : ℕ) (t : List ℕ) → 3 * length (pieces_in n t) ≤ length t + 3
unfolding pieces_in
count_in_lem zero t = omega arith
count_in_lem (suc n) t = go (split n t)
  where
    go : Split n t → 3 * length (pieces_in (suc n) t) ≤ length t + 3
    go (one f q e) = omega (arith, ap length e)
    go (more xs r s f q e) = omega (arith, ap length e, count_gt n r, whole_length t xs r s)

-- CDATA: a text of n bytes has at most n/3 + 1 pieces.
pub pieces_count : (t : List ℕ) → length (pieces t) ≤ length t / 3 + 1
unfolding pieces
pieces_count t = omega (arith, count_in_lem (length t + 1) t)

-- ---- a piece that ends at a cut is as long as it can be

head_is : (xs rest r : List ℕ) → 62 ∷ rest ≡ (xs ++ (93 ∷ 93 ∷ [])) ++ (62 ∷ r) → xs ++ (93 ∷ 93 ∷ []) ≡ 62 ∷ drop 1 (xs ++ (93 ∷ 93 ∷ []))
head_is [] rest r s = absurd (let z : ◌≡◌ {A = ℕ} 62 93 = cc in omega arith)
head_is (x ∷ xs) rest r s = let z : x ≡ 62 = cc in ap (λ (b : ℕ). b ∷ (xs ++ (93 ∷ 93 ∷ []))) z

-- what follows a cut starts with `>`
gt_first : (n : ℕ) (rest : List ℕ) → 0 < length (pieces_in n (62 ∷ rest))
    → get_or (pieces_in n (62 ∷ rest)) 0 [] ≡ 62 ∷ drop 1 (get_or (pieces_in n (62 ∷ rest)) 0 [])
unfolding pieces_in
gt_first zero rest h = absurd (omega arith)
gt_first (suc n) rest h = go (split n (62 ∷ rest))
  where
    go : Split n (62 ∷ rest) → get_or (pieces_in (suc n) (62 ∷ rest)) 0 [] ≡ 62 ∷ drop 1 (get_or (pieces_in (suc n) (62 ∷ rest)) 0 [])
    go (one f q e) = rw e
    go (more xs r s f q e) = rw e (head_is xs rest r s)

cut_in : (n : ℕ) (t : List ℕ) (k : ℕ) → k + 1 < length (pieces_in n t) → AtCut (get_or (pieces_in n t) k []) (get_or (pieces_in n t) (k + 1) [])
unfolding pieces_in
cut_in zero t k h = absurd (omega arith)
cut_in (suc n) t k h = rw (add-one k) (go k (split n t) (omega arith) (λ rest m. rw (add-one m) at (cut_in n (62 ∷ rest) m)))
  where
    go : (k : ℕ) → Split n t → suc k < length (pieces_in (suc n) t)
        → ((rest : List ℕ) (m : ℕ) → suc m < length (pieces_in n (62 ∷ rest)) → AtCut (get_or (pieces_in n (62 ∷ rest)) m []) (get_or (pieces_in n (62 ∷ rest)) (suc m) []))
        → AtCut (get_or (pieces_in (suc n) t) k []) (get_or (pieces_in (suc n) t) (suc k) [])
    go k (one f q e) l ih = absurd (omega (arith, ap length e))
    go zero (more xs rest s f q e) l ih = rw e (record { front = xs; rest = _; ends = refl; begun = gt_first n rest (omega (arith, ap length e)) })
    go (suc m) (more xs rest s f q e) l ih = rw e (ih rest m (omega (arith, ap length e)))

-- CDATA: a piece that is not the last ends with `]]`, and the next starts with `>`.
pub pieces_cut : (t : List ℕ) (k : ℕ) → k + 1 < length (pieces t) → AtCut (get_or (pieces t) k []) (get_or (pieces t) (k + 1) [])
unfolding pieces
pieces_cut t k h = cut_in (length t + 1) t k h

holds_after : (u v : List ℕ) → holds v ≡ true → holds (u ++ v) ≡ true
holds_after [] v e = e
holds_after (b ∷ bs) v e = or_true (begins closing (b ∷ bs ++ v)) (holds_after bs v e)
  where
    or_true : (w : Bool) {r : Bool} → r ≡ true → w || r ≡ true
    or_true true f = refl
    or_true false f = f

-- CDATA: a piece is as long as it can be: every longer part from the same start holds `]]>`.
pub first_longest : (t : List ℕ) (n : ℕ) → first_cut t < n → n ≤ length t → holds (take n t) ≡ true
first_longest t n h k = go (view t)
  where
    go : Cut t → holds (take n t) ≡ true
    go (last f q) = absurd (omega arith)
    go (cut xs rest s f q) =
        let m : ℕ = suc (suc (suc (n - (length xs + 3)))) in
        let e : length xs + m ≡ n = omega arith in
        let l : take n t ≡ xs ++ take m (93 ∷ 93 ∷ 62 ∷ rest) =
        ap (take n) (s ∙ append_assoc xs (93 ∷ 93 ∷ []) (62 ∷ rest)) ∙ ap (λ (j : ℕ). take j (xs ++ (93 ∷ 93 ∷ 62 ∷ rest))) (sym e)
        ∙ take-append-add xs (93 ∷ 93 ∷ 62 ∷ rest) m in
        rw l (holds_after xs (take m (93 ∷ 93 ∷ 62 ∷ rest)) refl)

-- ---- the calls hand over these pieces, and then no more

step_is : (t : List ℕ) (o : ℕ) → outside t o ≡ false → cdata_step t (cursor_at o 0) ≡ piece_from o (drop o t)
unfolding cdata_step
step_is t o h = rw h

step_no_more : (t : List ℕ) (o : ℕ) → outside t o ≡ false → cdata_step t (cursor_at o 1) ≡ stepped no_more o 1
unfolding cdata_step
step_no_more t o h = rw h

piece_last : (o : ℕ) (u : List ℕ) → first_cut u ≡ length u → piece_from o u ≡ stepped (part o (length u)) o 1
unfolding piece_from
piece_last o u q = rw (eq-eqb (first_cut u) (length u) q)

piece_cut : (o : ℕ) (u : List ℕ) → (first_cut u ≡ length u → ⊥) → piece_from o u ≡ stepped (part o (first_cut u)) (o + first_cut u) 0
unfolding piece_from
piece_cut o u q = rw (ne_eqb (first_cut u) (length u) q)

more_none : (t : List ℕ) (o : ℕ) → outside t o ≡ false → (j : ℕ) → calls j t (cursor_at o 1) ≡ replicate j (stepped no_more o 1)
unfolding calls
more_none t o h zero = refl
more_none t o h (suc j) = rw (step_no_more t o h) (ap (λ (l : List Stepped). stepped no_more o 1 ∷ l) (more_none t o h j))

-- a byte below 80 stands at the offset
at_gt : (t rest : List ℕ) (o : ℕ) → drop o t ≡ 62 ∷ rest → outside t o ≡ false
unfolding outside
at_gt t rest o e =
    let z : o + 0 ≡ o = omega arith in
    let g : get_or t o 0 ≡ 62 = ap (λ (i : ℕ). get_or t i 0) (sym z) ∙ sym (get_or-drop o t 0 0) ∙ ap (λ (l : List ℕ). get_or l 0 0) e in
    rw (le-ltb (length t) o (omega (arith, length-drop o t, ap length e)), g)

handed_cons : (o : ℕ) (p : List ℕ) (ps : List (List ℕ)) (j : ℕ) → 0 < length ps
    → handed o (p ∷ ps) j ≡ stepped (part o (length p)) (o + length p) 0 ∷ handed (o + length p) ps j
unfolding handed
handed_cons o p [] j h = absurd (omega arith)
handed_cons o p (q ∷ ps) j h = refl

some_in : (n : ℕ) (t : List ℕ) → 0 < n → 0 < length (pieces_in n t)
some_in zero t h = absurd (omega arith)
some_in (suc n) t h = go (split n t)
  where
    go : Split n t → 0 < length (pieces_in (suc n) t)
    go (one f q e) = omega (arith, ap length e)
    go (more xs r s f q e) = omega (arith, ap length e)

-- there is one at least: of the empty text the empty one
pub pieces_some : (t : List ℕ) → 1 ≤ length (pieces t)
unfolding pieces
pieces_some t = some_in (length t + 1) t (omega arith)

call_first : (m : ℕ) (t : List ℕ) (c : Cursor) (s : Stepped) → cdata_step t c ≡ s → calls (suc m) t c ≡ s ∷ calls m t s.next
unfolding calls
call_first m t c s e = ap (λ (r : Stepped). r ∷ calls m t r.next) e

hand : (n : ℕ) (t u : List ℕ) (o j count : ℕ) → drop o t ≡ u → outside t o ≡ false → length u < n → count ≡ length (pieces_in n u) + j
    → calls count t (cursor_at o 0) ≡ handed o (pieces_in n u) j
hand zero t u o j count d h l c = absurd (omega arith)
hand (suc n) t u o j count d h l c = go (split n u) (hand n t)
  where
    at_piece : cdata_step t (cursor_at o 0) ≡ piece_from o u
    at_piece = step_is t o h ∙ ap (piece_from o) d

    go : Split n u → ((u : List ℕ) (o j count : ℕ) → drop o t ≡ u → outside t o ≡ false → length u < n → count ≡ length (pieces_in n u) + j
        → calls count t (cursor_at o 0) ≡ handed o (pieces_in n u) j) → calls count t (cursor_at o 0) ≡ handed o (pieces_in (suc n) u) j
    go (one f q e) ih =
        let s : count ≡ suc j = omega (arith, ap length e) in
        ap (λ (m : ℕ). calls m t (cursor_at o 0)) s
        ∙ call_first j t (cursor_at o 0) (stepped (part o (length u)) o 1) (at_piece ∙ piece_last o u q)
        ∙ ap (λ (r : List Stepped). stepped (part o (length u)) o 1 ∷ r) (more_none t o h j)
        ∙ (unfold handed in ap (λ (ps : List (List ℕ)). handed o ps j) (sym e))
    go (more xs rest s f q e) ih =
        let p : List ℕ = xs ++ (93 ∷ 93 ∷ []) in
        let k : length p ≡ first_cut u = front_length xs ∙ sym q in
        let w : length u ≡ length xs + 2 + suc (length rest) = whole_length u xs rest s in
        let v : 0 < length (pieces_in n (62 ∷ rest)) = some_in n (62 ∷ rest) (omega arith) in
        let m : count ≡ suc (length (pieces_in n (62 ∷ rest)) + j) = omega (arith, ap length e) in
        let y : drop (o + first_cut u) t ≡ 62 ∷ rest =
        sym (drop-drop (first_cut u) o t) ∙ ap (drop (first_cut u)) (d ∙ s) ∙ drop_at p (62 ∷ rest) (first_cut u) k in
        ap (λ (i : ℕ). calls i t (cursor_at o 0)) m
        ∙ call_first (length (pieces_in n (62 ∷ rest)) + j) t (cursor_at o 0) (stepped (part o (first_cut u)) (o + first_cut u) 0)
        (at_piece ∙ piece_cut o u (λ z. omega (arith, w)))
        ∙ ap (λ (r : List Stepped). stepped (part o (first_cut u)) (o + first_cut u) 0 ∷ r)
        (ih (62 ∷ rest) (o + first_cut u) j (length (pieces_in n (62 ∷ rest)) + j) y (at_gt t rest (o + first_cut u) y) (omega arith) refl)
        ∙ ap (λ (i : ℕ). stepped (part o i) (o + i) 0 ∷ handed (o + i) (pieces_in n (62 ∷ rest)) j) (sym k)
        ∙ sym (ap (λ (ps : List (List ℕ)). handed o ps j) e ∙ handed_cons o p (pieces_in n (62 ∷ rest)) j v)

-- CDATA: from offset 0, not finished: the pieces in turn, then "no more" as often as it is called, with the cursor left as it is.
pub calls_handed : (t : List ℕ) (j : ℕ) → WellFormed t → calls (length (pieces t) + j) t (cursor_at 0 0) ≡ handed 0 (pieces t) j
unfolding pieces
calls_handed t j w = hand (length t + 1) t t 0 j (length (pieces_in (length t + 1) t) + j) refl (start_inside t w) (omega arith) refl

-- ---- UTF-8

whole_in : (n : ℕ) (t : List ℕ) (k : ℕ) → WellFormed t → WellFormed (get_or (pieces_in n t) k [])
unfolding pieces_in
whole_in zero t k w = ascii_well_formed [] refl
whole_in (suc n) t k w = go k (split n t) (λ rest m. whole_in n (62 ∷ rest) m)
  where
    go : (k : ℕ) → Split n t → ((rest : List ℕ) (m : ℕ) → WellFormed (62 ∷ rest) → WellFormed (get_or (pieces_in n (62 ∷ rest)) m []))
        → WellFormed (get_or (pieces_in (suc n) t) k [])
    go zero (one f q e) ih = rw e w
    go (suc m) (one f q e) ih = rw e (ascii_well_formed [] refl)
    go zero (more xs rest s f q e) ih = rw e (split_ascii (xs ++ (93 ∷ 93 ∷ [])) rest 62 (omega arith) (subst WellFormed s w)).0
    go (suc m) (more xs rest s f q e) ih =
        let r : (xs ++ (93 ∷ 93 ∷ [])) ++ (62 ∷ rest) ≡ (xs ++ (93 ∷ [])) ++ (93 ∷ 62 ∷ rest) =
        append_assoc xs (93 ∷ 93 ∷ []) (62 ∷ rest) ∙ sym (append_assoc xs (93 ∷ []) (93 ∷ 62 ∷ rest)) in
        rw e (ih rest m (split_ascii (xs ++ (93 ∷ [])) (62 ∷ rest) 93 (omega arith) (subst WellFormed (s ∙ r) w)).1)

-- CDATA: each piece of a UTF-8 text is UTF-8.
pub pieces_whole : (t : List ℕ) (k : ℕ) → WellFormed t → WellFormed (get_or (pieces t) k [])
unfolding pieces
pieces_whole t k w = whole_in (length t + 1) t k w
