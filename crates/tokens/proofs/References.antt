-- The reference whose `&` is at `i` and whose name ends at `e`: what stop it is, and where the next token is. Assumes nothing.
use mathlib.Core.Path.{◌≡◌, refl, sym, ap, ◌∙◌}
use mathlib.Core.Logic.{◌≢◌}
use mathlib.Core.Bool.{Bool}
use mathlib.Core.List.{List, [], ◌∷◌}
use Prim.Native.Nat.{ℕ, zero, suc, ◌+◌, ◌-◌, ◌≤◌, ◌<◌}
use native.Mathlib.Omega.{arith}
use native.Mathlib.Numerals.{add-one}
use lib.ListN.{length, get_or, take, drop, length-drop}
use lib.Seq.{drop-cons, length-take-le}
use borrow.Author.Tests.{eq-eqb, ne_eqb}
use Rattle.tokens.specs.Tokens.{Head, head, stop, number, named, unterminated, name_at, reference_to, reference_at}
use Rattle.tokens.specs.Walking.{NameEnd}

to_number : (offset b : ℕ) (bs : List ℕ) → b ≡ 35 → reference_to offset (b ∷ bs) (b ∷ bs) ≡ head (stop (number bs)) (suc (suc (length bs)))
unfolding reference_to
to_number offset b bs e = rw (eq-eqb b 35 e)

to_name : (offset : ℕ) (name : List ℕ) → get_or name 0 0 ≢ 35 → reference_to offset name name ≡ head (stop (named offset name)) (suc (length name))
unfolding reference_to
to_name offset [] e = refl
to_name offset (b ∷ bs) e = rw (ne_eqb b 35 e)

module _ (inner : Bool) (text : List ℕ) (i e : ℕ) (n : NameEnd inner text (i + 1) e) where
  -- the head at `i`
  abbrev pub reference : Head
  reference = reference_at i (drop (i + 1) text) (name_at inner (drop (i + 1) text))

  pub reference_none : e ≡ length text → reference ≡ head (stop (unterminated i e)) 0
  unfolding reference_at
  reference_none q =
      let z : i + suc (length (drop (i + 1) text)) ≡ e = rw length-drop (omega (arith, n.from)) in
      rw (n.none q, z)

  module _ (h : e < length text) where
    abbrev pub name_of : List ℕ
    name_of = take (e - (i + 1)) (drop (i + 1) text)

    pub name_size : length name_of ≡ e - (i + 1)
    name_size = length-take-le (e - (i + 1)) (drop (i + 1) text) (rw length-drop (omega arith))

    ends : reference ≡ reference_to i name_of name_of
    unfolding reference_at
    ends = rw (n.name h)

    -- a `#` is not the `;` that ends the name
    pub digits_from : get_or text (i + 1) 0 ≡ 35 → i + 1 + 1 ≤ e
    digits_from b = go (e - (i + 1)) refl
      where
        go : (k : ℕ) → e - (i + 1) ≡ k → i + 1 + 1 ≤ e
        go (suc k) q = omega arith
        go zero q =
            let z : i + 1 ≡ e = omega (arith, n.from) in
            let s : get_or text e 0 ≡ 59 = n.semicolon h in
            let y : get_or text e 0 ≡ 35 = rw z at b in
            absurd (omega arith)

    pub reference_number : get_or text (i + 1) 0 ≡ 35 → reference ≡ head (stop (number (take (e - (i + 1 + 1)) (drop (i + 1 + 1) text)))) (e - i)
    reference_number b =
        let l = digits_from b in
        let k : e - (i + 1) ≡ suc (e - (i + 1 + 1)) = omega arith in
        let d : drop (i + 1) text ≡ get_or text (i + 1) 0 ∷ drop (i + 1 + 1) text =
        drop-cons text (i + 1) 0 (omega arith) ∙ ap (λ (m : ℕ). get_or text (i + 1) 0 ∷ drop m text) (sym (add-one (i + 1))) in
        let m : name_of ≡ get_or text (i + 1) 0 ∷ take (e - (i + 1 + 1)) (drop (i + 1 + 1) text) = rw (k, d) in
        let s : suc (suc (length (take (e - (i + 1 + 1)) (drop (i + 1 + 1) text)))) ≡ e - i =
        rw (length-take-le (e - (i + 1 + 1)) (drop (i + 1 + 1) text) (rw length-drop (omega arith))) (omega arith) in
        ends
        ∙ ap (λ (w : List ℕ). reference_to i w w) m
        ∙ to_number i (get_or text (i + 1) 0) (take (e - (i + 1 + 1)) (drop (i + 1 + 1) text)) b
        ∙ ap (head (stop (number (take (e - (i + 1 + 1)) (drop (i + 1 + 1) text))))) s

    pub reference_named : get_or text (i + 1) 0 ≢ 35 → reference ≡ head (stop (named i name_of)) (e - i)
    reference_named b =
        let s : suc (length name_of) ≡ e - i = rw name_size (omega (arith, n.from)) in
        ends
        ∙ to_name i name_of (first (e - (i + 1)) refl)
        ∙ ap (head (stop (named i name_of))) s
      where
        first : (k : ℕ) → e - (i + 1) ≡ k → get_or (take k (drop (i + 1) text)) 0 0 ≢ 35
        first zero q z = absurd (omega arith)
        first (suc k) q z =
            let d : drop (i + 1) text ≡ get_or text (i + 1) 0 ∷ drop (suc (i + 1)) text = drop-cons text (i + 1) 0 (omega arith) in
            b (sym (ap (λ (l : List ℕ). get_or (take (suc k) l) 0 0) d) ∙ z)
