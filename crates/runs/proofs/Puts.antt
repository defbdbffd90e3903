-- A run that is copied while it is searched: what lies in the output so far. Assumes nothing.
use mathlib.Core.Path.{◌≡◌, sym, ap, ◌∙◌}
use mathlib.Core.Bool.{Bool, false}
use mathlib.Core.List.{List, [], ◌∷◌, ◌++◌}
use Prim.Native.Nat.{ℕ, suc, ◌+◌, ◌-◌, ◌≤◌, ◌<◌, min}
use native.Mathlib.Omega.{arith}
use lib.ListN.{length, take, drop, get_or, set, length-drop}
use lib.Seq.{length-take-le, take-suc, take-add, get_or-drop, drop-drop}
use borrow.Rule.Slice.PartMut.{mid_of, put_mid}
use Rattle.output.specs.Over.{over}
use Rattle.output.specs.Runs.{Plain}
use Rattle.output.proofs.Clip.{over_byte, over_more, length_over}
use Rattle.runs.specs.RunEnds.{Put}
use Rattle.runs.proofs.Search.{plain_next}

-- how long a piece is, and how it grows
pub piece_length : (text : List ℕ) (i e : ℕ) → e ≤ length text → length (take (e - i) (drop i text)) ≡ e - i
piece_length text i e h = length-take-le (e - i) (drop i text) (rw length-drop (omega arith))

piece_byte : (text : List ℕ) (i e : ℕ) → i ≤ e → e < length text → take (e - i) (drop i text) ++ (get_or text e 0 ∷ []) ≡ take (e + 1 - i) (drop i text)
piece_byte text i e h g =
    let q : suc (e - i) ≡ e + 1 - i = omega arith in
    let r : i + (e - i) ≡ e = omega arith in
    ap (λ (b : ℕ). take (e - i) (drop i text) ++ (b ∷ [])) (sym (get_or-drop i text (e - i) 0 ∙ ap (λ (k : ℕ). get_or text k 0) r))
    ∙ sym (take-suc (drop i text) (e - i) 0 (rw length-drop (omega arith))) ∙ ap (λ (k : ℕ). take k (drop i text)) q

-- a run and the one after it
piece_join : (text : List ℕ) (i e f : ℕ) → i ≤ e → e ≤ f → take (e - i) (drop i text) ++ take (f - e) (drop e text) ≡ take (f - i) (drop i text)
piece_join text i e f h g =
    let q : e - i + (f - e) ≡ f - i = omega arith in
    let r : i + (e - i) ≡ e = omega arith in
    ap (λ (l : List ℕ). take (e - i) (drop i text) ++ take (f - e) l) (sym (drop-drop (e - i) i text ∙ ap (λ (k : ℕ). drop k text) r))
    ∙ sym (take-add (e - i) (f - e) (drop i text)) ∙ ap (λ (k : ℕ). take k (drop i text)) q

module _ (text : List ℕ) (i : ℕ) (old : List ℕ) where
  pub put_none : Put text i i old old
  put_none =
      let q : i - i ≡ 0 = omega arith in
      rw q

  module _ {out : List ℕ} (e : ℕ) (p : Put text i e old out) where
    -- the output keeps its length
    pub put_length : length out ≡ length old
    put_length = ap length p ∙ length_over (take (e - i) (drop i text)) old

    module _ (h : i ≤ e) where
      -- one byte more, where the output reaches it
      pub put_next : {k : ℕ} → k ≡ e - i → e < length text → Put text i (e + 1) old (set out k (get_or text e 0))
      put_next {k} q g =
          let n = piece_length text i e (omega arith) in
          let b = get_or text e 0 in
          ap (λ (o : List ℕ). set o k b) p
          ∙ ap (λ (m : ℕ). set (over (take (e - i) (drop i text)) old) m b) (q ∙ sym n)
          ∙ over_byte (take (e - i) (drop i text)) old b
          ∙ ap (λ (l : List ℕ). over l old) (piece_byte text i e h g)

      module _ {f w : ℕ} {part : List ℕ} (g : e ≤ f) (l : f ≤ length text) where
        -- a piece more, by a call that is lent the rest of the output
        pub put_more : w ≡ min (e - i) (length out) → part ≡ over (take (f - e) (drop e text)) (mid_of w (length out - w) out)
            → Put text i f old (put_mid w (length out - w) out part)
        put_more least q =
            over_more (take (e - i) (drop i text)) (take (f - e) (drop e text)) old p (sym (piece_length text i e (omega arith))) least q
            ∙ ap (λ (m : List ℕ). over m old) (piece_join text i e f h g)

-- ---- the near bytes

-- what the loop over the near bytes keeps
pub record Nearby (stops : ℕ → Bool) (text : List ℕ) (i n : ℕ) (old out : List ℕ) (k : ℕ) : Type 0 where
  pub count : k ≤ n
  pub run : Plain stops text i (i + k)
  pub holds : Put text i (i + k) old out

module _ (stops : ℕ → Bool) (text : List ℕ) (i n : ℕ) (fits : i + n ≤ length text) (old : List ℕ) where
  module _ {out : List ℕ} {k : ℕ} (b : Nearby stops text i n old out k) where
    pub nearby_next : k < n → stops (get_or text (i + k) 0) ≡ false → Nearby stops text i n old (set out k (get_or text (i + k) 0)) (k + 1)
    nearby_next h e =
        let q : i + k + 1 ≡ i + (k + 1) = omega arith in
        record {
          count = omega arith;
          run = plain_next stops text i k (omega arith) b.run e;
          holds = rw q at (put_next text i old (i + k) b.holds (omega arith) {k = k} (omega arith) (omega arith));
        }
