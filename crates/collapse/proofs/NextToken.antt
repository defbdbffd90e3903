-- What a call for the next token finds (`token_outside`, `token_none`, `token_some`), and what it answers (`token_halts`, `token_passes`). Assumes nothing.
use mathlib.Core.Path.{◌≡◌, refl, sym, ap, ◌∙◌}
use Prim.Native.Nat.{ℕ, zero, suc, ◌+◌, ◌-◌, ◌≤◌, ◌<◌}
use native.Mathlib.Omega.{arith}
use mathlib.Core.Bool.{Bool, true, false}
use mathlib.Core.List.{List, [], ◌∷◌}
use lib.ListN.{length, drop, get_or, length-drop, drop_of_length-le}
use lib.Seq.{get_or-drop}
use lib.Dec.{ltb}
use borrow.Author.Tests.{ltb-true, ltb-false}
use Rattle.text.specs.Bytes.{pick}
use Rattle.text.proofs.Bytes.{contrary}
use Rattle.runs.specs.RunEnds.{RunEnd}
use Rattle.text.specs.Call.{text_check}
use Rattle.text.specs.Answers.{Answer}
use Rattle.text.specs.Answers.{Done, Refused}
use Rattle.utils.specs.CData.{outside, piece_answer}
use Rattle.utils.specs.CData.{part, no_more, outside_at}
use Rattle.collapse.specs.Collapse.{is_space, spaces}
use Rattle.collapse.specs.NextToken.{token_size, found, token_at, token_from, next_token}
use Rattle.collapse.specs.Checked.{moved, after_check, token_answer}
use Rattle.collapse.specs.declared.Found.{Found}

-- the bytes before the first space
size_run : (l : List ℕ) (n : ℕ) → n ≤ length l → ((m : ℕ) → m < n → is_space (get_or l m 0) ≡ false) → (n < length l → is_space (get_or l n 0) ≡ true)
    → token_size l ≡ n
unfolding token_size
size_run [] n h f g = omega (arith, h)
size_run (b ∷ bs) zero h f g = let e : is_space b ≡ true = g (omega arith) in rw e
size_run (b ∷ bs) (suc n) h f g =
    let e : is_space b ≡ false = f 0 (omega arith) in
    rw e (ap suc (size_run bs n (omega (arith, h)) (λ m k. f (suc m) (omega (arith, k))) (λ k. g (omega (arith, k)))))

-- the byte after the spaces is none
stop_after : (l : List ℕ) → spaces l < length l → is_space (get_or l (spaces l) 0) ≡ false
unfolding spaces
stop_after [] h = absurd (omega (arith, h))
stop_after (b ∷ bs) h = go (is_space b) refl (λ k. stop_after bs k)
  where
    go : (s : Bool) → is_space b ≡ s → (spaces bs < length bs → is_space (get_or bs (spaces bs) 0) ≡ false)
        → is_space (get_or (b ∷ bs) (pick s (suc (spaces bs)) 0) 0) ≡ false
    go true e ih = ih (let k : suc (spaces bs) < suc (length bs) = rw e at h in omega (arith, k))
    go false e ih = e

module _ (t : List ℕ) (o : ℕ) where
  pub token_outside : outside t o ≡ true → found (outside_at o) o ≡ next_token t o
  unfolding next_token
  token_outside e = rw e

  module _ (inside : outside t o ≡ false) {start : ℕ} (begun : start ≡ o + spaces (drop o t)) where
    is_from : {size : ℕ} → token_size (drop start t) ≡ size → token_at o start size ≡ next_token t o
    unfolding next_token token_from
    is_from {size} q = rw (inside, sym begun, q)

    pub token_none : start ≡ length t → found no_more o ≡ next_token t o
    unfolding token_at token_size
    token_none e = is_from (ap token_size (drop_of_length-le t {i = start} (omega (arith, e))))

    -- the spaces before it were skipped, so that it has a byte at least
    pub token_some : {end : ℕ} → start < length t → RunEnd is_space t start end → found (part start (end - start)) end ≡ next_token t o
    unfolding token_at
    token_some {end} h r =
        let p = r.run in
        let first : is_space (get_or t start 0) ≡ false =
        ap (λ (n : ℕ). is_space (get_or t n 0)) begun ∙ ap is_space (sym (get_or-drop o t (spaces (drop o t)) 0))
        ∙ stop_after (drop o t) (omega (arith, begun, h, length-drop o t)) in
        let some : start < end = go first (ltb start end) refl in
        let n = end - start - 1 in
        let size : token_size (drop start t) ≡ end - start =
        size_run (drop start t) (end - start) (omega (arith, length-drop start t, p.to))
        (λ m k. ap is_space (get_or-drop start t m 0) ∙ p.none (start + m) (omega arith) (omega (arith, k)))
        (λ k. let q : start + (end - start) ≡ end = omega (arith, some) in
        ap is_space (get_or-drop start t (end - start) 0 ∙ ap (λ (j : ℕ). get_or t j 0) q) ∙ r.ends (omega (arith, k, length-drop start t, some))) in
        let q : end - start ≡ suc n = omega (arith, some) in
        let z : end ≡ start + suc n = omega (arith, some) in
        ap (λ (m : ℕ). found (part start m) end) q ∙ ap (λ (m : ℕ). found (part start (suc n)) m) z ∙ is_from (size ∙ q)
      where
        go : is_space (get_or t start 0) ≡ false → (b : Bool) → ltb start end ≡ b → start < end
        go first true e = ltb-true start end e
        go first false e =
            let same : start ≡ end = omega (arith, ltb-false start end e, r.run.from) in
            contrary (ap (λ (k : ℕ). is_space (get_or t k 0)) same ∙ r.ends (omega (arith, h, same))) first

-- ---- after the checks of the text

module _ (t : List ℕ) (o : ℕ) where
  pub token_halts : {r : Answer} {number first second : ℕ} → r ≡ text_check t → r ≡ Refused number first second → moved r o ≡ token_answer t o
  token_halts e q = ap (λ (a : Answer). moved a o) q ∙ sym (ap (λ (a : Answer). after_check a o (next_token t o)) (sym e ∙ q))

  pub token_passes : {r : Answer} {first second : ℕ} {f : Found} {answer : Answer} → r ≡ text_check t → r ≡ Done first second
      → f ≡ next_token t o → answer ≡ piece_answer f.piece → moved answer f.next ≡ token_answer t o
  token_passes {f = f} e q s a =
      ap (λ (x : Answer). moved x f.next) a
      ∙ ap (λ (x : Found). moved (piece_answer x.piece) x.next) s
      ∙ sym (ap (λ (x : Answer). after_check x o (next_token t o)) (sym e ∙ q))
