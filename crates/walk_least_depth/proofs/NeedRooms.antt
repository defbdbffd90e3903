-- The room of 148 words: its front is put back (`room_front`), a text is made known (`room_known`), both (`room_kept`); more is written
-- (`room_more`); words that are all 0 (`room_zeros`). Assumes nothing.
use mathlib.Core.Path.{◌≡◌, refl, sym, ap, subst, ◌∙◌}
use mathlib.Core.Logic.{◌≢◌}
use mathlib.Core.Bool.{Bool, true, false}
use mathlib.Core.List.{List, [], ◌∷◌, ◌++◌}
use Prim.Native.Nat.{ℕ, zero, suc, ◌+◌, ◌-◌, ◌≤◌, ◌<◌}
use native.Mathlib.Omega.{arith}
use lib.Dec.{eqb}
use lib.ListN.{length, get_or, set, take, drop, length-append, length-drop, length-set, drop_of_length-le}
use lib.Seq.{length-take-le, take_at, get_or-append-add, get_or-drop, get_or-take, take-set-le, get_or-set_same, get_or-set_other}
use borrow.Author.Tests.{eqb-true, eqb-false}
use Rattle.entity.specs.Commands.{command_text}
use Rattle.attribute.specs.Walk.{Settings}
use Rattle.table_index.specs.Index.{Ready}
use Rattle.table_index.proofs.IndexStates.{ready_none}
use Rattle.memory.specs.Slots.{slot_of, Memory, Kept}
use Rattle.memory.proofs.Keeping.{kept_length, memory_more, memory_kept, memory_zeros}
use Rattle.walk_depths.specs.Summary.{Known}
use Rattle.walk_least_depth.specs.Allowance.{Knows, Room, known_in, Remembers}

-- ---- the words after the front

back_word : (front words : List ℕ) → length front ≡ 84 → (j : ℕ) → 84 ≤ j → get_or (front ++ drop 84 words) j 0 ≡ get_or words j 0
back_word front words n j h =
    let a : j ≡ length front + (j - 84) = omega (arith, n, h) in
    let b : 84 + (j - 84) ≡ j = omega (arith, h) in
    ap (λ (i : ℕ). get_or (front ++ drop 84 words) i 0) a
    ∙ get_or-append-add front (drop 84 words) (j - 84) 0
    ∙ get_or-drop 84 words (j - 84) 0
    ∙ ap (λ (i : ℕ). get_or words i 0) b

pub front_length : (front words : List ℕ) → length front ≡ 84 → length words ≡ 148 → length (front ++ drop 84 words) ≡ 148
front_length front words n h = length-append front (drop 84 words) ∙ omega (arith, n, length-drop 84 words, h)

module _ (s : Settings) (list pool : List ℕ) where
  knows_same : (old new : List ℕ) → ((j : ℕ) → 84 ≤ j → get_or new j 0 ≡ get_or old j 0) → Knows s list pool old → Knows s list pool new
  knows_same old new same known k c h e =
      let a = same (k + 100) (omega arith) in
      let b = same (k + 116) (omega arith) in
      let d = same (k + 132) (omega arith) in
      rw (a, b, d) (known k c h (sym (same (k + 84) (omega arith)) ∙ e))

  pub knows_front : (front words : List ℕ) → length front ≡ 84 → Knows s list pool words → Knows s list pool (front ++ drop 84 words)
  knows_front front words n k = knows_same words (front ++ drop 84 words) (back_word front words n) k

  pub room_front : {w : List ℕ} (front words : List ℕ) → length front ≡ 84 → length words ≡ 148 → Knows s list pool words → Memory s 0 list pool w front
      → Room s list pool w (front ++ drop 84 words)
  room_front {w} front words n h k m =
      record {
        size = front_length front words n h;
        memory = subst (λ (x : List ℕ). Memory s 0 list pool w x) (sym (take_at front (drop 84 words) 84 n)) m;
        known = knows_front front words n k;
      }

  pub room_more : {v words : List ℕ} → Room s list pool v words → (more : List ℕ) → Room s list pool (v ++ more) words
  room_more r more = record { size = r.size; memory = memory_more s 0 list pool r.memory more; known = r.known }

  -- ---- a text is made known

  module _ (words : List ℕ) (size : length words ≡ 148) (k c least len opened : ℕ) (h : k < 16) where
    abbrev w1 : List ℕ
    w1 = set words (k + 84) (c + 1)

    abbrev w2 : List ℕ
    w2 = set w1 (k + 100) least

    abbrev w3 : List ℕ
    w3 = set w2 (k + 116) len

    abbrev all : List ℕ
    all = known_in words k c least len opened

    s1 : length w1 ≡ 148
    s1 = length-set words (k + 84) (c + 1) ∙ size

    s2 : length w2 ≡ 148
    s2 = length-set w1 (k + 100) least ∙ s1

    s3 : length w3 ≡ 148
    s3 = length-set w2 (k + 116) len ∙ s2

    pub known_size : length all ≡ 148
    known_size = length-set w3 (k + 132) opened ∙ s3

    known_front : take 84 all ≡ take 84 words
    known_front =
        take-set-le 84 w3 (k + 132) opened (omega arith)
        ∙ take-set-le 84 w2 (k + 116) len (omega arith)
        ∙ take-set-le 84 w1 (k + 100) least (omega arith)
        ∙ take-set-le 84 words (k + 84) (c + 1) (omega arith)

    known_other : (j : ℕ) → j ≢ k + 84 → j ≢ k + 100 → j ≢ k + 116 → j ≢ k + 132 → get_or all j 0 ≡ get_or words j 0
    known_other j a b d e =
        get_or-set_other w3 (k + 132) j opened 0 e
        ∙ get_or-set_other w2 (k + 116) j len 0 d
        ∙ get_or-set_other w1 (k + 100) j least 0 b
        ∙ get_or-set_other words (k + 84) j (c + 1) 0 a

    known_command : get_or all (k + 84) 0 ≡ c + 1
    known_command =
        get_or-set_other w3 (k + 132) (k + 84) opened 0 (λ q. omega (arith, q))
        ∙ get_or-set_other w2 (k + 116) (k + 84) len 0 (λ q. omega (arith, q))
        ∙ get_or-set_other w1 (k + 100) (k + 84) least 0 (λ q. omega (arith, q))
        ∙ get_or-set_same words (k + 84) (c + 1) 0 (omega (arith, size, h))

    known_least : get_or all (k + 100) 0 ≡ least
    known_least =
        get_or-set_other w3 (k + 132) (k + 100) opened 0 (λ q. omega (arith, q))
        ∙ get_or-set_other w2 (k + 116) (k + 100) len 0 (λ q. omega (arith, q))
        ∙ get_or-set_same w1 (k + 100) least 0 (omega (arith, s1, h))

    known_len : get_or all (k + 116) 0 ≡ len
    known_len = get_or-set_other w3 (k + 132) (k + 116) opened 0 (λ q. omega (arith, q)) ∙ get_or-set_same w2 (k + 116) len 0 (omega (arith, s2, h))

    known_opened : get_or all (k + 132) 0 ≡ opened
    known_opened = get_or-set_same w3 (k + 132) opened 0 (omega (arith, s3, h))

    pub knows_in : Known s (command_text list pool c) least len opened → Knows s list pool words → Knows s list pool all
    knows_in x known j e l q = go (eqb j k) refl
      where
        go : (b : Bool) → eqb j k ≡ b → Known s (command_text list pool e) (get_or all (j + 100) 0) (get_or all (j + 116) 0) (get_or all (j + 132) 0)
        go true i =
            let z = eqb-true j k i in
            let same : c + 1 ≡ e + 1 = sym known_command ∙ ap (λ (n : ℕ). get_or all (n + 84) 0) (sym z) ∙ q in
            let ce : c ≡ e = omega (arith, same) in
            let a : get_or all (j + 100) 0 ≡ least = ap (λ (n : ℕ). get_or all (n + 100) 0) z ∙ known_least in
            let b : get_or all (j + 116) 0 ≡ len = ap (λ (n : ℕ). get_or all (n + 116) 0) z ∙ known_len in
            let d : get_or all (j + 132) 0 ≡ opened = ap (λ (n : ℕ). get_or all (n + 132) 0) z ∙ known_opened in
            rw (a, b, d) (subst (λ (n : ℕ). Known s (command_text list pool n) least len opened) ce x)
        go false i =
            let d : j ≢ k = eqb-false j k i in
            let at0 = known_other (j + 84) (λ y. d (omega (arith, y))) (λ y. omega (arith, y, l)) (λ y. omega (arith, y, l)) (λ y. omega (arith, y, l)) in
            let at1 = known_other (j + 100) (λ y. omega (arith, y, h)) (λ y. d (omega (arith, y))) (λ y. omega (arith, y, l)) (λ y. omega (arith, y, l)) in
            let at2 = known_other (j + 116) (λ y. omega (arith, y, h)) (λ y. omega (arith, y, h)) (λ y. d (omega (arith, y))) (λ y. omega (arith, y, l)) in
            let at3 = known_other (j + 132) (λ y. omega (arith, y, h)) (λ y. omega (arith, y, h)) (λ y. omega (arith, y, h)) (λ y. d (omega (arith, y))) in
            rw (at1, at2, at3) (known j e l (sym at0 ∙ q))

    pub room_known : {v : List ℕ} → Room s list pool v words → Known s (command_text list pool c) least len opened → Room s list pool v all
    room_known {v} r x =
        record {
          size = known_size;
          memory = subst (λ (y : List ℕ). Memory s 0 list pool v y) (sym known_front) r.memory;
          known = knows_in x r.known;
        }

  pub room_zeros : (v words : List ℕ) → length words ≡ 148 → ((k : ℕ) → get_or words k 0 ≡ 0) → Room s list pool v words
  room_zeros v words n zeros =
      record {
        size = n;
        memory =
            memory_zeros s 0 list pool v (take 84 words) (λ z. omega (arith, front)) (λ k. front_zero k (eqb (84 - k) 0) refl)
            (subst (Ready list pool) (sym (drop_of_length-le (take 84 words) {i = 84} (omega (arith, front)))) (ready_none list pool));
        known = λ k c h e. absurd (omega (arith, zeros (k + 84), e));
      }
    where
      front : length (take 84 words) ≡ 84
      front = length-take-le 84 words (omega (arith, n))

      front_zero : (k : ℕ) (b : Bool) → eqb (84 - k) 0 ≡ b → get_or (take 84 words) k 0 ≡ 0
      front_zero k true e = out (take 84 words) k (omega (arith, front, eqb-true (84 - k) 0 e))
        where
          out : (l : List ℕ) (i : ℕ) → length l ≤ i → get_or l i 0 ≡ 0
          out [] i g = refl
          out (x ∷ xs) zero g = absurd (omega (arith, g))
          out (x ∷ xs) (suc i) g = out xs i (omega (arith, g))
      front_zero k false e =
          let z = eqb-false (84 - k) 0 e in
          get_or-take 84 words k 0 (omega (arith, z)) ∙ zeros k

-- ---- both

pub room_kept : (old front : List ℕ) (slot command least place len opened : ℕ) → slot < 16 → length old ≡ 148
    → Kept (take 84 old) slot command (slot_of least place len opened) front
    → Remembers old slot command least place len opened (known_in (front ++ drop 84 old) slot command least len opened)
room_kept old front slot command least place len opened h size kept =
    let n : length front ≡ 84 = kept_length kept ∙ length-take-le 84 old (omega (arith, size)) in
    let m = front_length front old n size in
    record {
      words = known_size_of (front ++ drop 84 old) m ∙ sym size;
      keeps = λ s list pool v r d st x.
          room_known s list pool (front ++ drop 84 old) m slot command least len opened h
          (room_front s list pool front old n size r.known (memory_kept s 0 list pool r.memory h d st kept)) x;
    }
  where
    known_size_of : (words : List ℕ) → length words ≡ 148 → length (known_in words slot command least len opened) ≡ 148
    known_size_of words m =
        length-set (set (set (set words (slot + 84) (command + 1)) (slot + 100) least) (slot + 116) len) (slot + 132) opened
        ∙ length-set (set (set words (slot + 84) (command + 1)) (slot + 100) least) (slot + 116) len
        ∙ length-set (set words (slot + 84) (command + 1)) (slot + 100) least
        ∙ length-set words (slot + 84) (command + 1)
        ∙ m
