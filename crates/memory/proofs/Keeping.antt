-- The whole memory: empty at first (`memory_zeros`, `memory_none`), kept as more is written (`memory_more`), one slot or one word replaced
-- (`memory_kept`, `memory_noted`), a name looked up (`memory_indexed`), its texts forgotten (`memory_forgot`), and what it says of the table
-- (`memory_trusts`). Assumes nothing.
use mathlib.Core.Path.{◌≡◌, refl, sym, ap, subst, ◌∙◌}
use mathlib.Core.Logic.{◌≢◌}
use mathlib.Core.Bool.{Bool, true, false}
use mathlib.Core.List.{List, [], ◌∷◌, ◌++◌}
use Prim.Native.Nat.{ℕ, zero, suc, ◌+◌, ◌-◌, ◌≤◌, ◌<◌}
use native.Mathlib.Omega.{arith}
use lib.Dec.{eqb}
use lib.ListN.{length, get_or, set, take, drop, replicate, length-set, length-append, length-drop}
use lib.Seq.{get_or-set_same, get_or-set_other, get_or-take, drop-set-lt, length-take-le, take_at, drop_at}
use borrow.Rule.Slice.PartMut.{mid_of, put_mid}
use borrow.Author.Tests.{eqb-true, eqb-false}
use Rattle.text.specs.Bytes.{same_bytes}
use Rattle.text.proofs.Bytes.{pick_both}
use Rattle.output.proofs.Laid.{rest_part, rest_put}
use Rattle.entity.specs.Binding.{predefined, predefined_of, binding}
use Rattle.entity.specs.Commands.{command_text, Defines, Unhidden}
use Rattle.attribute.specs.Walk.{Settings}
use Rattle.table_index.specs.Index.{Ready}
use Rattle.table_index.proofs.IndexStates.{ready_none}
use Rattle.memory.specs.Slots.{Slot, Stands, slot_at, plain_word, Trusts, Memory, kept_in, Kept, Noted, Indexed, Forgot}
use Rattle.memory.proofs.Slots.{stands_more}
use Rattle.memory.proofs.Unhidden.{unhidden_word, not_amp}

zero_at : (n k : ℕ) → ◌≡◌ {A = ℕ} (get_or (replicate n 0) k 0) 0
zero_at zero k = refl
zero_at (suc n) zero = refl
zero_at (suc n) (suc k) = zero_at n k

-- the words for predefined names lie after the slots
pub plain_after : (b : ℕ) → (80 ≤ plain_word b) × (plain_word b < 84)
plain_after b =
    pick_both (λ (w : ℕ). (80 ≤ w) × (w < 84)) (eqb b 60) {a = 80} (omega arith, omega arith)
    (pick_both (λ (w : ℕ). (80 ≤ w) × (w < 84)) (eqb b 62) {a = 81} (omega arith, omega arith)
    (pick_both (λ (w : ℕ). (80 ≤ w) × (w < 84)) (eqb b 39) {a = 82} {b = 83} (omega arith, omega arith) (omega arith, omega arith)))

-- ---- one slot's five words

module _ (words : List ℕ) (size : 84 ≤ length words) (k c : ℕ) (x : Slot) (h : k < 16) where
  abbrev w1 : List ℕ
  w1 = set words k (c + 1)

  abbrev w2 : List ℕ
  w2 = set w1 (k + 16) x.depth

  abbrev w3 : List ℕ
  w3 = set w2 (k + 32) x.place

  abbrev w4 : List ℕ
  w4 = set w3 (k + 48) x.count

  s1 : 84 ≤ length w1
  s1 = omega (arith, length-set words k (c + 1), size)

  s2 : 84 ≤ length w2
  s2 = omega (arith, length-set w1 (k + 16) x.depth, s1)

  s3 : 84 ≤ length w3
  s3 = omega (arith, length-set w2 (k + 32) x.place, s2)

  s4 : 84 ≤ length w4
  s4 = omega (arith, length-set w3 (k + 48) x.count, s3)

  kept_size : 84 ≤ length (kept_in words k c x)
  kept_size = omega (arith, length-set w4 (k + 64) x.opened, s4)

  -- the words of an index lie after them
  kept_behind : drop 84 (kept_in words k c x) ≡ drop 84 words
  kept_behind =
      drop-set-lt 84 w4 (k + 64) x.opened (omega (arith, h))
      ∙ drop-set-lt 84 w3 (k + 48) x.count (omega (arith, h))
      ∙ drop-set-lt 84 w2 (k + 32) x.place (omega (arith, h))
      ∙ drop-set-lt 84 w1 (k + 16) x.depth (omega (arith, h))
      ∙ drop-set-lt 84 words k (c + 1) (omega (arith, h))

  -- a word of none of the five
  pub kept_other : (j : ℕ) → j ≢ k → j ≢ k + 16 → j ≢ k + 32 → j ≢ k + 48 → j ≢ k + 64 → get_or (kept_in words k c x) j 0 ≡ get_or words j 0
  kept_other j a b d e f =
      get_or-set_other w4 (k + 64) j x.opened 0 f
      ∙ get_or-set_other w3 (k + 48) j x.count 0 e
      ∙ get_or-set_other w2 (k + 32) j x.place 0 d
      ∙ get_or-set_other w1 (k + 16) j x.depth 0 b
      ∙ get_or-set_other words k j (c + 1) 0 a

  kept_command : get_or (kept_in words k c x) k 0 ≡ c + 1
  kept_command =
      get_or-set_other w4 (k + 64) k x.opened 0 (λ q. omega (arith, q))
      ∙ get_or-set_other w3 (k + 48) k x.count 0 (λ q. omega (arith, q))
      ∙ get_or-set_other w2 (k + 32) k x.place 0 (λ q. omega (arith, q))
      ∙ get_or-set_other w1 (k + 16) k x.depth 0 (λ q. omega (arith, q))
      ∙ get_or-set_same words k (c + 1) 0 (omega (arith, size, h))

  kept_depth : get_or (kept_in words k c x) (k + 16) 0 ≡ x.depth
  kept_depth =
      get_or-set_other w4 (k + 64) (k + 16) x.opened 0 (λ q. omega (arith, q))
      ∙ get_or-set_other w3 (k + 48) (k + 16) x.count 0 (λ q. omega (arith, q))
      ∙ get_or-set_other w2 (k + 32) (k + 16) x.place 0 (λ q. omega (arith, q))
      ∙ get_or-set_same w1 (k + 16) x.depth 0 (omega (arith, s1, h))

  kept_place : get_or (kept_in words k c x) (k + 32) 0 ≡ x.place
  kept_place =
      get_or-set_other w4 (k + 64) (k + 32) x.opened 0 (λ q. omega (arith, q))
      ∙ get_or-set_other w3 (k + 48) (k + 32) x.count 0 (λ q. omega (arith, q))
      ∙ get_or-set_same w2 (k + 32) x.place 0 (omega (arith, s2, h))

  kept_count : get_or (kept_in words k c x) (k + 48) 0 ≡ x.count
  kept_count =
      get_or-set_other w4 (k + 64) (k + 48) x.opened 0 (λ q. omega (arith, q))
      ∙ get_or-set_same w3 (k + 48) x.count 0 (omega (arith, s3, h))

  kept_opened : get_or (kept_in words k c x) (k + 64) 0 ≡ x.opened
  kept_opened = get_or-set_same w4 (k + 64) x.opened 0 (omega (arith, s4, h))

  pub kept_slot : slot_at (kept_in words k c x) k ≡ x
  kept_slot = rw (kept_depth, kept_place, kept_count, kept_opened)

  -- the other slots
  pub kept_far : (j : ℕ) → j < 16 → j ≢ k → (get_or (kept_in words k c x) j 0 ≡ get_or words j 0) × (slot_at (kept_in words k c x) j ≡ slot_at words j)
  kept_far j l d =
      let far : (i : ℕ) → i ≢ k → i ≢ k + 16 → i ≢ k + 32 → i ≢ k + 48 → i ≢ k + 64 → get_or (kept_in words k c x) i 0 ≡ get_or words i 0 = kept_other in
      let at0 = far j d (λ q. omega (arith, q, l)) (λ q. omega (arith, q, l)) (λ q. omega (arith, q, l)) (λ q. omega (arith, q, l)) in
      let at1 = far (j + 16) (λ q. omega (arith, q, h)) (λ q. d (omega (arith, q))) (λ q. omega (arith, q, l)) (λ q. omega (arith, q, l)) (λ q. omega (arith, q, l)) in
      let at2 = far (j + 32) (λ q. omega (arith, q, h)) (λ q. omega (arith, q, h)) (λ q. d (omega (arith, q))) (λ q. omega (arith, q, l)) (λ q. omega (arith, q, l)) in
      let at3 = far (j + 48) (λ q. omega (arith, q, h)) (λ q. omega (arith, q, h)) (λ q. omega (arith, q, h)) (λ q. d (omega (arith, q))) (λ q. omega (arith, q, l)) in
      let at4 = far (j + 64) (λ q. omega (arith, q, h)) (λ q. omega (arith, q, h)) (λ q. omega (arith, q, h)) (λ q. omega (arith, q, h)) (λ q. d (omega (arith, q))) in
      (at0, rw (at1, at2, at3, at4))

-- ---- the memory

module _ (s : Settings) (form : ℕ) (list pool : List ℕ) where
  -- words that are all 0 keep nothing
  pub memory_zeros : (v words : List ℕ) → (length words ≢ 0 → 84 ≤ length words) → ((k : ℕ) → get_or words k 0 ≡ 0) → Ready list pool (drop 84 words)
      → Memory s form list pool v words
  memory_zeros v words size zeros index =
      record {
        size = size;
        defines = λ k c h e. absurd (omega (arith, zeros k, e));
        stands = λ k c h e. absurd (omega (arith, zeros k, e));
        plain = λ b d e. absurd (e (zeros (plain_word b)));
        index = index;
      }

  pub memory_start : (v : List ℕ) → Memory s form list pool v (replicate 84 0)
  memory_start v = memory_zeros v (replicate 84 0) (λ z. omega arith) (zero_at 84) (ready_none list pool)

  -- nor does a memory of no words
  pub memory_none : (v words : List ℕ) → length words ≡ 0 → Memory s form list pool v words
  memory_none v [] e = memory_zeros v [] (λ z. absurd (z e)) (λ k. refl) (ready_none list pool)
  memory_none v (w ∷ ws) e = absurd (omega (arith, e))

  module _ {v words : List ℕ} (m : Memory s form list pool v words) where
    -- more is written at the end
    pub memory_more : (more : List ℕ) → Memory s form list pool (v ++ more) words
    memory_more more =
        record {
          size = m.size;
          defines = m.defines;
          stands = λ k c h e. stands_more s (command_text list pool c) more (m.stands k c h e);
          plain = m.plain;
          index = m.index;
        }

    -- a text is kept in a slot, whatever was in it
    pub memory_keep : (k c : ℕ) (x : Slot) → length words ≢ 0 → k < 16 → Defines list pool c → Stands s form (command_text list pool c) v x
        → Memory s form list pool v (kept_in words k c x)
    memory_keep k c x some h d t =
        let size = m.size some in
        record {
          size = λ z. kept_size words size k c x h;
          defines = λ j e l q. go_defines e (eqb j k) refl l q;
          stands = λ j e l q. go_stands e (eqb j k) refl l q;
          plain = λ b z q.
              let p = plain_after b in
              m.plain b z (λ y. q (kept_other words size k c x h (plain_word b)
              (λ i. omega (arith, i, p, h)) (λ i. omega (arith, i, p, h)) (λ i. omega (arith, i, p, h)) (λ i. omega (arith, i, p, h)) (λ i. omega (arith, i, p, h)) ∙ y));
          index = subst (Ready list pool) (sym (kept_behind words size k c x h)) m.index;
        }
      where
        same_command : {j : ℕ} (e : ℕ) → j ≡ k → get_or (kept_in words k c x) j 0 ≡ e + 1 → c ≡ e
        same_command {j} e i q =
            let z : c + 1 ≡ e + 1 = sym (kept_command words (m.size some) k c x h) ∙ ap (λ (n : ℕ). get_or (kept_in words k c x) n 0) (sym i) ∙ q in
            omega (arith, z)

        go_defines : {j : ℕ} (e : ℕ) (b : Bool) → eqb j k ≡ b → j < 16 → get_or (kept_in words k c x) j 0 ≡ e + 1 → Defines list pool e
        go_defines {j} e true i l q = subst (Defines list pool) (same_command e (eqb-true j k i) q) d
        go_defines {j} e false i l q = m.defines j e l (sym (kept_far words (m.size some) k c x h j l (eqb-false j k i)).0 ∙ q)

        go_stands : {j : ℕ} (e : ℕ) (b : Bool) → eqb j k ≡ b → j < 16 → get_or (kept_in words k c x) j 0 ≡ e + 1
            → Stands s form (command_text list pool e) v (slot_at (kept_in words k c x) j)
        go_stands {j} e true i l q =
            let z = eqb-true j k i in
            subst (λ (n : ℕ). Stands s form (command_text list pool n) v (slot_at (kept_in words k c x) j)) (same_command e z q)
            (subst (Stands s form (command_text list pool c) v) (sym (kept_slot words (m.size some) k c x h) ∙ ap (slot_at (kept_in words k c x)) (sym z)) t)
        go_stands {j} e false i l q =
            let f = kept_far words (m.size some) k c x h j l (eqb-false j k i) in
            subst (Stands s form (command_text list pool e) v) (sym f.1) (m.stands j e l (sym f.0 ∙ q))

    -- a predefined name was looked up, and the table does not define it
    pub memory_plain : (name : List ℕ) (c w : ℕ) → c ≢ 38 → binding list pool name ≡ predefined (c ∷ []) → predefined_of name ≡ predefined (c ∷ [])
        → Memory s form list pool v (set words (plain_word c) w)
    memory_plain name c w hc found p =
        let a = plain_after c in
        let low : (j : ℕ) → j < 80 → get_or (set words (plain_word c) w) j 0 ≡ get_or words j 0 =
        λ j l. get_or-set_other words (plain_word c) j w 0 (λ q. omega (arith, q, a, l)) in
        record {
          size = λ z. omega (arith, length-set words (plain_word c) w, m.size (λ q. z (length-set words (plain_word c) w ∙ q)));
          defines = λ k e h q. m.defines k e h (sym (low k (omega (arith, h))) ∙ q);
          stands = λ k e h q.
              let r : slot_at (set words (plain_word c) w) k ≡ slot_at words k =
              rw (low (k + 16) (omega (arith, h)), low (k + 32) (omega (arith, h)), low (k + 48) (omega (arith, h)), low (k + 64) (omega (arith, h))) in
              subst (Stands s form (command_text list pool e) v) (sym r) (m.stands k e h (sym (low k (omega (arith, h))) ∙ q));
          plain = λ b hb q. go b hb q (eqb (plain_word b) (plain_word c)) refl;
          index = subst (Ready list pool) (sym (drop-set-lt 84 words (plain_word c) w a.1)) m.index;
        }
      where
        go : (b : ℕ) → b ≢ 38 → get_or (set words (plain_word c) w) (plain_word b) 0 ≢ 0 → (t : Bool) → eqb (plain_word b) (plain_word c) ≡ t → Unhidden list pool b
        go b hb q true t = unhidden_word list pool name c b hc hb (eqb-true (plain_word b) (plain_word c) t) found p
        go b hb q false t =
            m.plain b hb (λ y. q (get_or-set_other words (plain_word c) (plain_word b) w 0 (eqb-false (plain_word b) (plain_word c) t) ∙ y))

-- ---- the index behind the memory

-- it is lent as the rest of the words
pub index_lent : {list pool words : List ℕ} → Trusts list pool words → 84 < length words
    → (length (mid_of 84 (length words - 84) words) ≢ 0) × Ready list pool (mid_of 84 (length words - 84) words)
index_lent {list} {pool} {words} t h =
    let rest = rest_part 84 words in
    (λ z. omega (arith, h, z, ap length rest, length-drop 84 words), subst (Ready list pool) (sym rest) t.index)

-- and put back
pub index_kept : {list pool words part : List ℕ} → 84 < length words → Ready list pool part → length part ≡ length (mid_of 84 (length words - 84) words)
    → Indexed list pool words (put_mid 84 (length words - 84) words part)
index_kept {list} {pool} {words} {part} h ready size =
    let put = rest_put 84 words part in
    let front : length (take 84 words) ≡ 84 = length-take-le 84 words (omega (arith, h)) in
    record {
      words = ap length put ∙ length-append (take 84 words) part ∙ omega (arith, front, size, ap length (rest_part 84 words), length-drop 84 words, h);
      front = ap (take 84) put ∙ take_at (take 84 words) part 84 front;
      index = subst (Ready list pool) (sym (ap (drop 84) put ∙ drop_at (take 84 words) part 84 front)) ready;
    }

-- or not asked
pub index_same : {list pool words : List ℕ} → Trusts list pool words → Indexed list pool words words
index_same t = record { words = refl; front = refl; index = t.index }

-- ---- by the contracts of the code

-- a word before the index is as it was
front_word : {list pool old new : List ℕ} → Indexed list pool old new → (k : ℕ) → k < 84 → get_or new k 0 ≡ get_or old k 0
front_word {list} {pool} {old} {new} x k h =
    sym (get_or-take 84 new k 0 h) ∙ ap (λ (l : List ℕ). get_or l k 0) x.front ∙ get_or-take 84 old k 0 h

-- a name was looked up
pub memory_indexed : (s : Settings) (form : ℕ) (list pool : List ℕ) {v old new : List ℕ} → Memory s form list pool v old → Indexed list pool old new
    → Memory s form list pool v new
memory_indexed s form list pool {v} {old} {new} m x =
    record {
      size = λ z. omega (arith, x.words, m.size (λ q. z (x.words ∙ q)));
      defines = λ k c h e. m.defines k c h (sym (word k (omega (arith, h))) ∙ e);
      stands = λ k c h e. subst (Stands s form (command_text list pool c) v) (sym (slot k h)) (m.stands k c h (sym (word k (omega (arith, h))) ∙ e));
      plain = λ b z q. m.plain b z (λ y. q (word (plain_word b) (plain_after b).1 ∙ y));
      index = x.index;
    }
  where
    word : (k : ℕ) → k < 84 → get_or new k 0 ≡ get_or old k 0
    word = front_word x

    slot : (k : ℕ) → k < 16 → slot_at new k ≡ slot_at old k
    slot k h = rw (word (k + 16) (omega (arith, h)), word (k + 32) (omega (arith, h)), word (k + 48) (omega (arith, h)), word (k + 64) (omega (arith, h)))

-- the texts that it kept are forgotten: what it says of the table holds for another walk
pub memory_forgot : (s : Settings) (form : ℕ) (v : List ℕ) {list pool old new : List ℕ} → Trusts list pool old → Forgot old new → Memory s form list pool v new
memory_forgot s form v {list} {pool} {old} {new} t f =
    record {
      size = λ z. omega (arith, f.words, t.size (λ q. z (f.words ∙ q)));
      defines = λ k c h e. absurd (omega (arith, f.slots k h, e));
      stands = λ k c h e. absurd (omega (arith, f.slots k h, e));
      plain = λ b z q. t.plain b z (λ y. q (f.others (plain_word b) (omega (arith, plain_after b)) ∙ y));
      index = subst (Ready list pool) (sym f.behind) t.index;
    }

pub memory_trusts : {s : Settings} {form : ℕ} {list pool v words : List ℕ} → Memory s form list pool v words → Trusts list pool words
memory_trusts m = record { size = m.size; defines = m.defines; plain = m.plain; index = m.index }

-- both leave the number of words
pub kept_length : {old new : List ℕ} {slot command : ℕ} {x : Slot} → Kept old slot command x new → length new ≡ length old
kept_length {old} {new} {slot} {command} {x} k = go (eqb (length old) 0) refl
  where
    go : (b : Bool) → eqb (length old) 0 ≡ b → length new ≡ length old
    go true e = ap length (k.none (eqb-true (length old) 0 e))
    go false e =
        let w1 = set old slot (command + 1) in
        let w2 = set w1 (slot + 16) x.depth in
        let w3 = set w2 (slot + 32) x.place in
        let w4 = set w3 (slot + 48) x.count in
        ap length (k.enters (eqb-false (length old) 0 e))
        ∙ length-set w4 (slot + 64) x.opened
        ∙ length-set w3 (slot + 48) x.count
        ∙ length-set w2 (slot + 32) x.place
        ∙ length-set w1 (slot + 16) x.depth
        ∙ length-set old slot (command + 1)

pub noted_length : {old new : List ℕ} {b : ℕ} → Noted old b new → length new ≡ length old
noted_length {old} {new} {b} k = go (eqb (length old) 0) refl
  where
    go : (t : Bool) → eqb (length old) 0 ≡ t → length new ≡ length old
    go true e = ap length (k.none (eqb-true (length old) 0 e))
    go false e = ap length (k.enters (eqb-false (length old) 0 e)) ∙ length-set old (plain_word b) 1

module _ (s : Settings) (form : ℕ) (list pool : List ℕ) {v old new : List ℕ} (m : Memory s form list pool v old) where
  -- the text of a command that stands so was kept
  pub memory_kept : {slot command : ℕ} {x : Slot} → slot < 16 → Defines list pool command → Stands s form (command_text list pool command) v x
      → Kept old slot command x new → Memory s form list pool v new
  memory_kept {slot} {command} {x} h d t k = go (eqb (length old) 0) refl
    where
      go : (b : Bool) → eqb (length old) 0 ≡ b → Memory s form list pool v new
      go true e = subst (Memory s form list pool v) (sym (k.none (eqb-true (length old) 0 e))) m
      go false e =
          let some = eqb-false (length old) 0 e in
          subst (Memory s form list pool v) (sym (k.enters some)) (memory_keep s form list pool m slot command x some h d t)

  -- a name other than `amp` was looked up, and the table does not define it
  pub memory_noted : (name : List ℕ) {b : ℕ} → same_bytes name (97 ∷ 109 ∷ 112 ∷ []) ≡ false → predefined_of name ≡ predefined (b ∷ [])
      → binding list pool name ≡ predefined (b ∷ []) → Noted old b new → Memory s form list pool v new
  memory_noted name {b} amp p found k = go (eqb (length old) 0) refl
    where
      go : (t : Bool) → eqb (length old) 0 ≡ t → Memory s form list pool v new
      go true e = subst (Memory s form list pool v) (sym (k.none (eqb-true (length old) 0 e))) m
      go false e =
          subst (Memory s form list pool v) (sym (k.enters (eqb-false (length old) 0 e)))
          (memory_plain s form list pool m name b 1 (not_amp name b amp p) found p)
