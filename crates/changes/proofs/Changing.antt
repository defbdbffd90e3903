-- The bytes of changed entries are those of their parts: a count (`recounted`), an entry that goes (`removed`) and one at the end
-- (`appended`). Assumes nothing.
use mathlib.Core.Path.{◌≡◌, refl, ap, ap₂, sym, ◌∙◌, subst}
use Prim.Native.Nat.{ℕ, ◌+◌, ◌-◌, ◌≤◌, ◌<◌}
use native.Mathlib.Omega.{arith}
use mathlib.Core.Bool.{Bool, false}
use mathlib.Core.List.{List, [], ◌∷◌, ◌++◌, append_assoc, append-nil}
use lib.Dec.{eqb}
use lib.ListN.{length, take, drop, replicate, length-append, length-drop, length-replicate, take-append-drop}
use lib.Seq.{take-append_seam, take-append-add, drop-append_seam, drop-append-add, drop-drop}
use borrow.Author.Tests.{ne_eqb}
use borrow.Rule.Slice.PartMut.{mid_of, put_mid, mid_len, drop_put}
use Rattle.text.specs.Bytes.{pick}
use Rattle.text.specs.Call.{laid}
use Rattle.text.proofs.Bytes.{equal_same}
use Rattle.register.specs.Entries.{Entry, entry, cost, count_in, recount}
use Rattle.register.specs.Stored.{u32_at, u32, entry_bytes, bytes_of, written}
use Rattle.register.specs.Places.{Narrow, Good, Absent, Stands, Sits}
use Rattle.register.proofs.StoredLaws.{bytes_join, bytes_cost, cost_join, narrow_rest, u32_after, entry_size, entry_count, entry_length}
use Rattle.register.proofs.Sits.{sits_cost}
use Rattle.output.proofs.Laid.{laid_length}

-- ---- entries

pub stands_count : (f : List ℕ) (n : ℕ) (a b : List Entry) → Absent f a → count_in f (a ++ (entry f n ∷ b)) ≡ n
unfolding count_in
stands_count f n [] b h = rw (equal_same f) refl
stands_count f n (e ∷ a) b h = rw h.0 (stands_count f n a b h.1)

recount_at : (f : List ℕ) (m n : ℕ) (a b : List Entry) → Absent f a → recount f m (a ++ (entry f n ∷ b)) ≡ a ++ pick (eqb m 0) b (entry f m ∷ b)
unfolding recount
recount_at f m n [] b h = rw (equal_same f) refl
recount_at f m n (e ∷ a) b h = rw h.0 (ap (λ (l : List Entry). e ∷ l) (recount_at f m n a b h.1))

good_rest : (a b : List Entry) → Good (a ++ b) → Good b
good_rest [] b g = g
good_rest (e ∷ a) b g = good_rest a b g.2

-- ---- a register with an entry at `at`

module _ (buffer : List ℕ) (used : ℕ) (es : List Entry) (h : Sits buffer used es) where
  abbrev past : List ℕ
  past = drop used buffer

  whole : buffer ≡ bytes_of es ++ past
  whole = sym (take-append-drop used buffer) ∙ ap (λ (l : List ℕ). l ++ past) h.is

  used_is : used ≡ cost es
  used_is = sits_cost buffer used es h

  -- what is written where nothing is freed
  written_longer : (new : List Entry) → used ≤ cost new → written used new buffer ≡ bytes_of new ++ drop (cost new) buffer
  unfolding written
  written_longer new k =
      let z : used - cost new ≡ 0 = omega arith in
      rw (z, append-nil) (ap (λ (n : ℕ). bytes_of new ++ drop n buffer) (bytes_cost new))

  -- what is written where bytes are freed
  written_shorter : (new : List Entry) (gap : ℕ) → cost new + gap ≡ used → written used new buffer ≡ bytes_of new ++ (replicate gap 0 ++ past)
  unfolding written
  written_shorter new gap k =
      let z : used - cost new ≡ gap = omega arith in
      let value = bytes_of new ++ replicate gap 0 in
      let n : length value ≡ used
      = length-append (bytes_of new) (replicate gap 0) ∙ ap₂ ◌+◌ (bytes_cost new) (length-replicate gap 0) ∙ k in
      ap (λ (m : ℕ). laid (bytes_of new ++ replicate m 0) buffer) z
      ∙ ap (λ (m : ℕ). value ++ drop m buffer) n ∙ append_assoc (bytes_of new) (replicate gap 0) past

  -- a new entry, laid over what lies past the used bytes
  pub appended : (e : Entry) → cost es + (8 + length e.form) ≤ length buffer
      → take used buffer ++ laid (entry_bytes e) (drop used buffer) ≡ written used (es ++ (e ∷ [])) buffer
  appended e room =
      let new = es ++ (e ∷ []) in
      let one : cost (e ∷ []) ≡ 8 + length e.form = unfold cost in omega arith in
      let c : cost new ≡ used + length (entry_bytes e) = omega (arith, cost_join es (e ∷ []), one, used_is, entry_length e) in
      let last : bytes_of (e ∷ []) ≡ entry_bytes e = unfold bytes_of in append-nil (entry_bytes e) in
      ap₂ (λ (a b : List ℕ). a ++ (entry_bytes e ++ b)) h.is (drop-drop (length (entry_bytes e)) used buffer ∙ ap (λ (n : ℕ). drop n buffer) (sym c))
      ∙ sym (append_assoc (bytes_of es) (entry_bytes e) (drop (cost new) buffer))
      ∙ ap (λ (l : List ℕ). l ++ drop (cost new) buffer) (ap (λ (l : List ℕ). bytes_of es ++ l) (sym last) ∙ sym (bytes_join es (e ∷ [])))
      ∙ sym (written_longer new (omega (arith, c)))

  module _ {form : List ℕ} {at : ℕ} (s : Stands form es at) where
    abbrev front : List ℕ
    front = bytes_of s.before

    abbrev one : Entry
    one = entry form s.count

    abbrev more : List ℕ
    more = bytes_of s.after ++ past

    here : at ≡ length front
    here = s.place ∙ sym (bytes_cost s.before)

    joined : (e : Entry) → bytes_of (s.before ++ (e ∷ s.after)) ++ past ≡ front ++ (entry_bytes e ++ more)
    unfolding bytes_of
    joined e =
        ap (λ (l : List ℕ). l ++ past) (bytes_join s.before (e ∷ s.after))
        ∙ append_assoc front (entry_bytes e ++ bytes_of s.after) past
        ∙ ap (λ (l : List ℕ). front ++ l) (append_assoc (entry_bytes e) (bytes_of s.after) past)

    split : buffer ≡ front ++ (entry_bytes one ++ more)
    split = whole ∙ ap (λ (l : List Entry). bytes_of l ++ past) s.is ∙ joined one

    narrow : Narrow (one ∷ s.after)
    narrow = narrow_rest s.before (one ∷ s.after) (subst Narrow s.is h.sound.narrow)

    cost_split : cost es ≡ cost s.before + (8 + length form + cost s.after)
    cost_split =
        let c : cost (one ∷ s.after) ≡ 8 + length form + cost s.after = unfold cost in refl in
        omega (arith, ap cost s.is, cost_join s.before (one ∷ s.after), c)

    -- the entry lies in the used bytes
    pub stands_fits : at + 8 + length form ≤ used
    stands_fits = omega (arith, cost_split, used_is, s.place)

    pub stands_size : u32_at buffer at ≡ length form
    stands_size =
        let z : at ≡ length front + 0 = omega (arith, here) in
        ap₂ u32_at split z ∙ u32_after front (entry_bytes one ++ more) 0 ∙ entry_size one more narrow.0

    pub stands_number : u32_at buffer (at + 4) ≡ s.count
    stands_number =
        ap₂ u32_at split (ap (λ (n : ℕ). n + 4) here) ∙ u32_after front (entry_bytes one ++ more) 4 ∙ entry_count one more narrow.1

    pub stands_is : count_in form es ≡ s.count
    stands_is = ap (count_in form) s.is ∙ stands_count form s.count s.before s.after s.others

    pub stands_some : s.count ≡ 0 → ⊥
    stands_some = (good_rest s.before (one ∷ s.after) (subst Good s.is h.sound.good)).0

    pub stands_narrow : s.count < 0x100000000
    stands_narrow = narrow.1

    recount_is : (n : ℕ) → recount form n es ≡ s.before ++ pick (eqb n 0) s.after (entry form n ∷ s.after)
    recount_is n = ap (recount form n) s.is ∙ recount_at form n s.count s.before s.after s.others

    -- ---- another count

    take_count : take (at + 4) buffer ≡ front ++ u32 (length form)
    unfolding entry_bytes u32
    take_count = ap₂ take (ap (λ (n : ℕ). n + 4) here) split ∙ take-append-add front (entry_bytes one ++ more) 4

    drop_count : drop (at + 8) buffer ≡ form ++ more
    unfolding entry_bytes u32
    drop_count = ap₂ drop (ap (λ (n : ℕ). n + 8) here) split ∙ drop-append-add front (entry_bytes one ++ more) 8

    module _ (n : ℕ) (some : 0 < n) where
      abbrev new : List Entry
      new = s.before ++ (entry form n ∷ s.after)

      pub recounted_is : recount form n es ≡ new
      recounted_is =
          let z : eqb n 0 ≡ false = ne_eqb n 0 (λ e. omega (arith, e)) in
          recount_is n ∙ ap (λ (t : Bool). s.before ++ pick t s.after (entry form n ∷ s.after)) z

      pub recounted_cost : cost new ≡ used
      recounted_cost =
          let c : cost (entry form n ∷ s.after) ≡ 8 + length form + cost s.after = unfold cost in refl in
          omega (arith, used_is, cost_split, cost_join s.before (entry form n ∷ s.after), c)

      written_count : front ++ (u32 (length form) ++ (u32 n ++ (form ++ more))) ≡ written used new buffer
      unfolding entry_bytes u32
      written_count =
          sym (joined (entry form n)) ∙ ap (λ (k : ℕ). bytes_of new ++ drop k buffer) (sym recounted_cost)
          ∙ sym (written_longer new (omega (arith, recounted_cost)))

      pub recounted : take (at + 4) buffer ++ laid (u32 n) (drop (at + 4) buffer) ≡ written used (recount form n es) buffer
      recounted =
          let four : length (u32 n) ≡ 4 = unfold u32 in refl in
          let q : at + 4 + 4 ≡ at + 8 = omega arith in
          ap₂ (λ (a b : List ℕ). a ++ (u32 n ++ b)) take_count
          (ap (λ (k : ℕ). drop k (drop (at + 4) buffer)) four ∙ drop-drop 4 (at + 4) buffer ∙ ap (λ (k : ℕ). drop k buffer) q ∙ drop_count)
          ∙ append_assoc front (u32 (length form)) (u32 n ++ (form ++ more))
          ∙ written_count ∙ ap (λ (l : List Entry). written used l buffer) (sym recounted_is)

    -- ---- an entry that goes

    abbrev rest : List Entry
    rest = s.before ++ s.after

    pub removed_is : recount form 0 es ≡ rest
    removed_is = recount_is 0

    pub removed_cost : {gap : ℕ} → gap ≡ 8 + length form → cost rest + gap ≡ used
    removed_cost g = omega (arith, g, used_is, cost_split, cost_join s.before s.after)

    -- after the gap was closed in the part from `at` on
    module _ {gap : ℕ} (g : gap ≡ 8 + length form) where
      abbrev part : List ℕ
      part = mid_of at (used - at) buffer

      abbrev closed : List ℕ
      closed = put_mid at (used - at) buffer (laid (drop gap part) part)

      part_is : part ≡ entry_bytes one ++ bytes_of s.after
      part_is =
          let all : buffer ≡ front ++ ((entry_bytes one ++ bytes_of s.after) ++ past)
          = split ∙ ap (λ (l : List ℕ). front ++ l) (sym (append_assoc (entry_bytes one) (bytes_of s.after) past)) in
          let n : used - at ≡ length (entry_bytes one ++ bytes_of s.after)
          = omega (arith, length-append (entry_bytes one) (bytes_of s.after), entry_length one, bytes_cost s.after, used_is, cost_split, s.place) in
          ap₂ take n (ap₂ drop here all ∙ drop-append_seam front ((entry_bytes one ++ bytes_of s.after) ++ past))
          ∙ take-append_seam (entry_bytes one ++ bytes_of s.after) past

      moved : drop gap part ≡ bytes_of s.after
      moved = ap₂ drop (g ∙ sym (entry_length one)) part_is ∙ drop-append_seam (entry_bytes one) (bytes_of s.after)

      -- the bytes up to the freed ones are those of the entries that are left
      closed_front : closed ≡ (front ++ bytes_of s.after) ++ (drop (length (drop gap part)) part ++ drop (used - at) (drop at buffer))
      closed_front =
          ap₂ (λ (a b : List ℕ). a ++ ((b ++ drop (length (drop gap part)) part) ++ drop (used - at) (drop at buffer)))
          (ap₂ take here split ∙ take-append_seam front (entry_bytes one ++ more)) moved
          ∙ ap (λ (l : List ℕ). front ++ l) (append_assoc (bytes_of s.after) (drop (length (drop gap part)) part) (drop (used - at) (drop at buffer)))
          ∙ sym (append_assoc front (bytes_of s.after) (drop (length (drop gap part)) part ++ drop (used - at) (drop at buffer)))

      left_length : length (front ++ bytes_of s.after) ≡ used - gap
      left_length =
          omega (arith, length-append front (bytes_of s.after), bytes_cost s.after, here, s.place, g, used_is, cost_split)

      removed : {last : ℕ} → last ≡ gap → put_mid (used - gap) (used - (used - gap)) closed (replicate last 0) ≡ written used (recount form 0 es) buffer
      removed {last} l =
          let a = used - gap in
          let k = used - a in
          let after = front ++ bytes_of s.after in
          let to : a + k ≡ used = omega (arith, g, stands_fits) in
          let tail : drop k (drop a closed) ≡ past = drop-drop k a closed ∙ ap (λ (n : ℕ). drop n closed) to ∙ closed_past in
          ap₂ (λ (x y : List ℕ). x ++ (replicate last 0 ++ y))
          (ap₂ take (sym left_length) closed_front ∙ take-append_seam after (drop (length (drop gap part)) part ++ drop (used - at) (drop at buffer))) tail
          ∙ ap₂ (λ (x : List ℕ) (n : ℕ). x ++ (replicate n 0 ++ past)) (sym (bytes_join s.before s.after)) l
          ∙ sym (written_shorter rest gap (removed_cost g)) ∙ ap (λ (e : List Entry). written used e buffer) (sym removed_is)
        where
          closed_past : drop used closed ≡ past
          closed_past =
              drop_put at used buffer (laid (drop gap part) part) (omega (arith, stands_fits)) h.within
              (laid_length (drop gap part) part (omega (arith, length-drop gap part)) ∙ mid_len at used buffer h.within)

      -- as the code has it: closed, then zeros
      pub removed_by : {now zeros : List ℕ} {last : ℕ} → now ≡ laid (drop gap part) part → zeros ≡ replicate last 0 → last ≡ gap
          → put_mid (used - gap) (used - (used - gap)) (put_mid at (used - at) buffer now) zeros ≡ written used (recount form 0 es) buffer
      removed_by p q l =
          ap₂ (λ (x y : List ℕ). put_mid (used - gap) (used - (used - gap)) (put_mid at (used - at) buffer x) y) p q ∙ removed l
