-- A walk over the entries of filled bytes: the place between two entries (`Boundary`), the entry there (`Turn`, `turn`) and the next place
-- (`next`). Assumes nothing.
use mathlib.Core.Path.{◌≡◌, refl, ap, ap₂, sym, ◌∙◌, subst}
use Prim.Native.Nat.{ℕ, ◌+◌, ◌-◌, ◌≤◌, ◌<◌}
use native.Mathlib.Omega.{arith}
use mathlib.Core.Bool.{true, false}
use mathlib.Core.List.{List, [], ◌∷◌, ◌++◌, append-nil}
use lib.ListN.{length, take, drop, length-append}
use lib.Seq.{take-append_seam, drop-append-add, append_snoc}
use Rattle.text.specs.Bytes.{same_bytes}
use Rattle.text.proofs.Bytes.{same_equal}
use Rattle.register.specs.Entries.{Entry, entry, cost}
use Rattle.register.specs.Stored.{u32_at, entry_bytes, bytes_of, holds, entries}
use Rattle.register.specs.Places.{Narrow, Absent, Small, listed, entries_in, Filled, Whole, Stands}
use Rattle.register.proofs.StoredLaws.{bytes_join, bytes_cost, cost_join, narrow_front, narrow_rest, u32_after, entry_size, entry_count, entry_form, entry_length, entries_of_bytes, bytes_of_entries}

-- bytes of entries are filled, and bytes that hold entries
pub filled_bytes : (bytes : List ℕ) (es : List Entry) → bytes ≡ bytes_of es → Narrow es → (entries_in bytes ≡ es) × Filled bytes
filled_bytes bytes es e n =
    let q : entries_in bytes ≡ es = ap (λ (l : List ℕ). entries_in l) e ∙ ap listed (entries_of_bytes es n) in
    (q, record { is = e ∙ ap bytes_of (sym q); narrow = subst Narrow (sym q) n })

pub filled_held : (bytes : List ℕ) (es : List Entry) → Small bytes → entries bytes ≡ holds es → (entries_in bytes ≡ es) × Filled bytes
filled_held bytes es s h = let r = bytes_of_entries bytes es s h in filled_bytes bytes es r.is r.narrow

pub none_cost : 0 ≡ cost []
unfolding cost
none_cost = refl

pub one_cost : (e : Entry) → cost (e ∷ []) ≡ 8 + length e.form
unfolding cost
one_cost e = omega arith

-- so many bytes from the start one entry ends and the next one starts
pub record Boundary (es : List Entry) (at : ℕ) : Type 0 where
  pub before : List Entry
  pub rest : List Entry
  pub is : es ≡ before ++ rest
  pub place : at ≡ cost before

unfoldable pub start : (es : List Entry) → Boundary es 0
start es = record { before = []; rest = es; is = refl; place = none_cost }

module _ {bytes : List ℕ} (f : Filled bytes) {at : ℕ} (b : Boundary (entries_in bytes) at) where
  cut : bytes ≡ bytes_of b.before ++ bytes_of b.rest
  cut = f.is ∙ ap bytes_of b.is ∙ bytes_join b.before b.rest

  here : at ≡ length (bytes_of b.before)
  here = b.place ∙ sym (bytes_cost b.before)

  -- the bytes before it are those of the entries before it
  pub front_filled : (entries_in (take at bytes) ≡ b.before) × Filled (take at bytes)
  front_filled =
      filled_bytes (take at bytes) b.before
      (ap₂ take here cut ∙ take-append_seam (bytes_of b.before) (bytes_of b.rest))
      (narrow_front b.before b.rest (subst Narrow b.is f.narrow))

  pub within : at + cost b.rest ≡ length bytes
  within =
      omega (arith, here, ap length cut, length-append (bytes_of b.before) (bytes_of b.rest), bytes_cost b.rest)

  -- the entry there
  pub record Turn : Type 0 where
    pub one : Entry
    pub after : List Entry
    pub is : b.rest ≡ one ∷ after
    pub size : u32_at bytes at ≡ length one.form
    pub count : u32_at bytes (at + 4) ≡ one.count
    pub form : take (length one.form) (drop (at + 8) bytes) ≡ one.form
    pub fits : at + 8 + length one.form ≤ length bytes

  turn_at : (rest : List Entry) → b.rest ≡ rest → at < length bytes → Turn
  turn_at [] q h = absurd (let z : cost b.rest ≡ 0 = ap cost q ∙ unfold cost in refl in omega (arith, within, z))
  turn_at (e ∷ es) q h =
      let front = bytes_of b.before in
      let more = bytes_of es in
      let n = subst Narrow q (narrow_rest b.before b.rest (subst Narrow b.is f.narrow)) in
      let all : bytes ≡ front ++ (entry_bytes e ++ more) = cut ∙ ap (λ (l : List ℕ). front ++ l) (ap bytes_of q ∙ unfold bytes_of in refl) in
      let p : (k : ℕ) → at + k ≡ length front + k = λ k. ap (λ (x : ℕ). x + k) here in
      let z : at ≡ length front + 0 = omega (arith, here) in
      let whole : length bytes ≡ length front + (length (entry_bytes e) + length more)
      = ap length all ∙ length-append front (entry_bytes e ++ more) ∙ ap (λ (k : ℕ). length front + k) (length-append (entry_bytes e) more) in
      record {
        one = e;
        after = es;
        is = q;
        size = ap₂ u32_at all z ∙ u32_after front (entry_bytes e ++ more) 0 ∙ entry_size e more n.0;
        count = ap₂ u32_at all (p 4) ∙ u32_after front (entry_bytes e ++ more) 4 ∙ entry_count e more n.1;
        form =
            ap (take (length e.form)) (ap₂ drop (p 8) all ∙ drop-append-add front (entry_bytes e ++ more) 8)
            ∙ entry_form e more;
        fits = omega (arith, here, whole, entry_length e);
      }

  pub turn : at < length bytes → Turn
  turn h = turn_at b.rest refl h

  pub turn_whole : Turn → Whole bytes at
  turn_whole t = record { fits = omega (arith, t.size, t.fits) }

  -- the place after it
  unfoldable pub next : (t : Turn) {end : ℕ} → end ≡ at + 8 + u32_at bytes at → Boundary (entries_in bytes) end
  next t e =
      record {
        before = b.before ++ (t.one ∷ []);
        rest = t.after;
        is = b.is ∙ ap (λ (l : List Entry). b.before ++ l) t.is ∙ sym (append_snoc b.before t.one t.after);
        place = omega (arith, e, t.size, b.place, cost_join b.before (t.one ∷ []), one_cost t.one);
      }

  -- at the end of the bytes nothing is left
  nothing_at : (rest : List Entry) → b.rest ≡ rest → length bytes ≤ at → entries_in bytes ≡ b.before
  nothing_at [] q h = b.is ∙ ap (λ (l : List Entry). b.before ++ l) q ∙ append-nil b.before
  nothing_at (e ∷ es) q h =
      let c : cost b.rest ≡ 8 + length e.form + cost es = ap cost q ∙ unfold cost in refl in
      absurd (omega (arith, within, c))

  pub finished : length bytes ≤ at → entries_in bytes ≡ b.before
  finished h = nothing_at b.rest refl h

-- ---- a form is looked for

pub absent_join : (f : List ℕ) (a b : List Entry) → Absent f a → Absent f b → Absent f (a ++ b)
absent_join f [] b h k = k
absent_join f (e ∷ es) b h k = (h.0, absent_join f es b h.1 k)

-- the entries before have other forms
pub record Passed (form : List ℕ) (es : List Entry) (at : ℕ) : Type 0 where
  pub place : Boundary es at
  pub others : Absent form place.before

pub passed_none : (form : List ℕ) (es : List Entry) → Passed form es 0
unfolding start
passed_none form es = record { place = start es; others = tt }

module _ {bytes form : List ℕ} (f : Filled bytes) {at : ℕ} (p : Passed form (entries_in bytes) at) where
  -- another form, as it is read from `lo` up to `end`
  pub passed_on : (t : Turn f p.place) {end : ℕ} {part : List ℕ} → end ≡ at + 8 + u32_at bytes at → part ≡ t.one.form → false ≡ same_bytes part form
      → Passed form (entries_in bytes) end
  unfolding next
  passed_on t e q d =
      record {
        place = next f p.place t e;
        others = absent_join form p.place.before (t.one ∷ []) p.others (ap (λ (l : List ℕ). same_bytes l form) (sym q) ∙ sym d, tt);
      }

  pub passed_found : (t : Turn f p.place) {part : List ℕ} → part ≡ t.one.form → true ≡ same_bytes part form → Stands form (entries_in bytes) at
  passed_found t q d =
      let same : t.one.form ≡ form = sym q ∙ same_equal _ form (sym d) in
      record {
        before = p.place.before;
        count = t.one.count;
        after = t.after;
        is =
            p.place.is
            ∙ ap (λ (l : List Entry). p.place.before ++ l) (t.is ∙ ap (λ (x : List ℕ). entry x t.one.count ∷ t.after) same);
        others = p.others;
        place = p.place.place;
      }

  pub passed_all : length bytes ≤ at → Absent form (entries_in bytes)
  passed_all h = subst (Absent form) (sym (finished f p.place h)) p.others

  -- the form as a part of the bytes
  pub part_form : (t : Turn f p.place) {end : ℕ} → end ≡ at + 8 + u32_at bytes at → take (end - (at + 8)) (drop (at + 8) bytes) ≡ t.one.form
  part_form t {end} e =
      let n : end - (at + 8) ≡ length t.one.form = omega (arith, t.size) in
      ap (λ (k : ℕ). take k (drop (at + 8) bytes)) n ∙ t.form
