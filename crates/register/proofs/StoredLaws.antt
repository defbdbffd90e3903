-- What the bytes hold determines the entries and the other way round (document 02, K10): `entries_of_bytes`, `bytes_of_entries`; and the
-- bytes are as many as the entries cost (`bytes_cost`). Assumes nothing.
use mathlib.Core.Path.{◌≡◌, refl, ap, ap₂, sym, ◌∙◌, subst}
use Prim.Native.Nat.{ℕ, zero, suc, ◌+◌, ◌*◌, ◌/◌, ◌%◌, ◌≤◌, ◌<◌}
use native.Mathlib.Omega.{arith}
use mathlib.Core.Bool.{Bool, true, false}
use mathlib.Core.List.{List, [], ◌∷◌, ◌++◌, append_assoc}
use lib.Dec.{leb}
use lib.ListN.{length, take, drop, get_or, length-append, length-drop, take-append-drop}
use lib.Seq.{take-append_seam, drop-append_seam, get_or-append-add, get_or-drop, length-take-le, drop-drop}
use borrow.Author.Tests.{le-ltb, lt-ltb, leb-true, leb-false}
use Rattle.register.specs.Entries.{Entry, entry, cost}
use Rattle.register.specs.Stored.{u32_at, u32, entry_bytes, bytes_of, Held, holds, damaged, also, entry_at, entries_from, entries}
use Rattle.register.specs.Places.{Narrow, Small}

pub not_held : {X : Type 0} {es : List Entry} → damaged ≡ holds es → X
not_held q = let z : ◌≡◌ {A = ℕ} 0 1 = cc in absurd (omega (arith, z))

-- ---- lists of entries that are joined

pub narrow_join : (a b : List Entry) → Narrow a → Narrow b → Narrow (a ++ b)
narrow_join [] b n m = m
narrow_join (e ∷ es) b n m = (n.0, n.1, narrow_join es b n.2 m)

pub narrow_front : (a b : List Entry) → Narrow (a ++ b) → Narrow a
narrow_front [] b n = tt
narrow_front (e ∷ es) b n = (n.0, n.1, narrow_front es b n.2)

pub narrow_rest : (a b : List Entry) → Narrow (a ++ b) → Narrow b
narrow_rest [] b n = n
narrow_rest (e ∷ es) b n = narrow_rest es b n.2

pub bytes_join : (a b : List Entry) → bytes_of (a ++ b) ≡ bytes_of a ++ bytes_of b
unfolding bytes_of
bytes_join [] b = refl
bytes_join (e ∷ es) b = ap (λ (l : List ℕ). entry_bytes e ++ l) (bytes_join es b) ∙ sym (append_assoc (entry_bytes e) (bytes_of es) (bytes_of b))

pub entry_length : (e : Entry) → length (entry_bytes e) ≡ 8 + length e.form
unfolding entry_bytes u32
entry_length e = omega arith

-- K10: the used length is the sum of the costs
pub bytes_cost : (es : List Entry) → length (bytes_of es) ≡ cost es
unfolding bytes_of cost
bytes_cost [] = refl
bytes_cost (e ∷ es) = omega (arith, length-append (entry_bytes e) (bytes_of es), entry_length e, bytes_cost es)

pub cost_join : (a b : List Entry) → cost (a ++ b) ≡ cost a + cost b
cost_join a b =
    omega (arith, bytes_cost (a ++ b), bytes_cost a, bytes_cost b, ap length (bytes_join a b), length-append (bytes_of a) (bytes_of b))

-- ---- numbers

pub u32_back : (n : ℕ) → n < 0x100000000
    → n % 0x100 + n / 0x100 % 0x100 * 0x100 + n / 0x10000 % 0x100 * 0x10000 + n / 0x1000000 % 0x100 * 0x1000000 ≡ n
u32_back n h =
    let a : n / 0x10000 ≡ n / 0x10000 % 0x100 + 0x100 * (n / 0x1000000 % 0x100) = omega arith in
    let b : n / 0x100 ≡ n / 0x100 % 0x100 + 0x100 * (n / 0x10000) = omega arith in
    let c : n ≡ n % 0x100 + 0x100 * (n / 0x100) = omega arith in
    omega (arith, a, b, c)

bytes_u32 : (a b c d : ℕ) → a < 0x100 → b < 0x100 → c < 0x100 → d < 0x100
    → u32 (a + b * 0x100 + c * 0x10000 + d * 0x1000000) ≡ a ∷ b ∷ c ∷ d ∷ []
unfolding u32
bytes_u32 a b c d p q r s =
    let n = a + b * 0x100 + c * 0x10000 + d * 0x1000000 in
    let h2 : n / 0x100 ≡ b + c * 0x100 + d * 0x10000 = omega arith in
    let h3 : n / 0x10000 ≡ c + d * 0x100 = omega arith in
    let h4 : n / 0x1000000 ≡ d = omega arith in
    let one : n % 0x100 ≡ a = omega arith in
    let two : n / 0x100 % 0x100 ≡ b = rw h2 (omega arith) in
    let three : n / 0x10000 % 0x100 ≡ c = rw h3 (omega arith) in
    let four : n / 0x1000000 % 0x100 ≡ d = rw h4 (omega arith) in
    rw (one, two, three, four) refl

-- a number that stands after other bytes
pub u32_after : (front rest : List ℕ) (i : ℕ) → u32_at (front ++ rest) (length front + i) ≡ u32_at rest i
u32_after front rest i =
    let at : (k : ℕ) → get_or (front ++ rest) (length front + i + k) 0 ≡ get_or rest (i + k) 0
    = λ k. ap (λ (n : ℕ). get_or (front ++ rest) n 0) (omega arith) ∙ get_or-append-add front rest (i + k) 0 in
    rw (get_or-append-add front rest i 0, at 1, at 2, at 3)

-- ---- an entry at the start of bytes

module _ (e : Entry) (rest : List ℕ) where
  abbrev all : List ℕ
  all = entry_bytes e ++ rest

  pub entry_size : length e.form < 0x100000000 → u32_at all 0 ≡ length e.form
  unfolding entry_bytes u32
  entry_size h = u32_back (length e.form) h

  pub entry_count : e.count < 0x100000000 → u32_at all 4 ≡ e.count
  unfolding entry_bytes u32
  entry_count h = u32_back e.count h

  pub entry_form : take (length e.form) (drop 8 all) ≡ e.form
  unfolding entry_bytes u32
  entry_form = take-append_seam e.form rest

  pub entry_rest : drop (8 + length e.form) all ≡ rest
  entry_rest = ap (λ (n : ℕ). drop n all) (sym (entry_length e)) ∙ drop-append_seam (entry_bytes e) rest

-- to read after bytes that are passed over
skip_drop : (k : ℕ) (l : List ℕ) → entries_from k l ≡ entries_from 0 (drop k l)
unfolding entries_from
skip_drop zero l = refl
skip_drop (suc k) [] = refl
skip_drop (suc k) (b ∷ bs) = skip_drop k bs

pub entries_step : (l : List ℕ) → 8 + u32_at l 0 ≤ length l → entries_from 0 l ≡ also (entry_at l) (entries_from 0 (drop (8 + u32_at l 0) l))
unfolding entries_from
entries_step [] h = absurd (omega arith)
entries_step (b ∷ bs) h =
    let size = u32_at (b ∷ bs) 0 in
    let q : 8 + size ≡ suc (7 + size) = omega arith in
    rw (le-ltb (length bs) (7 + size) (omega arith), q)
    (ap (also (entry_at (b ∷ bs))) (skip_drop (7 + size) bs))

pub entries_cut : (l : List ℕ) → 0 < length l → length l < 8 + u32_at l 0 → entries_from 0 l ≡ damaged
unfolding entries_from
entries_cut [] p h = absurd (omega arith)
entries_cut (b ∷ bs) p h = let size = u32_at (b ∷ bs) 0 in rw (lt-ltb (length bs) (7 + size) (omega arith))

-- ---- from entries to bytes and back

pub entries_front : (e : Entry) (rest : List ℕ) → length e.form < 0x100000000 → e.count < 0x100000000
    → entries_from 0 (entry_bytes e ++ rest) ≡ also e (entries_from 0 rest)
entries_front e rest h k =
    let l = entry_bytes e ++ rest in
    let size = entry_size e rest h in
    let fits : 8 + u32_at l 0 ≤ length l = omega (arith, size, entry_length e, length-append (entry_bytes e) rest) in
    entries_step l fits
    ∙ ap₂ also (ap₂ entry (ap (λ (n : ℕ). take n (drop 8 l)) size ∙ entry_form e rest) (entry_count e rest k))
    (ap (entries_from 0) (ap (λ (n : ℕ). drop (8 + n) l) size ∙ entry_rest e rest))

-- K10: the bytes of entries hold these entries
pub entries_of_bytes : (es : List Entry) → Narrow es → entries (bytes_of es) ≡ holds es
unfolding entries bytes_of
entries_of_bytes [] n = unfold entries_from in refl
entries_of_bytes (e ∷ es) n = entries_front e (bytes_of es) n.0 n.1 ∙ ap (also e) (entries_of_bytes es n.2)

eight : (l : List ℕ) → 8 ≤ length l
    → l ≡ get_or l 0 0 ∷ get_or l 1 0 ∷ get_or l 2 0 ∷ get_or l 3 0 ∷ get_or l 4 0 ∷ get_or l 5 0 ∷ get_or l 6 0 ∷ get_or l 7 0 ∷ drop 8 l
eight [] h = absurd (omega arith)
eight (a ∷ []) h = absurd (omega arith)
eight (a ∷ b ∷ []) h = absurd (omega arith)
eight (a ∷ b ∷ c ∷ []) h = absurd (omega arith)
eight (a ∷ b ∷ c ∷ d ∷ []) h = absurd (omega arith)
eight (a ∷ b ∷ c ∷ d ∷ e ∷ []) h = absurd (omega arith)
eight (a ∷ b ∷ c ∷ d ∷ e ∷ f ∷ []) h = absurd (omega arith)
eight (a ∷ b ∷ c ∷ d ∷ e ∷ f ∷ g ∷ []) h = absurd (omega arith)
eight (a ∷ b ∷ c ∷ d ∷ e ∷ f ∷ g ∷ i ∷ l) h = refl

u32_small : (l : List ℕ) (i : ℕ) → Small l → u32_at l i < 0x100000000
u32_small l i s = omega (arith, s i, s (i + 1), s (i + 2), s (i + 3))

-- bytes that are long enough are an entry and what follows it
entry_whole : (l : List ℕ) → Small l → 8 + u32_at l 0 ≤ length l → l ≡ entry_bytes (entry_at l) ++ drop (8 + u32_at l 0) l
entry_whole l s h =
    let size = u32_at l 0 in
    let form = take size (drop 8 l) in
    let n : length form ≡ size = length-take-le size (drop 8 l) (omega (arith, length-drop 8 l)) in
    let low : u32 (u32_at l 0) ≡ get_or l 0 0 ∷ get_or l 1 0 ∷ get_or l 2 0 ∷ get_or l 3 0 ∷ [] = bytes_u32 _ _ _ _ (s 0) (s 1) (s 2) (s 3) in
    let high : u32 (u32_at l 4) ≡ get_or l 4 0 ∷ get_or l 5 0 ∷ get_or l 6 0 ∷ get_or l 7 0 ∷ [] = bytes_u32 _ _ _ _ (s 4) (s 5) (s 6) (s 7) in
    let header : u32 (length form) ++ (u32 (u32_at l 4) ++ form) ≡ entry_bytes (entry_at l) = unfold entry_bytes in refl in
    let body : drop 8 l ≡ form ++ drop (8 + size) l
    = sym (take-append-drop size (drop 8 l)) ∙ ap (λ (r : List ℕ). form ++ r) (drop-drop size 8 l) in
    eight l (omega arith) ∙ ap (λ (r : List ℕ). get_or l 0 0 ∷ get_or l 1 0 ∷ get_or l 2 0 ∷ get_or l 3 0 ∷ get_or l 4 0 ∷ get_or l 5 0 ∷ get_or l 6 0 ∷ get_or l 7 0 ∷ r) body
    ∙ ap₂ (λ (a b : List ℕ). (a ++ (b ++ form)) ++ drop (8 + size) l) (sym low ∙ ap u32 (sym n)) (sym high)
    ∙ ap (λ (a : List ℕ). a ++ drop (8 + size) l) header

-- what bytes hold, as the entries of which they are the bytes
pub record Reads (l : List ℕ) (es : List Entry) : Type 0 where
  pub is : l ≡ bytes_of es
  pub narrow : Narrow es

small_drop : (n : ℕ) (l : List ℕ) → Small l → Small (drop n l)
small_drop n l s k = subst (λ (b : ℕ). b < 0x100) (sym (get_or-drop n l k 0)) (s (n + k))

none_back : (es : List Entry) → holds [] ≡ holds es → Reads [] es
none_back [] q = record { is = unfold bytes_of in refl; narrow = tt }
none_back (e ∷ es) q =
    let z : ◌≡◌ {A = List Entry} [] (e ∷ es) = cc in
    let n : 0 ≡ suc (length es) = ap length z in
    absurd (omega (arith, n))

-- an entry, and what the bytes after it hold
module _ (l : List ℕ) (s : Small l) (es : List Entry) (fits : 8 + u32_at l 0 ≤ length l) where
  abbrev rest : List ℕ
  rest = drop (8 + u32_at l 0) l

  join_back : (r : Held) → entries_from 0 rest ≡ r → also (entry_at l) r ≡ holds es → ((more : List Entry) → entries_from 0 rest ≡ holds more → Reads rest more) → Reads l es
  join_back damaged q k later = not_held k
  join_back (holds more) q k later =
      let w = later more q in
      let size : length (take (u32_at l 0) (drop 8 l)) ≡ u32_at l 0 = length-take-le (u32_at l 0) (drop 8 l) (omega (arith, length-drop 8 l)) in
      let same : entry_at l ∷ more ≡ es = cc in
      subst (Reads l) same (record {
        is = unfold bytes_of in (entry_whole l s fits ∙ ap (λ (r : List ℕ). entry_bytes (entry_at l) ++ r) w.is);
        narrow = (omega (arith, size, u32_small l 0 s), u32_small l 4 s, w.narrow);
      })

-- what shorter bytes hold determines them
abbrev Shorter : List ℕ → Type 0
Shorter l = (r : List ℕ) (es : List Entry) → length r < length l → Small r → entries_from 0 r ≡ holds es → Reads r es

turn : (l : List ℕ) (es : List Entry) → Small l → entries_from 0 l ≡ holds es → Shorter l → Reads l es
turn [] es s h later = none_back es (unfold entries_from in h)
turn (b ∷ bs) es s h later = go (leb (8 + u32_at (b ∷ bs) 0) (suc (length bs))) refl
  where
    go : (t : Bool) → leb (8 + u32_at (b ∷ bs) 0) (suc (length bs)) ≡ t → Reads (b ∷ bs) es
    go true q =
        let l = b ∷ bs in
        let n = 8 + u32_at l 0 in
        let fits : n ≤ length l = leb-true n (length l) q in
        join_back l s es fits (entries_from 0 (drop n l)) refl (sym (entries_step l fits) ∙ h)
        (λ more k. later (drop n l) more (omega (arith, length-drop n l)) (small_drop n l s) k)
    go false q = let l = b ∷ bs in not_held (sym (entries_cut l (omega arith) (leb-false (8 + u32_at l 0) (length l) q)) ∙ h)

back : (n : ℕ) (l : List ℕ) (es : List Entry) → length l ≤ n → Small l → entries_from 0 l ≡ holds es → Reads l es
back zero l es le s h = turn l es s h (λ r more lt t k. absurd (omega arith))
back (suc n) l es le s h = turn l es s h (λ r more lt t k. back n r more (omega arith) t k)

-- K10: what bytes hold determines them
pub bytes_of_entries : (l : List ℕ) (es : List Entry) → Small l → entries l ≡ holds es → Reads l es
unfolding entries
bytes_of_entries l es s h = back (length l) l es (omega arith) s h
