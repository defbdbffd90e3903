-- The canonical form run by run: a run without U+0085 and U+2028 is written as level 3, each of those by its reference. Assumes nothing.
use mathlib.Core.Path.{◌≡◌, refl, sym, ap, ap₂, ◌∙◌}
use mathlib.Core.Bool.{Bool, true, false, true≢false}
use mathlib.Core.List.{List, [], ◌∷◌, ◌++◌, append_assoc}
use Prim.Native.Nat.{ℕ, zero, suc, ◌+◌, ◌-◌, ◌*◌, ◌≤◌, ◌<◌}
use native.Mathlib.Omega.{arith}
use lib.ListN.{length, take, drop, get_or, length-drop, length-append, length-take, drop_of_length-le}
use lib.Seq.{drop-cons, drop-drop}
use Rattle.text.specs.Bytes.{pick, begins}
use borrow.Rule.Slice.PartMut.{mid_of, put_mid}
use Rattle.text.specs.Call.{laid}
use Rattle.text.specs.Version.{Rule, xml10, xml11}
use Rattle.text.proofs.Bytes.{pick_by}
use Rattle.output.proofs.Written.{Written, written_as, written_more, piece_room}
use Rattle.eols.specs.Stops.{rule_for}
use Rattle.text.proofs.Patterns.{begins_fits}
use Rattle.escape.specs.Escape.{attribute, level_set, write, write_byte}
use Rattle.escape.proofs.Levels.{escape_most}
use Rattle.canonical.specs.Canonical.{canonical_byte, covered, canonical_from}
use Rattle.runs.specs.Specials.{special, Common}
use Rattle.canonical.specs.Runs.{special_reference}

-- to skip is to start later
pub canonical_skip : (r : Rule) (k : ℕ) (value : List ℕ) → canonical_from r k value ≡ canonical_from r 0 (drop k value)
unfolding canonical_from
canonical_skip r zero value = refl
canonical_skip r (suc k) [] = refl
canonical_skip r (suc k) (b ∷ bs) = canonical_skip r k bs

-- a byte that starts no character of the writer's own
pub common_byte : (r : Rule) (b : ℕ) (bs : List ℕ) → special r (b ∷ bs) ≡ 0 → canonical_from r 0 (b ∷ bs) ≡ write_byte (level_set attribute) b ++ canonical_from r 0 bs
unfolding canonical_from canonical_byte covered
common_byte xml10 b bs e = refl
common_byte xml11 b bs e = go (begins (0xC2 ∷ 0x85 ∷ []) (b ∷ bs)) (begins (0xE2 ∷ 0x80 ∷ 0xA8 ∷ []) (b ∷ bs)) e
  where
    go : (s t : Bool) → ◌≡◌ {A = ℕ} (pick s 2 (pick t 3 0)) 0
        → pick s (38 ∷ 35 ∷ 49 ∷ 51 ∷ 51 ∷ 59 ∷ []) (pick t (38 ∷ 35 ∷ 56 ∷ 50 ∷ 51 ∷ 50 ∷ 59 ∷ []) (write_byte (level_set attribute) b)) ++ canonical_from xml11 (pick s 1 (pick t 2 0)) bs
        ≡ write_byte (level_set attribute) b ++ canonical_from xml11 0 bs
    go true t h = absurd (omega (arith, h))
    go false true h = absurd (omega (arith, h))
    go false false h = refl

-- one that does
pub special_byte : (r : Rule) (b : ℕ) (bs : List ℕ) (w : ℕ) → special r (b ∷ bs) ≡ w + 1
    → canonical_from r 0 (b ∷ bs) ≡ special_reference (w + 1) ++ canonical_from r 0 (drop w bs)
unfolding canonical_from canonical_byte covered
special_byte xml10 b bs w e = absurd (omega (arith, e))
special_byte xml11 b bs w e = go (begins (0xC2 ∷ 0x85 ∷ []) (b ∷ bs)) (begins (0xE2 ∷ 0x80 ∷ 0xA8 ∷ []) (b ∷ bs)) e
  where
    go : (s t : Bool) → ◌≡◌ {A = ℕ} (pick s 2 (pick t 3 0)) (w + 1)
        → pick s (38 ∷ 35 ∷ 49 ∷ 51 ∷ 51 ∷ 59 ∷ []) (pick t (38 ∷ 35 ∷ 56 ∷ 50 ∷ 51 ∷ 50 ∷ 59 ∷ []) (write_byte (level_set attribute) b)) ++ canonical_from xml11 (pick s 1 (pick t 2 0)) bs
        ≡ special_reference (w + 1) ++ canonical_from xml11 0 (drop w bs)
    go true t h = let q : w ≡ 1 = omega (arith, h) in rw (q, canonical_skip xml11 1 bs)
    go false true h = let q : w ≡ 2 = omega (arith, h) in rw (q, canonical_skip xml11 2 bs)
    go false false h = absurd (omega (arith, h))

-- a run of common bytes
pub common_run : (r : Rule) (value : List ℕ) (n i : ℕ) → i + n ≤ length value → ((k : ℕ) → i ≤ k → k < i + n → special r (drop k value) ≡ 0)
    → canonical_from r 0 (drop i value) ≡ write (level_set attribute) (take n (drop i value)) ++ canonical_from r 0 (drop (i + n) value)
unfolding write
common_run r value zero i h none = let q : i + 0 ≡ i = omega arith in rw q refl
common_run r value (suc n) i h none =
    let q : suc i + n ≡ i + suc n = omega arith in
    let here = drop-cons value i 0 (omega (arith, h)) in
    let one : special r (get_or value i 0 ∷ drop (suc i) value) ≡ 0 = rw here at (none i (omega arith) (omega arith)) in
    let more = common_run r value n (suc i) (omega (arith, h)) (λ k a b. none k (omega (arith, a)) (omega (arith, b))) in
    rw here (common_byte r (get_or value i 0) (drop (suc i) value) one ∙ rw (more, q, append_assoc) refl)

-- only the newer version has any
pub special_newer : (newer : Bool) (l : List ℕ) → 0 < special (rule_for newer) l → special (rule_for newer) l ≡ special xml11 l
special_newer false l h = absurd (omega (arith, h))
special_newer true l h = refl

pub special_fits : (t : List ℕ) (i : ℕ) → i < length t → i + special xml11 (drop i t) ≤ length t
special_fits t i h =
    pick_by (λ (w : ℕ). i + w ≤ length t) (begins (0xC2 ∷ 0x85 ∷ []) (drop i t)) {a = 2} {b = pick (begins (0xE2 ∷ 0x80 ∷ 0xA8 ∷ []) (drop i t)) 3 0}
    (λ e. omega (arith, begins_fits (0xC2 ∷ 0x85 ∷ []) (drop i t) e, length-drop i t))
    (λ e. pick_by (λ (w : ℕ). i + w ≤ length t) (begins (0xE2 ∷ 0x80 ∷ 0xA8 ∷ []) (drop i t)) {a = 3} {b = 0}
    (λ f. omega (arith, begins_fits (0xE2 ∷ 0x80 ∷ 0xA8 ∷ []) (drop i t) f, length-drop i t))
    (λ f. omega arith))

-- ---- runs

-- the older version has none at all
pub common_older : (newer : Bool) (t : List ℕ) (i : ℕ) → newer ≡ false → i ≤ length t → Common (rule_for newer) t i (length t)
common_older false t i e h = record { from = h; to = omega arith; none = λ k a b. refl }
common_older true t i e h = absurd (true≢false e)

pub common_newer : (newer : Bool) (t : List ℕ) (i e : ℕ) → newer ≡ true → Common xml11 t i e → Common (rule_for newer) t i e
common_newer false t i e h p = absurd (true≢false (sym h))
common_newer true t i e h p = p

pub newer_special : (newer : Bool) (l : List ℕ) → newer ≡ true → 0 < special xml11 l → 0 < special (rule_for newer) l
newer_special false l h p = absurd (true≢false (sym h))
newer_special true l h p = p

-- a run, and then the rest
pub common_write : (r : Rule) (t : List ℕ) (i e : ℕ) → Common r t i e
    → canonical_from r 0 (drop i t) ≡ write (level_set attribute) (take (e - i) (drop i t)) ++ canonical_from r 0 (drop e t)
common_write r t i e p =
    let q : i + (e - i) ≡ e = omega (arith, p.from) in
    rw q at (common_run r t (e - i) i (omega (arith, p.from, p.to)) (λ k a b. p.none k a (omega (arith, b, p.from))))

-- one of the two, and then the rest
pub special_write : (r : Rule) (t : List ℕ) (i w : ℕ) → i < length t → w ≡ special r (drop i t) → 0 < w
    → canonical_from r 0 (drop i t) ≡ special_reference w ++ canonical_from r 0 (drop (i + w) t)
special_write r t i w h e p =
    let q : w ≡ w - 1 + 1 = omega (arith, p) in
    let s : suc i + (w - 1) ≡ i + w = omega (arith, p) in
    let here : drop i t ≡ get_or t i 0 ∷ drop (suc i) t = drop-cons t i 0 h in
    let f : special r (get_or t i 0 ∷ drop (suc i) t) ≡ w - 1 + 1 = sym (ap (special r) here) ∙ sym e ∙ q in
    ap (canonical_from r 0) here
    ∙ special_byte r (get_or t i 0) (drop (suc i) t) (w - 1) f
    ∙ ap₂ (λ (n : ℕ) (l : List ℕ). special_reference n ++ canonical_from r 0 l) (sym q) (drop-drop (w - 1) (suc i) t ∙ ap (λ (n : ℕ). drop n t) s)

-- ---- counting and writing

-- past the end nothing is left
pub canonical_over : (r : Rule) (t : List ℕ) (i : ℕ) → length t ≤ i → canonical_from r 0 (drop i t) ≡ []
unfolding canonical_from
canonical_over r t i h = rw (drop_of_length-le t h)

module _ (r : Rule) (t : List ℕ) (i e : ℕ) (p : Common r t i e) {run : List ℕ} (same : run ≡ write (level_set attribute) (take (e - i) (drop i t))) where
  by_run : canonical_from r 0 (drop i t) ≡ run ++ canonical_from r 0 (drop e t)
  by_run = common_write r t i e p ∙ ap (λ (l : List ℕ). l ++ canonical_from r 0 (drop e t)) (sym same)

  pub run_length : length (canonical_from r 0 (drop i t)) ≡ length run + length (canonical_from r 0 (drop e t))
  run_length = ap length by_run ∙ length-append run (canonical_from r 0 (drop e t))

  pub run_most : length run ≤ 6 * (e - i)
  run_most = omega (arith, ap length same, escape_most attribute (take (e - i) (drop i t)), length-take (e - i) (drop i t))

  module _ {whole old out : List ℕ} {at : ℕ} (w : Written whole (canonical_from r 0 (drop i t)) old out at) where
    run_next : Written whole (run ++ canonical_from r 0 (drop e t)) old out at
    run_next = written_as by_run w

    pub run_room : length whole ≤ length old → length run ≤ length (mid_of at (length out - at) out)
    run_room h = piece_room run (canonical_from r 0 (drop e t)) run_next h

    pub run_written : {n : ℕ} {part : List ℕ} → n ≡ length run → part ≡ laid run (mid_of at (length out - at) out)
        → Written whole (canonical_from r 0 (drop e t)) old (put_mid at (length out - at) out part) (at + n)
    run_written m q = rw m (written_more run run_next q)

module _ (newer : Bool) (t : List ℕ) (i : ℕ) (h : i < length t) (some : 0 < special (rule_for newer) (drop i t)) {w : ℕ} (e : w ≡ special xml11 (drop i t)) where
  own_width : w ≡ special (rule_for newer) (drop i t)
  own_width = e ∙ sym (special_newer newer (drop i t) some)

  by_reference : canonical_from (rule_for newer) 0 (drop i t) ≡ special_reference w ++ canonical_from (rule_for newer) 0 (drop (i + w) t)
  by_reference = special_write (rule_for newer) t i w h own_width (omega (arith, own_width, some))

  pub own_least : 2 ≤ w
  own_least =
      let q : 0 < special xml11 (drop i t) = omega (arith, own_width, e, some) in
      omega (arith, e, two_at_least (begins (0xC2 ∷ 0x85 ∷ []) (drop i t)) (begins (0xE2 ∷ 0x80 ∷ 0xA8 ∷ []) (drop i t)) q)
    where
      two_at_least : (a b : Bool) → 0 < pick a 2 (pick b 3 0) → 2 ≤ pick a 2 (pick b 3 0)
      two_at_least true b k = omega arith
      two_at_least false true k = omega arith
      two_at_least false false k = absurd (omega (arith, k))

  pub own_inside : i + w ≤ length t
  own_inside = omega (arith, e, special_fits t i h)

  pub own_length : length (canonical_from (rule_for newer) 0 (drop i t)) ≡ length (special_reference w) + length (canonical_from (rule_for newer) 0 (drop (i + w) t))
  own_length = ap length by_reference ∙ length-append (special_reference w) (canonical_from (rule_for newer) 0 (drop (i + w) t))

  module _ {whole old out : List ℕ} {at : ℕ} (p : Written whole (canonical_from (rule_for newer) 0 (drop i t)) old out at) where
    own_next : Written whole (special_reference w ++ canonical_from (rule_for newer) 0 (drop (i + w) t)) old out at
    own_next = written_as by_reference p

    pub own_room : length whole ≤ length old → length (special_reference w) ≤ length (mid_of at (length out - at) out)
    own_room g = piece_room (special_reference w) (canonical_from (rule_for newer) 0 (drop (i + w) t)) own_next g

    pub own_written : {n : ℕ} {part : List ℕ} → n ≡ length (special_reference w) → part ≡ laid (special_reference w) (mid_of at (length out - at) out)
        → Written whole (canonical_from (rule_for newer) 0 (drop (i + w) t)) old (put_mid at (length out - at) out part) (at + n)
    own_written m q = rw m (written_more (special_reference w) own_next q)
