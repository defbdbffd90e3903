-- What the heads of a call's reading make of the byte at a place, lenient and strict: a reference to a name has the place as its offset
-- (`value_names`, `text_names`), and a character is barred where one begins that may not stand there (`value_bars`). Assumes nothing.
use mathlib.Core.Path.{◌≡◌, refl, subst}
use Prim.Native.Nat.{ℕ, zero, suc}
use native.Mathlib.Omega.{arith}
use mathlib.Core.Bool.{Bool, true, false, ◌||◌}
use mathlib.Core.List.{List, [], ◌∷◌}
use lib.Dec.{eqb}
use lib.ListN.{length}
use Rattle.text.specs.Bytes.{pick}
use Rattle.text.specs.Version.{Rule, xml10, xml11}
use Rattle.text.proofs.Bytes.{pick_both}
use Rattle.eols.specs.LineEnds.{line_end}
use Rattle.entity.specs.Table.{marked}
use Rattle.legal.specs.Legal.{Place, in_value, in_table, may_stand, fault_at}
use Rattle.tokens.specs.Tokens.{kept, space, number, named, copy, stop, barred, Head, head, token_of, Heads, Name, ended, endless, name_at, reference_to, reference_at}
use Rattle.tokens.proofs.Barred.{IsBarred, BarsNothing}
use Rattle.unescape.specs.Unescape.{text_head}
use Rattle.attribute.specs.Heads.{space_or, other_head, attribute_head, past_head}
use Rattle.attribute.specs.Walk.{inner_head, reading, reading_of}
use Rattle.attribute.specs.Strict.{barring, strictly, reading_by}
use Rattle.attribute.proofs.Heads.{attribute_passes, inner_passes}
use Rattle.requests.specs.Reached.{heads_in}

-- ---- a reference to a name

-- a head that is one has this offset
abbrev Names : ℕ → Head → Type 0
Names k h = (offset : ℕ) (name : List ℕ) → stop (named offset name) ≡ token_of h → offset ≡ k

abbrev pub NamesHere : Heads → Type 0
NamesHere at = (k b : ℕ) (bs : List ℕ) → Names k (at k b bs)

names_copy : (k c w : ℕ) → Names k (head (copy c) w)
names_copy k c w offset name e = let z : ◌≡◌ {A = ℕ} 0 1 = cc in absurd (omega (arith, z))

names_barred : (k c w : ℕ) → Names k (head (barred c) w)
names_barred k c w offset name e = let z : ◌≡◌ {A = ℕ} 0 1 = cc in absurd (omega (arith, z))

names_space : (k w : ℕ) → Names k (head (stop space) w)
names_space k w offset name e = let z : ◌≡◌ {A = ℕ} 0 1 = cc in absurd (omega (arith, z))

names_kept : (k b w : ℕ) → Names k (head (stop (kept b)) w)
names_kept k b w offset name e = let z : ◌≡◌ {A = ℕ} 0 1 = cc in absurd (omega (arith, z))

names_reference : (k : ℕ) (bs : List ℕ) (n : Name) → Names k (reference_at k bs n)
unfolding reference_at reference_to
names_reference k bs (ended []) = λ offset name e. cc
names_reference k bs (ended (b ∷ rest)) =
    pick_both (Names k) (eqb b 35) {a = head (stop (number rest)) (suc (suc (length rest)))} {b = head (stop (named k (b ∷ rest))) (suc (suc (length rest)))}
    (λ offset name e. let z : ◌≡◌ {A = ℕ} 0 1 = cc in absurd (omega (arith, z))) (λ offset name e. cc)
names_reference k bs endless = λ offset name e. let z : ◌≡◌ {A = ℕ} 0 1 = cc in absurd (omega (arith, z))

names_line : (k w : ℕ) (h : Head) → Names k h → Names k (space_or w h)
unfolding space_or
names_line k zero h p = p
names_line k (suc w) h p = names_space k w

names_rest : (r : Rule) (k b : ℕ) → Names k (other_head r b)
unfolding other_head
names_rest xml10 k b = names_copy k b 0
names_rest xml11 k b = pick_both (Names k) (eqb b 0xC2 || eqb b 0xE2) {a = head (stop (kept b)) 0} {b = head (copy b) 0} (names_kept k b 0) (names_copy k b 0)

attribute_names : (r : Rule) → NamesHere (attribute_head r)
unfolding attribute_head
attribute_names r k b bs =
    let other = space_or (line_end r (b ∷ bs)) (other_head r b) in
    pick_both (Names k) (eqb b 38) {a = reference_at k bs (name_at false bs)} {b = pick (eqb b 9) (head (stop space) 0) other} (names_reference k bs (name_at false bs))
    (pick_both (Names k) (eqb b 9) {a = head (stop space) 0} {b = other} (names_space k 0) (names_line k (line_end r (b ∷ bs)) (other_head r b) (names_rest r k b)))

inner_names : (past : Bool) (r : Rule) → NamesHere (inner_head past r)
unfolding inner_head past_head
inner_names false r k b bs = attribute_names r k b bs
inner_names true r k b bs =
    let white = eqb b 9 || eqb b 10 || eqb b 13 in
    pick_both (Names k) (eqb b 38) {a = reference_at k bs (name_at false bs)} {b = pick white (head (stop space) 0) (head (copy b) 0)} (names_reference k bs (name_at false bs))
    (pick_both (Names k) white {a = head (stop space) 0} {b = head (copy b) 0} (names_space k 0) (names_copy k b 0))

barring_names : (may : ℕ → Bool) (at : Heads) → NamesHere at → NamesHere (barring may at)
unfolding barring
barring_names may at h k b bs = pick_both (Names k) (fault_at may (b ∷ bs)) {a = head (barred k) 0} {b = at k b bs} (names_barred k k 0) (h k b bs)

-- in every text that a call reads as an attribute's, and in one that it unescapes
pub value_names : (strict : Bool) (r : Rule) (list pool : List ℕ) (limit : ℕ) (p : Place) → NamesHere (heads_in (reading_by strict r list pool limit) p)
unfolding reading_by reading_of reading strictly
value_names false r list pool limit in_value = attribute_names r
value_names false r list pool limit in_table = inner_names (marked list) r
value_names true r list pool limit in_value = barring_names (may_stand in_value r) (attribute_head r) (attribute_names r)
value_names true r list pool limit in_table = barring_names (may_stand in_table r) (inner_head (marked list) r) (inner_names (marked list) r)

pub text_names : NamesHere text_head
unfolding text_head
text_names k b bs = pick_both (Names k) (eqb b 38) {a = reference_at k bs (name_at true bs)} {b = head (copy b) 0} (names_reference k bs (name_at true bs)) (names_copy k b 0)

-- ---- a character that is barred

-- a head that bars one has this offset, and there begins a fault
abbrev Bars : (ℕ → Bool) → Heads → Type 0
Bars may at = (k b : ℕ) (bs : List ℕ) (offset : ℕ) → barred offset ≡ token_of (at k b bs) → (offset ≡ k) × (fault_at may (b ∷ bs) ≡ true)

-- and where one begins it does
abbrev BarsAll : (ℕ → Bool) → Heads → Type 0
BarsAll may at = (k b : ℕ) (bs : List ℕ) → fault_at may (b ∷ bs) ≡ true → barred k ≡ token_of (at k b bs)

barring_bars : (may : ℕ → Bool) (at : Heads) → BarsNothing at → Bars may (barring may at)
unfolding barring
barring_bars may at none k b bs offset e = go (fault_at may (b ∷ bs)) refl e
  where
    go : (x : Bool) → fault_at may (b ∷ bs) ≡ x → barred offset ≡ token_of (pick x (head (barred k) 0) (at k b bs)) → (offset ≡ k) × (fault_at may (b ∷ bs) ≡ true)
    go true q i = (cc, q)
    go false q i = absurd (none k b bs (subst IsBarred i tt))

barring_all : (may : ℕ → Bool) (at : Heads) → BarsAll may (barring may at)
unfolding barring
barring_all may at k b bs e = rw e refl

-- in every text that is strictly read
pub value_bars : (r : Rule) (list pool : List ℕ) (limit : ℕ) (p : Place)
    → Bars (may_stand p r) (heads_in (reading_by true r list pool limit) p) × BarsAll (may_stand p r) (heads_in (reading_by true r list pool limit) p)
unfolding reading_by reading_of reading strictly
value_bars r list pool limit in_value =
    (barring_bars (may_stand in_value r) (attribute_head r) (attribute_passes r), barring_all (may_stand in_value r) (attribute_head r))
value_bars r list pool limit in_table =
    (barring_bars (may_stand in_table r) (inner_head (marked list) r) (inner_passes (marked list) r), barring_all (may_stand in_table r) (inner_head (marked list) r))
