-- Characters that every rule lets stand (`white_may`, `printable_may`, `plane_may`, `private_may`, `beyond_may`), and the number by which
-- code names a rule (`by_number`, `faults_by_number`). Assumes nothing.
use mathlib.Core.Path.{◌≡◌, refl, sym, ap, ◌∙◌}
use mathlib.Core.Bool.{Bool, true, false, not, ◌&&◌, ◌||◌}
use mathlib.Core.List.{List}
use Prim.Native.Nat.{ℕ, zero, suc, ◌≤◌, ◌<◌}
use native.Mathlib.Omega.{arith}
use lib.Dec.{eqb, leb, ltb}
use borrow.Author.Tests.{eqb-true, eqb-false, ne_eqb, leb-true, leb-false, le-leb, ltb-true, ltb-false, lt-ltb, le-ltb}
use Rattle.text.specs.Bytes.{pick, within}
use Rattle.text.specs.Version.{Rule, xml10, xml11}
use Rattle.text.proofs.Bytes.{inside, above, below, contrary}
use Rattle.legal.specs.Legal.{is_char, is_restricted, Place, in_value, in_table, may_stand, fault_at}
use Rattle.legal.specs.FirstFault.{may_by, faults_by, rule_number}

pub by_number : (p : Place) (r : Rule) (n : ℕ) → may_by (rule_number p r) n ≡ may_stand p r n
unfolding may_by rule_number
by_number in_value xml10 n = refl
by_number in_value xml11 n = refl
by_number in_table xml10 n = refl
by_number in_table xml11 n = refl

pub faults_by_number : (p : Place) (r : Rule) (bytes : List ℕ) → faults_by (rule_number p r) bytes ≡ fault_at (may_stand p r) bytes
unfolding faults_by rule_number
faults_by_number in_value xml10 bytes = refl
faults_by_number in_value xml11 bytes = refl
faults_by_number in_table xml10 bytes = refl
faults_by_number in_table xml11 bytes = refl

-- a Char of both versions that is not restricted stands anywhere
may_stand_lem : (rule n : ℕ) → is_char xml10 n ≡ true → is_char xml11 n ≡ true → is_restricted n ≡ false → may_by rule n ≡ true
unfolding may_by
may_stand_lem zero n a b c = a
may_stand_lem (suc zero) n a b c = rw (b, c)
may_stand_lem (suc (suc rule)) n a b c = b

-- past the control characters nothing is restricted
unrestricted : (n : ℕ) → 0xA0 ≤ n → is_restricted n ≡ false
unfolding is_restricted
unrestricted n h =
    rw (above 1 8 n (omega arith), above 0xB 0xC n (omega arith), above 0xE 0x1F n (omega arith), above 0x7F 0x84 n (omega arith), above 0x86 0x9F n h)

-- nor is a character white space
not_white : (n : ℕ) → 0x20 ≤ n → eqb n 9 || eqb n 0xA || eqb n 0xD ≡ false
not_white n h = rw (ne_eqb n 9 (λ q. omega arith), ne_eqb n 0xA (λ q. omega arith), ne_eqb n 0xD (λ q. omega arith))

tab_may : (rule : ℕ) → may_by rule 9 ≡ true
unfolding is_char is_restricted
tab_may rule = may_stand_lem rule 9 refl refl refl

lf_may : (rule : ℕ) → may_by rule 0xA ≡ true
unfolding is_char is_restricted
lf_may rule = may_stand_lem rule 0xA refl refl refl

cr_may : (rule : ℕ) → may_by rule 0xD ≡ true
unfolding is_char is_restricted
cr_may rule = may_stand_lem rule 0xD refl refl refl

-- TAB, LF and CR
pub white_may : (rule n : ℕ) → eqb n 9 || eqb n 0xA || eqb n 0xD ≡ true → may_by rule n ≡ true
white_may rule n e = go (eqb n 9) refl (eqb n 0xA) refl (eqb n 0xD) refl
  where
    go : (a : Bool) → eqb n 9 ≡ a → (b : Bool) → eqb n 0xA ≡ b → (c : Bool) → eqb n 0xD ≡ c → may_by rule n ≡ true
    go true p b q c r = rw (eqb-true n 9 p) (tab_may rule)
    go false p true q c r = rw (eqb-true n 0xA q) (lf_may rule)
    go false p false q true r = rw (eqb-true n 0xD r) (cr_may rule)
    go false p false q false r = contrary e (rw (p, q, r))

-- 20 to 7E
pub printable_may : (rule n : ℕ) → 0x20 ≤ n → n ≤ 0x7E → may_by rule n ≡ true
unfolding is_char is_restricted
printable_may rule n g h =
    may_stand_lem rule n
    (rw (not_white n g, inside 0x20 0xD7FF n g (omega arith)))
    (rw (inside 1 0xD7FF n (omega arith) (omega arith)))
    (rw (above 1 8 n (omega arith), above 0xB 0xC n (omega arith), above 0xE 0x1F n (omega arith), below 0x7F 0x84 n (omega arith), below 0x86 0x9F n (omega arith)))

-- A0 to D7FF
pub plane_may : (rule n : ℕ) → 0xA0 ≤ n → n ≤ 0xD7FF → may_by rule n ≡ true
unfolding is_char
plane_may rule n g h =
    may_stand_lem rule n
    (rw (not_white n (omega arith), inside 0x20 0xD7FF n (omega arith) h))
    (rw (inside 1 0xD7FF n (omega arith) h))
    (unrestricted n g)

-- E000 to FFFD
pub private_may : (rule n : ℕ) → 0xE000 ≤ n → n ≤ 0xFFFD → may_by rule n ≡ true
unfolding is_char
private_may rule n g h =
    may_stand_lem rule n
    (rw (not_white n (omega arith), above 0x20 0xD7FF n (omega arith), inside 0xE000 0xFFFD n g h))
    (rw (above 1 0xD7FF n (omega arith), inside 0xE000 0xFFFD n g h))
    (unrestricted n (omega arith))

-- 10000 to 10FFFF
pub beyond_may : (rule n : ℕ) → 0x10000 ≤ n → n ≤ 0x10FFFF → may_by rule n ≡ true
unfolding is_char
beyond_may rule n g h =
    may_stand_lem rule n
    (rw (not_white n (omega arith), above 0x20 0xD7FF n (omega arith), above 0xE000 0xFFFD n (omega arith), inside 0x10000 0x10FFFF n g h))
    (rw (above 1 0xD7FF n (omega arith), above 0xE000 0xFFFD n (omega arith), inside 0x10000 0x10FFFF n g h))
    (unrestricted n (omega arith))

-- ---- the others

-- 80 to BF in a value under 1.1
pub second_may : (n : ℕ) → 0x80 ≤ n → n ≤ 0xBF → not (may_by 1 n) ≡ leb n 0x9F && not (eqb n 0x85)
unfolding may_by
second_may n g h =
    rw (inside 1 0xD7FF n (omega arith) (omega arith), above 1 8 n (omega arith), above 0xB 0xC n (omega arith), above 0xE 0x1F n (omega arith))
    (go (ltb n 0x85) refl (eqb n 0x85) refl (leb n 0x9F) refl)
  where
    go : (x : Bool) → ltb n 0x85 ≡ x → (y : Bool) → eqb n 0x85 ≡ y → (z : Bool) → leb n 0x9F ≡ z
        → not (not (within 0x7F 0x84 n || within 0x86 0x9F n)) ≡ leb n 0x9F && not (eqb n 0x85)
    go true e y f z k =
        let a : n < 0x85 = ltb-true n 0x85 e in
        rw (inside 0x7F 0x84 n (omega arith) (omega arith), le-leb n 0x9F (omega arith), ne_eqb n 0x85 (λ q. omega arith))
    go false e true f z k = let q : n ≡ 0x85 = eqb-true n 0x85 f in rw q
    go false e false f true k =
        let a : 0x85 ≤ n = ltb-false n 0x85 e in
        let q : n ≡ 0x85 → ⊥ = eqb-false n 0x85 f in
        rw (above 0x7F 0x84 n (omega arith), inside 0x86 0x9F n (omega arith) (leb-true n 0x9F k), k, f)
    go false e false f false k =
        let a : 0x9F < n = leb-false n 0x9F k in
        rw (above 0x7F 0x84 n (omega arith), above 0x86 0x9F n a, k)

-- 7F to BF anywhere else
pub upper_may : (rule n : ℕ) → (rule ≡ 1 → ⊥) → 0x7F ≤ n → n ≤ 0xBF → may_by rule n ≡ true
unfolding may_by
upper_may zero n p g h = rw (not_white n (omega arith), inside 0x20 0xD7FF n (omega arith) (omega arith))
upper_may (suc zero) n p g h = absurd (p refl)
upper_may (suc (suc rule)) n p g h = rw (inside 1 0xD7FF n (omega arith) (omega arith))

-- FFFE and FFFF nowhere
pub noncharacter : (rule n : ℕ) → 0xFFFE ≤ n → n ≤ 0xFFFF → may_by rule n ≡ false
unfolding may_by
noncharacter zero n g h =
    rw (not_white n (omega arith), above 0x20 0xD7FF n (omega arith), above 0xE000 0xFFFD n g, below 0x10000 0x10FFFF n (omega arith))
noncharacter (suc zero) n g h = rw (above 1 0xD7FF n (omega arith), above 0xE000 0xFFFD n g, below 0x10000 0x10FFFF n (omega arith))
noncharacter (suc (suc rule)) n g h = rw (above 1 0xD7FF n (omega arith), above 0xE000 0xFFFD n g, below 0x10000 0x10FFFF n (omega arith))

-- ---- below 80, the way code asks

-- white space aside, a control character
abbrev pub is_control : ℕ → Bool
is_control n = ltb n 32 && not (eqb n 9) && not (eqb n 10) && not (eqb n 13)

-- 7F in a value under 1.1; NUL in a text of the table under 1.1, every control character elsewhere
abbrev pub ascii_fault : ℕ → ℕ → Bool
ascii_fault rule n = pick (eqb n 127) (eqb rule 1) (pick (leb 2 rule) (eqb n 0) (is_control n))

-- from 20 to 7E none, and neither does code find one
plain_fault : (rule n : ℕ) → 0x20 ≤ n → n ≤ 0x7E → ascii_fault rule n ≡ false
plain_fault rule n g h = rw (ne_eqb n 127 (λ q. omega arith), ne_eqb n 0 (λ q. omega arith), le-ltb n 32 g) (go (leb 2 rule))
  where
    go : (x : Bool) → pick x false false ≡ false
    go true = refl
    go false = refl

-- a control character under 1.0
older_control : (n : ℕ) → n < 0x20 → not (may_by 0 n) ≡ is_control n
unfolding may_by
older_control n h =
    rw (below 0x20 0xD7FF n h, below 0xE000 0xFFFD n (omega arith), below 0x10000 0x10FFFF n (omega arith), lt-ltb n 32 h) (go (eqb n 9) (eqb n 10) (eqb n 13))
  where
    go : (a b c : Bool) → not (a || b || c || false || false || false) ≡ true && not a && not b && not c
    go true b c = refl
    go false true c = refl
    go false false true = refl
    go false false false = refl

-- and in a value under 1.1
newer_control : (n : ℕ) → n < 0x20 → not (may_by 1 n) ≡ is_control n
unfolding may_by
newer_control n h =
    rw (lt-ltb n 32 h, below 0xE000 0xFFFD n (omega arith), below 0x10000 0x10FFFF n (omega arith), below 0x7F 0x84 n (omega arith), below 0x86 0x9F n (omega arith))
    (go (eqb n 9) refl (eqb n 10) refl (eqb n 13) refl)
  where
    not_space : (n ≡ 9 → ⊥) → (n ≡ 10 → ⊥) → (n ≡ 13 → ⊥) → (a : Bool) → eqb n 0 ≡ a → (b : Bool) → ltb n 9 ≡ b → (c : Bool) → ltb n 13 ≡ c
        → not ((within 1 0xD7FF n || false || false) && not (within 1 8 n || within 0xB 0xC n || within 0xE 0x1F n || false || false)) ≡ true
    not_space tab lf cr true p b q c r = let e : n ≡ 0 = eqb-true n 0 p in rw e
    not_space tab lf cr false p true q c r =
        let a : n ≡ 0 → ⊥ = eqb-false n 0 p in
        let b : n < 9 = ltb-true n 9 q in
        rw (inside 1 0xD7FF n (omega arith) (omega arith), inside 1 8 n (omega arith) (omega arith))
    not_space tab lf cr false p false q true r =
        let a : 9 ≤ n = ltb-false n 9 q in
        let b : n < 13 = ltb-true n 13 r in
        rw (inside 1 0xD7FF n (omega arith) (omega arith), above 1 8 n (omega arith), inside 0xB 0xC n (omega arith) (omega arith))
    not_space tab lf cr false p false q false r =
        let a : 13 ≤ n = ltb-false n 13 r in
        rw (inside 1 0xD7FF n (omega arith) (omega arith), above 1 8 n (omega arith), above 0xB 0xC n (omega arith), inside 0xE 0x1F n (omega arith) (omega arith))

    go : (a : Bool) → eqb n 9 ≡ a → (b : Bool) → eqb n 10 ≡ b → (c : Bool) → eqb n 13 ≡ c
        → not ((within 1 0xD7FF n || false || false) && not (within 1 8 n || within 0xB 0xC n || within 0xE 0x1F n || false || false))
        ≡ true && not (eqb n 9) && not (eqb n 10) && not (eqb n 13)
    go true p b q c r = let e : n ≡ 9 = eqb-true n 9 p in rw e
    go false p true q c r = let e : n ≡ 10 = eqb-true n 10 q in rw e
    go false p false q true r = let e : n ≡ 13 = eqb-true n 13 r in rw e
    go false p false q false r =
        rw (p, q, r)
        (not_space (eqb-false n 9 p) (eqb-false n 10 q) (eqb-false n 13 r) (eqb n 0) refl (ltb n 9) refl (ltb n 13) refl)

-- and in a text of the table
table_control : (rule n : ℕ) → n < 0x20 → not (may_by (suc (suc rule)) n) ≡ eqb n 0
unfolding may_by
table_control rule n h = rw (below 0xE000 0xFFFD n (omega arith), below 0x10000 0x10FFFF n (omega arith)) (go (eqb n 0) refl)
  where
    go : (a : Bool) → eqb n 0 ≡ a → not (within 1 0xD7FF n || false || false) ≡ eqb n 0
    go true e = let q : n ≡ 0 = eqb-true n 0 e in rw q
    go false e =
        let q : n ≡ 0 → ⊥ = eqb-false n 0 e in
        rw (inside 1 0xD7FF n (omega arith) (omega arith), e)

-- U+007F
delete_may : (rule : ℕ) → not (may_by rule 0x7F) ≡ eqb rule 1
unfolding may_by
delete_may zero = refl
delete_may (suc zero) = refl
delete_may (suc (suc rule)) = sym (ne_eqb (suc (suc rule)) 1 (λ q. omega arith))

pub ascii_may : (rule n : ℕ) → n < 0x80 → not (may_by rule n) ≡ ascii_fault rule n
ascii_may rule n h = go (ltb n 0x20) refl (eqb n 0x7F) refl
  where
    control : (r : ℕ) → n < 0x20 → not (may_by r n) ≡ pick (leb 2 r) (eqb n 0) (is_control n)
    control zero k = older_control n k
    control (suc zero) k = newer_control n k
    control (suc (suc r)) k = rw (le-leb 2 (suc (suc r)) (omega arith)) (table_control r n k)

    go : (a : Bool) → ltb n 0x20 ≡ a → (b : Bool) → eqb n 0x7F ≡ b → not (may_by rule n) ≡ ascii_fault rule n
    go true e b f = let k : n < 0x20 = ltb-true n 0x20 e in rw (ne_eqb n 127 (λ q. omega arith)) (control rule k)
    go false e true f = let q : n ≡ 0x7F = eqb-true n 0x7F f in rw q (delete_may rule)
    go false e false f =
        let k : 0x20 ≤ n = ltb-false n 0x20 e in
        let q : n ≡ 0x7F → ⊥ = eqb-false n 0x7F f in
        ap not (printable_may rule n k (omega arith)) ∙ sym (plain_fault rule n k (omega arith))
