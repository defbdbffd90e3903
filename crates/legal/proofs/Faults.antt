-- Faults by their bytes, the way code finds them: in ASCII by the byte alone (`fault_ascii`), after C2 and EF by the bytes that follow
-- (`fault_c2`, `fault_ef`), and none after any other byte (`fault_other`). Assumes nothing.
use mathlib.Core.Path.{◌≡◌, refl, sym, ap, ◌∙◌}
use mathlib.Core.Bool.{Bool, true, false, not, ◌&&◌, ◌||◌}
use mathlib.Core.Option.{some}
use mathlib.Core.List.{List, [], ◌∷◌}
use Prim.Native.Nat.{ℕ, ◌+◌, ◌-◌, ◌*◌, ◌≤◌, ◌<◌}
use native.Mathlib.Omega.{arith}
use lib.Dec.{eqb, leb, ltb}
use borrow.Author.Tests.{eqb-true, eqb-false, eq-eqb, ne_eqb, le-leb, lt-leb, ltb-true, ltb-false}
use Rattle.text.specs.Bytes.{within}
use Rattle.text.specs.Utf8.{State, one, two, broken, first, is_between}
use Rattle.text.proofs.Bytes.{within_low, within_top, either, contrary}
use Rattle.text.proofs.FirstByte.{first_low, first_e0, first_ed, first_two, first_f0, first_three, first_f4, first_high}
use Rattle.legal.specs.Legal.{first_bits, char_from, refuses}
use Rattle.legal.specs.FirstFault.{may_by, faults_by}
use Rattle.legal.proofs.Numbers.{printable_may, white_may, plane_may, private_may, beyond_may, second_may, upper_may, noncharacter}
use Rattle.legal.proofs.Decoding.{char_broken, char_lead, char_ascii, tail_more, tail_done, tail_broken, lead_2, lead_3, lead_4, last_two}
use Rattle.legal.proofs.Decoding.{Waits, waits_one, waits_two, waits_three, waits_e0, waits_ed, waits_f0, waits_f4}

pub fault_ascii : (rule b : ℕ) (bs : List ℕ) → b < 0x80 → faults_by rule (b ∷ bs) ≡ not (may_by rule b)
unfolding faults_by
fault_ascii rule b bs h = ap (refuses (may_by rule)) (char_ascii b bs h)

-- ---- bytes with which no fault begins

module _ (rule : ℕ) where
  -- whatever follows, a reader who stands there with those bits completes no character that may not stand
  abbrev Passes : State → ℕ → Type 0
  Passes s n = (bs : List ℕ) → refuses (may_by rule) (char_from s n bs) ≡ false

  module _ {s t : State} {lo hi : ℕ} (w : Waits s lo hi t) (n : ℕ) where
    passes_more : is_between t ≡ false → ((c : ℕ) → lo ≤ c → c ≤ hi → Passes t (64 * n + (c - 0x80))) → Passes s n
    unfolding char_from
    passes_more f h [] = refl
    passes_more f h (c ∷ cs) = go (within lo hi c) refl
      where
        go : (x : Bool) → within lo hi c ≡ x → refuses (may_by rule) (char_from s n (c ∷ cs)) ≡ false
        go true e = ap (refuses (may_by rule)) (tail_more w n c cs f e) ∙ h c (within_low lo hi c e) (within_top lo hi c e) cs
        go false e = ap (refuses (may_by rule)) (tail_broken w n c cs e)

    passes_last : is_between t ≡ true → ((c : ℕ) → lo ≤ c → c ≤ hi → may_by rule (64 * n + (c - 0x80)) ≡ true) → Passes s n
    unfolding char_from
    passes_last f h [] = refl
    passes_last f h (c ∷ cs) = go (within lo hi c) refl
      where
        go : (x : Bool) → within lo hi c ≡ x → refuses (may_by rule) (char_from s n (c ∷ cs)) ≡ false
        go true e = ap (refuses (may_by rule)) (tail_done w n c cs f e) ∙ ap not (h c (within_low lo hi c e) (within_top lo hi c e))
        go false e = ap (refuses (may_by rule)) (tail_broken w n c cs e)

  -- characters of two bytes from C3 on
  passes_2 : (b : ℕ) → 0xC3 ≤ b → b ≤ 0xDF → Passes one (b - 0xC0)
  unfolding is_between
  passes_2 b g h = passes_last waits_one (b - 0xC0) refl (λ c l k. plane_may rule (64 * (b - 0xC0) + (c - 0x80)) (omega arith) (omega arith))

  -- of three, by the range of the second byte, where the numbers lie in one range of Char
  passes_3 : {s : State} {lo hi : ℕ} → Waits s lo hi one → (n : ℕ)
      → ((c d : ℕ) → lo ≤ c → c ≤ hi → 0x80 ≤ d → d ≤ 0xBF → may_by rule (64 * (64 * n + (c - 0x80)) + (d - 0x80)) ≡ true) → Passes s n
  unfolding is_between
  passes_3 w n h = passes_more w n refl (λ c l k. passes_last waits_one (64 * n + (c - 0x80)) refl (λ d a b. h c d l k a b))

  -- of four
  passes_4 : {s : State} {lo hi : ℕ} → Waits s lo hi two → (n : ℕ)
      → ((c d e : ℕ) → lo ≤ c → c ≤ hi → 0x80 ≤ d → d ≤ 0xBF → 0x80 ≤ e → e ≤ 0xBF
      → may_by rule (64 * (64 * (64 * n + (c - 0x80)) + (d - 0x80)) + (e - 0x80)) ≡ true) → Passes s n
  unfolding is_between
  passes_4 w n h = passes_more w n refl (λ c l k. passes_3 waits_two (64 * n + (c - 0x80)) (λ d e a b f g. h c d e l k a b f g))

  module _ (b : ℕ) (bs : List ℕ) where
    abbrev None : Type 0
    None = faults_by rule (b ∷ bs) ≡ false

    none_broken : first b ≡ broken → None
    unfolding faults_by is_between
    none_broken e = ap (refuses (may_by rule)) (char_lead b bs broken (first_bits b) e refl refl ∙ char_broken (first_bits b) bs)

    none_2 : 0xC3 ≤ b → b ≤ 0xDF → None
    unfolding faults_by
    none_2 g h = ap (refuses (may_by rule)) (lead_2 b bs (omega arith) h) ∙ passes_2 b g h bs

    none_3 : {s : State} {lo hi : ℕ} → Waits s lo hi one → first b ≡ s → 0xE0 ≤ b → b ≤ 0xEF
        → ((c d : ℕ) → lo ≤ c → c ≤ hi → 0x80 ≤ d → d ≤ 0xBF → may_by rule (64 * (64 * (b - 0xE0) + (c - 0x80)) + (d - 0x80)) ≡ true) → None
    unfolding faults_by
    none_3 w e g h k = ap (refuses (may_by rule)) (lead_3 w b bs e g h) ∙ passes_3 w (b - 0xE0) k bs

    none_4 : {s : State} {lo hi : ℕ} → Waits s lo hi two → first b ≡ s → 0xF0 ≤ b
        → ((c : ℕ) → lo ≤ c → c ≤ hi → (0x10 ≤ 64 * (b - 0xF0) + (c - 0x80)) × (64 * (b - 0xF0) + (c - 0x80) ≤ 0x10F)) → None
    unfolding faults_by
    none_4 w e g k =
        ap (refuses (may_by rule)) (lead_4 w b bs e g)
        ∙ passes_4 w (b - 0xF0)
        (λ c d e l m p q u v.
        let top = k c l m in
        beyond_may rule (64 * (64 * (64 * (b - 0xF0) + (c - 0x80)) + (d - 0x80)) + (e - 0x80)) (omega (arith, top.0)) (omega (arith, top.1)))
        bs

    abbrev At : ℕ → ℕ → ℕ
    At c d = 64 * (64 * (b - 0xE0) + (c - 0x80)) + (d - 0x80)

    three_byte : 0xE0 ≤ b → b < 0xEF → None
    three_byte g h = go (eqb b 0xE0) refl (eqb b 0xED) refl (ltb b 0xEE) refl
      where
        go : (x : Bool) → eqb b 0xE0 ≡ x → (y : Bool) → eqb b 0xED ≡ y → (z : Bool) → ltb b 0xEE ≡ z → None
        go true p y q z r =
            let e : b ≡ 0xE0 = eqb-true b 0xE0 p in
            none_3 waits_e0 (first_e0 b e) g (omega arith) (λ c d l k m n. plane_may rule (At c d) (omega arith) (omega arith))
        go false p true q z r =
            let e : b ≡ 0xED = eqb-true b 0xED q in
            none_3 waits_ed (first_ed b e) g (omega arith) (λ c d l k m n. plane_may rule (At c d) (omega arith) (omega arith))
        go false p false q true r =
            let e : b ≡ 0xE0 → ⊥ = eqb-false b 0xE0 p in
            let f : b ≡ 0xED → ⊥ = eqb-false b 0xED q in
            let a : b < 0xEE = ltb-true b 0xEE r in
            none_3 waits_two (first_two b (omega arith) (omega arith) f) g (omega arith) (λ c d l k m n. plane_may rule (At c d) (omega arith) (omega arith))
        go false p false q false r =
            let a : 0xEE ≤ b = ltb-false b 0xEE r in
            none_3 waits_two (first_two b (omega arith) (omega arith) (eqb-false b 0xED q)) g (omega arith)
            (λ c d l k m n. private_may rule (At c d) (omega arith) (omega arith))

    four_byte : 0xF0 ≤ b → None
    four_byte g = go (eqb b 0xF0) refl (ltb b 0xF4) refl (eqb b 0xF4) refl
      where
        go : (x : Bool) → eqb b 0xF0 ≡ x → (y : Bool) → ltb b 0xF4 ≡ y → (z : Bool) → eqb b 0xF4 ≡ z → None
        go true p y q z r =
            let e : b ≡ 0xF0 = eqb-true b 0xF0 p in
            none_4 waits_f0 (first_f0 b e) g (λ c l k. (omega arith, omega arith))
        go false p true q z r =
            let e : b ≡ 0xF0 → ⊥ = eqb-false b 0xF0 p in
            let f : b < 0xF4 = ltb-true b 0xF4 q in
            none_4 waits_three (first_three b (omega arith) f) g (λ c l k. (omega arith, omega arith))
        go false p false q true r =
            let e : b ≡ 0xF4 = eqb-true b 0xF4 r in
            none_4 waits_f4 (first_f4 b e) g (λ c l k. (omega arith, omega arith))
        go false p false q false r =
            let e : b ≡ 0xF4 → ⊥ = eqb-false b 0xF4 r in
            let f : 0xF4 ≤ b = ltb-false b 0xF4 q in
            none_broken (first_high b (omega arith))

    -- past ASCII, only C2 and EF begin faults
    pub fault_other : 0x80 ≤ b → (b ≡ 0xC2 → ⊥) → (b ≡ 0xEF → ⊥) → None
    fault_other g p q = go (ltb b 0xC2) refl (ltb b 0xE0) refl (ltb b 0xF0) refl
      where
        go : (x : Bool) → ltb b 0xC2 ≡ x → (y : Bool) → ltb b 0xE0 ≡ y → (z : Bool) → ltb b 0xF0 ≡ z → None
        go true e y f z h = none_broken (first_low b g (ltb-true b 0xC2 e))
        go false e true f z h = none_2 (omega (arith, ltb-false b 0xC2 e, p)) (omega (arith, ltb-true b 0xE0 f))
        go false e false f true h = three_byte (ltb-false b 0xE0 f) (omega (arith, ltb-true b 0xF0 h, q))
        go false e false f false h = four_byte (ltb-false b 0xF0 h)

-- ---- after C2

module _ (rule c : ℕ) (cs : List ℕ) where
  c2_char : within 0x80 0xBF c ≡ true → faults_by rule (0xC2 ∷ c ∷ cs) ≡ not (may_by rule c)
  unfolding faults_by is_between
  c2_char h =
      let low : 0x80 ≤ c = within_low 0x80 0xBF c h in
      let q : 64 * (0xC2 - 0xC0) + (c - 0x80) ≡ c = omega arith in
      ap (refuses (may_by rule)) (lead_2 0xC2 (c ∷ cs) (omega arith) (omega arith) ∙ tail_done waits_one (0xC2 - 0xC0) c cs refl h ∙ ap some q)

  c2_broken : within 0x80 0xBF c ≡ false → faults_by rule (0xC2 ∷ c ∷ cs) ≡ false
  unfolding faults_by
  c2_broken h = ap (refuses (may_by rule)) (lead_2 0xC2 (c ∷ cs) (omega arith) (omega arith) ∙ tail_broken waits_one (0xC2 - 0xC0) c cs h)

-- U+0080 to U+009F but U+0085, in a value under 1.1
pub fault_c2 : (c : ℕ) (cs : List ℕ) → faults_by 1 (0xC2 ∷ c ∷ cs) ≡ leb 0x80 c && leb c 0x9F && not (eqb c 0x85)
fault_c2 c cs = go (within 0x80 0xBF c) refl
  where
    go : (x : Bool) → within 0x80 0xBF c ≡ x → faults_by 1 (0xC2 ∷ c ∷ cs) ≡ leb 0x80 c && leb c 0x9F && not (eqb c 0x85)
    go true e =
        let low : 0x80 ≤ c = within_low 0x80 0xBF c e in
        c2_char 1 c cs e ∙ second_may c low (within_top 0x80 0xBF c e) ∙ (rw (le-leb 0x80 c low))
    go false e =
        c2_broken 1 c cs e
        ∙ sym (either 0x80 0xBF c e (λ u. rw (lt-leb 0x80 c u)) (λ o. rw (lt-leb c 0x9F (omega arith), le-leb 0x80 c (omega arith))))

-- and from U+00A0 on none
pub fault_c2_high : (rule c : ℕ) (cs : List ℕ) → 0xA0 ≤ c → faults_by rule (0xC2 ∷ c ∷ cs) ≡ false
fault_c2_high rule c cs h = go (within 0x80 0xBF c) refl
  where
    go : (x : Bool) → within 0x80 0xBF c ≡ x → faults_by rule (0xC2 ∷ c ∷ cs) ≡ false
    go true e = c2_char rule c cs e ∙ ap not (plane_may rule c h (omega (arith, within_top 0x80 0xBF c e)))
    go false e = c2_broken rule c cs e

-- under the other rules none
pub fault_c2_other : (rule : ℕ) (bs : List ℕ) → (rule ≡ 1 → ⊥) → faults_by rule (0xC2 ∷ bs) ≡ false
unfolding faults_by is_between
fault_c2_other rule [] p = refl
fault_c2_other rule (c ∷ cs) p = go (within 0x80 0xBF c) refl
  where
    go : (x : Bool) → within 0x80 0xBF c ≡ x → faults_by rule (0xC2 ∷ c ∷ cs) ≡ false
    go true e = c2_char rule c cs e ∙ ap not (upper_may rule c p (omega (arith, within_low 0x80 0xBF c e)) (within_top 0x80 0xBF c e))
    go false e = c2_broken rule c cs e

pub fault_c2_alone : (rule : ℕ) → faults_by rule (0xC2 ∷ []) ≡ false
unfolding faults_by
fault_c2_alone rule = refl

-- ---- after EF

-- before BF none
pub fault_ef_other : (rule c : ℕ) (cs : List ℕ) → (c ≡ 0xBF → ⊥) → faults_by rule (0xEF ∷ c ∷ cs) ≡ false
unfolding faults_by is_between
fault_ef_other rule c cs p =
    ap (refuses (may_by rule)) (lead_3 waits_two 0xEF (c ∷ cs) (first_two 0xEF (omega arith) (omega arith) (λ q. omega arith)) (omega arith) (omega arith))
    ∙ go (within 0x80 0xBF c) refl
  where
    go : (x : Bool) → within 0x80 0xBF c ≡ x → refuses (may_by rule) (char_from two (0xEF - 0xE0) (c ∷ cs)) ≡ false
    go true e =
        let low : 0x80 ≤ c = within_low 0x80 0xBF c e in
        let top : c ≤ 0xBF = within_top 0x80 0xBF c e in
        ap (refuses (may_by rule)) (tail_more waits_two (0xEF - 0xE0) c cs refl e)
        ∙ passes_last rule waits_one (64 * (0xEF - 0xE0) + (c - 0x80)) refl
        (λ d l k. private_may rule (64 * (64 * (0xEF - 0xE0) + (c - 0x80)) + (d - 0x80)) (omega arith) (omega arith)) cs
    go false e = ap (refuses (may_by rule)) (tail_broken waits_two (0xEF - 0xE0) c cs e)

-- the number of EF BF and a third byte
abbrev bf_number : ℕ → ℕ
bf_number d = 64 * (64 * (0xEF - 0xE0) + (0xBF - 0x80)) + (d - 0x80)

ef_bf_char : (rule d : ℕ) (cs : List ℕ) → within 0x80 0xBF d ≡ true → faults_by rule (0xEF ∷ 0xBF ∷ d ∷ cs) ≡ not (may_by rule (bf_number d))
unfolding faults_by
ef_bf_char rule d cs h =
    ap (refuses (may_by rule))
    (lead_3 waits_two 0xEF (0xBF ∷ d ∷ cs) (first_two 0xEF (omega arith) (omega arith) (λ q. omega arith)) (omega arith) (omega arith)
    ∙ last_two waits_two (0xEF - 0xE0) 0xBF d cs refl h)

ef_bf_broken : (rule d : ℕ) (cs : List ℕ) → within 0x80 0xBF d ≡ false → faults_by rule (0xEF ∷ 0xBF ∷ d ∷ cs) ≡ false
unfolding faults_by
ef_bf_broken rule d cs h = ap (refuses (may_by rule)) (tail_broken waits_one 0x3FF d cs h)

-- U+FFFE and U+FFFF
ef_bf : (rule d : ℕ) (cs : List ℕ) → faults_by rule (0xEF ∷ 0xBF ∷ d ∷ cs) ≡ eqb d 0xBE || eqb d 0xBF
ef_bf rule d cs = go (within 0x80 0xBF d) refl (ltb d 0xBE) refl
  where
    neither : (d ≡ 0xBE → ⊥) → (d ≡ 0xBF → ⊥) → eqb d 0xBE || eqb d 0xBF ≡ false
    neither p q = rw (ne_eqb d 0xBE p, ne_eqb d 0xBF q)

    one_of : 0xBE ≤ d → d ≤ 0xBF → (x : Bool) → eqb d 0xBE ≡ x → eqb d 0xBE || eqb d 0xBF ≡ true
    one_of g h true e = rw e
    one_of g h false e =
        let p : d ≡ 0xBE → ⊥ = eqb-false d 0xBE e in
        rw (e, eq-eqb d 0xBF (omega arith))

    go : (x : Bool) → within 0x80 0xBF d ≡ x → (y : Bool) → ltb d 0xBE ≡ y → faults_by rule (0xEF ∷ 0xBF ∷ d ∷ cs) ≡ eqb d 0xBE || eqb d 0xBF
    go true e true f =
        let low : 0x80 ≤ d = within_low 0x80 0xBF d e in
        let top : d < 0xBE = ltb-true d 0xBE f in
        ef_bf_char rule d cs e ∙ ap not (private_may rule (bf_number d) (omega arith) (omega arith)) ∙ sym (neither (λ q. omega arith) (λ q. omega arith))
    go true e false f =
        let low : 0xBE ≤ d = ltb-false d 0xBE f in
        let top : d ≤ 0xBF = within_top 0x80 0xBF d e in
        ef_bf_char rule d cs e ∙ ap not (noncharacter rule (bf_number d) (omega arith) (omega arith)) ∙ sym (one_of low top (eqb d 0xBE) refl)
    go false e y f =
        ef_bf_broken rule d cs e
        ∙ sym (either 0x80 0xBF d e (λ u. neither (λ q. omega arith) (λ q. omega arith)) (λ o. neither (λ q. omega arith) (λ q. omega arith)))

pub fault_ef : (rule c d : ℕ) (cs : List ℕ) → faults_by rule (0xEF ∷ c ∷ d ∷ cs) ≡ eqb c 0xBF && (eqb d 0xBE || eqb d 0xBF)
fault_ef rule c d cs = go (eqb c 0xBF) refl
  where
    go : (x : Bool) → eqb c 0xBF ≡ x → faults_by rule (0xEF ∷ c ∷ d ∷ cs) ≡ eqb c 0xBF && (eqb d 0xBE || eqb d 0xBF)
    go true e = let q : c ≡ 0xBF = eqb-true c 0xBF e in rw q (ef_bf rule d cs)
    go false e = fault_ef_other rule c (d ∷ cs) (eqb-false c 0xBF e) ∙ (rw e)

-- cut short, none
pub fault_ef_alone : (rule : ℕ) → faults_by rule (0xEF ∷ []) ≡ false
unfolding faults_by
fault_ef_alone rule = refl

ef_bf_alone : (rule : ℕ) → faults_by rule (0xEF ∷ 0xBF ∷ []) ≡ false
unfolding faults_by
ef_bf_alone rule = refl

pub fault_ef_short : (rule c : ℕ) → faults_by rule (0xEF ∷ c ∷ []) ≡ false
fault_ef_short rule c = go (eqb c 0xBF) refl
  where
    go : (x : Bool) → eqb c 0xBF ≡ x → faults_by rule (0xEF ∷ c ∷ []) ≡ false
    go true e = let q : c ≡ 0xBF = eqb-true c 0xBF e in rw q (ef_bf_alone rule)
    go false e = fault_ef_other rule c [] (eqb-false c 0xBF e)

-- ---- what a walk stops at

-- `&`, TAB, LF and CR are no faults
pub fault_amp : (rule : ℕ) (bs : List ℕ) → faults_by rule (38 ∷ bs) ≡ false
fault_amp rule bs = fault_ascii rule 38 bs (omega arith) ∙ ap not (printable_may rule 38 (omega arith) (omega arith))

pub fault_white : (rule b : ℕ) (bs : List ℕ) → eqb b 9 || eqb b 0xA || eqb b 0xD ≡ true → faults_by rule (b ∷ bs) ≡ false
fault_white rule b bs e = fault_ascii rule b bs (white_low (eqb b 9) refl (eqb b 0xA) refl (eqb b 0xD) refl) ∙ ap not (white_may rule b e)
  where
    white_low : (x : Bool) → eqb b 9 ≡ x → (y : Bool) → eqb b 0xA ≡ y → (z : Bool) → eqb b 0xD ≡ z → b < 0x80
    white_low true p y q z r = let a : b ≡ 9 = eqb-true b 9 p in omega arith
    white_low false p true q z r = let a : b ≡ 0xA = eqb-true b 0xA q in omega arith
    white_low false p false q true r = let a : b ≡ 0xD = eqb-true b 0xD r in omega arith
    white_low false p false q false r = contrary e (rw (p, q, r))

-- nor are U+0085 and U+2028, the line ends of 1.1
pub fault_next_line : (rule : ℕ) (bs : List ℕ) → faults_by rule (0xC2 ∷ 0x85 ∷ bs) ≡ false
fault_next_line rule bs = go (eqb rule 1) refl
  where
    go : (x : Bool) → eqb rule 1 ≡ x → faults_by rule (0xC2 ∷ 0x85 ∷ bs) ≡ false
    go true e = let q : rule ≡ 1 = eqb-true rule 1 e in rw q (fault_c2 0x85 bs)
    go false e = fault_c2_other rule (0x85 ∷ bs) (eqb-false rule 1 e)

pub fault_e2 : (rule : ℕ) (bs : List ℕ) → faults_by rule (0xE2 ∷ bs) ≡ false
fault_e2 rule bs = fault_other rule 0xE2 bs (omega arith) (λ q. omega arith) (λ q. omega arith)
