-- The stops of the attribute walk, however a text is read (`by_how`): `&` starts a reference (`heads_refer`), which bytes are copied
-- (`heads_copy`) and which are stops (`heads_stop`). Assumes nothing.
use mathlib.Core.Path.{◌≡◌, refl, sym, subst}
use mathlib.Core.Logic.{◌≢◌}
use mathlib.Core.Bool.{Bool, true, false, ◌&&◌, ◌||◌, true≢false}
use mathlib.Core.List.{List, [], ◌∷◌}
use Prim.Native.Nat.{ℕ, zero, suc}
use native.Mathlib.Omega.{arith}
use lib.Dec.{eqb}
use lib.ListN.{length}
use borrow.Author.Tests.{eqb-true, eqb-false, eq-eqb, ne_eqb}
use Rattle.text.specs.Bytes.{pick, begins}
use Rattle.text.proofs.Bytes.{pick_both, pick_by, or_left, or_right}
use Rattle.eols.specs.LineEnds.{line_end}
use Rattle.eols.specs.Stops.{rule_for}
use Rattle.eols.proofs.LineEnds.{none10, none11, lf_alone}
use Rattle.tokens.specs.Tokens.{kept, space, number, named, Token, copy, stop, barred, Head, head, Heads, token_of, Name, ended, endless, name_at, reference_to, reference_at}
use Rattle.tokens.specs.Walking.{Copies}
use Rattle.attribute.specs.Heads.{space_or, other_head, attribute_head, past_head}
use Rattle.halts.specs.Halts.{stop_byte}
use Rattle.attribute.specs.Steps.{heads_by}

-- ---- bytes that are copied

-- a byte that passes no test of the stops, test by test
record Apart (newer : Bool) (b : ℕ) : Type 0 where
  no_tab : eqb b 9 ≡ false
  no_lf : eqb b 10 ≡ false
  no_cr : eqb b 13 ≡ false
  no_amp : eqb b 38 ≡ false
  no_lead : newer && (eqb b 0xC2 || eqb b 0xE2) ≡ false

apart : (newer : Bool) (b : ℕ) → stop_byte newer b ≡ false → Apart newer b
apart newer b e =
    let lead = newer && (eqb b 0xC2 || eqb b 0xE2) in
    let four = or_left (eqb b 9 || eqb b 10 || eqb b 13 || eqb b 38) lead e in
    let three = or_left (eqb b 9 || eqb b 10 || eqb b 13) (eqb b 38) four in
    let two = or_left (eqb b 9 || eqb b 10) (eqb b 13) three in
    record {
      no_tab = or_left (eqb b 9) (eqb b 10) two;
      no_lf = or_right (eqb b 9) (eqb b 10) two;
      no_cr = or_right (eqb b 9 || eqb b 10) (eqb b 13) three;
      no_amp = or_right (eqb b 9 || eqb b 10 || eqb b 13) (eqb b 38) four;
      no_lead = or_right (eqb b 9 || eqb b 10 || eqb b 13 || eqb b 38) lead e;
    }

-- such a byte starts no line end
plain_line : (newer : Bool) (b : ℕ) (bs : List ℕ) → Apart newer b → line_end (rule_for newer) (b ∷ bs) ≡ 0
plain_line false b bs p = none10 b bs (eqb-false b 13 p.no_cr) (eqb-false b 10 p.no_lf)
plain_line true b bs p =
    none11 b bs (eqb-false b 13 p.no_cr) (eqb-false b 10 p.no_lf)
    (eqb-false b 0xC2 (or_left (eqb b 0xC2) (eqb b 0xE2) p.no_lead)) (eqb-false b 0xE2 (or_right (eqb b 0xC2) (eqb b 0xE2) p.no_lead))

plain_other : (newer : Bool) (b : ℕ) → Apart newer b → other_head (rule_for newer) b ≡ head (copy b) 0
unfolding other_head
plain_other false b p = refl
plain_other true b p = rw p.no_lead

copies : (newer : Bool) → Copies (stop_byte newer) (attribute_head (rule_for newer))
unfolding attribute_head space_or
copies newer offset b bs e =
    let p = apart newer b e in
    rw (p.no_amp, p.no_tab, plain_line newer b bs p) (plain_other newer b p)

past_copies : Copies (stop_byte false) past_head
unfolding past_head
past_copies offset b bs e =
    let p = apart false b e in
    rw (p.no_amp, p.no_tab, p.no_lf, p.no_cr)

-- ---- line ends

-- a CR or LF is a line end under both versions
pub cr_some : (newer : Bool) (b : ℕ) (bs : List ℕ) → b ≡ 13 → line_end (rule_for newer) (b ∷ bs) ≢ 0
unfolding line_end
cr_some false b bs e z =
    absurd (pick_both (λ (w : ℕ). w ≢ 0) (begins (10 ∷ []) bs) {a = 2} {b = 1} (λ q. omega (arith, q)) (λ q. omega (arith, q)) (rw (eq-eqb b 13 e) at z))
cr_some true b bs e z =
    absurd
    (pick_both (λ (w : ℕ). w ≢ 0) (begins (10 ∷ []) bs) {a = 2} {b = pick (begins (0xC2 ∷ 0x85 ∷ []) bs) 3 1} (λ q. omega (arith, q))
    (pick_both (λ (w : ℕ). w ≢ 0) (begins (0xC2 ∷ 0x85 ∷ []) bs) {a = 3} {b = 1} (λ q. omega (arith, q)) (λ q. omega (arith, q)))
    (rw (eq-eqb b 13 e) at z))

pub lf_some : (newer : Bool) (b : ℕ) (bs : List ℕ) → b ≡ 10 → line_end (rule_for newer) (b ∷ bs) ≢ 0
lf_some newer b bs e z = omega (arith, lf_alone b bs newer e, z)

-- a stop that is neither `&` nor TAB nor a line end is a C2 or E2 of 1.1
pub kept_head : (newer : Bool) (b : ℕ) (bs : List ℕ) → b ≢ 38 → b ≢ 9 → stop_byte newer b ≡ true → line_end (rule_for newer) (b ∷ bs) ≡ 0
    → other_head (rule_for newer) b ≡ head (stop (kept b)) 0
unfolding other_head
kept_head newer b bs amp tab e z = go newer (lead newer refl)
  where
    lead : (n : Bool) → newer ≡ n → newer && (eqb b 0xC2 || eqb b 0xE2) ≡ true
    lead n q =
        let cr = ne_eqb b 13 (λ k. cr_some newer b bs k z) in
        let lf = ne_eqb b 10 (λ k. lf_some newer b bs k z) in
        rw (ne_eqb b 9 tab, lf, cr, ne_eqb b 38 amp) at e

    go : (n : Bool) → n && (eqb b 0xC2 || eqb b 0xE2) ≡ true → other_head (rule_for n) b ≡ head (stop (kept b)) 0
    go false k = absurd (true≢false (sym k))
    go true k = rw k

-- ---- every stop byte is a stop

abbrev pub IsStop : Token → Type 0
IsStop (copy b) = ⊥
IsStop (stop s) = Unit {0}
IsStop (barred o) = ⊥

reference_stop : (offset : ℕ) (bs : List ℕ) (n : Name) → IsStop (token_of (reference_at offset bs n))
unfolding reference_at reference_to
reference_stop offset bs (ended []) = tt
reference_stop offset bs (ended (b ∷ name)) =
    pick_both (λ (d : Head). IsStop (token_of d)) (eqb b 35) {a = head (stop (number name)) (suc (suc (length name)))} {b = head (stop (named offset (b ∷ name))) (suc (suc (length name)))} tt tt
reference_stop offset bs endless = tt

stop_head : (newer : Bool) (offset b : ℕ) (bs : List ℕ) → stop_byte newer b ≡ true → IsStop (token_of (attribute_head (rule_for newer) offset b bs))
unfolding attribute_head space_or
stop_head newer offset b bs e =
    pick_by (λ (d : Head). IsStop (token_of d)) (eqb b 38) (λ a. reference_stop offset bs (name_at false bs)) λ a.
    pick_by (λ (d : Head). IsStop (token_of d)) (eqb b 9) {a = head (stop space) 0} (λ t. tt) λ t.
    line (line_end (rule_for newer) (b ∷ bs)) refl a t
  where
    line : (w : ℕ) → line_end (rule_for newer) (b ∷ bs) ≡ w → eqb b 38 ≡ false → eqb b 9 ≡ false → IsStop (token_of (space_or w (other_head (rule_for newer) b)))
    line zero z a t = rw (kept_head newer b bs (eqb-false b 38 a) (eqb-false b 9 t) e z) tt
    line (suc w) z a t = tt

past_stop : (offset b : ℕ) (bs : List ℕ) → stop_byte false b ≡ true → IsStop (token_of (past_head offset b bs))
unfolding past_head
past_stop offset b bs e =
    pick_by (λ (d : Head). IsStop (token_of d)) (eqb b 38) (λ a. reference_stop offset bs (name_at false bs)) λ a.
    pick_by (λ (d : Head). IsStop (token_of d)) (eqb b 9 || eqb b 10 || eqb b 13) {a = head (stop space) 0} {b = head (copy b) 0} (λ t. tt)
    (λ t. absurd (true≢false (sym (rw (a, t) at e))))

-- ---- however a text is read

-- past line ends the stop bytes are those of XML 1.0
pub by_how : (how : ℕ) (P : Bool → Heads → Type 0) → P false past_head → ((newer : Bool) → P newer (attribute_head (rule_for newer))) → P (eqb how 1) (heads_by how)
by_how how P past lines = go (eqb how 2) refl
  where
    go : (x : Bool) → eqb how 2 ≡ x → P (eqb how 1) (pick x past_head (attribute_head (rule_for (eqb how 1))))
    go true e = subst (λ (n : Bool). P n past_head) (sym (ne_eqb how 1 (λ q. omega (arith, eqb-true how 2 e, q)))) past
    go false e = lines (eqb how 1)

pub heads_refer : (how offset : ℕ) (bs : List ℕ) → heads_by how offset 38 bs ≡ reference_at offset bs (name_at false bs)
unfolding attribute_head past_head
heads_refer how offset bs = by_how how (λ n h. h offset 38 bs ≡ reference_at offset bs (name_at false bs)) refl (λ newer. refl)

pub heads_copy : (how : ℕ) → Copies (stop_byte (eqb how 1)) (heads_by how)
heads_copy how = by_how how (λ n h. Copies (stop_byte n) h) past_copies copies

pub heads_stop : (how offset b : ℕ) (bs : List ℕ) → stop_byte (eqb how 1) b ≡ true → IsStop (token_of (heads_by how offset b bs))
heads_stop how offset b bs = by_how how (λ n h. stop_byte n b ≡ true → IsStop (token_of (h offset b bs))) (past_stop offset b bs) (λ newer. stop_head newer offset b bs)
