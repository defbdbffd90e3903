-- The canonical form of one character: ASCII by level 3, U+0085 and U+2028 under XML 1.1 by their references, any other as it is. Assumes nothing.
use mathlib.Core.Path.{◌≡◌, refl, sym, ap, ap₂, ◌∙◌}
use mathlib.Core.Bool.{Bool, true, false, ◌&&◌, true≢false}
use mathlib.Core.Logic.{◌≢◌}
use mathlib.Core.List.{List, [], ◌∷◌, ◌++◌, append-nil}
use Prim.Native.Nat.{ℕ, ◌+◌, ◌/◌, ◌%◌, ◌≤◌, ◌<◌}
use native.Mathlib.Omega.{arith}
use lib.Dec.{eqb}
use lib.ListN.{length}
use borrow.Author.Tests.{eqb-true, eq-eqb, ne_eqb}
use Rattle.text.specs.Bytes.{pick}
use Rattle.text.specs.Version.{Rule, xml10, xml11}
use Rattle.text.proofs.Bytes.{and_left, and_right}
use Rattle.eols.specs.Stops.{rule_for}
use Rattle.charref.specs.CharRef.{encode}
use Rattle.charref.proofs.Encoding.{by_size, encode_1}
use Rattle.escape.specs.Escape.{Replacements, attribute, level_of, level_set, write_byte, reference}
use Rattle.escape.specs.Scan.{chars_set, level_chars, added_by}
use Rattle.escape.specs.declared.EscapeChars.{EscapeChars}
use Rattle.escape.proofs.Levels.{chars_level, added_length}
use Rattle.escape.proofs.View.{Kind, is_lt, is_gt, is_amp_lem, is_apos, is_quot, is_cr_lem, is_lf, is_tab, is_other, kind}
use Rattle.runs.specs.Specials.{special}
use Rattle.canonical.specs.Canonical.{canonical, canonical_from}
use Rattle.canonical.specs.Runs.{special_reference}
use Rattle.canonical.proofs.Between.{common_byte}

-- ---- bytes

-- level 3 has a reference for each of the eight
pub byte_reference : (b : ℕ) → Kind b → write_byte (level_set attribute) b ≡ reference b
unfolding level_set
byte_reference b is_lt = refl
byte_reference b is_gt = refl
byte_reference b is_amp_lem = refl
byte_reference b is_apos = refl
byte_reference b is_quot = refl
byte_reference b is_cr_lem = refl
byte_reference b is_lf = refl
byte_reference b is_tab = refl
byte_reference b (is_other o) = rw (o.no_lf, o.no_tab, o.no_apos, o.no_quot, o.no_gt, o.no_lt, o.no_amp, o.no_cr)

high_byte : (b : ℕ) → 0x80 ≤ b → write_byte (level_set attribute) b ≡ b ∷ []
unfolding level_set
high_byte b h =
    rw (
      ne_eqb b 10 (λ q. omega arith),
      ne_eqb b 9 (λ q. omega arith),
      ne_eqb b 39 (λ q. omega arith),
      ne_eqb b 34 (λ q. omega arith),
      ne_eqb b 62 (λ q. omega arith),
      ne_eqb b 60 (λ q. omega arith),
      ne_eqb b 38 (λ q. omega arith),
      ne_eqb b 13 (λ q. omega arith),
    )

pub no_lead : (r : Rule) (b : ℕ) (bs : List ℕ) → b ≢ 0xC2 → b ≢ 0xE2 → special r (b ∷ bs) ≡ 0
no_lead xml10 b bs p q = refl
no_lead xml11 b bs p q = rw (ne_eqb b 0xC2 p, ne_eqb b 0xE2 q)

pub copied : (r : Rule) (b : ℕ) (bs : List ℕ) → 0x80 ≤ b → special r (b ∷ bs) ≡ 0 → canonical_from r 0 bs ≡ bs → canonical_from r 0 (b ∷ bs) ≡ b ∷ bs
copied r b bs h s e = common_byte r b bs s ∙ ap₂ ◌++◌ (high_byte b h) e

tail_copied : (r : Rule) (n : ℕ) (bs : List ℕ) → canonical_from r 0 bs ≡ bs → canonical_from r 0 ((0x80 + n % 64) ∷ bs) ≡ (0x80 + n % 64) ∷ bs
tail_copied r n bs e = copied r (0x80 + n % 64) bs (omega arith) (no_lead r (0x80 + n % 64) bs (λ q. omega arith) (λ q. omega arith)) e

pub none : (r : Rule) → canonical_from r 0 [] ≡ []
unfolding canonical_from
none r = refl

-- ---- characters

pub byte_form : (r : Rule) (c : ℕ) → c < 0x80 → canonical r (c ∷ []) ≡ write_byte (level_set attribute) c
unfolding canonical
byte_form r c h =
    common_byte r c [] (no_lead r c [] (λ q. omega arith) (λ q. omega arith))
    ∙ ap (λ (l : List ℕ). write_byte (level_set attribute) c ++ l) (none r)
    ∙ append-nil (write_byte (level_set attribute) c)

pub char_ascii : (r : Rule) (c : ℕ) → c < 0x80 → canonical r (encode c) ≡ write_byte (level_set attribute) c
char_ascii r c h = ap (canonical r) (encode_1 c h) ∙ byte_form r c h

pub char_reference : (r : Rule) (c : ℕ) → c < 0x80 → canonical r (encode c) ≡ reference c
char_reference r c h = char_ascii r c h ∙ byte_reference c (kind c)

-- how many bytes more than the character itself
pub char_added : (r : Rule) (c : ℕ) (chars : EscapeChars) → chars ≡ level_chars (level_of 3) → c < 0x80 → added_by chars c + 1 ≡ length (canonical r (encode c))
unfolding level_of
char_added r c chars e h =
    added_length chars c
    ∙ ap (λ (set : Replacements). length (write_byte set c)) (ap chars_set e ∙ chars_level attribute)
    ∙ sym (ap length (char_ascii r c h))

pub char_special : (newer : Bool) (c : ℕ) (width : ℕ) → newer && eqb c (pick (eqb width 2) 0x85 0x2028) ≡ true
    → canonical (rule_for newer) (encode c) ≡ special_reference width
unfolding canonical encode
char_special false c width e = absurd (true≢false (sym e))
char_special true c width e = rw (eqb-true c (pick (eqb width 2) 0x85 0x2028) e) (go (eqb width 2))
  where
    go : (t : Bool) → canonical_from xml11 0 (encode (pick t 0x85 0x2028)) ≡ pick t (38 ∷ 35 ∷ 49 ∷ 51 ∷ 51 ∷ 59 ∷ []) (38 ∷ 35 ∷ 56 ∷ 50 ∷ 51 ∷ 50 ∷ 59 ∷ [])
    go true = refl
    go false = refl

-- neither of the two that the version has references for
abbrev pub Apart : Rule → ℕ → Type 0
Apart xml10 c = Unit {0}
Apart xml11 c = (c ≢ 0x85) × (c ≢ 0x2028)

pub apart : (newer : Bool) (c : ℕ) → newer && eqb c 0x85 ≡ false → newer && eqb c 0x2028 ≡ false → Apart (rule_for newer) c
apart false c p q = tt
apart true c p q = (λ e. true≢false (sym (eq-eqb c 0x85 e) ∙ p), λ e. true≢false (sym (eq-eqb c 0x2028 e) ∙ q))

-- a test of bytes that are not all there
pub not_all : (a b : Bool) → ((a ≡ true) → (b ≡ true) → ⊥) → a && b ≡ false
not_all true true h = absurd (h refl refl)
not_all true false h = refl
not_all false b h = refl

two_apart : (r : Rule) (c : ℕ) → Apart r c → c < 0x800 → special r ((0xC0 + c / 64) ∷ (0x80 + c % 64) ∷ []) ≡ 0
two_apart xml10 c h k = refl
two_apart xml11 c h k =
    rw (
      not_all (eqb (0xC0 + c / 64) 0xC2) (eqb (0x80 + c % 64) 0x85 && true)
          (λ p q. h.0 (omega (arith, eqb-true (0xC0 + c / 64) 0xC2 p, eqb-true (0x80 + c % 64) 0x85 (and_left (eqb (0x80 + c % 64) 0x85) true q)))),
      ne_eqb (0xC0 + c / 64) 0xE2 (λ q. omega arith),
    )

three_apart : (r : Rule) (c : ℕ) → Apart r c → 0x800 ≤ c → c < 0x10000
    → special r ((0xE0 + c / 4096) ∷ (0x80 + c / 64 % 64) ∷ (0x80 + c % 64) ∷ []) ≡ 0
three_apart xml10 c h g k = refl
three_apart xml11 c h g k =
    rw (
      ne_eqb (0xE0 + c / 4096) 0xC2 (λ q. omega arith),
      not_all (eqb (0xE0 + c / 4096) 0xE2) (eqb (0x80 + c / 64 % 64) 0x80 && (eqb (0x80 + c % 64) 0xA8 && true))
          (λ p q.
          let second = and_left (eqb (0x80 + c / 64 % 64) 0x80) (eqb (0x80 + c % 64) 0xA8 && true) q in
          let third = and_left (eqb (0x80 + c % 64) 0xA8) true (and_right (eqb (0x80 + c / 64 % 64) 0x80) (eqb (0x80 + c % 64) 0xA8 && true) q) in
          h.1 (omega (arith, eqb-true (0xE0 + c / 4096) 0xE2 p, eqb-true (0x80 + c / 64 % 64) 0x80 second, eqb-true (0x80 + c % 64) 0xA8 third))),
    )

pub char_plain : (r : Rule) (c : ℕ) → 0x80 ≤ c → Apart r c → canonical r (encode c) ≡ encode c
unfolding canonical
char_plain r c h a =
    by_size (λ (l : List ℕ). canonical_from r 0 l ≡ l) c
    (λ k. absurd (omega arith))
    (λ g k. copied r (0xC0 + c / 64) ((0x80 + c % 64) ∷ []) (omega arith) (two_apart r c a k) (tail_copied r c [] (none r)))
    (λ g k.
    copied r (0xE0 + c / 4096) ((0x80 + c / 64 % 64) ∷ (0x80 + c % 64) ∷ []) (omega arith) (three_apart r c a g k)
    (tail_copied r (c / 64) ((0x80 + c % 64) ∷ []) (tail_copied r c [] (none r))))
    (λ g.
    copied r (0xF0 + c / 262144) ((0x80 + c / 4096 % 64) ∷ (0x80 + c / 64 % 64) ∷ (0x80 + c % 64) ∷ []) (omega arith)
    (no_lead r (0xF0 + c / 262144) ((0x80 + c / 4096 % 64) ∷ (0x80 + c / 64 % 64) ∷ (0x80 + c % 64) ∷ []) (λ q. omega arith) (λ q. omega arith))
    (tail_copied r (c / 4096) ((0x80 + c / 64 % 64) ∷ (0x80 + c % 64) ∷ []) (tail_copied r (c / 64) ((0x80 + c % 64) ∷ []) (tail_copied r c [] (none r)))))
