-- What stands for a blank, however a text is read: between two halts a space for TAB and LF, and a C2 or E2 of XML 1.1 for itself
-- (`smooth_blank`); at a halt other than `&` a space, for a line end (`halt_lines`) or, past line ends, for a CR alone (`halt_past`).
-- Assumes nothing.
use mathlib.Core.Path.{◌≡◌, refl, sym, ap, subst, ◌∙◌}
use mathlib.Core.Logic.{◌≢◌}
use mathlib.Core.Bool.{Bool, true, false, ◌&&◌, ◌||◌, true≢false}
use mathlib.Core.List.{List, [], ◌∷◌}
use Prim.Native.Nat.{ℕ, zero, suc, ◌+◌, ◌≤◌, ◌<◌}
use native.Mathlib.Omega.{arith}
use native.Mathlib.Numerals.{add-one}
use lib.Dec.{eqb}
use lib.ListN.{length, drop, get_or, length-drop}
use lib.Seq.{drop-cons}
use borrow.Author.Tests.{eqb-true, eqb-false, eq-eqb, ne_eqb}
use Rattle.text.specs.Bytes.{pick, begins}
use Rattle.text.proofs.Bytes.{or_left, or_right}
use Rattle.eols.specs.LineEnds.{line_end}
use Rattle.eols.specs.Stops.{rule_for}
use Rattle.eols.specs.declared.Step.{Step}
use Rattle.eols.proofs.LineEnds.{none10, lf_alone, line_end_fits}
use Rattle.halts.specs.Halts.{halts, spaced, stop_byte}
use Rattle.tokens.specs.Tokens.{kept, space, stop, Heads, head}
use Rattle.tokens.specs.Walking.{head_at}
use Rattle.attribute.specs.Heads.{space_or, other_head, attribute_head, past_head}
use Rattle.attribute.specs.Walk.{answer}
use Rattle.attribute.specs.Steps.{heads_by, Blank}
use Rattle.attribute.proofs.Stops.{cr_some, kept_head, by_how}

abbrev step_of : ℕ → ℕ → Step
step_of b w = record { byte = b; width = w }

-- ---- a byte at which no halt starts

module _ (newer : Bool) (b : ℕ) (bs : List ℕ) (h : halts newer (b ∷ bs) ≡ false) where
  abbrev lines : Bool
  lines = newer && (begins (0xC2 ∷ 0x85 ∷ []) (b ∷ bs) || begins (0xE2 ∷ 0x80 ∷ 0xA8 ∷ []) (b ∷ bs))

  no_amp : eqb b 38 ≡ false
  no_amp = or_left (eqb b 38) (eqb b 13) (or_left (eqb b 38 || eqb b 13) lines h)

  no_cr : eqb b 13 ≡ false
  no_cr = or_right (eqb b 38) (eqb b 13) (or_left (eqb b 38 || eqb b 13) lines h)

  no_line : lines ≡ false
  no_line = or_right (eqb b 38 || eqb b 13) lines h

-- it starts no line end but LF
smooth_line : (newer : Bool) (b : ℕ) (bs : List ℕ) → halts newer (b ∷ bs) ≡ false → b ≢ 10 → line_end (rule_for newer) (b ∷ bs) ≡ 0
unfolding line_end
smooth_line false b bs h lf = none10 b bs (eqb-false b 13 (no_cr false b bs h)) lf
smooth_line true b bs h lf =
    let two = begins (0xC2 ∷ 0x85 ∷ []) (b ∷ bs) in
    let three = begins (0xE2 ∷ 0x80 ∷ 0xA8 ∷ []) (b ∷ bs) in
    let n = no_line true b bs h in
    rw (no_cr true b bs h, ne_eqb b 10 lf, or_left two three n, or_right two three n)

-- ---- a halt other than `&` is a line end

some_of : (a b c d e f : Bool) → (e || f) ≡ true → ◌≢◌ {A = ℕ} (pick a 2 (pick b 3 (pick c 1 (pick d 1 (pick e 2 (pick f 3 0)))))) 0
some_of true b c d e f h z = omega (arith, z)
some_of false true c d e f h z = omega (arith, z)
some_of false false true d e f h z = omega (arith, z)
some_of false false false true e f h z = omega (arith, z)
some_of false false false false true f h z = omega (arith, z)
some_of false false false false false true h z = omega (arith, z)
some_of false false false false false false h z = true≢false (sym h)

halt_line : (newer : Bool) (b : ℕ) (bs : List ℕ) → halts newer (b ∷ bs) ≡ true → b ≢ 38 → line_end (rule_for newer) (b ∷ bs) ≢ 0
unfolding line_end
halt_line newer b bs h amp = go newer (eqb b 13) refl (rw (ne_eqb b 38 amp) at h)
  where
    go : (n x : Bool) → eqb b 13 ≡ x → (x || (n && (begins (0xC2 ∷ 0x85 ∷ []) (b ∷ bs) || begins (0xE2 ∷ 0x80 ∷ 0xA8 ∷ []) (b ∷ bs)))) ≡ true → line_end (rule_for n) (b ∷ bs) ≢ 0
    go n true e k = cr_some n b bs (eqb-true b 13 e)
    go false false e k = absurd (true≢false (sym k))
    go true false e k =
        some_of (begins (13 ∷ 10 ∷ []) (b ∷ bs)) (begins (13 ∷ 0xC2 ∷ 0x85 ∷ []) (b ∷ bs)) (begins (13 ∷ []) (b ∷ bs)) (begins (10 ∷ []) (b ∷ bs))
        (begins (0xC2 ∷ 0x85 ∷ []) (b ∷ bs)) (begins (0xE2 ∷ 0x80 ∷ 0xA8 ∷ []) (b ∷ bs)) k

-- and no TAB
halt_no_tab : (newer : Bool) (b : ℕ) (bs : List ℕ) → halts newer (b ∷ bs) ≡ true → b ≢ 9
halt_no_tab newer b bs h e = go newer (subst (λ (x : ℕ). halts newer (x ∷ bs) ≡ true) e h)
  where
    go : (n : Bool) → halts n (9 ∷ bs) ≡ true → ⊥
    go true k = true≢false (sym k)
    go false k = true≢false (sym k)

-- ---- blanks

module _ (text : List ℕ) (at : ℕ) (h : at < length text) where
  abbrev byte : ℕ
  byte = get_or text at 0

  here : drop at text ≡ get_or text at 0 ∷ drop (at + 1) text
  here = rw (add-one at) (drop-cons text at 0 h)

  -- a token that is one space, or a byte kept for itself
  blank_space : (heads : Heads) (w : ℕ) → at + suc w ≤ length text → head_at heads text at ≡ head (stop space) w → Blank heads text at (step_of 32 (suc w))
  unfolding answer
  blank_space heads w l e = record { some = omega arith; inside = l; next = rw e (omega arith); stands_for = λ s walked n. rw e }

  blank_kept : (heads : Heads) → head_at heads text at ≡ head (stop (kept (get_or text at 0))) 0 → Blank heads text at (step_of (get_or text at 0) 1)
  unfolding answer
  blank_kept heads e = record { some = omega arith; inside = omega (arith, h); next = rw e (omega arith); stands_for = λ s walked n. rw e }

  -- past line ends
  past_blank : eqb (get_or text at 0) 38 ≡ false → eqb (get_or text at 0) 9 || eqb (get_or text at 0) 10 || eqb (get_or text at 0) 13 ≡ true
      → Blank past_head text at (step_of 32 1)
  unfolding past_head
  past_blank amp e = blank_space past_head 0 (omega (arith, h)) (rw (amp, e))

  module _ (newer : Bool) where
    abbrev line_heads : Heads
    line_heads = attribute_head (rule_for newer)

    tab_blank : get_or text at 0 ≡ 9 → Blank line_heads text at (step_of 32 1)
    unfolding attribute_head
    tab_blank e = blank_space line_heads 0 (omega (arith, h)) (rw (ne_eqb (get_or text at 0) 38 (λ q. omega (arith, e, q)), eq-eqb (get_or text at 0) 9 e))

    module _ (amp : get_or text at 0 ≢ 38) (tab : get_or text at 0 ≢ 9) where
      head_line : head_at line_heads text at ≡ space_or (line_end (rule_for newer) (drop at text)) (other_head (rule_for newer) (get_or text at 0))
      unfolding attribute_head
      head_line = rw (ne_eqb (get_or text at 0) 38 amp, ne_eqb (get_or text at 0) 9 tab, here)

      line_blank : (w : ℕ) → w ≡ line_end (rule_for newer) (drop at text) → w ≢ 0 → Blank line_heads text at (step_of 32 w)
      line_blank zero e some = absurd (some refl)
      line_blank (suc w) e some =
          blank_space line_heads w (omega (arith, e, line_end_fits (rule_for newer) (drop at text), length-drop at text, h))
          (unfold space_or in head_line ∙ ap (λ (k : ℕ). space_or k (other_head (rule_for newer) (get_or text at 0))) (sym e))

      kept_blank : stop_byte newer (get_or text at 0) ≡ true → line_end (rule_for newer) (drop at text) ≡ 0 → Blank line_heads text at (step_of (get_or text at 0) 1)
      unfolding space_or
      kept_blank e z =
          let k = kept_head newer (get_or text at 0) (drop (at + 1) text) amp tab e (ap (line_end (rule_for newer)) (sym here) ∙ z) in
          blank_kept line_heads (head_line ∙ ap (λ (w : ℕ). space_or w (other_head (rule_for newer) (get_or text at 0))) z ∙ k)

  -- ---- between two halts

  smooth_past : halts false (drop at text) ≡ false → stop_byte false (get_or text at 0) ≡ true → Blank past_head text at (step_of (spaced (get_or text at 0)) 1)
  smooth_past e z = go (eqb (get_or text at 0) 9) refl (eqb (get_or text at 0) 10) refl
    where
      smooth : halts false (get_or text at 0 ∷ drop (at + 1) text) ≡ false
      smooth = ap (halts false) (sym here) ∙ e

      amp : eqb (get_or text at 0) 38 ≡ false
      amp = no_amp false (get_or text at 0) (drop (at + 1) text) smooth

      cr : eqb (get_or text at 0) 13 ≡ false
      cr = no_cr false (get_or text at 0) (drop (at + 1) text) smooth

      go : (t : Bool) → eqb (get_or text at 0) 9 ≡ t → (l : Bool) → eqb (get_or text at 0) 10 ≡ l → Blank past_head text at (step_of (spaced (get_or text at 0)) 1)
      go true q l r = rw q (past_blank amp (rw q))
      go false q true r = rw (q, r) (past_blank amp (rw (q, r)))
      go false q false r = absurd (true≢false (sym (rw (q, r, cr, amp) at z)))

  smooth_lines : (newer : Bool) → halts newer (drop at text) ≡ false → stop_byte newer (get_or text at 0) ≡ true
      → Blank (attribute_head (rule_for newer)) text at (step_of (spaced (get_or text at 0)) 1)
  smooth_lines newer e z = go (eqb (get_or text at 0) 9) refl (eqb (get_or text at 0) 10) refl
    where
      smooth : halts newer (get_or text at 0 ∷ drop (at + 1) text) ≡ false
      smooth = ap (halts newer) (sym here) ∙ e

      amp : get_or text at 0 ≢ 38
      amp = eqb-false (get_or text at 0) 38 (no_amp newer (get_or text at 0) (drop (at + 1) text) smooth)

      go : (t : Bool) → eqb (get_or text at 0) 9 ≡ t → (l : Bool) → eqb (get_or text at 0) 10 ≡ l → Blank (attribute_head (rule_for newer)) text at (step_of (spaced (get_or text at 0)) 1)
      go true q l r = rw q (tab_blank newer (eqb-true (get_or text at 0) 9 q))
      go false q true r =
          let one : 1 ≡ line_end (rule_for newer) (drop at text) =
          sym (ap (line_end (rule_for newer)) here ∙ lf_alone (get_or text at 0) (drop (at + 1) text) newer (eqb-true (get_or text at 0) 10 r)) in
          rw (q, r) (line_blank newer amp (eqb-false (get_or text at 0) 9 q) 1 one (λ k. omega (arith, k)))
      go false q false r =
          let none : line_end (rule_for newer) (drop at text) ≡ 0 =
          ap (line_end (rule_for newer)) here ∙ smooth_line newer (get_or text at 0) (drop (at + 1) text) smooth (eqb-false (get_or text at 0) 10 r) in
          rw (q, r) (kept_blank newer amp (eqb-false (get_or text at 0) 9 q) z none)

  pub smooth_blank : (how : ℕ) → halts (eqb how 1) (drop at text) ≡ false → stop_byte (eqb how 1) (get_or text at 0) ≡ true
      → Blank (heads_by how) text at (step_of (spaced (get_or text at 0)) 1)
  smooth_blank how =
      by_how how (λ n heads. halts n (drop at text) ≡ false → stop_byte n (get_or text at 0) ≡ true → Blank heads text at (step_of (spaced (get_or text at 0)) 1)) smooth_past smooth_lines

  -- ---- at a halt other than `&`

  module _ (how : ℕ) (e : halts (eqb how 1) (drop at text) ≡ true) (amp : get_or text at 0 ≢ 38) where
    halted : halts (eqb how 1) (get_or text at 0 ∷ drop (at + 1) text) ≡ true
    halted = ap (halts (eqb how 1)) (sym here) ∙ e

    pub halt_past : how ≡ 2 → Blank (heads_by how) text at (step_of 32 1)
    halt_past q =
        let older : eqb how 1 ≡ false = ne_eqb how 1 (λ z. omega (arith, q, z)) in
        let cr : eqb (get_or text at 0) 13 ≡ true = only_cr (subst (λ (n : Bool). halts n (get_or text at 0 ∷ drop (at + 1) text) ≡ true) older halted) in
        let two : eqb how 2 ≡ true = eq-eqb how 2 q in
        rw two
        (past_blank (ne_eqb (get_or text at 0) 38 amp)
        (rw (ne_eqb (get_or text at 0) 9 (λ z. omega (arith, eqb-true (get_or text at 0) 13 cr, z)), ne_eqb (get_or text at 0) 10 (λ z. omega (arith, eqb-true (get_or text at 0) 13 cr, z))) cr))
      where
        or_none : (x : Bool) → x || false ≡ true → x ≡ true
        or_none true k = k
        or_none false k = k

        only_cr : halts false (get_or text at 0 ∷ drop (at + 1) text) ≡ true → eqb (get_or text at 0) 13 ≡ true
        only_cr k = or_none (eqb (get_or text at 0) 13) (rw (ne_eqb (get_or text at 0) 38 amp) at k)

    pub halt_lines : how ≢ 2 → {w : ℕ} → w ≡ line_end (rule_for (eqb how 1)) (drop at text) → Blank (heads_by how) text at (step_of 32 w)
    halt_lines q {w} is =
        let some : w ≢ 0 = λ z. halt_line (eqb how 1) (get_or text at 0) (drop (at + 1) text) halted amp (sym (ap (line_end (rule_for (eqb how 1))) here) ∙ sym is ∙ z) in
        let two : eqb how 2 ≡ false = ne_eqb how 2 q in
        rw two (line_blank (eqb how 1) amp (halt_no_tab (eqb how 1) (get_or text at 0) (drop (at + 1) text) halted) w is some)
