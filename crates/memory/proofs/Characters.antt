-- Whole characters, token by token: after a token that gives whole characters the rest of a text is whole (`token_rest`, `named_rest`), a run
-- up to a halt is, and so is what is left from the halt on (`halt_rest`), with blanks as spaces too (`spaced_utf8`). Assumes nothing.
use mathlib.Core.Path.{◌≡◌, refl, sym, ap, subst, ◌∙◌}
use mathlib.Core.Bool.{Bool, true, false, ◌&&◌, ◌||◌, true≢false}
use mathlib.Core.List.{List, [], ◌∷◌, ◌++◌}
use Prim.Native.Nat.{ℕ, zero, suc, ◌+◌, ◌-◌, ◌<◌}
use native.Mathlib.Omega.{arith}
use native.Mathlib.Numerals.{add-one}
use lib.Dec.{eqb, leb, ltb}
use lib.ListN.{length, get_or, take, drop, take-append-drop, drop_of_length-le}
use lib.Seq.{drop-cons, drop-drop}
use borrow.Author.Tests.{eqb-true, ltb-true, ltb-false}
use Rattle.text.specs.Bytes.{pick, begins}
use Rattle.text.specs.Utf8.{State, between, one, two, three, after_e0, after_ed, after_f0, after_f4, broken, next, after, WellFormed}
use Rattle.text.proofs.Bytes.{pick_both}
use Rattle.text.proofs.Utf8.{after_append, settled, next_ascii, never_between}
use Rattle.eols.specs.Stops.{rule_for}
use Rattle.charref.specs.CharRef.{any_character}
use Rattle.charref.specs.CharNumbers.{CharNumber}
use Rattle.charref.specs.CharNumbers.{Char}
use Rattle.legal.specs.Legal.{fault_at}
use Rattle.legal.specs.FirstFault.{may_by}
use Rattle.halts.specs.Halts.{halts, HaltAt, blanks_spaced}
use Rattle.tokens.specs.Tokens.{kept, space, number, named, unterminated, Token, copy, stop, barred, Head, head, Heads, token_of, skip_of}
use Rattle.tokens.specs.Outcome.{done, refused}
use Rattle.tokens.specs.Walking.{head_at, next_at, outcome_of}
use Rattle.tokens.proofs.Carried.{Moves, Moving}
use Rattle.tokens.proofs.WellFormedness.{Leaves, utf8, any_own}
use Rattle.attribute.specs.Walk.{Settings, answer, exhausted}
use Rattle.attribute.specs.Strict.{barring}
use Rattle.attribute.specs.Steps.{heads_by, guard_by, read_by, stop_answer}
use Rattle.attribute.proofs.Heads.{attribute_utf8, past_utf8}
use Rattle.attribute.proofs.Stops.{by_how}

-- ---- heads, however a text is read

module _ (legal : ℕ → CharNumber) (own : (m n : ℕ) → legal m ≡ Char n → m ≡ n) where
  guard_utf8 : (at : Heads) → Moving (utf8 legal own) at → (guard : ℕ) → Moving (utf8 legal own) (guard_by guard at)
  unfolding barring after
  guard_utf8 at g zero = g
  guard_utf8 at g (suc rule) = λ s offset b bs h.
      pick_both (λ (z : Head). Moves (utf8 legal own) s bs z) (fault_at (may_by rule) (b ∷ bs)) {a = head (barred offset) 0} {b = at offset b bs}
      (record { to = next s b; leads = tt; stands = h }) (g s offset b bs h)

  pub read_utf8 : (how guard : ℕ) → Moving (utf8 legal own) (read_by how guard)
  read_utf8 how guard =
      guard_utf8 (heads_by how) (by_how how (λ newer at. Moving (utf8 legal own) at) (past_utf8 legal own) (λ newer. attribute_utf8 legal own (rule_for newer))) guard

-- ---- a token of a text that is whole from there on

no_done : {before : List ℕ} {n number first second : ℕ} {value : List ℕ} {m : ℕ} → refused before n number first second ≡ done value m → ⊥
no_done e =
    let z : ◌≡◌ {A = ℕ} 0 1 = cc in
    omega (arith, z)

one_byte : {b n m : ℕ} {more : List ℕ} {to : State} → done (b ∷ []) n ≡ done more m → WellFormed more → next between b ≡ to → to ≡ between
unfolding WellFormed after
one_byte {b} {n} {m} {more} e w l =
    let q : more ≡ b ∷ [] = cc in
    sym l ∙ subst (λ (x : List ℕ). after between x ≡ between) q w

-- where a token leaves a reader that gives whole characters
leads_between : (s : Settings) (depth n : ℕ) (x : Token) {to : State} {m : ℕ} {more : List ℕ} → outcome_of (stop_answer s depth) x n ≡ done more m → WellFormed more
    → Leaves between x to → to ≡ between
unfolding stop_answer answer exhausted
leads_between s depth n (copy b) e w l = one_byte e w l
leads_between s zero n (stop (kept b)) e w l = absurd (no_done e)
leads_between s (suc depth) n (stop (kept b)) e w l = one_byte e w l
leads_between s depth n (stop space) e w l = sym l
leads_between s depth n (stop (number digits)) e w l = l.1
leads_between s depth n (stop (named offset name)) e w l = l.1
leads_between s zero n (stop (unterminated offset end)) e w l = absurd (no_done e)
leads_between s (suc depth) n (stop (unterminated offset end)) e w l = absurd (no_done e)
leads_between s depth n (barred o) e w l = absurd (no_done e)

module _ (how guard : ℕ) (t : List ℕ) (i : ℕ) (h : i < length t) (whole : WellFormed (drop i t)) where
  abbrev at : Heads
  at = read_by how guard

  abbrev bs : List ℕ
  bs = drop (i + 1) t

  moved : Moves (utf8 any_character any_own) between bs (head_at at t i)
  unfolding WellFormed
  moved =
      let here : drop i t ≡ get_or t i 0 ∷ bs = rw (add-one i) (drop-cons t i 0 h) in
      read_utf8 any_character any_own how guard between i (get_or t i 0) bs (ap (after between) (sym here) ∙ whole)

  goes_on : (z : Head) → Moves (utf8 any_character any_own) between bs z → ((to : State) → Leaves between (token_of z) to → to ≡ between) → WellFormed (drop (i + 1 + skip_of z) t)
  unfolding WellFormed
  goes_on (head x skip) o l =
      ap (after between) (sym (drop-drop skip (i + 1) t)) ∙ ap (λ (s : State). after s (drop skip bs)) (sym (l o.to o.leads)) ∙ o.stands

  pub token_rest : (s : Settings) (depth n : ℕ) {m j : ℕ} (more : List ℕ) → outcome_of (stop_answer s depth) (token_of (head_at at t i)) n ≡ done more m → WellFormed more
      → next_at at t i ≡ j → WellFormed (drop j t)
  token_rest s depth n more e w q =
      subst (λ (k : ℕ). WellFormed (drop k t)) q (goes_on (head_at at t i) moved (λ to l. leads_between s depth n (token_of (head_at at t i)) e w l))

  -- a name, whatever it gives
  pub named_rest : {name : List ℕ} {j : ℕ} → token_of (head_at at t i) ≡ stop (named i name) → next_at at t i ≡ j → WellFormed (drop j t)
  named_rest {name} is q =
      subst (λ (k : ℕ). WellFormed (drop k t)) q
      (goes_on (head_at at t i) moved (λ to l. (subst (λ (x : Token). Leaves between x to) is l).1))

-- ---- a run up to a halt

-- C2 and E2 begin a character
c2_first : (s : State) (bs : List ℕ) → after s (0xC2 ∷ bs) ≡ between → s ≡ between
unfolding after next
c2_first between bs e = refl
c2_first one bs e = absurd (never_between bs e)
c2_first two bs e = absurd (never_between bs e)
c2_first three bs e = absurd (never_between bs e)
c2_first after_e0 bs e = absurd (never_between bs e)
c2_first after_ed bs e = absurd (never_between bs e)
c2_first after_f0 bs e = absurd (never_between bs e)
c2_first after_f4 bs e = absurd (never_between bs e)
c2_first broken bs e = absurd (never_between bs e)

e2_first : (s : State) (bs : List ℕ) → after s (0xE2 ∷ bs) ≡ between → s ≡ between
unfolding after next
e2_first between bs e = refl
e2_first one bs e = absurd (never_between bs e)
e2_first two bs e = absurd (never_between bs e)
e2_first three bs e = absurd (never_between bs e)
e2_first after_e0 bs e = absurd (never_between bs e)
e2_first after_ed bs e = absurd (never_between bs e)
e2_first after_f0 bs e = absurd (never_between bs e)
e2_first after_f4 bs e = absurd (never_between bs e)
e2_first broken bs e = absurd (never_between bs e)

-- at a halt a reader stands between two characters
halt_settles : (newer : Bool) (s : State) (bs : List ℕ) → halts newer bs ≡ true → after s bs ≡ between → s ≡ between
unfolding after
halt_settles newer s [] e w = absurd (true≢false (sym e))
halt_settles newer s (b ∷ bs) e w = go (eqb b 38) refl (eqb b 13) refl newer e
  where
    ascii : leb b 0x7F ≡ true → s ≡ between
    ascii a = (settled s bs (ap (λ (x : State). after x bs) (sym (next_ascii s b a)) ∙ w)).0

    own : (x : Bool) → eqb b 0xC2 ≡ x → (y : Bool) → eqb b 0xE2 ≡ y → (x && begins (0x85 ∷ []) bs) || (y && begins (0x80 ∷ 0xA8 ∷ []) bs) ≡ true → s ≡ between
    own true p y q k = c2_first s bs (ap (λ (c : ℕ). after s (c ∷ bs)) (sym (eqb-true b 0xC2 p)) ∙ w)
    own false p true q k = e2_first s bs (ap (λ (c : ℕ). after s (c ∷ bs)) (sym (eqb-true b 0xE2 q)) ∙ w)
    own false p false q k = absurd (true≢false (sym k))

    go : (a : Bool) → eqb b 38 ≡ a → (c : Bool) → eqb b 13 ≡ c → (n : Bool)
        → a || c || (n && (begins (0xC2 ∷ 0x85 ∷ []) (b ∷ bs) || begins (0xE2 ∷ 0x80 ∷ 0xA8 ∷ []) (b ∷ bs))) ≡ true → s ≡ between
    go true p c q n k = ascii (rw (eqb-true b 38 p))
    go false p true q n k = ascii (rw (eqb-true b 13 q))
    go false p false q false k = absurd (true≢false (sym k))
    go false p false q true k = own (eqb b 0xC2) refl (eqb b 0xE2) refl k

-- what is written for a run brings a reader where the run does
after_spaced : (s : State) (bs : List ℕ) → after s (blanks_spaced bs) ≡ after s bs
unfolding after
after_spaced s [] = refl
after_spaced s (b ∷ bs) = ap (λ (x : State). after x (blanks_spaced bs)) (go (eqb b 9) refl (eqb b 10) refl) ∙ after_spaced (next s b) bs
  where
    go : (x : Bool) → eqb b 9 ≡ x → (y : Bool) → eqb b 10 ≡ y → next s (pick (x || y) 32 b) ≡ next s b
    go true p y q = next_ascii s 32 refl ∙ sym (next_ascii s b (rw (eqb-true b 9 p)))
    go false p true q = next_ascii s 32 refl ∙ sym (next_ascii s b (rw (eqb-true b 10 q)))
    go false p false q = refl

pub spaced_utf8 : (bs : List ℕ) → WellFormed bs → WellFormed (blanks_spaced bs)
unfolding WellFormed
spaced_utf8 bs w = after_spaced between bs ∙ w

module _ {newer : Bool} {t : List ℕ} {i e : ℕ} (at : HaltAt newer t i e) (whole : WellFormed (drop i t)) where
  abbrev run : List ℕ
  run = take (e - i) (drop i t)

  split : run ++ drop e t ≡ drop i t
  split =
      let q : i + (e - i) ≡ e = omega (arith, at.smooth.from) in
      ap (λ (l : List ℕ). run ++ l) (ap (λ (k : ℕ). drop k t) (sym q) ∙ sym (drop-drop (e - i) i t)) ∙ take-append-drop (e - i) (drop i t)

  -- the run and what is left from the halt on
  pub halt_rest : WellFormed run × WellFormed (drop e t)
  unfolding WellFormed
  halt_rest = go (ltb e (length t)) refl
    where
      after_run : after (after between run) (drop e t) ≡ between
      after_run = sym (after_append between run (drop e t)) ∙ ap (after between) split ∙ whole

      go : (x : Bool) → ltb e (length t) ≡ x → (after between run ≡ between) × (after between (drop e t) ≡ between)
      go true q =
          let z = halt_settles newer (after between run) (drop e t) (at.ends (ltb-true e (length t) q)) after_run in
          (z, ap (λ (s : State). after s (drop e t)) (sym z) ∙ after_run)
      go false q =
          let none : drop e t ≡ [] = drop_of_length-le t (ltb-false e (length t) q) in
          (ap (after (after between run)) (sym none) ∙ after_run, ap (after between) none)
