-- One character: what its first byte tells, and what follows from each of its bytes. Assumes nothing.
use mathlib.Core.Path.{◌≡◌, refl, ap, ◌∙◌}
use mathlib.Core.Bool.{true, false}
use mathlib.Core.List.{List, [], ◌∷◌}
use Prim.Native.Nat.{ℕ, suc, ◌+◌, ◌-◌, ◌≤◌, ◌<◌}
use native.Mathlib.Omega.{arith}
use lib.Dec.{eqb}
use borrow.Author.Tests.{ne_eqb}
use native.Mathlib.Numerals.{add-one}
use lib.ListN.{length, take, drop, get_or, length-drop}
use lib.Seq.{drop-cons}
use Rattle.text.specs.Bytes.{pick, within}
use Rattle.text.specs.Utf8.{State, one, two, broken, first, next, is_between, WellFormed, utf8_end, end_from}
use Rattle.text.specs.Blocks.{Character, Leads, wanted}
use Rattle.text.specs.declared.validate.Lead.{Lead}
use Rattle.text.proofs.Bytes.{pick_both}
use Rattle.text.proofs.FirstByte.{first_ascii}
use Rattle.text.proofs.Blocks.{whole_none}

-- no character starts with the byte
pub leads_none : (b low high : ℕ) → first b ≡ broken → Leads b (record { width = 0; low = low; high = high })
unfolding is_between
leads_none b low high e =
    record { none = λ _. e; inner = rw e; second = λ h. absurd (h refl); narrow = λ h. absurd (h refl) }

-- one of that width does
pub leads : (b w low high : ℕ) (s : State) → first b ≡ s → is_between s ≡ false
    → ((x : ℕ) → next s x ≡ pick (within low high x) (wanted w) broken) → 2 ≤ w → w ≤ 4
    → Leads b (record { width = w; low = low; high = high })
leads b w low high s e i n g h =
    record { none = λ z. absurd (omega arith); inner = rw e i; second = λ _ x. rw e (n x); narrow = λ _. (g, h) }

-- ---- where no character is: nothing from there on is well-formed

dead : (at : ℕ) (bs : List ℕ) → end_from broken at 0 bs ≡ 0
unfolding end_from
dead at [] = refl
dead at (b ∷ bs) = dead (suc at) bs

short : (s : State) (at : ℕ) → is_between s ≡ false → end_from s at 0 [] ≡ 0
unfolding end_from
short s at e = rw e

on : (s : State) (at b : ℕ) (bs : List ℕ) → is_between s ≡ false → end_from s at 0 (b ∷ bs) ≡ end_from (next s b) (suc at) 0 bs
unfolding end_from
on s at b bs e = rw e

begin : (b : ℕ) (bs : List ℕ) → utf8_end (b ∷ bs) ≡ end_from (first b) 1 0 bs
unfolding utf8_end
begin b bs = refl

lone : (b : ℕ) (bs : List ℕ) → first b ≡ broken → utf8_end (b ∷ bs) ≡ 0
lone b bs e = begin b bs ∙ rw e (dead 1 bs)

inner_wanted : (w : ℕ) → (w ≡ 2 → ⊥) → is_between (wanted w) ≡ false
unfolding is_between
inner_wanted w n = rw (ne_eqb w 2 n) (pick_both (λ (s : State). is_between s ≡ false) (eqb w 3) {a = one} {b = two} refl refl)

wanted_out : (w u : ℕ) → (w ≡ 2 → ⊥) → within 0x80 0xBF u ≡ false → next (wanted w) u ≡ broken
unfolding next
wanted_out w u n e = rw (ne_eqb w 2 n) (pick_both (λ (s : State). next s u ≡ broken) (eqb w 3) {a = one} {b = two} (rw e) (rw e))

-- a character of three or four bytes whose last is missing
one_short : (w at u : ℕ) → (w ≡ 2 → ⊥) → (w ≡ 3 → ⊥) → end_from (wanted w) at 0 (u ∷ []) ≡ 0
unfolding next is_between
one_short w at u n m =
    on (wanted w) at u [] (inner_wanted w n)
    ∙ rw (ne_eqb w 2 n, ne_eqb w 3 m) (pick_both (λ (s : State). end_from s (suc at) 0 [] ≡ 0) (within 0x80 0xBF u) {a = one} {b = broken} (short one (suc at) refl) (dead (suc at) []))

module _ (b : ℕ) (l : Lead) (g : Leads b l) (some : l.width ≡ 0 → ⊥) where
  second_step : (s : ℕ) (bs : List ℕ)
      → utf8_end (b ∷ s ∷ bs) ≡ end_from (pick (within l.low l.high s) (wanted l.width) broken) 2 0 bs
  second_step s bs = begin b (s ∷ bs) ∙ on (first b) 1 s bs g.inner ∙ rw (g.second some s)

  second_in : (s : ℕ) (bs : List ℕ) → within l.low l.high s ≡ true → utf8_end (b ∷ s ∷ bs) ≡ end_from (wanted l.width) 2 0 bs
  second_in s bs e = second_step s bs ∙ rw e

  second_out : (s : ℕ) (bs : List ℕ) → within l.low l.high s ≡ false → utf8_end (b ∷ s ∷ bs) ≡ 0
  second_out s bs e = second_step s bs ∙ rw e (dead 2 bs)

  third_out : (s u : ℕ) (bs : List ℕ) → within l.low l.high s ≡ true → (l.width ≡ 2 → ⊥) → within 0x80 0xBF u ≡ false
      → utf8_end (b ∷ s ∷ u ∷ bs) ≡ 0
  third_out s u bs e n x =
      second_in s (u ∷ bs) e ∙ on (wanted l.width) 2 u bs (inner_wanted l.width n) ∙ rw (wanted_out l.width u n x) (dead 3 bs)

  fourth_out : (s u v : ℕ) (bs : List ℕ) → within l.low l.high s ≡ true → (l.width ≡ 2 → ⊥) → (l.width ≡ 3 → ⊥)
      → within 0x80 0xBF u ≡ true → within 0x80 0xBF v ≡ false → utf8_end (b ∷ s ∷ u ∷ v ∷ bs) ≡ 0
  unfolding next is_between
  fourth_out s u v bs e n m x y =
      second_in s (u ∷ v ∷ bs) e ∙ on (wanted l.width) 2 u (v ∷ bs) (inner_wanted l.width n)
      ∙ rw (ne_eqb l.width 2 n, ne_eqb l.width 3 m, x) (on one 3 v bs refl ∙ rw y (dead 4 bs))

  -- the text ends within the character
  cut : (bs : List ℕ) → length bs + 1 < l.width → utf8_end (b ∷ bs) ≡ 0
  cut [] h = begin b [] ∙ short (first b) 1 g.inner
  cut (s ∷ []) h =
      second_step s []
      ∙ pick_both (λ (x : State). end_from x 2 0 [] ≡ 0) (within l.low l.high s) {a = wanted l.width} {b = broken}
      (short (wanted l.width) 2 (inner_wanted l.width (λ q. omega arith))) (dead 2 [])
  cut (s ∷ u ∷ []) h =
      second_step s (u ∷ [])
      ∙ pick_both (λ (x : State). end_from x 2 0 (u ∷ []) ≡ 0) (within l.low l.high s) {a = wanted l.width} {b = broken}
      (one_short l.width 2 u (λ q. omega arith) (λ q. omega arith)) (dead 2 (u ∷ []))
  cut (s ∷ u ∷ v ∷ bs) h = absurd (let k = (g.narrow some).1 in omega arith)

  good2 : (s : ℕ) → l.width ≡ 2 → within l.low l.high s ≡ true → WellFormed (b ∷ s ∷ [])
  unfolding WellFormed
  good2 s w e = rw (g.second some s, e, w)

  good3 : (s u : ℕ) → l.width ≡ 3 → within l.low l.high s ≡ true → within 0x80 0xBF u ≡ true → WellFormed (b ∷ s ∷ u ∷ [])
  unfolding WellFormed
  good3 s u w e x = rw (g.second some s, e, w, x)

  good4 : (s u v : ℕ) → (l.width ≡ 2 → ⊥) → (l.width ≡ 3 → ⊥) → within l.low l.high s ≡ true → within 0x80 0xBF u ≡ true
      → within 0x80 0xBF v ≡ true → WellFormed (b ∷ s ∷ u ∷ v ∷ [])
  unfolding WellFormed
  good4 s u v n m e x y = rw (g.second some s, e, ne_eqb l.width 2 n, ne_eqb l.width 3 m, x, y)

-- ---- the same of the text from an index on

at1 : (t : List ℕ) (i : ℕ) → i < length t → drop i t ≡ get_or t i 0 ∷ drop (i + 1) t
at1 t i h = rw (add-one i, drop-cons t i 0 h)

at2 : (t : List ℕ) (i : ℕ) → i + 1 < length t → drop i t ≡ get_or t i 0 ∷ get_or t (i + 1) 0 ∷ drop (i + 2) t
at2 t i h =
    let q : i + 1 + 1 ≡ i + 2 = omega arith in
    at1 t i (omega arith) ∙ ap (λ (l : List ℕ). get_or t i 0 ∷ l) (rw q at (at1 t (i + 1) h))

at3 : (t : List ℕ) (i : ℕ) → i + 2 < length t → drop i t ≡ get_or t i 0 ∷ get_or t (i + 1) 0 ∷ get_or t (i + 2) 0 ∷ drop (i + 3) t
at3 t i h =
    let q : i + 2 + 1 ≡ i + 3 = omega arith in
    at2 t i (omega arith) ∙ ap (λ (l : List ℕ). get_or t i 0 ∷ get_or t (i + 1) 0 ∷ l) (rw q at (at1 t (i + 2) h))

at4 : (t : List ℕ) (i : ℕ) → i + 3 < length t
    → drop i t ≡ get_or t i 0 ∷ get_or t (i + 1) 0 ∷ get_or t (i + 2) 0 ∷ get_or t (i + 3) 0 ∷ drop (i + 4) t
at4 t i h =
    let q : i + 3 + 1 ≡ i + 4 = omega arith in
    at3 t i (omega arith) ∙ ap (λ (l : List ℕ). get_or t i 0 ∷ get_or t (i + 1) 0 ∷ get_or t (i + 2) 0 ∷ l) (rw q at (at1 t (i + 3) h))

found : (t : List ℕ) (i w : ℕ) → 0 < w → i + w ≤ length t → WellFormed (take w (drop i t)) → Character t i w
found t i w p h f = record { is = record { fits = h; whole = f }; none = λ z. absurd (omega arith) }

nothing : (t : List ℕ) (i : ℕ) → i < length t → utf8_end (drop i t) ≡ 0 → Character t i 0
nothing t i h e = record { is = whole_none t i (omega arith); none = λ _. e }

pub char_ascii : (t : List ℕ) (i : ℕ) → i < length t → get_or t i 0 < 0x80 → Character t i 1
char_ascii t i h l = found t i 1 (omega arith) (omega arith) (rw (at1 t i h) (unfold WellFormed in first_ascii (get_or t i 0) l))

-- ---- and by what is known after each byte, as `char_width` reads them

-- after the first byte: what it tells, and that the text has room for the character
pub record Begun (t : List ℕ) (i : ℕ) (l : Lead) : Type 0 where
  pub leads : Leads (get_or t i 0) l
  pub some : l.width ≡ 0 → ⊥
  pub room : i < length t
  pub reach : l.width ≤ length t - i

-- after the second, of a character of three or four
pub record Second (t : List ℕ) (i : ℕ) (l : Lead) : Type 0 where
  pub begun : Begun t i l
  pub fits : within l.low l.high (get_or t (i + 1) 0) ≡ true
  pub wide : l.width ≡ 2 → ⊥

-- after the third, of a character of four
pub record Third (t : List ℕ) (i : ℕ) (l : Lead) : Type 0 where
  pub second : Second t i l
  pub fits : within 0x80 0xBF (get_or t (i + 2) 0) ≡ true
  pub wide : l.width ≡ 3 → ⊥

module _ {t : List ℕ} {i : ℕ} {l : Lead} where
  pub no_first : Leads (get_or t i 0) l → i < length t → l.width ≡ 0 → Character t i 0
  no_first g h z = nothing t i h (rw (at1 t i h) (lone _ _ (g.none z)))

  pub no_room : Leads (get_or t i 0) l → (l.width ≡ 0 → ⊥) → i < length t → length t - i < l.width → Character t i 0
  no_room g some h k = nothing t i h (rw (at1 t i h) (cut _ l g some (drop (i + 1) t) (rw (length-drop (i + 1) t) (omega arith))))

  pub two_inside : Begun t i l → i + 1 < length t
  two_inside b = omega (arith, b.room, b.reach, (b.leads.narrow b.some).0)

  pub three_inside : Second t i l → i + 2 < length t
  three_inside s = omega (arith, s.begun.room, s.begun.reach, (s.begun.leads.narrow s.begun.some).0, s.wide)

  pub four_inside : Third t i l → i + 3 < length t
  four_inside r =
      let b = r.second.begun in
      omega (arith, b.room, b.reach, (b.leads.narrow b.some).0, r.second.wide, r.wide)

  pub no_second : Begun t i l → within l.low l.high (get_or t (i + 1) 0) ≡ false → Character t i 0
  no_second b e = nothing t i b.room (rw (at2 t i (two_inside b)) (second_out _ l b.leads b.some _ _ e))

  pub char_two : Begun t i l → l.width ≡ 2 → within l.low l.high (get_or t (i + 1) 0) ≡ true → Character t i 2
  char_two b w e =
      let h = two_inside b in
      found t i 2 (omega arith) (omega (arith, h)) (rw (at2 t i h) (good2 _ l b.leads b.some _ w e))

  pub no_third : Second t i l → within 0x80 0xBF (get_or t (i + 2) 0) ≡ false → Character t i 0
  no_third s x =
      let b = s.begun in
      nothing t i b.room (rw (at3 t i (three_inside s)) (third_out _ l b.leads b.some _ _ _ s.fits s.wide x))

  pub char_three : Second t i l → l.width ≡ 3 → within 0x80 0xBF (get_or t (i + 2) 0) ≡ true → Character t i 3
  char_three s w x =
      let b = s.begun in
      let h = three_inside s in
      found t i 3 (omega arith) (omega (arith, h)) (rw (at3 t i h) (good3 _ l b.leads b.some _ _ w s.fits x))

  pub no_fourth : Third t i l → within 0x80 0xBF (get_or t (i + 3) 0) ≡ false → Character t i 0
  no_fourth r y =
      let s = r.second in
      let b = s.begun in
      nothing t i b.room (rw (at4 t i (four_inside r)) (fourth_out _ l b.leads b.some _ _ _ _ s.fits s.wide r.wide r.fits y))

  pub char_four : Third t i l → within 0x80 0xBF (get_or t (i + 3) 0) ≡ true → Character t i 4
  char_four r y =
      let s = r.second in
      let b = s.begun in
      let h = four_inside r in
      found t i 4 (omega arith) (omega (arith, h)) (rw (at4 t i h) (good4 _ l b.leads b.some _ _ _ s.wide r.wide s.fits r.fits y))
