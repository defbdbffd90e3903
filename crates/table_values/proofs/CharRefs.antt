-- Character references: all to the next `;`, as it is handed over. A number that has a line end in it is none, before and after line ends, so that the
-- digits as they are handed over give the same answer (`Reaching`). Assumes nothing.
use mathlib.Core.Path.{◌≡◌, refl, sym, ap, ap₂, ◌∙◌, subst}
use mathlib.Core.Logic.{◌≢◌}
use mathlib.Core.Bool.{Bool, true, false, ◌||◌}
use mathlib.Core.List.{List, [], ◌∷◌, ◌++◌, append_assoc, append-nil}
use Prim.Native.Nat.{ℕ, zero, suc, ◌+◌, ◌-◌, ◌*◌, ◌≤◌, ◌<◌}
use native.Mathlib.Omega.{arith}
use native.Mathlib.Nat.{le_refl}
use lib.Dec.{eqb, ltb}
use lib.ListN.{length, take, drop, get_or, length-drop}
use lib.Seq.{drop-drop, get_or-drop}
use borrow.Author.Tests.{eqb-true, eqb-false, eq-eqb, ne_eqb, ltb-true, ltb-false}
use Rattle.text.specs.Bytes.{begins}
use Rattle.text.proofs.Bytes.{or_left, or_right}
use Rattle.text.proofs.Patterns.{at_head}
use Rattle.std.specs.Prelude.{Result, Ok, Err}
use Rattle.text.specs.Answers.{Answer}
use Rattle.text.specs.Refusals.{number_of, first_of, second_of}
use Rattle.charref.specs.Errors.{read_as, answer_as, refusal_for}
use Rattle.charref.specs.declared.ParseCharRefError.{ParseCharRefError}
use Rattle.charref.specs.declared.ParseCharRefError.TheVariants as error
use Rattle.charref.proofs.Errors.{answers}
use Rattle.charref.specs.CharRef.{digit_value, number_from, small, in_base, judge, char_number, any_character, number_answer, encode}
use Rattle.charref.specs.CharNumbers.{CharNumber}
use Rattle.charref.proofs.Numbers.{number_step, number_stop_lem}
use Rattle.runs.specs.RunEnds.{RunEnd}
use Rattle.eols.specs.LineEnds.{line_end}
use Rattle.eols.specs.Stops.{rule_for}
use Rattle.eols.proofs.LineEnds.{cr_lf, cr_nel, cr_alone10, cr_alone11, lf_alone, none10, none11, nel, not_nel, ls, not_ls}
use Rattle.table_grammar.specs.EntityValue.{read, departs, refused, numbered, char_ref_from}
use Rattle.table_names.specs.NameTerms.{left}
use Rattle.table_values.specs.ValueSteps.{number_stop, Quote}
use Rattle.table_values.proofs.LeftPlaces.{left_end, left_ascii, left_kept, left_ended, ended_inside}
use Rattle.table_names.proofs.CharWidths.{begun_one, begun_two}
use Rattle.table_names.proofs.NamesPast.{take_more}

-- ---- a byte that is no digit settles the number

pub record Odd (c : ℕ) : Type 0 where
  pub digit : digit_value c ≡ 16
  pub x : c ≢ 120
  pub plus : c ≢ 43
  pub minus : c ≢ 45

module _ (a h : ℕ) (p : Odd a) (q : Odd h) (xs ys : List ℕ) where
  from_settled : (base n : ℕ) (front : List ℕ) → base ≤ 16 → number_from base n (front ++ a ∷ xs) ≡ number_from base n (front ++ h ∷ ys)
  from_settled base n [] l = number_stop_lem base n a xs (omega (arith, p.digit)) ∙ sym (number_stop_lem base n h ys (omega (arith, q.digit)))
  from_settled base n (b ∷ front) l = go (λ m. from_settled base m front l) (ltb (digit_value b) base) refl
    where
      go : ((m : ℕ) → number_from base m (front ++ a ∷ xs) ≡ number_from base m (front ++ h ∷ ys)) → (v : Bool) → ltb (digit_value b) base ≡ v
          → number_from base n (b ∷ (front ++ a ∷ xs)) ≡ number_from base n (b ∷ (front ++ h ∷ ys))
      go again true e =
          let d = ltb-true (digit_value b) base e in
          number_step base n b (front ++ a ∷ xs) d ∙ again (base * n + digit_value b) ∙ sym (number_step base n b (front ++ h ∷ ys) d)
      go again false e =
          let d = ltb-false (digit_value b) base e in
          number_stop_lem base n b (front ++ a ∷ xs) d ∙ sym (number_stop_lem base n b (front ++ h ∷ ys) d)

  base_settled : (base : ℕ) (front : List ℕ) → base ≤ 16 → in_base base (front ++ a ∷ xs) ≡ in_base base (front ++ h ∷ ys)
  unfolding in_base
  base_settled base [] l =
      rw (ne_eqb a 43 p.plus, ne_eqb a 45 p.minus, ne_eqb h 43 q.plus, ne_eqb h 45 q.minus) (ap small (from_settled base 0 [] l))
  base_settled base (b ∷ front) l = rw (from_settled base 0 (b ∷ front) l)

  pub number_settled : (front : List ℕ) → char_number any_character (front ++ a ∷ xs) ≡ char_number any_character (front ++ h ∷ ys)
  unfolding char_number
  number_settled [] = rw (ne_eqb a 120 p.x, ne_eqb h 120 q.x) (ap (judge any_character) (base_settled 10 [] (omega arith)))
  number_settled (b ∷ front) = rw (base_settled 16 front (omega arith), base_settled 10 (b ∷ front) (omega arith))

odd_13 : Odd 13
odd_13 = record { digit = unfold digit_value in refl; x = λ e. absurd (omega arith); plus = λ e. absurd (omega arith); minus = λ e. absurd (omega arith) }

odd_10 : Odd 10
odd_10 = record { digit = unfold digit_value in refl; x = λ e. absurd (omega arith); plus = λ e. absurd (omega arith); minus = λ e. absurd (omega arith) }

odd_c2 : Odd 0xC2
odd_c2 = record { digit = unfold digit_value in refl; x = λ e. absurd (omega arith); plus = λ e. absurd (omega arith); minus = λ e. absurd (omega arith) }

odd_e2 : Odd 0xE2
odd_e2 = record { digit = unfold digit_value in refl; x = λ e. absurd (omega arith); plus = λ e. absurd (omega arith); minus = λ e. absurd (omega arith) }

-- ---- the bytes of a line end: its first is no digit, the others are no printable ASCII

abbrev Far : ℕ → List ℕ → Type 0
Far zero bs = Unit {0}
Far (suc w) [] = Unit {0}
Far (suc w) (b ∷ bs) = (33 ≤ b → b < 0x80 → ⊥) × Far w bs

far_at : (w : ℕ) (bs : List ℕ) → Far w bs → (m : ℕ) → m < w → m < length bs → 33 ≤ get_or bs m 0 → get_or bs m 0 < 0x80 → ⊥
far_at zero bs f m h l g k = absurd (omega arith)
far_at (suc w) [] f m h l g k = absurd (omega arith)
far_at (suc w) (b ∷ bs) f zero h l g k = f.0 g k
far_at (suc w) (b ∷ bs) f (suc m) h l g k = far_at w bs f.1 m (omega arith) (omega arith) g k

record LineBytes (w b : ℕ) (bs : List ℕ) : Type 0 where
  odd : Odd b
  far : Far w bs

module _ (b : ℕ) (bs : List ℕ) where
  bytes_of : {w v : ℕ} → suc w ≡ v → {c : ℕ} → b ≡ c → Odd c → {cs : List ℕ} → bs ≡ cs → (k : ℕ) → v ≡ suc k → Far k cs → LineBytes w b bs
  bytes_of {w} {v} e {c} q o {cs} s k f g =
      let n : k ≡ w = omega (arith, e, f) in
      record { odd = subst Odd (sym q) o; far = subst (λ (l : List ℕ). Far w l) (sym s) (subst (λ (j : ℕ). Far j cs) n g) }

  line_bytes : (newer : Bool) (w : ℕ) → suc w ≡ line_end (rule_for newer) (b ∷ bs) → LineBytes w b bs
  line_bytes newer w e =
      go newer e (eqb b 13) refl (eqb b 10) refl (eqb b 0xC2) refl (eqb b 0xE2) refl (begins (10 ∷ []) bs) refl (begins (0xC2 ∷ 0x85 ∷ []) bs) refl
      (begins (0x85 ∷ []) bs) refl (begins (0x80 ∷ 0xA8 ∷ []) bs) refl
    where
      never : {X : Type 0} {v : ℕ} → suc w ≡ v → v ≡ 0 → X
      never p q = absurd (omega arith)

      far_10 : (ds : List ℕ) → Far 1 (10 ∷ ds)
      far_10 ds = (λ g k. omega arith, tt)

      go : (v : Bool) → suc w ≡ line_end (rule_for v) (b ∷ bs) → (a : Bool) → eqb b 13 ≡ a → (c : Bool) → eqb b 10 ≡ c → (d : Bool) → eqb b 0xC2 ≡ d → (f : Bool) → eqb b 0xE2 ≡ f
          → (x : Bool) → begins (10 ∷ []) bs ≡ x → (y : Bool) → begins (0xC2 ∷ 0x85 ∷ []) bs ≡ y → (z : Bool) → begins (0x85 ∷ []) bs ≡ z → (u : Bool)
          → begins (0x80 ∷ 0xA8 ∷ []) bs ≡ u → LineBytes w b bs
      go v e true ea c ec d ed f ef true ex y ey z ez u eu =
          let q = eqb-true b 13 ea in bytes_of e q odd_13 (begun_one 10 bs ex) 1 (cr_lf b bs v q ex) (far_10 (drop 1 bs))
      go false e true ea c ec d ed f ef false ex y ey z ez u eu = let q = eqb-true b 13 ea in bytes_of e q odd_13 {cs = bs} refl 0 (cr_alone10 b bs q ex) tt
      go true e true ea c ec d ed f ef false ex true ey z ez u eu =
          let q = eqb-true b 13 ea in bytes_of e q odd_13 (begun_two 0xC2 0x85 bs ey) 2 (cr_nel b bs q ex ey) (λ g k. absurd (omega arith), (λ g k. absurd (omega arith), tt))
      go true e true ea c ec d ed f ef false ex false ey z ez u eu = let q = eqb-true b 13 ea in bytes_of e q odd_13 {cs = bs} refl 0 (cr_alone11 b bs q ex ey) tt
      go v e false ea true ec d ed f ef x ex y ey z ez u eu = let q = eqb-true b 10 ec in bytes_of e q odd_10 {cs = bs} refl 0 (lf_alone b bs v q) tt
      go false e false ea false ec d ed f ef x ex y ey z ez u eu = never e (none10 b bs (eqb-false b 13 ea) (eqb-false b 10 ec))
      go true e false ea false ec true ed f ef x ex y ey true ez u eu =
          let q = eqb-true b 0xC2 ed in bytes_of e q odd_c2 (begun_one 0x85 bs ez) 1 (nel b bs (eqb-false b 13 ea) (eqb-false b 10 ec) q ez) (λ g k. absurd (omega arith), tt)
      go true e false ea false ec true ed f ef x ex y ey false ez u eu = never e (not_nel b bs (eqb-false b 13 ea) (eqb-false b 10 ec) (eqb-true b 0xC2 ed) ez)
      go true e false ea false ec false ed true ef x ex y ey z ez true eu =
          let q = eqb-true b 0xE2 ef in
          bytes_of e q odd_e2 (begun_two 0x80 0xA8 bs eu) 2 (ls b bs (eqb-false b 13 ea) (eqb-false b 10 ec) q eu) (λ g k. absurd (omega arith), (λ g k. absurd (omega arith), tt))
      go true e false ea false ec false ed true ef x ex y ey z ez false eu = never e (not_ls b bs (eqb-false b 13 ea) (eqb-false b 10 ec) (eqb-true b 0xE2 ef) eu)
      go true e false ea false ec false ed false ef x ex y ey z ez u eu = never e (none11 b bs (eqb-false b 13 ea) (eqb-false b 10 ec) (eqb-false b 0xC2 ed) (eqb-false b 0xE2 ef))

-- ---- from the place after `&#` on

-- the digits as they are handed over and after line ends: the same so far, or they are no number, whatever comes
data Alike (raw past : List ℕ) : Type 0 where
  same : raw ≡ past → Alike raw past
  settled : ((xs ys : List ℕ) → char_number any_character (raw ++ xs) ≡ char_number any_character (past ++ ys)) → Alike raw past

alike_more : (raw past xs ys : List ℕ) → Alike raw past → xs ≡ ys → Alike (raw ++ xs) (past ++ ys)
alike_more raw past xs ys (same e) f = same (ap₂ (λ (u v : List ℕ). u ++ v) e f)
alike_more raw past xs ys (settled g) f =
    settled (λ us vs. ap (char_number any_character) (append_assoc raw xs us) ∙ g (xs ++ us) (ys ++ vs) ∙ ap (char_number any_character) (sym (append_assoc past ys vs)))

alike_odd : (raw past : List ℕ) (a h : ℕ) (xs ys : List ℕ) → Alike raw past → Odd a → Odd h → Alike (raw ++ a ∷ xs) (past ++ h ∷ ys)
alike_odd raw past a h xs ys (same e) p q =
    settled (λ us vs. ap (char_number any_character) (append_assoc raw (a ∷ xs) us ∙ ap (λ (l : List ℕ). l ++ a ∷ (xs ++ us)) e) ∙ number_settled a h p
    q (xs ++ us) (ys ++ vs) past ∙ ap (char_number any_character) (sym (append_assoc past (h ∷ ys) vs)))
alike_odd raw past a h xs ys (settled g) p q =
    settled (λ us vs. ap (char_number any_character) (append_assoc raw (a ∷ xs) us) ∙ g (a ∷ (xs ++ us)) (h ∷ (ys ++ vs)) ∙ ap (char_number any_character) (sym (append_assoc past (h ∷ ys) vs)))

alike_number : (raw past : List ℕ) → Alike raw past → char_number any_character past ≡ char_number any_character raw
alike_number raw past (same e) = ap (char_number any_character) (sym e)
alike_number raw past (settled g) = sym (ap (char_number any_character) (sym (append-nil raw)) ∙ g [] [] ∙ ap (char_number any_character) (append-nil past))

ref_on : (quote b : ℕ) (digits t bs : List ℕ) → t ≡ b ∷ bs → b ≢ 59 → b ≢ quote → char_ref_from quote digits t ≡ char_ref_from quote (digits ++ b ∷ []) bs
unfolding char_ref_from
ref_on quote b digits t bs e n m = rw (e, ne_eqb b 59 n, ne_eqb b quote m)

record Reaching (quote : ℕ) (newer : Bool) (t : List ℕ) (from k : ℕ) : Type 0 where
  past : List ℕ
  order : from ≤ k
  on : char_ref_from quote [] (left newer t from) ≡ char_ref_from quote past (left newer t k)
  alike : Alike (take (k - from) (drop from t)) past

module _ (quote : ℕ) (newer : Bool) (t : List ℕ) (from end : ℕ) (ascii : Quote quote) (r : RunEnd (number_stop quote) t from end) where
  reach_start : Reaching quote newer t from from
  reach_start =
      let z : from - from ≡ 0 = omega arith in
      record { past = []; order = le_refl from; on = refl; alike = same (ap (λ (n : ℕ). take n (drop from t)) z) }

  -- the raw digits up to a later place
  raw_more : (k w : ℕ) → from ≤ k → take (k - from) (drop from t) ++ take w (drop k t) ≡ take (k + w - from) (drop from t)
  raw_more k w h =
      let q : from + (k - from) ≡ k = omega (arith, h) in
      let n : k - from + w ≡ k + w - from = omega (arith, h) in
      ap (λ (l : List ℕ). take (k - from) (drop from t) ++ take w l) (sym (drop-drop (k - from) from t ∙ ap (λ (j : ℕ). drop j t) q))
      ∙ take_more (k - from) w (drop from t) ∙ ap (λ (j : ℕ). take j (drop from t)) n

  no_stop_at : (k : ℕ) → from ≤ k → k < end → (get_or t k 0 ≢ 59) × (get_or t k 0 ≢ quote)
  no_stop_at k h l =
      let e = r.run.none k h l in
      (eqb-false (get_or t k 0) 59 (or_left (eqb (get_or t k 0) 59) (eqb (get_or t k 0) quote) e), eqb-false (get_or t k 0) quote (or_right (eqb (get_or t k 0) 59) (eqb (get_or t k 0) quote) e))

  -- what stands at the end, if anything does, is printable ASCII
  end_ascii : end < length t → (33 ≤ get_or t end 0) × (get_or t end 0 < 0x80)
  end_ascii h = go (eqb (get_or t end 0) 59) refl (r.ends h)
    where
      go : (x : Bool) → eqb (get_or t end 0) 59 ≡ x → eqb (get_or t end 0) 59 || eqb (get_or t end 0) quote ≡ true → (33 ≤ get_or t end 0) × (get_or t end 0 < 0x80)
      go true e f = let q = eqb-true (get_or t end 0) 59 e in (omega arith, omega arith)
      go false e f = let q = eqb-true (get_or t end 0) quote (rw e at f) in (omega (arith, ascii.0), omega (arith, ascii.1))

  -- a line end before the end does not reach over it
  line_before : (k w : ℕ) → k < end → k + suc w ≤ length t → LineBytes w (get_or t k 0) (drop (k + 1) t) → k + suc w ≤ end
  line_before k w l f b = go (ltb end (k + suc w)) refl
    where
      go : (x : Bool) → ltb end (k + suc w) ≡ x → k + suc w ≤ end
      go false e = ltb-false end (k + suc w) e
      go true e =
          let h = ltb-true end (k + suc w) e in
          let a = end_ascii (omega arith) in
          let m = end - (k + 1) in
          let q : k + 1 + m ≡ end = omega arith in
          let z : get_or (drop (k + 1) t) m 0 ≡ get_or t end 0 = get_or-drop (k + 1) t m 0 ∙ ap (λ (j : ℕ). get_or t j 0) q in
          absurd (far_at w (drop (k + 1) t) b.far m (omega arith) (omega (arith, length-drop (k + 1) t)) (omega (arith, z, a.0)) (omega (arith, z, a.1)))

  reach_more : (k : ℕ) → k < end → Reaching quote newer t from k → (n : ℕ) → end - k ≤ suc n
      → ((j : ℕ) → Reaching quote newer t from j → j ≤ end → end - j ≤ n → Reaching quote newer t from end) → Reaching quote newer t from end
  reach_more k l x n f again = go (line_end (rule_for newer) (drop k t)) refl
    where
      inside : k < length t
      inside = omega (arith, r.run.to)

      go : (w : ℕ) → w ≡ line_end (rule_for newer) (drop k t) → Reaching quote newer t from end
      go zero e =
          let s = no_stop_at k x.order l in
          again (k + 1)
          (record {
            past = x.past ++ get_or t k 0 ∷ [];
            order = omega (arith, x.order);
            on = x.on ∙ ref_on quote (get_or t k 0) x.past (left newer t k) (left newer t (k + 1)) (left_kept newer t k inside e) s.0 s.1;
            alike =
                subst (λ (l : List ℕ). Alike l (x.past ++ get_or t k 0 ∷ [])) (raw_more k 1 x.order)
                (alike_more (take (k - from) (drop from t)) x.past (take 1 (drop k t)) (get_or t k 0 ∷ []) x.alike (ap (take 1) (at_head t k inside)));
          })
          (omega arith) (omega arith)
      go (suc w) e =
          let b = line_bytes (get_or t k 0) (drop (k + 1) t) newer w (e ∙ ap (line_end (rule_for newer)) (at_head t k inside)) in
          let z = line_before k w l (ended_inside newer t k (suc w) inside (λ q. absurd (omega arith)) e) b in
          again (k + suc w)
          (record {
            past = x.past ++ 10 ∷ [];
            order = omega (arith, x.order);
            on =
                x.on ∙ ref_on quote 10 x.past (left newer t k) (left newer t (k + suc w))
                (left_ended newer t k (suc w) inside (λ q. absurd (omega arith)) e) (λ q. absurd (omega arith)) (λ q. absurd (omega (arith, ascii.0)));
            alike =
                subst (λ (l : List ℕ). Alike l (x.past ++ 10 ∷ [])) (ap (λ (l : List ℕ). take (k - from) (drop from t) ++ take (suc w) l) (sym (at_head t k inside)) ∙ raw_more k (suc w) x.order)
                (alike_odd (take (k - from) (drop from t)) x.past (get_or t k 0) 10 (take w (drop (k + 1) t)) [] x.alike b.odd odd_10);
          })
          z (omega (arith, z))

  reach_turn : (n k : ℕ) → ((j : ℕ) → Reaching quote newer t from j → j ≤ end → end - j ≤ n → Reaching quote newer t from end) → Reaching quote newer t from k → k ≤ end → end - k ≤ suc n
      → Reaching quote newer t from end
  reach_turn n k again x h f = go (ltb k end) refl
    where
      go : (v : Bool) → ltb k end ≡ v → Reaching quote newer t from end
      go true e = reach_more k (ltb-true k end e) x n f again
      go false e = let z = ltb-false k end e in subst (Reaching quote newer t from) {x = k} {y = end} (omega arith) x

  reach_by : (n k : ℕ) → Reaching quote newer t from k → k ≤ end → end - k ≤ n → Reaching quote newer t from end
  reach_by zero k x h f = subst (Reaching quote newer t from) {x = k} {y = end} (omega arith) x
  reach_by (suc n) k x h f = reach_turn n k (λ j y g l. reach_by n j y g l) x h f

  reached : Reaching quote newer t from end
  reached = reach_by (end - from) from reach_start r.run.from (le_refl (end - from))

  -- the text ends before the `;`
  pub number_unended : end ≡ length t → char_ref_from quote [] (left newer t from) ≡ departs (left newer t end)
  number_unended e =
      let z = left_end newer t end (omega arith) in
      reached.on ∙ ap (char_ref_from quote reached.past) z ∙ ref_over reached.past ∙ ap (λ (l : List ℕ). departs l) (sym z)
    where
      ref_over : (digits : List ℕ) → char_ref_from quote digits [] ≡ departs []
      ref_over digits = unfold char_ref_from in refl

  module _ (h : end < length t) where
    stands : left newer t end ≡ get_or t end 0 ∷ left newer t (end + 1)
    stands = let a = end_ascii h in left_ascii newer t end h (omega (arith, a.0)) (omega (arith, a.1))

    -- the quote comes before it
    pub number_quoted : get_or t end 0 ≢ 59 → char_ref_from quote [] (left newer t from) ≡ departs (left newer t end)
    number_quoted n =
        let q = eqb-true (get_or t end 0) quote (rw (ne_eqb (get_or t end 0) 59 n) at (r.ends h)) in
        reached.on ∙ ap (char_ref_from quote reached.past) stands ∙ at_quote (get_or t end 0) reached.past (left newer t (end + 1)) n q ∙ ap (λ (l : List ℕ). departs l) (sym stands)
      where
        at_quote : (b : ℕ) (digits bs : List ℕ) → b ≢ 59 → b ≡ quote → char_ref_from quote digits (b ∷ bs) ≡ departs (b ∷ bs)
        at_quote b digits bs n q = unfold char_ref_from in rw (ne_eqb b 59 n, eq-eqb b quote q)

    -- the `;`
    pub number_ended : get_or t end 0 ≡ 59 → char_ref_from quote [] (left newer t from) ≡ numbered (number_answer (char_number any_character (take (end - from) (drop from t)))) (left newer t (end + 1))
    number_ended q =
        reached.on ∙ ap (char_ref_from quote reached.past) stands ∙ at_end (get_or t end 0) reached.past (left newer t (end + 1)) q
        ∙ ap (λ (n : CharNumber). numbered (number_answer n) (left newer t (end + 1))) (alike_number (take (end - from) (drop from t)) reached.past reached.alike)
      where
        at_end : (b : ℕ) (digits bs : List ℕ) → b ≡ 59 → char_ref_from quote digits (b ∷ bs) ≡ numbered (number_answer (char_number any_character digits)) bs
        at_end b digits bs q = unfold char_ref_from in rw (eq-eqb b 59 q)

    abbrev parsed : CharNumber
    parsed = char_number any_character (take (end - from) (drop from t))

    -- by what the digits were parsed as
    number_parsed : {r : Result ℕ ParseCharRefError} → r ≡ read_as parsed → get_or t end 0 ≡ 59
        → char_ref_from quote [] (left newer t from) ≡ numbered (answer_as r) (left newer t (end + 1))
    number_parsed e q =
        number_ended q ∙ ap (λ (x : Answer). numbered x (left newer t (end + 1))) (sym (answers parsed) ∙ ap answer_as (sym e))

    pub number_read : {c : ℕ} → Ok c ≡ read_as parsed → get_or t end 0 ≡ 59
        → char_ref_from quote [] (left newer t from) ≡ read (encode c) (left newer t (end + 1))
    number_read e q = number_parsed e q

    pub number_refused : {e : ParseCharRefError} → Err e ≡ read_as parsed → get_or t end 0 ≡ 59
        → char_ref_from quote [] (left newer t from) ≡ refused (number_of (refusal_for e)) (first_of (refusal_for e))
    number_refused e q = number_parsed e q

-- a number's refusal has no second word
pub no_second : (e : ParseCharRefError) → second_of (refusal_for e) ≡ 0
no_second error.UnexpectedSign = refl
no_second error.InvalidNumber = refl
no_second (error.InvalidCodepoint n) = refl
no_second error.IllegalCharacter = refl
no_second error.Forbidden = refl
