-- Runs without stops: how they grow, and how they are copied. Assumes nothing.
use mathlib.Core.Path.{◌≡◌, refl, sym, ap, ◌∙◌}
use mathlib.Core.Bool.{Bool, true, false}
use mathlib.Core.List.{List}
use Prim.Native.Nat.{ℕ, ◌+◌, ◌-◌, ◌≤◌, ◌<◌, zero-le}
use native.Mathlib.Omega.{arith}
use native.Mathlib.Nat.{le_refl, le_trans}
use lib.Dec.{ltb}
use lib.ListN.{length, take, drop, get_or, set, length-drop}
use lib.Seq.{length-take-le, get_or-drop}
use borrow.Author.Tests.{ltb-true, ltb-false}
use borrow.Rule.Slice.PartMut.{mid_of, put_mid}
use Rattle.text.specs.Call.{laid}
use Rattle.output.specs.Runs.{Plain, Copied, Ends, Room}
use Rattle.output.proofs.Laid.{laid_length, laid_next, laid_part, rest_part}

-- ---- runs found by the code

pub plain_of : (stop : ℕ → Bool) (t : List ℕ) (i n : ℕ) → i + n ≤ length t → ((m : ℕ) → m < n → stop (get_or t (i + m) 0) ≡ false) → Plain stop t i (i + n)
plain_of stop t i n h f =
    record { from = omega arith; to = h; none = λ k g l. let q : i + (k - i) ≡ k = omega arith in rw q at (f (k - i) (omega arith)) }

pub plain_none : (stop : ℕ → Bool) (t : List ℕ) (i : ℕ) → i ≤ length t → Plain stop t i i
plain_none stop t i h = record { from = le_refl i; to = h; none = λ k g l. absurd (omega arith) }

pub plain_join : (stop : ℕ → Bool) (t : List ℕ) (i j k : ℕ) → Plain stop t i j → Plain stop t j k → Plain stop t i k
plain_join stop t i j k a b =
    record { from = le_trans a.from b.from; to = b.to; none = λ m g h. go m (ltb m j) refl g h }
  where
    go : (m : ℕ) (x : Bool) → ltb m j ≡ x → i ≤ m → m < k → stop (get_or t m 0) ≡ false
    go m true e g h = a.none m g (ltb-true m j e)
    go m false e g h = b.none m (ltb-false m j e) h

pub plain_byte : (stop : ℕ → Bool) (t : List ℕ) (i : ℕ) → i < length t → stop (get_or t i 0) ≡ false → Plain stop t i (i + 1)
plain_byte stop t i h e = plain_of stop t i 1 (omega arith) (λ m l. let q : i + m ≡ i = omega arith in rw q e)

-- a run of two tests, for a test that finds no stop where neither does
pub plain_both : (stop : ℕ → Bool) {one two : ℕ → Bool} {t : List ℕ} {i e : ℕ} → ((b : ℕ) → one b ≡ false → two b ≡ false → stop b ≡ false)
    → Plain one t i e → Plain two t i e → Plain stop t i e
plain_both stop {t = t} f p q = record { from = p.from; to = p.to; none = λ k g l. f (get_or t k 0) (p.none k g l) (q.none k g l) }

-- a run at the start of a text's rest
pub plain_shift : (stop : ℕ → Bool) (t : List ℕ) (i n : ℕ) → i ≤ length t → Plain stop (drop i t) 0 n → Plain stop t i (i + n)
plain_shift stop t i n h p =
    plain_of stop t i n (omega (arith, p.to, length-drop i t))
    (λ m l. ap stop (sym (get_or-drop i t m 0)) ∙ p.none m zero-le l)

pub ends_shift : (stop : ℕ → Bool) (t : List ℕ) (i n : ℕ) → i ≤ length t → Ends stop (mid_of i (length t - i) t) n → Ends stop t (i + n)
ends_shift stop t i n h d l =
    let e : Ends stop (drop i t) n = rw (rest_part i t) at d in
    ap stop (sym (get_or-drop i t n 0)) ∙ e (rw length-drop (omega arith))

-- ---- runs copied

module _ (stop : ℕ → Bool) (t old : List ℕ) where
  pub copied_none : Copied stop t old old 0
  copied_none = record { run = plain_none stop t 0 zero-le; holds = refl }

  module _ {out : List ℕ} {i : ℕ} (c : Copied stop t old out i) (room : Room stop t old) where
    -- the output keeps its length
    pub copied_length : length out ≡ length old
    copied_length =
        ap length c.holds ∙ laid_length (take i t) old (rw (length-take-le i t c.run.to) (room i c.run))

    pub copied_inside : i ≤ length out
    copied_inside = rw copied_length (room i c.run)

    -- a run more, by a call that is lent the rest of the output
    module _ {e : ℕ} (p : Plain stop t i e) where
      pub run_room : e ≤ length out
      run_room = rw copied_length (room e (plain_join stop t 0 i e c.run p))

      pub part_length : length (mid_of i (e - i) t) ≡ e - i
      part_length = length-take-le (e - i) (drop i t) (rw (length-drop i t) (omega (arith, p.to)))

      pub part_room : e - i ≤ length (mid_of i (length out - i) out)
      part_room = rw (rest_part i out, length-drop i out) (omega (arith, run_room))

      pub copied_more : {part : List ℕ} → part ≡ laid (mid_of i (e - i) t) (mid_of i (length out - i) out)
          → Copied stop t old (put_mid i (length out - i) out part) e
      copied_more q =
          record { run = plain_join stop t 0 i e c.run p; holds = laid_part t old i e p.from p.to c.holds q }

    -- one byte more
    module _ (h : i < length t) (n : stop (get_or t i 0) ≡ false) where
      pub byte_fits : i < length out
      byte_fits = omega (arith, run_room (plain_byte stop t i h n))

      pub copied_byte : Copied stop t old (set out i (get_or t i 0)) (i + 1)
      copied_byte =
          record {
            run = plain_join stop t 0 i (i + 1) c.run (plain_byte stop t i h n);
            holds =
                ap (λ (o : List ℕ). set o i (get_or t i 0)) c.holds
                ∙ laid_next t old i h (omega (arith, byte_fits, copied_length));
          }

    -- a run from there on, copied from the rest of the text into the rest of the output
    pub rest_room : Room stop (mid_of i (length t - i) t) (mid_of i (length out - i) out)
    rest_room e p =
        rw (rest_part i out, length-drop i out)
        (omega (arith, run_room (plain_shift stop t i e c.run.to (rw (rest_part i t) at p))))

    pub copied_rest : {part : List ℕ} {n : ℕ} → Copied stop (mid_of i (length t - i) t) (mid_of i (length out - i) out) part n
        → Copied stop t old (put_mid i (length out - i) out part) (i + n)
    copied_rest {part} {n} d =
        let q : i + n - i ≡ n = omega arith in
        copied_more (plain_shift stop t i n c.run.to (rw (rest_part i t) at d.run)) {part = part}
        (rw q (d.holds ∙ ap (λ (l : List ℕ). laid (take n l) (mid_of i (length out - i) out)) (rest_part i t)))
