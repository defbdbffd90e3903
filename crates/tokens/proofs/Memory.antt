-- What a walk keeps of the references that it has met stays true as its value grows. Assumes nothing.
use mathlib.Core.Path.{◌≡◌, refl, sym, ap, ◌∙◌}
use mathlib.Core.Bool.{Bool}
use mathlib.Core.List.{List, [], ◌∷◌, ◌++◌}
use Prim.Native.Nat.{ℕ, zero, suc, ◌+◌, ◌-◌, ◌≤◌, ◌<◌, min}
use native.Mathlib.Omega.{arith}
use lib.ListN.{length, get_or, take, drop, replicate, length-append, length-drop}
use lib.Seq.{length-take-le}
use borrow.Rule.Slice.PartMut.{mid_of, put_mid}
use Rattle.output.specs.Over.{over}
use Rattle.output.proofs.Clip.{over_more}
use Rattle.tokens.specs.Tokens.{name_at, reference_at}
use Rattle.tokens.specs.Outcome.{Outcome, done, produced}
use Rattle.tokens.specs.Walking.{next_at, step_of, Stepped}
use Rattle.tokens.specs.Seen.{Shifts, Met, met_at, met_of, Matches, Kept, Repeated, Entered, stays, enters, Remembered}
use Rattle.tokens.specs.Memory.{Walk, given, Stands, Memory, Advanced}
use Rattle.tokens.specs.Walking.{Step}
use Rattle.tokens.specs.Walking.{Next}
use Rattle.tokens.proofs.Progress.{went}
use Rattle.tokens.proofs.Keys.{key_same, key_some, shift_width}
use Rattle.tokens.proofs.Alike.{alike}

-- a part of the value so far is the same part of a longer one
part_more : (value more : List ℕ) (i n : ℕ) → i + n ≤ length value → take n (drop i (value ++ more)) ≡ take n (drop i value)
part_more [] more zero zero h = refl
part_more [] more zero (suc n) h = absurd (omega (arith, h))
part_more [] more (suc i) n h = absurd (omega (arith, h))
part_more (b ∷ bs) more zero zero h = refl
part_more (b ∷ bs) more zero (suc n) h = ap (◌∷◌ b) (part_more bs more zero n (omega (arith, h)))
part_more (b ∷ bs) more (suc i) n h = part_more bs more i n (omega (arith, h))

-- and what was added last is its end
part_last : (value more : List ℕ) → take (length more) (drop (length value) (value ++ more)) ≡ more
part_last [] [] = refl
part_last [] (b ∷ bs) = ap (◌∷◌ b) (part_last [] bs)
part_last (v ∷ vs) more = part_last vs more

zero_at : (n k : ℕ) → ◌≡◌ {A = ℕ} (get_or (replicate n 0) k 0) 0
zero_at zero k = refl
zero_at (suc n) zero = refl
zero_at (suc n) (suc k) = zero_at n k

module _ (w : Walk) (text : List ℕ) where
  stands_more : {value : List ℕ} (more : List ℕ) {m : Met} → Stands w text value m → Stands w text (value ++ more) m
  stands_more {value} more {m} s =
      let l : length value ≤ length (value ++ more) = rw length-append (omega arith) in
      record {
        low = s.low;
        inside = omega (arith, l, s.inside);
        few = s.few;
        small = s.small;
        next = s.next;
        again = λ e b h n f. s.again e b h n f ∙ ap (λ (v : List ℕ). done v (n + m.opened)) (sym (part_more value more m.start m.count s.inside));
      }

  pub memory_more : {seen value : List ℕ} (more : List ℕ) → Memory w text seen value → Memory w text seen (value ++ more)
  memory_more more m = record { size = m.size; place = m.place; each = λ k h. stands_more more (m.each k h) }

  pub memory_kept : {seen value : List ℕ} {len : ℕ} → length value ≡ len → Memory w text seen value → Kept seen len w.limit
  memory_kept {seen} {value} {len} e m =
      record {
        size = m.size;
        shifts = λ k h. (m.each k h).low;
        inside = λ k h. omega (arith, e, (m.each k h).inside);
        few = λ k h. (m.each k h).few;
      }

  module _ (bytes : (k : ℕ) → get_or text k 0 < 256) where
    -- nothing is kept at the start: no reference has the key 0
    pub memory_start : Memory w text (replicate 21 0) []
    memory_start =
        record {
          size = refl;
          place = omega (arith, zero_at 21 20);
          each = λ k h.
              record {
                low = omega (arith, zero_at 21 (k + 4));
                inside = omega (arith, zero_at 21 (k + 8), zero_at 21 (k + 12));
                few = omega (arith, zero_at 21 (k + 16));
                small = omega (arith, zero_at 21 (k + 12));
                next = λ e b q. absurd (key_some text e (get_or (replicate 21 0) (k + 4) 0) (zero_at 21 (k + 4)) b bytes (q.same ∙ zero_at 21 k));
                again = λ e b q n f. absurd (key_some text e (get_or (replicate 21 0) (k + 4) 0) (zero_at 21 (k + 4)) b bytes (q.same ∙ zero_at 21 k));
              };
        }

  -- a reference that is kept
  pub advanced_again : {i len openings : ℕ} {value whole seen old new : List ℕ} {a l m : ℕ} → Memory w text seen value → get_or text i 0 ≡ 38
      → old ≡ over value whole → length value ≡ len → Repeated text i len openings w.limit seen old new a l m
      → Advanced w text i openings value whole seen new (Next a l m)
  advanced_again {i} {len} {openings} {value} {whole} {seen} {old} {new} {a} {l} {m} mem b o q r =
      let s = mem.each r.slot r.known in
      let x = met_at seen r.slot in
      let v = take l (drop x.start value) in
      let c : l ≡ x.count = r.size in
      let g : given w text i openings ≡ done v m =
      s.again i b r.met openings (omega (arith, r.opens, r.within))
      ∙ ap (λ (k : ℕ). done (take k (drop x.start value)) (openings + x.opened)) (sym c)
      ∙ ap (done v) (sym r.opens) in
      let n : length v ≡ l = length-take-le l (drop x.start value) (rw length-drop (omega (arith, c, s.inside))) in
      let t : next_at w.at text i ≡ a = s.next i b r.met ∙ sym r.to in
      record {
        answers = sym (ap (step_of (next_at w.at text i)) g ∙ ap (λ (k : ℕ). Next k (length v) m) t ∙ ap (λ (k : ℕ). Next a k m) n);
        writes = r.writes value whole o q ∙ ap (λ (z : Outcome). over (value ++ produced z) whole) (sym g);
        keeps = λ more made h. memory_more more mem;
      }

  -- a step that writes to the rest of the output
  module _ {i len openings wd : ℕ} {value whole out part : List ℕ} {r : Step} (o : out ≡ over value whole) (q : length value ≡ len) (least : wd ≡ min len (length out))
      (s : Stepped (next_at w.at text i) (given w text i openings) (mid_of wd (length out - wd) out) part r) where
    advanced_by : {seen : List ℕ} → ((more : List ℕ) (made : ℕ) → given w text i openings ≡ done more made → Memory w text seen (value ++ more))
        → Advanced w text i openings value whole seen (put_mid wd (length out - wd) out part) r
    advanced_by k =
        record {
          answers = s.answers;
          writes = over_more value (produced (given w text i openings)) whole o (sym q) least s.writes;
          keeps = k;
        }

    -- a value that is not kept
    pub advanced_once : {seen : List ℕ} → Memory w text seen value → Advanced w text i openings value whole seen (put_mid wd (length out - wd) out part) r
    advanced_once m = advanced_by (λ more made h. memory_more more m)

  module _ (bytes : (k : ℕ) → get_or text k 0 < 256)
      (inner : Bool) (reads : (offset : ℕ) (bs : List ℕ) → w.at offset 38 bs ≡ reference_at offset bs (name_at inner bs))
      (shifts : Shifts w.limit w.answer) where
    -- what is kept of a reference holds
    stands_fresh : (i k n o : ℕ) (value more : List ℕ) → get_or text i 0 ≡ 38 → 1 ≤ k → k ≤ 8 → i + 8 ≤ length text → next_at w.at text i ≡ i + k
        → given w text i n ≡ done more (n + o) → o ≤ w.limit → length more ≤ w.most k o
        → Stands w text (value ++ more) (met_of text i k (length value) (length more) o)
    stands_fresh i k n o value more b h1 h8 room t g f l =
        let sw = shift_width k h1 h8 in
        let x = met_of text i k (length value) (length more) o in
        let same : (e : ℕ) → Matches text e x → (j : ℕ) → j < k → get_or text (e + j) 0 ≡ get_or text (i + j) 0 =
        λ e q. key_same text e i k h1 h8 bytes q.same in
        let like : (e : ℕ) → Matches text e x → (next_at w.at text e ≡ e + k) × ((m : ℕ) → m + o ≤ w.limit → given w text e m ≡ done more (m + o)) =
        λ e q. alike inner w.at reads w.answer w.limit shifts text i e k b (omega (arith, room)) (omega (arith, q.room)) (same e q) t n o more g in
        record {
          low = sw.0;
          inside = rw length-append (omega arith);
          few = f;
          small = rw sw.1 l;
          next = λ e c q. (like e q).0 ∙ ap (λ (y : ℕ). e + y) (sym sw.1);
          again = λ e c q m d.
              (like e q).1 m d
              ∙ ap (λ (v : List ℕ). done v (m + o)) (sym (part_last value more));
        }

    entered : (i k n o : ℕ) (value more : List ℕ) {before after : Met} → get_or text i 0 ≡ 38 → 1 ≤ k → next_at w.at text i ≡ i + k
        → given w text i n ≡ done more (n + o) → o ≤ w.limit → length more ≤ w.most k o → Stands w text value before
        → Entered text i k (met_of text i k (length value) (length more) o) before after → Stands w text (value ++ more) after
    entered i k n o value more b h1 t g f l s (stays e) = rw e (stands_more more s)
    entered i k n o value more b h1 t g f l s (enters h8 room e) = rw e (stands_fresh i k n o value more b h1 h8 room t g f l)

    -- a value that is kept
    pub advanced_kept : {i len openings wd a l m : ℕ} {value whole seen kept out part : List ℕ} → Memory w text seen value → get_or text i 0 ≡ 38
        → out ≡ over value whole → length value ≡ len → wd ≡ min len (length out)
        → Stepped (next_at w.at text i) (given w text i openings) (mid_of wd (length out - wd) out) part (Next a l m)
        → i < a → openings ≤ m → m ≤ w.limit → l ≤ w.most (a - i) (m - openings)
        → Remembered text i (a - i) len l (m - openings) seen kept
        → Advanced w text i openings value whole kept (put_mid wd (length out - wd) out part) (Next a l m)
    advanced_kept {i} {len} {openings} {wd} {a} {l} {m} {value} {whole} {seen} {kept} {out} {part} mem b o q least s g1 g2 g3 g4 r =
        let n = went (next_at w.at text i) (given w text i openings) (mid_of wd (length out - wd) out) part a l m s in
        let z : openings + (m - openings) ≡ m = omega (arith, g2) in
        let t : next_at w.at text i ≡ i + (a - i) = sym n.to ∙ omega (arith, g1) in
        let g : given w text i openings ≡ done n.value (openings + (m - openings)) = n.whole ∙ ap (done n.value) (sym z) in
        let size = n.size in
        advanced_by o q least s (λ more made h.
        let e : n.value ≡ more = cc in
        rw (sym e)
        (record {
          size = r.size;
          place = r.next;
          each = λ k d.
              entered i (a - i) openings (m - openings) value n.value b (omega (arith, g1)) t g (omega (arith, g3)) (rw size g4) (mem.each k d)
              (rw (q, size) (r.entries k d));
        }))
