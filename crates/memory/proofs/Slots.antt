-- What a slot says: made by an opening (`stands_opened`), kept as the value grows (`stands_more`), used at a reference (`again_stop`).
-- Assumes nothing.
use mathlib.Core.Path.{◌≡◌, refl, sym, ap, subst, ◌∙◌}
use mathlib.Core.Logic.{◌≢◌}
use mathlib.Core.Bool.{false}
use mathlib.Core.List.{List, [], ◌∷◌, ◌++◌}
use Prim.Native.Nat.{ℕ, zero, suc, ◌+◌, ◌-◌, ◌≤◌, ◌<◌}
use native.Mathlib.Omega.{arith}
use native.Mathlib.Numerals.{add-one}
use lib.ListN.{length, take, drop, length-append, length-drop}
use lib.Seq.{length-take-le, drop-append-add}
use borrow.Author.Tests.{ne_eqb}
use Rattle.text.specs.Bytes.{same_bytes}
use Rattle.entity.specs.Binding.{text}
use Rattle.tokens.specs.Tokens.{named, stop}
use Rattle.tokens.specs.Outcome.{Outcome, done}
use Rattle.tokens.proofs.Moved.{Moved}
use Rattle.attribute.specs.Walk.{Settings, opened, answer, walk}
use Rattle.attribute.specs.Steps.{stop_answer}
use Rattle.attribute.proofs.Deeper.{deeper_done}
use Rattle.attribute.proofs.Shifted.{walk_moved}
use Rattle.attribute.proofs.Values.{walk_within}
use Rattle.attribute.proofs.Single.{stop_deeper}
use Rattle.memory.specs.Slots.{opening, shaped, Slot, Stands}
use Rattle.memory.proofs.Shaped.{shaped_none}

-- ---- parts of the value so far

-- a part of it is the same part of a longer one
pub part_more : (value more : List ℕ) (i n : ℕ) → i + n ≤ length value → take n (drop i (value ++ more)) ≡ take n (drop i value)
part_more [] more zero zero h = refl
part_more [] more zero (suc n) h = absurd (omega (arith, h))
part_more [] more (suc i) n h = absurd (omega (arith, h))
part_more (b ∷ bs) more zero zero h = refl
part_more (b ∷ bs) more zero (suc n) h = ap (◌∷◌ b) (part_more bs more zero n (omega (arith, h)))
part_more (b ∷ bs) more (suc i) n h = part_more bs more i n (omega (arith, h))

-- what was added last is its end
pub part_last : (value more : List ℕ) → take (length more) (drop (length value) (value ++ more)) ≡ more
part_last [] [] = refl
part_last [] (b ∷ bs) = ap (◌∷◌ b) (part_last [] bs)
part_last (v ∷ vs) more = part_last vs more

-- a part at or after the level's base lies in the level's own value
pub part_of_level : (v value : List ℕ) (base place n : ℕ) → length v ≡ base → base ≤ place → take n (drop (place - base) value) ≡ take n (drop place (v ++ value))
part_of_level v value base place n e h =
    let q : length v + (place - base) ≡ place = omega (arith, e, h) in
    ap (take n) (sym (drop-append-add v value (place - base)) ∙ ap (λ (k : ℕ). drop k (v ++ value)) q)

-- ---- openings

module _ (s : Settings) (t : List ℕ) where
  -- an opening is counted
  pub opening_one : (depth m made : ℕ) (value : List ℕ) → opening s depth t m ≡ done value made → m + 1 ≤ made
  opening_one depth m made value e =
      let q : Moved s.limit (m + 1) (m + 1) (done value made) (opening s depth t m) =
      subst (λ (o : Outcome). Moved s.limit (m + 1) (m + 1) o (opening s depth t m)) e (walk_moved s s.inner (depth - 1) t (m + 1) (m + 1)) in
      q.0

  -- and within the limit where it is made below it
  pub opening_within : (depth m made : ℕ) (value : List ℕ) → m < s.limit → opening s depth t m ≡ done value made → made ≤ s.limit
  opening_within depth m made value h e =
      rw e at (walk_within s s.inner (depth - 1) t (m + 1) (omega (arith, h)))

  -- after other openings, as long as they stay within the limit
  pub opening_moved : (depth m n o : ℕ) (value : List ℕ) → opening s depth t m ≡ done value (m + o) → n + o ≤ s.limit → opening s depth t n ≡ done value (n + o)
  opening_moved depth m n o value e l =
      let q : Moved s.limit (m + 1) (n + 1) (done value (m + o)) (opening s depth t n) =
      subst (λ (x : Outcome). Moved s.limit (m + 1) (n + 1) x (opening s depth t n)) e (walk_moved s s.inner (depth - 1) t (m + 1) (n + 1)) in
      q.1 (omega (arith, q.0, l)) ∙ ap (done value) (omega (arith, q.0))

  -- at every greater depth
  pub opening_deeper : (depth e m made : ℕ) (value : List ℕ) → depth ≤ e → opening s depth t m ≡ done value made → opening s e t m ≡ done value made
  opening_deeper depth e m made value h q =
      let k : (e - 1) - (depth - 1) + (depth - 1) ≡ e - 1 = omega (arith, h) in
      ap (λ (d : ℕ). walk s s.inner d t (m + 1)) (sym k) ∙ deeper_done s s.inner (depth - 1) ((e - 1) - (depth - 1)) t value (m + 1) made q

  -- a reference to the text, where the depth is not used up and the limit not met; `amp` is never one
  pub opening_answer : (depth n : ℕ) → n ≢ s.limit → (i : ℕ) (name : List ℕ) → same_bytes name (97 ∷ 109 ∷ 112 ∷ []) ≡ false → s.bind name ≡ text t
      → answer s (λ u m. walk s s.inner (depth - 1) u m) (named i name) n ≡ opening s depth t n
  unfolding answer opened
  opening_answer depth n d i name amp bound = rw (amp, bound, ne_eqb n s.limit d, sym (add-one n))

  pub opening_stop : (depth n : ℕ) → depth ≢ 0 → n ≢ s.limit → (i : ℕ) (name : List ℕ) → same_bytes name (97 ∷ 109 ∷ 112 ∷ []) ≡ false → s.bind name ≡ text t
      → stop_answer s depth (named i name) n ≡ opening s depth t n
  opening_stop depth n deep d i name amp bound = stop_deeper s depth deep (stop (named i name)) n ∙ opening_answer depth n d i name amp bound

  -- ---- a slot

  -- kept as more is written
  pub stands_more : {form : ℕ} {v : List ℕ} (more : List ℕ) {x : Slot} → Stands s form t v x → Stands s form t (v ++ more) x
  stands_more {form} {v} more {x} k =
      record {
        value = k.value;
        inside = rw length-append (omega (arith, k.inside));
        is = k.is ∙ sym (part_more v more x.place x.count k.inside);
        few = k.few;
        again = k.again;
      }

  -- made of one opening
  pub stands_made : (form : ℕ) (v value : List ℕ) (depth m o : ℕ) → opening s depth t m ≡ done value (m + o) → o ≤ s.limit
      → Stands s form t (v ++ shaped form value) (record { depth = depth; place = length v; count = length (shaped form value); opened = o })
  stands_made form v value depth m o q f =
      record {
        value = value;
        inside = rw length-append (omega arith);
        is = sym (part_last v (shaped form value));
        few = omega (arith, f);
        again = λ e n h l. opening_moved e m n o value (opening_deeper depth e m (m + o) value h q) l;
      }

  -- the same by the numbers of the code
  pub stands_opened : (form : ℕ) (v value : List ℕ) {depth m made place count o : ℕ} → opening s depth t m ≡ done value made → m < s.limit
      → place ≡ length v → count ≡ length (shaped form value) → o ≡ made - m
      → Stands s form t (v ++ shaped form value) (record { depth = depth; place = place; count = count; opened = o })
  stands_opened form v value {depth} {m} {made} {place} {count} {o} q h p c r =
      let one = opening_one depth m made value q in
      let top = opening_within depth m made value h q in
      let z : made ≡ m + o = omega (arith, r, one) in
      rw (p, c) (stands_made form v value depth m o (q ∙ ap (done value) z) (omega (arith, top, z)))

  -- nothing but whose text it is
  pub stands_name : (form depth : ℕ) (v : List ℕ) → Stands s form t v (record { depth = depth; place = 0; count = 0; opened = s.limit + 1 })
  stands_name form depth v =
      record {
        value = [];
        inside = omega arith;
        is = shaped_none form;
        few = omega arith;
        again = λ e m h l. absurd (omega (arith, l));
      }

  module _ {form : ℕ} {v : List ℕ} {x : Slot} (k : Stands s form t v x) where
    -- its text took an opening
    pub stands_some : x.opened ≤ s.limit → 1 ≤ x.opened
    stands_some few = omega (arith, opening_one x.depth 0 (0 + x.opened) _ (k.again x.depth 0 (omega arith) (omega (arith, few))))

    pub stands_size : length (shaped form k.value) ≡ x.count
    stands_size = ap length k.is ∙ length-take-le x.count (drop x.place v) (rw length-drop (omega (arith, k.inside)))

    -- used at a reference, at its depth or deeper
    pub again_stop : (depth n : ℕ) → depth ≢ 0 → x.depth ≤ depth → n + x.opened ≤ s.limit → (i : ℕ) (name : List ℕ)
        → same_bytes name (97 ∷ 109 ∷ 112 ∷ []) ≡ false → s.bind name ≡ text t
        → stop_answer s depth (named i name) n ≡ done k.value (n + x.opened)
    again_stop depth n deep enough l i name amp bound =
        opening_stop depth n deep (λ e. omega (arith, stands_some (omega (arith, l)), e, l)) i name amp bound ∙ k.again depth n enough l
