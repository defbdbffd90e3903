-- Entity values: one byte, a run, a line end, a reference; what a reader of a value has so far (`Valuing`). Assumes nothing.
use mathlib.Core.Path.{◌≡◌, refl, sym, ap, ◌∙◌}
use mathlib.Core.Logic.{◌≢◌}
use mathlib.Core.Bool.{Bool, true, false, ◌||◌}
use mathlib.Core.List.{List, [], ◌∷◌, ◌++◌, append_assoc, append-nil}
use Prim.Native.Nat.{ℕ, zero, suc, ◌+◌, ◌-◌, ◌*◌, ◌≤◌, ◌<◌, min}
use native.Mathlib.Omega.{arith}
use native.Mathlib.Nat.{le_refl}
use lib.Dec.{eqb}
use lib.ListN.{length, take, drop, get_or, set, length-append, length-drop}
use lib.Seq.{length-take-le}
use borrow.Author.Tests.{ne_eqb, eq-eqb, lt-ltb, le-ltb}
use borrow.Rule.Slice.PartMut.{mid_of, put_mid}
use Rattle.text.proofs.Bytes.{or_left, or_right}
use Rattle.text.proofs.Patterns.{at_head}
use Rattle.output.specs.Over.{over}
use Rattle.output.specs.Runs.{Plain}
use Rattle.output.proofs.Clip.{over_more, over_byte, length_over}
use Rattle.output.proofs.Laid.{rest_part, rest_put}
use Rattle.runs.specs.RunEnds.{line_stop}
use Rattle.eols.specs.LineEnds.{line_end}
use Rattle.eols.specs.Stops.{rule_for}
use Rattle.table_grammar.specs.EntityValue.{Read, read, departs, exceeds, refused, onward, reference, value_from}
use Rattle.table_names.specs.NameTerms.{left}
use Rattle.table_values.specs.ValueSteps.{fault, KeptFault, Kept, Meets, value_stop, value_step, Quote}
use Rattle.table_values.specs.declared.Next.{Next}
use Rattle.table_values.specs.declared.Fault.{Fault}
use Rattle.table_values.specs.declared.Fault.TheVariants.{Misplaced, Excessive, Refused as Wrong}
use Rattle.std.specs.Prelude.{Result, Ok, Err}
use Rattle.table_values.proofs.LeftPlaces.{left_end, left_byte, left_ascii, left_kept, left_ended, ended_inside}
use Rattle.table_values.proofs.Literals.{headed}
use Rattle.table_grammar.proofs.ReferenceEnds.{Ends, tail_drop, reference_ends, value_skip}
use Rattle.table_values.proofs.ValueStops.{value_lines}

-- ---- steps that stop

pub fault_onward : {A B : Type 0} (newer : Bool) (t : List ℕ) (f : Fault) (more : A → List ℕ → Read B) → onward (fault newer t f) more ≡ fault newer t f
fault_onward newer t (Misplaced at) more = refl
fault_onward newer t (Excessive at) more = refl
fault_onward newer t (Wrong refusal) more = refl

-- it says of the output its length alone
pub fault_same : (t old new old' new' : List ℕ) (f : Fault) → KeptFault t old new f → length new' ≡ length old' → KeptFault t old' new' f
fault_same t old new old' new' (Misplaced at) k e = (k.0, e)
fault_same t old new old' new' (Excessive at) k e = (k.0, e)
fault_same t old new old' new' (Wrong refusal) k e = (e, k.1)

pub fault_length : (t old new : List ℕ) (f : Fault) → KeptFault t old new f → length new ≡ length old
fault_length t old new (Misplaced at) k = k.1
fault_length t old new (Excessive at) k = k.1
fault_length t old new (Wrong refusal) k = k.0

-- a step that goes on at `at`
abbrev pub going : ℕ → ℕ → Result Next Fault
going at len = Ok (record { at = at; len = len })

pub put_same : (w : ℕ) (out part : List ℕ) → w ≤ length out → length part ≡ length (mid_of w (length out - w) out) → length (put_mid w (length out - w) out part) ≡ length out
put_same w out part h e =
    ap length (rest_put w out part) ∙ length-append (take w out) part
    ∙ omega (arith, length-take-le w out h, e, ap length (rest_part w out), length-drop w out)

-- ---- one byte of a value, and the step at a stop

value_over : (quote : ℕ) (v : List ℕ) → value_from quote v 0 [] ≡ departs []
unfolding value_from
value_over quote v = refl

value_plain : (quote b : ℕ) (v bs : List ℕ) → eqb b quote ≡ false → eqb b 37 ≡ false → eqb b 38 ≡ false → value_from quote v 0 (b ∷ bs) ≡ value_from quote (v ++ b ∷ []) 0 bs
unfolding value_from
value_plain quote b v bs e f g = rw (e, f, g)

after_reference : (quote : ℕ) (v t : List ℕ) (r : Read (List ℕ)) → Ends t r
    → onward r (λ w rest. value_from quote (v ++ w) (length t - length rest) t) ≡ onward r (λ w rest. value_from quote (v ++ w) 0 rest)
after_reference quote v t (read w rest) x = value_skip quote (v ++ w) (length t - length rest) t ∙ ap (value_from quote (v ++ w) 0) (tail_drop x)
after_reference quote v t (departs rest) x = refl
after_reference quote v t (exceeds rest) x = refl
after_reference quote v t (refused number first) x = refl

value_stop_lem : (quote b : ℕ) (v bs : List ℕ) → eqb b quote ≡ false → value_from quote v 0 (b ∷ bs) ≡ onward (value_step quote (b ∷ bs)) (λ w rest. value_from quote (v ++ w) 0 rest)
value_stop_lem quote b v bs e = go (eqb b 37) refl (eqb b 38) refl
  where
    on_read : Read (List ℕ) → Read (List ℕ)
    on_read r = onward r (λ w rest. value_from quote (v ++ w) 0 rest)

    percent : eqb b 37 ≡ true → value_from quote v 0 (b ∷ bs) ≡ departs (b ∷ bs)
    percent f = unfold value_from in rw (e, f)

    amp : eqb b 37 ≡ false → eqb b 38 ≡ true → value_from quote v 0 (b ∷ bs) ≡ onward (reference quote bs) (λ w rest. value_from quote (v ++ w) (length bs - length rest) bs)
    amp f g = unfold value_from in rw (e, f, g)

    step_37 : eqb b 37 ≡ true → value_step quote (b ∷ bs) ≡ departs (b ∷ bs)
    step_37 f = rw f

    step_38 : eqb b 37 ≡ false → eqb b 38 ≡ true → value_step quote (b ∷ bs) ≡ reference quote bs
    step_38 f g = rw (f, g)

    step_one : eqb b 37 ≡ false → eqb b 38 ≡ false → value_step quote (b ∷ bs) ≡ read (b ∷ []) bs
    step_one f g = rw (f, g)

    go : (x : Bool) → eqb b 37 ≡ x → (y : Bool) → eqb b 38 ≡ y → value_from quote v 0 (b ∷ bs) ≡ onward (value_step quote (b ∷ bs)) (λ w rest. value_from quote (v ++ w) 0 rest)
    go true f y g = percent f ∙ ap on_read (sym (step_37 f))
    go false f true g = amp f g ∙ after_reference quote v bs (reference quote bs) (reference_ends quote bs) ∙ ap on_read (sym (step_38 f g))
    go false f false g = value_plain quote b v bs e f g ∙ ap on_read (sym (step_one f g))

-- ---- a run

module _ (quote : ℕ) (newer : Bool) (t : List ℕ) where
  stop_parts : (b : ℕ) → value_stop quote newer b ≡ false → (eqb b quote ≡ false) × (eqb b 37 ≡ false) × (eqb b 38 ≡ false)
  stop_parts b e =
      let z = or_left (eqb b quote || eqb b 38 || eqb b 37) (line_stop newer b) e in
      let y = or_left (eqb b quote || eqb b 38) (eqb b 37) z in
      (or_left (eqb b quote) (eqb b 38) y, or_right (eqb b quote || eqb b 38) (eqb b 37) z, or_right (eqb b quote) (eqb b 38) y)

  value_run : (n i : ℕ) → Plain (value_stop quote newer) t i (i + n) → (v : List ℕ)
      → value_from quote v 0 (left newer t i) ≡ value_from quote (v ++ take n (drop i t)) 0 (left newer t (i + n))
  value_run zero i p v = let q : i + 0 ≡ i = omega arith in rw (q, append-nil v)
  value_run (suc n) i p v =
      let f = p.to in
      let h : i < length t = omega arith in
      let e = p.none i (le_refl i) (omega arith) in
      let s = stop_parts (get_or t i 0) e in
      let q : i + 1 + n ≡ i + suc n = omega arith in
      ap (value_from quote v 0) (left_byte newer t i h (value_lines quote newer (get_or t i 0) e))
      ∙ value_plain quote (get_or t i 0) v (left newer t (i + 1)) s.0 s.1 s.2
      ∙ value_run n (i + 1) (record { from = omega arith; to = omega arith; none = λ k g l. p.none k (omega arith) (omega arith) }) (v ++ get_or t i 0 ∷ [])
      ∙ ap (λ (l : List ℕ). value_from quote l 0 (left newer t (i + 1 + n)))
      (append_assoc v (get_or t i 0 ∷ []) (take n (drop (i + 1) t)) ∙ ap (λ (l : List ℕ). v ++ take (suc n) l) (sym (at_head t i h)))
      ∙ ap (λ (k : ℕ). value_from quote (v ++ take (suc n) (drop i t)) 0 (left newer t k)) q

-- ---- a reader of a value: what it has so far

pub record Valuing (quote : ℕ) (newer : Bool) (t : List ℕ) (from : ℕ) (old out : List ℕ) (i len : ℕ) : Type 0 where
  pub value : List ℕ
  pub order : from ≤ i
  pub to : i ≤ length t
  pub on : value_from quote [] 0 (left newer t from) ≡ value_from quote value 0 (left newer t i)
  pub size : len ≡ length value
  pub small : len + 4 * from ≤ 4 * i
  pub holds : out ≡ over value old

pub valuing_length : {quote : ℕ} {newer : Bool} {t : List ℕ} {from : ℕ} {old out : List ℕ} {i len : ℕ} → Valuing quote newer t from old out i len → length out ≡ length old
valuing_length {old = old} x = ap length x.holds ∙ length_over x.value old

pub valuing_run : {quote : ℕ} {newer : Bool} {t : List ℕ} {from : ℕ} {old out : List ℕ} {i len e w : ℕ} {part : List ℕ} → Valuing quote newer t from old out i len
    → Plain (value_stop quote newer) t i e → w ≡ min len (length out) → part ≡ over (take (e - i) (drop i t)) (mid_of w (length out - w) out)
    → Valuing quote newer t from old (put_mid w (length out - w) out part) e (len + (e - i))
valuing_run {quote} {newer} {t} {from} {old} {out} {i} {len} {e} {w} {part} x p m h =
    let run = take (e - i) (drop i t) in
    let q : i + (e - i) ≡ e = omega (arith, p.from) in
    let n : length run ≡ e - i = length-take-le (e - i) (drop i t) (rw (length-drop i t) (omega (arith, p.to))) in
    record {
      value = x.value ++ run;
      order = omega (arith, x.order, p.from);
      to = p.to;
      on = x.on ∙ value_run quote newer t (e - i) i (rw q p) x.value ∙ ap (λ (k : ℕ). value_from quote (x.value ++ run) 0 (left newer t k)) q;
      size = omega (arith, x.size, length-append x.value run, n);
      small = omega (arith, x.small, p.from);
      holds = over_more x.value run old x.holds x.size m h;
    }

module _ {quote : ℕ} {newer : Bool} {t : List ℕ} {from : ℕ} {old out : List ℕ} {e len : ℕ} (x : Valuing quote newer t from old out e len) where
  -- the text ends
  pub valuing_ended : e ≡ length t → Meets newer t from (value_from quote [] 0 (left newer t from)) old out (Err (Misplaced e))
  valuing_ended q =
      let z = left_end newer t e (omega arith) in
      record {
        value = [];
        is = x.on ∙ ap (value_from quote x.value 0) z ∙ value_over quote x.value ∙ ap (λ (l : List ℕ). departs l) (sym z);
        kept = (omega arith, valuing_length x);
      }

  module _ (h : e < length t) (ascii : Quote quote) where
    -- its quote
    module _ (q : get_or t e 0 ≡ quote) where
      at_quote : left newer t e ≡ quote ∷ left newer t (e + 1)
      at_quote = rw q at (left_ascii newer t e h (omega (arith, ascii.0)) (omega (arith, ascii.1)))

      pub valuing_long : 65535 < len → Meets newer t from (value_from quote [] 0 (left newer t from)) old out (Err (Excessive e))
      valuing_long l =
          record { value = []; is = x.on ∙ ap (value_from quote x.value 0) at_quote ∙ long ∙ ap (λ (l : List ℕ). exceeds l) (sym at_quote); kept = (omega arith, valuing_length x) }
        where
          long : value_from quote x.value 0 (quote ∷ left newer t (e + 1)) ≡ exceeds (quote ∷ left newer t (e + 1))
          long = unfold value_from in rw (eq-eqb quote quote refl, lt-ltb 65535 (length x.value) (omega (arith, x.size)))

      pub valuing_closed : len ≤ 65535 → Meets newer t from (value_from quote [] 0 (left newer t from)) old out (going (e + 1) len)
      valuing_closed l =
          record {
            value = x.value;
            is = x.on ∙ ap (value_from quote x.value 0) at_quote ∙ closed;
            kept = record { on = omega (arith, x.order); to = omega arith; size = x.size; small = omega (arith, x.small); holds = x.holds };
          }
        where
          closed : value_from quote x.value 0 (quote ∷ left newer t (e + 1)) ≡ read x.value (left newer t (e + 1))
          closed = unfold value_from in rw (eq-eqb quote quote refl, le-ltb 65535 (length x.value) (omega (arith, x.size)))

    -- another stop
    module _ (n : get_or t e 0 ≡ quote → ⊥) where
      other_stop : value_from quote x.value 0 (left newer t e) ≡ onward (value_step quote (left newer t e)) (λ w rest. value_from quote (x.value ++ w) 0 rest)
      other_stop =
          let z = headed newer t e h in
          let b = ne_eqb z.byte quote (z.other quote n (λ q. absurd (omega (arith, ascii.0)))) in
          ap (value_from quote x.value 0) z.is ∙ value_stop_lem quote z.byte x.value z.rest b
          ∙ ap (λ (l : List ℕ). onward (value_step quote l) (λ w rest. value_from quote (x.value ++ w) 0 rest)) (sym z.is)

      module _ {w : ℕ} {part : List ℕ} (m : w ≡ min len (length out)) where
        pub valuing_step : {next : Next} → Meets newer t e (value_step quote (left newer t e)) (mid_of w (length out - w) out) part (Ok next)
            → Valuing quote newer t from old (put_mid w (length out - w) out part) next.at (len + next.len)
        valuing_step {next} s =
            let k = s.kept in
            record {
              value = x.value ++ s.value;
              order = omega (arith, x.order, k.on);
              to = k.to;
              on = x.on ∙ other_stop ∙ ap (λ (r : Read (List ℕ)). onward r (λ w rest. value_from quote (x.value ++ w) 0 rest)) s.is;
              size = omega (arith, x.size, k.size, length-append x.value s.value);
              small = omega (arith, x.small, k.small);
              holds = over_more x.value s.value old x.holds x.size m k.holds;
            }

        -- one that stops the reading
        pub valuing_stopped : (f : Fault) → Meets newer t e (value_step quote (left newer t e)) (mid_of w (length out - w) out) part (Err f)
            → Meets newer t from (value_from quote [] 0 (left newer t from)) old (put_mid w (length out - w) out part) (Err f)
        valuing_stopped f s =
            record {
              value = [];
              is =
                  x.on ∙ other_stop ∙ ap (λ (r : Read (List ℕ)). onward r (λ w rest. value_from quote (x.value ++ w) 0 rest)) s.is
                  ∙ fault_onward newer t f (λ w rest. value_from quote (x.value ++ w) 0 rest);
              kept = fault_same t (mid_of w (length out - w) out) part old (put_mid w (length out - w) out part) f s.kept (put_length ∙ valuing_length x);
            }
          where
            put_length : length (put_mid w (length out - w) out part) ≡ length out
            put_length = put_same w out part (omega (arith, m)) (fault_length t (mid_of w (length out - w) out) part f s.kept)

-- ---- a line end, or a byte that may start one

pub line_byte : (quote : ℕ) (newer : Bool) (t : List ℕ) (i b at : ℕ) (old : List ℕ) → i < at → at ≤ length t → b ≢ 37 → b ≢ 38 → left newer t i ≡ b ∷ left newer t at
    → Meets newer t i (value_step quote (left newer t i)) old (set old 0 b) (going at 1)
line_byte quote newer t i b at old h k n m e =
    record {
      value = b ∷ [];
      is = ap (value_step quote) e ∙ plain;
      kept = record { on = h; to = k; size = refl; small = omega arith; holds = over_byte [] old b };
    }
  where
    plain : value_step quote (b ∷ left newer t at) ≡ read (b ∷ []) (left newer t at)
    plain = rw (ne_eqb b 37 n, ne_eqb b 38 m)

pub line_kept : (quote : ℕ) (newer : Bool) (t : List ℕ) (i w : ℕ) (old : List ℕ) → i < length t → get_or t i 0 ≢ 37 → get_or t i 0 ≢ 38 → w ≡ 0 → w ≡ line_end (rule_for newer) (drop i t)
    → Meets newer t i (value_step quote (left newer t i)) old (set old 0 (get_or t i 0)) (going (i + 1) 1)
line_kept quote newer t i w old h n m z e = line_byte quote newer t i (get_or t i 0) (i + 1) old (omega arith) (omega arith) n m (left_kept newer t i h (sym z ∙ e))

pub line_ended : (quote : ℕ) (newer : Bool) (t : List ℕ) (i w : ℕ) (old : List ℕ) → i < length t → (w ≡ 0 → ⊥) → w ≡ line_end (rule_for newer) (drop i t)
    → Meets newer t i (value_step quote (left newer t i)) old (set old 0 10) (going (i + w) 1)
line_ended quote newer t i w old h n e =
    line_byte quote newer t i 10 (i + w) old (omega arith) (ended_inside newer t i w h n e) (λ q. absurd (omega arith)) (λ q. absurd (omega arith)) (left_ended newer t i w h n e)

-- ---- `&` and `%`

pub amp_step : (quote : ℕ) (newer : Bool) (t : List ℕ) (i : ℕ) → i < length t → get_or t i 0 ≡ 38 → value_step quote (left newer t i) ≡ reference quote (left newer t (i + 1))
amp_step quote newer t i h e = ap (value_step quote) (rw e at (left_ascii newer t i h (omega arith) (omega arith)))

pub percent_step : (quote : ℕ) (newer : Bool) (t : List ℕ) (i : ℕ) → i < length t → get_or t i 0 ≡ 37 → value_step quote (left newer t i) ≡ departs (left newer t i)
percent_step quote newer t i h e =
    let z : left newer t i ≡ 37 ∷ left newer t (i + 1) = rw e at (left_ascii newer t i h (omega arith) (omega arith)) in
    ap (value_step quote) z ∙ ap (λ (l : List ℕ). departs l) (sym z)

pub meets_as : {newer : Bool} {t : List ℕ} {i : ℕ} {wanted other : Read (List ℕ)} {old new : List ℕ} {r : Result Next Fault} → other ≡ wanted → Meets newer t i wanted old new r → Meets newer t i other old new r
meets_as e m = record { value = m.value; is = e ∙ m.is; kept = m.kept }

-- a step from a later place
pub kept_earlier : (t : List ℕ) (i j : ℕ) (v old new : List ℕ) (r : Result Next Fault) → i ≤ j → Kept t j v old new r → Kept t i v old new r
kept_earlier t i j v old new (Ok next) h k = record { on = omega (arith, k.on); to = k.to; size = k.size; small = omega (arith, k.small); holds = k.holds }
kept_earlier t i j v old new (Err f) h k = k

pub meets_earlier : {newer : Bool} {t : List ℕ} {i j : ℕ} {wanted : Read (List ℕ)} {old new : List ℕ} {r : Result Next Fault} → i ≤ j → Meets newer t j wanted old new r → Meets newer t i wanted old new r
meets_earlier {newer} {t} {i} {j} {wanted} {old} {new} {r} h m = record { value = m.value; is = m.is; kept = kept_earlier t i j m.value old new r h m.kept }

-- the output by an equation
pub meets_put : {newer : Bool} {t : List ℕ} {i : ℕ} {wanted : Read (List ℕ)} {old new new' : List ℕ} {r : Result Next Fault} → new' ≡ new → Meets newer t i wanted old new r → Meets newer t i wanted old new' r
meets_put {newer} {t} {i} {wanted} {old} {new} {new'} {r} e m = rw e m
