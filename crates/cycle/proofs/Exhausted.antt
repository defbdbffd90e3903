-- A text at depth 0: refused by 16 where there is any stop (`exhausted_any`, `bottom_refused`), else its own value
-- (`exhausted_none`, `bottom_written`). Assumes nothing.
use mathlib.Core.Path.{◌≡◌, refl, sym, ap, subst, ◌∙◌}
use mathlib.Core.Bool.{Bool, true, false, ◌||◌, true≢false}
use mathlib.Core.List.{List, [], ◌∷◌}
use Prim.Native.Nat.{ℕ, zero, suc, ◌+◌, ◌≤◌, ◌<◌}
use mathlib.Core.Logic.{◌≢◌}
use native.Mathlib.Omega.{arith}
use native.Mathlib.Nat.{zero-add}
use lib.Dec.{eqb}
use lib.ListN.{length, take, drop}
use Rattle.text.specs.Call.{laid}
use Rattle.text.proofs.Bytes.{or_left, or_right}
use Rattle.halts.specs.Halts.{any_stop, stop_byte}
use Rattle.tokens.specs.Tokens.{Token, copy, stop, barred, Head, head, Heads, token_of, skip_of, tokens}
use Rattle.tokens.specs.Outcome.{Outcome, done, refused, prepend, run}
use Rattle.tokens.specs.Walking.{step_of}
use Rattle.tokens.specs.Walking.{Step}
use Rattle.tokens.specs.Walking.{Next, Stopped}
use Rattle.attribute.specs.Steps.{heads_by, fault_by, read_by}
use Rattle.legal.specs.FirstFault.{FirstFault}
use Rattle.attribute.proofs.Guards.{unguarded, bars, walk_clear, clear_of}
use Rattle.attribute.specs.Walk.{Settings, exhausted, walk}
use Rattle.attribute.proofs.Stops.{IsStop, heads_copy, heads_stop}
use Rattle.output.proofs.Laid.{laid_length}
use Rattle.eols.specs.Stops.{rule_for}
use Rattle.canonical.specs.Canonical.{canonical}
use Rattle.memory.specs.Slots.{shaped, shaped_in}
use Rattle.memory.specs.Levels.{Fitted}
use Rattle.memory.proofs.Shaped.{shaped_plain, shaped_form}
use Rattle.memory.proofs.Fitted.{fitted_start, fitted_long}
use Rattle.flat.specs.Between.{Writes}
use Rattle.cycle.specs.Cycle.{Bottom, BottomFault}

-- refused by 16 after some bytes
pub record Exhausts (o : Outcome) (openings : ℕ) : Type 0 where
  pub before : List ℕ
  pub is : o ≡ refused before openings 16 0 0

-- one token at depth 0, and then the rest
first_stop : (x : Token) (ts : List Token) (n : ℕ) → IsStop x → Exhausts (run exhausted (x ∷ ts) n) n
unfolding run exhausted
first_stop (copy b) ts n p = absurd p
first_stop (stop s) ts n p = record { before = []; is = refl }
first_stop (barred o) ts n p = absurd p

pub bottom_same : {form : ℕ} {o p : Outcome} → o ≡ p → {next : ℕ} {old new : List ℕ} {r : Step} → Bottom form p next old new r → Bottom form o next old new r
bottom_same {form} e {next} {old} {new} {r} b = subst (λ (x : Outcome). Bottom form x next old new r) (sym e) b

-- the step, refused by 26
pub bottom_refused_26 : {o : Outcome} {before : List ℕ} {n at : ℕ} (form next : ℕ) (old : List ℕ) → o ≡ refused before n 26 at 0 → Bottom form o next old old (Stopped 26 at 0)
bottom_refused_26 {o} {before} {n} {at} form next old e =
    record {
      answers = sym (ap (λ (x : Outcome). step_of next (shaped_in form x)) e);
      buffer = refl;
      fitted = λ value made q.
          let z : refused before n 26 at 0 ≡ done value made = sym e ∙ q in
          let k : ◌≡◌ {A = ℕ} 0 1 = cc in
          absurd (omega (arith, k));
    }

or_tail : (x y : Bool) → x || y ≡ true → x ≡ false → y ≡ true
or_tail false y e q = e
or_tail true y e q = absurd (true≢false q)

module _ (how : ℕ) where
  abbrev heads : Heads
  heads = heads_by how

  abbrev stops : ℕ → Bool
  stops = stop_byte (eqb how 1)

  abbrev walked : ℕ → List ℕ → ℕ → Outcome
  walked i t n = run exhausted (tokens heads i 0 t) n

  walked_copy : (i b : ℕ) (bs : List ℕ) (n : ℕ) → stops b ≡ false → walked i (b ∷ bs) n ≡ prepend (b ∷ []) (walked (suc i) bs n)
  unfolding run tokens
  walked_copy i b bs n e =
      ap (λ (h : Head). run exhausted (token_of h ∷ tokens heads (suc i) (skip_of h) bs) n) (heads_copy how i b bs e)

  walked_stop : (i b : ℕ) (bs : List ℕ) (n : ℕ) → stops b ≡ true → Exhausts (walked i (b ∷ bs) n) n
  unfolding tokens
  walked_stop i b bs n e =
      first_stop (token_of (heads i b bs)) (tokens heads (suc i) (skip_of (heads i b bs)) bs) n (heads_stop how i b bs e)

  walked_byte : (i b : ℕ) (bs : List ℕ) (n : ℕ) → (any_stop stops bs ≡ true → Exhausts (walked (suc i) bs n) n)
      → any_stop stops (b ∷ bs) ≡ true → (x : Bool) → stops b ≡ x → Exhausts (walked i (b ∷ bs) n) n
  walked_byte i b bs n rest e true q = walked_stop i b bs n q
  walked_byte i b bs n rest e false q =
      let k = rest (or_tail (stops b) (any_stop stops bs) e q) in
      record { before = b ∷ k.before; is = walked_copy i b bs n q ∙ ap (prepend (b ∷ [])) k.is }

  walked_any : (i : ℕ) (t : List ℕ) (n : ℕ) → any_stop stops t ≡ true → Exhausts (walked i t n) n
  walked_any i [] n e = absurd (true≢false (sym e))
  walked_any i (b ∷ bs) n e = walked_byte i b bs n (λ k. walked_any (suc i) bs n k) e (stops b) refl

  walked_none : (i : ℕ) (t : List ℕ) (n : ℕ) → any_stop stops t ≡ false → walked i t n ≡ done t n
  unfolding run tokens
  walked_none i [] n e = refl
  walked_none i (b ∷ bs) n e =
      walked_copy i b bs n (or_left (stops b) (any_stop stops bs) e)
      ∙ ap (prepend (b ∷ [])) (walked_none (suc i) bs n (or_right (stops b) (any_stop stops bs) e))

  -- ---- guarded heads

  module _ (guard : ℕ) where
    guarded : ℕ → List ℕ → ℕ → Outcome
    guarded i t n = run exhausted (tokens (read_by how guard) i 0 t) n

    -- up to the first stop they are those below
    stop_first : (i b : ℕ) (bs : List ℕ) (n : ℕ) → fault_by guard (b ∷ bs) ≡ false → stops b ≡ true → guarded i (b ∷ bs) n ≡ walked i (b ∷ bs) n
    unfolding guarded run tokens exhausted
    stop_first i b bs n clean e = rw (unguarded heads i b bs guard clean) (go (heads i b bs) (heads_stop how i b bs e))
      where
        go : (h : Head) → IsStop (token_of h) → run exhausted (token_of h ∷ tokens (read_by how guard) (suc i) (skip_of h) bs) n ≡ run exhausted (token_of h ∷ tokens heads (suc i) (skip_of h) bs) n
        go (head (copy c) k) p = absurd p
        go (head (stop x) k) p = refl
        go (head (barred o) k) p = absurd p

    guarded_copy : (i b : ℕ) (bs : List ℕ) (n : ℕ) → fault_by guard (b ∷ bs) ≡ false → stops b ≡ false → guarded i (b ∷ bs) n ≡ prepend (b ∷ []) (guarded (suc i) bs n)
    unfolding guarded run tokens
    guarded_copy i b bs n clean e =
        ap (λ (h : Head). run exhausted (token_of h ∷ tokens (read_by how guard) (suc i) (skip_of h) bs) n) (unguarded heads i b bs guard clean ∙ heads_copy how i b bs e)

    stopped_run : (f i : ℕ) (t : List ℕ) (n : ℕ) → ((k : ℕ) → k < f → fault_by guard (drop k t) ≡ false) → any_stop stops (take f t) ≡ true → guarded i t n ≡ walked i t n
    stopped_run zero i t n clean e = absurd (true≢false (sym e))
    stopped_run (suc f) i [] n clean e = absurd (true≢false (sym e))
    stopped_run (suc f) i (b ∷ bs) n clean e =
        go (stops b) refl (λ k. stopped_run f (suc i) bs n (λ j h. clean (suc j) (omega (arith, h))) k) e
      where
        go : (x : Bool) → stops b ≡ x → (any_stop stops (take f bs) ≡ true → guarded (suc i) bs n ≡ walked (suc i) bs n) → x || any_stop stops (take f bs) ≡ true
            → guarded i (b ∷ bs) n ≡ walked i (b ∷ bs) n
        go true q ih k = stop_first i b bs n (clean 0 (omega arith)) q
        go false q ih k = guarded_copy i b bs n (clean 0 (omega arith)) q ∙ ap (prepend (b ∷ [])) (ih k) ∙ sym (walked_copy i b bs n q)

    barred_run : (f i : ℕ) (t : List ℕ) (n : ℕ) → f < length t → ((k : ℕ) → k < f → fault_by guard (drop k t) ≡ false) → fault_by guard (drop f t) ≡ true
        → any_stop stops (take f t) ≡ false → guarded i t n ≡ refused (take f t) n 26 (i + f) 0
    unfolding guarded run tokens
    barred_run f i [] n h clean fault e = absurd (omega (arith, h))
    barred_run zero i (b ∷ bs) n h clean fault e =
        let q : i + 0 ≡ i = omega arith in
        rw (bars heads i b bs guard fault, q)
    barred_run (suc f) i (b ∷ bs) n h clean fault e =
        let q : suc i + f ≡ i + suc f = omega arith in
        guarded_copy i b bs n (clean 0 (omega arith)) (or_left (stops b) (any_stop stops (take f bs)) e)
        ∙ ap (prepend (b ∷ [])) (barred_run f (suc i) bs n (omega (arith, h)) (λ j g. clean (suc j) (omega (arith, g))) fault (or_right (stops b) (any_stop stops (take f bs)) e))
        ∙ ap (λ (k : ℕ). refused (b ∷ take f bs) n 26 k 0) q

    -- what `bottom_fault` says, return by return
    module _ (t : List ℕ) where
      bottom_none : ((k : ℕ) → k < length t → fault_by guard (drop k t) ≡ false) → BottomFault how guard t (length t)
      bottom_none clean =
          record { barred = λ q. absurd (q refl); other = λ q s n. walk_clear s guard heads 0 t n (clear_of guard t clean) }

      pub bottom_unguarded : guard ≡ 0 → BottomFault how guard t (length t)
      bottom_unguarded z = bottom_none (λ k h. ap (λ (g : ℕ). fault_by g (drop k t)) z)

      pub bottom_clean : {f : ℕ} → FirstFault (fault_by guard) t 0 (length t) f → f ≡ length t → BottomFault how guard t (length t)
      bottom_clean {f} x q = bottom_none (λ k h. x.clean.none k (omega arith) (omega (arith, h, q)))

      pub bottom_stopped : {f : ℕ} → FirstFault (fault_by guard) t 0 (length t) f → any_stop stops (take f t) ≡ true → BottomFault how guard t (length t)
      unfolding walk guarded
      bottom_stopped {f} x e =
          record { barred = λ q. absurd (q refl); other = λ q s n. stopped_run f 0 t n (λ k h. x.clean.none k (omega arith) h) e }

      pub bottom_barred : {f : ℕ} → FirstFault (fault_by guard) t 0 (length t) f → f ≢ length t → any_stop stops (take f t) ≡ false → BottomFault how guard t f
      unfolding walk guarded
      bottom_barred {f} x d e =
          let inside : f < length t = omega (arith, x.within, d) in
          record {
            barred = λ q s n. barred_run f 0 t n inside (λ k h. x.clean.none k (omega arith) h) (x.found inside) e ∙ ap (λ (k : ℕ). refused (take f t) n 26 k 0) (zero-add f);
            other = λ q. absurd (d q);
          }

  module _ (s : Settings) (t : List ℕ) (n : ℕ) where
    pub exhausted_any : any_stop stops t ≡ true → Exhausts (walk s heads 0 t n) n
    unfolding walk
    exhausted_any e = walked_any 0 t n e

    pub exhausted_none : any_stop stops t ≡ false → walk s heads 0 t n ≡ done t n
    unfolding walk
    exhausted_none e = walked_none 0 t n e

  -- the step
  module _ (form : ℕ) (s : Settings) (t : List ℕ) (n : ℕ) where
    abbrev exhausts : Outcome
    exhausts = walk s heads 0 t n

    pub bottom_refused : (next : ℕ) (old : List ℕ) → any_stop stops t ≡ true → Bottom form exhausts next old old (Stopped 16 0 0)
    bottom_refused next old e =
        let x = exhausted_any s t n e in
        record {
          answers = sym (ap (λ (y : Outcome). step_of next (shaped_in form y)) x.is);
          buffer = refl;
          fitted = λ value made q.
              let z : refused x.before n 16 0 0 ≡ done value made = sym x.is ∙ q in
              let k : ◌≡◌ {A = ℕ} 0 1 = cc in
              absurd (omega (arith, k));
        }

    pub bottom_written : (next : ℕ) {old new : List ℕ} {size : ℕ} → any_stop stops t ≡ false → (size ≡ length (shaped form t)) × Fitted (shaped form t) old new
        → Bottom form exhausts next old new (Next next size n)
    bottom_written next {old} {new} {size} e w =
        let x = exhausted_none s t n e in
        let f = w.1 in
        record {
          answers = ap (λ (k : ℕ). Next next k n) w.0 ∙ sym (ap (λ (y : Outcome). step_of next (shaped_in form y)) x);
          buffer = f.size;
          fitted = λ value made q.
              let z : done t n ≡ done value made = sym x ∙ q in
              let k : t ≡ value = cc in
              subst (λ (l : List ℕ). Fitted (shaped form l) old new) k f;
        }

-- ---- a text as it is, or its canonical form, at the start of a buffer

pub text_laid : {form : ℕ} → form ≡ 0 → (t : List ℕ) {old new : List ℕ} → length t ≤ length old → new ≡ laid t old
    → (length t ≡ length (shaped form t)) × Fitted (shaped form t) old new
text_laid e t {old} {new} h k =
    let q = sym (shaped_plain e t) in
    (ap length q, subst (λ (x : List ℕ). Fitted x old new) q (record { size = ap length k ∙ laid_length t old h; holds = λ g. k }))

pub text_long : {form : ℕ} → form ≡ 0 → (t : List ℕ) {old : List ℕ} → length old < length t → (length t ≡ length (shaped form t)) × Fitted (shaped form t) old old
text_long e t {old} h =
    let q = sym (shaped_plain e t) in
    (ap length q, subst (λ (x : List ℕ). Fitted x old old) q (fitted_long h refl))

pub text_form : {form : ℕ} → form ≢ 0 → (t : List ℕ) {old new : List ℕ} {size : ℕ} → Writes (canonical (rule_for (eqb form 2)) t) 0 old new size
    → (size ≡ length (shaped form t)) × Fitted (shaped form t) old new
text_form n t {old} {new} {size} w =
    let q = sym (shaped_form n t) in
    (w.0 ∙ ap length q, subst (λ (x : List ℕ). Fitted x old new) q (w.1.fits [] old refl (fitted_start old)))
