-- What a walk's loop keeps, for any reading of heads and any answers to stops: the value so far, and the outcome of the tokens still to
-- come. Assumes nothing.
use mathlib.Core.Path.{◌≡◌, refl, sym, ap, ◌∙◌}
use mathlib.Core.Bool.{Bool, false}
use mathlib.Core.List.{List, [], ◌∷◌, ◌++◌, append-nil, append_assoc}
use Prim.Native.Nat.{ℕ, zero, suc, ◌+◌, ◌-◌, ◌≤◌, ◌<◌, min}
use native.Mathlib.Omega.{arith}
use lib.ListN.{length, get_or, take, drop, length-append, length-drop, drop_of_length-le}
use lib.Seq.{drop-cons, length-take-le, take_all}
use native.Mathlib.Numerals.{add-one}
use borrow.Rule.Slice.PartMut.{mid_of, put_mid}
use Rattle.text.specs.Answers.{Done}
use Rattle.output.specs.Over.{over}
use Rattle.output.proofs.Clip.{over_more, length_over}
use Rattle.tokens.specs.Tokens.{Stop, Token, copy, stop, barred, Head, Heads, tokens, token_of, skip_of}
use Rattle.tokens.specs.Outcome.{Outcome, done, refused, prepend, followed, run}
use Rattle.output.specs.Runs.{Plain}
use Rattle.tokens.specs.Walking.{Copies, head_at, next_at, outcome_of, Stepped, Walked}
use Rattle.tokens.specs.Walking.{Next, Stopped}
use Rattle.tokens.proofs.Runs.{tokens_at}

-- ---- outcomes

pub prepend_none : (o : Outcome) → prepend [] o ≡ o
prepend_none (done value openings) = refl
prepend_none (refused before openings number first second) = refl

pub prepend_prepend : (a b : List ℕ) (o : Outcome) → prepend a (prepend b o) ≡ prepend (a ++ b) o
prepend_prepend a b (done value openings) = ap (λ (l : List ℕ). done l openings) (sym (append_assoc a b value))
prepend_prepend a b (refused before openings number first second) =
    ap (λ (l : List ℕ). refused l openings number first second) (sym (append_assoc a b before))

-- one token and then the rest
run_token : (answer : Stop → ℕ → Outcome) (t : Token) (ts : List Token) (openings : ℕ)
    → run answer (t ∷ ts) openings ≡ followed (outcome_of answer t openings) (λ n. run answer ts n)
unfolding run
run_token answer (copy b) ts openings = refl
run_token answer (stop s) ts openings = refl
run_token answer (barred o) ts openings = refl

module _ (at : Heads) (answer : Stop → ℕ → Outcome) (text : List ℕ) where
  -- the outcome of the tokens from an index on
  abbrev pub from_on : ℕ → ℕ → Outcome
  from_on i openings = run answer (tokens at i 0 (drop i text)) openings

  pub run_at : (i openings : ℕ) → i < length text
      → from_on i openings ≡ followed (outcome_of answer (token_of (head_at at text i)) openings) (λ n. from_on (next_at at text i) n)
  run_at i openings h =
      ap (λ (ts : List Token). run answer ts openings) (tokens_at at text i h)
      ∙ run_token answer (token_of (head_at at text i)) (tokens at (next_at at text i) 0 (drop (next_at at text i) text)) openings

  pub run_over : (i openings : ℕ) → length text ≤ i → from_on i openings ≡ done [] openings
  unfolding run tokens
  run_over i openings h = rw (drop_of_length-le text h)

  -- ---- a run of bytes that are copied

  module _ (stops : ℕ → Bool) (copies : Copies stops at) where
    run_byte : (i openings : ℕ) → i < length text → stops (get_or text i 0) ≡ false
        → from_on i openings ≡ prepend (get_or text i 0 ∷ []) (from_on (i + 1) openings)
    run_byte i openings h e =
        let q : i + 1 + 0 ≡ i + 1 = omega arith in
        run_at i openings h
        ∙ ap (λ (d : Head). followed (outcome_of answer (token_of d) openings) (λ n. from_on (i + 1 + skip_of d) n)) (copies i (get_or text i 0) (drop (i + 1) text) e)
        ∙ ap (λ (k : ℕ). prepend (get_or text i 0 ∷ []) (from_on k openings)) q

    run_count : (n i openings : ℕ) → i + n ≤ length text → ((k : ℕ) → i ≤ k → k < i + n → stops (get_or text k 0) ≡ false)
        → from_on i openings ≡ prepend (take n (drop i text)) (from_on (i + n) openings)
    run_count zero i openings h p =
        let q : i + 0 ≡ i = omega arith in
        rw q (sym (prepend_none (from_on i openings)))
    run_count (suc n) i openings h p =
        let q : i + 1 + n ≡ i + suc n = omega arith in
        let b = get_or text i 0 in
        run_byte i openings (omega arith) (p i (omega arith) (omega arith))
        ∙ ap (prepend (b ∷ [])) (run_count n (i + 1) openings (omega arith) (λ k g l. p k (omega arith) (omega arith)))
        ∙ prepend_prepend (b ∷ []) (take n (drop (i + 1) text)) (from_on (i + 1 + n) openings)
        ∙ ap (λ (k : ℕ). prepend (b ∷ take n (drop (i + 1) text)) (from_on k openings)) q
        ∙ ap (λ (l : List ℕ). prepend (take (suc n) l) (from_on (i + suc n) openings))
        (ap (λ (k : ℕ). b ∷ drop k text) (add-one i) ∙ sym (drop-cons text i 0 (omega arith)))

    pub run_plain : (i e openings : ℕ) → Plain stops text i e → from_on i openings ≡ prepend (take (e - i) (drop i text)) (from_on e openings)
    run_plain i e openings p =
        let q : i + (e - i) ≡ e = omega (arith, p.from) in
        run_count (e - i) i openings (omega (arith, p.from, p.to)) (λ k g l. p.none k g (omega (arith, p.from)))
        ∙ ap (λ (k : ℕ). prepend (take (e - i) (drop i text)) (from_on k openings)) q

    -- a text without stops is its own value
    pub run_whole : (openings : ℕ) → Plain stops text 0 (length text) → run answer (tokens at 0 0 text) openings ≡ done text openings
    run_whole openings p =
        let piece = take (length text - 0) text in
        run_plain 0 (length text) openings p
        ∙ ap (prepend piece) (run_over (length text) openings (omega arith))
        ∙ ap (λ (l : List ℕ). done l openings) (append-nil piece ∙ take_all (length text - 0) text (omega arith))

-- ---- a single step's answer, taken apart

pub record Went (next : ℕ) (o : Outcome) (old new : List ℕ) (a l m : ℕ) : Type 0 where
  pub value : List ℕ
  pub whole : o ≡ done value m
  pub size : length value ≡ l
  pub to : a ≡ next
  pub holds : new ≡ over value old

pub went : (next : ℕ) (o : Outcome) (old new : List ℕ) (a l m : ℕ) → Stepped next o old new (Next a l m) → Went next o old new a l m
went next (done value openings) old new a l m s =
    let e = s.answers in
    let x : m ≡ openings = cc in
    let y : length value ≡ l = cc in
    let z : a ≡ next = cc in
    record { value = value; whole = ap (done value) (sym x); size = y; to = z; holds = s.writes }
went next (refused before openings number first second) old new a l m s =
    let e = s.answers in
    let z : ◌≡◌ {A = ℕ} 0 1 = cc in
    absurd (omega arith)

pub record Halted (o : Outcome) (old new : List ℕ) (number first second : ℕ) : Type 0 where
  pub before : List ℕ
  pub openings : ℕ
  pub whole : o ≡ refused before openings number first second
  pub holds : new ≡ over before old

pub halted : (next : ℕ) (o : Outcome) (old new : List ℕ) (n f s : ℕ) → Stepped next o old new (Stopped n f s) → Halted o old new n f s
halted next (done value openings) old new n f s p =
    let e = p.answers in
    let z : ◌≡◌ {A = ℕ} 0 1 = cc in
    absurd (omega arith)
halted next (refused before openings number first second) old new n f s p =
    let e = p.answers in
    let x : number ≡ n = cc in
    let y : first ≡ f = cc in
    let z : second ≡ s = cc in
    record { before = before; openings = openings; whole = rw (x, y, z); holds = p.writes }

-- ---- the loop

module _ (at : Heads) (answer : Stop → ℕ → Outcome) (text : List ℕ) (opened : ℕ) (old : List ℕ) where
  -- the tokens before `i` gave the value so far, `len` bytes, which lies over what the output held
  pub record Progress (out : List ℕ) (i len made : ℕ) : Type 0 where
    pub value : List ℕ
    pub size : length value ≡ len
    pub holds : out ≡ over value old
    pub rest : run answer (tokens at 0 0 text) opened ≡ prepend value (from_on at answer text i made)
    pub inside : i ≤ length text

  unfoldable pub progress_start : Progress old 0 0 opened
  progress_start = record {
    value = [];
    size = refl;
    holds = refl;
    rest = sym (prepend_none (from_on at answer text 0 opened));
    inside = omega arith;
  }

  module _ {out : List ℕ} {i len made : ℕ} (p : Progress out i len made) where
    -- the output keeps its length
    pub progress_length : length out ≡ length old
    progress_length = ap length p.holds ∙ length_over p.value old

    pub progress_end : length text ≤ i → Walked (run answer (tokens at 0 0 text) opened) old out (Done len made)
    progress_end h =
        let whole : run answer (tokens at 0 0 text) opened ≡ done p.value made =
        p.rest
        ∙ ap (prepend p.value) (run_over at answer text i made h)
        ∙ ap (λ (l : List ℕ). done l made) (append-nil p.value) in
        record { answers = rw (whole, p.size); writes = rw whole p.holds }

    -- a writer was lent the rest of the output, `&mut out[w..]`
    module _ {w : ℕ} {part : List ℕ} (least : w ≡ min len (length out)) where
      unfoldable pub progress_through : {e : ℕ} → i ≤ e → e ≤ length text
          → from_on at answer text i made ≡ prepend (take (e - i) (drop i text)) (from_on at answer text e made)
          → part ≡ over (take (e - i) (drop i text)) (mid_of w (length out - w) out)
          → Progress (put_mid w (length out - w) out part) e (len + (e - i)) made
      progress_through {e} from to same q =
          let piece = take (e - i) (drop i text) in
          let n : length piece ≡ e - i = length-take-le (e - i) (drop i text) (rw length-drop (omega (arith, from, to))) in
          record {
            value = p.value ++ piece;
            size = rw (length-append, p.size, n);
            holds = over_more p.value piece old p.holds (sym p.size) least q;
            rest = p.rest ∙ ap (prepend p.value) same ∙ prepend_prepend p.value piece (from_on at answer text e made);
            inside = to;
          }
