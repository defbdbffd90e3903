-- `cdata_calls_iterate`: the calls of `govlezna_cdata_next` on a text that is UTF-8, from { 0, 0 } on, hand over pieces that are the text
-- when joined, of which none holds `]]>`, at most n/3 + 1 of them; each call after the last answers "no more". The laws of one step
-- are utils/proofs/Pieces.antt. Assumes nothing.
use mathlib.Core.Path.{◌≡◌, refl, sym, ◌∙◌, ap, ap₂, subst}
use mathlib.Core.Logic.{◌≢◌}
use Prim.Native.Nat.{ℕ, zero, suc, ◌+◌, ◌<◌, ◌≤◌}
use native.Mathlib.Omega.{arith}
use mathlib.Core.Bool.{Bool, true, false}
use mathlib.Core.List.{List, [], ◌∷◌, ◌++◌, append_assoc, append-nil}
use lib.ListN.{length, take, drop, get_or, length-append, get_or-replicate}
use lib.Seq.{take_all, take-append_seam, drop-append-add}
use lib.Dec.{ltb, eqb}
use borrow.Author.Tests.{eqb-true}
use Rattle.text.specs.Utf8.{WellFormed, utf8_end}
use Rattle.text.specs.Call.{called, guarded, length_check, utf8_check, text_check}
use Rattle.text.specs.Answers.{Answer}
use Rattle.text.specs.Answers.{Done, Refused}
use Rattle.text.proofs.Longest.{end_whole}
use Rattle.utils.specs.CData.{stepped, cdata_step, piece_answer}
use Rattle.utils.specs.Pieces.{joined, pieces, cursor_at, calls, handed, holds}
use Rattle.utils.specs.declared.Cursor.{Cursor}
use Rattle.std.specs.Prelude.{Ok, Err}
use Rattle.utils.specs.CData.{Piece, part, no_more}
use Rattle.utils.specs.declared.Stepped.{Stepped}
use Rattle.utils.proofs.Pieces.{pieces_joined, pieces_free, pieces_count, pieces_cut, pieces_some, calls_handed}
use Rattle.govlezna.specs.declared.CDataNext.{CDataNext}
use Rattle.govlezna.specs.Calls.{check_utf8_call, cursor_left, cursor_guarded, cdata_next_call}
use Rattle.demands.specs.CDataCalls.{Utf8Accepted, call_from, call_after, part_of, joined_parts, Iterates}
use Rattle.demands.proofs.Numbers.{By, by_then, by_length, by_utf8}

-- ---- a text that 1 and 5 let pass

record Passes (t : List ℕ) : Type 0 where
  first : ℕ
  second : ℕ
  check : text_check t ≡ Done first second
  well : WellFormed t

passed_utf8 : (t : List ℕ) {first second : ℕ} → text_check t ≡ Done first second → WellFormed t
unfolding length_check utf8_check
passed_utf8 t {first} {second} e = go (ltb 16777216 (length t)) refl (eqb (utf8_end t) (length t)) refl
  where
    go : (b : Bool) → ltb 16777216 (length t) ≡ b → (d : Bool) → eqb (utf8_end t) (length t) ≡ d → WellFormed t
    go b p true q = end_whole t (eqb-true (utf8_end t) (length t) q)
    go true p false q =
        let r : Refused 1 (length t) 0 ≡ Done first second = rw p at e in
        let z : ◌≡◌ {A = ℕ} 0 1 = cc in
        absurd (omega arith)
    go false p false q =
        let r : Refused 5 (utf8_end t) 0 ≡ Done first second = rw (p, q) at e in
        let z : ◌≡◌ {A = ℕ} 0 1 = cc in
        absurd (omega arith)

abbrev Not0 : ℕ → Type 0
Not0 n = n ≢ 0

accepted : (t : List ℕ) → Utf8Accepted t → Passes t
unfolding check_utf8_call
accepted t e = go (text_check t) refl e
  where
    by : By Not0 (text_check t)
    by = by_then Not0 (length_check t) (utf8_check t) (by_length Not0 (λ z. omega arith) t) (by_utf8 Not0 (λ z. omega arith) t)

    go : (c : Answer) → text_check t ≡ c → guarded c [] (called 0 (length t ∷ 0 ∷ []) []) ≡ called 0 (length t ∷ 0 ∷ []) [] → Passes t
    go (Done first second) q f = record { first = first; second = second; check = q; well = passed_utf8 t q }
    go (Refused why first second) q f = absurd (subst (By Not0) q by cc)

-- ---- a call is a step, as C sees it

abbrev answered : Stepped → CDataNext
answered s = cursor_left (piece_answer s.piece) s.next

next_kept : (p : Piece) (c : Cursor) → (cursor_left (piece_answer p) c).next ≡ c
unfolding piece_answer
next_kept (Ok p) c = refl
next_kept (Err refusal) c = refl

module _ (t : List ℕ) (p : Passes t) where
  step_call : (c : Cursor) → cdata_next_call t c ≡ answered (cdata_step t c)
  unfolding cdata_next_call
  step_call c = ap (λ (a : Answer). cursor_guarded a c (cdata_step t c)) p.check

  step_next : (c : Cursor) → (cdata_next_call t c).next ≡ (cdata_step t c).next
  step_next c = ap (λ (r : CDataNext). r.next) (step_call c) ∙ next_kept (cdata_step t c).piece (cdata_step t c).next

  -- the call after k others is the step number k
  call_is : (m k : ℕ) (c : Cursor) (d : Stepped) → k < m → call_from k t c ≡ answered (get_or (calls m t c) k d)
  unfolding call_from calls
  call_is zero k c d h = absurd (omega arith)
  call_is (suc m) zero c d h = step_call c
  call_is (suc m) (suc k) c d h = ap (call_from k t) (step_next c) ∙ call_is m k (cdata_step t c).next d (omega arith)

-- ---- what is handed over, one by one

handed_piece : (ps : List (List ℕ)) (o j k : ℕ) (d : Stepped) → k < length ps
    → (get_or (handed o ps j) k d).piece ≡ part (o + length (joined (take k ps))) (length (get_or ps k []))
unfolding handed
handed_piece [] o j k d h = absurd (omega arith)
handed_piece (p ∷ []) o j zero d h = let z : o ≡ o + 0 = omega arith in ap (λ (n : ℕ). part n (length p)) z
handed_piece (p ∷ []) o j (suc k) d h = absurd (omega arith)
handed_piece (p ∷ q ∷ ps) o j zero d h = let z : o ≡ o + 0 = omega arith in ap (λ (n : ℕ). part n (length p)) z
handed_piece (p ∷ q ∷ ps) o j (suc k) d h =
    let front : List ℕ = joined (take k (q ∷ ps)) in
    let z : o + length p + length front ≡ o + length (p ++ front) = omega (arith, length-append p front) in
    handed_piece (q ∷ ps) (o + length p) j k d (omega arith) ∙ ap (λ (n : ℕ). part n (length (get_or (q ∷ ps) k []))) z

-- where the last piece starts
last_start : ℕ → List (List ℕ) → ℕ
last_start o [] = o
last_start o (p ∷ []) = o
last_start o (p ∷ q ∷ ps) = last_start (o + length p) (q ∷ ps)

handed_later : (ps : List (List ℕ)) (o j k : ℕ) (d : Stepped) → 0 < length ps → length ps ≤ k → k < length ps + j
    → get_or (handed o ps j) k d ≡ stepped no_more (last_start o ps) 1
unfolding handed last_start
handed_later [] o j k d s h l = absurd (omega arith)
handed_later (p ∷ []) o j zero d s h l = absurd (omega arith)
handed_later (p ∷ []) o j (suc k) d s h l = get_or-replicate j k (stepped no_more o 1) d (omega arith)
handed_later (p ∷ q ∷ ps) o j zero d s h l = absurd (omega arith)
handed_later (p ∷ q ∷ ps) o j (suc k) d s h l = handed_later (q ∷ ps) (o + length p) j k d (omega arith) (omega arith) (omega arith)

-- ---- a piece in the text that they make

piece_in : (ps : List (List ℕ)) (k : ℕ) → k < length ps → take (length (get_or ps k [])) (drop (length (joined (take k ps))) (joined ps)) ≡ get_or ps k []
piece_in [] k h = absurd (omega arith)
piece_in (p ∷ ps) zero h = take-append_seam p (joined ps)
piece_in (p ∷ ps) (suc k) h =
    ap (λ (n : ℕ). take (length (get_or ps k [])) (drop n (p ++ joined ps))) (length-append p (joined (take k ps)))
    ∙ ap (take (length (get_or ps k []))) (drop-append-add p (joined ps) (length (joined (take k ps))))
    ∙ piece_in ps k (omega arith)

joined_next : (ps : List (List ℕ)) (k : ℕ) → k < length ps → joined (take (suc k) ps) ≡ joined (take k ps) ++ get_or ps k []
joined_next [] k h = absurd (omega arith)
joined_next (p ∷ ps) zero h = append-nil p
joined_next (p ∷ ps) (suc k) h =
    ap (λ (l : List ℕ). p ++ l) (joined_next ps k (omega arith)) ∙ sym (append_assoc p (joined (take k ps)) (get_or ps k []))

-- ---- the iteration

module _ (t : List ℕ) (p : Passes t) where
  abbrev ps : List (List ℕ)
  ps = pieces t

  -- the step number k
  abbrev step : ℕ → Stepped
  step k = get_or (handed 0 ps (suc k)) k (stepped no_more 0 0)

  -- the call after k others is that step
  call_handed : (k : ℕ) → call_after k t ≡ answered (step k)
  call_handed k =
      call_is t p (length ps + suc k) k (cursor_at 0 0) (stepped no_more 0 0) (omega arith)
      ∙ ap (λ (l : List Stepped). answered (get_or l k (stepped no_more 0 0))) (calls_handed t (suc k) p.well)

  -- with piece number k
  call_piece : (k : ℕ) → k < length ps
      → call_after k t ≡ record { number = 0; words = length (joined (take k ps)) ∷ length (get_or ps k []) ∷ []; next = (step k).next }
  unfolding piece_answer
  call_piece k h =
      let start : ℕ = length (joined (take k ps)) in
      let z : 0 + start ≡ start = omega arith in
      let q : (step k).piece ≡ part start (length (get_or ps k [])) =
      handed_piece ps 0 (suc k) k (stepped no_more 0 0) h ∙ ap (λ (n : ℕ). part n (length (get_or ps k []))) z in
      call_handed k ∙ ap (λ (q : Piece). cursor_left (piece_answer q) (step k).next) q

  part_is : (k : ℕ) → k < length ps → part_of t (call_after k t) ≡ get_or ps k []
  part_is k h =
      ap (part_of t) (call_piece k h)
      ∙ ap (λ (l : List ℕ). take (length (get_or ps k [])) (drop (length (joined (take k ps))) l)) (sym (pieces_joined t))
      ∙ piece_in ps k h

  joined_parts_lem : (k : ℕ) → k ≤ length ps → joined_parts k t ≡ joined (take k ps)
  joined_parts_lem zero h = refl
  joined_parts_lem (suc k) h =
      ap₂ (λ (x y : List ℕ). x ++ y) (joined_parts_lem k (omega arith)) (part_is k (omega arith)) ∙ sym (joined_next ps k (omega arith))

  iterates : Iterates t
  unfolding piece_answer
  iterates =
      record {
        count = length ps;
        some = pieces_some t;
        most = pieces_count t;
        hands = λ k h. ap (λ (r : CDataNext). r.number) (call_piece k h);
        joins = joined_parts_lem (length ps) (omega arith) ∙ ap joined (take_all (length ps) ps (omega arith)) ∙ pieces_joined t;
        free = λ k h. ap holds (part_is k h) ∙ pieces_free t k;
        cuts = λ k h. rw (part_is k (omega arith), part_is (k + 1) h) (pieces_cut t k h);
        last = cursor_at (last_start 0 ps) 1;
        no_more = λ k h. call_handed k ∙ ap answered (handed_later ps 0 (suc k) k (stepped no_more 0 0) (omega (arith, pieces_some t)) h (omega arith));
      }

-- CDATA, of the calls: pieces joined are the text, none holds `]]>`, each ends at a cut, at most n/3 + 1; "no more" after the last and ever after
pub cdata_calls_iterate : (text : List ℕ) → Utf8Accepted text → Iterates text
cdata_calls_iterate text e = iterates text (accepted text e)
