-- Guarded heads: without a fault they are those below (`unguarded`, `tokens_clean`, `walk-clean`), with one they bar (`bars`); `&` and what
-- stands for a blank at a halt are no faults (`read_refers`, `halt_clean`). Assumes nothing.
use mathlib.Core.Path.{◌≡◌, refl, sym, ap, ◌∙◌}
use mathlib.Core.Bool.{Bool, true, false, not, ◌&&◌, ◌||◌, true≢false}
use mathlib.Core.List.{List, [], ◌∷◌}
use Prim.Native.Nat.{ℕ, zero, suc, ◌+◌, ◌≤◌, ◌<◌}
use native.Mathlib.Omega.{arith}
use native.Mathlib.Numerals.{add-one}
use lib.Dec.{eqb}
use lib.ListN.{length, drop, get_or}
use lib.Seq.{drop-cons}
use borrow.Author.Tests.{eqb-true}
use Rattle.text.specs.Bytes.{begins, same_bytes}
use Rattle.text.proofs.Bytes.{pick_both}
use Rattle.charref.specs.CharNumbers.{CharNumber}
use Rattle.legal.specs.Legal.{fault_at}
use Rattle.legal.specs.FirstFault.{may_by, faults_by}
use Rattle.legal.proofs.Faults.{fault_ascii, fault_amp, fault_white, fault_next_line, fault_e2}
use Rattle.legal.proofs.Numbers.{printable_may}
use Rattle.eols.specs.declared.Step.{Step}
use Rattle.halts.specs.Halts.{halts}
use Rattle.entity.specs.Binding.{predefined, predefined_of, binding}
use Rattle.entity.proofs.Referents.{predefined_binding}
use Rattle.tokens.specs.Tokens.{barred, Head, head, Heads, skip_of, tokens}
use Rattle.tokens.specs.Outcome.{done, run}
use Rattle.tokens.specs.Walking.{head_at}
use Rattle.tokens.proofs.Carried.{Moves, Moving}
use Rattle.tokens.proofs.Lengths.{lengths}
use Rattle.attribute.specs.Walk.{Settings, walk}
use Rattle.attribute.specs.Strict.{barring}
use Rattle.attribute.specs.Steps.{heads_by, fault_by, guard_by, read_by, Refers, stop_answer, Blank}
use Rattle.attribute.proofs.Stops.{heads_refer}
use Rattle.attribute.proofs.Single.{walk_run, one_of_four, walk_predefined}

-- ---- one head

module _ (at : Heads) (offset b : ℕ) (bs : List ℕ) where
  pub unguarded : (guard : ℕ) → fault_by guard (b ∷ bs) ≡ false → guard_by guard at offset b bs ≡ at offset b bs
  unfolding barring faults_by
  unguarded zero e = refl
  unguarded (suc rule) e = rw e

  pub bars : (guard : ℕ) → fault_by guard (b ∷ bs) ≡ true → guard_by guard at offset b bs ≡ head (barred offset) 0
  unfolding barring faults_by
  bars zero e = absurd (true≢false (sym e))
  bars (suc rule) e = rw e

amp_clean : (guard : ℕ) (bs : List ℕ) → fault_by guard (38 ∷ bs) ≡ false
amp_clean zero bs = refl
amp_clean (suc rule) bs = fault_amp rule bs

-- `&` starts a reference
pub read_refers : (how guard : ℕ) → Refers (read_by how guard)
read_refers how guard offset bs = unguarded (heads_by how) offset 38 bs guard (amp_clean guard bs) ∙ heads_refer how offset bs

-- ---- a text without faults

-- at no place a fault begins
abbrev pub Clear : ℕ → List ℕ → Type 0
Clear guard [] = Unit {0}
Clear guard (b ∷ bs) = (fault_by guard (b ∷ bs) ≡ false) × Clear guard bs

pub tokens_clear : (guard : ℕ) (at : Heads) (t : List ℕ) (offset skip : ℕ) → Clear guard t → tokens (guard_by guard at) offset skip t ≡ tokens at offset skip t
unfolding tokens
tokens_clear guard at [] offset skip c = refl
tokens_clear guard at (b ∷ bs) offset (suc skip) c = tokens_clear guard at bs (suc offset) skip c.1
tokens_clear guard at (b ∷ bs) offset zero c =
    rw (unguarded at offset b bs guard c.0, tokens_clear guard at bs (suc offset) (skip_of (at offset b bs)) c.1)

pub walk_clear : (s : Settings) (guard : ℕ) (at : Heads) (depth : ℕ) (t : List ℕ) (n : ℕ) → Clear guard t → walk s (guard_by guard at) depth t n ≡ walk s at depth t n
walk_clear s guard at depth t n c =
    walk_run s (guard_by guard at) depth t n ∙ ap (λ ts. run (stop_answer s depth) ts n) (tokens_clear guard at t 0 0 c) ∙ sym (walk_run s at depth t n)

pub clear_of : (guard : ℕ) (t : List ℕ) → ((k : ℕ) → k < length t → fault_by guard (drop k t) ≡ false) → Clear guard t
clear_of guard [] h = tt
clear_of guard (b ∷ bs) h = (h 0 (omega arith), clear_of guard bs (λ k l. h (suc k) (omega (arith, l))))

-- ---- blanks

module _ (text : List ℕ) (at : ℕ) (h : at < length text) where
  here : drop at text ≡ get_or text at 0 ∷ drop (at + 1) text
  here = rw (add-one at) (drop-cons text at 0 h)

  pub read_at_lem : (guard : ℕ) (heads : Heads) → fault_by guard (drop at text) ≡ false → head_at (guard_by guard heads) text at ≡ head_at heads text at
  read_at_lem guard heads e = unguarded heads at (get_or text at 0) (drop (at + 1) text) guard (ap (fault_by guard) (sym here) ∙ e)

  pub read_barred : (guard : ℕ) (heads : Heads) → fault_by guard (drop at text) ≡ true → head_at (guard_by guard heads) text at ≡ head (barred at) 0
  read_barred guard heads e = bars heads at (get_or text at 0) (drop (at + 1) text) guard (ap (fault_by guard) (sym here) ∙ e)

  pub guard_blank : (guard : ℕ) (heads : Heads) {x : Step} → fault_by guard (drop at text) ≡ false → Blank heads text at x → Blank (guard_by guard heads) text at x
  guard_blank guard heads e b =
      let q = read_at_lem guard heads e in
      record {
        some = b.some;
        inside = b.inside;
        next = ap (λ (d : Head). at + 1 + skip_of d) q ∙ b.next;
        stands_for = λ s walked n. rw q (b.stands_for s walked n);
      }

-- ---- what the code stops at is no fault

line_clean : (rule b : ℕ) (bs : List ℕ) → begins (0xC2 ∷ 0x85 ∷ []) (b ∷ bs) || begins (0xE2 ∷ 0x80 ∷ 0xA8 ∷ []) (b ∷ bs) ≡ true → faults_by rule (b ∷ bs) ≡ false
line_clean rule b bs e = go (eqb b 0xE2) refl (eqb b 0xC2) refl bs e
  where
    go : (t : Bool) → eqb b 0xE2 ≡ t → (u : Bool) → eqb b 0xC2 ≡ u → (bs : List ℕ)
        → (u && begins (0x85 ∷ []) bs) || (t && begins (0x80 ∷ 0xA8 ∷ []) bs) ≡ true → faults_by rule (b ∷ bs) ≡ false
    go true q u r bs k = rw (eqb-true b 0xE2 q) (fault_e2 rule bs)
    go false q false r bs k = absurd (true≢false (sym k))
    go false q true r [] k = absurd (true≢false (sym k))
    go false q true r (c ∷ cs) k = next (eqb c 0x85) refl k
      where
        next : (v : Bool) → eqb c 0x85 ≡ v → (v && true) || false ≡ true → faults_by rule (b ∷ c ∷ cs) ≡ false
        next true z h = rw (eqb-true b 0xC2 r, eqb-true c 0x85 z) (fault_next_line rule cs)
        next false z h = absurd (true≢false (sym h))

-- a halt
pub halt_clean : (guard : ℕ) (newer : Bool) (t : List ℕ) → halts newer t ≡ true → fault_by guard t ≡ false
halt_clean zero newer t e = refl
halt_clean (suc rule) newer [] e = absurd (true≢false (sym e))
halt_clean (suc rule) newer (b ∷ bs) e = go (eqb b 38) refl (eqb b 13) refl newer e
  where
    go : (a : Bool) → eqb b 38 ≡ a → (c : Bool) → eqb b 13 ≡ c → (n : Bool)
        → a || c || (n && (begins (0xC2 ∷ 0x85 ∷ []) (b ∷ bs) || begins (0xE2 ∷ 0x80 ∷ 0xA8 ∷ []) (b ∷ bs))) ≡ true → faults_by rule (b ∷ bs) ≡ false
    go true p c q n k = rw (eqb-true b 38 p) (fault_amp rule bs)
    go false p true q n k = fault_white rule b bs (rw (eqb-true b 13 q))
    go false p false q false k = absurd (true≢false (sym k))
    go false p false q true k = line_clean rule b bs k

-- a predefined text, walked, is itself
pub read_predefined : (s : Settings) (how guard : ℕ) (list pool name : List ℕ) (depth c n : ℕ) → same_bytes name (97 ∷ 109 ∷ 112 ∷ []) ≡ false
    → binding list pool name ≡ predefined (c ∷ []) → walk s (read_by how guard) depth (c ∷ []) n ≡ done (c ∷ []) n
read_predefined s how guard list pool name depth c n no_amp e =
    walk_clear s guard (heads_by how) depth (c ∷ []) n (clean guard, tt) ∙ walk_predefined s how list pool name depth c n no_amp e
  where
    is : predefined_of name ≡ predefined (c ∷ [])
    is = predefined_binding list pool name (c ∷ []) e

    clean : (guard : ℕ) → fault_by guard (c ∷ []) ≡ false
    clean zero = refl
    clean (suc rule) =
        let printable : (32 ≤ c) × (c ≤ 126) = one_of_four (λ b. (32 ≤ b) × (b ≤ 126)) (omega arith) (omega arith) (omega arith) (omega arith) name c no_amp is in
        fault_ascii rule c [] (omega (arith, printable.1)) ∙ ap not (printable_may rule c printable.0 printable.1)

-- ---- lengths

pub guard_lengths : (legal : ℕ → CharNumber) (at : Heads) → Moving (lengths legal) at → (guard : ℕ) → Moving (lengths legal) (guard_by guard at)
unfolding barring
guard_lengths legal at g zero = g
guard_lengths legal at g (suc rule) = λ x offset b bs h.
    pick_both (λ (z : Head). Moves (lengths legal) x bs z) (fault_at (may_by rule) (b ∷ bs)) {a = head (barred offset) 0} {b = at offset b bs}
    (record { to = length bs; leads = omega (arith, h); stands = omega arith }) (g x offset b bs h)
