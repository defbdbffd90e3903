-- What the loop over runs and references keeps, and its turns. Assumes nothing.
use mathlib.Core.Path.{◌≡◌, ap, subst, ◌∙◌}
use mathlib.Core.List.{List, [], ◌++◌}
use Prim.Native.Nat.{ℕ, ◌+◌, ◌-◌, ◌*◌, ◌≤◌, ◌<◌, min}
use native.Mathlib.Omega.{arith}
use lib.ListN.{length, get_or, replicate}
use borrow.Author.Tests.{eqb-true}
use borrow.Rule.Slice.PartMut.{mid_of, put_mid}
use Rattle.text.specs.Call.{longest_text}
use Rattle.text.specs.Answers.{Answer}
use Rattle.text.specs.Answers.{Done, Refused}
use Rattle.entity.specs.Binding.{Bound}
use Rattle.output.specs.Runs.{Plain}
use Rattle.output.proofs.Clip.{over_nothing}
use Rattle.runs.specs.RunEnds.{RunEnd, Put, is_amp}
use Rattle.tokens.specs.Outcome.{Outcome, done, produced}
use Rattle.tokens.specs.Walking.{Walked}
use Rattle.tokens.specs.Seen.{Kept, next_place, seen_size}
use Rattle.tokens.specs.Memory.{Advanced}
use Rattle.tokens.specs.Walking.{Step}
use Rattle.tokens.specs.Walking.{Next, Stopped}
use Rattle.tokens.proofs.Progress.{run_whole, progress_length, progress_end}
use Rattle.tokens.proofs.Memory.{memory_kept}
use Rattle.tokens.proofs.Going.{Going, going_start, going_run, going_step, going_refused}
use Rattle.unescape.specs.Unescape.{text_head, replaced, unescape}
use Rattle.unescape.specs.Steps.{Near, Referred, unescaping}
use Rattle.unescape.proofs.Stops.{others_copied}
use Rattle.unescape.proofs.Known.{Known}

-- a run that does not end with the text ends at a `&`
pub amp_here : (text : List ℕ) {i e : ℕ} → RunEnd is_amp text i e → (e ≡ length text → ⊥) → (e < length text) × (get_or text e 0 ≡ 38)
amp_here text {i} {e} r n =
    let h : e < length text = omega (arith, r.run.to) in
    (h, eqb-true (get_or text e 0) 38 (r.ends h))

-- a walk that counts is lent no bytes of the output, which stays as it was
pub counted_none : {o : Outcome} (out : List ℕ) {new : List ℕ} {r : Answer} → Walked o [] new r → new ++ out ≡ out
counted_none {o} out w = ap (λ (l : List ℕ). l ++ out) (w.writes ∙ over_nothing (produced o))

module _ (bind : List ℕ → Bound) (text : List ℕ) where
  pub referred_as : {i : ℕ} {old new : List ℕ} {r s : Step} → r ≡ s → Referred bind text i old new r → Referred bind text i old new s
  referred_as {i} {old} {new} e p = subst (λ (x : Step). Referred bind text i old new x) e p

  module _ (old : List ℕ) where
    -- the value so far, with nothing opened, and short enough to be counted
    pub record Ran (out seen : List ℕ) (i len : ℕ) : Type 0 where
      pub going : Going (unescaping bind) text 0 old out seen i len 0
      pub short : len ≤ 65535 * i

    pub ran_start : ((k : ℕ) → get_or text k 0 < 256) → Ran old (replicate seen_size 0) 0 0
    ran_start bytes = record { going = going_start (unescaping bind) text 0 old bytes; short = omega arith }

module _ {bind : List ℕ → Bound} {text old out seen : List ℕ} {i len : ℕ} (g : Ran bind text old out seen i len) where
  pub ran_length : length out ≡ length old
  ran_length = progress_length text_head (replaced bind) text 0 old g.going.progress

  pub ran_inside : i ≤ length text
  ran_inside = g.going.progress.inside

  pub ran_end : length text ≤ i → Walked (unescape bind text) old out (Done len 0)
  unfolding unescape
  ran_end h = progress_end text_head (replaced bind) text 0 old g.going.progress h

  -- what is kept, for a step after a text that is not too long
  pub ran_kept : length text ≤ longest_text → (len ≤ 0x1000000000000) × Kept seen len 0 × (next_place seen < 4)
  ran_kept h = (
    omega (arith, g.short, ran_inside, h),
    memory_kept (unescaping bind) text g.going.progress.size g.going.memory,
    g.going.memory.place,
  )

  pub ran_run : {w e : ℕ} {part : List ℕ} → w ≡ min len (length out) → RunEnd is_amp text i e × Put text i e (mid_of w (length out - w) out) part
      → Ran bind text old (put_mid w (length out - w) out part) seen e (len + (e - i))
  ran_run least r = record {
    going = going_run (unescaping bind) text 0 old g.going is_amp others_copied least r.0.run r.1;
    short = omega (arith, g.short, r.0.run.from);
  }

  module _ {kept new : List ℕ} {r : Step} (s : Known bind text i len seen out kept new r) where
    ran_advanced : Advanced (unescaping bind) text i 0 g.going.progress.value old kept new r × Near text i r
    ran_advanced = s g.going.progress.value old g.going.memory g.going.progress.holds g.going.progress.size

    -- where a step ends
    pub ran_near : {a l m : ℕ} → r ≡ Next a l m → (i < a) × (a ≤ length text) × (l ≤ 65535) × (m ≡ 0)
    ran_near e = subst (Near text i) e ran_advanced.1

    module _ (h : i < length text) where
      pub ran_step : {a l m : ℕ} → r ≡ Next a l m → Ran bind text old new kept a (len + l)
      ran_step {a} {l} {m} e =
          let n = ran_near e in
          record {
            going =
                subst (λ (k : ℕ). Going (unescaping bind) text 0 old new kept a (len + l) k) n.3
                (going_step (unescaping bind) text 0 old g.going h
                (subst (λ (x : Step). Advanced (unescaping bind) text i 0 g.going.progress.value old kept new x) e ran_advanced.0) n.1);
            short = omega (arith, g.short, n.0, n.2);
          }

      pub ran_refused : {number first second : ℕ} → r ≡ Stopped number first second → Walked (unescape bind text) old new (Refused number first second)
      unfolding unescape
      ran_refused e =
          going_refused (unescaping bind) text 0 old g.going h
          (subst (λ (x : Step). Advanced (unescaping bind) text i 0 g.going.progress.value old kept new x) e ran_advanced.0)

-- a text without references is its own value
pub own_value : (bind : List ℕ → Bound) (text : List ℕ) → Plain is_amp text 0 (length text) → unescape bind text ≡ done text 0
unfolding unescape
own_value bind text p = run_whole text_head (replaced bind) text is_amp others_copied 0 p
