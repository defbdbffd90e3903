-- The loop of a walk that keeps what it met: its progress, and what is kept. Assumes nothing.
use mathlib.Core.Path.{◌≡◌, refl, sym, ap, ◌∙◌}
use mathlib.Core.Bool.{Bool}
use mathlib.Core.List.{List, [], ◌++◌}
use Prim.Native.Nat.{ℕ, ◌+◌, ◌-◌, ◌≤◌, ◌<◌, min}
use lib.ListN.{length, get_or, take, drop, replicate, length-append}
use borrow.Rule.Slice.PartMut.{mid_of, put_mid}
use Rattle.text.specs.Answers.{Refused}
use Rattle.output.specs.Over.{over}
use Rattle.output.specs.Runs.{Plain}
use Rattle.tokens.specs.Tokens.{tokens}
use Rattle.tokens.specs.Outcome.{Outcome, prepend, followed, produced, run}
use Rattle.tokens.specs.Walking.{Copies, next_at, Walked}
use Rattle.tokens.specs.Memory.{Walk, given, Memory, Advanced}
use Rattle.tokens.specs.Walking.{Next, Stopped}
use Rattle.tokens.proofs.Progress.{Progress, progress_start, progress_through, run_plain, from_on, run_at, prepend_prepend, went, halted}
use Rattle.tokens.proofs.Memory.{memory_start, memory_more}

module _ (w : Walk) (text : List ℕ) (opened : ℕ) (old : List ℕ) where
  pub record Going (out seen : List ℕ) (i len made : ℕ) : Type 0 where
    pub progress : Progress w.at w.answer text opened old out i len made
    pub memory : Memory w text seen progress.value

  pub going_start : ((k : ℕ) → get_or text k 0 < 256) → Going old (replicate 21 0) 0 0 opened
  unfolding progress_start
  going_start bytes = record { progress = progress_start w.at w.answer text opened old; memory = memory_start w text bytes }

  module _ {out seen : List ℕ} {i len made : ℕ} (g : Going out seen i len made) where
    pub going_through : {wd e : ℕ} {part : List ℕ} → wd ≡ min len (length out) → i ≤ e → e ≤ length text
        → from_on w.at w.answer text i made ≡ prepend (take (e - i) (drop i text)) (from_on w.at w.answer text e made)
        → part ≡ over (take (e - i) (drop i text)) (mid_of wd (length out - wd) out)
        → Going (put_mid wd (length out - wd) out part) seen e (len + (e - i)) made
    unfolding progress_through
    going_through {wd} {e} {part} least from to same q =
        record {
          progress = progress_through w.at w.answer text opened old g.progress least from to same q;
          memory = memory_more w text (take (e - i) (drop i text)) g.memory;
        }

    pub going_run : (stops : ℕ → Bool) → Copies stops w.at → {wd e : ℕ} {part : List ℕ} → wd ≡ min len (length out) → Plain stops text i e
        → part ≡ over (take (e - i) (drop i text)) (mid_of wd (length out - wd) out)
        → Going (put_mid wd (length out - wd) out part) seen e (len + (e - i)) made
    going_run stops copies {wd} {e} {part} least r q =
        going_through least r.from r.to (run_plain w.at w.answer text stops copies i e made r) q

    module _ (h : i < length text) {kept new : List ℕ} where
      pub going_step : {a l m : ℕ} → Advanced w text i made g.progress.value old kept new (Next a l m) → a ≤ length text
          → Going new kept a (len + l) m
      going_step {a} {l} {m} s b =
          let p = g.progress in
          let o = given w text i made in
          let n = went (next_at w.at text i) o [] (over (produced o) []) a l m (record { answers = s.answers; writes = refl }) in
          record {
            progress =
                record {
                  value = p.value ++ n.value;
                  size = rw (length-append, p.size, n.size);
                  holds = s.writes ∙ ap (λ (x : Outcome). over (p.value ++ produced x) old) n.whole;
                  rest =
                      p.rest
                      ∙ ap (prepend p.value) (run_at w.at w.answer text i made h)
                      ∙ ap (λ (x : Outcome). prepend p.value (followed x (λ k. from_on w.at w.answer text (next_at w.at text i) k))) n.whole
                      ∙ prepend_prepend p.value n.value (from_on w.at w.answer text (next_at w.at text i) m)
                      ∙ ap (λ (k : ℕ). prepend (p.value ++ n.value) (from_on w.at w.answer text k m)) (sym n.to);
                  inside = b;
                };
            memory = s.keeps n.value m n.whole;
          }

      pub going_refused : {number first second : ℕ} → Advanced w text i made g.progress.value old kept new (Stopped number first second)
          → Walked (run w.answer (tokens w.at 0 0 text) opened) old new (Refused number first second)
      going_refused {number} {first} {second} s =
          let p = g.progress in
          let o = given w text i made in
          let n = halted (next_at w.at text i) o [] (over (produced o) []) number first second (record { answers = s.answers; writes = refl }) in
          let whole =
          p.rest
          ∙ ap (prepend p.value) (run_at w.at w.answer text i made h)
          ∙ ap (λ (x : Outcome). prepend p.value (followed x (λ k. from_on w.at w.answer text (next_at w.at text i) k))) n.whole in
          record { answers = rw whole; writes = rw whole (s.writes ∙ ap (λ (x : Outcome). over (p.value ++ produced x) old) n.whole) }
