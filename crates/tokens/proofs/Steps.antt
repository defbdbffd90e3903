-- A single step and a whole walk, said otherwise, and the steps that are told at once. Assumes nothing.
use mathlib.Core.Path.{◌≡◌, refl, ap, ◌∙◌}
use mathlib.Core.List.{List, [], ◌∷◌}
use Prim.Native.Nat.{ℕ, ◌+◌}
use lib.ListN.{length, set}
use Rattle.text.specs.Answers.{Answer}
use Rattle.output.proofs.Clip.{over_byte, length_over}
use Rattle.tokens.specs.Tokens.{Stop, Token, head, Heads, token_of}
use Rattle.tokens.specs.Outcome.{Outcome, done, refused, produced}
use Rattle.tokens.specs.Walking.{head_at, next_at, outcome_of, Stepped, Walked}
use Rattle.tokens.specs.Walking.{Step}
use Rattle.tokens.specs.Walking.{Next, Stopped}

-- the head at the offset is known
pub stepped_at : (at : Heads) (answer : Stop → ℕ → Outcome) (text : List ℕ) (i openings : ℕ) {t : Token} {k next : ℕ} {old new : List ℕ} {r : Step}
    → head_at at text i ≡ head t k → i + 1 + k ≡ next → Stepped next (outcome_of answer t openings) old new r
    → Stepped (next_at at text i) (outcome_of answer (token_of (head_at at text i)) openings) old new r
stepped_at at answer text i openings e q s = rw (e, q) s

-- ---- the output keeps its length

pub walked_length : {o : Outcome} {old new : List ℕ} {r : Answer} → Walked o old new r → length new ≡ length old
walked_length {o} {old} w = ap length w.writes ∙ length_over (produced o) old

-- ---- steps that are told at once

-- a refusal writes nothing
pub stepped_refused : {next : ℕ} {o : Outcome} {openings number first second : ℕ} {old : List ℕ} {r : Step} → o ≡ refused [] openings number first second
    → r ≡ Stopped number first second → Stepped next o old old r
stepped_refused e q = record { answers = q ∙ rw e; writes = rw e }

-- one byte is written
pub stepped_byte : {next openings : ℕ} (b : ℕ) {old new : List ℕ} → new ≡ set old 0 b → Stepped next (done (b ∷ []) openings) old new (Next next 1 openings)
stepped_byte b {old} w = record { answers = refl; writes = w ∙ over_byte [] old b }
