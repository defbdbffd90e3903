-- The terms in which the attribute walk's code is proved: how a text is read, a stop at a depth, blanks. Assumes nothing.
use Rattle.std.specs.Prelude.{ℕ, zero, suc, ◌+◌, ◌≤◌, ◌≡◌, List, [], ◌∷◌, Bool, false, eqb, length}
use Rattle.text.specs.Bytes.{pick, same_bytes}
pub use Rattle.charref.specs.Reading.{legal_by}
use Rattle.legal.specs.FirstFault.{may_by, faults_by}
use Rattle.eols.specs.Stops.{rule_for}
use Rattle.eols.specs.declared.Step.{Step}
use Rattle.entity.specs.Binding.{Bound, predefined}
use Rattle.text.specs.Answers.{Answer}
use Rattle.text.specs.Answers.{Done, Refused}
use Rattle.tokens.specs.Walking.{Step as Onward}
use Rattle.tokens.specs.Walking.{Next, Stopped}
use Rattle.tokens.specs.Tokens.{Stop, Heads, token_of, name_at, reference_at}
use Rattle.tokens.specs.Outcome.{Outcome, done}
use Rattle.tokens.specs.Walking.{head_at, next_at, outcome_of}
use Rattle.attribute.specs.Heads.{attribute_head, past_head}
use Rattle.attribute.specs.Strict.{barring}
use Rattle.attribute.specs.Walk.{Settings, answer, exhausted, walk}

-- Attribute walk: a stop at a depth
unfoldable pub stop_answer : Settings → ℕ → Stop → ℕ → Outcome
unfolding answer exhausted walk
stop_answer s zero = exhausted
stop_answer s (suc depth) = answer s (λ u n. walk s s.inner depth u n)

-- how a text is read, by the code's number: 0 as XML 1.0, 1 as XML 1.1, 2 past line ends
abbrev pub heads_by : ℕ → Heads
heads_by how = pick (eqb how 2) past_head (attribute_head (rule_for (eqb how 1)))

-- what may stand in a text, by the code's number: 0 all, else the rule of the number before it (`may_by`)
abbrev pub fault_by : ℕ → List ℕ → Bool
fault_by zero bytes = false
fault_by (suc rule) bytes = faults_by rule bytes

abbrev pub guard_by : ℕ → Heads → Heads
guard_by zero at = at
guard_by (suc rule) at = barring (may_by rule) at

abbrev pub read_by : ℕ → ℕ → Heads
read_by how guard = guard_by guard (heads_by how)

-- heads under which `&` starts a reference
abbrev pub Refers : Heads → Type 0
Refers heads = (offset : ℕ) (bs : List ℕ) → heads offset 38 bs ≡ reference_at offset bs (name_at false bs)

-- the stop at an offset of a text, at a depth
abbrev pub outcome_at : Settings → Heads → ℕ → List ℕ → ℕ → ℕ → Outcome
outcome_at s heads depth text at openings = outcome_of (stop_answer s depth) (token_of (head_at heads text at)) openings

-- a stop other than `&`: the byte that stands for it, and how many bytes it takes up
pub record Blank (heads : Heads) (text : List ℕ) (at : ℕ) (step : Step) : Type 0 where
  pub some : 1 ≤ step.width
  pub inside : at + step.width ≤ length text
  pub next : next_at heads text at ≡ at + step.width
  pub stands_for : (s : Settings) (walked : List ℕ → ℕ → Outcome) (n : ℕ)
      → outcome_of (answer s walked) (token_of (head_at heads text at)) n ≡ done (step.byte ∷ []) n

-- Attribute walk: `amp` gives `&` without asking the table
abbrev pub amp_or : List ℕ → Bound → Bound
amp_or name bound = pick (same_bytes name (97 ∷ 109 ∷ 112 ∷ [])) (predefined (38 ∷ [])) bound

-- the answer of a walk over a replacement text as that of its reference
abbrev pub step_from : ℕ → Answer → Onward
step_from next (Done first second) = Next next first second
step_from next (Refused number first second) = Stopped number first second
