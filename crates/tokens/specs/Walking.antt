-- Heads, names and steps: the terms in which the walks over tokens are proved. Assumes nothing.
use Rattle.std.specs.Prelude.{ℕ, ◌+◌, ◌-◌, ◌≤◌, ◌<◌, ◌≡◌, Bool, false, List, [], ◌∷◌, length, get_or, take, drop, Result, Ok, Err}
use Rattle.text.specs.Answers.{Answer}
use Rattle.output.specs.Over.{over}
use Rattle.tokens.specs.Tokens.{Stop, Token, copy, stop, barred, Head, head, Heads, skip_of, ended, endless, name_at}
use Rattle.tokens.specs.Outcome.{Outcome, done, refused, produced, answer_of, answer_in, left_in}
use Rattle.text.specs.Refusals.{number_of, first_of, second_of}
use Rattle.text.specs.declared.refusals.Refusal.{Refusal}
use Rattle.text.specs.declared.refusals.Refusal.TheVariants.{NoScratch, NoRoom}
use Rattle.text.specs.declared.refusals.Refusal.TheVariants as refusal
use Rattle.tokens.specs.declared.Next.{Next as Onward}
use Rattle.tokens.specs.declared.Buffer.{Buffer}
use Rattle.tokens.specs.declared.Buffer.TheVariants.{Scratch, Output, Numbered}

-- the stop test fits the reading of heads: any other byte is copied
abbrev pub Copies : (ℕ → Bool) → Heads → Type 0
Copies stops at = (offset b : ℕ) (bs : List ℕ) → stops b ≡ false → at offset b bs ≡ head (copy b) 0

-- the name that starts at `i` ends at `e`, or at the text's length where nothing ends it
pub record NameEnd (inner : Bool) (text : List ℕ) (i e : ℕ) : Type 0 where
  pub from : i ≤ e
  pub to : e ≤ length text
  pub semicolon : e < length text → get_or text e 0 ≡ 59
  pub name : e < length text → name_at inner (drop i text) ≡ ended (take (e - i) (drop i text))
  pub none : e ≡ length text → name_at inner (drop i text) ≡ endless

-- the head at an offset of a text
abbrev pub head_at : Heads → List ℕ → ℕ → Head
head_at at text i = at i (get_or text i 0) (drop (i + 1) text)

-- the offset of the token after it
abbrev pub next_at : Heads → List ℕ → ℕ → ℕ
next_at at text i = i + 1 + skip_of (head_at at text i)

-- what becomes of one token
abbrev pub outcome_of : (Stop → ℕ → Outcome) → Token → ℕ → Outcome
outcome_of answer (copy b) openings = done (b ∷ []) openings
outcome_of answer (stop s) openings = answer s openings
outcome_of answer (barred offset) openings = refused [] openings 26 offset 0

-- a single step: the next offset, the length written and the openings; or the refusal
pub data Step : Type 0 where
  Next : ℕ → ℕ → ℕ → Step
  Stopped : ℕ → ℕ → ℕ → Step

-- the code's step
abbrev pub stepped : Result Onward Refusal → Step
stepped (Ok next) = Next next.at next.len next.openings
stepped (Err refusal) = Stopped (number_of refusal) (first_of refusal) (second_of refusal)

abbrev pub step_of : ℕ → Outcome → Step
step_of next (done value openings) = Next next (length value) openings
step_of next (refused before openings number first second) = Stopped number first second

-- a single step answers and writes what the outcome says
pub record Stepped (next : ℕ) (o : Outcome) (old new : List ℕ) (r : Step) : Type 0 where
  pub answers : r ≡ step_of next o
  pub writes : new ≡ over (produced o) old

-- and so does a whole walk
pub record Walked (o : Outcome) (old new : List ℕ) (r : Answer) : Type 0 where
  pub answers : r ≡ answer_of o
  pub writes : new ≡ over (produced o) old

-- and a walk whose value goes to a buffer: the answer, and what the buffer holds at the end
abbrev pub Ended : ℕ → Outcome → List ℕ → List ℕ → Answer → Type 0
Ended short o out last r = (r ≡ answer_in short o out) × (last ≡ left_in o out)

-- Refusals by place, 18 and 19, or a number of the caller's: the refusal of a buffer that is too short, and its number
abbrev pub too_short : Buffer → ℕ → Refusal
too_short Scratch needed = NoScratch needed
too_short Output needed = NoRoom needed
too_short (Numbered number) needed = refusal.Numbered number needed 0

abbrev pub short_of : Buffer → ℕ
short_of Scratch = 18
short_of Output = 19
short_of (Numbered number) = number
