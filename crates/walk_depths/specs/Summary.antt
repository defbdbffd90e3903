-- What is known of a text by its outcomes at every depth: terms in which code is proved. No promise of a call rests on them. Assumes nothing.
use Rattle.std.specs.Prelude.{ℕ, ◌+◌, ◌≤◌, ◌<◌, ◌≡◌, true, List, length}
use Rattle.tokens.specs.Outcome.{Outcome, done, refused}
use Rattle.attribute.specs.Walk.{Settings}
use Rattle.memory.specs.Slots.{opening}
use Rattle.walk_depths.specs.LeastDepth.{used_up}

-- from `d` on, which the allowance reaches, it is done with `m` openings and `len` bytes; at every smaller depth the depth is used up
pub record Enough (allowance d m len : ℕ) (o : ℕ → Outcome) : Type 0 where
  pub within : d ≤ allowance
  pub value : List ℕ
  pub size : length value ≡ len
  pub from : (e : ℕ) → d ≤ e → o e ≡ done value m
  pub below : (e : ℕ) → e < d → used_up (o e) ≡ true

-- it is refused so
pub record Refusal (number first second : ℕ) (o : Outcome) : Type 0 where
  pub before : List ℕ
  pub made : ℕ
  pub is : o ≡ refused before made number first second

-- what is kept of a text: `least` is the least depth of a text that refers to it, `opened` its openings with its own
pub record Known (s : Settings) (t : List ℕ) (least len opened : ℕ) : Type 0 where
  pub value : List ℕ
  pub size : length value ≡ len
  pub some : 1 ≤ opened
  pub few : opened ≤ s.limit
  pub from : (e m : ℕ) → least ≤ e → m + opened ≤ s.limit → opening s e t m ≡ done value (m + opened)
  pub below : (e m : ℕ) → 1 ≤ e → e < least → m + opened ≤ s.limit → used_up (opening s e t m) ≡ true
