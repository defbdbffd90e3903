-- The check of a table, one command at a time: the terms in which the code is proved. No promise of a call rests on these.
-- Assumes nothing.
use Rattle.std.specs.Prelude.{◌≡◌, ℕ, suc, ◌+◌, ◌≤◌, List, [], ◌∷◌, length, drop, eqb}
use Rattle.text.specs.Bytes.{pick}
use Rattle.text.specs.Call.{and_then}
use Rattle.text.specs.Answers.{Answer}
use Rattle.text.specs.Answers.{Done, Refused}
use Rattle.entity.specs.Table.{declarations_from, end_check, commands_check, table_check}

-- what a list from `at` on answers where it does not begin with a declaration, after so many of them
unfoldable pub last_check : List ℕ → ℕ → ℕ → Answer
unfolding end_check
last_check [] at count = Refused 7 at 0
last_check (b ∷ bs) at count = pick (eqb b 0) (and_then (end_check bs (suc at)) (Done count 0)) (Refused 7 at 0)

-- the answer of the commands from `at` on, with so many declarations before them
unfoldable pub answer_from : List ℕ → List ℕ → ℕ → ℕ → Answer
unfolding commands_check declarations_from
answer_from list pool at count = and_then (commands_check pool at 0 (drop at list)) (Done (count + length (declarations_from 0 (drop at list))) 0)

-- the check of a table: the answer from here on is the answer
pub record Standing (list pool : List ℕ) (at count : ℕ) : Type 0 where
  pub fits : at ≤ length list
  pub few : count ≤ at
  pub short : length list ≤ 49154
  pub is : answer_from list pool at count ≡ table_check list pool
