-- The number of a definition, by the command that binds a name: terms in which code is proved. No promise of a call rests on them.
-- Assumes nothing.
use Rattle.std.specs.Prelude.{ℕ, ◌+◌, ◌*◌, ◌<◌, ◌≡◌, List, length, get_or, drop}
use Rattle.entity.specs.Table.{declarations, declarations_from, commands_check}
use Rattle.entity.specs.Binding.{text, body_bound}
use Rattle.entity.specs.Commands.{command_text}
use Rattle.entity.specs.Steps.{IsDone}
use Rattle.walk_pairs.specs.PairSums.{nth_body}

-- a definition with the text of the command: there are `k` before it
pub record Numbered (list pool : List ℕ) (command k : ℕ) : Type 0 where
  pub there : k < length (declarations list)
  pub gives : body_bound pool (nth_body (declarations list) k) ≡ text (command_text list pool command)

-- what is noted of a command: its offset divided by 6 leaves the slot and r, and 6 k + r + 1 stands there; of the others nothing is said
abbrev pub Numbers : List ℕ → List ℕ → List ℕ → Type 0
Numbers list pool numbers = (slot r k : ℕ) → r < 6 → get_or numbers slot 0 ≡ 6 * k + r + 1 → Numbered list pool (6 * slot + r) k

-- the definition number `k` stands at `at`, or the end of all
pub record Standing (list pool : List ℕ) (k at : ℕ) : Type 0 where
  pub valid : IsDone (commands_check pool at 0 (drop at list))
  pub size : length (declarations list) ≡ k + length (declarations_from 0 (drop at list))
  pub rest : (n : ℕ) → nth_body (declarations list) (k + n) ≡ nth_body (declarations_from 0 (drop at list)) n
  pub wide : 6 * k < at + 1
