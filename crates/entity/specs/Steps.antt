-- Commands and lookup, one command at a time: the terms in which the code is proved. No promise of a call rests on these.
-- Assumes nothing.
use Rattle.std.specs.Prelude.{◌≡◌, ◌≢◌, ℕ, suc, ◌+◌, ◌≤◌, ◌<◌, List, length, get_or, drop, ltb}
use Rattle.text.specs.Bytes.{pick}
use Rattle.text.specs.Call.{passed}
use Rattle.text.specs.Answers.{Answer}
use Rattle.text.specs.Answers.{Done, Refused}
use Rattle.entity.specs.declared.Binding.{Binding}
use Rattle.entity.specs.declared.Binding.TheVariants.{Text, Predefined, External, Unknown}
use Rattle.entity.specs.declared.Referent.{Referent}
use Rattle.entity.specs.declared.Referent.TheVariants.{Text as Inside, Predefined as Plain, External as Outside, Unknown as Nothing}
use Rattle.entity.specs.Table.{little_endian, Declaration, declaration, operands, declarations_from, declaration_check, commands_check}
use Rattle.entity.specs.Binding.{binding_in, binding}

-- the width of a command
unfoldable pub command_size : ℕ → ℕ
unfolding operands
command_size b = suc (operands b)

-- the declaration of the command at `at`
unfoldable pub declaration_at : List ℕ → ℕ → Declaration
unfolding declaration
declaration_at list at = declaration (get_or list at 0) (drop (at + 1) list)

-- refusals 7 (cut operands), 8 and 9 of the command at `at`
unfoldable pub command_check : List ℕ → List ℕ → ℕ → Answer
unfolding declaration_check declaration_at command_size
command_check list pool at =
    pick (ltb (length list) (at + command_size (get_or list at 0))) (Refused 7 at 0) (declaration_check pool at (declaration_at list at) passed)

-- the text of the command 1 at `at`, as start and end
abbrev pub TextAt : List ℕ → ℕ → Binding → Type 0
TextAt list at (Text start end) = (start ≡ little_endian list (at + 6) 4) × (end ≡ start + little_endian list (at + 10) 2) × (end ≤ start + 65535)
TextAt list at (Predefined b) = ⊥
TextAt list at External = ⊥
TextAt list at Unknown = ⊥

-- what the command at `at` gives its name
abbrev pub ReferentAt : List ℕ → ℕ → Referent → Type 0
ReferentAt list at (Inside command start end) =
    (get_or list at 0 ≡ 1) × (command ≡ at) × (start ≡ little_endian list (at + 6) 4) × (end ≡ start + little_endian list (at + 10) 2) × (end ≤ start + 65535)
ReferentAt list at (Plain b) = ⊥
ReferentAt list at Outside = get_or list at 0 ≢ 1
ReferentAt list at Nothing = ⊥

-- the first bytes from `start` on are those of the name
pub record Agree (pool : List ℕ) (start : ℕ) (name : List ℕ) (count : ℕ) : Type 0 where
  pub fits : count ≤ length name
  pub agree : (k : ℕ) → k < count → get_or pool (start + k) 0 ≡ get_or name k 0

-- ---- where a lookup stands

-- an answer that refuses nothing
abbrev pub IsDone : Answer → Type 0
IsDone (Done first second) = Unit {0}
IsDone (Refused number first second) = ⊥

-- a lookup: the table is valid from here on, and the answer from here on is the answer
pub record Here (list pool name : List ℕ) (at : ℕ) : Type 0 where
  pub valid : IsDone (commands_check pool at 0 (drop at list))
  pub is : binding_in (declarations_from 0 (drop at list)) pool name ≡ binding list pool name
