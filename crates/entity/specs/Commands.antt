-- A command of the table that binds its name: the terms in which a lookup that answers with the command is proved. Assumes nothing.
use Rattle.std.specs.Prelude.{ℕ, ◌+◌, ◌≤◌, ◌<◌, ◌≡◌, true, List, [], ◌∷◌, length, get_or}
use Rattle.text.specs.Bytes.{same_bytes}
use Rattle.entity.specs.Table.{little_endian, part}
use Rattle.entity.specs.Binding.{text, predefined, external, unknown, predefined_of, binding}
use Rattle.entity.specs.declared.Referent.{Referent}
use Rattle.entity.specs.declared.Referent.TheVariants.{Text, Predefined, External, Unknown}

-- the name of the command at an offset of the list, and the text of a command 1
abbrev pub command_name : List ℕ → List ℕ → ℕ → List ℕ
command_name list pool c = part pool (little_endian list (c + 1) 4) (get_or list (c + 5) 0)

abbrev pub command_text : List ℕ → List ℕ → ℕ → List ℕ
command_text list pool c = part pool (little_endian list (c + 6) 4) (little_endian list (c + 10) 2)

-- a command 1 that no command before it hides: its name is bound to its text; its operands are there, and both lie in the pool
pub record Defines (list pool : List ℕ) (c : ℕ) : Type 0 where
  pub fits : c + 12 ≤ length list
  pub name : little_endian list (c + 1) 4 + get_or list (c + 5) 0 ≤ length pool
  pub inside : little_endian list (c + 6) 4 + little_endian list (c + 10) 2 ≤ length pool
  pub short : little_endian list (c + 10) 2 ≤ 65535
  pub binds : binding list pool (command_name list pool c) ≡ text (command_text list pool c)

-- the table has no definition of the predefined name that stands for the byte
abbrev pub Unhidden : List ℕ → List ℕ → ℕ → Type 0
Unhidden list pool b = (name : List ℕ) → predefined_of name ≡ predefined (b ∷ []) → binding list pool name ≡ predefined (b ∷ [])

-- what a name refers to: the command that binds it, with its text's start and end; or a predefined byte; or an
-- external entity; or nothing
pub record RefersTo (list pool name : List ℕ) (command start end : ℕ) : Type 0 where
  pub defines : Defines list pool command
  pub same : same_bytes (command_name list pool command) name ≡ true
  pub starts : start ≡ little_endian list (command + 6) 4
  pub ends : end ≡ start + little_endian list (command + 10) 2

abbrev pub Refers : List ℕ → List ℕ → List ℕ → Referent → Type 0
Refers list pool name (Text command start end) = RefersTo list pool name command start end
Refers list pool name (Predefined b) = (b < 128) × (predefined_of name ≡ predefined (b ∷ [])) × (binding list pool name ≡ predefined (b ∷ []))
Refers list pool name External = binding list pool name ≡ external
Refers list pool name Unknown = binding list pool name ≡ unknown
