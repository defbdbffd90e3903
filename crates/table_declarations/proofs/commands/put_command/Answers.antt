-- `put_command` writes the twelve bytes of the definition, of which two operands are taken from what `to_le_bytes` gives.
use Rattle.std.proofs.Common.{◌∷◌, [], ◌/◌, ◌%◌, get_or, List, ℕ}
use mathlib.Core.Path.{ap₂, ◌∙◌}
use Rattle.output.specs.Over.{over}
use Rattle.table_grammar.specs.TableWritten.{command_at}
use Rattle.table_declarations.proofs.commands.put_command.Goals as goal

abbrev bytes : ℕ → ℕ → List ℕ → List ℕ → List ℕ
bytes name value s t =
    1 ∷ get_or s 0 0 ∷ get_or s 1 0 ∷ get_or s 2 0 ∷ get_or s 3 0 ∷ name % 256
    ∷ get_or t 0 0 ∷ get_or t 1 0 ∷ get_or t 2 0 ∷ get_or t 3 0 ∷ value % 256 ∷ value / 256 % 256 ∷ []

pub returns : goal.returns
unfolding command_at
returns c =
    c.put_over.ensures
    ∙ ap₂ (λ (s t : List ℕ). over (bytes c.args.name c.args.value s t) c.args.out.now) c.to_le_bytes.ensures c.to_le_bytes-2.ensures
