-- `beyond` tells a `<`, which is 22, from any other character, which is 21 (`beyond_open`, `beyond_other`).
use mathlib.Core.Path.{refl}
use native.Mathlib.Omega.{arith}
use Rattle.table_declarations.proofs.Definitions.{beyond_open, beyond_other}
use Rattle.table_declarations.proofs.beyond.Goals as goal

pub returns-then-text-i-eq60 : goal.returns-then-text-i-eq60
returns-then-text-i-eq60 c = (λ newer. beyond_open newer c.args.text.now c.args.i c.requires c.if-text-i-eq60.true, λ old. (omega (arith, c.requires), refl))

pub returns : goal.returns
returns c = (λ newer. beyond_other newer c.args.text.now c.args.i c.requires c.if-text-i-eq60.false, λ old. (omega (arith, c.requires), refl))
