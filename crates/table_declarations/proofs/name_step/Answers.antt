-- `name_step`: no name (`declared_none`), no white space after it (`declared_bare`), too long a name (`declared_long`), else it is written.
use Prim.Native.Nat.{◌<◌}
use native.Mathlib.Omega.{arith}
use Rattle.table_names.proofs.NamesPast.{NameAt, name_past}
use Rattle.table_declarations.proofs.DeclaredNames.{declared_none, declared_bare, declared_long, declared_done}
use Rattle.table_declarations.proofs.name_step.Goals as goal
use Rattle.table_declarations.proofs.name_step.Goals.{After-name_end-end, Else-end-from}

named : (c : After-name_end-end) → NameAt c.args.newer c.args.text.now c.args.from c.name_end-end.result
named c = name_past _ _ _ _ c.requires.0 c.name_end-end.ensures.1

some : (c : Else-end-from) → c.args.from < c.name_end-end.result
some c = omega (arith, c.name_end-end.ensures.1, c.if-end-from.false)

pub returns-then-end-from : goal.returns-then-end-from
returns-then-end-from c =
    declared_none (named (goal.at.returns-then-end-from c).After-name_end-end) c.args.out.now c.if-end-from.true

pub returns-then-at-end : goal.returns-then-at-end
returns-then-at-end c =
    let at = goal.at.returns-then-at-end c in
    declared_bare (named at.After-name_end-end) (some at.Else-end-from) c.args.out.now c.space_end-at.ensures c.if-at-end.true

pub returns-then-len-gt255 : goal.returns-then-len-gt255
returns-then-len-gt255 c =
    let at = goal.at.returns-then-len-gt255 c in
    declared_long (named at.After-name_end-end) (some at.Else-end-from) c.args.out.now c.space_end-at.ensures c.if-at-end.false c.if-len-gt255.true

pub returns : goal.returns
returns c =
    let at = goal.at.returns c in
    declared_done (named at.After-name_end-end) (some at.Else-end-from) c.args.out.now c.space_end-at.ensures
    c.if-at-end.false c.if-len-gt255.false c.put_over.ensures
