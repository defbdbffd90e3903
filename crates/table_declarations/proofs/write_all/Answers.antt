-- `write_all`: what was read once is read again (`written_again`), and the mark and the end stand around the commands (`list_whole`).
use mathlib.Core.Bool.{Bool}
use mathlib.Core.Path.{◌≡◌, sym, ap, ◌∙◌, subst}
use mathlib.Core.List.{List}
use Prim.Native.Nat.{ℕ, ◌≤◌}
use native.Mathlib.Omega.{arith}
use lib.ListN.{length}
use Rattle.table_grammar.specs.EntityDecl.{Entity}
use Rattle.table_grammar.specs.TableWritten.{list_of, pool_of}
use Rattle.table_grammar.proofs.ValidTables.{list_length_lem}
use Rattle.table_declarations.specs.DeclarationSteps.{Counted}
use Rattle.table_declarations.proofs.Outcomes.{written_again, found_same, list_whole, pool_whole, put_inside, set_inside}
use Rattle.table_declarations.proofs.write_all.Goals as goal

-- the mark and the end have room
two : {newer : Bool} {t list pool : List ℕ} {size : ℕ} → Counted newer t size list pool → (2 ≤ size) × (size ≤ length list)
two k = (omega (arith, k.length_is, list_length_lem k.found), k.list_fits)

pub slice_bounds-read_all-count : goal.slice_bounds-read_all-count
slice_bounds-read_all-count c = omega (arith, two c.requires.counted)

pub slice_bounds-read_all-start : goal.slice_bounds-read_all-start
slice_bounds-read_all-start c = omega (arith, two c.requires.counted)

pub bounds-list-0 : goal.bounds-list-0
bounds-list-0 c =
    let k = two c.requires.counted in
    put_inside c.args.list.now c.read_all.new.list (omega (arith, k)) c.read_all.auto.list (omega (arith, k))

pub overflow_sub-list : goal.overflow_sub-list
overflow_sub-list c = omega (arith, two c.requires.counted)

pub bounds-list-size : goal.bounds-list-size
bounds-list-size c =
    let k = two c.requires.counted in
    set_inside c.args.list.now c.read_all.new.list 3 (omega (arith, k)) c.read_all.auto.list (omega (arith, k))

pub returns : goal.returns
returns c =
    λ es e.
    let counted = c.requires.counted in
    let w = written_again es e c.read_all.ensures in
    let same : counted.found ≡ es = found_same (sym counted.is ∙ e) in
    let size = counted.length_is ∙ ap (λ (l : List Entity). length (list_of l)) same in
    let fits = subst (λ (l : List Entity). length (pool_of l) ≤ length c.args.pool.now) same counted.pool_fits in
    (list_whole es c.args.list.now c.read_all.new.list c.args.size size counted.list_fits w.0, pool_whole es c.args.pool.now c.read_all.new.pool fits w.1)
