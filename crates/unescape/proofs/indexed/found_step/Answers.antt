-- `found_step`: what the index finds is bound as the table says (`Binding::from`), and the index stays one (`lent_kept`).
use mathlib.Core.Path.{refl}
use Rattle.unescape.proofs.Stops.{named_as}
use Rattle.unescape.proofs.Lending.{lent_kept}
use Rattle.unescape.proofs.indexed.found_step.Goals as goal

pub bound_step-requires : goal.bound_step-requires
bound_step-requires c =
    record { size_bound = c.requires.name_bound; lies = (c.from-bound.ensures c.args.list.now c.args.pool.now c.args.name.now c.find.ensures.refers).1 }

pub returns : goal.returns
returns c =
    let a = c.args in
    record {
      named = named_as a.pool.now a.name.now a.i a.next (c.from-bound.ensures a.list.now a.pool.now a.name.now c.find.ensures.refers).0
          (c.bound_step.ensures a.name.now refl);
      lent = lent_kept a.list.now a.pool.now c.requires.valid_table.1 c.find.ensures.ready;
    }
