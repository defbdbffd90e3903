-- `insert`: no slot of the name is empty (`inserted_vain`), or the first empty one is filled (`inserted_more`).
use Rattle.std.proofs.Common.{◌≡◌, ℕ, ◌+◌, ◌-◌, length, refl, ap, arith}
use Rattle.entity.specs.Commands.{command_name}
use Rattle.table_index.specs.Index.{home_of}
use Rattle.table_index.proofs.Inserting.{home_name, first_vacant, inserted_vain, inserted_more}
use Rattle.table_index.proofs.insert.Goals as goal
use Rattle.table_index.proofs.insert.Goals.{After-home-from}

-- the home is that of the command's name
known : (e : After-home-from) → let a = e.args in e.home-from.result ≡ home_of (length a.index.now) (command_name a.list.now a.pool.now a.at)
known e =
    let a = e.args in
    let end = ap (λ (n : ℕ). e.u32_at-start.result + n) e.from.ensures in
    home_name a.list.now a.pool.now a.at (length a.index.now - 1) e.u32_at-start.ensures.0 end e.hash.ensures.0 e.home-from.ensures.0

pub returns-in_default : goal.returns-in_default
returns-in_default c =
    let a = c.args in
    inserted_vain a.list.now a.pool.now a.at a.index.now (known (goal.at.returns-in_default c).After-home-from) (c.in_default.ensures) refl

pub fill-requires : goal.fill-requires
fill-requires c =
    let first = c.in-Some.ensures in
    record { s_bound = (omega (arith, c.home-from.ensures.1, first.0), c.requires.at_bound.1.large); at_bound = (c.requires.at_bound.0, first_vacant first.1 first.0 (omega arith)) }

pub returns : goal.returns
returns c =
    let a = c.args in
    let first = c.in-Some.ensures in
    inserted_more a.list.now a.pool.now a.at a.index.now (known (goal.at.returns c).After-home-from) first.1 first.0 refl c.fill.ensures.filled_at c.fill.ensures.index_len_unchanged
