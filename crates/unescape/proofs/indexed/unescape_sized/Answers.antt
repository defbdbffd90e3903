use native.Mathlib.Omega.{arith}
use Rattle.unescape.proofs.Lending.{lent_zeros}
use Rattle.unescape.proofs.indexed.unescape_sized.Goals as goal

pub indexed_twice-requires : goal.indexed_twice-requires
indexed_twice-requires k c =
    let zeros = lent_zeros c.args.list.now c.args.pool.now k.row.WORDS (omega (arith, c.requires.words)) (omega (arith, c.requires.words)) in
    record { text_len_bound = c.requires.text_len_bound; valid_table = (c.requires.valid_table, zeros) }
