-- `utf8_end` hands a prefix of whole characters from stage to stage; the last says that no longer one is well-formed.
use native.Mathlib.Omega.{arith}
use Prim.Native.Nat.{zero-le}
use Rattle.text.proofs.Blocks.{run_prefix}
use Rattle.text.proofs.Longest.{none_prefix, end_all}
use Rattle.text.proofs.validate.utf8_end.Goals as goal

pub last_chars-requires : goal.last_chars-requires
last_chars-requires c = none_prefix _

pub returns-then-text-lt8 : goal.returns-then-text-lt8
returns-then-text-lt8 c = c.last_chars.ensures

pub ascii_blocks-far-requires : goal.ascii_blocks-far-requires
ascii_blocks-far-requires c = record { inside = zero-le; words_nonzero = omega arith }

pub returns-then-far-text : goal.returns-then-far-text
returns-then-far-text c = end_all _ _ (run_prefix _ 0 _ (none_prefix _) c.ascii_blocks-far.ensures) (omega (arith, c.if-far-text.true))

pub ascii_blocks-near-requires : goal.ascii_blocks-near-requires
ascii_blocks-near-requires c = record { inside = c.ascii_blocks-far.ensures.fits; words_nonzero = omega arith }

pub skip_blocks-blocks-requires : goal.skip_blocks-blocks-requires
skip_blocks-blocks-requires c =
    let t = c.args.text.now in
    run_prefix t _ _ (run_prefix t 0 _ (none_prefix t) c.ascii_blocks-far.ensures) c.ascii_blocks-near.ensures

pub ascii_blocks-words-requires : goal.ascii_blocks-words-requires
ascii_blocks-words-requires c = record { inside = c.skip_blocks-blocks.ensures.fits; words_nonzero = omega arith }

pub last_word-requires : goal.last_word-requires
last_word-requires c = run_prefix c.args.text.now _ _ c.skip_blocks-blocks.ensures c.ascii_blocks-words.ensures

pub last_chars-requires-2 : goal.last_chars-requires-2
last_chars-requires-2 c = c.last_word.ensures

pub returns : goal.returns
returns c = c.last_chars-2.ensures
