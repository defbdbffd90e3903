-- `charref::utf8_length` counts the bytes: in each branch `encode` computes by the tests that led there. Assumes nothing.
use borrow.Author.Tests.{lt-ltb, le-ltb}
use Rattle.charref.specs.CharRef.{encode}
use Rattle.charref.proofs.utf8_length.Goals as goal

pub returns-then-n-lt128 : goal.returns-then-n-lt128
unfolding encode
returns-then-n-lt128 c = simp (lt-ltb _ _ c.if-n-lt128.true)

pub returns-then-n-lt2048 : goal.returns-then-n-lt2048
unfolding encode
returns-then-n-lt2048 c = simp (le-ltb _ _ c.if-n-lt128.false, lt-ltb _ _ c.if-n-lt2048.true)

pub returns-then-n-lt65536 : goal.returns-then-n-lt65536
unfolding encode
returns-then-n-lt65536 c = simp (le-ltb _ _ c.if-n-lt128.false, le-ltb _ _ c.if-n-lt2048.false, lt-ltb _ _ c.if-n-lt65536.true)

pub returns : goal.returns
unfolding encode
returns c = simp (le-ltb _ _ c.if-n-lt128.false, le-ltb _ _ c.if-n-lt2048.false, le-ltb _ _ c.if-n-lt65536.false)
