-- Trims and CDATA by blocks: the terms in which the fast code is proved equal to the definitions. No promise of a call rests on these.
-- Assumes nothing.
use Rattle.std.specs.Prelude.{ℕ, ◌+◌, ◌-◌, ◌≤◌, ◌<◌, ◌≡◌, Bool, true, false, ◌&&◌, List, reverse, length, take, drop, get_or, eqb}
use Rattle.utils.specs.Trim.{is_whitespace, blanks}
use Rattle.utils.specs.CData.{first_cut}

-- each of the `count` bytes from `i` on is white space
pub record Blank (text : List ℕ) (i count : ℕ) : Type 0 where
  pub blank : (k : ℕ) → k < count → is_whitespace (get_or text (i + k) 0) ≡ true

-- the bytes before `i` are white space
pub record Skipped (text : List ℕ) (i : ℕ) : Type 0 where
  pub fits : i ≤ length text
  pub same : i + blanks (drop i text) ≡ blanks text

-- the length of the first `end` bytes without the white space at their end
abbrev pub kept : List ℕ → ℕ → ℕ
kept text end = end - blanks (reverse (take end text))

-- the bytes from `end` on are white space
pub record Dropped (text : List ℕ) (end : ℕ) : Type 0 where
  pub fits : end ≤ length text
  pub same : kept text end ≡ length text - blanks (reverse text)

-- `]]>` stands at `i`
unfoldable pub closes_at : List ℕ → ℕ → Bool
closes_at text i = eqb (get_or text i 0) 93 && eqb (get_or text (i + 1) 0) 93 && eqb (get_or text (i + 2) 0) 62

-- it stands at none of the `count` bytes from `i` on
pub record Clear (text : List ℕ) (i count : ℕ) : Type 0 where
  pub clear : (k : ℕ) → k < count → closes_at text (i + k) ≡ false

-- the piece that starts at `from` goes on at least to `i`
pub record Passed (text : List ℕ) (from i : ℕ) : Type 0 where
  pub fits : i ≤ length text
  pub on : from + first_cut (drop from text) ≡ i + first_cut (drop i text)
