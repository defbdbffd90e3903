-- UTF-8 by blocks: the terms in which the fast code is proved equal to the definition. No promise of a call rests on these.
-- Assumes nothing.
use Rattle.std.specs.Prelude.{ℕ, ◌+◌, ◌-◌, ◌*◌, ◌≤◌, ◌<◌, ◌≡◌, Bool, false, not, ◌&&◌, ◌||◌, List, eqb, leb, ltb, length, take, drop, get_or}
use Rattle.std.specs.Bool.{beq}
use Rattle.text.specs.Bytes.{pick, within}
use Rattle.text.specs.Utf8.{State, between, one, two, broken, first, next, is_between, WellFormed, utf8_end}
use Rattle.text.specs.declared.validate.Lead.{Lead}

-- the first `end` bytes are there, and are whole characters
pub record Prefix (text : List ℕ) (end : ℕ) : Type 0 where
  pub fits : end ≤ length text
  pub whole : WellFormed (take end text)

-- the `count` bytes from `i` on are there, and are whole characters
pub record Whole (text : List ℕ) (i count : ℕ) : Type 0 where
  pub fits : i + count ≤ length text
  pub whole : WellFormed (take count (drop i text))

-- the same of one character; where there is none, nothing from `i` on is well-formed
pub record Character (text : List ℕ) (i width : ℕ) : Type 0 where
  pub is : Whole text i width
  pub none : width ≡ 0 → utf8_end (drop i text) ≡ 0

-- each of the `count` bytes from `i` on is at most `top`
pub record AtMost (text : List ℕ) (i count top : ℕ) : Type 0 where
  pub at_most : (k : ℕ) → k < count → get_or text (i + k) 0 ≤ top

-- the bytes from `i` to `end` are there, and are ASCII
pub record AsciiRun (text : List ℕ) (i end : ℕ) : Type 0 where
  pub from : i ≤ end
  pub fits : end ≤ length text
  pub low : AtMost text i (end - i) 0x7F

-- the first `end` bytes are there, and are ASCII
pub record Ascii (text : List ℕ) (end : ℕ) : Type 0 where
  pub fits : end ≤ length text
  pub low : (k : ℕ) → k < end → get_or text k 0 ≤ 0x7F

-- the eight bytes from `i` on as one number, the first the lowest
abbrev pub word_at : List ℕ → ℕ → ℕ
word_at text i =
    get_or text i 0 + get_or text (i + 1) 0 * 0x100 + get_or text (i + 2) 0 * 0x10000 + get_or text (i + 3) 0 * 0x1000000
    + get_or text (i + 4) 0 * 0x100000000 + get_or text (i + 5) 0 * 0x10000000000 + get_or text (i + 6) 0 * 0x1000000000000
    + get_or text (i + 7) 0 * 0x100000000000000

-- what a character of that width wants after its second byte
abbrev pub wanted : ℕ → State
wanted width = pick (eqb width 2) between (pick (eqb width 3) one two)

-- what the first byte of a character of more than one byte tells: its width, and the range of its second byte
pub record Leads (b : ℕ) (l : Lead) : Type 0 where
  pub none : l.width ≡ 0 → first b ≡ broken
  pub inner : is_between (first b) ≡ false
  pub second : (l.width ≡ 0 → ⊥) → (s : ℕ) → next (first b) s ≡ pick (within l.low l.high s) (wanted l.width) broken
  pub narrow : (l.width ≡ 0 → ⊥) → (2 ≤ l.width) × (l.width ≤ 4)

-- where a reader stands after these three bytes, by the first bytes of characters among them
unfoldable pub trail : ℕ → ℕ → ℕ → State
unfolding first
trail p3 p2 p1 =
    pick (leb 0xC0 p1) (first p1)
    (pick (leb 0xE0 p2) (pick (leb 0xF0 p2) two one)
    (pick (leb 0xF0 p3) one between))

-- after the three bytes the next one breaks a character, or the byte before it starts none
unfoldable pub misfit : ℕ → ℕ → ℕ → ℕ → Bool
misfit p3 p2 p1 b =
    not (beq (leb 0xC0 p1 || leb 0xE0 p2 || leb 0xF0 p3) (leb 0x80 b && ltb b 0xC0))
    || eqb p1 0xC0
    || eqb p1 0xC1
    || leb 0xF5 p1
    || (eqb p1 0xE0 && ltb b 0xA0)
    || (eqb p1 0xED && leb 0xA0 b)
    || (eqb p1 0xF0 && ltb b 0x90)
    || (eqb p1 0xF4 && leb 0x90 b)

-- the same where no byte before it is F0 or more
unfoldable pub misfit3 : ℕ → ℕ → ℕ → Bool
misfit3 p2 p1 b =
    not (beq (leb 0xC0 p1 || leb 0xE0 p2) (leb 0x80 b && ltb b 0xC0))
    || eqb p1 0xC0
    || eqb p1 0xC1
    || (eqb p1 0xE0 && ltb b 0xA0)
    || (eqb p1 0xED && leb 0xA0 b)

-- the same where no byte before it is E0 or more
unfoldable pub misfit2 : ℕ → ℕ → Bool
misfit2 p1 b = not (beq (leb 0xC0 p1) (leb 0x80 b && ltb b 0xC0)) || eqb p1 0xC0 || eqb p1 0xC1

-- each of the first `count` bytes from `j + 3` on fits after the three before it
pub record Fitting (text : List ℕ) (j count : ℕ) : Type 0 where
  pub fit : (k : ℕ) → k < count → misfit (get_or text (j + k) 0) (get_or text (j + k + 1) 0) (get_or text (j + k + 2) 0) (get_or text (j + k + 3) 0) ≡ false

-- no character goes on after the three bytes from `j` on
pub record Edge (text : List ℕ) (j : ℕ) : Type 0 where
  pub third : get_or text j 0 < 0xF0
  pub second : get_or text (j + 1) 0 < 0xE0
  pub last : get_or text (j + 2) 0 < 0xC0
