-- Halts: the stops that are no single blank. Where the depth is not used up, all between two halts is written byte by byte, TAB and LF
-- as spaces. The terms in which searches and copies are proved. No promise of a call rests on them; theorems of K4 and K9 rest on `stop_byte`
-- and `any_stop`. Assumes nothing.
use Rattle.std.specs.Prelude.{ℕ, ◌+◌, ◌≤◌, ◌<◌, ◌≡◌, Bool, true, false, ◌&&◌, ◌||◌, List, [], ◌∷◌, eqb, length, take, drop}
use Rattle.text.specs.Bytes.{pick, begins}
use Rattle.text.specs.Call.{laid}
use Rattle.output.specs.Runs.{either_byte}

-- ---- where a run ends

-- `&`, CR, and under 1.1 U+0085 and U+2028, at the head of a text
abbrev pub halts : Bool → List ℕ → Bool
halts newer [] = false
halts newer (b ∷ bs) =
    eqb b 38 || eqb b 13 || (newer && (begins (0xC2 ∷ 0x85 ∷ []) (b ∷ bs) || begins (0xE2 ∷ 0x80 ∷ 0xA8 ∷ []) (b ∷ bs)))

-- no halt starts from `i` up to `e`
pub record Smooth (newer : Bool) (text : List ℕ) (i e : ℕ) : Type 0 where
  pub from : i ≤ e
  pub to : e ≤ length text
  pub none : (k : ℕ) → i ≤ k → k < e → halts newer (drop k text) ≡ false

-- `e` is the first halt from `i` on, or the text's end
pub record HaltAt (newer : Bool) (text : List ℕ) (i e : ℕ) : Type 0 where
  pub smooth : Smooth newer text i e
  pub ends : e < length text → halts newer (drop e text) ≡ true

-- the bytes with which a halt may start; under 1.0 each of them is one
abbrev pub suspect_byte : Bool → ℕ → Bool
suspect_byte false b = either_byte 38 13 b
suspect_byte true b = either_byte 38 13 b || either_byte 0xC2 0xE2 b

-- ---- is there any

-- a byte of the text passes the test
abbrev pub any_stop : (ℕ → Bool) → List ℕ → Bool
any_stop stop [] = false
any_stop stop (b ∷ bs) = stop b || any_stop stop bs

-- Attribute walk: stop bytes TAB, LF, CR, `&`; for 1.1 also C2 and E2
abbrev pub stop_byte : Bool → ℕ → Bool
stop_byte newer b = eqb b 9 || eqb b 10 || eqb b 13 || eqb b 38 || (newer && (eqb b 0xC2 || eqb b 0xE2))

-- ---- what is written for a run

-- a space for TAB and LF
abbrev pub spaced : ℕ → ℕ
spaced b = pick (eqb b 9 || eqb b 10) 32 b

abbrev pub blanks_spaced : List ℕ → List ℕ
blanks_spaced [] = []
blanks_spaced (b ∷ bs) = spaced b ∷ blanks_spaced bs

-- the first i bytes of a run are laid over the output
pub record Laying (src old out : List ℕ) (i : ℕ) : Type 0 where
  pub holds : out ≡ laid (take i (blanks_spaced src)) old
  pub size : length out ≡ length old

-- after a piece of `size` bytes from `from` on: what was laid up to a place in the piece is laid up to its end
abbrev pub PieceLaid : List ℕ → ℕ → ℕ → List ℕ → List ℕ → Type 0
PieceLaid src from size before after =
    (old : List ℕ) (m : ℕ) → from ≤ m → m ≤ from + size → Laying src old before m → Laying src old after (from + size)

-- a run that two pieces of `size` bytes cover, its first and its last, and an output with room for it
pub record TwoPieces (src out : List ℕ) (size : ℕ) : Type 0 where
  pub reaches : size ≤ length src
  pub covers : length src ≤ size + size
  pub room : length src ≤ length out
