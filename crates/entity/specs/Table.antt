-- The entity table: a command list and a pool of bytes (document 01, Entity table and Refusals by place; document 02, K4 and K9).
-- Assumes nothing.
use Rattle.std.specs.Prelude.{ℕ, zero, suc, ◌+◌, ◌*◌, ◌≡◌, Bool, false, ◌||◌, not, List, [], ◌∷◌, length, get_or, take, drop, eqb, ltb}
use Rattle.text.specs.Bytes.{pick}
use Rattle.text.specs.Utf8.{well_formed}
use Rattle.text.specs.Call.{and_then, passed}
use Rattle.text.specs.Answers.{Answer}
use Rattle.text.specs.Answers.{Done, Refused}

-- Entity table: operands of fixed width, little-endian; `width` bytes from `at` on
unfoldable pub little_endian : List ℕ → ℕ → ℕ → ℕ
little_endian bytes at zero = 0
little_endian bytes at (suc width) = get_or bytes at 0 + 256 * little_endian bytes (suc at) width

-- Entity table: starts are into the pool; `size` bytes of it from `start` on
unfoldable pub part : List ℕ → ℕ → ℕ → List ℕ
part pool start size = take size (drop start pool)

-- Entity table: what a declaration gives its name, start and length of a text in the pool; K9: or that the entity is external
pub data Body : Type 0 where
  inside : ℕ → ℕ → Body
  outside : Body

pub record Declaration : Type 0 where
  pub name_start : ℕ
  pub name_length : ℕ
  pub body : Body

-- document 02, K4: a list that starts with command 3 is marked: its texts are past line ends
unfoldable pub marked : List ℕ → Bool
marked [] = false
marked (b ∷ bs) = eqb b 3

-- K4: the mark takes up one byte
unfoldable pub mark_size : List ℕ → ℕ
unfolding marked
mark_size list = pick (marked list) 1 0

-- Entity table and K9: commands 1 and 2 declare a name
unfoldable pub declares : ℕ → Bool
declares b = eqb b 1 || eqb b 2

-- Entity table: name start u32, name length u8, text start u32, text length u16, after the command's byte; K9: command 2 has no text
unfoldable pub declaration : ℕ → List ℕ → Declaration
unfolding little_endian
declaration b bs =
    record {
      name_start = little_endian bs 0 4;
      name_length = little_endian bs 4 1;
      body = pick (eqb b 1) (inside (little_endian bs 5 4) (little_endian bs 9 2)) outside;
    }

-- Entity table and K9: the width of the operands of command 1, of command 2
unfoldable pub operands : ℕ → ℕ
operands b = pick (eqb b 1) 11 5

unfoldable pub name_of : List ℕ → Declaration → List ℕ
unfolding part
name_of pool d = part pool d.name_start d.name_length

unfoldable pub text_of : List ℕ → Body → List ℕ
unfolding part
text_of pool (inside start size) = part pool start size
text_of pool outside = []

-- Entity table and K9: each command 1 or 2 up to the first other byte
unfoldable pub declarations_from : ℕ → List ℕ → List Declaration
unfolding declaration declares operands
declarations_from skip [] = []
declarations_from (suc skip) (b ∷ bs) = declarations_from skip bs
declarations_from zero (b ∷ bs) = let rest = declarations_from (operands b) bs in pick (declares b) (declaration b bs ∷ rest) []

-- Entity table: the declarations of a list; K4: after its mark
unfoldable pub declarations : List ℕ → List Declaration
unfolding declarations_from mark_size
declarations list = declarations_from (mark_size list) list

-- refusal 8: start plus length of name or text past the pool
unfoldable pub body_past : List ℕ → Body → Bool
body_past pool (inside start size) = ltb (length pool) (start + size)
body_past pool outside = false

unfoldable pub runs_past : List ℕ → Declaration → Bool
unfolding body_past
runs_past pool d = ltb (length pool) (d.name_start + d.name_length) || body_past pool d.body

-- refusal 9: name empty, name or text not UTF-8
unfoldable pub ill_formed : List ℕ → Declaration → Bool
unfolding name_of text_of well_formed
ill_formed pool d = eqb d.name_length 0 || not (well_formed (name_of pool d)) || not (well_formed (text_of pool d.body))

-- refusals 8 and 9 of the command at the offset, then the commands after it
unfoldable pub declaration_check : List ℕ → ℕ → Declaration → Answer → Answer
unfolding runs_past ill_formed
declaration_check pool offset d rest = pick (runs_past pool d) (Refused 8 offset 0) (pick (ill_formed pool d) (Refused 9 offset 0) rest)

-- Entity table: the end is the last byte of the list
unfoldable pub end_check : List ℕ → ℕ → Answer
end_check [] offset = passed
end_check (b ∷ bs) offset = Refused 7 offset 0

-- refusals 7 to 9, command by command, from the byte at the offset on after `skip` bytes
unfoldable pub commands_check : List ℕ → ℕ → ℕ → List ℕ → Answer
unfolding declaration_check declaration declares operands end_check
commands_check pool offset skip [] = Refused 7 offset 0
commands_check pool offset (suc skip) (b ∷ bs) = commands_check pool (suc offset) skip bs
commands_check pool offset zero (b ∷ bs) =
    let rest = commands_check pool (suc offset) (operands b) bs in
    pick (eqb b 0) (end_check bs (suc offset))
    (pick (declares b) (pick (ltb (length bs) (operands b)) (Refused 7 offset 0) (declaration_check pool offset (declaration b bs) rest))
    (Refused 7 offset 0))

-- refusal 6: list over 49,154 (K4) or pool over 1,048,576 bytes
unfoldable pub size_check : List ℕ → List ℕ → Answer
size_check list pool = pick (ltb 49154 (length list) || ltb 1048576 (length pool)) (Refused 6 0 0) passed

-- refusals 6 to 9; a table that none of them refuses answers with the number of its declarations
unfoldable pub table_check : List ℕ → List ℕ → Answer
unfolding size_check commands_check mark_size declarations
table_check list pool = and_then (size_check list pool) (and_then (commands_check pool 0 (mark_size list) list) (Done (length (declarations list)) 0))

-- Canonical form: a table is valid when none of 6 to 9 refuses it
abbrev pub ValidTable : List ℕ → List ℕ → Type 0
ValidTable list pool = table_check list pool ≡ Done (length (declarations list)) 0
