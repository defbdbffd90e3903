-- Entities as a table (document 02, K3 and K4): the command list and the pool, what a name is bound to, and the call whole. Assumes nothing.
use Rattle.std.specs.Prelude.{Bool, ◌||◌, List, [], ◌∷◌, ◌++◌, ℕ, ◌+◌, ◌-◌, ◌/◌, ◌%◌, length, ltb}
use Rattle.text.specs.Bytes.{pick, same_bytes}
use Rattle.text.specs.Call.{Called, called, laid}
use Rattle.text.specs.Version.{Rule}
use Rattle.eols.specs.LineEnds.{eols}
use Rattle.entity.specs.Binding.{Bound, text, predefined_of}
use Rattle.table_grammar.specs.EntityValue.{Read, read, departs, exceeds, refused}
use Rattle.table_grammar.specs.EntityDecl.{Entity, entities}

-- document 01, Entity table: operands of fixed width, little-endian
unfoldable pub u16 : ℕ → List ℕ
u16 n = n % 256 ∷ n / 256 % 256 ∷ []

unfoldable pub u32 : ℕ → List ℕ
u32 n = n % 256 ∷ n / 256 % 256 ∷ n / 65536 % 256 ∷ n / 16777216 % 256 ∷ []

-- command 1 of a name that starts at that place of the pool, with the lengths of name and value: the value is next to the name
unfoldable pub command_at : ℕ → ℕ → ℕ → List ℕ
unfolding u16 u32
command_at start n v = 1 ∷ (u32 start ++ (n % 256 ∷ u32 (start + n) ++ u16 v))

unfoldable pub command_of : ℕ → Entity → List ℕ
unfolding command_at
command_of start e = command_at start (length e.name) (length e.value)

-- the commands of entities whose names and values start at that place of the pool, one next to the other
unfoldable pub commands_from : ℕ → List Entity → List ℕ
unfolding command_of
commands_from start [] = []
commands_from start (e ∷ es) = command_of start e ++ commands_from (start + length e.name + length e.value) es

-- K4: command 3 marks the list; document 01: 0 ends it
unfoldable pub list_of : List Entity → List ℕ
unfolding commands_from
list_of es = 3 ∷ commands_from 0 es ++ 0 ∷ []

-- K3: each name and then its value next in the pool
unfoldable pub pool_of : List Entity → List ℕ
pool_of [] = []
pool_of (e ∷ es) = e.name ++ (e.value ++ pool_of es)

-- XML 1.0, 4.2: the first declaration binds
unfoldable pub declared : List Entity → List ℕ → Bound
unfolding predefined_of
declared [] name = predefined_of name
declared (e ∷ es) name = let rest = declared es name in pick (same_bytes e.name name) (text e.value) rest

-- refusal 23: the list too small, or the pool, or it would pass 1,048,576 bytes
unfoldable pub no_room : List Entity → List ℕ → List ℕ → Bool
unfolding list_of pool_of
no_room es list pool = ltb (length list) (length (list_of es)) || ltb (length pool) (length (pool_of es)) || ltb 1048576 (length (pool_of es))

-- K3: the most declarations
abbrev pub most : ℕ
most = 4096

-- K3: list and pool in the first bytes of the lent ones; or the fault, at the offset of what is left of the whole
unfoldable pub tabled : List ℕ → Read (List Entity) → List ℕ → List ℕ → Called
unfolding no_room list_of pool_of
tabled whole (read es end) list pool =
    pick (no_room es list pool) (called 23 (length (list_of es) ∷ length (pool_of es) ∷ []) (list ∷ pool ∷ []))
    (called 0 (length (list_of es) ∷ length (pool_of es) ∷ []) (laid (list_of es) list ∷ laid (pool_of es) pool ∷ []))
tabled whole (departs rest) list pool = called 21 ((length whole - length rest) ∷ 0 ∷ []) (list ∷ pool ∷ [])
tabled whole (exceeds rest) list pool = called 22 ((length whole - length rest) ∷ 0 ∷ []) (list ∷ pool ∷ [])
tabled whole (refused number first) list pool = called number (first ∷ 0 ∷ []) (list ∷ pool ∷ [])

-- K3: the version's line ends first, then at most so many declarations
unfoldable pub read_up_to : ℕ → Rule → List ℕ → List ℕ → List ℕ → Called
unfolding tabled entities
read_up_to count r t list pool = tabled (eols r t) (entities count (eols r t)) list pool

-- K3: what the call does after the checks of its arguments
unfoldable pub read_declarations : Rule → List ℕ → List ℕ → List ℕ → Called
unfolding read_up_to
read_declarations r t list pool = read_up_to most r t list pool
