-- The whole iteration over a text (document 01, CDATA): the terms of its theorems. Assumes nothing.
use Rattle.std.specs.Prelude.{ℕ, zero, suc, ◌+◌, ◌≡◌, Bool, false, ◌||◌, List, [], ◌∷◌, ◌++◌, length, take, drop, replicate, eqb}
use Rattle.text.specs.Bytes.{pick, begins}
use Rattle.utils.specs.CData.{closing, first_cut, stepped, cdata_step}
use Rattle.utils.specs.declared.Cursor.{Cursor}
use Rattle.utils.specs.CData.{part, no_more}
use Rattle.utils.specs.declared.Stepped.{Stepped}

-- CDATA: `]]>` stands somewhere in the bytes
abbrev pub holds : List ℕ → Bool
holds [] = false
holds (b ∷ bs) = begins closing (b ∷ bs) || holds bs

-- CDATA: the first `limit` pieces of a text
unfoldable pub pieces_in : ℕ → List ℕ → List (List ℕ)
unfolding first_cut
pieces_in zero text = []
pieces_in (suc limit) text =
    pick (eqb (first_cut text) (length text)) (text ∷ [])
    (take (first_cut text) text ∷ pieces_in limit (drop (first_cut text) text))

-- CDATA: all of them, since each but the last has a byte at least
unfoldable pub pieces : List ℕ → List (List ℕ)
unfolding pieces_in
pieces text = pieces_in (length text + 1) text

-- CDATA: the pieces joined
abbrev pub joined : List (List ℕ) → List ℕ
joined [] = []
joined (p ∷ ps) = p ++ joined ps

-- CDATA: a piece that ends at a cut, and the one after it
pub record AtCut (piece after : List ℕ) : Type 0 where
  pub front : List ℕ
  pub rest : List ℕ
  pub ends : piece ≡ front ++ (93 ∷ 93 ∷ [])
  pub begun : after ≡ 62 ∷ rest

-- a cursor by its two fields
abbrev pub cursor_at : ℕ → ℕ → Cursor
cursor_at offset finished = record { offset = offset; finished = finished }

-- `count` calls one after the other: what each answers, and the cursor after it
unfoldable pub calls : ℕ → List ℕ → Cursor → List Stepped
unfolding cdata_step
calls zero text cursor = []
calls (suc count) text cursor = cdata_step text cursor ∷ calls count text (cdata_step text cursor).next

-- CDATA: these pieces, the first at `offset`; then "no more", `later` times, with the cursor as the last piece left it
unfoldable pub handed : ℕ → List (List ℕ) → ℕ → List Stepped
handed offset [] later = []
handed offset (p ∷ []) later = stepped (part offset (length p)) offset 1 ∷ replicate later (stepped no_more offset 1)
handed offset (p ∷ q ∷ ps) later =
    stepped (part offset (length p)) (offset + length p) 0 ∷ handed (offset + length p) (q ∷ ps) later
