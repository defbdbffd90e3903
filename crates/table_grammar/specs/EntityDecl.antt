-- Declarations of general entities (XML 1.0, 4.2; document 02, K3), read from a text after line ends: a definition for each production.
-- Assumes nothing.
use Rattle.std.specs.Prelude.{List, [], ◌∷◌, ℕ, zero, suc, length, eqb, ltb}
use Rattle.text.specs.Bytes.{pick}
use Rattle.table_grammar.specs.EntityValue.{Read, read, departs, exceeds, onward, literal, after_space, space, name, entity_value}

-- `<!ENTITY`
abbrev pub keyword : List ℕ
keyword = 60 ∷ 33 ∷ 69 ∷ 78 ∷ 84 ∷ 73 ∷ 84 ∷ 89 ∷ []

-- [71] GEDecl, up to its name
unfoldable pub opening : List ℕ → Read (List ℕ)
unfolding literal space
opening t = onward (literal keyword t) (λ w rest. space rest)

-- [71] GEDecl, its name and the white space after it; K3: 22 when it exceeds 255 bytes, at its end
unfoldable pub declared_name : List ℕ → Read (List ℕ)
unfolding name space
declared_name t = onward (name t) (λ n end. onward (space end) (λ w rest. pick (ltb 255 (length n)) (exceeds end) (read n rest)))

-- [73] EntityDef, and the end of [71] GEDecl
unfoldable pub definition : List ℕ → Read (List ℕ)
unfolding entity_value after_space literal
definition t = onward (entity_value t) (λ v end. onward (literal (62 ∷ []) (after_space end)) (λ w rest. read v rest))

-- an entity: its name, and its value in the pool
pub record Entity : Type 0 where
  pub name : List ℕ
  pub value : List ℕ

-- [71] GEDecl
unfoldable pub entity : List ℕ → Read Entity
unfolding opening declared_name definition
entity t = onward (opening t) (λ w t1. onward (declared_name t1) (λ n t2. onward (definition t2) (λ v t3. read (record { name = n; value = v }) t3)))

-- K3: 22 when a `<` comes after 4,096 declarations
unfoldable pub no_more : List ℕ → Read (List Entity)
no_more [] = read [] []
no_more (b ∷ bs) = pick (eqb b 60) (exceeds (b ∷ bs)) (departs (b ∷ bs))

-- the declaration at the head, and those that `more` reads after it
unfoldable pub one_more : (List ℕ → Read (List Entity)) → List ℕ → Read (List Entity)
unfolding entity
one_more more [] = read [] []
one_more more (b ∷ bs) = onward (entity (b ∷ bs)) (λ e rest. onward (more rest) (λ es end. read (e ∷ es) end))

-- K3: the declarations from here on, where no white space is, with how many more of them may come
unfoldable pub entities_at : ℕ → List ℕ → Read (List Entity)
unfolding no_more one_more after_space
entities_at zero t = no_more t
entities_at (suc more) t = one_more (λ rest. entities_at more (after_space rest)) t

-- K3: declarations and white space
unfoldable pub entities : ℕ → List ℕ → Read (List Entity)
unfolding entities_at after_space
entities more t = entities_at more (after_space t)
