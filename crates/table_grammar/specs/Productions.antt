-- Texts of entity declarations as XML 1.0, fifth edition, writes them (2.3, 4.1 to 4.3), after line ends and without a reader: a relation for each
-- production, and what goes into the pool for it (document 02, K3). Assumes nothing.
use Rattle.std.specs.Prelude.{◌≡◌, ◌≢◌, true, List, [], ◌∷◌, ◌++◌, ℕ}
use Rattle.charref.specs.CharRef.{char_number, any_character, encode}
use Rattle.charref.specs.CharNumbers.{Char}
use Rattle.table_names.specs.NameChars.{is_name_start, is_name_char}
use Rattle.table_grammar.specs.EntityValue.{is_white}
use Rattle.table_grammar.specs.EntityDecl.{keyword, Entity}

-- [3] S ::= (#x20 | #x9 | #xD | #xA)+
pub data S : List ℕ → Type 0 where
  blank : (b : ℕ) → is_white b ≡ true → S (b ∷ [])
  blanks : (b : ℕ) (w : List ℕ) → is_white b ≡ true → S w → S (b ∷ w)

-- S?
pub data OptionalS : List ℕ → Type 0 where
  no_s : OptionalS []
  an_s : (w : List ℕ) → S w → OptionalS w

-- [4a] NameChar, any number of them, each as its UTF-8
pub data NameChars : List ℕ → Type 0 where
  no_char : NameChars []
  name_char : (c : ℕ) (w : List ℕ) → is_name_char c ≡ true → NameChars w → NameChars (encode c ++ w)

-- [5] Name ::= NameStartChar (NameChar)*
pub data Name : List ℕ → Type 0 where
  name_start : (c : ℕ) (w : List ℕ) → is_name_start c ≡ true → NameChars w → Name (encode c ++ w)

-- the byte is none of these
abbrev pub Without : ℕ → List ℕ → Type 0
Without b [] = Unit {0}
Without b (c ∷ cs) = (c ≢ b) × Without b cs

-- [67] Reference ::= EntityRef | CharRef, in a value between these quotes, and its bytes in the pool.
-- [66] CharRef, K3: `&#` and all to the next `;`, without the quote, a number that 12 to 15 let pass; it is replaced.
-- [68] EntityRef ::= '&' Name ';'; it stays as written
pub data Reference (quote : ℕ) : List ℕ → List ℕ → Type 0 where
  char_ref : (digits : List ℕ) (c : ℕ) → Without 59 digits → Without quote digits → char_number any_character digits ≡ Char c
      → Reference quote (38 ∷ 35 ∷ digits ++ 59 ∷ []) (encode c)
  entity_ref : (n : List ℕ) → Name n → Reference quote (38 ∷ n ++ 59 ∷ []) (38 ∷ n ++ 59 ∷ [])

-- [9] EntityValue between its quotes, ([^%&"] | Reference)*, and its bytes in the pool; K3: PEReference is not taken
pub data Content (quote : ℕ) : List ℕ → List ℕ → Type 0 where
  no_content : Content quote [] []
  raw : (b : ℕ) (t v : List ℕ) → b ≢ quote → b ≢ 37 → b ≢ 38 → Content quote t v → Content quote (b ∷ t) (b ∷ v)
  referring : (x y t v : List ℕ) → Reference quote x y → Content quote t v → Content quote (x ++ t) (y ++ v)

-- [9] EntityValue ::= '"' .. '"' | "'" .. "'"
pub data EntityValue : List ℕ → List ℕ → Type 0 where
  quoted : (t v : List ℕ) → Content 34 t v → EntityValue (34 ∷ t ++ 34 ∷ []) v
  apostrophed : (t v : List ℕ) → Content 39 t v → EntityValue (39 ∷ t ++ 39 ∷ []) v

-- [71] GEDecl ::= '<!ENTITY' S Name S EntityDef S? '>'; [73] EntityDef, K3: EntityValue alone
pub data GEDecl : List ℕ → Entity → Type 0 where
  declaring : (s n w x v u : List ℕ) → S s → Name n → S w → EntityValue x v → OptionalS u
      → GEDecl (keyword ++ (s ++ (n ++ (w ++ (x ++ (u ++ 62 ∷ [])))))) (record { name = n; value = v })

-- K3: a text of such declarations and white space
pub data Declarations : List ℕ → List Entity → Type 0 where
  no_more : (w : List ℕ) → OptionalS w → Declarations w []
  declaration : (w d t : List ℕ) (e : Entity) (es : List Entity) → OptionalS w → GEDecl d e → Declarations t es → Declarations (w ++ (d ++ t)) (e ∷ es)
