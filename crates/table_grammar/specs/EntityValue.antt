-- Values of general entities (XML 1.0, 2.3 and 4.1; document 02, K3), read from a text after line ends: a definition for each production.
-- Assumes nothing.
use Rattle.std.specs.Prelude.{Bool, ◌||◌, List, [], ◌∷◌, ◌++◌, ℕ, zero, suc, ◌-◌, length, take, drop, eqb, ltb}
use Rattle.text.specs.Bytes.{pick}
use Rattle.text.specs.Answers.{Answer}
use Rattle.text.specs.Answers.{Done, Refused}
use Rattle.charref.specs.CharRef.{char_number, any_character, number_answer, encode}
use Rattle.table_names.specs.NameChars.{name_length}

-- What a reader makes of a text: something, and what is left of the text after it; 21 or 22, with what is left where the fault is; or a
-- character reference is refused, with the number and its first answer word.
pub data Read (A : Type 0) : Type 0 where
  read : A → List ℕ → Read A
  departs : List ℕ → Read A
  exceeds : List ℕ → Read A
  refused : ℕ → ℕ → Read A

-- one reader, and then another with what the first has read on what it has left
abbrev pub onward : {A B : Type 0} → Read A → (A → List ℕ → Read B) → Read B
onward (read a rest) more = more a rest
onward (departs rest) more = departs rest
onward (exceeds rest) more = exceeds rest
onward (refused number first) more = refused number first

-- bytes that have to stand there
unfoldable pub literal : List ℕ → List ℕ → Read (List ℕ)
literal [] t = read [] t
literal (c ∷ cs) [] = departs []
literal (c ∷ cs) (b ∷ bs) = pick (eqb b c) (literal cs bs) (departs (b ∷ bs))

-- [3] S: a character of white space
unfoldable pub is_white : ℕ → Bool
is_white n = eqb n 0x20 || eqb n 9 || eqb n 0xD || eqb n 0xA

-- [3] S?: what is left after white space, of which there may be none
unfoldable pub after_space : List ℕ → List ℕ
unfolding is_white
after_space [] = []
after_space (b ∷ bs) = pick (is_white b) (after_space bs) (b ∷ bs)

-- [3] S
unfoldable pub space : List ℕ → Read (List ℕ)
unfolding is_white after_space
space [] = departs []
space (b ∷ bs) = pick (is_white b) (read [] (after_space bs)) (departs (b ∷ bs))

abbrev pub name_of : ℕ → List ℕ → Read (List ℕ)
name_of zero t = departs t
name_of (suc n) t = read (take (suc n) t) (drop (suc n) t)

-- [5] Name
unfoldable pub name : List ℕ → Read (List ℕ)
unfolding name_length
name t = name_of (name_length t) t

-- [66] CharRef: the number's bytes are replaced, or refused by 12 to 15
abbrev pub numbered : Answer → List ℕ → Read (List ℕ)
numbered (Done c second) rest = read (encode c) rest
numbered (Refused number first second) rest = refused number first

-- [66] CharRef, after `&#`: K3: all to the next `;`, before which the value's quote may not stand; `digits` are those before
unfoldable pub char_ref_from : ℕ → List ℕ → List ℕ → Read (List ℕ)
unfolding char_number number_answer encode
char_ref_from quote digits [] = departs []
char_ref_from quote digits (b ∷ bs) =
    let more = char_ref_from quote (digits ++ b ∷ []) bs in
    pick (eqb b 59) (numbered (number_answer (char_number any_character digits)) bs) (pick (eqb b quote) (departs (b ∷ bs)) more)

-- [68] EntityRef, after `&`; it stays as it is written
unfoldable pub entity_ref : List ℕ → Read (List ℕ)
unfolding name literal
entity_ref t = onward (name t) (λ n end. onward (literal (59 ∷ []) end) (λ w rest. read (38 ∷ n ++ 59 ∷ []) rest))

-- [67] Reference, after `&`
unfoldable pub reference : ℕ → List ℕ → Read (List ℕ)
unfolding char_ref_from entity_ref
reference quote [] = entity_ref []
reference quote (b ∷ bs) = pick (eqb b 35) (char_ref_from quote [] bs) (entity_ref (b ∷ bs))

-- [9] EntityValue, after its quote and after `skip` bytes, with its bytes so far; K3: `%` may not stand, and 22 when the value exceeds 65,535
-- bytes, at its closing quote
unfoldable pub value_from : ℕ → List ℕ → ℕ → List ℕ → Read (List ℕ)
unfolding reference
value_from quote v skip [] = departs []
value_from quote v (suc skip) (b ∷ bs) = value_from quote v skip bs
value_from quote v zero (b ∷ bs) =
    let more = value_from quote (v ++ b ∷ []) zero bs in
    let after = onward (reference quote bs) (λ w rest. value_from quote (v ++ w) (length bs - length rest) bs) in
    pick (eqb b quote) (pick (ltb 65535 (length v)) (exceeds (b ∷ bs)) (read v bs))
    (pick (eqb b 37) (departs (b ∷ bs))
    (pick (eqb b 38) after
    more))

-- [9] EntityValue, between quotes or apostrophes
unfoldable pub entity_value : List ℕ → Read (List ℕ)
unfolding value_from
entity_value [] = departs []
entity_value (b ∷ bs) = pick (eqb b 34 || eqb b 39) (value_from b [] 0 bs) (departs (b ∷ bs))
