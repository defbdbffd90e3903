-- K3's premises are met by the standard's own declarations (XML 1.0, 3.3.3): they are a text in the grammar (`declares`), the call accepts them and
-- leaves the standard's table (`table`), and with K4 the standard's value comes out (`value`). Assumes nothing.
use mathlib.Core.Path.{◌≡◌, refl, sym, ap₂, subst, ◌∙◌}
use mathlib.Core.List.{List, [], ◌∷◌, ◌++◌}
use mathlib.Core.Bool.{false}
use Prim.Native.Nat.{ℕ}
use native.Mathlib.Omega.{arith}
use Rattle.text.specs.Call.{called, length_check, utf8_check}
use Rattle.text.specs.Utf8.{utf8_end}
use Rattle.charref.specs.CharRef.{char_number, encode}
use Rattle.eols.specs.LineEnds.{eols}
use Rattle.entity.specs.Table.{table_check}
use Rattle.tokens.specs.Outcome.{finished}
use Rattle.attribute.specs.Checks.{settings_check}
use Rattle.attribute.specs.Walk.{normalize, reading_of}
use Rattle.table_names.specs.NameChars.{is_name_start, is_name_char}
use Rattle.table_grammar.specs.EntityValue.{is_white}
use Rattle.table_grammar.specs.EntityDecl.{keyword, Entity}
use Rattle.table_grammar.specs.TableWritten.{list_of, pool_of}
use Rattle.table_grammar.specs.Productions.{S, blank, OptionalS, no_s, an_s, Name, name_start, no_char, name_char, Reference, char_ref, no_content, referring, EntityValue, quoted, declaring, Declarations, no_more, declaration}
use Rattle.govlezna.specs.Calls.{check_utf8_call, normalize_attribute_value_call}
use Rattle.requests.specs.Unused.{Reader, normalizing, call_with}
use Rattle.requests.specs.Declarations.{Lent, call_for, settled, Success, list_from, pool_from, Declares, Taken, Room}
use Rattle.requests.proofs.Declarations.{k3_accepts, k3_list_is, k3_pool_is}

-- ---- 3.3.3's declarations: d = `&#xD;`, a = `&#xA;`, da = `&#xD;&#xA;`, a line for each

blank_32 : S (32 ∷ [])
unfolding is_white
blank_32 = blank 32 refl

line : OptionalS (10 ∷ [])
unfolding is_white
line = an_s (10 ∷ []) (blank 10 refl)

cr : Reference 34 (38 ∷ 35 ∷ 120 ∷ 68 ∷ 59 ∷ []) (13 ∷ [])
unfolding char_number encode
cr = char_ref (120 ∷ 68 ∷ []) 13 (λ q. absurd (omega arith), (λ q. absurd (omega arith), tt)) (λ q. absurd (omega arith), (λ q. absurd (omega arith), tt)) refl

lf : Reference 34 (38 ∷ 35 ∷ 120 ∷ 65 ∷ 59 ∷ []) (10 ∷ [])
unfolding char_number encode
lf = char_ref (120 ∷ 65 ∷ []) 10 (λ q. absurd (omega arith), (λ q. absurd (omega arith), tt)) (λ q. absurd (omega arith), (λ q. absurd (omega arith), tt)) refl

name_d : Name (100 ∷ [])
unfolding encode is_name_start
name_d = name_start 100 [] refl no_char

name_a : Name (97 ∷ [])
unfolding encode is_name_start
name_a = name_start 97 [] refl no_char

name_da : Name (100 ∷ 97 ∷ [])
unfolding encode is_name_start is_name_char
name_da = name_start 100 (97 ∷ []) refl (name_char 97 [] refl no_char)

value_d : EntityValue (34 ∷ 38 ∷ 35 ∷ 120 ∷ 68 ∷ 59 ∷ 34 ∷ []) (13 ∷ [])
value_d = quoted (38 ∷ 35 ∷ 120 ∷ 68 ∷ 59 ∷ []) (13 ∷ []) (referring _ _ [] [] cr no_content)

value_a : EntityValue (34 ∷ 38 ∷ 35 ∷ 120 ∷ 65 ∷ 59 ∷ 34 ∷ []) (10 ∷ [])
value_a = quoted (38 ∷ 35 ∷ 120 ∷ 65 ∷ 59 ∷ []) (10 ∷ []) (referring _ _ [] [] lf no_content)

value_da : EntityValue (34 ∷ 38 ∷ 35 ∷ 120 ∷ 68 ∷ 59 ∷ 38 ∷ 35 ∷ 120 ∷ 65 ∷ 59 ∷ 34 ∷ []) (13 ∷ 10 ∷ [])
value_da = quoted (38 ∷ 35 ∷ 120 ∷ 68 ∷ 59 ∷ 38 ∷ 35 ∷ 120 ∷ 65 ∷ 59 ∷ []) (13 ∷ 10 ∷ []) (referring _ _ _ _ cr (referring _ _ [] [] lf no_content))

-- `<!ENTITY`, a space, the name, a space and the value, `>`
abbrev written : List ℕ → List ℕ → List ℕ
written n x = keyword ++ ((32 ∷ []) ++ (n ++ ((32 ∷ []) ++ (x ++ ([] ++ 62 ∷ [])))))

abbrev text_d : List ℕ
text_d = written (100 ∷ []) (34 ∷ 38 ∷ 35 ∷ 120 ∷ 68 ∷ 59 ∷ 34 ∷ [])

abbrev text_a : List ℕ
text_a = written (97 ∷ []) (34 ∷ 38 ∷ 35 ∷ 120 ∷ 65 ∷ 59 ∷ 34 ∷ [])

abbrev text_da : List ℕ
text_da = written (100 ∷ 97 ∷ []) (34 ∷ 38 ∷ 35 ∷ 120 ∷ 68 ∷ 59 ∷ 38 ∷ 35 ∷ 120 ∷ 65 ∷ 59 ∷ 34 ∷ [])

abbrev d : Entity
d = record { name = 100 ∷ []; value = 13 ∷ [] }

abbrev a : Entity
a = record { name = 97 ∷ []; value = 10 ∷ [] }

abbrev da : Entity
da = record { name = 100 ∷ 97 ∷ []; value = 13 ∷ 10 ∷ [] }

abbrev three : List ℕ
three = [] ++ (text_d ++ ((10 ∷ []) ++ (text_a ++ ((10 ∷ []) ++ (text_da ++ 10 ∷ [])))))

in_grammar : Declarations three (d ∷ a ∷ da ∷ [])
in_grammar =
    declaration [] text_d _ d _ no_s (declaring _ _ _ _ _ [] blank_32 name_d blank_32 value_d no_s)
    (declaration (10 ∷ []) text_a _ a _ line (declaring _ _ _ _ _ [] blank_32 name_a blank_32 value_a no_s)
    (declaration (10 ∷ []) text_da _ da _ line (declaring _ _ _ _ _ [] blank_32 name_da blank_32 value_da no_s) (no_more (10 ∷ []) line)))

-- ---- the call

-- lent a list of 39 bytes and a pool of 9, one more than is needed
abbrev lent : Lent
lent =
    record {
      text = three;
      version = 0;
      list =
          7 ∷ 7 ∷ 7 ∷ 7 ∷ 7 ∷ 7 ∷ 7 ∷ 7 ∷ 7 ∷ 7 ∷ 7 ∷ 7 ∷ 7 ∷ 7 ∷ 7 ∷ 7 ∷ 7 ∷ 7 ∷ 7 ∷ 7 ∷ 7 ∷ 7 ∷ 7 ∷ 7 ∷ 7 ∷ 7 ∷ 7 ∷ 7 ∷ 7 ∷ 7 ∷ 7 ∷ 7 ∷ 7 ∷ 7 ∷ 7 ∷ 7 ∷ 7 ∷ 7 ∷ 7 ∷ [];
      pool = 8 ∷ 8 ∷ 8 ∷ 8 ∷ 8 ∷ 8 ∷ 8 ∷ 8 ∷ 8 ∷ [];
    }

settles : settled lent ≡ three
unfolding eols
settles = refl

declares : Declares lent (d ∷ a ∷ da ∷ [])
unfolding pool_of
declares =
    record {
      text = subst (λ (l : List ℕ). Declarations l (d ∷ a ∷ da ∷ [])) (sym settles) in_grammar;
      within =
          record {
            sizes = (omega arith, omega arith, omega arith, (omega arith, omega arith, omega arith, (omega arith, omega arith, omega arith, tt)));
            few = omega arith;
            short = omega arith;
          };
    }

taken : Taken lent
unfolding check_utf8_call length_check utf8_check utf8_end
taken = record { utf8 = refl; version = refl }

room : Room (d ∷ a ∷ da ∷ []) lent
unfolding pool_of
room = record { list = omega arith; pool = omega arith }

-- 3.3.3's table, written over the first bytes of what was lent
pub k3_table : call_for lent ≡
    called 0 (38 ∷ 8 ∷ [])
    ((3 ∷ 1 ∷ 0 ∷ 0 ∷ 0 ∷ 0 ∷ 1 ∷ 1 ∷ 0 ∷ 0 ∷ 0 ∷ 1 ∷ 0 ∷ 1 ∷ 2 ∷ 0 ∷ 0 ∷ 0 ∷ 1 ∷ 3 ∷ 0 ∷ 0 ∷ 0 ∷ 1 ∷ 0 ∷ 1 ∷ 4 ∷ 0 ∷ 0 ∷ 0 ∷ 2 ∷ 6 ∷ 0 ∷ 0 ∷ 0 ∷ 2 ∷ 0 ∷ 0 ∷ 7 ∷ [])
    ∷ (100 ∷ 13 ∷ 97 ∷ 10 ∷ 100 ∷ 97 ∷ 13 ∷ 10 ∷ 8 ∷ []) ∷ [])
unfolding list_of pool_of
k3_table = k3_accepts lent (d ∷ a ∷ da ∷ []) taken declares room

pub succeeds : Success lent
succeeds = record { list_length = 38; pool_length = 8; list = _; pool = _; is = k3_table }

-- 3.3.3's value `&d;&d;A&a;&#x20;&a;B&da;`, read at depth 2 with five openings, into ten bytes
abbrev reader : Reader
reader =
    normalizing false
    (38 ∷ 100 ∷ 59 ∷ 38 ∷ 100 ∷ 59 ∷ 65 ∷ 38 ∷ 97 ∷ 59 ∷ 38 ∷ 35 ∷ 120 ∷ 50 ∷ 48 ∷ 59 ∷ 38 ∷ 97 ∷ 59 ∷ 66 ∷ 38 ∷ 100 ∷ 97 ∷ 59 ∷ []) 0 2 5
    (7 ∷ 7 ∷ 7 ∷ 7 ∷ 7 ∷ 7 ∷ 7 ∷ 7 ∷ 7 ∷ 7 ∷ [])

computed : call_with reader (list_of (d ∷ a ∷ da ∷ [])) (pool_of (d ∷ a ∷ da ∷ [])) ≡ called 0 (9 ∷ 5 ∷ []) ((32 ∷ 32 ∷ 65 ∷ 32 ∷ 32 ∷ 32 ∷ 66 ∷ 32 ∷ 32 ∷ 7 ∷ []) ∷ [])
unfolding normalize_attribute_value_call length_check settings_check utf8_check utf8_end table_check finished normalize reading_of list_of pool_of
computed = refl

-- with K4 the standard's value: two spaces, A, three spaces, B, two spaces
pub k3_value : call_with reader (list_from succeeds) (pool_from succeeds) ≡ called 0 (9 ∷ 5 ∷ []) ((32 ∷ 32 ∷ 65 ∷ 32 ∷ 32 ∷ 32 ∷ 66 ∷ 32 ∷ 32 ∷ 7 ∷ []) ∷ [])
k3_value = ap₂ (call_with reader) (k3_list_is lent succeeds (d ∷ a ∷ da ∷ []) declares) (k3_pool_is lent succeeds (d ∷ a ∷ da ∷ []) declares) ∙ computed
