-- Each call whole: from the arguments to number, answer words and lent buffers (document 01, and the C header). Assumes nothing.
use Rattle.std.specs.Prelude.{true, List, [], ◌∷◌, ℕ, length}
use Rattle.text.specs.Call.{Called, called, call_of, and_then, guarded, text_check, argument_check, version_check, finish}
use Rattle.text.specs.Version.{rule_of}
use Rattle.escape.specs.Escape.{level_check, level_of, level_set, write}
use Rattle.c14n.specs.C14n.{c14n_attribute, c14n_text}
use Rattle.eols.specs.LineEnds.{eols}
use Rattle.text.specs.Answers.{Answer, Done, Refused}
use Rattle.utils.specs.declared.Part.{Part}
use Rattle.utils.specs.declared.Cursor.{Cursor}
use Rattle.utils.specs.declared.Stepped.{Stepped}
use Rattle.utils.specs.CData.{cdata_step, piece_answer}
use Rattle.govlezna.specs.declared.CDataNext.{CDataNext}
use Rattle.entity.specs.Table.{table_check}
use Rattle.entity.specs.Binding.{binding}
use Rattle.tokens.specs.Outcome.{Outcome, finished}
use Rattle.unescape.specs.Unescape.{unescape}
use Rattle.attribute.specs.Checks.{settings_check}
use Rattle.attribute.specs.Walk.{normalize, reading_of}
use Rattle.attribute.specs.Strict.{reading_by}
use Rattle.attribute.specs.Form.{formed}
use Rattle.collapse.specs.NextToken.{next_token}
use Rattle.collapse.specs.declared.Found.{Found}
use Rattle.nmtokens.specs.Nmtokens.{collapsed}
use Rattle.charref.specs.CharRef.{char_number, any_character, number_answer}
use Rattle.walk_depths.specs.LeastDepth.{least_depth}
use Rattle.walk_rehearsal.specs.declared.Span.{Span}
use Rattle.walk_rehearsal.specs.Rehearsal.{spans_check, report}
use Rattle.register.specs.RegisterCalls.{add_call, withdraw_call, count_call}
use Rattle.table_grammar.specs.TableWritten.{read_declarations}

-- document 01, UTF-8: 1 and 5, else the text's length
unfoldable pub check_utf8_call : List ℕ → Called
check_utf8_call text = guarded (text_check text) [] (called 0 (length text ∷ 0 ∷ []) [])

-- document 01, character numbers: 1 and 5, then 12 to 15, else the character's number
unfoldable pub parse_number_call : List ℕ → Called
parse_number_call text = guarded (text_check text) [] (call_of (number_answer (char_number any_character text)) [])

-- document 01, escape levels: 1, 4 and 5, then 19, else the text escaped at the level
unfoldable pub escape_call : List ℕ → ℕ → List ℕ → Called
escape_call text level out =
    guarded (argument_check text (level_check level)) (out ∷ []) (finish (write (level_set (level_of level)) text) 0 out)

-- document 01, line ends: 1, 4 and 5, then 19, else the text with its line ends normalized
unfoldable pub normalize_eols_call : List ℕ → ℕ → List ℕ → Called
normalize_eols_call text version out =
    guarded (argument_check text (version_check version)) (out ∷ []) (finish (eols (rule_of version) text) 0 out)

-- document 01, trimming: 1 and 5, else the part's start and length
unfoldable pub part_call : List ℕ → Part → Called
part_call text part = guarded (text_check text) [] (called 0 (part.start ∷ part.length ∷ []) [])

-- document 01, trimming: the part that this trim finds
unfoldable pub trim_call : (List ℕ → Part) → List ℕ → Called
unfolding part_call
trim_call trim text = part_call text (trim text)

-- an answer and the cursor that it leaves
abbrev pub cursor_left : Answer → Cursor → CDataNext
cursor_left (Done first second) next = record { number = 0; words = first ∷ second ∷ []; next = next }
cursor_left (Refused number first second) next = record { number = number; words = first ∷ second ∷ []; next = next }

-- a refusal by the checks of the text leaves the cursor; else what the step does
abbrev pub cursor_guarded : Answer → Cursor → Stepped → CDataNext
cursor_guarded (Done first second) cursor step = cursor_left (piece_answer step.piece) step.next
cursor_guarded (Refused number first second) cursor step = cursor_left (Refused number first second) cursor

-- document 01, CDATA: 1 and 5, then 20; the piece, or "no more"; the cursor changes with a piece only
unfoldable pub cdata_next_call : List ℕ → Cursor → CDataNext
cdata_next_call text cursor = cursor_guarded (text_check text) cursor (cdata_step text cursor)

-- document 01, entity table: 6 to 9, else the number of declarations
unfoldable pub check_table_call : List ℕ → List ℕ → Called
check_table_call list pool = call_of (table_check list pool) []

-- document 01, unescaping: 1 and 5, 6 to 9, then 10 to 15, 27 (document 02, K9) and 19, else the text unescaped
unfoldable pub unescape_call : List ℕ → List ℕ → List ℕ → List ℕ → Called
unescape_call text list pool out =
    guarded (and_then (text_check text) (table_check list pool)) (out ∷ []) (finished (unescape (binding list pool) text) out)

-- document 01, attribute walk: the checks of its arguments, 1 to 9
abbrev pub walk_check : List ℕ → ℕ → ℕ → ℕ → List ℕ → List ℕ → Answer
walk_check text version depth limit list pool = and_then (argument_check text (settings_check version depth limit)) (table_check list pool)

-- document 01, attribute walk: what the walk makes of a text, with the settings of a call
abbrev pub walked : List ℕ → ℕ → ℕ → ℕ → List ℕ → List ℕ → Outcome
walked text version depth limit list pool = normalize (reading_of (rule_of version) list pool limit) depth text

-- document 01, attribute walk: 1 to 9, then 10 to 17, 27 (document 02, K9) and 19, else the value and its openings
unfoldable pub normalize_attribute_value_call : List ℕ → ℕ → ℕ → ℕ → List ℕ → List ℕ → List ℕ → Called
normalize_attribute_value_call text version depth limit list pool out =
    guarded (walk_check text version depth limit list pool) (out ∷ []) (finished (walked text version depth limit list pool) out)

-- document 01, canonical form: 1 to 9, then 10 to 17, 27 (document 02, K9), 18 and 19, else the form, and the last character of the value in the
-- scratch (document 02, K7)
unfoldable pub canonical_form_call : List ℕ → ℕ → ℕ → ℕ → List ℕ → List ℕ → List ℕ → List ℕ → Called
canonical_form_call text version depth limit list pool scratch out =
    guarded (walk_check text version depth limit list pool) (scratch ∷ out ∷ []) (formed (rule_of version) (walked text version depth limit list pool) scratch out)

-- document 02, K8: what the strict walk makes of a text
abbrev pub walked_strictly : List ℕ → ℕ → ℕ → ℕ → List ℕ → List ℕ → Outcome
walked_strictly text version depth limit list pool = normalize (reading_by true (rule_of version) list pool limit) depth text

-- document 02, K8: as the lenient call, and 25 and 26
unfoldable pub normalize_attribute_value_strict_call : List ℕ → ℕ → ℕ → ℕ → List ℕ → List ℕ → List ℕ → Called
normalize_attribute_value_strict_call text version depth limit list pool out =
    guarded (walk_check text version depth limit list pool) (out ∷ []) (finished (walked_strictly text version depth limit list pool) out)

-- document 02, K8: as the lenient call, and 25 and 26
unfoldable pub canonical_form_strict_call : List ℕ → ℕ → ℕ → ℕ → List ℕ → List ℕ → List ℕ → List ℕ → Called
canonical_form_strict_call text version depth limit list pool scratch out =
    guarded (walk_check text version depth limit list pool) (scratch ∷ out ∷ [])
    (formed (rule_of version) (walked_strictly text version depth limit list pool) scratch out)

-- document 02, K1: 1 and 5, then 19, else the attribute value as Canonical XML writes it
unfoldable pub c14n_attribute_call : List ℕ → List ℕ → Called
c14n_attribute_call text out = guarded (text_check text) (out ∷ []) (finish (write c14n_attribute text) 0 out)

-- document 02, K1: 1 and 5, then 19, else the text as Canonical XML writes it
unfoldable pub c14n_text_call : List ℕ → List ℕ → Called
c14n_text_call text out = guarded (text_check text) (out ∷ []) (finish (write c14n_text text) 0 out)

-- document 02, K5: 1 to 9, then 10 to 17, 27, 18 and 19, else the value after the second stage, and the value in the scratch
unfoldable pub normalize_nmtokens_call : List ℕ → ℕ → ℕ → ℕ → List ℕ → List ℕ → List ℕ → List ℕ → Called
normalize_nmtokens_call text version depth limit list pool scratch out =
    guarded (walk_check text version depth limit list pool) (scratch ∷ out ∷ []) (collapsed (walked text version depth limit list pool) scratch out)

-- what is found as an answer, and the lent offset, a buffer of one word
abbrev pub token_call : Found → Called
token_call f = call_of (piece_answer f.piece) ((f.next ∷ []) ∷ [])

-- document 02, K5: 1 and 5, then 20; the next token, or "no more"; the offset changes with a token only
unfoldable pub next_nmtoken_call : List ℕ → ℕ → Called
next_nmtoken_call text offset = guarded (text_check text) ((offset ∷ []) ∷ []) (token_call (next_token text offset))

-- document 02, K10, add one: 1 and 5 of the form, 28, then 30, else the form's count and the used length
abbrev pub register_add_call : List ℕ → List ℕ → ℕ → Called
register_add_call form buffer used = add_call form buffer used

-- document 02, K10, withdraw one: 1 and 5 of the form, 28, then 29, else the form's count and the used length
abbrev pub register_withdraw_call : List ℕ → List ℕ → ℕ → Called
register_withdraw_call form buffer used = withdraw_call form buffer used

-- document 02, K10, count one: 1 and 5 of the form, then 28, else the form's count
abbrev pub register_count_call : List ℕ → List ℕ → ℕ → Called
register_count_call form buffer used = count_call form buffer used

-- document 02, K14: 1, 3 to 9, then what depth 128 refuses by, 32 in place of 16, else the least depth
unfoldable pub least_depth_call : List ℕ → ℕ → ℕ → List ℕ → List ℕ → Called
least_depth_call text version limit list pool =
    guarded (walk_check text version 128 limit list pool) [] (call_of (least_depth (reading_of (rule_of version) list pool limit) text) [])

-- document 02, K3: 1, 4 and 5, then the leftmost of 12 to 15, 21 and 22, then 23, else list and pool
unfoldable pub read_declarations_call : List ℕ → ℕ → List ℕ → List ℕ → Called
read_declarations_call text version list pool =
    guarded (argument_check text (version_check version)) (list ∷ pool ∷ []) (read_declarations (rule_of version) text list pool)

-- document 02, K11: 1 to 9, then 31, else the report of the spans' values
unfoldable pub rehearse_call : List ℕ → List Span → ℕ → ℕ → ℕ → List ℕ → List ℕ → List ℕ → Called
rehearse_call text spans version depth limit list pool words =
    guarded (and_then (walk_check text version depth limit list pool) (spans_check (length text) spans)) (words ∷ [])
    (called 0 (0 ∷ 0 ∷ []) (report (reading_of (rule_of version) list pool limit) depth text spans ∷ []))
