-- Demand 1: each call refuses by the numbers of documents 01 and 02 alone, and a refusal leaves what it was lent. Assumes nothing.
use mathlib.Core.Path.{◌≡◌, refl}
use Prim.Native.Nat.{ℕ, ◌+◌}
use mathlib.Core.Bool.{Bool, true, false}
use mathlib.Core.List.{List, [], ◌∷◌}
use lib.ListN.{length, drop}
use lib.Dec.{eqb, ltb}
use Rattle.text.specs.Bytes.{pick}
use Rattle.text.specs.Version.{Rule, rule_of}
use Rattle.text.specs.Call.{Called, called, call_of, and_then, guarded, laid, finish, length_check, version_check, utf8_check, text_check, argument_check}
use Rattle.text.specs.Answers.{Answer}
use Rattle.text.specs.Answers.{Done, Refused}
use Rattle.text.proofs.Bytes.{pick_both}
use Rattle.charref.specs.CharRef.{any_character, char_number, number_answer}
use Rattle.escape.specs.Escape.{level_check, level_of, level_set, write}
use Rattle.c14n.specs.C14n.{c14n_attribute, c14n_text}
use Rattle.eols.specs.LineEnds.{eols}
use Rattle.utils.specs.declared.Part.{Part}
use Rattle.utils.specs.declared.Cursor.{Cursor}
use Rattle.utils.specs.declared.Stepped.{Stepped}
use Rattle.utils.specs.CData.{piece_from, outside, cdata_step, piece_answer, first_cut, stepped}
use Rattle.utils.specs.CData.{part, no_more, outside_at}
use Rattle.entity.specs.Table.{table_check}
use Rattle.entity.specs.Binding.{binding}
use Rattle.tokens.specs.Outcome.{Outcome, done, refused, finished}
use Rattle.unescape.specs.Unescape.{unescape}
use Rattle.canonical.specs.Canonical.{canonical}
use Rattle.attribute.specs.Checks.{settings_check}
use Rattle.attribute.specs.Form.{besides, handed, formed as formOutcome}
use Rattle.govlezna.specs.Calls.{check_utf8_call, parse_number_call, escape_call, normalize_eols_call, trim_call, cursor_left, cursor_guarded, cdata_next_call, check_table_call, unescape_call, walk_check, walked, normalize_attribute_value_call, canonical_form_call, c14n_attribute_call, c14n_text_call}
use Rattle.demands.specs.CallDemands.{listed, text_numbers, number_numbers, writer_numbers, c14n_numbers, piece_numbers, table_numbers, unescape_numbers, value_numbers, form_numbers, Refuses, success, refusal, RefusesPiece, piece, stays}
use Rattle.demands.proofs.Numbers.{By, Fails, TableNumbers, TextNumbers, WalkNumbers, by_then, by_length, by_utf8, by_version, by_level, by_settings, by_number, by_table, forbids_none, fails_unescape, fails_reading, finished_done}

module _ (numbers : List ℕ) where
  abbrev In : ℕ → Type 0
  In n = listed n numbers ≡ true

  call_refuses : (entry : List (List ℕ)) (a : Answer) → By In a → Refuses numbers entry (call_of a entry)
  call_refuses entry (Done first second) h = success (first ∷ second ∷ []) entry
  call_refuses entry (Refused why first second) h = refusal why (first ∷ second ∷ []) h

  guarded_refuses : (entry : List (List ℕ)) (c : Answer) (rest : Called) → By In c → Refuses numbers entry rest → Refuses numbers entry (guarded c entry rest)
  guarded_refuses entry (Done first second) rest h k = k
  guarded_refuses entry (Refused why first second) rest h k = refusal why (first ∷ second ∷ []) h

  finish_refuses : In 19 → (value : List ℕ) (second : ℕ) (out : List ℕ) → Refuses numbers (out ∷ []) (finish value second out)
  unfolding finish
  finish_refuses h value second out =
      pick_both (Refuses numbers (out ∷ [])) (ltb (length out) (length value))
      {a = called 19 (length value ∷ 0 ∷ []) (out ∷ [])} {b = called 0 (length value ∷ second ∷ []) (laid value out ∷ [])}
      (refusal 19 (length value ∷ 0 ∷ []) h) (success (length value ∷ second ∷ []) (laid value out ∷ []))

  finished_refuses : In 19 → (o : Outcome) (out : List ℕ) → Fails In o → Refuses numbers (out ∷ []) (finished o out)
  unfolding finished
  finished_refuses h (done value openings) out k = rw (finished_done value openings out) (finish_refuses h value openings out)
  finished_refuses h (refused before openings why first second) out k = refusal why (first ∷ second ∷ []) k

  pub by_text : In 1 → In 5 → (t : List ℕ) → By In (text_check t)
  by_text h k t = by_then In (length_check t) (utf8_check t) (by_length In h t) (by_utf8 In k t)

  by_arguments : In 1 → In 5 → (t : List ℕ) (others : Answer) → By In others → By In (argument_check t others)
  by_arguments h k t others l =
      by_then In (length_check t) (and_then others (utf8_check t)) (by_length In h t) (by_then In others (utf8_check t) l (by_utf8 In k t))

-- ---- the calls without a table

-- Demand 1: the check of UTF-8 answers 0, or refuses by 1 or 5.
pub check_utf8_refuses : (text : List ℕ) → Refuses text_numbers [] (check_utf8_call text)
unfolding check_utf8_call
check_utf8_refuses text =
    guarded_refuses text_numbers [] (text_check text) (called 0 (length text ∷ 0 ∷ []) []) (by_text text_numbers refl refl text) (success (length text ∷ 0 ∷ []) [])

-- Demand 1: a character number is read, or refused by 1, 5 or 12 to 15.
pub parse_number_refuses : (text : List ℕ) → Refuses number_numbers [] (parse_number_call text)
unfolding parse_number_call
parse_number_refuses text =
    let a = number_answer (char_number any_character text) in
    guarded_refuses number_numbers [] (text_check text) (call_of a []) (by_text number_numbers refl refl text)
    (call_refuses number_numbers [] a (by_number (In number_numbers) (record { twelve = refl; thirteen = refl; fourteen = refl; fifteen = refl }) any_character (forbids_none (In number_numbers)) text))

-- Demand 1: an escape answers 0, or refuses by 1, 4, 5 or 19 and leaves the output's bytes untouched.
pub escape_refuses : (text : List ℕ) (level : ℕ) (out : List ℕ) → Refuses writer_numbers (out ∷ []) (escape_call text level out)
unfolding escape_call
escape_refuses text level out =
    let form = write (level_set (level_of level)) text in
    guarded_refuses writer_numbers (out ∷ []) (argument_check text (level_check level)) (finish form 0 out)
    (by_arguments writer_numbers refl refl text (level_check level) (by_level (In writer_numbers) refl level)) (finish_refuses writer_numbers refl form 0 out)

-- Demand 1: the writers of Canonical XML (K1) answer 0, or refuse by 1, 5 or 19 and leave the output's bytes untouched.
c14n_refuses : (form text out : List ℕ) → Refuses c14n_numbers (out ∷ []) (guarded (text_check text) (out ∷ []) (finish form 0 out))
c14n_refuses form text out =
    guarded_refuses c14n_numbers (out ∷ []) (text_check text) (finish form 0 out) (by_text c14n_numbers refl refl text) (finish_refuses c14n_numbers refl form 0 out)

pub c14n_attribute_refuses : (text out : List ℕ) → Refuses c14n_numbers (out ∷ []) (c14n_attribute_call text out)
unfolding c14n_attribute_call
c14n_attribute_refuses text out = c14n_refuses (write c14n_attribute text) text out

pub c14n_text_refuses : (text out : List ℕ) → Refuses c14n_numbers (out ∷ []) (c14n_text_call text out)
unfolding c14n_text_call
c14n_text_refuses text out = c14n_refuses (write c14n_text text) text out

-- Demand 1: the normalization of line ends answers 0, or refuses by 1, 4, 5 or 19 and leaves the output's bytes untouched.
pub normalize_eols_refuses : (text : List ℕ) (version : ℕ) (out : List ℕ) → Refuses writer_numbers (out ∷ []) (normalize_eols_call text version out)
unfolding normalize_eols_call
normalize_eols_refuses text version out =
    let ended = eols (rule_of version) text in
    guarded_refuses writer_numbers (out ∷ []) (argument_check text (version_check version)) (finish ended 0 out)
    (by_arguments writer_numbers refl refl text (version_check version) (by_version (In writer_numbers) refl version)) (finish_refuses writer_numbers refl ended 0 out)

-- Demand 1: each trim answers 0, or refuses by 1 or 5.
pub trim_refuses : (trim : List ℕ → Part) (text : List ℕ) → Refuses text_numbers [] (trim_call trim text)
unfolding trim_call
trim_refuses trim text =
    let words = (trim text).start ∷ (trim text).length ∷ [] in
    guarded_refuses text_numbers [] (text_check text) (called 0 words []) (by_text text_numbers refl refl text) (success words [])

-- ---- CDATA

-- what one step leaves
abbrev StepStays : Cursor → Stepped → Type 0
StepStays cursor s = RefusesPiece cursor (cursor_left (piece_answer s.piece) s.next)

step_stays : (text : List ℕ) (cursor : Cursor) → StepStays cursor (cdata_step text cursor)
unfolding cdata_step piece_from piece_answer
step_stays text cursor = go (outside text cursor.offset) (eqb cursor.finished 0)
  where
    at : ℕ
    at = cursor.offset

    rest : List ℕ
    rest = drop at text

    cut : (t : Bool) → StepStays cursor (pick t (stepped (part at (length rest)) at 1) (stepped (part at (first_cut rest)) (at + first_cut rest) 0))
    cut true = piece (at ∷ length rest ∷ []) (record { offset = at; finished = 1 })
    cut false = piece (at ∷ first_cut rest ∷ []) (record { offset = at + first_cut rest; finished = 0 })

    go : (t u : Bool) → StepStays cursor (pick t (record { piece = outside_at at; next = cursor }) (pick u (piece_from at rest) (record { piece = no_more; next = cursor })))
    go true u = stays 20 (at ∷ 0 ∷ []) refl
    go false true = cut (eqb (first_cut rest) (length rest))
    go false false = stays 255 (0 ∷ 0 ∷ []) refl

-- Demand 1: the next CDATA piece is handed over, or the call answers 1, 5, 20 or 255 ("no more") and leaves the cursor as it was.
pub cdata_next_refuses : (text : List ℕ) (cursor : Cursor) → RefusesPiece cursor (cdata_next_call text cursor)
unfolding cdata_next_call
cdata_next_refuses text cursor = go (text_check text) (by_text piece_numbers refl refl text)
  where
    go : (c : Answer) → By (In piece_numbers) c → RefusesPiece cursor (cursor_guarded c cursor (cdata_step text cursor))
    go (Done first second) h = step_stays text cursor
    go (Refused why first second) h = stays why (first ∷ second ∷ []) h

-- ---- the calls with a table

-- Demand 1: the check of a table answers 0, or refuses by 6 to 9.
pub check_table_refuses : (list pool : List ℕ) → Refuses table_numbers [] (check_table_call list pool)
unfolding check_table_call
check_table_refuses list pool =
    call_refuses table_numbers [] (table_check list pool) (by_table (In table_numbers) (record { six = refl; seven = refl; eight = refl; nine = refl }) list pool)

-- Demand 1: unescaping answers 0, or refuses by 1, 5 to 15, 19 or 27 and leaves the output's bytes untouched.
pub unescape_refuses : (text list pool out : List ℕ)
    → Refuses unescape_numbers (out ∷ []) (unescape_call text list pool out)
unfolding unescape_call
unescape_refuses text list pool out =
    let bind = binding list pool in
    guarded_refuses unescape_numbers (out ∷ []) (and_then (text_check text) (table_check list pool)) (finished (unescape bind text) out)
    (by_then (In unescape_numbers) (text_check text) (table_check list pool) (by_text unescape_numbers refl refl text)
    (by_table (In unescape_numbers) (record { six = refl; seven = refl; eight = refl; nine = refl }) list pool))
    (finished_refuses unescape_numbers refl (unescape bind text) out (fails_unescape (In unescape_numbers) of_text bind text))
  where
    of_text : TextNumbers (In unescape_numbers)
    of_text = record { ten = refl; eleven = refl; twenty_seven = refl; numbers = record { twelve = refl; thirteen = refl; fourteen = refl; fifteen = refl } }

-- the checks and the walk of an attribute value
module _ (numbers : List ℕ) (text : List ℕ) (version depth limit : ℕ) (list pool : List ℕ) where
  pub by_walk : In numbers 1 → In numbers 2 → In numbers 3 → In numbers 4 → In numbers 5 → TableNumbers (In numbers) → By (In numbers) (walk_check text version depth limit list pool)
  by_walk a b c d e t =
      by_then (In numbers) (argument_check text (settings_check version depth limit)) (table_check list pool)
      (by_arguments numbers a e text (settings_check version depth limit) (by_settings (In numbers) b c d version depth limit))
      (by_table (In numbers) t list pool)

  pub fails_walked : WalkNumbers (In numbers) → Fails (In numbers) (walked text version depth limit list pool)
  fails_walked h = fails_reading (In numbers) h (rule_of version) list pool limit depth text

-- Demand 1: normalization answers 0, or refuses by 1 to 17, 19 or 27 and leaves the output's bytes untouched.
pub normalize_attribute_value_refuses : (text : List ℕ) (version depth limit : ℕ) (list pool out : List ℕ)
    → Refuses value_numbers (out ∷ [])
    (normalize_attribute_value_call text version depth limit list pool out)
unfolding normalize_attribute_value_call
normalize_attribute_value_refuses text version depth limit list pool out =
    let o = walked text version depth limit list pool in
    guarded_refuses value_numbers (out ∷ []) (walk_check text version depth limit list pool) (finished o out)
    (by_walk value_numbers text version depth limit list pool refl refl refl refl refl (record { six = refl; seven = refl; eight = refl; nine = refl }))
    (finished_refuses value_numbers refl o out (fails_walked value_numbers text version depth limit list pool of_walk))
  where
    of_walk : WalkNumbers (In value_numbers)
    of_walk =
        record {
          texts = record { ten = refl; eleven = refl; twenty_seven = refl; numbers = record { twelve = refl; thirteen = refl; fourteen = refl; fifteen = refl } };
          sixteen = refl;
          seventeen = refl;
        }

formed_refuses : (r : Rule) (o : Outcome) (scratch out : List ℕ) → Fails (In form_numbers) o → Refuses form_numbers (scratch ∷ out ∷ []) (formOutcome r o scratch out)
unfolding formOutcome finish
formed_refuses r (done value openings) scratch out h = go (ltb (length scratch) 4) (ltb (length out) (length form))
  where
    form : List ℕ
    form = canonical r value

    go : (b short : Bool)
        → Refuses form_numbers (scratch ∷ out ∷ [])
        (pick b (called 18 (4 ∷ 0 ∷ []) (scratch ∷ out ∷ []))
        (besides (pick short scratch (handed value scratch))
        (pick short (called 19 (length form ∷ 0 ∷ []) (out ∷ [])) (called 0 (length form ∷ openings ∷ []) (laid form out ∷ [])))))
    go true short = refusal 18 (4 ∷ 0 ∷ []) refl
    go false true = refusal 19 (length form ∷ 0 ∷ []) refl
    go false false = success (length form ∷ openings ∷ []) (handed value scratch ∷ laid form out ∷ [])
formed_refuses r (refused before openings why first second) scratch out h = refusal why (first ∷ second ∷ []) h

-- Demand 1: the canonical form answers 0, or refuses by 1 to 19 or 27 and leaves the output's bytes untouched, and the scratch's.
pub canonical_form_refuses : (text : List ℕ) (version depth limit : ℕ) (list pool scratch out : List ℕ)
    → Refuses form_numbers (scratch ∷ out ∷ []) (canonical_form_call text version depth limit list pool scratch out)
unfolding canonical_form_call
canonical_form_refuses text version depth limit list pool scratch out =
    go (walk_check text version depth limit list pool)
    (by_walk form_numbers text version depth limit list pool refl refl refl refl refl (record { six = refl; seven = refl; eight = refl; nine = refl }))
  where
    of_walk : WalkNumbers (In form_numbers)
    of_walk =
        record {
          texts = record { ten = refl; eleven = refl; twenty_seven = refl; numbers = record { twelve = refl; thirteen = refl; fourteen = refl; fifteen = refl } };
          sixteen = refl;
          seventeen = refl;
        }

    go : (c : Answer) → By (In form_numbers) c
        → Refuses form_numbers (scratch ∷ out ∷ []) (guarded c (scratch ∷ out ∷ []) (formOutcome (rule_of version) (walked text version depth limit list pool) scratch out))
    go (Done first second) h = formed_refuses (rule_of version) (walked text version depth limit list pool) scratch out (fails_walked form_numbers text version depth limit list pool of_walk)
    go (Refused why first second) h = refusal why (first ∷ second ∷ []) h
