-- Demands 2 and 3 hold of the calls. Assumes nothing.
use mathlib.Core.Path.{◌≡◌, refl, ap, ap₂, sym, subst, ◌∙◌}
use mathlib.Core.Logic.{◌≢◌}
use Prim.Native.Nat.{ℕ, ◌≤◌}
use native.Mathlib.Omega.{arith}
use mathlib.Core.Bool.{Bool, true, false}
use mathlib.Core.List.{List, [], ◌∷◌}
use lib.ListN.{length, take, drop}
use lib.Seq.{take-append_seam}
use lib.Dec.{ltb, eqb}
use borrow.Author.Tests.{eq-eqb, eqb-true, le-ltb, ltb-false}
use Rattle.text.specs.Bytes.{pick}
use Rattle.text.specs.Version.{known_version}
use Rattle.text.specs.Utf8.{WellFormed, utf8_end}
use Rattle.text.specs.Call.{Called, called, call_of, and_then, guarded, passed, laid, finish, length_check, version_check, utf8_check, text_check, argument_check}
use Rattle.text.specs.Answers.{Answer}
use Rattle.text.specs.Answers.{Done, Refused}
use Rattle.text.proofs.Call.{checked_length}
use Rattle.text.proofs.Longest.{whole_end, end_whole}
use Rattle.output.proofs.Finish.{finish_laid}
use Rattle.escape.specs.Escape.{Replacements, write, level_of, level_set, level_check}
use Rattle.escape.proofs.Write.{Ascii, write_well_formed}
use Rattle.escape.proofs.Levels.{level_ascii}
use Rattle.entity.specs.Table.{Declaration, declarations, size_check, table_check, ValidTable}
use Rattle.entity.proofs.Tables.{checked_table, empty_valid}
use Rattle.tokens.specs.Outcome.{Outcome, done, refused, finished}
use Rattle.attribute.specs.Checks.{settings_check}
use Rattle.attribute.specs.Form.{besides, handed, formed}
use Rattle.attribute.proofs.InHand.{in_hand_done}
use Rattle.attribute.proofs.Checked.{checked_settings}
use Rattle.govlezna.specs.Calls.{escape_call, check_table_call, unescape_call, walk_check, walked, normalize_attribute_value_call, canonical_form_call}
use Rattle.demands.specs.Demands.{Asked, rule_for, Taken, Accepted, form_of, AskedAgain}
use Rattle.demands.specs.CallDemands.{EmptyTable, UnescapesTo, normalize_of, canonical_of, Answered, Completed, value_of, written_of, CallsEqualExactly, CallAgain, CallRereads}
use Rattle.demands.proofs.Numbers.{By, Fails, TableNumbers, WalkNumbers, by_then, by_length, by_utf8, by_level, by_settings, by_table, fails_reading, finished_done}
use Rattle.demands.proofs.RoundTrip.{UnescapesBack, unescape_write, level_reads, unescape_undeclared}
use Rattle.demands.proofs.Demands.{demand_3_equal, demand_3_again}

-- ---- success has the number 0, and no refusal has it

abbrev Not0 : ℕ → Type 0
Not0 n = n ≢ 0

not0 : (n : ℕ) → 1 ≤ n → Not0 n
not0 n h e = omega arith

-- what a call that answered 0 did after its checks, which let it pass
record Passed (c : Answer) (rest : Called) (words : List ℕ) (left : List (List ℕ)) : Type 0 where
  first : ℕ
  second : ℕ
  checks : c ≡ Done first second
  answers : rest ≡ called 0 words left

guarded_zero : (c : Answer) (buffers : List (List ℕ)) (rest : Called) {words : List ℕ} {left : List (List ℕ)} → By Not0 c
    → guarded c buffers rest ≡ called 0 words left → Passed c rest words left
guarded_zero (Done first second) buffers rest h e = record { first = first; second = second; checks = refl; answers = e }
guarded_zero (Refused why first second) buffers rest h e = absurd (h cc)

-- where checks end well, each of them did
record Both (x y : Answer) (first second : ℕ) : Type 0 where
  first' : ℕ
  second' : ℕ
  before : x ≡ Done first' second'
  later : y ≡ Done first second

then_done : (x y : Answer) {first second : ℕ} → and_then x y ≡ Done first second → Both x y first second
then_done (Done a b) y e = record { first' = a; second' = b; before = refl; later = e }
then_done (Refused why a b) y e = let z : ◌≡◌ {A = ℕ} 0 1 = cc in absurd (omega arith)

pub length_passes : (t : List ℕ) → length t ≤ 16777216 → length_check t ≡ passed
unfolding length_check
length_passes t l = rw (le-ltb 16777216 (length t) l)

pub utf8_passes : (t : List ℕ) → WellFormed t → utf8_check t ≡ passed
unfolding utf8_check
utf8_passes t h = rw (whole_end t h, eq-eqb (length t) (length t) refl)

utf8_done : (t : List ℕ) {first second : ℕ} → utf8_check t ≡ Done first second → WellFormed t
unfolding utf8_check
utf8_done t {first} {second} e = go (eqb (utf8_end t) (length t)) refl
  where
    go : (b : Bool) → eqb (utf8_end t) (length t) ≡ b → WellFormed t
    go true q = end_whole t (eqb-true (utf8_end t) (length t) q)
    go false q =
        let p : Refused 5 (utf8_end t) 0 ≡ Done first second = rw q at e in
        let z : ◌≡◌ {A = ℕ} 0 1 = cc in
        absurd (omega arith)

version_done : (version : ℕ) {first second : ℕ} → version_check version ≡ Done first second → known_version version ≡ true
unfolding version_check
version_done version {first} {second} e = go (known_version version) refl
  where
    go : (b : Bool) → known_version version ≡ b → b ≡ true
    go true q = refl
    go false q =
        let p : Refused 4 0 0 ≡ Done first second = rw q at e in
        let z : ◌≡◌ {A = ℕ} 0 1 = cc in
        absurd (omega arith)

-- ---- a table that its check accepts

table_numbers_lem : TableNumbers Not0
table_numbers_lem =
    record {
      six = not0 6 (omega arith);
      seven = not0 7 (omega arith);
      eight = not0 8 (omega arith);
      nine = not0 9 (omega arith);
    }

pub table_valid : (list pool : List ℕ) {declared : ℕ} → check_table_call list pool ≡ called 0 (declared ∷ 0 ∷ []) [] → ValidTable list pool
unfolding check_table_call
table_valid list pool {declared} e = go (table_check list pool) refl (by_table Not0 table_numbers_lem list pool) e
  where
    go : (c : Answer) → table_check list pool ≡ c → By Not0 c → call_of c [] ≡ called 0 (declared ∷ 0 ∷ []) [] → ValidTable list pool
    go (Done first second) q h k = checked_table list pool refl q
    go (Refused why first second) q h k = absurd (h cc)

-- the lists `0` and, marked, `3 0` are empty tables, beside any pool of at most 1,048,576 bytes
pub empty_accepted : (pool : List ℕ) → length pool ≤ 1048576 → EmptyTable (0 ∷ []) pool × EmptyTable (3 ∷ 0 ∷ []) pool
unfolding check_table_call table_check size_check
empty_accepted pool l = (rw (le-ltb 1048576 (length pool) l) refl, rw (le-ltb 1048576 (length pool) l) refl)

-- an empty table declares nothing
pub empty_declares : (list pool : List ℕ) → EmptyTable list pool → declarations list ≡ []
unfolding check_table_call
empty_declares list pool e = go (declarations list) (rw (table_valid list pool e) at e)
  where
    go : (ds : List Declaration) → called 0 (length ds ∷ 0 ∷ []) [] ≡ called 0 (0 ∷ 0 ∷ []) [] → ds ≡ []
    go [] q = refl
    go (d ∷ ds) q = let z : length (d ∷ ds) ≡ 0 = cc in absurd (omega arith)

-- ---- how a call finishes

-- a value laid over a buffer that has room for it
pub record Laid (value : List ℕ) (second : ℕ) (out words : List ℕ) (left : List (List ℕ)) : Type 0 where
  pub room : length value ≤ length out
  pub words_are : words ≡ length value ∷ second ∷ []
  pub left_is : left ≡ laid value out ∷ []

finish_zero : (value : List ℕ) (second : ℕ) (out : List ℕ) {words : List ℕ} {left : List (List ℕ)} → finish value second out ≡ called 0 words left
    → Laid value second out words left
unfolding finish
finish_zero value second out {words} {left} e = go (ltb (length out) (length value)) refl e
  where
    go : (b : Bool) → ltb (length out) (length value) ≡ b
        → pick b (called 19 (length value ∷ 0 ∷ []) (out ∷ [])) (called 0 (length value ∷ second ∷ []) (laid value out ∷ [])) ≡ called 0 words left
        → Laid value second out words left
    go true q p = absurd (not0 19 (omega arith) cc)
    go false q p = record { room = ltb-false (length out) (length value) q; words_are = cc; left_is = cc }

-- the first bytes of such a buffer
pub first_bytes : (value out : List ℕ) {n : ℕ} {left : List ℕ} → n ≡ length value → left ≡ laid value out → take n left ≡ value
first_bytes value out e q = rw (e, q) (take-append_seam value (drop (length value) out))

-- ---- demand 2

-- A text written by any set that reads back and is written in ASCII: 1 where the form is too long, else the text.
pub unescape_form : (set : Replacements) → UnescapesBack set → Ascii set → (t : List ℕ) → WellFormed t → (out : List ℕ)
    → unescape_call (write set t) (0 ∷ []) [] out ≡ guarded (length_check (write set t)) (out ∷ []) (finish t 0 out)
unfolding unescape_call declarations
unescape_form set back ascii t h out =
    rw (utf8_passes (write set t) (write_well_formed set ascii t h), empty_valid, unescape_write set back t, finished_done t 0 out)
    (go (length_check (write set t)))
  where
    go : (x : Answer) → guarded (and_then (and_then x passed) (Done 0 0)) (out ∷ []) (finish t 0 out) ≡ guarded x (out ∷ []) (finish t 0 out)
    go (Done first second) = refl
    go (Refused why first second) = refl

-- with an empty table, whatever its pool, the call answers as with the list `0` and no pool
pub unescape_empty : (text list pool out : List ℕ) → EmptyTable list pool → unescape_call text list pool out ≡ unescape_call text (0 ∷ []) [] out
unfolding unescape_call declarations
unescape_empty text list pool out e =
    let none = empty_declares list pool e in
    rw (table_valid list pool e, empty_valid, none, unescape_undeclared list pool none text)

-- demand 2 of any replacement set that reads back and is written in ASCII: a form of at most 16,777,216 bytes unescapes, with an empty
-- table, to its text
pub unescapes_to : (set : Replacements) → UnescapesBack set → Ascii set → (t : List ℕ) → WellFormed t → length (write set t) ≤ 16777216 → UnescapesTo t (write set t)
unescapes_to set back ascii t h l list pool out empty room =
    unescape_empty (write set t) list pool out empty
    ∙ unescape_form set back ascii t h out ∙ rw (length_passes (write set t) l) (sym (finish_laid t 0 out refl room refl))

-- what a writer that is asked for nothing but its text wrote where it answered 0
pub record WriterAnswered (text form out words : List ℕ) (left : List (List ℕ)) : Type 0 where
  pub utf8 : WellFormed text
  pub writes : Laid form 0 out words left

pub writer_answered : (text form out : List ℕ) {words : List ℕ} {left : List (List ℕ)} → guarded (text_check text) (out ∷ []) (finish form 0 out) ≡ called 0 words left
    → WriterAnswered text form out words left
writer_answered text form out e =
    let checked = by_then Not0 (length_check text) (utf8_check text) (by_length Not0 (not0 1 (omega arith)) text) (by_utf8 Not0 (not0 5 (omega arith)) text) in
    let p = guarded_zero (text_check text) (out ∷ []) (finish form 0 out) checked e in
    let u = (then_done (length_check text) (utf8_check text) p.checks).later in
    record { utf8 = utf8_done text u; writes = finish_zero form 0 out p.answers }

-- what an escape that answered 0 wrote
pub record Escaped (text : List ℕ) (level : ℕ) (out words : List ℕ) (left : List (List ℕ)) : Type 0 where
  pub utf8 : WellFormed text
  pub first : ℕ
  pub second : ℕ
  pub checks : argument_check text (level_check level) ≡ Done first second
  pub writes : Laid (write (level_set (level_of level)) text) 0 out words left

-- Where an escape answers 0, the text is UTF-8, and the output holds it written at the level.
pub escape_answered : (text : List ℕ) (level : ℕ) (out : List ℕ) {words : List ℕ} {left : List (List ℕ)} → escape_call text level out ≡ called 0 words left
    → Escaped text level out words left
unfolding escape_call
escape_answered text level out e =
    let form = write (level_set (level_of level)) text in
    let checked = by_then Not0 (length_check text) (and_then (level_check level) (utf8_check text)) (by_length Not0 (not0 1 (omega arith)) text)
    (by_then Not0 (level_check level) (utf8_check text) (by_level Not0 (not0 4 (omega arith)) level) (by_utf8 Not0 (not0 5 (omega arith)) text)) in
    let p = guarded_zero (argument_check text (level_check level)) (out ∷ []) (finish form 0 out) checked e in
    let u = (then_done (level_check level) (utf8_check text) (then_done (length_check text) (and_then (level_check level) (utf8_check text)) p.checks).later).later in
    record { utf8 = utf8_done text u; first = p.first; second = p.second; checks = p.checks; writes = finish_zero form 0 out p.answers }

-- Demand 2: a text escaped at any of the four levels into at most 16,777,216 bytes unescapes, with an empty table, to itself.
pub demand_2_calls : (text : List ℕ) (level : ℕ) (out : List ℕ) (size second : ℕ) (left : List ℕ)
    → escape_call text level out ≡ called 0 (size ∷ second ∷ []) (left ∷ []) → size ≤ 16777216 → UnescapesTo text (take size left)
demand_2_calls text level out size second left e l =
    let set = level_set (level_of level) in
    let q = escape_answered text level out e in
    let w = q.writes.words_are in
    let b = q.writes.left_is in
    let n : size ≡ length (write set text) = cc in
    let f : left ≡ laid (write set text) out = cc in
    rw (first_bytes (write set text) out n f)
    (unescapes_to set (level_reads (level_of level)) (level_ascii (level_of level)) text q.utf8 (rw n at l))

-- ---- demand 3: a call that answers 0 accepts

walk_numbers : WalkNumbers Not0
walk_numbers =
    record {
      texts = record {
        ten = not0 10 (omega arith);
        eleven = not0 11 (omega arith);
        twenty_seven = not0 27 (omega arith);
        numbers = record {
          twelve = not0 12 (omega arith);
          thirteen = not0 13 (omega arith);
          fourteen = not0 14 (omega arith);
          fifteen = not0 15 (omega arith);
        };
      };
      sixteen = not0 16 (omega arith);
      seventeen = not0 17 (omega arith);
    }

-- the checks and the walk of what is asked
abbrev check_of : Asked → Answer
check_of a = walk_check a.text a.version a.depth a.limit a.list a.pool

abbrev walked_of : Asked → Outcome
walked_of a = walked a.text a.version a.depth a.limit a.list a.pool

check_by : (a : Asked) → By Not0 (check_of a)
check_by a =
    let settings = settings_check a.version a.depth a.limit in
    by_then Not0 (argument_check a.text settings) (table_check a.list a.pool)
    (by_then Not0 (length_check a.text) (and_then settings (utf8_check a.text)) (by_length Not0 (not0 1 (omega arith)) a.text)
    (by_then Not0 settings (utf8_check a.text)
    (by_settings Not0 (not0 2 (omega arith)) (not0 3 (omega arith)) (not0 4 (omega arith)) a.version a.depth a.limit)
    (by_utf8 Not0 (not0 5 (omega arith)) a.text)))
    (by_table Not0 table_numbers_lem a.list a.pool)

-- what passes the checks of its arguments is taken
pub taken_by : (a : Asked) {first second : ℕ} → check_of a ≡ Done first second → Taken a
taken_by a e =
    let settings = settings_check a.version a.depth a.limit in
    let p = then_done (argument_check a.text settings) (table_check a.list a.pool) e in
    let q = then_done (length_check a.text) (and_then settings (utf8_check a.text)) p.before in
    let s = then_done settings (utf8_check a.text) q.later in
    let within = checked_settings a.version a.depth a.limit s.before in
    record {
      size = checked_length a.text (and_then settings (utf8_check a.text)) p.before;
      deep = within.0;
      most = within.1;
      known = version_done a.version within.2;
      utf8 = utf8_done a.text s.later;
      table = checked_table a.list a.pool refl p.later;
    }

-- and what is taken passes them
pub taken_passes : (a : Asked) → Taken a → check_of a ≡ Done (length (declarations a.list)) 0
unfolding settings_check version_check
taken_passes a t =
    rw (
      length_passes a.text t.size,
      le-ltb 128 a.depth t.deep,
      le-ltb 1000000 a.limit t.most,
      t.known,
      utf8_passes a.text t.utf8,
    )
    t.table

-- What normalization gives of an accepted value does not hang on the output: the value, or 19 where there is no room for it.
pub normalize_accepted : (a : Asked) (value : List ℕ) (openings : ℕ) → Accepted a value openings → (out : List ℕ) → normalize_of a out ≡ finish value openings out
unfolding normalize_attribute_value_call
normalize_accepted a value openings p out = rw (taken_passes a p.taken, p.reads) (finished_done value openings out)

-- What the canonical form gives of an accepted value does not hang on the buffers: the form, or 18 or 19 where there is no room.
pub canonical_accepted : (a : Asked) (value : List ℕ) (openings : ℕ) → Accepted a value openings → (scratch out : List ℕ)
    → canonical_of a scratch out ≡ formed (rule_for a) (done value openings) scratch out
unfolding canonical_form_call
canonical_accepted a value openings p scratch out = rw (taken_passes a p.taken, p.reads)

-- With room enough, normalization of an accepted value answers 0, the length and the openings.
pub normalize_roomy : (a : Asked) (value : List ℕ) (openings : ℕ) → Accepted a value openings → (out : List ℕ) → length value ≤ length out
    → normalize_of a out ≡ called 0 (length value ∷ openings ∷ []) (laid value out ∷ [])
normalize_roomy a value openings p out room = normalize_accepted a value openings p out ∙ sym (finish_laid value openings out refl room refl)

-- With room enough, the canonical form of an accepted value answers 0, the form's length and the openings.
pub canonical_roomy : (a : Asked) (value : List ℕ) (openings : ℕ) → Accepted a value openings → (scratch out : List ℕ)
    → 4 ≤ length scratch → length (form_of a value) ≤ length out
    → canonical_of a scratch out ≡ called 0 (length (form_of a value) ∷ openings ∷ []) (handed value scratch ∷ laid (form_of a value) out ∷ [])
canonical_roomy a value openings p scratch out room space =
    canonical_accepted a value openings p scratch out ∙ in_hand_done (rule_for a) value openings scratch out room space

-- ---- and a call that answered 0 accepted

-- what normalization that answered 0 left, whatever was lent
pub record Normalized (a : Asked) (out words : List ℕ) (buffers : List (List ℕ)) : Type 0 where
  pub value : List ℕ
  pub openings : ℕ
  pub accepted : Accepted a value openings
  pub holds : Laid value openings out words buffers

-- Demand 1: where normalization answers 0, what it was asked passed all of 1 to 9, and the output holds the value that the walk made.
pub normalize_answered : (a : Asked) (out : List ℕ) {words : List ℕ} {buffers : List (List ℕ)} → normalize_of a out ≡ called 0 words buffers
    → Normalized a out words buffers
unfolding normalize_attribute_value_call finished
normalize_answered a out {words} {buffers} e =
    let p = guarded_zero (check_of a) (out ∷ []) (finished (walked_of a) out) (check_by a) e in
    go (walked_of a) refl (taken_by a p.checks) p.answers (fails_reading Not0 walk_numbers (rule_for a) a.list a.pool a.limit a.depth a.text)
  where
    go : (o : Outcome) → walked_of a ≡ o → Taken a → finished o out ≡ called 0 words buffers → Fails Not0 o → Normalized a out words buffers
    go (done value made) q t k f =
        record {
          value = value;
          openings = made;
          accepted = record { taken = t; reads = q };
          holds = finish_zero value made out (sym (finished_done value made out) ∙ k);
        }
    go (refused before made why first second) q t k f = absurd (f cc)

pub record Formed (a : Asked) (scratch out words : List ℕ) (buffers : List (List ℕ)) : Type 0 where
  pub value : List ℕ
  pub openings : ℕ
  pub accepted : Accepted a value openings
  pub room : 4 ≤ length scratch
  pub space : length (form_of a value) ≤ length out
  pub words_are : words ≡ length (form_of a value) ∷ openings ∷ []
  pub buffers_are : buffers ≡ handed value scratch ∷ laid (form_of a value) out ∷ []

-- Demand 1: where the canonical form answers 0, what it was asked passed all of 1 to 9, the scratch holds the last character of the value that
-- the walk made, and the output its form.
pub canonical_answered : (a : Asked) (scratch out : List ℕ) {words : List ℕ} {buffers : List (List ℕ)} → canonical_of a scratch out ≡ called 0 words buffers
    → Formed a scratch out words buffers
unfolding canonical_form_call formed finish
canonical_answered a scratch out {words} {buffers} e =
    let p = guarded_zero (check_of a) (scratch ∷ out ∷ []) (formed (rule_for a) (walked_of a) scratch out) (check_by a) e in
    go (walked_of a) refl (taken_by a p.checks) p.answers (fails_reading Not0 walk_numbers (rule_for a) a.list a.pool a.limit a.depth a.text)
  where
    written : (value : List ℕ) (made : ℕ) → walked_of a ≡ done value made → Taken a → (b : Bool) → ltb (length scratch) 4 ≡ b
        → (short : Bool) → ltb (length out) (length (form_of a value)) ≡ short
        → pick b (called 18 (4 ∷ 0 ∷ []) (scratch ∷ out ∷ []))
        (besides (pick short scratch (handed value scratch))
        (pick short (called 19 (length (form_of a value) ∷ 0 ∷ []) (out ∷ [])) (called 0 (length (form_of a value) ∷ made ∷ []) (laid (form_of a value) out ∷ []))))
        ≡ called 0 words buffers
        → Formed a scratch out words buffers
    written value made q t true h short g k = absurd (not0 18 (omega arith) cc)
    written value made q t false h true g k = absurd (not0 19 (omega arith) cc)
    written value made q t false h false g k =
        record {
          value = value;
          openings = made;
          accepted = record { taken = t; reads = q };
          room = ltb-false (length scratch) 4 h;
          space = ltb-false (length out) (length (form_of a value)) g;
          words_are = cc;
          buffers_are = cc;
        }

    go : (o : Outcome) → walked_of a ≡ o → Taken a → formed (rule_for a) o scratch out ≡ called 0 words buffers → Fails Not0 o → Formed a scratch out words buffers
    go (done value made) q t k f = written value made q t (ltb (length scratch) 4) refl (ltb (length out) (length (form_of a value))) refl k
    go (refused before made why first second) q t k f = absurd (f cc)

-- ---- demand 3

-- the calls' value and form are the definitions'
pub record Read (a : Asked) (x : Answered a) : Type 0 where
  pub accepted : Accepted a (value_of a x) x.openings
  pub size : x.form_size ≡ length (form_of a (value_of a x))
  pub form : written_of a x ≡ form_of a (value_of a x)
  pub same : x.form_openings ≡ x.openings
  pub scratch : x.held ≡ handed (value_of a x) x.scratch

-- What the calls of an `Answered` left are the definitions' value and form, with the same openings.
pub answered_reads : (a : Asked) (x : Answered a) → Read a x
answered_reads a x =
    let n = normalize_answered a x.out x.normalizes in
    let f = canonical_answered a x.scratch x.form_out x.writes in
    let d : done n.value n.openings ≡ done f.value f.openings = sym n.accepted.reads ∙ f.accepted.reads in
    let w = f.words_are in
    let b = f.buffers_are in
    let wn = n.holds.words_are in
    let bn = n.holds.left_is in
    let u : n.value ≡ f.value = cc in
    let made : n.openings ≡ x.openings = cc in
    let long : x.size ≡ length n.value = cc in
    let whole : x.left ≡ laid n.value x.out = cc in
    let value : value_of a x ≡ n.value = first_bytes n.value x.out long whole in
    let v : f.value ≡ value_of a x = sym u ∙ sym value in
    let size : x.form_size ≡ length (form_of a f.value) = cc in
    let held : x.held ≡ handed f.value x.scratch = cc in
    let left : x.form_left ≡ laid (form_of a f.value) x.form_out = cc in
    record {
      accepted = record { taken = n.accepted.taken; reads = n.accepted.reads ∙ ap₂ done (sym value) made };
      size = size ∙ ap (λ (t : List ℕ). length (form_of a t)) v;
      form = first_bytes (form_of a f.value) x.form_out size left ∙ ap (form_of a) v;
      same = cc;
      scratch = held ∙ ap (λ (t : List ℕ). handed t x.scratch) v;
    }

-- demand 3's premise: an accepted value is answered by both calls where there is room; here in buffers of just the length needed
pub accepted_answered : (a : Asked) (value : List ℕ) (openings : ℕ) → Accepted a value openings → (out : List ℕ) → length value ≤ length out
    → Completed a (length value ∷ openings ∷ []) (laid value out ∷ [])
accepted_answered a value openings p out room =
    let form = form_of a value in
    record {
      answered = record {
        out = out;
        size = length value;
        openings = openings;
        left = laid value out;
        normalizes = normalize_roomy a value openings p out room;
        scratch = 0 ∷ 0 ∷ 0 ∷ 0 ∷ [];
        form_out = form;
        form_size = length form;
        form_openings = openings;
        held = handed value (0 ∷ 0 ∷ 0 ∷ 0 ∷ []);
        form_left = laid form form;
        writes = canonical_roomy a value openings p (0 ∷ 0 ∷ 0 ∷ 0 ∷ []) form (omega arith) (omega arith);
      };
      words_are = refl;
      buffers_are = refl;
    }

-- demand 3's premise from acceptance alone: a value whose normalization answers 0, with any output, is `Answered`, by what this call left
pub normalize_completes : (a : Asked) (out : List ℕ) {words : List ℕ} {buffers : List (List ℕ)} → normalize_of a out ≡ called 0 words buffers
    → Completed a words buffers
normalize_completes a out e =
    let n = normalize_answered a out e in
    let c = accepted_answered a n.value n.openings n.accepted out n.holds.room in
    record { answered = c.answered; words_are = n.holds.words_are ∙ c.words_are; buffers_are = n.holds.left_is ∙ c.buffers_are }

-- Demand 3, first half: two accepted values of one XML version, each read with its own table, depth and opening limit, are equal exactly
-- when their canonical forms are equal, in length and in every byte.
pub demand_3_calls_equal : (a b : Asked) → rule_for a ≡ rule_for b → (x : Answered a) (y : Answered b) → CallsEqualExactly a b x y
demand_3_calls_equal a b e x y =
    let p = answered_reads a x in
    let q = answered_reads b y in
    let both = demand_3_equal a b (value_of a x) (value_of b y) x.openings y.openings e p.accepted q.accepted in (
      λ h. (p.size ∙ ap length (both.0 h) ∙ sym q.size, p.form ∙ both.0 h ∙ sym q.form),
      λ h. both.1 (sym p.form ∙ h.1 ∙ q.form),
    )

-- Demand 3, second half: a canonical form of at most 16,777,216 bytes, normalized under its version with room enough, is accepted, gives
-- exactly the value it was written from, with an opening count of 0, and its canonical form is itself, byte for byte.
pub demand_3_calls_again : (a : Asked) (x : Answered a) (b : Asked) → CallAgain a x b → CallRereads (value_of a x) b
demand_3_calls_again a x b c =
    let p = answered_reads a x in
    let again : AskedAgain a (value_of a x) b =
    record {
      form = c.form ∙ p.form;
      size = rw (c.form, p.form, sym p.size) (omega (arith, c.size));
      version = c.version;
      known = c.known;
      shallow = c.shallow;
      deep = c.deep;
      most = c.most;
      table = table_valid b.list b.pool c.table;
      free = c.free;
    } in
    let r = demand_3_again a (value_of a x) x.openings p.accepted b again in
    record {
      normalizes = normalize_roomy b (value_of a x) 0 r.accepted;
      writes = λ scratch out room space.
          subst (λ (f : List ℕ). canonical_of b scratch out ≡ called 0 (length f ∷ 0 ∷ []) (handed (value_of a x) scratch ∷ laid f out ∷ [])) r.itself
          (canonical_roomy b (value_of a x) 0 r.accepted scratch out room (rw r.itself space));
    }
