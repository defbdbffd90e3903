-- `seams`: the starred rows of document 01's test seams, as one table of calls, for every version byte and with outputs of any length and
-- content; and, in `form10`, that U+0085 stays as it is in a canonical form under 1.0. Assumes nothing.
use mathlib.Core.Path.{◌≡◌, refl, sym, ◌∙◌}
use Prim.Native.Nat.{ℕ, zero, suc, ◌≤◌}
use native.Mathlib.Omega.{arith}
use mathlib.Core.Bool.{true}
use mathlib.Core.List.{List, [], ◌∷◌}
use lib.ListN.{length}
use borrow.Author.Tests.{leb-true}
use Rattle.text.specs.Version.{known_version}
use Rattle.text.specs.Utf8.{utf8_end}
use Rattle.text.specs.Call.{Called, called, laid, finish, length_check, version_check, utf8_check}
use Rattle.output.proofs.Finish.{finish_laid}
use Rattle.charref.specs.CharRef.{char_number, number_answer}
use Rattle.escape.specs.Escape.{level_check, write, level_of, level_set}
use Rattle.eols.specs.LineEnds.{eols}
use Rattle.utils.specs.CData.{cdata_step, piece_answer}
use Rattle.utils.specs.Pieces.{cursor_at}
use Rattle.entity.specs.Table.{table_check}
use Rattle.entity.specs.Binding.{binding}
use Rattle.tokens.specs.Outcome.{done, finished}
use Rattle.unescape.specs.Unescape.{unescape}
use Rattle.attribute.specs.Checks.{settings_check}
use Rattle.attribute.specs.Walk.{normalize, reading_of}
use Rattle.attribute.specs.Form.{formed}
use Rattle.canonical.specs.Canonical.{canonical}
use Rattle.govlezna.specs.declared.CDataNext.{CDataNext}
use Rattle.govlezna.specs.Calls.{parse_number_call, escape_call, normalize_eols_call, cdata_next_call, check_table_call, unescape_call, normalize_attribute_value_call, canonical_form_call}
use Rattle.demands.specs.CDataCalls.{call_from, call_after}
use Rattle.demands.proofs.Numbers.{finished_done}

-- ---- the forms of a row

-- with any output that has room the call gives this value and second word, and keeps the output's rest
abbrev Gives : (List ℕ → Called) → List ℕ → ℕ → Type 0
Gives call value second = (out : List ℕ) → length value ≤ length out → call out ≡ called 0 (length value ∷ second ∷ []) (laid value out ∷ [])

-- with any output the call refuses by this number and these words, and leaves the output
abbrev Says : (List ℕ → Called) → ℕ → ℕ → ℕ → Type 0
Says call number first second = (out : List ℕ) → call out ≡ called number (first ∷ second ∷ []) (out ∷ [])

gives : {call : List ℕ → Called} (value : List ℕ) (second : ℕ) → ((out : List ℕ) → call out ≡ finish value second out) → Gives call value second
gives value second e out h = e out ∙ sym (finish_laid value second out refl h refl)

walk_gives : {call : List ℕ → Called} (value : List ℕ) (second : ℕ) → ((out : List ℕ) → call out ≡ finished (done value second) out) → Gives call value second
walk_gives value second e = gives value second (λ out. e out ∙ finished_done value second out)

-- ---- the calls, as the rows ask them

-- with an empty table
unescaped : List ℕ → List ℕ → Called
unescaped t out = unescape_call t (0 ∷ []) [] out

-- with an empty table, at depth 1, with no opening
value : ℕ → List ℕ → List ℕ → Called
value version t out = normalize_attribute_value_call t version 1 0 (0 ∷ []) [] out

-- the table that defines `e` as `&e;`
abbrev loop_table : List ℕ
loop_table = 1 ∷ 0 ∷ 0 ∷ 0 ∷ 0 ∷ 1 ∷ 1 ∷ 0 ∷ 0 ∷ 0 ∷ 3 ∷ 0 ∷ 0 ∷ []

abbrev loop_pool : List ℕ
loop_pool = 101 ∷ 38 ∷ 101 ∷ 59 ∷ []

-- the table that defines `amp` as `X`
abbrev amp_table : List ℕ
amp_table = 1 ∷ 0 ∷ 0 ∷ 0 ∷ 0 ∷ 3 ∷ 3 ∷ 0 ∷ 0 ∷ 0 ∷ 1 ∷ 0 ∷ 0 ∷ []

abbrev amp_pool : List ℕ
amp_pool = 97 ∷ 109 ∷ 112 ∷ 88 ∷ []

-- a piece, and the cursor after it
piece : ℕ → ℕ → ℕ → ℕ → CDataNext
piece start size offset flag = record { number = 0; words = start ∷ size ∷ []; next = cursor_at offset flag }

no_more : ℕ → CDataNext
no_more offset = record { number = 255; words = 0 ∷ 0 ∷ []; next = cursor_at offset 1 }

-- ---- the rows

-- the levels
Escapes : Type 0
Escapes =
    Gives (escape_call (97 ∷ 60 ∷ 98 ∷ 9 ∷ []) 3) (97 ∷ 38 ∷ 108 ∷ 116 ∷ 59 ∷ 98 ∷ 38 ∷ 35 ∷ 57 ∷ 59 ∷ []) 0  -- a<bT: a&lt;b&#9;
    × Gives (escape_call (62 ∷ 39 ∷ []) 2) (62 ∷ 39 ∷ []) 0  -- >'

escapes : Escapes
unfolding Escapes escape_call length_check utf8_check utf8_end level_check write level_of level_set
escapes = (gives (97 ∷ 38 ∷ 108 ∷ 116 ∷ 59 ∷ 98 ∷ 38 ∷ 35 ∷ 57 ∷ 59 ∷ []) 0 (λ out. refl), gives (62 ∷ 39 ∷ []) 0 (λ out. refl))

-- unescaping, and the tables that the rows below have too
References : Type 0
References =
    Says (unescaped (38 ∷ 97 ∷ 38 ∷ 98 ∷ 59 ∷ [])) 10 0 5  -- &a&b;
    × Gives (unescaped (38 ∷ 35 ∷ 120 ∷ 52 ∷ 49 ∷ 59 ∷ 38 ∷ 35 ∷ 54 ∷ 53 ∷ 59 ∷ [])) (65 ∷ 65 ∷ []) 0  -- &#x41;&#65;: AA
    × Says (unescaped (38 ∷ 35 ∷ 43 ∷ 49 ∷ 59 ∷ [])) 12 0 0  -- &#+1;
    × Says (unescaped (38 ∷ 35 ∷ 88 ∷ 52 ∷ 49 ∷ 59 ∷ [])) 13 0 0  -- &#X41;
    × Says (unescaped (38 ∷ 35 ∷ 120 ∷ 68 ∷ 56 ∷ 48 ∷ 48 ∷ 59 ∷ [])) 14 55296 0  -- &#xD800;
    × Says (unescaped (38 ∷ 35 ∷ 48 ∷ 59 ∷ [])) 15 0 0  -- &#0;
    × (check_table_call loop_table loop_pool ≡ called 0 (1 ∷ 0 ∷ []) [])  -- e = &e;
    × (check_table_call amp_table amp_pool ≡ called 0 (1 ∷ 0 ∷ []) [])  -- amp = X
    × Gives (unescape_call (38 ∷ 97 ∷ 109 ∷ 112 ∷ 59 ∷ []) amp_table amp_pool) (88 ∷ []) 0  -- &amp;: X

references : References
unfolding References unescaped unescape_call check_table_call length_check utf8_check utf8_end finished unescape binding table_check
references = (
  (λ out. refl),
  walk_gives (65 ∷ 65 ∷ []) 0 (λ out. refl),
  (λ out. refl),
  (λ out. refl),
  (λ out. refl),
  (λ out. refl),
  refl,
  refl,
  walk_gives (88 ∷ []) 0 (λ out. refl),
)

-- the same numbers by themselves
Numbers : Type 0
Numbers =
    (parse_number_call (120 ∷ 52 ∷ 49 ∷ []) ≡ called 0 (65 ∷ 0 ∷ []) [])  -- x41
    × (parse_number_call (54 ∷ 53 ∷ []) ≡ called 0 (65 ∷ 0 ∷ []) [])  -- 65
    × (parse_number_call (43 ∷ 49 ∷ []) ≡ called 12 (0 ∷ 0 ∷ []) [])  -- +1
    × (parse_number_call (88 ∷ 52 ∷ 49 ∷ []) ≡ called 13 (0 ∷ 0 ∷ []) [])  -- X41
    × (parse_number_call (120 ∷ 68 ∷ 56 ∷ 48 ∷ 48 ∷ []) ≡ called 14 (55296 ∷ 0 ∷ []) [])  -- xD800
    × (parse_number_call (48 ∷ []) ≡ called 15 (0 ∷ 0 ∷ []) [])  -- 0

numbers : Numbers
unfolding Numbers parse_number_call length_check utf8_check utf8_end char_number number_answer
numbers = (refl, refl, refl, refl, refl, refl)

-- CDATA
Handed : Type 0
Handed =
    (call_after 0 [] ≡ piece 0 0 0 1)  -- the empty text: one empty piece
    × (call_after 1 [] ≡ no_more 0)
    × (call_after 0 (93 ∷ 93 ∷ 62 ∷ 93 ∷ 93 ∷ 62 ∷ []) ≡ piece 0 2 2 0)  -- ]]>]]>: ]], >]], >
    × (call_after 1 (93 ∷ 93 ∷ 62 ∷ 93 ∷ 93 ∷ 62 ∷ []) ≡ piece 2 3 5 0)
    × (call_after 2 (93 ∷ 93 ∷ 62 ∷ 93 ∷ 93 ∷ 62 ∷ []) ≡ piece 5 1 5 1)
    × (call_after 3 (93 ∷ 93 ∷ 62 ∷ 93 ∷ 93 ∷ 62 ∷ []) ≡ no_more 5)

handed : Handed
unfolding Handed piece no_more call_from cdata_next_call length_check utf8_check utf8_end cdata_step piece_answer
handed = (refl, refl, refl, refl, refl, refl)

-- attribute values and line ends
Versioned : ℕ → Type 0
Versioned v =
    Says (value v (38 ∷ 97 ∷ 38 ∷ 98 ∷ 59 ∷ [])) 11 1 4  -- &a&b;
    × Gives (value v (38 ∷ 35 ∷ 120 ∷ 52 ∷ 49 ∷ 59 ∷ 38 ∷ 35 ∷ 54 ∷ 53 ∷ 59 ∷ [])) (65 ∷ 65 ∷ []) 0  -- &#x41;&#65;: AA
    × Says (value v (38 ∷ 35 ∷ 43 ∷ 49 ∷ 59 ∷ [])) 12 0 0  -- &#+1;
    × Says (value v (38 ∷ 35 ∷ 88 ∷ 52 ∷ 49 ∷ 59 ∷ [])) 13 0 0  -- &#X41;
    × Says (value v (38 ∷ 35 ∷ 120 ∷ 68 ∷ 56 ∷ 48 ∷ 48 ∷ 59 ∷ [])) 14 55296 0  -- &#xD800;
    × Says (value v (38 ∷ 35 ∷ 48 ∷ 59 ∷ [])) 15 0 0  -- &#0;
    × Gives (normalize_eols_call (13 ∷ 13 ∷ 10 ∷ []) v) (10 ∷ 10 ∷ []) 0  -- CR CR LF: LF LF
    × Says (normalize_attribute_value_call (97 ∷ 9 ∷ []) v 0 0 (0 ∷ []) []) 16 0 0  -- aT, depth 0
    × Says (normalize_attribute_value_call (38 ∷ 101 ∷ 59 ∷ []) v 3 3 loop_table loop_pool) 16 0 0  -- &e; of e = &e;, depth 3, limit 3
    × Says (normalize_attribute_value_call (38 ∷ 101 ∷ 59 ∷ []) v 3 2 loop_table loop_pool) 17 0 0  -- limit 2
    × Gives (normalize_attribute_value_call (38 ∷ 97 ∷ 109 ∷ 112 ∷ 59 ∷ []) v 1 0 amp_table amp_pool) (38 ∷ []) 0  -- &amp; of amp = X: &

versioned : (v : ℕ) → known_version v ≡ true → Versioned v
unfolding Versioned value normalize_attribute_value_call normalize_eols_call length_check version_check settings_check utf8_check utf8_end finished table_check normalize reading_of eols
versioned zero h = (
  (λ out. refl),
  walk_gives (65 ∷ 65 ∷ []) 0 (λ out. refl),
  (λ out. refl),
  (λ out. refl),
  (λ out. refl),
  (λ out. refl),
  gives (10 ∷ 10 ∷ []) 0 (λ out. refl),
  (λ out. refl),
  (λ out. refl),
  (λ out. refl),
  walk_gives (38 ∷ []) 0 (λ out. refl),
)
versioned (suc zero) h = (
  (λ out. refl),
  walk_gives (65 ∷ 65 ∷ []) 0 (λ out. refl),
  (λ out. refl),
  (λ out. refl),
  (λ out. refl),
  (λ out. refl),
  gives (10 ∷ 10 ∷ []) 0 (λ out. refl),
  (λ out. refl),
  (λ out. refl),
  (λ out. refl),
  walk_gives (38 ∷ []) 0 (λ out. refl),
)
versioned (suc (suc zero)) h = (
  (λ out. refl),
  walk_gives (65 ∷ 65 ∷ []) 0 (λ out. refl),
  (λ out. refl),
  (λ out. refl),
  (λ out. refl),
  (λ out. refl),
  gives (10 ∷ 10 ∷ []) 0 (λ out. refl),
  (λ out. refl),
  (λ out. refl),
  (λ out. refl),
  walk_gives (38 ∷ []) 0 (λ out. refl),
)
versioned (suc (suc (suc n))) h = absurd (omega (arith, leb-true (suc (suc (suc n))) 2 h))

-- the starred rows together, for every version byte that is known
seams : (v : ℕ) → known_version v ≡ true → Escapes × References × Numbers × Handed × Versioned v
seams v h = (escapes, references, numbers, handed, versioned v h)

-- U+0085 under 1.0, implicit and explicit, with a byte to spare in both buffers
form10 :
    (canonical_form_call (0xC2 ∷ 0x85 ∷ []) 0 1 0 (0 ∷ []) [] (7 ∷ 7 ∷ 7 ∷ 7 ∷ 7 ∷ []) (8 ∷ 8 ∷ 8 ∷ []) ≡ called 0 (2 ∷ 0 ∷ []) ((0xC2 ∷ 0x85 ∷ 0 ∷ 0 ∷ 7 ∷ []) ∷ (0xC2 ∷ 0x85 ∷ 8 ∷ []) ∷ []))
    × (canonical_form_call (0xC2 ∷ 0x85 ∷ []) 1 1 0 (0 ∷ []) [] (7 ∷ 7 ∷ 7 ∷ 7 ∷ 7 ∷ []) (8 ∷ 8 ∷ 8 ∷ []) ≡ called 0 (2 ∷ 0 ∷ []) ((0xC2 ∷ 0x85 ∷ 0 ∷ 0 ∷ 7 ∷ []) ∷ (0xC2 ∷ 0x85 ∷ 8 ∷ []) ∷ []))
unfolding canonical_form_call length_check settings_check utf8_check utf8_end table_check formed normalize reading_of canonical
form10 = (refl, refl)
