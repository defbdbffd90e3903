-- The forecast (document 02, K6 and K9): pairs of words for each definition at each depth, and the walk's answer. Assumes nothing.
use Rattle.std.specs.Prelude.{ℕ, zero, suc, ◌+◌, List, [], ◌∷◌, ◌++◌, length, eqb, ltb}
use Rattle.text.specs.Bytes.{pick}
use Rattle.text.specs.Call.{Called, called, laid}
use Rattle.entity.specs.Table.{Body, inside, outside, Declaration, text_of, declarations}
use Rattle.tokens.specs.Outcome.{Outcome, done, refused}
use Rattle.attribute.specs.Walk.{Settings, walk, normalize}

-- what a pair is made of: length and openings; or the refusal's number and the openings made until then
pub data Sum : Type 0 where
  sized : ℕ → ℕ → Sum
  fails : ℕ → ℕ → Sum

unfoldable pub summary : Outcome → Sum
summary (done value openings) = sized (length value) openings
summary (refused before openings number first second) = fails number openings

-- the same settings with another limit
abbrev pub relimit : Settings → ℕ → Settings
relimit s limit = record { outer = s.outer; inner = s.inner; bind = s.bind; limit = limit; legal = s.legal }

-- K6: "its text's length as walked with that depth", whatever the call's limit: counts go up to 1,000,000
unfoldable pub pair_at : Settings → ℕ → List ℕ → Sum
unfolding summary walk
pair_at s depth t = summary (walk (relimit s 1000000) s.inner depth t 0)

-- K6: "the first is its text's length as walked with that depth, or 2^63 plus the refusal number"; "counts above 1,000,000 are held as
-- 1,000,001, with a first word of 0": such a count is 17 at that limit
unfoldable pub first_word : Sum → ℕ
first_word (sized len openings) = len
first_word (fails number openings) = pick (eqb number 17) 0 (9223372036854775808 + number)

-- K6: "the second is the openings made until then"
unfoldable pub second_word : Sum → ℕ
second_word (sized len openings) = openings
second_word (fails number openings) = pick (eqb number 17) 1000001 openings

-- a definition at a depth; K9: the words of command 2 are 0
unfoldable pub body_words : Settings → List ℕ → ℕ → Body → List ℕ
unfolding first_word second_word pair_at text_of
body_words s pool depth (inside start size) =
    let pair = pair_at s depth (text_of pool (inside start size)) in
    first_word pair ∷ second_word pair ∷ []
body_words s pool depth outside = 0 ∷ 0 ∷ []

-- a definition's row: at `count` depths from `depth` on
unfoldable pub row_from : Settings → List ℕ → Body → ℕ → ℕ → List ℕ
unfolding body_words
row_from s pool body depth zero = []
row_from s pool body depth (suc count) = body_words s pool depth body ++ row_from s pool body (suc depth) count

-- K6: a pair for each definition at each depth from 0 to the call's, at word 2 × (definitions before it × (the call's depth + 1) + depth)
unfoldable pub all_rows : Settings → List ℕ → ℕ → List Declaration → List ℕ
unfolding row_from
all_rows s pool depth [] = []
all_rows s pool depth (d ∷ ds) = row_from s pool d.body 0 (suc depth) ++ all_rows s pool depth ds

-- K6: the walk's length and openings, or "the number by which the walk would refuse it, first and second 0"
unfoldable pub forecast_called : Outcome → List ℕ → Called
forecast_called (done value openings) words = called 0 (length value ∷ openings ∷ []) (words ∷ [])
forecast_called (refused before openings number first second) words = called number (0 ∷ 0 ∷ []) (words ∷ [])

-- K6: 24 when the words are too few, with the number needed, no word changed; else all pairs are filled, also when the walk refuses the
-- value, and other words stay
unfoldable pub forecast : Settings → ℕ → List ℕ → List ℕ → List ℕ → List ℕ → Called
unfolding forecast_called all_rows declarations normalize
forecast s depth list pool t words =
    let rows = all_rows s pool depth (declarations list) in
    pick (ltb (length words) (length rows)) (called 24 (length rows ∷ 0 ∷ []) (words ∷ []))
    (forecast_called (normalize s depth t) (laid rows words))
