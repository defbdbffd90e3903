-- The canonical form of an outcome (document 01, Canonical form and Refusals by place; document 02, K7). Assumes nothing.
use Rattle.std.specs.Prelude.{List, [], ◌∷◌, ℕ, ◌≤◌, ltb, length}
use Rattle.text.specs.Bytes.{pick}
use Rattle.text.specs.Version.{Rule}
use Rattle.text.specs.Call.{Called, called, laid, finish}
use Rattle.canonical.specs.Canonical.{canonical}
use Rattle.canonical.specs.LastCharacter.{in_hand}
use Rattle.tokens.specs.Outcome.{Outcome, done, refused}

-- a call's answer with one buffer more in front of its own
abbrev pub besides : List ℕ → Called → Called
besides scratch (called number words buffers) = called number words (scratch ∷ buffers)

-- document 01 before K7: 18 where the scratch is shorter than the value; else it holds the value, its rest kept, with 19 too, and the form goes to
-- the output. No call gives this now: it says what K7's form, openings and refusals are the same as (requests/proofs/SmallScratch.antt)
unfoldable pub formed_whole : Rule → Outcome → List ℕ → List ℕ → Called
unfolding finish canonical
formed_whole r (done value openings) scratch out =
    pick (ltb (length scratch) (length value)) (called 18 (length value ∷ 0 ∷ []) (scratch ∷ out ∷ []))
    (besides (laid value scratch) (finish (canonical r value) openings out))
formed_whole r (refused before openings number first second) scratch out = called number (first ∷ second ∷ []) (scratch ∷ out ∷ [])

-- K7: after success the first 4 bytes of the scratch are the last character of the value, its rest is kept; an empty value leaves all of it
abbrev pub handed : List ℕ → List ℕ → List ℕ
handed [] scratch = scratch
handed (b ∷ bs) scratch = laid (in_hand (b ∷ bs)) scratch

-- K7: 18 where the scratch is shorter than 4 bytes; then 19, which leaves it
unfoldable pub formed : Rule → Outcome → List ℕ → List ℕ → Called
unfolding finish canonical in_hand
formed r (done value openings) scratch out =
    pick (ltb (length scratch) 4) (called 18 (4 ∷ 0 ∷ []) (scratch ∷ out ∷ []))
    (besides (pick (ltb (length out) (length (canonical r value))) scratch (handed value scratch)) (finish (canonical r value) openings out))
formed r (refused before openings number first second) scratch out = called number (first ∷ second ∷ []) (scratch ∷ out ∷ [])

-- K7, the terms of "the same form, openings and refusals": a call's answer without its first buffer
abbrev pub without_scratch : Called → Called
without_scratch (called number words []) = called number words []
without_scratch (called number words (scratch ∷ buffers)) = called number words buffers

-- room enough for what document 01 lays in the scratch
abbrev pub HoldsWhole : Outcome → List ℕ → Type 0
HoldsWhole (done value openings) scratch = length value ≤ length scratch
HoldsWhole (refused before openings number first second) scratch = Unit {0}
