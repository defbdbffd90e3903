-- What the calls of demands 2 and 3 leave behind when one is run after the other. Assumes nothing.
use Rattle.std.specs.Prelude.{ℕ, List, [], ◌∷◌, ltb, length}
use Rattle.text.specs.Bytes.{pick}
use Rattle.text.specs.Version.{Rule, rule_of}
use Rattle.text.specs.Call.{Called, called, guarded, laid, finish, length_check, argument_check}
use Rattle.escape.specs.Escape.{level_check, level_of, level_set, write}
use Rattle.tokens.specs.Outcome.{Outcome, done, refused}
use Rattle.canonical.specs.Canonical.{canonical}
use Rattle.attribute.specs.Form.{besides, handed}
use Rattle.govlezna.specs.Calls.{walk_check, walked}

-- a form that is read into a buffer as `value`: 1 where the form is over 16,777,216 bytes, 19 where the buffer is too short
abbrev pub read_as : List ℕ → List ℕ → List ℕ → Called
read_as form value back = guarded (length_check form) (back ∷ []) (finish value 0 back)

-- a form written to one buffer, 19 where that is too short; then read into the other
abbrev pub form_then : List ℕ → List ℕ → List ℕ → List ℕ → Called
form_then form value out back =
    pick (ltb (length out) (length form)) (called 19 (length form ∷ 0 ∷ []) (out ∷ back ∷ [])) (besides (laid form out) (read_as form value back))

-- demand 2: the text escaped into one buffer, and unescaped, with an empty table, into the other as itself
unfoldable pub escaped_back : List ℕ → ℕ → List ℕ → List ℕ → Called
escaped_back text level out back =
    guarded (argument_check text (level_check level)) (out ∷ back ∷ []) (form_then (write (level_set (level_of level)) text) text out back)

-- demand 3: the canonical form, and the canonical form of that, which is itself; the scratch holds the last character of the value of both
unfoldable pub formed_twice : Rule → Outcome → List ℕ → List ℕ → List ℕ → Called
formed_twice r (done value openings) scratch out again =
    pick (ltb (length scratch) 4) (called 18 (4 ∷ 0 ∷ []) (scratch ∷ out ∷ again ∷ []))
    (besides (pick (ltb (length out) (length (canonical r value))) scratch (handed value scratch)) (form_then (canonical r value) (canonical r value) out again))
formed_twice r (refused before openings number first second) scratch out again = called number (first ∷ second ∷ []) (scratch ∷ out ∷ again ∷ [])

unfoldable pub canonical_twice : List ℕ → ℕ → ℕ → ℕ → List ℕ → List ℕ → List ℕ → List ℕ → List ℕ → Called
unfolding formed_twice
canonical_twice text version depth limit list pool scratch out again =
    guarded (walk_check text version depth limit list pool) (scratch ∷ out ∷ again ∷ [])
    (formed_twice (rule_of version) (walked text version depth limit list pool) scratch out again)
