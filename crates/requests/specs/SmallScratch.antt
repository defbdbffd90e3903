-- K7, the canonical form from a small scratch (document 02), stated of both calls. Assumes nothing.
use Rattle.std.specs.Prelude.{ℕ, Bool, true, false, List}
use Rattle.text.specs.Call.{Called}
use Rattle.text.specs.Answers.{Answer}
use Rattle.tokens.specs.Outcome.{Outcome}
use Rattle.govlezna.specs.Calls.{walk_check, walked, walked_strictly}
use Rattle.demands.specs.Demands.{Asked}
use Rattle.demands.specs.CallDemands.{normalize_of, canonical_of}
use Rattle.requests.specs.Strict.{strict_normalize_of, strict_canonical_of}

-- K7: the canonical form, by whether the reading is strict (K8)
abbrev pub canonical_by : Bool → Asked → List ℕ → List ℕ → Called
canonical_by false = canonical_of
canonical_by true = strict_canonical_of

-- K7: and the normalization of the same value
abbrev pub normalize_by : Bool → Asked → List ℕ → Called
normalize_by false = normalize_of
normalize_by true = strict_normalize_of

-- the checks of their arguments
abbrev pub checks_of : Asked → Answer
checks_of a = walk_check a.text a.version a.depth a.limit a.list a.pool

-- what their walk makes of the text
abbrev pub walked_by : Bool → Asked → Outcome
walked_by false a = walked a.text a.version a.depth a.limit a.list a.pool
walked_by true a = walked_strictly a.text a.version a.depth a.limit a.list a.pool
