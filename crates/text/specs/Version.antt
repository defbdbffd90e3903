-- XML 1.0 and XML 1.1: what both share is stated with the version as a parameter. Assumes nothing.
use Rattle.std.specs.Prelude.{ℕ, zero, suc, Bool, leb}

pub data Rule : Type 0 where
  xml10 xml11 : Rule

-- document 01, attribute walk: version byte 0 is implicit 1.0, 1 is explicit 1.0, 2 is 1.1; total, since a call refuses others first
abbrev pub rule_of : ℕ → Rule
rule_of zero = xml10
rule_of (suc zero) = xml10
rule_of (suc (suc n)) = xml11

-- document 01, refusal 4: the version bytes that are known
abbrev pub known_version : ℕ → Bool
known_version version = leb version 2
