-- The rule that the code's flag stands for, and one step over a byte or a line end: the terms in which the code is proved. Assumes nothing.
use Rattle.std.specs.Prelude.{ℕ, ◌+◌, ◌≤◌, ◌≡◌, Bool, true, false, List, ◌∷◌, length, drop}
use Rattle.text.specs.Version.{Rule, xml10, xml11}
use Rattle.eols.specs.LineEnds.{eols_from}
use Rattle.eols.specs.declared.Step.{Step}

-- the rule that the code's flag stands for
abbrev pub rule_for : Bool → Rule
rule_for false = xml10
rule_for true = xml11

-- the byte that is written for what stands at `i`, and how many bytes that is
pub record Stepped (newer : Bool) (text : List ℕ) (i : ℕ) (s : Step) : Type 0 where
  pub some : 1 ≤ s.width
  pub inside : i + s.width ≤ length text
  pub rest : eols_from (rule_for newer) 0 (drop i text) ≡ s.byte ∷ eols_from (rule_for newer) 0 (drop (i + s.width) text)
