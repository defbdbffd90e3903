-- The first fault of a text, a character that may not stand there (Legal.antt), and the numbers by which code names the rules. The terms in
-- which searches are proved; no promise of a call rests on them. Assumes nothing.
use Rattle.std.specs.Prelude.{ℕ, zero, suc, ◌≤◌, ◌<◌, ◌≡◌, Bool, true, false, List, length, drop}
use Rattle.text.specs.Version.{Rule, xml10, xml11}
use Rattle.legal.specs.Legal.{Place, in_value, in_table, may_stand, fault_at}

-- the rules by number: 0 for XML 1.0, value and table alike; 1 for a value under 1.1; 2 for a text of the table under 1.1
unfoldable pub may_by : ℕ → ℕ → Bool
unfolding may_stand
may_by zero n = may_stand in_value xml10 n
may_by (suc zero) n = may_stand in_value xml11 n
may_by (suc (suc rule)) n = may_stand in_table xml11 n

unfoldable pub faults_by : ℕ → List ℕ → Bool
unfolding fault_at may_by
faults_by rule bytes = fault_at (may_by rule) bytes

-- the number of the rule for a place
unfoldable pub rule_number : Place → Rule → ℕ
rule_number in_value xml10 = 0
rule_number in_value xml11 = 1
rule_number in_table xml10 = 0
rule_number in_table xml11 = 2

-- a part of a text, from one place up to another
pub record Part (text : List ℕ) (from to : ℕ) : Type 0 where
  pub order : from ≤ to
  pub fits : to ≤ length text

-- at no place from `i` up to `e` a fault begins
pub record Clean (fault : List ℕ → Bool) (text : List ℕ) (i e : ℕ) : Type 0 where
  pub from : i ≤ e
  pub to : e ≤ length text
  pub none : (k : ℕ) → i ≤ k → k < e → fault (drop k text) ≡ false

-- at none a fault of any rule does
abbrev pub CleanByAny : List ℕ → ℕ → ℕ → Type 0
CleanByAny text i e = (rule : ℕ) → Clean (faults_by rule) text i e

-- `r` is the first place from `from` up to `to` at which a fault begins, or `to`; the fault's bytes may go on past `to`
pub record FirstFault (fault : List ℕ → Bool) (text : List ℕ) (from to r : ℕ) : Type 0 where
  pub clean : Clean fault text from r
  pub within : r ≤ to
  pub found : r < to → fault (drop r text) ≡ true
