-- The strict reading of attribute values (document 02, K8; XML 1.0 and 1.1, 2.2). Assumes nothing.
use Rattle.std.specs.Prelude.{ℕ, Bool, true, false, List, ◌∷◌}
use Rattle.text.specs.Bytes.{pick}
use Rattle.text.specs.Version.{Rule}
unfoldable pub use Rattle.charref.specs.CharRef.{only_char}
use Rattle.legal.specs.Legal.{in_value, in_table, may_stand, fault_at}
use Rattle.tokens.specs.Tokens.{barred, head, Heads}
use Rattle.attribute.specs.Walk.{Settings, reading_of}

-- K8: 26 where a character begins that may not stand there, whatever these heads make of it
unfoldable pub barring : (ℕ → Bool) → Heads → Heads
unfolding fault_at
barring may at offset b bs = let other = at offset b bs in pick (fault_at may (b ∷ bs)) (head (barred offset) 0) other

-- K8: a reading made strict, alike but for 25 and 26; in texts of the table only Char is asked
unfoldable pub strictly : Rule → Settings → Settings
unfolding barring may_stand only_char
strictly r s =
    record { outer = barring (may_stand in_value r) s.outer; inner = barring (may_stand in_table r) s.inner; bind = s.bind; limit = s.limit; legal = only_char r }

-- the reading of a call, lenient or strict
unfoldable pub reading_by : Bool → Rule → List ℕ → List ℕ → ℕ → Settings
unfolding reading_of strictly
reading_by false r list pool limit = reading_of r list pool limit
reading_by true r list pool limit = strictly r (reading_of r list pool limit)
