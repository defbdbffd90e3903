-- Demand 3's premises are met: by one value whose calls are computed (`value_answered`), and by its form, asked again (`value_again`).
-- Assumes nothing.
use mathlib.Core.Path.{◌≡◌, refl, ap}
use Prim.Native.Nat.{ℕ}
use native.Mathlib.Omega.{arith}
use mathlib.Core.List.{List, [], ◌∷◌}
use lib.ListN.{length}
use Rattle.text.specs.Call.{called, length_check, utf8_check}
use Rattle.text.specs.Utf8.{utf8_end}
use Rattle.entity.specs.Table.{declarations, table_check}
use Rattle.tokens.specs.Outcome.{finished}
use Rattle.attribute.specs.Checks.{settings_check}
use Rattle.attribute.specs.Walk.{normalize, reading_of}
use Rattle.attribute.specs.Form.{formed}
use Rattle.govlezna.specs.Calls.{check_table_call, normalize_attribute_value_call, canonical_form_call}
use Rattle.demands.specs.Demands.{Asked}
use Rattle.demands.specs.CallDemands.{normalize_of, canonical_of, Answered, CallAgain}

-- TAB `&e;`, where e = `&#9;`, under XML 1.0, at depth 2, with one opening
abbrev value : Asked
value =
    record {
      version = 0;
      text = 9 ∷ 38 ∷ 101 ∷ 59 ∷ [];
      list = 1 ∷ 0 ∷ 0 ∷ 0 ∷ 0 ∷ 1 ∷ 1 ∷ 0 ∷ 0 ∷ 0 ∷ 4 ∷ 0 ∷ 0 ∷ [];
      pool = 101 ∷ 38 ∷ 35 ∷ 57 ∷ 59 ∷ [];
      depth = 2;
      limit = 1;
    }

-- its value is a space and TAB; a byte behind it is kept
normalizes : normalize_of value (7 ∷ 7 ∷ 7 ∷ []) ≡ called 0 (2 ∷ 1 ∷ []) ((32 ∷ 9 ∷ 7 ∷ []) ∷ [])
unfolding normalize_attribute_value_call length_check settings_check utf8_check utf8_end table_check finished normalize reading_of
normalizes = refl

-- its form is a space and `&#9;`; a byte behind it is kept, and one behind the 4 of the scratch
writes : canonical_of value (7 ∷ 7 ∷ 7 ∷ 7 ∷ 7 ∷ []) (7 ∷ 7 ∷ 7 ∷ 7 ∷ 7 ∷ 7 ∷ [])
    ≡ called 0 (5 ∷ 1 ∷ []) ((9 ∷ 0 ∷ 0 ∷ 0 ∷ 7 ∷ []) ∷ (32 ∷ 38 ∷ 35 ∷ 57 ∷ 59 ∷ 7 ∷ []) ∷ [])
unfolding canonical_form_call length_check settings_check utf8_check utf8_end table_check formed normalize reading_of
writes = refl

-- both calls answered 0
abbrev value_answered : Answered value
value_answered =
    record {
      out = 7 ∷ 7 ∷ 7 ∷ [];
      size = 2;
      openings = 1;
      left = 32 ∷ 9 ∷ 7 ∷ [];
      normalizes = normalizes;
      scratch = 7 ∷ 7 ∷ 7 ∷ 7 ∷ 7 ∷ [];
      form_out = 7 ∷ 7 ∷ 7 ∷ 7 ∷ 7 ∷ 7 ∷ [];
      form_size = 5;
      form_openings = 1;
      held = 9 ∷ 0 ∷ 0 ∷ 0 ∷ 7 ∷ [];
      form_left = 32 ∷ 38 ∷ 35 ∷ 57 ∷ 59 ∷ 7 ∷ [];
      writes = writes;
    }

-- that form, asked again at depth 1, with no opening and a table with another text for e
abbrev form : Asked
form = record { version = 1; text = 32 ∷ 38 ∷ 35 ∷ 57 ∷ 59 ∷ []; list = 1 ∷ 0 ∷ 0 ∷ 0 ∷ 0 ∷ 1 ∷ 1 ∷ 0 ∷ 0 ∷ 0 ∷ 1 ∷ 0 ∷ 0 ∷ []; pool = 101 ∷ 120 ∷ []; depth = 1; limit = 0 }

-- a name of one byte is none of the four
one_byte : {b c : ℕ} {bs : List ℕ} → 101 ∷ [] ≡ b ∷ c ∷ bs → ⊥
one_byte {b} {c} {bs} e = let q : length {A = ℕ} (101 ∷ []) ≡ length (b ∷ c ∷ bs) = ap length e in omega (arith, q)

-- it is asked as demand 3 has it
value_again : CallAgain value value_answered form
unfolding check_table_call table_check declarations
value_again =
    record {
      form = refl;
      size = omega arith;
      version = refl;
      known = refl;
      shallow = omega arith;
      deep = omega arith;
      most = omega arith;
      declared = 1;
      table = refl;
      free = record { lt = ((λ e. one_byte e), tt); gt = ((λ e. one_byte e), tt); apos = ((λ e. one_byte e), tt); quot = ((λ e. one_byte e), tt) };
    }
