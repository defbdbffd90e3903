-- K8's premises are met under XML 1.1: by a value whose form is read again strictly (`plain_again`), and by one whose form holds a raw
-- RestrictedChar and gets 26 (`odd_refused`). Assumes nothing.
use mathlib.Core.Path.{refl}
use Prim.Native.Nat.{ℕ}
use native.Mathlib.Omega.{arith}
use mathlib.Core.List.{List, [], ◌∷◌}
use Rattle.text.specs.Utf8.{WellFormed}
use Rattle.entity.specs.Table.{declarations, table_check}
use Rattle.canonical.specs.Canonical.{canonical}
use Rattle.attribute.specs.Walk.{normalize}
use Rattle.attribute.specs.Strict.{reading_by}
use Rattle.demands.specs.Demands.{Asked, AskedAgain}
use Rattle.demands.specs.StrictDemands.{strictly_normalized, StrictlyAccepted, restricted_from, StrictlyRereads, RefusedBy26}
use Rattle.demands.proofs.StrictDemands.{strict_again, strict_again_refused}

-- that text under version 2, with an empty table, at depth 1, with no opening
abbrev asked : List ℕ → Asked
asked t = record { version = 2; text = t; list = 0 ∷ []; pool = []; depth = 1; limit = 0 }

-- `a&lt;`, whose value is `a<`, and whose form is itself
plain_accepted : StrictlyAccepted (asked (97 ∷ 38 ∷ 108 ∷ 116 ∷ 59 ∷ [])) (97 ∷ 60 ∷ []) 0
unfolding WellFormed table_check normalize reading_by
plain_accepted =
    record {
      taken = record { size = omega arith; deep = omega arith; most = omega arith; known = refl; utf8 = refl; table = refl };
      reads = refl;
    }

plain_asked : AskedAgain (asked (97 ∷ 38 ∷ 108 ∷ 116 ∷ 59 ∷ [])) (97 ∷ 60 ∷ []) (asked (97 ∷ 38 ∷ 108 ∷ 116 ∷ 59 ∷ []))
unfolding canonical table_check declarations
plain_asked =
    record {
      form = refl;
      size = omega arith;
      version = refl;
      known = refl;
      shallow = omega arith;
      deep = omega arith;
      most = omega arith;
      table = refl;
      free = record { lt = tt; gt = tt; apos = tt; quot = tt };
    }

plain_again : StrictlyRereads (97 ∷ 60 ∷ []) (asked (97 ∷ 38 ∷ 108 ∷ 116 ∷ 59 ∷ []))
unfolding restricted_from
plain_again = strict_again (asked (97 ∷ 38 ∷ 108 ∷ 116 ∷ 59 ∷ [])) (97 ∷ 60 ∷ []) 0 plain_accepted (asked (97 ∷ 38 ∷ 108 ∷ 116 ∷ 59 ∷ [])) plain_asked refl

-- `a&#1;`, whose value, and form, is `a` U+0001
odd_accepted : StrictlyAccepted (asked (97 ∷ 38 ∷ 35 ∷ 49 ∷ 59 ∷ [])) (97 ∷ 1 ∷ []) 0
unfolding WellFormed table_check normalize reading_by
odd_accepted =
    record {
      taken = record { size = omega arith; deep = omega arith; most = omega arith; known = refl; utf8 = refl; table = refl };
      reads = refl;
    }

odd_asked : AskedAgain (asked (97 ∷ 38 ∷ 35 ∷ 49 ∷ 59 ∷ [])) (97 ∷ 1 ∷ []) (asked (97 ∷ 1 ∷ []))
unfolding canonical table_check declarations
odd_asked =
    record {
      form = refl;
      size = omega arith;
      version = refl;
      known = refl;
      shallow = omega arith;
      deep = omega arith;
      most = omega arith;
      table = refl;
      free = record { lt = tt; gt = tt; apos = tt; quot = tt };
    }

odd_refused : RefusedBy26 (strictly_normalized (asked (97 ∷ 1 ∷ []))) 1
unfolding restricted_from
odd_refused = strict_again_refused (asked (97 ∷ 38 ∷ 35 ∷ 49 ∷ 59 ∷ [])) (97 ∷ 1 ∷ []) 0 odd_accepted (asked (97 ∷ 1 ∷ [])) odd_asked refl 1 refl
