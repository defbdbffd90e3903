-- K5's calls on a short list, by computation: order of refusals, what is left in each buffer (`rows`), the offset (`offsets`); and so the
-- premises of `k5_hands_out` are met (`handed`). Assumes nothing.
use mathlib.Core.Path.{◌≡◌, refl}
use native.Mathlib.Omega.{arith}
use mathlib.Core.List.{List, [], ◌∷◌}
use Prim.Native.Nat.{ℕ}
use Rattle.text.specs.Call.{Called, called, length_check, utf8_check}
use Rattle.text.specs.Utf8.{utf8_end}
use Rattle.collapse.specs.NextToken.{next_token}
use Rattle.utils.specs.CData.{piece_answer}
use Rattle.entity.specs.Table.{table_check}
use Rattle.attribute.specs.Checks.{settings_check}
use Rattle.attribute.specs.Walk.{normalize, reading_of}
use Rattle.nmtokens.specs.Nmtokens.{collapsed}
use Rattle.govlezna.specs.Calls.{normalize_nmtokens_call, next_nmtoken_call}
use Rattle.demands.specs.Demands.{Asked}
use Rattle.requests.specs.Nmtokens.{nmtokens_of, HandsOut}
use Rattle.requests.proofs.Nmtokens.{k5_hands_out}

-- ` a&e;` LF with e = ` b` at a depth under version 2: the value is ` a b `
abbrev asked : ℕ → Asked
asked depth =
    record {
      version = 2;
      text = 32 ∷ 97 ∷ 38 ∷ 101 ∷ 59 ∷ 10 ∷ [];
      list = 1 ∷ 0 ∷ 0 ∷ 0 ∷ 0 ∷ 1 ∷ 1 ∷ 0 ∷ 0 ∷ 0 ∷ 2 ∷ 0 ∷ 0 ∷ [];
      pool = 101 ∷ 32 ∷ 98 ∷ [];
      depth = depth;
      limit = 9;
    }

abbrev room : List ℕ
room = 7 ∷ 7 ∷ 7 ∷ 7 ∷ 7 ∷ 8 ∷ []

abbrev left : Called
left = called 0 (3 ∷ 1 ∷ []) ((32 ∷ 97 ∷ 32 ∷ 98 ∷ 32 ∷ 8 ∷ []) ∷ (97 ∷ 32 ∷ 98 ∷ 7 ∷ 7 ∷ 8 ∷ []) ∷ [])

-- at depth 0; with a scratch that has room for the result alone, with an output that has not, with room for both
rows :
    (nmtokens_of (asked 0) room room ≡ called 16 (0 ∷ 0 ∷ []) (room ∷ room ∷ []))
    × (nmtokens_of (asked 2) (7 ∷ 7 ∷ 7 ∷ 8 ∷ []) room ≡ called 18 (5 ∷ 0 ∷ []) ((7 ∷ 7 ∷ 7 ∷ 8 ∷ []) ∷ room ∷ []))
    × (nmtokens_of (asked 2) room (7 ∷ 8 ∷ []) ≡ called 19 (3 ∷ 0 ∷ []) ((32 ∷ 97 ∷ 32 ∷ 98 ∷ 32 ∷ 8 ∷ []) ∷ (7 ∷ 8 ∷ []) ∷ []))
    × (nmtokens_of (asked 2) room room ≡ left)
unfolding normalize_nmtokens_call length_check settings_check utf8_check utf8_end table_check collapsed normalize reading_of
rows = (refl, refl, refl, refl)

-- `a b`: from the start, from after the first token, from the end, and from past it
offsets :
    (next_nmtoken_call (97 ∷ 32 ∷ 98 ∷ []) 0 ≡ called 0 (0 ∷ 1 ∷ []) ((1 ∷ []) ∷ []))
    × (next_nmtoken_call (97 ∷ 32 ∷ 98 ∷ []) 1 ≡ called 0 (2 ∷ 1 ∷ []) ((3 ∷ []) ∷ []))
    × (next_nmtoken_call (97 ∷ 32 ∷ 98 ∷ []) 3 ≡ called 255 (0 ∷ 0 ∷ []) ((3 ∷ []) ∷ []))
    × (next_nmtoken_call (97 ∷ 32 ∷ 98 ∷ []) 4 ≡ called 20 (4 ∷ 0 ∷ []) ((4 ∷ []) ∷ []))
unfolding next_nmtoken_call length_check utf8_check utf8_end next_token piece_answer
offsets = (refl, refl, refl, refl)

handed : HandsOut (97 ∷ 32 ∷ 98 ∷ [])
handed = k5_hands_out (asked 2) room room rows.3 (omega arith)
