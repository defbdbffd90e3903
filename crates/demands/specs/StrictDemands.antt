-- Document 02, K8, stated of the definitions: strictly accepted values, their characters, and how their forms are read again strictly.
-- Assumes nothing.
use Rattle.std.specs.Prelude.{◌≡◌, ℕ, suc, true, not, List, [], ◌∷◌}
use Rattle.std.proofs.Math.Option.{Option, none, some}
use Rattle.text.specs.Bytes.{pick}
use Rattle.text.specs.Version.{Rule, xml10, xml11}
use Rattle.legal.specs.Legal.{is_char, is_restricted, fault_at}
use Rattle.tokens.specs.Outcome.{Outcome, done, refused}
use Rattle.attribute.specs.Walk.{normalize}
use Rattle.attribute.specs.Strict.{reading_by}
use Rattle.demands.specs.Demands.{Asked, rule_for, Taken, form_of}

-- K8: what the strict reading makes of what a call is asked
abbrev pub strictly_normalized : Asked → Outcome
strictly_normalized a = normalize (reading_by true (rule_for a) a.list a.pool a.limit) a.depth a.text

-- K8: a strictly accepted value, with the openings made
pub record StrictlyAccepted (a : Asked) (value : List ℕ) (openings : ℕ) : Type 0 where
  pub taken : Taken a
  pub reads : strictly_normalized a ≡ done value openings

-- K8: "characters must match Char"
abbrev pub AllChar : Rule → List ℕ → Type 0
AllChar r [] = Unit {0}
AllChar r (c ∷ cs) = (is_char r c ≡ true) × AllChar r cs

-- K8: the offset of the first raw RestrictedChar of a text whose first byte is at the offset
unfoldable pub restricted_from : ℕ → List ℕ → Option ℕ
unfolding fault_at is_restricted
restricted_from offset [] = none
restricted_from offset (b ∷ bs) =
    let rest = restricted_from (suc offset) bs in
    pick (fault_at (λ n. not (is_restricted n)) (b ∷ bs)) (some offset) rest

-- K8: "save that under 2 a form holding a raw RestrictedChar gets 26"; this form holds none, or it is not under 2
abbrev pub Rereadable : Rule → List ℕ → Type 0
Rereadable xml10 form = Unit {0}
Rereadable xml11 form = restricted_from 0 form ≡ none

-- K8: strict re-reading "goes as in demand 3"
pub record StrictlyRereads (value : List ℕ) (b : Asked) : Type 0 where
  pub accepted : StrictlyAccepted b value 0
  pub itself : form_of b value ≡ b.text

-- Refusals by place: refused by 26 with that offset
pub record RefusedBy26 (o : Outcome) (offset : ℕ) : Type 0 where
  pub before : List ℕ
  pub openings : ℕ
  pub refusal : o ≡ refused before openings 26 offset 0
