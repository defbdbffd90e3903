-- Document 02, K8: every character of a strictly accepted value matches Char of the version. Assumes nothing.
use mathlib.Core.Path.{◌≡◌, refl}
use Prim.Native.Nat.{ℕ}
use mathlib.Core.Bool.{Bool, true}
use mathlib.Core.List.{List, [], ◌∷◌}
use Rattle.text.specs.Version.{Rule}
use Rattle.text.specs.Utf8.{State, between, next, is_between, WellFormed}
use Rattle.text.proofs.Bytes.{pick_by}
use Rattle.entity.specs.Table.{marked, ValidTable}
use Rattle.entity.specs.Binding.{binding}
use Rattle.entity.proofs.Tables.{binding_good}
use Rattle.legal.specs.Legal.{is_char, bits}
use Rattle.legal.proofs.Readers.{Good, good_tail, good_start}
use Rattle.tokens.specs.Outcome.{done}
use Rattle.attribute.specs.Walk.{normalize, reading_of}
use Rattle.attribute.specs.Strict.{reading_by}
use Rattle.attribute.proofs.StrictValues.{Characters, strict_legal}
use Rattle.demands.specs.Characters.{gather, decode_from, decode}
use Rattle.demands.proofs.Agreement.{All}

-- the characters that a reader meets in a text without faults may all stand
module _ (may : ℕ → Bool) where
  abbrev May : ℕ → Type 0
  May c = may c ≡ true

  decode_good : (t : List ℕ) (s : State) (n : ℕ) → Good may s n t → All May (decode_from s n t)
  unfolding decode_from gather bits
  decode_good [] s n g = tt
  decode_good (b ∷ bs) s n g =
      let p = good_tail may s n b bs g in
      let rest = decode_good bs (next s b) (bits s n b) p.1 in
      pick_by (All May) (is_between (next s b)) {a = gather s n b ∷ decode_from (next s b) (gather s n b) bs} {b = decode_from (next s b) (gather s n b) bs}
      (λ e. (p.0 e, rest)) (λ e. rest)

  pub decode_may : (t : List ℕ) → Characters may t → All May (decode t)
  unfolding decode WellFormed
  decode_may t c = decode_good t between 0 (good_start may between 0 t refl c.utf8 c.legal)

-- K8: of a UTF-8 text and a valid table
pub strict_characters : (r : Rule) (list pool : List ℕ) (limit depth : ℕ) (t value : List ℕ) (openings : ℕ) → ValidTable list pool → WellFormed t
    → normalize (reading_by true r list pool limit) depth t ≡ done value openings → All (λ (c : ℕ). is_char r c ≡ true) (decode value)
unfolding reading_by reading_of
strict_characters r list pool limit depth t value openings valid w e =
    decode_may (is_char r) value (strict_legal r (marked list) (binding list pool) limit depth t value openings (binding_good list pool valid) w e)
