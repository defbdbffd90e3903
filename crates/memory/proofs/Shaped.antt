-- What is written of a value (`shaped`): of no bytes nothing, of a space itself, at most six bytes for each byte; of a value and whole
-- characters after it, one after the other (`shaped_append`); an outcome by the step that answers it (`shaped_went`, `shaped_halted`).
-- Assumes nothing.
use mathlib.Core.Path.{◌≡◌, refl, sym, ap}
use mathlib.Core.Logic.{◌≢◌}
use mathlib.Core.Bool.{Bool, true, false}
use mathlib.Core.List.{List, [], ◌∷◌, ◌++◌}
use Prim.Native.Nat.{ℕ, ◌*◌, ◌≤◌}
use native.Mathlib.Omega.{arith}
use lib.Dec.{eqb}
use lib.ListN.{length}
use borrow.Author.Tests.{ne_eqb}
use Rattle.text.specs.Bytes.{pick}
use Rattle.text.specs.Version.{Rule, xml10, xml11}
use Rattle.text.specs.Utf8.{WellFormed}
use Rattle.text.proofs.Bytes.{pick_by}
use Rattle.eols.specs.Stops.{rule_for}
use Rattle.canonical.specs.Canonical.{canonical_from, canonical}
use Rattle.canonical.proofs.Append.{canonical_append, starts_well_formed}
use Rattle.canonical.proofs.Canonical.{canonical_length}
use Rattle.tokens.specs.Outcome.{Outcome, done, refused}
use Rattle.tokens.specs.Walking.{step_of}
use Rattle.tokens.specs.Walking.{Next, Stopped}
use Rattle.memory.specs.Slots.{shaped, shaped_in}

-- ---- by the code's number

-- the value itself, or its canonical form
pub shaped_plain : {form : ℕ} → form ≡ 0 → (value : List ℕ) → shaped form value ≡ value
unfolding shaped
shaped_plain e value = rw e

pub shaped_form : {form : ℕ} → form ≢ 0 → (value : List ℕ) → shaped form value ≡ canonical (rule_for (eqb form 2)) value
unfolding shaped
shaped_form {form} n value = rw (ne_eqb form 0 n)

-- what holds of every value and of every canonical form holds of what is written
by_shape : (P : List ℕ → Type 0) (form : ℕ) (value : List ℕ) → P value → ((r : Rule) → P (canonical r value)) → P (shaped form value)
unfolding shaped
by_shape P form value h k =
    pick_by P (eqb form 0) {a = value} {b = canonical (rule_for (eqb form 2)) value} (λ e. h) (λ e. k (rule_for (eqb form 2)))

pub shaped_none : (form : ℕ) → shaped form [] ≡ []
unfolding canonical canonical_from
shaped_none form = by_shape (λ (l : List ℕ). l ≡ []) form [] refl (λ r. refl)

pub shaped_space : (form : ℕ) → shaped form (32 ∷ []) ≡ 32 ∷ []
unfolding canonical canonical_from
shaped_space form = by_shape (λ (l : List ℕ). l ≡ 32 ∷ []) form (32 ∷ []) refl space
  where
    space : (r : Rule) → canonical r (32 ∷ []) ≡ 32 ∷ []
    space xml10 = refl
    space xml11 = refl

pub shaped_most : (form : ℕ) (value : List ℕ) → length (shaped form value) ≤ 6 * length value
shaped_most form value =
    by_shape (λ (l : List ℕ). length l ≤ 6 * length value) form value (omega arith) (λ r. (canonical_length r value).1)

pub shaped_append : (form : ℕ) (xs ys : List ℕ) → WellFormed ys → shaped form (xs ++ ys) ≡ shaped form xs ++ shaped form ys
unfolding shaped
shaped_append form xs ys w = go (eqb form 0)
  where
    r : Rule
    r = rule_for (eqb form 2)

    go : (t : Bool) → pick t (xs ++ ys) (canonical r (xs ++ ys)) ≡ pick t xs (canonical r xs) ++ pick t ys (canonical r ys)
    go true = refl
    go false = canonical_append r xs ys (starts_well_formed ys w)

-- ---- a step over what is written

-- it goes on: there is a value
pub record Went (form next : ℕ) (o : Outcome) (a l m : ℕ) : Type 0 where
  pub value : List ℕ
  pub whole : o ≡ done value m
  pub size : length (shaped form value) ≡ l
  pub to : a ≡ next

pub shaped_went : (form next : ℕ) (o : Outcome) {a l m : ℕ} → Next a l m ≡ step_of next (shaped_in form o) → Went form next o a l m
shaped_went form next (done value openings) {a} {l} {m} e =
    let x : m ≡ openings = cc in
    let y : length (shaped form value) ≡ l = cc in
    let z : a ≡ next = cc in
    record { value = value; whole = ap (done value) (sym x); size = y; to = z }
shaped_went form next (refused before openings number first second) e =
    let z : ◌≡◌ {A = ℕ} 0 1 = cc in
    absurd (omega (arith, z))

-- it is refused
pub record Halted (o : Outcome) (number first second : ℕ) : Type 0 where
  pub before : List ℕ
  pub openings : ℕ
  pub whole : o ≡ refused before openings number first second

pub shaped_halted : (form next : ℕ) (o : Outcome) {n f s : ℕ} → Stopped n f s ≡ step_of next (shaped_in form o) → Halted o n f s
shaped_halted form next (done value openings) e =
    let z : ◌≡◌ {A = ℕ} 0 1 = cc in
    absurd (omega (arith, z))
shaped_halted form next (refused before openings number first second) {n} {f} {s} e =
    let x : number ≡ n = cc in
    let y : first ≡ f = cc in
    let z : second ≡ s = cc in
    record { before = before; openings = openings; whole = rw (x, y, z) }
