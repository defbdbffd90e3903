-- Looking a name up in the table that is written equals looking it up in the declarations, the first binding (`lookup_declared`); the list is
-- marked (`written_marked`). Assumes nothing.
use mathlib.Core.Path.{◌≡◌, refl, ap, ap₂, sym, ◌∙◌}
use mathlib.Core.Bool.{true}
use mathlib.Core.List.{List, [], ◌∷◌, ◌++◌, append_assoc}
use Prim.Native.Nat.{ℕ, zero, suc, ◌+◌, ◌*◌, ◌/◌, ◌%◌, ◌<◌}
use native.Mathlib.Omega.{arith}
use lib.ListN.{length, get_or, take, length-append}
use lib.Seq.{take-append_seam, drop-append_seam}
use Rattle.text.specs.Bytes.{pick, same_bytes}
use Rattle.entity.specs.Table.{little_endian, part, inside, Declaration, declaration, name_of, text_of, marked, mark_size, declarations_from, declarations}
use Rattle.entity.specs.Binding.{Bound, text, body_bound, binding_in, binding}
use Rattle.table_grammar.specs.EntityDecl.{Entity}
use Rattle.table_grammar.specs.TableWritten.{u16, u32, command_at, command_of, commands_from, list_of, pool_of, declared}

-- ---- numbers written little-endian, read back

skip_read : (x : ℕ) (bytes : List ℕ) (at width : ℕ) → little_endian (x ∷ bytes) (suc at) width ≡ little_endian bytes at width
unfolding little_endian
skip_read x bytes at zero = refl
skip_read x bytes at (suc width) = ap (λ (y : ℕ). get_or bytes at 0 + 256 * y) (skip_read x bytes (suc at) width)

read_after : (front bytes : List ℕ) (width : ℕ) → little_endian (front ++ bytes) (length front) width ≡ little_endian bytes 0 width
read_after [] bytes width = refl
read_after (x ∷ xs) bytes width = skip_read x (xs ++ bytes) (length xs) width ∙ read_after xs bytes width

read_u32 : (n : ℕ) → n < 4294967296 → (rest : List ℕ) → little_endian (u32 n ++ rest) 0 4 ≡ n
unfolding little_endian u32
read_u32 n h rest =
    let a : n / 65536 ≡ n / 65536 % 256 + 256 * (n / 16777216 % 256) = omega arith in
    let b : n / 256 ≡ n / 256 % 256 + 256 * (n / 65536) = omega arith in
    let c : n ≡ n % 256 + 256 * (n / 256) = omega arith in
    omega (arith, a, b, c)

read_u16 : (n : ℕ) → n < 65536 → (rest : List ℕ) → little_endian (u16 n ++ rest) 0 2 ≡ n
unfolding little_endian u16
read_u16 n h rest = omega arith

read_u8 : (n : ℕ) → n < 256 → (rest : List ℕ) → little_endian (n % 256 ∷ rest) 0 1 ≡ n
unfolding little_endian
read_u8 n h rest = omega arith

-- ---- parts of joined lists

part_is : (pre mid post : List ℕ) → part (pre ++ (mid ++ post)) (length pre) (length mid) ≡ mid
unfolding part
part_is pre mid post = ap (take (length mid)) (drop-append_seam pre (mid ++ post)) ∙ take-append_seam mid post

-- ---- one command

-- what fits the widths of the operands
abbrev pub Fitting : ℕ → List Entity → Type 0
Fitting p [] = Unit {0}
Fitting p (e ∷ es) =
    (length e.name < 256) × (length e.value < 65536) × (p + length e.name < 4294967296) × Fitting (p + length e.name + length e.value) es

abbrev pub made : ℕ → ℕ → ℕ → ℕ → Declaration
made a b c d = record { name_start = a; name_length = b; body = inside c d }

-- the operands of an entity's command
abbrev pub operands_of : ℕ → Entity → List ℕ
operands_of p e = u32 p ++ (length e.name % 256 ∷ (u32 (p + length e.name) ++ u16 (length e.value)))

made_by : (bs : List ℕ) → declaration 1 bs ≡ made (little_endian bs 0 4) (little_endian bs 4 1) (little_endian bs 5 4) (little_endian bs 9 2)
unfolding declaration
made_by bs = refl

made_same : {a b c d x y z w : ℕ} → a ≡ x → b ≡ y → c ≡ z → d ≡ w → made a b c d ≡ made x y z w
made_same {a} {b} {c} {d} {x} {y} {z} {w} p q r s = ap₂ (λ (m n : ℕ). made m n c d) p q ∙ ap₂ (λ (m n : ℕ). made x y m n) r s

module _ (p : ℕ) (e : Entity) (rest : List ℕ) (h : (length e.name < 256) × (length e.value < 65536) × (p + length e.name < 4294967296)) where
  pub read_command : declaration 1 (operands_of p e ++ rest) ≡ made p (length e.name) (p + length e.name) (length e.value)
  unfolding u32 u16
  read_command =
      let n = length e.name in
      let v = length e.value in
      let after_name : List ℕ = u32 (p + n) ++ (u16 v ++ rest) in
      made_by (operands_of p e ++ rest)
      ∙ made_same (read_u32 p (omega (arith, h.2)) (n % 256 ∷ after_name))
      (read_after (u32 p) (n % 256 ∷ after_name) 1 ∙ read_u8 n h.0 after_name)
      (read_after (u32 p ++ (n % 256 ∷ [])) after_name 4 ∙ read_u32 (p + n) h.2 (u16 v ++ rest))
      (read_after (u32 p ++ (n % 256 ∷ u32 (p + n))) (u16 v ++ rest) 2 ∙ read_u16 v h.1 rest)

  pub skip_operands : declarations_from 11 (operands_of p e ++ rest) ≡ declarations_from 0 rest
  unfolding u32 u16 declarations_from
  skip_operands = refl

-- ---- an entity's part of the pool

module _ (pre : List ℕ) (e : Entity) (post : List ℕ) where
  abbrev pub whole : List ℕ
  whole = pre ++ (e.name ++ (e.value ++ post))

  pub name_is : name_of whole (made (length pre) (length e.name) (length pre + length e.name) (length e.value)) ≡ e.name
  unfolding name_of
  name_is = part_is pre e.name (e.value ++ post)

  pub text_is : text_of whole (inside (length pre + length e.name) (length e.value)) ≡ e.value
  unfolding text_of
  text_is =
      ap₂ (λ (l : List ℕ) (n : ℕ). part l n (length e.value)) (sym (append_assoc pre e.name (e.value ++ post))) (sym (length-append pre e.name))
      ∙ part_is (pre ++ e.name) e.value post

  pub regroup : whole ≡ ((pre ++ e.name) ++ e.value) ++ post
  regroup = sym (append_assoc (pre ++ e.name) e.value post ∙ append_assoc pre e.name (e.value ++ post))

  pub size_is : length ((pre ++ e.name) ++ e.value) ≡ length pre + length e.name + length e.value
  size_is = length-append (pre ++ e.name) e.value ∙ ap (λ (n : ℕ). n + length e.value) (length-append pre e.name)

-- the commands from a place of the pool on, and the end
abbrev pub list_from : ℕ → List Entity → List ℕ
list_from p es = commands_from p es ++ 0 ∷ []

pub list_step : (p : ℕ) (e : Entity) (es : List Entity)
    → list_from p (e ∷ es) ≡ 1 ∷ (operands_of p e ++ list_from (p + length e.name + length e.value) es)
unfolding commands_from command_of command_at u32 u16
list_step p e es = refl

lookup_from : (es : List Entity) (pre : List ℕ) → Fitting (length pre) es → (name : List ℕ)
    → binding_in (declarations_from 0 (list_from (length pre) es)) (pre ++ pool_of es) name ≡ declared es name
unfolding declarations_from binding_in declared body_bound pool_of
lookup_from [] pre h name = unfold commands_from in refl
lookup_from (e ∷ es) pre h name =
    let rest = list_from (length pre + length e.name + length e.value) es in
    let fits : (length e.name < 256) × (length e.value < 65536) × (length pre + length e.name < 4294967296) = (h.0, h.1, h.2) in
    let pool = pre ++ (e.name ++ (e.value ++ pool_of es)) in
    let ih : binding_in (declarations_from 0 rest) pool name ≡ declared es name =
    ap₂ (λ (n : ℕ) (l : List ℕ). binding_in (declarations_from 0 (list_from n es)) l name) (sym (size_is pre e (pool_of es))) (regroup pre e (pool_of es))
    ∙ lookup_from es ((pre ++ e.name) ++ e.value) (rw (size_is pre e (pool_of es)) h.3) name in
    ap (λ (l : List ℕ). binding_in (declarations_from 0 l) pool name) (list_step (length pre) e es)
    ∙ first (length pre) rest pool fits (name_is pre e (pool_of es)) (text_is pre e (pool_of es)) ih
  where
    first : (p : ℕ) (rest pool : List ℕ) (fits : (length e.name < 256) × (length e.value < 65536) × (p + length e.name < 4294967296))
        → name_of pool (made p (length e.name) (p + length e.name) (length e.value)) ≡ e.name
        → text_of pool (inside (p + length e.name) (length e.value)) ≡ e.value
        → binding_in (declarations_from 0 rest) pool name ≡ declared es name
        → binding_in (declarations_from 0 (1 ∷ (operands_of p e ++ rest))) pool name ≡ declared (e ∷ es) name
    first p rest pool fits n t ih =
        ap₂ (λ (x : Declaration) (xs : List Declaration). binding_in (x ∷ xs) pool name) (read_command p e rest fits) (skip_operands p e rest fits)
        ∙ ap₂ (λ (x : List ℕ) (y : Bound). pick (same_bytes x name) y (binding_in (declarations_from 0 rest) pool name)) n (ap text t)
        ∙ ap (λ (y : Bound). pick (same_bytes e.name name) (text e.value) y) ih

-- K3: looking up in the result equals looking up in the declarations, the first binding
pub lookup_declared : (es : List Entity) → Fitting 0 es → (name : List ℕ) → binding (list_of es) (pool_of es) name ≡ declared es name
unfolding binding list_of declarations declarations_from mark_size
lookup_declared es h name = lookup_from es [] h name

-- K4: the list is marked
pub written_marked : (es : List Entity) → marked (list_of es) ≡ true
unfolding marked list_of
written_marked es = refl
