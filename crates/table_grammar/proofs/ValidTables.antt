-- The list and the pool that are written are a valid table (`written_valid`), with as many declarations as there are entities. Assumes nothing.
use mathlib.Core.Path.{◌≡◌, refl, ap, ap₂, sym, ◌∙◌}
use mathlib.Core.Bool.{Bool, false, ◌||◌, not}
use mathlib.Core.List.{List, [], ◌∷◌, ◌++◌}
use Prim.Native.Nat.{ℕ, suc, ◌+◌, ◌*◌, ◌≤◌, ◌<◌}
use native.Mathlib.Omega.{arith}
use lib.ListN.{length, length-append}
use borrow.Author.Tests.{ne_eqb, le-ltb}
use Rattle.text.specs.Utf8.{well_formed, WellFormed}
use Rattle.text.specs.Call.{passed}
use Rattle.text.specs.Answers.{Answer}
use Rattle.text.proofs.Utf8.{testable}
use Rattle.entity.specs.Table.{Declaration, inside, declaration, name_of, text_of, mark_size, runs_past, ill_formed, declaration_check, end_check, commands_check, size_check, table_check, ValidTable}
use Rattle.table_grammar.specs.EntityDecl.{Entity}
use Rattle.table_grammar.specs.TableWritten.{u16, u32, command_at, command_of, commands_from, list_of, pool_of, most}
use Rattle.table_grammar.proofs.FirstBinds.{Fitting, made, operands_of, read_command, name_is, text_is, regroup, size_is, list_from, list_step}

-- names that are not empty, names and values of whole characters
abbrev pub Good : List Entity → Type 0
Good [] = Unit {0}
Good (e ∷ es) = (0 < length e.name) × WellFormed e.name × WellFormed e.value × Good es

pub commands_length : (p : ℕ) (es : List Entity) → length (commands_from p es) ≡ 12 * length es
unfolding commands_from command_of command_at u32 u16
commands_length p [] = refl
commands_length p (e ∷ es) = omega (arith, commands_length (p + length e.name + length e.value) es)

-- the length of the list: 12 bytes for each entity, the mark and the end
pub list_length_lem : (es : List Entity) → length (list_of es) ≡ 12 * length es + 2
unfolding list_of
list_length_lem es = omega (arith, length-append (commands_from 0 es) (0 ∷ []), commands_length 0 es)

module _ (pool : List ℕ) (e : Entity) (p : ℕ)
    (n : name_of pool (made p (length e.name) (p + length e.name) (length e.value)) ≡ e.name)
    (t : text_of pool (inside (p + length e.name) (length e.value)) ≡ e.value)
    (fits : p + length e.name + length e.value ≤ length pool)
    (full : 0 < length e.name) (u : WellFormed e.name) (v : WellFormed e.value) where
  not_past : runs_past pool (made p (length e.name) (p + length e.name) (length e.value)) ≡ false
  unfolding runs_past
  not_past = rw (le-ltb (length pool) (p + length e.name) (omega arith), le-ltb (length pool) (p + length e.name + length e.value) fits)

  not_ill : ill_formed pool (made p (length e.name) (p + length e.name) (length e.value)) ≡ false
  unfolding ill_formed
  not_ill =
      rw (ne_eqb (length e.name) 0 (λ q. omega arith))
      (ap₂ (λ (x y : Bool). not x || not y) (ap well_formed n ∙ testable e.name u) (ap well_formed t ∙ testable e.value v))

  passes_check : (at : ℕ) (rest : Answer) → declaration_check pool at (made p (length e.name) (p + length e.name) (length e.value)) rest ≡ rest
  unfolding declaration_check
  passes_check at rest = rw (not_past, not_ill)

skip_check : (pool : List ℕ) (at p : ℕ) (e : Entity) (rest : List ℕ) → commands_check pool (suc at) 11 (operands_of p e ++ rest) ≡ commands_check pool (12 + at) 0 rest
unfolding commands_check u32 u16
skip_check pool at p e rest = ap (λ (k : ℕ). commands_check pool k 0 rest) (omega arith)

one_command : (pool : List ℕ) (at p : ℕ) (e : Entity) (rest : List ℕ)
    → commands_check pool at 0 (1 ∷ (operands_of p e ++ rest)) ≡ declaration_check pool at (declaration 1 (operands_of p e ++ rest)) (commands_check pool (suc at) 11 (operands_of p e ++ rest))
unfolding commands_check u32 u16
one_command pool at p e rest = rw (le-ltb (length (operands_of p e ++ rest)) 11 (omega arith))

check_from : (es : List Entity) (pre : List ℕ) → Fitting (length pre) es → Good es → (at : ℕ) → commands_check (pre ++ pool_of es) at 0 (list_from (length pre) es) ≡ passed
unfolding pool_of
check_from [] pre h g at = unfold commands_check in unfold commands_from in unfold end_check in refl
check_from (e ∷ es) pre h g at =
    let rest = list_from (length pre + length e.name + length e.value) es in
    let pool = pre ++ (e.name ++ (e.value ++ pool_of es)) in
    let fits : (length e.name < 256) × (length e.value < 65536) × (length pre + length e.name < 4294967296) = (h.0, h.1, h.2) in
    let room : length pre + length e.name + length e.value ≤ length pool =
    let l = ap (λ (x : List ℕ). length x) (regroup pre e (pool_of es)) ∙ length-append ((pre ++ e.name) ++ e.value) (pool_of es) in
    let k = size_is pre e (pool_of es) in
    omega (arith, l, k) in
    let ih : commands_check pool (12 + at) 0 rest ≡ passed =
    ap₂ (λ (n : ℕ) (l : List ℕ). commands_check l (12 + at) 0 (list_from n es)) (sym (size_is pre e (pool_of es))) (regroup pre e (pool_of es))
    ∙ check_from es ((pre ++ e.name) ++ e.value) (rw (size_is pre e (pool_of es)) h.3) g.3 (12 + at) in
    ap (commands_check pool at 0) (list_step (length pre) e es)
    ∙ one_command pool at (length pre) e rest
    ∙ ap₂ (λ (x : Declaration) (y : Answer). declaration_check pool at x y) (read_command (length pre) e rest fits) (skip_check pool at (length pre) e rest)
    ∙ passes_check pool e (length pre) (name_is pre e (pool_of es)) (text_is pre e (pool_of es)) room g.0 g.1 g.2 at (commands_check pool (12 + at) 0 rest)
    ∙ ih

-- K3: what is written passes the check of a table
pub written_valid : (es : List Entity) → Fitting 0 es → Good es → length es ≤ most → length (pool_of es) ≤ 1048576 → ValidTable (list_of es) (pool_of es)
unfolding table_check size_check
written_valid es h g few short =
    let l = list_length_lem es in
    let c : commands_check (pool_of es) 0 (mark_size (list_of es)) (list_of es) ≡ passed = unfold list_of in unfold mark_size in unfold commands_check in check_from es [] h g 1 in
    rw (le-ltb 49154 (length (list_of es)) (omega (arith, l)), le-ltb 1048576 (length (pool_of es)) short, c)
