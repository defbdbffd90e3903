-- A guard of 0 finds no fault (`none_found`); else `first_fault` finds the first.
use mathlib.Core.Path.{◌≡◌, refl, sym, subst}
use mathlib.Core.List.{List}
use Prim.Native.Nat.{ℕ, suc, ◌-◌, ◌≤◌}
use native.Mathlib.Omega.{arith}
use native.Mathlib.Nat.{le_refl}
use lib.ListN.{length}
use Rattle.legal.specs.FirstFault.{FirstFault}
use Rattle.attribute.specs.Steps.{fault_by}
use Rattle.flat.proofs.run_fault.Goals as goal

none_found : (t : List ℕ) (from to guard : ℕ) → from ≤ to → to ≤ length t → guard ≡ 0 → FirstFault (fault_by guard) t from to to
none_found t from to guard a b z =
    subst (λ (g : ℕ). FirstFault (fault_by g) t from to to) (sym z)
    (record { clean = record { from = a; to = b; none = λ k g h. refl }; within = le_refl _; found = λ h. absurd (omega (arith, h)) })

pub returns-then-guard-eq0 : goal.returns-then-guard-eq0
returns-then-guard-eq0 c =
    let a = c.args in
    none_found a.text.now a.from a.to a.guard c.requires.0 c.requires.1 c.if-guard-eq0.true

pub returns : goal.returns
returns c =
    let a = c.args in
    let q : suc (a.guard - 1) ≡ a.guard = omega (arith, c.if-guard-eq0.false) in
    subst (λ (g : ℕ). FirstFault (fault_by g) a.text.now a.from a.to c.first_fault.result) q c.first_fault.ensures
