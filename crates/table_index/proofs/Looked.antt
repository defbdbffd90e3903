-- One probe of a lookup, at a slot with `s` in it: empty, a command with the name, or another command; and a name that is too long for any
-- command (`long_none`). Assumes nothing.
use Rattle.std.proofs.Common.{◌≡◌, ℕ, ◌+◌, ◌-◌, ◌<◌, Bool, true, false, ◌≢◌, List, length, get_or, sym, ap, ◌∙◌, subst, arith}
use Rattle.text.specs.Bytes.{same_bytes}
use Rattle.entity.specs.Table.{little_endian, ValidTable}
use Rattle.entity.specs.Binding.{binding, predefined_of}
use Rattle.entity.specs.Commands.{command_name, Refers}
use Rattle.entity.specs.Steps.{ReferentAt}
use Rattle.entity.specs.declared.Referent.{Referent}
use Rattle.entity.proofs.Lookup.{Declared, differ_length}
use Rattle.table_index.specs.Index.{member, home_of, slot_of, Whole, Looking}
use Rattle.table_index.proofs.CommandsPassed.{stands_over}
use Rattle.table_index.proofs.Finding.{probing_more, index_hit, index_miss}
use Rattle.table_index.proofs.BuildingPlaces.{command_declared}

module _ {list pool name words : List ℕ} {from k s : ℕ} (l : Looking list pool name words from k) (less : k < 16) (is : s ≡ slot_of words (from + k)) where
  here : slot_of words (home_of (length words) name + k) ≡ s
  here = ap (λ (n : ℕ). slot_of words (n + k)) (sym l.is) ∙ sym is

  pub looked_none : s ≡ 0 → predefined_of name ≡ binding list pool name
  looked_none e =
      let w = l.whole in
      index_miss list pool (home_of (length words)) (slot_of words) name l.valid w.end w.commands w.passed w.indexes k less l.probing (here ∙ e) w.over

  module _ (some : s ≢ 0) where
    after : s ≡ s - 1 + 1
    after = omega (arith, some)

    pub looked_declared : Declared list pool (s - 1)
    looked_declared =
        let w = l.whole in
        command_declared list pool l.valid w.end w.commands w.passed (s - 1)
        (subst (λ (n : ℕ). member (n - 1) w.commands ≡ true) here (w.indexes.only (home_of (length words) name + k) (λ e. some (sym here ∙ e))))

    pub looked_hit : {x : Bool} → x ≡ same_bytes (command_name list pool (s - 1)) name → x ≡ true → (r : Referent) → ReferentAt list (s - 1) r
        → Refers list pool name r
    looked_hit q e r t =
        let w = l.whole in
        index_hit list pool (home_of (length words)) (slot_of words) name l.valid w.end w.commands w.passed w.indexes k less l.probing (s - 1) (here ∙ after) (sym q ∙ e) r t

    pub looked_more : {j : ℕ} {x : Bool} → x ≡ same_bytes (command_name list pool (s - 1)) name → x ≡ false → j ≡ k + 1 → Looking list pool name words from j
    looked_more {j} named e q =
        record {
          valid = l.valid;
          whole = l.whole;
          is = l.is;
          fits = l.fits;
          large = l.large;
          within = omega (arith, q, less);
          probing = probing_more list pool (home_of (length words)) (slot_of words) name k l.probing (λ z. some (sym here ∙ z))
              (ap (λ (n : ℕ). same_bytes (command_name list pool (n - 1)) name) here ∙ sym named ∙ e) q;
        }

-- a command's name has at most 255 bytes
pub long_none : (list pool name : List ℕ) {words : List ℕ} → ValidTable list pool → Whole list pool words → ((k : ℕ) → get_or list k 0 < 0x100) → 255 < length name
    → predefined_of name ≡ binding list pool name
long_none list pool name v w bytes long = stands_over list pool name v w.end w.commands w.passed w.over other
  where
    other : (c : ℕ) → member c w.commands ≡ true → same_bytes (command_name list pool c) name ≡ false
    other c m =
        let d = command_declared list pool v w.end w.commands w.passed c m in
        differ_length pool (little_endian list (c + 1) 4) name (get_or list (c + 5) 0) d.name (λ e. absurd (omega (arith, bytes (c + 5), e, long)))
