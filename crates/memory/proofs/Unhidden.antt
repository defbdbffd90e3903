-- Predefined names that the table does not define: what was found out of one name holds of every name that has its word
-- (`unhidden_word`), and a list without commands hides none (`bare_unhidden`). Assumes nothing.
use mathlib.Core.Path.{◌≡◌, refl, sym, ap, subst, ◌∙◌}
use mathlib.Core.Logic.{◌≢◌}
use mathlib.Core.Bool.{Bool, true, false, true≢false}
use mathlib.Core.List.{List, [], ◌∷◌}
use Prim.Native.Nat.{ℕ, ◌≤◌}
use native.Mathlib.Omega.{arith}
use lib.Dec.{eqb}
use lib.ListN.{length}
use Rattle.text.specs.Bytes.{pick, same_bytes}
use Rattle.text.proofs.Bytes.{same_equal, equal_same}
use Rattle.entity.specs.Binding.{Bound, predefined, unknown, predefined_of, binding}
use Rattle.entity.specs.Commands.{Unhidden}
use Rattle.entity.specs.Table.{ValidTable}
use Rattle.entity.proofs.Lookup.{begin, over, last_over}
use Rattle.memory.specs.Slots.{plain_word}

-- the byte that a word of the memory is for
abbrev byte_of : ℕ → ℕ
byte_of w = pick (eqb w 80) 60 (pick (eqb w 81) 62 (pick (eqb w 82) 39 34))

-- a predefined name by its byte
abbrev name_for : ℕ → List ℕ
name_for b =
    pick (eqb b 60) (108 ∷ 116 ∷ []) (pick (eqb b 62) (103 ∷ 116 ∷ []) (pick (eqb b 39) (97 ∷ 112 ∷ 111 ∷ 115 ∷ [])
    (pick (eqb b 34) (113 ∷ 117 ∷ 111 ∷ 116 ∷ []) (97 ∷ 109 ∷ 112 ∷ []))))

record Named (name : List ℕ) (b : ℕ) : Type 0 where
  is : name ≡ name_for b
  back : b ≢ 38 → byte_of (plain_word b) ≡ b

named_by : (name lit : List ℕ) (c : ℕ) → same_bytes name lit ≡ true → lit ≡ name_for c → (c ≢ 38 → byte_of (plain_word c) ≡ c)
    → {b : ℕ} → ◌≡◌ {A = Bound} (predefined (c ∷ [])) (predefined (b ∷ [])) → Named name b
named_by name lit c same n k {b} e =
    let z : c ≡ b = cc in
    subst (Named name) z (record { is = same_equal name lit same ∙ n; back = k })

named : (name : List ℕ) (b : ℕ) → predefined_of name ≡ predefined (b ∷ []) → Named name b
unfolding predefined_of
named name b e =
    go (same_bytes name (108 ∷ 116 ∷ [])) (same_bytes name (103 ∷ 116 ∷ [])) (same_bytes name (97 ∷ 109 ∷ 112 ∷ []))
    (same_bytes name (97 ∷ 112 ∷ 111 ∷ 115 ∷ [])) (same_bytes name (113 ∷ 117 ∷ 111 ∷ 116 ∷ [])) refl refl refl refl refl e
  where
    go : (l g a p q : Bool) → same_bytes name (108 ∷ 116 ∷ []) ≡ l → same_bytes name (103 ∷ 116 ∷ []) ≡ g → same_bytes name (97 ∷ 109 ∷ 112 ∷ []) ≡ a
        → same_bytes name (97 ∷ 112 ∷ 111 ∷ 115 ∷ []) ≡ p → same_bytes name (113 ∷ 117 ∷ 111 ∷ 116 ∷ []) ≡ q
        → pick l (predefined (60 ∷ [])) (pick g (predefined (62 ∷ [])) (pick a (predefined (38 ∷ []))
        (pick p (predefined (39 ∷ [])) (pick q (predefined (34 ∷ [])) unknown)))) ≡ predefined (b ∷ [])
        → Named name b
    go true g a p q x1 x2 x3 x4 x5 k = named_by name (108 ∷ 116 ∷ []) 60 x1 refl (λ z. refl) k
    go false true a p q x1 x2 x3 x4 x5 k = named_by name (103 ∷ 116 ∷ []) 62 x2 refl (λ z. refl) k
    go false false true p q x1 x2 x3 x4 x5 k = named_by name (97 ∷ 109 ∷ 112 ∷ []) 38 x3 refl (λ z. absurd (z refl)) k
    go false false false true q x1 x2 x3 x4 x5 k = named_by name (97 ∷ 112 ∷ 111 ∷ 115 ∷ []) 39 x4 refl (λ z. refl) k
    go false false false false true x1 x2 x3 x4 x5 k = named_by name (113 ∷ 117 ∷ 111 ∷ 116 ∷ []) 34 x5 refl (λ z. refl) k
    go false false false false false x1 x2 x3 x4 x5 k = absurd (let z : ◌≡◌ {A = ℕ} 0 1 = cc in omega arith)

-- a lookup that came to the predefined text says it of the name, whenever it is asked again
pub unhidden_found : (list pool name : List ℕ) (b : ℕ) → binding list pool name ≡ predefined (b ∷ []) → predefined_of name ≡ predefined (b ∷ []) → Unhidden list pool b
unhidden_found list pool name b e p other q =
    ap (binding list pool) ((named other b q).is ∙ sym (named name b p).is) ∙ e

-- a word is for one name: what was found out of one holds of every one that has its word
pub unhidden_word : (list pool name : List ℕ) (c b : ℕ) → c ≢ 38 → b ≢ 38 → plain_word b ≡ plain_word c → binding list pool name ≡ predefined (c ∷ [])
    → predefined_of name ≡ predefined (c ∷ []) → Unhidden list pool b
unhidden_word list pool name c b hc hb e found p other q =
    let z : b ≡ c = sym ((named other b q).back hb) ∙ ap byte_of e ∙ (named name c p).back hc in
    subst (λ (x : ℕ). binding list pool other ≡ predefined (x ∷ [])) (sym z)
    (unhidden_found list pool name c found p other (subst (λ (x : ℕ). predefined_of other ≡ predefined (x ∷ [])) z q))

-- a name that is not `amp` stands for another byte than `&`
pub not_amp : (name : List ℕ) (b : ℕ) → same_bytes name (97 ∷ 109 ∷ 112 ∷ []) ≡ false → predefined_of name ≡ predefined (b ∷ []) → b ≢ 38
not_amp name b other p e =
    let is : name ≡ 97 ∷ 109 ∷ 112 ∷ [] = (named name b p).is ∙ ap name_for e in
    true≢false (sym (equal_same name) ∙ ap (same_bytes name) is ∙ other)

-- a list of two bytes, the mark and the end, or of one has no command, and hides no predefined name
pub bare_unhidden : (list pool : List ℕ) (b : ℕ) → ValidTable list pool → length list ≤ 2 → Unhidden list pool b
bare_unhidden list pool b valid two name p =
    let here = begin list pool name valid refl in
    sym (over here (last_over here (omega (arith, two)))) ∙ p
