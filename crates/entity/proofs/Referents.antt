-- What a name refers to, by a command of the table or as predefined: `defines_hit` and `refers_hit` where a lookup stops at a command,
-- `refers_plain` where it stops at none, and `refers_binding`, that a referent is what the name is bound to. Assumes nothing.
use mathlib.Core.Path.{◌≡◌, refl, sym, ap, ap₂, subst, ◌∙◌}
use mathlib.Core.Bool.{Bool, true, false}
use mathlib.Core.List.{List, [], ◌∷◌}
use Prim.Native.Nat.{ℕ, ◌+◌, ◌-◌, ◌≤◌, ◌<◌}
use native.Mathlib.Omega.{arith}
use lib.ListN.{length, get_or, take, drop, length-drop}
use lib.Seq.{get_or-drop}
use Rattle.text.specs.Bytes.{pick, same_bytes}
use Rattle.text.proofs.Bytes.{same_equal}
use Rattle.entity.specs.Table.{little_endian, part, Body, inside, outside, Declaration, mark_size, declares, name_of, declarations, ValidTable}
use Rattle.entity.specs.Binding.{Bound, text, predefined, external, unknown, predefined_of, body_bound, binding_in, binding, bound_to, Lies}
use Rattle.entity.specs.Commands.{command_name, command_text, Defines, RefersTo, Refers}
use Rattle.entity.specs.Steps.{ReferentAt, Here}
use Rattle.entity.specs.declared.Binding.{Binding}
use Rattle.entity.specs.declared.Binding.TheVariants.{Text, Predefined, External, Unknown}
use Rattle.entity.specs.declared.Referent.{Referent}
use Rattle.entity.specs.declared.Referent.TheVariants.{Text as Inside, Predefined as Plain, External as Outside, Unknown as Nothing}
use Rattle.entity.proofs.Commands.{mark_fits}
use Rattle.entity.proofs.Lookup.{rest_binds, rest_is, command, hit, found}
use Rattle.entity.proofs.Reading.{little_drop, body_outside}

-- ---- a command that defines its name

-- the command at which a lookup stops
pub defines_hit : (list pool name : List ℕ) (c : ℕ) → Here list pool name c → get_or list c 0 ≡ 1 → same_bytes (command_name list pool c) name ≡ true
    → little_endian list (c + 10) 2 ≤ 65535 → Defines list pool c
unfolding bound_to
defines_hit list pool name c h one same short =
    let k = command h one in
    let start = little_endian list (c + 6) 4 in
    let size = little_endian list (c + 10) 2 in
    let q : start + size - start ≡ size = omega arith in
    let r = hit h one refl refl same (Text start (start + size)) (refl, refl, omega (arith, short)) in
    record {
      fits = k.fits;
      name = k.name;
      inside = k.text;
      short = short;
      binds = ap (binding list pool) (same_equal (command_name list pool c) name same) ∙ sym r.0 ∙ ap (λ (n : ℕ). text (part pool start n)) q;
    }

-- a command of either kind, at which a lookup stops
pub refers_hit : {list pool name : List ℕ} {at : ℕ} → Here list pool name at → declares (get_or list at 0) ≡ true → same_bytes (command_name list pool at) name ≡ true
    → (r : Referent) → ReferentAt list at r → Refers list pool name r
unfolding body_bound
refers_hit {list} {pool} {name} {at} h is same (Inside c start end) t =
    subst (λ (n : ℕ). RefersTo list pool name n start end) (sym t.1) (record {
      defines = defines_hit list pool name at h t.0 same (omega (arith, t.3, t.4));
      same = same;
      starts = t.2;
      ends = t.3;
    })
refers_hit h is same (Plain b) t = absurd t
refers_hit {list} {pool} {name} {at} h is same Outside t = found h is same ∙ ap (body_bound pool) (body_outside list at t)
refers_hit h is same Nothing t = absurd t

-- a name that is the command's is bound to its text
pub defines_binding : {list pool : List ℕ} {c : ℕ} → Defines list pool c → (name : List ℕ) → same_bytes (command_name list pool c) name ≡ true
    → binding list pool name ≡ text (command_text list pool c)
defines_binding {list} {pool} {c} d name same = ap (binding list pool) (sym (same_equal (command_name list pool c) name same)) ∙ d.binds

-- ---- a name that the table does not define

-- the lookup of predefined names answers with one, or with nothing
abbrev Plainly : Bound → Type 0
Plainly (text t) = ⊥
Plainly (predefined t) = Unit {0}
Plainly external = ⊥
Plainly unknown = Unit {0}

-- what a command gives is a text or external
abbrev Declares : Bound → Type 0
Declares (text t) = Unit {0}
Declares (predefined t) = ⊥
Declares external = Unit {0}
Declares unknown = ⊥

predefined_or_none : (name : List ℕ) → Plainly (predefined_of name)
unfolding predefined_of
predefined_or_none name =
    go (same_bytes name (108 ∷ 116 ∷ [])) (same_bytes name (103 ∷ 116 ∷ [])) (same_bytes name (97 ∷ 109 ∷ 112 ∷ []))
    (same_bytes name (97 ∷ 112 ∷ 111 ∷ 115 ∷ [])) (same_bytes name (113 ∷ 117 ∷ 111 ∷ 116 ∷ []))
  where
    go : (l g a p q : Bool)
        → Plainly (pick l (predefined (60 ∷ [])) (pick g (predefined (62 ∷ [])) (pick a (predefined (38 ∷ []))
        (pick p (predefined (39 ∷ [])) (pick q (predefined (34 ∷ [])) unknown)))))
    go true g a p q = tt
    go false true a p q = tt
    go false false true p q = tt
    go false false false true q = tt
    go false false false false true = tt
    go false false false false false = tt

-- what the predefined lookup answers, as a referent
abbrev pub plain_of : Binding → Referent
plain_of (Text start end) = Nothing
plain_of (Predefined b) = Plain b
plain_of External = Nothing
plain_of Unknown = Nothing

plain_cases : (list pool name : List ℕ) (r : Binding) → bound_to pool r ≡ predefined_of name → Lies pool r → predefined_of name ≡ binding list pool name
    → Refers list pool name (plain_of r)
unfolding bound_to
plain_cases list pool name (Text start end) e lies none = absurd (subst Plainly (sym e) (predefined_or_none name))
plain_cases list pool name (Predefined b) e lies none = (lies, sym e, sym none ∙ sym e)
plain_cases list pool name External e lies none = absurd (subst Plainly (sym e) (predefined_or_none name))
plain_cases list pool name Unknown e lies none = sym none ∙ sym e

pub refers_plain : (name : List ℕ) (r : Binding) → ((pool : List ℕ) → bound_to pool r ≡ predefined_of name) → ((pool : List ℕ) → Lies pool r)
    → {x : Binding} → r ≡ x → (list pool : List ℕ) → predefined_of name ≡ binding list pool name → Refers list pool name (plain_of x)
refers_plain name r bound lies q list pool none = subst (λ (x : Binding). Refers list pool name (plain_of x)) q (plain_cases list pool name r (bound pool) (lies pool) none)

-- a name that is bound to a predefined text is the predefined one
bound_predefined : (ds : List Declaration) (pool name t : List ℕ) → binding_in ds pool name ≡ predefined t → predefined_of name ≡ predefined t
unfolding binding_in body_bound
bound_predefined [] pool name t e = e
bound_predefined (d ∷ ds) pool name t e = go (same_bytes (name_of pool d) name) d.body e (bound_predefined ds pool name t)
  where
    go : (x : Bool) (b : Body) → pick x (body_bound pool b) (binding_in ds pool name) ≡ predefined t
        → (binding_in ds pool name ≡ predefined t → predefined_of name ≡ predefined t) → predefined_of name ≡ predefined t
    go true (inside start size) q k = absurd (subst Declares q tt)
    go true outside q k = absurd (subst Declares q tt)
    go false b q k = k q

pub predefined_binding : (list pool name t : List ℕ) → binding list pool name ≡ predefined t → predefined_of name ≡ predefined t
unfolding binding
predefined_binding list pool name t e = bound_predefined (declarations list) pool name t e

-- ---- a list after its mark

-- the referent with its command counted from the mark on
abbrev pub moved_by : ℕ → Referent → Referent
moved_by m (Inside c start end) = Inside (m + c) start end
moved_by m (Plain b) = Plain b
moved_by m Outside = Outside
moved_by m Nothing = Nothing

module _ (list pool : List ℕ) (valid : ValidTable list pool) where
  abbrev m : ℕ
  m = mark_size list

  number : (c k width : ℕ) → little_endian (drop m list) (c + k) width ≡ little_endian list (m + c + k) width
  number c k width = let q : m + (c + k) ≡ m + c + k = omega arith in little_drop m list (c + k) width ∙ ap (λ (n : ℕ). little_endian list n width) q

  byte : (c k : ℕ) → get_or (drop m list) (c + k) 0 ≡ get_or list (m + c + k) 0
  byte c k = let q : m + (c + k) ≡ m + c + k = omega arith in get_or-drop m list (c + k) 0 ∙ ap (λ (n : ℕ). get_or list n 0) q

  same_name : (c : ℕ) → command_name (drop m list) pool c ≡ command_name list pool (m + c)
  same_name c = ap₂ (part pool) (number c 1 4) (byte c 5)

  same_text : (c : ℕ) → command_text (drop m list) pool c ≡ command_text list pool (m + c)
  same_text c = ap₂ (part pool) (number c 6 4) (number c 10 2)

  moved_defines : (c : ℕ) → Defines (drop m list) pool c → Defines list pool (m + c)
  moved_defines c d =
      record {
        fits = omega (arith, d.fits, length-drop m list, mark_fits list);
        name = omega (arith, d.name, number c 1 4, byte c 5);
        inside = omega (arith, d.inside, number c 6 4, number c 10 2);
        short = omega (arith, d.short, number c 10 2);
        binds = sym (rest_binds list pool valid (command_name list pool (m + c))) ∙ ap (binding (drop m list) pool) (sym (same_name c)) ∙ d.binds ∙ ap text (same_text c);
      }

  moved_cases : (name : List ℕ) (r : Referent) → Refers (drop m list) pool name r → Refers list pool name (moved_by m r)
  moved_cases name (Inside c start end) k =
      record {
        defines = moved_defines c k.defines;
        same = ap (λ (n : List ℕ). same_bytes n name) (sym (same_name c)) ∙ k.same;
        starts = k.starts ∙ number c 6 4;
        ends = k.ends ∙ ap (λ (n : ℕ). start + n) (number c 10 2);
      }
  moved_cases name (Plain b) k = (k.0, k.1, sym (rest_binds list pool valid name) ∙ k.2)
  moved_cases name Outside k = sym (rest_binds list pool valid name) ∙ k
  moved_cases name Nothing k = sym (rest_binds list pool valid name) ∙ k

  -- what a lookup in the rest found; where the mark ends is asked by itself
  module _ (name : List ℕ) {from : ℕ} (q : from ≡ mark_size list) (r : Referent) (k : Refers (take (length list - from) (drop from list)) pool name r) where
    in_rest : Refers (drop m list) pool name r
    in_rest = subst (λ (l : List ℕ). Refers l pool name r) (rest_is list pool valid q) k

    pub refers_moved : {x : Referent} → r ≡ x → Refers list pool name (moved_by from x)
    refers_moved {x} is =
        subst (λ (n : ℕ). Refers list pool name (moved_by n x)) (sym q) (subst (λ (y : Referent). Refers list pool name (moved_by m y)) is (moved_cases name r in_rest))

    pub moved_fits : {c start end : ℕ} → r ≡ Inside c start end → from + c < length list
    moved_fits {c} {start} {end} is =
        let d = (subst (λ (y : Referent). Refers list pool name (moved_by m y)) is (moved_cases name r in_rest)).defines in
        omega (arith, q, d.fits)

-- ---- both agree with what the name is bound to

abbrev pub referent_bound : List ℕ → List ℕ → Referent → Bound
referent_bound list pool (Inside c start end) = text (command_text list pool c)
referent_bound list pool (Plain b) = predefined (b ∷ [])
referent_bound list pool Outside = external
referent_bound list pool Nothing = unknown

pub refers_binding : (list pool name : List ℕ) (r : Referent) → Refers list pool name r → binding list pool name ≡ referent_bound list pool r
refers_binding list pool name (Inside c start end) r = defines_binding r.defines name r.same
refers_binding list pool name (Plain b) r = r.2
refers_binding list pool name Outside r = r
refers_binding list pool name Nothing r = r

-- so an answer without the command is that of the lookup
pub refers_text : {list pool name : List ℕ} {c start end : ℕ} → RefersTo list pool name c start end
    → (bound_to pool (Text start end) ≡ binding list pool name) × Lies pool (Text start end)
unfolding bound_to
refers_text {list} {pool} {name} {c} {start} {end} r =
    let d = r.defines in
    let q : end - start ≡ little_endian list (c + 10) 2 = omega (arith, r.ends) in (
      rw (q, r.starts) (sym (defines_binding d name r.same)),
      (omega (arith, r.ends), omega (arith, r.starts, r.ends, d.inside), omega (arith, r.ends, d.short)),
    )

-- the answer without the command, in all its cases
abbrev pub resolved_of : Referent → Binding
resolved_of (Inside c start end) = Text start end
resolved_of (Plain b) = Predefined b
resolved_of Outside = External
resolved_of Nothing = Unknown

resolved_cases : (list pool name : List ℕ) (r : Referent) → Refers list pool name r → (bound_to pool (resolved_of r) ≡ binding list pool name) × Lies pool (resolved_of r)
unfolding bound_to
resolved_cases list pool name (Inside c start end) r = refers_text r
resolved_cases list pool name (Plain b) r = (sym r.2, r.0)
resolved_cases list pool name Outside r = (sym r, tt)
resolved_cases list pool name Nothing r = (sym r, tt)

pub refers_resolved : (list pool name : List ℕ) (r : Referent) → Refers list pool name r → {x : Referent} → r ≡ x
    → (bound_to pool (resolved_of x) ≡ binding list pool name) × Lies pool (resolved_of x)
refers_resolved list pool name r k q = subst (λ (x : Referent). (bound_to pool (resolved_of x) ≡ binding list pool name) × Lies pool (resolved_of x)) q (resolved_cases list pool name r k)
