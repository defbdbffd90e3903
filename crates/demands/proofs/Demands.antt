-- Demands 2 and 3 hold of the definitions. Assumes nothing.
use mathlib.Core.Path.{◌≡◌, refl, ap, sym, subst, ◌∙◌}
use mathlib.Core.Logic.{◌≢◌, ◌↔◌}
use Prim.Native.Nat.{ℕ, zero, suc, ◌≤◌}
use native.Mathlib.Omega.{arith}
use mathlib.Core.Bool.{Bool, true, false}
use mathlib.Core.List.{List, [], ◌∷◌}
use Rattle.text.specs.Bytes.{same_bytes}
use Rattle.text.specs.Version.{Rule}
use Rattle.text.specs.Utf8.{WellFormed}
use Rattle.text.proofs.Bytes.{same_equal}
use Rattle.escape.specs.Escape.{level_of}
use Rattle.escape.proofs.Levels.{escape_well_formed}
use Rattle.entity.specs.Table.{Declaration, name_of, marked, declarations}
use Rattle.entity.specs.Binding.{predefined_of, binding}
use Rattle.entity.proofs.Tables.{Undeclared, undeclared_binds}
use Rattle.tokens.specs.Outcome.{done}
use Rattle.attribute.specs.Walk.{normalize, reading_of}
use Rattle.canonical.specs.Canonical.{canonical}
use Rattle.attribute.proofs.Values.{table_well_formed}
use Rattle.canonical.proofs.Canonical.{canonical_well_formed}
use Rattle.attribute.proofs.Reread.{LeavesPredefined, normalize_canonical, canonical_exactly}
use Rattle.demands.specs.Demands.{EscapedReads, Asked, rule_for, Accepted, form_of, EqualExactly, NoneNamed, DefinesNone, AskedAgain, Rereads}
use Rattle.demands.proofs.RoundTrip.{unescape_escape}

-- Demand 2, of the definitions: a text escaped at any of the four levels unescapes, with an empty table, to itself.
pub demand_2 : (level : ℕ) (t : List ℕ) → WellFormed t → EscapedReads level t
demand_2 level t h = record { utf8 = escape_well_formed (level_of level) t h; reads = unescape_escape level t }

-- ---- what a table that defines none of the four leaves them bound to

differs : (a name : List ℕ) → a ≢ name → (t : Bool) → same_bytes a name ≡ t → t ≡ false
differs a name n true e = absurd (n (same_equal a name e))
differs a name n false e = refl

undeclared : (name pool : List ℕ) (ds : List Declaration) → NoneNamed name pool ds → Undeclared ds pool name
undeclared name pool [] h = tt
undeclared name pool (d ∷ ds) h = (differs (name_of pool d) name h.0 (same_bytes (name_of pool d) name) refl, undeclared name pool ds h.1)

unnamed : (name list pool : List ℕ) → NoneNamed name pool (declarations list) → binding list pool name ≡ predefined_of name
unfolding binding
unnamed name list pool h = undeclared_binds (declarations list) pool name (undeclared name pool (declarations list) h)

-- A table that defines none of lt, gt, apos and quot leaves them predefined.
pub leaves_predefined : (list pool : List ℕ) → DefinesNone list pool → LeavesPredefined (binding list pool)
unfolding predefined_of
leaves_predefined list pool h =
    record {
      lt = unnamed (108 ∷ 116 ∷ []) list pool h.lt;
      gt = unnamed (103 ∷ 116 ∷ []) list pool h.gt;
      apos = unnamed (97 ∷ 112 ∷ 111 ∷ 115 ∷ []) list pool h.apos;
      quot = unnamed (113 ∷ 117 ∷ 111 ∷ 116 ∷ []) list pool h.quot;
    }

-- ---- demand 3

-- Demand 3, first half, of the definitions: accepted values of one version are equal exactly when their canonical forms are.
pub demand_3_equal : (a b : Asked) (v w : List ℕ) (m n : ℕ) → rule_for a ≡ rule_for b → Accepted a v m → Accepted b w n → EqualExactly a b v w
demand_3_equal a b v w m n e p q = subst (λ (r : Rule). (v ≡ w) ↔ (canonical (rule_for a) v ≡ canonical r w)) e (canonical_exactly (rule_for a) v w)

-- an accepted value is UTF-8
pub accepted_well_formed : (a : Asked) (value : List ℕ) (openings : ℕ) → Accepted a value openings → WellFormed value
accepted_well_formed a value openings p =
    table_well_formed (rule_for a) a.list a.pool a.limit a.depth a.text value openings p.reads p.taken.table p.taken.utf8

reads_again : (r : Rule) (list pool : List ℕ) → DefinesNone list pool → (limit depth : ℕ) → 1 ≤ depth → (value : List ℕ)
    → normalize (reading_of r list pool limit) depth (canonical r value) ≡ done value 0
unfolding reading_of
reads_again r list pool h limit zero s value = absurd (omega arith)
reads_again r list pool h limit (suc depth) s value = normalize_canonical r (marked list) (binding list pool) limit depth (leaves_predefined list pool h) value

-- Demand 3, second half, of the definitions: a canonical form is accepted again, gives the value it was written from with no opening, and
-- is its own canonical form.
pub demand_3_again : (a : Asked) (value : List ℕ) (openings : ℕ) → Accepted a value openings → (b : Asked) → AskedAgain a value b → Rereads value b
demand_3_again a value openings p b q =
    let e : b.text ≡ form_of b value = q.form ∙ ap (λ (r : Rule). canonical r value) (sym q.version) in
    record {
      accepted = record {
        taken = record {
          size = q.size;
          deep = q.deep;
          most = q.most;
          known = q.known;
          table = q.table;
          utf8 = rw e (canonical_well_formed (rule_for b) value (accepted_well_formed a value openings p));
        };
        reads = rw e (reads_again (rule_for b) b.list b.pool q.free b.limit b.depth q.shallow value);
      };
      itself = sym e;
    }
