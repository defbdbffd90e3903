-- K9, of every call that reads with a table: a reference to an external entity is refused by 27 with the offset of its `&` in the text being walked,
-- before 17, wherever it stands behind what is read, in the value and at any depth of nesting, and in unescaping, `amp` too (`k9_refers`); and by
-- nothing else is 27 given (`k9_only` of WhenRefused.antt). Assumes nothing.
use mathlib.Core.Path.{sym, subst, ◌∙◌}
use Prim.Native.Nat.{ℕ}
use mathlib.Core.Bool.{Bool, false}
use mathlib.Core.List.{List}
use lib.ListN.{length}
use Rattle.text.specs.Version.{Rule, rule_of}
use Rattle.entity.specs.Binding.{Bound, binding}
use Rattle.legal.specs.Legal.{Place}
use Rattle.tokens.specs.Tokens.{named, stop}
use Rattle.unescape.specs.Unescape.{text_head, replaced, unescape_from, unescape}
use Rattle.attribute.specs.Walk.{Settings}
use Rattle.attribute.specs.Strict.{reading_by}
use Rattle.requests.specs.Unused.{Reader, normalizing, forming, listing, unescaping, call_with}
use Rattle.requests.specs.Reached.{heads_in, stopped, ComesTo, Within, here, inside}
use Rattle.requests.specs.Refused.{AnswersSo, Outside, OutsideText, OutsideThere}
use Rattle.requests.specs.External.{ReferenceIn, Through, itself, through, Refers, RefersText, RefersThere}
use Rattle.requests.proofs.Reached.{walk_run}
use Rattle.requests.proofs.WhenRefused.{within_map, k9_there}
use Rattle.requests.proofs.BeforeReference.{value_comes, text_comes}

module _ (strict : Bool) (r : Rule) (list pool : List ℕ) (limit : ℕ) where
  abbrev s : Settings
  s = reading_by strict r list pool limit

  -- a walk comes to a reference whose part before it is read
  reference_comes : (p : Place) (depth : ℕ) (t : List ℕ) (n : ℕ) (before name : List ℕ) (m : ℕ) → ReferenceIn s p depth t n before name m
      → ComesTo (heads_in s p) (stopped s depth) t n (length before) m (stop (named (length before) name))
  reference_comes p depth t n before name m x =
      value_comes strict r list pool limit p depth t before name x.after n x.is (sym (walk_run s p depth before n) ∙ x.reads) x.unended x.no_number

  -- and opens the texts to which references lead
  pub through_within : (P : Place → ℕ → List ℕ → ℕ → Type 0) {p : Place} {depth : ℕ} {t : List ℕ} {n : ℕ} → Through s P p depth t n → Within s P p depth t n
  through_within P (itself p depth t n x) = here p depth t n x
  through_within P (through p depth less t n before name m u m' e x o w) =
      inside p depth less t n u m' e
      (record {
        k = length before;
        m = m;
        offset = length before;
        name = name;
        comes = subst (λ (d : ℕ). ComesTo (heads_in s p) (stopped s d) t n (length before) m (stop (named (length before) name))) e (reference_comes p depth t n before name m x);
        no_amp = x.no_amp;
        opens = o;
      })
      (through_within P w)

  refers_outside : (offset : ℕ) (p : Place) (depth : ℕ) (t : List ℕ) (n : ℕ) → Refers offset s p depth t n → Outside offset s p depth t n
  refers_outside offset p depth t n x =
      record {
        less = x.less;
        deep = x.deep;
        m = x.m;
        name = x.name;
        comes =
            subst (λ (j : ℕ). ComesTo (heads_in s p) (stopped s depth) t n j x.m (stop (named j x.name))) (sym x.offset_is)
            (reference_comes p depth t n x.before x.name x.m x.reference);
        no_amp = x.reference.no_amp;
        bound = x.bound;
      }

  value_outside : (offset : ℕ) {p : Place} {depth : ℕ} {t : List ℕ} {n : ℕ} → Through s (Refers offset s) p depth t n → Within s (Outside offset s) p depth t n
  value_outside offset w = within_map s (Refers offset s) (Outside offset s) (refers_outside offset) (through_within (Refers offset s) w)

text_outside : (offset : ℕ) (bind : List ℕ → Bound) (t : List ℕ) → RefersText offset bind t → OutsideText offset bind t
unfolding unescape unescape_from
text_outside offset bind t x =
    record {
      m = x.m;
      name = x.name;
      comes =
          subst (λ (j : ℕ). ComesTo text_head (replaced bind) t 0 j x.m (stop (named j x.name))) (sym x.offset_is)
          (text_comes bind t x.before x.name x.after x.is x.reads x.unended x.no_number);
      bound = x.bound;
    }

there : (offset : ℕ) (reader : Reader) (list pool : List ℕ) → RefersThere offset reader list pool → OutsideThere reader list pool offset
there offset (normalizing strict t version depth limit out) list pool w = value_outside strict (rule_of version) list pool limit offset w
there offset (forming strict t version depth limit scratch out) list pool w = value_outside strict (rule_of version) list pool limit offset w
there offset (listing t version depth limit scratch out) list pool w = value_outside false (rule_of version) list pool limit offset w
there offset (unescaping t out) list pool w = text_outside offset (binding list pool) t w

-- K9: "27 when a reference is bound by command 2, with the offset of `&`, before 17, in unescaping too": of any value whose part before the reference
-- is read, whatever the limit, in the text being walked
pub k9_refers : (reader : Reader) (list pool : List ℕ) (offset : ℕ) → RefersThere offset reader list pool → AnswersSo reader 27 offset 0 (call_with reader list pool)
k9_refers reader list pool offset w = k9_there reader list pool offset (there offset reader list pool w)
