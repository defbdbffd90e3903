-- K9, external entities in the table (document 02), stated of the calls. Assumes nothing.
use Rattle.std.specs.Prelude.{◌≡◌, ◌≢◌, ℕ, suc, Bool, true, false, ◌&&◌, ◌||◌, List, [], ◌∷◌, ◌++◌, eqb, length, get_or}
use Rattle.text.specs.Bytes.{same_bytes}
use Rattle.text.specs.Version.{rule_of}
use Rattle.entity.specs.Binding.{Bound, external, binding}
use Rattle.legal.specs.Legal.{Place, in_value, in_table}
use Rattle.tokens.specs.Outcome.{done}
use Rattle.halts.specs.Halts.{any_stop}
use Rattle.unescape.specs.Unescape.{unescape}
use Rattle.attribute.specs.Walk.{Settings, walk}
use Rattle.attribute.specs.Strict.{reading_by}
use Rattle.requests.specs.Unused.{Reader, normalizing, forming, listing, unescaping}
use Rattle.requests.specs.Reached.{heads_in, Opens}

-- where a name ends: at the next `;`; in unescaping, where `inner` holds, a `&` may not come before it
abbrev pub ends_name : Bool → ℕ → Bool
ends_name inner b = eqb b 59 || (inner && eqb b 38)

-- a text, walked with a depth after `n` openings: bytes that are read as they stand, with `m` openings then, a reference to a name, and anything
pub record ReferenceIn (s : Settings) (p : Place) (depth : ℕ) (t : List ℕ) (n : ℕ) (before name : List ℕ) (m : ℕ) : Type 0 where
  pub after : List ℕ
  pub is : t ≡ before ++ 38 ∷ (name ++ 59 ∷ after)
  pub value : List ℕ
  pub reads : walk s (heads_in s p) depth before n ≡ done value m
  pub unended : any_stop (ends_name false) name ≡ false
  pub no_number : get_or name 0 0 ≢ 35
  pub no_amp : same_bytes name (97 ∷ 109 ∷ 112 ∷ []) ≡ false

-- this holds of a text, or of one to which references lead from it, at any depth of nesting
pub data Through (s : Settings) (P : Place → ℕ → List ℕ → ℕ → Type 0) : Place → ℕ → List ℕ → ℕ → Type 0 where
  itself : (p : Place) (depth : ℕ) (t : List ℕ) (n : ℕ) → P p depth t n → Through s P p depth t n
  through : (p : Place) (depth less : ℕ) (t : List ℕ) (n : ℕ) (before name : List ℕ) (m : ℕ) (u : List ℕ) (m' : ℕ) → depth ≡ suc less
      → ReferenceIn s p depth t n before name m → Opens s.limit m (s.bind name) u m' → Through s P in_table less u m' → Through s P p depth t n

-- K9: "a reference is bound by command 2", with that offset of its `&`
pub record Refers (offset : ℕ) (s : Settings) (p : Place) (depth : ℕ) (t : List ℕ) (n : ℕ) : Type 0 where
  pub less : ℕ
  pub deep : depth ≡ suc less
  pub before : List ℕ
  pub name : List ℕ
  pub m : ℕ
  pub reference : ReferenceIn s p depth t n before name m
  pub bound : s.bind name ≡ external
  pub offset_is : offset ≡ length before

-- the same in unescaping, where `amp` is looked up as any other name
pub record RefersText (offset : ℕ) (bind : List ℕ → Bound) (t : List ℕ) : Type 0 where
  pub before : List ℕ
  pub name : List ℕ
  pub after : List ℕ
  pub is : t ≡ before ++ 38 ∷ (name ++ 59 ∷ after)
  pub value : List ℕ
  pub m : ℕ
  pub reads : unescape bind before ≡ done value m
  pub unended : any_stop (ends_name true) name ≡ false
  pub no_number : get_or name 0 0 ≢ 35
  pub bound : bind name ≡ external
  pub offset_is : offset ≡ length before

-- what a call reads refers to an external entity so: its value, or a text to which references lead from it
abbrev pub ValueRefers : ℕ → Bool → List ℕ → ℕ → ℕ → ℕ → List ℕ → List ℕ → Type 0
ValueRefers offset strict t version depth limit list pool =
    Through (reading_by strict (rule_of version) list pool limit) (Refers offset (reading_by strict (rule_of version) list pool limit)) in_value depth t 0

abbrev pub RefersThere : ℕ → Reader → List ℕ → List ℕ → Type 0
RefersThere offset (normalizing strict t version depth limit out) list pool = ValueRefers offset strict t version depth limit list pool
RefersThere offset (forming strict t version depth limit scratch out) list pool = ValueRefers offset strict t version depth limit list pool
RefersThere offset (listing t version depth limit scratch out) list pool = ValueRefers offset false t version depth limit list pool
RefersThere offset (unescaping t out) list pool = RefersText offset (binding list pool) t
