-- Where a walk comes to, in the value and in the texts that it opens, and by what it is refused there (document 01, Attribute walk: the first
-- refusal is the answer). Assumes nothing.
use Rattle.std.specs.Prelude.{◌≡◌, ◌≢◌, ℕ, zero, suc, ◌+◌, false, List, [], ◌∷◌, ◌++◌, length, drop}
use Rattle.text.specs.Bytes.{same_bytes}
use Rattle.text.specs.Answers.{Refused}
use Rattle.charref.specs.CharRef.{char_number, any_character, number_answer}
use Rattle.entity.specs.Binding.{Bound, text, external, predefined, unknown}
use Rattle.legal.specs.Legal.{Place, in_value, in_table}
use Rattle.tokens.specs.Tokens.{Stop, kept, space, number, named, unterminated, Token, copy, stop, barred, Heads, token_of, tokens}
use Rattle.tokens.specs.Outcome.{Outcome, done, run}
use Rattle.unescape.specs.Unescape.{text_head, replaced}
use Rattle.attribute.specs.Walk.{Settings, answer, exhausted, walk}

-- how a text is read: the value, or a text of the table
abbrev pub heads_in : Settings → Place → Heads
heads_in s in_value = s.outer
heads_in s in_table = s.inner

-- what becomes of a stop, with a depth
abbrev pub stopped : Settings → ℕ → Stop → ℕ → Outcome
stopped s zero = exhausted
stopped s (suc depth) = answer s (λ u n. walk s s.inner depth u n)

-- a text that is read by these heads and answers, with `n` openings before it, is read as far as `k`, where `m` have been made: its first `k` bytes are
-- whole tokens, none refused
pub record ReadTo (at : Heads) (f : Stop → ℕ → Outcome) (t : List ℕ) (n k m : ℕ) : Type 0 where
  pub front : List Token
  pub cut : tokens at 0 0 t ≡ front ++ tokens at k 0 (drop k t)
  pub value : List ℕ
  pub reads : run f front n ≡ done value m

-- and this is the token that begins with the byte at `k`
pub record ComesTo (at : Heads) (f : Stop → ℕ → Outcome) (t : List ℕ) (n k m : ℕ) (x : Token) : Type 0 where
  pub read : ReadTo at f t n k m
  pub byte : ℕ
  pub after : List ℕ
  pub rest : drop k t ≡ byte ∷ after
  pub is : x ≡ token_of (at k byte after)

-- a reference opens this text, after which so many openings have been made
abbrev pub Opens : ℕ → ℕ → Bound → List ℕ → ℕ → Type 0
Opens limit m (text t) u m' = (m ≢ limit) × (u ≡ t) × (m' ≡ suc m)
Opens limit m external u m' = ⊥
Opens limit m (predefined t) u m' = (u ≡ t) × (m' ≡ m)
Opens limit m unknown u m' = ⊥

-- one level of nesting: the walk of a text comes to a reference and opens its text
pub record Opening (s : Settings) (p : Place) (depth : ℕ) (t : List ℕ) (n : ℕ) (u : List ℕ) (m' : ℕ) : Type 0 where
  pub k : ℕ
  pub m : ℕ
  pub offset : ℕ
  pub name : List ℕ
  pub comes : ComesTo (heads_in s p) (stopped s (suc depth)) t n k m (stop (named offset name))
  pub no_amp : same_bytes name (97 ∷ 109 ∷ 112 ∷ []) ≡ false
  pub opens : Opens s.limit m (s.bind name) u m'

-- this holds of the text that is walked or, at any depth of nesting, of one that is opened
pub data Within (s : Settings) (P : Place → ℕ → List ℕ → ℕ → Type 0) : Place → ℕ → List ℕ → ℕ → Type 0 where
  here : (p : Place) (depth : ℕ) (t : List ℕ) (n : ℕ) → P p depth t n → Within s P p depth t n
  inside : (p : Place) (depth less : ℕ) (t : List ℕ) (n : ℕ) (u : List ℕ) (m : ℕ) → depth ≡ suc less → Opening s p less t n u m → Within s P in_table less u m
      → Within s P p depth t n

-- Refusals by place: that of a name which opens nothing
abbrev pub OwnName : ℕ → ℕ → ℕ → List ℕ → Bound → ℕ → ℕ → ℕ → Type 0
OwnName limit m offset name (text t) why first second = (m ≡ limit) × (why ≡ 17) × (first ≡ offset) × (second ≡ 0)
OwnName limit m offset name external why first second = (why ≡ 27) × (first ≡ offset) × (second ≡ 0)
OwnName limit m offset name (predefined t) why first second = ⊥
OwnName limit m offset name unknown why first second = (why ≡ 11) × (first ≡ suc offset) × (second ≡ suc offset + length name)

-- Refusals by place: that of a stop itself, where the depth is not used up
abbrev pub OwnStop : Settings → Stop → ℕ → ℕ → ℕ → ℕ → Type 0
OwnStop s (kept b) m why first second = ⊥
OwnStop s space m why first second = ⊥
OwnStop s (number digits) m why first second = number_answer (char_number s.legal digits) ≡ Refused why first second
OwnStop s (named offset name) m why first second =
    (same_bytes name (97 ∷ 109 ∷ 112 ∷ []) ≡ false) × OwnName s.limit m offset name (s.bind name) why first second
OwnStop s (unterminated offset end) m why first second = (why ≡ 10) × (first ≡ offset) × (second ≡ end)

-- Refusals by place: that of a token itself, with a depth
abbrev pub Own : Settings → ℕ → Token → ℕ → ℕ → ℕ → ℕ → Type 0
Own s depth (copy b) m why first second = ⊥
Own s zero (stop x) m why first second = (why ≡ 16) × (first ≡ 0) × (second ≡ 0)
Own s (suc depth) (stop x) m why first second = OwnStop s x m why first second
Own s depth (barred k) m why first second = (why ≡ 26) × (first ≡ k) × (second ≡ 0)

-- the walk of this text comes to a token that is refused so
pub record RefusedAt (s : Settings) (why first second : ℕ) (p : Place) (depth : ℕ) (t : List ℕ) (n : ℕ) : Type 0 where
  pub k : ℕ
  pub m : ℕ
  pub token : Token
  pub comes : ComesTo (heads_in s p) (stopped s depth) t n k m token
  pub own : Own s depth token m why first second

-- ---- unescaping, where no text is opened

-- Refusals by place: that of a name
abbrev pub OwnCopied : ℕ → List ℕ → Bound → ℕ → ℕ → ℕ → Type 0
OwnCopied offset name (text t) why first second = ⊥
OwnCopied offset name external why first second = (why ≡ 27) × (first ≡ offset) × (second ≡ 0)
OwnCopied offset name (predefined t) why first second = ⊥
OwnCopied offset name unknown why first second = (why ≡ 11) × (first ≡ suc offset) × (second ≡ suc offset + length name)

-- Refusals by place: that of a stop in a text that is unescaped
abbrev pub OwnInText : (List ℕ → Bound) → Stop → ℕ → ℕ → ℕ → Type 0
OwnInText bind (kept b) why first second = ⊥
OwnInText bind space why first second = ⊥
OwnInText bind (number digits) why first second = number_answer (char_number any_character digits) ≡ Refused why first second
OwnInText bind (named offset name) why first second = OwnCopied offset name (bind name) why first second
OwnInText bind (unterminated offset end) why first second = (why ≡ 10) × (first ≡ offset) × (second ≡ end)

-- unescaping comes to a stop that is refused so
pub record RefusedInText (bind : List ℕ → Bound) (why first second : ℕ) (t : List ℕ) : Type 0 where
  pub k : ℕ
  pub m : ℕ
  pub token : Stop
  pub comes : ComesTo text_head (replaced bind) t 0 k m (stop token)
  pub own : OwnInText bind token why first second
