-- Between two openings: what a reference means, and what becomes of a halt. Terms in which code is proved. Assumes nothing.
use Rattle.std.specs.Prelude.{ℕ, ◌+◌, ◌-◌, ◌≤◌, ◌<◌, ◌≡◌, ◌≢◌, Bool, true, false, List, [], ◌∷◌, length, get_or, take, drop, Result, Ok, Err}
use Rattle.text.specs.Bytes.{same_bytes}
use Rattle.text.specs.Utf8.{WellFormed}
use Rattle.text.specs.Refusals.{number_of, first_of, second_of}
use Rattle.text.specs.declared.refusals.Refusal.{Refusal}
use Rattle.charref.specs.CharRef.{encode}
use Rattle.charref.specs.Reading.{legal_by}
use Rattle.legal.specs.FirstFault.{Clean}
use Rattle.halts.specs.Halts.{Smooth}
use Rattle.entity.specs.Table.{ValidTable}
use Rattle.entity.specs.Binding.{predefined, predefined_of, binding}
use Rattle.entity.specs.Commands.{command_name, command_text, Defines}
use Rattle.tokens.specs.Tokens.{named, stop, Heads, token_of}
use Rattle.tokens.specs.Outcome.{Outcome, done, refused, number_outcome}
use Rattle.tokens.specs.Walking.{NameEnd, head_at, next_at}
use Rattle.attribute.specs.Walk.{Settings}
use Rattle.attribute.specs.Steps.{fault_by, read_by, Refers, outcome_at}
use Rattle.memory.specs.Levels.{Level, at_depth, Adds, Came, RefusesAt, Opens}
use Rattle.memory.specs.declared.Reading.{Reading}
use Rattle.memory.specs.declared.Place.{Place}
use Rattle.flat.specs.declared.Meaning.{Meaning}
use Rattle.flat.specs.declared.Meaning.TheVariants.{Char, Name}
use Rattle.flat.specs.declared.Halted.{Halted}
use Rattle.flat.specs.declared.Halted.TheVariants.{Next, Opening, Paused}

-- ---- pieces of what is written

-- they are added after `len` bytes, and their number is told, whether they fit or not
abbrev pub Writes : List ℕ → ℕ → List ℕ → List ℕ → ℕ → Type 0
Writes more len old new size = (size ≡ length more) × Adds more len old new

-- ---- a text that is copied where it is referred to

-- it has no halt, and every character in it may stand
pub record Leaf (newer : Bool) (guard : ℕ) (text : List ℕ) : Type 0 where
  pub smooth : Smooth newer text 0 (length text)
  pub clean : Clean (fault_by guard) text 0 (length text)

-- ---- references

-- the outcome of the `&` at an offset, however the text is read, in every reading of numbers by the rule and at every depth that is not used up
abbrev pub Answers : ℕ → List ℕ → ℕ → (ℕ → Outcome) → Type 0
Answers rule text at outcome =
    (heads : Heads) → Refers heads → (s : Settings) → s.legal ≡ legal_by rule → (depth : ℕ) → depth ≢ 0 → (n : ℕ) → outcome_at s heads depth text at n ≡ outcome n

-- the `&` at an offset stands for a character; what comes after it starts at `next`
pub record ForChar (rule : ℕ) (text : List ℕ) (at c next : ℕ) : Type 0 where
  pub small : c ≤ 1114111
  pub utf8 : WellFormed (encode c)
  pub on : at + 2 ≤ next
  pub to : next ≤ length text
  pub next_is : (heads : Heads) → Refers heads → next_at heads text at ≡ next
  pub given : Answers rule text at (λ n. done (encode c) n)

-- the name between `&` and `;`
abbrev pub name_of : List ℕ → ℕ → ℕ → List ℕ
name_of text at end = take (end - (at + 1)) (drop (at + 1) text)

-- the `&` at an offset starts a reference to a name other than `amp`, up to the `;` at `end`
pub record ForName (text : List ℕ) (at end : ℕ) : Type 0 where
  pub amp : get_or text at 0 ≡ 38
  pub ends : NameEnd false text (at + 1) end
  pub inside : end < length text
  pub no_number : get_or text (at + 1) 0 ≢ 35
  pub no_amp : same_bytes (name_of text at end) (97 ∷ 109 ∷ 112 ∷ []) ≡ false

-- the `&` at an offset starts `&lt;` or `&gt;`, which stands for the byte: the table does not define it
pub record ForPlain (text list pool : List ℕ) (at b : ℕ) : Type 0 where
  pub name : ForName text at (at + 3)
  pub is : predefined_of (name_of text at (at + 3)) ≡ predefined (b ∷ [])
  pub bound : binding list pool (name_of text at (at + 3)) ≡ predefined (b ∷ [])

-- what a reference means besides a text
abbrev pub Means : ℕ → List ℕ → ℕ → Result Meaning Refusal → Type 0
Means rule text at (Ok (Char c next)) = ForChar rule text at c next
Means rule text at (Ok (Name end)) = ForName text at end
Means rule text at (Err r) = Answers rule text at (λ n. refused [] n (number_of r) (first_of r) (second_of r))

-- a character number, with the text after `#`
abbrev pub NumberMeans : ℕ → List ℕ → ℕ → Result Meaning Refusal → Type 0
NumberMeans rule digits next (Ok (Char c after)) =
    (after ≡ next) × (c ≤ 1114111) × WellFormed (encode c) × ((n : ℕ) → number_outcome (legal_by rule) digits n ≡ done (encode c) n)
NumberMeans rule digits next (Ok (Name end)) = ⊥
NumberMeans rule digits next (Err r) =
    (n : ℕ) → number_outcome (legal_by rule) digits n ≡ refused [] n (number_of r) (first_of r) (second_of r)

-- ---- a halt

-- how far a halt goes; it pauses for want of a memory alone
abbrev pub Past : ℕ → ℕ → List ℕ → Result Halted Refusal → Type 0
Past size at seen (Ok (Next next len made)) = (at < next) × (next ≤ size)
Past size at seen (Ok (Opening next command slot)) = (at < next) × (next ≤ size)
Past size at seen (Ok Paused) = length seen ≡ 0
Past size at seen (Err r) = Unit {0}

-- where a level stands after the halt at a place
abbrev pub Goes : Level → List ℕ → List ℕ → ℕ → List ℕ → List ℕ → Place → Result Halted Refusal → Type 0
Goes l v whole begun out words p (Ok (Next next len made)) = Came l v whole begun out words next (p.len + len) made
Goes l v whole begun out words p (Ok (Opening next command slot)) = Opens l v whole begun out words p.at next command slot p.len p.openings
Goes l v whole begun out words p (Ok Paused) = Came l v whole begun out words p.at p.len p.openings
Goes l v whole begun out words p (Err r) = RefusesAt l begun (number_of r) (first_of r) (second_of r) p.openings

-- of the steps at a halt, at the depth of the level and at every greater one
pub record HaltKeeps (l : Level) (base : ℕ) (p : Place) (old seen new kept : List ℕ) (r : Result Halted Refusal) : Type 0 where
  pub past : Past (length l.text) p.at seen r
  pub buffer : length new ≡ length old
  pub words : length kept ≡ length seen
  pub goes : (depth : ℕ) → l.depth ≤ depth → (v whole : List ℕ) (begun : ℕ) → length v ≡ base
      → Came (at_depth depth l) v whole begun old seen p.at p.len p.openings → Goes (at_depth depth l) v whole begun new kept p r

-- what is known of a reference whose name is bound to the text of a command, before the text is had again, copied or opened
pub record Referred (r : Reading) (text list pool : List ℕ) (p : Place) (command next : ℕ) (value : List ℕ) : Type 0 where
  pub name : List ℕ
  pub deep : r.depth ≢ 0
  pub bytes : (k : ℕ) → get_or list k 0 < 0x100
  pub valid : ValidTable list pool
  pub inside : p.at < length text
  pub on : p.at < next
  pub to : next ≤ length text
  pub next_is : next_at (read_by r.how r.guard) text p.at ≡ next
  pub is : token_of (head_at (read_by r.how r.guard) text p.at) ≡ stop (named p.at name)
  pub no_amp : same_bytes name (97 ∷ 109 ∷ 112 ∷ []) ≡ false
  pub defines : Defines list pool command
  pub same : same_bytes (command_name list pool command) name ≡ true
  pub text_is : value ≡ command_text list pool command
