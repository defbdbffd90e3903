-- K5, lists of panel ids (document 02), stated of the calls. Assumes nothing.
use Rattle.std.specs.Prelude.{◌≡◌, ℕ, zero, suc, ◌+◌, ◌<◌, ◌≤◌, true, List, [], ◌∷◌, length, take, drop, get_or}
use Rattle.text.specs.Call.{Called, called, laid}
use Rattle.collapse.specs.Collapse.{spaced}
use Rattle.collapse.specs.Tokens.{Clean}
use Rattle.tokens.specs.Outcome.{Outcome, done}
use Rattle.govlezna.specs.Calls.{normalize_nmtokens_call, next_nmtoken_call}
use Rattle.demands.specs.Demands.{Asked}
use Rattle.demands.specs.CallDemands.{listed, piece_numbers}

-- K5: the call, as it is asked, with the buffers that it is lent
abbrev pub nmtokens_of : Asked → List ℕ → List ℕ → Called
nmtokens_of a scratch out = normalize_nmtokens_call a.text a.version a.depth a.limit a.list a.pool scratch out

-- the offset that a call leaves
abbrev pub offset_in : Called → ℕ
offset_in (called number words buffers) = get_or (get_or buffers 0 []) 0 0

-- what a call for the next token leaves behind that comes after `before` others, the first of them with this offset
unfoldable pub next_from : ℕ → List ℕ → ℕ → Called
next_from zero text offset = next_nmtoken_call text offset
next_from (suc before) text offset = next_from before text (offset_in (next_nmtoken_call text offset))

-- where token number k starts, if the first of them starts at `base`: a space stands before each other
unfoldable pub start_of : ℕ → ℕ → List (List ℕ) → ℕ
start_of base zero ws = base
start_of base (suc k) [] = base
start_of base (suc k) (w ∷ ws) = start_of (base + length w + 1) k ws

-- K5: the part's start and length, and "the offset after them"
abbrev pub handing : ℕ → ℕ → Called
handing start size = called 0 (start ∷ size ∷ []) (((start + size) ∷ []) ∷ [])

-- K5: "no more", with the offset at the end
abbrev pub nothing_left : List ℕ → Called
nothing_left result = called 255 (0 ∷ 0 ∷ []) ((length result ∷ []) ∷ [])

-- K5: the calls on a result from offset 0 hand out its tokens "in order as parts of the result, each exactly once", and then say "no more"
pub record HandsOut (result : List ℕ) : Type 0 where
  pub tokens : List (List ℕ)
  pub joined : spaced tokens ≡ result
  pub clean : (k : ℕ) → k < length tokens → Clean (get_or tokens k [])
  pub hands : (k : ℕ) → k < length tokens → next_from k result 0 ≡ handing (start_of 0 k tokens) (length (get_or tokens k []))
  pub parts : (k : ℕ) → k < length tokens → take (length (get_or tokens k [])) (drop (start_of 0 k tokens) result) ≡ get_or tokens k []
  pub no_more : (k : ℕ) → length tokens ≤ k → next_from k result 0 ≡ nothing_left result

-- Refusals by place, for the call that lists tokens
abbrev pub list_numbers : List ℕ
list_numbers = 1 ∷ 2 ∷ 3 ∷ 4 ∷ 5 ∷ 6 ∷ 7 ∷ 8 ∷ 9 ∷ 10 ∷ 11 ∷ 12 ∷ 13 ∷ 14 ∷ 15 ∷ 16 ∷ 17 ∷ 18 ∷ 27 ∷ []  -- and 19

-- demand 1 of that call: the output is left by every refusal, and the scratch by all but 19, after which its first bytes
-- are the value that the walk made of this text, the rest kept
pub data RefusesList (walk : Outcome) (scratch out : List ℕ) : Called → Type 0 where
  listing : (words : List ℕ) (buffers : List (List ℕ)) → RefusesList walk scratch out (called 0 words buffers)
  untouched : (number : ℕ) (words : List ℕ) → listed number list_numbers ≡ true → RefusesList walk scratch out (called number words (scratch ∷ out ∷ []))
  short : (value : List ℕ) (openings : ℕ) (words : List ℕ) → walk ≡ done value openings → length value ≤ length scratch
      → RefusesList walk scratch out (called 19 words (laid value scratch ∷ out ∷ []))

-- demand 1 of the call for the next token: the offset moves with a token alone; 255, "no more", leaves it too
pub data RefusesToken (offset : ℕ) : Called → Type 0 where
  token : (start size : ℕ) → RefusesToken offset (called 0 (start ∷ size ∷ []) (((start + size) ∷ []) ∷ []))
  stays : (number : ℕ) (words : List ℕ) → listed number piece_numbers ≡ true → RefusesToken offset (called number words ((offset ∷ []) ∷ []))
