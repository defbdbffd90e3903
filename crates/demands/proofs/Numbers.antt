-- The numbers by which checks and walks refuse (document 01, Refusals by place), and what that says of a call. Assumes nothing.
use mathlib.Core.Path.{◌≡◌, refl}
use Prim.Native.Nat.{ℕ, zero, suc}
use mathlib.Core.Bool.{Bool, true, false}
use mathlib.Core.List.{List, [], ◌∷◌}
use lib.ListN.{length}
use lib.Dec.{eqb, ltb}
use Rattle.text.specs.Bytes.{pick, same_bytes}
use Rattle.text.proofs.Bytes.{pick_both}
use Rattle.text.specs.Version.{Rule, known_version}
use Rattle.text.specs.Call.{called, call_of, passed, and_then, laid, finish, length_check, version_check, utf8_check}
use Rattle.text.specs.Utf8.{utf8_end}
use Rattle.text.specs.Answers.{Answer}
use Rattle.text.specs.Answers.{Done, Refused}
use Rattle.charref.specs.CharRef.{any_character, char_number, number_answer}
use Rattle.charref.specs.CharNumbers.{CharNumber}
use Rattle.charref.specs.CharNumbers.{Char, UnexpectedSign, InvalidNumber, InvalidCodepoint, IllegalCharacter, Forbidden}
use Rattle.charref.proofs.Numbers.{char_forbidden, any_passes}
use Rattle.escape.specs.Escape.{known_level, level_check}
use Rattle.entity.specs.Table.{table_check, marked}
use Rattle.entity.specs.Binding.{Bound, text, external, predefined, unknown}
use Rattle.entity.proofs.Tables.{ByNumber, table_answers}
use Rattle.tokens.specs.Tokens.{Stop, kept, space, number, named, unterminated, Token, copy, stop, barred, Heads, token_of, skip_of, tokens}
use Rattle.tokens.specs.Outcome.{Outcome, done, refused, prepend, followed, run, numbered, number_outcome, finished}
use Rattle.tokens.proofs.Barred.{IsBarred, BarsNothing}
use Rattle.unescape.specs.Unescape.{text_head, copied, replaced, unescape}
use Rattle.unescape.proofs.Unescaped.{text_passes}
use Rattle.attribute.specs.Checks.{settings_check}
use Rattle.attribute.specs.Heads.{attribute_head}
use Rattle.attribute.specs.Walk.{Settings, opened, answer, exhausted, walk, normalize, inner_head, reading, reading_of}
use Rattle.attribute.proofs.Heads.{attribute_passes, inner_passes}

-- what is said of the number of a refusal
abbrev pub By : (ℕ → Type 0) → Answer → Type 0
By P a = ByNumber P a

abbrev pub Fails : (ℕ → Type 0) → Outcome → Type 0
Fails P (done value openings) = Unit {0}
Fails P (refused before openings why first second) = P why

-- the numbers of a table's check, of a text with references, and of the walk besides
pub record TableNumbers (P : ℕ → Type 0) : Type 0 where
  pub six : P 6
  pub seven : P 7
  pub eight : P 8
  pub nine : P 9

pub record NumberNumbers (P : ℕ → Type 0) : Type 0 where
  pub twelve : P 12
  pub thirteen : P 13
  pub fourteen : P 14
  pub fifteen : P 15

pub record TextNumbers (P : ℕ → Type 0) : Type 0 where
  pub ten : P 10
  pub eleven : P 11
  pub twenty_seven : P 27
  pub numbers : NumberNumbers P

pub record WalkNumbers (P : ℕ → Type 0) : Type 0 where
  pub texts : TextNumbers P
  pub sixteen : P 16
  pub seventeen : P 17

module _ (P : ℕ → Type 0) where
  -- ---- checks

  pub by_then : (x y : Answer) → By P x → By P y → By P (and_then x y)
  by_then (Done first second) y h k = k
  by_then (Refused why first second) y h k = h

  by_pick : (t : Bool) (x y : Answer) → By P x → By P y → By P (pick t x y)
  by_pick t x y h k = pick_both (By P) t {a = x} {b = y} h k

  pub by_length : P 1 → (t : List ℕ) → By P (length_check t)
  unfolding length_check
  by_length h t = by_pick (ltb 16777216 (length t)) (Refused 1 (length t) 0) passed h tt

  pub by_utf8 : P 5 → (t : List ℕ) → By P (utf8_check t)
  unfolding utf8_check
  by_utf8 h t = by_pick (eqb (utf8_end t) (length t)) passed (Refused 5 (utf8_end t) 0) tt h

  pub by_version : P 4 → (version : ℕ) → By P (version_check version)
  unfolding version_check
  by_version h version = by_pick (known_version version) passed (Refused 4 0 0) tt h

  pub by_level : P 4 → (level : ℕ) → By P (level_check level)
  unfolding level_check
  by_level h level = by_pick (known_level level) passed (Refused 4 0 0) tt h

  pub by_settings : P 2 → P 3 → P 4 → (version depth limit : ℕ) → By P (settings_check version depth limit)
  unfolding settings_check
  by_settings h k l version depth limit =
      by_pick (ltb 128 depth) (Refused 2 0 0) (pick (ltb 1000000 limit) (Refused 3 0 0) (version_check version)) h
      (by_pick (ltb 1000000 limit) (Refused 3 0 0) (version_check version) k (by_version l version))

  pub by_table : TableNumbers P → (list pool : List ℕ) → By P (table_check list pool)
  by_table h list pool = table_answers P h.six h.seven h.eight h.nine list pool

  -- ---- walks

  fails_prepend : (front : List ℕ) (o : Outcome) → Fails P o → Fails P (prepend front o)
  fails_prepend front (done value n) h = tt
  fails_prepend front (refused before n why first second) h = h

  fails_followed : (o : Outcome) (rest : ℕ → Outcome) → Fails P o → ((n : ℕ) → Fails P (rest n)) → Fails P (followed o rest)
  fails_followed (done value n) rest h k = fails_prepend value (rest n) (k n)
  fails_followed (refused before n why first second) rest h k = h

  abbrev Failing : (Stop → ℕ → Outcome) → Type 0
  Failing f = (s : Stop) (n : ℕ) → Fails P (f s n)

  -- heads that bar some characters, by 26, or none
  abbrev pub Bars : Heads → Type 0
  Bars at = (offset b : ℕ) (bs : List ℕ) → IsBarred (token_of (at offset b bs)) → P 26

  pub bars_none : (at : Heads) → BarsNothing at → Bars at
  bars_none at h offset b bs p = absurd (h offset b bs p)

  fails_token : (f : Stop → ℕ → Outcome) → Failing f → (t : Token) → (IsBarred t → P 26) → (ts : List Token) → ((n : ℕ) → Fails P (run f ts n))
      → (n : ℕ) → Fails P (run f (t ∷ ts) n)
  unfolding run
  fails_token f h (copy b) k ts rest n = fails_prepend (b ∷ []) (run f ts n) (rest n)
  fails_token f h (stop s) k ts rest n = fails_followed (f s n) (λ m. run f ts m) (h s n) rest
  fails_token f h (barred o) k ts rest n = k tt

  fails_run : (at : Heads) → Bars at → (f : Stop → ℕ → Outcome) → Failing f → (t : List ℕ) (offset skip n : ℕ) → Fails P (run f (tokens at offset skip t) n)
  unfolding run tokens
  fails_run at k f h [] offset skip n = tt
  fails_run at k f h (b ∷ bs) offset (suc skip) n = fails_run at k f h bs (suc offset) skip n
  fails_run at k f h (b ∷ bs) offset zero n =
      let skip = skip_of (at offset b bs) in
      fails_token f h (token_of (at offset b bs)) (k offset b bs) (tokens at (suc offset) skip bs) (fails_run at k f h bs (suc offset) skip) n

  -- a rule for characters that forbids some of them, by 25, or none
  abbrev pub Forbids : (ℕ → CharNumber) → Type 0
  Forbids legal = (n : ℕ) → legal n ≡ Forbidden → P 25

  pub forbids_none : Forbids any_character
  forbids_none n e = absurd (any_passes n e)

  by_char : NumberNumbers P → (c : CharNumber) → (c ≡ Forbidden → P 25) → By P (number_answer c)
  unfolding number_answer
  by_char h (Char n) f = tt
  by_char h UnexpectedSign f = h.twelve
  by_char h InvalidNumber f = h.thirteen
  by_char h (InvalidCodepoint n) f = h.fourteen
  by_char h IllegalCharacter f = h.fifteen
  by_char h Forbidden f = f refl

  pub by_number : NumberNumbers P → (legal : ℕ → CharNumber) → Forbids legal → (digits : List ℕ) → By P (number_answer (char_number legal digits))
  by_number h legal f digits = by_char h (char_number legal digits) (char_forbidden legal (P 25) f digits)

  fails_numbered : (a : Answer) (n : ℕ) → By P a → Fails P (numbered a n)
  unfolding numbered
  fails_numbered (Done c second) n h = tt
  fails_numbered (Refused why first second) n h = h

  fails_number : NumberNumbers P → (legal : ℕ → CharNumber) → Forbids legal → (digits : List ℕ) (n : ℕ) → Fails P (number_outcome legal digits n)
  unfolding number_outcome
  fails_number h legal f digits n = fails_numbered (number_answer (char_number legal digits)) n (by_number h legal f digits)

  fails_copied : P 11 → P 27 → (offset : ℕ) (name : List ℕ) (b : Bound) (n : ℕ) → Fails P (copied offset name b n)
  unfolding copied
  fails_copied h e offset name (text t) n = tt
  fails_copied h e offset name external n = e
  fails_copied h e offset name (predefined t) n = tt
  fails_copied h e offset name unknown n = h

  fails_replaced : TextNumbers P → (bind : List ℕ → Bound) → Failing (replaced bind)
  unfolding replaced
  fails_replaced h bind (kept b) n = tt
  fails_replaced h bind space n = tt
  fails_replaced h bind (number digits) n = fails_number h.numbers any_character forbids_none digits n
  fails_replaced h bind (named offset name) n = fails_copied h.eleven h.twenty_seven offset name (bind name) n
  fails_replaced h bind (unterminated offset end) n = h.ten

  pub fails_unescape : TextNumbers P → (bind : List ℕ → Bound) (t : List ℕ) → Fails P (unescape bind t)
  unfolding unescape
  fails_unescape h bind t = fails_run text_head (bars_none text_head text_passes) (replaced bind) (fails_replaced h bind) t 0 0 0

  module _ (h : WalkNumbers P) (st : Settings) (f : Forbids st.legal) where
    fails_opened : (walked : List ℕ → ℕ → Outcome) → ((t : List ℕ) (n : ℕ) → Fails P (walked t n)) → (offset : ℕ) (name : List ℕ) (b : Bound) (n : ℕ)
        → Fails P (opened st.limit walked offset name b n)
    unfolding opened
    fails_opened walked k offset name (text t) n =
        pick_both (Fails P) (eqb n st.limit) {a = refused [] n 17 offset 0} {b = walked t (suc n)} h.seventeen (k t (suc n))
    fails_opened walked k offset name external n = h.texts.twenty_seven
    fails_opened walked k offset name (predefined t) n = k t n
    fails_opened walked k offset name unknown n = h.texts.eleven

    fails_answer : (walked : List ℕ → ℕ → Outcome) → ((t : List ℕ) (n : ℕ) → Fails P (walked t n)) → Failing (answer st walked)
    unfolding answer
    fails_answer walked k (kept b) n = tt
    fails_answer walked k space n = tt
    fails_answer walked k (number digits) n = fails_number h.texts.numbers st.legal f digits n
    fails_answer walked k (named offset name) n =
        pick_both (Fails P) (same_bytes name (97 ∷ 109 ∷ 112 ∷ [])) {a = done (38 ∷ []) n} {b = opened st.limit walked offset name (st.bind name) n} tt
        (fails_opened walked k offset name (st.bind name) n)
    fails_answer walked k (unterminated offset end) n = h.texts.ten

    fails_walk : (at : Heads) → Bars at → Bars st.inner → (depth : ℕ) (t : List ℕ) (n : ℕ) → Fails P (walk st at depth t n)
    unfolding walk exhausted
    fails_walk at k i zero t n = fails_run at k exhausted (λ s m. unfold exhausted in h.sixteen) t 0 0 n
    fails_walk at k i (suc depth) t n =
        fails_run at k (answer st (λ u m. walk st st.inner depth u m))
        (fails_answer (λ u m. walk st st.inner depth u m) (fails_walk st.inner i i depth)) t 0 0 n

    fails_normalize : Bars st.outer → Bars st.inner → (depth : ℕ) (t : List ℕ) → Fails P (normalize st depth t)
    unfolding normalize
    fails_normalize k i depth t = fails_walk st.outer k i depth t 0

  -- of a reading of document 01, which forbids and bars no character
  pub fails_reading : WalkNumbers P → (r : Rule) (list pool : List ℕ) (limit depth : ℕ) (t : List ℕ) → Fails P (normalize (reading_of r list pool limit) depth t)
  unfolding reading_of reading
  fails_reading h r list pool limit depth t =
      fails_normalize h (reading_of r list pool limit) forbids_none
      (bars_none (attribute_head r) (attribute_passes r)) (bars_none (inner_head (marked list) r) (inner_passes (marked list) r)) depth t

-- ---- how a call that walks ends

pub finished_done : (value : List ℕ) (openings : ℕ) (out : List ℕ) → finished (done value openings) out ≡ finish value openings out
unfolding finished finish
finished_done value openings out = go (ltb (length out) (length value))
  where
    go : (t : Bool) → call_of (pick t (Refused 19 (length value) 0) (Done (length value) openings)) (pick t out (laid value out) ∷ [])
        ≡ pick t (called 19 (length value ∷ 0 ∷ []) (out ∷ [])) (called 0 (length value ∷ openings ∷ []) (laid value out ∷ []))
    go true = refl
    go false = refl
