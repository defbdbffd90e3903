-- The calls of demands 2 and 3 run one after the other: what the second reads is what the first was asked. Assumes nothing.
use mathlib.Core.Path.{◌≡◌, refl, ap, ap₂, sym, ◌∙◌}
use mathlib.Core.Logic.{◌≢◌}
use Prim.Native.Nat.{ℕ, ◌≤◌}
use native.Mathlib.Omega.{arith}
use mathlib.Core.Bool.{Bool, true, false}
use mathlib.Core.List.{List, [], ◌∷◌, ◌++◌}
use lib.ListN.{length, take, get_or}
use lib.Seq.{length-take-le}
use lib.Dec.{ltb}
use borrow.Author.Tests.{le-ltb, ltb-false}
use Rattle.text.specs.Bytes.{pick}
use Rattle.text.specs.Call.{Called, called, guarded, passed, laid, finish, length_check, argument_check}
use Rattle.text.specs.Answers.{Answer}
use Rattle.text.specs.Answers.{Done, Refused}
use Rattle.output.proofs.Laid.{laid_length}
use Rattle.escape.specs.Escape.{level_check, level_of, level_set, write}
use Rattle.escape.proofs.Levels.{level_ascii}
use Rattle.entity.specs.Table.{declarations}
use Rattle.entity.proofs.Tables.{empty_valid}
use Rattle.tokens.specs.Outcome.{Outcome, done, refused}
use Rattle.attribute.specs.Form.{besides, handed, formed}
use Rattle.attribute.proofs.InHand.{handed_length, handed_again}
use Rattle.govlezna.specs.Calls.{escape_call, unescape_call, walk_check, walked, canonical_form_call}
use Rattle.demands.specs.Demands.{Asked, rule_for, Accepted, form_of, DefinesNone, AskedAgain}
use Rattle.demands.specs.CallDemands.{canonical_of}
use Rattle.demands.specs.Again.{read_as, escaped_back, formed_twice, canonical_twice}
use Rattle.demands.proofs.RoundTrip.{level_reads}
use Rattle.demands.proofs.CallDemands.{Escaped, escape_answered, unescape_form, first_bytes, taken_passes, Formed, canonical_accepted, canonical_answered}
use Rattle.demands.proofs.Demands.{demand_3_again}

-- what a call leaves, with one buffer more behind its own
abbrev before : List ℕ → Called → Called
before last (called number words buffers) = called number words (buffers ++ last ∷ [])

-- ---- demand 2

module _ (text : List ℕ) (level : ℕ) (out back : List ℕ) {number : ℕ} {words left : List ℕ} (e : called number words (left ∷ []) ≡ escape_call text level out) where
  -- a refusal of the first call is the answer
  pub escape_stops : number ≢ 0 → called number words (left ∷ back ∷ []) ≡ escaped_back text level out back
  unfolding escape_call escaped_back finish
  escape_stops h =
      go (argument_check text (level_check level)) (ltb (length out) (length form))
      (besides (laid form out) (read_as form text back)) e
    where
      form : List ℕ
      form = write (level_set (level_of level)) text

      go : (c : Answer) (t : Bool) (rest : Called)
          → called number words (left ∷ [])
          ≡ guarded c (out ∷ []) (pick t (called 19 (length form ∷ 0 ∷ []) (out ∷ [])) (called 0 (length form ∷ 0 ∷ []) (laid form out ∷ [])))
          → called number words (left ∷ back ∷ []) ≡ guarded c (out ∷ back ∷ []) (pick t (called 19 (length form ∷ 0 ∷ []) (out ∷ back ∷ [])) rest)
      go (Done first second) true rest q = ap (before back) q
      go (Done first second) false rest q = absurd (h cc)
      go (Refused why first second) t rest q = ap (before back) q

  module _ (zero : number ≡ 0) where
    wrote : Escaped text level out words (left ∷ [])
    wrote = escape_answered text level out (sym e ∙ ap (λ (n : ℕ). called n words (left ∷ [])) zero)

    form : List ℕ
    form = write (level_set (level_of level)) text

    size : get_or words 0 0 ≡ length form
    unfolding form
    size = ap (λ (w : List ℕ). get_or w 0 0) wrote.writes.words_are

    left_is : left ≡ laid form out
    unfolding form
    left_is = let b = wrote.writes.left_is in cc

    -- its form lies in the first bytes
    pub escape_fits : get_or words 0 0 ≤ length left
    unfolding form
    escape_fits = rw (size, left_is, laid_length form out wrote.writes.room) wrote.writes.room

    pub escape_read : {number' : ℕ} {words' back' : List ℕ} → called number' words' (back' ∷ []) ≡ unescape_call (take (get_or words 0 0) left) (0 ∷ []) [] back
        → called number' words' (left ∷ back' ∷ []) ≡ escaped_back text level out back
    unfolding escaped_back form
    escape_read q =
        let u =
        q ∙ ap (λ (t : List ℕ). unescape_call t (0 ∷ []) [] back) (first_bytes form out size left_is)
        ∙ unescape_form (level_set (level_of level)) (level_reads (level_of level)) (level_ascii (level_of level)) text wrote.utf8 back in
        rw (wrote.checks, le-ltb (length out) (length form) wrote.writes.room, left_is) (ap (besides (laid form out)) u)

-- ---- demand 3

-- the empty table defines nothing
empty_defines : DefinesNone (0 ∷ []) []
unfolding declarations
empty_defines = record { lt = tt; gt = tt; apos = tt; quot = tt }

-- what a call that normalizes is asked, its parameters in their order
abbrev pub asked : List ℕ → ℕ → ℕ → ℕ → List ℕ → List ℕ → Asked
asked text version depth limit list pool = record { version = version; text = text; list = list; pool = pool; depth = depth; limit = limit }

-- a form asked again under its version byte, at depth 1, with no opening and an empty table
abbrev again : ℕ → List ℕ → Asked
again version form = asked form version 1 0 (0 ∷ []) []

-- 1 where it is too long, else itself; a scratch that holds the last character of the value keeps all its bytes
canonical_form_again : (a : Asked) (value : List ℕ) (openings : ℕ) → Accepted a value openings → (scratch out : List ℕ) → 4 ≤ length scratch
    → canonical_of (again a.version (form_of a value)) (handed value scratch) out
    ≡ besides (handed value scratch) (read_as (form_of a value) (form_of a value) out)
unfolding canonical_form_call length_check formed
canonical_form_again a value openings p scratch out room = go (ltb 16777216 (length form)) refl
  where
    form : List ℕ
    form = form_of a value

    held : List ℕ
    held = handed value scratch

    kept : (short : Bool) → pick short held (handed value held) ≡ held
    kept true = refl
    kept false = handed_again value scratch

    go : (t : Bool) → ltb 16777216 (length form) ≡ t
        → canonical_of (again a.version form) held out ≡ besides held (guarded (pick t (Refused 1 (length form) 0) passed) (out ∷ []) (finish form 0 out))
    go true q = rw q
    go false q =
        let ready : AskedAgain a value (again a.version form) =
        record {
          form = refl;
          size = ltb-false 16777216 (length form) q;
          version = refl;
          known = p.taken.known;
          shallow = omega arith;
          deep = omega arith;
          most = omega arith;
          table = empty_valid;
          free = empty_defines;
        } in
        let r = demand_3_again a value openings p (again a.version form) ready in
        canonical_accepted (again a.version form) value 0 r.accepted held out
        ∙ rw (le-ltb (length held) 4 (rw (handed_length value scratch room) room), kept (ltb (length out) (length form)))

-- what a call leaves, with one buffer more behind its first
abbrev second_of : List ℕ → List (List ℕ) → List (List ℕ)
second_of left [] = left ∷ []
second_of left (first ∷ rest) = first ∷ left ∷ rest

abbrev second : List ℕ → Called → Called
second left (called number words buffers) = called number words (second_of left buffers)

second_besides : (left first : List ℕ) (c : Called) → second left (besides first c) ≡ besides first (besides left c)
second_besides left first (called number words buffers) = refl

-- both runs of an accepted value, where there is room for the first
twice_accepted : (a : Asked) (value : List ℕ) (openings : ℕ) → Accepted a value openings → (scratch out last : List ℕ)
    → 4 ≤ length scratch → length (form_of a value) ≤ length out
    → canonical_twice a.text a.version a.depth a.limit a.list a.pool scratch out last
    ≡ besides (handed value scratch) (besides (laid (form_of a value) out) (read_as (form_of a value) (form_of a value) last))
unfolding canonical_twice formed_twice
twice_accepted a value openings p scratch out last room space =
    rw (taken_passes a p.taken, p.reads, le-ltb (length scratch) 4 room, le-ltb (length out) (length (form_of a value)) space)

module _ (a : Asked) (scratch out last : List ℕ) {number : ℕ} {words held left : List ℕ} (e : called number words (held ∷ left ∷ []) ≡ canonical_of a scratch out) where
  abbrev twice : Called
  twice = canonical_twice a.text a.version a.depth a.limit a.list a.pool scratch out last

  pub canonical_stops : number ≢ 0 → called number words (held ∷ left ∷ last ∷ []) ≡ twice
  unfolding canonical_form_call canonical_twice formed finish
  canonical_stops h = go (walk_check a.text a.version a.depth a.limit a.list a.pool) (walked a.text a.version a.depth a.limit a.list a.pool) e
    where
      filled : (value : List ℕ) (openings : ℕ) (t u : Bool)
          → called number words (held ∷ left ∷ [])
          ≡ pick t (called 18 (4 ∷ 0 ∷ []) (scratch ∷ out ∷ []))
          (besides (pick u scratch (handed value scratch)) (pick u (called 19 (length (form_of a value) ∷ 0 ∷ []) (out ∷ []))
          (called 0 (length (form_of a value) ∷ openings ∷ []) (laid (form_of a value) out ∷ []))))
          → called number words (held ∷ left ∷ last ∷ [])
          ≡ pick t (called 18 (4 ∷ 0 ∷ []) (scratch ∷ out ∷ last ∷ []))
          (besides (pick u scratch (handed value scratch)) (pick u (called 19 (length (form_of a value) ∷ 0 ∷ []) (out ∷ last ∷ []))
          (besides (laid (form_of a value) out) (read_as (form_of a value) (form_of a value) last))))
      filled value openings true u q = ap (before last) q
      filled value openings false true q = ap (before last) q
      filled value openings false false q = absurd (h cc)

      go : (c : Answer) (o : Outcome) → called number words (held ∷ left ∷ []) ≡ guarded c (scratch ∷ out ∷ []) (formed (rule_for a) o scratch out)
          → called number words (held ∷ left ∷ last ∷ []) ≡ guarded c (scratch ∷ out ∷ last ∷ []) (formed_twice (rule_for a) o scratch out last)
      go (Done first second) (done value openings) q = filled value openings (ltb (length scratch) 4) (ltb (length out) (length (form_of a value))) q
      go (Done first second) (refused before' openings why first' second') q = ap (before last) q
      go (Refused why first second) o q = ap (before last) q

  module _ (zero : number ≡ 0) where
    formed_so : Formed a scratch out words (held ∷ left ∷ [])
    formed_so = canonical_answered a scratch out (sym e ∙ ap (λ (n : ℕ). called n words (held ∷ left ∷ [])) zero)

    abbrev own : List ℕ
    own = form_of a formed_so.value

    form_size_lem : get_or words 0 0 ≡ length own
    form_size_lem = ap (λ (w : List ℕ). get_or w 0 0) formed_so.words_are

    form_left_lem : left ≡ laid own out
    form_left_lem = let b = formed_so.buffers_are in cc

    form_held : held ≡ handed formed_so.value scratch
    form_held = let b = formed_so.buffers_are in cc

    pub canonical_fits : get_or words 0 0 ≤ length left
    canonical_fits = let l : length left ≡ length out = ap length form_left_lem ∙ laid_length own out formed_so.space in omega (arith, form_size_lem, l, formed_so.space)

    pub canonical_read : {number' : ℕ} {words' held' last' : List ℕ}
        → called number' words' (held' ∷ last' ∷ []) ≡ canonical_of (again a.version (take (get_or words 0 0) left)) held last
        → called number' words' (held' ∷ left ∷ last' ∷ []) ≡ twice
    canonical_read q =
        let read = canonical_form_again a formed_so.value formed_so.openings formed_so.accepted scratch last formed_so.room in
        let u = q ∙ ap₂ (λ (t h : List ℕ). canonical_of (again a.version t) h last) (first_bytes own out form_size_lem form_left_lem) form_held ∙ read in
        ap (second left) u
        ∙ second_besides left (handed formed_so.value scratch) (read_as own own last)
        ∙ ap (λ (l : List ℕ). besides (handed formed_so.value scratch) (besides l (read_as own own last))) form_left_lem
        ∙ sym (twice_accepted a formed_so.value formed_so.openings formed_so.accepted scratch out last formed_so.room formed_so.space)

-- a part of as many bytes as it is asked for
pub taken_size : (n : ℕ) (l : List ℕ) → n ≤ length l → n ≡ length (take n l)
taken_size n l h = sym (length-take-le n l h)
