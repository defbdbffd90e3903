-- K5, of the calls: a call that answers 0 has put the second stage of the normalized value into the output (`k5_result`), of any version and
-- marking; done twice the stage gives what it gives once (`k5_stage_twice`); the calls on a result hand out its tokens (`k5_hands_out`); the
-- result is UTF-8 (`k5_utf8`). Refusals: `k5_list_refuses`, `k5_token_refuses`. Assumes nothing.
use mathlib.Core.Path.{◌≡◌, refl, sym, ap, ◌∙◌, subst}
use Prim.Native.Nat.{ℕ, zero, suc, ◌+◌, ◌≤◌, ◌<◌}
use native.Mathlib.Omega.{arith}
use mathlib.Core.Bool.{Bool, true, false}
use mathlib.Core.List.{List, [], ◌∷◌, ◌++◌}
use lib.Dec.{ltb}
use lib.ListN.{length, take, drop, get_or, length-drop, length-append}
use lib.Seq.{take-append_seam, drop-append_seam, drop-drop}
use borrow.Author.Tests.{ltb-false, le-ltb}
use Rattle.text.specs.Bytes.{pick}
use Rattle.text.specs.Utf8.{WellFormed}
use Rattle.text.specs.Call.{Called, called, guarded, laid, finish, text_check}
use Rattle.text.specs.Answers.{Answer}
use Rattle.text.specs.Answers.{Done, Refused}
use Rattle.output.proofs.Laid.{laid_front}
use Rattle.utils.specs.CData.{outside, piece_answer}
use Rattle.utils.specs.CData.{outside_at}
use Rattle.utils.proofs.Boundary.{start_inside}
use Rattle.collapse.specs.Collapse.{spaces, collapse, ends, tokens, spaced}
use Rattle.collapse.specs.NextToken.{found, token_at, token_from, token_size, next_token}
use Rattle.collapse.specs.Tokens.{Clean}
use Rattle.collapse.specs.declared.Found.{Found}
use Rattle.collapse.proofs.Tokens.{collapse_twice, tokens_collapse, collapse_spaced, tokens_clean, collapse_utf8}
use Rattle.collapse.proofs.Handing.{following, spaced_following, following_ends, clean_spaces, inside_after, hands_token, hands_none}
use Rattle.tokens.specs.Outcome.{Outcome, done, refused, finished}
use Rattle.nmtokens.specs.Nmtokens.{collapsed}
use Rattle.govlezna.specs.Calls.{walk_check, walked, normalize_attribute_value_call, normalize_nmtokens_call, token_call, next_nmtoken_call}
use Rattle.demands.specs.Demands.{Asked, Accepted}
use Rattle.demands.specs.CallDemands.{listed, piece_numbers, normalize_of}
use Rattle.demands.proofs.Demands.{accepted_well_formed}
use Rattle.demands.proofs.Numbers.{By, Fails, WalkNumbers, finished_done}
use Rattle.demands.proofs.Refusals.{by_text, by_walk, fails_walked}
use Rattle.demands.proofs.CallDemands.{length_passes, utf8_passes, taken_passes, normalize_answered}
use Rattle.requests.specs.Nmtokens.{nmtokens_of, offset_in, next_from, start_of, handing, nothing_left, HandsOut, list_numbers, RefusesList, listing, untouched, short, RefusesToken, token, stays}

-- ---- the second stage

-- K5: "Doing the stage twice equals doing it once."
pub k5_stage_twice : (value : List ℕ) → collapse (collapse value) ≡ collapse value
k5_stage_twice value = collapse_twice value

-- what the call gives of an accepted value does not hang on the buffers: the stage's result, or 18 or 19 where there is no room
pub k5_accepted : (a : Asked) (value : List ℕ) (openings : ℕ) → Accepted a value openings → (scratch out : List ℕ)
    → nmtokens_of a scratch out ≡ collapsed (done value openings) scratch out
unfolding normalize_nmtokens_call
k5_accepted a value openings p scratch out = rw (taken_passes a p.taken, p.reads)

-- K5: "after normalization into a lent scratch": with room enough, the scratch takes the value and the output the stage's result
pub k5_roomy : (a : Asked) (value : List ℕ) (openings : ℕ) → Accepted a value openings → (scratch out : List ℕ)
    → length value ≤ length scratch → length (collapse value) ≤ length out
    → nmtokens_of a scratch out ≡ called 0 (length (collapse value) ∷ openings ∷ []) (laid value scratch ∷ laid (collapse value) out ∷ [])
unfolding collapsed
k5_roomy a value openings p scratch out room space =
    k5_accepted a value openings p scratch out ∙ rw (le-ltb (length scratch) (length value) room, le-ltb (length out) (length (collapse value)) space)

-- ---- a call that answered 0

number_of : Called → ℕ
number_of (called number words buffers) = number

-- normalization into the scratch answers 0 too
normalizes_too : (checks : Answer) (o : Outcome) (scratch out : List ℕ) → number_of (guarded checks (scratch ∷ out ∷ []) (collapsed o scratch out)) ≡ 0
    → number_of (guarded checks (scratch ∷ []) (finished o scratch)) ≡ 0
unfolding number_of collapsed finished finish
normalizes_too (Refused number first second) o scratch out e = e
normalizes_too (Done first second) (refused before openings number a b) scratch out e = e
normalizes_too (Done first second) (done value openings) scratch out e =
    ap number_of (finished_done value openings scratch) ∙ go (ltb (length scratch) (length value)) e
  where
    go : (t : Bool)
        → number_of (pick t (called 18 (length value ∷ 0 ∷ []) (scratch ∷ out ∷ []))
        (pick (ltb (length out) (length (collapse value))) (called 19 (length (collapse value) ∷ 0 ∷ []) (laid value scratch ∷ out ∷ []))
        (called 0 (length (collapse value) ∷ openings ∷ []) (laid value scratch ∷ laid (collapse value) out ∷ [])))) ≡ 0
        → number_of (pick t (called 19 (length value ∷ 0 ∷ []) (scratch ∷ [])) (called 0 (length value ∷ openings ∷ []) (laid value scratch ∷ []))) ≡ 0
    go true q = absurd (let z : ◌≡◌ {A = ℕ} 18 0 = q in omega (arith, z))
    go false q = refl

record Parts (c : Called) : Type 0 where
  words : List ℕ
  buffers : List (List ℕ)
  is : c ≡ called 0 words buffers

parts_of : (c : Called) → number_of c ≡ 0 → Parts c
unfolding number_of
parts_of (called number words buffers) e = record { words = words; buffers = buffers; is = ap (λ (n : ℕ). called n words buffers) e }

-- K5: what the call left is of an accepted value: this in the scratch, its second stage in the output
pub record Listed (a : Asked) (scratch out : List ℕ) (size openings : ℕ) (held left : List ℕ) : Type 0 where
  pub value : List ℕ
  pub accepted : Accepted a value openings
  pub held_is : held ≡ laid value scratch
  pub size_is : size ≡ length (collapse value)
  pub result : take size left ≡ collapse value
  pub left_is : left ≡ laid (collapse value) out

listed_of : (a : Asked) (scratch out : List ℕ) {size openings : ℕ} {held left : List ℕ} (value : List ℕ) (made : ℕ) → Accepted a value made
    → collapsed (done value made) scratch out ≡ called 0 (size ∷ openings ∷ []) (held ∷ left ∷ []) → Listed a scratch out size openings held left
unfolding collapsed
listed_of a scratch out {size} {openings} {held} {left} value made p q = go (ltb (length scratch) (length value)) (ltb (length out) (length (collapse value))) q
  where
    go : (t u : Bool)
        → pick t (called 18 (length value ∷ 0 ∷ []) (scratch ∷ out ∷ []))
        (pick u (called 19 (length (collapse value) ∷ 0 ∷ []) (laid value scratch ∷ out ∷ []))
        (called 0 (length (collapse value) ∷ made ∷ []) (laid value scratch ∷ laid (collapse value) out ∷ [])))
        ≡ called 0 (size ∷ openings ∷ []) (held ∷ left ∷ [])
        → Listed a scratch out size openings held left
    go true u k = absurd (let z : ◌≡◌ {A = ℕ} 18 0 = cc in omega (arith, z))
    go false true k = absurd (let z : ◌≡◌ {A = ℕ} 19 0 = cc in omega (arith, z))
    go false false k =
        let n : size ≡ length (collapse value) = cc in
        let m : made ≡ openings = cc in
        let l : left ≡ laid (collapse value) out = cc in
        record {
          value = value;
          accepted = subst (λ (j : ℕ). Accepted a value j) m p;
          held_is = cc;
          size_is = n;
          result = ap (λ (j : ℕ). take j left) n ∙ laid_front (collapse value) out l;
          left_is = l;
        }

-- K5: "drop leading and trailing spaces and turn each run of spaces into one"; one statement for both versions, marked and unmarked lists
pub k5_result : (a : Asked) (scratch out : List ℕ) {size openings : ℕ} {held left : List ℕ}
    → nmtokens_of a scratch out ≡ called 0 (size ∷ openings ∷ []) (held ∷ left ∷ []) → Listed a scratch out size openings held left
unfolding normalize_nmtokens_call normalize_attribute_value_call number_of
k5_result a scratch out e =
    let checks = walk_check a.text a.version a.depth a.limit a.list a.pool in
    let o = walked a.text a.version a.depth a.limit a.list a.pool in
    let zero-too = parts_of (normalize_of a scratch) (normalizes_too checks o scratch out (ap number_of e)) in
    let x = normalize_answered a scratch zero-too.is in
    listed_of a scratch out x.value x.openings x.accepted (sym (k5_accepted a x.value x.openings x.accepted scratch out) ∙ e)

-- K5: the result is UTF-8, as the value is
pub k5_utf8 : (a : Asked) (scratch out : List ℕ) {size openings : ℕ} {held left : List ℕ}
    → nmtokens_of a scratch out ≡ called 0 (size ∷ openings ∷ []) (held ∷ left ∷ []) → WellFormed (take size left)
k5_utf8 a scratch out {openings = openings} e =
    let x = k5_result a scratch out e in
    subst WellFormed (sym x.result) (collapse_utf8 x.value (accepted_well_formed a x.value openings x.accepted))

-- ---- the tokens, call by call

-- a text that 1 and 5 let pass, and tokens that are clean
abbrev AllClean : List (List ℕ) → Type 0
AllClean ws = (k : ℕ) → k < length ws → Clean (get_or ws k [])

clean_rest : (w : List ℕ) (ws : List (List ℕ)) → AllClean (w ∷ ws) → AllClean ws
clean_rest w ws c = λ k h. c (suc k) (omega (arith, h))

module _ (t : List ℕ) (small : length t ≤ 16777216) (utf8 : WellFormed t) where
  -- a call is what is found, as C sees it
  call_is : (o : ℕ) {f : Found} → outside t o ≡ false → token_from t o ≡ f → next_nmtoken_call t o ≡ token_call f
  unfolding next_nmtoken_call next_token
  call_is o i e = rw (length_passes t small, utf8_passes t utf8, i, e)

  -- with spaces `lead` before the token
  call_token : (o : ℕ) (lead w : List ℕ) (ws : List (List ℕ)) → outside t o ≡ false → drop o t ≡ lead ++ (w ++ following ws) → spaces (drop o t) ≡ length lead
      → Clean w → (next_nmtoken_call t o ≡ handing (o + length lead) (length w)) × (drop (o + length lead + length w) t ≡ following ws)
  unfolding piece_answer
  call_token o lead w ws i e n c =
      let h = hands_token t o lead w (following ws) e n c (following_ends ws) in
      (call_is o i h.is, h.rest)

  -- at the end
  call_none : (o : ℕ) → outside t o ≡ false → drop o t ≡ [] → next_nmtoken_call t o ≡ called 255 (0 ∷ 0 ∷ []) ((o ∷ []) ∷ [])
  unfolding piece_answer
  call_none o i e = call_is o i (hands_none t o e)

  none_from : (k o : ℕ) → outside t o ≡ false → drop o t ≡ [] → next_from k t o ≡ called 255 (0 ∷ 0 ∷ []) ((o ∷ []) ∷ [])
  unfolding next_from
  none_from zero o i e = call_none o i e
  none_from (suc k) o i e = ap (λ (c : Called). next_from k t (offset_in c)) (call_none o i e) ∙ none_from k o i e

  -- from after a token on
  abbrev After : ℕ → List (List ℕ) → Type 0
  After o ws = (o ≤ length t) × (drop o t ≡ following ws)

  after_inside : (o : ℕ) (ws : List (List ℕ)) → After o ws → outside t o ≡ false
  after_inside o ws h = inside_after t o h.0 (ap ends h.1 ∙ following_ends ws)

  record Next (o start : ℕ) (w : List ℕ) (ws : List (List ℕ)) : Type 0 where
    is : next_nmtoken_call t o ≡ handing start (length w)
    then : After (start + length w) ws

  next_after : (o : ℕ) (w : List ℕ) (ws : List (List ℕ)) → Clean w → After o (w ∷ ws) → Next o (o + 1) w ws
  unfolding spaces
  next_after o w ws c h =
      let from : drop o t ≡ (32 ∷ []) ++ (w ++ following ws) = h.1 ∙ ap (λ (l : List ℕ). 32 ∷ l) (spaced_following w ws) in
      let one : spaces (drop o t) ≡ 1 = ap spaces from ∙ ap suc (clean_spaces w (following ws) c) in
      let x = call_token o (32 ∷ []) w ws (after_inside o (w ∷ ws) h) from one c in
      let whole : o + (1 + length w + length (following ws)) ≡ length t =
      omega (arith, ap length from, length-append w (following ws), length-drop o t, h.0) in
      record { is = x.0; then = (omega (arith, whole), x.1) }

  hands_from : (ws : List (List ℕ)) → AllClean ws → (o : ℕ) → After o ws → (k : ℕ) → k < length ws
      → next_from k t o ≡ handing (start_of (o + 1) k ws) (length (get_or ws k []))
  unfolding next_from start_of
  hands_from [] c o h k l = absurd (omega (arith, l))
  hands_from (w ∷ ws) c o h zero l = (next_after o w ws (c 0 l) h).is
  hands_from (w ∷ ws) c o h (suc k) l =
      let x = next_after o w ws (c 0 (omega (arith))) h in
      ap (λ (y : Called). next_from k t (offset_in y)) x.is
      ∙ hands_from ws (clean_rest w ws c) (o + 1 + length w) x.then k (omega (arith, l))

  ends_from : (ws : List (List ℕ)) → AllClean ws → (o : ℕ) → After o ws → (k : ℕ) → length ws ≤ k → next_from k t o ≡ nothing_left t
  unfolding next_from
  ends_from [] c o h k l =
      let e : o ≡ length t = omega (arith, ap length h.1, length-drop o t, h.0) in
      none_from k o (after_inside o [] h) h.1 ∙ ap (λ (n : ℕ). called 255 (0 ∷ 0 ∷ []) ((n ∷ []) ∷ [])) e
  ends_from (w ∷ ws) c o h zero l = absurd (omega (arith, l))
  ends_from (w ∷ ws) c o h (suc k) l =
      let x = next_after o w ws (c 0 (omega (arith))) h in
      ap (λ (y : Called). next_from k t (offset_in y)) x.is
      ∙ ends_from ws (clean_rest w ws c) (o + 1 + length w) x.then k (omega (arith, l))

  -- the first token, which has no space before it
  next_first : (w : List ℕ) (ws : List (List ℕ)) → Clean w → t ≡ spaced (w ∷ ws) → Next 0 0 w ws
  next_first w ws c e =
      let from : t ≡ w ++ following ws = e ∙ spaced_following w ws in
      let x = call_token 0 [] w ws (start_inside t utf8) from (ap spaces from ∙ clean_spaces w (following ws) c) c in
      record { is = x.0; then = (omega (arith, ap length from, length-append w (following ws)), x.1) }

  hands_all : (ws : List (List ℕ)) → AllClean ws → t ≡ spaced ws → (k : ℕ) → k < length ws
      → next_from k t 0 ≡ handing (start_of 0 k ws) (length (get_or ws k []))
  unfolding next_from start_of
  hands_all [] c e k l = absurd (omega (arith, l))
  hands_all (w ∷ ws) c e zero l = (next_first w ws (c 0 l) e).is
  hands_all (w ∷ ws) c e (suc k) l =
      let x = next_first w ws (c 0 (omega (arith))) e in
      ap (λ (y : Called). next_from k t (offset_in y)) x.is
      ∙ hands_from ws (clean_rest w ws c) (0 + length w) x.then k (omega (arith, l))

  ends_all : (ws : List (List ℕ)) → AllClean ws → t ≡ spaced ws → (k : ℕ) → length ws ≤ k → next_from k t 0 ≡ nothing_left t
  unfolding next_from
  ends_all [] c e k l = none_from k 0 (start_inside t utf8) e ∙ ap (λ (n : ℕ). called 255 (0 ∷ 0 ∷ []) ((n ∷ []) ∷ [])) (sym (ap length e))
  ends_all (w ∷ ws) c e zero l = absurd (omega (arith, l))
  ends_all (w ∷ ws) c e (suc k) l =
      let x = next_first w ws (c 0 (omega (arith))) e in
      ap (λ (y : Called). next_from k t (offset_in y)) x.is
      ∙ ends_from ws (clean_rest w ws c) (0 + length w) x.then k (omega (arith, l))

-- the part that a call names is the token
part_from : (t : List ℕ) (ws : List (List ℕ)) (base : ℕ) → drop base t ≡ spaced ws → (k : ℕ) → k < length ws
    → take (length (get_or ws k [])) (drop (start_of base k ws) t) ≡ get_or ws k []
unfolding start_of
part_from t [] base e k l = absurd (omega (arith, l))
part_from t (w ∷ ws) base e zero l =
    ap (take (length w)) (e ∙ spaced_following w ws) ∙ take-append_seam w (following ws)
part_from t (w ∷ []) base e (suc k) l = absurd (omega (arith, l))
part_from t (w ∷ v ∷ vs) base e (suc k) l =
    part_from t (v ∷ vs) (base + length w + 1) rest k (omega (arith, l))
  where
    rest : drop (base + length w + 1) t ≡ spaced (v ∷ vs)
    rest =
        sym (drop-drop 1 (base + length w) t)
        ∙ ap (drop 1) (sym (drop-drop (length w) base t) ∙ ap (drop (length w)) e ∙ drop-append_seam w (32 ∷ spaced (v ∷ vs)))

-- the calls on any bytes that the stage gives
pub k5_result_hands_out : (value : List ℕ) → length (collapse value) ≤ 16777216 → WellFormed (collapse value) → HandsOut (collapse value)
k5_result_hands_out value small utf8 =
    let result = collapse value in
    let joined = collapse_spaced value in
    record {
      tokens = tokens value;
      joined = sym joined;
      clean = tokens_clean value;
      hands = hands_all result small utf8 (tokens value) (tokens_clean value) joined;
      parts = part_from result (tokens value) 0 joined;
      no_more = ends_all result small utf8 (tokens value) (tokens_clean value) joined;
    }

-- K5: "hand out the tokens in order as parts of the result, each exactly once from offset 0 where the result has at most 16,777,216 bytes"
pub k5_hands_out : (a : Asked) (scratch out : List ℕ) {size openings : ℕ} {held left : List ℕ}
    → nmtokens_of a scratch out ≡ called 0 (size ∷ openings ∷ []) (held ∷ left ∷ []) → size ≤ 16777216 → HandsOut (take size left)
k5_hands_out a scratch out e small =
    let x = k5_result a scratch out e in
    subst HandsOut (sym x.result)
    (k5_result_hands_out x.value (omega (arith, x.size_is, small)) (subst WellFormed x.result (k5_utf8 a scratch out e)))

-- the tokens are those of the value itself
pub k5_tokens_of_value : (value : List ℕ) → tokens (collapse value) ≡ tokens value
k5_tokens_of_value value = tokens_collapse value

-- ---- refusals

abbrev In : List ℕ → ℕ → Type 0
In numbers n = listed n numbers ≡ true

list_ends : (o : Outcome) (scratch out : List ℕ) → Fails (In list_numbers) o → RefusesList o scratch out (collapsed o scratch out)
unfolding collapsed
list_ends (refused before openings why first second) scratch out h = untouched why (first ∷ second ∷ []) h
list_ends (done value openings) scratch out h = go (ltb (length scratch) (length value)) refl (ltb (length out) (length (collapse value)))
  where
    go : (t : Bool) → ltb (length scratch) (length value) ≡ t → (u : Bool)
        → RefusesList (done value openings) scratch out
        (pick t (called 18 (length value ∷ 0 ∷ []) (scratch ∷ out ∷ []))
        (pick u (called 19 (length (collapse value) ∷ 0 ∷ []) (laid value scratch ∷ out ∷ []))
        (called 0 (length (collapse value) ∷ openings ∷ []) (laid value scratch ∷ laid (collapse value) out ∷ []))))
    go true q u = untouched 18 (length value ∷ 0 ∷ []) refl
    go false q true = short value openings (length (collapse value) ∷ 0 ∷ []) refl (ltb-false (length scratch) (length value) q)
    go false q false = listing (length (collapse value) ∷ openings ∷ []) (laid value scratch ∷ laid (collapse value) out ∷ [])

-- Demand 1 of K5's first call: it answers 0, or refuses by 1 to 19 or 27 and leaves the output's bytes untouched, and but for 19 the scratch's.
pub k5_list_refuses : (a : Asked) (scratch out : List ℕ)
    → RefusesList (walked a.text a.version a.depth a.limit a.list a.pool) scratch out (nmtokens_of a scratch out)
unfolding normalize_nmtokens_call
k5_list_refuses a scratch out =
    go (walk_check a.text a.version a.depth a.limit a.list a.pool)
    (by_walk list_numbers a.text a.version a.depth a.limit a.list a.pool refl refl refl refl refl
    (record { six = refl; seven = refl; eight = refl; nine = refl }))
  where
    o : Outcome
    o = walked a.text a.version a.depth a.limit a.list a.pool

    of_walk : WalkNumbers (In list_numbers)
    of_walk =
        record {
          texts = record { ten = refl; eleven = refl; twenty_seven = refl; numbers = record { twelve = refl; thirteen = refl; fourteen = refl; fifteen = refl } };
          sixteen = refl;
          seventeen = refl;
        }

    go : (c : Answer) → By (In list_numbers) c → RefusesList o scratch out (guarded c (scratch ∷ out ∷ []) (collapsed o scratch out))
    go (Done first second) h =
        list_ends o scratch out (fails_walked list_numbers a.text a.version a.depth a.limit a.list a.pool of_walk)
    go (Refused why first second) h = untouched why (first ∷ second ∷ []) h

token_ends : (text : List ℕ) (offset : ℕ) → RefusesToken offset (token_call (next_token text offset))
unfolding next_token token_from token_at piece_answer
token_ends text offset = go (outside text offset) (token_size (drop (offset + spaces (drop offset text)) text))
  where
    start : ℕ
    start = offset + spaces (drop offset text)

    go : (t : Bool) (size : ℕ) → RefusesToken offset (token_call (pick t (found (outside_at offset) offset) (token_at offset start size)))
    go true size = stays 20 (offset ∷ 0 ∷ []) refl
    go false zero = stays 255 (0 ∷ 0 ∷ []) refl
    go false (suc size) = token start (suc size)

-- Demand 1 of K5's second call: the next token is handed out, or the call answers 1, 5, 20 or 255 ("no more") and leaves the offset as it was.
pub k5_token_refuses : (text : List ℕ) (offset : ℕ) → RefusesToken offset (next_nmtoken_call text offset)
unfolding next_nmtoken_call
k5_token_refuses text offset = go (text_check text) (by_text piece_numbers refl refl text)
  where
    go : (c : Answer) → By (In piece_numbers) c → RefusesToken offset (guarded c ((offset ∷ []) ∷ []) (token_call (next_token text offset)))
    go (Done first second) h = token_ends text offset
    go (Refused why first second) h = stays why (first ∷ second ∷ []) h
