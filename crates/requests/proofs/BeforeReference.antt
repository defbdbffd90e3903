-- What stands before a `&` is read as it is read alone: where that gives a value, the walk comes to the `&` (`comes_to_amp`), and to a reference that
-- it begins (`comes_to_name`). Of every call that reads with a table. Assumes nothing.
use mathlib.Core.Path.{◌≡◌, refl, sym, ap, subst, ◌∙◌}
use mathlib.Core.Logic.{◌≢◌, ◌⊎◌, inl, inr}
use Prim.Native.Nat.{ℕ, zero, suc, ◌+◌, ◌≤◌}
use native.Mathlib.Omega.{arith}
use native.Mathlib.Nat.{zero-add, add-zero}
use mathlib.Core.Bool.{Bool, true, false, not, ◌&&◌, ◌||◌}
use mathlib.Core.Option.{Option, none, some}
use mathlib.Core.List.{List, [], ◌∷◌, ◌++◌}
use lib.Dec.{eqb}
use lib.ListN.{length, get_or}
use lib.Seq.{drop-append_seam}
use borrow.Author.Tests.{ne_eqb}
use Rattle.text.specs.Bytes.{pick, begins}
use Rattle.text.specs.Version.{Rule, xml10, xml11}
use Rattle.text.specs.Utf8.{State, between, one, two, three, after_e0, after_ed, after_f0, after_f4, broken, next, is_between}
use Rattle.text.proofs.Bytes.{pick_by, or_left, or_right, contrary}
use Rattle.text.proofs.Patterns.{begins_fits}
use Rattle.eols.specs.LineEnds.{line_ends, width_of, line_end}
use Rattle.entity.specs.Table.{marked}
use Rattle.entity.specs.Binding.{Bound}
use Rattle.legal.specs.Legal.{Place, in_value, in_table, may_stand, bits, char_from, refuses, fault_at}
use Rattle.legal.proofs.Decoding.{char_broken, char_ascii}
use Rattle.tokens.specs.Tokens.{Stop, kept, space, number, named, unterminated, Token, copy, stop, barred, Head, head, token_of, skip_of, Heads, Name, ended, endless, longer, name_at, reference_to, reference_at, tokens}
use Rattle.tokens.specs.Outcome.{Outcome, done, refused, prepend, followed, run}
use Rattle.halts.specs.Halts.{any_stop}
use Rattle.unescape.specs.Unescape.{text_head, replaced}
use Rattle.attribute.specs.Heads.{space_or, other_head, attribute_head, past_head}
use Rattle.attribute.specs.Walk.{Settings, answer, exhausted, inner_head, reading, reading_of}
use Rattle.attribute.specs.Strict.{barring, strictly, reading_by}
use Rattle.requests.specs.External.{ends_name}
use Rattle.requests.specs.Reached.{heads_in, stopped, ReadTo, ComesTo}
use Rattle.requests.proofs.Reached.{run_append}

-- ---- heads that see nothing of what stands behind a `&`

-- a `&` that nothing ends
abbrev Unended : Token → Type 0
Unended (copy b) = ⊥
Unended (stop (kept b)) = ⊥
Unended (stop space) = ⊥
Unended (stop (number digits)) = ⊥
Unended (stop (named offset name)) = ⊥
Unended (stop (unterminated offset end)) = Unit {0}
Unended (barred offset) = ⊥

-- a head is the same with a `&` behind its text, and does not reach it
abbrev Same : Head → Head → List ℕ → Type 0
Same h i bs = Unended (token_of h) ⊎ ((i ≡ h) × (skip_of h ≤ length bs))

abbrev pub Blind : Heads → Type 0
Blind at = (k b : ℕ) (bs rest : List ℕ) → Same (at k b bs) (at k b (bs ++ 38 ∷ rest)) bs

same_itself : (x : Token) (bs : List ℕ) → Same (head x 0) (head x 0) bs
same_itself x bs = inr (refl, omega arith)

-- by a test that comes out alike
same_pick : (t : Bool) (a b c d : Head) (bs : List ℕ) → Same a c bs → Same b d bs → Same (pick t a b) (pick t c d) bs
same_pick true a b c d bs h k = h
same_pick false a b c d bs h k = k

-- a name that is ended before it is the same, and lies before it
ended_before : (inner : Bool) (bs rest name : List ℕ) → name_at inner bs ≡ ended name → (name_at inner (bs ++ 38 ∷ rest) ≡ ended name) × (suc (length name) ≤ length bs)
unfolding name_at
ended_before inner [] rest name e = let z : ◌≡◌ {A = ℕ} 0 1 = cc in absurd (omega (arith, z))
ended_before inner (b ∷ bs) rest name e = go (eqb b 59) (inner && eqb b 38) (name_at inner bs) (λ tail q. ended_before inner bs rest tail q) e
  where
    go : (x y : Bool) (n : Name) → ((tail : List ℕ) → n ≡ ended tail → (name_at inner (bs ++ 38 ∷ rest) ≡ ended tail) × (suc (length tail) ≤ length bs))
        → pick x (ended []) (pick y endless (longer b n)) ≡ ended name
        → (pick x (ended []) (pick y endless (longer b (name_at inner (bs ++ 38 ∷ rest)))) ≡ ended name) × (suc (length name) ≤ suc (length bs))
    go true y n ih q = let i : name ≡ [] = cc in let j = ap length i in (q, omega (arith, j))
    go false true n ih q = let z : ◌≡◌ {A = ℕ} 0 1 = cc in absurd (omega (arith, z))
    go false false (ended tail) ih q =
        let x = ih tail refl in
        let i : name ≡ b ∷ tail = cc in
        let j = ap length i in
        let k = x.1 in
        (ap (longer b) x.0 ∙ q, omega (arith, j, k))
    go false false endless ih q = let z : ◌≡◌ {A = ℕ} 0 1 = cc in absurd (omega (arith, z))

reference_skip : (k : ℕ) (name : List ℕ) → skip_of (reference_to k name name) ≡ suc (length name)
unfolding reference_to
reference_skip k [] = refl
reference_skip k (b ∷ bs) = go (eqb b 35)
  where
    go : (x : Bool) → skip_of (pick x (head (stop (number bs)) (suc (suc (length bs)))) (head (stop (named k (b ∷ bs))) (suc (suc (length bs))))) ≡ suc (suc (length bs))
    go true = refl
    go false = refl

same_reference : (inner : Bool) (k : ℕ) (bs rest : List ℕ)
    → Same (reference_at k bs (name_at inner bs)) (reference_at k (bs ++ 38 ∷ rest) (name_at inner (bs ++ 38 ∷ rest))) bs
unfolding reference_at
same_reference inner k bs rest = go (name_at inner bs) refl
  where
    go : (n : Name) → name_at inner bs ≡ n → Same (reference_at k bs n) (reference_at k (bs ++ 38 ∷ rest) (name_at inner (bs ++ 38 ∷ rest))) bs
    go (ended name) q =
        let x = ended_before inner bs rest name q in
        let skip = reference_skip k name in
        let fits = x.1 in
        inr (ap (reference_at k (bs ++ 38 ∷ rest)) x.0, omega (arith, skip, fits))
    go endless q = inl tt

-- a pattern without `&`
abbrev Without : List ℕ → Type 0
Without [] = Unit {0}
Without (c ∷ p) = (eqb 38 c ≡ false) × Without p

abbrev AllWithout : List (List ℕ) → Type 0
AllWithout [] = Unit {0}
AllWithout (p ∷ ps) = Without p × AllWithout ps

begins_before : (p t rest : List ℕ) → Without p → begins p (t ++ 38 ∷ rest) ≡ begins p t
begins_before [] t rest w = refl
begins_before (c ∷ p) [] rest w = ap (λ (x : Bool). x && begins p rest) w.0
begins_before (c ∷ p) (b ∷ bs) rest w = ap (λ (x : Bool). eqb b c && x) (begins_before p bs rest w.1)

width_before : (ps : List (List ℕ)) (t rest : List ℕ) → AllWithout ps → width_of ps (t ++ 38 ∷ rest) ≡ width_of ps t
unfolding width_of
width_before [] t rest w = refl
width_before (p ∷ ps) t rest w =
    ap (λ (x : Bool). pick x (length p) (width_of ps (t ++ 38 ∷ rest))) (begins_before p t rest w.0)
    ∙ ap (λ (x : ℕ). pick (begins p t) (length p) x) (width_before ps t rest w.1)

width_fits : (ps : List (List ℕ)) (t : List ℕ) → width_of ps t ≤ length t
unfolding width_of
width_fits [] t = omega arith
width_fits (p ∷ ps) t =
    pick_by (λ (w : ℕ). w ≤ length t) (begins p t) {a = length p} {b = width_of ps t} (λ e. begins_fits p t e) (λ e. width_fits ps t)

line_before : (r : Rule) (t rest : List ℕ) → (line_end r (t ++ 38 ∷ rest) ≡ line_end r t) × (line_end r t ≤ length t)
unfolding line_end line_ends
line_before xml10 t rest =
    (width_before (line_ends xml10) t rest ((refl, (refl, tt)), ((refl, tt), ((refl, tt), tt))), width_fits (line_ends xml10) t)
line_before xml11 t rest = (
  width_before (line_ends xml11) t rest ((refl, (refl, tt)), ((refl, (refl, (refl, tt))), ((refl, tt), ((refl, tt), ((refl, (refl, tt)), ((refl, (refl, (refl, tt))), tt)))))),
  width_fits (line_ends xml11) t,
)

same_other : (r : Rule) (b : ℕ) (bs : List ℕ) → Same (other_head r b) (other_head r b) bs
unfolding other_head
same_other xml10 b bs = same_itself (copy b) bs
same_other xml11 b bs =
    same_pick (eqb b 0xC2 || eqb b 0xE2) (head (stop (kept b)) 0) (head (copy b) 0) (head (stop (kept b)) 0) (head (copy b) 0) bs (same_itself (stop (kept b)) bs)
    (same_itself (copy b) bs)

same_line : (r : Rule) (b : ℕ) (bs rest : List ℕ)
    → Same (space_or (line_end r (b ∷ bs)) (other_head r b)) (space_or (line_end r (b ∷ bs ++ 38 ∷ rest)) (other_head r b)) bs
unfolding space_or
same_line r b bs rest =
    let x = line_before r (b ∷ bs) rest in
    subst (λ (w : ℕ). Same (space_or (line_end r (b ∷ bs)) (other_head r b)) (space_or w (other_head r b)) bs) (sym x.0) (go (line_end r (b ∷ bs)) x.1)
  where
    go : (w : ℕ) → w ≤ suc (length bs) → Same (space_or w (other_head r b)) (space_or w (other_head r b)) bs
    go zero h = same_other r b bs
    go (suc w) h = inr (refl, omega (arith, h))

attribute_blind : (r : Rule) → Blind (attribute_head r)
unfolding attribute_head
attribute_blind r k b bs rest =
    let line = space_or (line_end r (b ∷ bs)) (other_head r b) in
    let later = space_or (line_end r (b ∷ bs ++ 38 ∷ rest)) (other_head r b) in
    let tab = head (stop space) 0 in
    same_pick (eqb b 38) (reference_at k bs (name_at false bs)) (pick (eqb b 9) tab line) (reference_at k (bs ++ 38 ∷ rest) (name_at false (bs ++ 38 ∷ rest))) (pick (eqb b 9) tab later)
    bs (same_reference false k bs rest) (same_pick (eqb b 9) tab line tab later bs (same_itself (stop space) bs) (same_line r b bs rest))

inner_blind : (past : Bool) (r : Rule) → Blind (inner_head past r)
unfolding inner_head past_head
inner_blind false r k b bs rest = attribute_blind r k b bs rest
inner_blind true r k b bs rest =
    let white = eqb b 9 || eqb b 10 || eqb b 13 in
    let other = pick white (head (stop space) 0) (head (copy b) 0) in
    same_pick (eqb b 38) (reference_at k bs (name_at false bs)) other (reference_at k (bs ++ 38 ∷ rest) (name_at false (bs ++ 38 ∷ rest))) other bs (same_reference false k bs rest)
    (same_pick white (head (stop space) 0) (head (copy b) 0) (head (stop space) 0) (head (copy b) 0) bs (same_itself (stop space) bs) (same_itself (copy b) bs))

text_blind : Blind text_head
unfolding text_head
text_blind k b bs rest =
    same_pick (eqb b 38) (reference_at k bs (name_at true bs)) (head (copy b) 0) (reference_at k (bs ++ 38 ∷ rest) (name_at true (bs ++ 38 ∷ rest))) (head (copy b) 0) bs
    (same_reference true k bs rest) (same_itself (copy b) bs)

-- `&` belongs to no longer character
char_stops : (s : State) (n : ℕ) (rest : List ℕ) → is_between s ≡ false → char_from s n (38 ∷ rest) ≡ none
unfolding char_from next is_between
char_stops between n rest e = contrary refl e
char_stops one n rest e = char_broken (bits one n 38) rest
char_stops two n rest e = char_broken (bits two n 38) rest
char_stops three n rest e = char_broken (bits three n 38) rest
char_stops after_e0 n rest e = char_broken (bits after_e0 n 38) rest
char_stops after_ed n rest e = char_broken (bits after_ed n 38) rest
char_stops after_f0 n rest e = char_broken (bits after_f0 n 38) rest
char_stops after_f4 n rest e = char_broken (bits after_f4 n 38) rest
char_stops broken n rest e = char_broken (bits broken n 38) rest

whole_or : (t : Bool) (c : ℕ) (x y : Option ℕ) → (t ≡ false → x ≡ y) → pick t (some c) x ≡ pick t (some c) y
whole_or true c x y h = refl
whole_or false c x y h = h refl

char_before : (s : State) (xs rest : List ℕ) (n : ℕ) → is_between s ≡ false → char_from s n (xs ++ 38 ∷ rest) ≡ char_from s n xs
unfolding char_from
char_before s [] rest n e = char_stops s n rest e
char_before s (b ∷ bs) rest n e =
    whole_or (is_between (next s b)) (bits s n b) (char_from (next s b) (bits s n b) (bs ++ 38 ∷ rest)) (char_from (next s b) (bits s n b) bs)
    (λ q. char_before (next s b) bs rest (bits s n b) q)

fault_before : (may : ℕ → Bool) (b : ℕ) (bs rest : List ℕ) → fault_at may (b ∷ bs ++ 38 ∷ rest) ≡ fault_at may (b ∷ bs)
unfolding fault_at char_from
fault_before may b bs rest =
    ap (refuses may)
    (whole_or (is_between (next between b)) (bits between 0 b) (char_from (next between b) (bits between 0 b) (bs ++ 38 ∷ rest)) (char_from (next between b) (bits between 0 b) bs)
    (λ q. char_before (next between b) bs rest (bits between 0 b) q))

barring_blind : (may : ℕ → Bool) (at : Heads) → Blind at → Blind (barring may at)
unfolding barring
barring_blind may at h k b bs rest =
    let bar = head (barred k) 0 in
    subst (λ (x : Bool). Same (pick (fault_at may (b ∷ bs)) bar (at k b bs)) (pick x bar (at k b (bs ++ 38 ∷ rest))) bs) (sym (fault_before may b bs rest))
    (same_pick (fault_at may (b ∷ bs)) bar (at k b bs) bar (at k b (bs ++ 38 ∷ rest)) bs (same_itself (barred k) bs) (h k b bs rest))

value_blind : (strict : Bool) (r : Rule) (list pool : List ℕ) (limit : ℕ) (p : Place) → Blind (heads_in (reading_by strict r list pool limit) p)
unfolding reading_by reading_of reading strictly
value_blind false r list pool limit in_value = attribute_blind r
value_blind false r list pool limit in_table = inner_blind (marked list) r
value_blind true r list pool limit in_value = barring_blind (may_stand in_value r) (attribute_head r) (attribute_blind r)
value_blind true r list pool limit in_table = barring_blind (may_stand in_table r) (inner_head (marked list) r) (inner_blind (marked list) r)

-- ---- tokens before a `&`

-- answers that refuse a `&` that nothing ends
abbrev Ending : (Stop → ℕ → Outcome) → Type 0
Ending f = (offset end n : ℕ) (value : List ℕ) (m : ℕ) → f (unterminated offset end) n ≡ done value m → ⊥

no_value : {X : Type 0} {before value : List ℕ} {j why first second m : ℕ} → refused before j why first second ≡ done value m → X
no_value e = let z : ◌≡◌ {A = ℕ} 0 1 = cc in absurd (omega (arith, z))

-- what is read after a token that is read
record Onward (f : Stop → ℕ → Outcome) (ts : List Token) (m : ℕ) : Type 0 where
  n : ℕ
  value : List ℕ
  is : run f ts n ≡ done value m

onward_prepend : (f : Stop → ℕ → Outcome) (ts : List Token) (n : ℕ) (front : List ℕ) {value : List ℕ} {m : ℕ} → prepend front (run f ts n) ≡ done value m → Onward f ts m
onward_prepend f ts n front {value} {m} e = go (run f ts n) refl e
  where
    go : (o : Outcome) → run f ts n ≡ o → prepend front o ≡ done value m → Onward f ts m
    go (done v j) q p = let i : j ≡ m = cc in record { n = n; value = v; is = q ∙ ap (done v) i }
    go (refused v j why first second) q p = no_value p

onward : (f : Stop → ℕ → Outcome) (x : Token) (ts : List Token) (n : ℕ) {value : List ℕ} {m : ℕ} → run f (x ∷ ts) n ≡ done value m → Onward f ts m
unfolding run
onward f (copy b) ts n e = onward_prepend f ts n (b ∷ []) e
onward f (stop y) ts n {value} {m} e = go (f y n) e
  where
    go : (o : Outcome) → followed o (λ j. run f ts j) ≡ done value m → Onward f ts m
    go (done v j) p = onward_prepend f ts j v p
    go (refused v j why first second) p = no_value p
onward f (barred o) ts n e = no_value e

never_unended : (f : Stop → ℕ → Outcome) → Ending f → (x : Token) → Unended x → (ts : List Token) (n : ℕ) {value : List ℕ} {m : ℕ} → run f (x ∷ ts) n ≡ done value m → ⊥
unfolding run
never_unended f h (copy b) u ts n e = u
never_unended f h (stop (kept b)) u ts n e = u
never_unended f h (stop space) u ts n e = u
never_unended f h (stop (number digits)) u ts n e = u
never_unended f h (stop (named offset name)) u ts n e = u
never_unended f h (stop (unterminated offset end)) u ts n {value} {m} e = go (f (unterminated offset end) n) refl e
  where
    go : (o : Outcome) → f (unterminated offset end) n ≡ o → followed o (λ j. run f ts j) ≡ done value m → ⊥
    go (done v j) q p = h offset end n v j q
    go (refused v j why first second) q p = no_value p
never_unended f h (barred o) u ts n e = u

module _ (at : Heads) (blind : Blind at) (f : Stop → ℕ → Outcome) (ending : Ending f) (rest : List ℕ) where
  cut_at : (t : List ℕ) (k skip n : ℕ) {value : List ℕ} {m : ℕ} → skip ≤ length t → run f (tokens at k skip t) n ≡ done value m
      → tokens at k skip (t ++ 38 ∷ rest) ≡ tokens at k skip t ++ tokens at (k + length t) 0 (38 ∷ rest)
  unfolding tokens
  cut_at [] k zero n h e = ap (λ (j : ℕ). tokens at j 0 (38 ∷ rest)) (sym (add-zero k))
  cut_at [] k (suc skip) n h e = absurd (omega (arith, h))
  cut_at (b ∷ bs) k (suc skip) n h e =
      let j : suc k + length bs ≡ k + suc (length bs) = omega arith in
      cut_at bs (suc k) skip n (omega (arith, h)) e ∙ ap (λ (i : ℕ). tokens at (suc k) skip bs ++ tokens at i 0 (38 ∷ rest)) j
  cut_at (b ∷ bs) k zero n {value} {m} h e =
      go (blind k b bs rest) (onward f (token_of (at k b bs)) (tokens at (suc k) (skip_of (at k b bs)) bs) n e)
      (λ i v fits q. cut_at bs (suc k) (skip_of (at k b bs)) i {value = v} {m = m} fits q)
    where
      here : Head
      here = at k b bs

      go : Same here (at k b (bs ++ 38 ∷ rest)) bs → Onward f (tokens at (suc k) (skip_of here) bs) m
          → ((i : ℕ) (v : List ℕ) → skip_of here ≤ length bs → run f (tokens at (suc k) (skip_of here) bs) i ≡ done v m
          → tokens at (suc k) (skip_of here) (bs ++ 38 ∷ rest) ≡ tokens at (suc k) (skip_of here) bs ++ tokens at (suc k + length bs) 0 (38 ∷ rest))
          → token_of (at k b (bs ++ 38 ∷ rest)) ∷ tokens at (suc k) (skip_of (at k b (bs ++ 38 ∷ rest))) (bs ++ 38 ∷ rest)
          ≡ (token_of here ∷ tokens at (suc k) (skip_of here) bs) ++ tokens at (k + suc (length bs)) 0 (38 ∷ rest)
      go (inl u) o later = absurd (never_unended f ending (token_of here) u (tokens at (suc k) (skip_of here) bs) n e)
      go (inr x) o later =
          let j : suc k + length bs ≡ k + suc (length bs) = omega arith in
          ap (λ (z : Head). token_of z ∷ tokens at (suc k) (skip_of z) (bs ++ 38 ∷ rest)) x.0
          ∙ ap (λ (l : List Token). token_of here ∷ l) (later o.n o.value x.1 o.is)
          ∙ ap (λ (i : ℕ). token_of here ∷ (tokens at (suc k) (skip_of here) bs ++ tokens at i 0 (38 ∷ rest))) j

  -- what stands before a `&` and is read alone is read before it too
  pub comes_to_amp : (before : List ℕ) (n : ℕ) {value : List ℕ} {m : ℕ} → run f (tokens at 0 0 before) n ≡ done value m → ReadTo at f (before ++ 38 ∷ rest) n (length before) m
  comes_to_amp before n {value} {m} e =
      record {
        front = tokens at 0 0 before;
        cut =
            cut_at before 0 0 n (omega arith) e
            ∙ ap (λ (j : ℕ). tokens at 0 0 before ++ tokens at j 0 (38 ∷ rest)) (zero-add (length before))
            ∙ ap (λ (l : List ℕ). tokens at 0 0 before ++ tokens at (length before) 0 l) (sym (drop-append_seam before (38 ∷ rest)));
        value = value;
        reads = e;
      }

stopped_ends : (s : Settings) (depth : ℕ) → Ending (stopped s depth)
unfolding exhausted answer
stopped_ends s zero offset end n value m e = no_value e
stopped_ends s (suc depth) offset end n value m e = no_value e

replaced_ends : (bind : List ℕ → Bound) → Ending (replaced bind)
unfolding replaced
replaced_ends bind offset end n value m e = no_value e

-- ---- a reference behind it

-- a name without `;` runs to the next one
pub name_ended : (inner : Bool) (name after : List ℕ) → any_stop (ends_name inner) name ≡ false → name_at inner (name ++ 59 ∷ after) ≡ ended name
unfolding name_at
name_ended inner [] after e = refl
name_ended inner (b ∷ bs) after e =
    let here = or_left (ends_name inner b) (any_stop (ends_name inner) bs) e in
    let rest = name_ended inner bs after (or_right (ends_name inner b) (any_stop (ends_name inner) bs) e) in
    rw (or_left (eqb b 59) (inner && eqb b 38) here, or_right (eqb b 59) (inner && eqb b 38) here, rest)

-- and a reference to it is one to a name
pub name_head : (offset : ℕ) (name : List ℕ) → get_or name 0 0 ≢ 35 → reference_to offset name name ≡ head (stop (named offset name)) (suc (length name))
unfolding reference_to
name_head offset [] h = refl
name_head offset (b ∷ bs) h = rw (ne_eqb b 35 h)

-- `&` begins a reference
abbrev pub Refers : Bool → Heads → Type 0
Refers inner at = (k : ℕ) (bs : List ℕ) → at k 38 bs ≡ reference_at k bs (name_at inner bs)

pub attribute_refers : (r : Rule) → Refers false (attribute_head r)
unfolding attribute_head
attribute_refers r k bs = refl

inner_refers : (past : Bool) (r : Rule) → Refers false (inner_head past r)
unfolding inner_head past_head
inner_refers false r k bs = attribute_refers r k bs
inner_refers true r k bs = refl

text_refers : Refers true text_head
unfolding text_head
text_refers k bs = refl

amp_stands : (p : Place) (r : Rule) → may_stand p r 38 ≡ true
unfolding may_stand
amp_stands in_value xml10 = refl
amp_stands in_value xml11 = refl
amp_stands in_table xml10 = refl
amp_stands in_table xml11 = refl

amp_clear : (p : Place) (r : Rule) (bs : List ℕ) → fault_at (may_stand p r) (38 ∷ bs) ≡ false
unfolding fault_at
amp_clear p r bs = ap (refuses (may_stand p r)) (char_ascii 38 bs (omega arith)) ∙ ap not (amp_stands p r)

barring_refers : (p : Place) (r : Rule) (at : Heads) → Refers false at → Refers false (barring (may_stand p r) at)
unfolding barring
barring_refers p r at h k bs = rw (amp_clear p r bs) (h k bs)

value_refers : (strict : Bool) (r : Rule) (list pool : List ℕ) (limit : ℕ) (p : Place) → Refers false (heads_in (reading_by strict r list pool limit) p)
unfolding reading_by reading_of reading strictly
value_refers false r list pool limit in_value = attribute_refers r
value_refers false r list pool limit in_table = inner_refers (marked list) r
value_refers true r list pool limit in_value = barring_refers in_value r (attribute_head r) (attribute_refers r)
value_refers true r list pool limit in_table = barring_refers in_table r (inner_head (marked list) r) (inner_refers (marked list) r)

-- the value so far, then the reference and whatever comes after it
pub record NameRun (f : Stop → ℕ → Outcome) (o : Outcome) (value : List ℕ) (k : ℕ) (name : List ℕ) (m : ℕ) : Type 0 where
  pub later : List Token
  pub is : o ≡ prepend value (run f (stop (named k name) ∷ later) m)

module _ (inner : Bool) (at : Heads) (blind : Blind at) (refers : Refers inner at) (f : Stop → ℕ → Outcome) (ending : Ending f) where
  comes_to_name : (t before name after : List ℕ) (n : ℕ) {value : List ℕ} {m : ℕ} → t ≡ before ++ 38 ∷ (name ++ 59 ∷ after) → run f (tokens at 0 0 before) n ≡ done value m
      → any_stop (ends_name inner) name ≡ false → get_or name 0 0 ≢ 35 → ComesTo at f t n (length before) m (stop (named (length before) name))
  unfolding reference_at
  comes_to_name t before name after n {value} {m} is e ends no_number =
      let tail = name ++ 59 ∷ after in
      let head_is : at (length before) 38 tail ≡ head (stop (named (length before) name)) (suc (length name)) =
      refers (length before) tail ∙ ap (reference_at (length before) tail) (name_ended inner name after ends) ∙ name_head (length before) name no_number in
      subst (λ (l : List ℕ). ComesTo at f l n (length before) m (stop (named (length before) name))) (sym is)
      (record {
        read = comes_to_amp at blind f ending tail before n e;
        byte = 38;
        after = tail;
        rest = drop-append_seam before (38 ∷ tail);
        is = sym (ap token_of head_is);
      })

  -- what a text makes with a reference is what stands before it, and then the reference's
  name_run : (t before name after : List ℕ) (n : ℕ) {value : List ℕ} {m : ℕ} → t ≡ before ++ 38 ∷ (name ++ 59 ∷ after) → run f (tokens at 0 0 before) n ≡ done value m
      → any_stop (ends_name inner) name ≡ false → get_or name 0 0 ≢ 35 → NameRun f (run f (tokens at 0 0 t) n) value (length before) name m
  unfolding tokens reference_at
  name_run t before name after n {value} {m} is e ends no_number =
      let tail = name ++ 59 ∷ after in
      let k = length before in
      let ts = tokens at (suc k) (skip_of (at k 38 tail)) tail in
      let head_is : at k 38 tail ≡ head (stop (named k name)) (suc (length name)) =
      refers k tail ∙ ap (reference_at k tail) (name_ended inner name after ends) ∙ name_head k name no_number in
      let all : tokens at 0 0 t ≡ tokens at 0 0 before ++ stop (named k name) ∷ ts =
      ap (tokens at 0 0) is ∙ cut_at at blind f ending tail before 0 0 n (omega arith) e
      ∙ ap (λ (j : ℕ). tokens at 0 0 before ++ tokens at j 0 (38 ∷ tail)) (zero-add k)
      ∙ ap (λ (x : Token). tokens at 0 0 before ++ x ∷ ts) (ap token_of head_is) in
      record {
        later = ts;
        is =
            ap (λ (l : List Token). run f l n) all ∙ run_append f (tokens at 0 0 before) (stop (named k name) ∷ ts) n
            ∙ ap (λ (o : Outcome). followed o (λ j. run f (stop (named k name) ∷ ts) j)) e;
      }

-- in a text that a call reads as an attribute's, at any place, and in one that it unescapes
pub value_run : (strict : Bool) (r : Rule) (list pool : List ℕ) (limit : ℕ) (p : Place) (depth : ℕ) (t before name after : List ℕ) (n : ℕ) {value : List ℕ} {m : ℕ}
    → t ≡ before ++ 38 ∷ (name ++ 59 ∷ after)
    → run (stopped (reading_by strict r list pool limit) depth) (tokens (heads_in (reading_by strict r list pool limit) p) 0 0 before) n ≡ done value m
    → any_stop (ends_name false) name ≡ false → get_or name 0 0 ≢ 35
    → NameRun (stopped (reading_by strict r list pool limit) depth)
    (run (stopped (reading_by strict r list pool limit) depth) (tokens (heads_in (reading_by strict r list pool limit) p) 0 0 t) n) value (length before) name m
value_run strict r list pool limit p depth t before name after n =
    let s = reading_by strict r list pool limit in
    name_run false (heads_in s p) (value_blind strict r list pool limit p) (value_refers strict r list pool limit p) (stopped s depth) (stopped_ends s depth) t before name after n

pub value_comes : (strict : Bool) (r : Rule) (list pool : List ℕ) (limit : ℕ) (p : Place) (depth : ℕ) (t before name after : List ℕ) (n : ℕ) {value : List ℕ} {m : ℕ}
    → t ≡ before ++ 38 ∷ (name ++ 59 ∷ after)
    → run (stopped (reading_by strict r list pool limit) depth) (tokens (heads_in (reading_by strict r list pool limit) p) 0 0 before) n ≡ done value m
    → any_stop (ends_name false) name ≡ false → get_or name 0 0 ≢ 35
    → ComesTo (heads_in (reading_by strict r list pool limit) p) (stopped (reading_by strict r list pool limit) depth) t n (length before) m (stop (named (length before) name))
value_comes strict r list pool limit p depth t before name after n =
    let s = reading_by strict r list pool limit in
    comes_to_name false (heads_in s p) (value_blind strict r list pool limit p) (value_refers strict r list pool limit p) (stopped s depth) (stopped_ends s depth) t before name after n

pub text_comes : (bind : List ℕ → Bound) (t before name after : List ℕ) {value : List ℕ} {m : ℕ} → t ≡ before ++ 38 ∷ (name ++ 59 ∷ after)
    → run (replaced bind) (tokens text_head 0 0 before) 0 ≡ done value m → any_stop (ends_name true) name ≡ false → get_or name 0 0 ≢ 35
    → ComesTo text_head (replaced bind) t 0 (length before) m (stop (named (length before) name))
text_comes bind t before name after = comes_to_name true text_head text_blind text_refers (replaced bind) (replaced_ends bind) t before name after 0
