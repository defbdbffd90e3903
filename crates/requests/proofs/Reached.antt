-- A walk is refused exactly when it comes, in its text or in one that it opens, to a token that is: `reached_refused` and `refused_reached`.
-- Assumes nothing.
use mathlib.Core.Path.{◌≡◌, refl, sym, ap, ap₂, subst, ◌∙◌}
use Prim.Native.Nat.{ℕ, zero, suc}
use native.Mathlib.Omega.{arith}
use mathlib.Core.Bool.{Bool, true, false}
use mathlib.Core.List.{List, [], ◌∷◌, ◌++◌, append_assoc}
use lib.Dec.{eqb}
use lib.ListN.{length, drop}
use borrow.Author.Tests.{eqb-true, eqb-false, eq-eqb, ne_eqb}
use Rattle.text.specs.Bytes.{pick, same_bytes}
use Rattle.text.specs.Answers.{Answer}
use Rattle.text.specs.Answers.{Done, Refused}
use Rattle.charref.specs.CharRef.{char_number, any_character, number_answer}
use Rattle.entity.specs.Binding.{Bound, text, external, predefined, unknown}
use Rattle.legal.specs.Legal.{Place, in_table}
use Rattle.tokens.specs.Tokens.{Stop, kept, space, number, named, unterminated, Token, copy, stop, barred, Heads, token_of, skip_of, tokens}
use Rattle.tokens.specs.Outcome.{Outcome, done, refused, prepend, followed, run, numbered, number_outcome}
use Rattle.tokens.proofs.Barred.{IsBarred}
use Rattle.unescape.specs.Unescape.{text_head, copied, replaced, unescape_from, unescape}
use Rattle.unescape.proofs.Unescaped.{text_passes}
use Rattle.attribute.specs.Walk.{Settings, opened, answer, exhausted, walk}
use Rattle.requests.specs.Reached.{heads_in, stopped, ComesTo, Opens, Within, here, inside, OwnName, OwnStop, Own, RefusedAt, OwnCopied, OwnInText, RefusedInText}

-- ---- outcomes

-- refused so, whatever came before
pub record Refusal (o : Outcome) (why first second : ℕ) : Type 0 where
  pub before : List ℕ
  pub openings : ℕ
  pub is : o ≡ refused before openings why first second

refusal_prepend : (front : List ℕ) (o : Outcome) {why first second : ℕ} → Refusal o why first second → Refusal (prepend front o) why first second
refusal_prepend front o r = record { before = front ++ r.before; openings = r.openings; is = ap (prepend front) r.is }

refusal_followed : (o : Outcome) (rest : ℕ → Outcome) {why first second : ℕ} → Refusal o why first second → Refusal (followed o rest) why first second
refusal_followed o rest r = record { before = r.before; openings = r.openings; is = ap (λ (x : Outcome). followed x rest) r.is }

same_refusal : {o p : Outcome} {why first second : ℕ} → o ≡ p → Refusal p why first second → Refusal o why first second
same_refusal e r = record { before = r.before; openings = r.openings; is = e ∙ r.is }

-- one run after the other
prepend_followed : (front : List ℕ) (o : Outcome) (rest : ℕ → Outcome) → prepend front (followed o rest) ≡ followed (prepend front o) rest
prepend_followed front (done value m) rest = go (rest m)
  where
    go : (o : Outcome) → prepend front (prepend value o) ≡ prepend (front ++ value) o
    go (done v k) = ap (λ (l : List ℕ). done l k) (sym (append_assoc front value v))
    go (refused v k why first second) = ap (λ (l : List ℕ). refused l k why first second) (sym (append_assoc front value v))
prepend_followed front (refused before m why first second) rest = refl

prepend_nothing : (o : Outcome) → prepend [] o ≡ o
prepend_nothing (done value m) = refl
prepend_nothing (refused before m why first second) = refl

followed_twice : (o : Outcome) (f g : ℕ → Outcome) → followed o (λ m. followed (f m) g) ≡ followed (followed o f) g
followed_twice (done value m) f g = prepend_followed value (f m) g
followed_twice (refused before m why first second) f g = refl

followed_same : (o : Outcome) (f g : ℕ → Outcome) → ((m : ℕ) → f m ≡ g m) → followed o f ≡ followed o g
followed_same (done value m) f g h = ap (prepend value) (h m)
followed_same (refused before m why first second) f g h = refl

pub run_append : (f : Stop → ℕ → Outcome) (xs ys : List Token) (n : ℕ) → run f (xs ++ ys) n ≡ followed (run f xs n) (λ m. run f ys m)
unfolding run
run_append f [] ys n = sym (prepend_nothing (run f ys n))
run_append f (copy b ∷ xs) ys n = ap (prepend (b ∷ [])) (run_append f xs ys n) ∙ prepend_followed (b ∷ []) (run f xs n) (λ m. run f ys m)
run_append f (stop s ∷ xs) ys n =
    followed_same (f s n) (λ m. run f (xs ++ ys) m) (λ m. followed (run f xs m) (λ k. run f ys k)) (λ m. run_append f xs ys m)
    ∙ followed_twice (f s n) (λ m. run f xs m) (λ m. run f ys m)
run_append f (barred o ∷ xs) ys n = refl

-- ---- from the token to the refusal

pub walk_run : (s : Settings) (p : Place) (depth : ℕ) (t : List ℕ) (n : ℕ) → walk s (heads_in s p) depth t n ≡ run (stopped s depth) (tokens (heads_in s p) 0 0 t) n
unfolding walk
walk_run s p zero t n = refl
walk_run s p (suc depth) t n = refl

-- what is refused behind what is read
read_refused : (at : Heads) (f : Stop → ℕ → Outcome) (t : List ℕ) (n k m : ℕ) (x : Token) → ComesTo at f t n k m x → {why first second : ℕ}
    → ((ts : List Token) → Refusal (run f (x ∷ ts) m) why first second) → Refusal (run f (tokens at 0 0 t) n) why first second
unfolding tokens
read_refused at f t n k m x c r =
    let ts = tokens at (suc k) (skip_of (at k c.byte c.after)) c.after in
    let later : tokens at k 0 (drop k t) ≡ x ∷ ts = ap (tokens at k 0) c.rest ∙ ap (λ (y : Token). y ∷ ts) (sym c.is) in
    let all : tokens at 0 0 t ≡ c.read.front ++ x ∷ ts = c.read.cut ∙ ap (λ (l : List Token). c.read.front ++ l) later in
    same_refusal
    (ap (λ (l : List Token). run f l n) all ∙ run_append f c.read.front (x ∷ ts) n ∙ ap (λ (o : Outcome). followed o (λ j. run f (x ∷ ts) j)) c.read.reads)
    (refusal_prepend c.read.value (run f (x ∷ ts) m) (r ts))

-- a token that is refused itself
number_refuses : (a : Answer) (m : ℕ) {why first second : ℕ} → a ≡ Refused why first second → Refusal (numbered a m) why first second
unfolding numbered
number_refuses a m {why} {first} {second} e = record { before = []; openings = m; is = ap (λ (x : Answer). numbered x m) e }

name_refuses : (limit : ℕ) (walked : List ℕ → ℕ → Outcome) (offset : ℕ) (name : List ℕ) (b : Bound) (m : ℕ) {why first second : ℕ}
    → OwnName limit m offset name b why first second → Refusal (opened limit walked offset name b m) why first second
unfolding opened
name_refuses limit walked offset name (text t) m h =
    record { before = []; openings = m; is = rw (eq-eqb m limit h.0, h.1, h.2, h.3) refl }
name_refuses limit walked offset name external m h = record { before = []; openings = m; is = rw (h.0, h.1, h.2) refl }
name_refuses limit walked offset name (predefined t) m h = absurd h
name_refuses limit walked offset name unknown m h = record { before = []; openings = m; is = rw (h.0, h.1, h.2) refl }

stop_refuses : (s : Settings) (walked : List ℕ → ℕ → Outcome) (x : Stop) (m : ℕ) {why first second : ℕ} → OwnStop s x m why first second
    → Refusal (answer s walked x m) why first second
unfolding answer number_outcome
stop_refuses s walked (kept b) m h = absurd h
stop_refuses s walked space m h = absurd h
stop_refuses s walked (number digits) m h = number_refuses (number_answer (char_number s.legal digits)) m h
stop_refuses s walked (named offset name) m h = rw h.0 (name_refuses s.limit walked offset name (s.bind name) m h.1)
stop_refuses s walked (unterminated offset end) m h = record { before = []; openings = m; is = rw (h.0, h.1, h.2) refl }

token_refuses : (s : Settings) (depth : ℕ) (x : Token) (m : ℕ) {why first second : ℕ} → Own s depth x m why first second
    → (ts : List Token) → Refusal (run (stopped s depth) (x ∷ ts) m) why first second
unfolding run exhausted
token_refuses s depth (copy b) m h ts = absurd h
token_refuses s zero (stop x) m h ts = record { before = []; openings = m; is = rw (h.0, h.1, h.2) refl }
token_refuses s (suc depth) (stop x) m h ts =
    let f = stopped s (suc depth) in
    refusal_followed (f x m) (λ j. run f ts j) (stop_refuses s (λ u n. walk s s.inner depth u n) x m h)
token_refuses s depth (barred k) m h ts = record { before = []; openings = m; is = rw (h.0, h.1, h.2) refl }

-- a text that is opened and refused
opened_refuses : (limit : ℕ) (walked : List ℕ → ℕ → Outcome) (offset : ℕ) (name : List ℕ) (b : Bound) (m : ℕ) (u : List ℕ) (m' : ℕ) → Opens limit m b u m'
    → {why first second : ℕ} → Refusal (walked u m') why first second → Refusal (opened limit walked offset name b m) why first second
unfolding opened
opened_refuses limit walked offset name (text t) m u m' h r =
    rw (ne_eqb m limit h.0) (same_refusal (ap₂ walked (sym h.1) (sym h.2)) r)
opened_refuses limit walked offset name external m u m' h r = absurd h
opened_refuses limit walked offset name (predefined t) m u m' h r = same_refusal (ap₂ walked (sym h.0) (sym h.1)) r
opened_refuses limit walked offset name unknown m u m' h r = absurd h

-- Where the walk comes to a token that is refused, in the text or in one that it opens, it is refused so.
pub reached_refused : (s : Settings) {why first second : ℕ} (p : Place) (depth : ℕ) (t : List ℕ) (n : ℕ) → Within s (RefusedAt s why first second) p depth t n
    → Refusal (walk s (heads_in s p) depth t n) why first second
unfolding run answer
reached_refused s p depth t n (here _ _ _ _ r) =
    same_refusal (walk_run s p depth t n)
    (read_refused (heads_in s p) (stopped s depth) t n r.k r.m r.token r.comes (token_refuses s depth r.token r.m r.own))
reached_refused s p depth t n (inside _ _ less _ _ u m' e o w) =
    let f : Stop → ℕ → Outcome = stopped s (suc less) in
    let r = reached_refused s in_table less u m' w in
    rw e (same_refusal (walk_run s p (suc less) t n) (read_refused (heads_in s p) f t n o.k o.m (stop (named o.offset o.name)) o.comes
    (λ ts. refusal_followed (f (named o.offset o.name) o.m) (λ j. run f ts j)
    (rw o.no_amp (opened_refuses s.limit (λ v j. walk s s.inner less v j) o.offset o.name (s.bind o.name) o.m u m' o.opens r)))))

-- ---- from the refusal to the token

-- no value is a refusal
no_refusal : {X : Type 0} {value : List ℕ} {m why first second : ℕ} → Refusal (done value m) why first second → X
no_refusal r = let q = r.is in let z : ◌≡◌ {A = ℕ} 0 1 = cc in absurd (omega (arith, z))

unprepend : (front : List ℕ) (o : Outcome) {why first second : ℕ} → Refusal (prepend front o) why first second → Refusal o why first second
unprepend front (done value m) r = no_refusal r
unprepend front (refused b m w f g) r = let q = r.is in record { before = b; openings = m; is = cc }

-- why a stop is refused: by itself, or in the text that it opens
data Cause (s : Settings) (depth : ℕ) (x : Stop) (m why first second : ℕ) : Type 0 where
  own : Own s depth (stop x) m why first second → Cause s depth x m why first second
  within : (less offset : ℕ) (name u : List ℕ) (m' : ℕ) → depth ≡ suc less → x ≡ named offset name → same_bytes name (97 ∷ 109 ∷ 112 ∷ []) ≡ false
      → Opens s.limit m (s.bind name) u m' → Refusal (walk s s.inner less u m') why first second → Cause s depth x m why first second

number_cause : (a : Answer) (m : ℕ) {why first second : ℕ} → Refusal (numbered a m) why first second → a ≡ Refused why first second
unfolding numbered
number_cause (Done k second) m r = no_refusal r
number_cause (Refused w f g) m r = let q = r.is in cc

module _ (s : Settings) (less m why first second : ℕ) where
  abbrev walked : List ℕ → ℕ → Outcome
  walked u n = walk s s.inner less u n

  name_cause : (offset : ℕ) (name : List ℕ) (b : Bound) → s.bind name ≡ b → same_bytes name (97 ∷ 109 ∷ 112 ∷ []) ≡ false
      → Refusal (opened s.limit walked offset name b m) why first second → Cause s (suc less) (named offset name) m why first second
  unfolding opened
  name_cause offset name (text t) e a r = go (eqb m s.limit) refl r
    where
      go : (full : Bool) → eqb m s.limit ≡ full → Refusal (pick full (refused [] m 17 offset 0) (walked t (suc m))) why first second
          → Cause s (suc less) (named offset name) m why first second
      go true q x = let i = x.is in own (a, rw e (eqb-true m s.limit q, cc, cc, cc))
      go false q x = within less offset name t (suc m) refl refl a (rw e (eqb-false m s.limit q, refl, refl)) x
  name_cause offset name external e a r = let i = r.is in own (a, rw e (cc, cc, cc))
  name_cause offset name (predefined t) e a r = within less offset name t m refl refl a (rw e (refl, refl)) r
  name_cause offset name unknown e a r = let i = r.is in own (a, rw e (cc, cc, cc))

  stop_cause : (x : Stop) → Refusal (answer s walked x m) why first second → Cause s (suc less) x m why first second
  unfolding answer number_outcome
  stop_cause (kept b) r = no_refusal r
  stop_cause space r = no_refusal r
  stop_cause (number digits) r = own (number_cause (number_answer (char_number s.legal digits)) m r)
  stop_cause (named offset name) r = go (same_bytes name (97 ∷ 109 ∷ 112 ∷ [])) refl r
    where
      go : (amp : Bool) → same_bytes name (97 ∷ 109 ∷ 112 ∷ []) ≡ amp
          → Refusal (pick amp (done (38 ∷ []) m) (opened s.limit walked offset name (s.bind name) m)) why first second
          → Cause s (suc less) (named offset name) m why first second
      go true q x = no_refusal x
      go false q x = name_cause offset name (s.bind name) refl q x
  stop_cause (unterminated offset end) r = let i = r.is in own (cc, cc, cc)

used_up_lem : (s : Settings) (x : Stop) (m : ℕ) {why first second : ℕ} → Refusal (exhausted x m) why first second → Cause s zero x m why first second
unfolding exhausted
used_up_lem s x m r = let i = r.is in own (cc, cc, cc)

drop_next : (t : List ℕ) (k b : ℕ) (bs : List ℕ) → drop k t ≡ b ∷ bs → drop (suc k) t ≡ bs
drop_next [] zero b bs e = let q : length {A = ℕ} [] ≡ length (b ∷ bs) = ap length e in absurd (omega (arith, q))
drop_next [] (suc k) b bs e = let q : length {A = ℕ} [] ≡ length (b ∷ bs) = ap length e in absurd (omega (arith, q))
drop_next (c ∷ t) zero b bs e = cc
drop_next (c ∷ t) (suc k) b bs e = drop_next t k b bs e

-- a text's tokens from left to right, up to the one that is refused
module _ (at : Heads) (f : Stop → ℕ → Outcome) (t : List ℕ) (n why first second : ℕ) (G : Type 0)
    (bars : (k m offset : ℕ) → ComesTo at f t n k m (barred offset) → (why ≡ 26) × (first ≡ offset) × (second ≡ 0) → G)
    (stops : (k m : ℕ) (x : Stop) → ComesTo at f t n k m (stop x) → Refusal (f x m) why first second → G) where
  scan : (rest : List ℕ) (k skip m : ℕ) (front : List Token) (value : List ℕ) → drop k t ≡ rest → tokens at 0 0 t ≡ front ++ tokens at k skip rest
      → run f front n ≡ done value m → Refusal (run f (tokens at k skip rest) m) why first second → G
  unfolding tokens run
  scan [] k skip m front value d c r x = no_refusal x
  scan (b ∷ bs) k (suc skip) m front value d c r x = scan bs (suc k) skip m front value (drop_next t k b bs d) c r x
  scan (b ∷ bs) k zero m front value d c r x =
      step (token_of (at k b bs)) refl (λ j now v more read z. scan bs (suc k) (skip_of (at k b bs)) j now v (drop_next t k b bs d) more read z)
    where
      ts : List Token
      ts = tokens at (suc k) (skip_of (at k b bs)) bs

      comes : (y : Token) → token_of (at k b bs) ≡ y → ComesTo at f t n k m y
      comes y e =
          record {
            read = record { front = front; cut = c ∙ ap (λ (l : List ℕ). front ++ tokens at k 0 l) (sym d); value = value; reads = r };
            byte = b;
            after = bs;
            rest = d;
            is = sym e;
          }

      here_run : (y : Token) → token_of (at k b bs) ≡ y → Refusal (run f (y ∷ ts) m) why first second
      here_run y e = same_refusal (ap (λ (z : Token). run f (z ∷ ts) m) (sym e)) x

      -- the tokens after it
      Later : Type 0
      Later = (j : ℕ) (now : List Token) (v : List ℕ) → tokens at 0 0 t ≡ now ++ ts → run f now n ≡ done v j → Refusal (run f ts j) why first second → G

      -- past a token that is read
      next : Later → (y : Token) (v : List ℕ) (j : ℕ) → token_of (at k b bs) ≡ y → run f (y ∷ []) m ≡ done v j → Refusal (run f ts j) why first second → G
      next later y v j e q z =
          let more : tokens at 0 0 t ≡ (front ++ y ∷ []) ++ ts =
          c ∙ ap (λ (w : Token). front ++ w ∷ ts) e ∙ sym (append_assoc front (y ∷ []) ts) in
          let read : run f (front ++ y ∷ []) n ≡ done (value ++ v) j =
          run_append f front (y ∷ []) n ∙ ap (λ (o : Outcome). followed o (λ i. run f (y ∷ []) i)) r ∙ ap (prepend value) q in
          later j (front ++ y ∷ []) (value ++ v) more read z

      answered : Later → (y : Stop) (o : Outcome) → token_of (at k b bs) ≡ stop y → f y m ≡ o → G
      answered later y (done v j) e q =
          let z : Refusal (prepend v (run f ts j)) why first second = same_refusal (ap (λ (o : Outcome). followed o (λ i. run f ts i)) (sym q)) (here_run (stop y) e) in
          next later (stop y) (v ++ []) j e (ap (λ (o : Outcome). followed o (λ i. done [] i)) q) (unprepend v (run f ts j) z)
      answered later y (refused v j w g h) e q =
          let z : Refusal (refused v j w g h) why first second = same_refusal (ap (λ (o : Outcome). followed o (λ i. run f ts i)) (sym q)) (here_run (stop y) e) in
          stops k m y (comes (stop y) e) (same_refusal q z)

      step : (y : Token) → token_of (at k b bs) ≡ y → Later → G
      step (copy a) e later = next later (copy a) (a ∷ []) m e refl (unprepend (a ∷ []) (run f ts m) (here_run (copy a) e))
      step (stop y) e later = answered later y (f y m) e refl
      step (barred offset) e later = let i = (here_run (barred offset) e).is in bars k m offset (comes (barred offset) e) (cc, cc, cc)

-- A walk that is refused has come to a token that is, in the text or in one that it opens.
pub refused_reached : (s : Settings) {why first second : ℕ} (p : Place) (depth : ℕ) (t : List ℕ) (n : ℕ) → Refusal (walk s (heads_in s p) depth t n) why first second
    → Within s (RefusedAt s why first second) p depth t n
refused_reached s {why} {first} {second} p zero t n r =
    scan (heads_in s p) (stopped s zero) t n why first second (Within s (RefusedAt s why first second) p zero t n)
    (λ k m offset c o. here p zero t n (record { k = k; m = m; token = barred offset; comes = c; own = o }))
    (λ k m x c q. by_itself k m x c (used_up_lem s x m q)) t 0 0 n [] [] refl refl
    (unfold run in refl) (same_refusal (sym (walk_run s p zero t n)) r)
  where
    by_itself : (k m : ℕ) (x : Stop) → ComesTo (heads_in s p) (stopped s zero) t n k m (stop x) → Cause s zero x m why first second → Within s (RefusedAt s why first second) p zero t n
    by_itself k m x c (own o) = here p zero t n (record { k = k; m = m; token = stop x; comes = c; own = o })
    by_itself k m x c (within less offset name u m' e is a o q) = absurd (omega (arith, e))
refused_reached s {why} {first} {second} p (suc depth) t n r =
    scan (heads_in s p) (stopped s (suc depth)) t n why first second (Within s (RefusedAt s why first second) p (suc depth) t n)
    (λ k m offset c o. here p (suc depth) t n (record { k = k; m = m; token = barred offset; comes = c; own = o }))
    (λ k m x c q. by_cause (λ u m' w. refused_reached s in_table depth u m' w) k m x c (stop_cause s depth m why first second x q)) t 0 0 n [] [] refl refl
    (unfold run in refl) (same_refusal (sym (walk_run s p (suc depth) t n)) r)
  where
    by_cause : ((u : List ℕ) (m' : ℕ) → Refusal (walk s s.inner depth u m') why first second → Within s (RefusedAt s why first second) in_table depth u m')
        → (k m : ℕ) (x : Stop) → ComesTo (heads_in s p) (stopped s (suc depth)) t n k m (stop x) → Cause s (suc depth) x m why first second
        → Within s (RefusedAt s why first second) p (suc depth) t n
    by_cause deeper k m x c (own o) = here p (suc depth) t n (record { k = k; m = m; token = stop x; comes = c; own = o })
    by_cause deeper k m x c (within less offset name u m' e is a o q) =
        let same : less ≡ depth = omega (arith, e) in
        inside p (suc depth) depth t n u m' refl
        (record { k = k; m = m; offset = offset; name = name; comes = subst (λ (y : Stop). ComesTo (heads_in s p) (stopped s (suc depth)) t n k m (stop y)) is c; no_amp = a; opens = o })
        (deeper u m' (subst (λ (d : ℕ). Refusal (walk s s.inner d u m') why first second) same q))

-- ---- unescaping

copied_cause : (offset : ℕ) (name : List ℕ) (b : Bound) (m : ℕ) {why first second : ℕ} → Refusal (copied offset name b m) why first second
    → OwnCopied offset name b why first second
unfolding copied
copied_cause offset name (text t) m r = no_refusal r
copied_cause offset name external m r = let i = r.is in (cc, cc, cc)
copied_cause offset name (predefined t) m r = no_refusal r
copied_cause offset name unknown m r = let i = r.is in (cc, cc, cc)

text_cause : (bind : List ℕ → Bound) (x : Stop) (m : ℕ) {why first second : ℕ} → Refusal (replaced bind x m) why first second → OwnInText bind x why first second
unfolding replaced number_outcome
text_cause bind (kept b) m r = no_refusal r
text_cause bind space m r = no_refusal r
text_cause bind (number digits) m r = number_cause (number_answer (char_number any_character digits)) m r
text_cause bind (named offset name) m r = copied_cause offset name (bind name) m r
text_cause bind (unterminated offset end) m r = let i = r.is in (cc, cc, cc)

copied_refuses : (offset : ℕ) (name : List ℕ) (b : Bound) (m : ℕ) {why first second : ℕ} → OwnCopied offset name b why first second
    → Refusal (copied offset name b m) why first second
unfolding copied
copied_refuses offset name (text t) m h = absurd h
copied_refuses offset name external m h = record { before = []; openings = m; is = rw (h.0, h.1, h.2) refl }
copied_refuses offset name (predefined t) m h = absurd h
copied_refuses offset name unknown m h = record { before = []; openings = m; is = rw (h.0, h.1, h.2) refl }

text_refuses : (bind : List ℕ → Bound) (x : Stop) (m : ℕ) {why first second : ℕ} → OwnInText bind x why first second → Refusal (replaced bind x m) why first second
unfolding replaced number_outcome
text_refuses bind (kept b) m h = absurd h
text_refuses bind space m h = absurd h
text_refuses bind (number digits) m h = number_refuses (number_answer (char_number any_character digits)) m h
text_refuses bind (named offset name) m h = copied_refuses offset name (bind name) m h
text_refuses bind (unterminated offset end) m h = record { before = []; openings = m; is = rw (h.0, h.1, h.2) refl }

-- no head of a text that is unescaped bars a character
never_barred : (k b : ℕ) (bs : List ℕ) (offset : ℕ) → barred offset ≡ token_of (text_head k b bs) → ⊥
never_barred k b bs offset e = text_passes k b bs (subst IsBarred e tt)

-- Unescaping is refused exactly when it comes to a stop that is.
pub text_reached : (bind : List ℕ → Bound) (t : List ℕ) {why first second : ℕ} → RefusedInText bind why first second t → Refusal (unescape bind t) why first second
unfolding unescape unescape_from run
text_reached bind t r =
    read_refused text_head (replaced bind) t 0 r.k r.m (stop r.token) r.comes
    (λ ts. refusal_followed (replaced bind r.token r.m) (λ j. run (replaced bind) ts j) (text_refuses bind r.token r.m r.own))

pub reached_text : (bind : List ℕ → Bound) (t : List ℕ) {why first second : ℕ} → Refusal (unescape bind t) why first second → RefusedInText bind why first second t
unfolding unescape unescape_from
reached_text bind t {why} {first} {second} r =
    scan text_head (replaced bind) t 0 why first second (RefusedInText bind why first second t)
    (λ k m offset c o. absurd (never_barred k c.byte c.after offset c.is))
    (λ k m x c q. record { k = k; m = m; token = x; comes = c; own = text_cause bind x m q }) t 0 0 0 [] [] refl refl (unfold run in refl) r
