-- The second stage done twice is done once (`collapse_twice`). It keeps the tokens (`tokens_collapse`), and is these with one space between
-- each two (`collapse_spaced`); none is empty or holds a space (`tokens_clean`). UTF-8 is kept (`collapse_utf8`). Assumes nothing.
use mathlib.Core.Path.{◌≡◌, refl, ap, ap₂, sym, ◌∙◌}
use Prim.Native.Nat.{ℕ, zero, suc, ◌<◌}
use native.Mathlib.Omega.{arith}
use mathlib.Core.Bool.{Bool, true, false, ◌&&◌, true≢false}
use mathlib.Core.List.{List, [], ◌∷◌, ◌++◌}
use lib.ListN.{length, drop, get_or}
use borrow.Author.Tests.{eqb-true}
use Rattle.text.specs.Bytes.{pick}
use Rattle.text.specs.Utf8.{State, between, next, after, WellFormed}
use Rattle.text.proofs.Bytes.{pick_by, pick_both, and_left, and_right}
use Rattle.text.proofs.Utf8.{settle, settled, settle_settle, next_ascii}
use Rattle.collapse.specs.Collapse.{is_space, spaces, is_empty, space_first, drop_leading, drop_trailing, single_spaces, collapse, ends, push, tokens, spaced}
use Rattle.collapse.specs.Tokens.{Clean}
use Rattle.collapse.proofs.Stage.{ends_trailing}

-- ---- a tidy text: no space at its ends, and each space before a byte that is none

abbrev Trail : List ℕ → Type 0
Trail [] = Unit {0}
Trail (b ∷ bs) = (is_space b ≡ true → is_empty bs ≡ false) × Trail bs

abbrev Spaced : List ℕ → Type 0
Spaced [] = Unit {0}
Spaced (b ∷ bs) = (is_space b ≡ true → ends bs ≡ false) × Spaced bs

record Tidy (t : List ℕ) : Type 0 where
  start : space_first t ≡ false
  apart : Spaced t

trailing_trail : (t : List ℕ) → Trail (drop_trailing t)
unfolding drop_trailing
trailing_trail [] = tt
trailing_trail (b ∷ bs) =
    pick_by Trail (is_space b && is_empty (drop_trailing bs)) {a = []} {b = b ∷ drop_trailing bs} (λ e. tt)
    (λ e. (λ q. rw q at e, trailing_trail bs))

leading_start : (t : List ℕ) → space_first (drop (spaces t) t) ≡ false
unfolding spaces space_first
leading_start [] = refl
leading_start (b ∷ bs) = go (is_space b) refl (leading_start bs)
  where
    go : (s : Bool) → is_space b ≡ s → space_first (drop (spaces bs) bs) ≡ false → space_first (drop (pick s (suc (spaces bs)) 0) (b ∷ bs)) ≡ false
    go true e ih = ih
    go false e ih = e

trailing_start : (t : List ℕ) → space_first t ≡ false → space_first (drop_trailing t) ≡ false
unfolding drop_trailing space_first
trailing_start [] h = refl
trailing_start (b ∷ bs) h =
    pick_both (λ (l : List ℕ). space_first l ≡ false) (is_space b && is_empty (drop_trailing bs)) {a = []} {b = b ∷ drop_trailing bs} refl h

single_start : (t : List ℕ) → space_first (single_spaces t) ≡ space_first t
unfolding single_spaces space_first
single_start [] = refl
single_start (b ∷ bs) =
    pick_by (λ (l : List ℕ). space_first l ≡ is_space b) (is_space b && space_first bs) {a = single_spaces bs} {b = b ∷ single_spaces bs}
    (λ e. single_start bs ∙ and_right (is_space b) (space_first bs) e ∙ sym (and_left (is_space b) (space_first bs) e)) (λ e. refl)

single_ends : (t : List ℕ) → ends (single_spaces t) ≡ ends t
unfolding single_spaces ends space_first
single_ends [] = refl
single_ends (b ∷ bs) =
    pick_by (λ (l : List ℕ). ends l ≡ is_space b) (is_space b && space_first bs) {a = single_spaces bs} {b = b ∷ single_spaces bs}
    (λ e. single_ends bs ∙ first_ends bs (and_right (is_space b) (space_first bs) e) ∙ sym (and_left (is_space b) (space_first bs) e)) (λ e. refl)
  where
    first_ends : (l : List ℕ) → space_first l ≡ true → ends l ≡ true
    first_ends [] e = refl
    first_ends (c ∷ cs) e = e

-- in a text that is not empty
full_ends : (t : List ℕ) → is_empty t ≡ false → space_first t ≡ false → ends t ≡ false
unfolding is_empty space_first ends
full_ends [] h k = absurd (true≢false h)
full_ends (b ∷ bs) h k = k

single_apart : (t : List ℕ) → Trail t → Spaced (single_spaces t)
unfolding single_spaces
single_apart [] h = tt
single_apart (b ∷ bs) h =
    pick_by Spaced (is_space b && space_first bs) {a = single_spaces bs} {b = b ∷ single_spaces bs} (λ e. single_apart bs h.1)
    (λ e. (λ q. single_ends bs ∙ full_ends bs (h.0 q) (rw q at e), single_apart bs h.1))

collapse_tidy : (t : List ℕ) → Tidy (collapse t)
unfolding collapse drop_leading
collapse_tidy t =
    let rest = drop (spaces t) t in
    record {
      start = single_start (drop_trailing rest) ∙ trailing_start rest (leading_start t);
      apart = single_apart (drop_trailing rest) (trailing_trail rest);
    }

-- ---- a tidy text stays

no_spaces : (t : List ℕ) → space_first t ≡ false → spaces t ≡ 0
unfolding spaces space_first
no_spaces [] h = refl
no_spaces (b ∷ bs) h = rw h

ends_full : (t : List ℕ) → ends t ≡ false → is_empty t ≡ false
unfolding ends is_empty
ends_full [] h = h
ends_full (b ∷ bs) h = refl

ends_first : (t : List ℕ) → ends t ≡ false → space_first t ≡ false
unfolding ends space_first
ends_first [] h = refl
ends_first (b ∷ bs) h = h

when : (a b : Bool) → (a ≡ true → b ≡ false) → a && b ≡ false
when true b h = h refl
when false b h = refl

tidy_trailing : (t : List ℕ) → Spaced t → drop_trailing t ≡ t
unfolding drop_trailing
tidy_trailing [] h = refl
tidy_trailing (b ∷ bs) h = rw (tidy_trailing bs h.1, when (is_space b) (is_empty bs) (λ q. ends_full bs (h.0 q)))

tidy_single : (t : List ℕ) → Spaced t → single_spaces t ≡ t
unfolding single_spaces
tidy_single [] h = refl
tidy_single (b ∷ bs) h = rw (tidy_single bs h.1, when (is_space b) (space_first bs) (λ q. ends_first bs (h.0 q)))

tidy_stays : (t : List ℕ) → Tidy t → collapse t ≡ t
unfolding collapse drop_leading
tidy_stays t h =
    ap (λ (n : ℕ). single_spaces (drop_trailing (drop n t))) (no_spaces t h.start)
    ∙ ap single_spaces (tidy_trailing t h.apart)
    ∙ tidy_single t h.apart

-- K5: "Doing the stage twice equals doing it once"
pub collapse_twice : (t : List ℕ) → collapse (collapse t) ≡ collapse t
collapse_twice t = tidy_stays (collapse t) (collapse_tidy t)

-- ---- the tokens are kept

tokens_leading : (t : List ℕ) → tokens (drop (spaces t) t) ≡ tokens t
unfolding spaces tokens
tokens_leading [] = refl
tokens_leading (b ∷ bs) = go (is_space b) refl (tokens_leading bs)
  where
    go : (s : Bool) → is_space b ≡ s → tokens (drop (spaces bs) bs) ≡ tokens bs
        → tokens (drop (pick s (suc (spaces bs)) 0) (b ∷ bs)) ≡ pick s (tokens bs) (pick (ends bs) ((b ∷ []) ∷ tokens bs) (push b (tokens bs)))
    go true e ih = ih
    go false e ih = rw e

empty_tokens : (t : List ℕ) → is_empty t ≡ true → tokens t ≡ []
unfolding is_empty tokens
empty_tokens [] e = refl
empty_tokens (b ∷ bs) e = absurd (true≢false (sym e))

tokens_trailing : (t : List ℕ) → tokens (drop_trailing t) ≡ tokens t
unfolding drop_trailing tokens
tokens_trailing [] = refl
tokens_trailing (b ∷ bs) =
    pick_by (λ (l : List ℕ). tokens l ≡ tokens (b ∷ bs)) (is_space b && is_empty (drop_trailing bs)) {a = []} {b = b ∷ drop_trailing bs}
    (λ e. rw (and_left (is_space b) (is_empty (drop_trailing bs)) e)
    (sym (sym (tokens_trailing bs) ∙ empty_tokens (drop_trailing bs) (and_right (is_space b) (is_empty (drop_trailing bs)) e))))
    (λ e. rw (tokens_trailing bs, ends_trailing bs))

tokens_single : (t : List ℕ) → tokens (single_spaces t) ≡ tokens t
unfolding single_spaces tokens
tokens_single [] = refl
tokens_single (b ∷ bs) =
    pick_by (λ (l : List ℕ). tokens l ≡ tokens (b ∷ bs)) (is_space b && space_first bs) {a = single_spaces bs} {b = b ∷ single_spaces bs}
    (λ e. rw (and_left (is_space b) (space_first bs) e) (tokens_single bs))
    (λ e. rw (tokens_single bs, single_ends bs))

pub tokens_collapse : (t : List ℕ) → tokens (collapse t) ≡ tokens t
unfolding collapse drop_leading
tokens_collapse t = tokens_single (drop_trailing (drop (spaces t) t)) ∙ tokens_trailing (drop (spaces t) t) ∙ tokens_leading t

-- ---- with one space between each two they are the result

spaced_push : (b : ℕ) (ws : List (List ℕ)) → spaced (push b ws) ≡ b ∷ spaced ws
spaced_push b [] = refl
spaced_push b (w ∷ []) = refl
spaced_push b (w ∷ v ∷ vs) = refl

abbrev Some : List (List ℕ) → Type 0
Some [] = ⊥
Some (w ∷ ws) = Unit {0}

spaced_cons : (w : List ℕ) (ws : List (List ℕ)) → Some ws → spaced (w ∷ ws) ≡ w ++ 32 ∷ spaced ws
spaced_cons w [] h = absurd h
spaced_cons w (v ∷ vs) h = refl

some_push : (b : ℕ) (ws : List (List ℕ)) → Some (push b ws)
some_push b [] = tt
some_push b (w ∷ ws) = tt

some_tokens : (t : List ℕ) → ends t ≡ false → Some (tokens t)
unfolding ends tokens
some_tokens [] e = absurd (true≢false e)
some_tokens (b ∷ bs) e = rw e (pick_both Some (ends bs) {a = (b ∷ []) ∷ tokens bs} {b = push b (tokens bs)} tt (some_push b (tokens bs)))

-- from a token on, and from the space before one on
abbrev FromToken : List ℕ → Type 0
FromToken t = (ends t ≡ false → t ≡ spaced (tokens t)) × (space_first t ≡ true → t ≡ 32 ∷ spaced (tokens t))

after_token : (b : ℕ) (l : List ℕ) → Spaced l → FromToken l → ends l ≡ true → b ∷ l ≡ spaced ((b ∷ []) ∷ tokens l)
unfolding ends space_first tokens
after_token b [] k ih g = refl
after_token b (c ∷ cs) k ih g =
    ap (λ (x : List ℕ). b ∷ x) (ih.1 g) ∙ sym (spaced_cons (b ∷ []) (tokens (c ∷ cs)) (rw g (some_tokens cs (k.0 g))))

in_token : (b : ℕ) (bs : List ℕ) → Spaced bs → FromToken bs → (t : Bool) → ends bs ≡ t
    → b ∷ bs ≡ spaced (pick (ends bs) ((b ∷ []) ∷ tokens bs) (push b (tokens bs)))
in_token b bs k ih false q = rw q (ap (λ (l : List ℕ). b ∷ l) (ih.0 q) ∙ sym (spaced_push b (tokens bs)))
in_token b bs k ih true q = rw q (after_token b bs k ih q)

tidy_tokens : (t : List ℕ) → Spaced t → FromToken t
unfolding ends space_first tokens
tidy_tokens [] h = (λ e. absurd (true≢false e), λ e. absurd (true≢false (sym e)))
tidy_tokens (b ∷ bs) h = (
  λ e. rw e (in_token b bs h.1 (tidy_tokens bs h.1) (ends bs) refl),
  λ e. rw e (ap₂ ◌∷◌ (eqb-true b 32 e) ((tidy_tokens bs h.1).0 (h.0 e))),
)

tidy_spaced : (t : List ℕ) → Tidy t → t ≡ spaced (tokens t)
unfolding tokens
tidy_spaced [] h = refl
tidy_spaced (b ∷ bs) h = (tidy_tokens (b ∷ bs) h.apart).0 (unfold ends space_first in h.start)

-- K5: the result is its tokens, with one space between each two
pub collapse_spaced : (t : List ℕ) → collapse t ≡ spaced (tokens t)
collapse_spaced t = tidy_spaced (collapse t) (collapse_tidy t) ∙ ap (λ (ws : List (List ℕ)). spaced ws) (tokens_collapse t)

-- ---- none is empty or holds a space

abbrev AllClean : List (List ℕ) → Type 0
AllClean [] = Unit {0}
AllClean (w ∷ ws) = Clean w × AllClean ws

clean_push : (b : ℕ) → is_space b ≡ false → (ws : List (List ℕ)) → AllClean ws → AllClean (push b ws)
unfolding is_empty
clean_push b e [] h = (record { some = refl; free = rw e }, tt)
clean_push b e (w ∷ ws) h = (record { some = refl; free = rw e h.0.free }, h.1)

all_clean : (t : List ℕ) → AllClean (tokens t)
unfolding tokens is_empty
all_clean [] = tt
all_clean (b ∷ bs) =
    pick_by AllClean (is_space b) {a = tokens bs} {b = pick (ends bs) ((b ∷ []) ∷ tokens bs) (push b (tokens bs))} (λ e. all_clean bs)
    (λ e. pick_both AllClean (ends bs) {a = (b ∷ []) ∷ tokens bs} {b = push b (tokens bs)}
    (record { some = refl; free = rw e }, all_clean bs) (clean_push b e (tokens bs) (all_clean bs)))

pub tokens_clean : (t : List ℕ) (k : ℕ) → k < length (tokens t) → Clean (get_or (tokens t) k [])
tokens_clean t k h = go (tokens t) (all_clean t) k h
  where
    go : (ws : List (List ℕ)) → AllClean ws → (n : ℕ) → n < length ws → Clean (get_or ws n [])
    go [] c n g = absurd (omega (arith, g))
    go (w ∷ ws) c zero g = c.0
    go (w ∷ ws) c (suc n) g = go ws c.1 n (omega (arith, g))

-- ---- UTF-8 is kept

space_next : (s : State) (b : ℕ) → is_space b ≡ true → next s b ≡ settle s
space_next s b e = ap (next s) (eqb-true b 32 e) ∙ next_ascii s 32 refl

leading_utf8 : (t : List ℕ) → after between t ≡ between → after between (drop (spaces t) t) ≡ between
unfolding spaces after
leading_utf8 [] h = refl
leading_utf8 (b ∷ bs) h = go (is_space b) refl (λ q. leading_utf8 bs q)
  where
    go : (s : Bool) → is_space b ≡ s → (after between bs ≡ between → after between (drop (spaces bs) bs) ≡ between)
        → after between (drop (pick s (suc (spaces bs)) 0) (b ∷ bs)) ≡ between
    go true e ih = ih (settled between bs (ap (λ (x : State). after x bs) (sym (space_next between b e)) ∙ h)).1
    go false e ih = h

trailing_utf8 : (t : List ℕ) (s : State) → after s t ≡ between → after s (drop_trailing t) ≡ between
unfolding drop_trailing after
trailing_utf8 [] s h = h
trailing_utf8 (b ∷ bs) s h =
    pick_by (λ (l : List ℕ). after s l ≡ between) (is_space b && is_empty (drop_trailing bs)) {a = []} {b = b ∷ drop_trailing bs}
    (λ e. (settled s bs (ap (λ (x : State). after x bs) (sym (space_next s b (and_left (is_space b) (is_empty (drop_trailing bs)) e))) ∙ h)).0)
    (λ e. trailing_utf8 bs (next s b) h)

space_first_lem : (t : List ℕ) (s : State) → space_first t ≡ true → after (settle s) t ≡ after s t
unfolding space_first after
space_first_lem [] s e = absurd (true≢false (sym e))
space_first_lem (b ∷ bs) s e = ap (λ (x : State). after x bs) (space_next (settle s) b e ∙ settle_settle s ∙ sym (space_next s b e))

single_utf8 : (t : List ℕ) (s : State) → after s (single_spaces t) ≡ after s t
unfolding single_spaces after
single_utf8 [] s = refl
single_utf8 (b ∷ bs) s =
    pick_by (λ (l : List ℕ). after s l ≡ after (next s b) bs) (is_space b && space_first bs) {a = single_spaces bs} {b = b ∷ single_spaces bs}
    (λ e. single_utf8 bs s ∙ sym (space_first_lem bs s (and_right (is_space b) (space_first bs) e))
    ∙ ap (λ (x : State). after x bs) (sym (space_next s b (and_left (is_space b) (space_first bs) e))))
    (λ e. single_utf8 bs (next s b))

pub collapse_utf8 : (t : List ℕ) → WellFormed t → WellFormed (collapse t)
unfolding WellFormed collapse drop_leading
collapse_utf8 t h =
    let rest = drop (spaces t) t in
    single_utf8 (drop_trailing rest) between ∙ trailing_utf8 rest between (leading_utf8 t h)
