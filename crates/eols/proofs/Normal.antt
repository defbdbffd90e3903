-- What normalizing line ends gives: no line end but LF, the same when done twice, UTF-8 kept, no more bytes. Assumes nothing.
use mathlib.Core.Path.{◌≡◌, refl, sym, ap, subst, ◌∙◌}
use mathlib.Core.Bool.{Bool, true, false, ◌&&◌}
use mathlib.Core.List.{List, [], ◌∷◌}
use mathlib.Core.Logic.{inl, inr, ⊎_elim}
use Prim.Native.Nat.{ℕ, zero, suc, ◌≤◌, suc-le-suc}
use native.Mathlib.Omega.{arith}
use native.Mathlib.Nat.{le_step, le_refl}
use lib.Dec.{eqb}
use lib.ListN.{length, drop}
use borrow.Author.Tests.{eqb-true, eqb-false, eq-eqb}
use lib.Seq.{drop-nil}
use Rattle.text.specs.Bytes.{pick, begins}
use Rattle.text.specs.Version.{Rule, xml10, xml11}
use Rattle.text.specs.Utf8.{State, between, one, two, three, after_e0, after_ed, after_f0, after_f4, broken, next, after, WellFormed}
use Rattle.text.proofs.Bytes.{pick_by, pick_both, and_left, and_right, begins_split}
use Rattle.text.proofs.Utf8.{after_append, settle, next_ascii, after_ascii, all_ascii}
use Rattle.eols.specs.LineEnds.{line_ends, width_of, line_end, eol_byte, eol_skip, eols_from, eols, Normal}
use Rattle.eols.proofs.LineEnds.{lf_alone, none10, none11, nel, not_nel, ls, not_ls}

-- ---- no more bytes

length_from : (r : Rule) (k : ℕ) (t : List ℕ) → length (eols_from r k t) ≤ length t
unfolding eols_from
length_from r zero [] = le_refl 0
length_from r (suc k) [] = le_refl 0
length_from r (suc k) (b ∷ bs) = le_step (length_from r k bs)
length_from r zero (b ∷ bs) = suc-le-suc (length_from r (eol_skip (line_end r (b ∷ bs))) bs)

pub eols_length : (r : Rule) (t : List ℕ) → length (eols r t) ≤ length t
unfolding eols
eols_length r t = length_from r 0 t

-- ---- UTF-8 is kept

-- a pattern leaves a reader where one ASCII byte would
Settles : List ℕ → Type 0
Settles p = (s : State) → after s p ≡ settle s

data AllSettle : List (List ℕ) → Type 0 where
  no_more : AllSettle []
  and_also : {x : ℕ} {xs : List ℕ} {ps : List (List ℕ)} → Settles (x ∷ xs) → AllSettle ps → AllSettle ((x ∷ xs) ∷ ps)

Ends : List ℕ → ℕ → Type 0
Ends t zero = Unit {0}
Ends t (suc w) = (s : State) → after s t ≡ after (settle s) (drop (suc w) t)

width_settles : (ps : List (List ℕ)) → AllSettle ps → (t : List ℕ) → Ends t (width_of ps t)
unfolding width_of Ends Settles
width_settles ps no_more t = tt
width_settles ps (and_also {x = x} {xs = xs} {ps = qs} h a) t =
    pick_by (Ends t) (begins (x ∷ xs) t) {a = suc (length xs)}
    (λ e s. ap (after s) (begins_split (x ∷ xs) t e) ∙ after_append s (x ∷ xs) (drop (suc (length xs)) t)
    ∙ ap (λ (y : State). after y (drop (suc (length xs)) t)) (h s))
    (λ e. width_settles qs a t)

cr_nel_settles : Settles (13 ∷ 0xC2 ∷ 0x85 ∷ [])
unfolding after Settles
cr_nel_settles between = refl
cr_nel_settles one = refl
cr_nel_settles two = refl
cr_nel_settles three = refl
cr_nel_settles after_e0 = refl
cr_nel_settles after_ed = refl
cr_nel_settles after_f0 = refl
cr_nel_settles after_f4 = refl
cr_nel_settles broken = refl

nel_settles : Settles (0xC2 ∷ 0x85 ∷ [])
unfolding after Settles
nel_settles between = refl
nel_settles one = refl
nel_settles two = refl
nel_settles three = refl
nel_settles after_e0 = refl
nel_settles after_ed = refl
nel_settles after_f0 = refl
nel_settles after_f4 = refl
nel_settles broken = refl

ls_settles : Settles (0xE2 ∷ 0x80 ∷ 0xA8 ∷ [])
unfolding after Settles
ls_settles between = refl
ls_settles one = refl
ls_settles two = refl
ls_settles three = refl
ls_settles after_e0 = refl
ls_settles after_ed = refl
ls_settles after_f0 = refl
ls_settles after_f4 = refl
ls_settles broken = refl

ascii_settles : (x : ℕ) (xs : List ℕ) → all_ascii (x ∷ xs) ≡ true → Settles (x ∷ xs)
unfolding Settles
ascii_settles x xs e s = after_ascii s x xs e

line_ends_settle : (r : Rule) → AllSettle (line_ends r)
unfolding line_ends
line_ends_settle xml10 =
    and_also (ascii_settles 13 (10 ∷ []) refl) (and_also (ascii_settles 13 [] refl) (and_also (ascii_settles 10 [] refl) no_more))
line_ends_settle xml11 =
    and_also (ascii_settles 13 (10 ∷ []) refl)
    (and_also cr_nel_settles
    (and_also (ascii_settles 13 [] refl)
    (and_also (ascii_settles 10 [] refl)
    (and_also nel_settles
    (and_also ls_settles no_more)))))

-- a line end leaves a reader where one ASCII byte would
pub line_end_settles : (r : Rule) (t : List ℕ) (w : ℕ) → line_end r t ≡ suc w → (s : State) → after s t ≡ after (settle s) (drop (suc w) t)
unfolding Ends line_end
line_end_settles r t w e = subst (Ends t) e (width_settles (line_ends r) (line_ends_settle r) t)

keeps : (r : Rule) (t : List ℕ) (k : ℕ) (s : State) → after s (drop k t) ≡ between → after s (eols_from r k t) ≡ between
unfolding eols_from after line_end Ends
keeps r [] k s h = ap (after s) (sym (drop-nil k)) ∙ h
keeps r (b ∷ bs) (suc k) s h = keeps r bs k s h
keeps r (b ∷ bs) zero s h = go (line_end r (b ∷ bs)) (width_settles (line_ends r) (line_ends_settle r) (b ∷ bs)) (λ k x q. keeps r bs k x q)
  where
    go : (w : ℕ) → Ends (b ∷ bs) w → ((k : ℕ) (x : State) → after x (drop k bs) ≡ between → after x (eols_from r k bs) ≡ between)
        → after (next s (eol_byte w b)) (eols_from r (eol_skip w) bs) ≡ between
    go zero e ih = ih 0 (next s b) h
    go (suc w) e ih = rw (next_ascii s 10 refl) (ih w (settle s) (sym (e s) ∙ h))

-- A UTF-8 text with its line ends normalized is UTF-8.
pub eols_well_formed : (r : Rule) (t : List ℕ) → WellFormed t → WellFormed (eols r t)
unfolding eols WellFormed
eols_well_formed r t h = keeps r t 0 between h

-- ---- no line end but LF

-- no byte of the pattern is LF
NoLf : List ℕ → Type 0
NoLf [] = Unit {0}
NoLf (x ∷ xs) = (x ≡ 10 → ⊥) × NoLf xs

-- a pattern without LF stands in the result only where it stood in the text
begins_kept : (r : Rule) (p t : List ℕ) → NoLf p → begins p (eols_from r 0 t) ≡ true → begins p t ≡ true
unfolding NoLf eols_from
begins_kept r [] t n e = refl
begins_kept r (x ∷ xs) [] n e = e
begins_kept r (x ∷ xs) (c ∷ cs) n e = go (line_end r (c ∷ cs)) e (λ q. begins_kept r xs cs n.1 q)
  where
    go : (w : ℕ) → eqb (eol_byte w c) x && begins xs (eols_from r (eol_skip w) cs) ≡ true → (begins xs (eols_from r 0 cs) ≡ true → begins xs cs ≡ true)
        → eqb c x && begins xs cs ≡ true
    go zero q ih =
        rw (and_left (eqb c x) (begins xs (eols_from r 0 cs)) q) (ih (and_right (eqb c x) (begins xs (eols_from r 0 cs)) q))
    go (suc w) q ih = absurd (n.0 (sym (eqb-true 10 x (and_left (eqb 10 x) (begins xs (eols_from r w cs)) q))))

absent_kept : (r : Rule) (p t : List ℕ) → NoLf p → begins p t ≡ false → begins p (eols_from r 0 t) ≡ false
absent_kept r p t n e = go (begins p (eols_from r 0 t)) refl
  where
    go : (u : Bool) → begins p (eols_from r 0 t) ≡ u → u ≡ false
    go true q = sym (begins_kept r p t n q) ∙ e
    go false q = refl

some_width : (t : Bool) {a b : ℕ} → (a ≡ 0 → ⊥) → (b ≡ 0 → ⊥) → pick t a b ≡ 0 → ⊥
some_width t {a} {b} f g = pick_both (λ (w : ℕ). w ≡ 0 → ⊥) t {a = a} {b = b} f g

nel_no_lf : NoLf (0x85 ∷ [])
unfolding NoLf
nel_no_lf = ((λ q. omega arith), tt)

ls_no_lf : NoLf (0x80 ∷ 0xA8 ∷ [])
unfolding NoLf
ls_no_lf = ((λ q. omega arith), ((λ q. omega arith), tt))

-- where no line end is, none starts with this byte
no_cr : (r : Rule) (b : ℕ) (bs : List ℕ) → line_end r (b ∷ bs) ≡ 0 → b ≡ 13 → ⊥
unfolding line_end
no_cr xml10 b bs e q =
    some_width (begins (10 ∷ []) bs) {a = 2} {b = 1} (λ z. omega arith) (λ z. omega arith) (rw (eq-eqb b 13 q) at e)
no_cr xml11 b bs e q =
    some_width (begins (10 ∷ []) bs) {a = 2} {b = pick (begins (0xC2 ∷ 0x85 ∷ []) bs) 3 1} (λ z. omega arith)
    (some_width (begins (0xC2 ∷ 0x85 ∷ []) bs) {a = 3} {b = 1} (λ z. omega arith) (λ z. omega arith)) (rw (eq-eqb b 13 q) at e)

no_lf : (r : Rule) (b : ℕ) (bs : List ℕ) → line_end r (b ∷ bs) ≡ 0 → b ≡ 10 → ⊥
no_lf xml10 b bs e q = let z = sym (lf_alone b bs false q) ∙ e in omega arith
no_lf xml11 b bs e q = let z = sym (lf_alone b bs true q) ∙ e in omega arith

-- the byte is copied before a text whose line ends are normalized: still none starts with it
width_kept : (r : Rule) (b : ℕ) (bs : List ℕ) → line_end r (b ∷ bs) ≡ 0 → line_end r (b ∷ eols_from r 0 bs) ≡ 0
width_kept xml10 b bs e = none10 b (eols_from xml10 0 bs) (no_cr xml10 b bs e) (no_lf xml10 b bs e)
width_kept xml11 b bs e = go (eqb b 0xC2) refl (eqb b 0xE2) refl
  where
    n : b ≡ 13 → ⊥
    n = no_cr xml11 b bs e

    m : b ≡ 10 → ⊥
    m = no_lf xml11 b bs e

    after_c2 : b ≡ 0xC2 → (t : Bool) → begins (0x85 ∷ []) bs ≡ t → t ≡ false
    after_c2 q true g = absurd (let z = sym (nel b bs n m q g) ∙ e in omega arith)
    after_c2 q false g = refl

    after_e2 : b ≡ 0xE2 → (t : Bool) → begins (0x80 ∷ 0xA8 ∷ []) bs ≡ t → t ≡ false
    after_e2 q true g = absurd (let z = sym (ls b bs n m q g) ∙ e in omega arith)
    after_e2 q false g = refl

    go : (t : Bool) → eqb b 0xC2 ≡ t → (v : Bool) → eqb b 0xE2 ≡ v → line_end xml11 (b ∷ eols_from xml11 0 bs) ≡ 0
    go true f v g =
        not_nel b (eols_from xml11 0 bs) n m (eqb-true b 0xC2 f)
        (absent_kept xml11 (0x85 ∷ []) bs nel_no_lf (after_c2 (eqb-true b 0xC2 f) (begins (0x85 ∷ []) bs) refl))
    go false f true g =
        not_ls b (eols_from xml11 0 bs) n m (eqb-true b 0xE2 g)
        (absent_kept xml11 (0x80 ∷ 0xA8 ∷ []) bs ls_no_lf (after_e2 (eqb-true b 0xE2 g) (begins (0x80 ∷ 0xA8 ∷ []) bs) refl))
    go false f false g = none11 b (eols_from xml11 0 bs) n m (eqb-false b 0xC2 f) (eqb-false b 0xE2 g)

normal_from : (r : Rule) (k : ℕ) (t : List ℕ) → Normal r (eols_from r k t)
unfolding eols_from
normal_from r zero [] = tt
normal_from r (suc k) [] = tt
normal_from r (suc k) (b ∷ bs) = normal_from r k bs
normal_from r zero (b ∷ bs) = go (line_end r (b ∷ bs)) refl (λ k. normal_from r k bs)
  where
    go : (w : ℕ) → line_end r (b ∷ bs) ≡ w → ((k : ℕ) → Normal r (eols_from r k bs)) → Normal r (eol_byte w b ∷ eols_from r (eol_skip w) bs)
    go zero e ih = (inl (width_kept r b bs e), ih 0)
    go (suc w) e ih = (inr refl, ih w)

-- XML 1.0 and 1.1, 2.11: no line end but LF is left.
pub eols_normal : (r : Rule) (t : List ℕ) → Normal r (eols r t)
unfolding eols
eols_normal r t = normal_from r 0 t

-- ---- twice is once

lf_one : (r : Rule) (b : ℕ) (bs : List ℕ) → b ≡ 10 → line_end r (b ∷ bs) ≡ 1
lf_one xml10 b bs q = lf_alone b bs false q
lf_one xml11 b bs q = lf_alone b bs true q

pub normal_same : (r : Rule) (t : List ℕ) → Normal r t → eols_from r 0 t ≡ t
unfolding eols_from
normal_same r [] n = refl
normal_same r (b ∷ bs) n =
    ⊎_elim
    (λ e. rw e (ap (λ (l : List ℕ). b ∷ l) (normal_same r bs n.1)))
    (λ q. rw (lf_one r b bs q) (rw q (ap (λ (l : List ℕ). 10 ∷ l) (normal_same r bs n.1))))
    n.0

-- Line ends normalized twice are line ends normalized once.
pub eols_twice : (r : Rule) (t : List ℕ) → eols r (eols r t) ≡ eols r t
unfolding eols
eols_twice r t = normal_same r (eols_from r 0 t) (normal_from r 0 t)
