-- The line ends of a text's bytes are the bytes of its characters' line ends (2.11). Assumes nothing.
use mathlib.Core.Path.{◌≡◌, refl, ap, ◌∙◌}
use mathlib.Core.Logic.{◌≢◌}
use Prim.Native.Nat.{ℕ, suc, ◌+◌, ◌/◌, ◌%◌, ◌≤◌, ◌<◌}
use native.Mathlib.Omega.{arith}
use mathlib.Core.Bool.{Bool, true, false, ◌&&◌}
use mathlib.Core.List.{List, [], ◌∷◌, ◌++◌}
use lib.ListN.{length}
use lib.Dec.{eqb}
use borrow.Author.Tests.{eqb-true, eqb-false, ne_eqb}
use Rattle.text.proofs.Bytes.{and_true}
use Rattle.text.specs.Bytes.{pick, begins}
use Rattle.text.specs.Version.{Rule, xml10, xml11}
use Rattle.charref.specs.CharRef.{encode}
use Rattle.charref.proofs.Encoding.{by_size, encode_at_least}
use Rattle.escape.proofs.View.{or_else}
use Rattle.eols.specs.LineEnds.{line_end, eols_from, eols}
use Rattle.eols.proofs.LineEnds.{none10, none11, not_nel, not_ls}
use Rattle.demands.specs.Characters.{encode_all}
use Rattle.demands.specs.Standard.{pair_ends, alone, line_ends_of}

-- ---- a character's bytes

-- bytes of which none starts a line end, whatever follows
abbrev pub AllPlain : Rule → List ℕ → Type 0
AllPlain r [] = Unit {0}
AllPlain r (b ∷ bs) = ((rest : List ℕ) → line_end r (b ∷ bs ++ rest) ≡ 0) × AllPlain r bs

plain_byte : (r : Rule) (b : ℕ) (bs : List ℕ) → b ≢ 13 → b ≢ 10 → (b ≡ 0xC2 → begins (0x85 ∷ []) bs ≡ false) → (b ≡ 0xE2 → begins (0x80 ∷ 0xA8 ∷ []) bs ≡ false)
    → line_end r (b ∷ bs) ≡ 0
plain_byte xml10 b bs n m c e = none10 b bs n m
plain_byte xml11 b bs n m c e = go (eqb b 0xC2) refl (eqb b 0xE2) refl
  where
    go : (t : Bool) → eqb b 0xC2 ≡ t → (u : Bool) → eqb b 0xE2 ≡ u → line_end xml11 (b ∷ bs) ≡ 0
    go true p u q = let k = eqb-true b 0xC2 p in not_nel b bs n m k (c k)
    go false p true q = let k = eqb-true b 0xE2 q in not_ls b bs n m k (e k)
    go false p false q = none11 b bs n m (eqb-false b 0xC2 p) (eqb-false b 0xE2 q)

plain_tail : (r : Rule) (b : ℕ) (bs : List ℕ) → 0x80 ≤ b → b ≤ 0xBF → line_end r (b ∷ bs) ≡ 0
plain_tail r b bs h k = plain_byte r b bs (λ q. omega arith) (λ q. omega arith) (λ q. absurd (omega arith)) (λ q. absurd (omega arith))

-- a character that no line end holds
pub record Other (c : ℕ) : Type 0 where
  pub no_cr : c ≢ 13
  pub no_lf : c ≢ 10
  pub no_nel : c ≢ 0x85
  pub no_ls : c ≢ 0x2028

module _ (r : Rule) (n : ℕ) (o : Other n) where
  plain_1 : n < 0x80 → AllPlain r (n ∷ [])
  plain_1 h = (λ rest. plain_byte r n rest o.no_cr o.no_lf (λ q. absurd (omega arith)) (λ q. absurd (omega arith)), tt)

  plain_2 : 0x80 ≤ n → n < 0x800 → AllPlain r ((0xC0 + n / 64) ∷ (0x80 + n % 64) ∷ [])
  plain_2 h k =
      let no : n ≢ 0x85 = o.no_nel in (
        λ rest. plain_byte r (0xC0 + n / 64) ((0x80 + n % 64) ∷ rest) (λ q. omega arith) (λ q. omega arith)
            (λ q. rw (ne_eqb (0x80 + n % 64) 0x85 (λ p. omega arith))) (λ q. absurd (omega arith)),
        (λ rest. plain_tail r (0x80 + n % 64) rest (omega arith) (omega arith), tt),
      )

  third : 0xE0 + n / 4096 ≡ 0xE2 → (t : Bool) → eqb (0x80 + n / 64 % 64) 0x80 ≡ t → (u : Bool) → eqb (0x80 + n % 64) 0xA8 ≡ u → t && (u && true) ≡ false
  third q true e true f =
      let no : n ≢ 0x2028 = o.no_ls in
      let x = eqb-true (0x80 + n / 64 % 64) 0x80 e in
      let y = eqb-true (0x80 + n % 64) 0xA8 f in
      absurd (omega arith)
  third q true e false f = refl
  third q false e u f = refl

  plain_3 : 0x800 ≤ n → n < 0x10000 → AllPlain r ((0xE0 + n / 4096) ∷ (0x80 + n / 64 % 64) ∷ (0x80 + n % 64) ∷ [])
  plain_3 h k = (
    λ rest. plain_byte r (0xE0 + n / 4096) ((0x80 + n / 64 % 64) ∷ (0x80 + n % 64) ∷ rest) (λ q. omega arith) (λ q. omega arith)
        (λ q. absurd (omega arith)) (λ q. third q (eqb (0x80 + n / 64 % 64) 0x80) refl (eqb (0x80 + n % 64) 0xA8) refl),
    (
      λ rest. plain_tail r (0x80 + n / 64 % 64) ((0x80 + n % 64) ∷ rest) (omega arith) (omega arith),
      (λ rest. plain_tail r (0x80 + n % 64) rest (omega arith) (omega arith), tt),
    ),
  )

  plain_4 : AllPlain r ((0xF0 + n / 262144) ∷ (0x80 + n / 4096 % 64) ∷ (0x80 + n / 64 % 64) ∷ (0x80 + n % 64) ∷ [])
  plain_4 = (
    λ rest. plain_byte r (0xF0 + n / 262144) ((0x80 + n / 4096 % 64) ∷ (0x80 + n / 64 % 64) ∷ (0x80 + n % 64) ∷ rest) (λ q. omega arith) (λ q. omega arith)
        (λ q. absurd (omega arith)) (λ q. absurd (omega arith)),
    (
      λ rest. plain_tail r (0x80 + n / 4096 % 64) ((0x80 + n / 64 % 64) ∷ (0x80 + n % 64) ∷ rest) (omega arith) (omega arith),
      (
        λ rest. plain_tail r (0x80 + n / 64 % 64) ((0x80 + n % 64) ∷ rest) (omega arith) (omega arith),
        (λ rest. plain_tail r (0x80 + n % 64) rest (omega arith) (omega arith), tt),
      ),
    ),
  )

  other_plain : AllPlain r (encode n)
  other_plain = by_size (AllPlain r) n plain_1 plain_2 plain_3 (λ h. plain_4)

-- ---- a character by cases: CR; another that ends a line under the version; one that is kept
pub data Ending (r : Rule) : ℕ → Type 0 where
  is_cr_lem : Ending r 13
  is_end : {c : ℕ} → c ≢ 13 → alone r c ≡ 10 → ((rest : List ℕ) → line_end r (encode c ++ rest) ≡ length (encode c)) → Ending r c
  is_kept : {c : ℕ} → c ≢ 13 → c ≢ 10 → alone r c ≡ c → AllPlain r (encode c) → Ending r c

lf_ends : (r : Rule) → Ending r 10
unfolding alone line_end encode
lf_ends xml10 = is_end {c = 10} (λ q. omega arith) refl (λ rest. refl)
lf_ends xml11 = is_end {c = 10} (λ q. omega arith) refl (λ rest. refl)

nel_ends : (r : Rule) → Ending r 0x85
unfolding alone line_end encode
nel_ends xml10 = is_kept {c = 0x85} (λ q. omega arith) (λ q. omega arith) refl (λ rest. refl, (λ rest. refl, tt))
nel_ends xml11 = is_end {c = 0x85} (λ q. omega arith) refl (λ rest. refl)

ls_ends : (r : Rule) → Ending r 0x2028
unfolding alone line_end encode
ls_ends xml10 = is_kept {c = 0x2028} (λ q. omega arith) (λ q. omega arith) refl (λ rest. refl, (λ rest. refl, (λ rest. refl, tt)))
ls_ends xml11 = is_end {c = 0x2028} (λ q. omega arith) refl (λ rest. refl)

other_alone : (r : Rule) (c : ℕ) → Other c → alone r c ≡ c
unfolding alone
other_alone xml10 c o = rw (ne_eqb c 13 o.no_cr)
other_alone xml11 c o = rw (ne_eqb c 13 o.no_cr, ne_eqb c 0x85 o.no_nel, ne_eqb c 0x2028 o.no_ls)

other_ends : (r : Rule) (c : ℕ) → Other c → Ending r c
other_ends r c o = is_kept o.no_cr o.no_lf (other_alone r c o) (other_plain r c o)

pub ending : (r : Rule) (c : ℕ) → Ending r c
ending r c =
    or_else (Ending r) c 13 is_cr_lem λ cr.
    or_else (Ending r) c 10 (lf_ends r) λ lf.
    or_else (Ending r) c 0x85 (nel_ends r) λ nel.
    or_else (Ending r) c 0x2028 (ls_ends r) λ ls.
    other_ends r c (record { no_cr = eqb-false c 13 cr; no_lf = eqb-false c 10 lf; no_nel = eqb-false c 0x85 nel; no_ls = eqb-false c 0x2028 ls })

-- ---- after a CR: the width of its line end

two_not : (a b : Bool) → (a ≡ true → b ≡ true → ⊥) → a && (b && true) ≡ false
two_not true true h = absurd (h refl refl)
two_not true false h = refl
two_not false b h = refl

module _ (d : ℕ) (rest : List ℕ) where
  lf_first : begins (10 ∷ []) (encode d ++ rest) ≡ eqb d 10
  lf_first =
      by_size (λ (w : List ℕ). begins (10 ∷ []) (w ++ rest) ≡ eqb d 10) d
      (λ h. and_true (eqb d 10))
      (λ h k. rw (ne_eqb (0xC0 + d / 64) 10 (λ q. omega arith), ne_eqb d 10 (λ q. omega arith)))
      (λ h k. rw (ne_eqb (0xE0 + d / 4096) 10 (λ q. omega arith), ne_eqb d 10 (λ q. omega arith)))
      (λ h. rw (ne_eqb (0xF0 + d / 262144) 10 (λ q. omega arith), ne_eqb d 10 (λ q. omega arith)))

  nel_two : (t : Bool) → eqb d 0x85 ≡ t → eqb (0xC0 + d / 64) 0xC2 && (eqb (0x80 + d % 64) 0x85 && true) ≡ t
  nel_two true e = rw (eqb-true d 0x85 e)
  nel_two false e =
      let no : d ≢ 0x85 = eqb-false d 0x85 e in
      two_not (eqb (0xC0 + d / 64) 0xC2) (eqb (0x80 + d % 64) 0x85)
      (λ p q. let x = eqb-true (0xC0 + d / 64) 0xC2 p in let y = eqb-true (0x80 + d % 64) 0x85 q in no (omega arith))

  nel_first : begins (0xC2 ∷ 0x85 ∷ []) (encode d ++ rest) ≡ eqb d 0x85
  nel_first =
      by_size (λ (w : List ℕ). begins (0xC2 ∷ 0x85 ∷ []) (w ++ rest) ≡ eqb d 0x85) d
      (λ h. rw (ne_eqb d 0xC2 (λ q. omega arith), ne_eqb d 0x85 (λ q. omega arith)))
      (λ h k. nel_two (eqb d 0x85) refl)
      (λ h k. rw (ne_eqb (0xE0 + d / 4096) 0xC2 (λ q. omega arith), ne_eqb d 0x85 (λ q. omega arith)))
      (λ h. rw (ne_eqb (0xF0 + d / 262144) 0xC2 (λ q. omega arith), ne_eqb d 0x85 (λ q. omega arith)))

  pub cr_width : (r : Rule) → line_end r (13 ∷ encode d ++ rest) ≡ pick (pair_ends r 13 d) (suc (length (encode d))) 1
  unfolding line_end pair_ends encode
  cr_width r = go r (eqb d 10) refl (eqb d 0x85) refl
    where
      go : (r : Rule) (t : Bool) → eqb d 10 ≡ t → (u : Bool) → eqb d 0x85 ≡ u
          → line_end r (13 ∷ encode d ++ rest) ≡ pick (pair_ends r 13 d) (suc (length (encode d))) 1
      go xml10 true e u f = rw (lf_first, e, eqb-true d 10 e)
      go xml10 false e u f = rw (lf_first, e)
      go xml11 true e u f = rw (lf_first, e, eqb-true d 10 e)
      go xml11 false e true f = rw (lf_first, e, nel_first, f, eqb-true d 0x85 f)
      go xml11 false e false f = rw (lf_first, e, nel_first, f)

-- ---- the characters' side

pair_not : (r : Rule) (c d : ℕ) → c ≢ 13 → pair_ends r c d ≡ false
unfolding pair_ends
pair_not xml10 c d n = rw (ne_eqb c 13 n)
pair_not xml11 c d n = rw (ne_eqb c 13 n)

-- a character that is no CR stands by itself
pub ends_alone : (r : Rule) (c : ℕ) (cs : List ℕ) → c ≢ 13 → line_ends_of r (c ∷ cs) ≡ alone r c ∷ line_ends_of r cs
unfolding line_ends_of
ends_alone r c [] n = refl
ends_alone r c (d ∷ ds) n = rw (pair_not r c d n)

cr_alone : (r : Rule) → alone r 13 ≡ 10
unfolding alone
cr_alone xml10 = refl
cr_alone xml11 = refl

pub cr_last : (r : Rule) → line_ends_of r (13 ∷ []) ≡ 10 ∷ []
unfolding line_ends_of
cr_last r = ap (λ (c : ℕ). c ∷ []) (cr_alone r)

-- a CR with the character after it, and a CR alone
pub cr_pair : (r : Rule) (d : ℕ) (ds : List ℕ) → pair_ends r 13 d ≡ true → line_ends_of r (13 ∷ d ∷ ds) ≡ 10 ∷ line_ends_of r ds
unfolding line_ends_of
cr_pair r d ds e = rw e

pub cr_single : (r : Rule) (d : ℕ) (ds : List ℕ) → pair_ends r 13 d ≡ false → line_ends_of r (13 ∷ d ∷ ds) ≡ 10 ∷ line_ends_of r (d ∷ ds)
unfolding line_ends_of
cr_single r d ds e = rw (e, cr_alone r)

-- ---- the bytes' side

skip_bytes : (r : Rule) (w rest : List ℕ) → eols_from r (length w) (w ++ rest) ≡ eols_from r 0 rest
unfolding eols_from
skip_bytes r [] rest = refl
skip_bytes r (b ∷ bs) rest = skip_bytes r bs rest

kept_bytes : (r : Rule) (w rest : List ℕ) → AllPlain r w → eols_from r 0 (w ++ rest) ≡ w ++ eols_from r 0 rest
unfolding eols_from
kept_bytes r [] rest h = refl
kept_bytes r (b ∷ bs) rest h = rw (h.0 rest) (ap (λ (l : List ℕ). b ∷ l) (kept_bytes r bs rest h.1))

ended_bytes : (r : Rule) (w rest : List ℕ) → 1 ≤ length w → line_end r (w ++ rest) ≡ length w → eols_from r 0 (w ++ rest) ≡ 10 ∷ eols_from r 0 rest
unfolding eols_from
ended_bytes r [] rest h e = absurd (omega arith)
ended_bytes r (b ∷ bs) rest h e = rw e (ap (λ (l : List ℕ). 10 ∷ l) (skip_bytes r bs rest))

cr_bytes : (r : Rule) (d : ℕ) (ds : List ℕ) → eols_from r 0 (encode_all (d ∷ ds)) ≡ encode_all (line_ends_of r (d ∷ ds)) → eols_from r 0 (encode_all ds) ≡ encode_all (line_ends_of r ds)
    → (t : Bool) → pair_ends r 13 d ≡ t → eols_from r 0 (13 ∷ encode_all (d ∷ ds)) ≡ encode_all (line_ends_of r (13 ∷ d ∷ ds))
unfolding eols_from encode_all
cr_bytes r d ds p q true e =
    rw (cr_width d (encode_all ds) r, e, cr_pair r d ds e) (ap (λ (l : List ℕ). 10 ∷ l) (skip_bytes r (encode d) (encode_all ds) ∙ q))
cr_bytes r d ds p q false e = rw (cr_width d (encode_all ds) r, e, cr_single r d ds e) (ap (λ (l : List ℕ). 10 ∷ l) p)

cr_end : (r : Rule) → eols_from r 0 (encode_all (13 ∷ [])) ≡ encode_all (line_ends_of r (13 ∷ []))
unfolding eols_from encode_all line_ends_of
cr_end xml10 = refl
cr_end xml11 = refl

-- a character that is no CR
char_bytes : (r : Rule) (c : ℕ) (cs : List ℕ) → Ending r c → c ≢ 13 → eols_from r 0 (encode_all cs) ≡ encode_all (line_ends_of r cs)
    → eols_from r 0 (encode_all (c ∷ cs)) ≡ encode_all (line_ends_of r (c ∷ cs))
unfolding encode_all
char_bytes r c cs is_cr_lem n ih = absurd (n refl)
char_bytes r c cs (is_end m a e) n ih =
    rw (ends_alone r c cs n, a) (ended_bytes r (encode c) (encode_all cs) (encode_at_least c) (e (encode_all cs)) ∙ ap (λ (l : List ℕ). 10 ∷ l) ih)
char_bytes r c cs (is_kept m l a p) n ih =
    rw (ends_alone r c cs n, a) (kept_bytes r (encode c) (encode_all cs) p ∙ ap (λ (l : List ℕ). encode c ++ l) ih)

lines_from : (r : Rule) (cs : List ℕ) → eols_from r 0 (encode_all cs) ≡ encode_all (line_ends_of r cs)
unfolding encode_all
lines_from r [] = unfold eols_from in unfold line_ends_of in refl
lines_from r (c ∷ []) =
    or_else (λ (x : ℕ). eols_from r 0 (encode_all (x ∷ [])) ≡ encode_all (line_ends_of r (x ∷ []))) c 13 (cr_end r)
    (λ e. char_bytes r c [] (ending r c) (eqb-false c 13 e) (unfold eols_from in unfold line_ends_of in refl))
lines_from r (c ∷ d ∷ ds) =
    or_else (λ (x : ℕ). eols_from r 0 (encode_all (x ∷ d ∷ ds)) ≡ encode_all (line_ends_of r (x ∷ d ∷ ds))) c 13
    (cr_bytes r d ds (lines_from r (d ∷ ds)) (lines_from r ds) (pair_ends r 13 d) refl)
    (λ e. char_bytes r c (d ∷ ds) (ending r c) (eqb-false c 13 e) (lines_from r (d ∷ ds)))

-- XML 1.0 and 1.1, 2.11: the line ends of bytes are the standard's line ends of characters.
pub line_ends_lem : (r : Rule) (cs : List ℕ) → eols r (encode_all cs) ≡ encode_all (line_ends_of r cs)
unfolding eols
line_ends_lem r cs = lines_from r cs
