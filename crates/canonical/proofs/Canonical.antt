-- The canonical form in pieces, each standing for some bytes of the value: so it is UTF-8 where the value is, and has at least the
-- value's bytes and at most six times as many. Assumes nothing.
use mathlib.Core.Path.{◌≡◌, refl, ap, sym, subst, ◌∙◌}
use Prim.Native.Nat.{ℕ, zero, suc, ◌*◌, ◌≤◌, ◌<◌}
use native.Mathlib.Omega.{arith}
use mathlib.Core.Bool.{Bool, true, false}
use mathlib.Core.List.{List, [], ◌∷◌, ◌++◌, append-nil}
use lib.ListN.{length, drop, length-append}
use lib.Dec.{eqb, lit≤}
use borrow.Author.Tests.{eqb-true, ne_eqb}
use Rattle.text.specs.Bytes.{begins}
use Rattle.text.specs.Version.{Rule, xml10, xml11}
use Rattle.text.specs.Utf8.{State, between, after, WellFormed}
use Rattle.text.proofs.Utf8.{settle, after_append, after_ascii}
use Rattle.eols.specs.LineEnds.{line_end}
use Rattle.text.proofs.Bytes.{begins_split}
use Rattle.eols.proofs.Normal.{line_end_settles}
use Rattle.escape.specs.Escape.{attribute, level_set, write_byte, write}
use Rattle.escape.proofs.View.{Kind, is_lt, is_gt, is_amp_lem, is_apos, is_quot, is_cr_lem, is_lf, is_tab, is_other, kind}
use Rattle.escape.proofs.Write.{byte_least, byte_most, after_write}
use Rattle.escape.proofs.Levels.{level_sized, level_ascii}
use Rattle.canonical.specs.Canonical.{canonical_from, canonical}

-- no byte at which XML 1.1 has a line end of its own
abbrev pub Plain : Rule → ℕ → Type 0
Plain xml10 b = Unit {0}
Plain xml11 b = (eqb b 0xC2 ≡ false) × (eqb b 0xE2 ≡ false)

-- bytes of the value, what is written for them, and the form after it: level 3; U+0085 and U+2028; another C2 or E2
pub data Piece : Rule → List ℕ → List ℕ → List ℕ → Type 0 where
  by_level : {r : Rule} {b : ℕ} {form : List ℕ} → Plain r b → Piece r (b ∷ []) (write_byte (level_set attribute) b) form
  as_nel : {form : List ℕ} → Piece xml11 (0xC2 ∷ 0x85 ∷ []) (38 ∷ 35 ∷ 49 ∷ 51 ∷ 51 ∷ 59 ∷ []) form
  as_ls : {form : List ℕ} → Piece xml11 (0xE2 ∷ 0x80 ∷ 0xA8 ∷ []) (38 ∷ 35 ∷ 56 ∷ 50 ∷ 51 ∷ 50 ∷ 59 ∷ []) form
  as_c2 : {form : List ℕ} → begins (0x85 ∷ []) form ≡ false → Piece xml11 (0xC2 ∷ []) (0xC2 ∷ []) form
  as_e2 : {form : List ℕ} → begins (0x80 ∷ 0xA8 ∷ []) form ≡ false → Piece xml11 (0xE2 ∷ []) (0xE2 ∷ []) form

-- a value and its form, piece by piece
pub data Pieces (r : Rule) : List ℕ → List ℕ → Type 0 where
  none : Pieces r [] []
  more : {bytes front rest form : List ℕ} → Piece r bytes front form → Pieces r rest form → Pieces r (bytes ++ rest) (front ++ form)

-- ---- a form begins with the second byte of a character just where the value does

module _ (x : ℕ) (tail : 0x80 ≤ x) (short : x < 0xC0) (ps : List ℕ) where
  low : (c : ℕ) → c < 0x80 → eqb c x ≡ false
  low c h = ne_eqb c x (λ q. omega arith)

  high : (c : ℕ) → 0xC0 ≤ c → eqb c x ≡ false
  high c h = ne_eqb c x (λ q. omega arith)

  level_begins : (b : ℕ) → Kind b → (form rest : List ℕ) → begins ps form ≡ begins ps rest
      → begins (x ∷ ps) (write_byte (level_set attribute) b ++ form) ≡ begins (x ∷ ps) (b ∷ rest)
  unfolding level_set
  level_begins b is_lt form rest e = rw (low 38 (lit≤ tt), low 60 (lit≤ tt))
  level_begins b is_gt form rest e = rw (low 38 (lit≤ tt), low 62 (lit≤ tt))
  level_begins b is_amp_lem form rest e = rw (low 38 (lit≤ tt))
  level_begins b is_apos form rest e = rw (low 38 (lit≤ tt), low 39 (lit≤ tt))
  level_begins b is_quot form rest e = rw (low 38 (lit≤ tt), low 34 (lit≤ tt))
  level_begins b is_cr_lem form rest e = rw (low 38 (lit≤ tt), low 13 (lit≤ tt))
  level_begins b is_lf form rest e = rw (low 38 (lit≤ tt), low 10 (lit≤ tt))
  level_begins b is_tab form rest e = rw (low 38 (lit≤ tt), low 9 (lit≤ tt))
  level_begins b (is_other o) form rest e = rw (o.no_lf, o.no_tab, o.no_apos, o.no_quot, o.no_gt, o.no_lt, o.no_amp, o.no_cr, e)

  piece_begins : (r : Rule) (bytes front form rest : List ℕ) → Piece r bytes front form → begins ps form ≡ begins ps rest
      → begins (x ∷ ps) (front ++ form) ≡ begins (x ∷ ps) (bytes ++ rest)
  piece_begins r bytes front form rest (by_level {b = b} p) e = level_begins b (kind b) form rest e
  piece_begins r bytes front form rest as_nel e = rw (low 38 (lit≤ tt), high 0xC2 (lit≤ tt))
  piece_begins r bytes front form rest as_ls e = rw (low 38 (lit≤ tt), high 0xE2 (lit≤ tt))
  piece_begins r bytes front form rest (as_c2 q) e = rw (high 0xC2 (lit≤ tt))
  piece_begins r bytes front form rest (as_e2 q) e = rw (high 0xE2 (lit≤ tt))

  pieces_begin : (r : Rule) → ((value form : List ℕ) → Pieces r value form → begins ps form ≡ begins ps value)
      → (value form : List ℕ) → Pieces r value form → begins (x ∷ ps) form ≡ begins (x ∷ ps) value
  pieces_begin r h value form none = refl
  pieces_begin r h value form (more {bytes = bytes} {front = front} {rest = rest} {form = after} p m) =
      piece_begins r bytes front after rest p (h rest after m)

begins_85 : (r : Rule) (value form : List ℕ) → Pieces r value form → begins (0x85 ∷ []) form ≡ begins (0x85 ∷ []) value
begins_85 r = pieces_begin 0x85 (lit≤ tt) (lit≤ tt) [] r (λ value form m. refl)

begins_a8 : (r : Rule) (value form : List ℕ) → Pieces r value form → begins (0xA8 ∷ []) form ≡ begins (0xA8 ∷ []) value
begins_a8 r = pieces_begin 0xA8 (lit≤ tt) (lit≤ tt) [] r (λ value form m. refl)

begins_80_a8 : (r : Rule) (value form : List ℕ) → Pieces r value form → begins (0x80 ∷ 0xA8 ∷ []) form ≡ begins (0x80 ∷ 0xA8 ∷ []) value
begins_80_a8 r = pieces_begin 0x80 (lit≤ tt) (lit≤ tt) (0xA8 ∷ []) r (begins_a8 r)

-- ---- every canonical form is made so

-- the form of what is left of the value after some bytes of it
abbrev Left : Rule → List ℕ → Type 0
Left r bs = (k : ℕ) → Pieces r (drop k bs) (canonical_from r k bs)

c2_pieces : (bs : List ℕ) → Left xml11 bs → (t : Bool) → begins (0x85 ∷ []) bs ≡ t → Pieces xml11 (0xC2 ∷ bs) (canonical_from xml11 0 (0xC2 ∷ bs))
unfolding canonical_from
c2_pieces bs ih true e =
    rw e (subst (λ (l : List ℕ). Pieces xml11 (0xC2 ∷ l) (38 ∷ 35 ∷ 49 ∷ 51 ∷ 51 ∷ 59 ∷ canonical_from xml11 1 bs)) (sym (begins_split (0x85 ∷ []) bs e)) (more as_nel (ih 1)))
c2_pieces bs ih false e = rw e (more (as_c2 (begins_85 xml11 bs (canonical_from xml11 0 bs) (ih 0) ∙ e)) (ih 0))

e2_pieces : (bs : List ℕ) → Left xml11 bs → (t : Bool) → begins (0x80 ∷ 0xA8 ∷ []) bs ≡ t → Pieces xml11 (0xE2 ∷ bs) (canonical_from xml11 0 (0xE2 ∷ bs))
unfolding canonical_from
e2_pieces bs ih true e =
    rw e (subst (λ (l : List ℕ). Pieces xml11 (0xE2 ∷ l) (38 ∷ 35 ∷ 56 ∷ 50 ∷ 51 ∷ 50 ∷ 59 ∷ canonical_from xml11 2 bs)) (sym (begins_split (0x80 ∷ 0xA8 ∷ []) bs e)) (more as_ls (ih 2)))
e2_pieces bs ih false e = rw e (more (as_e2 (begins_80_a8 xml11 bs (canonical_from xml11 0 bs) (ih 0) ∙ e)) (ih 0))

next_pieces : (b : ℕ) (bs : List ℕ) → Left xml11 bs → (t : Bool) → eqb b 0xC2 ≡ t → (u : Bool) → eqb b 0xE2 ≡ u
    → Pieces xml11 (b ∷ bs) (canonical_from xml11 0 (b ∷ bs))
next_pieces b bs ih true e u f = rw (eqb-true b 0xC2 e) (c2_pieces bs ih (begins (0x85 ∷ []) bs) refl)
next_pieces b bs ih false e true f = rw (eqb-true b 0xE2 f) (e2_pieces bs ih (begins (0x80 ∷ 0xA8 ∷ []) bs) refl)
next_pieces b bs ih false e false f = unfold canonical_from in rw (e, f) (more (by_level {r = xml11} (e, f)) (ih 0))

pieces_from : (r : Rule) (w : List ℕ) → Left r w
unfolding canonical_from
pieces_from r [] zero = none
pieces_from r [] (suc k) = none
pieces_from r (b ∷ bs) (suc k) = pieces_from r bs k
pieces_from xml10 (b ∷ bs) zero = more (by_level tt) (pieces_from xml10 bs 0)
pieces_from xml11 (b ∷ bs) zero = next_pieces b bs (pieces_from xml11 bs) (eqb b 0xC2) refl (eqb b 0xE2) refl

pub canonical_pieces : (r : Rule) (value : List ℕ) → Pieces r value (canonical r value)
unfolding canonical
canonical_pieces r value = pieces_from r value 0

-- ---- UTF-8

level_moves : (s : State) (b : ℕ) → after s (write_byte (level_set attribute) b) ≡ after s (b ∷ [])
unfolding write
level_moves s b = ap (after s) (sym (append-nil (write_byte (level_set attribute) b))) ∙ after_write (level_set attribute) (level_ascii attribute) s (b ∷ [])

ends_11 : (s : State) (t : List ℕ) (w : ℕ) → line_end xml11 t ≡ suc w → drop (suc w) t ≡ [] → after s t ≡ settle s
unfolding after
ends_11 s t w e d = line_end_settles xml11 t w e s ∙ ap (after (settle s)) d

piece_moves : (r : Rule) (bytes front form : List ℕ) → Piece r bytes front form → (s : State) → after s front ≡ after s bytes
unfolding line_end
piece_moves r bytes front form (by_level {b = b} p) s = level_moves s b
piece_moves r bytes front form as_nel s = after_ascii s 38 (35 ∷ 49 ∷ 51 ∷ 51 ∷ 59 ∷ []) refl ∙ sym (ends_11 s (0xC2 ∷ 0x85 ∷ []) 1 refl refl)
piece_moves r bytes front form as_ls s =
    after_ascii s 38 (35 ∷ 56 ∷ 50 ∷ 51 ∷ 50 ∷ 59 ∷ []) refl ∙ sym (ends_11 s (0xE2 ∷ 0x80 ∷ 0xA8 ∷ []) 2 refl refl)
piece_moves r bytes front form (as_c2 q) s = refl
piece_moves r bytes front form (as_e2 q) s = refl

pieces_move : (r : Rule) (value form : List ℕ) → Pieces r value form → (s : State) → after s form ≡ after s value
pieces_move r value form none s = refl
pieces_move r value form (more {bytes = bytes} {front = front} {rest = rest} {form = left} p m) s =
    after_append s front left ∙ ap (λ (x : State). after x left) (piece_moves r bytes front left p s)
    ∙ pieces_move r rest left m (after s bytes) ∙ sym (after_append s bytes rest)

-- The canonical form of a UTF-8 value is UTF-8.
pub canonical_well_formed : (r : Rule) (value : List ℕ) → WellFormed value → WellFormed (canonical r value)
unfolding WellFormed
canonical_well_formed r value h = pieces_move r value (canonical r value) (canonical_pieces r value) between ∙ h

-- ---- lengths

piece_length : (r : Rule) (bytes front form : List ℕ) → Piece r bytes front form → (length bytes ≤ length front) × (length front ≤ 6 * length bytes)
piece_length r bytes front form (by_level {b = b} p) =
    (byte_least (level_set attribute) (level_sized attribute) b, byte_most (level_set attribute) (level_sized attribute) b)
piece_length r bytes front form as_nel = (lit≤ tt, lit≤ tt)
piece_length r bytes front form as_ls = (lit≤ tt, lit≤ tt)
piece_length r bytes front form (as_c2 q) = (lit≤ tt, lit≤ tt)
piece_length r bytes front form (as_e2 q) = (lit≤ tt, lit≤ tt)

pieces_length : (r : Rule) (value form : List ℕ) → Pieces r value form → (length value ≤ length form) × (length form ≤ 6 * length value)
pieces_length r value form none = (lit≤ tt, lit≤ tt)
pieces_length r value form (more {bytes = bytes} {front = front} {rest = rest} {form = left} p m) =
    rw (length-append bytes rest, length-append front left) (omega (arith, piece_length r bytes front left p, pieces_length r rest left m))

pub canonical_length : (r : Rule) (value : List ℕ) → (length value ≤ length (canonical r value)) × (length (canonical r value) ≤ 6 * length value)
canonical_length r value = pieces_length r value (canonical r value) (canonical_pieces r value)
