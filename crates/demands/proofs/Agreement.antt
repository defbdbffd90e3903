-- The walk on a text's bytes agrees, character by character, with the standard's value of its characters (3.3.3). Assumes nothing.
use mathlib.Core.Path.{◌≡◌, refl, ap, sym, ◌∙◌}
use mathlib.Core.Logic.{◌≢◌}
use Prim.Native.Nat.{ℕ, suc, ◌+◌, ◌≤◌}
use native.Mathlib.Omega.{arith}
use mathlib.Core.Bool.{Bool, true, false, ◌||◌}
use mathlib.Core.Option.{Option, none, some}
use mathlib.Core.List.{List, [], ◌∷◌, ◌++◌}
use lib.ListN.{length}
use lib.Dec.{eqb, lit≤}
use borrow.Author.Tests.{eqb-true, eqb-false, ne_eqb}
use Rattle.text.specs.Version.{Rule, xml10, xml11}
use Rattle.text.proofs.Bytes.{pick_by, contrary}
use Rattle.charref.specs.CharRef.{encode}
use Rattle.charref.proofs.Encoding.{encode_at_least}
use Rattle.escape.proofs.View.{or_else}
use Rattle.eols.specs.LineEnds.{line_end}
use Rattle.tokens.specs.Tokens.{Stop, kept, space, unterminated, copy, stop, Head, head, Heads, token_of, skip_of, name_at, reference_at, tokens}
use Rattle.tokens.specs.Outcome.{Outcome, done, refused, prepend, followed, run}
use Rattle.attribute.specs.Heads.{space_or, other_head, attribute_head, past_head}
use Rattle.demands.specs.Characters.{encode_all}
use Rattle.demands.specs.Standard.{pair_ends, alone, line_ends_of, is_white, both, value_of, limited}
use Rattle.demands.proofs.Lines.{AllPlain, Ending, is_cr_lem, is_end, is_kept, ending, cr_width, ends_alone, cr_last, cr_pair, cr_single}
use Rattle.charref.proofs.Apart.{AllApart, encode_apart}
use Rattle.demands.proofs.Words.{encode_append, all_apart, name_ends, name_endless, stop_of, refer_head}

-- ---- agreement of an outcome and a value

-- a value is the UTF-8 of the standard's, after the bytes `front`; where a refusal is by no limit the standard has no value
abbrev pub Agree : List ℕ → Outcome → Option (List ℕ) → Type 0
Agree front (done value m) none = ⊥
Agree front (done value m) (some v) = value ≡ front ++ encode_all v
Agree front (refused before m why first second) x = limited why ≡ false → x ≡ none

agree_prepend : (front v : List ℕ) → front ≡ encode_all v → (o : Outcome) (y : Option (List ℕ)) → Agree [] o y → Agree [] (prepend front o) (both (some v) y)
unfolding both
agree_prepend front v e (done w m) none h = h
agree_prepend front v e (done w m) (some u) h = rw (e, h) (sym (encode_append v u))
agree_prepend front v e (refused before n why first second) y h = λ l. rw (h l)

agree_then : (o : Outcome) (x : Option (List ℕ)) → Agree [] o x → (k : ℕ → Outcome) (y : Option (List ℕ)) → ((m : ℕ) → Agree [] (k m) y) → Agree [] (followed o k) (both x y)
unfolding both
agree_then (done value m) none h k y g = absurd h
agree_then (done value m) (some v) h k y g = agree_prepend value v h (k m) y (g m)
agree_then (refused before n why first second) x h k y g = λ l. rw (h l)

agree_none : (o : Outcome) → Agree [] o none → (k : ℕ → Outcome) → Agree [] (followed o k) none
agree_none (done value m) h k = absurd h
agree_none (refused before n why first second) h k = h

agree_front : (b : ℕ) (front : List ℕ) (o : Outcome) (x : Option (List ℕ)) → Agree front o x → Agree (b ∷ front) (prepend (b ∷ []) o) x
agree_front b front (done w m) none h = h
agree_front b front (done w m) (some u) h = ap (λ (l : List ℕ). b ∷ l) h
agree_front b front (refused before n why first second) x h = h

agree_char : (c : ℕ) (o : Outcome) (x : Option (List ℕ)) → Agree (encode c) o x → Agree [] o (both (some (c ∷ [])) x)
unfolding both encode_all
agree_char c (done w m) none h = h
agree_char c (done w m) (some u) h = h
agree_char c (refused before n why first second) x h = λ l. rw (h l)

-- the answer to a byte that is kept: that byte, or a limit
abbrev pub Keeps : ℕ → Outcome → Type 0
Keeps b (done value m) = value ≡ b ∷ []
Keeps b (refused before m why first second) = limited why ≡ true

agree_kept : (b : ℕ) (o : Outcome) → Keeps b o → (k : ℕ → Outcome) (front : List ℕ) (x : Option (List ℕ)) → ((m : ℕ) → Agree front (k m) x) → Agree (b ∷ front) (followed o k) x
agree_kept b (done value m) h k front x g = rw h (agree_front b front (k m) x (g m))
agree_kept b (refused before n why first second) h k front x g = λ l. contrary h l

-- the answers to stops agree with the values of references
pub record Fits (f : Stop → ℕ → Outcome) (ref : List ℕ → Option (List ℕ)) : Type 0 where
  pub keeps : (b n : ℕ) → Keeps b (f (kept b) n)
  pub spaces : (n : ℕ) → Agree [] (f space n) (some (32 ∷ []))
  pub refers : (offset n : ℕ) (name : List ℕ) → Agree [] (f (stop_of offset name) n) (ref name)
  pub ends : (offset end n : ℕ) → Agree [] (f (unterminated offset end) n) none

-- ---- texts in pieces

abbrev pub All : (ℕ → Type 0) → List ℕ → Type 0
All S [] = Unit {0}
All S (c ∷ cs) = S c × All S cs

-- a character other than `&`; `&`, a name without `;` whose characters are all so, and `;`; or a `&` that no `;` follows
pub data Clean (S : ℕ → Type 0) : List ℕ → Type 0 where
  no_more : Clean S []
  char : {c : ℕ} {cs : List ℕ} → eqb c 38 ≡ false → Clean S cs → Clean S (c ∷ cs)
  refer : (name : List ℕ) {cs : List ℕ} → AllApart 59 name → All S name → Clean S cs → Clean S (38 ∷ name ++ 59 ∷ cs)
  unended : {cs : List ℕ} → AllApart 59 cs → Clean S (38 ∷ cs)

-- a character that no line end changes
abbrev pub Steady : Rule → ℕ → Type 0
Steady r c = (c ≢ 13) × (alone r c ≡ c)

abbrev pub Any : ℕ → Type 0
Any c = Unit {0}

amp_alone : (r : Rule) → alone r 38 ≡ 38
unfolding alone
amp_alone xml10 = refl
amp_alone xml11 = refl

semi_alone : (r : Rule) → alone r 59 ≡ 59
unfolding alone
semi_alone xml10 = refl
semi_alone xml11 = refl

amp_steady : (r : Rule) (cs : List ℕ) → line_ends_of r (38 ∷ cs) ≡ 38 ∷ line_ends_of r cs
amp_steady r cs = ends_alone r 38 cs (λ q. omega arith) ∙ ap (λ (c : ℕ). c ∷ line_ends_of r cs) (amp_alone r)

name_steady : (r : Rule) (name cs : List ℕ) → All (Steady r) name → line_ends_of r (name ++ 59 ∷ cs) ≡ name ++ 59 ∷ line_ends_of r cs
name_steady r [] cs a = ends_alone r 59 cs (λ q. omega arith) ∙ ap (λ (c : ℕ). c ∷ line_ends_of r cs) (semi_alone r)
name_steady r (c ∷ ds) cs a =
    ends_alone r c (ds ++ 59 ∷ cs) a.0.0 ∙ rw a.0.1 (ap (λ (l : List ℕ). c ∷ l) (name_steady r ds cs a.1))

alone_apart : (r : Rule) (c : ℕ) → eqb c 59 ≡ false → eqb (alone r c) 59 ≡ false
unfolding alone
alone_apart xml10 c e = pick_by (λ (x : ℕ). eqb x 59 ≡ false) (eqb c 13) {a = 10} {b = c} (λ h. refl) (λ h. e)
alone_apart xml11 c e = pick_by (λ (x : ℕ). eqb x 59 ≡ false) (eqb c 13 || (eqb c 0x85 || eqb c 0x2028)) {a = 10} {b = c} (λ h. refl) (λ h. e)

ends_apart : (r : Rule) (cs : List ℕ) → AllApart 59 cs → AllApart 59 (line_ends_of r cs)
unfolding line_ends_of
ends_apart r [] a = tt
ends_apart r (c ∷ []) a = (alone_apart r c a.0, tt)
ends_apart r (c ∷ d ∷ cs) a =
    pick_by (AllApart 59) (pair_ends r c d) {a = 10 ∷ line_ends_of r cs} {b = alone r c ∷ line_ends_of r (d ∷ cs)}
    (λ h. (refl, ends_apart r cs a.1.1)) (λ h. (alone_apart r c a.0, ends_apart r (d ∷ cs) a.1))

-- ---- the standard's value, step by step

module _ (ref : List ℕ → Option (List ℕ)) where
  value_white : (c : ℕ) (cs : List ℕ) → eqb c 38 ≡ false → is_white c ≡ true → value_of ref 0 (c ∷ cs) ≡ both (some (32 ∷ [])) (value_of ref 0 cs)
  unfolding value_of
  value_white c cs e h = rw (e, h)

  value_lf : (cs : List ℕ) → value_of ref 0 (10 ∷ cs) ≡ both (some (32 ∷ [])) (value_of ref 0 cs)
  unfolding is_white
  value_lf cs = value_white 10 cs refl refl

  value_plain : (c : ℕ) (cs : List ℕ) → eqb c 38 ≡ false → c ≢ 13 → c ≢ 10 → eqb c 9 ≡ false
      → value_of ref 0 (c ∷ cs) ≡ both (some (c ∷ [])) (value_of ref 0 cs)
  unfolding value_of is_white
  value_plain c cs amp cr lf tab = go (eqb c 32) refl
    where
      go : (t : Bool) → eqb c 32 ≡ t → value_of ref 0 (c ∷ cs) ≡ both (some (c ∷ [])) (value_of ref 0 cs)
      go true e = rw (eqb-true c 32 e)
      go false e = rw (amp, e, ne_eqb c 13 cr, ne_eqb c 10 lf, tab)

  value_past : (w rest : List ℕ) → value_of ref (suc (length w)) (w ++ 59 ∷ rest) ≡ value_of ref 0 rest
  unfolding value_of
  value_past [] rest = refl
  value_past (c ∷ cs) rest = value_past cs rest

  value_refers : (name rest : List ℕ) → AllApart 59 name → value_of ref 0 (38 ∷ name ++ 59 ∷ rest) ≡ both (ref name) (value_of ref 0 rest)
  unfolding value_of
  value_refers name rest a = rw (name_ends name rest a, value_past name rest)

  value_open : (cs : List ℕ) → AllApart 59 cs → value_of ref 0 (38 ∷ cs) ≡ none
  unfolding value_of both
  value_open cs a = rw (name_endless cs a)

-- ---- the walk, token by token

head_space : (r : Rule) (o b : ℕ) (bs : List ℕ) (w : ℕ) → eqb b 38 ≡ false → eqb b 9 ≡ false → line_end r (b ∷ bs) ≡ suc w → attribute_head r o b bs ≡ head (stop space) w
unfolding attribute_head space_or
head_space r o b bs w e f g = rw (e, f, g)

head_other : (r : Rule) (o b : ℕ) (bs : List ℕ) → eqb b 38 ≡ false → eqb b 9 ≡ false → line_end r (b ∷ bs) ≡ 0 → attribute_head r o b bs ≡ other_head r b
unfolding attribute_head space_or
head_other r o b bs e f g = rw (e, f, g)

-- heads under which `&` starts a reference
module _ (at : Heads) (amp : (o : ℕ) (bs : List ℕ) → at o 38 bs ≡ reference_at o bs (name_at false bs)) (f : Stop → ℕ → Outcome) (ref : List ℕ → Option (List ℕ))
    (fits : Fits f ref) where
  abbrev pub From : List ℕ → List ℕ → Option (List ℕ) → Type 0
  From front bytes x = (o n : ℕ) → Agree front (run f (tokens at o 0 bytes) n) x

  copy_run : (b : ℕ) (front rest : List ℕ) (x : Option (List ℕ)) → From front rest x → (o n : ℕ)
      → Agree (b ∷ front) (run f (copy b ∷ tokens at (suc o) 0 rest) n) x
  unfolding run
  copy_run b front rest x ih o n = agree_front b front (run f (tokens at (suc o) 0 rest) n) x (ih (suc o) n)

  kept_run : (b : ℕ) (front rest : List ℕ) (x : Option (List ℕ)) → From front rest x → (o n : ℕ)
      → Agree (b ∷ front) (run f (stop (kept b) ∷ tokens at (suc o) 0 rest) n) x
  unfolding run
  kept_run b front rest x ih o n = agree_kept b (f (kept b) n) (fits.keeps b n) (λ m. run f (tokens at (suc o) 0 rest) m) front x (λ m. ih (suc o) m)

  space_run : (o n b : ℕ) (bs : List ℕ) (w : ℕ) (x : Option (List ℕ)) → at o b bs ≡ head (stop space) w
      → ((m : ℕ) → Agree [] (run f (tokens at (suc o) w bs) m) x) → Agree [] (run f (tokens at o 0 (b ∷ bs)) n) (both (some (32 ∷ [])) x)
  unfolding tokens run
  space_run o n b bs w x h ih =
      rw h (agree_then (f space n) (some (32 ∷ [])) (fits.spaces n) (λ m. run f (tokens at (suc o) w bs) m) x ih)

  past_bytes : (w rest : List ℕ) (x : Option (List ℕ)) → From [] rest x → (o n : ℕ) → Agree [] (run f (tokens at o (length w) (w ++ rest)) n) x
  unfolding tokens
  past_bytes [] rest x ih o n = ih o n
  past_bytes (b ∷ bs) rest x ih o n = past_bytes bs rest x ih (suc o) n

  past_name : (w rest : List ℕ) (x : Option (List ℕ)) → From [] rest x → (o n : ℕ) → Agree [] (run f (tokens at o (suc (length w)) (w ++ 59 ∷ rest)) n) x
  unfolding tokens
  past_name [] rest x ih o n = ih (suc o) n
  past_name (b ∷ bs) rest x ih o n = past_name bs rest x ih (suc o) n

  refer_run : (name rest : List ℕ) (x : Option (List ℕ)) → AllApart 59 name → From [] rest x → From [] (38 ∷ encode_all name ++ 59 ∷ rest) (both (ref name) x)
  unfolding tokens run reference_at
  refer_run name rest x a ih o n =
      rw (amp o (encode_all name ++ 59 ∷ rest), name_ends (encode_all name) rest (all_apart 59 name (lit≤ tt) a), refer_head o name)
      (agree_then (f (stop_of o name) n) (ref name) (fits.refers o n name)
      (λ m. run f (tokens at (suc o) (suc (length (encode_all name))) (encode_all name ++ 59 ∷ rest)) m) x
      (λ m. past_name (encode_all name) rest x ih (suc o) m))

  open_run : (cs : List ℕ) → AllApart 59 cs → From [] (38 ∷ encode_all cs) none
  unfolding tokens run reference_at
  open_run cs a o n =
      rw (amp o (encode_all cs), name_endless (encode_all cs) (all_apart 59 cs (lit≤ tt) a))
      (agree_none (f (unterminated o (o + suc (length (encode_all cs)))) n) (fits.ends o (o + suc (length (encode_all cs))) n)
      (λ m. run f (tokens at (suc o) 0 (encode_all cs)) m))

-- ---- line ends

lines_amp : (r : Rule) (o : ℕ) (bs : List ℕ) → attribute_head r o 38 bs ≡ reference_at o bs (name_at false bs)
unfolding attribute_head
lines_amp r o bs = refl

module _ (r : Rule) (f : Stop → ℕ → Outcome) (ref : List ℕ → Option (List ℕ)) (fits : Fits f ref) where
  abbrev at : Heads
  at = attribute_head r

  abbrev amp : (o : ℕ) (bs : List ℕ) → attribute_head r o 38 bs ≡ reference_at o bs (name_at false bs)
  amp = lines_amp r

  abbrev Read : List ℕ → List ℕ → Option (List ℕ) → Type 0
  Read = From (attribute_head r) (lines_amp r) f ref fits

  byte_run : (v : Rule) (b : ℕ) (front rest : List ℕ) (x : Option (List ℕ)) → Read front rest x → (o n : ℕ)
      → Agree (b ∷ front) (run f (token_of (other_head v b) ∷ tokens at (suc o) (skip_of (other_head v b)) rest) n) x
  unfolding other_head
  byte_run xml10 b front rest x ih o n = copy_run at amp f ref fits b front rest x ih o n
  byte_run xml11 b front rest x ih o n =
      pick_by (λ (h : Head). Agree (b ∷ front) (run f (token_of h ∷ tokens at (suc o) (skip_of h) rest) n) x) (eqb b 0xC2 || eqb b 0xE2)
      {a = head (stop (kept b)) 0} {b = head (copy b) 0} (λ e. kept_run at amp f ref fits b front rest x ih o n) (λ e. copy_run at amp f ref fits b front rest x ih o n)

  -- the bytes of a character that is kept
  plain_run_lem : (w rest : List ℕ) (x : Option (List ℕ)) → AllPlain r w → AllApart 38 w → AllApart 9 w → Read [] rest x → Read w (w ++ rest) x
  unfolding tokens
  plain_run_lem [] rest x q a t ih o n = ih o n
  plain_run_lem (b ∷ bs) rest x q a t ih o n =
      rw (head_other r o b (bs ++ rest) a.0 t.0 (q.0 rest))
      (byte_run r b bs (bs ++ rest) x (plain_run_lem bs rest x q.1 a.1 t.1 ih) o n)

  -- the bytes of a character that ends a line
  end_run : (w rest : List ℕ) (x : Option (List ℕ)) → 1 ≤ length w → AllApart 38 w → AllApart 9 w → line_end r (w ++ rest) ≡ length w → Read [] rest x
      → Read [] (w ++ rest) (both (some (32 ∷ [])) x)
  end_run [] rest x l a t e ih o n = absurd (omega arith)
  end_run (b ∷ bs) rest x l a t e ih o n =
      space_run at amp f ref fits o n b (bs ++ rest) (length bs) x (head_space r o b (bs ++ rest) (length bs) a.0 t.0 e) (λ m. past_bytes at amp f ref fits bs rest x ih (suc o) m)

  -- ---- character by character

  abbrev Reads : List ℕ → Type 0
  Reads cs = Read [] (encode_all cs) (value_of ref 0 (line_ends_of r cs))

  -- what is after the first character, where that makes one line end with a CR before it
  abbrev TailReads : List ℕ → Type 0
  TailReads [] = Unit {0}
  TailReads (d ∷ ds) = pair_ends r 13 d ≡ true → Reads ds

  tab_alone : (v : Rule) → alone v 9 ≡ 9
  unfolding alone
  tab_alone xml10 = refl
  tab_alone xml11 = refl

  tab_step : (cs : List ℕ) → Reads cs → Reads (9 ∷ cs)
  unfolding encode_all is_white
  tab_step cs ih o n =
      rw (ends_alone r 9 cs (λ q. omega arith), tab_alone r, value_white ref 9 (line_ends_of r cs) refl refl)
      (space_run at amp f ref fits o n 9 (encode_all cs) 0 (value_of ref 0 (line_ends_of r cs)) (unfold attribute_head in refl) (λ m. ih (suc o) m))

  end_step : (c : ℕ) (cs : List ℕ) → c ≢ 13 → alone r c ≡ 10 → ((rest : List ℕ) → line_end r (encode c ++ rest) ≡ length (encode c))
      → eqb c 38 ≡ false → eqb c 9 ≡ false → Reads cs → Reads (c ∷ cs)
  unfolding encode_all
  end_step c cs m a e amp tab ih o n =
      rw (ends_alone r c cs m, a, value_lf ref (line_ends_of r cs))
      (end_run (encode c) (encode_all cs) (value_of ref 0 (line_ends_of r cs)) (encode_at_least c) (encode_apart 38 c (lit≤ tt) amp) (encode_apart 9 c (lit≤ tt) tab) (e (encode_all cs)) ih o n)

  kept_step : (c : ℕ) (cs : List ℕ) → c ≢ 13 → c ≢ 10 → alone r c ≡ c → AllPlain r (encode c) → eqb c 38 ≡ false → eqb c 9 ≡ false → Reads cs → Reads (c ∷ cs)
  unfolding encode_all
  kept_step c cs m l a p amp tab ih o n =
      rw (ends_alone r c cs m, a, value_plain ref c (line_ends_of r cs) amp m l tab)
      (agree_char c (run f (tokens at o 0 (encode c ++ encode_all cs)) n) (value_of ref 0 (line_ends_of r cs))
      (plain_run_lem (encode c) (encode_all cs) (value_of ref 0 (line_ends_of r cs)) p (encode_apart 38 c (lit≤ tt) amp) (encode_apart 9 c (lit≤ tt) tab) ih o n))

  last_width : (v : Rule) → line_end v (13 ∷ []) ≡ 1
  unfolding line_end
  last_width xml10 = refl
  last_width xml11 = refl

  cr_pair_step : (d : ℕ) (ds : List ℕ) → Reads (d ∷ ds) → TailReads (d ∷ ds) → (t : Bool) → pair_ends r 13 d ≡ t → Reads (13 ∷ d ∷ ds)
  unfolding encode_all
  cr_pair_step d ds ih tail true e o n =
      rw (cr_pair r d ds e, value_lf ref (line_ends_of r ds))
      (space_run at amp f ref fits o n 13 (encode_all (d ∷ ds)) (length (encode d)) (value_of ref 0 (line_ends_of r ds))
      (head_space r o 13 (encode_all (d ∷ ds)) (length (encode d)) refl refl (cr_width d (encode_all ds) r ∙ rw e))
      (λ m. past_bytes at amp f ref fits (encode d) (encode_all ds) (value_of ref 0 (line_ends_of r ds)) (tail e) (suc o) m))
  cr_pair_step d ds ih tail false e o n =
      rw (cr_single r d ds e, value_lf ref (line_ends_of r (d ∷ ds)))
      (space_run at amp f ref fits o n 13 (encode_all (d ∷ ds)) 0 (value_of ref 0 (line_ends_of r (d ∷ ds)))
      (head_space r o 13 (encode_all (d ∷ ds)) 0 refl refl (cr_width d (encode_all ds) r ∙ rw e))
      (λ m. ih (suc o) m))

  cr_step : (cs : List ℕ) → Reads cs → TailReads cs → Reads (13 ∷ cs)
  unfolding encode_all
  cr_step [] ih tail o n =
      rw (cr_last r, value_lf ref [])
      (space_run at amp f ref fits o n 13 [] 0 (value_of ref 0 []) (head_space r o 13 [] 0 refl refl (last_width r)) (λ m. unfold line_ends_of in ih (suc o) m))
  cr_step (d ∷ ds) ih tail o n = cr_pair_step d ds ih tail (pair_ends r 13 d) refl o n

  step : (c : ℕ) (cs : List ℕ) → Ending r c → eqb c 38 ≡ false → Reads cs → TailReads cs → Reads (c ∷ cs)
  step c cs is_cr_lem amp ih tail = cr_step cs ih tail
  step c cs (is_end m a e) amp ih tail = or_else (λ (x : ℕ). Reads (x ∷ cs)) c 9 (tab_step cs ih) (λ tab. end_step c cs m a e amp tab ih)
  step c cs (is_kept m l a p) amp ih tail = or_else (λ (x : ℕ). Reads (x ∷ cs)) c 9 (tab_step cs ih) (λ tab. kept_step c cs m l a p amp tab ih)

  refer_step : (name cs : List ℕ) → AllApart 59 name → All (Steady r) name → Reads cs → Reads (38 ∷ name ++ 59 ∷ cs)
  unfolding encode_all
  refer_step name cs a s ih o n =
      rw (amp_steady r (name ++ 59 ∷ cs), name_steady r name cs s, value_refers ref name (line_ends_of r cs) a, encode_append name (59 ∷ cs))
      (refer_run at amp f ref fits name (encode_all cs) (value_of ref 0 (line_ends_of r cs)) a ih o n)

  unended_step : (cs : List ℕ) → AllApart 59 cs → Reads (38 ∷ cs)
  unfolding encode_all
  unended_step cs a o n = rw (amp_steady r cs, value_open ref (line_ends_of r cs) (ends_apart r cs a)) (open_run at amp f ref fits cs a o n)

  no_pair : (v : Rule) → pair_ends v 13 38 ≡ false
  unfolding pair_ends
  no_pair xml10 = refl
  no_pair xml11 = refl

  clean_both : (cs : List ℕ) → Clean (Steady r) cs → Reads cs × TailReads cs
  clean_both cs no_more = (λ o n. unfold encode_all in unfold tokens in unfold run in unfold value_of in unfold line_ends_of in refl, tt)
  clean_both cs (char {c = c} {cs = ds} e d) = let ih = clean_both ds d in (step c ds (ending r c) e ih.0 ih.1, λ h. ih.0)
  clean_both cs (refer name {cs = ds} a s d) = (refer_step name ds a s (clean_both ds d).0, λ h. contrary h (no_pair r))
  clean_both cs (unended {cs = ds} a) = (unended_step ds a, λ h. contrary h (no_pair r))

  pub clean_reads : (cs : List ℕ) → Clean (Steady r) cs → (o n : ℕ) → Agree [] (run f (tokens at o 0 (encode_all cs)) n) (value_of ref 0 (line_ends_of r cs))
  clean_reads cs d = (clean_both cs d).0

-- ---- past line ends

past_amp : (o : ℕ) (bs : List ℕ) → past_head o 38 bs ≡ reference_at o bs (name_at false bs)
unfolding past_head
past_amp o bs = refl

past_copy : (o b : ℕ) (bs : List ℕ) → eqb b 38 ≡ false → eqb b 9 ≡ false → eqb b 10 ≡ false → eqb b 13 ≡ false → past_head o b bs ≡ head (copy b) 0
unfolding past_head
past_copy o b bs amp tab lf cr = rw (amp, tab, lf, cr)

module _ (f : Stop → ℕ → Outcome) (ref : List ℕ → Option (List ℕ)) (fits : Fits f ref) where
  abbrev PastRead : List ℕ → List ℕ → Option (List ℕ) → Type 0
  PastRead = From past_head past_amp f ref fits

  -- the bytes of a character that is copied
  copied_run : (w rest : List ℕ) (x : Option (List ℕ)) → AllApart 38 w → AllApart 9 w → AllApart 10 w → AllApart 13 w → PastRead [] rest x → PastRead w (w ++ rest) x
  unfolding tokens
  copied_run [] rest x a t l c ih o n = ih o n
  copied_run (b ∷ bs) rest x a t l c ih o n =
      rw (past_copy o b (bs ++ rest) a.0 t.0 l.0 c.0)
      (copy_run past_head past_amp f ref fits b bs (bs ++ rest) x (copied_run bs rest x a.1 t.1 l.1 c.1 ih) o n)

  abbrev PastReads : List ℕ → Type 0
  PastReads cs = PastRead [] (encode_all cs) (value_of ref 0 cs)

  white_step : (c : ℕ) (cs : List ℕ) → encode c ≡ c ∷ [] → eqb c 38 ≡ false → is_white c ≡ true → ((o : ℕ) (bs : List ℕ) → past_head o c bs ≡ head (stop space) 0)
      → PastReads cs → PastReads (c ∷ cs)
  unfolding encode_all
  white_step c cs one other white blank ih o n =
      rw (one, value_white ref c cs other white) (space_run past_head past_amp f ref fits o n c (encode_all cs) 0 (value_of ref 0 cs) (blank o (encode_all cs)) (λ m. ih (suc o) m))

  copied_step : (c : ℕ) (cs : List ℕ) → eqb c 38 ≡ false → eqb c 9 ≡ false → eqb c 10 ≡ false → eqb c 13 ≡ false → PastReads cs → PastReads (c ∷ cs)
  unfolding encode_all
  copied_step c cs other tab lf cr ih o n =
      rw (value_plain ref c cs other (eqb-false c 13 cr) (eqb-false c 10 lf) tab)
      (agree_char c (run f (tokens past_head o 0 (encode c ++ encode_all cs)) n) (value_of ref 0 cs)
      (copied_run (encode c) (encode_all cs) (value_of ref 0 cs) (encode_apart 38 c (lit≤ tt) other) (encode_apart 9 c (lit≤ tt) tab)
      (encode_apart 10 c (lit≤ tt) lf) (encode_apart 13 c (lit≤ tt) cr) ih o n))

  past_step : (c : ℕ) (cs : List ℕ) → eqb c 38 ≡ false → PastReads cs → PastReads (c ∷ cs)
  unfolding is_white past_head encode
  past_step c cs other ih =
      or_else (λ (x : ℕ). PastReads (x ∷ cs)) c 9 (white_step 9 cs refl refl refl (λ o bs. refl) ih)
      (λ tab. or_else (λ (x : ℕ). PastReads (x ∷ cs)) c 10 (white_step 10 cs refl refl refl (λ o bs. refl) ih)
      (λ lf. or_else (λ (x : ℕ). PastReads (x ∷ cs)) c 13 (white_step 13 cs refl refl refl (λ o bs. refl) ih) (λ cr. copied_step c cs other tab lf cr ih)))

  -- nothing is done to such a text first
  pub past_reads : (cs : List ℕ) → Clean Any cs → (o n : ℕ) → Agree [] (run f (tokens past_head o 0 (encode_all cs)) n) (value_of ref 0 cs)
  unfolding encode_all
  past_reads cs no_more o n = unfold tokens in unfold run in unfold value_of in refl
  past_reads cs (char {c = c} {cs = ds} e d) o n = past_step c ds e (λ i m. past_reads ds d i m) o n
  past_reads cs (refer name {cs = ds} a s d) o n =
      rw (value_refers ref name ds a, encode_append name (59 ∷ ds)) (refer_run past_head past_amp f ref fits name (encode_all ds) (value_of ref 0 ds) a (λ i m. past_reads ds d i m) o n)
  past_reads cs (unended {cs = ds} a) o n = rw (value_open ref ds a) (open_run past_head past_amp f ref fits ds a o n)
