-- Each text of declarations of the standard is read, with just these declarations (`entities_taken`), where names and values are within their limits
-- and there are not too many. Assumes nothing.
use mathlib.Core.Path.{◌≡◌, refl, sym, ap, subst, ◌∙◌}
use mathlib.Core.Logic.{◌≢◌}
use mathlib.Core.Bool.{Bool, true, false, true≢false}
use mathlib.Core.List.{List, [], ◌∷◌, ◌++◌, append_assoc, append-nil}
use Prim.Native.Nat.{ℕ, zero, suc, ◌+◌, ◌-◌, ◌/◌, ◌≤◌, ◌<◌}
use native.Mathlib.Omega.{arith}
use lib.Dec.{eqb, ltb}
use lib.ListN.{length}
use borrow.Author.Tests.{eqb-true, eq-eqb, ne_eqb, le-ltb}
use Rattle.text.specs.Bytes.{pick}
use Rattle.charref.specs.CharRef.{char_number, any_character, number_answer, encode}
use Rattle.charref.specs.CharNumbers.{CharNumber}
use Rattle.charref.specs.CharNumbers.{Char}
use Rattle.charref.proofs.Encoding.{by_size}
use Rattle.legal.proofs.Decoding.{char_ascii}
use Rattle.table_names.specs.NameChars.{is_name_start, is_name_char, char_width, name_chars}
use Rattle.table_names.proofs.NamesPast.{chars_none}
use Rattle.table_grammar.specs.EntityValue.{Read, read, exceeds, onward, literal, is_white, after_space, space, numbered, char_ref_from, entity_ref, reference, value_from, entity_value}
use Rattle.table_grammar.specs.EntityDecl.{keyword, opening, declared_name, definition, Entity, entity, no_more, one_more, entities_at, entities}
use Rattle.table_grammar.specs.Productions.{S, blank, blanks, OptionalS, no_s, an_s, Name, name_start, Without, Reference, char_ref, entity_ref as entityReference, Content, no_content, raw, referring, EntityValue, quoted, apostrophed, GEDecl, declaring, Declarations, no_more as noDeclaration, declaration}
use Rattle.table_grammar.proofs.NameSpelled.{name_taken}
use Rattle.table_grammar.proofs.ReferenceEnds.{Ends, tail_drop, reference_ends, value_skip}
use Rattle.table_grammar.proofs.SmallEntities.{Small, SmallEntity}

-- ---- bytes, white space, names

literal_taken : (cs rest : List ℕ) → literal cs (cs ++ rest) ≡ read [] rest
unfolding literal
literal_taken [] rest = refl
literal_taken (c ∷ cs) rest = rw (eq-eqb c c refl) (literal_taken cs rest)

-- no white space stands at the head
abbrev Dark : List ℕ → Type 0
Dark t = after_space t ≡ t

white_on : (b : ℕ) (bs : List ℕ) → is_white b ≡ true → after_space (b ∷ bs) ≡ after_space bs
unfolding after_space
white_on b bs e = rw e

dark_byte : (b : ℕ) (bs : List ℕ) → is_white b ≡ false → Dark (b ∷ bs)
unfolding after_space
dark_byte b bs e = rw e

after_taken : {w : List ℕ} → S w → (rest : List ℕ) → Dark rest → after_space (w ++ rest) ≡ rest
after_taken (blank b e) rest d = white_on b rest e ∙ d
after_taken (blanks b w e s) rest d = white_on b (w ++ rest) e ∙ after_taken s rest d

optional_taken : {w : List ℕ} → OptionalS w → (rest : List ℕ) → Dark rest → after_space (w ++ rest) ≡ rest
optional_taken no_s rest d = d
optional_taken (an_s w s) rest d = after_taken s rest d

space_head : (b : ℕ) (bs : List ℕ) → is_white b ≡ true → space (b ∷ bs) ≡ read [] (after_space bs)
unfolding space
space_head b bs e = rw e

space_taken : {w : List ℕ} → S w → (rest : List ℕ) → Dark rest → space (w ++ rest) ≡ read [] rest
space_taken (blank b e) rest d = space_head b rest e ∙ ap (λ (l : List ℕ). read [] l) d
space_taken (blanks b w e s) rest d = space_head b (w ++ rest) e ∙ ap (λ (l : List ℕ). read [] l) (after_taken s rest d)

-- an ASCII byte that is no name character ends a name
ends_name_lem : (b : ℕ) (bs : List ℕ) → b < 0x80 → is_name_char b ≡ false → name_chars 0 (b ∷ bs) ≡ 0
ends_name_lem b bs h e = chars_none b bs (none_at is_name_char e)
  where
    none_at : (test : ℕ → Bool) → test b ≡ false → char_width test (b ∷ bs) ≡ 0
    none_at test f = unfold char_width in rw (char_ascii b bs h, f)

-- a byte of white space is one of four
white_by : (P : ℕ → Type 0) → P 0x20 → P 9 → P 0xD → P 0xA → (b : ℕ) → is_white b ≡ true → P b
white_by P p q r s b e = go (eqb b 0x20) refl (eqb b 9) refl (eqb b 0xD) refl (eqb b 0xA) refl
  where
    go : (x : Bool) → eqb b 0x20 ≡ x → (y : Bool) → eqb b 9 ≡ y → (z : Bool) → eqb b 0xD ≡ z → (u : Bool) → eqb b 0xA ≡ u → P b
    go true f y g z h u k = subst P (sym (eqb-true b 0x20 f)) p
    go false f true g z h u k = subst P (sym (eqb-true b 9 g)) q
    go false f false g true h u k = subst P (sym (eqb-true b 0xD h)) r
    go false f false g false h true k = subst P (sym (eqb-true b 0xA k)) s
    go false f false g false h false k = absurd (true≢false (sym e ∙ dark))
      where
        dark : is_white b ≡ false
        dark = unfold is_white in rw (f, g, h, k)

white_ends : (b : ℕ) (bs : List ℕ) → is_white b ≡ true → name_chars 0 (b ∷ bs) ≡ 0
unfolding is_name_char
white_ends b bs e =
    white_by (λ (c : ℕ). name_chars 0 (c ∷ bs) ≡ 0) (ends_name_lem 0x20 bs (omega arith) refl) (ends_name_lem 9 bs (omega arith) refl) (ends_name_lem 0xD bs (omega arith) refl)
    (ends_name_lem 0xA bs (omega arith) refl) b e

space_ends : {w : List ℕ} → S w → (rest : List ℕ) → name_chars 0 (w ++ rest) ≡ 0
space_ends (blank b e) rest = white_ends b rest e
space_ends (blanks b w e s) rest = white_ends b (w ++ rest) e

semicolon_ends : (bs : List ℕ) → name_chars 0 (59 ∷ bs) ≡ 0
unfolding is_name_char
semicolon_ends bs = ends_name_lem 59 bs (omega arith) refl

-- the first byte of a name, where it is ASCII, is a name start character
name_head : {n : List ℕ} → Name n → (P : List ℕ → Type 0) → ((b : ℕ) (bs : List ℕ) → (b < 0x80 → is_name_start b ≡ true) → P (b ∷ bs)) → P n
name_head (name_start c w p x) P f =
    by_size (λ (l : List ℕ). P (l ++ w)) c (λ h. f c w (λ k. p)) (λ g h. f (0xC0 + c / 64) _ (λ k. absurd (omega arith)))
    (λ g h. f (0xE0 + c / 4096) _ (λ k. absurd (omega arith))) (λ g. f (0xF0 + c / 262144) _ (λ k. absurd (omega arith)))

-- it is no byte of ASCII that is none
head_other : (b c : ℕ) → (b < 0x80 → is_name_start b ≡ true) → c < 0x80 → is_name_start c ≡ false → b ≢ c
head_other b c f h e q = true≢false (sym (f (omega arith)) ∙ ap is_name_start q ∙ e)

name_dark : {n : List ℕ} → Name n → (rest : List ℕ) → Dark (n ++ rest)
name_dark x rest = name_head x (λ (l : List ℕ). Dark (l ++ rest)) (λ b bs f. dark_byte b (bs ++ rest) (no_white b f))
  where
    no_white : (b : ℕ) → (b < 0x80 → is_name_start b ≡ true) → is_white b ≡ false
    no_white b f = go (is_white b) refl
      where
        never : (c : ℕ) → c < 0x80 → is_name_start c ≡ false → b ≡ c → ⊥
        never c h e = head_other b c f h e

        white : is_white b ≡ true → ⊥
        white e =
            white_by (λ (c : ℕ). b ≡ c → ⊥) (never 0x20 (omega arith) (unfold is_name_start in refl)) (never 9 (omega arith) (unfold is_name_start in refl))
            (never 0xD (omega arith) (unfold is_name_start in refl)) (never 0xA (omega arith) (unfold is_name_start in refl)) b e refl

        go : (v : Bool) → is_white b ≡ v → is_white b ≡ false
        go false e = e
        go true e = absurd (white e)

-- ---- references

char_ref_taken : (quote : ℕ) (more digits : List ℕ) {c : ℕ} → Without 59 more → Without quote more → char_number any_character (digits ++ more) ≡ Char c → (rest : List ℕ)
    → char_ref_from quote digits (more ++ 59 ∷ rest) ≡ read (encode c) rest
unfolding char_ref_from
char_ref_taken quote [] digits {c} a b e rest =
    ap (λ (n : CharNumber). numbered (number_answer n) rest) (sym (ap (char_number any_character) (append-nil digits)) ∙ e) ∙ answered
  where
    answered : numbered (number_answer (Char c)) rest ≡ read (encode c) rest
    answered = unfold number_answer in refl
char_ref_taken quote (d ∷ ds) digits a b e rest =
    rw (ne_eqb d 59 a.0, ne_eqb d quote b.0)
    (char_ref_taken quote ds (digits ++ d ∷ []) a.1 b.1 (ap (char_number any_character) (append_assoc digits (d ∷ []) ds) ∙ e) rest)

reference_number : (quote : ℕ) (bs : List ℕ) → reference quote (35 ∷ bs) ≡ char_ref_from quote [] bs
unfolding reference
reference_number quote bs = refl

reference_name : (quote b : ℕ) (bs : List ℕ) → b ≢ 35 → reference quote (b ∷ bs) ≡ entity_ref (b ∷ bs)
unfolding reference
reference_name quote b bs n = rw (ne_eqb b 35 n)

entity_ref_taken : {n : List ℕ} → Name n → (rest : List ℕ) → entity_ref (n ++ 59 ∷ rest) ≡ read (38 ∷ n ++ 59 ∷ []) rest
unfolding entity_ref
entity_ref_taken {n} x rest =
    ap (λ (r : Read (List ℕ)). onward r (λ n end. onward (literal (59 ∷ []) end) (λ w rest. read (38 ∷ n ++ 59 ∷ []) rest)))
    (name_taken x (59 ∷ rest) (semicolon_ends rest))
    ∙ ap (λ (r : Read (List ℕ)). onward r (λ w rest. read (38 ∷ n ++ 59 ∷ []) rest)) (literal_taken (59 ∷ []) rest)

-- a reference in a value: its bytes are next
module _ (quote : ℕ) (other : 38 ≢ quote) where
  value_amp : (v bs : List ℕ) → value_from quote v 0 (38 ∷ bs) ≡ onward (reference quote bs) (λ w rest. value_from quote (v ++ w) (length bs - length rest) bs)
  unfolding value_from
  value_amp v bs = rw (ne_eqb 38 quote other)

  value_after : (v y bs rest : List ℕ) → reference quote bs ≡ read y rest → value_from quote v 0 (38 ∷ bs) ≡ value_from quote (v ++ y) 0 rest
  value_after v y bs rest e =
      let ends : Ends bs (read y rest) = subst (Ends bs) e (reference_ends quote bs) in
      value_amp v bs ∙ ap (λ (r : Read (List ℕ)). onward r (λ w rest. value_from quote (v ++ w) (length bs - length rest) bs)) e
      ∙ value_skip quote (v ++ y) (length bs - length rest) bs ∙ ap (value_from quote (v ++ y) 0) (tail_drop ends)

  value_refers : {x y : List ℕ} → Reference quote x y → (v rest : List ℕ) → value_from quote v 0 (x ++ rest) ≡ value_from quote (v ++ y) 0 rest
  value_refers (char_ref digits c a b e) v rest =
      value_after v (encode c) (35 ∷ ((digits ++ 59 ∷ []) ++ rest)) rest
      (reference_number quote ((digits ++ 59 ∷ []) ++ rest) ∙ ap (char_ref_from quote []) (append_assoc digits (59 ∷ []) rest)
      ∙ char_ref_taken quote digits [] a b e rest)
  value_refers (entityReference n x) v rest =
      value_after v (38 ∷ n ++ 59 ∷ []) ((n ++ 59 ∷ []) ++ rest) rest
      (ap (reference quote) (append_assoc n (59 ∷ []) rest)
      ∙ name_head x (λ (l : List ℕ). reference quote (l ++ 59 ∷ rest) ≡ entity_ref (l ++ 59 ∷ rest))
      (λ b bs f. reference_name quote b (bs ++ 59 ∷ rest) (head_other b 35 f (omega arith) (unfold is_name_start in refl)))
      ∙ entity_ref_taken x rest)

  -- ---- values

  value_raw : (b : ℕ) (v bs : List ℕ) → b ≢ quote → b ≢ 37 → b ≢ 38 → value_from quote v 0 (b ∷ bs) ≡ value_from quote (v ++ b ∷ []) 0 bs
  unfolding value_from
  value_raw b v bs p q r = rw (ne_eqb b quote p, ne_eqb b 37 q, ne_eqb b 38 r)

  value_ended : (v rest : List ℕ) → length v ≤ 65535 → value_from quote v 0 (quote ∷ rest) ≡ read v rest
  unfolding value_from
  value_ended v rest h = rw (eq-eqb quote quote refl, le-ltb 65535 (length v) h)

  content_taken : {x u : List ℕ} → Content quote x u → (v rest : List ℕ) → length (v ++ u) ≤ 65535 → value_from quote v 0 (x ++ quote ∷ rest) ≡ read (v ++ u) rest
  content_taken no_content v rest h =
      value_ended v rest (subst (λ (l : List ℕ). length l ≤ 65535) (append-nil v) h) ∙ ap (λ (l : List ℕ). read l rest) (sym (append-nil v))
  content_taken (raw b x u p q r c) v rest h =
      let a = append_assoc v (b ∷ []) u in
      value_raw b v (x ++ quote ∷ rest) p q r
      ∙ content_taken c (v ++ b ∷ []) rest (subst (λ (l : List ℕ). length l ≤ 65535) (sym a) h) ∙ ap (λ (l : List ℕ). read l rest) a
  content_taken (referring x y t u r c) v rest h =
      let a = append_assoc v y u in
      ap (value_from quote v 0) (append_assoc x t (quote ∷ rest)) ∙ value_refers r v (t ++ quote ∷ rest)
      ∙ content_taken c (v ++ y) rest (subst (λ (l : List ℕ). length l ≤ 65535) (sym a) h) ∙ ap (λ (l : List ℕ). read l rest) a

value_opens : (bs : List ℕ) → (entity_value (34 ∷ bs) ≡ value_from 34 [] 0 bs) × (entity_value (39 ∷ bs) ≡ value_from 39 [] 0 bs)
unfolding entity_value
value_opens bs = (refl, refl)

entity_value_taken : {x v : List ℕ} → EntityValue x v → (rest : List ℕ) → length v ≤ 65535 → entity_value (x ++ rest) ≡ read v rest
entity_value_taken (quoted t v c) rest h =
    (value_opens ((t ++ 34 ∷ []) ++ rest)).0 ∙ ap (value_from 34 [] 0) (append_assoc t (34 ∷ []) rest) ∙ content_taken 34 (λ q. absurd (omega arith)) c [] rest h
entity_value_taken (apostrophed t v c) rest h =
    (value_opens ((t ++ 39 ∷ []) ++ rest)).1 ∙ ap (value_from 39 [] 0) (append_assoc t (39 ∷ []) rest) ∙ content_taken 39 (λ q. absurd (omega arith)) c [] rest h

value_dark : {x v : List ℕ} → EntityValue x v → (rest : List ℕ) → Dark (x ++ rest)
value_dark (quoted t v c) rest = dark_byte 34 ((t ++ 34 ∷ []) ++ rest) (unfold is_white in refl)
value_dark (apostrophed t v c) rest = dark_byte 39 ((t ++ 39 ∷ []) ++ rest) (unfold is_white in refl)

-- ---- a declaration

opening_taken : {s : List ℕ} → S s → (rest : List ℕ) → Dark rest → opening (keyword ++ (s ++ rest)) ≡ read [] rest
unfolding opening
opening_taken {s} x rest d = ap (λ (r : Read (List ℕ)). onward r (λ w end. space end)) (literal_taken keyword (s ++ rest)) ∙ space_taken x rest d

declared_taken : {n w : List ℕ} → Name n → S w → (rest : List ℕ) → Dark rest → length n ≤ 255 → declared_name (n ++ (w ++ rest)) ≡ read n rest
declared_taken {n} {w} x s rest d h = by ∙ ap (λ (r : Read (List ℕ)). onward r (λ w end. pick (ltb 255 (length n)) (exceeds (w' ++ rest)) (read n end))) (space_taken s rest d) ∙ short
  where
    w' : List ℕ
    w' = w

    by : declared_name (n ++ (w ++ rest)) ≡ onward (space (w ++ rest)) (λ v end. pick (ltb 255 (length n)) (exceeds (w ++ rest)) (read n end))
    by =
        unfold declared_name in
        ap (λ (r : Read (List ℕ)). onward r (λ n end. onward (space end) (λ w rest. pick (ltb 255 (length n)) (exceeds end) (read n rest))))
        (name_taken x (w ++ rest) (space_ends s rest))

    short : pick (ltb 255 (length n)) (exceeds (w ++ rest)) (read n rest) ≡ read n rest
    short = rw (le-ltb 255 (length n) h)

definition_taken : {x v u : List ℕ} → EntityValue x v → OptionalS u → (rest : List ℕ) → length v ≤ 65535 → definition (x ++ (u ++ 62 ∷ rest)) ≡ read v rest
unfolding definition
definition_taken {x} {v} {u} e s rest h =
    ap (λ (r : Read (List ℕ)). onward r (λ v end. onward (literal (62 ∷ []) (after_space end)) (λ w rest. read v rest))) (entity_value_taken e (u ++ 62 ∷ rest) h)
    ∙ ap (λ (l : List ℕ). onward (literal (62 ∷ []) l) (λ w rest. read v rest)) (optional_taken s (62 ∷ rest) (dark_byte 62 rest (unfold is_white in refl)))
    ∙ ap (λ (r : Read (List ℕ)). onward r (λ w rest. read v rest)) (literal_taken (62 ∷ []) rest)

-- the parts of a declaration before what follows it
spread : (s n w x u rest : List ℕ)
    → (keyword ++ (s ++ (n ++ (w ++ (x ++ (u ++ 62 ∷ [])))))) ++ rest ≡ keyword ++ (s ++ (n ++ (w ++ (x ++ (u ++ 62 ∷ rest)))))
spread s n w x u rest =
    append_assoc keyword (s ++ (n ++ (w ++ (x ++ (u ++ 62 ∷ []))))) rest
    ∙ ap (λ (l : List ℕ). keyword ++ l) (append_assoc s (n ++ (w ++ (x ++ (u ++ 62 ∷ [])))) rest)
    ∙ ap (λ (l : List ℕ). keyword ++ (s ++ l)) (append_assoc n (w ++ (x ++ (u ++ 62 ∷ []))) rest)
    ∙ ap (λ (l : List ℕ). keyword ++ (s ++ (n ++ l))) (append_assoc w (x ++ (u ++ 62 ∷ [])) rest)
    ∙ ap (λ (l : List ℕ). keyword ++ (s ++ (n ++ (w ++ l)))) (append_assoc x (u ++ 62 ∷ []) rest)
    ∙ ap (λ (l : List ℕ). keyword ++ (s ++ (n ++ (w ++ (x ++ l))))) (append_assoc u (62 ∷ []) rest)

entity_taken : {d : List ℕ} {e : Entity} → GEDecl d e → (rest : List ℕ) → SmallEntity e → entity (d ++ rest) ≡ read e rest
unfolding entity
entity_taken (declaring s n w x v u a b c y z) rest h =
    ap entity (spread s n w x u rest)
    ∙ ap (λ (r : Read (List ℕ)). onward r (λ w t1. onward (declared_name t1) (λ n t2. onward (definition t2) (λ v t3. read (record { name = n; value = v }) t3))))
    (opening_taken a (n ++ (w ++ (x ++ (u ++ 62 ∷ rest)))) (name_dark b (w ++ (x ++ (u ++ 62 ∷ rest)))))
    ∙ ap (λ (r : Read (List ℕ)). onward r (λ n t2. onward (definition t2) (λ v t3. read (record { name = n; value = v }) t3)))
    (declared_taken b c (x ++ (u ++ 62 ∷ rest)) (value_dark y (u ++ 62 ∷ rest)) (omega (arith, h.1)))
    ∙ ap (λ (r : Read (List ℕ)). onward r (λ v t3. read (record { name = n; value = v }) t3)) (definition_taken y z rest (omega (arith, h.2)))

-- ---- all of them

entity_dark : {d : List ℕ} {e : Entity} → GEDecl d e → (rest : List ℕ) → Dark (d ++ rest)
entity_dark (declaring s n w x v u a b c y z) rest = dark_byte 60 _ (unfold is_white in refl)

at_declaration : (more : List ℕ → Read (List Entity)) {d : List ℕ} {e : Entity} → GEDecl d e → (rest : List ℕ)
    → one_more more (d ++ rest) ≡ onward (entity (d ++ rest)) (λ e rest. onward (more rest) (λ es end. read (e ∷ es) end))
unfolding one_more
at_declaration more (declaring s n w x v u a b c y z) rest = refl

nothing_left_lem : (k : ℕ) → entities_at k [] ≡ read [] []
unfolding entities_at no_more one_more
nothing_left_lem zero = refl
nothing_left_lem (suc k) = refl

entities_by : (k : ℕ) (t : List ℕ) {u : List ℕ} → after_space t ≡ u → entities k t ≡ entities_at k u
unfolding entities
entities_by k t e = ap (entities_at k) e

one_step : (k : ℕ) (t : List ℕ) → entities_at (suc k) t ≡ one_more (λ rest. entities k rest) t
unfolding entities_at entities
one_step k t = refl

-- K3: each list of well-formed declarations within the limits is read, and gives just these
pub entities_taken : (k : ℕ) {t : List ℕ} {es : List Entity} → Declarations t es → Small es → length es ≤ k → entities k t ≡ read es []
entities_taken k (noDeclaration w s) h l =
    entities_by k w (ap after_space (sym (append-nil w)) ∙ optional_taken s [] (unfold after_space in refl)) ∙ nothing_left_lem k
entities_taken zero (declaration w d t e es s g x) h l = absurd (omega arith)
entities_taken (suc k) (declaration w d t e es s g x) h l =
    entities_by (suc k) (w ++ (d ++ t)) (optional_taken s (d ++ t) (entity_dark g t))
    ∙ one_step k (d ++ t) ∙ at_declaration (λ rest. entities k rest) g t
    ∙ ap (λ (r : Read Entity). onward r (λ e rest. onward (entities k rest) (λ es end. read (e ∷ es) end))) (entity_taken g t h.0)
    ∙ ap (λ (r : Read (List Entity)). onward r (λ es end. read (e ∷ es) end)) (entities_taken k x h.1 (omega arith))
