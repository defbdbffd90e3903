-- What is read from UTF-8 is UTF-8: names and values are whole characters (`good_read`), so that what is written for a text passes the check of a
-- table (`read_valid`). Assumes nothing.
use mathlib.Core.Path.{◌≡◌, refl, sym, ap, ◌∙◌, subst}
use mathlib.Core.Bool.{Bool, true, false, true≢false, ◌||◌}
use mathlib.Core.List.{List, [], ◌∷◌, ◌++◌}
use Prim.Native.Nat.{ℕ, zero, suc, ◌-◌, ◌≤◌, ◌<◌}
use native.Mathlib.Omega.{arith}
use lib.Dec.{eqb, leb, ltb}
use lib.ListN.{length, take, drop}
use borrow.Author.Tests.{eqb-true, ne_eqb, leb-true, leb-false}
use Rattle.text.specs.Bytes.{pick}
use Rattle.text.specs.Version.{Rule}
use Rattle.text.specs.Utf8.{State, between, next, after, WellFormed}
use Rattle.text.proofs.Bytes.{pick_by, and_left, and_right}
use Rattle.text.proofs.Utf8.{after_append, append_well_formed, ascii_well_formed, all_ascii, next_ascii, settled, split_ascii}
use Rattle.text.specs.Answers.{Answer}
use Rattle.text.specs.Answers.{Done, Refused}
use Rattle.charref.specs.CharRef.{char_number, any_character, number_answer}
use Rattle.eols.specs.LineEnds.{eols}
use Rattle.eols.proofs.Normal.{eols_well_formed}
use Rattle.entity.specs.Table.{ValidTable}
use Rattle.table_grammar.specs.EntityValue.{is_white, Read, read, departs, exceeds, refused, onward, literal, after_space, space, name, name_of, numbered, char_ref_from, entity_ref, reference, value_from, entity_value}
use Rattle.table_names.specs.NameChars.{name_length}
use Rattle.table_grammar.specs.EntityDecl.{keyword, opening, declared_name, definition, Entity, entity, no_more, one_more, entities_at, entities}
use Rattle.table_grammar.specs.TableWritten.{list_of, pool_of, most}
use Rattle.table_grammar.proofs.ReferenceEnds.{Ends, tail_drop, reference_ends}
use Rattle.table_grammar.proofs.NumberAnswers.{encode_good}
use Rattle.table_grammar.proofs.SmallEntities.{Small, small_read, small_fits}
use Rattle.table_grammar.proofs.ValidTables.{Good, written_valid}

-- what a reader gives has a property, and what it leaves is whole characters
abbrev Well : {A : Type 0} → (A → Type 0) → Read A → Type 0
Well P (read a rest) = P a × WellFormed rest
Well P (departs rest) = Unit {0}
Well P (exceeds rest) = Unit {0}
Well P (refused number first) = Unit {0}

well_onward : {A B : Type 0} (P : A → Type 0) (Q : B → Type 0) (r : Read A) (more : A → List ℕ → Read B) → Well P r
    → ((a : A) (rest : List ℕ) → P a → WellFormed rest → Well Q (more a rest)) → Well Q (onward r more)
well_onward P Q (read a rest) more p f = f a rest p.0 p.1
well_onward P Q (departs rest) more p f = tt
well_onward P Q (exceeds rest) more p f = tt
well_onward P Q (refused number first) more p f = tt

abbrev Any : List ℕ → Type 0
Any l = Unit {0}

-- ---- an ASCII byte stands between characters

ascii_rest : (s : State) (b : ℕ) (bs : List ℕ) → leb b 0x7F ≡ true → after s (b ∷ bs) ≡ between → (s ≡ between) × (after between bs ≡ between)
ascii_rest s b bs e w =
    let z : after (next s b) bs ≡ between = unfold after in w in
    settled s bs (ap (λ (x : State). after x bs) (sym (next_ascii s b e)) ∙ z)

rest_well : (b : ℕ) (bs : List ℕ) → leb b 0x7F ≡ true → WellFormed (b ∷ bs) → WellFormed bs
unfolding WellFormed
rest_well b bs e w = (ascii_rest between b bs e w).1

literal_well : (cs t : List ℕ) → all_ascii cs ≡ true → WellFormed t → Well Any (literal cs t)
unfolding literal
literal_well [] t e w = (tt, w)
literal_well (c ∷ cs) [] e w = tt
literal_well (c ∷ cs) (b ∷ bs) e w =
    pick_by (Well Any) (eqb b c) {b = departs (b ∷ bs)}
    (λ f. literal_well cs bs (and_right (leb c 0x7F) (all_ascii cs) e) (rest_well b bs (ap (λ (x : ℕ). leb x 0x7F) (eqb-true b c f) ∙ and_left (leb c 0x7F) (all_ascii cs) e) w)) (λ f. tt)

white_ascii : (b : ℕ) → is_white b ≡ true → leb b 0x7F ≡ true
white_ascii b e = go (leb b 0x7F) refl
  where
    dark : 0x7F < b → is_white b ≡ false
    dark h = unfold is_white in rw (ne_eqb b 0x20 (λ q. omega arith), ne_eqb b 9 (λ q. omega arith), ne_eqb b 0xD (λ q. omega arith), ne_eqb b 0xA (λ q. omega arith))

    go : (x : Bool) → leb b 0x7F ≡ x → leb b 0x7F ≡ true
    go true f = f
    go false f = absurd (true≢false (sym e ∙ dark (leb-false b 0x7F f)))

after_space_well : (t : List ℕ) → WellFormed t → WellFormed (after_space t)
unfolding after_space
after_space_well [] w = w
after_space_well (b ∷ bs) w = pick_by WellFormed (is_white b) {b = b ∷ bs} (λ e. after_space_well bs (rest_well b bs (white_ascii b e) w)) (λ e. w)

space_well : (t : List ℕ) → WellFormed t → Well Any (space t)
unfolding space
space_well [] w = tt
space_well (b ∷ bs) w = pick_by (Well Any) (is_white b) {a = read [] (after_space bs)} {b = departs (b ∷ bs)} (λ e. (tt, after_space_well bs (rest_well b bs (white_ascii b e) w))) (λ e. tt)

-- ---- names: the byte after one is ASCII

pub take_append_drop : (n : ℕ) (t : List ℕ) → take n t ++ drop n t ≡ t
take_append_drop zero t = refl
take_append_drop (suc n) [] = refl
take_append_drop (suc n) (b ∷ bs) = ap (λ (l : List ℕ). b ∷ l) (take_append_drop n bs)

abbrev spaced : List ℕ → List ℕ → Read (List ℕ)
spaced n end = onward (space end) (λ w rest. pick (ltb 255 (length n)) (exceeds end) (read n rest))

name_spaced : (n end : List ℕ) → WellFormed (n ++ end) → Well WellFormed (spaced n end)
unfolding space
name_spaced n [] w = tt
name_spaced n (c ∷ cs) w =
    pick_by (λ (r : Read (List ℕ)). Well WellFormed (onward r (λ w rest. pick (ltb 255 (length n)) (exceeds (c ∷ cs)) (read n rest)))) (is_white c) {a = read [] (after_space cs)} {b = departs (c ∷ cs)}
    (λ e. let z = split_ascii n cs c (low c (white_ascii c e)) w in
    pick_by (Well WellFormed) (ltb 255 (length n)) {a = exceeds (c ∷ cs)} {b = read n (after_space cs)} (λ f. tt) (λ f. (z.0, after_space_well cs z.1))) (λ e. tt)
  where
    low : (c : ℕ) → leb c 0x7F ≡ true → c < 0x80
    low c e = let z = leb-true c 0x7F e in omega arith

declared_well : (t : List ℕ) → WellFormed t → Well WellFormed (declared_name t)
unfolding declared_name name
declared_well t w = go (name_length t)
  where
    go : (n : ℕ) → Well WellFormed (onward (name_of n t) (λ n end. onward (space end) (λ w rest. pick (ltb 255 (length n)) (exceeds end) (read n rest))))
    go zero = tt
    go (suc n) = name_spaced (take (suc n) t) (drop (suc n) t) (subst WellFormed (sym (take_append_drop (suc n) t)) w)

name_closed : (n end : List ℕ) → WellFormed (n ++ end) → Well WellFormed (onward (literal (59 ∷ []) end) (λ w rest. read (38 ∷ n ++ 59 ∷ []) rest))
unfolding literal
name_closed n [] w = tt
name_closed n (c ∷ cs) w =
    pick_by (λ (r : Read (List ℕ)). Well WellFormed (onward r (λ w rest. read (38 ∷ n ++ 59 ∷ []) rest))) (eqb c 59) {a = read [] cs} {b = departs (c ∷ cs)}
    (λ e. let q = eqb-true c 59 e in
    let z = split_ascii n cs c (omega arith) w in
    (append_well_formed (38 ∷ []) (n ++ 59 ∷ []) (ascii_well_formed (38 ∷ []) refl) (append_well_formed n (59 ∷ []) z.0 (ascii_well_formed (59 ∷ []) refl)), z.1)) (λ e. tt)

entity_ref_well : (t : List ℕ) → WellFormed t → Well WellFormed (entity_ref t)
unfolding entity_ref name
entity_ref_well t w = go (name_length t)
  where
    go : (n : ℕ) → Well WellFormed (onward (name_of n t) (λ n end. onward (literal (59 ∷ []) end) (λ w rest. read (38 ∷ n ++ 59 ∷ []) rest)))
    go zero = tt
    go (suc n) = name_closed (take (suc n) t) (drop (suc n) t) (subst WellFormed (sym (take_append_drop (suc n) t)) w)

-- ---- character references

numbered_well : (digits : List ℕ) (a : Answer) (t : List ℕ) → a ≡ number_answer (char_number any_character digits) → WellFormed t → Well WellFormed (numbered a t)
numbered_well digits (Done c second) t e w = (encode_good digits (Done c second) e refl, w)
numbered_well digits (Refused number first second) t e w = tt

char_ref_well : (quote : ℕ) (t digits : List ℕ) (s : State) → after s t ≡ between → Well WellFormed (char_ref_from quote digits t)
unfolding char_ref_from
char_ref_well quote [] digits s w = tt
char_ref_well quote (b ∷ bs) digits s w =
    pick_by (Well WellFormed) (eqb b 59)
    (λ e. numbered_well digits (number_answer (char_number any_character digits)) bs refl (unfold WellFormed in (ascii_rest s b bs (ap (λ (x : ℕ). leb x 0x7F) (eqb-true b 59 e)) w).1)) λ e.
    pick_by (Well WellFormed) (eqb b quote) {a = departs (b ∷ bs)} (λ f. tt) (λ f. char_ref_well quote bs (digits ++ b ∷ []) (next s b) (unfold after in w))

reference_well : (quote : ℕ) (t : List ℕ) → WellFormed t → Well WellFormed (reference quote t)
unfolding reference
reference_well quote [] w = entity_ref_well [] w
reference_well quote (b ∷ bs) w =
    pick_by (Well WellFormed) (eqb b 35)
    (λ e. char_ref_well quote bs [] between (unfold WellFormed in rest_well b bs (ap (λ (x : ℕ). leb x 0x7F) (eqb-true b 35 e)) w)) (λ e. entity_ref_well (b ∷ bs) w)

-- ---- values

-- the value so far leaves a reader where the rest takes it up
value_well : (quote : ℕ) → leb quote 0x7F ≡ true → (t v : List ℕ) (skip : ℕ) (s : State) → after between v ≡ s → after s (drop skip t) ≡ between → Well WellFormed (value_from quote v skip t)
unfolding value_from
value_well quote a [] v skip s e w = tt
value_well quote a (b ∷ bs) v (suc skip) s e w = value_well quote a bs v skip s e w
value_well quote a (b ∷ bs) v zero s e w =
    pick_by (Well WellFormed) (eqb b quote)
    (λ f. let z = ascii_rest s b bs (ap (λ (x : ℕ). leb x 0x7F) (eqb-true b quote f) ∙ a) w in
    pick_by (Well WellFormed) (ltb 65535 (length v)) {a = exceeds (b ∷ bs)} {b = read v bs} (λ g. tt) (λ g. (well v (e ∙ z.0), well bs z.1))) λ f.
    pick_by (Well WellFormed) (eqb b 37) {a = departs (b ∷ bs)} (λ g. tt) λ g.
    pick_by (Well WellFormed) (eqb b 38)
    (λ h. let z = ascii_rest s b bs (ap (λ (x : ℕ). leb x 0x7F) (eqb-true b 38 h)) w in
    again (reference quote bs) (e ∙ z.0) (reference_well quote bs (well bs z.1)) (reference_ends quote bs)
    (λ u skip p q. value_well quote a bs u skip between p q))
    (λ h. value_well quote a bs (v ++ b ∷ []) zero (next s b) (after_append between v (b ∷ []) ∙ ap (λ (x : State). after x (b ∷ [])) e ∙ (unfold after in refl)) (unfold after in w))
  where
    well : (l : List ℕ) → after between l ≡ between → WellFormed l
    well l e = unfold WellFormed in e

    plain : (l : List ℕ) → WellFormed l → after between l ≡ between
    plain l e = unfold WellFormed in e

    again : (r : Read (List ℕ)) → after between v ≡ between → Well WellFormed r → Ends bs r
        → ((u : List ℕ) (skip : ℕ) → after between u ≡ between → after between (drop skip bs) ≡ between → Well WellFormed (value_from quote u skip bs))
        → Well WellFormed (onward r (λ w rest. value_from quote (v ++ w) (length bs - length rest) bs))
    again (read w rest) e p q ih = ih (v ++ w) (length bs - length rest) (plain (v ++ w) (append_well_formed v w (well v e) p.0)) (ap (after between) (tail_drop q) ∙ plain rest p.1)
    again (departs rest) e p q ih = tt
    again (exceeds rest) e p q ih = tt
    again (refused number first) e p q ih = tt

entity_value_well : (t : List ℕ) → WellFormed t → Well WellFormed (entity_value t)
unfolding entity_value
entity_value_well [] w = tt
entity_value_well (b ∷ bs) w =
    pick_by (Well WellFormed) (eqb b 34 || eqb b 39) {b = departs (b ∷ bs)} (λ e. go (quoted (eqb b 34) refl e)) (λ e. tt)
  where
    quoted : (x : Bool) → eqb b 34 ≡ x → x || eqb b 39 ≡ true → leb b 0x7F ≡ true
    quoted true f e = ap (λ (x : ℕ). leb x 0x7F) (eqb-true b 34 f)
    quoted false f e = ap (λ (x : ℕ). leb x 0x7F) (eqb-true b 39 e)

    nothing : after between [] ≡ between
    nothing = unfold after in refl

    rest : leb b 0x7F ≡ true → after between bs ≡ between
    rest a = unfold WellFormed in rest_well b bs a w

    go : leb b 0x7F ≡ true → Well WellFormed (value_from b [] 0 bs)
    go a = value_well b a bs [] 0 between nothing (rest a)

definition_well : (t : List ℕ) → WellFormed t → Well WellFormed (definition t)
unfolding definition
definition_well t w =
    well_onward WellFormed WellFormed (entity_value t) (λ v end. onward (literal (62 ∷ []) (after_space end)) (λ w rest. read v rest)) (entity_value_well t w) λ v end p u.
    well_onward Any WellFormed (literal (62 ∷ []) (after_space end)) (λ w rest. read v rest) (literal_well (62 ∷ []) (after_space end) refl (after_space_well end u)) (λ x rest q z. (p, z))

-- ---- entities

abbrev GoodEntity : Entity → Type 0
GoodEntity e = WellFormed e.name × WellFormed e.value

opening_well : (t : List ℕ) → WellFormed t → Well Any (opening t)
unfolding opening
opening_well t w = well_onward Any Any (literal keyword t) (λ w rest. space rest) (literal_well keyword t refl w) (λ x rest p u. space_well rest u)

entity_well : (t : List ℕ) → WellFormed t → Well GoodEntity (entity t)
unfolding entity
entity_well t w =
    well_onward Any GoodEntity (opening t) (λ w t1. onward (declared_name t1) (λ n t2. onward (definition t2) (λ v t3. read (record { name = n; value = v }) t3))) (opening_well t w) λ x t1 p u.
    well_onward WellFormed GoodEntity (declared_name t1) (λ n t2. onward (definition t2) (λ v t3. read (record { name = n; value = v }) t3)) (declared_well t1 u) λ n t2 q y.
    well_onward WellFormed GoodEntity (definition t2) (λ v t3. read (record { name = n; value = v }) t3) (definition_well t2 y) (λ v t3 r z. ((q, r), z))

abbrev AllGood : List Entity → Type 0
AllGood [] = Unit {0}
AllGood (e ∷ es) = GoodEntity e × AllGood es

abbrev GoodList : Read (List Entity) → Type 0
GoodList (read es rest) = AllGood es
GoodList (departs rest) = Unit {0}
GoodList (exceeds rest) = Unit {0}
GoodList (refused number first) = Unit {0}

list_onward : (e : Entity) (r : Read (List Entity)) → GoodEntity e → GoodList r → GoodList (onward r (λ es end. read (e ∷ es) end))
list_onward e (read es rest) p q = (p, q)
list_onward e (departs rest) p q = tt
list_onward e (exceeds rest) p q = tt
list_onward e (refused number first) p q = tt

entity_onward : (r : Read Entity) (more : Entity → List ℕ → Read (List Entity)) → Well GoodEntity r
    → ((e : Entity) (rest : List ℕ) → GoodEntity e → WellFormed rest → GoodList (more e rest)) → GoodList (onward r more)
entity_onward (read e rest) more p f = f e rest p.0 p.1
entity_onward (departs rest) more p f = tt
entity_onward (exceeds rest) more p f = tt
entity_onward (refused number first) more p f = tt

no_more_good : (t : List ℕ) → GoodList (no_more t)
unfolding no_more
no_more_good [] = tt
no_more_good (b ∷ bs) = pick_by GoodList (eqb b 60) {a = exceeds (b ∷ bs)} {b = departs (b ∷ bs)} (λ e. tt) (λ e. tt)

one_more_good : (more : List ℕ → Read (List Entity)) → ((t : List ℕ) → WellFormed t → GoodList (more t)) → (t : List ℕ) → WellFormed t → GoodList (one_more more t)
unfolding one_more
one_more_good more f [] w = tt
one_more_good more f (b ∷ bs) w =
    entity_onward (entity (b ∷ bs)) (λ e rest. onward (more rest) (λ es end. read (e ∷ es) end)) (entity_well (b ∷ bs) w) (λ e rest p u. list_onward e (more rest) p (f rest u))

entities_good : (k : ℕ) (t : List ℕ) → WellFormed t → GoodList (entities_at k t)
unfolding entities_at
entities_good zero t w = no_more_good t
entities_good (suc k) t w = one_more_good (λ rest. entities_at k (after_space rest)) (λ u v. entities_good k (after_space u) (after_space_well u v)) t w

good_all : (es : List Entity) → AllGood es → Small es → Good es
good_all [] g s = tt
good_all (e ∷ es) g s = (s.0.0, g.0.0, g.0.1, good_all es g.1 s.1)

pub good_read : (t end : List ℕ) (es : List Entity) → WellFormed t → entities most t ≡ read es end → Good es
good_read t end es w e =
    let g : AllGood es = rw e at (given t w) in
    good_all es g (small_read t end es e).1
  where
    given : (t : List ℕ) → WellFormed t → GoodList (entities most t)
    given t w = unfold entities in entities_good most (after_space t) (after_space_well t w)

-- K3: what is written for a text passes the check of a table
pub read_valid : (r : Rule) (t end : List ℕ) (es : List Entity) → WellFormed t → entities most (eols r t) ≡ read es end → length (pool_of es) ≤ 1048576 → ValidTable (list_of es) (pool_of es)
read_valid r t end es w e short =
    let s = small_read (eols r t) end es e in
    written_valid es (small_fits es s.1 0 (omega arith)) (good_read (eols r t) end es (eols_well_formed r t w) e) s.0 short
