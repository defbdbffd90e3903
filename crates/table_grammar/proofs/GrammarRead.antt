-- What is read is a text of declarations of the standard, by the production of each reader (`entities_written`). Assumes nothing.
use mathlib.Core.Path.{◌≡◌, refl, sym, ap, subst, ◌∙◌}
use mathlib.Core.Bool.{Bool, true, false, ◌||◌}
use mathlib.Core.List.{List, [], ◌∷◌, ◌++◌, append_assoc, append-nil}
use Prim.Native.Nat.{ℕ, zero, suc, ◌-◌}
use native.Mathlib.Omega.{arith}
use lib.Dec.{eqb, ltb}
use lib.ListN.{length, take, drop, length-append}
use lib.Seq.{drop-append_seam}
use borrow.Author.Tests.{eqb-true, eqb-false}
use Rattle.text.specs.Bytes.{pick}
use Rattle.text.proofs.Bytes.{pick_by}
use Rattle.charref.specs.CharRef.{char_number, any_character, number_answer, encode}
use Rattle.charref.specs.CharNumbers.{CharNumber}
use Rattle.charref.specs.CharNumbers.{Char, UnexpectedSign, InvalidNumber, InvalidCodepoint, IllegalCharacter, Forbidden}
use Rattle.table_names.specs.NameChars.{name_length}
use Rattle.table_grammar.specs.EntityValue.{Read, read, departs, exceeds, refused, onward, literal, is_white, after_space, space, name, name_of, numbered, char_ref_from, entity_ref, reference, value_from, entity_value}
use Rattle.table_grammar.specs.EntityDecl.{keyword, opening, declared_name, definition, Entity, entity, no_more, one_more, entities_at, entities}
use Rattle.table_grammar.specs.Productions.{S, blank, blanks, OptionalS, no_s, an_s, Name, Without, Reference, char_ref, entity_ref as entityReference, Content, no_content, raw, referring, EntityValue, quoted, apostrophed, GEDecl, declaring, Declarations, no_more as noDeclaration, declaration}
use Rattle.table_grammar.proofs.GoodEntities.{take_append_drop}
use Rattle.table_grammar.proofs.NameSpelled.{name_spelled}

-- ---- what a reader took is the front of the text

record Front (A : Type 0) (P : List ℕ → A → Type 0) (t : List ℕ) (a : A) (rest : List ℕ) : Type 0 where
  front : List ℕ
  is : t ≡ front ++ rest
  holds : P front a

-- what is read has a property, together with the text that it took
abbrev Takes : (A : Type 0) → (List ℕ → A → Type 0) → List ℕ → Read A → Type 0
Takes A P t (read a rest) = Front A P t a rest
Takes A P t (departs rest) = Unit {0}
Takes A P t (exceeds rest) = Unit {0}
Takes A P t (refused number first) = Unit {0}

-- the same behind a front
takes_later : (A : Type 0) (P : List ℕ → A → Type 0) (t front rest : List ℕ) → t ≡ front ++ rest → (r : Read A) → Takes A (λ (x : List ℕ) (a : A). P (front ++ x) a) rest r → Takes A P t r
takes_later A P t front rest e (read a end) x =
    record { front = front ++ x.front; is = e ∙ ap (λ (l : List ℕ). front ++ l) x.is ∙ sym (append_assoc front x.front end); holds = x.holds }
takes_later A P t front rest e (departs end) x = tt
takes_later A P t front rest e (exceeds end) x = tt
takes_later A P t front rest e (refused number first) x = tt

takes_weaker : (A : Type 0) (P Q : List ℕ → A → Type 0) (t : List ℕ) → ((x : List ℕ) (a : A) → P x a → Q x a) → (r : Read A) → Takes A P t r → Takes A Q t r
takes_weaker A P Q t f (read a end) x = record { front = x.front; is = x.is; holds = f x.front a x.holds }
takes_weaker A P Q t f (departs end) x = tt
takes_weaker A P Q t f (exceeds end) x = tt
takes_weaker A P Q t f (refused number first) x = tt

-- one reader, and then another
takes_onward : (A B : Type 0) (P : List ℕ → A → Type 0) (Q : List ℕ → B → Type 0) (t : List ℕ) (r : Read A) (more : A → List ℕ → Read B) → Takes A P t r
    → ((x : List ℕ) (a : A) (rest : List ℕ) → P x a → Takes B (λ (y : List ℕ) (b : B). Q (x ++ y) b) rest (more a rest)) → Takes B Q t (onward r more)
takes_onward A B P Q t (read a rest) more x f = takes_later B Q t x.front rest x.is (more a rest) (f x.front a rest x.holds)
takes_onward A B P Q t (departs rest) more x f = tt
takes_onward A B P Q t (exceeds rest) more x f = tt
takes_onward A B P Q t (refused number first) more x f = tt

-- nothing more is taken
takes_end : (A : Type 0) (Q : List ℕ → A → Type 0) (x : List ℕ) (a : A) (rest : List ℕ) → Q x a → Takes A (λ (y : List ℕ) (b : A). Q (x ++ y) b) rest (read a rest)
takes_end A Q x a rest h = record { front = []; is = refl; holds = subst (λ (l : List ℕ). Q l a) (sym (append-nil x)) h }

-- ---- bytes, white space, names

literal_takes : (cs t : List ℕ) → Takes (List ℕ) (λ (x v : List ℕ). x ≡ cs) t (literal cs t)
unfolding literal
literal_takes [] t = record { front = []; is = refl; holds = refl }
literal_takes (c ∷ cs) [] = tt
literal_takes (c ∷ cs) (b ∷ bs) =
    pick_by (Takes (List ℕ) (λ (x v : List ℕ). x ≡ c ∷ cs) (b ∷ bs)) (eqb b c) {b = departs (b ∷ bs)}
    (λ e. takes_later (List ℕ) (λ (x v : List ℕ). x ≡ c ∷ cs) (b ∷ bs) (b ∷ []) bs refl (literal cs bs)
    (takes_weaker (List ℕ) (λ (x v : List ℕ). x ≡ cs) (λ (x v : List ℕ). (b ∷ []) ++ x ≡ c ∷ cs) bs
    (λ x a q. ap (λ (l : List ℕ). b ∷ l) q ∙ ap (λ (k : ℕ). k ∷ cs) (eqb-true b c e)) (literal cs bs) (literal_takes cs bs))) (λ e. tt)

more_space : (b : ℕ) {w : List ℕ} → is_white b ≡ true → OptionalS w → S (b ∷ w)
more_space b e no_s = blank b e
more_space b e (an_s w s) = blanks b w e s

-- S? at the head
record Blank (t rest : List ℕ) : Type 0 where
  front : List ℕ
  is : t ≡ front ++ rest
  white : OptionalS front

after_space_lem : (t : List ℕ) → Blank t (after_space t)
unfolding after_space
after_space_lem [] = record { front = []; is = refl; white = no_s }
after_space_lem (b ∷ bs) =
    pick_by (Blank (b ∷ bs)) (is_white b) {a = after_space bs} {b = b ∷ bs}
    (λ e. let x = after_space_lem bs in
    record { front = b ∷ x.front; is = ap (λ (l : List ℕ). b ∷ l) x.is; white = an_s (b ∷ x.front) (more_space b e x.white) })
    (λ e. record { front = []; is = refl; white = no_s })

space_takes : (t : List ℕ) → Takes (List ℕ) (λ (x v : List ℕ). S x) t (space t)
unfolding space
space_takes [] = tt
space_takes (b ∷ bs) =
    pick_by (Takes (List ℕ) (λ (x v : List ℕ). S x) (b ∷ bs)) (is_white b) {a = read [] (after_space bs)} {b = departs (b ∷ bs)}
    (λ e. let x = after_space_lem bs in record { front = b ∷ x.front; is = ap (λ (l : List ℕ). b ∷ l) x.is; holds = more_space b e x.white }) (λ e. tt)

record Named (x n : List ℕ) : Type 0 where
  same : x ≡ n
  named : Name n

name_takes : (t : List ℕ) → Takes (List ℕ) Named t (name t)
unfolding name
name_takes t = go (name_length t) refl
  where
    go : (n : ℕ) → name_length t ≡ n → Takes (List ℕ) Named t (name_of n t)
    go zero e = tt
    go (suc n) e = record { front = take (suc n) t; is = sym (take_append_drop (suc n) t); holds = record { same = refl; named = name_spelled t n e } }

-- ---- references

record Numbered (quote : ℕ) (digits x v : List ℕ) : Type 0 where
  more : List ℕ
  is : x ≡ more ++ 59 ∷ []
  ended : Without 59 more
  inside : Without quote more
  number : ℕ
  passes : char_number any_character (digits ++ more) ≡ Char number
  value : v ≡ encode number

numbered_takes : (quote : ℕ) (digits bs : List ℕ) (n : CharNumber) → char_number any_character digits ≡ n → Takes (List ℕ) (Numbered quote digits) (59 ∷ bs) (numbered (number_answer n) bs)
unfolding number_answer
numbered_takes quote digits bs (Char c) e =
    record {
      front = 59 ∷ [];
      is = refl;
      holds =
          record { more = []; is = refl; ended = tt; inside = tt; number = c; passes = ap (char_number any_character) (append-nil digits) ∙ e; value = refl };
    }
numbered_takes quote digits bs UnexpectedSign e = tt
numbered_takes quote digits bs InvalidNumber e = tt
numbered_takes quote digits bs (InvalidCodepoint k) e = tt
numbered_takes quote digits bs IllegalCharacter e = tt
numbered_takes quote digits bs Forbidden e = tt

char_ref_takes : (quote : ℕ) (t digits : List ℕ) → Takes (List ℕ) (Numbered quote digits) t (char_ref_from quote digits t)
unfolding char_ref_from
char_ref_takes quote [] digits = tt
char_ref_takes quote (b ∷ bs) digits =
    pick_by (Takes (List ℕ) (Numbered quote digits) (b ∷ bs)) (eqb b 59)
    (λ e. subst (λ (c : ℕ). Takes (List ℕ) (Numbered quote digits) (c ∷ bs) (numbered (number_answer (char_number any_character digits)) bs)) (sym (eqb-true b 59 e))
    (numbered_takes quote digits bs (char_number any_character digits) refl)) λ e.
    pick_by (Takes (List ℕ) (Numbered quote digits) (b ∷ bs)) (eqb b quote) {a = departs (b ∷ bs)} (λ f. tt) λ f.
    takes_later (List ℕ) (Numbered quote digits) (b ∷ bs) (b ∷ []) bs refl (char_ref_from quote (digits ++ b ∷ []) bs)
    (takes_weaker (List ℕ) (Numbered quote (digits ++ b ∷ [])) (λ (x v : List ℕ). Numbered quote digits (b ∷ x) v) bs
    (λ x v q.
    record {
      more = b ∷ q.more;
      is = ap (λ (l : List ℕ). b ∷ l) q.is;
      ended = (eqb-false b 59 e, q.ended);
      inside = (eqb-false b quote f, q.inside);
      number = q.number;
      passes = ap (char_number any_character) (sym (append_assoc digits (b ∷ []) q.more)) ∙ q.passes;
      value = q.value;
    })
    (char_ref_from quote (digits ++ b ∷ []) bs) (char_ref_takes quote bs (digits ++ b ∷ [])))

-- a reference, after its `&`
abbrev Refers : ℕ → List ℕ → List ℕ → Type 0
Refers quote x v = Reference quote (38 ∷ x) v

entity_ref_takes : (quote : ℕ) (t : List ℕ) → Takes (List ℕ) (Refers quote) t (entity_ref t)
unfolding entity_ref
entity_ref_takes quote t =
    takes_onward (List ℕ) (List ℕ) Named (Refers quote) t (name t) (λ n end. onward (literal (59 ∷ []) end) (λ w rest. read (38 ∷ n ++ 59 ∷ []) rest)) (name_takes t)
    λ x n end p.
    takes_onward (List ℕ) (List ℕ) (λ (y v : List ℕ). y ≡ 59 ∷ []) (λ (y v : List ℕ). Refers quote (x ++ y) v) end (literal (59 ∷ []) end)
    (λ w rest. read (38 ∷ n ++ 59 ∷ []) rest) (literal_takes (59 ∷ []) end) λ y w rest q.
    takes_end (List ℕ) (λ (z v : List ℕ). Refers quote (x ++ z) v) y (38 ∷ n ++ 59 ∷ []) rest
    (subst (λ (l : List ℕ). Reference quote (38 ∷ l) (38 ∷ n ++ 59 ∷ [])) (sym (ap (λ (l : List ℕ). l ++ y) p.same ∙ ap (λ (l : List ℕ). n ++ l) q))
    (entityReference n p.named))

reference_takes : (quote : ℕ) (t : List ℕ) → Takes (List ℕ) (Refers quote) t (reference quote t)
unfolding reference
reference_takes quote [] = entity_ref_takes quote []
reference_takes quote (b ∷ bs) =
    pick_by (Takes (List ℕ) (Refers quote) (b ∷ bs)) (eqb b 35)
    (λ e. takes_later (List ℕ) (Refers quote) (b ∷ bs) (b ∷ []) bs refl (char_ref_from quote [] bs)
    (takes_weaker (List ℕ) (Numbered quote []) (λ (x v : List ℕ). Refers quote (b ∷ x) v) bs
    (λ x v q.
    subst (λ (l : List ℕ). Reference quote (38 ∷ l) v) (sym (ap (λ (l : List ℕ). b ∷ l) q.is ∙ ap (λ (k : ℕ). k ∷ (q.more ++ 59 ∷ [])) (eqb-true b 35 e)))
    (subst (Reference quote (38 ∷ 35 ∷ q.more ++ 59 ∷ [])) (sym q.value) (char_ref q.more q.number q.ended q.inside q.passes)))
    (char_ref_from quote [] bs) (char_ref_takes quote bs []))) (λ e. entity_ref_takes quote (b ∷ bs))

-- ---- values

record Valued (quote : ℕ) (v x u : List ℕ) : Type 0 where
  inner : List ℕ
  more : List ℕ
  is : x ≡ inner ++ quote ∷ []
  content : Content quote inner more
  value : u ≡ v ++ more

front_drop : (t front rest : List ℕ) → t ≡ front ++ rest → drop (length t - length rest) t ≡ rest
front_drop t front rest e =
    let n : length t - length rest ≡ length front = omega (arith, ap length e, length-append front rest) in
    ap (λ (k : ℕ). drop k t) n ∙ ap (drop (length front)) e ∙ drop-append_seam front rest

value_takes : (quote : ℕ) (t v : List ℕ) (skip : ℕ) → Takes (List ℕ) (Valued quote v) (drop skip t) (value_from quote v skip t)
unfolding value_from
value_takes quote [] v skip = tt
value_takes quote (b ∷ bs) v (suc skip) = value_takes quote bs v skip
value_takes quote (b ∷ bs) v zero =
    pick_by (Takes (List ℕ) (Valued quote v) (b ∷ bs)) (eqb b quote)
    (λ e. pick_by (Takes (List ℕ) (Valued quote v) (b ∷ bs)) (ltb 65535 (length v)) {a = exceeds (b ∷ bs)} {b = read v bs} (λ f. tt)
    (λ f.
    record {
      front = b ∷ [];
      is = refl;
      holds = record { inner = []; more = []; is = ap (λ (k : ℕ). k ∷ []) (eqb-true b quote e); content = no_content; value = sym (append-nil v) };
    })) λ e.
    pick_by (Takes (List ℕ) (Valued quote v) (b ∷ bs)) (eqb b 37) {a = departs (b ∷ bs)} (λ f. tt) λ f.
    pick_by (Takes (List ℕ) (Valued quote v) (b ∷ bs)) (eqb b 38)
    (λ g. refer (eqb-true b 38 g) (reference quote bs) (reference_takes quote bs) (λ u skip. value_takes quote bs u skip))
    (λ g. takes_later (List ℕ) (Valued quote v) (b ∷ bs) (b ∷ []) bs refl (value_from quote (v ++ b ∷ []) zero bs)
    (takes_weaker (List ℕ) (Valued quote (v ++ b ∷ [])) (λ (x u : List ℕ). Valued quote v (b ∷ x) u) bs
    (λ x u q.
    record {
      inner = b ∷ q.inner;
      more = b ∷ q.more;
      is = ap (λ (l : List ℕ). b ∷ l) q.is;
      content = raw b q.inner q.more (eqb-false b quote e) (eqb-false b 37 f) (eqb-false b 38 g) q.content;
      value = q.value ∙ append_assoc v (b ∷ []) q.more;
    })
    (value_from quote (v ++ b ∷ []) zero bs) (value_takes quote bs (v ++ b ∷ []) zero)))
  where
    -- after a reference
    refer : b ≡ 38 → (r : Read (List ℕ)) → Takes (List ℕ) (Refers quote) bs r
        → ((u : List ℕ) (skip : ℕ) → Takes (List ℕ) (Valued quote u) (drop skip bs) (value_from quote u skip bs))
        → Takes (List ℕ) (Valued quote v) (b ∷ bs) (onward r (λ w rest. value_from quote (v ++ w) (length bs - length rest) bs))
    refer e (read w rest) x again =
        let next = value_from quote (v ++ w) (length bs - length rest) bs in
        takes_later (List ℕ) (Valued quote v) (b ∷ bs) (38 ∷ x.front) rest (ap (λ (k : ℕ). k ∷ bs) e ∙ ap (λ (l : List ℕ). 38 ∷ l) x.is) next
        (takes_weaker (List ℕ) (Valued quote (v ++ w)) (λ (y u : List ℕ). Valued quote v ((38 ∷ x.front) ++ y) u) rest
        (λ y u q.
        record {
          inner = (38 ∷ x.front) ++ q.inner;
          more = w ++ q.more;
          is = ap (λ (l : List ℕ). (38 ∷ x.front) ++ l) q.is ∙ sym (append_assoc (38 ∷ x.front) q.inner (quote ∷ []));
          content = referring (38 ∷ x.front) w q.inner q.more x.holds q.content;
          value = q.value ∙ append_assoc v w q.more;
        })
        next (subst (λ (l : List ℕ). Takes (List ℕ) (Valued quote (v ++ w)) l next) (front_drop bs x.front rest x.is) (again (v ++ w) (length bs - length rest))))
    refer e (departs rest) x again = tt
    refer e (exceeds rest) x again = tt
    refer e (refused number first) x again = tt

entity_value_takes : (t : List ℕ) → Takes (List ℕ) EntityValue t (entity_value t)
unfolding entity_value
entity_value_takes [] = tt
entity_value_takes (b ∷ bs) = pick_by (Takes (List ℕ) EntityValue (b ∷ bs)) (eqb b 34 || eqb b 39) {b = departs (b ∷ bs)} (λ e. go (eqb b 34) refl e) (λ e. tt)
  where
    within : (quote : ℕ) → b ≡ quote → ((x u : List ℕ) → Content quote x u → EntityValue (quote ∷ x ++ quote ∷ []) u) → Takes (List ℕ) EntityValue (b ∷ bs) (value_from b [] 0 bs)
    within quote q f =
        takes_later (List ℕ) EntityValue (b ∷ bs) (b ∷ []) bs refl (value_from b [] 0 bs)
        (subst (λ (c : ℕ). Takes (List ℕ) (λ (x u : List ℕ). EntityValue ((c ∷ []) ++ x) u) bs (value_from c [] 0 bs)) (sym q)
        (takes_weaker (List ℕ) (Valued quote []) (λ (x u : List ℕ). EntityValue (quote ∷ x) u) bs
        (λ x u y.
        subst (λ (l : List ℕ). EntityValue (quote ∷ l) u) (sym y.is)
        (subst (EntityValue (quote ∷ y.inner ++ quote ∷ [])) (sym y.value) (f y.inner y.more y.content)))
        (value_from quote [] 0 bs) (value_takes quote bs [] 0)))

    go : (x : Bool) → eqb b 34 ≡ x → x || eqb b 39 ≡ true → Takes (List ℕ) EntityValue (b ∷ bs) (value_from b [] 0 bs)
    go true f e = within 34 (eqb-true b 34 f) (λ x u c. quoted x u c)
    go false f e = within 39 (eqb-true b 39 e) (λ x u c. apostrophed x u c)

-- ---- a declaration

record Opened (x v : List ℕ) : Type 0 where
  white : List ℕ
  is : x ≡ keyword ++ white
  holds : S white

opening_takes : (t : List ℕ) → Takes (List ℕ) Opened t (opening t)
unfolding opening
opening_takes t =
    takes_onward (List ℕ) (List ℕ) (λ (x v : List ℕ). x ≡ keyword) Opened t (literal keyword t) (λ w rest. space rest) (literal_takes keyword t) λ x w rest p.
    takes_weaker (List ℕ) (λ (y v : List ℕ). S y) (λ (y v : List ℕ). Opened (x ++ y) v) rest
    (λ y v s. record { white = y; is = ap (λ (l : List ℕ). l ++ y) p; holds = s }) (space rest) (space_takes rest)

record NamedThere (x n : List ℕ) : Type 0 where
  white : List ℕ
  is : x ≡ n ++ white
  named : Name n
  holds : S white

declared_takes : (t : List ℕ) → Takes (List ℕ) NamedThere t (declared_name t)
unfolding declared_name
declared_takes t =
    takes_onward (List ℕ) (List ℕ) Named NamedThere t (name t) (λ n end. onward (space end) (λ w rest. pick (ltb 255 (length n)) (exceeds end) (read n rest))) (name_takes t)
    λ x n end p.
    takes_onward (List ℕ) (List ℕ) (λ (y v : List ℕ). S y) (λ (y m : List ℕ). NamedThere (x ++ y) m) end (space end)
    (λ w rest. pick (ltb 255 (length n)) (exceeds end) (read n rest)) (space_takes end) λ y w rest s.
    pick_by (Takes (List ℕ) (λ (z m : List ℕ). NamedThere (x ++ (y ++ z)) m) rest) (ltb 255 (length n)) {a = exceeds end} {b = read n rest} (λ e. tt)
    (λ e. takes_end (List ℕ) (λ (z m : List ℕ). NamedThere (x ++ z) m) y n rest (record { white = y; is = ap (λ (l : List ℕ). l ++ y) p.same; named = p.named; holds = s }))

record Defined (x v : List ℕ) : Type 0 where
  text : List ℕ
  white : List ℕ
  is : x ≡ text ++ (white ++ 62 ∷ [])
  value : EntityValue text v
  holds : OptionalS white

definition_takes : (t : List ℕ) → Takes (List ℕ) Defined t (definition t)
unfolding definition
definition_takes t =
    takes_onward (List ℕ) (List ℕ) EntityValue Defined t (entity_value t) (λ v end. onward (literal (62 ∷ []) (after_space end)) (λ w rest. read v rest)) (entity_value_takes t)
    λ x v end p.
    let b = after_space_lem end in
    takes_later (List ℕ) (λ (y u : List ℕ). Defined (x ++ y) u) end b.front (after_space end) b.is (onward (literal (62 ∷ []) (after_space end)) (λ w rest. read v rest))
    (takes_onward (List ℕ) (List ℕ) (λ (y w : List ℕ). y ≡ 62 ∷ []) (λ (y u : List ℕ). Defined (x ++ (b.front ++ y)) u) (after_space end) (literal (62 ∷ []) (after_space end))
    (λ w rest. read v rest) (literal_takes (62 ∷ []) (after_space end)) λ y w rest q.
    takes_end (List ℕ) (λ (z u : List ℕ). Defined (x ++ (b.front ++ z)) u) y v rest
    (record { text = x; white = b.front; is = ap (λ (l : List ℕ). x ++ (b.front ++ l)) q; value = p; holds = b.white }))

-- the parts of a declaration, one behind the other
joined : (s n w x u : List ℕ) → (keyword ++ s) ++ ((n ++ w) ++ (x ++ (u ++ 62 ∷ []))) ≡ keyword ++ (s ++ (n ++ (w ++ (x ++ (u ++ 62 ∷ [])))))
joined s n w x u =
    append_assoc keyword s ((n ++ w) ++ (x ++ (u ++ 62 ∷ [])))
    ∙ ap (λ (l : List ℕ). keyword ++ (s ++ l)) (append_assoc n w (x ++ (u ++ 62 ∷ [])))

entity_takes : (t : List ℕ) → Takes Entity GEDecl t (entity t)
unfolding entity
entity_takes t =
    takes_onward (List ℕ) Entity Opened GEDecl t (opening t)
    (λ w t1. onward (declared_name t1) (λ n t2. onward (definition t2) (λ v t3. read (record { name = n; value = v }) t3))) (opening_takes t) λ x v t1 p.
    takes_onward (List ℕ) Entity NamedThere (λ (y : List ℕ) (e : Entity). GEDecl (x ++ y) e) t1 (declared_name t1)
    (λ n t2. onward (definition t2) (λ v t3. read (record { name = n; value = v }) t3)) (declared_takes t1) λ y n t2 q.
    takes_onward (List ℕ) Entity Defined (λ (z : List ℕ) (e : Entity). GEDecl (x ++ (y ++ z)) e) t2 (definition t2) (λ v t3. read (record { name = n; value = v }) t3)
    (definition_takes t2) λ z u t3 d.
    takes_end Entity (λ (l : List ℕ) (e : Entity). GEDecl (x ++ (y ++ l)) e) z (record { name = n; value = u }) t3
    (subst (λ (l : List ℕ). GEDecl l (record { name = n; value = u }))
    (sym (ap (λ (l : List ℕ). l ++ (y ++ z)) p.is
    ∙ ap (λ (l : List ℕ). (keyword ++ p.white) ++ (l ++ z)) q.is
    ∙ ap (λ (l : List ℕ). (keyword ++ p.white) ++ ((n ++ q.white) ++ l)) d.is
    ∙ joined p.white n q.white d.text d.white))
    (declaring p.white n q.white d.text u d.white p.holds q.named q.holds d.value d.holds))

-- ---- all of them

-- what is read, with white space before it, is a text of declarations, and nothing is left
record Whole (t : List ℕ) (es : List Entity) (rest : List ℕ) : Type 0 where
  over : rest ≡ []
  text : (w : List ℕ) → OptionalS w → Declarations (w ++ t) es

abbrev Lists : List ℕ → Read (List Entity) → Type 0
Lists t (read es rest) = Whole t es rest
Lists t (departs rest) = Unit {0}
Lists t (exceeds rest) = Unit {0}
Lists t (refused number first) = Unit {0}

lists_none : Lists [] (read [] [])
lists_none = record { over = refl; text = λ w s. subst (λ (l : List ℕ). Declarations l []) (sym (append-nil w)) (noDeclaration w s) }

no_more_lists : (t : List ℕ) → Lists t (no_more t)
unfolding no_more
no_more_lists [] = lists_none
no_more_lists (b ∷ bs) = pick_by (Lists (b ∷ bs)) (eqb b 60) {a = exceeds (b ∷ bs)} {b = departs (b ∷ bs)} (λ e. tt) (λ e. tt)

-- one declaration, and what follows it
lists_next : (t d rest : List ℕ) (e : Entity) → t ≡ d ++ rest → GEDecl d e → (r : Read (List Entity)) → Lists (after_space rest) r
    → Lists t (onward r (λ es end. read (e ∷ es) end))
lists_next t d rest e q g (read es end) x =
    let b = after_space_lem rest in
    record {
      over = x.over;
      text = λ w s.
          subst (λ (l : List ℕ). Declarations (w ++ l) (e ∷ es)) (sym q)
          (declaration w d rest e es s g (subst (λ (l : List ℕ). Declarations l es) (sym b.is) (x.text b.front b.white)));
    }
lists_next t d rest e q g (departs end) x = tt
lists_next t d rest e q g (exceeds end) x = tt
lists_next t d rest e q g (refused number first) x = tt

lists_onward : (t : List ℕ) (r : Read Entity) (more : List ℕ → Read (List Entity)) → Takes Entity GEDecl t r → ((rest : List ℕ) → Lists (after_space rest) (more rest))
    → Lists t (onward r (λ e rest. onward (more rest) (λ es end. read (e ∷ es) end)))
lists_onward t (read e rest) more x f = lists_next t x.front rest e x.is x.holds (more rest) (f rest)
lists_onward t (departs rest) more x f = tt
lists_onward t (exceeds rest) more x f = tt
lists_onward t (refused number first) more x f = tt

one_more_lists : (more : List ℕ → Read (List Entity)) → ((rest : List ℕ) → Lists (after_space rest) (more rest)) → (t : List ℕ) → Lists t (one_more more t)
unfolding one_more
one_more_lists more f [] = lists_none
one_more_lists more f (b ∷ bs) = lists_onward (b ∷ bs) (entity (b ∷ bs)) more (entity_takes (b ∷ bs)) f

entities_lists : (k : ℕ) (t : List ℕ) → Lists t (entities_at k t)
unfolding entities_at
entities_lists zero t = no_more_lists t
entities_lists (suc k) t = one_more_lists (λ rest. entities_at k (after_space rest)) (λ rest. entities_lists k (after_space rest)) t

-- K3: what is accepted is a list of declarations, and these are what is read
pub entities_written : (k : ℕ) (t end : List ℕ) (es : List Entity) → entities k t ≡ read es end → Declarations t es
entities_written k t end es e =
    let b = after_space_lem t in
    let x : Whole (after_space t) es end = rw e at (given t) in
    subst (λ (l : List ℕ). Declarations l es) (sym b.is) (x.text b.front b.white)
  where
    given : (t : List ℕ) → Lists (after_space t) (entities k t)
    given t = unfold entities in entities_lists k (after_space t)
