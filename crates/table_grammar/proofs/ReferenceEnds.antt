-- What is left after a reference is an end of what was there (`reference_ends`). Assumes nothing.
use mathlib.Core.Path.{◌≡◌, refl, sym, ap, ◌∙◌}
use mathlib.Core.Bool.{Bool, true, false}
use mathlib.Core.List.{List, [], ◌∷◌, ◌++◌}
use Prim.Native.Nat.{ℕ, zero, suc, ◌+◌, ◌-◌, ◌≤◌}
use native.Mathlib.Omega.{arith}
use native.Mathlib.Nat.{le_refl}
use lib.Dec.{eqb, ltb}
use lib.ListN.{length, take, drop, length-drop, drop_of_length-le}
use lib.Seq.{drop-drop}
use borrow.Author.Tests.{ltb-true, ltb-false}
use Rattle.text.proofs.Bytes.{pick_by}
use Rattle.text.specs.Answers.{Answer}
use Rattle.text.specs.Answers.{Done, Refused}
use Rattle.charref.specs.CharRef.{char_number, any_character, number_answer}
use Rattle.table_names.specs.NameChars.{name_length}
use Rattle.table_grammar.specs.EntityValue.{Read, read, departs, exceeds, refused, onward, literal, name, name_of, numbered, char_ref_from, entity_ref, reference, value_from}

pub record Tail (rest t : List ℕ) : Type 0 where
  pub place : ℕ
  pub is : rest ≡ drop place t

tail_here : (t : List ℕ) → Tail t t
tail_here t = record { place = 0; is = refl }

tail_next : {rest t : List ℕ} (b : ℕ) → Tail rest t → Tail rest (b ∷ t)
tail_next b x = record { place = suc x.place; is = x.is }

drop_rest : (k : ℕ) (t : List ℕ) → drop (length t - length (drop k t)) t ≡ drop k t
drop_rest k t = go (ltb (length t) k) refl
  where
    go : (x : Bool) → ltb (length t) k ≡ x → drop (length t - length (drop k t)) t ≡ drop k t
    go true e =
        let h = ltb-true (length t) k e in
        let h' : length t ≤ k = omega arith in
        let z : length t - length (drop k t) ≡ length t = omega (arith, length-drop k t) in
        let over_k : drop k t ≡ [] = drop_of_length-le t h' in
        ap (λ (n : ℕ). drop n t) z ∙ drop_of_length-le t (le_refl (length t)) ∙ sym over_k
    go false e =
        let h = ltb-false (length t) k e in
        let z : length t - length (drop k t) ≡ k = omega (arith, length-drop k t) in
        rw z

pub tail_drop : {rest t : List ℕ} → Tail rest t → drop (length t - length rest) t ≡ rest
tail_drop {rest} {t} x = ap (λ (l : List ℕ). drop (length t - length l) t) x.is ∙ drop_rest x.place t ∙ sym x.is

abbrev pub Ends : List ℕ → Read (List ℕ) → Type 0
Ends t (read w rest) = Tail rest t
Ends t (departs rest) = Unit {0}
Ends t (exceeds rest) = Unit {0}
Ends t (refused number first) = Unit {0}

ends_next : (t : List ℕ) (b : ℕ) (r : Read (List ℕ)) → Ends t r → Ends (b ∷ t) r
ends_next t b (read w rest) x = tail_next b x
ends_next t b (departs rest) x = tt
ends_next t b (exceeds rest) x = tt
ends_next t b (refused number first) x = tt

numbered_ends : (a : Answer) (t : List ℕ) → Ends t (numbered a t)
numbered_ends (Done c second) t = tail_here t
numbered_ends (Refused number first second) t = tt

char_ref_ends : (quote : ℕ) (t digits : List ℕ) → Ends t (char_ref_from quote digits t)
unfolding char_ref_from
char_ref_ends quote [] digits = tt
char_ref_ends quote (b ∷ bs) digits =
    pick_by (Ends (b ∷ bs)) (eqb b 59) (λ e. ends_next bs b (numbered (number_answer (char_number any_character digits)) bs) (numbered_ends (number_answer (char_number any_character digits)) bs)) λ e.
    pick_by (Ends (b ∷ bs)) (eqb b quote) {a = departs (b ∷ bs)} (λ f. tt) λ f. ends_next bs b (char_ref_from quote (digits ++ b ∷ []) bs) (char_ref_ends quote bs (digits ++ b ∷ []))

semicolon_ends : (t rest n : List ℕ) → Tail rest t → Ends t (onward (literal (59 ∷ []) rest) (λ w end. read (38 ∷ n ++ 59 ∷ []) end))
unfolding literal
semicolon_ends t [] n x = tt
semicolon_ends t (b ∷ bs) n x =
    pick_by (λ (r : Read (List ℕ)). Ends t (onward r (λ w end. read (38 ∷ n ++ 59 ∷ []) end))) (eqb b 59) {a = read [] bs} {b = departs (b ∷ bs)}
    (λ e. record { place = x.place + 1; is = ap (drop 1) x.is ∙ drop-drop 1 x.place t }) (λ e. tt)

entity_ref_ends : (t : List ℕ) → Ends t (entity_ref t)
unfolding entity_ref name
entity_ref_ends t = go (name_length t)
  where
    go : (n : ℕ) → Ends t (onward (name_of n t) (λ n end. onward (literal (59 ∷ []) end) (λ w rest. read (38 ∷ n ++ 59 ∷ []) rest)))
    go zero = tt
    go (suc n) = semicolon_ends t (drop (suc n) t) (take (suc n) t) (record { place = suc n; is = refl })

pub reference_ends : (quote : ℕ) (t : List ℕ) → Ends t (reference quote t)
unfolding reference
reference_ends quote [] = entity_ref_ends []
reference_ends quote (b ∷ bs) =
    pick_by (Ends (b ∷ bs)) (eqb b 35) (λ e. ends_next bs b (char_ref_from quote [] bs) (char_ref_ends quote bs [])) (λ e. entity_ref_ends (b ∷ bs))

-- a value goes on behind the bytes that were taken
pub value_skip : (quote : ℕ) (v : List ℕ) (k : ℕ) (t : List ℕ) → value_from quote v k t ≡ value_from quote v 0 (drop k t)
unfolding value_from
value_skip quote v zero t = refl
value_skip quote v (suc k) [] = refl
value_skip quote v (suc k) (b ∷ bs) = value_skip quote v k bs
