-- A pass over the forms of one class: the table has those before (`Sifting`), one entry more (`sift_on`), the end (`sift-all`); and a pass
-- over all forms without a table (`Comparing`). Assumes nothing.
use Rattle.std.proofs.Common.{◌≡◌, ℕ, ◌+◌, ◌≤◌, Bool, true, false, List, [], ◌∷◌, ◌++◌, length, take, drop, sym, refl, ap, ◌∙◌, subst, ap₂, arith}
use Rattle.text.specs.Bytes.{same_bytes}
use Rattle.text.proofs.Bytes.{contrary, same_equal}
use Rattle.register.specs.Entries.{Entry, cost, absent, distinct}
use Rattle.register.specs.Stored.{u32_at}
use Rattle.register.specs.Places.{Filled, entries_in}
use Rattle.register.proofs.Counts.{absent_true, true_absent}
use Rattle.register.proofs.Boundaries.{Boundary, start, next, Turn, front_filled, within, absent_join}
use Rattle.repeats.specs.Hash.{hash_of, in_class}
use Rattle.repeats.specs.Filter.{Has, form_at, Clear, Sifted}
use Rattle.repeats.proofs.Clearing.{stands_repeats}

-- ---- over any test of forms: what is left to look through decides

pub record Looking (test : List ℕ → Bool) (es : List Entry) (at : ℕ) : Type 0 where
  pub place : Boundary es at
  pub rest : Clear test place.before place.rest → Clear test [] es

pub looking_none : (test : List ℕ → Bool) (es : List Entry) → Looking test es 0
unfolding start
looking_none test es = record { place = start es; rest = λ c. c }

module _ {bytes : List ℕ} (f : Filled bytes) {test : List ℕ → Bool} {at : ℕ} (l : Looking test (entries_in bytes) at) where
  abbrev before : List Entry
  before = l.place.before

  -- the form at the place is the entry's, and the bytes before hold the entries before
  pub form_is : (t : Turn f l.place) → form_at bytes at ≡ t.one.form
  form_is t = ap (λ (n : ℕ). take n (drop (at + 8) bytes)) t.size ∙ t.form

  pub absent_is : (t : Turn f l.place) → absent (form_at bytes at) (entries_in (take at bytes)) ≡ absent t.one.form before
  absent_is t = ap₂ absent (form_is t) (front_filled f l.place).0

  -- one entry more
  unfoldable pub looking_on : (t : Turn f l.place) {end : ℕ} → end ≡ at + 8 + u32_at bytes at → (test t.one.form ≡ true → absent t.one.form before ≡ true)
      → Looking test (entries_in bytes) end
  unfolding next
  looking_on t e fresh =
      record {
        place = next f l.place t e;
        rest = λ c. l.rest (subst (Clear test before) (sym t.is) ((λ p. absent_true t.one.form before (fresh p)), c));
      }

  none_left : (rest : List Entry) → l.place.rest ≡ rest → length bytes ≤ at → Clear test [] (entries_in bytes)
  none_left [] q h = l.rest (subst (Clear test before) (sym q) tt)
  none_left (e ∷ es) q h =
      let c : cost l.place.rest ≡ 8 + length e.form + cost es = ap cost q ∙ unfold cost in refl in
      absurd (omega (arith, within f l.place, c, h))

  pub looking_all : length bytes ≤ at → Clear test [] (entries_in bytes)
  looking_all h = none_left l.place.rest refl h

  -- a form that stands before its entry
  pub looking_repeats : (t : Turn f l.place) → absent (form_at bytes at) (entries_in (take at bytes)) ≡ false → distinct (entries_in bytes) ≡ false
  looking_repeats t e =
      stands_repeats (entries_in bytes) before t.one t.after (l.place.is ∙ ap (λ (r : List Entry). before ++ r) t.is) (sym (absent_is t) ∙ e)

-- ---- with a table

-- which has every form of the class that stands before
pub record Sifting (class classes : ℕ) (es : List Entry) (table : List ℕ) (at : ℕ) : Type 0 where
  pub looking : Looking (in_class class classes) es at
  pub has : (g : List ℕ) → in_class class classes g ≡ true → absent g looking.place.before ≡ false → Has table (hash_of g)

none_absent : (g : List ℕ) → absent g [] ≡ true
unfolding absent
none_absent g = refl

pub sifting_none : (class classes : ℕ) (es : List Entry) (table : List ℕ) → Sifting class classes es table 0
unfolding looking_none start
sifting_none class classes es table = record { looking = looking_none (in_class class classes) es; has = λ g p q. contrary (none_absent g) q }

module _ {bytes : List ℕ} (f : Filled bytes) {class classes : ℕ} {table : List ℕ} {at : ℕ} (s : Sifting class classes (entries_in bytes) table at) where
  abbrev place : Boundary (entries_in bytes) at
  place = s.looking.place

  -- a form that stands in the entries with one more, of which it is not the form, stands in those before
  earlier : (g : List ℕ) (e : Entry) → same_bytes e.form g ≡ false → absent g (place.before ++ (e ∷ [])) ≡ false → absent g place.before ≡ false
  earlier g e other q = go (absent g place.before) refl
    where
      go : (t : Bool) → absent g place.before ≡ t → t ≡ false
      go false r = refl
      go true r = contrary (true_absent g (place.before ++ (e ∷ [])) (absent_join g place.before (e ∷ []) (absent_true g place.before r) (other, tt))) q

  module _ (t : Turn f place) {after : List ℕ} (k : Sifted bytes at class classes table after false) where
    form_at_lem : form_at bytes at ≡ t.one.form
    form_at_lem = form_is f s.looking t

    has_form : (g : List ℕ) → in_class class classes g ≡ true → absent g (place.before ++ (t.one ∷ [])) ≡ false → (u : Bool) → same_bytes t.one.form g ≡ u → Has after (hash_of g)
    has_form g p q true r =
        let is : form_at bytes at ≡ g = form_at_lem ∙ same_equal t.one.form g r in
        subst (λ (x : List ℕ). Has after (hash_of x)) is (k.there (ap (in_class class classes) is ∙ p))
    has_form g p q false r = k.kept (hash_of g) (s.has g p (earlier g t.one r q))

    -- the form is not there, by the answer or by the table
    fresh : in_class class classes t.one.form ≡ true → absent t.one.form place.before ≡ true
    fresh p =
        let same = absent_is f s.looking t in
        sym same
        ∙ k.fresh refl (ap (in_class class classes) form_at_lem ∙ p)
        (λ q. subst (λ (x : List ℕ). Has table (hash_of x)) (sym form_at_lem) (s.has t.one.form p (sym same ∙ q)))

    pub sifting_on : {end : ℕ} → end ≡ at + 8 + u32_at bytes at → Sifting class classes (entries_in bytes) after end
    unfolding looking_on next
    sifting_on e =
        record {
          looking = looking_on f s.looking t e fresh;
          has = λ g p q. has_form g p q (same_bytes t.one.form g) refl;
        }
