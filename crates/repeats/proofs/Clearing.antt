-- No form repeats where none stands before itself (`clear_distinct`), also class by class (`clear_classes`). Assumes nothing.
use Rattle.std.proofs.Common.{◌≡◌, ℕ, ◌/◌, ◌<◌, Bool, true, false, not, List, [], ◌∷◌, ◌++◌, sym, refl, ap, subst, append-nil, arith, eq-eqb}
use lib.Seq.{append_snoc}
use Rattle.text.specs.Bytes.{same_bytes}
use Rattle.text.proofs.Bytes.{contrary}
use Rattle.register.specs.Entries.{Entry, absent, distinct}
use Rattle.register.specs.Places.{Absent, Distinct, entries_in}
use Rattle.register.proofs.Counts.{true_absent, distinct_true, true_distinct, apart}
use Rattle.register.proofs.Boundaries.{absent_join}
use Rattle.repeats.specs.Hash.{hash_of, share, in_class}
use Rattle.repeats.specs.Filter.{Clear, Passes}
use Rattle.repeats.proofs.Hashing.{hash_word}
use Rattle.repeats.proofs.Filtering.{share_below}

abbrev pub any_form : List ℕ → Bool
any_form f = true

-- ---- one entry more

absent_part : (f : List ℕ) (a : List Entry) (e : Entry) (b : List Entry) → Absent f (a ++ (e ∷ b)) → same_bytes e.form f ≡ false
absent_part f [] e b h = h.0
absent_part f (d ∷ a) e b h = absent_part f a e b h.1

-- where no form repeats, none stands before itself
distinct_before : (a : List Entry) (e : Entry) (b : List Entry) → Distinct (a ++ (e ∷ b)) → Absent e.form a
distinct_before [] e b h = tt
distinct_before (d ∷ a) e b h = (apart e.form d.form (absent_part d.form a e b h.0), distinct_before a e b h.1)

pub stands_repeats : (es before : List Entry) (e : Entry) (after : List Entry) → es ≡ before ++ (e ∷ after) → absent e.form before ≡ false → distinct es ≡ false
stands_repeats es before e after q h = go (distinct es) refl
  where
    go : (t : Bool) → distinct es ≡ t → distinct es ≡ false
    go false d = d
    go true d = contrary (true_absent e.form before (distinct_before before e after (subst Distinct q (distinct_true es d)))) h

distinct_end : (a : List Entry) (e : Entry) → Distinct a → Absent e.form a → Distinct (a ++ (e ∷ []))
distinct_end [] e d h = (tt, tt)
distinct_end (x ∷ a) e d h =
    (absent_join x.form a (e ∷ []) d.0 (apart x.form e.form h.0, tt), distinct_end a e d.1 h.1)

clear_on : (before es : List Entry) → Distinct before → Clear any_form before es → Distinct (before ++ es)
clear_on before [] d c = subst Distinct (sym (append-nil before)) d
clear_on before (e ∷ es) d c =
    subst Distinct (append_snoc before e es) (clear_on (before ++ (e ∷ [])) es (distinct_end before e d (c.0 refl)) c.1)

pub clear_distinct : (es : List Entry) → Clear any_form [] es → distinct es ≡ true
clear_distinct es c = true_distinct es (clear_on [] es tt c)

-- each form has one class, and it is below their number
in_class_lem : (classes : ℕ) → 0 < classes → (f : List ℕ) → share (hash_of f / 0x100000000) classes < classes
in_class_lem classes h f = share_below (hash_of f / 0x100000000) classes (omega (arith, hash_word f)) h

clear_from : (classes : ℕ) → 0 < classes → (es before : List Entry) → ((q : ℕ) → q < classes → Clear (in_class q classes) before es) → Clear any_form before es
clear_from classes h [] before c = tt
clear_from classes h (e ∷ es) before c =
    let q = share (hash_of e.form / 0x100000000) classes in
    ((λ p. (c q (in_class_lem classes h e.form)).0 (eq-eqb q q refl)), clear_from classes h es (before ++ (e ∷ [])) (λ q l. (c q l).1))

pub clear_classes : (classes : ℕ) → 0 < classes → (es : List Entry) → ((q : ℕ) → q < classes → Clear (in_class q classes) [] es) → distinct es ≡ true
clear_classes classes h es c = clear_distinct es (clear_from classes h es [] c)

-- the answer of a pass over the one class that there is
pub passes_one : (register : List ℕ) (r : Bool) → Passes register 0 1 r → r ≡ not (distinct (entries_in register))
passes_one register true p = sym (ap not (p.repeats refl))
passes_one register false p =
    let es = entries_in register in
    let each : (q : ℕ) → q < 1 → Clear (in_class q 1) [] es
    = λ q l. (let z : 0 ≡ q = omega arith in subst (λ (k : ℕ). Clear (in_class k 1) [] es) z (p.clear refl)) in
    sym (ap not (clear_classes 1 (omega arith) es each))
