-- The register of canonical forms, as a list of entries in the order in which they became present (document 02, K10). Assumes nothing.
use Rattle.std.specs.Prelude.{ℕ, ◌+◌, ◌-◌, Bool, true, not, ◌&&◌, List, [], ◌∷◌, ◌++◌, eqb, ltb, length}
use Rattle.text.specs.Bytes.{pick, same_bytes}
use Rattle.text.specs.Utf8.{well_formed}

-- K10: a form that is present, and how often
pub record Entry : Type 0 where
  pub form : List ℕ
  pub count : ℕ

abbrev pub entry : List ℕ → ℕ → Entry
entry f n = record { form = f; count = n }

-- K10: each present form costs its bytes plus 8
unfoldable pub cost : List Entry → ℕ
cost [] = 0
cost (e ∷ es) = 8 + length e.form + cost es

-- K10: the count of a form, 0 where it is absent
unfoldable pub count_in : List ℕ → List Entry → ℕ
count_in f [] = 0
count_in f (e ∷ es) = let rest = count_in f es in pick (same_bytes e.form f) e.count rest

-- K10: another count for a present form; with 0 it goes, and closes the gap
unfoldable pub recount : List ℕ → ℕ → List Entry → List Entry
recount f n [] = []
recount f n (e ∷ es) =
    let rest = recount f n es in
    pick (same_bytes e.form f) (pick (eqb n 0) es (entry e.form n ∷ es)) (e ∷ rest)

-- K10: the largest count
abbrev pub largest_count : ℕ
largest_count = 4294967295

-- what a call makes of the entries: the form's count and the entries after it, or a refusal
pub data Change : Type 0 where
  changed : ℕ → List Entry → Change
  refused : ℕ → Change

-- K10: add one. A new form goes to the end, and is 30 where its cost would pass the buffer's size; 30 too where a count is the largest
unfoldable pub add : ℕ → List ℕ → List Entry → Change
unfolding cost count_in recount
add size f es =
    let n = count_in f es in
    pick (eqb n 0) (pick (ltb size (cost es + (8 + length f))) (refused 30) (changed 1 (es ++ (entry f 1 ∷ []))))
    (pick (ltb n largest_count) (changed (n + 1) (recount f (n + 1) es)) (refused 30))

-- K10: withdraw one; 29 where the form is absent
unfoldable pub withdraw : List ℕ → List Entry → Change
unfolding count_in recount
withdraw f es = let n = count_in f es in pick (eqb n 0) (refused 29) (changed (n - 1) (recount f (n - 1) es))

-- K10: an entry is good with a count that is not zero and a form that is UTF-8
unfoldable pub good : List Entry → Bool
unfolding well_formed
good [] = true
good (e ∷ es) = not (eqb e.count 0) && (well_formed e.form && good es)

-- K10: no form repeats
unfoldable pub absent : List ℕ → List Entry → Bool
absent f [] = true
absent f (e ∷ es) = not (same_bytes e.form f) && absent f es

unfoldable pub distinct : List Entry → Bool
unfolding absent
distinct [] = true
distinct (e ∷ es) = absent e.form es && distinct es
