-- What `find` answers about the entries before one, as the test `absent`. Assumes nothing.
use Rattle.std.proofs.Common.{◌≡◌, ℕ, Bool, true, false, not, List, [], ◌∷◌, ◌++◌, sym, refl, ap, subst, Option, Some, None}
use Rattle.std.specs.Option.{is_some}
use Rattle.text.proofs.Bytes.{contrary, equal_same}
use Rattle.register.specs.Entries.{Entry, entry, absent}
use Rattle.register.specs.Places.{Absent, Stands, Finds}
use Rattle.register.proofs.Counts.{absent_true, true_absent}

present_part : (f : List ℕ) (n : ℕ) (a b : List Entry) → Absent f (a ++ (entry f n ∷ b)) → ⊥
present_part f n [] b h = contrary (equal_same f) h.0
present_part f n (e ∷ a) b h = present_part f n a b h.1

pub found_before : (f : List ℕ) (es : List Entry) {at : ℕ} → Stands f es at → true ≡ not (absent f es)
found_before f es s = go (absent f es) refl
  where
    go : (t : Bool) → absent f es ≡ t → true ≡ not t
    go false q = refl
    go true q = absurd (present_part f s.count s.before s.after (subst (Absent f) s.is (absent_true f es q)))

pub nothing_before : (f : List ℕ) (es : List Entry) → Absent f es → false ≡ not (absent f es)
nothing_before f es h = sym (ap not (true_absent f es h))

-- what `find` answers
pub found_tells : (f : List ℕ) (es : List Entry) (found : Option ℕ) → Finds f es found → is_some found ≡ not (absent f es)
found_tells f es (Some at) s = found_before f es s
found_tells f es None h = nothing_before f es h
