-- How a writer finishes that counts first: 19 with the length needed, or the value laid over the output. Assumes nothing.
use mathlib.Core.Path.{◌≡◌}
use mathlib.Core.List.{List, [], ◌∷◌}
use Prim.Native.Nat.{ℕ, ◌≤◌, ◌<◌}
use lib.ListN.{length}
use borrow.Author.Tests.{lt-ltb, le-ltb}
use Rattle.text.specs.Call.{called, laid, finish}

pub finish_short : (value : List ℕ) (second : ℕ) (out : List ℕ) {n : ℕ} → n ≡ length value → length out < n
    → called 19 (n ∷ 0 ∷ []) (out ∷ []) ≡ finish value second out
unfolding finish
finish_short value second out e h = rw (e, lt-ltb (length out) (length value) (rw e at h))

pub finish_laid : (value : List ℕ) (second : ℕ) (out : List ℕ) {n : ℕ} {new : List ℕ} → n ≡ length value → n ≤ length out
    → new ≡ laid value out → called 0 (n ∷ second ∷ []) (new ∷ []) ≡ finish value second out
unfolding finish
finish_laid value second out e h p = rw (e, p, le-ltb (length out) (length value) (rw e at h))
