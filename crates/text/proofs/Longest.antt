-- `utf8_end` is the end of the longest well-formed prefix: the prefix is well-formed, and no longer one is. Assumes nothing.
use mathlib.Core.Path.{◌≡◌, refl, sym, ◌∙◌}
use Prim.Native.Nat.{ℕ, zero, suc, ◌+◌, ◌-◌, ◌≤◌, zero-le, suc-le-suc}
use native.Mathlib.Omega.{arith}
use native.Mathlib.Nat.{le_antisymm, le_refl, le_trans, le_step, le_of_suc-le-suc, not-suc-le-zero, add-zero, zero-add}
use mathlib.Core.Bool.{Bool, true, false}
use mathlib.Core.List.{List, [], ◌∷◌, ◌++◌}
use lib.ListN.{length, take, drop, length-drop, drop_of_length-le}
use lib.Seq.{take-length, take-add}
use Rattle.text.specs.Bytes.{pick}
use Rattle.text.specs.Utf8.{State, between, next, after, is_between, end_from, utf8_end, WellFormed}
use Rattle.text.proofs.Bytes.{pick_both}
use Rattle.text.specs.Blocks.{Prefix}
use Rattle.text.proofs.Utf8.{is_between_lem, well_formed_append, append_well_formed}

-- the later of the places found so far
low : (s : State) (at end : ℕ) → end ≤ at → end ≤ pick (is_between s) at end
low s at end h = pick_both (λ (n : ℕ). end ≤ n) (is_between s) {a = at} {b = end} h (le_refl end)

high : (s : State) (at end : ℕ) → end ≤ at → pick (is_between s) at end ≤ at
high s at end h = pick_both (λ (n : ℕ). n ≤ at) (is_between s) {a = at} {b = end} (le_refl at) h

here : (s : State) (at end : ℕ) → s ≡ between → pick (is_between s) at end ≡ at
unfolding is_between
here s at end e = rw e

-- a place found is never given up for an earlier one
keeps : (bs : List ℕ) (s : State) (at end : ℕ) → end ≤ at → end ≤ end_from s at end bs
unfolding end_from
keeps [] s at end h = low s at end h
keeps (b ∷ bs) s at end h =
    le_trans (low s at end h) (keeps bs (next s b) (suc at) (pick (is_between s) at end) (le_step (high s at end h)))

longest : (bs : List ℕ) (s : State) (at end n : ℕ) → end ≤ at → n ≤ length bs → after s (take n bs) ≡ between → at + n ≤ end_from s at end bs
unfolding end_from after
longest [] s at end zero h l e = rw (here s at end e) (omega arith)
longest [] s at end (suc n) h l e = absurd (not-suc-le-zero l)
longest (b ∷ bs) s at end zero h l e =
    rw (here s at end e) (le_trans (omega arith) (keeps bs (next s b) (suc at) at (omega arith)))
longest (b ∷ bs) s at end (suc n) h l e =
    omega (arith, longest bs (next s b) (suc at) (pick (is_between s) at end) n (le_step (high s at end h)) (le_of_suc-le-suc l) e)

-- what `end_from` gives: the place handed to it, or one at which the bytes so far are whole characters
data Reached (s : State) (at end : ℕ) (bs : List ℕ) (place : ℕ) : Type 0 where
  old : place ≡ end → Reached s at end bs place
  new : (n : ℕ) → n ≤ length bs → after s (take n bs) ≡ between → place ≡ at + n → Reached s at end bs place

at_once : (s : State) (at end : ℕ) (bs : List ℕ) (t : Bool) → is_between s ≡ t → (place : ℕ) → place ≡ pick t at end → Reached s at end bs place
unfolding after
at_once s at end bs true e place q = new 0 zero-le (is_between_lem s e) (q ∙ sym (add-zero at))
at_once s at end bs false e place q = old q

reached : (bs : List ℕ) (s : State) (at end : ℕ) → Reached s at end bs (end_from s at end bs)
unfolding end_from
reached [] s at end = at_once s at end [] (is_between s) refl (pick (is_between s) at end) refl
reached (b ∷ bs) s at end = go (reached bs (next s b) (suc at) (pick (is_between s) at end))
  where
    go : Reached (next s b) (suc at) (pick (is_between s) at end) bs (end_from (next s b) (suc at) (pick (is_between s) at end) bs)
        → Reached s at end (b ∷ bs) (end_from (next s b) (suc at) (pick (is_between s) at end) bs)
    go (old q) = at_once s at end (b ∷ bs) (is_between s) refl _ q
    go (new n l e q) = new (suc n) (suc-le-suc l) (unfold after in e) (q ∙ omega arith)

-- the prefix is well-formed
pub end_well_formed : (t : List ℕ) → WellFormed (take (utf8_end t) t)
unfolding utf8_end WellFormed
end_well_formed t = go (end_from between 0 0 t) (reached t between 0 0)
  where
    go : (place : ℕ) → Reached between 0 0 t place → after between (take place t) ≡ between
    go place (old q) = rw q (unfold after in refl)
    go place (new n l e q) = rw (q, zero-add n) e

-- and no longer one is
pub end_longest : (t : List ℕ) (n : ℕ) → n ≤ length t → WellFormed (take n t) → n ≤ utf8_end t
unfolding utf8_end WellFormed
end_longest t n l e = omega (arith, longest t between 0 0 n zero-le l e)

pub end_le : (t : List ℕ) → utf8_end t ≤ length t
unfolding utf8_end
end_le t = go (end_from between 0 0 t) (reached t between 0 0)
  where
    go : (place : ℕ) → Reached between 0 0 t place → place ≤ length t
    go place (old q) = rw q zero-le
    go place (new n l e q) = rw (q, zero-add n) l

-- the whole text is well-formed just where that end is its length
pub end_whole : (t : List ℕ) → utf8_end t ≡ length t → WellFormed t
end_whole t e = rw (take-length t) at (rw e at (end_well_formed t))

pub whole_end : (t : List ℕ) → WellFormed t → utf8_end t ≡ length t
whole_end t h = le_antisymm (end_le t) (end_longest t (length t) (le_refl (length t)) (rw (take-length t) h))

-- after whole characters, the rest decides
pub end_advance : (t : List ℕ) (n : ℕ) → Prefix t n → utf8_end t ≡ n + utf8_end (drop n t)
unfolding WellFormed
end_advance t n p = le_antisymm upper lower
  where
    joined : (m : ℕ) → take (n + m) t ≡ take n t ++ take m (drop n t)
    joined m = take-add n m t

    whole : (m : ℕ) → WellFormed (take (n + m) t) → WellFormed (take m (drop n t))
    whole m w = sym (well_formed_append (take n t) (take m (drop n t)) p.whole) ∙ rw (joined m) at w

    lower : n + utf8_end (drop n t) ≤ utf8_end t
    lower =
        end_longest t (n + utf8_end (drop n t)) (omega (arith, end_le (drop n t), length-drop n t, p.fits))
        (rw (joined (utf8_end (drop n t))) (append_well_formed (take n t) (take (utf8_end (drop n t)) (drop n t)) p.whole (end_well_formed (drop n t))))

    past : n ≤ utf8_end t
    past = end_longest t n p.fits p.whole

    upper : utf8_end t ≤ n + utf8_end (drop n t)
    upper =
        let q : n + (utf8_end t - n) ≡ utf8_end t = omega (arith, past) in
        omega (
          arith,
          past,
          end_longest (drop n t) (utf8_end t - n) (rw (length-drop n t) (omega (arith, end_le t)))
              (whole (utf8_end t - n) (rw q (end_well_formed t))),
        )

pub end_here : (t : List ℕ) (n : ℕ) → Prefix t n → utf8_end (drop n t) ≡ 0 → n ≡ utf8_end t
end_here t n p e = sym (end_advance t n p ∙ rw e (add-zero n))

pub end_all : (t : List ℕ) (n : ℕ) → Prefix t n → length t ≤ n → n ≡ utf8_end t
unfolding utf8_end
end_all t n p h = end_here t n p (rw (drop_of_length-le t h) refl)

pub none_prefix : (t : List ℕ) → Prefix t 0
none_prefix t = record { fits = zero-le; whole = unfold WellFormed in refl }
