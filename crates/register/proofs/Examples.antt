-- Registers of two short forms, computed: the order of entries, the bytes freed, and each refusal (document 02, K10). Assumes nothing.
use mathlib.Core.Path.{◌≡◌, refl}
use mathlib.Core.List.{List, [], ◌∷◌, ◌++◌}
use Prim.Native.Nat.{ℕ}
use lib.ListN.{replicate}
use Rattle.text.specs.Utf8.{utf8_end}
use Rattle.text.specs.Call.{called, length_check, utf8_check}
use Rattle.register.specs.Entries.{entry}
use Rattle.register.specs.Stored.{bytes_of, written}
use Rattle.register.specs.RegisterCalls.{lent, add_call, withdraw_call, count_call}
use Rattle.register.specs.CallLists.{adds, withdraws, counts, empty, after_calls, accepted_of, is_add, is_withdrawal, became_by}

abbrev a : List ℕ
a = 97 ∷ []

abbrev b : List ℕ
b = 0xC2 ∷ 0xBD ∷ []

-- the bytes of an entry of either
abbrev one_a : List ℕ
one_a = 1 ∷ 0 ∷ 0 ∷ 0 ∷ 1 ∷ 0 ∷ 0 ∷ 0 ∷ a

abbrev two_a : List ℕ
two_a = 1 ∷ 0 ∷ 0 ∷ 0 ∷ 2 ∷ 0 ∷ 0 ∷ 0 ∷ a

abbrev one_b : List ℕ
one_b = 2 ∷ 0 ∷ 0 ∷ 0 ∷ 1 ∷ 0 ∷ 0 ∷ 0 ∷ b

-- an entry whose count is the largest
abbrev full_a : List ℕ
full_a = 1 ∷ 0 ∷ 0 ∷ 0 ∷ 255 ∷ 255 ∷ 255 ∷ 255 ∷ a

abbrev sevens : ℕ → List ℕ
sevens n = replicate n 7

calls :
    (add_call [] (sevens 9) 0 ≡ called 0 (1 ∷ 8 ∷ []) (lent (0 ∷ 0 ∷ 0 ∷ 0 ∷ 1 ∷ 0 ∷ 0 ∷ 0 ∷ 7 ∷ []) 8))  -- the empty form
    × (add_call a (one_b ++ sevens 9) 10 ≡ called 0 (1 ∷ 19 ∷ []) (lent (one_b ++ one_a) 19))  -- at the end, where it just fits
    × (add_call a (one_b ++ sevens 8) 10 ≡ called 30 (0 ∷ 0 ∷ []) (lent (one_b ++ sevens 8) 10))  -- no room
    × (add_call a (one_a ++ sevens 3) 9 ≡ called 0 (2 ∷ 9 ∷ []) (lent (two_a ++ sevens 3) 9))
    × (add_call a (one_a ++ one_b) 19 ≡ called 0 (2 ∷ 19 ∷ []) (lent (two_a ++ one_b) 19))  -- where it stood
    × (add_call a (full_a ++ sevens 9) 9 ≡ called 30 (0 ∷ 0 ∷ []) (lent (full_a ++ sevens 9) 9))  -- full, with room
    × (withdraw_call a (one_a ++ one_b ++ sevens 2) 19 ≡ called 0 (0 ∷ 10 ∷ []) (lent (one_b ++ replicate 9 0 ++ sevens 2) 10))  -- the freed bytes are zero
    × (withdraw_call a (two_a ++ one_b) 19 ≡ called 0 (1 ∷ 19 ∷ []) (lent (one_a ++ one_b) 19))
    × (withdraw_call a one_b 10 ≡ called 29 (0 ∷ 0 ∷ []) (lent one_b 10))  -- absent
    × (withdraw_call (0xC2 ∷ []) one_b 10 ≡ called 5 (0 ∷ 0 ∷ []) (lent one_b 10))
    × (count_call a (two_a ++ sevens 2) 9 ≡ called 0 (2 ∷ 0 ∷ []) [])
    × (count_call b (two_a ++ sevens 2) 9 ≡ called 0 (0 ∷ 0 ∷ []) [])
unfolding add_call withdraw_call count_call length_check utf8_check utf8_end written
calls = (refl, refl, refl, refl, refl, refl, refl, refl, refl, refl, refl, refl)

-- refusal 28, by each of its reasons
damage :
    (count_call a one_a 10 ≡ called 28 (0 ∷ 0 ∷ []) [])  -- the used length passes the buffer
    × (count_call a (one_a ++ sevens 1) 10 ≡ called 28 (0 ∷ 0 ∷ []) [])  -- a byte is left over
    × (count_call a one_a 8 ≡ called 28 (0 ∷ 0 ∷ []) [])  -- the form is cut
    × (count_call a (one_a ++ one_a) 18 ≡ called 28 (0 ∷ 0 ∷ []) [])  -- a form repeats
    × (count_call a (one_b ++ one_a ++ one_b) 29 ≡ called 28 (0 ∷ 0 ∷ []) [])
    × (count_call a (1 ∷ 0 ∷ 0 ∷ 0 ∷ 1 ∷ 0 ∷ 0 ∷ 0 ∷ 0xC2 ∷ []) 9 ≡ called 28 (0 ∷ 0 ∷ []) [])  -- no UTF-8
    × (count_call a (1 ∷ 0 ∷ 0 ∷ 0 ∷ 0 ∷ 0 ∷ 0 ∷ 0 ∷ a) 9 ≡ called 28 (0 ∷ 0 ∷ []) [])  -- a zero count
    × (add_call a (one_a ++ one_a) 18 ≡ called 28 (0 ∷ 0 ∷ []) (lent (one_a ++ one_a) 18))
    × (withdraw_call b one_a 10 ≡ called 28 (0 ∷ 0 ∷ []) (lent one_a 10))
unfolding add_call withdraw_call count_call length_check utf8_check utf8_end
damage = (refl, refl, refl, refl, refl, refl, refl, refl, refl)

-- a form that was withdrawn and is added again goes to the end
lists :
    (after_calls (adds a ∷ adds b ∷ withdraws a ∷ counts a ∷ adds a ∷ []) (empty (sevens 20)) ≡ record { buffer = one_b ++ one_a ++ sevens 1; used = 19 })
    × (accepted_of (is_add a) (adds a ∷ adds a ∷ withdraws b ∷ adds b ∷ []) (empty (sevens 9)) ≡ 2)
    × (accepted_of (is_withdrawal b) (adds a ∷ withdraws b ∷ []) (empty (sevens 9)) ≡ 0)
    × (became_by (adds a ∷ adds b ∷ withdraws a ∷ adds b ∷ adds a ∷ []) (empty (sevens 20)) [] ≡ b ∷ a ∷ [])
    × (bytes_of (entry a 1 ∷ entry b 1 ∷ []) ≡ one_a ++ one_b)
unfolding after_calls accepted_of became_by bytes_of length_check utf8_check utf8_end written
lists = (refl, refl, refl, refl, refl)
