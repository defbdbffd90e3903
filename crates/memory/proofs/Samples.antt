-- Small tables by computation: what the laws ask for is needed, and can be had (`counted`, `f_opened`). Assumes nothing.
use mathlib.Core.Path.{◌≡◌, refl, sym, ap, subst, ◌∙◌}
use mathlib.Core.Bool.{Bool, true, false, ◌&&◌}
use mathlib.Core.List.{List, [], ◌∷◌}
use Prim.Native.Nat.{ℕ, zero, suc, ◌≤◌, ◌<◌}
use native.Mathlib.Omega.{arith}
use lib.Dec.{ltb}
use lib.ListN.{length, get_or, drop, replicate}
use borrow.Author.Tests.{ltb-true}
use Rattle.text.proofs.Bytes.{and_left, and_right}
use Rattle.text.proofs.Utf8.{ascii_well_formed}
use Rattle.entity.specs.Binding.{text, binding}
use Rattle.entity.specs.Table.{part, little_endian, table_check, ValidTable}
use Rattle.entity.specs.Commands.{command_name, command_text, Defines}
use Rattle.legal.specs.FirstFault.{Clean}
use Rattle.halts.specs.Halts.{halts, Smooth}
use Rattle.text.specs.Answers.{Done}
use Rattle.tokens.specs.Tokens.{named}
use Rattle.tokens.specs.Outcome.{done, refused}
use Rattle.attribute.specs.Walk.{Settings, walk}
use Rattle.tokens.specs.Walking.{Next}
use Rattle.attribute.specs.Heads.{attribute_head}
use Rattle.attribute.specs.Steps.{fault_by, stop_answer}
use Rattle.memory.specs.Slots.{opening, shaped, slot_of, plain_word, Memory, kept_in}
use Rattle.memory.specs.Levels.{settings_by, Level, level_of, Came, Opens, Finishes, Opened}
use Rattle.memory.proofs.Keeping.{memory_start}
use Rattle.memory.specs.declared.Reading.{Reading}
use Rattle.memory.proofs.Fitted.{adds_none}
use Rattle.memory.proofs.Levels.{place_of, came_start, came_end, taken_full, opened_walked, opened_next, finishes_end}
use Rattle.memory.proofs.Readings.{by_sound, inner_level_lem, read_opens, read_taken, came_leaf}

-- ---- a name that is hidden by an earlier command: e = `x`, e = `y`

abbrev twice : List ℕ
twice = 1 ∷ 0 ∷ 0 ∷ 0 ∷ 0 ∷ 1 ∷ 1 ∷ 0 ∷ 0 ∷ 0 ∷ 1 ∷ 0 ∷ 1 ∷ 0 ∷ 0 ∷ 0 ∷ 0 ∷ 1 ∷ 2 ∷ 0 ∷ 0 ∷ 0 ∷ 1 ∷ 0 ∷ 0 ∷ []

abbrev exy : List ℕ
exy = 101 ∷ 120 ∷ 121 ∷ []

-- both commands have the name, the second has another text than the name is bound to
hidden : (command_name twice exy 12 ≡ 101 ∷ []) × (binding twice exy (101 ∷ []) ≡ text (120 ∷ [])) × (command_text twice exy 12 ≡ 121 ∷ [])
unfolding part little_endian binding
hidden = (refl, refl, refl)

-- so it is no command for a slot
not_hidden : Defines twice exy 12 → ⊥
not_hidden d =
    let z : text (120 ∷ []) ≡ text (121 ∷ []) =
    sym hidden.1 ∙ ap (binding twice exy) (sym hidden.0) ∙ d.binds ∙ ap text hidden.2 in
    let k : ◌≡◌ {A = ℕ} 120 121 = cc in
    omega (arith, k)

-- the first is
first : Defines twice exy 0
unfolding part little_endian binding
first = record { fits = omega arith; name = omega arith; inside = omega arith; short = omega arith; binds = refl }

-- ---- depths, openings and the limit: e = TAB, f = `&e;`, amp = `X`

abbrev list : List ℕ
list =
    1 ∷ 0 ∷ 0 ∷ 0 ∷ 0 ∷ 1 ∷ 1 ∷ 0 ∷ 0 ∷ 0 ∷ 1 ∷ 0
    ∷ 1 ∷ 2 ∷ 0 ∷ 0 ∷ 0 ∷ 1 ∷ 3 ∷ 0 ∷ 0 ∷ 0 ∷ 3 ∷ 0
    ∷ 1 ∷ 6 ∷ 0 ∷ 0 ∷ 0 ∷ 3 ∷ 9 ∷ 0 ∷ 0 ∷ 0 ∷ 1 ∷ 0
    ∷ 0 ∷ []

abbrev pool : List ℕ
pool = 101 ∷ 9 ∷ 102 ∷ 38 ∷ 101 ∷ 59 ∷ 97 ∷ 109 ∷ 112 ∷ 88 ∷ []

-- with limit 2
s : Settings
s = settings_by 0 0 list pool 2

-- a leaf with a blank is refused at depth 1 and stands at depth 2: the 2 is needed
leaf_depth : (opening s 1 (9 ∷ []) 0 ≡ refused [] 1 16 0 0) × (opening s 2 (9 ∷ []) 0 ≡ done (32 ∷ []) 1)
unfolding s settings_by attribute_head walk
leaf_depth = (refl, refl)

-- f takes two openings and depth 3; after one opening the limit refuses, so m + o ≤ limit is needed, and a refusal is no fact of the text
limits : (opening s 2 (38 ∷ 101 ∷ 59 ∷ []) 0 ≡ refused [] 2 16 0 0) × (opening s 3 (38 ∷ 101 ∷ 59 ∷ []) 0 ≡ done (32 ∷ []) 2)
    × (opening s 3 (38 ∷ 101 ∷ 59 ∷ []) 1 ≡ refused [] 2 17 0 0)
unfolding s settings_by attribute_head walk
limits = (refl, refl, refl)

-- at the limit `opening` itself says nothing of the reference, which is refused before: the openings of a slot are at least 1
at_limit : (opening s 2 (9 ∷ []) 2 ≡ done (32 ∷ []) 3) × (stop_answer s 2 (named 0 (101 ∷ [])) 2 ≡ refused [] 2 17 0 0)
unfolding s settings_by attribute_head walk stop_answer
at_limit = (refl, refl)

-- at depth 0 every stop is refused, whatever `opening` says there: a slot is not asked at depth 0
at_zero : (opening s 0 (120 ∷ []) 0 ≡ done (120 ∷ []) 1) × (stop_answer s 0 (named 0 (101 ∷ [])) 0 ≡ refused [] 0 16 0 0)
unfolding s settings_by attribute_head walk stop_answer
at_zero = (refl, refl)

-- the table's `amp` is never opened
amp_aside : (binding list pool (97 ∷ 109 ∷ 112 ∷ []) ≡ text (88 ∷ [])) × (stop_answer s 2 (named 0 (97 ∷ 109 ∷ 112 ∷ [])) 0 ≡ done (38 ∷ []) 0)
unfolding s settings_by attribute_head walk stop_answer binding
amp_aside = (refl, refl)

-- and would share the word of `quot`
amp_word : plain_word 38 ≡ plain_word 34
amp_word = refl

-- ---- a walk by the laws, as a count: `&e;&e;` at depth 2. The first is a leaf and is kept, the second is had again

abbrev ee : List ℕ
ee = 38 ∷ 101 ∷ 59 ∷ 38 ∷ 101 ∷ 59 ∷ []

defines_e : Defines list pool 0
unfolding part little_endian binding
defines_e = record { fits = omega arith; name = omega arith; inside = omega arith; short = omega arith; binds = refl }

smooth_e : Smooth false (command_text list pool 0) 0 (length (command_text list pool 0))
unfolding part little_endian
smooth_e = record { from = omega arith; to = omega arith; none = none }
  where
    none : (k : ℕ) → 0 ≤ k → k < 1 → halts false (drop k (9 ∷ [])) ≡ false
    none zero g h = refl
    none (suc k) g h = absurd (omega (arith, h))

clean_e : Clean (fault_by 0) (command_text list pool 0) 0 (length (command_text list pool 0))
unfolding part little_endian
clean_e = record { from = omega arith; to = omega arith; none = λ k g h. refl }

-- the reading as XML 1.0, at a depth
abbrev rd : ℕ → Reading
rd depth = record { how = 0; inner = 0; guard = 0; inguard = 0; form = 0; depth = depth; limit = 2; base = 0 }

abbrev outer : ℕ → List ℕ → Level
outer depth t = level_of (rd depth) list pool t

abbrev S : Settings
S = settings_by 0 0 list pool 2

abbrev bytes_only : List ℕ → Bool
bytes_only [] = true
bytes_only (b ∷ bs) = ltb b 256 && bytes_only bs

small : (l : List ℕ) → bytes_only l ≡ true → (k : ℕ) → get_or l k 0 < 0x100
small [] e k = omega arith
small (b ∷ bs) e zero = ltb-true b 256 (and_left (ltb b 256) (bytes_only bs) e)
small (b ∷ bs) e (suc k) = small bs (and_right (ltb b 256) (bytes_only bs) e) k

bytes : (k : ℕ) → get_or list k 0 < 0x100
bytes = small list refl

valid : ValidTable list pool
unfolding table_check
valid = refl

-- what is kept of e after n bytes, in the slot 5
abbrev kept_e : List ℕ → ℕ → List ℕ
kept_e words n = kept_in words 5 0 (slot_of 2 n 1 1)

begun : Came (outer 2 ee) [] [] 0 [] (replicate 84 0) 0 0 0
unfolding settings_by
begun = came_start (outer 2 ee) [] [] 0 (ascii_well_formed ee refl) (memory_start S 0 list pool []) (omega arith)

after_leaf : Came (outer 2 ee) [] [] 0 [] (kept_e (replicate 84 0) 0) 3 1 1
unfolding attribute_head part little_endian shaped
after_leaf =
    came_leaf (rd 2) list pool ee (λ q. omega (arith, q)) [] [] 0 begun bytes valid refl {command = 0} (101 ∷ []) (omega arith) (omega arith) (omega arith) refl refl refl
    defines_e refl (λ q. omega (arith, q)) (omega arith) smooth_e clean_e {slot = 5} (omega arith) (adds_none _ 0 [] (omega arith))
    (record { none = λ q. absurd (omega (arith, q)); enters = λ q. refl })

after_again : Came (outer 2 ee) [] [] 0 [] (kept_e (replicate 84 0) 0) 6 2 2
unfolding attribute_head part little_endian
after_again =
    read_taken (rd 2) list pool ee (λ q. omega (arith, q)) [] [] 0 after_leaf bytes valid refl (101 ∷ []) (omega arith) (omega arith) (omega arith) refl refl refl
    defines_e refl {slot = 5} (place_of 3 1 1) (omega arith) refl refl
    (record { is = refl; enough = omega arith; size = refl; opens = refl; within = omega arith; buffer = refl; writes = taken_full 0 1 1 0 (omega arith) })

counted : Finishes (outer 2 ee) [] [] 0 [] (kept_e (replicate 84 0) 0) (Done 2 2)
counted = finishes_end (outer 2 ee) [] [] 0 (came_end (outer 2 ee) [] [] 0 after_again (omega arith))

-- ---- and with an opening: `&f;` at depth 3, whose text `&e;` is walked as a level of its own, for any value before it

abbrev to_e : List ℕ
to_e = 38 ∷ 101 ∷ 59 ∷ []

abbrev to_f : List ℕ
to_f = 38 ∷ 102 ∷ 59 ∷ []

defines_f : Defines list pool 12
unfolding part little_endian binding
defines_f = record { fits = omega arith; name = omega arith; inside = omega arith; short = omega arith; binds = refl }

module _ (v : List ℕ) (none : length v ≡ 0) (m : Memory S 0 list pool v (replicate 84 0)) where
  inner_begun : Came (outer 2 to_e) v [] 1 [] (replicate 84 0) 0 0 1
  unfolding settings_by
  inner_begun = came_start (outer 2 to_e) v [] 1 (ascii_well_formed to_e refl) m (omega arith)

  inner_leaf : Came (outer 2 to_e) v [] 1 [] (kept_e (replicate 84 0) 0) 3 1 2
  unfolding attribute_head part little_endian shaped
  inner_leaf =
      came_leaf (rd 2) list pool to_e (λ q. omega (arith, q)) v [] 1 inner_begun bytes valid none {command = 0} (101 ∷ []) (omega arith) (omega arith) (omega arith) refl refl refl
      defines_e refl (λ q. omega (arith, q)) (omega arith) smooth_e clean_e {slot = 5} (omega arith) (adds_none _ 0 [] (omega arith))
      (record { none = λ q. absurd (omega (arith, q)); enters = λ q. refl })

  inner_whole : Finishes (outer 2 to_e) v [] 1 [] (kept_e (replicate 84 0) 0) (Done 1 2)
  inner_whole = finishes_end (outer 2 to_e) v [] 1 (came_end (outer 2 to_e) v [] 1 inner_leaf (omega arith))

  inner_walked : Opened S 0 list pool 3 12 3 0 v [] [] (kept_e (replicate 84 0) 0) (Next 3 1 2)
  unfolding part little_endian
  inner_walked =
      opened_walked S 0 list pool 3 12 3 0 v [] [] (kept_e (replicate 84 0) 0)
      (subst (λ (l : Level). Finishes l v [] 1 [] (kept_e (replicate 84 0) 0) (Done 1 2)) (sym (inner_level_lem (rd 3) list pool 12 0)) inner_whole)

f_begun : Came (outer 3 to_f) [] [] 0 [] (replicate 84 0) 0 0 0
unfolding settings_by
f_begun = came_start (outer 3 to_f) [] [] 0 (ascii_well_formed to_f refl) (memory_start S 0 list pool []) (omega arith)

f_opens : Opens (outer 3 to_f) [] [] 0 [] (replicate 84 0) 0 3 12 7 0 0
unfolding attribute_head part little_endian
f_opens =
    read_opens (rd 3) list pool to_f (λ q. omega (arith, q)) [] [] 0 f_begun bytes valid refl (102 ∷ []) (omega arith) (omega arith) (omega arith) refl refl refl
    defines_f refl {slot = 7} (omega arith) (λ q. omega (arith, q))

-- after it both e and f are kept
f_opened : Came (outer 3 to_f) [] [] 0 [] (kept_in (kept_e (replicate 84 0) 0) 7 12 (slot_of 3 0 1 2)) 3 1 2
f_opened =
    (opened_next (outer 3 to_f) [] [] 0 f_opens refl {cut = 0} {part = []} refl (by_sound 0 0 list pool 2 bytes valid)
    (inner_walked (shaped 0 f_opens.came.value) f_opens.came.size f_opens.came.memory)
    (record { none = λ q. absurd (omega (arith, q)); enters = λ q. refl })).1
