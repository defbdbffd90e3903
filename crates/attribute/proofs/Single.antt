-- What a stop stands for at a depth: a reference without an end, a number, a name, return by return. Assumes nothing.
use mathlib.Core.Path.{◌≡◌, refl, sym, ap, ◌∙◌}
use mathlib.Core.Logic.{◌≢◌}
use mathlib.Core.Bool.{Bool, true, false, true≢false}
use mathlib.Core.List.{List, [], ◌∷◌}
use Prim.Native.Nat.{ℕ, zero, suc, ◌+◌, ◌-◌, ◌<◌}
use native.Mathlib.Omega.{arith}
use native.Mathlib.Numerals.{add-one}
use lib.Dec.{eqb}
use lib.ListN.{length, get_or, take, drop}
use borrow.Author.Tests.{eq-eqb, ne_eqb, eqb-true, eqb-false}
use Rattle.text.specs.Bytes.{pick, same_bytes}
use Rattle.entity.specs.Table.{part}
use Rattle.entity.specs.Binding.{Bound, text, external, predefined, unknown, predefined_of, binding, bound_to}
use Rattle.entity.specs.declared.Binding.TheVariants.{Text, External, Predefined, Unknown}
use Rattle.entity.proofs.Referents.{predefined_binding}
use Rattle.output.specs.Runs.{Plain}
use Rattle.output.proofs.Runs.{plain_byte}
use Rattle.tokens.specs.Tokens.{Token, Head, Heads, token_of, skip_of, name_at, reference_at, tokens}
use Rattle.tokens.specs.Outcome.{Outcome, done, refused, run, number_outcome}
use Rattle.tokens.specs.Walking.{NameEnd, head_at, next_at, outcome_of}
use Rattle.tokens.proofs.Progress.{run_whole}
use Rattle.tokens.proofs.References.{reference_none, reference_number, reference_named, name_size}
use Rattle.attribute.specs.Walk.{Settings, opened, answer, walk}
use Rattle.halts.specs.Halts.{stop_byte}
use Rattle.attribute.specs.Steps.{heads_by, Refers, stop_answer, outcome_at, amp_or}
use Rattle.attribute.proofs.Stops.{heads_copy}

-- ---- a stop at a depth

module _ (s : Settings) where
  pub walk_run : (at : Heads) (depth : ℕ) (t : List ℕ) (n : ℕ) → walk s at depth t n ≡ run (stop_answer s depth) (tokens at 0 0 t) n
  unfolding walk stop_answer
  walk_run at zero t n = refl
  walk_run at (suc depth) t n = refl

  pub stop_deeper : (depth : ℕ) → depth ≢ 0 → (t : Token) (n : ℕ) → outcome_of (stop_answer s depth) t n ≡ outcome_of (answer s (λ u m. walk s s.inner (depth - 1) u m)) t n
  unfolding stop_answer
  stop_deeper zero e t n = absurd (e refl)
  stop_deeper (suc depth) e t n = let q : suc depth - 1 ≡ depth = omega arith in rw q

-- a text without stops, walked, is itself at every depth
pub walk_plain : (s : Settings) (how depth : ℕ) (t : List ℕ) (n : ℕ) → Plain (stop_byte (eqb how 1)) t 0 (length t) → walk s (heads_by how) depth t n ≡ done t n
walk_plain s how depth t n p =
    walk_run s (heads_by how) depth t n ∙ run_whole (heads_by how) (stop_answer s depth) t (stop_byte (eqb how 1)) (heads_copy how) n p

-- ---- what a name is bound to, `amp` aside

module _ (name : List ℕ) (bound : Bound) where
  abbrev is_amp : Bool
  is_amp = same_bytes name (97 ∷ 109 ∷ 112 ∷ [])

  -- bound to anything but the predefined `&`: then the name is not `amp`
  amp_other : (b : Bound) → predefined (38 ∷ []) ≢ b → amp_or name bound ≡ b → (is_amp ≡ false) × (bound ≡ b)
  amp_other b differs e = go is_amp refl e
    where
      go : (x : Bool) → is_amp ≡ x → pick x (predefined (38 ∷ [])) bound ≡ b → (is_amp ≡ false) × (bound ≡ b)
      go true q k = absurd (differs k)
      go false q k = (q, k)

  amp_predefined : {X : Type 0} (c : ℕ) → amp_or name bound ≡ predefined (c ∷ []) → (is_amp ≡ true → c ≡ 38 → X) → (is_amp ≡ false → bound ≡ predefined (c ∷ []) → X) → X
  amp_predefined {X} c e yes' no' = go is_amp refl e
    where
      go : (x : Bool) → is_amp ≡ x → pick x (predefined (38 ∷ [])) bound ≡ predefined (c ∷ []) → X
      go true q k = let z : c ≡ 38 = cc in yes' q z
      go false q k = no' q k

-- ---- a reference, whose `&` is at `at` and whose name ends at `end`

module _ (heads : Heads) (refers : Refers heads) (s : Settings) (depth : ℕ) (deep : depth ≢ 0) (t : List ℕ) (at n end : ℕ)
    (amp : get_or t at 0 ≡ 38) (e : NameEnd false t (at + 1) end) where
  -- the walk over a replacement text
  abbrev below : List ℕ → ℕ → Outcome
  below u m = walk s s.inner (depth - 1) u m

  head_reference : head_at heads t at ≡ reference_at at (drop (at + 1) t) (name_at false (drop (at + 1) t))
  head_reference = ap (λ (b : ℕ). heads at b (drop (at + 1) t)) amp ∙ refers at (drop (at + 1) t)

  by_head : (d : Head) → head_at heads t at ≡ d → outcome_at s heads depth t at n ≡ outcome_of (answer s below) (token_of d) n
  by_head d q = stop_deeper s depth deep (token_of (head_at heads t at)) n ∙ ap (λ (h : Head). outcome_of (answer s below) (token_of h) n) q

  -- refusal 10
  pub at_none : end ≡ length t → outcome_at s heads depth t at n ≡ refused [] n 10 at end
  unfolding answer
  at_none q = by_head _ (head_reference ∙ reference_none false t at end e q)

  module _ (h : end < length t) where
    pub next_offset : next_at heads t at ≡ end + 1
    next_offset = go (eqb (get_or t (at + 1) 0) 35) refl
      where
        sized : (d : Head) → skip_of d ≡ end - at → head_at heads t at ≡ d → next_at heads t at ≡ end + 1
        sized d k q =
            let m : at + 1 + (end - at) ≡ end + 1 = omega (arith, e.from) in
            ap (λ (x : Head). at + 1 + skip_of x) q ∙ ap (λ (x : ℕ). at + 1 + x) k ∙ m

        go : (x : Bool) → eqb (get_or t (at + 1) 0) 35 ≡ x → next_at heads t at ≡ end + 1
        go true b = sized _ refl (head_reference ∙ reference_number false t at end e h (eqb-true (get_or t (at + 1) 0) 35 b))
        go false b = sized _ refl (head_reference ∙ reference_named false t at end e h (eqb-false (get_or t (at + 1) 0) 35 b))

    pub at_number : get_or t (at + 1) 0 ≡ 35 → outcome_at s heads depth t at n ≡ number_outcome s.legal (take (end - (at + 1 + 1)) (drop (at + 1 + 1) t)) n
    unfolding answer
    at_number b = by_head _ (head_reference ∙ reference_number false t at end e h b)

    module _ (b : get_or t (at + 1) 0 ≢ 35) (bound : Bound) (is : s.bind (take (end - (at + 1)) (drop (at + 1) t)) ≡ bound) (pool : List ℕ) where
      abbrev name : List ℕ
      name = take (end - (at + 1)) (drop (at + 1) t)

      at_name : (x : Bool) → same_bytes name (97 ∷ 109 ∷ 112 ∷ []) ≡ x
          → outcome_at s heads depth t at n ≡ pick x (done (38 ∷ []) n) (opened s.limit below at name bound n)
      unfolding answer
      at_name x q = by_head _ (head_reference ∙ reference_named false t at end e h b) ∙ rw (q, is)

      module _ (a z : ℕ) (same : bound_to pool (Text a z) ≡ amp_or name bound) where
        as_text : (same_bytes name (97 ∷ 109 ∷ 112 ∷ []) ≡ false) × (bound ≡ text (part pool a (z - a)))
        unfolding bound_to
        as_text = amp_other name bound (text (part pool a (z - a))) (λ q. let z : ◌≡◌ {A = ℕ} 0 1 = cc in omega (arith, z)) (sym same)

        -- refusal 17
        pub at_limit : n ≡ s.limit → outcome_at s heads depth t at n ≡ refused [] n 17 at 0
        unfolding opened
        at_limit q = at_name false as_text.0 ∙ rw (as_text.1, eq-eqb n s.limit q)

        pub at_text : n ≢ s.limit → outcome_at s heads depth t at n ≡ walk s s.inner (depth - 1) (take (z - a) (drop a pool)) (n + 1)
        unfolding opened part
        at_text q = at_name false as_text.0 ∙ rw (as_text.1, ne_eqb n s.limit q, add-one n)

      -- refusal 27
      pub at_external : bound_to pool External ≡ amp_or name bound → outcome_at s heads depth t at n ≡ refused [] n 27 at 0
      unfolding bound_to opened
      at_external same =
          let k = amp_other name bound external (λ q. let z : ◌≡◌ {A = ℕ} 0 1 = cc in omega (arith, z)) (sym same) in
          at_name false k.0 ∙ rw k.1

      -- refusal 11
      pub at_unknown : bound_to pool Unknown ≡ amp_or name bound → outcome_at s heads depth t at n ≡ refused [] n 11 (at + 1) end
      unfolding bound_to opened
      at_unknown same =
          let k = amp_other name bound unknown (λ q. let z : ◌≡◌ {A = ℕ} 0 1 = cc in omega (arith, z)) (sym same) in
          let z : suc at + length name ≡ end = rw (name_size false t at end e h) (omega (arith, e.from)) in
          at_name false k.0 ∙ rw (k.1, z, add-one at)

      pub at_predefined : (c : ℕ) → bound_to pool (Predefined c) ≡ amp_or name bound
          → (same_bytes name (97 ∷ 109 ∷ 112 ∷ []) ≡ false → bound ≡ predefined (c ∷ []) → walk s s.inner (depth - 1) (c ∷ []) n ≡ done (c ∷ []) n)
          → outcome_at s heads depth t at n ≡ done (c ∷ []) n
      unfolding bound_to opened
      at_predefined c same itself =
          amp_predefined name bound c (sym same) (λ x y. at_name true x ∙ rw y) (λ x y. at_name false x ∙ rw y (itself x y))

-- ---- predefined texts hold no stop

-- what holds of `<`, `>`, `'` and `"` holds of every predefined text but that of `amp`
pub one_of_four : (P : ℕ → Type 0) → P 60 → P 62 → P 39 → P 34 → (name : List ℕ) (c : ℕ) → same_bytes name (97 ∷ 109 ∷ 112 ∷ []) ≡ false
    → predefined_of name ≡ predefined (c ∷ []) → P c
unfolding predefined_of
one_of_four P lt gt apos quot name c no_amp e =
    go (same_bytes name (108 ∷ 116 ∷ [])) (same_bytes name (103 ∷ 116 ∷ [])) (same_bytes name (97 ∷ 109 ∷ 112 ∷ []))
    (same_bytes name (97 ∷ 112 ∷ 111 ∷ 115 ∷ [])) (same_bytes name (113 ∷ 117 ∷ 111 ∷ 116 ∷ [])) no_amp e
  where
    go : (l g a p q : Bool) → a ≡ false
        → pick l (predefined (60 ∷ [])) (pick g (predefined (62 ∷ [])) (pick a (predefined (38 ∷ [])) (pick p (predefined (39 ∷ [])) (pick q (predefined (34 ∷ [])) unknown)))) ≡ predefined (c ∷ [])
        → P c
    go true g a p q f k = let z : c ≡ 60 = cc in rw z lt
    go false true a p q f k = let z : c ≡ 62 = cc in rw z gt
    go false false true p q f k = absurd (true≢false f)
    go false false false true q f k = let z : c ≡ 39 = cc in rw z apos
    go false false false false true f k = let z : c ≡ 34 = cc in rw z quot
    go false false false false false f k = let z : ◌≡◌ {A = ℕ} 0 1 = cc in absurd (omega arith)

plain_predefined : (newer : Bool) (name : List ℕ) (c : ℕ) → same_bytes name (97 ∷ 109 ∷ 112 ∷ []) ≡ false → predefined_of name ≡ predefined (c ∷ []) → stop_byte newer c ≡ false
plain_predefined true = one_of_four (λ c. stop_byte true c ≡ false) refl refl refl refl
plain_predefined false = one_of_four (λ c. stop_byte false c ≡ false) refl refl refl refl

-- such a text, walked, is itself
pub walk_predefined : (s : Settings) (how : ℕ) (list pool name : List ℕ) (depth c n : ℕ) → same_bytes name (97 ∷ 109 ∷ 112 ∷ []) ≡ false
    → binding list pool name ≡ predefined (c ∷ []) → walk s (heads_by how) depth (c ∷ []) n ≡ done (c ∷ []) n
unfolding binding
walk_predefined s how list pool name depth c n no_amp e =
    walk_plain s how depth (c ∷ []) n
    (plain_byte (stop_byte (eqb how 1)) (c ∷ []) 0 (omega arith) (plain_predefined (eqb how 1) name c no_amp (predefined_binding list pool name (c ∷ []) e)))
