-- All declarations of a text, one after the other (`Gathered`): what was read, written and left at each turn. Assumes nothing.
use mathlib.Core.Path.{◌≡◌, refl, sym, ap, ◌∙◌}
use mathlib.Core.Bool.{Bool}
use mathlib.Core.List.{List, [], ◌∷◌, ◌++◌, append_assoc, append-nil}
use Prim.Native.Nat.{ℕ, zero, suc, ◌+◌, ◌-◌, ◌*◌, ◌≤◌, ◌<◌, min, zero-le}
use native.Mathlib.Omega.{arith}
use lib.ListN.{length, length-append}
use borrow.Rule.Slice.PartMut.{mid_of, put_mid}
use Rattle.text.specs.Call.{longest_text}
use Rattle.output.specs.Over.{over}
use Rattle.output.proofs.Clip.{over_more, length_over}
use Rattle.table_grammar.specs.EntityValue.{Read, read, departs, exceeds, refused, onward, after_space}
use Rattle.table_grammar.specs.EntityDecl.{Entity, entity, no_more, one_more, entities_at, entities}
use Rattle.table_grammar.specs.TableWritten.{command_at, command_of, commands_from, pool_of, most}
use Rattle.table_names.specs.NameTerms.{left}
use Rattle.table_values.specs.ValueSteps.{fault, KeptFault, Spaced}
use Rattle.table_declarations.specs.DeclarationSteps.{MeetsEntity, MeetsAll}
use Rattle.table_values.specs.declared.Fault.{Fault}
use Rattle.table_declarations.specs.declared.Declared.{Declared}
use Rattle.std.specs.Prelude.{Ok, Err}
use Rattle.table_values.proofs.LeftPlaces.{left_end}
use Rattle.table_values.proofs.Literals.{headed}
use Rattle.table_values.proofs.EntityValues.{fault_onward, fault_same, fault_length, put_same}
use Rattle.table_grammar.proofs.ValidTables.{commands_length}

-- these, and then what a reader gives
abbrev pub after : List Entity → Read (List Entity) → Read (List Entity)
after es r = onward r (λ fs end. read (es ++ fs) end)

after_none : (r : Read (List Entity)) → after [] r ≡ r
after_none (read es end) = refl
after_none (departs rest) = refl
after_none (exceeds rest) = refl
after_none (refused number first) = refl

after_one : (es : List Entity) (e : Entity) (r : Read (List Entity)) → after es (onward r (λ fs end. read (e ∷ fs) end)) ≡ after (es ++ e ∷ []) r
after_one es e (read fs end) = ap (λ (l : List Entity). read l end) (sym (append_assoc es (e ∷ []) fs))
after_one es e (departs rest) = refl
after_one es e (exceeds rest) = refl
after_one es e (refused number first) = refl

-- ---- one entity more in list and pool

pool_append : (es : List Entity) (e : Entity) → pool_of (es ++ e ∷ []) ≡ pool_of es ++ (e.name ++ e.value)
unfolding pool_of
pool_append [] e = ap (λ (l : List ℕ). e.name ++ l) (append-nil e.value)
pool_append (f ∷ es) e =
    ap (λ (l : List ℕ). f.name ++ (f.value ++ l)) (pool_append es e)
    ∙ ap (λ (l : List ℕ). f.name ++ l) (sym (append_assoc f.value (pool_of es) (e.name ++ e.value)))
    ∙ sym (append_assoc f.name (f.value ++ pool_of es) (e.name ++ e.value))

pool_length_lem : (f : Entity) (es : List Entity) (p : ℕ) → p + length (pool_of (f ∷ es)) ≡ p + length f.name + length f.value + length (pool_of es)
unfolding pool_of
pool_length_lem f es p = omega (arith, length-append f.name (f.value ++ pool_of es), length-append f.value (pool_of es))

commands_append : (p : ℕ) (es : List Entity) (e : Entity) → commands_from p (es ++ e ∷ []) ≡ commands_from p es ++ command_of (p + length (pool_of es)) e
commands_append p [] e =
    let q : p ≡ p + length (pool_of []) = unfold pool_of in omega arith in
    one p ∙ ap (λ (n : ℕ). commands_from p [] ++ command_of n e) q
  where
    one : (p : ℕ) → commands_from p (e ∷ []) ≡ commands_from p [] ++ command_of p e
    one p = unfold commands_from in append-nil (command_of p e)
commands_append p (f ∷ es) e =
    let n = p + length f.name + length f.value in
    step p f (es ++ e ∷ [])
    ∙ ap (λ (l : List ℕ). command_of p f ++ l) (commands_append n es e ∙ ap (λ (k : ℕ). commands_from n es ++ command_of k e) (sym (pool_length_lem f es p)))
    ∙ sym (append_assoc (command_of p f) (commands_from n es) (command_of (p + length (pool_of (f ∷ es))) e))
    ∙ ap (λ (l : List ℕ). l ++ command_of (p + length (pool_of (f ∷ es))) e) (sym (step p f es))
  where
    step : (p : ℕ) (f : Entity) (es : List Entity) → commands_from p (f ∷ es) ≡ command_of p f ++ commands_from (p + length f.name + length f.value) es
    step p f es = unfold commands_from in refl

command_same : (e : Entity) {start n v x : ℕ} → start ≡ x → n ≡ length e.name → v ≡ length e.value → command_at start n v ≡ command_of x e
unfolding command_of
command_same e p q r = rw (p, q, r)

-- ---- what was gathered so far

pub record Gathered (newer : Bool) (t list pool list' pool' : List ℕ) (i count used : ℕ) : Type 0 where
  pub found : List Entity
  pub more : ℕ
  pub to : i ≤ length t
  pub on : entities most (left newer t 0) ≡ after found (entities_at more (left newer t i))
  pub counted : count ≡ length found
  pub spare : count + more ≡ most
  pub sized : used ≡ length (pool_of found)
  pub small : used ≤ 4 * i
  pub commands : list' ≡ over (commands_from 0 found) list
  pub texts : pool' ≡ over (pool_of found) pool

pub gathered_start : (newer : Bool) (t list pool : List ℕ) {i : ℕ} → Spaced newer t 0 i → Gathered newer t list pool list pool i 0 0
gathered_start newer t list pool {i} s =
    record {
      found = [];
      more = most;
      to = s.to;
      on = begun (left newer t 0) ∙ ap (entities_at most) s.rest ∙ sym (after_none (entities_at most (left newer t i)));
      counted = refl;
      spare = refl;
      sized = unfold pool_of in refl;
      small = zero-le;
      commands = unfold commands_from in refl;
      texts = unfold pool_of in refl;
    }
  where
    begun : (l : List ℕ) → entities most l ≡ entities_at most (after_space l)
    begun l = unfold entities in refl

module _ {newer : Bool} {t list pool list' pool' : List ℕ} {i count used : ℕ} (g : Gathered newer t list pool list' pool' i count used) where
  pub gathered_list : length list' ≡ length list
  gathered_list = ap length g.commands ∙ length_over (commands_from 0 g.found) list

  pub gathered_pool : length pool' ≡ length pool
  gathered_pool = ap length g.texts ∙ length_over (pool_of g.found) pool

  -- the text is over
  pub gathered_all : length t ≤ i → length t ≤ longest_text → MeetsAll newer t list pool list' pool' (Ok (record { count = count; pool = used }))
  gathered_all h short =
      record {
        found = g.found;
        is = g.on ∙ ap (λ (l : List ℕ). after g.found (entities_at g.more l)) (left_end newer t i h) ∙ over_at g.more ∙ ap (λ (l : List Entity). read l []) (append-nil g.found);
        kept =
            record {
              counted = g.counted;
              sized = g.sized;
              few = omega (arith, g.spare);
              small = omega (arith, g.small, g.to);
              commands = g.commands;
              texts = g.texts;
            };
      }
    where
      over_at : (m : ℕ) → after g.found (entities_at m []) ≡ read (g.found ++ []) []
      over_at zero = unfold entities_at in refl
      over_at (suc m) = unfold entities_at in refl

  -- one declaration too many
  pub gathered_beyond : count ≡ most → (f : Fault) → no_more (left newer t i) ≡ fault newer t f → KeptFault t pool pool f
      → MeetsAll newer t list pool list' pool' (Err f)
  gathered_beyond e f is k =
      record {
        found = [];
        is =
            g.on ∙ ap (λ (m : ℕ). after g.found (entities_at m (left newer t i))) none_left ∙ none_at (left newer t i)
            ∙ ap (after g.found) is ∙ fault_onward newer t f (λ fs end. read (g.found ++ fs) end);
        kept = (fault_same t pool pool pool pool' f k gathered_pool, gathered_list);
      }
    where
      none_left : g.more ≡ 0
      none_left = omega (arith, g.spare, e)

      none_at : (l : List ℕ) → after g.found (entities_at 0 l) ≡ after g.found (no_more l)
      none_at l = unfold entities_at in refl

  -- one more
  module _ (h : i < length t) (n : count ≡ most → ⊥) where
    spare_one : (m : ℕ) → g.more ≡ suc m → entities_at g.more (left newer t i) ≡ onward (entity (left newer t i)) (λ e rest. onward (entities_at m (after_space rest)) (λ es end. read (e ∷ es) end))
    spare_one m e =
        let z = headed newer t i h in
        ap (λ (k : ℕ). entities_at k (left newer t i)) e ∙ ap (entities_at (suc m)) z.is ∙ one z.byte z.rest
        ∙ ap (λ (l : List ℕ). onward (entity l) (λ e rest. onward (entities_at m (after_space rest)) (λ es end. read (e ∷ es) end))) (sym z.is)
      where
        one : (b : ℕ) (bs : List ℕ) → entities_at (suc m) (b ∷ bs) ≡ onward (entity (b ∷ bs)) (λ e rest. onward (entities_at m (after_space rest)) (λ es end. read (e ∷ es) end))
        one b bs = unfold entities_at in unfold one_more in refl

    some_left : (m : ℕ) → g.more ≡ m → (m ≡ 0 → ⊥)
    some_left m e q = n (omega (arith, g.spare, e, q))

    module _ {part : List ℕ} {w : ℕ} (least : w ≡ min used (length pool')) where
      pub gathered_stopped : {f : Fault} → MeetsEntity newer t i (entity (left newer t i)) (mid_of w (length pool' - w) pool') part (Err f)
          → MeetsAll newer t list pool list' (put_mid w (length pool' - w) pool' part) (Err f)
      gathered_stopped {f} m = go g.more refl
        where
          go : (k : ℕ) → g.more ≡ k → MeetsAll newer t list pool list' (put_mid w (length pool' - w) pool' part) (Err f)
          go zero q = absurd (some_left zero q refl)
          go (suc k) q =
              let then = λ (e : Entity) (rest : List ℕ). onward (entities_at k (after_space rest)) (λ es end. read (e ∷ es) end) in
              record {
                found = [];
                is =
                    g.on ∙ ap (after g.found) (spare_one k q ∙ ap (λ (r : Read Entity). onward r then) m.is ∙ fault_onward newer t f then)
                    ∙ fault_onward newer t f (λ fs end. read (g.found ++ fs) end);
                kept = (
                  fault_same t (mid_of w (length pool' - w) pool') part pool (put_mid w (length pool' - w) pool' part) f m.kept
                      (put_same w pool' part (omega (arith, least)) (fault_length t (mid_of w (length pool' - w) pool') part f m.kept) ∙ gathered_pool),
                  gathered_list,
                );
              }

      pub gathered_more : {d : Declared} {next v : ℕ} {command : List ℕ} → MeetsEntity newer t i (entity (left newer t i)) (mid_of w (length pool' - w) pool') part (Ok d)
          → v ≡ min (12 * count) (length list') → command ≡ over (command_at used d.name d.value) (mid_of v (length list' - v) list') → Spaced newer t d.at next
          → Gathered newer t list pool (put_mid v (length list' - v) list' command) (put_mid w (length pool' - w) pool' part) next (count + 1) (used + (d.name + d.value))
      gathered_more {d} {next} {v} {command} m fits c s = go g.more refl
        where
          e : Entity
          e = m.entity

          go : (k : ℕ) → g.more ≡ k → Gathered newer t list pool (put_mid v (length list' - v) list' command) (put_mid w (length pool' - w) pool' part) next (count + 1) (used + (d.name + d.value))
          go zero q = absurd (some_left zero q refl)
          go (suc k) q =
              record {
                found = g.found ++ e ∷ [];
                more = k;
                to = s.to;
                on =
                    g.on
                    ∙ ap (after g.found)
                    (spare_one k q ∙ ap (λ (r : Read Entity). onward r (λ e rest. onward (entities_at k (after_space rest)) (λ es end. read (e ∷ es) end))) m.is
                    ∙ ap (λ (l : List ℕ). onward (entities_at k l) (λ es end. read (e ∷ es) end)) s.rest)
                    ∙ after_one g.found e (entities_at k (left newer t next));
                counted = omega (arith, g.counted, length-append g.found (e ∷ []));
                spare = omega (arith, g.spare, q);
                sized =
                    omega (
                      arith,
                      g.sized,
                      ap length (pool_append g.found e),
                      length-append (pool_of g.found) (e.name ++ e.value),
                      length-append e.name e.value,
                      m.kept.named,
                      m.kept.valued,
                    );
                small = omega (arith, g.small, m.kept.small, s.from);
                commands =
                    over_more (commands_from 0 g.found) (command_at used d.name d.value) list g.commands (omega (arith, commands_length 0 g.found, g.counted)) fits c
                    ∙ ap (λ (l : List ℕ). over l list) (ap (λ (l : List ℕ). commands_from 0 g.found ++ l)
                    (command_same e {x = 0 + length (pool_of g.found)} (omega (arith, g.sized)) m.kept.named m.kept.valued) ∙ sym (commands_append 0 g.found e));
                texts =
                    over_more (pool_of g.found) (e.name ++ e.value) pool g.texts g.sized least m.kept.holds
                    ∙ ap (λ (l : List ℕ). over l pool) (sym (pool_append g.found e));
              }
