-- The loop between two openings: what it keeps (`Going`, from `going_start`, by `going_next`), and its four ends (`going_end`, `going_opens`,
-- `going_paused`, `going_stopped`), and `going_barred`. Assumes nothing.
use mathlib.Core.Path.{◌≡◌, refl, sym, subst, ◌∙◌}
use mathlib.Core.Logic.{◌≢◌}
use mathlib.Core.List.{List}
use Prim.Native.Nat.{ℕ, ◌+◌, ◌-◌, ◌*◌, ◌≤◌, ◌<◌}
use native.Mathlib.Omega.{arith}
use native.Mathlib.Nat.{le_refl}
use lib.Dec.{eqb}
use lib.ListN.{length, take, drop}
use Rattle.legal.specs.FirstFault.{Clean, FirstFault}
use Rattle.halts.specs.Halts.{Smooth, HaltAt, blanks_spaced}
use Rattle.attribute.specs.Steps.{fault_by}
use Rattle.memory.specs.Slots.{shaped}
use Rattle.memory.specs.Levels.{Level, level_of, at_depth, Came, Lent, FlatKeeps}
use Rattle.memory.specs.declared.Reading.{Reading}
use Rattle.memory.specs.declared.Place.{Place}
use Rattle.memory.specs.declared.Reached.TheVariants.{End, Opening, Paused}
use Rattle.memory.proofs.Levels.{place_of, came_end}
use Rattle.memory.proofs.Stretches.{smooth_part}
use Rattle.memory.proofs.Readings.{read_at, came_run, run_barred, lent_room, lent_within}
use Rattle.flat.specs.Between.{Writes, HaltKeeps}
use Rattle.flat.specs.declared.Halted.TheVariants.{Next}
use Rattle.flat.specs.declared.Halted.TheVariants.{Opening as Opens, Paused as Pauses}
use Rattle.std.specs.Prelude.{Ok, Err}
use Rattle.text.specs.declared.refusals.Refusal.{Refusal}
use Rattle.text.specs.declared.refusals.Refusal.TheVariants.{ForbiddenCharacter}

-- from the place `p` on, over what the buffers held there, the loop has come to `at`, whose next halt is at `end`, after `met` halts
pub record Going (r : Reading) (t list pool : List ℕ) (p : Place) (old₀ seen₀ old seen : List ℕ) (at end len made met : ℕ) : Type 0 where
  pub halt : HaltAt (eqb r.how 1) t at end
  pub from : p.at ≤ at
  pub few : met ≤ at
  pub buffer : length old ≡ length old₀
  pub words : length seen ≡ length seen₀
  pub came : (d : ℕ) → r.depth ≤ d → (v whole : List ℕ) (begun : ℕ) → length v ≡ r.base
      → Came (at_depth d (level_of r list pool t)) v whole begun old₀ seen₀ p.at p.len p.openings
      → Came (at_depth d (level_of r list pool t)) v whole begun old seen at len made

module _ (r : Reading) (t list pool : List ℕ) (p : Place) (old₀ seen₀ : List ℕ) where
  abbrev l : Level
  l = level_of r list pool t

  pub going_start : {first : ℕ} → HaltAt (eqb r.how 1) t p.at first → Going r t list pool p old₀ seen₀ old₀ seen₀ p.at first p.len p.openings 0
  going_start h = record { halt = h; from = le_refl _; few = omega arith; buffer = refl; words = refl; came = λ d le v whole begun e c. c }

  module _ {old seen : List ℕ} {at end len made met : ℕ} (g : Going r t list pool p old₀ seen₀ old seen at end len made met) (deep : r.depth ≢ 0)
      (lent : Lent l r.base old₀ seen₀ p) where
    -- a greater depth is not used up either
    deep_at : (d : ℕ) → r.depth ≤ d → d ≢ 0
    deep_at d le q = deep (omega (arith, le, q))

    -- what is asked here of calls
    pub going_lent : Lent l r.base old seen (place_of at len made)
    going_lent =
        record { v = lent.v; whole = lent.whole; begun = lent.begun; size = lent.size; came = g.came r.depth (le_refl _) lent.v lent.whole lent.begun lent.size lent.came; room = lent.room }

    pub going_room : r.base + len ≤ 402653184 + 1572840 * made
    going_room = lent_room r list pool t going_lent

    pub going_within : made ≤ r.limit
    going_within = lent_within r list pool t going_lent

    -- a character of the run may not stand: refusal 26, before the run is written
    pub going_barred : {fault : ℕ} → FirstFault (fault_by r.guard) t at end fault → fault ≢ end → FlatKeeps l r.base p old₀ seen₀ old seen (Err (record { refusal = ForbiddenCharacter fault; openings = made }))
    going_barred {fault} f other =
        let inside : fault < end = omega (arith, f.within, other) in
        let smooth : Smooth (eqb r.how 1) t at fault = smooth_part g.halt.smooth f.clean.from f.within in
        record {
          onward = tt;
          buffer = g.buffer;
          words = g.words;
          reaches = λ d le v whole begun e c.
              run_barred (read_at d r) list pool t (deep_at d le) v whole begun (g.came d le v whole begun e c) smooth f.clean (omega (arith, inside, g.halt.smooth.to)) (f.found inside);
        }

    -- after the run up to the halt, in which every character may stand
    module _ (clean : Clean (fault_by r.guard) t at end) {new : List ℕ} {size : ℕ}
        (run : Writes (shaped r.form (blanks_spaced (take (end - at) (drop at t)))) len old new size) where
      abbrev here : Place
      here = place_of end (len + size) made

      run_came : (d : ℕ) → r.depth ≤ d → (v whole : List ℕ) (begun : ℕ) → length v ≡ r.base → Came (at_depth d l) v whole begun old₀ seen₀ p.at p.len p.openings
          → Came (at_depth d l) v whole begun new seen end (len + size) made
      run_came d le v whole begun e c =
          subst (λ (n : ℕ). Came (at_depth d l) v whole begun new seen end (len + n) made) (sym run.0)
          (came_run (read_at d r) list pool t (deep_at d le) v whole begun (g.came d le v whole begun e c) g.halt clean run.1)

      pub run_lent : Lent l r.base new seen here
      run_lent =
          record { v = lent.v; whole = lent.whole; begun = lent.begun; size = lent.size; came = run_came r.depth (le_refl _) lent.v lent.whole lent.begun lent.size lent.came; room = lent.room }

      pub run_room : r.base + (len + size) ≤ 402653184 + 1572840 * made
      run_room = lent_room r list pool t run_lent

      -- the text is at its end
      pub going_end : end ≡ length t → FlatKeeps l r.base p old₀ seen₀ new seen (Ok (End (len + size) made))
      going_end q =
          record {
            onward = tt;
            buffer = run.1.buffer ∙ g.buffer;
            words = g.words;
            reaches = λ d le v whole begun e c. came_end (at_depth d l) v whole begun (run_came d le v whole begun e c) (omega (arith, q));
          }

      module _ {last after : List ℕ} where
        pub going_opens : {next command slot : ℕ} → HaltKeeps l r.base here new seen last after (Ok (Opens next command slot))
            → FlatKeeps l r.base p old₀ seen₀ last after (Ok (Opening end next command slot (len + size) made))
        going_opens k =
            record {
              onward = (omega (arith, g.from, g.halt.smooth.from, k.past.0), k.past.1);
              buffer = k.buffer ∙ run.1.buffer ∙ g.buffer;
              words = k.words ∙ g.words;
              reaches = λ d le v whole begun e c. k.goes d le v whole begun e (run_came d le v whole begun e c);
            }

        pub going_paused : end ≢ length t → HaltKeeps l r.base here new seen last after (Ok Pauses)
            → FlatKeeps l r.base p old₀ seen₀ last after (Ok (Paused here))
        going_paused q k =
            record {
              onward = (omega (arith, g.from, g.halt.smooth.from), omega (arith, q, g.halt.smooth.to), sym g.words ∙ k.past);
              buffer = k.buffer ∙ run.1.buffer ∙ g.buffer;
              words = k.words ∙ g.words;
              reaches = λ d le v whole begun e c. k.goes d le v whole begun e (run_came d le v whole begun e c);
            }

        pub going_stopped : {refusal : Refusal} → HaltKeeps l r.base here new seen last after (Err refusal)
            → FlatKeeps l r.base p old₀ seen₀ last after (Err (record { refusal = refusal; openings = made }))
        going_stopped {refusal} k =
            record {
              onward = tt;
              buffer = k.buffer ∙ run.1.buffer ∙ g.buffer;
              words = k.words ∙ g.words;
              reaches = λ d le v whole begun e c. k.goes d le v whole begun e (run_came d le v whole begun e c);
            }

        -- the halt is passed
        module _ {next more now : ℕ} (k : HaltKeeps l r.base here new seen last after (Ok (Next next more now))) where
          pub going_on : at < next
          going_on = omega (arith, g.halt.smooth.from, k.past.0)

          passed_lent : Lent l r.base last after (place_of next (len + size + more) now)
          passed_lent =
              record {
                v = lent.v;
                whole = lent.whole;
                begun = lent.begun;
                size = lent.size;
                came = k.goes r.depth (le_refl _) lent.v lent.whole lent.begun lent.size (run_came r.depth (le_refl _) lent.v lent.whole lent.begun lent.size lent.came);
                room = lent.room;
              }

          pub going_sum : r.base + (len + size + more) ≤ 402653184 + 1572840 * now
          going_sum = lent_room r list pool t passed_lent

          pub going_made : now ≤ r.limit
          going_made = lent_within r list pool t passed_lent

          pub going_next : {e : ℕ} → HaltAt (eqb r.how 1) t next e → Going r t list pool p old₀ seen₀ last after next e (len + size + more) now (met + 1)
          going_next h =
              record {
                halt = h;
                from = omega (arith, g.from, going_on);
                few = omega (arith, g.few, going_on);
                buffer = k.buffer ∙ run.1.buffer ∙ g.buffer;
                words = k.words ∙ g.words;
                came = λ d le v whole begun e c. k.goes d le v whole begun e (run_came d le v whole begun e c);
              }
