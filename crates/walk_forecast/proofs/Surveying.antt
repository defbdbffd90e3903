-- The survey's loop as laws over lists: what it keeps (`Surveying`) from its start (`surveying_start`) over references whose pair is sized
-- (`survey_passes`) to its returns (`survey_end`, `survey_stopped`, `survey_refused`, `survey_waits`); what the walk between two openings and the
-- pair of a reference are asked (`surveying_lent`, `pair_in`). Assumes nothing.
use mathlib.Core.Path.{◌≡◌, refl, ap, ap₂, sym, ◌∙◌, subst}
use mathlib.Core.Logic.{◌≢◌}
use mathlib.Core.List.{List, []}
use Prim.Native.Nat.{ℕ, suc, ◌+◌, ◌-◌, ◌*◌, ◌≤◌, ◌<◌}
use native.Mathlib.Omega.{arith}
use native.Mathlib.Nat.{le_refl, suc-mul, mul-le-mul_right}
use lib.Dec.{eqb}
use lib.ListN.{length, get_or, replicate, length-replicate}
use borrow.Author.Tests.{ne_eqb}
use Rattle.halts.specs.Halts.{HaltAt}
use Rattle.entity.specs.Table.{Body, inside, outside, declarations, text_of}
use Rattle.entity.specs.Binding.{text, body_bound}
use Rattle.entity.specs.Commands.{command_text, Defines}
use Rattle.attribute.specs.Walk.{Settings}
use Rattle.memory.specs.Slots.{opening, slot_of, Kept}
use Rattle.memory.specs.Levels.{Level, settings_by, Lent, FlatKeeps}
use Rattle.memory.specs.declared.Place.{Place}
use Rattle.memory.specs.declared.Reached.{Reached}
use Rattle.memory.specs.declared.Reached.TheVariants.{End, Opening, Paused}
use Rattle.memory.specs.declared.Stop.{Stop}
use Rattle.text.specs.Refusals.{number_of}
use Rattle.std.specs.Prelude.{Result, Ok, Err}
use Rattle.memory.proofs.Levels.{Brief, Sound, place_of, text_short}
use Rattle.memory.proofs.Keeping.{kept_length}
use Rattle.memory.proofs.Readings.{by_brief, by_limit}
use Rattle.walk_pairs.specs.Forecast.{Sum, fails, summary, relimit, pair_at, first_word, second_word, body_words}
use Rattle.walk_pairs.specs.PairSums.{placed, from_words, nth_body}
use Rattle.walk_pairs.specs.Stretches.{Stretch, AtReference}
use Rattle.walk_pairs.proofs.PairWords.{words_give_back, pair_first, pair_second, pair_other}
use Rattle.walk_pairs.proofs.Stretches.{stretch_fresh, stretch_end, stretch_refused, stretch_stands, opening_placed, stretch_passes, stretch_fails, stretch_ends, stretch_waits}
use Rattle.walk_forecast.specs.Numbering.{Numbered}
use Rattle.walk_forecast.specs.Surveys.{level_for, pair_settings, pair_below, added_sum, PairIn, Below, Surveys, Surveyed}
use Rattle.walk_forecast.specs.declared.Survey.{Survey}
use Rattle.walk_forecast.specs.declared.Bytes.{Bytes}
use Rattle.walk_forecast.specs.declared.Failed.{Failed}
use Rattle.walk_forecast.specs.declared.Outlook.TheVariants.{Sized, Waits}

-- ---- the words of a definition with a text

first_of : (s : Settings) (pool : List ℕ) (d : ℕ) (t : List ℕ) (b : Body) → body_bound pool b ≡ text t → get_or (body_words s pool d b) 0 0 ≡ first_word (pair_at s d t)
unfolding body_bound body_words
first_of s pool d t (inside start size) e =
    let q : text_of pool (inside start size) ≡ t = cc in
    ap (λ (x : List ℕ). first_word (pair_at s d x)) q
first_of s pool d t outside e =
    let z : ◌≡◌ {A = ℕ} 0 1 = cc in
    absurd (omega (arith, z))

second_of_lem : (s : Settings) (pool : List ℕ) (d : ℕ) (t : List ℕ) (b : Body) → body_bound pool b ≡ text t → get_or (body_words s pool d b) 1 0 ≡ second_word (pair_at s d t)
unfolding body_bound body_words
second_of_lem s pool d t (inside start size) e =
    let q : text_of pool (inside start size) ≡ t = cc in
    ap (λ (x : List ℕ). second_word (pair_at s d x)) q
second_of_lem s pool d t outside e =
    let z : ◌≡◌ {A = ℕ} 0 1 = cc in
    absurd (omega (arith, z))

-- a row ends before the next
row_fits : (k n width : ℕ) → k < n → k * width + width ≤ n * width
row_fits k n width h =
    let rows : suc k * width ≤ n * width = mul-le-mul_right width h in
    omega (arith, rows, suc-mul k width)

module _ (by : Survey) (list pool : List ℕ) where
  abbrev P : Settings
  P = pair_settings by.inner list pool

  abbrev S : Settings
  S = settings_by by.inner 0 list pool by.limit

  -- a pair has its own limit
  pair_any : (d : ℕ) (t : List ℕ) → pair_at S d t ≡ pair_at P d t
  unfolding pair_at settings_by
  pair_any d t = refl

  pair_brief : ((k : ℕ) → get_or list k 0 < 0x100) → Brief (relimit P 1000000)
  unfolding settings_by
  pair_brief bytes = by_brief by.inner 0 list pool 1000000 bytes

  module _ (bytes : (k : ℕ) → get_or list k 0 < 0x100) {words : List ℕ} (b : Below by list pool words) {command number : ℕ} (defines : Defines list pool command)
      (is : Numbered list pool command number) where
    abbrev t : List ℕ
    t = command_text list pool command

    abbrev pair : Sum
    pair = pair_at P (by.depth - 1) t

    first_is : get_or words (pair_below number by) 0 ≡ first_word pair
    first_is = (b.right number is.there).first ∙ first_of P pool (by.depth - 1) t (nth_body (declarations list) number) is.gives

    second_is : get_or words (pair_below number by + 1) 0 ≡ second_word pair
    second_is = (b.right number is.there).second ∙ second_of_lem P pool (by.depth - 1) t (nth_body (declarations list) number) is.gives

    pub pair_in : {openings : ℕ} → openings < by.limit → PairIn number openings by words
    pair_in {openings} room =
        record {
          some = b.some;
          fits = omega (arith, row_fits number (length (declarations list)) by.width is.there, b.room, b.wide, b.some);
          pair =
              record {
                low = subst (λ (x : ℕ). x ≤ 9223372036854775835) (sym first_is) (pair_first P (pair_brief bytes) (by.depth - 1) t (text_short defines));
                other = subst (λ (x : ℕ). x ≢ 9223372036854775825) (sym first_is) (pair_other P (pair_brief bytes) (by.depth - 1) t (text_short defines));
                few = subst (λ (x : ℕ). x ≤ 1000001) (sym second_is) (pair_second P (pair_brief bytes) (by.depth - 1) t (text_short defines));
                room = room;
                most = b.most;
              };
        }

    -- the two words are the pair
    pub pair_told : from_words (get_or words (pair_below number by) 0) (get_or words (pair_below number by + 1) 0) ≡ pair_at S (by.depth - 1) t
    pair_told =
        ap₂ (λ (x y : ℕ). from_words x y) first_is second_is ∙ words_give_back P (pair_brief bytes) (by.depth - 1) t (text_short defines)
        ∙ sym (pair_any (by.depth - 1) t)

-- ---- the loop

module _ (by : Survey) (list pool txt : List ℕ) where
  abbrev level : Level
  level = level_for by list pool txt

  limit_is : level.settings.limit ≡ by.limit
  limit_is = by_limit by.inner 0 list pool by.limit

  pub record Surveying (seen : List ℕ) (first at len made : ℕ) : Type 0 where
    pub halt : HaltAt (eqb by.how 1) txt at first
    pub size : length seen ≡ 84
    pub came : Stretch level by.depth seen at len made

  pub surveying_start : {from : Place} {first : ℕ} → Surveys by list pool txt from → HaltAt (eqb by.how 1) txt from.at first
      → Surveying (replicate 84 0) first from.at from.len from.openings
  surveying_start s h = record { halt = h; size = length-replicate {A = ℕ} 84 0; came = stretch_fresh level refl by.depth s.came }

  module _ {seen : List ℕ} {first at len made : ℕ} (s : Surveying seen first at len made) where
    pub surveying_lent : length txt ≤ 16777216 → Lent level 0 [] seen (place_of at len made)
    surveying_lent short =
        record { v = []; whole = []; begun = 0; size = refl; came = s.came by.depth (le_refl _); room = omega (arith, short) }

    module _ {new kept : List ℕ} {x : Result Reached Stop} (f : FlatKeeps level 0 (place_of at len made) [] seen new kept x) where
      abbrev told : {y : Result Reached Stop} → x ≡ y → FlatKeeps level 0 (place_of at len made) [] seen new kept y
      told q = subst (λ (y : Result Reached Stop). FlatKeeps level 0 (place_of at len made) [] seen new kept y) q f

      pub survey_end : {all now : ℕ} → x ≡ Ok (End all now) → Surveyed by list pool txt (Ok (Sized all now))
      survey_end q = stretch_end level refl by.depth s.came (told q)

      pub survey_stopped : {stop : Stop} → x ≡ Err stop → Surveyed by list pool txt (Err (record { number = number_of stop.refusal; openings = stop.openings }))
      survey_stopped q =
          let g = stretch_refused level refl by.depth s.came (told q) in
          record { here = g by.depth (le_refl _); stays = λ other. g }

      -- with a memory nothing is paused at
      pub survey_unpaused : {i before now : ℕ} → x ≡ Ok (Paused (place_of i before now)) → ⊥
      survey_unpaused q =
          let o = (told q).onward in
          omega (arith, s.size, o.2)

      module _ {i next command slot before now : ℕ} (q : x ≡ Ok (Opening i next command slot before now)) where
        pub survey_stands : AtReference level by.depth kept i next command slot before now
        survey_stands = stretch_stands level refl by.depth s.came (told q)

        pub survey_room : now < by.limit
        survey_room = subst (λ (n : ℕ). now < n) limit_is (survey_stands by.depth (le_refl _)).room

        pub survey_defines : Defines list pool command
        survey_defines = (survey_stands by.depth (le_refl _)).defines

        -- what the pair of the reference adds is what its text gives
        module _ (bytes : (k : ℕ) → get_or list k 0 < 0x100) {words : List ℕ} (b : Below by list pool words) {number : ℕ} (is : Numbered list pool command number)
            {r : Result Bytes Failed}
            (adds : added_sum r ≡ placed by.limit (now + 1) (from_words (get_or words (pair_below number by) 0) (get_or words (pair_below number by + 1) 0))) where
          gives : {y : Result Bytes Failed} → r ≡ y → summary (opening level.settings by.depth (command_text list pool command) now) ≡ added_sum y
          gives {y} e =
              sym (opening_placed level refl by.depth survey_stands (subst (λ (n : ℕ). n ≤ 1000000) (sym limit_is) b.most))
              ∙ ap (λ (n : ℕ). placed n (now + 1) (pair_at level.settings (by.depth - 1) (command_text list pool command))) limit_is
              ∙ ap (placed by.limit (now + 1)) (sym (pair_told by list pool bytes b survey_defines is)) ∙ sym adds ∙ ap added_sum e

          pub survey_passes : Sound level.settings list pool → {added : Bytes} → r ≡ Ok added → {last : List ℕ} {halt : ℕ}
              → Kept kept slot command (slot_of by.depth before added.len (added.openings - now)) last → HaltAt (eqb by.how 1) txt next halt
              → Surveying last halt next (before + added.len) added.openings
          survey_passes sound e kept_in h =
              record {
                halt = h;
                size = kept_length kept_in ∙ f.words ∙ s.size;
                came = stretch_passes level refl by.depth survey_stands sound (gives e) kept_in;
              }

          pub survey_refused : {failed : Failed} → r ≡ Err failed → failed.number ≢ 16 → Surveyed by list pool txt (Err failed)
          survey_refused {failed} e other =
              record {
                here = stretch_fails level refl by.depth survey_stands (gives e);
                stays = λ x. stretch_ends level refl by.depth survey_stands (gives e) (ne_eqb failed.number 16 other);
              }

          pub survey_waits : {failed : Failed} → r ≡ Err failed → failed.number ≡ 16
              → Surveyed by list pool txt (Ok (Waits next number before now failed.openings))
          survey_waits {failed} e deep =
              record {
                here = stretch_fails level refl by.depth survey_stands (gives e) ∙ ap (λ (n : ℕ). fails n failed.openings) deep;
                command = command;
                waits = stretch_waits level refl by.depth survey_stands;
                numbered = is;
              }
