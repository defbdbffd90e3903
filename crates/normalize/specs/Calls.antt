-- The calls: what a walk over a whole text leaves. Terms in which code is proved; no promise of a call rests on them. Assumes nothing.
use Rattle.std.specs.Prelude.{ℕ, ◌≡◌, Bool, List, [], ltb, length}
use Rattle.text.specs.Bytes.{pick}
use Rattle.text.specs.Version.{rule_of}
use Rattle.text.specs.Answers.{Answer}
use Rattle.text.specs.Answers.{Done}
use Rattle.tokens.specs.Outcome.{Outcome, done, refused, answer_of}
use Rattle.attribute.specs.Steps.{read_by}
use Rattle.attribute.specs.Walk.{walk, normalize}
use Rattle.attribute.specs.Strict.{reading_by}
use Rattle.memory.specs.Slots.{shaped, shaped_in, Trusts}
use Rattle.memory.specs.Levels.{settings_of, Level, left, Fitted, Came}
use Rattle.memory.specs.declared.Reading.{Reading}
use Rattle.memory.specs.declared.Place.{Place}
use Rattle.normalize.specs.declared.Wanted.{Wanted}

-- what the walk over the text of a call is set to, by whether its list is marked and by what is written of the value
abbrev pub reading_for : Wanted → Bool → ℕ → Reading
reading_for w past form =
    let newer = ltb 1 w.version in
    record {
      how = pick newer 1 0;
      inner = pick past 2 (pick newer 1 0);
      guard = pick w.strict (pick newer 2 1) 0;
      inguard = pick w.strict (pick newer 3 1) 0;
      form = form;
      depth = w.depth;
      limit = w.limit;
      base = 0;
    }

-- the outcome that a call asks for
abbrev pub outcome_for : Wanted → List ℕ → List ℕ → List ℕ → Outcome
outcome_for w list pool text = normalize (reading_by w.strict (rule_of w.version) list pool w.limit) w.depth text

abbrev pub walk_of : Reading → List ℕ → List ℕ → List ℕ → Outcome
walk_of r list pool text = walk (settings_of r list pool) (read_by r.how r.guard) r.depth text 0

-- with what is written of its value
abbrev pub form_of : Reading → List ℕ → List ℕ → List ℕ → Outcome
form_of r list pool text = shaped_in r.form (walk_of r list pool text)

-- the same walk over the value itself
abbrev pub plainly : Reading → Reading
plainly r = record { how = r.how; inner = r.inner; guard = r.guard; inguard = r.inguard; form = 0; depth = r.depth; limit = r.limit; base = r.base }

-- document 02, K7: what a call answers that has success in its walk: 18 where a scratch of 4 bytes is wanted and lacks, else what is written of
-- the value
abbrev pub written_in : ℕ → Bool → Outcome → Outcome
written_in form lacks (done value openings) = pick lacks (refused [] openings 18 4 0) (done (shaped form value) openings)
written_in form lacks (refused before openings number first second) = refused before openings number first second

-- its answer, and in the buffer the value where all of it fits
pub record Walks (o : Outcome) (old new : List ℕ) (r : Answer) : Type 0 where
  pub answers : r ≡ answer_of o
  pub buffer : length new ≡ length old
  pub fitted : (value : List ℕ) (made : ℕ) → o ≡ done value made → Fitted value old new

-- the same from a place on that the walk came to
abbrev pub WalksOn : Level → Place → List ℕ → List ℕ → List ℕ → Answer → Type 0
WalksOn l p words old new r = (whole : List ℕ) → Came l [] whole 0 old words p.at p.len p.openings → Walks (shaped_in l.form (left l 0 0)) whole new r

-- the words of a memory after a walk: where it had success they say of the table what is so, and another walk can begin by them
pub record Lasts (list pool old new : List ℕ) (r : Answer) : Type 0 where
  pub words : length new ≡ length old
  pub trusts : (len made : ℕ) → r ≡ Done len made → Trusts list pool new
