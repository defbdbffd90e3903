-- The attribute walk is 3.3.3 of the standards, after 2.11: an accepted value is the standard's, a refusal by no limit of document 01
-- has no value there, and where the standard has a value the walk gives it or meets a limit. Assumes nothing.
use mathlib.Core.Path.{◌≡◌, refl, sym, subst}
use Prim.Native.Nat.{ℕ, zero, suc}
use native.Mathlib.Omega.{arith}
use mathlib.Core.Bool.{Bool, true, false, ◌&&◌, ◌||◌, not}
use mathlib.Core.Option.{Option, none, some}
use mathlib.Core.List.{List, [], ◌∷◌, ◌++◌, append-nil}
use lib.Dec.{eqb, lit≤}
use borrow.Author.Tests.{eqb-true, eqb-false}
use Rattle.text.specs.Bytes.{pick, same_bytes}
use Rattle.text.specs.Version.{Rule, xml10, xml11}
use Rattle.text.specs.Utf8.{WellFormed}
use Rattle.text.proofs.Bytes.{pick_by, and_left, and_right, or_left, contrary}
use Rattle.charref.specs.CharRef.{char_number, number_answer, encode}
use Rattle.charref.specs.CharNumbers.{CharNumber}
use Rattle.charref.specs.CharNumbers.{Char, UnexpectedSign, InvalidNumber, InvalidCodepoint, IllegalCharacter, Forbidden}
use Rattle.entity.specs.Binding.{Bound, text, external, predefined, unknown, GoodBound}
use Rattle.tokens.specs.Tokens.{Stop, number, named, Heads, tokens}
use Rattle.tokens.specs.Outcome.{Outcome, done, refused, run, numbered, number_outcome}
use Rattle.attribute.specs.Heads.{attribute_head}
use Rattle.attribute.specs.Walk.{Settings, opened, answer, exhausted, walk, normalize, inner_head, reading}
use Rattle.attribute.proofs.Strict.{with_legal}
use Rattle.demands.specs.Characters.{encode_all, decode}
use Rattle.demands.specs.Standard.{alone, line_ends_of, value_of, lines_of, character_value, replaced_by, entity_value, reference_value, standard, characters_of, lookup_of, steady, steady_refs, SteadyText, SteadyBound, FromStandard, limited, Meets}
use Rattle.demands.proofs.Decoding.{decode_encode}
use Rattle.charref.proofs.Apart.{AllApart}
use Rattle.demands.proofs.Words.{stop_of, same_ascii, number_same}
use Rattle.demands.proofs.Agreement.{Agree, Fits, All, Steady, Any, Clean, no_more, char, refer, unended, clean_reads, past_reads}

-- ---- the answers

-- what a name is bound to, on bytes and on characters, where texts are so
pub data Tied (C : List ℕ → Type 0) : Bound → Option (List ℕ) → Type 0 where
  tied_text : (t : List ℕ) → C t → Tied C (text (encode_all t)) (some t)
  tied_external : Tied C external none
  tied_predefined : (t : List ℕ) → C t → Tied C (predefined (encode_all t)) (some t)
  tied_unknown : Tied C unknown none

-- how texts that are so are read, by heads on bytes and after `lines` on characters
abbrev ReadsBy : Heads → (List ℕ → List ℕ) → (List ℕ → Type 0) → Type 0
ReadsBy at lines C =
    (f : Stop → ℕ → Outcome) (ref : List ℕ → Option (List ℕ)) → Fits f ref → (cs : List ℕ) → C cs → (o n : ℕ)
    → Agree [] (run f (tokens at o 0 (encode_all cs)) n) (value_of ref 0 (lines cs))

-- what is asked of replacement texts
abbrev CleanIn : Bool → Rule → List ℕ → Type 0
CleanIn false r = Clean (Steady r)
CleanIn true r = Clean Any

inner_reads : (past : Bool) (r : Rule) → ReadsBy (inner_head past r) (lines_of past r) (CleanIn past r)
unfolding inner_head lines_of
inner_reads false r f ref fits cs d o n = clean_reads r f ref fits cs d o n
inner_reads true r f ref fits cs d o n = past_reads f ref fits cs d o n

character_agrees : (x : CharNumber) (n : ℕ) → Agree [] (numbered (number_answer x) n) (character_value x)
unfolding numbered number_answer character_value encode_all
character_agrees (Char k) n = sym (append-nil (encode k))
character_agrees UnexpectedSign n = λ l. refl
character_agrees InvalidNumber n = λ l. refl
character_agrees (InvalidCodepoint k) n = λ l. refl
character_agrees IllegalCharacter n = λ l. refl
character_agrees Forbidden n = λ l. refl

number_agrees : (legal : ℕ → CharNumber) (cs : List ℕ) (n : ℕ) → Agree [] (number_outcome legal (encode_all cs) n) (character_value (char_number legal cs))
unfolding number_outcome
number_agrees legal cs n = rw (number_same legal cs) (character_agrees (char_number legal cs) n)

module _ (legal : ℕ → CharNumber) (r : Rule) (past : Bool) (bind : List ℕ → Bound) (limit : ℕ) (lookup : List ℕ → Option (List ℕ))
    (binds : (name : List ℕ) → Tied (CleanIn past r) (bind (encode_all name)) (lookup name)) where
  -- the reading, with that rule for character numbers
  abbrev settings : Settings
  settings = with_legal legal (reading r past bind limit)

  module _ (walked : List ℕ → ℕ → Outcome) (step : List ℕ → Option (List ℕ))
      (h : (t : List ℕ) → CleanIn past r t → (n : ℕ) → Agree [] (walked (encode_all t) n) (step t)) where
    opened_agrees : (o n : ℕ) (name : List ℕ) (b : Bound) (x : Option (List ℕ)) → Tied (CleanIn past r) b x → Agree [] (opened limit walked o name b n) (replaced_by step x)
    unfolding opened replaced_by
    opened_agrees o n name b x (tied_text t d) =
        pick_by (λ (y : Outcome). Agree [] y (step t)) (eqb n limit) {a = refused [] n 17 o 0} {b = walked (encode_all t) (suc n)} (λ e l. contrary refl l) (λ e. h t d (suc n))
    opened_agrees o n name b x tied_external = λ l. refl
    opened_agrees o n name b x (tied_predefined t d) = h t d n
    opened_agrees o n name b x tied_unknown = λ l. refl

    named_agrees : (o n : ℕ) (name : List ℕ) (t : Bool)
        → Agree [] (pick t (done (38 ∷ []) n) (opened limit walked o (encode_all name) (bind (encode_all name)) n)) (pick t (some (38 ∷ [])) (replaced_by step (lookup name)))
    named_agrees o n name true = unfold encode_all in refl
    named_agrees o n name false = opened_agrees o n (encode_all name) (bind (encode_all name)) (lookup name) (binds name)

    entity_agrees : (o n : ℕ) (name : List ℕ) → Agree [] (answer settings walked (named o (encode_all name)) n) (entity_value lookup step name)
    unfolding answer entity_value reading
    entity_agrees o n name =
        rw (same_ascii name (97 ∷ 109 ∷ 112 ∷ []) (lit≤ tt, (lit≤ tt, (lit≤ tt, tt)))) (named_agrees o n name (same_bytes name (97 ∷ 109 ∷ 112 ∷ [])))

    reference_agrees : (o n c : ℕ) (cs : List ℕ) (t : Bool)
        → Agree [] (answer settings walked (pick t (number (encode_all cs)) (named o (encode_all (c ∷ cs)))) n) (pick t (character_value (char_number legal cs)) (entity_value lookup step (c ∷ cs)))
    reference_agrees o n c cs true = unfold answer in unfold reading in number_agrees legal cs n
    reference_agrees o n c cs false = entity_agrees o n (c ∷ cs)

    refers_agree : (o n : ℕ) (name : List ℕ) → Agree [] (answer settings walked (stop_of o name) n) (reference_value legal lookup step name)
    unfolding reference_value
    refers_agree o n [] = unfold encode_all in entity_agrees o n []
    refers_agree o n (c ∷ cs) = reference_agrees o n c cs (eqb c 35)

    answer_fits : Fits (answer settings walked) (reference_value legal lookup step)
    answer_fits =
        record {
          keeps = λ b n. unfold answer in refl;
          spaces = λ n. unfold answer in unfold encode_all in refl;
          refers = refers_agree;
          ends = λ o e n. unfold answer in λ l. refl;
        }

  exhausted_fits : Fits exhausted (λ name. none)
  exhausted_fits =
      record {
        keeps = λ b n. unfold exhausted in refl;
        spaces = λ n. unfold exhausted in λ l. contrary refl l;
        refers = λ o n name. unfold exhausted in λ l. refl;
        ends = λ o e n. unfold exhausted in λ l. refl;
      }

  -- a text at any level, however it is read
  walk_agrees : (at : Heads) (lines : List ℕ → List ℕ) (C : List ℕ → Type 0) → ReadsBy at lines C → (depth : ℕ) (cs : List ℕ) → C cs → (n : ℕ)
      → Agree [] (walk settings at depth (encode_all cs) n) (standard legal lookup (lines_of past r) depth (lines cs))
  unfolding walk standard reading
  walk_agrees at lines C reads zero cs d n = reads exhausted (λ name. none) exhausted_fits cs d 0 n
  walk_agrees at lines C reads (suc depth) cs d n =
      let walked : List ℕ → ℕ → Outcome = λ u m. walk settings (inner_head past r) depth u m in
      let step : List ℕ → Option (List ℕ) = λ t. standard legal lookup (lines_of past r) depth (lines_of past r t) in
      reads (answer settings walked) (reference_value legal lookup step)
      (answer_fits walked step (λ t e m. walk_agrees (inner_head past r) (lines_of past r) (CleanIn past r) (inner_reads past r) depth t e m)) cs d 0 n

-- ---- steady references make a clean text

not_true : (b : Bool) → not b ≡ true → b ≡ false
not_true true e = sym e
not_true false e = refl

is_steady : (r : Rule) (c : ℕ) → steady r c ≡ true → Steady r c
unfolding steady alone
is_steady xml10 c e = let q = not_true (eqb c 13) e in (eqb-false c 13 q, rw q)
is_steady xml11 c e =
    let q = not_true (eqb c 13 || (eqb c 0x85 || eqb c 0x2028)) e in
    (eqb-false c 13 (or_left (eqb c 13) (eqb c 0x85 || eqb c 0x2028) q), rw q)

-- from inside a reference on
data InRef (S : ℕ → Type 0) : List ℕ → Type 0 where
  never_ends : {cs : List ℕ} → AllApart 59 cs → InRef S cs
  ends_at : (name : List ℕ) {cs : List ℕ} → AllApart 59 name → All S name → Clean S cs → InRef S (name ++ 59 ∷ cs)

in_clean : (S : ℕ → Type 0) (cs : List ℕ) → InRef S cs → Clean S (38 ∷ cs)
in_clean S cs (never_ends a) = unended a
in_clean S cs (ends_at name a s d) = refer name a s d

in_more : (S : ℕ → Type 0) (c : ℕ) (cs : List ℕ) → eqb c 59 ≡ false → S c → InRef S cs → InRef S (c ∷ cs)
in_more S c cs e s (never_ends a) = never_ends {cs = c ∷ cs} (e, a)
in_more S c cs e s (ends_at name a t d) = ends_at (c ∷ name) (e, a) (s, t) d

-- one character more, outside a reference and inside one, where it may stand there
out_step : (S : ℕ → Type 0) (c : ℕ) (cs : List ℕ) (t : Bool) → eqb c 38 ≡ t → (t ≡ false → Clean S cs) → (t ≡ true → InRef S cs) → Clean S (c ∷ cs)
out_step S c cs true e out in' = rw (eqb-true c 38 e) (in_clean S cs (in' refl))
out_step S c cs false e out in' = char e (out refl)

in_step : (S : ℕ → Type 0) (c : ℕ) (cs : List ℕ) (t : Bool) → eqb c 59 ≡ t → (t ≡ true → Clean S cs) → (t ≡ false → S c × InRef S cs) → InRef S (c ∷ cs)
in_step S c cs true e out on = rw (eqb-true c 59 e) (ends_at [] tt tt (out refl))
in_step S c cs false e out on = in_more S c cs e (on refl).0 (on refl).1

abbrev Either : Rule → List ℕ → Type 0
Either r cs = (steady_refs r false cs ≡ true → Clean (Steady r) cs) × (steady_refs r true cs ≡ true → InRef (Steady r) cs)

either : (r : Rule) (cs : List ℕ) → Either r cs
unfolding steady_refs
either r [] = (λ h. no_more, λ h. never_ends tt)
either r (c ∷ cs) =
    let ih = either r cs in
    let out = steady_refs r false cs in
    let on = steady_refs r true cs in (
      λ h. out_step (Steady r) c cs (eqb c 38) refl (λ q. ih.0 (rw q at h)) (λ q. ih.1 (rw q at h)),
      λ h. in_step (Steady r) c cs (eqb c 59) refl (λ q. ih.0 (rw q at h))
          (λ q. let k : steady r c && steady_refs r true cs ≡ true = rw q at h in (is_steady r c (and_left (steady r c) on k), ih.1 (and_right (steady r c) on k))),
    )

steady_clean : (r : Rule) (cs : List ℕ) → steady_refs r false cs ≡ true → Clean (Steady r) cs
steady_clean r cs h = (either r cs).0 h

-- every text is one in pieces
any_pieces : (cs : List ℕ) → Clean Any cs × InRef Any cs
any_pieces [] = (no_more, never_ends tt)
any_pieces (c ∷ cs) =
    let ih = any_pieces cs in
    (out_step Any c cs (eqb c 38) refl (λ q. ih.0) (λ q. ih.1), in_step Any c cs (eqb c 59) refl (λ q. ih.0) (λ q. (tt, ih.1)))

-- a UTF-8 text whose characters are so
decoded : (C : List ℕ → Type 0) (t : List ℕ) (bound : List ℕ → Bound) → WellFormed t → Tied C (bound (encode_all (decode t))) (some (decode t)) → Tied C (bound t) (some (decode t))
decoded C t bound g k = subst (λ (u : List ℕ). Tied C (bound u) (some (decode t))) (decode_encode t g) k

tied_by : (past : Bool) (r : Rule) (b : Bound) → GoodBound b → SteadyBound past r b → Tied (CleanIn past r) b (characters_of b)
unfolding characters_of
tied_by true r (text t) g s = decoded (Clean Any) t text g (tied_text (decode t) (any_pieces (decode t)).0)
tied_by true r external g s = tied_external
tied_by true r (predefined t) g s = decoded (Clean Any) t predefined g (tied_predefined (decode t) (any_pieces (decode t)).0)
tied_by true r unknown g s = tied_unknown
tied_by false r (text t) g s = decoded (Clean (Steady r)) t text g (tied_text (decode t) (steady_clean r (decode t) s))
tied_by false r external g s = tied_external
tied_by false r (predefined t) g s = decoded (Clean (Steady r)) t predefined g (tied_predefined (decode t) (steady_clean r (decode t) s))
tied_by false r unknown g s = tied_unknown

-- ---- the theorems

agree_value : (value : List ℕ) (n : ℕ) (x : Option (List ℕ)) → Agree [] (done value n) x → FromStandard x value
agree_value value n none h = absurd h
agree_value value n (some v) h = record { characters = v; defined = refl; bytes = h }

agree_some : (o : Outcome) (v : List ℕ) → Agree [] o (some v) → Meets o v
agree_some (done value n) v h = h
agree_some (refused before n why first second) v h = go (limited why) refl
  where
    go : (t : Bool) → limited why ≡ t → limited why ≡ true
    go true e = e
    go false e = let q = h e in let z : ◌≡◌ {A = ℕ} 0 1 = cc in absurd (omega arith)

-- A rule for character numbers, a version, a binding of UTF-8 texts, past line ends or not, a limit, a depth and a UTF-8 text; in the text,
-- and in each replacement text that is not past line ends, no reference holds a character that the line ends change.
module _ (legal : ℕ → CharNumber) (r : Rule) (past : Bool) (bind : List ℕ → Bound) (limit : ℕ)
    (good : (name : List ℕ) → GoodBound (bind name)) (firm : (name : List ℕ) → SteadyBound past r (bind name)) (depth : ℕ) (t : List ℕ) (wf : WellFormed t) (still : SteadyText r t)
  where
    -- the standard's value of the text's characters, after their line ends
    abbrev pub standard_value : Option (List ℕ)
    standard_value = standard legal (lookup_of bind) (lines_of past r) depth (line_ends_of r (decode t))

    binds : (name : List ℕ) → Tied (CleanIn past r) (bind (encode_all name)) (lookup_of bind name)
    unfolding lookup_of
    binds name = tied_by past r (bind (encode_all name)) (good (encode_all name)) (firm (encode_all name))

    agrees : Agree [] (normalize (with_legal legal (reading r past bind limit)) depth t) standard_value
    unfolding normalize reading
    agrees =
        subst (λ (u : List ℕ). Agree [] (walk (with_legal legal (reading r past bind limit)) (attribute_head r) depth u 0) standard_value) (decode_encode t wf)
        (walk_agrees legal r past bind limit (lookup_of bind) binds (attribute_head r) (line_ends_of r) (Clean (Steady r)) (clean_reads r) depth (decode t) (steady_clean r (decode t) still) 0)

    -- an accepted value is the standard's
    pub accepted_is_standard : (value : List ℕ) (n : ℕ) → normalize (with_legal legal (reading r past bind limit)) depth t ≡ done value n → FromStandard standard_value value
    accepted_is_standard value n e = agree_value value n standard_value (rw e at agrees)

    -- where the walk refuses by another number than 16 and 17, the standard gives none
    pub refused_is_standard : (before : List ℕ) (n why first second : ℕ) → normalize (with_legal legal (reading r past bind limit)) depth t ≡ refused before n why first second
        → limited why ≡ false → standard_value ≡ none
    refused_is_standard before n why first second e = rw e at agrees

    -- where the standard gives a value, the walk gives its bytes, or refuses by 16 or 17
    pub standard_is_met : (v : List ℕ) → standard_value ≡ some v → Meets (normalize (with_legal legal (reading r past bind limit)) depth t) v
    standard_is_met v e = agree_some (normalize (with_legal legal (reading r past bind limit)) depth t) v (rw e at agrees)
