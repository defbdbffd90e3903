-- K8, of the calls: an answer other than 25 and 26 is the lenient call's (`k8_alike`, `k8_alike_form`), and these leave every buffer as it was
-- (`k8_refuses`, `k8_form_refuses`); every character of a value that a strict call gave is Char (`k8_chars`); two such values are equal exactly
-- when their forms are (`k8_equal`); a form read again strictly goes as in demand 3 (`k8_again_calls`), and under 2 gets 26 at its first raw RestrictedChar
-- (`k8_again_26_calls`). Assumes nothing.
use mathlib.Core.Path.{◌≡◌, refl, sym, ap, subst, ◌∙◌}
use Prim.Native.Nat.{ℕ}
use native.Mathlib.Omega.{arith}
use mathlib.Core.Bool.{Bool, true, false}
use mathlib.Core.Option.{some}
use mathlib.Core.List.{List, [], ◌∷◌}
use lib.ListN.{length, take}
use borrow.Author.Tests.{le-ltb}
use Rattle.text.specs.Version.{Rule, xml11}
use Rattle.text.specs.Call.{Called, called, guarded, laid, finish}
use Rattle.text.specs.Answers.{Answer}
use Rattle.text.specs.Answers.{Done, Refused}
use Rattle.output.proofs.Laid.{laid_front}
use Rattle.tokens.specs.Outcome.{Outcome, done, refused, finished}
use Rattle.tokens.proofs.Related.{Keeps, Stays}
use Rattle.attribute.specs.Walk.{normalize}
use Rattle.attribute.specs.Strict.{reading_by}
use Rattle.attribute.specs.Form.{handed, formed}
use Rattle.attribute.proofs.Strict.{strict_only, strict_alike}
use Rattle.attribute.proofs.InHand.{in_hand_done}
use Rattle.govlezna.specs.Calls.{walk_check, normalize_attribute_value_call, canonical_form_call, normalize_attribute_value_strict_call, canonical_form_strict_call}
use Rattle.demands.specs.Demands.{Asked, rule_for, Taken, form_of, AskedAgain}
use Rattle.demands.specs.Characters.{decode}
use Rattle.demands.specs.CallDemands.{normalize_of, canonical_of, Answered, CallAgain}
use Rattle.demands.specs.StrictDemands.{strictly_normalized, StrictlyAccepted, AllChar, restricted_from, Rereadable}
use Rattle.demands.proofs.CallDemands.{table_valid, taken_passes, normalize_answered, answered_reads, demand_3_calls_equal}
use Rattle.demands.proofs.Demands.{demand_3_again}
use Rattle.demands.proofs.StrictDemands.{strictly_accepted, strict_chars, strict_again, strict_again_refused}
use Rattle.requests.specs.Strict.{strict_normalize_of, strict_canonical_of, AlikeBut, RefusesStrictly, by_the_rule, as_lenient, StrictlyAnswered, StrictCallsEqualExactly, StrictCallRereads, StrictCallRefuses}

-- ---- alike but for 25 and 26

same_alike : (c d : Called) → d ≡ c → AlikeBut c d
same_alike (called number words buffers) d e = λ other. e

guarded_alike : (checks : Answer) (buffers : List (List ℕ)) (c d : Called) → AlikeBut c d → AlikeBut (guarded checks buffers c) (guarded checks buffers d)
guarded_alike (Done first second) buffers c d h = h
guarded_alike (Refused number first second) buffers c d h = λ other. refl

kept_alike : (why : ℕ) {o p : Outcome} → Stays (strict_only why) o p → strict_only why ≡ false → p ≡ o
kept_alike why {o} {p} h e = subst (λ (t : Bool). Stays t o p) e h

finished_alike : (o p : Outcome) → Keeps strict_only o p → (out : List ℕ) → AlikeBut (finished o out) (finished p out)
unfolding finished
finished_alike (done value m) p h out = same_alike (finished (done value m) out) (finished p out) (ap (λ (x : Outcome). finished x out) h)
finished_alike (refused before m why first second) p h out = λ other. ap (λ (x : Outcome). finished x out) (kept_alike why h other)

formed_alike : (r : Rule) (o p : Outcome) → Keeps strict_only o p → (scratch out : List ℕ) → AlikeBut (formed r o scratch out) (formed r p scratch out)
unfolding formed
formed_alike r (done value m) p h scratch out = same_alike (formed r (done value m) scratch out) (formed r p scratch out) (ap (λ (x : Outcome). formed r x scratch out) h)
formed_alike r (refused before m why first second) p h scratch out = λ other. ap (λ (x : Outcome). formed r x scratch out) (kept_alike why h other)

keeps : (a : Asked) → Keeps strict_only (strictly_normalized a) (normalize (reading_by false (rule_for a) a.list a.pool a.limit) a.depth a.text)
keeps a = strict_alike (rule_for a) a.list a.pool a.limit a.depth a.text

-- K8: "a strict attribute reading beside the present one, alike but for 25 and 26"
pub k8_alike : (a : Asked) (out : List ℕ) → AlikeBut (strict_normalize_of a out) (normalize_of a out)
unfolding normalize_attribute_value_call normalize_attribute_value_strict_call reading_by
k8_alike a out =
    let p = normalize (reading_by false (rule_for a) a.list a.pool a.limit) a.depth a.text in
    guarded_alike (walk_check a.text a.version a.depth a.limit a.list a.pool) (out ∷ []) (finished (strictly_normalized a) out) (finished p out)
    (finished_alike (strictly_normalized a) p (keeps a) out)

pub k8_alike_form : (a : Asked) (scratch out : List ℕ) → AlikeBut (strict_canonical_of a scratch out) (canonical_of a scratch out)
unfolding canonical_form_call canonical_form_strict_call reading_by
k8_alike_form a scratch out =
    let p = normalize (reading_by false (rule_for a) a.list a.pool a.limit) a.depth a.text in
    guarded_alike (walk_check a.text a.version a.depth a.limit a.list a.pool) (scratch ∷ out ∷ []) (formed (rule_for a) (strictly_normalized a) scratch out)
    (formed (rule_for a) p scratch out) (formed_alike (rule_for a) (strictly_normalized a) p (keeps a) scratch out)

-- ---- demand 1

guarded_refuses : (checks : Answer) (buffers : List (List ℕ)) {c d : Called} → RefusesStrictly buffers d c
    → RefusesStrictly buffers (guarded checks buffers d) (guarded checks buffers c)
guarded_refuses (Done first second) buffers h = h
guarded_refuses (Refused number first second) buffers h = as_lenient

-- what is left of an outcome, where a refusal leaves the buffers
left_refuses : (left : Outcome → Called) (buffers : List (List ℕ))
    → ((before : List ℕ) (m why first second : ℕ) → left (refused before m why first second) ≡ called why (first ∷ second ∷ []) buffers)
    → (o p : Outcome) → Keeps strict_only o p → RefusesStrictly buffers (left p) (left o)
left_refuses left buffers leaves (done value m) p h = subst (λ (x : Outcome). RefusesStrictly buffers (left x) (left (done value m))) (sym h) as_lenient
left_refuses left buffers leaves (refused before m why first second) p h = go (strict_only why) refl
  where
    go : (t : Bool) → strict_only why ≡ t → RefusesStrictly buffers (left p) (left (refused before m why first second))
    go true e = subst (RefusesStrictly buffers (left p)) (sym (leaves before m why first second)) (by_the_rule why (first ∷ second ∷ []) e)
    go false e = subst (λ (x : Outcome). RefusesStrictly buffers (left x) (left (refused before m why first second))) (sym (kept_alike why h e)) as_lenient

-- Demand 1, of the strict normalization: by 25 and 26 too the output's bytes are untouched
pub k8_refuses : (a : Asked) (out : List ℕ) → RefusesStrictly (out ∷ []) (normalize_of a out) (strict_normalize_of a out)
unfolding normalize_attribute_value_call normalize_attribute_value_strict_call reading_by finished
k8_refuses a out =
    let p = normalize (reading_by false (rule_for a) a.list a.pool a.limit) a.depth a.text in
    guarded_refuses (walk_check a.text a.version a.depth a.limit a.list a.pool) (out ∷ [])
    (left_refuses (λ (o : Outcome). finished o out) (out ∷ []) (λ before m why first second. refl) (strictly_normalized a) p (keeps a))

-- and of the strict canonical form: those of the scratch too
pub k8_form_refuses : (a : Asked) (scratch out : List ℕ) → RefusesStrictly (scratch ∷ out ∷ []) (canonical_of a scratch out) (strict_canonical_of a scratch out)
unfolding canonical_form_call canonical_form_strict_call reading_by formed
k8_form_refuses a scratch out =
    let p = normalize (reading_by false (rule_for a) a.list a.pool a.limit) a.depth a.text in
    guarded_refuses (walk_check a.text a.version a.depth a.limit a.list a.pool) (scratch ∷ out ∷ [])
    (left_refuses (λ (o : Outcome). formed (rule_for a) o scratch out) (scratch ∷ out ∷ []) (λ before m why first second. refl) (strictly_normalized a) p (keeps a))

-- ---- a strict call that answered 0

-- then so did the lenient one, with the same words and buffers
pub k8_lenient : (a : Asked) (out : List ℕ) {words : List ℕ} {buffers : List (List ℕ)} → strict_normalize_of a out ≡ called 0 words buffers
    → normalize_of a out ≡ called 0 words buffers
k8_lenient a out {words} {buffers} e = subst (λ (c : Called). AlikeBut c (normalize_of a out)) e (k8_alike a out) refl

pub k8_lenient_form : (a : Asked) (scratch out : List ℕ) {words : List ℕ} {buffers : List (List ℕ)} → strict_canonical_of a scratch out ≡ called 0 words buffers
    → canonical_of a scratch out ≡ called 0 words buffers
k8_lenient_form a scratch out {words} {buffers} e = subst (λ (c : Called). AlikeBut c (canonical_of a scratch out)) e (k8_alike_form a scratch out) refl

-- and the value is strictly accepted
pub record StrictlyGave (a : Asked) (size openings : ℕ) (left : List ℕ) : Type 0 where
  pub accepted : StrictlyAccepted a (take size left) openings

pub k8_answered : (a : Asked) (out : List ℕ) {size openings : ℕ} {left : List ℕ} → strict_normalize_of a out ≡ called 0 (size ∷ openings ∷ []) (left ∷ [])
    → StrictlyGave a size openings left
unfolding normalize_attribute_value_strict_call finished reading_by
k8_answered a out {size} {openings} {left} e =
    let x = normalize_answered a out (k8_lenient a out e) in
    let holds = x.holds in
    let n : size ≡ length x.value = let q = holds.words_are in cc in
    let m : openings ≡ x.openings = let q = holds.words_are in cc in
    let l : left ≡ laid x.value out = let q = holds.left_is in cc in
    let is : take size left ≡ x.value = ap (λ (k : ℕ). take k left) n ∙ laid_front x.value out l in
    let reads = go x.value x.openings x.accepted.taken x.accepted.reads (strictly_normalized a) refl (keeps a) in
    record { accepted = record { taken = x.accepted.taken; reads = reads ∙ ap (λ (v : List ℕ). done v x.openings) (sym is) ∙ ap (done (take size left)) (sym m) } }
  where
    go : (value : List ℕ) (k : ℕ) → Taken a → normalize (reading_by false (rule_for a) a.list a.pool a.limit) a.depth a.text ≡ done value k
        → (o : Outcome) → strictly_normalized a ≡ o
        → Keeps strict_only o (normalize (reading_by false (rule_for a) a.list a.pool a.limit) a.depth a.text) → strictly_normalized a ≡ done value k
    go value k taken p (done v i) q h = q ∙ sym h ∙ p
    go value k taken p (refused before i why first second) q h =
        let z : called why (first ∷ second ∷ []) (out ∷ []) ≡ called 0 (size ∷ openings ∷ []) (left ∷ []) =
        sym (rw (taken_passes a taken, q)) ∙ e in
        let w : why ≡ 0 = cc in
        let same : done value k ≡ refused before i why first second = sym p ∙ kept_alike why h (rw w) in
        let y : ◌≡◌ {A = ℕ} 0 1 = cc in
        absurd (omega (arith, y))

-- K8: "characters must match Char": every one of a value that a strict call gave does
pub k8_chars : (a : Asked) (out : List ℕ) {size openings : ℕ} {left : List ℕ} → strict_normalize_of a out ≡ called 0 (size ∷ openings ∷ []) (left ∷ [])
    → AllChar (rule_for a) (decode (take size left))
k8_chars a out {size} {openings} {left} e = strict_chars a (take size left) openings (k8_answered a out e).accepted

-- ---- two values

-- the lenient calls answered the same
abbrev pub answered : (a : Asked) → StrictlyAnswered a → Answered a
answered a x = record {
  out = x.out;
  size = x.size;
  openings = x.openings;
  left = x.left;
  normalizes = k8_lenient a x.out x.normalizes;
  scratch = x.scratch;
  form_out = x.form_out;
  form_size = x.form_size;
  form_openings = x.form_openings;
  held = x.held;
  form_left = x.form_left;
  writes = k8_lenient_form a x.scratch x.form_out x.writes;
}

-- K8: "Two strictly accepted values keep the canonical equivalence"
pub k8_equal : (a b : Asked) → rule_for a ≡ rule_for b → (x : StrictlyAnswered a) (y : StrictlyAnswered b) → StrictCallsEqualExactly a b x y
k8_equal a b e x y = demand_3_calls_equal a b e (answered a x) (answered b y)

-- acceptance asks nothing of the writer: a value whose strict normalization answers 0, with any output, is strictly answered by both calls
unfoldable pub k8_completes : (a : Asked) (out : List ℕ) {size openings : ℕ} {left : List ℕ} → strict_normalize_of a out ≡ called 0 (size ∷ openings ∷ []) (left ∷ []) → StrictlyAnswered a
unfolding canonical_form_strict_call
k8_completes a out {size} {openings} {left} e =
    let value = take size left in
    let form = form_of a value in
    let p = (k8_answered a out e).accepted in
    record {
      out = out;
      size = size;
      openings = openings;
      left = left;
      normalizes = e;
      scratch = 0 ∷ 0 ∷ 0 ∷ 0 ∷ [];
      form_out = form;
      form_size = length form;
      form_openings = openings;
      held = handed value (0 ∷ 0 ∷ 0 ∷ 0 ∷ []);
      form_left = laid form form;
      writes = rw (taken_passes a p.taken, p.reads) (in_hand_done (rule_for a) value openings (0 ∷ 0 ∷ 0 ∷ 0 ∷ []) form (omega arith) (omega arith));
    }

-- ---- read again

-- of the bytes that strict calls gave, asked again as demand 3 has it
module _ (a : Asked) (x : StrictlyAnswered a) (b : Asked) (c : CallAgain a (answered a x) b) where
  abbrev value : List ℕ
  value = take x.size x.left

  accepted : StrictlyAccepted a value x.openings
  accepted = (k8_answered a x.out x.normalizes).accepted

  again : AskedAgain a value b
  again =
      let p = answered_reads a (answered a x) in
      record {
        form = c.form ∙ p.form;
        size = rw (c.form, p.form, sym p.size) (omega (arith, c.size));
        version = c.version;
        known = c.known;
        shallow = c.shallow;
        deep = c.deep;
        most = c.most;
        table = table_valid b.list b.pool c.table;
        free = c.free;
      }

  taken : Taken b
  taken = (demand_3_again a value x.openings (strictly_accepted a value x.openings accepted) b again).accepted.taken

  -- K8: "strict re-reading of their forms goes as in demand 3"
  pub k8_again_calls : Rereadable (rule_for b) b.text → StrictCallRereads value b
  unfolding normalize_attribute_value_strict_call canonical_form_strict_call finished formed finish
  k8_again_calls h =
      let reread = strict_again a value x.openings accepted b again h in
      let passes = taken_passes b taken in
      let reads = reread.accepted.reads in
      let form = reread.itself in
      record {
        normalizes = λ out room. rw (passes, reads, le-ltb (length out) (length value) room);
        writes = λ scratch out room space.
            rw (passes, reads, le-ltb (length scratch) 4 room, form, le-ltb (length out) (length b.text) space);
      }

  -- K8: "save that under 2 a form holding a raw RestrictedChar gets 26"
  pub k8_again_26_calls : rule_for b ≡ xml11 → (k : ℕ) → restricted_from 0 b.text ≡ some k → StrictCallRefuses b k
  unfolding normalize_attribute_value_strict_call canonical_form_strict_call finished formed
  k8_again_26_calls e k h =
      let reread = strict_again_refused a value x.openings accepted b again e k h in
      let passes = taken_passes b taken in
      record { normalizes = λ out. rw (passes, reread.refusal); writes = λ scratch out. rw (passes, reread.refusal) }
