-- Every well-formed text is the UTF-8 of its characters (RFC 3629, section 3). Assumes nothing.
use mathlib.Core.Path.{◌≡◌, refl, ap, ap₂, sym, ◌∙◌}
use Prim.Native.Nat.{ℕ, ◌+◌, ◌-◌, ◌*◌, ◌/◌, ◌%◌, ◌≤◌, ◌<◌}
use native.Mathlib.Omega.{arith}
use mathlib.Core.Bool.{false}
use mathlib.Core.List.{List, [], ◌∷◌, ◌++◌, append_assoc}
use lib.Dec.{eqb, leb}
use borrow.Author.Tests.{eqb-true, leb-true, le-leb, lt-leb}
use Rattle.text.specs.Bytes.{pick, within}
use Rattle.text.specs.Utf8.{State, between, one, two, three, after_e0, after_ed, after_f0, after_f4, broken, first, next, after, is_between, WellFormed}
use Rattle.text.proofs.Bytes.{pick_by, within_low, within_top, contrary}
use Rattle.text.proofs.Utf8.{never_between}
use Rattle.charref.specs.CharRef.{encode}
use Rattle.charref.proofs.Encoding.{encode_1, encode_2, encode_3, encode_4}
use Rattle.demands.specs.Characters.{encode_all, lead, gather, decode_from, decode}

enc2 : (n b c : ℕ) → 0x80 ≤ n → n < 0x800 → 0xC0 + n / 64 ≡ b → 0x80 + n % 64 ≡ c → encode n ≡ b ∷ c ∷ []
enc2 n b c h k p q = encode_2 n h k ∙ rw (p, q)

enc3 : (n b c d : ℕ) → 0x800 ≤ n → n < 0x10000 → 0xE0 + n / 4096 ≡ b → 0x80 + n / 64 % 64 ≡ c → 0x80 + n % 64 ≡ d → encode n ≡ b ∷ c ∷ d ∷ []
enc3 n b c d h k p q r = encode_3 n h k ∙ rw (p, q, r)

enc4 : (n b c d e : ℕ) → 0x10000 ≤ n → 0xF0 + n / 262144 ≡ b → 0x80 + n / 4096 % 64 ≡ c → 0x80 + n / 64 % 64 ≡ d → 0x80 + n % 64 ≡ e → encode n ≡ b ∷ c ∷ d ∷ e ∷ []
enc4 n b c d e h p q r s = encode_4 n h ∙ rw (p, q, r, s)

-- what is known of the bytes w so far of a character, whose number so far is sum: with each end that the state allows, they are its UTF-8
abbrev One : ℕ → List ℕ → Type 0
One sum w = (c : ℕ) → 0x80 ≤ c → c ≤ 0xBF → encode (64 * sum + (c - 0x80)) ≡ w ++ c ∷ []

abbrev Two : ℕ → ℕ → ℕ → List ℕ → Type 0
Two lo hi sum w = (c d : ℕ) → lo ≤ c → c ≤ hi → 0x80 ≤ d → d ≤ 0xBF → encode (64 * (64 * sum + (c - 0x80)) + (d - 0x80)) ≡ w ++ c ∷ d ∷ []

abbrev Three : ℕ → ℕ → ℕ → List ℕ → Type 0
Three lo hi sum w =
    (c d e : ℕ) → lo ≤ c → c ≤ hi → 0x80 ≤ d → d ≤ 0xBF → 0x80 ≤ e → e ≤ 0xBF
    → encode (64 * (64 * (64 * sum + (c - 0x80)) + (d - 0x80)) + (e - 0x80)) ≡ w ++ c ∷ d ∷ e ∷ []

abbrev After : State → ℕ → List ℕ → Type 0
After between sum w = encode sum ≡ w
After one sum w = One sum w
After two sum w = Two 0x80 0xBF sum w
After three sum w = Three 0x80 0xBF sum w
After after_e0 sum w = Two 0xA0 0xBF sum w
After after_ed sum w = Two 0x80 0x9F sum w
After after_f0 sum w = Three 0x90 0xBF sum w
After after_f4 sum w = Three 0x80 0x8F sum w
After broken sum w = Unit {0}

abbrev Before : State → ℕ → List ℕ → Type 0
Before between sum w = w ≡ []
Before one sum w = One sum w
Before two sum w = Two 0x80 0xBF sum w
Before three sum w = Three 0x80 0xBF sum w
Before after_e0 sum w = Two 0xA0 0xBF sum w
Before after_ed sum w = Two 0x80 0x9F sum w
Before after_f0 sum w = Three 0x90 0xBF sum w
Before after_f4 sum w = Three 0x80 0x8F sum w
Before broken sum w = Unit {0}

lead_1 : (b : ℕ) → b ≤ 0x7F → lead b ≡ b
unfolding lead
lead_1 b h = rw (le-leb b 0x7F h)

lead_2 : (b : ℕ) → 0xC2 ≤ b → b ≤ 0xDF → lead b ≡ b - 0xC0
unfolding lead
lead_2 b h k = let h' : 0x7F < b = omega arith in rw (lt-leb b 0x7F h', le-leb b 0xDF k)

lead_3 : (b : ℕ) → 0xE0 ≤ b → b ≤ 0xEF → lead b ≡ b - 0xE0
unfolding lead
lead_3 b h k =
    let h' : 0x7F < b = omega arith in
    let h'' : 0xDF < b = omega arith in
    rw (lt-leb b 0x7F h', lt-leb b 0xDF h'', le-leb b 0xEF k)

lead_4 : (b : ℕ) → 0xF0 ≤ b → lead b ≡ b - 0xF0
unfolding lead
lead_4 b h =
    let h' : 0x7F < b = omega arith in
    let h'' : 0xDF < b = omega arith in
    let k : 0xEF < b = omega arith in
    rw (lt-leb b 0x7F h', lt-leb b 0xDF h'', lt-leb b 0xEF k)

start_1 : (b : ℕ) → b ≤ 0x7F → encode b ≡ b ∷ []
start_1 b h = encode_1 b (omega arith)

start_2 : (b : ℕ) → 0xC2 ≤ b → b ≤ 0xDF → One (b - 0xC0) (b ∷ [])
start_2 b h k c p q = enc2 (64 * (b - 0xC0) + (c - 0x80)) b c (omega arith) (omega arith) (omega arith) (omega arith)

start_3 : (lo hi b : ℕ) → 0xE0 ≤ b → b ≤ 0xEF → 0x80 ≤ lo → hi ≤ 0xBF → ((c : ℕ) → lo ≤ c → 0x20 ≤ 64 * (b - 0xE0) + (c - 0x80)) → Two lo hi (b - 0xE0) (b ∷ [])
start_3 lo hi b h k l t m c d p q u v =
    let z = m c p in
    enc3 (64 * (64 * (b - 0xE0) + (c - 0x80)) + (d - 0x80)) b c d (omega arith) (omega arith) (omega arith) (omega arith) (omega arith)

start_4 : (lo hi b : ℕ) → 0xF0 ≤ b → b ≤ 0xF4 → 0x80 ≤ lo → hi ≤ 0xBF → ((c : ℕ) → lo ≤ c → 0x10 ≤ 64 * (b - 0xF0) + (c - 0x80)) → Three lo hi (b - 0xF0) (b ∷ [])
start_4 lo hi b h k l t m c d e p q u v x y =
    let z = m c p in
    enc4 (64 * (64 * (64 * (b - 0xF0) + (c - 0x80)) + (d - 0x80)) + (e - 0x80)) b c d e (omega arith) (omega arith) (omega arith) (omega arith) (omega arith)

-- a first byte
starts : (b : ℕ) → After (first b) (lead b) (b ∷ [])
unfolding first
starts b =
    pick_by (λ (s : State). After s (lead b) (b ∷ [])) (leb b 0x7F) {a = between} (λ e. rw (lead_1 b (leb-true b 0x7F e)) (start_1 b (leb-true b 0x7F e))) λ n1.
    pick_by (λ (s : State). After s (lead b) (b ∷ [])) (within 0xC2 0xDF b) {a = one} (λ e. rw (lead_2 b (within_low 0xC2 0xDF b e) (within_top 0xC2 0xDF b e)) (start_2 b (within_low 0xC2 0xDF b e) (within_top 0xC2 0xDF b e))) λ n2.
    pick_by (λ (s : State). After s (lead b) (b ∷ [])) (eqb b 0xE0) {a = after_e0} (λ e. at_e0 b (eqb-true b 0xE0 e)) λ n3.
    pick_by (λ (s : State). After s (lead b) (b ∷ [])) (eqb b 0xED) {a = after_ed} (λ e. at_ed b (eqb-true b 0xED e)) λ n4.
    pick_by (λ (s : State). After s (lead b) (b ∷ [])) (within 0xE1 0xEF b) {a = two} (λ e. at_two b (within_low 0xE1 0xEF b e) (within_top 0xE1 0xEF b e)) λ n5.
    pick_by (λ (s : State). After s (lead b) (b ∷ [])) (eqb b 0xF0) {a = after_f0} (λ e. at_f0 b (eqb-true b 0xF0 e)) λ n6.
    pick_by (λ (s : State). After s (lead b) (b ∷ [])) (within 0xF1 0xF3 b) {a = three} (λ e. at_three b (within_low 0xF1 0xF3 b e) (within_top 0xF1 0xF3 b e)) λ n7.
    pick_by (λ (s : State). After s (lead b) (b ∷ [])) (eqb b 0xF4) {a = after_f4} {b = broken} (λ e. at_f4 b (eqb-true b 0xF4 e)) (λ e. tt)
  where
    at_e0 : (b : ℕ) → b ≡ 0xE0 → Two 0xA0 0xBF (lead b) (b ∷ [])
    at_e0 b e = rw (lead_3 b (omega arith) (omega arith)) (start_3 0xA0 0xBF b (omega arith) (omega arith) (omega arith) (omega arith) (λ c h. omega arith))

    at_ed : (b : ℕ) → b ≡ 0xED → Two 0x80 0x9F (lead b) (b ∷ [])
    at_ed b e = rw (lead_3 b (omega arith) (omega arith)) (start_3 0x80 0x9F b (omega arith) (omega arith) (omega arith) (omega arith) (λ c h. omega arith))

    at_two : (b : ℕ) → 0xE1 ≤ b → b ≤ 0xEF → Two 0x80 0xBF (lead b) (b ∷ [])
    at_two b l t = rw (lead_3 b (omega arith) (omega arith)) (start_3 0x80 0xBF b (omega arith) (omega arith) (omega arith) (omega arith) (λ c h. omega arith))

    at_f0 : (b : ℕ) → b ≡ 0xF0 → Three 0x90 0xBF (lead b) (b ∷ [])
    at_f0 b e = rw (lead_4 b (omega arith)) (start_4 0x90 0xBF b (omega arith) (omega arith) (omega arith) (omega arith) (λ c h. omega arith))

    at_three : (b : ℕ) → 0xF1 ≤ b → b ≤ 0xF3 → Three 0x80 0xBF (lead b) (b ∷ [])
    at_three b l t = rw (lead_4 b (omega arith)) (start_4 0x80 0xBF b (omega arith) (omega arith) (omega arith) (omega arith) (λ c h. omega arith))

    at_f4 : (b : ℕ) → b ≡ 0xF4 → Three 0x80 0x8F (lead b) (b ∷ [])
    at_f4 b e = rw (lead_4 b (omega arith)) (start_4 0x80 0x8F b (omega arith) (omega arith) (omega arith) (omega arith) (λ c h. omega arith))

one_on : (sum : ℕ) (w : List ℕ) (b : ℕ) → One sum w → After (pick (within 0x80 0xBF b) between broken) (64 * sum + (b - 0x80)) (w ++ b ∷ [])
one_on sum w b h = pick_by (λ (s : State). After s (64 * sum + (b - 0x80)) (w ++ b ∷ [])) (within 0x80 0xBF b) {a = between} {b = broken} (λ e. h b (within_low 0x80 0xBF b e) (within_top 0x80 0xBF b e)) (λ e. tt)

two_on : (lo hi sum : ℕ) (w : List ℕ) (b : ℕ) → Two lo hi sum w → After (pick (within lo hi b) one broken) (64 * sum + (b - 0x80)) (w ++ b ∷ [])
two_on lo hi sum w b h =
    pick_by (λ (s : State). After s (64 * sum + (b - 0x80)) (w ++ b ∷ [])) (within lo hi b) {a = one} {b = broken}
    (λ e d p q. h b d (within_low lo hi b e) (within_top lo hi b e) p q ∙ sym (append_assoc w (b ∷ []) (d ∷ []))) (λ e. tt)

three_on : (lo hi sum : ℕ) (w : List ℕ) (b : ℕ) → Three lo hi sum w → After (pick (within lo hi b) two broken) (64 * sum + (b - 0x80)) (w ++ b ∷ [])
three_on lo hi sum w b h =
    pick_by (λ (s : State). After s (64 * sum + (b - 0x80)) (w ++ b ∷ [])) (within lo hi b) {a = two} {b = broken}
    (λ e d x p q u v. h b d x (within_low lo hi b e) (within_top lo hi b e) p q u v ∙ sym (append_assoc w (b ∷ []) (d ∷ x ∷ []))) (λ e. tt)

onward : (s : State) (sum : ℕ) (w : List ℕ) (b : ℕ) → Before s sum w → After (next s b) (gather s sum b) (w ++ b ∷ [])
unfolding next gather is_between
onward between sum w b h = rw h (starts b)
onward one sum w b h = one_on sum w b h
onward two sum w b h = two_on 0x80 0xBF sum w b h
onward three sum w b h = three_on 0x80 0xBF sum w b h
onward after_e0 sum w b h = two_on 0xA0 0xBF sum w b h
onward after_ed sum w b h = two_on 0x80 0x9F sum w b h
onward after_f0 sum w b h = three_on 0x90 0xBF sum w b h
onward after_f4 sum w b h = three_on 0x80 0x8F sum w b h
onward broken sum w b h = tt

never : {X : Type 0} (s : State) → is_between s ≡ false → s ≡ between → X
unfolding is_between
never s f e = contrary (ap is_between e) f

-- where the reader stands between two characters a new one starts
resume : (s : State) (sum : ℕ) (w bs : List ℕ) → ((s : State) (sum : ℕ) (w : List ℕ) → Before s sum w → after s bs ≡ between → encode_all (decode_from s sum bs) ≡ w ++ bs)
    → After s sum w → after s bs ≡ between → encode_all (pick (is_between s) (sum ∷ decode_from s sum bs) (decode_from s sum bs)) ≡ w ++ bs
unfolding is_between encode_all
resume between sum w bs ih a e = ap₂ ◌++◌ a (ih between sum [] refl e)
resume one sum w bs ih a e = ih one sum w a e
resume two sum w bs ih a e = ih two sum w a e
resume three sum w bs ih a e = ih three sum w a e
resume after_e0 sum w bs ih a e = ih after_e0 sum w a e
resume after_ed sum w bs ih a e = ih after_ed sum w a e
resume after_f0 sum w bs ih a e = ih after_f0 sum w a e
resume after_f4 sum w bs ih a e = ih after_f4 sum w a e
resume broken sum w bs ih a e = absurd (never_between bs e)

ended_here : (s : State) (sum : ℕ) (w : List ℕ) → Before s sum w → s ≡ between → [] ≡ w ++ []
unfolding is_between
ended_here between sum w h e = rw h
ended_here one sum w h e = never one refl e
ended_here two sum w h e = never two refl e
ended_here three sum w h e = never three refl e
ended_here after_e0 sum w h e = never after_e0 refl e
ended_here after_ed sum w h e = never after_ed refl e
ended_here after_f0 sum w h e = never after_f0 refl e
ended_here after_f4 sum w h e = never after_f4 refl e
ended_here broken sum w h e = never broken refl e

decode_from_lem : (t : List ℕ) (s : State) (sum : ℕ) (w : List ℕ) → Before s sum w → after s t ≡ between → encode_all (decode_from s sum t) ≡ w ++ t
unfolding decode_from after encode_all
decode_from_lem [] s sum w h e = ended_here s sum w h e
decode_from_lem (b ∷ bs) s sum w h e =
    resume (next s b) (gather s sum b) (w ++ b ∷ []) bs (λ s sum w h e. decode_from_lem bs s sum w h e) (onward s sum w b h) e ∙ append_assoc w (b ∷ []) bs

-- a well-formed text is the UTF-8 of its characters
pub decode_encode : (t : List ℕ) → WellFormed t → encode_all (decode t) ≡ t
unfolding WellFormed decode
decode_encode t h = decode_from_lem t between 0 [] refl h
