-- K1, of the calls: what the attribute writer gives is normalized to the value written (`k1_attribute_reads_back`), what the text writer gives is,
-- after line ends, unescaped to the text written (`k1_text_reads_back`), both by `written_read` of demands/proofs/RoundTrip.antt, the one
-- proof over set and reader; UTF-8 and lengths (`k1_attribute_writes`, `k1_text_writes`). Assumes nothing.
use mathlib.Core.Path.{◌≡◌, refl, ap, sym, subst, ◌∙◌}
use mathlib.Core.Logic.{◌⊎◌, inl, inr}
use Prim.Native.Nat.{ℕ, zero, suc, ◌≤◌}
use native.Mathlib.Omega.{arith}
use mathlib.Core.Bool.{Bool, true, false}
use mathlib.Core.List.{List, [], ◌∷◌, ◌++◌}
use lib.Dec.{eqb}
use lib.ListN.{length, take}
use borrow.Author.Tests.{eqb-true, le-leb}
use Rattle.text.specs.Version.{xml10, rule_of}
use Rattle.text.specs.Utf8.{WellFormed}
use Rattle.text.specs.Call.{called, laid, finish, version_check, guarded, text_check}
use Rattle.text.proofs.Bytes.{pick_by, or_left, or_right}
use Rattle.output.proofs.Finish.{finish_laid}
use Rattle.escape.specs.Escape.{write_byte, write, hex_reference}
use Rattle.escape.specs.Scan.{escaped_by}
use Rattle.escape.proofs.View.{Kind, is_lt, is_gt, is_amp_lem, is_apos, is_quot, is_cr_lem, is_lf, is_tab, is_other, kind}
use Rattle.escape.proofs.Write.{write_least, write_most, write_well_formed}
use Rattle.c14n.specs.C14n.{c14n_attribute, c14n_text, c14n_set}
use Rattle.c14n.specs.Flags.{c14n_chars}
use Rattle.c14n.proofs.Sets.{chars_c14n, c14n_sized, c14n_ascii}
use Rattle.eols.specs.LineEnds.{line_end, eols, Normal}
use Rattle.eols.proofs.Normal.{normal_same}
use Rattle.halts.specs.Halts.{any_stop}
use Rattle.entity.specs.Table.{Declaration, marked, declarations}
use Rattle.entity.specs.Binding.{binding_in, binding}
use Rattle.tokens.specs.Tokens.{Stop}
use Rattle.tokens.specs.Outcome.{Outcome, done}
use Rattle.tokens.specs.Walking.{Copies}
use Rattle.attribute.specs.Heads.{attribute_head}
use Rattle.attribute.specs.Walk.{Settings, answer, walk, normalize, inner_head, reading, reading_of}
use Rattle.govlezna.specs.Calls.{normalize_eols_call, c14n_attribute_call, c14n_text_call}
use Rattle.demands.proofs.RoundTrip.{ReadsBack, written_read, not_picked, Refers, chars_back, no_table, UnescapesBack, chars_reads}
use Rattle.demands.proofs.CallDemands.{writer_answered, first_bytes, length_passes, utf8_passes, table_valid, empty_declares, unescapes_to, normalize_roomy}
use Rattle.requests.specs.C14n.{NormalizesTo, LinesUnescapeTo, Writes}

-- ---- attribute values under XML 1.0 at depth 1, with no table

abbrev settings : Bool → ℕ → Settings
settings past limit = reading xml10 past no_table limit

abbrev answers : Bool → ℕ → Stop → ℕ → Outcome
answers past limit = answer (settings past limit) (λ u n. walk (settings past limit) (settings past limit).inner 0 u n)

value_refers : (past : Bool) (limit : ℕ) → Refers false (attribute_head xml10) (answers past limit)
unfolding attribute_head answer reading inner_head walk binding
value_refers true limit =
    record {
      heads = λ offset bs. refl;
      lt = λ offset n. refl;
      gt = λ offset n. refl;
      amp = λ offset n. refl;
      apos = λ offset n. refl;
      quot = λ offset n. refl;
      numbers = λ digits n. refl;
    }
value_refers false limit =
    record {
      heads = λ offset bs. refl;
      lt = λ offset n. refl;
      gt = λ offset n. refl;
      amp = λ offset n. refl;
      apos = λ offset n. refl;
      quot = λ offset n. refl;
      numbers = λ digits n. refl;
    }

-- `&`, TAB, LF and CR are replaced, and everything else is copied
value_copies : (picks : ℕ → Bool) → picks 38 ≡ true → picks 9 ≡ true → picks 10 ≡ true → picks 13 ≡ true → Copies picks (attribute_head xml10)
unfolding attribute_head
value_copies picks amp tab lf cr offset b rest e =
    rw (not_picked picks 38 b amp e, not_picked picks 9 b tab e, not_picked picks 13 b cr e, not_picked picks 10 b lf e)

attribute_back : (past : Bool) (limit : ℕ) → ReadsBack (attribute_head xml10) (answers past limit) c14n_attribute
unfolding escaped_by c14n_chars
attribute_back past limit =
    subst (ReadsBack (attribute_head xml10) (answers past limit)) (chars_c14n true)
    (chars_back false (attribute_head xml10) (answers past limit) (value_refers past limit) (c14n_chars true)
    (value_copies (escaped_by (c14n_chars true)) refl refl refl refl))

attribute_read : (past : Bool) (limit : ℕ) (t : List ℕ) → normalize (settings past limit) 1 (write c14n_attribute t) ≡ done t 0
unfolding normalize walk reading
attribute_read past limit t = written_read (attribute_head xml10) (answers past limit) c14n_attribute (attribute_back past limit) t 0 0

-- a table that declares nothing
attribute_undeclared : (list pool : List ℕ) (limit : ℕ) → declarations list ≡ [] → (t : List ℕ)
    → normalize (reading_of xml10 list pool limit) 1 (write c14n_attribute t) ≡ done t 0
unfolding reading_of binding binding_in declarations
attribute_undeclared list pool limit e t =
    ap (λ (ds : List Declaration). normalize (reading xml10 (marked list) (λ name. binding_in ds pool name) limit) 1 (write c14n_attribute t)) e
    ∙ attribute_read (marked list) limit t

-- versions 0 and 1 are XML 1.0
xml10_of : (version : ℕ) → version ≤ 1 → rule_of version ≡ xml10
xml10_of zero h = refl
xml10_of (suc zero) h = refl
xml10_of (suc (suc n)) h = absurd (omega arith)

attribute_normalizes : (t : List ℕ) → WellFormed t → length (write c14n_attribute t) ≤ 16777216 → NormalizesTo t (write c14n_attribute t)
attribute_normalizes t h l version limit v m list pool out empty room =
    normalize_roomy
    (record { version = version; text = write c14n_attribute t; list = list; pool = pool; depth = 1; limit = limit }) t 0
    (record {
      taken = record {
        size = l;
        deep = omega arith;
        most = m;
        known = le-leb version 2 (omega arith);
        utf8 = write_well_formed c14n_attribute (c14n_ascii true) t h;
        table = table_valid list pool empty;
      };
      reads = rw (xml10_of version v) (attribute_undeclared list pool limit (empty_declares list pool empty) t);
    })
    out room

-- ---- text

text_back : UnescapesBack c14n_text
text_back = subst UnescapesBack (chars_c14n false) (chars_reads (c14n_chars false))

-- what is written holds no CR
is_cr : ℕ → Bool
is_cr b = eqb b 13

any_append : (stop : ℕ → Bool) (xs ys : List ℕ) → any_stop stop xs ≡ false → any_stop stop ys ≡ false → any_stop stop (xs ++ ys) ≡ false
any_append stop [] ys e q = q
any_append stop (x ∷ xs) ys e q =
    rw (or_left (stop x) (any_stop stop xs) e) (any_append stop xs ys (or_right (stop x) (any_stop stop xs) e) q)

hex_no_cr : (b : ℕ) → Kind b → any_stop is_cr (hex_reference b) ≡ false
unfolding hex_reference is_cr
hex_no_cr b is_lt = refl
hex_no_cr b is_gt = refl
hex_no_cr b is_amp_lem = refl
hex_no_cr b is_apos = refl
hex_no_cr b is_quot = refl
hex_no_cr b is_cr_lem = refl
hex_no_cr b is_lf = refl
hex_no_cr b is_tab = refl
hex_no_cr b (is_other o) = rw (o.no_tab, o.no_lf, o.no_cr, o.no_lt, o.no_gt, o.no_amp, o.no_apos, o.no_quot) (rw o.no_cr)

text_no_cr : (t : List ℕ) → any_stop is_cr (write c14n_text t) ≡ false
unfolding write c14n_text is_cr
text_no_cr [] = refl
text_no_cr (b ∷ bs) =
    any_append is_cr (write_byte c14n_text b) (write c14n_text bs)
    (pick_by (λ (l : List ℕ). any_stop is_cr l ≡ false) (c14n_text.picks b) {a = hex_reference b} {b = b ∷ []} (λ e. hex_no_cr b (kind b))
    (λ e. rw (not_picked c14n_text.picks 13 b refl e)))
    (text_no_cr bs)

-- and so line ends of 1.0 leave it
no_line_end : (b : ℕ) (bs : List ℕ) → eqb b 13 ≡ false → eqb b 10 ≡ false → line_end xml10 (b ∷ bs) ≡ 0
unfolding line_end
no_line_end b bs cr lf = rw (cr, lf)

no_cr_normal : (t : List ℕ) → any_stop is_cr t ≡ false → Normal xml10 t
unfolding is_cr
no_cr_normal [] e = tt
no_cr_normal (b ∷ bs) e = (go (eqb b 10) refl, no_cr_normal bs (or_right (eqb b 13) (any_stop is_cr bs) e))
  where
    go : (t : Bool) → eqb b 10 ≡ t → (line_end xml10 (b ∷ bs) ≡ 0) ⊎ (b ≡ 10)
    go true q = inr (eqb-true b 10 q)
    go false q = inl (no_line_end b bs (or_left (eqb b 13) (any_stop is_cr bs) e) q)

text_lines : (t : List ℕ) → eols xml10 (write c14n_text t) ≡ write c14n_text t
unfolding eols
text_lines t = normal_same xml10 (write c14n_text t) (no_cr_normal (write c14n_text t) (text_no_cr t))

text_reads : (t : List ℕ) → WellFormed t → length (write c14n_text t) ≤ 16777216 → (version : ℕ) → version ≤ 1 → (lines : List ℕ)
    → length (write c14n_text t) ≤ length lines → LinesUnescapeTo t (write c14n_text t) version lines
unfolding normalize_eols_call version_check
text_reads t h l version v lines room =
    let form = write c14n_text t in
    record {
      size = length form;
      left = laid form lines;
      ended = rw (length_passes form l, le-leb version 2 (omega arith), utf8_passes form (write_well_formed c14n_text (c14n_ascii false) t h), xml10_of version v, text_lines t)
          (sym (finish_laid form 0 lines refl room refl));
      unescapes = rw (first_bytes form lines refl refl) (unescapes_to c14n_text text_back (c14n_ascii false) t h l);
    }

-- ---- of the calls

-- a buffer that one of the writers left
abbrev Left : Bool → List ℕ → List ℕ → ℕ → ℕ → List ℕ → Type 0
Left attribute text out size second left =
    guarded (text_check text) (out ∷ []) (finish (write (c14n_set attribute) text) 0 out) ≡ called 0 (size ∷ second ∷ []) (left ∷ [])

-- the text is UTF-8, and the first bytes are the form
record Given (attribute : Bool) (text : List ℕ) (size : ℕ) (left : List ℕ) : Type 0 where
  utf8 : WellFormed text
  long : size ≡ length (write (c14n_set attribute) text)
  form : take size left ≡ write (c14n_set attribute) text

given : (attribute : Bool) (text out : List ℕ) (size second : ℕ) (left : List ℕ) → Left attribute text out size second left → Given attribute text size left
given attribute text out size second left e =
    let form = write (c14n_set attribute) text in
    let q = writer_answered text form out e in
    let w = q.writes.words_are in
    let b = q.writes.left_is in
    let n : size ≡ length form = cc in
    let f : left ≡ laid form out = cc in
    record { utf8 = q.utf8; long = n; form = first_bytes form out n f }

writes : (attribute : Bool) (text out : List ℕ) (size second : ℕ) (left : List ℕ) → Left attribute text out size second left → Writes text (take size left)
writes attribute text out size second left e =
    let g = given attribute text out size second left e in
    let set = c14n_set attribute in
    rw g.form
    (record {
      utf8 = write_well_formed set (c14n_ascii attribute) text g.utf8;
      least = write_least set (c14n_sized attribute) text;
      most = write_most set (c14n_sized attribute) text;
    })

-- K1: attribute output of at most 16,777,216 bytes, normalized under version 0 or 1 with an empty table at depth 1 and any limit up to 1,000,000,
-- is the value written, with no openings.
pub k1_attribute_reads_back : (text out : List ℕ) (size second : ℕ) (left : List ℕ)
    → c14n_attribute_call text out ≡ called 0 (size ∷ second ∷ []) (left ∷ []) → size ≤ 16777216 → NormalizesTo text (take size left)
unfolding c14n_attribute_call
k1_attribute_reads_back text out size second left e l =
    let g = given true text out size second left e in
    rw g.form (attribute_normalizes text g.utf8 (rw g.long at l))

-- K1: text output of at most 16,777,216 bytes, after line ends of 1.0 and unescaping with an empty table, is the text written.
pub k1_text_reads_back : (text out : List ℕ) (size second : ℕ) (left : List ℕ)
    → c14n_text_call text out ≡ called 0 (size ∷ second ∷ []) (left ∷ []) → size ≤ 16777216
    → (version : ℕ) → version ≤ 1 → (lines : List ℕ) → size ≤ length lines → LinesUnescapeTo text (take size left) version lines
unfolding c14n_text_call
k1_text_reads_back text out size second left e l version v lines room =
    let g = given false text out size second left e in
    rw g.form (text_reads text g.utf8 (rw g.long at l) version v lines (rw g.long at room))

-- K1: the attribute writer's output is UTF-8, at least as long as the value and at most six times.
pub k1_attribute_writes : (text out : List ℕ) (size second : ℕ) (left : List ℕ)
    → c14n_attribute_call text out ≡ called 0 (size ∷ second ∷ []) (left ∷ []) → Writes text (take size left)
unfolding c14n_attribute_call
k1_attribute_writes text out size second left e = writes true text out size second left e

-- K1: the text writer's output is UTF-8, at least as long as the text and at most six times.
pub k1_text_writes : (text out : List ℕ) (size second : ℕ) (left : List ℕ)
    → c14n_text_call text out ≡ called 0 (size ∷ second ∷ []) (left ∷ []) → Writes text (take size left)
unfolding c14n_text_call
k1_text_writes text out size second left e = writes false text out size second left e
