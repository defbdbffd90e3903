-- `decode_hex`: `-` writes no bytes; else the bytes that `decode_pairs` put are what the field writes, since there is a pair (`field_of_some_lem`).
use Rattle.std.proofs.Common.{◌≡◌, ◌≢◌, ◌*◌, ◌/◌, ◌%◌, ◌<◌, length, take, flat_map, sym, ◌∙◌, ap, arith, length-take-le, eqb-true}
use Rattle.std.proofs.lemmas.Bool.{eqb-false}
use lib.Seq.{take-length}
use Rattle.std.specs.Simd.{first_chunks}
use Rattle.std.proofs.lemmas.Bool.Decides.{Decides-eqb}
use Rattle.std.proofs.lemmas.Slice.Eq.{slice_eq-Decides}
use Rattle.replay.specs.Values.{field_of}
use Rattle.replay.proofs.Laws.{field_of_some_lem, flat_pairs}
use Rattle.replay.proofs.values.decode_hex.Goals as goal

pub returns-then-eq-clause-decodes : goal.returns-then-eq-clause-decodes
unfolding field_of
returns-then-eq-clause-decodes c = sym ((slice_eq-Decides Decides-eqb _ _ _ c.eq.ensures).0 c.if-eq.true ∙ c.as_slice.ensures)

pub returns-clause-decodes : goal.returns-clause-decodes
returns-clause-decodes c =
    let field = c.args.field.now in
    let pairs = c.as_chunks.result.0.now in
    let odd = c.as_chunks.result.1.now in
    let out = c.decode_pairs.new.out in
    let cut = c.as_chunks.ensures in
    let front : pairs ≡ first_chunks 2 (length field / 2) field = cut.front in
    let n : length pairs ≡ length field / 2 = cut.front_len in
    let left : length odd ≡ length field % 2 = cut.back_len in
    let even : length odd ≡ 0 = eqb-true (length odd) 0 (sym c.is_empty-else-pairs-gt2048.ensures ∙ c.if-not-is_empty.false) in
    let any : length pairs ≢ 0 = eqb-false (length pairs) 0 (sym c.is_empty.ensures ∙ c.if-is_empty.false) in
    let some : 0 < length (take (length pairs) out) = omega (arith, length-take-le (length pairs) out (omega arith)) in
    let all : length field / 2 * 2 ≡ length field = omega arith in
    field_of_some_lem (take (length pairs) out) some ∙ c.in_ok-decode_pairs.ensures ∙ ap (λ ps. flat_map (λ p. p) ps) front
    ∙ flat_pairs (length field / 2) field ∙ rw all (take-length field)
