-- `write_char`: each way out by the law of its kind of character (proofs/Characters.antt). Assumes nothing.
use mathlib.Core.Path.{◌≡◌}
use native.Mathlib.Omega.{arith}
use Rattle.eols.specs.Stops.{rule_for}
use Rattle.charref.specs.CharRef.{encode}
use Rattle.canonical.specs.Canonical.{canonical}
use Rattle.canonical.proofs.Characters.{char_reference, char_special, apart, char_plain}
use Rattle.escape.proofs.Levels.{reference_room, reference_put}
use Rattle.escape.specs.Scan.{reference_by}
use Rattle.canonical.proofs.write_char.Goals as goal
use Rattle.canonical.proofs.write_char.Goals.{Else-newer-c-2}

plain : (c : Else-newer-c-2) → canonical (rule_for c.args.newer) (encode c.args.c) ≡ encode c.args.c
plain c =
    let given = c.args in
    char_plain (rule_for given.newer) given.c (omega (arith, c.if-c-lt128.false)) (apart given.newer given.c c.if-newer-c.false c.if-newer-c-2.false)

pub escape_char-requires : goal.escape_char-requires
unfolding reference_by
escape_char-requires c =
    let given = c.args in
    reference_room (char_reference (rule_for given.newer) given.c c.if-c-lt128.true) c.requires.c_in_bounds

pub returns-then-c-lt128 : goal.returns-then-c-lt128
unfolding reference_by
returns-then-c-lt128 c =
    let given = c.args in
    let both = reference_put given.out.now (char_reference (rule_for given.newer) given.c c.if-c-lt128.true) c.escape_char.ensures in
    record { value = both.0; out_after = both.1 }

pub put_special-requires : goal.put_special-requires
put_special-requires c =
    let given = c.args in
    reference_room (char_special given.newer given.c 2 c.if-newer-c.true) c.requires.c_in_bounds

pub returns-then-newer-c : goal.returns-then-newer-c
returns-then-newer-c c =
    let given = c.args in
    let own = char_special given.newer given.c 2 c.if-newer-c.true in
    let both = reference_put given.out.now own (c.special_length.ensures.0, c.put_special.ensures) in
    record { value = both.0; out_after = both.1 }

pub put_special-requires-then-newer-c-2 : goal.put_special-requires-then-newer-c-2
put_special-requires-then-newer-c-2 c =
    let given = c.args in
    reference_room (char_special given.newer given.c 3 c.if-newer-c-2.true) c.requires.c_in_bounds

pub returns-then-newer-c-2 : goal.returns-then-newer-c-2
returns-then-newer-c-2 c =
    let given = c.args in
    let own = char_special given.newer given.c 3 c.if-newer-c-2.true in
    let both = reference_put given.out.now own (c.special_length-then-newer-c-2.ensures.0, c.put_special-then-newer-c-2.ensures) in
    record { value = both.0; out_after = both.1 }

pub encode_utf8-requires : goal.encode_utf8-requires
encode_utf8-requires c =
    (c.requires.c_bound, reference_room (plain (goal.at.encode_utf8-requires c).Else-newer-c-2) c.requires.c_in_bounds)

pub returns : goal.returns
returns c =
    let both = reference_put c.args.out.now (plain (goal.at.returns c).Else-newer-c-2) c.encode_utf8.ensures in
    record { value = both.0; out_after = both.1 }
