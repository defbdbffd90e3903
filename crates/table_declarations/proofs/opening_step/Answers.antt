-- `opening_step`: the keyword (`Literally`), then white space (`Spaced`).
use mathlib.Core.Path.{refl}
use mathlib.Core.List.{[]}
use native.Mathlib.Omega.{arith}
use Rattle.table_declarations.proofs.Keyword.{opening_cut, opening_space, opening_done}
use Rattle.table_declarations.proofs.opening_step.Goals as goal

pub returns-then-key-i : goal.returns-then-key-i
returns-then-key-i c =
    λ old. record { value = []; is = opening_cut _ _ (c.literal_end-key.ensures.cut c.if-key-i.true); kept = (c.literal_end-key.ensures.to, refl) }

pub returns-then-at-key : goal.returns-then-at-key
returns-then-at-key c =
    let given = c.args in
    λ old. record {
      value = [];
      is = opening_space given.newer _ given.text.now _ _
          (c.literal_end-key.ensures.whole (omega (arith, c.literal_end-key.ensures.most, c.if-key-i.false))) (c.space_end-at.ensures.none c.if-at-key.true) c.if-at-key.true;
      kept = (c.space_end-at.ensures.to, refl);
    }

pub returns : goal.returns
returns c =
    λ old. record {
      value = [];
      is = opening_done _ _ _ (c.literal_end-key.ensures.whole (omega (arith, c.literal_end-key.ensures.most, c.if-key-i.false)))
          (c.space_end-at.ensures.some (omega (arith, c.space_end-at.ensures.from, c.if-at-key.false)));
      kept = record
          { on = omega (arith, c.literal_end-key.ensures.most, c.if-key-i.false, c.space_end-at.ensures.from); to = c.space_end-at.ensures.to; size = refl; small = omega (arith, c.if-key-i.false, c.space_end-at.ensures.from); holds = refl };
    }
