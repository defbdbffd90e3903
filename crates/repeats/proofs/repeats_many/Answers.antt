-- `repeats_many` keeps: no form of a class below this one stands before its entry.
use Rattle.std.proofs.Common.{not, sym, ap, arith}
use Rattle.register.specs.Places.{entries_in}
use Rattle.repeats.proofs.Clearing.{clear_classes}
use Rattle.repeats.proofs.repeats_many.Goals as goal

pub loop-class-init : goal.loop-class-init
loop-class-init c = λ q h. absurd (omega arith)

pub returns : goal.returns
returns c =
    sym (ap not (clear_classes c.args.classes c.requires.classes_nonzero.0 (entries_in c.args.register.now) (λ q h. c.loop-class.invariant q (omega arith))))
