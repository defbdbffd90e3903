-- `govlezna_rehearse`: what the spans from a turn on make of the report is what all make of it (`over`), and no word has passed its turns (`Within`).
use Rattle.std.proofs.Common.{◌≡◌, ◌<◌}
use Rattle.walk_rehearsal.specs.Turns.{Within}
use Rattle.walk_rehearsal.proofs.Turning.{over}
use Rattle.govlezna.proofs.govlezna_rehearse.Given as goal

abbrev pub invariant-loop-s : goal.invariant-loop-s
invariant-loop-s l = record {
  within : 0 < l.job.count → Within l.s-index l.report;
  same : over l.text l.job l.list l.pool l.spans 0 l.initial.report ≡ over l.text l.job l.list l.pool l.spans l.s-index l.report;
}
