use Rattle.std.proofs.Common.{◌≡◌, ◌+◌}
use Rattle.repeats.proofs.Filtering.{Scanned}
use Rattle.repeats.proofs.seen.Given as goal

abbrev pub invariant-loop-held : goal.invariant-loop-held
invariant-loop-held l =
    (l.held-items ≡ l.initial.held-items) × Scanned l.fn.table l.home l.fingerprint (l.home + l.held-index)
