use Rattle.std.proofs.Common.{◌≡◌, ◌*◌, ◌≤◌}
use Rattle.rules.specs.Sound.{sizes_of}
use Rattle.state.proofs.counts.sizes_fit.Given as goal

abbrev pub invariant-loop-w : goal.invariant-loop-w
invariant-loop-w l = (l.sum ≡ sizes_of l.b l.w) × (l.sum ≤ 65535 * l.w)
