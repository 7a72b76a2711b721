-- `answer_all`: there is room in the input, which keeps its length.
-- Assumes nothing.
use Rattle.std.proofs.Common.{length, ◌<◌, ◌≡◌}
use Rattle.build.proofs.answer_all.Given as goal

abbrev pub invariant-loop : goal.invariant-loop
invariant-loop l = (l.held < length l.input) × (length l.input ≡ length l.initial.input)
