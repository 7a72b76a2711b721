-- Each answer is a law of what is left.
use Rattle.std.proofs.Common.{arith}
use Rattle.wire_theory.proofs.Rest.{rest_none, rest_whole}
use Rattle.wire.proofs.Reading.{rest_read}
use Rattle.wire.proofs.reader.is_rest_zero.Goals as goal

pub returns-then-ops-last : goal.returns-then-ops-last
returns-then-ops-last c = rest_none c.args.ops.now c.args.at c.if-ops-last.true

pub returns-then-last-ops : goal.returns-then-last-ops
returns-then-last-ops c = rest_whole c.args.ops.now c.args.at (omega arith)

pub returns : goal.returns
returns c = rest_read _ _ _ c.from.ensures c.if-ops-last.false (omega arith) (λ e. omega arith)
