use mathlib.Core.Path.{◌∙◌}
use borrow.Author.Tests.{lt-ltb}
use Rattle.wire_theory.proofs.Grid.{low_in, other_in}
use Rattle.positions.proofs.field.is_in_range.Goals as goal

pub returns-then-w-lt-END : goal.returns-then-w-lt-END
returns-then-w-lt-END c = lt-ltb _ _ c.if-w-lt-END.true ∙ low_in c.args.w c.if-w-lt-END.true

pub returns-else-w-lt-END : goal.returns-else-w-lt-END
returns-else-w-lt-END c = other_in c.args.w c.ranges.w.fits c.if-w-lt-END.false
