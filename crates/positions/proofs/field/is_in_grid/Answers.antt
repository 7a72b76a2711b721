use Rattle.wire_theory.proofs.Grid.{by_bytes}
use Rattle.positions.proofs.field.is_in_grid.Goals as goal

pub returns : goal.returns
returns c = by_bytes c.args.field.now c.args.i c.word_at.result _ c.requires c.word_at.ensures c.is_in_range.ensures
