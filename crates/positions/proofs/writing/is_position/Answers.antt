use mathlib.Core.Path.{ap, ◌∙◌}
use mir.Facts.{to_z-of_z}
use Rattle.rules.specs.Grid.{unsigned_of}
use Rattle.positions_theory.proofs.Words.{by_word}
use Rattle.positions.proofs.writing.is_position.Goals as goal

pub returns : goal.returns
returns c = by_word c.args.z c.ranges.z c.unsigned.result _ (c.unsigned.ensures ∙ ap unsigned_of (to_z-of_z c.ranges.z))
    c.is_in_range.ensures
