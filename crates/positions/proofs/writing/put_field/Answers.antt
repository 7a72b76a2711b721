use mathlib.Core.Path.{refl}
use Rattle.positions_theory.proofs.Written.{field_is}
use Rattle.positions.proofs.writing.put_field.Goals as goal

pub returns : goal.returns
returns c = field_is _ _ _ _ c.requires _ refl _ c.put_word.ensures _ c.put_positions.ensures
