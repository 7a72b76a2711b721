use mathlib.Core.Path.{refl}
use Rattle.wire_theory.proofs.Copies.{copy_more}
use Rattle.notes.proofs.note.put_bytes.Goals as goal

pub loop-i-preserved : goal.loop-i-preserved
loop-i-preserved c = copy_more _ _ _ _ _ _ _ _ c.loop-i.invariant c.loop-i-test.true refl refl
