use native.Mathlib.Omega.{arith}
use mathlib.Core.Path.{refl}
use Rattle.notes_theory.proofs.Putting.{put_field}
use Rattle.notes.proofs.note.put_note.Goals as goal

pub returns : goal.returns
returns c = put_field c.args.buffer.now c.args.note.now _ _ c.args.n _ c.requires.0 refl (omega (arith, c.requires.1))
    c.put_bytes.ensures c.put_bytes-2.ensures
