use lib.ListN.{length}
use Rattle.wire_theory.proofs.Copies.{Copied}
use Rattle.notes.proofs.note.put_bytes.Given as goal

abbrev pub invariant-loop-i : goal.invariant-loop-i
invariant-loop-i l = Copied (length l.bytes) l.n l.bytes l.initial.buffer l.buffer l.i
