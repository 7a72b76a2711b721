use Rattle.std.proofs.Common.{refl}
use lib.ListN.{length-set}
use Rattle.cells_theory.proofs.Bytes.{length_numbers}
use Rattle.cells.proofs.bytes.ArrayU8BYTESLoopMemoryMut.store_edge.Goals as goal

pub returns-clause-long : goal.returns-clause-long
returns-clause-long c = simp (length_numbers, length-set) refl
