use mathlib.Core.Path.{ap, ◌∙◌}
use lib.ListN.{take}
use Rattle.wire.proofs.Words.{buffer_written}
use Rattle.wire.proofs.writer.write_operation.Goals as goal

pub returns-clause-bytes : goal.returns-clause-bytes
returns-clause-bytes c = buffer_written _ _ _ _ c.piece_of-piece.ensures.0 _ _ _ _ c.slice_known-1.given c.if-pack-k.false
    c.from.ensures c.piece_of-piece.ensures.1 c.word_of-word.ensures (c.copy_from_slice.ensures.after ∙ ap (take _) c.to_be_bytes.ensures)
