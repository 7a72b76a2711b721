use Rattle.wire.proofs.Words.{word_is, word_fits}
use Rattle.wire.proofs.writer.word_of.Goals as goal

pub overflow_cast-result : goal.overflow_cast-result
overflow_cast-result c = record { fits = word_fits _ _ _ _ c.requires.0 c.requires.1 c.requires.2 c.requires.3 }

pub returns : goal.returns
returns c = word_is _ _ _ _ c.requires.0 c.requires.1 c.requires.2 c.requires.3
