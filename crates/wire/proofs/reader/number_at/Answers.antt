use Rattle.wire.proofs.Reading.{number_ends, number_found}
use Rattle.wire.proofs.reader.number_at.Goals as goal

pub returns-then-bytes-first : goal.returns-then-bytes-first
returns-then-bytes-first c = number_ends _ _ _ c.requires.0 c.if-bytes-first.true

pub returns : goal.returns
returns c =
    number_found _ _ _ _ _ _ c.type_inv.bytes c.requires.1 c.if-bytes-gt-MOST_BYTES.false c.if-bytes-first.false
    c.byte_at-a.ensures.0 c.byte_at-b.ensures.0 c.byte_at-c.ensures.0
