use Rattle.pack_theory.proofs.Packing.Ways.{finish_whole, finish_sized}
use Rattle.packer.proofs.Wiring.{written_header}
use mathlib.Core.Path.{ap}
use Rattle.pack_theory.specs.Packing.Ran.{ran_of}
use Rattle.packer.proofs.finish.finish.Goals as goal

pub returns-clause-pack : goal.returns-clause-pack
returns-clause-pack c =
    (finish_whole (ran_of c.args.end) c.args.v c.args.k c.args.numbering.now c.args.buffer.now c.args.order.now _ _
    (ap ran_of c.in-Ok.is) c.if-buffer-n.false _
    c.counts_at-counts.ensures _
    (written_header c.args.buffer.now _ _ _ _
    (finish_sized (ran_of c.args.end) _ _ (ap ran_of c.in-Ok.is) c.requires.4).0
    c.if-buffer-n.false c.write_header.ensures.1)).1.1.0
