use Rattle.rules.specs.Packed.{packed_of}
use Rattle.positions_theory.proofs.Following.{may_follow, follows}
use Rattle.positions.proofs.packing.pack_fitting.Goals as goal

pub follow-requires : goal.follow-requires
follow-requires c = may_follow c.args.v c.args.list.now c.args.positions.now c.args.n c.args.numbering.now c.args.buffer.now
    c.args.order.now c.requires
    c.room_before-end.result c.room_before-end.ensures _ _ _ c.pack_on-r.auto.numbering c.pack_on-r.auto.buffer
    (packed_of c.pack_on-r.result) c.pack_on-r.ensures

pub returns : goal.returns
returns c = follows c.args.v c.args.list.now c.args.positions.now c.args.n c.args.numbering.now c.args.buffer.now c.args.order.now
    c.requires
    c.room_before-end.result c.room_before-end.ensures _ _ _ c.pack_on-r.auto.numbering c.pack_on-r.auto.buffer
    (packed_of c.pack_on-r.result) c.pack_on-r.ensures _ _ c.follow.ensures
