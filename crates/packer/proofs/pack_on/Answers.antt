use mathlib.Core.Path.{refl, ap}
use borrow.Author.Rules.{rules}
use Rattle.std.proofs.lemmas.Result.{err_from_is_err_and}
use Rattle.rules.specs.Checked.{checked_of}
use Rattle.mesh_theory.proofs.Chains.Linking.{zeros_none}
use Rattle.pack_theory.proofs.Packing.Rooms.{packed_refused, packed_room, packed_fitting, packed_ran}
use Rattle.packer.proofs.pack_on.Goals as goal

pub test_rooms-requires : goal.test_rooms-requires
test_rooms-requires c = zeros_none _ _ refl

pub returns-in_err-test_rooms : goal.returns-in_err-test_rooms
returns-in_err-test_rooms c =
    let p = err_from_is_err_and c.from_residual.result c.from_residual.ensures.1 in
    rw (p.1, p.2)
    (packed_refused c.args.v c.args.list.now c.args.numbering.now c.args.buffer.now c.args.order.now c.args.n _
    c.test_rooms.ensures.right _ (ap checked_of c.in_err-test_rooms.was))

pub pack_accepted-requires : goal.pack_accepted-requires
pack_accepted-requires c =
    let q = ap checked_of c.in_ok-test_rooms.was in (
      packed_fitting c.args.v c.args.list.now c.args.numbering.now c.args.buffer.now c.args.order.now c.args.n _
          c.test_rooms.ensures.right q _ _ (c.test_rooms.ensures.chained q) (search rules),
      packed_room c.args.v c.args.list.now c.args.numbering.now c.args.buffer.now c.args.order.now c.args.n _ c.test_rooms.ensures.right q,
    )

pub returns : goal.returns
returns c = packed_ran c.args.v c.args.list.now c.args.numbering.now c.args.buffer.now c.args.order.now c.args.n _
    c.test_rooms.ensures.right (ap checked_of c.in_ok-test_rooms.was) _ _ _ _ c.pack_accepted.ensures
