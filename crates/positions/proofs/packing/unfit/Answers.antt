use mathlib.Core.Path.{refl, ap}
use Rattle.std.proofs.lemmas.Result.{err_from_is_err_and}
use Rattle.rules.specs.Checked.{checked_of}
use Rattle.mesh_theory.proofs.Chains.Linking.{zeros_none}
use Rattle.positions_theory.proofs.Packing.{unfit_earlier, unfit_last}
use Rattle.positions.proofs.packing.unfit.Goals as goal

pub test_rooms-requires : goal.test_rooms-requires
test_rooms-requires c = zeros_none _ _ refl

pub returns-in_err-test_rooms : goal.returns-in_err-test_rooms
returns-in_err-test_rooms c =
    let p = err_from_is_err_and c.from_residual.result c.from_residual.ensures.1 in
    rw (p.1, p.2)
    (unfit_earlier c.args.v c.args.list.now c.args.numbering c.args.order c.args.n _ c.test_rooms.ensures.right _
    (ap checked_of c.in_err-test_rooms.was) c.args.k)

pub returns-in-23 : goal.returns-in-23
returns-in-23 c =
    rw c.in-23.is (unfit_last c.args.v c.args.list.now c.args.numbering c.args.order c.args.n _ c.test_rooms.ensures.right
    (ap checked_of c.in_ok-test_rooms.was) 23)

pub returns-in-25 : goal.returns-in-25
returns-in-25 c =
    rw c.in-25.is (unfit_last c.args.v c.args.list.now c.args.numbering c.args.order c.args.n _ c.test_rooms.ensures.right
    (ap checked_of c.in_ok-test_rooms.was) 25)
