use mathlib.Core.Path.{sym, ap, ◌∙◌}
use Rattle.std.proofs.lemmas.Result.{err_from_is_err_and}
use Rattle.rules.specs.Checked.{checked_of}
use Rattle.mesh_theory.proofs.Chains.Checking.{answers_no}
use Rattle.pack_theory.proofs.Packing.Rooms.{rooms_list}
use Rattle.packer.proofs.test_rooms.Goals as goal

pub returns-in_err-check_into : goal.returns-in_err-check_into
returns-in_err-check_into c =
    let p = err_from_is_err_and c.from_residual.result c.from_residual.ensures.1 in
    let q = ap checked_of c.in_err-check_into.was in
    rw (p.1, p.2)
    (answers_no _ _ _ _
    (sym q ∙ rooms_list c.args.v c.args.list.now c.args.numbering c.args.order c.args.n _ c.check_into.ensures.right _ q))
