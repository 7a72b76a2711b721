-- What the core promises of the memory that the list is read into, carried to the list.
use Rattle.std.proofs.lemmas.Result.{err_from_is_err_and}
use Rattle.border_theory.proofs.Records.Counting.{count_within}
use Rattle.state_theory.proofs.Performing.Lifting.{operates_lent, refused_lent, touches_fit}
use Rattle.service.proofs.Laws.{loaded_fits}
use Rattle.service.proofs.operation.Goals as goal

pub load-requires : goal.load-requires
load-requires c = rw c.count-n.ensures (count_within _)

pub operation_on-requires : goal.operation_on-requires
operation_on-requires c = rw (c.load.ensures, c.count-n.ensures, c.empty-m.ensures) (loaded_fits c.args.places.now)

pub returns-in_err-built : goal.returns-in_err-built
returns-in_err-built c =
    let p = err_from_is_err_and c.from_residual.result c.from_residual.ensures.1 in
    rw (p.1, p.2)
    (refused_lent _ _ _ _ _ _ _ _
    (rw (c.load.ensures, c.count-n.ensures, c.empty-m.ensures, c.in_err-built.was) at c.operation_on.ensures))

pub link_all-requires : goal.link_all-requires
link_all-requires c =
    (touches_fit _ _ _ _ _ _ _ (rw (c.load.ensures, c.count-n.ensures, c.empty-m.ensures) at c.operation_on.ensures)).0

pub free_all-requires : goal.free_all-requires
free_all-requires c =
    rw c.link_all.auto.s
    (touches_fit _ _ _ _ _ _ _ (rw (c.load.ensures, c.count-n.ensures, c.empty-m.ensures) at c.operation_on.ensures)).1

pub returns : goal.returns
returns c =
    operates_lent _ _ _ _ _ _ _ _
    (rw (c.load.ensures, c.count-n.ensures, c.empty-m.ensures, c.in_ok-built.was) at c.operation_on.ensures)
    (rw c.link_all.ensures at c.free_all.ensures)
