use Rattle.std.proofs.Common.{sym, ◌∙◌, subst}
use mathlib.Core.Path.{ap₂}
use Rattle.std.specs.Prelude.{Some, None}
use Rattle.pack_theory.specs.Choosing.Seeking.{seat_in}
use Rattle.pack_theory.proofs.Choosing.Operation.{seek_asks}
use Rattle.chooser.specs.Ways.{Ends}
use Rattle.chooser.proofs.Turning.{way_asks, way_found, way_none}
use Rattle.chooser.proofs.Choice.seat.Goals as goal

pub turn-requires : goal.turn-requires
turn-requires c = let k = way_asks c.requires c.args.way in (k.0, λ q. k.1 (sym c.first.ensures ∙ q))

pub returns-in_err-last : goal.returns-in_err-last
returns-in_err-last c = rw c.from_residual.ensures
    (way_none c.requires c.args.way
    (subst (λ z. Ends c.args.way c.args.self.now.list.now c.args.self.now.built.now c.args.self.now.c z None) c.first.ensures
    c.in_err-last.ensures))

pub seat_of-requires : goal.seat_of-requires
seat_of-requires c = seek_asks _ _ _ _ _ _ _ _ c.requires

pub returns : goal.returns
returns c = way_found c.requires c.args.way c.in_ok-last.last _
    (subst (λ z. Ends c.args.way c.args.self.now.list.now c.args.self.now.built.now c.args.self.now.c z (Some c.in_ok-last.last))
    c.first.ensures c.in_ok-last.ensures)
    (c.seat_of.ensures ∙ ap₂ (seat_in c.args.self.now.l c.args.self.now.m.now) c.edge-x.ensures.0 c.edge-x.ensures.1)
