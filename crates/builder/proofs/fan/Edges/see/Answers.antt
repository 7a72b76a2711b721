use Rattle.state_theory.proofs.Finishing.Turning.{adds_p, adds_q, adds_r, adds_none}
use Rattle.builder.proofs.fan.Edges.see.Goals as goal

pub returns-then-p-v : goal.returns-then-p-v
returns-then-p-v c =
    let e = c.add.ensures in adds_p _ _ _ _ _ _ c.if-p-v.true _ _ _ e.1.0 e.1.1 e.0

pub returns-then-q-v : goal.returns-then-q-v
returns-then-q-v c =
    let e = c.add-then-q-v.ensures in adds_q _ _ _ _ _ _ c.if-p-v.false c.if-q-v.true _ _ _ e.1.0 e.1.1 e.0

pub returns-then-r-v : goal.returns-then-r-v
returns-then-r-v c =
    let e = c.add-then-r-v.ensures in adds_r _ _ _ _ _ _ c.if-p-v.false c.if-q-v.false c.if-r-v.true _ _ _ e.1.0 e.1.1 e.0

pub returns-else-r-v : goal.returns-else-r-v
returns-else-r-v c = adds_none _ _ _ _ _ _ c.if-p-v.false c.if-q-v.false c.if-r-v.false
