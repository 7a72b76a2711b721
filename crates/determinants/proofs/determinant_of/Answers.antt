use Rattle.volume_theory.proofs.Measuring.{determinant_told}
use Rattle.determinants.proofs.determinant_of.Goals as goal

pub returns : goal.returns
returns c = determinant_told c.args.p c.args.q c.args.r c.minor-a.result c.minor-b.result c.minor-c.result c.weighed.result
    c.requires.1 c.requires.2 (record { sfits = c.minor-a.type_inv }, c.minor-a.ensures.0)
    (record { sfits = c.minor-b.type_inv }, c.minor-b.ensures.0)
    (record { sfits = c.minor-c.type_inv }, c.minor-c.ensures.0) (record { sfits = c.weighed.type_inv }) c.weighed.ensures
