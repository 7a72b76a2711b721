use mathlib.Core.Path.{◌∙◌}
use borrow.Author.Rules.{rules}
use Rattle.mesh_theory.proofs.Chains.Fans.{head_some, head_none, head_all}
use Rattle.mesh.proofs.all_used.Goals as goal

pub returns-then-chains-u-eq0 : goal.returns-then-chains-u-eq0
returns-then-chains-u-eq0 c = λ xs k.
    head_none xs _ k _ c.loop-u-test.true (search rules) c.if-chains-u-eq0.true ∙ c.loop-u.invariant.1 xs k

pub loop-u-preserved : goal.loop-u-preserved
loop-u-preserved c = (
  search rules,
  λ xs k.
      head_some xs _ k _ c.loop-u-test.true (search rules) c.if-chains-u-eq0.false ∙ c.loop-u.invariant.1 xs k,
)

pub returns : goal.returns
returns c = λ xs k. head_all xs _ k _ c.loop-u-test.false ∙ c.loop-u.invariant.1 xs k
