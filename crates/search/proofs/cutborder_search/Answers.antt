use Rattle.std.proofs.Common.{refl, ap, ℕ, [], ◌∷◌}
use Rattle.std.specs.Prelude.{Some}
use Rattle.rules.specs.Across.{across_of}
use Rattle.search.proofs.cutborder_search.Goals as goal

pub returns : goal.returns
returns c = record {
  answer = across_of (Some c.in-Some.x);
  right = c.in-Some.ensures.searched;
  number = refl;
  written = ap (λ (k : ℕ). c.in-Some.x.triangle ∷ (k ∷ (c.in-Some.x.vertex ∷ []))) c.from.ensures;
}
