-- What a beginning comes to: the state of the model that is begun, or the empty builder and a refusal's number; and what a result of the
-- code stands for.
-- Assumes nothing.
use Rattle.rules.specs.declared.Builder.{Builder}
use Rattle.rules.specs.Checked.{Checked}

pub record Begun : Type 0 where
  pub state : Builder
  pub answer : Checked
