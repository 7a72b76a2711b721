-- A list of operations that the machine accepts, and one that is read from bits.
-- Assumes nothing.
use Rattle.std.specs.Prelude.{ℕ, List, [], ◌∷◌, ◌≡◌}
use Rattle.rules.specs.declared.Triangle.{Triangle}
use Rattle.rules.specs.declared.Operation.{Operation}
use Rattle.rules.specs.Triangle.{Edge}
use Rattle.rules.specs.Code.{read, read_operation}
use Rattle.rules.specs.Machine.{Machine, built, declared, operation}

-- from one machine to another
pub data Works : Machine → List Operation → Machine → Type 0 where
  w_none : {m : Machine} → Works m [] m
  w_built : {m m' n : Machine} {o : Operation} {os : List Operation} {t : Triangle} → operation m o ≡ built t m' → Works m' os n
      → Works m (o ∷ os) n
  w_declared : {m m' n : Machine} {o : Operation} {os : List Operation} {d : Edge} → operation m o ≡ declared d m' → Works m' os n
      → Works m (o ∷ os) n

-- the operations at the front of some bits, and the bits after them
pub data Reads : List ℕ → List Operation → List ℕ → Type 0 where
  none_read : {xs : List ℕ} → Reads xs [] xs
  one_read : {xs ys zs : List ℕ} {o : Operation} {os : List Operation} → read_operation xs ≡ read o ys → Reads ys os zs
      → Reads xs (o ∷ os) zs
