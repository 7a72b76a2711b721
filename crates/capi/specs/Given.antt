-- What the numbers of a caller in C or Rust mean: counts, and operations by their codes and indices. What they cannot mean has a
-- meaning that the rules refuse.
-- Assumes nothing.
use Rattle.std.specs.Prelude.{ℕ, true, false, eqb, ltb, leb}
use Rattle.rules.specs.declared.Counts.{Counts}
use Rattle.rules.specs.declared.Operation.{Operation}
use Rattle.rules.specs.declared.Operation.TheVariants.{Split, Union}
use Rattle.rules.specs.Code.{kinds, kind_in}

-- a number of 16 bits; a larger one is 65,535
unfoldable pub within16 : ℕ → ℕ
within16 n = elim (ltb n 65536) [ true ↦ n | false ↦ 65535 ]

-- the counts that a beginning states: one above 65,535 is out of 13's range as 65,535 is
abbrev pub counts_of : ℕ → ℕ → ℕ → ℕ → Counts
counts_of v t p l = record { vertices = within16 v; triangles = within16 t; places = within16 p; loops = within16 l }

-- what is no operation: a split to place 0, which the table never allows
abbrev pub none : Operation
none = Split 0

unfoldable pub split_of : ℕ → Operation
split_of i = elim (ltb i 65536) [ true ↦ Split i | false ↦ none ]

unfoldable pub union_of : ℕ → ℕ → Operation
union_of p j = elim (leb 65536 p) [ true ↦ none | false ↦ elim (leb 65536 j) [ true ↦ none | false ↦ Union p j ] ]

-- the operation of a code that has no index
unfoldable pub plain_of : ℕ → Operation
plain_of c = elim (ltb c 8) [ true ↦ kind_in c kinds | false ↦ none ]

-- the operation of a code, p and j its indices; a split (4) has j alone, a union (6) both, and for another code they are not read
unfoldable pub operation_of : ℕ → ℕ → ℕ → Operation
operation_of c p j = elim (eqb c 4) [ true ↦ split_of j | false ↦ elim (eqb c 6) [ true ↦ union_of p j | false ↦ plain_of c ] ]
