-- Laws of what a caller's numbers mean, where they mean nothing.
-- Assumes nothing.
use Rattle.std.proofs.Common.{ℕ, ◌≤◌, ◌≡◌}
use borrow.Author.Tests.{le-ltb, le-leb, ne_eqb}
use Rattle.rules.specs.declared.Counts.{Counts}
use Rattle.capi.specs.Given.{within16, none, split_of, union_of, plain_of, operation_of}

pub within_large : (n : ℕ) → 65536 ≤ n → 65535 ≡ within16 n
unfolding within16
within_large n h = rw (within16, le-ltb n 65536 h)

abbrev pub counts : ℕ → ℕ → ℕ → ℕ → Counts
counts a b c d = record { vertices = a; triangles = b; places = c; loops = d }

pub split_large : (i : ℕ) → 65536 ≤ i → none ≡ split_of i
unfolding split_of
split_large i h = rw (split_of, le-ltb i 65536 h)

pub union_large : (p j : ℕ) → 65536 ≤ p → none ≡ union_of p j
unfolding union_of
union_large p j h = rw (union_of, le-leb 65536 p h)

pub plain_large : (c : ℕ) → 8 ≤ c → none ≡ plain_of c
unfolding plain_of
plain_large c h = rw (plain_of, le-ltb c 8 h)

pub code_plain : (c p j : ℕ) → (c ≡ 4 → ⊥) → (c ≡ 6 → ⊥) → plain_of c ≡ operation_of c p j
unfolding operation_of
code_plain c p j h k = rw (operation_of, ne_eqb c 4 h, ne_eqb c 6 k)
