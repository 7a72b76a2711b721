-- Each memory has room for what the operations store.
-- Assumes nothing.
use Rattle.std.specs.Prelude.{ℕ, ◌+◌, ◌*◌, ◌/◌, ◌^◌, ◌≤◌, ◌<◌, min}
use Rattle.std.proofs.Common.{arith}
use Rattle.rules.specs.Limits.{max_places, max_vertices, furnace_places}

pub plain_fits : (n : ℕ)
    → (min max_places (n / 5) ≤ max_places) × (min max_places (n / 5) < 2 ^ 16) × (max_vertices + 2 < 2 ^ 16) × (1 < 2 ^ 16)
plain_fits n = omega arith

pub bytes_fit : (furnace_places ≤ max_places) × (furnace_places < 256) × (max_vertices + 2 < 32768) × (1 < 2)
bytes_fit = omega arith

-- The same of what is lent to the operations, where there is a record for each place too.
pub array_fits : (n : ℕ)
    → (min max_places (n / 5) ≤ n / 4) × (min max_places (n / 5) ≤ max_places) × (min max_places (n / 5) < 2 ^ 16)
    × (max_vertices + 2 < 2 ^ 16) × (1 < 2 ^ 16)
array_fits n = omega arith

pub reader_fits : (furnace_places ≤ furnace_places) × (furnace_places ≤ max_places) × (furnace_places < 256) × (max_vertices + 2 < 32768)
    × (1 < 2)
reader_fits = omega arith

pub slice_fits : (n k : ℕ) → (n ≤ max_places) × (4 * n ≤ k)
    → (n ≤ k / 4) × (n ≤ max_places) × (n < 2 ^ 16) × (max_vertices + 2 < 2 ^ 16) × (1 < 2 ^ 16)
slice_fits n k h = omega (arith, h)

pub fixed_fits : (n v s o : ℕ) → (n ≤ max_places) × (n < s) × (max_vertices + 2 < v) × (1 < o)
    → (n ≤ n) × (n ≤ max_places) × (n < s) × (max_vertices + 2 < v) × (1 < o)
fixed_fits n v s o h = omega (arith, h)
