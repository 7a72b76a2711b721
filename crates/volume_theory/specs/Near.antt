-- Points whose positions have 16 bits.
-- Assumes nothing.
use Rattle.std.specs.Prelude.{ℕ, ◌+◌, ◌*◌, ◌≤◌, ◌<◌, List, ℤ, nat_abs, length, get_or}
use Rattle.rules.specs.declared.Point.{Point}
use Rattle.rules.specs.declared.Triangle.{Triangle}
use Rattle.rules.specs.Limits.{max_triangles}
use Rattle.rules.specs.Volume.{point_at, determinant}

-- the most that a number of 16 bits amounts to
abbrev pub farthest : ℕ
farthest = 32768

pub record Near (p : Point) : Type 0 where
  pub x : nat_abs p.x ≤ farthest
  pub y : nat_abs p.y ≤ farthest
  pub z : nat_abs p.z ≤ farthest

-- the most that a determinant of such points amounts to
abbrev pub largest : ℕ
largest = 211106232532992

-- numbers that amount to less fit 64 bits
abbrev pub limit64 : ℕ
limit64 = 4000000000000000000

-- the field bs has the positions of the corners of triangle t of xs
pub record HasPositions (xs : List ℕ) (t : ℕ) (bs : List ℕ) : Type 0 where
  pub long : 3 * t + 3 ≤ length xs
  pub p : 6 * get_or xs (3 * t) 0 + 5 < length bs
  pub q : 6 * get_or xs (3 * t + 1) 0 + 5 < length bs
  pub r : 6 * get_or xs (3 * t + 2) 0 + 5 < length bs

-- the field bs has the positions of the corners of t
pub record HasCorners (t : Triangle) (bs : List ℕ) : Type 0 where
  pub p : 6 * t.p + 5 < length bs
  pub q : 6 * t.q + 5 < length bs
  pub r : 6 * t.r + 5 < length bs

-- the determinant of a triangle by the positions zs
abbrev pub determinant_of : List ℤ → Triangle → ℤ
determinant_of zs t = determinant (point_at zs t.p) (point_at zs t.q) (point_at zs t.r)

-- triangle t of xs
abbrev pub corners_at : List ℕ → ℕ → Triangle
corners_at xs t = record { p = get_or xs (3 * t) 0; q = get_or xs (3 * t + 1) 0; r = get_or xs (3 * t + 2) 0 }

-- n triangles of xs, few enough, of whose corners the field bs has the positions
pub record Measurable (xs : List ℕ) (n : ℕ) (bs : List ℕ) : Type 0 where
  pub few : n ≤ max_triangles
  pub each : (t : ℕ) → t < n → HasPositions xs t bs
