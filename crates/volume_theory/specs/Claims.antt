-- What is claimed of six times the volume, each proved under the same name in snake case.
-- Assumes nothing.
use Rattle.std.specs.Prelude.{ℕ, ◌+◌, ◌*◌, ◌≤◌, ◌<◌, true, List, ◌↔◌, ◌≡◌, ℤ, pos, neg_ℤ, nat_abs, ◌-ℤ◌, length, take, get_or, set}
use Rattle.rules.specs.declared.Triangle.{Triangle}
use Rattle.rules.specs.Triangle.{triangles_of, In}
use Rattle.rules.specs.Check.{all_distinct}
use Rattle.rules.specs.Fan.{about}
use Rattle.rules.specs.Answer.{packed}
use Rattle.rules.specs.Buffer.{Buffers}
use Rattle.rules.specs.Pack.{PackBuffers, pack}
use Rattle.rules.specs.Unpack.{unpack}
use Rattle.rules.specs.Grid.{all_in_grid}
use Rattle.rules.specs.Volume.{point_at, six_volumes}
use Rattle.mesh_theory.specs.Fans.Corner.{Once}
use Rattle.roundtrip.specs.Claims.{written, new_number, LongEnoughFor}

-- the same triangles, in any order and each from any of its corners on, have the same volume
abbrev pub SameTrianglesSameVolume : Type 0
SameTrianglesSameVolume = (zs : List ℤ) (ts us : List Triangle) → Once ts → Once us → ((x y z : ℕ) → In x y z ts ↔ In x y z us)
    → six_volumes zs ts ≡ six_volumes zs us

-- "A model turned inside out .. gives the same amount with the other sign"
abbrev pub InsideOutOtherSign : Type 0
InsideOutOtherSign = (zs : List ℤ) (ts us : List Triangle) → Once ts → Once us → ((x y z : ℕ) → In x y z ts ↔ In y x z us)
    → six_volumes zs us ≡ neg_ℤ (six_volumes zs ts)

-- "Moving one of a vertex's three positions by d steps, within the range, moves the result by at most 8,388,608 times d times that
-- vertex's triangles": position k of vertex v is now z
abbrev pub MovedByAtMost : Type 0
MovedByAtMost = (zs : List ℤ) (ts : List Triangle) → all_in_grid zs ≡ true → all_distinct ts ≡ true
    → (v k : ℕ) (z : ℤ) → k < 3
    → nat_abs (six_volumes (set zs (3 * v + k) z) ts -ℤ six_volumes zs ts)
    ≤ 8388608 * (nat_abs (z -ℤ get_or zs (3 * v + k) (pos 0)) * length (about v ts))

-- six times 2,048 * 2,048 * 2,048 for each triangle, so that the sum over 8,192 of them, and over any part of them, is below 2^49
abbrev pub VolumeIsAtMost : Type 0
VolumeIsAtMost = (zs : List ℤ) (ts : List Triangle) → all_in_grid zs ≡ true → nat_abs (six_volumes zs ts) ≤ 51539607552 * length ts

-- The volume of a list is that of the triangles that its pack unpacks to, where each vertex keeps its point under its new number
abbrev pub PackingKeepsTheVolume : Type 0
PackingKeepsTheVolume = (v : ℕ) (xs : List ℕ) (r : PackBuffers) (n : ℕ) → (pack v xs r).answer ≡ packed n
    → (r' : Buffers) → LongEnoughFor (length (triangles_of xs)) r'
    → (zs zs' : List ℤ) → ((x : ℕ) → x < v → point_at zs' (new_number (pack v xs r) x) ≡ point_at zs x)
    → six_volumes zs' (written (length (triangles_of xs)) (unpack (take n (pack v xs r).buffers.pack) r'))
    ≡ six_volumes zs (triangles_of xs)
