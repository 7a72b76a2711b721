-- Laws of tests that are made one after the other, and of the numbers beside the loops' places.
-- Assumes nothing.
use Prim.Native.Nat.{ℕ, ◌*◌, ◌≤◌}
use native.Mathlib.Omega.{arith}
use mathlib.Core.Bool.{Bool, true, false, ◌&&◌}
use mathlib.Core.Path.{◌≡◌, ap}
use lib.Dec.{leb}
use borrow.Author.Tests.{leb-true}
use Rattle.rules.specs.declared.Builder.{Builder}
use Rattle.rules.specs.Limits.{in_range, max_places}
use Rattle.rules.specs.Machine.{long_enough}
use Rattle.rules.specs.Sound.{sizes_of, counts_fit, sums_fit}
use Rattle.counting.proofs.Bools.{and_left, and_right}
use Rattle.counting.proofs.Ranges.{in_range_lem, InRange}

-- the first test fails, or the second; the first passes; both do
pub no_and : (a b : Bool) → a ≡ false → a && b ≡ false
no_and a b h = ap (λ (t : Bool). t && b) h

pub yes_and : (a b : Bool) → a ≡ true → a && b ≡ b
yes_and a b h = ap (λ (t : Bool). t && b) h

pub few_loops : (b : Builder) → in_range b.stated ≡ true → b.live ≤ b.stated.loops → b.live ≤ 100
few_loops b h l = omega (arith, l, (in_range_lem b.stated h).loops)

-- the counts as 21 tests them
pub record CountsFit (b : Builder) : Type 0 where
  pub range : InRange b.stated
  pub used : b.used ≤ b.stated.vertices
  pub built : b.built ≤ b.stated.triangles
  pub live : b.live ≤ b.stated.loops
  pub sizes : sizes_of b b.live ≤ b.stated.places

pub counts_fit_lem : (b : Builder) → counts_fit b ≡ true → CountsFit b
counts_fit_lem b h =
    let t₁ = in_range b.stated in
    let t₂ = leb b.used b.stated.vertices in
    let t₃ = leb b.built b.stated.triangles in
    let t₄ = leb b.live b.stated.loops in
    let t₅ = leb (sizes_of b b.live) b.stated.places in
    let t₆ = leb b.peaks.loops b.stated.loops in
    let h₆ = and_left (t₁ && t₂ && t₃ && t₄ && t₅ && t₆) _ h in
    let h₅ = and_left (t₁ && t₂ && t₃ && t₄ && t₅) _ h₆ in
    let h₄ = and_left (t₁ && t₂ && t₃ && t₄) _ h₅ in
    let h₃ = and_left (t₁ && t₂ && t₃) _ h₄ in
    let h₂ = and_left (t₁ && t₂) _ h₃ in
    record {
      range = in_range_lem b.stated (and_left t₁ _ h₂);
      used = leb-true b.used b.stated.vertices (and_right t₁ _ h₂);
      built = leb-true b.built b.stated.triangles (and_right (t₁ && t₂) _ h₃);
      live = leb-true b.live b.stated.loops (and_right (t₁ && t₂ && t₃) _ h₄);
      sizes = leb-true (sizes_of b b.live) b.stated.places (and_right (t₁ && t₂ && t₃ && t₄) _ h₅);
    }

pub record SumsFit (b : Builder) : Type 0 where
  pub edges : b.edges ≤ 3 * b.stated.triangles
  pub starts : b.starts ≤ 3 * b.stated.triangles
  pub unions : b.unions ≤ 3 * b.stated.triangles
  pub rims : b.rims ≤ 3 * b.stated.triangles

pub sums_fit_lem : (b : Builder) → sums_fit b ≡ true → SumsFit b
sums_fit_lem b h =
    let t₁ = leb b.edges (3 * b.stated.triangles) in
    let t₂ = leb b.starts (3 * b.stated.triangles) in
    let t₃ = leb b.unions (3 * b.stated.triangles) in
    let h₃ = and_left (t₁ && t₂ && t₃) _ h in
    let h₂ = and_left (t₁ && t₂) _ h₃ in
    record {
      edges = leb-true b.edges (3 * b.stated.triangles) (and_left t₁ _ h₂);
      starts = leb-true b.starts (3 * b.stated.triangles) (and_right t₁ _ h₂);
      unions = leb-true b.unions (3 * b.stated.triangles) (and_right (t₁ && t₂) _ h₃);
      rims = leb-true b.rims (3 * b.stated.triangles) (and_right (t₁ && t₂ && t₃) _ h);
    }
