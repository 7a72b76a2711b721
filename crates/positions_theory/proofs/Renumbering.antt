-- The places of positions under a numbering of their vertices.
-- Assumes nothing.
use Prim.Native.Nat.{ℕ, zero, suc, ◌+◌, ◌*◌, ◌/◌, ◌%◌, ◌≤◌, ◌<◌}
use native.Mathlib.Omega.{arith}
use mathlib.Core.List.{List}
use mathlib.Core.Path.{◌≡◌, refl, sym, ap, ◌∙◌}
use lib.IntN.{ℤ, pos}
use lib.ListN.{length, get_or}
use Rattle.rules.specs.declared.Point.{Point}
use Rattle.rules.specs.Volume.{point_at}
use Rattle.roundtrip.specs.Claims.{OneToOne}
use Rattle.positions_theory.specs.Filling.{place_of, Renumbered, FieldRoom}

-- a point's three positions, by number
abbrev part : Point → ℕ → ℤ
part p zero = p.x
part p (suc zero) = p.y
part p (suc (suc i)) = p.z

at_part : (zs : List ℤ) (x i : ℕ) → i < 3 → get_or zs (3 * x + i) (pos 0) ≡ part (point_at zs x) i
at_part zs x zero l = let e : 3 * x + 0 ≡ 3 * x = omega arith in ap (λ (k : ℕ). get_or zs k (pos 0)) e
at_part zs x (suc zero) l = refl
at_part zs x (suc (suc zero)) l = refl
at_part zs x (suc (suc (suc i))) l = absurd (omega arith)

module _ (v : ℕ) (zs : List ℤ) (ns : List ℕ) (long : length zs ≡ 3 * v) (one : OneToOne v (λ x. get_or ns x 0)) where
  below : (y : ℕ) → y < length zs → place_of ns y < length zs
  below y l = omega (arith, long, one.below (y / 3) (omega arith))

  tells : (y z : ℕ) → y < length zs → z < length zs → place_of ns y ≡ place_of ns z → y ≡ z
  tells y z k l e =
      let q = one.tells (y / 3) (z / 3) (omega arith) (omega arith) (omega arith) in
      omega (arith, q)

  onto : (m : ℕ) → m < length zs → (y : ℕ) × (y < length zs) × (place_of ns y ≡ m)
  onto m l =
      let x = one.onto (m / 3) (omega arith) in
      let a : (3 * x.0 + m % 3) / 3 ≡ x.0 = omega arith in
      let b : (3 * x.0 + m % 3) % 3 ≡ m % 3 = omega arith in
      let c : 3 * (m / 3) + m % 3 ≡ m = omega arith in (
        3 * x.0 + m % 3,
        omega (arith, x.1),
        ap (λ (k : ℕ). 3 * get_or ns k 0 + (3 * x.0 + m % 3) % 3) a
            ∙ ap (λ (k : ℕ). 3 * get_or ns x.0 0 + k) b ∙ ap (λ (k : ℕ). 3 * k + m % 3) x.2 ∙ c,
      )

  places : OneToOne (length zs) (place_of ns)
  places = record { below = below; tells = tells; onto = onto }

  pub field_room : (bs : List ℕ) (n : ℕ) → v ≤ length ns → v ≤ 4096 → n + (3 + 6 * v) ≤ length bs → FieldRoom bs n zs ns
  field_room bs n k few room = record {
    few = omega (arith, long);
    words = record { room = omega (arith, long); enough = omega (arith, long); places = places };
  }

  -- positions ps that have each point under its new number
  module _ (ps : List ℤ) (size : length ps ≡ 3 * v) (points : (x : ℕ) → x < v → point_at ps (get_or ns x 0) ≡ point_at zs x) where
    pub renumbered : Renumbered zs ns ps
    renumbered = record { same = size ∙ sym long; moved = moved }
      where
        moved : (y : ℕ) → y < length zs → get_or ps (place_of ns y) (pos 0) ≡ get_or zs y (pos 0)
        moved y l =
            let e : 3 * (y / 3) + y % 3 ≡ y = omega arith in
            at_part ps (get_or ns (y / 3) 0) (y % 3) (omega arith)
            ∙ ap (λ (p : Point). part p (y % 3)) (points (y / 3) (omega (arith, long)))
            ∙ sym (at_part zs (y / 3) (y % 3) (omega arith)) ∙ ap (λ (k : ℕ). get_or zs k (pos 0)) e
