-- The triangle that the packer drops from those left is the one across the current edge.
-- Assumes nothing.
use Prim.Native.Nat.{ℕ}
use mathlib.Core.List.{List, ◌∷◌}
use mathlib.Core.Path.{◌≡◌, refl, ap}
use Rattle.rules.specs.declared.Triangle.{Triangle}
use Rattle.rules.specs.Across.{Across}
use Rattle.rules.specs.Across.{Found, Nothing}
use Rattle.rules.specs.Across.{in_triangle}
use Rattle.rules.specs.Choice.{drop_triangle}
use Rattle.rules.specs.Triangle.{Rot, In, here, there}
use Rattle.mesh_theory.specs.Fans.Corner.{Once}
use Rattle.choice_theory.proofs.Turning.Links.{free_rot}
use Rattle.choice_theory.proofs.Turning.Ways.{Told, told, others}

told_not : (x y z : ℕ) (t : Triangle) → Told x y t Nothing → Rot t x y z → ⊥
unfolding Told
told_not x y z t h r = h z r

told_is : (x y n k z : ℕ) (t : Triangle) → Told x y t (Found n k z) → Rot t x y z
unfolding Told
told_is x y n k z t h = h

-- the triangle of a membership is the one dropped
pub drop_others : (x y z : ℕ) (ts : List Triangle) (i : In x y z ts) → Once ts → drop_triangle x y ts ≡ others i
unfolding drop_triangle others
drop_others x y z (t ∷ ts) (here r) o = go (in_triangle x y t) (told x y t)
  where
    go : (m : Across) → Told x y t m → ◌≡◌ {A = List Triangle} (elim m [ Found n k w ↦ ts | Nothing ↦ t ∷ drop_triangle x y ts ]) ts
    go (Found n k w) h = refl
    go Nothing h = absurd (told_not x y z t h r)
drop_others x y z (t ∷ ts) (there i) o = go (in_triangle x y t) (told x y t) (drop_others x y z ts i o.2)
  where
    go : (m : Across) → Told x y t m → drop_triangle x y ts ≡ others i
        → ◌≡◌ {A = List Triangle} (elim m [ Found n k w ↦ ts | Nothing ↦ t ∷ drop_triangle x y ts ]) (t ∷ others i)
    go (Found n k w) h g = absurd (free_rot ts o.0 (told_is x y n k w t h) z i)
    go Nothing h g = ap (λ (l : List Triangle). t ∷ l) g
drop_others x y z mathlib.Core.List.[] i o = elim i [ ]
