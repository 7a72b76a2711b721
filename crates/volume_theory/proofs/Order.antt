-- The volume depends neither on the order of the triangles nor on the corner that each begins at.
-- Assumes nothing.
use Prim.Native.Nat.{ℕ}
use mathlib.Core.List.{List, [], ◌∷◌}
use mathlib.Core.Logic.{◌↔◌}
use mathlib.Core.Path.{◌≡◌, refl, sym, ap, ◌∙◌}
use lib.IntN.{ℤ, ◌+ℤ◌}
use Rattle.rules.specs.declared.Triangle.{Triangle}
use Rattle.rules.specs.Triangle.{tri, at_p, In, here, there}
use Rattle.mesh_theory.specs.Fans.Corner.{Once}
use Rattle.choice_theory.proofs.Turning.Links.{free_rot}
use Rattle.choice_theory.proofs.Turning.Ways.{others, others_sub, others_once}
use Rattle.choice_theory.proofs.Turning.Taking.{out, once_taken}
use Rattle.choice_theory.proofs.Runs.Machine.{nothing_in}
use Rattle.volume_theory.specs.Axes.{Axis, det, volume}
use Rattle.volume_theory.proofs.Determinant.{volume_others}

abbrev Same : List Triangle → List Triangle → Type 0
Same ts us = (x y z : ℕ) → In x y z ts ↔ In x y z us

-- two lists of the same triangles, without the first of the one
same_others : (t : Triangle) (ts us : List Triangle) (i : In t.p t.q t.r us) → Once (t ∷ ts) → Once us → Same (t ∷ ts) us
    → Same ts (others i)
same_others t ts us i o o' h x y z = (forth, back)
  where
    forth : In x y z ts → In x y z (others i)
    forth j = go (out i ((h x y z).0 (there j)))
      where
        go : In x y z (tri t.p t.q t.r ∷ others i) → In x y z (others i)
        go (here s) = absurd (free_rot ts o.0 s z j)
        go (there k) = k

    back : In x y z (others i) → In x y z ts
    back k = go ((h x y z).1 (others_sub i k))
      where
        go : In x y z (t ∷ ts) → In x y z ts
        go (here s) = absurd (free_rot (others i) (once_taken us i o').0 s z k)
        go (there j) = j

pub any_order : (X Y Z : Axis) (ts us : List Triangle) → Once ts → Once us → Same ts us → volume X Y Z ts ≡ volume X Y Z us
unfolding volume
any_order X Y Z [] [] o o' h = refl
any_order X Y Z [] (u ∷ us) o o' h = absurd (nothing_in ((h u.p u.q u.r).1 (here (at_p refl refl refl))))
any_order X Y Z (t ∷ ts) us o o' h =
    let i = (h t.p t.q t.r).0 (here (at_p refl refl refl)) in
    ap (λ (w : ℤ). det X Y Z t.p t.q t.r +ℤ w)
    (any_order X Y Z ts (others i) o.2 (others_once us i o') (same_others t ts us i o o' h))
    ∙ sym (volume_others X Y Z i)
