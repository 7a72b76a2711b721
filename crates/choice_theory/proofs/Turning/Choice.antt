-- The packer's choice is the place whose heirs the new triangle makes.
-- Assumes nothing.
use Prim.Native.Nat.{ℕ}
use mathlib.Core.List.{List}
use mathlib.Core.Path.{◌≡◌, refl, sym, ap, ◌∙◌, subst}
use mathlib.Core.Logic.{◌⊎◌, inl, inr}
use lib.ListN.{length}
use Rattle.rules.specs.declared.Triangle.{Triangle}
use Rattle.rules.specs.Ring.{Ring}
use Rattle.rules.specs.Choice.{nowhere, spot, spot_of, operation_for, size_of, following, choose_place, turn_in, turn_out, after_current}
use Rattle.mesh_theory.specs.Fans.Corner.{Once}
use Rattle.rules.specs.Fan.{Neighbours}
use Rattle.rules.specs.Right.{Links, OpenAt}
use Rattle.rules.specs.Triangle.{In}
use Rattle.choice_theory.specs.Spots.{Unused, Unique}
use Rattle.choice_theory.proofs.Turning.Turn.{Turn}
use Rattle.choice_theory.proofs.Places.Spots.{Site}
use Rattle.mesh_theory.proofs.Fans.Corners.{in_next}
use Rattle.choice_theory.proofs.Turning.Links.{in_last, Last, last_link, first_link}
use Rattle.choice_theory.proofs.Turning.Core.{Blocked, one_way}
use Rattle.choice_theory.proofs.Turning.Ways.{turn_in_lem, turn_out_lem}
use Rattle.choice_theory.proofs.Turning.Spotting.{spot_none, spot_some}

module _ (M R : List Triangle) (a b c : ℕ) (sub : (x y z : ℕ) → In x y z R → In x y z M) (tri : In b a c M) (free_a : Unused a c R)
    (once_m : Once M) (once : Once R) (fan : Neighbours M c) (ls : List Ring) (unique : Unique ls)
    (used : (x y l i : ℕ) → OpenAt ls l i x y → (z : ℕ) × In x y z M) where
  choice_out : (l i : ℕ) → spot_of 0 (turn_in (length R) c b R) c ls ≡ spot l i
      → choose_place a b c R ls ≡ operation_for (after_current ls) l (following (size_of ls l) i)
  unfolding choose_place
  choice_out l i h = rw (choose_place, h) refl

  choice_back : (l i : ℕ) → spot_of 0 (turn_in (length R) c b R) c ls ≡ nowhere → spot_of 0 c (turn_out (length R) c a R) ls ≡ spot l i
      → choose_place a b c R ls ≡ operation_for (after_current ls) l i
  unfolding choose_place
  choice_back l i h k = rw (choose_place, h, k) refl

  -- x→c is open where its other side is in M
  pub open_enter : (l i x y : ℕ) (s : Site M ls l i c x y) → Links c R x b → OpenAt ls l s.from x c
  open_enter l i x y s w = go s.enter (first_link w)
    where
      go : Unused c x M ⊎ OpenAt ls l s.from x c → (x ≡ b) ⊎ ((z : ℕ) × In c x z R × Links c R z b) → OpenAt ls l s.from x c
      go (inr o) v = o
      go (inl f) (inl e) = absurd (f a (subst (λ (v : ℕ). In c v a M) (sym e) (in_last tri)))
      go (inl f) (inr v) = absurd (f v.0 (sub c x v.0 v.1))

  pub open_leave : (l i x y : ℕ) (s : Site M ls l i c x y) → Links c R a y → OpenAt ls l i c y
  open_leave l i x y s w = go s.leave (last_link w)
    where
      go : Unused y c M ⊎ OpenAt ls l i c y → (a ≡ y) ⊎ Last c R a y → OpenAt ls l i c y
      go (inr o) v = o
      go (inl f) (inl e) = absurd (f b (subst (λ (v : ℕ). In v c b M) e (in_next tri)))
      go (inl f) (inr v) = absurd (f v.mid (sub y c v.mid (in_last v.final)))

  -- the place between x and y, whose heirs lead from x to b and from a to y, is the packer's choice
  pub chosen : (l i x z y : ℕ) → Site M ls l i c x y → In x c z M → Unused x c R → (x ≡ a → ⊥) → Unused c y R
      → Turn M c R x b → Turn M c R a y → choose_place a b c R ls ≡ operation_for (after_current ls) l i
  chosen l i x z y s ix fx ne fy p q = go (one_way M R a b c sub tri free_a once_m fan x z y once ix fx ne p q)
    where
      go : Links c R x b ⊎ (Blocked M c R b × Links c R a y) → choose_place a b c R ls ≡ operation_for (after_current ls) l i
      go (inl w) =
          choice_out l s.from (rw (turn_in_lem R once fx w) (spot_some x c l s.from ls unique (open_enter l i x y s w)))
          ∙ ap (operation_for (after_current ls) l) s.next
      go (inr (k, w)) =
          choice_back l i
          (rw (turn_in_lem R once (λ v j. k.edge v (sub _ _ _ j)) k.way)
          (spot_none k.at c ls (λ m j o. k.edge (used k.at c m j o).0 (used k.at c m j o).1)))
          (rw (turn_out_lem R once free_a fy w) (spot_some c y l i ls unique (open_leave l i x y s w)))
