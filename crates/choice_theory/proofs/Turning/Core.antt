-- The choice of the place: turning from the new triangle reaches the place's own open edge and no other.
-- Assumes nothing.
use Prim.Native.Nat.{ℕ}
use mathlib.Core.List.{List}
use mathlib.Core.Path.{◌≡◌, sym, subst}
use mathlib.Core.Logic.{◌⊎◌, inl, inr}
use Rattle.rules.specs.declared.Triangle.{Triangle}
use Rattle.mesh_theory.specs.Fans.Corner.{Once}
use Rattle.rules.specs.Fan.{Neighbours}
use Rattle.rules.specs.Right.{Links}
use Rattle.rules.specs.Triangle.{In}
use Rattle.choice_theory.specs.Spots.{Unused}
use Rattle.choice_theory.proofs.Turning.Turn.{Turn}
use Rattle.mesh_theory.proofs.Fans.Corners.{in_next}
use Rattle.choice_theory.proofs.Turning.Links.{in_last, Last, last_link, links_meet, Jumped, turn_cases, one_end}

-- turning back from b ends at w, where the border is
pub record Blocked (M : List Triangle) (c : ℕ) (R : List Triangle) (b : ℕ) : Type 0 where
  pub at : ℕ
  pub way : Links c R at b
  pub edge : Unused at c M

-- R are triangles of M yet to be built, b a c is one of M and not of R
module _ (M R : List Triangle) (a b c : ℕ) (sub : (x y z : ℕ) → In x y z R → In x y z M) (tri : In b a c M) (free_a : Unused a c R)
    (once : Once M) (fan : Neighbours M c) where
  -- the end of a path from a vertex whose edge into c is used
  used_end : (x z u : ℕ) → In x c z M → Links c R x u → (m : ℕ) × In c m u M
  used_end x z u i l = go (last_link l)
    where
      go : (x ≡ u) ⊎ Last c R x u → (m : ℕ) × In c m u M
      go (inl e) = (z, subst (λ (w : ℕ). In c z w M) e (in_next i))
      go (inr r) = (r.mid, sub _ _ _ r.final)

  -- paths from x and from a never meet
  apart : (x u : ℕ) → Once R → Unused x c R → (x ≡ a → ⊥) → Links c R x u → Links c R a u → ⊥
  apart x u o fx ne l m = go (links_meet R o l m)
    where
      left : (x ≡ a) ⊎ Last c R x a → ⊥
      left (inl e) = ne e
      left (inr r) = free_a r.mid (in_last r.final)

      right : (a ≡ x) ⊎ Last c R a x → ⊥
      right (inl e) = ne (sym e)
      right (inr r) = fx r.mid (in_last r.final)

      go : Links c R x a ⊎ Links c R a x → ⊥
      go (inl k) = left (last_link k)
      go (inr k) = right (last_link k)

  -- one of the two heirs of the place between x and y has only links: back from b to x, or on from a to y
  pub one_way : (x z y : ℕ) → Once R → In x c z M → Unused x c R → (x ≡ a → ⊥) → Turn M c R x b → Turn M c R a y
      → Links c R x b ⊎ (Blocked M c R b × Links c R a y)
  one_way x z y o i fx ne p q = go (turn_cases p) (turn_cases q)
    where
      never : Jumped M c R x b → Jumped M c R a y → ⊥
      never j k =
          let u = used_end x z j.from i j.before in
          let w = used_end a b k.from (in_next tri) k.before in
          let e = one_end M c u.0 j.from w.0 k.from fan u.1 j.out w.1 k.out in
          apart x j.from o fx ne j.before (subst (λ (v : ℕ). Links c R a v) (sym e) k.before)

      go : Links c R x b ⊎ Jumped M c R x b → Links c R a y ⊎ Jumped M c R a y → Links c R x b ⊎ (Blocked M c R b × Links c R a y)
      go (inl l) k = inl l
      go (inr j) (inl m) = inr (record { at = j.to; way = j.after; edge = j.back }, m)
      go (inr j) (inr k) = absurd (never j k)
