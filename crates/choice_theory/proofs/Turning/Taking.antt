-- The triangle at the current edge taken out of those left, wherever it stands.
-- Assumes nothing.
use Prim.Native.Nat.{ℕ}
use mathlib.Core.List.{List, ◌∷◌}
use mathlib.Core.Path.{◌≡◌, sym, ◌∙◌, subst}
use mathlib.Core.Logic.{◌⊎◌, inl, inr}
use Rattle.rules.specs.declared.Triangle.{Triangle}
use Rattle.rules.specs.Triangle.{tri, Rot, at_p, at_q, at_r, In, here, there}
use Rattle.rules.specs.Ring.{Ring}
use Rattle.mesh_theory.specs.Fans.Corner.{Once}
use Rattle.choice_theory.specs.Spots.{Unused}
use Rattle.mesh_theory.proofs.Fans.Corners.{in_next, rot_next}
use Rattle.choice_theory.proofs.Turning.Links.{in_last, free_rot, turn_map}
use Rattle.choice_theory.proofs.Places.Rings.{rings_map}
use Rattle.choice_theory.proofs.Turning.Ways.{others, others_sub, others_once, others_free}
use Rattle.choice_theory.proofs.Steps.Triangle.{Keeps}

-- none of its edges is used by the others
pub free_1 : {x y z : ℕ} (ts : List Triangle) (i : In x y z ts) → Once ts → Unused x y (others i)
unfolding others
free_1 (t ∷ ts) (here r) o w j = free_rot ts o.0 r w j
free_1 (t ∷ ts) (there i) o w (here r) = free_rot ts o.0 r _ i
free_1 (t ∷ ts) (there i) o w (there j) = free_1 ts i o.2 w j
free_1 {y = y} {z = z} mathlib.Core.List.[] i o w j = elim i [ ]

free_2 : {x y z : ℕ} (ts : List Triangle) (i : In x y z ts) → Once ts → Unused y z (others i)
unfolding others
free_2 (t ∷ ts) (here r) o w j = free_rot ts o.0 (rot_next r) w j
free_2 (t ∷ ts) (there i) o w (here r) = free_rot ts o.0 r _ (in_next i)
free_2 (t ∷ ts) (there i) o w (there j) = free_2 ts i o.2 w j
free_2 {y = y} {z = z} mathlib.Core.List.[] i o w j = elim i [ ]

pub corners : {x y z : ℕ} (ts : List Triangle) → In x y z ts → Once ts → ((x ≡ y) → ⊥) × ((y ≡ z) → ⊥) × ((z ≡ x) → ⊥)
corners (t ∷ ts) (here (at_p a b c)) o = (λ q. o.1.0 (a ∙ (q ∙ sym b)), λ q. o.1.1 (b ∙ (q ∙ sym c)), λ q. o.1.2 (c ∙ (q ∙ sym a)))
corners (t ∷ ts) (here (at_q a b c)) o = (λ q. o.1.1 (a ∙ (q ∙ sym b)), λ q. o.1.2 (b ∙ (q ∙ sym c)), λ q. o.1.0 (c ∙ (q ∙ sym a)))
corners (t ∷ ts) (here (at_r a b c)) o = (λ q. o.1.2 (a ∙ (q ∙ sym b)), λ q. o.1.0 (b ∙ (q ∙ sym c)), λ q. o.1.1 (c ∙ (q ∙ sym a)))
corners (t ∷ ts) (there i) o = corners ts i o.2
corners {y = y} {z = z} mathlib.Core.List.[] x3 o = elim x3 [ ]

-- the triangle put before the others
pub once_taken : {x y z : ℕ} (ts : List Triangle) (i : In x y z ts) → Once ts → Once (tri x y z ∷ others i)
once_taken ts i o = ((free_1 ts i o, free_2 ts i o, others_free ts i o), corners ts i o, others_once ts i o)

-- the same triangle seen from another corner
pub rot_same : {t : Triangle} {x y z u v w : ℕ} → Rot t x y z → Rot t u v w → Rot (tri x y z) u v w
rot_same (at_p a b c) (at_p a' b' c') = at_p (sym a ∙ a') (sym b ∙ b') (sym c ∙ c')
rot_same (at_p a b c) (at_q a' b' c') = at_q (sym b ∙ a') (sym c ∙ b') (sym a ∙ c')
rot_same (at_p a b c) (at_r a' b' c') = at_r (sym c ∙ a') (sym a ∙ b') (sym b ∙ c')
rot_same (at_q a b c) (at_p a' b' c') = at_r (sym c ∙ a') (sym a ∙ b') (sym b ∙ c')
rot_same (at_q a b c) (at_q a' b' c') = at_p (sym a ∙ a') (sym b ∙ b') (sym c ∙ c')
rot_same (at_q a b c) (at_r a' b' c') = at_q (sym b ∙ a') (sym c ∙ b') (sym a ∙ c')
rot_same (at_r a b c) (at_p a' b' c') = at_q (sym b ∙ a') (sym c ∙ b') (sym a ∙ c')
rot_same (at_r a b c) (at_q a' b' c') = at_r (sym c ∙ a') (sym a ∙ b') (sym b ∙ c')
rot_same (at_r a b c) (at_r a' b' c') = at_p (sym a ∙ a') (sym b ∙ b') (sym c ∙ c')

pub out : {x y z u v w : ℕ} {ts : List Triangle} (i : In x y z ts) → In u v w ts → In u v w (tri x y z ∷ others i)
unfolding others
out (here r) (here s) = here (rot_same r s)
out (here r) (there j) = there j
out (there i) (here s) = there (here s)
out {x} {y} {z} {u} {v} {w} (there {t = t} i) (there j) = go (out i j)
  where
    go : In u v w (tri x y z ∷ others i) → In u v w (tri x y z ∷ (t ∷ others i))
    go (here s) = here s
    go (there k) = there (there k)

back : {x y z u v w : ℕ} {ts : List Triangle} (i : In x y z ts) → In u v w (tri x y z ∷ others i) → In u v w ts
back {x} {y} {z} {u} {v} {w} {ts} i (here (at_p a b c)) =
    subst (λ (n : ℕ). In u v n ts) c (subst (λ (n : ℕ). In u n z ts) b (subst (λ (n : ℕ). In n y z ts) a i))
back {x} {y} {z} {u} {v} {w} {ts} i (here (at_q a b c)) =
    subst (λ (n : ℕ). In u v n ts) c (subst (λ (n : ℕ). In u n x ts) b (subst (λ (n : ℕ). In n z x ts) a (in_next i)))
back {x} {y} {z} {u} {v} {w} {ts} i (here (at_r a b c)) =
    subst (λ (n : ℕ). In u v n ts) c (subst (λ (n : ℕ). In u n y ts) b (subst (λ (n : ℕ). In n x y ts) a (in_last i)))
back i (there j) = others_sub i j

-- what packing keeps does not depend on where the triangle stands among those left
pub keeps_take : (M R B : List Triangle) (ls rims : List Ring) (x y z : ℕ) (i : In x y z R) → Keeps M R B ls rims
    → Keeps M (record { p = x; q = y; r = z } ∷ others i) B ls rims
keeps_take M R B ls rims x y z i k = record {
  once_m = k.once_m;
  once = once_taken R i k.once;
  sub_r = λ u v w j. k.sub_r u v w (back i j);
  sub_b = k.sub_b;
  apart = λ u v w n j l. k.apart u v w n (back i j) l;
  part = λ u v w j. parts u v w (k.part u v w j);
  marks = k.marks;
  gaps = rings_map (λ u v w h. turn_map {M = M} {c = v} {x = u} {y = w} (λ m n j. out i j) h) ls k.gaps;
  legal = k.legal;
  waits = λ u v w n j l. k.waits u v w n j (back i l);
}
  where
    parts : (u v w : ℕ) → In u v w R ⊎ In u v w B → In u v w (record { p = x; q = y; r = z } ∷ others i) ⊎ In u v w B
    parts u v w (inl j) = inl (out i j)
    parts u v w (inr j) = inr j
