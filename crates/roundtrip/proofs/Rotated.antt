-- Triangles by their place in a list with no directed edge twice, each from any of its corners on.
-- Assumes nothing.
use Prim.Native.Nat.{ℕ, zero, suc, ◌<◌}
use native.Mathlib.Omega.{arith}
use mathlib.Core.List.{List, [], ◌∷◌}
use mathlib.Core.Path.{◌≡◌, refl, sym, ap, subst}
use lib.ListN.{length}
use Rattle.rules.specs.declared.Triangle.{Triangle}
use Rattle.rules.specs.Triangle.{Rot, at_p, In, here, there}
use Rattle.mesh_theory.specs.Fans.Corner.{Once}
use Rattle.mesh_theory.proofs.Fans.Corners.{in_next}
use Rattle.choice_theory.proofs.Turning.Links.{free_rot}
use Rattle.choice_theory.proofs.Turning.Taking.{rot_same}
use Rattle.roundtrip.specs.Claims.{Rotated, nth, Rearranged, OneToOne}
use Rattle.roundtrip.proofs.Renumber.{Below}
use Rattle.roundtrip.proofs.Order.{HasNumber}

pub turned_back : {t u : Triangle} → Rotated t u → Rotated u t
turned_back r = rot_same r (at_p refl refl refl)

pub turned_rot : {t u : Triangle} {x y z : ℕ} → Rotated t u → Rot u x y z → Rot t x y z
turned_rot r s = rot_same (turned_back r) s

pub nth_in : {x y z : ℕ} (ts : List Triangle) (i : ℕ) → i < length ts → Rot (nth ts i) x y z → In x y z ts
nth_in [] i l r = absurd (omega arith)
nth_in (t ∷ ts) zero l r = here r
nth_in (t ∷ ts) (suc i) l r = there (nth_in ts i (omega arith) r)

in_nth : {x y z : ℕ} {ts : List Triangle} → In x y z ts → (i : ℕ) × (i < length ts) × Rot (nth ts i) x y z
in_nth (here r) = (0, omega arith, r)
in_nth (there i) = let k = in_nth i in (suc k.0, omega (arith, k.1), k.2)

pub nth_below : (v : ℕ) (ts : List Triangle) (i : ℕ) → i < length ts → ((x y z : ℕ) → In x y z ts → x < v) → Below v (nth ts i)
nth_below v ts i l h =
    let j = nth_in ts i l (at_p refl refl refl) in
    (h _ _ _ j, h _ _ _ (in_next j), h _ _ _ (in_next (in_next j)))

-- a directed edge stands at one place
pub one_place : {x y z w : ℕ} (ts : List Triangle) → Once ts → (i j : ℕ) → i < length ts → j < length ts → Rot (nth ts i) x y z
    → Rot (nth ts j) x y w → i ≡ j
one_place [] o i j k l a b = absurd (omega arith)
one_place (t ∷ ts) o zero zero k l a b = refl
one_place (t ∷ ts) o zero (suc j) k l a b = absurd (free_rot ts o.0 a _ (nth_in ts j (omega arith) b))
one_place (t ∷ ts) o (suc i) zero k l a b = absurd (free_rot ts o.0 b _ (nth_in ts i (omega arith) a))
one_place (t ∷ ts) o (suc i) (suc j) k l a b = ap suc (one_place ts o.2 i j (omega arith) (omega arith) a b)

-- the numbers of rearranged triangles are each there once
pub named_once : (ts us : List Triangle) (f : ℕ → ℕ) → Once ts → Rearranged ts us
    → ((i : ℕ) → i < length ts → HasNumber ts (f i) (nth us i)) → OneToOne (length ts) f
named_once ts us f o r named = record { below = λ i l. (named i l).below; tells = tell; onto = at }
  where
    tell : (i j : ℕ) → i < length ts → j < length ts → f i ≡ f j → i ≡ j
    tell i j k l e =
        one_place us r.once i j (omega (arith, r.count)) (omega (arith, r.count)) (turned_back (named i k).seen)
        (turned_back (subst (λ (n : ℕ). Rotated (nth ts n) (nth us j)) (sym e) (named j l).seen))

    at : (n : ℕ) → n < length ts → (i : ℕ) × (i < length ts) × (f i ≡ n)
    at n l =
        let t = nth ts n in
        let k = in_nth ((r.all t.p t.q t.r).0 (nth_in ts n l (at_p refl refl refl))) in
        let m : k.0 < length ts = omega (arith, k.1, r.count) in
        let h = named k.0 m in
        (k.0, m, one_place ts o (f k.0) n h.below l (turned_rot h.seen k.2) (at_p refl refl refl))
