-- Where no directed edge is used twice, the triangle that has it is one: `across` finds it, and no other.
-- Assumes nothing.
use Prim.Native.Nat.{ℕ, zero, suc, ◌+◌, ◌*◌, ◌≤◌, ◌<◌}
use native.Mathlib.Nat.{le_trans}
use native.Mathlib.Omega.{arith}
use mathlib.Core.List.{List, [], ◌∷◌}
use mathlib.Core.Path.{◌≡◌, refl, sym, ap, ◌∙◌, subst}
use lib.ListN.{length, get_or}
use Rattle.rules.specs.declared.Triangle.{Triangle}
use Rattle.rules.specs.Across.{Across}
use Rattle.rules.specs.Across.{Found, Nothing}
use Rattle.rules.specs.Count.{hit, uses}
use Rattle.rules.specs.Across.{across}
use Rattle.rules.specs.Triangle.{Rot, at_p, at_q, at_r, In, here, there}
use Rattle.mesh_theory.specs.Fans.Corner.{third}
use Rattle.mesh_theory.specs.Fans.Finding.{SameFound}
use Rattle.mesh_theory.proofs.Fans.Corners.{sides, sides_of, rot_sum, rot_third, uses_rot, uses_cons, sides_yes, in_uses}
use Rattle.mesh_theory.proofs.Fans.Finding.{across_found, across_nothing, found_in_lem, found_below, found_place, place_sides}
use Rattle.counting.proofs.Counts.{hit_yes}

-- two corners of a triangle tell which the third is
pub hit_eq : (x y p q : ℕ) → p ≡ x → q ≡ y → hit x y p q ≡ 1
hit_eq x y p q e f = rw (e, f) (hit_yes x y)

corner_hits : {t : Triangle} {x y z : ℕ} (r : Rot t x y z) → sides_of x y t ≤ 1
    → third r ≡ hit x y t.r t.p + 2 * hit x y t.p t.q
unfolding sides
corner_hits {t} {x} {y} (at_p a b c) h = omega (arith, hit_eq x y t.p t.q a b)
corner_hits {t} {x} {y} (at_q a b c) h = omega (arith, hit_eq x y t.q t.r a b)
corner_hits {t} {x} {y} (at_r a b c) h = omega (arith, hit_eq x y t.r t.p a b)

pub rot_corner : {t u : Triangle} {x y z w : ℕ} → t ≡ u → (a : Rot t x y z) (b : Rot u x y w) → sides_of x y u ≤ 1
    → (third a ≡ third b) × (z ≡ w)
rot_corner {t} {u} {x} {y} e a b h =
    let f : Triangle → ℕ = λ v. hit x y v.r v.p + 2 * hit x y v.p v.q in
    let one : sides_of x y t ≤ 1 = subst (λ (v : Triangle). sides_of x y v ≤ 1) (sym e) h in (
      corner_hits a one ∙ (ap f e ∙ sym (corner_hits b h)),
      omega (arith, rot_sum a, rot_sum b, ap (λ (v : Triangle). v.p + v.q + v.r) e),
    )

pub rot_sides : {t : Triangle} {x y z : ℕ} → Rot t x y z → 1 ≤ sides_of x y t
rot_sides {t} {x} {y} {z} r = omega (arith, uses_rot x y [] r, uses_cons x y t [], sides_yes x y z)

-- the triangle of a list that has x→y, if it is used once
pub in_third : {x y z w : ℕ} (ts : List Triangle) → uses x y ts ≤ 1 → In x y z ts → In x y w ts → z ≡ w
in_third (t ∷ ts) o (here a) (here b) = rot_third a b
in_third {x} {y} (t ∷ ts) o (here a) (there j) = absurd (omega (arith, uses_cons x y t ts, rot_sides a, in_uses j))
in_third {x} {y} (t ∷ ts) o (there i) (here b) = absurd (omega (arith, uses_cons x y t ts, rot_sides b, in_uses i))
in_third {x} {y} (t ∷ ts) o (there i) (there j) = in_third ts (omega (arith, uses_cons x y t ts)) i j
in_third {x = x} {y = y} {z = z} {w = w} [] o x4 _ = elim x4 [ ]

one_place : {x y z w : ℕ} (ts : List Triangle) (d : Triangle) → uses x y ts ≤ 1 → (m n : ℕ) → m < length ts → n < length ts
    → Rot (get_or ts m d) x y z → Rot (get_or ts n d) x y w → m ≡ n
one_place [] d o m n k l a b = absurd (omega arith)
one_place (t ∷ ts) d o zero zero k l a b = refl
one_place {x} {y} (t ∷ ts) d o zero (suc n) k l a b =
    absurd (omega (arith, uses_cons x y t ts, rot_sides a, rot_sides b, place_sides x y ts d n (omega arith)))
one_place {x} {y} (t ∷ ts) d o (suc m) zero k l a b =
    absurd (omega (arith, uses_cons x y t ts, rot_sides a, rot_sides b, place_sides x y ts d m (omega arith)))
one_place {x} {y} (t ∷ ts) d o (suc m) (suc n) k l a b =
    ap suc (one_place ts d (omega (arith, uses_cons x y t ts)) m n (omega arith) (omega arith) a b)

-- it is found
pub in_found : {x y z : ℕ} (ts : List Triangle) → uses x y ts ≤ 1 → In x y z ts → (n : ℕ) × (k : ℕ) × (across x y ts ≡ Found n k z)
in_found {x} {y} {z} ts o i = go (across x y ts) refl
  where
    go : (a : Across) → across x y ts ≡ a → (n : ℕ) × (k : ℕ) × (across x y ts ≡ Found n k z)
    go Nothing e = absurd (omega (arith, in_uses i, (across_nothing x y ts).0 e))
    go (Found n k w) e =
        let w-z = in_third ts o (found_in_lem ts (across_found x y ts n k w e)) i in
        (n, k, e ∙ ap (Found n k) w-z)

-- a triangle of the list that has x→y is the one found
pub across_only : (x y : ℕ) (ts : List Triangle) (n k z : ℕ) → uses x y ts ≤ 1 → across x y ts ≡ Found n k z
    → (d : Triangle) (m w : ℕ) → m < length ts → (r : Rot (get_or ts m d) x y w) → SameFound m n (third r) k w z
across_only x y ts n k z o e d m w l r =
    let f = across_found x y ts n k z e in
    let s : Rot (get_or ts n d) x y z = subst (λ (t : Triangle). Rot t x y z) (sym (found_place ts f d)) f.seen in
    let p = one_place ts d o m n l (found_below ts f) r s in
    let g = ap (λ (i : ℕ). get_or ts i d) p ∙ found_place ts f d in
    let one = le_trans (place_sides x y ts d n (found_below ts f)) o in
    let c = rot_corner g r f.seen (subst (λ (t : Triangle). sides_of x y t ≤ 1) (found_place ts f d) one) in
    record { same_place = p; same_corner = c.0 ∙ f.corner; same_vertex = c.1 }
