-- Triangles seen from a corner, and the directed edges that they use.
-- Assumes nothing.
use Prim.Native.Nat.{ℕ, zero, suc, ◌+◌, ◌≤◌}
use native.Mathlib.Omega.{arith}
use mathlib.Core.List.{List, [], ◌∷◌}
use mathlib.Core.Logic.{◌↔◌}
use mathlib.Core.Path.{◌≡◌, refl, sym}
use borrow.Author.Tests.{eq-eqb}
use Rattle.rules.specs.declared.Triangle.{Triangle}
use Rattle.rules.specs.Triangle.{edges_of, Rot, at_p, at_q, at_r, In, here, there, Free}
use Rattle.rules.specs.Count.{same, hit, count, uses}
use Rattle.mesh_theory.specs.Fans.Corner.{Different}
use Rattle.counting.proofs.Counts.{same_yes, same_is, hit_yes, hit_swap, hit_is, no_from}

-- how often the triangle a b c has the directed edge x→y
unfoldable pub sides : ℕ → ℕ → ℕ → ℕ → ℕ → ℕ
sides x y a b c = hit x y a b + hit x y b c + hit x y c a

abbrev pub sides_of : ℕ → ℕ → Triangle → ℕ
sides_of x y t = sides x y t.p t.q t.r

-- a triangle seen from its next corner
pub rot_next : {t : Triangle} {x y z : ℕ} → Rot t x y z → Rot t y z x
rot_next (at_p a b c) = at_q b c a
rot_next (at_q a b c) = at_r b c a
rot_next (at_r a b c) = at_p b c a

pub in_next : {x y z : ℕ} {ts : List Triangle} → In x y z ts → In y z x ts
in_next (here r) = here (rot_next r)
in_next (there i) = there (in_next i)

pub different_next : {x y z : ℕ} → Different x y z → Different y z x
different_next d = record { x_y = d.y_z; y_z = d.z_x; z_x = d.x_y }

pub rot_different : {t : Triangle} {x y z : ℕ} → Different t.p t.q t.r → Rot t x y z → Different x y z
rot_different d (at_p a b c) = rw (← a, ← b, ← c) d
rot_different d (at_q a b c) = rw (← a, ← b, ← c) (different_next d)
rot_different d (at_r a b c) = rw (← a, ← b, ← c) (different_next (different_next d))

-- two corners of a triangle tell the third
pub rot_sum : {t : Triangle} {x y z : ℕ} → Rot t x y z → x + y + z ≡ t.p + t.q + t.r
rot_sum (at_p a b c) = omega arith
rot_sum (at_q a b c) = omega arith
rot_sum (at_r a b c) = omega arith

pub rot_third : {t : Triangle} {x y z w : ℕ} → Rot t x y z → Rot t x y w → z ≡ w
rot_third a b = omega (arith, rot_sum a, rot_sum b)

-- the directed edges of a triangle, from any corner on
pub uses_rot : {t : Triangle} {a b c : ℕ} (x y : ℕ) (ts : List Triangle) → Rot t a b c
    → uses x y (t ∷ ts) ≡ sides x y a b c + uses x y ts
unfolding count edges_of sides
uses_rot x y ts (at_p a b c) = rw (← a, ← b, ← c) (omega arith)
uses_rot x y ts (at_q a b c) = rw (← a, ← b, ← c) (omega arith)
uses_rot x y ts (at_r a b c) = rw (← a, ← b, ← c) (omega arith)

pub uses_cons : (x y : ℕ) (t : Triangle) (ts : List Triangle) → uses x y (t ∷ ts) ≡ sides_of x y t + uses x y ts
uses_cons x y t ts = uses_rot x y ts (at_p refl refl refl)

-- those that leave a corner, and those that enter it
pub hit_leaving : (v x y : ℕ) → hit v x v y ≡ same x y
unfolding hit same
hit_leaving v x y = rw (eq-eqb v v refl)

pub sides_leaving : (v x a b : ℕ) → Different v a b → sides v x v a b ≡ same x a
unfolding sides
sides_leaving v x a b d = omega (arith, hit_leaving v x a, no_from v x a b d.x_y, no_from v x b v (λ e. d.z_x (sym e)))

pub sides_entering : (v x a b : ℕ) → Different v a b → sides x v v a b ≡ same x b
unfolding sides
sides_entering v x a b d =
    omega (
      arith,
      hit_swap x v v a,
      hit_swap x v a b,
      hit_swap x v b v,
      hit_leaving v x b,
      no_from v x a v d.x_y,
      no_from v x b a (λ e. d.z_x (sym e)),
    )

pub sides_no : (v x a b c : ℕ) → (v ≡ a → ⊥) → (v ≡ b → ⊥) → (v ≡ c → ⊥) → (sides v x a b c ≡ 0) × (sides x v a b c ≡ 0)
unfolding sides
sides_no v x a b c h k l = (
  omega (arith, no_from v x a b h, no_from v x b c k, no_from v x c a l),
  omega (
    arith,
    hit_swap x v a b,
    hit_swap x v b c,
    hit_swap x v c a,
    no_from v x b a k,
    no_from v x c b l,
    no_from v x a c h,
  ),
)

-- if they differ, one corner tells the other two
rot_second : {t : Triangle} {v x y a b : ℕ} → Different v x y → Different v a b → Rot t v x y → Rot t v a b → x ≡ a
rot_second {t} {v} {x} {y} {a} {b} d e r s =
    same_is x a
    (omega (arith, uses_rot v x [] r, uses_rot v x [] s, sides_leaving v x x y d, sides_leaving v x a b e, same_yes x))

pub rot_others : {t : Triangle} {v x y a b : ℕ} → Different v x y → Different v a b → Rot t v x y → Rot t v a b
    → (x ≡ a) × (y ≡ b)
rot_others d e r s = let k = rot_second d e r s in (k, omega (arith, rot_sum r, rot_sum s))

-- a directed edge that a triangle has
pub sides_yes : (x y z : ℕ) → 1 ≤ sides x y x y z
unfolding sides
sides_yes x y z = omega (arith, hit_yes x y)

pub in_uses : {x y z : ℕ} {ts : List Triangle} → In x y z ts → 1 ≤ uses x y ts
in_uses {x} {y} {z} (here {ts = ts} r) = omega (arith, uses_rot x y ts r, sides_yes x y z)
in_uses {x} {y} {z} (there {t = t} {ts = ts} i) = omega (arith, uses_cons x y t ts, in_uses i)

pub sides_rot : (x y : ℕ) (t : Triangle) → 1 ≤ sides_of x y t → (z : ℕ) × Rot t x y z
unfolding sides
sides_rot x y t h = go (hit x y t.p t.q) refl (hit x y t.q t.r) refl
  where
    go : (m : ℕ) → hit x y t.p t.q ≡ m → (n : ℕ) → hit x y t.q t.r ≡ n → (z : ℕ) × Rot t x y z
    go (suc m) e n f = let k = hit_is x y t.p t.q (omega arith) in (t.r, at_p (sym k.0) (sym k.1) refl)
    go zero e (suc n) f = let k = hit_is x y t.q t.r (omega arith) in (t.p, at_q (sym k.0) (sym k.1) refl)
    go zero e zero f = let k = hit_is x y t.r t.p (omega arith) in (t.q, at_r (sym k.0) (sym k.1) refl)

pub uses_in : (x y : ℕ) (ts : List Triangle) → 1 ≤ uses x y ts → (z : ℕ) × In x y z ts
unfolding count edges_of
uses_in x y [] h = absurd (omega arith)
uses_in x y (t ∷ ts) h = go (sides_of x y t) refl (uses_in x y ts)
  where
    go : (n : ℕ) → sides_of x y t ≡ n → (1 ≤ uses x y ts → (z : ℕ) × In x y z ts) → (z : ℕ) × In x y z (t ∷ ts)
    go zero e k = let i = k (omega (arith, uses_cons x y t ts)) in (i.0, there i.1)
    go (suc n) e k = let r = sides_rot x y t (omega arith) in (r.0, here r.1)

pub free_unused : (x y : ℕ) (ts : List Triangle) → Free x y ts ↔ (uses x y ts ≡ 0)
free_unused x y ts = (λ f. go f (uses x y ts) refl, λ u z i. omega (arith, in_uses i))
  where
    go : Free x y ts → (n : ℕ) → uses x y ts ≡ n → n ≡ 0
    go f zero e = refl
    go f (suc n) e = let k = uses_in x y ts (omega arith) in absurd (f k.0 k.1)
