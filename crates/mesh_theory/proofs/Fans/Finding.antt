-- The look-up `across` of a directed edge: what it finds, and when it finds nothing.
-- Assumes nothing.
use Prim.Native.Nat.{ℕ, zero, suc, ◌≤◌, ◌<◌}
use native.Mathlib.Omega.{arith}
use mathlib.Core.Bool.{Bool, true, false, ◌&&◌, true≢false}
use mathlib.Core.List.{List, [], ◌∷◌, ◌++◌}
use mathlib.Core.Logic.{◌↔◌}
use mathlib.Core.Path.{◌≡◌, refl, sym, ap, ◌∙◌, subst}
use lib.ListN.{length, get_or, length-append}
use lib.Dec.{eqb}
use borrow.Author.Tests.{eqb-true, eq-eqb}
use Rattle.rules.specs.declared.Triangle.{Triangle}
use Rattle.rules.specs.Across.{Across}
use Rattle.rules.specs.Across.{Found, Nothing}
use Rattle.rules.specs.Triangle.{edges_of, Rot, at_p, at_q, at_r, In, here, there}
use Rattle.rules.specs.Count.{hit, count, uses}
use Rattle.rules.specs.Across.{in_triangle, across}
use Rattle.mesh_theory.specs.Fans.Corner.{third}
use Rattle.mesh_theory.specs.Fans.Finding.{FoundAt, Told}
use Rattle.mesh_theory.proofs.Fans.Corners.{sides, sides_of, uses_cons, in_uses}
use Rattle.counting.proofs.Bools.{and_left, and_right, and_both}
use Rattle.counting.proofs.Counts.{hit_is}

-- both numbers are the tested ones
pub pair : (a b x y : ℕ) → eqb a x && eqb b y ≡ true → (a ≡ x) × (b ≡ y)
pair a b x y h = (eqb-true a x (and_left (eqb a x) (eqb b y) h), eqb-true b y (and_right (eqb a x) (eqb b y) h))

no_pair : (a b x y : ℕ) → eqb a x && eqb b y ≡ false → hit x y a b ≡ 0
no_pair a b x y h = go (hit x y a b) refl
  where
    go : (n : ℕ) → hit x y a b ≡ n → n ≡ 0
    go zero e = refl
    go (suc n) e =
        let k = hit_is x y a b (omega arith) in
        absurd (true≢false (sym (and_both (eqb a x) (eqb b y) (eq-eqb a x (sym k.0)) (eq-eqb b y (sym k.1))) ∙ h))

first_of : {x y z : ℕ} (t : Triangle) (ts : List Triangle) (r : Rot t x y z) → uses x y ts ≡ 0 → FoundAt x y (t ∷ ts) 0 (third r) z
first_of t ts r u = record {
  before = [];
  triangle = t;
  after = ts;
  whole = refl;
  place = refl;
  seen = r;
  corner = refl;
  none_later = u;
}

one_later : {x y n k z : ℕ} (t : Triangle) (ts : List Triangle) → FoundAt x y ts n k z → FoundAt x y (t ∷ ts) (suc n) k z
one_later t ts f = record {
  before = t ∷ f.before;
  triangle = f.triangle;
  after = f.after;
  whole = ap (λ (us : List Triangle). t ∷ us) f.whole;
  place = ap suc f.place;
  seen = f.seen;
  corner = f.corner;
  none_later = f.none_later;
}

told_first : (x y : ℕ) (t : Triangle) (ts : List Triangle) → uses x y ts ≡ 0 → Told x y (t ∷ ts) (in_triangle x y t)
unfolding in_triangle sides
told_first x y t ts u =
    go (eqb t.p x && eqb t.q y) refl (eqb t.q x && eqb t.r y) refl (eqb t.r x && eqb t.p y) refl
  where
    go : (a : Bool) → eqb t.p x && eqb t.q y ≡ a → (b : Bool) → eqb t.q x && eqb t.r y ≡ b → (c : Bool)
        → eqb t.r x && eqb t.p y ≡ c → Told x y (t ∷ ts) (in_triangle x y t)
    go true e b f c g = let k = pair t.p t.q x y e in rw (in_triangle, e) (first_of t ts (at_p k.0 k.1 refl) u)
    go false e true f c g = let k = pair t.q t.r x y f in rw (in_triangle, e, f) (first_of t ts (at_q k.0 k.1 refl) u)
    go false e false f true g =
        let k = pair t.r t.p x y g in
        rw (in_triangle, e, f, g) (first_of t ts (at_r k.0 k.1 refl) u)
    go false e false f false g =
        rw (in_triangle, e, f, g)
        (omega (
          arith,
          uses_cons x y t ts,
          no_pair t.p t.q x y e,
          no_pair t.q t.r x y f,
          no_pair t.r t.p x y g,
        ))

told : (x y : ℕ) (ts : List Triangle) → Told x y ts (across x y ts)
unfolding across count edges_of
told x y [] = refl
told x y (t ∷ ts) = go (across x y ts) refl (told x y ts)
  where
    go : (a : Across) → across x y ts ≡ a → Told x y ts a → Told x y (t ∷ ts) (across x y (t ∷ ts))
    go (Found n k z) e f = rw (across, e) (one_later t ts f)
    go Nothing e u = rw (across, e) (told_first x y t ts u)

-- what it finds
pub across_found : (x y : ℕ) (ts : List Triangle) (n k z : ℕ) → across x y ts ≡ Found n k z → FoundAt x y ts n k z
across_found x y ts n k z e = subst (Told x y ts) e (told x y ts)

pub in_append : {x y z : ℕ} (us : List Triangle) {ts : List Triangle} → In x y z ts → In x y z (us ++ ts)
in_append [] i = i
in_append (u ∷ us) i = there (in_append us i)

pub found_in_lem : {x y n k z : ℕ} (ts : List Triangle) → FoundAt x y ts n k z → In x y z ts
found_in_lem {x} {y} {n} {k} {z} ts f = subst (In x y z) (sym f.whole) (in_append f.before (here f.seen))

-- its place in the list
middle : (us vs : List Triangle) (t d : Triangle) → get_or (us ++ (t ∷ vs)) (length us) d ≡ t
middle [] vs t d = refl
middle (u ∷ us) vs t d = middle us vs t d

pub found_below : {x y n k z : ℕ} (ts : List Triangle) → FoundAt x y ts n k z → n < length ts
found_below ts f =
    omega (arith, f.place, ap (length {A = Triangle}) f.whole, length-append f.before (f.triangle ∷ f.after))

pub found_place : {x y n k z : ℕ} (ts : List Triangle) (f : FoundAt x y ts n k z) (d : Triangle) → get_or ts n d ≡ f.triangle
found_place ts f d = rw (f.whole, ← f.place) (middle f.before f.after f.triangle d)

-- the triangles after it do not have the edge
pub place_sides : (x y : ℕ) (ts : List Triangle) (d : Triangle) (n : ℕ) → n < length ts
    → sides_of x y (get_or ts n d) ≤ uses x y ts
place_sides x y [] d n l = absurd (omega arith)
place_sides x y (t ∷ ts) d zero l = omega (arith, uses_cons x y t ts)
place_sides x y (t ∷ ts) d (suc n) l = omega (arith, uses_cons x y t ts, place_sides x y ts d n (omega arith))

pub later_sides : (x y : ℕ) (us vs : List Triangle) (t d : Triangle) (m : ℕ) → length us < m → m < length (us ++ (t ∷ vs))
    → sides_of x y (get_or (us ++ (t ∷ vs)) m d) ≤ uses x y vs
later_sides x y us vs t d zero k l = absurd (omega arith)
later_sides x y [] vs t d (suc m) k l = place_sides x y vs d m (omega arith)
later_sides x y (u ∷ us) vs t d (suc m) k l = later_sides x y us vs t d m (omega arith) (omega arith)

-- it finds nothing exactly if the edge is not used
pub across_nothing : (x y : ℕ) (ts : List Triangle) → (across x y ts ≡ Nothing) ↔ (uses x y ts ≡ 0)
across_nothing x y ts = (λ e. subst (Told x y ts) e (told x y ts), λ u. go u (across x y ts) refl)
  where
    go : uses x y ts ≡ 0 → (a : Across) → across x y ts ≡ a → a ≡ Nothing
    go u (Found n k z) e = absurd (omega (arith, in_uses (found_in_lem ts (across_found x y ts n k z e))))
    go u Nothing e = refl
