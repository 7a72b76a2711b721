-- Triangles under a numbering of their vertices.
-- Assumes nothing.
use Prim.Native.Nat.{ℕ, zero, suc, ◌<◌}
use native.Mathlib.Omega.{arith}
use mathlib.Core.List.{List, [], ◌∷◌}
use mathlib.Core.Path.{◌≡◌, refl, ap, ap₂}
use lib.ListN.{length}
use Rattle.rules.specs.declared.Triangle.{Triangle}
use Rattle.rules.specs.Triangle.{tri, at_p, at_q, at_r, In, here, there}
use Rattle.choice_theory.proofs.Places.Renaming.{triangles}
use Rattle.roundtrip.specs.Claims.{under, renumbered, Rotated, nth, OneToOne}

-- the vertices of a triangle are below v
abbrev pub Below : ℕ → Triangle → Type 0
Below v t = (t.p < v) × (t.q < v) × (t.r < v)

pub named_is_renumbered : (f : ℕ → ℕ) (ts : List Triangle) → triangles f ts ≡ renumbered f ts
named_is_renumbered f [] = refl
named_is_renumbered f (t ∷ ts) = ap (λ (us : List Triangle). tri (f t.p) (f t.q) (f t.r) ∷ us) (named_is_renumbered f ts)

-- two numberings that agree on the vertices
pub renumbered_agree : (f g : ℕ → ℕ) (ts : List Triangle) → ((x y z : ℕ) → In x y z ts → f x ≡ g x) → renumbered f ts ≡ renumbered g ts
renumbered_agree f g [] h = refl
renumbered_agree f g (t ∷ ts) h =
    let p = h t.p t.q t.r (here (at_p refl refl refl)) in
    let q = h t.q t.r t.p (here (at_q refl refl refl)) in
    let r = h t.r t.p t.q (here (at_r refl refl refl)) in
    ap₂ (λ (x : Triangle) (xs : List Triangle). x ∷ xs) (λ i. tri (p i) (q i) (r i))
    (renumbered_agree f g ts (λ x y z j. h x y z (there j)))

pub renumbered_twice : (f g : ℕ → ℕ) (ts : List Triangle) → renumbered f (renumbered g ts) ≡ renumbered (λ x. f (g x)) ts
renumbered_twice f g [] = refl
renumbered_twice f g (t ∷ ts) = ap (λ (us : List Triangle). tri (f (g t.p)) (f (g t.q)) (f (g t.r)) ∷ us) (renumbered_twice f g ts)

pub length_renumbered : (f : ℕ → ℕ) (ts : List Triangle) → length (renumbered f ts) ≡ length ts
length_renumbered f [] = refl
length_renumbered f (t ∷ ts) = ap suc (length_renumbered f ts)

pub renumbered_in : (f : ℕ → ℕ) (ts : List Triangle) (x y z : ℕ) → In x y z ts → In (f x) (f y) (f z) (renumbered f ts)
renumbered_in f (t ∷ ts) x y z (here (at_p a b c)) = here (at_p (ap f a) (ap f b) (ap f c))
renumbered_in f (t ∷ ts) x y z (here (at_q a b c)) = here (at_q (ap f a) (ap f b) (ap f c))
renumbered_in f (t ∷ ts) x y z (here (at_r a b c)) = here (at_r (ap f a) (ap f b) (ap f c))
renumbered_in f (t ∷ ts) x y z (there i) = there (renumbered_in f ts x y z i)
renumbered_in f [] x y z x3 = elim x3 [ ]

pub nth_renumbered : (f : ℕ → ℕ) (ts : List Triangle) (i : ℕ) → i < length ts → nth (renumbered f ts) i ≡ under f (nth ts i)
nth_renumbered f [] i l = absurd (omega arith)
nth_renumbered f (t ∷ ts) zero l = refl
nth_renumbered f (t ∷ ts) (suc i) l = nth_renumbered f ts i (omega arith)

pub turned_under : (f : ℕ → ℕ) {t u : Triangle} → Rotated t u → Rotated (under f t) (under f u)
turned_under f (at_p a b c) = at_p (ap f a) (ap f b) (ap f c)
turned_under f (at_q a b c) = at_q (ap f a) (ap f b) (ap f c)
turned_under f (at_r a b c) = at_r (ap f a) (ap f b) (ap f c)

-- and back, where the numbering is one to one
pub under_turned : (v : ℕ) (f : ℕ → ℕ) (t u : Triangle) → OneToOne v f → Below v t → Below v u → Rotated (under f t) (under f u)
    → Rotated t u
under_turned v f t u o k l (at_p a b c) =
    at_p (o.tells _ _ k.0 l.0 a) (o.tells _ _ k.1 l.1 b) (o.tells _ _ k.2 l.2 c)
under_turned v f t u o k l (at_q a b c) =
    at_q (o.tells _ _ k.1 l.0 a) (o.tells _ _ k.2 l.1 b) (o.tells _ _ k.0 l.2 c)
under_turned v f t u o k l (at_r a b c) =
    at_r (o.tells _ _ k.2 l.0 a) (o.tells _ _ k.0 l.1 b) (o.tells _ _ k.1 l.2 c)

-- a triangle that has new numbers had old ones
pub record Had (f : ℕ → ℕ) (ts : List Triangle) (x y z : ℕ) : Type 0 where
  pub u : ℕ
  pub v : ℕ
  pub w : ℕ
  pub had : In u v w ts
  pub x_is : f u ≡ x
  pub y_is : f v ≡ y
  pub z_is : f w ≡ z

pub in_renumbered : (f : ℕ → ℕ) (ts : List Triangle) (x y z : ℕ) → In x y z (renumbered f ts) → Had f ts x y z
in_renumbered f (t ∷ ts) x y z (here (at_p a b c)) =
    record { u = t.p; v = t.q; w = t.r; had = here (at_p refl refl refl); x_is = a; y_is = b; z_is = c }
in_renumbered f (t ∷ ts) x y z (here (at_q a b c)) =
    record { u = t.q; v = t.r; w = t.p; had = here (at_q refl refl refl); x_is = a; y_is = b; z_is = c }
in_renumbered f (t ∷ ts) x y z (here (at_r a b c)) =
    record { u = t.r; v = t.p; w = t.q; had = here (at_r refl refl refl); x_is = a; y_is = b; z_is = c }
in_renumbered f (t ∷ ts) x y z (there i) =
    let r = in_renumbered f ts x y z i in
    record { u = r.u; v = r.v; w = r.w; had = there r.had; x_is = r.x_is; y_is = r.y_is; z_is = r.z_is }
in_renumbered f [] x y z x3 = elim x3 [ ]
