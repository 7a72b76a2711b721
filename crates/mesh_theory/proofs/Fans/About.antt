-- The triangles about a vertex, as edges opposite to it: which they are, and that no two start or end at the same vertex.
-- Assumes nothing.
use Prim.Native.Nat.{ℕ, ◌≤◌}
use native.Mathlib.Omega.{arith}
use mathlib.Core.Bool.{Bool, true, false}
use mathlib.Core.List.{List, [], ◌∷◌}
use mathlib.Core.Logic.{⊎_elim}
use mathlib.Core.Path.{◌≡◌, refl, sym, subst}
use lib.Dec.{eqb}
use borrow.Author.Tests.{eqb-true, eqb-false}
use Rattle.rules.specs.declared.Triangle.{Triangle}
use Rattle.rules.specs.Triangle.{edge, edges_of, Rot, at_p, at_q, at_r, In, here, there}
use Rattle.rules.specs.Count.{count, uses}
use Rattle.rules.specs.Fan.{about}
use Rattle.rules.specs.Check.{all_distinct, none_twice}
use Rattle.mesh_theory.specs.Fans.Ways.{total}
use Rattle.mesh_theory.proofs.Fans.Counting.{starts, ends, Apart, member}
use Rattle.mesh_theory.proofs.Fans.Corners.{rot_different, uses_rot, uses_cons, sides_leaving, sides_entering, sides_no, rot_others}
use Rattle.mesh_theory.proofs.Fans.Corners.{sides_yes}
use Rattle.mesh_theory.proofs.Fans.Tests.{distinct_first, distinct_rest, none_twice_lem}
use Rattle.counting.proofs.Counts.{hit_yes}

-- the first triangle of a list is about v, or it is not
pub data First (v : ℕ) (t : Triangle) (ts : List Triangle) : Type 0 where
  meets : (x y : ℕ) → Rot t v x y → about v (t ∷ ts) ≡ edge x y ∷ about v ts → First v t ts
  misses : (v ≡ t.p → ⊥) → (v ≡ t.q → ⊥) → (v ≡ t.r → ⊥) → about v (t ∷ ts) ≡ about v ts → First v t ts

pub first : (v : ℕ) (t : Triangle) (ts : List Triangle) → First v t ts
unfolding about
first v t ts = go (eqb v t.p) refl (eqb v t.q) refl (eqb v t.r) refl
  where
    go : (a : Bool) → eqb v t.p ≡ a → (b : Bool) → eqb v t.q ≡ b → (c : Bool) → eqb v t.r ≡ c → First v t ts
    go true e b f c g = meets t.q t.r (at_p (sym (eqb-true v t.p e)) refl refl) (rw (about, e))
    go false e true f c g = meets t.r t.p (at_q (sym (eqb-true v t.q f)) refl refl) (rw (about, e, f))
    go false e false f true g = meets t.p t.q (at_r (sym (eqb-true v t.r g)) refl refl) (rw (about, e, f, g))
    go false e false f false g =
        misses (eqb-false v t.p e) (eqb-false v t.q f) (eqb-false v t.r g) (rw (about, e, f, g))

-- an edge that leaves v starts one of them, and an edge that enters v ends one
pub about_edges : (v x : ℕ) (ts : List Triangle) → all_distinct ts ≡ true
    → (starts x (about v ts) ≡ uses v x ts) × (ends x (about v ts) ≡ uses x v ts)
unfolding about edges_of count total
about_edges v x [] h = (refl, refl)
about_edges v x (t ∷ ts) h = go (first v t ts) (about_edges v x ts (distinct_rest t ts h))
  where
    go : First v t ts → (starts x (about v ts) ≡ uses v x ts) × (ends x (about v ts) ≡ uses x v ts)
        → (starts x (about v (t ∷ ts)) ≡ uses v x (t ∷ ts)) × (ends x (about v (t ∷ ts)) ≡ uses x v (t ∷ ts))
    go (meets a b r e) k =
        let d = rot_different (distinct_first t ts h) r in
        rw e (omega (arith, k.0, k.1, uses_rot v x ts r, uses_rot x v ts r, sides_leaving v x a b d, sides_entering v x a b d))
    go (misses p q r e) k =
        let n = sides_no v x t.p t.q t.r p q r in
        rw e (omega (arith, k.0, k.1, uses_cons v x t ts, uses_cons x v t ts, n.0, n.1))

pub about_apart : (v : ℕ) (ts : List Triangle) → all_distinct ts ≡ true → none_twice (edges_of ts) ≡ true → Apart (about v ts)
about_apart v ts d o = record {
  starts_once = λ x. omega (arith, (about_edges v x ts d).0, (none_twice_lem (edges_of ts)).0 o v x);
  ends_once = λ x. omega (arith, (about_edges v x ts d).1, (none_twice_lem (edges_of ts)).0 o x v);
}

-- the edge x→y is among them exactly if the triangle v x y is in the list
pub about_in : (v x y : ℕ) (ts : List Triangle) → 1 ≤ count x y (about v ts) → In v x y ts
unfolding about count
about_in v x y [] h = absurd (omega arith)
about_in v x y (t ∷ ts) h = go (first v t ts) (about_in v x y ts)
  where
    go : First v t ts → (1 ≤ count x y (about v ts) → In v x y ts) → In v x y (t ∷ ts)
    go (meets a b r e) k =
        ⊎_elim (λ q. here (rw (q.0, q.1) r)) (λ m. there (k m))
        (member x y (edge a b) (about v ts) (subst (λ ds. 1 ≤ count x y ds) e h))
    go (misses p q r e) k = there (k (subst (λ ds. 1 ≤ count x y ds) e h))

pub in_about : {v x y : ℕ} (ts : List Triangle) → all_distinct ts ≡ true → In v x y ts → 1 ≤ count x y (about v ts)
unfolding count
in_about {v} {x} {y} (t ∷ ts) d (here r) = go (first v t ts)
  where
    go : First v t ts → 1 ≤ count x y (about v (t ∷ ts))
    go (meets a b s e) =
        let c = distinct_first t ts d in
        let k = rot_others (rot_different c r) (rot_different c s) r s in
        rw (e, k.0, k.1) (omega (arith, hit_yes a b))
    go (misses p q s e) =
        let n = sides_no v x t.p t.q t.r p q s in
        absurd (omega (arith, uses_rot v x ts r, uses_cons v x t ts, sides_yes v x y, n.0))
in_about {v} {x} {y} (t ∷ ts) d (there i) = go (first v t ts) (in_about ts (distinct_rest t ts d) i)
  where
    go : First v t ts → 1 ≤ count x y (about v ts) → 1 ≤ count x y (about v (t ∷ ts))
    go (meets a b s e) k = rw e (omega arith)
    go (misses p q s e) k = rw e k
in_about {v = v} {x = x} {y = y} [] d x3 = elim x3 [ ]
