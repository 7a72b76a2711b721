-- C-12: the search works from the last triangle to the first, gives the last with the edge, none exactly if none has it; in a list that
-- passes 4 these words leave one answer.
-- Assumes nothing.
use Prim.Native.Nat.{ℕ, zero, suc, ◌+◌, ◌*◌, ◌≤◌, ◌<◌}
use native.Mathlib.Omega.{arith}
use mathlib.Core.Bool.{Bool, true, false, ◌&&◌}
use mathlib.Core.List.{List, [], ◌∷◌, ◌++◌}
use mathlib.Core.Path.{◌≡◌, refl, sym, ap, ◌∙◌, subst}
use lib.ListN.{length, get_or}
use lib.Dec.{eqb, leb}
use borrow.Author.Tests.{leb-true, leb-false}
use Rattle.rules.specs.declared.Triangle.{Triangle}
use Rattle.rules.specs.Across.{Across}
use Rattle.rules.specs.Across.{Found, Nothing}
use Rattle.rules.specs.Triangle.{tri, triangles_of, Rot, In, here, there}
use Rattle.rules.specs.Across.{in_triangle, across}
use Rattle.rules.specs.Check.{all_distinct}
use Rattle.mesh_theory.specs.Fans.Corner.{third}
use Rattle.mesh_theory.specs.Fans.Finding.{FoundAt}
use Rattle.mesh_theory.specs.Fans.Search.{HasEdge, IsLast, Searched, looked_at_first}
use Rattle.mesh_theory.specs.Chains.Corner.{triangle_at}
use Rattle.mesh_theory.proofs.Chains.Prefix.{triangles_length, triangle_at_lem}
use Rattle.mesh_theory.proofs.Fans.Corners.{sides_of, sides_leaving, uses_rot, uses_cons, in_uses}
use Rattle.mesh_theory.proofs.Fans.Finding.{across_found, across_nothing, found_in_lem, found_below, found_place, later_sides}
use Rattle.mesh_theory.proofs.Fans.Only.{rot_sides, rot_corner}
use Rattle.mesh_theory.proofs.Fans.Tests.{all_distinct_lem}
use Rattle.counting.proofs.Counts.{same_yes}

-- a triangle at the end of the list is looked at first, and only if it has not the edge those before it
pub last_first : (x y : ℕ) (ts : List Triangle) (t : Triangle)
    → across x y (ts ++ (t ∷ [])) ≡ looked_at_first (length ts) (in_triangle x y t) (across x y ts)
unfolding across in_triangle
last_first x y [] t =
    go (eqb t.p x && eqb t.q y) refl (eqb t.q x && eqb t.r y) refl (eqb t.r x && eqb t.p y) refl
  where
    go : (a : Bool) → eqb t.p x && eqb t.q y ≡ a → (b : Bool) → eqb t.q x && eqb t.r y ≡ b → (c : Bool)
        → eqb t.r x && eqb t.p y ≡ c → in_triangle x y t ≡ looked_at_first 0 (in_triangle x y t) Nothing
    go true e b f c g = rw (in_triangle, e)
    go false e true f c g = rw (in_triangle, e, f)
    go false e false f true g = rw (in_triangle, e, f, g)
    go false e false f false g = rw (in_triangle, e, f, g)
last_first x y (u ∷ ts) t = go (in_triangle x y t) refl (across x y ts) refl (last_first x y ts t)
  where
    go : (i : Across) → in_triangle x y t ≡ i → (a : Across) → across x y ts ≡ a
        → across x y (ts ++ (t ∷ [])) ≡ looked_at_first (length ts) (in_triangle x y t) (across x y ts)
        → across x y (u ∷ (ts ++ (t ∷ []))) ≡ looked_at_first (suc (length ts)) (in_triangle x y t) (across x y (u ∷ ts))
    go (Found m k z) e a f h = rw (e, across, h, e)
    go Nothing e (Found m k z) f h = rw (e, across, h, e, f)
    go Nothing e Nothing f h = rw (e, across, h, e, f)

none : Triangle
none = tri 0 0 0

below : (xs : List ℕ) (n : ℕ) → 3 * n + 3 ≤ length xs → n < length (triangles_of xs)
below xs n h = omega (arith, triangles_length xs)

-- a triangle that has the edge, in the list of triangles
has_sides : {xs : List ℕ} {x y n k z : ℕ} → HasEdge xs x y n k z → 1 ≤ sides_of x y (get_or (triangles_of xs) n none)
has_sides {xs} {x} {y} {n} h =
    subst (λ (t : Triangle). 1 ≤ sides_of x y t) (sym (triangle_at_lem xs n none h.within)) (rot_sides h.seen)

in_at : {x y z : ℕ} (ts : List Triangle) (n : ℕ) (d : Triangle) → n < length ts → Rot (get_or ts n d) x y z → In x y z ts
in_at [] n d h r = absurd (omega arith)
in_at (t ∷ ts) zero d h r = here r
in_at (t ∷ ts) (suc n) d h r = there (in_at ts n d (omega arith) r)

has_in : {xs : List ℕ} {x y n k z : ℕ} → HasEdge xs x y n k z → In x y z (triangles_of xs)
has_in {xs} {x} {y} {n} {k} {z} h =
    in_at (triangles_of xs) n none (below xs n h.within)
    (subst (λ (t : Triangle). Rot t x y z) (sym (triangle_at_lem xs n none h.within)) h.seen)

-- what the search finds is the last
found_has : {xs : List ℕ} {x y n k z : ℕ} → FoundAt x y (triangles_of xs) n k z → HasEdge xs x y n k z
found_has {xs} {x} {y} {n} {k} {z} f =
    let ts = triangles_of xs in
    let w : 3 * n + 3 ≤ length xs = omega (arith, found_below ts f, triangles_length xs) in
    let e : f.triangle ≡ triangle_at xs n = sym (found_place ts f none) ∙ triangle_at_lem xs n none w in
    let s = subst (λ (t : Triangle). (r : Rot t x y z) × (third r ≡ k)) e (f.seen, f.corner) in
    record { within = w; seen = s.0; corner = s.1 }

found_last : {xs : List ℕ} {x y n k z m j w : ℕ} → FoundAt x y (triangles_of xs) n k z → HasEdge xs x y m j w → m ≤ n
found_last {xs} {x} {y} {n} {k} {z} {m} f h = go (leb m n) refl
  where
    go : (b : Bool) → leb m n ≡ b → m ≤ n
    go true e = leb-true m n e
    go false e =
        let whole = f.whole in
        let short : m < length (f.before ++ (f.triangle ∷ f.after)) =
        subst (λ (us : List Triangle). m < length us) whole (below xs m h.within) in
        let some : 1 ≤ sides_of x y (get_or (f.before ++ (f.triangle ∷ f.after)) m none) =
        subst (λ (us : List Triangle). 1 ≤ sides_of x y (get_or us m none)) whole (has_sides h) in
        let l = leb-false m n e in
        let k = later_sides x y f.before f.after f.triangle none m (omega (arith, f.place)) short in
        absurd (omega (arith, f.none_later))

-- "In a list that passes 1 to 4 it gives the last with that edge, none exactly if none has it"; so it does in any list
pub searched : (xs : List ℕ) (x y : ℕ) → Searched xs x y (across x y (triangles_of xs))
searched xs x y =
    let ts = triangles_of xs in
    record {
      last = λ n k z e.
          let f = across_found x y ts n k z e in
          record { has = found_has f; last = λ m j w h. found_last f h };
      none = (λ e n k z h. omega (arith, in_uses (has_in h), (across_nothing x y ts).0 e), λ lack. go lack (across x y ts) refl);
    }
  where
    go : ((n k z : ℕ) → HasEdge xs x y n k z → ⊥) → (a : Across) → across x y (triangles_of xs) ≡ a → a ≡ Nothing
    go lack (Found n k z) e = absurd (lack n k z (found_has (across_found x y (triangles_of xs) n k z e)))
    go lack Nothing e = refl

-- in a list that passes 4 no triangle has an edge from a vertex to itself
pub never_itself : (x : ℕ) (ts : List Triangle) → all_distinct ts ≡ true → across x x ts ≡ Nothing
never_itself x ts d = go (across x x ts) refl
  where
    go : (a : Across) → across x x ts ≡ a → a ≡ Nothing
    go (Found n k z) e = absurd (((all_distinct_lem ts).0 d x x z (found_in_lem ts (across_found x x ts n k z e))).x_y refl)
    go Nothing e = refl

-- two triangles that have the edge and are the last are one, seen from one corner
last_same : {xs : List ℕ} {x y n k z m j w : ℕ} → all_distinct (triangles_of xs) ≡ true → IsLast xs x y n k z → IsLast xs x y m j w
    → Found n k z ≡ Found m j w
last_same {xs} {x} {y} {n} {k} {z} {m} {j} {w} d a b =
    let e : n ≡ m = omega (arith, a.last m j w b.has, b.last n k z a.has) in
    let s = b.has.seen in
    let t = triangle_at xs m in
    let different = (all_distinct_lem (triangles_of xs)).0 d x y w (has_in b.has) in
    let one : sides_of x y t ≤ 1 = omega (arith, uses_rot x y [] s, uses_cons x y t [], sides_leaving x y y w different, same_yes y) in
    let c = rot_corner (ap (triangle_at xs) e) a.has.seen s one in
    let f : k ≡ j = sym a.has.corner ∙ c.0 ∙ b.has.corner in
    rw (e, f, c.1)

-- these words leave one answer
pub one_answer : (xs : List ℕ) (x y : ℕ) (r s : Across) → all_distinct (triangles_of xs) ≡ true → Searched xs x y r → Searched xs x y s
    → r ≡ s
one_answer xs x y (Found n k z) (Found m j w) d a b = last_same d (a.last n k z refl) (b.last m j w refl)
one_answer xs x y (Found n k z) Nothing d a b = absurd (b.none.0 refl n k z (a.last n k z refl).has)
one_answer xs x y Nothing (Found m j w) d a b = absurd (a.none.0 refl m j w (b.last m j w refl).has)
one_answer xs x y Nothing Nothing d a b = refl
