-- The first triangles of a list, one more at a time, and what is counted and found among them.
-- Assumes nothing.
use Prim.Native.Nat.{ℕ, zero, suc, ◌+◌, ◌*◌, ◌/◌, ◌≤◌}
use native.Mathlib.Omega.{arith}
use mathlib.Core.List.{List, [], ◌∷◌, ◌++◌}
use mathlib.Core.Path.{◌≡◌, refl, ap, ◌∙◌}
use lib.ListN.{length, get_or, take, drop, length-append}
use lib.Seq.{take-add, drop-cons, length-take-le, take_all}
use Rattle.rules.specs.declared.Triangle.{Triangle}
use Rattle.rules.specs.Triangle.{tri, triangles_of, corners, edges_of}
use Rattle.rules.specs.Count.{occurs, count, uses}
use Rattle.mesh_theory.specs.Chains.Corner.{first_triangles, triangle_at}
use Rattle.rules.specs.Unpack.{numbers_of}

pub triangles_append : (n : ℕ) (ys zs : List ℕ) → length ys ≡ 3 * n → triangles_of (ys ++ zs) ≡ triangles_of ys ++ triangles_of zs
unfolding triangles_of
triangles_append n [] zs e = refl
triangles_append n (x ∷ []) zs e = absurd (omega arith)
triangles_append n (x ∷ (y ∷ [])) zs e = absurd (omega arith)
triangles_append zero (x ∷ (y ∷ (z ∷ ys))) zs e = absurd (omega arith)
triangles_append (suc n) (x ∷ (y ∷ (z ∷ ys))) zs e =
    ap (λ (ts : List Triangle). tri x y z ∷ ts) (triangles_append n ys zs (omega arith))

pub take_three : (xs : List ℕ) (m : ℕ) → m + 3 ≤ length xs
    → take 3 (drop m xs) ≡ get_or xs m 0 ∷ (get_or xs (m + 1) 0 ∷ (get_or xs (m + 2) 0 ∷ []))
take_three xs m h =
    let a : m + 1 ≡ suc m = omega arith in
    let b : m + 2 ≡ suc (suc m) = omega arith in
    rw (drop-cons xs m 0 (omega arith), drop-cons xs (suc m) 0 (omega arith), drop-cons xs (suc (suc m)) 0 (omega arith), a, b)

-- how many there are, and each by its number
pub triangles_length : (xs : List ℕ) → length (triangles_of xs) ≡ length xs / 3
unfolding triangles_of
triangles_length [] = refl
triangles_length (x ∷ []) = refl
triangles_length (x ∷ (y ∷ [])) = refl
triangles_length (x ∷ (y ∷ (z ∷ xs))) = omega (arith, triangles_length xs)

pub triangle_at_lem : (xs : List ℕ) (n : ℕ) (d : Triangle) → 3 * n + 3 ≤ length xs → get_or (triangles_of xs) n d ≡ triangle_at xs n
unfolding triangles_of
triangle_at_lem [] n d h = absurd (omega arith)
triangle_at_lem (x ∷ []) n d h = absurd (omega arith)
triangle_at_lem (x ∷ (y ∷ [])) n d h = absurd (omega arith)
triangle_at_lem (x ∷ (y ∷ (z ∷ xs))) zero d h = refl
triangle_at_lem (x ∷ (y ∷ (z ∷ xs))) (suc n) d h =
    let e : 3 * suc n ≡ suc (suc (suc (3 * n))) = omega arith in
    let f : 3 * suc n + 1 ≡ suc (suc (suc (3 * n + 1))) = omega arith in
    let g : 3 * suc n + 2 ≡ suc (suc (suc (3 * n + 2))) = omega arith in
    rw (f, g, e) (triangle_at_lem xs n d (omega arith))

-- one more triangle
pub first_more : (n : ℕ) (xs : List ℕ) → 3 * n + 3 ≤ length xs
    → first_triangles (suc n) xs ≡ first_triangles n xs ++ (triangle_at xs n ∷ [])
unfolding triangles_of
first_more n xs h =
    let e : 3 * suc n ≡ 3 * n + 3 = omega arith in
    ap (λ (m : ℕ). triangles_of (take m xs)) e ∙ ap triangles_of (take-add (3 * n) 3 xs)
    ∙ triangles_append n (take (3 * n) xs) (take 3 (drop (3 * n) xs)) (length-take-le (3 * n) xs (omega arith))
    ∙ ap (λ (ys : List ℕ). first_triangles n xs ++ triangles_of ys) (take_three xs (3 * n) h)

pub first_all : (n : ℕ) (xs : List ℕ) → length xs ≡ 3 * n → first_triangles n xs ≡ triangles_of xs
first_all n xs e = ap triangles_of (take_all (3 * n) xs (omega arith))

pub length_first : (n : ℕ) (xs : List ℕ) → 3 * n ≤ length xs → length (first_triangles n xs) ≡ n
unfolding triangles_of
length_first zero xs h = refl
length_first (suc n) xs h =
    ap (length {A = Triangle}) (first_more n xs (omega arith))
    ∙ length-append (first_triangles n xs) (triangle_at xs n ∷ []) ∙ omega (arith, length_first n xs (omega arith))

-- sums over triangles
pub uses_append : (x y : ℕ) (ts us : List Triangle) → uses x y (ts ++ us) ≡ uses x y ts + uses x y us
unfolding count edges_of
uses_append x y [] us = omega arith
uses_append x y (t ∷ ts) us = omega (arith, uses_append x y ts us)

pub occurs_append : (v : ℕ) (ts us : List Triangle)
    → occurs v (corners (ts ++ us)) ≡ occurs v (corners ts) + occurs v (corners us)
unfolding occurs corners
occurs_append v [] us = omega arith
occurs_append v (t ∷ ts) us = omega (arith, occurs_append v ts us)

pub uses_more : (x y n : ℕ) (xs : List ℕ) → 3 * n + 3 ≤ length xs
    → uses x y (first_triangles (suc n) xs) ≡ uses x y (first_triangles n xs) + uses x y (triangle_at xs n ∷ [])
uses_more x y n xs h =
    ap (λ (ts : List Triangle). uses x y ts) (first_more n xs h) ∙ uses_append x y (first_triangles n xs) (triangle_at xs n ∷ [])

-- three numbers for each triangle
pub length_numbers : (ts : List Triangle) → length (numbers_of ts) ≡ 3 * length ts
unfolding numbers_of
length_numbers [] = refl
length_numbers (t ∷ ts) = omega (arith, length-append (numbers_of ts) (t.p ∷ (t.q ∷ (t.r ∷ []))), length_numbers ts)
