-- A triangle written into the buffer as the next one.
-- Assumes nothing.
use Prim.Native.Nat.{ℕ, zero, suc, ◌+◌, ◌*◌, ◌≤◌, ◌<◌}
use native.Mathlib.Omega.{arith}
use mathlib.Core.Bool.{true, ◌&&◌}
use mathlib.Core.List.{List, [], ◌∷◌}
use mathlib.Core.Path.{◌≡◌, refl, ap, ap₂, ◌∙◌}
use lib.ListN.{length, get_or, take}
use lib.Dec.{ltb}
use borrow.Author.Tests.{lt-ltb, ltb-true}
use Rattle.rules.specs.declared.Triangle.{Triangle}
use Rattle.rules.specs.Check.{all_below}
use Rattle.rules.specs.View.{triangles_built}
use Rattle.rules.specs.Build.{with_triangle}
use Rattle.counting.proofs.Bools.{and_left, and_right}
use Rattle.counting.proofs.Triangles.{written_before, written_p, written_q, written_r, written_front}
use Rattle.state_theory.proofs.Reading.Trails.{below_append}

-- the triangles before it are as they were
built_same : (xs ys : List ℕ) (n : ℕ) → ((i : ℕ) → i < 3 * n → get_or ys i 0 ≡ get_or xs i 0) → triangles_built ys n ≡ triangles_built xs n
unfolding triangles_built
built_same xs ys zero h = refl
built_same xs ys (suc n) h =
    let e₀ = h (3 * n) (omega arith) in
    let e₁ = h (3 * n + 1) (omega arith) in
    let e₂ = h (3 * n + 2) (omega arith) in
    rw (e₀, e₁, e₂, built_same xs ys n (λ i l. h i (omega (arith, l))))

-- the triangles read off the buffer, the new one the latest
pub written_next : (xs : List ℕ) (n : ℕ) (t : Triangle) → 3 * n + 3 ≤ length xs
    → triangles_built (with_triangle n t xs) (suc n) ≡ t ∷ triangles_built xs n
unfolding triangles_built
written_next xs n t h =
    rw (
      written_p xs n t h,
      written_q xs n t h,
      written_r xs n t h,
      built_same xs (with_triangle n t xs) n (written_before xs n t h),
    )

pub below_more : (u v : ℕ) → u ≤ v → (xs : List ℕ) → all_below u xs ≡ true → all_below v xs ≡ true
unfolding all_below
below_more u v l [] h = refl
below_more u v l (x ∷ xs) h =
    ap₂ ◌&&◌ (lt-ltb x v (omega (arith, l, ltb-true x u (and_left (ltb x u) (all_below u xs) h))))
    (below_more u v l xs (and_right (ltb x u) (all_below u xs) h))

-- all numbers of the triangles are below the count after it
pub written_below : (xs : List ℕ) (n : ℕ) (t : Triangle) → 3 * n + 3 ≤ length xs → (u v : ℕ) → u ≤ v → all_below u (take (3 * n) xs) ≡ true
    → (t.p < v) × (t.q < v) × (t.r < v) → all_below v (take (3 * suc n) (with_triangle n t xs)) ≡ true
unfolding all_below
written_below xs n t h u v l k c =
    let three : 3 * suc n ≡ 3 * n + 3 = omega arith in
    ap (λ (k : ℕ). all_below v (take k (with_triangle n t xs))) three ∙ ap (all_below v) (written_front xs n t h)
    ∙ below_append v (take (3 * n) xs) (t.p ∷ (t.q ∷ (t.r ∷ []))) (below_more u v l (take (3 * n) xs) k)
    (ap₂ ◌&&◌ (lt-ltb t.p v c.0) (ap₂ ◌&&◌ (lt-ltb t.q v c.1) (ap₂ ◌&&◌ (lt-ltb t.r v c.2) refl)))
