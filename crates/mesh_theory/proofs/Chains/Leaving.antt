-- How often a directed edge leaves the corners of a list, and enters them, counted corner by corner: over whole triangles these are its
-- uses, and nothing is passed over between the corners that a vertex has.
-- Assumes nothing.
use Prim.Native.Nat.{ℕ, zero, suc, ◌+◌, ◌*◌, ◌≤◌, ◌<◌}
use native.Mathlib.Omega.{arith}
use mathlib.Core.Bool.{Bool, true, false}
use mathlib.Core.List.{List}
use mathlib.Core.Path.{◌≡◌, refl, sym, ap, ◌∙◌}
use lib.ListN.{length, get_or}
use lib.Dec.{eqb}
use borrow.Author.Tests.{eqb-false}
use Rattle.rules.specs.Triangle.{edges_of, triangles_of}
use Rattle.rules.specs.Count.{same, hit, count, uses}
use Rattle.mesh_theory.specs.Chains.Corner.{corner_after, corner_before, first_triangles, latest}
use Rattle.mesh_theory.proofs.Fans.Corners.{hit_leaving}
use Rattle.mesh_theory.proofs.Chains.Prefix.{uses_more}
use Rattle.mesh_theory.proofs.Chains.Walking.{after_first, after_second, after_third, before_first, before_second, before_third}
use Rattle.mesh_theory.proofs.Chains.Walking.{latest_other}
use Rattle.counting.proofs.Counts.{same_no, hit_from, hit_to, hit_swap}

-- how many corners below c the edge x→y leaves, and how many with x the edge y→x enters
unfoldable pub out : ℕ → ℕ → List ℕ → ℕ → ℕ
out x y xs zero = 0
out x y xs (suc c) = hit x y (get_or xs c 0) (get_or xs (corner_after c) 0) + out x y xs c

unfoldable pub into : ℕ → ℕ → List ℕ → ℕ → ℕ
into x y xs zero = 0
into x y xs (suc c) = hit y x (get_or xs (corner_before c) 0) (get_or xs c 0) + into x y xs c

out_step : (x y : ℕ) (xs : List ℕ) (c k : ℕ) → corner_after c ≡ k
    → out x y xs (suc c) ≡ hit x y (get_or xs c 0) (get_or xs k 0) + out x y xs c
unfolding out
out_step x y xs c k e = ap (λ (i : ℕ). hit x y (get_or xs c 0) (get_or xs i 0) + out x y xs c) e

into_step : (x y : ℕ) (xs : List ℕ) (c k : ℕ) → corner_before c ≡ k
    → into x y xs (suc c) ≡ hit y x (get_or xs k 0) (get_or xs c 0) + into x y xs c
unfolding into
into_step x y xs c k e = ap (λ (i : ℕ). hit y x (get_or xs i 0) (get_or xs c 0) + into x y xs c) e

-- over whole triangles they are the uses of the two edges
pub out_uses : (x y : ℕ) (xs : List ℕ) (n : ℕ) → 3 * n ≤ length xs → out x y xs (3 * n) ≡ uses x y (first_triangles n xs)
unfolding out count edges_of triangles_of
out_uses x y xs zero h = refl
out_uses x y xs (suc n) h =
    let e : 3 * suc n ≡ suc (3 * n + 2) = omega arith in
    let e₂ : 3 * n + 2 ≡ suc (3 * n + 1) = omega arith in
    let e₁ : 3 * n + 1 ≡ suc (3 * n) = omega arith in
    let d₃ = ap (out x y xs) e ∙ out_step x y xs (3 * n + 2) (3 * n) (after_third n) in
    let d₂ = ap (out x y xs) e₂ ∙ out_step x y xs (3 * n + 1) (3 * n + 2) (after_second n) in
    let d₁ = ap (out x y xs) e₁ ∙ out_step x y xs (3 * n) (3 * n + 1) (after_first n) in
    omega (arith, d₃, d₂, d₁, uses_more x y n xs (omega arith), out_uses x y xs n (omega arith))

pub into_uses : (x y : ℕ) (xs : List ℕ) (n : ℕ) → 3 * n ≤ length xs → into x y xs (3 * n) ≡ uses y x (first_triangles n xs)
unfolding into count edges_of triangles_of
into_uses x y xs zero h = refl
into_uses x y xs (suc n) h =
    let e : 3 * suc n ≡ suc (3 * n + 2) = omega arith in
    let e₂ : 3 * n + 2 ≡ suc (3 * n + 1) = omega arith in
    let e₁ : 3 * n + 1 ≡ suc (3 * n) = omega arith in
    let d₃ = ap (into x y xs) e ∙ into_step x y xs (3 * n + 2) (3 * n + 1) (before_third n) in
    let d₂ = ap (into x y xs) e₂ ∙ into_step x y xs (3 * n + 1) (3 * n) (before_second n) in
    let d₁ = ap (into x y xs) e₁ ∙ into_step x y xs (3 * n) (3 * n + 2) (before_first n) in
    omega (arith, d₃, d₂, d₁, uses_more y x n xs (omega arith), into_uses x y xs n (omega arith))

-- one corner more: it has x, or it adds nothing
module _ (x y : ℕ) (xs : List ℕ) (c : ℕ) where
  pub out_here : get_or xs c 0 ≡ x → out x y xs (suc c) ≡ same y (get_or xs (corner_after c) 0) + out x y xs c
  out_here e =
      let z = get_or xs (corner_after c) 0 in
      omega (arith, out_step x y xs c (corner_after c) refl, ap (λ (i : ℕ). hit x y i z) e, hit_leaving x y z)

  pub into_here : get_or xs c 0 ≡ x → into x y xs (suc c) ≡ same y (get_or xs (corner_before c) 0) + into x y xs c
  into_here e =
      let z = get_or xs (corner_before c) 0 in
      omega (arith, into_step x y xs c (corner_before c) refl, ap (hit y x z) e, hit_swap y x z x, hit_leaving x y z)

  out_other : (get_or xs c 0 ≡ x → ⊥) → out x y xs (suc c) ≡ out x y xs c
  out_other h =
      omega (
        arith,
        out_step x y xs c (corner_after c) refl,
        hit_from x y (get_or xs c 0) (get_or xs (corner_after c) 0),
        same_no x (get_or xs c 0) (λ e. h (sym e)),
      )

  into_other : (get_or xs c 0 ≡ x → ⊥) → into x y xs (suc c) ≡ into x y xs c
  into_other h =
      omega (
        arith,
        into_step x y xs c (corner_before c) refl,
        hit_to y x (get_or xs (corner_before c) 0) (get_or xs c 0),
        same_no x (get_or xs c 0) (λ e. h (sym e)),
      )

-- nothing is passed over between a vertex's corners
module _ (x y : ℕ) (xs : List ℕ) where
  latest_same : (f : ℕ → ℕ) → ((c : ℕ) → (get_or xs c 0 ≡ x → ⊥) → f (suc c) ≡ f c) → (n : ℕ) → f (latest x xs n) ≡ f n
  unfolding latest
  latest_same f same zero = refl
  latest_same f same (suc c) = go (eqb (get_or xs c 0) x) refl (latest_same f same c)
    where
      go : (b : Bool) → eqb (get_or xs c 0) x ≡ b → f (latest x xs c) ≡ f c → f (latest x xs (suc c)) ≡ f (suc c)
      go true e i = rw (latest, e)
      go false e i = let h = eqb-false (get_or xs c 0) x e in ap f (latest_other x xs c h) ∙ i ∙ sym (same c h)

  pub latest_leaves : (n : ℕ) → out x y xs (latest x xs n) ≡ out x y xs n
  latest_leaves = latest_same (out x y xs) (out_other x y xs)

  pub latest_enters : (n : ℕ) → into x y xs (latest x xs n) ≡ into x y xs n
  latest_enters = latest_same (into x y xs) (into_other x y xs)

  -- a vertex that no corner has
  pub out_none : (n : ℕ) → ((c : ℕ) → c < n → get_or xs c 0 ≡ x → ⊥) → out x y xs n ≡ 0
  unfolding out
  out_none zero h = refl
  out_none (suc c) h = out_other x y xs c (h c (omega arith)) ∙ out_none c (λ d l. h d (omega arith))

pub none_out : (x y : ℕ) (xs : List ℕ) → out x y xs 0 ≡ 0
unfolding out
none_out x y xs = refl

pub none_into : (x y : ℕ) (xs : List ℕ) → into x y xs 0 ≡ 0
unfolding into
none_into x y xs = refl
