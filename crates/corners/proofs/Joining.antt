-- The walk down the chain of x meets y at each triangle that joins them.
-- Assumes nothing.
use Prim.Native.Nat.{ℕ, zero, suc, ◌*◌, ◌-◌, ◌≤◌, ◌<◌}
use native.Mathlib.Omega.{arith}
use mathlib.Core.Bool.{Bool, true, false, ◌&&◌}
use mathlib.Core.List.{List}
use mathlib.Core.Path.{◌≡◌, refl, sym, ap, ◌∙◌, subst}
use lib.ListN.{get_or}
use lib.Dec.{eqb}
use borrow.Author.Tests.{eq-eqb, ne_eqb}
use Rattle.rules.specs.Count.{same, uses}
use Rattle.mesh_theory.specs.Chains.Corner.{corner_after, corner_before, first_triangles, latest}
use Rattle.mesh_theory.specs.Chains.Linked.{Chains, Newest, Older, UnjoinedIs}
use Rattle.mesh_theory.proofs.Chains.Walking.{latest_below, latest_has}
use Rattle.mesh_theory.proofs.Chains.Leaving.{out, into, out_uses, into_uses, out_here, into_here, latest_leaves, latest_enters}
use Rattle.mesh_theory.proofs.Chains.Leaving.{none_out, none_into}
use Rattle.counting.proofs.Counts.{same_no, same_yes}

-- the walk stands at c: corner c - 1 has x, and y was not met
pub record Still (xs : List ℕ) (n x y c : ℕ) : Type 0 where
  pub bound : c ≤ n
  pub has : 0 < c → get_or xs (c - 1) 0 ≡ x
  pub leaves : out x y xs c ≡ out x y xs n
  pub enters : into x y xs c ≡ into x y xs n

before : (c : ℕ) → suc c - 1 ≡ c
before c = omega arith

still_latest : (xs : List ℕ) (m n x y : ℕ) → m ≤ n → out x y xs m ≡ out x y xs n → into x y xs m ≡ into x y xs n
    → Still xs n x y (latest x xs m)
still_latest xs m n x y l e f =
    record {
      bound = omega (arith, latest_below x xs m);
      has = go (latest x xs m) refl;
      leaves = latest_leaves x y xs m ∙ e;
      enters = latest_enters x y xs m ∙ f;
    }
  where
    go : (k : ℕ) → latest x xs m ≡ k → 0 < k → get_or xs (k - 1) 0 ≡ x
    go zero q h = absurd (omega arith)
    go (suc k) q h = rw (before k) (latest_has x xs m k q)

still_more : (xs : List ℕ) (n x y c d : ℕ) → Still xs n x y c → 0 < c → (get_or xs (corner_after (c - 1)) 0 ≡ y → ⊥)
    → (get_or xs (corner_before (c - 1)) 0 ≡ y → ⊥) → d ≡ latest (get_or xs (c - 1) 0) xs (c - 1) → Still xs n x y d
still_more xs n x y zero d s h a b e = absurd (omega arith)
still_more xs n x y (suc c) d s h a b e =
    let i : get_or xs c 0 ≡ x = rw (before c) at (s.has h) in
    let a' : get_or xs (corner_after c) 0 ≡ y → ⊥ = rw (before c) at a in
    let b' : get_or xs (corner_before c) 0 ≡ y → ⊥ = rw (before c) at b in
    let e' : d ≡ latest (get_or xs c 0) xs c = rw (before c) at e in
    let no-after = same_no y (get_or xs (corner_after c) 0) (λ q. a' (sym q)) in
    let no-before = same_no y (get_or xs (corner_before c) 0) (λ q. b' (sym q)) in
    rw (e', i)
    (still_latest xs c n x y (omega (arith, s.bound)) (omega (arith, out_here x y xs c i, no-after, s.leaves))
    (omega (arith, into_here x y xs c i, no-before, s.enters)))

still_after : (xs : List ℕ) (n x y c : ℕ) → Still xs n x y c → 0 < c → get_or xs (corner_after (c - 1)) 0 ≡ y → 1 ≤ out x y xs n
still_after xs n x y zero s h e = absurd (omega arith)
still_after xs n x y (suc c) s h e =
    let i : get_or xs c 0 ≡ x = rw (before c) at (s.has h) in
    let e' : get_or xs (corner_after c) 0 ≡ y = rw (before c) at e in
    omega (arith, s.leaves, out_here x y xs c i, ap (same y) e', same_yes y)

still_before : (xs : List ℕ) (n x y c : ℕ) → Still xs n x y c → 0 < c → get_or xs (corner_before (c - 1)) 0 ≡ y → 1 ≤ into x y xs n
still_before xs n x y zero s h e = absurd (omega arith)
still_before xs n x y (suc c) s h e =
    let i : get_or xs c 0 ≡ x = rw (before c) at (s.has h) in
    let e' : get_or xs (corner_before c) 0 ≡ y = rw (before c) at e in
    omega (arith, s.enters, into_here x y xs c i, ap (same y) e', same_yes y)

still_none : (xs : List ℕ) (n x y c : ℕ) → Still xs n x y c → c ≤ 0 → (out x y xs n ≡ 0) × (into x y xs n ≡ 0)
still_none xs n x y zero s h = (sym s.leaves ∙ none_out x y xs, sym s.enters ∙ none_into x y xs)
still_none xs n x y (suc c) s h = absurd (omega arith)

-- the walk, whatever number of triangles the chains hold
abbrev pub Joins : List ℕ → List ℕ → ℕ → ℕ → ℕ → Type 0
Joins xs cs x y c = (n : ℕ) → Chains xs (3 * n) cs → Still xs (3 * n) x y c

module _ {xs cs : List ℕ} {x y : ℕ} where
  pub join_start : (c : ℕ) → Newest xs cs x c → Joins xs cs x y c
  join_start c h n k = subst (Still xs (3 * n) x y) (sym (h.newest n k)) (still_latest xs (3 * n) (3 * n) x y (omega arith) refl refl)

  pub join_more : (c k j d : ℕ) → Joins xs cs x y c → 0 < c → k ≡ corner_after (c - 1) → (get_or xs k 0 ≡ y → ⊥) → j ≡ corner_before (c - 1)
      → (get_or xs j 0 ≡ y → ⊥) → Older cs (c - 1) d → Joins xs cs x y d
  join_more c k j d w l e f g i o n h =
      let a = w n h in
      still_more xs (3 * n) x y c d a l (λ q. f (ap (λ (i : ℕ). get_or xs i 0) e ∙ q)) (λ q. i (ap (λ (i : ℕ). get_or xs i 0) g ∙ q))
      (o.older xs (3 * n) h (omega (arith, a.bound)))

  pub join_after : (c k : ℕ) → Joins xs cs x y c → 0 < c → k ≡ corner_after (c - 1) → get_or xs k 0 ≡ y → UnjoinedIs xs cs x y false
  join_after c k w l e f n h d =
      let s = still_after xs (3 * n) x y c (w n h) l (ap (λ (i : ℕ). get_or xs i 0) (sym e) ∙ f) in
      sym (rw (ne_eqb (uses x y (first_triangles n xs)) 0 (λ q. omega (arith, out_uses x y xs n h.within))))

  pub join_before : (c k : ℕ) → Joins xs cs x y c → 0 < c → k ≡ corner_before (c - 1) → get_or xs k 0 ≡ y → UnjoinedIs xs cs x y false
  join_before c k w l e f n h d =
      let s = still_before xs (3 * n) x y c (w n h) l (ap (λ (i : ℕ). get_or xs i 0) (sym e) ∙ f) in
      sym
      (ap (λ (b : Bool). eqb (uses x y (first_triangles n xs)) 0 && b)
      (ne_eqb (uses y x (first_triangles n xs)) 0 (λ q. omega (arith, into_uses x y xs n h.within)))
      ∙ and_false (eqb (uses x y (first_triangles n xs)) 0))
    where
      and_false : (b : Bool) → b && false ≡ false
      and_false true = refl
      and_false false = refl

  pub join_none : (c : ℕ) → Joins xs cs x y c → c ≤ 0 → UnjoinedIs xs cs x y true
  join_none c w l n h d =
      let s = still_none xs (3 * n) x y c (w n h) l in
      sym
      (rw (
        eq-eqb (uses x y (first_triangles n xs)) 0 (sym (out_uses x y xs n h.within) ∙ s.0),
        eq-eqb (uses y x (first_triangles n xs)) 0 (sym (into_uses x y xs n h.within) ∙ s.1),
      ))
