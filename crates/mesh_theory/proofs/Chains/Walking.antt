-- Going down a vertex's chain, from its latest corner, passes all corners that it has.
-- Assumes nothing.
use Prim.Native.Nat.{ℕ, zero, suc, ◌+◌, ◌*◌, ◌-◌, ◌≤◌, ◌<◌, ◌/◌, ◌%◌}
use native.Mathlib.Omega.{arith}
use mathlib.Core.Bool.{Bool, true, false, ◌&&◌}
use mathlib.Core.List.{List}
use mathlib.Core.Path.{◌≡◌, refl, sym, ap, ◌∙◌, subst}
use lib.ListN.{length, get_or}
use lib.Dec.{eqb}
use borrow.Author.Tests.{eqb-true, eqb-false, eq-eqb, ne_eqb}
use Rattle.rules.specs.Limits.{max_numbers, max_vertices}
use Rattle.rules.specs.Across.{Across}
use Rattle.rules.specs.Across.{Found, Nothing}
use Rattle.mesh_theory.specs.Chains.Corner.{corner_after, corner_before, latest, degree, seen_from}
use Rattle.mesh_theory.specs.Chains.Linked.{Chains, Newest, Older, CountsFrom}

-- the last corner below n that the directed edge x→y leaves
unfoldable pub last_with : ℕ → ℕ → List ℕ → ℕ → Across
last_with x y xs zero = Nothing
last_with x y xs (suc c) =
    elim (eqb (get_or xs c 0) x && eqb (get_or xs (corner_after c) 0) y) [ true ↦ seen_from xs c | false ↦ last_with x y xs c ]

-- what the last corner below suc c is, by whether corner c has the vertex
pub latest_here : (v : ℕ) (xs : List ℕ) (c : ℕ) → get_or xs c 0 ≡ v → latest v xs (suc c) ≡ suc c
unfolding latest
latest_here v xs c e = rw (latest, eq-eqb (get_or xs c 0) v e)

pub latest_other : (v : ℕ) (xs : List ℕ) (c : ℕ) → (get_or xs c 0 ≡ v → ⊥) → latest v xs (suc c) ≡ latest v xs c
unfolding latest
latest_other v xs c h = rw (latest, ne_eqb (get_or xs c 0) v h)

pub latest_below : (v : ℕ) (xs : List ℕ) (n : ℕ) → latest v xs n ≤ n
unfolding latest
latest_below v xs zero = omega arith
latest_below v xs (suc c) = go (eqb (get_or xs c 0) v) refl (latest_below v xs c)
  where
    go : (b : Bool) → eqb (get_or xs c 0) v ≡ b → latest v xs c ≤ c → latest v xs (suc c) ≤ suc c
    go true e h = rw (latest, e) (omega arith)
    go false e h = rw (latest, e) (omega arith)

-- the corner itself has the vertex
pub latest_has : (v : ℕ) (xs : List ℕ) (n c : ℕ) → latest v xs n ≡ suc c → get_or xs c 0 ≡ v
unfolding latest
latest_has v xs zero c h = absurd (omega arith)
latest_has v xs (suc m) c h = go (eqb (get_or xs m 0) v) refl (latest_has v xs m c)
  where
    go : (b : Bool) → eqb (get_or xs m 0) v ≡ b → (latest v xs m ≡ suc c → get_or xs c 0 ≡ v) → get_or xs c 0 ≡ v
    go true e i =
        let k : suc m ≡ suc c = rw (latest, e) at h in
        let k' : c ≡ m = omega arith in
        rw k' (eqb-true (get_or xs m 0) v e)
    go false e i = i (rw (latest, e) at h)

-- no corner between has it: what is found from the latest corner on is what is found from n on
with_other : (x y : ℕ) (xs : List ℕ) (c : ℕ) → eqb (get_or xs c 0) x ≡ false → last_with x y xs (suc c) ≡ last_with x y xs c
unfolding last_with
with_other x y xs c e = rw (last_with, e)

latest_with : (x y : ℕ) (xs : List ℕ) (n : ℕ) → last_with x y xs (latest x xs n) ≡ last_with x y xs n
unfolding latest
latest_with x y xs zero = refl
latest_with x y xs (suc c) = go (eqb (get_or xs c 0) x) refl (latest_with x y xs c)
  where
    go : (b : Bool) → eqb (get_or xs c 0) x ≡ b → last_with x y xs (latest x xs c) ≡ last_with x y xs c
        → last_with x y xs (latest x xs (suc c)) ≡ last_with x y xs (suc c)
    go true e i = rw (latest, e)
    go false e i = rw (latest, e) (i ∙ sym (with_other x y xs c e))

pub latest_degree : (v : ℕ) (xs : List ℕ) (n : ℕ) → degree v xs (latest v xs n) ≡ degree v xs n
unfolding latest degree
latest_degree v xs zero = refl
latest_degree v xs (suc c) = go (eqb (get_or xs c 0) v) refl (latest_degree v xs c)
  where
    go : (b : Bool) → eqb (get_or xs c 0) v ≡ b → degree v xs (latest v xs c) ≡ degree v xs c
        → degree v xs (latest v xs (suc c)) ≡ degree v xs (suc c)
    go true e i = rw (latest, e)
    go false e i = ap (degree v xs) (latest_other v xs c (eqb-false (get_or xs c 0) v e)) ∙ i ∙ rw (degree, e)

pub degree_here : (v : ℕ) (xs : List ℕ) (c : ℕ) → get_or xs c 0 ≡ v → degree v xs (suc c) ≡ suc (degree v xs c)
unfolding degree
degree_here v xs c e = rw (degree, eq-eqb (get_or xs c 0) v e)

pub degree_other : (v : ℕ) (xs : List ℕ) (c : ℕ) → (get_or xs c 0 ≡ v → ⊥) → degree v xs (suc c) ≡ degree v xs c
unfolding degree
degree_other v xs c h = rw (degree, ne_eqb (get_or xs c 0) v h)

pub degree_below : (v : ℕ) (xs : List ℕ) (n : ℕ) → degree v xs n ≤ n
unfolding degree
degree_below v xs zero = omega arith
degree_below v xs (suc c) = go (eqb (get_or xs c 0) v) refl (degree_below v xs c)
  where
    go : (b : Bool) → eqb (get_or xs c 0) v ≡ b → degree v xs c ≤ c → degree v xs (suc c) ≤ suc c
    go true e h = rw (degree, e) (omega arith)
    go false e h = rw (degree, e) (omega arith)

-- a vertex with no latest corner has none
pub latest_none : (v : ℕ) (xs : List ℕ) (n : ℕ) → latest v xs n ≡ 0 → degree v xs n ≡ 0
unfolding degree
latest_none v xs n e = sym (latest_degree v xs n) ∙ ap (degree v xs) e

pub latest_some : (v : ℕ) (xs : List ℕ) (n : ℕ) → 0 < latest v xs n → 0 < degree v xs n
latest_some v xs n h = go (latest v xs n) refl h
  where
    go : (k : ℕ) → latest v xs n ≡ k → 0 < k → 0 < degree v xs n
    go zero e l = absurd (omega arith)
    go (suc k) e l =
        let d : degree v xs n ≡ suc (degree v xs k) =
        sym (latest_degree v xs n) ∙ ap (degree v xs) e ∙ degree_here v xs k (latest_has v xs n k e) in
        omega arith

-- the corners of a triangle
pub seen_is : (xs : List ℕ) (c r : ℕ) → r ≡ corner_before c → Found (c / 3) (r % 3) (get_or xs r 0) ≡ seen_from xs c
unfolding seen_from
seen_is xs c r e = rw e

pub after_first : (n : ℕ) → corner_after (3 * n) ≡ 3 * n + 1
unfolding corner_after
after_first n = rw (corner_after, ne_eqb (3 * n % 3) 2 (omega arith))

pub after_second : (n : ℕ) → corner_after (3 * n + 1) ≡ 3 * n + 2
unfolding corner_after
after_second n = rw (corner_after, ne_eqb ((3 * n + 1) % 3) 2 (omega arith)) (omega arith)

pub after_third : (n : ℕ) → corner_after (3 * n + 2) ≡ 3 * n
unfolding corner_after
after_third n = rw (corner_after, eq-eqb ((3 * n + 2) % 3) 2 (omega arith)) (omega arith)

pub before_first : (n : ℕ) → corner_before (3 * n) ≡ 3 * n + 2
unfolding corner_before
before_first n = rw (corner_before, eq-eqb (3 * n % 3) 0 (omega arith))

pub before_second : (n : ℕ) → corner_before (3 * n + 1) ≡ 3 * n
unfolding corner_before
before_second n = rw (corner_before, ne_eqb ((3 * n + 1) % 3) 0 (omega arith)) (omega arith)

pub before_third : (n : ℕ) → corner_before (3 * n + 2) ≡ 3 * n + 1
unfolding corner_before
before_third n = rw (corner_before, ne_eqb ((3 * n + 2) % 3) 0 (omega arith)) (omega arith)

-- the walk for x→y down the chain of x stands at c: corner c - 1 has x, and what is found from c on is what is found from n on
pub record At (xs : List ℕ) (n x y c : ℕ) : Type 0 where
  pub bound : c ≤ n
  pub has : 0 < c → get_or xs (c - 1) 0 ≡ x
  pub same : last_with x y xs c ≡ last_with x y xs n

before : (c : ℕ) → suc c - 1 ≡ c
before c = omega arith

pub at_latest : (xs : List ℕ) (m n x y : ℕ) → m ≤ n → last_with x y xs m ≡ last_with x y xs n → At xs n x y (latest x xs m)
at_latest xs m n x y l e = record {
  bound = omega (arith, latest_below x xs m);
  has = go (latest x xs m) refl;
  same = latest_with x y xs m ∙ e;
}
  where
    go : (k : ℕ) → latest x xs m ≡ k → 0 < k → get_or xs (k - 1) 0 ≡ x
    go zero q h = absurd (omega arith)
    go (suc k) q h = rw (before k) (latest_has x xs m k q)

pub at_found : {xs : List ℕ} {n x y : ℕ} (c : ℕ) → At xs n x y c → 0 < c → get_or xs (corner_after (c - 1)) 0 ≡ y
    → seen_from xs (c - 1) ≡ last_with x y xs n
unfolding last_with
at_found {xs} {n} {x} {y} zero a h e = absurd (omega arith)
at_found {xs} {n} {x} {y} (suc c) a h e =
    let i : get_or xs c 0 ≡ x = rw (before c) at (a.has h) in
    let j : get_or xs (corner_after c) 0 ≡ y = rw (before c) at e in
    rw (before c) (sym (rw (last_with, eq-eqb (get_or xs c 0) x i, eq-eqb (get_or xs (corner_after c) 0) y j)) ∙ a.same)

pub at_more : {xs : List ℕ} {n x y : ℕ} (c d : ℕ) → At xs n x y c → 0 < c → (get_or xs (corner_after (c - 1)) 0 ≡ y → ⊥)
    → d ≡ latest (get_or xs (c - 1) 0) xs (c - 1) → At xs n x y d
unfolding last_with
at_more {xs} {n} {x} {y} zero d a h e f = absurd (omega arith)
at_more {xs} {n} {x} {y} (suc c) d a h e f =
    let i : get_or xs c 0 ≡ x = rw (before c) at (a.has h) in
    let e' : get_or xs (corner_after c) 0 ≡ y → ⊥ = rw (before c) at e in
    let f' : d ≡ latest (get_or xs c 0) xs c = rw (before c) at f in
    let s : last_with x y xs (suc c) ≡ last_with x y xs c =
    rw (last_with, eq-eqb (get_or xs c 0) x i, ne_eqb (get_or xs (corner_after c) 0) y e') in
    rw (f', i) (at_latest xs c n x y (omega (arith, a.bound)) (sym s ∙ a.same))

pub at_none : {xs : List ℕ} {n x y : ℕ} (c : ℕ) → At xs n x y c → c ≤ 0 → Nothing ≡ last_with x y xs n
unfolding last_with
at_none {xs} {n} {x} {y} zero a h = a.same
at_none {xs} {n} {x} {y} (suc c) a h = absurd (omega arith)

-- where a chain begins: in an array that holds chains, an entry that the tests pass over cannot stand
pub latest_out : (v : ℕ) (xs : List ℕ) (n : ℕ) → ((c : ℕ) → c < n → get_or xs c 0 < max_vertices) → max_vertices ≤ v
    → latest v xs n ≡ 0
unfolding latest
latest_out v xs zero b h = refl
latest_out v xs (suc n) b h =
    latest_other v xs n (λ e. omega (arith, b n (omega arith))) ∙ latest_out v xs n (λ c l. b c (omega arith)) h

module _ (xs cs : List ℕ) (v : ℕ) where
  zero_whole : 3 * ((0 + 2) / 3) ≤ length xs
  zero_whole = omega arith

  pub newest_out : max_vertices ≤ v → Newest xs cs v 0
  newest_out h = record { most = omega arith; whole = zero_whole; newest = λ n k. sym (latest_out v xs (3 * n) k.below h) }

  pub newest_over : (r : ℕ) → r ≡ get_or cs v 0 → v < max_vertices → max_numbers < r → Newest xs cs v 0
  newest_over r e l h = record {
    most = omega arith;
    whole = zero_whole;
    newest = λ n k. absurd (omega (arith, k.heads v l, latest_below v xs (3 * n), k.most));
  }

  pub newest_short : (r : ℕ) → r ≡ get_or cs v 0 → v < max_vertices → length xs < (r + 2) / 3 * 3 → Newest xs cs v 0
  newest_short r e l h = record {
    most = omega arith;
    whole = zero_whole;
    newest = λ n k. absurd (omega (arith, k.heads v l, latest_below v xs (3 * n), k.within));
  }

  pub newest_here : (r : ℕ) → r ≡ get_or cs v 0 → v < max_vertices → r ≤ max_numbers → (r + 2) / 3 * 3 ≤ length xs → Newest xs cs v r
  newest_here r e l m h = record { most = m; whole = omega arith; newest = λ n k. e ∙ k.heads v l }

module _ (cs : List ℕ) (c r : ℕ) (is : r ≡ get_or cs (max_vertices + c) 0) where
  pub older_over : c < r → Older cs c 0
  older_over h = record {
    less = omega arith;
    older = λ xs n k l. absurd (omega (arith, k.links c l, latest_below (get_or xs c 0) xs c));
  }

  pub older_here : r ≤ c → Older cs c r
  older_here h = record { less = h; older = λ xs n k l. is ∙ k.links c l }

-- the number of corners passed on the way down a chain
pub record Passed (xs : List ℕ) (n v k c : ℕ) : Type 0 where
  pub bound : c ≤ n
  pub has : 0 < c → get_or xs (c - 1) 0 ≡ v
  pub sum : k + degree v xs c ≡ degree v xs n

pub passed_latest : (xs : List ℕ) (m n v k : ℕ) → m ≤ n → k + degree v xs m ≡ degree v xs n → Passed xs n v k (latest v xs m)
passed_latest xs m n v k l e =
    let a = at_latest xs m m v 0 (omega arith) refl in
    record {
      bound = omega (arith, a.bound);
      has = a.has;
      sum = ap (λ (i : ℕ). k + i) (latest_degree v xs m) ∙ e;
    }

pub passed_more : {xs : List ℕ} {n v k : ℕ} (c d : ℕ) → Passed xs n v k c → 0 < c → d ≡ latest (get_or xs (c - 1) 0) xs (c - 1)
    → Passed xs n v (k + 1) d
passed_more zero d a h f = absurd (omega arith)
passed_more {xs} {n} {v} {k} (suc c) d a h f =
    let i : get_or xs c 0 ≡ v = rw (before c) at (a.has h) in
    let f' : d ≡ latest (get_or xs c 0) xs c = rw (before c) at f in
    rw (f', i) (passed_latest xs c n v (k + 1) (omega (arith, a.bound)) (omega (arith, a.sum, degree_here v xs c i)))

pub passed_all : {xs : List ℕ} {n v k : ℕ} (c : ℕ) → Passed xs n v k c → c ≤ 0 → k ≡ degree v xs n
unfolding degree
passed_all {xs} {n} {v} {k} zero a h = omega (arith, a.sum)
passed_all (suc c) a h = absurd (omega arith)

-- the count along a chain that begins at the entry c, whatever list and vertex it is of
abbrev pub Counting : List ℕ → ℕ → ℕ → ℕ → Type 0
Counting cs c k d = (xs : List ℕ) (v n : ℕ) → Chains xs n cs → c ≡ latest v xs n → Passed xs n v k d

module _ {cs : List ℕ} {c : ℕ} where
  pub counting_start : Counting cs c 0 c
  counting_start xs v n k e = subst (Passed xs n v 0) (sym e) (passed_latest xs n n v 0 (omega arith) (omega arith))

  pub counting_more : (k d e : ℕ) → Counting cs c k d → 0 < d → Older cs (d - 1) e → Counting cs c (k + 1) e
  counting_more k d e w l o xs v n h q =
      let a = w xs v n h q in
      passed_more d e a l (o.older xs n h (omega (arith, a.bound)))

  pub counting_all : (k d : ℕ) → Counting cs c k d → d ≤ 0 → CountsFrom cs c k
  counting_all k d w l xs v n h q = passed_all d (w xs v n h q) l
