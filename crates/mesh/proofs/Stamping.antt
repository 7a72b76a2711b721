-- Each directed edge that leaves a vertex stamps the vertex that it enters: a stamp of the vertex is met exactly if an edge leaves it
-- twice.
-- Assumes nothing.
use Prim.Native.Nat.{ℕ, zero, suc, ◌+◌, ◌*◌, ◌-◌, ◌/◌, ◌≤◌, ◌<◌}
use native.Mathlib.Omega.{arith}
use mathlib.Core.Bool.{Bool, true, false, true≢false}
use mathlib.Core.List.{List}
use mathlib.Core.Path.{◌≡◌, refl, sym, ap, ◌∙◌, subst}
use lib.ListN.{length, get_or, set, length-set, replicate, length-replicate}
use lib.Seq.{get_or-set_same, get_or-set_other}
use lib.Dec.{eqb, ltb}
use borrow.Author.Tests.{eqb-true, eqb-false, ltb-true, ltb-false}
use Rattle.rules.specs.declared.Triangle.{Triangle}
use Rattle.rules.specs.Limits.{max_vertices}
use Rattle.rules.specs.Triangle.{triangles_of, edges_of}
use Rattle.rules.specs.Count.{same, uses}
use Rattle.rules.specs.Check.{none_twice}
use Rattle.mesh_theory.specs.Fans.Passing.{PassesFour}
use Rattle.mesh_theory.specs.Chains.Corner.{corner_after, latest}
use Rattle.mesh_theory.specs.Chains.Linked.{Chains, Sound, Newest, Older}
use Rattle.mesh_theory.proofs.Fans.Tests.{none_twice_lem}
use Rattle.mesh_theory.proofs.Chains.Checking.{four_sound}
use Rattle.mesh_theory.proofs.Chains.Leaving.{out, out_uses, out_here, out_none, none_out, latest_leaves}
use Rattle.mesh_theory.proofs.Chains.Listing.{below_each}
use Rattle.mesh_theory.proofs.Chains.Prefix.{first_all}
use Rattle.mesh_theory.proofs.Chains.Walking.{at_latest}
use Rattle.counting.proofs.Counts.{same_yes, same_no, same_once}
use Rattle.mesh.specs.Stamps.{Stamped, LeavesOnce}
use Rattle.mesh.proofs.Zeros.{same_all}

-- the walk down the chain of v stands at c: each edge that was passed has stamped its end, and none was passed twice
pub record Stamping (xs : List ℕ) (n v : ℕ) (ss : List ℕ) (c : ℕ) : Type 0 where
  pub bound : c ≤ n
  pub has : 0 < c → get_or xs (c - 1) 0 ≡ v
  pub each : (y : ℕ) → out v y xs c + same (v + 1) (get_or ss y 0) ≡ out v y xs n
  pub stamps : Stamped ss (v + 1)

before : (c : ℕ) → suc c - 1 ≡ c
before c = omega arith

module _ (xs : List ℕ) (n v : ℕ) where
  at_corner : (ss : List ℕ) (m : ℕ) → m ≤ n → ((y : ℕ) → out v y xs m + same (v + 1) (get_or ss y 0) ≡ out v y xs n)
      → Stamped ss (v + 1)
      → Stamping xs n v ss (latest v xs m)
  at_corner ss m l e s =
      let a = at_latest xs m m v 0 (omega arith) refl in
      record {
        bound = omega (arith, a.bound);
        has = a.has;
        each = λ y. ap (λ (i : ℕ). i + same (v + 1) (get_or ss y 0)) (latest_leaves v y xs m) ∙ e y;
        stamps = s;
      }

  starts : (ss : List ℕ) → Stamped ss v → Stamping xs n v ss (latest v xs n)
  starts ss s =
      at_corner ss n (omega arith)
      (λ y. omega (arith, same_no (v + 1) (get_or ss y 0) (λ e. omega (arith, s.most y))))
      (record { long = s.long; most = λ y. omega (arith, s.most y) })

  -- one corner more, whose edge ends at y
  module _ (c y : ℕ) (ss : List ℕ) (going : Stamping xs n v ss (suc c)) (is : get_or xs (corner_after c) 0 ≡ y) where
    passes : (z : ℕ) → out v z xs (suc c) ≡ same z y + out v z xs c
    passes z =
        let i : get_or xs c 0 ≡ v = rw (before c) at (going.has (omega arith)) in
        out_here v z xs c i ∙ ap (λ (k : ℕ). same z k + out v z xs c) is

    stamped : y < max_vertices → Stamped (set ss y (v + 1)) (v + 1)
    stamped l = record {
      long = length-set ss y (v + 1) ∙ going.stamps.long;
      most = λ z. go z (eqb z y) refl;
    }
      where
        go : (z : ℕ) (b : Bool) → eqb z y ≡ b → get_or (set ss y (v + 1)) z 0 ≤ v + 1
        go z true e =
            let k = eqb-true z y e in
            omega (
              arith,
              ap (λ (i : ℕ). get_or (set ss y (v + 1)) i 0) k,
              get_or-set_same ss y (v + 1) 0
                  (omega (arith, going.stamps.long)),
            )
        go z false e = omega (arith, get_or-set_other ss y z (v + 1) 0 (eqb-false z y e), going.stamps.most z)

    once_more : y < max_vertices → (get_or ss y 0 ≡ v + 1 → ⊥) → (z : ℕ)
        → out v z xs c + same (v + 1) (get_or (set ss y (v + 1)) z 0) ≡ out v z xs n
    once_more l new z = go (eqb z y) refl
      where
        go : (b : Bool) → eqb z y ≡ b → out v z xs c + same (v + 1) (get_or (set ss y (v + 1)) z 0) ≡ out v z xs n
        go true e =
            let k = eqb-true z y e in
            let stamp = get_or-set_same ss y (v + 1) 0 (omega (arith, going.stamps.long)) in
            subst (λ (i : ℕ). out v i xs c + same (v + 1) (get_or (set ss y (v + 1)) i 0) ≡ out v i xs n) (sym k)
            (omega (
              arith,
              passes y,
              same_yes y,
              ap (same (v + 1)) stamp,
              same_yes (v + 1),
              same_no (v + 1) (get_or ss y 0) (λ q. new (sym q)),
              going.each y,
            ))
        go false e =
            let k = eqb-false z y e in
            omega (
              arith,
              passes z,
              same_no z y k,
              ap (same (v + 1)) (get_or-set_other ss y z (v + 1) 0 k),
              going.each z,
            )

    goes_on : y < max_vertices → (get_or ss y 0 ≡ v + 1 → ⊥) → Stamping xs n v (set ss y (v + 1)) (latest v xs c)
    goes_on l new = at_corner (set ss y (v + 1)) c (omega (arith, going.bound)) (once_more l new) (stamped l)

    met_twice : get_or ss y 0 ≡ v + 1 → 2 ≤ out v y xs n
    met_twice old = omega (arith, passes y, same_yes y, ap (same (v + 1)) old, same_yes (v + 1), going.each y)

-- the same in the words of the loop, over the chains of a whole list
module _ {xs cs : List ℕ} (sound : Sound xs) (chains : Chains xs (length xs) cs) (v : ℕ) where
  abbrev m : ℕ
  m = 3 * (length xs / 3)

  whole : Chains xs (3 * (length xs / 3)) cs
  whole = subst (λ (n : ℕ). Chains xs n cs) sound.long chains

  leaves : (x y : ℕ) → out x y xs m ≡ uses x y (triangles_of xs)
  leaves x y =
      out_uses x y xs (length xs / 3) whole.within ∙ ap (λ (ts : List Triangle). uses x y ts)
      (first_all (length xs / 3) xs sound.long)

  pub stamping_start : (c : ℕ) → Newest xs cs v c → (ss : List ℕ) → Stamped ss v → Stamping xs (3 * (length xs / 3)) v ss c
  stamping_start c h ss s = subst (Stamping xs m v ss) (sym (h.newest (length xs / 3) whole)) (starts xs m v ss s)

  pub stamping_more : (c k d : ℕ) (ss : List ℕ) → Stamping xs (3 * (length xs / 3)) v ss c → 0 < c → k ≡ corner_after (c - 1)
      → k < length xs → (get_or ss (get_or xs k 0) 0 ≡ v + 1 → ⊥) → Older cs (c - 1) d
      → Stamping xs (3 * (length xs / 3)) v (set ss (get_or xs k 0) (v + 1)) d
  stamping_more zero k d ss s h e l new o = absurd (omega arith)
  stamping_more (suc c) k d ss s h e l new o =
      let y = get_or xs k 0 in
      let b = before c in
      let e' : k ≡ corner_after c = e ∙ ap corner_after b in
      let i : get_or xs c 0 ≡ v = rw b at (s.has h) in
      let d-is : d ≡ latest v xs c =
      (subst (λ (j : ℕ). Older cs j d) b o).older xs m whole (omega (arith, s.bound)) ∙ ap (λ (u : ℕ). latest u xs c) i in
      subst (Stamping xs m v (set ss y (v + 1))) (sym d-is)
      (goes_on xs m v c y ss s (ap (λ (j : ℕ). get_or xs j 0) (sym e')) (sound.below k l) new)

  pub stamping_twice : (c k : ℕ) (ss : List ℕ) → Stamping xs (3 * (length xs / 3)) v ss c → 0 < c → k ≡ corner_after (c - 1)
      → get_or ss (get_or xs k 0) 0 ≡ v + 1 → LeavesOnce xs v false ss
  stamping_twice zero k ss s h e old = absurd (omega arith)
  stamping_twice (suc c) k ss s h e old =
      let y = get_or xs k 0 in
      let e' : k ≡ corner_after c = e ∙ ap corner_after (before c) in
      record {
        once = λ q. absurd (true≢false (sym q));
        twice = λ q. go y (met_twice xs m v c y ss s (ap (λ (j : ℕ). get_or xs j 0) (sym e')) old) (none_twice (edges_of (triangles_of xs)))
            refl;
        stamps = s.stamps;
      }
    where
      go : (y : ℕ) → 2 ≤ out v y xs m → (b : Bool) → none_twice (edges_of (triangles_of xs)) ≡ b
          → none_twice (edges_of (triangles_of xs)) ≡ false
      go y two true q = absurd (omega (arith, two, leaves v y, (none_twice_lem (edges_of (triangles_of xs))).0 q v y))
      go y two false q = q

  pub stamping_all : (c : ℕ) (ss : List ℕ) → Stamping xs (3 * (length xs / 3)) v ss c → c ≤ 0 → LeavesOnce xs v true ss
  stamping_all zero ss s h = record {
    once = λ q y. omega (arith, none_out v y xs, s.each y, same_once (v + 1) (get_or ss y 0), leaves v y);
    twice = λ q. absurd (true≢false q);
    stamps = s.stamps;
  }
  stamping_all (suc c) ss s h = absurd (omega arith)

-- vertex after vertex: no directed edge leaves one below u twice
abbrev pub OnceBelow : List ℕ → ℕ → Type 0
OnceBelow xs u = (x y : ℕ) → x < u → uses x y (triangles_of xs) ≤ 1

pub once_below : (xs : List ℕ) → OnceBelow xs 0
once_below xs x y l = absurd (omega arith)

-- a vertex that is not below v has no corner
pub once_all : {xs cs : List ℕ} (v u : ℕ) → PassesFour v xs → Chains xs (length xs) cs → OnceBelow xs u → v ≤ u
    → true ≡ none_twice (edges_of (triangles_of xs))
once_all {xs} {cs} v u p k o l = sym ((none_twice_lem (edges_of (triangles_of xs))).1 (λ x y. go x y (ltb x u) refl))
  where
    go : (x y : ℕ) (b : Bool) → ltb x u ≡ b → uses x y (triangles_of xs) ≤ 1
    go x y true e = o x y (ltb-true x u e)
    go x y false e =
        let s = four_sound p in
        let h = ltb-false x u e in
        let none = out_none x y xs (length xs) (λ c i q. omega (arith, below_each v xs p.below c i)) in
        omega (arith, none, ap (out x y xs) s.long, leaves s k x x y)

-- stamps of zeros are of no vertex
pub zeros_stamped : (n : ℕ) → n ≡ max_vertices → Stamped (replicate n 0) 0
zeros_stamped n l = record { long = length-replicate n 0 ∙ l; most = λ y. omega (arith, same_all n y 0) }
