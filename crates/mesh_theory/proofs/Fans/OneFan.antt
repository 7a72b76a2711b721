-- The fans of the rules and the test that computes are the same; and what one fan tells of the border.
-- Assumes nothing.
use Prim.Native.Nat.{ℕ, zero, suc, ◌+◌, ◌≤◌, ◌<◌}
use native.Mathlib.Omega.{arith}
use mathlib.Core.Bool.{Bool, true, false, false≢true}
use mathlib.Core.List.{List, [], ◌∷◌}
use mathlib.Core.Logic.{◌↔◌}
use mathlib.Core.Path.{◌≡◌, refl, sym, ◌∙◌}
use lib.ListN.{length}
use Rattle.rules.specs.declared.Triangle.{Triangle}
use Rattle.rules.specs.Triangle.{Edge, edges_of}
use Rattle.rules.specs.Count.{same, count, uses}
use Rattle.rules.specs.Fan.{about, OneFan, turn_on, turn_back, is_nil, one_run, one_fan_each}
use Rattle.rules.specs.Check.{all_distinct, none_twice}
use Rattle.mesh_theory.specs.Fans.Ways.{Chained}
use Rattle.mesh_theory.proofs.Fans.Counting.{below_suc, apart_same}
use Rattle.mesh_theory.proofs.Fans.OneRun.{chain_degree, chain_run, run_chained, chained_count, run_passes}
use Rattle.mesh_theory.proofs.Fans.About.{about_edges, about_apart}
use Rattle.counting.proofs.Counts.{same_is}

-- this half holds for any list
pub run_fan : (v : ℕ) (ts : List Triangle) → one_run (about v ts) ≡ true → OneFan v ts
run_fan v ts h =
    let c = run_chained (about v ts) h in
    record {
      run = c.path;
      each = chained_count (about v ts) c;
      shared = chain_run c.start c.finish c.path c.chain;
    }

module _ (ts : List Triangle) (distinct : all_distinct ts ≡ true) (once : none_twice (edges_of ts) ≡ true) where
  -- the test passes in whatever order the triangles about v stand
  pub any_order : (v : ℕ) → OneFan v ts → (ds : List Edge) → ((x y : ℕ) → count x y ds ≡ count x y (about v ts)) → one_run ds ≡ true
  any_order v f ds c =
      run_passes ds f.run (apart_same (about v ts) ds c (about_apart v ts distinct once)) f.shared
      (λ x y. (λ h. omega (arith, f.each x y, c x y), λ h. omega (arith, f.each x y, c x y)))

  -- the test at a vertex passes exactly if the triangles about it form one fan
  pub one_fan : (v : ℕ) → (one_run (about v ts) ≡ true) ↔ OneFan v ts
  one_fan v = (run_fan v ts, λ f. any_order v f (about v ts) (λ x y. refl))

  -- the test of 7 passes exactly if each vertex has one fan
  pub one_fan_each_lem : (n : ℕ) → (one_fan_each n ts ≡ true) ↔ ((v : ℕ) → v < n → OneFan v ts)
  unfolding one_fan_each
  one_fan_each_lem n = (each n, all n)
    where
      both : (m : ℕ) → one_fan_each (suc m) ts ≡ true → (b : Bool) → one_run (about m ts) ≡ b
          → (b ≡ true) × (one_fan_each m ts ≡ true)
      both m h true e = (refl, rw (one_fan_each, e) at h)
      both m h false e = absurd (false≢true (rw (one_fan_each, e) at h))

      each : (m : ℕ) → one_fan_each m ts ≡ true → (v : ℕ) → v < m → OneFan v ts
      each zero h v l = absurd (omega arith)
      each (suc m) h v l =
          let k = both m h (one_run (about m ts)) refl in
          below_suc (λ (x : ℕ). OneFan x ts) m v l (run_fan m ts k.0) (each m k.1 v)

      all : (m : ℕ) → ((v : ℕ) → v < m → OneFan v ts) → one_fan_each m ts ≡ true
      all zero h = refl
      all (suc m) h = rw (one_fan_each, (one_fan m).1 (h m (omega arith))) (all m (λ v l. h v (omega arith)))

  -- the triangles about v as one chain, from triangle to triangle on over the edge that they share
  pub fan_chained : (v : ℕ) → OneFan v ts → Chained (about v ts)
  fan_chained v f = run_chained (about v ts) ((one_fan v).1 f)

  -- as many edges leave v for x as come from x, but for the chain's ends
  pub fan_degree : (v : ℕ) (f : OneFan v ts) (x : ℕ)
      → uses v x ts + same x (fan_chained v f).finish ≡ uses x v ts + same x (fan_chained v f).start
  fan_degree v f x =
      let c = fan_chained v f in
      let e = about_edges v x ts distinct in
      omega (
        arith,
        chain_degree x c.start c.finish c.path c.chain,
        c.sum (λ d. same x d.from),
        c.sum (λ d. same x d.to),
        e.0,
        e.1,
      )

  -- at most one border edge enters a vertex with one fan, from the chain's finish; at most one leaves it, to the chain's start
  border_in : (v : ℕ) (f : OneFan v ts) (x : ℕ) → 1 ≤ uses x v ts → uses v x ts ≡ 0 → x ≡ (fan_chained v f).finish
  border_in v f x h k = same_is x (fan_chained v f).finish (omega (arith, fan_degree v f x))

  border_out : (v : ℕ) (f : OneFan v ts) (x : ℕ) → 1 ≤ uses v x ts → uses x v ts ≡ 0 → x ≡ (fan_chained v f).start
  border_out v f x h k = same_is x (fan_chained v f).start (omega (arith, fan_degree v f x))

  pub one_border_in : (v : ℕ) → OneFan v ts → (x y : ℕ) → 1 ≤ uses x v ts → uses v x ts ≡ 0 → 1 ≤ uses y v ts → uses v y ts ≡ 0
      → x ≡ y
  one_border_in v f x y a b c d = border_in v f x a b ∙ sym (border_in v f y c d)

  pub one_border_out : (v : ℕ) → OneFan v ts → (x y : ℕ) → 1 ≤ uses v x ts → uses x v ts ≡ 0 → 1 ≤ uses v y ts → uses y v ts ≡ 0
      → x ≡ y
  one_border_out v f x y a b c d = border_out v f x a b ∙ sym (border_out v f y c d)

  -- from any triangle d about v turning one way and then the other leaves none of the others
  pub turning_reaches_all : (v : ℕ) → OneFan v ts → (d : Edge) (ds : List Edge)
      → ((x y : ℕ) → count x y (d ∷ ds) ≡ count x y (about v ts)) → turn_back (length ds) d.from (turn_on (length ds) d.to ds) ≡ []
  unfolding one_run
  turning_reaches_all v f d ds c = nil (turn_back (length ds) d.from (turn_on (length ds) d.to ds)) (any_order v f (d ∷ ds) c)
    where
      nil : (es : List Edge) → is_nil es ≡ true → es ≡ []
      nil [] h = refl
      nil (e ∷ es) h = absurd (false≢true h)
