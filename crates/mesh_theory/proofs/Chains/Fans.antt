-- The test of 7 by turning: from any triangle about a vertex, none is left exactly if its triangles form one fan.
-- Assumes nothing.
use Prim.Native.Nat.{ℕ, zero, suc, ◌+◌, ◌*◌, ◌-◌, ◌≤◌, ◌<◌, ◌/◌}
use native.Mathlib.Omega.{arith}
use native.Mathlib.Nat.{le_refl}
use mathlib.Core.Bool.{Bool, true, false, not}
use mathlib.Core.List.{List, [], ◌∷◌, ◌++◌}
use mathlib.Core.Path.{◌≡◌, refl, sym, ap, ◌∙◌, subst}
use lib.ListN.{length, get_or}
use lib.Dec.{eqb, ltb}
use borrow.Author.Tests.{eqb-true, eqb-false, eq-eqb, ne_eqb, ltb-true, ltb-false, not-true, not-false}
use Rattle.rules.specs.declared.Triangle.{Triangle}
use Rattle.rules.specs.Across.{Found, Nothing}
use Rattle.rules.specs.Limits.{max_vertices}
use Rattle.rules.specs.Triangle.{Edge, edge, edges_of, corners, triangles_of, at_p, at_q, at_r, In, here, there}
use Rattle.rules.specs.Count.{hit, occurs, count}
use Rattle.rules.specs.Across.{across}
use Rattle.rules.specs.Check.{all_distinct, none_twice, all_used}
use Rattle.rules.specs.Fan.{about, turn_on, turn_back, is_nil, one_run, one_fan_each, OneFan}
use Rattle.mesh_theory.specs.Fans.Ways.{total}
use Rattle.mesh_theory.proofs.Fans.Counting.{length_total, hits, count_total}
use Rattle.mesh_theory.proofs.Fans.OneRun.{chain_run, run_chained}
use Rattle.mesh_theory.proofs.Fans.OneFan.{run_fan, any_order, one_fan}
use Rattle.mesh_theory.proofs.Fans.About.{in_about}
use Rattle.mesh_theory.proofs.Fans.Finding.{in_append}
use Rattle.mesh_theory.specs.Chains.Corner.{corner_after, corner_before, first_triangles, triangle_at, latest, degree}
use Rattle.mesh_theory.specs.Chains.Linked.{Linked, Newest, CountsFrom}
use Rattle.mesh_theory.specs.Chains.Turn.{left_back, left_on}
use Rattle.mesh_theory.proofs.Chains.Prefix.{first_more}
use Rattle.mesh_theory.proofs.Chains.Finding.{linked_first}
use Rattle.mesh_theory.proofs.Chains.Walking.{after_first, after_second, after_third, before_first, before_second, before_third}
use Rattle.mesh_theory.proofs.Chains.Walking.{latest_has, latest_below, latest_none, latest_some}
use Rattle.mesh_theory.proofs.Chains.Used.{occurs_degree, used_none, used_here, used_not}
use Rattle.mesh_theory.proofs.Chains.Turning.{Way, on, about_length}
use Rattle.counting.proofs.Counts.{same_yes, hit_is}

-- an edge that is there can be taken out
taken_out : (x y : ℕ) (ds : List Edge) → 1 ≤ count x y ds
    → (es : List Edge) × ((w : Edge → ℕ) → total w ds ≡ w (edge x y) + total w es)
unfolding total count
taken_out x y [] h = absurd (omega arith)
taken_out x y (d ∷ ds) h = go (hit x y d.from d.to) refl (taken_out x y ds)
  where
    go : (n : ℕ) → hit x y d.from d.to ≡ n
        → (1 ≤ count x y ds → (es : List Edge) × ((w : Edge → ℕ) → total w ds ≡ w (edge x y) + total w es))
        → (es : List Edge) × ((w : Edge → ℕ) → w d + total w ds ≡ w (edge x y) + total w es)
    go zero e k = let t = k (omega arith) in (d ∷ t.0, λ w. omega (arith, t.1 w))
    go (suc n) e k = let q = hit_is x y d.from d.to (omega arith) in (ds, λ w. rw (q.0, q.1))

nil_length : (ds : List Edge) → eqb (length ds) 0 ≡ is_nil ds
nil_length [] = refl
nil_length (d ∷ ds) = ne_eqb (suc (length ds)) 0 (omega arith)

module _ (v : ℕ) (ts : List Triangle) (distinct : all_distinct ts ≡ true) (once : none_twice (edges_of ts) ≡ true) where
  -- the order of the triangles does not matter
  any_run : (ds : List Edge) → ((w : Edge → ℕ) → total w (about v ts) ≡ total w ds) → one_run ds ≡ one_run (about v ts)
  any_run ds sum = go (one_run (about v ts)) refl (one_run ds) refl
    where
      counts : (x y : ℕ) → count x y ds ≡ count x y (about v ts)
      counts x y = omega (arith, sum (hits x y), count_total x y ds, count_total x y (about v ts))

      fan : one_run ds ≡ true → OneFan v ts
      fan h =
          let c = run_chained ds h in
          record {
            run = c.path;
            each = λ x y. omega (arith, c.sum (hits x y), count_total x y c.path, count_total x y ds, counts x y);
            shared = chain_run c.start c.finish c.path c.chain;
          }

      go : (a : Bool) → one_run (about v ts) ≡ a → (b : Bool) → one_run ds ≡ b → one_run ds ≡ one_run (about v ts)
      go true e b f = any_order ts distinct once v (run_fan v ts e) ds counts ∙ sym e
      go false e true f = f ∙ sym ((one_fan ts distinct once v).1 (fan f))
      go false e false f = f ∙ sym e

  run_left : (x y : ℕ) → In v x y ts → eqb (left_on ts v x y (length (about v ts) - 1)) 0 ≡ one_run (about v ts)
  unfolding one_run total
  run_left x y i =
      let t = taken_out x y (about v ts) (in_about ts distinct i) in
      let es = t.0 in
      let n-is : length (about v ts) - 1 ≡ length es = omega (arith, t.1 (λ d. 1), length_total (about v ts), length_total es) in
      let way : Way (about v ts) x y (edge x y ∷ []) es =
      record {
        degrees = λ u. omega arith;
        sum = λ w. omega (arith, t.1 w);
        leaves = omega (arith, same_yes x);
        enters = omega (arith, same_yes y);
      } in
      ap (λ (n : ℕ). eqb (left_on ts v x y n) 0) n-is
      ∙ ap (λ (n : ℕ). eqb n 0)
      (on v ts distinct once (length es) (length es) x y (edge x y ∷ []) es way refl (le_refl (length es)))
      ∙ nil_length (turn_back (length es) x (turn_on (length es) y es)) ∙ any_run (edge x y ∷ es) t.1

-- the triangle of a corner is in the list
in_left : {x y z : ℕ} {ts : List Triangle} (us : List Triangle) → In x y z ts → In x y z (ts ++ us)
in_left us (here r) = here r
in_left us (there i) = there (in_left us i)

abbrev Seen : List ℕ → ℕ → List Triangle → Type 0
Seen xs c ts = In (get_or xs c 0) (get_or xs (corner_after c) 0) (get_or xs (corner_before c) 0) ts

corner_last : (xs : List ℕ) (n c : ℕ) → 3 * n ≤ c → c < 3 * n + 3 → Seen xs c (triangle_at xs n ∷ [])
corner_last xs n c l h = go (eqb c (3 * n)) refl (eqb c (3 * n + 1)) refl
  where
    go : (a : Bool) → eqb c (3 * n) ≡ a → (b : Bool) → eqb c (3 * n + 1) ≡ b → Seen xs c (triangle_at xs n ∷ [])
    go true e b f =
        let k : c ≡ 3 * n = eqb-true c (3 * n) e in
        rw (k, after_first n, before_first n) (here (at_p refl refl refl))
    go false e true f =
        let k : c ≡ 3 * n + 1 = eqb-true c (3 * n + 1) f in
        rw (k, after_second n, before_second n) (here (at_q refl refl refl))
    go false e false f =
        let e' = eqb-false c (3 * n) e in
        let f' = eqb-false c (3 * n + 1) f in
        let k : c ≡ 3 * n + 2 = omega arith in
        rw (k, after_third n, before_third n) (here (at_r refl refl refl))

pub corner_in : (xs : List ℕ) (n c : ℕ) → 3 * n ≤ length xs → c < 3 * n → Seen xs c (first_triangles n xs)
corner_in xs zero c l h = absurd (omega arith)
corner_in xs (suc n) c l h =
    subst (Seen xs c) (sym (first_more n xs (omega arith))) (go (ltb c (3 * n)) refl (corner_in xs n c (omega arith)))
  where
    go : (b : Bool) → ltb c (3 * n) ≡ b → (c < 3 * n → Seen xs c (first_triangles n xs))
        → Seen xs c (first_triangles n xs ++ (triangle_at xs n ∷ []))
    go true e i = in_left (triangle_at xs n ∷ []) (i (ltb-true c (3 * n) e))
    go false e i = in_append (first_triangles n xs) (corner_last xs n c (ltb-false c (3 * n) e) (omega arith))

-- the chains of a whole list
module _ (xs cs : List ℕ) (linked : Linked xs cs) where
  pub all_degree : (v : ℕ) → degree v xs (3 * (length xs / 3)) ≡ length (about v (triangles_of xs))
  all_degree v =
      sym (occurs_degree v (length xs / 3) xs linked.chains.within) ∙ ap (λ (ts : List Triangle). occurs v (corners ts))
      (linked_first xs cs linked)
      ∙ sym (about_length v (triangles_of xs) linked.sound.distinct)

  before : (c : ℕ) → suc c - 1 ≡ c
  before c = omega arith

  -- corner c - 1 is the latest of v, and d corners have v
  corner_of : (v c : ℕ) → 0 < c → c ≡ latest v xs (3 * (length xs / 3))
      → In v (get_or xs (corner_after (c - 1)) 0) (get_or xs (corner_before (c - 1)) 0) (triangles_of xs)
  corner_of v zero h e = absurd (omega arith)
  corner_of v (suc c) h e =
      let m = 3 * (length xs / 3) in
      let i = corner_in xs (length xs / 3) c linked.chains.within (omega (arith, latest_below v xs m)) in
      rw (before c, ← linked_first xs cs linked)
      (subst (λ (u : ℕ). In u (get_or xs (corner_after c) 0) (get_or xs (corner_before c) 0) (first_triangles (length xs / 3) xs))
      (latest_has v xs m c (sym e)) i)

  pub fan_left : (v c d n : ℕ) → 0 < c → c ≡ latest v xs (3 * (length xs / 3)) → d ≡ degree v xs (3 * (length xs / 3))
      → n ≡ left_on (triangles_of xs) v (get_or xs (corner_after (c - 1)) 0) (get_or xs (corner_before (c - 1)) 0) (d - 1)
      → eqb n 0 ≡ one_run (about v (triangles_of xs))
  fan_left v c d n h e f g =
      let x = get_or xs (corner_after (c - 1)) 0 in
      let y = get_or xs (corner_before (c - 1)) 0 in
      ap (λ (k : ℕ). eqb k 0) (g ∙ ap (λ (k : ℕ). left_on (triangles_of xs) v x y (k - 1)) (f ∙ all_degree v))
      ∙ run_left v (triangles_of xs) linked.sound.distinct linked.once x y (corner_of v c h e)

  -- a vertex with an empty chain has no triangle about it
  pub fan_none : (v c : ℕ) → c ≡ 0 → c ≡ latest v xs (3 * (length xs / 3)) → true ≡ one_run (about v (triangles_of xs))
  unfolding one_run
  fan_none v c z e = go (about v (triangles_of xs)) (sym (all_degree v) ∙ latest_none v xs (3 * (length xs / 3)) (sym e ∙ z))
    where
      go : (ds : List Edge) → length ds ≡ 0 → true ≡ one_run ds
      go [] h = refl
      go (d ∷ ds) h = absurd (omega arith)

  -- the test of 6, from the highest vertex down
  pub head_some : (u : ℕ) → 0 < u → u ≤ max_vertices → (get_or cs (u - 1) 0 ≡ 0 → ⊥)
      → all_used (u - 1) (corners (triangles_of xs)) ≡ all_used u (corners (triangles_of xs))
  head_some u h l z =
      let k = linked.chains in
      subst (λ (ts : List Triangle). all_used (u - 1) (corners ts) ≡ all_used u (corners ts)) (linked_first xs cs linked)
      (used_here xs (length xs / 3) k.within u h (omega (arith, k.heads (u - 1) (omega arith))))

  pub head_none : (u : ℕ) → 0 < u → u ≤ max_vertices → get_or cs (u - 1) 0 ≡ 0 → false ≡ all_used u (corners (triangles_of xs))
  head_none u h l z =
      let k = linked.chains in
      subst (λ (ts : List Triangle). false ≡ all_used u (corners ts)) (linked_first xs cs linked)
      (used_not xs (length xs / 3) k.within u h (sym (k.heads (u - 1) (omega arith)) ∙ z))

  pub head_all : (u : ℕ) → u ≤ 0 → true ≡ all_used u (corners (triangles_of xs))
  head_all u h =
      subst (λ (ts : List Triangle). true ≡ all_used u (corners ts)) (linked_first xs cs linked)
      (sym (used_none xs (length xs / 3) linked.chains.within u h))

-- one look-up on, and one back
module _ (ts : List Triangle) (v x : ℕ) where
  one_left : (n : ℕ) → suc n - 1 ≡ n
  one_left n = omega arith

  pub on_none : (y n : ℕ) → n ≤ 0 → n ≡ left_on ts v x y n
  unfolding left_on
  on_none y zero h = refl
  on_none y (suc n) h = absurd (omega arith)

  pub on_stop : (y n : ℕ) → 0 < n → y ≡ x → n ≡ left_on ts v x y n
  unfolding left_on
  on_stop y zero h e = absurd (omega arith)
  on_stop y (suc n) h e = sym (rw (left_on, eq-eqb y x e))

  pub on_more : (y n i j z : ℕ) → 0 < n → (y ≡ x → ⊥) → across v y ts ≡ Found i j z → left_on ts v x z (n - 1) ≡ left_on ts v x y n
  unfolding left_on
  on_more y zero i j z h d e = absurd (omega arith)
  on_more y (suc n) i j z h d e = ap (left_on ts v x z) (one_left n) ∙ sym (rw (left_on, ne_eqb y x d, e))

  pub on_back : (y n r : ℕ) → 0 < n → (y ≡ x → ⊥) → across v y ts ≡ Nothing → r ≡ left_back ts v x n → r ≡ left_on ts v x y n
  unfolding left_on
  on_back y zero r h d e k = absurd (omega arith)
  on_back y (suc n) r h d e k = k ∙ sym (rw (left_on, ne_eqb y x d, e))

  pub back_none : (n : ℕ) → n ≤ 0 → n ≡ left_back ts v x n
  unfolding left_back
  back_none zero h = refl
  back_none (suc n) h = absurd (omega arith)

  pub back_stop : (n : ℕ) → 0 < n → across x v ts ≡ Nothing → n ≡ left_back ts v x n
  unfolding left_back
  back_stop zero h e = absurd (omega arith)
  back_stop (suc n) h e = sym (rw (left_back, e))

  pub back_more : (n i j z : ℕ) → 0 < n → across x v ts ≡ Found i j z → left_back ts v z (n - 1) ≡ left_back ts v x n
  unfolding left_back
  back_more zero i j z h e = absurd (omega arith)
  back_more (suc n) i j z h e = ap (left_back ts v z) (one_left n) ∙ sym (rw (left_back, e))

-- the test at one vertex: its latest corner is c - 1, whose triangle's next corners are k and m, and n corners have it
module _ (xs cs : List ℕ) (linked : Linked xs cs) (v c : ℕ) (newest : Newest xs cs v c) where
  latest_is : c ≡ latest v xs (3 * (length xs / 3))
  latest_is = newest.newest (length xs / 3) linked.chains

  pub fan_empty : c ≡ 0 → true ≡ one_run (about v (triangles_of xs))
  fan_empty z = fan_none xs cs linked v c z latest_is

  module _ (some : c ≡ 0 → ⊥) (n : ℕ) (counts : CountsFrom cs c n) where
    count_is : n ≡ degree v xs (3 * (length xs / 3))
    count_is = counts xs v (3 * (length xs / 3)) linked.chains latest_is

    pub fan_some : 1 ≤ n
    fan_some =
        let l : 0 < latest v xs (3 * (length xs / 3)) = omega (arith, latest_is) in
        omega (arith, count_is, latest_some v xs (3 * (length xs / 3)) l)

    module _ (k m : ℕ) (after : k ≡ corner_after (c - 1)) (last : m ≡ corner_before (c - 1)) where
      pub fan_test : (r : ℕ) → r ≡ left_on (triangles_of xs) v (get_or xs k 0) (get_or xs m 0) (n - 1)
          → eqb r 0 ≡ one_run (about v (triangles_of xs))
      fan_test r e =
          fan_left xs cs linked v c n r (omega arith) latest_is count_is
          (e ∙ ap (λ (i : ℕ). left_on (triangles_of xs) v (get_or xs i 0) (get_or xs m 0) (n - 1)) after
          ∙ ap (λ (i : ℕ). left_on (triangles_of xs) v (get_or xs (corner_after (c - 1)) 0) (get_or xs i 0) (n - 1)) last)

-- the test of 7, from the highest vertex down
pub fans_none : (u : ℕ) (ts : List Triangle) → u ≤ 0 → true ≡ one_fan_each u ts
unfolding one_fan_each
fans_none zero ts h = refl
fans_none (suc u) ts h = absurd (omega arith)

one_before : (c : ℕ) → suc c - 1 ≡ c
one_before c = omega arith

pub fans_here : (u : ℕ) (ts : List Triangle) (b : Bool) → 0 < u → b ≡ one_run (about (u - 1) ts) → not b ≡ false
    → one_fan_each (u - 1) ts ≡ one_fan_each u ts
unfolding one_fan_each
fans_here zero ts b h e n = absurd (omega arith)
fans_here (suc u) ts b h e n =
    let e' : one_run (about u ts) ≡ true = rw (one_before u) at (sym e ∙ not-false b n) in
    rw (one_before u) (sym (rw (one_fan_each, e')))

pub fans_not : (u : ℕ) (ts : List Triangle) (b : Bool) → 0 < u → b ≡ one_run (about (u - 1) ts) → not b ≡ true
    → false ≡ one_fan_each u ts
unfolding one_fan_each
fans_not zero ts b h e n = absurd (omega arith)
fans_not (suc u) ts b h e n =
    let e' : one_run (about u ts) ≡ false = rw (one_before u) at (sym e ∙ not-true b n) in
    sym (rw (one_fan_each, e'))
