-- Chains are kept when a corner is linked, and when numbers after their corners change.
-- Assumes nothing.
use Prim.Native.Nat.{ℕ, zero, suc, ◌+◌, ◌*◌, ◌≤◌, ◌<◌}
use native.Mathlib.Omega.{arith}
use mathlib.Core.Bool.{Bool, true, false}
use mathlib.Core.List.{List}
use mathlib.Core.Path.{◌≡◌, refl, sym, ap, ◌∙◌, subst}
use lib.ListN.{length, get_or, set, length-set, replicate, length-replicate, get_or-replicate}
use lib.Seq.{get_or-set_same, get_or-set_other}
use lib.Dec.{eqb}
use borrow.Author.Tests.{eqb-true, eqb-false, lt-ltb}
use Rattle.rules.specs.declared.Triangle.{Triangle}
use Rattle.rules.specs.Limits.{max_numbers, max_triangles, max_vertices}
use Rattle.rules.specs.Build.{with_triangle}
use Rattle.mesh_theory.specs.Chains.Corner.{latest}
use Rattle.mesh_theory.specs.Chains.Linked.{Chains, linked, linked_triangle, linkable, relinked, room}
use Rattle.mesh_theory.proofs.Chains.Walking.{latest_here, latest_other}
use Rattle.counting.proofs.Triangles.{written_long, written_before, written_p, written_q, written_r}

-- chains of no corner
pub chains_none : (xs cs : List ℕ) → length cs ≡ room → ((v : ℕ) → v < max_vertices → get_or cs v 0 ≡ 0) → Chains xs 0 cs
unfolding latest
chains_none xs cs l z = record {
  within = omega arith;
  most = omega arith;
  whole = l;
  below = λ c h. absurd (omega arith);
  heads = z;
  links = λ c h. absurd (omega arith);
}

-- an array of zeros holds the chains of no corner
pub zeros_none : (xs : List ℕ) (n : ℕ) → n ≡ room → Chains xs 0 (replicate n 0)
zeros_none xs n e = chains_none xs (replicate n 0) (length-replicate n 0 ∙ e) (λ v l. get_or-replicate n v 0 0 (omega arith))

-- one corner more
module _ (xs : List ℕ) (n : ℕ) (cs : List ℕ) (chains : Chains xs n cs) (v : ℕ) (is : get_or xs n 0 ≡ v) (small : v < max_vertices)
    (fits : n < max_numbers) where
  head_kept : (u : ℕ) → u < max_vertices → get_or (linked cs v n) u 0 ≡ latest u xs (suc n)
  head_kept u l = go (eqb u v) refl
    where
      go : (b : Bool) → eqb u v ≡ b → get_or (linked cs v n) u 0 ≡ latest u xs (suc n)
      go true e =
          let e' : u ≡ v = eqb-true u v e in
          rw e'
          (get_or-set_same (set cs (max_vertices + n) (get_or cs v 0)) v (n + 1) 0 (simp length-set (omega (arith, chains.whole)))
          ∙ omega arith ∙ sym (latest_here v xs n is))
      go false e =
          get_or-set_other (set cs (max_vertices + n) (get_or cs v 0)) v u (n + 1) 0 (eqb-false u v e)
          ∙ get_or-set_other cs (max_vertices + n) u (get_or cs v 0) 0 (omega arith) ∙ chains.heads u l
          ∙ sym (latest_other u xs n (λ h. eqb-false u v e (sym h ∙ is)))

  link_kept : (c : ℕ) → c < suc n → get_or (linked cs v n) (max_vertices + c) 0 ≡ latest (get_or xs c 0) xs c
  link_kept c l =
      get_or-set_other (set cs (max_vertices + n) (get_or cs v 0)) v (max_vertices + c) (n + 1) 0 (omega arith) ∙ go (eqb c n) refl
    where
      go : (b : Bool) → eqb c n ≡ b
          → get_or (set cs (max_vertices + n) (get_or cs v 0)) (max_vertices + c) 0 ≡ latest (get_or xs c 0) xs c
      go true e =
          let e' : c ≡ n = eqb-true c n e in
          rw e'
          (get_or-set_same cs (max_vertices + n) (get_or cs v 0) 0 (omega (arith, chains.whole)) ∙ chains.heads v small
          ∙ ap (λ (u : ℕ). latest u xs n) (sym is))
      go false e =
          let f = eqb-false c n e in
          get_or-set_other cs (max_vertices + n) (max_vertices + c) (get_or cs v 0) 0 (λ h. f (omega arith)) ∙ chains.links c
          (omega arith)

  below_kept : (c : ℕ) → c < suc n → get_or xs c 0 < max_vertices
  below_kept c l = go (eqb c n) refl
    where
      go : (b : Bool) → eqb c n ≡ b → get_or xs c 0 < max_vertices
      go true e = let e' : c ≡ n = eqb-true c n e in rw (e', is) small
      go false e = let f = eqb-false c n e in chains.below c (omega arith)

  pub corner_linked : n < length xs → Chains xs (n + 1) (linked cs v n)
  corner_linked h =
      let s : suc n ≡ n + 1 = omega arith in
      subst (λ (i : ℕ). Chains xs i (linked cs v n)) s
      (record {
        within = h;
        most = fits;
        whole =
            length-set (set cs (max_vertices + n) (get_or cs v 0)) v (n + 1) ∙ length-set cs (max_vertices + n) (get_or cs v 0)
            ∙ chains.whole;
        below = below_kept;
        heads = head_kept;
        links = link_kept;
      })

-- one triangle more
module _ (xs : List ℕ) (n : ℕ) (cs : List ℕ) (chains : Chains xs (3 * n) cs) (fits : 3 * n + 3 ≤ length xs) where
  three_linked : (p q r : ℕ) → get_or xs (3 * n) 0 ≡ p → get_or xs (3 * n + 1) 0 ≡ q → get_or xs (3 * n + 2) 0 ≡ r
      → n < max_triangles → p < max_vertices → q < max_vertices → r < max_vertices
      → Chains xs (3 * (n + 1)) (linked_triangle cs n p q r)
  three_linked p q r e f g m a b c =
      let cs₁ = linked cs p (3 * n) in
      let cs₂ = linked cs₁ q (3 * n + 1) in
      let k₁ : Chains xs (3 * n + 1) cs₁ = corner_linked xs (3 * n) cs chains p e a (omega arith) (omega arith) in
      let e₂ : 3 * n + 1 + 1 ≡ 3 * n + 2 = omega arith in
      let k₂ : Chains xs (3 * n + 2) cs₂ =
      subst (λ (i : ℕ). Chains xs i cs₂) e₂ (corner_linked xs (3 * n + 1) cs₁ k₁ q f b (omega arith) (omega arith)) in
      let e₃ : 3 * n + 2 + 1 ≡ 3 * (n + 1) = omega arith in
      subst (λ (i : ℕ). Chains xs i (linked_triangle cs n p q r)) e₃
      (corner_linked xs (3 * n + 2) cs₂ k₂ r g c (omega arith) (omega arith))

  pub triangle_linked : (p q r : ℕ) → get_or xs (3 * n) 0 ≡ p → get_or xs (3 * n + 1) 0 ≡ q → get_or xs (3 * n + 2) 0 ≡ r
      → n < max_triangles → p < max_vertices → q < max_vertices → r < max_vertices → (cs' : List ℕ) → cs' ≡ relinked cs n p q r
      → Chains xs (3 * (n + 1)) cs'
  unfolding relinked linkable
  triangle_linked p q r e f g m a b c cs' i =
      let i' : cs' ≡ linked_triangle cs n p q r =
      i ∙ rw (relinked, lt-ltb n max_triangles m, lt-ltb p max_vertices a, lt-ltb q max_vertices b, lt-ltb r max_vertices c) in
      subst (Chains xs (3 * (n + 1))) (sym i') (three_linked p q r e f g m a b c)

-- lists that agree as far as the corners go
pub latest_same : (v : ℕ) (xs ys : List ℕ) (n : ℕ) → ((c : ℕ) → c < n → get_or xs c 0 ≡ get_or ys c 0) → latest v xs n ≡ latest v ys n
unfolding latest
latest_same v xs ys zero h = refl
latest_same v xs ys (suc n) h = go (eqb (get_or xs n 0) v) refl (latest_same v xs ys n (λ c l. h c (omega arith)))
  where
    go : (b : Bool) → eqb (get_or xs n 0) v ≡ b → latest v xs n ≡ latest v ys n → latest v xs (suc n) ≡ latest v ys (suc n)
    go true e i =
        let k = eqb-true (get_or xs n 0) v e in
        latest_here v xs n k ∙ sym (latest_here v ys n (sym (h n (omega arith)) ∙ k))
    go false e i =
        let k = eqb-false (get_or xs n 0) v e in
        latest_other v xs n k ∙ i ∙ sym (latest_other v ys n (λ q. k (h n (omega arith) ∙ q)))

pub chains_same : (xs ys : List ℕ) (n : ℕ) (cs : List ℕ) → n ≤ length ys → ((c : ℕ) → c < n → get_or xs c 0 ≡ get_or ys c 0)
    → Chains xs n cs → Chains ys n cs
chains_same xs ys n cs l h k = record {
  within = l;
  most = k.most;
  whole = k.whole;
  below = λ c i. subst (λ (m : ℕ). m < max_vertices) (h c i) (k.below c i);
  heads = λ v i. k.heads v i ∙ latest_same v xs ys n h;
  links = λ c i.
      k.links c i ∙ ap (λ (v : ℕ). latest v xs c) (h c i) ∙ latest_same (get_or ys c 0) xs ys c (λ d j. h d (omega arith));
}

-- a triangle that is written after the triangles of the chains, and linked
pub written_linked : (xs : List ℕ) (n : ℕ) (t : Triangle) → 3 * n + 3 ≤ length xs → (cs : List ℕ) → Chains xs (3 * n) cs
    → n < max_triangles → t.p < max_vertices → t.q < max_vertices → t.r < max_vertices
    → Chains (with_triangle n t xs) (3 * (n + 1)) (relinked cs n t.p t.q t.r)
written_linked xs n t l cs k m a b c =
    let ys : List ℕ = with_triangle n t xs in
    let long : length ys ≡ length xs = written_long xs n t l in
    let k' : Chains ys (3 * n) cs =
    chains_same xs ys (3 * n) cs (omega (arith, l, long)) (λ i j. sym (written_before xs n t l i j)) k in
    triangle_linked ys n cs k' (omega (arith, l, long)) t.p t.q t.r (written_p xs n t l) (written_q xs n t l)
    (written_r xs n t l) m a b c (relinked cs n t.p t.q t.r) refl
