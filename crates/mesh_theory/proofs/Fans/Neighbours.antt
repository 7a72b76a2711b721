-- One fan as neighbours in a row: the two forms say the same, and a list that `check` accepts has it at each vertex.
-- Assumes nothing.
use Prim.Native.Nat.{ℕ, ◌+◌, ◌≤◌}
use native.Mathlib.Omega.{arith}
use mathlib.Core.Bool.{Bool, true, false}
use mathlib.Core.List.{List, [], ◌∷◌}
use mathlib.Core.Logic.{◌↔◌, ◌⊎◌, inl, inr, ⊎_elim}
use mathlib.Core.Path.{◌≡◌, refl, sym, ◌∙◌, subst}
use lib.Dec.{eqb}
use borrow.Author.Tests.{eqb-true, eqb-false}
use Rattle.rules.specs.declared.Triangle.{Triangle}
use Rattle.rules.specs.Triangle.{Edge, edge, edges_of, In, Free}
use Rattle.rules.specs.Count.{same, count, uses}
use Rattle.rules.specs.Fan.{about, Run, OneFan}
use Rattle.rules.specs.Check.{all_distinct, none_twice}
use Rattle.mesh_theory.specs.Fans.Ways.{Chain}
use Rattle.rules.specs.Fan.{Linked, Pair, end_of, Neighbours}
use Rattle.mesh_theory.proofs.Fans.Counting.{member}
use Rattle.mesh_theory.proofs.Fans.Corners.{free_unused}
use Rattle.mesh_theory.proofs.Fans.Tests.{none_twice_lem}
use Rattle.mesh_theory.proofs.Fans.OneRun.{chained_count, run_passes}
use Rattle.mesh_theory.proofs.Fans.About.{about_apart, about_in, in_about}
use Rattle.mesh_theory.proofs.Fans.OneFan.{run_fan, fan_chained, fan_degree}
use Rattle.counting.proofs.Counts.{same_yes, same_no, hit_yes}

-- the vertices that edges lead to
abbrev tos : List Edge → List ℕ
tos [] = []
tos (d ∷ ds) = d.to ∷ tos ds

-- and the edges along a row of vertices
abbrev along : List ℕ → List Edge
along [] = []
along (m ∷ []) = []
along (m ∷ (n ∷ ns)) = edge m n ∷ along (n ∷ ns)

-- a chain, as a row of vertices
chain_end : (s t : ℕ) (ds : List Edge) → Chain s ds t → end_of s (tos ds) ≡ t
chain_end s t [] h = h
chain_end s t (d ∷ ds) h = chain_end d.to t ds h.1

chain_pair : (x z s t : ℕ) (ds : List Edge) → Chain s ds t → 1 ≤ count x z ds → Pair x z (s ∷ tos ds)
unfolding count
chain_pair x z s t [] c h = absurd (omega arith)
chain_pair x z s t (d ∷ ds) c h =
    ⊎_elim (λ q. inl (sym c.0 ∙ sym q.0, sym q.1)) (λ m. inr (chain_pair x z d.to t ds c.1 m)) (member x z d ds h)

chain_linked : (v : ℕ) (ts : List Triangle) (s t : ℕ) (ds : List Edge) → Chain s ds t → ((x y : ℕ) → 1 ≤ count x y ds → In v x y ts)
    → Linked v ts (s ∷ tos ds)
unfolding count
chain_linked v ts s t [] c h = tt
chain_linked v ts s t (d ∷ ds) c h = (
  subst (λ (k : ℕ). In v k d.to ts) c.0 (h d.from d.to (omega (arith, hit_yes d.from d.to))),
  chain_linked v ts d.to t ds c.1 (λ x y k. h x y (omega arith)),
)

-- a row of vertices, as a run
along_run : (ns : List ℕ) → Run (along ns)
along_run [] = tt
along_run (m ∷ []) = tt
along_run (m ∷ (n ∷ [])) = tt
along_run (m ∷ (n ∷ (k ∷ ns))) = (inl refl, along_run (n ∷ (k ∷ ns)))

along_pair : (x z : ℕ) (ns : List ℕ) → Pair x z ns → 1 ≤ count x z (along ns)
unfolding count
along_pair x z (m ∷ (n ∷ ns)) (inl e) = rw (e.0, e.1) (omega (arith, hit_yes x z))
along_pair x z (m ∷ (n ∷ ns)) (inr p) = omega (arith, along_pair x z (n ∷ ns) p)
along_pair x z [] x'' = elim x'' [ ]
along_pair x z (m ∷ []) x5 = elim x5 [ ]

along_in : (v : ℕ) (ts : List Triangle) (x z : ℕ) (ns : List ℕ) → Linked v ts ns → 1 ≤ count x z (along ns) → In v x z ts
unfolding count
along_in v ts x z [] l h = absurd (omega arith)
along_in v ts x z (m ∷ []) l h = absurd (omega arith)
along_in v ts x z (m ∷ (n ∷ ns)) l h =
    ⊎_elim (λ q. rw (q.0, q.1) l.0) (λ k. along_in v ts x z (n ∷ ns) l.1 k) (member x z (edge m n) (along (n ∷ ns)) h)

module _ (ts : List Triangle) (distinct : all_distinct ts ≡ true) (once : none_twice (edges_of ts) ≡ true) where
  -- the chain comes round, or nothing at v leads to its start or on from its finish
  fan_ends : (v : ℕ) (f : OneFan v ts) (s t : ℕ) → (fan_chained ts distinct once v f).start ≡ s
      → (fan_chained ts distinct once v f).finish ≡ t → (s ≡ t) ⊎ (Free s v ts × Free v t ts)
  fan_ends v f s t a b = go (eqb s t) refl
    where
      degree : (x : ℕ) → uses v x ts + same x t ≡ uses x v ts + same x s
      degree x = rw (← a, ← b) (fan_degree ts distinct once v f x)

      go : (e : Bool) → eqb s t ≡ e → (s ≡ t) ⊎ (Free s v ts × Free v t ts)
      go true e = inl (eqb-true s t e)
      go false e =
          let n = eqb-false s t e in
          let at_most = (none_twice_lem (edges_of ts)).0 once in
          inr (
            (free_unused s v ts).1 (omega (arith, degree s, same_yes s, same_no s t n, at_most v s)),
            (free_unused v t ts).1 (omega (arith, degree t, same_yes t, same_no t s (λ q. n (sym q)), at_most t v)),
          )

  fan_neighbours : (v : ℕ) → OneFan v ts → Neighbours ts v
  fan_neighbours v f =
      let c = fan_chained ts distinct once v f in
      let s = c.start in
      let t = c.finish in
      let has = chained_count (about v ts) c in
      record {
        fan = s ∷ tos c.path;
        run = chain_linked v ts s t c.path c.chain (λ x y h. about_in v x y ts (omega (arith, has x y)));
        round =
            subst (λ (k : ℕ). (s ≡ k) ⊎ (Free s v ts × Free v k ts)) (sym (chain_end s t c.path c.chain))
            (fan_ends v f s t refl refl);
        whole = λ x z i. chain_pair x z s t c.path c.chain (omega (arith, has x z, in_about ts distinct i));
      }

  neighbours_fan : (v : ℕ) → Neighbours ts v → OneFan v ts
  neighbours_fan v f =
      run_fan v ts
      (run_passes (about v ts) (along f.fan) (about_apart v ts distinct once) (along_run f.fan)
      (λ x z. (
        λ h. in_about ts distinct (along_in v ts x z f.fan f.run h),
        λ h. along_pair x z f.fan (f.whole x z (about_in v x z ts h)),
      )))

  pub one_fan_neighbours : (v : ℕ) → OneFan v ts ↔ Neighbours ts v
  one_fan_neighbours v = (fan_neighbours v, neighbours_fan v)
