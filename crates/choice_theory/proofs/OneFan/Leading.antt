-- Chains that become longer by one edge.
-- Assumes nothing.
use Prim.Native.Nat.{ℕ, ◌+◌}
use native.Mathlib.Omega.{arith}
use mathlib.Core.List.{List, [], ◌∷◌, ◌++◌}
use mathlib.Core.Path.{◌≡◌, refl, sym}
use Rattle.rules.specs.Triangle.{Edge, edge}
use Rattle.mesh_theory.specs.Fans.Ways.{total, Chain, Chained}

-- all the edges, in some order, are one chain from s to t
pub record Leads (s t : ℕ) (ds : List Edge) : Type 0 where
  pub path : List Edge
  pub chain : Chain s path t
  pub sum : (w : Edge → ℕ) → total w ds ≡ total w path

abbrev pub leads_chained : (s t : ℕ) (ds : List Edge) → Leads s t ds → Chained ds
leads_chained s t ds l = record { start = s; finish = t; path = l.path; chain = l.chain; sum = l.sum }

pub chained_leads : (ds : List Edge) (c : Chained ds) → Leads c.start c.finish ds
chained_leads ds c = record { path = c.path; chain = c.chain; sum = c.sum }

-- no edge
pub none_chained : Chained []
none_chained = record { start = 0; finish = 0; path = []; chain = refl; sum = λ w. refl }

-- one edge alone
pub leads_one : (a b : ℕ) → Leads a b (edge a b ∷ [])
leads_one a b = record { path = edge a b ∷ []; chain = (refl, refl); sum = λ w. refl }

-- an edge before the chain
pub leads_before : (a b t : ℕ) (ds : List Edge) → Leads b t ds → Leads a t (edge a b ∷ ds)
unfolding total
leads_before a b t ds l = record { path = edge a b ∷ l.path; chain = (refl, l.chain); sum = λ w. omega (arith, l.sum w) }

-- an edge after it
chain_after : (s a b : ℕ) (ds : List Edge) → Chain s ds a → Chain s (ds ++ (edge a b ∷ [])) b
chain_after s a b [] c = (sym c, refl)
chain_after s a b (d ∷ ds) c = (c.0, chain_after d.to a b ds c.1)

total_after : (w : Edge → ℕ) (ds : List Edge) (d : Edge) → total w (ds ++ (d ∷ [])) ≡ w d + total w ds
unfolding total
total_after w [] d = refl
total_after w (e ∷ ds) d = omega (arith, total_after w ds d)

pub leads_after : (s a b : ℕ) (ds : List Edge) → Leads s a ds → Leads s b (edge a b ∷ ds)
unfolding total
leads_after s a b ds l = record {
  path = l.path ++ (edge a b ∷ []);
  chain = chain_after s a b l.path l.chain;
  sum = λ w. omega (arith, l.sum w, total_after w l.path (edge a b));
}
