-- Turning a ring to its first open edge: the ring is cut before that edge, or it has none.
-- Assumes nothing.
use Prim.Native.Nat.{ℕ, suc}
use native.Mathlib.Omega.{arith}
use mathlib.Core.List.{List, [], ◌∷◌, ◌++◌, append_assoc}
use mathlib.Core.Path.{◌≡◌, refl, sym, ap, ◌∙◌}
use mathlib.Core.Logic.{◌⊎◌, inl, inr}
use lib.ListN.{length}
use Rattle.rules.specs.Ring.{Node, opened, marked, onward}
use Rattle.book.proofs.Closed.{Closed}
use Rattle.choice_theory.proofs.Places.Rings.{append_none}

-- the ring ps ++ back turned to r
record Cut (back ps r : List Node) : Type 0 where
  us : List Node
  v : ℕ
  vs : List Node
  whole : ps ≡ us ++ (opened v ∷ vs)
  cut : r ≡ opened v ∷ (vs ++ (back ++ us))

onward_by : (back ps : List Node) → ((onward back ps ≡ []) × Closed ps) ⊎ Cut back ps (onward back ps)
unfolding onward
onward_by back [] = inl (refl, tt)
onward_by back (opened v ∷ ps) =
    inr (record { us = []; v = v; vs = ps; whole = refl; cut = ap (λ (k : List Node). opened v ∷ (ps ++ k)) (sym (append_none back)) })
onward_by back (marked v ∷ ps) = go (onward_by (back ++ (marked v ∷ [])) ps)
  where
    go : ((onward (back ++ (marked v ∷ [])) ps ≡ []) × Closed ps) ⊎ Cut (back ++ (marked v ∷ [])) ps (onward (back ++ (marked v ∷ [])) ps)
        → ((onward (back ++ (marked v ∷ [])) ps ≡ []) × Closed (marked v ∷ ps))
        ⊎ Cut back (marked v ∷ ps) (onward (back ++ (marked v ∷ [])) ps)
    go (inl r) = inl (r.0, (refl, r.1))
    go (inr t) =
        inr
        (record {
          us = marked v ∷ t.us;
          v = t.v;
          vs = t.vs;
          whole = ap (λ (k : List Node). marked v ∷ k) t.whole;
          cut = t.cut ∙ ap (λ (k : List Node). opened t.v ∷ (t.vs ++ k)) (append_assoc back (marked v ∷ []) t.us);
        })

-- the ring ps turned to r
pub record Turned (ps r : List Node) : Type 0 where
  pub us : List Node
  pub v : ℕ
  pub vs : List Node
  pub whole : ps ≡ us ++ (opened v ∷ vs)
  pub turned : r ≡ (opened v ∷ vs) ++ us

pub no_cons : (p : Node) (ps : List Node) → p ∷ ps ≡ [] → ⊥
no_cons p ps h = let z : suc (length ps) ≡ 0 = ap length h in omega arith

pub onward_cases : (ps : List Node) → ((onward [] ps ≡ []) × Closed ps) ⊎ Turned ps (onward [] ps)
onward_cases ps = go (onward_by [] ps)
  where
    go : ((onward [] ps ≡ []) × Closed ps) ⊎ Cut [] ps (onward [] ps) → ((onward [] ps ≡ []) × Closed ps) ⊎ Turned ps (onward [] ps)
    go (inl r) = inl r
    go (inr t) = inr (record { us = t.us; v = t.v; vs = t.vs; whole = t.whole; turned = t.cut })

-- a ring that has no open edge
pub closed_ring : (ps : List Node) → onward [] ps ≡ [] → Closed ps
closed_ring ps h = go (onward_cases ps)
  where
    go : ((onward [] ps ≡ []) × Closed ps) ⊎ Turned ps (onward [] ps) → Closed ps
    go (inl r) = r.1
    go (inr t) = absurd (no_cons (opened t.v) (t.vs ++ t.us) (sym t.turned ∙ h))

-- a ring that has one
pub turned_ring : (ps : List Node) (q : Node) (qs : List Node) → onward [] ps ≡ q ∷ qs → Turned ps (q ∷ qs)
turned_ring ps q qs h = go (onward_cases ps)
  where
    go : ((onward [] ps ≡ []) × Closed ps) ⊎ Turned ps (onward [] ps) → Turned ps (q ∷ qs)
    go (inl r) = absurd (no_cons q qs (sym h ∙ r.0))
    go (inr t) = record { us = t.us; v = t.v; vs = t.vs; whole = t.whole; turned = sym h ∙ t.turned }
