-- What the table of operations says of the corners of a new triangle: one between two new edges has a new number, or it is met.
-- Assumes nothing.
use Prim.Native.Nat.{ℕ, ◌+◌, ◌≤◌}
use native.Mathlib.Omega.{arith}
use mathlib.Core.Bool.{Bool, true, false}
use mathlib.Core.List.{List, [], ◌∷◌, ◌++◌}
use mathlib.Core.Logic.{◌⊎◌, inl, inr}
use mathlib.Core.Path.{◌≡◌, refl}
use lib.Dec.{eqb}
use borrow.Author.Tests.{eq-eqb}
use Rattle.rules.specs.declared.Triangle.{Triangle}
use Rattle.rules.specs.declared.Operation.{Operation}
use Rattle.rules.specs.declared.Operation.TheVariants.{New, Forward, Backward, Border, Split, Close, Union, Start}
use Rattle.rules.specs.Triangle.{Edge, edge}
use Rattle.rules.specs.Ring.{Node, marked, Ring, vertex, start_or, onward, shown}
use Rattle.rules.specs.Table.{Side, glued, fresh, Effect, not_allowed, builds, marks, allowed, marking, at_edge, at_rest, effect}
use Rattle.rules.specs.Machine.{fresh_sides}
use Rattle.choice_theory.specs.Met.{met_by}

-- the corner v of t, between two sides; u is the next unused number
abbrev pub NewOrMet : Operation → ℕ → Triangle → ℕ → Side → Side → Type 0
NewOrMet o u t v out back = (fresh_sides out + fresh_sides back ≤ 1) ⊎ ((u ≤ v) ⊎ (met_by o t v ≡ true))

pub record Meets (o : Operation) (u : ℕ) (t : Triangle) (pq qr rp : Side) : Type 0 where
  pub at_p : NewOrMet o u t t.p pq rp
  pub at_q : NewOrMet o u t t.q qr pq
  pub at_r : NewOrMet o u t t.r rp qr

unfoldable pub Meeting : Operation → ℕ → Effect → Type 0
Meeting o u not_allowed = Unit {0}
Meeting o u (builds x) = Meets o u x.triangle x.sides.pq x.sides.qr x.sides.rp
Meeting o u (marks x) = Unit {0}

fresh_once : (s : Side) → fresh_sides s ≤ 1
fresh_once glued = omega arith
fresh_once fresh = omega arith

-- at the current edge, which the side p→q glues, only the third corner can be such a one
glues : (o : Operation) (u : ℕ) (t : Triangle) (qr rp : Side) → NewOrMet o u t t.r rp qr → Meets o u t glued qr rp
glues o u t qr rp h =
    record { at_p = inl (omega (arith, fresh_once rp)); at_q = inl (omega (arith, fresh_once qr)); at_r = h }

if_allowed : (o : Operation) (u : ℕ) (b : Bool) (e : Effect) → Meeting o u e → Meeting o u (allowed b e)
unfolding Meeting allowed
if_allowed o u true e h = h
if_allowed o u false e h = tt

by_marking : (u : ℕ) (r : Ring) (ws : List Ring) (d : Edge) → Meeting Border u (marking r ws d)
unfolding Meeting
by_marking u [] ws d = tt
by_marking u (p ∷ r) ws d = tt

met_itself : (u v : ℕ) → (u ≤ v) ⊎ (eqb v v ≡ true)
met_itself u v = inr (eq-eqb v v refl)

at_edge_lem : (o : Operation) (u a : ℕ) (ps : List Node) (ws : List Ring) → Meeting o u (at_edge o u a ps ws)
unfolding Meeting at_edge
at_edge_lem New u a ps ws = glues New u _ fresh fresh (inr (inl (omega arith)))
at_edge_lem Forward u a ps ws = if_allowed Forward u _ _ (glues Forward u _ fresh glued (inl (omega arith)))
at_edge_lem Backward u a ps ws = if_allowed Backward u _ _ (glues Backward u _ glued fresh (inl (omega arith)))
at_edge_lem Border u a ps ws = by_marking u (shown (onward [] (ps ++ (marked a ∷ [])))) ws (edge a (start_or a ps))
at_edge_lem (Split i) u a ps ws = if_allowed (Split i) u _ _ (glues (Split i) u _ fresh fresh (inr (met_itself u _)))
at_edge_lem Close u a ps ws = if_allowed Close u _ _ (glues Close u _ glued glued (inl (omega arith)))
at_edge_lem (Union n j) u a ps ws = if_allowed (Union n j) u _ _ (glues (Union n j) u _ fresh fresh (inr (met_itself u _)))
at_edge_lem Start u a ps ws = tt

at_rest_lem : (o : Operation) (u : ℕ) → Meeting o u (at_rest o u)
unfolding Meeting at_rest
at_rest_lem New u = tt
at_rest_lem Forward u = tt
at_rest_lem Backward u = tt
at_rest_lem Border u = tt
at_rest_lem (Split i) u = tt
at_rest_lem Close u = tt
at_rest_lem (Union n j) u = tt
at_rest_lem Start u = record { at_p = inr (inl (omega arith)); at_q = inr (inl (omega arith)); at_r = inr (inl (omega arith)) }

pub meeting : (o : Operation) (u : ℕ) (ls : List Ring) → Meeting o u (effect o u ls)
unfolding Meeting effect
meeting o u [] = at_rest_lem o u
meeting o u ([] ∷ ws) = tt
meeting o u ((e ∷ ps) ∷ ws) = at_edge_lem o u (vertex e) ps ws
