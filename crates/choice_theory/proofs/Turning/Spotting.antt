-- The search for an open edge in the rings finds it.
-- Assumes nothing.
use Prim.Native.Nat.{ℕ, zero, suc, ◌+◌}
use native.Mathlib.Omega.{arith}
use mathlib.Core.Bool.{Bool, true, false, ◌&&◌, false≢true}
use mathlib.Core.List.{List, [], ◌∷◌}
use mathlib.Core.Path.{◌≡◌, refl, sym, ap₂, ◌∙◌, subst}
use lib.Dec.{eqb}
use borrow.Author.Tests.{eqb-true, eq-eqb}
use Rattle.rules.specs.Ring.{Node, Ring, vertex, is_open, start_or}
use Rattle.rules.specs.Choice.{Position, absent, at, Spot, nowhere, spot, edge_in, spot_of}
use Rattle.rules.specs.Right.{EdgeIn, OpenAt}
use Rattle.choice_theory.specs.Spots.{Unique}
use Rattle.counting.proofs.Bools.{and_both, and_true}

-- what the search in one ring tells
Told : ℕ → ℕ → List Node → ℕ → ℕ → Position → Type 0
Told first n ps x y absent = (i : ℕ) → EdgeIn first ps i x y → ⊥
Told first n ps x y (at m) = (i : ℕ) × (m ≡ n + i) × EdgeIn first ps i x y

abbrev test : Node → ℕ → ℕ → ℕ → Bool
test p x z y = is_open p && eqb (vertex p) x && eqb z y

test_true : (p : Node) (x z y : ℕ) → test p x z y ≡ true → (is_open p ≡ true) × (vertex p ≡ x) × (z ≡ y)
test_true p x z y h =
    let r = and_true (is_open p && eqb (vertex p) x) (eqb z y) h in
    let s = and_true (is_open p) (eqb (vertex p) x) r.0 in
    (s.0, eqb-true _ _ s.1, eqb-true _ _ r.1)

test_false : (p : Node) (x z y : ℕ) → test p x z y ≡ false → (is_open p ≡ true) × (vertex p ≡ x) × (z ≡ y) → ⊥
test_false p x z y h g =
    false≢true (sym h ∙ and_both (is_open p && eqb (vertex p) x) (eqb z y)
    (and_both (is_open p) (eqb (vertex p) x) g.0 (eq-eqb _ _ g.1)) (eq-eqb _ _ g.2))

told_more : (first n : ℕ) (p : Node) (ps : List Node) (x y : ℕ) (m : Position) → test p x (start_or first ps) y ≡ false
    → Told first (suc n) ps x y m → Told first n (p ∷ ps) x y m
unfolding Told
told_more first n p ps x y absent h t = λ i. go i
  where
    go : (i : ℕ) → EdgeIn first (p ∷ ps) i x y → ⊥
    go zero k = test_false p x (start_or first ps) y h k
    go (suc i) k = t i k
told_more first n p ps x y (at m) h t = (suc t.0, omega (arith, t.1), t.2)

told_by : (first n : ℕ) (p : Node) (ps : List Node) (x y : ℕ) (m : Position) (b : Bool) → test p x (start_or first ps) y ≡ b
    → Told first (suc n) ps x y m → Told first n (p ∷ ps) x y (elim b [ true ↦ at n | false ↦ m ])
unfolding Told
told_by first n p ps x y m true h t = (zero, omega arith, test_true p x (start_or first ps) y h)
told_by first n p ps x y m false h t = told_more first n p ps x y m h t

told_none : (first n x y : ℕ) → Told first n [] x y absent
unfolding Told
told_none first n x y i h = h

told : (first n x y : ℕ) (ps : List Node) → Told first n ps x y (edge_in first n x y ps)
unfolding edge_in
told first n x y [] = told_none first n x y
told first n x y (p ∷ ps) = told_by first n p ps x y (edge_in first (suc n) x y ps) _ refl (told first (suc n) x y ps)

-- what the search in all rings tells
Seen : ℕ → ℕ → ℕ → List Ring → Spot → Type 0
Seen s x y ls nowhere = (l i : ℕ) → OpenAt ls l i x y → ⊥
Seen s x y ls (spot m j) = (l : ℕ) × (m ≡ s + l) × OpenAt ls l j x y

seen_by : (s x y : ℕ) (w : List Node) (ws : List Ring) (r : Spot) (m : Position) → Told (start_or 0 w) 0 w x y m → Seen (suc s) x y ws r
    → Seen s x y (w ∷ ws) (elim m [ absent ↦ r | at i ↦ spot s i ])
unfolding Seen Told
seen_by s x y w ws nowhere absent t h = λ l i. go l i
  where
    go : (l i : ℕ) → OpenAt (w ∷ ws) l i x y → ⊥
    go zero i k = t i k
    go (suc l) i k = h l i k
seen_by s x y w ws (spot m j) absent t h = (suc h.0, omega (arith, h.1), h.2)
seen_by s x y w ws r (at i) t h = (zero, omega arith, subst (λ (k : ℕ). EdgeIn (start_or 0 w) w k x y) (omega (arith, t.1)) t.2)

seen : (s x y : ℕ) (ls : List Ring) → Seen s x y ls (spot_of s x y ls)
unfolding spot_of Seen
seen s x y [] = λ l i h. h
seen s x y (w ∷ ws) =
    seen_by s x y w ws (spot_of (suc s) x y ws) (edge_in (start_or 0 w) 0 x y w) (told (start_or 0 w) 0 x y w) (seen (suc s) x y ws)

-- an edge that is nowhere open
pub spot_none : (x y : ℕ) (ls : List Ring) → ((l i : ℕ) → OpenAt ls l i x y → ⊥) → spot_of 0 x y ls ≡ nowhere
unfolding Seen
spot_none x y ls f = go (spot_of 0 x y ls) (seen 0 x y ls)
  where
    go : (r : Spot) → Seen 0 x y ls r → r ≡ nowhere
    go nowhere h = refl
    go (spot m j) h = absurd (f h.0 j h.2)

-- an edge that is open at one place
pub spot_some : (x y l i : ℕ) (ls : List Ring) → Unique ls → OpenAt ls l i x y → spot_of 0 x y ls ≡ spot l i
unfolding Seen
spot_some x y l i ls u k = go (spot_of 0 x y ls) (seen 0 x y ls)
  where
    go : (r : Spot) → Seen 0 x y ls r → r ≡ spot l i
    go nowhere h = absurd (h l i k)
    go (spot m j) h =
        let e = u x y h.0 j l i h.2 k in
        let z : 0 + h.0 ≡ h.0 = omega arith in
        ap₂ spot (h.1 ∙ (z ∙ e.0)) e.1
