-- The positions of the numbered vertices, in the order of their numbers.
-- Assumes nothing.
use Prim.Native.Nat.{ℕ, suc, ◌+◌, ◌*◌}
use native.Mathlib.Omega.{arith}
use mathlib.Core.Bool.{Bool, true, false, false≢true}
use mathlib.Core.List.{List, [], ◌∷◌}
use mathlib.Core.Path.{◌≡◌, refl, sym, ap, ◌∙◌}
use lib.Dec.{eqb}
use lib.IntN.{ℤ, pos}
use lib.ListN.{length, get_or}
use borrow.Author.Tests.{eqb-true}
use Rattle.rules.specs.Choice.{has}
use Rattle.rules.specs.Pack.{index_of}
use Rattle.rules.specs.Fields.{field_of}
use Rattle.rules.specs.Grid.{all_in_grid, position_bytes}
use Rattle.counting.proofs.Bools.{and_both}
use Rattle.rules.specs.Volume.{point_at}
use Rattle.rules.specs.PackWhole.{positions_of}
use Rattle.wire_theory.proofs.Positions.{length_positions}
use Rattle.wire_theory.proofs.Grid.{each_grid}

pub length_positions_of : (zs : List ℤ) (vs : List ℕ) → length (positions_of zs vs) ≡ 3 * length vs
unfolding positions_of
length_positions_of zs [] = refl
length_positions_of zs (v ∷ vs) = omega (arith, length_positions_of zs vs)

pub length_field : (tag : ℕ) (zs : List ℤ) (vs : List ℕ) → length (field_of tag (position_bytes (positions_of zs vs))) ≡ 3 + 6 * length vs
length_field tag zs vs = omega (arith, length_positions (positions_of zs vs), length_positions_of zs vs)

-- the points after the first
past_first : (a b c : ℤ) (zs : List ℤ) (i : ℕ) → point_at (a ∷ (b ∷ (c ∷ zs))) (suc i) ≡ point_at zs i
past_first a b c zs i =
    let x : 3 * suc i ≡ suc (suc (suc (3 * i))) = omega arith in
    let y : 3 * suc i + 1 ≡ suc (suc (suc (3 * i + 1))) = omega arith in
    let z : 3 * suc i + 2 ≡ suc (suc (suc (3 * i + 2))) = omega arith in
    let us = a ∷ (b ∷ (c ∷ zs)) in
    λ j. record { x = get_or us (x j) (pos 0); y = get_or us (y j) (pos 0); z = get_or us (z j) (pos 0) }

-- a vertex has its point under its new number
pub point_numbered : (zs : List ℤ) (x : ℕ) (vs : List ℕ) → has x vs ≡ true → point_at (positions_of zs vs) (index_of x vs) ≡ point_at zs x
unfolding positions_of has index_of
point_numbered zs x [] h = absurd (false≢true h)
point_numbered zs x (v ∷ vs) h = go (eqb x v) refl h (λ k. point_numbered zs x vs k)
  where
    go : (b : Bool) → eqb x v ≡ b → elim b [ true ↦ true | false ↦ has x vs ] ≡ true
        → (has x vs ≡ true → point_at (positions_of zs vs) (index_of x vs) ≡ point_at zs x)
        → point_at (positions_of zs (v ∷ vs)) (elim b [ true ↦ 0 | false ↦ suc (index_of x vs) ]) ≡ point_at zs x
    go true e k again = ap (point_at zs) (sym (eqb-true x v e))
    go false e k again =
        let p = point_at zs v in
        past_first p.x p.y p.z (positions_of zs vs) (index_of x vs) ∙ again k

-- positions in range
pub positions_in_grid : (zs : List ℤ) (vs : List ℕ) → all_in_grid zs ≡ true → all_in_grid (positions_of zs vs) ≡ true
unfolding positions_of all_in_grid
positions_in_grid zs [] h = refl
positions_in_grid zs (v ∷ vs) h =
    and_both _ _ (each_grid zs h (3 * v))
    (and_both _ _ (each_grid zs h (3 * v + 1)) (and_both _ _ (each_grid zs h (3 * v + 2)) (positions_in_grid zs vs h)))
