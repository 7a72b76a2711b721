-- The search of the buffer is the edge rule's test; and laws that the functions' proofs cite.
-- Assumes nothing.
use Prim.Native.Nat.{ℕ, zero, suc, ◌+◌, ◌-◌, ◌*◌, ◌≤◌, ◌<◌}
use native.Mathlib.Omega.{arith}
use mathlib.Core.Bool.{Bool, true, false, ◌&&◌, ◌||◌, not}
use mathlib.Core.List.{List, ◌∷◌}
use mathlib.Core.Path.{◌≡◌, refl, sym, ap, ap₂, ◌∙◌, subst}
use lib.ListN.{get_or}
use lib.Dec.{eqb}
use borrow.Author.Tests.{ne_eqb}
use Rattle.rules.specs.Triangle.{Edge, edge, edges_of}
use Rattle.rules.specs.Count.{num, hit, count, unjoined}
use Rattle.rules.specs.Table.{side_rule}
use Rattle.rules.specs.View.{triangles_built}
use Rattle.border_theory.specs.Memory.Decision.{side_of}
use Rattle.edges.specs.Joined.{is_edge, is_pair, joins_at, none_joins}

-- one edge more
add_hit : (a : Bool) (c : ℕ) → eqb (num a + c) 0 ≡ not a && eqb c 0
add_hit true c = ne_eqb (1 + c) 0 (λ e. omega (arith, e))
add_hit false c = let e : 0 + c ≡ c = omega arith in ap (λ (x : ℕ). eqb x 0) e

both : (a b e f : Bool) → (not a && e) && (not b && f) ≡ elim (a || b) [ true ↦ false | false ↦ e && f ]
both true b e f = refl
both false true true f = refl
both false true false f = refl
both false false e f = refl

unjoined_more : (p q x y : ℕ) (ds : List Edge)
    → unjoined x y (edge p q ∷ ds) ≡ elim (is_pair p q x y) [ true ↦ false | false ↦ unjoined x y ds ]
unfolding count hit is_pair is_edge
unjoined_more p q x y ds =
    ap₂ ◌&&◌ (add_hit (eqb x p && eqb y q) (count x y ds)) (add_hit (eqb y p && eqb x q) (count y x ds))
    ∙ both (eqb x p && eqb y q) (eqb y p && eqb x q) (eqb (count x y ds) 0) (eqb (count y x ds) 0)

three : (a b c z : Bool)
    → ◌≡◌ {A = Bool} (elim (a || (b || c)) [ true ↦ false | false ↦ z ])
    (elim a [ true ↦ false | false ↦ elim b [ true ↦ false | false ↦ elim c [ true ↦ false | false ↦ z ] ] ])
three true b c z = refl
three false true c z = refl
three false false c z = refl

-- the search is the definition's count
pub none_unjoined : (xs : List ℕ) (n x y : ℕ) → none_joins xs n x y ≡ unjoined x y (edges_of (triangles_built xs n))
unfolding none_joins triangles_built edges_of joins_at
none_unjoined xs zero x y = unfold count in refl
none_unjoined xs (suc n) x y =
    let p = get_or xs (3 * n) 0 in
    let q = get_or xs (3 * n + 1) 0 in
    let r = get_or xs (3 * n + 2) 0 in
    let ds : List Edge = edges_of (triangles_built xs n) in
    three (is_pair r p x y) (is_pair q r x y) (is_pair p q x y) (none_joins xs n x y)
    ∙ ap (λ (z : Bool). elim (is_pair r p x y)
    [ true ↦ false | false ↦ elim (is_pair q r x y) [ true ↦ false | false ↦ elim (is_pair p q x y) [ true ↦ false | false ↦ z ] ] ])
    (none_unjoined xs n x y)
    ∙ sym
    (unjoined_more r p x y (edge q r ∷ (edge p q ∷ ds))
    ∙ ap (λ (z : Bool). elim (is_pair r p x y) [ true ↦ false | false ↦ z ])
    (unjoined_more q r x y (edge p q ∷ ds)
    ∙ ap (λ (z : Bool). elim (is_pair q r x y) [ true ↦ false | false ↦ z ]) (unjoined_more p q x y ds)))

module _ (xs : List ℕ) (x y : ℕ) where
  pub none_here : (n j : ℕ) (t : Bool) → 0 < j → none_joins xs j x y ≡ none_joins xs n x y → t ≡ joins_at xs (j - 1) x y → t ≡ true
      → false ≡ none_joins xs n x y
  unfolding none_joins
  none_here n zero t l e f h = absurd (omega arith)
  none_here n (suc j) t l e f h =
      let d : suc j - 1 ≡ j = omega arith in
      let z : joins_at xs j x y ≡ true = ap (λ (k : ℕ). joins_at xs k x y) (sym d) ∙ sym f ∙ h in
      subst (λ (k : Bool). elim k [ true ↦ false | false ↦ none_joins xs j x y ] ≡ none_joins xs n x y) z e

  pub none_before : (n j : ℕ) (t : Bool) → 0 < j → none_joins xs j x y ≡ none_joins xs n x y → t ≡ joins_at xs (j - 1) x y → t ≡ false
      → none_joins xs (j - 1) x y ≡ none_joins xs n x y
  unfolding none_joins
  none_before n zero t l e f h = absurd (omega arith)
  none_before n (suc j) t l e f h =
      let d : suc j - 1 ≡ j = omega arith in
      let z : joins_at xs j x y ≡ false = ap (λ (k : ℕ). joins_at xs k x y) (sym d) ∙ sym f ∙ h in
      rw d (subst (λ (k : Bool). elim k [ true ↦ false | false ↦ none_joins xs j x y ] ≡ none_joins xs n x y) z e)

  pub none_left : (n j : ℕ) → j ≤ 0 → none_joins xs j x y ≡ none_joins xs n x y → true ≡ none_joins xs n x y
  unfolding none_joins
  none_left n zero l e = e
  none_left n (suc j) l e = absurd (omega arith)

  pub side_glued : (n s : ℕ) → s ≡ 0 → false ≡ not (side_rule (side_of s) x y (triangles_built xs n))
  side_glued n s e = rw e

  pub side_fresh : (n s : ℕ) (t r : Bool) → (s ≡ 0 → ⊥) → t ≡ none_joins xs n x y → t ≡ r
      → not r ≡ not (side_rule (side_of s) x y (triangles_built xs n))
  side_fresh n zero t r z e h = absurd (z refl)
  side_fresh n (suc s) t r z e h = ap not (sym h ∙ e ∙ none_unjoined xs n x y)
