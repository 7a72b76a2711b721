-- The seven tests of a list of triangles, in their order, and the first of them that fails.
-- Assumes nothing.
use Rattle.std.specs.Prelude.{ℕ, zero, suc, ◌≤◌, ◌<◌, Bool, true, false, List, [], ◌∷◌, ◌≡◌}
use Rattle.rules.specs.declared.Triangle.{Triangle}
use Rattle.rules.specs.Checked.{Checked}
use Rattle.rules.specs.Checked.{Accepted}
use Rattle.rules.specs.Limits.{vertex_range}
use Rattle.rules.specs.Triangle.{triangles_of, corners, edges_of, In}
use Rattle.rules.specs.Count.{uses}
use Rattle.rules.specs.Fan.{OneFan, one_fan_each}
use Rattle.rules.specs.Check.{size_fits, all_below, all_distinct, none_twice, all_used, passes}
use Rattle.mesh_theory.specs.Fans.Corner.{Different}

abbrev pub tests : ℕ → List ℕ → List Bool
tests v xs =
    let ts = triangles_of xs in
    size_fits xs
    ∷ (vertex_range v
    ∷ (all_below v xs ∷ (all_distinct ts ∷ (none_twice (edges_of ts) ∷ (all_used v (corners ts) ∷ (one_fan_each v ts ∷ []))))))

-- 1 to 4 alone
abbrev pub first_four : ℕ → List ℕ → List Bool
first_four v xs = size_fits xs ∷ (vertex_range v ∷ (all_below v xs ∷ (all_distinct (triangles_of xs) ∷ [])))

-- tests in a row, of which the first has the number n
unfoldable pub tested : ℕ → List Bool → Checked
tested n [] = Accepted
tested n (b ∷ bs) = passes b n (tested (suc n) bs)

abbrev pub AllPass : List Bool → Type 0
AllPass [] = Unit {0}
AllPass (b ∷ bs) = (b ≡ true) × AllPass bs

-- k tests pass and the next one fails
abbrev pub FirstFails : ℕ → List Bool → Type 0
FirstFails k [] = ⊥
FirstFails zero (b ∷ bs) = b ≡ false
FirstFails (suc k) (b ∷ bs) = (b ≡ true) × FirstFails k bs

-- a list that passes 1 to 4
pub record PassesFour (v : ℕ) (xs : List ℕ) : Type 0 where
  pub size : size_fits xs ≡ true
  pub range : vertex_range v ≡ true
  pub below : all_below v xs ≡ true
  pub distinct : all_distinct (triangles_of xs) ≡ true

-- a list that is accepted
pub record Passes (v : ℕ) (xs : List ℕ) : Type 0 where
  pub size : size_fits xs ≡ true
  pub range : vertex_range v ≡ true
  pub below : all_below v xs ≡ true
  pub distinct : all_distinct (triangles_of xs) ≡ true
  pub once : none_twice (edges_of (triangles_of xs)) ≡ true
  pub used : all_used v (corners (triangles_of xs)) ≡ true
  pub fans : one_fan_each v (triangles_of xs) ≡ true

-- the same in the words of the rules, for the triangles of a list
pub record Mesh (v : ℕ) (ts : List Triangle) : Type 0 where
  pub below : (x y z : ℕ) → In x y z ts → x < v
  pub different : (x y z : ℕ) → In x y z ts → Different x y z
  pub once : (x y : ℕ) → uses x y ts ≤ 1
  pub used : (x : ℕ) → x < v → (y : ℕ) × (z : ℕ) × In x y z ts
  pub fan : (x : ℕ) → x < v → OneFan x ts
