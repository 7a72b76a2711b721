-- The tests of 3 and 4, number by number and triangle by triangle, and the linking of a whole list.
-- Assumes nothing.
use Prim.Native.Nat.{ℕ, zero, suc, ◌+◌, ◌*◌, ◌/◌, ◌≤◌, ◌<◌}
use native.Mathlib.Omega.{arith}
use mathlib.Core.Bool.{Bool, true, false, ◌&&◌, not}
use mathlib.Core.List.{List, [], ◌∷◌}
use mathlib.Core.Path.{◌≡◌, refl, sym, ap, ◌∙◌, subst}
use lib.ListN.{length, get_or, drop, drop_of_length-le}
use lib.Seq.{drop-cons}
use lib.Dec.{eqb, ltb}
use borrow.Author.Tests.{eq-eqb, ne_eqb, ltb-true, lt-ltb, le-ltb, not-true, not-false}
use Rattle.rules.specs.Triangle.{tri, distinct, triangles_of}
use Rattle.rules.specs.Check.{all_below, all_distinct}
use Rattle.mesh_theory.specs.Chains.Corner.{triangle_at}
use Rattle.mesh_theory.specs.Chains.Linked.{Chains, Sound, relinked}
use Rattle.mesh_theory.proofs.Chains.Linking.{triangle_linked}
use Rattle.counting.proofs.Bools.{and_left, and_right, and_no, and_yes}

-- 3: u tells whether the first i numbers are below v
unfoldable pub BelowTo : ℕ → List ℕ → ℕ → Bool → Type 0
BelowTo v xs i u = u && all_below v (drop i xs) ≡ all_below v xs

pub below_from : (v : ℕ) (xs : List ℕ) → BelowTo v xs 0 true
unfolding BelowTo
below_from v xs = refl

module _ (v : ℕ) (xs : List ℕ) (i : ℕ) (u w : Bool) (to : BelowTo v xs i u) where
  pub below_more : (x : ℕ) → x ≡ get_or xs i 0 → i < length xs → x < v → w ≡ u → BelowTo v xs (i + 1) w
  unfolding BelowTo all_below
  below_more x e h l' k =
      let l : get_or xs i 0 < v = omega arith in
      let s : i + 1 ≡ suc i = omega arith in
      ap (λ (j : ℕ). w && all_below v (drop j xs)) s ∙ ap (λ (b : Bool). b && all_below v (drop (suc i) xs)) k
      ∙ sym (rw (drop-cons xs i 0 h, lt-ltb (get_or xs i 0) v l)) ∙ to

  pub below_not : (x : ℕ) → x ≡ get_or xs i 0 → i < length xs → v ≤ x → w ≡ false → BelowTo v xs (i + 1) w
  unfolding BelowTo all_below
  below_not x e h l' k =
      let l : v ≤ get_or xs i 0 = omega arith in
      ap (λ (b : Bool). b && all_below v (drop (i + 1) xs)) k
      ∙ sym (and_no u (all_below v (drop i xs)) (rw (drop-cons xs i 0 h, le-ltb (get_or xs i 0) v l) refl)) ∙ to

pub below_all : (v : ℕ) (xs : List ℕ) (i : ℕ) (u : Bool) → BelowTo v xs i u → length xs ≤ i → u ≡ all_below v xs
unfolding BelowTo all_below
below_all v xs i u to h = sym (rw (drop_of_length-le xs h) (and_yes u)) ∙ to

pub below_each : (v : ℕ) (xs : List ℕ) → all_below v xs ≡ true → (c : ℕ) → c < length xs → get_or xs c 0 < v
unfolding all_below
below_each v [] h c l = absurd (omega arith)
below_each v (x ∷ xs) h zero l = ltb-true x v (and_left (ltb x v) (all_below v xs) h)
below_each v (x ∷ xs) h (suc c) l = below_each v xs (and_right (ltb x v) (all_below v xs) h) c (omega arith)

-- 4
module _ (p q r : ℕ) where
  pub same_first : p ≡ q → false ≡ distinct (tri p q r)
  same_first e = sym (ap (λ (b : Bool). not b && not (eqb q r) && not (eqb r p)) (eq-eqb p q e))

  pub same_second : (p ≡ q → ⊥) → q ≡ r → false ≡ distinct (tri p q r)
  same_second d e =
      sym
      (ap (λ (b : Bool). not b && not (eqb q r) && not (eqb r p)) (ne_eqb p q d)
      ∙ ap (λ (b : Bool). not b && not (eqb r p)) (eq-eqb q r e))

  pub same_third : (p ≡ q → ⊥) → (q ≡ r → ⊥) → not (eqb r p) ≡ distinct (tri p q r)
  same_third d e =
      sym
      (ap (λ (b : Bool). not b && not (eqb q r) && not (eqb r p)) (ne_eqb p q d)
      ∙ ap (λ (b : Bool). not b && not (eqb r p)) (ne_eqb q r e))

drop_three : (xs : List ℕ) (t : ℕ) → 3 * t + 3 ≤ length xs
    → triangles_of (drop (3 * t) xs) ≡ triangle_at xs t ∷ triangles_of (drop (3 * (t + 1)) xs)
unfolding triangles_of
drop_three xs t h =
    let a : 3 * t + 1 ≡ suc (3 * t) = omega arith in
    let b : 3 * t + 2 ≡ suc (suc (3 * t)) = omega arith in
    let c : 3 * (t + 1) ≡ suc (suc (suc (3 * t))) = omega arith in
    rw (
      c,
      a,
      b,
      drop-cons xs (3 * t) 0 (omega arith),
      drop-cons xs (suc (3 * t)) 0 (omega arith),
      drop-cons xs
          (suc (suc (3 * t))) 0 (omega arith),
    )

module _ (xs : List ℕ) (t : ℕ) (same : all_distinct (triangles_of (drop (3 * t) xs)) ≡ all_distinct (triangles_of xs)) where
  pub distinct_more : (b : Bool) → 3 * t + 3 ≤ length xs → b ≡ distinct (triangle_at xs t) → not b ≡ false
      → all_distinct (triangles_of (drop (3 * (t + 1)) xs)) ≡ all_distinct (triangles_of xs)
  unfolding all_distinct
  distinct_more b h i n =
      let d = sym i ∙ not-false b n in
      sym (ap all_distinct (drop_three xs t h) ∙ ap (λ (b : Bool). b && all_distinct (triangles_of (drop (3 * (t + 1)) xs))) d)
      ∙ same

  pub distinct_not : (b : Bool) → 3 * t + 3 ≤ length xs → b ≡ distinct (triangle_at xs t) → not b ≡ true
      → false ≡ all_distinct (triangles_of xs)
  unfolding all_distinct
  distinct_not b h i n =
      let d = sym i ∙ not-true b n in
      sym (ap all_distinct (drop_three xs t h) ∙ ap (λ (b : Bool). b && all_distinct (triangles_of (drop (3 * (t + 1)) xs))) d)
      ∙ same

  pub distinct_all : length xs ≤ 3 * t → true ≡ all_distinct (triangles_of xs)
  unfolding all_distinct triangles_of
  distinct_all h = sym (ap (λ (ys : List ℕ). all_distinct (triangles_of ys)) (drop_of_length-le xs h)) ∙ same

-- the linking of a whole list, one triangle after the other
sound_linked : {xs cs : List ℕ} (t : ℕ) → Sound xs → t < length xs / 3 → Chains xs (3 * t) cs → (cs' : List ℕ)
    → cs' ≡ relinked cs t (get_or xs (3 * t) 0) (get_or xs (3 * t + 1) 0) (get_or xs (3 * t + 2) 0) → Chains xs (3 * (t + 1)) cs'
sound_linked {xs} {cs} t s h k cs' e =
    let below = s.below in
    triangle_linked xs t cs k (omega (arith, s.long)) _ _ _ refl refl refl (omega (arith, s.most)) (below (3 * t) (omega arith))
    (below (3 * t + 1) (omega arith)) (below (3 * t + 2) (omega arith)) cs' e

pub record LinkedUpTo (xs : List ℕ) (t : ℕ) (cs : List ℕ) : Type 0 where
  pub sound : Sound xs
  pub chains : Chains xs (3 * t) cs

pub up_to_more : {xs cs : List ℕ} (t : ℕ) → LinkedUpTo xs t cs → t < length xs / 3 → (cs' : List ℕ)
    → cs' ≡ relinked cs t (get_or xs (3 * t) 0) (get_or xs (3 * t + 1) 0) (get_or xs (3 * t + 2) 0) → LinkedUpTo xs (t + 1) cs'
up_to_more t k h cs' e = record { sound = k.sound; chains = sound_linked t k.sound h k.chains cs' e }

pub up_to_all : {xs cs : List ℕ} (t : ℕ) → LinkedUpTo xs t cs → length xs / 3 ≤ t → Chains xs (length xs) cs
up_to_all {xs} {cs} t k h =
    let e : 3 * t ≡ length xs = omega (arith, k.sound.long, k.chains.within) in
    subst (λ (n : ℕ). Chains xs n cs) e k.chains
