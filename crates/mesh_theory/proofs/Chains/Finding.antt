-- What the walk down a chain finds is what `across` finds among the first triangles.
-- Assumes nothing.
use Prim.Native.Nat.{ℕ, zero, suc, ◌+◌, ◌*◌, ◌-◌, ◌≤◌, ◌<◌, ◌/◌, ◌%◌}
use native.Mathlib.Omega.{arith}
use mathlib.Core.Bool.{Bool, true, false, ◌&&◌}
use mathlib.Core.List.{List}
use mathlib.Core.Path.{◌≡◌, refl, sym, ap, ◌∙◌, subst}
use lib.ListN.{length, get_or}
use lib.Dec.{eqb}
use borrow.Author.Tests.{eqb-true, eqb-false}
use Rattle.rules.specs.Across.{Across}
use Rattle.rules.specs.Across.{Nothing}
use Rattle.rules.specs.Triangle.{triangles_of}
use Rattle.rules.specs.Across.{in_triangle, across}
use Rattle.mesh_theory.specs.Fans.Passing.{PassesFour}
use Rattle.mesh_theory.specs.Fans.Search.{Searched, looked_at_first}
use Rattle.mesh_theory.specs.Chains.Corner.{corner_after, first_triangles, triangle_at, seen_from}
use Rattle.mesh_theory.specs.Chains.Linked.{Chains, Newest, Older, Finds, Linked}
use Rattle.mesh_theory.proofs.Chains.Prefix.{first_more, first_all, length_first}
use Rattle.mesh_theory.proofs.Chains.Walking.{last_with, after_first, after_second, after_third, before_first, before_second}
use Rattle.mesh_theory.proofs.Chains.Walking.{before_third, At, at_latest, at_found, at_more, at_none}
use Rattle.mesh_theory.proofs.Fans.Checks.{fits_thirds}
use Rattle.mesh_theory.proofs.Fans.Finding.{pair}
use Rattle.mesh_theory.proofs.Fans.Search.{last_first, searched, never_itself}

-- the three corners of a triangle, from the last one down
with_yes : (x y : ℕ) (xs : List ℕ) (c : ℕ) → eqb (get_or xs c 0) x && eqb (get_or xs (corner_after c) 0) y ≡ true
    → last_with x y xs (suc c) ≡ seen_from xs c
unfolding last_with
with_yes x y xs c e = rw (last_with, e)

with_no : (x y : ℕ) (xs : List ℕ) (c : ℕ) → eqb (get_or xs c 0) x && eqb (get_or xs (corner_after c) 0) y ≡ false
    → last_with x y xs (suc c) ≡ last_with x y xs c
unfolding last_with
with_no x y xs c e = rw (last_with, e)

module _ (x y : ℕ) (differ : x ≡ y → ⊥) (xs : List ℕ) (n : ℕ) where
  p : ℕ
  p = get_or xs (3 * n) 0

  q : ℕ
  q = get_or xs (3 * n + 1) 0

  r : ℕ
  r = get_or xs (3 * n + 2) 0

  three : (a : Across) → last_with x y xs (3 * n) ≡ a
      → last_with x y xs (suc (3 * n + 2)) ≡ looked_at_first n (in_triangle x y (triangle_at xs n)) a
  unfolding in_triangle seen_from p q r
  three a h = go (eqb p x && eqb q y) refl (eqb q x && eqb r y) refl (eqb r x && eqb p y) refl
    where
      third_no : eqb r x && eqb p y ≡ false → last_with x y xs (suc (3 * n + 2)) ≡ last_with x y xs (suc (3 * n + 1))
      third_no e =
          let s : 3 * n + 2 ≡ suc (3 * n + 1) = omega arith in
          with_no x y xs (3 * n + 2) (rw (after_third n) e) ∙ ap (last_with x y xs) s

      second_no : eqb q x && eqb r y ≡ false → last_with x y xs (suc (3 * n + 1)) ≡ last_with x y xs (suc (3 * n))
      second_no e =
          let s : 3 * n + 1 ≡ suc (3 * n) = omega arith in
          with_no x y xs (3 * n + 1) (rw (after_second n) e) ∙ ap (last_with x y xs) s

      go : (i : Bool) → eqb p x && eqb q y ≡ i → (j : Bool) → eqb q x && eqb r y ≡ j → (k : Bool) → eqb r x && eqb p y ≡ k
          → last_with x y xs (suc (3 * n + 2)) ≡ looked_at_first n (in_triangle x y (triangle_at xs n)) a
      go true e true f k g = absurd (differ (sym (pair q r x y f).0 ∙ (pair p q x y e).1))
      go true e false f true g = absurd (differ (sym (pair p q x y e).0 ∙ (pair r p x y g).1))
      go true e false f false g =
          let d : 3 * n / 3 ≡ n = omega arith in
          let m : (3 * n + 2) % 3 ≡ 2 = omega arith in
          third_no g ∙ second_no f ∙ with_yes x y xs (3 * n) (rw (after_first n) e) ∙ rw (in_triangle, e, before_first n, d, m)
      go false e true f true g = absurd (differ (sym (pair r p x y g).0 ∙ (pair q r x y f).1))
      go false e true f false g =
          let d : (3 * n + 1) / 3 ≡ n = omega arith in
          let m : 3 * n % 3 ≡ 0 = omega arith in
          third_no g ∙ with_yes x y xs (3 * n + 1) (rw (after_second n) f) ∙ rw (in_triangle, e, f, before_second n, d, m)
      go false e false f true g =
          let d : (3 * n + 2) / 3 ≡ n = omega arith in
          let m : (3 * n + 1) % 3 ≡ 1 = omega arith in
          with_yes x y xs (3 * n + 2) (rw (after_third n) g) ∙ rw (in_triangle, e, f, g, before_third n, d, m)
      go false e false f false g =
          third_no g ∙ second_no f ∙ with_no x y xs (3 * n) (rw (after_first n) e) ∙ h ∙ rw (in_triangle, e, f, g)

pub with_across : (x y : ℕ) → (x ≡ y → ⊥) → (xs : List ℕ) (n : ℕ) → 3 * n ≤ length xs
    → last_with x y xs (3 * n) ≡ across x y (first_triangles n xs)
unfolding last_with across triangles_of
with_across x y d xs zero h = refl
with_across x y d xs (suc n) h =
    let s : 3 * suc n ≡ suc (3 * n + 2) = omega arith in
    ap (last_with x y xs) s ∙ three x y d xs n (across x y (first_triangles n xs)) (with_across x y d xs n (omega arith))
    ∙ ap (λ (k : ℕ). looked_at_first k (in_triangle x y (triangle_at xs n)) (across x y (first_triangles n xs)))
    (sym (length_first n xs (omega arith)))
    ∙ sym (last_first x y (first_triangles n xs) (triangle_at xs n)) ∙ ap (across x y) (sym (first_more n xs (omega arith)))

-- the walk for x→y, whatever number of triangles the chains hold
abbrev pub Walks : List ℕ → List ℕ → ℕ → ℕ → ℕ → Type 0
Walks xs cs x y c = (n : ℕ) → Chains xs (3 * n) cs → At xs (3 * n) x y c

module _ {xs cs : List ℕ} {x y : ℕ} where
  -- in a list that passes 1 to 4, all of it in the chains, what is found is the definition's answer for x = y too
  finds : (r : Across) → (x ≡ y → r ≡ Nothing)
      → ((n : ℕ) → Chains xs (3 * n) cs → (x ≡ y → ⊥) → r ≡ across x y (first_triangles n xs)) → Finds xs cs x y r
  finds r itself found = record {
    itself = itself;
    found = found;
    searched = λ v p k. subst (Searched xs x y) (sym (whole v p k (eqb x y) refl)) (searched xs x y);
  }
    where
      whole : (v : ℕ) → PassesFour v xs → Chains xs (length xs) cs → (b : Bool) → eqb x y ≡ b → r ≡ across x y (triangles_of xs)
      whole v p k true e =
          let same = eqb-true x y e in
          itself same ∙ sym (subst (λ (z : ℕ). across x z (triangles_of xs) ≡ Nothing) same (never_itself x (triangles_of xs) p.distinct))
      whole v p k false e =
          let long = fits_thirds (length xs) p.size in
          found (length xs / 3) (subst (λ (n : ℕ). Chains xs n cs) long k) (eqb-false x y e)
          ∙ ap (across x y) (first_all (length xs / 3) xs long)

  pub walk_start : (c : ℕ) → Newest xs cs x c → Walks xs cs x y c
  walk_start c h n k = subst (At xs (3 * n) x y) (sym (h.newest n k)) (at_latest xs (3 * n) (3 * n) x y (omega arith) refl)

  pub walk_more : (c k d : ℕ) → Walks xs cs x y c → 0 < c → k ≡ corner_after (c - 1) → (get_or xs k 0 ≡ y → ⊥) → Older cs (c - 1) d
      → Walks xs cs x y d
  walk_more c k d w l e f o n h =
      let a = w n h in
      at_more c d a l (λ q. f (ap (λ (i : ℕ). get_or xs i 0) e ∙ q)) (o.older xs (3 * n) h (omega (arith, a.bound)))

  pub walk_found : (c k : ℕ) (r : Across) → (x ≡ y → ⊥) → Walks xs cs x y c → 0 < c → k ≡ corner_after (c - 1) → get_or xs k 0 ≡ y
      → r ≡ seen_from xs (c - 1)
      → Finds xs cs x y r
  walk_found c k r differ w l e f g =
      finds r (λ s. absurd (differ s))
      (λ n h d. g ∙ at_found c (w n h) l (ap (λ (i : ℕ). get_or xs i 0) (sym e) ∙ f) ∙ with_across x y d xs n h.within)

  pub walk_none : (c : ℕ) → Walks xs cs x y c → c ≤ 0 → Finds xs cs x y Nothing
  walk_none c w l = finds Nothing (λ s. refl) (λ n h d. at_none c (w n h) l ∙ with_across x y d xs n h.within)

  pub finds_itself : x ≡ y → Finds xs cs x y Nothing
  finds_itself s = finds Nothing (λ t. refl) (λ n h d. absurd (d s))

-- the chains of a whole list
pub linked_first : (xs cs : List ℕ) → Linked xs cs → first_triangles (length xs / 3) xs ≡ triangles_of xs
linked_first xs cs k = first_all (length xs / 3) xs k.sound.long

pub linked_found : (xs cs : List ℕ) → Linked xs cs → (x y : ℕ) (r : Across) → Finds xs cs x y r → (x ≡ y → ⊥)
    → r ≡ across x y (triangles_of xs)
linked_found xs cs k x y r f d = f.found (length xs / 3) k.chains d ∙ ap (across x y) (linked_first xs cs k)
