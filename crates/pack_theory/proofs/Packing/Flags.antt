-- The flags of the triangles that are built: setting one drops that triangle from those left, and the lowest one left.
-- Assumes nothing.
use Prim.Native.Nat.{ℕ, zero, suc, ◌+◌, ◌*◌, ◌≤◌, ◌<◌}
use native.Mathlib.Omega.{arith}
use mathlib.Core.Bool.{Bool, true, false, ◌&&◌}
use mathlib.Core.List.{List, [], ◌∷◌, ◌++◌}
use mathlib.Core.Path.{◌≡◌, refl, sym, ap, ◌∙◌, subst}
use mathlib.Core.Logic.{◌⊎◌, inl, inr}
use lib.ListN.{length, get_or, set, take, drop, take-append-drop, drop_of_length-le}
use lib.Seq.{get_or-set_same, get_or-set_other, length-take-le, drop-cons}
use lib.Dec.{eqb}
use borrow.Author.Tests.{eqb-true, eqb-false, eq-eqb, ne_eqb}
use Rattle.rules.specs.declared.Triangle.{Triangle}
use Rattle.rules.specs.Across.{Across}
use Rattle.rules.specs.Across.{Found, Nothing}
use Rattle.rules.specs.Across.{in_triangle, across}
use Rattle.rules.specs.Triangle.{tri, triangles_of, at_p, In, Free}
use Rattle.rules.specs.Choice.{drop_triangle}
use Rattle.mesh_theory.specs.Fans.Corner.{Once}
use Rattle.mesh_theory.specs.Chains.Corner.{triangle_at}
use Rattle.mesh_theory.proofs.Chains.Prefix.{triangles_length, triangle_at_lem}
use Rattle.choice_theory.proofs.Turning.Ways.{Told, told, across_none, look}
use Rattle.choice_theory.proofs.Turning.Links.{free_rot}
use Rattle.pack_theory.specs.Choosing.Choosable.{flag_of, unbuilt}

unbuilt_by : (fs : List ℕ) (i : ℕ) (t : Triangle) (ts : List Triangle) (b : Bool) → eqb (flag_of fs i) 0 ≡ b
    → unbuilt fs i (t ∷ ts) ≡ elim b [ true ↦ t ∷ unbuilt fs (suc i) ts | false ↦ unbuilt fs (suc i) ts ]
unfolding unbuilt
unbuilt_by fs i t ts b e = rw (unbuilt, e) refl

-- a flag before those of the list does not matter
pub unbuilt_below : (fs : List ℕ) (n x i : ℕ) (ts : List Triangle) → n < i → unbuilt (set fs n x) i ts ≡ unbuilt fs i ts
unfolding unbuilt
unbuilt_below fs n x i [] h = refl
unbuilt_below fs n x i (t ∷ ts) h =
    let q : flag_of (set fs n x) i ≡ flag_of fs i = get_or-set_other fs n i x 0 (λ e. omega (arith, h, e)) in
    unbuilt_by (set fs n x) i t ts (eqb (flag_of fs i) 0) (ap (λ (k : ℕ). eqb k 0) q)
    ∙ go (eqb (flag_of fs i) 0) refl (unbuilt_below fs n x (suc i) ts (omega arith))
  where
    go : (b : Bool) → eqb (flag_of fs i) 0 ≡ b → unbuilt (set fs n x) (suc i) ts ≡ unbuilt fs (suc i) ts
        → ◌≡◌ {A = List Triangle} (elim b [ true ↦ t ∷ unbuilt (set fs n x) (suc i) ts | false ↦ unbuilt (set fs n x) (suc i) ts ])
        (unbuilt fs i (t ∷ ts))
    go true e ih = ap (λ (l : List Triangle). t ∷ l) ih ∙ sym (unbuilt_by fs i t ts true e)
    go false e ih = ih ∙ sym (unbuilt_by fs i t ts false e)

drop_by : (x y : ℕ) (t : Triangle) (ts : List Triangle) (r : Across) → in_triangle x y t ≡ r
    → drop_triangle x y (t ∷ ts) ≡ elim r [ Found n k z ↦ ts | Nothing ↦ t ∷ drop_triangle x y ts ]
unfolding drop_triangle
drop_by x y t ts r e = rw (drop_triangle, e) refl

across_by : (x y : ℕ) (t : Triangle) (ts : List Triangle) (r : Across) → across x y ts ≡ r
    → across x y (t ∷ ts) ≡ elim r [ Found n k z ↦ Found (suc n) k z | Nothing ↦ in_triangle x y t ]
unfolding across
across_by x y t ts r e = rw (across, e) refl

-- a triangle that has not x→y is kept, if it is left
drop_keep : (x y : ℕ) (fs gs : List ℕ) (i : ℕ) (t : Triangle) (ts : List Triangle) → in_triangle x y t ≡ Nothing
    → flag_of gs i ≡ flag_of fs i
    → unbuilt gs (suc i) ts ≡ drop_triangle x y (unbuilt fs (suc i) ts) → unbuilt gs i (t ∷ ts) ≡ drop_triangle x y (unbuilt fs i (t ∷ ts))
drop_keep x y fs gs i t ts w q ih = go (eqb (flag_of fs i) 0) refl
  where
    go : (b : Bool) → eqb (flag_of fs i) 0 ≡ b → unbuilt gs i (t ∷ ts) ≡ drop_triangle x y (unbuilt fs i (t ∷ ts))
    go true e =
        unbuilt_by gs i t ts true (ap (λ (k : ℕ). eqb k 0) q ∙ e) ∙ ap (λ (l : List Triangle). t ∷ l) ih
        ∙ sym (ap (drop_triangle x y) (unbuilt_by fs i t ts true e) ∙ drop_by x y t (unbuilt fs (suc i) ts) Nothing w)
    go false e = unbuilt_by gs i t ts false (ap (λ (k : ℕ). eqb k 0) q ∙ e) ∙ ih
        ∙ sym (ap (drop_triangle x y) (unbuilt_by fs i t ts false e))

pub no_found : (n k z : ℕ) → Nothing ≡ Found n k z → ⊥
no_found n k z e = let q : ◌≡◌ {A = ℕ} 0 1 = cc in omega arith

-- where no triangle has x→y, none is dropped
drop_none : (x y : ℕ) (fs : List ℕ) (i : ℕ) (ts : List Triangle) → across x y ts ≡ Nothing
    → unbuilt fs i ts ≡ drop_triangle x y (unbuilt fs i ts)
unfolding unbuilt drop_triangle
drop_none x y fs i [] h = refl
drop_none x y fs i (t ∷ ts) h = go (across x y ts) refl (drop_none x y fs (suc i) ts)
  where
    go : (r : Across) → across x y ts ≡ r → (across x y ts ≡ Nothing → unbuilt fs (suc i) ts ≡ drop_triangle x y (unbuilt fs (suc i) ts))
        → unbuilt fs i (t ∷ ts) ≡ drop_triangle x y (unbuilt fs i (t ∷ ts))
    go (Found n k z) e ih = absurd (no_found (suc n) k z (sym h ∙ across_by x y t ts (Found n k z) e))
    go Nothing e ih = drop_keep x y fs fs i t ts (sym (across_by x y t ts Nothing e) ∙ h) refl (ih e)

found_number : (n k z n' k' z' : ℕ) → Found n k z ≡ Found n' k' z' → n ≡ n'
found_number n k z n' k' z' e = cc

told_first : (x y : ℕ) (t : Triangle) (n k z : ℕ) → in_triangle x y t ≡ Found n k z → n ≡ 0
unfolding in_triangle
told_first x y t n k z e = go (eqb t.p x && eqb t.q y) (eqb t.q x && eqb t.r y) (eqb t.r x && eqb t.p y) e
  where
    go : (a b c : Bool)
        → ◌≡◌ {A = Across} (elim a [
          | true ↦ Found 0 2 t.r
          | false ↦
              elim b [ true ↦ Found 0 0 t.p | false ↦ elim c [ true ↦ Found 0 1 t.q | false ↦ Nothing ] ]
        ]) (Found n k z)
        → n ≡ 0
    go true b c h = sym (found_number _ _ _ _ _ _ h)
    go false true c h = sym (found_number _ _ _ _ _ _ h)
    go false false true h = sym (found_number _ _ _ _ _ _ h)
    go false false false h = absurd (no_found n k z h)

-- a triangle whose edge another one of the list has does not have it
told_none : (x y : ℕ) (t : Triangle) (ts : List Triangle) (n k z : ℕ) → Once (t ∷ ts) → across x y ts ≡ Found n k z
    → in_triangle x y t ≡ Nothing
unfolding Told
told_none x y t ts n k z o h = go (in_triangle x y t) (told x y t) (look x y ts)
  where
    go : (r : Across) → Told x y t r → ((w : ℕ) × In x y w ts) ⊎ Free x y ts → r ≡ Nothing
    go Nothing a b = refl
    go (Found m j w) a (inl b) = absurd (free_rot ts o.0 a b.0 b.1)
    go (Found m j w) a (inr b) = absurd (no_found n k z (sym (across_none x y ts b) ∙ h))

-- setting the flag of the triangle that has x→y drops it from those left
pub flag_drops : (x y : ℕ) (fs : List ℕ) (i : ℕ) (ts : List Triangle) (n k z : ℕ) → Once ts → across x y ts ≡ Found n k z
    → i + length ts ≤ length fs
    → unbuilt (set fs (i + n) 1) i ts ≡ drop_triangle x y (unbuilt fs i ts)
unfolding across
flag_drops x y fs i [] n k z o h l = absurd (no_found n k z h)
flag_drops x y fs i (t ∷ ts) n k z o h l = go (across x y ts) refl (λ m j w e. flag_drops x y fs (suc i) ts m j w o.2 e (omega arith))
  where
    go : (r : Across) → across x y ts ≡ r
        → ((m j w : ℕ) → across x y ts ≡ Found m j w
        → unbuilt (set fs (suc i + m) 1) (suc i) ts ≡ drop_triangle x y (unbuilt fs (suc i) ts))
        → unbuilt (set fs (i + n) 1) i (t ∷ ts) ≡ drop_triangle x y (unbuilt fs i (t ∷ ts))
    go (Found m j w) e ih =
        let q : suc m ≡ n = found_number (suc m) j w n k z (sym (across_by x y t ts (Found m j w) e) ∙ h) in
        let r : suc i + m ≡ i + n = omega (arith, q) in
        drop_keep x y fs (set fs (i + n) 1) i t ts (told_none x y t ts m j w o e)
        (get_or-set_other fs (i + n) i 1 0 (λ d. omega (arith, d, q)))
        (subst (λ (a : ℕ). unbuilt (set fs a 1) (suc i) ts ≡ drop_triangle x y (unbuilt fs (suc i) ts)) r (ih m j w e))
    go Nothing e ih =
        let u : in_triangle x y t ≡ Found n k z = sym (across_by x y t ts Nothing e) ∙ h in
        let q : n ≡ 0 = told_first x y t n k z u in
        let s : i + n ≡ i = omega (arith, q) in
        let f : flag_of (set fs (i + n) 1) i ≡ 1 = ap (λ (a : ℕ). flag_of (set fs a 1) i) s ∙ get_or-set_same fs i 1 0 (omega (arith, l)) in
        unbuilt_by (set fs (i + n) 1) i t ts false (ap (λ (a : ℕ). eqb a 0) f)
        ∙ unbuilt_below fs (i + n) 1 (suc i) ts (omega (arith, q)) ∙ by (eqb (flag_of fs i) 0) refl u
      where
        by : (b : Bool) → eqb (flag_of fs i) 0 ≡ b → in_triangle x y t ≡ Found n k z
            → unbuilt fs (suc i) ts ≡ drop_triangle x y (unbuilt fs i (t ∷ ts))
        by true d u = sym (ap (drop_triangle x y) (unbuilt_by fs i t ts true d) ∙ drop_by x y t (unbuilt fs (suc i) ts) (Found n k z) u)
        by false d u = drop_none x y fs (suc i) ts e ∙ sym (ap (drop_triangle x y) (unbuilt_by fs i t ts false d))

-- the number of a triangle that is found is below their count
pub found_below : (x y : ℕ) (ts : List Triangle) (n k z : ℕ) → across x y ts ≡ Found n k z → n < length ts
unfolding across
found_below x y [] n k z h = absurd (no_found n k z h)
found_below x y (t ∷ ts) n k z h = go (across x y ts) refl (λ m j w e. found_below x y ts m j w e)
  where
    go : (r : Across) → across x y ts ≡ r → ((m j w : ℕ) → across x y ts ≡ Found m j w → m < length ts) → n < suc (length ts)
    go (Found m j w) e ih =
        let q : suc m ≡ n = found_number (suc m) j w n k z (sym (across_by x y t ts (Found m j w) e) ∙ h) in
        omega (arith, q, ih m j w e)
    go Nothing e ih = omega (arith, told_first x y t n k z (sym (across_by x y t ts Nothing e) ∙ h))

-- ---- the lowest triangle left

-- triangle k of a list of numbers
triangle_drop : (k : ℕ) (xs : List ℕ) → k < length (triangles_of xs)
    → drop k (triangles_of xs) ≡ triangle_at xs k ∷ drop (suc k) (triangles_of xs)
triangle_drop k xs h =
    let d = tri 0 0 0 in
    drop-cons (triangles_of xs) k d h
    ∙ ap (λ (t : Triangle). t ∷ drop (suc k) (triangles_of xs)) (triangle_at_lem xs k d (omega (arith, triangles_length xs)))

-- the first edge of a triangle is found in it, in a list that has no edge twice
across_own : (before : List Triangle) (t : Triangle) (after : List Triangle) → Once (before ++ (t ∷ after))
    → across t.p t.q (before ++ (t ∷ after)) ≡ Found (length before) 2 t.r
unfolding in_triangle
across_own [] t after o =
    across_by t.p t.q t after Nothing (none (look t.p t.q after))
    ∙ rw (in_triangle, eq-eqb t.p t.p refl, eq-eqb t.q t.q refl) refl
  where
    none : ((z : ℕ) × In t.p t.q z after) ⊎ Free t.p t.q after → across t.p t.q after ≡ Nothing
    none (inl r) = absurd (free_rot after o.0 (at_p refl refl refl) r.0 r.1)
    none (inr u) = across_none t.p t.q after u
across_own (u ∷ us) t after o =
    across_by t.p t.q u (us ++ (t ∷ after)) (Found (length us) 2 t.r) (across_own us t after o.2)

pub number_own : (k : ℕ) (xs : List ℕ) → Once (triangles_of xs) → k < length (triangles_of xs)
    → across (get_or xs (3 * k) 0) (get_or xs (3 * k + 1) 0) (triangles_of xs) ≡ Found k 2 (get_or xs (3 * k + 2) 0)
number_own k xs o h =
    let ts = triangles_of xs in
    let split : ts ≡ take k ts ++ (triangle_at xs k ∷ drop (suc k) ts) =
    sym (take-append-drop k ts) ∙ ap (λ (l : List Triangle). take k ts ++ l) (triangle_drop k xs h) in
    ap (across (get_or xs (3 * k) 0) (get_or xs (3 * k + 1) 0)) split
    ∙ across_own (take k ts) (triangle_at xs k) (drop (suc k) ts) (subst Once split o)
    ∙ ap (λ (i : ℕ). Found i 2 (get_or xs (3 * k + 2) 0)) (length-take-le k ts (omega (arith, h)))

-- those before k are built
unbuilt_shift : (fs : List ℕ) (n i : ℕ) (ts : List Triangle) → ((j : ℕ) → i ≤ j → j < i + n → flag_of fs j ≡ 0 → ⊥)
    → unbuilt fs i ts ≡ unbuilt fs (i + n) (drop n ts)
unfolding unbuilt
unbuilt_shift fs zero i ts f = let e : i + 0 ≡ i = omega arith in rw e refl
unbuilt_shift fs (suc n) i [] f = refl
unbuilt_shift fs (suc n) i (t ∷ ts) f =
    let e : suc i + n ≡ i + suc n = omega arith in
    unbuilt_by fs i t ts false (ne_eqb (flag_of fs i) 0 (f i (omega arith) (omega arith)))
    ∙ unbuilt_shift fs n (suc i) ts (λ j a b. f j (omega arith) (omega arith)) ∙ ap (λ (k : ℕ). unbuilt fs k (drop n ts)) e

pub unbuilt_from : (fs : List ℕ) (k : ℕ) (ts : List Triangle) → ((j : ℕ) → j < k → flag_of fs j ≡ 0 → ⊥)
    → unbuilt fs 0 ts ≡ unbuilt fs k (drop k ts)
unbuilt_from fs k ts f = let e : 0 + k ≡ k = omega arith in
    unbuilt_shift fs k 0 ts (λ j a b. f j (omega arith)) ∙ ap (λ (i : ℕ). unbuilt fs i (drop k ts)) e

-- the lowest triangle left is k, and those left without it
module _ (fs xs : List ℕ) (k : ℕ) (below : (j : ℕ) → j < k → flag_of fs j ≡ 0 → ⊥) (within : k < length (triangles_of xs)) where
  pub lowest_first : flag_of fs k ≡ 0
      → unbuilt fs 0 (triangles_of xs) ≡ triangle_at xs k ∷ unbuilt fs (suc k) (drop (suc k) (triangles_of xs))
  lowest_first h =
      unbuilt_from fs k (triangles_of xs) below ∙ ap (unbuilt fs k) (triangle_drop k xs within)
      ∙ unbuilt_by fs k (triangle_at xs k) (drop (suc k) (triangles_of xs)) true (eq-eqb (flag_of fs k) 0 h)

  still : length (triangles_of xs) ≤ length fs → (j : ℕ) → j < suc k → flag_of (set fs k 1) j ≡ 0 → ⊥
  still long j l = go (eqb j k) refl
    where
      go : (t : Bool) → eqb j k ≡ t → flag_of (set fs k 1) j ≡ 0 → ⊥
      go true e z =
          let q : j ≡ k = eqb-true j k e in
          let o : flag_of (set fs k 1) j ≡ 1 = ap (flag_of (set fs k 1)) q ∙ get_or-set_same fs k 1 0 (omega (arith, within, long)) in
          omega (arith, o, z)
      go false e z = below j (omega (arith, l, eqb-false j k e)) (sym (get_or-set_other fs k j 1 0 (eqb-false j k e)) ∙ z)

  pub lowest_set : length (triangles_of xs) ≤ length fs → (j : ℕ) → j < suc k → flag_of (set fs k 1) j ≡ 0 → ⊥
  lowest_set long j l = still long j l

  pub lowest_rest : length (triangles_of xs) ≤ length fs
      → unbuilt (set fs k 1) 0 (triangles_of xs) ≡ unbuilt fs (suc k) (drop (suc k) (triangles_of xs))
  lowest_rest long =
      unbuilt_from (set fs k 1) (suc k) (triangles_of xs) (still long)
      ∙ unbuilt_below fs k 1 (suc k) (drop (suc k) (triangles_of xs)) (omega arith)

-- none is left
pub lowest_none : (fs : List ℕ) (k : ℕ) (ts : List Triangle) → length ts ≤ k → ((j : ℕ) → j < k → flag_of fs j ≡ 0 → ⊥)
    → unbuilt fs 0 ts ≡ []
unfolding unbuilt
lowest_none fs k ts h f = unbuilt_from fs k ts f ∙ ap (unbuilt fs k) (drop_of_length-le ts {i = k} h)

-- all are left
pub unbuilt_all : (fs : List ℕ) (i : ℕ) (ts : List Triangle) → ((j : ℕ) → flag_of fs j ≡ 0) → unbuilt fs i ts ≡ ts
unfolding unbuilt
unbuilt_all fs i [] h = refl
unbuilt_all fs i (t ∷ ts) h =
    unbuilt_by fs i t ts true (eq-eqb (flag_of fs i) 0 (h i)) ∙ ap (λ (l : List Triangle). t ∷ l) (unbuilt_all fs (suc i) ts h)
