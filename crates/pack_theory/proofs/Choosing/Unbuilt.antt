-- The triangles that are not built: what a look-up in the whole list tells of them.
-- Assumes nothing.
use Prim.Native.Nat.{ℕ, zero, suc, ◌+◌, ◌≤◌}
use native.Mathlib.Omega.{arith}
use mathlib.Core.Bool.{Bool, true, false}
use mathlib.Core.List.{List, [], ◌∷◌, ◌++◌}
use mathlib.Core.Path.{◌≡◌, refl, sym, ap, ◌∙◌, subst}
use lib.ListN.{length}
use lib.Dec.{eqb}
use borrow.Author.Tests.{eqb-true, eq-eqb}
use Rattle.rules.specs.declared.Triangle.{Triangle}
use Rattle.rules.specs.Across.{Found}
use Rattle.rules.specs.Across.{across}
use Rattle.rules.specs.Triangle.{Rot, In, here, there}
use Rattle.mesh_theory.specs.Fans.Corner.{Once}
use Rattle.mesh_theory.proofs.Fans.Corners.{rot_next}
use Rattle.mesh_theory.proofs.Fans.Finding.{across_found}
use Rattle.choice_theory.specs.Spots.{Unused}
use Rattle.choice_theory.proofs.Turning.Links.{free_rot}
use Rattle.pack_theory.specs.Choosing.Choosable.{flag_of, unbuilt}

-- triangle n of the list is x y z
pub data Stand (x y z : ℕ) : ℕ → List Triangle → Type 0 where
  first : {t : Triangle} {ts : List Triangle} → Rot t x y z → Stand x y z zero (t ∷ ts)
  later : {n : ℕ} {t : Triangle} {ts : List Triangle} → Stand x y z n ts → Stand x y z (suc n) (t ∷ ts)

stand_in : {x y z n : ℕ} {ts : List Triangle} → Stand x y z n ts → In x y z ts
stand_in (first r) = here r
stand_in (later s) = there (stand_in s)

stand_at : {x y z : ℕ} (us : List Triangle) (t : Triangle) (vs : List Triangle) → Rot t x y z → Stand x y z (length us) (us ++ (t ∷ vs))
stand_at [] t vs r = first r
stand_at (u ∷ us) t vs r = later (stand_at us t vs r)

pub stand_found : (x y : ℕ) (ts : List Triangle) (n k z : ℕ) → across x y ts ≡ Found n k z → Stand x y z n ts
stand_found x y ts n k z e =
    let f = across_found x y ts n k z e in
    subst (λ (i : ℕ). Stand x y z i ts) f.place
    (subst (Stand x y z (length f.before)) (sym f.whole) (stand_at f.before f.triangle f.after f.seen))

-- seen from another corner
pub stand_next : {x y z n : ℕ} {ts : List Triangle} → Stand x y z n ts → Stand y z x n ts
stand_next (first r) = first (rot_next r)
stand_next (later s) = later (stand_next s)

pub stand_last : {x y z n : ℕ} {ts : List Triangle} → Stand x y z n ts → Stand z x y n ts
stand_last s = stand_next (stand_next s)

module _ (flags : List ℕ) where
  -- they are triangles of the list
  in_one : {x y z : ℕ} (i : ℕ) (t : Triangle) (ts : List Triangle) (b : Bool) → (In x y z (unbuilt flags (suc i) ts) → In x y z ts)
      → In x y z (elim b [ true ↦ t ∷ unbuilt flags (suc i) ts | false ↦ unbuilt flags (suc i) ts ]) → In x y z (t ∷ ts)
  in_one i t ts true rest (here r) = here r
  in_one i t ts true rest (there k) = there (rest k)
  in_one i t ts false rest k = there (rest k)

  pub unbuilt_in : {x y z : ℕ} (i : ℕ) (ts : List Triangle) → In x y z (unbuilt flags i ts) → In x y z ts
  unfolding unbuilt
  unbuilt_in i [] j = j
  unbuilt_in i (t ∷ ts) j = in_one i t ts (eqb (flag_of flags i) 0) (unbuilt_in (suc i) ts) j

  unbuilt_free : {x y : ℕ} (i : ℕ) (ts : List Triangle) → Unused x y ts → Unused x y (unbuilt flags i ts)
  unbuilt_free i ts f z j = f z (unbuilt_in i ts j)

  pub unbuilt_once : (i : ℕ) (ts : List Triangle) → Once ts → Once (unbuilt flags i ts)
  unfolding unbuilt
  unbuilt_once i [] o = tt
  unbuilt_once i (t ∷ ts) o = go (eqb (flag_of flags i) 0) (unbuilt_once (suc i) ts o.2)
    where
      go : (b : Bool) → Once (unbuilt flags (suc i) ts)
          → Once (elim b [ true ↦ t ∷ unbuilt flags (suc i) ts | false ↦ unbuilt flags (suc i) ts ])
      go true k = ((unbuilt_free (suc i) ts o.0.0, unbuilt_free (suc i) ts o.0.1, unbuilt_free (suc i) ts o.0.2), o.1, k)
      go false k = k

  pub unbuilt_length : (i : ℕ) (ts : List Triangle) → length (unbuilt flags i ts) ≤ length ts
  unfolding unbuilt
  unbuilt_length i [] = omega arith
  unbuilt_length i (t ∷ ts) = go (eqb (flag_of flags i) 0) (unbuilt_length (suc i) ts)
    where
      go : (b : Bool) → length (unbuilt flags (suc i) ts) ≤ length ts
          → length {A = Triangle} (elim b [ true ↦ t ∷ unbuilt flags (suc i) ts | false ↦ unbuilt flags (suc i) ts ]) ≤ suc (length ts)
      go true k = omega (arith, k)
      go false k = omega (arith, k)

  -- the triangle of an edge, if its flag is 0
  pub unbuilt_has : {x y z : ℕ} (i n : ℕ) (ts : List Triangle) → Stand x y z n ts → flag_of flags (i + n) ≡ 0
      → In x y z (unbuilt flags i ts)
  unfolding unbuilt
  unbuilt_has i zero (t ∷ ts) (first r) e =
      let z : i + 0 ≡ i = omega arith in
      let q : eqb (flag_of flags i) 0 ≡ true = eq-eqb _ _ (ap (flag_of flags) (sym z) ∙ e) in
      rw (unbuilt, q) (here r)
  unbuilt_has {x} {y} {z} i (suc n) (t ∷ ts) (later s) e =
      let q : suc i + n ≡ i + suc n = omega arith in
      go (eqb (flag_of flags i) 0) (unbuilt_has (suc i) n ts s (ap (flag_of flags) q ∙ e))
    where
      go : (b : Bool) → In x y z (unbuilt flags (suc i) ts)
          → In x y z (elim b [ true ↦ t ∷ unbuilt flags (suc i) ts | false ↦ unbuilt flags (suc i) ts ])
      go true k = there k
      go false k = k
  unbuilt_has {x = x} {y = y} {z = z} i zero [] x5 e = elim x5 [ ]
  unbuilt_has {x = x} {y = y} {z = z} i (suc n) [] x6 e = elim x6 [ ]

  -- no triangle has the edge, if it is built
  pub unbuilt_gone : {x y z : ℕ} (i n : ℕ) (ts : List Triangle) → Once ts → Stand x y z n ts → (flag_of flags (i + n) ≡ 0 → ⊥)
      → Unused x y (unbuilt flags i ts)
  unfolding unbuilt
  unbuilt_gone {x} {y} i zero (t ∷ ts) o (first r) h w j = go (eqb (flag_of flags i) 0) refl j
    where
      go : (b : Bool) → eqb (flag_of flags i) 0 ≡ b
          → In x y w (elim b [ true ↦ t ∷ unbuilt flags (suc i) ts | false ↦ unbuilt flags (suc i) ts ]) → ⊥
      go true e k = let z : i + 0 ≡ i = omega arith in h (ap (flag_of flags) z ∙ eqb-true _ _ e)
      go false e k = free_rot ts o.0 r w (unbuilt_in (suc i) ts k)
  unbuilt_gone {x} {y} i (suc n) (t ∷ ts) o (later s) h w j =
      let q : suc i + n ≡ i + suc n = omega arith in
      go (eqb (flag_of flags i) 0) (unbuilt_gone (suc i) n ts o.2 s (λ e. h (ap (flag_of flags) (sym q) ∙ e)) w) j
    where
      go : (b : Bool) → (In x y w (unbuilt flags (suc i) ts) → ⊥)
          → In x y w (elim b [ true ↦ t ∷ unbuilt flags (suc i) ts | false ↦ unbuilt flags (suc i) ts ]) → ⊥
      go true rest (here r) = free_rot ts o.0 r _ (stand_in s)
      go true rest (there k) = rest k
      go false rest k = rest k
  unbuilt_gone {x = x} {y = y} {z = z} i zero [] o x9 h w j = elim x9 [ ]
  unbuilt_gone {x = x} {y = y} {z = z} i (suc n) [] o x10 h w j = elim x10 [ ]
