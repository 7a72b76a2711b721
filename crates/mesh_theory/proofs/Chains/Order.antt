-- The triangles in the order in which they were built, and the latest first: what is counted, and the fans, are the same.
-- Assumes nothing.
use Prim.Native.Nat.{ℕ, ◌+◌, ◌≤◌}
use native.Mathlib.Omega.{arith}
use mathlib.Core.Bool.{Bool, true, false, ◌&&◌}
use mathlib.Core.List.{List, [], ◌∷◌, ◌++◌}
use mathlib.Core.Path.{◌≡◌, refl, sym, ap, ap₂, ◌∙◌, subst}
use lib.ListN.{length}
use lib.Dec.{eqb}
use Rattle.rules.specs.declared.Triangle.{Triangle}
use Rattle.rules.specs.Triangle.{distinct, triangles_of, edges_of, In}
use Rattle.rules.specs.Count.{count, uses, unjoined}
use Rattle.rules.specs.Table.{Side, glued, fresh, side_rule, edge_rule}
use Rattle.rules.specs.Fan.{about, OneFan, one_run, one_fan_each}
use Rattle.rules.specs.Check.{all_distinct, none_twice}
use Rattle.rules.specs.Unpack.{numbers_of}
use Rattle.mesh_theory.proofs.Fans.Corners.{in_next, in_uses}
use Rattle.mesh_theory.proofs.Fans.Tests.{all_distinct_lem, none_twice_lem}
use Rattle.mesh_theory.proofs.Fans.OneFan.{one_fan, one_fan_each_lem}
use Rattle.mesh_theory.proofs.Chains.Prefix.{uses_append, length_numbers, triangles_append}
use Rattle.counting.proofs.Bools.{same_test}

-- as built
abbrev pub as_built : List Triangle → List Triangle
as_built us = triangles_of (numbers_of us)

built_none : as_built [] ≡ []
unfolding numbers_of triangles_of
built_none = refl

built_more : (t : Triangle) (us : List Triangle) → as_built (t ∷ us) ≡ as_built us ++ (t ∷ [])
unfolding numbers_of triangles_of
built_more t us = triangles_append (length us) (numbers_of us) (t.p ∷ (t.q ∷ (t.r ∷ []))) (length_numbers us)

pub same_uses : (x y : ℕ) (us : List Triangle) → uses x y (as_built us) ≡ uses x y us
unfolding count edges_of
same_uses x y [] = ap (λ (ts : List Triangle). uses x y ts) built_none
same_uses x y (t ∷ us) =
    ap (λ (ts : List Triangle). uses x y ts) (built_more t us) ∙ uses_append x y (as_built us) (t ∷ []) ∙ omega (arith, same_uses x y us)

-- ---- the edge rule

same_unjoined : (x y : ℕ) (us : List Triangle) → unjoined x y (edges_of (as_built us)) ≡ unjoined x y (edges_of us)
same_unjoined x y us = ap₂ (λ (a b : ℕ). eqb a 0 && eqb b 0) (same_uses x y us) (same_uses y x us)

same_side : (s : Side) (x y : ℕ) (us : List Triangle) → side_rule s x y (as_built us) ≡ side_rule s x y us
same_side glued x y us = refl
same_side fresh x y us = same_unjoined x y us

pub same_rule : (t : Triangle) (a b c : Side) (us : List Triangle) → edge_rule t a b c (as_built us) ≡ edge_rule t a b c us
same_rule t a b c us =
    ap₂ ◌&&◌ (ap₂ ◌&&◌ (ap (λ (x : Bool). distinct t && x) (same_side a t.p t.q us)) (same_side b t.q t.r us))
    (same_side c t.r t.p us)

-- ---- fans

about_cons : (v x y : ℕ) (t : Triangle) (us : List Triangle)
    → count x y (about v (t ∷ us)) ≡ count x y (about v (t ∷ [])) + count x y (about v us)
unfolding about count
about_cons v x y t us = go (eqb v t.p) refl (eqb v t.q) refl (eqb v t.r) refl
  where
    go : (a : Bool) → eqb v t.p ≡ a → (b : Bool) → eqb v t.q ≡ b → (c : Bool) → eqb v t.r ≡ c
        → count x y (about v (t ∷ us)) ≡ count x y (about v (t ∷ [])) + count x y (about v us)
    go true e b f c g = simp (about, e) (omega arith)
    go false e true f c g = simp (about, e, f) (omega arith)
    go false e false f true g = simp (about, e, f, g) (omega arith)
    go false e false f false g = simp (about, e, f, g) (omega arith)

about_append : (v x y : ℕ) (us ts : List Triangle) → count x y (about v (us ++ ts)) ≡ count x y (about v us) + count x y (about v ts)
unfolding about count
about_append v x y [] ts = omega arith
about_append v x y (t ∷ us) ts =
    about_cons v x y t (us ++ ts) ∙ omega (arith, about_append v x y us ts, about_cons v x y t us)

same_about : (v x y : ℕ) (us : List Triangle) → count x y (about v (as_built us)) ≡ count x y (about v us)
same_about v x y [] = ap (λ (ts : List Triangle). count x y (about v ts)) built_none
same_about v x y (t ∷ us) =
    ap (λ (ts : List Triangle). count x y (about v ts)) (built_more t us) ∙ about_append v x y (as_built us) (t ∷ [])
    ∙ omega (arith, same_about v x y us, about_cons v x y t us)

-- no directed edge is used twice, and none leads from a vertex to itself
module _ (us : List Triangle) (once : (x y : ℕ) → uses x y us ≤ 1) (proper : (x : ℕ) → uses x x us ≡ 0) where
  first_two : (x y z : ℕ) → In x y z us → x ≡ y → ⊥
  first_two x y z i e =
      let j : In x x z us = subst (λ (w : ℕ). In x w z us) (sym e) i in
      omega (arith, in_uses j, proper x)

  pub all_different : all_distinct us ≡ true
  all_different =
      (all_distinct_lem us).1
      (λ x y z i. record {
        x_y = first_two x y z i;
        y_z = first_two y z x (in_next i);
        z_x = first_two z x y (in_next (in_next i));
      })

  pub none_double : none_twice (edges_of us) ≡ true
  none_double = (none_twice_lem (edges_of us)).1 once

module _ (us : List Triangle) (once : (x y : ℕ) → uses x y us ≤ 1) (proper : (x : ℕ) → uses x x us ≡ 0) where
  once_built : (x y : ℕ) → uses x y (as_built us) ≤ 1
  once_built x y = omega (arith, once x y, same_uses x y us)

  proper_built : (x : ℕ) → uses x x (as_built us) ≡ 0
  proper_built x = same_uses x x us ∙ proper x

  pub built_different : all_distinct (as_built us) ≡ true
  built_different = all_different (as_built us) once_built proper_built

  pub built_once : none_twice (edges_of (as_built us)) ≡ true
  built_once = none_double (as_built us) once_built proper_built

  -- a fan, in whichever order
  fan_on : (v : ℕ) → OneFan v us → OneFan v (as_built us)
  fan_on v f = record { run = f.run; each = λ x y. f.each x y ∙ sym (same_about v x y us); shared = f.shared }

  fan_back : (v : ℕ) → OneFan v (as_built us) → OneFan v us
  fan_back v f = record { run = f.run; each = λ x y. f.each x y ∙ same_about v x y us; shared = f.shared }

  pub fan_built : (v : ℕ) → one_run (about v us) ≡ true → one_run (about v (as_built us)) ≡ true
  fan_built v h =
      (one_fan (as_built us) built_different built_once v).1
      (fan_on v ((one_fan us (all_different us once proper) (none_double us once proper) v).0 h))

  pub same_fans : (n : ℕ) → one_fan_each n (as_built us) ≡ one_fan_each n us
  same_fans n =
      let a = one_fan_each_lem us (all_different us once proper) (none_double us once proper) n in
      let b = one_fan_each_lem (as_built us) built_different built_once n in
      same_test (one_fan_each n (as_built us)) (one_fan_each n us)
      (λ h. a.1 (λ v l. fan_back v (b.0 h v l))) (λ h. b.1 (λ v l. fan_on v (a.0 h v l)))
