-- The empty machine is fanned, and each operation keeps it so.
-- Assumes nothing.
use Prim.Native.Nat.{ℕ, ◌+◌, ◌≤◌}
use native.Mathlib.Omega.{arith}
use mathlib.Core.Bool.{Bool, true, false, ◌&&◌, false≢true}
use mathlib.Core.List.{List, ◌∷◌}
use mathlib.Core.Logic.{◌⊎◌, inl, inr}
use mathlib.Core.Path.{◌≡◌, refl, sym, ◌∙◌, subst}
use Rattle.rules.specs.declared.Triangle.{Triangle}
use Rattle.rules.specs.declared.Counts.{Counts}
use Rattle.rules.specs.declared.Operation.{Operation}
use Rattle.rules.specs.Triangle.{Edge, edge, distinct, Rot, at_p, at_q, at_r}
use Rattle.rules.specs.Fan.{about}
use Rattle.rules.specs.Ring.{Ring}
use Rattle.rules.specs.Table.{Side, Effect, not_allowed, builds, marks, effect, side_rule, edge_rule}
use Rattle.rules.specs.Machine.{Machine, empty, fresh_sides, Step, refused, begun, built, declared, finished, done, operation}
use Rattle.mesh_theory.specs.Fans.Corner.{Different}
use Rattle.mesh_theory.proofs.Fans.Corners.{rot_different}
use Rattle.mesh_theory.proofs.Fans.Tests.{distinct_different}
use Rattle.mesh_theory.proofs.Fans.About.{First, meets, misses, first}
use Rattle.book.specs.Sums.{loops_sum}
use Rattle.book.proofs.Effects.{Builds, Law, effect_law}
use Rattle.book.proofs.Kept.{test_law}
use Rattle.choice_theory.specs.Met.{met_by}
use Rattle.choice_theory.specs.Fanned.{OneChain, Unnumbered, Fanned}
use Rattle.choice_theory.proofs.OneFan.Leading.{none_chained}
use Rattle.choice_theory.proofs.OneFan.Corner.{chain_grows}
use Rattle.choice_theory.proofs.OneFan.Meeting.{NewOrMet, Meets, Meeting, meeting}
use Rattle.choice_theory.proofs.OneFan.Elsewhere.{Outside, chain_stays, still_unnumbered, fewer_outside, fewer_marked, outside}
use Rattle.counting.proofs.Bools.{and_left}

pub fanned_empty : (c : Counts) (met : ℕ → Bool) → Fanned met (empty c)
unfolding loops_sum about
fanned_empty c met = record {
  current = tt;
  unnumbered = λ v h. record { no_place = refl; no_triangle = refl };
  unmet = λ v h. record {
    one_in = omega arith;
    one_out = omega arith;
    chained = none_chained;
    finish = λ x j. absurd (omega arith);
    start =
        λ y j. absurd (omega arith);
  };
}

-- more vertices are said to be met
pub fanned_more : {met met' : ℕ → Bool} {M : Machine} → Fanned met M → ((v : ℕ) → met' v ≡ false → met v ≡ false) → Fanned met' M
fanned_more f h = record { current = f.current; unnumbered = f.unnumbered; unmet = λ v e. f.unmet v (h v e) }

-- the operation o builds t: from the loops ls and triangles ts with u numbers to the loops ls'
module _ (o : Operation) (u : ℕ) (ls ls' : List Ring) (ts : List Triangle) (t : Triangle) (pq qr rp : Side) (n s k : ℕ)
    (l : Builds u ls ls' t pq qr rp n s k) (m : Meets o u t pq qr rp) (different : Different t.p t.q t.r)
    (unnumbered : (v : ℕ) → u ≤ v → Unnumbered v ls ts) where
  -- a corner between two new edges has no number before, if it is not met
  first_there : (v : ℕ) (out back : Side) → met_by o t v ≡ false → NewOrMet o u t v out back
      → (fresh_sides out + fresh_sides back ≤ 1) ⊎ Unnumbered v ls ts
  first_there v out back f (inl h) = inl h
  first_there v out back f (inr (inl h)) = inr (unnumbered v h)
  first_there v out back f (inr (inr h)) = absurd (false≢true (sym f ∙ h))

  at_corner : (v a b : ℕ) → met_by o t v ≡ false → OneChain v ls ts → about v (t ∷ ts) ≡ edge a b ∷ about v ts → Rot t v a b
      → OneChain v ls' (t ∷ ts)
  at_corner v a b f c e r = go r
    where
      go : Rot t v a b → OneChain v ls' (t ∷ ts)
      go (at_p i j k) =
          chain_grows v a b pq qr rp ls ls' ts (t ∷ ts) (rot_different different r) (λ w. rw (← i, ← j, ← k) (l.sums w)) e c
          (first_there v pq rp f (subst (λ (x : ℕ). NewOrMet o u t x pq rp) i m.at_p))
      go (at_q i j k) =
          chain_grows v a b qr rp pq ls ls' ts (t ∷ ts) (rot_different different r) (λ w. rw (← i, ← j, ← k) (omega (arith, l.sums w))) e c
          (first_there v qr pq f (subst (λ (x : ℕ). NewOrMet o u t x qr pq) i m.at_q))
      go (at_r i j k) =
          chain_grows v a b rp pq qr ls ls' ts (t ∷ ts) (rot_different different r) (λ w. rw (← i, ← j, ← k) (omega (arith, l.sums w))) e c
          (first_there v rp qr f (subst (λ (x : ℕ). NewOrMet o u t x rp qr) i m.at_r))

  chain_kept : (v : ℕ) → met_by o t v ≡ false → OneChain v ls ts → OneChain v ls' (t ∷ ts)
  chain_kept v f c = go (first v t ts)
    where
      go : First v t ts → OneChain v ls' (t ∷ ts)
      go (meets a b r e) = at_corner v a b f c e r
      go (misses p q r e) =
          chain_stays v ls ls' ts (t ∷ ts)
          (fewer_outside v u ls ls' t pq qr rp n s k l (record { not_p = p; not_q = q; not_r = r })) e c

  unnumbered_kept : (v : ℕ) → u + n ≤ v → Unnumbered v ls' (t ∷ ts)
  unnumbered_kept v h = go (first v t ts)
    where
      old : Unnumbered v ls ts
      old = unnumbered v (omega arith)

      out : Outside v t.p t.q t.r
      out = outside v u n t.p t.q t.r ls l.numbers old.no_place h

      not_corner : {a b : ℕ} → Rot t v a b → ⊥
      not_corner (at_p i j k) = out.not_p (sym i)
      not_corner (at_q i j k) = out.not_q (sym i)
      not_corner (at_r i j k) = out.not_r (sym i)

      go : First v t ts → Unnumbered v ls' (t ∷ ts)
      go (meets a b r e) = absurd (not_corner r)
      go (misses p q r e) = still_unnumbered v ls ls' ts (t ∷ ts) (fewer_outside v u ls ls' t pq qr rp n s k l out) e old

-- what a call comes to is fanned too: after a triangle, for any vertices that are said to be met if they are
Kept : (ℕ → Bool) → Operation → Step → Type 0
Kept met o (refused n) = Unit {0}
Kept met o (begun M') = Unit {0}
Kept met o (built t M') = (met' : ℕ → Bool) → ((v : ℕ) → met' v ≡ false → (met v ≡ false) × (met_by o t v ≡ false)) → Fanned met' M'
Kept met o (declared d M') = Fanned met M'
Kept met o (finished x) = Unit {0}

rule_different : (t : Triangle) (pq qr rp : Side) (ts : List Triangle) → edge_rule t pq qr rp ts ≡ true → Different t.p t.q t.r
rule_different t pq qr rp ts h =
    let a = side_rule pq t.p t.q ts in
    let b = side_rule qr t.q t.r ts in
    let c = side_rule rp t.r t.p ts in
    (distinct_different t).0 (and_left (distinct t) a (and_left (distinct t && a) b (and_left (distinct t && a && b) c h)))

kept_by : (met : ℕ → Bool) (M : Machine) (o : Operation) → Fanned met M → (e : Effect) → Law M.used M.loops e → Meeting o M.used e
    → Kept met o (done M e)
unfolding Kept Meeting done
kept_by met M o f not_allowed l m = tt
kept_by met M o f (builds x) l m =
    test_law (Kept met o) _ _ _ tt
    (λ w. test_law (Kept met o) (edge_rule x.triangle x.sides.pq x.sides.qr x.sides.rp M.triangles) _ _ tt
    (λ rule met' unmet.
    let d = rule_different x.triangle x.sides.pq x.sides.qr x.sides.rp M.triangles rule in
    record {
      current = l.current;
      unnumbered = unnumbered_kept o M.used M.loops x.loops M.triangles x.triangle x.sides.pq x.sides.qr
          x.sides.rp x.added.vertices x.added.starts x.added.unions l m d f.unnumbered;
      unmet = λ v h.
          chain_kept o M.used M.loops x.loops M.triangles x.triangle x.sides.pq x.sides.qr
          x.sides.rp x.added.vertices x.added.starts x.added.unions l m d f.unnumbered v (unmet v h).1
          (f.unmet v (unmet v h).0);
    }))
kept_by met M o f (marks x) l m =
    test_law (Kept met o) _ _ _ tt
    (λ w. record {
      current = l.current;
      unnumbered = λ v h.
          still_unnumbered v M.loops x.loops M.triangles M.triangles
          (fewer_marked v M.loops x.loops x.edge x.rims l) refl (f.unnumbered v h);
      unmet = λ v h. chain_stays v M.loops x.loops M.triangles M.triangles
          (fewer_marked v M.loops x.loops x.edge x.rims l) refl (f.unmet v h);
    })

kept : (met : ℕ → Bool) (M : Machine) (o : Operation) → Fanned met M → Kept met o (operation M o)
kept met M o f =
    kept_by met M o f (effect o M.used M.loops) (effect_law o M.used M.loops f.current) (meeting o M.used M.loops)

-- a triangle is built: what was met, and what the operation meets, is said to be met
pub fanned_built : {met met' : ℕ → Bool} {M M' : Machine} (o : Operation) {t : Triangle} → Fanned met M → operation M o ≡ built t M'
    → ((v : ℕ) → met' v ≡ false → (met v ≡ false) × (met_by o t v ≡ false)) → Fanned met' M'
unfolding Kept
fanned_built {met} {met'} {M} o f e unmet = subst (Kept met o) e (kept met M o f) met' unmet

-- an edge is declared border
pub fanned_declared : {met : ℕ → Bool} {M M' : Machine} (o : Operation) {d : Edge} → Fanned met M → operation M o ≡ declared d M'
    → Fanned met M'
unfolding Kept
fanned_declared {met} {M} o f e = subst (Kept met o) e (kept met M o f)
