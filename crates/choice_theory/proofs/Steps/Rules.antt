-- The edge rule, as what it says of the triangles built so far.
-- Assumes nothing.
use Prim.Native.Nat.{ℕ}
use mathlib.Core.Bool.{Bool, true, false, ◌&&◌, not, false≢true}
use mathlib.Core.List.{List}
use mathlib.Core.Path.{◌≡◌, refl, sym}
use lib.Dec.{eqb}
use borrow.Author.Tests.{eqb-true, eqb-false, eq-eqb, not-true}
use Rattle.rules.specs.declared.Triangle.{Triangle}
use Rattle.rules.specs.Triangle.{edges_of}
use Rattle.rules.specs.Count.{uses, unjoined}
use Rattle.rules.specs.Table.{glued, fresh, side_rule, edge_rule}
use Rattle.mesh_theory.proofs.Fans.Corners.{free_unused}
use Rattle.choice_theory.specs.Spots.{Unused}
use Rattle.choice_theory.proofs.Steps.Tally.{side_of}
use Rattle.counting.proofs.Bools.{and_both, and_true, not_eqb}

-- the edge rule, for the triangle b a c of an operation
pub record Rules (t : Triangle) (gA gB : Bool) (B : List Triangle) : Type 0 where
  pub apart : ((t.p ≡ t.q) → ⊥) × ((t.q ≡ t.r) → ⊥) × ((t.r ≡ t.p) → ⊥)
  pub rule_a : gA ≡ false → Unused t.q t.r B × Unused t.r t.q B
  pub rule_b : gB ≡ false → Unused t.r t.p B × Unused t.p t.r B

-- neither an edge nor its opposite is used
unjoined_unused : (x y : ℕ) (ts : List Triangle) → unjoined x y (edges_of ts) ≡ true → Unused x y ts × Unused y x ts
unjoined_unused x y ts h =
    let r = and_true (eqb (uses x y ts) 0) (eqb (uses y x ts) 0) h in
    ((free_unused x y ts).1 (eqb-true (uses x y ts) 0 r.0), (free_unused y x ts).1 (eqb-true (uses y x ts) 0 r.1))

unused_unjoined : (x y : ℕ) (ts : List Triangle) → Unused x y ts → Unused y x ts → unjoined x y (edges_of ts) ≡ true
unused_unjoined x y ts h k =
    and_both (eqb (uses x y ts) 0) (eqb (uses y x ts) 0) (eq-eqb (uses x y ts) 0 ((free_unused x y ts).0 h))
    (eq-eqb (uses y x ts) 0 ((free_unused y x ts).0 k))

side_free : (g : Bool) (x y : ℕ) (B : List Triangle) → side_rule (side_of g) x y B ≡ true → g ≡ false → Unused x y B × Unused y x B
side_free true x y B h e = absurd (false≢true (sym e))
side_free false x y B h e = unjoined_unused x y B h

pub rules_of : (t : Triangle) (gA gB : Bool) (B : List Triangle) → edge_rule t glued (side_of gA) (side_of gB) B ≡ true → Rules t gA gB B
rules_of t gA gB B h =
    let n1 = not (eqb t.p t.q) in
    let n2 = not (eqb t.q t.r) in
    let n3 = not (eqb t.r t.p) in
    let qr = side_rule (side_of gA) t.q t.r B in
    let rp = side_rule (side_of gB) t.r t.p B in
    let h1 = and_true (n1 && n2 && n3 && true && qr) rp h in
    let h2 = and_true (n1 && n2 && n3 && true) qr h1.0 in
    let h3 = and_true (n1 && n2 && n3) true h2.0 in
    let h4 = and_true (n1 && n2) n3 h3.0 in
    let h5 = and_true n1 n2 h4.0 in
    record {
      apart = (
        eqb-false t.p t.q (not-true (eqb t.p t.q) h5.0),
        eqb-false t.q t.r (not-true (eqb t.q t.r) h5.1),
        eqb-false t.r t.p (not-true (eqb t.r t.p) h4.1),
      );
      rule_a = side_free gA t.q t.r B h2.1;
      rule_b = side_free gB t.r t.p B h1.1;
    }

-- and back
side_holds : (g : Bool) (x y : ℕ) (B : List Triangle) → (g ≡ false → Unused x y B × Unused y x B) → side_rule (side_of g) x y B ≡ true
side_holds true x y B h = refl
side_holds false x y B h = let r = h refl in unused_unjoined x y B r.0 r.1

pub rule_of : (t : Triangle) (gA gB : Bool) (B : List Triangle) → Rules t gA gB B → edge_rule t glued (side_of gA) (side_of gB) B ≡ true
rule_of t gA gB B r =
    and_both _ _
    (and_both _ _
    (and_both _ true
    (and_both _ _ (and_both _ _ (not_eqb t.p t.q r.apart.0) (not_eqb t.q t.r r.apart.1))
    (not_eqb t.r t.p r.apart.2))
    refl)
    (side_holds gA t.q t.r B r.rule_a))
    (side_holds gB t.r t.p B r.rule_b)

-- where none of the sides is glued
pub rule_fresh : (t : Triangle) (B : List Triangle) → ((t.p ≡ t.q) → ⊥) × ((t.q ≡ t.r) → ⊥) × ((t.r ≡ t.p) → ⊥)
    → Unused t.p t.q B × Unused t.q t.p B → Unused t.q t.r B × Unused t.r t.q B
    → Unused t.r t.p B × Unused t.p t.r B
    → edge_rule t fresh fresh fresh B ≡ true
rule_fresh t B d pq qr rp =
    and_both _ _
    (and_both _ _
    (and_both _ _ (and_both _ _ (and_both _ _ (not_eqb t.p t.q d.0) (not_eqb t.q t.r d.1)) (not_eqb t.r t.p d.2))
    (unused_unjoined t.p t.q B pq.0 pq.1))
    (unused_unjoined t.q t.r B qr.0 qr.1))
    (unused_unjoined t.r t.p B rp.0 rp.1)
