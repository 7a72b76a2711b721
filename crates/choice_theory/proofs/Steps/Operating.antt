-- An operation that the machine accepts: the table's effect, within the counts stated, and the edge rule.
-- Assumes nothing.
use Prim.Native.Nat.{ℕ, suc, ◌≤◌}
use mathlib.Core.Bool.{Bool, true, false, ◌&&◌}
use mathlib.Core.List.{List}
use mathlib.Core.Path.{◌≡◌, refl, ap, ◌∙◌, subst}
use lib.ListN.{length}
use lib.Dec.{leb}
use borrow.Author.Tests.{leb-true, le-leb}
use Rattle.rules.specs.declared.Triangle.{Triangle}
use Rattle.rules.specs.declared.Operation.{Operation}
use Rattle.rules.specs.Triangle.{Edge}
use Rattle.rules.specs.Ring.{Ring, places}
use Rattle.rules.specs.Table.{Side, Effect, not_allowed, builds, marks, effect, edge_rule}
use Rattle.rules.specs.Machine.{Machine, after_build, after_mark, Step, refused, begun, built, declared, finished, test, within, done}
use Rattle.rules.specs.Machine.{operation}
use Rattle.book.proofs.Parts.{building_of, marking_of}
use Rattle.counting.proofs.Bools.{and_both, and_true}
use Rattle.book.proofs.Bounds.{within_triangles}
use Rattle.book.proofs.EdgeRule.{test_passed}

-- the loops after an operation are within the counts stated
pub record Room (m : Machine) (ls : List Ring) : Type 0 where
  pub places : places ls ≤ m.stated.places
  pub loops : length ls ≤ m.stated.loops

-- it built t
pub record Built (m : Machine) (ef : Effect) (t : Triangle) (m' : Machine) : Type 0 where
  pub ls : List Ring
  pub pq : Side
  pub qr : Side
  pub rp : Side
  pub news : ℕ
  pub starts : ℕ
  pub unions : ℕ
  pub effect : ef ≡ builds (building_of ls t pq qr rp news starts unions)
  pub rule : edge_rule t pq qr rp m.triangles ≡ true
  pub room : Room m ls
  pub not_full : suc (length m.triangles) ≤ m.stated.triangles
  pub after : m' ≡ after_build m (building_of ls t pq qr rp news starts unions)

-- it declared d border
pub record Declared (m : Machine) (ef : Effect) (d : Edge) (m' : Machine) : Type 0 where
  pub ls : List Ring
  pub rim : ℕ
  pub effect : ef ≡ marks (marking_of ls d rim)
  pub room : Room m ls
  pub after : m' ≡ after_mark m (marking_of ls d rim)

abbrev Came : Machine → Effect → Step → Type 0
Came m ef (refused n) = Unit {0}
Came m ef (begun m') = ⊥
Came m ef (built t m') = Built m ef t m'
Came m ef (declared d m') = Declared m ef d m'
Came m ef (finished x) = ⊥

came_test : (m : Machine) (ef : Effect) (b : Bool) (n : ℕ) (s : Step) → (b ≡ true → Came m ef s) → Came m ef (test b n s)
unfolding test
came_test m ef true n s h = h refl
came_test m ef false n s h = tt

room_of : (m m' : Machine) → m'.stated ≡ m.stated → within m' ≡ true → Room m m'.loops
room_of m m' e h =
    let a = and_true (leb m'.used m'.stated.vertices && leb (length m'.triangles) m'.stated.triangles
    && leb (places m'.loops) m'.stated.places) (leb (length m'.loops) m'.stated.loops) h in
    let b = and_true (leb m'.used m'.stated.vertices && leb (length m'.triangles) m'.stated.triangles)
    (leb (places m'.loops) m'.stated.places) a.0 in
    record {
      places = subst (λ k. places m'.loops ≤ k.places) e (leb-true (places m'.loops) m'.stated.places b.1);
      loops = subst (λ k. length m'.loops ≤ k.loops) e (leb-true (length m'.loops) m'.stated.loops a.1);
    }

came : (m : Machine) (ef : Effect) → Came m ef (done m ef)
unfolding done
came m not_allowed = tt
came m (builds x) =
    came_test m (builds x) _ 17 _
    (λ w. came_test m (builds x) _ 18 (built x.triangle (after_build m x))
    (λ r. record {
      ls = x.loops;
      pq = x.sides.pq;
      qr = x.sides.qr;
      rp = x.sides.rp;
      news = x.added.vertices;
      starts = x.added.starts;
      unions = x.added.unions;
      effect = refl;
      rule = r;
      room = room_of m (after_build m x) refl w;
      not_full = within_triangles (after_build m x) w;
      after = refl;
    }))
came m (marks x) =
    came_test m (marks x) _ 17 (declared x.edge (after_mark m x))
    (λ w. record { ls = x.loops; rim = x.rims; effect = refl; room = room_of m (after_mark m x) refl w; after = refl })

pub built_of : (m : Machine) (ef : Effect) (t : Triangle) (m' : Machine) → done m ef ≡ built t m' → Built m ef t m'
built_of m ef t m' h = subst (Came m ef) h (came m ef)

pub declared_of : (m : Machine) (ef : Effect) (d : Edge) (m' : Machine) → done m ef ≡ declared d m' → Declared m ef d m'
declared_of m ef d m' h = subst (Came m ef) h (came m ef)

-- the counts stated are enough
pub within_of : (m : Machine) → m.used ≤ m.stated.vertices → length m.triangles ≤ m.stated.triangles
    → places m.loops ≤ m.stated.places
    → length m.loops ≤ m.stated.loops → within m ≡ true
within_of m a b c d =
    and_both _ _ (and_both _ _
    (and_both _ _ (le-leb m.used m.stated.vertices a) (le-leb (length m.triangles) m.stated.triangles b))
    (le-leb (places m.loops) m.stated.places c))
    (le-leb (length m.loops) m.stated.loops d)

-- so an operation that the table and the edge rule allow is accepted
pub operation_built : (m : Machine) (o : Operation) (ls : List Ring) (t : Triangle) (pq qr rp : Side) (n s k : ℕ)
    → effect o m.used m.loops ≡ builds (building_of ls t pq qr rp n s k)
    → within (after_build m (building_of ls t pq qr rp n s k)) ≡ true
    → edge_rule t pq qr rp m.triangles ≡ true → operation m o ≡ built t (after_build m (building_of ls t pq qr rp n s k))
unfolding done
operation_built m o ls t pq qr rp n s k e w r =
    ap (done m) e ∙ (test_passed (within (after_build m (building_of ls t pq qr rp n s k))) 17 _ w
    ∙ test_passed (edge_rule t pq qr rp m.triangles) 18 _ r)

pub operation_declared : (m : Machine) (o : Operation) (ls : List Ring) (d : Edge) (n : ℕ)
    → effect o m.used m.loops ≡ marks (marking_of ls d n)
    → within (after_mark m (marking_of ls d n)) ≡ true → operation m o ≡ declared d (after_mark m (marking_of ls d n))
unfolding done
operation_declared m o ls d n e w = ap (done m) e ∙ test_passed (within (after_mark m (marking_of ls d n))) 17 _ w
