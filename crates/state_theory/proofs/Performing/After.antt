-- What an operation that is not refused makes of the machine.
-- Assumes nothing.
use Prim.Native.Nat.{◌≤◌, ◌<◌, max}
use native.Mathlib.Omega.{arith}
use mathlib.Core.Bool.{true}
use mathlib.Core.List.{◌∷◌}
use mathlib.Core.Path.{◌≡◌, refl}
use lib.ListN.{length}
use Rattle.rules.specs.declared.Triangle.{Triangle}
use Rattle.rules.specs.declared.Operation.{Operation}
use Rattle.rules.specs.Ring.{places}
use Rattle.rules.specs.Table.{Effect, not_allowed, builds, marks, effect}
use Rattle.rules.specs.Machine.{Machine, Step, refused, begun, built, declared, finished, within, done, operation}
use Rattle.book.specs.Consistent.{AllCurrent}
use Rattle.book.specs.Numbers.{LoopsBelow}
use Rattle.book.proofs.Kept.{test_law}
use Rattle.book.proofs.Numbers.{below_built, below_marked}

-- the machine m comes after M: within what is stated, its loops' vertices below the count so far, both peaks taken after the operation
pub record Next (M m : Machine) : Type 0 where
  pub stated : m.stated ≡ M.stated
  pub counts : within m ≡ true
  pub more : M.used ≤ m.used
  pub below : LoopsBelow m.used m.loops
  pub places : m.most_places ≡ max M.most_places (places m.loops)
  pub loops : m.most_loops ≡ max M.most_loops (length m.loops)

-- by the triangle t
pub record Built (M : Machine) (t : Triangle) (m : Machine) : Type 0 where
  pub next : Next M m
  pub triangles : m.triangles ≡ t ∷ M.triangles
  pub corners : (t.p < m.used) × (t.q < m.used) × (t.r < m.used)

-- by an edge declared border
pub record Declared (M m : Machine) : Type 0 where
  pub next : Next M m
  pub triangles : m.triangles ≡ M.triangles

abbrev pub Follows : Machine → Step → Type 0
Follows M (refused n) = Unit {0}
Follows M (begun m) = Unit {0}
Follows M (built t m) = Built M t m
Follows M (declared d m) = Declared M m
Follows M (finished x) = Unit {0}

follows_by : (M : Machine) (o : Operation) (e : Effect) → effect o M.used M.loops ≡ e → AllCurrent M.loops
    → LoopsBelow M.used M.loops
    → Follows M (done M e)
unfolding done
follows_by M o not_allowed e c h = tt
follows_by M o (builds x) e c h =
    test_law (Follows M) _ _ _ tt
    (λ w. test_law (Follows M) _ _ _ tt
    (λ rule.
    let b = below_built o M.used M.loops x.loops x.triangle x.sides.pq x.sides.qr x.sides.rp x.added.vertices
    x.added.starts x.added.unions c h e in
    record {
      next = record { stated = refl; counts = w; more = omega arith; below = b.0; places = refl; loops = refl };
      triangles = refl;
      corners = b.1;
    }))
follows_by M o (marks x) e c h =
    test_law (Follows M) _ _ _ tt
    (λ w. record {
      next = record {
        stated = refl;
        counts = w;
        more = omega arith;
        below = below_marked o M.used M.loops x.loops x.edge x.rims h e;
        places = refl;
        loops = refl;
      };
      triangles = refl;
    })

pub follows : (M : Machine) (o : Operation) → AllCurrent M.loops → LoopsBelow M.used M.loops → Follows M (operation M o)
follows M o c h = follows_by M o (effect o M.used M.loops) refl c h
