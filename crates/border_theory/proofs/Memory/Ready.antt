-- What a state that is ready gives each function of the core.
-- Assumes nothing.
use Prim.Native.Nat.{ℕ, ◌≤◌}
use native.Mathlib.Omega.{arith}
use mathlib.Core.Bool.{Bool, true, ◌&&◌, false≢true}
use mathlib.Core.List.{List, [], ◌∷◌}
use mathlib.Core.Path.{◌≡◌, refl, ap}
use lib.ListN.{length}
use lib.Dec.{leb}
use borrow.Author.Tests.{leb-true}
use Rattle.rules.specs.declared.Counts.{Counts}
use Rattle.rules.specs.Ring.{opened, marked, Ring, last_open}
use Rattle.rules.specs.Machine.{Machine}
use Rattle.book.specs.Consistent.{Ranges}
use Rattle.border_theory.proofs.Links.Stores.{cut_next}
use Rattle.cutborder.specs.declared.Loops.{Loops}
use Rattle.cutborder.specs.declared.Front.{Front}
use Rattle.border_theory.specs.Memory.Stands.{rings_in, StandsAt}
use Rattle.border_theory.specs.Memory.Near.{Near, Borders}
use Rattle.border_theory.specs.Memory.Moves.{next_cut, both_cut}
use Rattle.border_theory.specs.Memory.Keeps.{Keeps, Ready}
use Rattle.border_theory.specs.Memory.Performs.{Proposable}
use Rattle.border_theory.proofs.Memory.Room.{room}
use Rattle.border_theory.proofs.Memory.Cut.{cut_last}
use Rattle.border_theory.proofs.Memory.Border.{next, both}
use Rattle.border_theory.proofs.Memory.Near.{near}
use Rattle.counting.proofs.Bools.{and_left, and_right}
use Rattle.counting.proofs.Ranges.{in_range_lem}

pub ready_near : (n : ℕ) (s : Front) (m : List ℕ) → Ready n s m → (s.loops.live ≡ 0 → ⊥) → Near n s.loops m
ready_near n s m r h = near n s.loops m r.roomy.few (rings_in n s.loops m) r.stands (omega (arith, h))

-- an edge that can be marked
borders : (n : ℕ) (l : Loops) (m : List ℕ) → n ≤ 1024 → (rs : List Ring) → StandsAt n l m rs → 1 ≤ l.live → Borders n l m
borders n l m few [] st h = absurd (omega (arith, h, st.heads))
borders n l m few ([] ∷ ws) st h = absurd (false≢true st.sound.0)
borders n l m few ((marked e ∷ ps) ∷ ws) st h = absurd (false≢true st.sound.0)
borders n l m few ((opened e ∷ ps) ∷ ws) st h =
    let a = next n l m 0 e ps ws st in
    let t : Bool = last_open (opened e ∷ cut_next ps) in
    let b = both n l m 0 e ps ws st t refl in
    record {
      near = near n l m few ((opened e ∷ ps) ∷ ws) st h;
      next = near n (next_cut n l m).loops (next_cut n l m).memory few ((opened e ∷ cut_next ps) ∷ ws) a.stands
          (omega (arith, a.stands.heads.live));
      last = near n (both_cut n l m).loops (both_cut n l m).memory few (cut_last t e (cut_next ps) ∷ ws) b.stands
          (omega (arith, b.stands.heads.live));
    }

pub ready_borders : (n : ℕ) (s : Front) (m : List ℕ) → Ready n s m → (s.loops.live ≡ 0 → ⊥) → Borders n s.loops m
ready_borders n s m r h = borders n s.loops m r.roomy.few (rings_in n s.loops m) r.stands (omega (arith, h))

pub ready_proposes : (n : ℕ) (s : Front) (m : List ℕ) → Ready n s m → Proposable n s.loops m s.used
ready_proposes n s m r = (ready_near n s m r, r.used)

pub ready_free : (n : ℕ) (s : Front) (m : List ℕ) → Ready n s m → (s.loops.free ≤ n) × (n ≤ 1024)
ready_free n s m r = (omega (arith, room n s.loops m (rings_in n s.loops m) r.stands), r.roomy.few)

-- a state that keeps a machine within 21's bounds is ready
pub ready : (n : ℕ) (s : Front) (m : List ℕ) (M : Machine) → Keeps n s m M → Ranges M → Ready n s m
ready n s m M k r =
    let c = in_range_lem M.stated r.stated in
    let w12 = leb M.used M.stated.vertices && leb (length M.triangles) M.stated.triangles in
    let h2 : w12 ≡ true = and_left w12 _ (and_left (w12 && _) _ r.counts) in
    let v = leb-true M.used M.stated.vertices (and_left (leb M.used M.stated.vertices) _ h2) in
    let t = leb-true (length M.triangles) M.stated.triangles (and_right (leb M.used M.stated.vertices) _ h2) in
    record {
      roomy = k.roomy;
      stands = k.stands;
      vertices = omega (arith, c.vertices, ap (λ (x : Counts). x.vertices) k.stated);
      triangles = omega (arith, c.triangles, ap (λ (x : Counts). x.triangles) k.stated);
      loops = omega (arith, c.loops, ap (λ (x : Counts). x.loops) k.stated);
      used = omega (arith, v, c.vertices, k.used);
      built = omega (arith, t, c.triangles, k.triangles);
      edges = omega (arith, r.edges, c.triangles, k.edges);
      starts = omega (arith, r.starts, c.triangles, k.starts);
      unions = omega (arith, r.unions, c.triangles, k.unions);
      rims = omega (arith, r.rims, c.triangles, k.rims);
    }
