-- The places next to a place of the loops are in the loops too; so what an operation touches was in a loop or is taken.
-- Assumes nothing.
use Prim.Native.Nat.{ℕ, zero, suc, ◌+◌, ◌-◌, ◌*◌, ◌≤◌, ◌<◌}
use native.Mathlib.Omega.{arith}
use mathlib.Core.Bool.{false≢true}
use mathlib.Core.List.{List, [], ◌∷◌}
use mathlib.Core.Path.{◌≡◌, sym, ap, ◌∙◌, subst}
use lib.ListN.{length}
use Rattle.rules.specs.declared.Operation.{Operation}
use Rattle.rules.specs.declared.Operation.TheVariants.{New, Forward, Backward, Border, Split, Close, Union, Start}
use Rattle.rules.specs.Count.{same}
use Rattle.rules.specs.Ring.{Node, Ring, vertex, start_or, loop_at}
use Rattle.book.specs.Sums.{path_sum, ring_sum, loops_sum, placed}
use Rattle.cutborder.specs.declared.Loops.{Loops}
use Rattle.border_theory.specs.Memory.Layout.{at, before_of, after_of, walked}
use Rattle.border_theory.specs.Memory.Stands.{StandsAt}
use Rattle.border_theory.specs.Memory.Touched.{taken_by, touched_by, NoneOf}
use Rattle.border_theory.proofs.Memory.Standing.{Trail, Trails, trails}
use Rattle.border_theory.proofs.Memory.Waiting.{waits_at}
use Rattle.counting.proofs.Counts.{same_yes, same_is}

-- of two numbers whose sum is 1 or more, one is
pub either : {P : Type 0} (s t : ℕ) → 1 ≤ s + t → (1 ≤ s → P) → (1 ≤ t → P) → P
either zero t h f g = g (omega (arith, h))
either (suc s) t h f g = f (omega arith)

-- how often x is a place of a run of nodes
abbrev in_run : ℕ → List Node → ℕ → ℕ
in_run x ps b = path_sum (λ p q o. same x p) ps b

module _ (n : ℕ) (m : List ℕ) where
  start_in : (ps : List Node) (b : ℕ) → 1 ≤ same (start_or b ps) b + in_run (start_or b ps) ps b
  unfolding path_sum
  start_in [] b = omega (arith, same_yes b)
  start_in (p ∷ ps) b = omega (arith, same_yes (vertex p))

  -- the place after a place of a run is of the run, or the one that it leads to
  run_after : (ps : List Node) (b : ℕ) → Trail n m ps b → (x : ℕ) → 1 ≤ in_run x ps b
      → 1 ≤ same (after_of m x) b + in_run (after_of m x) ps b
  unfolding path_sum
  run_after [] b t x h = absurd (omega (arith, h))
  run_after (p ∷ ps) b t x h =
      either (same x (vertex p)) (in_run x ps b) h
      (λ s.
      let e : after_of m x ≡ start_or b ps = ap (after_of m) (same_is x (vertex p) s) ∙ t.0.fore in
      subst (λ (y : ℕ). 1 ≤ same y b + (same y (vertex p) + in_run y ps b)) (sym e) (omega (arith, start_in ps b)))
      (λ s. omega (arith, run_after ps b t.1 x s))

  -- the place before a place of a run, or before the one that it leads to, is of the run
  run_before : (p : Node) (ps : List Node) (b : ℕ) → Trail n m (p ∷ ps) b → (y : ℕ) → 1 ≤ same y b + in_run y ps b
      → 1 ≤ in_run (before_of m y) (p ∷ ps) b
  unfolding path_sum
  run_before p [] b t y h =
      let e : before_of m y ≡ vertex p = ap (before_of m) (same_is y b (omega (arith, h))) ∙ t.0.back in
      subst (λ (x : ℕ). 1 ≤ same x (vertex p) + 0) (sym e) (omega (arith, same_yes (vertex p)))
  run_before p (q ∷ ps) b t y h =
      either (same y (vertex q)) (same y b + in_run y ps b) (omega (arith, h))
      (λ s.
      let e : before_of m y ≡ vertex p = ap (before_of m) (same_is y (vertex q) s) ∙ t.0.back in
      subst (λ (x : ℕ). 1 ≤ same x (vertex p) + (same x (vertex q) + in_run x ps b)) (sym e) (omega (arith, same_yes (vertex p))))
      (λ s. omega (arith, run_before q ps b t.1 y s))

  ring_after : (l : Ring) → Trail n m l (start_or 0 l) → (x : ℕ) → 1 ≤ in_run x l (start_or 0 l)
      → 1 ≤ in_run (after_of m x) l (start_or 0 l)
  unfolding path_sum
  ring_after [] t x h = absurd (omega (arith, h))
  ring_after (p ∷ ps) t x h = omega (arith, run_after (p ∷ ps) (vertex p) t x h)

  ring_before : (l : Ring) → Trail n m l (start_or 0 l) → (x : ℕ) → 1 ≤ in_run x l (start_or 0 l)
      → 1 ≤ in_run (before_of m x) l (start_or 0 l)
  unfolding path_sum
  ring_before [] t x h = absurd (omega (arith, h))
  ring_before (p ∷ ps) t x h = run_before p ps (vertex p) t x h

  rings_after_lem : (rs : List Ring) → Trails n m rs → (x : ℕ) → 1 ≤ placed x rs → 1 ≤ placed (after_of m x) rs
  unfolding loops_sum ring_sum
  rings_after_lem [] t x h = absurd (omega (arith, h))
  rings_after_lem (l ∷ rs) t x h =
      either (in_run x l (start_or 0 l)) (placed x rs) h (λ s. omega (arith, ring_after l t.0 x s))
      (λ s. omega (arith, rings_after_lem rs t.1 x s))

  rings_before : (rs : List Ring) → Trails n m rs → (x : ℕ) → 1 ≤ placed x rs → 1 ≤ placed (before_of m x) rs
  unfolding loops_sum ring_sum
  rings_before [] t x h = absurd (omega (arith, h))
  rings_before (l ∷ rs) t x h =
      either (in_run x l (start_or 0 l)) (placed x rs) h (λ s. omega (arith, ring_before l t.0 x s))
      (λ s. omega (arith, rings_before rs t.1 x s))

-- of a split and a union the plan's place is in a loop
abbrev pub PlaceIn : Operation → ℕ → List Ring → Type 0
PlaceIn New c rs = Unit {0}
PlaceIn Forward c rs = Unit {0}
PlaceIn Backward c rs = Unit {0}
PlaceIn Border c rs = Unit {0}
PlaceIn (Split i) c rs = 1 ≤ placed c rs
PlaceIn Close c rs = Unit {0}
PlaceIn (Union p j) c rs = 1 ≤ placed c rs
PlaceIn Start c rs = Unit {0}

module _ (n : ℕ) (s : Loops) (m : List ℕ) (rs : List Ring) (st : StandsAt n s m rs) where
  pub after_in : (x : ℕ) → 1 ≤ placed x rs → 1 ≤ placed (after_of m x) rs
  after_in = rings_after_lem n m rs (trails n s m rs st)

  pub before_in : (x : ℕ) → 1 ≤ placed x rs → 1 ≤ placed (before_of m x) rs
  before_in = rings_before n m rs (trails n s m rs st)

  pub walked_in : (k x : ℕ) → 1 ≤ placed x rs → 1 ≤ placed (walked m k x) rs
  unfolding walked
  walked_in zero x h = h
  walked_in (suc k) x h = walked_in k (after_of m x) (after_in x h)

  -- a place that is in no loop is none that is
  apart_from : (i x : ℕ) → placed i rs ≡ 0 → 1 ≤ placed x rs → i ≡ x → ⊥
  apart_from i x z h e = let w : placed i rs ≡ placed x rs = ap (λ (y : ℕ). placed y rs) e in omega (arith, z, h, w)

  -- what is touched was in a loop or is taken
  module _ (here : 1 ≤ placed s.current rs) (i : ℕ) (out : placed i rs ≡ 0) where
    fore : 1 ≤ placed (after_of m s.current) rs
    fore = after_in s.current here

    pub untouched_edge : (o : Operation) (c : ℕ) → PlaceIn o c rs → NoneOf i (taken_by n s m o) → NoneOf i (touched_by n s m o c)
    untouched_edge New c p d = (apart_from i s.current out here, (apart_from i (after_of m s.current) out fore, d))
    untouched_edge Forward c p d = (
      apart_from i s.current out here,
      (apart_from i (after_of m (after_of m s.current)) out (after_in (after_of m s.current) fore), tt),
    )
    untouched_edge Backward c p d =
        (apart_from i (before_of m s.current) out (before_in s.current here), (apart_from i (after_of m s.current) out fore, tt))
    untouched_edge Border c p d = (
      apart_from i (before_of m s.current) out (before_in s.current here),
      (
        apart_from i s.current out here,
        (
          apart_from i (after_of m s.current) out fore,
          (apart_from i (after_of m (after_of m s.current)) out (after_in (after_of m s.current) fore), tt),
        ),
      ),
    )
    untouched_edge (Split k) c p d = (
      apart_from i s.current out here,
      (apart_from i (after_of m s.current) out fore, (apart_from i c out p, (apart_from i (before_of m c) out (before_in c p), d))),
    )
    untouched_edge Close c p d = tt
    untouched_edge (Union k j) c p d = (
      apart_from i s.current out here,
      (apart_from i (after_of m s.current) out fore, (apart_from i c out p, (apart_from i (before_of m c) out (before_in c p), d))),
    )
    untouched_edge Start c p d = d

-- the place where a waiting loop's current edge starts is in a loop
start_placed : (ws : List Ring) (i : ℕ) → 1 ≤ length (loop_at ws i) → 1 ≤ placed (start_or 0 (loop_at ws i)) ws
unfolding loop_at loops_sum ring_sum path_sum
start_placed [] i h = absurd (omega (arith, h))
start_placed ([] ∷ ws) zero h = absurd (omega (arith, h))
start_placed ((p ∷ ps) ∷ ws) zero h = omega (arith, same_yes (vertex p))
start_placed (w ∷ ws) (suc i) h = omega (arith, start_placed ws i h)

pub waiting_in_lem : (n : ℕ) (s : Loops) (m : List ℕ) (rs : List Ring) → StandsAt n s m rs → (p j : ℕ) → 1 ≤ p → p ≤ s.live - 1
    → j < at m (5 * n + 2 * (s.live - 1 - p) + 1) → 1 ≤ placed (at m (5 * n + 2 * (s.live - 1 - p))) rs
unfolding loops_sum
waiting_in_lem n s m [] st p j a b c = absurd (omega (arith, a, b, st.heads))
waiting_in_lem n s m (r ∷ ws) st p j a b c =
    let low : ℕ = s.live - 1 - p in
    let e : low + (p - 1) + 1 ≡ length ws = omega (arith, a, b, st.heads.live) in
    let x = waits_at n m ws (p - 1) low e st.heads.waiting in
    let y = start_placed ws (p - 1) (omega (arith, c, x.1)) in
    subst (λ (z : ℕ). 1 ≤ placed z (r ∷ ws)) (sym x.0) (omega (arith, y))

-- the current place is in a loop
pub current_in : (n : ℕ) (s : Loops) (m : List ℕ) (rs : List Ring) → StandsAt n s m rs → (s.live ≡ 0 → ⊥) → 1 ≤ placed s.current rs
unfolding loops_sum ring_sum path_sum
current_in n s m [] st h = absurd (h st.heads)
current_in n s m ([] ∷ ws) st h = absurd (false≢true st.sound.0)
current_in n s m ((p ∷ ps) ∷ ws) st h =
    subst (λ (x : ℕ). 1 ≤ placed x ((p ∷ ps) ∷ ws)) (sym st.heads.current) (omega (arith, same_yes (vertex p)))
