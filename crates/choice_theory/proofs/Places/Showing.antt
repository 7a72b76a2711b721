-- Open edges of shown rings: the same ones, at the places counted in the ring shown. So the packer's search there finds what the
-- search in the full rings finds.
-- Assumes nothing.
use Prim.Native.Nat.{ℕ, zero, suc}
use mathlib.Core.Bool.{Bool, true, false, false≢true}
use mathlib.Core.List.{List, [], ◌∷◌}
use mathlib.Core.Path.{◌≡◌, refl, sym, ap, ◌∙◌}
use Rattle.rules.specs.Ring.{Node, opened, marked, Ring, start_or, reached, shown}
use Rattle.rules.specs.Right.{EdgeIn, OpenAt}
use Rattle.book.specs.Shown.{shown_all}
use Rattle.book.proofs.Shown.{Live, start_same}
use Rattle.choice_theory.specs.Spots.{Unique}

-- a place of a run, counted in the run shown: how many of those before it stay
unfoldable pub short : List Node → Bool → ℕ → ℕ
short [] m k = 0
short (p ∷ ps) m zero = 0
short (opened v ∷ ps) m (suc k) = suc (short ps false k)
short (marked v ∷ ps) true (suc k) = short ps true k
short (marked v ∷ ps) false (suc k) = suc (short ps true k)

-- an open edge of the run shown is one of the run
pub edge_full : (first : ℕ) (ps : List Node) (m : Bool) (i x y : ℕ) → EdgeIn first (reached ps m) i x y
    → (k : ℕ) × EdgeIn first ps k x y × (i ≡ short ps m k)
unfolding reached short
edge_full first [] m i x y h = absurd h
edge_full first (opened v ∷ ps) m zero x y h = (zero, (h.0, h.1, sym (start_same first ps true refl) ∙ h.2), refl)
edge_full first (opened v ∷ ps) m (suc i) x y h =
    let r = edge_full first ps false i x y h in (suc r.0, r.1, ap suc r.2)
edge_full first (marked v ∷ ps) true i x y h = let r = edge_full first ps true i x y h in (suc r.0, r.1, r.2)
edge_full first (marked v ∷ ps) false zero x y h = absurd (false≢true h.0)
edge_full first (marked v ∷ ps) false (suc i) x y h =
    let r = edge_full first ps true i x y h in (suc r.0, r.1, ap suc r.2)

-- place k of a ring, counted in the ring shown
abbrev pub short_in : List Ring → ℕ → ℕ → ℕ
short_in [] l k = 0
short_in (w ∷ ws) zero k = short w false k
short_in (w ∷ ws) (suc l) k = short_in ws l k

ring_full : (w : Ring) (ws : List Ring) (i x y : ℕ) → Live (w ∷ ws) → EdgeIn (start_or 0 (shown w)) (shown w) i x y
    → (k : ℕ) × EdgeIn (start_or 0 w) w k x y × (i ≡ short w false k)
unfolding reached
ring_full (opened v ∷ ps) ws i x y g h = edge_full v (opened v ∷ ps) false i x y h
ring_full (marked v ∷ ps) ws i x y g h = absurd (false≢true g.0)
ring_full [] ws i x y g h = elim g [ ]

live_rest : (w : Ring) (ws : List Ring) → Live (w ∷ ws) → Live ws
live_rest (p ∷ ps) ws g = g.1
live_rest [] ws g = elim g [ ]

pub open_full : (ls : List Ring) → Live ls → (l i x y : ℕ) → OpenAt (shown_all ls) l i x y
    → (k : ℕ) × OpenAt ls l k x y × (i ≡ short_in ls l k)
open_full (w ∷ ws) g zero i x y h = ring_full w ws i x y g h
open_full (w ∷ ws) g (suc l) i x y h = open_full ws (live_rest w ws g) l i x y h
open_full [] g l i x y h = elim h [ ]

-- each open edge stands at one place of the rings shown
pub unique_shown : (ls : List Ring) → Live ls → Unique ls → Unique (shown_all ls)
unique_shown ls g u x y l i m j h k =
    let r = open_full ls g l i x y h in
    let s = open_full ls g m j x y k in
    let e = u x y l r.0 m s.0 r.1 s.1 in
    (e.0, r.2 ∙ (ap (short_in ls l) e.1 ∙ (ap (λ (n : ℕ). short_in ls n s.0) e.0 ∙ sym s.2)))
