-- Runs with no two marked neighbours: joined, cut and turned; what is shown of a run is one, and one is shown whole.
-- Assumes nothing.
use Prim.Native.Nat.{ℕ, zero, suc}
use mathlib.Core.Bool.{Bool, true, false, false≢true}
use mathlib.Core.List.{List, [], ◌∷◌, ◌++◌}
use mathlib.Core.Path.{◌≡◌, refl, ap}
use lib.ListN.{take, drop}
use Rattle.rules.specs.Ring.{Node, opened, marked, Ring, first_open, front, reached}
use Rattle.book.specs.Spaced.{Spaced}
use Rattle.book.proofs.Shown.{ends}

pub spaced_any : (ps : List Node) (m : Bool) → Spaced ps m → Spaced ps false
spaced_any [] m h = tt
spaced_any (opened v ∷ ps) m h = h
spaced_any (marked v ∷ ps) true h = absurd h
spaced_any (marked v ∷ ps) false h = h

pub spaced_append : (us vs : List Node) (m : Bool) → Spaced us m → Spaced vs (ends us m) → Spaced (us ++ vs) m
unfolding ends
spaced_append [] vs m h k = k
spaced_append (opened v ∷ us) vs m h k = spaced_append us vs false h k
spaced_append (marked v ∷ us) vs true h k = absurd h
spaced_append (marked v ∷ us) vs false h k = spaced_append us vs true h k

pub spaced_take : (i : ℕ) (ps : List Node) (m : Bool) → Spaced ps m → Spaced (take i ps) m
spaced_take zero ps m h = tt
spaced_take (suc i) [] m h = tt
spaced_take (suc i) (opened v ∷ ps) m h = spaced_take i ps false h
spaced_take (suc i) (marked v ∷ ps) true h = absurd h
spaced_take (suc i) (marked v ∷ ps) false h = spaced_take i ps true h

pub spaced_drop : (i : ℕ) (ps : List Node) (m : Bool) → Spaced ps m → Spaced (drop i ps) false
spaced_drop zero ps m h = spaced_any ps m h
spaced_drop (suc i) [] m h = tt
spaced_drop (suc i) (opened v ∷ ps) m h = spaced_drop i ps false h
spaced_drop (suc i) (marked v ∷ ps) true h = absurd h
spaced_drop (suc i) (marked v ∷ ps) false h = spaced_drop i ps true h

pub spaced_front : (ps : List Node) (m : Bool) → Spaced ps m → Spaced (front ps) m
unfolding front
spaced_front [] m h = tt
spaced_front (p ∷ []) m h = tt
spaced_front (opened v ∷ (q ∷ ps)) m h = spaced_front (q ∷ ps) false h
spaced_front (marked v ∷ (q ∷ ps)) true h = absurd h
spaced_front (marked v ∷ (q ∷ ps)) false h = spaced_front (q ∷ ps) true h

-- a ring whose first edge is open, turned to its place j
pub spaced_turn : (l : Ring) (j : ℕ) → first_open l ≡ true → Spaced l false → Spaced (drop j l ++ take j l) false
spaced_turn l j o h = spaced_append (drop j l) (take j l) false (spaced_drop j l false h) (start l j o h (ends (drop j l) false))
  where
    start : (r : Ring) (i : ℕ) → first_open r ≡ true → Spaced r false → (m : Bool) → Spaced (take i r) m
    start r zero g k m = tt
    start [] (suc i) g k m = tt
    start (opened v ∷ r) (suc i) g k m = spaced_take i r false k
    start (marked v ∷ r) (suc i) g k m = absurd (false≢true g)

-- what is shown
pub spaced_reached : (ps : List Node) (m : Bool) → Spaced (reached ps m) m
unfolding reached
spaced_reached [] m = tt
spaced_reached (opened v ∷ ps) m = spaced_reached ps false
spaced_reached (marked v ∷ ps) true = spaced_reached ps true
spaced_reached (marked v ∷ ps) false = spaced_reached ps true

pub reached_spaced : (ps : List Node) (m : Bool) → Spaced ps m → reached ps m ≡ ps
unfolding reached
reached_spaced [] m h = refl
reached_spaced (opened v ∷ ps) m h = ap (λ (l : List Node). opened v ∷ l) (reached_spaced ps false h)
reached_spaced (marked v ∷ ps) true h = absurd h
reached_spaced (marked v ∷ ps) false h = ap (λ (l : List Node). marked v ∷ l) (reached_spaced ps true h)
