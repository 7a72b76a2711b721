-- Laws of rings of places named by their vertices: naming goes through each function on rings.
-- Assumes nothing.
use Prim.Native.Nat.{ℕ, zero, suc, ◌≤◌, ◌<◌}
use native.Mathlib.Omega.{arith}
use mathlib.Core.Bool.{Bool, true, false}
use mathlib.Core.List.{List, [], ◌∷◌, ◌++◌}
use mathlib.Core.Path.{◌≡◌, refl, sym, ap, ap₂, ◌∙◌}
use lib.ListN.{length, take, drop, get_or, set}
use lib.Seq.{get_or-set_other}
use Rattle.rules.specs.Count.{same}
use Rattle.rules.specs.Ring.{Node, opened, marked, Ring, vertex, is_open, first_open, all_open, start_or, vertex_at, last_open, last_vertex}
use Rattle.rules.specs.Ring.{front}
use Rattle.rules.specs.Ring.{onward, reached, shown, loop_at, without}
use Rattle.rules.specs.Table.{in_order}
use Rattle.book.specs.Sums.{path_sum, ring_sum, loops_sum}
use Rattle.book.specs.Spaced.{Spaced}
use Rattle.border_theory.specs.Links.Held.{named, named_ring, named_loops}
use Rattle.counting.proofs.Counts.{same_yes}

abbrev cons : Node → List Node → List Node
cons p ps = p ∷ ps

module _ (vs : List ℕ) where
  pub named_vertex : (p : Node) → vertex (named vs p) ≡ get_or vs (vertex p) 0
  named_vertex (opened v) = refl
  named_vertex (marked v) = refl

  pub named_open : (p : Node) → is_open (named vs p) ≡ is_open p
  named_open (opened v) = refl
  named_open (marked v) = refl

  pub named_length : (ps : List Node) → length (named_ring vs ps) ≡ length ps
  unfolding named_ring
  named_length [] = refl
  named_length (p ∷ ps) = ap suc (named_length ps)

  pub named_append : (ps qs : List Node) → named_ring vs (ps ++ qs) ≡ named_ring vs ps ++ named_ring vs qs
  unfolding named_ring
  named_append [] qs = refl
  named_append (p ∷ ps) qs = ap (cons (named vs p)) (named_append ps qs)

  pub named_take : (i : ℕ) (ps : List Node) → named_ring vs (take i ps) ≡ take i (named_ring vs ps)
  unfolding named_ring
  named_take zero ps = refl
  named_take (suc i) [] = refl
  named_take (suc i) (p ∷ ps) = ap (cons (named vs p)) (named_take i ps)

  pub named_drop : (i : ℕ) (ps : List Node) → named_ring vs (drop i ps) ≡ drop i (named_ring vs ps)
  unfolding named_ring
  named_drop zero ps = refl
  named_drop (suc i) [] = refl
  named_drop (suc i) (p ∷ ps) = named_drop i ps

  pub named_start : (b : ℕ) (ps : List Node) → start_or (get_or vs b 0) (named_ring vs ps) ≡ get_or vs (start_or b ps) 0
  unfolding named_ring
  named_start b [] = refl
  named_start b (p ∷ ps) = named_vertex p

  pub named_at : (ps : List Node) (i : ℕ) → i < length ps → vertex_at (named_ring vs ps) i ≡ get_or vs (vertex_at ps i) 0
  unfolding named_ring vertex_at
  named_at [] i h = absurd (omega arith)
  named_at (p ∷ ps) zero h = named_vertex p
  named_at (p ∷ ps) (suc i) h = named_at ps i (omega arith)

  pub named_last : (ps : List Node) → 1 ≤ length ps → last_vertex (named_ring vs ps) ≡ get_or vs (last_vertex ps) 0
  unfolding named_ring last_vertex
  named_last [] h = absurd (omega arith)
  named_last (p ∷ []) h = named_vertex p
  named_last (p ∷ (q ∷ ps)) h = named_last (q ∷ ps) (omega arith)

  pub named_last_open : (ps : List Node) → last_open (named_ring vs ps) ≡ last_open ps
  unfolding named_ring last_open
  named_last_open [] = refl
  named_last_open (p ∷ []) = named_open p
  named_last_open (p ∷ (q ∷ ps)) = named_last_open (q ∷ ps)

  pub named_first_open : (ps : List Node) → first_open (named_ring vs ps) ≡ first_open ps
  unfolding named_ring
  named_first_open [] = refl
  named_first_open (p ∷ ps) = named_open p

  pub named_all_open : (ps : List Node) → all_open (named_ring vs ps) ≡ all_open ps
  unfolding named_ring all_open
  named_all_open [] = refl
  named_all_open (opened v ∷ ps) = named_all_open ps
  named_all_open (marked v ∷ ps) = refl

  pub named_front : (ps : List Node) → named_ring vs (front ps) ≡ front (named_ring vs ps)
  unfolding named_ring front
  named_front [] = refl
  named_front (p ∷ []) = refl
  named_front (p ∷ (q ∷ ps)) = ap (cons (named vs p)) (named_front (q ∷ ps))

  pub named_onward : (back ps : List Node) → named_ring vs (onward back ps) ≡ onward (named_ring vs back) (named_ring vs ps)
  unfolding named_ring onward
  named_onward back [] = refl
  named_onward back (opened v ∷ ps) = ap (cons (opened (get_or vs v 0))) (named_append ps back)
  named_onward back (marked v ∷ ps) =
      named_onward (back ++ (marked v ∷ [])) ps ∙ ap (λ (l : List Node). onward l (named_ring vs ps)) (named_append back (marked v ∷ []))

  named_reached : (ps : List Node) (m : Bool) → named_ring vs (reached ps m) ≡ reached (named_ring vs ps) m
  unfolding named_ring reached
  named_reached [] m = refl
  named_reached (opened v ∷ ps) m = ap (cons (opened (get_or vs v 0))) (named_reached ps false)
  named_reached (marked v ∷ ps) true = named_reached ps true
  named_reached (marked v ∷ ps) false = ap (cons (marked (get_or vs v 0))) (named_reached ps true)

  pub named_shown : (r : Ring) → named_ring vs (shown r) ≡ shown (named_ring vs r)
  unfolding named_ring
  named_shown [] = refl
  named_shown (p ∷ ps) = ap (cons (named vs p)) (named_reached ps false)

  pub named_spaced : (ps : List Node) (m : Bool) → Spaced ps m → Spaced (named_ring vs ps) m
  unfolding named_ring
  named_spaced [] m h = tt
  named_spaced (opened v ∷ ps) m h = named_spaced ps false h
  named_spaced (marked v ∷ ps) true h = absurd h
  named_spaced (marked v ∷ ps) false h = named_spaced ps true h

  pub spaced_named : (ps : List Node) (m : Bool) → Spaced (named_ring vs ps) m → Spaced ps m
  unfolding named_ring
  spaced_named [] m h = tt
  spaced_named (opened v ∷ ps) m h = spaced_named ps false h
  spaced_named (marked v ∷ ps) true h = absurd h
  spaced_named (marked v ∷ ps) false h = spaced_named ps true h

  pub named_loop_at : (ws : List Ring) (n : ℕ) → loop_at (named_loops vs ws) n ≡ named_ring vs (loop_at ws n)
  unfolding named_loops loop_at named_ring
  named_loop_at [] n = refl
  named_loop_at (w ∷ ws) zero = refl
  named_loop_at (w ∷ ws) (suc n) = named_loop_at ws n

  pub named_without : (ws : List Ring) (n : ℕ) → without (named_loops vs ws) n ≡ named_loops vs (without ws n)
  unfolding named_loops without
  named_without [] n = refl
  named_without (w ∷ ws) zero = refl
  named_without (w ∷ ws) (suc n) = ap (λ (l : List Ring). named_ring vs w ∷ l) (named_without ws n)

  pub named_lives : (ws : List Ring) → length (named_loops vs ws) ≡ length ws
  unfolding named_loops
  named_lives [] = refl
  named_lives (w ∷ ws) = ap suc (named_lives ws)

  pub named_order : (t : Bool) (l m : Ring) (ws : List Ring)
      → named_loops vs (in_order t l m ws) ≡ in_order t (named_ring vs l) (named_ring vs m) (named_loops vs ws)
  unfolding named_loops in_order
  named_order true l m ws = refl
  named_order false l m ws = refl

  -- a free place gets a vertex: the others keep theirs
  module _ (q c : ℕ) where
    pub free_ring : (ps : List Node) (b : ℕ) → path_sum (λ p r o. same q p) ps b ≡ 0 → named_ring (set vs q c) ps ≡ named_ring vs ps
    unfolding named_ring path_sum
    free_ring [] b h = refl
    free_ring (p ∷ ps) b h =
        ap₂ cons (other p (λ e. omega (arith, ap (same q) (sym e), same_yes q))) (free_ring ps b (omega arith))
      where
        other : (p : Node) → (vertex p ≡ q → ⊥) → named (set vs q c) p ≡ named vs p
        other (opened v) d = ap opened (get_or-set_other vs q v c 0 d)
        other (marked v) d = ap marked (get_or-set_other vs q v c 0 d)

    pub free_loops : (ls : List Ring) → loops_sum (λ p r o. same q p) ls ≡ 0 → named_loops (set vs q c) ls ≡ named_loops vs ls
    unfolding named_loops loops_sum ring_sum
    free_loops [] h = refl
    free_loops (l ∷ ls) h = ap₂ (λ (r : Ring) (rs : List Ring). r ∷ rs) (free_ring l (start_or 0 l) (omega arith))
        (free_loops ls (omega arith))
