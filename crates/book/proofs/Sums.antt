-- Laws of the sums over the edges of loops, for every weight: runs joined, rings turned, cut and ended.
-- Assumes nothing.
use Prim.Native.Nat.{ℕ, zero, suc, ◌+◌, ◌<◌}
use native.Mathlib.Omega.{arith}
use mathlib.Core.Bool.{true, false, false≢true}
use mathlib.Core.List.{List, [], ◌∷◌, ◌++◌, append-nil, append_assoc}
use mathlib.Core.Path.{◌≡◌, refl, ap, ◌∙◌}
use lib.ListN.{length, drop}
use Rattle.rules.specs.Ring.{Node, opened, marked, Ring, vertex, start_or, vertex_at, last_open, last_vertex, front, onward, loop_at}
use Rattle.rules.specs.Ring.{without}
use Rattle.book.proofs.Closed.{Closed, closed_snoc}
use Rattle.book.specs.Sums.{Weight, path_sum, ring_sum, loops_sum}

pub start_append : (b : ℕ) (ps qs : List Node) → start_or b (ps ++ qs) ≡ start_or (start_or b qs) ps
start_append b [] qs = refl
start_append b (p ∷ ps) qs = refl

pub sum_append : (w : Weight) (ps qs : List Node) (b : ℕ) → path_sum w (ps ++ qs) b ≡ path_sum w ps (start_or b qs) + path_sum w qs b
unfolding path_sum
sum_append w [] qs b = omega arith
sum_append w (p ∷ ps) qs b = rw (sum_append w ps qs b, start_append b ps qs) (omega arith)

-- a ring may be turned
pub sum_turn : (w : Weight) (ps qs : List Node) → ring_sum w (ps ++ qs) ≡ ring_sum w (qs ++ ps)
unfolding ring_sum
sum_turn w [] qs = rw (append-nil qs)
sum_turn w (p ∷ ps) [] = rw (append-nil (p ∷ ps))
sum_turn w (p ∷ ps) (q ∷ qs) =
    rw (sum_append w (p ∷ ps) (q ∷ qs) (vertex p), sum_append w (q ∷ qs) (p ∷ ps) (vertex q)) (omega arith)

-- the last place
pub front_last : (ps : List Node) → last_open ps ≡ true → front ps ++ (opened (last_vertex ps) ∷ []) ≡ ps
unfolding front last_open last_vertex
front_last [] h = absurd (false≢true h)
front_last (opened v ∷ []) h = refl
front_last (marked v ∷ []) h = absurd (false≢true h)
front_last (p ∷ (q ∷ ps)) h = ap (λ (l : List Node). p ∷ l) (front_last (q ∷ ps) h)

pub length_front : (p : Node) (ps : List Node) → length (front (p ∷ ps)) ≡ length ps
unfolding front
length_front p [] = refl
length_front p (q ∷ ps) = ap suc (length_front q ps)

-- the place i places after the first
pub start_drop : (b : ℕ) (ps : List Node) (i : ℕ) → i < length ps → start_or b (drop i ps) ≡ vertex_at ps i
unfolding vertex_at
start_drop b [] i h = absurd (omega arith)
start_drop b (p ∷ ps) zero h = refl
start_drop b (p ∷ ps) (suc i) h = start_drop b ps i (omega arith)

-- one waiting loop, and the others
pub sum_without : (w : Weight) (ws : List Ring) (n : ℕ) → n < length ws
    → loops_sum w ws ≡ ring_sum w (loop_at ws n) + loops_sum w (without ws n)
unfolding loops_sum loop_at without
sum_without w [] n h = absurd (omega arith)
sum_without w (l ∷ ws) zero h = refl
sum_without w (l ∷ ws) (suc n) h = omega (arith, sum_without w ws n (omega arith))

pub length_without : (ws : List Ring) (n : ℕ) → n < length ws → suc (length (without ws n)) ≡ length ws
unfolding without
length_without [] n h = absurd (omega arith)
length_without (l ∷ ws) zero h = refl
length_without (l ∷ ws) (suc n) h = ap suc (length_without ws n (omega arith))

-- where a place is marked as border, a weight of open edges is nothing
closed_sum : (w : Weight) → ((x y : ℕ) → w x y false ≡ 0) → (ps : List Node) (b : ℕ) → Closed ps → path_sum w ps b ≡ 0
unfolding path_sum
closed_sum w z [] b h = refl
closed_sum w z (p ∷ ps) b h = rw h.0 (omega (arith, z (vertex p) (start_or b ps), closed_sum w z ps b h.1))

-- the ring from its next open edge on: what is lost is nothing, or all edges of a ring that has no open edge
pub record Turned (w : Weight) (back ps : List Node) : Type 0 where
  pub lost : ℕ
  pub total : ring_sum w (onward back ps) + lost ≡ ring_sum w (back ++ ps)
  pub no_open : ((x y : ℕ) → w x y false ≡ 0) → Closed back → lost ≡ 0

pub turned : (w : Weight) (back ps : List Node) → Turned w back ps
unfolding onward ring_sum path_sum
turned w back [] = record {
  lost = ring_sum w back;
  total = rw (append-nil back) (omega arith);
  no_open = λ z h. closed_sum w z back (start_or 0 back) h;
}
turned w back (opened v ∷ ps) = record {
  lost = 0;
  total = omega (arith, sum_turn w (opened v ∷ ps) back);
  no_open = λ z h. refl;
}
turned w back (marked v ∷ ps) =
    let t = turned w (back ++ (marked v ∷ [])) ps in
    record {
      lost = t.lost;
      total = t.total ∙ ap (ring_sum w) (append_assoc back (marked v ∷ []) ps);
      no_open = λ z h. t.no_open z (closed_snoc back v h);
    }
