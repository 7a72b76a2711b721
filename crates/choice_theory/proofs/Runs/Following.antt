-- The packer follows a run of the machine: if each step of the run is its choice and none is above its limits, it takes the
-- run's operations and ends.
-- Assumes nothing.
use Prim.Native.Nat.{ℕ, zero, suc, ◌+◌, ◌*◌, ◌≤◌, ◌<◌}
use native.Mathlib.Omega.{arith}
use mathlib.Core.Bool.{not}
use mathlib.Core.List.{List, [], ◌∷◌, ◌++◌}
use mathlib.Core.Path.{◌≡◌, refl, sym, ap, ◌∙◌, subst}
use mathlib.Core.Logic.{◌⊎◌, inl, inr}
use lib.ListN.{length}
use borrow.Author.Tests.{le-leb}
use Rattle.rules.specs.declared.Triangle.{Triangle}
use Rattle.rules.specs.Across.{Across}
use Rattle.rules.specs.Across.{Found, Nothing}
use Rattle.rules.specs.declared.Operation.{Operation}
use Rattle.rules.specs.declared.Operation.TheVariants.{New, Border, Start}
use Rattle.rules.specs.Triangle.{edge, Rot, at_p, In}
use Rattle.rules.specs.Across.{in_triangle}
use Rattle.rules.specs.Ring.{Node, Ring, vertex, is_open, places, reached}
use Rattle.rules.specs.Table.{at_edge}
use Rattle.rules.specs.Choice.{Packing, drop_triangle, choose_place, takes, packing_after, limited, choose}
use Rattle.rules.specs.Pack.{chosen, cons, choose_all}
use Rattle.book.specs.Shown.{shown_all}
use Rattle.book.proofs.Shown.{Live, reached_first}
use Rattle.choice_theory.specs.Full.{with_ring, new_numbers}
use Rattle.choice_theory.proofs.Steps.Surgery.{triangle_at, after_border, Surgery}
use Rattle.choice_theory.proofs.Steps.Tally.{all_open_edges}
use Rattle.mesh_theory.proofs.Fans.Corners.{in_next}
use Rattle.choice_theory.proofs.Turning.Ways.{Told, told, Finds}
use Rattle.choice_theory.proofs.Steps.Legal.{legal_step}
use Rattle.choice_theory.proofs.Places.Standing.{legal_used}
use Rattle.choice_theory.proofs.Steps.First.{legal_first}
use Rattle.choice_theory.proofs.Steps.Effects.{built, allows, border_marks}
use Rattle.choice_theory.proofs.Steps.Falling.{build_opens, border_opens}
use Rattle.choice_theory.proofs.Runs.Machine.{Run, r_done, r_start, r_build, r_border, Sound, sound_border, Choices}
use Rattle.choice_theory.proofs.Runs.Tracking.{first_ring, shown_places, shown_loops, peak, Within, numbered_after, same_numbers}
use Rattle.choice_theory.proofs.Runs.Tracking.{numbering}
use Rattle.choice_theory.proofs.Places.Numbering.{Met, Numbered, not_met, numbered_old, numbered_new, numbered_start}
use Rattle.choice_theory.proofs.Steps.Choosing.{choose_border, choose_new, choose_old, choose_start, no_new}
use Rattle.choice_theory.proofs.Runs.Whole.{all_ended, all_taken_lem, choose_ended}

-- the first of the triangles left is the one dropped
drop_first : (x y z : ℕ) (t : Triangle) (ts : List Triangle) → Rot t x y z → drop_triangle x y (t ∷ ts) ≡ ts
unfolding drop_triangle Told
drop_first x y z t ts r = go (in_triangle x y t) (told x y t)
  where
    go : (m : Across) → Told x y t m → ◌≡◌ {A = List Triangle} (elim m [ Found n k w ↦ ts | Nothing ↦ t ∷ drop_triangle x y ts ]) ts
    go (Found n k w) h = refl
    go Nothing h = absurd (h z r)

pub limited_takes : (o : Operation) (s : Packing) → places s.loops ≤ s.limit_places → length s.loops ≤ s.limit_loops
    → limited o s ≡ takes o s
unfolding limited
limited_takes o s h k = rw (limited, le-leb (places s.loops) s.limit_places h, le-leb (length s.loops) s.limit_loops k) refl

-- the packer has taken the operations os and ended
pub record Followed (s : Packing) (n : ℕ) (os : List Operation) (a b : ℕ) (vs : List ℕ) : Type 0 where
  pub last : Packing
  pub does : choose_all n s ≡ chosen os last
  pub most_places_lem : last.most_places ≡ a
  pub most_loops_lem : last.most_loops ≡ b
  pub numbers : last.numbered ≡ vs

-- one operation more
followed_more : (s : Packing) (n : ℕ) (o : Operation) (os : List Operation) (ts : List Triangle) (vs : List ℕ) (ls : List Ring) (a b : ℕ)
    (ns : List ℕ)
    → choose s ≡ limited o (packing_after s ts vs ls) → places ls ≤ s.limit_places → length ls ≤ s.limit_loops
    → Followed (packing_after s ts vs ls) n os a b ns → Followed s (suc n) (o ∷ os) a b ns
followed_more s n o os ts vs ls a b ns h p l f = record {
  last = f.last;
  does = all_taken_lem n s (packing_after s ts vs ls) o (h ∙ limited_takes o (packing_after s ts vs ls) p l) ∙ ap (cons o) f.does;
  most_places_lem = f.most_places_lem;
  most_loops_lem = f.most_loops_lem;
  numbers = f.numbers;
}

-- the packer's choice at a step that builds
module _ (s : Packing) (B R : List Triangle) (rims ws ls : List Ring) (e f : Node) (ps : List Node) (c : ℕ) (o : Operation)
    (live : Live ws) (sound : Sound B rims ((e ∷ (f ∷ ps)) ∷ ws)) (does : Surgery e f ps ws ls c o)
    (found : Finds (vertex f) (vertex e) c s.mesh)
    (left : s.left ≡ triangle_at e f c ∷ R) (loops : s.loops ≡ shown_all ((e ∷ (f ∷ ps)) ∷ ws)) (numbers : Numbered s.numbered B) where
  edge_used : (z : ℕ) × In (vertex e) (vertex f) z B
  edge_used = (legal_used B ((e ∷ (f ∷ ps)) ∷ ws) rims sound).0.0.1

  met_e : Met (vertex e) B
  met_e = (vertex f, edge_used.0, edge_used.1)

  met_f : Met (vertex f) B
  met_f = (edge_used.0, vertex e, in_next edge_used.1)

  dropped : drop_triangle (vertex f) (vertex e) s.left ≡ R
  dropped = ap (drop_triangle (vertex f) (vertex e)) left ∙ drop_first (vertex f) (vertex e) c (triangle_at e f c) R (at_p refl refl refl)

  -- the packing's loops
  first : shown_all ((e ∷ (f ∷ ps)) ∷ ws) ≡ (e ∷ (f ∷ reached ps (not (is_open f)))) ∷ shown_all ws
  first = ap (λ (r : List Node). (e ∷ r) ∷ shown_all ws) (reached_first f ps)

  allows_now : (k : Operation) → Surgery e f ps ws ls c k
      → at_edge k c (vertex e) (f ∷ reached ps (not (is_open f))) (shown_all ws) ≡ built k e f (shown_all ls) c
  allows_now k d = ap (λ (r : List Node). at_edge k c (vertex e) r (shown_all ws)) (sym (reached_first f ps))
      ∙ allows k e f ps ws ls c live d

  builds_next : ((o ≡ New) × ((m n : ℕ) → In c m n B → ⊥))
      ⊎ ((choose_place (vertex e) (vertex f) c R (shown_all ((e ∷ (f ∷ ps)) ∷ ws)) ≡ o) × ((m : ℕ) × (n : ℕ) × In c m n B))
      → (choose s ≡ limited o (packing_after s R (numbered_after o c s.numbered) (shown_all ls)))
      × Numbered (numbered_after o c s.numbered) (triangle_at e f c ∷ B)
  builds_next (inl (q, none)) = (
    subst (λ (k : Operation). choose s ≡ limited k (packing_after s R (numbered_after k c s.numbered) (shown_all ls))) (sym q)
        (choose_new s e f (reached ps (not (is_open f))) (shown_all ws) (shown_all ls) R c found.number found.corner (loops ∙ first)
        found.found dropped (not_met s.numbered B numbers c none)
        (allows_now New (subst (Surgery e f ps ws ls c) q does))),
    subst (λ (k : Operation). Numbered (numbered_after k c s.numbered) (triangle_at e f c ∷ B)) (sym q)
        (numbered_new s.numbered B (triangle_at e f c) numbers met_f met_e),
  )
  builds_next (inr (q, met)) =
      let z : numbered_after o c s.numbered ≡ s.numbered =
      same_numbers o c s.numbered (ap new_numbers (sym q) ∙ no_new (vertex e) (vertex f) c R (shown_all ((e ∷ (f ∷ ps)) ∷ ws))) in (
        subst (λ (vs : List ℕ). choose s ≡ limited o (packing_after s R vs (shown_all ls))) (sym z)
            (choose_old s e f (reached ps (not (is_open f))) (shown_all ws) (shown_all ls) R o c found.number found.corner
            (loops ∙ first) found.found dropped (numbers.numbered c met)
            (ap (choose_place (vertex e) (vertex f) c R) (sym first) ∙ q) (allows_now o does)),
        subst (λ (vs : List ℕ). Numbered vs (triangle_at e f c ∷ B)) (sym z)
            (numbered_old s.numbered B (triangle_at e f c) numbers met_f met_e met),
      )

pub follow : (n : ℕ) {M B : List Triangle} {rims ls : List Ring} {os : List Operation} {R : List Triangle} (run : Run M B rims ls os R)
    (s : Packing)
    → Choices s.mesh run → Sound B rims ls → Within shown_places s.limit_places run → Within shown_loops s.limit_loops run
    → s.left ≡ R → s.loops ≡ shown_all ls → Numbered s.numbered B → length os < n
    → Followed s n os (peak shown_places s.most_places run) (peak shown_loops s.most_loops run) (numbering s.numbered run)
unfolding reached
follow zero run s c l p q hl hs ns h = absurd (omega arith)
follow (suc n) r_done s c l p q hl hs ns h = record {
  last = s;
  does = all_ended n s (choose_ended s hs hl);
  most_places_lem = refl;
  most_loops_lem = refl;
  numbers = refl;
}
follow (suc n) {M} {B} (r_start {rims = rims} {p = x} {q = y} {r = z} {os = os} {R = R} np nq nr d run) s c l p q hl hs ns h =
    let t : Triangle = record { p = x; q = y; r = z } in
    let vs = s.numbered ++ (x ∷ (y ∷ (z ∷ []))) in
    followed_more s n Start os R vs (first_ring x y z) _ _ _ (choose_start s t R hs hl) p.0 q.0
    (follow n run (packing_after s R vs (first_ring x y z)) c (legal_first B rims x y z d np nq nr l) p.1 q.1 refl refl
    (numbered_start s.numbered B t ns) (omega arith))
follow (suc n) {M} {B} (r_build {rims = rims} {ws = ws} {ls = ls} {e = e} {f = f} {ps = ps} {c = x} {o = o} {os = os} {R = R} v g ra rb d
    new run) s c l p q hl hs ns h =
    let k = builds_next s B R rims ws ls e f ps x o v.1 l g c.0 hl hs ns c.1 in
    let vs = numbered_after o x s.numbered in
    followed_more s n o os R vs (shown_all ls) _ _ _ k.0 p.0 q.0
    (follow n run (packing_after s R vs (shown_all ls)) c.2 (legal_step B e f ps ws ls rims x o g ra rb d.0 d.1 d.2 l) p.1
    q.1 refl refl k.1 (omega arith))
follow (suc n) {M} {B} (r_border {rims = rims} {ws = ws} {e = e} {f = f} {ps = ps} {os = os} {R = R} v run) s c l p q hl hs ns h =
    let ls = with_ring (after_border e f ps) ws in
    let m = border_marks 0 e f ps ws in
    let first : shown_all ((e ∷ (f ∷ ps)) ∷ ws) ≡ (e ∷ (f ∷ reached ps (not (is_open f)))) ∷ shown_all ws =
    ap (λ (r : List Node). (e ∷ r) ∷ shown_all ws) (reached_first f ps) in
    followed_more s n Border os R s.numbered (shown_all ls) _ _ _
    (choose_border s e f (reached ps (not (is_open f))) (shown_all ws) (shown_all ls) (edge (vertex e) (vertex f)) m.0 (hs ∙ first) c.0
    (ap (λ (r : List Node). at_edge Border 0 (vertex e) r (shown_all ws)) (sym (reached_first f ps)) ∙ m.1)
    ∙ ap (λ (ts : List Triangle). limited Border (packing_after s ts s.numbered (shown_all ls))) hl)
    p.0 q.0
    (follow n run (packing_after s R s.numbered (shown_all ls)) c.1 (sound_border B rims ws e f ps l) p.1 q.1 refl refl ns
    (omega arith))

-- a run has no more operations than there is labour
pub run_length : {M B : List Triangle} {rims ls : List Ring} {os : List Operation} {R : List Triangle} → Run M B rims ls os R
    → length os ≤ 4 * length R + all_open_edges ls
run_length r_done = omega arith
run_length (r_start np nq nr d run) = let h = run_length run in omega arith
run_length (r_build {ws = ws} {ls = ls} {e = e} {f = f} {ps = ps} {c = c} {o = o} v s ra rb d new run) =
    let h = run_length run in let k = build_opens e f ps ws ls c o s in omega arith
run_length (r_border {ws = ws} {e = e} {f = f} {ps = ps} v run) = let h = run_length run in let k = border_opens e f ps ws v in omega arith
