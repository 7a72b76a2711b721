-- Union: the loop after it stands, and the waiting loop that it takes in waits no more.
-- Assumes nothing.
use Prim.Native.Nat.{ℕ, ◌+◌, ◌-◌, ◌*◌, ◌≤◌, ◌<◌}
use native.Mathlib.Omega.{arith}
use mathlib.Core.Bool.{◌&&◌}
use mathlib.Core.List.{List, ◌∷◌, ◌++◌}
use mathlib.Core.Path.{◌≡◌, refl, ap, ◌∙◌}
use lib.ListN.{length, take, drop, length-append, take-append-drop}
use lib.Dec.{leb, ltb}
use borrow.Author.Tests.{leb-true}
use Rattle.rules.specs.declared.Operation.TheVariants.{Union}
use Rattle.rules.specs.Count.{same}
use Rattle.rules.specs.Ring.{Node, opened, Ring, start_or, vertex_at, last_open, last_vertex, loop_at, without}
use Rattle.rules.specs.Table.{at_edge}
use Rattle.book.specs.Sums.{path_sum, ring_sum, loops_sum, placed}
use Rattle.book.proofs.Sums.{sum_append, sum_turn, sum_without, length_without}
use Rattle.border_theory.specs.Links.Held.{named_loops}
use Rattle.border_theory.proofs.Links.Stores.{places_after, stores, vertices_after}
use Rattle.border_theory.proofs.Links.Named.{named_lives}
use Rattle.border_theory.proofs.Links.Surgery.{end_free}
use Rattle.cutborder.specs.declared.Loops.{Loops}
use Rattle.border_theory.specs.Memory.Layout.{at, vertices_of, stacked, moved_down}
use Rattle.border_theory.specs.Memory.Stands.{Waits, StandsAt}
use Rattle.border_theory.specs.Memory.Moves.{doubled, union_held, top_free}
use Rattle.border_theory.proofs.Memory.Columns.{same_vertices, same_links}
use Rattle.border_theory.proofs.Memory.Standing.{Hop, Trail, trails, trail_at, near_trail}
use Rattle.border_theory.proofs.Memory.Room.{room}
use Rattle.border_theory.proofs.Memory.Relinked.{Goes, Moved, effect_at, Relinked, fit, relinked, stacked_same, stacked_top}
use Rattle.border_theory.proofs.Memory.Relinked.{waits_same}
use Rattle.border_theory.proofs.Memory.Waiting.{waits_at, Down, moved_down_lem, waits_without}
use Rattle.border_theory.proofs.Memory.Doubled.{goes_test, union_hop, q, free, arcs, doubled_length, doubled_above, doubled_links}
use Rattle.border_theory.proofs.Memory.Doubled.{doubled_vertices}
use Rattle.counting.proofs.Bools.{and_left, and_right}

module _ (n : ℕ) (s : Loops) (m : List ℕ) (u e : ℕ) (ps : List Node) (ws : List Ring)
    (st : StandsAt n s m ((opened e ∷ ps) ∷ ws)) (some : 1 ≤ s.free) where
  -- of a union with waiting loop p at its place j
  module _ (p j : ℕ) (goes : Goes (effect_at (Union p j) u n m e ps ws)) where
    joined : Ring
    joined = loop_at ws (p - 1)

    meet : ℕ
    meet = vertex_at joined j

    doubles : ℕ
    doubles = q n s m e ps ws st some

    pub union_inside : (1 ≤ p) × (p ≤ length ws) × (j < length (loop_at ws (p - 1)))
    unfolding at_edge
    union_inside =
        let vs : List ℕ = vertices_of n m in
        let t = goes_test (leb 1 p && leb p (length (named_loops vs ws)) && ltb j (length (loop_at (named_loops vs ws) (p - 1)))) _ goes in
        let b = and_left (leb 1 p && leb p (length (named_loops vs ws))) _ t in (
          leb-true 1 p (and_left (leb 1 p) _ b),
          omega (arith, leb-true p (length (named_loops vs ws)) (and_right (leb 1 p) _ b), named_lives vs ws),
          (fit (Union p j) n s m u 0 e ps ws st goes).1,
        )

    around : Trail n m joined (start_or 0 joined)
    unfolding joined
    around = trail_at n m ws (p - 1) (trails n s m ((opened e ∷ ps) ∷ ws) st).1

    spliced : List Node
    spliced = drop j joined ++ take j joined

    hop₂ : Hop n m (last_vertex spliced) meet (last_open spliced)
    unfolding spliced meet joined
    hop₂ = union_hop n m joined j union_inside.2 around

    near₂ : meet < n
    unfolding meet joined
    near₂ = near_trail n m (start_or 0 joined) joined j around union_inside.2

    placed_union : (x : ℕ) → placed x (places_after (Union p j) doubles e ps ws) ≡ placed x ((opened e ∷ ps) ∷ ws) + same x doubles
    unfolding places_after loops_sum ring_sum path_sum spliced joined
    placed_union x =
        omega (
          arith,
          sum_append (λ p r o. same x p) ps (opened e ∷ spliced) doubles,
          sum_without (λ p r o. same x p) ws (p - 1) (omega (arith, union_inside.0, union_inside.1)),
          sum_turn (λ p r o. same x p) (drop j joined) (take j joined),
          end_free (same x) spliced doubles (start_or 0 spliced),
          ap (λ (y : Ring). path_sum (λ p r o. same x p) y (start_or 0 y)) (take-append-drop j joined),
        )

    lower : ℕ
    lower = s.live - 1 - p

    lower_is : lower + (p - 1) + 1 ≡ length ws
    unfolding lower
    lower_is = omega (arith, st.heads.live, union_inside.0, union_inside.1)

    memory₁ : List ℕ
    memory₁ = doubled n s m meet

    long₁ : length memory₁ ≡ length m
    unfolding memory₁
    long₁ = doubled_length n s m e ps ws st some (last_vertex spliced) meet (last_open spliced) hop₂ near₂

    above₁ : (x : ℕ) → 4 * n ≤ x → at memory₁ x ≡ at m x
    unfolding memory₁
    above₁ = doubled_above n s m e ps ws st some (last_vertex spliced) meet (last_open spliced) hop₂ near₂

    memory₂ : List ℕ
    memory₂ = moved_down n memory₁ lower (p - 1)

    down : Down n memory₁ lower (p - 1) memory₂
    unfolding memory₂
    down = moved_down_lem n memory₁ lower (p - 1) (omega (arith, lower_is, long₁, st.long, st.heads.live))

    linked : Relinked n memory₂ (places_after (Union p j) doubles e ps ws) (effect_at (Union p j) u n m e ps ws)
    unfolding memory₁ stores vertices_after spliced joined meet doubles arcs
    linked =
        let h : (x : ℕ) → x < 4 * n → at memory₂ x ≡ at memory₁ x = λ x y. down.before x (omega (arith, y)) in
        relinked (Union p j) n s m u doubles e ps ws st goes tt (λ t. free n s m e ps ws st some) memory₂
        (same_links n memory₁ memory₂ h ∙ doubled_links n s m e ps ws st some (last_vertex spliced) meet (last_open spliced) hop₂ near₂)
        (same_vertices n memory₁ memory₂ h
        ∙ doubled_vertices n s m e ps ws st some (last_vertex spliced) meet (last_open spliced) hop₂ near₂)

    whole : List Node
    whole = opened doubles ∷ (ps ++ (opened e ∷ spliced))

    rings : places_after (Union p j) doubles e ps ws ≡ whole ∷ without ws (p - 1)
    unfolding places_after whole spliced joined
    rings = refl

    whole_start : doubles ≡ start_or 0 whole
    unfolding whole
    whole_start = refl

    spliced_length : length spliced ≡ length joined
    unfolding spliced
    spliced_length =
        length-append (drop j joined) (take j joined)
        ∙ omega (arith, length-append (take j joined) (drop j joined), ap length (take-append-drop j joined))

    whole_length : s.size + 1 + at m (5 * n + 2 * lower + 1) ≡ length whole
    unfolding whole joined
    whole_length =
        simp length-append
        (omega (arith, st.heads.size, spliced_length, (waits_at n m ws (p - 1) lower lower_is st.heads.waiting).1))

    waiting : Waits n memory₂ (without ws (p - 1))
    waiting =
        waits_without n memory₁ memory₂ ws (p - 1) lower lower_is
        (waits_same n m memory₁ (λ x y. above₁ x (omega arith)) ws st.heads.waiting) down.before
        down.first down.second

    top_doubles : (x : ℕ) → stacked n m s.free x ≡ same x doubles + stacked n m (s.free - 1) x
    unfolding doubles q
    top_doubles x = stacked_top n x m s.free some

    stands : StandsAt n (record
        { live = s.live - 1; current = doubles; size = s.size + 1 + at m (5 * n + 2 * lower + 1); free = s.free - 1 }) memory₂
        (places_after (Union p j) doubles e ps ws)
    stands = record {
      long = omega (arith, st.long, down.lengths, long₁);
      holds = linked.holds;
      each = λ x.
          omega (
            arith,
            st.each x,
            placed_union x,
            top_doubles x,
            stacked_same n x m memory₂ (s.free - 1)
                (λ i y. down.before (4 * n + i) (omega (arith, y, room n s m ((opened e ∷ ps) ∷ ws) st))
                ∙ above₁ (4 * n + i) (omega arith)),
          );
      heads = rw rings
          (record {
            live = omega (arith, st.heads.live, length_without ws (p - 1) (omega (arith, union_inside.0, union_inside.1)));
            current = whole_start;
            size = whole_length;
            waiting = waiting;
          });
      sound = linked.current;
    }

    pub moved_union : Moved n s m (union_held n s m p (vertex_at (loop_at ws (p - 1)) j))
        (places_after (Union p j) (top_free n s m) e ps ws)
        (effect_at (Union p j) u n m e ps ws)
    unfolding union_held memory₂ memory₁ lower meet joined doubles q
    moved_union = record {
      lengths = down.lengths ∙ long₁;
      rest = λ i h. down.after i (omega (arith, h, lower_is, st.heads.live)) ∙ above₁ i (omega arith);
      stack = λ i h k. down.before (4 * n + i) (omega (arith, h, room n s m ((opened e ∷ ps) ∷ ws) st)) ∙ above₁ (4 * n + i) (omega arith);
      stands = stands;
      loops = linked.loops;
    }
