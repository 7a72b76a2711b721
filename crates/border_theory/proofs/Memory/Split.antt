-- Split: the two loops after it stand, the shorter one first.
-- Assumes nothing.
use Prim.Native.Nat.{ℕ, suc, ◌+◌, ◌-◌, ◌*◌, ◌≤◌, ◌<◌}
use native.Mathlib.Omega.{arith}
use mathlib.Core.Bool.{Bool, true, false}
use mathlib.Core.List.{List, ◌∷◌}
use mathlib.Core.Path.{◌≡◌, refl, sym, ap, ap₂, ◌∙◌, subst}
use lib.ListN.{length, take, drop, length-drop, take-append-drop}
use lib.Seq.{length-take-le}
use lib.Dec.{leb}
use Rattle.rules.specs.declared.Operation.TheVariants.{Split}
use Rattle.rules.specs.Count.{same}
use Rattle.rules.specs.Ring.{Node, opened, Ring, start_or, vertex_at, last_open, last_vertex}
use Rattle.rules.specs.Table.{in_order}
use Rattle.book.specs.Sums.{path_sum, ring_sum, loops_sum, placed}
use Rattle.book.proofs.Sums.{sum_append}
use Rattle.book.proofs.Effects.{sum_order}
use Rattle.border_theory.proofs.Links.Stores.{places_after, stores, vertices_after}
use Rattle.border_theory.proofs.Links.Surgery.{end_free}
use Rattle.cutborder.specs.declared.Loops.{Loops}
use Rattle.border_theory.specs.Memory.Layout.{at, stacked, waits}
use Rattle.border_theory.specs.Memory.Stands.{Waits, StandsAt}
use Rattle.border_theory.specs.Memory.Moves.{held, doubled, split_by, split_held, top_free}
use Rattle.border_theory.proofs.Memory.Columns.{same_vertices, same_links}
use Rattle.border_theory.proofs.Memory.Standing.{Hop, near_trail}
use Rattle.border_theory.proofs.Memory.Room.{room}
use Rattle.border_theory.proofs.Memory.Relinked.{Goes, Moved, effect_at, Relinked, fit, relinked, stacked_same, stacked_top}
use Rattle.border_theory.proofs.Memory.Waiting.{waits_within, waits_length, waits_other, waits_first, waits_second}
use Rattle.border_theory.proofs.Memory.Doubled.{split_hop, q, free, ring, arcs, doubled_length, doubled_above, doubled_links}
use Rattle.border_theory.proofs.Memory.Doubled.{doubled_vertices}

module _ (n : ℕ) (s : Loops) (m : List ℕ) (u e : ℕ) (ps : List Node) (ws : List Ring)
    (st : StandsAt n s m ((opened e ∷ ps) ∷ ws)) (some : 1 ≤ s.free) where
  -- of a split
  module _ (i : ℕ) (goes : Goes (effect_at (Split i) u n m e ps ws)) (more : 5 * n + 2 * (s.live + 1) ≤ length m) where
    low : List Node
    low = take i ps

    high : List Node
    high = drop i ps

    third : ℕ
    third = vertex_at ps i

    second : ℕ
    second = q n s m e ps ws st some

    inside : (1 ≤ i) × (i < length ps)
    inside = fit (Split i) n s m u 0 e ps ws st goes

    hop : Hop n m (last_vertex low) third (last_open low)
    unfolding low third
    hop = split_hop n m e ps i inside.0 inside.1 (ring n s m e ps ws st some).1

    near : third < n
    unfolding third
    near = near_trail n m e ps i (ring n s m e ps ws st some).1 inside.1

    placed_split : (x : ℕ) → placed x (places_after (Split i) second e ps ws) ≡ placed x ((opened e ∷ ps) ∷ ws) + same x second
    unfolding places_after loops_sum ring_sum path_sum low high
    placed_split x =
        omega (
          arith,
          sum_order (λ p r o. same x p) (leb (length (opened second ∷ low)) (length (opened e ∷ high))) (opened second ∷ low)
              (opened e ∷ high) ws,
          sum_append (λ p r o. same x p) low high e,
          end_free (same x) low second (start_or e high),
          ap (λ (y : List Node). path_sum (λ p r o. same x p) y e) (take-append-drop i ps),
        )

    memory₁ : List ℕ
    memory₁ = doubled n s m third

    long₁ : length memory₁ ≡ length m
    unfolding memory₁
    long₁ = doubled_length n s m e ps ws st some (last_vertex low) third (last_open low) hop near

    above₁ : (x : ℕ) → 4 * n ≤ x → at memory₁ x ≡ at m x
    unfolding memory₁
    above₁ = doubled_above n s m e ps ws st some (last_vertex low) third (last_open low) hop near

    any : (m₂ : List ℕ) → ((x : ℕ) → x < 4 * n → at m₂ x ≡ at memory₁ x)
        → Relinked n m₂ (places_after (Split i) second e ps ws) (effect_at (Split i) u n m e ps ws)
    unfolding memory₁ stores vertices_after low third second arcs
    any m₂ h =
        relinked (Split i) n s m u second e ps ws st goes tt (λ t. free n s m e ps ws st some) m₂
        (same_links n memory₁ m₂ h ∙ doubled_links n s m e ps ws st some (last_vertex low) third (last_open low) hop near)
        (same_vertices n memory₁ m₂ h ∙ doubled_vertices n s m e ps ws st some (last_vertex low) third (last_open low) hop near)

    low_length : length low ≡ i
    unfolding low
    low_length = length-take-le i ps (omega (arith, inside.1))

    high_length : i + length high ≡ length ps
    unfolding high
    high_length = omega (arith, length-drop i ps, inside.1)

    lower_size : suc (length low) ≡ i + 1
    lower_size = omega (arith, low_length)

    higher_size : suc (length high) ≡ s.size - i
    higher_size = omega (arith, high_length, st.heads.size)

    order : places_after (Split i) second e ps ws ≡ in_order (leb (i + 1) (s.size - i)) (opened second ∷ low) (opened e ∷ high) ws
    unfolding places_after low high
    order =
        ap (λ (t : Bool). in_order t (opened second ∷ low) (opened e ∷ high) ws) (ap₂ leb lower_size higher_size)

    top_second : (x : ℕ) → stacked n m s.free x ≡ same x second + stacked n m (s.free - 1) x
    unfolding second q
    top_second x = stacked_top n x m s.free some

    -- the other half waits
    put : (p k : ℕ) (l : Ring) → p ≡ start_or 0 l → k ≡ length l → Waits n (waits n memory₁ (s.live - 1) p k) (l ∷ ws)
    put p k l ep ek =
        let d : s.live - 1 ≡ length ws = omega (arith, st.heads.live) in
        let w : 5 * n + 2 * (s.live - 1) + 1 < length memory₁ = omega (arith, long₁, more) in (
          ap (λ (x : ℕ). at (waits n memory₁ (s.live - 1) p k) (5 * n + 2 * x)) (sym d) ∙ waits_first n memory₁ (s.live - 1) p k w ∙ ep,
          ap (λ (x : ℕ). at (waits n memory₁ (s.live - 1) p k) (5 * n + 2 * x + 1)) (sym d) ∙ waits_second n memory₁ (s.live - 1) p k w
              ∙ ek,
          waits_within n m (waits n memory₁ (s.live - 1) p k) ws
              (λ x y z. waits_other n memory₁ (s.live - 1) p k x (λ t. omega (arith, t, d)) (λ t. omega (arith, t, d))
              ∙ above₁ x (omega arith))
              st.heads.waiting,
        )

    halves : (p k : ℕ) (l l' : Ring) (c z : ℕ) → places_after (Split i) second e ps ws ≡ l ∷ (l' ∷ ws) → c ≡ start_or 0 l → z ≡ length l
        → p ≡ start_or 0 l' → k ≡ length l'
        → Moved n s m (held (s.live + 1) c z (s.free - 1) (waits n memory₁ (s.live - 1) p k)) (places_after (Split i) second e ps ws)
        (effect_at (Split i) u n m e ps ws)
    halves p k l l' c z eo ec ez ep ek =
        let m₂ : List ℕ = waits n memory₁ (s.live - 1) p k in
        let same₅ : (x : ℕ) → x < 5 * n → at m₂ x ≡ at memory₁ x =
        λ x y. waits_other n memory₁ (s.live - 1) p k x (λ t. omega (arith, t)) (λ t. omega (arith, t)) in
        let r = subst (λ (rs : List Ring). Relinked n m₂ rs (effect_at (Split i) u n m e ps ws)) eo (any m₂ (λ x y. same₅ x (omega arith)))
        in
        subst (λ (rs : List Ring). Moved n s m (held (s.live + 1) c z (s.free - 1) m₂) rs (effect_at (Split i) u n m e ps ws)) (sym eo)
        (record {
          lengths = waits_length n memory₁ (s.live - 1) p k ∙ long₁;
          rest = λ x y.
              waits_other n memory₁ (s.live - 1) p k x (λ t. omega (arith, t, y, st.heads.live))
              (λ t. omega (arith, t, y, st.heads.live))
              ∙ above₁ x (omega arith);
          stack = λ j x y. same₅ (4 * n + j) (omega (arith, x, room n s m ((opened e ∷ ps) ∷ ws) st)) ∙ above₁ (4 * n + j) (omega arith);
          stands = record {
            long = omega (arith, more, long₁, waits_length n memory₁ (s.live - 1) p k);
            holds = r.holds;
            each = λ x.
                omega (
                  arith,
                  st.each x,
                  placed_split x,
                  ap (placed x) eo,
                  top_second x,
                  stacked_same n x m m₂ (s.free - 1)
                      (λ j y. same₅ (4 * n + j) (omega (arith, room n s m ((opened e ∷ ps) ∷ ws) st)) ∙ above₁ (4 * n + j) (omega arith)),
                );
            heads = record { live = omega (arith, st.heads.live); current = ec; size = ez; waiting = put p k l' ep ek };
            sound = r.current;
          };
          loops = r.loops;
        })

    in_order_lem : (t : Bool) → places_after (Split i) second e ps ws ≡ in_order t (opened second ∷ low) (opened e ∷ high) ws
        → Moved n s m (split_by t n s memory₁ i second) (places_after (Split i) second e ps ws) (effect_at (Split i) u n m e ps ws)
    unfolding in_order
    in_order_lem true eo =
        halves s.current (s.size - i) (opened second ∷ low) (opened e ∷ high) second (i + 1) eo refl (sym lower_size)
        st.heads.current (sym higher_size)
    in_order_lem false eo =
        halves second (i + 1) (opened e ∷ high) (opened second ∷ low) s.current (s.size - i) eo st.heads.current (sym higher_size)
        refl (sym lower_size)

    pub moved_split : Moved n s m (split_held n s m i (vertex_at ps i)) (places_after (Split i) (top_free n s m) e ps ws)
        (effect_at (Split i) u n m e ps ws)
    unfolding split_held memory₁ third second q
    moved_split = in_order_lem (leb (i + 1) (s.size - i)) order
