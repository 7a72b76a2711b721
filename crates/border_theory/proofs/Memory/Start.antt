-- Start: the loop of three places after it stands.
-- Assumes nothing.
use Prim.Native.Nat.{ℕ, suc, ◌+◌, ◌-◌, ◌*◌, ◌≤◌, ◌<◌}
use native.Mathlib.Omega.{arith}
use mathlib.Core.Bool.{true}
use mathlib.Core.List.{List, [], ◌∷◌}
use mathlib.Core.Path.{◌≡◌, refl, sym, ap, ◌∙◌, subst}
use lib.ListN.{length, get_or, set, length-set}
use lib.Seq.{get_or-set_same, get_or-set_other}
use Rattle.rules.specs.declared.Operation.TheVariants.{Start}
use Rattle.rules.specs.Count.{same}
use Rattle.rules.specs.Ring.{opened, Ring}
use Rattle.rules.specs.Table.{at_rest}
use Rattle.book.specs.Sums.{path_sum, ring_sum, loops_sum}
use Rattle.border_theory.specs.Links.Held.{Memory, Arc, arc, Holds, named_ring, named_loops}
use Rattle.border_theory.proofs.Links.Relink.{stored}
use Rattle.border_theory.proofs.Links.Surgery.{do_start}
use Rattle.cutborder.specs.declared.Loops.{Loops}
use Rattle.border_theory.specs.Memory.Layout.{at, vertices_of, links_of, edges_stored, stacked}
use Rattle.border_theory.specs.Memory.Stands.{StandsAt}
use Rattle.border_theory.specs.Memory.Moves.{start_held}
use Rattle.border_theory.proofs.Memory.Columns.{EdgesStored, column_length, edges_stored_lem, links_long, named_vertices, named_links}
use Rattle.border_theory.proofs.Memory.Columns.{named_above}
use Rattle.border_theory.proofs.Memory.Standing.{each_le, stack_near}
use Rattle.border_theory.proofs.Memory.Relinked.{Moved, stacked_same, stacked_top}
use Rattle.counting.proofs.Counts.{same_yes}

module _ (n : ℕ) (s : Loops) (m : List ℕ) (st : StandsAt n s m []) (some : 3 ≤ s.free) where
  a : ℕ
  a = at m (4 * n + (s.free - 1))

  b : ℕ
  b = at m (4 * n + (s.free - 2))

  c : ℕ
  c = at m (4 * n + (s.free - 3))

  stack_three : (x : ℕ) → stacked n m s.free x ≡ same x a + (same x b + (same x c + stacked n m (s.free - 3) x))
  unfolding a b c
  stack_three x =
      let d : s.free - 1 - 1 ≡ s.free - 2 = omega arith in
      let e : s.free - 2 - 1 ≡ s.free - 3 = omega arith in
      omega (
        arith,
        stacked_top n x m s.free (omega arith),
        rw d at (stacked_top n x m (s.free - 1) (omega arith)),
        rw e at (stacked_top n x m (s.free - 2) (omega arith)),
      )

  near_a : a < n
  near_a = (stack_near n s m [] st a (omega (arith, stack_three a, same_yes a))).1

  near_b : b < n
  near_b = (stack_near n s m [] st b (omega (arith, stack_three b, same_yes b))).1

  near_c : c < n
  near_c = (stack_near n s m [] st c (omega (arith, stack_three c, same_yes c))).1

  pub first_near : at m (4 * n + (s.free - 1)) < n
  unfolding a
  first_near = near_a

  pub second_near : at m (4 * n + (s.free - 2)) < n
  unfolding b
  second_near = near_b

  pub third_near : at m (4 * n + (s.free - 3)) < n
  unfolding c
  third_near = near_c

  a≢b : a ≡ b → ⊥
  a≢b e = omega (arith, stack_three a, same_yes a, ap (same a) e, st.each a, each_le n s m [] st a)

  b≢c : b ≡ c → ⊥
  b≢c e = omega (arith, stack_three b, same_yes b, ap (same b) e, st.each b, each_le n s m [] st b)

  c≢a : c ≡ a → ⊥
  c≢a e = omega (arith, stack_three c, same_yes c, ap (same c) e, st.each c, each_le n s m [] st c)

  module _ (u : ℕ) (more : 5 * n + 2 ≤ length m) where
    arcs : List Arc
    arcs = arc a b true ∷ (arc b c true ∷ (arc c a true ∷ []))

    m₁ : List ℕ
    m₁ = set m (4 * a) u

    m₂ : List ℕ
    m₂ = set m₁ (4 * b) (u + 1)

    m₃ : List ℕ
    m₃ = set m₂ (4 * c) (u + 2)

    long : 4 * n ≤ length m
    long = omega (arith, st.long)

    long₁ : 4 * n ≤ length m₁
    unfolding m₁
    long₁ = simp length-set long

    long₂ : 4 * n ≤ length m₂
    unfolding m₂
    long₂ = simp length-set long₁

    long₃ : length m₃ ≡ length m
    unfolding m₃ m₂ m₁
    long₃ = simp length-set

    after : List ℕ
    after = edges_stored arcs m₃

    made : EdgesStored n m₃ arcs
    unfolding arcs
    made = edges_stored_lem n m₃ arcs (omega (arith, long, long₃)) (near_a, near_b, (near_b, near_c, (near_c, near_a, tt)))

    links₃ : links_of n m₃ ≡ links_of n m
    unfolding m₃ m₂ m₁
    links₃ = named_links n m₂ c (u + 2) long₂ near_c ∙ named_links n m₁ b (u + 1) long₁ near_b ∙ named_links n m a u long near_a

    vertices₃ : vertices_of n m₃ ≡ set (set (set (vertices_of n m) a u) b (u + 1)) c (u + 2)
    unfolding m₃ m₂ m₁
    vertices₃ =
        named_vertices n m₂ c (u + 2) long₂ near_c
        ∙ ap (λ (l : List ℕ). set l c (u + 2))
        (named_vertices n m₁ b (u + 1) long₁ near_b ∙ ap (λ (l : List ℕ). set l b (u + 1)) (named_vertices n m a u long near_a))

    above₃ : (i : ℕ) → 4 * n ≤ i → at m₃ i ≡ at m i
    unfolding m₃ m₂ m₁
    above₃ i h = named_above n m₂ c (u + 2) long₂ near_c i h ∙ named_above n m₁ b (u + 1) long₁ near_b i h
        ∙ named_above n m a u long near_a i h

    ring : List Ring
    ring = (opened a ∷ (opened b ∷ (opened c ∷ []))) ∷ []

    names : named_loops (vertices_of n after) ring ≡ (opened u ∷ (opened (suc u) ∷ (opened (suc (suc u)) ∷ []))) ∷ []
    unfolding after ring named_loops named_ring
    names =
        let vs : List ℕ = vertices_of n m in
        let va : List ℕ = set vs a u in
        let vb : List ℕ = set va b (u + 1) in
        let vc : List ℕ = set vb c (u + 2) in
        let lv : length vs ≡ n = column_length m 0 n in
        let la : length va ≡ n = length-set vs a u ∙ lv in
        let lb : length vb ≡ n = length-set va b (u + 1) ∙ la in
        let v : vertices_of n (edges_stored arcs m₃) ≡ vc = made.vertices ∙ vertices₃ in
        let ea : get_or vc a 0 ≡ u =
        get_or-set_other vb c a (u + 2) 0 (λ z. c≢a (sym z)) ∙ get_or-set_other va b a (u + 1) 0 a≢b
        ∙ get_or-set_same vs a u 0 (omega (arith, lv, near_a)) in
        let eb : get_or vc b 0 ≡ suc u =
        get_or-set_other vb c b (u + 2) 0 b≢c ∙ get_or-set_same va b (u + 1) 0 (omega (arith, la, near_b)) ∙ omega arith in
        let ec : get_or vc c 0 ≡ suc (suc u) = get_or-set_same vb c (u + 2) 0 (omega (arith, lb, near_c)) ∙ omega arith in
        rw (v, ea, eb, ec)

    stands : StandsAt n (record { live = 1; current = a; size = 3; free = s.free - 3 }) after ring
    unfolding after ring arcs loops_sum ring_sum path_sum
    stands = record {
      long = omega (arith, more, made.lengths, long₃);
      holds =
          subst (λ (M : Memory). Holds M ((opened a ∷ (opened b ∷ (opened c ∷ []))) ∷ [])) (sym (made.links ∙ ap (stored arcs) links₃))
          (do_start n (links_of n m) (links_long n m) [] a b c a≢b b≢c c≢a near_a near_b near_c).holds;
      each = λ x.
          omega (
            arith,
            st.each x,
            stack_three x,
            stacked_same n x m (edges_stored arcs m₃) (s.free - 3)
                (λ i h. made.above (4 * n + i) (omega arith) ∙ above₃ (4 * n + i) (omega arith)),
          );
      heads = record { live = refl; current = refl; size = refl; waiting = tt };
      sound = (refl, tt, tt);
    }

    pub moved_start : Moved n s m (start_held n s m u)
        ((opened (at m (4 * n + (s.free - 1))) ∷ (opened (at m (4 * n + (s.free - 2))) ∷ (opened (at m (4 * n + (s.free - 3))) ∷ [])))
        ∷ [])
        (at_rest Start u)
    unfolding start_held after arcs m₃ m₂ m₁ a b c at_rest ring
    moved_start = record {
      lengths = made.lengths ∙ long₃;
      rest = λ i h. made.above i (omega arith) ∙ above₃ i (omega arith);
      stack = λ j h k. made.above (4 * n + j) (omega arith) ∙ above₃ (4 * n + j) (omega arith);
      stands = stands;
      loops = names;
    }
