-- Border: the places leave, the edge is marked, and the loops after that stand.
-- Assumes nothing.
use Prim.Native.Nat.{ℕ}
use native.Mathlib.Omega.{arith}
use mathlib.Core.Bool.{Bool, true, false}
use mathlib.Core.List.{List, [], ◌∷◌, ◌++◌}
use mathlib.Core.Path.{◌≡◌, refl, sym, ◌∙◌, subst}
use lib.ListN.{get_or}
use Rattle.rules.specs.declared.Operation.TheVariants.{Border}
use Rattle.rules.specs.Triangle.{Edge, edge}
use Rattle.rules.specs.Ring.{Node, opened, marked, Ring, start_or, last_open, last_vertex, front, onward, shown}
use Rattle.rules.specs.Table.{marking, at_edge}
use Rattle.book.specs.Consistent.{AllCurrent}
use Rattle.border_theory.specs.Links.Held.{named_ring, named_loops}
use Rattle.rules.specs.Places.{alive}
use Rattle.border_theory.proofs.Links.Stores.{after_border, cut_next, HasLoops}
use Rattle.border_theory.proofs.Links.Loops.{has_border}
use Rattle.border_theory.proofs.Links.Cut.{cut_kept, cut_lost, next_open, front_open}
use Rattle.cutborder.specs.declared.Loops.{Loops}
use Rattle.border_theory.specs.Memory.Layout.{vertices_of}
use Rattle.border_theory.specs.Memory.Stands.{StandsAt}
use Rattle.border_theory.specs.Memory.Moves.{next_cut, both_cut, marked_held}
use Rattle.border_theory.proofs.Memory.Relinked.{Goes, Moved, effect_at, law, current_has, current_places}
use Rattle.border_theory.proofs.Memory.Cut.{Left, cut_last, next_cut_lem, last_cut_lem}
use Rattle.border_theory.proofs.Memory.Ended.{turned}

marking_goes : (r : Ring) (ws : List Ring) (d : Edge) → Goes (marking r ws d)
marking_goes [] ws d = tt
marking_goes (p ∷ r) ws d = tt

module _ (n : ℕ) (s : Loops) (m : List ℕ) (u e : ℕ) (ps : List Node) (ws : List Ring)
    (st : StandsAt n s m ((opened e ∷ ps) ∷ ws)) where
  goes_border : Goes (effect_at Border u n m e ps ws)
  unfolding at_edge
  goes_border =
      marking_goes (shown (onward [] (named_ring (vertices_of n m) ps ++ (marked (get_or (vertices_of n m) e 0) ∷ []))))
      (named_loops (vertices_of n m) ws)
      (edge (get_or (vertices_of n m) e 0) (start_or (get_or (vertices_of n m) e 0) (named_ring (vertices_of n m) ps)))

  named : HasLoops (named_loops (vertices_of n m) (after_border e ps ws)) (effect_at Border u n m e ps ws)
  named = has_border (vertices_of n m) u 0 e ps ws

  current : AllCurrent (after_border e ps ws)
  current =
      current_places (vertices_of n m) (after_border e ps ws)
      (current_has u (named_loops (vertices_of n m) ((opened e ∷ ps) ∷ ws)) (named_loops (vertices_of n m) (after_border e ps ws))
      (effect_at Border u n m e ps ws)
      named (law Border n s m u 0 e ps ws st goes_border) goes_border)

  pub next : Left n s.free m (next_cut n s m) ((opened e ∷ cut_next ps) ∷ ws)
  next = next_cut_lem n s m e ps ws st

  pub both : (t : Bool) → last_open (opened e ∷ cut_next ps) ≡ t
      → Left n (next_cut n s m).loops.free (next_cut n s m).memory (both_cut n s m) (cut_last t e (cut_next ps) ∷ ws)
  both t h = last_cut_lem n (next_cut n s m).loops (next_cut n s m).memory e (cut_next ps) ws next.stands t h

  -- the loops that stand then are those of the table
  moved_by : (r : Ring) → shown (onward [] (ps ++ (marked e ∷ []))) ≡ r → (l : Ring)
      → Left n (next_cut n s m).loops.free (next_cut n s m).memory (both_cut n s m) (l ∷ ws)
      → Left n (both_cut n s m).loops.free (both_cut n s m).memory (marked_held n s m) (alive r ws)
      → Moved n s m (marked_held n s m) (after_border e ps ws) (effect_at Border u n m e ps ws)
  moved_by r e₁ l b k =
      let names : vertices_of n (marked_held n s m).memory ≡ vertices_of n m = k.vertices ∙ b.vertices ∙ next.vertices in
      record {
        lengths = k.lengths ∙ b.lengths ∙ next.lengths;
        rest = λ i h. k.rest i (omega arith) ∙ b.rest i (omega arith) ∙ next.rest i (omega arith);
        stack = λ j h g.
            k.stack j (omega (arith, h, next.more, b.more)) ∙ b.stack j (omega (arith, h, next.more)) ∙ next.stack j h;
        stands = subst (λ (x : Ring). StandsAt n (marked_held n s m).loops (marked_held n s m).memory (alive x ws)) (sym e₁) k.stands;
        loops =
            subst (λ (vs : List ℕ). HasLoops (named_loops vs (after_border e ps ws)) (effect_at Border u n m e ps ws)) (sym names) named;
      }

  moved : (t : Bool) → last_open (opened e ∷ cut_next ps) ≡ t
      → Moved n s m (marked_held n s m) (after_border e ps ws) (effect_at Border u n m e ps ws)
  unfolding marked_held
  moved true h =
      let q : List Node = cut_next ps in
      let e₁ = cut_kept e ps st.sound.2 h in
      moved_by (onward [] (q ++ (marked e ∷ []))) e₁ (opened e ∷ q) (both true h)
      (turned n (both_cut n s m).loops (both_cut n s m).memory e q ws (both true h).stands (next_open ps st.sound.2)
      (subst (λ (r : Ring). AllCurrent (alive r ws)) e₁ current))
  moved false h =
      let q : List Node = cut_next ps in
      let e₁ = cut_lost e ps st.sound.2 h in
      moved_by (onward [] (front q ++ (marked (last_vertex q) ∷ []))) e₁ (opened (last_vertex q) ∷ front q) (both false h)
      (turned n (both_cut n s m).loops (both_cut n s m).memory (last_vertex q) (front q) ws (both false h).stands
      (front_open q (next_open ps st.sound.2))
      (subst (λ (r : Ring). AllCurrent (alive r ws)) e₁ current))

  pub moved_border : Moved n s m (marked_held n s m) (after_border e ps ws) (effect_at Border u n m e ps ws)
  moved_border = moved (last_open (opened e ∷ cut_next ps)) refl
