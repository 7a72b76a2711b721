-- The current edge, read off the memory.
-- Assumes nothing.
use Prim.Native.Nat.{ℕ, suc, ◌+◌, ◌*◌, ◌<◌}
use native.Mathlib.Omega.{arith}
use mathlib.Core.List.{List, [], ◌∷◌}
use mathlib.Core.Path.{◌≡◌, refl, sym, ap, ◌∙◌}
use lib.ListN.{length, get_or}
use Rattle.rules.specs.Ring.{Node, Ring, vertex, vertex_at, loop_at}
use Rattle.border_theory.specs.Links.Held.{named_ring, named_loops}
use Rattle.border_theory.proofs.Links.Named.{named_vertex, named_length, named_lives}
use Rattle.cutborder.specs.declared.Loops.{Loops}
use Rattle.border_theory.specs.Memory.Layout.{at, vertex_of, after_of, vertices_of}
use Rattle.border_theory.specs.Memory.Stands.{StandsAt}
use Rattle.border_theory.proofs.Memory.Columns.{column_at}
use Rattle.border_theory.proofs.Memory.Standing.{trails}
use Rattle.border_theory.proofs.Memory.Deciding.{stands_live}
use Rattle.pack_theory.specs.Packing.Course.{start_of, end_of}

-- the current edge goes from e to f, in a loop of so many places, of n in all
pub record EdgeRead (n : ℕ) (l : Loops) (m : List ℕ) (e f : Node) (ps : List Node) (ws : List Ring) : Type 0 where
  pub start : start_of l m ≡ vertex e
  pub end : end_of l m ≡ vertex f
  pub size : l.size ≡ suc (suc (length ps))
  pub live : l.live ≡ suc (length ws)
  pub near_e : l.current < n
  pub near_f : after_of m l.current < n

module _ (n : ℕ) (l : Loops) (m : List ℕ) where
  name : (x : ℕ) → x < n → vertex_of m x ≡ get_or (vertices_of n m) x 0
  name x h = let z : 4 * x ≡ 4 * x + 0 = omega arith in ap (at m) z ∙ sym (column_at m 0 n x h)

  first_of : List Ring → ℕ
  first_of ls = vertex_at (loop_at ls 0) 0

  second_of : List Ring → ℕ
  second_of ls = vertex_at (loop_at ls 0) 1

  -- where no loop is live, there is none, and the other way round
  pub none_live : (rs : List Ring) → StandsAt n l m rs → named_loops (vertices_of n m) rs ≡ [] → l.live ≡ 0
  none_live rs st e = stands_live n l m rs st ∙ sym (named_lives (vertices_of n m) rs) ∙ ap length e

  pub live_none : (rs : List Ring) → StandsAt n l m rs → l.live ≡ 0 → named_loops (vertices_of n m) rs ≡ []
  live_none rs st e = empty (named_loops (vertices_of n m) rs) (named_lives (vertices_of n m) rs ∙ sym (stands_live n l m rs st) ∙ e)
    where
      empty : (ls : List Ring) → length ls ≡ 0 → ls ≡ []
      empty [] h = refl
      empty (r ∷ ls) h = absurd (omega arith)

  pub edge_read : (rs : List Ring) → StandsAt n l m rs → (e f : Node) (ps : List Node) (ws : List Ring)
      → named_loops (vertices_of n m) rs ≡ (e ∷ (f ∷ ps)) ∷ ws → EdgeRead n l m e f ps ws
  unfolding named_loops named_ring vertex_at loop_at first_of second_of
  edge_read [] st e f ps ws q = absurd (omega (arith, ap length q))
  edge_read ([] ∷ rs) st e f ps ws q = absurd (omega (arith, ap (λ (ls : List Ring). length (loop_at ls 0)) q))
  edge_read ((x ∷ []) ∷ rs) st e f ps ws q = absurd (omega (arith, ap (λ (ls : List Ring). length (loop_at ls 0)) q))
  edge_read ((x ∷ (y ∷ r)) ∷ rs) st e f ps ws q =
      let t = (trails n l m ((x ∷ (y ∷ r)) ∷ rs) st).0 in
      record {
        start = ap (vertex_of m) st.heads.current ∙ name (vertex x) t.0.near ∙ sym (named_vertex (vertices_of n m) x) ∙ ap first_of q;
        end =
            ap (λ (p : ℕ). vertex_of m (after_of m p)) st.heads.current ∙ ap (vertex_of m) t.0.fore ∙ name (vertex y) t.1.0.near
            ∙ sym (named_vertex (vertices_of n m) y) ∙ ap second_of q;
        size =
            st.heads.size ∙ omega (arith, named_length (vertices_of n m) r, ap (λ (ls : List Ring). length (loop_at ls 0)) q);
        live = st.heads.live ∙ omega (arith, named_lives (vertices_of n m) rs, ap length q);
        near_e = omega (arith, st.heads.current, t.0.near);
        near_f = omega (arith, ap (after_of m) st.heads.current, t.0.fore, t.1.0.near);
      }
