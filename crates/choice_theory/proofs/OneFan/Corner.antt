-- One corner of a new triangle v a b: what becomes of the place of v, and of the chain about v.
-- Assumes nothing.
use Prim.Native.Nat.{ℕ, ◌+◌, ◌≤◌}
use native.Mathlib.Omega.{arith}
use mathlib.Core.Bool.{true}
use mathlib.Core.List.{List, ◌∷◌}
use mathlib.Core.Logic.{◌⊎◌, inl, inr}
use mathlib.Core.Path.{◌≡◌, sym, ap, ◌∙◌, subst}
use Rattle.rules.specs.declared.Triangle.{Triangle}
use Rattle.rules.specs.Triangle.{Edge, edge}
use Rattle.rules.specs.Count.{same, hit}
use Rattle.rules.specs.Fan.{about}
use Rattle.rules.specs.Ring.{Ring}
use Rattle.rules.specs.Table.{Side, glued, fresh}
use Rattle.rules.specs.Machine.{fresh_sides}
use Rattle.mesh_theory.specs.Fans.Ways.{Chained}
use Rattle.mesh_theory.specs.Fans.Corner.{Different}
use Rattle.book.specs.Sums.{Weight, loops_sum, open_hit, open_edges}
use Rattle.book.proofs.Counting.{if_fresh, if_glued, if_fresh_le, if_glued_le}
use Rattle.choice_theory.specs.Fanned.{in_hit, out_hit, comes_to, leaves_from, OneChain, Unnumbered}
use Rattle.choice_theory.proofs.OneFan.Places.{leaves_one, comes_one, out_places, in_places, one_leaves, one_comes}
use Rattle.choice_theory.proofs.OneFan.Leading.{Leads, leads_chained, chained_leads, leads_one, leads_before, leads_after}
use Rattle.counting.proofs.Counts.{same_yes, same_no, same_is, hit_from, hit_swap, hit_to}
use Rattle.mesh_theory.proofs.Fans.Corners.{hit_leaving}

-- the loops after the triangle v a b, from those before it: a side v→a, a→b or b→v is a new edge, or it glues its opposite
abbrev pub Gains : (v a b : ℕ) (va ab bv : Side) (ls ls' : List Ring) → Type 0
Gains v a b va ab bv ls ls' = (w : Weight)
    → loops_sum w ls' + (if_glued va (w a v true) + (if_glued ab (w b a true) + if_glued bv (w v b true)))
    ≡ loops_sum w ls + (if_fresh va (w v a true) + (if_fresh ab (w a b true) + if_fresh bv (w b v true)))

-- of these the open edges at v
record AtCorner (v a b : ℕ) (va bv : Side) (ls ls' : List Ring) : Type 0 where
  comes : (x : ℕ) → open_edges x v ls' + if_glued va (same x a) ≡ open_edges x v ls + if_fresh bv (same x b)
  leaves : (y : ℕ) → open_edges v y ls' + if_glued bv (same y b) ≡ open_edges v y ls + if_fresh va (same y a)
  ins : comes_to v ls' + if_glued va 1 ≡ comes_to v ls + if_fresh bv 1
  outs : leaves_from v ls' + if_glued bv 1 ≡ leaves_from v ls + if_fresh va 1

hit_coming : (x v y : ℕ) → hit x v y v ≡ same x y
hit_coming x v y = hit_swap x v y v ∙ hit_leaving v x y

at_corner : (v a b : ℕ) (va ab bv : Side) (ls ls' : List Ring) → Different v a b → Gains v a b va ab bv ls ls' → AtCorner v a b va bv ls ls'
at_corner v a b va ab bv ls ls' d g =
    let v-a : same v a ≡ 0 = same_no v a d.x_y in
    let v-b : same v b ≡ 0 = same_no v b (λ e. d.z_x (sym e)) in
    record {
      comes = λ x.
          omega (
            arith,
            g (open_hit x v),
            ap (if_glued va) (hit_coming x v a),
            ap (if_fresh bv) (hit_coming x v b),
            if_glued_le ab (hit x v b a),
            hit_to x v b a,
            if_glued_le bv (hit x v v b),
            hit_to x v v b,
            if_fresh_le va (hit x v v a),
            hit_to x v v a,
            if_fresh_le ab (hit x v a b),
            hit_to x v a b,
          );
      leaves = λ y.
          omega (
            arith,
            g (open_hit v y),
            ap (if_glued bv) (hit_leaving v y b),
            ap (if_fresh va) (hit_leaving v y a),
            if_glued_le va (hit v y a v),
            hit_from v y a v,
            if_glued_le ab (hit v y b a),
            hit_from v y b a,
            if_fresh_le ab (hit v y a b),
            hit_from v y a b,
            if_fresh_le bv (hit v y b v),
            hit_from v y b v,
          );
      ins =
          omega (
            arith,
            g (in_hit v),
            ap (if_glued va) (same_yes v),
            ap (if_fresh bv) (same_yes v),
            if_glued_le ab (same v a),
            if_glued_le bv (same v b),
            if_fresh_le va (same v a),
            if_fresh_le ab (same v b),
          );
      outs =
          omega (
            arith,
            g (out_hit v),
            ap (if_glued bv) (same_yes v),
            ap (if_fresh va) (same_yes v),
            if_glued_le va (same v a),
            if_glued_le ab (same v b),
            if_fresh_le ab (same v a),
            if_fresh_le bv (same v b),
          );
    }

-- the triangle's edge a→b is one more edge about v: before the chain, after it, or between its ends
module _ (v a b : ℕ) (ls ls' : List Ring) (ts ts' : List Triangle) (d : Different v a b) (more : about v ts' ≡ edge a b ∷ about v ts) where
  b_a : same b a ≡ 0
  b_a = same_no b a (λ e. d.y_z (sym e))

  a_b : same a b ≡ 0
  a_b = same_no a b d.y_z

  leads : (s t : ℕ) → Leads s t (edge a b ∷ about v ts) → Leads s t (about v ts')
  leads s t l = subst (Leads s t) (sym more) l

  abbrev chains : (s t : ℕ) → Leads s t (edge a b ∷ about v ts) → Chained (about v ts')
  chains s t l = leads_chained s t (about v ts') (leads s t l)

  one_chain : (va bv : Side) → AtCorner v a b va bv ls ls' → OneChain v ls ts → (fresh_sides va + fresh_sides bv ≤ 1) ⊎ Unnumbered v ls ts
      → OneChain v ls' ts'
  -- the edges a→v and v→b are glued: the chain comes round
  one_chain glued glued g c n =
      let i : a ≡ c.chained.finish = c.finish a (omega (arith, g.comes a, same_yes a)) in
      let j : b ≡ c.chained.start = c.start b (omega (arith, g.leaves b, same_yes b)) in
      let l : Leads b a (about v ts) = rw (i, j) (chained_leads (about v ts) c.chained) in
      record {
        one_in = omega (arith, g.ins, c.one_in);
        one_out = omega (arith, g.outs, c.one_out);
        chained = chains a a (leads_before a b a (about v ts) l);
        finish = λ x h. absurd (omega (arith, h, comes_one x v ls', g.ins, c.one_in));
        start = λ y h. absurd (omega (arith, h, leaves_one v y ls', g.outs, c.one_out));
      }
  -- a→v gave way to b→v
  one_chain glued fresh g c n =
      let s : ℕ = c.chained.start in
      let i : a ≡ c.chained.finish = c.finish a (omega (arith, g.comes a, a_b, same_yes a)) in
      let l : Leads s a (about v ts) = subst (λ (x : ℕ). Leads s x (about v ts)) (sym i) (chained_leads (about v ts) c.chained) in
      let o : comes_to v ls' ≤ 1 = omega (arith, g.ins, c.one_in) in
      record {
        one_in = o;
        one_out = omega (arith, g.outs, c.one_out);
        chained = chains s b (leads_after s a b (about v ts) l);
        finish = λ x h. one_comes v x b ls' o h (omega (arith, g.comes b, b_a, same_yes b));
        start = λ y h. c.start y (omega (arith, h, g.leaves y));
      }
  -- v→b gave way to v→a
  one_chain fresh glued g c n =
      let t : ℕ = c.chained.finish in
      let i : b ≡ c.chained.start = c.start b (omega (arith, g.leaves b, b_a, same_yes b)) in
      let l : Leads b t (about v ts) = subst (λ (x : ℕ). Leads x t (about v ts)) (sym i) (chained_leads (about v ts) c.chained) in
      let o : leaves_from v ls' ≤ 1 = omega (arith, g.outs, c.one_out) in
      record {
        one_in = omega (arith, g.ins, c.one_in);
        one_out = o;
        chained = chains a t (leads_before a b t (about v ts) l);
        finish = λ x h. c.finish x (omega (arith, h, g.comes x));
        start = λ y h. one_leaves v y a ls' o h (omega (arith, g.leaves a, a_b, same_yes a));
      }
  -- the first triangle about v
  one_chain fresh fresh g c (inl n) = absurd (omega arith)
  one_chain fresh fresh g c (inr n) =
      let l : Leads a b (edge a b ∷ about v ts) =
      subst (λ (ds : List Edge). Leads a b (edge a b ∷ ds)) (sym n.no_triangle) (leads_one a b) in
      record {
        one_in = omega (arith, g.ins, in_places v ls, n.no_place);
        one_out = omega (arith, g.outs, out_places v ls, n.no_place);
        chained = chains a b l;
        finish = λ x h. same_is x b (omega (arith, h, g.comes x, comes_one x v ls, in_places v ls, n.no_place));
        start = λ y h. same_is y a (omega (arith, h, g.leaves y, leaves_one v y ls, out_places v ls, n.no_place));
      }

pub chain_grows : (v a b : ℕ) (va ab bv : Side) (ls ls' : List Ring) (ts ts' : List Triangle) → Different v a b
    → Gains v a b va ab bv ls ls'
    → about v ts' ≡ edge a b ∷ about v ts → OneChain v ls ts → (fresh_sides va + fresh_sides bv ≤ 1) ⊎ Unnumbered v ls ts
    → OneChain v ls' ts'
chain_grows v a b va ab bv ls ls' ts ts' d g e c n = one_chain v a b ls ls' ts ts' d e va bv (at_corner v a b va ab bv ls ls' d g) c n
