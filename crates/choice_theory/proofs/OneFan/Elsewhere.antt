-- A vertex that is no corner of the new triangle, and any vertex where an edge is marked: no open edge at it is new, and no
-- triangle about it.
-- Assumes nothing.
use Prim.Native.Nat.{ℕ, ◌+◌, ◌≤◌}
use native.Mathlib.Omega.{arith}
use mathlib.Core.List.{List}
use mathlib.Core.Path.{◌≡◌, refl, sym, ◌∙◌, subst}
use Rattle.rules.specs.declared.Triangle.{Triangle}
use Rattle.rules.specs.Triangle.{Edge}
use Rattle.rules.specs.Count.{same, hit}
use Rattle.rules.specs.Fan.{about}
use Rattle.rules.specs.Ring.{Ring}
use Rattle.rules.specs.Table.{Side}
use Rattle.book.specs.Sums.{open_hit, open_edges, placed}
use Rattle.book.proofs.Counting.{if_fresh_le}
use Rattle.book.proofs.Effects.{At, Corners, none, third, three, Builds, Marks}
use Rattle.choice_theory.specs.Fanned.{in_hit, out_hit, comes_to, leaves_from, OneChain, Unnumbered}
use Rattle.choice_theory.proofs.OneFan.Leading.{Leads, leads_chained, chained_leads}
use Rattle.counting.proofs.Counts.{same_yes, same_no, hit_from, hit_to}

-- no more open edges at v than before, and no more places
pub record Fewer (v : ℕ) (ls ls' : List Ring) : Type 0 where
  pub comes : (x : ℕ) → open_edges x v ls' ≤ open_edges x v ls
  pub leaves : (y : ℕ) → open_edges v y ls' ≤ open_edges v y ls
  pub ins : comes_to v ls' ≤ comes_to v ls
  pub outs : leaves_from v ls' ≤ leaves_from v ls
  pub places : placed v ls' ≤ placed v ls

pub chain_stays : (v : ℕ) (ls ls' : List Ring) (ts ts' : List Triangle) → Fewer v ls ls' → about v ts' ≡ about v ts → OneChain v ls ts
    → OneChain v ls' ts'
chain_stays v ls ls' ts ts' f e c =
    let l : Leads c.chained.start c.chained.finish (about v ts') =
    subst (Leads c.chained.start c.chained.finish) (sym e) (chained_leads (about v ts) c.chained) in
    record {
      one_in = omega (arith, f.ins, c.one_in);
      one_out = omega (arith, f.outs, c.one_out);
      chained = leads_chained c.chained.start c.chained.finish (about v ts') l;
      finish = λ x h. c.finish x (omega (arith, h, f.comes x));
      start = λ y h. c.start y (omega (arith, h, f.leaves y));
    }

pub still_unnumbered : (v : ℕ) (ls ls' : List Ring) (ts ts' : List Triangle) → Fewer v ls ls' → about v ts' ≡ about v ts
    → Unnumbered v ls ts → Unnumbered v ls' ts'
still_unnumbered v ls ls' ts ts' f e n = record { no_place = omega (arith, f.places, n.no_place); no_triangle = e ∙ n.no_triangle }

-- v is none of the three corners
pub record Outside (v p q r : ℕ) : Type 0 where
  pub not_p : v ≡ p → ⊥
  pub not_q : v ≡ q → ⊥
  pub not_r : v ≡ r → ⊥

pub fewer_outside : (v u : ℕ) (ls ls' : List Ring) (t : Triangle) (pq qr rp : Side) (n s k : ℕ) → Builds u ls ls' t pq qr rp n s k
    → Outside v t.p t.q t.r → Fewer v ls ls'
fewer_outside v u ls ls' t pq qr rp n s k l d =
    let p : same v t.p ≡ 0 = same_no v t.p d.not_p in
    let q : same v t.q ≡ 0 = same_no v t.q d.not_q in
    let r : same v t.r ≡ 0 = same_no v t.r d.not_r in
    record {
      comes = λ x.
          omega (
            arith,
            l.sums (open_hit x v),
            if_fresh_le pq (hit x v t.p t.q),
            if_fresh_le qr (hit x v t.q t.r),
            if_fresh_le rp (hit x v t.r t.p),
            hit_to x v t.p t.q,
            hit_to x v t.q t.r,
            hit_to x v t.r t.p,
          );
      leaves = λ y.
          omega (
            arith,
            l.sums (open_hit v y),
            if_fresh_le pq (hit v y t.p t.q),
            if_fresh_le qr (hit v y t.q t.r),
            if_fresh_le rp (hit v y t.r t.p),
            hit_from v y t.p t.q,
            hit_from v y t.q t.r,
            hit_from v y t.r t.p,
          );
      ins =
          omega (
            arith,
            l.sums (in_hit v),
            if_fresh_le pq (same v t.q),
            if_fresh_le qr (same v t.r),
            if_fresh_le rp (same v t.p),
          );
      outs =
          omega (
            arith,
            l.sums (out_hit v),
            if_fresh_le pq (same v t.p),
            if_fresh_le qr (same v t.q),
            if_fresh_le rp (same v t.r),
          );
      places =
          omega (
            arith,
            l.sums (λ a b o. same v a),
            if_fresh_le pq (same v t.p),
            if_fresh_le qr (same v t.q),
            if_fresh_le rp (same v t.r),
          );
    }

pub fewer_marked : (v : ℕ) (ls ls' : List Ring) (d : Edge) (rim : ℕ) → Marks ls ls' d rim → Fewer v ls ls'
fewer_marked v ls ls' d rim l = record {
  comes = λ x. omega (arith, l.sums (open_hit x v) (λ p q. refl));
  leaves = λ y. omega (arith, l.sums (open_hit v y) (λ p q. refl));
  ins = omega (arith, l.sums (in_hit v) (λ p q. refl));
  outs = omega (arith, l.sums (out_hit v) (λ p q. refl));
  places = l.fewer (same v);
}

-- a vertex that has no number after the triangle is no corner of it
differs : (v x : ℕ) (ls : List Ring) → placed v ls ≡ 0 → At ls x → v ≡ x → ⊥
differs v x ls z a e = omega (arith, z, a (same v), subst (λ (y : ℕ). same v y ≡ 1) e (same_yes v))

pub outside : (v u n p q r : ℕ) (ls : List Ring) → Corners ls u n p q r → placed v ls ≡ 0 → u + n ≤ v → Outside v p q r
outside v u n p q r ls (none a b c) z h = record { not_p = differs v p ls z a; not_q = differs v q ls z b; not_r = differs v r ls z c }
outside v u n p q r ls (third a b) z h = record { not_p = differs v p ls z a; not_q = differs v q ls z b; not_r = λ e. omega arith }
outside v u n p q r ls three z h = record { not_p = λ e. omega arith; not_q = λ e. omega arith; not_r = λ e. omega arith }
