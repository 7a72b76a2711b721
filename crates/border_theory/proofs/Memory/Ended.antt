-- Close, and marking an edge: the loops after them stand, also where the current loop ends and its places are freed.
-- Assumes nothing.
use Prim.Native.Nat.{ℕ, suc, ◌+◌, ◌-◌, ◌*◌, ◌≤◌, ◌<◌}
use native.Mathlib.Omega.{arith}
use mathlib.Core.Bool.{true, false, false≢true}
use mathlib.Core.List.{List, [], ◌∷◌, ◌++◌, append-nil}
use mathlib.Core.Path.{◌≡◌, refl, sym, ap, ◌∙◌, subst}
use lib.ListN.{length, length-set, length-append}
use lib.Seq.{get_or-set_other}
use lib.Dec.{eqb, leb, ltb}
use borrow.Author.Tests.{le-leb, lt-leb}
use Rattle.rules.specs.declared.Operation.TheVariants.{Border, Close}
use Rattle.rules.specs.Count.{num, same}
use Rattle.rules.specs.Ring.{Node, opened, marked, Ring, vertex, is_open, start_or, onward, places}
use Rattle.rules.specs.Table.{Effect}
use Rattle.book.specs.Sums.{Weight, path_sum, ring_sum, loops_sum, placed}
use Rattle.book.specs.Consistent.{AllCurrent}
use Rattle.book.proofs.Sums.{sum_append, start_append}
use Rattle.border_theory.specs.Links.Held.{Memory, Arc, arc, Holds, named_loops}
use Rattle.border_theory.proofs.Links.Relink.{stored}
use Rattle.rules.specs.Places.{alive}
use Rattle.border_theory.proofs.Links.Stores.{places_after, stores, vertices_after, HasLoops, OpenNext}
use Rattle.border_theory.proofs.Links.Surgery.{do_mark}
use Rattle.border_theory.proofs.Links.Stored as after
use Rattle.cutborder.specs.declared.Loops.{Loops}
use Rattle.border_theory.specs.Memory.Layout.{at, after_of, open_of, vertices_of, links_of, edges_stored, stacked, freed, released}
use Rattle.border_theory.specs.Memory.Stands.{Waits, StandsAt}
use Rattle.border_theory.specs.Memory.Moves.{Held, held, ended_held, turned_by, turned_held}
use Rattle.border_theory.proofs.Memory.Columns.{EdgesStored, edges_stored_lem, links_long, same_vertices, same_links}
use Rattle.border_theory.proofs.Memory.Standing.{Hop, Trail, start_trail, trails, trails_by, apart, below}
use Rattle.border_theory.proofs.Memory.Room.{room}
use Rattle.border_theory.proofs.Memory.Relinked.{Goes, Moved, effect_at, relinked, stacked_same, stacked_freed, waits_same}
use Rattle.border_theory.proofs.Memory.Cut.{Left}

-- the links of a run do not change where the records do not
pub trail_same : (n : ℕ) (m m' : List ℕ) → ((i : ℕ) → i < 4 * n → at m' i ≡ at m i) → (b : ℕ) → b < n → (ps : List Node) → Trail n m ps b
    → Trail n m' ps b
trail_same n m m' h b k [] t = tt
trail_same n m m' h b k (p ∷ ps) t = (
  record {
    fore = h (4 * vertex p + 2) (omega (arith, t.0.near)) ∙ t.0.fore;
    back = h (4 * start_or b ps + 1) (omega (arith, start_trail n m b k ps t.1)) ∙ t.0.back;
    mark = h (4 * vertex p + 3) (omega (arith, t.0.near)) ∙ t.0.mark;
    near = t.0.near;
  },
  trail_same n m m' h b k ps t.1,
)

pub trail_append : (n : ℕ) (m : List ℕ) (b : ℕ) (ps qs : List Node) → Trail n m (ps ++ qs) b → Trail n m ps (start_or b qs) × Trail n m qs b
trail_append n m b [] qs t = (tt, t)
trail_append n m b (p ∷ ps) qs t =
    let r = trail_append n m b ps qs t.1 in
    ((subst (λ (y : ℕ). Hop n m (vertex p) y (is_open p)) (start_append b ps qs) t.0, r.0), r.1)

-- the places of a run put on the stack, which has k
pub record Released (n : ℕ) (m : List ℕ) (k : ℕ) (ps : List Node) (b : ℕ) (m' : List ℕ) : Type 0 where
  pub lengths : length m' ≡ length m
  pub records : (i : ℕ) → i < 4 * n + k → at m' i ≡ at m i
  pub rest : (i : ℕ) → 5 * n ≤ i → at m' i ≡ at m i
  pub all : (x : ℕ) → stacked n m' (k + length ps) x ≡ path_sum (λ p q o. same x p) ps b + stacked n m k x

released_by : (n : ℕ) (m : List ℕ) (k : ℕ) (ps : List Node) (b c : ℕ) → b < n → Trail n m ps b → c ≡ start_or b ps → k + length ps ≤ n
    → 5 * n ≤ length m → Released n m k ps b (released n m k (length ps) c)
unfolding released path_sum
released_by n m k [] b c bn t ec h l = record {
  lengths = refl;
  records = λ i j. refl;
  rest = λ i j. refl;
  all = λ x. let e : k + 0 ≡ k = omega arith in rw e (omega arith);
}
released_by n m k (p ∷ ps) b c bn t ec h l =
    let m₁ : List ℕ = freed n m k c in
    let same_records : (i : ℕ) → i < 4 * n + k → at m₁ i ≡ at m i = λ i j. get_or-set_other m (4 * n + k) i c 0 (λ z. omega (arith, z)) in
    let l₁ : length m₁ ≡ length m = length-set m (4 * n + k) c in
    let r =
    released_by n m₁ (k + 1) ps b (after_of m c) bn (trail_same n m m₁ (λ i j. same_records i (omega arith)) b bn ps t.1)
    (ap (after_of m) ec ∙ t.0.fore) (omega (arith, h)) (omega (arith, l, l₁)) in
    let e : k + suc (length ps) ≡ k + 1 + length ps = omega arith in
    record {
      lengths = r.lengths ∙ l₁;
      records = λ i j. r.records i (omega arith) ∙ same_records i j;
      rest = λ i j. r.rest i j ∙ get_or-set_other m (4 * n + k) i c 0 (λ z. omega (arith, z, h));
      all = λ x. rw e (omega (arith, r.all x, stacked_freed n x m k c (omega (arith, h, l)), ap (same x) ec));
    }

-- the loop of the places ps, from the current one round to b, has ended, and ws are the others
pub record Ended (n k : ℕ) (h : Held) (m : List ℕ) (ws : List Ring) : Type 0 where
  pub lengths : length h.memory ≡ length m
  pub rest : (i : ℕ) → 5 * n ≤ i → at h.memory i ≡ at m i
  pub stack : (j : ℕ) → j < k → at h.memory (4 * n + j) ≡ at m (4 * n + j)
  pub more : k ≤ h.loops.free
  pub stands : StandsAt n h.loops h.memory ws
  pub vertices : vertices_of n h.memory ≡ vertices_of n m

module _ (n : ℕ) (s : Loops) (m : List ℕ) (ps : List Node) (b : ℕ) (long : 5 * n + 2 * s.live ≤ length m) (bn : b < n) (t : Trail n m ps b)
    (ec : s.current ≡ start_or b ps) (es : s.size ≡ length ps) (fits : s.free + length ps ≤ n) where
  left : List ℕ
  left = released n m s.free s.size s.current

  gone : Released n m s.free ps b left
  unfolding left
  gone =
      subst (λ (k : ℕ). Released n m s.free ps b (released n m s.free k s.current)) (sym es)
      (released_by n m s.free ps b s.current bn t ec fits (omega arith))

  pub ended : (ws : List Ring) → s.live ≡ suc (length ws) → Waits n m ws → AllCurrent ws
      → ((x : ℕ) → path_sum (λ p q o. same x p) ps b + placed x ws + stacked n m s.free x ≡ num (ltb x n))
      → Holds (links_of n m) ws → Ended n s.free (ended_held n s m) m ws
  unfolding ended_held left
  ended [] el waiting current each holds =
      let f : leb s.live 1 ≡ true = le-leb s.live 1 (omega (arith, el)) in
      let e : s.free + s.size ≡ s.free + length ps = omega (arith, es) in
      rw f
      (record {
        lengths = gone.lengths;
        rest = gone.rest;
        stack = λ j h. gone.records (4 * n + j) (omega (arith, h));
        more = omega arith;
        stands = record {
          long = omega (arith, gone.lengths);
          holds =
              subst (λ (M : Memory). Holds M []) (sym (same_links n m left (λ i j. gone.records i (omega arith)))) holds;
          each = λ x. rw e (omega (arith, gone.all x, each x));
          heads = refl;
          sound = tt;
        };
        vertices = same_vertices n m left (λ i j. gone.records i (omega arith));
      })
  ended (w ∷ ws) el waiting current each holds =
      let f : leb s.live 1 ≡ false = lt-leb s.live 1 (omega (arith, el)) in
      let e : s.free + s.size ≡ s.free + length ps = omega (arith, es) in
      let d : s.live - 2 ≡ length ws = omega (arith, el) in
      rw f
      (record {
        lengths = gone.lengths;
        rest = gone.rest;
        stack = λ j h. gone.records (4 * n + j) (omega (arith, h));
        more = omega arith;
        stands = record {
          long = omega (arith, gone.lengths);
          holds =
              subst (λ (M : Memory). Holds M (w ∷ ws)) (sym (same_links n m left (λ i j. gone.records i (omega arith)))) holds;
          each = λ x. rw e (omega (arith, gone.all x, each x));
          heads = record {
            live = omega (arith, el);
            current = ap (λ (k : ℕ). at m (5 * n + 2 * k)) d ∙ waiting.0;
            size = ap (λ (k : ℕ). at m (5 * n + 2 * k + 1)) d ∙ waiting.1;
            waiting = waits_same n m left gone.rest ws waiting.2;
          };
          sound = current;
        };
        vertices = same_vertices n m left (λ i j. gone.records i (omega arith));
      })

has_same : (vs vs' : List ℕ) (rs : List Ring) (E : Effect) → vs ≡ vs' → HasLoops (named_loops vs' rs) E → HasLoops (named_loops vs rs) E
has_same vs vs' rs E e h = subst (λ (v : List ℕ). HasLoops (named_loops v rs) E) (sym e) h

module _ (n : ℕ) (s : Loops) (m : List ℕ) (u e : ℕ) (ps : List Node) (ws : List Ring)
    (st : StandsAt n s m ((opened e ∷ ps) ∷ ws)) where
  ring : Trail n m (opened e ∷ ps) e
  ring = (trails n s m ((opened e ∷ ps) ∷ ws) st).0

  enough : s.free + length (opened e ∷ ps) ≤ n
  unfolding places
  enough = omega (arith, room n s m ((opened e ∷ ps) ∷ ws) st)

  whole : (x : ℕ) → path_sum (λ p q o. same x p) (opened e ∷ ps) e + placed x ws + stacked n m s.free x ≡ num (ltb x n)
  unfolding loops_sum ring_sum
  whole x = omega (arith, st.each x)

  pub moved_close : Goes (effect_at Close u n m e ps ws) → Moved n s m (ended_held n s m) ws (effect_at Close u n m e ps ws)
  unfolding stores vertices_after places_after stored
  moved_close goes =
      let r = relinked Close n s m u 0 e ps ws st goes tt (λ t. absurd t) m refl refl in
      let d =
      ended n s m (opened e ∷ ps) e st.long ring.0.near ring st.heads.current st.heads.size enough ws st.heads.live
      st.heads.waiting r.current whole r.holds in
      record {
        lengths = d.lengths;
        rest = λ i h. d.rest i (omega arith);
        stack = λ j h k. d.stack j h;
        stands = d.stands;
        loops = has_same (vertices_of n (ended_held n s m).memory) (vertices_of n m) ws (effect_at Close u n m e ps ws) d.vertices
            r.loops;
      }

-- the current edge is marked, and the loop goes on at the next edge, which is open, or ends
module _ (n : ℕ) (s : Loops) (m : List ℕ) (e : ℕ) (ps : List Node) (ws : List Ring)
    (st : StandsAt n s m ((opened e ∷ ps) ∷ ws)) (current : AllCurrent (alive (onward [] (ps ++ (marked e ∷ []))) ws)) where
  around : List Node
  around = ps ++ (marked e ∷ [])

  marking_arcs : List Arc
  marking_arcs = arc e (start_or e ps) false ∷ []

  marked_memory : List ℕ
  marked_memory = edges_stored marking_arcs m

  long₄ : 4 * n ≤ length m
  long₄ = omega (arith, st.long)

  after_near : start_or e ps < n
  after_near = start_trail n m e (ring n s m 0 e ps ws st).0.near ps (ring n s m 0 e ps ws st).1

  around_start : (b : ℕ) → start_or b around ≡ start_or e ps
  unfolding around
  around_start b = start_append b ps (marked e ∷ [])

  made : EdgesStored n m marking_arcs
  unfolding marking_arcs
  made = edges_stored_lem n m marking_arcs long₄ ((ring n s m 0 e ps ws st).0.near, after_near, tt)

  around_placed : (x : ℕ) → placed x (around ∷ ws) ≡ placed x ((opened e ∷ ps) ∷ ws)
  unfolding around loops_sum ring_sum path_sum
  around_placed x = omega (arith, sum_append (λ p r o. same x p) ps (marked e ∷ []) (start_or 0 around))

  around_trail : Trail n marked_memory around (start_or e ps)
  unfolding marked_memory marking_arcs around
  around_trail =
      subst (Trail n marked_memory around) (around_start 0)
      (trails_by n marked_memory (around ∷ ws) (λ x h. below n s m ((opened e ∷ ps) ∷ ws) st x (omega (arith, around_placed x)))
      (subst (λ (M : Memory). Holds M (around ∷ ws)) (sym made.links)
      (do_mark n (links_of n m) (links_long n m) ws e ps (apart n s m ((opened e ∷ ps) ∷ ws) st)
      (ring n s m 0 e ps ws st).0.near after_near st.holds).holds)).0

  holds_marked : Holds (links_of n marked_memory) (alive (onward [] around) ws)
  unfolding marked_memory marking_arcs around stores places_after
  holds_marked =
      subst (λ (M : Memory). Holds M (alive (onward [] around) ws)) (sym made.links)
      (after.held Border n (links_of n m) (links_long n m) 0 e ps ws (apart n s m ((opened e ∷ ps) ∷ ws) st) (λ t. absurd t)
      (below n s m ((opened e ∷ ps) ∷ ws) st) st.holds tt).holds

  same_names : vertices_of n marked_memory ≡ vertices_of n m
  unfolding marked_memory
  same_names = made.vertices

  around_length : s.size ≡ length around
  unfolding around
  around_length = simp length-append (omega (arith, st.heads.size))

  turned_held_lem : turned_held n s m ≡ turned_by (eqb (open_of marked_memory (start_or e ps)) 0) n s marked_memory (start_or e ps)
  unfolding turned_held marked_memory marking_arcs
  turned_held_lem =
      let at_edge : ℕ → ℕ → Held =
      λ c x. turned_by (eqb (open_of (edges_stored (arc c x false ∷ []) m) x) 0) n s (edges_stored (arc c x false ∷ []) m) x in
      let a : s.current ≡ e = st.heads.current in
      let b : after_of m e ≡ start_or e ps = (ring n s m 0 e ps ws st).0.fore in
      ap (λ (c : ℕ). at_edge c (after_of m c)) a ∙ ap (at_edge e) b

  above : (i : ℕ) → 4 * n ≤ i → at marked_memory i ≡ at m i
  unfolding marked_memory
  above i h = made.above i h

  same_long : length marked_memory ≡ length m
  unfolding marked_memory
  same_long = made.lengths

  goes_on : (v : ℕ) (qs : List Node) → onward [] around ≡ opened v ∷ qs → length (opened v ∷ qs) ≡ length around
      → ((w : Weight) → ring_sum w (opened v ∷ qs) ≡ ring_sum w around)
      → Left n s.free m (held s.live v s.size s.free marked_memory) ((opened v ∷ qs) ∷ ws)
  unfolding loops_sum around
  goes_on v qs eo el sums = record {
    lengths = same_long;
    rest = λ i h. above i (omega arith);
    stack = λ j h. above (4 * n + j) (omega arith);
    more = omega arith;
    stands = record {
      long = omega (arith, st.long, same_long);
      holds = subst (λ (r : Ring). Holds (links_of n marked_memory) (alive r ws)) eo holds_marked;
      each = λ x.
          omega (
            arith,
            st.each x,
            around_placed x,
            sums (λ p q o. same x p),
            stacked_same n x m marked_memory s.free (λ i h. above (4 * n + i) (omega arith)),
          );
      heads = record {
        live = st.heads.live;
        current = refl;
        size = around_length ∙ sym el;
        waiting = waits_same n m marked_memory (λ i h. above i (omega arith)) ws st.heads.waiting;
      };
      sound = subst (λ (r : Ring). AllCurrent (alive r ws)) eo current;
    };
    vertices = same_names;
  }

  turned_trail : Trail n marked_memory (marked e ∷ ps) e
  unfolding around
  turned_trail =
      let r = trail_append n marked_memory (start_or e ps) ps (marked e ∷ []) around_trail in
      (r.1.0, r.0)

  goes_off : onward [] around ≡ [] → Left n s.free m (ended_held n s marked_memory) ws
  unfolding path_sum around
  goes_off eo =
      let d =
      ended n s marked_memory (marked e ∷ ps) e (omega (arith, st.long, same_long)) (ring n s m 0 e ps ws st).0.near turned_trail
      st.heads.current st.heads.size (enough n s m 0 e ps ws st) ws st.heads.live
      (waits_same n m marked_memory (λ i h. above i (omega arith)) ws st.heads.waiting)
      (subst (λ (r : Ring). AllCurrent (alive r ws)) eo current)
      (λ x. omega (arith, whole n s m 0 e ps ws st x, stacked_same n x m marked_memory s.free (λ i h. above (4 * n + i) (omega arith))))
      (subst (λ (r : Ring). Holds (links_of n marked_memory) (alive r ws)) eo holds_marked) in
      record {
        lengths = d.lengths ∙ same_long;
        rest = λ i h. d.rest i h ∙ above i (omega arith);
        stack = λ j h. d.stack j h ∙ above (4 * n + j) (omega arith);
        more = d.more;
        stands = d.stands;
        vertices = d.vertices ∙ same_names;
      }

  turns : (t : ℕ) → open_of marked_memory (start_or e ps) ≡ t
      → Left n s.free m (turned_by (eqb t 0) n s marked_memory (start_or e ps)) (alive (onward [] around) ws)
      → Left n s.free m (turned_held n s m) (alive (onward [] around) ws)
  turns t h l =
      subst (λ (x : Held). Left n s.free m x (alive (onward [] around) ws)) (sym turned_held_lem)
      (subst (λ (x : ℕ). Left n s.free m (turned_by (eqb x 0) n s marked_memory (start_or e ps)) (alive (onward [] around) ws)) (sym h) l)

pub turned : (n : ℕ) (s : Loops) (m : List ℕ) (e : ℕ) (ps : List Node) (ws : List Ring) → StandsAt n s m ((opened e ∷ ps) ∷ ws)
    → OpenNext ps
    → AllCurrent (alive (onward [] (ps ++ (marked e ∷ []))) ws)
    → Left n s.free m (turned_held n s m) (alive (onward [] (ps ++ (marked e ∷ []))) ws)
unfolding around onward
turned n s m e [] ws st o current =
    turns n s m e [] ws st current 0 (around_trail n s m e [] ws st current).0.mark (goes_off n s m e [] ws st current refl)
turned n s m e (opened v ∷ qs) ws st o current =
    let rest : List Node = qs ++ (marked e ∷ []) in
    turns n s m e (opened v ∷ qs) ws st current 1 (around_trail n s m e (opened v ∷ qs) ws st current).0.mark
    (goes_on n s m e (opened v ∷ qs) ws st current v (rest ++ []) refl (ap (λ (l : List Node). suc (length l)) (append-nil rest))
    (λ w. ap (λ (l : List Node). ring_sum w (opened v ∷ l)) (append-nil rest)))
turned n s m e (marked v ∷ qs) ws st o current = absurd (false≢true o)
