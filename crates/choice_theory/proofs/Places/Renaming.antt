-- Other numbers for the vertices: a surgery, and border, stay what they are.
-- Assumes nothing.
use Prim.Native.Nat.{ℕ, suc, ◌+◌}
use native.Mathlib.Omega.{arith}
use mathlib.Core.Bool.{Bool, true, false, not}
use mathlib.Core.List.{List, [], ◌∷◌, ◌++◌}
use mathlib.Core.Path.{◌≡◌, refl, sym, ap, ap₂, ◌∙◌}
use mathlib.Core.Logic.{inl, inr}
use lib.ListN.{length}
use lib.Dec.{leb}
use Rattle.rules.specs.declared.Triangle.{Triangle}
use Rattle.rules.specs.declared.Operation.{Operation}
use Rattle.rules.specs.declared.Operation.TheVariants.{New, Forward, Backward, Split, Close, Union}
use Rattle.rules.specs.Triangle.{tri}
use Rattle.rules.specs.Ring.{Node, opened, marked, Ring, vertex, is_open, onward, reached, shown, places}
use Rattle.rules.specs.Table.{in_order}
use Rattle.book.specs.Shown.{shown_all}
use Rattle.book.proofs.Shown.{ends, Stays, Live}
use Rattle.choice_theory.specs.Full.{fewer_first, with_ring}
use Rattle.choice_theory.proofs.Steps.Surgery.{after_border, Surgery, on_new, on_forward, on_backward, on_close, on_split, on_union}

module _ (name : ℕ → ℕ) where
  abbrev pub node : Node → Node
  node (opened v) = opened (name v)
  node (marked v) = marked (name v)

  abbrev pub nodes : List Node → List Node
  nodes [] = []
  nodes (p ∷ ps) = node p ∷ nodes ps

  abbrev pub rings : List Ring → List Ring
  rings [] = []
  rings (l ∷ ls) = nodes l ∷ rings ls

  abbrev pub triangles : List Triangle → List Triangle
  triangles [] = []
  triangles (t ∷ ts) = tri (name t.p) (name t.q) (name t.r) ∷ triangles ts

  pub vertex_node : (p : Node) → vertex (node p) ≡ name (vertex p)
  vertex_node (opened v) = refl
  vertex_node (marked v) = refl

  open_node : (p : Node) → is_open (node p) ≡ is_open p
  open_node (opened v) = refl
  open_node (marked v) = refl

  opened_node : (p : Node) → opened (name (vertex p)) ≡ opened (vertex (node p))
  opened_node p = ap opened (sym (vertex_node p))

  pub nodes_append : (us vs : List Node) → nodes (us ++ vs) ≡ nodes us ++ nodes vs
  nodes_append [] vs = refl
  nodes_append (u ∷ us) vs = ap (λ (l : List Node). node u ∷ l) (nodes_append us vs)

  rings_append : (us vs : List Ring) → rings (us ++ vs) ≡ rings us ++ rings vs
  rings_append [] vs = refl
  rings_append (u ∷ us) vs = ap (λ (l : List Ring). nodes u ∷ l) (rings_append us vs)

  pub length_nodes : (ps : List Node) → length (nodes ps) ≡ length ps
  length_nodes [] = refl
  length_nodes (p ∷ ps) = ap suc (length_nodes ps)

  pub length_rings : (ls : List Ring) → length (rings ls) ≡ length ls
  length_rings [] = refl
  length_rings (l ∷ ls) = ap suc (length_rings ls)

  pub length_triangles : (ts : List Triangle) → length (triangles ts) ≡ length ts
  length_triangles [] = refl
  length_triangles (t ∷ ts) = ap suc (length_triangles ts)

  pub places_rings : (ls : List Ring) → places (rings ls) ≡ places ls
  unfolding places
  places_rings [] = refl
  places_rings (l ∷ ls) = ap₂ (λ (a b : ℕ). a + b) (length_nodes l) (places_rings ls)

  -- what is shown of the rings
  pub reached_nodes : (ps : List Node) (m : Bool) → reached (nodes ps) m ≡ nodes (reached ps m)
  unfolding reached
  reached_nodes [] m = refl
  reached_nodes (opened v ∷ ps) m = ap (λ (l : List Node). opened (name v) ∷ l) (reached_nodes ps false)
  reached_nodes (marked v ∷ ps) true = reached_nodes ps true
  reached_nodes (marked v ∷ ps) false = ap (λ (l : List Node). marked (name v) ∷ l) (reached_nodes ps true)

  pub ends_nodes : (ps : List Node) (m : Bool) → ends (nodes ps) m ≡ ends ps m
  unfolding ends
  ends_nodes [] m = refl
  ends_nodes (p ∷ ps) m = ends_nodes ps (not (is_open (node p))) ∙ ap (λ (t : Bool). ends ps (not t)) (open_node p)

  stays_node : (us : List Node) (p : Node) → Stays us p → Stays (nodes us) (node p)
  stays_node us p (inl h) = inl (open_node p ∙ h)
  stays_node us p (inr h) = inr (ends_nodes us false ∙ h)

  short_nodes : (ps : List Node) (m : Bool) → length (reached (nodes ps) m) ≡ length (reached ps m)
  short_nodes ps m = ap length (reached_nodes ps m) ∙ length_nodes (reached ps m)

  shown_nodes : (l : List Node) → shown (nodes l) ≡ nodes (shown l)
  shown_nodes [] = refl
  shown_nodes (p ∷ ps) = ap (λ (l : List Node). node p ∷ l) (reached_nodes ps false)

  pub all_shown_named : (ls : List Ring) → shown_all (rings ls) ≡ rings (shown_all ls)
  all_shown_named [] = refl
  all_shown_named (l ∷ ls) = ap₂ (λ (k : Ring) (ks : List Ring). k ∷ ks) (shown_nodes l) (all_shown_named ls)

  -- they have as many places and loops
  pub shown_places_named : (ls : List Ring) → places (shown_all (rings ls)) ≡ places (shown_all ls)
  shown_places_named ls = ap places (all_shown_named ls) ∙ places_rings (shown_all ls)

  pub shown_loops_named : (ls : List Ring) → length (shown_all (rings ls)) ≡ length (shown_all ls)
  shown_loops_named ls = ap length (all_shown_named ls) ∙ length_rings (shown_all ls)

  pub live_named : (ls : List Ring) → Live ls → Live (rings ls)
  live_named [] g = tt
  live_named ([] ∷ ls) g = g
  live_named ((p ∷ ps) ∷ ls) g = (open_node p ∙ g.0, live_named ls g.1)

  shorter_nodes : (a b : List Node) (ws : List Ring) → rings (fewer_first a b ws) ≡ fewer_first (nodes a) (nodes b) (rings ws)
  unfolding in_order
  shorter_nodes a b ws =
      go (leb (length (shown a)) (length (shown b)))
      ∙ ap (λ (t : Bool). in_order t (nodes a) (nodes b) (rings ws))
      (sym (ap₂ leb (ap length (shown_nodes a) ∙ length_nodes (shown a)) (ap length (shown_nodes b) ∙ length_nodes (shown b))))
    where
      go : (t : Bool) → rings (in_order t a b ws) ≡ in_order t (nodes a) (nodes b) (rings ws)
      go true = refl
      go false = refl

  pub surgery_named : (e f : Node) (ps : List Node) (ws ls : List Ring) (c : ℕ) (o : Operation) → Surgery e f ps ws ls c o
      → Surgery (node e) (node f) (nodes ps) (rings ws) (rings ls) (name c) o
  surgery_named e f ps ws ls c New (on_new q) =
      on_new
      (ap rings q
      ∙ (ap (λ (l : List Node). (opened (name c) ∷ (node f ∷ l)) ∷ rings ws) (nodes_append ps (opened (vertex e) ∷ []))
      ∙ ap (λ (x : Node). (opened (name c) ∷ (node f ∷ (nodes ps ++ (x ∷ [])))) ∷ rings ws) (opened_node e)))
  surgery_named e f ps ws ls c Forward (on_forward p q qs sh k op l) =
      on_forward (node p) (node q) (nodes qs) (ap nodes sh) (ap name k ∙ sym (vertex_node p)) (open_node f ∙ op)
      (ap rings l ∙ ap (λ (x : Node). (x ∷ (node p ∷ (node q ∷ nodes qs))) ∷ rings ws) (opened_node e))
  surgery_named e f ps ws ls c Backward (on_backward q qs p sh k op l) =
      on_backward (node q) (nodes qs) (node p) (ap nodes sh ∙ nodes_append (q ∷ qs) (p ∷ [])) (ap name k ∙ sym (vertex_node p))
      (open_node p ∙ op)
      (ap rings l ∙ ap (λ (x : Node). (x ∷ (node f ∷ (node q ∷ nodes qs))) ∷ rings ws) (opened_node p))
  surgery_named e f ps ws ls c Close (on_close p sh k op op' l) =
      on_close (node p) (ap nodes sh) (ap name k ∙ sym (vertex_node p)) (open_node f ∙ op) (open_node p ∙ op') (ap rings l)
  surgery_named e f ps ws ls c (Split i) (on_split us p vs sh n lu lv k l) =
      on_split (nodes us) (node p) (nodes vs) (ap nodes sh ∙ nodes_append us (p ∷ vs))
      (short_nodes (f ∷ us) false ∙ n.0, stays_node (f ∷ us) p n.1)
      (let h = length_nodes us in omega arith) (let h = length_nodes vs in omega arith) (ap name k ∙ sym (vertex_node p))
      (ap rings l
      ∙ (shorter_nodes (opened (vertex p) ∷ (f ∷ us)) (opened (vertex e) ∷ (p ∷ vs)) ws
      ∙ ap₂ (λ (x y : Node). fewer_first (x ∷ (node f ∷ nodes us)) (y ∷ (node p ∷ nodes vs)) (rings ws)) (opened_node p) (opened_node e)))
  surgery_named e f ps ws ls c (Union w j) (on_union before us p vs behind sh n i k l) =
      on_union (rings before) (nodes us) (node p) (nodes vs) (rings behind)
      (ap rings sh ∙ (rings_append before ((us ++ (p ∷ vs)) ∷ behind)
      ∙ ap (λ (r : List Node). rings before ++ (r ∷ rings behind)) (nodes_append us (p ∷ vs))))
      (ap suc (length_rings before) ∙ n) (short_nodes us false ∙ i.0, stays_node us p i.1) (ap name k ∙ sym (vertex_node p))
      (ap rings l
      ∙ (ap₂ (λ (r : List Node) (rs : List Ring). (opened (name (vertex p)) ∷ (node f ∷ r)) ∷ rs)
      (nodes_append ps (opened (vertex e) ∷ (p ∷ (vs ++ us)))
      ∙ ap (λ (r : List Node). nodes ps ++ (opened (name (vertex e)) ∷ (node p ∷ r))) (nodes_append vs us))
      (rings_append before behind)
      ∙ ap₂ (λ (x y : Node). (x ∷ (node f ∷ (nodes ps ++ (y ∷ (node p ∷ (nodes vs ++ nodes us)))))) ∷ (rings before ++ rings behind))
      (opened_node p) (opened_node e)))
  surgery_named e f ps ws ls c Rattle.rules.specs.declared.Operation.TheVariants.Border x' = elim x' [ ]
  surgery_named e f ps ws ls c Rattle.rules.specs.declared.Operation.TheVariants.Start x'' = elim x'' [ ]

  onward_named : (back ps : List Node) → nodes (onward back ps) ≡ onward (nodes back) (nodes ps)
  unfolding onward
  onward_named back [] = refl
  onward_named back (opened v ∷ ps) = ap (λ (l : List Node). opened (name v) ∷ l) (nodes_append ps back)
  onward_named back (marked v ∷ ps) =
      onward_named (back ++ (marked v ∷ [])) ps ∙ ap (λ (l : List Node). onward l (nodes ps)) (nodes_append back (marked v ∷ []))

  after_named : (e f : Node) (ps : List Node) → nodes (after_border e f ps) ≡ after_border (node e) (node f) (nodes ps)
  after_named e f ps =
      onward_named [] (f ∷ (ps ++ (marked (vertex e) ∷ [])))
      ∙ ap (λ (l : List Node). onward [] (node f ∷ l))
      (nodes_append ps (marked (vertex e) ∷ []) ∙ ap (λ (v : ℕ). nodes ps ++ (marked v ∷ [])) (sym (vertex_node e)))

  with_named : (r : List Node) (ws : List Ring) → rings (with_ring r ws) ≡ with_ring (nodes r) (rings ws)
  with_named [] ws = refl
  with_named (p ∷ ps) ws = refl

  pub border_named : (e f : Node) (ps : List Node) (ws : List Ring)
      → rings (with_ring (after_border e f ps) ws) ≡ with_ring (after_border (node e) (node f) (nodes ps)) (rings ws)
  border_named e f ps ws = with_named (after_border e f ps) ws ∙ ap (λ (l : List Node). with_ring l (rings ws)) (after_named e f ps)
