-- The notes of all corners of a vertex tell what the look-ups across the edges at it find, and turning by them is turning by look-ups.
-- Assumes nothing.
use Prim.Native.Nat.{ℕ, zero, suc, ◌+◌, ◌*◌, ◌-◌, ◌/◌, ◌≤◌, ◌<◌}
use native.Mathlib.Omega.{arith}
use mathlib.Core.Bool.{Bool, true, false}
use mathlib.Core.List.{List}
use mathlib.Core.Path.{◌≡◌, refl, sym, ap, ◌∙◌, subst}
use lib.ListN.{length, get_or, set, length-set, replicate, length-replicate}
use lib.Seq.{get_or-set_same, get_or-set_other}
use lib.Dec.{eqb}
use borrow.Author.Tests.{eqb-true, eqb-false}
use Rattle.rules.specs.declared.Triangle.{Triangle}
use Rattle.rules.specs.Across.{Across}
use Rattle.rules.specs.Across.{Found, Nothing}
use Rattle.rules.specs.Limits.{max_vertices}
use Rattle.rules.specs.Triangle.{edges_of, triangles_of, In}
use Rattle.rules.specs.Count.{uses}
use Rattle.rules.specs.Across.{across}
use Rattle.mesh_theory.specs.Chains.Corner.{corner_after, corner_before, latest}
use Rattle.mesh_theory.specs.Chains.Linked.{Linked, Newest, Older}
use Rattle.mesh_theory.specs.Chains.Turn.{left_back, left_on}
use Rattle.mesh_theory.proofs.Fans.Corners.{in_next}
use Rattle.mesh_theory.proofs.Fans.Finding.{across_nothing}
use Rattle.mesh_theory.proofs.Fans.Only.{in_found}
use Rattle.mesh_theory.proofs.Fans.Tests.{none_twice_lem}
use Rattle.mesh_theory.proofs.Chains.Fans.{corner_in, on_more, on_back, back_stop, back_more}
use Rattle.mesh_theory.proofs.Chains.Finding.{linked_first}
use Rattle.mesh_theory.proofs.Chains.Leaving.{out, into, out_uses, into_uses, out_here, into_here, latest_leaves, latest_enters}
use Rattle.mesh_theory.proofs.Chains.Leaving.{none_out, none_into}
use Rattle.mesh_theory.proofs.Chains.Walking.{Counting, counting_all}
use Rattle.counting.proofs.Counts.{same_no}
use Rattle.mesh.specs.Turns.{noted, Fresh, Within, Note, absent, present, Noted, AllNoted}
use Rattle.mesh.proofs.Zeros.{same_all}

-- what one note changes
module _ (ns : List ℕ) (v j z : ℕ) where
  noted_length : length (noted ns v j z) ≡ length ns
  noted_length = length-set (set ns (2 * j) (v + 1)) (2 * j + 1) z ∙ length-set ns (2 * j) (v + 1)

  -- another place keeps its number
  noted_other : (i : ℕ) → (i ≡ 2 * j → ⊥) → (i ≡ 2 * j + 1 → ⊥) → get_or (noted ns v j z) i 0 ≡ get_or ns i 0
  noted_other i f g = get_or-set_other (set ns (2 * j) (v + 1)) (2 * j + 1) i z 0 g ∙ get_or-set_other ns (2 * j) i (v + 1) 0 f

  mark_other : (i : ℕ) → (i ≡ j → ⊥) → get_or (noted ns v j z) (2 * i) 0 ≡ get_or ns (2 * i) 0
  mark_other i d = noted_other (2 * i) (λ e. d (omega arith)) (omega arith)

  third_other : (i : ℕ) → (i ≡ j → ⊥) → get_or (noted ns v j z) (2 * i + 1) 0 ≡ get_or ns (2 * i + 1) 0
  third_other i d = noted_other (2 * i + 1) (omega arith) (λ e. d (omega arith))

  module _ (room : 2 * j + 1 < length ns) where
    noted_mark : get_or (noted ns v j z) (2 * j) 0 ≡ v + 1
    noted_mark =
        get_or-set_other (set ns (2 * j) (v + 1)) (2 * j + 1) (2 * j) z 0 (omega arith) ∙ get_or-set_same ns (2 * j) (v + 1) 0 (omega arith)

    noted_third : get_or (noted ns v j z) (2 * j + 1) 0 ≡ z
    noted_third = get_or-set_same (set ns (2 * j) (v + 1)) (2 * j + 1) z 0 (simp length-set room)

    noted_fresh : Fresh ns v → Fresh (noted ns v j z) v
    noted_fresh f = (noted_length ∙ f.0, λ i w e. go i w e (eqb i j) refl)
      where
        go : (i w : ℕ) → get_or (noted ns v j z) (2 * i) 0 ≡ w + 1 → (b : Bool) → eqb i j ≡ b → v ≤ w
        go i w e true q =
            omega (arith, e, ap (λ (k : ℕ). get_or (noted ns v j z) (2 * k) 0) (eqb-true i j q), noted_mark)
        go i w e false q = f.1 i w (sym (mark_other i (eqb-false i j q)) ∙ e)

    noted_within : z < max_vertices → Within ns v → Within (noted ns v j z) v
    noted_within l f i e = go (eqb i j) refl
      where
        go : (b : Bool) → eqb i j ≡ b → get_or (noted ns v j z) (2 * i + 1) 0 < max_vertices
        go true q =
            omega (arith, ap (λ (k : ℕ). get_or (noted ns v j z) (2 * k + 1) 0) (eqb-true i j q), noted_third)
        go false q =
            let d = eqb-false i j q in
            omega (arith, third_other i d, f i (sym (mark_other i d) ∙ e))

-- the walk stands at c, and the corners below it have an edge f c times: it was not passed and note j is not of it, or the note has the
-- third vertex of a triangle that has the edge, as P says
pub data Going (f : ℕ → ℕ) (P : ℕ → Type 0) (m v : ℕ) (ns : List ℕ) (j c : ℕ) : Type 0 where
  ahead : (get_or ns (2 * j) 0 ≡ v + 1 → ⊥) → f c ≡ f m → Going f P m v ns j c
  passed : get_or ns (2 * j) 0 ≡ v + 1 → P (get_or ns (2 * j + 1) 0) → Going f P m v ns j c

module _ {f : ℕ → ℕ} {P : ℕ → Type 0} {m v : ℕ} {ns : List ℕ} {j : ℕ} where
  going_other : {c : ℕ} (k z : ℕ) → (j ≡ k → ⊥) → Going f P m v ns j c → Going f P m v (noted ns v k z) j c
  going_other k z d (ahead s e) = ahead (λ q. s (sym (mark_other ns v k z j d) ∙ q)) e
  going_other k z d (passed s p) = passed (mark_other ns v k z j d ∙ s) (subst P (sym (third_other ns v k z j d)) p)

  going_down : {c d : ℕ} → f d ≡ f c → Going f P m v ns j c → Going f P m v ns j d
  going_down e (ahead s q) = ahead s (e ∙ q)
  going_down e (passed s p) = passed s p

  going_none : (a : Across) → f 0 ≡ 0 → (f m ≡ 0 → a ≡ Nothing) → ((z : ℕ) → P z → (n : ℕ) × (k : ℕ) × (a ≡ Found n k z))
      → Going f P m v ns j 0 → Note ns v j a
  going_none a z h g (ahead s e) = absent s (h (sym e ∙ z))
  going_none a z h g (passed s p) = let r = g (get_or ns (2 * j + 1) 0) p in present s r.0 r.1 r.2

going_here : {f : ℕ → ℕ} {P : ℕ → Type 0} {m v c : ℕ} (ns : List ℕ) (j z : ℕ) → 2 * j + 1 < length ns → P z
    → Going f P m v (noted ns v j z) j c
going_here {f} {P} {m} {v} {c} ns j z room p = passed (noted_mark ns v j z room) (subst P (sym (noted_third ns v j z room)) p)

-- the triangle v y z has v→y and z→v
abbrev Leaving : List ℕ → ℕ → ℕ → ℕ → Type 0
Leaving xs v y z = In v y z (triangles_of xs)

abbrev Entering : List ℕ → ℕ → ℕ → ℕ → Type 0
Entering xs v z y = In z v y (triangles_of xs)

pub record Noting (xs : List ℕ) (v : ℕ) (ns : List ℕ) (c : ℕ) : Type 0 where
  leaves : (y : ℕ) → Going (out v y xs) (Leaving xs v y) (3 * (length xs / 3)) v ns (2 * y) c
  enters : (z : ℕ) → Going (into v z xs) (Entering xs v z) (3 * (length xs / 3)) v ns (2 * z + 1) c
  within : Within ns v
  fresh : Fresh ns v

before : (c : ℕ) → suc c - 1 ≡ c
before c = omega arith

module _ (xs cs : List ℕ) (linked : Linked xs cs) (v : ℕ) where
  abbrev m : ℕ
  m = 3 * (length xs / 3)

  pub noting_start : (c : ℕ) → Newest xs cs v c → (ns : List ℕ) → Fresh ns (v + 1) → Noting xs v ns c
  noting_start c h ns f =
      let e = h.newest (length xs / 3) linked.chains in
      let new : (j : ℕ) → get_or ns (2 * j) 0 ≡ v + 1 → ⊥ = λ j q. omega (arith, f.1 j v q) in
      record {
        leaves = λ y. ahead (new (2 * y)) (ap (out v y xs) e ∙ latest_leaves v y xs m);
        enters = λ z. ahead (new (2 * z + 1)) (ap (into v z xs) e ∙ latest_enters v z xs m);
        within = λ j q. absurd (new j q);
        fresh = (f.0, λ j w q. omega (arith, f.1 j w q));
      }

  -- one corner more: the triangle v y z
  module _ (c y z : ℕ) (ns : List ℕ) (going : Noting xs v ns (suc c)) (is : get_or xs c 0 ≡ v) (y_is : get_or xs (corner_after c) 0 ≡ y)
      (z_is : get_or xs (corner_before c) 0 ≡ z) (seen : In v y z (triangles_of xs)) (y-below : y < max_vertices)
      (z-below : z < max_vertices)
    where
      abbrev once : List ℕ
      once = noted ns v (2 * y) z

      abbrev twice : List ℕ
      twice = noted once v (2 * z + 1) y

      room : 2 * (2 * y) + 1 < length ns
      room = omega (arith, going.fresh.0)

      room₂ : 2 * (2 * z + 1) + 1 < length once
      room₂ = omega (arith, going.fresh.0, noted_length ns v (2 * y) z)

      leaving : (u : ℕ) (b : Bool) → eqb u y ≡ b → Going (out v u xs) (Leaving xs v u) m v twice (2 * u) (latest v xs c)
      leaving u true e =
          subst (λ (w : ℕ). Going (out v w xs) (Leaving xs v w) m v twice (2 * w) (latest v xs c)) (sym (eqb-true u y e))
          (going_other (2 * z + 1) y (omega arith) (going_here ns (2 * y) z room seen))
      leaving u false e =
          let d = eqb-false u y e in
          let s : out v u xs (latest v xs c) ≡ out v u xs (suc c) =
          omega (
            arith,
            latest_leaves v u xs c,
            out_here v u xs c is,
            same_no u (get_or xs (corner_after c) 0) (λ q. d (q ∙ y_is)),
          ) in
          going_other (2 * z + 1) y (omega arith) (going_other (2 * y) z (λ q. d (omega arith)) (going_down s (going.leaves u)))

      entering : (u : ℕ) (b : Bool) → eqb u z ≡ b → Going (into v u xs) (Entering xs v u) m v twice (2 * u + 1) (latest v xs c)
      entering u true e =
          subst (λ (w : ℕ). Going (into v w xs) (Entering xs v w) m v twice (2 * w + 1) (latest v xs c)) (sym (eqb-true u z e))
          (going_here once (2 * z + 1) y room₂ (in_next (in_next seen)))
      entering u false e =
          let d = eqb-false u z e in
          let s : into v u xs (latest v xs c) ≡ into v u xs (suc c) =
          omega (
            arith,
            latest_enters v u xs c,
            into_here v u xs c is,
            same_no u (get_or xs (corner_before c) 0) (λ q. d (q ∙ z_is)),
          ) in
          going_other (2 * z + 1) y (λ q. d (omega arith)) (going_other (2 * y) z (omega arith) (going_down s (going.enters u)))

      noting_more : Noting xs v (noted (noted ns v (2 * y) z) v (2 * z + 1) y) (latest v xs c)
      noting_more = record {
        leaves = λ u. leaving u (eqb u y) refl;
        enters = λ u. entering u (eqb u z) refl;
        within = noted_within once v (2 * z + 1) y room₂ y-below (noted_within ns v (2 * y) z room z-below going.within);
        fresh = noted_fresh once v (2 * z + 1) y room₂ (noted_fresh ns v (2 * y) z room going.fresh);
      }

  -- one corner more, in the words of the loop
  pub noting_next : (c e k j h n : ℕ) (ns ls ms : List ℕ) → Newest xs cs v e → Counting cs e n c → Noting xs v ns c → 0 < c
      → k ≡ corner_after (c - 1) → k < length xs → h ≡ corner_before (c - 1) → h < length xs
      → ls ≡ noted ns v (2 * get_or xs k 0) (get_or xs h 0) → ms ≡ noted ls v (2 * get_or xs h 0 + 1) (get_or xs k 0) → Older cs (c - 1) j
      → Noting xs v ms j
  noting_next zero e k j h n ns ls ms newest counting going some k-is k-in h-is h-in l-is m-is older = absurd (omega arith)
  noting_next (suc c) e k j h n ns ls ms newest counting going some k-is k-in h-is h-in l-is m-is older =
      let b = before c in
      let y = get_or xs k 0 in
      let z = get_or xs h 0 in
      let p = counting xs v m linked.chains (newest.newest (length xs / 3) linked.chains) in
      let is : get_or xs c 0 ≡ v = rw b at (p.has some) in
      let below : c < m = omega (arith, p.bound) in
      let y_is : get_or xs (corner_after c) 0 ≡ y = ap (λ (i : ℕ). get_or xs i 0) (sym (k-is ∙ ap corner_after b)) in
      let z_is : get_or xs (corner_before c) 0 ≡ z = ap (λ (i : ℕ). get_or xs i 0) (sym (h-is ∙ ap corner_before b)) in
      let j-is : j ≡ latest v xs c =
      (subst (λ (i : ℕ). Older cs i j) b older).older xs m linked.chains below ∙ ap (λ (u : ℕ). latest u xs c) is in
      let seen : In v y z (triangles_of xs) =
      subst (λ (u : ℕ). In u y z (triangles_of xs)) is
      (subst (λ (u : ℕ). In (get_or xs c 0) u z (triangles_of xs)) y_is
      (subst (λ (u : ℕ). In (get_or xs c 0) (get_or xs (corner_after c) 0) u (triangles_of xs)) z_is
      (subst (In (get_or xs c 0) (get_or xs (corner_after c) 0) (get_or xs (corner_before c) 0)) (linked_first xs cs linked)
      (corner_in xs (length xs / 3) c linked.chains.within below)))) in
      subst (Noting xs v ms) (sym j-is)
      (subst (λ (us : List ℕ). Noting xs v us (latest v xs c))
      (sym (m-is ∙ ap (λ (us : List ℕ). noted us v (2 * z + 1) y) l-is))
      (noting_more c y z ns going is y_is z_is seen (linked.sound.below k k-in) (linked.sound.below h h-in)))

  -- the whole chain
  all_out : (y : ℕ) → out v y xs m ≡ uses v y (triangles_of xs)
  all_out y =
      out_uses v y xs (length xs / 3) linked.chains.within
      ∙ ap (λ (ts : List Triangle). uses v y ts) (linked_first xs cs linked)

  all_into : (z : ℕ) → into v z xs m ≡ uses z v (triangles_of xs)
  all_into z =
      into_uses v z xs (length xs / 3) linked.chains.within
      ∙ ap (λ (ts : List Triangle). uses z v ts) (linked_first xs cs linked)

  only : (x y : ℕ) → uses x y (triangles_of xs) ≤ 1
  only x y = (none_twice_lem (edges_of (triangles_of xs))).0 linked.once x y

  pub noting_all : (e c n : ℕ) (ns : List ℕ) → Counting cs e n c → Noting xs v ns c → c ≤ 0 → AllNoted xs cs v e n ns
  noting_all e (suc c) n ns counting going none = absurd (omega arith)
  noting_all e zero n ns counting going none = record {
    counts = counting_all n 0 counting none;
    notes = λ y. (
      going_none (across v y (triangles_of xs)) (none_out v y xs)
          (λ q. (across_nothing v y (triangles_of xs)).1 (sym (all_out y) ∙ q)) (λ z i. in_found (triangles_of xs) (only v y) i)
          (going.leaves y),
      going_none (across y v (triangles_of xs)) (none_into v y xs)
          (λ q. (across_nothing y v (triangles_of xs)).1 (sym (all_into y) ∙ q)) (λ z i. in_found (triangles_of xs) (only y v) i)
          (going.enters y),
    );
    within = going.within;
    fresh = going.fresh;
  }

-- one turn by the notes, on and back
found : {ns : List ℕ} {v j : ℕ} {a : Across} → Note ns v j a → get_or ns (2 * j) 0 ≡ v + 1
    → (n : ℕ) × (k : ℕ) × (a ≡ Found n k (get_or ns (2 * j + 1) 0))
found (absent s e) h = absurd (s h)
found (present s n k e) h = (n, k, e)

nothing : {ns : List ℕ} {v j : ℕ} {a : Across} → Note ns v j a → (get_or ns (2 * j) 0 ≡ v + 1 → ⊥) → a ≡ Nothing
nothing (absent s e) h = e
nothing (present s n k e) h = absurd (h s)

module _ (ns : List ℕ) (v x n : ℕ) (some : 0 < n) (ts : List Triangle) (notes : Noted ts v ns) where
  pub turned_on : (y : ℕ) → (y ≡ x → ⊥) → get_or ns (2 * (2 * y)) 0 ≡ v + 1
      → left_on ts v x (get_or ns (2 * (2 * y) + 1) 0) (n - 1) ≡ left_on ts v x y n
  turned_on y d h = let f = found (notes y).0 h in on_more ts v x y n f.0 f.1 (get_or ns (2 * (2 * y) + 1) 0) some d f.2

  pub end_met : (y r : ℕ) → (y ≡ x → ⊥) → (get_or ns (2 * (2 * y)) 0 ≡ v + 1 → ⊥) → r ≡ left_back ts v x n → r ≡ left_on ts v x y n
  end_met y r d h e = on_back ts v x y n r some d (nothing (notes y).0 h) e

  pub turned_back : get_or ns (2 * (2 * x + 1)) 0 ≡ v + 1 → left_back ts v (get_or ns (2 * (2 * x + 1) + 1) 0) (n - 1) ≡ left_back ts v x n
  turned_back h = let f = found (notes x).1 h in back_more ts v x n f.0 f.1 (get_or ns (2 * (2 * x + 1) + 1) 0) some f.2

  pub start_met : (get_or ns (2 * (2 * x + 1)) 0 ≡ v + 1 → ⊥) → n ≡ left_back ts v x n
  start_met h = back_stop ts v x n some (nothing (notes x).1 h)

-- notes of zeros are about no vertex
pub zeros_fresh : (n u : ℕ) → n ≡ 4 * max_vertices → Fresh (replicate n 0) u
zeros_fresh n u l = (length-replicate n 0 ∙ l, λ j w e. absurd (omega (arith, e, same_all n (2 * j) 0)))

-- what is noted about none below u is noted about none below fewer
pub fresh_before : (ns : List ℕ) (u : ℕ) → Fresh ns (u + 1) → Fresh ns u
fresh_before ns u f = (f.0, λ j w e. omega (arith, f.1 j w e))

pub fresh_at : (ns : List ℕ) (u : ℕ) → 0 < u → Fresh ns u → Fresh ns (u - 1 + 1)
fresh_at ns u h f = (f.0, λ j w e. omega (arith, f.1 j w e))
