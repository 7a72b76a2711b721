-- Every accepted list of operations is the packer's: at each triangle the packer's choice is the operation.
-- Assumes nothing.
use Prim.Native.Nat.{ℕ}
use mathlib.Core.List.{List, ◌∷◌}
use mathlib.Core.Path.{◌≡◌, refl, ◌∙◌, subst}
use mathlib.Core.Logic.{◌⊎◌, inl, inr}
use Rattle.rules.specs.declared.Triangle.{Triangle}
use Rattle.rules.specs.declared.Operation.{Operation}
use Rattle.rules.specs.declared.Operation.TheVariants.{New}
use Rattle.rules.specs.Across.{Nothing}
use Rattle.rules.specs.Across.{across}
use Rattle.rules.specs.Ring.{Node, Ring, vertex, loop_at}
use Rattle.rules.specs.Choice.{choose_place}
use Rattle.mesh_theory.specs.Fans.Corner.{Once}
use Rattle.rules.specs.Fan.{Neighbours}
use Rattle.rules.specs.Triangle.{Rot, at_p, In, here, there}
use Rattle.rules.specs.Right.{OpenAt}
use Rattle.book.specs.Shown.{shown_all}
use Rattle.book.proofs.Shown.{Live}
use Rattle.choice_theory.specs.Spots.{Unused, Unique}
use Rattle.choice_theory.proofs.Places.Corners.{Everywhere, AllMarks}
use Rattle.choice_theory.proofs.Steps.Surgery.{triangle_at, Surgery}
use Rattle.choice_theory.proofs.Places.Spots.{seat}
use Rattle.mesh_theory.proofs.Fans.Corners.{in_next, rot_next}
use Rattle.choice_theory.proofs.Turning.Links.{free_rot}
use Rattle.choice_theory.proofs.Turning.Ways.{Finds, across_some, across_none}
use Rattle.choice_theory.proofs.Places.Marking.{marks_step}
use Rattle.choice_theory.proofs.Runs.Traces.{Trace, fate}
use Rattle.choice_theory.proofs.Places.Sites.{Named, named}
use Rattle.choice_theory.proofs.Places.Ends.{spotted_holds, place_leaving}
use Rattle.choice_theory.proofs.Places.Exists.{Used}
use Rattle.choice_theory.proofs.Turning.Choice.{chosen}
use Rattle.choice_theory.proofs.Places.Showing.{open_full, unique_shown}

-- what holds of the triangles M of a complete model, those built and those to come, and of the rings, in every legal state
pub record State (M R B : List Triangle) (ls : List Ring) : Type 0 where
  pub once_m : Once M
  pub once : Once R
  pub sub_r : (x y z : ℕ) → In x y z R → In x y z M
  pub sub_b : (x y z : ℕ) → In x y z B → In x y z M
  pub apart : (x y z w : ℕ) → In x y z R → In x y w B → ⊥
  pub used : Everywhere (Used B) ls
  pub unique : Unique ls

-- an open edge is used
pub open_used : (M R B : List Triangle) (ls : List Ring) → State M R B ls → (x y l i : ℕ) → OpenAt ls l i x y → (z : ℕ) × In x y z M
open_used M R B ls s x y l i o =
    let r = (spotted_holds (Used B) (place_leaving ls l i x y o).1 s.used).1 in (r.0, s.sub_b x y r.0 r.1)

-- in the rings shown too
pub shown_used : (M R B : List Triangle) (ls : List Ring) → State M R B ls → Live ls → (x y l i : ℕ) → OpenAt (shown_all ls) l i x y
    → (z : ℕ) × In x y z M
shown_used M R B ls s g x y l i o = let r = open_full ls g l i x y o in open_used M R B ls s x y l r.0 r.1

module _ (M R B : List Triangle) (e f : Node) (ps : List Node) (ws ls : List Ring) (c : ℕ) (o : Operation) (os : List Operation)
    (s : Surgery e f ps ws ls c o) (later : Trace M ls os R) (live : Live ((e ∷ (f ∷ ps)) ∷ ws)) (marks : AllMarks M ((e ∷ (f ∷ ps)) ∷ ws))
    (st : State M (triangle_at e f c ∷ R) B ((e ∷ (f ∷ ps)) ∷ ws)) (fan : Neighbours M c) where
  tri : Rot (triangle_at e f c) (vertex f) (vertex e) c
  tri = at_p refl refl refl

  choice_named : Named M R e f ps ws c o → choose_place (vertex e) (vertex f) c R (shown_all ((e ∷ (f ∷ ps)) ∷ ws)) ≡ o
  unfolding loop_at
  choice_named n =
      let u = spotted_holds (Used B) n.spot st.used in
      chosen M R (vertex e) (vertex f) c (λ x y z i. st.sub_r x y z (there i)) (st.sub_r _ _ _ (here tri))
      (free_rot R st.once.0 (rot_next tri)) st.once_m st.once.2 fan (shown_all ((e ∷ (f ∷ ps)) ∷ ws))
      (unique_shown ((e ∷ (f ∷ ps)) ∷ ws) live st.unique)
      (shown_used M (triangle_at e f c ∷ R) B ((e ∷ (f ∷ ps)) ∷ ws) st live)
      n.ring (seat n.spot) n.x u.0.0 n.y n.seen (st.sub_b _ _ _ u.0.1)
      (λ z i. st.apart _ _ z u.0.0 (there i) u.0.1)
      (λ q. st.apart (vertex e) c (vertex f) u.0.0 (here (rot_next tri)) (subst (λ (v : ℕ). In v c u.0.0 B) q u.0.1))
      (λ z i. st.apart _ _ z u.1.0 (there i) u.1.1) n.heirs.enter n.heirs.leave
      ∙ n.names

  -- the look-up across the current edge, in any list of the model's triangles, finds the next one built
  pub next_across : (mesh : List Triangle) → Once mesh → ((x y z : ℕ) → In x y z M → In x y z mesh) → Finds (vertex f) (vertex e) c mesh
  next_across mesh o sub = across_some (vertex f) (vertex e) c mesh o (sub _ _ _ (st.sub_r _ _ _ (here tri)))

  -- c has a place, so it has a built triangle
  named_built : Named M R e f ps ws c o → (m : ℕ) × (n : ℕ) × In c m n B
  named_built n = let u = (spotted_holds (Used B) n.spot st.used).0 in (u.0, n.x, in_next u.1)

  -- and the place that the packer chooses is the one that the operation names
  pub canonical : (o ≡ New)
      ⊎ ((choose_place (vertex e) (vertex f) c R (shown_all ((e ∷ (f ∷ ps)) ∷ ws)) ≡ o) × ((m : ℕ) × (n : ℕ) × In c m n B))
  canonical = go (named M R e f ps ws ls c o s live marks (fate later (marks_step M e f ps ws ls c o s marks)))
    where
      go : (o ≡ New) ⊎ Named M R e f ps ws c o
          → (o ≡ New) ⊎ ((choose_place (vertex e) (vertex f) c R (shown_all ((e ∷ (f ∷ ps)) ∷ ws)) ≡ o) × ((m : ℕ) × (n : ℕ) × In c m n B))
      go (inl h) = inl h
      go (inr n) = inr (choice_named n, named_built n)

-- at a border edge it finds none
pub border_across : (M mesh : List Triangle) (a b : ℕ) → ((x y z : ℕ) → In x y z mesh → In x y z M) → Unused b a M
    → across b a mesh ≡ Nothing
border_across M mesh a b sub f = across_none b a mesh (λ z i. f z (sub b a z i))
