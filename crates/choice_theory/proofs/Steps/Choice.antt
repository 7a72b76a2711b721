-- Packing a list that is accepted: the choice is one operation, and it is allowed.
-- Assumes nothing.
use Prim.Native.Nat.{ℕ}
use mathlib.Core.Bool.{true, false}
use mathlib.Core.List.{List, ◌∷◌}
use mathlib.Core.Path.{◌≡◌, refl, sym, ◌∙◌, subst}
use mathlib.Core.Logic.{◌⊎◌}
use Rattle.rules.specs.declared.Triangle.{Triangle}
use Rattle.rules.specs.Ring.{Node, Ring, vertex, is_open, reached, loop_at}
use Rattle.rules.specs.Choice.{operation_for, choose_place}
use Rattle.rules.specs.Fan.{Neighbours}
use Rattle.rules.specs.Triangle.{Rot, at_p, In, here, there}
use Rattle.rules.specs.Right.{OpenAt}
use Rattle.book.specs.Shown.{shown_all}
use Rattle.book.proofs.Shown.{Live}
use Rattle.choice_theory.specs.Spots.{Unused}
use Rattle.choice_theory.proofs.Turning.Turn.{Turn, rest, turn, jump}
use Rattle.choice_theory.proofs.Places.Corners.{Everywhere, AllMarks, Filled}
use Rattle.choice_theory.proofs.Places.Spots.{seat}
use Rattle.choice_theory.proofs.Steps.Surgery.{triangle_at}
use Rattle.mesh_theory.proofs.Fans.Corners.{rot_next}
use Rattle.choice_theory.proofs.Turning.Links.{free_rot}
use Rattle.choice_theory.proofs.Places.Ends.{spotted_holds, spotted_seen}
use Rattle.choice_theory.proofs.Places.Exists.{Used, PlaceOf, exists}
use Rattle.choice_theory.proofs.Turning.Choice.{chosen}
use Rattle.choice_theory.proofs.Places.Showing.{unique_shown}
use Rattle.choice_theory.proofs.Runs.Canonical.{State, shown_used}
use Rattle.choice_theory.proofs.Steps.Allowing.{Allowed, allowed_at}

-- what packing keeps besides: all triangles are built or left; gaps are filled by those left; an edge whose other side is left is open
pub record Packs (M R B : List Triangle) (ls : List Ring) : Type 0 where
  pub state : State M R B ls
  pub marks : AllMarks M ls
  pub part : (x y z : ℕ) → In x y z M → In x y z R ⊎ In x y z B
  pub gaps : Everywhere (Filled M R) ls
  pub opens : (x y z w : ℕ) → In x y z B → In y x w R → (l : ℕ) × (i : ℕ) × OpenAt ls l i x y

-- a path that can neither go on nor jump
pub no_step : {M : List Triangle} {c x y : ℕ} {R : List Triangle} → Unused c x R → (Unused c x M → ⊥) → Turn M c R x y → x ≡ y
no_step f g rest = refl
no_step f g (turn i l) = absurd (f _ i)
no_step f g (jump h k l) = absurd (g h)

module _ (M R B : List Triangle) (e f : Node) (ps : List Node) (ws : List Ring) (c : ℕ)
    (pk : Packs M (triangle_at e f c ∷ R) B ((e ∷ (f ∷ ps)) ∷ ws)) (fan : Neighbours M c) where
  tri : Rot (triangle_at e f c) (vertex f) (vertex e) c
  tri = at_p refl refl refl

  st : State M (triangle_at e f c ∷ R) B ((e ∷ (f ∷ ps)) ∷ ws)
  st = pk.state

  -- the place is the packer's choice
  pub choice_place : Live ((e ∷ (f ∷ ps)) ∷ ws) → (n : PlaceOf M R ((e ∷ (f ∷ ps)) ∷ ws) (vertex e) (vertex f) c)
      → choose_place (vertex e) (vertex f) c R (shown_all ((e ∷ (f ∷ ps)) ∷ ws))
      ≡ operation_for (reached (f ∷ ps) false) n.ring (seat n.spot)
  unfolding loop_at st
  choice_place live n =
      let u = spotted_holds (Used B) n.spot st.used in
      chosen M R (vertex e) (vertex f) c (λ x y z i. st.sub_r x y z (there i)) (st.sub_r _ _ _ (here tri))
      (free_rot R st.once.0 (rot_next tri)) st.once_m st.once.2 fan (shown_all ((e ∷ (f ∷ ps)) ∷ ws))
      (unique_shown ((e ∷ (f ∷ ps)) ∷ ws) live st.unique)
      (shown_used M (triangle_at e f c ∷ R) B ((e ∷ (f ∷ ps)) ∷ ws) st live)
      n.ring (seat n.spot) n.x u.0.0 n.y (spotted_seen M n.spot pk.marks live) (st.sub_b _ _ _ u.0.1)
      (λ z i. st.apart _ _ z u.0.0 (there i) u.0.1)
      (λ q. st.apart (vertex e) c (vertex f) u.0.0 (here (rot_next tri)) (subst (λ (v : ℕ). In v c u.0.0 B) q u.0.1))
      (λ z i. st.apart _ _ z u.1.0 (there i) u.1.1) n.back n.on

  -- c with a built triangle has the place
  pub place : (m n : ℕ) → In c m n B → PlaceOf M R ((e ∷ (f ∷ ps)) ∷ ws) (vertex e) (vertex f) c
  unfolding st
  place m n j =
      exists M R B (triangle_at e f c) (vertex e) (vertex f) c tri st.once_m st.once fan pk.part st.sub_r st.sub_b st.apart
      ((e ∷ (f ∷ ps)) ∷ ws) pk.gaps st.used pk.opens m n j

  -- and the table allows its operation
  pub place_allowed : is_open e ≡ true → (n : PlaceOf M R ((e ∷ (f ∷ ps)) ∷ ws) (vertex e) (vertex f) c)
      → Allowed e f ps ws c n.ring n.at (seat n.spot) n.x n.y
  unfolding st
  place_allowed live n =
      let s = n.spot in
      let g =
      allowed_at M e f ps ws s.p
      (λ h. h (vertex e) (subst (λ (v : ℕ). In v (vertex f) (vertex e) M) (sym s.own) (st.sub_r _ _ _ (here (rot_next (rot_next tri))))))
      (λ h. h (vertex f) (subst (λ (v : ℕ). In (vertex e) v (vertex f) M) (sym s.own) (st.sub_r _ _ _ (here (rot_next tri)))))
      live pk.marks
      (λ h. st.once.1.1 (sym h ∙ s.own))
      (λ h. st.once.1.2 (sym s.own ∙ h))
      s.before s.us s.vs s.behind s.whole s.stays in
      rw (← s.own, ← s.number, ← s.position, ← s.enter, ← s.leave) g
