-- Packing: c has a place whose gap holds the triangle.
-- Assumes nothing.
use Prim.Native.Nat.{ℕ}
use mathlib.Core.List.{List, ◌∷◌}
use mathlib.Core.Path.{◌≡◌, refl, sym, subst}
use mathlib.Core.Logic.{◌⊎◌, inl, inr}
use Rattle.rules.specs.declared.Triangle.{Triangle}
use Rattle.rules.specs.Ring.{Ring}
use Rattle.mesh_theory.specs.Fans.Corner.{Once}
use Rattle.rules.specs.Fan.{Neighbours}
use Rattle.rules.specs.Right.{Links, OpenAt}
use Rattle.rules.specs.Triangle.{Rot, In, here, there}
use Rattle.choice_theory.specs.Spots.{Unused}
use Rattle.choice_theory.proofs.Turning.Turn.{Turn}
use Rattle.choice_theory.proofs.Places.Corners.{Everywhere, Filled}
use Rattle.choice_theory.proofs.Places.Spots.{Spotted}
use Rattle.mesh_theory.proofs.Fans.Corners.{rot_next}
use Rattle.choice_theory.proofs.Turning.Links.{in_last, Last, last_link, first_link, links_meet, links_fork, Jumped, turn_cases}
use Rattle.choice_theory.proofs.Turning.Links.{free_rot}
use Rattle.choice_theory.proofs.Turning.Cuts.{links_behind, links_front, turn_cut, first_built, last_built, fan_order}
use Rattle.choice_theory.proofs.Places.Ends.{spotted_holds, place_leaving, Entered, place_entered}

-- ring edges are used by what is built
abbrev pub Used : List Triangle → ℕ → ℕ → ℕ → Type 0
Used B x v y = ((z : ℕ) × In x v z B) × ((z : ℕ) × In v y z B)

-- the place whose gap holds the triangle b a c
pub record PlaceOf (M R : List Triangle) (ls : List Ring) (a b c : ℕ) : Type 0 where
  pub ring : ℕ
  pub at : ℕ
  pub x : ℕ
  pub y : ℕ
  pub spot : Spotted ls ring at c x y
  pub back : Turn M c R x b
  pub on : Turn M c R a y

-- M are all triangles, B those built, t ∷ R those not yet built, t the one at the current edge a→b
module _ (M R B : List Triangle) (t : Triangle) (a b c : ℕ) (tri : Rot t b a c) (once_m : Once M) (once : Once (t ∷ R))
    (fan : Neighbours M c)
    (part : (x y z : ℕ) → In x y z M → In x y z (t ∷ R) ⊎ In x y z B)
    (sub_r : (x y z : ℕ) → In x y z (t ∷ R) → In x y z M) (sub_b : (x y z : ℕ) → In x y z B → In x y z M)
    (apart : (x y z w : ℕ) → In x y z (t ∷ R) → In x y w B → ⊥)
    (ls : List Ring) (gaps : Everywhere (Filled M (t ∷ R)) ls) (used : Everywhere (Used B) ls)
    (opens : (x y z w : ℕ) → In x y z B → In y x w (t ∷ R) → (l : ℕ) × (i : ℕ) × OpenAt ls l i x y) where
  -- the edges of t are used by no other triangle to come
  a_c : Unused a c R
  a_c = free_rot R once.0 (rot_next tri)

  c_b : Unused c b R
  c_b = free_rot R once.0 (rot_next (rot_next tri))

  a_in : In a c b (t ∷ R)
  a_in = here (rot_next tri)

  c_in : In c b a (t ∷ R)
  c_in = here (rot_next (rot_next tri))

  -- the place left towards y, where the triangle's turn on from a ends
  case_on : (y k : ℕ) → Links c R a y → In c y k B → PlaceOf M R ls a b c
  case_on y k w j = go (turn_cut t R a b c once.1 tri (spotted_holds (Filled M (t ∷ R)) p gaps))
    where
      y_c : (a ≡ y) ⊎ Last c R a y → (z : ℕ) × In y c z (t ∷ R)
      y_c (inl e) = (b, subst (λ (v : ℕ). In v c b (t ∷ R)) e a_in)
      y_c (inr r) = (r.mid, there (in_last r.final))

      o : (l : ℕ) × (i : ℕ) × OpenAt ls l i c y
      o = let r = y_c (last_link w) in opens c y k r.0 j r.1

      pl : (x : ℕ) × Spotted ls o.0 o.1 c x y
      pl = place_leaving ls o.0 o.1 c y o.2

      x : ℕ
      x = pl.0

      p : Spotted ls o.0 o.1 c x y
      p = pl.1

      x_used : (z : ℕ) × In x c z B
      x_used = (spotted_holds (Used B) p used).0

      x_c : Unused x c R
      x_c z i = apart x c z x_used.0 (there i) x_used.1

      x_a : x ≡ a → ⊥
      x_a e = apart a c b x_used.0 a_in (subst (λ (v : ℕ). In v c x_used.0 B) e x_used.1)

      entered : (u : ℕ) → Unused u c R → (u ≡ a → ⊥) → Links c R u y → ⊥
      entered u f ne l = meet (links_meet R once.2 l w)
        where
          one : (u ≡ a) ⊎ Last c R u a → ⊥
          one (inl e) = ne e
          one (inr r) = a_c r.mid (in_last r.final)

          two : (a ≡ u) ⊎ Last c R a u → ⊥
          two (inl e) = ne (sym e)
          two (inr r) = f r.mid (in_last r.final)

          meet : Links c R u a ⊎ Links c R a u → ⊥
          meet (inl v) = one (last_link v)
          meet (inr v) = two (last_link v)

      never : Links c R x y ⊎ Jumped M c R x y → ⊥
      never (inl l) = entered x x_c x_a l
      never (inr g) =
          entered g.to (λ z i. g.back z (sub_r _ _ _ (there i)))
          (λ e. g.back b (subst (λ (v : ℕ). In v c b M) (sym e) (sub_r a c b a_in))) g.after

      go : Turn M c R x y ⊎ (Turn M c R x b × Turn M c R a y) → PlaceOf M R ls a b c
      go (inl v) = absurd (never (turn_cases v))
      go (inr v) = record { ring = o.0; at = o.1; x = x; y = y; spot = p; back = v.0; on = v.1 }

  -- the place entered from x, where the triangle's turn back from b ends
  case_back : (x k : ℕ) → Links c R x b → In c k x B → PlaceOf M R ls a b c
  case_back x k w j = go (turn_cut t R a b c once.1 tri (spotted_holds (Filled M (t ∷ R)) p gaps))
    where
      c_x : (x ≡ b) ⊎ ((z : ℕ) × In c x z R × Links c R z b) → (z : ℕ) × In c x z (t ∷ R)
      c_x (inl e) = (a, subst (λ (v : ℕ). In c v a (t ∷ R)) (sym e) c_in)
      c_x (inr r) = (r.0, there r.1)

      o : (l : ℕ) × (i : ℕ) × OpenAt ls l i x c
      o = let r = c_x (first_link w) in opens x c k r.0 (in_last j) r.1

      pl : Entered ls o.0 c x
      pl = place_entered ls o.0 o.1 x c o.2

      y : ℕ
      y = pl.y

      p : Spotted ls o.0 pl.at c x y
      p = pl.place

      y_used : (z : ℕ) × In c y z B
      y_used = (spotted_holds (Used B) p used).1

      c_y : Unused c y R
      c_y z i = apart c y z y_used.0 (there i) y_used.1

      y_b : y ≡ b → ⊥
      y_b e = apart c b a y_used.0 c_in (subst (λ (v : ℕ). In c v y_used.0 B) e y_used.1)

      left : (u : ℕ) → Unused c u R → (u ≡ b → ⊥) → Links c R x u → ⊥
      left u f ne l = fork (links_fork R once.2 l w)
        where
          one : (u ≡ b) ⊎ ((z : ℕ) × In c u z R × Links c R z b) → ⊥
          one (inl e) = ne e
          one (inr r) = f r.0 r.1

          two : (b ≡ u) ⊎ ((z : ℕ) × In c b z R × Links c R z u) → ⊥
          two (inl e) = ne (sym e)
          two (inr r) = c_b r.0 r.1

          fork : Links c R u b ⊎ Links c R b u → ⊥
          fork (inl v) = one (first_link v)
          fork (inr v) = two (first_link v)

      never : Links c R x y ⊎ Jumped M c R x y → ⊥
      never (inl l) = left y c_y y_b l
      never (inr g) =
          left g.from (λ z i. g.out z (sub_r _ _ _ (there i))) (λ e. g.out a (subst (λ (v : ℕ). In c v a M) (sym e) (sub_r c b a c_in)))
          g.before

      go : Turn M c R x y ⊎ (Turn M c R x b × Turn M c R a y) → PlaceOf M R ls a b c
      go (inl v) = absurd (never (turn_cases v))
      go (inr v) = record { ring = o.0; at = pl.at; x = x; y = y; spot = p; back = v.0; on = v.1 }

  same_links : {u y : ℕ} → Links c R u y ⊎ Links c R a y → u ≡ a → Links c R a y
  same_links {u} {y} (inl l) e = subst (λ (v : ℕ). Links c R v y) e l
  same_links (inr l) e = l

  -- if c has a built triangle, the place exists
  pub exists : (m n : ℕ) → In c m n B → PlaceOf M R ls a b c
  exists m n j = go (fan_order M c b a m n fan (sub_r c b a c_in) (sub_b c m n j))
    where
      on : (y : ℕ) × (k : ℕ) × Links c (t ∷ R) a y × In c y k B → PlaceOf M R ls a b c
      on r = case_on r.0 r.1 (same_links (links_behind t R a b c once.1 tri r.2) refl) r.3

      front : (x : ℕ) → Links c R x b ⊎ Links c R x b → Links c R x b
      front x (inl l) = l
      front x (inr l) = l

      back : Links c (t ∷ R) n b ⊎ ((x : ℕ) × (k : ℕ) × Links c (t ∷ R) x b × In c k x B) → PlaceOf M R ls a b c
      back (inl l) = case_back n m (front n (links_front t R a b c once.1 tri l)) j
      back (inr r) = case_back r.0 r.1 (front r.0 (links_front t R a b c once.1 tri r.2)) r.3

      go : Links c M a m ⊎ (Links c M n b ⊎ (b ≡ m)) → PlaceOf M R ls a b c
      go (inl l) = on (first_built M (t ∷ R) B c part l j)
      go (inr (inl l)) = back (last_built M (t ∷ R) B c part l)
      go (inr (inr e)) = absurd (apart c b a n c_in (subst (λ (v : ℕ). In c v n B) (sym e) j))
