-- One place is right: the place of choice_theory is a right one, and every right one is that place.
-- Assumes nothing.
use Prim.Native.Nat.{ℕ}
use mathlib.Core.List.{List, ◌∷◌}
use mathlib.Core.Path.{◌≡◌, refl, sym, ap, ◌∙◌, subst}
use mathlib.Core.Logic.{◌⊎◌, inl, inr}
use lib.ListN.{length}
use Rattle.rules.specs.declared.Triangle.{Triangle}
use Rattle.rules.specs.Ring.{Node, Ring, vertex}
use Rattle.rules.specs.Choice.{turn_in, turn_out, size_of, following}
use Rattle.rules.specs.Fan.{Neighbours}
use Rattle.book.specs.Shown.{shown_all}
use Rattle.book.proofs.Shown.{Live}
use Rattle.choice_theory.specs.Spots.{Unused, Unique}
use Rattle.choice_theory.proofs.Places.Spots.{Site, seat}
use Rattle.choice_theory.proofs.Steps.Surgery.{triangle_at}
use Rattle.mesh_theory.proofs.Fans.Corners.{rot_next}
use Rattle.choice_theory.proofs.Turning.Links.{free_rot, turn_cases, Jumped}
use Rattle.choice_theory.proofs.Turning.Core.{Blocked, one_way}
use Rattle.choice_theory.proofs.Turning.Cuts.{links_behind, links_front}
use Rattle.choice_theory.proofs.Turning.Ways.{turn_in_lem, turn_out_lem}
use Rattle.choice_theory.proofs.Places.Ends.{spotted_holds, spotted_seen, place_leaving}
use Rattle.choice_theory.proofs.Places.Exists.{Used, PlaceOf}
use Rattle.choice_theory.proofs.Turning.Choice.{open_enter, open_leave}
use Rattle.choice_theory.proofs.Places.Showing.{open_full, unique_shown}
use Rattle.choice_theory.proofs.Runs.Canonical.{State, shown_used}
use Rattle.choice_theory.proofs.Steps.Choice.{Packs}
use Rattle.rules.specs.Right.{Links, stop, link, RightPlace, by_entering, by_leaving, OpenAt}
use Rattle.rules.specs.Triangle.{Rot, at_p, In, here, there}

pub links_map : {c : ℕ} {ts : List Triangle} {x y : ℕ} {us : List Triangle} → ((v w : ℕ) → In c v w ts → In c v w us) → Links c ts x y
    → Links c us x y
links_map g stop = stop
links_map g (link i l) = link (g _ _ i) (links_map g l)

-- M are all triangles, B those built, b a c is not yet built and R are the others
module _ (M R B : List Triangle) (e f : Node) (ps : List Node) (ws : List Ring) (c : ℕ)
    (pk : Packs M (triangle_at e f c ∷ R) B ((e ∷ (f ∷ ps)) ∷ ws)) (live : Live ((e ∷ (f ∷ ps)) ∷ ws)) (fan : Neighbours M c)
    (n : PlaceOf M R ((e ∷ (f ∷ ps)) ∷ ws) (vertex e) (vertex f) c) where
  -- the loops, and the place in them
  abbrev ls : List Ring
  ls = shown_all ((e ∷ (f ∷ ps)) ∷ ws)

  abbrev at : ℕ
  at = seat n.spot

  abbrev a : ℕ
  a = vertex e

  abbrev b : ℕ
  b = vertex f

  st : State M (triangle_at e f c ∷ R) B ((e ∷ (f ∷ ps)) ∷ ws)
  st = pk.state

  tri : Rot (triangle_at e f c) (vertex f) (vertex e) c
  tri = at_p refl refl refl

  in_m : In (vertex f) (vertex e) c M
  in_m = st.sub_r _ _ _ (here tri)

  free_a : Unused (vertex e) c R
  free_a = free_rot R st.once.0 (rot_next tri)

  sub : (x y z : ℕ) → In x y z R → In x y z M
  sub x y z i = st.sub_r x y z (there i)

  -- what is built is not to come
  free : (x y z : ℕ) → In x y z B → Unused x y R
  free x y z i w j = st.apart x y w z (there j) i

  seen : Site M (shown_all ((e ∷ (f ∷ ps)) ∷ ws)) n.ring (seat n.spot) c n.x n.y
  seen = spotted_seen M n.spot pk.marks live

  unique : Unique (shown_all ((e ∷ (f ∷ ps)) ∷ ws))
  unique = unique_shown ((e ∷ (f ∷ ps)) ∷ ws) live st.unique

  used : ((z : ℕ) × In n.x c z B) × ((z : ℕ) × In c n.y z B)
  used = spotted_holds (Used B) n.spot st.used

  entering_open : Links c R n.x (vertex f) → OpenAt (shown_all ((e ∷ (f ∷ ps)) ∷ ws)) n.ring seen.from n.x c
  entering_open w =
      open_enter M R a b c sub in_m free_a st.once_m st.once.2 fan ls unique
      (shown_used M (triangle_at e f c ∷ R) B ((e ∷ (f ∷ ps)) ∷ ws) st live) n.ring at n.x n.y seen w

  leaving_open : Links c R (vertex e) n.y → OpenAt (shown_all ((e ∷ (f ∷ ps)) ∷ ws)) n.ring (seat n.spot) c n.y
  leaving_open w =
      open_leave M R a b c sub in_m free_a st.once_m st.once.2 fan ls unique
      (shown_used M (triangle_at e f c ∷ R) B ((e ∷ (f ∷ ps)) ∷ ws) st live) n.ring at n.x n.y seen w

  -- the open edge x→y is used by what is built
  built : (l i x y : ℕ) → OpenAt (shown_all ((e ∷ (f ∷ ps)) ∷ ws)) l i x y → (z : ℕ) × In x y z B
  built l i x y o =
      let r = open_full ((e ∷ (f ∷ ps)) ∷ ws) live l i x y o in
      (spotted_holds (Used B) (place_leaving ((e ∷ (f ∷ ps)) ∷ ws) l r.0 x y r.1).1 st.used).1

  pub place_right : RightPlace R (shown_all ((e ∷ (f ∷ ps)) ∷ ws)) (vertex e) (vertex f) c n.ring (seat n.spot)
  place_right =
      go (one_way M R a b c sub in_m free_a st.once_m fan n.x used.0.0 n.y st.once.2 (st.sub_b _ _ _ used.0.1)
      (free n.x c used.0.0 used.0.1)
      (λ q. st.apart (vertex e) c (vertex f) used.0.0 (here (rot_next tri)) (subst (λ (v : ℕ). In v c used.0.0 B) q used.0.1))
      n.back n.on)
    where
      go : Links c R n.x (vertex f) ⊎ (Blocked M c R (vertex f) × Links c R (vertex e) n.y) → RightPlace R ls a b c n.ring at
      go (inl w) = by_entering n.x seen.from (entering_open w) seen.next w
      go (inr w) = by_leaving n.y (leaving_open w.1) w.1

  only_entering : (l j x : ℕ) → OpenAt (shown_all ((e ∷ (f ∷ ps)) ∷ ws)) l j x c → Links c R x (vertex f)
      → (l ≡ n.ring) × (following (size_of (shown_all ((e ∷ (f ∷ ps)) ∷ ws)) l) j ≡ seat n.spot)
  only_entering l j x o w = go (turn_cases n.back)
    where
      u : (z : ℕ) × In x c z B
      u = built l j x c o

      end : turn_in (length R) c (vertex f) R ≡ x
      end = turn_in_lem R st.once.2 (free x c u.0 u.1) w

      go : Links c R n.x (vertex f) ⊎ Jumped M c R n.x (vertex f)
          → (l ≡ n.ring) × (following (size_of (shown_all ((e ∷ (f ∷ ps)) ∷ ws)) l) j ≡ seat n.spot)
      go (inl k) =
          let q : n.x ≡ x = sym (turn_in_lem R st.once.2 (free n.x c used.0.0 used.0.1) k) ∙ end in
          let s = unique x c l j n.ring seen.from o (subst (λ (v : ℕ). OpenAt ls n.ring seen.from v c) q (entering_open k)) in
          (s.0, ap (λ (v : ℕ). following (size_of ls v) j) s.0 ∙ (ap (following (size_of ls n.ring)) s.1 ∙ seen.next))
      go (inr k) =
          let q : k.to ≡ x = sym (turn_in_lem R st.once.2 (λ v i. k.back v (sub _ _ _ i)) k.after) ∙ end in
          absurd (k.back u.0 (subst (λ (v : ℕ). In v c u.0 M) (sym q) (st.sub_b _ _ _ u.1)))

  only_leaving : (l i y : ℕ) → OpenAt (shown_all ((e ∷ (f ∷ ps)) ∷ ws)) l i c y → Links c R (vertex e) y
      → (l ≡ n.ring) × (i ≡ seat n.spot)
  only_leaving l i y o w = go (turn_cases n.on)
    where
      u : (z : ℕ) × In c y z B
      u = built l i c y o

      end : turn_out (length R) c (vertex e) R ≡ y
      end = turn_out_lem R st.once.2 free_a (free c y u.0 u.1) w

      go : Links c R (vertex e) n.y ⊎ Jumped M c R (vertex e) n.y → (l ≡ n.ring) × (i ≡ seat n.spot)
      go (inl k) =
          let q : n.y ≡ y = sym (turn_out_lem R st.once.2 free_a (free c n.y used.1.0 used.1.1) k) ∙ end in
          unique c y l i n.ring at o (subst (λ (v : ℕ). OpenAt ls n.ring at c v) q (leaving_open k))
      go (inr k) =
          let q : k.from ≡ y = sym (turn_out_lem R st.once.2 free_a (λ v j. k.out v (sub _ _ _ j)) k.before) ∙ end in
          absurd (k.out u.0 (subst (λ (v : ℕ). In c v u.0 M) (sym q) (st.sub_b _ _ _ u.1)))

  -- turning through the triangle b a c itself reaches it before
  front : {x : ℕ} → Links c (triangle_at e f c ∷ R) x (vertex f) → Links c R x (vertex f)
  unfolding tri
  front {x} w = go (links_front (triangle_at e f c) R a b c st.once.1 tri w)
    where
      go : Links c R x (vertex f) ⊎ Links c R x (vertex f) → Links c R x (vertex f)
      go (inl k) = k
      go (inr k) = k

  behind : {y : ℕ} → Links c (triangle_at e f c ∷ R) (vertex e) y → Links c R (vertex e) y
  unfolding tri
  behind {y} w = go (links_behind (triangle_at e f c) R a b c st.once.1 tri w)
    where
      go : Links c R (vertex e) y ⊎ Links c R (vertex e) y → Links c R (vertex e) y
      go (inl k) = k
      go (inr k) = k

  pub only_right : (l i : ℕ) → RightPlace (triangle_at e f c ∷ R) (shown_all ((e ∷ (f ∷ ps)) ∷ ws)) (vertex e) (vertex f) c l i
      → (l ≡ n.ring) × (i ≡ seat n.spot)
  only_right l i (by_entering x j o q w) = let k = only_entering l j x o (front w) in (k.0, sym q ∙ k.1)
  only_right l i (by_leaving y o w) = only_leaving l i y o (behind w)
