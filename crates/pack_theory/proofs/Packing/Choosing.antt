-- A packing that is held at a live loop can be chosen from.
-- Assumes nothing.
use Prim.Native.Nat.{ℕ, ◌≤◌, ◌<◌}
use native.Mathlib.Omega.{arith}
use mathlib.Core.Bool.{Bool, true, false, not}
use mathlib.Core.List.{List, [], ◌∷◌}
use mathlib.Core.Path.{◌≡◌, refl, sym, ap, ◌∙◌, subst}
use mathlib.Core.Logic.{◌⊎◌, inl, inr}
use lib.ListN.{length, set, length-append}
use lib.Seq.{get_or-set_same}
use lib.Dec.{leb}
use borrow.Author.Tests.{leb-true}
use Rattle.rules.specs.declared.Triangle.{Triangle}
use Rattle.rules.specs.Across.{Across}
use Rattle.rules.specs.Across.{Found, Nothing}
use Rattle.rules.specs.Limits.{max_places, max_triangles, min_vertices, max_vertices}
use Rattle.rules.specs.Triangle.{triangles_of, In}
use Rattle.rules.specs.Across.{across}
use Rattle.rules.specs.Ring.{Node, Ring, vertex, is_open, reached}
use Rattle.rules.specs.Choice.{Packing}
use Rattle.rules.specs.Right.{OpenAt}
use Rattle.mesh_theory.specs.Fans.Corner.{Once}
use Rattle.mesh_theory.proofs.Fans.Corners.{in_next}
use Rattle.book.specs.Shown.{shown_all}
use Rattle.book.proofs.Shown.{Live, reached_first}
use Rattle.choice_theory.specs.Spots.{Unused, Unique}
use Rattle.choice_theory.proofs.Turning.Ways.{across_some, across_none, look}
use Rattle.choice_theory.proofs.Places.Standing.{legal_used}
use Rattle.choice_theory.proofs.Steps.Triangle.{Keeps, packs}
use Rattle.choice_theory.proofs.Runs.Canonical.{shown_used}
use Rattle.choice_theory.proofs.Places.Showing.{unique_shown}
use Rattle.choice_theory.proofs.Steps.Choice.{Packs}
use Rattle.choice_theory.proofs.Turning.Taking.{corners}
use Rattle.choice_theory.proofs.Steps.Progress.{AllGood, good_live}
use Rattle.choice_theory.proofs.Runs.Accepted.{Packable, accepted_packable}
use Rattle.mesh_theory.specs.Chains.Linked.{Linked}
use Rattle.mesh_theory.proofs.Fans.Checks.{accepted_count}
use Rattle.border_theory.specs.Memory.Stands.{rings_in, loops_in}
use Rattle.cutborder.specs.declared.Course.{Course}
use Rattle.pack_theory.specs.Packing.Numbers.{entries}
use Rattle.pack_theory.specs.Packing.Course.{Holds, start_of, end_of, is_numbered, placed_by, move_by, move_of, FoundNear, Chooses}
use Rattle.pack_theory.proofs.Packing.Numbers.{entries_length}
use Rattle.pack_theory.proofs.Packing.Flags.{found_below, no_found}
use Rattle.pack_theory.proofs.Packing.Reading.{EdgeRead, edge_read, none_live}
use Rattle.counting.proofs.Bools.{and_true}

-- the current full ring
record Shape (ls : List Ring) : Type 0 where
  e : Node
  f : Node
  ps : List Node
  ws : List Ring
  is : ls ≡ (e ∷ (f ∷ ps)) ∷ ws

shape : (ls : List Ring) → AllGood ls → (ls ≡ [] → ⊥) → Shape ls
shape [] g n = absurd (n refl)
shape ([] ∷ ws) g n = absurd g.0
shape ((e ∷ []) ∷ ws) g n = absurd (omega (arith, g.0.1))
shape ((e ∷ (f ∷ ps)) ∷ ws) g n = record { e = e; f = f; ps = ps; ws = ws; is = refl }

found_third : (n k z n' k' z' : ℕ) → Found n k z ≡ Found n' k' z' → z ≡ z'
found_third n k z n' k' z' e = cc

-- a triangle that is found is in the list
found_in_lem : (x y : ℕ) (ts : List Triangle) (n k z : ℕ) → Once ts → across x y ts ≡ Found n k z → In x y z ts
found_in_lem x y ts n k z o h = go (look x y ts)
  where
    go : ((w : ℕ) × In x y w ts) ⊎ Unused x y ts → In x y z ts
    go (inl r) =
        let a = across_some x y r.0 ts o r.1 in
        subst (λ (w : ℕ). In x y w ts) (found_third a.number a.corner r.0 n k z (sym a.found ∙ h)) r.1
    go (inr u) = absurd (no_found n k z (sym (across_none x y ts u) ∙ h))

module _ (v : ℕ) (xs : List ℕ) (s : Packing) (t : Course) (fs ns rest m : List ℕ) (h : Holds v xs s t fs ns rest m) where
  packable : Packable v (triangles_of xs)
  packable = accepted_packable v xs h.accepted

  pub numbers_long : v ≤ length ns
  numbers_long = omega (arith, ap length h.numbers, length-append (entries v s.numbered) rest, entries_length v s.numbered)

  below : (n k c : ℕ) → across (end_of t.front.loops m) (start_of t.front.loops m) (triangles_of xs) ≡ Found n k c → c < v
  below n k c q =
      packable.below c (end_of t.front.loops m) (start_of t.front.loops m)
      (in_next (in_next (found_in_lem (end_of t.front.loops m) (start_of t.front.loops m) (triangles_of xs) n k c packable.once q)))

  placed_below : (b : Bool) (f : List ℕ) (x y c : ℕ) → c < v → (placed_by b xs f m t.front.loops x y c).vertex < v
  placed_below true f x y c l = l
  placed_below false f x y c l = l

  -- the third vertex is one of the model's
  pub move_below : (move_of xs fs ns m t.front.loops).vertex < v
  unfolding move_of
  move_below = go (across (end_of t.front.loops m) (start_of t.front.loops m) (triangles_of xs)) refl
    where
      some : 0 < v
      some = let r = leb-true min_vertices v (and_true (leb min_vertices v) (leb v max_vertices) h.standing.vertices).0 in
          omega (arith, r)

      go : (r : Across) → across (end_of t.front.loops m) (start_of t.front.loops m) (triangles_of xs) ≡ r
          → (move_by xs fs ns m t.front.loops r).vertex < v
      go Nothing q = some
      go (Found n k c) q = placed_below (is_numbered ns c) (set fs n 1) (start_of t.front.loops m) (end_of t.front.loops m) c
          (below n k c q)

  module _ (cs : List ℕ) (linked : Linked xs cs) (live : t.front.loops.live ≡ 0 → ⊥) where
    shaped : Shape h.fits.full
    shaped =
        shape h.fits.full h.fits.good
        (λ e. live (none_live max_places t.front.loops m (rings_in max_places t.front.loops m) h.standing.stands
        (sym h.standing.loops ∙ (h.fits.shows ∙ ap shown_all e))))

    looks : s.loops ≡ (shaped.e ∷ (shaped.f ∷ reached shaped.ps (not (is_open shaped.f)))) ∷ shown_all shaped.ws
    looks = h.fits.shows ∙
        (ap shown_all shaped.is
        ∙ ap (λ (r : List Node). (shaped.e ∷ r) ∷ shown_all shaped.ws) (reached_first shaped.f shaped.ps))

    read : EdgeRead max_places t.front.loops m shaped.e shaped.f (reached shaped.ps (not (is_open shaped.f)))
        (shown_all shaped.ws)
    read =
        edge_read max_places t.front.loops m (rings_in max_places t.front.loops m) h.standing.stands shaped.e shaped.f
        (reached shaped.ps (not (is_open shaped.f))) (shown_all shaped.ws) (sym h.standing.loops ∙ looks)

    before : Keeps s.mesh s.left h.built ((shaped.e ∷ (shaped.f ∷ shaped.ps)) ∷ shaped.ws) h.rims
    before = subst (λ (ls : List Ring). Keeps s.mesh s.left h.built ls h.rims) shaped.is h.fits.keeps

    differ : vertex shaped.f ≡ vertex shaped.e → ⊥
    differ q =
        let u = (legal_used h.built ((shaped.e ∷ (shaped.f ∷ shaped.ps)) ∷ shaped.ws) h.rims before.legal).0.0.1 in
        (corners s.mesh (h.fits.keeps.sub_b _ _ _ u.1) h.fits.keeps.once_m).0 (sym q)

    packs_now : Packs s.mesh s.left h.built h.fits.full
    packs_now = packs s.mesh s.left h.built h.fits.full h.rims h.fits.keeps

    shows : shown_all h.fits.full ≡ loops_in max_places t.front.loops m
    shows = sym h.fits.shows ∙ h.standing.loops

    opens : Live h.fits.full
    opens = good_live h.fits.full h.fits.good

    near_found : (n k c : ℕ) → across (end_of t.front.loops m) (start_of t.front.loops m) (triangles_of xs) ≡ Found n k c
        → FoundNear xs cs fs ns m t.front.loops n c
    near_found n k c q =
        let w : n < length (triangles_of xs) =
        found_below (end_of t.front.loops m) (start_of t.front.loops m) (triangles_of xs) n k c q in
        let fl : n < max_triangles = omega (arith, w, (accepted_count v xs h.accepted).2) in
        record {
          flag = fl;
          entry = omega (arith, below n k c q, numbers_long);
          place =
              record {
                linked = linked;
                stands = h.standing.stands;
                live = omega (arith, live);
                two = omega (arith, read.size);
                unique = subst Unique shows (unique_shown h.fits.full opens packs_now.state.unique);
                edges = λ x y w i o u.
                    (let r =
                    shown_used s.mesh s.left h.built h.fits.full packs_now.state opens x y w i
                    (subst (λ (ls : List Ring). OpenAt ls w i x y) (sym shows) o) in
                    u r.0 (subst (In x y r.0) h.mesh r.1));
                number = n;
                corner = k;
                found = q;
                built = λ z. omega (arith, z, get_or-set_same fs n 1 0 (omega (arith, fl, h.flags)));
              };
        }

    pub chooses : Chooses xs cs fs ns m t.front.loops
    chooses = record {
      linked = linked;
      near_e = omega (arith, read.near_e);
      near_f = omega (arith, read.near_f);
      apart = λ q. differ (sym read.end ∙ q ∙ read.start);
      found = near_found;
    }
