-- Claim 1 of the packer's choice: at each step one place is right, and the operation for it is chosen, allowed and within the edge rule.
-- Assumes nothing.
use Prim.Native.Nat.{ℕ, suc}
use native.Mathlib.Omega.{arith}
use mathlib.Core.Bool.{Bool, true, false, not}
use mathlib.Core.List.{List, [], ◌∷◌}
use mathlib.Core.Path.{◌≡◌, refl, sym, ap, ◌∙◌, subst}
use mathlib.Core.Logic.{◌⊎◌, inl, inr}
use lib.ListN.{length, drop, get_or}
use lib.Dec.{leb}
use Rattle.rules.specs.declared.Triangle.{Triangle}
use Rattle.rules.specs.declared.Operation.{Operation}
use Rattle.rules.specs.declared.Operation.TheVariants.{New}
use Rattle.rules.specs.Across.{Found}
use Rattle.rules.specs.Triangle.{tri, triangles_of, In}
use Rattle.rules.specs.Across.{across}
use Rattle.rules.specs.Ring.{Node, Ring, vertex, is_open, start_or, reached, places, loop_at}
use Rattle.rules.specs.Table.{glued, builds, at_edge, effect, edge_rule}
use Rattle.rules.specs.Choice.{Packing, Next, refuses, takes, has, operation_for, choose_place, packing_after, limited, choose}
use Rattle.rules.specs.Choice.{after_current}
use Rattle.rules.specs.Pack.{Most}
use Rattle.mesh_theory.specs.Fans.Corner.{Once}
use Rattle.rules.specs.Fan.{Neighbours}
use Rattle.book.specs.Shown.{shown_all}
use Rattle.book.proofs.Shown.{Live, reached_first}
use Rattle.book.proofs.Parts.{building_of}
use Rattle.choice_theory.specs.Spots.{Unused}
use Rattle.choice_theory.specs.Full.{new_numbers}
use Rattle.choice_theory.proofs.Places.Spots.{seat}
use Rattle.choice_theory.proofs.Steps.Surgery.{triangle_at}
use Rattle.choice_theory.proofs.Steps.Tally.{glues_a, glues_b, side_of, unions_of}
use Rattle.choice_theory.proofs.Turning.Links.{once_func}
use Rattle.choice_theory.proofs.Turning.Ways.{others, others_sub, across_some, across_none, look}
use Rattle.choice_theory.proofs.Turning.Dropping.{drop_others}
use Rattle.choice_theory.proofs.Places.Exists.{PlaceOf}
use Rattle.choice_theory.proofs.Steps.Allowing.{Allowed}
use Rattle.choice_theory.proofs.Steps.Choice.{Packs, choice_place, place, place_allowed}
use Rattle.choice_theory.proofs.Steps.Rules.{rule_of}
use Rattle.choice_theory.proofs.Steps.Triangle.{Keeps, packs, Packed, pack_old}
use Rattle.choice_theory.proofs.Steps.Bordering.{border_free}
use Rattle.choice_theory.proofs.Turning.Taking.{out, keeps_take}
use Rattle.choice_theory.proofs.Steps.Progress.{AllGood, good_live}
use Rattle.choice_theory.proofs.Steps.Effects.{allows, allows_any}
use Rattle.choice_theory.proofs.Steps.Choosing.{Fits, GoesOn, choose_old, no_new, choose_step}
use Rattle.choice_theory.proofs.Runs.Whole.{choose_ended, fits_begin}
use Rattle.choice_theory.proofs.Runs.Accepted.{Packable, accepted_packable}
use Rattle.roundtrip.specs.Run.{Reached, begins, goes_on}
use Rattle.rules.specs.Right.{RightPlace, by_entering, by_leaving}
use Rattle.roundtrip.specs.Claims.{Built, RightChoice, OnePlaceIsRight}
use Rattle.roundtrip.proofs.Places.{links_map, place_right, only_right}

-- an operation that is taken is the one that the packer goes on with
taken_is : (o o' : Operation) (s s' : Packing) → limited o s ≡ takes o' s' → s' ≡ s
unfolding limited
taken_is o o' s s' = go (leb (places s.loops) s.limit_places) (leb (length s.loops) s.limit_loops)
  where
    go : (u v : Bool) → ◌≡◌ {A = Next} (elim u [ true ↦ elim v [ true ↦ takes o s | false ↦ refuses 10 ] | false ↦ refuses 9 ])
        (takes o' s') → s' ≡ s
    go true true e = cc
    go true false e = let z : ◌≡◌ {A = ℕ} 0 1 = cc in absurd (omega arith)
    go false v e = let z : ◌≡◌ {A = ℕ} 0 1 = cc in absurd (omega arith)

-- what packing keeps holds of each packing that is reached
pub record Holds (ts : List Triangle) (s : Packing) : Type 0 where
  pub built : List Triangle
  pub rims : List Ring
  pub fits : Fits s built rims
  pub mesh : s.mesh ≡ ts

holds_next : (ts : List Triangle) (s s' : Packing) (o : Operation) → ((c : ℕ) → Neighbours ts c) → Holds ts s → choose s ≡ takes o s'
    → Holds ts s'
holds_next ts s s' o fan k e =
    go (choose_step s k.built k.rims k.fits (subst (λ (M : List Triangle). (c : ℕ) → Neighbours M c) (sym k.mesh) fan))
  where
    go : ((s.loops ≡ []) × (s.left ≡ []) × (k.fits.full ≡ [])) ⊎ GoesOn s k.fits.full k.built k.rims → Holds ts s'
    go (inl h) = let f = sym (choose_ended s h.0 h.1) ∙ e in let z : ◌≡◌ {A = ℕ} 0 1 = cc in absurd (omega arith)
    go (inr g) =
        let q : s' ≡ g.after = taken_is g.o o g.after s' (sym g.chooses ∙ e) in
        subst (Holds ts) (sym q) (record { built = g.built_after_lem; rims = g.rims_after; fits = g.fits; mesh = g.mesh ∙ k.mesh })

pub holds : (h : Most) (ts : List Triangle) (s : Packing) → Once ts → ((c : ℕ) → Neighbours ts c) → Reached h ts s → Holds ts s
holds h ts s o fan begins = record { built = []; rims = []; fits = fits_begin h ts o; mesh = refl }
holds h ts s o fan (goes_on {s = s₀} {o = op} r e) = holds_next ts s₀ s op fan (holds h ts s₀ o fan r) e

right_map : {a b c l i : ℕ} {ls : List Ring} {ts us : List Triangle} → ((v w : ℕ) → In c v w ts → In c v w us) → RightPlace ts ls a b c l i
    → RightPlace us ls a b c l i
right_map g (by_entering x j o q w) = by_entering x j o q (links_map g w)
right_map g (by_leaving y o w) = by_leaving y o (links_map g w)

-- the operation for a place never gives a number
module _ (s : Packing) (B : List Triangle) (rims : List Ring) (fit : Fits s B rims) (fan : (c : ℕ) → Neighbours s.mesh c) (e f : Node)
    (ps : List Node) (ws : List Ring)
    (at : fit.full ≡ (e ∷ (f ∷ ps)) ∷ ws) (c m k : ℕ) (found : across (vertex f) (vertex e) s.mesh ≡ Found m k c)
    (old : has c s.numbered ≡ true) where
  abbrev a : ℕ
  a = vertex e

  abbrev b : ℕ
  b = vertex f

  abbrev full : List Ring
  full = (e ∷ (f ∷ ps)) ∷ ws

  -- the packing's loops
  abbrev ls : List Ring
  ls = shown_all ((e ∷ (f ∷ ps)) ∷ ws)

  looks : s.loops ≡ shown_all ((e ∷ (f ∷ ps)) ∷ ws)
  looks = fit.shows ∙ ap shown_all at

  first : shown_all ((e ∷ (f ∷ ps)) ∷ ws) ≡ (e ∷ (f ∷ reached ps (not (is_open f)))) ∷ shown_all ws
  first = ap (λ (r : List Node). (e ∷ r) ∷ shown_all ws) (reached_first f ps)

  keeps : Keeps s.mesh s.left B ((e ∷ (f ∷ ps)) ∷ ws) rims
  keeps = subst (λ (l : List Ring). Keeps s.mesh s.left B l rims) at fit.keeps

  good : AllGood ((e ∷ (f ∷ ps)) ∷ ws)
  good = subst AllGood at fit.good

  live : Live ((e ∷ (f ∷ ps)) ∷ ws)
  live = good_live ((e ∷ (f ∷ ps)) ∷ ws) good

  in_mesh : In (vertex f) (vertex e) c s.mesh
  in_mesh = go (look b a s.mesh)
    where
      go : ((z : ℕ) × In (vertex f) (vertex e) z s.mesh) ⊎ Unused (vertex f) (vertex e) s.mesh → In (vertex f) (vertex e) c s.mesh
      go (inl i) =
          let w = across_some b a i.0 s.mesh fit.keeps.once_m i.1 in
          let q = sym w.found ∙ found in
          let z : i.0 ≡ c = cc in
          subst (λ (v : ℕ). In (vertex f) (vertex e) v s.mesh) z i.1
      go (inr u) = let q = sym (across_none b a s.mesh u) ∙ found in let z : ◌≡◌ {A = ℕ} 0 1 = cc in absurd (omega arith)

  i : In (vertex f) (vertex e) c s.left
  i = go (look b a s.left)
    where
      go : ((z : ℕ) × In (vertex f) (vertex e) z s.left) ⊎ Unused (vertex f) (vertex e) s.left → In (vertex f) (vertex e) c s.left
      go (inl j) =
          subst (λ (v : ℕ). In (vertex f) (vertex e) v s.left)
          (once_func s.mesh fit.keeps.once_m (fit.keeps.sub_r _ _ _ j.1) in_mesh) j.1
      go (inr u) = absurd (border_free s.mesh s.left B e f ps ws rims keeps u c in_mesh)

  abbrev R : List Triangle
  R = others i

  kept : Keeps s.mesh (triangle_at e f c ∷ R) B ((e ∷ (f ∷ ps)) ∷ ws) rims
  kept = keeps_take s.mesh s.left B full rims b a c i keeps

  pk : Packs s.mesh (triangle_at e f c ∷ R) B ((e ∷ (f ∷ ps)) ∷ ws)
  pk = packs s.mesh (triangle_at e f c ∷ R) B full rims kept

  met : (x : ℕ) × (y : ℕ) × In c x y B
  met = fit.numbers.met c old

  pl : PlaceOf s.mesh R ((e ∷ (f ∷ ps)) ∷ ws) (vertex e) (vertex f) c
  pl = place s.mesh R B e f ps ws c pk (fan c) met.0 met.1 met.2

  al : Allowed e f ps ws c pl.ring pl.at (seat pl.spot) pl.x pl.y
  al = place_allowed s.mesh R B e f ps ws c pk (fan c) live.0 pl

  chosen : choose_place (vertex e) (vertex f) c R (shown_all ((e ∷ (f ∷ ps)) ∷ ws)) ≡ al.o
  chosen = choice_place s.mesh R B e f ps ws c pk (fan c) live pl ∙ al.names

  named : operation_for (after_current s.loops) pl.ring (seat pl.spot) ≡ al.o
  unfolding loop_at
  named = ap (λ (l : List Ring). operation_for (after_current l) pl.ring (seat pl.spot)) looks ∙ al.names

  never_new : al.o ≡ New → ⊥
  never_new q =
      let z : new_numbers al.o ≡ 0 = ap new_numbers (sym chosen) ∙ no_new a b c R ls in
      let y : new_numbers al.o ≡ 1 = ap new_numbers q in
      omega arith

  no_numbers : new_numbers al.o ≡ 0
  no_numbers = ap new_numbers (sym chosen) ∙ no_new a b c R ls

  packed : Packed s.mesh R B e f ps ws rims c
  packed = (pack_old s.mesh R B e f ps ws rims c kept (fan c) live (let h = good.0.1 in omega arith) met.0 met.1 met.2).0

  same_o : packed.o ≡ al.o
  unfolding packed
  same_o = sym (pack_old s.mesh R B e f ps ws rims c kept (fan c) live (let h = good.0.1 in omega arith) met.0 met.1 met.2).1
      ∙ chosen

  -- the edge rule, of any list of what is built
  rules : (C : List Triangle) → Built s C
      → edge_rule (tri (vertex f) (vertex e) c) glued (side_of (glues_a al.o)) (side_of (glues_b al.o)) C ≡ true
  rules C h =
      rule_of (tri b a c) (glues_a al.o) (glues_b al.o) C
      (record {
        apart = kept.once.1;
        rule_a = λ g. (let r = packed.rule_a (ap glues_a same_o ∙ g) in (none a c r.0, none c a r.1));
        rule_b = λ g. (let r = packed.rule_b (ap glues_b same_o ∙ g) in (none c b r.0, none b c r.1));
      })
    where
      none : (x y : ℕ) → Unused x y B → Unused x y C
      none x y u z j = let w = (h x y z).0 j in go (fit.keeps.part x y z w.0) w.1
        where
          go : In x y z s.left ⊎ In x y z B → (In x y z s.left → ⊥) → ⊥
          go (inl l) n = n l
          go (inr l) n = u z l

  abbrev after : Packing
  after = packing_after s R s.numbered (shown_all al.ls)

  chooses : choose s ≡ limited (operation_for (after_current s.loops) pl.ring (seat pl.spot)) after
  chooses =
      choose_old s e f (reached ps (not (is_open f))) (shown_all ws) (shown_all al.ls) R al.o c m k (looks ∙ first) found
      (drop_others b a c s.left i fit.keeps.once) old
      (ap (choose_place a b c R) (sym first) ∙ chosen)
      (ap (λ (r : List Node). at_edge al.o c a r (shown_all ws)) (sym (reached_first f ps))
      ∙ allows al.o e f ps ws al.ls c live.1 al.does)
      ∙ ap (λ (o : Operation). limited o after) (sym named)

  allowed : (u : ℕ) → effect (operation_for (after_current s.loops) pl.ring (seat pl.spot)) u s.loops
      ≡ builds (building_of (shown_all al.ls) (tri (vertex f) (vertex e) c) glued (side_of (glues_a al.o)) (side_of (glues_b al.o)) 0 0
      (unions_of al.o))
  unfolding effect
  allowed u =
      ap (λ (o : Operation). effect o u s.loops) named
      ∙ (ap (effect al.o u) looks
      ∙ (allows_any al.o u e f ps ws al.ls c live.1 al.does (λ q. absurd (never_new q))
      ∙ ap (λ (j : ℕ). builds (building_of (shown_all al.ls) (tri b a c) glued (side_of (glues_a al.o)) (side_of (glues_b al.o)) j 0
      (unions_of al.o))) no_numbers))

  pub right_choice : RightChoice s (vertex e) (vertex f) c
  right_choice = record {
    loop = pl.ring;
    place = seat pl.spot;
    right =
        subst (λ (l : List Ring). RightPlace s.left l a b c pl.ring (seat pl.spot)) (sym looks)
        (right_map (λ v w j. others_sub i j) (place_right s.mesh R B e f ps ws c pk live (fan c) pl));
    no_other = λ l j w. only_right s.mesh R B e f ps ws c pk live (fan c) pl l j
        (right_map (λ v x h. out i h) (subst (λ (q : List Ring). RightPlace s.left q a b c l j) looks w));
    after = after;
    chooses = chooses;
    q_r = side_of (glues_a al.o);
    r_p = side_of (glues_b al.o);
    unions = unions_of al.o;
    allowed = allowed;
    edge_rule_lem = rules;
  }

pub one_place_is_right : OnePlaceIsRight
one_place_is_right h v xs acc s r e ps ws l n k c found old = go w.fits.full refl
  where
    ok : Packable v (triangles_of xs)
    ok = accepted_packable v xs acc

    w : Holds (triangles_of xs) s
    w = holds h (triangles_of xs) s ok.once ok.fans r

    -- the full rings of which the loops are shown
    go : (full : List Ring) → w.fits.full ≡ full → RightChoice s (vertex e) (start_or (vertex e) ps) c
    go [] q = let z : 0 ≡ suc (length ws) = ap length (ap shown_all (sym q) ∙ (sym w.fits.shows ∙ l)) in absurd (omega arith)
    go ([] ∷ vs) q = absurd (subst AllGood q w.fits.good).0
    go ((e' ∷ []) ∷ vs) q = let z = (subst AllGood q w.fits.good).0.1 in absurd (omega arith)
    go ((e' ∷ (f ∷ qs)) ∷ vs) q =
        let same : (e ∷ ps) ∷ ws ≡ (e' ∷ reached (f ∷ qs) false) ∷ shown_all vs = sym l ∙ (w.fits.shows ∙ ap shown_all q) in
        let x : vertex e ≡ vertex e' = ap (λ (k : List Ring). vertex (get_or (get_or k 0 []) 0 e)) same in
        let y : start_or (vertex e) ps ≡ vertex f =
        ap (λ (k : List Ring). start_or (vertex e) (drop 1 (get_or k 0 []))) same ∙ ap (start_or (vertex e)) (reached_first f qs) in
        subst (λ (b : ℕ). RightChoice s (vertex e) b c) (sym y)
        (subst (λ (a : ℕ). RightChoice s a (vertex f) c) (sym x)
        (right_choice s w.built w.rims w.fits (subst (λ (M : List Triangle). (x : ℕ) → Neighbours M x) (sym w.mesh) ok.fans)
        e' f qs vs q c n k
        (subst (λ (b : ℕ). across b (vertex e') s.mesh ≡ Found n k c) y
        (subst (λ (a : ℕ). across (start_or (vertex e) ps) a s.mesh ≡ Found n k c) x found)) old))
