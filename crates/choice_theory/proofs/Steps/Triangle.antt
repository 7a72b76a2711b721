-- Packing, one triangle: the choice is an operation that the table and the edge rule allow, and what packing keeps holds after it.
-- Assumes nothing.
use Prim.Native.Nat.{ℕ, zero, suc, ◌+◌, ◌≤◌}
use native.Mathlib.Omega.{arith}
use mathlib.Core.Bool.{Bool, true, false, false≢true}
use mathlib.Core.List.{List, [], ◌∷◌, ◌++◌}
use mathlib.Core.Path.{◌≡◌, refl, sym, ap, ◌∙◌, subst}
use mathlib.Core.Logic.{◌⊎◌, inl, inr}
use lib.ListN.{length}
use Rattle.rules.specs.declared.Triangle.{Triangle}
use Rattle.rules.specs.declared.Operation.{Operation}
use Rattle.rules.specs.declared.Operation.TheVariants.{New}
use Rattle.rules.specs.Count.{hit}
use Rattle.rules.specs.Ring.{Node, opened, Ring, vertex, is_open, start_or}
use Rattle.rules.specs.Choice.{choose_place}
use Rattle.mesh_theory.specs.Fans.Corner.{Once}
use Rattle.rules.specs.Fan.{Neighbours}
use Rattle.rules.specs.Triangle.{Rot, at_p, at_q, at_r, In, here, there}
use Rattle.rules.specs.Right.{EdgeIn, OpenAt}
use Rattle.book.specs.Shown.{shown_all}
use Rattle.book.proofs.Shown.{Live}
use Rattle.choice_theory.specs.Spots.{Unused}
use Rattle.choice_theory.proofs.Places.Corners.{Everywhere, Marks, AllMarks, Filled}
use Rattle.choice_theory.proofs.Steps.Surgery.{triangle_at, Surgery, on_new}
use Rattle.choice_theory.proofs.Places.Spots.{seat}
use Rattle.choice_theory.proofs.Steps.Tally.{tally, total, glues_a, glues_b, when, unless}
use Rattle.mesh_theory.proofs.Fans.Corners.{in_next, rot_next}
use Rattle.choice_theory.proofs.Turning.Links.{free_rot}
use Rattle.choice_theory.proofs.Places.Marking.{marks_step}
use Rattle.choice_theory.proofs.Steps.Tallies.{total_step}
use Rattle.choice_theory.proofs.Steps.Legal.{Lawful, counted, hit_zero, legal_step, at_ac, at_cb, glued_ca, glued_bc}
use Rattle.choice_theory.proofs.Places.Standing.{legal_unique, legal_used, at_most_one, is_used}
use Rattle.choice_theory.proofs.Places.Exists.{PlaceOf}
use Rattle.choice_theory.proofs.Steps.Choice.{Packs, choice_place, place, place_allowed}
use Rattle.choice_theory.proofs.Steps.Allowing.{Allowed}
use Rattle.choice_theory.proofs.Steps.Gluing.{glue_a, glue_b}
use Rattle.choice_theory.proofs.Steps.Gaps.{gaps_place, gaps_new}

-- an edge that stands in the rings and has its other side in the model is open somewhere
pub open_edge : (M : List Triangle) (x y first : ℕ) (ps : List Node) → (Unused y x M → ⊥) → Marks M ps first → 1 ≤ tally x y ps first
    → (i : ℕ) × EdgeIn first ps i x y
open_edge M x y first [] n m h = absurd (omega arith)
open_edge M x y first (p ∷ ps) n m h =
    go (λ l. open_edge M x y first ps n m.1 l) (counted x y (vertex p) (start_or first ps)) (is_open p) refl
  where
    go : (1 ≤ tally x y ps first → (i : ℕ) × EdgeIn first ps i x y)
        → ((hit x y (vertex p) (start_or first ps) ≡ 0) × (vertex p ≡ x → start_or first ps ≡ y → ⊥))
        ⊎ ((hit x y (vertex p) (start_or first ps) ≡ 1) × (vertex p ≡ x) × (start_or first ps ≡ y))
        → (t : Bool) → is_open p ≡ t → (i : ℕ) × EdgeIn first (p ∷ ps) i x y
    go ih (inl r) t q = let k = r.0 in let z = ih (omega arith) in (suc z.0, z.1)
    go ih (inr r) true q = (zero, (q, r.1, r.2))
    go ih (inr r) false q = absurd (n (subst (λ (w : ℕ). Unused y w M) r.1 (subst (λ (w : ℕ). Unused w (vertex p) M) r.2 (m.0 q))))

pub open_of_lem : (M : List Triangle) (x y : ℕ) (ls : List Ring) → (Unused y x M → ⊥) → AllMarks M ls → 1 ≤ total x y ls
    → (l : ℕ) × (i : ℕ) × OpenAt ls l i x y
open_of_lem M x y [] n m h = absurd (omega arith)
open_of_lem M x y ([] ∷ ls) n m h = let r = open_of_lem M x y ls n m.1 (omega arith) in (suc r.0, r.1, r.2)
open_of_lem M x y ((p ∷ ps) ∷ ls) n m h = go (λ l. open_of_lem M x y ls n m.1 l) (tally x y (p ∷ ps) (vertex p)) refl
  where
    go : (1 ≤ total x y ls → (l : ℕ) × (i : ℕ) × OpenAt ls l i x y) → (k : ℕ) → tally x y (p ∷ ps) (vertex p) ≡ k
        → (l : ℕ) × (i : ℕ) × OpenAt ((p ∷ ps) ∷ ls) l i x y
    go ih zero q = let r = ih (omega arith) in (suc r.0, r.1, r.2)
    go ih (suc k) q = let r = open_edge M x y (vertex p) (p ∷ ps) n m.0 (omega arith) in (zero, r.0, r.1)

-- all that packing keeps: M the model, R what is left, B what is built, the rings, and the rims that have ended
pub record Keeps (M R B : List Triangle) (ls rims : List Ring) : Type 0 where
  pub once_m : Once M
  pub once : Once R
  pub sub_r : (x y z : ℕ) → In x y z R → In x y z M
  pub sub_b : (x y z : ℕ) → In x y z B → In x y z M
  pub apart : (x y z w : ℕ) → In x y z R → In x y w B → ⊥
  pub part : (x y z : ℕ) → In x y z M → In x y z R ⊎ In x y z B
  pub marks : AllMarks M ls
  pub gaps : Everywhere (Filled M R) ls
  pub legal : (x y : ℕ) → Lawful B (total x y ls + total x y rims) x y
  pub waits : (x y z w : ℕ) → In x y z B → In y x w R → 1 ≤ total x y ls

pub packs : (M R B : List Triangle) (ls rims : List Ring) → Keeps M R B ls rims → Packs M R B ls
packs M R B ls rims k = record {
  state =
      record {
        once_m = k.once_m;
        once = k.once;
        sub_r = k.sub_r;
        sub_b = k.sub_b;
        apart = k.apart;
        used = legal_used B ls rims k.legal;
        unique = legal_unique B ls rims k.legal;
      };
  marks = k.marks;
  part = k.part;
  gaps = k.gaps;
  opens = λ x y z w i j. open_of_lem M x y ls (λ h. h w (k.sub_r y x w j)) k.marks (k.waits x y z w i j);
}

module _ (M R B : List Triangle) (e f : Node) (ps : List Node) (ws ls rims : List Ring) (c : ℕ) (o : Operation)
    (k : Keeps M (triangle_at e f c ∷ R) B ((e ∷ (f ∷ ps)) ∷ ws) rims) (s : Surgery e f ps ws ls c o)
    (rule_a : glues_a o ≡ false → Unused (vertex e) c B × Unused c (vertex e) B)
    (rule_b : glues_b o ≡ false → Unused c (vertex f) B × Unused (vertex f) c B) where
  d : ((vertex f ≡ vertex e) → ⊥) × ((vertex e ≡ c) → ⊥) × ((c ≡ vertex f) → ⊥)
  d = k.once.1

  tri : Rot (triangle_at e f c) (vertex f) (vertex e) c
  tri = at_p refl refl refl

  eqn : (x y : ℕ) → (total x y ls + total x y rims) + hit x y (vertex e) (vertex f) + when (glues_b o) (hit x y (vertex f) c)
      + when (glues_a o) (hit x y c (vertex e))
      ≡ (total x y ((e ∷ (f ∷ ps)) ∷ ws) + total x y rims) + unless (glues_b o) (hit x y c (vertex f))
      + unless (glues_a o) (hit x y (vertex e) c)
  eqn x y = let h = total_step x y e f ps ws ls c o s in omega arith

  ab : vertex e ≡ vertex f → ⊥
  unfolding d
  ab q = d.0 (sym q)

  bc : vertex f ≡ c → ⊥
  unfolding d
  bc q = d.2 (sym q)

  ca : c ≡ vertex e → ⊥
  unfolding d
  ca q = d.1 (sym q)

  no_ca : glues_a o ≡ true → (w : ℕ) → In c (vertex e) w R → ⊥
  no_ca g w j =
      let r =
      glued_ca B (vertex e) (vertex f) c (λ x y. total x y ((e ∷ (f ∷ ps)) ∷ ws) + total x y rims) (λ x y. total x y ls + total x y rims)
      (glues_a o) (glues_b o) eqn rule_a rule_b ab bc ca k.legal g in
      k.apart c (vertex e) w r.1.0 (there j) r.1.1

  no_bc : glues_b o ≡ true → (w : ℕ) → In (vertex f) c w R → ⊥
  no_bc g w j =
      let r =
      glued_bc B (vertex e) (vertex f) c (λ x y. total x y ((e ∷ (f ∷ ps)) ∷ ws) + total x y rims) (λ x y. total x y ls + total x y rims)
      (glues_a o) (glues_b o) eqn rule_a rule_b ab bc ca k.legal g in
      k.apart (vertex f) c w r.1.0 (there j) r.1.1

  stands_ac : (g : Bool) → glues_a o ≡ g → (w : ℕ) → In c (vertex e) w R → 1 ≤ total (vertex e) c ls
  stands_ac true g w j = absurd (no_ca g w j)
  stands_ac false g w j =
      let h =
      at_ac B (vertex e) (vertex f) c (λ x y. total x y ((e ∷ (f ∷ ps)) ∷ ws) + total x y rims) (λ x y. total x y ls + total x y rims)
      (glues_a o) (glues_b o) eqn rule_a rule_b ab bc ca k.legal in
      omega (arith, ap (λ (b : Bool). unless b 1) g)

  stands_cb : (g : Bool) → glues_b o ≡ g → (w : ℕ) → In (vertex f) c w R → 1 ≤ total c (vertex f) ls
  stands_cb true g w j = absurd (no_bc g w j)
  stands_cb false g w j =
      let h =
      at_cb B (vertex e) (vertex f) c (λ x y. total x y ((e ∷ (f ∷ ps)) ∷ ws) + total x y rims) (λ x y. total x y ls + total x y rims)
      (glues_a o) (glues_b o) eqn rule_a rule_b ab bc ca k.legal in
      omega (arith, ap (λ (b : Bool). unless b 1) g)

  when_none : (g : Bool) (n : ℕ) → n ≡ 0 → when g n ≡ 0
  when_none true n h = h
  when_none false n h = refl

  at : (x y w u v : ℕ) → u ≡ x → v ≡ y → In y x w R → In v u w R
  at x y w u v p q i = subst (λ (n : ℕ). In n u w R) (sym q) (subst (λ (n : ℕ). In y n w R) (sym p) i)

  -- an edge whose other side is left stands in the rings
  waits_next : (x y z w : ℕ) → In x y z (triangle_at e f c ∷ B) → In y x w R → 1 ≤ total x y ls
  unfolding tri
  waits_next x y z w (there i) j =
      let h = k.waits x y z w i (there j) in
      let q = total_step x y e f ps ws ls c o s in
      let i1 : hit x y (vertex e) (vertex f) ≡ 0 =
      hit_zero x y (vertex e) (vertex f) (λ u v. free_rot R k.once.0 tri w (at x y w (vertex e) (vertex f) u v j)) in
      let i2 : when (glues_b o) (hit x y (vertex f) c) ≡ 0 =
      when_none (glues_b o) (hit x y (vertex f) c)
      (hit_zero x y (vertex f) c (λ u v. free_rot R k.once.0 (rot_next (rot_next tri)) w (at x y w (vertex f) c u v j))) in
      let i3 : when (glues_a o) (hit x y c (vertex e)) ≡ 0 =
      when_none (glues_a o) (hit x y c (vertex e))
      (hit_zero x y c (vertex e) (λ u v. free_rot R k.once.0 (rot_next tri) w (at x y w c (vertex e) u v j))) in
      omega arith
  waits_next x y z w (here (at_p p q r)) j =
      let u = (legal_used B ((e ∷ (f ∷ ps)) ∷ ws) rims k.legal).0.0.1 in
      absurd (k.apart (vertex e) (vertex f) w u.0 (there (at x y w (vertex f) (vertex e) p q j)) u.1)
  waits_next x y z w (here (at_q p q r)) j =
      subst (λ (n : ℕ). 1 ≤ total x n ls) q
      (subst (λ (n : ℕ). 1 ≤ total n c ls) p (stands_ac (glues_a o) refl w (at x y w (vertex e) c p q j)))
  waits_next x y z w (here (at_r p q r)) j =
      subst (λ (n : ℕ). 1 ≤ total x n ls) q
      (subst (λ (n : ℕ). 1 ≤ total n (vertex f) ls) p (stands_cb (glues_b o) refl w (at x y w c (vertex f) p q j)))

  -- what packing keeps, but for the gaps
  pub keeps_next : Everywhere (Filled M R) ls → Keeps M R (triangle_at e f c ∷ B) ls rims
  unfolding tri
  keeps_next g = record {
    once_m = k.once_m;
    once = k.once.2;
    sub_r = λ x y z i. k.sub_r x y z (there i);
    sub_b = λ x y z i. built x y z i;
    apart = λ x y z w i j. both x y z w i j;
    part = λ x y z i. parts x y z (k.part x y z i);
    marks = marks_step M e f ps ws ls c o s k.marks;
    gaps = g;
    legal = legal_step B e f ps ws ls rims c o s rule_a rule_b ab bc ca k.legal;
    waits = waits_next;
  }
    where
      built : (x y z : ℕ) → In x y z (triangle_at e f c ∷ B) → In x y z M
      built x y z (here r) = k.sub_r x y z (here r)
      built x y z (there i) = k.sub_b x y z i

      both : (x y z w : ℕ) → In x y z R → In x y w (triangle_at e f c ∷ B) → ⊥
      both x y z w i (here r) = free_rot R k.once.0 r z i
      both x y z w i (there j) = k.apart x y z w (there i) j

      parts : (x y z : ℕ) → In x y z (triangle_at e f c ∷ R) ⊎ In x y z B → In x y z R ⊎ In x y z (triangle_at e f c ∷ B)
      parts x y z (inl (here r)) = inr (here r)
      parts x y z (inl (there i)) = inl i
      parts x y z (inr i) = inr (there i)

-- one triangle packed
pub record Packed (M R B : List Triangle) (e f : Node) (ps : List Node) (ws rims : List Ring) (c : ℕ) : Type 0 where
  pub o : Operation
  pub ls : List Ring
  -- the table allows it
  pub does : Surgery e f ps ws ls c o
  -- the edge rule holds: what is not glued is new, its opposite too
  pub rule_a : glues_a o ≡ false → Unused (vertex e) c B × Unused c (vertex e) B
  pub rule_b : glues_b o ≡ false → Unused c (vertex f) B × Unused (vertex f) c B
  pub keeps : Keeps M R (triangle_at e f c ∷ B) ls rims

module _ (M R B : List Triangle) (e f : Node) (ps : List Node) (ws rims : List Ring) (c : ℕ)
    (k : Keeps M (triangle_at e f c ∷ R) B ((e ∷ (f ∷ ps)) ∷ ws) rims) (fan : Neighbours M c) where
  pk : Packs M (triangle_at e f c ∷ R) B ((e ∷ (f ∷ ps)) ∷ ws)
  pk = packs M (triangle_at e f c ∷ R) B ((e ∷ (f ∷ ps)) ∷ ws) rims k

  ac : (z : ℕ) → In (vertex e) c z B → ⊥
  ac z i = k.apart (vertex e) c (vertex f) z (here (at_q refl refl refl)) i

  cb : (z : ℕ) → In c (vertex f) z B → ⊥
  cb z i = k.apart c (vertex f) (vertex e) z (here (at_r refl refl refl)) i

  once_each : (u v : ℕ) → total u v ((e ∷ (f ∷ ps)) ∷ ws) ≤ 1
  once_each u v = let h = at_most_one B _ u v (k.legal u v) in omega arith

  -- c has no built triangle: new
  pub pack_new : ((m n : ℕ) → In c m n B → ⊥) → (p : Packed M R B e f ps ws rims c) × (p.o ≡ New)
  unfolding pk
  pack_new none =
      let s = on_new refl in (
        record {
          o = New;
          ls = (opened c ∷ (f ∷ (ps ++ (opened (vertex e) ∷ [])))) ∷ ws;
          does = s;
          rule_a = r_a;
          rule_b = r_b;
          keeps =
              keeps_next M R B e f ps ws ((opened c ∷ (f ∷ (ps ++ (opened (vertex e) ∷ [])))) ∷ ws) rims c New k s r_a r_b
              (gaps_new M R B e f ps ws c pk fan once_each none (λ u v h. is_used B _ u v (omega arith) (k.legal u v))
              ((opened c ∷ (f ∷ (ps ++ (opened (vertex e) ∷ [])))) ∷ ws) s);
        },
        refl,
      )
    where
      r_a : glues_a New ≡ false → Unused (vertex e) c B × Unused c (vertex e) B
      r_a g = (ac, λ z i. none (vertex e) z i)

      r_b : glues_b New ≡ false → Unused c (vertex f) B × Unused (vertex f) c B
      r_b g = (cb, λ z i. none z (vertex f) (in_next i))

  -- c has a built triangle: the packer's choice is an operation at its place
  pub pack_old : Live ((e ∷ (f ∷ ps)) ∷ ws) → 1 ≤ length ps → (m n : ℕ) → In c m n B
      → (p : Packed M R B e f ps ws rims c) × (choose_place (vertex e) (vertex f) c R (shown_all ((e ∷ (f ∷ ps)) ∷ ws)) ≡ p.o)
  unfolding pk
  pack_old live three m n j = (
    record {
      o = al.o;
      ls = al.ls;
      does = al.does;
      rule_a = r_a;
      rule_b = r_b;
      keeps = keeps_next M R B e f ps ws al.ls rims c al.o k al.does r_a r_b (gaps_place M R B e f ps ws c pk fan once_each pl al);
    },
    choice_place M R B e f ps ws c pk fan live pl ∙ al.names,
  )
    where
      pl : PlaceOf M R ((e ∷ (f ∷ ps)) ∷ ws) (vertex e) (vertex f) c
      pl = place M R B e f ps ws c pk fan m n j

      al : Allowed e f ps ws c pl.ring pl.at (seat pl.spot) pl.x pl.y
      al = place_allowed M R B e f ps ws c pk fan live.0 pl

      r_a : glues_a al.o ≡ false → Unused (vertex e) c B × Unused c (vertex e) B
      r_a g = (ac, λ z i. (let h = glue_a M R B e f ps ws c pk live.0 three pl z i in false≢true (sym g ∙ al.last h.0 h.1)))

      r_b : glues_b al.o ≡ false → Unused c (vertex f) B × Unused (vertex f) c B
      r_b g = (cb, λ z i. (let h = glue_b M R B e f ps ws c pk live.0 three pl z i in false≢true (sym g ∙ al.second h.0 h.1)))
