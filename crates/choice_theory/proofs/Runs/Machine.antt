-- A whole run of the machine: each step is the packer's choice.
-- Assumes nothing.
use Prim.Native.Nat.{ℕ, ◌+◌, ◌≤◌}
use native.Mathlib.Omega.{arith}
use mathlib.Core.Bool.{true, false, false≢true}
use mathlib.Core.List.{List, [], ◌∷◌}
use mathlib.Core.Path.{◌≡◌, refl, sym, subst}
use mathlib.Core.Logic.{◌⊎◌, inl, inr}
use Rattle.rules.specs.declared.Triangle.{Triangle}
use Rattle.rules.specs.declared.Operation.{Operation}
use Rattle.rules.specs.declared.Operation.TheVariants.{New, Border, Start}
use Rattle.rules.specs.Across.{Nothing}
use Rattle.rules.specs.Across.{across}
use Rattle.rules.specs.Ring.{Node, opened, Ring, vertex, is_open}
use Rattle.rules.specs.Choice.{choose_place}
use Rattle.mesh_theory.specs.Fans.Corner.{Once}
use Rattle.rules.specs.Fan.{Neighbours}
use Rattle.rules.specs.Triangle.{at_p, at_q, at_r, In, here, there}
use Rattle.book.specs.Shown.{shown_all}
use Rattle.book.proofs.Shown.{Live}
use Rattle.choice_theory.specs.Spots.{Unused}
use Rattle.choice_theory.specs.Full.{with_ring}
use Rattle.choice_theory.proofs.Places.Corners.{AllMarks}
use Rattle.choice_theory.proofs.Steps.Surgery.{triangle_at, after_border, Surgery}
use Rattle.choice_theory.proofs.Steps.Tally.{total, glues_a, glues_b}
use Rattle.choice_theory.proofs.Turning.Links.{free_rot}
use Rattle.choice_theory.proofs.Turning.Ways.{Finds}
use Rattle.choice_theory.proofs.Steps.Legal.{Lawful, legal_step, once_step}
use Rattle.choice_theory.proofs.Places.Standing.{legal_unique, legal_used}
use Rattle.choice_theory.proofs.Places.Marking.{marks_step}
use Rattle.choice_theory.proofs.Runs.Traces.{Trace, t_done, t_start, t_build, t_border, marks_after}
use Rattle.choice_theory.proofs.Steps.Bordering.{with_rim, rim_of, total_border}
use Rattle.choice_theory.proofs.Runs.Canonical.{State, canonical, border_across, next_across}
use Rattle.choice_theory.proofs.Places.Marked.{all_mark, all_le, mark_step, mark_border}
use Rattle.choice_theory.proofs.Steps.First.{legal_first}
use Rattle.counting.proofs.Counts.{hit_yes}

-- the machine's run, from triangles B, ended rims and full rings on, to the end, where M is built; R are the triangles that it builds
pub data Run (M : List Triangle) : List Triangle → List Ring → List Ring → List Operation → List Triangle → Type 0 where
  r_done : {rims : List Ring} → Run M M rims [] [] []
  r_start : {B : List Triangle} {rims : List Ring} {p q r : ℕ} {os : List Operation} {R : List Triangle}
      → ((m n : ℕ) → In p m n B → ⊥) → ((m n : ℕ) → In q m n B → ⊥) → ((m n : ℕ) → In r m n B → ⊥)
      → ((p ≡ q) → ⊥) × ((q ≡ r) → ⊥) × ((r ≡ p) → ⊥)
      → Run M (record { p = p; q = q; r = r } ∷ B) rims ((opened p ∷ (opened q ∷ (opened r ∷ []))) ∷ []) os R
      → Run M B rims [] (Start ∷ os) (record { p = p; q = q; r = r } ∷ R)
  r_build : {B : List Triangle} {rims ws ls : List Ring} {e f : Node} {ps : List Node} {c : ℕ} {o : Operation} {os : List Operation}
      {R : List Triangle}
      → Live ((e ∷ (f ∷ ps)) ∷ ws) → Surgery e f ps ws ls c o
      → (glues_a o ≡ false → Unused (vertex e) c B × Unused c (vertex e) B)
      → (glues_b o ≡ false → Unused c (vertex f) B × Unused (vertex f) c B)
      → ((vertex e ≡ vertex f) → ⊥) × ((vertex f ≡ c) → ⊥) × ((c ≡ vertex e) → ⊥) → (o ≡ New → (m n : ℕ) → In c m n B → ⊥)
      → Run M (triangle_at e f c ∷ B) rims ls os R → Run M B rims ((e ∷ (f ∷ ps)) ∷ ws) (o ∷ os) (triangle_at e f c ∷ R)
  r_border : {B : List Triangle} {rims ws : List Ring} {e f : Node} {ps : List Node} {os : List Operation} {R : List Triangle}
      → is_open e ≡ true
      → Run M B (with_rim (after_border e f ps) (rim_of e f ps) rims) (with_ring (after_border e f ps) ws) os R
      → Run M B rims ((e ∷ (f ∷ ps)) ∷ ws) (Border ∷ os) R

abbrev pub Sound : List Triangle → List Ring → List Ring → Type 0
Sound B rims ls = (x y : ℕ) → Lawful B (total x y ls + total x y rims) x y

pub sound_border : (B : List Triangle) (rims ws : List Ring) (e f : Node) (ps : List Node) → Sound B rims ((e ∷ (f ∷ ps)) ∷ ws)
    → Sound B (with_rim (after_border e f ps) (rim_of e f ps) rims) (with_ring (after_border e f ps) ws)
sound_border B rims ws e f ps l x y =
    subst (λ (n : ℕ). Lawful B n x y) (sym (total_border x y e f ps ws rims (after_border e f ps) refl)) (l x y)

once_first : (B : List Triangle) (p q r : ℕ) → ((m n : ℕ) → In p m n B → ⊥) → ((m n : ℕ) → In q m n B → ⊥) → ((m n : ℕ) → In r m n B → ⊥)
    → ((p ≡ q) → ⊥) × ((q ≡ r) → ⊥) × ((r ≡ p) → ⊥) → Once B → Once (record { p = p; q = q; r = r } ∷ B)
once_first B p q r np nq nr d o = ((λ z i. np q z i, λ z i. nq r z i, λ z i. nr p z i), d, o)

-- what follows for the triangles
pub record Facts (M R B : List Triangle) : Type 0 where
  pub once_m : Once M
  pub once : Once R
  pub sub_r : (x y z : ℕ) → In x y z R → In x y z M
  pub sub_b : (x y z : ℕ) → In x y z B → In x y z M
  pub apart : (x y z w : ℕ) → In x y z R → In x y w B → ⊥

facts_more : (M R B : List Triangle) (t : Triangle) → Once (t ∷ B) → Facts M R (t ∷ B) → Facts M (t ∷ R) B
facts_more M R B t o k = record {
  once_m = k.once_m;
  once = (
    (
      λ z i. k.apart _ _ z _ i (here (at_p refl refl refl)),
      λ z i. k.apart _ _ z _ i (here (at_q refl refl refl)),
      λ z i.
          k.apart _ _ z _ i (here (at_r refl refl refl)),
    ),
    o.1,
    k.once,
  );
  sub_r = sub;
  sub_b = λ x y z i. k.sub_b x y z (there i);
  apart = both;
}
  where
    sub : (x y z : ℕ) → In x y z (t ∷ R) → In x y z M
    sub x y z (here r) = k.sub_b x y z (here r)
    sub x y z (there i) = k.sub_r x y z i

    both : (x y z w : ℕ) → In x y z (t ∷ R) → In x y w B → ⊥
    both x y z w (here r) j = free_rot B o.0 r w j
    both x y z w (there i) j = k.apart x y z w i (there j)

pub nothing_in : {x y z : ℕ} → In x y z [] → ⊥
nothing_in i = elim i [ ]

pub facts : {M B : List Triangle} {rims ls : List Ring} {os : List Operation} {R : List Triangle} → Run M B rims ls os R → Sound B rims ls
    → Once B → Facts M R B
facts r_done l o = record
    { once_m = o; once = tt; sub_r = λ x y z i. absurd (nothing_in i); sub_b = λ x y z i. i; apart = λ x y z w i j. nothing_in i }
facts {M} {B} (r_start {rims = rims} {p = p} {q = q} {r = r} {R = R} np nq nr d run) l o =
    facts_more M R B (record { p = p; q = q; r = r }) (once_first B p q r np nq nr d o)
    (facts run (legal_first B rims p q r d np nq nr l) (once_first B p q r np nq nr d o))
facts {M} {B} (r_build {rims = rims} {ws = ws} {ls = ls} {e = e} {f = f} {ps = ps} {c = c} {o = op} {R = R} v s ra rb d new run) l o =
    facts_more M R B (triangle_at e f c) (once_step B e f ps ws ls rims c op s ra rb d.0 d.1 d.2 l o)
    (facts run (legal_step B e f ps ws ls rims c op s ra rb d.0 d.1 d.2 l)
    (once_step B e f ps ws ls rims c op s ra rb d.0 d.1 d.2 l o))
facts {M} {B} (r_border {rims = rims} {ws = ws} {e = e} {f = f} {ps = ps} v run) l o = facts run (sound_border B rims ws e f ps l) o

-- a marked edge has no other side in the end
pub stays : {M B : List Triangle} {rims ls : List Ring} {os : List Operation} {R : List Triangle} → Run M B rims ls os R → Sound B rims ls
    → (x y : ℕ) → 1 ≤ all_mark x y ls + all_mark x y rims → Unused y x M
stays {M} (r_done {rims = rims}) l x y h = go (l x y)
  where
    go : Lawful M (total x y [] + total x y rims) x y → Unused y x M
    go (inl e) = let k = all_le x y rims in absurd (omega arith)
    go (inr e) = e.2
stays {M} {B} (r_start {rims = rims} {p = p} {q = q} {r = r} np nq nr d run) l x y h =
    stays run (legal_first B rims p q r d np nq nr l) x y (omega arith)
stays {M} {B} (r_build {rims = rims} {ws = ws} {ls = ls} {e = e} {f = f} {ps = ps} {c = c} {o = op} v s ra rb d new run) l x y h =
    let m = mark_step x y e f ps ws ls c op v.0 s in
    stays run (legal_step B e f ps ws ls rims c op s ra rb d.0 d.1 d.2 l) x y (omega arith)
stays {M} {B} (r_border {rims = rims} {ws = ws} {e = e} {f = f} {ps = ps} v run) l x y h =
    let m = mark_border x y e f ps ws rims v (after_border e f ps) refl in stays run (sound_border B rims ws e f ps l) x y (omega arith)

border_free : {M B : List Triangle} (rims ws : List Ring) {os : List Operation} {R : List Triangle} (e f : Node) (ps : List Node)
    → is_open e ≡ true
    → Run M B (with_rim (after_border e f ps) (rim_of e f ps) rims) (with_ring (after_border e f ps) ws) os R
    → Sound B rims ((e ∷ (f ∷ ps)) ∷ ws) → Unused (vertex f) (vertex e) M
border_free {M} {B} rims ws e f ps v run l =
    let m = mark_border (vertex e) (vertex f) e f ps ws rims v (after_border e f ps) refl in
    let o = hit_yes (vertex e) (vertex f) in
    stays run (sound_border B rims ws e f ps l) (vertex e) (vertex f) (omega arith)

-- the run as a trace
pub trace : {M B : List Triangle} {rims ls : List Ring} {os : List Operation} {R : List Triangle} → Run M B rims ls os R → Sound B rims ls
    → Trace M ls os R
trace r_done l = t_done
trace {M} {B} (r_start {rims = rims} {p = p} {q = q} {r = r} np nq nr d run) l = t_start (trace run (legal_first B rims p q r d np nq nr l))
trace {M} {B} (r_build {rims = rims} {ws = ws} {ls = ls} {e = e} {f = f} {ps = ps} {c = c} {o = op} v s ra rb d new run) l =
    t_build s (trace run (legal_step B e f ps ws ls rims c op s ra rb d.0 d.1 d.2 l))
trace {M} {B} (r_border {rims = rims} {ws = ws} {e = e} {f = f} {ps = ps} v run) l =
    t_border (border_free rims ws e f ps v run l) (trace run (sound_border B rims ws e f ps l))

-- Every step of the run is the packer's choice, if it packs the list `mesh`: the look-up across the current edge finds the triangle
-- built next; its third vertex c has no triangle yet and the operation is new, or it has one and the place of c is the one chosen.
abbrev pub Choices : (mesh : List Triangle) {M B : List Triangle} {rims ls : List Ring} {os : List Operation} {R : List Triangle}
    → Run M B rims ls os R → Type 0
Choices mesh r_done = Unit {0}
Choices mesh (r_start np nq nr d run) = Choices mesh run
Choices mesh (r_build {B = B} {ws = ws} {e = e} {f = f} {ps = ps} {c = c} {o = o} {R = R} v s ra rb d new run) =
    Finds (vertex f) (vertex e) c mesh
    × (((o ≡ New) × ((m n : ℕ) → In c m n B → ⊥))
    ⊎ ((choose_place (vertex e) (vertex f) c R (shown_all ((e ∷ (f ∷ ps)) ∷ ws)) ≡ o) × ((m : ℕ) × (n : ℕ) × In c m n B)))
    × Choices mesh run
Choices mesh (r_border {e = e} {f = f} {R = R} v run) = (across (vertex f) (vertex e) mesh ≡ Nothing) × Choices mesh run

state_of : (M R B : List Triangle) (ls rims : List Ring) → Facts M R B → Sound B rims ls → State M R B ls
state_of M R B ls rims k l = record {
  once_m = k.once_m;
  once = k.once;
  sub_r = k.sub_r;
  sub_b = k.sub_b;
  apart = k.apart;
  used = legal_used B ls rims l;
  unique = legal_unique B ls rims l;
}

-- mesh has the triangles of M
module _ (M mesh : List Triangle) (once : Once mesh) (all : (x y z : ℕ) → In x y z M → In x y z mesh)
    (only : (x y z : ℕ) → In x y z mesh → In x y z M)
    (fan : (c : ℕ) → Neighbours M c) where
  pub canonical_run : {B : List Triangle} {rims ls : List Ring} {os : List Operation} {R : List Triangle} (run : Run M B rims ls os R)
      → Sound B rims ls → Once B → AllMarks M ls → Choices mesh run
  canonical_run r_done l o m = tt
  canonical_run {B} (r_start {rims = rims} {p = p} {q = q} {r = r} np nq nr d run) l o m =
      canonical_run run (legal_first B rims p q r d np nq nr l) (once_first B p q r np nq nr d o)
      ((unmarked, (unmarked, (unmarked, tt))), tt)
    where
      unmarked : {A : Type 0} → true ≡ false → A
      unmarked h = absurd (false≢true (sym h))
  canonical_run {B} (r_build {rims = rims} {ws = ws} {ls = ls} {e = e} {f = f} {ps = ps} {c = c} {o = op} {os = os} {R = R} v s ra rb d new
      run) l o m =
      let l' = legal_step B e f ps ws ls rims c op s ra rb d.0 d.1 d.2 l in
      let o' = once_step B e f ps ws ls rims c op s ra rb d.0 d.1 d.2 l o in
      let st = state_of M (triangle_at e f c ∷ R) B ((e ∷ (f ∷ ps)) ∷ ws) rims (facts_more M R B (triangle_at e f c) o' (facts run l' o')) l
      in (
        next_across M R B e f ps ws ls c op os s (trace run l') v m st (fan c) mesh once all,
        told (canonical M R B e f ps ws ls c op os s (trace run l') v m st (fan c)),
        canonical_run run l' o' (marks_step M e f ps ws ls c op s m),
      )
    where
      told : (op ≡ New) ⊎ ((choose_place (vertex e) (vertex f) c R (shown_all ((e ∷ (f ∷ ps)) ∷ ws)) ≡ op)
          × ((j : ℕ) × (n : ℕ) × In c j n B))
          → ((op ≡ New) × ((j n : ℕ) → In c j n B → ⊥))
          ⊎ ((choose_place (vertex e) (vertex f) c R (shown_all ((e ∷ (f ∷ ps)) ∷ ws)) ≡ op) × ((j : ℕ) × (n : ℕ) × In c j n B))
      told (inl h) = inl (h, new h)
      told (inr h) = inr h
  canonical_run {B} (r_border {rims = rims} {ws = ws} {e = e} {f = f} {ps = ps} {R = R} v run) l o m =
      let n = border_free rims ws e f ps v run l in
      let l' = sound_border B rims ws e f ps l in
      (border_across M mesh (vertex e) (vertex f) only n, canonical_run run l' o (marks_after M e f ps ws n m))

  -- from the empty book
  pub canonical_all : {os : List Operation} {R : List Triangle} (run : Run M [] [] [] os R) → Choices mesh run
  canonical_all run = canonical_run run (λ x y. inl refl) tt tt
