-- Every operation that is decided leaves the records tidy.
-- Assumes nothing.
use Prim.Native.Nat.{ℕ}
use mathlib.Core.Bool.{Bool, true, false}
use mathlib.Core.List.{List}
use mathlib.Core.Path.{◌≡◌, refl, sym, subst}
use lib.Dec.{eqb}
use borrow.Author.Tests.{eqb-false}
use Rattle.rules.specs.declared.Operation.{Operation}
use Rattle.rules.specs.declared.Operation.TheVariants.{New, Forward, Backward, Border, Split, Close, Union, Start}
use Rattle.rules.specs.Ring.{Ring}
use Rattle.rules.specs.Machine.{Machine}
use Rattle.book.specs.Consistent.{Ranges}
use Rattle.book.specs.Sums.{placed}
use Rattle.cutborder.specs.declared.Loops.{Loops}
use Rattle.cutborder.specs.declared.Front.{Front}
use Rattle.cutborder.specs.declared.Plan.{Plan}
use Rattle.border_theory.specs.Memory.Decision.{Decided}
use Rattle.cutborder.specs.declared.Action.TheVariants.{Builds, Marks}
use Rattle.std.specs.Prelude.{Err, Ok}
use Rattle.border_theory.specs.Memory.Stands.{rings_in}
use Rattle.border_theory.specs.Memory.Moves.{marked_held}
use Rattle.border_theory.specs.Memory.Decision.{new_plan, forward_plan, backward_plan, split_plan, close_plan, union_plan, allowed_if}
use Rattle.border_theory.specs.Memory.Decision.{rest_proposed, edge_proposed, proposed_by, proposed, room_for, decided_by, decided}
use Rattle.border_theory.specs.Memory.Decision.{held_after, built_front, marked_front}
use Rattle.border_theory.specs.Memory.Keeps.{Keeps, Ready, BuildsIt, MarksIt}
use Rattle.border_theory.specs.Memory.Touched.{taken_by, touched_by, NoneOf, Tidy}
use Rattle.border_theory.proofs.Memory.Performing.{chosen, never}
use Rattle.border_theory.proofs.Memory.Performed.{place_in, performs}
use Rattle.border_theory.proofs.Memory.Ready.{ready_borders}
use Rattle.border_theory.proofs.Memory.Next.{decides_as, no_mark, no_mark_built, no_mark_room, no_mark_rest, marks_live}
use Rattle.border_theory.proofs.Memory.Touching.{touches}
use Rattle.border_theory.proofs.Memory.Vertices.{names}
use Rattle.border_theory.proofs.Memory.Around.{untouched_edge, current_in}
use Rattle.border_theory.proofs.Memory.Balance.{moves, balance, all_taken_free, takes_or_leaves}

-- with no live loop only a start is decided
rest_inside : (n : ℕ) (l : Loops) (m : List ℕ) (u : ℕ) (o : Operation) (p : Plan) → rest_proposed u o ≡ Ok (Builds p) → (i : ℕ)
    → NoneOf i (taken_by n l m o) → NoneOf i (touched_by n l m o p.place)
rest_inside n l m u New p e i d = absurd (never _ p e)
rest_inside n l m u Forward p e i d = absurd (never _ p e)
rest_inside n l m u Backward p e i d = absurd (never _ p e)
rest_inside n l m u Border p e i d = absurd (never _ p e)
rest_inside n l m u (Split j) p e i d = absurd (never _ p e)
rest_inside n l m u Close p e i d = absurd (never _ p e)
rest_inside n l m u (Union k j) p e i d = absurd (never _ p e)
rest_inside n l m u Start p e i d = d

module _ (n : ℕ) (s : Front) (m : List ℕ) (o : Operation) (p : Plan) (r : Ready n s m) (e : decided n s m o ≡ Ok (Builds p)) where
  inside_by : (t : Bool) → eqb s.loops.live 0 ≡ t → proposed_by t n s.loops m s.used o ≡ Ok (Builds p) → (i : ℕ)
      → placed i (rings_in n s.loops m) ≡ 0 → NoneOf i (taken_by n s.loops m o) → NoneOf i (touched_by n s.loops m o p.place)
  inside_by true z b i out d = rest_inside n s.loops m s.used o p b i d
  inside_by false z b i out d =
      let rs : List Ring = rings_in n s.loops m in
      untouched_edge n s.loops m rs r.stands (current_in n s.loops m rs r.stands (eqb-false s.loops.live 0 z)) i out o
      p.place
      (place_in n s m o p r e) d

  inside : (i : ℕ) → placed i (rings_in n s.loops m) ≡ 0 → NoneOf i (taken_by n s.loops m o)
      → NoneOf i (touched_by n s.loops m o p.place)
  unfolding decided proposed
  inside = inside_by (eqb s.loops.live 0) refl (chosen n s (proposed n s m o) p e).is

-- a planned triangle
pub built_tidy : (n : ℕ) (s : Front) (m : List ℕ) (M : Machine) (o : Operation) → Keeps n s m M → Ranges M → Ready n s m → (p : Plan)
    → decided n s m o ≡ Ok (Builds p) → Tidy n s.loops m o (held_after n s m o p) (touched_by n s.loops m o p.place)
unfolding built_front
built_tidy n s m M o k r y p e =
    let b : BuildsIt n s m M o p = decides_as n s m M o k r (Ok (Builds p)) e in
    let rs : List Ring = rings_in n s.loops m in
    let able = performs n s m o p y e in
    let v = moves n s.loops m s.used o p.place able in
    record {
      rings = b.places.rings;
      free = all_taken_free n s.loops m rs y.stands s.used o p.place v;
      only = touches n s.loops m s.used o p.place able;
      named = names n s.loops m s.used o p.place;
      inside = inside n s m o p y e;
      apart = takes_or_leaves n s.loops m s.used o p.place v;
      balance = balance n s.loops m rs y.stands s.used o p.place v
          (rings_in n (held_after n s m o p).loops (held_after n s m o p).memory) b.keeps.stands b.places.stack;
    }

-- only a border marks an edge
not_allowed_marks : (t : Bool) (d : Decided) (x y : ℕ) → allowed_if t d ≡ Ok (Marks x y) → d ≡ Ok (Marks x y)
unfolding allowed_if
not_allowed_marks true d x y e = e
not_allowed_marks false d x y e = absurd (no_mark _ x y e)

undecided : (n : ℕ) (s : Front) (d : Decided) (x y : ℕ) → decided_by n s d ≡ Ok (Marks x y) → d ≡ Ok (Marks x y)
undecided n s (Err k) x y e = e
undecided n s (Ok (Builds p)) x y e = absurd (no_mark_room (room_for n s p) p x y e)
undecided n s (Ok (Marks a b)) x y e = e

edge_border : (n : ℕ) (l : Loops) (m : List ℕ) (u : ℕ) (o : Operation) (x y : ℕ) → edge_proposed n l m u o ≡ Ok (Marks x y) → o ≡ Border
unfolding new_plan forward_plan backward_plan split_plan close_plan union_plan
edge_border n l m u New x y e = absurd (no_mark_built _ x y e)
edge_border n l m u Forward x y e =
    absurd (no_mark_built _ x y (not_allowed_marks _ _ x y (not_allowed_marks _ _ x y (not_allowed_marks _ _ x y e))))
edge_border n l m u Backward x y e =
    absurd (no_mark_built _ x y (not_allowed_marks _ _ x y (not_allowed_marks _ _ x y (not_allowed_marks _ _ x y e))))
edge_border n l m u Border x y e = refl
edge_border n l m u (Split i) x y e =
    absurd (no_mark_built _ x y
    (not_allowed_marks _ _ x y (not_allowed_marks _ _ x y (not_allowed_marks _ _ x y (not_allowed_marks _ _ x y e)))))
edge_border n l m u Close x y e =
    absurd (no_mark_built _ x y (not_allowed_marks _ _ x y (not_allowed_marks _ _ x y (not_allowed_marks _ _ x y e))))
edge_border n l m u (Union p j) x y e =
    absurd (no_mark_built _ x y (not_allowed_marks _ _ x y (not_allowed_marks _ _ x y (not_allowed_marks _ _ x y e))))
edge_border n l m u Start x y e = absurd (no_mark _ x y e)

pub marks_border : (n : ℕ) (s : Front) (m : List ℕ) (o : Operation) (x y : ℕ) → decided n s m o ≡ Ok (Marks x y) → o ≡ Border
unfolding decided proposed
marks_border n s m o x y e = by (eqb s.loops.live 0) e
  where
    by : (t : Bool) → decided_by n s (proposed_by t n s.loops m s.used o) ≡ Ok (Marks x y) → o ≡ Border
    by true h = absurd (no_mark_rest n s s.used o x y h)
    by false h = edge_border n s.loops m s.used o x y (undecided n s (edge_proposed n s.loops m s.used o) x y h)

border_tidy : (n : ℕ) (s : Front) (m : List ℕ) (M : Machine) → Keeps n s m M → Ranges M → Ready n s m → (x y : ℕ)
    → decided n s m Border ≡ Ok (Marks x y) → Tidy n s.loops m Border (marked_held n s.loops m) (touched_by n s.loops m Border 0)
unfolding marked_front
border_tidy n s m M k r y a c e =
    let b : MarksIt n s m M Border a c = decides_as n s m M Border k r (Ok (Marks a c)) e in
    let l : Loops = s.loops in
    let rs : List Ring = rings_in n l m in
    let live = marks_live n s m Border a c e in
    let able = ready_borders n s m y live in
    let v = moves n l m s.used Border 0 able in
    record {
      rings = b.places.rings;
      free = all_taken_free n l m rs y.stands s.used Border 0 v;
      only = touches n l m s.used Border 0 able;
      named = names n l m s.used Border 0;
      inside = λ i out d. untouched_edge n l m rs y.stands (current_in n l m rs y.stands live) i out Border 0 tt d;
      apart = takes_or_leaves n l m s.used Border 0 v;
      balance = balance n l m rs y.stands s.used Border 0 v
          (rings_in n (marked_held n l m).loops (marked_held n l m).memory) b.keeps.stands b.places.stack;
    }

-- an edge that is marked
pub marked_tidy : (n : ℕ) (s : Front) (m : List ℕ) (M : Machine) (o : Operation) → Keeps n s m M → Ranges M → Ready n s m → (x y : ℕ)
    → decided n s m o ≡ Ok (Marks x y) → Tidy n s.loops m o (marked_held n s.loops m) (touched_by n s.loops m Border 0)
marked_tidy n s m M o k r y a c e =
    let q : o ≡ Border = marks_border n s m o a c e in
    subst (λ (b : Operation). Tidy n s.loops m b (marked_held n s.loops m) (touched_by n s.loops m Border 0)) (sym q)
    (border_tidy n s m M k r y a c (subst (λ (b : Operation). decided n s m b ≡ Ok (Marks a c)) q e))
