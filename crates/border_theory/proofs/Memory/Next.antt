-- What callers of the core use: each decision, and what the machine's call then comes to.
-- Assumes nothing.
use Prim.Native.Nat.{ℕ, ◌+◌}
use native.Mathlib.Omega.{arith}
use mathlib.Core.Bool.{Bool, true, false}
use mathlib.Core.List.{List}
use mathlib.Core.Path.{◌≡◌, sym, ap, ◌∙◌, subst}
use borrow.Author.Tests.{eq-eqb}
use Rattle.rules.specs.declared.Operation.{Operation}
use Rattle.rules.specs.declared.Operation.TheVariants.{New, Forward, Backward, Border, Split, Close, Union, Start}
use Rattle.rules.specs.Triangle.{tri, edge}
use Rattle.rules.specs.Table.{edge_rule}
use Rattle.rules.specs.Machine.{Machine, Step, refused, built, declared, test, operation}
use Rattle.book.specs.Consistent.{Ranges}
use Rattle.book.specs.Reached.{reached}
use Rattle.cutborder.specs.declared.Front.{Front}
use Rattle.cutborder.specs.declared.Plan.{Plan}
use Rattle.border_theory.specs.Memory.Decision.{Decided}
use Rattle.cutborder.specs.declared.Action.TheVariants.{Builds, Marks}
use Rattle.std.specs.Prelude.{Err, Ok}
use Rattle.border_theory.specs.Memory.Moves.{marked_held}
use Rattle.border_theory.specs.Memory.Decision.{start_plan, rest_proposed, proposed_by, proposed, room_for, room_by, decided_by, decided}
use Rattle.border_theory.specs.Memory.Decision.{side_of, held_after, built_front, marked_front}
use Rattle.border_theory.specs.Memory.Keeps.{Keeps, BuildsIt, MarksIt, Decides}
use Rattle.border_theory.proofs.Memory.Deciding.{decides}
use Rattle.rules.specs.Refusal.{number_of}
use Rattle.rules.specs.declared.refusal.Refusal.{Refusal}

-- the edge rule's test of a plan, over the machine's triangles
abbrev pub plan_rule : Machine → Plan → Bool
plan_rule M p = edge_rule p.triangle (side_of p.pq) (side_of p.qr) (side_of p.rp) M.triangles

module _ (n : ℕ) (s : Front) (m : List ℕ) (M : Machine) (o : Operation) (k : Keeps n s m M) (r : Ranges M) where
  pub decides_as : (d : Decided) → decided n s m o ≡ d → Decides n s m M o d
  decides_as d e = subst (Decides n s m M o) e (decides n s m M k o r)

  -- 16 and 17
  pub refused_next : (x : Refusal) → decided n s m o ≡ Err x → operation M o ≡ refused (number_of x)
  refused_next x e = decides_as (Err x) e

  -- 18
  pub rule_refused : (p : Plan) → decided n s m o ≡ Ok (Builds p) → plan_rule M p ≡ false → operation M o ≡ refused 18
  unfolding test
  rule_refused p e h =
      let b : BuildsIt n s m M o p = decides_as (Ok (Builds p)) e in
      b.step ∙ ap (λ (t : Bool). test t 18 (built p.triangle b.next)) h

  -- the triangle is built, and the state and the memory keep the machine's next state
  pub built_step : (p : Plan) → decided n s m o ≡ Ok (Builds p) → plan_rule M p ≡ true
      → operation M o ≡ built p.triangle (reached M (operation M o))
  unfolding test
  built_step p e h =
      let b : BuildsIt n s m M o p = decides_as (Ok (Builds p)) e in
      let q : operation M o ≡ built p.triangle b.next = b.step ∙ ap (λ (t : Bool). test t 18 (built p.triangle b.next)) h in
      q ∙ ap (λ (x : Step). built p.triangle (reached M x)) (sym q)

  pub built_keeps : (p : Plan) → decided n s m o ≡ Ok (Builds p) → plan_rule M p ≡ true
      → Keeps n (built_front n s p (held_after n s m o p).loops) (held_after n s m o p).memory (reached M (operation M o))
  unfolding test
  built_keeps p e h =
      let b : BuildsIt n s m M o p = decides_as (Ok (Builds p)) e in
      let q : operation M o ≡ built p.triangle b.next = b.step ∙ ap (λ (t : Bool). test t 18 (built p.triangle b.next)) h in
      subst (Keeps n (built_front n s p (held_after n s m o p).loops) (held_after n s m o p).memory) (ap (reached M) (sym q)) b.keeps

  -- the edge is declared border, and so on
  pub marked_step : (x y : ℕ) → decided n s m o ≡ Ok (Marks x y) → operation M o ≡ declared (edge x y) (reached M (operation M o))
  marked_step x y e =
      let b : MarksIt n s m M o x y = decides_as (Ok (Marks x y)) e in
      b.step ∙ ap (λ (z : Step). declared (edge x y) (reached M z)) (sym b.step)

  pub marked_keeps : (x y : ℕ) → decided n s m o ≡ Ok (Marks x y)
      → Keeps n (marked_front n s (marked_held n s.loops m).loops) (marked_held n s.loops m).memory (reached M (operation M o))
  marked_keeps x y e =
      let b : MarksIt n s m M o x y = decides_as (Ok (Marks x y)) e in
      subst (Keeps n (marked_front n s (marked_held n s.loops m).loops) (marked_held n s.loops m).memory)
      (ap (reached M) (sym b.step)) b.keeps

-- an edge is marked only where a loop is live
pub no_mark : (k : Refusal) (x y : ℕ) → Err k ≡ Ok (Marks x y) → ⊥
no_mark k x y e = let z : ◌≡◌ {A = ℕ} 0 1 = cc in omega arith

pub no_mark_built : (p : Plan) (x y : ℕ) → ◌≡◌ {A = Decided} (Ok (Builds p)) (Ok (Marks x y)) → ⊥
no_mark_built p x y e = let z : ◌≡◌ {A = ℕ} 0 1 = cc in omega arith

pub no_mark_room : (t : Bool) (p : Plan) (x y : ℕ) → room_by t p ≡ Ok (Marks x y) → ⊥
no_mark_room true p x y e = no_mark_built p x y e
no_mark_room false p x y e = no_mark _ x y e

pub no_mark_rest : (n : ℕ) (s : Front) (u : ℕ) (o : Operation) (x y : ℕ) → decided_by n s (rest_proposed u o) ≡ Ok (Marks x y) → ⊥
unfolding start_plan
no_mark_rest n s u New x y e = no_mark _ x y e
no_mark_rest n s u Forward x y e = no_mark _ x y e
no_mark_rest n s u Backward x y e = no_mark _ x y e
no_mark_rest n s u Border x y e = no_mark _ x y e
no_mark_rest n s u (Split i) x y e = no_mark _ x y e
no_mark_rest n s u Close x y e = no_mark _ x y e
no_mark_rest n s u (Union p j) x y e = no_mark _ x y e
no_mark_rest n s u Start x y e =
    let p : Plan = record { triangle = tri u (u + 1) (u + 2); pq = 1; qr = 1; rp = 1; vertices = 3; starts = 1; unions = 0; place = 0 } in
    no_mark_room (room_for n s p) p x y e

pub marks_live : (n : ℕ) (s : Front) (m : List ℕ) (o : Operation) (x y : ℕ) → decided n s m o ≡ Ok (Marks x y) → s.loops.live ≡ 0 → ⊥
unfolding decided proposed
marks_live n s m o x y e z =
    no_mark_rest n s s.used o x y
    (ap (λ (t : Bool). decided_by n s (proposed_by t n s.loops m s.used o)) (sym (eq-eqb s.loops.live 0 z)) ∙ e)
