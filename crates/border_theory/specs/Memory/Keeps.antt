-- A state and a memory that keep a machine.
-- Assumes nothing.
use Rattle.std.specs.Prelude.{ℕ, ◌+◌, ◌*◌, ◌≤◌, true, List, ◌≡◌, length}
use Rattle.rules.specs.declared.Operation.{Operation}
use Rattle.rules.specs.Triangle.{edge}
use Rattle.rules.specs.Table.{Building, Marking, builds, marks, effect, edge_rule}
use Rattle.rules.specs.Machine.{Machine, after_build, after_mark, refused, built, declared, test, within, operation}
use Rattle.rules.specs.Furnace.{operation_freely}
use Rattle.rules.specs.Limits.{max_loops, max_numbers, max_places, max_triangles, max_vertices}
use Rattle.cutborder.specs.declared.Front.{Front}
use Rattle.cutborder.specs.declared.Plan.{Plan}
use Rattle.border_theory.specs.Memory.Decision.{Decided}
use Rattle.cutborder.specs.declared.Action.TheVariants.{Builds, Marks}
use Rattle.std.specs.Prelude.{Err, Ok}
use Rattle.border_theory.specs.Memory.Layout.{at}
use Rattle.border_theory.specs.Memory.Stands.{loops_in, Stands}
use Rattle.border_theory.specs.Memory.Moves.{marked_held}
use Rattle.border_theory.specs.Memory.Touched.{Rearranged}
use Rattle.border_theory.specs.Memory.Decision.{side_of, held_after, built_front, marked_front}
use Rattle.rules.specs.Refusal.{number_of}

-- the memory has room for n places and the loops stated
pub record Roomy (n : ℕ) (s : Front) (m : List ℕ) : Type 0 where
  pub few : n ≤ max_places
  pub enough : s.stated.places ≤ n
  pub long : 5 * n + 2 * s.stated.loops ≤ length m

-- the counts are the machine's, and its loops stand in the memory
pub record Keeps (n : ℕ) (s : Front) (m : List ℕ) (M : Machine) : Type 0 where
  pub roomy : Roomy n s m
  pub stands : Stands n s.loops m
  pub loops : M.loops ≡ loops_in n s.loops m
  pub stated : M.stated ≡ s.stated
  pub used : M.used ≡ s.used
  pub triangles : length M.triangles ≡ s.built
  pub most_places : M.most_places ≡ s.peaks.places
  pub most_loops : M.most_loops ≡ s.peaks.loops
  pub edges : M.edges ≡ s.edges
  pub starts : M.starts ≡ s.starts
  pub unions : M.unions ≡ s.unions
  pub rims : M.rims ≡ s.rims

-- what the core asks of a state and a memory
pub record Ready (n : ℕ) (s : Front) (m : List ℕ) : Type 0 where
  pub roomy : Roomy n s m
  pub stands : Stands n s.loops m
  pub vertices : s.stated.vertices ≤ max_vertices
  pub triangles : s.stated.triangles ≤ max_triangles
  pub loops : s.stated.loops ≤ max_loops
  pub used : s.used ≤ max_vertices
  pub built : s.built ≤ max_triangles
  pub edges : s.edges ≤ max_numbers
  pub starts : s.starts ≤ max_numbers
  pub unions : s.unions ≤ max_numbers
  pub rims : s.rims ≤ max_numbers

-- of a memory after an operation: its length, and all past the waiting loops
pub record Unchanged (n : ℕ) (s : Front) (m m' : List ℕ) : Type 0 where
  pub lengths : length m' ≡ length m
  pub rest : (i : ℕ) → 5 * n + 2 * s.loops.live ≤ i → at m' i ≡ at m i

-- a plan: the call is decided but for the edge rule, and if that holds, the plan leads to the machine's next state
pub record BuildsIt (n : ℕ) (s : Front) (m : List ℕ) (M : Machine) (o : Operation) (p : Plan) : Type 0 where
  pub next : Machine
  pub step : operation M o
      ≡ test (edge_rule p.triangle (side_of p.pq) (side_of p.qr) (side_of p.rp) M.triangles) 18 (built p.triangle next)
  pub keeps : Keeps n (built_front n s p (held_after n s m o p).loops) (held_after n s m o p).memory next
  pub unchanged : Unchanged n s m (held_after n s m o p).memory
  pub places : Rearranged n s.loops m o (held_after n s m o p)

pub record MarksIt (n : ℕ) (s : Front) (m : List ℕ) (M : Machine) (o : Operation) (x y : ℕ) : Type 0 where
  pub next : Machine
  pub step : operation M o ≡ declared (edge x y) next
  pub keeps : Keeps n (marked_front n s (marked_held n s.loops m).loops) (marked_held n s.loops m).memory next
  pub unchanged : Unchanged n s m (marked_held n s.loops m).memory
  pub places : Rearranged n s.loops m o (marked_held n s.loops m)

-- what a decision says of the machine's call
abbrev pub Decides : ℕ → Front → List ℕ → Machine → Operation → Decided → Type 0
Decides n s m M o (Err k) = operation M o ≡ refused (number_of k)
Decides n s m M o (Ok (Builds p)) = BuildsIt n s m M o p
Decides n s m M o (Ok (Marks x y)) = MarksIt n s m M o x y

-- the same of the machine without the edge rule: what the operation does, and that it has room
pub record BuildsFreely (n : ℕ) (s : Front) (m : List ℕ) (M : Machine) (o : Operation) (p : Plan) : Type 0 where
  pub building : Building
  pub effects : effect o M.used M.loops ≡ builds building
  pub triangle : building.triangle ≡ p.triangle
  pub fits : within (after_build M building) ≡ true
  pub keeps : Keeps n (built_front n s p (held_after n s m o p).loops) (held_after n s m o p).memory (after_build M building)

pub record MarksFreely (n : ℕ) (s : Front) (m : List ℕ) (M : Machine) (o : Operation) : Type 0 where
  pub marking : Marking
  pub effects : effect o M.used M.loops ≡ marks marking
  pub fits : within (after_mark M marking) ≡ true
  pub keeps : Keeps n (marked_front n s (marked_held n s.loops m).loops) (marked_held n s.loops m).memory (after_mark M marking)

abbrev pub DecidesFreely : ℕ → Front → List ℕ → Machine → Operation → Decided → Type 0
DecidesFreely n s m M o (Err k) = operation_freely M o ≡ refused (number_of k)
DecidesFreely n s m M o (Ok (Builds p)) = BuildsFreely n s m M o p
DecidesFreely n s m M o (Ok (Marks x y)) = MarksFreely n s m M o
