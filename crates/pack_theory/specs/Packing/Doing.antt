-- An operation on the loops of a packing: the state that it is done from, and what it comes to.
-- Assumes nothing.
use Rattle.std.specs.Prelude.{ℕ, ◌≤◌, true, false, List, ◌≡◌, length, eqb}
use Rattle.rules.specs.declared.Counts.{Counts}
use Rattle.rules.specs.declared.Operation.{Operation}
use Rattle.rules.specs.Limits.{max_places, max_loops, max_triangles, between, vertex_range}
use Rattle.rules.specs.Ring.{Ring}
use Rattle.border_theory.specs.Records.Plain.{core_size}
use Rattle.cutborder.specs.declared.Front.{Front}
use Rattle.border_theory.specs.Memory.Decision.{Decided}
use Rattle.std.specs.Prelude.{Ok, Err}
use Rattle.cutborder.specs.declared.Action.TheVariants.{Builds, Marks}
use Rattle.border_theory.specs.Memory.Stands.{Stands, loops_in}
use Rattle.border_theory.specs.Memory.Moves.{marked_held}
use Rattle.border_theory.specs.Memory.Decision.{decided, held_after, built_front, marked_front}
use Rattle.pack_theory.specs.Packing.Done.{Done}
use Rattle.pack_theory.specs.Packing.Done.{Going, Refused}

-- what a packing of a model of v vertices and k triangles may not exceed
abbrev pub stated_for : ℕ → ℕ → Counts
stated_for v k = record { vertices = v; triangles = k; places = max_places; loops = max_loops }

-- the state in which `new` places the vertex c; what a packing does not count is zero
abbrev pub readied : Front → ℕ → Front
readied f c = record {
  stated = f.stated;
  used = c;
  built = f.built;
  peaks = f.peaks;
  edges = 0;
  starts = 0;
  unions = 0;
  rims = 0;
  loops = f.loops;
}

-- 9 where no place is free, else 10
abbrev pub refusal_at : ℕ → ℕ
refusal_at free = elim (eqb free 0) [ true ↦ 9 | false ↦ 10 ]

abbrev pub done_by : Front → List ℕ → Operation → Decided → Done
done_by s m o (Err k) = Refused (refusal_at s.loops.free)
done_by s m o (Ok (Builds p)) = Going (built_front max_places s p (held_after max_places s m o p).loops)
done_by s m o (Ok (Marks x y)) = Going (marked_front max_places s (marked_held max_places s.loops m).loops)

abbrev pub memory_by : Front → List ℕ → Operation → Decided → List ℕ
memory_by s m o (Err k) = m
memory_by s m o (Ok (Builds p)) = (held_after max_places s m o p).memory
memory_by s m o (Ok (Marks x y)) = (marked_held max_places s.loops m).memory

-- what the operation o comes to, and the memory after it
unfoldable pub done_of : Front → List ℕ → Operation → Done
done_of s m o = done_by s m o (decided max_places s m o)

unfoldable pub memory_of : Front → List ℕ → Operation → List ℕ
memory_of s m o = memory_by s m o (decided max_places s m o)

-- the loops ls stand in the memory, with the most places a and loops b so far, in a packing of v vertices and k triangles
pub record Standing (v k : ℕ) (f : Front) (m : List ℕ) (ls : List Ring) (a b : ℕ) : Type 0 where
  pub vertices : vertex_range v ≡ true
  pub triangles : between 1 k max_triangles ≡ true
  pub stated : f.stated ≡ stated_for v k
  pub built : f.built ≤ k
  pub whole : length m ≡ core_size
  pub stands : Stands max_places f.loops m
  pub loops : ls ≡ loops_in max_places f.loops m
  pub few : length ls ≤ max_loops
  pub places : a ≡ f.peaks.places
  pub most : b ≡ f.peaks.loops
  pub few_places : a ≤ max_places
  pub few_loops : b ≤ max_loops
