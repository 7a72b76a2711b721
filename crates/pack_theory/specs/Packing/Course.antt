-- What holds throughout a packing's run: the state, the flags, the numbering buffer and the memory keep a packing of the rules.
-- Assumes nothing.
use Rattle.std.specs.Prelude.{ℕ, ◌+◌, ◌*◌, ◌≤◌, ◌<◌, Bool, true, false, List, ◌++◌, ◌≡◌, length, get_or, set, eqb}
use Rattle.rules.specs.declared.Triangle.{Triangle}
use Rattle.rules.specs.Across.{Across}
use Rattle.rules.specs.Across.{Found, Nothing}
use Rattle.rules.specs.declared.Operation.TheVariants.{New, Border}
use Rattle.rules.specs.Checked.{Accepted}
use Rattle.rules.specs.Limits.{max_places, max_loops, max_triangles}
use Rattle.rules.specs.Triangle.{triangles_of}
use Rattle.rules.specs.Across.{across}
use Rattle.rules.specs.Ring.{Ring}
use Rattle.rules.specs.Check.{check}
use Rattle.rules.specs.Choice.{Packing, choose_place}
use Rattle.choice_theory.proofs.Steps.Choosing.{Fits}
use Rattle.mesh_theory.specs.Chains.Linked.{Linked}
use Rattle.cutborder.specs.declared.Loops.{Loops}
use Rattle.border_theory.specs.Memory.Layout.{vertex_of, after_of}
use Rattle.border_theory.specs.Memory.Stands.{loops_in}
use Rattle.pack_theory.specs.Choosing.Choosable.{flag_of, unbuilt_of, Choosable}
use Rattle.cutborder.specs.declared.Course.{Course}
use Rattle.cutborder.specs.declared.Move.{Move}
use Rattle.pack_theory.specs.Packing.Numbers.{unnumbered, entries}
use Rattle.pack_theory.specs.Packing.Doing.{Standing}

-- The packing s: t the state, fs the flags, ns the numbering buffer, whose entries past the first v are rest, and m the memory.
pub record Holds (v : ℕ) (xs : List ℕ) (s : Packing) (t : Course) (fs ns rest m : List ℕ) : Type 0 where
  -- 1 to 7
  pub accepted : check v xs ≡ Accepted
  -- the triangles built so far, and the rims that have ended
  pub built : List Triangle
  pub rims : List Ring
  pub fits : Fits s built rims
  pub mesh : s.mesh ≡ triangles_of xs
  pub limit_places_lem : s.limit_places ≡ max_places
  pub limit_loops_lem : s.limit_loops ≡ max_loops
  pub left : s.left ≡ unbuilt_of fs xs
  pub lowest : (i : ℕ) → i < t.lowest → flag_of fs i ≡ 0 → ⊥
  pub before : t.lowest ≤ length (triangles_of xs)
  pub flags : length fs ≡ max_triangles
  pub numbers : ns ≡ entries v s.numbered ++ rest
  pub given : t.given ≡ length s.numbered
  -- each triangle gives at most three numbers
  pub few : length s.numbered + 3 * length s.left ≤ 3 * length (triangles_of xs)
  pub count : t.front.built + length s.left ≡ length (triangles_of xs)
  pub standing : Standing v (length (triangles_of xs)) t.front m s.loops s.most_places s.most_loops

-- for some packing; cs holds the list's chains
pub record Held (xs cs : List ℕ) (t : Course) (fs ns m : List ℕ) : Type 0 where
  pub linked : Linked xs cs
  pub vertices : ℕ
  pub packing : Packing
  pub rest : List ℕ
  pub holds : Holds vertices xs packing t fs ns rest m

-- ---- what is taken at the current edge, from a to b

abbrev pub start_of : Loops → List ℕ → ℕ
start_of l m = vertex_of m l.current

abbrev pub end_of : Loops → List ℕ → ℕ
end_of l m = vertex_of m (after_of m l.current)

abbrev pub is_numbered : List ℕ → ℕ → Bool
is_numbered ns c = elim (eqb (get_or ns c 0) unnumbered) [ true ↦ false | false ↦ true ]

abbrev pub placed_by : Bool → List ℕ → List ℕ → List ℕ → Loops → ℕ → ℕ → ℕ → Move
placed_by false xs fs m l a b c = record { operation = New; vertex = c; fresh = true }
placed_by true xs fs m l a b c =
    record { operation = choose_place a b c (unbuilt_of fs xs) (loops_in max_places l m); vertex = c; fresh = false }

-- the triangle found is built, so that its flag is set
abbrev pub flags_by : List ℕ → Across → List ℕ
flags_by fs Nothing = fs
flags_by fs (Found n k c) = set fs n 1

abbrev pub move_by : List ℕ → List ℕ → List ℕ → List ℕ → Loops → Across → Move
move_by xs fs ns m l Nothing = record { operation = Border; vertex = 0; fresh = false }
move_by xs fs ns m l (Found n k c) = placed_by (is_numbered ns c) xs (set fs n 1) m l (start_of l m) (end_of l m) c

unfoldable pub move_of : List ℕ → List ℕ → List ℕ → List ℕ → Loops → Move
move_of xs fs ns m l = move_by xs fs ns m l (across (end_of l m) (start_of l m) (triangles_of xs))

unfoldable pub flags_of : List ℕ → List ℕ → List ℕ → Loops → List ℕ
flags_of xs fs m l = flags_by fs (across (end_of l m) (start_of l m) (triangles_of xs))

-- the next number is given to c, or not
abbrev pub given_by : Bool → ℕ → ℕ
given_by true k = k + 1
given_by false k = k

abbrev pub numbers_by : Bool → List ℕ → ℕ → ℕ → List ℕ
numbers_by true ns c k = set ns c k
numbers_by false ns c k = ns

-- ---- a start

-- the loop of three places, the first of them e, gets the vertices p q r
abbrev pub renamed : List ℕ → ℕ → ℕ → ℕ → ℕ → List ℕ
renamed m e p q r = set (set (set m (4 * e) p) (4 * after_of m e) q) (4 * after_of m (after_of m e)) r

-- and these get the next numbers
abbrev pub numbered_three : List ℕ → ℕ → ℕ → ℕ → ℕ → List ℕ
numbered_three ns k p q r = set (set (set ns p k) q (k + 1)) r (k + 2)

-- what choosing asks for: the memory has the current edge, and a triangle that is found across it can be flagged and placed
pub record FoundNear (xs cs fs ns m : List ℕ) (l : Loops) (n c : ℕ) : Type 0 where
  pub flag : n < max_triangles
  pub entry : c < length ns
  pub place : Choosable xs cs (set fs n 1) m l (start_of l m) (end_of l m) c

pub record Chooses (xs cs fs ns m : List ℕ) (l : Loops) : Type 0 where
  pub linked : Linked xs cs
  pub near_e : l.current < max_places
  pub near_f : after_of m l.current < max_places
  pub apart : end_of l m ≡ start_of l m → ⊥
  pub found : (n k c : ℕ) → across (end_of l m) (start_of l m) (triangles_of xs) ≡ Found n k c → FoundNear xs cs fs ns m l n c
