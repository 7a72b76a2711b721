-- The book (a term of the rules): the machine and the edges declared border; what each call does to it, and the model's open edges.
-- Assumes nothing.
use Rattle.std.specs.Prelude.{ℕ, Bool, true, false, ◌&&◌, List, [], ◌∷◌, eqb}
use Rattle.rules.specs.declared.Triangle.{Triangle}
use Rattle.rules.specs.declared.Counts.{Counts}
use Rattle.rules.specs.declared.Operation.{Operation}
use Rattle.rules.specs.Triangle.{Edge, corners, edges_of}
use Rattle.rules.specs.Count.{num, count, uses, different, pairs}
use Rattle.rules.specs.Machine.{Machine, empty, Step, refused, begun, built, declared, finished, beginning, operation, finishing}
use Rattle.rules.specs.Buffer.{Lengths}
use Rattle.rules.specs.Answer.{Answer, refusal, accepted, triangle, no_triangle, numbers}

-- the three kinds of call
pub data Call : Type 0 where
  begin : Counts → Call
  operate : Operation → Call
  finish : Call

pub record Book : Type 0 where
  pub machine : Machine
  -- the edges declared border, the latest first
  pub borders : List Edge

-- The model's open edges are taken from the book's triangles and border edges: 1 if x→y is one, else 0. It is used, its opposite is not,
-- and it is not declared border; the numbers are how often x→y is used, how often y→x, and how often x→y is declared border.
abbrev pub open_if : ℕ → ℕ → ℕ → ℕ
open_if used opposite border = num (eqb used 1 && eqb opposite 0 && eqb border 0)

abbrev pub model_open : ℕ → ℕ → List Triangle → List Edge → ℕ
model_open x y ts ds = open_if (uses x y ts) (uses y x ts) (count x y ds)

-- the vertices and edges counted anew, from the triangles: a finish reads its answer off these
abbrev pub recounted : Machine → Machine
recounted m = record {
  stated = m.stated;
  triangles = m.triangles;
  loops = m.loops;
  used = different (corners m.triangles);
  most_places = m.most_places;
  most_loops = m.most_loops;
  edges = pairs (edges_of m.triangles);
  starts = m.starts;
  unions = m.unions;
  rims = m.rims;
}

abbrev pub call : Lengths → Machine → Call → Step
call r m (begin s) = beginning r s
call r m (operate o) = operation m o
call r m finish = finishing (recounted m)

abbrev pub empty_book : Counts → Book
empty_book s = record { machine = empty s; borders = [] }

-- the book after a call; one that is refused, or a finish, leaves it as it is
abbrev pub entered : Book → Step → Book
entered b (refused n) = b
entered b (begun m) = record { machine = m; borders = [] }
entered b (built t m) = record { machine = m; borders = b.borders }
entered b (declared d m) = record { machine = m; borders = d ∷ b.borders }
entered b (finished x) = b

abbrev pub answer_of : Step → Answer
answer_of (refused n) = refusal n
answer_of (begun m) = accepted
answer_of (built t m) = triangle t
answer_of (declared d m) = no_triangle
answer_of (finished x) = numbers x

abbrev pub answer : Lengths → Book → Call → Answer
answer r b c = answer_of (call r b.machine c)

abbrev pub after : Lengths → Book → Call → Book
after r b c = entered b (call r b.machine c)

-- a call is accepted unless it is refused
abbrev pub is_accepted : Step → Bool
is_accepted (refused n) = false
is_accepted (begun m) = true
is_accepted (built t m) = true
is_accepted (declared d m) = true
is_accepted (finished x) = true
