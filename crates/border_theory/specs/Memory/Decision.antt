-- What an operation would do, read off the state and the memory; and the state after it. Each definition mirrors the function that computes
-- it.
-- Assumes nothing.
use Rattle.std.specs.Prelude.{ℕ, zero, suc, ◌+◌, ◌-◌, ◌*◌, max, Bool, true, false, ◌&&◌, not, List, eqb, leb, ltb}
use Rattle.rules.specs.declared.Peaks.{Peaks}
use Rattle.rules.specs.declared.Operation.{Operation}
use Rattle.rules.specs.declared.Operation.TheVariants.{New, Forward, Backward, Border, Split, Close, Union, Start}
use Rattle.rules.specs.Triangle.{tri}
use Rattle.rules.specs.Table.{Side, glued, fresh}
use Rattle.cutborder.specs.declared.Loops.{Loops}
use Rattle.cutborder.specs.declared.Front.{Front}
use Rattle.cutborder.specs.declared.Plan.{Plan}
use Rattle.cutborder.specs.declared.Action.TheVariants.{Builds, Marks}
use Rattle.std.specs.Prelude.{Err, Ok, Result}
use Rattle.rules.specs.declared.refusal.Refusal.TheVariants.{NotAllowed, ExceedsStated}
use Rattle.rules.specs.declared.refusal.Refusal.{Refusal}
use Rattle.cutborder.specs.declared.Action.{Action}
use Rattle.border_theory.specs.Memory.Layout.{at, vertex_of, before_of, after_of, open_of, walked}
use Rattle.border_theory.specs.Memory.Moves.{Held, new_held, forward_held, backward_held, ended_held, marked_held, split_held, union_held}
use Rattle.border_theory.specs.Memory.Moves.{start_held}

-- an action, or why there is none
abbrev pub Decided : Type 0
Decided = Result Action Refusal

abbrev pub is_open_at : List ℕ → ℕ → Bool
is_open_at m p = eqb (open_of m p) 1

-- 16
unfoldable pub allowed_if : Bool → Decided → Decided
allowed_if true d = d
allowed_if false d = Err NotAllowed

-- the triangle b a c at the current edge: whether a→c and c→b are new edges, how many numbers are new, unions, the place of c
abbrev pub plan_at : Loops → List ℕ → ℕ → ℕ → ℕ → ℕ → ℕ → ℕ → Plan
plan_at l m c qr rp v k p = record {
  triangle = tri (vertex_of m (after_of m l.current)) (vertex_of m l.current) c;
  pq = 0;
  qr = qr;
  rp = rp;
  vertices = v;
  starts = 0;
  unions = k;
  place = p;
}

-- the current loop has three places, all edges open
unfoldable pub is_three : Loops → List ℕ → Bool
is_three l m =
    let f = after_of m l.current in
    eqb l.size 3 && is_open_at m f && is_open_at m (after_of m f)

unfoldable pub new_plan : Loops → List ℕ → ℕ → Decided
new_plan l m u = Ok (Builds (plan_at l m u 1 1 1 0 0))

unfoldable pub forward_plan : Loops → List ℕ → Decided
forward_plan l m =
    let f = after_of m l.current in
    allowed_if (leb 3 l.size)
    (allowed_if (is_open_at m f) (allowed_if (not (is_three l m)) (Ok (Builds (plan_at l m (vertex_of m (after_of m f)) 1 0 0 0 0)))))

unfoldable pub backward_plan : Loops → List ℕ → Decided
backward_plan l m =
    let c = before_of m l.current in
    allowed_if (leb 3 l.size)
    (allowed_if (is_open_at m c) (allowed_if (not (is_three l m)) (Ok (Builds (plan_at l m (vertex_of m c) 0 1 0 0 0)))))

unfoldable pub border_plan : Loops → List ℕ → Decided
border_plan l m = Ok (Marks (vertex_of m l.current) (vertex_of m (after_of m l.current)))

-- place i after f is beyond an open edge next to the current one: forward and backward are for that
unfoldable pub beside_next : Loops → List ℕ → ℕ → Bool
beside_next l m i = eqb i 1 && is_open_at m (after_of m l.current)

unfoldable pub beside_last : Loops → List ℕ → ℕ → Bool
beside_last l m i = eqb (i + 2) l.size && is_open_at m (before_of m l.current)

unfoldable pub split_plan : Loops → List ℕ → ℕ → Decided
split_plan l m i =
    let c = walked m i (after_of m l.current) in
    allowed_if (leb 1 i)
    (allowed_if (leb (i + 2) l.size)
    (allowed_if (not (beside_next l m i))
    (allowed_if (not (beside_last l m i)) (Ok (Builds (plan_at l m (vertex_of m c) 1 1 0 0 c))))))

unfoldable pub close_plan : Loops → List ℕ → Decided
close_plan l m =
    let f = after_of m l.current in
    let c = after_of m f in
    allowed_if (eqb l.size 3)
    (allowed_if (is_open_at m f) (allowed_if (is_open_at m c) (Ok (Builds (plan_at l m (vertex_of m c) 0 0 0 0 0)))))

unfoldable pub union_plan : ℕ → Loops → List ℕ → ℕ → ℕ → Decided
union_plan n l m p j =
    let w = l.live - 1 - p in
    let c = walked m j (at m (5 * n + 2 * w)) in
    allowed_if (leb 1 p)
    (allowed_if (leb p (l.live - 1)) (allowed_if (ltb j (at m (5 * n + 2 * w + 1))) (Ok (Builds (plan_at l m (vertex_of m c) 1 1 0 1 c)))))

unfoldable pub start_plan : ℕ → Decided
start_plan u =
    Ok (Builds (record { triangle = tri u (u + 1) (u + 2); pq = 1; qr = 1; rp = 1; vertices = 3; starts = 1; unions = 0; place = 0 }))

-- with no live loop
abbrev pub rest_proposed : ℕ → Operation → Decided
rest_proposed u New = Err NotAllowed
rest_proposed u Forward = Err NotAllowed
rest_proposed u Backward = Err NotAllowed
rest_proposed u Border = Err NotAllowed
rest_proposed u (Split i) = Err NotAllowed
rest_proposed u Close = Err NotAllowed
rest_proposed u (Union p j) = Err NotAllowed
rest_proposed u Start = start_plan u

-- with a live loop
abbrev pub edge_proposed : ℕ → Loops → List ℕ → ℕ → Operation → Decided
edge_proposed n l m u New = new_plan l m u
edge_proposed n l m u Forward = forward_plan l m
edge_proposed n l m u Backward = backward_plan l m
edge_proposed n l m u Border = border_plan l m
edge_proposed n l m u (Split i) = split_plan l m i
edge_proposed n l m u Close = close_plan l m
edge_proposed n l m u (Union p j) = union_plan n l m p j
edge_proposed n l m u Start = Err NotAllowed

abbrev pub proposed_by : Bool → ℕ → Loops → List ℕ → ℕ → Operation → Decided
proposed_by true n l m u o = rest_proposed u o
proposed_by false n l m u o = edge_proposed n l m u o

-- 16, or what would be done, where u is the next unused number
abbrev pub proposed_at : ℕ → Loops → List ℕ → ℕ → Operation → Decided
proposed_at n l m u o = proposed_by (eqb l.live 0) n l m u o

unfoldable pub proposed : ℕ → Front → List ℕ → Operation → Decided
proposed n s m o = proposed_at n s.loops m s.used o

-- 17: the counts after it are within those stated. Of three sides those that glue take a place away, the new ones add one
abbrev pub new_edges : Plan → ℕ
new_edges p = p.pq + p.qr + p.rp

unfoldable pub room_for : ℕ → Front → Plan → Bool
room_for n s p =
    leb (s.used + p.vertices) s.stated.vertices && leb (s.built + 1) s.stated.triangles
    && leb (n - s.loops.free + 2 * new_edges p) (s.stated.places + 3)
    && leb (s.loops.live + new_edges p + 2 * p.starts) (s.stated.loops + p.vertices + 1 + 2 * p.unions)

abbrev pub room_by : Bool → Plan → Decided
room_by true p = Ok (Builds p)
room_by false p = Err ExceedsStated

abbrev pub decided_by : ℕ → Front → Decided → Decided
decided_by n s (Err k) = Err k
decided_by n s (Ok (Builds p)) = room_by (room_for n s p) p
decided_by n s (Ok (Marks x y)) = Ok (Marks x y)

-- 16, 17, or what is to be done
unfoldable pub decided : ℕ → Front → List ℕ → Operation → Decided
decided n s m o = decided_by n s (proposed n s m o)

-- a side of a plan, by its number
abbrev pub side_of : ℕ → Side
side_of zero = glued
side_of (suc k) = fresh

-- the loops after a planned operation, where u is the next unused number and c the plan's place
abbrev pub held_by : ℕ → Loops → List ℕ → ℕ → Operation → ℕ → Held
held_by n l m u New c = new_held n l m u
held_by n l m u Forward c = forward_held n l m
held_by n l m u Backward c = backward_held n l m
held_by n l m u Border c = marked_held n l m
held_by n l m u (Split i) c = split_held n l m i c
held_by n l m u Close c = ended_held n l m
held_by n l m u (Union k j) c = union_held n l m k c
held_by n l m u Start c = start_held n l m u

abbrev pub held_after : ℕ → Front → List ℕ → Operation → Plan → Held
held_after n s m o p = held_by n s.loops m s.used o p.place

-- the peaks so far, those of the loops l included
abbrev pub raised : ℕ → Peaks → Loops → Peaks
raised n k l = record { places = max k.places (n - l.free); loops = max k.loops l.live }

-- the state after a triangle is built, which leaves the loops l
unfoldable pub built_front : ℕ → Front → Plan → Loops → Front
built_front n s p l = record {
  stated = s.stated;
  used = s.used + p.vertices;
  built = s.built + 1;
  peaks = raised n s.peaks l;
  edges = s.edges + new_edges p;
  starts = s.starts + p.starts;
  unions = s.unions + p.unions;
  rims = s.rims;
  loops = l;
}

-- the state after an edge is marked, which leaves the loops k; one that has ended is a rim
unfoldable pub marked_front : ℕ → Front → Loops → Front
marked_front n s k = record {
  stated = s.stated;
  used = s.used;
  built = s.built;
  peaks = raised n s.peaks k;
  edges = s.edges;
  starts = s.starts;
  unions = s.unions;
  rims = s.rims + (s.loops.live - k.live);
  loops = k;
}
