-- Demand 2: packing is never stuck, each triangle is unpacked once, every accepted pack is the pack of its list.
-- Assumes nothing.
use Rattle.std.specs.Prelude.{ℕ, ◌*◌, ◌≤◌, ◌<◌, true, List, [], ◌∷◌, ◌≡◌, ◌⊎◌, ◌↔◌, length, take, drop, get_or}
use Rattle.rules.specs.declared.Triangle.{Triangle}
use Rattle.rules.specs.declared.Operation.{Operation}
use Rattle.rules.specs.declared.Counts.{Counts}
use Rattle.rules.specs.declared.Model.{Model}
use Rattle.rules.specs.declared.Totals.{Totals}
use Rattle.rules.specs.Across.{Found}
use Rattle.rules.specs.declared.Place.{Place}
use Rattle.rules.specs.Checked.{Accepted}
use Rattle.rules.specs.Limits.{max_places}
use Rattle.rules.specs.Triangle.{tri, Edge, triangles_of, corners, Rot, In}
use Rattle.rules.specs.Count.{different}
use Rattle.rules.specs.Across.{across}
use Rattle.rules.specs.Check.{check}
use Rattle.rules.specs.Ring.{Node, Ring, vertex, start_or, places}
use Rattle.rules.specs.Table.{Side, glued, builds, effect, edge_rule}
use Rattle.rules.specs.Answer.{refusal, packed, unpacked}
use Rattle.rules.specs.Fields.{fields, fields_of}
use Rattle.rules.specs.Choice.{Packing, has, operation_for, limited, choose, after_current}
use Rattle.rules.specs.Pack.{chosen, Most, chosen_for, order_for, pack_of, PackBuffers, PackResult, pack_done, contents_of}
use Rattle.rules.specs.Pack.{pack_long_enough}
use Rattle.rules.specs.Pack.{order_long_enough, pack_within, pack}
use Rattle.rules.specs.Buffer.{Buffers}
use Rattle.rules.specs.Machine.{Machine, empty, totals}
use Rattle.rules.specs.Book.{recounted}
use Rattle.rules.specs.Bits.{bits_of_bytes}
use Rattle.rules.specs.Unpack.{numbers_of, UnpackResult, unpack}
use Rattle.book.specs.Consistent.{Consistent}
use Rattle.choice_theory.specs.Works.{Works, Reads}
use Rattle.mesh_theory.specs.Fans.Corner.{Once}
use Rattle.wire_theory.specs.Shape.{Bytes}
use Rattle.roundtrip.specs.Run.{unlimited, run_loops, build_order, starts_of, NoFault, FirstFault, peak_of, Reached}
use Rattle.rules.specs.Right.{RightPlace}

-- 1. Never stuck. Without limits the packer comes to the end of an accepted list; what limits change is told by 9 and 10, and
-- by nothing else but 11.
pub record NeverStuck (h : Most) (v : ℕ) (ts : List Triangle) (r : PackBuffers) (p : PackResult) (operations : List Operation)
    (last : Packing) : Type 0 where
  pub run : chosen_for (unlimited ts) ts ≡ chosen operations last
  pub none_left : last.left ≡ []
  pub no_loop : last.loops ≡ []
  pub nine : (p.answer ≡ refusal 9) ↔ FirstFault h 9 (run_loops ts)
  pub ten : (p.answer ≡ refusal 10) ↔ FirstFault h 10 (run_loops ts)
  pub eleven : (p.answer ≡ refusal 11) ↔ (NoFault h (run_loops ts) × (length r.pack < length (pack_of v ts operations last)))
  pub packs : (p.answer ≡ packed (length (pack_of v ts operations last)))
      ↔ (NoFault h (run_loops ts) × (length (pack_of v ts operations last) ≤ length r.pack))
  -- what it packs is what it would pack without limits
  pub packs_them : p.answer ≡ packed (length (pack_of v ts operations last))
      → p ≡ pack_done (contents_of v ts (order_for (unlimited ts) ts) operations last) r
  pub no_other : (p.answer ≡ packed (length (pack_of v ts operations last)))
      ⊎ ((p.answer ≡ refusal 9) ⊎ ((p.answer ≡ refusal 10) ⊎ (p.answer ≡ refusal 11)))

-- on every list that passes 1 to 7 and all buffers that pass 8 and 22, for any limits; p is what the packing does
abbrev pub PackingIsNeverStuck : Type 0
PackingIsNeverStuck = (h : Most) (v : ℕ) (xs : List ℕ) (r : PackBuffers) → check v xs ≡ Accepted → pack_long_enough v r ≡ true
    → order_long_enough (triangles_of xs) r ≡ true
    → (operations : List Operation) × (last : Packing) × NeverStuck h v (triangles_of xs) r (pack_within h v xs r) operations last

-- B are the triangles that a packing has built: those of its list that are not left
abbrev pub Built : Packing → List Triangle → Type 0
Built s B = (x y z : ℕ) → In x y z B ↔ (In x y z s.mesh × (In x y z s.left → ⊥))

-- The packer's choice at the current edge a→b, where the triangle b a c is across it and c has a number: one place of c is right,
-- the operation for it is chosen, the table allows it, and the edge rule holds.
pub record RightChoice (s : Packing) (a b c : ℕ) : Type 0 where
  pub loop : ℕ
  pub place : ℕ
  pub right : RightPlace s.left s.loops a b c loop place
  pub no_other : (l i : ℕ) → RightPlace s.left s.loops a b c l i → (l ≡ loop) × (i ≡ place)
  pub after : Packing
  pub chooses : choose s ≡ limited (operation_for (after_current s.loops) loop place) after
  pub q_r : Side
  pub r_p : Side
  pub unions : ℕ
  pub allowed : (u : ℕ) → effect (operation_for (after_current s.loops) loop place) u s.loops
      ≡ builds (record {
        loops = after.loops;
        triangle = tri b a c;
        sides = record { pq = glued; qr = q_r; rp = r_p };
        added = record { vertices = 0; starts = 0; unions = unions };
      })
  pub edge_rule_lem : (B : List Triangle) → Built s B → edge_rule (tri b a c) glued q_r r_p B ≡ true

-- at each step of packing an accepted list
abbrev pub OnePlaceIsRight : Type 0
OnePlaceIsRight = (h : Most) (v : ℕ) (xs : List ℕ) → check v xs ≡ Accepted → (s : Packing) → Reached h (triangles_of xs) s
    → (e : Node) (ps : List Node) (ws : List Ring) → s.loops ≡ (e ∷ ps) ∷ ws → (n k c : ℕ)
    → across (start_or (vertex e) ps) (vertex e) s.mesh ≡ Found n k c → has c s.numbered ≡ true
    → RightChoice s (vertex e) (start_or (vertex e) ps) c

-- 2. Each triangle once. A triangle and triangles under a numbering of their vertices
abbrev pub under : (ℕ → ℕ) → Triangle → Triangle
under f t = tri (f t.p) (f t.q) (f t.r)

abbrev pub renumbered : (ℕ → ℕ) → List Triangle → List Triangle
renumbered f [] = []
renumbered f (t ∷ ts) = under f t ∷ renumbered f ts

-- t is the triangle u, from one of its corners on; its orientation is the same
abbrev pub Rotated : Triangle → Triangle → Type 0
Rotated t u = Rot t u.p u.q u.r

-- triangle n of a list, counted from 0; past its end 0 0 0, which is none
abbrev pub nth : List Triangle → ℕ → Triangle
nth ts n = get_or ts n (tri 0 0 0)

-- the same triangles, each once, in some order and each from any of its corners on
pub record Rearranged (ts us : List Triangle) : Type 0 where
  pub count : length us ≡ length ts
  pub all : (x y z : ℕ) → In x y z ts ↔ In x y z us
  pub once : Once us

-- one to one from 0 .. v-1 onto 0 .. v-1
pub record OneToOne (v : ℕ) (f : ℕ → ℕ) : Type 0 where
  pub below : (x : ℕ) → x < v → f x < v
  pub tells : (x y : ℕ) → x < v → y < v → f x ≡ f y → x ≡ y
  pub onto : (n : ℕ) → n < v → (x : ℕ) × (x < v) × (f x ≡ n)

-- the triangles that an unpacking has written
abbrev pub written : ℕ → UnpackResult → List Triangle
written n u = triangles_of (take (3 * n) u.buffers.triangles)

-- the new number of an old vertex
abbrev pub new_number : PackResult → ℕ → ℕ
new_number p x = get_or p.buffers.numbering x 0

-- the number in the list of the triangle that was built as the i-th, counted from 0
abbrev pub input_number : PackResult → ℕ → ℕ
input_number p i = get_or p.buffers.order i 0

-- the buffers of an unpacking are long enough for n triangles
abbrev pub LongEnoughFor : ℕ → Buffers → Type 0
LongEnoughFor n r = (3 * n ≤ length r.triangles) × (max_places ≤ length {A = Place} r.places)

-- p is what the packing of the triangles ts did, u what the unpacking of its pack did
pub record EachOnce (v : ℕ) (ts : List Triangle) (p : PackResult) (u : UnpackResult) : Type 0 where
  pub totals : Totals
  pub accepted : u.answer ≡ unpacked (record { vertices = v; triangles = length ts; totals = totals })
  pub numbering : OneToOne v (new_number p)
  -- the list's triangles, in building order, are those unpacked, under their new numbers
  pub rearranged : Rearranged ts (build_order ts)
  pub unpacked : written (length ts) u ≡ renumbered (new_number p) (build_order ts)
  pub once : Once (written (length ts) u)
  -- the order has each number below T once; triangle i unpacked is list triangle order[i] under the new numbers, from one of its corners on
  pub order : OneToOne (length ts) (input_number p)
  pub names : (i : ℕ) → i < length ts → Rotated (nth (written (length ts) u) i) (under (new_number p) (nth ts (input_number p i)))

abbrev pub EachTriangleOnce : Type 0
EachTriangleOnce = (v : ℕ) (xs : List ℕ) (r : PackBuffers) (n : ℕ) → (pack v xs r).answer ≡ packed n
    → (r' : Buffers) → LongEnoughFor (length (triangles_of xs)) r'
    → EachOnce v (triangles_of xs) (pack v xs r) (unpack (take n (pack v xs r).buffers.pack) r')

-- 3. Every accepted pack is the pack of its list. A packing p gives these bytes, each vertex below v its own number, and an order
-- that is the list's own: 0, 1, 2 and so on below n
pub record Gives (bytes : List ℕ) (v n : ℕ) (p : PackResult) : Type 0 where
  pub same_length : p.answer ≡ packed (length bytes)
  pub same_bytes : take (length bytes) p.buffers.pack ≡ bytes
  pub same_numbers : (x : ℕ) → x < v → new_number p x ≡ x
  pub same_order : (i : ℕ) → i < n → input_number p i ≡ i

-- m is what the unpacking answers, xs the list that it writes
pub record PackOf (bytes : List ℕ) (m : Model) (xs : List ℕ) : Type 0 where
  pub accepted : check m.vertices xs ≡ Accepted
  pub count : length (triangles_of xs) ≡ m.triangles
  pub packs : (r : PackBuffers) → pack_long_enough m.vertices r ≡ true → order_long_enough (triangles_of xs) r ≡ true
      → length bytes ≤ length r.pack → Gives bytes m.vertices m.triangles (pack m.vertices xs r)

abbrev pub list_in : Model → UnpackResult → List ℕ
list_in m u = take (3 * m.triangles) u.buffers.triangles

abbrev pub EveryAcceptedPackIsThePackOfItsList : Type 0
EveryAcceptedPackIsThePackOfItsList = (bytes : List ℕ) → Bytes bytes → (r : Buffers) (m : Model) → (unpack bytes r).answer ≡ unpacked m
    → PackOf bytes m (list_in m (unpack bytes r))

-- no two accepted packs unpack to one list: the list settles V too
abbrev pub NoTwoPacksOfOneList : Type 0
NoTwoPacksOfOneList = (bytes bytes' : List ℕ) → Bytes bytes → Bytes bytes' → (r r' : Buffers) (m m' : Model)
    → (unpack bytes r).answer ≡ unpacked m → (unpack bytes' r').answer ≡ unpacked m'
    → list_in m (unpack bytes r) ≡ list_in m' (unpack bytes' r') → bytes ≡ bytes'

-- 4. Packing depends on v and the list alone, not on what the buffers hold: of their lengths only on whether they are long enough
abbrev pub SameInAllBuffers : Type 0
SameInAllBuffers = (v : ℕ) (xs : List ℕ) (r r' : PackBuffers) (n n' : ℕ) → (pack v xs r).answer ≡ packed n
    → (pack v xs r').answer ≡ packed n'
    → (n ≡ n') × (take n (pack v xs r).buffers.pack ≡ take n' (pack v xs r').buffers.pack)
    × (take v (pack v xs r).buffers.numbering ≡ take v (pack v xs r').buffers.numbering)
    × (take (length (triangles_of xs)) (pack v xs r).buffers.order ≡ take (length (triangles_of xs)) (pack v xs r').buffers.order)

-- in buffers of the same lengths the answer is the same
abbrev pub SameAnswerInAllBuffers : Type 0
SameAnswerInAllBuffers = (v : ℕ) (xs : List ℕ) (r r' : PackBuffers) → length r.numbering ≡ length r'.numbering
    → length {A = Place} r.places ≡ length {A = Place} r'.places → length r.pack ≡ length r'.pack
    → length r.order ≡ length r'.order → (pack v xs r).answer ≡ (pack v xs r').answer

-- the same triangles, in any order and each from any of its corners on
abbrev pub SameTriangles : List ℕ → List ℕ → Type 0
SameTriangles xs ys = (x y z : ℕ) → In x y z (triangles_of xs) ↔ In x y z (triangles_of ys)

-- two packings p of ts and q of us in the same buffers are the same, but that each list has its own numbers for the triangles built
pub record SamePacking (ts us : List Triangle) (p q : PackResult) : Type 0 where
  pub answer : p.answer ≡ q.answer
  pub numbering : p.buffers.numbering ≡ q.buffers.numbering
  pub places : p.buffers.places ≡ q.buffers.places
  pub pack : p.buffers.pack ≡ q.buffers.pack
  -- where they are accepted, the two orders name the same triangles, and beyond them nothing differs
  pub order : (n : ℕ) → p.answer ≡ packed n → (i : ℕ) → i < length ts → Rotated (nth ts (input_number p i)) (nth us (input_number q i))
  pub beyond : drop (length ts) p.buffers.order ≡ drop (length ts) q.buffers.order
  -- where they are refused, nothing does
  pub refused : (n : ℕ) → p.answer ≡ refusal n → p.buffers.order ≡ q.buffers.order

-- Packing does not depend on the order of the triangles, or on the corner that each is listed from, but for those that a start begins with
abbrev pub SameStartsSamePacking : Type 0
SameStartsSamePacking = (v : ℕ) (xs ys : List ℕ) (r : PackBuffers) → check v xs ≡ Accepted → check v ys ≡ Accepted
    → SameTriangles xs ys → starts_of (triangles_of xs) ≡ starts_of (triangles_of ys)
    → SamePacking (triangles_of xs) (triangles_of ys) (pack v xs r) (pack v ys r)

-- and lists with the same triangles, whatever their starts, unpack to the same model: up to the numbers of its vertices
abbrev pub SameTrianglesSameModel : Type 0
SameTrianglesSameModel =
    (v : ℕ) (xs ys : List ℕ) (r q : PackBuffers) (n m : ℕ) → (pack v xs r).answer ≡ packed n → (pack v ys q).answer ≡ packed m
    → SameTriangles xs ys → (r' q' : Buffers) → LongEnoughFor (length (triangles_of xs)) r' → LongEnoughFor (length (triangles_of ys)) q'
    → (f : ℕ → ℕ) × OneToOne v f
    × Rearranged (renumbered f (written (length (triangles_of xs)) (unpack (take n (pack v xs r).buffers.pack) r')))
    (written (length (triangles_of ys)) (unpack (take m (pack v ys q).buffers.pack) q'))

-- the counts that a pack states are V, T and the peaks of the list's run
abbrev pub true_counts : ℕ → List Triangle → Counts
true_counts v ts = record {
  vertices = v;
  triangles = length ts;
  places = peak_of places 0 (run_loops ts);
  loops = peak_of length 0 (run_loops ts);
}

abbrev pub StatedPeaksAreTrue : Type 0
StatedPeaksAreTrue = (v : ℕ) (xs : List ℕ) (r : PackBuffers) (n : ℕ) → (pack v xs r).answer ≡ packed n
    → (ops : List ℕ) × (fields_of (take n (pack v xs r).buffers.pack) ≡ fields (true_counts v (triangles_of xs)) ops)

-- An accepted unpacking is the machine's run over the operations that are read; its answer is counted anew from its triangles
pub record AcceptedRun (bytes : List ℕ) (r : Buffers) (m : Model) : Type 0 where
  pub counts : Counts
  pub ops : List ℕ
  pub left : List ℕ
  pub fields : fields_of bytes ≡ fields counts ops
  pub operations : List Operation
  pub reads : Reads (bits_of_bytes ops) operations left
  pub end : Machine
  pub works : Works (empty counts) operations end
  -- all that holds of the builder's book
  pub borders : List Edge
  pub consistent : Consistent (record { machine = end; borders = borders })
  pub list : list_in m (unpack bytes r) ≡ numbers_of end.triangles
  pub accepted : check m.vertices (list_in m (unpack bytes r)) ≡ Accepted
  pub vertices : m.vertices ≡ different (corners end.triangles)
  pub triangles : m.triangles ≡ length end.triangles
  pub totals : m.totals ≡ totals (recounted end)

abbrev pub AcceptedUnpackingIsARun : Type 0
AcceptedUnpackingIsARun = (bytes : List ℕ) (r : Buffers) (m : Model) → (unpack bytes r).answer ≡ unpacked m → AcceptedRun bytes r m
