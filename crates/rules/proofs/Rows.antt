-- Rows for tables: a call, what the second program answered and left in the buffers, and the test that the definitions give the
-- same. The table of the rules is in Models; more rows are drawn by tests/definitions.
-- Assumes nothing.
use Prim.Native.Nat.{ℕ}
use mathlib.Core.Bool.{Bool, true, false, ◌&&◌}
use mathlib.Core.List.{List, [], ◌∷◌, ◌++◌}
use lib.ListN.{length}
use lib.Dec.{eqb}
use lib.IntN.{ℤ, pos, negsuc}
use Rattle.rules.specs.declared.Counts.{Counts}
use Rattle.rules.specs.declared.Place.{Place}
use Rattle.rules.specs.declared.Totals.{Totals}
use Rattle.rules.specs.Across.{Across}
use Rattle.rules.specs.Across.{Found, Nothing}
use Rattle.rules.specs.Melted.{Melted}
use Rattle.rules.specs.Melted.{Six, Refused}
use Rattle.rules.specs.Triangle.{Edge, triangles_of}
use Rattle.rules.specs.Count.{num}
use Rattle.rules.specs.Ring.{Ring, vertex, is_open}
use Rattle.rules.specs.Machine.{Machine}
use Rattle.rules.specs.Answer.{Answer, refusal, accepted, triangle, no_triangle, numbers, packed, unpacked}
use Rattle.rules.specs.Book.{Book, Call, empty_book}
use Rattle.rules.specs.Calls.{answers, after_all}
use Rattle.rules.specs.Pack.{Most, PackBuffers, PackResult, pack_within}
use Rattle.rules.specs.Buffer.{Buffers, Lengths}
use Rattle.rules.specs.Across.{across}
use Rattle.rules.specs.Fields.{Fields, no_pack, fields, pack_bytes, fields_of}
use Rattle.rules.specs.Unpack.{UnpackResult, numbers_of, unpack}
use Rattle.rules.specs.Later.{Given, not_given, given}
use Rattle.rules.specs.PackWhole.{extras, pack_whole_within}
use Rattle.rules.specs.Reading.{unpack_noted, VolumeResult, volume, BenchResult, bench}
use Rattle.rules.specs.Furnace.{melt}

unfoldable pub equal : List ℕ → List ℕ → Bool
equal [] [] = true
equal [] (y ∷ ys) = false
equal (x ∷ xs) [] = false
equal (x ∷ xs) (y ∷ ys) = elim (eqb x y) [ true ↦ equal xs ys | false ↦ false ]

abbrev pub place : ℕ → ℕ → ℕ → Bool → Place
place v b a o = record { vertex = v; before = b; after = a; «open» = o }

abbrev pub same_place : Place → Place → Bool
same_place p q =
    eqb p.vertex q.vertex && eqb p.before q.before && eqb p.after q.after
    && eqb (num p.«open») (num q.«open»)

unfoldable pub equal_places : List Place → List Place → Bool
equal_places [] [] = true
equal_places [] (q ∷ qs) = false
equal_places (p ∷ ps) [] = false
equal_places (p ∷ ps) (q ∷ qs) = elim (same_place p q) [ true ↦ equal_places ps qs | false ↦ false ]

-- an answer as numbers: its kind, and what it tells
abbrev pub signed : ℤ → List ℕ
signed (pos n) = 0 ∷ (n ∷ [])
signed (negsuc n) = 1 ∷ (n ∷ [])

abbrev pub written_totals : Totals → List ℕ
written_totals x = x.edges ∷ (x.rims ∷ (x.unions ∷ signed x.euler))

abbrev pub written : Answer → List ℕ
written (refusal n) = 0 ∷ (n ∷ [])
written accepted = 1 ∷ []
written (triangle t) = 2 ∷ (t.p ∷ (t.q ∷ (t.r ∷ [])))
written no_triangle = 3 ∷ []
written (numbers x) = 4 ∷ written_totals x
written (packed n) = 5 ∷ (n ∷ [])
written (unpacked m) = 6 ∷ (m.vertices ∷ (m.triangles ∷ written_totals m.totals))

unfoldable pub equal_answers : List Answer → List Answer → Bool
equal_answers [] [] = true
equal_answers [] (y ∷ ys) = false
equal_answers (x ∷ xs) [] = false
equal_answers (x ∷ xs) (y ∷ ys) = elim (equal (written x) (written y)) [ true ↦ equal_answers xs ys | false ↦ false ]

abbrev pub same_answer : Answer → Answer → Bool
same_answer x y = equal (written x) (written y)

-- a packing
pub record PackRow : Type 0 where
  pub limits : Most
  pub vertices : ℕ
  pub list : List ℕ
  pub lent : PackBuffers
  pub answer : Answer
  pub left : PackBuffers

abbrev pub same_packing : PackResult → Answer → PackBuffers → Bool
same_packing r a b =
    same_answer r.answer a && equal r.buffers.numbering b.numbering && equal r.buffers.pack b.pack
    && equal_places r.buffers.places b.places && equal r.buffers.order b.order

unfoldable pub pack_right : PackRow → Bool
pack_right x = same_packing (pack_within x.limits x.vertices x.list x.lent) x.answer x.left

-- an unpacking
pub record UnpackRow : Type 0 where
  pub bytes : List ℕ
  pub lent : Buffers
  pub answer : Answer
  pub left : Buffers

abbrev pub same_unpacking : UnpackResult → Answer → Buffers → Bool
same_unpacking r a b =
    same_answer r.answer a && equal r.buffers.triangles b.triangles && equal_places r.buffers.places b.places

unfoldable pub unpack_right : UnpackRow → Bool
unpack_right x = same_unpacking (unpack x.bytes x.lent) x.answer x.left

-- a packing with positions and a note, if they are given
pub record WholePackRow : Type 0 where
  pub limits : Most
  pub vertices : ℕ
  pub list : List ℕ
  pub positions : Given (List ℤ)
  pub note : Given (List ℕ)
  pub lent : PackBuffers
  pub answer : Answer
  pub left : PackBuffers

unfoldable pub whole_pack_right : WholePackRow → Bool
whole_pack_right x =
    same_packing (pack_whole_within x.limits x.vertices x.list (extras x.positions x.note) x.lent) x.answer x.left

-- a pack that may have positions and a note: what unpacking it tells and leaves, the volume call, and the note handed back
pub record WholeRow : Type 0 where
  pub bytes : List ℕ
  pub lent : Buffers
  pub unpacking : UnpackResult
  pub measuring : VolumeResult
  pub note : List ℕ
  pub start : ℕ

abbrev pub written_six : Given ℤ → List ℕ
written_six not_given = []
written_six (given z) = signed z

abbrev pub same_volume : VolumeResult → VolumeResult → Bool
same_volume r s =
    same_answer r.answer s.answer && equal (written_six r.six) (written_six s.six)
    && equal r.buffers.triangles s.buffers.triangles && equal_places r.buffers.places s.buffers.places

-- the bench reader answers and writes as unpacking
abbrev pub same_bench : BenchResult → WholeRow → Bool
same_bench b x =
    same_unpacking (record { answer = b.answer; buffers = b.buffers }) x.unpacking.answer x.unpacking.buffers
    && equal b.note x.note && eqb b.start x.start

unfoldable pub whole_right : WholeRow → Bool
whole_right x =
    same_unpacking (unpack_noted x.bytes x.lent) x.unpacking.answer x.unpacking.buffers
    && same_volume (volume x.bytes x.lent) x.measuring && same_bench (bench x.bytes x.lent) x

-- a pack read by the furnace's own reader
pub record MeltRow : Type 0 where
  pub bytes : List ℕ
  pub told : Melted

abbrev pub written_melted : Melted → List ℕ
written_melted (Refused n) = 0 ∷ (n ∷ [])
written_melted (Six z) = 1 ∷ signed z

unfoldable pub melt_right : MeltRow → Bool
melt_right x = equal (written_melted (melt x.bytes)) (written_melted x.told)

-- a book as numbers
unfoldable pub written_ring : Ring → List ℕ
written_ring [] = []
written_ring (p ∷ ps) = vertex p ∷ (num (is_open p) ∷ written_ring ps)

unfoldable pub written_rings : List Ring → List ℕ
written_rings [] = []
written_rings (l ∷ ls) = length l ∷ (written_ring l ++ written_rings ls)

unfoldable pub written_edges : List Edge → List ℕ
written_edges [] = []
written_edges (d ∷ ds) = d.from ∷ (d.to ∷ written_edges ds)

abbrev pub written_machine : Machine → List ℕ
written_machine m =
    m.used ∷ m.edges ∷ m.most_places ∷ m.most_loops ∷ m.starts ∷ m.unions ∷ m.rims ∷ numbers_of m.triangles
    ++ written_rings m.loops

-- a list of calls; the first of them begins; what they answer, and what the book then holds
pub record CallRow : Type 0 where
  pub lengths : Lengths
  pub calls : List Call
  pub told : List Answer
  pub machine : List ℕ
  pub borders : List ℕ

abbrev pub counts : ℕ → ℕ → ℕ → ℕ → Counts
counts v t p l = record { vertices = v; triangles = t; places = p; loops = l }

abbrev pub same_book : Book → CallRow → Bool
same_book b x = equal (written_machine b.machine) x.machine && equal (written_edges b.borders) x.borders

abbrev pub no_book : Book
no_book = empty_book (counts 0 0 0 0)

unfoldable pub calls_right : CallRow → Bool
calls_right x =
    equal_answers (answers x.lengths no_book x.calls) x.told && same_book (after_all x.lengths no_book x.calls) x

-- counts and operations, and the pack that has them: written, and read back
pub record FieldsRow : Type 0 where
  pub stated : Counts
  pub ops : List ℕ
  pub bytes : List ℕ

abbrev pub written_fields : Fields → List ℕ
written_fields no_pack = []
written_fields (fields s ops) = s.vertices ∷ (s.triangles ∷ (s.places ∷ (s.loops ∷ ops)))

unfoldable pub fields_right : FieldsRow → Bool
fields_right x =
    equal (pack_bytes x.stated x.ops) x.bytes
    && equal (written_fields (fields_of x.bytes)) (written_fields (fields x.stated x.ops))

-- a look across an edge: the triangle's number, the corner and the vertex there, or nothing
pub record LookRow : Type 0 where
  pub list : List ℕ
  pub from : ℕ
  pub to : ℕ
  pub told : List ℕ

abbrev pub written_across : Across → List ℕ
written_across (Found n k z) = n ∷ (k ∷ (z ∷ []))
written_across Nothing = []

unfoldable pub look_right : LookRow → Bool
look_right x = equal (written_across (across x.from x.to (triangles_of x.list))) x.told

-- short forms for rows
abbrev pub totals_of : ℕ → ℕ → ℕ → ℤ → Totals
totals_of e r u x = record { edges = e; rims = r; unions = u; euler = x }

abbrev pub model_of : ℕ → ℕ → Totals → Answer
model_of v t x = unpacked (record { vertices = v; triangles = t; totals = x })

abbrev pub pack_lent : List ℕ → List Place → List ℕ → List ℕ → PackBuffers
pack_lent ns ps bs qs = record { numbering = ns; places = ps; pack = bs; order = qs }

abbrev pub unpack_lent : List ℕ → List Place → Buffers
unpack_lent ts ps = record { triangles = ts; places = ps }

abbrev pub unpack_told : Answer → Buffers → UnpackResult
unpack_told a r = record { answer = a; buffers = r }

abbrev pub volume_told : Answer → Given ℤ → Buffers → VolumeResult
volume_told a z r = record { answer = a; six = z; buffers = r }

abbrev pub lengths : ℕ → ℕ → Lengths
lengths t p = record { triangles = t; places = p }

-- all rows are right
unfoldable pub all_right : {A : Type 0} → (A → Bool) → List A → Bool
all_right f [] = true
all_right f (x ∷ xs) = elim (f x) [ true ↦ all_right f xs | false ↦ false ]
