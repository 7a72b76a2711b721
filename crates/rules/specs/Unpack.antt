-- The list of a pack: 12 to 20, and what each buffer holds afterwards.
-- Assumes nothing.
use Rattle.std.specs.Prelude.{ℕ, zero, suc, ◌*◌, Bool, true, false, ◌&&◌, List, [], ◌∷◌, ◌++◌, length, ltb}
use Rattle.rules.specs.declared.Triangle.{Triangle}
use Rattle.rules.specs.declared.Counts.{Counts}
use Rattle.rules.specs.declared.Totals.{Totals}
use Rattle.rules.specs.Limits.{in_range}
use Rattle.rules.specs.Fan.{one_fan_each}
use Rattle.rules.specs.Machine.{Machine, empty, refused, begun, built, declared, finished, operation, complete, long_enough, as_stated}
use Rattle.rules.specs.Machine.{totals}
use Rattle.rules.specs.Answer.{Answer, refusal, unpacked}
use Rattle.rules.specs.Bits.{bits_of_bytes, all_zero}
use Rattle.rules.specs.Code.{breaks_off, read, read_operation}
use Rattle.rules.specs.Fields.{Fields, no_pack, fields, fields_of}
use Rattle.rules.specs.Buffer.{over, zeroed, cleared, Buffers, lengths}

-- the operations run until the model is complete: the machine and the bits that are left, or the refusal of 15 to 18
pub data Ran : Type 0 where
  stopped : ℕ → Ran
  completed : Machine → List ℕ → Ran

-- by at most n operations; n is above the number of bits, and each operation takes three or more, so that it never runs out
-- (`count_is_enough`, crate roundtrip). An operation is never a beginning or a finish, so that these two lines are never met.
unfoldable pub run_all : ℕ → Machine → List ℕ → Ran
run_all zero m xs = stopped 15
run_all (suc n) m xs =
    elim (complete m) [
      | true ↦ completed m xs
      | false ↦ elim (read_operation xs) [
        | breaks_off ↦ stopped 15
        | read o ys ↦ elim (operation m o) [
          | refused k ↦ stopped k
          | begun m' ↦ stopped 16
          | built t m' ↦ run_all n m' ys
          | declared d m' ↦ run_all n m' ys
          | finished x ↦ stopped 16
        ]
      ]
    ]

abbrev pub run_of : Counts → List ℕ → Ran
run_of s ops = let xs = bits_of_bytes ops in run_all (suc (length xs)) (empty s) xs

-- 19: no whole byte is left over, and the fill bits are zero
abbrev pub rest_fits : List ℕ → Bool
rest_fits xs = ltb (length xs) 8 && all_zero xs

-- the numbers of the triangles, the latest first, in the order in which they were built
unfoldable pub numbers_of : List Triangle → List ℕ
numbers_of [] = []
numbers_of (t ∷ ts) = numbers_of ts ++ (t.p ∷ (t.q ∷ (t.r ∷ [])))

-- what an unpacking answers and leaves in its buffers
pub record UnpackResult : Type 0 where
  pub answer : Answer
  pub buffers : Buffers

-- after 12 to 14 no buffer has changed
abbrev pub turned_down : ℕ → Buffers → UnpackResult
turned_down n r = record { answer = refusal n; buffers = r }

-- after 15 to 20 the first 3T triangle entries are zero
abbrev pub unpack_refused : ℕ → Counts → Buffers → UnpackResult
unpack_refused n s r = record {
  answer = refusal n;
  buffers = record { triangles = zeroed (3 * s.triangles) r.triangles; places = cleared r.places };
}

abbrev pub unpack_done : Counts → Totals → List Triangle → Buffers → UnpackResult
unpack_done s x ts r = record {
  answer = unpacked (record { vertices = s.vertices; triangles = s.triangles; totals = x });
  buffers = record { triangles = over (numbers_of ts) r.triangles; places = cleared r.places };
}

-- 19, 20
abbrev pub unpack_ended : Counts → Buffers → Machine → Bool → UnpackResult
unpack_ended s r m rest =
    elim (rest && as_stated m) [
      | true ↦ elim (one_fan_each m.used m.triangles) [
        | true ↦ unpack_done s (totals m) m.triangles r
        | false ↦ unpack_refused 20 s r
      ]
      | false ↦ unpack_refused 19 s r
    ]

unfoldable pub unpack_run : Counts → Buffers → Ran → UnpackResult
unpack_run s r (stopped n) = unpack_refused n s r
unpack_run s r (completed m xs) = unpack_ended s r m (rest_fits xs)

-- 13, 14
unfoldable pub unpack_fields : Buffers → Fields → UnpackResult
unpack_fields r no_pack = turned_down 12 r
unpack_fields r (fields s ops) =
    elim (in_range s) [
      | true ↦ elim (long_enough (lengths r) s) [ true ↦ unpack_run s r (run_of s ops) | false ↦ turned_down 14 r ]
      | false ↦ turned_down 13 r
    ]

-- unpacking any bytes
abbrev pub unpack : List ℕ → Buffers → UnpackResult
unpack bytes r = unpack_fields r (fields_of bytes)
