-- How many place records an unpacking clears is read off its answer: 12 to 14 are given before any is cleared, 15 to 20 past that.
-- Assumes nothing.
use Prim.Native.Nat.{ℕ, zero, suc, ◌*◌, ◌≤◌, ◌<◌}
use native.Mathlib.Omega.{arith}
use mathlib.Core.Bool.{Bool, true, false, ◌&&◌}
use mathlib.Core.List.{List}
use mathlib.Core.Path.{◌≡◌, refl, sym, subst}
use lib.ListN.{length}
use lib.Dec.{leb}
use borrow.Author.Tests.{leb-true, lt-leb}
use Rattle.rules.specs.declared.Counts.{Counts}
use Rattle.rules.specs.declared.Place.{Place}
use Rattle.rules.specs.Unpacked.{Unpacked}
use Rattle.rules.specs.Unpacked as U
use Rattle.rules.specs.Limits.{max_places, in_range}
use Rattle.rules.specs.Fan.{one_fan_each}
use Rattle.rules.specs.Code.{Read, breaks_off, read, read_operation}
use Rattle.rules.specs.Table.{Effect, not_allowed, builds, marks, effect}
use Rattle.rules.specs.Machine.{Machine, Step, refused, begun, built, declared, finished, test, done, operation, complete, as_stated}
use Rattle.rules.specs.Machine.{totals}
use Rattle.rules.specs.Machine.{long_enough, empty}
use Rattle.rules.specs.Answer.{Answer, refusal, accepted, triangle, no_triangle, numbers, packed, unpacked, unpacked_answer}
use Rattle.rules.specs.Bits.{bits_of_bytes}
use Rattle.rules.specs.Buffer.{cleared, Buffers, lengths}
use Rattle.rules.specs.Fields.{Fields, no_pack, fields, fields_of}
use Rattle.rules.specs.Unpack.{Ran, stopped, completed, run_all, run_of, rest_fits, UnpackResult, turned_down, unpack_refused, unpack_done}
use Rattle.rules.specs.Unpack.{unpack_run, unpack_fields, unpack}
use Rattle.unpack_theory.specs.Lent.{cleared_by}
use Rattle.counting.proofs.Bools.{and_right}
use Rattle.border_theory.proofs.Records.Clearing.{Clears, clears_none, clears_first}

-- a call that is refused by 15 or a number above it, or is not refused
abbrev LateStep : Step → Type 0
LateStep (refused k) = 14 < k
LateStep (begun m) = Unit {0}
LateStep (built t m) = Unit {0}
LateStep (declared d m) = Unit {0}
LateStep (finished x) = Unit {0}

late_test : (b : Bool) (n : ℕ) (s : Step) → 14 < n → LateStep s → LateStep (test b n s)
unfolding test
late_test true n s h e = e
late_test false n s h e = h

late_done : (m : Machine) (e : Effect) → LateStep (done m e)
unfolding done
late_done m not_allowed = omega arith
late_done m (builds x) = late_test _ 17 _ (omega arith) (late_test _ 18 _ (omega arith) tt)
late_done m (marks x) = late_test _ 17 _ (omega arith) tt

-- so the run's refusals are late
abbrev Late : Ran → Type 0
Late (stopped k) = 14 < k
Late (completed m xs) = Unit {0}

late_step : (n : ℕ) (ys : List ℕ) (s : Step) → LateStep s → ((m : Machine) → Late (run_all n m ys))
    → Late (elim s [
      | refused k ↦ stopped k
      | begun m' ↦ stopped 16
      | built t m' ↦ run_all n m' ys
      | declared d m' ↦
          run_all n m' ys
      | finished x ↦ stopped 16
    ])
late_step n ys (refused k) h ih = h
late_step n ys (begun m) h ih = omega arith
late_step n ys (built t m) h ih = ih m
late_step n ys (declared d m) h ih = ih m
late_step n ys (finished x) h ih = omega arith

late_read : (n : ℕ) (m : Machine) (r : Read) → ((k : Machine) (ys : List ℕ) → Late (run_all n k ys))
    → Late
    (elim r [
      | breaks_off ↦ stopped 15
      | read o ys ↦ elim (operation m o) [
        | refused k ↦ stopped k
        | begun m' ↦ stopped 16
        | built t m' ↦ run_all n m' ys
        | declared d m' ↦ run_all n m' ys
        | finished x ↦
            stopped 16
      ]
    ])
late_read n m breaks_off ih = omega arith
late_read n m (read o ys) ih = late_step n ys (operation m o) (late_done m (effect o m.used m.loops)) (λ k. ih k ys)

late_complete : (m : Machine) (xs : List ℕ) (b : Bool) (r : Ran) → Late r → Late (elim b [ true ↦ completed m xs | false ↦ r ])
late_complete m xs true r h = tt
late_complete m xs false r h = h

late_run : (n : ℕ) (m : Machine) (xs : List ℕ) → Late (run_all n m xs)
unfolding run_all
late_run zero m xs = omega arith
late_run (suc n) m xs = late_complete m xs (complete m) _ (late_read n m (read_operation xs) (λ k ys. late_run n k ys))

-- how many are cleared after an answer
abbrev pub cleared_after : Answer → ℕ
cleared_after (refusal k) = elim (leb k 14) [ true ↦ 0 | false ↦ max_places ]
cleared_after accepted = max_places
cleared_after (triangle t) = max_places
cleared_after no_triangle = max_places
cleared_after (numbers x) = max_places
cleared_after (packed n) = max_places
cleared_after (unpacked m) = max_places

pub cleared_by_lem : (r : Unpacked) → cleared_by r ≡ cleared_after (unpacked_answer r)
cleared_by_lem (U.Gives m) = refl
cleared_by_lem (U.Refused k) = refl

-- a call that was lent r, answers a and leaves r' has cleared as many as its answer says
abbrev pub ClearsBy : Buffers → Answer → Buffers → Type 0
ClearsBy r a r' = Clears r.places (cleared_after a) r'.places

abbrev Told : Buffers → UnpackResult → Type 0
Told r x = ClearsBy r x.answer x.buffers

run_clears : (s : Counts) (r : Buffers) (R : Ran) → Late R → max_places ≤ length {A = Place} r.places → Told r (unpack_run s r R)
unfolding unpack_run
run_clears s r (stopped k) h l =
    subst (λ (b : Bool). Clears r.places (elim b [ true ↦ 0 | false ↦ max_places ]) (cleared r.places)) (sym (lt-leb k 14 h))
    (clears_first r.places l)
run_clears s r (completed m xs) h l = go (rest_fits xs && as_stated m) (one_fan_each m.used m.triangles)
  where
    go : (a b : Bool)
        → Told r
        (elim a [
          | true ↦ elim b [ true ↦ unpack_done s (totals m) m.triangles r | false ↦ unpack_refused 20 s r ]
          | false ↦ unpack_refused 19 s r
        ])
    go true true = clears_first r.places l
    go true false = clears_first r.places l
    go false b = clears_first r.places l

fields_clear : (r : Buffers) (f : Fields) → Told r (unpack_fields r f)
unfolding unpack_fields
fields_clear r no_pack = clears_none r.places
fields_clear r (fields s ops) = go (in_range s) (long_enough (lengths r) s) refl
  where
    go : (a b : Bool) → long_enough (lengths r) s ≡ b
        → Told r (elim a [ true ↦ elim b [ true ↦ unpack_run s r (run_of s ops) | false ↦ turned_down 14 r ] | false ↦ turned_down 13 r ])
    go true true e =
        run_clears s r (run_of s ops) (late_run (suc (length (bits_of_bytes ops))) (empty s) (bits_of_bytes ops))
        (leb-true max_places (length {A = Place} r.places) (and_right (leb (3 * s.triangles) (length r.triangles)) _ e))
    go true false e = clears_none r.places
    go false b e = clears_none r.places

-- past 14 the first 1,024, before it none
pub unpack_clears : (bytes : List ℕ) (r : Buffers) → ClearsBy r (unpack bytes r).answer (unpack bytes r).buffers
unpack_clears bytes r = fields_clear r (fields_of bytes)
