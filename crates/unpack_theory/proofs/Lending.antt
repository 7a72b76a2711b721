-- Of the place list an unpacking's answer and triangles depend on its length only; and the answer of a run gives the unpacking's.
-- Assumes nothing.
use Prim.Native.Nat.{ℕ, ◌*◌, ◌≤◌}
use native.Mathlib.Omega.{arith}
use mathlib.Core.Bool.{Bool, true, false, ◌&&◌}
use mathlib.Core.List.{List, ◌++◌}
use mathlib.Core.Path.{◌≡◌, refl, sym, ap, ap₂, ◌∙◌, subst}
use lib.ListN.{length, replicate, length-replicate}
use lib.Dec.{leb}
use borrow.Author.Tests.{leb-true}
use Rattle.rules.specs.declared.Counts.{Counts}
use Rattle.rules.specs.declared.Place.{Place}
use Rattle.rules.specs.declared.Model.{Model}
use Rattle.rules.specs.Unpacked.{Unpacked}
use Rattle.rules.specs.Unpacked as U
use Rattle.rules.specs.Limits.{max_places, in_range}
use Rattle.rules.specs.Fan.{one_fan_each}
use Rattle.rules.specs.Machine.{Machine, as_stated, totals, long_enough}
use Rattle.rules.specs.Answer.{refusal, unpacked, unpacked_answer}
use Rattle.rules.specs.Buffer.{free_place, over, zeroed, Buffers, lengths}
use Rattle.rules.specs.Fields.{Fields, no_pack, fields, fields_of}
use Rattle.rules.specs.Unpack.{Ran, stopped, completed, run_of, numbers_of, rest_fits, UnpackResult, turned_down, unpack_refused}
use Rattle.rules.specs.Unpack.{unpack_done}
use Rattle.rules.specs.Unpack.{unpack_ended, unpack_run, unpack_fields}
use Rattle.border_theory.specs.Records.Lent.{lent}
use Rattle.unpack_theory.specs.Stepped.{Stepped, Going, Refused}
use Rattle.counting.proofs.Bools.{and_left}
use Rattle.unpack_theory.specs.Runs.{Beyond, bits_from, end_by, end_answer, Ends, Answers, tidied}
use Rattle.unpack_theory.specs.Lent.{unpack_on}
use Rattle.unpack_theory.proofs.Ending.{whole_over}

-- two tests: both passed, the second failed, the first failed
abbrev pick : Bool → Bool → UnpackResult → UnpackResult → UnpackResult → UnpackResult
pick true true x y z = x
pick true false x y z = y
pick false b x y z = z

picked : (a b : Bool) (x y z : UnpackResult) → elim a [ true ↦ elim b [ true ↦ x | false ↦ y ] | false ↦ z ] ≡ pick a b x y z
picked true true x y z = refl
picked true false x y z = refl
picked false b x y z = refl

ended_pick : (c : Counts) (r : Buffers) (M : Machine) (rest : Bool)
    → unpack_ended c r M rest
    ≡ pick (rest && as_stated M) (one_fan_each M.used M.triangles) (unpack_done c (totals M) M.triangles r) (unpack_refused 20 c r)
    (unpack_refused 19 c r)
ended_pick c r M rest =
    picked (rest && as_stated M) (one_fan_each M.used M.triangles) (unpack_done c (totals M) M.triangles r) (unpack_refused 20 c r)
    (unpack_refused 19 c r)

fields_pick : (r : Buffers) (s : Counts) (ops : List ℕ)
    → unpack_fields r (fields s ops)
    ≡ pick (in_range s) (long_enough (lengths r) s) (unpack_run s r (run_of s ops)) (turned_down 14 r) (turned_down 13 r)
unfolding unpack_fields
fields_pick r s ops =
    picked (in_range s) (long_enough (lengths r) s) (unpack_run s r (run_of s ops)) (turned_down 14 r) (turned_down 13 r)

pub fields_13 : (r : Buffers) (s : Counts) (ops : List ℕ) → in_range s ≡ false → unpack_fields r (fields s ops) ≡ turned_down 13 r
fields_13 r s ops h =
    fields_pick r s ops ∙ ap
    (λ (a : Bool). pick a (long_enough (lengths r) s) (unpack_run s r (run_of s ops)) (turned_down 14 r) (turned_down 13 r)) h

-- the same answer and triangles
pub record Alike (x y : UnpackResult) : Type 0 where
  pub answer : x.answer ≡ y.answer
  pub triangles : x.buffers.triangles ≡ y.buffers.triangles

alike_pick : (a b : Bool) (x y z x' y' z' : UnpackResult) → Alike x x' → Alike y y' → Alike z z'
    → Alike (pick a b x y z) (pick a b x' y' z')
alike_pick true true x y z x' y' z' h i j = h
alike_pick true false x y z x' y' z' h i j = i
alike_pick false b x y z x' y' z' h i j = j

module _ (r r' : Buffers) (e : r.triangles ≡ r'.triangles) where
  alike_down : (k : ℕ) → Alike (turned_down k r) (turned_down k r')
  alike_down k = record { answer = refl; triangles = e }

  alike_refused : (k : ℕ) (c : Counts) → Alike (unpack_refused k c r) (unpack_refused k c r')
  alike_refused k c = record { answer = refl; triangles = ap (zeroed (3 * c.triangles)) e }

  pub alike_run : (c : Counts) (R : Ran) → Alike (unpack_run c r R) (unpack_run c r' R)
  unfolding unpack_run
  alike_run c (stopped k) = alike_refused k c
  alike_run c (completed M xs) =
      rw (ended_pick c r M (rest_fits xs), ended_pick c r' M (rest_fits xs))
      (alike_pick (rest_fits xs && as_stated M) (one_fan_each M.used M.triangles) _ _ _ _ _ _
      (record { answer = refl; triangles = ap (over (numbers_of M.triangles)) e }) (alike_refused 20 c) (alike_refused 19 c))

  pub alike_fields : leb max_places (length {A = Place} r.places) ≡ leb max_places (length {A = Place} r'.places) → (f : Fields)
      → Alike (unpack_fields r f) (unpack_fields r' f)
  unfolding unpack_fields
  alike_fields h no_pack = alike_down 12
  alike_fields h (fields s ops) =
      let q : long_enough (lengths r) s ≡ long_enough (lengths r') s =
      ap₂ (λ (xs : List ℕ) (b : Bool). leb (3 * s.triangles) (length xs) && b) e h in
      rw (fields_pick r s ops, fields_pick r' s ops, q)
      (alike_pick (in_range s) (long_enough (lengths r') s) _ _ _ _ _ _ (alike_run s (run_of s ops)) (alike_down 14) (alike_down 13))

-- ---- 14, or the run

module _ (bytes : List ℕ) (n : ℕ) (ts : List ℕ) (s : Counts) (ops : List ℕ) (found : fields_of bytes ≡ fields s ops)
    (ranges : in_range s ≡ true) where
  on_pick : unpack_on bytes n ts
      ≡ pick true (leb (3 * s.triangles) (length ts) && leb max_places n) (unpack_run s (lent n ts) (run_of s ops))
      (turned_down 14 (lent n ts)) (turned_down 13 (lent n ts))
  on_pick =
      ap (unpack_fields (lent n ts)) found ∙ fields_pick (lent n ts) s ops
      ∙ ap₂ (λ (a : Bool) (k : ℕ).
      pick a (leb (3 * s.triangles) (length ts) && leb max_places k) (unpack_run s (lent n ts) (run_of s ops)) (turned_down 14 (lent n ts))
      (turned_down 13 (lent n ts)))
      ranges (length-replicate n free_place)

  -- one of the two is short
  module _ (short : leb (3 * s.triangles) (length ts) && leb max_places n ≡ false) where
    pub short_is : unpack_on bytes n ts ≡ turned_down 14 (lent n ts)
    short_is =
        on_pick ∙ ap (λ (b : Bool).
        pick true b (unpack_run s (lent n ts) (run_of s ops)) (turned_down 14 (lent n ts)) (turned_down 13 (lent n ts))) short

  module _ (long : leb (3 * s.triangles) (length ts) && leb max_places n ≡ true) where
    pub enough_is : unpack_on bytes n ts ≡ unpack_run s (lent n ts) (run_of s ops)
    enough_is =
        on_pick ∙ ap (λ (b : Bool).
        pick true b (unpack_run s (lent n ts) (run_of s ops)) (turned_down 14 (lent n ts)) (turned_down 13 (lent n ts))) long

-- ---- the answer and the triangles from the run's end

answer_pick : (a b : Bool) (m : Model) (x y z : UnpackResult) → x.answer ≡ unpacked m → y.answer ≡ refusal 20 → z.answer ≡ refusal 19
    → end_by a b (unpacked m) ≡ (pick a b x y z).answer
answer_pick true true m x y z h i j = sym h
answer_pick true false m x y z h i j = sym i
answer_pick false b m x y z h i j = sym j

not_model : (m : Model) (k : ℕ) → unpacked m ≡ refusal k → ⊥
not_model m k e = let z : ◌≡◌ {A = ℕ} 0 1 = cc in omega arith

triangles_pick : (r : Unpacked) (a b : Bool) (m : Model) (n : ℕ) (ts ts' : List ℕ) (x y z : UnpackResult)
    → unpacked_answer r ≡ end_by a b (unpacked m)
    → ts' ≡ x.buffers.triangles → zeroed n ts' ≡ y.buffers.triangles → zeroed n ts' ≡ z.buffers.triangles
    → tidied r n ts' ≡ (pick a b x y z).buffers.triangles
triangles_pick (U.Gives w) true true m n ts ts' x y z e h i j = h
triangles_pick (U.Gives w) true false m n ts ts' x y z e h i j = absurd (not_model w 20 e)
triangles_pick (U.Gives w) false b m n ts ts' x y z e h i j = absurd (not_model w 19 e)
triangles_pick (U.Refused k) true true m n ts ts' x y z e h i j = absurd (not_model m k (sym e))
triangles_pick (U.Refused k) true false m n ts ts' x y z e h i j = i
triangles_pick (U.Refused k) false b m n ts ts' x y z e h i j = j

tidied_refused : (r : Unpacked) (k n : ℕ) (ts : List ℕ) → unpacked_answer r ≡ refusal k → tidied r n ts ≡ zeroed n ts
tidied_refused (U.Gives w) k n ts e = absurd (not_model w k e)
tidied_refused (U.Refused j) k n ts e = refl

module _ (c : Counts) (ops ts : List ℕ) (n : ℕ) (R : Ran) (r : Unpacked) where
  zeroed_beyond : (ts' : List ℕ) → Beyond c ts ts' → zeroed (3 * c.triangles) ts' ≡ zeroed (3 * c.triangles) ts
  zeroed_beyond ts' b = ap (λ (l : List ℕ). replicate (3 * c.triangles) 0 ++ l) b

  pub run_answer : (e : Stepped) (ts' m' cs' ks' : List ℕ) → Ends R ops c e ts' m' cs' ks' → Answers ops e ts' cs' ks' (unpacked_answer r)
      → unpacked_answer r ≡ (unpack_run c (lent n ts) R).answer
  unfolding unpack_run
  run_answer (Refused k) ts' m' cs' ks' E A = A ∙ ap (λ (x : Ran). (unpack_run c (lent n ts) x).answer) (sym E)
  run_answer (Going s at) ts' m' cs' ks' E A =
      let M = E.last in
      let rest = rest_fits (bits_from ops at) in
      A M m' E.runs E.complete ∙ ap (λ (d : Counts). end_answer d M rest) E.stated
      ∙ answer_pick (rest && as_stated M) (one_fan_each M.used M.triangles)
      (record { vertices = c.vertices; triangles = c.triangles; totals = totals M })
      (unpack_done c (totals M) M.triangles (lent n ts)) (unpack_refused 20 c (lent n ts)) (unpack_refused 19 c (lent n ts)) refl refl refl
      ∙ ap (λ (x : UnpackResult). x.answer) (sym (ended_pick c (lent n ts) M rest))
      ∙ ap (λ (x : Ran). (unpack_run c (lent n ts) x).answer) (sym E.ran)

  pub run_triangles : (e : Stepped) (ts' m' cs' ks' : List ℕ) → Ends R ops c e ts' m' cs' ks' → Beyond c ts ts'
      → Answers ops e ts' cs' ks' (unpacked_answer r)
      → tidied r (3 * c.triangles) ts' ≡ (unpack_run c (lent n ts) R).buffers.triangles
  unfolding unpack_run
  run_triangles (Refused k) ts' m' cs' ks' E b A =
      tidied_refused r k (3 * c.triangles) ts' A ∙ zeroed_beyond ts' b
      ∙ ap (λ (x : Ran). (unpack_run c (lent n ts) x).buffers.triangles) (sym E)
  run_triangles (Going s at) ts' m' cs' ks' E b A =
      let M = E.last in
      let rest = rest_fits (bits_from ops at) in
      let whole = whole_over M s ts' m' cs' ks' E.runs E.complete ts (subst (λ (d : Counts). Beyond d ts ts') (sym E.stated) b) in
      triangles_pick r (rest && as_stated M) (one_fan_each M.used M.triangles)
      (record { vertices = c.vertices; triangles = c.triangles; totals = totals M })
      (3 * c.triangles) ts ts' (unpack_done c (totals M) M.triangles (lent n ts)) (unpack_refused 20 c (lent n ts))
      (unpack_refused 19 c (lent n ts))
      (A M m' E.runs E.complete ∙ ap (λ (d : Counts). end_answer d M rest) E.stated) whole (zeroed_beyond ts' b)
      (zeroed_beyond ts' b)
      ∙ ap (λ (x : UnpackResult). x.buffers.triangles) (sym (ended_pick c (lent n ts) M rest))
      ∙ ap (λ (x : Ran). (unpack_run c (lent n ts) x).buffers.triangles) (sym E.ran)
