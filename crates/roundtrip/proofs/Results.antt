-- What an answer tells of a packing and of an unpacking: which tests passed, and what was done.
-- Assumes nothing.
use Prim.Native.Nat.{ℕ, ◌≤◌}
use native.Mathlib.Omega.{arith}
use mathlib.Core.Bool.{Bool, true, false, ◌&&◌}
use mathlib.Core.List.{List}
use mathlib.Core.Path.{◌≡◌, refl, sym, ap, ◌∙◌}
use lib.ListN.{length}
use lib.Dec.{leb}
use borrow.Author.Tests.{leb-true}
use Rattle.rules.specs.declared.Counts.{Counts}
use Rattle.rules.specs.declared.Operation.{Operation}
use Rattle.rules.specs.declared.Model.{Model}
use Rattle.rules.specs.Checked.{Checked}
use Rattle.rules.specs.Checked.{Accepted, Refused}
use Rattle.rules.specs.Limits.{in_range}
use Rattle.rules.specs.Triangle.{triangles_of}
use Rattle.rules.specs.Fan.{one_fan_each}
use Rattle.rules.specs.Check.{check}
use Rattle.rules.specs.Machine.{Machine, as_stated, long_enough, totals}
use Rattle.rules.specs.Answer.{Answer, refusal, accepted, triangle, no_triangle, numbers, packed, unpacked}
use Rattle.rules.specs.Fields.{Fields, no_pack, fields, fields_of}
use Rattle.rules.specs.Choice.{Packing}
use Rattle.rules.specs.declared.Triangle.{Triangle}
use Rattle.rules.specs.Pack.{Chosen, stopped, chosen, Most, chosen_for, order_for, pack_of, PackBuffers, PackResult, pack_refused}
use Rattle.rules.specs.Pack.{PackContents}
use Rattle.rules.specs.Pack.{pack_done, pack_stored, contents_of, pack_chosen, pack_long_enough, order_long_enough, pack_checked}
use Rattle.rules.specs.Pack.{pack_within}
use Rattle.rules.specs.Pack as P
use Rattle.rules.specs.Buffer.{Buffers, lengths}
use Rattle.rules.specs.Unpack as U
use Rattle.rules.specs.Unpack.{Ran, completed, run_of, rest_fits, UnpackResult, unpack_refused, unpack_done, unpack_ended, unpack_run}
use Rattle.rules.specs.Unpack.{unpack_fields, unpack}
use Rattle.counting.proofs.Bools.{and_true}

-- a packing that was not refused
pub record PackedBy (h : Most) (v : ℕ) (xs : List ℕ) (r : PackBuffers) (n : ℕ) : Type 0 where
  pub accepted : check v xs ≡ Accepted
  pub enough : pack_long_enough v r ≡ true
  pub ordered : order_long_enough (triangles_of xs) r ≡ true
  pub operations : List Operation
  pub last : Packing
  pub chose : chosen_for h (triangles_of xs) ≡ chosen operations last
  pub long : n ≡ length (pack_of v (triangles_of xs) operations last)
  pub fits : length (pack_of v (triangles_of xs) operations last) ≤ length r.pack
  pub result : pack_within h v xs r
      ≡ pack_done (contents_of v (triangles_of xs) (order_for h (triangles_of xs)) operations last) r

abbrev pack_answer : PackResult → Answer
pack_answer p = p.answer

abbrev unpack_answer : UnpackResult → Answer
unpack_answer u = u.answer

abbrev kind : Answer → ℕ
kind (refusal n) = 0
kind accepted = 1
kind (triangle t) = 2
kind no_triangle = 3
kind (numbers x) = 4
kind (packed n) = 5
kind (unpacked m) = 6

abbrev length_in : Answer → ℕ
length_in (refusal n) = 0
length_in accepted = 0
length_in (triangle t) = 0
length_in no_triangle = 0
length_in (numbers x) = 0
length_in (packed n) = n
length_in (unpacked m) = 0

abbrev model_in : Model → Answer → Model
model_in d (refusal n) = d
model_in d accepted = d
model_in d (triangle t) = d
model_in d no_triangle = d
model_in d (numbers x) = d
model_in d (packed n) = d
model_in d (unpacked m) = m

pub not_packed : (n k : ℕ) → refusal k ≡ packed n → ⊥
not_packed n k e = let z : ◌≡◌ {A = ℕ} 0 5 = ap kind e in omega arith

not_unpacked : (m : Model) (k : ℕ) → refusal k ≡ unpacked m → ⊥
not_unpacked m k e = let z : ◌≡◌ {A = ℕ} 0 6 = ap kind e in omega arith

pub stored_done : (v : ℕ) (ts : List Triangle) (w : PackContents) (r : PackBuffers) → leb (length w.pack) (length r.pack) ≡ true
    → pack_stored v ts w r ≡ pack_done w r
stored_done v ts w r h = ap (λ (t : Bool). elim t [ true ↦ pack_done w r | false ↦ pack_refused 11 v ts r ]) h

pub stored_refused : (v : ℕ) (ts : List Triangle) (w : PackContents) (r : PackBuffers) → leb (length w.pack) (length r.pack) ≡ false
    → pack_stored v ts w r ≡ pack_refused 11 v ts r
stored_refused v ts w r h = ap (λ (t : Bool). elim t [ true ↦ pack_done w r | false ↦ pack_refused 11 v ts r ]) h

-- a list that passes 1 to 8 and 22
pub within_checked : (h : Most) (v : ℕ) (xs : List ℕ) (r : PackBuffers) → check v xs ≡ Accepted → pack_long_enough v r ≡ true
    → order_long_enough (triangles_of xs) r ≡ true
    → pack_within h v xs r ≡ pack_chosen v (triangles_of xs) r (order_for h (triangles_of xs)) (chosen_for h (triangles_of xs))
unfolding pack_checked
within_checked h v xs r a k l =
    let ts = triangles_of xs in
    let p = pack_chosen v ts r (order_for h ts) (chosen_for h ts) in
    ap (pack_checked h v ts r) a
    ∙ (ap (λ (t : Bool). elim t [
      | true ↦ elim (order_long_enough ts r) [ true ↦ p | false ↦ P.turned_down 22 r ]
      | false ↦ P.turned_down 8 r
    ]) k
    ∙ ap (λ (t : Bool). elim t [ true ↦ p | false ↦ P.turned_down 22 r ]) l)

module _ (h : Most) (v : ℕ) (xs : List ℕ) (r : PackBuffers) (n : ℕ) where
  abbrev ts : List Triangle
  ts = triangles_of xs

  abbrev qs : List ℕ
  qs = order_for h (triangles_of xs)

  -- what passes 1 to 8 and 22
  abbrev Passed : Type 0
  Passed = (check v xs ≡ Accepted) × (pack_long_enough v r ≡ true) × (order_long_enough ts r ≡ true)

  at_store : (os : List Operation) (s : Packing) (t : Bool) → Passed → chosen_for h ts ≡ chosen os s
      → leb (length (pack_of v ts os s)) (length r.pack) ≡ t
      → ◌≡◌ {A = Answer} (pack_answer (elim t [ true ↦ pack_done (contents_of v ts qs os s) r | false ↦ pack_refused 11 v ts r ]))
      (packed n)
      → PackedBy h v xs r n
  unfolding pack_chosen
  at_store os s true a c l q = record {
    accepted = a.0;
    enough = a.1;
    ordered = a.2;
    operations = os;
    last = s;
    chose = c;
    long = sym (ap length_in q);
    fits = leb-true _ _ l;
    result =
        within_checked h v xs r a.0 a.1 a.2
        ∙ (ap (pack_chosen v ts r qs) c ∙ stored_done v ts (contents_of v ts qs os s) r l);
  }
  at_store os s false a c l q = absurd (not_packed n 11 q)

  at_chosen : (x : Chosen) → Passed → chosen_for h ts ≡ x → (pack_chosen v ts r qs x).answer ≡ packed n → PackedBy h v xs r n
  unfolding pack_chosen
  at_chosen (stopped k) a c q = absurd (not_packed n k q)
  at_chosen (chosen os s) a c q = at_store os s (leb (length (pack_of v ts os s)) (length r.pack)) a c refl q

  at_enough : (t u : Bool) → check v xs ≡ Accepted → pack_long_enough v r ≡ t → order_long_enough ts r ≡ u
      → ◌≡◌ {A = Answer}
      (pack_answer (elim t [
        | true ↦ elim u [ true ↦ pack_chosen v ts r qs (chosen_for h ts) | false ↦ P.turned_down 22 r ]
        | false ↦ P.turned_down 8 r
      ])) (packed n)
      → PackedBy h v xs r n
  at_enough true true a k l q = at_chosen (chosen_for h ts) (a, k, l) refl q
  at_enough true false a k l q = absurd (not_packed n 22 q)
  at_enough false u a k l q = absurd (not_packed n 8 q)

  at_check : (c : Checked) → check v xs ≡ c → (pack_checked h v ts r c).answer ≡ packed n → PackedBy h v xs r n
  unfolding pack_checked
  at_check Accepted a q = at_enough (pack_long_enough v r) (order_long_enough ts r) a refl refl q
  at_check (Refused k) a q = absurd (not_packed n k q)

  pub packed_by : (pack_within h v xs r).answer ≡ packed n → PackedBy h v xs r n
  packed_by e = at_check (check v xs) refl e

-- an unpacking that was not refused
pub record UnpackedBy (bytes : List ℕ) (r : Buffers) (m : Model) : Type 0 where
  pub counts : Counts
  pub ops : List ℕ
  pub found : fields_of bytes ≡ fields counts ops
  pub range : in_range counts ≡ true
  pub enough : long_enough (lengths r) counts ≡ true
  pub end : Machine
  pub left : List ℕ
  pub ran : run_of counts ops ≡ completed end left
  pub rest : rest_fits left ≡ true
  pub stated : as_stated end ≡ true
  pub fans : one_fan_each end.used end.triangles ≡ true
  pub model : m ≡ record { vertices = counts.vertices; triangles = counts.triangles; totals = totals end }
  pub result : unpack bytes r ≡ unpack_done counts (totals end) end.triangles r

pub ended_done : (s : Counts) (r : Buffers) (e : Machine) (b : Bool) → b && as_stated e ≡ true → one_fan_each e.used e.triangles ≡ true
    → unpack_ended s r e b ≡ unpack_done s (totals e) e.triangles r
ended_done s r e b h k =
    ap (λ (t : Bool). elim t [
      | true ↦ elim (one_fan_each e.used e.triangles) [ true ↦ unpack_done s (totals e) e.triangles r | false ↦ unpack_refused 20 s r ]
      | false ↦ unpack_refused 19 s r
    ]) h
    ∙ ap (λ (t : Bool). elim t [ true ↦ unpack_done s (totals e) e.triangles r | false ↦ unpack_refused 20 s r ]) k

-- bytes that pass 12 to 14
pub fields_run : (bytes : List ℕ) (r : Buffers) (s : Counts) (ops : List ℕ) → fields_of bytes ≡ fields s ops → in_range s ≡ true
    → long_enough (lengths r) s ≡ true
    → unpack bytes r ≡ unpack_run s r (run_of s ops)
unfolding unpack_fields
fields_run bytes r s ops f i k =
    ap (unpack_fields r) f
    ∙ (ap (λ (t : Bool). elim t [
      | true ↦ elim (long_enough (lengths r) s) [ true ↦ unpack_run s r (run_of s ops) | false ↦ U.turned_down 14 r ]
      | false ↦ U.turned_down 13 r
    ]) i
    ∙ ap (λ (t : Bool). elim t [ true ↦ unpack_run s r (run_of s ops) | false ↦ U.turned_down 14 r ]) k)

pub unpacked_by : (bytes : List ℕ) (r : Buffers) (m : Model) → (unpack bytes r).answer ≡ unpacked m → UnpackedBy bytes r m
unfolding unpack_fields unpack_run
unpacked_by bytes r m e = at_fields (fields_of bytes) refl e
  where
    at_end : (s : Counts) (ops : List ℕ) (k : Machine) (ys : List ℕ) (t u : Bool) → fields_of bytes ≡ fields s ops → in_range s ≡ true
        → long_enough (lengths r) s ≡ true
        → run_of s ops ≡ completed k ys → rest_fits ys && as_stated k ≡ t → one_fan_each k.used k.triangles ≡ u
        → ◌≡◌ {A = Answer}
        (unpack_answer (elim t [
          | true ↦ elim u [ true ↦ unpack_done s (totals k) k.triangles r | false ↦ unpack_refused 20 s r ]
          | false ↦ unpack_refused 19 s r
        ]))
        (unpacked m)
        → UnpackedBy bytes r m
    at_end s ops k ys true true f i w d a b q =
        let z = and_true (rest_fits ys) (as_stated k) a in
        record {
          counts = s;
          ops = ops;
          found = f;
          range = i;
          enough = w;
          end = k;
          left = ys;
          ran = d;
          rest = z.0;
          stated = z.1;
          fans = b;
          model = sym (ap (model_in m) q);
          result = fields_run bytes r s ops f i w ∙ (ap (unpack_run s r) d ∙ ended_done s r k (rest_fits ys) a b);
        }
    at_end s ops k ys true false f i w d a b q = absurd (not_unpacked m 20 q)
    at_end s ops k ys false u f i w d a b q = absurd (not_unpacked m 19 q)

    at_run : (s : Counts) (ops : List ℕ) (x : Ran) → fields_of bytes ≡ fields s ops → in_range s ≡ true → long_enough (lengths r) s ≡ true
        → run_of s ops ≡ x
        → (unpack_run s r x).answer ≡ unpacked m → UnpackedBy bytes r m
    at_run s ops (U.stopped n) f i w d q = absurd (not_unpacked m n q)
    at_run s ops (completed k ys) f i w d q =
        at_end s ops k ys (rest_fits ys && as_stated k) (one_fan_each k.used k.triangles) f i w d refl refl q

    at_counts : (s : Counts) (ops : List ℕ) (t u : Bool) → fields_of bytes ≡ fields s ops → in_range s ≡ t → long_enough (lengths r) s ≡ u
        → ◌≡◌ {A = Answer}
        (unpack_answer (elim t [
          | true ↦ elim u [ true ↦ unpack_run s r (run_of s ops) | false ↦ U.turned_down 14 r ]
          | false ↦
              U.turned_down 13 r
        ])) (unpacked m)
        → UnpackedBy bytes r m
    at_counts s ops true true f i w q = at_run s ops (run_of s ops) f i w refl q
    at_counts s ops true false f i w q = absurd (not_unpacked m 14 q)
    at_counts s ops false u f i w q = absurd (not_unpacked m 13 q)

    at_fields : (x : Fields) → fields_of bytes ≡ x → (unpack_fields r x).answer ≡ unpacked m → UnpackedBy bytes r m
    at_fields no_pack f q = absurd (not_unpacked m 12 q)
    at_fields (fields s ops) f q = at_counts s ops (in_range s) (long_enough (lengths r) s) f refl refl q
