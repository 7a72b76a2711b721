-- What is read in the bytes, and what is written there, of the numbers that they stand for.
-- Assumes nothing.
use Prim.Native.Nat.{ℕ, zero, suc, ◌+◌, ◌*◌, ◌/◌, ◌%◌, ◌≤◌, ◌<◌}
use native.Mathlib.Omega.{arith}
use mathlib.Core.List.{List, [], ◌∷◌}
use mathlib.Core.Path.{◌≡◌, refl, ap, ap₂}
use lib.ListN.{length, set}
use Rattle.rules.specs.Limits.{furnace_places}
use Rattle.border_theory.specs.Memory.Layout.{at, vertex_of, before_of, after_of, open_of}
use Rattle.cells_theory.specs.Bytes.{records_then, numbers, Whole}

length_records : (n : ℕ) (bs : List ℕ) → length (records_then n bs) ≡ length bs
unfolding records_then
length_records zero bs = refl
length_records (suc n) [] = refl
length_records (suc n) (v ∷ []) = refl
length_records (suc n) (v ∷ (b ∷ [])) = refl
length_records (suc n) (v ∷ (b ∷ (a ∷ []))) = refl
length_records (suc n) (v ∷ (b ∷ (a ∷ (o ∷ bs)))) = ap (λ (k : ℕ). suc (suc (suc (suc k)))) (length_records n bs)

pub length_numbers : (bs : List ℕ) → length (numbers bs) ≡ length bs
length_numbers bs = length_records 200 bs

-- the next record, and the numbers past one more record
next : (p k : ℕ) → 4 * suc p + k ≡ suc (suc (suc (suc (4 * p + k))))
next p k = omega arith

-- the four numbers of record p, where the memory has n records
record Read (n p : ℕ) (bs : List ℕ) : Type 0 where
  vertex : at (records_then n bs) (4 * p + 0) ≡ at bs (4 * p + 0) + 256 * (at bs (4 * p + 3) / 2)
  before : at (records_then n bs) (4 * p + 1) ≡ at bs (4 * p + 1)
  after : at (records_then n bs) (4 * p + 2) ≡ at bs (4 * p + 2)
  is_open : at (records_then n bs) (4 * p + 3) ≡ at bs (4 * p + 3) % 2

read : (n p : ℕ) (bs : List ℕ) → p < n → 4 * p + 3 < length bs → Read n p bs
unfolding records_then
read zero p bs l h = absurd (omega arith)
read (suc n) p [] l h = absurd (omega arith)
read (suc n) p (v ∷ []) l h = absurd (omega arith)
read (suc n) p (v ∷ (b ∷ [])) l h = absurd (omega arith)
read (suc n) p (v ∷ (b ∷ (a ∷ []))) l h = absurd (omega arith)
read (suc n) zero (v ∷ (b ∷ (a ∷ (o ∷ bs)))) l h = record { vertex = refl; before = refl; after = refl; is_open = refl }
read (suc n) (suc p) (v ∷ (b ∷ (a ∷ (o ∷ bs)))) l h =
    let r = read n p bs (omega arith) (omega arith) in
    record {
      vertex = rw (next p 0, next p 3) r.vertex;
      before = rw (next p 1) r.before;
      after = rw (next p 2) r.after;
      is_open = rw (next p 3) r.is_open;
    }

-- the numbers after something is written in record p
record Written (n p : ℕ) (bs : List ℕ) : Type 0 where
  vertex : (v low rest : ℕ) → low + 256 * (rest / 2) ≡ v → rest % 2 ≡ at bs (4 * p + 3) % 2
      → records_then n (set (set bs (4 * p + 0) low) (4 * p + 3) rest) ≡ set (records_then n bs) (4 * p + 0) v
  before : (x : ℕ) → records_then n (set bs (4 * p + 1) x) ≡ set (records_then n bs) (4 * p + 1) x
  after : (x : ℕ) → records_then n (set bs (4 * p + 2) x) ≡ set (records_then n bs) (4 * p + 2) x
  is_open : (x o : ℕ) → x % 2 ≡ o → x / 2 ≡ at bs (4 * p + 3) / 2
      → records_then n (set bs (4 * p + 3) x) ≡ set (records_then n bs) (4 * p + 3) o

-- under a record before
under : (v b a o : ℕ) {xs ys : List ℕ} → xs ≡ ys → v ∷ (b ∷ (a ∷ (o ∷ xs))) ≡ v ∷ (b ∷ (a ∷ (o ∷ ys)))
under v b a o e = ap (λ (zs : List ℕ). v ∷ (b ∷ (a ∷ (o ∷ zs)))) e

written : (n p : ℕ) (bs : List ℕ) → p < n → 4 * p + 3 < length bs → Written n p bs
unfolding records_then
written zero p bs l h = absurd (omega arith)
written (suc n) p [] l h = absurd (omega arith)
written (suc n) p (v ∷ []) l h = absurd (omega arith)
written (suc n) p (v ∷ (b ∷ [])) l h = absurd (omega arith)
written (suc n) p (v ∷ (b ∷ (a ∷ []))) l h = absurd (omega arith)
written (suc n) zero (v ∷ (b ∷ (a ∷ (o ∷ bs)))) l h = record {
  vertex = λ u low rest e f. ap₂ (λ (x y : ℕ). x ∷ (b ∷ (a ∷ (y ∷ records_then n bs)))) e f;
  before = λ x. refl;
  after = λ x. refl;
  is_open = λ x q e f. ap₂ (λ (y z : ℕ). (v + 256 * y) ∷ (b ∷ (a ∷ (z ∷ records_then n bs)))) f e;
}
written (suc n) (suc p) (v ∷ (b ∷ (a ∷ (o ∷ bs)))) l h =
    let w = written n p bs (omega arith) (omega arith) in
    record {
      vertex = λ u low rest e f.
          rw (next p 0, next p 3) (under _ _ _ _ (w.vertex u low rest e (rw (next p 3) at f)));
      before = λ x. rw (next p 1) (under _ _ _ _ (w.before x));
      after = λ x. rw (next p 2) (under _ _ _ _ (w.after x));
      is_open = λ x q e f. rw (next p 3) (under _ _ _ _ (w.is_open x q e (rw (next p 3) at f)));
    }

-- past the records
past_read : (n : ℕ) (bs : List ℕ) (i : ℕ) → 4 * n ≤ i → 4 * n ≤ length bs → at (records_then n bs) i ≡ at bs i
unfolding records_then
past_read zero bs i l h = refl
past_read (suc n) [] i l h = absurd (omega arith)
past_read (suc n) (v ∷ []) i l h = absurd (omega arith)
past_read (suc n) (v ∷ (b ∷ [])) i l h = absurd (omega arith)
past_read (suc n) (v ∷ (b ∷ (a ∷ []))) i l h = absurd (omega arith)
past_read (suc n) (v ∷ (b ∷ (a ∷ (o ∷ bs)))) zero l h = absurd (omega arith)
past_read (suc n) (v ∷ (b ∷ (a ∷ (o ∷ bs)))) (suc zero) l h = absurd (omega arith)
past_read (suc n) (v ∷ (b ∷ (a ∷ (o ∷ bs)))) (suc (suc zero)) l h = absurd (omega arith)
past_read (suc n) (v ∷ (b ∷ (a ∷ (o ∷ bs)))) (suc (suc (suc zero))) l h = absurd (omega arith)
past_read (suc n) (v ∷ (b ∷ (a ∷ (o ∷ bs)))) (suc (suc (suc (suc i)))) l h = past_read n bs i (omega arith) (omega arith)

past_written : (n : ℕ) (bs : List ℕ) (i x : ℕ) → 4 * n ≤ i → 4 * n ≤ length bs → records_then n (set bs i x) ≡ set (records_then n bs) i x
unfolding records_then
past_written zero bs i x l h = refl
past_written (suc n) [] i x l h = absurd (omega arith)
past_written (suc n) (v ∷ []) i x l h = absurd (omega arith)
past_written (suc n) (v ∷ (b ∷ [])) i x l h = absurd (omega arith)
past_written (suc n) (v ∷ (b ∷ (a ∷ []))) i x l h = absurd (omega arith)
past_written (suc n) (v ∷ (b ∷ (a ∷ (o ∷ bs)))) zero x l h = absurd (omega arith)
past_written (suc n) (v ∷ (b ∷ (a ∷ (o ∷ bs)))) (suc zero) x l h = absurd (omega arith)
past_written (suc n) (v ∷ (b ∷ (a ∷ (o ∷ bs)))) (suc (suc zero)) x l h = absurd (omega arith)
past_written (suc n) (v ∷ (b ∷ (a ∷ (o ∷ bs)))) (suc (suc (suc zero))) x l h = absurd (omega arith)
past_written (suc n) (v ∷ (b ∷ (a ∷ (o ∷ bs)))) (suc (suc (suc (suc i)))) x l h =
    under _ _ _ _ (past_written n bs i x (omega arith) (omega arith))

-- ---- with 200 records

module _ (bs : List ℕ) (w : Whole bs) where
  record_long : (p : ℕ) → p < furnace_places → 4 * p + 3 < length bs
  record_long p l = omega (arith, w)

  pub vertex_is : (p : ℕ) → p < furnace_places → vertex_of (numbers bs) p ≡ at bs (4 * p) + 256 * (at bs (4 * p + 3) / 2)
  vertex_is p l = let e : 4 * p + 0 ≡ 4 * p = omega arith in rw e at (read furnace_places p bs l (record_long p l)).vertex

  pub before_is : (p : ℕ) → p < furnace_places → before_of (numbers bs) p ≡ at bs (4 * p + 1)
  before_is p l = (read furnace_places p bs l (record_long p l)).before

  pub after_is : (p : ℕ) → p < furnace_places → after_of (numbers bs) p ≡ at bs (4 * p + 2)
  after_is p l = (read furnace_places p bs l (record_long p l)).after

  pub open_is_lem : (p : ℕ) → p < furnace_places → open_of (numbers bs) p ≡ at bs (4 * p + 3) % 2
  open_is_lem p l = (read furnace_places p bs l (record_long p l)).is_open

  pub past_is : (i : ℕ) → 4 * furnace_places ≤ i → at (numbers bs) i ≡ at bs i
  past_is i l = past_read furnace_places bs i l (omega (arith, w))

  pub vertex_set : (p v low rest : ℕ) → p < furnace_places → low + 256 * (rest / 2) ≡ v → rest % 2 ≡ at bs (4 * p + 3) % 2
      → numbers (set (set bs (4 * p) low) (4 * p + 3) rest) ≡ set (numbers bs) (4 * p) v
  vertex_set p v low rest l e f =
      let z : 4 * p + 0 ≡ 4 * p = omega arith in rw z at ((written furnace_places p bs l (record_long p l)).vertex v low rest e f)

  pub before_set : (p x : ℕ) → p < furnace_places → numbers (set bs (4 * p + 1) x) ≡ set (numbers bs) (4 * p + 1) x
  before_set p x l = (written furnace_places p bs l (record_long p l)).before x

  pub after_set : (p x : ℕ) → p < furnace_places → numbers (set bs (4 * p + 2) x) ≡ set (numbers bs) (4 * p + 2) x
  after_set p x l = (written furnace_places p bs l (record_long p l)).after x

  pub open_set : (p x o : ℕ) → p < furnace_places → x % 2 ≡ o → x / 2 ≡ at bs (4 * p + 3) / 2
      → numbers (set bs (4 * p + 3) x) ≡ set (numbers bs) (4 * p + 3) o
  open_set p x o l e f = (written furnace_places p bs l (record_long p l)).is_open x o e f

  pub past_set : (i x : ℕ) → 4 * furnace_places ≤ i → numbers (set bs i x) ≡ set (numbers bs) i x
  past_set i x l = past_written furnace_places bs i x l (omega (arith, w))
