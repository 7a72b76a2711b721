-- The notes in the plain memory: what is read off them is what was touched and what has left; nothing before them changes.
-- Assumes nothing.
use Prim.Native.Nat.{ℕ, zero, suc, ◌+◌, ◌-◌, ◌≤◌, ◌<◌}
use native.Mathlib.Omega.{arith}
use mathlib.Core.List.{List, [], ◌∷◌}
use mathlib.Core.Path.{◌≡◌, refl, ap, ap₂, ◌∙◌}
use lib.ListN.{length, set, length-set}
use lib.Seq.{get_or-set_same, get_or-set_other}
use Rattle.rules.specs.Limits.{max_places}
use Rattle.rules.specs.Count.{same, occurs}
use Rattle.state_theory.specs.Performing.Noted.{linked_part, freed_part, to_link, to_free}
use Rattle.cutborder.specs.declared.Touched.{Touched}
use Rattle.border_theory.specs.Records.Plain.{record_numbers, core_size, memory_size}
use Rattle.border_theory.specs.Memory.Layout.{at}
use Rattle.border_theory.specs.Memory.Touched.{listed, noted, stack_part}

-- a zero stored
zero_set : (m : List ℕ) (i : ℕ) → at (set m i 0) i ≡ 0
zero_set [] i = refl
zero_set (x ∷ m) zero = refl
zero_set (x ∷ m) (suc i) = zero_set m i

module _ (m : List ℕ) (t : Touched) (k l : ℕ) where
  abbrev n₁ : List ℕ
  n₁ = set m core_size t.count

  abbrev n₂ : List ℕ
  n₂ = set n₁ (core_size + 1) t.first

  abbrev n₃ : List ℕ
  n₃ = set n₂ (core_size + 2) t.second

  abbrev n₄ : List ℕ
  n₄ = set n₃ (core_size + 3) t.third

  abbrev n₅ : List ℕ
  n₅ = set n₄ (core_size + 4) t.fourth

  abbrev n₆ : List ℕ
  n₆ = set n₅ (core_size + 5) t.fifth

  abbrev n₇ : List ℕ
  n₇ = set n₆ (core_size + 6) k

  -- a number before the notes
  pub noted_before : (i : ℕ) → i < core_size → at (noted m t k l) i ≡ at m i
  unfolding noted
  noted_before i h =
      get_or-set_other n₇ (core_size + 7) i l 0 (λ e. omega (arith, e, h))
      ∙ get_or-set_other n₆ (core_size + 6) i k 0 (λ e. omega (arith, e, h))
      ∙ get_or-set_other n₅ (core_size + 5) i t.fifth 0 (λ e. omega (arith, e, h))
      ∙ get_or-set_other n₄ (core_size + 4) i t.fourth 0 (λ e. omega (arith, e, h))
      ∙ get_or-set_other n₃ (core_size + 3) i t.third 0 (λ e. omega (arith, e, h))
      ∙ get_or-set_other n₂ (core_size + 2) i t.second 0 (λ e. omega (arith, e, h))
      ∙ get_or-set_other n₁ (core_size + 1) i t.first 0 (λ e. omega (arith, e, h))
      ∙ get_or-set_other m core_size i t.count 0 (λ e. omega (arith, e, h))

  module _ (long : memory_size ≤ length m) where
    l₁ : length n₁ ≡ length m
    l₁ = length-set m core_size t.count

    l₂ : length n₂ ≡ length m
    l₂ = length-set n₁ (core_size + 1) t.first ∙ l₁

    l₃ : length n₃ ≡ length m
    l₃ = length-set n₂ (core_size + 2) t.second ∙ l₂

    l₄ : length n₄ ≡ length m
    l₄ = length-set n₃ (core_size + 3) t.third ∙ l₃

    l₅ : length n₅ ≡ length m
    l₅ = length-set n₄ (core_size + 4) t.fourth ∙ l₄

    l₆ : length n₆ ≡ length m
    l₆ = length-set n₅ (core_size + 5) t.fifth ∙ l₅

    l₇ : length n₇ ≡ length m
    l₇ = length-set n₆ (core_size + 6) k ∙ l₆

    pub noted_end : at (noted m t k l) (core_size + 7) ≡ l
    unfolding noted
    noted_end = get_or-set_same n₇ (core_size + 7) l 0 (omega (arith, l₇, long))

    pub noted_start : at (noted m t k l) (core_size + 6) ≡ k
    unfolding noted
    noted_start = get_or-set_other n₇ (core_size + 7) (core_size + 6) l 0 (λ e. omega (arith, e))
        ∙ get_or-set_same n₆ (core_size + 6) k 0 (omega (arith, l₆, long))

    -- a note before the stack's
    low : (i : ℕ) → i < core_size + 6 → at (noted m t k l) i ≡ at n₆ i
    unfolding noted
    low i h = get_or-set_other n₇ (core_size + 7) i l 0 (λ e. omega (arith, e, h))
        ∙ get_or-set_other n₆ (core_size + 6) i k 0 (λ e. omega (arith, e, h))

    at_fifth : at (noted m t k l) (core_size + 5) ≡ t.fifth
    at_fifth = low (core_size + 5) (omega arith) ∙ get_or-set_same n₅ (core_size + 5) t.fifth 0 (omega (arith, l₅, long))

    at_fourth : at (noted m t k l) (core_size + 4) ≡ t.fourth
    at_fourth =
        low (core_size + 4) (omega arith) ∙ get_or-set_other n₅ (core_size + 5) (core_size + 4) t.fifth 0 (λ e. omega (arith, e))
        ∙ get_or-set_same n₄ (core_size + 4) t.fourth 0 (omega (arith, l₄, long))

    under : (i : ℕ) → i < core_size + 4 → at (noted m t k l) i ≡ at n₄ i
    under i h =
        low i (omega (arith, h)) ∙ get_or-set_other n₅ (core_size + 5) i t.fifth 0 (λ e. omega (arith, e, h))
        ∙ get_or-set_other n₄ (core_size + 4) i t.fourth 0 (λ e. omega (arith, e, h))

    at_third : at (noted m t k l) (core_size + 3) ≡ t.third
    at_third = under (core_size + 3) (omega arith) ∙ get_or-set_same n₃ (core_size + 3) t.third 0 (omega (arith, l₃, long))

    at_second : at (noted m t k l) (core_size + 2) ≡ t.second
    at_second =
        under (core_size + 2) (omega arith) ∙ get_or-set_other n₃ (core_size + 3) (core_size + 2) t.third 0 (λ e. omega (arith, e))
        ∙ get_or-set_same n₂ (core_size + 2) t.second 0 (omega (arith, l₂, long))

    at_first : at (noted m t k l) (core_size + 1) ≡ t.first
    at_first =
        under (core_size + 1) (omega arith) ∙ get_or-set_other n₃ (core_size + 3) (core_size + 1) t.third 0 (λ e. omega (arith, e))
        ∙ get_or-set_other n₂ (core_size + 2) (core_size + 1) t.second 0 (λ e. omega (arith, e))
        ∙ get_or-set_same n₁ (core_size + 1) t.first 0 (omega (arith, l₁, long))

    pub noted_count : at (noted m t k l) core_size ≡ t.count
    noted_count =
        under core_size (omega arith) ∙ get_or-set_other n₃ (core_size + 3) core_size t.third 0 (λ e. omega (arith, e))
        ∙ get_or-set_other n₂ (core_size + 2) core_size t.second 0 (λ e. omega (arith, e))
        ∙ get_or-set_other n₁ (core_size + 1) core_size t.first 0 (λ e. omega (arith, e))
        ∙ get_or-set_same m core_size t.count 0 (omega (arith, long))

-- the records to be linked are those of the places touched
module _ (m : List ℕ) (k l : ℕ) (long : memory_size ≤ length m) (x : ℕ) where
  noted_at : (xs : List ℕ) (c : ℕ) → length xs ≡ c
      → occurs x (to_link (noted m (listed xs) k l)) ≡ occurs x (linked_part (noted m (listed xs) k l) c)
  noted_at xs c e = ap (λ (i : ℕ). occurs x (linked_part (noted m (listed xs) k l) i)) (noted_count m (listed xs) k l long ∙ e)

  pub noted_links : (xs : List ℕ) → length xs ≤ 5 → occurs x (to_link (noted m (listed xs) k l)) ≡ occurs x xs
  unfolding linked_part occurs
  noted_links [] h = noted_at [] 0 refl
  noted_links (a ∷ []) h =
      let xs : List ℕ = a ∷ [] in
      noted_at xs 1 refl ∙ ap (λ (i : ℕ). same x i + 0) (at_first m (listed xs) k l long)
  noted_links (a ∷ (b ∷ [])) h =
      let xs : List ℕ = a ∷ (b ∷ []) in
      let t : Touched = listed xs in
      noted_at xs 2 refl ∙ omega (arith, ap (same x) (at_first m t k l long), ap (same x) (at_second m t k l long))
  noted_links (a ∷ (b ∷ (c ∷ []))) h =
      let xs : List ℕ = a ∷ (b ∷ (c ∷ [])) in
      let t : Touched = listed xs in
      noted_at xs 3 refl
      ∙ omega (arith, ap (same x) (at_first m t k l long), ap (same x) (at_second m t k l long), ap (same x) (at_third m t k l long))
  noted_links (a ∷ (b ∷ (c ∷ (d ∷ [])))) h =
      let xs : List ℕ = a ∷ (b ∷ (c ∷ (d ∷ []))) in
      let t : Touched = listed xs in
      noted_at xs 4 refl
      ∙ omega (
        arith,
        ap (same x) (at_first m t k l long),
        ap (same x) (at_second m t k l long),
        ap (same x) (at_third m t k l long),
        ap (same x) (at_fourth m t k l long),
      )
  noted_links (a ∷ (b ∷ (c ∷ (d ∷ (e ∷ []))))) h =
      let xs : List ℕ = a ∷ (b ∷ (c ∷ (d ∷ (e ∷ [])))) in
      let t : Touched = listed xs in
      noted_at xs 5 refl
      ∙ omega (
        arith,
        ap (same x) (at_first m t k l long),
        ap (same x) (at_second m t k l long),
        ap (same x) (at_third m t k l long),
        ap (same x) (at_fourth m t k l long),
        ap (same x) (at_fifth m t k l long),
      )
  noted_links (a ∷ (b ∷ (c ∷ (d ∷ (e ∷ (f ∷ xs)))))) h = absurd (omega (arith, h))

-- the records to be freed are that part of the stack
module _ (m : List ℕ) (t : Touched) (k l : ℕ) where
  part_noted : (c : ℕ) → k + c ≤ max_places → freed_part (noted m t k l) k c ≡ stack_part max_places m k c
  unfolding freed_part stack_part
  part_noted zero h = refl
  part_noted (suc c) h =
      ap₂ (λ (i : ℕ) (is : List ℕ). i ∷ is) (noted_before m t k l (record_numbers + (k + c)) (omega (arith, h)))
      (part_noted c (omega (arith, h)))

  pub noted_frees : memory_size ≤ length m → k ≤ max_places → l ≤ max_places → to_free (noted m t k l) ≡ stack_part max_places m k (l - k)
  noted_frees long h g =
      ap₂ (λ (i j : ℕ). freed_part (noted m t k l) i (j - i)) (noted_start m t k l long) (noted_end m t k l long)
      ∙ part_noted (l - k) (omega (arith, h, g))

-- a memory that notes nothing
pub nothing_linked : (m : List ℕ) → at (noted m (listed []) 0 0) core_size ≡ 0
unfolding noted
nothing_linked m =
    let t : Touched = listed [] in
    get_or-set_other (n₇ m t 0 0) (core_size + 7) core_size 0 0 (λ e. omega (arith, e))
    ∙ get_or-set_other (n₆ m t 0 0) (core_size + 6) core_size 0 0 (λ e. omega (arith, e))
    ∙ get_or-set_other (n₅ m t 0 0) (core_size + 5) core_size 0 0 (λ e. omega (arith, e))
    ∙ get_or-set_other (n₄ m t 0 0) (core_size + 4) core_size 0 0 (λ e. omega (arith, e))
    ∙ get_or-set_other (n₃ m t 0 0) (core_size + 3) core_size 0 0 (λ e. omega (arith, e))
    ∙ get_or-set_other (n₂ m t 0 0) (core_size + 2) core_size 0 0 (λ e. omega (arith, e))
    ∙ get_or-set_other (n₁ m t 0 0) (core_size + 1) core_size 0 0 (λ e. omega (arith, e)) ∙ zero_set m core_size

pub nothing_freed : (m : List ℕ) → at (noted m (listed []) 0 0) (core_size + 7) ≡ 0
unfolding noted
nothing_freed m = zero_set (n₇ m (listed []) 0 0) (core_size + 7)
