-- How many place records a packing clears is read off its answer: 1 to 8 and 22 are given before any is cleared, 9 to 11 past that.
-- Assumes nothing.
use Prim.Native.Nat.{ℕ, ◌≤◌}
use native.Mathlib.Omega.{arith}
use mathlib.Core.Bool.{Bool, true, false, ◌&&◌, false≢true}
use mathlib.Core.Logic.{◌⊎◌, inl, inr}
use mathlib.Core.List.{List, []}
use mathlib.Core.Path.{◌≡◌, refl, sym, ap, ◌∙◌, subst}
use lib.ListN.{length}
use lib.Dec.{leb}
use borrow.Author.Tests.{leb-true, lt-leb}
use Rattle.rules.specs.declared.Place.{Place}
use Rattle.rules.specs.declared.Triangle.{Triangle}
use Rattle.rules.specs.Packed.{Packed}
use Rattle.rules.specs.Packed as P
use Rattle.rules.specs.Checked.{Checked}
use Rattle.rules.specs.Checked.{Accepted, Refused}
use Rattle.rules.specs.Limits.{max_places, between}
use Rattle.rules.specs.Triangle.{triangles_of}
use Rattle.rules.specs.Check.{passes, check_triangles, check}
use Rattle.rules.specs.Answer.{Answer, refusal, accepted, triangle, no_triangle, numbers, packed, unpacked, packed_answer}
use Rattle.rules.specs.Buffer.{cleared}
use Rattle.rules.specs.Pack.{Chosen, stopped, chosen, most, nothing_built, chosen_for, order_for, PackBuffers, PackResult, turned_down}
use Rattle.rules.specs.Pack.{PackContents, pack_refused, pack_done, pack_stored, contents_of, pack_chosen, pack_long_enough}
use Rattle.rules.specs.Pack.{order_long_enough, pack}
use Rattle.choice_theory.proofs.Runs.Whole as whole
use Rattle.choice_theory.proofs.Runs.Accepted.{accepted_packs}
use Rattle.pack_theory.specs.Packing.Lent.{cleared_by}
use Rattle.counting.proofs.Bools.{and_left, and_right}
use Rattle.border_theory.proofs.Records.Clearing.{Clears, clears_none, clears_first}
use Rattle.pack_theory.proofs.Packing.Lending.{lent_to, tested, ran_in, pack_tested, is_past}

-- 1 to 8, or none
abbrev Early : Checked → Type 0
Early Accepted = Unit {0}
Early (Refused k) = k ≤ 8

early_passes : (b : Bool) (n : ℕ) (c : Checked) → n ≤ 8 → Early c → Early (passes b n c)
unfolding passes
early_passes true n c h e = e
early_passes false n c h e = h

early_check : (v : ℕ) (xs : List ℕ) → Early (check v xs)
unfolding check check_triangles
early_check v xs =
    early_passes _ 1 _ (omega arith)
    (early_passes _ 2 _ (omega arith)
    (early_passes _ 3 _ (omega arith)
    (early_passes _ 4 _ (omega arith)
    (early_passes _ 5 _ (omega arith) (early_passes _ 6 _ (omega arith) (early_passes _ 7 Accepted (omega arith) tt))))))

-- how many are cleared after an answer
abbrev pub cleared_after : Answer → ℕ
cleared_after (refusal k) = elim (between 9 k 11) [ true ↦ max_places | false ↦ 0 ]
cleared_after accepted = max_places
cleared_after (triangle t) = max_places
cleared_after no_triangle = max_places
cleared_after (numbers x) = max_places
cleared_after (packed n) = max_places
cleared_after (unpacked m) = max_places

pub cleared_by_lem : (r : Packed) → cleared_by r ≡ cleared_after (packed_answer r)
cleared_by_lem (P.Length n) = refl
cleared_by_lem (P.Refused k) = refl

-- a packing in the buffers r clears the first 1,024 if t, else none: so its answer says, and so the list is left
pub record ClearsIf (t : Bool) (r : PackBuffers) (p : PackResult) : Type 0 where
  pub answer : cleared_after p.answer ≡ elim t [ true ↦ max_places | false ↦ 0 ]
  pub places : p.buffers.places ≡ elim t [ true ↦ cleared r.places | false ↦ r.places ]

-- 1 to 8 are below 9
early_none : (k : ℕ) → k ≤ 8 → between 9 k 11 ≡ false
early_none k h = ap (λ (b : Bool). b && leb k 11) (lt-leb 9 k (omega (arith, h)))

module _ (v : ℕ) (ts : List Triangle) (r : PackBuffers) where
  pub stored_clears : (w : PackContents) → ClearsIf true r (pack_stored v ts w r)
  stored_clears w = go (leb (length w.pack) (length r.pack))
    where
      go : (b : Bool) → ClearsIf true r (elim b [ true ↦ pack_done w r | false ↦ pack_refused 11 v ts r ])
      go true = record { answer = refl; places = refl }
      go false = record { answer = refl; places = refl }

  pub stopped_clears : (n : ℕ) → (n ≡ 9) ⊎ (n ≡ 10) → ClearsIf true r (pack_refused n v ts r)
  stopped_clears n (inl e) = record { answer = ap (λ (k : ℕ). cleared_after (refusal k)) e; places = refl }
  stopped_clears n (inr e) = record { answer = ap (λ (k : ℕ). cleared_after (refusal k)) e; places = refl }

  chosen_clears : (ks : List ℕ) (c : Chosen) → whole.Ends (nothing_built most ts) [] [] [] c → ClearsIf true r (pack_chosen v ts r ks c)
  unfolding pack_chosen whole.Ends
  chosen_clears ks (stopped n) h = stopped_clears n h
  chosen_clears ks (chosen cs s) h = stored_clears (contents_of v ts ks cs s)

  -- the tests before
  tests_clear : (c : Checked) → Early c → (t : Bool) (p : PackResult) → (c ≡ Accepted → ClearsIf t r p)
      → ClearsIf (is_past c v ts r && t) r (tested v ts r c p)
  tests_clear (Refused k) h t p f = record {
    answer = ap (λ (b : Bool). elim b [ true ↦ max_places | false ↦ 0 ]) (early_none k h);
    places = refl;
  }
  tests_clear Accepted h t p f = go (pack_long_enough v r) (order_long_enough ts r)
    where
      go : (a b : Bool)
          → ClearsIf ((a && b) && t) r (elim a [ true ↦ elim b [ true ↦ p | false ↦ turned_down 22 r ] | false ↦ turned_down 8 r ])
      go true true = f refl
      go true false = record { answer = refl; places = refl }
      go false b = record { answer = refl; places = refl }

module _ (v : ℕ) (xs : List ℕ) (r : PackBuffers) where
  pub tested_clears : (t : Bool) (p : PackResult) → (check v xs ≡ Accepted → ClearsIf t r p)
      → ClearsIf (is_past (check v xs) v (triangles_of xs) r && t) r (tested v (triangles_of xs) r (check v xs) p)
  tested_clears = tests_clear v (triangles_of xs) r (check v xs) (early_check v xs)

  -- past 22 the first 1,024, before it none
  pub pack_clears : ClearsIf (is_past (check v xs) v (triangles_of xs) r && true) r (pack v xs r)
  pack_clears =
      let ts = triangles_of xs in
      subst (ClearsIf (is_past (check v xs) v ts r && true) r) (sym (pack_tested v xs r))
      (tested_clears true (ran_in v ts r)
      (λ a. chosen_clears v ts r (order_for most ts) (chosen_for most ts) (accepted_packs most v xs a)))

  -- only a list of 1,024 records gets past 8
  pub past_long : (t : Bool) → is_past (check v xs) v (triangles_of xs) r && t ≡ true → max_places ≤ length r.places
  past_long t e = go (check v xs) (and_left (is_past (check v xs) v (triangles_of xs) r) t e)
    where
      go : (c : Checked) → is_past c v (triangles_of xs) r ≡ true → max_places ≤ length r.places
      go (Refused j) e = absurd (false≢true e)
      go Accepted e =
          leb-true max_places (length r.places)
          (and_right (leb v (length r.numbering)) _ (and_left (pack_long_enough v r) (order_long_enough (triangles_of xs) r) e))

-- as many as the answer says
pub clears_said : (t : Bool) (r : PackBuffers) (p : PackResult) → ClearsIf t r p → (t ≡ true → max_places ≤ length r.places)
    → Clears r.places (cleared_after p.answer) p.buffers.places
clears_said true r p h l =
    subst (λ (n : ℕ). Clears r.places n p.buffers.places) (sym h.answer)
    (subst (Clears r.places max_places) (sym h.places) (clears_first r.places (l refl)))
clears_said false r p h l =
    subst (λ (n : ℕ). Clears r.places n p.buffers.places) (sym h.answer)
    (subst (Clears r.places 0) (sym h.places) (clears_none r.places))

pub packed_clears : (v : ℕ) (xs ns bs os : List ℕ) (ps : List Place) (r : Packed)
    → packed_answer r ≡ (pack v xs (lent_to ns ps bs os)).answer
    → cleared_by r ≡ elim (is_past (check v xs) v (triangles_of xs) (lent_to ns ps bs os)) [ true ↦ max_places | false ↦ 0 ]
packed_clears v xs ns bs os ps r e =
    cleared_by_lem r ∙ ap cleared_after e ∙ (pack_clears v xs (lent_to ns ps bs os)).answer
    ∙ ap (λ (t : Bool). elim t [ true ↦ max_places | false ↦ 0 ]) (alone (is_past (check v xs) v (triangles_of xs) (lent_to ns ps bs os)))
  where
    alone : (b : Bool) → b && true ≡ b
    alone true = refl
    alone false = refl
