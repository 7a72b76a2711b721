-- Claim 1: packing an accepted list is refused by 9, 10 or 11 only, and each exactly where the rules say so.
-- Assumes nothing.
use Prim.Native.Nat.{ℕ, zero, suc, ◌≤◌, ◌<◌}
use native.Mathlib.Omega.{arith}
use mathlib.Core.Bool.{Bool, true, false}
use mathlib.Core.List.{List, []}
use mathlib.Core.Path.{◌≡◌, refl, sym, ap, ◌∙◌, subst}
use mathlib.Core.Logic.{◌⊎◌, inl, inr}
use lib.ListN.{length}
use lib.Dec.{leb}
use borrow.Author.Tests.{le-leb, leb-true, leb-false}
use Rattle.rules.specs.declared.Triangle.{Triangle}
use Rattle.rules.specs.Checked.{Accepted}
use Rattle.rules.specs.Triangle.{triangles_of}
use Rattle.rules.specs.Check.{check}
use Rattle.rules.specs.Answer.{Answer, refusal, accepted, triangle, no_triangle, numbers, packed, unpacked}
use Rattle.rules.specs.Pack.{Chosen, stopped, chosen, Most, nothing_built, order_for, pack_of, PackBuffers, PackResult, PackContents}
use Rattle.rules.specs.Pack.{pack_done}
use Rattle.rules.specs.Pack.{contents_of, pack_chosen, pack_long_enough, order_long_enough, pack_within}
use Rattle.choice_theory.proofs.Runs.Whole.{Complete}
use Rattle.choice_theory.proofs.Runs.RoundTrip.{accepted_complete}
use Rattle.roundtrip.specs.Run.{unlimited, run_loops, NoFault, FirstFault}
use Rattle.roundtrip.specs.Claims.{NeverStuck, PackingIsNeverStuck}
use Rattle.roundtrip.proofs.Limits.{relimit, limited_to, run_ends, chosen_with, order_with, Judged, at_fault, no_fault, judged}
use Rattle.roundtrip.proofs.Limits.{one_fault, fault_or_none}
use Rattle.roundtrip.proofs.Results.{within_checked, stored_done, stored_refused}

-- the answer by a number: 0 for a pack of l bytes, else the refusal
abbrev answer_for : ℕ → ℕ → Answer
answer_for l zero = packed l
answer_for l (suc n) = refusal (suc n)

abbrev number_of : Answer → ℕ
number_of (refusal n) = n
number_of accepted = 0
number_of (triangle t) = 0
number_of no_triangle = 0
number_of (numbers x) = 0
number_of (packed n) = 0
number_of (unpacked m) = 0

number_for : (l k : ℕ) → number_of (answer_for l k) ≡ k
number_for l zero = refl
number_for l (suc n) = refl

module _ (h : Most) (v : ℕ) (xs : List ℕ) (r : PackBuffers) (a : check v xs ≡ Accepted) (enough : pack_long_enough v r ≡ true)
    (ordered : order_long_enough (triangles_of xs) r ≡ true) where
  abbrev ts : List Triangle
  ts = triangles_of xs

  abbrev bytes : List ℕ
  bytes = pack_of v (triangles_of xs) (run_ends (triangles_of xs)).operations (run_ends (triangles_of xs)).last

  -- what is written where the order is qs
  abbrev writes : List ℕ → PackContents
  writes qs = contents_of v (triangles_of xs) qs (run_ends (triangles_of xs)).operations (run_ends (triangles_of xs)).last

  -- where the answer k is due
  abbrev Due : ℕ → Type 0
  Due k =
      (((k ≡ 9) ⊎ (k ≡ 10)) × FirstFault h k (run_loops ts))
      ⊎ (((k ≡ 11) × NoFault h (run_loops ts) × (length r.pack < length bytes))
      ⊎ ((k ≡ 0) × NoFault h (run_loops ts) × (length bytes ≤ length r.pack)))

  due_one : (k m : ℕ) → Due k → Due m → k ≡ m
  due_one k m (inl x) (inl y) = one_fault h k m (run_loops ts) x.1 y.1
  due_one k m (inl x) (inr (inl y)) = absurd (fault_or_none h k (run_loops ts) x.1 y.1)
  due_one k m (inl x) (inr (inr y)) = absurd (fault_or_none h k (run_loops ts) x.1 y.1)
  due_one k m (inr (inl x)) (inl y) = absurd (fault_or_none h m (run_loops ts) y.1 x.1)
  due_one k m (inr (inl x)) (inr (inl y)) = x.0 ∙ sym y.0
  due_one k m (inr (inl x)) (inr (inr y)) = absurd (omega (arith, x.2, y.2))
  due_one k m (inr (inr x)) (inl y) = absurd (fault_or_none h m (run_loops ts) y.1 x.1)
  due_one k m (inr (inr x)) (inr (inl y)) = absurd (omega (arith, x.2, y.2))
  due_one k m (inr (inr x)) (inr (inr y)) = x.0 ∙ sym y.0

  chose : (c : Chosen) → limited_to h (run_loops ts) (chosen (run_ends ts).operations (run_ends ts).last) ≡ c
      → (pack_within h v xs r).answer ≡ (pack_chosen v ts r (order_for h ts) c).answer
  chose c e =
      ap (λ (p : PackResult). p.answer) (within_checked h v xs r a enough ordered)
      ∙ ap (λ (x : Chosen). (pack_chosen v ts r (order_for h ts) x).answer) (chosen_with ts h ∙ e)

  due : (k : ℕ) × Due k × ((pack_within h v xs r).answer ≡ answer_for (length bytes) k)
  unfolding pack_chosen
  due = go (judged h (run_loops ts) (chosen (run_ends ts).operations (run_ends ts).last))
    where
      fault : (n : ℕ) → (n ≡ 9) ⊎ (n ≡ 10) → refusal n ≡ answer_for (length bytes) n
      fault n (inl e) = ap refusal e ∙ sym (ap (answer_for (length bytes)) e)
      fault n (inr e) = ap refusal e ∙ sym (ap (answer_for (length bytes)) e)

      stored : (t : Bool) → leb (length bytes) (length r.pack) ≡ t → NoFault h (run_loops ts)
          → (pack_within h v xs r).answer
          ≡ (pack_chosen v ts r (order_for h ts) (chosen (run_ends ts).operations (relimit h (run_ends ts).last))).answer
          → (k : ℕ) × Due k × ((pack_within h v xs r).answer ≡ answer_for (length bytes) k)
      stored true e x q = (
        0,
        inr (inr (refl, x, leb-true (length bytes) (length r.pack) e)),
        q ∙ ap (λ (p : PackResult). p.answer) (stored_done v ts (writes (order_for h ts)) r e),
      )
      stored false e x q = (
        11,
        inr (inl (refl, x, (let k = leb-false (length bytes) (length r.pack) e in omega arith))),
        q ∙ ap (λ (p : PackResult). p.answer) (stored_refused v ts (writes (order_for h ts)) r e),
      )

      go : Judged h (run_loops ts) (chosen (run_ends ts).operations (run_ends ts).last)
          → (k : ℕ) × Due k × ((pack_within h v xs r).answer ≡ answer_for (length bytes) k)
      go (at_fault n w x e) = (n, inl (w, x), chose (stopped n) e ∙ fault n w)
      go (no_fault x e) = stored (leb (length bytes) (length r.pack)) refl x
          (chose (chosen (run_ends ts).operations (relimit h (run_ends ts).last)) e)

  -- with no operation at fault and a buffer that is long enough
  done : NoFault h (run_loops ts) → length bytes ≤ length r.pack
      → pack_within h v xs r ≡ pack_done (writes (order_for (unlimited ts) ts)) r
  unfolding pack_chosen
  done x l = go (judged h (run_loops ts) (chosen (run_ends ts).operations (run_ends ts).last))
    where
      go : Judged h (run_loops ts) (chosen (run_ends ts).operations (run_ends ts).last)
          → pack_within h v xs r ≡ pack_done (writes (order_for (unlimited ts) ts)) r
      go (at_fault n w y e) = absurd (fault_or_none h n (run_loops ts) y x)
      go (no_fault y e) =
          within_checked h v xs r a enough ordered
          ∙ (ap (pack_chosen v ts r (order_for h ts)) (chosen_with ts h ∙ e)
          ∙ (stored_done v ts (writes (order_for h ts)) r (le-leb (length bytes) (length r.pack) l)
          ∙ ap (λ (qs : List ℕ). pack_done (writes qs) r) (order_with ts h y)))

  told : (k : ℕ) → (pack_within h v xs r).answer ≡ answer_for (length bytes) k → Due k
  told k e =
      let n : due.0 ≡ k =
      sym (number_for (length bytes) due.0) ∙ (ap number_of (sym due.2 ∙ e) ∙ number_for (length bytes) k) in
      subst Due n due.1

  tells : (k : ℕ) → Due k → (pack_within h v xs r).answer ≡ answer_for (length bytes) k
  tells k x = due.2 ∙ ap (answer_for (length bytes)) (due_one due.0 k due.1 x)

  faulty : (k : ℕ) → (k ≡ 9) ⊎ (k ≡ 10) → Due k → FirstFault h k (run_loops ts)
  faulty k w (inl x) = x.1
  faulty k (inl e) (inr (inl x)) = absurd (omega (arith, e, x.0))
  faulty k (inr e) (inr (inl x)) = absurd (omega (arith, e, x.0))
  faulty k (inl e) (inr (inr x)) = absurd (omega (arith, e, x.0))
  faulty k (inr e) (inr (inr x)) = absurd (omega (arith, e, x.0))

  short : Due 11 → NoFault h (run_loops ts) × (length r.pack < length bytes)
  short (inl (inl e, x)) = absurd (omega arith)
  short (inl (inr e, x)) = absurd (omega arith)
  short (inr (inl x)) = (x.1, x.2)
  short (inr (inr x)) = absurd (omega (arith, x.0))

  long : Due 0 → NoFault h (run_loops ts) × (length bytes ≤ length r.pack)
  long (inl (inl e, x)) = absurd (omega arith)
  long (inl (inr e, x)) = absurd (omega arith)
  long (inr (inl x)) = absurd (omega (arith, x.0))
  long (inr (inr x)) = (x.1, x.2)

  by_number : (k : ℕ) → Due k → (pack_within h v xs r).answer ≡ answer_for (length bytes) k
      → ((pack_within h v xs r).answer ≡ packed (length bytes))
      ⊎ (((pack_within h v xs r).answer ≡ refusal 9)
      ⊎ (((pack_within h v xs r).answer ≡ refusal 10) ⊎ ((pack_within h v xs r).answer ≡ refusal 11)))
  by_number k (inl (inl e, x)) q = inr (inl (q ∙ ap (answer_for (length bytes)) e))
  by_number k (inl (inr e, x)) q = inr (inr (inl (q ∙ ap (answer_for (length bytes)) e)))
  by_number k (inr (inl x)) q = inr (inr (inr (q ∙ ap (answer_for (length bytes)) x.0)))
  by_number k (inr (inr x)) q = inl (q ∙ ap (answer_for (length bytes)) x.0)

  whole : Complete (nothing_built (unlimited (triangles_of xs)) (triangles_of xs)) [] [] [] (run_ends ts).operations (run_ends ts).last
  whole = accepted_complete (unlimited (triangles_of xs)) v xs (run_ends ts).operations (run_ends ts).last a (run_ends ts).does

  pub stuck_never : NeverStuck h v (triangles_of xs) r (pack_within h v xs r) (run_ends ts).operations (run_ends ts).last
  stuck_never = record {
    run = (run_ends ts).does;
    none_left = whole.none_left;
    no_loop = whole.no_loop;
    nine = (λ e. faulty 9 (inl refl) (told 9 e), λ x. tells 9 (inl (inl refl, x)));
    ten = (λ e. faulty 10 (inr refl) (told 10 e), λ x. tells 10 (inl (inr refl, x)));
    eleven = (λ e. short (told 11 e), λ x. tells 11 (inr (inl (refl, x.0, x.1))));
    packs = (λ e. long (told 0 e), λ x. tells 0 (inr (inr (refl, x.0, x.1))));
    packs_them = λ e. (let k = long (told 0 e) in done k.0 k.1);
    no_other = by_number due.0 due.1 due.2;
  }

pub packing_is_never_stuck : PackingIsNeverStuck
packing_is_never_stuck h v xs r a enough ordered =
    ((run_ends (triangles_of xs)).operations, (run_ends (triangles_of xs)).last, stuck_never h v xs r a enough ordered)
