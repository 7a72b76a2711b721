-- Limits turn down the first operation that exceeds them and change nothing else.
-- Assumes nothing.
use Prim.Native.Nat.{ℕ, zero, suc, ◌+◌, ◌*◌, ◌≤◌, max}
use native.Mathlib.Omega.{arith}
use mathlib.Core.Bool.{Bool, true, false}
use mathlib.Core.List.{List, [], ◌∷◌, ◌++◌}
use mathlib.Core.Path.{◌≡◌, refl, sym, ap, ◌∙◌, subst}
use mathlib.Core.Logic.{◌⊎◌, inl, inr}
use lib.ListN.{length}
use lib.Dec.{leb}
use borrow.Author.Tests.{leb-true, leb-false}
use Rattle.rules.specs.declared.Triangle.{Triangle}
use Rattle.rules.specs.declared.Operation.{Operation}
use Rattle.rules.specs.Ring.{Ring, places}
use Rattle.rules.specs.Choice.{Packing, Next, ended, refuses, takes, packing_after, limited, choose}
use Rattle.rules.specs.Order.{next_number, order_by}
use Rattle.rules.specs.Pack.{Chosen, stopped, chosen, cons, choose_all, Most, nothing_built, enough, chosen_for, order_for}
use Rattle.choice_theory.proofs.Runs.Whole.{all_ended, all_taken_lem}
use Rattle.choice_theory.proofs.Runs.Following.{limited_takes}
use Rattle.roundtrip.specs.Run.{unlimited, loops_after, run_loops, NoFault, FirstFault, places_exceeded, loops_exceeded, later}
use Rattle.roundtrip.specs.Run.{peak_of}
use Rattle.roundtrip.proofs.Wanting.{Want, idle, wants, want, doing, choose_want, Grown, want_grown}

-- the packing with other limits
abbrev pub relimit : Most → Packing → Packing
relimit h s = record {
  mesh = s.mesh;
  left = s.left;
  numbered = s.numbered;
  loops = s.loops;
  most_places = s.most_places;
  most_loops = s.most_loops;
  limit_places = h.places;
  limit_loops = h.loops;
}

abbrev pub relimited : Most → Chosen → Chosen
relimited h (stopped n) = stopped n
relimited h (chosen os s) = chosen os (relimit h s)

-- what is chosen with the limits h, where lss are the loops after each operation that is chosen without them
abbrev pub limited_to : Most → List (List Ring) → Chosen → Chosen
limited_to h [] c = relimited h c
limited_to h (ls ∷ lss) c =
    elim (leb (places ls) h.places) [
      | true ↦ elim (leb (length ls) h.loops) [ true ↦ limited_to h lss c | false ↦ stopped 10 ]
      | false ↦ stopped 9
    ]

cons_relimited : (h : Most) (o : Operation) (c : Chosen) → cons o (relimited h c) ≡ relimited h (cons o c)
cons_relimited h o (stopped n) = refl
cons_relimited h o (chosen os s) = refl

cons_limited : (h : Most) (o : Operation) (lss : List (List Ring)) (c : Chosen) → cons o (limited_to h lss c) ≡ limited_to h lss (cons o c)
cons_limited h o [] c = cons_relimited h o c
cons_limited h o (ls ∷ lss) c = go (leb (places ls) h.places) (leb (length ls) h.loops) (cons_limited h o lss c)
  where
    go : (u v : Bool) → cons o (limited_to h lss c) ≡ limited_to h lss (cons o c)
        → ◌≡◌ {A = Chosen} (cons o (elim u [ true ↦ elim v [ true ↦ limited_to h lss c | false ↦ stopped 10 ] | false ↦ stopped 9 ]))
        (elim u [ true ↦ elim v [ true ↦ limited_to h lss (cons o c) | false ↦ stopped 10 ] | false ↦ stopped 9 ])
    go true true e = e
    go true false e = refl
    go false v e = refl

-- one operation of the packer
all_next : (n : ℕ) (s : Packing)
    → choose_all (suc n) s ≡ elim (choose s) [ ended ↦ chosen [] s | refuses k ↦ stopped k | takes o s' ↦ cons o (choose_all n s') ]
unfolding choose_all
all_next n s = refl

loops_idle : (n : ℕ) (s : Packing) → choose s ≡ ended → loops_after (suc n) s ≡ []
unfolding loops_after
loops_idle n s h = rw (loops_after, h) refl

loops_next : (n : ℕ) (s s' : Packing) (o : Operation) → choose s ≡ takes o s' → loops_after (suc n) s ≡ s'.loops ∷ loops_after n s'
unfolding loops_after
loops_next n s s' o h = rw (loops_after, h) refl

order_idle : (n : ℕ) (s : Packing) → choose s ≡ ended → order_by (suc n) s ≡ []
unfolding order_by
order_idle n s h = rw (order_by, h) refl

order_next : (n : ℕ) (s s' : Packing) (o : Operation) → choose s ≡ takes o s'
    → order_by (suc n) s ≡ next_number s ++ order_by n s'
unfolding order_by
order_next n s s' o h = rw (order_by, h) refl

-- the limits b are above all that n operations can reach
abbrev Ample : Most → ℕ → Packing → Type 0
Ample b n s = (places s.loops + 3 * n ≤ b.places) × (length s.loops + n ≤ b.loops)

module _ (h b : Most) where
  -- what is taken with the limits h after an operation that leads to s'
  abbrev taken : ℕ → Operation → Packing → Next → Chosen
  taken n o s x = elim x [ ended ↦ chosen [] s | refuses k ↦ stopped k | takes o' s' ↦ cons o' (choose_all n s') ]

  next_limited : (n : ℕ) (o : Operation) (s s' : Packing) (lss : List (List Ring)) (c : Chosen)
      → choose_all n (relimit h s') ≡ limited_to h lss c
      → ◌≡◌ {A = Chosen} (taken n o s (limited o (relimit h s'))) (limited_to h (s'.loops ∷ lss) (cons o c))
  unfolding limited
  next_limited n o s s' lss c e = go (leb (places s'.loops) h.places) (leb (length s'.loops) h.loops)
    where
      go : (u v : Bool)
          → ◌≡◌ {A = Chosen} (taken n o s
          (elim u [ true ↦ elim v [ true ↦ takes o (relimit h s') | false ↦ refuses 10 ] | false ↦ refuses 9 ]))
          (elim u [ true ↦ elim v [ true ↦ limited_to h lss (cons o c) | false ↦ stopped 10 ] | false ↦ stopped 9 ])
      go true true = ap (cons o) e ∙ cons_limited h o lss c
      go true false = refl
      go false v = refl

  -- with the limits h the same is chosen, up to the first operation at fault
  pub same_choices : (n : ℕ) (s : Packing) → Ample b n s
      → choose_all n (relimit h s) ≡ limited_to h (loops_after n (relimit b s)) (choose_all n (relimit b s))
  unfolding choose_all loops_after
  same_choices zero s k = refl
  same_choices (suc n) s k = go (want s) refl (want_grown s) (λ s'. same_choices n s')
    where
      go : (w : Want) → want s ≡ w → Grown (places s.loops) (length s.loops) w
          → ((s' : Packing) → Ample b n s'
          → choose_all n (relimit h s') ≡ limited_to h (loops_after n (relimit b s')) (choose_all n (relimit b s')))
          → choose_all (suc n) (relimit h s) ≡ limited_to h (loops_after (suc n) (relimit b s)) (choose_all (suc n) (relimit b s))
      go idle e g again =
          let f : choose (relimit h s) ≡ ended = choose_want (relimit h s) ∙ ap (doing (relimit h s)) e in
          let f' : choose (relimit b s) ≡ ended = choose_want (relimit b s) ∙ ap (doing (relimit b s)) e in
          rw (loops_idle n (relimit b s) f', all_ended n (relimit b s) f') (all_ended n (relimit h s) f)
      go (wants o ts vs ls) e g again =
          let s' = packing_after s ts vs ls in
          let p : places ls ≤ b.places = omega (arith, g.0, k.0) in
          let l : length ls ≤ b.loops = omega (arith, g.1, k.1) in
          let f : choose (relimit h s) ≡ limited o (relimit h s') = choose_want (relimit h s) ∙ ap (doing (relimit h s)) e in
          let f' : choose (relimit b s) ≡ takes o (relimit b s') =
          choose_want (relimit b s) ∙ (ap (doing (relimit b s)) e ∙ limited_takes o (relimit b s') p l) in
          let i = again s' (omega (arith, g.0, k.0), omega (arith, g.1, k.1)) in
          rw (loops_next n (relimit b s) (relimit b s') o f', all_taken_lem n (relimit b s) (relimit b s') o f')
          (all_next n (relimit h s)
          ∙ (ap (taken n o (relimit h s)) f
          ∙ next_limited n o (relimit h s) s' (loops_after n (relimit b s')) (choose_all n (relimit b s')) i))

  -- and if none is at fault the same triangles are built
  pub same_order : (n : ℕ) (s : Packing) → Ample b n s → NoFault h (loops_after n (relimit b s))
      → order_by n (relimit h s) ≡ order_by n (relimit b s)
  unfolding order_by
  same_order zero s k x = refl
  same_order (suc n) s k x = go (want s) refl (want_grown s) (λ s'. same_order n s')
    where
      go : (w : Want) → want s ≡ w → Grown (places s.loops) (length s.loops) w
          → ((s' : Packing) → Ample b n s' → NoFault h (loops_after n (relimit b s'))
          → order_by n (relimit h s') ≡ order_by n (relimit b s'))
          → order_by (suc n) (relimit h s) ≡ order_by (suc n) (relimit b s)
      go idle e g again =
          order_idle n (relimit h s) (choose_want (relimit h s) ∙ ap (doing (relimit h s)) e)
          ∙ sym (order_idle n (relimit b s) (choose_want (relimit b s) ∙ ap (doing (relimit b s)) e))
      go (wants o ts vs ls) e g again =
          let s' = packing_after s ts vs ls in
          let p : places ls ≤ b.places = omega (arith, g.0, k.0) in
          let l : length ls ≤ b.loops = omega (arith, g.1, k.1) in
          let f' : choose (relimit b s) ≡ takes o (relimit b s') =
          choose_want (relimit b s) ∙ (ap (doing (relimit b s)) e ∙ limited_takes o (relimit b s') p l) in
          let y : NoFault h (ls ∷ loops_after n (relimit b s')) =
          subst (NoFault h) (loops_next n (relimit b s) (relimit b s') o f') x in
          let f : choose (relimit h s) ≡ takes o (relimit h s') =
          choose_want (relimit h s) ∙ (ap (doing (relimit h s)) e ∙ limited_takes o (relimit h s') y.0.0 y.0.1) in
          order_next n (relimit h s) (relimit h s') o f
          ∙ (ap (λ (ns : List ℕ). next_number s ++ ns)
          (again s' (omega (arith, g.0, k.0), omega (arith, g.1, k.1)) y.1)
          ∙ sym (order_next n (relimit b s) (relimit b s') o f'))

-- a run without limits is not stopped; its peaks are those of the loops after each operation
pub record Unstopped (n : ℕ) (s : Packing) : Type 0 where
  pub operations : List Operation
  pub last : Packing
  pub does : choose_all n s ≡ chosen operations last
  pub places : last.most_places ≡ peak_of places s.most_places (loops_after n s)
  pub loops : last.most_loops ≡ peak_of length s.most_loops (loops_after n s)

pub unstopped : (b : Most) (n : ℕ) (s : Packing) → Ample b n s → Unstopped n (relimit b s)
unfolding choose_all loops_after
unstopped b zero s k = record { operations = []; last = relimit b s; does = refl; places = refl; loops = refl }
unstopped b (suc n) s k = go (want s) refl (want_grown s) (λ s'. unstopped b n s')
  where
    go : (w : Want) → want s ≡ w → Grown (places s.loops) (length s.loops) w
        → ((s' : Packing) → Ample b n s' → Unstopped n (relimit b s'))
        → Unstopped (suc n) (relimit b s)
    go idle e g again =
        let f : choose (relimit b s) ≡ ended = choose_want (relimit b s) ∙ ap (doing (relimit b s)) e in
        let z = loops_idle n (relimit b s) f in
        record {
          operations = [];
          last = relimit b s;
          does = all_ended n (relimit b s) f;
          places = sym (ap (peak_of places s.most_places) z);
          loops = sym (ap (peak_of length s.most_loops) z);
        }
    go (wants o ts vs ls) e g again =
        let s' = packing_after s ts vs ls in
        let p : places ls ≤ b.places = omega (arith, g.0, k.0) in
        let l : length ls ≤ b.loops = omega (arith, g.1, k.1) in
        let f : choose (relimit b s) ≡ takes o (relimit b s') =
        choose_want (relimit b s) ∙ (ap (doing (relimit b s)) e ∙ limited_takes o (relimit b s') p l) in
        let i = again s' (omega (arith, g.0, k.0), omega (arith, g.1, k.1)) in
        let z = loops_next n (relimit b s) (relimit b s') o f in
        record {
          operations = o ∷ i.operations;
          last = i.last;
          does = all_taken_lem n (relimit b s) (relimit b s') o f ∙ ap (cons o) i.does;
          places = i.places ∙ sym (ap (peak_of places s.most_places) z);
          loops = i.loops ∙ sym (ap (peak_of length s.most_loops) z);
        }

-- the two together, from the beginning
module _ (ts : List Triangle) where
  ample : Ample (unlimited ts) (enough ts) (nothing_built (unlimited ts) ts)
  unfolding places
  ample = (omega arith, omega arith)

  pub run_ends : Unstopped (enough ts) (nothing_built (unlimited ts) ts)
  run_ends = unstopped (unlimited ts) (enough ts) (nothing_built (unlimited ts) ts) ample

  pub chosen_with : (h : Most) → chosen_for h ts ≡ limited_to h (run_loops ts) (chosen run_ends.operations run_ends.last)
  chosen_with h =
      same_choices h (unlimited ts) (enough ts) (nothing_built (unlimited ts) ts) ample ∙ ap (limited_to h (run_loops ts)) run_ends.does

  pub order_with : (h : Most) → NoFault h (run_loops ts) → order_for h ts ≡ order_for (unlimited ts) ts
  order_with h = same_order h (unlimited ts) (enough ts) (nothing_built (unlimited ts) ts) ample

-- 9 and 10, and neither
pub data Judged (h : Most) (lss : List (List Ring)) (c : Chosen) : Type 0 where
  at_fault : (n : ℕ) → (n ≡ 9) ⊎ (n ≡ 10) → FirstFault h n lss → limited_to h lss c ≡ stopped n → Judged h lss c
  no_fault : NoFault h lss → limited_to h lss c ≡ relimited h c → Judged h lss c

pub judged : (h : Most) (lss : List (List Ring)) (c : Chosen) → Judged h lss c
judged h [] c = no_fault tt refl
judged h (ls ∷ lss) c = go (leb (places ls) h.places) refl (leb (length ls) h.loops) refl (judged h lss c)
  where
    at : (u v : Bool) → leb (places ls) h.places ≡ u → leb (length ls) h.loops ≡ v
        → limited_to h (ls ∷ lss) c ≡ elim u [ true ↦ elim v [ true ↦ limited_to h lss c | false ↦ stopped 10 ] | false ↦ stopped 9 ]
    at u v e f =
        ap (λ (a : Bool). elim a
        [ true ↦ elim (leb (length ls) h.loops) [ true ↦ limited_to h lss c | false ↦ stopped 10 ] | false ↦ stopped 9 ]) e
        ∙ ap (λ (a : Bool). elim u [ true ↦ elim a [ true ↦ limited_to h lss c | false ↦ stopped 10 ] | false ↦ stopped 9 ]) f

    go : (u : Bool) → leb (places ls) h.places ≡ u → (v : Bool) → leb (length ls) h.loops ≡ v → Judged h lss c → Judged h (ls ∷ lss) c
    go true e true f (at_fault n k x q) =
        at_fault n k (later (leb-true (places ls) h.places e) (leb-true (length ls) h.loops f) x) (at true true e f ∙ q)
    go true e true f (no_fault x q) =
        no_fault ((leb-true (places ls) h.places e, leb-true (length ls) h.loops f), x) (at true true e f ∙ q)
    go true e false f j =
        at_fault 10 (inr refl)
        (loops_exceeded {ls = ls} (let k = leb-true (places ls) h.places e in omega arith)
        (let k = leb-false (length ls) h.loops f in omega arith)) (at true false e f)
    go false e v f j = at_fault 9 (inl refl) (places_exceeded {ls = ls} (let k = leb-false (places ls) h.places e in omega arith))
        (at false v e f)

-- what is chosen with the limits h is what is chosen without
pub chosen_same : (h : Most) (ts : List Triangle) (os : List Operation) (s : Packing) → chosen_for h ts ≡ chosen os s
    → NoFault h (run_loops ts) × (os ≡ (run_ends ts).operations) × (s ≡ relimit h (run_ends ts).last)
chosen_same h ts os s e = go (judged h (run_loops ts) (chosen (run_ends ts).operations (run_ends ts).last))
  where
    f : chosen os s ≡ limited_to h (run_loops ts) (chosen (run_ends ts).operations (run_ends ts).last)
    f = sym e ∙ chosen_with ts h

    go : Judged h (run_loops ts) (chosen (run_ends ts).operations (run_ends ts).last)
        → NoFault h (run_loops ts) × (os ≡ (run_ends ts).operations) × (s ≡ relimit h (run_ends ts).last)
    go (at_fault n k x q) = let g = f ∙ q in let z : ◌≡◌ {A = ℕ} 0 1 = cc in absurd (omega arith)
    go (no_fault x q) = let g = f ∙ q in (x, cc, cc)

-- peaks keep to the limits where each operation does
peak_kept : (w : List Ring → ℕ) (k a : ℕ) (h : Most) (lss : List (List Ring)) → a ≤ k
    → ((ls : List Ring) → (places ls ≤ h.places) × (length ls ≤ h.loops) → w ls ≤ k)
    → NoFault h lss → peak_of w a lss ≤ k
peak_kept w k a h [] l f n = l
peak_kept w k a h (ls ∷ lss) l f n = peak_kept w k (max a (w ls)) h lss (omega (arith, f ls n.0)) f n.1

pub peaks_kept : (h : Most) (ts : List Triangle) → NoFault h (run_loops ts)
    → ((run_ends ts).last.most_places ≤ h.places) × ((run_ends ts).last.most_loops ≤ h.loops)
peaks_kept h ts n = (
  omega (arith, (run_ends ts).places, peak_kept places h.places 0 h (run_loops ts) (omega arith) (λ ls k. k.0) n),
  omega (arith, (run_ends ts).loops, peak_kept length h.loops 0 h (run_loops ts) (omega arith) (λ ls k. k.1) n),
)

-- only one operation is the first at fault
pub one_fault : (h : Most) (n m : ℕ) (lss : List (List Ring)) → FirstFault h n lss → FirstFault h m lss → n ≡ m
one_fault h n m (ls ∷ lss) (places_exceeded a) (places_exceeded x) = refl
one_fault h n m (ls ∷ lss) (places_exceeded a) (loops_exceeded x y) = absurd (omega arith)
one_fault h n m (ls ∷ lss) (places_exceeded a) (later x y z) = absurd (omega arith)
one_fault h n m (ls ∷ lss) (loops_exceeded a b) (places_exceeded x) = absurd (omega arith)
one_fault h n m (ls ∷ lss) (loops_exceeded a b) (loops_exceeded x y) = refl
one_fault h n m (ls ∷ lss) (loops_exceeded a b) (later x y z) = absurd (omega arith)
one_fault h n m (ls ∷ lss) (later a b c) (places_exceeded x) = absurd (omega arith)
one_fault h n m (ls ∷ lss) (later a b c) (loops_exceeded x y) = absurd (omega arith)
one_fault h n m (ls ∷ lss) (later a b c) (later x y z) = one_fault h n m lss c z
one_fault h n m [] x'' _ = elim x'' [ ]

pub fault_or_none : (h : Most) (n : ℕ) (lss : List (List Ring)) → FirstFault h n lss → NoFault h lss → ⊥
fault_or_none h n (ls ∷ lss) (places_exceeded a) k = let p = k.0.0 in omega arith
fault_or_none h n (ls ∷ lss) (loops_exceeded a b) k = let p = k.0.1 in omega arith
fault_or_none h n (ls ∷ lss) (later a b c) k = fault_or_none h n lss c k.1
fault_or_none h n [] x'' k = elim x'' [ ]
