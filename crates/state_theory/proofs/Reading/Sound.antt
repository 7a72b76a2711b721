-- A state that the core's is given back as passes 21 but for its sums, if the machine's counts are within those stated.
-- Assumes nothing.
use Prim.Native.Nat.{ℕ, ◌*◌, ◌≤◌}
use native.Mathlib.Omega.{arith}
use mathlib.Core.Bool.{true, ◌&&◌}
use mathlib.Core.List.{List}
use mathlib.Core.Path.{◌≡◌, sym, ap, ◌∙◌, subst}
use lib.Dec.{leb}
use lib.ListN.{length}
use borrow.Author.Tests.{le-leb}
use Rattle.rules.specs.declared.Builder.{Builder}
use Rattle.rules.specs.Limits.{max_places, in_range}
use Rattle.rules.specs.Ring.{places}
use Rattle.rules.specs.Machine.{Machine, within, long_enough}
use Rattle.rules.specs.Buffer.{lengths}
use Rattle.rules.specs.View.{view}
use Rattle.rules.specs.Sound.{sizes_of, counts_fit, triangles_fit, sound_else}
use Rattle.border_theory.specs.Records.Plain.{records}
use Rattle.border_theory.proofs.Records.Reading.{length_records}
use Rattle.cutborder.specs.declared.Front.{Front}
use Rattle.state_theory.specs.Reading.Opens.{lent}
use Rattle.state_theory.proofs.Reading.Closing.{Closes}
use Rattle.counting.proofs.Bools.{and_left, and_right, and_both}
use Rattle.promises.proofs.Kept.{built_long}

-- the counts of a machine, compared with those stated
record Fits (M : Machine) : Type 0 where
  used : leb M.used M.stated.vertices ≡ true
  built : leb (length M.triangles) M.stated.triangles ≡ true
  places : leb (places M.loops) M.stated.places ≡ true
  live : leb (length M.loops) M.stated.loops ≡ true

fits : (M : Machine) → within M ≡ true → Fits M
fits M h =
    let a = leb M.used M.stated.vertices in
    let b = leb (length M.triangles) M.stated.triangles in
    let c = leb (places M.loops) M.stated.places in
    let d = leb (length M.loops) M.stated.loops in
    let three : a && b && c ≡ true = and_left (a && b && c) d h in
    let two : a && b ≡ true = and_left (a && b) c three in
    record { used = and_left a b two; built = and_right a b two; places = and_right (a && b) c three; live = and_right (a && b && c) d h }

module _ (b : Builder) (xs : List ℕ) (m : List ℕ) where
  -- the counts of a state that is read as a machine within its bounds
  counts_fit_lem : let M = view b xs (records max_places m) in
      in_range M.stated ≡ true → within M ≡ true → M.most_places ≤ M.stated.places → M.most_loops ≤ M.stated.loops
      → sizes_of b b.live ≡ places M.loops → b.live ≡ length M.loops → counts_fit b ≡ true
  unfolding view
  counts_fit_lem r w p l s v =
      let f = fits (view b xs (records max_places m)) w in
      and_both _ _
      (and_both _ _
      (and_both _ _
      (and_both _ _
      (and_both _ _ (and_both _ _ r f.used) (ap (λ (k : ℕ). leb k b.stated.triangles) (sym (built_long xs b.built)) ∙ f.built))
      (ap (λ (k : ℕ). leb k b.stated.loops) v ∙ f.live))
      (ap (λ (k : ℕ). leb k b.stated.places) s ∙ f.places))
      (le-leb b.peaks.loops b.stated.loops l))
      (le-leb b.peaks.places b.stated.places p)

pub closes_counts : (f : Front) (m xs : List ℕ) (M : Machine) (b : Builder) → Closes f m xs M b → in_range M.stated ≡ true
    → within M ≡ true
    → M.most_places ≤ M.stated.places → M.most_loops ≤ M.stated.loops → counts_fit b ≡ true
closes_counts f m xs M b c r w p l =
    let e : M ≡ view b xs (records max_places m) = sym c.machine in
    counts_fit_lem b xs m (subst (λ (N : Machine). in_range N.stated ≡ true) e r) (subst (λ (N : Machine). within N ≡ true) e w)
    (subst (λ (N : Machine). N.most_places ≤ N.stated.places) e p) (subst (λ (N : Machine). N.most_loops ≤ N.stated.loops) e l)
    (c.places ∙ ap (λ (N : Machine). places N.loops) e) (c.live ∙ ap (λ (N : Machine). length N.loops) e)

pub closes_sound : (f : Front) (m xs : List ℕ) (M : Machine) (b : Builder) → Closes f m xs M b → in_range M.stated ≡ true
    → within M ≡ true
    → M.most_places ≤ M.stated.places → M.most_loops ≤ M.stated.loops → 3 * b.stated.triangles ≤ length xs → triangles_fit b xs ≡ true
    → sound_else b (lent xs max_places m) ≡ true
unfolding sound_else
closes_sound f m xs M b c r w p l long t =
    and_both _ _ (and_both _ _ (and_both _ _ enough (closes_counts f m xs M b c r w p l)) c.links) t
  where
    enough : long_enough (lengths (lent xs max_places m)) b.stated ≡ true
    enough =
        and_both _ _ (le-leb (3 * b.stated.triangles) (length xs) long)
        (le-leb max_places (length (records max_places m)) (omega (arith, length_records max_places m)))
