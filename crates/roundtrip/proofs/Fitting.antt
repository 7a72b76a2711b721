-- A complete packing within the limits: its counts are in range, its indices fit their widths, and its pack is short enough.
-- Assumes nothing.
use Prim.Native.Nat.{ℕ, suc, ◌+◌, ◌*◌, ◌≤◌, ◌<◌}
use native.Mathlib.Omega.{arith}
use mathlib.Core.Bool.{true, false, ◌&&◌, not}
use mathlib.Core.List.{List, [], ◌∷◌, ◌++◌, append_assoc}
use mathlib.Core.Path.{◌≡◌, ap, ◌∙◌, subst}
use lib.ListN.{length, length-append}
use Rattle.rules.specs.declared.Triangle.{Triangle}
use Rattle.rules.specs.declared.Operation.{Operation}
use Rattle.rules.specs.declared.Operation.TheVariants.{New, Forward, Backward, Border, Split, Close, Union, Start}
use Rattle.rules.specs.Checked.{Accepted}
use Rattle.rules.specs.Limits.{min_vertices, max_vertices, max_triangles, min_places, max_places, max_loops, between, vertex_range}
use Rattle.rules.specs.Limits.{in_range}
use Rattle.rules.specs.Triangle.{triangles_of}
use Rattle.rules.specs.Check.{check}
use Rattle.rules.specs.Ring.{Node, Ring, is_open, reached, places}
use Rattle.rules.specs.Code.{operation_bits, operations_bits, read_operation}
use Rattle.rules.specs.Bits.{bytes_of}
use Rattle.rules.specs.Choice.{Packing}
use Rattle.rules.specs.Pack.{chosen, most, nothing_built, chosen_for}
use Rattle.book.specs.Shown.{shown_all}
use Rattle.book.proofs.Shown.{Live, reached_cut, all_shown_append, all_shown_length, live_split, waiting_shown}
use Rattle.choice_theory.specs.Works.{Reads, none_read, one_read}
use Rattle.choice_theory.proofs.Steps.Surgery.{Surgery, on_new, on_forward, on_backward, on_close, on_split, on_union}
use Rattle.choice_theory.proofs.Steps.Tally.{all_open_edges}
use Rattle.choice_theory.proofs.Steps.Falling.{build_opens, border_opens}
use Rattle.choice_theory.proofs.Runs.Machine.{Run, r_done, r_start, r_build, r_border}
use Rattle.choice_theory.proofs.Runs.Tracking.{shown_places, shown_loops, Within, peak_within}
use Rattle.choice_theory.proofs.Runs.Whole.{Complete}
use Rattle.choice_theory.proofs.Runs.RoundTrip.{stated_by}
use Rattle.choice_theory.proofs.Places.Rings.{places_append}
use Rattle.mesh_theory.proofs.Fans.Checks.{check_accepted, accepted_count}
use Rattle.wire_theory.specs.Shape.{Fits, width_of}
use Rattle.wire_theory.proofs.Whole.{AllFit}
use Rattle.wire_theory.proofs.Fields.{CountsFit}
use Rattle.wire_theory.proofs.Bytes.{length_bytes}
use Rattle.wire_theory.proofs.Operations.{length_operation, width_least, width_most, read_operation_lem}
use Rattle.roundtrip.proofs.Limits.{chosen_same, peaks_kept}
use Rattle.counting.proofs.Bools.{and_both}
use Rattle.counting.proofs.Ranges.{between_of, of_between}

-- an index of the table fits its width
surgery_fits : (e f : Node) (ps : List Node) (ws ls : List Ring) (c : ℕ) (o : Operation) → Live ws → Surgery e f ps ws ls c o
    → shown_places ((e ∷ (f ∷ ps)) ∷ ws) ≤ max_places
    → shown_loops ((e ∷ (f ∷ ps)) ∷ ws) ≤ max_loops → Fits o
unfolding places
surgery_fits e f ps ws ls c New g (on_new q) p l = tt
surgery_fits e f ps ws ls c Forward g (on_forward a b bs sh k op m) p l = tt
surgery_fits e f ps ws ls c Backward g (on_backward b bs a sh k op m) p l = tt
surgery_fits e f ps ws ls c Close g (on_close a sh k op op' m) p l = tt
surgery_fits e f ps ws ls c (Split i) g (on_split us a vs sh n lu lv k m) p l =
    let z : length (reached (f ∷ ps) false) ≡ length (reached (f ∷ us) false) + suc (length (reached vs (not (is_open a)))) =
    ap (λ (r : List Node). length (reached (f ∷ r) false)) sh
    ∙ (ap length (reached_cut (f ∷ us) a vs n.1) ∙ length-append (reached (f ∷ us) false) (a ∷ reached vs (not (is_open a)))) in
    omega (arith, z, n.0)
surgery_fits e f ps ws ls c (Union w j) g (on_union before us a vs behind sh n i k m) p l =
    let live = (live_split before ((us ++ (a ∷ vs)) ∷ behind) (subst Live sh g)).1 in
    let all : shown_all ws ≡ shown_all before ++ ((reached us false ++ (a ∷ reached vs (not (is_open a)))) ∷ shown_all behind) =
    ap shown_all sh ∙ (all_shown_append before ((us ++ (a ∷ vs)) ∷ behind)
    ∙ ap (λ (r : List Node). shown_all before ++ (r ∷ shown_all behind)) (waiting_shown us a vs behind live i.1)) in (
      omega (
        arith,
        ap length all,
        length-append (shown_all before)
            ((reached us false ++ (a ∷ reached vs (not (is_open a)))) ∷ shown_all behind),
        all_shown_length before,
        n,
      ),
      omega (
        arith,
        ap places all,
        places_append (shown_all before) ((reached us false ++ (a ∷ reached vs (not (is_open a)))) ∷ shown_all behind),
        length-append (reached us false) (a ∷ reached vs (not (is_open a))),
        i.0,
      ),
    )
surgery_fits e f ps ws ls c Border g x4 p l = elim x4 [ ]
surgery_fits e f ps ws ls c Start g x5 p l = elim x5 [ ]

run_fits : {M B : List Triangle} {rims ls : List Ring} {os : List Operation} {R : List Triangle} (run : Run M B rims ls os R)
    → shown_places ls ≤ max_places
    → shown_loops ls ≤ max_loops → Within shown_places max_places run → Within shown_loops max_loops run → AllFit os
run_fits r_done p l u w = tt
run_fits (r_start np nq nr d run) p l u w = (tt, run_fits run u.0 w.0 u.1 w.1)
run_fits (r_build {ws = ws} {ls = ls} {e = e} {f = f} {ps = ps} {c = c} {o = o} v s ra rb d new run) p l u w =
    (surgery_fits e f ps ws ls c o v.1 s p l, run_fits run u.0 w.0 u.1 w.1)
run_fits (r_border v run) p l u w = (tt, run_fits run u.0 w.0 u.1 w.1)

length_more : (o : Operation) (os : List Operation) → length (operations_bits (o ∷ os)) ≡ width_of o + length (operations_bits os)
unfolding operations_bits
length_more o os = omega (arith, length-append (operation_bits o) (operations_bits os), length_operation o)

-- and at least as many bits as operations
pub few_operations : (os : List Operation) → length os ≤ length (operations_bits os)
unfolding operations_bits
few_operations [] = omega arith
few_operations (o ∷ os) = omega (arith, length_more o os, width_least o, few_operations os)

-- an operation that builds has at most 20 bits, border 3
run_bits : {M B : List Triangle} {rims ls : List Ring} {os : List Operation} {R : List Triangle} → Run M B rims ls os R
    → length (operations_bits os) ≤ 26 * length R + 3 * all_open_edges ls
unfolding operations_bits
run_bits r_done = omega arith
run_bits (r_start {os = os} np nq nr d run) = omega (arith, run_bits run, length_more Start os)
run_bits (r_build {ws = ws} {ls = ls} {e = e} {f = f} {ps = ps} {c = c} {o = o} {os = os} v s ra rb d new run) =
    omega (arith, run_bits run, build_opens e f ps ws ls c o s, length_more o os, width_most o)
run_bits (r_border {ws = ws} {e = e} {f = f} {ps = ps} {os = os} v run) =
    omega (arith, run_bits run, border_opens e f ps ws v, length_more Border os)

-- the first operation of a run that builds something is a start
run_first : {M : List Triangle} {rims : List Ring} {os : List Operation} {R : List Triangle} (run : Run M [] rims [] os R) → 1 ≤ length R
    → (k l : ℕ)
    → Within shown_places k run → Within shown_loops l run → (min_places ≤ k) × (1 ≤ l)
unfolding places reached
run_first r_done h k l p w = absurd (omega arith)
run_first (r_start np nq nr d run) h k l p w = (p.0, w.0)

-- operations that fit are read back
pub reads_of : (os : List Operation) (zs : List ℕ) → AllFit os → Reads (operations_bits os ++ zs) os zs
unfolding operations_bits
reads_of [] zs h = none_read
reads_of (o ∷ os) zs h =
    one_read (ap read_operation (append_assoc (operation_bits o) (operations_bits os) zs)
    ∙ read_operation_lem o (operations_bits os ++ zs) h.0)
    (reads_of os zs h.1)

-- a complete packing of an accepted list
module _ (v : ℕ) (xs : List ℕ) (os : List Operation) (s : Packing) (a : check v xs ≡ Accepted)
    (e : chosen_for most (triangles_of xs) ≡ chosen os s)
    (c : Complete (nothing_built most (triangles_of xs)) [] [] [] os s) where
  kept : (s.most_places ≤ max_places) × (s.most_loops ≤ max_loops)
  kept =
      let k = chosen_same most (triangles_of xs) os s e in
      let p = peaks_kept most (triangles_of xs) k.0 in
      (omega (arith, p.0, ap (λ (x : Packing). x.most_places) k.2), omega (arith, p.1, ap (λ (x : Packing). x.most_loops) k.2))

  in_places : (k : ℕ) → s.most_places ≤ k → Within shown_places k c.runs.run
  in_places k h = peak_within shown_places 0 k c.runs.run (omega (arith, c.runs.most_places_lem))

  in_loops : (k : ℕ) → s.most_loops ≤ k → Within shown_loops k c.runs.run
  in_loops k h = peak_within shown_loops 0 k c.runs.run (omega (arith, c.runs.most_loops_lem))

  pub all_fit : AllFit os
  unfolding places
  all_fit = run_fits c.runs.run (omega arith) (omega arith) (in_places max_places kept.0) (in_loops max_loops kept.1)

  pub short_enough : length (bytes_of (operations_bits os)) < 65536
  short_enough =
      omega (arith, run_bits c.runs.run, c.runs.count, (accepted_count v xs a).2, length_bytes (operations_bits os))

  at_least : (min_places ≤ s.most_places) × (1 ≤ s.most_loops)
  at_least =
      run_first c.runs.run (omega (arith, c.runs.count, (accepted_count v xs a).1)) s.most_places s.most_loops
      (in_places s.most_places (omega arith)) (in_loops s.most_loops (omega arith))

  in_vertices : (min_vertices ≤ v) × (v ≤ max_vertices)
  in_vertices = of_between min_vertices v max_vertices ((check_accepted v xs).0 a).range

  pub counts_fit_lem : CountsFit (stated_by v (triangles_of xs) s)
  counts_fit_lem = record {
    vertices = omega (arith, in_vertices.1);
    triangles = omega (arith, (accepted_count v xs a).2);
    places = omega (arith, kept.0);
    loops = omega (arith, kept.1);
  }

  pub in_range_lem : in_range (stated_by v (triangles_of xs) s) ≡ true
  in_range_lem =
      let t = length (triangles_of xs) in
      and_both (vertex_range v && between 1 t max_triangles && between min_places s.most_places max_places)
      (between 1 s.most_loops max_loops)
      (and_both (vertex_range v && between 1 t max_triangles) (between min_places s.most_places max_places)
      (and_both (vertex_range v) (between 1 t max_triangles) ((check_accepted v xs).0 a).range
      (between_of 1 t max_triangles (accepted_count v xs a).1 (accepted_count v xs a).2))
      (between_of min_places s.most_places max_places at_least.0 kept.0))
      (between_of 1 s.most_loops max_loops at_least.1 kept.1)
