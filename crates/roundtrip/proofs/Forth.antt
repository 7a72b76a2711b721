-- The pack of an accepted list is accepted by unpacking, which runs the packer's own operations.
-- Assumes nothing.
use Prim.Native.Nat.{ℕ, suc, ◌+◌, ◌*◌, ◌≤◌}
use native.Mathlib.Omega.{arith}
use mathlib.Core.Bool.{true, ◌&&◌}
use mathlib.Core.List.{List, [], ◌++◌}
use mathlib.Core.Path.{◌≡◌, ap, ◌∙◌}
use lib.ListN.{length, length-append, replicate}
use lib.Dec.{eqb, leb}
use borrow.Author.Tests.{eq-eqb, le-leb}
use Rattle.rules.specs.declared.Triangle.{Triangle}
use Rattle.rules.specs.declared.Counts.{Counts}
use Rattle.rules.specs.declared.Place.{Place}
use Rattle.rules.specs.declared.Operation.{Operation}
use Rattle.rules.specs.Checked.{Accepted}
use Rattle.rules.specs.Limits.{max_places}
use Rattle.rules.specs.Triangle.{triangles_of}
use Rattle.rules.specs.Check.{check}
use Rattle.rules.specs.Machine.{Machine, empty, complete, as_stated, totals}
use Rattle.rules.specs.Bits.{bytes_of}
use Rattle.rules.specs.Code.{operations_bits}
use Rattle.rules.specs.Fields.{fields, fields_of}
use Rattle.rules.specs.Choice.{Packing}
use Rattle.rules.specs.Pack.{chosen, most, nothing_built, chosen_for, pack_of}
use Rattle.rules.specs.Buffer.{Buffers}
use Rattle.rules.specs.Unpack.{completed, run_all, run_of, rest_fits, unpack_done, unpack_run, unpack}
use Rattle.choice_theory.proofs.Runs.Whole.{Complete}
use Rattle.choice_theory.proofs.Runs.Unpacking.{Reached}
use Rattle.choice_theory.proofs.Runs.Accepted.{Packable, accepted_packable}
use Rattle.choice_theory.proofs.Runs.RoundTrip.{stated_by, new_number, numbers_tell, unpacks, unpack_finishes, accepted_complete}
use Rattle.choice_theory.proofs.Runs.RoundBack.{Done, done_of_lem}
use Rattle.choice_theory.proofs.Runs.Running.{run_of_lem}
use Rattle.wire_theory.proofs.Bytes.{fill, bits_of_bytes_lem}
use Rattle.wire_theory.proofs.Operations.{operations_bits_are}
use Rattle.wire_theory.proofs.Fields.{fields_of_pack}
use Rattle.wire_theory.proofs.Rest.{fill_fits}
use Rattle.roundtrip.proofs.Fitting.{all_fit, short_enough, counts_fit_lem, in_range_lem, reads_of, few_operations}
use Rattle.roundtrip.proofs.Results.{fields_run, ended_done}
use Rattle.counting.proofs.Bools.{and_both}

-- a machine that is done passes 15, 19 and 20
done_complete : (m : Machine) → Done m → complete m ≡ true
done_complete m d =
    and_both (eqb (length m.triangles) m.stated.triangles) (eqb (length m.loops) 0) (eq-eqb _ _ d.all_built)
    (eq-eqb (length m.loops) 0 (ap length d.no_loop))

done_stated : (m : Machine) → Done m → as_stated m ≡ true
done_stated m d =
    and_both (eqb m.used m.stated.vertices && eqb m.most_places m.stated.places) (eqb m.most_loops m.stated.loops)
    (and_both (eqb m.used m.stated.vertices) (eqb m.most_places m.stated.places) (eq-eqb _ _ d.vertices)
    (eq-eqb _ _ d.places)) (eq-eqb _ _ d.loops)

module _ (v : ℕ) (xs : List ℕ) (os : List Operation) (s : Packing) (a : check v xs ≡ Accepted)
    (e : chosen_for most (triangles_of xs) ≡ chosen os s) where
  abbrev ts : List Triangle
  ts = triangles_of xs

  abbrev st : Counts
  st = stated_by v (triangles_of xs) s

  pub whole : Complete (nothing_built most (triangles_of xs)) [] [] [] os s
  whole = accepted_complete most v xs os s a e

  pub ok : Packable v (triangles_of xs)
  ok = accepted_packable v xs a

  pub reached : Reached (new_number s) whole.built (numbers_tell most v (triangles_of xs) ok os s whole)
      (empty (stated_by v (triangles_of xs) s)) os v s.most_places s.most_loops
  reached = unpacks most v ts ok os s whole

  done : Done reached.end
  unfolding reached
  done = done_of_lem reached.end (totals reached.end) (unpack_finishes most v ts ok os s whole)

  abbrev zeros : List ℕ
  zeros = replicate (fill (length (operations_bits os))) 0

  pub found : fields_of (pack_of v (triangles_of xs) os s) ≡ fields (stated_by v (triangles_of xs) s) (bytes_of (operations_bits os))
  found = fields_of_pack st (bytes_of (operations_bits os)) (counts_fit_lem v xs os s a e whole) (short_enough v xs os s a e whole)

  ran : run_of st (bytes_of (operations_bits os)) ≡ completed reached.end zeros
  ran =
      let b = bits_of_bytes_lem (operations_bits os) (operations_bits_are os) in
      ap (λ (bs : List ℕ). run_all (suc (length bs)) (empty st) bs) b
      ∙ run_of_lem (suc (length (operations_bits os ++ zeros))) reached.works (reads_of os zeros (all_fit v xs os s a e whole))
      (done_complete reached.end done)
      (omega (arith, length-append (operations_bits os) zeros, few_operations os))

  module _ (r : Buffers) (long : 3 * length (triangles_of xs) ≤ length r.triangles)
      (many : max_places ≤ length {A = Place} r.places) where
    pub unpacks_done : unpack (pack_of v (triangles_of xs) os s) r
        ≡ unpack_done (stated_by v (triangles_of xs) s) (totals reached.end) reached.end.triangles r
    unfolding unpack_run
    unpacks_done =
        fields_run (pack_of v ts os s) r st (bytes_of (operations_bits os)) found (in_range_lem v xs os s a e whole)
        (and_both (leb (3 * length ts) (length r.triangles)) (leb max_places (length {A = Place} r.places)) (le-leb _ _ long)
        (le-leb _ _ many))
        ∙ (ap (unpack_run st r) ran
        ∙ ended_done st r reached.end (rest_fits zeros)
        (and_both (rest_fits zeros) (as_stated reached.end) (fill_fits (length (operations_bits os))) (done_stated reached.end done))
        done.fans)
