-- Of the place list that packing is lent, whatever is given besides, only its length counts; and how many of its records are cleared is
-- read off the answer.
-- Assumes nothing.
use Prim.Native.Nat.{ℕ}
use mathlib.Core.Bool.{Bool, true, false, ◌&&◌}
use mathlib.Core.List.{List, []}
use mathlib.Core.Path.{◌≡◌, refl, sym, subst}
use lib.ListN.{replicate}
use Rattle.rules.specs.declared.Place.{Place}
use Rattle.rules.specs.declared.Triangle.{Triangle}
use Rattle.rules.specs.Checked.{Checked}
use Rattle.rules.specs.Checked.{Accepted, Refused}
use Rattle.rules.specs.Triangle.{triangles_of}
use Rattle.rules.specs.Check.{check}
use Rattle.rules.specs.Buffer.{free_place}
use Rattle.rules.specs.Pack.{Chosen, stopped, chosen, most, nothing_built, chosen_for, order_for, PackBuffers, PackResult}
use Rattle.rules.specs.Note.{note_fits}
use Rattle.rules.specs.PackWhole.{Extras, given_fit, whole_contents_of, whole_chosen, whole_checked, pack_whole}
use Rattle.border_theory.proofs.Records.Reading.{counted, counted_enough}
use Rattle.border_theory.proofs.Records.Clearing.{Clears}
use Rattle.choice_theory.proofs.Runs.Whole.{Ends}
use Rattle.choice_theory.proofs.Runs.Accepted.{accepted_packs}
use Rattle.pack_theory.specs.Packing.Lent.{lent}
use Rattle.pack_theory.proofs.Packing.Lending.{lent_to, tested, is_past, Alike, alike_down, alike_refused, alike_stored, alike_tested}
use Rattle.pack_theory.proofs.Packing.Clearing.{cleared_after, ClearsIf, stored_clears, stopped_clears, tested_clears, past_long}
use Rattle.pack_theory.proofs.Packing.Clearing.{clears_said}
use Rattle.volume_theory.proofs.Beside.{by_extras, run}

module _ (v : ℕ) (xs : List ℕ) (e : Extras) where
  abbrev ts : List Triangle
  ts = triangles_of xs

  -- 23 and 25, then the run
  abbrev ran : PackBuffers → Bool → Bool → PackResult
  ran r s t = by_extras r s t (run v xs r e)

  abbrev fit : Bool
  fit = given_fit v e.positions

  abbrev noted : Bool
  noted = note_fits e.note

  whole_tested : (r : PackBuffers) → pack_whole v xs e r ≡ tested v ts r (check v xs) (ran r fit noted)
  unfolding whole_checked
  whole_tested r = go (check v xs)
    where
      go : (c : Checked) → whole_checked most v ts e r c ≡ tested v ts r c (ran r fit noted)
      go (Refused n) = refl
      go Accepted = refl

  module _ (ns bs os : List ℕ) (ps qs : List Place) where
    alike_run : (ks : List ℕ) (c : Chosen)
        → Alike (whole_chosen v ts e (lent_to ns ps bs os) ks c) (whole_chosen v ts e (lent_to ns qs bs os) ks c)
    unfolding whole_chosen
    alike_run ks (stopped n) = alike_refused v ts ns bs os ps qs n
    alike_run ks (chosen cs s) = alike_stored v ts ns bs os ps qs (whole_contents_of v ts e ks cs s)

    alike_ran : (s t : Bool) → Alike (ran (lent_to ns ps bs os) s t) (ran (lent_to ns qs bs os) s t)
    alike_ran true true = alike_run (order_for most ts) (chosen_for most ts)
    alike_ran true false = alike_down v ts ns bs os ps qs 25
    alike_ran false t = alike_down v ts ns bs os ps qs 23

  module _ (r : PackBuffers) where
    run_clears : (ks : List ℕ) (c : Chosen) → Ends (nothing_built most ts) [] [] [] c → ClearsIf true r (whole_chosen v ts e r ks c)
    unfolding whole_chosen Ends
    run_clears ks (stopped n) h = stopped_clears v ts r n h
    run_clears ks (chosen cs s) h = stored_clears v ts r (whole_contents_of v ts e ks cs s)

    ran_clears : check v xs ≡ Accepted → (s t : Bool) → ClearsIf (s && t) r (ran r s t)
    ran_clears a true true = run_clears (order_for most ts) (chosen_for most ts) (accepted_packs most v xs a)
    ran_clears a true false = record { answer = refl; places = refl }
    ran_clears a false t = record { answer = refl; places = refl }

    pub whole_clears : ClearsIf (is_past (check v xs) v ts r && (fit && noted)) r (pack_whole v xs e r)
    whole_clears =
        subst (ClearsIf (is_past (check v xs) v ts r && (fit && noted)) r) (sym (whole_tested r))
        (tested_clears v xs r (fit && noted) (ran r fit noted) (λ a. ran_clears a fit noted))

-- any list goes as so many records as are read of it
pub lend_pack : (v : ℕ) (xs : List ℕ) (e : Extras) (ns bs os : List ℕ) (ps : List Place)
    → Alike (pack_whole v xs e (lent_to ns ps bs os)) (pack_whole v xs e (lent (counted ps) ns bs os))
lend_pack v xs e ns bs os ps =
    let us = replicate (counted ps) free_place in
    rw (whole_tested v xs e (lent_to ns ps bs os), whole_tested v xs e (lent_to ns us bs os))
    (alike_tested v (triangles_of xs) ns bs os ps us (counted_enough ps) (check v xs) _ _
    (alike_ran v xs e ns bs os ps us (fit v xs e) (noted v xs e)))

-- past 22, 23 and 25 the first 1,024, before them none
pub pack_whole_clears : (v : ℕ) (xs : List ℕ) (e : Extras) (r : PackBuffers)
    → Clears r.places (cleared_after (pack_whole v xs e r).answer) (pack_whole v xs e r).buffers.places
pack_whole_clears v xs e r =
    clears_said _ r (pack_whole v xs e r) (whole_clears v xs e r) (past_long v xs r (fit v xs e && noted v xs e))
