-- The service's volume call and the furnace's own reader, test by test.
-- Assumes nothing.
use Prim.Native.Nat.{ℕ, suc, ◌*◌, ◌<◌}
use native.Mathlib.Omega.{arith}
use mathlib.Core.Bool.{Bool, true, false, ◌&&◌}
use mathlib.Core.List.{List, [], ◌∷◌, ◌++◌}
use mathlib.Core.Logic.{◌⊎◌, inl, inr}
use mathlib.Core.Path.{◌≡◌, refl, sym, ap, ap₂, ◌∙◌, subst}
use lib.IntN.{ℤ, ◌+ℤ◌, +ℤ_assoc, +ℤ_comm, +ℤ_idl, +ℤ_idr}
use lib.ListN.{length, take, drop}
use lib.Seq.{take_at}
use lib.Dec.{eqb, ltb}
use borrow.Author.Tests.{eqb-true, ltb-true}
use Rattle.rules.specs.declared.Triangle.{Triangle}
use Rattle.rules.specs.declared.Counts.{Counts}
use Rattle.rules.specs.declared.Model.{Model}
use Rattle.rules.specs.Melted.{Melted}
use Rattle.rules.specs.Melted.{Six, Refused}
use Rattle.rules.specs.Limits.{in_range}
use Rattle.rules.specs.Count.{same, occurs}
use Rattle.rules.specs.Triangle.{triangles_of}
use Rattle.rules.specs.Fan.{one_fan_each}
use Rattle.rules.specs.Machine.{Machine, empty, long_enough, as_stated, totals}
use Rattle.rules.specs.Answer.{refusal}
use Rattle.rules.specs.Bits.{bits_of_bytes}
use Rattle.rules.specs.Buffer.{over, Buffers, lengths}
use Rattle.rules.specs.Fields.{Fields, no_pack, fields, fields_of}
use Rattle.rules.specs.Unpack.{Ran, stopped, completed, run_of, rest_fits, numbers_of, UnpackResult, turned_down, unpack_refused}
use Rattle.rules.specs.Unpack.{unpack_done}
use Rattle.rules.specs.Unpack.{unpack_ended, unpack_run, unpack_fields}
use Rattle.rules.specs.Grid.{positions_from}
use Rattle.rules.specs.Volume.{point_at, determinant, six_volumes}
use Rattle.rules.specs.Later.{Given, not_given, given, Parts, no_parts, parts, parts_of}
use Rattle.rules.specs.Note.{note_fits, take_note}
use Rattle.rules.specs.UnpackWhole.{field_fits, model_in, left_by20, then_tested, unpack_parts}
use Rattle.rules.specs.Reading.{VolumeResult, positions_in, six_of, measured, volume}
use Rattle.rules.specs.Furnace.{peaks_fit, run_freely_of, melted, melt_ended, melt_run, melt_fields, melt_parts, melt}
use Rattle.mesh_theory.proofs.Chains.Prefix.{length_numbers, triangles_append}
use Rattle.choice_theory.proofs.Runs.Running.{held_of}
use Rattle.choice_theory.proofs.Runs.Working.{works_stated}
use Rattle.counting.proofs.Bools.{and_left, and_right}
use Rattle.furnace_theory.specs.Claims.{peaks_fit_in, peaks_fit_of, stated_peaks_fit, only_the_services, its_refusals, Alike}
use Rattle.furnace_theory.proofs.Freely.{RunsAlike, StopsWith, runs_freely}

-- ---- the sum over the triangles in building order is that over the latest first

module _ (zs : List ℤ) where
  six_append : (ts us : List Triangle) → six_volumes zs (ts ++ us) ≡ six_volumes zs ts +ℤ six_volumes zs us
  unfolding six_volumes
  six_append [] us = sym (+ℤ_idl (six_volumes zs us))
  six_append (t ∷ ts) us =
      let d = determinant (point_at zs t.p) (point_at zs t.q) (point_at zs t.r) in
      ap (λ (x : ℤ). d +ℤ x) (six_append ts us) ∙ sym (+ℤ_assoc d (six_volumes zs ts) (six_volumes zs us))

  six_built : (ts : List Triangle) → six_volumes zs (triangles_of (numbers_of ts)) ≡ six_volumes zs ts
  unfolding six_volumes triangles_of numbers_of
  six_built [] = refl
  six_built (t ∷ ts) =
      let d = determinant (point_at zs t.p) (point_at zs t.q) (point_at zs t.r) in
      ap (six_volumes zs) (triangles_append (length ts) (numbers_of ts) (t.p ∷ (t.q ∷ (t.r ∷ []))) (length_numbers ts))
      ∙ six_append (triangles_of (numbers_of ts)) (t ∷ []) ∙ ap₂ ◌+ℤ◌ (six_built ts) (+ℤ_idr d) ∙ +ℤ_comm (six_volumes zs ts) d

  six_written : (ts : List Triangle) (n : ℕ) (bs : List ℕ) → length ts ≡ n
      → six_volumes zs (triangles_of (take (3 * n) (over (numbers_of ts) bs))) ≡ six_volumes zs ts
  six_written ts n bs e =
      ap (λ (us : List ℕ). six_volumes zs (triangles_of us))
      (take_at (numbers_of ts) (drop (length (numbers_of ts)) bs) (3 * n) (omega (arith, length_numbers ts))) ∙ six_built ts

-- ---- how the two answers stand to each other

-- the service's own refusals, all behind 13
abbrev pub is_services : ℕ → Bool
is_services k = eqb (occurs k only_the_services) 1 && ltb 13 k

-- the reader's refusals but 26, and those of them that stand behind 13
abbrev pub is_other : ℕ → Bool
is_other k = eqb (occurs k its_refusals) 1 && ltb k 26

abbrev is_later : ℕ → Bool
is_later k = is_other k && ltb 13 k

-- the two answer alike, or the service refuses with a number of its own
pub data Ends (w : VolumeResult) (x : Melted) : Type 0 where
  services : (k : ℕ) → w.answer ≡ refusal k → is_services k ≡ true → Ends w x
  alike : Alike w x → Ends w x

-- where the reader refuses, it is with a number of f
abbrev pub RefusesBy : (ℕ → Bool) → Melted → Type 0
RefusesBy f (Six z) = Unit {0}
RefusesBy f (Refused k) = f k ≡ true

-- where the service refuses, it is with neither 12 nor 13
abbrev pub Late : VolumeResult → Type 0
Late w = (k : ℕ) → w.answer ≡ refusal k → 13 < k

late_ends : (w : VolumeResult) (x : Melted) → Ends w x → RefusesBy is_later x → Late w
late_ends w x (services j e h) p k f =
    let q : j ≡ k = cc in omega (arith, ltb-true 13 j (and_right (eqb (occurs j only_the_services) 1) (ltb 13 j) h))
late_ends w (Six z) (alike h) p k f = let q : ◌≡◌ {A = ℕ} 0 1 = cc h.1 in absurd (omega arith)
late_ends w (Refused j) (alike h) p k f = let q : j ≡ k = cc h.0 in omega (arith, ltb-true 13 j (and_right (is_other j) (ltb 13 j) p))

-- ---- after the unpacking of the first two fields: 23, 25, 24

-- the volume call, on a pack with the positions ps and the note ns, where that unpacking came to u
abbrev after : Given (List ℕ) → Given (List ℕ) → Buffers → UnpackResult → VolumeResult
after ps ns r u =
    let v = then_tested 23 (λ m. field_fits m.vertices ps) r u (model_in u.answer) in
    let w = then_tested 25 (λ m. note_fits ns) r v (model_in v.answer) in measured ps r w (model_in w.answer)

-- a refusal is passed on
abbrev refusing : ℕ → Buffers → UnpackResult
refusing k bs = record { answer = refusal k; buffers = bs }

refused_alike : (ps : Given (List ℕ)) (r : Buffers) (k : ℕ) (bs : Buffers) → Alike (measured ps r (refusing k bs) not_given) (Refused k)
unfolding measured
refused_alike not_given r k bs = (refl, refl)
refused_alike (given ps) r k bs = (refl, refl)

refused_both : (ps ns : Given (List ℕ)) (r : Buffers) (k : ℕ) (bs : Buffers) → Ends (after ps ns r (refusing k bs)) (Refused k)
unfolding then_tested
refused_both ps ns r k bs = alike (refused_alike ps r k bs)

refused_alone : (ps ns : Given (List ℕ)) (r : Buffers) (k : ℕ) (bs : Buffers) (x : Melted) → is_services k ≡ true
    → Ends (after ps ns r (refusing k bs)) x
unfolding then_tested
refused_alone ps ns r k bs x h = services k (refused_alike ps r k bs).0 h

-- the machine M completed a model with the counts s
module _ (r : Buffers) (s : Counts) (M : Machine) (all : length M.triangles ≡ s.triangles) where
  abbrev m : Model
  m = record { vertices = s.vertices; triangles = s.triangles; totals = totals M }

  abbrev u : UnpackResult
  u = unpack_done s (totals M) M.triangles r

  ends_24 : (ps : Given (List ℕ)) → Ends (measured ps r u (given m)) (melted ps M)
  unfolding measured
  ends_24 not_given = alike (refl, refl)
  ends_24 (given ps) = go (eqb M.rims 0)
    where
      go : (t : Bool)
          → Ends
          (elim t as (λ _. VolumeResult) [
            | true ↦ record { answer = u.answer; six = given (six_of ps m u.buffers); buffers = u.buffers }
            | false ↦ record { answer = refusal 24; six = not_given; buffers = left_by20 m r }
          ])
          (elim t [ true ↦ Six (six_volumes (positions_from ps) M.triangles) | false ↦ Refused 24 ])
      go true = alike (m, refl, ap given (six_written (positions_from ps) M.triangles s.triangles r.triangles all))
      go false = alike (refl, refl)

  -- the reader, by the tests of 23 and 25
  abbrev reads : Given (List ℕ) → Bool → Bool → Melted
  reads ps a b = elim a [ true ↦ elim b [ true ↦ melted ps M | false ↦ Refused 25 ] | false ↦ Refused 23 ]

  ends_tested : (ps ns : Given (List ℕ)) → Ends (after ps ns r u) (reads ps (field_fits s.vertices ps) (note_fits ns))
  unfolding then_tested
  ends_tested ps ns = go (field_fits s.vertices ps) (note_fits ns)
    where
      tested : Bool → UnpackResult
      tested a = elim a [ true ↦ u | false ↦ refusing 23 (left_by20 m r) ]

      noted : Bool → Bool → UnpackResult
      noted a b = then_tested 25 (λ x. b) r (tested a) (model_in (tested a).answer)

      go : (a b : Bool) → Ends (measured ps r (noted a b) (model_in (noted a b).answer)) (reads ps a b)
      go true true = ends_24 ps
      go true false = alike (refused_alike ps r 25 (left_by20 m r))
      go false b = alike (refused_alike ps r 23 (left_by20 m r))

  ends_ended : M.stated ≡ s → (ps ns : Given (List ℕ)) (ys : List ℕ)
      → Ends (after ps ns r (unpack_ended s r M (rest_fits ys))) (melt_ended ps ns M ys)
  unfolding occurs same
  ends_ended st ps ns ys = go (rest_fits ys && as_stated M) (one_fan_each M.used M.triangles)
    where
      go : (a b : Bool)
          → Ends
          (after ps ns r
          (elim a [ true ↦ elim b [ true ↦ u | false ↦ unpack_refused 20 s r ] | false ↦ unpack_refused 19 s r ]))
          (elim a [ true ↦ reads ps (field_fits M.stated.vertices ps) (note_fits ns) | false ↦ Refused 19 ])
      go true true =
          subst (λ (c : Counts). Ends (after ps ns r u) (reads ps (field_fits c.vertices ps) (note_fits ns))) (sym st) (ends_tested ps ns)
      go true false = refused_alone ps ns r 20 (unpack_refused 20 s r).buffers _ refl
      go false b = refused_both ps ns r 19 (unpack_refused 19 s r).buffers

-- ---- the run: 15 to 17, 19

-- a run from the counts s that is not stopped
abbrev Completes : Counts → Ran → Type 0
Completes s (stopped k) = Unit {0}
Completes s (completed m xs) = (m.stated ≡ s) × (length m.triangles ≡ s.triangles)

completes : (s : Counts) (ops : List ℕ) (R : Ran) → run_of s ops ≡ R → Completes s R
completes s ops (stopped k) e = tt
completes s ops (completed m xs) e =
    let h = held_of (suc (length (bits_of_bytes ops))) (empty s) (bits_of_bytes ops) m xs e in
    let c = works_stated h.works in
    let t = and_left (eqb (length m.triangles) m.stated.triangles) (eqb (length m.loops) 0) h.whole in
    (c, eqb-true (length m.triangles) m.stated.triangles t ∙ ap (λ (x : Counts). x.triangles) c)

ends_run : (s : Counts) (r : Buffers) (ps ns : Given (List ℕ)) (R F : Ran) → Completes s R → (R ≡ stopped 18) ⊎ (R ≡ F)
    → Ends (after ps ns r (unpack_run s r R)) (melt_run ps ns F)
unfolding unpack_run melt_run occurs same
ends_run s r ps ns R F c (inl e) =
    subst (λ (x : Ran). Ends (after ps ns r (unpack_run s r x)) (melt_run ps ns F)) (sym e)
    (refused_alone ps ns r 18 (unpack_refused 18 s r).buffers _ refl)
ends_run s r ps ns R F c (inr e) = subst (λ (x : Ran). Ends (after ps ns r (unpack_run s r R)) (melt_run ps ns x)) e (go R c)
  where
    go : (x : Ran) → Completes s x → Ends (after ps ns r (unpack_run s r x)) (melt_run ps ns x)
    go (stopped k) c = refused_both ps ns r k (unpack_refused k s r).buffers
    go (completed m ys) c = ends_ended r s m c.1 c.0 ps ns ys

later_24 : (ps : Given (List ℕ)) (m : Machine) → RefusesBy is_later (melted ps m)
unfolding occurs same
later_24 not_given m = refl
later_24 (given ps) m = go (eqb m.rims 0)
  where
    go : (t : Bool) → RefusesBy is_later (elim t [ true ↦ Six (six_volumes (positions_from ps) m.triangles) | false ↦ Refused 24 ])
    go true = tt
    go false = refl

later_run : (ps ns : Given (List ℕ)) (F : Ran) → StopsWith (λ k. is_later k ≡ true) F → RefusesBy is_later (melt_run ps ns F)
unfolding melt_run occurs same
later_run ps ns (stopped k) h = h
later_run ps ns (completed m ys) h = go (rest_fits ys && as_stated m) (field_fits m.stated.vertices ps) (note_fits ns)
  where
    go : (a b c : Bool)
        → RefusesBy is_later
        (elim a [
          | true ↦ elim b [ true ↦ elim c [ true ↦ melted ps m | false ↦ Refused 25 ] | false ↦ Refused 23 ]
          | false ↦ Refused 19
        ])
    go true true true = later_24 ps m
    go true true false = refl
    go true false c = refl
    go false b c = refl

-- ---- any bytes: 12, 13, 26

-- by whether the stated peaks fit
pub data Stands (w : VolumeResult) (x : Melted) : Bool → Type 0 where
  fitting : Ends w x → RefusesBy is_other x → Stands w x true
  too_high : x ≡ Refused 26 → Late w → Stands w x false

other_later : (x : Melted) → RefusesBy is_later x → RefusesBy is_other x
other_later (Six z) h = tt
other_later (Refused k) h = and_left (is_other k) (ltb 13 k) h

stands_fields : (ps ns : Given (List ℕ)) (r : Buffers) (f : Fields)
    → Stands (after ps ns r (unpack_fields r f)) (melt_fields ps ns f) (peaks_fit_in f)
unfolding unpack_fields melt_fields occurs same
stands_fields ps ns r no_pack = fitting (refused_both ps ns r 12 r) refl
stands_fields ps ns r (fields s ops) = go (in_range s) (long_enough (lengths r) s) (peaks_fit s)
  where
    x : Melted
    x = melt_run ps ns (run_freely_of s ops)

    entered : Bool → UnpackResult
    entered b = elim b [ true ↦ unpack_run s r (run_of s ops) | false ↦ turned_down 14 r ]

    runs : RunsAlike (λ k. is_later k ≡ true) (run_of s ops) (run_freely_of s ops)
    runs = runs_freely (λ k. is_later k ≡ true) refl refl refl (suc (length (bits_of_bytes ops))) (empty s) (bits_of_bytes ops)

    later : RefusesBy is_later x
    later = later_run ps ns (run_freely_of s ops) runs.stops

    ends : (b : Bool) → Ends (after ps ns r (entered b)) x
    ends true = ends_run s r ps ns (run_of s ops) (run_freely_of s ops) (completes s ops (run_of s ops) refl) runs.same
    ends false = refused_alone ps ns r 14 r x refl

    go : (a b c : Bool)
        → Stands (after ps ns r (elim a [ true ↦ entered b | false ↦ turned_down 13 r ]))
        (elim a [ true ↦ elim c [ true ↦ x | false ↦ Refused 26 ] | false ↦ Refused 13 ]) (elim a [ true ↦ c | false ↦ true ])
    go true b true = fitting (ends b) (other_later x later)
    go true b false = too_high refl (late_ends (after ps ns r (entered b)) x (ends b) later)
    go false b c = fitting (refused_both ps ns r 13 r) refl

stands_parts : (ns : Given (List ℕ)) (r : Buffers) (p : Parts)
    → (let u = unpack_parts r p in
    let w = then_tested 25 (λ m. note_fits ns) r u (model_in u.answer) in
    Stands (measured (positions_in p) r w (model_in w.answer)) (melt_parts ns p) (peaks_fit_of p))
unfolding unpack_parts melt_parts then_tested measured occurs same
stands_parts ns r no_parts = fitting (alike (refl, refl)) refl
stands_parts ns r (parts two ps) = stands_fields ps ns r (fields_of two)

pub stands : (bytes : List ℕ) (r : Buffers) → Stands (volume bytes r) (melt bytes) (stated_peaks_fit bytes)
stands bytes r = stands_parts (take_note bytes).note r (parts_of (take_note bytes).before)
