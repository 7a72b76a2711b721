-- One law for each way to the answer of a reading whose run has ended.
-- Assumes nothing.
use Prim.Native.Nat.{ℕ, ◌*◌, ◌≤◌, ◌<◌}
use native.Mathlib.Omega.{arith}
use mathlib.Core.Bool.{Bool, true, false, ◌&&◌, false≢true}
use mathlib.Core.List.{List}
use mathlib.Core.Path.{◌≡◌, refl, sym, ap, ap₂, ◌∙◌, subst}
use lib.ListN.{length, take}
use lib.Dec.{eqb, leb}
use borrow.Author.Tests.{le-leb, lt-leb, eq-eqb, ne_eqb, eqb-true}
use Rattle.std.specs.Prelude.{Ok, Err}
use Rattle.rules.specs.declared.refusal.Refusal.{Refusal}
use Rattle.rules.specs.Refusal.{number_of}
use Rattle.rules.specs.declared.Counts.{Counts}
use Rattle.rules.specs.Melted.{Melted}
use Rattle.rules.specs.Melted as A
use Rattle.rules.specs.Grid.{positions_from, all_in_grid}
use Rattle.rules.specs.Volume.{six_volumes}
use Rattle.rules.specs.Later.{Given, not_given, given}
use Rattle.rules.specs.Note.{note_fits}
use Rattle.rules.specs.UnpackWhole.{field_fits}
use Rattle.rules.specs.Machine.{Machine}
use Rattle.rules.specs.Unpack.{rest_fits}
use Rattle.rules.specs.Fields.{fields}
use Rattle.rules.specs.Furnace.{peaks_fit, run_freely_of, melted, melt_run, melt_fields}
use Rattle.counting.proofs.Bools.{and_left}
use Rattle.cutborder.specs.declared.Front.{Front}
use Rattle.cutborder.specs.declared.Melt.{Melt}
use Rattle.border_theory.specs.Memory.Finish.{is_as_stated}
use Rattle.border_theory.proofs.Memory.Finish.{stated_same}
use Rattle.volume_theory.proofs.Fitting.{held, held_same}
use Rattle.unpack_theory.specs.Runs.{bits_from}
use Rattle.cells_theory.specs.Bytes.{numbers, Whole}
use Rattle.rules.specs.Limits.{furnace_places, furnace_loops, in_range}
use Rattle.melting_theory.specs.Runs.{Weighable, weighed_part, run_in, Done, Comes, Completes, Begins}
use Rattle.melting_theory.proofs.Stepping.{melts_ready}
use Rattle.melting_theory.proofs.Weighing.{part_weighable, part_all}

-- the four tests before 24
abbrev tested_by : Bool → Bool → Bool → Bool → Melted → Melted
tested_by a b c d z =
    elim (a && b) [
      | true ↦ elim c [ true ↦ elim d [ true ↦ z | false ↦ A.Refused 25 ] | false ↦ A.Refused 23 ]
      | false ↦ A.Refused 19
    ]

module _ (ops : List ℕ) (p : Melt) (ps ns : Given (List ℕ)) (h : Completes ops ps p) where
  abbrev M : Machine
  M = h.done.held.machine

  vertices : M.stated.vertices ≡ p.front.stated.vertices
  vertices = ap (λ (c : Counts). c.vertices) h.done.held.melts.keeps.stated

  same_six : held p.six ≡ p.six
  same_six =
      let d = h.done.held in
      let r = melts_ready M p.front h.bytes d.melts in
      held_same p.six (omega (arith, d.weighed.amount, r.built, d.melts.keeps.triangles))

  ends : (a b c d : Bool) → rest_fits (bits_from ops p.at) ≡ a → is_as_stated p.front ≡ b
      → field_fits p.front.stated.vertices ps ≡ c → note_fits ns ≡ d → melt_run ps ns (run_in ops p) ≡ tested_by a b c d (melted ps M)
  unfolding melt_run
  ends a b c d ea eb ec ed =
      let eb' = stated_same furnace_places p.front (numbers h.bytes) M h.done.held.melts.keeps ∙ eb in
      let ec' = ap (λ (v : ℕ). field_fits v ps) vertices ∙ ec in
      ap (melt_run ps ns) h.done.ran ∙ (λ i. tested_by (ea i) (eb' i) (ec' i) (ed i) (melted ps M))

  pub rest_left : (a : Bool) → a ≡ rest_fits (bits_from ops p.at) → a ≡ false → A.Refused 19 ≡ melt_run ps ns (run_in ops p)
  rest_left a e f = sym (ends false _ _ _ (sym e ∙ f) refl refl refl)

  module _ (a : Bool) (ea : a ≡ rest_fits (bits_from ops p.at)) (fa : a ≡ true) where
    pub not_stated : (b : Bool) → b ≡ is_as_stated p.front → b ≡ false → A.Refused 19 ≡ melt_run ps ns (run_in ops p)
    not_stated b e f = sym (ends true false _ _ (sym ea ∙ fa) (sym e ∙ f) refl refl)

    module _ (b : Bool) (eb : b ≡ is_as_stated p.front) (fb : b ≡ true) where
      pub not_fit : (c : Bool) → c ≡ field_fits p.front.stated.vertices ps → c ≡ false → A.Refused 23 ≡ melt_run ps ns (run_in ops p)
      not_fit c e f = sym (ends true true false _ (sym ea ∙ fa) (sym eb ∙ fb) (sym e ∙ f) refl)

      module _ (c : Bool) (ec : c ≡ field_fits p.front.stated.vertices ps) (fc : c ≡ true) where
        pub not_noted : (d : Bool) → d ≡ note_fits ns → d ≡ false → A.Refused 25 ≡ melt_run ps ns (run_in ops p)
        not_noted d e f = sym (ends true true true false (sym ea ∙ fa) (sym eb ∙ fb) (sym ec ∙ fc) (sym e ∙ f))

        module _ (d : Bool) (ed : d ≡ note_fits ns) (fd : d ≡ true) where
          last : melted ps M ≡ melt_run ps ns (run_in ops p)
          last = sym (ends true true true true (sym ea ∙ fa) (sym eb ∙ fb) (sym ec ∙ fc) (sym ed ∙ fd))

          pub not_given_24 : ps ≡ not_given → A.Refused 24 ≡ melt_run ps ns (run_in ops p)
          not_given_24 e = sym (ap (λ (q : Given (List ℕ)). melted q M) e) ∙ last

          module _ (field : List ℕ) (e : ps ≡ given field) where
            by_rims : {b : Bool} → eqb M.rims 0 ≡ b
                → melted (given field) M ≡ elim b [ true ↦ A.Six (six_volumes (positions_from field) M.triangles) | false ↦ A.Refused 24 ]
            by_rims {b} e i = elim (e i) [ true ↦ A.Six (six_volumes (positions_from field) M.triangles) | false ↦ A.Refused 24 ]

            pub rim_24 : (p.front.rims ≡ 0 → ⊥) → A.Refused 24 ≡ melt_run ps ns (run_in ops p)
            rim_24 f =
                let r : eqb M.rims 0 ≡ false = ne_eqb M.rims 0 (λ z. f (sym h.done.held.melts.keeps.rims ∙ z)) in
                sym (ap (λ (q : Given (List ℕ)). melted q M) e ∙ by_rims r) ∙ last

            pub weighed_six : p.front.rims ≡ 0 → A.Six (held p.six) ≡ melt_run ps ns (run_in ops p)
            weighed_six f =
                let r : eqb M.rims 0 ≡ true = eq-eqb M.rims 0 (h.done.held.melts.keeps.rims ∙ f) in
                let v = p.front.stated.vertices in
                let k : field_fits v (given field) ≡ true = sym (ap (field_fits v) e) ∙ sym ec ∙ fc in
                let l : length field ≡ 6 * v =
                eqb-true (length field) (6 * v) (and_left (eqb (length field) (6 * v)) (all_in_grid (positions_from field)) k) in
                let z : p.six ≡ six_volumes (positions_from field) M.triangles =
                h.done.held.weighed.sum
                ∙ ap (λ (bs : List ℕ). six_volumes (positions_from bs) M.triangles)
                (ap (λ (q : Given (List ℕ)). weighed_part q v) e ∙ part_all v field l) in
                ap A.Six (same_six ∙ z) ∙ sym (ap (λ (q : Given (List ℕ)). melted q M) e ∙ by_rims r) ∙ last

-- a run of the operations with the positions that are weighed with
pub begins_run : (c : Counts) (ops : List ℕ) (ps : Given (List ℕ)) (field bs : List ℕ) → field ≡ weighed_part ps c.vertices
    → in_range c ≡ true → (b : Bool) → b ≡ peaks_fit c → b ≡ true → length ops < 65536 → Whole bs → Begins c ops field bs
begins_run c ops ps field bs e r b eb fb l w = record {
  ranges = r;
  peaks = sym eb ∙ fb;
  short = l;
  weighable = subst (Weighable c) (sym e) (part_weighable c ps);
  whole = w;
}

-- 12, 13, 26, or the run
module _ (ps ns : Given (List ℕ)) (c : Counts) (ops : List ℕ) (ranges : in_range c ≡ true) where
  by_peaks : (b : Bool) → peaks_fit c ≡ b
      → melt_fields ps ns (fields c ops) ≡ elim b [ true ↦ melt_run ps ns (run_freely_of c ops) | false ↦ A.Refused 26 ]
  unfolding melt_fields
  by_peaks b e i = elim (ranges i) as (λ _. Melted) [
    | true ↦ elim (e i) as (λ _. Melted) [ true ↦ melt_run ps ns (run_freely_of c ops) | false ↦ A.Refused 26 ]
    | false ↦ A.Refused 13
  ]

  pub too_large : (b : Bool) → b ≡ peaks_fit c → b ≡ false → A.Refused 26 ≡ melt_fields ps ns (fields c ops)
  too_large b e f = sym (by_peaks false (sym e ∙ f))

  module _ (b : Bool) (e : b ≡ peaks_fit c) (f : b ≡ true) (field bs : List ℕ) (ef : field ≡ weighed_part ps c.vertices) where
    -- the run is refused
    pub run_refused : (k : Refusal) → Comes c ops field (Err k) bs → A.Refused (number_of k) ≡ melt_fields ps ns (fields c ops)
    unfolding melt_run
    run_refused k h = sym (by_peaks true (sym e ∙ f) ∙ ap (melt_run ps ns) h)

    -- it completes its model
    module _ (p : Melt) (h : Comes c ops field (Ok p) bs) where
      pub run_completes : Completes ops ps p
      run_completes = record {
        bytes = bs;
        done = subst (λ (us : List ℕ). Done ops us p bs) (ef ∙ ap (λ (k : Counts). weighed_part ps k.vertices) (sym h.1)) h.0;
      }

      pub run_answers : (r : Melted) → r ≡ melt_run ps ns (run_in ops p) → r ≡ melt_fields ps ns (fields c ops)
      run_answers r a =
          a ∙ ap (λ (k : Counts). melt_run ps ns (run_freely_of k ops)) h.1 ∙ sym (by_peaks true (sym e ∙ f))
