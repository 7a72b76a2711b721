-- The volume call: what follows an accepted unpacking.
-- Assumes nothing.
use Prim.Native.Nat.{ℕ, ◌+◌, ◌*◌, ◌≤◌, ◌<◌}
use native.Mathlib.Omega.{arith}
use mathlib.Core.Bool.{Bool, true, false}
use mathlib.Core.List.{List}
use mathlib.Core.Path.{◌≡◌, refl, sym, ap, ◌∙◌, subst}
use lib.Dec.{eqb}
use lib.IntN.{ℤ}
use lib.ListN.{length, take, drop, get_or}
use lib.Seq.{get_or-take}
use borrow.Author.Tests.{eqb-true, eqb-false, eq-eqb, ne_eqb}
use Rattle.rules.specs.declared.Model.{Model}
use Rattle.rules.specs.Unpacked as U
use Rattle.rules.specs.Measured as M
use Rattle.rules.specs.Triangle.{triangles_of}
use Rattle.rules.specs.Answer.{Answer, refusal, unpacked}
use Rattle.rules.specs.Buffer.{zeroed}
use Rattle.rules.specs.Unpack.{UnpackResult, unpack}
use Rattle.rules.specs.Later.{Given, not_given, given, parts_of}
use Rattle.rules.specs.Grid.{positions_from}
use Rattle.rules.specs.Volume.{six_volumes}
use Rattle.rules.specs.UnpackWhole.{field_fits, model_in, left_by20}
use Rattle.rules.specs.Reading.{VolumeResult, positions_in, six_of, measured}
use Rattle.border_theory.specs.Records.Lent.{lent}
use Rattle.volume_theory.specs.Near.{HasPositions, Measurable}
use Rattle.volume_theory.proofs.Whole.{Accepts, accepts}
use Rattle.rules.specs.Limits.{max_triangles}
use Rattle.counting.proofs.Bools.{and_left}
use Rattle.counting.proofs.Ranges.{in_range_lem}
use Rattle.roundtrip.proofs.Results.{UnpackedBy, unpacked_by}
use Rattle.roundtrip.specs.Claims.{list_in}
use Rattle.roundtrip.proofs.Back.{triangles_are, list_is, checks}
use Rattle.mesh_theory.proofs.Fans.Checks.{check_accepted}
use Rattle.mesh_theory.proofs.Chains.Listing.{below_each}
use Rattle.mesh_theory.proofs.Chains.Prefix.{length_numbers}
use Rattle.rules.specs.Measured.{Measured}
use Rattle.positions_theory.specs.Unpacking.{UnpackedWholeOn, IsMeasured, measured_by, measured_triangles}
use Rattle.positions_theory.proofs.Unpacking.{zeroed_same, whole_long}

-- after an unpacking u into the buffer ts; g is the field of the positions, if there is one
module _ (g : Given (List ℕ)) (ts : List ℕ) (n : ℕ) (u : UnpackResult) where
  abbrev w : VolumeResult
  w = measured g (lent n ts) u (model_in u.answer)

  by_answer : (a : Answer) → a ≡ u.answer → w ≡ measured g (lent n ts) u (model_in a)
  by_answer a e = ap (λ (x : Answer). measured g (lent n ts) u (model_in x)) (sym e)

  refused_by_lem : (f : Given (List ℕ))
      → measured f (lent n ts) u not_given ≡ record { answer = u.answer; six = not_given; buffers = u.buffers }
  unfolding measured
  refused_by_lem not_given = refl
  refused_by_lem (given bs) = refl

  -- a refusal of the unpacking
  pub measured_refused : (k : ℕ) (ts' : List ℕ) → refusal k ≡ u.answer → ts' ≡ u.buffers.triangles
      → IsMeasured (measured g (lent n ts) u (model_in u.answer)) (M.Refused k) ts'
  measured_refused k ts' h l =
      let v = by_answer (refusal k) h ∙ refused_by_lem g in
      record {
        answer = h ∙ sym (ap (λ (x : VolumeResult). x.answer) v);
        six = sym (ap (λ (x : VolumeResult). x.six) v);
        triangles = l ∙ sym (ap (λ (x : VolumeResult). x.buffers.triangles) v);
      }

  -- an accepted unpacking, which left ts'
  module _ (m : Model) (ts' : List ℕ) (h : unpacked m ≡ u.answer) (l : ts' ≡ u.buffers.triangles)
      (beyond : drop (3 * m.triangles) ts' ≡ drop (3 * m.triangles) ts) where
    abbrev no_volume : VolumeResult
    no_volume = record { answer = refusal 24; six = not_given; buffers = left_by20 m (lent n ts) }

    -- 24
    none_measured : w ≡ no_volume → IsMeasured w (M.Refused 24) (zeroed (3 * m.triangles) ts')
    none_measured v = record {
      answer = sym (ap (λ (x : VolumeResult). x.answer) v);
      six = sym (ap (λ (x : VolumeResult). x.six) v);
      triangles = zeroed_same (3 * m.triangles) ts ts' beyond ∙ sym (ap (λ (x : VolumeResult). x.buffers.triangles) v);
    }

    pub no_third_measured : g ≡ not_given
        → IsMeasured (measured g (lent n ts) u (model_in u.answer)) (M.Refused 24) (zeroed (3 * m.triangles) ts')
    unfolding measured
    no_third_measured e =
        none_measured (by_answer (unpacked m) h ∙ ap (λ (y : Given (List ℕ)). measured y (lent n ts) u (given m)) e)

    module _ (bs : List ℕ) (third : g ≡ given bs) where
      by_rims : (t : Bool) → eqb m.totals.rims 0 ≡ t → w ≡ elim t [
        | true ↦ record { answer = u.answer; six = given (six_of bs m u.buffers); buffers = u.buffers }
        | false ↦ no_volume
      ]
      unfolding measured
      by_rims t e =
          by_answer (unpacked m) h ∙ ap (λ (y : Given (List ℕ)). measured y (lent n ts) u (given m)) third
          ∙ ap (λ (s : Bool). elim s as (λ _. VolumeResult) [
            | true ↦ record { answer = u.answer; six = given (six_of bs m u.buffers); buffers = u.buffers }
            | false ↦ no_volume
          ]) e

      rim_measured : (m.totals.rims ≡ 0 → ⊥) → IsMeasured w (M.Refused 24) (zeroed (3 * m.triangles) ts')
      rim_measured k = none_measured (by_rims false (ne_eqb m.totals.rims 0 k))

      volume_measured : m.totals.rims ≡ 0 → (z : ℤ)
          → z ≡ six_volumes (positions_from bs) (triangles_of (take (3 * m.triangles) ts'))
          → IsMeasured w (M.Volume m z) ts'
      volume_measured k z e =
          let v = by_rims true (eq-eqb m.totals.rims 0 k) in
          record {
            answer = h ∙ sym (ap (λ (x : VolumeResult). x.answer) v);
            six =
                ap given (e ∙ ap (λ (us : List ℕ). six_volumes (positions_from bs) (triangles_of (take (3 * m.triangles) us))) l)
                ∙ sym (ap (λ (x : VolumeResult). x.six) v);
            triangles = l ∙ sym (ap (λ (x : VolumeResult). x.buffers.triangles) v);
          }

      pub third_measured : (s : Measured) (ts'' : List ℕ) → s ≡ measured_by bs m ts' → ts'' ≡ measured_triangles m ts'
          → IsMeasured (measured g (lent n ts) u (model_in u.answer)) s ts''
      third_measured s ts'' e f = go (eqb m.totals.rims 0) refl
        where
          go : (t : Bool) → eqb m.totals.rims 0 ≡ t → IsMeasured w s ts''
          go true k =
              let z = six_volumes (positions_from bs) (triangles_of (take (3 * m.triangles) ts')) in
              let a : s ≡ M.Volume m z =
              e ∙ ap (λ (t : Bool). elim t as (λ _. Measured) [ true ↦ M.Volume m z | false ↦ M.Refused 24 ]) k in
              let b : ts'' ≡ ts' = f ∙ ap (λ (t : Bool). elim t as (λ _. List ℕ) [ true ↦ ts' | false ↦ zeroed (3 * m.triangles) ts' ]) k in
              subst (λ (x : Measured). IsMeasured w x ts'') (sym a)
              (subst (IsMeasured w (M.Volume m z)) (sym b) (volume_measured (eqb-true m.totals.rims 0 k) z refl))
          go false k =
              let z = six_volumes (positions_from bs) (triangles_of (take (3 * m.triangles) ts')) in
              let a : s ≡ M.Refused 24 =
              e ∙ ap (λ (t : Bool). elim t as (λ _. Measured) [ true ↦ M.Volume m z | false ↦ M.Refused 24 ]) k in
              let b = f ∙ ap (λ (t : Bool). elim t as (λ _. List ℕ) [ true ↦ ts' | false ↦ zeroed (3 * m.triangles) ts' ]) k in
              subst (λ (x : Measured). IsMeasured w x ts'') (sym a)
              (subst (IsMeasured w (M.Refused 24)) (sym b) (rim_measured (eqb-false m.totals.rims 0 k)))

-- the field has the positions of the triangles' corners
pub measurable : (bytes ts : List ℕ) (n : ℕ) (m : Model) (ts' : List ℕ) → UnpackedWholeOn bytes ts n (U.Gives m) ts' → (bs : List ℕ)
    → positions_in (parts_of bytes) ≡ given bs → Measurable ts' m.triangles bs
measurable bytes ts n m ts' h bs third = record { few = few; each = each }
  where
    a : Accepts bytes (lent n ts) m
    a = accepts bytes (lent n ts) m (sym h.answer)

    by : UnpackedBy a.two (lent n ts) m
    by = unpacked_by a.two (lent n ts) m a.accepted

    six : length bs ≡ 6 * m.vertices
    six =
        let f : a.field ≡ given bs = sym (ap positions_in a.found) ∙ third in
        let k = subst (λ (g : Given (List ℕ)). field_fits m.vertices g ≡ true) f a.fits in
        eqb-true (length bs) (6 * m.vertices) (and_left _ _ k)

    few : m.triangles ≤ max_triangles
    few = omega (arith, (in_range_lem by.counts by.range).triangles, ap (λ (x : Model). x.triangles) by.model)

    same : (unpack a.two (lent n ts)).buffers.triangles ≡ ts'
    same = sym (h.triangles ∙ ap (λ (x : UnpackResult). x.buffers.triangles) a.same)

    long : 3 * m.triangles ≤ length ts'
    long = whole_long bytes ts n m ts' h

    below : (c : ℕ) → c < 3 * m.triangles → get_or ts' c 0 < m.vertices
    below c l =
        let xs = list_in m (unpack a.two (lent n ts)) in
        let v = ((check_accepted m.vertices xs).0 (checks a.two (lent n ts) m by)).below in
        let k : c < length xs =
        omega (
          arith,
          ap length (list_is a.two (lent n ts) m by),
          length_numbers by.end.triangles,
          triangles_are a.two (lent n ts) m by,
        ) in
        let g : get_or xs c 0 ≡ get_or ts' c 0 =
        get_or-take (3 * m.triangles) (unpack a.two (lent n ts)).buffers.triangles c 0 l
        ∙ ap (λ (us : List ℕ). get_or us c 0) same in
        omega (arith, below_each m.vertices xs v c k, g)

    each : (t : ℕ) → t < m.triangles → HasPositions ts' t bs
    each t l = record {
      long = omega (arith, long);
      p = omega (arith, six, below (3 * t) (omega arith));
      q = omega (arith, six, below (3 * t + 1) (omega arith));
      r = omega (arith, six, below (3 * t + 2) (omega arith));
    }

-- measuring a model with a rim, and without
pub measured_rim : (bs ts : List ℕ) (m : Model) → (m.totals.rims ≡ 0 → ⊥)
    → (M.Refused 24 ≡ measured_by bs m ts) × (zeroed (3 * m.triangles) ts ≡ measured_triangles m ts)
measured_rim bs ts m k =
    let z = six_volumes (positions_from bs) (triangles_of (take (3 * m.triangles) ts)) in
    let n = ne_eqb m.totals.rims 0 k in (
      sym (ap (λ (t : Bool). elim t as (λ _. Measured) [ true ↦ M.Volume m z | false ↦ M.Refused 24 ]) n),
      sym (ap (λ (t : Bool). elim t as (λ _. List ℕ) [ true ↦ ts | false ↦ zeroed (3 * m.triangles) ts ]) n),
    )

pub measured_closed : (bs ts : List ℕ) (m : Model) → m.totals.rims ≡ 0 → (z : ℤ)
    → z ≡ six_volumes (positions_from bs) (triangles_of (take (3 * m.triangles) ts))
    → (M.Volume m z ≡ measured_by bs m ts) × (ts ≡ measured_triangles m ts)
measured_closed bs ts m k z e =
    let y = six_volumes (positions_from bs) (triangles_of (take (3 * m.triangles) ts)) in
    let n = eq-eqb m.totals.rims 0 k in (
      ap (M.Volume m) e ∙ sym (ap (λ (t : Bool). elim t as (λ _. Measured) [ true ↦ M.Volume m y | false ↦ M.Refused 24 ]) n),
      sym (ap (λ (t : Bool). elim t as (λ _. List ℕ) [ true ↦ ts | false ↦ zeroed (3 * m.triangles) ts ]) n),
    )
