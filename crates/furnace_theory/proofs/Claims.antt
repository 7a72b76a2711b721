-- What is claimed of the furnace's own reader, beside the service's volume call.
-- Assumes nothing.
use Prim.Native.Nat.{ℕ, ◌<◌}
use native.Mathlib.Omega.{arith}
use mathlib.Core.Bool.{Bool, true, false, false≢true, true≢false}
use mathlib.Core.List.{List, []}
use mathlib.Core.Path.{◌≡◌, refl, sym, ap, ◌∙◌, subst}
use lib.Dec.{eqb, ltb}
use lib.IntN.{ℤ}
use borrow.Author.Tests.{eqb-true, ltb-true, eq-eqb}
use Rattle.rules.specs.declared.Model.{Model}
use Rattle.rules.specs.Melted.{Melted}
use Rattle.rules.specs.Melted.{Six, Refused}
use Rattle.rules.specs.Count.{same, occurs}
use Rattle.rules.specs.Answer.{Answer, refusal, unpacked}
use Rattle.rules.specs.Buffer.{Buffers}
use Rattle.rules.specs.Unpack.{UnpackResult}
use Rattle.rules.specs.Later.{Given, not_given, given, parts_of}
use Rattle.rules.specs.Note.{take_note}
use Rattle.rules.specs.UnpackWhole.{model_in, left_by20}
use Rattle.rules.specs.Reading.{unpack_noted, VolumeResult, positions_in, six_of, measured, volume}
use Rattle.rules.specs.Furnace.{melt}
use Rattle.counting.proofs.Bools.{and_left, and_right}
use Rattle.volume_theory.specs.Whole.{positions_given}
use Rattle.volume_theory.proofs.Whole.{never}
use Rattle.furnace_theory.specs.Claims.{stated_peaks_fit, SameVolume, ItsVolumeIsTheServices, AcceptedPacksMelt, only_the_services}
use Rattle.furnace_theory.specs.Claims.{ItsRefusalsAreTheServices, ItsFirstRefusalsAreTheServices, Only26IsItsOwn, its_refusals}
use Rattle.furnace_theory.specs.Claims.{OneNumber, Alike, TheyAnswerAlike}
use Rattle.furnace_theory.proofs.Agree.{is_services, is_other, Ends, services, alike, RefusesBy, Stands, fitting, too_high, stands}

-- a refusal is no other refusal
same_number : (j k : ℕ) → refusal j ≡ refusal k → j ≡ k
same_number j k e = cc

ends_of : (w : VolumeResult) (x : Melted) (t : Bool) → Stands w x t → t ≡ true → Ends w x
ends_of w x t (fitting e n) h = e
ends_of w x t (too_high e l) h = absurd (false≢true h)

-- ---- volumes

pub its_volume_is_the_services : ItsVolumeIsTheServices
its_volume_is_the_services bytes r m a h =
    go (melt bytes) refl (ends_of (volume bytes r) (melt bytes) (stated_peaks_fit bytes) (stands bytes r) h)
  where
    go : (x : Melted) → melt bytes ≡ x → Ends (volume bytes r) x → SameVolume bytes r
    go x e (services k f g) = never k m (sym f ∙ a)
    go (Six z) e (alike f) = record { six = z; service = f.2; reader = e }
    go (Refused k) e (alike f) = never k m (sym f.0 ∙ a)

-- an accepted unpacking of a model with no rim is measured
measured_whole : (g : Given (List ℕ)) (zs : List ℤ) (r : Buffers) (u : UnpackResult) (m : Model) → positions_given g ≡ given zs
    → u.answer ≡ unpacked m → m.totals.rims ≡ 0 → (measured g r u (model_in u.answer)).answer ≡ unpacked m
unfolding measured
measured_whole not_given zs r u m f a z = let q : ◌≡◌ {A = ℕ} 0 1 = cc in absurd (omega arith)
measured_whole (given ps) zs r u m f a z =
    ap (λ (x : Answer). (measured (given ps) r u (model_in x)).answer) a
    ∙ ap (λ (t : Bool). (by t).answer) (eq-eqb m.totals.rims 0 z) ∙ a
  where
    by : Bool → VolumeResult
    by t = elim t [
      | true ↦ record { answer = u.answer; six = given (six_of ps m u.buffers); buffers = u.buffers }
      | false ↦ record { answer = refusal 24; six = not_given; buffers = left_by20 m r }
    ]

pub accepted_packs_melt : AcceptedPacksMelt
accepted_packs_melt bytes r m zs a g z h =
    its_volume_is_the_services bytes r m
    (measured_whole (positions_in (parts_of (take_note bytes).before)) zs r (unpack_noted bytes r) m g a z) h

-- ---- refusals

-- a refusal that the reader could give too
refuses : (w : VolumeResult) (x : Melted) (k : ℕ) → Ends w x → w.answer ≡ refusal k → (is_services k ≡ true → ⊥) → x ≡ Refused k
refuses w x k (services j f g) a h = absurd (h (subst (λ (i : ℕ). is_services i ≡ true) (same_number j k (sym f ∙ a)) g))
refuses w (Six z) k (alike f) a h = never k f.0 (sym a ∙ f.1)
refuses w (Refused j) k (alike f) a h = ap Refused (same_number j k (sym f.0 ∙ a))

-- the service's own numbers
owned : (k : ℕ) → is_services k ≡ true → (occurs k only_the_services ≡ 1) × (13 < k)
owned k h = (
  eqb-true (occurs k only_the_services) 1 (and_left (eqb (occurs k only_the_services) 1) (ltb 13 k) h),
  ltb-true 13 k (and_right (eqb (occurs k only_the_services) 1) (ltb 13 k) h),
)

not_owned : (k : ℕ) → occurs k only_the_services ≡ 0 → is_services k ≡ true → ⊥
not_owned k n h = omega (arith, n, (owned k h).0)

pub its_refusals_are_the_services : ItsRefusalsAreTheServices
its_refusals_are_the_services bytes r k a n h =
    refuses (volume bytes r) (melt bytes) k (ends_of (volume bytes r) (melt bytes) (stated_peaks_fit bytes) (stands bytes r) h) a
    (not_owned k n)

pub its_first_refusals_are_the_services : ItsFirstRefusalsAreTheServices
its_first_refusals_are_the_services bytes r k a n = go (stated_peaks_fit bytes) (stands bytes r)
  where
    go : (t : Bool) → Stands (volume bytes r) (melt bytes) t → melt bytes ≡ Refused k
    go t (fitting e o) = refuses (volume bytes r) (melt bytes) k e a (λ h. omega (arith, (owned k h).1))
    go t (too_high e l) = absurd (omega (arith, l k a))

abbrev none : Buffers
none = record { triangles = []; places = [] }

-- its other refusals
others : (x : Melted) (k : ℕ) → RefusesBy is_other x → x ≡ Refused k → is_other k ≡ true
others x k o e = subst (RefusesBy is_other) e o

pub only_26_is_its_own : Only26IsItsOwn
unfolding occurs same
only_26_is_its_own bytes = (forth (stated_peaks_fit bytes) (stands bytes none), back (stated_peaks_fit bytes) (stands bytes none))
  where
    forth : (t : Bool) → Stands (volume bytes none) (melt bytes) t → melt bytes ≡ Refused 26 → t ≡ false
    forth t (fitting f o) e = absurd (false≢true (others (melt bytes) 26 o e))
    forth t (too_high f l) e = refl

    back : (t : Bool) → Stands (volume bytes none) (melt bytes) t → t ≡ false → melt bytes ≡ Refused 26
    back t (fitting f o) e = absurd (true≢false e)
    back t (too_high f l) e = f

pub one_number : OneNumber
unfolding occurs same
one_number bytes k e = go (stated_peaks_fit bytes) (stands bytes none)
  where
    refused_same : Refused 26 ≡ Refused k → 26 ≡ k
    refused_same f = cc

    go : (t : Bool) → Stands (volume bytes none) (melt bytes) t → occurs k its_refusals ≡ 1
    go t (fitting f o) =
        eqb-true (occurs k its_refusals) 1 (and_left (eqb (occurs k its_refusals) 1) (ltb k 26) (others (melt bytes) k o e))
    go t (too_high f l) = subst (λ (i : ℕ). occurs i its_refusals ≡ 1) (refused_same (sym f ∙ e)) refl

-- ---- both ways

pub they_answer_alike : TheyAnswerAlike
they_answer_alike bytes r b n = go (stated_peaks_fit bytes) (stands bytes r)
  where
    go : (t : Bool) → Stands (volume bytes r) (melt bytes) t → Alike (volume bytes r) (melt bytes)
    go t (fitting (services k f g) o) = absurd (not_owned k (b k f) g)
    go t (fitting (alike f) o) = f
    go t (too_high e l) = absurd (n e)
