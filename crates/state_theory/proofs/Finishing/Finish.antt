-- The finish: 21, 15, 19, 20, or the four numbers. One law for each way through.
-- Assumes nothing.
use Prim.Native.Nat.{ℕ, ◌*◌, ◌≤◌}
use native.Mathlib.Omega.{arith}
use mathlib.Core.Bool.{Bool, true, false, ◌&&◌, not}
use mathlib.Core.List.{List}
use mathlib.Core.Path.{◌≡◌, refl, sym, ap, ap₂, ◌∙◌, subst}
use lib.ListN.{length}
use lib.Dec.{leb}
use borrow.Author.Tests.{not-true, not-false, leb-true}
use Rattle.rules.specs.declared.Builder.{Builder}
use Rattle.rules.specs.declared.Place.{Place}
use Rattle.rules.specs.declared.Totals.{Totals}
use Rattle.rules.specs.Finished.{Finished}
use Rattle.rules.specs.Finished as F
use Rattle.rules.specs.Limits.{max_places, in_range}
use Rattle.rules.specs.Fan.{one_fan_each}
use Rattle.rules.specs.View.{triangles_built, view}
use Rattle.rules.specs.Machine.{Machine, refused, test, complete, as_stated, totals, finishing}
use Rattle.rules.specs.Answer.{Answer, refusal, numbers}
use Rattle.rules.specs.Book.{answer_of}
use Rattle.rules.specs.Buffer.{Buffers}
use Rattle.rules.specs.Build.{viewed, finishes}
use Rattle.rules.specs.Sound.{sizes_of, sums_fit, links_fit, triangles_fit, sound}
use Rattle.cutborder.specs.declared.Front.{Front}
use Rattle.border_theory.specs.Memory.Keeps.{Keeps}
use Rattle.std.specs.Prelude.{Ok, Err}
use Rattle.rules.specs.declared.refusal.Refusal.{Refusal}
use Rattle.rules.specs.Refusal.{number_of}
use Rattle.state_theory.specs.Reading.Opens.{lent, Passes, Opened, Opens}
use Rattle.border_theory.specs.Memory.Finish.{is_complete, is_as_stated, totals_of}
use Rattle.border_theory.proofs.Memory.Finish.{complete_same, stated_same, totals_same}
use Rattle.state_theory.specs.Finishing.Core.{FinishesOn, Fits, FinishesFront}
use Rattle.counting.proofs.Bools.{and_left, and_right}
use Rattle.promises.proofs.Kept.{built_long}

-- the finish by its three tests
abbrev ended : Bool → Bool → Bool → Totals → Answer
ended true true true x = numbers x
ended true true false x = refusal 20
ended true false c x = refusal 19
ended false b c x = refusal 15

finish_ended : (M : Machine) (a b c : Bool) → complete M ≡ a → as_stated M ≡ b → one_fan_each M.used M.triangles ≡ c
    → answer_of (finishing M) ≡ ended a b c (totals M)
unfolding finishing test
finish_ended M true true true e f g = rw (finishing, test, e, f, g)
finish_ended M true true false e f g = rw (finishing, test, e, f, g)
finish_ended M true false c e f g = rw (finishing, test, e, f)
finish_ended M false b c e f g = rw (finishing, test, e)

module _ (f : Front) (xs : List ℕ) where
  fan_same : (M : Machine) (m : List ℕ) → Keeps max_places f m M → M.triangles ≡ triangles_built xs f.built
      → one_fan_each M.used M.triangles ≡ one_fan_each f.used (triangles_built xs f.built)
  fan_same M m k t = ap₂ one_fan_each k.used t

  pub front_15 : (a : Bool) → a ≡ is_complete f → not a ≡ true → FinishesFront f xs (F.Refused 15)
  front_15 a e h M m k t =
      sym (finish_ended M false (as_stated M) _ (complete_same max_places f m M k ∙ sym e ∙ not-true a h) refl refl)

  module _ (a : Bool) (e : a ≡ is_complete f) (h : not a ≡ false) where
    all : (M : Machine) (m : List ℕ) → Keeps max_places f m M → complete M ≡ true
    all M m k = complete_same max_places f m M k ∙ sym e ∙ not-false a h

    pub front_19 : (b : Bool) → b ≡ is_as_stated f → not b ≡ true → FinishesFront f xs (F.Refused 19)
    front_19 b i j M m k t =
        sym (finish_ended M true false _ (all M m k) (stated_same max_places f m M k ∙ sym i ∙ not-true b j) refl)

    module _ (b : Bool) (i : b ≡ is_as_stated f) (j : not b ≡ false) (c : Bool)
        (fans : c ≡ one_fan_each f.used (triangles_built xs f.built)) where
      stated : (M : Machine) (m : List ℕ) → Keeps max_places f m M → as_stated M ≡ true
      stated M m k = stated_same max_places f m M k ∙ sym i ∙ not-false b j

      pub front_20 : not c ≡ true → FinishesFront f xs (F.Refused 20)
      front_20 l M m k t =
          sym (finish_ended M true true false (all M m k) (stated M m k) (fan_same M m k t ∙ sym fans ∙ not-true c l))

      pub front_done : not c ≡ false → (x : Totals) → x ≡ totals_of f → FinishesFront f xs (F.Gives x)
      front_done l x q M m k t =
          ap numbers (q ∙ sym (totals_same max_places f m M k))
          ∙ sym (finish_ended M true true true (all M m k) (stated M m k) (fan_same M m k t ∙ sym fans ∙ not-false c l))

-- ---- 21

finishes_by : (b : Builder) (xs m : List ℕ) (n : ℕ) (t : Bool) → sound b (lent xs n m) ≡ t
    → finishes b (lent xs n m) ≡ elim t [ true ↦ finishing (viewed b (lent xs n m)) | false ↦ refused 21 ]
finishes_by b xs m n t e = ap (λ (u : Bool). elim u [ true ↦ finishing (viewed b (lent xs n m)) | false ↦ refused 21 ]) e

-- of a state that passes: the buffer has room for T triangles, and no more are built
sound_parts : (b : Builder) (r : Buffers) → sound b r ≡ true
    → (3 * b.stated.triangles ≤ length r.triangles) × (b.built ≤ b.stated.triangles)
unfolding sound
sound_parts b r h =
    let room = leb (3 * b.stated.triangles) (length r.triangles) in
    let many = leb max_places (length {A = Place} r.places) in
    let range = in_range b.stated in
    let used = leb b.used b.stated.vertices in
    let built = leb b.built b.stated.triangles in
    let live = leb b.live b.stated.loops in
    let size = leb (sizes_of b b.live) b.stated.places in
    let loops = leb b.peaks.loops b.stated.loops in
    let places = leb b.peaks.places b.stated.places in
    let counts = range && used && built && live && size && loops && places in
    let sums = sums_fit b in
    let links = links_fit b r.places in
    let h₄ = and_left (room && many && counts && sums && links) (triangles_fit b r.triangles) h in
    let h₃ = and_left (room && many && counts && sums) links h₄ in
    let h₂ = and_left (room && many && counts) sums h₃ in
    let c₆ = and_left (range && used && built && live && size && loops) places (and_right (room && many) counts h₂) in
    let c₅ = and_left (range && used && built && live && size) loops c₆ in
    let c₄ = and_left (range && used && built && live) size c₅ in (
      leb-true (3 * b.stated.triangles) (length r.triangles) (and_left room many (and_left (room && many) counts h₂)),
      leb-true b.built b.stated.triangles (and_right (range && used) built (and_left (range && used && built) live c₄)),
    )

module _ (b : Builder) (xs m : List ℕ) (n : ℕ) (o : Opened) (m' : List ℕ) (opens : Opens b xs n m o m') where
  pub failed_on : (e : Refusal) → o ≡ Err e → FinishesOn b xs m n (F.Refused (number_of e)) m'
  failed_on e q =
      let p = subst (λ (x : Opened). Opens b xs n m x m') q opens in
      subst (λ (z : Refusal). FinishesOn b xs m n (F.Refused (number_of z)) m') (sym p.0)
      (record { answer = ap answer_of (sym (finishes_by b xs m n false p.1.0)); same = p.1.1 })

  passed : (f : Front) → o ≡ Ok f → Passes b xs n m f m'
  passed f e = subst (λ (q : Opened). Opens b xs n m q m') e opens

  -- what the tests say of the triangles
  built_same : (f : Front) → Passes b xs n m f m' → f.built ≡ b.built
  unfolding view
  built_same f p = sym p.keeps.triangles ∙ built_long xs b.built

  pub passed_fits : (f : Front) → o ≡ Ok f → Fits f xs
  passed_fits f e =
      let p = passed f e in
      let s = sound_parts b (lent xs n m) p.passes in
      record { most = p.ready.built; long = omega (arith, built_same f p, s.0, s.1) }

  pub passed_on : (f : Front) → o ≡ Ok f → (r : Finished) → FinishesFront f xs r → FinishesOn b xs m n r m'
  unfolding view
  passed_on f e r h =
      let p = passed f e in
      record {
        answer =
            h (viewed b (lent xs n m)) m' p.keeps (ap (triangles_built xs) (sym (built_same f p)))
            ∙ ap answer_of (sym (finishes_by b xs m n true p.passes));
        same = p.same;
      }
