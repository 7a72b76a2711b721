-- The tests of a state at the end of a building: as the code makes them, and as the machine's.
-- Assumes nothing.
use Prim.Native.Nat.{ℕ}
use mathlib.Core.Bool.{Bool, true, false, ◌&&◌, false≢true}
use mathlib.Core.List.{List}
use mathlib.Core.Path.{◌≡◌, refl, sym, ap, ap₂, ◌∙◌}
use lib.ListN.{length}
use lib.Dec.{eqb}
use borrow.Author.Tests.{eqb-true, eq-eqb, ne_eqb}
use Rattle.rules.specs.declared.Counts.{Counts}
use Rattle.rules.specs.Machine.{Machine, complete, as_stated, totals}
use Rattle.cutborder.specs.declared.Front.{Front}
use Rattle.border_theory.specs.Memory.Layout.{vertices_of}
use Rattle.border_theory.specs.Memory.Stands.{rings_in}
use Rattle.border_theory.specs.Memory.Keeps.{Keeps}
use Rattle.border_theory.specs.Memory.Finish.{is_complete, is_as_stated, totals_of}
use Rattle.border_theory.proofs.Links.Named.{named_lives}
use Rattle.border_theory.proofs.Memory.Deciding.{stands_live}

pub complete_parts : (s : Front) → is_complete s ≡ true → (s.built ≡ s.stated.triangles) × (s.loops.live ≡ 0)
complete_parts s h = go (eqb s.built s.stated.triangles) refl h
  where
    go : (b : Bool) → eqb s.built s.stated.triangles ≡ b
        → ◌≡◌ {A = Bool} (elim b [ true ↦ eqb s.loops.live 0 | false ↦ false ]) true
        → (s.built ≡ s.stated.triangles) × (s.loops.live ≡ 0)
    go true e q = (eqb-true s.built s.stated.triangles e, eqb-true s.loops.live 0 q)
    go false e q = absurd (false≢true q)

module _ (s : Front) where
  abbrev tests : Bool → Bool → Bool
  tests a b = a && b && eqb s.peaks.loops s.stated.loops

  pub other_vertices : (s.used ≡ s.stated.vertices → ⊥) → false ≡ is_as_stated s
  other_vertices h = sym (ap (λ (a : Bool). tests a (eqb s.peaks.places s.stated.places))
      (ne_eqb s.used s.stated.vertices h))

  pub other_places : s.used ≡ s.stated.vertices → (s.peaks.places ≡ s.stated.places → ⊥) → false ≡ is_as_stated s
  other_places h k = sym (ap₂ tests (eq-eqb s.used s.stated.vertices h) (ne_eqb s.peaks.places s.stated.places k))

  pub other_loops : s.used ≡ s.stated.vertices → s.peaks.places ≡ s.stated.places
      → eqb s.peaks.loops s.stated.loops ≡ is_as_stated s
  other_loops h k = sym (ap₂ tests (eq-eqb s.used s.stated.vertices h) (eq-eqb s.peaks.places s.stated.places k))

-- the tests of a state are the machine's
module _ (n : ℕ) (s : Front) (m : List ℕ) (M : Machine) (k : Keeps n s m M) where
  pub live_same : length M.loops ≡ s.loops.live
  live_same =
      ap length k.loops ∙ named_lives (vertices_of n m) (rings_in n s.loops m)
      ∙ sym (stands_live n s.loops m (rings_in n s.loops m) k.stands)

  complete_by : (b : Bool) (x y : ℕ) → b && eqb x y ≡ elim b [ true ↦ eqb x y | false ↦ false ]
  complete_by true x y = refl
  complete_by false x y = refl

  pub complete_same : complete M ≡ is_complete s
  complete_same =
      ap₂ ◌&&◌ (ap₂ eqb k.triangles (ap (λ (c : Counts). c.triangles) k.stated)) (ap (λ (x : ℕ). eqb x 0) live_same)
      ∙ complete_by (eqb s.built s.stated.triangles) s.loops.live 0

  pub stated_same : as_stated M ≡ is_as_stated s
  stated_same =
      ap₂ ◌&&◌
      (ap₂ ◌&&◌ (ap₂ eqb k.used (ap (λ (c : Counts). c.vertices) k.stated))
      (ap₂ eqb k.most_places (ap (λ (c : Counts). c.places) k.stated)))
      (ap₂ eqb k.most_loops (ap (λ (c : Counts). c.loops) k.stated))

  pub totals_same : totals M ≡ totals_of s
  unfolding totals_of
  totals_same = rw (k.edges, k.rims, k.unions, k.used, k.triangles) refl
