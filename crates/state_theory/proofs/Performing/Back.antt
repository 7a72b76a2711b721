-- What the lent list holds after the records that are noted are written back.
-- Assumes nothing.
use Prim.Native.Nat.{ℕ, zero, suc, ◌+◌, ◌-◌, ◌≤◌, ◌<◌}
use native.Mathlib.Omega.{arith}
use mathlib.Core.Bool.{Bool, true, false}
use mathlib.Core.List.{List, [], ◌∷◌}
use mathlib.Core.Path.{◌≡◌, refl, sym, ap, ap₂, ◌∙◌, subst}
use lib.Dec.{eqb}
use lib.ListN.{length, get_or, set, length-set}
use lib.Seq.{get_or-set_same, get_or-set_other}
use borrow.Author.Tests.{eqb-true, eqb-false}
use Rattle.rules.specs.declared.Place.{Place}
use Rattle.rules.specs.Count.{same, occurs}
use Rattle.rules.specs.Buffer.{free_place}
use Rattle.rules.specs.View.{place_at}
use Rattle.border_theory.specs.Records.Plain.{record_at}
use Rattle.border_theory.specs.Records.Notes.{linked_to, freed_to, linked_all, freed_all}
use Rattle.state_theory.specs.Performing.Noted.{linked_part, freed_part, to_link, to_free}
use Rattle.counting.proofs.Counts.{same_yes, same_is}

-- the list after the records that are noted are written back
abbrev pub written_back : List ℕ → List Place → List Place
written_back m ps = freed_all m (linked_all m ps)

-- the list with these records as the memory has them; and with these records free
unfoldable pub linked_list : List ℕ → List ℕ → List Place → List Place
linked_list m [] ps = ps
linked_list m (i ∷ is) ps = set (linked_list m is ps) i (record_at m i)

unfoldable pub freed_list : List ℕ → List Place → List Place
freed_list [] ps = ps
freed_list (i ∷ is) ps = set (freed_list is ps) i free_place

linked_is : (m : List ℕ) (ps : List Place) (k : ℕ) → linked_to k m ps ≡ linked_list m (linked_part m k) ps
unfolding linked_to linked_list linked_part
linked_is m ps zero = refl
linked_is m ps (suc k) = ap (λ (qs : List Place). set qs (get_or m (5321 + k) 0) (record_at m (get_or m (5321 + k) 0))) (linked_is m ps k)

freed_is : (m : List ℕ) (ps : List Place) (a j : ℕ) → freed_to j a m ps ≡ freed_list (freed_part m a j) ps
unfolding freed_to freed_list freed_part
freed_is m ps a zero = refl
freed_is m ps a (suc j) =
    let e : 4096 + a + j ≡ 4096 + (a + j) = omega arith in
    ap₂ (λ (qs : List Place) (i : ℕ). set qs (get_or m i 0) free_place) (freed_is m ps a j) e

-- what is written back, by the lists of what is noted
pub back_is : (m : List ℕ) (ps : List Place) → written_back m ps ≡ freed_list (to_free m) (linked_list m (to_link m) ps)
back_is m ps =
    ap (freed_all m) (linked_is m ps (get_or m 5320 0))
    ∙ freed_is m (linked_list m (to_link m) ps) (get_or m 5326 0) (get_or m 5327 0 - get_or m 5326 0)

pub length_linked : (m is : List ℕ) (ps : List Place) → length (linked_list m is ps) ≡ length ps
unfolding linked_list
length_linked m [] ps = refl
length_linked m (i ∷ is) ps = length-set (linked_list m is ps) i (record_at m i) ∙ length_linked m is ps

pub length_freed : (is : List ℕ) (ps : List Place) → length (freed_list is ps) ≡ length ps
unfolding freed_list
length_freed [] ps = refl
length_freed (i ∷ is) ps = length-set (freed_list is ps) i free_place ∙ length_freed is ps

-- one more number of a list: it is this one, or it is in the rest
in_first : (i x : ℕ) (is : List ℕ) → i ≡ x → 1 ≤ occurs i (x ∷ is)
unfolding occurs
in_first i x is e = omega (arith, ap (same i) (sym e), same_yes i)

in_rest : (i x : ℕ) (is : List ℕ) → (i ≡ x → ⊥) → occurs i (x ∷ is) ≡ occurs i is
unfolding occurs
in_rest i x is d = go (same i x) refl
  where
    go : (s : ℕ) → same i x ≡ s → same i x + occurs i is ≡ occurs i is
    go zero e = omega (arith, e)
    go (suc s) e = absurd (d (same_is i x (omega (arith, e))))

-- a record that is set, or not
module _ (f : ℕ → Place) (all : List ℕ → List Place → List Place) (none : (ps : List Place) → all [] ps ≡ ps)
    (more : (x : ℕ) (is : List ℕ) (ps : List Place) → all (x ∷ is) ps ≡ set (all is ps) x (f x))
    (long : (is : List ℕ) (ps : List Place) → length (all is ps) ≡ length ps) where
  out_of : (is : List ℕ) (ps : List Place) (i : ℕ) → occurs i is ≡ 0 → place_at (all is ps) i ≡ place_at ps i
  out_of [] ps i h = ap (λ (qs : List Place). place_at qs i) (none ps)
  out_of (x ∷ is) ps i h = go (eqb i x) refl (λ e. out_of is ps i e)
    where
      go : (t : Bool) → eqb i x ≡ t → (occurs i is ≡ 0 → place_at (all is ps) i ≡ place_at ps i)
          → place_at (all (x ∷ is) ps) i ≡ place_at ps i
      go true e r = absurd (omega (arith, h, in_first i x is (eqb-true i x e)))
      go false e r =
          let d : i ≡ x → ⊥ = eqb-false i x e in
          ap (λ (qs : List Place). place_at qs i) (more x is ps) ∙ get_or-set_other (all is ps) x i (f x) free_place d
          ∙ r (sym (in_rest i x is d) ∙ h)

  in_them : (is : List ℕ) (ps : List Place) (i : ℕ) → 1 ≤ occurs i is → i < length ps → place_at (all is ps) i ≡ f i
  unfolding occurs
  in_them [] ps i h l = absurd (omega (arith, h))
  in_them (x ∷ is) ps i h l = go (eqb i x) refl (λ e. in_them is ps i e l)
    where
      go : (t : Bool) → eqb i x ≡ t → (1 ≤ occurs i is → place_at (all is ps) i ≡ f i) → place_at (all (x ∷ is) ps) i ≡ f i
      go true e r =
          let d : i ≡ x = eqb-true i x e in
          ap (λ (qs : List Place). place_at qs i) (more x is ps)
          ∙ subst (λ (j : ℕ). place_at (set (all is ps) x (f x)) j ≡ f j) (sym d)
          (get_or-set_same (all is ps) x (f x) free_place (omega (arith, l, d, long is ps)))
      go false e r =
          let d : i ≡ x → ⊥ = eqb-false i x e in
          ap (λ (qs : List Place). place_at qs i) (more x is ps) ∙ get_or-set_other (all is ps) x i (f x) free_place d
          ∙ r (omega (arith, h, in_rest i x is d))

freed_none : (ps : List Place) → freed_list [] ps ≡ ps
unfolding freed_list
freed_none ps = refl

freed_more : (x : ℕ) (is : List ℕ) (ps : List Place) → freed_list (x ∷ is) ps ≡ set (freed_list is ps) x free_place
unfolding freed_list
freed_more x is ps = refl

linked_none : (m : List ℕ) (ps : List Place) → linked_list m [] ps ≡ ps
unfolding linked_list
linked_none m ps = refl

linked_more : (m : List ℕ) (x : ℕ) (is : List ℕ) (ps : List Place) → linked_list m (x ∷ is) ps ≡ set (linked_list m is ps) x (record_at m x)
unfolding linked_list
linked_more m x is ps = refl

pub freed_out : (is : List ℕ) (ps : List Place) (i : ℕ) → occurs i is ≡ 0 → place_at (freed_list is ps) i ≡ place_at ps i
freed_out = out_of (λ x. free_place) freed_list freed_none freed_more length_freed

pub freed_in : (is : List ℕ) (ps : List Place) (i : ℕ) → 1 ≤ occurs i is → i < length ps → place_at (freed_list is ps) i ≡ free_place
freed_in = in_them (λ x. free_place) freed_list freed_none freed_more length_freed

pub linked_out : (m is : List ℕ) (ps : List Place) (i : ℕ) → occurs i is ≡ 0 → place_at (linked_list m is ps) i ≡ place_at ps i
linked_out m = out_of (record_at m) (linked_list m) (linked_none m) (linked_more m) (length_linked m)

pub linked_in : (m is : List ℕ) (ps : List Place) (i : ℕ) → 1 ≤ occurs i is → i < length ps
    → place_at (linked_list m is ps) i ≡ record_at m i
linked_in m = in_them (record_at m) (linked_list m) (linked_none m) (linked_more m) (length_linked m)
