-- Packing: what comes of positions or a note that do not fit.
-- Assumes nothing.
use Prim.Native.Nat.{ℕ, ◌<◌}
use native.Mathlib.Omega.{arith}
use mathlib.Core.Bool.{Bool, true, false, ◌&&◌}
use mathlib.Core.List.{List}
use mathlib.Core.Path.{◌≡◌, refl, sym, ap, ap₂, ◌∙◌, subst}
use lib.Dec.{leb}
use lib.ListN.{length, length-replicate}
use Rattle.rules.specs.Checked.{Checked}
use Rattle.rules.specs.Checked as C
use Rattle.rules.specs.Packed.{Packed}
use Rattle.rules.specs.Packed as P
use Rattle.rules.specs.Limits.{max_places}
use Rattle.rules.specs.Buffer.{free_place}
use Rattle.rules.specs.Note.{note_fits}
use Rattle.rules.specs.Pack.{PackBuffers, PackResult, turned_down, pack_long_enough, pack}
use Rattle.rules.specs.PackWhole.{Extras, given_fit, pack_whole}
use Rattle.pack_theory.specs.Packing.Lent.{lent, IsResult, ran_on}
use Rattle.pack_theory.specs.Packing.Rooms.{rooms_checked}
use Rattle.mesh_theory.proofs.Fans.Checks.{accepted_refused}
use Rattle.pack_theory.proofs.Packing.Rooms.{past, pack_by_rooms, rooms_accepted, rooms_passed}
use Rattle.volume_theory.specs.Whole.{PassesRooms}
use Rattle.volume_theory.proofs.Beside.{by_extras, run, earlier, passed}
use Rattle.positions_theory.specs.Packing.{Unfit}

-- the refusal of what is given besides
fault : (r : PackBuffers) (p : PackResult) (s t : Bool) (k : ℕ)
    → elim s [ true ↦ elim t [ true ↦ 0 | false ↦ 25 ] | false ↦ 23 ] ≡ k → 0 < k → by_extras r s t p ≡ turned_down k r
fault r p true true k e h = absurd (omega (arith, e))
fault r p true false k e h = ap (λ (i : ℕ). turned_down i r) e
fault r p false t k e h = ap (λ (i : ℕ). turned_down i r) e

-- 1 to 8 and 22 are those of the list alone, whatever is given besides; they change nothing
module _ (v : ℕ) (xs : List ℕ) (n : ℕ) (ns bs qs : List ℕ) where
  abbrev r : PackBuffers
  r = lent n ns bs qs

  long_lent : pack_long_enough v (lent n ns bs qs) ≡ leb v (length ns) && leb max_places n
  long_lent = ap (λ (i : ℕ). leb v (length ns) && leb max_places i) (length-replicate n free_place)

  pub rooms_pass : rooms_checked v xs (length ns) (length qs) n ≡ C.Accepted → PassesRooms v xs (lent n ns bs qs)
  rooms_pass h =
      let q = rooms_passed v xs (length ns) (length qs) n h in
      record { list = q.list; rooms = long_lent ∙ q.long; order = q.order }

  pub pass_rooms : PassesRooms v xs (lent n ns bs qs) → rooms_checked v xs (length ns) (length qs) n ≡ C.Accepted
  pass_rooms h =
      rooms_accepted v xs (length ns) (length qs) n
      (record { list = h.list; long = sym long_lent ∙ h.rooms; order = h.order })

  module _ (k : ℕ) (h : rooms_checked v xs (length ns) (length qs) n ≡ C.Refused k) where
    pub alone_down : pack v xs (lent n ns bs qs) ≡ turned_down k (lent n ns bs qs)
    alone_down = pack_by_rooms v xs ns bs qs n ∙ ap (λ (c : Checked). past r c (ran_on v xs n ns bs qs)) h

    pub no_pass : PassesRooms v xs (lent n ns bs qs) → ⊥
    no_pass g = accepted_refused k (sym (pass_rooms g) ∙ h)

    pub whole_down : (x : Extras) → pack_whole v xs x (lent n ns bs qs) ≡ turned_down k (lent n ns bs qs)
    whole_down x = earlier v xs r x no_pass ∙ alone_down

-- a result that is turned down
pub is_down : (r : PackBuffers) (p : PackResult) (k : ℕ) → p ≡ turned_down k r
    → IsResult p (P.Refused k) r.numbering r.pack r.order
is_down r p k e =
    subst (λ (q : PackResult). IsResult q (P.Refused k) r.numbering r.pack r.order) (sym e)
    (record { answer = refl; numbering = refl; bytes = refl; order = refl })

module _ (v : ℕ) (xs : List ℕ) (a b n : ℕ) (c : Checked) (e : c ≡ rooms_checked v xs a b n) where
  -- the same of a numbering and an order that are so long
  of_lengths : (ns qs : List ℕ) → length ns ≡ a → length qs ≡ b → rooms_checked v xs (length ns) (length qs) n ≡ c
  of_lengths ns qs la lb = ap₂ (λ (i j : ℕ). rooms_checked v xs i j n) la lb ∙ sym e

  -- 1 to 8 and 22 come before 23 and 25
  pub unfit_earlier : (j : ℕ) → c ≡ C.Refused j → (k : ℕ) → Unfit v xs a b n k (P.Refused j)
  unfit_earlier j f k x h l ns bs qs la lb =
      is_down (lent n ns bs qs) _ j (whole_down v xs n ns bs qs j (of_lengths ns qs la lb ∙ f) x)

  pub unfit_last : c ≡ C.Accepted → (k : ℕ) → Unfit v xs a b n k (P.Refused k)
  unfit_last f k x h l ns bs qs la lb =
      let w = lent n ns bs qs in
      is_down w _ k
      (passed v xs w x (rooms_pass v xs n ns bs qs (of_lengths ns qs la lb ∙ f))
      ∙ fault w (run v xs w x) (given_fit v x.positions) (note_fits x.note) k h l)
