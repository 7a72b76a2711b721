-- Of the place list that a packing is lent only its length counts, and whether that is enough.
-- Assumes nothing.
use Prim.Native.Nat.{ℕ}
use mathlib.Core.Bool.{Bool, true, false, ◌&&◌, false≢true}
use mathlib.Core.List.{List}
use mathlib.Core.Path.{◌≡◌, refl, sym, ap}
use lib.ListN.{length, replicate}
use lib.Dec.{leb}
use Rattle.rules.specs.declared.Triangle.{Triangle}
use Rattle.rules.specs.declared.Place.{Place}
use Rattle.rules.specs.Checked.{Checked}
use Rattle.rules.specs.Checked.{Accepted, Refused}
use Rattle.rules.specs.Limits.{max_places}
use Rattle.rules.specs.Triangle.{triangles_of}
use Rattle.rules.specs.Check.{check}
use Rattle.rules.specs.Buffer.{free_place}
use Rattle.rules.specs.Pack.{Chosen, stopped, chosen, most, chosen_for, order_for, PackBuffers, PackResult, turned_down, pack_refused}
use Rattle.rules.specs.Pack.{PackContents}
use Rattle.rules.specs.Pack.{pack_done, pack_stored, contents_of, pack_chosen, pack_long_enough, order_long_enough, pack_checked, pack}
use Rattle.border_theory.proofs.Records.Reading.{counted, counted_enough}
use Rattle.pack_theory.specs.Packing.Lent.{pack_on}

abbrev pub lent_to : List ℕ → List Place → List ℕ → List ℕ → PackBuffers
lent_to ns ps bs os = record { numbering = ns; places = ps; pack = bs; order = os }

-- 1 to 7, as the check tells, 8 and 22; then p
abbrev pub tested : ℕ → List Triangle → PackBuffers → Checked → PackResult → PackResult
tested v ts r (Refused n) p = turned_down n r
tested v ts r Accepted p =
    elim (pack_long_enough v r) [
      | true ↦ elim (order_long_enough ts r) [ true ↦ p | false ↦ turned_down 22 r ]
      | false ↦ turned_down 8 r
    ]

-- what the run of the triangles ts comes to
abbrev pub ran_in : ℕ → List Triangle → PackBuffers → PackResult
ran_in v ts r = pack_chosen v ts r (order_for most ts) (chosen_for most ts)

pub pack_tested : (v : ℕ) (xs : List ℕ) (r : PackBuffers)
    → pack v xs r ≡ tested v (triangles_of xs) r (check v xs) (ran_in v (triangles_of xs) r)
unfolding pack_checked
pack_tested v xs r = go (check v xs)
  where
    go : (c : Checked) → pack_checked most v (triangles_of xs) r c ≡ tested v (triangles_of xs) r c (ran_in v (triangles_of xs) r)
    go (Refused n) = refl
    go Accepted = refl

-- whether a list gets past 1 to 8 and 22
abbrev pub is_past : Checked → ℕ → List Triangle → PackBuffers → Bool
is_past (Refused j) v ts r = false
is_past Accepted v ts r = pack_long_enough v r && order_long_enough ts r

-- two results that agree but for the place list
pub record Alike (a b : PackResult) : Type 0 where
  pub answer : a.answer ≡ b.answer
  pub numbering : a.buffers.numbering ≡ b.buffers.numbering
  pub bytes : a.buffers.pack ≡ b.buffers.pack
  pub order : a.buffers.order ≡ b.buffers.order

module _ (v : ℕ) (ts : List Triangle) (ns bs os : List ℕ) (ps qs : List Place) where
  pub alike_down : (k : ℕ) → Alike (turned_down k (lent_to ns ps bs os)) (turned_down k (lent_to ns qs bs os))
  alike_down k = record { answer = refl; numbering = refl; bytes = refl; order = refl }

  pub alike_refused : (k : ℕ) → Alike (pack_refused k v ts (lent_to ns ps bs os)) (pack_refused k v ts (lent_to ns qs bs os))
  alike_refused k = record { answer = refl; numbering = refl; bytes = refl; order = refl }

  pub alike_stored : (w : PackContents) → Alike (pack_stored v ts w (lent_to ns ps bs os)) (pack_stored v ts w (lent_to ns qs bs os))
  alike_stored w = go (leb (length w.pack) (length bs))
    where
      go : (b : Bool)
          → Alike (elim b [ true ↦ pack_done w (lent_to ns ps bs os) | false ↦ pack_refused 11 v ts (lent_to ns ps bs os) ])
          (elim b [ true ↦ pack_done w (lent_to ns qs bs os) | false ↦ pack_refused 11 v ts (lent_to ns qs bs os) ])
      go true = record { answer = refl; numbering = refl; bytes = refl; order = refl }
      go false = alike_refused 11

  alike_chosen : (ks : List ℕ) (c : Chosen)
      → Alike (pack_chosen v ts (lent_to ns ps bs os) ks c) (pack_chosen v ts (lent_to ns qs bs os) ks c)
  unfolding pack_chosen
  alike_chosen ks (stopped n) = alike_refused n
  alike_chosen ks (chosen cs s) = alike_stored (contents_of v ts ks cs s)

  -- the tests go alike
  pub alike_tested : leb max_places (length ps) ≡ leb max_places (length qs) → (c : Checked) (x y : PackResult) → Alike x y
      → Alike (tested v ts (lent_to ns ps bs os) c x) (tested v ts (lent_to ns qs bs os) c y)
  alike_tested e (Refused n) x y h = alike_down n
  alike_tested e Accepted x y h =
      go (pack_long_enough v (lent_to ns ps bs os)) (pack_long_enough v (lent_to ns qs bs os)) (leb (length ts) (length os))
      (ap (λ (b : Bool). leb v (length ns) && b) e)
    where
      go : (a b c : Bool) → a ≡ b
          → Alike
          (elim a [
            | true ↦ elim c [ true ↦ x | false ↦ turned_down 22 (lent_to ns ps bs os) ]
            | false ↦ turned_down 8 (lent_to ns ps bs os)
          ])
          (elim b [
            | true ↦ elim c [ true ↦ y | false ↦ turned_down 22 (lent_to ns qs bs os) ]
            | false ↦ turned_down 8 (lent_to ns qs bs os)
          ])
      go true true true e = h
      go true true false e = alike_down 22
      go false false c e = alike_down 8
      go true false c e = absurd (false≢true (sym e))
      go false true c e = absurd (false≢true e)

-- any list goes as so many records as are read of it
pub lend_pack : (v : ℕ) (xs ns bs os : List ℕ) (ps : List Place)
    → Alike (pack v xs (lent_to ns ps bs os)) (pack_on v xs (counted ps) ns bs os)
lend_pack v xs ns bs os ps =
    let ts = triangles_of xs in
    let us = replicate (counted ps) free_place in
    rw (pack_tested v xs (lent_to ns ps bs os), pack_tested v xs (lent_to ns us bs os))
    (alike_tested v ts ns bs os ps us (counted_enough ps) (check v xs) _ _
    (alike_chosen v ts ns bs os ps us (order_for most ts) (chosen_for most ts)))
