-- Two packings to the same pack, with the same numbering: their orders name the same triangles.
-- Assumes nothing.
use Prim.Native.Nat.{ℕ, ◌*◌, ◌<◌}
use native.Mathlib.Omega.{arith}
use mathlib.Core.List.{List}
use mathlib.Core.Path.{◌≡◌, sym, ap₂, subst}
use lib.ListN.{length, take, get_or, replicate, length-replicate}
use Rattle.rules.specs.declared.Triangle.{Triangle}
use Rattle.rules.specs.declared.Place.{Place}
use Rattle.rules.specs.Limits.{max_places}
use Rattle.rules.specs.Triangle.{triangles_of}
use Rattle.rules.specs.Pack.{most, PackBuffers, pack}
use Rattle.rules.specs.Buffer.{free_place, Buffers}
use Rattle.rules.specs.Unpack.{unpack}
use Rattle.choice_theory.proofs.Turning.Taking.{rot_same}
use Rattle.choice_theory.proofs.Runs.Accepted.{accepted_packable}
use Rattle.roundtrip.specs.Claims.{under, Rotated, nth, written, new_number, input_number, LongEnoughFor, EachOnce}
use Rattle.roundtrip.proofs.Renumber.{under_turned}
use Rattle.roundtrip.proofs.Rotated.{nth_below}
use Rattle.roundtrip.proofs.Results.{PackedBy}
use Rattle.roundtrip.proofs.Each.{each_once}

module _ (v : ℕ) (xs ys : List ℕ) (r : PackBuffers) (n : ℕ) (p : PackedBy most v xs r n) (q : PackedBy most v ys r n)
    (numbers : (pack v xs r).buffers.numbering ≡ (pack v ys r).buffers.numbering)
    (bytes : (pack v xs r).buffers.pack ≡ (pack v ys r).buffers.pack)
    (count : length (triangles_of xs) ≡ length (triangles_of ys)) where
  -- buffers that are long enough
  abbrev room : Buffers
  room = record { triangles = replicate (3 * length (triangles_of xs)) 0; places = replicate max_places free_place }

  long : LongEnoughFor (length (triangles_of xs)) room
  long =
      let n = 3 * length (triangles_of xs) in
      (omega (arith, length-replicate {A = ℕ} n 0), omega (arith, length-replicate {A = Place} max_places free_place))

  abbrev one : EachOnce v (triangles_of xs) (pack v xs r) (unpack (take n (pack v xs r).buffers.pack) room)
  one = each_once v xs r n p room long

  abbrev two : EachOnce v (triangles_of ys) (pack v ys r) (unpack (take n (pack v ys r).buffers.pack) room)
  two = each_once v ys r n q room (subst (λ (k : ℕ). LongEnoughFor k room) count long)

  pub orders_alike : (i : ℕ) → i < length (triangles_of xs)
      → Rotated (nth (triangles_of xs) (input_number (pack v xs r) i)) (nth (triangles_of ys) (input_number (pack v ys r) i))
  orders_alike i l =
      let ts = triangles_of xs in
      let us = triangles_of ys in
      let k : i < length us = omega (arith, count) in
      let a = input_number (pack v xs r) i in
      let b = input_number (pack v ys r) i in
      let f = new_number (pack v xs r) in
      let list : written (length us) (unpack (take n (pack v ys r).buffers.pack) room)
      ≡ written (length ts) (unpack (take n (pack v xs r).buffers.pack) room) =
      ap₂ (λ (m : ℕ) (bs : List ℕ). written m (unpack (take n bs) room)) (sym count) (sym bytes) in
      let w = nth (written (length ts) (unpack (take n (pack v xs r).buffers.pack) room)) i in
      let y : Rotated w (under f (nth us b)) =
      subst (λ (ns : List ℕ). Rotated w (under (λ x. get_or ns x 0) (nth us b))) (sym numbers)
      (subst (λ (ws : List Triangle). Rotated (nth ws i) (under (new_number (pack v ys r)) (nth us b))) list (two.names i k)) in
      under_turned v f (nth ts a) (nth us b) one.numbering
      (nth_below v ts a (one.order.below i l) (accepted_packable v xs p.accepted).below)
      (nth_below v us b (two.order.below i k) (accepted_packable v ys q.accepted).below)
      (rot_same (one.names i l) y)
