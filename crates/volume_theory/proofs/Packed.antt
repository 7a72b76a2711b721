-- The volume of a list is that of the triangles that its pack unpacks to.
-- Assumes nothing.
use Prim.Native.Nat.{ℕ}
use mathlib.Core.List.{List, [], ◌∷◌}
use mathlib.Core.Path.{◌≡◌, refl, sym, ap, ap₂, ◌∙◌}
use lib.IntN.{ℤ, ◌+ℤ◌}
use Rattle.rules.specs.declared.Triangle.{Triangle}
use Rattle.rules.specs.Triangle.{triangles_of, at_p, at_q, at_r, In, here, there}
use Rattle.rules.specs.Pack.{most, pack}
use Rattle.rules.specs.Volume.{point_at, determinant, six_volumes}
use Rattle.choice_theory.proofs.Runs.Accepted.{accepted_packable}
use Rattle.roundtrip.specs.Run.{build_order}
use Rattle.roundtrip.specs.Claims.{renumbered, new_number}
use Rattle.roundtrip.proofs.Results.{packed_by}
use Rattle.roundtrip.proofs.Each.{each_once}
use Rattle.volume_theory.specs.Claims.{PackingKeepsTheVolume}
use Rattle.volume_theory.proofs.Volume.{same_triangles_same_volume}

-- the vertices renumbered, each with its point
pub renumbered_volume : (zs zs' : List ℤ) (f : ℕ → ℕ) (ts : List Triangle)
    → ((x y z : ℕ) → In x y z ts → point_at zs' (f x) ≡ point_at zs x) → six_volumes zs' (renumbered f ts) ≡ six_volumes zs ts
unfolding six_volumes
renumbered_volume zs zs' f [] h = refl
renumbered_volume zs zs' f (t ∷ ts) h =
    let p = h t.p t.q t.r (here (at_p refl refl refl)) in
    let q = h t.q t.r t.p (here (at_q refl refl refl)) in
    let r = h t.r t.p t.q (here (at_r refl refl refl)) in
    ap₂ ◌+ℤ◌ (λ i. determinant (p i) (q i) (r i)) (renumbered_volume zs zs' f ts (λ x y z j. h x y z (there j)))

pub packing_keeps_the_volume : PackingKeepsTheVolume
packing_keeps_the_volume v xs r n e r' long zs zs' points =
    let p = packed_by most v xs r n e in
    let k = each_once v xs r n p r' long in
    let ok = accepted_packable v xs p.accepted in
    let us = build_order (triangles_of xs) in
    ap (six_volumes zs') k.unpacked
    ∙ renumbered_volume zs zs' (new_number (pack v xs r)) us
    (λ x y z i. points x (ok.below x y z ((k.rearranged.all x y z).1 i)))
    ∙ sym (same_triangles_same_volume zs (triangles_of xs) us ok.once k.rearranged.once k.rearranged.all)
