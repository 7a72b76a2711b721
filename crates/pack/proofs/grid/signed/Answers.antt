-- `grid::signed` meets its contract: std's reading of 16 bits is the one of the positions.
-- Assumes nothing.
use Rattle.std.proofs.Common.{◌≡◌, ℕ, suc, ◌-◌, ◌<◌, ◌≤◌, Bool, true, false, ℤ, arith, refl, sym, ap, subst, ◌∙◌}
use Rattle.std.proofs.Math.Facts.{to_z_pos, to_z-neg, of_z-to_z}
use lib.Dec.{ltb}
use lib.IntN.{negsuc}
use borrow.Author.Tests.{ltb-true, ltb-false}
use mir.Syntax.{w16}
use mir.Val.{to_z, of_z}
use Rattle.rules.specs.Grid.{signed_of}
use Rattle.wire_theory.proofs.Positions.{signed_below, signed_from}
use Rattle.pack.proofs.grid.signed.Goals as goal

high_is : (w : ℕ) → 32768 ≤ w → w < 65536 → to_z w16 w ≡ signed_of w
high_is w h u =
    let l : 65535 - w < 32768 = omega arith in
    let e : 65536 - suc (65535 - w) ≡ w = omega arith in
    subst (λ n. to_z w16 n ≡ negsuc (65535 - w)) e (to_z-neg w16 (65535 - w) l) ∙ sym (signed_from w h)

is : (w : ℕ) → w < 65536 → (b : Bool) → ltb w 32768 ≡ b → to_z w16 w ≡ signed_of w
is w u true e = let h = ltb-true w 32768 e in to_z_pos w16 h ∙ sym (signed_below w h)
is w u false e = high_is w (ltb-false w 32768 e) u

pub returns : goal.returns
returns c =
    ap (λ (z : ℤ). to_z w16 (of_z w16 z)) c.cast_signed.ensures ∙ ap (to_z w16) (of_z-to_z c.ranges.w)
    ∙ is c.args.w c.ranges.w.fits (ltb c.args.w 32768) refl
