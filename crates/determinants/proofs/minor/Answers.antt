use lib.Dec.{lit<}
use Prim.Native.Nat.{◌≤◌}
use lib.IntN.{ℤ, nat_abs, ◌-ℤ◌, ◌*ℤ◌}
use Rattle.volume_theory.proofs.Fitting.{held, Holds, near, answered, product_holds, difference_holds}
use Rattle.determinants.proofs.minor.Goals as goal

holds : (a b c d : ℤ) → nat_abs a ≤ 32768 → nat_abs b ≤ 32768 → nat_abs c ≤ 32768 → nat_abs d ≤ 32768
    → Holds (held (held a *ℤ held d) -ℤ held (held b *ℤ held c)) (a *ℤ d -ℤ b *ℤ c) 2147483648
holds a b c d ha hb hc hd =
    difference_holds (product_holds (near a ha) (near d hd) (lit< tt)) (product_holds (near b hb) (near c hc) (lit< tt)) (lit< tt)

pub overflow_sub-result : goal.overflow_sub-result
overflow_sub-result c = (holds c.args.a c.args.b c.args.c c.args.d c.requires.0 c.requires.1 c.requires.2 c.requires.3).fits

pub returns : goal.returns
returns c = answered (holds c.args.a c.args.b c.args.c c.args.d c.requires.0 c.requires.1 c.requires.2 c.requires.3)
