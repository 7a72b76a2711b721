use lib.Dec.{lit<}
use Prim.Native.Nat.{◌≤◌}
use lib.IntN.{ℤ, nat_abs, ◌+ℤ◌, ◌*ℤ◌}
use Rattle.rules.specs.declared.Point.{Point}
use Rattle.volume_theory.specs.Near.{Near, largest}
use Rattle.volume_theory.proofs.Fitting.{held, Holds, small, near, answered, product_holds, sum_holds}
use Rattle.determinants.proofs.weighed.Goals as goal

one : (x a : ℤ) → nat_abs x ≤ 32768 → nat_abs a ≤ 2147483648 → Holds (held x *ℤ held a) (x *ℤ a) 70368744177664
one x a hx ha = product_holds (near x hx) (small a 2147483648 (lit< tt) ha) (lit< tt)

two : (p : Point) (a b : ℤ) → Near p → nat_abs a ≤ 2147483648 → nat_abs b ≤ 2147483648
    → Holds (held (held p.x *ℤ held a) +ℤ held (held p.y *ℤ held b)) (p.x *ℤ a +ℤ p.y *ℤ b) 140737488355328
two p a b n ha hb = sum_holds (one p.x a n.x ha) (one p.y b n.y hb) (lit< tt)

three : (p : Point) (a b c : ℤ) → Near p → nat_abs a ≤ 2147483648 → nat_abs b ≤ 2147483648 → nat_abs c ≤ 2147483648
    → Holds (held (held (held p.x *ℤ held a) +ℤ held (held p.y *ℤ held b)) +ℤ held (held p.z *ℤ held c))
    (p.x *ℤ a +ℤ p.y *ℤ b +ℤ p.z *ℤ c) largest
three p a b c n ha hb hc = sum_holds (two p a b n ha hb) (one p.z c n.z hc) (lit< tt)

pub overflow_add-result : goal.overflow_add-result
overflow_add-result c = (two c.args.p c.args.a c.args.b c.requires.0 c.requires.1 c.requires.2).fits

pub overflow_mul-result-3 : goal.overflow_mul-result-3
overflow_mul-result-3 c = (one c.args.p.z c.args.c c.requires.0.z c.requires.3).fits

pub overflow_add-result-2 : goal.overflow_add-result-2
overflow_add-result-2 c = (three c.args.p c.args.a c.args.b c.args.c c.requires.0 c.requires.1 c.requires.2 c.requires.3).fits

pub returns : goal.returns
returns c = answered (three c.args.p c.args.a c.args.b c.args.c c.requires.0 c.requires.1 c.requires.2 c.requires.3)
