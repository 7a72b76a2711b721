-- Numbers and operations at a bit position: laws over plain bytes, one for each answer.
-- Assumes nothing.
use Prim.Native.Nat.{ℕ, ◌+◌, ◌*◌, ◌-◌, ◌/◌, ◌%◌, ◌^◌, ◌≤◌, ◌<◌}
use native.Mathlib.Nat.{mod-eq_of_lt, one-mul}
use native.Mathlib.Omega.{arith}
use mathlib.Core.List.{List}
use mathlib.Core.Path.{◌≡◌, refl, sym, ap, ap₂, ◌∙◌}
use lib.Dec.{eqb}
use lib.ListN.{length, take, drop, get_or, length-drop}
use lib.Pow.{pow_mono}
use lib.Seq.{drop-drop}
use mir.Syntax.{w8}
use mir.Val as Val
use Rattle.rules.specs.declared.Operation.{Operation}
use Rattle.rules.specs.declared.Operation.TheVariants.{New, Forward, Backward, Border, Split, Close, Union, Start}
use Rattle.rules.specs.Bits.{value_of, bits_of_bytes, number, read_number}
use Rattle.rules.specs.Code.{read, read_split, read_place, read_union, kinds, kind_in, read_indices, read_code}
use Rattle.rules.specs.Code.{read_operation}
use Rattle.rules.specs.Unpack.{rest_fits}
use Rattle.wire_theory.specs.Shape.{width_of}
use Rattle.wire_theory.proofs.Lists.{below_all, below_drop}
use Rattle.wire_theory.proofs.Numbers.{read_enough, read_short}
use Rattle.wire_theory.proofs.Bytes.{length_bits_of_bytes, bits_of_bytes_are}
use Rattle.wire_theory.proofs.Operations as Ops
use Rattle.wire_theory.proofs.Operations.{operation_read, length_read, length_operation, width_least}
use Rattle.wire_theory.proofs.Rest.{rest_part}
use Rattle.wire_theory.proofs.Window.{window_value}
use Rattle.wire.specs.Reader.{most_bytes, NumberFound, NumberEnds, OperationFound, OperationEnds}

-- ---- shifts

-- a one, shifted, is a power
shifted : (n : ℕ) → n ≤ 10 → 1 * 2 ^ n % 18446744073709551616 ≡ 2 ^ n
shifted n h =
    let p : 2 ^ n ≤ 1024 = pow_mono h in
    let e : 1 * 2 ^ n ≡ 2 ^ n = one-mul (2 ^ n) in
    mod-eq_of_lt (omega arith) ∙ e

-- ---- a number

module _ (bs : List ℕ) where
  left : (at : ℕ) → length (drop at (bits_of_bytes bs)) ≡ 8 * length bs - at
  left at = length-drop at (bits_of_bytes bs) ∙ ap (λ (k : ℕ). k - at) (length_bits_of_bytes bs)

  module _ (n at : ℕ) where
    pub number_ends : 0 < n → length bs < at / 8 + (at % 8 + n + 7) / 8 → NumberEnds n bs at
    number_ends p l s = read_short n 0 (drop at (bits_of_bytes bs)) (omega (arith, left at))

    pub number_found : (a b c : ℕ) → ((i : ℕ) → Val.Fits w8 (get_or bs i 0)) → n ≤ 10 → length bs ≤ most_bytes
        → at / 8 + (at % 8 + n + 7) / 8 ≤ length bs
        → a ≡ get_or bs (at / 8) 0 → b ≡ get_or bs (at / 8 + 1) 0 → c ≡ get_or bs (at / 8 + 2) 0
        → NumberFound n bs at ((65536 * a + 256 * b + c) / 2 ^ (24 - at % 8 - n) % (1 * 2 ^ n % 18446744073709551616)) (at + n)
    number_found a b c all s h l ea eb ec =
        let xs = drop at (bits_of_bytes bs) in
        let w : value_of 0 (take n xs)
        ≡ (65536 * get_or bs (at / 8) 0 + 256 * get_or bs (at / 8 + 1) 0 + get_or bs (at / 8 + 2) 0) / 2 ^ (24 - at % 8 - n) % 2 ^ n =
        window_value bs at n (below_all 256 bs (λ i. (all i).fits)) (omega arith) (omega arith) in
        let d : drop n xs ≡ drop (at + n) (bits_of_bytes bs) = drop-drop n at (bits_of_bytes bs) in
        record {
          reads = rw (ea, eb, ec, shifted n s) (read_enough n 0 xs (omega (arith, left at)) ∙ ap₂ number w d);
          width = refl;
          within = omega arith;
          short = h;
        }

-- ---- an operation

module _ (bs : List ℕ) (at : ℕ) where
  -- what was read says the rest
  found : (o : Operation) (next : ℕ) → length bs ≤ most_bytes → next ≤ 8 * length bs
      → read_operation (drop at (bits_of_bytes bs)) ≡ read o (drop next (bits_of_bytes bs)) → OperationFound bs at o next
  found o next s l e =
      let xs = drop at (bits_of_bytes bs) in
      let ys = drop next (bits_of_bytes bs) in
      let r : Ops.OperationRead o xs ys = operation_read o xs ys (below_drop 2 at (bits_of_bytes bs) (bits_of_bytes_are bs)) e in
      let w : next ≡ at + width_of o = omega (arith, left bs at, left bs next, length_read o xs ys r, width_least o) in
      record {
        reads = e;
        fits = r.fits;
        width = w;
        ahead = omega (arith, width_least o);
        within = l;
        short = s;
      }

  pub ends_code : NumberEnds 3 bs at → OperationEnds bs at
  unfolding read_operation
  ends_code h s = ap read_code (h s)

  module _ (c next : ℕ) (n : NumberFound 3 bs at c next) (k : Operation) (is : k ≡ kind_in c kinds) where
    by_kind : (o : Operation) → k ≡ o → read_operation (drop at (bits_of_bytes bs)) ≡ read_indices o (drop next (bits_of_bytes bs))
    unfolding read_operation
    by_kind o e = ap read_code n.reads ∙ ap (λ (i : Operation). read_indices i (drop next (bits_of_bytes bs))) (sym is ∙ e)

    pub ends_split : (x : ℕ) → k ≡ Split x → NumberEnds 10 bs next → OperationEnds bs at
    ends_split x e h s = by_kind (Split x) e ∙ ap read_split (h s)

    pub found_split : (x i after : ℕ) → k ≡ Split x → NumberFound 10 bs next i after → OperationFound bs at (Split i) after
    found_split x i after e m = found (Split i) after n.short m.within (by_kind (Split x) e ∙ ap read_split m.reads)

    pub ends_loop : (x y : ℕ) → k ≡ Union x y → NumberEnds 7 bs next → OperationEnds bs at
    ends_loop x y e h s = by_kind (Union x y) e ∙ ap read_union (h s)

    module _ (x y p after : ℕ) (e : k ≡ Union x y) (m : NumberFound 7 bs next p after) where
      by_loop : read_operation (drop at (bits_of_bytes bs)) ≡ read_place p (read_number 10 0 (drop after (bits_of_bytes bs)))
      by_loop = by_kind (Union x y) e ∙ ap read_union m.reads

      pub ends_place : NumberEnds 10 bs after → OperationEnds bs at
      ends_place h s = by_loop ∙ ap (read_place p) (h s)

      pub found_union : (j last : ℕ) → NumberFound 10 bs after j last → OperationFound bs at (Union p j) last
      found_union j last o = found (Union p j) last n.short o.within (by_loop ∙ ap (read_place p) o.reads)

    plain : (o : Operation) (ys : List ℕ) → ((x : ℕ) → o ≡ Split x → ⊥) → ((x y : ℕ) → o ≡ Union x y → ⊥) → read_indices o ys ≡ read o ys
    plain New ys h i = refl
    plain Forward ys h i = refl
    plain Backward ys h i = refl
    plain Border ys h i = refl
    plain (Split x) ys h i = absurd (h x refl)
    plain Close ys h i = refl
    plain (Union x y) ys h i = absurd (i x y refl)
    plain Start ys h i = refl

    pub found_plain : ((x : ℕ) → k ≡ Split x → ⊥) → ((x y : ℕ) → k ≡ Union x y → ⊥) → OperationFound bs at k next
    found_plain h i = found k next n.short n.within (by_kind k refl ∙ plain k (drop next (bits_of_bytes bs)) h i)

-- ---- what is left

pub rest_read : (bs : List ℕ) (at b : ℕ) → b ≡ get_or bs (at / 8) 0 → at / 8 < length bs → length bs ≤ at / 8 + 1 → (at % 8 ≡ 0 → ⊥)
    → eqb (b % (1 * 2 ^ (8 - at % 8) % 18446744073709551616)) 0 ≡ rest_fits (drop at (bits_of_bytes bs))
rest_read bs at b e h l p =
    ap₂ (λ (x y : ℕ). eqb (x % y) 0) e (shifted (8 - at % 8) (omega arith)) ∙ rest_part bs at (omega arith) (omega arith)
