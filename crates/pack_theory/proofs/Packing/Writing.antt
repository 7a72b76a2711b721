-- Operations written one after the other, and the header at last: the pack.
-- Assumes nothing.
use Prim.Native.Nat.{ℕ, ◌+◌, ◌-◌, ◌/◌, ◌≤◌}
use native.Mathlib.Omega.{arith}
use mathlib.Core.List.{List, [], ◌∷◌, ◌++◌, append_assoc, append-nil}
use mathlib.Core.Path.{◌≡◌, refl, sym, ap, ap₂, ◌∙◌}
use lib.ListN.{length, take, drop, length-append}
use lib.Seq.{length-take-le, drop_at}
use Rattle.rules.specs.declared.Operation.{Operation}
use Rattle.rules.specs.declared.Counts.{Counts}
use Rattle.rules.specs.Bits.{bits_of_bytes, bytes_of}
use Rattle.rules.specs.Code.{operation_bits, operations_bits}
use Rattle.rules.specs.Fields.{pack_bytes}
use Rattle.rules.specs.Buffer.{over}
use Rattle.wire_theory.specs.Header.{header_of}
use Rattle.wire_theory.specs.Buffer.{written_at, bytes_for}
use Rattle.wire_theory.specs.Shape.{width_of}
use Rattle.wire_theory.proofs.Lists.{Bits, below_append, below_take}
use Rattle.wire_theory.proofs.Bytes.{length_bits_of_bytes, bits_of_bytes_are, length_bytes, bytes_append, bytes_nil}
use Rattle.wire_theory.proofs.Operations.{length_operation, operations_bits_are, operations_more}
use Rattle.wire_theory.proofs.Fields.{pack_header, length_header, length_pack}
use Rattle.wire_theory.proofs.Buffer.{written_more}
use Rattle.pack_theory.specs.Packing.Writing.{header_bits, Written, Writes}

-- nothing is written yet
pub writes_none : (buffer : List ℕ) → Writes [] buffer buffer header_bits
unfolding operations_bits
writes_none buffer = record { position = refl; lengths = refl; bytes = λ h. refl }

abbrev front : List ℕ → List ℕ
front buffer = take header_bits (bits_of_bytes buffer)

front_long : (buffer : List ℕ) → 14 ≤ length buffer → length (front buffer) ≡ header_bits
front_long buffer h = length-take-le header_bits (bits_of_bytes buffer) (omega (arith, h, length_bits_of_bytes buffer))

front_bits : (buffer : List ℕ) → Bits (front buffer)
front_bits buffer = below_take 2 header_bits (bits_of_bytes buffer) (bits_of_bytes_are buffer)

-- one operation more
written_next : (os : List Operation) (o : Operation) (buffer₀ buffer buffer' : List ℕ) → 14 ≤ length buffer₀ → Written os buffer₀ buffer
    → buffer' ≡ written_at buffer (header_bits + length (operations_bits os)) (operation_bits o) → Written (os ++ (o ∷ [])) buffer₀ buffer'
unfolding operations_bits written_at
written_next [] o buffer₀ buffer buffer' h w e =
    e ∙ ap (λ (r : List ℕ). over (bytes_of (take header_bits (bits_of_bytes r) ++ operation_bits o)) r) w
    ∙ ap (λ (bs : List ℕ). over (bytes_of (front buffer₀ ++ bs)) buffer₀) (sym (append-nil (operation_bits o)))
written_next (p ∷ os) o buffer₀ buffer buffer' h w e =
    let bs = operations_bits (p ∷ os) in
    let cs = front buffer₀ ++ bs in
    let l : length cs ≡ header_bits + length bs = length-append (front buffer₀) bs ∙ ap (λ (n : ℕ). n + length bs) (front_long buffer₀ h) in
    let b : Bits cs = below_append 2 (front buffer₀) bs (front_bits buffer₀) (operations_bits_are (p ∷ os)) in
    e ∙ ap (λ (r : List ℕ). written_at r (header_bits + length bs) (operation_bits o)) w
    ∙ ap (λ (n : ℕ). written_at (over (bytes_of cs) buffer₀) n (operation_bits o)) (sym l)
    ∙ written_more cs (operation_bits o) buffer₀ b
    ∙ ap (λ (xs : List ℕ). over (bytes_of xs) buffer₀)
    (append_assoc (front buffer₀) bs (operation_bits o) ∙ ap (λ (xs : List ℕ). front buffer₀ ++ xs) (sym (operations_more (p ∷ os) o)))

pub writes_more : (os : List Operation) (o : Operation) (buffer₀ buffer buffer' : List ℕ) (at at' : ℕ) → Writes os buffer₀ buffer at
    → at' ≡ at + width_of o → length buffer' ≡ length buffer
    → (bytes_for (at + width_of o) ≤ length buffer → buffer' ≡ written_at buffer at (operation_bits o))
    → Writes (os ++ (o ∷ [])) buffer₀ buffer' at'
writes_more os o buffer₀ buffer buffer' at at' w e l f =
    let n : length (operations_bits (os ++ (o ∷ []))) ≡ length (operations_bits os) + width_of o =
    ap length (operations_more os o) ∙ length-append (operations_bits os) (operation_bits o)
    ∙ ap (λ (k : ℕ). length (operations_bits os) + k) (length_operation o) in
    record {
      position = omega (arith, e, n, w.position);
      lengths = l ∙ w.lengths;
      bytes = λ h.
          written_next os o buffer₀ buffer buffer' (omega (arith, h, e, w.position)) (w.bytes (omega (arith, h, e)))
          (f (omega (arith, h, e, w.lengths)) ∙ ap (λ (k : ℕ). written_at buffer k (operation_bits o)) w.position);
    }

-- how many bytes the pack has
pub pack_length : (os : List Operation) (buffer₀ buffer : List ℕ) (at : ℕ) (c : Counts) → Writes os buffer₀ buffer at
    → length (pack_bytes c (bytes_of (operations_bits os))) ≡ bytes_for at
pack_length os buffer₀ buffer at c w =
    length_pack c (bytes_of (operations_bits os)) ∙ omega (arith, length_bytes (operations_bits os), w.position)

-- the header over what was written
over_header : (c : Counts) (os : List Operation) (buffer₀ buffer : List ℕ) → 14 ≤ length buffer₀ → Written os buffer₀ buffer
    → over (header_of c (length (bytes_of (operations_bits os)))) buffer ≡ over (pack_bytes c (bytes_of (operations_bits os))) buffer₀
unfolding operations_bits
over_header c [] buffer₀ buffer h w =
    ap (over (header_of c (length (bytes_of [])))) w
    ∙ ap (λ (bs : List ℕ). over bs buffer₀)
    (sym (append-nil (header_of c (length (bytes_of [])))) ∙ ap (λ (bs : List ℕ). header_of c (length (bytes_of [])) ++ bs) (sym bytes_nil)
    ∙ sym (pack_header c (bytes_of [])))
over_header c (o ∷ os) buffer₀ buffer h w =
    let ops = bytes_of (operations_bits (o ∷ os)) in
    let hs = header_of c (length ops) in
    let fs = bytes_of (front buffer₀) in
    let lf : length fs ≡ 14 = length_bytes (front buffer₀) ∙ ap (λ (n : ℕ). (n + 7) / 8) (front_long buffer₀ h) in
    let e : bytes_of (front buffer₀ ++ operations_bits (o ∷ os)) ≡ fs ++ ops =
    bytes_append 14 (front buffer₀) (operations_bits (o ∷ os)) (front_long buffer₀ h) in
    let le : length (fs ++ ops) ≡ 14 + length ops = length-append fs ops ∙ ap (λ (n : ℕ). n + length ops) lf in
    let r : buffer ≡ fs ++ (ops ++ drop (14 + length ops) buffer₀) =
    w ∙ ap (λ (bs : List ℕ). over bs buffer₀) e ∙ ap (λ (n : ℕ). (fs ++ ops) ++ drop n buffer₀) le
    ∙ append_assoc fs ops (drop (14 + length ops) buffer₀) in
    let d : drop (length hs) buffer ≡ ops ++ drop (14 + length ops) buffer₀ =
    ap₂ (λ (n : ℕ) (l : List ℕ). drop n l) (length_header c (length ops)) r ∙ drop_at fs (ops ++ drop (14 + length ops) buffer₀) 14 lf in
    ap (λ (l : List ℕ). hs ++ l) d ∙ sym (append_assoc hs ops (drop (14 + length ops) buffer₀))
    ∙ ap₂ (λ (l : List ℕ) (n : ℕ). l ++ drop n buffer₀) (sym (pack_header c ops)) (sym (length_pack c ops))

pub pack_written : (os : List Operation) (buffer₀ buffer : List ℕ) (at n : ℕ) (c : Counts) → Writes os buffer₀ buffer at
    → bytes_for at ≤ length buffer
    → n ≡ bytes_for at - 14 → over (header_of c n) buffer ≡ over (pack_bytes c (bytes_of (operations_bits os))) buffer₀
pack_written os buffer₀ buffer at n c w h e =
    let k : n ≡ length (bytes_of (operations_bits os)) = omega (arith, e, length_bytes (operations_bits os), w.position) in
    ap (λ (i : ℕ). over (header_of c i) buffer) k
    ∙ over_header c os buffer₀ buffer (omega (arith, h, w.lengths, w.position)) (w.bytes (omega (arith, h, w.lengths)))
