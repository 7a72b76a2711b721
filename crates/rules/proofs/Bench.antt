-- Models on the bench (a section of the rules): M1 to M10 as the rules write them, by hand, and together one theorem about `pack`
-- and the book.
-- Assumes nothing.
use Prim.Native.Nat.{ℕ, ◌-◌}
use mathlib.Core.Bool.{true, false}
use mathlib.Core.List.{List, [], ◌∷◌, ◌++◌}
use mathlib.Core.Path.{◌≡◌, refl}
use lib.ListN.{length, take, replicate}
use Rattle.rules.specs.declared.Operation.TheVariants.{New, Split, Start}
use Rattle.rules.specs.Triangle.{tri, triangles_of, corners, edges_of}
use Rattle.rules.specs.Answer.{refusal, accepted, triangle, packed}
use Rattle.rules.specs.Book.{begin, operate}
use Rattle.rules.specs.Calls.{answers}
use Rattle.rules.specs.Pack.{PackBuffers, most, pack, choose_all, index_of, new_numbers, pack_chosen, pack_checked}
use Rattle.rules.specs.Order.{order_by}
use Rattle.rules.specs.Count.{same, hit, occurs, count}
use Rattle.rules.specs.Fan.{about, leaving, entering, turn_on, turn_back, one_run, one_fan_each}
use Rattle.rules.specs.Across.{in_triangle, across}
use Rattle.rules.specs.Check.{all_below, all_distinct, none_twice, all_used, passes, check_triangles, check}
use Rattle.rules.specs.Ring.{all_open, vertex_at, last_open, last_vertex, front, onward, reached, places, loop_at, without}
use Rattle.rules.specs.Table.{allowed, in_order, at_edge, at_rest, effect}
use Rattle.rules.specs.Machine.{test, done, beginning}
use Rattle.rules.specs.Bits.{bits, value_of, bytes_within}
use Rattle.rules.specs.Code.{operation_bits, operations_bits}
use Rattle.rules.specs.Fields.{pack_bytes}
use Rattle.rules.specs.Choice.{has, drop_triangle, turn_in, turn_out, edge_in, spot_of, choose_place, limited, taking, choose_at, choose_in}
use Rattle.rules.specs.Buffer.{cleared}
use Rattle.rules.proofs.Rows.{place, counts, pack_lent, lengths, no_book}

-- buffers longer than these models need, which hold anything
abbrev pub lent : PackBuffers
lent = pack_lent (replicate 8 7) (replicate 1025 (place 3 1 2 true)) (replicate 20 5) (replicate 6 9)

-- the list is packed to these bytes; each vertex keeps its number, each triangle too; the first 1,024 place records are zero; nothing else
-- is changed
abbrev pub Packs : ℕ → List ℕ → List ℕ → Type 0
Packs v xs bytes =
    pack v xs lent
    ≡ record {
      answer = packed (length bytes);
      buffers =
          pack_lent (take v (0 ∷ 1 ∷ 2 ∷ 3 ∷ 4 ∷ 5 ∷ []) ++ replicate (8 - v) 7)
          (replicate 1024 (place 0 0 0 false) ++ (place 3 1 2 true ∷ [])) (bytes ++ replicate (20 - length bytes) 5)
          (take (length (triangles_of xs)) (0 ∷ 1 ∷ 2 ∷ 3 ∷ []) ++ replicate (6 - length (triangles_of xs)) 9);
    }

-- the list is refused, and no buffer has changed
abbrev pub Refuses : ℕ → List ℕ → ℕ → Type 0
Refuses v xs n = pack v xs lent ≡ record { answer = refusal n; buffers = lent }

-- V 3: 0 1 2: operations ED B0; the whole pack 01 00 08 00 03 00 01 00 03 00 01 02 00 02 ED B0
abbrev pub M1 : Type 0
M1 =
    Packs 3 (0 ∷ 1 ∷ 2 ∷ [])
    (0x01 ∷ 0x00 ∷ 0x08 ∷ 0x00 ∷ 0x03 ∷ 0x00 ∷ 0x01 ∷ 0x00 ∷ 0x03 ∷ 0x00 ∷ 0x01 ∷ 0x02 ∷ 0x00 ∷ 0x02 ∷ 0xed ∷ 0xb0 ∷ [])

-- V 4: 0 1 2, 1 0 3, 2 1 3, 0 2 3: E0 D0, places 4, loops 1
abbrev pub M2 : Type 0
M2 =
    Packs 4 (0 ∷ 1 ∷ 2 ∷ 1 ∷ 0 ∷ 3 ∷ 2 ∷ 1 ∷ 3 ∷ 0 ∷ 2 ∷ 3 ∷ [])
    (0x01 ∷ 0x00 ∷ 0x08 ∷ 0x00 ∷ 0x04 ∷ 0x00 ∷ 0x04 ∷ 0x00 ∷ 0x04 ∷ 0x00 ∷ 0x01 ∷ 0x02 ∷ 0x00 ∷ 0x02 ∷ 0xe0 ∷ 0xd0 ∷ [])

-- V 4: 0 1 2, 1 0 3: E1 B6 C0
abbrev pub M3 : Type 0
M3 =
    Packs 4 (0 ∷ 1 ∷ 2 ∷ 1 ∷ 0 ∷ 3 ∷ [])
    (0x01 ∷ 0x00 ∷ 0x08 ∷ 0x00 ∷ 0x04 ∷ 0x00 ∷ 0x02 ∷ 0x00 ∷ 0x04 ∷ 0x00 ∷ 0x01 ∷ 0x02 ∷ 0x00 ∷ 0x03 ∷ 0xe1 ∷ 0xb6 ∷ 0xc0 ∷ [])

-- V 3: 0 1 2, 1 0 2: F4, accepted
abbrev pub M4 : Type 0
M4 =
    Packs 3 (0 ∷ 1 ∷ 2 ∷ 1 ∷ 0 ∷ 2 ∷ [])
    (0x01 ∷ 0x00 ∷ 0x08 ∷ 0x00 ∷ 0x03 ∷ 0x00 ∷ 0x02 ∷ 0x00 ∷ 0x03 ∷ 0x00 ∷ 0x01 ∷ 0x02 ∷ 0x00 ∷ 0x01 ∷ 0xf4 ∷ [])

-- V 6: 0 1 2, 3 4 5: ED BE DB
abbrev pub M5 : Type 0
M5 =
    Packs 6 (0 ∷ 1 ∷ 2 ∷ 3 ∷ 4 ∷ 5 ∷ [])
    (0x01 ∷ 0x00 ∷ 0x08 ∷ 0x00 ∷ 0x06 ∷ 0x00 ∷ 0x02 ∷ 0x00 ∷ 0x03 ∷ 0x00 ∷ 0x01 ∷ 0x02 ∷ 0x00 ∷ 0x03 ∷ 0xed ∷ 0xbe ∷ 0xdb ∷ [])

-- V 4: 0 1 2: 6
abbrev pub M6 : Type 0
M6 = Refuses 4 (0 ∷ 1 ∷ 2 ∷ []) 6

-- V 4: 0 1 2, 0 1 3: 5
abbrev pub M7 : Type 0
M7 = Refuses 4 (0 ∷ 1 ∷ 2 ∷ 0 ∷ 1 ∷ 3 ∷ []) 5

-- V 5: 0 1 2, 0 3 4: 7
abbrev pub M8 : Type 0
M8 = Refuses 5 (0 ∷ 1 ∷ 2 ∷ 0 ∷ 3 ∷ 4 ∷ []) 7

-- empty list: 1, whatever V is
abbrev pub M9 : Type 0
M9 = (v : ℕ) → Refuses v [] 1

-- start, new, new, split 2, with ample counts: 18, the edge 0→1 is used
abbrev pub M10 : Type 0
M10 =
    answers (lengths 24576 1024) no_book
    (begin (counts 4096 8192 1024 100) ∷ operate Start ∷ operate New ∷ operate New ∷ operate (Split 2) ∷ [])
    ≡ accepted ∷ triangle (tri 0 1 2) ∷ triangle (tri 1 0 3) ∷ triangle (tri 1 3 4) ∷ refusal 18 ∷ []

-- the limits of 9 and 10, which the bench's long fan meets: at most 1,024 places and at most 100 live loops
abbrev pub Limits : Type 0
Limits = most ≡ record { places = 1024; loops = 100 }

pub bench : M1 × M2 × M3 × M4 × M5 × M6 × M7 × M8 × M9 × M10 × Limits
unfolding triangles_of corners edges_of same hit occurs count about leaving entering turn_on turn_back one_run one_fan_each in_triangle
    across
    all_below all_distinct none_twice all_used passes check_triangles check all_open vertex_at last_open last_vertex front onward reached
    places loop_at without allowed in_order at_edge at_rest effect test done beginning answers bits value_of bytes_within operation_bits
    operations_bits pack_bytes has drop_triangle turn_in turn_out edge_in spot_of choose_place limited taking choose_at choose_in cleared
    choose_all index_of new_numbers pack_chosen pack_checked order_by
bench = (refl, refl, refl, refl, refl, refl, refl, refl, (λ v. refl), refl, refl)
