-- Models, packs and lists of calls that pin the rules, with the answers of the second program: one table, by computation.
-- Written by tests/definitions, never by hand; Bench has M1 to M10 as the rules write them, States the states of 21.
-- Assumes nothing.
use mathlib.Core.Bool.{true, false, ◌&&◌}
use mathlib.Core.List.{List, [], ◌∷◌, ◌++◌}
use lib.ListN.{replicate}
use lib.Dec.{T}
use lib.IntN.{pos, negsuc}
use Rattle.rules.specs.declared.Operation.TheVariants.{New, Forward, Backward, Border, Split, Close, Union, Start}
use Rattle.rules.specs.Melted.{Six, Refused}
use Rattle.rules.specs.Triangle.{tri}
use Rattle.rules.specs.Answer.{refusal, accepted, triangle, no_triangle, numbers, packed}
use Rattle.rules.specs.Book.{begin, operate, finish}
use Rattle.rules.specs.Pack.{most}
use Rattle.rules.specs.Later.{not_given, given}
use Rattle.rules.proofs.Rows.{PackRow, UnpackRow, CallRow, FieldsRow, LookRow, WholePackRow, WholeRow, MeltRow}
use Rattle.rules.proofs.Rows.{place, pack_lent, unpack_lent, unpack_told, volume_told, lengths, counts, totals_of, model_of}
use Rattle.rules.proofs.Rows.{equal, equal_places, equal_answers, pack_right, unpack_right, whole_pack_right, whole_right, melt_right}
use Rattle.rules.proofs.Rows.{written_ring, written_rings, written_edges, calls_right, fields_right, look_right, all_right}
use Rattle.rules.specs.Triangle.{triangles_of, corners, edges_of}
use Rattle.rules.specs.Count.{same, hit, occurs, count, different, pairs}
use Rattle.rules.specs.Fan.{about, leaving, entering, turn_on, turn_back, one_run, one_fan_each}
use Rattle.rules.specs.Across.{in_triangle, across}
use Rattle.rules.specs.Check.{all_below, all_distinct, none_twice, all_used, passes, check_triangles, check}
use Rattle.rules.specs.Ring.{all_open, vertex_at, last_open, last_vertex, front, onward, reached, places, loop_at, without}
use Rattle.rules.specs.Table.{allowed, in_order, at_edge, at_rest, effect}
use Rattle.rules.specs.Places.{places_at, rings_after}
use Rattle.rules.specs.Buffer.{cleared}
use Rattle.rules.specs.Machine.{test, done, beginning, finishing}
use Rattle.rules.specs.Calls.{answers, after_all, log_all}
use Rattle.rules.specs.Bits.{bits, value_of, bits_of_bytes, bytes_within, read_number, all_zero}
use Rattle.rules.specs.Code.{operation_bits, operations_bits, kind_in, read_operation}
use Rattle.rules.specs.Fields.{pack_bytes, take_field, fields_of}
use Rattle.rules.specs.Grid.{all_in_grid, signed_of, position_bytes, positions_from}
use Rattle.rules.specs.Later.{later_part, parts_of}
use Rattle.rules.specs.Note.{take_note}
use Rattle.rules.specs.Volume.{determinant, six_volumes}
use Rattle.rules.specs.Choice.{has, drop_triangle, turn_in, turn_out, edge_in, spot_of, choose_place, limited, taking, choose_at, choose_in}
use Rattle.rules.specs.Order.{order_by}
use Rattle.rules.specs.Pack.{choose_all, index_of, new_numbers, pack_chosen, pack_checked}
use Rattle.rules.specs.Unpack.{run_all, numbers_of, unpack_run, unpack_fields}
use Rattle.rules.specs.PackWhole.{positions_of, whole_chosen, whole_checked}
use Rattle.rules.specs.UnpackWhole.{then_tested, unpack_parts}
use Rattle.rules.specs.Reading.{measured}
use Rattle.rules.specs.Furnace.{done_freely, run_freely, melt_run, melt_fields, melt_parts}
use Rattle.rules.specs.View.{follow, followed, nodes, places_of, open_among, loops_of, place_nodes, place_rings, triangles_built, view}
use Rattle.rules.specs.Sound.{sizes_of, apart, places_fit, loops_fit, links_fit, sound_else, sound}

unfoldable pub pack_rows : List PackRow
pack_rows =
    -- M1: accepted
    record {
      limits = most;
      vertices = 3;
      list = (0 ∷ 1 ∷ 2 ∷ []);
      lent = pack_lent (7 ∷ 7 ∷ 7 ∷ 7 ∷ 7 ∷ []) (replicate 1026 (place 3 1 2 true)) (replicate 60 5) (9 ∷ 9 ∷ 9 ∷ []);
      answer = packed 16;
      left = pack_lent (0 ∷ 1 ∷ 2 ∷ 7 ∷ 7 ∷ []) (replicate 1024 (place 0 0 0 false) ++ (place 3 1 2 true ∷ place 3 1 2 true ∷ []))
          ((1 ∷ 0 ∷ 8 ∷ 0 ∷ 3 ∷ 0 ∷ 1 ∷ 0 ∷ 3 ∷ 0 ∷ 1 ∷ 2 ∷ 0 ∷ 2 ∷ 237 ∷ 176 ∷ []) ++ replicate 44 5) (0 ∷ 9 ∷ 9 ∷ []);
    }
    ∷
    -- M2: accepted
    record {
      limits = most;
      vertices = 4;
      list = (0 ∷ 1 ∷ 2 ∷ 1 ∷ 0 ∷ 3 ∷ 2 ∷ 1 ∷ 3 ∷ 0 ∷ 2 ∷ 3 ∷ []);
      lent = pack_lent (7 ∷ 7 ∷ 7 ∷ 7 ∷ 7 ∷ 7 ∷ []) (replicate 1026 (place 3 1 2 true)) (replicate 60 5) (9 ∷ 9 ∷ 9 ∷ 9 ∷ 9 ∷ 9 ∷ []);
      answer = packed 16;
      left = pack_lent (0 ∷ 1 ∷ 2 ∷ 3 ∷ 7 ∷ 7 ∷ []) (replicate 1024 (place 0 0 0 false) ++ (place 3 1 2 true ∷ place 3 1 2 true ∷ []))
          ((1 ∷ 0 ∷ 8 ∷ 0 ∷ 4 ∷ 0 ∷ 4 ∷ 0 ∷ 4 ∷ 0 ∷ 1 ∷ 2 ∷ 0 ∷ 2 ∷ 224 ∷ 208 ∷ []) ++ replicate 44 5) (0 ∷ 1 ∷ 2 ∷ 3 ∷ 9 ∷ 9 ∷ []);
    }
    ∷
    -- M3: accepted
    record {
      limits = most;
      vertices = 4;
      list = (0 ∷ 1 ∷ 2 ∷ 1 ∷ 0 ∷ 3 ∷ []);
      lent = pack_lent (7 ∷ 7 ∷ 7 ∷ 7 ∷ 7 ∷ 7 ∷ []) (replicate 1026 (place 3 1 2 true)) (replicate 60 5) (9 ∷ 9 ∷ 9 ∷ 9 ∷ []);
      answer = packed 17;
      left = pack_lent (0 ∷ 1 ∷ 2 ∷ 3 ∷ 7 ∷ 7 ∷ []) (replicate 1024 (place 0 0 0 false) ++ (place 3 1 2 true ∷ place 3 1 2 true ∷ []))
          ((1 ∷ 0 ∷ 8 ∷ 0 ∷ 4 ∷ 0 ∷ 2 ∷ 0 ∷ 4 ∷ 0 ∷ 1 ∷ 2 ∷ 0 ∷ 3 ∷ 225 ∷ 182 ∷ 192 ∷ []) ++ replicate 43 5) (0 ∷ 1 ∷ 9 ∷ 9 ∷ []);
    }
    ∷
    -- M4: accepted
    record {
      limits = most;
      vertices = 3;
      list = (0 ∷ 1 ∷ 2 ∷ 1 ∷ 0 ∷ 2 ∷ []);
      lent = pack_lent (7 ∷ 7 ∷ 7 ∷ 7 ∷ 7 ∷ []) (replicate 1026 (place 3 1 2 true)) (replicate 60 5) (9 ∷ 9 ∷ 9 ∷ 9 ∷ []);
      answer = packed 15;
      left = pack_lent (0 ∷ 1 ∷ 2 ∷ 7 ∷ 7 ∷ []) (replicate 1024 (place 0 0 0 false) ++ (place 3 1 2 true ∷ place 3 1 2 true ∷ []))
          ((1 ∷ 0 ∷ 8 ∷ 0 ∷ 3 ∷ 0 ∷ 2 ∷ 0 ∷ 3 ∷ 0 ∷ 1 ∷ 2 ∷ 0 ∷ 1 ∷ 244 ∷ []) ++ replicate 45 5) (0 ∷ 1 ∷ 9 ∷ 9 ∷ []);
    }
    ∷
    -- M5: accepted
    record {
      limits = most;
      vertices = 6;
      list = (0 ∷ 1 ∷ 2 ∷ 3 ∷ 4 ∷ 5 ∷ []);
      lent = pack_lent (replicate 8 7) (replicate 1026 (place 3 1 2 true)) (replicate 60 5) (9 ∷ 9 ∷ 9 ∷ 9 ∷ []);
      answer = packed 17;
      left = pack_lent (0 ∷ 1 ∷ 2 ∷ 3 ∷ 4 ∷ 5 ∷ 7 ∷ 7 ∷ [])
          (replicate 1024 (place 0 0 0 false) ++ (place 3 1 2 true ∷ place 3 1 2 true ∷ []))
          ((1 ∷ 0 ∷ 8 ∷ 0 ∷ 6 ∷ 0 ∷ 2 ∷ 0 ∷ 3 ∷ 0 ∷ 1 ∷ 2 ∷ 0 ∷ 3 ∷ 237 ∷ 190 ∷ 219 ∷ []) ++ replicate 43 5) (0 ∷ 1 ∷ 9 ∷ 9 ∷ []);
    }
    ∷
    -- M6: refusal 6
    record {
      limits = most;
      vertices = 4;
      list = (0 ∷ 1 ∷ 2 ∷ []);
      lent = pack_lent (7 ∷ 7 ∷ 7 ∷ 7 ∷ 7 ∷ 7 ∷ []) (replicate 1026 (place 3 1 2 true)) (replicate 60 5) (9 ∷ 9 ∷ 9 ∷ []);
      answer = refusal 6;
      left = pack_lent (7 ∷ 7 ∷ 7 ∷ 7 ∷ 7 ∷ 7 ∷ []) (replicate 1026 (place 3 1 2 true)) (replicate 60 5) (9 ∷ 9 ∷ 9 ∷ []);
    }
    ∷
    -- M7: refusal 5
    record {
      limits = most;
      vertices = 4;
      list = (0 ∷ 1 ∷ 2 ∷ 0 ∷ 1 ∷ 3 ∷ []);
      lent = pack_lent (7 ∷ 7 ∷ 7 ∷ 7 ∷ 7 ∷ 7 ∷ []) (replicate 1026 (place 3 1 2 true)) (replicate 60 5) (9 ∷ 9 ∷ 9 ∷ 9 ∷ []);
      answer = refusal 5;
      left = pack_lent (7 ∷ 7 ∷ 7 ∷ 7 ∷ 7 ∷ 7 ∷ []) (replicate 1026 (place 3 1 2 true)) (replicate 60 5) (9 ∷ 9 ∷ 9 ∷ 9 ∷ []);
    }
    ∷
    -- M8: refusal 7
    record {
      limits = most;
      vertices = 5;
      list = (0 ∷ 1 ∷ 2 ∷ 0 ∷ 3 ∷ 4 ∷ []);
      lent = pack_lent (7 ∷ 7 ∷ 7 ∷ 7 ∷ 7 ∷ 7 ∷ 7 ∷ []) (replicate 1026 (place 3 1 2 true)) (replicate 60 5) (9 ∷ 9 ∷ 9 ∷ 9 ∷ []);
      answer = refusal 7;
      left = pack_lent (7 ∷ 7 ∷ 7 ∷ 7 ∷ 7 ∷ 7 ∷ 7 ∷ []) (replicate 1026 (place 3 1 2 true)) (replicate 60 5) (9 ∷ 9 ∷ 9 ∷ 9 ∷ []);
    }
    ∷
    -- M9, any V: refusal 1
    record {
      limits = most;
      vertices = 3;
      list = [];
      lent = pack_lent (7 ∷ 7 ∷ 7 ∷ 7 ∷ 7 ∷ []) (replicate 1026 (place 3 1 2 true)) (replicate 60 5) (9 ∷ 9 ∷ []);
      answer = refusal 1;
      left = pack_lent (7 ∷ 7 ∷ 7 ∷ 7 ∷ 7 ∷ []) (replicate 1026 (place 3 1 2 true)) (replicate 60 5) (9 ∷ 9 ∷ []);
    }
    ∷
    -- forward at three places; c is reached from the edge that enters its place only: accepted
    record {
      limits = most;
      vertices = 4;
      list = (0 ∷ 1 ∷ 2 ∷ 2 ∷ 3 ∷ 0 ∷ 0 ∷ 3 ∷ 1 ∷ []);
      lent = pack_lent (7 ∷ 7 ∷ 7 ∷ 7 ∷ 7 ∷ 7 ∷ []) (replicate 1026 (place 3 1 2 true)) (replicate 60 5) (9 ∷ 9 ∷ 9 ∷ 9 ∷ 9 ∷ []);
      answer = packed 17;
      left = pack_lent (0 ∷ 1 ∷ 2 ∷ 3 ∷ 7 ∷ 7 ∷ []) (replicate 1024 (place 0 0 0 false) ++ (place 3 1 2 true ∷ place 3 1 2 true ∷ []))
          ((1 ∷ 0 ∷ 8 ∷ 0 ∷ 4 ∷ 0 ∷ 3 ∷ 0 ∷ 4 ∷ 0 ∷ 1 ∷ 2 ∷ 0 ∷ 3 ∷ 225 ∷ 178 ∷ 192 ∷ []) ++ replicate 43 5) (0 ∷ 2 ∷ 1 ∷ 9 ∷ 9 ∷ []);
    }
    ∷
    -- backward at three places; c is reached from the edge that leaves its place only: accepted
    record {
      limits = most;
      vertices = 5;
      list = (0 ∷ 2 ∷ 1 ∷ 1 ∷ 3 ∷ 0 ∷ 3 ∷ 1 ∷ 4 ∷ 0 ∷ 4 ∷ 2 ∷ 0 ∷ 3 ∷ 4 ∷ []);
      lent = pack_lent (7 ∷ 7 ∷ 7 ∷ 7 ∷ 7 ∷ 7 ∷ 7 ∷ []) (replicate 1026 (place 3 1 2 true)) (replicate 60 5)
          (9 ∷ 9 ∷ 9 ∷ 9 ∷ 9 ∷ 9 ∷ 9 ∷ []);
      answer = packed 17;
      left = pack_lent (0 ∷ 2 ∷ 1 ∷ 4 ∷ 3 ∷ 7 ∷ 7 ∷ []) (replicate 1024 (place 0 0 0 false) ++ (place 3 1 2 true ∷ place 3 1 2 true ∷ []))
          ((1 ∷ 0 ∷ 8 ∷ 0 ∷ 5 ∷ 0 ∷ 5 ∷ 0 ∷ 4 ∷ 0 ∷ 1 ∷ 2 ∷ 0 ∷ 3 ∷ 225 ∷ 176 ∷ 83 ∷ []) ++ replicate 43 5)
          (0 ∷ 3 ∷ 1 ∷ 4 ∷ 2 ∷ 9 ∷ 9 ∷ []);
    }
    ∷
    -- split k - 2 across a link; the second part has fewer places, in full loops as many: accepted
    record {
      limits = most;
      vertices = 5;
      list = (0 ∷ 1 ∷ 2 ∷ 1 ∷ 0 ∷ 3 ∷ 0 ∷ 2 ∷ 4 ∷ 3 ∷ 4 ∷ 1 ∷ 0 ∷ 4 ∷ 3 ∷ []);
      lent = pack_lent (7 ∷ 7 ∷ 7 ∷ 7 ∷ 7 ∷ 7 ∷ 7 ∷ []) (replicate 1026 (place 3 1 2 true)) (replicate 60 5)
          (9 ∷ 9 ∷ 9 ∷ 9 ∷ 9 ∷ 9 ∷ 9 ∷ []);
      answer = packed 19;
      left = pack_lent (0 ∷ 1 ∷ 2 ∷ 3 ∷ 4 ∷ 7 ∷ 7 ∷ []) (replicate 1024 (place 0 0 0 false) ++ (place 3 1 2 true ∷ place 3 1 2 true ∷ []))
          ((1 ∷ 0 ∷ 8 ∷ 0 ∷ 5 ∷ 0 ∷ 5 ∷ 0 ∷ 5 ∷ 0 ∷ 2 ∷ 2 ∷ 0 ∷ 5 ∷ 224 ∷ 55 ∷ 0 ∷ 39 ∷ 64 ∷ []) ++ replicate 41 5)
          (0 ∷ 1 ∷ 3 ∷ 2 ∷ 4 ∷ 9 ∷ 9 ∷ []);
    }
    ∷
    -- split, the first part is smaller: accepted
    record {
      limits = most;
      vertices = 6;
      list = (1 ∷ 3 ∷ 2 ∷ 2 ∷ 4 ∷ 5 ∷ 2 ∷ 3 ∷ 4 ∷ 1 ∷ 0 ∷ 3 ∷ 2 ∷ 5 ∷ 0 ∷ 0 ∷ 1 ∷ 2 ∷ []);
      lent = pack_lent (replicate 8 7) (replicate 1026 (place 3 1 2 true)) (replicate 60 5) (replicate 8 9);
      answer = packed 19;
      left = pack_lent (3 ∷ 0 ∷ 2 ∷ 1 ∷ 4 ∷ 5 ∷ 7 ∷ 7 ∷ [])
          (replicate 1024 (place 0 0 0 false) ++ (place 3 1 2 true ∷ place 3 1 2 true ∷ []))
          ((1 ∷ 0 ∷ 8 ∷ 0 ∷ 6 ∷ 0 ∷ 6 ∷ 0 ∷ 7 ∷ 0 ∷ 2 ∷ 2 ∷ 0 ∷ 5 ∷ 225 ∷ 129 ∷ 0 ∷ 42 ∷ 219 ∷ []) ++ replicate 41 5)
          (0 ∷ 3 ∷ 2 ∷ 1 ∷ 4 ∷ 5 ∷ 9 ∷ 9 ∷ []);
    }
    ∷
    -- split k - 2, the second part is smaller: accepted
    record {
      limits = most;
      vertices = 6;
      list = (0 ∷ 2 ∷ 1 ∷ 0 ∷ 3 ∷ 2 ∷ 1 ∷ 5 ∷ 4 ∷ 1 ∷ 2 ∷ 5 ∷ 4 ∷ 3 ∷ 0 ∷ 4 ∷ 5 ∷ 3 ∷ []);
      lent = pack_lent (replicate 8 7) (replicate 1026 (place 3 1 2 true)) (replicate 60 5) (replicate 8 9);
      answer = packed 20;
      left = pack_lent (0 ∷ 2 ∷ 1 ∷ 3 ∷ 5 ∷ 4 ∷ 7 ∷ 7 ∷ [])
          (replicate 1024 (place 0 0 0 false) ++ (place 3 1 2 true ∷ place 3 1 2 true ∷ []))
          ((1 ∷ 0 ∷ 8 ∷ 0 ∷ 6 ∷ 0 ∷ 6 ∷ 0 ∷ 6 ∷ 0 ∷ 2 ∷ 2 ∷ 0 ∷ 6 ∷ 225 ∷ 128 ∷ 220 ∷ 0 ∷ 218 ∷ 108 ∷ []) ++ replicate 40 5)
          (0 ∷ 1 ∷ 3 ∷ 2 ∷ 4 ∷ 5 ∷ 9 ∷ 9 ∷ []);
    }
    ∷
    -- smallest union found: accepted
    record {
      limits = most;
      vertices = 6;
      list = (5 ∷ 2 ∷ 1 ∷ 5 ∷ 4 ∷ 2 ∷ 4 ∷ 1 ∷ 3 ∷ 5 ∷ 3 ∷ 0 ∷ 4 ∷ 5 ∷ 0 ∷ 2 ∷ 4 ∷ 3 ∷ 0 ∷ 3 ∷ 1 ∷ 0 ∷ 1 ∷ 2 ∷ []);
      lent = pack_lent (replicate 8 7) (replicate 1026 (place 3 1 2 true)) (replicate 60 5) (replicate 10 9);
      answer = packed 23;
      left = pack_lent (5 ∷ 2 ∷ 1 ∷ 4 ∷ 3 ∷ 0 ∷ 7 ∷ 7 ∷ [])
          (replicate 1024 (place 0 0 0 false) ++ (place 3 1 2 true ∷ place 3 1 2 true ∷ []))
          ((1 ∷ 0 ∷ 8 ∷ 0 ∷ 6 ∷ 0 ∷ 8 ∷ 0 ∷ 8 ∷ 0 ∷ 2 ∷ 2 ∷ 0 ∷ 9 ∷ 224 ∷ 49 ∷ 0 ∷ 60 ∷ 4 ∷ 2 ∷ 108 ∷ 178 ∷ 216 ∷ []) ++ replicate 37 5)
          (0 ∷ 1 ∷ 5 ∷ 7 ∷ 6 ∷ 3 ∷ 4 ∷ 2 ∷ 9 ∷ 9 ∷ []);
    }
    ∷
    -- union with j = 0, and two pieces more: accepted
    record {
      limits = most;
      vertices = 11;
      list =
          (0 ∷ 1 ∷ 2 ∷ 2 ∷ 3 ∷ 0 ∷ 4 ∷ 5 ∷ 6 ∷ 7 ∷ 8 ∷ 9 ∷ 0 ∷ 6 ∷ 5 ∷ 0 ∷ 3 ∷ 6 ∷ 1 ∷ 10 ∷ 2 ∷ 10 ∷ 6 ∷ 3 ∷ 5 ∷ 2 ∷ 10 ∷ 6 ∷ 10 ∷ 1 ∷ 2 ∷ 5
          ∷ 4 ∷ 3 ∷ 5 ∷ 10 ∷ []);
      lent = pack_lent (replicate 13 7) (replicate 1026 (place 3 1 2 true)) (replicate 60 5) (replicate 14 9);
      answer = packed 26;
      left = pack_lent (0 ∷ 1 ∷ 2 ∷ 6 ∷ 5 ∷ 4 ∷ 7 ∷ 8 ∷ 9 ∷ 10 ∷ 3 ∷ 7 ∷ 7 ∷ [])
          (replicate 1024 (place 0 0 0 false) ++ (place 3 1 2 true ∷ place 3 1 2 true ∷ []))
          ((1 ∷ 0 ∷ 8 ∷ 0 ∷ 11 ∷ 0 ∷ 12 ∷ 0 ∷ 9 ∷ 0 ∷ 2 ∷ 2 ∷ 0 ∷ 12 ∷ 236 ∷ 0 ∷ 192 ∷ 128 ∷ 27 ∷ 192 ∷ 64 ∷ 4 ∷ 91 ∷ 45 ∷ 246 ∷ 216 ∷ [])
          ++ replicate 34 5)
          (0 ∷ 6 ∷ 8 ∷ 10 ∷ 1 ∷ 5 ∷ 4 ∷ 9 ∷ 7 ∷ 11 ∷ 2 ∷ 3 ∷ 9 ∷ 9 ∷ []);
    }
    ∷
    -- the peak of places is reached by the union alone: accepted
    record {
      limits = most;
      vertices = 8;
      list =
          (2 ∷ 6 ∷ 7 ∷ 0 ∷ 4 ∷ 6 ∷ 7 ∷ 6 ∷ 3 ∷ 4 ∷ 1 ∷ 6 ∷ 3 ∷ 0 ∷ 7 ∷ 0 ∷ 5 ∷ 1 ∷ 6 ∷ 1 ∷ 3 ∷ 2 ∷ 5 ∷ 6 ∷ 6 ∷ 5 ∷ 0 ∷ 0 ∷ 1 ∷ 7 ∷ 1 ∷ 4 ∷ 7
          ∷ []);
      lent = pack_lent (replicate 10 7) (replicate 1026 (place 3 1 2 true)) (replicate 60 5) (replicate 13 9);
      answer = packed 25;
      left = pack_lent (4 ∷ 6 ∷ 0 ∷ 7 ∷ 5 ∷ 3 ∷ 1 ∷ 2 ∷ 7 ∷ 7 ∷ [])
          (replicate 1024 (place 0 0 0 false) ++ (place 3 1 2 true ∷ place 3 1 2 true ∷ []))
          ((1 ∷ 0 ∷ 8 ∷ 0 ∷ 8 ∷ 0 ∷ 11 ∷ 0 ∷ 9 ∷ 0 ∷ 2 ∷ 2 ∷ 0 ∷ 11 ∷ 224 ∷ 0 ∷ 12 ∷ 0 ∷ 240 ∷ 16 ∷ 13 ∷ 54 ∷ 203 ∷ 109 ∷ 128 ∷ [])
          ++ replicate 35 5)
          (0 ∷ 7 ∷ 8 ∷ 1 ∷ 3 ∷ 6 ∷ 2 ∷ 4 ∷ 9 ∷ 10 ∷ 5 ∷ 9 ∷ 9 ∷ []);
    }
    ∷
    -- union next to a marked edge: accepted
    record {
      limits = most;
      vertices = 8;
      list =
          (0 ∷ 1 ∷ 2 ∷ 3 ∷ 1 ∷ 0 ∷ 4 ∷ 0 ∷ 2 ∷ 4 ∷ 1 ∷ 5 ∷ 6 ∷ 5 ∷ 2 ∷ 2 ∷ 7 ∷ 6 ∷ 3 ∷ 0 ∷ 6 ∷ 0 ∷ 4 ∷ 6 ∷ 4 ∷ 5 ∷ 6 ∷ 7 ∷ 2 ∷ 1 ∷ 3 ∷ 5 ∷ 1
          ∷ []);
      lent = pack_lent (replicate 10 7) (replicate 1026 (place 3 1 2 true)) (replicate 60 5) (replicate 13 9);
      answer = packed 26;
      left = pack_lent (0 ∷ 1 ∷ 2 ∷ 3 ∷ 5 ∷ 4 ∷ 7 ∷ 6 ∷ 7 ∷ 7 ∷ [])
          (replicate 1024 (place 0 0 0 false) ++ (place 3 1 2 true ∷ place 3 1 2 true ∷ []))
          ((1 ∷ 0 ∷ 8 ∷ 0 ∷ 8 ∷ 0 ∷ 11 ∷ 0 ∷ 11 ∷ 0 ∷ 2 ∷ 2 ∷ 0 ∷ 12 ∷ 224 ∷ 6 ∷ 4 ∷ 0 ∷ 222 ∷ 2 ∷ 1 ∷ 64 ∷ 30 ∷ 150 ∷ 219 ∷ 96 ∷ [])
          ++ replicate 34 5)
          (0 ∷ 1 ∷ 10 ∷ 3 ∷ 9 ∷ 5 ∷ 4 ∷ 2 ∷ 7 ∷ 8 ∷ 6 ∷ 9 ∷ 9 ∷ []);
    }
    ∷
    -- union 2 of two waiting loops; 1 counted from the oldest: accepted
    record {
      limits = most;
      vertices = 11;
      list =
          (0 ∷ 1 ∷ 2 ∷ 1 ∷ 0 ∷ 3 ∷ 1 ∷ 3 ∷ 4 ∷ 1 ∷ 4 ∷ 5 ∷ 1 ∷ 5 ∷ 6 ∷ 1 ∷ 6 ∷ 7 ∷ 1 ∷ 7 ∷ 2 ∷ 2 ∷ 7 ∷ 4 ∷ 2 ∷ 4 ∷ 8 ∷ 2 ∷ 8 ∷ 3 ∷ 2 ∷ 3 ∷ 9
          ∷ 2 ∷ 9 ∷ 6 ∷ 2 ∷ 6 ∷ 10 ∷ 3 ∷ 8 ∷ 4 ∷ 6 ∷ 5 ∷ 10 ∷ []);
      lent = pack_lent (replicate 13 7) (replicate 1026 (place 3 1 2 true)) (replicate 60 5) (replicate 17 9);
      answer = packed 28;
      left = pack_lent (0 ∷ 1 ∷ 2 ∷ 3 ∷ 4 ∷ 5 ∷ 6 ∷ 7 ∷ 8 ∷ 9 ∷ 10 ∷ 7 ∷ 7 ∷ [])
          (replicate 1024 (place 0 0 0 false) ++ (place 3 1 2 true ∷ place 3 1 2 true ∷ []))
          ((1 ∷ 0 ∷ 8 ∷ 0 ∷ 11 ∷ 0 ∷ 15 ∷ 0 ∷ 13 ∷ 0 ∷ 3 ∷ 2 ∷ 0 ∷ 14 ∷ 224 ∷ 0 ∷ 12 ∷ 0 ∷ 196 ∷ 0 ∷ 134 ∷ 4 ∷ 1 ∷ 134 ∷ 219 ∷ 109 ∷ 178
          ∷ 232 ∷ []) ++ replicate 32 5)
          (0 ∷ 1 ∷ 2 ∷ 3 ∷ 4 ∷ 5 ∷ 6 ∷ 7 ∷ 8 ∷ 9 ∷ 10 ∷ 11 ∷ 12 ∷ 14 ∷ 13 ∷ 9 ∷ 9 ∷ []);
    }
    ∷
    -- split to c that has a place in a waiting loop too: accepted
    record {
      limits = most;
      vertices = 10;
      list =
          (0 ∷ 1 ∷ 2 ∷ 3 ∷ 1 ∷ 4 ∷ 3 ∷ 0 ∷ 5 ∷ 6 ∷ 7 ∷ 0 ∷ 0 ∷ 8 ∷ 5 ∷ 0 ∷ 2 ∷ 8 ∷ 5 ∷ 8 ∷ 2 ∷ 6 ∷ 9 ∷ 3 ∷ 0 ∷ 7 ∷ 1 ∷ 1 ∷ 7 ∷ 4 ∷ 9 ∷ 0 ∷ 3
          ∷ 9 ∷ 6 ∷ 0 ∷ 3 ∷ 4 ∷ 7 ∷ 3 ∷ 7 ∷ 6 ∷ []);
      lent = pack_lent (replicate 12 7) (replicate 1026 (place 3 1 2 true)) (replicate 60 5) (replicate 16 9);
      answer = packed 24;
      left = pack_lent (0 ∷ 1 ∷ 2 ∷ 5 ∷ 4 ∷ 7 ∷ 9 ∷ 3 ∷ 6 ∷ 8 ∷ 7 ∷ 7 ∷ [])
          (replicate 1024 (place 0 0 0 false) ++ (place 3 1 2 true ∷ place 3 1 2 true ∷ []))
          ((1 ∷ 0 ∷ 8 ∷ 0 ∷ 10 ∷ 0 ∷ 14 ∷ 0 ∷ 10 ∷ 0 ∷ 3 ∷ 2 ∷ 0 ∷ 10 ∷ 224 ∷ 6 ∷ 192 ∷ 128 ∷ 24 ∷ 6 ∷ 0 ∷ 86 ∷ 178 ∷ 192 ∷ [])
          ++ replicate 36 5)
          (0 ∷ 8 ∷ 9 ∷ 1 ∷ 5 ∷ 4 ∷ 2 ∷ 10 ∷ 11 ∷ 3 ∷ 13 ∷ 12 ∷ 7 ∷ 6 ∷ 9 ∷ 9 ∷ []);
    }
    ∷
    -- union from a loop of two places: accepted
    record {
      limits = most;
      vertices = 10;
      list =
          (0 ∷ 1 ∷ 2 ∷ 3 ∷ 4 ∷ 5 ∷ 1 ∷ 6 ∷ 7 ∷ 1 ∷ 7 ∷ 4 ∷ 1 ∷ 4 ∷ 2 ∷ 2 ∷ 4 ∷ 6 ∷ 2 ∷ 6 ∷ 8 ∷ 2 ∷ 8 ∷ 7 ∷ 7 ∷ 8 ∷ 9 ∷ 7 ∷ 9 ∷ 4 ∷ 6 ∷ 4 ∷ 3
          ∷ 6 ∷ 3 ∷ 5 ∷ 6 ∷ 5 ∷ 7 ∷ []);
      lent = pack_lent (replicate 12 7) (replicate 1026 (place 3 1 2 true)) (replicate 60 5) (replicate 15 9);
      answer = packed 26;
      left = pack_lent (0 ∷ 1 ∷ 2 ∷ 9 ∷ 3 ∷ 7 ∷ 4 ∷ 6 ∷ 5 ∷ 8 ∷ 7 ∷ 7 ∷ [])
          (replicate 1024 (place 0 0 0 false) ++ (place 3 1 2 true ∷ place 3 1 2 true ∷ []))
          ((1 ∷ 0 ∷ 8 ∷ 0 ∷ 10 ∷ 0 ∷ 13 ∷ 0 ∷ 8 ∷ 0 ∷ 2 ∷ 2 ∷ 0 ∷ 12 ∷ 236 ∷ 0 ∷ 27 ∷ 128 ∷ 30 ∷ 2 ∷ 1 ∷ 6 ∷ 216 ∷ 44 ∷ 20 ∷ 216 ∷ [])
          ++ replicate 34 5)
          (0 ∷ 4 ∷ 5 ∷ 6 ∷ 7 ∷ 3 ∷ 2 ∷ 12 ∷ 8 ∷ 9 ∷ 10 ∷ 11 ∷ 1 ∷ 9 ∷ 9 ∷ []);
    }
    ∷
    -- union from a loop of two places, then a split past links: accepted
    record {
      limits = most;
      vertices = 12;
      list =
          (0 ∷ 1 ∷ 2 ∷ 1 ∷ 3 ∷ 2 ∷ 4 ∷ 5 ∷ 6 ∷ 7 ∷ 2 ∷ 8 ∷ 7 ∷ 0 ∷ 2 ∷ 3 ∷ 0 ∷ 7 ∷ 3 ∷ 9 ∷ 0 ∷ 1 ∷ 0 ∷ 9 ∷ 10 ∷ 1 ∷ 9 ∷ 3 ∷ 1 ∷ 10 ∷ 3 ∷ 10
          ∷ 11 ∷ 11 ∷ 9 ∷ 3 ∷ 8 ∷ 9 ∷ 11 ∷ 8 ∷ 11 ∷ 7 ∷ []);
      lent = pack_lent (replicate 14 7) (replicate 1026 (place 3 1 2 true)) (replicate 60 5) (replicate 16 9);
      answer = packed 28;
      left = pack_lent (0 ∷ 1 ∷ 2 ∷ 5 ∷ 9 ∷ 10 ∷ 11 ∷ 6 ∷ 7 ∷ 3 ∷ 4 ∷ 8 ∷ 7 ∷ 7 ∷ [])
          (replicate 1024 (place 0 0 0 false) ++ (place 3 1 2 true ∷ place 3 1 2 true ∷ []))
          ((1 ∷ 0 ∷ 8 ∷ 0 ∷ 12 ∷ 0 ∷ 14 ∷ 0 ∷ 8 ∷ 0 ∷ 2 ∷ 2 ∷ 0 ∷ 14 ∷ 224 ∷ 2 ∷ 196 ∷ 0 ∷ 216 ∷ 13 ∷ 224 ∷ 32 ∷ 20 ∷ 1 ∷ 42 ∷ 109 ∷ 246
          ∷ 216 ∷ []) ++ replicate 32 5)
          (0 ∷ 7 ∷ 8 ∷ 9 ∷ 1 ∷ 4 ∷ 5 ∷ 3 ∷ 13 ∷ 12 ∷ 11 ∷ 6 ∷ 10 ∷ 2 ∷ 9 ∷ 9 ∷ []);
    }
    ∷
    -- union to c that has two places in the waiting loop: accepted
    record {
      limits = most;
      vertices = 15;
      list =
          (0 ∷ 1 ∷ 2 ∷ 1 ∷ 0 ∷ 3 ∷ 4 ∷ 5 ∷ 6 ∷ 7 ∷ 1 ∷ 3 ∷ 6 ∷ 8 ∷ 7 ∷ 4 ∷ 9 ∷ 5 ∷ 10 ∷ 3 ∷ 8 ∷ 5 ∷ 7 ∷ 8 ∷ 11 ∷ 5 ∷ 8 ∷ 12 ∷ 8 ∷ 1 ∷ 10 ∷ 8
          ∷ 2 ∷ 1 ∷ 7 ∷ 12 ∷ 8 ∷ 6 ∷ 1 ∷ 13 ∷ 12 ∷ 4 ∷ 11 ∷ 8 ∷ 0 ∷ 12 ∷ 7 ∷ 5 ∷ 1 ∷ 6 ∷ 5 ∷ 12 ∷ 9 ∷ 4 ∷ 5 ∷ 9 ∷ 12 ∷ 0 ∷ 8 ∷ 3 ∷ 14 ∷ 10
          ∷ 2 ∷ 1 ∷ 14 ∷ 2 ∷ []);
      lent = pack_lent (replicate 17 7) (replicate 1026 (place 3 1 2 true)) (replicate 60 5) (replicate 24 9);
      answer = packed 35;
      left = pack_lent (0 ∷ 1 ∷ 2 ∷ 3 ∷ 12 ∷ 8 ∷ 7 ∷ 4 ∷ 6 ∷ 13 ∷ 10 ∷ 11 ∷ 5 ∷ 14 ∷ 9 ∷ 7 ∷ 7 ∷ [])
          (replicate 1024 (place 0 0 0 false) ++ (place 3 1 2 true ∷ place 3 1 2 true ∷ []))
          ((1 ∷ 0 ∷ 8 ∷ 0 ∷ 15 ∷ 0 ∷ 22 ∷ 0 ∷ 13 ∷ 0 ∷ 2 ∷ 2 ∷ 0 ∷ 21 ∷ 224 ∷ 0 ∷ 3 ∷ 2 ∷ 0 ∷ 173 ∷ 224 ∷ 32 ∷ 10 ∷ 110 ∷ 0 ∷ 184 ∷ 8 ∷ 8
          ∷ 27 ∷ 101 ∷ 128 ∷ 80 ∷ 108 ∷ 182 ∷ 192 ∷ []) ++ replicate 25 5)
          (0 ∷ 1 ∷ 3 ∷ 11 ∷ 9 ∷ 12 ∷ 16 ∷ 21 ∷ 20 ∷ 10 ∷ 19 ∷ 6 ∷ 15 ∷ 7 ∷ 8 ∷ 4 ∷ 2 ∷ 5 ∷ 18 ∷ 17 ∷ 13 ∷ 14 ∷ 9 ∷ 9 ∷ []);
    }
    ∷
    -- torus of seven vertices: accepted
    record {
      limits = most;
      vertices = 7;
      list =
          (0 ∷ 1 ∷ 3 ∷ 1 ∷ 2 ∷ 4 ∷ 2 ∷ 3 ∷ 5 ∷ 3 ∷ 4 ∷ 6 ∷ 4 ∷ 5 ∷ 0 ∷ 5 ∷ 6 ∷ 1 ∷ 6 ∷ 0 ∷ 2 ∷ 1 ∷ 0 ∷ 5 ∷ 2 ∷ 1 ∷ 6 ∷ 3 ∷ 2 ∷ 0 ∷ 4 ∷ 3 ∷ 1
          ∷ 5 ∷ 4 ∷ 2 ∷ 6 ∷ 5 ∷ 3 ∷ 0 ∷ 6 ∷ 4 ∷ []);
      lent = pack_lent (replicate 9 7) (replicate 1026 (place 3 1 2 true)) (replicate 60 5) (replicate 16 9);
      answer = packed 24;
      left = pack_lent (0 ∷ 1 ∷ 5 ∷ 2 ∷ 6 ∷ 3 ∷ 4 ∷ 7 ∷ 7 ∷ [])
          (replicate 1024 (place 0 0 0 false) ++ (place 3 1 2 true ∷ place 3 1 2 true ∷ []))
          ((1 ∷ 0 ∷ 8 ∷ 0 ∷ 7 ∷ 0 ∷ 14 ∷ 0 ∷ 8 ∷ 0 ∷ 2 ∷ 2 ∷ 0 ∷ 10 ∷ 224 ∷ 0 ∷ 96 ∷ 7 ∷ 128 ∷ 128 ∷ 69 ∷ 64 ∷ 14 ∷ 154 ∷ [])
          ++ replicate 36 5)
          (0 ∷ 7 ∷ 5 ∷ 8 ∷ 1 ∷ 10 ∷ 3 ∷ 13 ∷ 6 ∷ 9 ∷ 2 ∷ 12 ∷ 11 ∷ 4 ∷ 9 ∷ 9 ∷ []);
    }
    ∷
    -- a loop of two places, which new makes longer; f leaves; three places are the peak, in full loops four: accepted
    record {
      limits = most;
      vertices = 4;
      list = (0 ∷ 2 ∷ 1 ∷ 1 ∷ 3 ∷ 0 ∷ []);
      lent = pack_lent (7 ∷ 7 ∷ 7 ∷ 7 ∷ 7 ∷ 7 ∷ []) (replicate 1026 (place 3 1 2 true)) (replicate 60 5) (9 ∷ 9 ∷ 9 ∷ 9 ∷ []);
      answer = packed 17;
      left = pack_lent (0 ∷ 2 ∷ 1 ∷ 3 ∷ 7 ∷ 7 ∷ []) (replicate 1024 (place 0 0 0 false) ++ (place 3 1 2 true ∷ place 3 1 2 true ∷ []))
          ((1 ∷ 0 ∷ 8 ∷ 0 ∷ 4 ∷ 0 ∷ 2 ∷ 0 ∷ 3 ∷ 0 ∷ 1 ∷ 2 ∷ 0 ∷ 3 ∷ 237 ∷ 134 ∷ 192 ∷ []) ++ replicate 43 5) (0 ∷ 1 ∷ 9 ∷ 9 ∷ []);
    }
    ∷
    -- both places of an edge leave: accepted
    record {
      limits = most;
      vertices = 4;
      list = (0 ∷ 1 ∷ 2 ∷ 2 ∷ 1 ∷ 3 ∷ []);
      lent = pack_lent (7 ∷ 7 ∷ 7 ∷ 7 ∷ 7 ∷ 7 ∷ []) (replicate 1026 (place 3 1 2 true)) (replicate 60 5) (9 ∷ 9 ∷ 9 ∷ 9 ∷ []);
      answer = packed 17;
      left = pack_lent (0 ∷ 1 ∷ 2 ∷ 3 ∷ 7 ∷ 7 ∷ []) (replicate 1024 (place 0 0 0 false) ++ (place 3 1 2 true ∷ place 3 1 2 true ∷ []))
          ((1 ∷ 0 ∷ 8 ∷ 0 ∷ 4 ∷ 0 ∷ 2 ∷ 0 ∷ 4 ∷ 0 ∷ 1 ∷ 2 ∷ 0 ∷ 3 ∷ 236 ∷ 54 ∷ 192 ∷ []) ++ replicate 43 5) (0 ∷ 1 ∷ 9 ∷ 9 ∷ []);
    }
    ∷
    -- split 1 across a link: accepted
    record {
      limits = most;
      vertices = 6;
      list = (2 ∷ 5 ∷ 3 ∷ 2 ∷ 3 ∷ 0 ∷ 2 ∷ 1 ∷ 5 ∷ 3 ∷ 1 ∷ 4 ∷ 4 ∷ 1 ∷ 2 ∷ 3 ∷ 4 ∷ 0 ∷ []);
      lent = pack_lent (replicate 8 7) (replicate 1026 (place 3 1 2 true)) (replicate 60 5) (replicate 8 9);
      answer = packed 20;
      left = pack_lent (4 ∷ 3 ∷ 0 ∷ 2 ∷ 5 ∷ 1 ∷ 7 ∷ 7 ∷ [])
          (replicate 1024 (place 0 0 0 false) ++ (place 3 1 2 true ∷ place 3 1 2 true ∷ []))
          ((1 ∷ 0 ∷ 8 ∷ 0 ∷ 6 ∷ 0 ∷ 6 ∷ 0 ∷ 6 ∷ 0 ∷ 2 ∷ 2 ∷ 0 ∷ 6 ∷ 225 ∷ 176 ∷ 196 ∷ 0 ∷ 89 ∷ 108 ∷ []) ++ replicate 40 5)
          (0 ∷ 2 ∷ 1 ∷ 4 ∷ 3 ∷ 5 ∷ 9 ∷ 9 ∷ []);
    }
    ∷
    -- split of equal halves, next to a marked edge: accepted
    record {
      limits = most;
      vertices = 5;
      list = (2 ∷ 0 ∷ 1 ∷ 1 ∷ 4 ∷ 2 ∷ 2 ∷ 4 ∷ 0 ∷ 3 ∷ 4 ∷ 1 ∷ 1 ∷ 0 ∷ 3 ∷ []);
      lent = pack_lent (7 ∷ 7 ∷ 7 ∷ 7 ∷ 7 ∷ 7 ∷ 7 ∷ []) (replicate 1026 (place 3 1 2 true)) (replicate 60 5)
          (9 ∷ 9 ∷ 9 ∷ 9 ∷ 9 ∷ 9 ∷ 9 ∷ []);
      answer = packed 19;
      left = pack_lent (1 ∷ 2 ∷ 0 ∷ 4 ∷ 3 ∷ 7 ∷ 7 ∷ []) (replicate 1024 (place 0 0 0 false) ++ (place 3 1 2 true ∷ place 3 1 2 true ∷ []))
          ((1 ∷ 0 ∷ 8 ∷ 0 ∷ 5 ∷ 0 ∷ 5 ∷ 0 ∷ 6 ∷ 0 ∷ 2 ∷ 2 ∷ 0 ∷ 5 ∷ 225 ∷ 136 ∷ 1 ∷ 86 ∷ 192 ∷ []) ++ replicate 41 5)
          (0 ∷ 2 ∷ 4 ∷ 3 ∷ 1 ∷ 9 ∷ 9 ∷ []);
    }
    ∷
    -- split 2 past a link; of halves equal in places the first goes on, in full loops the second would: accepted
    record {
      limits = most;
      vertices = 6;
      list = (2 ∷ 0 ∷ 1 ∷ 1 ∷ 3 ∷ 2 ∷ 3 ∷ 1 ∷ 4 ∷ 3 ∷ 4 ∷ 5 ∷ 4 ∷ 0 ∷ 2 ∷ 5 ∷ 4 ∷ 2 ∷ []);
      lent = pack_lent (replicate 8 7) (replicate 1026 (place 3 1 2 true)) (replicate 60 5) (replicate 8 9);
      answer = packed 20;
      left = pack_lent (1 ∷ 2 ∷ 0 ∷ 4 ∷ 3 ∷ 5 ∷ 7 ∷ 7 ∷ [])
          (replicate 1024 (place 0 0 0 false) ++ (place 3 1 2 true ∷ place 3 1 2 true ∷ []))
          ((1 ∷ 0 ∷ 8 ∷ 0 ∷ 6 ∷ 0 ∷ 6 ∷ 0 ∷ 6 ∷ 0 ∷ 2 ∷ 2 ∷ 0 ∷ 6 ∷ 225 ∷ 176 ∷ 196 ∷ 0 ∷ 147 ∷ 108 ∷ []) ++ replicate 40 5)
          (0 ∷ 4 ∷ 1 ∷ 5 ∷ 3 ∷ 2 ∷ 9 ∷ 9 ∷ []);
    }
    ∷
    -- split 1; the first part has fewer places, in full loops as many: accepted
    record {
      limits = most;
      vertices = 6;
      list = (2 ∷ 5 ∷ 0 ∷ 1 ∷ 2 ∷ 0 ∷ 0 ∷ 3 ∷ 1 ∷ 3 ∷ 2 ∷ 1 ∷ 2 ∷ 4 ∷ 5 ∷ 0 ∷ 4 ∷ 3 ∷ 3 ∷ 4 ∷ 2 ∷ []);
      lent = pack_lent (replicate 8 7) (replicate 1026 (place 3 1 2 true)) (replicate 60 5) (replicate 9 9);
      answer = packed 19;
      left = pack_lent (2 ∷ 4 ∷ 0 ∷ 5 ∷ 3 ∷ 1 ∷ 7 ∷ 7 ∷ [])
          (replicate 1024 (place 0 0 0 false) ++ (place 3 1 2 true ∷ place 3 1 2 true ∷ []))
          ((1 ∷ 0 ∷ 8 ∷ 0 ∷ 6 ∷ 0 ∷ 7 ∷ 0 ∷ 5 ∷ 0 ∷ 2 ∷ 2 ∷ 0 ∷ 5 ∷ 225 ∷ 176 ∷ 12 ∷ 0 ∷ 93 ∷ []) ++ replicate 41 5)
          (0 ∷ 4 ∷ 1 ∷ 3 ∷ 6 ∷ 5 ∷ 2 ∷ 9 ∷ 9 ∷ []);
    }
    ∷
    -- split 1; the first part has fewer places, in full loops more: accepted
    record {
      limits = most;
      vertices = 7;
      list = (3 ∷ 5 ∷ 6 ∷ 0 ∷ 5 ∷ 3 ∷ 0 ∷ 2 ∷ 5 ∷ 2 ∷ 4 ∷ 3 ∷ 1 ∷ 4 ∷ 2 ∷ 1 ∷ 3 ∷ 4 ∷ 1 ∷ 0 ∷ 3 ∷ 0 ∷ 1 ∷ 2 ∷ []);
      lent = pack_lent (replicate 9 7) (replicate 1026 (place 3 1 2 true)) (replicate 60 5) (replicate 10 9);
      answer = packed 20;
      left = pack_lent (3 ∷ 5 ∷ 4 ∷ 0 ∷ 6 ∷ 1 ∷ 2 ∷ 7 ∷ 7 ∷ [])
          (replicate 1024 (place 0 0 0 false) ++ (place 3 1 2 true ∷ place 3 1 2 true ∷ []))
          ((1 ∷ 0 ∷ 8 ∷ 0 ∷ 7 ∷ 0 ∷ 8 ∷ 0 ∷ 5 ∷ 0 ∷ 2 ∷ 2 ∷ 0 ∷ 6 ∷ 224 ∷ 54 ∷ 193 ∷ 16 ∷ 1 ∷ 116 ∷ []) ++ replicate 40 5)
          (0 ∷ 1 ∷ 2 ∷ 6 ∷ 7 ∷ 4 ∷ 3 ∷ 5 ∷ 9 ∷ 9 ∷ []);
    }
    ∷
    -- split 2 where the edge after f is marked: accepted
    record {
      limits = most;
      vertices = 6;
      list = (2 ∷ 1 ∷ 5 ∷ 0 ∷ 5 ∷ 4 ∷ 2 ∷ 3 ∷ 4 ∷ 2 ∷ 5 ∷ 3 ∷ 1 ∷ 4 ∷ 5 ∷ 0 ∷ 4 ∷ 3 ∷ []);
      lent = pack_lent (replicate 8 7) (replicate 1026 (place 3 1 2 true)) (replicate 60 5) (replicate 8 9);
      answer = packed 20;
      left = pack_lent (4 ∷ 1 ∷ 0 ∷ 5 ∷ 3 ∷ 2 ∷ 7 ∷ 7 ∷ [])
          (replicate 1024 (place 0 0 0 false) ++ (place 3 1 2 true ∷ place 3 1 2 true ∷ []))
          ((1 ∷ 0 ∷ 8 ∷ 0 ∷ 6 ∷ 0 ∷ 6 ∷ 0 ∷ 7 ∷ 0 ∷ 2 ∷ 2 ∷ 0 ∷ 6 ∷ 236 ∷ 6 ∷ 32 ∷ 4 ∷ 217 ∷ 108 ∷ []) ++ replicate 40 5)
          (0 ∷ 4 ∷ 1 ∷ 3 ∷ 2 ∷ 5 ∷ 9 ∷ 9 ∷ []);
    }
    ∷
    -- split k - 3 where the edge into e is marked: accepted
    record {
      limits = most;
      vertices = 6;
      list = (0 ∷ 1 ∷ 2 ∷ 3 ∷ 1 ∷ 0 ∷ 4 ∷ 0 ∷ 2 ∷ 4 ∷ 3 ∷ 0 ∷ 4 ∷ 1 ∷ 3 ∷ 4 ∷ 5 ∷ 1 ∷ []);
      lent = pack_lent (replicate 8 7) (replicate 1026 (place 3 1 2 true)) (replicate 60 5) (replicate 8 9);
      answer = packed 19;
      left = pack_lent (0 ∷ 1 ∷ 2 ∷ 3 ∷ 4 ∷ 5 ∷ 7 ∷ 7 ∷ [])
          (replicate 1024 (place 0 0 0 false) ++ (place 3 1 2 true ∷ place 3 1 2 true ∷ []))
          ((1 ∷ 0 ∷ 8 ∷ 0 ∷ 6 ∷ 0 ∷ 6 ∷ 0 ∷ 6 ∷ 0 ∷ 2 ∷ 2 ∷ 0 ∷ 5 ∷ 224 ∷ 6 ∷ 224 ∷ 5 ∷ 91 ∷ []) ++ replicate 41 5)
          (0 ∷ 1 ∷ 4 ∷ 5 ∷ 2 ∷ 3 ∷ 9 ∷ 9 ∷ []);
    }
    ∷
    -- seven places, in full loops six: the other half of the split goes on: accepted
    record {
      limits = most;
      vertices = 7;
      list = (3 ∷ 1 ∷ 6 ∷ 5 ∷ 0 ∷ 4 ∷ 5 ∷ 1 ∷ 2 ∷ 6 ∷ 5 ∷ 3 ∷ 2 ∷ 3 ∷ 5 ∷ 0 ∷ 5 ∷ 6 ∷ 2 ∷ 1 ∷ 3 ∷ []);
      lent = pack_lent (replicate 9 7) (replicate 1026 (place 3 1 2 true)) (replicate 60 5) (replicate 9 9);
      answer = packed 20;
      left = pack_lent (5 ∷ 1 ∷ 3 ∷ 0 ∷ 6 ∷ 4 ∷ 2 ∷ 7 ∷ 7 ∷ [])
          (replicate 1024 (place 0 0 0 false) ++ (place 3 1 2 true ∷ place 3 1 2 true ∷ []))
          ((1 ∷ 0 ∷ 8 ∷ 0 ∷ 7 ∷ 0 ∷ 7 ∷ 0 ∷ 7 ∷ 0 ∷ 2 ∷ 2 ∷ 0 ∷ 6 ∷ 224 ∷ 55 ∷ 0 ∷ 32 ∷ 27 ∷ 116 ∷ []) ++ replicate 40 5)
          (0 ∷ 6 ∷ 2 ∷ 3 ∷ 5 ∷ 1 ∷ 4 ∷ 9 ∷ 9 ∷ []);
    }
    ∷
    -- union from a loop of two places, with j = 0: accepted
    record {
      limits = most;
      vertices = 6;
      list = (5 ∷ 4 ∷ 3 ∷ 3 ∷ 4 ∷ 2 ∷ 5 ∷ 3 ∷ 1 ∷ 5 ∷ 1 ∷ 2 ∷ 5 ∷ 2 ∷ 0 ∷ 2 ∷ 4 ∷ 0 ∷ 0 ∷ 4 ∷ 1 ∷ 0 ∷ 1 ∷ 3 ∷ []);
      lent = pack_lent (replicate 8 7) (replicate 1026 (place 3 1 2 true)) (replicate 60 5) (replicate 10 9);
      answer = packed 23;
      left = pack_lent (5 ∷ 4 ∷ 3 ∷ 2 ∷ 1 ∷ 0 ∷ 7 ∷ 7 ∷ [])
          (replicate 1024 (place 0 0 0 false) ++ (place 3 1 2 true ∷ place 3 1 2 true ∷ []))
          ((1 ∷ 0 ∷ 8 ∷ 0 ∷ 6 ∷ 0 ∷ 8 ∷ 0 ∷ 7 ∷ 0 ∷ 2 ∷ 2 ∷ 0 ∷ 9 ∷ 236 ∷ 49 ∷ 0 ∷ 32 ∷ 206 ∷ 2 ∷ 0 ∷ 38 ∷ 216 ∷ []) ++ replicate 37 5)
          (0 ∷ 1 ∷ 2 ∷ 3 ∷ 4 ∷ 5 ∷ 6 ∷ 7 ∷ 9 ∷ 9 ∷ []);
    }
    ∷
    -- union and split past a link: accepted
    record {
      limits = most;
      vertices = 7;
      list = (6 ∷ 5 ∷ 4 ∷ 5 ∷ 6 ∷ 2 ∷ 6 ∷ 1 ∷ 0 ∷ 2 ∷ 0 ∷ 3 ∷ 5 ∷ 2 ∷ 3 ∷ 1 ∷ 6 ∷ 4 ∷ 3 ∷ 0 ∷ 1 ∷ 1 ∷ 4 ∷ 2 ∷ 2 ∷ 4 ∷ 0 ∷ []);
      lent = pack_lent (replicate 9 7) (replicate 1026 (place 3 1 2 true)) (replicate 60 5) (replicate 11 9);
      answer = packed 24;
      left = pack_lent (6 ∷ 5 ∷ 3 ∷ 4 ∷ 2 ∷ 1 ∷ 0 ∷ 7 ∷ 7 ∷ [])
          (replicate 1024 (place 0 0 0 false) ++ (place 3 1 2 true ∷ place 3 1 2 true ∷ []))
          ((1 ∷ 0 ∷ 8 ∷ 0 ∷ 7 ∷ 0 ∷ 9 ∷ 0 ∷ 7 ∷ 0 ∷ 2 ∷ 2 ∷ 0 ∷ 10 ∷ 224 ∷ 54 ∷ 3 ∷ 112 ∷ 3 ∷ 192 ∷ 64 ∷ 38 ∷ 89 ∷ 96 ∷ [])
          ++ replicate 36 5)
          (0 ∷ 1 ∷ 4 ∷ 5 ∷ 2 ∷ 3 ∷ 8 ∷ 7 ∷ 6 ∷ 9 ∷ 9 ∷ []);
    }
    ∷
    -- union 2 of two waiting loops, in shortened loops: accepted
    record {
      limits = most;
      vertices = 8;
      list =
          (6 ∷ 2 ∷ 5 ∷ 7 ∷ 4 ∷ 0 ∷ 5 ∷ 4 ∷ 3 ∷ 3 ∷ 4 ∷ 2 ∷ 2 ∷ 7 ∷ 5 ∷ 7 ∷ 2 ∷ 4 ∷ 1 ∷ 7 ∷ 6 ∷ 4 ∷ 6 ∷ 0 ∷ 3 ∷ 6 ∷ 5 ∷ 3 ∷ 1 ∷ 6 ∷ 0 ∷ 6 ∷ 7
          ∷ []);
      lent = pack_lent (replicate 10 7) (replicate 1026 (place 3 1 2 true)) (replicate 60 5) (replicate 13 9);
      answer = packed 26;
      left = pack_lent (6 ∷ 5 ∷ 1 ∷ 4 ∷ 7 ∷ 2 ∷ 0 ∷ 3 ∷ 7 ∷ 7 ∷ [])
          (replicate 1024 (place 0 0 0 false) ++ (place 3 1 2 true ∷ place 3 1 2 true ∷ []))
          ((1 ∷ 0 ∷ 8 ∷ 0 ∷ 8 ∷ 0 ∷ 11 ∷ 0 ∷ 10 ∷ 0 ∷ 3 ∷ 2 ∷ 0 ∷ 12 ∷ 236 ∷ 48 ∷ 32 ∷ 4 ∷ 3 ∷ 128 ∷ 22 ∷ 4 ∷ 1 ∷ 166 ∷ 219 ∷ 160 ∷ [])
          ++ replicate 34 5)
          (0 ∷ 4 ∷ 8 ∷ 9 ∷ 6 ∷ 10 ∷ 7 ∷ 5 ∷ 3 ∷ 2 ∷ 1 ∷ 9 ∷ 9 ∷ []);
    }
    ∷
    -- union to c that has a place in the current loop too, before it: accepted
    record {
      limits = most;
      vertices = 8;
      list = (0 ∷ 1 ∷ 2 ∷ 1 ∷ 0 ∷ 3 ∷ 2 ∷ 4 ∷ 0 ∷ 1 ∷ 5 ∷ 6 ∷ 5 ∷ 7 ∷ 0 ∷ 4 ∷ 5 ∷ 0 ∷ 5 ∷ 1 ∷ 3 ∷ 7 ∷ 5 ∷ 2 ∷ 7 ∷ 2 ∷ 1 ∷ 4 ∷ 6 ∷ 5 ∷ []);
      lent = pack_lent (replicate 10 7) (replicate 1026 (place 3 1 2 true)) (replicate 60 5) (replicate 12 9);
      answer = packed 25;
      left = pack_lent (0 ∷ 1 ∷ 2 ∷ 3 ∷ 7 ∷ 4 ∷ 5 ∷ 6 ∷ 7 ∷ 7 ∷ [])
          (replicate 1024 (place 0 0 0 false) ++ (place 3 1 2 true ∷ place 3 1 2 true ∷ []))
          ((1 ∷ 0 ∷ 8 ∷ 0 ∷ 8 ∷ 0 ∷ 10 ∷ 0 ∷ 10 ∷ 0 ∷ 2 ∷ 2 ∷ 0 ∷ 11 ∷ 224 ∷ 6 ∷ 32 ∷ 6 ∷ 198 ∷ 2 ∷ 0 ∷ 166 ∷ 219 ∷ 45 ∷ 128 ∷ [])
          ++ replicate 35 5)
          (0 ∷ 1 ∷ 6 ∷ 3 ∷ 8 ∷ 7 ∷ 2 ∷ 5 ∷ 4 ∷ 9 ∷ 9 ∷ 9 ∷ []);
    }
    ∷
    -- split to c that has an earlier place in the loop: the first place that has c does not do: accepted
    record {
      limits = most;
      vertices = 8;
      list =
          (0 ∷ 1 ∷ 2 ∷ 3 ∷ 0 ∷ 2 ∷ 4 ∷ 3 ∷ 5 ∷ 4 ∷ 5 ∷ 0 ∷ 6 ∷ 4 ∷ 1 ∷ 5 ∷ 3 ∷ 2 ∷ 1 ∷ 3 ∷ 6 ∷ 1 ∷ 0 ∷ 5 ∷ 3 ∷ 4 ∷ 6 ∷ 1 ∷ 7 ∷ 3 ∷ 5 ∷ 7 ∷ 1
          ∷ []);
      lent = pack_lent (replicate 10 7) (replicate 1026 (place 3 1 2 true)) (replicate 60 5) (replicate 13 9);
      answer = packed 26;
      left = pack_lent (0 ∷ 1 ∷ 2 ∷ 5 ∷ 7 ∷ 3 ∷ 6 ∷ 4 ∷ 7 ∷ 7 ∷ [])
          (replicate 1024 (place 0 0 0 false) ++ (place 3 1 2 true ∷ place 3 1 2 true ∷ []))
          ((1 ∷ 0 ∷ 8 ∷ 0 ∷ 8 ∷ 0 ∷ 11 ∷ 0 ∷ 10 ∷ 0 ∷ 2 ∷ 2 ∷ 0 ∷ 12 ∷ 224 ∷ 0 ∷ 27 ∷ 128 ∷ 27 ∷ 192 ∷ 64 ∷ 56 ∷ 3 ∷ 84 ∷ 219 ∷ 96 ∷ [])
          ++ replicate 34 5)
          (0 ∷ 7 ∷ 10 ∷ 9 ∷ 6 ∷ 4 ∷ 1 ∷ 3 ∷ 2 ∷ 8 ∷ 5 ∷ 9 ∷ 9 ∷ []);
    }
    ∷
    -- split to c that has a later place in the loop: accepted
    record {
      limits = most;
      vertices = 9;
      list =
          (0 ∷ 1 ∷ 2 ∷ 0 ∷ 3 ∷ 1 ∷ 4 ∷ 5 ∷ 1 ∷ 3 ∷ 4 ∷ 1 ∷ 0 ∷ 6 ∷ 3 ∷ 0 ∷ 2 ∷ 5 ∷ 5 ∷ 7 ∷ 1 ∷ 8 ∷ 7 ∷ 6 ∷ 5 ∷ 2 ∷ 3 ∷ 3 ∷ 6 ∷ 5 ∷ 5 ∷ 6 ∷ 7
          ∷ 3 ∷ 2 ∷ 7 ∷ 7 ∷ 8 ∷ 3 ∷ []);
      lent = pack_lent (replicate 11 7) (replicate 1026 (place 3 1 2 true)) (replicate 60 5) (replicate 15 9);
      answer = packed 27;
      left = pack_lent (0 ∷ 1 ∷ 2 ∷ 3 ∷ 4 ∷ 5 ∷ 7 ∷ 6 ∷ 8 ∷ 7 ∷ 7 ∷ [])
          (replicate 1024 (place 0 0 0 false) ++ (place 3 1 2 true ∷ place 3 1 2 true ∷ []))
          ((1 ∷ 0 ∷ 8 ∷ 0 ∷ 9 ∷ 0 ∷ 13 ∷ 0 ∷ 10 ∷ 0 ∷ 2 ∷ 2 ∷ 0 ∷ 13 ∷ 224 ∷ 0 ∷ 220 ∷ 0 ∷ 240 ∷ 16 ∷ 8 ∷ 17 ∷ 0 ∷ 36 ∷ 219 ∷ 108 ∷ 182
          ∷ []) ++ replicate 33 5)
          (0 ∷ 1 ∷ 3 ∷ 2 ∷ 6 ∷ 5 ∷ 8 ∷ 9 ∷ 10 ∷ 7 ∷ 12 ∷ 11 ∷ 4 ∷ 9 ∷ 9 ∷ []);
    }
    ∷
    -- backward to c that has an earlier place in the loop: accepted
    record {
      limits = most;
      vertices = 8;
      list = (0 ∷ 1 ∷ 2 ∷ 1 ∷ 3 ∷ 2 ∷ 2 ∷ 3 ∷ 4 ∷ 1 ∷ 4 ∷ 5 ∷ 0 ∷ 2 ∷ 5 ∷ 0 ∷ 6 ∷ 1 ∷ 7 ∷ 4 ∷ 3 ∷ 1 ∷ 6 ∷ 4 ∷ 5 ∷ 4 ∷ 0 ∷ 4 ∷ 7 ∷ 0 ∷ []);
      lent = pack_lent (replicate 10 7) (replicate 1026 (place 3 1 2 true)) (replicate 60 5) (replicate 12 9);
      answer = packed 25;
      left = pack_lent (0 ∷ 1 ∷ 2 ∷ 6 ∷ 4 ∷ 5 ∷ 3 ∷ 7 ∷ 7 ∷ 7 ∷ [])
          (replicate 1024 (place 0 0 0 false) ++ (place 3 1 2 true ∷ place 3 1 2 true ∷ []))
          ((1 ∷ 0 ∷ 8 ∷ 0 ∷ 8 ∷ 0 ∷ 10 ∷ 0 ∷ 9 ∷ 0 ∷ 2 ∷ 2 ∷ 0 ∷ 11 ∷ 224 ∷ 6 ∷ 32 ∷ 6 ∷ 240 ∷ 16 ∷ 9 ∷ 6 ∷ 219 ∷ 101 ∷ 128 ∷ [])
          ++ replicate 35 5)
          (0 ∷ 5 ∷ 7 ∷ 3 ∷ 1 ∷ 2 ∷ 4 ∷ 8 ∷ 9 ∷ 6 ∷ 9 ∷ 9 ∷ []);
    }
    ∷
    -- forward to c that has a later place in the loop: accepted
    record {
      limits = most;
      vertices = 7;
      list = (0 ∷ 2 ∷ 1 ∷ 5 ∷ 2 ∷ 6 ∷ 4 ∷ 2 ∷ 0 ∷ 4 ∷ 5 ∷ 3 ∷ 6 ∷ 0 ∷ 5 ∷ 0 ∷ 3 ∷ 5 ∷ 0 ∷ 1 ∷ 3 ∷ 3 ∷ 2 ∷ 4 ∷ 1 ∷ 2 ∷ 5 ∷ []);
      lent = pack_lent (replicate 9 7) (replicate 1026 (place 3 1 2 true)) (replicate 60 5) (replicate 11 9);
      answer = packed 24;
      left = pack_lent (0 ∷ 2 ∷ 1 ∷ 4 ∷ 3 ∷ 5 ∷ 6 ∷ 7 ∷ 7 ∷ [])
          (replicate 1024 (place 0 0 0 false) ++ (place 3 1 2 true ∷ place 3 1 2 true ∷ []))
          ((1 ∷ 0 ∷ 8 ∷ 0 ∷ 7 ∷ 0 ∷ 9 ∷ 0 ∷ 9 ∷ 0 ∷ 2 ∷ 2 ∷ 0 ∷ 10 ∷ 224 ∷ 48 ∷ 224 ∷ 5 ∷ 128 ∷ 128 ∷ 97 ∷ 178 ∷ 217 ∷ 96 ∷ [])
          ++ replicate 36 5)
          (0 ∷ 2 ∷ 7 ∷ 8 ∷ 6 ∷ 5 ∷ 4 ∷ 3 ∷ 1 ∷ 9 ∷ 9 ∷ []);
    }
    ∷
    -- turning about c through more triangles than its number: accepted
    record {
      limits = most;
      vertices = 9;
      list =
          (6 ∷ 2 ∷ 4 ∷ 0 ∷ 2 ∷ 7 ∷ 6 ∷ 5 ∷ 8 ∷ 0 ∷ 8 ∷ 3 ∷ 4 ∷ 3 ∷ 6 ∷ 6 ∷ 8 ∷ 2 ∷ 1 ∷ 3 ∷ 7 ∷ 0 ∷ 6 ∷ 1 ∷ 0 ∷ 3 ∷ 2 ∷ 6 ∷ 3 ∷ 1 ∷ 7 ∷ 3 ∷ 8
          ∷ 5 ∷ 6 ∷ 7 ∷ 8 ∷ 5 ∷ 7 ∷ 1 ∷ 7 ∷ 2 ∷ 2 ∷ 8 ∷ 1 ∷ 3 ∷ 4 ∷ 2 ∷ 8 ∷ 0 ∷ 1 ∷ []);
      lent = pack_lent (replicate 11 7) (replicate 1026 (place 3 1 2 true)) (replicate 60 5) (replicate 19 9);
      answer = packed 28;
      left = pack_lent (6 ∷ 4 ∷ 1 ∷ 7 ∷ 2 ∷ 8 ∷ 0 ∷ 5 ∷ 3 ∷ 7 ∷ 7 ∷ [])
          (replicate 1024 (place 0 0 0 false) ++ (place 3 1 2 true ∷ place 3 1 2 true ∷ []))
          ((1 ∷ 0 ∷ 8 ∷ 0 ∷ 9 ∷ 0 ∷ 17 ∷ 0 ∷ 10 ∷ 0 ∷ 2 ∷ 2 ∷ 0 ∷ 14 ∷ 224 ∷ 0 ∷ 9 ∷ 128 ∷ 22 ∷ 2 ∷ 1 ∷ 177 ∷ 0 ∷ 84 ∷ 220 ∷ 0 ∷ 234 ∷ 160
          ∷ []) ++ replicate 32 5)
          (0 ∷ 5 ∷ 14 ∷ 13 ∷ 1 ∷ 8 ∷ 15 ∷ 4 ∷ 9 ∷ 7 ∷ 2 ∷ 12 ∷ 11 ∷ 10 ∷ 6 ∷ 3 ∷ 16 ∷ 9 ∷ 9 ∷ []);
    }
    ∷
    -- the last place of a loop has the vertex that is looked for, and its edge leads to another: accepted
    record {
      limits = most;
      vertices = 9;
      list =
          (0 ∷ 4 ∷ 2 ∷ 3 ∷ 4 ∷ 6 ∷ 6 ∷ 5 ∷ 8 ∷ 7 ∷ 1 ∷ 2 ∷ 8 ∷ 5 ∷ 7 ∷ 4 ∷ 3 ∷ 7 ∷ 8 ∷ 2 ∷ 6 ∷ 0 ∷ 5 ∷ 4 ∷ 3 ∷ 6 ∷ 1 ∷ 5 ∷ 0 ∷ 1 ∷ 2 ∷ 1 ∷ 6
          ∷ 0 ∷ 3 ∷ 1 ∷ 7 ∷ 3 ∷ 8 ∷ 3 ∷ 0 ∷ 8 ∷ 6 ∷ 4 ∷ 5 ∷ 5 ∷ 1 ∷ 7 ∷ 0 ∷ 2 ∷ 8 ∷ []);
      lent = pack_lent (replicate 11 7) (replicate 1026 (place 3 1 2 true)) (replicate 60 5) (replicate 19 9);
      answer = packed 28;
      left = pack_lent (0 ∷ 8 ∷ 2 ∷ 5 ∷ 1 ∷ 3 ∷ 4 ∷ 6 ∷ 7 ∷ 7 ∷ 7 ∷ [])
          (replicate 1024 (place 0 0 0 false) ++ (place 3 1 2 true ∷ place 3 1 2 true ∷ []))
          ((1 ∷ 0 ∷ 8 ∷ 0 ∷ 9 ∷ 0 ∷ 17 ∷ 0 ∷ 10 ∷ 0 ∷ 2 ∷ 2 ∷ 0 ∷ 14 ∷ 224 ∷ 0 ∷ 216 ∷ 128 ∷ 24 ∷ 56 ∷ 8 ∷ 5 ∷ 0 ∷ 106 ∷ 84 ∷ 0 ∷ 169 ∷ 96
          ∷ []) ++ replicate 32 5)
          (0 ∷ 7 ∷ 14 ∷ 1 ∷ 5 ∷ 16 ∷ 13 ∷ 11 ∷ 9 ∷ 15 ∷ 4 ∷ 12 ∷ 2 ∷ 6 ∷ 10 ∷ 8 ∷ 3 ∷ 9 ∷ 9 ∷ []);
    }
    ∷
    -- turning about c through more triangles than the loop has places: accepted
    record {
      limits = most;
      vertices = 17;
      list =
          (0 ∷ 1 ∷ 2 ∷ 1 ∷ 0 ∷ 3 ∷ 1 ∷ 3 ∷ 2 ∷ 2 ∷ 3 ∷ 4 ∷ 2 ∷ 4 ∷ 5 ∷ 0 ∷ 2 ∷ 6 ∷ 0 ∷ 6 ∷ 4 ∷ 0 ∷ 4 ∷ 7 ∷ 0 ∷ 7 ∷ 8 ∷ 0 ∷ 8 ∷ 9 ∷ 7 ∷ 4 ∷ 9
          ∷ 7 ∷ 9 ∷ 10 ∷ 9 ∷ 8 ∷ 10 ∷ 9 ∷ 4 ∷ 11 ∷ 4 ∷ 6 ∷ 12 ∷ 4 ∷ 12 ∷ 13 ∷ 4 ∷ 13 ∷ 14 ∷ 4 ∷ 14 ∷ 15 ∷ 4 ∷ 15 ∷ 16 ∷ 4 ∷ 16 ∷ 5 ∷ 12 ∷ 6
          ∷ 13 ∷ 13 ∷ 6 ∷ 14 ∷ 15 ∷ 14 ∷ 16 ∷ []);
      lent = pack_lent (replicate 19 7) (replicate 1026 (place 3 1 2 true)) (replicate 60 5) (replicate 25 9);
      answer = packed 30;
      left = pack_lent (0 ∷ 1 ∷ 2 ∷ 3 ∷ 4 ∷ 5 ∷ 6 ∷ 7 ∷ 8 ∷ 9 ∷ 11 ∷ 10 ∷ 12 ∷ 13 ∷ 14 ∷ 15 ∷ 16 ∷ 7 ∷ 7 ∷ [])
          (replicate 1024 (place 0 0 0 false) ++ (place 3 1 2 true ∷ place 3 1 2 true ∷ []))
          ((1 ∷ 0 ∷ 8 ∷ 0 ∷ 17 ∷ 0 ∷ 23 ∷ 0 ∷ 10 ∷ 0 ∷ 3 ∷ 2 ∷ 0 ∷ 16 ∷ 224 ∷ 128 ∷ 196 ∷ 0 ∷ 128 ∷ 13 ∷ 184 ∷ 1 ∷ 6 ∷ 195 ∷ 101 ∷ 128 ∷ 0
          ∷ 45 ∷ 146 ∷ 203 ∷ []) ++ replicate 30 5)
          (0 ∷ 1 ∷ 2 ∷ 3 ∷ 4 ∷ 5 ∷ 6 ∷ 7 ∷ 8 ∷ 9 ∷ 10 ∷ 13 ∷ 11 ∷ 12 ∷ 14 ∷ 15 ∷ 16 ∷ 17 ∷ 18 ∷ 19 ∷ 20 ∷ 21 ∷ 22 ∷ 9 ∷ 9 ∷ []);
    }
    ∷
    -- two pieces listed in turn: the order is 0 2 1 3: accepted
    record {
      limits = most;
      vertices = 8;
      list = (0 ∷ 1 ∷ 2 ∷ 3 ∷ 4 ∷ 5 ∷ 1 ∷ 0 ∷ 6 ∷ 4 ∷ 3 ∷ 7 ∷ []);
      lent = pack_lent (replicate 10 7) (replicate 1026 (place 3 1 2 true)) (replicate 60 5) (9 ∷ 9 ∷ 9 ∷ 9 ∷ 9 ∷ 9 ∷ []);
      answer = packed 19;
      left = pack_lent (0 ∷ 1 ∷ 2 ∷ 4 ∷ 5 ∷ 6 ∷ 3 ∷ 7 ∷ 7 ∷ 7 ∷ [])
          (replicate 1024 (place 0 0 0 false) ++ (place 3 1 2 true ∷ place 3 1 2 true ∷ []))
          ((1 ∷ 0 ∷ 8 ∷ 0 ∷ 8 ∷ 0 ∷ 4 ∷ 0 ∷ 4 ∷ 0 ∷ 1 ∷ 2 ∷ 0 ∷ 5 ∷ 225 ∷ 182 ∷ 248 ∷ 109 ∷ 176 ∷ []) ++ replicate 41 5)
          (0 ∷ 2 ∷ 1 ∷ 3 ∷ 9 ∷ 9 ∷ []);
    }
    ∷
    -- union from a loop with a link; the peak of places is reached by it: accepted
    record {
      limits = most;
      vertices = 7;
      list = (0 ∷ 1 ∷ 2 ∷ 3 ∷ 1 ∷ 4 ∷ 1 ∷ 5 ∷ 6 ∷ 5 ∷ 1 ∷ 3 ∷ 5 ∷ 0 ∷ 2 ∷ 4 ∷ 5 ∷ 2 ∷ 1 ∷ 0 ∷ 4 ∷ 6 ∷ 5 ∷ 4 ∷ 0 ∷ 6 ∷ 4 ∷ []);
      lent = pack_lent (replicate 9 7) (replicate 1026 (place 3 1 2 true)) (replicate 60 5) (replicate 11 9);
      answer = packed 24;
      left = pack_lent (0 ∷ 1 ∷ 2 ∷ 4 ∷ 3 ∷ 5 ∷ 6 ∷ 7 ∷ 7 ∷ [])
          (replicate 1024 (place 0 0 0 false) ++ (place 3 1 2 true ∷ place 3 1 2 true ∷ []))
          ((1 ∷ 0 ∷ 8 ∷ 0 ∷ 7 ∷ 0 ∷ 9 ∷ 0 ∷ 8 ∷ 0 ∷ 2 ∷ 2 ∷ 0 ∷ 10 ∷ 224 ∷ 0 ∷ 220 ∷ 0 ∷ 240 ∷ 16 ∷ 8 ∷ 166 ∷ 219 ∷ 96 ∷ [])
          ++ replicate 36 5)
          (0 ∷ 6 ∷ 1 ∷ 3 ∷ 2 ∷ 4 ∷ 5 ∷ 7 ∷ 8 ∷ 9 ∷ 9 ∷ []);
    }
    ∷
    -- 1: four numbers: refusal 1
    record {
      limits = most;
      vertices = 4;
      list = (0 ∷ 1 ∷ 2 ∷ 3 ∷ []);
      lent = pack_lent (7 ∷ 7 ∷ 7 ∷ 7 ∷ 7 ∷ 7 ∷ []) (replicate 1026 (place 3 1 2 true)) (replicate 60 5) (9 ∷ 9 ∷ 9 ∷ []);
      answer = refusal 1;
      left = pack_lent (7 ∷ 7 ∷ 7 ∷ 7 ∷ 7 ∷ 7 ∷ []) (replicate 1026 (place 3 1 2 true)) (replicate 60 5) (9 ∷ 9 ∷ 9 ∷ []);
    }
    ∷
    -- 1 before 2: refusal 1
    record {
      limits = most;
      vertices = 2;
      list = [];
      lent = pack_lent (7 ∷ 7 ∷ 7 ∷ 7 ∷ []) (replicate 1026 (place 3 1 2 true)) (replicate 60 5) (9 ∷ 9 ∷ []);
      answer = refusal 1;
      left = pack_lent (7 ∷ 7 ∷ 7 ∷ 7 ∷ []) (replicate 1026 (place 3 1 2 true)) (replicate 60 5) (9 ∷ 9 ∷ []);
    }
    ∷
    -- 2: V 2: refusal 2
    record {
      limits = most;
      vertices = 2;
      list = (0 ∷ 1 ∷ 0 ∷ []);
      lent = pack_lent (7 ∷ 7 ∷ 7 ∷ 7 ∷ []) (replicate 1026 (place 3 1 2 true)) (replicate 60 5) (9 ∷ 9 ∷ 9 ∷ []);
      answer = refusal 2;
      left = pack_lent (7 ∷ 7 ∷ 7 ∷ 7 ∷ []) (replicate 1026 (place 3 1 2 true)) (replicate 60 5) (9 ∷ 9 ∷ 9 ∷ []);
    }
    ∷
    -- 2: V 4,097: refusal 2
    record {
      limits = most;
      vertices = 4097;
      list = (0 ∷ 1 ∷ 2 ∷ []);
      lent = pack_lent (replicate 4099 7) (replicate 1026 (place 3 1 2 true)) (replicate 60 5) (9 ∷ 9 ∷ 9 ∷ []);
      answer = refusal 2;
      left = pack_lent (replicate 4099 7) (replicate 1026 (place 3 1 2 true)) (replicate 60 5) (9 ∷ 9 ∷ 9 ∷ []);
    }
    ∷
    -- V 4,096: refusal 6
    record {
      limits = most;
      vertices = 4096;
      list = (0 ∷ 1 ∷ 2 ∷ []);
      lent = pack_lent (replicate 4098 7) (replicate 1026 (place 3 1 2 true)) (replicate 60 5) (9 ∷ 9 ∷ 9 ∷ []);
      answer = refusal 6;
      left = pack_lent (replicate 4098 7) (replicate 1026 (place 3 1 2 true)) (replicate 60 5) (9 ∷ 9 ∷ 9 ∷ []);
    }
    ∷
    -- 2 before 3: refusal 2
    record {
      limits = most;
      vertices = 2;
      list = (0 ∷ 1 ∷ 2 ∷ []);
      lent = pack_lent (7 ∷ 7 ∷ 7 ∷ 7 ∷ []) (replicate 1026 (place 3 1 2 true)) (replicate 60 5) (9 ∷ 9 ∷ 9 ∷ []);
      answer = refusal 2;
      left = pack_lent (7 ∷ 7 ∷ 7 ∷ 7 ∷ []) (replicate 1026 (place 3 1 2 true)) (replicate 60 5) (9 ∷ 9 ∷ 9 ∷ []);
    }
    ∷
    -- 3: a number is V: refusal 3
    record {
      limits = most;
      vertices = 3;
      list = (0 ∷ 1 ∷ 3 ∷ []);
      lent = pack_lent (7 ∷ 7 ∷ 7 ∷ 7 ∷ 7 ∷ []) (replicate 1026 (place 3 1 2 true)) (replicate 60 5) (9 ∷ 9 ∷ 9 ∷ []);
      answer = refusal 3;
      left = pack_lent (7 ∷ 7 ∷ 7 ∷ 7 ∷ 7 ∷ []) (replicate 1026 (place 3 1 2 true)) (replicate 60 5) (9 ∷ 9 ∷ 9 ∷ []);
    }
    ∷
    -- 3 before 4: refusal 3
    record {
      limits = most;
      vertices = 3;
      list = (0 ∷ 3 ∷ 3 ∷ []);
      lent = pack_lent (7 ∷ 7 ∷ 7 ∷ 7 ∷ 7 ∷ []) (replicate 1026 (place 3 1 2 true)) (replicate 60 5) (9 ∷ 9 ∷ 9 ∷ []);
      answer = refusal 3;
      left = pack_lent (7 ∷ 7 ∷ 7 ∷ 7 ∷ 7 ∷ []) (replicate 1026 (place 3 1 2 true)) (replicate 60 5) (9 ∷ 9 ∷ 9 ∷ []);
    }
    ∷
    -- 4: first and second corner: refusal 4
    record {
      limits = most;
      vertices = 3;
      list = (0 ∷ 0 ∷ 1 ∷ 0 ∷ 1 ∷ 2 ∷ []);
      lent = pack_lent (7 ∷ 7 ∷ 7 ∷ 7 ∷ 7 ∷ []) (replicate 1026 (place 3 1 2 true)) (replicate 60 5) (9 ∷ 9 ∷ 9 ∷ 9 ∷ []);
      answer = refusal 4;
      left = pack_lent (7 ∷ 7 ∷ 7 ∷ 7 ∷ 7 ∷ []) (replicate 1026 (place 3 1 2 true)) (replicate 60 5) (9 ∷ 9 ∷ 9 ∷ 9 ∷ []);
    }
    ∷
    -- 4: second and third corner: refusal 4
    record {
      limits = most;
      vertices = 3;
      list = (0 ∷ 1 ∷ 2 ∷ 0 ∷ 1 ∷ 1 ∷ []);
      lent = pack_lent (7 ∷ 7 ∷ 7 ∷ 7 ∷ 7 ∷ []) (replicate 1026 (place 3 1 2 true)) (replicate 60 5) (9 ∷ 9 ∷ 9 ∷ 9 ∷ []);
      answer = refusal 4;
      left = pack_lent (7 ∷ 7 ∷ 7 ∷ 7 ∷ 7 ∷ []) (replicate 1026 (place 3 1 2 true)) (replicate 60 5) (9 ∷ 9 ∷ 9 ∷ 9 ∷ []);
    }
    ∷
    -- 4: third and first corner: refusal 4
    record {
      limits = most;
      vertices = 3;
      list = (0 ∷ 1 ∷ 2 ∷ 2 ∷ 0 ∷ 2 ∷ []);
      lent = pack_lent (7 ∷ 7 ∷ 7 ∷ 7 ∷ 7 ∷ []) (replicate 1026 (place 3 1 2 true)) (replicate 60 5) (9 ∷ 9 ∷ 9 ∷ 9 ∷ []);
      answer = refusal 4;
      left = pack_lent (7 ∷ 7 ∷ 7 ∷ 7 ∷ 7 ∷ []) (replicate 1026 (place 3 1 2 true)) (replicate 60 5) (9 ∷ 9 ∷ 9 ∷ 9 ∷ []);
    }
    ∷
    -- 4 before 5: refusal 4
    record {
      limits = most;
      vertices = 4;
      list = (0 ∷ 1 ∷ 2 ∷ 0 ∷ 1 ∷ 3 ∷ 3 ∷ 3 ∷ 0 ∷ []);
      lent = pack_lent (7 ∷ 7 ∷ 7 ∷ 7 ∷ 7 ∷ 7 ∷ []) (replicate 1026 (place 3 1 2 true)) (replicate 60 5) (9 ∷ 9 ∷ 9 ∷ 9 ∷ 9 ∷ []);
      answer = refusal 4;
      left = pack_lent (7 ∷ 7 ∷ 7 ∷ 7 ∷ 7 ∷ 7 ∷ []) (replicate 1026 (place 3 1 2 true)) (replicate 60 5) (9 ∷ 9 ∷ 9 ∷ 9 ∷ 9 ∷ []);
    }
    ∷
    -- 5: second edges: refusal 5
    record {
      limits = most;
      vertices = 5;
      list = (0 ∷ 1 ∷ 2 ∷ 3 ∷ 1 ∷ 2 ∷ 0 ∷ 4 ∷ 3 ∷ []);
      lent = pack_lent (7 ∷ 7 ∷ 7 ∷ 7 ∷ 7 ∷ 7 ∷ 7 ∷ []) (replicate 1026 (place 3 1 2 true)) (replicate 60 5) (9 ∷ 9 ∷ 9 ∷ 9 ∷ 9 ∷ []);
      answer = refusal 5;
      left = pack_lent (7 ∷ 7 ∷ 7 ∷ 7 ∷ 7 ∷ 7 ∷ 7 ∷ []) (replicate 1026 (place 3 1 2 true)) (replicate 60 5) (9 ∷ 9 ∷ 9 ∷ 9 ∷ 9 ∷ []);
    }
    ∷
    -- 5: a first and a third edge: refusal 5
    record {
      limits = most;
      vertices = 4;
      list = (0 ∷ 1 ∷ 2 ∷ 1 ∷ 3 ∷ 0 ∷ 2 ∷ 3 ∷ 1 ∷ []);
      lent = pack_lent (7 ∷ 7 ∷ 7 ∷ 7 ∷ 7 ∷ 7 ∷ []) (replicate 1026 (place 3 1 2 true)) (replicate 60 5) (9 ∷ 9 ∷ 9 ∷ 9 ∷ 9 ∷ []);
      answer = refusal 5;
      left = pack_lent (7 ∷ 7 ∷ 7 ∷ 7 ∷ 7 ∷ 7 ∷ []) (replicate 1026 (place 3 1 2 true)) (replicate 60 5) (9 ∷ 9 ∷ 9 ∷ 9 ∷ 9 ∷ []);
    }
    ∷
    -- 5 before 6: refusal 5
    record {
      limits = most;
      vertices = 5;
      list = (0 ∷ 1 ∷ 2 ∷ 0 ∷ 1 ∷ 3 ∷ []);
      lent = pack_lent (7 ∷ 7 ∷ 7 ∷ 7 ∷ 7 ∷ 7 ∷ 7 ∷ []) (replicate 1026 (place 3 1 2 true)) (replicate 60 5) (9 ∷ 9 ∷ 9 ∷ 9 ∷ []);
      answer = refusal 5;
      left = pack_lent (7 ∷ 7 ∷ 7 ∷ 7 ∷ 7 ∷ 7 ∷ 7 ∷ []) (replicate 1026 (place 3 1 2 true)) (replicate 60 5) (9 ∷ 9 ∷ 9 ∷ 9 ∷ []);
    }
    ∷
    -- 6 before 7: refusal 6
    record {
      limits = most;
      vertices = 6;
      list = (0 ∷ 1 ∷ 2 ∷ 0 ∷ 3 ∷ 4 ∷ []);
      lent = pack_lent (replicate 8 7) (replicate 1026 (place 3 1 2 true)) (replicate 60 5) (9 ∷ 9 ∷ 9 ∷ 9 ∷ []);
      answer = refusal 6;
      left = pack_lent (replicate 8 7) (replicate 1026 (place 3 1 2 true)) (replicate 60 5) (9 ∷ 9 ∷ 9 ∷ 9 ∷ []);
    }
    ∷
    -- 6: vertex 0: refusal 6
    record {
      limits = most;
      vertices = 4;
      list = (1 ∷ 2 ∷ 3 ∷ []);
      lent = pack_lent (7 ∷ 7 ∷ 7 ∷ 7 ∷ 7 ∷ 7 ∷ []) (replicate 1026 (place 3 1 2 true)) (replicate 60 5) (9 ∷ 9 ∷ 9 ∷ []);
      answer = refusal 6;
      left = pack_lent (7 ∷ 7 ∷ 7 ∷ 7 ∷ 7 ∷ 7 ∷ []) (replicate 1026 (place 3 1 2 true)) (replicate 60 5) (9 ∷ 9 ∷ 9 ∷ []);
    }
    ∷
    -- 7: a closed fan and an open one: refusal 7
    record {
      limits = most;
      vertices = 6;
      list = (0 ∷ 1 ∷ 2 ∷ 0 ∷ 2 ∷ 3 ∷ 0 ∷ 3 ∷ 1 ∷ 0 ∷ 4 ∷ 5 ∷ []);
      lent = pack_lent (replicate 8 7) (replicate 1026 (place 3 1 2 true)) (replicate 60 5) (9 ∷ 9 ∷ 9 ∷ 9 ∷ 9 ∷ 9 ∷ []);
      answer = refusal 7;
      left = pack_lent (replicate 8 7) (replicate 1026 (place 3 1 2 true)) (replicate 60 5) (9 ∷ 9 ∷ 9 ∷ 9 ∷ 9 ∷ 9 ∷ []);
    }
    ∷
    -- 7: two closed fans: refusal 7
    record {
      limits = most;
      vertices = 7;
      list = (0 ∷ 1 ∷ 2 ∷ 0 ∷ 2 ∷ 3 ∷ 0 ∷ 3 ∷ 1 ∷ 0 ∷ 4 ∷ 5 ∷ 0 ∷ 5 ∷ 6 ∷ 0 ∷ 6 ∷ 4 ∷ []);
      lent = pack_lent (replicate 9 7) (replicate 1026 (place 3 1 2 true)) (replicate 60 5) (replicate 8 9);
      answer = refusal 7;
      left = pack_lent (replicate 9 7) (replicate 1026 (place 3 1 2 true)) (replicate 60 5) (replicate 8 9);
    }
    ∷
    -- 7: vertex 1: refusal 7
    record {
      limits = most;
      vertices = 5;
      list = (1 ∷ 0 ∷ 2 ∷ 1 ∷ 3 ∷ 4 ∷ []);
      lent = pack_lent (7 ∷ 7 ∷ 7 ∷ 7 ∷ 7 ∷ 7 ∷ 7 ∷ []) (replicate 1026 (place 3 1 2 true)) (replicate 60 5) (9 ∷ 9 ∷ 9 ∷ 9 ∷ []);
      answer = refusal 7;
      left = pack_lent (7 ∷ 7 ∷ 7 ∷ 7 ∷ 7 ∷ 7 ∷ 7 ∷ []) (replicate 1026 (place 3 1 2 true)) (replicate 60 5) (9 ∷ 9 ∷ 9 ∷ 9 ∷ []);
    }
    ∷
    -- 7: the last vertex: refusal 7
    record {
      limits = most;
      vertices = 5;
      list = (4 ∷ 0 ∷ 1 ∷ 4 ∷ 2 ∷ 3 ∷ []);
      lent = pack_lent (7 ∷ 7 ∷ 7 ∷ 7 ∷ 7 ∷ 7 ∷ 7 ∷ []) (replicate 1026 (place 3 1 2 true)) (replicate 60 5) (9 ∷ 9 ∷ 9 ∷ 9 ∷ []);
      answer = refusal 7;
      left = pack_lent (7 ∷ 7 ∷ 7 ∷ 7 ∷ 7 ∷ 7 ∷ 7 ∷ []) (replicate 1026 (place 3 1 2 true)) (replicate 60 5) (9 ∷ 9 ∷ 9 ∷ 9 ∷ []);
    }
    ∷
    -- one fan, listed from its middle: accepted
    record {
      limits = most;
      vertices = 5;
      list = (0 ∷ 2 ∷ 3 ∷ 0 ∷ 1 ∷ 2 ∷ 0 ∷ 3 ∷ 4 ∷ []);
      lent = pack_lent (7 ∷ 7 ∷ 7 ∷ 7 ∷ 7 ∷ 7 ∷ 7 ∷ []) (replicate 1026 (place 3 1 2 true)) (replicate 60 5) (9 ∷ 9 ∷ 9 ∷ 9 ∷ 9 ∷ []);
      answer = packed 17;
      left = pack_lent (0 ∷ 3 ∷ 1 ∷ 2 ∷ 4 ∷ 7 ∷ 7 ∷ []) (replicate 1024 (place 0 0 0 false) ++ (place 3 1 2 true ∷ place 3 1 2 true ∷ []))
          ((1 ∷ 0 ∷ 8 ∷ 0 ∷ 5 ∷ 0 ∷ 3 ∷ 0 ∷ 4 ∷ 0 ∷ 1 ∷ 2 ∷ 0 ∷ 3 ∷ 225 ∷ 176 ∷ 219 ∷ []) ++ replicate 43 5) (0 ∷ 1 ∷ 2 ∷ 9 ∷ 9 ∷ []);
    }
    ∷
    -- 24,576 numbers: refusal 4
    record {
      limits = most;
      vertices = 3;
      list = (replicate 24576 0);
      lent = pack_lent (7 ∷ 7 ∷ 7 ∷ 7 ∷ 7 ∷ []) (replicate 1026 (place 3 1 2 true)) (replicate 60 5) (replicate 8194 9);
      answer = refusal 4;
      left = pack_lent (7 ∷ 7 ∷ 7 ∷ 7 ∷ 7 ∷ []) (replicate 1026 (place 3 1 2 true)) (replicate 60 5) (replicate 8194 9);
    }
    ∷
    -- 1: 24,579 numbers: refusal 1
    record {
      limits = most;
      vertices = 3;
      list = (replicate 24579 0);
      lent = pack_lent (7 ∷ 7 ∷ 7 ∷ 7 ∷ 7 ∷ []) (replicate 1026 (place 3 1 2 true)) (replicate 60 5) (replicate 8195 9);
      answer = refusal 1;
      left = pack_lent (7 ∷ 7 ∷ 7 ∷ 7 ∷ 7 ∷ []) (replicate 1026 (place 3 1 2 true)) (replicate 60 5) (replicate 8195 9);
    }
    ∷
    -- 7 before 8: refusal 7
    record {
      limits = most;
      vertices = 5;
      list = (0 ∷ 1 ∷ 2 ∷ 0 ∷ 3 ∷ 4 ∷ []);
      lent = pack_lent [] (replicate 1026 (place 3 1 2 true)) (replicate 60 5) (9 ∷ 9 ∷ 9 ∷ 9 ∷ []);
      answer = refusal 7;
      left = pack_lent [] (replicate 1026 (place 3 1 2 true)) (replicate 60 5) (9 ∷ 9 ∷ 9 ∷ 9 ∷ []);
    }
    ∷
    -- 8: numbering: refusal 8
    record {
      limits = most;
      vertices = 3;
      list = (0 ∷ 1 ∷ 2 ∷ []);
      lent = pack_lent (7 ∷ 7 ∷ []) (replicate 1026 (place 3 1 2 true)) (replicate 60 5) (9 ∷ 9 ∷ 9 ∷ []);
      answer = refusal 8;
      left = pack_lent (7 ∷ 7 ∷ []) (replicate 1026 (place 3 1 2 true)) (replicate 60 5) (9 ∷ 9 ∷ 9 ∷ []);
    }
    ∷
    -- 8: places: refusal 8
    record {
      limits = most;
      vertices = 3;
      list = (0 ∷ 1 ∷ 2 ∷ []);
      lent = pack_lent (7 ∷ 7 ∷ 7 ∷ 7 ∷ 7 ∷ []) (replicate 1023 (place 3 1 2 true)) (replicate 60 5) (9 ∷ 9 ∷ 9 ∷ []);
      answer = refusal 8;
      left = pack_lent (7 ∷ 7 ∷ 7 ∷ 7 ∷ 7 ∷ []) (replicate 1023 (place 3 1 2 true)) (replicate 60 5) (9 ∷ 9 ∷ 9 ∷ []);
    }
    ∷
    -- 8 before 9: refusal 8
    record {
      limits = record { places = 3; loops = 1 };
      vertices = 4;
      list = (0 ∷ 1 ∷ 2 ∷ 1 ∷ 0 ∷ 3 ∷ []);
      lent = pack_lent [] (replicate 1026 (place 3 1 2 true)) (replicate 60 5) (9 ∷ 9 ∷ 9 ∷ 9 ∷ []);
      answer = refusal 8;
      left = pack_lent [] (replicate 1026 (place 3 1 2 true)) (replicate 60 5) (9 ∷ 9 ∷ 9 ∷ 9 ∷ []);
    }
    ∷
    -- buffers just long enough: accepted
    record {
      limits = most;
      vertices = 3;
      list = (0 ∷ 1 ∷ 2 ∷ []);
      lent = pack_lent (7 ∷ 7 ∷ 7 ∷ []) (replicate 1024 (place 3 1 2 true)) (replicate 16 5) (9 ∷ []);
      answer = packed 16;
      left = pack_lent (0 ∷ 1 ∷ 2 ∷ []) (replicate 1024 (place 0 0 0 false))
          (1 ∷ 0 ∷ 8 ∷ 0 ∷ 3 ∷ 0 ∷ 1 ∷ 0 ∷ 3 ∷ 0 ∷ 1 ∷ 2 ∷ 0 ∷ 2 ∷ 237 ∷ 176 ∷ []) (0 ∷ []);
    }
    ∷
    -- 22: no order entry: refusal 22
    record {
      limits = most;
      vertices = 3;
      list = (0 ∷ 1 ∷ 2 ∷ []);
      lent = pack_lent (7 ∷ 7 ∷ 7 ∷ 7 ∷ 7 ∷ []) (replicate 1026 (place 3 1 2 true)) (replicate 60 5) [];
      answer = refusal 22;
      left = pack_lent (7 ∷ 7 ∷ 7 ∷ 7 ∷ 7 ∷ []) (replicate 1026 (place 3 1 2 true)) (replicate 60 5) [];
    }
    ∷
    -- 22: an order entry for each triangle but one: refusal 22
    record {
      limits = most;
      vertices = 4;
      list = (0 ∷ 1 ∷ 2 ∷ 1 ∷ 0 ∷ 3 ∷ []);
      lent = pack_lent (7 ∷ 7 ∷ 7 ∷ 7 ∷ 7 ∷ 7 ∷ []) (replicate 1026 (place 3 1 2 true)) (replicate 60 5) (9 ∷ []);
      answer = refusal 22;
      left = pack_lent (7 ∷ 7 ∷ 7 ∷ 7 ∷ 7 ∷ 7 ∷ []) (replicate 1026 (place 3 1 2 true)) (replicate 60 5) (9 ∷ []);
    }
    ∷
    -- 8 before 22: numbering: refusal 8
    record {
      limits = most;
      vertices = 3;
      list = (0 ∷ 1 ∷ 2 ∷ []);
      lent = pack_lent (7 ∷ 7 ∷ []) (replicate 1026 (place 3 1 2 true)) (replicate 60 5) [];
      answer = refusal 8;
      left = pack_lent (7 ∷ 7 ∷ []) (replicate 1026 (place 3 1 2 true)) (replicate 60 5) [];
    }
    ∷
    -- 8 before 22: places: refusal 8
    record {
      limits = most;
      vertices = 3;
      list = (0 ∷ 1 ∷ 2 ∷ []);
      lent = pack_lent (7 ∷ 7 ∷ 7 ∷ 7 ∷ 7 ∷ []) (replicate 1023 (place 3 1 2 true)) (replicate 60 5) [];
      answer = refusal 8;
      left = pack_lent (7 ∷ 7 ∷ 7 ∷ 7 ∷ 7 ∷ []) (replicate 1023 (place 3 1 2 true)) (replicate 60 5) [];
    }
    ∷
    -- 7 before 22: refusal 7
    record {
      limits = most;
      vertices = 5;
      list = (0 ∷ 1 ∷ 2 ∷ 0 ∷ 3 ∷ 4 ∷ []);
      lent = pack_lent (7 ∷ 7 ∷ 7 ∷ 7 ∷ 7 ∷ 7 ∷ 7 ∷ []) (replicate 1026 (place 3 1 2 true)) (replicate 60 5) [];
      answer = refusal 7;
      left = pack_lent (7 ∷ 7 ∷ 7 ∷ 7 ∷ 7 ∷ 7 ∷ 7 ∷ []) (replicate 1026 (place 3 1 2 true)) (replicate 60 5) [];
    }
    ∷
    -- 22 before 9: refusal 22
    record {
      limits = record { places = 3; loops = 1 };
      vertices = 4;
      list = (0 ∷ 1 ∷ 2 ∷ 1 ∷ 0 ∷ 3 ∷ []);
      lent = pack_lent (7 ∷ 7 ∷ 7 ∷ 7 ∷ 7 ∷ 7 ∷ []) (replicate 1026 (place 3 1 2 true)) (replicate 60 5) (9 ∷ []);
      answer = refusal 22;
      left = pack_lent (7 ∷ 7 ∷ 7 ∷ 7 ∷ 7 ∷ 7 ∷ []) (replicate 1026 (place 3 1 2 true)) (replicate 60 5) (9 ∷ []);
    }
    ∷
    -- 22 before 10: refusal 22
    record {
      limits = record { places = 1024; loops = 1 };
      vertices = 6;
      list = (1 ∷ 3 ∷ 2 ∷ 2 ∷ 4 ∷ 5 ∷ 2 ∷ 3 ∷ 4 ∷ 1 ∷ 0 ∷ 3 ∷ 2 ∷ 5 ∷ 0 ∷ 0 ∷ 1 ∷ 2 ∷ []);
      lent = pack_lent (replicate 8 7) (replicate 1026 (place 3 1 2 true)) (replicate 60 5) (9 ∷ 9 ∷ 9 ∷ 9 ∷ 9 ∷ []);
      answer = refusal 22;
      left = pack_lent (replicate 8 7) (replicate 1026 (place 3 1 2 true)) (replicate 60 5) (9 ∷ 9 ∷ 9 ∷ 9 ∷ 9 ∷ []);
    }
    ∷
    -- 22 before 11: refusal 22
    record {
      limits = most;
      vertices = 3;
      list = (0 ∷ 1 ∷ 2 ∷ []);
      lent = pack_lent (7 ∷ 7 ∷ 7 ∷ 7 ∷ 7 ∷ []) (replicate 1026 (place 3 1 2 true)) (replicate 15 5) [];
      answer = refusal 22;
      left = pack_lent (7 ∷ 7 ∷ 7 ∷ 7 ∷ 7 ∷ []) (replicate 1026 (place 3 1 2 true)) (replicate 15 5) [];
    }
    ∷
    -- 9: refusal 9
    record {
      limits = record { places = 3; loops = 1 };
      vertices = 4;
      list = (0 ∷ 1 ∷ 2 ∷ 1 ∷ 0 ∷ 3 ∷ []);
      lent = pack_lent (7 ∷ 7 ∷ 7 ∷ 7 ∷ 7 ∷ 7 ∷ []) (replicate 1026 (place 3 1 2 true)) (replicate 60 5) (9 ∷ 9 ∷ 9 ∷ 9 ∷ []);
      answer = refusal 9;
      left = pack_lent (0 ∷ 0 ∷ 0 ∷ 0 ∷ 7 ∷ 7 ∷ []) (replicate 1024 (place 0 0 0 false) ++ (place 3 1 2 true ∷ place 3 1 2 true ∷ []))
          (replicate 60 0) (0 ∷ 0 ∷ 9 ∷ 9 ∷ []);
    }
    ∷
    -- 10: refusal 10
    record {
      limits = record { places = 1024; loops = 1 };
      vertices = 6;
      list = (1 ∷ 3 ∷ 2 ∷ 2 ∷ 4 ∷ 5 ∷ 2 ∷ 3 ∷ 4 ∷ 1 ∷ 0 ∷ 3 ∷ 2 ∷ 5 ∷ 0 ∷ 0 ∷ 1 ∷ 2 ∷ []);
      lent = pack_lent (replicate 8 7) (replicate 1026 (place 3 1 2 true)) (replicate 60 5) (replicate 8 9);
      answer = refusal 10;
      left = pack_lent (0 ∷ 0 ∷ 0 ∷ 0 ∷ 0 ∷ 0 ∷ 7 ∷ 7 ∷ [])
          (replicate 1024 (place 0 0 0 false) ++ (place 3 1 2 true ∷ place 3 1 2 true ∷ [])) (replicate 60 0)
          (0 ∷ 0 ∷ 0 ∷ 0 ∷ 0 ∷ 0 ∷ 9 ∷ 9 ∷ []);
    }
    ∷
    -- 9 before 10 at one operation: refusal 9
    record {
      limits = record { places = 6; loops = 1 };
      vertices = 6;
      list = (1 ∷ 3 ∷ 2 ∷ 2 ∷ 4 ∷ 5 ∷ 2 ∷ 3 ∷ 4 ∷ 1 ∷ 0 ∷ 3 ∷ 2 ∷ 5 ∷ 0 ∷ 0 ∷ 1 ∷ 2 ∷ []);
      lent = pack_lent (replicate 8 7) (replicate 1026 (place 3 1 2 true)) (replicate 60 5) (replicate 8 9);
      answer = refusal 9;
      left = pack_lent (0 ∷ 0 ∷ 0 ∷ 0 ∷ 0 ∷ 0 ∷ 7 ∷ 7 ∷ [])
          (replicate 1024 (place 0 0 0 false) ++ (place 3 1 2 true ∷ place 3 1 2 true ∷ [])) (replicate 60 0)
          (0 ∷ 0 ∷ 0 ∷ 0 ∷ 0 ∷ 0 ∷ 9 ∷ 9 ∷ []);
    }
    ∷
    -- 10 at an operation before that of 9: refusal 10
    record {
      limits = record { places = 6; loops = 1 };
      vertices = 6;
      list = (0 ∷ 1 ∷ 2 ∷ 0 ∷ 2 ∷ 3 ∷ 1 ∷ 4 ∷ 5 ∷ 1 ∷ 5 ∷ 2 ∷ 4 ∷ 0 ∷ 5 ∷ 0 ∷ 3 ∷ 5 ∷ []);
      lent = pack_lent (replicate 8 7) (replicate 1026 (place 3 1 2 true)) (replicate 60 5) (replicate 8 9);
      answer = refusal 10;
      left = pack_lent (0 ∷ 0 ∷ 0 ∷ 0 ∷ 0 ∷ 0 ∷ 7 ∷ 7 ∷ [])
          (replicate 1024 (place 0 0 0 false) ++ (place 3 1 2 true ∷ place 3 1 2 true ∷ [])) (replicate 60 0)
          (0 ∷ 0 ∷ 0 ∷ 0 ∷ 0 ∷ 0 ∷ 9 ∷ 9 ∷ []);
    }
    ∷
    -- 9 alone, later: refusal 9
    record {
      limits = record { places = 6; loops = 100 };
      vertices = 6;
      list = (0 ∷ 1 ∷ 2 ∷ 0 ∷ 2 ∷ 3 ∷ 1 ∷ 4 ∷ 5 ∷ 1 ∷ 5 ∷ 2 ∷ 4 ∷ 0 ∷ 5 ∷ 0 ∷ 3 ∷ 5 ∷ []);
      lent = pack_lent (replicate 8 7) (replicate 1026 (place 3 1 2 true)) (replicate 60 5) (replicate 8 9);
      answer = refusal 9;
      left = pack_lent (0 ∷ 0 ∷ 0 ∷ 0 ∷ 0 ∷ 0 ∷ 7 ∷ 7 ∷ [])
          (replicate 1024 (place 0 0 0 false) ++ (place 3 1 2 true ∷ place 3 1 2 true ∷ [])) (replicate 60 0)
          (0 ∷ 0 ∷ 0 ∷ 0 ∷ 0 ∷ 0 ∷ 9 ∷ 9 ∷ []);
    }
    ∷
    -- no 9: places are counted in shortened loops: accepted
    record {
      limits = record { places = 3; loops = 1 };
      vertices = 4;
      list = (0 ∷ 2 ∷ 1 ∷ 1 ∷ 3 ∷ 0 ∷ []);
      lent = pack_lent (7 ∷ 7 ∷ 7 ∷ 7 ∷ 7 ∷ 7 ∷ []) (replicate 1026 (place 3 1 2 true)) (replicate 60 5) (9 ∷ 9 ∷ 9 ∷ 9 ∷ []);
      answer = packed 17;
      left = pack_lent (0 ∷ 2 ∷ 1 ∷ 3 ∷ 7 ∷ 7 ∷ []) (replicate 1024 (place 0 0 0 false) ++ (place 3 1 2 true ∷ place 3 1 2 true ∷ []))
          ((1 ∷ 0 ∷ 8 ∷ 0 ∷ 4 ∷ 0 ∷ 2 ∷ 0 ∷ 3 ∷ 0 ∷ 1 ∷ 2 ∷ 0 ∷ 3 ∷ 237 ∷ 134 ∷ 192 ∷ []) ++ replicate 43 5) (0 ∷ 1 ∷ 9 ∷ 9 ∷ []);
    }
    ∷
    -- 9: one place less: refusal 9
    record {
      limits = record { places = 2; loops = 1 };
      vertices = 4;
      list = (0 ∷ 2 ∷ 1 ∷ 1 ∷ 3 ∷ 0 ∷ []);
      lent = pack_lent (7 ∷ 7 ∷ 7 ∷ 7 ∷ 7 ∷ 7 ∷ []) (replicate 1026 (place 3 1 2 true)) (replicate 60 5) (9 ∷ 9 ∷ 9 ∷ 9 ∷ []);
      answer = refusal 9;
      left = pack_lent (0 ∷ 0 ∷ 0 ∷ 0 ∷ 7 ∷ 7 ∷ []) (replicate 1024 (place 0 0 0 false) ++ (place 3 1 2 true ∷ place 3 1 2 true ∷ []))
          (replicate 60 0) (0 ∷ 0 ∷ 9 ∷ 9 ∷ []);
    }
    ∷
    -- 9 before 11: refusal 9
    record {
      limits = record { places = 3; loops = 1 };
      vertices = 4;
      list = (0 ∷ 1 ∷ 2 ∷ 1 ∷ 0 ∷ 3 ∷ []);
      lent = pack_lent (7 ∷ 7 ∷ 7 ∷ 7 ∷ 7 ∷ 7 ∷ []) (replicate 1026 (place 3 1 2 true)) [] (9 ∷ 9 ∷ 9 ∷ 9 ∷ []);
      answer = refusal 9;
      left = pack_lent (0 ∷ 0 ∷ 0 ∷ 0 ∷ 7 ∷ 7 ∷ []) (replicate 1024 (place 0 0 0 false) ++ (place 3 1 2 true ∷ place 3 1 2 true ∷ [])) []
          (0 ∷ 0 ∷ 9 ∷ 9 ∷ []);
    }
    ∷
    -- 10 before 11: refusal 10
    record {
      limits = record { places = 1024; loops = 1 };
      vertices = 6;
      list = (1 ∷ 3 ∷ 2 ∷ 2 ∷ 4 ∷ 5 ∷ 2 ∷ 3 ∷ 4 ∷ 1 ∷ 0 ∷ 3 ∷ 2 ∷ 5 ∷ 0 ∷ 0 ∷ 1 ∷ 2 ∷ []);
      lent = pack_lent (replicate 8 7) (replicate 1026 (place 3 1 2 true)) [] (replicate 8 9);
      answer = refusal 10;
      left = pack_lent (0 ∷ 0 ∷ 0 ∷ 0 ∷ 0 ∷ 0 ∷ 7 ∷ 7 ∷ [])
          (replicate 1024 (place 0 0 0 false) ++ (place 3 1 2 true ∷ place 3 1 2 true ∷ [])) [] (0 ∷ 0 ∷ 0 ∷ 0 ∷ 0 ∷ 0 ∷ 9 ∷ 9 ∷ []);
    }
    ∷
    -- 11: refusal 11
    record {
      limits = most;
      vertices = 3;
      list = (0 ∷ 1 ∷ 2 ∷ []);
      lent = pack_lent (7 ∷ 7 ∷ 7 ∷ 7 ∷ 7 ∷ []) (replicate 1026 (place 3 1 2 true)) (replicate 15 5) (9 ∷ 9 ∷ 9 ∷ []);
      answer = refusal 11;
      left = pack_lent (0 ∷ 0 ∷ 0 ∷ 7 ∷ 7 ∷ []) (replicate 1024 (place 0 0 0 false) ++ (place 3 1 2 true ∷ place 3 1 2 true ∷ []))
          (replicate 15 0) (0 ∷ 9 ∷ 9 ∷ []);
    }
    ∷
    []

unfoldable pub unpack_rows : List UnpackRow
unpack_rows =
    -- M1 to M5: accepted
    record {
      bytes = (1 ∷ 0 ∷ 8 ∷ 0 ∷ 3 ∷ 0 ∷ 1 ∷ 0 ∷ 3 ∷ 0 ∷ 1 ∷ 2 ∷ 0 ∷ 2 ∷ 237 ∷ 176 ∷ []);
      lent = unpack_lent (replicate 32 6) (replicate 1026 (place 3 1 2 true));
      answer = model_of 3 1 (totals_of 3 1 0 (pos 1));
      left = unpack_lent ((0 ∷ 1 ∷ 2 ∷ []) ++ replicate 29 6)
          (replicate 1024 (place 0 0 0 false) ++ (place 3 1 2 true ∷ place 3 1 2 true ∷ []));
    }
    ∷
    -- M1 to M5: accepted
    record {
      bytes = (1 ∷ 0 ∷ 8 ∷ 0 ∷ 4 ∷ 0 ∷ 4 ∷ 0 ∷ 4 ∷ 0 ∷ 1 ∷ 2 ∷ 0 ∷ 2 ∷ 224 ∷ 208 ∷ []);
      lent = unpack_lent (replicate 32 6) (replicate 1026 (place 3 1 2 true));
      answer = model_of 4 4 (totals_of 6 0 0 (pos 2));
      left = unpack_lent ((0 ∷ 1 ∷ 2 ∷ 1 ∷ 0 ∷ 3 ∷ 1 ∷ 3 ∷ 2 ∷ 2 ∷ 3 ∷ 0 ∷ []) ++ replicate 20 6)
          (replicate 1024 (place 0 0 0 false) ++ (place 3 1 2 true ∷ place 3 1 2 true ∷ []));
    }
    ∷
    -- M1 to M5: accepted
    record {
      bytes = (1 ∷ 0 ∷ 8 ∷ 0 ∷ 4 ∷ 0 ∷ 2 ∷ 0 ∷ 4 ∷ 0 ∷ 1 ∷ 2 ∷ 0 ∷ 3 ∷ 225 ∷ 182 ∷ 192 ∷ []);
      lent = unpack_lent (replicate 32 6) (replicate 1026 (place 3 1 2 true));
      answer = model_of 4 2 (totals_of 5 1 0 (pos 1));
      left = unpack_lent ((0 ∷ 1 ∷ 2 ∷ 1 ∷ 0 ∷ 3 ∷ []) ++ replicate 26 6)
          (replicate 1024 (place 0 0 0 false) ++ (place 3 1 2 true ∷ place 3 1 2 true ∷ []));
    }
    ∷
    -- M1 to M5: accepted
    record {
      bytes = (1 ∷ 0 ∷ 8 ∷ 0 ∷ 3 ∷ 0 ∷ 2 ∷ 0 ∷ 3 ∷ 0 ∷ 1 ∷ 2 ∷ 0 ∷ 1 ∷ 244 ∷ []);
      lent = unpack_lent (replicate 32 6) (replicate 1026 (place 3 1 2 true));
      answer = model_of 3 2 (totals_of 3 0 0 (pos 2));
      left = unpack_lent ((0 ∷ 1 ∷ 2 ∷ 1 ∷ 0 ∷ 2 ∷ []) ++ replicate 26 6)
          (replicate 1024 (place 0 0 0 false) ++ (place 3 1 2 true ∷ place 3 1 2 true ∷ []));
    }
    ∷
    -- M1 to M5: accepted
    record {
      bytes = (1 ∷ 0 ∷ 8 ∷ 0 ∷ 6 ∷ 0 ∷ 2 ∷ 0 ∷ 3 ∷ 0 ∷ 1 ∷ 2 ∷ 0 ∷ 3 ∷ 237 ∷ 190 ∷ 219 ∷ []);
      lent = unpack_lent (replicate 32 6) (replicate 1026 (place 3 1 2 true));
      answer = model_of 6 2 (totals_of 6 2 0 (pos 2));
      left = unpack_lent ((0 ∷ 1 ∷ 2 ∷ 3 ∷ 4 ∷ 5 ∷ []) ++ replicate 26 6)
          (replicate 1024 (place 0 0 0 false) ++ (place 3 1 2 true ∷ place 3 1 2 true ∷ []));
    }
    ∷
    -- 12: nothing, wrong tag, wrong length of field 01, fields swapped, cut, more follows: refusal 12
    record {
      bytes = [];
      lent = unpack_lent (replicate 32 6) (replicate 1026 (place 3 1 2 true));
      answer = refusal 12;
      left = unpack_lent (replicate 32 6) (replicate 1026 (place 3 1 2 true));
    }
    ∷
    -- 12: nothing, wrong tag, wrong length of field 01, fields swapped, cut, more follows: refusal 12
    record {
      bytes = (2 ∷ 0 ∷ 8 ∷ 0 ∷ 3 ∷ 0 ∷ 1 ∷ 0 ∷ 3 ∷ 0 ∷ 1 ∷ 2 ∷ 0 ∷ 2 ∷ 237 ∷ 176 ∷ []);
      lent = unpack_lent (replicate 32 6) (replicate 1026 (place 3 1 2 true));
      answer = refusal 12;
      left = unpack_lent (replicate 32 6) (replicate 1026 (place 3 1 2 true));
    }
    ∷
    -- 12: nothing, wrong tag, wrong length of field 01, fields swapped, cut, more follows: refusal 12
    record {
      bytes = (1 ∷ 0 ∷ 7 ∷ 0 ∷ 3 ∷ 0 ∷ 1 ∷ 0 ∷ 3 ∷ 0 ∷ 2 ∷ 0 ∷ 2 ∷ 237 ∷ 176 ∷ []);
      lent = unpack_lent (replicate 32 6) (replicate 1026 (place 3 1 2 true));
      answer = refusal 12;
      left = unpack_lent (replicate 32 6) (replicate 1026 (place 3 1 2 true));
    }
    ∷
    -- 12: nothing, wrong tag, wrong length of field 01, fields swapped, cut, more follows: refusal 12
    record {
      bytes = (1 ∷ 0 ∷ 9 ∷ 0 ∷ 3 ∷ 0 ∷ 1 ∷ 0 ∷ 3 ∷ 0 ∷ 1 ∷ 0 ∷ 2 ∷ 0 ∷ 2 ∷ 237 ∷ 176 ∷ []);
      lent = unpack_lent (replicate 32 6) (replicate 1026 (place 3 1 2 true));
      answer = refusal 12;
      left = unpack_lent (replicate 32 6) (replicate 1026 (place 3 1 2 true));
    }
    ∷
    -- 12: nothing, wrong tag, wrong length of field 01, fields swapped, cut, more follows: refusal 12
    record {
      bytes = (2 ∷ 0 ∷ 2 ∷ 237 ∷ 176 ∷ 1 ∷ 0 ∷ 8 ∷ 0 ∷ 3 ∷ 0 ∷ 1 ∷ 0 ∷ 3 ∷ 0 ∷ 1 ∷ []);
      lent = unpack_lent (replicate 32 6) (replicate 1026 (place 3 1 2 true));
      answer = refusal 12;
      left = unpack_lent (replicate 32 6) (replicate 1026 (place 3 1 2 true));
    }
    ∷
    -- 12: nothing, wrong tag, wrong length of field 01, fields swapped, cut, more follows: refusal 12
    record {
      bytes = (1 ∷ 0 ∷ 8 ∷ 0 ∷ 3 ∷ 0 ∷ 1 ∷ 0 ∷ 3 ∷ 0 ∷ 1 ∷ 2 ∷ 0 ∷ 2 ∷ 237 ∷ []);
      lent = unpack_lent (replicate 32 6) (replicate 1026 (place 3 1 2 true));
      answer = refusal 12;
      left = unpack_lent (replicate 32 6) (replicate 1026 (place 3 1 2 true));
    }
    ∷
    -- 12: nothing, wrong tag, wrong length of field 01, fields swapped, cut, more follows: refusal 12
    record {
      bytes = (1 ∷ 0 ∷ 8 ∷ 0 ∷ 3 ∷ 0 ∷ 1 ∷ 0 ∷ 3 ∷ 0 ∷ 1 ∷ 2 ∷ 0 ∷ 3 ∷ 237 ∷ 176 ∷ []);
      lent = unpack_lent (replicate 32 6) (replicate 1026 (place 3 1 2 true));
      answer = refusal 12;
      left = unpack_lent (replicate 32 6) (replicate 1026 (place 3 1 2 true));
    }
    ∷
    -- 12: nothing, wrong tag, wrong length of field 01, fields swapped, cut, more follows: refusal 12
    record {
      bytes = (1 ∷ 0 ∷ 8 ∷ 0 ∷ 3 ∷ 0 ∷ 1 ∷ 0 ∷ 3 ∷ 0 ∷ 1 ∷ 2 ∷ 0 ∷ 2 ∷ 237 ∷ 176 ∷ 0 ∷ []);
      lent = unpack_lent (replicate 32 6) (replicate 1026 (place 3 1 2 true));
      answer = refusal 12;
      left = unpack_lent (replicate 32 6) (replicate 1026 (place 3 1 2 true));
    }
    ∷
    -- 13: V 2, V 4097, T 0, T 8193, places 2, places 1025, loops 0, loops 101: refusal 13
    record {
      bytes = (1 ∷ 0 ∷ 8 ∷ 0 ∷ 2 ∷ 0 ∷ 1 ∷ 0 ∷ 3 ∷ 0 ∷ 1 ∷ 2 ∷ 0 ∷ 2 ∷ 237 ∷ 176 ∷ []);
      lent = unpack_lent (replicate 32 6) (replicate 1026 (place 3 1 2 true));
      answer = refusal 13;
      left = unpack_lent (replicate 32 6) (replicate 1026 (place 3 1 2 true));
    }
    ∷
    -- 13: V 2, V 4097, T 0, T 8193, places 2, places 1025, loops 0, loops 101: refusal 13
    record {
      bytes = (1 ∷ 0 ∷ 8 ∷ 16 ∷ 1 ∷ 0 ∷ 1 ∷ 0 ∷ 3 ∷ 0 ∷ 1 ∷ 2 ∷ 0 ∷ 2 ∷ 237 ∷ 176 ∷ []);
      lent = unpack_lent (replicate 32 6) (replicate 1026 (place 3 1 2 true));
      answer = refusal 13;
      left = unpack_lent (replicate 32 6) (replicate 1026 (place 3 1 2 true));
    }
    ∷
    -- 13: V 2, V 4097, T 0, T 8193, places 2, places 1025, loops 0, loops 101: refusal 13
    record {
      bytes = (1 ∷ 0 ∷ 8 ∷ 0 ∷ 3 ∷ 0 ∷ 0 ∷ 0 ∷ 3 ∷ 0 ∷ 1 ∷ 2 ∷ 0 ∷ 2 ∷ 237 ∷ 176 ∷ []);
      lent = unpack_lent (replicate 32 6) (replicate 1026 (place 3 1 2 true));
      answer = refusal 13;
      left = unpack_lent (replicate 32 6) (replicate 1026 (place 3 1 2 true));
    }
    ∷
    -- 13: V 2, V 4097, T 0, T 8193, places 2, places 1025, loops 0, loops 101: refusal 13
    record {
      bytes = (1 ∷ 0 ∷ 8 ∷ 0 ∷ 3 ∷ 32 ∷ 1 ∷ 0 ∷ 3 ∷ 0 ∷ 1 ∷ 2 ∷ 0 ∷ 2 ∷ 237 ∷ 176 ∷ []);
      lent = unpack_lent (replicate 32 6) (replicate 1026 (place 3 1 2 true));
      answer = refusal 13;
      left = unpack_lent (replicate 32 6) (replicate 1026 (place 3 1 2 true));
    }
    ∷
    -- 13: V 2, V 4097, T 0, T 8193, places 2, places 1025, loops 0, loops 101: refusal 13
    record {
      bytes = (1 ∷ 0 ∷ 8 ∷ 0 ∷ 3 ∷ 0 ∷ 1 ∷ 0 ∷ 2 ∷ 0 ∷ 1 ∷ 2 ∷ 0 ∷ 2 ∷ 237 ∷ 176 ∷ []);
      lent = unpack_lent (replicate 32 6) (replicate 1026 (place 3 1 2 true));
      answer = refusal 13;
      left = unpack_lent (replicate 32 6) (replicate 1026 (place 3 1 2 true));
    }
    ∷
    -- 13: V 2, V 4097, T 0, T 8193, places 2, places 1025, loops 0, loops 101: refusal 13
    record {
      bytes = (1 ∷ 0 ∷ 8 ∷ 0 ∷ 3 ∷ 0 ∷ 1 ∷ 4 ∷ 1 ∷ 0 ∷ 1 ∷ 2 ∷ 0 ∷ 2 ∷ 237 ∷ 176 ∷ []);
      lent = unpack_lent (replicate 32 6) (replicate 1026 (place 3 1 2 true));
      answer = refusal 13;
      left = unpack_lent (replicate 32 6) (replicate 1026 (place 3 1 2 true));
    }
    ∷
    -- 13: V 2, V 4097, T 0, T 8193, places 2, places 1025, loops 0, loops 101: refusal 13
    record {
      bytes = (1 ∷ 0 ∷ 8 ∷ 0 ∷ 3 ∷ 0 ∷ 1 ∷ 0 ∷ 3 ∷ 0 ∷ 0 ∷ 2 ∷ 0 ∷ 2 ∷ 237 ∷ 176 ∷ []);
      lent = unpack_lent (replicate 32 6) (replicate 1026 (place 3 1 2 true));
      answer = refusal 13;
      left = unpack_lent (replicate 32 6) (replicate 1026 (place 3 1 2 true));
    }
    ∷
    -- 13: V 2, V 4097, T 0, T 8193, places 2, places 1025, loops 0, loops 101: refusal 13
    record {
      bytes = (1 ∷ 0 ∷ 8 ∷ 0 ∷ 3 ∷ 0 ∷ 1 ∷ 0 ∷ 3 ∷ 0 ∷ 101 ∷ 2 ∷ 0 ∷ 2 ∷ 237 ∷ 176 ∷ []);
      lent = unpack_lent (replicate 32 6) (replicate 1026 (place 3 1 2 true));
      answer = refusal 13;
      left = unpack_lent (replicate 32 6) (replicate 1026 (place 3 1 2 true));
    }
    ∷
    -- 15: no operations; index of a split broken off though it is not allowed; fill bits read as new, then broken off: refusal 15
    record {
      bytes = (1 ∷ 0 ∷ 8 ∷ 0 ∷ 3 ∷ 0 ∷ 1 ∷ 0 ∷ 3 ∷ 0 ∷ 1 ∷ 2 ∷ 0 ∷ 0 ∷ []);
      lent = unpack_lent (replicate 32 6) (replicate 1026 (place 3 1 2 true));
      answer = refusal 15;
      left = unpack_lent ((0 ∷ 0 ∷ 0 ∷ []) ++ replicate 29 6)
          (replicate 1024 (place 0 0 0 false) ++ (place 3 1 2 true ∷ place 3 1 2 true ∷ []));
    }
    ∷
    -- 15: no operations; index of a split broken off though it is not allowed; fill bits read as new, then broken off: refusal 15
    record {
      bytes = (1 ∷ 0 ∷ 8 ∷ 0 ∷ 3 ∷ 0 ∷ 1 ∷ 0 ∷ 3 ∷ 0 ∷ 1 ∷ 2 ∷ 0 ∷ 1 ∷ 240 ∷ []);
      lent = unpack_lent (replicate 32 6) (replicate 1026 (place 3 1 2 true));
      answer = refusal 15;
      left = unpack_lent ((0 ∷ 0 ∷ 0 ∷ []) ++ replicate 29 6)
          (replicate 1024 (place 0 0 0 false) ++ (place 3 1 2 true ∷ place 3 1 2 true ∷ []));
    }
    ∷
    -- 15: no operations; index of a split broken off though it is not allowed; fill bits read as new, then broken off: refusal 15
    record {
      bytes = (1 ∷ 0 ∷ 8 ∷ 0 ∷ 9 ∷ 0 ∷ 9 ∷ 0 ∷ 9 ∷ 0 ∷ 1 ∷ 2 ∷ 0 ∷ 2 ∷ 237 ∷ 128 ∷ []);
      lent = unpack_lent (replicate 32 6) (replicate 1026 (place 3 1 2 true));
      answer = refusal 15;
      left = unpack_lent (replicate 27 0 ++ (6 ∷ 6 ∷ 6 ∷ 6 ∷ 6 ∷ []))
          (replicate 1024 (place 0 0 0 false) ++ (place 3 1 2 true ∷ place 3 1 2 true ∷ []));
    }
    ∷
    -- 16: split in a loop of three; new without a live loop; close of a loop with a marked edge: refusal 16
    record {
      bytes = (1 ∷ 0 ∷ 8 ∷ 0 ∷ 3 ∷ 0 ∷ 1 ∷ 0 ∷ 3 ∷ 0 ∷ 1 ∷ 2 ∷ 0 ∷ 3 ∷ 240 ∷ 0 ∷ 0 ∷ []);
      lent = unpack_lent (replicate 32 6) (replicate 1026 (place 3 1 2 true));
      answer = refusal 16;
      left = unpack_lent ((0 ∷ 0 ∷ 0 ∷ []) ++ replicate 29 6)
          (replicate 1024 (place 0 0 0 false) ++ (place 3 1 2 true ∷ place 3 1 2 true ∷ []));
    }
    ∷
    -- 16: split in a loop of three; new without a live loop; close of a loop with a marked edge: refusal 16
    record {
      bytes = (1 ∷ 0 ∷ 8 ∷ 0 ∷ 6 ∷ 0 ∷ 2 ∷ 0 ∷ 3 ∷ 0 ∷ 1 ∷ 2 ∷ 0 ∷ 2 ∷ 237 ∷ 176 ∷ []);
      lent = unpack_lent (replicate 32 6) (replicate 1026 (place 3 1 2 true));
      answer = refusal 16;
      left = unpack_lent ((0 ∷ 0 ∷ 0 ∷ 0 ∷ 0 ∷ 0 ∷ []) ++ replicate 26 6)
          (replicate 1024 (place 0 0 0 false) ++ (place 3 1 2 true ∷ place 3 1 2 true ∷ []));
    }
    ∷
    -- 16: split in a loop of three; new without a live loop; close of a loop with a marked edge: refusal 16
    record {
      bytes = (1 ∷ 0 ∷ 8 ∷ 0 ∷ 3 ∷ 0 ∷ 2 ∷ 0 ∷ 3 ∷ 0 ∷ 1 ∷ 2 ∷ 0 ∷ 2 ∷ 237 ∷ 64 ∷ []);
      lent = unpack_lent (replicate 32 6) (replicate 1026 (place 3 1 2 true));
      answer = refusal 16;
      left = unpack_lent ((0 ∷ 0 ∷ 0 ∷ 0 ∷ 0 ∷ 0 ∷ []) ++ replicate 26 6)
          (replicate 1024 (place 0 0 0 false) ++ (place 3 1 2 true ∷ place 3 1 2 true ∷ []));
    }
    ∷
    -- 17: fill bits read as new beyond V: refusal 17
    record {
      bytes = (1 ∷ 0 ∷ 8 ∷ 0 ∷ 3 ∷ 0 ∷ 1 ∷ 0 ∷ 3 ∷ 0 ∷ 1 ∷ 2 ∷ 0 ∷ 2 ∷ 237 ∷ 128 ∷ []);
      lent = unpack_lent (replicate 32 6) (replicate 1026 (place 3 1 2 true));
      answer = refusal 17;
      left = unpack_lent ((0 ∷ 0 ∷ 0 ∷ []) ++ replicate 29 6)
          (replicate 1024 (place 0 0 0 false) ++ (place 3 1 2 true ∷ place 3 1 2 true ∷ []));
    }
    ∷
    -- 18: M10: refusal 18
    record {
      bytes = (1 ∷ 0 ∷ 8 ∷ 16 ∷ 0 ∷ 32 ∷ 0 ∷ 4 ∷ 0 ∷ 0 ∷ 100 ∷ 2 ∷ 0 ∷ 3 ∷ 224 ∷ 64 ∷ 8 ∷ []);
      lent = unpack_lent (replicate 24577 6) (replicate 1026 (place 3 1 2 true));
      answer = refusal 18;
      left = unpack_lent (replicate 24576 0 ++ (6 ∷ [])) (replicate 1024 (place 0 0 0 false) ++ (place 3 1 2 true ∷ place 3 1 2 true ∷ []));
    }
    ∷
    -- 19: V 4, places 4, loops 2, a byte more, a fill bit: refusal 19
    record {
      bytes = (1 ∷ 0 ∷ 8 ∷ 0 ∷ 4 ∷ 0 ∷ 1 ∷ 0 ∷ 3 ∷ 0 ∷ 1 ∷ 2 ∷ 0 ∷ 2 ∷ 237 ∷ 176 ∷ []);
      lent = unpack_lent (replicate 32 6) (replicate 1026 (place 3 1 2 true));
      answer = refusal 19;
      left = unpack_lent ((0 ∷ 0 ∷ 0 ∷ []) ++ replicate 29 6)
          (replicate 1024 (place 0 0 0 false) ++ (place 3 1 2 true ∷ place 3 1 2 true ∷ []));
    }
    ∷
    -- 19: V 4, places 4, loops 2, a byte more, a fill bit: refusal 19
    record {
      bytes = (1 ∷ 0 ∷ 8 ∷ 0 ∷ 3 ∷ 0 ∷ 1 ∷ 0 ∷ 4 ∷ 0 ∷ 1 ∷ 2 ∷ 0 ∷ 2 ∷ 237 ∷ 176 ∷ []);
      lent = unpack_lent (replicate 32 6) (replicate 1026 (place 3 1 2 true));
      answer = refusal 19;
      left = unpack_lent ((0 ∷ 0 ∷ 0 ∷ []) ++ replicate 29 6)
          (replicate 1024 (place 0 0 0 false) ++ (place 3 1 2 true ∷ place 3 1 2 true ∷ []));
    }
    ∷
    -- 19: V 4, places 4, loops 2, a byte more, a fill bit: refusal 19
    record {
      bytes = (1 ∷ 0 ∷ 8 ∷ 0 ∷ 3 ∷ 0 ∷ 1 ∷ 0 ∷ 3 ∷ 0 ∷ 2 ∷ 2 ∷ 0 ∷ 2 ∷ 237 ∷ 176 ∷ []);
      lent = unpack_lent (replicate 32 6) (replicate 1026 (place 3 1 2 true));
      answer = refusal 19;
      left = unpack_lent ((0 ∷ 0 ∷ 0 ∷ []) ++ replicate 29 6)
          (replicate 1024 (place 0 0 0 false) ++ (place 3 1 2 true ∷ place 3 1 2 true ∷ []));
    }
    ∷
    -- 19: V 4, places 4, loops 2, a byte more, a fill bit: refusal 19
    record {
      bytes = (1 ∷ 0 ∷ 8 ∷ 0 ∷ 3 ∷ 0 ∷ 1 ∷ 0 ∷ 3 ∷ 0 ∷ 1 ∷ 2 ∷ 0 ∷ 3 ∷ 237 ∷ 176 ∷ 0 ∷ []);
      lent = unpack_lent (replicate 32 6) (replicate 1026 (place 3 1 2 true));
      answer = refusal 19;
      left = unpack_lent ((0 ∷ 0 ∷ 0 ∷ []) ++ replicate 29 6)
          (replicate 1024 (place 0 0 0 false) ++ (place 3 1 2 true ∷ place 3 1 2 true ∷ []));
    }
    ∷
    -- 19: V 4, places 4, loops 2, a byte more, a fill bit: refusal 19
    record {
      bytes = (1 ∷ 0 ∷ 8 ∷ 0 ∷ 3 ∷ 0 ∷ 1 ∷ 0 ∷ 3 ∷ 0 ∷ 1 ∷ 2 ∷ 0 ∷ 2 ∷ 237 ∷ 177 ∷ []);
      lent = unpack_lent (replicate 32 6) (replicate 1026 (place 3 1 2 true));
      answer = refusal 19;
      left = unpack_lent ((0 ∷ 0 ∷ 0 ∷ []) ++ replicate 29 6)
          (replicate 1024 (place 0 0 0 false) ++ (place 3 1 2 true ∷ place 3 1 2 true ∷ []));
    }
    ∷
    -- operations and peaks of full loops, in which these were 20: refusal 16
    record {
      bytes = (1 ∷ 0 ∷ 8 ∷ 0 ∷ 5 ∷ 0 ∷ 4 ∷ 0 ∷ 6 ∷ 0 ∷ 2 ∷ 2 ∷ 0 ∷ 5 ∷ 224 ∷ 54 ∷ 220 ∷ 0 ∷ 155 ∷ []);
      lent = unpack_lent (replicate 32 6) (replicate 1026 (place 3 1 2 true));
      answer = refusal 16;
      left = unpack_lent (replicate 12 0 ++ replicate 20 6)
          (replicate 1024 (place 0 0 0 false) ++ (place 3 1 2 true ∷ place 3 1 2 true ∷ []));
    }
    ∷
    -- operations and peaks of full loops, in which these were 20: refusal 19
    record {
      bytes = (1 ∷ 0 ∷ 8 ∷ 0 ∷ 5 ∷ 0 ∷ 4 ∷ 0 ∷ 6 ∷ 0 ∷ 2 ∷ 2 ∷ 0 ∷ 5 ∷ 224 ∷ 55 ∷ 0 ∷ 38 ∷ 219 ∷ []);
      lent = unpack_lent (replicate 32 6) (replicate 1026 (place 3 1 2 true));
      answer = refusal 19;
      left = unpack_lent (replicate 12 0 ++ replicate 20 6)
          (replicate 1024 (place 0 0 0 false) ++ (place 3 1 2 true ∷ place 3 1 2 true ∷ []));
    }
    ∷
    -- operations and peaks of full loops, in which these were 20: refusal 19
    record {
      bytes = (1 ∷ 0 ∷ 8 ∷ 0 ∷ 5 ∷ 0 ∷ 4 ∷ 0 ∷ 6 ∷ 0 ∷ 2 ∷ 2 ∷ 0 ∷ 5 ∷ 225 ∷ 134 ∷ 224 ∷ 4 ∷ 219 ∷ []);
      lent = unpack_lent (replicate 32 6) (replicate 1026 (place 3 1 2 true));
      answer = refusal 19;
      left = unpack_lent (replicate 12 0 ++ replicate 20 6)
          (replicate 1024 (place 0 0 0 false) ++ (place 3 1 2 true ∷ place 3 1 2 true ∷ []));
    }
    ∷
    -- 19 before 20: the same with a count moved: refusal 19
    record {
      bytes = (1 ∷ 0 ∷ 8 ∷ 0 ∷ 6 ∷ 0 ∷ 4 ∷ 0 ∷ 6 ∷ 0 ∷ 2 ∷ 2 ∷ 0 ∷ 5 ∷ 225 ∷ 134 ∷ 224 ∷ 4 ∷ 219 ∷ []);
      lent = unpack_lent (replicate 32 6) (replicate 1026 (place 3 1 2 true));
      answer = refusal 19;
      left = unpack_lent (replicate 12 0 ++ replicate 20 6)
          (replicate 1024 (place 0 0 0 false) ++ (place 3 1 2 true ∷ place 3 1 2 true ∷ []));
    }
    ∷
    -- M1: accepted
    record {
      bytes = (1 ∷ 0 ∷ 8 ∷ 0 ∷ 3 ∷ 0 ∷ 1 ∷ 0 ∷ 3 ∷ 0 ∷ 1 ∷ 2 ∷ 0 ∷ 2 ∷ 237 ∷ 176 ∷ []);
      lent = unpack_lent (6 ∷ 6 ∷ 6 ∷ 6 ∷ []) (replicate 1024 (place 3 1 2 true));
      answer = model_of 3 1 (totals_of 3 1 0 (pos 1));
      left = unpack_lent (0 ∷ 1 ∷ 2 ∷ 6 ∷ []) (replicate 1024 (place 0 0 0 false));
    }
    ∷
    -- M2: accepted
    record {
      bytes = (1 ∷ 0 ∷ 8 ∷ 0 ∷ 4 ∷ 0 ∷ 4 ∷ 0 ∷ 4 ∷ 0 ∷ 1 ∷ 2 ∷ 0 ∷ 2 ∷ 224 ∷ 208 ∷ []);
      lent = unpack_lent (replicate 13 6) (replicate 1024 (place 3 1 2 true));
      answer = model_of 4 4 (totals_of 6 0 0 (pos 2));
      left = unpack_lent (0 ∷ 1 ∷ 2 ∷ 1 ∷ 0 ∷ 3 ∷ 1 ∷ 3 ∷ 2 ∷ 2 ∷ 3 ∷ 0 ∷ 6 ∷ []) (replicate 1024 (place 0 0 0 false));
    }
    ∷
    -- M3: accepted
    record {
      bytes = (1 ∷ 0 ∷ 8 ∷ 0 ∷ 4 ∷ 0 ∷ 2 ∷ 0 ∷ 4 ∷ 0 ∷ 1 ∷ 2 ∷ 0 ∷ 3 ∷ 225 ∷ 182 ∷ 192 ∷ []);
      lent = unpack_lent (6 ∷ 6 ∷ 6 ∷ 6 ∷ 6 ∷ 6 ∷ 6 ∷ []) (replicate 1024 (place 3 1 2 true));
      answer = model_of 4 2 (totals_of 5 1 0 (pos 1));
      left = unpack_lent (0 ∷ 1 ∷ 2 ∷ 1 ∷ 0 ∷ 3 ∷ 6 ∷ []) (replicate 1024 (place 0 0 0 false));
    }
    ∷
    -- M4: accepted
    record {
      bytes = (1 ∷ 0 ∷ 8 ∷ 0 ∷ 3 ∷ 0 ∷ 2 ∷ 0 ∷ 3 ∷ 0 ∷ 1 ∷ 2 ∷ 0 ∷ 1 ∷ 244 ∷ []);
      lent = unpack_lent (6 ∷ 6 ∷ 6 ∷ 6 ∷ 6 ∷ 6 ∷ 6 ∷ []) (replicate 1024 (place 3 1 2 true));
      answer = model_of 3 2 (totals_of 3 0 0 (pos 2));
      left = unpack_lent (0 ∷ 1 ∷ 2 ∷ 1 ∷ 0 ∷ 2 ∷ 6 ∷ []) (replicate 1024 (place 0 0 0 false));
    }
    ∷
    -- M5: accepted
    record {
      bytes = (1 ∷ 0 ∷ 8 ∷ 0 ∷ 6 ∷ 0 ∷ 2 ∷ 0 ∷ 3 ∷ 0 ∷ 1 ∷ 2 ∷ 0 ∷ 3 ∷ 237 ∷ 190 ∷ 219 ∷ []);
      lent = unpack_lent (6 ∷ 6 ∷ 6 ∷ 6 ∷ 6 ∷ 6 ∷ 6 ∷ []) (replicate 1024 (place 3 1 2 true));
      answer = model_of 6 2 (totals_of 6 2 0 (pos 2));
      left = unpack_lent (0 ∷ 1 ∷ 2 ∷ 3 ∷ 4 ∷ 5 ∷ 6 ∷ []) (replicate 1024 (place 0 0 0 false));
    }
    ∷
    -- forward at three places; c is reached from the edge that enters its place only: accepted
    record {
      bytes = (1 ∷ 0 ∷ 8 ∷ 0 ∷ 4 ∷ 0 ∷ 3 ∷ 0 ∷ 4 ∷ 0 ∷ 1 ∷ 2 ∷ 0 ∷ 3 ∷ 225 ∷ 178 ∷ 192 ∷ []);
      lent = unpack_lent (replicate 10 6) (replicate 1024 (place 3 1 2 true));
      answer = model_of 4 3 (totals_of 6 1 0 (pos 1));
      left = unpack_lent (0 ∷ 1 ∷ 2 ∷ 1 ∷ 0 ∷ 3 ∷ 0 ∷ 2 ∷ 3 ∷ 6 ∷ []) (replicate 1024 (place 0 0 0 false));
    }
    ∷
    -- backward at three places; c is reached from the edge that leaves its place only: accepted
    record {
      bytes = (1 ∷ 0 ∷ 8 ∷ 0 ∷ 5 ∷ 0 ∷ 5 ∷ 0 ∷ 4 ∷ 0 ∷ 1 ∷ 2 ∷ 0 ∷ 3 ∷ 225 ∷ 176 ∷ 83 ∷ []);
      lent = unpack_lent (replicate 16 6) (replicate 1024 (place 3 1 2 true));
      answer = model_of 5 5 (totals_of 9 1 0 (pos 1));
      left = unpack_lent (0 ∷ 1 ∷ 2 ∷ 1 ∷ 0 ∷ 3 ∷ 0 ∷ 2 ∷ 4 ∷ 0 ∷ 4 ∷ 3 ∷ 3 ∷ 4 ∷ 2 ∷ 6 ∷ []) (replicate 1024 (place 0 0 0 false));
    }
    ∷
    -- split k - 2 across a link; the second part has fewer places, in full loops as many: accepted
    record {
      bytes = (1 ∷ 0 ∷ 8 ∷ 0 ∷ 5 ∷ 0 ∷ 5 ∷ 0 ∷ 5 ∷ 0 ∷ 2 ∷ 2 ∷ 0 ∷ 5 ∷ 224 ∷ 55 ∷ 0 ∷ 39 ∷ 64 ∷ []);
      lent = unpack_lent (replicate 16 6) (replicate 1024 (place 3 1 2 true));
      answer = model_of 5 5 (totals_of 9 1 0 (pos 1));
      left = unpack_lent (0 ∷ 1 ∷ 2 ∷ 1 ∷ 0 ∷ 3 ∷ 1 ∷ 3 ∷ 4 ∷ 0 ∷ 2 ∷ 4 ∷ 0 ∷ 4 ∷ 3 ∷ 6 ∷ []) (replicate 1024 (place 0 0 0 false));
    }
    ∷
    -- split, the first part is smaller: accepted
    record {
      bytes = (1 ∷ 0 ∷ 8 ∷ 0 ∷ 6 ∷ 0 ∷ 6 ∷ 0 ∷ 7 ∷ 0 ∷ 2 ∷ 2 ∷ 0 ∷ 5 ∷ 225 ∷ 129 ∷ 0 ∷ 42 ∷ 219 ∷ []);
      lent = unpack_lent (replicate 19 6) (replicate 1024 (place 3 1 2 true));
      answer = model_of 6 6 (totals_of 11 1 0 (pos 1));
      left = unpack_lent (0 ∷ 1 ∷ 2 ∷ 1 ∷ 0 ∷ 3 ∷ 2 ∷ 1 ∷ 4 ∷ 2 ∷ 4 ∷ 5 ∷ 2 ∷ 5 ∷ 3 ∷ 2 ∷ 3 ∷ 0 ∷ 6 ∷ [])
          (replicate 1024 (place 0 0 0 false));
    }
    ∷
    -- split k - 2, the second part is smaller: accepted
    record {
      bytes = (1 ∷ 0 ∷ 8 ∷ 0 ∷ 6 ∷ 0 ∷ 6 ∷ 0 ∷ 6 ∷ 0 ∷ 2 ∷ 2 ∷ 0 ∷ 6 ∷ 225 ∷ 128 ∷ 220 ∷ 0 ∷ 218 ∷ 108 ∷ []);
      lent = unpack_lent (replicate 19 6) (replicate 1024 (place 3 1 2 true));
      answer = model_of 6 6 (totals_of 12 2 0 (pos 0));
      left = unpack_lent (0 ∷ 1 ∷ 2 ∷ 1 ∷ 0 ∷ 3 ∷ 2 ∷ 1 ∷ 4 ∷ 2 ∷ 4 ∷ 5 ∷ 3 ∷ 0 ∷ 5 ∷ 3 ∷ 5 ∷ 4 ∷ 6 ∷ [])
          (replicate 1024 (place 0 0 0 false));
    }
    ∷
    -- smallest union found: accepted
    record {
      bytes = (1 ∷ 0 ∷ 8 ∷ 0 ∷ 6 ∷ 0 ∷ 8 ∷ 0 ∷ 8 ∷ 0 ∷ 2 ∷ 2 ∷ 0 ∷ 9 ∷ 224 ∷ 49 ∷ 0 ∷ 60 ∷ 4 ∷ 2 ∷ 108 ∷ 178 ∷ 216 ∷ []);
      lent = unpack_lent (replicate 25 6) (replicate 1024 (place 3 1 2 true));
      answer = model_of 6 8 (totals_of 15 1 1 (negsuc 0));
      left = unpack_lent (0 ∷ 1 ∷ 2 ∷ 1 ∷ 0 ∷ 3 ∷ 1 ∷ 3 ∷ 4 ∷ 2 ∷ 1 ∷ 5 ∷ 2 ∷ 5 ∷ 4 ∷ 4 ∷ 5 ∷ 0 ∷ 0 ∷ 5 ∷ 3 ∷ 4 ∷ 3 ∷ 2 ∷ 6 ∷ [])
          (replicate 1024 (place 0 0 0 false));
    }
    ∷
    -- union with j = 0, and two pieces more: accepted
    record {
      bytes =
          (1 ∷ 0 ∷ 8 ∷ 0 ∷ 11 ∷ 0 ∷ 12 ∷ 0 ∷ 9 ∷ 0 ∷ 2 ∷ 2 ∷ 0 ∷ 12 ∷ 236 ∷ 0 ∷ 192 ∷ 128 ∷ 27 ∷ 192 ∷ 64 ∷ 4 ∷ 91 ∷ 45 ∷ 246 ∷ 216 ∷ []);
      lent = unpack_lent (replicate 37 6) (replicate 1024 (place 3 1 2 true));
      answer = model_of 11 12 (totals_of 23 2 1 (pos 0));
      left = unpack_lent
          (0 ∷ 1 ∷ 2 ∷ 2 ∷ 1 ∷ 3 ∷ 2 ∷ 3 ∷ 4 ∷ 2 ∷ 4 ∷ 5 ∷ 0 ∷ 2 ∷ 6 ∷ 0 ∷ 6 ∷ 7 ∷ 0 ∷ 7 ∷ 4 ∷ 3 ∷ 1 ∷ 7 ∷ 3 ∷ 7 ∷ 6 ∷ 3 ∷ 6 ∷ 4 ∷ 4 ∷ 7 ∷ 5
          ∷ 8 ∷ 9 ∷ 10 ∷ 6 ∷ [])
          (replicate 1024 (place 0 0 0 false));
    }
    ∷
    -- the peak of places is reached by the union alone: accepted
    record {
      bytes = (1 ∷ 0 ∷ 8 ∷ 0 ∷ 8 ∷ 0 ∷ 11 ∷ 0 ∷ 9 ∷ 0 ∷ 2 ∷ 2 ∷ 0 ∷ 11 ∷ 224 ∷ 0 ∷ 12 ∷ 0 ∷ 240 ∷ 16 ∷ 13 ∷ 54 ∷ 203 ∷ 109 ∷ 128 ∷ []);
      lent = unpack_lent (replicate 34 6) (replicate 1024 (place 3 1 2 true));
      answer = model_of 8 11 (totals_of 20 1 1 (negsuc 0));
      left = unpack_lent
          (0 ∷ 1 ∷ 2 ∷ 1 ∷ 0 ∷ 3 ∷ 1 ∷ 3 ∷ 4 ∷ 1 ∷ 4 ∷ 5 ∷ 1 ∷ 5 ∷ 6 ∷ 1 ∷ 6 ∷ 7 ∷ 1 ∷ 7 ∷ 2 ∷ 2 ∷ 7 ∷ 4 ∷ 2 ∷ 4 ∷ 6 ∷ 2 ∷ 6 ∷ 5 ∷ 4 ∷ 3 ∷ 6
          ∷ 6 ∷ [])
          (replicate 1024 (place 0 0 0 false));
    }
    ∷
    -- union next to a marked edge: accepted
    record {
      bytes = (1 ∷ 0 ∷ 8 ∷ 0 ∷ 8 ∷ 0 ∷ 11 ∷ 0 ∷ 11 ∷ 0 ∷ 2 ∷ 2 ∷ 0 ∷ 12 ∷ 224 ∷ 6 ∷ 4 ∷ 0 ∷ 222 ∷ 2 ∷ 1 ∷ 64 ∷ 30 ∷ 150 ∷ 219 ∷ 96 ∷ []);
      lent = unpack_lent (replicate 34 6) (replicate 1024 (place 3 1 2 true));
      answer = model_of 8 11 (totals_of 20 1 1 (negsuc 0));
      left = unpack_lent
          (0 ∷ 1 ∷ 2 ∷ 1 ∷ 0 ∷ 3 ∷ 1 ∷ 3 ∷ 4 ∷ 1 ∷ 4 ∷ 5 ∷ 2 ∷ 1 ∷ 6 ∷ 2 ∷ 6 ∷ 7 ∷ 2 ∷ 7 ∷ 4 ∷ 0 ∷ 2 ∷ 5 ∷ 0 ∷ 5 ∷ 7 ∷ 7 ∷ 5 ∷ 4 ∷ 0 ∷ 7 ∷ 3
          ∷ 6 ∷ [])
          (replicate 1024 (place 0 0 0 false));
    }
    ∷
    -- union 2 of two waiting loops; 1 counted from the oldest: accepted
    record {
      bytes =
          (1 ∷ 0 ∷ 8 ∷ 0 ∷ 11 ∷ 0 ∷ 15 ∷ 0 ∷ 13 ∷ 0 ∷ 3 ∷ 2 ∷ 0 ∷ 14 ∷ 224 ∷ 0 ∷ 12 ∷ 0 ∷ 196 ∷ 0 ∷ 134 ∷ 4 ∷ 1 ∷ 134 ∷ 219 ∷ 109 ∷ 178
          ∷ 232 ∷ []);
      lent = unpack_lent (replicate 46 6) (replicate 1024 (place 3 1 2 true));
      answer = model_of 11 15 (totals_of 27 1 1 (negsuc 0));
      left = unpack_lent
          (0 ∷ 1 ∷ 2 ∷ 1 ∷ 0 ∷ 3 ∷ 1 ∷ 3 ∷ 4 ∷ 1 ∷ 4 ∷ 5 ∷ 1 ∷ 5 ∷ 6 ∷ 1 ∷ 6 ∷ 7 ∷ 1 ∷ 7 ∷ 2 ∷ 2 ∷ 7 ∷ 4 ∷ 2 ∷ 4 ∷ 8 ∷ 2 ∷ 8 ∷ 3 ∷ 2 ∷ 3 ∷ 9
          ∷ 2 ∷ 9 ∷ 6 ∷ 2 ∷ 6 ∷ 10 ∷ 6 ∷ 5 ∷ 10 ∷ 3 ∷ 8 ∷ 4 ∷ 6 ∷ [])
          (replicate 1024 (place 0 0 0 false));
    }
    ∷
    -- split to c that has a place in a waiting loop too: accepted
    record {
      bytes = (1 ∷ 0 ∷ 8 ∷ 0 ∷ 10 ∷ 0 ∷ 14 ∷ 0 ∷ 10 ∷ 0 ∷ 3 ∷ 2 ∷ 0 ∷ 10 ∷ 224 ∷ 6 ∷ 192 ∷ 128 ∷ 24 ∷ 6 ∷ 0 ∷ 86 ∷ 178 ∷ 192 ∷ []);
      lent = unpack_lent (replicate 43 6) (replicate 1024 (place 3 1 2 true));
      answer = model_of 10 14 (totals_of 23 1 0 (pos 1));
      left = unpack_lent
          (0 ∷ 1 ∷ 2 ∷ 1 ∷ 0 ∷ 3 ∷ 1 ∷ 3 ∷ 4 ∷ 1 ∷ 4 ∷ 5 ∷ 0 ∷ 2 ∷ 6 ∷ 0 ∷ 6 ∷ 7 ∷ 0 ∷ 7 ∷ 5 ∷ 0 ∷ 5 ∷ 8 ∷ 0 ∷ 8 ∷ 9 ∷ 0 ∷ 9 ∷ 3 ∷ 3 ∷ 9 ∷ 5
          ∷ 3 ∷ 5 ∷ 4 ∷ 5 ∷ 9 ∷ 8 ∷ 6 ∷ 2 ∷ 7 ∷ 6 ∷ [])
          (replicate 1024 (place 0 0 0 false));
    }
    ∷
    -- union from a loop of two places: accepted
    record {
      bytes = (1 ∷ 0 ∷ 8 ∷ 0 ∷ 10 ∷ 0 ∷ 13 ∷ 0 ∷ 8 ∷ 0 ∷ 2 ∷ 2 ∷ 0 ∷ 12 ∷ 236 ∷ 0 ∷ 27 ∷ 128 ∷ 30 ∷ 2 ∷ 1 ∷ 6 ∷ 216 ∷ 44 ∷ 20 ∷ 216 ∷ []);
      lent = unpack_lent (replicate 40 6) (replicate 1024 (place 3 1 2 true));
      answer = model_of 10 13 (totals_of 24 1 1 (negsuc 0));
      left = unpack_lent
          (0 ∷ 1 ∷ 2 ∷ 2 ∷ 1 ∷ 3 ∷ 2 ∷ 3 ∷ 4 ∷ 2 ∷ 4 ∷ 5 ∷ 2 ∷ 5 ∷ 6 ∷ 3 ∷ 1 ∷ 6 ∷ 6 ∷ 1 ∷ 4 ∷ 6 ∷ 4 ∷ 7 ∷ 6 ∷ 5 ∷ 8 ∷ 6 ∷ 8 ∷ 3 ∷ 4 ∷ 3 ∷ 9
          ∷ 4 ∷ 9 ∷ 7 ∷ 7 ∷ 9 ∷ 3 ∷ 6 ∷ [])
          (replicate 1024 (place 0 0 0 false));
    }
    ∷
    -- union from a loop of two places, then a split past links: accepted
    record {
      bytes =
          (1 ∷ 0 ∷ 8 ∷ 0 ∷ 12 ∷ 0 ∷ 14 ∷ 0 ∷ 8 ∷ 0 ∷ 2 ∷ 2 ∷ 0 ∷ 14 ∷ 224 ∷ 2 ∷ 196 ∷ 0 ∷ 216 ∷ 13 ∷ 224 ∷ 32 ∷ 20 ∷ 1 ∷ 42 ∷ 109 ∷ 246
          ∷ 216 ∷ []);
      lent = unpack_lent (replicate 43 6) (replicate 1024 (place 3 1 2 true));
      answer = model_of 12 14 (totals_of 26 2 1 (pos 0));
      left = unpack_lent
          (0 ∷ 1 ∷ 2 ∷ 1 ∷ 0 ∷ 3 ∷ 1 ∷ 3 ∷ 4 ∷ 1 ∷ 4 ∷ 5 ∷ 1 ∷ 5 ∷ 2 ∷ 0 ∷ 2 ∷ 6 ∷ 0 ∷ 6 ∷ 5 ∷ 6 ∷ 2 ∷ 7 ∷ 6 ∷ 7 ∷ 8 ∷ 8 ∷ 7 ∷ 3 ∷ 8 ∷ 3 ∷ 5
          ∷ 5 ∷ 3 ∷ 0 ∷ 8 ∷ 5 ∷ 4 ∷ 9 ∷ 10 ∷ 11 ∷ 6 ∷ [])
          (replicate 1024 (place 0 0 0 false));
    }
    ∷
    -- union to c that has two places in the waiting loop: accepted
    record {
      bytes =
          (1 ∷ 0 ∷ 8 ∷ 0 ∷ 15 ∷ 0 ∷ 22 ∷ 0 ∷ 13 ∷ 0 ∷ 2 ∷ 2 ∷ 0 ∷ 21 ∷ 224 ∷ 0 ∷ 3 ∷ 2 ∷ 0 ∷ 173 ∷ 224 ∷ 32 ∷ 10 ∷ 110 ∷ 0 ∷ 184 ∷ 8 ∷ 8
          ∷ 27 ∷ 101 ∷ 128 ∷ 80 ∷ 108 ∷ 182 ∷ 192 ∷ []);
      lent = unpack_lent (replicate 67 6) (replicate 1024 (place 3 1 2 true));
      answer = model_of 15 22 (totals_of 40 1 2 (negsuc 2));
      left = unpack_lent
          (0 ∷ 1 ∷ 2 ∷ 1 ∷ 0 ∷ 3 ∷ 1 ∷ 3 ∷ 4 ∷ 1 ∷ 4 ∷ 5 ∷ 1 ∷ 5 ∷ 6 ∷ 1 ∷ 6 ∷ 7 ∷ 1 ∷ 7 ∷ 8 ∷ 2 ∷ 1 ∷ 9 ∷ 2 ∷ 9 ∷ 10 ∷ 2 ∷ 10 ∷ 6 ∷ 3 ∷ 0
          ∷ 6 ∷ 3 ∷ 6 ∷ 10 ∷ 5 ∷ 4 ∷ 8 ∷ 8 ∷ 4 ∷ 6 ∷ 8 ∷ 6 ∷ 11 ∷ 6 ∷ 4 ∷ 7 ∷ 8 ∷ 7 ∷ 12 ∷ 8 ∷ 12 ∷ 13 ∷ 8 ∷ 13 ∷ 5 ∷ 5 ∷ 13 ∷ 12 ∷ 5 ∷ 12
          ∷ 14 ∷ 6 ∷ 0 ∷ 11 ∷ 6 ∷ [])
          (replicate 1024 (place 0 0 0 false));
    }
    ∷
    -- torus of seven vertices: accepted
    record {
      bytes = (1 ∷ 0 ∷ 8 ∷ 0 ∷ 7 ∷ 0 ∷ 14 ∷ 0 ∷ 8 ∷ 0 ∷ 2 ∷ 2 ∷ 0 ∷ 10 ∷ 224 ∷ 0 ∷ 96 ∷ 7 ∷ 128 ∷ 128 ∷ 69 ∷ 64 ∷ 14 ∷ 154 ∷ []);
      lent = unpack_lent (replicate 43 6) (replicate 1024 (place 3 1 2 true));
      answer = model_of 7 14 (totals_of 21 0 1 (pos 0));
      left = unpack_lent
          (0 ∷ 1 ∷ 2 ∷ 1 ∷ 0 ∷ 3 ∷ 1 ∷ 3 ∷ 4 ∷ 1 ∷ 4 ∷ 5 ∷ 1 ∷ 5 ∷ 6 ∷ 1 ∷ 6 ∷ 2 ∷ 2 ∷ 6 ∷ 4 ∷ 4 ∷ 6 ∷ 0 ∷ 4 ∷ 0 ∷ 5 ∷ 5 ∷ 0 ∷ 2 ∷ 5 ∷ 2 ∷ 3
          ∷ 3 ∷ 2 ∷ 4 ∷ 5 ∷ 3 ∷ 6 ∷ 6 ∷ 3 ∷ 0 ∷ 6 ∷ [])
          (replicate 1024 (place 0 0 0 false));
    }
    ∷
    -- a loop of two places, which new makes longer; f leaves; three places are the peak, in full loops four: accepted
    record {
      bytes = (1 ∷ 0 ∷ 8 ∷ 0 ∷ 4 ∷ 0 ∷ 2 ∷ 0 ∷ 3 ∷ 0 ∷ 1 ∷ 2 ∷ 0 ∷ 3 ∷ 237 ∷ 134 ∷ 192 ∷ []);
      lent = unpack_lent (6 ∷ 6 ∷ 6 ∷ 6 ∷ 6 ∷ 6 ∷ 6 ∷ []) (replicate 1024 (place 3 1 2 true));
      answer = model_of 4 2 (totals_of 5 1 0 (pos 1));
      left = unpack_lent (0 ∷ 1 ∷ 2 ∷ 0 ∷ 2 ∷ 3 ∷ 6 ∷ []) (replicate 1024 (place 0 0 0 false));
    }
    ∷
    -- both places of an edge leave: accepted
    record {
      bytes = (1 ∷ 0 ∷ 8 ∷ 0 ∷ 4 ∷ 0 ∷ 2 ∷ 0 ∷ 4 ∷ 0 ∷ 1 ∷ 2 ∷ 0 ∷ 3 ∷ 236 ∷ 54 ∷ 192 ∷ []);
      lent = unpack_lent (6 ∷ 6 ∷ 6 ∷ 6 ∷ 6 ∷ 6 ∷ 6 ∷ []) (replicate 1024 (place 3 1 2 true));
      answer = model_of 4 2 (totals_of 5 1 0 (pos 1));
      left = unpack_lent (0 ∷ 1 ∷ 2 ∷ 2 ∷ 1 ∷ 3 ∷ 6 ∷ []) (replicate 1024 (place 0 0 0 false));
    }
    ∷
    -- split 1 across a link: accepted
    record {
      bytes = (1 ∷ 0 ∷ 8 ∷ 0 ∷ 6 ∷ 0 ∷ 6 ∷ 0 ∷ 6 ∷ 0 ∷ 2 ∷ 2 ∷ 0 ∷ 6 ∷ 225 ∷ 176 ∷ 196 ∷ 0 ∷ 89 ∷ 108 ∷ []);
      lent = unpack_lent (replicate 19 6) (replicate 1024 (place 3 1 2 true));
      answer = model_of 6 6 (totals_of 12 2 0 (pos 0));
      left = unpack_lent (0 ∷ 1 ∷ 2 ∷ 1 ∷ 0 ∷ 3 ∷ 0 ∷ 2 ∷ 4 ∷ 3 ∷ 0 ∷ 5 ∷ 3 ∷ 5 ∷ 2 ∷ 2 ∷ 5 ∷ 4 ∷ 6 ∷ [])
          (replicate 1024 (place 0 0 0 false));
    }
    ∷
    -- split of equal halves, next to a marked edge: accepted
    record {
      bytes = (1 ∷ 0 ∷ 8 ∷ 0 ∷ 5 ∷ 0 ∷ 5 ∷ 0 ∷ 6 ∷ 0 ∷ 2 ∷ 2 ∷ 0 ∷ 5 ∷ 225 ∷ 136 ∷ 1 ∷ 86 ∷ 192 ∷ []);
      lent = unpack_lent (replicate 16 6) (replicate 1024 (place 3 1 2 true));
      answer = model_of 5 5 (totals_of 9 1 0 (pos 1));
      left = unpack_lent (0 ∷ 1 ∷ 2 ∷ 1 ∷ 0 ∷ 3 ∷ 2 ∷ 1 ∷ 4 ∷ 2 ∷ 4 ∷ 3 ∷ 2 ∷ 3 ∷ 0 ∷ 6 ∷ []) (replicate 1024 (place 0 0 0 false));
    }
    ∷
    -- split 2 past a link; of halves equal in places the first goes on, in full loops the second would: accepted
    record {
      bytes = (1 ∷ 0 ∷ 8 ∷ 0 ∷ 6 ∷ 0 ∷ 6 ∷ 0 ∷ 6 ∷ 0 ∷ 2 ∷ 2 ∷ 0 ∷ 6 ∷ 225 ∷ 176 ∷ 196 ∷ 0 ∷ 147 ∷ 108 ∷ []);
      lent = unpack_lent (replicate 19 6) (replicate 1024 (place 3 1 2 true));
      answer = model_of 6 6 (totals_of 12 2 0 (pos 0));
      left = unpack_lent (0 ∷ 1 ∷ 2 ∷ 1 ∷ 0 ∷ 3 ∷ 0 ∷ 2 ∷ 4 ∷ 3 ∷ 0 ∷ 5 ∷ 3 ∷ 5 ∷ 4 ∷ 3 ∷ 4 ∷ 2 ∷ 6 ∷ [])
          (replicate 1024 (place 0 0 0 false));
    }
    ∷
    -- split 1; the first part has fewer places, in full loops as many: accepted
    record {
      bytes = (1 ∷ 0 ∷ 8 ∷ 0 ∷ 6 ∷ 0 ∷ 7 ∷ 0 ∷ 5 ∷ 0 ∷ 2 ∷ 2 ∷ 0 ∷ 5 ∷ 225 ∷ 176 ∷ 12 ∷ 0 ∷ 93 ∷ []);
      lent = unpack_lent (replicate 22 6) (replicate 1024 (place 3 1 2 true));
      answer = model_of 6 7 (totals_of 12 1 0 (pos 1));
      left = unpack_lent (0 ∷ 1 ∷ 2 ∷ 1 ∷ 0 ∷ 3 ∷ 0 ∷ 2 ∷ 4 ∷ 0 ∷ 4 ∷ 5 ∷ 0 ∷ 5 ∷ 3 ∷ 3 ∷ 5 ∷ 2 ∷ 2 ∷ 5 ∷ 4 ∷ 6 ∷ [])
          (replicate 1024 (place 0 0 0 false));
    }
    ∷
    -- split 1; the first part has fewer places, in full loops more: accepted
    record {
      bytes = (1 ∷ 0 ∷ 8 ∷ 0 ∷ 7 ∷ 0 ∷ 8 ∷ 0 ∷ 5 ∷ 0 ∷ 2 ∷ 2 ∷ 0 ∷ 6 ∷ 224 ∷ 54 ∷ 193 ∷ 16 ∷ 1 ∷ 116 ∷ []);
      lent = unpack_lent (replicate 25 6) (replicate 1024 (place 3 1 2 true));
      answer = model_of 7 8 (totals_of 14 1 0 (pos 1));
      left = unpack_lent (0 ∷ 1 ∷ 2 ∷ 1 ∷ 0 ∷ 3 ∷ 1 ∷ 3 ∷ 4 ∷ 3 ∷ 0 ∷ 5 ∷ 3 ∷ 5 ∷ 4 ∷ 4 ∷ 5 ∷ 6 ∷ 4 ∷ 6 ∷ 0 ∷ 0 ∷ 6 ∷ 5 ∷ 6 ∷ [])
          (replicate 1024 (place 0 0 0 false));
    }
    ∷
    -- split 2 where the edge after f is marked: accepted
    record {
      bytes = (1 ∷ 0 ∷ 8 ∷ 0 ∷ 6 ∷ 0 ∷ 6 ∷ 0 ∷ 7 ∷ 0 ∷ 2 ∷ 2 ∷ 0 ∷ 6 ∷ 236 ∷ 6 ∷ 32 ∷ 4 ∷ 217 ∷ 108 ∷ []);
      lent = unpack_lent (replicate 19 6) (replicate 1024 (place 3 1 2 true));
      answer = model_of 6 6 (totals_of 12 2 0 (pos 0));
      left = unpack_lent (0 ∷ 1 ∷ 2 ∷ 2 ∷ 1 ∷ 3 ∷ 2 ∷ 3 ∷ 4 ∷ 0 ∷ 2 ∷ 5 ∷ 0 ∷ 5 ∷ 3 ∷ 3 ∷ 5 ∷ 4 ∷ 6 ∷ [])
          (replicate 1024 (place 0 0 0 false));
    }
    ∷
    -- split k - 3 where the edge into e is marked: accepted
    record {
      bytes = (1 ∷ 0 ∷ 8 ∷ 0 ∷ 6 ∷ 0 ∷ 6 ∷ 0 ∷ 6 ∷ 0 ∷ 2 ∷ 2 ∷ 0 ∷ 5 ∷ 224 ∷ 6 ∷ 224 ∷ 5 ∷ 91 ∷ []);
      lent = unpack_lent (replicate 19 6) (replicate 1024 (place 3 1 2 true));
      answer = model_of 6 6 (totals_of 11 1 0 (pos 1));
      left = unpack_lent (0 ∷ 1 ∷ 2 ∷ 1 ∷ 0 ∷ 3 ∷ 1 ∷ 3 ∷ 4 ∷ 1 ∷ 4 ∷ 5 ∷ 0 ∷ 2 ∷ 4 ∷ 0 ∷ 4 ∷ 3 ∷ 6 ∷ [])
          (replicate 1024 (place 0 0 0 false));
    }
    ∷
    -- seven places, in full loops six: the other half of the split goes on: accepted
    record {
      bytes = (1 ∷ 0 ∷ 8 ∷ 0 ∷ 7 ∷ 0 ∷ 7 ∷ 0 ∷ 7 ∷ 0 ∷ 2 ∷ 2 ∷ 0 ∷ 6 ∷ 224 ∷ 55 ∷ 0 ∷ 32 ∷ 27 ∷ 116 ∷ []);
      lent = unpack_lent (replicate 22 6) (replicate 1024 (place 3 1 2 true));
      answer = model_of 7 7 (totals_of 13 1 0 (pos 1));
      left = unpack_lent (0 ∷ 1 ∷ 2 ∷ 1 ∷ 0 ∷ 3 ∷ 1 ∷ 3 ∷ 4 ∷ 0 ∷ 2 ∷ 4 ∷ 4 ∷ 2 ∷ 5 ∷ 4 ∷ 5 ∷ 6 ∷ 0 ∷ 4 ∷ 3 ∷ 6 ∷ [])
          (replicate 1024 (place 0 0 0 false));
    }
    ∷
    -- union from a loop of two places, with j = 0: accepted
    record {
      bytes = (1 ∷ 0 ∷ 8 ∷ 0 ∷ 6 ∷ 0 ∷ 8 ∷ 0 ∷ 7 ∷ 0 ∷ 2 ∷ 2 ∷ 0 ∷ 9 ∷ 236 ∷ 49 ∷ 0 ∷ 32 ∷ 206 ∷ 2 ∷ 0 ∷ 38 ∷ 216 ∷ []);
      lent = unpack_lent (replicate 25 6) (replicate 1024 (place 3 1 2 true));
      answer = model_of 6 8 (totals_of 15 1 1 (negsuc 0));
      left = unpack_lent (0 ∷ 1 ∷ 2 ∷ 2 ∷ 1 ∷ 3 ∷ 0 ∷ 2 ∷ 4 ∷ 0 ∷ 4 ∷ 3 ∷ 0 ∷ 3 ∷ 5 ∷ 3 ∷ 1 ∷ 5 ∷ 5 ∷ 1 ∷ 4 ∷ 5 ∷ 4 ∷ 2 ∷ 6 ∷ [])
          (replicate 1024 (place 0 0 0 false));
    }
    ∷
    -- union and split past a link: accepted
    record {
      bytes = (1 ∷ 0 ∷ 8 ∷ 0 ∷ 7 ∷ 0 ∷ 9 ∷ 0 ∷ 7 ∷ 0 ∷ 2 ∷ 2 ∷ 0 ∷ 10 ∷ 224 ∷ 54 ∷ 3 ∷ 112 ∷ 3 ∷ 192 ∷ 64 ∷ 38 ∷ 89 ∷ 96 ∷ []);
      lent = unpack_lent (replicate 28 6) (replicate 1024 (place 3 1 2 true));
      answer = model_of 7 9 (totals_of 17 1 1 (negsuc 0));
      left = unpack_lent
          (0 ∷ 1 ∷ 2 ∷ 1 ∷ 0 ∷ 3 ∷ 1 ∷ 3 ∷ 4 ∷ 0 ∷ 2 ∷ 5 ∷ 0 ∷ 5 ∷ 6 ∷ 4 ∷ 3 ∷ 6 ∷ 6 ∷ 3 ∷ 2 ∷ 2 ∷ 3 ∷ 5 ∷ 6 ∷ 5 ∷ 4 ∷ 6 ∷ [])
          (replicate 1024 (place 0 0 0 false));
    }
    ∷
    -- union 2 of two waiting loops, in shortened loops: accepted
    record {
      bytes = (1 ∷ 0 ∷ 8 ∷ 0 ∷ 8 ∷ 0 ∷ 11 ∷ 0 ∷ 10 ∷ 0 ∷ 3 ∷ 2 ∷ 0 ∷ 12 ∷ 236 ∷ 48 ∷ 32 ∷ 4 ∷ 3 ∷ 128 ∷ 22 ∷ 4 ∷ 1 ∷ 166 ∷ 219 ∷ 160 ∷ []);
      lent = unpack_lent (replicate 34 6) (replicate 1024 (place 3 1 2 true));
      answer = model_of 8 11 (totals_of 20 1 1 (negsuc 0));
      left = unpack_lent
          (0 ∷ 1 ∷ 2 ∷ 2 ∷ 1 ∷ 3 ∷ 0 ∷ 2 ∷ 4 ∷ 0 ∷ 4 ∷ 5 ∷ 0 ∷ 5 ∷ 3 ∷ 0 ∷ 3 ∷ 6 ∷ 0 ∷ 6 ∷ 7 ∷ 3 ∷ 1 ∷ 7 ∷ 7 ∷ 1 ∷ 4 ∷ 7 ∷ 4 ∷ 2 ∷ 3 ∷ 7 ∷ 6
          ∷ 6 ∷ [])
          (replicate 1024 (place 0 0 0 false));
    }
    ∷
    -- union to c that has a place in the current loop too, before it: accepted
    record {
      bytes = (1 ∷ 0 ∷ 8 ∷ 0 ∷ 8 ∷ 0 ∷ 10 ∷ 0 ∷ 10 ∷ 0 ∷ 2 ∷ 2 ∷ 0 ∷ 11 ∷ 224 ∷ 6 ∷ 32 ∷ 6 ∷ 198 ∷ 2 ∷ 0 ∷ 166 ∷ 219 ∷ 45 ∷ 128 ∷ []);
      lent = unpack_lent (replicate 31 6) (replicate 1024 (place 3 1 2 true));
      answer = model_of 8 10 (totals_of 19 1 1 (negsuc 0));
      left = unpack_lent
          (0 ∷ 1 ∷ 2 ∷ 1 ∷ 0 ∷ 3 ∷ 1 ∷ 3 ∷ 4 ∷ 1 ∷ 4 ∷ 5 ∷ 2 ∷ 1 ∷ 6 ∷ 2 ∷ 6 ∷ 4 ∷ 0 ∷ 2 ∷ 7 ∷ 0 ∷ 7 ∷ 4 ∷ 0 ∷ 4 ∷ 6 ∷ 4 ∷ 7 ∷ 5 ∷ 6 ∷ [])
          (replicate 1024 (place 0 0 0 false));
    }
    ∷
    -- split to c that has an earlier place in the loop: the first place that has c does not do: accepted
    record {
      bytes = (1 ∷ 0 ∷ 8 ∷ 0 ∷ 8 ∷ 0 ∷ 11 ∷ 0 ∷ 10 ∷ 0 ∷ 2 ∷ 2 ∷ 0 ∷ 12 ∷ 224 ∷ 0 ∷ 27 ∷ 128 ∷ 27 ∷ 192 ∷ 64 ∷ 56 ∷ 3 ∷ 84 ∷ 219 ∷ 96 ∷ []);
      lent = unpack_lent (replicate 34 6) (replicate 1024 (place 3 1 2 true));
      answer = model_of 8 11 (totals_of 20 1 1 (negsuc 0));
      left = unpack_lent
          (0 ∷ 1 ∷ 2 ∷ 1 ∷ 0 ∷ 3 ∷ 1 ∷ 3 ∷ 4 ∷ 1 ∷ 4 ∷ 5 ∷ 1 ∷ 5 ∷ 6 ∷ 1 ∷ 6 ∷ 7 ∷ 0 ∷ 2 ∷ 5 ∷ 3 ∷ 0 ∷ 7 ∷ 3 ∷ 7 ∷ 5 ∷ 5 ∷ 7 ∷ 6 ∷ 3 ∷ 5 ∷ 2
          ∷ 6 ∷ [])
          (replicate 1024 (place 0 0 0 false));
    }
    ∷
    -- split to c that has a later place in the loop: accepted
    record {
      bytes =
          (1 ∷ 0 ∷ 8 ∷ 0 ∷ 9 ∷ 0 ∷ 13 ∷ 0 ∷ 10 ∷ 0 ∷ 2 ∷ 2 ∷ 0 ∷ 13 ∷ 224 ∷ 0 ∷ 220 ∷ 0 ∷ 240 ∷ 16 ∷ 8 ∷ 17 ∷ 0 ∷ 36 ∷ 219 ∷ 108 ∷ 182
          ∷ []);
      lent = unpack_lent (replicate 40 6) (replicate 1024 (place 3 1 2 true));
      answer = model_of 9 13 (totals_of 24 2 1 (negsuc 1));
      left = unpack_lent
          (0 ∷ 1 ∷ 2 ∷ 1 ∷ 0 ∷ 3 ∷ 1 ∷ 3 ∷ 4 ∷ 1 ∷ 4 ∷ 5 ∷ 1 ∷ 5 ∷ 6 ∷ 0 ∷ 2 ∷ 5 ∷ 5 ∷ 2 ∷ 3 ∷ 5 ∷ 3 ∷ 7 ∷ 5 ∷ 7 ∷ 6 ∷ 6 ∷ 7 ∷ 8 ∷ 6 ∷ 8 ∷ 3
          ∷ 6 ∷ 3 ∷ 2 ∷ 3 ∷ 0 ∷ 7 ∷ 6 ∷ [])
          (replicate 1024 (place 0 0 0 false));
    }
    ∷
    -- backward to c that has an earlier place in the loop: accepted
    record {
      bytes = (1 ∷ 0 ∷ 8 ∷ 0 ∷ 8 ∷ 0 ∷ 10 ∷ 0 ∷ 9 ∷ 0 ∷ 2 ∷ 2 ∷ 0 ∷ 11 ∷ 224 ∷ 6 ∷ 32 ∷ 6 ∷ 240 ∷ 16 ∷ 9 ∷ 6 ∷ 219 ∷ 101 ∷ 128 ∷ []);
      lent = unpack_lent (replicate 31 6) (replicate 1024 (place 3 1 2 true));
      answer = model_of 8 10 (totals_of 19 1 1 (negsuc 0));
      left = unpack_lent
          (0 ∷ 1 ∷ 2 ∷ 1 ∷ 0 ∷ 3 ∷ 1 ∷ 3 ∷ 4 ∷ 1 ∷ 4 ∷ 5 ∷ 2 ∷ 1 ∷ 6 ∷ 2 ∷ 6 ∷ 4 ∷ 0 ∷ 2 ∷ 5 ∷ 0 ∷ 5 ∷ 4 ∷ 0 ∷ 4 ∷ 7 ∷ 4 ∷ 6 ∷ 7 ∷ 6 ∷ [])
          (replicate 1024 (place 0 0 0 false));
    }
    ∷
    -- forward to c that has a later place in the loop: accepted
    record {
      bytes = (1 ∷ 0 ∷ 8 ∷ 0 ∷ 7 ∷ 0 ∷ 9 ∷ 0 ∷ 9 ∷ 0 ∷ 2 ∷ 2 ∷ 0 ∷ 10 ∷ 224 ∷ 48 ∷ 224 ∷ 5 ∷ 128 ∷ 128 ∷ 97 ∷ 178 ∷ 217 ∷ 96 ∷ []);
      lent = unpack_lent (replicate 28 6) (replicate 1024 (place 3 1 2 true));
      answer = model_of 7 9 (totals_of 17 1 1 (negsuc 0));
      left = unpack_lent
          (0 ∷ 1 ∷ 2 ∷ 1 ∷ 0 ∷ 3 ∷ 1 ∷ 3 ∷ 4 ∷ 2 ∷ 1 ∷ 5 ∷ 0 ∷ 2 ∷ 4 ∷ 0 ∷ 4 ∷ 5 ∷ 0 ∷ 5 ∷ 6 ∷ 4 ∷ 3 ∷ 5 ∷ 5 ∷ 1 ∷ 6 ∷ 6 ∷ [])
          (replicate 1024 (place 0 0 0 false));
    }
    ∷
    -- turning about c through more triangles than its number: accepted
    record {
      bytes =
          (1 ∷ 0 ∷ 8 ∷ 0 ∷ 9 ∷ 0 ∷ 17 ∷ 0 ∷ 10 ∷ 0 ∷ 2 ∷ 2 ∷ 0 ∷ 14 ∷ 224 ∷ 0 ∷ 9 ∷ 128 ∷ 22 ∷ 2 ∷ 1 ∷ 177 ∷ 0 ∷ 84 ∷ 220 ∷ 0 ∷ 234 ∷ 160
          ∷ []);
      lent = unpack_lent (replicate 52 6) (replicate 1024 (place 3 1 2 true));
      answer = model_of 9 17 (totals_of 27 1 1 (negsuc 0));
      left = unpack_lent
          (0 ∷ 1 ∷ 2 ∷ 1 ∷ 0 ∷ 3 ∷ 1 ∷ 3 ∷ 4 ∷ 1 ∷ 4 ∷ 5 ∷ 1 ∷ 5 ∷ 6 ∷ 1 ∷ 6 ∷ 7 ∷ 1 ∷ 7 ∷ 2 ∷ 2 ∷ 7 ∷ 0 ∷ 0 ∷ 7 ∷ 4 ∷ 0 ∷ 4 ∷ 6 ∷ 3 ∷ 0 ∷ 8
          ∷ 3 ∷ 8 ∷ 5 ∷ 5 ∷ 8 ∷ 0 ∷ 3 ∷ 5 ∷ 7 ∷ 7 ∷ 5 ∷ 4 ∷ 3 ∷ 7 ∷ 6 ∷ 3 ∷ 6 ∷ 4 ∷ 6 ∷ [])
          (replicate 1024 (place 0 0 0 false));
    }
    ∷
    -- the last place of a loop has the vertex that is looked for, and its edge leads to another: accepted
    record {
      bytes =
          (1 ∷ 0 ∷ 8 ∷ 0 ∷ 9 ∷ 0 ∷ 17 ∷ 0 ∷ 10 ∷ 0 ∷ 2 ∷ 2 ∷ 0 ∷ 14 ∷ 224 ∷ 0 ∷ 216 ∷ 128 ∷ 24 ∷ 56 ∷ 8 ∷ 5 ∷ 0 ∷ 106 ∷ 84 ∷ 0 ∷ 169 ∷ 96
          ∷ []);
      lent = unpack_lent (replicate 52 6) (replicate 1024 (place 3 1 2 true));
      answer = model_of 9 17 (totals_of 27 1 1 (negsuc 0));
      left = unpack_lent
          (0 ∷ 1 ∷ 2 ∷ 1 ∷ 0 ∷ 3 ∷ 1 ∷ 3 ∷ 4 ∷ 1 ∷ 4 ∷ 5 ∷ 1 ∷ 5 ∷ 6 ∷ 0 ∷ 2 ∷ 7 ∷ 0 ∷ 7 ∷ 5 ∷ 0 ∷ 5 ∷ 8 ∷ 0 ∷ 8 ∷ 3 ∷ 3 ∷ 8 ∷ 6 ∷ 3 ∷ 6 ∷ 7
          ∷ 7 ∷ 6 ∷ 5 ∷ 3 ∷ 7 ∷ 4 ∷ 4 ∷ 7 ∷ 2 ∷ 4 ∷ 2 ∷ 8 ∷ 4 ∷ 8 ∷ 5 ∷ 8 ∷ 2 ∷ 6 ∷ 6 ∷ [])
          (replicate 1024 (place 0 0 0 false));
    }
    ∷
    -- turning about c through more triangles than the loop has places: accepted
    record {
      bytes =
          (1 ∷ 0 ∷ 8 ∷ 0 ∷ 17 ∷ 0 ∷ 23 ∷ 0 ∷ 10 ∷ 0 ∷ 3 ∷ 2 ∷ 0 ∷ 16 ∷ 224 ∷ 128 ∷ 196 ∷ 0 ∷ 128 ∷ 13 ∷ 184 ∷ 1 ∷ 6 ∷ 195 ∷ 101 ∷ 128 ∷ 0
          ∷ 45 ∷ 146 ∷ 203 ∷ []);
      lent = unpack_lent (replicate 70 6) (replicate 1024 (place 3 1 2 true));
      answer = model_of 17 23 (totals_of 41 3 0 (negsuc 0));
      left = unpack_lent
          (0 ∷ 1 ∷ 2 ∷ 1 ∷ 0 ∷ 3 ∷ 1 ∷ 3 ∷ 2 ∷ 2 ∷ 3 ∷ 4 ∷ 2 ∷ 4 ∷ 5 ∷ 0 ∷ 2 ∷ 6 ∷ 0 ∷ 6 ∷ 4 ∷ 0 ∷ 4 ∷ 7 ∷ 0 ∷ 7 ∷ 8 ∷ 0 ∷ 8 ∷ 9 ∷ 7 ∷ 4 ∷ 9
          ∷ 9 ∷ 4 ∷ 10 ∷ 7 ∷ 9 ∷ 11 ∷ 9 ∷ 8 ∷ 11 ∷ 4 ∷ 6 ∷ 12 ∷ 4 ∷ 12 ∷ 13 ∷ 4 ∷ 13 ∷ 14 ∷ 4 ∷ 14 ∷ 15 ∷ 4 ∷ 15 ∷ 16 ∷ 4 ∷ 16 ∷ 5 ∷ 12 ∷ 6
          ∷ 13 ∷ 13 ∷ 6 ∷ 14 ∷ 15 ∷ 14 ∷ 16 ∷ 6 ∷ [])
          (replicate 1024 (place 0 0 0 false));
    }
    ∷
    -- two pieces listed in turn: the order is 0 2 1 3: accepted
    record {
      bytes = (1 ∷ 0 ∷ 8 ∷ 0 ∷ 8 ∷ 0 ∷ 4 ∷ 0 ∷ 4 ∷ 0 ∷ 1 ∷ 2 ∷ 0 ∷ 5 ∷ 225 ∷ 182 ∷ 248 ∷ 109 ∷ 176 ∷ []);
      lent = unpack_lent (replicate 13 6) (replicate 1024 (place 3 1 2 true));
      answer = model_of 8 4 (totals_of 10 2 0 (pos 2));
      left = unpack_lent (0 ∷ 1 ∷ 2 ∷ 1 ∷ 0 ∷ 3 ∷ 4 ∷ 5 ∷ 6 ∷ 5 ∷ 4 ∷ 7 ∷ 6 ∷ []) (replicate 1024 (place 0 0 0 false));
    }
    ∷
    -- buffers just long enough: accepted
    record {
      bytes = (1 ∷ 0 ∷ 8 ∷ 0 ∷ 3 ∷ 0 ∷ 1 ∷ 0 ∷ 3 ∷ 0 ∷ 1 ∷ 2 ∷ 0 ∷ 2 ∷ 237 ∷ 176 ∷ []);
      lent = unpack_lent (6 ∷ 6 ∷ 6 ∷ []) (replicate 1024 (place 3 1 2 true));
      answer = model_of 3 1 (totals_of 3 1 0 (pos 1));
      left = unpack_lent (0 ∷ 1 ∷ 2 ∷ []) (replicate 1024 (place 0 0 0 false));
    }
    ∷
    -- 12 before 13: refusal 12
    record {
      bytes = (1 ∷ 0 ∷ 8 ∷ 0 ∷ 2 ∷ 0 ∷ 1 ∷ 0 ∷ 3 ∷ 0 ∷ 1 ∷ 2 ∷ 0 ∷ 2 ∷ 237 ∷ 176 ∷ 0 ∷ []);
      lent = unpack_lent (replicate 32 6) (replicate 1024 (place 3 1 2 true));
      answer = refusal 12;
      left = unpack_lent (replicate 32 6) (replicate 1024 (place 3 1 2 true));
    }
    ∷
    -- 13 before 14: refusal 13
    record {
      bytes = (1 ∷ 0 ∷ 8 ∷ 0 ∷ 2 ∷ 0 ∷ 1 ∷ 0 ∷ 3 ∷ 0 ∷ 1 ∷ 2 ∷ 0 ∷ 2 ∷ 237 ∷ 176 ∷ []);
      lent = unpack_lent [] (replicate 1024 (place 3 1 2 true));
      answer = refusal 13;
      left = unpack_lent [] (replicate 1024 (place 3 1 2 true));
    }
    ∷
    -- 14: triangles: refusal 14
    record {
      bytes = (1 ∷ 0 ∷ 8 ∷ 0 ∷ 3 ∷ 0 ∷ 1 ∷ 0 ∷ 3 ∷ 0 ∷ 1 ∷ 2 ∷ 0 ∷ 2 ∷ 237 ∷ 176 ∷ []);
      lent = unpack_lent (6 ∷ 6 ∷ []) (replicate 1024 (place 3 1 2 true));
      answer = refusal 14;
      left = unpack_lent (6 ∷ 6 ∷ []) (replicate 1024 (place 3 1 2 true));
    }
    ∷
    -- 14: places: refusal 14
    record {
      bytes = (1 ∷ 0 ∷ 8 ∷ 0 ∷ 3 ∷ 0 ∷ 1 ∷ 0 ∷ 3 ∷ 0 ∷ 1 ∷ 2 ∷ 0 ∷ 2 ∷ 237 ∷ 176 ∷ []);
      lent = unpack_lent (6 ∷ 6 ∷ 6 ∷ []) (replicate 1023 (place 3 1 2 true));
      answer = refusal 14;
      left = unpack_lent (6 ∷ 6 ∷ 6 ∷ []) (replicate 1023 (place 3 1 2 true));
    }
    ∷
    -- 14 before 15: refusal 14
    record {
      bytes = (1 ∷ 0 ∷ 8 ∷ 0 ∷ 3 ∷ 0 ∷ 1 ∷ 0 ∷ 3 ∷ 0 ∷ 1 ∷ 2 ∷ 0 ∷ 0 ∷ []);
      lent = unpack_lent (6 ∷ 6 ∷ []) (replicate 1024 (place 3 1 2 true));
      answer = refusal 14;
      left = unpack_lent (6 ∷ 6 ∷ []) (replicate 1024 (place 3 1 2 true));
    }
    ∷
    -- 16 before 17: forward in a loop of three: refusal 16
    record {
      bytes = (1 ∷ 0 ∷ 8 ∷ 0 ∷ 3 ∷ 0 ∷ 1 ∷ 0 ∷ 3 ∷ 0 ∷ 1 ∷ 2 ∷ 0 ∷ 1 ∷ 228 ∷ []);
      lent = unpack_lent (6 ∷ 6 ∷ 6 ∷ []) (replicate 1024 (place 3 1 2 true));
      answer = refusal 16;
      left = unpack_lent (0 ∷ 0 ∷ 0 ∷ []) (replicate 1024 (place 0 0 0 false));
    }
    ∷
    -- 17 before 18: M10 with too few places: refusal 17
    record {
      bytes = (1 ∷ 0 ∷ 8 ∷ 0 ∷ 5 ∷ 0 ∷ 4 ∷ 0 ∷ 5 ∷ 0 ∷ 2 ∷ 2 ∷ 0 ∷ 3 ∷ 224 ∷ 64 ∷ 8 ∷ []);
      lent = unpack_lent (replicate 12 6) (replicate 1024 (place 3 1 2 true));
      answer = refusal 17;
      left = unpack_lent (replicate 12 0) (replicate 1024 (place 0 0 0 false));
    }
    ∷
    -- 18 before 19: M10 with a vertex too many: refusal 18
    record {
      bytes = (1 ∷ 0 ∷ 8 ∷ 0 ∷ 6 ∷ 0 ∷ 4 ∷ 0 ∷ 6 ∷ 0 ∷ 2 ∷ 2 ∷ 0 ∷ 3 ∷ 224 ∷ 64 ∷ 8 ∷ []);
      lent = unpack_lent (replicate 12 6) (replicate 1024 (place 3 1 2 true));
      answer = refusal 18;
      left = unpack_lent (replicate 12 0) (replicate 1024 (place 0 0 0 false));
    }
    ∷
    -- a field after tag 02: refusal 12
    record {
      bytes = (1 ∷ 0 ∷ 8 ∷ 0 ∷ 3 ∷ 0 ∷ 1 ∷ 0 ∷ 3 ∷ 0 ∷ 1 ∷ 2 ∷ 0 ∷ 2 ∷ 237 ∷ 176 ∷ 3 ∷ 0 ∷ 0 ∷ []);
      lent = unpack_lent (replicate 32 6) (replicate 1024 (place 3 1 2 true));
      answer = refusal 12;
      left = unpack_lent (replicate 32 6) (replicate 1024 (place 3 1 2 true));
    }
    ∷
    -- counts of 4,096, 8,192, 1,024 and 100, and no operations: refusal 15
    record {
      bytes = (1 ∷ 0 ∷ 8 ∷ 16 ∷ 0 ∷ 32 ∷ 0 ∷ 4 ∷ 0 ∷ 0 ∷ 100 ∷ 2 ∷ 0 ∷ 0 ∷ []);
      lent = unpack_lent (replicate 24576 6) (replicate 1024 (place 3 1 2 true));
      answer = refusal 15;
      left = unpack_lent (replicate 24576 0) (replicate 1024 (place 0 0 0 false));
    }
    ∷
    -- eight bits left over: refusal 19
    record {
      bytes = (1 ∷ 0 ∷ 8 ∷ 0 ∷ 6 ∷ 0 ∷ 2 ∷ 0 ∷ 3 ∷ 0 ∷ 1 ∷ 2 ∷ 0 ∷ 4 ∷ 237 ∷ 190 ∷ 219 ∷ 0 ∷ []);
      lent = unpack_lent (replicate 32 6) (replicate 1024 (place 3 1 2 true));
      answer = refusal 19;
      left = unpack_lent ((0 ∷ 0 ∷ 0 ∷ 0 ∷ 0 ∷ 0 ∷ []) ++ replicate 26 6) (replicate 1024 (place 0 0 0 false));
    }
    ∷
    -- five fill bits, the first is one: refusal 19
    record {
      bytes = (1 ∷ 0 ∷ 8 ∷ 0 ∷ 3 ∷ 0 ∷ 2 ∷ 0 ∷ 3 ∷ 0 ∷ 1 ∷ 2 ∷ 0 ∷ 1 ∷ 245 ∷ []);
      lent = unpack_lent (replicate 32 6) (replicate 1024 (place 3 1 2 true));
      answer = refusal 19;
      left = unpack_lent ((0 ∷ 0 ∷ 0 ∷ 0 ∷ 0 ∷ 0 ∷ []) ++ replicate 26 6) (replicate 1024 (place 0 0 0 false));
    }
    ∷
    -- 20: the shortest: refusal 20
    record {
      bytes = (1 ∷ 0 ∷ 8 ∷ 0 ∷ 5 ∷ 0 ∷ 4 ∷ 0 ∷ 5 ∷ 0 ∷ 2 ∷ 2 ∷ 0 ∷ 5 ∷ 224 ∷ 55 ∷ 0 ∷ 38 ∷ 219 ∷ []);
      lent = unpack_lent (replicate 32 6) (replicate 1024 (place 3 1 2 true));
      answer = refusal 20;
      left = unpack_lent (replicate 12 0 ++ replicate 20 6) (replicate 1024 (place 0 0 0 false));
    }
    ∷
    -- 20: the shortest: refusal 20
    record {
      bytes = (1 ∷ 0 ∷ 8 ∷ 0 ∷ 5 ∷ 0 ∷ 4 ∷ 0 ∷ 5 ∷ 0 ∷ 2 ∷ 2 ∷ 0 ∷ 5 ∷ 225 ∷ 134 ∷ 224 ∷ 4 ∷ 219 ∷ []);
      lent = unpack_lent (replicate 32 6) (replicate 1024 (place 3 1 2 true));
      answer = refusal 20;
      left = unpack_lent (replicate 12 0 ++ replicate 20 6) (replicate 1024 (place 0 0 0 false));
    }
    ∷
    -- 20: the shortest: refusal 20
    record {
      bytes = (1 ∷ 0 ∷ 8 ∷ 0 ∷ 5 ∷ 0 ∷ 4 ∷ 0 ∷ 6 ∷ 0 ∷ 2 ∷ 2 ∷ 0 ∷ 5 ∷ 225 ∷ 136 ∷ 1 ∷ 54 ∷ 219 ∷ []);
      lent = unpack_lent (replicate 32 6) (replicate 1024 (place 3 1 2 true));
      answer = refusal 20;
      left = unpack_lent (replicate 12 0 ++ replicate 20 6) (replicate 1024 (place 0 0 0 false));
    }
    ∷
    -- 20: the shortest: refusal 20
    record {
      bytes = (1 ∷ 0 ∷ 8 ∷ 0 ∷ 5 ∷ 0 ∷ 4 ∷ 0 ∷ 5 ∷ 0 ∷ 2 ∷ 2 ∷ 0 ∷ 5 ∷ 236 ∷ 48 ∷ 224 ∷ 4 ∷ 219 ∷ []);
      lent = unpack_lent (replicate 32 6) (replicate 1024 (place 3 1 2 true));
      answer = refusal 20;
      left = unpack_lent (replicate 12 0 ++ replicate 20 6) (replicate 1024 (place 0 0 0 false));
    }
    ∷
    -- 20: the shortest: refusal 20
    record {
      bytes = (1 ∷ 0 ∷ 8 ∷ 0 ∷ 5 ∷ 0 ∷ 4 ∷ 0 ∷ 6 ∷ 0 ∷ 2 ∷ 2 ∷ 0 ∷ 5 ∷ 236 ∷ 49 ∷ 0 ∷ 38 ∷ 219 ∷ []);
      lent = unpack_lent (replicate 32 6) (replicate 1024 (place 3 1 2 true));
      answer = refusal 20;
      left = unpack_lent (replicate 12 0 ++ replicate 20 6) (replicate 1024 (place 0 0 0 false));
    }
    ∷
    -- 20: a place of the vertex left, the other ended in a rim later: refusal 20
    record {
      bytes = (1 ∷ 0 ∷ 8 ∷ 0 ∷ 6 ∷ 0 ∷ 5 ∷ 0 ∷ 7 ∷ 0 ∷ 2 ∷ 2 ∷ 0 ∷ 6 ∷ 225 ∷ 134 ∷ 32 ∷ 6 ∷ 219 ∷ 108 ∷ []);
      lent = unpack_lent (replicate 32 6) (replicate 1024 (place 3 1 2 true));
      answer = refusal 20;
      left = unpack_lent (replicate 15 0 ++ replicate 17 6) (replicate 1024 (place 0 0 0 false));
    }
    ∷
    -- 20: both places of the vertex left: refusal 20
    record {
      bytes = (1 ∷ 0 ∷ 8 ∷ 0 ∷ 7 ∷ 0 ∷ 6 ∷ 0 ∷ 8 ∷ 0 ∷ 2 ∷ 2 ∷ 0 ∷ 7 ∷ 225 ∷ 136 ∷ 1 ∷ 0 ∷ 219 ∷ 109 ∷ 176 ∷ []);
      lent = unpack_lent (replicate 32 6) (replicate 1024 (place 3 1 2 true));
      answer = refusal 20;
      left = unpack_lent (replicate 18 0 ++ replicate 14 6) (replicate 1024 (place 0 0 0 false));
    }
    ∷
    -- 19 before 20: a vertex too many: refusal 19
    record {
      bytes = (1 ∷ 0 ∷ 8 ∷ 0 ∷ 6 ∷ 0 ∷ 4 ∷ 0 ∷ 5 ∷ 0 ∷ 2 ∷ 2 ∷ 0 ∷ 5 ∷ 225 ∷ 134 ∷ 224 ∷ 4 ∷ 219 ∷ []);
      lent = unpack_lent (replicate 32 6) (replicate 1024 (place 3 1 2 true));
      answer = refusal 19;
      left = unpack_lent (replicate 12 0 ++ replicate 20 6) (replicate 1024 (place 0 0 0 false));
    }
    ∷
    -- 19: the peak in full loops is stated: refusal 19
    record {
      bytes = (1 ∷ 0 ∷ 8 ∷ 0 ∷ 4 ∷ 0 ∷ 2 ∷ 0 ∷ 4 ∷ 0 ∷ 1 ∷ 2 ∷ 0 ∷ 3 ∷ 237 ∷ 134 ∷ 192 ∷ []);
      lent = unpack_lent (replicate 32 6) (replicate 1024 (place 3 1 2 true));
      answer = refusal 19;
      left = unpack_lent ((0 ∷ 0 ∷ 0 ∷ 0 ∷ 0 ∷ 0 ∷ []) ++ replicate 26 6) (replicate 1024 (place 0 0 0 false));
    }
    ∷
    -- 12: tag 00 for 01: refusal 12
    record {
      bytes = (0 ∷ 0 ∷ 8 ∷ 0 ∷ 3 ∷ 0 ∷ 1 ∷ 0 ∷ 3 ∷ 0 ∷ 1 ∷ 2 ∷ 0 ∷ 2 ∷ 237 ∷ 176 ∷ []);
      lent = unpack_lent (replicate 32 6) (replicate 1024 (place 3 1 2 true));
      answer = refusal 12;
      left = unpack_lent (replicate 32 6) (replicate 1024 (place 3 1 2 true));
    }
    ∷
    -- 12: tag 01 for 02: refusal 12
    record {
      bytes = (1 ∷ 0 ∷ 8 ∷ 0 ∷ 3 ∷ 0 ∷ 1 ∷ 0 ∷ 3 ∷ 0 ∷ 1 ∷ 1 ∷ 0 ∷ 2 ∷ 237 ∷ 176 ∷ []);
      lent = unpack_lent (replicate 32 6) (replicate 1024 (place 3 1 2 true));
      answer = refusal 12;
      left = unpack_lent (replicate 32 6) (replicate 1024 (place 3 1 2 true));
    }
    ∷
    -- 12: tag 03 for 02: refusal 12
    record {
      bytes = (1 ∷ 0 ∷ 8 ∷ 0 ∷ 3 ∷ 0 ∷ 1 ∷ 0 ∷ 3 ∷ 0 ∷ 1 ∷ 3 ∷ 0 ∷ 2 ∷ 237 ∷ 176 ∷ []);
      lent = unpack_lent (replicate 32 6) (replicate 1024 (place 3 1 2 true));
      answer = refusal 12;
      left = unpack_lent (replicate 32 6) (replicate 1024 (place 3 1 2 true));
    }
    ∷
    -- 12: a length of 264: refusal 12
    record {
      bytes = (1 ∷ 1 ∷ 8 ∷ 0 ∷ 3 ∷ 0 ∷ 1 ∷ 0 ∷ 3 ∷ 0 ∷ 1 ∷ 2 ∷ 0 ∷ 2 ∷ 237 ∷ 176 ∷ []);
      lent = unpack_lent (replicate 32 6) (replicate 1024 (place 3 1 2 true));
      answer = refusal 12;
      left = unpack_lent (replicate 32 6) (replicate 1024 (place 3 1 2 true));
    }
    ∷
    -- 12: a length of 258: refusal 12
    record {
      bytes = (1 ∷ 0 ∷ 8 ∷ 0 ∷ 3 ∷ 0 ∷ 1 ∷ 0 ∷ 3 ∷ 0 ∷ 1 ∷ 2 ∷ 1 ∷ 2 ∷ 237 ∷ 176 ∷ []);
      lent = unpack_lent (replicate 32 6) (replicate 1024 (place 3 1 2 true));
      answer = refusal 12;
      left = unpack_lent (replicate 32 6) (replicate 1024 (place 3 1 2 true));
    }
    ∷
    -- 15: a union breaks off inside p: refusal 15
    record {
      bytes = (1 ∷ 0 ∷ 8 ∷ 0 ∷ 9 ∷ 0 ∷ 9 ∷ 0 ∷ 9 ∷ 0 ∷ 9 ∷ 2 ∷ 0 ∷ 1 ∷ 248 ∷ []);
      lent = unpack_lent (replicate 32 6) (replicate 1024 (place 3 1 2 true));
      answer = refusal 15;
      left = unpack_lent (replicate 27 0 ++ (6 ∷ 6 ∷ 6 ∷ 6 ∷ 6 ∷ [])) (replicate 1024 (place 0 0 0 false));
    }
    ∷
    -- 15: a union breaks off inside j: refusal 15
    record {
      bytes = (1 ∷ 0 ∷ 8 ∷ 0 ∷ 9 ∷ 0 ∷ 9 ∷ 0 ∷ 9 ∷ 0 ∷ 9 ∷ 2 ∷ 0 ∷ 2 ∷ 248 ∷ 8 ∷ []);
      lent = unpack_lent (replicate 32 6) (replicate 1024 (place 3 1 2 true));
      answer = refusal 15;
      left = unpack_lent (replicate 27 0 ++ (6 ∷ 6 ∷ 6 ∷ 6 ∷ 6 ∷ [])) (replicate 1024 (place 0 0 0 false));
    }
    ∷
    -- a field of 256 bytes: refusal 19
    record {
      bytes = ((1 ∷ 0 ∷ 8 ∷ 0 ∷ 3 ∷ 0 ∷ 1 ∷ 0 ∷ 3 ∷ 0 ∷ 1 ∷ 2 ∷ 1 ∷ 0 ∷ 237 ∷ 176 ∷ []) ++ replicate 254 0);
      lent = unpack_lent (replicate 32 6) (replicate 1024 (place 3 1 2 true));
      answer = refusal 19;
      left = unpack_lent ((0 ∷ 0 ∷ 0 ∷ []) ++ replicate 29 6) (replicate 1024 (place 0 0 0 false));
    }
    ∷
    []

unfoldable pub call_rows : List CallRow
call_rows =
    -- M1
    record {
      lengths = lengths 3 1024;
      calls = begin (counts 3 1 3 1) ∷ operate Start ∷ operate Border ∷ operate Border ∷ operate Border ∷ finish ∷ [];
      told = accepted ∷ triangle (tri 0 1 2) ∷ no_triangle ∷ no_triangle ∷ no_triangle ∷ numbers (totals_of 3 1 0 (pos 1)) ∷ [];
      machine = (3 ∷ 3 ∷ 3 ∷ 1 ∷ 1 ∷ 0 ∷ 1 ∷ 0 ∷ 1 ∷ 2 ∷ []);
      borders = (2 ∷ 0 ∷ 1 ∷ 2 ∷ 0 ∷ 1 ∷ []);
    }
    ∷
    -- M2
    record {
      lengths = lengths 12 1024;
      calls = begin (counts 4 4 4 1) ∷ operate Start ∷ operate New ∷ operate Forward ∷ operate Close ∷ finish ∷ [];
      told = accepted ∷ triangle (tri 0 1 2) ∷ triangle (tri 1 0 3) ∷ triangle (tri 1 3 2) ∷ triangle (tri 2 3 0)
          ∷ numbers (totals_of 6 0 0 (pos 2)) ∷ [];
      machine = (4 ∷ 6 ∷ 4 ∷ 1 ∷ 1 ∷ 0 ∷ 0 ∷ 0 ∷ 1 ∷ 2 ∷ 1 ∷ 0 ∷ 3 ∷ 1 ∷ 3 ∷ 2 ∷ 2 ∷ 3 ∷ 0 ∷ []);
      borders = [];
    }
    ∷
    -- M3
    record {
      lengths = lengths 6 1024;
      calls = begin (counts 4 2 4 1) ∷ operate Start ∷ operate New ∷ operate Border ∷ operate Border ∷ operate Border ∷ operate Border
          ∷ finish ∷ [];
      told = accepted ∷ triangle (tri 0 1 2) ∷ triangle (tri 1 0 3) ∷ no_triangle ∷ no_triangle ∷ no_triangle ∷ no_triangle
          ∷ numbers (totals_of 5 1 0 (pos 1)) ∷ [];
      machine = (4 ∷ 5 ∷ 4 ∷ 1 ∷ 1 ∷ 0 ∷ 1 ∷ 0 ∷ 1 ∷ 2 ∷ 1 ∷ 0 ∷ 3 ∷ []);
      borders = (0 ∷ 3 ∷ 2 ∷ 0 ∷ 1 ∷ 2 ∷ 3 ∷ 1 ∷ []);
    }
    ∷
    -- M4
    record {
      lengths = lengths 6 1024;
      calls = begin (counts 3 2 3 1) ∷ operate Start ∷ operate Close ∷ finish ∷ [];
      told = accepted ∷ triangle (tri 0 1 2) ∷ triangle (tri 1 0 2) ∷ numbers (totals_of 3 0 0 (pos 2)) ∷ [];
      machine = (3 ∷ 3 ∷ 3 ∷ 1 ∷ 1 ∷ 0 ∷ 0 ∷ 0 ∷ 1 ∷ 2 ∷ 1 ∷ 0 ∷ 2 ∷ []);
      borders = [];
    }
    ∷
    -- M5
    record {
      lengths = lengths 6 1024;
      calls = begin (counts 6 2 3 1) ∷ operate Start ∷ operate Border ∷ operate Border ∷ operate Border ∷ operate Start ∷ operate Border
          ∷ operate Border ∷ operate Border ∷ finish ∷ [];
      told = accepted ∷ triangle (tri 0 1 2) ∷ no_triangle ∷ no_triangle ∷ no_triangle ∷ triangle (tri 3 4 5) ∷ no_triangle ∷ no_triangle
          ∷ no_triangle ∷ numbers (totals_of 6 2 0 (pos 2)) ∷ [];
      machine = (6 ∷ 6 ∷ 3 ∷ 1 ∷ 2 ∷ 0 ∷ 2 ∷ 0 ∷ 1 ∷ 2 ∷ 3 ∷ 4 ∷ 5 ∷ []);
      borders = (5 ∷ 3 ∷ 4 ∷ 5 ∷ 3 ∷ 4 ∷ 2 ∷ 0 ∷ 1 ∷ 2 ∷ 0 ∷ 1 ∷ []);
    }
    ∷
    -- forward at three places; c is reached from the edge that enters its place only
    record {
      lengths = lengths 9 1024;
      calls = begin (counts 4 3 4 1) ∷ operate Start ∷ operate New ∷ operate Border ∷ operate Border ∷ operate Forward ∷ operate Border
          ∷ finish ∷ [];
      told = accepted ∷ triangle (tri 0 1 2) ∷ triangle (tri 1 0 3) ∷ no_triangle ∷ no_triangle ∷ triangle (tri 0 2 3) ∷ no_triangle
          ∷ numbers (totals_of 6 1 0 (pos 1)) ∷ [];
      machine = (4 ∷ 6 ∷ 4 ∷ 1 ∷ 1 ∷ 0 ∷ 1 ∷ 0 ∷ 1 ∷ 2 ∷ 1 ∷ 0 ∷ 3 ∷ 0 ∷ 2 ∷ 3 ∷ []);
      borders = (2 ∷ 3 ∷ 1 ∷ 2 ∷ 3 ∷ 1 ∷ []);
    }
    ∷
    -- backward at three places; c is reached from the edge that leaves its place only
    record {
      lengths = lengths 15 1024;
      calls = begin (counts 5 5 4 1) ∷ operate Start ∷ operate New ∷ operate Border ∷ operate Border ∷ operate New ∷ operate Forward
          ∷ operate Backward ∷ operate Border ∷ finish ∷ [];
      told = accepted ∷ triangle (tri 0 1 2) ∷ triangle (tri 1 0 3) ∷ no_triangle ∷ no_triangle ∷ triangle (tri 0 2 4)
          ∷ triangle (tri 0 4 3) ∷ triangle (tri 3 4 2) ∷ no_triangle ∷ numbers (totals_of 9 1 0 (pos 1)) ∷ [];
      machine = (5 ∷ 9 ∷ 4 ∷ 1 ∷ 1 ∷ 0 ∷ 1 ∷ 0 ∷ 1 ∷ 2 ∷ 1 ∷ 0 ∷ 3 ∷ 0 ∷ 2 ∷ 4 ∷ 0 ∷ 4 ∷ 3 ∷ 3 ∷ 4 ∷ 2 ∷ []);
      borders = (2 ∷ 3 ∷ 1 ∷ 2 ∷ 3 ∷ 1 ∷ []);
    }
    ∷
    -- split k - 2 across a link; the second part has fewer places, in full loops as many
    record {
      lengths = lengths 15 1024;
      calls = begin (counts 5 5 5 2) ∷ operate Start ∷ operate New ∷ operate New ∷ operate Border ∷ operate Border ∷ operate (Split 2)
          ∷ operate Border ∷ operate Close ∷ finish ∷ [];
      told = accepted ∷ triangle (tri 0 1 2) ∷ triangle (tri 1 0 3) ∷ triangle (tri 1 3 4) ∷ no_triangle ∷ no_triangle
          ∷ triangle (tri 0 2 4) ∷ no_triangle ∷ triangle (tri 0 4 3) ∷ numbers (totals_of 9 1 0 (pos 1)) ∷ [];
      machine = (5 ∷ 9 ∷ 5 ∷ 2 ∷ 1 ∷ 0 ∷ 1 ∷ 0 ∷ 1 ∷ 2 ∷ 1 ∷ 0 ∷ 3 ∷ 1 ∷ 3 ∷ 4 ∷ 0 ∷ 2 ∷ 4 ∷ 0 ∷ 4 ∷ 3 ∷ []);
      borders = (2 ∷ 4 ∷ 1 ∷ 2 ∷ 4 ∷ 1 ∷ []);
    }
    ∷
    -- split, the first part is smaller
    record {
      lengths = lengths 18 1024;
      calls = begin (counts 6 6 7 2) ∷ operate Start ∷ operate New ∷ operate Border ∷ operate New ∷ operate New ∷ operate (Split 2)
          ∷ operate Close ∷ operate Border ∷ operate Border ∷ operate Border ∷ finish ∷ [];
      told = accepted ∷ triangle (tri 0 1 2) ∷ triangle (tri 1 0 3) ∷ no_triangle ∷ triangle (tri 2 1 4) ∷ triangle (tri 2 4 5)
          ∷ triangle (tri 2 5 3) ∷ triangle (tri 2 3 0) ∷ no_triangle ∷ no_triangle ∷ no_triangle ∷ numbers (totals_of 11 1 0 (pos 1)) ∷ [];
      machine = (6 ∷ 11 ∷ 7 ∷ 2 ∷ 1 ∷ 0 ∷ 1 ∷ 0 ∷ 1 ∷ 2 ∷ 1 ∷ 0 ∷ 3 ∷ 2 ∷ 1 ∷ 4 ∷ 2 ∷ 4 ∷ 5 ∷ 2 ∷ 5 ∷ 3 ∷ 2 ∷ 3 ∷ 0 ∷ []);
      borders = (4 ∷ 5 ∷ 1 ∷ 4 ∷ 5 ∷ 3 ∷ 3 ∷ 1 ∷ []);
    }
    ∷
    -- split k - 2, the second part is smaller
    record {
      lengths = lengths 18 1024;
      calls = begin (counts 6 6 6 2) ∷ operate Start ∷ operate New ∷ operate Border ∷ operate New ∷ operate New ∷ operate Border
          ∷ operate Border ∷ operate (Split 3) ∷ operate Border ∷ operate Backward ∷ operate Border ∷ operate Border ∷ finish ∷ [];
      told = accepted ∷ triangle (tri 0 1 2) ∷ triangle (tri 1 0 3) ∷ no_triangle ∷ triangle (tri 2 1 4) ∷ triangle (tri 2 4 5)
          ∷ no_triangle ∷ no_triangle ∷ triangle (tri 3 0 5) ∷ no_triangle ∷ triangle (tri 3 5 4) ∷ no_triangle ∷ no_triangle
          ∷ numbers (totals_of 12 2 0 (pos 0)) ∷ [];
      machine = (6 ∷ 12 ∷ 6 ∷ 2 ∷ 1 ∷ 0 ∷ 2 ∷ 0 ∷ 1 ∷ 2 ∷ 1 ∷ 0 ∷ 3 ∷ 2 ∷ 1 ∷ 4 ∷ 2 ∷ 4 ∷ 5 ∷ 3 ∷ 0 ∷ 5 ∷ 3 ∷ 5 ∷ 4 ∷ []);
      borders = (1 ∷ 4 ∷ 4 ∷ 3 ∷ 0 ∷ 5 ∷ 2 ∷ 0 ∷ 5 ∷ 2 ∷ 3 ∷ 1 ∷ []);
    }
    ∷
    -- smallest union found
    record {
      lengths = lengths 24 1024;
      calls = begin (counts 6 8 8 2) ∷ operate Start ∷ operate New ∷ operate New ∷ operate Border ∷ operate New ∷ operate (Split 3)
          ∷ operate (Union 1 2) ∷ operate Border ∷ operate Border ∷ operate Forward ∷ operate Border ∷ operate Forward ∷ operate Border
          ∷ operate Border ∷ finish ∷ [];
      told = accepted ∷ triangle (tri 0 1 2) ∷ triangle (tri 1 0 3) ∷ triangle (tri 1 3 4) ∷ no_triangle ∷ triangle (tri 2 1 5)
          ∷ triangle (tri 2 5 4) ∷ triangle (tri 4 5 0) ∷ no_triangle ∷ no_triangle ∷ triangle (tri 0 5 3) ∷ no_triangle
          ∷ triangle (tri 4 3 2) ∷ no_triangle ∷ no_triangle ∷ numbers (totals_of 15 1 1 (negsuc 0)) ∷ [];
      machine =
          (6 ∷ 15 ∷ 8 ∷ 2 ∷ 1 ∷ 1 ∷ 1 ∷ 0 ∷ 1 ∷ 2 ∷ 1 ∷ 0 ∷ 3 ∷ 1 ∷ 3 ∷ 4 ∷ 2 ∷ 1 ∷ 5 ∷ 2 ∷ 5 ∷ 4 ∷ 4 ∷ 5 ∷ 0 ∷ 0 ∷ 5 ∷ 3 ∷ 4 ∷ 3 ∷ 2 ∷ []);
      borders = (2 ∷ 0 ∷ 3 ∷ 2 ∷ 5 ∷ 3 ∷ 1 ∷ 5 ∷ 0 ∷ 4 ∷ 4 ∷ 1 ∷ []);
    }
    ∷
    -- union with j = 0, and two pieces more
    record {
      lengths = lengths 36 1024;
      calls = begin (counts 11 12 9 2) ∷ operate Start ∷ operate Border ∷ operate New ∷ operate New ∷ operate New ∷ operate Border
          ∷ operate New ∷ operate New ∷ operate (Split 3) ∷ operate Border ∷ operate (Union 1 0) ∷ operate Backward ∷ operate Forward
          ∷ operate Border ∷ operate Border ∷ operate Forward ∷ operate Border ∷ operate Border ∷ operate Start ∷ operate Border
          ∷ operate Border ∷ operate Border ∷ finish ∷ [];
      told = accepted ∷ triangle (tri 0 1 2) ∷ no_triangle ∷ triangle (tri 2 1 3) ∷ triangle (tri 2 3 4) ∷ triangle (tri 2 4 5)
          ∷ no_triangle ∷ triangle (tri 0 2 6) ∷ triangle (tri 0 6 7) ∷ triangle (tri 0 7 4) ∷ no_triangle ∷ triangle (tri 3 1 7)
          ∷ triangle (tri 3 7 6) ∷ triangle (tri 3 6 4) ∷ no_triangle ∷ no_triangle ∷ triangle (tri 4 7 5) ∷ no_triangle ∷ no_triangle
          ∷ triangle (tri 8 9 10) ∷ no_triangle ∷ no_triangle ∷ no_triangle ∷ numbers (totals_of 23 2 1 (pos 0)) ∷ [];
      machine =
          (11 ∷ 23 ∷ 9 ∷ 2 ∷ 2 ∷ 1 ∷ 2 ∷ 0 ∷ 1 ∷ 2 ∷ 2 ∷ 1 ∷ 3 ∷ 2 ∷ 3 ∷ 4 ∷ 2 ∷ 4 ∷ 5 ∷ 0 ∷ 2 ∷ 6 ∷ 0 ∷ 6 ∷ 7 ∷ 0 ∷ 7 ∷ 4 ∷ 3 ∷ 1 ∷ 7 ∷ 3
          ∷ 7 ∷ 6 ∷ 3 ∷ 6 ∷ 4 ∷ 4 ∷ 7 ∷ 5 ∷ 8 ∷ 9 ∷ 10 ∷ []);
      borders = (10 ∷ 8 ∷ 9 ∷ 10 ∷ 8 ∷ 9 ∷ 2 ∷ 6 ∷ 7 ∷ 5 ∷ 1 ∷ 7 ∷ 6 ∷ 4 ∷ 4 ∷ 0 ∷ 5 ∷ 2 ∷ 0 ∷ 1 ∷ []);
    }
    ∷
    -- the peak of places is reached by the union alone
    record {
      lengths = lengths 33 1024;
      calls = begin (counts 8 11 9 2) ∷ operate Start ∷ operate New ∷ operate New ∷ operate New ∷ operate New ∷ operate New
          ∷ operate Forward ∷ operate (Split 3) ∷ operate (Union 1 3) ∷ operate Backward ∷ operate Border ∷ operate Border ∷ operate Border
          ∷ operate Forward ∷ operate Border ∷ operate Border ∷ operate Border ∷ operate Border ∷ finish ∷ [];
      told = accepted ∷ triangle (tri 0 1 2) ∷ triangle (tri 1 0 3) ∷ triangle (tri 1 3 4) ∷ triangle (tri 1 4 5) ∷ triangle (tri 1 5 6)
          ∷ triangle (tri 1 6 7) ∷ triangle (tri 1 7 2) ∷ triangle (tri 2 7 4) ∷ triangle (tri 2 4 6) ∷ triangle (tri 2 6 5) ∷ no_triangle
          ∷ no_triangle ∷ no_triangle ∷ triangle (tri 4 3 6) ∷ no_triangle ∷ no_triangle ∷ no_triangle ∷ no_triangle
          ∷ numbers (totals_of 20 1 1 (negsuc 0)) ∷ [];
      machine =
          (8 ∷ 20 ∷ 9 ∷ 2 ∷ 1 ∷ 1 ∷ 1 ∷ 0 ∷ 1 ∷ 2 ∷ 1 ∷ 0 ∷ 3 ∷ 1 ∷ 3 ∷ 4 ∷ 1 ∷ 4 ∷ 5 ∷ 1 ∷ 5 ∷ 6 ∷ 1 ∷ 6 ∷ 7 ∷ 1 ∷ 7 ∷ 2 ∷ 2 ∷ 7 ∷ 4 ∷ 2
          ∷ 4 ∷ 6 ∷ 2 ∷ 6 ∷ 5 ∷ 4 ∷ 3 ∷ 6 ∷ []);
      borders = (4 ∷ 5 ∷ 7 ∷ 4 ∷ 6 ∷ 7 ∷ 3 ∷ 6 ∷ 0 ∷ 3 ∷ 2 ∷ 0 ∷ 5 ∷ 2 ∷ []);
    }
    ∷
    -- union next to a marked edge
    record {
      lengths = lengths 33 1024;
      calls = begin (counts 8 11 11 2) ∷ operate Start ∷ operate New ∷ operate New ∷ operate New ∷ operate Border ∷ operate New
          ∷ operate New ∷ operate (Split 3) ∷ operate Border ∷ operate (Union 1 2) ∷ operate (Split 7) ∷ operate Close ∷ operate Forward
          ∷ operate Border ∷ operate Border ∷ operate Border ∷ operate Border ∷ operate Border ∷ finish ∷ [];
      told = accepted ∷ triangle (tri 0 1 2) ∷ triangle (tri 1 0 3) ∷ triangle (tri 1 3 4) ∷ triangle (tri 1 4 5) ∷ no_triangle
          ∷ triangle (tri 2 1 6) ∷ triangle (tri 2 6 7) ∷ triangle (tri 2 7 4) ∷ no_triangle ∷ triangle (tri 0 2 5) ∷ triangle (tri 0 5 7)
          ∷ triangle (tri 7 5 4) ∷ triangle (tri 0 7 3) ∷ no_triangle ∷ no_triangle ∷ no_triangle ∷ no_triangle ∷ no_triangle
          ∷ numbers (totals_of 20 1 1 (negsuc 0)) ∷ [];
      machine =
          (8 ∷ 20 ∷ 11 ∷ 2 ∷ 1 ∷ 1 ∷ 1 ∷ 0 ∷ 1 ∷ 2 ∷ 1 ∷ 0 ∷ 3 ∷ 1 ∷ 3 ∷ 4 ∷ 1 ∷ 4 ∷ 5 ∷ 2 ∷ 1 ∷ 6 ∷ 2 ∷ 6 ∷ 7 ∷ 2 ∷ 7 ∷ 4 ∷ 0 ∷ 2 ∷ 5 ∷ 0
          ∷ 5 ∷ 7 ∷ 7 ∷ 5 ∷ 4 ∷ 0 ∷ 7 ∷ 3 ∷ []);
      borders = (6 ∷ 7 ∷ 1 ∷ 6 ∷ 2 ∷ 5 ∷ 3 ∷ 4 ∷ 7 ∷ 3 ∷ 4 ∷ 2 ∷ 5 ∷ 1 ∷ []);
    }
    ∷
    -- union 2 of two waiting loops; 1 counted from the oldest
    record {
      lengths = lengths 45 1024;
      calls = begin (counts 11 15 13 3) ∷ operate Start ∷ operate New ∷ operate New ∷ operate New ∷ operate New ∷ operate New
          ∷ operate Forward ∷ operate (Split 3) ∷ operate New ∷ operate (Split 2) ∷ operate New ∷ operate (Union 2 3) ∷ operate New
          ∷ operate Border ∷ operate Border ∷ operate Border ∷ operate Border ∷ operate Border ∷ operate Border ∷ operate Border
          ∷ operate Border ∷ operate Forward ∷ operate Border ∷ operate Close ∷ finish ∷ [];
      told = accepted ∷ triangle (tri 0 1 2) ∷ triangle (tri 1 0 3) ∷ triangle (tri 1 3 4) ∷ triangle (tri 1 4 5) ∷ triangle (tri 1 5 6)
          ∷ triangle (tri 1 6 7) ∷ triangle (tri 1 7 2) ∷ triangle (tri 2 7 4) ∷ triangle (tri 2 4 8) ∷ triangle (tri 2 8 3)
          ∷ triangle (tri 2 3 9) ∷ triangle (tri 2 9 6) ∷ triangle (tri 2 6 10) ∷ no_triangle ∷ no_triangle ∷ no_triangle ∷ no_triangle
          ∷ no_triangle ∷ no_triangle ∷ no_triangle ∷ no_triangle ∷ triangle (tri 6 5 10) ∷ no_triangle ∷ triangle (tri 3 8 4)
          ∷ numbers (totals_of 27 1 1 (negsuc 0)) ∷ [];
      machine =
          (11 ∷ 27 ∷ 13 ∷ 3 ∷ 1 ∷ 1 ∷ 1 ∷ 0 ∷ 1 ∷ 2 ∷ 1 ∷ 0 ∷ 3 ∷ 1 ∷ 3 ∷ 4 ∷ 1 ∷ 4 ∷ 5 ∷ 1 ∷ 5 ∷ 6 ∷ 1 ∷ 6 ∷ 7 ∷ 1 ∷ 7 ∷ 2 ∷ 2 ∷ 7 ∷ 4 ∷ 2
          ∷ 4 ∷ 8 ∷ 2 ∷ 8 ∷ 3 ∷ 2 ∷ 3 ∷ 9 ∷ 2 ∷ 9 ∷ 6 ∷ 2 ∷ 6 ∷ 10 ∷ 6 ∷ 5 ∷ 10 ∷ 3 ∷ 8 ∷ 4 ∷ []);
      borders = (5 ∷ 10 ∷ 4 ∷ 5 ∷ 7 ∷ 4 ∷ 6 ∷ 7 ∷ 9 ∷ 6 ∷ 3 ∷ 9 ∷ 0 ∷ 3 ∷ 2 ∷ 0 ∷ 10 ∷ 2 ∷ []);
    }
    ∷
    -- split to c that has a place in a waiting loop too
    record {
      lengths = lengths 42 1024;
      calls = begin (counts 10 14 10 3) ∷ operate Start ∷ operate New ∷ operate New ∷ operate New ∷ operate Border ∷ operate Border
          ∷ operate New ∷ operate New ∷ operate (Split 3) ∷ operate New ∷ operate New ∷ operate Forward ∷ operate (Split 2) ∷ operate Close
          ∷ operate Close ∷ operate Border ∷ operate Forward ∷ operate Border ∷ finish ∷ [];
      told = accepted ∷ triangle (tri 0 1 2) ∷ triangle (tri 1 0 3) ∷ triangle (tri 1 3 4) ∷ triangle (tri 1 4 5) ∷ no_triangle
          ∷ no_triangle ∷ triangle (tri 0 2 6) ∷ triangle (tri 0 6 7) ∷ triangle (tri 0 7 5) ∷ triangle (tri 0 5 8) ∷ triangle (tri 0 8 9)
          ∷ triangle (tri 0 9 3) ∷ triangle (tri 3 9 5) ∷ triangle (tri 3 5 4) ∷ triangle (tri 5 9 8) ∷ no_triangle ∷ triangle (tri 6 2 7)
          ∷ no_triangle ∷ numbers (totals_of 23 1 0 (pos 1)) ∷ [];
      machine =
          (10 ∷ 23 ∷ 10 ∷ 3 ∷ 1 ∷ 0 ∷ 1 ∷ 0 ∷ 1 ∷ 2 ∷ 1 ∷ 0 ∷ 3 ∷ 1 ∷ 3 ∷ 4 ∷ 1 ∷ 4 ∷ 5 ∷ 0 ∷ 2 ∷ 6 ∷ 0 ∷ 6 ∷ 7 ∷ 0 ∷ 7 ∷ 5 ∷ 0 ∷ 5 ∷ 8 ∷ 0
          ∷ 8 ∷ 9 ∷ 0 ∷ 9 ∷ 3 ∷ 3 ∷ 9 ∷ 5 ∷ 3 ∷ 5 ∷ 4 ∷ 5 ∷ 9 ∷ 8 ∷ 6 ∷ 2 ∷ 7 ∷ []);
      borders = (2 ∷ 7 ∷ 7 ∷ 5 ∷ 1 ∷ 2 ∷ 5 ∷ 1 ∷ []);
    }
    ∷
    -- union from a loop of two places
    record {
      lengths = lengths 39 1024;
      calls = begin (counts 10 13 8 2) ∷ operate Start ∷ operate Border ∷ operate New ∷ operate New ∷ operate New ∷ operate New
          ∷ operate Border ∷ operate Border ∷ operate (Split 3) ∷ operate (Union 1 2) ∷ operate New ∷ operate Border ∷ operate Border
          ∷ operate Border ∷ operate New ∷ operate Forward ∷ operate Border ∷ operate New ∷ operate Forward ∷ operate Backward
          ∷ operate Border ∷ operate Border ∷ finish ∷ [];
      told = accepted ∷ triangle (tri 0 1 2) ∷ no_triangle ∷ triangle (tri 2 1 3) ∷ triangle (tri 2 3 4) ∷ triangle (tri 2 4 5)
          ∷ triangle (tri 2 5 6) ∷ no_triangle ∷ no_triangle ∷ triangle (tri 3 1 6) ∷ triangle (tri 6 1 4) ∷ triangle (tri 6 4 7)
          ∷ no_triangle ∷ no_triangle ∷ no_triangle ∷ triangle (tri 6 5 8) ∷ triangle (tri 6 8 3) ∷ no_triangle ∷ triangle (tri 4 3 9)
          ∷ triangle (tri 4 9 7) ∷ triangle (tri 7 9 3) ∷ no_triangle ∷ no_triangle ∷ numbers (totals_of 24 1 1 (negsuc 0)) ∷ [];
      machine =
          (10 ∷ 24 ∷ 8 ∷ 2 ∷ 1 ∷ 1 ∷ 1 ∷ 0 ∷ 1 ∷ 2 ∷ 2 ∷ 1 ∷ 3 ∷ 2 ∷ 3 ∷ 4 ∷ 2 ∷ 4 ∷ 5 ∷ 2 ∷ 5 ∷ 6 ∷ 3 ∷ 1 ∷ 6 ∷ 6 ∷ 1 ∷ 4 ∷ 6 ∷ 4 ∷ 7 ∷ 6
          ∷ 5 ∷ 8 ∷ 6 ∷ 8 ∷ 3 ∷ 4 ∷ 3 ∷ 9 ∷ 4 ∷ 9 ∷ 7 ∷ 7 ∷ 9 ∷ 3 ∷ []);
      borders = (5 ∷ 8 ∷ 3 ∷ 7 ∷ 8 ∷ 3 ∷ 4 ∷ 5 ∷ 1 ∷ 4 ∷ 7 ∷ 6 ∷ 2 ∷ 0 ∷ 6 ∷ 2 ∷ 0 ∷ 1 ∷ []);
    }
    ∷
    -- union from a loop of two places, then a split past links
    record {
      lengths = lengths 42 1024;
      calls = begin (counts 12 14 8 2) ∷ operate Start ∷ operate New ∷ operate New ∷ operate New ∷ operate Forward ∷ operate Border
          ∷ operate New ∷ operate (Split 3) ∷ operate Border ∷ operate New ∷ operate New ∷ operate Border ∷ operate Border
          ∷ operate (Union 1 2) ∷ operate (Split 4) ∷ operate Close ∷ operate Backward ∷ operate Border ∷ operate Border ∷ operate Border
          ∷ operate Start ∷ operate Border ∷ operate Border ∷ operate Border ∷ finish ∷ [];
      told = accepted ∷ triangle (tri 0 1 2) ∷ triangle (tri 1 0 3) ∷ triangle (tri 1 3 4) ∷ triangle (tri 1 4 5) ∷ triangle (tri 1 5 2)
          ∷ no_triangle ∷ triangle (tri 0 2 6) ∷ triangle (tri 0 6 5) ∷ no_triangle ∷ triangle (tri 6 2 7) ∷ triangle (tri 6 7 8)
          ∷ no_triangle ∷ no_triangle ∷ triangle (tri 8 7 3) ∷ triangle (tri 8 3 5) ∷ triangle (tri 5 3 0) ∷ triangle (tri 8 5 4)
          ∷ no_triangle ∷ no_triangle ∷ no_triangle ∷ triangle (tri 9 10 11) ∷ no_triangle ∷ no_triangle ∷ no_triangle
          ∷ numbers (totals_of 26 2 1 (pos 0)) ∷ [];
      machine =
          (12 ∷ 26 ∷ 8 ∷ 2 ∷ 2 ∷ 1 ∷ 2 ∷ 0 ∷ 1 ∷ 2 ∷ 1 ∷ 0 ∷ 3 ∷ 1 ∷ 3 ∷ 4 ∷ 1 ∷ 4 ∷ 5 ∷ 1 ∷ 5 ∷ 2 ∷ 0 ∷ 2 ∷ 6 ∷ 0 ∷ 6 ∷ 5 ∷ 6 ∷ 2 ∷ 7 ∷ 6
          ∷ 7 ∷ 8 ∷ 8 ∷ 7 ∷ 3 ∷ 8 ∷ 3 ∷ 5 ∷ 5 ∷ 3 ∷ 0 ∷ 8 ∷ 5 ∷ 4 ∷ 9 ∷ 10 ∷ 11 ∷ []);
      borders = (11 ∷ 9 ∷ 10 ∷ 11 ∷ 9 ∷ 10 ∷ 3 ∷ 4 ∷ 7 ∷ 3 ∷ 4 ∷ 8 ∷ 2 ∷ 7 ∷ 8 ∷ 6 ∷ 6 ∷ 5 ∷ 5 ∷ 2 ∷ []);
    }
    ∷
    -- union to c that has two places in the waiting loop
    record {
      lengths = lengths 66 1024;
      calls = begin (counts 15 22 13 2) ∷ operate Start ∷ operate New ∷ operate New ∷ operate New ∷ operate New ∷ operate New ∷ operate New
          ∷ operate Border ∷ operate New ∷ operate New ∷ operate (Split 5) ∷ operate Border ∷ operate Border ∷ operate (Union 1 1)
          ∷ operate Backward ∷ operate Border ∷ operate Border ∷ operate (Split 5) ∷ operate (Union 1 4) ∷ operate New ∷ operate Border
          ∷ operate Border ∷ operate Border ∷ operate Forward ∷ operate Border ∷ operate New ∷ operate New ∷ operate Forward
          ∷ operate Backward ∷ operate New ∷ operate Border ∷ operate Border ∷ operate Forward ∷ operate Border ∷ operate Border
          ∷ operate Border ∷ finish ∷ [];
      told = accepted ∷ triangle (tri 0 1 2) ∷ triangle (tri 1 0 3) ∷ triangle (tri 1 3 4) ∷ triangle (tri 1 4 5) ∷ triangle (tri 1 5 6)
          ∷ triangle (tri 1 6 7) ∷ triangle (tri 1 7 8) ∷ no_triangle ∷ triangle (tri 2 1 9) ∷ triangle (tri 2 9 10) ∷ triangle (tri 2 10 6)
          ∷ no_triangle ∷ no_triangle ∷ triangle (tri 3 0 6) ∷ triangle (tri 3 6 10) ∷ no_triangle ∷ no_triangle ∷ triangle (tri 5 4 8)
          ∷ triangle (tri 8 4 6) ∷ triangle (tri 8 6 11) ∷ no_triangle ∷ no_triangle ∷ no_triangle ∷ triangle (tri 6 4 7) ∷ no_triangle
          ∷ triangle (tri 8 7 12) ∷ triangle (tri 8 12 13) ∷ triangle (tri 8 13 5) ∷ triangle (tri 5 13 12) ∷ triangle (tri 5 12 14)
          ∷ no_triangle ∷ no_triangle ∷ triangle (tri 6 0 11) ∷ no_triangle ∷ no_triangle ∷ no_triangle
          ∷ numbers (totals_of 40 1 2 (negsuc 2)) ∷ [];
      machine =
          (15 ∷ 40 ∷ 13 ∷ 2 ∷ 1 ∷ 2 ∷ 1 ∷ 0 ∷ 1 ∷ 2 ∷ 1 ∷ 0 ∷ 3 ∷ 1 ∷ 3 ∷ 4 ∷ 1 ∷ 4 ∷ 5 ∷ 1 ∷ 5 ∷ 6 ∷ 1 ∷ 6 ∷ 7 ∷ 1 ∷ 7 ∷ 8 ∷ 2 ∷ 1 ∷ 9 ∷ 2
          ∷ 9 ∷ 10 ∷ 2 ∷ 10 ∷ 6 ∷ 3 ∷ 0 ∷ 6 ∷ 3 ∷ 6 ∷ 10 ∷ 5 ∷ 4 ∷ 8 ∷ 8 ∷ 4 ∷ 6 ∷ 8 ∷ 6 ∷ 11 ∷ 6 ∷ 4 ∷ 7 ∷ 8 ∷ 7 ∷ 12 ∷ 8 ∷ 12 ∷ 13 ∷ 8
          ∷ 13 ∷ 5 ∷ 5 ∷ 13 ∷ 12 ∷ 5 ∷ 12 ∷ 14 ∷ 6 ∷ 0 ∷ 11 ∷ []);
      borders =
          (12 ∷ 14 ∷ 7 ∷ 12 ∷ 0 ∷ 11 ∷ 5 ∷ 6 ∷ 14 ∷ 5 ∷ 4 ∷ 7 ∷ 9 ∷ 10 ∷ 1 ∷ 9 ∷ 11 ∷ 8 ∷ 3 ∷ 4 ∷ 10 ∷ 3 ∷ 2 ∷ 0 ∷ 6 ∷ 2 ∷ 8 ∷ 1 ∷ []);
    }
    ∷
    -- torus of seven vertices
    record {
      lengths = lengths 42 1024;
      calls = begin (counts 7 14 8 2) ∷ operate Start ∷ operate New ∷ operate New ∷ operate New ∷ operate New ∷ operate Forward
          ∷ operate (Split 3) ∷ operate (Union 1 2) ∷ operate Forward ∷ operate Backward ∷ operate (Split 3) ∷ operate Close
          ∷ operate Forward ∷ operate Close ∷ finish ∷ [];
      told = accepted ∷ triangle (tri 0 1 2) ∷ triangle (tri 1 0 3) ∷ triangle (tri 1 3 4) ∷ triangle (tri 1 4 5) ∷ triangle (tri 1 5 6)
          ∷ triangle (tri 1 6 2) ∷ triangle (tri 2 6 4) ∷ triangle (tri 4 6 0) ∷ triangle (tri 4 0 5) ∷ triangle (tri 5 0 2)
          ∷ triangle (tri 5 2 3) ∷ triangle (tri 3 2 4) ∷ triangle (tri 5 3 6) ∷ triangle (tri 6 3 0) ∷ numbers (totals_of 21 0 1 (pos 0))
          ∷ [];
      machine =
          (7 ∷ 21 ∷ 8 ∷ 2 ∷ 1 ∷ 1 ∷ 0 ∷ 0 ∷ 1 ∷ 2 ∷ 1 ∷ 0 ∷ 3 ∷ 1 ∷ 3 ∷ 4 ∷ 1 ∷ 4 ∷ 5 ∷ 1 ∷ 5 ∷ 6 ∷ 1 ∷ 6 ∷ 2 ∷ 2 ∷ 6 ∷ 4 ∷ 4 ∷ 6 ∷ 0 ∷ 4
          ∷ 0 ∷ 5 ∷ 5 ∷ 0 ∷ 2 ∷ 5 ∷ 2 ∷ 3 ∷ 3 ∷ 2 ∷ 4 ∷ 5 ∷ 3 ∷ 6 ∷ 6 ∷ 3 ∷ 0 ∷ []);
      borders = [];
    }
    ∷
    -- a loop of two places, which new makes longer; f leaves; three places are the peak, in full loops four
    record {
      lengths = lengths 6 1024;
      calls = begin (counts 4 2 3 1) ∷ operate Start ∷ operate Border ∷ operate Border ∷ operate New ∷ operate Border ∷ operate Border
          ∷ finish ∷ [];
      told = accepted ∷ triangle (tri 0 1 2) ∷ no_triangle ∷ no_triangle ∷ triangle (tri 0 2 3) ∷ no_triangle ∷ no_triangle
          ∷ numbers (totals_of 5 1 0 (pos 1)) ∷ [];
      machine = (4 ∷ 5 ∷ 3 ∷ 1 ∷ 1 ∷ 0 ∷ 1 ∷ 0 ∷ 1 ∷ 2 ∷ 0 ∷ 2 ∷ 3 ∷ []);
      borders = (2 ∷ 3 ∷ 3 ∷ 0 ∷ 1 ∷ 2 ∷ 0 ∷ 1 ∷ []);
    }
    ∷
    -- both places of an edge leave
    record {
      lengths = lengths 6 1024;
      calls = begin (counts 4 2 4 1) ∷ operate Start ∷ operate Border ∷ operate New ∷ operate Border ∷ operate Border ∷ operate Border
          ∷ finish ∷ [];
      told = accepted ∷ triangle (tri 0 1 2) ∷ no_triangle ∷ triangle (tri 2 1 3) ∷ no_triangle ∷ no_triangle ∷ no_triangle
          ∷ numbers (totals_of 5 1 0 (pos 1)) ∷ [];
      machine = (4 ∷ 5 ∷ 4 ∷ 1 ∷ 1 ∷ 0 ∷ 1 ∷ 0 ∷ 1 ∷ 2 ∷ 2 ∷ 1 ∷ 3 ∷ []);
      borders = (1 ∷ 3 ∷ 2 ∷ 0 ∷ 3 ∷ 2 ∷ 0 ∷ 1 ∷ []);
    }
    ∷
    -- split 1 across a link
    record {
      lengths = lengths 18 1024;
      calls = begin (counts 6 6 6 2) ∷ operate Start ∷ operate New ∷ operate Border ∷ operate Border ∷ operate New ∷ operate Border
          ∷ operate New ∷ operate (Split 1) ∷ operate Border ∷ operate Forward ∷ operate Border ∷ operate Border ∷ finish ∷ [];
      told = accepted ∷ triangle (tri 0 1 2) ∷ triangle (tri 1 0 3) ∷ no_triangle ∷ no_triangle ∷ triangle (tri 0 2 4) ∷ no_triangle
          ∷ triangle (tri 3 0 5) ∷ triangle (tri 3 5 2) ∷ no_triangle ∷ triangle (tri 2 5 4) ∷ no_triangle ∷ no_triangle
          ∷ numbers (totals_of 12 2 0 (pos 0)) ∷ [];
      machine = (6 ∷ 12 ∷ 6 ∷ 2 ∷ 1 ∷ 0 ∷ 2 ∷ 0 ∷ 1 ∷ 2 ∷ 1 ∷ 0 ∷ 3 ∷ 0 ∷ 2 ∷ 4 ∷ 3 ∷ 0 ∷ 5 ∷ 3 ∷ 5 ∷ 2 ∷ 2 ∷ 5 ∷ 4 ∷ []);
      borders = (0 ∷ 5 ∷ 5 ∷ 4 ∷ 2 ∷ 3 ∷ 4 ∷ 0 ∷ 1 ∷ 2 ∷ 3 ∷ 1 ∷ []);
    }
    ∷
    -- split of equal halves, next to a marked edge
    record {
      lengths = lengths 15 1024;
      calls = begin (counts 5 5 6 2) ∷ operate Start ∷ operate New ∷ operate Border ∷ operate New ∷ operate (Split 2) ∷ operate Close
          ∷ operate Border ∷ operate Border ∷ finish ∷ [];
      told = accepted ∷ triangle (tri 0 1 2) ∷ triangle (tri 1 0 3) ∷ no_triangle ∷ triangle (tri 2 1 4) ∷ triangle (tri 2 4 3)
          ∷ triangle (tri 2 3 0) ∷ no_triangle ∷ no_triangle ∷ numbers (totals_of 9 1 0 (pos 1)) ∷ [];
      machine = (5 ∷ 9 ∷ 6 ∷ 2 ∷ 1 ∷ 0 ∷ 1 ∷ 0 ∷ 1 ∷ 2 ∷ 1 ∷ 0 ∷ 3 ∷ 2 ∷ 1 ∷ 4 ∷ 2 ∷ 4 ∷ 3 ∷ 2 ∷ 3 ∷ 0 ∷ []);
      borders = (1 ∷ 4 ∷ 4 ∷ 3 ∷ 3 ∷ 1 ∷ []);
    }
    ∷
    -- split 2 past a link; of halves equal in places the first goes on, in full loops the second would
    record {
      lengths = lengths 18 1024;
      calls = begin (counts 6 6 6 2) ∷ operate Start ∷ operate New ∷ operate Border ∷ operate Border ∷ operate New ∷ operate Border
          ∷ operate New ∷ operate (Split 2) ∷ operate Backward ∷ operate Border ∷ operate Border ∷ operate Border ∷ finish ∷ [];
      told = accepted ∷ triangle (tri 0 1 2) ∷ triangle (tri 1 0 3) ∷ no_triangle ∷ no_triangle ∷ triangle (tri 0 2 4) ∷ no_triangle
          ∷ triangle (tri 3 0 5) ∷ triangle (tri 3 5 4) ∷ triangle (tri 3 4 2) ∷ no_triangle ∷ no_triangle ∷ no_triangle
          ∷ numbers (totals_of 12 2 0 (pos 0)) ∷ [];
      machine = (6 ∷ 12 ∷ 6 ∷ 2 ∷ 1 ∷ 0 ∷ 2 ∷ 0 ∷ 1 ∷ 2 ∷ 1 ∷ 0 ∷ 3 ∷ 0 ∷ 2 ∷ 4 ∷ 3 ∷ 0 ∷ 5 ∷ 3 ∷ 5 ∷ 4 ∷ 3 ∷ 4 ∷ 2 ∷ []);
      borders = (0 ∷ 5 ∷ 5 ∷ 4 ∷ 2 ∷ 3 ∷ 4 ∷ 0 ∷ 1 ∷ 2 ∷ 3 ∷ 1 ∷ []);
    }
    ∷
    -- split 1; the first part has fewer places, in full loops as many
    record {
      lengths = lengths 21 1024;
      calls = begin (counts 6 7 5 2) ∷ operate Start ∷ operate New ∷ operate Border ∷ operate Border ∷ operate New ∷ operate New
          ∷ operate Forward ∷ operate (Split 1) ∷ operate Border ∷ operate Close ∷ finish ∷ [];
      told = accepted ∷ triangle (tri 0 1 2) ∷ triangle (tri 1 0 3) ∷ no_triangle ∷ no_triangle ∷ triangle (tri 0 2 4)
          ∷ triangle (tri 0 4 5) ∷ triangle (tri 0 5 3) ∷ triangle (tri 3 5 2) ∷ no_triangle ∷ triangle (tri 2 5 4)
          ∷ numbers (totals_of 12 1 0 (pos 1)) ∷ [];
      machine = (6 ∷ 12 ∷ 5 ∷ 2 ∷ 1 ∷ 0 ∷ 1 ∷ 0 ∷ 1 ∷ 2 ∷ 1 ∷ 0 ∷ 3 ∷ 0 ∷ 2 ∷ 4 ∷ 0 ∷ 4 ∷ 5 ∷ 0 ∷ 5 ∷ 3 ∷ 3 ∷ 5 ∷ 2 ∷ 2 ∷ 5 ∷ 4 ∷ []);
      borders = (2 ∷ 3 ∷ 1 ∷ 2 ∷ 3 ∷ 1 ∷ []);
    }
    ∷
    -- split 1; the first part has fewer places, in full loops more
    record {
      lengths = lengths 24 1024;
      calls = begin (counts 7 8 5 2) ∷ operate Start ∷ operate New ∷ operate New ∷ operate Border ∷ operate Border ∷ operate Border
          ∷ operate New ∷ operate Forward ∷ operate New ∷ operate (Split 1) ∷ operate Border ∷ operate Close ∷ finish ∷ [];
      told = accepted ∷ triangle (tri 0 1 2) ∷ triangle (tri 1 0 3) ∷ triangle (tri 1 3 4) ∷ no_triangle ∷ no_triangle ∷ no_triangle
          ∷ triangle (tri 3 0 5) ∷ triangle (tri 3 5 4) ∷ triangle (tri 4 5 6) ∷ triangle (tri 4 6 0) ∷ no_triangle ∷ triangle (tri 0 6 5)
          ∷ numbers (totals_of 14 1 0 (pos 1)) ∷ [];
      machine =
          (7 ∷ 14 ∷ 5 ∷ 2 ∷ 1 ∷ 0 ∷ 1 ∷ 0 ∷ 1 ∷ 2 ∷ 1 ∷ 0 ∷ 3 ∷ 1 ∷ 3 ∷ 4 ∷ 3 ∷ 0 ∷ 5 ∷ 3 ∷ 5 ∷ 4 ∷ 4 ∷ 5 ∷ 6 ∷ 4 ∷ 6 ∷ 0 ∷ 0 ∷ 6 ∷ 5 ∷ []);
      borders = (0 ∷ 4 ∷ 2 ∷ 0 ∷ 1 ∷ 2 ∷ 4 ∷ 1 ∷ []);
    }
    ∷
    -- split 2 where the edge after f is marked
    record {
      lengths = lengths 18 1024;
      calls = begin (counts 6 6 7 2) ∷ operate Start ∷ operate Border ∷ operate New ∷ operate New ∷ operate Border ∷ operate New
          ∷ operate (Split 2) ∷ operate Border ∷ operate Border ∷ operate Forward ∷ operate Border ∷ operate Border ∷ finish ∷ [];
      told = accepted ∷ triangle (tri 0 1 2) ∷ no_triangle ∷ triangle (tri 2 1 3) ∷ triangle (tri 2 3 4) ∷ no_triangle
          ∷ triangle (tri 0 2 5) ∷ triangle (tri 0 5 3) ∷ no_triangle ∷ no_triangle ∷ triangle (tri 3 5 4) ∷ no_triangle ∷ no_triangle
          ∷ numbers (totals_of 12 2 0 (pos 0)) ∷ [];
      machine = (6 ∷ 12 ∷ 7 ∷ 2 ∷ 1 ∷ 0 ∷ 2 ∷ 0 ∷ 1 ∷ 2 ∷ 2 ∷ 1 ∷ 3 ∷ 2 ∷ 3 ∷ 4 ∷ 0 ∷ 2 ∷ 5 ∷ 0 ∷ 5 ∷ 3 ∷ 3 ∷ 5 ∷ 4 ∷ []);
      borders = (2 ∷ 5 ∷ 5 ∷ 4 ∷ 1 ∷ 3 ∷ 3 ∷ 0 ∷ 4 ∷ 2 ∷ 0 ∷ 1 ∷ []);
    }
    ∷
    -- split k - 3 where the edge into e is marked
    record {
      lengths = lengths 18 1024;
      calls = begin (counts 6 6 6 2) ∷ operate Start ∷ operate New ∷ operate New ∷ operate New ∷ operate Border ∷ operate Border
          ∷ operate (Split 2) ∷ operate Close ∷ operate Border ∷ operate Border ∷ finish ∷ [];
      told = accepted ∷ triangle (tri 0 1 2) ∷ triangle (tri 1 0 3) ∷ triangle (tri 1 3 4) ∷ triangle (tri 1 4 5) ∷ no_triangle
          ∷ no_triangle ∷ triangle (tri 0 2 4) ∷ triangle (tri 0 4 3) ∷ no_triangle ∷ no_triangle ∷ numbers (totals_of 11 1 0 (pos 1)) ∷ [];
      machine = (6 ∷ 11 ∷ 6 ∷ 2 ∷ 1 ∷ 0 ∷ 1 ∷ 0 ∷ 1 ∷ 2 ∷ 1 ∷ 0 ∷ 3 ∷ 1 ∷ 3 ∷ 4 ∷ 1 ∷ 4 ∷ 5 ∷ 0 ∷ 2 ∷ 4 ∷ 0 ∷ 4 ∷ 3 ∷ []);
      borders = (4 ∷ 5 ∷ 2 ∷ 4 ∷ 1 ∷ 2 ∷ 5 ∷ 1 ∷ []);
    }
    ∷
    -- seven places, in full loops six: the other half of the split goes on
    record {
      lengths = lengths 21 1024;
      calls = begin (counts 7 7 7 2) ∷ operate Start ∷ operate New ∷ operate New ∷ operate Border ∷ operate Border ∷ operate (Split 2)
          ∷ operate New ∷ operate New ∷ operate Border ∷ operate Border ∷ operate Border ∷ operate Close ∷ finish ∷ [];
      told = accepted ∷ triangle (tri 0 1 2) ∷ triangle (tri 1 0 3) ∷ triangle (tri 1 3 4) ∷ no_triangle ∷ no_triangle
          ∷ triangle (tri 0 2 4) ∷ triangle (tri 4 2 5) ∷ triangle (tri 4 5 6) ∷ no_triangle ∷ no_triangle ∷ no_triangle
          ∷ triangle (tri 0 4 3) ∷ numbers (totals_of 13 1 0 (pos 1)) ∷ [];
      machine = (7 ∷ 13 ∷ 7 ∷ 2 ∷ 1 ∷ 0 ∷ 1 ∷ 0 ∷ 1 ∷ 2 ∷ 1 ∷ 0 ∷ 3 ∷ 1 ∷ 3 ∷ 4 ∷ 0 ∷ 2 ∷ 4 ∷ 4 ∷ 2 ∷ 5 ∷ 4 ∷ 5 ∷ 6 ∷ 0 ∷ 4 ∷ 3 ∷ []);
      borders = (5 ∷ 6 ∷ 2 ∷ 5 ∷ 6 ∷ 4 ∷ 1 ∷ 2 ∷ 4 ∷ 1 ∷ []);
    }
    ∷
    -- union from a loop of two places, with j = 0
    record {
      lengths = lengths 24 1024;
      calls = begin (counts 6 8 7 2) ∷ operate Start ∷ operate Border ∷ operate New ∷ operate Border ∷ operate New ∷ operate (Split 2)
          ∷ operate New ∷ operate Border ∷ operate Forward ∷ operate (Union 1 0) ∷ operate Backward ∷ operate Border ∷ operate Border
          ∷ operate Border ∷ finish ∷ [];
      told = accepted ∷ triangle (tri 0 1 2) ∷ no_triangle ∷ triangle (tri 2 1 3) ∷ no_triangle ∷ triangle (tri 0 2 4)
          ∷ triangle (tri 0 4 3) ∷ triangle (tri 0 3 5) ∷ no_triangle ∷ triangle (tri 3 1 5) ∷ triangle (tri 5 1 4) ∷ triangle (tri 5 4 2)
          ∷ no_triangle ∷ no_triangle ∷ no_triangle ∷ numbers (totals_of 15 1 1 (negsuc 0)) ∷ [];
      machine =
          (6 ∷ 15 ∷ 7 ∷ 2 ∷ 1 ∷ 1 ∷ 1 ∷ 0 ∷ 1 ∷ 2 ∷ 2 ∷ 1 ∷ 3 ∷ 0 ∷ 2 ∷ 4 ∷ 0 ∷ 4 ∷ 3 ∷ 0 ∷ 3 ∷ 5 ∷ 3 ∷ 1 ∷ 5 ∷ 5 ∷ 1 ∷ 4 ∷ 5 ∷ 4 ∷ 2 ∷ []);
      borders = (4 ∷ 3 ∷ 1 ∷ 4 ∷ 2 ∷ 5 ∷ 5 ∷ 0 ∷ 3 ∷ 2 ∷ 0 ∷ 1 ∷ []);
    }
    ∷
    -- union and split past a link
    record {
      lengths = lengths 27 1024;
      calls = begin (counts 7 9 7 2) ∷ operate Start ∷ operate New ∷ operate New ∷ operate Border ∷ operate Border ∷ operate New
          ∷ operate New ∷ operate Border ∷ operate Border ∷ operate (Split 3) ∷ operate (Union 1 2) ∷ operate Border ∷ operate Forward
          ∷ operate Border ∷ operate Forward ∷ operate Border ∷ finish ∷ [];
      told = accepted ∷ triangle (tri 0 1 2) ∷ triangle (tri 1 0 3) ∷ triangle (tri 1 3 4) ∷ no_triangle ∷ no_triangle
          ∷ triangle (tri 0 2 5) ∷ triangle (tri 0 5 6) ∷ no_triangle ∷ no_triangle ∷ triangle (tri 4 3 6) ∷ triangle (tri 6 3 2)
          ∷ no_triangle ∷ triangle (tri 2 3 5) ∷ no_triangle ∷ triangle (tri 6 5 4) ∷ no_triangle ∷ numbers (totals_of 17 1 1 (negsuc 0))
          ∷ [];
      machine =
          (7 ∷ 17 ∷ 7 ∷ 2 ∷ 1 ∷ 1 ∷ 1 ∷ 0 ∷ 1 ∷ 2 ∷ 1 ∷ 0 ∷ 3 ∷ 1 ∷ 3 ∷ 4 ∷ 0 ∷ 2 ∷ 5 ∷ 0 ∷ 5 ∷ 6 ∷ 4 ∷ 3 ∷ 6 ∷ 6 ∷ 3 ∷ 2 ∷ 2 ∷ 3 ∷ 5 ∷ 6
          ∷ 5 ∷ 4 ∷ []);
      borders = (5 ∷ 4 ∷ 3 ∷ 5 ∷ 2 ∷ 6 ∷ 0 ∷ 3 ∷ 6 ∷ 0 ∷ 1 ∷ 2 ∷ 4 ∷ 1 ∷ []);
    }
    ∷
    -- union 2 of two waiting loops, in shortened loops
    record {
      lengths = lengths 33 1024;
      calls = begin (counts 8 11 10 3) ∷ operate Start ∷ operate Border ∷ operate New ∷ operate Border ∷ operate New ∷ operate New
          ∷ operate (Split 2) ∷ operate New ∷ operate New ∷ operate Border ∷ operate (Split 2) ∷ operate (Union 2 3) ∷ operate Backward
          ∷ operate Border ∷ operate Border ∷ operate Border ∷ operate Border ∷ operate Close ∷ finish ∷ [];
      told = accepted ∷ triangle (tri 0 1 2) ∷ no_triangle ∷ triangle (tri 2 1 3) ∷ no_triangle ∷ triangle (tri 0 2 4)
          ∷ triangle (tri 0 4 5) ∷ triangle (tri 0 5 3) ∷ triangle (tri 0 3 6) ∷ triangle (tri 0 6 7) ∷ no_triangle ∷ triangle (tri 3 1 7)
          ∷ triangle (tri 7 1 4) ∷ triangle (tri 7 4 2) ∷ no_triangle ∷ no_triangle ∷ no_triangle ∷ no_triangle ∷ triangle (tri 3 7 6)
          ∷ numbers (totals_of 20 1 1 (negsuc 0)) ∷ [];
      machine =
          (8 ∷ 20 ∷ 10 ∷ 3 ∷ 1 ∷ 1 ∷ 1 ∷ 0 ∷ 1 ∷ 2 ∷ 2 ∷ 1 ∷ 3 ∷ 0 ∷ 2 ∷ 4 ∷ 0 ∷ 4 ∷ 5 ∷ 0 ∷ 5 ∷ 3 ∷ 0 ∷ 3 ∷ 6 ∷ 0 ∷ 6 ∷ 7 ∷ 3 ∷ 1 ∷ 7 ∷ 7
          ∷ 1 ∷ 4 ∷ 7 ∷ 4 ∷ 2 ∷ 3 ∷ 7 ∷ 6 ∷ []);
      borders = (5 ∷ 3 ∷ 4 ∷ 5 ∷ 1 ∷ 4 ∷ 2 ∷ 7 ∷ 7 ∷ 0 ∷ 3 ∷ 2 ∷ 0 ∷ 1 ∷ []);
    }
    ∷
    -- union to c that has a place in the current loop too, before it
    record {
      lengths = lengths 30 1024;
      calls = begin (counts 8 10 10 2) ∷ operate Start ∷ operate New ∷ operate New ∷ operate New ∷ operate Border ∷ operate New
          ∷ operate (Split 3) ∷ operate Border ∷ operate New ∷ operate (Union 1 1) ∷ operate Backward ∷ operate Border ∷ operate Border
          ∷ operate Border ∷ operate Border ∷ operate Forward ∷ operate Border ∷ operate Border ∷ finish ∷ [];
      told = accepted ∷ triangle (tri 0 1 2) ∷ triangle (tri 1 0 3) ∷ triangle (tri 1 3 4) ∷ triangle (tri 1 4 5) ∷ no_triangle
          ∷ triangle (tri 2 1 6) ∷ triangle (tri 2 6 4) ∷ no_triangle ∷ triangle (tri 0 2 7) ∷ triangle (tri 0 7 4) ∷ triangle (tri 0 4 6)
          ∷ no_triangle ∷ no_triangle ∷ no_triangle ∷ no_triangle ∷ triangle (tri 4 7 5) ∷ no_triangle ∷ no_triangle
          ∷ numbers (totals_of 19 1 1 (negsuc 0)) ∷ [];
      machine =
          (8 ∷ 19 ∷ 10 ∷ 2 ∷ 1 ∷ 1 ∷ 1 ∷ 0 ∷ 1 ∷ 2 ∷ 1 ∷ 0 ∷ 3 ∷ 1 ∷ 3 ∷ 4 ∷ 1 ∷ 4 ∷ 5 ∷ 2 ∷ 1 ∷ 6 ∷ 2 ∷ 6 ∷ 4 ∷ 0 ∷ 2 ∷ 7 ∷ 0 ∷ 7 ∷ 4 ∷ 0
          ∷ 4 ∷ 6 ∷ 4 ∷ 7 ∷ 5 ∷ []);
      borders = (1 ∷ 6 ∷ 7 ∷ 5 ∷ 2 ∷ 7 ∷ 3 ∷ 4 ∷ 0 ∷ 3 ∷ 6 ∷ 0 ∷ 4 ∷ 2 ∷ 5 ∷ 1 ∷ []);
    }
    ∷
    -- split to c that has an earlier place in the loop: the first place that has c does not do
    record {
      lengths = lengths 33 1024;
      calls = begin (counts 8 11 10 2) ∷ operate Start ∷ operate New ∷ operate New ∷ operate New ∷ operate New ∷ operate New
          ∷ operate Border ∷ operate Border ∷ operate (Split 3) ∷ operate Border ∷ operate (Union 1 3) ∷ operate (Split 6) ∷ operate Close
          ∷ operate Backward ∷ operate Border ∷ operate Border ∷ operate Border ∷ operate Border ∷ finish ∷ [];
      told = accepted ∷ triangle (tri 0 1 2) ∷ triangle (tri 1 0 3) ∷ triangle (tri 1 3 4) ∷ triangle (tri 1 4 5) ∷ triangle (tri 1 5 6)
          ∷ triangle (tri 1 6 7) ∷ no_triangle ∷ no_triangle ∷ triangle (tri 0 2 5) ∷ no_triangle ∷ triangle (tri 3 0 7)
          ∷ triangle (tri 3 7 5) ∷ triangle (tri 5 7 6) ∷ triangle (tri 3 5 2) ∷ no_triangle ∷ no_triangle ∷ no_triangle ∷ no_triangle
          ∷ numbers (totals_of 20 1 1 (negsuc 0)) ∷ [];
      machine =
          (8 ∷ 20 ∷ 10 ∷ 2 ∷ 1 ∷ 1 ∷ 1 ∷ 0 ∷ 1 ∷ 2 ∷ 1 ∷ 0 ∷ 3 ∷ 1 ∷ 3 ∷ 4 ∷ 1 ∷ 4 ∷ 5 ∷ 1 ∷ 5 ∷ 6 ∷ 1 ∷ 6 ∷ 7 ∷ 0 ∷ 2 ∷ 5 ∷ 3 ∷ 0 ∷ 7 ∷ 3
          ∷ 7 ∷ 5 ∷ 5 ∷ 7 ∷ 6 ∷ 3 ∷ 5 ∷ 2 ∷ []);
      borders = (0 ∷ 7 ∷ 4 ∷ 5 ∷ 3 ∷ 4 ∷ 2 ∷ 3 ∷ 5 ∷ 0 ∷ 1 ∷ 2 ∷ 7 ∷ 1 ∷ []);
    }
    ∷
    -- split to c that has a later place in the loop
    record {
      lengths = lengths 39 1024;
      calls = begin (counts 9 13 10 2) ∷ operate Start ∷ operate New ∷ operate New ∷ operate New ∷ operate New ∷ operate Border
          ∷ operate Border ∷ operate (Split 3) ∷ operate (Union 1 2) ∷ operate New ∷ operate Forward ∷ operate New ∷ operate (Split 2)
          ∷ operate Backward ∷ operate Border ∷ operate Border ∷ operate Border ∷ operate Border ∷ operate Border ∷ operate Forward
          ∷ operate Border ∷ operate Border ∷ finish ∷ [];
      told = accepted ∷ triangle (tri 0 1 2) ∷ triangle (tri 1 0 3) ∷ triangle (tri 1 3 4) ∷ triangle (tri 1 4 5) ∷ triangle (tri 1 5 6)
          ∷ no_triangle ∷ no_triangle ∷ triangle (tri 0 2 5) ∷ triangle (tri 5 2 3) ∷ triangle (tri 5 3 7) ∷ triangle (tri 5 7 6)
          ∷ triangle (tri 6 7 8) ∷ triangle (tri 6 8 3) ∷ triangle (tri 6 3 2) ∷ no_triangle ∷ no_triangle ∷ no_triangle ∷ no_triangle
          ∷ no_triangle ∷ triangle (tri 3 0 7) ∷ no_triangle ∷ no_triangle ∷ numbers (totals_of 24 2 1 (negsuc 1)) ∷ [];
      machine =
          (9 ∷ 24 ∷ 10 ∷ 2 ∷ 1 ∷ 1 ∷ 2 ∷ 0 ∷ 1 ∷ 2 ∷ 1 ∷ 0 ∷ 3 ∷ 1 ∷ 3 ∷ 4 ∷ 1 ∷ 4 ∷ 5 ∷ 1 ∷ 5 ∷ 6 ∷ 0 ∷ 2 ∷ 5 ∷ 5 ∷ 2 ∷ 3 ∷ 5 ∷ 3 ∷ 7 ∷ 5
          ∷ 7 ∷ 6 ∷ 6 ∷ 7 ∷ 8 ∷ 6 ∷ 8 ∷ 3 ∷ 6 ∷ 3 ∷ 2 ∷ 3 ∷ 0 ∷ 7 ∷ []);
      borders = (7 ∷ 8 ∷ 0 ∷ 7 ∷ 5 ∷ 0 ∷ 4 ∷ 5 ∷ 3 ∷ 4 ∷ 8 ∷ 3 ∷ 2 ∷ 6 ∷ 1 ∷ 2 ∷ 6 ∷ 1 ∷ []);
    }
    ∷
    -- backward to c that has an earlier place in the loop
    record {
      lengths = lengths 30 1024;
      calls = begin (counts 8 10 9 2) ∷ operate Start ∷ operate New ∷ operate New ∷ operate New ∷ operate Border ∷ operate New
          ∷ operate (Split 3) ∷ operate Border ∷ operate (Union 1 2) ∷ operate Backward ∷ operate New ∷ operate Border ∷ operate Border
          ∷ operate Border ∷ operate Border ∷ operate Border ∷ operate Forward ∷ operate Border ∷ finish ∷ [];
      told = accepted ∷ triangle (tri 0 1 2) ∷ triangle (tri 1 0 3) ∷ triangle (tri 1 3 4) ∷ triangle (tri 1 4 5) ∷ no_triangle
          ∷ triangle (tri 2 1 6) ∷ triangle (tri 2 6 4) ∷ no_triangle ∷ triangle (tri 0 2 5) ∷ triangle (tri 0 5 4) ∷ triangle (tri 0 4 7)
          ∷ no_triangle ∷ no_triangle ∷ no_triangle ∷ no_triangle ∷ no_triangle ∷ triangle (tri 4 6 7) ∷ no_triangle
          ∷ numbers (totals_of 19 1 1 (negsuc 0)) ∷ [];
      machine =
          (8 ∷ 19 ∷ 9 ∷ 2 ∷ 1 ∷ 1 ∷ 1 ∷ 0 ∷ 1 ∷ 2 ∷ 1 ∷ 0 ∷ 3 ∷ 1 ∷ 3 ∷ 4 ∷ 1 ∷ 4 ∷ 5 ∷ 2 ∷ 1 ∷ 6 ∷ 2 ∷ 6 ∷ 4 ∷ 0 ∷ 2 ∷ 5 ∷ 0 ∷ 5 ∷ 4 ∷ 0
          ∷ 4 ∷ 7 ∷ 4 ∷ 6 ∷ 7 ∷ []);
      borders = (6 ∷ 7 ∷ 1 ∷ 6 ∷ 2 ∷ 5 ∷ 3 ∷ 4 ∷ 0 ∷ 3 ∷ 7 ∷ 0 ∷ 4 ∷ 2 ∷ 5 ∷ 1 ∷ []);
    }
    ∷
    -- forward to c that has a later place in the loop
    record {
      lengths = lengths 27 1024;
      calls = begin (counts 7 9 9 2) ∷ operate Start ∷ operate New ∷ operate New ∷ operate Border ∷ operate New ∷ operate Border
          ∷ operate (Split 2) ∷ operate (Union 1 3) ∷ operate New ∷ operate Border ∷ operate Border ∷ operate Forward ∷ operate Border
          ∷ operate Border ∷ operate Forward ∷ operate Border ∷ finish ∷ [];
      told = accepted ∷ triangle (tri 0 1 2) ∷ triangle (tri 1 0 3) ∷ triangle (tri 1 3 4) ∷ no_triangle ∷ triangle (tri 2 1 5)
          ∷ no_triangle ∷ triangle (tri 0 2 4) ∷ triangle (tri 0 4 5) ∷ triangle (tri 0 5 6) ∷ no_triangle ∷ no_triangle
          ∷ triangle (tri 4 3 5) ∷ no_triangle ∷ no_triangle ∷ triangle (tri 5 1 6) ∷ no_triangle ∷ numbers (totals_of 17 1 1 (negsuc 0))
          ∷ [];
      machine =
          (7 ∷ 17 ∷ 9 ∷ 2 ∷ 1 ∷ 1 ∷ 1 ∷ 0 ∷ 1 ∷ 2 ∷ 1 ∷ 0 ∷ 3 ∷ 1 ∷ 3 ∷ 4 ∷ 2 ∷ 1 ∷ 5 ∷ 0 ∷ 2 ∷ 4 ∷ 0 ∷ 4 ∷ 5 ∷ 0 ∷ 5 ∷ 6 ∷ 4 ∷ 3 ∷ 5 ∷ 5
          ∷ 1 ∷ 6 ∷ []);
      borders = (1 ∷ 6 ∷ 2 ∷ 4 ∷ 3 ∷ 5 ∷ 0 ∷ 3 ∷ 6 ∷ 0 ∷ 5 ∷ 2 ∷ 4 ∷ 1 ∷ []);
    }
    ∷
    -- turning about c through more triangles than its number
    record {
      lengths = lengths 51 1024;
      calls = begin (counts 9 17 10 2) ∷ operate Start ∷ operate New ∷ operate New ∷ operate New ∷ operate New ∷ operate New
          ∷ operate Forward ∷ operate Forward ∷ operate (Split 2) ∷ operate (Union 1 3) ∷ operate Border ∷ operate New ∷ operate (Split 5)
          ∷ operate Backward ∷ operate Border ∷ operate Border ∷ operate (Split 3) ∷ operate Close ∷ operate Backward ∷ operate Close
          ∷ finish ∷ [];
      told = accepted ∷ triangle (tri 0 1 2) ∷ triangle (tri 1 0 3) ∷ triangle (tri 1 3 4) ∷ triangle (tri 1 4 5) ∷ triangle (tri 1 5 6)
          ∷ triangle (tri 1 6 7) ∷ triangle (tri 1 7 2) ∷ triangle (tri 2 7 0) ∷ triangle (tri 0 7 4) ∷ triangle (tri 0 4 6) ∷ no_triangle
          ∷ triangle (tri 3 0 8) ∷ triangle (tri 3 8 5) ∷ triangle (tri 5 8 0) ∷ no_triangle ∷ no_triangle ∷ triangle (tri 3 5 7)
          ∷ triangle (tri 7 5 4) ∷ triangle (tri 3 7 6) ∷ triangle (tri 3 6 4) ∷ numbers (totals_of 27 1 1 (negsuc 0)) ∷ [];
      machine =
          (9 ∷ 27 ∷ 10 ∷ 2 ∷ 1 ∷ 1 ∷ 1 ∷ 0 ∷ 1 ∷ 2 ∷ 1 ∷ 0 ∷ 3 ∷ 1 ∷ 3 ∷ 4 ∷ 1 ∷ 4 ∷ 5 ∷ 1 ∷ 5 ∷ 6 ∷ 1 ∷ 6 ∷ 7 ∷ 1 ∷ 7 ∷ 2 ∷ 2 ∷ 7 ∷ 0 ∷ 0
          ∷ 7 ∷ 4 ∷ 0 ∷ 4 ∷ 6 ∷ 3 ∷ 0 ∷ 8 ∷ 3 ∷ 8 ∷ 5 ∷ 5 ∷ 8 ∷ 0 ∷ 3 ∷ 5 ∷ 7 ∷ 7 ∷ 5 ∷ 4 ∷ 3 ∷ 7 ∷ 6 ∷ 3 ∷ 6 ∷ 4 ∷ []);
      borders = (5 ∷ 6 ∷ 0 ∷ 5 ∷ 6 ∷ 0 ∷ []);
    }
    ∷
    -- the last place of a loop has the vertex that is looked for, and its edge leads to another
    record {
      lengths = lengths 51 1024;
      calls = begin (counts 9 17 10 2) ∷ operate Start ∷ operate New ∷ operate New ∷ operate New ∷ operate New ∷ operate Border
          ∷ operate Border ∷ operate New ∷ operate (Split 3) ∷ operate New ∷ operate Forward ∷ operate (Union 1 2) ∷ operate (Split 6)
          ∷ operate Close ∷ operate Forward ∷ operate Backward ∷ operate (Split 2) ∷ operate Close ∷ operate Forward ∷ operate Border
          ∷ finish ∷ [];
      told = accepted ∷ triangle (tri 0 1 2) ∷ triangle (tri 1 0 3) ∷ triangle (tri 1 3 4) ∷ triangle (tri 1 4 5) ∷ triangle (tri 1 5 6)
          ∷ no_triangle ∷ no_triangle ∷ triangle (tri 0 2 7) ∷ triangle (tri 0 7 5) ∷ triangle (tri 0 5 8) ∷ triangle (tri 0 8 3)
          ∷ triangle (tri 3 8 6) ∷ triangle (tri 3 6 7) ∷ triangle (tri 7 6 5) ∷ triangle (tri 3 7 4) ∷ triangle (tri 4 7 2)
          ∷ triangle (tri 4 2 8) ∷ triangle (tri 4 8 5) ∷ triangle (tri 8 2 6) ∷ no_triangle ∷ numbers (totals_of 27 1 1 (negsuc 0)) ∷ [];
      machine =
          (9 ∷ 27 ∷ 10 ∷ 2 ∷ 1 ∷ 1 ∷ 1 ∷ 0 ∷ 1 ∷ 2 ∷ 1 ∷ 0 ∷ 3 ∷ 1 ∷ 3 ∷ 4 ∷ 1 ∷ 4 ∷ 5 ∷ 1 ∷ 5 ∷ 6 ∷ 0 ∷ 2 ∷ 7 ∷ 0 ∷ 7 ∷ 5 ∷ 0 ∷ 5 ∷ 8 ∷ 0
          ∷ 8 ∷ 3 ∷ 3 ∷ 8 ∷ 6 ∷ 3 ∷ 6 ∷ 7 ∷ 7 ∷ 6 ∷ 5 ∷ 3 ∷ 7 ∷ 4 ∷ 4 ∷ 7 ∷ 2 ∷ 4 ∷ 2 ∷ 8 ∷ 4 ∷ 8 ∷ 5 ∷ 8 ∷ 2 ∷ 6 ∷ []);
      borders = (2 ∷ 6 ∷ 1 ∷ 2 ∷ 6 ∷ 1 ∷ []);
    }
    ∷
    -- turning about c through more triangles than the loop has places
    record {
      lengths = lengths 69 1024;
      calls = begin (counts 17 23 10 3) ∷ operate Start ∷ operate New ∷ operate Forward ∷ operate New ∷ operate New ∷ operate Border
          ∷ operate New ∷ operate (Split 2) ∷ operate New ∷ operate New ∷ operate New ∷ operate Border ∷ operate Border ∷ operate Border
          ∷ operate (Split 2) ∷ operate New ∷ operate Border ∷ operate Border ∷ operate New ∷ operate Border ∷ operate Border
          ∷ operate Forward ∷ operate Border ∷ operate New ∷ operate New ∷ operate New ∷ operate New ∷ operate New ∷ operate Forward
          ∷ operate Border ∷ operate Border ∷ operate Forward ∷ operate Forward ∷ operate Border ∷ operate Forward ∷ operate Border ∷ finish
          ∷ [];
      told = accepted ∷ triangle (tri 0 1 2) ∷ triangle (tri 1 0 3) ∷ triangle (tri 1 3 2) ∷ triangle (tri 2 3 4) ∷ triangle (tri 2 4 5)
          ∷ no_triangle ∷ triangle (tri 0 2 6) ∷ triangle (tri 0 6 4) ∷ triangle (tri 0 4 7) ∷ triangle (tri 0 7 8) ∷ triangle (tri 0 8 9)
          ∷ no_triangle ∷ no_triangle ∷ no_triangle ∷ triangle (tri 7 4 9) ∷ triangle (tri 9 4 10) ∷ no_triangle ∷ no_triangle
          ∷ triangle (tri 7 9 11) ∷ no_triangle ∷ no_triangle ∷ triangle (tri 9 8 11) ∷ no_triangle ∷ triangle (tri 4 6 12)
          ∷ triangle (tri 4 12 13) ∷ triangle (tri 4 13 14) ∷ triangle (tri 4 14 15) ∷ triangle (tri 4 15 16) ∷ triangle (tri 4 16 5)
          ∷ no_triangle ∷ no_triangle ∷ triangle (tri 12 6 13) ∷ triangle (tri 13 6 14) ∷ no_triangle ∷ triangle (tri 15 14 16)
          ∷ no_triangle ∷ numbers (totals_of 41 3 0 (negsuc 0)) ∷ [];
      machine =
          (17 ∷ 41 ∷ 10 ∷ 3 ∷ 1 ∷ 0 ∷ 3 ∷ 0 ∷ 1 ∷ 2 ∷ 1 ∷ 0 ∷ 3 ∷ 1 ∷ 3 ∷ 2 ∷ 2 ∷ 3 ∷ 4 ∷ 2 ∷ 4 ∷ 5 ∷ 0 ∷ 2 ∷ 6 ∷ 0 ∷ 6 ∷ 4 ∷ 0 ∷ 4 ∷ 7 ∷ 0
          ∷ 7 ∷ 8 ∷ 0 ∷ 8 ∷ 9 ∷ 7 ∷ 4 ∷ 9 ∷ 9 ∷ 4 ∷ 10 ∷ 7 ∷ 9 ∷ 11 ∷ 9 ∷ 8 ∷ 11 ∷ 4 ∷ 6 ∷ 12 ∷ 4 ∷ 12 ∷ 13 ∷ 4 ∷ 13 ∷ 14 ∷ 4 ∷ 14 ∷ 15 ∷ 4
          ∷ 15 ∷ 16 ∷ 4 ∷ 16 ∷ 5 ∷ 12 ∷ 6 ∷ 13 ∷ 13 ∷ 6 ∷ 14 ∷ 15 ∷ 14 ∷ 16 ∷ []);
      borders = (14 ∷ 16 ∷ 6 ∷ 14 ∷ 2 ∷ 6 ∷ 16 ∷ 5 ∷ 8 ∷ 11 ∷ 7 ∷ 8 ∷ 11 ∷ 7 ∷ 4 ∷ 10 ∷ 10 ∷ 9 ∷ 3 ∷ 4 ∷ 0 ∷ 3 ∷ 9 ∷ 0 ∷ 5 ∷ 2 ∷ []);
    }
    ∷
    -- two pieces listed in turn: the order is 0 2 1 3
    record {
      lengths = lengths 12 1024;
      calls = begin (counts 8 4 4 1) ∷ operate Start ∷ operate New ∷ operate Border ∷ operate Border ∷ operate Border ∷ operate Border
          ∷ operate Start ∷ operate New ∷ operate Border ∷ operate Border ∷ operate Border ∷ operate Border ∷ finish ∷ [];
      told = accepted ∷ triangle (tri 0 1 2) ∷ triangle (tri 1 0 3) ∷ no_triangle ∷ no_triangle ∷ no_triangle ∷ no_triangle
          ∷ triangle (tri 4 5 6) ∷ triangle (tri 5 4 7) ∷ no_triangle ∷ no_triangle ∷ no_triangle ∷ no_triangle
          ∷ numbers (totals_of 10 2 0 (pos 2)) ∷ [];
      machine = (8 ∷ 10 ∷ 4 ∷ 1 ∷ 2 ∷ 0 ∷ 2 ∷ 0 ∷ 1 ∷ 2 ∷ 1 ∷ 0 ∷ 3 ∷ 4 ∷ 5 ∷ 6 ∷ 5 ∷ 4 ∷ 7 ∷ []);
      borders = (4 ∷ 7 ∷ 6 ∷ 4 ∷ 5 ∷ 6 ∷ 7 ∷ 5 ∷ 0 ∷ 3 ∷ 2 ∷ 0 ∷ 1 ∷ 2 ∷ 3 ∷ 1 ∷ []);
    }
    ∷
    -- M10
    record {
      lengths = lengths 24576 1024;
      calls = begin (counts 4096 8192 1024 100) ∷ operate Start ∷ operate New ∷ operate New ∷ operate (Split 2) ∷ [];
      told = accepted ∷ triangle (tri 0 1 2) ∷ triangle (tri 1 0 3) ∷ triangle (tri 1 3 4) ∷ refusal 18 ∷ [];
      machine = (5 ∷ 7 ∷ 5 ∷ 1 ∷ 1 ∷ 0 ∷ 0 ∷ 0 ∷ 1 ∷ 2 ∷ 1 ∷ 0 ∷ 3 ∷ 1 ∷ 3 ∷ 4 ∷ 5 ∷ 4 ∷ 1 ∷ 1 ∷ 1 ∷ 2 ∷ 1 ∷ 0 ∷ 1 ∷ 3 ∷ 1 ∷ []);
      borders = [];
    }
    ∷
    -- refused by opposites only: neither a>c nor c>b is used, c>a and b>c are
    record {
      lengths = lengths 24576 1024;
      calls = begin (counts 4096 8192 1024 100) ∷ operate Start ∷ operate New ∷ operate Border ∷ operate New ∷ operate (Split 2)
          ∷ operate Border ∷ operate (Union 1 1) ∷ [];
      told = accepted ∷ triangle (tri 0 1 2) ∷ triangle (tri 1 0 3) ∷ no_triangle ∷ triangle (tri 2 1 4) ∷ triangle (tri 2 4 3)
          ∷ no_triangle ∷ refusal 18 ∷ [];
      machine =
          (5 ∷ 9 ∷ 6 ∷ 2 ∷ 1 ∷ 0 ∷ 0 ∷ 0 ∷ 1 ∷ 2 ∷ 1 ∷ 0 ∷ 3 ∷ 2 ∷ 1 ∷ 4 ∷ 2 ∷ 4 ∷ 3 ∷ 3 ∷ 2 ∷ 1 ∷ 0 ∷ 1 ∷ 3 ∷ 0 ∷ 3 ∷ 4 ∷ 1 ∷ 3 ∷ 0 ∷ 1 ∷ 1
          ∷ []);
      borders = (3 ∷ 2 ∷ 3 ∷ 1 ∷ []);
    }
    ∷
    -- c is a; c is b
    record {
      lengths = lengths 24576 1024;
      calls = begin (counts 4096 8192 1024 100) ∷ operate Start ∷ operate New ∷ operate Border ∷ operate New ∷ operate (Split 2)
          ∷ operate (Union 1 1) ∷ [];
      told = accepted ∷ triangle (tri 0 1 2) ∷ triangle (tri 1 0 3) ∷ no_triangle ∷ triangle (tri 2 1 4) ∷ triangle (tri 2 4 3) ∷ refusal 18
          ∷ [];
      machine =
          (5 ∷ 9 ∷ 6 ∷ 2 ∷ 1 ∷ 0 ∷ 0 ∷ 0 ∷ 1 ∷ 2 ∷ 1 ∷ 0 ∷ 3 ∷ 2 ∷ 1 ∷ 4 ∷ 2 ∷ 4 ∷ 3 ∷ 3 ∷ 3 ∷ 1 ∷ 2 ∷ 1 ∷ 0 ∷ 1 ∷ 3 ∷ 4 ∷ 1 ∷ 3 ∷ 0 ∷ 1 ∷ 1
          ∷ []);
      borders = (3 ∷ 1 ∷ []);
    }
    ∷
    -- c is a; c is b
    record {
      lengths = lengths 24576 1024;
      calls = begin (counts 4096 8192 1024 100) ∷ operate Start ∷ operate New ∷ operate New ∷ operate Border ∷ operate New
          ∷ operate (Split 3) ∷ operate (Union 1 0) ∷ [];
      told = accepted ∷ triangle (tri 0 1 2) ∷ triangle (tri 1 0 3) ∷ triangle (tri 1 3 4) ∷ no_triangle ∷ triangle (tri 2 1 5)
          ∷ triangle (tri 2 5 4) ∷ refusal 18 ∷ [];
      machine =
          (6 ∷ 11 ∷ 7 ∷ 2 ∷ 1 ∷ 0 ∷ 0 ∷ 0 ∷ 1 ∷ 2 ∷ 1 ∷ 0 ∷ 3 ∷ 1 ∷ 3 ∷ 4 ∷ 2 ∷ 1 ∷ 5 ∷ 2 ∷ 5 ∷ 4 ∷ 3 ∷ 5 ∷ 1 ∷ 4 ∷ 0 ∷ 1 ∷ 1 ∷ 4 ∷ 4 ∷ 1
          ∷ 2 ∷ 1 ∷ 0 ∷ 1 ∷ 3 ∷ 1 ∷ []);
      borders = (4 ∷ 1 ∷ []);
    }
    ∷
    -- a loop of two places takes neither forward, backward nor close
    record {
      lengths = lengths 24576 1024;
      calls = begin (counts 4096 8192 1024 100) ∷ operate Start ∷ operate New ∷ operate Border ∷ operate Border ∷ operate Border
          ∷ operate Forward ∷ operate Backward ∷ operate Close ∷ operate Border ∷ operate Border ∷ operate Start ∷ finish ∷ [];
      told = accepted ∷ triangle (tri 0 1 2) ∷ triangle (tri 1 0 3) ∷ no_triangle ∷ no_triangle ∷ no_triangle ∷ refusal 16 ∷ refusal 16
          ∷ refusal 16 ∷ no_triangle ∷ refusal 16 ∷ triangle (tri 4 5 6) ∷ refusal 15 ∷ [];
      machine = (7 ∷ 8 ∷ 4 ∷ 1 ∷ 2 ∷ 0 ∷ 1 ∷ 0 ∷ 1 ∷ 2 ∷ 1 ∷ 0 ∷ 3 ∷ 4 ∷ 5 ∷ 6 ∷ 3 ∷ 4 ∷ 1 ∷ 5 ∷ 1 ∷ 6 ∷ 1 ∷ []);
      borders = (0 ∷ 3 ∷ 2 ∷ 0 ∷ 1 ∷ 2 ∷ 3 ∷ 1 ∷ []);
    }
    ∷
    -- a loop of three with a marked edge does not close
    record {
      lengths = lengths 6 1024;
      calls = begin (counts 3 2 3 1) ∷ operate Start ∷ operate Border ∷ operate Close ∷ operate Forward ∷ operate Backward ∷ operate Border
          ∷ operate Border ∷ finish ∷ [];
      told = accepted ∷ triangle (tri 0 1 2) ∷ no_triangle ∷ refusal 16 ∷ refusal 18 ∷ refusal 16 ∷ no_triangle ∷ no_triangle ∷ refusal 15
          ∷ [];
      machine = (3 ∷ 3 ∷ 3 ∷ 1 ∷ 1 ∷ 0 ∷ 1 ∷ 0 ∷ 1 ∷ 2 ∷ []);
      borders = (2 ∷ 0 ∷ 1 ∷ 2 ∷ 0 ∷ 1 ∷ []);
    }
    ∷
    -- waiting loops and union numbers out of range
    record {
      lengths = lengths 24576 1024;
      calls = begin (counts 4096 8192 1024 100) ∷ operate Start ∷ operate (Union 0 0) ∷ operate (Union 1 0) ∷ operate New ∷ operate Border
          ∷ operate New ∷ operate (Split 1) ∷ operate (Split 3) ∷ operate (Split 2) ∷ operate (Union 0 0) ∷ operate (Union 2 0)
          ∷ operate (Union 1 3) ∷ operate (Union 1 2) ∷ [];
      told = accepted ∷ triangle (tri 0 1 2) ∷ refusal 16 ∷ refusal 16 ∷ triangle (tri 1 0 3) ∷ no_triangle ∷ triangle (tri 2 1 4)
          ∷ refusal 16 ∷ refusal 16 ∷ triangle (tri 2 4 3) ∷ refusal 16 ∷ refusal 16 ∷ refusal 16 ∷ refusal 18 ∷ [];
      machine =
          (5 ∷ 9 ∷ 6 ∷ 2 ∷ 1 ∷ 0 ∷ 0 ∷ 0 ∷ 1 ∷ 2 ∷ 1 ∷ 0 ∷ 3 ∷ 2 ∷ 1 ∷ 4 ∷ 2 ∷ 4 ∷ 3 ∷ 3 ∷ 3 ∷ 1 ∷ 2 ∷ 1 ∷ 0 ∷ 1 ∷ 3 ∷ 4 ∷ 1 ∷ 3 ∷ 0 ∷ 1 ∷ 1
          ∷ []);
      borders = (3 ∷ 1 ∷ []);
    }
    ∷
    -- limits stated: V, T, places, loops
    record {
      lengths = lengths 12 1024;
      calls = begin (counts 5 4 6 1) ∷ operate Start ∷ operate New ∷ operate Border ∷ operate New ∷ operate (Split 2) ∷ operate Border
          ∷ operate Border ∷ operate Border ∷ operate Border ∷ finish ∷ [];
      told = accepted ∷ triangle (tri 0 1 2) ∷ triangle (tri 1 0 3) ∷ no_triangle ∷ triangle (tri 2 1 4) ∷ refusal 17 ∷ no_triangle
          ∷ no_triangle ∷ no_triangle ∷ no_triangle ∷ refusal 15 ∷ [];
      machine = (5 ∷ 7 ∷ 5 ∷ 1 ∷ 1 ∷ 0 ∷ 1 ∷ 0 ∷ 1 ∷ 2 ∷ 1 ∷ 0 ∷ 3 ∷ 2 ∷ 1 ∷ 4 ∷ []);
      borders = (1 ∷ 4 ∷ 0 ∷ 3 ∷ 2 ∷ 0 ∷ 4 ∷ 2 ∷ 3 ∷ 1 ∷ []);
    }
    ∷
    -- limits stated: V, T, places, loops
    record {
      lengths = lengths 9 1024;
      calls = begin (counts 5 3 5 1) ∷ operate Start ∷ operate New ∷ operate New ∷ operate Border ∷ operate New ∷ finish ∷ [];
      told = accepted ∷ triangle (tri 0 1 2) ∷ triangle (tri 1 0 3) ∷ triangle (tri 1 3 4) ∷ no_triangle ∷ refusal 17 ∷ refusal 15 ∷ [];
      machine = (5 ∷ 7 ∷ 5 ∷ 1 ∷ 1 ∷ 0 ∷ 0 ∷ 0 ∷ 1 ∷ 2 ∷ 1 ∷ 0 ∷ 3 ∷ 1 ∷ 3 ∷ 4 ∷ 5 ∷ 1 ∷ 1 ∷ 2 ∷ 1 ∷ 0 ∷ 1 ∷ 3 ∷ 1 ∷ 4 ∷ 0 ∷ []);
      borders = (4 ∷ 1 ∷ []);
    }
    ∷
    -- 13 before 14 at a beginning; one refused leaves the model as it was
    record {
      lengths = lengths 6 1024;
      calls = begin (counts 3 1 3 1) ∷ operate Start ∷ begin (counts 2 3 3 1) ∷ begin (counts 2 1 3 1) ∷ begin (counts 3 3 3 1)
          ∷ operate Border ∷ begin (counts 3 1 3 1) ∷ operate New ∷ operate Start ∷ operate Border ∷ operate Border ∷ operate Border
          ∷ finish ∷ [];
      told = accepted ∷ triangle (tri 0 1 2) ∷ refusal 13 ∷ refusal 13 ∷ refusal 14 ∷ no_triangle ∷ accepted ∷ refusal 16
          ∷ triangle (tri 0 1 2) ∷ no_triangle ∷ no_triangle ∷ no_triangle ∷ numbers (totals_of 3 1 0 (pos 1)) ∷ [];
      machine = (3 ∷ 3 ∷ 3 ∷ 1 ∷ 1 ∷ 0 ∷ 1 ∷ 0 ∷ 1 ∷ 2 ∷ []);
      borders = (2 ∷ 0 ∷ 1 ∷ 2 ∷ 0 ∷ 1 ∷ []);
    }
    ∷
    -- 14: the place list
    record {
      lengths = lengths 6 1023;
      calls = begin (counts 3 1 3 1) ∷ [];
      told = refusal 14 ∷ [];
      machine = (0 ∷ 0 ∷ 0 ∷ 0 ∷ 0 ∷ 0 ∷ 0 ∷ []);
      borders = [];
    }
    ∷
    -- refused by 20
    record {
      lengths = lengths 12 1024;
      calls = begin (counts 5 4 5 2) ∷ operate Start ∷ operate New ∷ operate New ∷ operate Border ∷ operate Border ∷ operate (Split 2)
          ∷ operate Border ∷ operate Border ∷ operate Border ∷ operate Border ∷ finish ∷ [];
      told = accepted ∷ triangle (tri 0 1 2) ∷ triangle (tri 1 0 3) ∷ triangle (tri 1 3 4) ∷ no_triangle ∷ no_triangle
          ∷ triangle (tri 0 2 4) ∷ no_triangle ∷ no_triangle ∷ no_triangle ∷ no_triangle ∷ refusal 20 ∷ [];
      machine = (5 ∷ 9 ∷ 5 ∷ 2 ∷ 1 ∷ 0 ∷ 2 ∷ 0 ∷ 1 ∷ 2 ∷ 1 ∷ 0 ∷ 3 ∷ 1 ∷ 3 ∷ 4 ∷ 0 ∷ 2 ∷ 4 ∷ []);
      borders = (3 ∷ 4 ∷ 0 ∷ 3 ∷ 4 ∷ 0 ∷ 2 ∷ 4 ∷ 1 ∷ 2 ∷ 4 ∷ 1 ∷ []);
    }
    ∷
    -- 19 before 20: a vertex too many
    record {
      lengths = lengths 12 1024;
      calls = begin (counts 6 4 5 2) ∷ operate Start ∷ operate New ∷ operate New ∷ operate Border ∷ operate Border ∷ operate (Split 2)
          ∷ operate Border ∷ operate Border ∷ operate Border ∷ operate Border ∷ finish ∷ [];
      told = accepted ∷ triangle (tri 0 1 2) ∷ triangle (tri 1 0 3) ∷ triangle (tri 1 3 4) ∷ no_triangle ∷ no_triangle
          ∷ triangle (tri 0 2 4) ∷ no_triangle ∷ no_triangle ∷ no_triangle ∷ no_triangle ∷ refusal 19 ∷ [];
      machine = (5 ∷ 9 ∷ 5 ∷ 2 ∷ 1 ∷ 0 ∷ 2 ∷ 0 ∷ 1 ∷ 2 ∷ 1 ∷ 0 ∷ 3 ∷ 1 ∷ 3 ∷ 4 ∷ 0 ∷ 2 ∷ 4 ∷ []);
      borders = (3 ∷ 4 ∷ 0 ∷ 3 ∷ 4 ∷ 0 ∷ 2 ∷ 4 ∷ 1 ∷ 2 ∷ 4 ∷ 1 ∷ []);
    }
    ∷
    -- 19: the peak of places
    record {
      lengths = lengths 6 1024;
      calls = begin (counts 3 1 4 1) ∷ operate Start ∷ operate Border ∷ operate Border ∷ operate Border ∷ operate Start ∷ operate New
          ∷ finish ∷ [];
      told = accepted ∷ triangle (tri 0 1 2) ∷ no_triangle ∷ no_triangle ∷ no_triangle ∷ refusal 17 ∷ refusal 16 ∷ refusal 19 ∷ [];
      machine = (3 ∷ 3 ∷ 3 ∷ 1 ∷ 1 ∷ 0 ∷ 1 ∷ 0 ∷ 1 ∷ 2 ∷ []);
      borders = (2 ∷ 0 ∷ 1 ∷ 2 ∷ 0 ∷ 1 ∷ []);
    }
    ∷
    -- 19: the peak of loops
    record {
      lengths = lengths 6 1024;
      calls = begin (counts 3 1 3 2) ∷ operate Start ∷ operate Border ∷ operate Border ∷ operate Border ∷ finish ∷ [];
      told = accepted ∷ triangle (tri 0 1 2) ∷ no_triangle ∷ no_triangle ∷ no_triangle ∷ refusal 19 ∷ [];
      machine = (3 ∷ 3 ∷ 3 ∷ 1 ∷ 1 ∷ 0 ∷ 1 ∷ 0 ∷ 1 ∷ 2 ∷ []);
      borders = (2 ∷ 0 ∷ 1 ∷ 2 ∷ 0 ∷ 1 ∷ []);
    }
    ∷
    -- 15 before 19
    record {
      lengths = lengths 6 1024;
      calls = begin (counts 4 2 4 1) ∷ operate Start ∷ finish ∷ operate Border ∷ operate Border ∷ operate Border ∷ finish ∷ [];
      told = accepted ∷ triangle (tri 0 1 2) ∷ refusal 15 ∷ no_triangle ∷ no_triangle ∷ no_triangle ∷ refusal 15 ∷ [];
      machine = (3 ∷ 3 ∷ 3 ∷ 1 ∷ 1 ∷ 0 ∷ 1 ∷ 0 ∷ 1 ∷ 2 ∷ []);
      borders = (2 ∷ 0 ∷ 1 ∷ 2 ∷ 0 ∷ 1 ∷ []);
    }
    ∷
    -- T triangles are built and a loop is live: not complete
    record {
      lengths = lengths 3 1024;
      calls = begin (counts 3 1 3 1) ∷ operate Start ∷ finish ∷ operate Border ∷ operate New ∷ operate Border ∷ operate Border ∷ finish
          ∷ operate Start ∷ operate New ∷ operate Forward ∷ operate Backward ∷ operate Border ∷ operate Close ∷ operate (Split 2)
          ∷ operate (Union 1 0) ∷ [];
      told = accepted ∷ triangle (tri 0 1 2) ∷ refusal 15 ∷ no_triangle ∷ refusal 17 ∷ no_triangle ∷ no_triangle
          ∷ numbers (totals_of 3 1 0 (pos 1)) ∷ refusal 17 ∷ refusal 16 ∷ refusal 16 ∷ refusal 16 ∷ refusal 16 ∷ refusal 16 ∷ refusal 16
          ∷ refusal 16 ∷ [];
      machine = (3 ∷ 3 ∷ 3 ∷ 1 ∷ 1 ∷ 0 ∷ 1 ∷ 0 ∷ 1 ∷ 2 ∷ []);
      borders = (2 ∷ 0 ∷ 1 ∷ 2 ∷ 0 ∷ 1 ∷ []);
    }
    ∷
    -- a loop of three open edges takes neither forward, backward nor split; one of four does not close
    record {
      lengths = lengths 27 1024;
      calls = begin (counts 9 9 9 9) ∷ operate Start ∷ operate Forward ∷ operate Backward ∷ operate (Split 0) ∷ operate (Split 1)
          ∷ operate (Split 2) ∷ operate New ∷ operate Close ∷ operate (Split 1) ∷ operate (Split 2) ∷ operate Backward ∷ operate Backward
          ∷ finish ∷ [];
      told = accepted ∷ triangle (tri 0 1 2) ∷ refusal 16 ∷ refusal 16 ∷ refusal 16 ∷ refusal 16 ∷ refusal 16 ∷ triangle (tri 1 0 3)
          ∷ refusal 16 ∷ refusal 16 ∷ refusal 16 ∷ refusal 18 ∷ refusal 18 ∷ refusal 15 ∷ [];
      machine = (4 ∷ 5 ∷ 4 ∷ 1 ∷ 1 ∷ 0 ∷ 0 ∷ 0 ∷ 1 ∷ 2 ∷ 1 ∷ 0 ∷ 3 ∷ 4 ∷ 3 ∷ 1 ∷ 1 ∷ 1 ∷ 2 ∷ 1 ∷ 0 ∷ 1 ∷ []);
      borders = [];
    }
    ∷
    -- 18: a→c is used, its opposite is not
    record {
      lengths = lengths 180 1024;
      calls = begin (counts 60 60 60 9) ∷ operate Start ∷ operate New ∷ operate New ∷ operate Border ∷ operate New ∷ operate (Split 3)
          ∷ operate (Union 1 3) ∷ [];
      told = accepted ∷ triangle (tri 0 1 2) ∷ triangle (tri 1 0 3) ∷ triangle (tri 1 3 4) ∷ no_triangle ∷ triangle (tri 2 1 5)
          ∷ triangle (tri 2 5 4) ∷ refusal 18 ∷ [];
      machine =
          (6 ∷ 11 ∷ 7 ∷ 2 ∷ 1 ∷ 0 ∷ 0 ∷ 0 ∷ 1 ∷ 2 ∷ 1 ∷ 0 ∷ 3 ∷ 1 ∷ 3 ∷ 4 ∷ 2 ∷ 1 ∷ 5 ∷ 2 ∷ 5 ∷ 4 ∷ 3 ∷ 5 ∷ 1 ∷ 4 ∷ 0 ∷ 1 ∷ 1 ∷ 4 ∷ 4 ∷ 1
          ∷ 2 ∷ 1 ∷ 0 ∷ 1 ∷ 3 ∷ 1 ∷ []);
      borders = (4 ∷ 1 ∷ []);
    }
    ∷
    -- 18: a→c alone, at a forward
    record {
      lengths = lengths 180 1024;
      calls = begin (counts 60 60 60 9) ∷ operate Start ∷ operate New ∷ operate Border ∷ operate Forward ∷ [];
      told = accepted ∷ triangle (tri 0 1 2) ∷ triangle (tri 1 0 3) ∷ no_triangle ∷ refusal 18 ∷ [];
      machine = (4 ∷ 5 ∷ 4 ∷ 1 ∷ 1 ∷ 0 ∷ 0 ∷ 0 ∷ 1 ∷ 2 ∷ 1 ∷ 0 ∷ 3 ∷ 4 ∷ 1 ∷ 1 ∷ 2 ∷ 1 ∷ 0 ∷ 1 ∷ 3 ∷ 0 ∷ []);
      borders = (3 ∷ 1 ∷ []);
    }
    ∷
    -- 18: c→b alone, at a backward
    record {
      lengths = lengths 180 1024;
      calls = begin (counts 60 60 60 9) ∷ operate Start ∷ operate New ∷ operate Backward ∷ [];
      told = accepted ∷ triangle (tri 0 1 2) ∷ triangle (tri 1 0 3) ∷ refusal 18 ∷ [];
      machine = (4 ∷ 5 ∷ 4 ∷ 1 ∷ 1 ∷ 0 ∷ 0 ∷ 0 ∷ 1 ∷ 2 ∷ 1 ∷ 0 ∷ 3 ∷ 4 ∷ 3 ∷ 1 ∷ 1 ∷ 1 ∷ 2 ∷ 1 ∷ 0 ∷ 1 ∷ []);
      borders = [];
    }
    ∷
    -- f leaves: the next open edge is beyond a link
    record {
      lengths = lengths 180 1024;
      calls = begin (counts 60 60 60 9) ∷ operate Start ∷ operate Border ∷ operate Border ∷ operate New ∷ operate Border ∷ [];
      told = accepted ∷ triangle (tri 0 1 2) ∷ no_triangle ∷ no_triangle ∷ triangle (tri 0 2 3) ∷ no_triangle ∷ [];
      machine = (4 ∷ 5 ∷ 3 ∷ 1 ∷ 1 ∷ 0 ∷ 0 ∷ 0 ∷ 1 ∷ 2 ∷ 0 ∷ 2 ∷ 3 ∷ 2 ∷ 2 ∷ 1 ∷ 3 ∷ 0 ∷ []);
      borders = (3 ∷ 0 ∷ 1 ∷ 2 ∷ 0 ∷ 1 ∷ []);
    }
    ∷
    -- neither place leaves
    record {
      lengths = lengths 180 1024;
      calls = begin (counts 60 60 60 9) ∷ operate Start ∷ operate Border ∷ operate New ∷ operate New ∷ operate Border ∷ [];
      told = accepted ∷ triangle (tri 0 1 2) ∷ no_triangle ∷ triangle (tri 2 1 3) ∷ triangle (tri 2 3 4) ∷ no_triangle ∷ [];
      machine = (5 ∷ 7 ∷ 5 ∷ 1 ∷ 1 ∷ 0 ∷ 0 ∷ 0 ∷ 1 ∷ 2 ∷ 2 ∷ 1 ∷ 3 ∷ 2 ∷ 3 ∷ 4 ∷ 5 ∷ 2 ∷ 1 ∷ 0 ∷ 0 ∷ 1 ∷ 1 ∷ 3 ∷ 1 ∷ 4 ∷ 0 ∷ []);
      borders = (4 ∷ 2 ∷ 0 ∷ 1 ∷ []);
    }
    ∷
    -- both places leave: a link joins the places beside them
    record {
      lengths = lengths 180 1024;
      calls = begin (counts 60 60 60 9) ∷ operate Start ∷ operate Border ∷ operate New ∷ operate New ∷ operate Border ∷ operate Border ∷ [];
      told = accepted ∷ triangle (tri 0 1 2) ∷ no_triangle ∷ triangle (tri 2 1 3) ∷ triangle (tri 2 3 4) ∷ no_triangle ∷ no_triangle ∷ [];
      machine = (5 ∷ 7 ∷ 5 ∷ 1 ∷ 1 ∷ 0 ∷ 0 ∷ 0 ∷ 1 ∷ 2 ∷ 2 ∷ 1 ∷ 3 ∷ 2 ∷ 3 ∷ 4 ∷ 3 ∷ 1 ∷ 1 ∷ 3 ∷ 1 ∷ 4 ∷ 0 ∷ []);
      borders = (2 ∷ 0 ∷ 4 ∷ 2 ∷ 0 ∷ 1 ∷ []);
    }
    ∷
    -- e leaves
    record {
      lengths = lengths 180 1024;
      calls = begin (counts 60 60 60 9) ∷ operate Start ∷ operate New ∷ operate Border ∷ operate Border ∷ [];
      told = accepted ∷ triangle (tri 0 1 2) ∷ triangle (tri 1 0 3) ∷ no_triangle ∷ no_triangle ∷ [];
      machine = (4 ∷ 5 ∷ 4 ∷ 1 ∷ 1 ∷ 0 ∷ 0 ∷ 0 ∷ 1 ∷ 2 ∷ 1 ∷ 0 ∷ 3 ∷ 3 ∷ 2 ∷ 1 ∷ 0 ∷ 1 ∷ 3 ∷ 0 ∷ []);
      borders = (1 ∷ 2 ∷ 3 ∷ 1 ∷ []);
    }
    ∷
    -- a rim ends with two places
    record {
      lengths = lengths 9 1024;
      calls = begin (counts 5 3 5 1) ∷ operate Start ∷ operate Border ∷ operate New ∷ operate New ∷ operate Border ∷ operate Border
          ∷ operate Border ∷ operate Border ∷ finish ∷ [];
      told = accepted ∷ triangle (tri 0 1 2) ∷ no_triangle ∷ triangle (tri 2 1 3) ∷ triangle (tri 2 3 4) ∷ no_triangle ∷ no_triangle
          ∷ no_triangle ∷ no_triangle ∷ numbers (totals_of 7 1 0 (pos 1)) ∷ [];
      machine = (5 ∷ 7 ∷ 5 ∷ 1 ∷ 1 ∷ 0 ∷ 1 ∷ 0 ∷ 1 ∷ 2 ∷ 2 ∷ 1 ∷ 3 ∷ 2 ∷ 3 ∷ 4 ∷ []);
      borders = (3 ∷ 4 ∷ 1 ∷ 3 ∷ 2 ∷ 0 ∷ 4 ∷ 2 ∷ 0 ∷ 1 ∷ []);
    }
    ∷
    -- the second loop of a split goes on, the first waits as the latest of two
    record {
      lengths = lengths 180 1024;
      calls = begin (counts 60 60 60 9) ∷ operate Start ∷ operate New ∷ operate Border ∷ operate New ∷ operate (Split 2) ∷ operate New
          ∷ operate New ∷ operate Border ∷ operate New ∷ operate (Split 3) ∷ [];
      told = accepted ∷ triangle (tri 0 1 2) ∷ triangle (tri 1 0 3) ∷ no_triangle ∷ triangle (tri 2 1 4) ∷ triangle (tri 2 4 3)
          ∷ triangle (tri 2 3 5) ∷ triangle (tri 2 5 6) ∷ no_triangle ∷ triangle (tri 0 2 7) ∷ triangle (tri 0 7 6) ∷ [];
      machine =
          (8 ∷ 17 ∷ 10 ∷ 3 ∷ 1 ∷ 0 ∷ 0 ∷ 0 ∷ 1 ∷ 2 ∷ 1 ∷ 0 ∷ 3 ∷ 2 ∷ 1 ∷ 4 ∷ 2 ∷ 4 ∷ 3 ∷ 2 ∷ 3 ∷ 5 ∷ 2 ∷ 5 ∷ 6 ∷ 0 ∷ 2 ∷ 7 ∷ 0 ∷ 7 ∷ 6 ∷ 3
          ∷ 7 ∷ 1 ∷ 6 ∷ 0 ∷ 2 ∷ 1 ∷ 4 ∷ 6 ∷ 1 ∷ 0 ∷ 1 ∷ 3 ∷ 1 ∷ 5 ∷ 1 ∷ 3 ∷ 4 ∷ 1 ∷ 3 ∷ 0 ∷ 1 ∷ 1 ∷ []);
      borders = (6 ∷ 2 ∷ 3 ∷ 1 ∷ []);
    }
    ∷
    -- 17: a vertex too many
    record {
      lengths = lengths 27 1024;
      calls = begin (counts 3 9 9 9) ∷ operate Start ∷ operate New ∷ [];
      told = accepted ∷ triangle (tri 0 1 2) ∷ refusal 17 ∷ [];
      machine = (3 ∷ 3 ∷ 3 ∷ 1 ∷ 1 ∷ 0 ∷ 0 ∷ 0 ∷ 1 ∷ 2 ∷ 3 ∷ 0 ∷ 1 ∷ 1 ∷ 1 ∷ 2 ∷ 1 ∷ []);
      borders = [];
    }
    ∷
    -- 17: a triangle too many
    record {
      lengths = lengths 27 1024;
      calls = begin (counts 9 1 9 9) ∷ operate Start ∷ operate New ∷ [];
      told = accepted ∷ triangle (tri 0 1 2) ∷ refusal 17 ∷ [];
      machine = (3 ∷ 3 ∷ 3 ∷ 1 ∷ 1 ∷ 0 ∷ 0 ∷ 0 ∷ 1 ∷ 2 ∷ 3 ∷ 0 ∷ 1 ∷ 1 ∷ 1 ∷ 2 ∷ 1 ∷ []);
      borders = [];
    }
    ∷
    -- 17: a place too many
    record {
      lengths = lengths 27 1024;
      calls = begin (counts 9 9 3 9) ∷ operate Start ∷ operate New ∷ [];
      told = accepted ∷ triangle (tri 0 1 2) ∷ refusal 17 ∷ [];
      machine = (3 ∷ 3 ∷ 3 ∷ 1 ∷ 1 ∷ 0 ∷ 0 ∷ 0 ∷ 1 ∷ 2 ∷ 3 ∷ 0 ∷ 1 ∷ 1 ∷ 1 ∷ 2 ∷ 1 ∷ []);
      borders = [];
    }
    ∷
    -- 17: places are counted in shortened loops
    record {
      lengths = lengths 27 1024;
      calls = begin (counts 9 9 3 9) ∷ operate Start ∷ operate Border ∷ operate Border ∷ operate New ∷ operate New ∷ operate Border
          ∷ operate New ∷ [];
      told = accepted ∷ triangle (tri 0 1 2) ∷ no_triangle ∷ no_triangle ∷ triangle (tri 0 2 3) ∷ refusal 17 ∷ no_triangle
          ∷ triangle (tri 3 2 4) ∷ [];
      machine = (5 ∷ 7 ∷ 3 ∷ 1 ∷ 1 ∷ 0 ∷ 0 ∷ 0 ∷ 1 ∷ 2 ∷ 0 ∷ 2 ∷ 3 ∷ 3 ∷ 2 ∷ 4 ∷ 3 ∷ 4 ∷ 1 ∷ 3 ∷ 0 ∷ 2 ∷ 1 ∷ []);
      borders = (3 ∷ 0 ∷ 1 ∷ 2 ∷ 0 ∷ 1 ∷ []);
    }
    ∷
    -- 19: the peak in full loops is stated
    record {
      lengths = lengths 6 1024;
      calls = begin (counts 4 2 4 1) ∷ operate Start ∷ operate Border ∷ operate Border ∷ operate New ∷ operate Border ∷ operate Border
          ∷ finish ∷ [];
      told = accepted ∷ triangle (tri 0 1 2) ∷ no_triangle ∷ no_triangle ∷ triangle (tri 0 2 3) ∷ no_triangle ∷ no_triangle ∷ refusal 19
          ∷ [];
      machine = (4 ∷ 5 ∷ 3 ∷ 1 ∷ 1 ∷ 0 ∷ 1 ∷ 0 ∷ 1 ∷ 2 ∷ 0 ∷ 2 ∷ 3 ∷ []);
      borders = (2 ∷ 3 ∷ 3 ∷ 0 ∷ 1 ∷ 2 ∷ 0 ∷ 1 ∷ []);
    }
    ∷
    -- forward and backward across a marked edge; splits along a marked edge of the model
    record {
      lengths = lengths 180 1024;
      calls = begin (counts 60 60 60 9) ∷ operate Start ∷ operate Border ∷ operate New ∷ operate Border ∷ operate Forward ∷ operate Backward
          ∷ operate (Split 0) ∷ operate (Split 1) ∷ operate (Split 2) ∷ operate (Split 3) ∷ operate Close ∷ [];
      told = accepted ∷ triangle (tri 0 1 2) ∷ no_triangle ∷ triangle (tri 2 1 3) ∷ no_triangle ∷ refusal 16 ∷ refusal 16 ∷ refusal 16
          ∷ refusal 18 ∷ refusal 18 ∷ refusal 16 ∷ refusal 16 ∷ [];
      machine = (4 ∷ 5 ∷ 4 ∷ 1 ∷ 1 ∷ 0 ∷ 0 ∷ 0 ∷ 1 ∷ 2 ∷ 2 ∷ 1 ∷ 3 ∷ 4 ∷ 2 ∷ 1 ∷ 0 ∷ 0 ∷ 1 ∷ 1 ∷ 3 ∷ 0 ∷ []);
      borders = (3 ∷ 2 ∷ 0 ∷ 1 ∷ []);
    }
    ∷
    -- splits beyond an open edge, and as far as k - 2
    record {
      lengths = lengths 180 1024;
      calls = begin (counts 60 60 60 9) ∷ operate Start ∷ operate New ∷ operate New ∷ operate (Split 0) ∷ operate (Split 1)
          ∷ operate (Split 2) ∷ operate (Split 3) ∷ operate (Split 4) ∷ operate New ∷ operate (Split 1) ∷ operate (Split 2)
          ∷ operate (Split 3) ∷ operate (Split 4) ∷ operate (Split 5) ∷ [];
      told = accepted ∷ triangle (tri 0 1 2) ∷ triangle (tri 1 0 3) ∷ triangle (tri 1 3 4) ∷ refusal 16 ∷ refusal 16 ∷ refusal 18
          ∷ refusal 16 ∷ refusal 16 ∷ triangle (tri 1 4 5) ∷ refusal 16 ∷ refusal 18 ∷ refusal 18 ∷ refusal 16 ∷ refusal 16 ∷ [];
      machine =
          (6 ∷ 9 ∷ 6 ∷ 1 ∷ 1 ∷ 0 ∷ 0 ∷ 0 ∷ 1 ∷ 2 ∷ 1 ∷ 0 ∷ 3 ∷ 1 ∷ 3 ∷ 4 ∷ 1 ∷ 4 ∷ 5 ∷ 6 ∷ 5 ∷ 1 ∷ 1 ∷ 1 ∷ 2 ∷ 1 ∷ 0 ∷ 1 ∷ 3 ∷ 1 ∷ 4 ∷ 1
          ∷ []);
      borders = [];
    }
    ∷
    -- a loop of three with a marked edge, before e and after f
    record {
      lengths = lengths 180 1024;
      calls = begin (counts 60 60 60 9) ∷ operate Start ∷ operate Border ∷ operate Forward ∷ operate Backward ∷ operate (Split 1)
          ∷ operate Close ∷ operate Border ∷ operate New ∷ operate Forward ∷ operate Backward ∷ operate (Split 1) ∷ operate Close ∷ [];
      told = accepted ∷ triangle (tri 0 1 2) ∷ no_triangle ∷ refusal 18 ∷ refusal 16 ∷ refusal 16 ∷ refusal 16 ∷ no_triangle
          ∷ triangle (tri 0 2 3) ∷ refusal 16 ∷ refusal 18 ∷ refusal 16 ∷ refusal 16 ∷ [];
      machine = (4 ∷ 5 ∷ 3 ∷ 1 ∷ 1 ∷ 0 ∷ 0 ∷ 0 ∷ 1 ∷ 2 ∷ 0 ∷ 2 ∷ 3 ∷ 3 ∷ 3 ∷ 1 ∷ 0 ∷ 0 ∷ 2 ∷ 1 ∷ []);
      borders = (1 ∷ 2 ∷ 0 ∷ 1 ∷ []);
    }
    ∷
    -- a loop of two places takes new and border only
    record {
      lengths = lengths 180 1024;
      calls = begin (counts 60 60 60 9) ∷ operate Start ∷ operate Border ∷ operate Border ∷ operate Forward ∷ operate Backward
          ∷ operate (Split 0) ∷ operate (Split 1) ∷ operate Close ∷ operate (Union 1 0) ∷ operate Start ∷ finish ∷ operate Border ∷ [];
      told = accepted ∷ triangle (tri 0 1 2) ∷ no_triangle ∷ no_triangle ∷ refusal 16 ∷ refusal 16 ∷ refusal 16 ∷ refusal 16 ∷ refusal 16
          ∷ refusal 16 ∷ refusal 16 ∷ refusal 15 ∷ no_triangle ∷ [];
      machine = (3 ∷ 3 ∷ 3 ∷ 1 ∷ 1 ∷ 0 ∷ 1 ∷ 0 ∷ 1 ∷ 2 ∷ []);
      borders = (2 ∷ 0 ∷ 1 ∷ 2 ∷ 0 ∷ 1 ∷ []);
    }
    ∷
    -- after a forward a→c is current
    record {
      lengths = lengths 180 1024;
      calls = begin (counts 60 60 60 9) ∷ operate Start ∷ operate New ∷ operate Forward ∷ [];
      told = accepted ∷ triangle (tri 0 1 2) ∷ triangle (tri 1 0 3) ∷ triangle (tri 1 3 2) ∷ [];
      machine = (4 ∷ 6 ∷ 4 ∷ 1 ∷ 1 ∷ 0 ∷ 0 ∷ 0 ∷ 1 ∷ 2 ∷ 1 ∷ 0 ∷ 3 ∷ 1 ∷ 3 ∷ 2 ∷ 3 ∷ 3 ∷ 1 ∷ 2 ∷ 1 ∷ 0 ∷ 1 ∷ []);
      borders = [];
    }
    ∷
    -- after a backward c→b is current
    record {
      lengths = lengths 180 1024;
      calls = begin (counts 60 60 60 9) ∷ operate Start ∷ operate New ∷ operate New ∷ operate Forward ∷ operate Backward ∷ [];
      told = accepted ∷ triangle (tri 0 1 2) ∷ triangle (tri 1 0 3) ∷ triangle (tri 1 3 4) ∷ triangle (tri 1 4 2) ∷ triangle (tri 2 4 3)
          ∷ [];
      machine = (5 ∷ 9 ∷ 5 ∷ 1 ∷ 1 ∷ 0 ∷ 0 ∷ 0 ∷ 1 ∷ 2 ∷ 1 ∷ 0 ∷ 3 ∷ 1 ∷ 3 ∷ 4 ∷ 1 ∷ 4 ∷ 2 ∷ 2 ∷ 4 ∷ 3 ∷ 3 ∷ 3 ∷ 1 ∷ 2 ∷ 1 ∷ 0 ∷ 1 ∷ []);
      borders = [];
    }
    ∷
    -- a forward at three places leaves two
    record {
      lengths = lengths 180 1024;
      calls = begin (counts 60 60 60 9) ∷ operate Start ∷ operate New ∷ operate Border ∷ operate Border ∷ operate Forward ∷ [];
      told = accepted ∷ triangle (tri 0 1 2) ∷ triangle (tri 1 0 3) ∷ no_triangle ∷ no_triangle ∷ triangle (tri 0 2 3) ∷ [];
      machine = (4 ∷ 6 ∷ 4 ∷ 1 ∷ 1 ∷ 0 ∷ 0 ∷ 0 ∷ 1 ∷ 2 ∷ 1 ∷ 0 ∷ 3 ∷ 0 ∷ 2 ∷ 3 ∷ 2 ∷ 2 ∷ 1 ∷ 3 ∷ 0 ∷ []);
      borders = (1 ∷ 2 ∷ 3 ∷ 1 ∷ []);
    }
    ∷
    -- a backward at three places leaves two
    record {
      lengths = lengths 180 1024;
      calls = begin (counts 60 60 60 9) ∷ operate Start ∷ operate New ∷ operate Border ∷ operate Border ∷ operate New ∷ operate Forward
          ∷ operate Backward ∷ [];
      told = accepted ∷ triangle (tri 0 1 2) ∷ triangle (tri 1 0 3) ∷ no_triangle ∷ no_triangle ∷ triangle (tri 0 2 4)
          ∷ triangle (tri 0 4 3) ∷ triangle (tri 3 4 2) ∷ [];
      machine = (5 ∷ 9 ∷ 4 ∷ 1 ∷ 1 ∷ 0 ∷ 0 ∷ 0 ∷ 1 ∷ 2 ∷ 1 ∷ 0 ∷ 3 ∷ 0 ∷ 2 ∷ 4 ∷ 0 ∷ 4 ∷ 3 ∷ 3 ∷ 4 ∷ 2 ∷ 2 ∷ 2 ∷ 1 ∷ 3 ∷ 0 ∷ []);
      borders = (1 ∷ 2 ∷ 3 ∷ 1 ∷ []);
    }
    ∷
    -- after a union c→b is current
    record {
      lengths = lengths 180 1024;
      calls = begin (counts 60 60 60 9) ∷ operate Start ∷ operate New ∷ operate New ∷ operate Border ∷ operate New ∷ operate (Split 3)
          ∷ operate (Union 1 2) ∷ [];
      told = accepted ∷ triangle (tri 0 1 2) ∷ triangle (tri 1 0 3) ∷ triangle (tri 1 3 4) ∷ no_triangle ∷ triangle (tri 2 1 5)
          ∷ triangle (tri 2 5 4) ∷ triangle (tri 4 5 0) ∷ [];
      machine =
          (6 ∷ 13 ∷ 8 ∷ 2 ∷ 1 ∷ 1 ∷ 0 ∷ 0 ∷ 1 ∷ 2 ∷ 1 ∷ 0 ∷ 3 ∷ 1 ∷ 3 ∷ 4 ∷ 2 ∷ 1 ∷ 5 ∷ 2 ∷ 5 ∷ 4 ∷ 4 ∷ 5 ∷ 0 ∷ 8 ∷ 0 ∷ 1 ∷ 4 ∷ 0 ∷ 1 ∷ 1
          ∷ 5 ∷ 1 ∷ 0 ∷ 1 ∷ 3 ∷ 1 ∷ 4 ∷ 1 ∷ 2 ∷ 1 ∷ []);
      borders = (4 ∷ 1 ∷ []);
    }
    ∷
    -- a beginning alone
    record {
      lengths = lengths 18 1024;
      calls = begin (counts 5 6 7 8) ∷ [];
      told = accepted ∷ [];
      machine = (0 ∷ 0 ∷ 0 ∷ 0 ∷ 0 ∷ 0 ∷ 0 ∷ []);
      borders = [];
    }
    ∷
    -- union 1 of two waiting loops
    record {
      lengths = lengths 180 1024;
      calls = begin (counts 60 60 60 9) ∷ operate Start ∷ operate New ∷ operate Border ∷ operate New ∷ operate (Split 2) ∷ operate New
          ∷ operate New ∷ operate Border ∷ operate New ∷ operate (Split 3) ∷ operate New ∷ operate (Union 1 1) ∷ operate (Union 1 2) ∷ [];
      told = accepted ∷ triangle (tri 0 1 2) ∷ triangle (tri 1 0 3) ∷ no_triangle ∷ triangle (tri 2 1 4) ∷ triangle (tri 2 4 3)
          ∷ triangle (tri 2 3 5) ∷ triangle (tri 2 5 6) ∷ no_triangle ∷ triangle (tri 0 2 7) ∷ triangle (tri 0 7 6) ∷ triangle (tri 6 7 8)
          ∷ refusal 18 ∷ triangle (tri 6 8 3) ∷ [];
      machine =
          (9 ∷ 21 ∷ 12 ∷ 3 ∷ 1 ∷ 1 ∷ 0 ∷ 0 ∷ 1 ∷ 2 ∷ 1 ∷ 0 ∷ 3 ∷ 2 ∷ 1 ∷ 4 ∷ 2 ∷ 4 ∷ 3 ∷ 2 ∷ 3 ∷ 5 ∷ 2 ∷ 5 ∷ 6 ∷ 0 ∷ 2 ∷ 7 ∷ 0 ∷ 7 ∷ 6 ∷ 6
          ∷ 7 ∷ 8 ∷ 6 ∷ 8 ∷ 3 ∷ 9 ∷ 3 ∷ 1 ∷ 6 ∷ 0 ∷ 2 ∷ 1 ∷ 7 ∷ 1 ∷ 8 ∷ 1 ∷ 3 ∷ 1 ∷ 5 ∷ 1 ∷ 6 ∷ 1 ∷ 0 ∷ 1 ∷ 3 ∷ 4 ∷ 1 ∷ 3 ∷ 0 ∷ 1 ∷ 1 ∷ []);
      borders = (6 ∷ 2 ∷ 3 ∷ 1 ∷ []);
    }
    ∷
    []

unfoldable pub fields_rows : List FieldsRow
fields_rows =
    -- 3 bytes of operations
    record {
      stated = counts 4096 8192 1024 100;
      ops = (165 ∷ 165 ∷ 165 ∷ []);
      bytes = (1 ∷ 0 ∷ 8 ∷ 16 ∷ 0 ∷ 32 ∷ 0 ∷ 4 ∷ 0 ∷ 0 ∷ 100 ∷ 2 ∷ 0 ∷ 3 ∷ 165 ∷ 165 ∷ 165 ∷ []);
    }
    ∷
    -- 300 bytes of operations
    record {
      stated = counts 2748 7421 803 77;
      ops = (replicate 300 165);
      bytes = ((1 ∷ 0 ∷ 8 ∷ 10 ∷ 188 ∷ 28 ∷ 253 ∷ 3 ∷ 35 ∷ 0 ∷ 77 ∷ 2 ∷ 1 ∷ 44 ∷ []) ++ replicate 300 165);
    }
    ∷
    []

unfoldable pub look_rows : List LookRow
look_rows =
    -- a first edge
    record { list = (5 ∷ 6 ∷ 7 ∷ 6 ∷ 5 ∷ 8 ∷ 7 ∷ 6 ∷ 8 ∷ 5 ∷ 6 ∷ 9 ∷ []); from = 6; to = 5; told = (1 ∷ 2 ∷ 8 ∷ []) }
    ∷
    -- a second edge
    record { list = (5 ∷ 6 ∷ 7 ∷ 6 ∷ 5 ∷ 8 ∷ 7 ∷ 6 ∷ 8 ∷ 5 ∷ 6 ∷ 9 ∷ []); from = 6; to = 8; told = (2 ∷ 0 ∷ 7 ∷ []) }
    ∷
    -- a third edge
    record { list = (5 ∷ 6 ∷ 7 ∷ 6 ∷ 5 ∷ 8 ∷ 7 ∷ 6 ∷ 8 ∷ 5 ∷ 6 ∷ 9 ∷ []); from = 7; to = 5; told = (0 ∷ 1 ∷ 6 ∷ []) }
    ∷
    -- none
    record { list = (5 ∷ 6 ∷ 7 ∷ 6 ∷ 5 ∷ 8 ∷ 7 ∷ 6 ∷ 8 ∷ 5 ∷ 6 ∷ 9 ∷ []); from = 5; to = 7; told = [] }
    ∷
    -- the last of two
    record { list = (5 ∷ 6 ∷ 7 ∷ 6 ∷ 5 ∷ 8 ∷ 7 ∷ 6 ∷ 8 ∷ 5 ∷ 6 ∷ 9 ∷ []); from = 5; to = 6; told = (3 ∷ 2 ∷ 9 ∷ []) }
    ∷
    -- the last of three
    record { list = (5 ∷ 6 ∷ 7 ∷ 10 ∷ 5 ∷ 6 ∷ 6 ∷ 9 ∷ 5 ∷ 6 ∷ 5 ∷ 8 ∷ []); from = 5; to = 6; told = (2 ∷ 1 ∷ 9 ∷ []) }
    ∷
    -- a vertex to itself
    record { list = (5 ∷ 6 ∷ 7 ∷ 10 ∷ 5 ∷ 6 ∷ 6 ∷ 9 ∷ 5 ∷ 6 ∷ 5 ∷ 8 ∷ []); from = 6; to = 6; told = [] }
    ∷
    -- a number of no triangle
    record { list = (5 ∷ 6 ∷ 7 ∷ 10 ∷ 5 ∷ 6 ∷ 6 ∷ 9 ∷ 5 ∷ 6 ∷ 5 ∷ 8 ∷ []); from = 11; to = 5; told = [] }
    ∷
    []

unfoldable pub whole_pack_rows : List WholePackRow
whole_pack_rows =
    -- positions: M1: accepted
    record {
      limits = most;
      vertices = 3;
      list = (0 ∷ 1 ∷ 2 ∷ []);
      positions = given (negsuc 1399 ∷ negsuc 677 ∷ pos 118 ∷ pos 988 ∷ pos 1932 ∷ negsuc 1145 ∷ negsuc 53 ∷ pos 1112 ∷ negsuc 1743 ∷ []);
      note = not_given;
      lent = pack_lent (7 ∷ 7 ∷ 7 ∷ 7 ∷ []) (replicate 1024 (place 3 1 2 true)) (replicate 43 5) (9 ∷ 9 ∷ []);
      answer = packed 37;
      left = pack_lent (0 ∷ 1 ∷ 2 ∷ 7 ∷ []) (replicate 1024 (place 0 0 0 false))
          (1 ∷ 0 ∷ 8 ∷ 0 ∷ 3 ∷ 0 ∷ 1 ∷ 0 ∷ 3 ∷ 0 ∷ 1 ∷ 2 ∷ 0 ∷ 2 ∷ 237 ∷ 176 ∷ 3 ∷ 0 ∷ 18 ∷ 250 ∷ 136 ∷ 253 ∷ 90 ∷ 0 ∷ 118 ∷ 3 ∷ 220 ∷ 7
          ∷ 140 ∷ 251 ∷ 134 ∷ 255 ∷ 202 ∷ 4 ∷ 88 ∷ 249 ∷ 48 ∷ 5 ∷ 5 ∷ 5 ∷ 5 ∷ 5 ∷ 5 ∷ [])
          (0 ∷ 9 ∷ []);
    }
    ∷
    -- positions: M2: accepted
    record {
      limits = most;
      vertices = 4;
      list = (0 ∷ 1 ∷ 2 ∷ 1 ∷ 0 ∷ 3 ∷ 2 ∷ 1 ∷ 3 ∷ 0 ∷ 2 ∷ 3 ∷ []);
      positions = given
          (negsuc 1399 ∷ negsuc 677 ∷ pos 118 ∷ pos 988 ∷ pos 1932 ∷ negsuc 1145 ∷ negsuc 53 ∷ pos 1112 ∷ negsuc 1743 ∷ negsuc 429 ∷ pos 958
          ∷ negsuc 1675 ∷ []);
      note = not_given;
      lent = pack_lent (7 ∷ 7 ∷ 7 ∷ 7 ∷ 7 ∷ []) (replicate 1024 (place 3 1 2 true)) (replicate 52 5) (9 ∷ 9 ∷ 9 ∷ 9 ∷ 9 ∷ []);
      answer = packed 43;
      left = pack_lent (0 ∷ 1 ∷ 2 ∷ 3 ∷ 7 ∷ []) (replicate 1024 (place 0 0 0 false))
          ((1 ∷ 0 ∷ 8 ∷ 0 ∷ 4 ∷ 0 ∷ 4 ∷ 0 ∷ 4 ∷ 0 ∷ 1 ∷ 2 ∷ 0 ∷ 2 ∷ 224 ∷ 208 ∷ 3 ∷ 0 ∷ 24 ∷ 250 ∷ 136 ∷ 253 ∷ 90 ∷ 0 ∷ 118 ∷ 3 ∷ 220 ∷ 7
          ∷ 140 ∷ 251 ∷ 134 ∷ 255 ∷ 202 ∷ 4 ∷ 88 ∷ 249 ∷ 48 ∷ 254 ∷ 82 ∷ 3 ∷ 190 ∷ 249 ∷ 116 ∷ []) ++ replicate 9 5)
          (0 ∷ 1 ∷ 2 ∷ 3 ∷ 9 ∷ []);
    }
    ∷
    -- positions: M3: accepted
    record {
      limits = most;
      vertices = 4;
      list = (0 ∷ 1 ∷ 2 ∷ 1 ∷ 0 ∷ 3 ∷ []);
      positions = given
          (negsuc 1399 ∷ negsuc 677 ∷ pos 118 ∷ pos 988 ∷ pos 1932 ∷ negsuc 1145 ∷ negsuc 53 ∷ pos 1112 ∷ negsuc 1743 ∷ negsuc 429 ∷ pos 958
          ∷ negsuc 1675 ∷ []);
      note = not_given;
      lent = pack_lent (7 ∷ 7 ∷ 7 ∷ 7 ∷ 7 ∷ []) (replicate 1024 (place 3 1 2 true)) (replicate 50 5) (9 ∷ 9 ∷ 9 ∷ []);
      answer = packed 44;
      left = pack_lent (0 ∷ 1 ∷ 2 ∷ 3 ∷ 7 ∷ []) (replicate 1024 (place 0 0 0 false))
          (1 ∷ 0 ∷ 8 ∷ 0 ∷ 4 ∷ 0 ∷ 2 ∷ 0 ∷ 4 ∷ 0 ∷ 1 ∷ 2 ∷ 0 ∷ 3 ∷ 225 ∷ 182 ∷ 192 ∷ 3 ∷ 0 ∷ 24 ∷ 250 ∷ 136 ∷ 253 ∷ 90 ∷ 0 ∷ 118 ∷ 3 ∷ 220
          ∷ 7 ∷ 140 ∷ 251 ∷ 134 ∷ 255 ∷ 202 ∷ 4 ∷ 88 ∷ 249 ∷ 48 ∷ 254 ∷ 82 ∷ 3 ∷ 190 ∷ 249 ∷ 116 ∷ 5 ∷ 5 ∷ 5 ∷ 5 ∷ 5 ∷ 5 ∷ [])
          (0 ∷ 1 ∷ 9 ∷ []);
    }
    ∷
    -- positions: M4: accepted
    record {
      limits = most;
      vertices = 3;
      list = (0 ∷ 1 ∷ 2 ∷ 1 ∷ 0 ∷ 2 ∷ []);
      positions = given (negsuc 1399 ∷ negsuc 677 ∷ pos 118 ∷ pos 988 ∷ pos 1932 ∷ negsuc 1145 ∷ negsuc 53 ∷ pos 1112 ∷ negsuc 1743 ∷ []);
      note = not_given;
      lent = pack_lent (7 ∷ 7 ∷ 7 ∷ 7 ∷ []) (replicate 1024 (place 3 1 2 true)) (replicate 44 5) (9 ∷ 9 ∷ 9 ∷ []);
      answer = packed 36;
      left = pack_lent (0 ∷ 1 ∷ 2 ∷ 7 ∷ []) (replicate 1024 (place 0 0 0 false))
          ((1 ∷ 0 ∷ 8 ∷ 0 ∷ 3 ∷ 0 ∷ 2 ∷ 0 ∷ 3 ∷ 0 ∷ 1 ∷ 2 ∷ 0 ∷ 1 ∷ 244 ∷ 3 ∷ 0 ∷ 18 ∷ 250 ∷ 136 ∷ 253 ∷ 90 ∷ 0 ∷ 118 ∷ 3 ∷ 220 ∷ 7 ∷ 140
          ∷ 251 ∷ 134 ∷ 255 ∷ 202 ∷ 4 ∷ 88 ∷ 249 ∷ 48 ∷ []) ++ replicate 8 5)
          (0 ∷ 1 ∷ 9 ∷ []);
    }
    ∷
    -- positions: M5: accepted
    record {
      limits = most;
      vertices = 6;
      list = (0 ∷ 1 ∷ 2 ∷ 3 ∷ 4 ∷ 5 ∷ []);
      positions = given
          (negsuc 1399 ∷ negsuc 677 ∷ pos 118 ∷ pos 988 ∷ pos 1932 ∷ negsuc 1145 ∷ negsuc 53 ∷ pos 1112 ∷ negsuc 1743 ∷ negsuc 429 ∷ pos 958
          ∷ negsuc 1675 ∷ negsuc 139 ∷ pos 1470 ∷ negsuc 941 ∷ pos 816 ∷ negsuc 1447 ∷ pos 458 ∷ []);
      note = not_given;
      lent = pack_lent (7 ∷ 7 ∷ 7 ∷ 7 ∷ 7 ∷ 7 ∷ 7 ∷ []) (replicate 1024 (place 3 1 2 true)) (replicate 62 5) (9 ∷ 9 ∷ 9 ∷ []);
      answer = packed 56;
      left = pack_lent (0 ∷ 1 ∷ 2 ∷ 3 ∷ 4 ∷ 5 ∷ 7 ∷ []) (replicate 1024 (place 0 0 0 false))
          (1 ∷ 0 ∷ 8 ∷ 0 ∷ 6 ∷ 0 ∷ 2 ∷ 0 ∷ 3 ∷ 0 ∷ 1 ∷ 2 ∷ 0 ∷ 3 ∷ 237 ∷ 190 ∷ 219 ∷ 3 ∷ 0 ∷ 36 ∷ 250 ∷ 136 ∷ 253 ∷ 90 ∷ 0 ∷ 118 ∷ 3 ∷ 220
          ∷ 7 ∷ 140 ∷ 251 ∷ 134 ∷ 255 ∷ 202 ∷ 4 ∷ 88 ∷ 249 ∷ 48 ∷ 254 ∷ 82 ∷ 3 ∷ 190 ∷ 249 ∷ 116 ∷ 255 ∷ 116 ∷ 5 ∷ 190 ∷ 252 ∷ 82 ∷ 3 ∷ 48
          ∷ 250 ∷ 88 ∷ 1 ∷ 202 ∷ 5 ∷ 5 ∷ 5 ∷ 5 ∷ 5 ∷ 5 ∷ [])
          (0 ∷ 1 ∷ 9 ∷ []);
    }
    ∷
    -- positions: two pieces, vertices in the order 3 5 4 2 0 1: accepted
    record {
      limits = most;
      vertices = 6;
      list = (3 ∷ 5 ∷ 4 ∷ 2 ∷ 0 ∷ 1 ∷ []);
      positions = given
          (negsuc 1399 ∷ negsuc 677 ∷ pos 118 ∷ pos 988 ∷ pos 1932 ∷ negsuc 1145 ∷ negsuc 53 ∷ pos 1112 ∷ negsuc 1743 ∷ negsuc 429 ∷ pos 958
          ∷ negsuc 1675 ∷ negsuc 139 ∷ pos 1470 ∷ negsuc 941 ∷ pos 816 ∷ negsuc 1447 ∷ pos 458 ∷ []);
      note = not_given;
      lent = pack_lent (7 ∷ 7 ∷ 7 ∷ 7 ∷ 7 ∷ 7 ∷ 7 ∷ []) (replicate 1024 (place 3 1 2 true)) (replicate 62 5) (9 ∷ 9 ∷ 9 ∷ []);
      answer = packed 56;
      left = pack_lent (4 ∷ 5 ∷ 3 ∷ 0 ∷ 2 ∷ 1 ∷ 7 ∷ []) (replicate 1024 (place 0 0 0 false))
          (1 ∷ 0 ∷ 8 ∷ 0 ∷ 6 ∷ 0 ∷ 2 ∷ 0 ∷ 3 ∷ 0 ∷ 1 ∷ 2 ∷ 0 ∷ 3 ∷ 237 ∷ 190 ∷ 219 ∷ 3 ∷ 0 ∷ 36 ∷ 254 ∷ 82 ∷ 3 ∷ 190 ∷ 249 ∷ 116 ∷ 3 ∷ 48
          ∷ 250 ∷ 88 ∷ 1 ∷ 202 ∷ 255 ∷ 116 ∷ 5 ∷ 190 ∷ 252 ∷ 82 ∷ 255 ∷ 202 ∷ 4 ∷ 88 ∷ 249 ∷ 48 ∷ 250 ∷ 136 ∷ 253 ∷ 90 ∷ 0 ∷ 118 ∷ 3 ∷ 220
          ∷ 7 ∷ 140 ∷ 251 ∷ 134 ∷ 5 ∷ 5 ∷ 5 ∷ 5 ∷ 5 ∷ 5 ∷ [])
          (0 ∷ 1 ∷ 9 ∷ []);
    }
    ∷
    -- positions: a tetrahedron, vertices in the order 2 0 3 1: accepted
    record {
      limits = most;
      vertices = 4;
      list = (2 ∷ 0 ∷ 3 ∷ 0 ∷ 2 ∷ 1 ∷ 3 ∷ 0 ∷ 1 ∷ 2 ∷ 3 ∷ 1 ∷ []);
      positions = given
          (negsuc 1399 ∷ negsuc 677 ∷ pos 118 ∷ pos 988 ∷ pos 1932 ∷ negsuc 1145 ∷ negsuc 53 ∷ pos 1112 ∷ negsuc 1743 ∷ negsuc 429 ∷ pos 958
          ∷ negsuc 1675 ∷ []);
      note = not_given;
      lent = pack_lent (7 ∷ 7 ∷ 7 ∷ 7 ∷ 7 ∷ []) (replicate 1024 (place 3 1 2 true)) (replicate 52 5) (9 ∷ 9 ∷ 9 ∷ 9 ∷ 9 ∷ []);
      answer = packed 43;
      left = pack_lent (1 ∷ 3 ∷ 0 ∷ 2 ∷ 7 ∷ []) (replicate 1024 (place 0 0 0 false))
          ((1 ∷ 0 ∷ 8 ∷ 0 ∷ 4 ∷ 0 ∷ 4 ∷ 0 ∷ 4 ∷ 0 ∷ 1 ∷ 2 ∷ 0 ∷ 2 ∷ 224 ∷ 208 ∷ 3 ∷ 0 ∷ 24 ∷ 255 ∷ 202 ∷ 4 ∷ 88 ∷ 249 ∷ 48 ∷ 250 ∷ 136 ∷ 253
          ∷ 90 ∷ 0 ∷ 118 ∷ 254 ∷ 82 ∷ 3 ∷ 190 ∷ 249 ∷ 116 ∷ 3 ∷ 220 ∷ 7 ∷ 140 ∷ 251 ∷ 134 ∷ []) ++ replicate 9 5)
          (0 ∷ 1 ∷ 2 ∷ 3 ∷ 9 ∷ []);
    }
    ∷
    -- positions: torus of seven vertices: accepted
    record {
      limits = most;
      vertices = 7;
      list =
          (0 ∷ 1 ∷ 3 ∷ 1 ∷ 2 ∷ 4 ∷ 2 ∷ 3 ∷ 5 ∷ 3 ∷ 4 ∷ 6 ∷ 4 ∷ 5 ∷ 0 ∷ 5 ∷ 6 ∷ 1 ∷ 6 ∷ 0 ∷ 2 ∷ 1 ∷ 0 ∷ 5 ∷ 2 ∷ 1 ∷ 6 ∷ 3 ∷ 2 ∷ 0 ∷ 4 ∷ 3 ∷ 1
          ∷ 5 ∷ 4 ∷ 2 ∷ 6 ∷ 5 ∷ 3 ∷ 0 ∷ 6 ∷ 4 ∷ []);
      positions = given
          (negsuc 1399 ∷ negsuc 677 ∷ pos 118 ∷ pos 988 ∷ pos 1932 ∷ negsuc 1145 ∷ negsuc 53 ∷ pos 1112 ∷ negsuc 1743 ∷ negsuc 429 ∷ pos 958
          ∷ negsuc 1675 ∷ negsuc 139 ∷ pos 1470 ∷ negsuc 941 ∷ pos 816 ∷ negsuc 1447 ∷ pos 458 ∷ negsuc 1657 ∷ pos 396 ∷ negsuc 1571 ∷ []);
      note = not_given;
      lent = pack_lent (replicate 8 7) (replicate 1024 (place 3 1 2 true)) (replicate 80 5) (replicate 15 9);
      answer = packed 69;
      left = pack_lent (0 ∷ 1 ∷ 5 ∷ 2 ∷ 6 ∷ 3 ∷ 4 ∷ 7 ∷ []) (replicate 1024 (place 0 0 0 false))
          ((1 ∷ 0 ∷ 8 ∷ 0 ∷ 7 ∷ 0 ∷ 14 ∷ 0 ∷ 8 ∷ 0 ∷ 2 ∷ 2 ∷ 0 ∷ 10 ∷ 224 ∷ 0 ∷ 96 ∷ 7 ∷ 128 ∷ 128 ∷ 69 ∷ 64 ∷ 14 ∷ 154 ∷ 3 ∷ 0 ∷ 42 ∷ 250
          ∷ 136 ∷ 253 ∷ 90 ∷ 0 ∷ 118 ∷ 3 ∷ 220 ∷ 7 ∷ 140 ∷ 251 ∷ 134 ∷ 254 ∷ 82 ∷ 3 ∷ 190 ∷ 249 ∷ 116 ∷ 3 ∷ 48 ∷ 250 ∷ 88 ∷ 1 ∷ 202 ∷ 249
          ∷ 134 ∷ 1 ∷ 140 ∷ 249 ∷ 220 ∷ 255 ∷ 202 ∷ 4 ∷ 88 ∷ 249 ∷ 48 ∷ 255 ∷ 116 ∷ 5 ∷ 190 ∷ 252 ∷ 82 ∷ []) ++ replicate 11 5)
          (0 ∷ 7 ∷ 5 ∷ 8 ∷ 1 ∷ 10 ∷ 3 ∷ 13 ∷ 6 ∷ 9 ∷ 2 ∷ 12 ∷ 11 ∷ 4 ∷ 9 ∷ []);
    }
    ∷
    -- positions: the smallest and the largest: accepted
    record {
      limits = most;
      vertices = 3;
      list = (0 ∷ 1 ∷ 2 ∷ []);
      positions = given (negsuc 2047 ∷ pos 2047 ∷ negsuc 0 ∷ pos 0 ∷ pos 255 ∷ pos 256 ∷ pos 2047 ∷ negsuc 256 ∷ negsuc 2047 ∷ []);
      note = not_given;
      lent = pack_lent (7 ∷ 7 ∷ 7 ∷ 7 ∷ []) (replicate 1025 (place 3 1 2 true)) (replicate 43 5) (9 ∷ 9 ∷ []);
      answer = packed 37;
      left = pack_lent (0 ∷ 1 ∷ 2 ∷ 7 ∷ []) (replicate 1024 (place 0 0 0 false) ++ (place 3 1 2 true ∷ []))
          (1 ∷ 0 ∷ 8 ∷ 0 ∷ 3 ∷ 0 ∷ 1 ∷ 0 ∷ 3 ∷ 0 ∷ 1 ∷ 2 ∷ 0 ∷ 2 ∷ 237 ∷ 176 ∷ 3 ∷ 0 ∷ 18 ∷ 248 ∷ 0 ∷ 7 ∷ 255 ∷ 255 ∷ 255 ∷ 0 ∷ 0 ∷ 0 ∷ 255
          ∷ 1 ∷ 0 ∷ 7 ∷ 255 ∷ 254 ∷ 255 ∷ 248 ∷ 0 ∷ 5 ∷ 5 ∷ 5 ∷ 5 ∷ 5 ∷ 5 ∷ [])
          (0 ∷ 9 ∷ []);
    }
    ∷
    -- positions: not given: accepted
    record {
      limits = most;
      vertices = 3;
      list = (0 ∷ 1 ∷ 2 ∷ []);
      positions = not_given;
      note = not_given;
      lent = pack_lent (7 ∷ 7 ∷ 7 ∷ 7 ∷ []) (replicate 1024 (place 3 1 2 true)) (replicate 43 5) (9 ∷ 9 ∷ []);
      answer = packed 16;
      left = pack_lent (0 ∷ 1 ∷ 2 ∷ 7 ∷ []) (replicate 1024 (place 0 0 0 false))
          ((1 ∷ 0 ∷ 8 ∷ 0 ∷ 3 ∷ 0 ∷ 1 ∷ 0 ∷ 3 ∷ 0 ∷ 1 ∷ 2 ∷ 0 ∷ 2 ∷ 237 ∷ 176 ∷ []) ++ replicate 27 5) (0 ∷ 9 ∷ []);
    }
    ∷
    -- positions: not given, and 9: refusal 9
    record {
      limits = record { places = 3; loops = 1 };
      vertices = 4;
      list = (0 ∷ 1 ∷ 2 ∷ 1 ∷ 0 ∷ 3 ∷ []);
      positions = not_given;
      note = not_given;
      lent = pack_lent (7 ∷ 7 ∷ 7 ∷ 7 ∷ 7 ∷ []) (replicate 1024 (place 3 1 2 true)) (replicate 50 5) (9 ∷ 9 ∷ 9 ∷ []);
      answer = refusal 9;
      left = pack_lent (0 ∷ 0 ∷ 0 ∷ 0 ∷ 7 ∷ []) (replicate 1024 (place 0 0 0 false)) (replicate 50 0) (0 ∷ 0 ∷ 9 ∷ []);
    }
    ∷
    -- positions: 23: none: refusal 23
    record {
      limits = most;
      vertices = 3;
      list = (0 ∷ 1 ∷ 2 ∷ []);
      positions = given [];
      note = not_given;
      lent = pack_lent (7 ∷ 7 ∷ 7 ∷ 7 ∷ []) (replicate 1024 (place 3 1 2 true)) (replicate 43 5) (9 ∷ 9 ∷ []);
      answer = refusal 23;
      left = pack_lent (7 ∷ 7 ∷ 7 ∷ 7 ∷ []) (replicate 1024 (place 3 1 2 true)) (replicate 43 5) (9 ∷ 9 ∷ []);
    }
    ∷
    -- positions: 23: one too few: refusal 23
    record {
      limits = most;
      vertices = 3;
      list = (0 ∷ 1 ∷ 2 ∷ []);
      positions = given (negsuc 1399 ∷ negsuc 677 ∷ pos 118 ∷ pos 988 ∷ pos 1932 ∷ negsuc 1145 ∷ negsuc 53 ∷ pos 1112 ∷ []);
      note = not_given;
      lent = pack_lent (7 ∷ 7 ∷ 7 ∷ 7 ∷ []) (replicate 1024 (place 3 1 2 true)) (replicate 43 5) (9 ∷ 9 ∷ []);
      answer = refusal 23;
      left = pack_lent (7 ∷ 7 ∷ 7 ∷ 7 ∷ []) (replicate 1024 (place 3 1 2 true)) (replicate 43 5) (9 ∷ 9 ∷ []);
    }
    ∷
    -- positions: 23: one too many: refusal 23
    record {
      limits = most;
      vertices = 3;
      list = (0 ∷ 1 ∷ 2 ∷ []);
      positions = given
          (negsuc 1399 ∷ negsuc 677 ∷ pos 118 ∷ pos 988 ∷ pos 1932 ∷ negsuc 1145 ∷ negsuc 53 ∷ pos 1112 ∷ negsuc 1743 ∷ pos 0 ∷ []);
      note = not_given;
      lent = pack_lent (7 ∷ 7 ∷ 7 ∷ 7 ∷ []) (replicate 1024 (place 3 1 2 true)) (replicate 43 5) (9 ∷ 9 ∷ []);
      answer = refusal 23;
      left = pack_lent (7 ∷ 7 ∷ 7 ∷ 7 ∷ []) (replicate 1024 (place 3 1 2 true)) (replicate 43 5) (9 ∷ 9 ∷ []);
    }
    ∷
    -- positions: 23: three too many: refusal 23
    record {
      limits = most;
      vertices = 3;
      list = (0 ∷ 1 ∷ 2 ∷ []);
      positions = given
          (negsuc 1399 ∷ negsuc 677 ∷ pos 118 ∷ pos 988 ∷ pos 1932 ∷ negsuc 1145 ∷ negsuc 53 ∷ pos 1112 ∷ negsuc 1743 ∷ negsuc 429 ∷ pos 958
          ∷ negsuc 1675 ∷ []);
      note = not_given;
      lent = pack_lent (7 ∷ 7 ∷ 7 ∷ 7 ∷ []) (replicate 1024 (place 3 1 2 true)) (replicate 43 5) (9 ∷ 9 ∷ []);
      answer = refusal 23;
      left = pack_lent (7 ∷ 7 ∷ 7 ∷ 7 ∷ []) (replicate 1024 (place 3 1 2 true)) (replicate 43 5) (9 ∷ 9 ∷ []);
    }
    ∷
    -- positions: 23: -2049 at x of vertex 0: refusal 23
    record {
      limits = most;
      vertices = 3;
      list = (0 ∷ 1 ∷ 2 ∷ []);
      positions = given (negsuc 2048 ∷ negsuc 677 ∷ pos 118 ∷ pos 988 ∷ pos 1932 ∷ negsuc 1145 ∷ negsuc 53 ∷ pos 1112 ∷ negsuc 1743 ∷ []);
      note = not_given;
      lent = pack_lent (7 ∷ 7 ∷ 7 ∷ 7 ∷ []) (replicate 1024 (place 3 1 2 true)) (replicate 43 5) (9 ∷ 9 ∷ []);
      answer = refusal 23;
      left = pack_lent (7 ∷ 7 ∷ 7 ∷ 7 ∷ []) (replicate 1024 (place 3 1 2 true)) (replicate 43 5) (9 ∷ 9 ∷ []);
    }
    ∷
    -- positions: 23: 2048 at y of vertex 0: refusal 23
    record {
      limits = most;
      vertices = 3;
      list = (0 ∷ 1 ∷ 2 ∷ []);
      positions = given (negsuc 1399 ∷ pos 2048 ∷ pos 118 ∷ pos 988 ∷ pos 1932 ∷ negsuc 1145 ∷ negsuc 53 ∷ pos 1112 ∷ negsuc 1743 ∷ []);
      note = not_given;
      lent = pack_lent (7 ∷ 7 ∷ 7 ∷ 7 ∷ []) (replicate 1024 (place 3 1 2 true)) (replicate 43 5) (9 ∷ 9 ∷ []);
      answer = refusal 23;
      left = pack_lent (7 ∷ 7 ∷ 7 ∷ 7 ∷ []) (replicate 1024 (place 3 1 2 true)) (replicate 43 5) (9 ∷ 9 ∷ []);
    }
    ∷
    -- positions: 23: -2049 at z of vertex 0: refusal 23
    record {
      limits = most;
      vertices = 3;
      list = (0 ∷ 1 ∷ 2 ∷ []);
      positions = given
          (negsuc 1399 ∷ negsuc 677 ∷ negsuc 2048 ∷ pos 988 ∷ pos 1932 ∷ negsuc 1145 ∷ negsuc 53 ∷ pos 1112 ∷ negsuc 1743 ∷ []);
      note = not_given;
      lent = pack_lent (7 ∷ 7 ∷ 7 ∷ 7 ∷ []) (replicate 1024 (place 3 1 2 true)) (replicate 43 5) (9 ∷ 9 ∷ []);
      answer = refusal 23;
      left = pack_lent (7 ∷ 7 ∷ 7 ∷ 7 ∷ []) (replicate 1024 (place 3 1 2 true)) (replicate 43 5) (9 ∷ 9 ∷ []);
    }
    ∷
    -- positions: 23: 2048 at x of vertex 1: refusal 23
    record {
      limits = most;
      vertices = 3;
      list = (0 ∷ 1 ∷ 2 ∷ []);
      positions = given (negsuc 1399 ∷ negsuc 677 ∷ pos 118 ∷ pos 2048 ∷ pos 1932 ∷ negsuc 1145 ∷ negsuc 53 ∷ pos 1112 ∷ negsuc 1743 ∷ []);
      note = not_given;
      lent = pack_lent (7 ∷ 7 ∷ 7 ∷ 7 ∷ []) (replicate 1024 (place 3 1 2 true)) (replicate 43 5) (9 ∷ 9 ∷ []);
      answer = refusal 23;
      left = pack_lent (7 ∷ 7 ∷ 7 ∷ 7 ∷ []) (replicate 1024 (place 3 1 2 true)) (replicate 43 5) (9 ∷ 9 ∷ []);
    }
    ∷
    -- positions: 23: -2049 at y of vertex 2: refusal 23
    record {
      limits = most;
      vertices = 3;
      list = (0 ∷ 1 ∷ 2 ∷ []);
      positions = given
          (negsuc 1399 ∷ negsuc 677 ∷ pos 118 ∷ pos 988 ∷ pos 1932 ∷ negsuc 1145 ∷ negsuc 53 ∷ negsuc 2048 ∷ negsuc 1743 ∷ []);
      note = not_given;
      lent = pack_lent (7 ∷ 7 ∷ 7 ∷ 7 ∷ []) (replicate 1024 (place 3 1 2 true)) (replicate 43 5) (9 ∷ 9 ∷ []);
      answer = refusal 23;
      left = pack_lent (7 ∷ 7 ∷ 7 ∷ 7 ∷ []) (replicate 1024 (place 3 1 2 true)) (replicate 43 5) (9 ∷ 9 ∷ []);
    }
    ∷
    -- positions: 23: 2048 at z of vertex 2: refusal 23
    record {
      limits = most;
      vertices = 3;
      list = (0 ∷ 1 ∷ 2 ∷ []);
      positions = given (negsuc 1399 ∷ negsuc 677 ∷ pos 118 ∷ pos 988 ∷ pos 1932 ∷ negsuc 1145 ∷ negsuc 53 ∷ pos 1112 ∷ pos 2048 ∷ []);
      note = not_given;
      lent = pack_lent (7 ∷ 7 ∷ 7 ∷ 7 ∷ []) (replicate 1024 (place 3 1 2 true)) (replicate 43 5) (9 ∷ 9 ∷ []);
      answer = refusal 23;
      left = pack_lent (7 ∷ 7 ∷ 7 ∷ 7 ∷ []) (replicate 1024 (place 3 1 2 true)) (replicate 43 5) (9 ∷ 9 ∷ []);
    }
    ∷
    -- positions: 5 before 23: refusal 5
    record {
      limits = most;
      vertices = 4;
      list = (0 ∷ 1 ∷ 2 ∷ 0 ∷ 1 ∷ 3 ∷ []);
      positions = given
          (pos 2048 ∷ negsuc 677 ∷ pos 118 ∷ pos 988 ∷ pos 1932 ∷ negsuc 1145 ∷ negsuc 53 ∷ pos 1112 ∷ negsuc 1743 ∷ negsuc 429 ∷ pos 958
          ∷ negsuc 1675 ∷ []);
      note = not_given;
      lent = pack_lent (7 ∷ 7 ∷ 7 ∷ 7 ∷ 7 ∷ []) (place 3 1 2 true ∷ place 3 1 2 true ∷ []) (replicate 50 5) (9 ∷ 9 ∷ 9 ∷ []);
      answer = refusal 5;
      left = pack_lent (7 ∷ 7 ∷ 7 ∷ 7 ∷ 7 ∷ []) (place 3 1 2 true ∷ place 3 1 2 true ∷ []) (replicate 50 5) (9 ∷ 9 ∷ 9 ∷ []);
    }
    ∷
    -- positions: 7 before 23: refusal 7
    record {
      limits = most;
      vertices = 5;
      list = (0 ∷ 1 ∷ 2 ∷ 0 ∷ 3 ∷ 4 ∷ []);
      positions = given
          (pos 2048 ∷ negsuc 677 ∷ pos 118 ∷ pos 988 ∷ pos 1932 ∷ negsuc 1145 ∷ negsuc 53 ∷ pos 1112 ∷ negsuc 1743 ∷ negsuc 429 ∷ pos 958
          ∷ negsuc 1675 ∷ negsuc 139 ∷ pos 1470 ∷ negsuc 941 ∷ []);
      note = not_given;
      lent = pack_lent (7 ∷ 7 ∷ 7 ∷ 7 ∷ 7 ∷ 7 ∷ []) (place 3 1 2 true ∷ place 3 1 2 true ∷ []) (replicate 56 5) (9 ∷ 9 ∷ 9 ∷ []);
      answer = refusal 7;
      left = pack_lent (7 ∷ 7 ∷ 7 ∷ 7 ∷ 7 ∷ 7 ∷ []) (place 3 1 2 true ∷ place 3 1 2 true ∷ []) (replicate 56 5) (9 ∷ 9 ∷ 9 ∷ []);
    }
    ∷
    -- positions: 8 before 22: refusal 8
    record {
      limits = most;
      vertices = 4;
      list = (0 ∷ 1 ∷ 2 ∷ 1 ∷ 0 ∷ 3 ∷ []);
      positions = given
          (negsuc 1399 ∷ negsuc 677 ∷ pos 118 ∷ pos 988 ∷ pos 1932 ∷ negsuc 1145 ∷ negsuc 53 ∷ pos 1112 ∷ negsuc 1743 ∷ negsuc 429 ∷ pos 958
          ∷ negsuc 1675 ∷ []);
      note = not_given;
      lent = pack_lent (7 ∷ 7 ∷ 7 ∷ 7 ∷ 7 ∷ []) (place 3 1 2 true ∷ place 3 1 2 true ∷ []) (replicate 50 5) (9 ∷ []);
      answer = refusal 8;
      left = pack_lent (7 ∷ 7 ∷ 7 ∷ 7 ∷ 7 ∷ []) (place 3 1 2 true ∷ place 3 1 2 true ∷ []) (replicate 50 5) (9 ∷ []);
    }
    ∷
    -- positions: 8 before 23: numbering: refusal 8
    record {
      limits = most;
      vertices = 3;
      list = (0 ∷ 1 ∷ 2 ∷ []);
      positions = given (pos 2048 ∷ negsuc 677 ∷ pos 118 ∷ pos 988 ∷ pos 1932 ∷ negsuc 1145 ∷ negsuc 53 ∷ pos 1112 ∷ negsuc 1743 ∷ []);
      note = not_given;
      lent = pack_lent (7 ∷ 7 ∷ []) (replicate 1024 (place 3 1 2 true)) (replicate 43 5) (9 ∷ 9 ∷ []);
      answer = refusal 8;
      left = pack_lent (7 ∷ 7 ∷ []) (replicate 1024 (place 3 1 2 true)) (replicate 43 5) (9 ∷ 9 ∷ []);
    }
    ∷
    -- positions: 8 before 23: places: refusal 8
    record {
      limits = most;
      vertices = 3;
      list = (0 ∷ 1 ∷ 2 ∷ []);
      positions = given (pos 2048 ∷ negsuc 677 ∷ pos 118 ∷ pos 988 ∷ pos 1932 ∷ negsuc 1145 ∷ negsuc 53 ∷ pos 1112 ∷ negsuc 1743 ∷ []);
      note = not_given;
      lent = pack_lent (7 ∷ 7 ∷ 7 ∷ 7 ∷ []) (replicate 1023 (place 3 1 2 true)) (replicate 43 5) (9 ∷ 9 ∷ []);
      answer = refusal 8;
      left = pack_lent (7 ∷ 7 ∷ 7 ∷ 7 ∷ []) (replicate 1023 (place 3 1 2 true)) (replicate 43 5) (9 ∷ 9 ∷ []);
    }
    ∷
    -- positions: 22 before 23: refusal 22
    record {
      limits = most;
      vertices = 4;
      list = (0 ∷ 1 ∷ 2 ∷ 1 ∷ 0 ∷ 3 ∷ []);
      positions = given
          (pos 2048 ∷ negsuc 677 ∷ pos 118 ∷ pos 988 ∷ pos 1932 ∷ negsuc 1145 ∷ negsuc 53 ∷ pos 1112 ∷ negsuc 1743 ∷ negsuc 429 ∷ pos 958
          ∷ negsuc 1675 ∷ []);
      note = not_given;
      lent = pack_lent (7 ∷ 7 ∷ 7 ∷ 7 ∷ 7 ∷ []) (replicate 1024 (place 3 1 2 true)) (replicate 50 5) (9 ∷ []);
      answer = refusal 22;
      left = pack_lent (7 ∷ 7 ∷ 7 ∷ 7 ∷ 7 ∷ []) (replicate 1024 (place 3 1 2 true)) (replicate 50 5) (9 ∷ []);
    }
    ∷
    -- positions: 22 before 23: no position: refusal 22
    record {
      limits = most;
      vertices = 4;
      list = (0 ∷ 1 ∷ 2 ∷ 1 ∷ 0 ∷ 3 ∷ []);
      positions = given [];
      note = not_given;
      lent = pack_lent (7 ∷ 7 ∷ 7 ∷ 7 ∷ 7 ∷ []) (replicate 1024 (place 3 1 2 true)) (replicate 50 5) [];
      answer = refusal 22;
      left = pack_lent (7 ∷ 7 ∷ 7 ∷ 7 ∷ 7 ∷ []) (replicate 1024 (place 3 1 2 true)) (replicate 50 5) [];
    }
    ∷
    -- positions: 23 before 9: refusal 23
    record {
      limits = record { places = 3; loops = 1 };
      vertices = 4;
      list = (0 ∷ 1 ∷ 2 ∷ 1 ∷ 0 ∷ 3 ∷ []);
      positions = given
          (pos 2048 ∷ negsuc 677 ∷ pos 118 ∷ pos 988 ∷ pos 1932 ∷ negsuc 1145 ∷ negsuc 53 ∷ pos 1112 ∷ negsuc 1743 ∷ negsuc 429 ∷ pos 958
          ∷ negsuc 1675 ∷ []);
      note = not_given;
      lent = pack_lent (7 ∷ 7 ∷ 7 ∷ 7 ∷ 7 ∷ []) (replicate 1024 (place 3 1 2 true)) (replicate 50 5) (9 ∷ 9 ∷ 9 ∷ []);
      answer = refusal 23;
      left = pack_lent (7 ∷ 7 ∷ 7 ∷ 7 ∷ 7 ∷ []) (replicate 1024 (place 3 1 2 true)) (replicate 50 5) (9 ∷ 9 ∷ 9 ∷ []);
    }
    ∷
    -- positions: 23 before 10: refusal 23
    record {
      limits = record { places = 1024; loops = 1 };
      vertices = 6;
      list = (1 ∷ 3 ∷ 2 ∷ 2 ∷ 4 ∷ 5 ∷ 2 ∷ 3 ∷ 4 ∷ 1 ∷ 0 ∷ 3 ∷ 2 ∷ 5 ∷ 0 ∷ 0 ∷ 1 ∷ 2 ∷ []);
      positions = given
          (pos 2048 ∷ negsuc 677 ∷ pos 118 ∷ pos 988 ∷ pos 1932 ∷ negsuc 1145 ∷ negsuc 53 ∷ pos 1112 ∷ negsuc 1743 ∷ negsuc 429 ∷ pos 958
          ∷ negsuc 1675 ∷ negsuc 139 ∷ pos 1470 ∷ negsuc 941 ∷ pos 816 ∷ negsuc 1447 ∷ pos 458 ∷ []);
      note = not_given;
      lent = pack_lent (7 ∷ 7 ∷ 7 ∷ 7 ∷ 7 ∷ 7 ∷ 7 ∷ []) (replicate 1024 (place 3 1 2 true)) (replicate 66 5)
          (9 ∷ 9 ∷ 9 ∷ 9 ∷ 9 ∷ 9 ∷ 9 ∷ []);
      answer = refusal 23;
      left = pack_lent (7 ∷ 7 ∷ 7 ∷ 7 ∷ 7 ∷ 7 ∷ 7 ∷ []) (replicate 1024 (place 3 1 2 true)) (replicate 66 5)
          (9 ∷ 9 ∷ 9 ∷ 9 ∷ 9 ∷ 9 ∷ 9 ∷ []);
    }
    ∷
    -- positions: 23 before 11: refusal 23
    record {
      limits = most;
      vertices = 3;
      list = (0 ∷ 1 ∷ 2 ∷ []);
      positions = given (pos 2048 ∷ negsuc 677 ∷ pos 118 ∷ pos 988 ∷ pos 1932 ∷ negsuc 1145 ∷ negsuc 53 ∷ pos 1112 ∷ negsuc 1743 ∷ []);
      note = not_given;
      lent = pack_lent (7 ∷ 7 ∷ 7 ∷ 7 ∷ []) (replicate 1024 (place 3 1 2 true)) [] (9 ∷ 9 ∷ []);
      answer = refusal 23;
      left = pack_lent (7 ∷ 7 ∷ 7 ∷ 7 ∷ []) (replicate 1024 (place 3 1 2 true)) [] (9 ∷ 9 ∷ []);
    }
    ∷
    -- positions: 9: refusal 9
    record {
      limits = record { places = 3; loops = 1 };
      vertices = 4;
      list = (0 ∷ 1 ∷ 2 ∷ 1 ∷ 0 ∷ 3 ∷ []);
      positions = given
          (negsuc 1399 ∷ negsuc 677 ∷ pos 118 ∷ pos 988 ∷ pos 1932 ∷ negsuc 1145 ∷ negsuc 53 ∷ pos 1112 ∷ negsuc 1743 ∷ negsuc 429 ∷ pos 958
          ∷ negsuc 1675 ∷ []);
      note = not_given;
      lent = pack_lent (7 ∷ 7 ∷ 7 ∷ 7 ∷ 7 ∷ []) (replicate 1024 (place 3 1 2 true)) [] (9 ∷ 9 ∷ 9 ∷ []);
      answer = refusal 9;
      left = pack_lent (0 ∷ 0 ∷ 0 ∷ 0 ∷ 7 ∷ []) (replicate 1024 (place 0 0 0 false)) [] (0 ∷ 0 ∷ 9 ∷ []);
    }
    ∷
    -- positions: 10: refusal 10
    record {
      limits = record { places = 1024; loops = 1 };
      vertices = 6;
      list = (1 ∷ 3 ∷ 2 ∷ 2 ∷ 4 ∷ 5 ∷ 2 ∷ 3 ∷ 4 ∷ 1 ∷ 0 ∷ 3 ∷ 2 ∷ 5 ∷ 0 ∷ 0 ∷ 1 ∷ 2 ∷ []);
      positions = given
          (negsuc 1399 ∷ negsuc 677 ∷ pos 118 ∷ pos 988 ∷ pos 1932 ∷ negsuc 1145 ∷ negsuc 53 ∷ pos 1112 ∷ negsuc 1743 ∷ negsuc 429 ∷ pos 958
          ∷ negsuc 1675 ∷ negsuc 139 ∷ pos 1470 ∷ negsuc 941 ∷ pos 816 ∷ negsuc 1447 ∷ pos 458 ∷ []);
      note = not_given;
      lent = pack_lent (7 ∷ 7 ∷ 7 ∷ 7 ∷ 7 ∷ 7 ∷ 7 ∷ []) (replicate 1024 (place 3 1 2 true)) [] (9 ∷ 9 ∷ 9 ∷ 9 ∷ 9 ∷ 9 ∷ 9 ∷ []);
      answer = refusal 10;
      left = pack_lent (0 ∷ 0 ∷ 0 ∷ 0 ∷ 0 ∷ 0 ∷ 7 ∷ []) (replicate 1024 (place 0 0 0 false)) [] (0 ∷ 0 ∷ 0 ∷ 0 ∷ 0 ∷ 0 ∷ 9 ∷ []);
    }
    ∷
    -- positions: 11: one byte too short: refusal 11
    record {
      limits = most;
      vertices = 3;
      list = (0 ∷ 1 ∷ 2 ∷ []);
      positions = given (negsuc 1399 ∷ negsuc 677 ∷ pos 118 ∷ pos 988 ∷ pos 1932 ∷ negsuc 1145 ∷ negsuc 53 ∷ pos 1112 ∷ negsuc 1743 ∷ []);
      note = not_given;
      lent = pack_lent (7 ∷ 7 ∷ 7 ∷ 7 ∷ []) (replicate 1024 (place 3 1 2 true)) (replicate 36 5) (9 ∷ 9 ∷ []);
      answer = refusal 11;
      left = pack_lent (0 ∷ 0 ∷ 0 ∷ 7 ∷ []) (replicate 1024 (place 0 0 0 false)) (replicate 36 0) (0 ∷ 9 ∷ []);
    }
    ∷
    -- positions: buffers just long enough: accepted
    record {
      limits = most;
      vertices = 3;
      list = (0 ∷ 1 ∷ 2 ∷ []);
      positions = given (negsuc 1399 ∷ negsuc 677 ∷ pos 118 ∷ pos 988 ∷ pos 1932 ∷ negsuc 1145 ∷ negsuc 53 ∷ pos 1112 ∷ negsuc 1743 ∷ []);
      note = not_given;
      lent = pack_lent (7 ∷ 7 ∷ 7 ∷ []) (replicate 1024 (place 3 1 2 true)) (replicate 37 5) (9 ∷ []);
      answer = packed 37;
      left = pack_lent (0 ∷ 1 ∷ 2 ∷ []) (replicate 1024 (place 0 0 0 false))
          (1 ∷ 0 ∷ 8 ∷ 0 ∷ 3 ∷ 0 ∷ 1 ∷ 0 ∷ 3 ∷ 0 ∷ 1 ∷ 2 ∷ 0 ∷ 2 ∷ 237 ∷ 176 ∷ 3 ∷ 0 ∷ 18 ∷ 250 ∷ 136 ∷ 253 ∷ 90 ∷ 0 ∷ 118 ∷ 3 ∷ 220 ∷ 7
          ∷ 140 ∷ 251 ∷ 134 ∷ 255 ∷ 202 ∷ 4 ∷ 88 ∷ 249 ∷ 48 ∷ [])
          (0 ∷ []);
    }
    ∷
    -- note: one byte, no positions: accepted
    record {
      limits = most;
      vertices = 3;
      list = (0 ∷ 1 ∷ 2 ∷ []);
      positions = not_given;
      note = given (65 ∷ []);
      lent = pack_lent (7 ∷ 7 ∷ 7 ∷ 7 ∷ []) (replicate 1024 (place 3 1 2 true)) (replicate 47 5) (9 ∷ 9 ∷ []);
      answer = packed 20;
      left = pack_lent (0 ∷ 1 ∷ 2 ∷ 7 ∷ []) (replicate 1024 (place 0 0 0 false))
          ((1 ∷ 0 ∷ 8 ∷ 0 ∷ 3 ∷ 0 ∷ 1 ∷ 0 ∷ 3 ∷ 0 ∷ 1 ∷ 2 ∷ 0 ∷ 2 ∷ 237 ∷ 176 ∷ 4 ∷ 0 ∷ 1 ∷ 65 ∷ []) ++ replicate 27 5) (0 ∷ 9 ∷ []);
    }
    ∷
    -- note: a zero byte: accepted
    record {
      limits = most;
      vertices = 3;
      list = (0 ∷ 1 ∷ 2 ∷ []);
      positions = not_given;
      note = given (0 ∷ []);
      lent = pack_lent (7 ∷ 7 ∷ 7 ∷ 7 ∷ []) (replicate 1024 (place 3 1 2 true)) (replicate 47 5) (9 ∷ 9 ∷ []);
      answer = packed 20;
      left = pack_lent (0 ∷ 1 ∷ 2 ∷ 7 ∷ []) (replicate 1024 (place 0 0 0 false))
          ((1 ∷ 0 ∷ 8 ∷ 0 ∷ 3 ∷ 0 ∷ 1 ∷ 0 ∷ 3 ∷ 0 ∷ 1 ∷ 2 ∷ 0 ∷ 2 ∷ 237 ∷ 176 ∷ 4 ∷ 0 ∷ 1 ∷ 0 ∷ []) ++ replicate 27 5) (0 ∷ 9 ∷ []);
    }
    ∷
    -- note: positions and a note, vertices in the order 2 0 1: accepted
    record {
      limits = most;
      vertices = 3;
      list = (2 ∷ 0 ∷ 1 ∷ []);
      positions = given (negsuc 1399 ∷ negsuc 677 ∷ pos 118 ∷ pos 988 ∷ pos 1932 ∷ negsuc 1145 ∷ negsuc 53 ∷ pos 1112 ∷ negsuc 1743 ∷ []);
      note = given (7 ∷ 0 ∷ 255 ∷ 0 ∷ []);
      lent = pack_lent (7 ∷ 7 ∷ 7 ∷ 7 ∷ []) (replicate 1024 (place 3 1 2 true)) (replicate 50 5) (9 ∷ 9 ∷ []);
      answer = packed 44;
      left = pack_lent (1 ∷ 2 ∷ 0 ∷ 7 ∷ []) (replicate 1024 (place 0 0 0 false))
          (1 ∷ 0 ∷ 8 ∷ 0 ∷ 3 ∷ 0 ∷ 1 ∷ 0 ∷ 3 ∷ 0 ∷ 1 ∷ 2 ∷ 0 ∷ 2 ∷ 237 ∷ 176 ∷ 3 ∷ 0 ∷ 18 ∷ 255 ∷ 202 ∷ 4 ∷ 88 ∷ 249 ∷ 48 ∷ 250 ∷ 136 ∷ 253
          ∷ 90 ∷ 0 ∷ 118 ∷ 3 ∷ 220 ∷ 7 ∷ 140 ∷ 251 ∷ 134 ∷ 4 ∷ 0 ∷ 4 ∷ 7 ∷ 0 ∷ 255 ∷ 0 ∷ 5 ∷ 5 ∷ 5 ∷ 5 ∷ 5 ∷ 5 ∷ [])
          (0 ∷ 9 ∷ []);
    }
    ∷
    -- note: 64 bytes: accepted
    record {
      limits = most;
      vertices = 3;
      list = (0 ∷ 1 ∷ 2 ∷ []);
      positions = not_given;
      note = given
          (0 ∷ 37 ∷ 74 ∷ 111 ∷ 148 ∷ 185 ∷ 222 ∷ 3 ∷ 40 ∷ 77 ∷ 114 ∷ 151 ∷ 188 ∷ 225 ∷ 6 ∷ 43 ∷ 80 ∷ 117 ∷ 154 ∷ 191 ∷ 228 ∷ 9 ∷ 46 ∷ 83
          ∷ 120 ∷ 157 ∷ 194 ∷ 231 ∷ 12 ∷ 49 ∷ 86 ∷ 123 ∷ 160 ∷ 197 ∷ 234 ∷ 15 ∷ 52 ∷ 89 ∷ 126 ∷ 163 ∷ 200 ∷ 237 ∷ 18 ∷ 55 ∷ 92 ∷ 129 ∷ 166
          ∷ 203 ∷ 240 ∷ 21 ∷ 58 ∷ 95 ∷ 132 ∷ 169 ∷ 206 ∷ 243 ∷ 24 ∷ 61 ∷ 98 ∷ 135 ∷ 172 ∷ 209 ∷ 246 ∷ 27 ∷ []);
      lent = pack_lent (7 ∷ 7 ∷ 7 ∷ 7 ∷ []) (replicate 1024 (place 3 1 2 true)) (replicate 110 5) (9 ∷ 9 ∷ []);
      answer = packed 83;
      left = pack_lent (0 ∷ 1 ∷ 2 ∷ 7 ∷ []) (replicate 1024 (place 0 0 0 false))
          ((1 ∷ 0 ∷ 8 ∷ 0 ∷ 3 ∷ 0 ∷ 1 ∷ 0 ∷ 3 ∷ 0 ∷ 1 ∷ 2 ∷ 0 ∷ 2 ∷ 237 ∷ 176 ∷ 4 ∷ 0 ∷ 64 ∷ 0 ∷ 37 ∷ 74 ∷ 111 ∷ 148 ∷ 185 ∷ 222 ∷ 3 ∷ 40
          ∷ 77 ∷ 114 ∷ 151 ∷ 188 ∷ 225 ∷ 6 ∷ 43 ∷ 80 ∷ 117 ∷ 154 ∷ 191 ∷ 228 ∷ 9 ∷ 46 ∷ 83 ∷ 120 ∷ 157 ∷ 194 ∷ 231 ∷ 12 ∷ 49 ∷ 86 ∷ 123
          ∷ 160 ∷ 197 ∷ 234 ∷ 15 ∷ 52 ∷ 89 ∷ 126 ∷ 163 ∷ 200 ∷ 237 ∷ 18 ∷ 55 ∷ 92 ∷ 129 ∷ 166 ∷ 203 ∷ 240 ∷ 21 ∷ 58 ∷ 95 ∷ 132 ∷ 169 ∷ 206
          ∷ 243 ∷ 24 ∷ 61 ∷ 98 ∷ 135 ∷ 172 ∷ 209 ∷ 246 ∷ 27 ∷ []) ++ replicate 27 5)
          (0 ∷ 9 ∷ []);
    }
    ∷
    -- note: positions and 64 bytes: accepted
    record {
      limits = most;
      vertices = 3;
      list = (0 ∷ 1 ∷ 2 ∷ []);
      positions = given (negsuc 1399 ∷ negsuc 677 ∷ pos 118 ∷ pos 988 ∷ pos 1932 ∷ negsuc 1145 ∷ negsuc 53 ∷ pos 1112 ∷ negsuc 1743 ∷ []);
      note = given
          (0 ∷ 37 ∷ 74 ∷ 111 ∷ 148 ∷ 185 ∷ 222 ∷ 3 ∷ 40 ∷ 77 ∷ 114 ∷ 151 ∷ 188 ∷ 225 ∷ 6 ∷ 43 ∷ 80 ∷ 117 ∷ 154 ∷ 191 ∷ 228 ∷ 9 ∷ 46 ∷ 83
          ∷ 120 ∷ 157 ∷ 194 ∷ 231 ∷ 12 ∷ 49 ∷ 86 ∷ 123 ∷ 160 ∷ 197 ∷ 234 ∷ 15 ∷ 52 ∷ 89 ∷ 126 ∷ 163 ∷ 200 ∷ 237 ∷ 18 ∷ 55 ∷ 92 ∷ 129 ∷ 166
          ∷ 203 ∷ 240 ∷ 21 ∷ 58 ∷ 95 ∷ 132 ∷ 169 ∷ 206 ∷ 243 ∷ 24 ∷ 61 ∷ 98 ∷ 135 ∷ 172 ∷ 209 ∷ 246 ∷ 27 ∷ []);
      lent = pack_lent (7 ∷ 7 ∷ 7 ∷ 7 ∷ []) (replicate 1024 (place 3 1 2 true)) (replicate 110 5) (9 ∷ 9 ∷ []);
      answer = packed 104;
      left = pack_lent (0 ∷ 1 ∷ 2 ∷ 7 ∷ []) (replicate 1024 (place 0 0 0 false))
          (1 ∷ 0 ∷ 8 ∷ 0 ∷ 3 ∷ 0 ∷ 1 ∷ 0 ∷ 3 ∷ 0 ∷ 1 ∷ 2 ∷ 0 ∷ 2 ∷ 237 ∷ 176 ∷ 3 ∷ 0 ∷ 18 ∷ 250 ∷ 136 ∷ 253 ∷ 90 ∷ 0 ∷ 118 ∷ 3 ∷ 220 ∷ 7
          ∷ 140 ∷ 251 ∷ 134 ∷ 255 ∷ 202 ∷ 4 ∷ 88 ∷ 249 ∷ 48 ∷ 4 ∷ 0 ∷ 64 ∷ 0 ∷ 37 ∷ 74 ∷ 111 ∷ 148 ∷ 185 ∷ 222 ∷ 3 ∷ 40 ∷ 77 ∷ 114 ∷ 151
          ∷ 188 ∷ 225 ∷ 6 ∷ 43 ∷ 80 ∷ 117 ∷ 154 ∷ 191 ∷ 228 ∷ 9 ∷ 46 ∷ 83 ∷ 120 ∷ 157 ∷ 194 ∷ 231 ∷ 12 ∷ 49 ∷ 86 ∷ 123 ∷ 160 ∷ 197 ∷ 234
          ∷ 15 ∷ 52 ∷ 89 ∷ 126 ∷ 163 ∷ 200 ∷ 237 ∷ 18 ∷ 55 ∷ 92 ∷ 129 ∷ 166 ∷ 203 ∷ 240 ∷ 21 ∷ 58 ∷ 95 ∷ 132 ∷ 169 ∷ 206 ∷ 243 ∷ 24 ∷ 61
          ∷ 98 ∷ 135 ∷ 172 ∷ 209 ∷ 246 ∷ 27 ∷ 5 ∷ 5 ∷ 5 ∷ 5 ∷ 5 ∷ 5 ∷ [])
          (0 ∷ 9 ∷ []);
    }
    ∷
    -- note: 25: 0 bytes: refusal 25
    record {
      limits = most;
      vertices = 3;
      list = (0 ∷ 1 ∷ 2 ∷ []);
      positions = not_given;
      note = given [];
      lent = pack_lent (7 ∷ 7 ∷ 7 ∷ 7 ∷ []) (replicate 1024 (place 3 1 2 true)) (replicate 46 5) (9 ∷ 9 ∷ []);
      answer = refusal 25;
      left = pack_lent (7 ∷ 7 ∷ 7 ∷ 7 ∷ []) (replicate 1024 (place 3 1 2 true)) (replicate 46 5) (9 ∷ 9 ∷ []);
    }
    ∷
    -- note: 25: positions and 0 bytes: refusal 25
    record {
      limits = most;
      vertices = 3;
      list = (0 ∷ 1 ∷ 2 ∷ []);
      positions = given (negsuc 1399 ∷ negsuc 677 ∷ pos 118 ∷ pos 988 ∷ pos 1932 ∷ negsuc 1145 ∷ negsuc 53 ∷ pos 1112 ∷ negsuc 1743 ∷ []);
      note = given [];
      lent = pack_lent (7 ∷ 7 ∷ 7 ∷ 7 ∷ []) (replicate 1024 (place 3 1 2 true)) (replicate 46 5) (9 ∷ 9 ∷ []);
      answer = refusal 25;
      left = pack_lent (7 ∷ 7 ∷ 7 ∷ 7 ∷ []) (replicate 1024 (place 3 1 2 true)) (replicate 46 5) (9 ∷ 9 ∷ []);
    }
    ∷
    -- note: 25: 65 bytes: refusal 25
    record {
      limits = most;
      vertices = 3;
      list = (0 ∷ 1 ∷ 2 ∷ []);
      positions = not_given;
      note = given
          (0 ∷ 37 ∷ 74 ∷ 111 ∷ 148 ∷ 185 ∷ 222 ∷ 3 ∷ 40 ∷ 77 ∷ 114 ∷ 151 ∷ 188 ∷ 225 ∷ 6 ∷ 43 ∷ 80 ∷ 117 ∷ 154 ∷ 191 ∷ 228 ∷ 9 ∷ 46 ∷ 83
          ∷ 120 ∷ 157 ∷ 194 ∷ 231 ∷ 12 ∷ 49 ∷ 86 ∷ 123 ∷ 160 ∷ 197 ∷ 234 ∷ 15 ∷ 52 ∷ 89 ∷ 126 ∷ 163 ∷ 200 ∷ 237 ∷ 18 ∷ 55 ∷ 92 ∷ 129 ∷ 166
          ∷ 203 ∷ 240 ∷ 21 ∷ 58 ∷ 95 ∷ 132 ∷ 169 ∷ 206 ∷ 243 ∷ 24 ∷ 61 ∷ 98 ∷ 135 ∷ 172 ∷ 209 ∷ 246 ∷ 27 ∷ 64 ∷ []);
      lent = pack_lent (7 ∷ 7 ∷ 7 ∷ 7 ∷ []) (replicate 1024 (place 3 1 2 true)) (replicate 111 5) (9 ∷ 9 ∷ []);
      answer = refusal 25;
      left = pack_lent (7 ∷ 7 ∷ 7 ∷ 7 ∷ []) (replicate 1024 (place 3 1 2 true)) (replicate 111 5) (9 ∷ 9 ∷ []);
    }
    ∷
    -- note: 25: 257 bytes: refusal 25
    record {
      limits = most;
      vertices = 3;
      list = (0 ∷ 1 ∷ 2 ∷ []);
      positions = not_given;
      note = given
          (0 ∷ 37 ∷ 74 ∷ 111 ∷ 148 ∷ 185 ∷ 222 ∷ 3 ∷ 40 ∷ 77 ∷ 114 ∷ 151 ∷ 188 ∷ 225 ∷ 6 ∷ 43 ∷ 80 ∷ 117 ∷ 154 ∷ 191 ∷ 228 ∷ 9 ∷ 46 ∷ 83
          ∷ 120 ∷ 157 ∷ 194 ∷ 231 ∷ 12 ∷ 49 ∷ 86 ∷ 123 ∷ 160 ∷ 197 ∷ 234 ∷ 15 ∷ 52 ∷ 89 ∷ 126 ∷ 163 ∷ 200 ∷ 237 ∷ 18 ∷ 55 ∷ 92 ∷ 129 ∷ 166
          ∷ 203 ∷ 240 ∷ 21 ∷ 58 ∷ 95 ∷ 132 ∷ 169 ∷ 206 ∷ 243 ∷ 24 ∷ 61 ∷ 98 ∷ 135 ∷ 172 ∷ 209 ∷ 246 ∷ 27 ∷ 64 ∷ 101 ∷ 138 ∷ 175 ∷ 212 ∷ 249
          ∷ 30 ∷ 67 ∷ 104 ∷ 141 ∷ 178 ∷ 215 ∷ 252 ∷ 33 ∷ 70 ∷ 107 ∷ 144 ∷ 181 ∷ 218 ∷ 255 ∷ 36 ∷ 73 ∷ 110 ∷ 147 ∷ 184 ∷ 221 ∷ 2 ∷ 39 ∷ 76
          ∷ 113 ∷ 150 ∷ 187 ∷ 224 ∷ 5 ∷ 42 ∷ 79 ∷ 116 ∷ 153 ∷ 190 ∷ 227 ∷ 8 ∷ 45 ∷ 82 ∷ 119 ∷ 156 ∷ 193 ∷ 230 ∷ 11 ∷ 48 ∷ 85 ∷ 122 ∷ 159
          ∷ 196 ∷ 233 ∷ 14 ∷ 51 ∷ 88 ∷ 125 ∷ 162 ∷ 199 ∷ 236 ∷ 17 ∷ 54 ∷ 91 ∷ 128 ∷ 165 ∷ 202 ∷ 239 ∷ 20 ∷ 57 ∷ 94 ∷ 131 ∷ 168 ∷ 205 ∷ 242
          ∷ 23 ∷ 60 ∷ 97 ∷ 134 ∷ 171 ∷ 208 ∷ 245 ∷ 26 ∷ 63 ∷ 100 ∷ 137 ∷ 174 ∷ 211 ∷ 248 ∷ 29 ∷ 66 ∷ 103 ∷ 140 ∷ 177 ∷ 214 ∷ 251 ∷ 32 ∷ 69
          ∷ 106 ∷ 143 ∷ 180 ∷ 217 ∷ 254 ∷ 35 ∷ 72 ∷ 109 ∷ 146 ∷ 183 ∷ 220 ∷ 1 ∷ 38 ∷ 75 ∷ 112 ∷ 149 ∷ 186 ∷ 223 ∷ 4 ∷ 41 ∷ 78 ∷ 115 ∷ 152
          ∷ 189 ∷ 226 ∷ 7 ∷ 44 ∷ 81 ∷ 118 ∷ 155 ∷ 192 ∷ 229 ∷ 10 ∷ 47 ∷ 84 ∷ 121 ∷ 158 ∷ 195 ∷ 232 ∷ 13 ∷ 50 ∷ 87 ∷ 124 ∷ 161 ∷ 198 ∷ 235
          ∷ 16 ∷ 53 ∷ 90 ∷ 127 ∷ 164 ∷ 201 ∷ 238 ∷ 19 ∷ 56 ∷ 93 ∷ 130 ∷ 167 ∷ 204 ∷ 241 ∷ 22 ∷ 59 ∷ 96 ∷ 133 ∷ 170 ∷ 207 ∷ 244 ∷ 25 ∷ 62
          ∷ 99 ∷ 136 ∷ 173 ∷ 210 ∷ 247 ∷ 28 ∷ 65 ∷ 102 ∷ 139 ∷ 176 ∷ 213 ∷ 250 ∷ 31 ∷ 68 ∷ 105 ∷ 142 ∷ 179 ∷ 216 ∷ 253 ∷ 34 ∷ 71 ∷ 108 ∷ 145
          ∷ 182 ∷ 219 ∷ 0 ∷ []);
      lent = pack_lent (7 ∷ 7 ∷ 7 ∷ 7 ∷ []) (replicate 1024 (place 3 1 2 true)) (replicate 303 5) (9 ∷ 9 ∷ []);
      answer = refusal 25;
      left = pack_lent (7 ∷ 7 ∷ 7 ∷ 7 ∷ []) (replicate 1024 (place 3 1 2 true)) (replicate 303 5) (9 ∷ 9 ∷ []);
    }
    ∷
    -- note: 5 before 25: refusal 5
    record {
      limits = most;
      vertices = 4;
      list = (0 ∷ 1 ∷ 2 ∷ 0 ∷ 1 ∷ 3 ∷ []);
      positions = not_given;
      note = given [];
      lent = pack_lent (7 ∷ 7 ∷ 7 ∷ 7 ∷ 7 ∷ []) (replicate 1024 (place 3 1 2 true)) (replicate 53 5) (9 ∷ 9 ∷ 9 ∷ []);
      answer = refusal 5;
      left = pack_lent (7 ∷ 7 ∷ 7 ∷ 7 ∷ 7 ∷ []) (replicate 1024 (place 3 1 2 true)) (replicate 53 5) (9 ∷ 9 ∷ 9 ∷ []);
    }
    ∷
    -- note: 7 before 25: refusal 7
    record {
      limits = most;
      vertices = 5;
      list = (0 ∷ 1 ∷ 2 ∷ 0 ∷ 3 ∷ 4 ∷ []);
      positions = not_given;
      note = given [];
      lent = pack_lent (7 ∷ 7 ∷ 7 ∷ 7 ∷ 7 ∷ 7 ∷ []) (replicate 1024 (place 3 1 2 true)) (replicate 59 5) (9 ∷ 9 ∷ 9 ∷ []);
      answer = refusal 7;
      left = pack_lent (7 ∷ 7 ∷ 7 ∷ 7 ∷ 7 ∷ 7 ∷ []) (replicate 1024 (place 3 1 2 true)) (replicate 59 5) (9 ∷ 9 ∷ 9 ∷ []);
    }
    ∷
    -- note: 8 before 25: numbering: refusal 8
    record {
      limits = most;
      vertices = 3;
      list = (0 ∷ 1 ∷ 2 ∷ []);
      positions = not_given;
      note = given [];
      lent = pack_lent (7 ∷ 7 ∷ []) (replicate 1024 (place 3 1 2 true)) (replicate 46 5) (9 ∷ 9 ∷ []);
      answer = refusal 8;
      left = pack_lent (7 ∷ 7 ∷ []) (replicate 1024 (place 3 1 2 true)) (replicate 46 5) (9 ∷ 9 ∷ []);
    }
    ∷
    -- note: 8 before 25: places: refusal 8
    record {
      limits = most;
      vertices = 3;
      list = (0 ∷ 1 ∷ 2 ∷ []);
      positions = not_given;
      note = given [];
      lent = pack_lent (7 ∷ 7 ∷ 7 ∷ 7 ∷ []) (replicate 1023 (place 3 1 2 true)) (replicate 46 5) (9 ∷ 9 ∷ []);
      answer = refusal 8;
      left = pack_lent (7 ∷ 7 ∷ 7 ∷ 7 ∷ []) (replicate 1023 (place 3 1 2 true)) (replicate 46 5) (9 ∷ 9 ∷ []);
    }
    ∷
    -- note: 22 before 25: refusal 22
    record {
      limits = most;
      vertices = 4;
      list = (0 ∷ 1 ∷ 2 ∷ 1 ∷ 0 ∷ 3 ∷ []);
      positions = not_given;
      note = given [];
      lent = pack_lent (7 ∷ 7 ∷ 7 ∷ 7 ∷ 7 ∷ []) (replicate 1024 (place 3 1 2 true)) (replicate 53 5) (9 ∷ []);
      answer = refusal 22;
      left = pack_lent (7 ∷ 7 ∷ 7 ∷ 7 ∷ 7 ∷ []) (replicate 1024 (place 3 1 2 true)) (replicate 53 5) (9 ∷ []);
    }
    ∷
    -- note: 23 before 25: no position: refusal 23
    record {
      limits = most;
      vertices = 3;
      list = (0 ∷ 1 ∷ 2 ∷ []);
      positions = given [];
      note = given [];
      lent = pack_lent (7 ∷ 7 ∷ 7 ∷ 7 ∷ []) (replicate 1024 (place 3 1 2 true)) (replicate 46 5) (9 ∷ 9 ∷ []);
      answer = refusal 23;
      left = pack_lent (7 ∷ 7 ∷ 7 ∷ 7 ∷ []) (replicate 1024 (place 3 1 2 true)) (replicate 46 5) (9 ∷ 9 ∷ []);
    }
    ∷
    -- note: 23 before 25: a position: refusal 23
    record {
      limits = most;
      vertices = 3;
      list = (0 ∷ 1 ∷ 2 ∷ []);
      positions = given (negsuc 1399 ∷ negsuc 677 ∷ pos 118 ∷ pos 988 ∷ pos 1932 ∷ negsuc 1145 ∷ negsuc 53 ∷ pos 1112 ∷ pos 2048 ∷ []);
      note = given
          (0 ∷ 37 ∷ 74 ∷ 111 ∷ 148 ∷ 185 ∷ 222 ∷ 3 ∷ 40 ∷ 77 ∷ 114 ∷ 151 ∷ 188 ∷ 225 ∷ 6 ∷ 43 ∷ 80 ∷ 117 ∷ 154 ∷ 191 ∷ 228 ∷ 9 ∷ 46 ∷ 83
          ∷ 120 ∷ 157 ∷ 194 ∷ 231 ∷ 12 ∷ 49 ∷ 86 ∷ 123 ∷ 160 ∷ 197 ∷ 234 ∷ 15 ∷ 52 ∷ 89 ∷ 126 ∷ 163 ∷ 200 ∷ 237 ∷ 18 ∷ 55 ∷ 92 ∷ 129 ∷ 166
          ∷ 203 ∷ 240 ∷ 21 ∷ 58 ∷ 95 ∷ 132 ∷ 169 ∷ 206 ∷ 243 ∷ 24 ∷ 61 ∷ 98 ∷ 135 ∷ 172 ∷ 209 ∷ 246 ∷ 27 ∷ 64 ∷ []);
      lent = pack_lent (7 ∷ 7 ∷ 7 ∷ 7 ∷ []) (replicate 1024 (place 3 1 2 true)) (replicate 111 5) (9 ∷ 9 ∷ []);
      answer = refusal 23;
      left = pack_lent (7 ∷ 7 ∷ 7 ∷ 7 ∷ []) (replicate 1024 (place 3 1 2 true)) (replicate 111 5) (9 ∷ 9 ∷ []);
    }
    ∷
    -- note: 25 before 9: refusal 25
    record {
      limits = record { places = 3; loops = 1 };
      vertices = 4;
      list = (0 ∷ 1 ∷ 2 ∷ 1 ∷ 0 ∷ 3 ∷ []);
      positions = not_given;
      note = given [];
      lent = pack_lent (7 ∷ 7 ∷ 7 ∷ 7 ∷ 7 ∷ []) (replicate 1024 (place 3 1 2 true)) (replicate 53 5) (9 ∷ 9 ∷ 9 ∷ []);
      answer = refusal 25;
      left = pack_lent (7 ∷ 7 ∷ 7 ∷ 7 ∷ 7 ∷ []) (replicate 1024 (place 3 1 2 true)) (replicate 53 5) (9 ∷ 9 ∷ 9 ∷ []);
    }
    ∷
    -- note: 25 before 10: refusal 25
    record {
      limits = record { places = 1024; loops = 1 };
      vertices = 6;
      list = (1 ∷ 3 ∷ 2 ∷ 2 ∷ 4 ∷ 5 ∷ 2 ∷ 3 ∷ 4 ∷ 1 ∷ 0 ∷ 3 ∷ 2 ∷ 5 ∷ 0 ∷ 0 ∷ 1 ∷ 2 ∷ []);
      positions = not_given;
      note = given [];
      lent = pack_lent (7 ∷ 7 ∷ 7 ∷ 7 ∷ 7 ∷ 7 ∷ 7 ∷ []) (replicate 1024 (place 3 1 2 true)) (replicate 69 5)
          (9 ∷ 9 ∷ 9 ∷ 9 ∷ 9 ∷ 9 ∷ 9 ∷ []);
      answer = refusal 25;
      left = pack_lent (7 ∷ 7 ∷ 7 ∷ 7 ∷ 7 ∷ 7 ∷ 7 ∷ []) (replicate 1024 (place 3 1 2 true)) (replicate 69 5)
          (9 ∷ 9 ∷ 9 ∷ 9 ∷ 9 ∷ 9 ∷ 9 ∷ []);
    }
    ∷
    -- note: 25 before 11: refusal 25
    record {
      limits = most;
      vertices = 3;
      list = (0 ∷ 1 ∷ 2 ∷ []);
      positions = not_given;
      note = given
          (0 ∷ 37 ∷ 74 ∷ 111 ∷ 148 ∷ 185 ∷ 222 ∷ 3 ∷ 40 ∷ 77 ∷ 114 ∷ 151 ∷ 188 ∷ 225 ∷ 6 ∷ 43 ∷ 80 ∷ 117 ∷ 154 ∷ 191 ∷ 228 ∷ 9 ∷ 46 ∷ 83
          ∷ 120 ∷ 157 ∷ 194 ∷ 231 ∷ 12 ∷ 49 ∷ 86 ∷ 123 ∷ 160 ∷ 197 ∷ 234 ∷ 15 ∷ 52 ∷ 89 ∷ 126 ∷ 163 ∷ 200 ∷ 237 ∷ 18 ∷ 55 ∷ 92 ∷ 129 ∷ 166
          ∷ 203 ∷ 240 ∷ 21 ∷ 58 ∷ 95 ∷ 132 ∷ 169 ∷ 206 ∷ 243 ∷ 24 ∷ 61 ∷ 98 ∷ 135 ∷ 172 ∷ 209 ∷ 246 ∷ 27 ∷ 64 ∷ []);
      lent = pack_lent (7 ∷ 7 ∷ 7 ∷ 7 ∷ []) (replicate 1024 (place 3 1 2 true)) [] (9 ∷ 9 ∷ []);
      answer = refusal 25;
      left = pack_lent (7 ∷ 7 ∷ 7 ∷ 7 ∷ []) (replicate 1024 (place 3 1 2 true)) [] (9 ∷ 9 ∷ []);
    }
    ∷
    -- note: 9: refusal 9
    record {
      limits = record { places = 3; loops = 1 };
      vertices = 4;
      list = (0 ∷ 1 ∷ 2 ∷ 1 ∷ 0 ∷ 3 ∷ []);
      positions = not_given;
      note = given (65 ∷ []);
      lent = pack_lent (7 ∷ 7 ∷ 7 ∷ 7 ∷ 7 ∷ []) (replicate 1024 (place 3 1 2 true)) [] (9 ∷ 9 ∷ 9 ∷ []);
      answer = refusal 9;
      left = pack_lent (0 ∷ 0 ∷ 0 ∷ 0 ∷ 7 ∷ []) (replicate 1024 (place 0 0 0 false)) [] (0 ∷ 0 ∷ 9 ∷ []);
    }
    ∷
    -- note: 11: no room for the note's last byte: refusal 11
    record {
      limits = most;
      vertices = 3;
      list = (0 ∷ 1 ∷ 2 ∷ []);
      positions = not_given;
      note = given (65 ∷ 66 ∷ []);
      lent = pack_lent (7 ∷ 7 ∷ 7 ∷ 7 ∷ []) (replicate 1024 (place 3 1 2 true)) (replicate 20 5) (9 ∷ 9 ∷ []);
      answer = refusal 11;
      left = pack_lent (0 ∷ 0 ∷ 0 ∷ 7 ∷ []) (replicate 1024 (place 0 0 0 false)) (replicate 20 0) (0 ∷ 9 ∷ []);
    }
    ∷
    -- note: 11: room for all but the note: refusal 11
    record {
      limits = most;
      vertices = 3;
      list = (0 ∷ 1 ∷ 2 ∷ []);
      positions = given (negsuc 1399 ∷ negsuc 677 ∷ pos 118 ∷ pos 988 ∷ pos 1932 ∷ negsuc 1145 ∷ negsuc 53 ∷ pos 1112 ∷ negsuc 1743 ∷ []);
      note = given (65 ∷ []);
      lent = pack_lent (7 ∷ 7 ∷ 7 ∷ 7 ∷ []) (replicate 1024 (place 3 1 2 true)) (replicate 37 5) (9 ∷ 9 ∷ []);
      answer = refusal 11;
      left = pack_lent (0 ∷ 0 ∷ 0 ∷ 7 ∷ []) (replicate 1024 (place 0 0 0 false)) (replicate 37 0) (0 ∷ 9 ∷ []);
    }
    ∷
    -- note: buffers just long enough: accepted
    record {
      limits = most;
      vertices = 3;
      list = (0 ∷ 1 ∷ 2 ∷ []);
      positions = given (negsuc 1399 ∷ negsuc 677 ∷ pos 118 ∷ pos 988 ∷ pos 1932 ∷ negsuc 1145 ∷ negsuc 53 ∷ pos 1112 ∷ negsuc 1743 ∷ []);
      note = given (65 ∷ []);
      lent = pack_lent (7 ∷ 7 ∷ 7 ∷ []) (replicate 1024 (place 3 1 2 true)) (replicate 41 5) (9 ∷ []);
      answer = packed 41;
      left = pack_lent (0 ∷ 1 ∷ 2 ∷ []) (replicate 1024 (place 0 0 0 false))
          (1 ∷ 0 ∷ 8 ∷ 0 ∷ 3 ∷ 0 ∷ 1 ∷ 0 ∷ 3 ∷ 0 ∷ 1 ∷ 2 ∷ 0 ∷ 2 ∷ 237 ∷ 176 ∷ 3 ∷ 0 ∷ 18 ∷ 250 ∷ 136 ∷ 253 ∷ 90 ∷ 0 ∷ 118 ∷ 3 ∷ 220 ∷ 7
          ∷ 140 ∷ 251 ∷ 134 ∷ 255 ∷ 202 ∷ 4 ∷ 88 ∷ 249 ∷ 48 ∷ 4 ∷ 0 ∷ 1 ∷ 65 ∷ [])
          (0 ∷ []);
    }
    ∷
    []

unfoldable pub whole_rows : List WholeRow
whole_rows =
    -- volume of M2, corners at 0 and at 5 of each axis: only 2 1 3 is away from 0, rows 0 5 0, 5 0 0, 0 0 5: accepted, -125
    record {
      bytes =
          (1 ∷ 0 ∷ 8 ∷ 0 ∷ 4 ∷ 0 ∷ 4 ∷ 0 ∷ 4 ∷ 0 ∷ 1 ∷ 2 ∷ 0 ∷ 2 ∷ 224 ∷ 208 ∷ 3 ∷ 0 ∷ 24 ∷ 0 ∷ 0 ∷ 0 ∷ 0 ∷ 0 ∷ 0 ∷ 0 ∷ 5 ∷ 0 ∷ 0 ∷ 0 ∷ 0
          ∷ 0 ∷ 0 ∷ 0 ∷ 5 ∷ 0 ∷ 0 ∷ 0 ∷ 0 ∷ 0 ∷ 0 ∷ 0 ∷ 5 ∷ []);
      lent = unpack_lent (1 ∷ 2 ∷ 0 ∷ 1 ∷ 2 ∷ 0 ∷ 1 ∷ 2 ∷ 0 ∷ 1 ∷ 2 ∷ 0 ∷ 1 ∷ 2 ∷ 0 ∷ []) (replicate 1024 (place 3 1 2 true));
      unpacking = unpack_told (model_of 4 4 (totals_of 6 0 0 (pos 2)))
          (unpack_lent (0 ∷ 1 ∷ 2 ∷ 1 ∷ 0 ∷ 3 ∷ 1 ∷ 3 ∷ 2 ∷ 2 ∷ 3 ∷ 0 ∷ 1 ∷ 2 ∷ 0 ∷ []) (replicate 1024 (place 0 0 0 false)));
      measuring = volume_told (model_of 4 4 (totals_of 6 0 0 (pos 2))) (given (negsuc 124))
          (unpack_lent (0 ∷ 1 ∷ 2 ∷ 1 ∷ 0 ∷ 3 ∷ 1 ∷ 3 ∷ 2 ∷ 2 ∷ 3 ∷ 0 ∷ 1 ∷ 2 ∷ 0 ∷ []) (replicate 1024 (place 0 0 0 false)));
      note = [];
      start = 0;
    }
    ∷
    -- volume of M2, the same turned inside out: accepted, 125
    record {
      bytes =
          ((1 ∷ 0 ∷ 8 ∷ 0 ∷ 4 ∷ 0 ∷ 4 ∷ 0 ∷ 4 ∷ 0 ∷ 1 ∷ 2 ∷ 0 ∷ 2 ∷ 224 ∷ 208 ∷ 3 ∷ 0 ∷ 24 ∷ 0 ∷ 5 ∷ []) ++ replicate 13 0 ++ (5 ∷ 0 ∷ 0 ∷ 0
          ∷ 0 ∷ 0 ∷ 0 ∷ 0 ∷ 5 ∷ []));
      lent = unpack_lent (1 ∷ 2 ∷ 0 ∷ 1 ∷ 2 ∷ 0 ∷ 1 ∷ 2 ∷ 0 ∷ 1 ∷ 2 ∷ 0 ∷ 1 ∷ 2 ∷ 0 ∷ []) (replicate 1024 (place 3 1 2 true));
      unpacking = unpack_told (model_of 4 4 (totals_of 6 0 0 (pos 2)))
          (unpack_lent (0 ∷ 1 ∷ 2 ∷ 1 ∷ 0 ∷ 3 ∷ 1 ∷ 3 ∷ 2 ∷ 2 ∷ 3 ∷ 0 ∷ 1 ∷ 2 ∷ 0 ∷ []) (replicate 1024 (place 0 0 0 false)));
      measuring = volume_told (model_of 4 4 (totals_of 6 0 0 (pos 2))) (given (pos 125))
          (unpack_lent (0 ∷ 1 ∷ 2 ∷ 1 ∷ 0 ∷ 3 ∷ 1 ∷ 3 ∷ 2 ∷ 2 ∷ 3 ∷ 0 ∷ 1 ∷ 2 ∷ 0 ∷ []) (replicate 1024 (place 0 0 0 false)));
      note = [];
      start = 0;
    }
    ∷
    -- volume of the largest cube, six times 4,095 x 4,095 x 4,095: accepted, 412014944250
    record {
      bytes =
          (1 ∷ 0 ∷ 8 ∷ 0 ∷ 8 ∷ 0 ∷ 12 ∷ 0 ∷ 7 ∷ 0 ∷ 2 ∷ 2 ∷ 0 ∷ 6 ∷ 224 ∷ 2 ∷ 32 ∷ 5 ∷ 72 ∷ 52 ∷ 3 ∷ 0 ∷ 48 ∷ 248 ∷ 0 ∷ 248 ∷ 0 ∷ 248 ∷ 0
          ∷ 248 ∷ 0 ∷ 7 ∷ 255 ∷ 248 ∷ 0 ∷ 7 ∷ 255 ∷ 248 ∷ 0 ∷ 248 ∷ 0 ∷ 248 ∷ 0 ∷ 248 ∷ 0 ∷ 7 ∷ 255 ∷ 248 ∷ 0 ∷ 7 ∷ 255 ∷ 7 ∷ 255 ∷ 7 ∷ 255
          ∷ 7 ∷ 255 ∷ 248 ∷ 0 ∷ 7 ∷ 255 ∷ 248 ∷ 0 ∷ 7 ∷ 255 ∷ 7 ∷ 255 ∷ 7 ∷ 255 ∷ 7 ∷ 255 ∷ []);
      lent = unpack_lent
          (1 ∷ 2 ∷ 0 ∷ 1 ∷ 2 ∷ 0 ∷ 1 ∷ 2 ∷ 0 ∷ 1 ∷ 2 ∷ 0 ∷ 1 ∷ 2 ∷ 0 ∷ 1 ∷ 2 ∷ 0 ∷ 1 ∷ 2 ∷ 0 ∷ 1 ∷ 2 ∷ 0 ∷ 1 ∷ 2 ∷ 0 ∷ 1 ∷ 2 ∷ 0 ∷ 1 ∷ 2 ∷ 0
          ∷ 1 ∷ 2 ∷ 0 ∷ 1 ∷ 2 ∷ 0 ∷ [])
          (replicate 1024 (place 3 1 2 true));
      unpacking = unpack_told (model_of 8 12 (totals_of 18 0 0 (pos 2)))
          (unpack_lent (0 ∷ 1 ∷ 2 ∷ 1 ∷ 0 ∷ 3 ∷ 1 ∷ 3 ∷ 4 ∷ 1 ∷ 4 ∷ 5 ∷ 1 ∷ 5 ∷ 2 ∷ 2 ∷ 5 ∷ 6 ∷ 2 ∷ 6 ∷ 3 ∷ 2 ∷ 3 ∷ 0 ∷ 3 ∷ 6 ∷ 4 ∷ 4 ∷ 6
          ∷ 7 ∷ 4 ∷ 7 ∷ 5 ∷ 5 ∷ 7 ∷ 6 ∷ 1 ∷ 2 ∷ 0 ∷ []) (replicate 1024 (place 0 0 0 false)));
      measuring = volume_told (model_of 8 12 (totals_of 18 0 0 (pos 2))) (given (pos 412014944250))
          (unpack_lent (0 ∷ 1 ∷ 2 ∷ 1 ∷ 0 ∷ 3 ∷ 1 ∷ 3 ∷ 4 ∷ 1 ∷ 4 ∷ 5 ∷ 1 ∷ 5 ∷ 2 ∷ 2 ∷ 5 ∷ 6 ∷ 2 ∷ 6 ∷ 3 ∷ 2 ∷ 3 ∷ 0 ∷ 3 ∷ 6 ∷ 4 ∷ 4 ∷ 6
          ∷ 7 ∷ 4 ∷ 7 ∷ 5 ∷ 5 ∷ 7 ∷ 6 ∷ 1 ∷ 2 ∷ 0 ∷ []) (replicate 1024 (place 0 0 0 false)));
      note = [];
      start = 0;
    }
    ∷
    -- volume of M2, different numbers: accepted, -605601792
    record {
      bytes =
          (1 ∷ 0 ∷ 8 ∷ 0 ∷ 4 ∷ 0 ∷ 4 ∷ 0 ∷ 4 ∷ 0 ∷ 1 ∷ 2 ∷ 0 ∷ 2 ∷ 224 ∷ 208 ∷ 3 ∷ 0 ∷ 24 ∷ 250 ∷ 136 ∷ 253 ∷ 90 ∷ 0 ∷ 118 ∷ 3 ∷ 220 ∷ 7
          ∷ 140 ∷ 251 ∷ 134 ∷ 255 ∷ 202 ∷ 4 ∷ 88 ∷ 249 ∷ 48 ∷ 254 ∷ 82 ∷ 3 ∷ 190 ∷ 249 ∷ 116 ∷ []);
      lent = unpack_lent (1 ∷ 2 ∷ 0 ∷ 1 ∷ 2 ∷ 0 ∷ 1 ∷ 2 ∷ 0 ∷ 1 ∷ 2 ∷ 0 ∷ 1 ∷ 2 ∷ 0 ∷ []) (replicate 1024 (place 3 1 2 true));
      unpacking = unpack_told (model_of 4 4 (totals_of 6 0 0 (pos 2)))
          (unpack_lent (0 ∷ 1 ∷ 2 ∷ 1 ∷ 0 ∷ 3 ∷ 1 ∷ 3 ∷ 2 ∷ 2 ∷ 3 ∷ 0 ∷ 1 ∷ 2 ∷ 0 ∷ []) (replicate 1024 (place 0 0 0 false)));
      measuring = volume_told (model_of 4 4 (totals_of 6 0 0 (pos 2))) (given (negsuc 605601791))
          (unpack_lent (0 ∷ 1 ∷ 2 ∷ 1 ∷ 0 ∷ 3 ∷ 1 ∷ 3 ∷ 2 ∷ 2 ∷ 3 ∷ 0 ∷ 1 ∷ 2 ∷ 0 ∷ []) (replicate 1024 (place 0 0 0 false)));
      note = [];
      start = 0;
    }
    ∷
    -- volume of M4: accepted, 0
    record {
      bytes =
          (1 ∷ 0 ∷ 8 ∷ 0 ∷ 3 ∷ 0 ∷ 2 ∷ 0 ∷ 3 ∷ 0 ∷ 1 ∷ 2 ∷ 0 ∷ 1 ∷ 244 ∷ 3 ∷ 0 ∷ 18 ∷ 250 ∷ 136 ∷ 253 ∷ 90 ∷ 0 ∷ 118 ∷ 3 ∷ 220 ∷ 7 ∷ 140
          ∷ 251 ∷ 134 ∷ 255 ∷ 202 ∷ 4 ∷ 88 ∷ 249 ∷ 48 ∷ []);
      lent = unpack_lent (1 ∷ 2 ∷ 0 ∷ 1 ∷ 2 ∷ 0 ∷ 1 ∷ 2 ∷ 0 ∷ []) (replicate 1024 (place 3 1 2 true));
      unpacking = unpack_told (model_of 3 2 (totals_of 3 0 0 (pos 2)))
          (unpack_lent (0 ∷ 1 ∷ 2 ∷ 1 ∷ 0 ∷ 2 ∷ 1 ∷ 2 ∷ 0 ∷ []) (replicate 1024 (place 0 0 0 false)));
      measuring = volume_told (model_of 3 2 (totals_of 3 0 0 (pos 2))) (given (pos 0))
          (unpack_lent (0 ∷ 1 ∷ 2 ∷ 1 ∷ 0 ∷ 2 ∷ 1 ∷ 2 ∷ 0 ∷ []) (replicate 1024 (place 0 0 0 false)));
      note = [];
      start = 0;
    }
    ∷
    -- volume of a torus: accepted, -4451893248
    record {
      bytes =
          (1 ∷ 0 ∷ 8 ∷ 0 ∷ 7 ∷ 0 ∷ 14 ∷ 0 ∷ 8 ∷ 0 ∷ 2 ∷ 2 ∷ 0 ∷ 10 ∷ 224 ∷ 0 ∷ 96 ∷ 7 ∷ 128 ∷ 128 ∷ 69 ∷ 64 ∷ 14 ∷ 154 ∷ 3 ∷ 0 ∷ 42 ∷ 250
          ∷ 136 ∷ 253 ∷ 90 ∷ 0 ∷ 118 ∷ 3 ∷ 220 ∷ 7 ∷ 140 ∷ 251 ∷ 134 ∷ 254 ∷ 82 ∷ 3 ∷ 190 ∷ 249 ∷ 116 ∷ 3 ∷ 48 ∷ 250 ∷ 88 ∷ 1 ∷ 202 ∷ 249
          ∷ 134 ∷ 1 ∷ 140 ∷ 249 ∷ 220 ∷ 255 ∷ 202 ∷ 4 ∷ 88 ∷ 249 ∷ 48 ∷ 255 ∷ 116 ∷ 5 ∷ 190 ∷ 252 ∷ 82 ∷ []);
      lent = unpack_lent
          (1 ∷ 2 ∷ 0 ∷ 1 ∷ 2 ∷ 0 ∷ 1 ∷ 2 ∷ 0 ∷ 1 ∷ 2 ∷ 0 ∷ 1 ∷ 2 ∷ 0 ∷ 1 ∷ 2 ∷ 0 ∷ 1 ∷ 2 ∷ 0 ∷ 1 ∷ 2 ∷ 0 ∷ 1 ∷ 2 ∷ 0 ∷ 1 ∷ 2 ∷ 0 ∷ 1 ∷ 2 ∷ 0
          ∷ 1 ∷ 2 ∷ 0 ∷ 1 ∷ 2 ∷ 0 ∷ 1 ∷ 2 ∷ 0 ∷ 1 ∷ 2 ∷ 0 ∷ [])
          (replicate 1024 (place 3 1 2 true));
      unpacking = unpack_told (model_of 7 14 (totals_of 21 0 1 (pos 0)))
          (unpack_lent (0 ∷ 1 ∷ 2 ∷ 1 ∷ 0 ∷ 3 ∷ 1 ∷ 3 ∷ 4 ∷ 1 ∷ 4 ∷ 5 ∷ 1 ∷ 5 ∷ 6 ∷ 1 ∷ 6 ∷ 2 ∷ 2 ∷ 6 ∷ 4 ∷ 4 ∷ 6 ∷ 0 ∷ 4 ∷ 0 ∷ 5 ∷ 5 ∷ 0
          ∷ 2 ∷ 5 ∷ 2 ∷ 3 ∷ 3 ∷ 2 ∷ 4 ∷ 5 ∷ 3 ∷ 6 ∷ 6 ∷ 3 ∷ 0 ∷ 1 ∷ 2 ∷ 0 ∷ []) (replicate 1024 (place 0 0 0 false)));
      measuring = volume_told (model_of 7 14 (totals_of 21 0 1 (pos 0))) (given (negsuc 4451893247))
          (unpack_lent (0 ∷ 1 ∷ 2 ∷ 1 ∷ 0 ∷ 3 ∷ 1 ∷ 3 ∷ 4 ∷ 1 ∷ 4 ∷ 5 ∷ 1 ∷ 5 ∷ 6 ∷ 1 ∷ 6 ∷ 2 ∷ 2 ∷ 6 ∷ 4 ∷ 4 ∷ 6 ∷ 0 ∷ 4 ∷ 0 ∷ 5 ∷ 5 ∷ 0
          ∷ 2 ∷ 5 ∷ 2 ∷ 3 ∷ 3 ∷ 2 ∷ 4 ∷ 5 ∷ 3 ∷ 6 ∷ 6 ∷ 3 ∷ 0 ∷ 1 ∷ 2 ∷ 0 ∷ []) (replicate 1024 (place 0 0 0 false)));
      note = [];
      start = 0;
    }
    ∷
    -- 24: a rim: accepted, no volume by 24
    record {
      bytes =
          (1 ∷ 0 ∷ 8 ∷ 0 ∷ 3 ∷ 0 ∷ 1 ∷ 0 ∷ 3 ∷ 0 ∷ 1 ∷ 2 ∷ 0 ∷ 2 ∷ 237 ∷ 176 ∷ 3 ∷ 0 ∷ 18 ∷ 250 ∷ 136 ∷ 253 ∷ 90 ∷ 0 ∷ 118 ∷ 3 ∷ 220 ∷ 7
          ∷ 140 ∷ 251 ∷ 134 ∷ 255 ∷ 202 ∷ 4 ∷ 88 ∷ 249 ∷ 48 ∷ []);
      lent = unpack_lent (1 ∷ 2 ∷ 0 ∷ 1 ∷ 2 ∷ 0 ∷ []) (replicate 1024 (place 3 1 2 true));
      unpacking = unpack_told (model_of 3 1 (totals_of 3 1 0 (pos 1)))
          (unpack_lent (0 ∷ 1 ∷ 2 ∷ 1 ∷ 2 ∷ 0 ∷ []) (replicate 1024 (place 0 0 0 false)));
      measuring = volume_told (refusal 24) not_given (unpack_lent (0 ∷ 0 ∷ 0 ∷ 1 ∷ 2 ∷ 0 ∷ []) (replicate 1024 (place 0 0 0 false)));
      note = [];
      start = 0;
    }
    ∷
    -- 24: two rims: accepted, no volume by 24
    record {
      bytes =
          (1 ∷ 0 ∷ 8 ∷ 0 ∷ 6 ∷ 0 ∷ 2 ∷ 0 ∷ 3 ∷ 0 ∷ 1 ∷ 2 ∷ 0 ∷ 3 ∷ 237 ∷ 190 ∷ 219 ∷ 3 ∷ 0 ∷ 36 ∷ 254 ∷ 82 ∷ 3 ∷ 190 ∷ 249 ∷ 116 ∷ 3 ∷ 48
          ∷ 250 ∷ 88 ∷ 1 ∷ 202 ∷ 255 ∷ 116 ∷ 5 ∷ 190 ∷ 252 ∷ 82 ∷ 255 ∷ 202 ∷ 4 ∷ 88 ∷ 249 ∷ 48 ∷ 250 ∷ 136 ∷ 253 ∷ 90 ∷ 0 ∷ 118 ∷ 3 ∷ 220
          ∷ 7 ∷ 140 ∷ 251 ∷ 134 ∷ []);
      lent = unpack_lent (1 ∷ 2 ∷ 0 ∷ 1 ∷ 2 ∷ 0 ∷ 1 ∷ 2 ∷ 0 ∷ []) (replicate 1024 (place 3 1 2 true));
      unpacking = unpack_told (model_of 6 2 (totals_of 6 2 0 (pos 2)))
          (unpack_lent (0 ∷ 1 ∷ 2 ∷ 3 ∷ 4 ∷ 5 ∷ 1 ∷ 2 ∷ 0 ∷ []) (replicate 1024 (place 0 0 0 false)));
      measuring = volume_told (refusal 24) not_given
          (unpack_lent (0 ∷ 0 ∷ 0 ∷ 0 ∷ 0 ∷ 0 ∷ 1 ∷ 2 ∷ 0 ∷ []) (replicate 1024 (place 0 0 0 false)));
      note = [];
      start = 0;
    }
    ∷
    -- 12: field 03 twice: refusal 12
    record {
      bytes =
          (1 ∷ 0 ∷ 8 ∷ 0 ∷ 3 ∷ 0 ∷ 2 ∷ 0 ∷ 3 ∷ 0 ∷ 1 ∷ 2 ∷ 0 ∷ 1 ∷ 244 ∷ 3 ∷ 0 ∷ 18 ∷ 250 ∷ 136 ∷ 253 ∷ 90 ∷ 0 ∷ 118 ∷ 3 ∷ 220 ∷ 7 ∷ 140
          ∷ 251 ∷ 134 ∷ 255 ∷ 202 ∷ 4 ∷ 88 ∷ 249 ∷ 48 ∷ 3 ∷ 0 ∷ 18 ∷ 250 ∷ 136 ∷ 253 ∷ 90 ∷ 0 ∷ 118 ∷ 3 ∷ 220 ∷ 7 ∷ 140 ∷ 251 ∷ 134 ∷ 255
          ∷ 202 ∷ 4 ∷ 88 ∷ 249 ∷ 48 ∷ []);
      lent = unpack_lent (1 ∷ 2 ∷ 0 ∷ 1 ∷ []) (place 3 1 2 true ∷ []);
      unpacking = unpack_told (refusal 12) (unpack_lent (1 ∷ 2 ∷ 0 ∷ 1 ∷ []) (place 3 1 2 true ∷ []));
      measuring = volume_told (refusal 12) not_given (unpack_lent (1 ∷ 2 ∷ 0 ∷ 1 ∷ []) (place 3 1 2 true ∷ []));
      note = [];
      start = 0;
    }
    ∷
    -- 12: field 03 before 02: refusal 12
    record {
      bytes =
          (1 ∷ 0 ∷ 8 ∷ 0 ∷ 3 ∷ 0 ∷ 2 ∷ 0 ∷ 3 ∷ 0 ∷ 1 ∷ 3 ∷ 0 ∷ 18 ∷ 250 ∷ 136 ∷ 253 ∷ 90 ∷ 0 ∷ 118 ∷ 3 ∷ 220 ∷ 7 ∷ 140 ∷ 251 ∷ 134 ∷ 255
          ∷ 202 ∷ 4 ∷ 88 ∷ 249 ∷ 48 ∷ 2 ∷ 0 ∷ 1 ∷ 244 ∷ []);
      lent = unpack_lent (1 ∷ 2 ∷ 0 ∷ 1 ∷ []) (place 3 1 2 true ∷ []);
      unpacking = unpack_told (refusal 12) (unpack_lent (1 ∷ 2 ∷ 0 ∷ 1 ∷ []) (place 3 1 2 true ∷ []));
      measuring = volume_told (refusal 12) not_given (unpack_lent (1 ∷ 2 ∷ 0 ∷ 1 ∷ []) (place 3 1 2 true ∷ []));
      note = [];
      start = 0;
    }
    ∷
    -- 12: field 03 before 01: refusal 12
    record {
      bytes =
          (3 ∷ 0 ∷ 18 ∷ 250 ∷ 136 ∷ 253 ∷ 90 ∷ 0 ∷ 118 ∷ 3 ∷ 220 ∷ 7 ∷ 140 ∷ 251 ∷ 134 ∷ 255 ∷ 202 ∷ 4 ∷ 88 ∷ 249 ∷ 48 ∷ 1 ∷ 0 ∷ 8 ∷ 0 ∷ 3
          ∷ 0 ∷ 2 ∷ 0 ∷ 3 ∷ 0 ∷ 1 ∷ 2 ∷ 0 ∷ 1 ∷ 244 ∷ []);
      lent = unpack_lent (1 ∷ 2 ∷ 0 ∷ 1 ∷ []) (place 3 1 2 true ∷ []);
      unpacking = unpack_told (refusal 12) (unpack_lent (1 ∷ 2 ∷ 0 ∷ 1 ∷ []) (place 3 1 2 true ∷ []));
      measuring = volume_told (refusal 12) not_given (unpack_lent (1 ∷ 2 ∷ 0 ∷ 1 ∷ []) (place 3 1 2 true ∷ []));
      note = [];
      start = 0;
    }
    ∷
    -- 12: field 03 and no 02: refusal 12
    record {
      bytes =
          (1 ∷ 0 ∷ 8 ∷ 0 ∷ 3 ∷ 0 ∷ 2 ∷ 0 ∷ 3 ∷ 0 ∷ 1 ∷ 3 ∷ 0 ∷ 18 ∷ 250 ∷ 136 ∷ 253 ∷ 90 ∷ 0 ∷ 118 ∷ 3 ∷ 220 ∷ 7 ∷ 140 ∷ 251 ∷ 134 ∷ 255
          ∷ 202 ∷ 4 ∷ 88 ∷ 249 ∷ 48 ∷ []);
      lent = unpack_lent (1 ∷ 2 ∷ 0 ∷ 1 ∷ []) (place 3 1 2 true ∷ []);
      unpacking = unpack_told (refusal 12) (unpack_lent (1 ∷ 2 ∷ 0 ∷ 1 ∷ []) (place 3 1 2 true ∷ []));
      measuring = volume_told (refusal 12) not_given (unpack_lent (1 ∷ 2 ∷ 0 ∷ 1 ∷ []) (place 3 1 2 true ∷ []));
      note = [];
      start = 0;
    }
    ∷
    -- 12: field 03 cut after its tag: refusal 12
    record {
      bytes = (1 ∷ 0 ∷ 8 ∷ 0 ∷ 3 ∷ 0 ∷ 2 ∷ 0 ∷ 3 ∷ 0 ∷ 1 ∷ 2 ∷ 0 ∷ 1 ∷ 244 ∷ 3 ∷ []);
      lent = unpack_lent (1 ∷ 2 ∷ 0 ∷ 1 ∷ []) (place 3 1 2 true ∷ []);
      unpacking = unpack_told (refusal 12) (unpack_lent (1 ∷ 2 ∷ 0 ∷ 1 ∷ []) (place 3 1 2 true ∷ []));
      measuring = volume_told (refusal 12) not_given (unpack_lent (1 ∷ 2 ∷ 0 ∷ 1 ∷ []) (place 3 1 2 true ∷ []));
      note = [];
      start = 0;
    }
    ∷
    -- 12: field 03 cut in its length: refusal 12
    record {
      bytes = (1 ∷ 0 ∷ 8 ∷ 0 ∷ 3 ∷ 0 ∷ 2 ∷ 0 ∷ 3 ∷ 0 ∷ 1 ∷ 2 ∷ 0 ∷ 1 ∷ 244 ∷ 3 ∷ 0 ∷ []);
      lent = unpack_lent (1 ∷ 2 ∷ 0 ∷ 1 ∷ []) (place 3 1 2 true ∷ []);
      unpacking = unpack_told (refusal 12) (unpack_lent (1 ∷ 2 ∷ 0 ∷ 1 ∷ []) (place 3 1 2 true ∷ []));
      measuring = volume_told (refusal 12) not_given (unpack_lent (1 ∷ 2 ∷ 0 ∷ 1 ∷ []) (place 3 1 2 true ∷ []));
      note = [];
      start = 0;
    }
    ∷
    -- 12: field 03 cut in its contents: refusal 12
    record {
      bytes =
          (1 ∷ 0 ∷ 8 ∷ 0 ∷ 3 ∷ 0 ∷ 2 ∷ 0 ∷ 3 ∷ 0 ∷ 1 ∷ 2 ∷ 0 ∷ 1 ∷ 244 ∷ 3 ∷ 0 ∷ 18 ∷ 250 ∷ 136 ∷ 253 ∷ 90 ∷ 0 ∷ 118 ∷ 3 ∷ 220 ∷ 7 ∷ 140
          ∷ 251 ∷ 134 ∷ 255 ∷ 202 ∷ 4 ∷ 88 ∷ 249 ∷ []);
      lent = unpack_lent (1 ∷ 2 ∷ 0 ∷ 1 ∷ []) (place 3 1 2 true ∷ []);
      unpacking = unpack_told (refusal 12) (unpack_lent (1 ∷ 2 ∷ 0 ∷ 1 ∷ []) (place 3 1 2 true ∷ []));
      measuring = volume_told (refusal 12) not_given (unpack_lent (1 ∷ 2 ∷ 0 ∷ 1 ∷ []) (place 3 1 2 true ∷ []));
      note = [];
      start = 0;
    }
    ∷
    -- 12: a byte after field 03: refusal 12
    record {
      bytes =
          (1 ∷ 0 ∷ 8 ∷ 0 ∷ 3 ∷ 0 ∷ 2 ∷ 0 ∷ 3 ∷ 0 ∷ 1 ∷ 2 ∷ 0 ∷ 1 ∷ 244 ∷ 3 ∷ 0 ∷ 18 ∷ 250 ∷ 136 ∷ 253 ∷ 90 ∷ 0 ∷ 118 ∷ 3 ∷ 220 ∷ 7 ∷ 140
          ∷ 251 ∷ 134 ∷ 255 ∷ 202 ∷ 4 ∷ 88 ∷ 249 ∷ 48 ∷ 0 ∷ []);
      lent = unpack_lent (1 ∷ 2 ∷ 0 ∷ 1 ∷ []) (place 3 1 2 true ∷ []);
      unpacking = unpack_told (refusal 12) (unpack_lent (1 ∷ 2 ∷ 0 ∷ 1 ∷ []) (place 3 1 2 true ∷ []));
      measuring = volume_told (refusal 12) not_given (unpack_lent (1 ∷ 2 ∷ 0 ∷ 1 ∷ []) (place 3 1 2 true ∷ []));
      note = [];
      start = 0;
    }
    ∷
    -- 12: tag 05 after field 03: refusal 12
    record {
      bytes =
          (1 ∷ 0 ∷ 8 ∷ 0 ∷ 3 ∷ 0 ∷ 2 ∷ 0 ∷ 3 ∷ 0 ∷ 1 ∷ 2 ∷ 0 ∷ 1 ∷ 244 ∷ 3 ∷ 0 ∷ 18 ∷ 250 ∷ 136 ∷ 253 ∷ 90 ∷ 0 ∷ 118 ∷ 3 ∷ 220 ∷ 7 ∷ 140
          ∷ 251 ∷ 134 ∷ 255 ∷ 202 ∷ 4 ∷ 88 ∷ 249 ∷ 48 ∷ 5 ∷ 0 ∷ 0 ∷ []);
      lent = unpack_lent (1 ∷ 2 ∷ 0 ∷ 1 ∷ []) (place 3 1 2 true ∷ []);
      unpacking = unpack_told (refusal 12) (unpack_lent (1 ∷ 2 ∷ 0 ∷ 1 ∷ []) (place 3 1 2 true ∷ []));
      measuring = volume_told (refusal 12) not_given (unpack_lent (1 ∷ 2 ∷ 0 ∷ 1 ∷ []) (place 3 1 2 true ∷ []));
      note = [];
      start = 0;
    }
    ∷
    -- 12: tag 05 for 03: refusal 12
    record {
      bytes =
          (1 ∷ 0 ∷ 8 ∷ 0 ∷ 3 ∷ 0 ∷ 2 ∷ 0 ∷ 3 ∷ 0 ∷ 1 ∷ 2 ∷ 0 ∷ 1 ∷ 244 ∷ 5 ∷ 0 ∷ 18 ∷ 250 ∷ 136 ∷ 253 ∷ 90 ∷ 0 ∷ 118 ∷ 3 ∷ 220 ∷ 7 ∷ 140
          ∷ 251 ∷ 134 ∷ 255 ∷ 202 ∷ 4 ∷ 88 ∷ 249 ∷ 48 ∷ []);
      lent = unpack_lent (1 ∷ 2 ∷ 0 ∷ 1 ∷ []) (place 3 1 2 true ∷ []);
      unpacking = unpack_told (refusal 12) (unpack_lent (1 ∷ 2 ∷ 0 ∷ 1 ∷ []) (place 3 1 2 true ∷ []));
      measuring = volume_told (refusal 12) not_given (unpack_lent (1 ∷ 2 ∷ 0 ∷ 1 ∷ []) (place 3 1 2 true ∷ []));
      note = [];
      start = 0;
    }
    ∷
    -- 12: 02 again after field 03: refusal 12
    record {
      bytes =
          (1 ∷ 0 ∷ 8 ∷ 0 ∷ 3 ∷ 0 ∷ 2 ∷ 0 ∷ 3 ∷ 0 ∷ 1 ∷ 2 ∷ 0 ∷ 1 ∷ 244 ∷ 3 ∷ 0 ∷ 18 ∷ 250 ∷ 136 ∷ 253 ∷ 90 ∷ 0 ∷ 118 ∷ 3 ∷ 220 ∷ 7 ∷ 140
          ∷ 251 ∷ 134 ∷ 255 ∷ 202 ∷ 4 ∷ 88 ∷ 249 ∷ 48 ∷ 2 ∷ 0 ∷ 1 ∷ 244 ∷ []);
      lent = unpack_lent (1 ∷ 2 ∷ 0 ∷ 1 ∷ []) (place 3 1 2 true ∷ []);
      unpacking = unpack_told (refusal 12) (unpack_lent (1 ∷ 2 ∷ 0 ∷ 1 ∷ []) (place 3 1 2 true ∷ []));
      measuring = volume_told (refusal 12) not_given (unpack_lent (1 ∷ 2 ∷ 0 ∷ 1 ∷ []) (place 3 1 2 true ∷ []));
      note = [];
      start = 0;
    }
    ∷
    -- 12: 01 has a length of 7, and field 03: refusal 12
    record {
      bytes =
          (1 ∷ 0 ∷ 7 ∷ 0 ∷ 3 ∷ 0 ∷ 2 ∷ 0 ∷ 3 ∷ 0 ∷ 2 ∷ 0 ∷ 1 ∷ 244 ∷ 3 ∷ 0 ∷ 18 ∷ 250 ∷ 136 ∷ 253 ∷ 90 ∷ 0 ∷ 118 ∷ 3 ∷ 220 ∷ 7 ∷ 140 ∷ 251
          ∷ 134 ∷ 255 ∷ 202 ∷ 4 ∷ 88 ∷ 249 ∷ 48 ∷ []);
      lent = unpack_lent (1 ∷ 2 ∷ 0 ∷ 1 ∷ []) (place 3 1 2 true ∷ []);
      unpacking = unpack_told (refusal 12) (unpack_lent (1 ∷ 2 ∷ 0 ∷ 1 ∷ []) (place 3 1 2 true ∷ []));
      measuring = volume_told (refusal 12) not_given (unpack_lent (1 ∷ 2 ∷ 0 ∷ 1 ∷ []) (place 3 1 2 true ∷ []));
      note = [];
      start = 0;
    }
    ∷
    -- 12 before 13: a byte after field 03: refusal 12
    record {
      bytes =
          (1 ∷ 0 ∷ 8 ∷ 0 ∷ 2 ∷ 0 ∷ 2 ∷ 0 ∷ 3 ∷ 0 ∷ 1 ∷ 2 ∷ 0 ∷ 1 ∷ 244 ∷ 3 ∷ 0 ∷ 18 ∷ 250 ∷ 136 ∷ 253 ∷ 90 ∷ 0 ∷ 118 ∷ 3 ∷ 220 ∷ 7 ∷ 140
          ∷ 251 ∷ 134 ∷ 255 ∷ 202 ∷ 4 ∷ 88 ∷ 249 ∷ 48 ∷ 0 ∷ []);
      lent = unpack_lent (1 ∷ 2 ∷ 0 ∷ 1 ∷ []) (place 3 1 2 true ∷ []);
      unpacking = unpack_told (refusal 12) (unpack_lent (1 ∷ 2 ∷ 0 ∷ 1 ∷ []) (place 3 1 2 true ∷ []));
      measuring = volume_told (refusal 12) not_given (unpack_lent (1 ∷ 2 ∷ 0 ∷ 1 ∷ []) (place 3 1 2 true ∷ []));
      note = [];
      start = 0;
    }
    ∷
    -- 23: 0 bytes: refusal 23
    record {
      bytes = (1 ∷ 0 ∷ 8 ∷ 0 ∷ 3 ∷ 0 ∷ 2 ∷ 0 ∷ 3 ∷ 0 ∷ 1 ∷ 2 ∷ 0 ∷ 1 ∷ 244 ∷ 3 ∷ 0 ∷ 0 ∷ []);
      lent = unpack_lent (1 ∷ 2 ∷ 0 ∷ 1 ∷ 2 ∷ 0 ∷ 1 ∷ []) (replicate 1024 (place 3 1 2 true));
      unpacking = unpack_told (refusal 23) (unpack_lent (0 ∷ 0 ∷ 0 ∷ 0 ∷ 0 ∷ 0 ∷ 1 ∷ []) (replicate 1024 (place 0 0 0 false)));
      measuring = volume_told (refusal 23) not_given (unpack_lent (0 ∷ 0 ∷ 0 ∷ 0 ∷ 0 ∷ 0 ∷ 1 ∷ []) (replicate 1024 (place 0 0 0 false)));
      note = [];
      start = 0;
    }
    ∷
    -- 23: 12 bytes: refusal 23
    record {
      bytes =
          (1 ∷ 0 ∷ 8 ∷ 0 ∷ 3 ∷ 0 ∷ 2 ∷ 0 ∷ 3 ∷ 0 ∷ 1 ∷ 2 ∷ 0 ∷ 1 ∷ 244 ∷ 3 ∷ 0 ∷ 12 ∷ 250 ∷ 136 ∷ 253 ∷ 90 ∷ 0 ∷ 118 ∷ 3 ∷ 220 ∷ 7 ∷ 140
          ∷ 251 ∷ 134 ∷ []);
      lent = unpack_lent (1 ∷ 2 ∷ 0 ∷ 1 ∷ 2 ∷ 0 ∷ 1 ∷ []) (replicate 1024 (place 3 1 2 true));
      unpacking = unpack_told (refusal 23) (unpack_lent (0 ∷ 0 ∷ 0 ∷ 0 ∷ 0 ∷ 0 ∷ 1 ∷ []) (replicate 1024 (place 0 0 0 false)));
      measuring = volume_told (refusal 23) not_given (unpack_lent (0 ∷ 0 ∷ 0 ∷ 0 ∷ 0 ∷ 0 ∷ 1 ∷ []) (replicate 1024 (place 0 0 0 false)));
      note = [];
      start = 0;
    }
    ∷
    -- 23: 17 bytes: refusal 23
    record {
      bytes =
          (1 ∷ 0 ∷ 8 ∷ 0 ∷ 3 ∷ 0 ∷ 2 ∷ 0 ∷ 3 ∷ 0 ∷ 1 ∷ 2 ∷ 0 ∷ 1 ∷ 244 ∷ 3 ∷ 0 ∷ 17 ∷ 250 ∷ 136 ∷ 253 ∷ 90 ∷ 0 ∷ 118 ∷ 3 ∷ 220 ∷ 7 ∷ 140
          ∷ 251 ∷ 134 ∷ 255 ∷ 202 ∷ 4 ∷ 88 ∷ 249 ∷ []);
      lent = unpack_lent (1 ∷ 2 ∷ 0 ∷ 1 ∷ 2 ∷ 0 ∷ 1 ∷ []) (replicate 1024 (place 3 1 2 true));
      unpacking = unpack_told (refusal 23) (unpack_lent (0 ∷ 0 ∷ 0 ∷ 0 ∷ 0 ∷ 0 ∷ 1 ∷ []) (replicate 1024 (place 0 0 0 false)));
      measuring = volume_told (refusal 23) not_given (unpack_lent (0 ∷ 0 ∷ 0 ∷ 0 ∷ 0 ∷ 0 ∷ 1 ∷ []) (replicate 1024 (place 0 0 0 false)));
      note = [];
      start = 0;
    }
    ∷
    -- 23: 19 bytes: refusal 23
    record {
      bytes =
          (1 ∷ 0 ∷ 8 ∷ 0 ∷ 3 ∷ 0 ∷ 2 ∷ 0 ∷ 3 ∷ 0 ∷ 1 ∷ 2 ∷ 0 ∷ 1 ∷ 244 ∷ 3 ∷ 0 ∷ 19 ∷ 250 ∷ 136 ∷ 253 ∷ 90 ∷ 0 ∷ 118 ∷ 3 ∷ 220 ∷ 7 ∷ 140
          ∷ 251 ∷ 134 ∷ 255 ∷ 202 ∷ 4 ∷ 88 ∷ 249 ∷ 48 ∷ 254 ∷ []);
      lent = unpack_lent (1 ∷ 2 ∷ 0 ∷ 1 ∷ 2 ∷ 0 ∷ 1 ∷ []) (replicate 1024 (place 3 1 2 true));
      unpacking = unpack_told (refusal 23) (unpack_lent (0 ∷ 0 ∷ 0 ∷ 0 ∷ 0 ∷ 0 ∷ 1 ∷ []) (replicate 1024 (place 0 0 0 false)));
      measuring = volume_told (refusal 23) not_given (unpack_lent (0 ∷ 0 ∷ 0 ∷ 0 ∷ 0 ∷ 0 ∷ 1 ∷ []) (replicate 1024 (place 0 0 0 false)));
      note = [];
      start = 0;
    }
    ∷
    -- 23: 24 bytes: refusal 23
    record {
      bytes =
          (1 ∷ 0 ∷ 8 ∷ 0 ∷ 3 ∷ 0 ∷ 2 ∷ 0 ∷ 3 ∷ 0 ∷ 1 ∷ 2 ∷ 0 ∷ 1 ∷ 244 ∷ 3 ∷ 0 ∷ 24 ∷ 250 ∷ 136 ∷ 253 ∷ 90 ∷ 0 ∷ 118 ∷ 3 ∷ 220 ∷ 7 ∷ 140
          ∷ 251 ∷ 134 ∷ 255 ∷ 202 ∷ 4 ∷ 88 ∷ 249 ∷ 48 ∷ 254 ∷ 82 ∷ 3 ∷ 190 ∷ 249 ∷ 116 ∷ []);
      lent = unpack_lent (1 ∷ 2 ∷ 0 ∷ 1 ∷ 2 ∷ 0 ∷ 1 ∷ []) (replicate 1024 (place 3 1 2 true));
      unpacking = unpack_told (refusal 23) (unpack_lent (0 ∷ 0 ∷ 0 ∷ 0 ∷ 0 ∷ 0 ∷ 1 ∷ []) (replicate 1024 (place 0 0 0 false)));
      measuring = volume_told (refusal 23) not_given (unpack_lent (0 ∷ 0 ∷ 0 ∷ 0 ∷ 0 ∷ 0 ∷ 1 ∷ []) (replicate 1024 (place 0 0 0 false)));
      note = [];
      start = 0;
    }
    ∷
    -- 23: position 0 is -2049: refusal 23
    record {
      bytes =
          (1 ∷ 0 ∷ 8 ∷ 0 ∷ 3 ∷ 0 ∷ 2 ∷ 0 ∷ 3 ∷ 0 ∷ 1 ∷ 2 ∷ 0 ∷ 1 ∷ 244 ∷ 3 ∷ 0 ∷ 18 ∷ 247 ∷ 255 ∷ 253 ∷ 90 ∷ 0 ∷ 118 ∷ 3 ∷ 220 ∷ 7 ∷ 140
          ∷ 251 ∷ 134 ∷ 255 ∷ 202 ∷ 4 ∷ 88 ∷ 249 ∷ 48 ∷ []);
      lent = unpack_lent (1 ∷ 2 ∷ 0 ∷ 1 ∷ 2 ∷ 0 ∷ 1 ∷ 2 ∷ []) (replicate 1025 (place 3 1 2 true));
      unpacking = unpack_told (refusal 23)
          (unpack_lent (0 ∷ 0 ∷ 0 ∷ 0 ∷ 0 ∷ 0 ∷ 1 ∷ 2 ∷ []) (replicate 1024 (place 0 0 0 false) ++ (place 3 1 2 true ∷ [])));
      measuring = volume_told (refusal 23) not_given
          (unpack_lent (0 ∷ 0 ∷ 0 ∷ 0 ∷ 0 ∷ 0 ∷ 1 ∷ 2 ∷ []) (replicate 1024 (place 0 0 0 false) ++ (place 3 1 2 true ∷ [])));
      note = [];
      start = 0;
    }
    ∷
    -- 23: position 8 is -2049: refusal 23
    record {
      bytes =
          (1 ∷ 0 ∷ 8 ∷ 0 ∷ 3 ∷ 0 ∷ 2 ∷ 0 ∷ 3 ∷ 0 ∷ 1 ∷ 2 ∷ 0 ∷ 1 ∷ 244 ∷ 3 ∷ 0 ∷ 18 ∷ 250 ∷ 136 ∷ 253 ∷ 90 ∷ 0 ∷ 118 ∷ 3 ∷ 220 ∷ 7 ∷ 140
          ∷ 251 ∷ 134 ∷ 255 ∷ 202 ∷ 4 ∷ 88 ∷ 247 ∷ 255 ∷ []);
      lent = unpack_lent (1 ∷ 2 ∷ 0 ∷ 1 ∷ 2 ∷ 0 ∷ 1 ∷ 2 ∷ []) (replicate 1025 (place 3 1 2 true));
      unpacking = unpack_told (refusal 23)
          (unpack_lent (0 ∷ 0 ∷ 0 ∷ 0 ∷ 0 ∷ 0 ∷ 1 ∷ 2 ∷ []) (replicate 1024 (place 0 0 0 false) ++ (place 3 1 2 true ∷ [])));
      measuring = volume_told (refusal 23) not_given
          (unpack_lent (0 ∷ 0 ∷ 0 ∷ 0 ∷ 0 ∷ 0 ∷ 1 ∷ 2 ∷ []) (replicate 1024 (place 0 0 0 false) ++ (place 3 1 2 true ∷ [])));
      note = [];
      start = 0;
    }
    ∷
    -- 23: position 4 is 2048: refusal 23
    record {
      bytes =
          (1 ∷ 0 ∷ 8 ∷ 0 ∷ 3 ∷ 0 ∷ 2 ∷ 0 ∷ 3 ∷ 0 ∷ 1 ∷ 2 ∷ 0 ∷ 1 ∷ 244 ∷ 3 ∷ 0 ∷ 18 ∷ 250 ∷ 136 ∷ 253 ∷ 90 ∷ 0 ∷ 118 ∷ 3 ∷ 220 ∷ 8 ∷ 0 ∷ 251
          ∷ 134 ∷ 255 ∷ 202 ∷ 4 ∷ 88 ∷ 249 ∷ 48 ∷ []);
      lent = unpack_lent (1 ∷ 2 ∷ 0 ∷ 1 ∷ 2 ∷ 0 ∷ 1 ∷ 2 ∷ []) (replicate 1025 (place 3 1 2 true));
      unpacking = unpack_told (refusal 23)
          (unpack_lent (0 ∷ 0 ∷ 0 ∷ 0 ∷ 0 ∷ 0 ∷ 1 ∷ 2 ∷ []) (replicate 1024 (place 0 0 0 false) ++ (place 3 1 2 true ∷ [])));
      measuring = volume_told (refusal 23) not_given
          (unpack_lent (0 ∷ 0 ∷ 0 ∷ 0 ∷ 0 ∷ 0 ∷ 1 ∷ 2 ∷ []) (replicate 1024 (place 0 0 0 false) ++ (place 3 1 2 true ∷ [])));
      note = [];
      start = 0;
    }
    ∷
    -- 23: position 0 is 32767: refusal 23
    record {
      bytes =
          (1 ∷ 0 ∷ 8 ∷ 0 ∷ 3 ∷ 0 ∷ 2 ∷ 0 ∷ 3 ∷ 0 ∷ 1 ∷ 2 ∷ 0 ∷ 1 ∷ 244 ∷ 3 ∷ 0 ∷ 18 ∷ 127 ∷ 255 ∷ 253 ∷ 90 ∷ 0 ∷ 118 ∷ 3 ∷ 220 ∷ 7 ∷ 140
          ∷ 251 ∷ 134 ∷ 255 ∷ 202 ∷ 4 ∷ 88 ∷ 249 ∷ 48 ∷ []);
      lent = unpack_lent (1 ∷ 2 ∷ 0 ∷ 1 ∷ 2 ∷ 0 ∷ 1 ∷ 2 ∷ []) (replicate 1025 (place 3 1 2 true));
      unpacking = unpack_told (refusal 23)
          (unpack_lent (0 ∷ 0 ∷ 0 ∷ 0 ∷ 0 ∷ 0 ∷ 1 ∷ 2 ∷ []) (replicate 1024 (place 0 0 0 false) ++ (place 3 1 2 true ∷ [])));
      measuring = volume_told (refusal 23) not_given
          (unpack_lent (0 ∷ 0 ∷ 0 ∷ 0 ∷ 0 ∷ 0 ∷ 1 ∷ 2 ∷ []) (replicate 1024 (place 0 0 0 false) ++ (place 3 1 2 true ∷ [])));
      note = [];
      start = 0;
    }
    ∷
    -- 23: position 8 is -32768: refusal 23
    record {
      bytes =
          (1 ∷ 0 ∷ 8 ∷ 0 ∷ 3 ∷ 0 ∷ 2 ∷ 0 ∷ 3 ∷ 0 ∷ 1 ∷ 2 ∷ 0 ∷ 1 ∷ 244 ∷ 3 ∷ 0 ∷ 18 ∷ 250 ∷ 136 ∷ 253 ∷ 90 ∷ 0 ∷ 118 ∷ 3 ∷ 220 ∷ 7 ∷ 140
          ∷ 251 ∷ 134 ∷ 255 ∷ 202 ∷ 4 ∷ 88 ∷ 128 ∷ 0 ∷ []);
      lent = unpack_lent (1 ∷ 2 ∷ 0 ∷ 1 ∷ 2 ∷ 0 ∷ 1 ∷ 2 ∷ []) (replicate 1025 (place 3 1 2 true));
      unpacking = unpack_told (refusal 23)
          (unpack_lent (0 ∷ 0 ∷ 0 ∷ 0 ∷ 0 ∷ 0 ∷ 1 ∷ 2 ∷ []) (replicate 1024 (place 0 0 0 false) ++ (place 3 1 2 true ∷ [])));
      measuring = volume_told (refusal 23) not_given
          (unpack_lent (0 ∷ 0 ∷ 0 ∷ 0 ∷ 0 ∷ 0 ∷ 1 ∷ 2 ∷ []) (replicate 1024 (place 0 0 0 false) ++ (place 3 1 2 true ∷ [])));
      note = [];
      start = 0;
    }
    ∷
    -- no field 03, a rim: accepted, no volume by 24
    record {
      bytes = (1 ∷ 0 ∷ 8 ∷ 0 ∷ 3 ∷ 0 ∷ 1 ∷ 0 ∷ 3 ∷ 0 ∷ 1 ∷ 2 ∷ 0 ∷ 2 ∷ 237 ∷ 176 ∷ []);
      lent = unpack_lent (1 ∷ 2 ∷ 0 ∷ 1 ∷ []) (replicate 1024 (place 3 1 2 true));
      unpacking = unpack_told (model_of 3 1 (totals_of 3 1 0 (pos 1)))
          (unpack_lent (0 ∷ 1 ∷ 2 ∷ 1 ∷ []) (replicate 1024 (place 0 0 0 false)));
      measuring = volume_told (refusal 24) not_given (unpack_lent (0 ∷ 0 ∷ 0 ∷ 1 ∷ []) (replicate 1024 (place 0 0 0 false)));
      note = [];
      start = 0;
    }
    ∷
    -- no field 03, no rim: accepted, no volume by 24
    record {
      bytes = (1 ∷ 0 ∷ 8 ∷ 0 ∷ 3 ∷ 0 ∷ 2 ∷ 0 ∷ 3 ∷ 0 ∷ 1 ∷ 2 ∷ 0 ∷ 1 ∷ 244 ∷ []);
      lent = unpack_lent (1 ∷ 2 ∷ 0 ∷ 1 ∷ 2 ∷ 0 ∷ 1 ∷ []) (replicate 1025 (place 3 1 2 true));
      unpacking = unpack_told (model_of 3 2 (totals_of 3 0 0 (pos 2)))
          (unpack_lent (0 ∷ 1 ∷ 2 ∷ 1 ∷ 0 ∷ 2 ∷ 1 ∷ []) (replicate 1024 (place 0 0 0 false) ++ (place 3 1 2 true ∷ [])));
      measuring = volume_told (refusal 24) not_given
          (unpack_lent (0 ∷ 0 ∷ 0 ∷ 0 ∷ 0 ∷ 0 ∷ 1 ∷ []) (replicate 1024 (place 0 0 0 false) ++ (place 3 1 2 true ∷ [])));
      note = [];
      start = 0;
    }
    ∷
    -- nothing: refusal 12
    record {
      bytes = [];
      lent = unpack_lent (1 ∷ 2 ∷ 0 ∷ 1 ∷ []) (place 3 1 2 true ∷ []);
      unpacking = unpack_told (refusal 12) (unpack_lent (1 ∷ 2 ∷ 0 ∷ 1 ∷ []) (place 3 1 2 true ∷ []));
      measuring = volume_told (refusal 12) not_given (unpack_lent (1 ∷ 2 ∷ 0 ∷ 1 ∷ []) (place 3 1 2 true ∷ []));
      note = [];
      start = 0;
    }
    ∷
    -- 13 before 23: refusal 13
    record {
      bytes = (1 ∷ 0 ∷ 8 ∷ 0 ∷ 2 ∷ 0 ∷ 2 ∷ 0 ∷ 3 ∷ 0 ∷ 1 ∷ 2 ∷ 0 ∷ 1 ∷ 244 ∷ 3 ∷ 0 ∷ 2 ∷ 8 ∷ 0 ∷ []);
      lent = unpack_lent (1 ∷ 2 ∷ 0 ∷ 1 ∷ 2 ∷ 0 ∷ []) (place 3 1 2 true ∷ []);
      unpacking = unpack_told (refusal 13) (unpack_lent (1 ∷ 2 ∷ 0 ∷ 1 ∷ 2 ∷ 0 ∷ []) (place 3 1 2 true ∷ []));
      measuring = volume_told (refusal 13) not_given (unpack_lent (1 ∷ 2 ∷ 0 ∷ 1 ∷ 2 ∷ 0 ∷ []) (place 3 1 2 true ∷ []));
      note = [];
      start = 0;
    }
    ∷
    -- 14 before 23: triangles: refusal 14
    record {
      bytes = (1 ∷ 0 ∷ 8 ∷ 0 ∷ 3 ∷ 0 ∷ 2 ∷ 0 ∷ 3 ∷ 0 ∷ 1 ∷ 2 ∷ 0 ∷ 1 ∷ 244 ∷ 3 ∷ 0 ∷ 2 ∷ 8 ∷ 0 ∷ []);
      lent = unpack_lent (1 ∷ 2 ∷ 0 ∷ 1 ∷ 2 ∷ []) (replicate 1024 (place 3 1 2 true));
      unpacking = unpack_told (refusal 14) (unpack_lent (1 ∷ 2 ∷ 0 ∷ 1 ∷ 2 ∷ []) (replicate 1024 (place 3 1 2 true)));
      measuring = volume_told (refusal 14) not_given (unpack_lent (1 ∷ 2 ∷ 0 ∷ 1 ∷ 2 ∷ []) (replicate 1024 (place 3 1 2 true)));
      note = [];
      start = 0;
    }
    ∷
    -- 14 before 23: places: refusal 14
    record {
      bytes = (1 ∷ 0 ∷ 8 ∷ 0 ∷ 3 ∷ 0 ∷ 2 ∷ 0 ∷ 3 ∷ 0 ∷ 1 ∷ 2 ∷ 0 ∷ 1 ∷ 244 ∷ 3 ∷ 0 ∷ 2 ∷ 8 ∷ 0 ∷ []);
      lent = unpack_lent (1 ∷ 2 ∷ 0 ∷ 1 ∷ 2 ∷ 0 ∷ []) (replicate 1023 (place 3 1 2 true));
      unpacking = unpack_told (refusal 14) (unpack_lent (1 ∷ 2 ∷ 0 ∷ 1 ∷ 2 ∷ 0 ∷ []) (replicate 1023 (place 3 1 2 true)));
      measuring = volume_told (refusal 14) not_given (unpack_lent (1 ∷ 2 ∷ 0 ∷ 1 ∷ 2 ∷ 0 ∷ []) (replicate 1023 (place 3 1 2 true)));
      note = [];
      start = 0;
    }
    ∷
    -- 15 before 23: refusal 15
    record {
      bytes = (1 ∷ 0 ∷ 8 ∷ 0 ∷ 3 ∷ 0 ∷ 1 ∷ 0 ∷ 3 ∷ 0 ∷ 1 ∷ 2 ∷ 0 ∷ 0 ∷ 3 ∷ 0 ∷ 2 ∷ 8 ∷ 0 ∷ []);
      lent = unpack_lent (1 ∷ 2 ∷ 0 ∷ 1 ∷ []) (replicate 1024 (place 3 1 2 true));
      unpacking = unpack_told (refusal 15) (unpack_lent (0 ∷ 0 ∷ 0 ∷ 1 ∷ []) (replicate 1024 (place 0 0 0 false)));
      measuring = volume_told (refusal 15) not_given (unpack_lent (0 ∷ 0 ∷ 0 ∷ 1 ∷ []) (replicate 1024 (place 0 0 0 false)));
      note = [];
      start = 0;
    }
    ∷
    -- 18 before 23: refusal 18
    record {
      bytes = (1 ∷ 0 ∷ 8 ∷ 0 ∷ 5 ∷ 0 ∷ 4 ∷ 0 ∷ 6 ∷ 0 ∷ 2 ∷ 2 ∷ 0 ∷ 3 ∷ 224 ∷ 64 ∷ 8 ∷ 3 ∷ 0 ∷ 2 ∷ 8 ∷ 0 ∷ []);
      lent = unpack_lent (1 ∷ 2 ∷ 0 ∷ 1 ∷ 2 ∷ 0 ∷ 1 ∷ 2 ∷ 0 ∷ 1 ∷ 2 ∷ 0 ∷ []) (replicate 1024 (place 3 1 2 true));
      unpacking = unpack_told (refusal 18) (unpack_lent (replicate 12 0) (replicate 1024 (place 0 0 0 false)));
      measuring = volume_told (refusal 18) not_given (unpack_lent (replicate 12 0) (replicate 1024 (place 0 0 0 false)));
      note = [];
      start = 0;
    }
    ∷
    -- 19 before 23: refusal 19
    record {
      bytes = (1 ∷ 0 ∷ 8 ∷ 0 ∷ 4 ∷ 0 ∷ 1 ∷ 0 ∷ 3 ∷ 0 ∷ 1 ∷ 2 ∷ 0 ∷ 2 ∷ 237 ∷ 176 ∷ 3 ∷ 0 ∷ 2 ∷ 8 ∷ 0 ∷ []);
      lent = unpack_lent (1 ∷ 2 ∷ 0 ∷ 1 ∷ []) (replicate 1024 (place 3 1 2 true));
      unpacking = unpack_told (refusal 19) (unpack_lent (0 ∷ 0 ∷ 0 ∷ 1 ∷ []) (replicate 1024 (place 0 0 0 false)));
      measuring = volume_told (refusal 19) not_given (unpack_lent (0 ∷ 0 ∷ 0 ∷ 1 ∷ []) (replicate 1024 (place 0 0 0 false)));
      note = [];
      start = 0;
    }
    ∷
    -- 20 before 23: refusal 20
    record {
      bytes = (1 ∷ 0 ∷ 8 ∷ 0 ∷ 5 ∷ 0 ∷ 4 ∷ 0 ∷ 5 ∷ 0 ∷ 2 ∷ 2 ∷ 0 ∷ 5 ∷ 225 ∷ 134 ∷ 224 ∷ 4 ∷ 219 ∷ 3 ∷ 0 ∷ 2 ∷ 8 ∷ 0 ∷ []);
      lent = unpack_lent (1 ∷ 2 ∷ 0 ∷ 1 ∷ 2 ∷ 0 ∷ 1 ∷ 2 ∷ 0 ∷ 1 ∷ 2 ∷ 0 ∷ []) (replicate 1024 (place 3 1 2 true));
      unpacking = unpack_told (refusal 20) (unpack_lent (replicate 12 0) (replicate 1024 (place 0 0 0 false)));
      measuring = volume_told (refusal 20) not_given (unpack_lent (replicate 12 0) (replicate 1024 (place 0 0 0 false)));
      note = [];
      start = 0;
    }
    ∷
    -- 23 before 24: a rim: refusal 23
    record {
      bytes = (1 ∷ 0 ∷ 8 ∷ 0 ∷ 3 ∷ 0 ∷ 1 ∷ 0 ∷ 3 ∷ 0 ∷ 1 ∷ 2 ∷ 0 ∷ 2 ∷ 237 ∷ 176 ∷ 3 ∷ 0 ∷ 2 ∷ 8 ∷ 0 ∷ []);
      lent = unpack_lent (1 ∷ 2 ∷ 0 ∷ 1 ∷ []) (replicate 1024 (place 3 1 2 true));
      unpacking = unpack_told (refusal 23) (unpack_lent (0 ∷ 0 ∷ 0 ∷ 1 ∷ []) (replicate 1024 (place 0 0 0 false)));
      measuring = volume_told (refusal 23) not_given (unpack_lent (0 ∷ 0 ∷ 0 ∷ 1 ∷ []) (replicate 1024 (place 0 0 0 false)));
      note = [];
      start = 0;
    }
    ∷
    -- field 04 after 02: accepted, no volume by 24
    record {
      bytes = (1 ∷ 0 ∷ 8 ∷ 0 ∷ 3 ∷ 0 ∷ 2 ∷ 0 ∷ 3 ∷ 0 ∷ 1 ∷ 2 ∷ 0 ∷ 1 ∷ 244 ∷ 4 ∷ 0 ∷ 1 ∷ 65 ∷ []);
      lent = unpack_lent (1 ∷ 2 ∷ 0 ∷ 1 ∷ 2 ∷ 0 ∷ 1 ∷ []) (replicate 1025 (place 3 1 2 true));
      unpacking = unpack_told (model_of 3 2 (totals_of 3 0 0 (pos 2)))
          (unpack_lent (0 ∷ 1 ∷ 2 ∷ 1 ∷ 0 ∷ 2 ∷ 1 ∷ []) (replicate 1024 (place 0 0 0 false) ++ (place 3 1 2 true ∷ [])));
      measuring = volume_told (refusal 24) not_given
          (unpack_lent (0 ∷ 0 ∷ 0 ∷ 0 ∷ 0 ∷ 0 ∷ 1 ∷ []) (replicate 1024 (place 0 0 0 false) ++ (place 3 1 2 true ∷ [])));
      note = (65 ∷ []);
      start = 18;
    }
    ∷
    -- field 04 after 03: accepted, 0
    record {
      bytes =
          (1 ∷ 0 ∷ 8 ∷ 0 ∷ 3 ∷ 0 ∷ 2 ∷ 0 ∷ 3 ∷ 0 ∷ 1 ∷ 2 ∷ 0 ∷ 1 ∷ 244 ∷ 3 ∷ 0 ∷ 18 ∷ 250 ∷ 136 ∷ 253 ∷ 90 ∷ 0 ∷ 118 ∷ 3 ∷ 220 ∷ 7 ∷ 140
          ∷ 251 ∷ 134 ∷ 255 ∷ 202 ∷ 4 ∷ 88 ∷ 249 ∷ 48 ∷ 4 ∷ 0 ∷ 1 ∷ 65 ∷ []);
      lent = unpack_lent (1 ∷ 2 ∷ 0 ∷ 1 ∷ 2 ∷ 0 ∷ 1 ∷ []) (replicate 1025 (place 3 1 2 true));
      unpacking = unpack_told (model_of 3 2 (totals_of 3 0 0 (pos 2)))
          (unpack_lent (0 ∷ 1 ∷ 2 ∷ 1 ∷ 0 ∷ 2 ∷ 1 ∷ []) (replicate 1024 (place 0 0 0 false) ++ (place 3 1 2 true ∷ [])));
      measuring = volume_told (model_of 3 2 (totals_of 3 0 0 (pos 2))) (given (pos 0))
          (unpack_lent (0 ∷ 1 ∷ 2 ∷ 1 ∷ 0 ∷ 2 ∷ 1 ∷ []) (replicate 1024 (place 0 0 0 false) ++ (place 3 1 2 true ∷ [])));
      note = (65 ∷ []);
      start = 39;
    }
    ∷
    -- field 04 of zero bytes: accepted, 0
    record {
      bytes =
          (1 ∷ 0 ∷ 8 ∷ 0 ∷ 3 ∷ 0 ∷ 2 ∷ 0 ∷ 3 ∷ 0 ∷ 1 ∷ 2 ∷ 0 ∷ 1 ∷ 244 ∷ 3 ∷ 0 ∷ 18 ∷ 250 ∷ 136 ∷ 253 ∷ 90 ∷ 0 ∷ 118 ∷ 3 ∷ 220 ∷ 7 ∷ 140
          ∷ 251 ∷ 134 ∷ 255 ∷ 202 ∷ 4 ∷ 88 ∷ 249 ∷ 48 ∷ 4 ∷ 0 ∷ 2 ∷ 0 ∷ 0 ∷ []);
      lent = unpack_lent (1 ∷ 2 ∷ 0 ∷ 1 ∷ 2 ∷ 0 ∷ 1 ∷ []) (replicate 1025 (place 3 1 2 true));
      unpacking = unpack_told (model_of 3 2 (totals_of 3 0 0 (pos 2)))
          (unpack_lent (0 ∷ 1 ∷ 2 ∷ 1 ∷ 0 ∷ 2 ∷ 1 ∷ []) (replicate 1024 (place 0 0 0 false) ++ (place 3 1 2 true ∷ [])));
      measuring = volume_told (model_of 3 2 (totals_of 3 0 0 (pos 2))) (given (pos 0))
          (unpack_lent (0 ∷ 1 ∷ 2 ∷ 1 ∷ 0 ∷ 2 ∷ 1 ∷ []) (replicate 1024 (place 0 0 0 false) ++ (place 3 1 2 true ∷ [])));
      note = (0 ∷ 0 ∷ []);
      start = 39;
    }
    ∷
    -- field 04 that has fields 03 and 04: accepted, no volume by 24
    record {
      bytes = (1 ∷ 0 ∷ 8 ∷ 0 ∷ 3 ∷ 0 ∷ 2 ∷ 0 ∷ 3 ∷ 0 ∷ 1 ∷ 2 ∷ 0 ∷ 1 ∷ 244 ∷ 4 ∷ 0 ∷ 7 ∷ 3 ∷ 0 ∷ 0 ∷ 4 ∷ 0 ∷ 1 ∷ 65 ∷ []);
      lent = unpack_lent (1 ∷ 2 ∷ 0 ∷ 1 ∷ 2 ∷ 0 ∷ 1 ∷ []) (replicate 1025 (place 3 1 2 true));
      unpacking = unpack_told (model_of 3 2 (totals_of 3 0 0 (pos 2)))
          (unpack_lent (0 ∷ 1 ∷ 2 ∷ 1 ∷ 0 ∷ 2 ∷ 1 ∷ []) (replicate 1024 (place 0 0 0 false) ++ (place 3 1 2 true ∷ [])));
      measuring = volume_told (refusal 24) not_given
          (unpack_lent (0 ∷ 0 ∷ 0 ∷ 0 ∷ 0 ∷ 0 ∷ 1 ∷ []) (replicate 1024 (place 0 0 0 false) ++ (place 3 1 2 true ∷ [])));
      note = (3 ∷ 0 ∷ 0 ∷ 4 ∷ 0 ∷ 1 ∷ 65 ∷ []);
      start = 18;
    }
    ∷
    -- field 04 of 64 bytes: accepted, no volume by 24
    record {
      bytes =
          (1 ∷ 0 ∷ 8 ∷ 0 ∷ 3 ∷ 0 ∷ 2 ∷ 0 ∷ 3 ∷ 0 ∷ 1 ∷ 2 ∷ 0 ∷ 1 ∷ 244 ∷ 4 ∷ 0 ∷ 64 ∷ 0 ∷ 37 ∷ 74 ∷ 111 ∷ 148 ∷ 185 ∷ 222 ∷ 3 ∷ 40 ∷ 77
          ∷ 114 ∷ 151 ∷ 188 ∷ 225 ∷ 6 ∷ 43 ∷ 80 ∷ 117 ∷ 154 ∷ 191 ∷ 228 ∷ 9 ∷ 46 ∷ 83 ∷ 120 ∷ 157 ∷ 194 ∷ 231 ∷ 12 ∷ 49 ∷ 86 ∷ 123 ∷ 160
          ∷ 197 ∷ 234 ∷ 15 ∷ 52 ∷ 89 ∷ 126 ∷ 163 ∷ 200 ∷ 237 ∷ 18 ∷ 55 ∷ 92 ∷ 129 ∷ 166 ∷ 203 ∷ 240 ∷ 21 ∷ 58 ∷ 95 ∷ 132 ∷ 169 ∷ 206 ∷ 243
          ∷ 24 ∷ 61 ∷ 98 ∷ 135 ∷ 172 ∷ 209 ∷ 246 ∷ 27 ∷ []);
      lent = unpack_lent (1 ∷ 2 ∷ 0 ∷ 1 ∷ 2 ∷ 0 ∷ 1 ∷ []) (replicate 1025 (place 3 1 2 true));
      unpacking = unpack_told (model_of 3 2 (totals_of 3 0 0 (pos 2)))
          (unpack_lent (0 ∷ 1 ∷ 2 ∷ 1 ∷ 0 ∷ 2 ∷ 1 ∷ []) (replicate 1024 (place 0 0 0 false) ++ (place 3 1 2 true ∷ [])));
      measuring = volume_told (refusal 24) not_given
          (unpack_lent (0 ∷ 0 ∷ 0 ∷ 0 ∷ 0 ∷ 0 ∷ 1 ∷ []) (replicate 1024 (place 0 0 0 false) ++ (place 3 1 2 true ∷ [])));
      note =
          (0 ∷ 37 ∷ 74 ∷ 111 ∷ 148 ∷ 185 ∷ 222 ∷ 3 ∷ 40 ∷ 77 ∷ 114 ∷ 151 ∷ 188 ∷ 225 ∷ 6 ∷ 43 ∷ 80 ∷ 117 ∷ 154 ∷ 191 ∷ 228 ∷ 9 ∷ 46 ∷ 83
          ∷ 120 ∷ 157 ∷ 194 ∷ 231 ∷ 12 ∷ 49 ∷ 86 ∷ 123 ∷ 160 ∷ 197 ∷ 234 ∷ 15 ∷ 52 ∷ 89 ∷ 126 ∷ 163 ∷ 200 ∷ 237 ∷ 18 ∷ 55 ∷ 92 ∷ 129 ∷ 166
          ∷ 203 ∷ 240 ∷ 21 ∷ 58 ∷ 95 ∷ 132 ∷ 169 ∷ 206 ∷ 243 ∷ 24 ∷ 61 ∷ 98 ∷ 135 ∷ 172 ∷ 209 ∷ 246 ∷ 27 ∷ []);
      start = 18;
    }
    ∷
    -- field 04 of 64 bytes after 03: accepted, 0
    record {
      bytes =
          (1 ∷ 0 ∷ 8 ∷ 0 ∷ 3 ∷ 0 ∷ 2 ∷ 0 ∷ 3 ∷ 0 ∷ 1 ∷ 2 ∷ 0 ∷ 1 ∷ 244 ∷ 3 ∷ 0 ∷ 18 ∷ 250 ∷ 136 ∷ 253 ∷ 90 ∷ 0 ∷ 118 ∷ 3 ∷ 220 ∷ 7 ∷ 140
          ∷ 251 ∷ 134 ∷ 255 ∷ 202 ∷ 4 ∷ 88 ∷ 249 ∷ 48 ∷ 4 ∷ 0 ∷ 64 ∷ 0 ∷ 37 ∷ 74 ∷ 111 ∷ 148 ∷ 185 ∷ 222 ∷ 3 ∷ 40 ∷ 77 ∷ 114 ∷ 151 ∷ 188
          ∷ 225 ∷ 6 ∷ 43 ∷ 80 ∷ 117 ∷ 154 ∷ 191 ∷ 228 ∷ 9 ∷ 46 ∷ 83 ∷ 120 ∷ 157 ∷ 194 ∷ 231 ∷ 12 ∷ 49 ∷ 86 ∷ 123 ∷ 160 ∷ 197 ∷ 234 ∷ 15 ∷ 52
          ∷ 89 ∷ 126 ∷ 163 ∷ 200 ∷ 237 ∷ 18 ∷ 55 ∷ 92 ∷ 129 ∷ 166 ∷ 203 ∷ 240 ∷ 21 ∷ 58 ∷ 95 ∷ 132 ∷ 169 ∷ 206 ∷ 243 ∷ 24 ∷ 61 ∷ 98 ∷ 135
          ∷ 172 ∷ 209 ∷ 246 ∷ 27 ∷ []);
      lent = unpack_lent (1 ∷ 2 ∷ 0 ∷ 1 ∷ 2 ∷ 0 ∷ 1 ∷ []) (replicate 1025 (place 3 1 2 true));
      unpacking = unpack_told (model_of 3 2 (totals_of 3 0 0 (pos 2)))
          (unpack_lent (0 ∷ 1 ∷ 2 ∷ 1 ∷ 0 ∷ 2 ∷ 1 ∷ []) (replicate 1024 (place 0 0 0 false) ++ (place 3 1 2 true ∷ [])));
      measuring = volume_told (model_of 3 2 (totals_of 3 0 0 (pos 2))) (given (pos 0))
          (unpack_lent (0 ∷ 1 ∷ 2 ∷ 1 ∷ 0 ∷ 2 ∷ 1 ∷ []) (replicate 1024 (place 0 0 0 false) ++ (place 3 1 2 true ∷ [])));
      note =
          (0 ∷ 37 ∷ 74 ∷ 111 ∷ 148 ∷ 185 ∷ 222 ∷ 3 ∷ 40 ∷ 77 ∷ 114 ∷ 151 ∷ 188 ∷ 225 ∷ 6 ∷ 43 ∷ 80 ∷ 117 ∷ 154 ∷ 191 ∷ 228 ∷ 9 ∷ 46 ∷ 83
          ∷ 120 ∷ 157 ∷ 194 ∷ 231 ∷ 12 ∷ 49 ∷ 86 ∷ 123 ∷ 160 ∷ 197 ∷ 234 ∷ 15 ∷ 52 ∷ 89 ∷ 126 ∷ 163 ∷ 200 ∷ 237 ∷ 18 ∷ 55 ∷ 92 ∷ 129 ∷ 166
          ∷ 203 ∷ 240 ∷ 21 ∷ 58 ∷ 95 ∷ 132 ∷ 169 ∷ 206 ∷ 243 ∷ 24 ∷ 61 ∷ 98 ∷ 135 ∷ 172 ∷ 209 ∷ 246 ∷ 27 ∷ []);
      start = 39;
    }
    ∷
    -- field 04, volume of M2: accepted, -605601792
    record {
      bytes =
          (1 ∷ 0 ∷ 8 ∷ 0 ∷ 4 ∷ 0 ∷ 4 ∷ 0 ∷ 4 ∷ 0 ∷ 1 ∷ 2 ∷ 0 ∷ 2 ∷ 224 ∷ 208 ∷ 3 ∷ 0 ∷ 24 ∷ 250 ∷ 136 ∷ 253 ∷ 90 ∷ 0 ∷ 118 ∷ 3 ∷ 220 ∷ 7
          ∷ 140 ∷ 251 ∷ 134 ∷ 255 ∷ 202 ∷ 4 ∷ 88 ∷ 249 ∷ 48 ∷ 254 ∷ 82 ∷ 3 ∷ 190 ∷ 249 ∷ 116 ∷ 4 ∷ 0 ∷ 1 ∷ 65 ∷ []);
      lent = unpack_lent (1 ∷ 2 ∷ 0 ∷ 1 ∷ 2 ∷ 0 ∷ 1 ∷ 2 ∷ 0 ∷ 1 ∷ 2 ∷ 0 ∷ 1 ∷ 2 ∷ 0 ∷ []) (replicate 1024 (place 3 1 2 true));
      unpacking = unpack_told (model_of 4 4 (totals_of 6 0 0 (pos 2)))
          (unpack_lent (0 ∷ 1 ∷ 2 ∷ 1 ∷ 0 ∷ 3 ∷ 1 ∷ 3 ∷ 2 ∷ 2 ∷ 3 ∷ 0 ∷ 1 ∷ 2 ∷ 0 ∷ []) (replicate 1024 (place 0 0 0 false)));
      measuring = volume_told (model_of 4 4 (totals_of 6 0 0 (pos 2))) (given (negsuc 605601791))
          (unpack_lent (0 ∷ 1 ∷ 2 ∷ 1 ∷ 0 ∷ 3 ∷ 1 ∷ 3 ∷ 2 ∷ 2 ∷ 3 ∷ 0 ∷ 1 ∷ 2 ∷ 0 ∷ []) (replicate 1024 (place 0 0 0 false)));
      note = (65 ∷ []);
      start = 46;
    }
    ∷
    -- field 04, a rim: accepted, no volume by 24
    record {
      bytes =
          (1 ∷ 0 ∷ 8 ∷ 0 ∷ 3 ∷ 0 ∷ 1 ∷ 0 ∷ 3 ∷ 0 ∷ 1 ∷ 2 ∷ 0 ∷ 2 ∷ 237 ∷ 176 ∷ 3 ∷ 0 ∷ 18 ∷ 250 ∷ 136 ∷ 253 ∷ 90 ∷ 0 ∷ 118 ∷ 3 ∷ 220 ∷ 7
          ∷ 140 ∷ 251 ∷ 134 ∷ 255 ∷ 202 ∷ 4 ∷ 88 ∷ 249 ∷ 48 ∷ 4 ∷ 0 ∷ 1 ∷ 65 ∷ []);
      lent = unpack_lent (1 ∷ 2 ∷ 0 ∷ 1 ∷ []) (replicate 1024 (place 3 1 2 true));
      unpacking = unpack_told (model_of 3 1 (totals_of 3 1 0 (pos 1)))
          (unpack_lent (0 ∷ 1 ∷ 2 ∷ 1 ∷ []) (replicate 1024 (place 0 0 0 false)));
      measuring = volume_told (refusal 24) not_given (unpack_lent (0 ∷ 0 ∷ 0 ∷ 1 ∷ []) (replicate 1024 (place 0 0 0 false)));
      note = (65 ∷ []);
      start = 40;
    }
    ∷
    -- 25 before 24: field 04 of 0 bytes, no field 03: refusal 25
    record {
      bytes = (1 ∷ 0 ∷ 8 ∷ 0 ∷ 3 ∷ 0 ∷ 2 ∷ 0 ∷ 3 ∷ 0 ∷ 1 ∷ 2 ∷ 0 ∷ 1 ∷ 244 ∷ 4 ∷ 0 ∷ 0 ∷ []);
      lent = unpack_lent (1 ∷ 2 ∷ 0 ∷ 1 ∷ 2 ∷ 0 ∷ 1 ∷ []) (replicate 1025 (place 3 1 2 true));
      unpacking = unpack_told (refusal 25)
          (unpack_lent (0 ∷ 0 ∷ 0 ∷ 0 ∷ 0 ∷ 0 ∷ 1 ∷ []) (replicate 1024 (place 0 0 0 false) ++ (place 3 1 2 true ∷ [])));
      measuring = volume_told (refusal 25) not_given
          (unpack_lent (0 ∷ 0 ∷ 0 ∷ 0 ∷ 0 ∷ 0 ∷ 1 ∷ []) (replicate 1024 (place 0 0 0 false) ++ (place 3 1 2 true ∷ [])));
      note = [];
      start = 0;
    }
    ∷
    -- 25: field 04 of 0 bytes after 03: refusal 25
    record {
      bytes =
          (1 ∷ 0 ∷ 8 ∷ 0 ∷ 3 ∷ 0 ∷ 2 ∷ 0 ∷ 3 ∷ 0 ∷ 1 ∷ 2 ∷ 0 ∷ 1 ∷ 244 ∷ 3 ∷ 0 ∷ 18 ∷ 250 ∷ 136 ∷ 253 ∷ 90 ∷ 0 ∷ 118 ∷ 3 ∷ 220 ∷ 7 ∷ 140
          ∷ 251 ∷ 134 ∷ 255 ∷ 202 ∷ 4 ∷ 88 ∷ 249 ∷ 48 ∷ 4 ∷ 0 ∷ 0 ∷ []);
      lent = unpack_lent (1 ∷ 2 ∷ 0 ∷ 1 ∷ 2 ∷ 0 ∷ 1 ∷ []) (replicate 1025 (place 3 1 2 true));
      unpacking = unpack_told (refusal 25)
          (unpack_lent (0 ∷ 0 ∷ 0 ∷ 0 ∷ 0 ∷ 0 ∷ 1 ∷ []) (replicate 1024 (place 0 0 0 false) ++ (place 3 1 2 true ∷ [])));
      measuring = volume_told (refusal 25) not_given
          (unpack_lent (0 ∷ 0 ∷ 0 ∷ 0 ∷ 0 ∷ 0 ∷ 1 ∷ []) (replicate 1024 (place 0 0 0 false) ++ (place 3 1 2 true ∷ [])));
      note = [];
      start = 0;
    }
    ∷
    -- 25: field 04 of 65 bytes: refusal 25
    record {
      bytes =
          (1 ∷ 0 ∷ 8 ∷ 0 ∷ 3 ∷ 0 ∷ 2 ∷ 0 ∷ 3 ∷ 0 ∷ 1 ∷ 2 ∷ 0 ∷ 1 ∷ 244 ∷ 4 ∷ 0 ∷ 65 ∷ 0 ∷ 37 ∷ 74 ∷ 111 ∷ 148 ∷ 185 ∷ 222 ∷ 3 ∷ 40 ∷ 77
          ∷ 114 ∷ 151 ∷ 188 ∷ 225 ∷ 6 ∷ 43 ∷ 80 ∷ 117 ∷ 154 ∷ 191 ∷ 228 ∷ 9 ∷ 46 ∷ 83 ∷ 120 ∷ 157 ∷ 194 ∷ 231 ∷ 12 ∷ 49 ∷ 86 ∷ 123 ∷ 160
          ∷ 197 ∷ 234 ∷ 15 ∷ 52 ∷ 89 ∷ 126 ∷ 163 ∷ 200 ∷ 237 ∷ 18 ∷ 55 ∷ 92 ∷ 129 ∷ 166 ∷ 203 ∷ 240 ∷ 21 ∷ 58 ∷ 95 ∷ 132 ∷ 169 ∷ 206 ∷ 243
          ∷ 24 ∷ 61 ∷ 98 ∷ 135 ∷ 172 ∷ 209 ∷ 246 ∷ 27 ∷ 64 ∷ []);
      lent = unpack_lent (1 ∷ 2 ∷ 0 ∷ 1 ∷ 2 ∷ 0 ∷ 1 ∷ []) (replicate 1025 (place 3 1 2 true));
      unpacking = unpack_told (refusal 25)
          (unpack_lent (0 ∷ 0 ∷ 0 ∷ 0 ∷ 0 ∷ 0 ∷ 1 ∷ []) (replicate 1024 (place 0 0 0 false) ++ (place 3 1 2 true ∷ [])));
      measuring = volume_told (refusal 25) not_given
          (unpack_lent (0 ∷ 0 ∷ 0 ∷ 0 ∷ 0 ∷ 0 ∷ 1 ∷ []) (replicate 1024 (place 0 0 0 false) ++ (place 3 1 2 true ∷ [])));
      note = [];
      start = 0;
    }
    ∷
    -- 25: field 04 of 65 bytes after 03: refusal 25
    record {
      bytes =
          (1 ∷ 0 ∷ 8 ∷ 0 ∷ 3 ∷ 0 ∷ 2 ∷ 0 ∷ 3 ∷ 0 ∷ 1 ∷ 2 ∷ 0 ∷ 1 ∷ 244 ∷ 3 ∷ 0 ∷ 18 ∷ 250 ∷ 136 ∷ 253 ∷ 90 ∷ 0 ∷ 118 ∷ 3 ∷ 220 ∷ 7 ∷ 140
          ∷ 251 ∷ 134 ∷ 255 ∷ 202 ∷ 4 ∷ 88 ∷ 249 ∷ 48 ∷ 4 ∷ 0 ∷ 65 ∷ 0 ∷ 37 ∷ 74 ∷ 111 ∷ 148 ∷ 185 ∷ 222 ∷ 3 ∷ 40 ∷ 77 ∷ 114 ∷ 151 ∷ 188
          ∷ 225 ∷ 6 ∷ 43 ∷ 80 ∷ 117 ∷ 154 ∷ 191 ∷ 228 ∷ 9 ∷ 46 ∷ 83 ∷ 120 ∷ 157 ∷ 194 ∷ 231 ∷ 12 ∷ 49 ∷ 86 ∷ 123 ∷ 160 ∷ 197 ∷ 234 ∷ 15 ∷ 52
          ∷ 89 ∷ 126 ∷ 163 ∷ 200 ∷ 237 ∷ 18 ∷ 55 ∷ 92 ∷ 129 ∷ 166 ∷ 203 ∷ 240 ∷ 21 ∷ 58 ∷ 95 ∷ 132 ∷ 169 ∷ 206 ∷ 243 ∷ 24 ∷ 61 ∷ 98 ∷ 135
          ∷ 172 ∷ 209 ∷ 246 ∷ 27 ∷ 64 ∷ []);
      lent = unpack_lent (1 ∷ 2 ∷ 0 ∷ 1 ∷ 2 ∷ 0 ∷ 1 ∷ []) (replicate 1025 (place 3 1 2 true));
      unpacking = unpack_told (refusal 25)
          (unpack_lent (0 ∷ 0 ∷ 0 ∷ 0 ∷ 0 ∷ 0 ∷ 1 ∷ []) (replicate 1024 (place 0 0 0 false) ++ (place 3 1 2 true ∷ [])));
      measuring = volume_told (refusal 25) not_given
          (unpack_lent (0 ∷ 0 ∷ 0 ∷ 0 ∷ 0 ∷ 0 ∷ 1 ∷ []) (replicate 1024 (place 0 0 0 false) ++ (place 3 1 2 true ∷ [])));
      note = [];
      start = 0;
    }
    ∷
    -- 25: field 04 of 257 bytes: refusal 25
    record {
      bytes =
          (1 ∷ 0 ∷ 8 ∷ 0 ∷ 3 ∷ 0 ∷ 2 ∷ 0 ∷ 3 ∷ 0 ∷ 1 ∷ 2 ∷ 0 ∷ 1 ∷ 244 ∷ 4 ∷ 1 ∷ 1 ∷ 0 ∷ 37 ∷ 74 ∷ 111 ∷ 148 ∷ 185 ∷ 222 ∷ 3 ∷ 40 ∷ 77 ∷ 114
          ∷ 151 ∷ 188 ∷ 225 ∷ 6 ∷ 43 ∷ 80 ∷ 117 ∷ 154 ∷ 191 ∷ 228 ∷ 9 ∷ 46 ∷ 83 ∷ 120 ∷ 157 ∷ 194 ∷ 231 ∷ 12 ∷ 49 ∷ 86 ∷ 123 ∷ 160 ∷ 197
          ∷ 234 ∷ 15 ∷ 52 ∷ 89 ∷ 126 ∷ 163 ∷ 200 ∷ 237 ∷ 18 ∷ 55 ∷ 92 ∷ 129 ∷ 166 ∷ 203 ∷ 240 ∷ 21 ∷ 58 ∷ 95 ∷ 132 ∷ 169 ∷ 206 ∷ 243 ∷ 24
          ∷ 61 ∷ 98 ∷ 135 ∷ 172 ∷ 209 ∷ 246 ∷ 27 ∷ 64 ∷ 101 ∷ 138 ∷ 175 ∷ 212 ∷ 249 ∷ 30 ∷ 67 ∷ 104 ∷ 141 ∷ 178 ∷ 215 ∷ 252 ∷ 33 ∷ 70 ∷ 107
          ∷ 144 ∷ 181 ∷ 218 ∷ 255 ∷ 36 ∷ 73 ∷ 110 ∷ 147 ∷ 184 ∷ 221 ∷ 2 ∷ 39 ∷ 76 ∷ 113 ∷ 150 ∷ 187 ∷ 224 ∷ 5 ∷ 42 ∷ 79 ∷ 116 ∷ 153 ∷ 190
          ∷ 227 ∷ 8 ∷ 45 ∷ 82 ∷ 119 ∷ 156 ∷ 193 ∷ 230 ∷ 11 ∷ 48 ∷ 85 ∷ 122 ∷ 159 ∷ 196 ∷ 233 ∷ 14 ∷ 51 ∷ 88 ∷ 125 ∷ 162 ∷ 199 ∷ 236 ∷ 17
          ∷ 54 ∷ 91 ∷ 128 ∷ 165 ∷ 202 ∷ 239 ∷ 20 ∷ 57 ∷ 94 ∷ 131 ∷ 168 ∷ 205 ∷ 242 ∷ 23 ∷ 60 ∷ 97 ∷ 134 ∷ 171 ∷ 208 ∷ 245 ∷ 26 ∷ 63 ∷ 100
          ∷ 137 ∷ 174 ∷ 211 ∷ 248 ∷ 29 ∷ 66 ∷ 103 ∷ 140 ∷ 177 ∷ 214 ∷ 251 ∷ 32 ∷ 69 ∷ 106 ∷ 143 ∷ 180 ∷ 217 ∷ 254 ∷ 35 ∷ 72 ∷ 109 ∷ 146
          ∷ 183 ∷ 220 ∷ 1 ∷ 38 ∷ 75 ∷ 112 ∷ 149 ∷ 186 ∷ 223 ∷ 4 ∷ 41 ∷ 78 ∷ 115 ∷ 152 ∷ 189 ∷ 226 ∷ 7 ∷ 44 ∷ 81 ∷ 118 ∷ 155 ∷ 192 ∷ 229 ∷ 10
          ∷ 47 ∷ 84 ∷ 121 ∷ 158 ∷ 195 ∷ 232 ∷ 13 ∷ 50 ∷ 87 ∷ 124 ∷ 161 ∷ 198 ∷ 235 ∷ 16 ∷ 53 ∷ 90 ∷ 127 ∷ 164 ∷ 201 ∷ 238 ∷ 19 ∷ 56 ∷ 93
          ∷ 130 ∷ 167 ∷ 204 ∷ 241 ∷ 22 ∷ 59 ∷ 96 ∷ 133 ∷ 170 ∷ 207 ∷ 244 ∷ 25 ∷ 62 ∷ 99 ∷ 136 ∷ 173 ∷ 210 ∷ 247 ∷ 28 ∷ 65 ∷ 102 ∷ 139 ∷ 176
          ∷ 213 ∷ 250 ∷ 31 ∷ 68 ∷ 105 ∷ 142 ∷ 179 ∷ 216 ∷ 253 ∷ 34 ∷ 71 ∷ 108 ∷ 145 ∷ 182 ∷ 219 ∷ 0 ∷ []);
      lent = unpack_lent (1 ∷ 2 ∷ 0 ∷ 1 ∷ 2 ∷ 0 ∷ 1 ∷ []) (replicate 1025 (place 3 1 2 true));
      unpacking = unpack_told (refusal 25)
          (unpack_lent (0 ∷ 0 ∷ 0 ∷ 0 ∷ 0 ∷ 0 ∷ 1 ∷ []) (replicate 1024 (place 0 0 0 false) ++ (place 3 1 2 true ∷ [])));
      measuring = volume_told (refusal 25) not_given
          (unpack_lent (0 ∷ 0 ∷ 0 ∷ 0 ∷ 0 ∷ 0 ∷ 1 ∷ []) (replicate 1024 (place 0 0 0 false) ++ (place 3 1 2 true ∷ [])));
      note = [];
      start = 0;
    }
    ∷
    -- 12: field 04 twice: refusal 12
    record {
      bytes = (1 ∷ 0 ∷ 8 ∷ 0 ∷ 3 ∷ 0 ∷ 2 ∷ 0 ∷ 3 ∷ 0 ∷ 1 ∷ 2 ∷ 0 ∷ 1 ∷ 244 ∷ 4 ∷ 0 ∷ 2 ∷ 65 ∷ 66 ∷ 4 ∷ 0 ∷ 2 ∷ 65 ∷ 66 ∷ []);
      lent = unpack_lent (1 ∷ 2 ∷ 0 ∷ 1 ∷ []) (place 3 1 2 true ∷ []);
      unpacking = unpack_told (refusal 12) (unpack_lent (1 ∷ 2 ∷ 0 ∷ 1 ∷ []) (place 3 1 2 true ∷ []));
      measuring = volume_told (refusal 12) not_given (unpack_lent (1 ∷ 2 ∷ 0 ∷ 1 ∷ []) (place 3 1 2 true ∷ []));
      note = [];
      start = 0;
    }
    ∷
    -- 12: field 04 twice after 03: refusal 12
    record {
      bytes =
          (1 ∷ 0 ∷ 8 ∷ 0 ∷ 3 ∷ 0 ∷ 2 ∷ 0 ∷ 3 ∷ 0 ∷ 1 ∷ 2 ∷ 0 ∷ 1 ∷ 244 ∷ 3 ∷ 0 ∷ 18 ∷ 250 ∷ 136 ∷ 253 ∷ 90 ∷ 0 ∷ 118 ∷ 3 ∷ 220 ∷ 7 ∷ 140
          ∷ 251 ∷ 134 ∷ 255 ∷ 202 ∷ 4 ∷ 88 ∷ 249 ∷ 48 ∷ 4 ∷ 0 ∷ 2 ∷ 65 ∷ 66 ∷ 4 ∷ 0 ∷ 2 ∷ 65 ∷ 66 ∷ []);
      lent = unpack_lent (1 ∷ 2 ∷ 0 ∷ 1 ∷ []) (place 3 1 2 true ∷ []);
      unpacking = unpack_told (refusal 12) (unpack_lent (1 ∷ 2 ∷ 0 ∷ 1 ∷ []) (place 3 1 2 true ∷ []));
      measuring = volume_told (refusal 12) not_given (unpack_lent (1 ∷ 2 ∷ 0 ∷ 1 ∷ []) (place 3 1 2 true ∷ []));
      note = [];
      start = 0;
    }
    ∷
    -- 12: field 04 before 03: refusal 12
    record {
      bytes =
          (1 ∷ 0 ∷ 8 ∷ 0 ∷ 3 ∷ 0 ∷ 2 ∷ 0 ∷ 3 ∷ 0 ∷ 1 ∷ 2 ∷ 0 ∷ 1 ∷ 244 ∷ 4 ∷ 0 ∷ 2 ∷ 65 ∷ 66 ∷ 3 ∷ 0 ∷ 18 ∷ 250 ∷ 136 ∷ 253 ∷ 90 ∷ 0 ∷ 118
          ∷ 3 ∷ 220 ∷ 7 ∷ 140 ∷ 251 ∷ 134 ∷ 255 ∷ 202 ∷ 4 ∷ 88 ∷ 249 ∷ 48 ∷ []);
      lent = unpack_lent (1 ∷ 2 ∷ 0 ∷ 1 ∷ []) (place 3 1 2 true ∷ []);
      unpacking = unpack_told (refusal 12) (unpack_lent (1 ∷ 2 ∷ 0 ∷ 1 ∷ []) (place 3 1 2 true ∷ []));
      measuring = volume_told (refusal 12) not_given (unpack_lent (1 ∷ 2 ∷ 0 ∷ 1 ∷ []) (place 3 1 2 true ∷ []));
      note = [];
      start = 0;
    }
    ∷
    -- 12: field 03 twice, then 04: refusal 12
    record {
      bytes =
          (1 ∷ 0 ∷ 8 ∷ 0 ∷ 3 ∷ 0 ∷ 2 ∷ 0 ∷ 3 ∷ 0 ∷ 1 ∷ 2 ∷ 0 ∷ 1 ∷ 244 ∷ 3 ∷ 0 ∷ 18 ∷ 250 ∷ 136 ∷ 253 ∷ 90 ∷ 0 ∷ 118 ∷ 3 ∷ 220 ∷ 7 ∷ 140
          ∷ 251 ∷ 134 ∷ 255 ∷ 202 ∷ 4 ∷ 88 ∷ 249 ∷ 48 ∷ 3 ∷ 0 ∷ 18 ∷ 250 ∷ 136 ∷ 253 ∷ 90 ∷ 0 ∷ 118 ∷ 3 ∷ 220 ∷ 7 ∷ 140 ∷ 251 ∷ 134 ∷ 255
          ∷ 202 ∷ 4 ∷ 88 ∷ 249 ∷ 48 ∷ 4 ∷ 0 ∷ 2 ∷ 65 ∷ 66 ∷ []);
      lent = unpack_lent (1 ∷ 2 ∷ 0 ∷ 1 ∷ []) (place 3 1 2 true ∷ []);
      unpacking = unpack_told (refusal 12) (unpack_lent (1 ∷ 2 ∷ 0 ∷ 1 ∷ []) (place 3 1 2 true ∷ []));
      measuring = volume_told (refusal 12) not_given (unpack_lent (1 ∷ 2 ∷ 0 ∷ 1 ∷ []) (place 3 1 2 true ∷ []));
      note = [];
      start = 0;
    }
    ∷
    -- 12: field 04 before 02: refusal 12
    record {
      bytes = (1 ∷ 0 ∷ 8 ∷ 0 ∷ 3 ∷ 0 ∷ 2 ∷ 0 ∷ 3 ∷ 0 ∷ 1 ∷ 4 ∷ 0 ∷ 2 ∷ 65 ∷ 66 ∷ 2 ∷ 0 ∷ 1 ∷ 244 ∷ []);
      lent = unpack_lent (1 ∷ 2 ∷ 0 ∷ 1 ∷ []) (place 3 1 2 true ∷ []);
      unpacking = unpack_told (refusal 12) (unpack_lent (1 ∷ 2 ∷ 0 ∷ 1 ∷ []) (place 3 1 2 true ∷ []));
      measuring = volume_told (refusal 12) not_given (unpack_lent (1 ∷ 2 ∷ 0 ∷ 1 ∷ []) (place 3 1 2 true ∷ []));
      note = [];
      start = 0;
    }
    ∷
    -- 12: field 04 before 01: refusal 12
    record {
      bytes = (4 ∷ 0 ∷ 2 ∷ 65 ∷ 66 ∷ 1 ∷ 0 ∷ 8 ∷ 0 ∷ 3 ∷ 0 ∷ 2 ∷ 0 ∷ 3 ∷ 0 ∷ 1 ∷ 2 ∷ 0 ∷ 1 ∷ 244 ∷ []);
      lent = unpack_lent (1 ∷ 2 ∷ 0 ∷ 1 ∷ []) (place 3 1 2 true ∷ []);
      unpacking = unpack_told (refusal 12) (unpack_lent (1 ∷ 2 ∷ 0 ∷ 1 ∷ []) (place 3 1 2 true ∷ []));
      measuring = volume_told (refusal 12) not_given (unpack_lent (1 ∷ 2 ∷ 0 ∷ 1 ∷ []) (place 3 1 2 true ∷ []));
      note = [];
      start = 0;
    }
    ∷
    -- 12: field 04 and no 02: refusal 12
    record {
      bytes = (1 ∷ 0 ∷ 8 ∷ 0 ∷ 3 ∷ 0 ∷ 2 ∷ 0 ∷ 3 ∷ 0 ∷ 1 ∷ 4 ∷ 0 ∷ 2 ∷ 65 ∷ 66 ∷ []);
      lent = unpack_lent (1 ∷ 2 ∷ 0 ∷ 1 ∷ []) (place 3 1 2 true ∷ []);
      unpacking = unpack_told (refusal 12) (unpack_lent (1 ∷ 2 ∷ 0 ∷ 1 ∷ []) (place 3 1 2 true ∷ []));
      measuring = volume_told (refusal 12) not_given (unpack_lent (1 ∷ 2 ∷ 0 ∷ 1 ∷ []) (place 3 1 2 true ∷ []));
      note = [];
      start = 0;
    }
    ∷
    -- 12: fields 03 and 04 and no 02: refusal 12
    record {
      bytes =
          (1 ∷ 0 ∷ 8 ∷ 0 ∷ 3 ∷ 0 ∷ 2 ∷ 0 ∷ 3 ∷ 0 ∷ 1 ∷ 3 ∷ 0 ∷ 18 ∷ 250 ∷ 136 ∷ 253 ∷ 90 ∷ 0 ∷ 118 ∷ 3 ∷ 220 ∷ 7 ∷ 140 ∷ 251 ∷ 134 ∷ 255
          ∷ 202 ∷ 4 ∷ 88 ∷ 249 ∷ 48 ∷ 4 ∷ 0 ∷ 2 ∷ 65 ∷ 66 ∷ []);
      lent = unpack_lent (1 ∷ 2 ∷ 0 ∷ 1 ∷ []) (place 3 1 2 true ∷ []);
      unpacking = unpack_told (refusal 12) (unpack_lent (1 ∷ 2 ∷ 0 ∷ 1 ∷ []) (place 3 1 2 true ∷ []));
      measuring = volume_told (refusal 12) not_given (unpack_lent (1 ∷ 2 ∷ 0 ∷ 1 ∷ []) (place 3 1 2 true ∷ []));
      note = [];
      start = 0;
    }
    ∷
    -- 12: field 04 and no 01: refusal 12
    record {
      bytes = (2 ∷ 0 ∷ 1 ∷ 244 ∷ 4 ∷ 0 ∷ 2 ∷ 65 ∷ 66 ∷ []);
      lent = unpack_lent (1 ∷ 2 ∷ 0 ∷ 1 ∷ []) (place 3 1 2 true ∷ []);
      unpacking = unpack_told (refusal 12) (unpack_lent (1 ∷ 2 ∷ 0 ∷ 1 ∷ []) (place 3 1 2 true ∷ []));
      measuring = volume_told (refusal 12) not_given (unpack_lent (1 ∷ 2 ∷ 0 ∷ 1 ∷ []) (place 3 1 2 true ∷ []));
      note = [];
      start = 0;
    }
    ∷
    -- 12: field 04 alone: refusal 12
    record {
      bytes = (4 ∷ 0 ∷ 2 ∷ 65 ∷ 66 ∷ []);
      lent = unpack_lent (1 ∷ 2 ∷ 0 ∷ 1 ∷ []) (place 3 1 2 true ∷ []);
      unpacking = unpack_told (refusal 12) (unpack_lent (1 ∷ 2 ∷ 0 ∷ 1 ∷ []) (place 3 1 2 true ∷ []));
      measuring = volume_told (refusal 12) not_given (unpack_lent (1 ∷ 2 ∷ 0 ∷ 1 ∷ []) (place 3 1 2 true ∷ []));
      note = [];
      start = 0;
    }
    ∷
    -- 12: field 04 cut after its tag: refusal 12
    record {
      bytes = (1 ∷ 0 ∷ 8 ∷ 0 ∷ 3 ∷ 0 ∷ 2 ∷ 0 ∷ 3 ∷ 0 ∷ 1 ∷ 2 ∷ 0 ∷ 1 ∷ 244 ∷ 4 ∷ []);
      lent = unpack_lent (1 ∷ 2 ∷ 0 ∷ 1 ∷ []) (place 3 1 2 true ∷ []);
      unpacking = unpack_told (refusal 12) (unpack_lent (1 ∷ 2 ∷ 0 ∷ 1 ∷ []) (place 3 1 2 true ∷ []));
      measuring = volume_told (refusal 12) not_given (unpack_lent (1 ∷ 2 ∷ 0 ∷ 1 ∷ []) (place 3 1 2 true ∷ []));
      note = [];
      start = 0;
    }
    ∷
    -- 12: field 04 cut in its length: refusal 12
    record {
      bytes = (1 ∷ 0 ∷ 8 ∷ 0 ∷ 3 ∷ 0 ∷ 2 ∷ 0 ∷ 3 ∷ 0 ∷ 1 ∷ 2 ∷ 0 ∷ 1 ∷ 244 ∷ 4 ∷ 0 ∷ []);
      lent = unpack_lent (1 ∷ 2 ∷ 0 ∷ 1 ∷ []) (place 3 1 2 true ∷ []);
      unpacking = unpack_told (refusal 12) (unpack_lent (1 ∷ 2 ∷ 0 ∷ 1 ∷ []) (place 3 1 2 true ∷ []));
      measuring = volume_told (refusal 12) not_given (unpack_lent (1 ∷ 2 ∷ 0 ∷ 1 ∷ []) (place 3 1 2 true ∷ []));
      note = [];
      start = 0;
    }
    ∷
    -- 12: field 04 cut before its contents: refusal 12
    record {
      bytes =
          (1 ∷ 0 ∷ 8 ∷ 0 ∷ 3 ∷ 0 ∷ 2 ∷ 0 ∷ 3 ∷ 0 ∷ 1 ∷ 2 ∷ 0 ∷ 1 ∷ 244 ∷ 3 ∷ 0 ∷ 18 ∷ 250 ∷ 136 ∷ 253 ∷ 90 ∷ 0 ∷ 118 ∷ 3 ∷ 220 ∷ 7 ∷ 140
          ∷ 251 ∷ 134 ∷ 255 ∷ 202 ∷ 4 ∷ 88 ∷ 249 ∷ 48 ∷ 4 ∷ 0 ∷ 2 ∷ []);
      lent = unpack_lent (1 ∷ 2 ∷ 0 ∷ 1 ∷ []) (place 3 1 2 true ∷ []);
      unpacking = unpack_told (refusal 12) (unpack_lent (1 ∷ 2 ∷ 0 ∷ 1 ∷ []) (place 3 1 2 true ∷ []));
      measuring = volume_told (refusal 12) not_given (unpack_lent (1 ∷ 2 ∷ 0 ∷ 1 ∷ []) (place 3 1 2 true ∷ []));
      note = [];
      start = 0;
    }
    ∷
    -- 12: field 04 cut in its contents: refusal 12
    record {
      bytes =
          (1 ∷ 0 ∷ 8 ∷ 0 ∷ 3 ∷ 0 ∷ 2 ∷ 0 ∷ 3 ∷ 0 ∷ 1 ∷ 2 ∷ 0 ∷ 1 ∷ 244 ∷ 3 ∷ 0 ∷ 18 ∷ 250 ∷ 136 ∷ 253 ∷ 90 ∷ 0 ∷ 118 ∷ 3 ∷ 220 ∷ 7 ∷ 140
          ∷ 251 ∷ 134 ∷ 255 ∷ 202 ∷ 4 ∷ 88 ∷ 249 ∷ 48 ∷ 4 ∷ 0 ∷ 2 ∷ 65 ∷ []);
      lent = unpack_lent (1 ∷ 2 ∷ 0 ∷ 1 ∷ []) (place 3 1 2 true ∷ []);
      unpacking = unpack_told (refusal 12) (unpack_lent (1 ∷ 2 ∷ 0 ∷ 1 ∷ []) (place 3 1 2 true ∷ []));
      measuring = volume_told (refusal 12) not_given (unpack_lent (1 ∷ 2 ∷ 0 ∷ 1 ∷ []) (place 3 1 2 true ∷ []));
      note = [];
      start = 0;
    }
    ∷
    -- 12: a byte after field 04: refusal 12
    record {
      bytes = (1 ∷ 0 ∷ 8 ∷ 0 ∷ 3 ∷ 0 ∷ 2 ∷ 0 ∷ 3 ∷ 0 ∷ 1 ∷ 2 ∷ 0 ∷ 1 ∷ 244 ∷ 4 ∷ 0 ∷ 2 ∷ 65 ∷ 66 ∷ 0 ∷ []);
      lent = unpack_lent (1 ∷ 2 ∷ 0 ∷ 1 ∷ []) (place 3 1 2 true ∷ []);
      unpacking = unpack_told (refusal 12) (unpack_lent (1 ∷ 2 ∷ 0 ∷ 1 ∷ []) (place 3 1 2 true ∷ []));
      measuring = volume_told (refusal 12) not_given (unpack_lent (1 ∷ 2 ∷ 0 ∷ 1 ∷ []) (place 3 1 2 true ∷ []));
      note = [];
      start = 0;
    }
    ∷
    -- 12: a byte after fields 03 and 04: refusal 12
    record {
      bytes =
          (1 ∷ 0 ∷ 8 ∷ 0 ∷ 3 ∷ 0 ∷ 2 ∷ 0 ∷ 3 ∷ 0 ∷ 1 ∷ 2 ∷ 0 ∷ 1 ∷ 244 ∷ 3 ∷ 0 ∷ 18 ∷ 250 ∷ 136 ∷ 253 ∷ 90 ∷ 0 ∷ 118 ∷ 3 ∷ 220 ∷ 7 ∷ 140
          ∷ 251 ∷ 134 ∷ 255 ∷ 202 ∷ 4 ∷ 88 ∷ 249 ∷ 48 ∷ 4 ∷ 0 ∷ 2 ∷ 65 ∷ 66 ∷ 0 ∷ []);
      lent = unpack_lent (1 ∷ 2 ∷ 0 ∷ 1 ∷ []) (place 3 1 2 true ∷ []);
      unpacking = unpack_told (refusal 12) (unpack_lent (1 ∷ 2 ∷ 0 ∷ 1 ∷ []) (place 3 1 2 true ∷ []));
      measuring = volume_told (refusal 12) not_given (unpack_lent (1 ∷ 2 ∷ 0 ∷ 1 ∷ []) (place 3 1 2 true ∷ []));
      note = [];
      start = 0;
    }
    ∷
    -- 12: a byte after field 04 of 0 bytes: refusal 12
    record {
      bytes = (1 ∷ 0 ∷ 8 ∷ 0 ∷ 3 ∷ 0 ∷ 2 ∷ 0 ∷ 3 ∷ 0 ∷ 1 ∷ 2 ∷ 0 ∷ 1 ∷ 244 ∷ 4 ∷ 0 ∷ 0 ∷ 0 ∷ []);
      lent = unpack_lent (1 ∷ 2 ∷ 0 ∷ 1 ∷ []) (place 3 1 2 true ∷ []);
      unpacking = unpack_told (refusal 12) (unpack_lent (1 ∷ 2 ∷ 0 ∷ 1 ∷ []) (place 3 1 2 true ∷ []));
      measuring = volume_told (refusal 12) not_given (unpack_lent (1 ∷ 2 ∷ 0 ∷ 1 ∷ []) (place 3 1 2 true ∷ []));
      note = [];
      start = 0;
    }
    ∷
    -- 12: tag 05 after field 04: refusal 12
    record {
      bytes = (1 ∷ 0 ∷ 8 ∷ 0 ∷ 3 ∷ 0 ∷ 2 ∷ 0 ∷ 3 ∷ 0 ∷ 1 ∷ 2 ∷ 0 ∷ 1 ∷ 244 ∷ 4 ∷ 0 ∷ 2 ∷ 65 ∷ 66 ∷ 5 ∷ 0 ∷ 0 ∷ []);
      lent = unpack_lent (1 ∷ 2 ∷ 0 ∷ 1 ∷ []) (place 3 1 2 true ∷ []);
      unpacking = unpack_told (refusal 12) (unpack_lent (1 ∷ 2 ∷ 0 ∷ 1 ∷ []) (place 3 1 2 true ∷ []));
      measuring = volume_told (refusal 12) not_given (unpack_lent (1 ∷ 2 ∷ 0 ∷ 1 ∷ []) (place 3 1 2 true ∷ []));
      note = [];
      start = 0;
    }
    ∷
    -- 12: tag 05 for 04: refusal 12
    record {
      bytes =
          (1 ∷ 0 ∷ 8 ∷ 0 ∷ 3 ∷ 0 ∷ 2 ∷ 0 ∷ 3 ∷ 0 ∷ 1 ∷ 2 ∷ 0 ∷ 1 ∷ 244 ∷ 3 ∷ 0 ∷ 18 ∷ 250 ∷ 136 ∷ 253 ∷ 90 ∷ 0 ∷ 118 ∷ 3 ∷ 220 ∷ 7 ∷ 140
          ∷ 251 ∷ 134 ∷ 255 ∷ 202 ∷ 4 ∷ 88 ∷ 249 ∷ 48 ∷ 5 ∷ 0 ∷ 2 ∷ 65 ∷ 66 ∷ []);
      lent = unpack_lent (1 ∷ 2 ∷ 0 ∷ 1 ∷ []) (place 3 1 2 true ∷ []);
      unpacking = unpack_told (refusal 12) (unpack_lent (1 ∷ 2 ∷ 0 ∷ 1 ∷ []) (place 3 1 2 true ∷ []));
      measuring = volume_told (refusal 12) not_given (unpack_lent (1 ∷ 2 ∷ 0 ∷ 1 ∷ []) (place 3 1 2 true ∷ []));
      note = [];
      start = 0;
    }
    ∷
    -- 12: 02 again after field 04: refusal 12
    record {
      bytes = (1 ∷ 0 ∷ 8 ∷ 0 ∷ 3 ∷ 0 ∷ 2 ∷ 0 ∷ 3 ∷ 0 ∷ 1 ∷ 2 ∷ 0 ∷ 1 ∷ 244 ∷ 4 ∷ 0 ∷ 2 ∷ 65 ∷ 66 ∷ 2 ∷ 0 ∷ 1 ∷ 244 ∷ []);
      lent = unpack_lent (1 ∷ 2 ∷ 0 ∷ 1 ∷ []) (place 3 1 2 true ∷ []);
      unpacking = unpack_told (refusal 12) (unpack_lent (1 ∷ 2 ∷ 0 ∷ 1 ∷ []) (place 3 1 2 true ∷ []));
      measuring = volume_told (refusal 12) not_given (unpack_lent (1 ∷ 2 ∷ 0 ∷ 1 ∷ []) (place 3 1 2 true ∷ []));
      note = [];
      start = 0;
    }
    ∷
    -- 12: 01 has a length of 7, and field 04: refusal 12
    record {
      bytes = (1 ∷ 0 ∷ 7 ∷ 0 ∷ 3 ∷ 0 ∷ 2 ∷ 0 ∷ 3 ∷ 0 ∷ 2 ∷ 0 ∷ 1 ∷ 244 ∷ 4 ∷ 0 ∷ 2 ∷ 65 ∷ 66 ∷ []);
      lent = unpack_lent (1 ∷ 2 ∷ 0 ∷ 1 ∷ []) (place 3 1 2 true ∷ []);
      unpacking = unpack_told (refusal 12) (unpack_lent (1 ∷ 2 ∷ 0 ∷ 1 ∷ []) (place 3 1 2 true ∷ []));
      measuring = volume_told (refusal 12) not_given (unpack_lent (1 ∷ 2 ∷ 0 ∷ 1 ∷ []) (place 3 1 2 true ∷ []));
      note = [];
      start = 0;
    }
    ∷
    -- 12 before 13: field 04 twice: refusal 12
    record {
      bytes = (1 ∷ 0 ∷ 8 ∷ 0 ∷ 2 ∷ 0 ∷ 2 ∷ 0 ∷ 3 ∷ 0 ∷ 1 ∷ 2 ∷ 0 ∷ 1 ∷ 244 ∷ 4 ∷ 0 ∷ 2 ∷ 65 ∷ 66 ∷ 4 ∷ 0 ∷ 2 ∷ 65 ∷ 66 ∷ []);
      lent = unpack_lent (1 ∷ 2 ∷ 0 ∷ 1 ∷ []) (place 3 1 2 true ∷ []);
      unpacking = unpack_told (refusal 12) (unpack_lent (1 ∷ 2 ∷ 0 ∷ 1 ∷ []) (place 3 1 2 true ∷ []));
      measuring = volume_told (refusal 12) not_given (unpack_lent (1 ∷ 2 ∷ 0 ∷ 1 ∷ []) (place 3 1 2 true ∷ []));
      note = [];
      start = 0;
    }
    ∷
    -- 13 before 25: refusal 13
    record {
      bytes = (1 ∷ 0 ∷ 8 ∷ 0 ∷ 2 ∷ 0 ∷ 2 ∷ 0 ∷ 3 ∷ 0 ∷ 1 ∷ 2 ∷ 0 ∷ 1 ∷ 244 ∷ 4 ∷ 0 ∷ 0 ∷ []);
      lent = unpack_lent (1 ∷ 2 ∷ 0 ∷ 1 ∷ 2 ∷ 0 ∷ []) (place 3 1 2 true ∷ []);
      unpacking = unpack_told (refusal 13) (unpack_lent (1 ∷ 2 ∷ 0 ∷ 1 ∷ 2 ∷ 0 ∷ []) (place 3 1 2 true ∷ []));
      measuring = volume_told (refusal 13) not_given (unpack_lent (1 ∷ 2 ∷ 0 ∷ 1 ∷ 2 ∷ 0 ∷ []) (place 3 1 2 true ∷ []));
      note = [];
      start = 0;
    }
    ∷
    -- 14 before 25: triangles: refusal 14
    record {
      bytes = (1 ∷ 0 ∷ 8 ∷ 0 ∷ 3 ∷ 0 ∷ 2 ∷ 0 ∷ 3 ∷ 0 ∷ 1 ∷ 2 ∷ 0 ∷ 1 ∷ 244 ∷ 4 ∷ 0 ∷ 0 ∷ []);
      lent = unpack_lent (1 ∷ 2 ∷ 0 ∷ 1 ∷ 2 ∷ []) (replicate 1024 (place 3 1 2 true));
      unpacking = unpack_told (refusal 14) (unpack_lent (1 ∷ 2 ∷ 0 ∷ 1 ∷ 2 ∷ []) (replicate 1024 (place 3 1 2 true)));
      measuring = volume_told (refusal 14) not_given (unpack_lent (1 ∷ 2 ∷ 0 ∷ 1 ∷ 2 ∷ []) (replicate 1024 (place 3 1 2 true)));
      note = [];
      start = 0;
    }
    ∷
    -- 14 before 25: places: refusal 14
    record {
      bytes = (1 ∷ 0 ∷ 8 ∷ 0 ∷ 3 ∷ 0 ∷ 2 ∷ 0 ∷ 3 ∷ 0 ∷ 1 ∷ 2 ∷ 0 ∷ 1 ∷ 244 ∷ 4 ∷ 0 ∷ 0 ∷ []);
      lent = unpack_lent (1 ∷ 2 ∷ 0 ∷ 1 ∷ 2 ∷ 0 ∷ []) (replicate 1023 (place 3 1 2 true));
      unpacking = unpack_told (refusal 14) (unpack_lent (1 ∷ 2 ∷ 0 ∷ 1 ∷ 2 ∷ 0 ∷ []) (replicate 1023 (place 3 1 2 true)));
      measuring = volume_told (refusal 14) not_given (unpack_lent (1 ∷ 2 ∷ 0 ∷ 1 ∷ 2 ∷ 0 ∷ []) (replicate 1023 (place 3 1 2 true)));
      note = [];
      start = 0;
    }
    ∷
    -- 15 before 25: refusal 15
    record {
      bytes = (1 ∷ 0 ∷ 8 ∷ 0 ∷ 3 ∷ 0 ∷ 1 ∷ 0 ∷ 3 ∷ 0 ∷ 1 ∷ 2 ∷ 0 ∷ 0 ∷ 4 ∷ 0 ∷ 0 ∷ []);
      lent = unpack_lent (1 ∷ 2 ∷ 0 ∷ 1 ∷ []) (replicate 1024 (place 3 1 2 true));
      unpacking = unpack_told (refusal 15) (unpack_lent (0 ∷ 0 ∷ 0 ∷ 1 ∷ []) (replicate 1024 (place 0 0 0 false)));
      measuring = volume_told (refusal 15) not_given (unpack_lent (0 ∷ 0 ∷ 0 ∷ 1 ∷ []) (replicate 1024 (place 0 0 0 false)));
      note = [];
      start = 0;
    }
    ∷
    -- 18 before 25: refusal 18
    record {
      bytes = (1 ∷ 0 ∷ 8 ∷ 0 ∷ 5 ∷ 0 ∷ 4 ∷ 0 ∷ 6 ∷ 0 ∷ 2 ∷ 2 ∷ 0 ∷ 3 ∷ 224 ∷ 64 ∷ 8 ∷ 4 ∷ 0 ∷ 0 ∷ []);
      lent = unpack_lent (1 ∷ 2 ∷ 0 ∷ 1 ∷ 2 ∷ 0 ∷ 1 ∷ 2 ∷ 0 ∷ 1 ∷ 2 ∷ 0 ∷ []) (replicate 1024 (place 3 1 2 true));
      unpacking = unpack_told (refusal 18) (unpack_lent (replicate 12 0) (replicate 1024 (place 0 0 0 false)));
      measuring = volume_told (refusal 18) not_given (unpack_lent (replicate 12 0) (replicate 1024 (place 0 0 0 false)));
      note = [];
      start = 0;
    }
    ∷
    -- 19 before 25: refusal 19
    record {
      bytes = (1 ∷ 0 ∷ 8 ∷ 0 ∷ 4 ∷ 0 ∷ 1 ∷ 0 ∷ 3 ∷ 0 ∷ 1 ∷ 2 ∷ 0 ∷ 2 ∷ 237 ∷ 176 ∷ 4 ∷ 0 ∷ 0 ∷ []);
      lent = unpack_lent (1 ∷ 2 ∷ 0 ∷ 1 ∷ []) (replicate 1024 (place 3 1 2 true));
      unpacking = unpack_told (refusal 19) (unpack_lent (0 ∷ 0 ∷ 0 ∷ 1 ∷ []) (replicate 1024 (place 0 0 0 false)));
      measuring = volume_told (refusal 19) not_given (unpack_lent (0 ∷ 0 ∷ 0 ∷ 1 ∷ []) (replicate 1024 (place 0 0 0 false)));
      note = [];
      start = 0;
    }
    ∷
    -- 20 before 25: refusal 20
    record {
      bytes = (1 ∷ 0 ∷ 8 ∷ 0 ∷ 5 ∷ 0 ∷ 4 ∷ 0 ∷ 5 ∷ 0 ∷ 2 ∷ 2 ∷ 0 ∷ 5 ∷ 225 ∷ 134 ∷ 224 ∷ 4 ∷ 219 ∷ 4 ∷ 0 ∷ 0 ∷ []);
      lent = unpack_lent (1 ∷ 2 ∷ 0 ∷ 1 ∷ 2 ∷ 0 ∷ 1 ∷ 2 ∷ 0 ∷ 1 ∷ 2 ∷ 0 ∷ []) (replicate 1024 (place 3 1 2 true));
      unpacking = unpack_told (refusal 20) (unpack_lent (replicate 12 0) (replicate 1024 (place 0 0 0 false)));
      measuring = volume_told (refusal 20) not_given (unpack_lent (replicate 12 0) (replicate 1024 (place 0 0 0 false)));
      note = [];
      start = 0;
    }
    ∷
    -- 23 before 25: no position: refusal 23
    record {
      bytes = (1 ∷ 0 ∷ 8 ∷ 0 ∷ 3 ∷ 0 ∷ 2 ∷ 0 ∷ 3 ∷ 0 ∷ 1 ∷ 2 ∷ 0 ∷ 1 ∷ 244 ∷ 3 ∷ 0 ∷ 0 ∷ 4 ∷ 0 ∷ 0 ∷ []);
      lent = unpack_lent (1 ∷ 2 ∷ 0 ∷ 1 ∷ 2 ∷ 0 ∷ 1 ∷ []) (replicate 1025 (place 3 1 2 true));
      unpacking = unpack_told (refusal 23)
          (unpack_lent (0 ∷ 0 ∷ 0 ∷ 0 ∷ 0 ∷ 0 ∷ 1 ∷ []) (replicate 1024 (place 0 0 0 false) ++ (place 3 1 2 true ∷ [])));
      measuring = volume_told (refusal 23) not_given
          (unpack_lent (0 ∷ 0 ∷ 0 ∷ 0 ∷ 0 ∷ 0 ∷ 1 ∷ []) (replicate 1024 (place 0 0 0 false) ++ (place 3 1 2 true ∷ [])));
      note = [];
      start = 0;
    }
    ∷
    -- 23 before 25: a position: refusal 23
    record {
      bytes =
          (1 ∷ 0 ∷ 8 ∷ 0 ∷ 3 ∷ 0 ∷ 2 ∷ 0 ∷ 3 ∷ 0 ∷ 1 ∷ 2 ∷ 0 ∷ 1 ∷ 244 ∷ 3 ∷ 0 ∷ 18 ∷ 250 ∷ 136 ∷ 253 ∷ 90 ∷ 0 ∷ 118 ∷ 3 ∷ 220 ∷ 7 ∷ 140
          ∷ 251 ∷ 134 ∷ 255 ∷ 202 ∷ 4 ∷ 88 ∷ 8 ∷ 0 ∷ 4 ∷ 0 ∷ 0 ∷ []);
      lent = unpack_lent (1 ∷ 2 ∷ 0 ∷ 1 ∷ 2 ∷ 0 ∷ 1 ∷ []) (replicate 1025 (place 3 1 2 true));
      unpacking = unpack_told (refusal 23)
          (unpack_lent (0 ∷ 0 ∷ 0 ∷ 0 ∷ 0 ∷ 0 ∷ 1 ∷ []) (replicate 1024 (place 0 0 0 false) ++ (place 3 1 2 true ∷ [])));
      measuring = volume_told (refusal 23) not_given
          (unpack_lent (0 ∷ 0 ∷ 0 ∷ 0 ∷ 0 ∷ 0 ∷ 1 ∷ []) (replicate 1024 (place 0 0 0 false) ++ (place 3 1 2 true ∷ [])));
      note = [];
      start = 0;
    }
    ∷
    -- 23: field 04 of one byte: refusal 23
    record {
      bytes = (1 ∷ 0 ∷ 8 ∷ 0 ∷ 3 ∷ 0 ∷ 2 ∷ 0 ∷ 3 ∷ 0 ∷ 1 ∷ 2 ∷ 0 ∷ 1 ∷ 244 ∷ 3 ∷ 0 ∷ 0 ∷ 4 ∷ 0 ∷ 1 ∷ 65 ∷ []);
      lent = unpack_lent (1 ∷ 2 ∷ 0 ∷ 1 ∷ 2 ∷ 0 ∷ 1 ∷ []) (replicate 1025 (place 3 1 2 true));
      unpacking = unpack_told (refusal 23)
          (unpack_lent (0 ∷ 0 ∷ 0 ∷ 0 ∷ 0 ∷ 0 ∷ 1 ∷ []) (replicate 1024 (place 0 0 0 false) ++ (place 3 1 2 true ∷ [])));
      measuring = volume_told (refusal 23) not_given
          (unpack_lent (0 ∷ 0 ∷ 0 ∷ 0 ∷ 0 ∷ 0 ∷ 1 ∷ []) (replicate 1024 (place 0 0 0 false) ++ (place 3 1 2 true ∷ [])));
      note = [];
      start = 0;
    }
    ∷
    -- 25 before 24: a rim: refusal 25
    record {
      bytes =
          (1 ∷ 0 ∷ 8 ∷ 0 ∷ 3 ∷ 0 ∷ 1 ∷ 0 ∷ 3 ∷ 0 ∷ 1 ∷ 2 ∷ 0 ∷ 2 ∷ 237 ∷ 176 ∷ 3 ∷ 0 ∷ 18 ∷ 250 ∷ 136 ∷ 253 ∷ 90 ∷ 0 ∷ 118 ∷ 3 ∷ 220 ∷ 7
          ∷ 140 ∷ 251 ∷ 134 ∷ 255 ∷ 202 ∷ 4 ∷ 88 ∷ 249 ∷ 48 ∷ 4 ∷ 0 ∷ 0 ∷ []);
      lent = unpack_lent (1 ∷ 2 ∷ 0 ∷ 1 ∷ []) (replicate 1024 (place 3 1 2 true));
      unpacking = unpack_told (refusal 25) (unpack_lent (0 ∷ 0 ∷ 0 ∷ 1 ∷ []) (replicate 1024 (place 0 0 0 false)));
      measuring = volume_told (refusal 25) not_given (unpack_lent (0 ∷ 0 ∷ 0 ∷ 1 ∷ []) (replicate 1024 (place 0 0 0 false)));
      note = [];
      start = 0;
    }
    ∷
    []

unfoldable pub melt_rows : List MeltRow
melt_rows =
    -- melt: M2, corners at 0 and at 5 of each axis: six -125
    record {
      bytes =
          (1 ∷ 0 ∷ 8 ∷ 0 ∷ 4 ∷ 0 ∷ 4 ∷ 0 ∷ 4 ∷ 0 ∷ 1 ∷ 2 ∷ 0 ∷ 2 ∷ 224 ∷ 208 ∷ 3 ∷ 0 ∷ 24 ∷ 0 ∷ 0 ∷ 0 ∷ 0 ∷ 0 ∷ 0 ∷ 0 ∷ 5 ∷ 0 ∷ 0 ∷ 0 ∷ 0
          ∷ 0 ∷ 0 ∷ 0 ∷ 5 ∷ 0 ∷ 0 ∷ 0 ∷ 0 ∷ 0 ∷ 0 ∷ 0 ∷ 5 ∷ []);
      told = Six (negsuc 124);
    }
    ∷
    -- melt: M2, the same turned inside out: six 125
    record {
      bytes =
          ((1 ∷ 0 ∷ 8 ∷ 0 ∷ 4 ∷ 0 ∷ 4 ∷ 0 ∷ 4 ∷ 0 ∷ 1 ∷ 2 ∷ 0 ∷ 2 ∷ 224 ∷ 208 ∷ 3 ∷ 0 ∷ 24 ∷ 0 ∷ 5 ∷ []) ++ replicate 13 0 ++ (5 ∷ 0 ∷ 0 ∷ 0
          ∷ 0 ∷ 0 ∷ 0 ∷ 0 ∷ 5 ∷ []));
      told = Six (pos 125);
    }
    ∷
    -- melt: M2, different numbers: six -605601792
    record {
      bytes =
          (1 ∷ 0 ∷ 8 ∷ 0 ∷ 4 ∷ 0 ∷ 4 ∷ 0 ∷ 4 ∷ 0 ∷ 1 ∷ 2 ∷ 0 ∷ 2 ∷ 224 ∷ 208 ∷ 3 ∷ 0 ∷ 24 ∷ 250 ∷ 136 ∷ 253 ∷ 90 ∷ 0 ∷ 118 ∷ 3 ∷ 220 ∷ 7
          ∷ 140 ∷ 251 ∷ 134 ∷ 255 ∷ 202 ∷ 4 ∷ 88 ∷ 249 ∷ 48 ∷ 254 ∷ 82 ∷ 3 ∷ 190 ∷ 249 ∷ 116 ∷ []);
      told = Six (negsuc 605601791);
    }
    ∷
    -- melt: M2, the same and a note: six -605601792
    record {
      bytes =
          (1 ∷ 0 ∷ 8 ∷ 0 ∷ 4 ∷ 0 ∷ 4 ∷ 0 ∷ 4 ∷ 0 ∷ 1 ∷ 2 ∷ 0 ∷ 2 ∷ 224 ∷ 208 ∷ 3 ∷ 0 ∷ 24 ∷ 250 ∷ 136 ∷ 253 ∷ 90 ∷ 0 ∷ 118 ∷ 3 ∷ 220 ∷ 7
          ∷ 140 ∷ 251 ∷ 134 ∷ 255 ∷ 202 ∷ 4 ∷ 88 ∷ 249 ∷ 48 ∷ 254 ∷ 82 ∷ 3 ∷ 190 ∷ 249 ∷ 116 ∷ 4 ∷ 0 ∷ 1 ∷ 65 ∷ []);
      told = Six (negsuc 605601791);
    }
    ∷
    -- melt: M2, the same and a note of 64 bytes: six -605601792
    record {
      bytes =
          ((1 ∷ 0 ∷ 8 ∷ 0 ∷ 4 ∷ 0 ∷ 4 ∷ 0 ∷ 4 ∷ 0 ∷ 1 ∷ 2 ∷ 0 ∷ 2 ∷ 224 ∷ 208 ∷ 3 ∷ 0 ∷ 24 ∷ 250 ∷ 136 ∷ 253 ∷ 90 ∷ 0 ∷ 118 ∷ 3 ∷ 220 ∷ 7
          ∷ 140 ∷ 251 ∷ 134 ∷ 255 ∷ 202 ∷ 4 ∷ 88 ∷ 249 ∷ 48 ∷ 254 ∷ 82 ∷ 3 ∷ 190 ∷ 249 ∷ 116 ∷ 4 ∷ 0 ∷ 64 ∷ []) ++ replicate 64 4);
      told = Six (negsuc 605601791);
    }
    ∷
    -- melt: M4: six 0
    record {
      bytes =
          (1 ∷ 0 ∷ 8 ∷ 0 ∷ 3 ∷ 0 ∷ 2 ∷ 0 ∷ 3 ∷ 0 ∷ 1 ∷ 2 ∷ 0 ∷ 1 ∷ 244 ∷ 3 ∷ 0 ∷ 18 ∷ 250 ∷ 136 ∷ 253 ∷ 90 ∷ 0 ∷ 118 ∷ 3 ∷ 220 ∷ 7 ∷ 140
          ∷ 251 ∷ 134 ∷ 255 ∷ 202 ∷ 4 ∷ 88 ∷ 249 ∷ 48 ∷ []);
      told = Six (pos 0);
    }
    ∷
    -- melt: two pieces: six 4239212544
    record {
      bytes =
          (1 ∷ 0 ∷ 8 ∷ 0 ∷ 8 ∷ 0 ∷ 8 ∷ 0 ∷ 4 ∷ 0 ∷ 1 ∷ 2 ∷ 0 ∷ 3 ∷ 224 ∷ 222 ∷ 13 ∷ 3 ∷ 0 ∷ 48 ∷ 250 ∷ 136 ∷ 253 ∷ 90 ∷ 0 ∷ 118 ∷ 3 ∷ 220
          ∷ 7 ∷ 140 ∷ 251 ∷ 134 ∷ 255 ∷ 202 ∷ 4 ∷ 88 ∷ 249 ∷ 48 ∷ 254 ∷ 82 ∷ 3 ∷ 190 ∷ 249 ∷ 116 ∷ 255 ∷ 116 ∷ 5 ∷ 190 ∷ 252 ∷ 82 ∷ 3 ∷ 48
          ∷ 250 ∷ 88 ∷ 1 ∷ 202 ∷ 249 ∷ 134 ∷ 1 ∷ 140 ∷ 249 ∷ 220 ∷ 2 ∷ 118 ∷ 251 ∷ 90 ∷ 4 ∷ 136 ∷ []);
      told = Six (pos 4239212544);
    }
    ∷
    -- melt: a split: six 3563257856
    record {
      bytes =
          (1 ∷ 0 ∷ 8 ∷ 0 ∷ 6 ∷ 0 ∷ 8 ∷ 0 ∷ 6 ∷ 0 ∷ 2 ∷ 2 ∷ 0 ∷ 5 ∷ 224 ∷ 17 ∷ 0 ∷ 43 ∷ 64 ∷ 3 ∷ 0 ∷ 36 ∷ 255 ∷ 116 ∷ 5 ∷ 190 ∷ 252 ∷ 82
          ∷ 254 ∷ 82 ∷ 3 ∷ 190 ∷ 249 ∷ 116 ∷ 3 ∷ 48 ∷ 250 ∷ 88 ∷ 1 ∷ 202 ∷ 3 ∷ 220 ∷ 7 ∷ 140 ∷ 251 ∷ 134 ∷ 250 ∷ 136 ∷ 253 ∷ 90 ∷ 0 ∷ 118
          ∷ 255 ∷ 202 ∷ 4 ∷ 88 ∷ 249 ∷ 48 ∷ []);
      told = Six (pos 3563257856);
    }
    ∷
    -- melt: a torus, with unions: six -4451893248
    record {
      bytes =
          (1 ∷ 0 ∷ 8 ∷ 0 ∷ 7 ∷ 0 ∷ 14 ∷ 0 ∷ 8 ∷ 0 ∷ 2 ∷ 2 ∷ 0 ∷ 10 ∷ 224 ∷ 0 ∷ 96 ∷ 7 ∷ 128 ∷ 128 ∷ 69 ∷ 64 ∷ 14 ∷ 154 ∷ 3 ∷ 0 ∷ 42 ∷ 250
          ∷ 136 ∷ 253 ∷ 90 ∷ 0 ∷ 118 ∷ 3 ∷ 220 ∷ 7 ∷ 140 ∷ 251 ∷ 134 ∷ 254 ∷ 82 ∷ 3 ∷ 190 ∷ 249 ∷ 116 ∷ 3 ∷ 48 ∷ 250 ∷ 88 ∷ 1 ∷ 202 ∷ 249
          ∷ 134 ∷ 1 ∷ 140 ∷ 249 ∷ 220 ∷ 255 ∷ 202 ∷ 4 ∷ 88 ∷ 249 ∷ 48 ∷ 255 ∷ 116 ∷ 5 ∷ 190 ∷ 252 ∷ 82 ∷ []);
      told = Six (negsuc 4451893247);
    }
    ∷
    -- melt: 12: nothing: refusal 12
    record { bytes = []; told = Refused 12 }
    ∷
    -- melt: 12: 01 has a length of 7: refusal 12
    record {
      bytes =
          (1 ∷ 0 ∷ 7 ∷ 0 ∷ 3 ∷ 0 ∷ 2 ∷ 0 ∷ 3 ∷ 0 ∷ 2 ∷ 0 ∷ 1 ∷ 244 ∷ 3 ∷ 0 ∷ 18 ∷ 250 ∷ 136 ∷ 253 ∷ 90 ∷ 0 ∷ 118 ∷ 3 ∷ 220 ∷ 7 ∷ 140 ∷ 251
          ∷ 134 ∷ 255 ∷ 202 ∷ 4 ∷ 88 ∷ 249 ∷ 48 ∷ []);
      told = Refused 12;
    }
    ∷
    -- melt: 12: no 02: refusal 12
    record {
      bytes =
          (1 ∷ 0 ∷ 8 ∷ 0 ∷ 3 ∷ 0 ∷ 2 ∷ 0 ∷ 3 ∷ 0 ∷ 1 ∷ 3 ∷ 0 ∷ 18 ∷ 250 ∷ 136 ∷ 253 ∷ 90 ∷ 0 ∷ 118 ∷ 3 ∷ 220 ∷ 7 ∷ 140 ∷ 251 ∷ 134 ∷ 255
          ∷ 202 ∷ 4 ∷ 88 ∷ 249 ∷ 48 ∷ []);
      told = Refused 12;
    }
    ∷
    -- melt: 12: 03 twice: refusal 12
    record {
      bytes =
          (1 ∷ 0 ∷ 8 ∷ 0 ∷ 3 ∷ 0 ∷ 2 ∷ 0 ∷ 3 ∷ 0 ∷ 1 ∷ 2 ∷ 0 ∷ 1 ∷ 244 ∷ 3 ∷ 0 ∷ 18 ∷ 250 ∷ 136 ∷ 253 ∷ 90 ∷ 0 ∷ 118 ∷ 3 ∷ 220 ∷ 7 ∷ 140
          ∷ 251 ∷ 134 ∷ 255 ∷ 202 ∷ 4 ∷ 88 ∷ 249 ∷ 48 ∷ 3 ∷ 0 ∷ 18 ∷ 250 ∷ 136 ∷ 253 ∷ 90 ∷ 0 ∷ 118 ∷ 3 ∷ 220 ∷ 7 ∷ 140 ∷ 251 ∷ 134 ∷ 255
          ∷ 202 ∷ 4 ∷ 88 ∷ 249 ∷ 48 ∷ []);
      told = Refused 12;
    }
    ∷
    -- melt: 12: 03 cut in its contents: refusal 12
    record {
      bytes =
          (1 ∷ 0 ∷ 8 ∷ 0 ∷ 3 ∷ 0 ∷ 2 ∷ 0 ∷ 3 ∷ 0 ∷ 1 ∷ 2 ∷ 0 ∷ 1 ∷ 244 ∷ 3 ∷ 0 ∷ 18 ∷ 250 ∷ 136 ∷ 253 ∷ 90 ∷ 0 ∷ 118 ∷ 3 ∷ 220 ∷ 7 ∷ 140
          ∷ 251 ∷ 134 ∷ 255 ∷ 202 ∷ 4 ∷ 88 ∷ 249 ∷ []);
      told = Refused 12;
    }
    ∷
    -- melt: 12: 04 before 03: refusal 12
    record {
      bytes =
          (1 ∷ 0 ∷ 8 ∷ 0 ∷ 3 ∷ 0 ∷ 2 ∷ 0 ∷ 3 ∷ 0 ∷ 1 ∷ 2 ∷ 0 ∷ 1 ∷ 244 ∷ 4 ∷ 0 ∷ 1 ∷ 65 ∷ 3 ∷ 0 ∷ 18 ∷ 250 ∷ 136 ∷ 253 ∷ 90 ∷ 0 ∷ 118 ∷ 3
          ∷ 220 ∷ 7 ∷ 140 ∷ 251 ∷ 134 ∷ 255 ∷ 202 ∷ 4 ∷ 88 ∷ 249 ∷ 48 ∷ []);
      told = Refused 12;
    }
    ∷
    -- melt: 12: 04 twice: refusal 12
    record {
      bytes =
          (1 ∷ 0 ∷ 8 ∷ 0 ∷ 3 ∷ 0 ∷ 2 ∷ 0 ∷ 3 ∷ 0 ∷ 1 ∷ 2 ∷ 0 ∷ 1 ∷ 244 ∷ 3 ∷ 0 ∷ 18 ∷ 250 ∷ 136 ∷ 253 ∷ 90 ∷ 0 ∷ 118 ∷ 3 ∷ 220 ∷ 7 ∷ 140
          ∷ 251 ∷ 134 ∷ 255 ∷ 202 ∷ 4 ∷ 88 ∷ 249 ∷ 48 ∷ 4 ∷ 0 ∷ 1 ∷ 65 ∷ 4 ∷ 0 ∷ 1 ∷ 65 ∷ []);
      told = Refused 12;
    }
    ∷
    -- melt: 12: a byte after 04: refusal 12
    record {
      bytes =
          (1 ∷ 0 ∷ 8 ∷ 0 ∷ 3 ∷ 0 ∷ 2 ∷ 0 ∷ 3 ∷ 0 ∷ 1 ∷ 2 ∷ 0 ∷ 1 ∷ 244 ∷ 3 ∷ 0 ∷ 18 ∷ 250 ∷ 136 ∷ 253 ∷ 90 ∷ 0 ∷ 118 ∷ 3 ∷ 220 ∷ 7 ∷ 140
          ∷ 251 ∷ 134 ∷ 255 ∷ 202 ∷ 4 ∷ 88 ∷ 249 ∷ 48 ∷ 4 ∷ 0 ∷ 1 ∷ 65 ∷ 0 ∷ []);
      told = Refused 12;
    }
    ∷
    -- melt: 12: 05 before 02: refusal 12
    record {
      bytes =
          (1 ∷ 0 ∷ 8 ∷ 0 ∷ 3 ∷ 0 ∷ 2 ∷ 0 ∷ 3 ∷ 0 ∷ 1 ∷ 5 ∷ 0 ∷ 8 ∷ 0 ∷ 1 ∷ 2 ∷ 3 ∷ 4 ∷ 5 ∷ 7 ∷ 6 ∷ 2 ∷ 0 ∷ 1 ∷ 244 ∷ 3 ∷ 0 ∷ 18 ∷ 250 ∷ 136
          ∷ 253 ∷ 90 ∷ 0 ∷ 118 ∷ 3 ∷ 220 ∷ 7 ∷ 140 ∷ 251 ∷ 134 ∷ 255 ∷ 202 ∷ 4 ∷ 88 ∷ 249 ∷ 48 ∷ []);
      told = Refused 12;
    }
    ∷
    -- melt: 12 before 13 and 26: refusal 12
    record {
      bytes =
          (1 ∷ 0 ∷ 8 ∷ 0 ∷ 2 ∷ 0 ∷ 2 ∷ 0 ∷ 201 ∷ 0 ∷ 13 ∷ 2 ∷ 0 ∷ 1 ∷ 244 ∷ 3 ∷ 0 ∷ 18 ∷ 250 ∷ 136 ∷ 253 ∷ 90 ∷ 0 ∷ 118 ∷ 3 ∷ 220 ∷ 7 ∷ 140
          ∷ 251 ∷ 134 ∷ 255 ∷ 202 ∷ 4 ∷ 88 ∷ 249 ∷ 48 ∷ 0 ∷ []);
      told = Refused 12;
    }
    ∷
    -- melt: 13: V 2: refusal 13
    record {
      bytes =
          (1 ∷ 0 ∷ 8 ∷ 0 ∷ 2 ∷ 0 ∷ 4 ∷ 0 ∷ 4 ∷ 0 ∷ 1 ∷ 2 ∷ 0 ∷ 2 ∷ 224 ∷ 208 ∷ 3 ∷ 0 ∷ 24 ∷ 250 ∷ 136 ∷ 253 ∷ 90 ∷ 0 ∷ 118 ∷ 3 ∷ 220 ∷ 7
          ∷ 140 ∷ 251 ∷ 134 ∷ 255 ∷ 202 ∷ 4 ∷ 88 ∷ 249 ∷ 48 ∷ 254 ∷ 82 ∷ 3 ∷ 190 ∷ 249 ∷ 116 ∷ []);
      told = Refused 13;
    }
    ∷
    -- melt: 13: T 0: refusal 13
    record {
      bytes =
          (1 ∷ 0 ∷ 8 ∷ 0 ∷ 4 ∷ 0 ∷ 0 ∷ 0 ∷ 4 ∷ 0 ∷ 1 ∷ 2 ∷ 0 ∷ 2 ∷ 224 ∷ 208 ∷ 3 ∷ 0 ∷ 24 ∷ 250 ∷ 136 ∷ 253 ∷ 90 ∷ 0 ∷ 118 ∷ 3 ∷ 220 ∷ 7
          ∷ 140 ∷ 251 ∷ 134 ∷ 255 ∷ 202 ∷ 4 ∷ 88 ∷ 249 ∷ 48 ∷ 254 ∷ 82 ∷ 3 ∷ 190 ∷ 249 ∷ 116 ∷ []);
      told = Refused 13;
    }
    ∷
    -- melt: 13: no loops: refusal 13
    record {
      bytes =
          (1 ∷ 0 ∷ 8 ∷ 0 ∷ 4 ∷ 0 ∷ 4 ∷ 0 ∷ 4 ∷ 0 ∷ 0 ∷ 2 ∷ 0 ∷ 2 ∷ 224 ∷ 208 ∷ 3 ∷ 0 ∷ 24 ∷ 250 ∷ 136 ∷ 253 ∷ 90 ∷ 0 ∷ 118 ∷ 3 ∷ 220 ∷ 7
          ∷ 140 ∷ 251 ∷ 134 ∷ 255 ∷ 202 ∷ 4 ∷ 88 ∷ 249 ∷ 48 ∷ 254 ∷ 82 ∷ 3 ∷ 190 ∷ 249 ∷ 116 ∷ []);
      told = Refused 13;
    }
    ∷
    -- melt: 13 before 26: 1,025 places: refusal 13
    record {
      bytes =
          (1 ∷ 0 ∷ 8 ∷ 0 ∷ 4 ∷ 0 ∷ 4 ∷ 4 ∷ 1 ∷ 0 ∷ 1 ∷ 2 ∷ 0 ∷ 2 ∷ 224 ∷ 208 ∷ 3 ∷ 0 ∷ 24 ∷ 250 ∷ 136 ∷ 253 ∷ 90 ∷ 0 ∷ 118 ∷ 3 ∷ 220 ∷ 7
          ∷ 140 ∷ 251 ∷ 134 ∷ 255 ∷ 202 ∷ 4 ∷ 88 ∷ 249 ∷ 48 ∷ 254 ∷ 82 ∷ 3 ∷ 190 ∷ 249 ∷ 116 ∷ []);
      told = Refused 13;
    }
    ∷
    -- melt: 13 before 26: 101 loops: refusal 13
    record {
      bytes =
          (1 ∷ 0 ∷ 8 ∷ 0 ∷ 4 ∷ 0 ∷ 4 ∷ 0 ∷ 4 ∷ 0 ∷ 101 ∷ 2 ∷ 0 ∷ 2 ∷ 224 ∷ 208 ∷ 3 ∷ 0 ∷ 24 ∷ 250 ∷ 136 ∷ 253 ∷ 90 ∷ 0 ∷ 118 ∷ 3 ∷ 220 ∷ 7
          ∷ 140 ∷ 251 ∷ 134 ∷ 255 ∷ 202 ∷ 4 ∷ 88 ∷ 249 ∷ 48 ∷ 254 ∷ 82 ∷ 3 ∷ 190 ∷ 249 ∷ 116 ∷ []);
      told = Refused 13;
    }
    ∷
    -- melt: 13 before 26: V 4,097 and 201 places: refusal 13
    record {
      bytes =
          (1 ∷ 0 ∷ 8 ∷ 16 ∷ 1 ∷ 0 ∷ 4 ∷ 0 ∷ 201 ∷ 0 ∷ 1 ∷ 2 ∷ 0 ∷ 2 ∷ 224 ∷ 208 ∷ 3 ∷ 0 ∷ 24 ∷ 250 ∷ 136 ∷ 253 ∷ 90 ∷ 0 ∷ 118 ∷ 3 ∷ 220 ∷ 7
          ∷ 140 ∷ 251 ∷ 134 ∷ 255 ∷ 202 ∷ 4 ∷ 88 ∷ 249 ∷ 48 ∷ 254 ∷ 82 ∷ 3 ∷ 190 ∷ 249 ∷ 116 ∷ []);
      told = Refused 13;
    }
    ∷
    -- melt: 13 before 26: no loops and 201 places: refusal 13
    record {
      bytes =
          (1 ∷ 0 ∷ 8 ∷ 0 ∷ 4 ∷ 0 ∷ 4 ∷ 0 ∷ 201 ∷ 0 ∷ 0 ∷ 2 ∷ 0 ∷ 2 ∷ 224 ∷ 208 ∷ 3 ∷ 0 ∷ 24 ∷ 250 ∷ 136 ∷ 253 ∷ 90 ∷ 0 ∷ 118 ∷ 3 ∷ 220 ∷ 7
          ∷ 140 ∷ 251 ∷ 134 ∷ 255 ∷ 202 ∷ 4 ∷ 88 ∷ 249 ∷ 48 ∷ 254 ∷ 82 ∷ 3 ∷ 190 ∷ 249 ∷ 116 ∷ []);
      told = Refused 13;
    }
    ∷
    -- melt: 26: 201 places and 13 loops: refusal 26
    record {
      bytes =
          (1 ∷ 0 ∷ 8 ∷ 0 ∷ 4 ∷ 0 ∷ 4 ∷ 0 ∷ 201 ∷ 0 ∷ 13 ∷ 2 ∷ 0 ∷ 2 ∷ 224 ∷ 208 ∷ 3 ∷ 0 ∷ 24 ∷ 250 ∷ 136 ∷ 253 ∷ 90 ∷ 0 ∷ 118 ∷ 3 ∷ 220 ∷ 7
          ∷ 140 ∷ 251 ∷ 134 ∷ 255 ∷ 202 ∷ 4 ∷ 88 ∷ 249 ∷ 48 ∷ 254 ∷ 82 ∷ 3 ∷ 190 ∷ 249 ∷ 116 ∷ []);
      told = Refused 26;
    }
    ∷
    -- melt: 26: 1,024 places and 100 loops: refusal 26
    record {
      bytes =
          (1 ∷ 0 ∷ 8 ∷ 0 ∷ 4 ∷ 0 ∷ 4 ∷ 4 ∷ 0 ∷ 0 ∷ 100 ∷ 2 ∷ 0 ∷ 2 ∷ 224 ∷ 208 ∷ 3 ∷ 0 ∷ 24 ∷ 250 ∷ 136 ∷ 253 ∷ 90 ∷ 0 ∷ 118 ∷ 3 ∷ 220 ∷ 7
          ∷ 140 ∷ 251 ∷ 134 ∷ 255 ∷ 202 ∷ 4 ∷ 88 ∷ 249 ∷ 48 ∷ 254 ∷ 82 ∷ 3 ∷ 190 ∷ 249 ∷ 116 ∷ []);
      told = Refused 26;
    }
    ∷
    -- melt: 26 before 15: 201 places: refusal 26
    record {
      bytes =
          (1 ∷ 0 ∷ 8 ∷ 0 ∷ 4 ∷ 0 ∷ 4 ∷ 0 ∷ 201 ∷ 0 ∷ 1 ∷ 2 ∷ 0 ∷ 0 ∷ 3 ∷ 0 ∷ 24 ∷ 250 ∷ 136 ∷ 253 ∷ 90 ∷ 0 ∷ 118 ∷ 3 ∷ 220 ∷ 7 ∷ 140 ∷ 251
          ∷ 134 ∷ 255 ∷ 202 ∷ 4 ∷ 88 ∷ 249 ∷ 48 ∷ 254 ∷ 82 ∷ 3 ∷ 190 ∷ 249 ∷ 116 ∷ []);
      told = Refused 26;
    }
    ∷
    -- melt: 26 before 15: 13 loops: refusal 26
    record {
      bytes =
          (1 ∷ 0 ∷ 8 ∷ 0 ∷ 4 ∷ 0 ∷ 4 ∷ 0 ∷ 4 ∷ 0 ∷ 13 ∷ 2 ∷ 0 ∷ 0 ∷ 3 ∷ 0 ∷ 24 ∷ 250 ∷ 136 ∷ 253 ∷ 90 ∷ 0 ∷ 118 ∷ 3 ∷ 220 ∷ 7 ∷ 140 ∷ 251
          ∷ 134 ∷ 255 ∷ 202 ∷ 4 ∷ 88 ∷ 249 ∷ 48 ∷ 254 ∷ 82 ∷ 3 ∷ 190 ∷ 249 ∷ 116 ∷ []);
      told = Refused 26;
    }
    ∷
    -- melt: 26 before 16: refusal 26
    record {
      bytes =
          (1 ∷ 0 ∷ 8 ∷ 0 ∷ 4 ∷ 0 ∷ 4 ∷ 0 ∷ 201 ∷ 0 ∷ 1 ∷ 2 ∷ 0 ∷ 1 ∷ 228 ∷ 3 ∷ 0 ∷ 24 ∷ 250 ∷ 136 ∷ 253 ∷ 90 ∷ 0 ∷ 118 ∷ 3 ∷ 220 ∷ 7 ∷ 140
          ∷ 251 ∷ 134 ∷ 255 ∷ 202 ∷ 4 ∷ 88 ∷ 249 ∷ 48 ∷ 254 ∷ 82 ∷ 3 ∷ 190 ∷ 249 ∷ 116 ∷ []);
      told = Refused 26;
    }
    ∷
    -- melt: 26 before 17: refusal 26
    record {
      bytes =
          (1 ∷ 0 ∷ 8 ∷ 0 ∷ 3 ∷ 0 ∷ 4 ∷ 0 ∷ 4 ∷ 0 ∷ 13 ∷ 2 ∷ 0 ∷ 2 ∷ 224 ∷ 208 ∷ 3 ∷ 0 ∷ 24 ∷ 250 ∷ 136 ∷ 253 ∷ 90 ∷ 0 ∷ 118 ∷ 3 ∷ 220 ∷ 7
          ∷ 140 ∷ 251 ∷ 134 ∷ 255 ∷ 202 ∷ 4 ∷ 88 ∷ 249 ∷ 48 ∷ 254 ∷ 82 ∷ 3 ∷ 190 ∷ 249 ∷ 116 ∷ []);
      told = Refused 26;
    }
    ∷
    -- melt: 26 before 19: 201 places: refusal 26
    record {
      bytes =
          (1 ∷ 0 ∷ 8 ∷ 0 ∷ 4 ∷ 0 ∷ 4 ∷ 0 ∷ 201 ∷ 0 ∷ 1 ∷ 2 ∷ 0 ∷ 2 ∷ 224 ∷ 208 ∷ 3 ∷ 0 ∷ 24 ∷ 250 ∷ 136 ∷ 253 ∷ 90 ∷ 0 ∷ 118 ∷ 3 ∷ 220 ∷ 7
          ∷ 140 ∷ 251 ∷ 134 ∷ 255 ∷ 202 ∷ 4 ∷ 88 ∷ 249 ∷ 48 ∷ 254 ∷ 82 ∷ 3 ∷ 190 ∷ 249 ∷ 116 ∷ []);
      told = Refused 26;
    }
    ∷
    -- melt: 26 before 19: 13 loops: refusal 26
    record {
      bytes =
          (1 ∷ 0 ∷ 8 ∷ 0 ∷ 4 ∷ 0 ∷ 4 ∷ 0 ∷ 4 ∷ 0 ∷ 13 ∷ 2 ∷ 0 ∷ 2 ∷ 224 ∷ 208 ∷ 3 ∷ 0 ∷ 24 ∷ 250 ∷ 136 ∷ 253 ∷ 90 ∷ 0 ∷ 118 ∷ 3 ∷ 220 ∷ 7
          ∷ 140 ∷ 251 ∷ 134 ∷ 255 ∷ 202 ∷ 4 ∷ 88 ∷ 249 ∷ 48 ∷ 254 ∷ 82 ∷ 3 ∷ 190 ∷ 249 ∷ 116 ∷ []);
      told = Refused 26;
    }
    ∷
    -- melt: 200 places and 12 loops pass 26: refusal 15
    record {
      bytes =
          (1 ∷ 0 ∷ 8 ∷ 0 ∷ 4 ∷ 0 ∷ 4 ∷ 0 ∷ 200 ∷ 0 ∷ 12 ∷ 2 ∷ 0 ∷ 0 ∷ 3 ∷ 0 ∷ 24 ∷ 250 ∷ 136 ∷ 253 ∷ 90 ∷ 0 ∷ 118 ∷ 3 ∷ 220 ∷ 7 ∷ 140 ∷ 251
          ∷ 134 ∷ 255 ∷ 202 ∷ 4 ∷ 88 ∷ 249 ∷ 48 ∷ 254 ∷ 82 ∷ 3 ∷ 190 ∷ 249 ∷ 116 ∷ []);
      told = Refused 15;
    }
    ∷
    -- melt: 200 places pass 26: refusal 19
    record {
      bytes =
          (1 ∷ 0 ∷ 8 ∷ 0 ∷ 4 ∷ 0 ∷ 4 ∷ 0 ∷ 200 ∷ 0 ∷ 1 ∷ 2 ∷ 0 ∷ 2 ∷ 224 ∷ 208 ∷ 3 ∷ 0 ∷ 24 ∷ 250 ∷ 136 ∷ 253 ∷ 90 ∷ 0 ∷ 118 ∷ 3 ∷ 220 ∷ 7
          ∷ 140 ∷ 251 ∷ 134 ∷ 255 ∷ 202 ∷ 4 ∷ 88 ∷ 249 ∷ 48 ∷ 254 ∷ 82 ∷ 3 ∷ 190 ∷ 249 ∷ 116 ∷ []);
      told = Refused 19;
    }
    ∷
    -- melt: 12 loops pass 26: refusal 19
    record {
      bytes =
          (1 ∷ 0 ∷ 8 ∷ 0 ∷ 4 ∷ 0 ∷ 4 ∷ 0 ∷ 4 ∷ 0 ∷ 12 ∷ 2 ∷ 0 ∷ 2 ∷ 224 ∷ 208 ∷ 3 ∷ 0 ∷ 24 ∷ 250 ∷ 136 ∷ 253 ∷ 90 ∷ 0 ∷ 118 ∷ 3 ∷ 220 ∷ 7
          ∷ 140 ∷ 251 ∷ 134 ∷ 255 ∷ 202 ∷ 4 ∷ 88 ∷ 249 ∷ 48 ∷ 254 ∷ 82 ∷ 3 ∷ 190 ∷ 249 ∷ 116 ∷ []);
      told = Refused 19;
    }
    ∷
    -- melt: 15: no operations: refusal 15
    record {
      bytes =
          (1 ∷ 0 ∷ 8 ∷ 0 ∷ 4 ∷ 0 ∷ 4 ∷ 0 ∷ 4 ∷ 0 ∷ 1 ∷ 2 ∷ 0 ∷ 0 ∷ 3 ∷ 0 ∷ 24 ∷ 250 ∷ 136 ∷ 253 ∷ 90 ∷ 0 ∷ 118 ∷ 3 ∷ 220 ∷ 7 ∷ 140 ∷ 251
          ∷ 134 ∷ 255 ∷ 202 ∷ 4 ∷ 88 ∷ 249 ∷ 48 ∷ 254 ∷ 82 ∷ 3 ∷ 190 ∷ 249 ∷ 116 ∷ []);
      told = Refused 15;
    }
    ∷
    -- melt: 15: T triangles and a live loop: refusal 15
    record {
      bytes =
          (1 ∷ 0 ∷ 8 ∷ 0 ∷ 3 ∷ 0 ∷ 1 ∷ 0 ∷ 3 ∷ 0 ∷ 1 ∷ 2 ∷ 0 ∷ 1 ∷ 236 ∷ 3 ∷ 0 ∷ 24 ∷ 250 ∷ 136 ∷ 253 ∷ 90 ∷ 0 ∷ 118 ∷ 3 ∷ 220 ∷ 7 ∷ 140
          ∷ 251 ∷ 134 ∷ 255 ∷ 202 ∷ 4 ∷ 88 ∷ 249 ∷ 48 ∷ 254 ∷ 82 ∷ 3 ∷ 190 ∷ 249 ∷ 116 ∷ []);
      told = Refused 15;
    }
    ∷
    -- melt: 15: a split breaks off inside i: refusal 15
    record {
      bytes =
          (1 ∷ 0 ∷ 8 ∷ 0 ∷ 4 ∷ 0 ∷ 4 ∷ 0 ∷ 4 ∷ 0 ∷ 1 ∷ 2 ∷ 0 ∷ 2 ∷ 226 ∷ 0 ∷ 3 ∷ 0 ∷ 24 ∷ 250 ∷ 136 ∷ 253 ∷ 90 ∷ 0 ∷ 118 ∷ 3 ∷ 220 ∷ 7 ∷ 140
          ∷ 251 ∷ 134 ∷ 255 ∷ 202 ∷ 4 ∷ 88 ∷ 249 ∷ 48 ∷ 254 ∷ 82 ∷ 3 ∷ 190 ∷ 249 ∷ 116 ∷ []);
      told = Refused 15;
    }
    ∷
    -- melt: 16: new without a live loop: refusal 16
    record {
      bytes =
          (1 ∷ 0 ∷ 8 ∷ 0 ∷ 4 ∷ 0 ∷ 4 ∷ 0 ∷ 4 ∷ 0 ∷ 1 ∷ 2 ∷ 0 ∷ 1 ∷ 0 ∷ 3 ∷ 0 ∷ 24 ∷ 250 ∷ 136 ∷ 253 ∷ 90 ∷ 0 ∷ 118 ∷ 3 ∷ 220 ∷ 7 ∷ 140 ∷ 251
          ∷ 134 ∷ 255 ∷ 202 ∷ 4 ∷ 88 ∷ 249 ∷ 48 ∷ 254 ∷ 82 ∷ 3 ∷ 190 ∷ 249 ∷ 116 ∷ []);
      told = Refused 16;
    }
    ∷
    -- melt: 16: start in a live loop: refusal 16
    record {
      bytes =
          (1 ∷ 0 ∷ 8 ∷ 0 ∷ 6 ∷ 0 ∷ 4 ∷ 0 ∷ 6 ∷ 0 ∷ 2 ∷ 2 ∷ 0 ∷ 1 ∷ 252 ∷ 3 ∷ 0 ∷ 24 ∷ 250 ∷ 136 ∷ 253 ∷ 90 ∷ 0 ∷ 118 ∷ 3 ∷ 220 ∷ 7 ∷ 140
          ∷ 251 ∷ 134 ∷ 255 ∷ 202 ∷ 4 ∷ 88 ∷ 249 ∷ 48 ∷ 254 ∷ 82 ∷ 3 ∷ 190 ∷ 249 ∷ 116 ∷ []);
      told = Refused 16;
    }
    ∷
    -- melt: 16: forward in a loop of three: refusal 16
    record {
      bytes =
          (1 ∷ 0 ∷ 8 ∷ 0 ∷ 4 ∷ 0 ∷ 4 ∷ 0 ∷ 4 ∷ 0 ∷ 1 ∷ 2 ∷ 0 ∷ 1 ∷ 228 ∷ 3 ∷ 0 ∷ 24 ∷ 250 ∷ 136 ∷ 253 ∷ 90 ∷ 0 ∷ 118 ∷ 3 ∷ 220 ∷ 7 ∷ 140
          ∷ 251 ∷ 134 ∷ 255 ∷ 202 ∷ 4 ∷ 88 ∷ 249 ∷ 48 ∷ 254 ∷ 82 ∷ 3 ∷ 190 ∷ 249 ∷ 116 ∷ []);
      told = Refused 16;
    }
    ∷
    -- melt: 16 before 17: forward in a loop of three: refusal 16
    record {
      bytes =
          (1 ∷ 0 ∷ 8 ∷ 0 ∷ 3 ∷ 0 ∷ 1 ∷ 0 ∷ 3 ∷ 0 ∷ 1 ∷ 2 ∷ 0 ∷ 1 ∷ 228 ∷ 3 ∷ 0 ∷ 24 ∷ 250 ∷ 136 ∷ 253 ∷ 90 ∷ 0 ∷ 118 ∷ 3 ∷ 220 ∷ 7 ∷ 140
          ∷ 251 ∷ 134 ∷ 255 ∷ 202 ∷ 4 ∷ 88 ∷ 249 ∷ 48 ∷ 254 ∷ 82 ∷ 3 ∷ 190 ∷ 249 ∷ 116 ∷ []);
      told = Refused 16;
    }
    ∷
    -- melt: 17: a vertex too many, then no operation: refusal 17
    record {
      bytes =
          (1 ∷ 0 ∷ 8 ∷ 0 ∷ 3 ∷ 0 ∷ 4 ∷ 0 ∷ 4 ∷ 0 ∷ 1 ∷ 2 ∷ 0 ∷ 1 ∷ 224 ∷ 3 ∷ 0 ∷ 24 ∷ 250 ∷ 136 ∷ 253 ∷ 90 ∷ 0 ∷ 118 ∷ 3 ∷ 220 ∷ 7 ∷ 140
          ∷ 251 ∷ 134 ∷ 255 ∷ 202 ∷ 4 ∷ 88 ∷ 249 ∷ 48 ∷ 254 ∷ 82 ∷ 3 ∷ 190 ∷ 249 ∷ 116 ∷ []);
      told = Refused 17;
    }
    ∷
    -- melt: 17: a triangle too many, then no operation: refusal 17
    record {
      bytes =
          (1 ∷ 0 ∷ 8 ∷ 0 ∷ 4 ∷ 0 ∷ 1 ∷ 0 ∷ 4 ∷ 0 ∷ 1 ∷ 2 ∷ 0 ∷ 1 ∷ 224 ∷ 3 ∷ 0 ∷ 24 ∷ 250 ∷ 136 ∷ 253 ∷ 90 ∷ 0 ∷ 118 ∷ 3 ∷ 220 ∷ 7 ∷ 140
          ∷ 251 ∷ 134 ∷ 255 ∷ 202 ∷ 4 ∷ 88 ∷ 249 ∷ 48 ∷ 254 ∷ 82 ∷ 3 ∷ 190 ∷ 249 ∷ 116 ∷ []);
      told = Refused 17;
    }
    ∷
    -- melt: 17: a place too many, then no operation: refusal 17
    record {
      bytes =
          (1 ∷ 0 ∷ 8 ∷ 0 ∷ 4 ∷ 0 ∷ 4 ∷ 0 ∷ 3 ∷ 0 ∷ 1 ∷ 2 ∷ 0 ∷ 1 ∷ 224 ∷ 3 ∷ 0 ∷ 24 ∷ 250 ∷ 136 ∷ 253 ∷ 90 ∷ 0 ∷ 118 ∷ 3 ∷ 220 ∷ 7 ∷ 140
          ∷ 251 ∷ 134 ∷ 255 ∷ 202 ∷ 4 ∷ 88 ∷ 249 ∷ 48 ∷ 254 ∷ 82 ∷ 3 ∷ 190 ∷ 249 ∷ 116 ∷ []);
      told = Refused 17;
    }
    ∷
    -- melt: 17: a loop too many, then no operation: refusal 17
    record {
      bytes =
          (1 ∷ 0 ∷ 8 ∷ 0 ∷ 5 ∷ 0 ∷ 9 ∷ 0 ∷ 9 ∷ 0 ∷ 1 ∷ 2 ∷ 0 ∷ 3 ∷ 224 ∷ 64 ∷ 8 ∷ 3 ∷ 0 ∷ 24 ∷ 250 ∷ 136 ∷ 253 ∷ 90 ∷ 0 ∷ 118 ∷ 3 ∷ 220 ∷ 7
          ∷ 140 ∷ 251 ∷ 134 ∷ 255 ∷ 202 ∷ 4 ∷ 88 ∷ 249 ∷ 48 ∷ 254 ∷ 82 ∷ 3 ∷ 190 ∷ 249 ∷ 116 ∷ []);
      told = Refused 17;
    }
    ∷
    -- melt: 19: V 5: refusal 19
    record {
      bytes =
          (1 ∷ 0 ∷ 8 ∷ 0 ∷ 5 ∷ 0 ∷ 4 ∷ 0 ∷ 4 ∷ 0 ∷ 1 ∷ 2 ∷ 0 ∷ 2 ∷ 224 ∷ 208 ∷ 3 ∷ 0 ∷ 24 ∷ 250 ∷ 136 ∷ 253 ∷ 90 ∷ 0 ∷ 118 ∷ 3 ∷ 220 ∷ 7
          ∷ 140 ∷ 251 ∷ 134 ∷ 255 ∷ 202 ∷ 4 ∷ 88 ∷ 249 ∷ 48 ∷ 254 ∷ 82 ∷ 3 ∷ 190 ∷ 249 ∷ 116 ∷ []);
      told = Refused 19;
    }
    ∷
    -- melt: 19: five places: refusal 19
    record {
      bytes =
          (1 ∷ 0 ∷ 8 ∷ 0 ∷ 4 ∷ 0 ∷ 4 ∷ 0 ∷ 5 ∷ 0 ∷ 1 ∷ 2 ∷ 0 ∷ 2 ∷ 224 ∷ 208 ∷ 3 ∷ 0 ∷ 24 ∷ 250 ∷ 136 ∷ 253 ∷ 90 ∷ 0 ∷ 118 ∷ 3 ∷ 220 ∷ 7
          ∷ 140 ∷ 251 ∷ 134 ∷ 255 ∷ 202 ∷ 4 ∷ 88 ∷ 249 ∷ 48 ∷ 254 ∷ 82 ∷ 3 ∷ 190 ∷ 249 ∷ 116 ∷ []);
      told = Refused 19;
    }
    ∷
    -- melt: 19: two loops: refusal 19
    record {
      bytes =
          (1 ∷ 0 ∷ 8 ∷ 0 ∷ 4 ∷ 0 ∷ 4 ∷ 0 ∷ 4 ∷ 0 ∷ 2 ∷ 2 ∷ 0 ∷ 2 ∷ 224 ∷ 208 ∷ 3 ∷ 0 ∷ 24 ∷ 250 ∷ 136 ∷ 253 ∷ 90 ∷ 0 ∷ 118 ∷ 3 ∷ 220 ∷ 7
          ∷ 140 ∷ 251 ∷ 134 ∷ 255 ∷ 202 ∷ 4 ∷ 88 ∷ 249 ∷ 48 ∷ 254 ∷ 82 ∷ 3 ∷ 190 ∷ 249 ∷ 116 ∷ []);
      told = Refused 19;
    }
    ∷
    -- melt: 19: a byte left over: refusal 19
    record {
      bytes =
          (1 ∷ 0 ∷ 8 ∷ 0 ∷ 4 ∷ 0 ∷ 4 ∷ 0 ∷ 4 ∷ 0 ∷ 1 ∷ 2 ∷ 0 ∷ 3 ∷ 224 ∷ 208 ∷ 0 ∷ 3 ∷ 0 ∷ 24 ∷ 250 ∷ 136 ∷ 253 ∷ 90 ∷ 0 ∷ 118 ∷ 3 ∷ 220 ∷ 7
          ∷ 140 ∷ 251 ∷ 134 ∷ 255 ∷ 202 ∷ 4 ∷ 88 ∷ 249 ∷ 48 ∷ 254 ∷ 82 ∷ 3 ∷ 190 ∷ 249 ∷ 116 ∷ []);
      told = Refused 19;
    }
    ∷
    -- melt: 19: the first fill bit: refusal 19
    record {
      bytes =
          (1 ∷ 0 ∷ 8 ∷ 0 ∷ 4 ∷ 0 ∷ 4 ∷ 0 ∷ 4 ∷ 0 ∷ 1 ∷ 2 ∷ 0 ∷ 2 ∷ 224 ∷ 216 ∷ 3 ∷ 0 ∷ 24 ∷ 250 ∷ 136 ∷ 253 ∷ 90 ∷ 0 ∷ 118 ∷ 3 ∷ 220 ∷ 7
          ∷ 140 ∷ 251 ∷ 134 ∷ 255 ∷ 202 ∷ 4 ∷ 88 ∷ 249 ∷ 48 ∷ 254 ∷ 82 ∷ 3 ∷ 190 ∷ 249 ∷ 116 ∷ []);
      told = Refused 19;
    }
    ∷
    -- melt: 19: the last fill bit: refusal 19
    record {
      bytes =
          (1 ∷ 0 ∷ 8 ∷ 0 ∷ 4 ∷ 0 ∷ 4 ∷ 0 ∷ 4 ∷ 0 ∷ 1 ∷ 2 ∷ 0 ∷ 2 ∷ 224 ∷ 209 ∷ 3 ∷ 0 ∷ 24 ∷ 250 ∷ 136 ∷ 253 ∷ 90 ∷ 0 ∷ 118 ∷ 3 ∷ 220 ∷ 7
          ∷ 140 ∷ 251 ∷ 134 ∷ 255 ∷ 202 ∷ 4 ∷ 88 ∷ 249 ∷ 48 ∷ 254 ∷ 82 ∷ 3 ∷ 190 ∷ 249 ∷ 116 ∷ []);
      told = Refused 19;
    }
    ∷
    -- melt: 23: no byte: refusal 23
    record { bytes = (1 ∷ 0 ∷ 8 ∷ 0 ∷ 4 ∷ 0 ∷ 4 ∷ 0 ∷ 4 ∷ 0 ∷ 1 ∷ 2 ∷ 0 ∷ 2 ∷ 224 ∷ 208 ∷ 3 ∷ 0 ∷ 0 ∷ []); told = Refused 23 }
    ∷
    -- melt: 23: a vertex less: refusal 23
    record {
      bytes =
          (1 ∷ 0 ∷ 8 ∷ 0 ∷ 4 ∷ 0 ∷ 4 ∷ 0 ∷ 4 ∷ 0 ∷ 1 ∷ 2 ∷ 0 ∷ 2 ∷ 224 ∷ 208 ∷ 3 ∷ 0 ∷ 18 ∷ 250 ∷ 136 ∷ 253 ∷ 90 ∷ 0 ∷ 118 ∷ 3 ∷ 220 ∷ 7
          ∷ 140 ∷ 251 ∷ 134 ∷ 255 ∷ 202 ∷ 4 ∷ 88 ∷ 249 ∷ 48 ∷ []);
      told = Refused 23;
    }
    ∷
    -- melt: 23: a vertex more: refusal 23
    record {
      bytes =
          (1 ∷ 0 ∷ 8 ∷ 0 ∷ 4 ∷ 0 ∷ 4 ∷ 0 ∷ 4 ∷ 0 ∷ 1 ∷ 2 ∷ 0 ∷ 2 ∷ 224 ∷ 208 ∷ 3 ∷ 0 ∷ 30 ∷ 250 ∷ 136 ∷ 253 ∷ 90 ∷ 0 ∷ 118 ∷ 3 ∷ 220 ∷ 7
          ∷ 140 ∷ 251 ∷ 134 ∷ 255 ∷ 202 ∷ 4 ∷ 88 ∷ 249 ∷ 48 ∷ 254 ∷ 82 ∷ 3 ∷ 190 ∷ 249 ∷ 116 ∷ 255 ∷ 116 ∷ 5 ∷ 190 ∷ 252 ∷ 82 ∷ []);
      told = Refused 23;
    }
    ∷
    -- melt: 23: a byte less: refusal 23
    record {
      bytes =
          (1 ∷ 0 ∷ 8 ∷ 0 ∷ 4 ∷ 0 ∷ 4 ∷ 0 ∷ 4 ∷ 0 ∷ 1 ∷ 2 ∷ 0 ∷ 2 ∷ 224 ∷ 208 ∷ 3 ∷ 0 ∷ 23 ∷ 250 ∷ 136 ∷ 253 ∷ 90 ∷ 0 ∷ 118 ∷ 3 ∷ 220 ∷ 7
          ∷ 140 ∷ 251 ∷ 134 ∷ 255 ∷ 202 ∷ 4 ∷ 88 ∷ 249 ∷ 48 ∷ 254 ∷ 82 ∷ 3 ∷ 190 ∷ 249 ∷ []);
      told = Refused 23;
    }
    ∷
    -- melt: 23: position 0 is 2,048: refusal 23
    record {
      bytes =
          (1 ∷ 0 ∷ 8 ∷ 0 ∷ 4 ∷ 0 ∷ 4 ∷ 0 ∷ 4 ∷ 0 ∷ 1 ∷ 2 ∷ 0 ∷ 2 ∷ 224 ∷ 208 ∷ 3 ∷ 0 ∷ 24 ∷ 8 ∷ 0 ∷ 253 ∷ 90 ∷ 0 ∷ 118 ∷ 3 ∷ 220 ∷ 7 ∷ 140
          ∷ 251 ∷ 134 ∷ 255 ∷ 202 ∷ 4 ∷ 88 ∷ 249 ∷ 48 ∷ 254 ∷ 82 ∷ 3 ∷ 190 ∷ 249 ∷ 116 ∷ []);
      told = Refused 23;
    }
    ∷
    -- melt: 23: position 11 is -2,049: refusal 23
    record {
      bytes =
          (1 ∷ 0 ∷ 8 ∷ 0 ∷ 4 ∷ 0 ∷ 4 ∷ 0 ∷ 4 ∷ 0 ∷ 1 ∷ 2 ∷ 0 ∷ 2 ∷ 224 ∷ 208 ∷ 3 ∷ 0 ∷ 24 ∷ 250 ∷ 136 ∷ 253 ∷ 90 ∷ 0 ∷ 118 ∷ 3 ∷ 220 ∷ 7
          ∷ 140 ∷ 251 ∷ 134 ∷ 255 ∷ 202 ∷ 4 ∷ 88 ∷ 249 ∷ 48 ∷ 254 ∷ 82 ∷ 3 ∷ 190 ∷ 247 ∷ 255 ∷ []);
      told = Refused 23;
    }
    ∷
    -- melt: 25: no byte: refusal 25
    record {
      bytes =
          (1 ∷ 0 ∷ 8 ∷ 0 ∷ 4 ∷ 0 ∷ 4 ∷ 0 ∷ 4 ∷ 0 ∷ 1 ∷ 2 ∷ 0 ∷ 2 ∷ 224 ∷ 208 ∷ 3 ∷ 0 ∷ 24 ∷ 250 ∷ 136 ∷ 253 ∷ 90 ∷ 0 ∷ 118 ∷ 3 ∷ 220 ∷ 7
          ∷ 140 ∷ 251 ∷ 134 ∷ 255 ∷ 202 ∷ 4 ∷ 88 ∷ 249 ∷ 48 ∷ 254 ∷ 82 ∷ 3 ∷ 190 ∷ 249 ∷ 116 ∷ 4 ∷ 0 ∷ 0 ∷ []);
      told = Refused 25;
    }
    ∷
    -- melt: 25: 65 bytes: refusal 25
    record {
      bytes =
          ((1 ∷ 0 ∷ 8 ∷ 0 ∷ 4 ∷ 0 ∷ 4 ∷ 0 ∷ 4 ∷ 0 ∷ 1 ∷ 2 ∷ 0 ∷ 2 ∷ 224 ∷ 208 ∷ 3 ∷ 0 ∷ 24 ∷ 250 ∷ 136 ∷ 253 ∷ 90 ∷ 0 ∷ 118 ∷ 3 ∷ 220 ∷ 7
          ∷ 140 ∷ 251 ∷ 134 ∷ 255 ∷ 202 ∷ 4 ∷ 88 ∷ 249 ∷ 48 ∷ 254 ∷ 82 ∷ 3 ∷ 190 ∷ 249 ∷ 116 ∷ 4 ∷ 0 ∷ 65 ∷ []) ++ replicate 65 4);
      told = Refused 25;
    }
    ∷
    -- melt: 24: no positions: refusal 24
    record { bytes = (1 ∷ 0 ∷ 8 ∷ 0 ∷ 4 ∷ 0 ∷ 4 ∷ 0 ∷ 4 ∷ 0 ∷ 1 ∷ 2 ∷ 0 ∷ 2 ∷ 224 ∷ 208 ∷ []); told = Refused 24 }
    ∷
    -- melt: 24: no positions, a note: refusal 24
    record { bytes = (1 ∷ 0 ∷ 8 ∷ 0 ∷ 4 ∷ 0 ∷ 4 ∷ 0 ∷ 4 ∷ 0 ∷ 1 ∷ 2 ∷ 0 ∷ 2 ∷ 224 ∷ 208 ∷ 4 ∷ 0 ∷ 1 ∷ 65 ∷ []); told = Refused 24 }
    ∷
    -- melt: 24: a rim: refusal 24
    record {
      bytes =
          (1 ∷ 0 ∷ 8 ∷ 0 ∷ 3 ∷ 0 ∷ 1 ∷ 0 ∷ 3 ∷ 0 ∷ 1 ∷ 2 ∷ 0 ∷ 2 ∷ 237 ∷ 176 ∷ 3 ∷ 0 ∷ 18 ∷ 250 ∷ 136 ∷ 253 ∷ 90 ∷ 0 ∷ 118 ∷ 3 ∷ 220 ∷ 7
          ∷ 140 ∷ 251 ∷ 134 ∷ 255 ∷ 202 ∷ 4 ∷ 88 ∷ 249 ∷ 48 ∷ []);
      told = Refused 24;
    }
    ∷
    -- melt: 24: a rim, a note: refusal 24
    record {
      bytes =
          (1 ∷ 0 ∷ 8 ∷ 0 ∷ 3 ∷ 0 ∷ 1 ∷ 0 ∷ 3 ∷ 0 ∷ 1 ∷ 2 ∷ 0 ∷ 2 ∷ 237 ∷ 176 ∷ 3 ∷ 0 ∷ 18 ∷ 250 ∷ 136 ∷ 253 ∷ 90 ∷ 0 ∷ 118 ∷ 3 ∷ 220 ∷ 7
          ∷ 140 ∷ 251 ∷ 134 ∷ 255 ∷ 202 ∷ 4 ∷ 88 ∷ 249 ∷ 48 ∷ 4 ∷ 0 ∷ 1 ∷ 65 ∷ []);
      told = Refused 24;
    }
    ∷
    -- melt: 24: a rim and no positions: refusal 24
    record { bytes = (1 ∷ 0 ∷ 8 ∷ 0 ∷ 3 ∷ 0 ∷ 1 ∷ 0 ∷ 3 ∷ 0 ∷ 1 ∷ 2 ∷ 0 ∷ 2 ∷ 237 ∷ 176 ∷ []); told = Refused 24 }
    ∷
    -- melt: 24: two rims: refusal 24
    record {
      bytes =
          (1 ∷ 0 ∷ 8 ∷ 0 ∷ 6 ∷ 0 ∷ 2 ∷ 0 ∷ 3 ∷ 0 ∷ 1 ∷ 2 ∷ 0 ∷ 3 ∷ 237 ∷ 190 ∷ 219 ∷ 3 ∷ 0 ∷ 36 ∷ 254 ∷ 82 ∷ 3 ∷ 190 ∷ 249 ∷ 116 ∷ 3 ∷ 48
          ∷ 250 ∷ 88 ∷ 1 ∷ 202 ∷ 255 ∷ 116 ∷ 5 ∷ 190 ∷ 252 ∷ 82 ∷ 255 ∷ 202 ∷ 4 ∷ 88 ∷ 249 ∷ 48 ∷ 250 ∷ 136 ∷ 253 ∷ 90 ∷ 0 ∷ 118 ∷ 3 ∷ 220
          ∷ 7 ∷ 140 ∷ 251 ∷ 134 ∷ []);
      told = Refused 24;
    }
    ∷
    -- melt: 23 before 25: refusal 23
    record {
      bytes = (1 ∷ 0 ∷ 8 ∷ 0 ∷ 4 ∷ 0 ∷ 4 ∷ 0 ∷ 4 ∷ 0 ∷ 1 ∷ 2 ∷ 0 ∷ 2 ∷ 224 ∷ 208 ∷ 3 ∷ 0 ∷ 2 ∷ 8 ∷ 0 ∷ 4 ∷ 0 ∷ 0 ∷ []);
      told = Refused 23;
    }
    ∷
    -- melt: 23 before 24: a rim: refusal 23
    record { bytes = (1 ∷ 0 ∷ 8 ∷ 0 ∷ 3 ∷ 0 ∷ 1 ∷ 0 ∷ 3 ∷ 0 ∷ 1 ∷ 2 ∷ 0 ∷ 2 ∷ 237 ∷ 176 ∷ 3 ∷ 0 ∷ 2 ∷ 8 ∷ 0 ∷ []); told = Refused 23 }
    ∷
    -- melt: 25 before 24: no positions: refusal 25
    record { bytes = (1 ∷ 0 ∷ 8 ∷ 0 ∷ 4 ∷ 0 ∷ 4 ∷ 0 ∷ 4 ∷ 0 ∷ 1 ∷ 2 ∷ 0 ∷ 2 ∷ 224 ∷ 208 ∷ 4 ∷ 0 ∷ 0 ∷ []); told = Refused 25 }
    ∷
    -- melt: 25 before 24: a rim: refusal 25
    record {
      bytes =
          (1 ∷ 0 ∷ 8 ∷ 0 ∷ 3 ∷ 0 ∷ 1 ∷ 0 ∷ 3 ∷ 0 ∷ 1 ∷ 2 ∷ 0 ∷ 2 ∷ 237 ∷ 176 ∷ 3 ∷ 0 ∷ 18 ∷ 250 ∷ 136 ∷ 253 ∷ 90 ∷ 0 ∷ 118 ∷ 3 ∷ 220 ∷ 7
          ∷ 140 ∷ 251 ∷ 134 ∷ 255 ∷ 202 ∷ 4 ∷ 88 ∷ 249 ∷ 48 ∷ 4 ∷ 0 ∷ 0 ∷ []);
      told = Refused 25;
    }
    ∷
    -- melt: 13 before 23 and 25: refusal 13
    record {
      bytes = (1 ∷ 0 ∷ 8 ∷ 0 ∷ 2 ∷ 0 ∷ 4 ∷ 0 ∷ 4 ∷ 0 ∷ 1 ∷ 2 ∷ 0 ∷ 2 ∷ 224 ∷ 208 ∷ 3 ∷ 0 ∷ 2 ∷ 8 ∷ 0 ∷ 4 ∷ 0 ∷ 0 ∷ []);
      told = Refused 13;
    }
    ∷
    -- melt: 13 before 24: no positions: refusal 13
    record { bytes = (1 ∷ 0 ∷ 8 ∷ 0 ∷ 2 ∷ 0 ∷ 4 ∷ 0 ∷ 4 ∷ 0 ∷ 1 ∷ 2 ∷ 0 ∷ 2 ∷ 224 ∷ 208 ∷ []); told = Refused 13 }
    ∷
    -- melt: 26 before 23 and 25: refusal 26
    record {
      bytes = (1 ∷ 0 ∷ 8 ∷ 0 ∷ 4 ∷ 0 ∷ 4 ∷ 0 ∷ 201 ∷ 0 ∷ 1 ∷ 2 ∷ 0 ∷ 2 ∷ 224 ∷ 208 ∷ 3 ∷ 0 ∷ 2 ∷ 8 ∷ 0 ∷ 4 ∷ 0 ∷ 0 ∷ []);
      told = Refused 26;
    }
    ∷
    -- melt: 26 before 24: no positions: refusal 26
    record { bytes = (1 ∷ 0 ∷ 8 ∷ 0 ∷ 4 ∷ 0 ∷ 4 ∷ 0 ∷ 201 ∷ 0 ∷ 1 ∷ 2 ∷ 0 ∷ 2 ∷ 224 ∷ 208 ∷ []); told = Refused 26 }
    ∷
    -- melt: 15 before 23 and 25: refusal 15
    record { bytes = (1 ∷ 0 ∷ 8 ∷ 0 ∷ 5 ∷ 0 ∷ 4 ∷ 0 ∷ 4 ∷ 0 ∷ 1 ∷ 2 ∷ 0 ∷ 1 ∷ 224 ∷ 3 ∷ 0 ∷ 2 ∷ 8 ∷ 0 ∷ 4 ∷ 0 ∷ 0 ∷ []); told = Refused 15 }
    ∷
    -- melt: 15 before 24: no positions: refusal 15
    record { bytes = (1 ∷ 0 ∷ 8 ∷ 0 ∷ 5 ∷ 0 ∷ 4 ∷ 0 ∷ 4 ∷ 0 ∷ 1 ∷ 2 ∷ 0 ∷ 1 ∷ 224 ∷ []); told = Refused 15 }
    ∷
    -- melt: 16 before 23 and 25: refusal 16
    record { bytes = (1 ∷ 0 ∷ 8 ∷ 0 ∷ 5 ∷ 0 ∷ 4 ∷ 0 ∷ 4 ∷ 0 ∷ 1 ∷ 2 ∷ 0 ∷ 1 ∷ 228 ∷ 3 ∷ 0 ∷ 2 ∷ 8 ∷ 0 ∷ 4 ∷ 0 ∷ 0 ∷ []); told = Refused 16 }
    ∷
    -- melt: 16 before 24: no positions: refusal 16
    record { bytes = (1 ∷ 0 ∷ 8 ∷ 0 ∷ 5 ∷ 0 ∷ 4 ∷ 0 ∷ 4 ∷ 0 ∷ 1 ∷ 2 ∷ 0 ∷ 1 ∷ 228 ∷ []); told = Refused 16 }
    ∷
    -- melt: 17 before 23 and 25: refusal 17
    record {
      bytes = (1 ∷ 0 ∷ 8 ∷ 0 ∷ 5 ∷ 0 ∷ 4 ∷ 0 ∷ 3 ∷ 0 ∷ 1 ∷ 2 ∷ 0 ∷ 2 ∷ 224 ∷ 208 ∷ 3 ∷ 0 ∷ 2 ∷ 8 ∷ 0 ∷ 4 ∷ 0 ∷ 0 ∷ []);
      told = Refused 17;
    }
    ∷
    -- melt: 17 before 24: no positions: refusal 17
    record { bytes = (1 ∷ 0 ∷ 8 ∷ 0 ∷ 5 ∷ 0 ∷ 4 ∷ 0 ∷ 3 ∷ 0 ∷ 1 ∷ 2 ∷ 0 ∷ 2 ∷ 224 ∷ 208 ∷ []); told = Refused 17 }
    ∷
    -- melt: 19 before 23 and 25: refusal 19
    record {
      bytes = (1 ∷ 0 ∷ 8 ∷ 0 ∷ 5 ∷ 0 ∷ 4 ∷ 0 ∷ 4 ∷ 0 ∷ 1 ∷ 2 ∷ 0 ∷ 2 ∷ 224 ∷ 208 ∷ 3 ∷ 0 ∷ 2 ∷ 8 ∷ 0 ∷ 4 ∷ 0 ∷ 0 ∷ []);
      told = Refused 19;
    }
    ∷
    -- melt: 19 before 24: no positions: refusal 19
    record { bytes = (1 ∷ 0 ∷ 8 ∷ 0 ∷ 5 ∷ 0 ∷ 4 ∷ 0 ∷ 4 ∷ 0 ∷ 1 ∷ 2 ∷ 0 ∷ 2 ∷ 224 ∷ 208 ∷ []); told = Refused 19 }
    ∷
    -- melt: 15 before 24: a rim: refusal 15
    record {
      bytes =
          (1 ∷ 0 ∷ 8 ∷ 0 ∷ 9 ∷ 0 ∷ 9 ∷ 0 ∷ 9 ∷ 0 ∷ 1 ∷ 2 ∷ 0 ∷ 3 ∷ 237 ∷ 190 ∷ 0 ∷ 3 ∷ 0 ∷ 54 ∷ 250 ∷ 136 ∷ 253 ∷ 90 ∷ 0 ∷ 118 ∷ 3 ∷ 220 ∷ 7
          ∷ 140 ∷ 251 ∷ 134 ∷ 255 ∷ 202 ∷ 4 ∷ 88 ∷ 249 ∷ 48 ∷ 254 ∷ 82 ∷ 3 ∷ 190 ∷ 249 ∷ 116 ∷ 255 ∷ 116 ∷ 5 ∷ 190 ∷ 252 ∷ 82 ∷ 3 ∷ 48 ∷ 250
          ∷ 88 ∷ 1 ∷ 202 ∷ 249 ∷ 134 ∷ 1 ∷ 140 ∷ 249 ∷ 220 ∷ 2 ∷ 118 ∷ 251 ∷ 90 ∷ 4 ∷ 136 ∷ 254 ∷ 0 ∷ 7 ∷ 194 ∷ 1 ∷ 206 ∷ []);
      told = Refused 15;
    }
    ∷
    -- melt: 16 before 24: a rim: refusal 16
    record {
      bytes =
          (1 ∷ 0 ∷ 8 ∷ 0 ∷ 9 ∷ 0 ∷ 9 ∷ 0 ∷ 9 ∷ 0 ∷ 1 ∷ 2 ∷ 0 ∷ 3 ∷ 237 ∷ 190 ∷ 64 ∷ 3 ∷ 0 ∷ 54 ∷ 250 ∷ 136 ∷ 253 ∷ 90 ∷ 0 ∷ 118 ∷ 3 ∷ 220
          ∷ 7 ∷ 140 ∷ 251 ∷ 134 ∷ 255 ∷ 202 ∷ 4 ∷ 88 ∷ 249 ∷ 48 ∷ 254 ∷ 82 ∷ 3 ∷ 190 ∷ 249 ∷ 116 ∷ 255 ∷ 116 ∷ 5 ∷ 190 ∷ 252 ∷ 82 ∷ 3 ∷ 48
          ∷ 250 ∷ 88 ∷ 1 ∷ 202 ∷ 249 ∷ 134 ∷ 1 ∷ 140 ∷ 249 ∷ 220 ∷ 2 ∷ 118 ∷ 251 ∷ 90 ∷ 4 ∷ 136 ∷ 254 ∷ 0 ∷ 7 ∷ 194 ∷ 1 ∷ 206 ∷ []);
      told = Refused 16;
    }
    ∷
    -- melt: 17 before 24: a rim: refusal 17
    record {
      bytes =
          (1 ∷ 0 ∷ 8 ∷ 0 ∷ 5 ∷ 0 ∷ 9 ∷ 0 ∷ 9 ∷ 0 ∷ 1 ∷ 2 ∷ 0 ∷ 2 ∷ 237 ∷ 190 ∷ 3 ∷ 0 ∷ 30 ∷ 250 ∷ 136 ∷ 253 ∷ 90 ∷ 0 ∷ 118 ∷ 3 ∷ 220 ∷ 7
          ∷ 140 ∷ 251 ∷ 134 ∷ 255 ∷ 202 ∷ 4 ∷ 88 ∷ 249 ∷ 48 ∷ 254 ∷ 82 ∷ 3 ∷ 190 ∷ 249 ∷ 116 ∷ 255 ∷ 116 ∷ 5 ∷ 190 ∷ 252 ∷ 82 ∷ []);
      told = Refused 17;
    }
    ∷
    -- melt: 19 before 24: a rim: refusal 19
    record {
      bytes =
          (1 ∷ 0 ∷ 8 ∷ 0 ∷ 4 ∷ 0 ∷ 1 ∷ 0 ∷ 3 ∷ 0 ∷ 1 ∷ 2 ∷ 0 ∷ 2 ∷ 237 ∷ 176 ∷ 3 ∷ 0 ∷ 24 ∷ 250 ∷ 136 ∷ 253 ∷ 90 ∷ 0 ∷ 118 ∷ 3 ∷ 220 ∷ 7
          ∷ 140 ∷ 251 ∷ 134 ∷ 255 ∷ 202 ∷ 4 ∷ 88 ∷ 249 ∷ 48 ∷ 254 ∷ 82 ∷ 3 ∷ 190 ∷ 249 ∷ 116 ∷ []);
      told = Refused 19;
    }
    ∷
    -- melt: beyond 18: c→b is used: six -605601792
    record {
      bytes =
          (1 ∷ 0 ∷ 8 ∷ 0 ∷ 5 ∷ 0 ∷ 6 ∷ 0 ∷ 5 ∷ 0 ∷ 1 ∷ 2 ∷ 0 ∷ 3 ∷ 224 ∷ 35 ∷ 64 ∷ 3 ∷ 0 ∷ 30 ∷ 250 ∷ 136 ∷ 253 ∷ 90 ∷ 0 ∷ 118 ∷ 3 ∷ 220 ∷ 7
          ∷ 140 ∷ 251 ∷ 134 ∷ 255 ∷ 202 ∷ 4 ∷ 88 ∷ 249 ∷ 48 ∷ 254 ∷ 82 ∷ 3 ∷ 190 ∷ 249 ∷ 116 ∷ 255 ∷ 116 ∷ 5 ∷ 190 ∷ 252 ∷ 82 ∷ []);
      told = Six (negsuc 605601791);
    }
    ∷
    -- melt: beyond 18: a split to a neighbour of f: six 1816805376
    record {
      bytes =
          (1 ∷ 0 ∷ 8 ∷ 0 ∷ 5 ∷ 0 ∷ 6 ∷ 0 ∷ 6 ∷ 0 ∷ 2 ∷ 2 ∷ 0 ∷ 4 ∷ 224 ∷ 64 ∷ 10 ∷ 208 ∷ 3 ∷ 0 ∷ 30 ∷ 250 ∷ 136 ∷ 253 ∷ 90 ∷ 0 ∷ 118 ∷ 3
          ∷ 220 ∷ 7 ∷ 140 ∷ 251 ∷ 134 ∷ 255 ∷ 202 ∷ 4 ∷ 88 ∷ 249 ∷ 48 ∷ 254 ∷ 82 ∷ 3 ∷ 190 ∷ 249 ∷ 116 ∷ 255 ∷ 116 ∷ 5 ∷ 190 ∷ 252 ∷ 82
          ∷ []);
      told = Six (pos 1816805376);
    }
    ∷
    -- melt: beyond 18: c is a: six 1816805376
    record {
      bytes =
          (1 ∷ 0 ∷ 8 ∷ 0 ∷ 5 ∷ 0 ∷ 10 ∷ 0 ∷ 7 ∷ 0 ∷ 2 ∷ 2 ∷ 0 ∷ 8 ∷ 224 ∷ 64 ∷ 11 ∷ 1 ∷ 0 ∷ 73 ∷ 38 ∷ 128 ∷ 3 ∷ 0 ∷ 30 ∷ 250 ∷ 136 ∷ 253
          ∷ 90 ∷ 0 ∷ 118 ∷ 3 ∷ 220 ∷ 7 ∷ 140 ∷ 251 ∷ 134 ∷ 255 ∷ 202 ∷ 4 ∷ 88 ∷ 249 ∷ 48 ∷ 254 ∷ 82 ∷ 3 ∷ 190 ∷ 249 ∷ 116 ∷ 255 ∷ 116 ∷ 5
          ∷ 190 ∷ 252 ∷ 82 ∷ []);
      told = Six (pos 1816805376);
    }
    ∷
    -- melt: beyond 18: 12 loops: six 23087349760
    record {
      bytes =
          (1 ∷ 0 ∷ 8 ∷ 0 ∷ 25 ∷ 0 ∷ 46 ∷ 0 ∷ 36 ∷ 0 ∷ 12 ∷ 2 ∷ 0 ∷ 31 ∷ 224 ∷ 64 ∷ 8 ∷ 8 ∷ 1 ∷ 1 ∷ 0 ∷ 32 ∷ 32 ∷ 4 ∷ 4 ∷ 0 ∷ 128 ∷ 128 ∷ 16
          ∷ 16 ∷ 2 ∷ 2 ∷ 0 ∷ 64 ∷ 64 ∷ 8 ∷ 8 ∷ 1 ∷ 1 ∷ 0 ∷ 43 ∷ 109 ∷ 182 ∷ 219 ∷ 109 ∷ 3 ∷ 0 ∷ 150 ∷ 250 ∷ 136 ∷ 253 ∷ 90 ∷ 0 ∷ 118 ∷ 3
          ∷ 220 ∷ 7 ∷ 140 ∷ 251 ∷ 134 ∷ 255 ∷ 202 ∷ 4 ∷ 88 ∷ 249 ∷ 48 ∷ 254 ∷ 82 ∷ 3 ∷ 190 ∷ 249 ∷ 116 ∷ 255 ∷ 116 ∷ 5 ∷ 190 ∷ 252 ∷ 82 ∷ 3
          ∷ 48 ∷ 250 ∷ 88 ∷ 1 ∷ 202 ∷ 249 ∷ 134 ∷ 1 ∷ 140 ∷ 249 ∷ 220 ∷ 2 ∷ 118 ∷ 251 ∷ 90 ∷ 4 ∷ 136 ∷ 254 ∷ 0 ∷ 7 ∷ 194 ∷ 1 ∷ 206 ∷ 252
          ∷ 36 ∷ 6 ∷ 196 ∷ 1 ∷ 174 ∷ 252 ∷ 226 ∷ 248 ∷ 96 ∷ 4 ∷ 40 ∷ 0 ∷ 58 ∷ 252 ∷ 150 ∷ 249 ∷ 60 ∷ 6 ∷ 44 ∷ 3 ∷ 102 ∷ 0 ∷ 234 ∷ 254 ∷ 184
          ∷ 252 ∷ 208 ∷ 251 ∷ 50 ∷ 249 ∷ 222 ∷ 248 ∷ 212 ∷ 248 ∷ 20 ∷ 7 ∷ 158 ∷ 7 ∷ 114 ∷ 7 ∷ 144 ∷ 7 ∷ 248 ∷ 248 ∷ 170 ∷ 249 ∷ 166 ∷ 250
          ∷ 236 ∷ 252 ∷ 124 ∷ 254 ∷ 86 ∷ 0 ∷ 122 ∷ 2 ∷ 232 ∷ 5 ∷ 160 ∷ 248 ∷ 162 ∷ 251 ∷ 238 ∷ 255 ∷ 132 ∷ 3 ∷ 100 ∷ 7 ∷ 142 ∷ 252 ∷ 2 ∷ 0
          ∷ 192 ∷ 5 ∷ 200 ∷ 251 ∷ 26 ∷ 0 ∷ 182 ∷ 6 ∷ 156 ∷ 252 ∷ 204 ∷ 3 ∷ 70 ∷ 250 ∷ 10 ∷ 1 ∷ 24 ∷ 248 ∷ 112 ∷ 0 ∷ 18 ∷ 7 ∷ 254 ∷ []);
      told = Six (pos 23087349760);
    }
    ∷
    -- melt: beyond 18: 15: refusal 15
    record {
      bytes =
          (1 ∷ 0 ∷ 8 ∷ 0 ∷ 5 ∷ 0 ∷ 6 ∷ 0 ∷ 5 ∷ 0 ∷ 1 ∷ 2 ∷ 0 ∷ 2 ∷ 224 ∷ 34 ∷ 3 ∷ 0 ∷ 30 ∷ 250 ∷ 136 ∷ 253 ∷ 90 ∷ 0 ∷ 118 ∷ 3 ∷ 220 ∷ 7
          ∷ 140 ∷ 251 ∷ 134 ∷ 255 ∷ 202 ∷ 4 ∷ 88 ∷ 249 ∷ 48 ∷ 254 ∷ 82 ∷ 3 ∷ 190 ∷ 249 ∷ 116 ∷ 255 ∷ 116 ∷ 5 ∷ 190 ∷ 252 ∷ 82 ∷ []);
      told = Refused 15;
    }
    ∷
    -- melt: beyond 18: 16: refusal 16
    record {
      bytes =
          (1 ∷ 0 ∷ 8 ∷ 0 ∷ 5 ∷ 0 ∷ 6 ∷ 0 ∷ 5 ∷ 0 ∷ 1 ∷ 2 ∷ 0 ∷ 2 ∷ 224 ∷ 42 ∷ 3 ∷ 0 ∷ 30 ∷ 250 ∷ 136 ∷ 253 ∷ 90 ∷ 0 ∷ 118 ∷ 3 ∷ 220 ∷ 7
          ∷ 140 ∷ 251 ∷ 134 ∷ 255 ∷ 202 ∷ 4 ∷ 88 ∷ 249 ∷ 48 ∷ 254 ∷ 82 ∷ 3 ∷ 190 ∷ 249 ∷ 116 ∷ 255 ∷ 116 ∷ 5 ∷ 190 ∷ 252 ∷ 82 ∷ []);
      told = Refused 16;
    }
    ∷
    -- melt: beyond 18: 17: a place too many: refusal 17
    record {
      bytes =
          (1 ∷ 0 ∷ 8 ∷ 0 ∷ 9 ∷ 0 ∷ 9 ∷ 0 ∷ 5 ∷ 0 ∷ 1 ∷ 2 ∷ 0 ∷ 3 ∷ 224 ∷ 32 ∷ 0 ∷ 3 ∷ 0 ∷ 30 ∷ 250 ∷ 136 ∷ 253 ∷ 90 ∷ 0 ∷ 118 ∷ 3 ∷ 220 ∷ 7
          ∷ 140 ∷ 251 ∷ 134 ∷ 255 ∷ 202 ∷ 4 ∷ 88 ∷ 249 ∷ 48 ∷ 254 ∷ 82 ∷ 3 ∷ 190 ∷ 249 ∷ 116 ∷ 255 ∷ 116 ∷ 5 ∷ 190 ∷ 252 ∷ 82 ∷ []);
      told = Refused 17;
    }
    ∷
    -- melt: beyond 18: 19: six places: refusal 19
    record {
      bytes =
          (1 ∷ 0 ∷ 8 ∷ 0 ∷ 5 ∷ 0 ∷ 6 ∷ 0 ∷ 6 ∷ 0 ∷ 1 ∷ 2 ∷ 0 ∷ 3 ∷ 224 ∷ 35 ∷ 64 ∷ 3 ∷ 0 ∷ 30 ∷ 250 ∷ 136 ∷ 253 ∷ 90 ∷ 0 ∷ 118 ∷ 3 ∷ 220 ∷ 7
          ∷ 140 ∷ 251 ∷ 134 ∷ 255 ∷ 202 ∷ 4 ∷ 88 ∷ 249 ∷ 48 ∷ 254 ∷ 82 ∷ 3 ∷ 190 ∷ 249 ∷ 116 ∷ 255 ∷ 116 ∷ 5 ∷ 190 ∷ 252 ∷ 82 ∷ []);
      told = Refused 19;
    }
    ∷
    -- melt: beyond 18: 23: refusal 23
    record { bytes = (1 ∷ 0 ∷ 8 ∷ 0 ∷ 5 ∷ 0 ∷ 6 ∷ 0 ∷ 5 ∷ 0 ∷ 1 ∷ 2 ∷ 0 ∷ 3 ∷ 224 ∷ 35 ∷ 64 ∷ 3 ∷ 0 ∷ 2 ∷ 8 ∷ 0 ∷ []); told = Refused 23 }
    ∷
    -- melt: beyond 18: 25: refusal 25
    record {
      bytes =
          (1 ∷ 0 ∷ 8 ∷ 0 ∷ 5 ∷ 0 ∷ 6 ∷ 0 ∷ 5 ∷ 0 ∷ 1 ∷ 2 ∷ 0 ∷ 3 ∷ 224 ∷ 35 ∷ 64 ∷ 3 ∷ 0 ∷ 30 ∷ 250 ∷ 136 ∷ 253 ∷ 90 ∷ 0 ∷ 118 ∷ 3 ∷ 220 ∷ 7
          ∷ 140 ∷ 251 ∷ 134 ∷ 255 ∷ 202 ∷ 4 ∷ 88 ∷ 249 ∷ 48 ∷ 254 ∷ 82 ∷ 3 ∷ 190 ∷ 249 ∷ 116 ∷ 255 ∷ 116 ∷ 5 ∷ 190 ∷ 252 ∷ 82 ∷ 4 ∷ 0 ∷ 0
          ∷ []);
      told = Refused 25;
    }
    ∷
    -- melt: beyond 18: 24: no positions: refusal 24
    record { bytes = (1 ∷ 0 ∷ 8 ∷ 0 ∷ 5 ∷ 0 ∷ 6 ∷ 0 ∷ 5 ∷ 0 ∷ 1 ∷ 2 ∷ 0 ∷ 3 ∷ 224 ∷ 35 ∷ 64 ∷ []); told = Refused 24 }
    ∷
    -- melt: beyond 18: 24: a rim: refusal 24
    record {
      bytes =
          (1 ∷ 0 ∷ 8 ∷ 0 ∷ 3 ∷ 0 ∷ 2 ∷ 0 ∷ 3 ∷ 0 ∷ 1 ∷ 2 ∷ 0 ∷ 2 ∷ 236 ∷ 176 ∷ 3 ∷ 0 ∷ 18 ∷ 250 ∷ 136 ∷ 253 ∷ 90 ∷ 0 ∷ 118 ∷ 3 ∷ 220 ∷ 7
          ∷ 140 ∷ 251 ∷ 134 ∷ 255 ∷ 202 ∷ 4 ∷ 88 ∷ 249 ∷ 48 ∷ []);
      told = Refused 24;
    }
    ∷
    -- melt: beyond 20: 24: a rim: refusal 24
    record {
      bytes =
          (1 ∷ 0 ∷ 8 ∷ 0 ∷ 5 ∷ 0 ∷ 4 ∷ 0 ∷ 5 ∷ 0 ∷ 2 ∷ 2 ∷ 0 ∷ 5 ∷ 224 ∷ 55 ∷ 0 ∷ 38 ∷ 219 ∷ 3 ∷ 0 ∷ 30 ∷ 250 ∷ 136 ∷ 253 ∷ 90 ∷ 0 ∷ 118 ∷ 3
          ∷ 220 ∷ 7 ∷ 140 ∷ 251 ∷ 134 ∷ 255 ∷ 202 ∷ 4 ∷ 88 ∷ 249 ∷ 48 ∷ 254 ∷ 82 ∷ 3 ∷ 190 ∷ 249 ∷ 116 ∷ 255 ∷ 116 ∷ 5 ∷ 190 ∷ 252 ∷ 82
          ∷ []);
      told = Refused 24;
    }
    ∷
    -- melt: beyond 20: 23: refusal 23
    record {
      bytes = (1 ∷ 0 ∷ 8 ∷ 0 ∷ 5 ∷ 0 ∷ 4 ∷ 0 ∷ 5 ∷ 0 ∷ 2 ∷ 2 ∷ 0 ∷ 5 ∷ 224 ∷ 55 ∷ 0 ∷ 38 ∷ 219 ∷ 3 ∷ 0 ∷ 2 ∷ 8 ∷ 0 ∷ []);
      told = Refused 23;
    }
    ∷
    -- melt: beyond 20: 25: refusal 25
    record {
      bytes =
          (1 ∷ 0 ∷ 8 ∷ 0 ∷ 5 ∷ 0 ∷ 4 ∷ 0 ∷ 5 ∷ 0 ∷ 2 ∷ 2 ∷ 0 ∷ 5 ∷ 224 ∷ 55 ∷ 0 ∷ 38 ∷ 219 ∷ 3 ∷ 0 ∷ 30 ∷ 250 ∷ 136 ∷ 253 ∷ 90 ∷ 0 ∷ 118 ∷ 3
          ∷ 220 ∷ 7 ∷ 140 ∷ 251 ∷ 134 ∷ 255 ∷ 202 ∷ 4 ∷ 88 ∷ 249 ∷ 48 ∷ 254 ∷ 82 ∷ 3 ∷ 190 ∷ 249 ∷ 116 ∷ 255 ∷ 116 ∷ 5 ∷ 190 ∷ 252 ∷ 82 ∷ 4
          ∷ 0 ∷ 0 ∷ []);
      told = Refused 25;
    }
    ∷
    -- melt: beyond 20: 24: no positions: refusal 24
    record { bytes = (1 ∷ 0 ∷ 8 ∷ 0 ∷ 5 ∷ 0 ∷ 4 ∷ 0 ∷ 5 ∷ 0 ∷ 2 ∷ 2 ∷ 0 ∷ 5 ∷ 224 ∷ 55 ∷ 0 ∷ 38 ∷ 219 ∷ []); told = Refused 24 }
    ∷
    -- melt: 200 places: six 134754812
    record {
      bytes =
          ((1 ∷ 0 ∷ 8 ∷ 0 ∷ 200 ∷ 1 ∷ 140 ∷ 0 ∷ 200 ∷ 0 ∷ 1 ∷ 2 ∷ 0 ∷ 149 ∷ 224 ∷ []) ++ replicate 73 0 ++ (9 ∷ 36 ∷ 146 ∷ 73 ∷ 36 ∷ 146
          ∷ 73 ∷ 36 ∷ 146 ∷ 73 ∷ 36 ∷ 146 ∷ 73 ∷ 36 ∷ 146 ∷ 73 ∷ 36 ∷ 146 ∷ 73 ∷ 36 ∷ 146 ∷ 73 ∷ 36 ∷ 146 ∷ 73 ∷ 36 ∷ 146 ∷ 73 ∷ 36 ∷ 146
          ∷ 73 ∷ 36 ∷ 146 ∷ 73 ∷ 36 ∷ 146 ∷ 73 ∷ 36 ∷ 146 ∷ 73 ∷ 36 ∷ 146 ∷ 73 ∷ 36 ∷ 146 ∷ 73 ∷ 36 ∷ 146 ∷ 73 ∷ 36 ∷ 146 ∷ 73 ∷ 36 ∷ 146
          ∷ 73 ∷ 36 ∷ 146 ∷ 73 ∷ 36 ∷ 146 ∷ 73 ∷ 36 ∷ 146 ∷ 73 ∷ 36 ∷ 146 ∷ 73 ∷ 36 ∷ 146 ∷ 73 ∷ 36 ∷ 146 ∷ 73 ∷ 36 ∷ 208 ∷ 3 ∷ 4 ∷ 176
          ∷ 250 ∷ 136 ∷ 253 ∷ 90 ∷ 0 ∷ 118 ∷ 3 ∷ 220 ∷ 7 ∷ 140 ∷ 251 ∷ 134 ∷ 255 ∷ 202 ∷ 4 ∷ 88 ∷ 249 ∷ 48 ∷ 254 ∷ 82 ∷ 3 ∷ 190 ∷ 249 ∷ 116
          ∷ []) ++ replicate 1171 0 ++ (7 ∷ 255 ∷ 248 ∷ 0 ∷ 9 ∷ []));
      told = Six (pos 134754812);
    }
    ∷
    []

pub table : T (all_right pack_right pack_rows && all_right unpack_right unpack_rows && all_right calls_right call_rows
    && all_right fields_right fields_rows && all_right look_right look_rows && all_right whole_pack_right whole_pack_rows
    && all_right whole_right whole_rows && all_right melt_right melt_rows)
unfolding equal equal_places equal_answers pack_right unpack_right whole_pack_right whole_right melt_right written_ring written_rings
    written_edges calls_right fields_right look_right all_right triangles_of corners edges_of same hit occurs count different pairs about
    leaving entering turn_on turn_back one_run one_fan_each in_triangle across all_below all_distinct none_twice all_used passes
    check_triangles check all_open vertex_at last_open last_vertex front onward reached places loop_at without allowed in_order at_edge
    at_rest effect places_at rings_after cleared test done beginning finishing answers after_all log_all bits value_of bits_of_bytes
    bytes_within read_number all_zero operation_bits operations_bits kind_in read_operation pack_bytes take_field fields_of all_in_grid
    signed_of position_bytes positions_from later_part parts_of take_note determinant six_volumes has drop_triangle turn_in turn_out edge_in
    spot_of choose_place limited taking choose_at choose_in order_by choose_all index_of new_numbers pack_chosen pack_checked run_all
    numbers_of unpack_run unpack_fields positions_of whole_chosen whole_checked then_tested unpack_parts measured done_freely run_freely
    melt_run melt_fields melt_parts follow followed nodes places_of open_among loops_of place_nodes place_rings triangles_built view
    sizes_of apart places_fit loops_fit links_fit sound_else sound pack_rows unpack_rows call_rows fields_rows look_rows whole_pack_rows
    whole_rows melt_rows
table = tt
