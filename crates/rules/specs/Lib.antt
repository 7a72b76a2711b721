-- What a reader must believe: every definition of the rules (01, and what 02 has changed so far) stands in one of the files below.
-- Assumes nothing.
--
-- Notation:
--   `f : A → B → C` says what f takes and gives, the lines `f x y = ..` what it is, case by case; `abbrev`, `unfoldable` and `pub`
--   say how the prover and other files may use it, and change no meaning
--   `elim t [ true ↦ x | false ↦ y ]` is x if t is true, else y, and so for other data; `let x = t in ..` names t; `λ x. ..`: a function
--   `data` lists the forms of a value, `record` its fields: `record { f = x; .. }` has them, and `r.f` is one; «open» is a field's name
--   ℕ: numbers from 0; `suc n` is n + 1; `m - n` is 0 where n is above m; `/` and `%`: quotient and remainder
--   ℤ: `pos n` is n, `negsuc n` is -(n + 1); `+ℤ`, `-ℤ`, `*ℤ`
--   lists: `[]`, `x ∷ xs`, `xs ++ ys`, `length`, `take n`, `drop n`, `replicate n x`; `get_or xs i d` is entry i from 0, d past the end
--   Bool: `&&`, `||`, `not`; `eqb`, `ltb`, `leb` test equal, below, at most
--   statements: `x ≡ y` equal, `A × B` both, `A ⊎ B` one of them, `⊥` never, `Unit` always; `(x : A) → ..` each x, `(x : A) × ..` some x
--   `use Rattle.rules.specs.X.{f}` is f of the file X here; `specs.declared.X` is the type X of src/lib.rt, `TheVariants` its forms
--
-- Index, in 01's order: sentence | file: definitions | row that pins them. A row in quotes is one of proofs/Models, by its comment;
-- `bench` is the table of proofs/Bench, `states` and `calls` are tables of proofs/States, `rings` is one of proofs/Places, `logs` one of
-- proofs/Log, other names are theorems of proofs/Examples.
--
-- The model
--   "a vertex count V and a list of 3T vertex numbers" | Triangle: triangles_of | "M1" to "M5"
--   "has the directed edges p→q, q→r and r→p" | Triangle: edges_of | "5: second edges", "5: a first and a third edge"
--   "A fan is a run of triangles about one vertex, each .." | Fan: about, Shares, Run, OneFan | "M8", "one fan, listed from its middle"
--   "it is closed if it comes round, else open" | Fan: Closed, Open, Neighbours | closed_fan, open_fan
--   "no directed edge occurs twice" | Check: none_twice | "M7"
--   "each vertex's triangles form one fan" | Fan: OneFan, the test one_fan_each | "7: a closed fan and an open one", "7: two closed fans"
--
-- Loops and the eight operations (the table as 02's C-14 has changed it)
--   "A loop is a ring of places; each place has a vertex .." | Ring: Node, Ring | all rows of calls
--   "An edge is open until it is glued or marked as border" | Ring: Node; Table: at_edge | all rows of calls
--   "One live loop is current .. the latest numbered 1" | Machine: Machine; Ring: loop_at, without | "union 2 of two waiting loops; .."
--   "The border places are one lent list of records" | Place in src/lib.rt; View: place_at | states
--   "A freed place is used again" | Build: Leaves, the line taken | (which free records new places take is free)
--   "at most 1,024 places, and at most 100 loops are live" | Limits: max_places, max_loops | bench, "13: V 2, V 4097, .."
--   C-16: "at most 200 places and 12 loops" | Limits: furnace_places, furnace_loops | "melt: 200 places", "melt: beyond 18: 12 loops"
--   "The current edge goes from vertex a (place e) to .." | Table: at_edge, effect | all rows of calls
--   "Every operation but border and start builds .. b a c" | Table: at_edge | "M2"
--   "All but start need a live loop"; start, "no live loop" | Table: at_rest | "16: split in a loop of three; new without a live loop; .."
--   new | Table: at_edge, the clause New | "M2"
--   forward, "edge after f open"; C-14: k ≥ 3 | Table: at_edge, closes | "after a forward a→c is current", "forward at three places; .."
--   backward, "edge into e open"; C-14: k ≥ 3 | Table: at_edge, closes | "after a backward c→b is current", "backward at three places; .."
--   border, "the next open edge along the loop is current" | Ring: onward; Table: at_edge, marking | "neither place leaves"
--   C-14: a place with both edges marked leaves its loop | Ring: reached, shown | "both places leave: a link joins .."
--   split i, "2 ≤ i ≤ k − 3"; C-14: 1 to k − 2, but not .. | Table: beside_next, beside_last | "splits beyond an open edge, and .."
--   close, "k = 3, all edges open" | Table: closes | "a loop of three with a marked edge does not close"
--   union p j, "j below its places" | Table: at_edge, the clause Union | "waiting loops and union numbers out of range"
--   start, "the next three unused numbers" | Table: at_rest | "M1"
--   "A split leaves one loop from f to c, .., and one from c to e" | Table: at_edge, the clause Split | "split of equal halves, .."
--   "The loop with fewer places goes on; if equal, the first" | Table: shorter_first | "split of equal halves, next to a marked edge"
--   "The other waits, as the latest" | Table: in_order | "the second loop of a split goes on, the first waits .."
--   "Each has its closing edge as current" | Table: at_edge, the clause Split | "the second loop of a split goes on, .."
--   "Otherwise a place stays" | Places: places_at, rings_after; View: place_rings | rings
--   "A union makes one loop: a→c, round the waiting loop .." | Table: at_edge, the clause Union | "after a union c→b is current"
--   "ends as a rim", "the latest waiting loop goes on" | Table: marking, Marking | "a rim ends with two places"
--   "When a loop ends its places are freed" | Places: places_at, alive; Build: Leaves, the line left | rings
--   "Edge rule: a, b and c differ, and an edge a→c or c→b .." | Table: edge_rule, side_rule | "c is a; c is b", "M10"
--   ".. is new, its opposite unused too" | Count: unjoined | "refused by opposites only: .."
--
-- How the packer chooses
--   "Start with the lowest-numbered triangle not yet built" | Choice: choose_in, Packing | "M5"
--   "find the triangle that has b→a" | Across: across | "M2"
--   C-11: "tells, besides c, the number of the input triangle and the corner" | Across: in_triangle, across | "a first edge" to "none"
--   C-11: "Everything that looks across an edge takes this answer" | Choice: choose_at, turn_in, turn_out | (the code of corners::across)
--   C-12: "shall work from the last triangle to the first" | Across: across | "the last of two" to "a number of no triangle"
--   C-12: "the last with that edge, none exactly if none has it" | Searched in crates/mesh_theory/specs/Fans/Search | (`searched`)
--   C-12: "a list that passes 1 to 4" | PassesFour in crates/mesh_theory/specs/Fans/Passing | (`four_passed`)
--   "If there is none, border. If its c has no new .., new" | Choice: choose_at, has | "M3"
--   "The right one is that from whose open edges .." | Right: RightPlace | right_place
--   what finds it | Choice: choose_place, turn_in, turn_out | "split to c that has an earlier place in the loop: .."
--   "close (k = 3), forward, backward or split; .. union" | Choice: operation_for | "split to c that has a place in a waiting loop too"
--
-- The pack
--   "a one-byte tag, a two-byte length, contents, high .." | Fields: field_of, word, take_field | "M1"
--   "Tag 01, length 8: V, T, most places, most live loops" | Fields: counts_of, pack_bytes, counts_from | "M1"
--   "both peaks are taken after each operation" | Machine: after_build, after_mark; Choice: packing_after | "the peak of places is .."
--   "Tag 02: the operations. Nothing follows" | Fields: last_field | "a field after tag 02"
--   C-13: "A new field, tag 03, follows tag 02" | Later: positions_tag, later_part | "positions: M1", "12: field 03 before 02"
--   C-13: "for every new vertex number three signed 16-bit .." | Grid: position_bytes, positions_from | "positions: M1", signed_ends
--   C-13: ".. grid positions, each from −2,048 to 2,047" | Grid: in_grid, all_in_grid | "positions: the smallest and the largest"
--   C-13: "It is optional"; "Packs without the field read as before" | Later: later_part; UnpackWhole: field_fits | "no field 03, a rim"
--   C-13: "the old pack followed by the positions, lent by old vertex, .." | PackWhole: whole_pack_of, with_positions | "positions: M2"
--   C-13: ".. in new numbering" | PackWhole: positions_of | "positions: two pieces, vertices in the order 3 5 4 2 0 1"
--   C-15: "A field tag 04, .., may follow the others" | Note: note_tag, take_note, past_others | "field 04 after 02", "field 04 after 03"
--   C-15: ".. 1 to 64 bytes" | Limits: max_note; Note: note_fits | "note: one byte, no positions", "note: 64 bytes", "field 04 of 64 bytes"
--   C-15: ".. if packing is given a note" | PackWhole: Extras, whole_pack_of; Note: with_note | "note: positions and a note, .."
--   C-15: "A pack is then unique for .. its note" | NoTwoPacksOfTheThree in crates/notes_theory/specs/Claims | "note: 64 bytes"
--   "A code has three bits, i and j ten, p seven" | Code: code, operation_bits | "M1", "union 2 of two waiting loops; .."
--   "high bit first", "the last byte is filled with zero .." | Bits: bits, bytes_of | "M1"
--   the same, read | Code: read_operation; Bits: read_number | "M1 to M5"
--   "The operation reader keeps the bytes it was lent .." | OperationReader in crates/wire/src/reader.rt | (its contract)
--   "The model is complete when .." | Machine: complete | "T triangles are built and a loop is live: not complete"
--
-- Why a call is turned down
--   1, "empty, over 24,576 numbers, or not a multiple of three" | Check: size_fits | "M9, any V", "1: four numbers", "1: 24,579 numbers"
--   2, "V is below 3 or above 4,096" | Limits: vertex_range | "2: V 2", "2: V 4,097"
--   3, "A number is V or more" | Check: all_below | "3: a number is V"
--   4, "A triangle has a vertex twice" | Triangle: distinct; Check: all_distinct | "4: first and second corner"
--   5, "A directed edge occurs twice" | Check: none_twice | "M7"
--   6, "A vertex is in no triangle" | Check: all_used | "M6"
--   7, "A vertex has more than one fan" | Fan: one_fan_each, one_run | "M8"
--   1 to 7, in that order | Check: check, check_triangles | "1 before 2" to "6 before 7"
--   8, "The numbering room has fewer than V entries or .." | Pack: pack_long_enough | "8: numbering", "8: places"
--   9, 10, "would exceed 1,024 places", "100 live loops" | Choice: limited | "9", "10", "9 before 10 at one operation"
--   11, "The pack room is shorter than the pack" | Pack: pack_stored | "11"
--   C-11: 22, "that room has fewer than T entries, straight after 8" | Pack: order_long_enough, pack_checked | "22: no order entry"
--   1 to 8, 22, 9 to 11 | Pack: pack, pack_within | "7 before 8", "8 before 22: numbering", "22 before 9" to "10 before 11"
--   C-13: 23 in packing, "after 22" | PackWhole: positions_fit, given_fit | "positions: 23: none" to "positions: 23: 2048 at z of vertex 2"
--   C-13: 1 to 8, 22, 23, 9 to 11 | PackWhole: pack_whole_within, whole_checked | "positions: 5 before 23" to "positions: 11: .."
--   C-15: 25 in packing, "the note's length is 0 or over 64" | Note: note_fits | "note: 25: 0 bytes" to "note: 25: 257 bytes"
--   C-15: 1 to 8, 22, 23, 25 ("after 23"), 9 to 11 | PackWhole: whole_checked | "note: 5 before 25" to "note: 25 before 11"
--   12, "not the two fields above, whole and in order" | Fields: fields_of, first_field | "12: nothing, wrong tag, .."
--   C-13: "12 counts it .. in its place, whole, at most once" | Later: parts_of, last_part | "12: field 03 twice" to "12: 02 again after
--   .."
--   C-15: 12 of every other arrangement of its field | Note: last_note, past | "12: field 04 twice" to "12 before 13: field 04 twice"
--   13, "V is not 3 to 4,096, T not 1 to 8,192, .." | Limits: in_range | "13: V 2, V 4097, .."
--   14, "fewer than 3T entries or .. 1,024 records" | Machine: long_enough | "14: triangles", "14: places"
--   15, "end before the model is complete, or break off" | Unpack: run_all; Machine: complete | "15: no operations; .."
--   16, "not allowed by the table" | Table: effect; Machine: done | "16: split in a loop of three; .."
--   17, "would exceed the stated V, T, places or loops" | Machine: within | "17: a vertex too many"
--   18, "The edge rule fails" | Table: edge_rule | "18: M10"
--   19, "differ from those stated, a whole byte .., a fill bit" | Machine: as_stated; Unpack: rest_fits | "19: V 4, places 4, loops 2, .."
--   20, "A vertex has more than one fan" | Fan: one_fan_each; Unpack: unpack_ended | "20: the shortest"
--   12 to 20 | Unpack: unpack, unpack_fields, unpack_run | "12 before 13" to "19 before 20: a vertex too many"
--   C-13: 23, "the field's length is not 6V or a position is .." | UnpackWhole: field_fits | "23: 0 bytes" to "23: position 8 is -32768"
--   C-13: 24, "the volume call meets no positions or .. a rim" | Reading: measured | "24: a rim", "no field 03, no rim"
--   C-13: 12 to 20, 23 ("after 20"), 24 ("last") | UnpackWhole: unpack_whole; Reading: volume | "13 before 23" to "23 before 24: a rim"
--   C-15: 25, "the note's length is 0 or over 64" | Note: note_fits | "25: field 04 of 0 bytes after 03" to "25: field 04 of 257 bytes"
--   C-15: 12 to 20, 23, 25 ("after 23"), 24 | Reading: unpack_noted, volume | "13 before 25" to "25 before 24: a rim"
--   C-16: 26, "a stated peak is over 200 places or 12 loops" | Furnace: peaks_fit | "melt: 26: 201 places and .." to "melt: 12 loops .."
--   C-16: "straight after 13" | Furnace: melt_fields | "melt: 13 before 26: 1,025 places" to "melt: 26 before 19: 13 loops"
--   C-16: "Its other refusals are 12, 13, 15 to 17, 19 and 23 to 25" | Furnace: melt | "melt: 12: nothing" to "melt: 24: two rims"
--   C-16: ".. under the same conditions" | ItsRefusalsAreTheServices in crates/furnace_theory/specs/Claims | "melt: 12: nothing", ..
--   C-16: 12, 13, 26, 15 to 17, 19, 23, 25, 24 | Furnace: melt_fields, melt_ended | "melt: 12 before 13 and 26" to "melt: 19 before 24: .."
--   C-16: "It tests neither the edge rule" | Furnace: done_freely | "melt: beyond 18: c→b is used" to "melt: beyond 18: 24: a rim"
--   C-16: ".. nor the fans" | Furnace: melt_ended | "melt: beyond 20: 24: a rim" to "melt: beyond 20: 24: no positions"
--   21, "lent rooms shorter than 14 asks, or a state whose .." | Sound: sound, counts_fit, sums_fit, links_fit, triangles_fit | states
--   "The first operation at fault decides between 9 and 10" | Pack: choose_all | "10 at an operation before that of 9"
--   ".. and among 15 to 18; .. the lower number" | Unpack: run_all; Machine: done | "16 before 17: forward in a loop of three"
--   "A building call tests 21, then 16 to 18" | Build: operates; Machine: operation | calls
--   "Its beginning tests 13 and 14" | Build: begins; Machine: beginning | "13 before 14 at a beginning; .."
--   "its finish 21, then 15, .. 19's .., then 20" | Build: finishes; Machine: finishing | calls, "15 before 19", "refused by 20"
--   "A refusal returns its number only" | Answer: Answer | all rows
--   "After 1 to 8 and 12 to 14 no room has changed" | Pack: turned_down; Unpack: turned_down | all rows of packing and unpacking
--   C-11: after 22 "no room has changed" | Pack: turned_down | "22: an order entry for each triangle but one"
--   C-11: "past 8" means past every check before 9 | Pack: turned_down, pack_refused, pack_done | "22: no order entry", "9"
--   C-13: 23 in packing, "and no room has changed" | PackWhole: whole_checked | "positions: 23: none" to "positions: 23 before 11"
--   C-15: 25, "with what 23 leaves", in packing | PackWhole: whole_checked | "note: 25: 0 bytes" to "note: 25 before 11"
--   "After 9 to 11 .. zero"; C-11: the order's first T entries | Pack: pack_refused; Buffer: zeroed | "9", "11"
--   "after 15 to 20 .., the first 3T triangle entries" | Unpack: unpack_refused | "18: M10"
--   C-13: "Both leave in unpacking what 20 leaves" | UnpackWhole: left_by20 | "23: position 0 is -2049", "24: a rim"
--   C-15: 25, "with what 23 leaves", in unpacking | UnpackWhole: then_tested, left_by20 | "25: field 04 of 65 bytes", "25 before 24: a rim"
--   "leaves the first 1,024 place records zero, .." | Buffer: cleared, free_place | all rows of packing and unpacking
--   "A refused building call changes nothing" | Build: BegunBy, OperatedBy | (the contracts of crates/service)
--   "An accepted beginning leaves .." | Build: begun_buffers, begun_builder | calls
--   "Acceptance writes the results and nothing beyond them" | Buffer: over; Pack: pack_done; Unpack: unpack_done | "buffers just long
--   enough"
--   .. of a building operation | Build: Leaves; Sound: sound_else | rings, (the contract of service::operation)
--   "For each old vertex .. the new number" | Pack: new_numbers, index_of | "M5"
--   C-11: "for each built triangle, in building order, its input number" | Order: next_number, order_by | "two pieces listed in turn: .."
--   C-11: "each is there once" | EachOnce in crates/roundtrip/specs/Claims | (`each_triangle_once`)
--   "packing answers the pack's length, unpacking V, T .." | Answer: packed_answer, unpacked_answer | "M1" to "M5"
--   C-13: "The volume call unpacks and gives besides six times .." | Reading: VolumeResult, six_of | "volume of a torus"
--   C-13: "the exact whole-number sum over .. of the determinant .." | Volume: determinant, six_volumes | "volume of M2, different numbers"
--   C-13: "A model turned inside out .." | TheCallInsideOut in crates/notes_theory/specs/Claims | "volume of M2, the same .."
--   C-13: "Moving one of a vertex's three positions .." | TheCallMovedByAtMost in crates/notes_theory/specs/Claims | (the theorem)
--   C-15: "The bench reader hands back the note as the very bytes in the pack" | Reading: bench, handed_from | "field 04 that has fields
--   .."
--   C-15: ".. an empty part if there is none or unpacking refuses .." | Reading: handed_back | "no field 03, a rim", "25: field 04 of .."
--   C-15: "Besides, it answers and writes as unpacking, refusals too" | Reading: bench | "field 04 after 02" to "25 before 24: a rim"
--   C-15: "must take no notice", "Every other call .." | NotesMakeNoDifference in crates/notes_theory/specs/Claims | "field 04, .."
--   C-16: "no triangle list, and adds up the volume while it builds" | Furnace: melted | "melt: M2, different numbers", "melt: two pieces"
--   C-16: "The pack stays in the port's own memory and is lent to it" | Furnace: melt, of the bytes alone | (the contract of furnace_read)
--   C-16: "its volume is the service's" | AcceptedPacksMelt in crates/furnace_theory/specs/Claims | "melt: M2, .." to "melt: a torus, .."
--   "a building operation the triangle .. also written .." | Build: with_triangle, Leaves | calls
--   "It changes nothing; a complete model holds no place" | Machine: complete; Finishing in crates/promises/specs/Promises | "M1" to "M5"
--   "The finish gives edges, rims, unions and the Euler .." | Machine: totals | "M1" to "M5", "torus of seven vertices"
--
-- The builder's book
--   "a single claim about the whole list of calls" | BuildersBook in crates/promises/specs | (`building_calls_keep_the_book`)
--   "as the call before left them", "the state last returned" | Calls: last_state | last_states
--   "The book is fed each call's arguments .." | Book: Call, call; Buffer: Lengths | all rows of calls
--   "It holds the stated counts, the triangles built .." | Machine: Machine; Book: Book | all rows of calls
--   "if it passes, the book is emptied" | Machine: empty; Book: entered, empty_book | "13 before 14 at a beginning; .."
--   "tested by 16 to 18 on the rings and triangles" | Machine: operation, done | "17 before 18: M10 with too few places"
--   "Its triangle is written down, at border the edge a→b" | Machine: after_build; Book: entered | all rows of calls
--   "a start, a union and a loop that ends as a rim count .." | Table: Added, Marking | "M1", "smallest union found"
--   "A finish .. reads its answer off the book" | Book: recounted; Machine: finishing | "M1" to "M5"
--   "A call that fails .. leaves the book as it is" | Book: entered | "13 before 14 at a beginning; .."
--   "21 does not arise" | Book: call, which does not ask for it | (`passes` of KeepsTheBook, crates/promises/specs/BuildersBook)
--   "The answers compared are acceptance or the number, .." | Book: answer_of, answer; Calls: answers | all rows of calls
--   "Vertices are the different numbers in the .. triangles" | Count: different | "M1" to "M5"
--   "edges the pairs of vertices that one of them joins, .." | Count: pairs | "M1" to "M5"
--   "Live loops, rims, starts and unions are the book's" | Machine: Machine | all rows of calls
--   "The builder's own counts equal them all" | View: view; Build: viewed | states
--   "those recorded as open at its live loops' places .." | View: open_at | states
--   "the model's are taken from the book's triangles and .." | Book: model_open | open_edges_lem
--   "the last accepted beginning's counts and the operations" | Calls: log_all | logs
--
-- Models on the bench, M1 to M10: `bench`.
pub mod Limits
pub mod Triangle
pub mod Count
pub mod Fan
pub mod Across
pub mod Check
pub mod Ring
pub mod Table
pub mod Places
pub mod Buffer
pub mod Machine
pub mod Answer
pub mod Refusal
pub mod Checked
pub mod Packed
pub mod Unpacked
pub mod Measured
pub mod Melted
pub mod Begun
pub mod Operated
pub mod Finished
pub mod Benched
pub mod Book
pub mod Calls
pub mod Bits
pub mod Code
pub mod Fields
pub mod Grid
pub mod Later
pub mod Note
pub mod Volume
pub mod Choice
pub mod Right
pub mod Order
pub mod Pack
pub mod Unpack
pub mod PackWhole
pub mod UnpackWhole
pub mod Reading
pub mod Furnace
pub mod View
pub mod Sound
pub mod Build
