-- The log of a list of calls: the last accepted beginning and the operations accepted since, the latest first. A new builder gets
-- these. The second program keeps no log, so what is expected here is written by hand, from the rule's sentence.
-- Assumes nothing.
use Prim.Native.Nat.{ℕ}
use mathlib.Core.Bool.{Bool, ◌&&◌}
use mathlib.Core.List.{List, [], ◌∷◌, ◌++◌}
use lib.Dec.{T}
use Rattle.rules.specs.declared.Operation.TheVariants.{New, Border, Split, Start}
use Rattle.rules.specs.Triangle.{corners, edges_of}
use Rattle.rules.specs.Count.{same, hit, occurs, count, different, pairs}
use Rattle.rules.specs.Fan.{about, leaving, entering, turn_on, turn_back, one_run, one_fan_each}
use Rattle.rules.specs.Ring.{all_open, vertex_at, last_open, last_vertex, front, onward, reached, places, loop_at, without}
use Rattle.rules.specs.Table.{allowed, in_order, at_edge, at_rest, effect}
use Rattle.rules.specs.Machine.{test, done, beginning, finishing}
use Rattle.rules.specs.Bits.{bits}
use Rattle.rules.specs.Code.{operation_bits}
use Rattle.rules.specs.Fields.{counts_of}
use Rattle.rules.specs.Book.{Call, begin, operate, finish}
use Rattle.rules.specs.Calls.{log_all}
use Rattle.rules.proofs.Rows.{equal, counts, lengths, no_book}

-- calls as numbers
unfoldable pub written_calls : List Call → List ℕ
written_calls [] = []
written_calls (begin s ∷ cs) = 8 ∷ counts_of s ++ written_calls cs
written_calls (operate o ∷ cs) = 9 ∷ operation_bits o ++ written_calls cs
written_calls (finish ∷ cs) = 10 ∷ written_calls cs

abbrev pub same_log : List Call → List Call → Bool
same_log cs l = equal (written_calls (log_all (lengths 27 1024) no_book [] cs)) (written_calls l)

-- a model with calls that are refused by 16, 15 and 13 among those that are accepted
abbrev pub first : List Call
first =
    begin (counts 9 9 9 9) ∷ operate Start ∷ operate Start ∷ operate New ∷ finish ∷ begin (counts 2 1 3 1) ∷ operate Border
    ∷ operate (Split 7) ∷ []

-- a whole model after it, finished, and a start that is refused by 17
abbrev pub second : List Call
second =
    begin (counts 3 1 3 1) ∷ operate Start ∷ operate Border ∷ operate Border ∷ operate Border ∷ finish ∷ operate Start ∷ []

unfoldable pub logs_right : Bool
logs_right =
    same_log first (operate Border ∷ operate New ∷ operate Start ∷ begin (counts 9 9 9 9) ∷ [])
    && same_log (first ++ second) (operate Border ∷ operate Border ∷ operate Border ∷ operate Start ∷ begin (counts 3 1 3 1) ∷ [])
    && same_log (second ++ first) (operate Border ∷ operate New ∷ operate Start ∷ begin (counts 9 9 9 9) ∷ [])

pub logs : T logs_right
unfolding corners edges_of same hit occurs count different pairs about leaving entering turn_on turn_back one_run one_fan_each all_open
    vertex_at
    last_open last_vertex front onward reached places loop_at without allowed in_order at_edge at_rest effect test done beginning finishing
    bits operation_bits log_all equal written_calls logs_right
logs = tt
