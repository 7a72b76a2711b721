-- The table once more, for the places themselves: a loop is here a ring of places, each by its record's number. A place stays where it
-- is unless it leaves; what is free is which records the new places take.
-- Assumes nothing.
use Rattle.std.specs.Prelude.{ℕ, ◌-◌, List, [], ◌∷◌, ◌++◌, take, drop, get_or}
use Rattle.rules.specs.declared.Operation.{Operation}
use Rattle.rules.specs.declared.Operation.TheVariants.{New, Forward, Backward, Border, Split, Close, Union, Start}
use Rattle.rules.specs.Ring.{Node, opened, marked, Ring, vertex, last_vertex, front, onward, shown, loop_at, without}
use Rattle.rules.specs.Table.{shorter_first}

-- the current loop goes on, unless it has ended
abbrev pub alive : Ring → List Ring → List Ring
alive [] ws = ws
alive (p ∷ ps) ws = (p ∷ ps) ∷ ws

-- The current edge starts at place e, ps are the places after it, ws wait, q is the place that is new. A split gives c's place, i after f,
-- a second one, which comes before f; so does a union.
unfoldable pub places_at : Operation → ℕ → ℕ → List Node → List Ring → List Ring
places_at New q e ps ws = (opened q ∷ (ps ++ (opened e ∷ []))) ∷ ws
places_at Forward q e ps ws = (opened e ∷ drop 1 ps) ∷ ws
places_at Backward q e ps ws = (opened (last_vertex ps) ∷ front ps) ∷ ws
places_at Border q e ps ws = alive (shown (onward [] (ps ++ (marked e ∷ [])))) ws
places_at (Split i) q e ps ws = shorter_first (opened q ∷ take i ps) (opened e ∷ drop i ps) ws
places_at Close q e ps ws = ws
places_at (Union n j) q e ps ws =
    let w = loop_at ws (n - 1) in
    (opened q ∷ (ps ++ (opened e ∷ (drop j w ++ take j w)))) ∷ without ws (n - 1)
places_at Start q e ps ws = []

-- the loops after an operation that is accepted; qs are the records that its new places take, in the order in which it numbers them
unfoldable pub rings_after : Operation → List ℕ → List Ring → List Ring
rings_after o qs [] = (opened (get_or qs 0 0) ∷ (opened (get_or qs 1 0) ∷ (opened (get_or qs 2 0) ∷ []))) ∷ []
rings_after o qs ([] ∷ ws) = []
rings_after o qs ((e ∷ ps) ∷ ws) = places_at o (get_or qs 0 0) (vertex e) ps ws
