-- The vertices that an operation meets: those that it gives a second place in the loops.
-- Assumes nothing.
use Rattle.std.specs.Prelude.{ℕ, Bool, true, false, ◌&&◌, eqb}
use Rattle.rules.specs.declared.Triangle.{Triangle}
use Rattle.rules.specs.declared.Operation.{Operation}
use Rattle.rules.specs.declared.Operation.TheVariants.{New, Forward, Backward, Border, Split, Close, Union, Start}

-- split and union meet the third corner of their triangle
abbrev pub is_meeting : Operation → Bool
is_meeting New = false
is_meeting Forward = false
is_meeting Backward = false
is_meeting Border = false
is_meeting (Split i) = true
is_meeting Close = false
is_meeting (Union n j) = true
is_meeting Start = false

-- the operation, which builds the triangle t, meets v
abbrev pub met_by : Operation → Triangle → ℕ → Bool
met_by o t v = is_meeting o && eqb v t.r
