-- The two ways to turn about a vertex, back and on: what each of them looks across, and where it ends.
-- Assumes nothing.
use Rattle.std.specs.Prelude.{ℕ, Option, List}
use Rattle.cutborder.specs.declared.Loops.{Loops}
use Rattle.pack_theory.specs.Choosing.Places.{enter_seat, leave_seat}
use Rattle.pack_theory.specs.Choosing.Seat.{Seat}
use Rattle.pack_theory.specs.Choosing.Turning.{EndsIn, EndsOut}
use Rattle.chooser.specs.declared.turn.Way.{Way}
use Rattle.chooser.specs.declared.turn.Way.TheVariants.{Back, On}

-- the edge between c and y: back it comes into c, on it leaves c
abbrev pub start_of : Way → ℕ → ℕ → ℕ
start_of Back c y = y
start_of On c y = c

abbrev pub end_of : Way → ℕ → ℕ → ℕ
end_of Back c y = c
end_of On c y = y

-- where turning ends that begins at the edge between c and x
abbrev pub Ends : Way → List ℕ → List ℕ → ℕ → ℕ → Option ℕ → Type 0
Ends Back xs flags c x r = EndsIn xs flags c x r
Ends On xs flags c x r = EndsOut xs flags c x r

-- where the open edge starts at which turning ends that begins at the triangle b a c
abbrev pub seat_on : Way → List ℕ → List ℕ → List ℕ → Loops → ℕ → ℕ → ℕ → Seat
seat_on Back xs flags m l a b c = enter_seat xs flags m l b c
seat_on On xs flags m l a b c = leave_seat xs flags m l a c

-- the triangle's edge at c from which it turns
abbrev pub first_of : Way → ℕ → ℕ → ℕ
first_of Back a b = b
first_of On a b = a
