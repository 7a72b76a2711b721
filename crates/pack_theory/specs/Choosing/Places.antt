-- The two places that the packer's choice looks for.
-- Assumes nothing.
use Rattle.std.specs.Prelude.{ℕ, List, length}
use Rattle.rules.specs.Limits.{max_places}
use Rattle.rules.specs.Choice.{spot_of, turn_in, turn_out}
use Rattle.cutborder.specs.declared.Loops.{Loops}
use Rattle.border_theory.specs.Memory.Stands.{loops_in}
use Rattle.pack_theory.specs.Choosing.Seat.{Seat}
use Rattle.pack_theory.specs.Choosing.Choosable.{unbuilt_of}
use Rattle.pack_theory.specs.Choosing.Seeking.{seat_of}

-- where the open edge into c starts at which turning back from the triangle b a c ends
unfoldable pub enter_seat : List ℕ → List ℕ → List ℕ → Loops → ℕ → ℕ → Seat
enter_seat xs flags m l b c =
    let ts = unbuilt_of flags xs in
    seat_of (loops_in max_places l m) (spot_of 0 (turn_in (length ts) c b ts) c (loops_in max_places l m))

-- where the open edge from c starts at which turning on from it ends
unfoldable pub leave_seat : List ℕ → List ℕ → List ℕ → Loops → ℕ → ℕ → Seat
leave_seat xs flags m l a c =
    let ts = unbuilt_of flags xs in
    seat_of (loops_in max_places l m) (spot_of 0 c (turn_out (length ts) c a ts) (loops_in max_places l m))
