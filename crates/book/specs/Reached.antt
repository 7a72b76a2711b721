-- Where a call leads.
-- Assumes nothing.
use Rattle.rules.specs.Machine.{Machine, Step, refused, begun, built, declared, finished}

-- the machine after a call
abbrev pub reached : Machine → Step → Machine
reached m (refused n) = m
reached m (begun m') = m'
reached m (built t m') = m'
reached m (declared d m') = m'
reached m (finished x) = m
