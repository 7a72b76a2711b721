-- Which lists are bytes, which operations have indices that fit their widths, and how many bits an operation takes.
-- Assumes nothing.
use Rattle.std.specs.Prelude.{ℕ, ◌<◌, ◌^◌, List, [], ◌∷◌}
use Rattle.rules.specs.declared.Operation.{Operation}
use Rattle.rules.specs.declared.Operation.TheVariants.{New, Forward, Backward, Border, Split, Close, Union, Start}
use Rattle.rules.specs.Code.{place_bits, loop_bits}

-- every number of a list is below n
abbrev pub Below : ℕ → List ℕ → Type 0
Below n [] = Unit {0}
Below n (x ∷ xs) = (x < n) × Below n xs

abbrev pub Bytes : List ℕ → Type 0
Bytes bs = Below 256 bs

-- i and j fit ten bits, p seven
abbrev pub Fits : Operation → Type 0
Fits New = Unit {0}
Fits Forward = Unit {0}
Fits Backward = Unit {0}
Fits Border = Unit {0}
Fits (Split i) = i < 2 ^ place_bits
Fits Close = Unit {0}
Fits (Union p j) = (p < 2 ^ loop_bits) × (j < 2 ^ place_bits)
Fits Start = Unit {0}

-- how many bits an operation takes
abbrev pub width_of : Operation → ℕ
width_of New = 3
width_of Forward = 3
width_of Backward = 3
width_of Border = 3
width_of (Split i) = 13
width_of Close = 3
width_of (Union p j) = 20
width_of Start = 3
