-- What a reading promises of its buffer.
-- Assumes nothing.
use Rattle.std.specs.Prelude.{ℕ, ◌≤◌, List, length, Option, None, Some, Result, Ok, Err}
use Rattle.std.specs.declared.io.Error.{Error}
use Rattle.std.specs.declared.env.FillError.{FillError}
use Rattle.std.specs.declared.fs.File.{File}
use Rattle.text.specs.declared.numbers.TextError.{TextError}

-- A buffer that was filled up to some position is filled up to there or further, or a read failed.
abbrev pub Fills : Result ℕ Error → ℕ → List ℕ → Type 0
Fills (Ok n) from xs = (from ≤ n) × (n ≤ length xs)
Fills (Err why) from xs = Unit

-- A buffer has all the numbers that were told.
abbrev pub Holds : Result ℕ TextError → List ℕ → Type 0
Holds (Ok n) xs = n ≤ length xs
Holds (Err why) xs = Unit

-- A buffer has the whole name of a file.
abbrev pub Names : Result (Option ℕ) FillError → List ℕ → Type 0
Names (Ok (Some n)) xs = n ≤ length xs
Names (Ok None) xs = Unit
Names (Err why) xs = Unit

abbrev pub Opens : Option (File × ℕ) → List ℕ → Type 0
Opens (Some (file, n)) xs = n ≤ length xs
Opens None xs = Unit
