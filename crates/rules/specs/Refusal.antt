-- Each refusal's number.
-- Assumes nothing.
use Rattle.std.specs.Prelude.{ℕ}
use Rattle.rules.specs.declared.refusal.Refusal.{Refusal}
use Rattle.rules.specs.declared.refusal.Refusal.TheVariants as R

abbrev pub number_of : Refusal → ℕ
number_of R.ListLength = 1
number_of R.VertexCount = 2
number_of R.NumberTooLarge = 3
number_of R.VertexTwice = 4
number_of R.EdgeTwice = 5
number_of R.VertexUnused = 6
number_of R.FansInList = 7
number_of R.PackingRoom = 8
number_of R.TooManyPlaces = 9
number_of R.TooManyLoops = 10
number_of R.PackTooLong = 11
number_of R.NotFields = 12
number_of R.CountOutOfRange = 13
number_of R.UnpackingRoom = 14
number_of R.EndsEarly = 15
number_of R.NotAllowed = 16
number_of R.ExceedsStated = 17
number_of R.EdgeRule = 18
number_of R.DiffersFromStated = 19
number_of R.FansInModel = 20
number_of R.UnsoundState = 21
number_of R.OrderRoom = 22
number_of R.UnfitPositions = 23
number_of R.NoVolume = 24
number_of R.UnfitNote = 25
number_of R.TooLargeForFurnace = 26
