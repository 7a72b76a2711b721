-- The test of 21: whether a building call can go on with the state and the buffers that it is lent.
-- Assumes nothing.
use Rattle.std.specs.Prelude.{ℕ, zero, suc, ◌+◌, ◌*◌, Bool, true, ◌&&◌, ◌||◌, List, [], ◌∷◌, get_or, take, eqb, ltb, leb}
use Rattle.rules.specs.declared.Place.{Place}
use Rattle.rules.specs.declared.Builder.{Builder}
use Rattle.rules.specs.Limits.{max_places, in_range}
use Rattle.rules.specs.Count.{occurs}
use Rattle.rules.specs.Check.{all_below}
use Rattle.rules.specs.Machine.{long_enough}
use Rattle.rules.specs.Buffer.{Buffers, lengths}
use Rattle.rules.specs.View.{place_at, followed, places_of}

-- how many places the first n loops have by the state
unfoldable pub sizes_of : Builder → ℕ → ℕ
sizes_of b zero = 0
sizes_of b (suc n) = get_or b.sizes n 0 + sizes_of b n

-- the counts exceed neither those stated nor 13's ranges
abbrev pub counts_fit : Builder → Bool
counts_fit b =
    in_range b.stated && leb b.used b.stated.vertices && leb b.built b.stated.triangles
    && leb b.live b.stated.loops && leb (sizes_of b b.live) b.stated.places
    && leb b.peaks.loops b.stated.loops && leb b.peaks.places b.stated.places

-- edges, starts, unions and rims do not exceed 3T
abbrev pub sums_fit : Builder → Bool
sums_fit b =
    let most = 3 * b.stated.triangles in
    leb b.edges most && leb b.starts most && leb b.unions most && leb b.rims most

-- no place is there twice
unfoldable pub apart : List ℕ → Bool
apart [] = true
apart (i ∷ is) = eqb (occurs i is) 0 && apart is

-- at each place of the list the link back from the next place agrees, the vertex is below n, and of the next place's two edges, the one
-- that comes from here and its own, one is open
abbrev pub place_fits : List Place → ℕ → ℕ → Bool
place_fits ps n i =
    let here = place_at ps i in
    let next = place_at ps here.after in
    eqb next.before i && ltb here.vertex n && (here.«open» || next.«open»)

unfoldable pub places_fit : List Place → ℕ → List ℕ → Bool
places_fit ps n [] = true
places_fit ps n (i ∷ is) = place_fits ps n i && places_fit ps n is

-- a loop has a place, returns after its stated places, and its current edge is open
abbrev pub loop_fits : Builder → List Place → ℕ → Bool
loop_fits b ps n =
    let e = get_or b.current n 0 in
    let k = get_or b.sizes n 0 in
    leb 1 k && eqb (followed ps k e) e && (place_at ps e).«open»

unfoldable pub loops_fit : Builder → List Place → ℕ → Bool
loops_fit b ps zero = true
loops_fit b ps (suc n) = loop_fits b ps n && loops_fit b ps n

unfoldable pub links_fit : Builder → List Place → Bool
links_fit b ps =
    let is = places_of b ps b.live in
    all_below max_places is && apart is && places_fit ps b.used is && loops_fit b ps b.live

-- the numbers of the triangles built so far are below the count so far
abbrev pub triangles_fit : Builder → List ℕ → Bool
triangles_fit b xs = all_below b.used (take (3 * b.built) xs)

-- what is asked but for edges, starts, unions and rims
unfoldable pub sound_else : Builder → Buffers → Bool
sound_else b r = long_enough (lengths r) b.stated && counts_fit b && links_fit b r.places && triangles_fit b r.triangles

-- a state that passes
unfoldable pub sound : Builder → Buffers → Bool
sound b r = long_enough (lengths r) b.stated && counts_fit b && sums_fit b && links_fit b r.places && triangles_fit b r.triangles
