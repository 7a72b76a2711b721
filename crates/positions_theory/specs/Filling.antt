-- Words of two bytes, written one after the other, each where its number says.
-- Assumes nothing.
use Rattle.std.specs.Prelude.{ℕ, ◌+◌, ◌*◌, ◌/◌, ◌%◌, ◌≤◌, ◌<◌, List, ◌++◌, ◌⊎◌, ◌≡◌, ℤ, pos, length, take, drop, get_or, set}
use Rattle.rules.specs.Fields.{field_of}
use Rattle.rules.specs.Grid.{unsigned_of, position_bytes}
use Rattle.rules.specs.Later.{positions_tag}
use Rattle.roundtrip.specs.Claims.{OneToOne}

-- a word written at byte i, the high byte first
abbrev pub set_word : List ℕ → ℕ → ℕ → List ℕ
set_word bs i w = set (set bs i (w / 256 % 256)) (i + 1) (w % 256)

-- the first x of n words are written into bs₀, from the byte `from` on: word y, which is w y, as number f y
pub record Filled (bs₀ : List ℕ) (from n : ℕ) (f w : ℕ → ℕ) (x : ℕ) (bs : List ℕ) : Type 0 where
  pub long : length bs ≡ length bs₀
  pub highs : (y : ℕ) → y < x → get_or bs (from + 2 * f y) 0 ≡ w y / 256 % 256
  pub lows : (y : ℕ) → y < x → get_or bs (from + 2 * f y + 1) 0 ≡ w y % 256
  pub others : (i : ℕ) → (i < from) ⊎ (from + 2 * n ≤ i) → get_or bs i 0 ≡ get_or bs₀ i 0

-- position i of old vertex i / 3 has this place among the positions in new numbering ns, and this word
abbrev pub place_of : List ℕ → ℕ → ℕ
place_of ns i = 3 * get_or ns (i / 3) 0 + i % 3

abbrev pub word_of : List ℤ → ℕ → ℕ
word_of zs i = unsigned_of (get_or zs i (pos 0))

-- there is room for the words, each has a place of its own, and none is left over
pub record Puttable (bs : List ℕ) (from : ℕ) (zs : List ℤ) (ns : List ℕ) : Type 0 where
  pub room : from + 2 * length zs ≤ length bs
  pub enough : length zs ≤ 3 * length ns
  pub places : OneToOne (length zs) (place_of ns)

-- all are written
abbrev pub Put : List ℕ → ℕ → List ℤ → List ℕ → List ℕ → Type 0
Put bs from zs ns bs' = Filled bs from (length zs) (place_of ns) (word_of zs) (length zs) bs'

-- ps has the positions zs in new numbering
pub record Renumbered (zs : List ℤ) (ns : List ℕ) (ps : List ℤ) : Type 0 where
  pub same : length ps ≡ length zs
  pub moved : (y : ℕ) → y < length zs → get_or ps (place_of ns y) (pos 0) ≡ get_or zs y (pos 0)

-- there is room for the field from the byte n on, and it is written there
pub record FieldRoom (bs : List ℕ) (n : ℕ) (zs : List ℤ) (ns : List ℕ) : Type 0 where
  pub few : length zs < 32768
  pub words : Puttable bs (n + 3) zs ns

abbrev pub FieldPut : List ℕ → ℕ → List ℤ → List ℕ → List ℕ → Type 0
FieldPut bs n zs ns bs' = (ps : List ℤ) → Renumbered zs ns ps
    → bs' ≡ take n bs ++ (field_of positions_tag (position_bytes ps) ++ drop (n + 3 + 2 * length zs) bs)
