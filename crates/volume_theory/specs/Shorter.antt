-- Packing with positions by packing the list alone into a buffer that is shorter by the field's length.
-- Assumes nothing.
use Rattle.std.specs.Prelude.{ℕ, ◌+◌, ◌-◌, ◌≤◌, List, ◌≡◌, ℤ, length, take, drop}
use Rattle.rules.specs.Triangle.{triangles_of}
use Rattle.rules.specs.Answer.{refusal, packed}
use Rattle.rules.specs.Pack.{PackBuffers, PackResult, pack_refused}
use Rattle.roundtrip.specs.Claims.{OneToOne, new_number}
use Rattle.volume_theory.specs.Whole.{field_length, Followed}

-- the buffers with bs for the pack
abbrev pub besides : PackBuffers → List ℕ → PackBuffers
besides r bs = record { numbering = r.numbering; places = r.places; pack = bs; order = r.order }

-- the buffers without the field's bytes at the end of the pack buffer
abbrev pub shorter : ℕ → PackBuffers → PackBuffers
shorter v r = besides r (take (length r.pack - field_length v) r.pack)

-- the most bytes that a pack of two fields has: 14 before its operations, and theirs
abbrev pub most_pack : ℕ
most_pack = 65549

-- p is the packing with the positions zs in the buffers r, q that of the list alone in the shorter ones: q's pack has n bytes
pub record Appended (v n : ℕ) (zs : List ℤ) (r : PackBuffers) (p q : PackResult) : Type 0 where
  pub followed : Followed v n zs r p q
  pub numbers : OneToOne v (new_number q)
  pub short : n ≤ most_pack
  pub room : n + field_length v ≤ length r.pack
  -- past the n bytes q changes nothing
  pub past : drop n q.buffers.pack ≡ drop n (shorter v r).pack

-- positions that fit, in buffers that pass 8 and 22
pub record Shorter (v : ℕ) (xs : List ℕ) (zs : List ℤ) (r : PackBuffers) (p q : PackResult) : Type 0 where
  pub refused : (k : ℕ) → q.answer ≡ refusal k
      → (p ≡ pack_refused k v (triangles_of xs) r) × (q ≡ pack_refused k v (triangles_of xs) (shorter v r))
  pub packs : (n : ℕ) → q.answer ≡ packed n → Appended v n zs r p q
