-- What the functions for C and Rust promise: the number that is returned, and all memory that was lent, accepted and refused alike.
-- Assumes nothing.
use Rattle.std.specs.Prelude.{ℕ, List, ◌≡◌, ℤ, length}
use Rattle.rules.specs.declared.Place.{Place}
use Rattle.rules.specs.declared.Counts.{Counts}
use Rattle.rules.specs.declared.Operation.{Operation}
use Rattle.rules.specs.declared.Builder.{Builder}
use Rattle.rules.specs.Machine.{Step, refused, begun, built, declared, finished}
use Rattle.rules.specs.Book.{answer_of}
use Rattle.rules.specs.Buffer.{Buffers}
use Rattle.rules.specs.Build.{begins, operates, finishes, begun_builder, begun_buffers, OperatedBy}
use Rattle.rules.specs.PackWhole.{Extras, pack_whole}
use Rattle.rules.specs.Reading.{unpack_noted, volume, bench}
use Rattle.promises.specs.Promises.{lent_to, packing_buffers}
use Rattle.capi.specs.Answered.{number_of, size_after, model_after, totals_after, euler_after, six_after, built_after}

-- a packing, with what is given besides, g: z is the memory for the pack's length
pub record Packs (v : ℕ) (xs : List ℕ) (g : Extras) (ns bs qs : List ℕ) (ps : List Place) (z n : ℕ) (ns' bs' qs' : List ℕ)
    (ps' : List Place) (z' : ℕ) : Type 0 where
  pub number : n ≡ number_of (pack_whole v xs g (packing_buffers ns bs qs ps)).answer
  pub size : z' ≡ size_after z (pack_whole v xs g (packing_buffers ns bs qs ps)).answer
  pub numbering : ns' ≡ (pack_whole v xs g (packing_buffers ns bs qs ps)).buffers.numbering
  pub bytes : bs' ≡ (pack_whole v xs g (packing_buffers ns bs qs ps)).buffers.pack
  pub order : qs' ≡ (pack_whole v xs g (packing_buffers ns bs qs ps)).buffers.order
  pub places : ps' ≡ (pack_whole v xs g (packing_buffers ns bs qs ps)).buffers.places

-- an unpacking: ms and e are the memory for the model's numbers and its Euler number
pub record Unpacks (bytes ts : List ℕ) (ps : List Place) (ms : List ℕ) (e : ℤ) (n : ℕ) (ts' : List ℕ) (ps' : List Place) (ms' : List ℕ)
    (e' : ℤ) : Type 0 where
  pub number : n ≡ number_of (unpack_noted bytes (lent_to ts ps)).answer
  pub model : ms' ≡ model_after ms (unpack_noted bytes (lent_to ts ps)).answer
  pub euler : e' ≡ euler_after e (unpack_noted bytes (lent_to ts ps)).answer
  pub triangles : ts' ≡ (unpack_noted bytes (lent_to ts ps)).buffers.triangles
  pub places : ps' ≡ (unpack_noted bytes (lent_to ts ps)).buffers.places

-- the volume call: the same, and z is the memory for six times the volume
pub record Measures (bytes ts : List ℕ) (ps : List Place) (ms : List ℕ) (e z : ℤ) (n : ℕ) (ts' : List ℕ) (ps' : List Place) (ms' : List ℕ)
    (e' z' : ℤ) : Type 0 where
  pub number : n ≡ number_of (volume bytes (lent_to ts ps)).answer
  pub model : ms' ≡ model_after ms (volume bytes (lent_to ts ps)).answer
  pub euler : e' ≡ euler_after e (volume bytes (lent_to ts ps)).answer
  pub six : z' ≡ six_after z (volume bytes (lent_to ts ps)).six
  pub triangles : ts' ≡ (volume bytes (lent_to ts ps)).buffers.triangles
  pub places : ps' ≡ (volume bytes (lent_to ts ps)).buffers.places

-- the bench reader: as an unpacking, and s and l, from which byte of the pack on the note stands and how many bytes it has, are written
-- whatever the answer is
pub record Tells (bytes ts : List ℕ) (ps : List Place) (ms : List ℕ) (e : ℤ) (n : ℕ) (ts' : List ℕ) (ps' : List Place) (ms' : List ℕ)
    (e' : ℤ) (s l : ℕ) : Type 0 where
  pub number : n ≡ number_of (bench bytes (lent_to ts ps)).answer
  pub model : ms' ≡ model_after ms (bench bytes (lent_to ts ps)).answer
  pub euler : e' ≡ euler_after e (bench bytes (lent_to ts ps)).answer
  pub start : s ≡ (bench bytes (lent_to ts ps)).start
  pub long : l ≡ length (bench bytes (lent_to ts ps)).note
  pub triangles : ts' ≡ (bench bytes (lent_to ts ps)).buffers.triangles
  pub places : ps' ≡ (bench bytes (lent_to ts ps)).buffers.places

-- what a beginning leaves of the builder b and the buffers r; it is never an operation or a finish
abbrev pub BegunAs : Buffers → Counts → Builder → Step → Builder → Buffers → Type 0
BegunAs r s b (refused n) b' r' = (b' ≡ b) × (r' ≡ r)
BegunAs r s b (begun m) b' r' = (b' ≡ begun_builder s) × (r' ≡ begun_buffers r)
BegunAs r s b (built t m) b' r' = ⊥
BegunAs r s b (declared d m) b' r' = ⊥
BegunAs r s b (finished x) b' r' = ⊥

-- a beginning with the counts s, in the memory of the builder b
pub record Begins (s : Counts) (ts : List ℕ) (ps : List Place) (b : Builder) (n : ℕ) (ts' : List ℕ) (ps' : List Place) (b' : Builder) : Type
    0 where
  pub number : n ≡ number_of (answer_of (begins (lent_to ts ps) s))
  pub after : BegunAs (lent_to ts ps) s b (begins (lent_to ts ps) s) b' (lent_to ts' ps')

-- an operation on the builder b: xs is the memory for the triangle
pub record Operates (b : Builder) (o : Operation) (ts : List ℕ) (ps : List Place) (xs : List ℕ) (n : ℕ) (b' : Builder) (ts' : List ℕ)
    (ps' : List Place) (xs' : List ℕ) : Type 0 where
  pub number : n ≡ number_of (answer_of (operates b (lent_to ts ps) o))
  pub built : xs' ≡ built_after xs (answer_of (operates b (lent_to ts ps) o))
  pub after : OperatedBy b (lent_to ts ps) o (operates b (lent_to ts ps) o) b' (lent_to ts' ps')

-- a finish of the builder b: xs and e are the memory for the totals and the Euler number; the rest is only read
pub record Finishes (b : Builder) (ts : List ℕ) (ps : List Place) (xs : List ℕ) (e : ℤ) (n : ℕ) (xs' : List ℕ) (e' : ℤ) : Type 0 where
  pub number : n ≡ number_of (answer_of (finishes b (lent_to ts ps)))
  pub totals : xs' ≡ totals_after xs (answer_of (finishes b (lent_to ts ps)))
  pub euler : e' ≡ euler_after e (answer_of (finishes b (lent_to ts ps)))
