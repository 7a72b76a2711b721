-- The pack of a list: 1 to 8, 22, 9 to 11, and what each buffer holds afterwards.
-- Assumes nothing.
use Rattle.std.specs.Prelude.{ℕ, zero, suc, ◌+◌, ◌*◌, Bool, true, false, ◌&&◌, List, [], ◌∷◌, ◌++◌, length, eqb, leb}
use Rattle.rules.specs.declared.Triangle.{Triangle}
use Rattle.rules.specs.declared.Place.{Place}
use Rattle.rules.specs.declared.Operation.{Operation}
use Rattle.rules.specs.Checked.{Checked}
use Rattle.rules.specs.Checked.{Accepted, Refused}
use Rattle.rules.specs.Limits.{max_places, max_loops}
use Rattle.rules.specs.Triangle.{triangles_of}
use Rattle.rules.specs.Check.{check}
use Rattle.rules.specs.Answer.{Answer, refusal, packed}
use Rattle.rules.specs.Bits.{bytes_of}
use Rattle.rules.specs.Code.{operations_bits}
use Rattle.rules.specs.Fields.{pack_bytes}
use Rattle.rules.specs.Choice.{Packing, ended, refuses, takes, choose}
use Rattle.rules.specs.Order.{order_by}
use Rattle.rules.specs.Buffer.{over, zeroed, cleared}

-- a whole list's operations with the packing after the last of them, or 9 or 10
pub data Chosen : Type 0 where
  stopped : ℕ → Chosen
  chosen : List Operation → Packing → Chosen

abbrev pub cons : Operation → Chosen → Chosen
cons o (stopped n) = stopped n
cons o (chosen os s) = chosen (o ∷ os) s

-- at most n operations; they are enough (`accepted_packs`, crate choice_theory)
unfoldable pub choose_all : ℕ → Packing → Chosen
choose_all zero s = chosen [] s
choose_all (suc n) s = elim (choose s) [ ended ↦ chosen [] s | refuses k ↦ stopped k | takes o s' ↦ cons o (choose_all n s') ]

-- what a packing may not exceed
pub record Most : Type 0 where
  pub places : ℕ
  pub loops : ℕ

abbrev pub most : Most
most = record { places = max_places; loops = max_loops }

abbrev pub nothing_built : Most → List Triangle → Packing
nothing_built h ts = record {
  mesh = ts;
  left = ts;
  numbered = [];
  loops = [];
  most_places = 0;
  most_loops = 0;
  limit_places = h.places;
  limit_loops = h.loops;
}

-- so many operations: each builds a triangle or declares one of its three edges border
abbrev pub enough : List Triangle → ℕ
enough ts = 4 * length ts + 1

abbrev pub chosen_for : Most → List Triangle → Chosen
chosen_for h ts = choose_all (enough ts) (nothing_built h ts)

-- for each built triangle, in building order, its number in the list
abbrev pub order_for : Most → List Triangle → List ℕ
order_for h ts = order_by (enough ts) (nothing_built h ts)

abbrev pub pack_of : ℕ → List Triangle → List Operation → Packing → List ℕ
pack_of v ts os s =
    pack_bytes (record { vertices = v; triangles = length ts; places = s.most_places; loops = s.most_loops })
    (bytes_of (operations_bits os))

-- where a vertex stands in a list that has it
unfoldable pub index_of : ℕ → List ℕ → ℕ
index_of v [] = 0
index_of v (x ∷ xs) = elim (eqb v x) [ true ↦ 0 | false ↦ suc (index_of v xs) ]

-- for each old vertex below n its new number
unfoldable pub new_numbers : ℕ → List ℕ → List ℕ
new_numbers zero vs = []
new_numbers (suc n) vs = new_numbers n vs ++ (index_of n vs ∷ [])

-- the buffers that a packing is lent, and what it answers and leaves in them
pub record PackBuffers : Type 0 where
  pub numbering : List ℕ
  pub places : List Place
  pub pack : List ℕ
  pub order : List ℕ

pub record PackResult : Type 0 where
  pub answer : Answer
  pub buffers : PackBuffers

-- after 1 to 8 and 22 no buffer has changed
abbrev pub turned_down : ℕ → PackBuffers → PackResult
turned_down n r = record { answer = refusal n; buffers = r }

-- after 9 to 11 the first v numbering entries, the first T order entries and the whole pack buffer are zero
abbrev pub pack_refused : ℕ → ℕ → List Triangle → PackBuffers → PackResult
pack_refused n v ts r = record {
  answer = refusal n;
  buffers = record {
    numbering = zeroed v r.numbering;
    places = cleared r.places;
    pack = zeroed (length r.pack) r.pack;
    order = zeroed (length ts) r.order;
  };
}

-- what an accepted packing fills the buffers with
pub record PackContents : Type 0 where
  pub numbering : List ℕ
  pub pack : List ℕ
  pub order : List ℕ

abbrev pub pack_done : PackContents → PackBuffers → PackResult
pack_done w r = record {
  answer = packed (length w.pack);
  buffers = record {
    numbering = over w.numbering r.numbering;
    places = cleared r.places;
    pack = over w.pack r.pack;
    order = over w.order r.order;
  };
}

-- 11
abbrev pub pack_stored : ℕ → List Triangle → PackContents → PackBuffers → PackResult
pack_stored v ts w r = elim (leb (length w.pack) (length r.pack)) [ true ↦ pack_done w r | false ↦ pack_refused 11 v ts r ]

abbrev pub contents_of : ℕ → List Triangle → List ℕ → List Operation → Packing → PackContents
contents_of v ts qs os s = record { numbering = new_numbers v s.numbered; pack = pack_of v ts os s; order = qs }

-- what comes of a run; qs are the numbers of the triangles that it has built
unfoldable pub pack_chosen : ℕ → List Triangle → PackBuffers → List ℕ → Chosen → PackResult
pack_chosen v ts r qs (stopped n) = pack_refused n v ts r
pack_chosen v ts r qs (chosen os s) = pack_stored v ts (contents_of v ts qs os s) r

-- 8
abbrev pub pack_long_enough : ℕ → PackBuffers → Bool
pack_long_enough v r = leb v (length r.numbering) && leb max_places (length r.places)

-- 22
abbrev pub order_long_enough : List Triangle → PackBuffers → Bool
order_long_enough ts r = leb (length ts) (length r.order)

unfoldable pub pack_checked : Most → ℕ → List Triangle → PackBuffers → Checked → PackResult
pack_checked h v ts r (Refused n) = turned_down n r
pack_checked h v ts r Accepted =
    elim (pack_long_enough v r) [
      | true ↦ elim (order_long_enough ts r) [
        | true ↦ pack_chosen v ts r (order_for h ts) (chosen_for h ts)
        | false ↦ turned_down 22 r
      ]
      | false ↦ turned_down 8 r
    ]

-- packing a list of numbers for a model of v vertices, with some limits and with those of the rules
abbrev pub pack_within : Most → ℕ → List ℕ → PackBuffers → PackResult
pack_within h v xs r = pack_checked h v (triangles_of xs) r (check v xs)

abbrev pub pack : ℕ → List ℕ → PackBuffers → PackResult
pack v xs r = pack_within most v xs r
