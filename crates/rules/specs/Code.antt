-- The operations' codes and indices, written and read.
-- Assumes nothing.
use Rattle.std.specs.Prelude.{ℕ, true, false, List, [], ◌∷◌, ◌++◌, eqb}
use Rattle.rules.specs.declared.Operation.{Operation}
use Rattle.rules.specs.declared.Operation.TheVariants.{New, Forward, Backward, Border, Split, Close, Union, Start}
use Rattle.rules.specs.Bits.{bits, Number, broken_off, number, read_number}

abbrev pub code_bits : ℕ
code_bits = 3

-- of i and j, and of p
abbrev pub place_bits : ℕ
place_bits = 10

abbrev pub loop_bits : ℕ
loop_bits = 7

abbrev pub code : Operation → ℕ
code New = 0
code Forward = 1
code Backward = 2
code Border = 3
code (Split i) = 4
code Close = 5
code (Union p j) = 6
code Start = 7

-- the indices of an operation, after its code
abbrev pub index_bits : Operation → List ℕ
index_bits New = []
index_bits Forward = []
index_bits Backward = []
index_bits Border = []
index_bits (Split i) = bits place_bits i
index_bits Close = []
index_bits (Union p j) = bits loop_bits p ++ bits place_bits j
index_bits Start = []

unfoldable pub operation_bits : Operation → List ℕ
operation_bits o = bits code_bits (code o) ++ index_bits o

unfoldable pub operations_bits : List Operation → List ℕ
operations_bits [] = []
operations_bits (o ∷ os) = operation_bits o ++ operations_bits os

-- the operation at the front of some bits, and the bits after it; or they break off inside its code or an index
pub data Read : Type 0 where
  breaks_off : Read
  read : Operation → List ℕ → Read

abbrev pub read_split : Number → Read
read_split broken_off = breaks_off
read_split (number i xs) = read (Split i) xs

abbrev pub read_place : ℕ → Number → Read
read_place p broken_off = breaks_off
read_place p (number j xs) = read (Union p j) xs

abbrev pub read_union : Number → Read
read_union broken_off = breaks_off
read_union (number p xs) = read_place p (read_number place_bits 0 xs)

-- an operation's kind by its code
abbrev pub kinds : List Operation
kinds = New ∷ (Forward ∷ (Backward ∷ (Border ∷ (Split 0 ∷ (Close ∷ (Union 0 0 ∷ (Start ∷ [])))))))

-- (the first line is never met: a code has three bits)
unfoldable pub kind_in : ℕ → List Operation → Operation
kind_in c [] = Start
kind_in c (o ∷ os) = elim (eqb (code o) c) [ true ↦ o | false ↦ kind_in c os ]

-- the indices of an operation of this kind
abbrev pub read_indices : Operation → List ℕ → Read
read_indices New xs = read New xs
read_indices Forward xs = read Forward xs
read_indices Backward xs = read Backward xs
read_indices Border xs = read Border xs
read_indices (Split i) xs = read_split (read_number place_bits 0 xs)
read_indices Close xs = read Close xs
read_indices (Union p j) xs = read_union (read_number loop_bits 0 xs)
read_indices Start xs = read Start xs

abbrev pub read_code : Number → Read
read_code broken_off = breaks_off
read_code (number c xs) = read_indices (kind_in c kinds) xs

unfoldable pub read_operation : List ℕ → Read
read_operation xs = read_code (read_number code_bits 0 xs)
