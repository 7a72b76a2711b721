-- A step of a packing, and the run of them: what the code's answers say of the packing of the rules.
-- Assumes nothing.
use Rattle.std.specs.Prelude.{ℕ, ◌+◌, ◌*◌, ◌≤◌, ◌<◌, List, ◌≡◌, length, drop}
use Rattle.rules.specs.declared.Operation.{Operation}
use Rattle.rules.specs.Limits.{max_places}
use Rattle.rules.specs.Triangle.{triangles_of}
use Rattle.rules.specs.Choice.{Packing, Next, refuses, takes, choose}
use Rattle.rules.specs.Pack.{Chosen, stopped, chosen, choose_all}
use Rattle.border_theory.specs.Memory.Layout.{after_of}
use Rattle.pack_theory.specs.Choosing.Choosable.{flag_of}
use Rattle.cutborder.specs.declared.Course.{Course}
use Rattle.pack_theory.specs.Packing.Taken.{Taken}
use Rattle.pack_theory.specs.Packing.Taken as T
use Rattle.pack_theory.specs.Packing.Ran.{Ran}
use Rattle.pack_theory.specs.Packing.Ran as R
use Rattle.pack_theory.specs.Packing.Course.{Holds, Held}
use Rattle.pack_theory.specs.Packing.Writing.{header_bits, Writes}

-- ---- a step

-- it takes the operation o, to the state t'
pub record StepsTo (v : ℕ) (xs : List ℕ) (N : Next) (o : Operation) (t' : Course) (fs' ns' rest m' : List ℕ) : Type 0 where
  pub after : Packing
  pub goes : N ≡ takes o after
  pub holds : Holds v xs after t' fs' ns' rest m'

-- the entries past the first v are rest
pub record Beyond (v : ℕ) (ns rest : List ℕ) : Type 0 where
  pub enough : v ≤ length ns
  pub past : drop v ns ≡ rest

abbrev pub Steps : ℕ → List ℕ → Packing → Course → Taken → List ℕ → List ℕ → List ℕ → List ℕ → Type 0
Steps v xs s t (T.Refused k) fs' ns' rest m' = (choose s ≡ refuses k) × Beyond v ns' rest
Steps v xs s t (T.Going o t') fs' ns' rest m' = StepsTo v xs (choose s) o t' fs' ns' rest m'

-- of each packing that was held
abbrev pub StepOf : List ℕ → Course → List ℕ → List ℕ → List ℕ → Taken → List ℕ → List ℕ → List ℕ → Type 0
StepOf xs t fs ns m r fs' ns' m' = (v : ℕ) (s : Packing) (rest : List ℕ) → Holds v xs s t fs ns rest m → Steps v xs s t r fs' ns' rest m'

-- a loop is live
pub record Alive (xs cs : List ℕ) (t : Course) (fs ns m : List ℕ) : Type 0 where
  pub held : Held xs cs t fs ns m
  pub live : t.front.loops.live ≡ 0 → ⊥

-- none is, and a triangle is left
pub record Resting (xs : List ℕ) (t : Course) (fs ns m : List ℕ) : Type 0 where
  pub vertices : ℕ
  pub packing : Packing
  pub rest : List ℕ
  pub holds : Holds vertices xs packing t fs ns rest m
  pub none : t.front.loops.live ≡ 0
  pub some : t.front.built ≡ t.front.stated.triangles → ⊥

-- of n triangles r is the first from k on that is not built, or n
pub record Lowest (fs : List ℕ) (k n r : ℕ) : Type 0 where
  pub upto : r ≤ n
  pub built : (j : ℕ) → k ≤ j → j < r → flag_of fs j ≡ 0 → ⊥
  pub left : r < n → flag_of fs r ≡ 0

-- triangle k is the lowest left
pub record Starts (xs : List ℕ) (t : Course) (k : ℕ) (fs ns m : List ℕ) : Type 0 where
  pub resting : Resting xs t fs ns m
  pub within : k < length (triangles_of xs)
  pub below : (j : ℕ) → j < k → flag_of fs j ≡ 0 → ⊥
  pub left : flag_of fs k ≡ 0

-- the memory has the records of a loop of three places, the first of them e
pub record Renames (m : List ℕ) (e : ℕ) : Type 0 where
  pub first : e < max_places
  pub second : after_of m e < max_places
  pub third : after_of m (after_of m e) < max_places

-- ---- a run

-- it has ended in the state t', with the bits written as far as at'
pub record EndsAt (v : ℕ) (xs : List ℕ) (C : Chosen) (budget : ℕ) (buffer : List ℕ) (t' : Course) (at' : ℕ)
    (fs' ns' rest buffer' m' : List ℕ) : Type 0 where
  pub operations : List Operation
  pub last : Packing
  pub ran : C ≡ chosen operations last
  pub holds : Holds v xs last t' fs' ns' rest m'
  pub writes : Writes operations buffer buffer' at'
  pub near : at' ≤ header_bits + 20 * budget

abbrev pub Ends : ℕ → List ℕ → Chosen → ℕ → List ℕ → Ran → List ℕ → List ℕ → List ℕ → List ℕ → List ℕ → Type 0
Ends v xs C budget buffer (R.Refused k) fs' ns' rest buffer' m' = (C ≡ stopped k) × Beyond v ns' rest
Ends v xs C budget buffer (R.Ended t' at') fs' ns' rest buffer' m' = EndsAt v xs C budget buffer t' at' fs' ns' rest buffer' m'

-- of each packing that was held
abbrev pub RunOf : List ℕ → ℕ → Course → List ℕ → List ℕ → List ℕ → List ℕ → Ran → List ℕ → List ℕ → List ℕ → List ℕ → Type 0
RunOf xs budget t fs ns buffer m r fs' ns' buffer' m' = (v : ℕ) (s : Packing) (rest : List ℕ) → Holds v xs s t fs ns rest m
    → Ends v xs (choose_all budget s) budget buffer r fs' ns' rest buffer' m'
