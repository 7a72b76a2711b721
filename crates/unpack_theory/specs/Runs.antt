-- What holds throughout an unpacking's run: the state, the memory, the triangle buffer and the corner chains keep a machine, and the
-- vertices that have been met are noted.
-- Assumes nothing.
use Rattle.std.specs.Prelude.{ℕ, ◌*◌, ◌≤◌, Bool, true, false, ◌&&◌, List, ◌≡◌, length, take, drop}
use Rattle.rules.specs.declared.Counts.{Counts}
use Rattle.rules.specs.declared.Operation.{Operation}
use Rattle.rules.specs.Limits.{max_places, max_vertices}
use Rattle.rules.specs.Triangle.{Edge}
use Rattle.rules.specs.Bits.{bits_of_bytes}
use Rattle.rules.specs.Code.{read, read_operation}
use Rattle.rules.specs.Fan.{one_fan_each}
use Rattle.rules.specs.Machine.{Machine, complete, as_stated, totals}
use Rattle.rules.specs.Answer.{Answer, refusal, unpacked}
use Rattle.rules.specs.Buffer.{zeroed}
use Rattle.rules.specs.Unpacked.{Unpacked}
use Rattle.rules.specs.Unpacked as U
use Rattle.rules.specs.Unpack.{Ran, stopped, completed, run_all, numbers_of, rest_fits}
use Rattle.book.specs.Consistent.{Consistent}
use Rattle.book.specs.Bounded.{Bounded}
use Rattle.mesh_theory.specs.Chains.Linked.{Chains}
use Rattle.choice_theory.specs.Fanned.{Fanned}
use Rattle.cutborder.specs.declared.Front.{Front}
use Rattle.border_theory.specs.Memory.Keeps.{Keeps}
use Rattle.border_theory.specs.Memory.Finish.{totals_of}
use Rattle.unpack_theory.specs.Stepped.{Stepped, Going, Refused}
use Rattle.unpack_theory.specs.Turn.{Turn, stops, goes, turn}
use Rattle.unpack_theory.specs.Met.{is_met_in}

-- the machine M; the chains cs hold the triangles that stand built at the front of the buffer ts, and ks notes what was met
pub record Runs (M : Machine) (s : Front) (ts m cs ks : List ℕ) : Type 0 where
  -- of the book whose machine it is
  pub borders : List Edge
  pub consistent : Consistent (record { machine = M; borders = borders })
  pub bounded : Bounded (record { machine = M; borders = borders })
  pub keeps : Keeps max_places s m M
  pub numbers : take (3 * s.built) ts ≡ numbers_of M.triangles
  pub chains : Chains ts (3 * s.built) cs
  pub room : 3 * s.stated.triangles ≤ length ts
  pub noted : length ks ≡ max_vertices
  -- the vertices that are not noted have one fan each
  pub fanned : Fanned (is_met_in ks) M

-- for some machine
pub record Held (s : Front) (ts m cs ks : List ℕ) : Type 0 where
  pub machine : Machine
  pub runs : Runs machine s ts m cs ks

-- the bits of the operations from a bit position on
abbrev pub bits_from : List ℕ → ℕ → List ℕ
bits_from ops at = drop at (bits_of_bytes ops)

-- what stays as it is, whatever is built: the buffer past T triangles
abbrev pub Beyond : Counts → List ℕ → List ℕ → Type 0
Beyond c ts ts' = drop (3 * c.triangles) ts' ≡ drop (3 * c.triangles) ts

-- a turn that goes on, to the state s'
pub record GoesTo (T : Turn) (ops : List ℕ) (c : Counts) (s' : Front) (at' : ℕ) (ts' m' cs' ks' : List ℕ) : Type 0 where
  pub next : Machine
  pub turns : T ≡ goes next (bits_from ops at')
  pub runs : Runs next s' ts' m' cs' ks'
  pub stated : s'.stated ≡ c

-- what a step's answer says of the turn T
abbrev pub Steps : Turn → List ℕ → Counts → Stepped → List ℕ → List ℕ → List ℕ → List ℕ → Type 0
Steps T ops c (Refused k) ts' m' cs' ks' = T ≡ stops k
Steps T ops c (Going s' at') ts' m' cs' ks' = GoesTo T ops c s' at' ts' m' cs' ks'

-- of each machine that was held, an operation o that was read as far as the bit position at', and a step that reads one
abbrev pub OperateOf : Operation → ℕ → Front → List ℕ → List ℕ → List ℕ → List ℕ → Stepped → List ℕ → List ℕ → List ℕ → List ℕ → Type 0
OperateOf o at' s ts m cs ks r ts' m' cs' ks' =
    (M : Machine) → Runs M s ts m cs ks → (xs ops : List ℕ) → read_operation xs ≡ read o (bits_from ops at')
    → Steps (turn M xs) ops s.stated r ts' m' cs' ks'

abbrev pub StepOf : List ℕ → ℕ → Front → List ℕ → List ℕ → List ℕ → List ℕ → Stepped → List ℕ → List ℕ → List ℕ → List ℕ → Type 0
StepOf ops at s ts m cs ks r ts' m' cs' ks' =
    (M : Machine) → Runs M s ts m cs ks → Steps (turn M (bits_from ops at)) ops s.stated r ts' m' cs' ks'

-- a run that comes to its end in the state s'
pub record EndsAt (R : Ran) (ops : List ℕ) (c : Counts) (s' : Front) (at' : ℕ) (ts' m' cs' ks' : List ℕ) : Type 0 where
  pub last : Machine
  pub ran : R ≡ completed last (bits_from ops at')
  pub runs : Runs last s' ts' m' cs' ks'
  pub stated : s'.stated ≡ c
  pub complete : complete last ≡ true

-- the run R has come to the state s, with `left` operations to go
pub record Comes (R : Ran) (ops : List ℕ) (c : Counts) (left : ℕ) (s : Front) (at : ℕ) (ts m cs ks : List ℕ) : Type 0 where
  pub machine : Machine
  pub ran : R ≡ run_all left machine (bits_from ops at)
  pub runs : Runs machine s ts m cs ks
  pub stated : s.stated ≡ c

-- of each machine that was held in the beginning
abbrev pub ComesFrom : List ℕ → ℕ → Front → List ℕ → List ℕ → List ℕ → List ℕ → ℕ → Front → ℕ → List ℕ → List ℕ → List ℕ → List ℕ → Type 0
ComesFrom ops budget s₀ ts₀ m₀ cs₀ ks₀ left s at ts m cs ks = (M : Machine) → Runs M s₀ ts₀ m₀ cs₀ ks₀
    → Comes (run_all budget M (bits_from ops 0)) ops s₀.stated left s at ts m cs ks

-- what the loop's answer says of the run R
abbrev pub Ends : Ran → List ℕ → Counts → Stepped → List ℕ → List ℕ → List ℕ → List ℕ → Type 0
Ends R ops c (Refused k) ts' m' cs' ks' = R ≡ stopped k
Ends R ops c (Going s' at') ts' m' cs' ks' = EndsAt R ops c s' at' ts' m' cs' ks'

abbrev pub RunOf : List ℕ → ℕ → Front → List ℕ → List ℕ → List ℕ → List ℕ → Stepped → List ℕ → List ℕ → List ℕ → List ℕ → Type 0
RunOf ops budget s ts m cs ks r ts' m' cs' ks' =
    (M : Machine) → Runs M s ts m cs ks → Ends (run_all budget M (bits_from ops 0)) ops s.stated r ts' m' cs' ks'

-- the answer for a complete model of these counts, once its fans are tested
abbrev pub model_answer : Front → Answer
model_answer s = unpacked (record { vertices = s.stated.vertices; triangles = s.stated.triangles; totals = totals_of s })

-- the answer of 19, 20 and the acceptance
abbrev pub end_by : Bool → Bool → Answer → Answer
end_by true true a = a
end_by true false a = refusal 20
end_by false f a = refusal 19

abbrev pub end_answer : Counts → Machine → Bool → Answer
end_answer c M rest =
    end_by (rest && as_stated M) (one_fan_each M.used M.triangles)
    (unpacked (record { vertices = c.vertices; triangles = c.triangles; totals = totals M }))

-- a complete model, with some memory and machine
pub record Whole (s : Front) (ts cs ks : List ℕ) : Type 0 where
  pub machine : Machine
  pub memory : List ℕ
  pub runs : Runs machine s ts memory cs ks
  pub complete : complete machine ≡ true

-- a is the answer for each complete machine that is held
abbrev pub Concludes : List ℕ → ℕ → Front → List ℕ → List ℕ → List ℕ → Answer → Type 0
Concludes ops at s ts cs ks a = (M : Machine) (m : List ℕ) → Runs M s ts m cs ks → complete M ≡ true
    → a ≡ end_answer s.stated M (rest_fits (bits_from ops at))

-- the answer after the run: its refusal is passed up
abbrev pub Answers : List ℕ → Stepped → List ℕ → List ℕ → List ℕ → Answer → Type 0
Answers ops (Refused k) ts cs ks a = a ≡ refusal k
Answers ops (Going s at) ts cs ks a = Concludes ops at s ts cs ks a

-- the run's answer can be concluded from
abbrev pub Ended : Stepped → List ℕ → List ℕ → List ℕ → Type 0
Ended (Refused k) ts cs ks = Unit {0}
Ended (Going s at) ts cs ks = Whole s ts cs ks

-- the first n triangle entries are zero after a refusal
abbrev pub tidied : Unpacked → ℕ → List ℕ → List ℕ
tidied (U.Gives x) n ts = ts
tidied (U.Refused k) n ts = zeroed n ts
