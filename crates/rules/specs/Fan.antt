-- Fans: the triangles about a vertex, in the words of the rules, open and closed, and as a test that computes. In a list that passes
-- 4 and 5 they are the same (`one_fan`, crate mesh_theory).
-- Assumes nothing.
use Rattle.std.specs.Prelude.{ℕ, zero, suc, Bool, true, false, List, [], ◌∷◌, ◌≡◌, ◌⊎◌, length, eqb}
use Rattle.rules.specs.declared.Triangle.{Triangle}
use Rattle.rules.specs.Triangle.{Edge, edge, In, Free}
use Rattle.rules.specs.Count.{count}

-- the triangles about v, each as the edge x→y that it has opposite v: it is v x y
unfoldable pub about : ℕ → List Triangle → List Edge
about v [] = []
about v (t ∷ ts) =
    elim (eqb v t.p) [
      | true ↦ edge t.q t.r ∷ about v ts
      | false ↦ elim (eqb v t.q) [
        | true ↦ edge t.r t.p ∷ about v ts
        | false ↦ elim (eqb v t.r) [ true ↦ edge t.p t.q ∷ about v ts | false ↦ about v ts ]
      ]
    ]

-- two triangles v x y and v z w share an edge at v, one way round in the one and the other way in the other (5 comes before 7)
abbrev pub Shares : Edge → Edge → Type 0
Shares d e = (d.to ≡ e.from) ⊎ (e.to ≡ d.from)

-- a fan: a run of triangles about one vertex, each sharing an edge at that vertex with the next
abbrev pub Run : List Edge → Type 0
Run [] = Unit {0}
Run (d ∷ []) = Unit {0}
Run (d ∷ (e ∷ ds)) = Shares d e × Run (e ∷ ds)

-- the triangles about v form one fan: in some order they are one run
pub record OneFan (v : ℕ) (ts : List Triangle) : Type 0 where
  pub run : List Edge
  pub each : (x y : ℕ) → count x y run ≡ count x y (about v ts)
  pub shared : Run run

-- The same fan by the neighbours of c in a row, each with the next one in a triangle at c (`one_fan_neighbours`, crate mesh_theory).
abbrev pub Linked : ℕ → List Triangle → List ℕ → Type 0
Linked c ts [] = Unit {0}
Linked c ts (m ∷ []) = Unit {0}
Linked c ts (m ∷ (n ∷ ns)) = In c m n ts × Linked c ts (n ∷ ns)

-- x and z stand side by side
abbrev pub Pair : ℕ → ℕ → List ℕ → Type 0
Pair x z [] = ⊥
Pair x z (m ∷ []) = ⊥
Pair x z (m ∷ (n ∷ ns)) = ((m ≡ x) × (n ≡ z)) ⊎ Pair x z (n ∷ ns)

abbrev pub end_of : ℕ → List ℕ → ℕ
end_of x [] = x
end_of x (n ∷ ns) = end_of n ns

-- a fan from m on is closed if it comes round
abbrev pub Closed : ℕ → List ℕ → Type 0
Closed m ns = m ≡ end_of m ns

-- else open: its first edge and its last one have no triangle on the other side
abbrev pub Open : ℕ → List Triangle → ℕ → List ℕ → Type 0
Open c ts m ns = Free m c ts × Free c (end_of m ns) ts

abbrev pub Round : ℕ → List Triangle → List ℕ → Type 0
Round c ts [] = Unit {0}
Round c ts (m ∷ ns) = Closed m ns ⊎ Open c ts m ns

pub record Neighbours (ts : List Triangle) (c : ℕ) : Type 0 where
  pub fan : List ℕ
  pub run : Linked c ts fan
  pub round : Round c ts fan
  pub whole : (x z : ℕ) → In c x z ts → Pair x z fan

-- The test. An edge taken out of a list, or none
pub data Taken : Type 0 where
  no_edge : Taken
  taken : Edge → List Edge → Taken

abbrev pub keep : Edge → Taken → Taken
keep d no_edge = no_edge
keep d (taken e ds) = taken e (d ∷ ds)

unfoldable pub leaving : ℕ → List Edge → Taken
leaving x [] = no_edge
leaving x (d ∷ ds) = elim (eqb d.from x) [ true ↦ taken d ds | false ↦ keep d (leaving x ds) ]

unfoldable pub entering : ℕ → List Edge → Taken
entering x [] = no_edge
entering x (d ∷ ds) = elim (eqb d.to x) [ true ↦ taken d ds | false ↦ keep d (entering x ds) ]

-- the edges that are left after turning from x as far as it goes, by at most n edges, one way and the other
unfoldable pub turn_on : ℕ → ℕ → List Edge → List Edge
turn_on zero x ds = ds
turn_on (suc n) x ds = elim (leaving x ds) [ no_edge ↦ ds | taken d es ↦ turn_on n d.to es ]

unfoldable pub turn_back : ℕ → ℕ → List Edge → List Edge
turn_back zero x ds = ds
turn_back (suc n) x ds = elim (entering x ds) [ no_edge ↦ ds | taken d es ↦ turn_back n d.from es ]

abbrev pub is_nil : List Edge → Bool
is_nil [] = true
is_nil (d ∷ ds) = false

-- from one of the triangles, turning one way and then the other, all are reached
unfoldable pub one_run : List Edge → Bool
one_run [] = true
one_run (d ∷ ds) = is_nil (turn_back (length ds) d.from (turn_on (length ds) d.to ds))

-- no vertex below n has more than one fan
unfoldable pub one_fan_each : ℕ → List Triangle → Bool
one_fan_each zero ts = true
one_fan_each (suc n) ts = elim (one_run (about n ts)) [ true ↦ one_fan_each n ts | false ↦ false ]
