-- Sums over directed edges, and chains of them.
-- Assumes nothing.
use Rattle.std.specs.Prelude.{ℕ, ◌+◌, List, [], ◌∷◌, ◌≡◌}
use Rattle.rules.specs.Triangle.{Edge}

-- the sum of a weight over the edges
unfoldable pub total : (Edge → ℕ) → List Edge → ℕ
total w [] = 0
total w (d ∷ ds) = w d + total w ds

-- a way from s to t over the edges, each taken from its near end to its far end
abbrev pub Walk : (Edge → ℕ) → (Edge → ℕ) → ℕ → List Edge → ℕ → Type 0
Walk near far s [] t = s ≡ t
Walk near far s (d ∷ ds) t = (near d ≡ s) × Walk near far (far d) ds t

-- the edges lead on from s to t
abbrev pub Chain : ℕ → List Edge → ℕ → Type 0
Chain = Walk (λ d. d.from) (λ d. d.to)

-- all the edges, in some order, are one chain
pub record Chained (ds : List Edge) : Type 0 where
  pub start : ℕ
  pub finish : ℕ
  pub path : List Edge
  pub chain : Chain start path finish
  pub sum : (w : Edge → ℕ) → total w ds ≡ total w path
