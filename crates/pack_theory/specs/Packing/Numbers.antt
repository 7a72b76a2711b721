-- The numbering buffer while a packing is under way: for each old vertex its new number, or a mark that it has none yet.
-- Assumes nothing.
use Rattle.std.specs.Prelude.{ℕ, zero, suc, true, false, List, [], ◌∷◌, ◌++◌}
use Rattle.rules.specs.Choice.{has}
use Rattle.rules.specs.Pack.{index_of}

-- more than any number that is given
abbrev pub unnumbered : ℕ
unnumbered = 65535

-- vs has the numbered vertices in the order of their numbers
unfoldable pub entry_of : ℕ → List ℕ → ℕ
entry_of x vs = elim (has x vs) [ true ↦ index_of x vs | false ↦ unnumbered ]

unfoldable pub entries : ℕ → List ℕ → List ℕ
entries zero vs = []
entries (suc n) vs = entries n vs ++ (entry_of n vs ∷ [])
