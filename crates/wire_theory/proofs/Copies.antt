-- Bytes copied into a buffer, one after the other.
-- Assumes nothing.
use Prim.Native.Nat.{ℕ, ◌+◌, ◌≤◌, ◌<◌}
use native.Mathlib.Numerals.{add-one}
use native.Mathlib.Omega.{arith}
use mathlib.Core.List.{List}
use mathlib.Core.Path.{◌≡◌, sym, ap, ap₂, ◌∙◌}
use lib.ListN.{length, get_or, set, length-set}
use lib.Seq.{paste, paste-suc}

-- after i bytes of s, from k on, of which there are n
pub record Copied (n k : ℕ) (s buffer₀ buffer : List ℕ) (i : ℕ) : Type 0 where
  pub count : i ≤ n
  pub within : k + n ≤ length buffer₀
  pub enough : n ≤ length s
  pub long : length buffer ≡ length buffer₀
  pub holds : buffer ≡ paste buffer₀ k s i

module _ (n k : ℕ) (s buffer₀ : List ℕ) where
  pub copy_more : (buffer : List ℕ) (i j v : ℕ) → Copied n k s buffer₀ buffer i → i < n → j ≡ k + i → v ≡ get_or s i 0
      → Copied n k s buffer₀ (set buffer j v) (i + 1)
  copy_more buffer i j v c h p q =
      record {
        count = omega arith;
        within = c.within;
        enough = c.enough;
        long = length-set buffer j v ∙ c.long;
        holds =
            ap₂ (λ (x y : ℕ). set buffer x y) p q ∙ ap (λ (r : List ℕ). set r (k + i) (get_or s i 0)) c.holds
            ∙ paste-suc buffer₀ k s i 0 (omega (arith, c.within)) (omega (arith, c.enough)) ∙ ap (paste buffer₀ k s) (sym (add-one i));
      }

  pub copy_all : (buffer : List ℕ) (i : ℕ) → Copied n k s buffer₀ buffer i → n ≤ i → buffer ≡ paste buffer₀ k s n
  copy_all buffer i c h = let e : i ≡ n = omega (arith, c.count) in c.holds ∙ ap (paste buffer₀ k s) e
