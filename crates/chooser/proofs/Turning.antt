-- Turning that way or the other, and the places that it leads to: the laws of the two ways as one.
-- Assumes nothing.
use Prim.Native.Nat.{ℕ, ◌-◌, ◌/◌, ◌≤◌, ◌<◌}
use mathlib.Core.Bool.{Bool, true, false, not}
use mathlib.Core.List.{List}
use mathlib.Core.Path.{◌≡◌, refl, sym, subst}
use lib.ListN.{length}
use lib.Dec.{eqb}
use Rattle.std.specs.Prelude.{Some, None}
use Rattle.rules.specs.declared.Triangle.{Triangle}
use Rattle.rules.specs.Across.{Across, Found, Nothing}
use Rattle.rules.specs.Choice.{turn_in, turn_out}
use Rattle.rules.specs.Limits.{max_triangles}
use Rattle.cutborder.specs.declared.Loops.{Loops}
use Rattle.mesh_theory.specs.Chains.Linked.{Finds, Linked}
use Rattle.pack_theory.specs.Choosing.Choosable.{flag_of, unbuilt_of, Choosable}
use Rattle.pack_theory.specs.Choosing.Seat.{Seat, Nowhere}
use Rattle.pack_theory.specs.Choosing.Seeking.{seat_in}
use Rattle.pack_theory.proofs.Choosing.Operation.{enter_asks, leave_asks, enter_found, enter_none, leave_found, leave_none}
use Rattle.pack_theory.proofs.Choosing.Turning.{number_below, in_none, in_built, in_more, in_done, out_none, out_built, out_more, out_done}
use Rattle.chooser.specs.Ways.{start_of, end_of, Ends, first_of, seat_on}
use Rattle.chooser.specs.declared.turn.Way.{Way}
use Rattle.chooser.specs.declared.turn.Way.TheVariants.{Back, On}

-- where turning ends through the triangles ts, by at most n of them
abbrev pub turned : Way → ℕ → ℕ → ℕ → List Triangle → ℕ
turned Back n c x ts = turn_in n c x ts
turned On n c x ts = turn_out n c x ts

-- a look-up across an edge that is told in other words
pub finds_as : {xs cs : List ℕ} {a b x y : ℕ} {r : Across} → a ≡ x → b ≡ y → Finds xs cs a b r → Finds xs cs x y r
finds_as {xs} {cs} {a} {b} {x} {y} {r} e f h = subst (λ (j : ℕ). Finds xs cs x j r) f (subst (λ (i : ℕ). Finds xs cs i b r) e h)

-- turning is at x, with j steps left; it began at s
pub record Turns (w : Way) (xs flags : List ℕ) (c s x j : ℕ) : Type 0 where
  pub ends : turned w j c x (unbuilt_of flags xs) ≡ turned w (length xs / 3) c s (unbuilt_of flags xs)
  pub apart : x ≡ c → ⊥

module _ {xs cs flags : List ℕ} (linked : Linked xs cs) {c s x j : ℕ} where
  pub turn_flag : (w : Way) {n k z : ℕ} → Turns w xs flags c s x j → Finds xs cs (start_of w c x) (end_of w c x) (Found n k z)
      → n < max_triangles
  turn_flag Back i f = number_below xs cs linked _ _ _ _ _ _ i.apart f refl
  turn_flag On i f = number_below xs cs linked _ _ _ _ _ _ (λ q. i.apart (sym q)) f refl

  pub turn_none : (w : Way) → Turns w xs flags c s x j → Finds xs cs (start_of w c x) (end_of w c x) Nothing → Ends w xs flags c s None
  turn_none Back i f = in_none xs cs flags linked _ _ _ _ _ i.ends i.apart f refl
  turn_none On i f = out_none xs cs flags linked _ _ _ _ _ i.ends i.apart f refl

  pub turn_built : (w : Way) {n k z : ℕ} {b : Bool} → Turns w xs flags c s x j
      → Finds xs cs (start_of w c x) (end_of w c x) (Found n k z) → b ≡ not (eqb (flag_of flags n) 0) → b ≡ true
      → Ends w xs flags c s (Some x)
  turn_built Back i f g h = in_built xs cs flags linked _ _ _ _ _ _ _ _ _ i.ends i.apart f refl g h
  turn_built On i f g h = out_built xs cs flags linked _ _ _ _ _ _ _ _ _ i.ends i.apart f refl g h

  pub turn_more : (w : Way) {n k z : ℕ} {b : Bool} → Turns w xs flags c s x j → 0 < j
      → Finds xs cs (start_of w c x) (end_of w c x) (Found n k z) → b ≡ not (eqb (flag_of flags n) 0) → b ≡ false
      → Turns w xs flags c s z (j - 1)
  turn_more Back i l f g h =
      let t = in_more xs cs flags linked _ _ _ _ _ _ _ _ _ i.ends i.apart l f refl g h in
      record { ends = t.0; apart = t.1 }
  turn_more On i l f g h =
      let t = out_more xs cs flags linked _ _ _ _ _ _ _ _ _ i.ends i.apart l f refl g h in
      record { ends = t.0; apart = t.1 }

  pub turn_done : (w : Way) → Turns w xs flags c s x j → j ≤ 0 → Ends w xs flags c s (Some x)
  turn_done Back i l = in_done xs cs flags linked _ _ _ _ i.ends l
  turn_done On i l = out_done xs cs flags linked _ _ _ _ i.ends l

-- the two places of the choice
module _ {xs cs flags m : List ℕ} {l : Loops} {a b c : ℕ} (h : Choosable xs cs flags m l a b c) where
  pub way_asks : (w : Way) → Linked xs cs × (first_of w a b ≡ c → ⊥)
  way_asks Back = enter_asks _ _ _ _ _ _ _ _ h
  way_asks On = leave_asks _ _ _ _ _ _ _ _ h

  pub way_found : (w : Way) (y : ℕ) (s : Seat) → Ends w xs flags c (first_of w a b) (Some y)
      → s ≡ seat_in l m (start_of w c y) (end_of w c y) → s ≡ seat_on w xs flags m l a b c
  way_found Back y s e q = enter_found _ _ _ _ _ _ _ _ h y s e q
  way_found On y s e q = leave_found _ _ _ _ _ _ _ _ h y s e q

  pub way_none : (w : Way) → Ends w xs flags c (first_of w a b) None → Nowhere ≡ seat_on w xs flags m l a b c
  way_none Back e = enter_none _ _ _ _ _ _ _ _ h e
  way_none On e = leave_none _ _ _ _ _ _ _ _ h e
