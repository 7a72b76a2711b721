-- The two places found in the memory give the operation that the definition chooses.
-- Assumes nothing.
use Prim.Native.Nat.{ℕ, zero, suc, ◌+◌, ◌-◌, ◌<◌}
use native.Mathlib.Omega.{arith}
use mathlib.Core.Bool.{Bool, true, false, ◌&&◌}
use mathlib.Core.List.{List, [], ◌∷◌}
use mathlib.Core.Path.{◌≡◌, refl, sym, ap, ap₂, ◌∙◌, subst}
use lib.ListN.{length}
use Rattle.std.specs.Prelude.{◌/◌, Some, None}
use lib.Dec.{eqb}
use borrow.Author.Tests.{ne_eqb}
use Rattle.rules.specs.declared.Triangle.{Triangle}
use Rattle.rules.specs.declared.Operation.{Operation}
use Rattle.rules.specs.declared.Operation.TheVariants.{Forward, Backward, Border, Split, Close}
use Rattle.rules.specs.Limits.{max_places}
use Rattle.rules.specs.Ring.{Node, opened, marked, Ring, first_open, all_open, last_open}
use Rattle.rules.specs.Choice.{Spot, nowhere, spot, spot_of, operation_for, following, size_of, turn_in, turn_out, choose_place}
use Rattle.rules.specs.Choice.{after_current}
use Rattle.choice_theory.proofs.Turning.Spotting.{spot_none}
use Rattle.mesh_theory.specs.Chains.Linked.{Linked}
use Rattle.cutborder.specs.declared.Loops.{Loops}
use Rattle.border_theory.specs.Memory.Layout.{before_of, after_of}
use Rattle.border_theory.specs.Memory.Decision.{is_open_at}
use Rattle.border_theory.specs.Memory.Stands.{rings_in, loops_in}
use Rattle.pack_theory.specs.Choosing.Seat.{Seat}
use Rattle.pack_theory.specs.Choosing.Seat.{Nowhere, At}
use Rattle.pack_theory.specs.Choosing.Choosable.{unbuilt_of, Choosable}
use Rattle.pack_theory.specs.Choosing.Seeking.{seat_in, seat_of, operation_by, Seekable}
use Rattle.pack_theory.specs.Choosing.Turning.{EndsIn, EndsOut}
use Rattle.pack_theory.specs.Choosing.Places.{enter_seat, leave_seat}
use Rattle.pack_theory.proofs.Choosing.Turning.{in_turned, out_turned, differ}
use Rattle.pack_theory.proofs.Choosing.Seeking.{seat_is, seekable, seen_is, Within, within}

-- three places, all of their edges open: the edge after f and the edge into e are
all_open_lem : (ps : List Node) → eqb (suc (length ps)) 3 && (first_open ps && last_open ps) ≡ eqb (suc (length ps)) 3 && all_open ps
unfolding all_open last_open
all_open_lem [] = refl
all_open_lem (p ∷ []) = refl
all_open_lem (opened v ∷ (opened w ∷ [])) = refl
all_open_lem (opened v ∷ (marked w ∷ [])) = refl
all_open_lem (marked v ∷ (q ∷ [])) = refl
all_open_lem (p ∷ (q ∷ (r ∷ ps))) =
    let k = suc (length (p ∷ (q ∷ (r ∷ ps)))) in
    let z : eqb k 3 ≡ false = ne_eqb k 3 (λ h. omega arith) in
    let l = p ∷ (q ∷ (r ∷ ps)) in
    ap (λ (t : Bool). t && (first_open l && last_open l)) z ∙ sym (ap (λ (t : Bool). t && all_open l) z)

by_flags : (ps : List Node) (w i : ℕ) → operation_by (suc (length ps)) (first_open ps) (last_open ps) w i ≡ operation_for ps w i
unfolding operation_by
by_flags ps zero i =
    ap (λ (t : Bool). elim t as (λ x. Operation) [
      | true ↦ Close
      | false ↦ elim (eqb i 2 && first_open ps)
          [ true ↦ Forward | false ↦ elim (eqb (i + 1) (suc (length ps)) && last_open ps) [ true ↦ Backward | false ↦ Split (i - 1) ] ]
    ]) (all_open_lem ps)
by_flags ps (suc w) i = refl

-- the operation for the two places that turning ends at: c is where the edge of the first ends, or else where that of the second starts
unfoldable pub place_for : ℕ → Bool → Bool → Seat → Seat → Operation
place_for k u v s t =
    elim s [
      | At w n i ↦ operation_by k u v w (following n i)
      | Nowhere ↦ elim t [ At w n i ↦ operation_by k u v w i | Nowhere ↦ Border ]
    ]

-- the definition, by its two places
choice_by : (a b c : ℕ) (ts : List Triangle) (ls : List Ring) → let ps = after_current ls in
    place_for (suc (length ps)) (first_open ps) (last_open ps) (seat_of ls (spot_of 0 (turn_in (length ts) c b ts) c ls))
    (seat_of ls (spot_of 0 c (turn_out (length ts) c a ts) ls))
    ≡ choose_place a b c ts ls
unfolding choose_place place_for
choice_by a b c ts ls = go (spot_of 0 (turn_in (length ts) c b ts) c ls) refl (spot_of 0 c (turn_out (length ts) c a ts) ls) refl
  where
    ps : List Node
    ps = after_current ls

    go : (s : Spot) → spot_of 0 (turn_in (length ts) c b ts) c ls ≡ s → (t : Spot) → spot_of 0 c (turn_out (length ts) c a ts) ls ≡ t
        → place_for (suc (length ps)) (first_open ps) (last_open ps) (seat_of ls s) (seat_of ls t) ≡ choose_place a b c ts ls
    go (spot w i) e t f = by_flags ps w (following (size_of ls w) i) ∙ rw (choose_place, e) refl
    go nowhere e (spot w i) f = by_flags ps w i ∙ rw (choose_place, e, f) refl
    go nowhere e nowhere f = rw (choose_place, e, f) refl

module _ (xs cs flags m : List ℕ) (l : Loops) (a b c : ℕ) (h : Choosable xs cs flags m l a b c) where
  abbrev ls : List Ring
  ls = loops_in max_places l m

  abbrev ts : List Triangle
  ts = unbuilt_of flags xs

  -- whether the edge after f is open, and the edge into e
  abbrev next : Bool
  next = is_open_at m (after_of m l.current)

  abbrev last : Bool
  last = is_open_at m (before_of m l.current)

  seat : (x y : ℕ) → seat_in l m x y ≡ seat_of ls (spot_of 0 x y ls)
  seat x y = seat_is l m (rings_in max_places l m) h.stands h.live h.two h.unique x y

  -- what the two turns and the search ask
  pub enter_asks : Linked xs cs × (b ≡ c → ⊥)
  enter_asks = (h.linked, (differ xs cs flags h.linked a b c h.number h.corner h.found h.built).1)

  pub leave_asks : Linked xs cs × (a ≡ c → ⊥)
  leave_asks = (h.linked, (differ xs cs flags h.linked a b c h.number h.corner h.found h.built).0)

  pub seek_asks : Seekable l m
  seek_asks = seekable l m (rings_in max_places l m) h.stands h.live h.two

  -- the place where the edge into c starts
  enter_last : turn_in (length xs / 3) c b ts ≡ turn_in (length ts) c b ts
  enter_last = in_turned xs cs flags h.linked a b c h.number h.corner h.found h.built

  pub enter_found : (y : ℕ) (s : Seat) → EndsIn xs flags c b (Some y) → s ≡ seat_in l m y c → s ≡ enter_seat xs flags m l b c
  unfolding enter_seat
  enter_found y s e q = q ∙ (seat y c ∙ ap (λ (x : ℕ). seat_of ls (spot_of 0 x c ls)) (e ∙ enter_last))

  pub enter_none : EndsIn xs flags c b None → Nowhere ≡ enter_seat xs flags m l b c
  unfolding enter_seat
  enter_none e =
      let y = turn_in (length xs / 3) c b ts in
      ap (seat_of ls) (sym (spot_none y c ls (λ w i o. h.edges y c w i o e)))
      ∙ ap (λ (x : ℕ). seat_of ls (spot_of 0 x c ls)) enter_last

  pub enter_within : (s : Seat) (w k i : ℕ) → s ≡ enter_seat xs flags m l b c → s ≡ At w k i → i < k
  unfolding enter_seat
  enter_within s w k i p e = subst Within e (subst Within (sym p) (within (turn_in (length ts) c b ts) c ls))

  -- the place where the edge from c starts
  leave_last : turn_out (length xs / 3) c a ts ≡ turn_out (length ts) c a ts
  leave_last = out_turned xs cs flags h.linked a b c h.number h.corner h.found h.built

  pub leave_found : (y : ℕ) (s : Seat) → EndsOut xs flags c a (Some y) → s ≡ seat_in l m c y → s ≡ leave_seat xs flags m l a c
  unfolding leave_seat
  leave_found y s e q = q ∙ (seat c y ∙ ap (λ (x : ℕ). seat_of ls (spot_of 0 c x ls)) (e ∙ leave_last))

  pub leave_none : EndsOut xs flags c a None → Nowhere ≡ leave_seat xs flags m l a c
  unfolding leave_seat
  leave_none e =
      let y = turn_out (length xs / 3) c a ts in
      ap (seat_of ls) (sym (spot_none c y ls (λ w i o. h.edges c y w i o e)))
      ∙ ap (λ (x : ℕ). seat_of ls (spot_of 0 c x ls)) leave_last

  -- the operation
  pub chosen : (s t : Seat) → s ≡ enter_seat xs flags m l b c → t ≡ leave_seat xs flags m l a c
      → place_for l.size next last s t ≡ choose_place a b c ts ls
  unfolding enter_seat leave_seat
  chosen s t p q =
      let z = seen_is l m (rings_in max_places l m) h.stands h.live h.two in
      let ps = after_current ls in
      ap (λ (k : ℕ). place_for k next last s t) z.size
      ∙ (ap₂ (λ (u v : Bool). place_for (suc (length ps)) u v s t) z.next z.last
      ∙ (ap₂ (place_for (suc (length ps)) (first_open ps) (last_open ps)) p q ∙ choice_by a b c ts ls))

  pub chosen_enter : (s : Seat) (w k i j : ℕ) (o : Operation) → s ≡ enter_seat xs flags m l b c → s ≡ At w k i → j ≡ following k i
      → o ≡ operation_by l.size (is_open_at m (after_of m l.current)) (is_open_at m (before_of m l.current)) w j
      → o ≡ choose_place a b c ts ls
  unfolding place_for
  chosen_enter s w k i j o p e f q =
      q ∙ ap (operation_by l.size next last w) f
      ∙ (ap (λ (z : Seat). place_for l.size next last z (leave_seat xs flags m l a c)) (sym e)
      ∙ chosen s (leave_seat xs flags m l a c) p refl)

  pub chosen_leave : (s t : Seat) (w k i : ℕ) (o : Operation) → s ≡ enter_seat xs flags m l b c → s ≡ Nowhere
      → t ≡ leave_seat xs flags m l a c → t ≡ At w k i
      → o ≡ operation_by l.size (is_open_at m (after_of m l.current)) (is_open_at m (before_of m l.current)) w i
      → o ≡ choose_place a b c ts ls
  unfolding place_for
  chosen_leave s t w k i o p e q f g = g ∙ (ap₂ (place_for l.size next last) (sym e) (sym f) ∙ chosen s t p q)

  pub chosen_none : (s t : Seat) → s ≡ enter_seat xs flags m l b c → s ≡ Nowhere → t ≡ leave_seat xs flags m l a c → t ≡ Nowhere
      → Border ≡ choose_place a b c ts ls
  unfolding place_for
  chosen_none s t p e q f = ap₂ (place_for l.size next last) (sym e) (sym f) ∙ chosen s t p q
