-- What the packer does next, whatever its limits: they only turn an operation down. An operation adds at most three places and one loop.
-- Assumes nothing.
use Prim.Native.Nat.{ℕ, zero, suc, ◌+◌, ◌-◌, ◌≤◌}
use native.Mathlib.Omega.{arith}
use mathlib.Core.Bool.{Bool, true, false}
use mathlib.Core.List.{List, [], ◌∷◌, ◌++◌}
use mathlib.Core.Path.{◌≡◌, refl, ap}
use lib.ListN.{length, take, drop, length-append, length-drop, take-append-drop}
use lib.Dec.{leb}
use Rattle.rules.specs.declared.Triangle.{Triangle}
use Rattle.rules.specs.Across.{Across}
use Rattle.rules.specs.Across.{Found, Nothing}
use Rattle.rules.specs.declared.Operation.{Operation}
use Rattle.rules.specs.declared.Operation.TheVariants.{New, Forward, Backward, Border, Split, Close, Union, Start}
use Rattle.rules.specs.Triangle.{Edge}
use Rattle.rules.specs.Across.{across}
use Rattle.rules.specs.Ring.{Node, opened, marked, Ring, vertex, start_or, front, onward, shown, places, loop_at, without}
use Rattle.book.proofs.Shown.{fewer_shown}
use Rattle.rules.specs.Table.{Effect, not_allowed, builds, marks, allowed, in_order, marking, at_edge}
use Rattle.rules.specs.Choice.{Packing, has, drop_triangle, choose_place, Next, ended, packing_after, limited, taking, choose_at, choose_in}
use Rattle.rules.specs.Choice.{choose}

pub data Want : Type 0 where
  idle : Want
  wants : Operation → List Triangle → List ℕ → List Ring → Want

abbrev pub wanting : Operation → List Triangle → List ℕ → Effect → Want
wanting o ts vs not_allowed = idle
wanting o ts vs (builds x) = wants o ts vs x.loops
wanting o ts vs (marks x) = wants o ts vs x.loops

abbrev pub want_triangle : List Triangle → List ℕ → List Ring → ℕ → ℕ → ℕ → List Node → List Ring → Bool → Want
want_triangle L N ls a b c ps ws t =
    let ts = drop_triangle b a L in
    elim t [
      | false ↦ wanting New ts (N ++ (c ∷ [])) (at_edge New c a ps ws)
      | true ↦ let o = choose_place a b c ts ls in wanting o ts N (at_edge o c a ps ws)
    ]

abbrev pub want_at : List Triangle → List ℕ → List Ring → ℕ → ℕ → List Node → List Ring → Across → Want
want_at L N ls a b ps ws m =
    elim m [
      | Nothing ↦ wanting Border L N (at_edge Border 0 a ps ws)
      | Found n k c ↦ want_triangle L N ls a b c ps ws (has c N)
    ]

abbrev pub want_in : List Triangle → List Triangle → List ℕ → List Ring → List Ring → List Triangle → Want
want_in M L N all [] [] = idle
want_in M L N all [] (t ∷ ts) =
    wants Start ts (N ++ (t.p ∷ (t.q ∷ (t.r ∷ [])))) ((opened t.p ∷ (opened t.q ∷ (opened t.r ∷ []))) ∷ [])
want_in M L N all ([] ∷ ws) ts = idle
want_in M L N all ((e ∷ ps) ∷ ws) ts =
    want_at L N all (vertex e) (start_or (vertex e) ps) ps ws (across (start_or (vertex e) ps) (vertex e) M)

abbrev pub want : Packing → Want
want s = want_in s.mesh s.left s.numbered s.loops s.loops s.left

abbrev pub doing : Packing → Want → Next
doing s idle = ended
doing s (wants o ts vs ls) = limited o (packing_after s ts vs ls)

taking_want : (o : Operation) (s : Packing) (ts : List Triangle) (vs : List ℕ) (ef : Effect)
    → taking o s ts vs ef ≡ doing s (wanting o ts vs ef)
unfolding taking
taking_want o s ts vs not_allowed = refl
taking_want o s ts vs (builds x) = refl
taking_want o s ts vs (marks x) = refl

at_want : (s : Packing) (a b : ℕ) (ps : List Node) (ws : List Ring)
    → choose_at s a b ps ws ≡ doing s (want_at s.left s.numbered s.loops a b ps ws (across b a s.mesh))
unfolding choose_at
at_want s a b ps ws = go (across b a s.mesh)
  where
    found : (c : ℕ) (t : Bool)
        → ◌≡◌ {A = Next}
        (elim t [
          | false ↦ taking New s (drop_triangle b a s.left) (s.numbered ++ (c ∷ [])) (at_edge New c a ps ws)
          | true ↦ taking (choose_place a b c (drop_triangle b a s.left) s.loops) s (drop_triangle b a s.left) s.numbered
              (at_edge (choose_place a b c (drop_triangle b a s.left) s.loops) c a ps ws)
        ])
        (doing s (want_triangle s.left s.numbered s.loops a b c ps ws t))
    found c true = taking_want _ s _ _ _
    found c false = taking_want _ s _ _ _

    go : (m : Across)
        → ◌≡◌ {A = Next}
        (elim m [
          | Nothing ↦ taking Border s s.left s.numbered (at_edge Border 0 a ps ws)
          | Found n k c ↦ elim (has c s.numbered) [
            | false ↦ taking New s (drop_triangle b a s.left) (s.numbered ++ (c ∷ [])) (at_edge New c a ps ws)
            | true ↦ taking (choose_place a b c (drop_triangle b a s.left) s.loops) s (drop_triangle b a s.left) s.numbered
                (at_edge (choose_place a b c (drop_triangle b a s.left) s.loops) c a ps ws)
          ]
        ])
        (doing s (want_at s.left s.numbered s.loops a b ps ws m))
    go Nothing = taking_want Border s s.left s.numbered (at_edge Border 0 a ps ws)
    go (Found n k c) = found c (has c s.numbered)

in_want : (s : Packing) (ls : List Ring) (ts : List Triangle)
    → choose_in s ls ts ≡ doing s (want_in s.mesh s.left s.numbered s.loops ls ts)
unfolding choose_in
in_want s [] [] = refl
in_want s [] (t ∷ ts) = refl
in_want s ([] ∷ ws) ts = refl
in_want s ((e ∷ ps) ∷ ws) ts = at_want s (vertex e) (start_or (vertex e) ps) ps ws

pub choose_want : (s : Packing) → choose s ≡ doing s (want s)
choose_want s = in_want s s.loops s.left

-- how much an operation adds to p places and l loops
abbrev Grows : ℕ → ℕ → Effect → Type 0
Grows p l not_allowed = Unit {0}
Grows p l (builds x) = (places x.loops ≤ p + 1) × (length x.loops ≤ l + 1)
Grows p l (marks x) = (places x.loops ≤ p + 1) × (length x.loops ≤ l + 1)

grows_allowed : (p l : ℕ) (b : Bool) (ef : Effect) → Grows p l ef → Grows p l (allowed b ef)
unfolding allowed
grows_allowed p l true ef h = h
grows_allowed p l false ef h = tt

length_front : (ps : List Node) → length (front ps) ≤ length ps
unfolding front
length_front [] = omega arith
length_front (p ∷ []) = omega arith
length_front (p ∷ (q ∷ ps)) = let h = length_front (q ∷ ps) in omega arith

length_onward : (back ps : List Node) → length (onward back ps) ≤ length back + length ps
unfolding onward
length_onward back [] = omega arith
length_onward back (opened v ∷ ps) = omega (arith, length-append ps back)
length_onward back (marked v ∷ ps) = omega (arith, length_onward (back ++ (marked v ∷ [])) ps, length-append back (marked v ∷ []))

grows_marking : (p l : ℕ) (r : Ring) (ws : List Ring) (d : Edge) → length r + places ws ≤ p + 1 → length ws + 1 ≤ l + 1
    → Grows p l (marking r ws d)
unfolding places
grows_marking p l [] ws d h k = (omega arith, omega arith)
grows_marking p l (q ∷ r) ws d h k = (h, omega arith)

take_drop : {A : Type 0} (i : ℕ) (xs : List A) → length (take i xs) + length (drop i xs) ≡ length xs
take_drop i xs = omega (arith, length-append (take i xs) (drop i xs), ap length (take-append-drop i xs))

without_places : (ws : List Ring) (n : ℕ) → places (without ws n) + length (loop_at ws n) ≡ places ws
unfolding places without loop_at
without_places [] n = refl
without_places (w ∷ ws) zero = omega arith
without_places (w ∷ ws) (suc n) = omega (arith, without_places ws n)

without_length : (ws : List Ring) (n : ℕ) → length (without ws n) ≤ length ws
unfolding without
without_length [] n = omega arith
without_length (w ∷ ws) zero = omega arith
without_length (w ∷ ws) (suc n) = omega (arith, without_length ws n)

edge_grows : (o : Operation) (u a : ℕ) (ps : List Node) (ws : List Ring)
    → Grows (suc (length ps) + places ws) (suc (length ws)) (at_edge o u a ps ws)
unfolding at_edge places in_order
edge_grows New u a ps ws = (omega (arith, length-append ps (opened a ∷ [])), omega arith)
edge_grows Forward u a ps ws = grows_allowed _ _ _ _ (omega (arith, length-drop 1 ps), omega arith)
edge_grows Backward u a ps ws = grows_allowed _ _ _ _ (omega (arith, length_front ps), omega arith)
edge_grows Border u a ps ws =
    grows_marking _ _ (shown (onward [] (ps ++ (marked a ∷ [])))) ws _
    (omega (
      arith,
      fewer_shown (onward [] (ps ++ (marked a ∷ []))),
      length_onward [] (ps ++ (marked a ∷ [])),
      length-append ps
          (marked a ∷ []),
    )) (omega arith)
edge_grows (Split i) u a ps ws = grows_allowed _ _ _ _ (go _ _ (leb (suc (length (take i ps))) (suc (length (drop i ps)))))
  where
    go : (x y : Node) (t : Bool)
        → (places (in_order t (x ∷ take i ps) (y ∷ drop i ps) ws) ≤ suc (length ps) + places ws + 1)
        × (length (in_order t (x ∷ take i ps) (y ∷ drop i ps) ws) ≤ suc (length ws) + 1)
    go x y true = (omega (arith, take_drop i ps), omega arith)
    go x y false = (omega (arith, take_drop i ps), omega arith)
edge_grows Close u a ps ws = grows_allowed _ _ _ _ (omega arith, omega arith)
edge_grows (Union n j) u a ps ws =
    let w = loop_at ws (n - 1) in
    grows_allowed _ _ _ _ (
      omega (
        arith,
        length-append ps (opened a ∷ (drop j w ++ take j w)),
        length-append (drop j w) (take j w),
        take_drop j w,
        without_places ws (n - 1),
      ),
      omega (arith, without_length ws (n - 1)),
    )
edge_grows Start u a ps ws = tt

abbrev pub Grown : ℕ → ℕ → Want → Type 0
Grown p l idle = Unit {0}
Grown p l (wants o ts vs ls) = (places ls ≤ p + 3) × (length ls ≤ l + 1)

wanting_grown : (p l : ℕ) (o : Operation) (ts : List Triangle) (vs : List ℕ) (ef : Effect) → Grows p l ef → Grown p l (wanting o ts vs ef)
wanting_grown p l o ts vs not_allowed h = tt
wanting_grown p l o ts vs (builds x) h = (omega (arith, h.0), h.1)
wanting_grown p l o ts vs (marks x) h = (omega (arith, h.0), h.1)

at_grown : (L : List Triangle) (N : List ℕ) (all : List Ring) (a b : ℕ) (ps : List Node) (ws : List Ring) (m : Across)
    → Grown (suc (length ps) + places ws) (suc (length ws)) (want_at L N all a b ps ws m)
at_grown L N all a b ps ws Nothing = wanting_grown _ _ Border L N (at_edge Border 0 a ps ws) (edge_grows Border 0 a ps ws)
at_grown L N all a b ps ws (Found n k c) = go (has c N)
  where
    go : (t : Bool) → Grown (suc (length ps) + places ws) (suc (length ws)) (want_triangle L N all a b c ps ws t)
    go true =
        let o = choose_place a b c (drop_triangle b a L) all in
        wanting_grown _ _ o (drop_triangle b a L) N (at_edge o c a ps ws) (edge_grows o c a ps ws)
    go false = wanting_grown _ _ New (drop_triangle b a L) (N ++ (c ∷ [])) (at_edge New c a ps ws) (edge_grows New c a ps ws)

in_grown : (M L : List Triangle) (N : List ℕ) (all ls : List Ring) (ts : List Triangle)
    → Grown (places ls) (length ls) (want_in M L N all ls ts)
unfolding places
in_grown M L N all [] [] = tt
in_grown M L N all [] (t ∷ ts) = (omega arith, omega arith)
in_grown M L N all ([] ∷ ws) ts = tt
in_grown M L N all ((e ∷ ps) ∷ ws) ts =
    at_grown L N all (vertex e) (start_or (vertex e) ps) ps ws (across (start_or (vertex e) ps) (vertex e) M)

pub want_grown : (s : Packing) → Grown (places s.loops) (length s.loops) (want s)
want_grown s = in_grown s.mesh s.left s.numbered s.loops s.loops s.left
