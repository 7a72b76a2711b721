-- The order that a packing writes names the triangles that it builds, one by one.
-- Assumes nothing.
use Prim.Native.Nat.{ℕ, zero, suc, ◌<◌}
use native.Mathlib.Omega.{arith}
use mathlib.Core.Bool.{Bool, true, false}
use mathlib.Core.List.{List, [], ◌∷◌, ◌++◌}
use mathlib.Core.Path.{◌≡◌, refl, sym, subst}
use lib.ListN.{length, get_or}
use lib.Dec.{leb}
use Rattle.rules.specs.declared.Triangle.{Triangle}
use Rattle.rules.specs.Across.{Across}
use Rattle.rules.specs.Across.{Found, Nothing}
use Rattle.rules.specs.declared.Operation.{Operation}
use Rattle.rules.specs.declared.Operation.TheVariants.{New, Border}
use Rattle.rules.specs.Triangle.{tri, Rot, at_p, In, here, there}
use Rattle.rules.specs.Across.{in_triangle, across}
use Rattle.rules.specs.Ring.{Node, Ring, vertex, start_or, places}
use Rattle.rules.specs.Table.{Effect, not_allowed, builds, marks, at_edge}
use Rattle.rules.specs.Choice.{Packing, has, drop_triangle, choose_place, Next, ended, refuses, takes, packing_after, limited, choose}
use Rattle.rules.specs.Order.{number_found, next_number_in, next_number, order_by}
use Rattle.mesh_theory.specs.Fans.Corner.{Once}
use Rattle.mesh_theory.proofs.Fans.Finding.{across_found, found_below, found_place}
use Rattle.choice_theory.specs.Building.{next_built, built_by}
use Rattle.choice_theory.proofs.Turning.Ways.{across_some}
use Rattle.roundtrip.specs.Claims.{Rotated, nth}
use Rattle.roundtrip.proofs.Wanting.{Want, idle, wants, wanting, want_triangle, want_at, want_in, want, doing, choose_want}

-- n is the number of the triangle u in the list ts
pub record HasNumber (ts : List Triangle) (n : ℕ) (u : Triangle) : Type 0 where
  pub below : n < length ts
  pub seen : Rotated (nth ts n) u

-- the numbers are those of the triangles, one by one
pub data Names (ts : List Triangle) : List ℕ → List Triangle → Type 0 where
  none_named : Names ts [] []
  one_named : {n : ℕ} {u : Triangle} {ns : List ℕ} {us : List Triangle} → HasNumber ts n u → Names ts ns us → Names ts (n ∷ ns) (u ∷ us)

names_append : {ts us vs : List Triangle} {ns ms : List ℕ} → Names ts ns us → Names ts ms vs → Names ts (ns ++ ms) (us ++ vs)
names_append none_named k = k
names_append (one_named m h) k = one_named m (names_append h k)

pub names_length : {ts us : List Triangle} {ns : List ℕ} → Names ts ns us → length ns ≡ length us
names_length none_named = refl
names_length (one_named m h) = omega (arith, names_length h)

pub names_at : {ts us : List Triangle} {ns : List ℕ} → Names ts ns us → (i : ℕ) → i < length us → HasNumber ts (get_or ns i 0) (nth us i)
names_at none_named i l = absurd (omega arith)
names_at (one_named m h) zero l = m
names_at (one_named m h) (suc i) l = names_at h i (omega arith)

-- the triangle that a look-up finds
found_named : (x y : ℕ) (ts : List Triangle) (n k z : ℕ) → across x y ts ≡ Found n k z → HasNumber ts n (tri x y z)
found_named x y ts n k z e =
    let f = across_found x y ts n k z e in
    record { below = found_below ts f; seen = subst (λ (t : Triangle). Rot t x y z) (sym (found_place ts f (tri 0 0 0))) f.seen }

-- every triangle of the one list is in the other
abbrev pub Among : List Triangle → List Triangle → Type 0
Among ts us = (x y z : ℕ) → In x y z ts → In x y z us

-- one operation
next_names : (M : List Triangle) (ls : List Ring) (L : List Triangle) → Once M → Among L M
    → Names M (next_number_in M ls L) (next_built M ls L)
unfolding next_built
next_names M [] [] o sub = none_named
next_names M [] (t ∷ ts) o sub =
    let f = across_some t.p t.q t.r M o (sub t.p t.q t.r (here (at_p refl refl refl))) in
    subst (λ (m : Across). Names M (number_found m) (t ∷ [])) (sym f.found)
    (one_named (found_named t.p t.q M f.number f.corner t.r f.found) none_named)
next_names M ([] ∷ ws) L o sub = none_named
next_names M ((e ∷ ps) ∷ ws) L o sub = go (across b a M) refl
  where
    a : ℕ
    a = vertex e

    b : ℕ
    b = start_or (vertex e) ps

    go : (m : Across) → across b a M ≡ m → Names M (number_found m) (elim m [ Nothing ↦ [] | Found n k c ↦ tri b a c ∷ [] ])
    go Nothing h = none_named
    go (Found n k c) h = one_named (found_named b a M n k c h) none_named

-- what is left after an operation was left before
drop_among : (x y : ℕ) (ts : List Triangle) → Among (drop_triangle x y ts) ts
unfolding drop_triangle
drop_among x y [] u v w i = i
drop_among x y (t ∷ ts) u v w i = go (in_triangle x y t) (drop_among x y ts u v w) i
  where
    go : (m : Across) → (In u v w (drop_triangle x y ts) → In u v w ts)
        → In u v w (elim m [ Found n k z ↦ ts | Nothing ↦ t ∷ drop_triangle x y ts ]) → In u v w (t ∷ ts)
    go (Found n k z) ih j = there j
    go Nothing ih (here r) = here r
    go Nothing ih (there j) = there (ih j)

abbrev LeavesAmong : List Triangle → Want → Type 0
LeavesAmong L idle = Unit {0}
LeavesAmong L (wants o ts vs ls) = Among ts L

wanting_leaves : (L : List Triangle) (o : Operation) (ts : List Triangle) (vs : List ℕ) (ef : Effect) → Among ts L
    → LeavesAmong L (wanting o ts vs ef)
wanting_leaves L o ts vs not_allowed h = tt
wanting_leaves L o ts vs (builds x) h = h
wanting_leaves L o ts vs (marks x) h = h

at_leaves : (L : List Triangle) (N : List ℕ) (all : List Ring) (a b : ℕ) (ps : List Node) (ws : List Ring) (m : Across)
    → LeavesAmong L (want_at L N all a b ps ws m)
at_leaves L N all a b ps ws Nothing = wanting_leaves L Border L N (at_edge Border 0 a ps ws) (λ x y z i. i)
at_leaves L N all a b ps ws (Found n k c) = go (has c N)
  where
    go : (t : Bool) → LeavesAmong L (want_triangle L N all a b c ps ws t)
    go true =
        let o = choose_place a b c (drop_triangle b a L) all in
        wanting_leaves L o (drop_triangle b a L) N (at_edge o c a ps ws) (drop_among b a L)
    go false = wanting_leaves L New (drop_triangle b a L) (N ++ (c ∷ [])) (at_edge New c a ps ws) (drop_among b a L)

in_leaves : (M : List Triangle) (N : List ℕ) (all ls : List Ring) (L : List Triangle) → LeavesAmong L (want_in M L N all ls L)
in_leaves M N all [] [] = tt
in_leaves M N all [] (t ∷ ts) = λ x y z i. there i
in_leaves M N all ([] ∷ ws) L = tt
in_leaves M N all ((e ∷ ps) ∷ ws) L =
    at_leaves L N all (vertex e) (start_or (vertex e) ps) ps ws (across (start_or (vertex e) ps) (vertex e) M)

-- an operation keeps the mesh, and leaves what was left or less
abbrev LeadsOn : Packing → Next → Type 0
LeadsOn s ended = Unit {0}
LeadsOn s (refuses k) = Unit {0}
LeadsOn s (takes o s') = (s'.mesh ≡ s.mesh) × Among s'.left s.left

limited_leads_on : (s : Packing) (o : Operation) (s' : Packing) → s'.mesh ≡ s.mesh → Among s'.left s.left
    → LeadsOn s (limited o s')
unfolding limited
limited_leads_on s o s' m h = go (leb (places s'.loops) s'.limit_places) (leb (length s'.loops) s'.limit_loops)
  where
    go : (u v : Bool) → LeadsOn s (elim u [ true ↦ elim v [ true ↦ takes o s' | false ↦ refuses 10 ] | false ↦ refuses 9 ])
    go true true = (m, h)
    go true false = tt
    go false v = tt

leads_on : (s : Packing) → LeadsOn s (choose s)
leads_on s = subst (LeadsOn s) (sym (choose_want s)) (go (want s) (in_leaves s.mesh s.numbered s.loops s.loops s.left))
  where
    go : (w : Want) → LeavesAmong s.left w → LeadsOn s (doing s w)
    go idle h = tt
    go (wants o ts vs ls) h = limited_leads_on s o (packing_after s ts vs ls) refl h

-- at most n operations
pub order_names : (n : ℕ) (s : Packing) → Once s.mesh → Among s.left s.mesh → Names s.mesh (order_by n s) (built_by n s)
unfolding order_by built_by
order_names zero s o sub = none_named
order_names (suc n) s o sub = go (choose s) (leads_on s) (λ s'. order_names n s')
  where
    go : (x : Next) → LeadsOn s x
        → ((s' : Packing) → Once s'.mesh → Among s'.left s'.mesh → Names s'.mesh (order_by n s') (built_by n s'))
        → Names s.mesh
        (elim x [ ended ↦ [] | refuses k ↦ [] | takes o s' ↦ next_number s ++ order_by n s' ])
        (elim x [ ended ↦ [] | refuses k ↦ [] | takes o s' ↦ next_built s.mesh s.loops s.left ++ built_by n s' ])
    go ended h again = none_named
    go (refuses k) h again = none_named
    go (takes p s') h again =
        names_append (next_names s.mesh s.loops s.left o sub)
        (subst (λ (M : List Triangle). Names M (order_by n s') (built_by n s')) h.0
        (again s' (subst Once (sym h.0) o) (λ x y z i. subst (In x y z) (sym h.0) (sub x y z (h.1 x y z i)))))
