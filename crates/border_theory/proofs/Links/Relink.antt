-- One lemma for all surgery on links: if each edge of the new loops is an old one or is stored, and no place is in them twice, then
-- the memory after the stores holds the new loops.
-- Assumes nothing.
use Prim.Native.Nat.{ℕ, ◌+◌, ◌≤◌, ◌<◌}
use native.Mathlib.Omega.{arith}
use mathlib.Core.Bool.{Bool, true, false}
use mathlib.Core.List.{List, [], ◌∷◌}
use mathlib.Core.Path.{◌≡◌, refl, sym, ap, ◌∙◌, subst}
use lib.ListN.{length, set, length-set}
use lib.Seq.{get_or-set_same, get_or-set_other}
use lib.Dec.{eqb}
use borrow.Author.Tests.{eqb-true, eqb-false}
use Rattle.rules.specs.Count.{num, same}
use Rattle.rules.specs.Ring.{Node, Ring, vertex, is_open, start_or}
use Rattle.book.specs.Sums.{Weight, path_sum, ring_sum, loops_sum, placed}
use Rattle.border_theory.specs.Links.Held.{Memory, Link, Arc, arc_hit, arcs, Holds}
use Rattle.counting.proofs.Counts.{same_no, hit_yes, hit_from, hit_to}

-- a memory of n places
pub record Long (n : ℕ) (m : Memory) : Type 0 where
  pub afters : length m.afters ≡ n
  pub befores : length m.befores ≡ n
  pub opens : length m.opens ≡ n

-- no place is in the loops twice
abbrev pub Apart : List Ring → Type 0
Apart ls = (x : ℕ) → placed x ls ≤ 1

-- how often an edge is in a list
unfoldable pub among : ℕ → ℕ → Bool → List Arc → ℕ
among x y o [] = 0
among x y o (d ∷ ds) = arc_hit x y o d.from d.to d.live + among x y o ds

-- edges stored, the last of the list first
unfoldable pub stored : List Arc → Memory → Memory
stored [] m = m
stored (d ∷ ds) m =
    let r = stored ds m in
    record {
      afters = set r.afters d.from d.to;
      befores = set r.befores d.to d.from;
      opens = set r.opens d.from (num d.live);
    }

-- weights that are together at most a third one
path_le : (v w z : Weight) → ((p q : ℕ) (o : Bool) → v p q o + w p q o ≤ z p q o) → (ps : List Node) (b : ℕ)
    → path_sum v ps b + path_sum w ps b ≤ path_sum z ps b
unfolding path_sum
path_le v w z h [] b = omega arith
path_le v w z h (p ∷ ps) b = omega (arith, h (vertex p) (start_or b ps) (is_open p), path_le v w z h ps b)

pub sum_le : (v w z : Weight) → ((p q : ℕ) (o : Bool) → v p q o + w p q o ≤ z p q o) → (ls : List Ring)
    → loops_sum v ls + loops_sum w ls ≤ loops_sum z ls
unfolding loops_sum ring_sum
sum_le v w z h [] = omega arith
sum_le v w z h (l ∷ ls) = omega (arith, path_le v w z h l (start_or 0 l), sum_le v w z h ls)

-- each place is entered as often as it is left
path_shift : (g : ℕ → ℕ) (p : Node) (ps : List Node) (b : ℕ)
    → path_sum (λ x y o. g y) (p ∷ ps) b + g (vertex p) ≡ path_sum (λ x y o. g x) (p ∷ ps) b + g b
unfolding path_sum
path_shift g p [] b = omega arith
path_shift g p (q ∷ ps) b = omega (arith, path_shift g q ps b)

pub sum_shift : (g : ℕ → ℕ) (ls : List Ring) → loops_sum (λ x y o. g y) ls ≡ loops_sum (λ x y o. g x) ls
unfolding loops_sum ring_sum path_sum
sum_shift g [] = refl
sum_shift g ([] ∷ ls) = omega (arith, sum_shift g ls)
sum_shift g ((p ∷ ps) ∷ ls) = omega (arith, path_shift g p ps (vertex p), sum_shift g ls)

-- an edge's hit, by its ends
arc_from : (x y : ℕ) (o : Bool) (p q : ℕ) (r : Bool) → arc_hit x y o p q r ≤ same x p
arc_from x y true p q true = hit_from x y p q
arc_from x y true p q false = omega arith
arc_from x y false p q true = omega arith
arc_from x y false p q false = hit_from x y p q

arc_to : (x y : ℕ) (o : Bool) (p q : ℕ) (r : Bool) → arc_hit x y o p q r ≤ same y q
arc_to x y true p q true = hit_to x y p q
arc_to x y true p q false = omega arith
arc_to x y false p q true = omega arith
arc_to x y false p q false = hit_to x y p q

pub arc_yes : (x y : ℕ) (o : Bool) → arc_hit x y o x y o ≡ 1
arc_yes x y true = hit_yes x y
arc_yes x y false = hit_yes x y

-- two edges from one place are one edge
two_from : (x y y' : ℕ) (o o' : Bool) (p q : ℕ) (r : Bool) → (y ≡ y' → ⊥) → arc_hit x y o p q r + arc_hit x y' o' p q r ≤ same x p
two_from x y y' o o' p q r d = go (eqb q y) refl
  where
    go : (t : Bool) → eqb q y ≡ t → arc_hit x y o p q r + arc_hit x y' o' p q r ≤ same x p
    go true e =
        let z : q ≡ y = eqb-true q y e in
        omega (arith, arc_from x y o p q r, arc_to x y' o' p q r, same_no y' q (λ f. d (sym (f ∙ z))))
    go false e = omega (arith, arc_from x y' o' p q r, arc_to x y o p q r, same_no y q (λ f. eqb-false q y e (sym f)))

two_marks : (x y : ℕ) (p q : ℕ) (r : Bool) → arc_hit x y true p q r + arc_hit x y false p q r ≤ same x p
two_marks x y p q true = omega (arith, hit_from x y p q)
two_marks x y p q false = omega (arith, hit_from x y p q)

two_to : (x x' y : ℕ) (o o' : Bool) (p q : ℕ) (r : Bool) → (x ≡ x' → ⊥) → arc_hit x y o p q r + arc_hit x' y o' p q r ≤ same y q
two_to x x' y o o' p q r d = go (eqb p x) refl
  where
    go : (t : Bool) → eqb p x ≡ t → arc_hit x y o p q r + arc_hit x' y o' p q r ≤ same y q
    go true e =
        let z : p ≡ x = eqb-true p x e in
        omega (arith, arc_to x y o p q r, arc_from x' y o' p q r, same_no x' p (λ f. d (sym (f ∙ z))))
    go false e = omega (arith, arc_to x' y o' p q r, arc_from x y o p q r, same_no x p (λ f. eqb-false p x e (sym f)))

module _ (ls : List Ring) (a : Apart ls) where
  one_from : (x x' y : ℕ) (o o' : Bool) → 1 ≤ arcs x y o ls → 1 ≤ arcs x' y o' ls → x ≡ x'
  one_from x x' y o o' h k = go (eqb x x') refl
    where
      go : (t : Bool) → eqb x x' ≡ t → x ≡ x'
      go true e = eqb-true x x' e
      go false e =
          absurd
          (omega (
            arith,
            a y,
            sum_shift (same y) ls,
            sum_le (arc_hit x y o) (arc_hit x' y o') (λ p q r. same y q) (λ p q r. two_to x x' y o o' p q r (eqb-false x x' e)) ls,
          ))

  one_to : (x y y' : ℕ) (o o' : Bool) → 1 ≤ arcs x y o ls → 1 ≤ arcs x y' o' ls → y ≡ y'
  one_to x y y' o o' h k = go (eqb y y') refl
    where
      go : (t : Bool) → eqb y y' ≡ t → y ≡ y'
      go true e = eqb-true y y' e
      go false e =
          absurd
          (omega (
            arith,
            a x,
            sum_le (arc_hit x y o) (arc_hit x y' o') (λ p q r. same x p) (λ p q r. two_from x y y' o o' p q r (eqb-false y y' e)) ls,
          ))

  one_mark : (x y : ℕ) (o o' : Bool) → 1 ≤ arcs x y o ls → 1 ≤ arcs x y o' ls → o ≡ o'
  one_mark x y true true h k = refl
  one_mark x y false false h k = refl
  one_mark x y true false h k =
      absurd (omega (arith, a x, sum_le (arc_hit x y true) (arc_hit x y false) (λ p q r. same x p) (two_marks x y) ls))
  one_mark x y false true h k =
      absurd (omega (arith, a x, sum_le (arc_hit x y true) (arc_hit x y false) (λ p q r. same x p) (two_marks x y) ls))

-- the stores are edges of the loops, at places that the lists have
abbrev pub Stores : List Ring → ℕ → List Arc → Type 0
Stores ls n [] = Unit {0}
Stores ls n (d ∷ ds) = (1 ≤ arcs d.from d.to d.live ls) × (d.from < n) × (d.to < n) × Stores ls n ds

pub long_stored : (n : ℕ) (ds : List Arc) (m : Memory) → Long n m → Long n (stored ds m)
unfolding stored
long_stored n [] m h = h
long_stored n (d ∷ ds) m h =
    let k = long_stored n ds m h in
    record { afters = simp length-set k.afters; befores = simp length-set k.befores; opens = simp length-set k.opens }

module _ (ls : List Ring) (a : Apart ls) (n : ℕ) (m : Memory) (long : Long n m) where
  -- an edge of the loops that is stored, or was recorded before
  stored_link : (ds : List Arc) → Stores ls n ds → (x y : ℕ) (o : Bool) → 1 ≤ arcs x y o ls → (among x y o ds ≡ 0 → Link m x y o)
      → Link (stored ds m) x y o
  unfolding stored among
  stored_link [] s x y o h k = k refl
  stored_link (d ∷ ds) s x y o h k = go (eqb d.from x) refl (stored_link ds s.3 x y o h)
    where
      long' : Long n (stored ds m)
      long' = long_stored n ds m long

      go : (t : Bool) → eqb d.from x ≡ t → ((among x y o ds ≡ 0 → Link m x y o) → Link (stored ds m) x y o)
          → Link (stored (d ∷ ds) m) x y o
      go true e more =
          let f : d.from ≡ x = eqb-true d.from x e in
          let h' : 1 ≤ arcs x d.to d.live ls = subst (λ (v : ℕ). 1 ≤ arcs v d.to d.live ls) f s.0 in
          let t : d.to ≡ y = one_to ls a x d.to y d.live o h' h in
          let l : d.live ≡ o = one_mark ls a x y d.live o (subst (λ (v : ℕ). 1 ≤ arcs x v d.live ls) t h') h in
          let b : d.from < n = s.1 in
          let c : d.to < n = s.2 in
          record {
            fore = rw (← f) (get_or-set_same (stored ds m).afters d.from d.to 0 (omega (arith, long'.afters)) ∙ t);
            back = rw (← t) (get_or-set_same (stored ds m).befores d.to d.from 0 (omega (arith, long'.befores)) ∙ f);
            mark = rw (← f) (get_or-set_same (stored ds m).opens d.from (num d.live) 0 (omega (arith, long'.opens)) ∙ ap num l);
          }
      go false e more =
          let f : d.from ≡ x → ⊥ = eqb-false d.from x e in
          let t : d.to ≡ y → ⊥ = λ z.
          f (one_from ls a d.from x y d.live o (subst (λ (v : ℕ). 1 ≤ arcs d.from v d.live ls) z s.0) h) in
          let r = more (λ z. k (omega (arith, z, arc_from x y o d.from d.to d.live, same_no x d.from (λ w. f (sym w))))) in
          record {
            fore = get_or-set_other (stored ds m).afters d.from x d.to 0 (λ z. f (sym z)) ∙ r.fore;
            back = get_or-set_other (stored ds m).befores d.to y d.from 0 (λ z. t (sym z)) ∙ r.back;
            mark = get_or-set_other (stored ds m).opens d.from x (num d.live) 0 (λ z. f (sym z)) ∙ r.mark;
          }

  -- the one lemma for all surgery
  pub relink : (before : List Ring) → Holds m before → (ds : List Arc) → Stores ls n ds
      → ((x y : ℕ) (o : Bool) → arcs x y o ls ≤ arcs x y o before + among x y o ds) → Holds (stored ds m) ls
  relink before h ds s c x y o k = stored_link ds s x y o k (λ z. h x y o (omega (arith, c x y o)))
