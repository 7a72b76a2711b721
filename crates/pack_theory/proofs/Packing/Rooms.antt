-- Packing any list in any buffers: 1 to 8 and 22, test by test, then the run.
-- Assumes nothing.
use Prim.Native.Nat.{ℕ, ◌/◌, ◌≤◌, ◌<◌}
use native.Mathlib.Omega.{arith}
use mathlib.Core.Bool.{Bool, true, false, ◌&&◌}
use mathlib.Core.Logic.{◌⊎◌, inl, inr}
use mathlib.Core.List.{List}
use mathlib.Core.Path.{◌≡◌, refl, sym, ap, ap₂, ◌∙◌, subst}
use lib.ListN.{length, length-replicate}
use lib.Dec.{leb}
use borrow.Author.Tests.{leb-true, le-leb, lt-leb}
use Rattle.rules.specs.Packed.{Packed}
use Rattle.rules.specs.Checked.{Checked}
use Rattle.rules.specs.Checked as C
use Rattle.rules.specs.Packed as P
use Rattle.rules.specs.Limits.{max_places}
use Rattle.rules.specs.Triangle.{triangles_of}
use Rattle.rules.specs.Check.{passes, check}
use Rattle.rules.specs.Buffer.{free_place}
use Rattle.rules.specs.Pack.{PackBuffers, PackResult, turned_down, pack_long_enough, order_long_enough}
use Rattle.mesh_theory.specs.Chains.Linked.{Linked}
use Rattle.mesh_theory.proofs.Fans.Checks.{accepted_count, accepted_refused}
use Rattle.counting.proofs.Bools.{and_left}
use Rattle.pack_theory.specs.Packing.Lent.{lent, pack_on, IsResult, PackedOn, Fitting, ran_on, RunGives}
use Rattle.pack_theory.specs.Packing.Order.{OrderLong}
use Rattle.pack_theory.specs.Packing.Rooms.{if_accepted, rooms_checked}
use Rattle.pack_theory.proofs.Packing.Lending.{tested, pack_tested}

-- 8 and 22, by what the two tests say
abbrev rooms : Bool → Bool → Checked
rooms s t = passes s 8 (passes t 22 C.Accepted)

-- ---- test by test

module _ (v : ℕ) (xs : List ℕ) (a b n : ℕ) where
  by_tests : (c : Checked) (s t : Bool) → c ≡ check v xs → leb v a && leb max_places n ≡ s → leb (length (triangles_of xs)) b ≡ t
      → if_accepted c (rooms s t) ≡ rooms_checked v xs a b n
  unfolding rooms_checked
  by_tests c s t e f g = ap₂ if_accepted e (ap₂ rooms (sym f) (sym g))

  module _ (c : Checked) (e : c ≡ check v xs) where
    pub rooms_list : (k : ℕ) → c ≡ C.Refused k → c ≡ rooms_checked v xs a b n
    rooms_list k q = q ∙ by_tests (C.Refused k) _ _ (sym q ∙ e) refl refl

    module _ (q : c ≡ C.Accepted) where
      accepted : C.Accepted ≡ check v xs
      accepted = sym q ∙ e

      thirds : length xs / 3 ≡ length (triangles_of xs)
      thirds = omega (arith, (accepted_count v xs (sym accepted)).0)

      pub rooms_short : (a < v) ⊎ (v ≤ a) × (n < 1024) → C.Refused 8 ≡ rooms_checked v xs a b n
      unfolding passes
      rooms_short (inl l) = by_tests C.Accepted false _ accepted (ap (λ (s : Bool). s && leb max_places n) (lt-leb v a l)) refl
      rooms_short (inr (enough, l)) =
          by_tests C.Accepted false _ accepted (ap₂ ◌&&◌ (le-leb v a enough) (lt-leb max_places n l)) refl

      module _ (enough : v ≤ a) where
        module _ (many : 1024 ≤ n) where
          both : leb v a && leb max_places n ≡ true
          both = ap₂ ◌&&◌ (le-leb v a enough) (le-leb max_places n many)

          pub rooms_order : b < length xs / 3 → C.Refused 22 ≡ rooms_checked v xs a b n
          unfolding passes
          rooms_order l = by_tests C.Accepted true false accepted both (lt-leb (length (triangles_of xs)) b (omega (arith, l, thirds)))

          pub rooms_pass : length xs / 3 ≤ b → C.Accepted ≡ rooms_checked v xs a b n
          unfolding passes
          rooms_pass l = by_tests C.Accepted true true accepted both (le-leb (length (triangles_of xs)) b (omega (arith, l, thirds)))

  -- what passing them says
  pub record Passed : Type 0 where
    pub list : check v xs ≡ C.Accepted
    pub long : leb v a && leb max_places n ≡ true
    pub order : leb (length (triangles_of xs)) b ≡ true

  pub rooms_accepted : Passed → rooms_checked v xs a b n ≡ C.Accepted
  unfolding passes
  rooms_accepted p = sym (by_tests C.Accepted true true (sym p.list) p.long p.order)

  pub rooms_passed : rooms_checked v xs a b n ≡ C.Accepted → Passed
  unfolding rooms_checked passes
  rooms_passed h = go (check v xs) (leb v a && leb max_places n) (leb (length (triangles_of xs)) b) refl refl refl h
    where
      go : (c : Checked) (s t : Bool) → check v xs ≡ c → leb v a && leb max_places n ≡ s → leb (length (triangles_of xs)) b ≡ t
          → if_accepted c (rooms s t) ≡ C.Accepted → Passed
      go (C.Refused k) s t e f g h = absurd (accepted_refused k (sym h))
      go C.Accepted false t e f g h = absurd (accepted_refused 8 (sym h))
      go C.Accepted true false e f g h = absurd (accepted_refused 22 (sym h))
      go C.Accepted true true e f g h = record { list = e; long = f; order = g }

-- ---- how a packing goes by them

-- a refusal before the run changes nothing; else p
abbrev pub past : PackBuffers → Checked → PackResult → PackResult
past r (C.Refused k) p = turned_down k r
past r C.Accepted p = p

tested_past : (v : ℕ) (xs : List ℕ) (r : PackBuffers) (p : PackResult) (c : Checked)
    → tested v (triangles_of xs) r c p ≡ past r (if_accepted c (rooms (pack_long_enough v r) (order_long_enough (triangles_of xs) r))) p
unfolding passes
tested_past v xs r p (C.Refused k) = refl
tested_past v xs r p C.Accepted = go (pack_long_enough v r) (order_long_enough (triangles_of xs) r)
  where
    go : (s t : Bool)
        → elim s [ true ↦ elim t [ true ↦ p | false ↦ turned_down 22 r ] | false ↦ turned_down 8 r ] ≡ past r (rooms s t) p
    go true true = refl
    go true false = refl
    go false t = refl

pub pack_by_rooms : (v : ℕ) (xs ns bs os : List ℕ) (n : ℕ)
    → pack_on v xs n ns bs os ≡ past (lent n ns bs os) (rooms_checked v xs (length ns) (length os) n) (ran_on v xs n ns bs os)
unfolding rooms_checked
pack_by_rooms v xs ns bs os n =
    pack_tested v xs (lent n ns bs os)
    ∙ tested_past v xs (lent n ns bs os) (ran_on v xs n ns bs os) (check v xs)
    ∙ ap (λ (i : ℕ). past (lent n ns bs os) (rooms_checked v xs (length ns) (length os) i) (ran_on v xs n ns bs os))
    (length-replicate n free_place)

module _ (v : ℕ) (xs ns bs os : List ℕ) (n : ℕ) (c : Checked) (e : c ≡ rooms_checked v xs (length ns) (length os) n) where
  goes : (d : Checked) → c ≡ d → pack_on v xs n ns bs os ≡ past (lent n ns bs os) d (ran_on v xs n ns bs os)
  goes d q = pack_by_rooms v xs ns bs os n ∙ ap (λ (x : Checked). past (lent n ns bs os) x (ran_on v xs n ns bs os)) (sym e ∙ q)

  -- 1 to 8 and 22
  pub packed_refused : (k : ℕ) → c ≡ C.Refused k → PackedOn v xs ns bs os n (P.Refused k) ns bs os
  packed_refused k q =
      subst (λ (x : PackResult). IsResult x (P.Refused k) ns bs os) (sym (goes (C.Refused k) q))
      (record { answer = refl; numbering = refl; bytes = refl; order = refl })

  module _ (q : c ≡ C.Accepted) where
    passed : Passed v xs (length ns) (length os) n
    passed = rooms_passed v xs (length ns) (length os) n (sym e ∙ q)

    pub packed_room : OrderLong xs os
    packed_room = leb-true (length (triangles_of xs)) (length os) passed.order

    pub packed_fitting : (cs m : List ℕ) → Linked xs cs → length m ≡ 5320 → Fitting v xs cs ns m
    packed_fitting cs m l w = record {
      accepted = passed.list;
      linked = l;
      enough = leb-true v (length ns) (and_left (leb v (length ns)) (leb max_places n) passed.long);
      whole = w;
    }

    pub packed_ran : (p : Packed) (ns' bs' os' : List ℕ) → RunGives v xs ns bs os p ns' bs' os' → PackedOn v xs ns bs os n p ns' bs' os'
    packed_ran p ns' bs' os' g = subst (λ (x : PackResult). IsResult x p ns' bs' os') (sym (goes C.Accepted q)) (g n)
