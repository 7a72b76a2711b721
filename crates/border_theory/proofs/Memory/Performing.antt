-- A plan that is decided can be done: it finds its free place, and nothing stands outside the memory.
-- Assumes nothing.
use Prim.Native.Nat.{ℕ, ◌+◌, ◌-◌, ◌*◌, ◌≤◌, ◌<◌}
use native.Mathlib.Omega.{arith}
use mathlib.Core.Bool.{Bool, true, false, ◌&&◌, false≢true}
use mathlib.Core.List.{List, [], ◌∷◌}
use mathlib.Core.Path.{◌≡◌, refl, ap, ◌∙◌, subst}
use lib.ListN.{length}
use lib.Dec.{leb}
use borrow.Author.Tests.{leb-true}
use Rattle.rules.specs.Ring.{Ring, vertex, start_or, vertex_at, loop_at}
use Rattle.cutborder.specs.declared.Loops.{Loops}
use Rattle.cutborder.specs.declared.Front.{Front}
use Rattle.cutborder.specs.declared.Plan.{Plan}
use Rattle.border_theory.specs.Memory.Decision.{Decided}
use Rattle.cutborder.specs.declared.Action.TheVariants.{Builds, Marks}
use Rattle.std.specs.Prelude.{Err, Ok}
use Rattle.border_theory.specs.Memory.Layout.{at, after_of, walked}
use Rattle.border_theory.specs.Memory.Stands.{StandsAt}
use Rattle.border_theory.specs.Memory.Decision.{allowed_if, new_edges, room_for, room_by, decided_by}
use Rattle.border_theory.specs.Memory.Near.{Doubles}
use Rattle.border_theory.proofs.Memory.Standing.{trails, trail_at, walk_trail, near_trail}
use Rattle.border_theory.proofs.Memory.Waiting.{waits_at}
use Rattle.border_theory.proofs.Memory.Doubled.{split_hop, union_hop}
use Rattle.border_theory.proofs.Memory.Near.{start_any}
use Rattle.counting.proofs.Bools.{and_left, and_right}
use Rattle.rules.specs.declared.refusal.Refusal.{Refusal}

-- what a decision to build rests on
pub record Chosen (n : ℕ) (s : Front) (d : Decided) (p : Plan) : Type 0 where
  pub is : d ≡ Ok (Builds p)
  pub room : room_for n s p ≡ true

pub never : (k : Refusal) (p : Plan) → Err k ≡ Ok (Builds p) → ⊥
never k p e = let z : ◌≡◌ {A = ℕ} 0 1 = cc in omega arith

pub never_marks : (x y : ℕ) (p : Plan) → ◌≡◌ {A = Decided} (Ok (Marks x y)) (Ok (Builds p)) → ⊥
never_marks x y p e = let z : ◌≡◌ {A = ℕ} 0 1 = cc in omega arith

pub same_plan : (p q : Plan) → ◌≡◌ {A = Decided} (Ok (Builds q)) (Ok (Builds p)) → q ≡ p
same_plan p q e = cc

pub chosen : (n : ℕ) (s : Front) (d : Decided) (p : Plan) → decided_by n s d ≡ Ok (Builds p) → Chosen n s d p
chosen n s (Err k) p e = absurd (never k p e)
chosen n s (Ok (Marks x y)) p e = absurd (never_marks x y p e)
chosen n s (Ok (Builds q)) p e = go (room_for n s q) refl e
  where
    go : (t : Bool) → room_for n s q ≡ t → room_by t q ≡ Ok (Builds p) → Chosen n s (Ok (Builds q)) p
    go true r h = let z : q ≡ p = same_plan p q h in record { is = h; room = subst (λ (x : Plan). room_for n s x ≡ true) z r }
    go false r h = absurd (never _ p h)

pub record HasRoom (n : ℕ) (s : Front) (p : Plan) : Type 0 where
  pub vertices : s.used + p.vertices ≤ s.stated.vertices
  pub triangles : s.built + 1 ≤ s.stated.triangles
  pub places : n - s.loops.free + 2 * new_edges p ≤ s.stated.places + 3
  pub loops : s.loops.live + new_edges p + 2 * p.starts ≤ s.stated.loops + p.vertices + 1 + 2 * p.unions

pub has_room : (n : ℕ) (s : Front) (p : Plan) → room_for n s p ≡ true → HasRoom n s p
unfolding room_for
has_room n s p h =
    let w1 = leb (s.used + p.vertices) s.stated.vertices in
    let w2 = leb (s.built + 1) s.stated.triangles in
    let w3 = leb (n - s.loops.free + 2 * new_edges p) (s.stated.places + 3) in
    let h3 = and_left (w1 && w2 && w3) _ h in
    let h2 = and_left (w1 && w2) w3 h3 in
    record {
      vertices = leb-true (s.used + p.vertices) s.stated.vertices (and_left w1 w2 h2);
      triangles = leb-true (s.built + 1) s.stated.triangles (and_right w1 w2 h2);
      places = leb-true (n - s.loops.free + 2 * new_edges p) (s.stated.places + 3) (and_right (w1 && w2) w3 h3);
      loops =
          leb-true (s.loops.live + new_edges p + 2 * p.starts) (s.stated.loops + p.vertices + 1 + 2 * p.unions)
          (and_right (w1 && w2 && w3) _ h);
    }

-- a test that must have passed
pub record Passed (t : Bool) (d : Decided) (p : Plan) : Type 0 where
  pub test : t ≡ true
  pub is : d ≡ Ok (Builds p)

pub passed : (t : Bool) (d : Decided) (p : Plan) → allowed_if t d ≡ Ok (Builds p) → Passed t d p
unfolding allowed_if
passed true d p e = record { test = refl; is = e }
passed false d p e = absurd (never _ p e)

-- the second place of a split's and a union's third vertex
module _ (n : ℕ) (l : Loops) (m : List ℕ) (some : 1 ≤ l.free) where
  pub doubles_split : (rs : List Ring) → StandsAt n l m rs → 1 ≤ l.live → (i : ℕ) → 1 ≤ i → i + 2 ≤ l.size
      → Doubles n l m (walked m i (after_of m l.current))
  doubles_split [] st h i a b = absurd (omega (arith, h, st.heads))
  doubles_split ([] ∷ ws) st h i a b = absurd (false≢true st.sound.0)
  doubles_split ((e ∷ ps) ∷ ws) st h i a b =
      let t = (trails n l m ((e ∷ ps) ∷ ws) st).0 in
      let k : i < length ps = omega (arith, b, st.heads.size) in
      let c : l.current ≡ vertex e = st.heads.current in
      let w : walked m i (after_of m l.current) ≡ vertex_at ps i =
      ap (walked m i) (ap (after_of m) c ∙ t.0.fore) ∙ walk_trail n m (vertex e) ps i t.1 k in
      let hop = split_hop n m (vertex e) ps i (omega (arith, a)) k t.1 in
      rw w (record { some = some; place = near_trail n m (vertex e) ps i t.1 k; before = rw hop.back hop.near })

  pub doubles_union : (rs : List Ring) → StandsAt n l m rs → (p j : ℕ) → 1 ≤ p → p ≤ l.live - 1
      → j < at m (5 * n + 2 * (l.live - 1 - p) + 1)
      → Doubles n l m (walked m j (at m (5 * n + 2 * (l.live - 1 - p))))
  doubles_union [] st p j a b c = absurd (omega (arith, a, b, st.heads))
  doubles_union (r ∷ ws) st p j a b c =
      let i : ℕ = p - 1 in
      let low : ℕ = l.live - 1 - p in
      let e : low + i + 1 ≡ length ws = omega (arith, a, b, st.heads.live) in
      let x = waits_at n m ws i low e st.heads.waiting in
      let w : Ring = loop_at ws i in
      let k : j < length w = subst (λ (y : ℕ). j < y) x.1 c in
      let d = trail_at n m ws i (trails n l m (r ∷ ws) st).1 in
      let v : walked m j (at m (5 * n + 2 * low)) ≡ vertex_at w j =
      ap (walked m j) (x.0 ∙ start_any 0 (start_or 0 w) w (omega (arith, k))) ∙ walk_trail n m (start_or 0 w) w j d k in
      let hop = union_hop n m w j k d in
      rw v (record { some = some; place = near_trail n m (start_or 0 w) w j d k; before = rw hop.back hop.near })
