-- The theory of links: no directed edge twice makes turning about a vertex a partial injective function.
-- Assumes nothing.
use Prim.Native.Nat.{ℕ}
use mathlib.Core.List.{List, [], ◌∷◌}
use mathlib.Core.Path.{◌≡◌, refl, sym, ◌∙◌, subst}
use mathlib.Core.Logic.{◌⊎◌, inl, inr}
use Rattle.rules.specs.declared.Triangle.{Triangle}
use Rattle.mesh_theory.specs.Fans.Corner.{Once}
use Rattle.rules.specs.Fan.{Linked, Pair, end_of, Round, Neighbours}
use Rattle.rules.specs.Right.{Links, stop, link}
use Rattle.rules.specs.Triangle.{Rot, at_p, at_q, at_r, In, here, there}
use Rattle.mesh_theory.proofs.Fans.Corners.{in_next, rot_third}
use Rattle.choice_theory.specs.Spots.{Unused}
use Rattle.choice_theory.proofs.Turning.Turn.{Turn, rest, turn, jump}

pub in_last : {x y z : ℕ} {ts : List Triangle} → In x y z ts → In z x y ts
in_last i = in_next (in_next i)

-- an edge that a triangle has
pub free_rot : {t : Triangle} {x y z : ℕ} (ts : List Triangle)
    → Unused t.p t.q ts × Unused t.q t.r ts × Unused t.r t.p ts → Rot t x y z → Unused x y ts
free_rot ts f (at_p a b c) w i = f.0 w (rw (a, b) i)
free_rot ts f (at_q a b c) w i = f.1 w (rw (a, b) i)
free_rot ts f (at_r a b c) w i = f.2 w (rw (a, b) i)

-- the triangle at a directed edge is one
pub once_func : {x y z w : ℕ} (ts : List Triangle) → Once ts → In x y z ts → In x y w ts → z ≡ w
once_func (t ∷ ts) o (here a) (here b) = rot_third a b
once_func (t ∷ ts) o (here a) (there j) = absurd (free_rot ts o.0 a _ j)
once_func (t ∷ ts) o (there i) (here b) = absurd (free_rot ts o.0 b _ i)
once_func (t ∷ ts) o (there i) (there j) = once_func ts o.2 i j
once_func {y = y} {z = z} {w = w} [] o x4 _ = elim x4 [ ]

-- turning back is a function too
pub once_inj : {c x y z : ℕ} (ts : List Triangle) → Once ts → In c x z ts → In c y z ts → x ≡ y
once_inj ts o i j = once_func ts o (in_last i) (in_last j)

pub turn_join : {M : List Triangle} {c : ℕ} {ts : List Triangle} {x y z : ℕ} → Turn M c ts x y → Turn M c ts y z → Turn M c ts x z
turn_join rest m = m
turn_join (turn i l) m = turn i (turn_join l m)
turn_join (jump f g l) m = jump f g (turn_join l m)

-- more triangles: the same path
pub turn_more : {M : List Triangle} {c : ℕ} {ts : List Triangle} {x y : ℕ} (t : Triangle) → Turn M c ts x y → Turn M c (t ∷ ts) x y
turn_more t rest = rest
turn_more t (turn i l) = turn (there i) (turn_more t l)
turn_more t (jump f g l) = jump f g (turn_more t l)

pub links_turn : {M : List Triangle} {c : ℕ} {ts : List Triangle} {x y : ℕ} → Links c ts x y → Turn M c ts x y
links_turn stop = rest
links_turn (link i l) = turn i (links_turn l)

-- the last link of a path
pub record Last (c : ℕ) (ts : List Triangle) (x y : ℕ) : Type 0 where
  pub mid : ℕ
  pub front : Links c ts x mid
  pub final : In c mid y ts

pub last_link : {c : ℕ} {ts : List Triangle} {x y : ℕ} → Links c ts x y → (x ≡ y) ⊎ Last c ts x y
last_link stop = inl refl
last_link {c = c} {ts = ts} {x = x} {y = y} (link {z = z} i l) = go (last_link l)
  where
    go : (z ≡ y) ⊎ Last c ts z y → (x ≡ y) ⊎ Last c ts x y
    go (inl e) = inr (record { mid = x; front = stop; final = subst (λ (w : ℕ). In c x w ts) e i })
    go (inr r) = inr (record { mid = r.mid; front = link i r.front; final = r.final })

-- two paths to one end: one holds the other
pub links_meet : {c : ℕ} (ts : List Triangle) {x y u : ℕ} → Once ts → Links c ts x u → Links c ts y u → Links c ts x y ⊎ Links c ts y x
links_meet ts o stop m = inr m
links_meet {c = c} ts {x = x} {y = y} {u = u} o (link {z = z} i l) m = go (links_meet ts o l m)
  where
    back : (y ≡ z) ⊎ Last c ts y z → Links c ts x y ⊎ Links c ts y x
    back (inl e) = inl (link (subst (λ (w : ℕ). In c x w ts) (sym e) i) stop)
    back (inr r) = inr (subst (λ (w : ℕ). Links c ts y w) (once_inj ts o r.final i) r.front)

    go : Links c ts z y ⊎ Links c ts y z → Links c ts x y ⊎ Links c ts y x
    go (inl k) = inl (link i k)
    go (inr k) = back (last_link k)

-- two paths from one start: one goes on from the other's end
pub links_fork : {c : ℕ} (ts : List Triangle) {x y u : ℕ} → Once ts → Links c ts u x → Links c ts u y → Links c ts x y ⊎ Links c ts y x
links_fork ts o stop m = inl m
links_fork ts o (link i l) stop = inr (link i l)
links_fork {c = c} ts {x = x} {y = y} o (link {z = z} i l) (link {z = w} j m) =
    links_fork ts o l (subst (λ (v : ℕ). Links c ts v y) (once_func ts o j i) m)

-- a path with jumps is one without, or has a first and a last jump
pub record Jumped (M : List Triangle) (c : ℕ) (ts : List Triangle) (x y : ℕ) : Type 0 where
  pub from : ℕ
  pub to : ℕ
  pub before : Links c ts x from
  pub out : Unused c from M
  pub back : Unused to c M
  pub after : Links c ts to y

pub turn_cases : {M : List Triangle} {c : ℕ} {ts : List Triangle} {x y : ℕ} → Turn M c ts x y → Links c ts x y ⊎ Jumped M c ts x y
turn_cases rest = inl stop
turn_cases {M = M} {c = c} {ts = ts} {x = x} {y = y} (turn {z = z} i l) = go (turn_cases l)
  where
    go : Links c ts z y ⊎ Jumped M c ts z y → Links c ts x y ⊎ Jumped M c ts x y
    go (inl k) = inl (link i k)
    go (inr j) =
        inr (record { from = j.from; to = j.to; before = link i j.before; out = j.out; back = j.back; after = j.after })
turn_cases {M = M} {c = c} {ts = ts} {x = x} {y = y} (jump {w = w} f g l) = inr (go (turn_cases l))
  where
    go : Links c ts w y ⊎ Jumped M c ts w y → Jumped M c ts x y
    go (inl k) = record { from = x; to = w; before = stop; out = f; back = g; after = k }
    go (inr j) = record { from = x; to = j.to; before = stop; out = f; back = j.back; after = j.after }

-- the end of a run
run_end : (M : List Triangle) (c : ℕ) (m : ℕ) (ns : List ℕ) (x u : ℕ) → Linked c M (m ∷ ns) → Pair x u (m ∷ ns) → Unused c u M
    → u ≡ end_of m ns
run_end M c m (n ∷ []) x u r (inl e) f = sym e.1
run_end M c m (n ∷ (k ∷ ns)) x u r (inl e) f = absurd (f k (subst (λ (w : ℕ). In c w k M) e.1 r.1.0))
run_end M c m (n ∷ ns) x u r (inr p) f = run_end M c n ns x u r.1 p f
run_end M c m [] x u r x5 f = elim x5 [ ]

fan_end : (M : List Triangle) (c : ℕ) (ns : List ℕ) (x u y w : ℕ) → Linked c M ns → Pair x u ns → Unused c u M → Pair y w ns → Unused c w M
    → u ≡ w
fan_end M c (m ∷ ns) x u y w r p f q g = run_end M c m ns x u r p f ∙ sym (run_end M c m ns y w r q g)
fan_end M c [] x u y w r p f q g = elim p [ ]

-- one fan has at most one border edge into its vertex
pub one_end : (M : List Triangle) (c x u y w : ℕ) → Neighbours M c → In c x u M → Unused c u M → In c y w M → Unused c w M → u ≡ w
one_end M c x u y w o i f j g = fan_end M c o.fan x u y w o.run (o.whole x u i) f (o.whole y w j) g

-- the first link of a path
pub first_link : {c x y : ℕ} {ts : List Triangle} → Links c ts x y → (x ≡ y) ⊎ ((z : ℕ) × In c x z ts × Links c ts z y)
first_link stop = inl refl
first_link (link {z = z} i l) = inr (z, i, l)

run_to_end : (M : List Triangle) (c : ℕ) (m : ℕ) (ns : List ℕ) (x u : ℕ) → Linked c M (m ∷ ns) → Pair x u (m ∷ ns)
    → Links c M u (end_of m ns)
run_to_end M c m (n ∷ ns) x u r (inl e) = subst (λ (w : ℕ). Links c M w (end_of n ns)) e.1 (whole n ns r.1)
  where
    whole : (k : ℕ) (ks : List ℕ) → Linked c M (k ∷ ks) → Links c M k (end_of k ks)
    whole k [] q = stop
    whole k (l ∷ ks) q = link q.0 (whole l ks q.1)
run_to_end M c m (n ∷ ns) x u r (inr p) = run_to_end M c n ns x u r.1 p
run_to_end M c m [] x u r x4 = elim x4 [ ]

run_from_start : (M : List Triangle) (c : ℕ) (m : ℕ) (ns : List ℕ) (x u : ℕ) → Linked c M (m ∷ ns) → Pair x u (m ∷ ns) → Links c M m x
run_from_start M c m (n ∷ ns) x u r (inl e) = subst (λ (w : ℕ). Links c M m w) e.0 stop
run_from_start M c m (n ∷ ns) x u r (inr p) = link r.0 (run_from_start M c n ns x u r.1 p)
run_from_start M c m [] x u r x4 = elim x4 [ ]

-- turning on from a triangle leads back to it, with a jump if the fan is open
pub turn_round : (M : List Triangle) (c x u : ℕ) → Neighbours M c → In c x u M → Turn M c M u x
turn_round M c x u o i = go o.fan o.run o.round (o.whole x u i)
  where
    go : (ns : List ℕ) → Linked c M ns → Round c M ns → Pair x u ns → Turn M c M u x
    go (m ∷ ns) r (inl e) p =
        turn_join (links_turn (run_to_end M c m ns x u r p))
        (subst (λ (w : ℕ). Turn M c M w x) e (links_turn (run_from_start M c m ns x u r p)))
    go (m ∷ ns) r (inr e) p =
        turn_join (links_turn (run_to_end M c m ns x u r p)) (jump e.1 e.0 (links_turn (run_from_start M c m ns x u r p)))
    go [] r _ p = elim p [ ]

pub turn_map : {M : List Triangle} {c : ℕ} {ts : List Triangle} {x y : ℕ} {us : List Triangle} → ((v w : ℕ) → In c v w ts → In c v w us)
    → Turn M c ts x y → Turn M c us x y
turn_map g rest = rest
turn_map g (turn i l) = turn (g _ _ i) (turn_map g l)
turn_map g (jump f h l) = jump f h (turn_map g l)
