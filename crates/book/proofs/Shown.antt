-- Which places of a ring stay, and laws of shown rings: runs joined, marking the current edge, and what each operation does to a ring
-- and to the ring shown.
-- Assumes nothing.
use Prim.Native.Nat.{ℕ, zero, suc, ◌≤◌, ◌<◌}
use native.Mathlib.Omega.{arith}
use mathlib.Core.Bool.{Bool, true, false, not, false≢true}
use mathlib.Core.List.{List, [], ◌∷◌, ◌++◌, append-nil}
use mathlib.Core.Logic.{◌⊎◌, inl, inr}
use mathlib.Core.Path.{◌≡◌, refl, sym, ap, ap₂, ◌∙◌}
use lib.ListN.{length, take, drop}
use Rattle.rules.specs.Ring.{Node, opened, marked, Ring, is_open, start_or, last_open, onward, reached, shown}
use Rattle.book.proofs.Closed.{Closed, closed_snoc}
use Rattle.book.specs.Shown.{shown_all}

-- whether the last edge of a run is marked; m, if the run is empty
unfoldable pub ends : List Node → Bool → Bool
ends [] m = m
ends (p ∷ ps) m = ends ps (not (is_open p))

-- a place that stays: its own edge is open, or the one before it
abbrev pub Stays : List Node → Node → Type 0
Stays us p = (is_open p ≡ true) ⊎ (ends us false ≡ false)

-- rings whose first edge is open
abbrev pub Live : List Ring → Type 0
Live [] = Unit {0}
Live ([] ∷ ls) = ⊥
Live ((p ∷ ps) ∷ ls) = (is_open p ≡ true) × Live ls

-- runs joined
pub reached_append : (us vs : List Node) (m : Bool) → reached (us ++ vs) m ≡ reached us m ++ reached vs (ends us m)
unfolding reached ends
reached_append [] vs m = refl
reached_append (opened v ∷ us) vs m = ap (λ (l : List Node). opened v ∷ l) (reached_append us vs false)
reached_append (marked v ∷ us) vs true = reached_append us vs true
reached_append (marked v ∷ us) vs false = ap (λ (l : List Node). marked v ∷ l) (reached_append us vs true)

pub ends_append : (us vs : List Node) (m : Bool) → ends (us ++ vs) m ≡ ends vs (ends us m)
unfolding ends
ends_append [] vs m = refl
ends_append (u ∷ us) vs m = ends_append us vs (not (is_open u))

-- what is shown ends with the same kind of edge, and is shown whole
pub ends_reached : (us : List Node) (m : Bool) → ends (reached us m) m ≡ ends us m
unfolding reached ends
ends_reached [] m = refl
ends_reached (opened v ∷ us) m = ends_reached us false
ends_reached (marked v ∷ us) true = ends_reached us true
ends_reached (marked v ∷ us) false = ends_reached us true

pub reached_twice : (us : List Node) (m : Bool) → reached (reached us m) m ≡ reached us m
unfolding reached
reached_twice [] m = refl
reached_twice (opened v ∷ us) m = ap (λ (l : List Node). opened v ∷ l) (reached_twice us false)
reached_twice (marked v ∷ us) true = reached_twice us true
reached_twice (marked v ∷ us) false = ap (λ (l : List Node). marked v ∷ l) (reached_twice us true)

-- the place after one that an open edge enters is reached whatever comes before
pub reached_first : (p : Node) (vs : List Node) → reached (p ∷ vs) false ≡ p ∷ reached vs (not (is_open p))
unfolding reached
reached_first (opened v) vs = refl
reached_first (marked v) vs = refl

pub reached_cut : (us : List Node) (p : Node) (vs : List Node) → Stays us p
    → reached (us ++ (p ∷ vs)) false ≡ reached us false ++ (p ∷ reached vs (not (is_open p)))
unfolding reached
reached_cut us (opened v) vs h = reached_append us (opened v ∷ vs) false
reached_cut us (marked v) vs (inl h) = absurd (false≢true h)
reached_cut us (marked v) vs (inr h) =
    reached_append us (marked v ∷ vs) false ∙ ap (λ (t : Bool). reached us false ++ reached (marked v ∷ vs) t) h

closed_none : (us : List Node) → Closed us → reached us true ≡ []
unfolding reached
closed_none [] c = refl
closed_none (opened v ∷ us) c = absurd (false≢true (sym c.0))
closed_none (marked v ∷ us) c = closed_none us c.1

-- a run of places, then the marked place a, then marked places that are gone by
pub around : (rs back : List Node) (a : ℕ) → Closed back
    → reached ((rs ++ (marked a ∷ [])) ++ back) false ≡ reached (rs ++ (marked a ∷ [])) false
unfolding ends
around rs back a c =
    reached_append (rs ++ (marked a ∷ [])) back false
    ∙ ap (λ (l : List Node). reached (rs ++ (marked a ∷ [])) false ++ l)
    (ap (reached back) (ends_append rs (marked a ∷ []) false) ∙ closed_none back c)
    ∙ append-nil (reached (rs ++ (marked a ∷ [])) false)

same_around : (rs : List Node) (a : ℕ) → reached (reached rs false ++ (marked a ∷ [])) false ≡ reached (rs ++ (marked a ∷ [])) false
same_around rs a =
    reached_append (reached rs false) (marked a ∷ []) false
    ∙ ap₂ (λ (l : List Node) (t : Bool). l ++ reached (marked a ∷ []) t) (reached_twice rs false) (ends_reached rs false)
    ∙ sym (reached_append rs (marked a ∷ []) false)

border_by : (back back' qs : List Node) (a : ℕ) → Closed back → Closed back'
    → shown (onward back' (reached qs true ++ (marked a ∷ []))) ≡ shown (onward back (qs ++ (marked a ∷ [])))
unfolding onward reached
border_by back back' [] a c d = refl
border_by back back' (opened w ∷ rs) a c d =
    ap (λ (l : List Node). opened w ∷ l)
    (around (reached rs false) back' a d ∙ same_around rs a ∙ sym (around rs back a c))
border_by back back' (marked w ∷ rs) a c d = border_by (back ++ (marked w ∷ [])) back' rs a (closed_snoc back w c) d

-- Marking the current edge and turning to the next open one: the ring shown is what comes of the ring shown before.
pub border_shown : (ps : List Node) (a : ℕ)
    → shown (onward [] (reached ps false ++ (marked a ∷ []))) ≡ shown (onward [] (ps ++ (marked a ∷ [])))
unfolding onward reached
border_shown [] a = refl
border_shown (opened v ∷ ps) a =
    ap (λ (l : List Node). opened v ∷ l) (around (reached ps false) [] a tt ∙ same_around ps a ∙ sym (around ps [] a tt))
border_shown (marked v ∷ ps) a = border_by (marked v ∷ []) (marked v ∷ []) ps a (refl, tt) (refl, tt)

-- a run that ends with an open edge
pub backward_shown : (ps : List Node) (c : ℕ) → reached (ps ++ (opened c ∷ [])) false ≡ reached ps false ++ (opened c ∷ [])
unfolding reached
backward_shown ps c = reached_append ps (opened c ∷ []) false

pub take_cut : {A : Type 0} (us vs : List A) → take (length us) (us ++ vs) ≡ us
take_cut [] vs = refl
take_cut {A} (u ∷ us) vs = ap (λ (k : List A). u ∷ k) (take_cut us vs)

pub drop_cut : {A : Type 0} (us vs : List A) → drop (length us) (us ++ vs) ≡ vs
drop_cut [] vs = refl
drop_cut (u ∷ us) vs = drop_cut us vs

-- a run that an open edge comes before shows at least one place
pub reached_some : (us : List Node) (t : Bool) → t ≡ true → 1 ≤ length us → 1 ≤ length (reached us (not t))
unfolding reached
reached_some [] t h n = n
reached_some (p ∷ us) true h n = rw (reached_first p us) (omega arith)
reached_some (p ∷ us) false h n = absurd (false≢true h)

-- rings joined
pub all_shown_append : (us vs : List Ring) → shown_all (us ++ vs) ≡ shown_all us ++ shown_all vs
all_shown_append [] vs = refl
all_shown_append (u ∷ us) vs = ap (λ (k : List Ring). shown u ∷ k) (all_shown_append us vs)

pub all_shown_length : (ls : List Ring) → length (shown_all ls) ≡ length ls
all_shown_length [] = refl
all_shown_length (l ∷ ls) = ap suc (all_shown_length ls)

pub live_split : (us vs : List Ring) → Live (us ++ vs) → Live us × Live vs
live_split [] vs g = (tt, g)
live_split ((p ∷ ps) ∷ us) vs g = let r = live_split us vs g.1 in ((g.0, r.0), r.1)
live_split ([] ∷ us) vs g = absurd g

pub live_append : (us vs : List Ring) → Live us → Live vs → Live (us ++ vs)
live_append [] vs g h = h
live_append ((p ∷ ps) ∷ us) vs g h = (g.0, live_append us vs g.1 h)
live_append ([] ∷ us) vs g h = absurd g

-- a live ring shown
pub shown_live : (l : Ring) (ls : List Ring) → Live (l ∷ ls) → shown l ≡ reached l false
unfolding reached
shown_live (opened v ∷ ps) ls g = refl
shown_live (marked v ∷ ps) ls g = absurd (false≢true g.0)
shown_live [] ls g = absurd g

-- the first part of a live ring is shown the same whatever comes before
pub shown_start : (us vs : List Node) (ls : List Ring) (m : Bool) → Live ((us ++ vs) ∷ ls) → reached us m ≡ reached us false
unfolding reached
shown_start [] vs ls m g = refl
shown_start (opened v ∷ us) vs ls m g = refl
shown_start (marked v ∷ us) vs ls m g = absurd (false≢true g.0)

-- the waiting ring of a union, cut at the place p that stays
pub waiting_shown : (us : List Node) (p : Node) (vs : List Node) (ls : List Ring) → Live ((us ++ (p ∷ vs)) ∷ ls) → Stays us p
    → shown (us ++ (p ∷ vs)) ≡ reached us false ++ (p ∷ reached vs (not (is_open p)))
waiting_shown us p vs ls g h = shown_live (us ++ (p ∷ vs)) ls g ∙ reached_cut us p vs h

-- where a place of the run shown stands in the run
pub record FullCut (l : List Node) (m : Bool) (i : ℕ) : Type 0 where
  pub us : List Node
  pub p : Node
  pub vs : List Node
  pub whole : l ≡ us ++ (p ∷ vs)
  pub short : length (reached us m) ≡ i
  pub stays : (is_open p ≡ true) ⊎ (ends us m ≡ false)

pub full_cut : (l : List Node) (m : Bool) (i : ℕ) → i < length (reached l m) → FullCut l m i
unfolding reached ends
full_cut [] m i h = absurd (omega arith)
full_cut (opened v ∷ l) m zero h = record { us = []; p = opened v; vs = l; whole = refl; short = refl; stays = inl refl }
full_cut (marked v ∷ l) false zero h = record { us = []; p = marked v; vs = l; whole = refl; short = refl; stays = inr refl }
full_cut (opened v ∷ l) m (suc i) h =
    let r = full_cut l false i (omega arith) in
    record {
      us = opened v ∷ r.us;
      p = r.p;
      vs = r.vs;
      whole = ap (λ (k : List Node). opened v ∷ k) r.whole;
      short = ap suc r.short;
      stays = r.stays;
    }
full_cut (marked v ∷ l) false (suc i) h =
    let r = full_cut l true i (omega arith) in
    record {
      us = marked v ∷ r.us;
      p = r.p;
      vs = r.vs;
      whole = ap (λ (k : List Node). marked v ∷ k) r.whole;
      short = ap suc r.short;
      stays = r.stays;
    }
full_cut (marked v ∷ l) true i h =
    let r = full_cut l true i h in
    record {
      us = marked v ∷ r.us;
      p = r.p;
      vs = r.vs;
      whole = ap (λ (k : List Node). marked v ∷ k) r.whole;
      short = r.short;
      stays = r.stays;
    }

-- the last edge of a run
pub open_ends : (us : List Node) (m : Bool) → last_open us ≡ true → ends us m ≡ false
unfolding last_open ends
open_ends [] m h = absurd (false≢true h)
open_ends (p ∷ []) m h = ap not h
open_ends (p ∷ (q ∷ us)) m h = open_ends (q ∷ us) (not (is_open p)) h

pub ends_last : (us : List Node) (p : Node) (m : Bool) → ends (us ++ (p ∷ [])) m ≡ not (is_open p)
unfolding ends
ends_last us p m = ends_append us (p ∷ []) m

-- the run after an open edge starts where the run shown starts
pub start_same : (b : ℕ) (ps : List Node) (t : Bool) → t ≡ true → start_or b (reached ps (not t)) ≡ start_or b ps
unfolding reached
start_same b [] t h = refl
start_same b (opened v ∷ ps) t h = refl
start_same b (marked v ∷ ps) true h = refl
start_same b (marked v ∷ ps) false h = absurd (false≢true h)

pub start_shown : (b : ℕ) (l : Ring) → start_or b (shown l) ≡ start_or b l
start_shown b [] = refl
start_shown b (p ∷ ps) = refl

-- no more places are shown than there are
pub fewer_reached : (ps : List Node) (m : Bool) → length (reached ps m) ≤ length ps
unfolding reached
fewer_reached [] m = omega arith
fewer_reached (opened v ∷ ps) m = omega (arith, fewer_reached ps false)
fewer_reached (marked v ∷ ps) true = omega (arith, fewer_reached ps true)
fewer_reached (marked v ∷ ps) false = omega (arith, fewer_reached ps true)

pub fewer_shown : (l : Ring) → length (shown l) ≤ length l
fewer_shown [] = omega arith
fewer_shown (p ∷ ps) = omega (arith, fewer_reached ps false)
