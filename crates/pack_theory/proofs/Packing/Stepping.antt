-- One law for each way through a step, as the code takes it: for each packing that is held.
-- Assumes nothing.
use Prim.Native.Nat.{ℕ, ◌+◌, ◌*◌, ◌/◌, ◌≤◌, ◌<◌}
use native.Mathlib.Omega.{arith}
use mathlib.Core.Bool.{Bool, true, false, false≢true}
use mathlib.Core.List.{List, [], ◌∷◌}
use mathlib.Core.Path.{◌≡◌, refl, sym, ap, ◌∙◌, subst}
use lib.ListN.{length, get_or, set, drop}
use lib.Seq.{drop_at, sets}
use lib.Dec.{eqb, leb}
use borrow.Author.Tests.{leb-true, leb-false, eq-eqb}
use Rattle.rules.specs.declared.Operation.{Operation}
use Rattle.rules.specs.declared.Operation.TheVariants.{Start}
use Rattle.rules.specs.Limits.{max_places}
use Rattle.rules.specs.Triangle.{triangles_of}
use Rattle.rules.specs.Choice.{Packing, choose}
use Rattle.rules.specs.Order.{number_found, next_number}
use Rattle.mesh_theory.proofs.Chains.Listing.{below_each}
use Rattle.mesh_theory.proofs.Fans.Checks.{check_accepted, accepted_count}
use Rattle.cutborder.specs.declared.Front.{Front}
use Rattle.border_theory.specs.Memory.Keeps.{Ready}
use Rattle.pack_theory.specs.Choosing.Choosable.{flag_of, unbuilt_of}
use Rattle.cutborder.specs.declared.Course.{Course}
use Rattle.cutborder.specs.declared.Move.{Move}
use Rattle.pack_theory.specs.Packing.Done.{Done}
use Rattle.pack_theory.specs.Packing.Done.{Going, Refused}
use Rattle.pack_theory.specs.Packing.Taken.{Taken}
use Rattle.pack_theory.specs.Packing.Taken as T
use Rattle.pack_theory.specs.Packing.Numbers.{entries}
use Rattle.pack_theory.specs.Packing.Doing.{readied, done_of, memory_of}
use Rattle.pack_theory.specs.Packing.Course.{Holds, Held, move_of, flags_of, given_by, numbers_by, renamed, numbered_three, Chooses}
use Rattle.pack_theory.specs.Packing.Order.{OrderLong, order_of, Notable, NotesOf}
use Rattle.pack_theory.specs.Packing.Steps.{StepsTo, Beyond, StepOf, Alive, Resting, Lowest, Starts, Renames}
use Rattle.border_theory.specs.Memory.Finish.{is_complete}
use Rattle.pack_theory.proofs.Packing.Numbers.{entries_length}
use Rattle.pack_theory.proofs.Packing.Doing.{standing_ready}
use Rattle.pack_theory.proofs.Packing.Live.{Lives, numbers_few, live_concludes, live_next}
use Rattle.pack_theory.proofs.Packing.Choosing.{numbers_long, move_below, chooses}
use Rattle.pack_theory.proofs.Packing.Starting.{Begins, start_none, start_next, start_begins}
use Rattle.pack_theory.proofs.Packing.Order.{sets_past}

-- the buffer's entries past the first v
pub holds_beyond : (v : ℕ) (xs : List ℕ) (s : Packing) (t : Course) (fs ns rest m : List ℕ) → Holds v xs s t fs ns rest m → Beyond v ns rest
holds_beyond v xs s t fs ns rest m h = record {
  enough = numbers_long v xs s t fs ns rest m h;
  past = ap (drop v) h.numbers ∙ drop_at (entries v s.numbered) rest v (entries_length v s.numbered);
}

-- ---- at a live loop

module _ (xs cs : List ℕ) (t : Course) (fs ns m : List ℕ) where
  pub alive_chooses : Alive xs cs t fs ns m → Chooses xs cs fs ns m t.front.loops
  alive_chooses a =
      chooses a.held.vertices xs a.held.packing t fs ns a.held.rest m a.held.holds cs a.held.linked a.live

  module _ (a : Alive xs cs t fs ns m) (mv : Move) (em : mv ≡ move_of xs fs ns m t.front.loops) where
    below : mv.vertex < a.held.vertices
    below =
        subst (λ (w : Move). w.vertex < a.held.vertices) (sym em)
        (move_below a.held.vertices xs a.held.packing t fs ns a.held.rest m a.held.holds)

    pub alive_ready : (s : Front) → s ≡ readied t.front mv.vertex → Ready max_places s m
    alive_ready s e =
        subst (λ (f : Front). Ready max_places f m) (sym e)
        (standing_ready a.held.vertices (length (triangles_of xs)) t.front m a.held.packing.loops a.held.packing.most_places
        a.held.packing.most_loops
        a.held.holds.standing mv.vertex (omega (arith, below)))

    pub alive_gives : (mv.vertex < length ns) × (t.given < 65535)
    alive_gives = (
      omega (arith, below, numbers_long a.held.vertices xs a.held.packing t fs ns a.held.rest m a.held.holds),
      omega (
        arith,
        a.held.holds.given,
        numbers_few a.held.vertices xs a.held.packing t fs ns a.held.rest m
            a.held.holds,
      ),
    )

    module _ (fs' : List ℕ) (ef : fs' ≡ flags_of xs fs m t.front.loops) (s : Front) (es : s ≡ readied t.front mv.vertex) (d : Done)
        (ed : d ≡ done_of s m mv.operation) (m' : List ℕ) (e' : m' ≡ memory_of s m mv.operation) where
      lives : (v : ℕ) (p : Packing) (rest : List ℕ) → Holds v xs p t fs ns rest m
          → Lives v xs p t mv d fs' (numbers_by mv.fresh ns mv.vertex t.given) rest m'
      lives v p rest h =
          let c = live_concludes v xs p t fs ns rest m h a.live in
          let c1 =
          subst
          (λ (w : Move). Lives v xs p t w (done_of (readied t.front w.vertex) m w.operation) (flags_of xs fs m t.front.loops)
          (numbers_by w.fresh ns w.vertex t.given) rest
          (memory_of (readied t.front w.vertex) m w.operation))
          (sym em) c in
          let c2 =
          subst
          (λ (f : List ℕ). Lives v xs p t mv (done_of (readied t.front mv.vertex) m mv.operation) f
          (numbers_by mv.fresh ns mv.vertex t.given) rest
          (memory_of (readied t.front mv.vertex) m mv.operation))
          (sym ef) c1 in
          let c3 =
          subst (λ (f : Front). Lives v xs p t mv (done_of f m mv.operation) fs' (numbers_by mv.fresh ns mv.vertex t.given) rest
          (memory_of f m mv.operation)) (sym es) c2 in
          subst (λ (w : List ℕ). Lives v xs p t mv d fs' (numbers_by mv.fresh ns mv.vertex t.given) rest w) (sym e')
          (subst (λ (w : Done). Lives v xs p t mv w fs' (numbers_by mv.fresh ns mv.vertex t.given) rest
          (memory_of s m mv.operation)) (sym ed) c3)

      pub alive_refused : (k : ℕ) → d ≡ Refused k → StepOf xs t fs ns m (T.Refused k) fs' ns m'
      alive_refused k q v p rest h =
          let l = subst (λ (w : Done). Lives v xs p t mv w fs' (numbers_by mv.fresh ns mv.vertex t.given) rest m') q
          (lives v p rest h) in
          (l, holds_beyond v xs p t fs ns rest m h)

      pub alive_goes : (f : Front) → d ≡ Going f → (g : ℕ) → g ≡ given_by mv.fresh t.given → (ns' : List ℕ)
          → ns' ≡ numbers_by mv.fresh ns mv.vertex t.given
          → StepOf xs t fs ns m (T.Going mv.operation (record { front = f; given = g; lowest = t.lowest })) fs' ns' m'
      alive_goes f q g eg ns' en v p rest h =
          let l = subst (λ (w : Done). Lives v xs p t mv w fs' (numbers_by mv.fresh ns mv.vertex t.given) rest m') q
          (lives v p rest h) in
          let l1 =
          subst (λ (k : ℕ). StepsTo v xs (choose p) mv.operation (record { front = f; given = k; lowest = t.lowest }) fs'
          (numbers_by mv.fresh ns mv.vertex t.given) rest m')
          (sym eg) l in
          subst (λ (w : List ℕ). StepsTo v xs (choose p) mv.operation (record { front = f; given = g; lowest = t.lowest }) fs' w rest
          m') (sym en) l1

-- what a step at a live loop notes in the order
module _ (xs cs : List ℕ) (t : Course) (fs ns m : List ℕ) (a : Alive xs cs t fs ns m) (os : List ℕ) (room : OrderLong xs os) where
  -- a triangle that is found is one of those left
  pub alive_notable : Notable xs os t.front.built m t.front.loops
  alive_notable n j c q =
      let h = a.held.holds in
      let l = live_next a.held.vertices xs a.held.packing t fs ns a.held.rest m h a.live in
      omega (arith, room, h.count, l.1, ap length (l.0 ∙ ap number_found q))

  module _ (os' : List ℕ) (eo : os' ≡ order_of xs os t.front.built m t.front.loops) where
    entries_of : (v : ℕ) (s : Packing) (rest : List ℕ) → Holds v xs s t fs ns rest m
        → os' ≡ sets os t.front.built (next_number s)
    unfolding order_of
    entries_of v s rest h =
        eo ∙ ap (sets os t.front.built) (sym (live_next v xs s t fs ns rest m h a.live).0)

    pub alive_notes_refused : (k : ℕ) → NotesOf xs t fs ns m (T.Refused k) os os'
    alive_notes_refused k v s rest h =
        let l = (live_next v xs s t fs ns rest m h a.live).1 in
        ap (drop (length (triangles_of xs))) (entries_of v s rest h)
        ∙ sets_past (length (triangles_of xs)) os t.front.built (next_number s) (omega (arith, l, h.count))

    pub alive_notes : (o : Operation) (t' : Course) (fs' ns' m' : List ℕ) → fs' ≡ flags_of xs fs m t.front.loops
        → StepOf xs t fs ns m (T.Going o t') fs' ns' m' → NotesOf xs t fs ns m (T.Going o t') os os'
    alive_notes o t' fs' ns' m' ef step v s rest h =
        let w = step v s rest h in
        let l = (live_next v xs s t fs ns rest m h a.live).1 in
        record {
          written = entries_of v s rest h;
          count = omega (
            arith,
            l,
            h.count,
            w.holds.count,
            ap length w.holds.left,
            ap (λ (gs : List ℕ). length (unbuilt_of gs xs)) ef,
          );
        }

-- ---- with no live loop

module _ (xs : List ℕ) (t : Course) (fs ns m : List ℕ) where
  -- how many triangles there are, by the list's length
  pub thirds : (v : ℕ) (s : Packing) (rest : List ℕ) → Holds v xs s t fs ns rest m
      → (length xs / 3 ≡ length (triangles_of xs)) × (length (triangles_of xs) ≤ 8192)
  thirds v s rest h = let c = accepted_count v xs h.accepted in (omega (arith, c.0), c.2)

  pub rest_lowest : Resting xs t fs ns m → (t.lowest ≤ length xs / 3) × (length xs / 3 ≤ 8192)
  rest_lowest a =
      let c = thirds a.vertices a.packing a.rest a.holds in
      (omega (arith, c.0, a.holds.before), omega (arith, c.0, c.1))

  module _ (a : Resting xs t fs ns m) (k : ℕ) (l : Lowest fs t.lowest (length xs / 3) k) where
    all_below_lem : (v : ℕ) (s : Packing) (rest : List ℕ) → Holds v xs s t fs ns rest m → (j : ℕ) → j < k → flag_of fs j ≡ 0 → ⊥
    all_below_lem v s rest h j i e = go (leb t.lowest j) refl
      where
        go : (b : Bool) → leb t.lowest j ≡ b → ⊥
        go true q = l.built j (leb-true t.lowest j q) i e
        go false q = h.lowest j (leb-false t.lowest j q) e

    pub rest_never : length xs / 3 ≤ k → ⊥
    rest_never q =
        let c = thirds a.vertices a.packing a.rest a.holds in
        a.some
        (start_none a.vertices xs a.packing t fs ns a.rest m a.holds a.none k (omega (arith, q, c.0))
        (all_below_lem a.vertices a.packing a.rest a.holds))

    pub rest_starts : k < length xs / 3 → Starts xs t k fs ns m
    rest_starts q =
        let c = thirds a.vertices a.packing a.rest a.holds in
        record {
          resting = a;
          within = omega (arith, q, c.0);
          below = all_below_lem a.vertices a.packing a.rest a.holds;
          left = l.left q;
        }

module _ (xs : List ℕ) (t : Course) (k : ℕ) (fs ns m : List ℕ) (a : Starts xs t k fs ns m) where
  pub start_near : (3 * k + 2 < length xs) × (k < 8192)
  start_near =
      let c = accepted_count a.resting.vertices xs a.resting.holds.accepted in
      (omega (arith, a.within, c.0), omega (arith, a.within, c.2))

  pub start_gives : (t.given < 65533) × (get_or xs (3 * k) 0 < length ns) × (get_or xs (3 * k + 1) 0 < length ns)
      × (get_or xs (3 * k + 2) 0 < length ns)
  start_gives =
      let h = a.resting.holds in
      let v = a.resting.vertices in
      let c = accepted_count v xs h.accepted in
      let b = below_each v xs ((check_accepted v xs).0 h.accepted).below in
      let n = numbers_long v xs a.resting.packing t fs ns a.resting.rest m h in (
        omega (arith, h.given, numbers_few v xs a.resting.packing t fs ns a.resting.rest m h),
        omega (arith, b (3 * k) (omega (arith, a.within, c.0)), n),
        omega (arith, b (3 * k + 1) (omega (arith, a.within, c.0)), n),
        omega (arith, b (3 * k + 2) (omega (arith, a.within, c.0)), n),
      )

  pub start_ready : (s : Front) → s ≡ readied t.front 0 → Ready max_places s m
  start_ready s e =
      subst (λ (f : Front). Ready max_places f m) (sym e)
      (standing_ready a.resting.vertices (length (triangles_of xs)) t.front m a.resting.packing.loops
      a.resting.packing.most_places a.resting.packing.most_loops
      a.resting.holds.standing 0 (omega arith))

  module _ (s : Front) (es : s ≡ readied t.front 0) (d : Done) (ed : d ≡ done_of s m Start) (m' : List ℕ)
      (e' : m' ≡ memory_of s m Start) where
    begins : (v : ℕ) (p : Packing) (rest : List ℕ) → Holds v xs p t fs ns rest m → Begins v xs p t k d fs ns rest m'
    begins v p rest h =
        let b = start_begins v xs p t fs ns rest m h a.resting.none k a.within a.below a.left in
        let b1 = subst (λ (f : Front). Begins v xs p t k (done_of f m Start) fs ns rest (memory_of f m Start)) (sym es) b in
        subst (λ (w : List ℕ). Begins v xs p t k d fs ns rest w) (sym e')
        (subst (λ (w : Done). Begins v xs p t k w fs ns rest (memory_of s m Start)) (sym ed) b1)

    begun : Begins a.resting.vertices xs a.resting.packing t k d fs ns a.resting.rest m'
    begun = begins a.resting.vertices a.resting.packing a.resting.rest a.resting.holds

    pub start_never : (j : ℕ) → d ≡ Refused j → ⊥
    start_never j q = subst (λ (w : Done). Begins a.resting.vertices xs a.resting.packing t k w fs ns a.resting.rest m') q begun

    module _ (f : Front) (q : d ≡ Going f) where
      went : Begins a.resting.vertices xs a.resting.packing t k (Going f) fs ns a.resting.rest m'
      went = subst (λ (w : Done). Begins a.resting.vertices xs a.resting.packing t k w fs ns a.resting.rest m') q begun

      pub start_renames : Renames m' f.loops.current
      start_renames =
          let r = went.0 in
          let w = went.1 in
          record {
            first = omega (arith, r.near_x);
            second = omega (arith, r.near_y);
            third = omega (arith, r.near_z);
          }

      pub start_goes : (m'' : List ℕ)
          → m'' ≡ renamed m' f.loops.current (get_or xs (3 * k) 0) (get_or xs (3 * k + 1) 0) (get_or xs (3 * k + 2) 0)
          → (ns' : List ℕ) → ns' ≡ numbered_three ns t.given (get_or xs (3 * k) 0) (get_or xs (3 * k + 1) 0) (get_or xs (3 * k + 2) 0)
          → StepOf xs t fs ns m (T.Going Start (record { front = f; given = t.given + 3; lowest = k + 1 })) (set fs k 1) ns' m''
      start_goes m'' em ns' en v p rest h =
          let b = subst (λ (w : Done). Begins v xs p t k w fs ns rest m') q (begins v p rest h) in
          let b1 =
          subst (λ (w : List ℕ). StepsTo v xs (choose p) Start (record { front = f; given = t.given + 3; lowest = k + 1 }) (set fs k 1) w
          rest
          (renamed m' f.loops.current (get_or xs (3 * k) 0) (get_or xs (3 * k + 1) 0) (get_or xs (3 * k + 2) 0)))
          (sym en) b.2 in
          subst (λ (w : List ℕ). StepsTo v xs (choose p) Start (record { front = f; given = t.given + 3; lowest = k + 1 }) (set fs k 1) ns'
          rest w) (sym em) b1

-- what a start notes in the order
module _ (xs : List ℕ) (t : Course) (k : ℕ) (fs ns m : List ℕ) (a : Starts xs t k fs ns m) (os : List ℕ) where
  next : (v : ℕ) (s : Packing) (rest : List ℕ) → Holds v xs s t fs ns rest m
      → (next_number s ≡ k ∷ []) × (1 + length (unbuilt_of (set fs k 1) xs) ≡ length s.left)
  next v s rest h = start_next v xs s t fs ns rest m h a.resting.none k a.within a.below a.left

  pub start_entry : OrderLong xs os → t.front.built < length os
  start_entry room =
      let h = a.resting.holds in
      omega (arith, room, h.count, (next a.resting.vertices a.resting.packing a.resting.rest h).1)

  pub start_notes : (o : Operation) (t' : Course) (ns' m' : List ℕ) → StepOf xs t fs ns m (T.Going o t') (set fs k 1) ns' m'
      → NotesOf xs t fs ns m (T.Going o t') os (set os t.front.built k)
  start_notes o t' ns' m' step v s rest h =
      let w = step v s rest h in
      let n = next v s rest h in
      record {
        written = sym (ap (sets os t.front.built) n.0);
        count = omega (arith, n.1, ap length n.0, h.count, w.holds.count, ap length w.holds.left);
      }

-- ---- either

module _ (xs cs : List ℕ) (t : Course) (fs ns m : List ℕ) (h : Held xs cs t fs ns m) (going : is_complete t.front ≡ false) where
  pub step_alive : (t.front.loops.live ≡ 0 → ⊥) → Alive xs cs t fs ns m
  step_alive l = record { held = h; live = l }

  pub step_resting : t.front.loops.live ≡ 0 → Resting xs t fs ns m
  step_resting l = record { vertices = h.vertices; packing = h.packing; rest = h.rest; holds = h.holds; none = l; some = some }
    where
      some : t.front.built ≡ t.front.stated.triangles → ⊥
      some e =
          false≢true
          (sym going
          ∙ (ap (λ (b : Bool). elim b [ true ↦ eqb t.front.loops.live 0 | false ↦ false ])
          (eq-eqb t.front.built t.front.stated.triangles e)
          ∙ eq-eqb t.front.loops.live 0 l))
