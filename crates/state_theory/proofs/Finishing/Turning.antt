-- The fan test over arrays is the definition's.
-- Assumes nothing.
use Prim.Native.Nat.{ℕ, zero, suc, ◌+◌, ◌*◌, ◌≤◌, ◌<◌}
use native.Mathlib.Omega.{arith}
use mathlib.Core.Bool.{Bool, true, false}
use mathlib.Core.List.{List, [], ◌∷◌}
use Rattle.std.specs.Prelude.{Option, Some, None}
use mathlib.Core.Path.{◌≡◌, refl, sym, ap, ap₂, ◌∙◌, subst}
use lib.ListN.{length, get_or, set, replicate, length-set, length-replicate, get_or-replicate}
use lib.Seq.{get_or-set_same, get_or-set_other}
use lib.Dec.{eqb}
use borrow.Author.Tests.{eq-eqb, ne_eqb, eqb-true, eqb-false}
use Rattle.rules.specs.declared.Triangle.{Triangle}
use Rattle.rules.specs.Triangle.{Edge, edge}
use Rattle.rules.specs.Limits.{max_triangles}
use Rattle.rules.specs.Fan.{about, Taken, no_edge, taken, keep, leaving, entering, turn_on, turn_back, is_nil, one_run}
use Rattle.rules.specs.View.{triangles_built}
use Rattle.mesh_theory.proofs.Fans.Turning.{Turn, onward, backward}
use Rattle.mesh_theory.specs.Chains.Corner.{triangle_at}
use Rattle.state_theory.specs.Finishing.Turning.{edge_at, listed, is_left, latest_left, turned, all_taken, Adds, Spacious, Holds}

-- ---- the list in the arrays

-- those of the first n edges that are not taken, the latest first
unfoldable kept : List ℕ → List ℕ → List ℕ → ℕ → List Edge
kept fs ts gs zero = []
kept fs ts gs (suc n) = elim (eqb (get_or gs n 0) 0) [ true ↦ edge_at fs ts n ∷ kept fs ts gs n | false ↦ kept fs ts gs n ]

kept_yes : (fs ts gs : List ℕ) (n : ℕ) → get_or gs n 0 ≡ 0 → kept fs ts gs (suc n) ≡ edge_at fs ts n ∷ kept fs ts gs n
unfolding kept
kept_yes fs ts gs n h = rw (kept, eq-eqb (get_or gs n 0) 0 h)

kept_no : (fs ts gs : List ℕ) (n : ℕ) → (get_or gs n 0 ≡ 0 → ⊥) → kept fs ts gs (suc n) ≡ kept fs ts gs n
unfolding kept
kept_no fs ts gs n h = rw (kept, ne_eqb (get_or gs n 0) 0 h)

-- an edge, if its mark says so
abbrev pick : Bool → Edge → List Edge → List Edge
pick true d ds = d ∷ ds
pick false d ds = ds

kept_pick : (fs ts gs : List ℕ) (n : ℕ) → kept fs ts gs (suc n) ≡ pick (eqb (get_or gs n 0) 0) (edge_at fs ts n) (kept fs ts gs n)
unfolding kept
kept_pick fs ts gs n = go (eqb (get_or gs n 0) 0) refl
  where
    go : (b : Bool) → eqb (get_or gs n 0) 0 ≡ b → kept fs ts gs (suc n) ≡ pick b (edge_at fs ts n) (kept fs ts gs n)
    go true e = rw (kept, e)
    go false e = rw (kept, e)

kept_past : (fs ts gs : List ℕ) (i n : ℕ) → n ≤ i → kept fs ts (set gs i 1) n ≡ kept fs ts gs n
unfolding kept
kept_past fs ts gs i zero h = refl
kept_past fs ts gs i (suc n) h =
    kept_pick fs ts (set gs i 1) n
    ∙ ap₂ (λ (k : ℕ) (ds : List Edge). pick (eqb k 0) (edge_at fs ts n) ds) (get_or-set_other gs i n 1 0 (λ e. omega (arith, e)))
    (kept_past fs ts gs i n (omega arith)) ∙ sym (kept_pick fs ts gs n)

-- the edges that are left when edge n is taken
kept_taken : (fs ts gs : List ℕ) (n : ℕ) → n < length gs → kept fs ts (set gs n 1) (suc n) ≡ kept fs ts gs n
kept_taken fs ts gs n h =
    kept_no fs ts (set gs n 1) n (λ e. omega (arith, get_or-set_same gs n 1 0 h)) ∙ kept_past fs ts gs n n (omega arith)

kept_all : (fs ts : List ℕ) (m n : ℕ) → n ≤ m → kept fs ts (replicate m 0) n ≡ listed fs ts n
unfolding kept listed
kept_all fs ts m zero h = refl
kept_all fs ts m (suc n) h =
    kept_yes fs ts (replicate m 0) n (get_or-replicate m n 0 0 (omega arith))
    ∙ ap (λ (ds : List Edge). edge_at fs ts n ∷ ds) (kept_all fs ts m n (omega arith))

length_listed : (fs ts : List ℕ) (n : ℕ) → length (listed fs ts n) ≡ n
unfolding listed
length_listed fs ts zero = refl
length_listed fs ts (suc n) = ap suc (length_listed fs ts n)

none_left : (fs ts gs : List ℕ) (n : ℕ) → is_nil (kept fs ts gs n) ≡ all_taken gs n
unfolding kept all_taken
none_left fs ts gs zero = refl
none_left fs ts gs (suc n) = go (eqb (get_or gs n 0) 0) refl (none_left fs ts gs n)
  where
    go : (b : Bool) → eqb (get_or gs n 0) 0 ≡ b → is_nil (kept fs ts gs n) ≡ all_taken gs n
        → is_nil (kept fs ts gs (suc n)) ≡ all_taken gs (suc n)
    go true e h = rw (kept, all_taken, e)
    go false e h = rw (kept, all_taken, e) h

-- ---- turning

-- of what is found, the number after it
abbrev after : Option ℕ → ℕ
after None = 0
after (Some i) = suc i

latest_below : (es gs : List ℕ) (x n : ℕ) → after (latest_left es gs x n) ≤ n
unfolding latest_left
latest_below es gs x zero = omega arith
latest_below es gs x (suc n) = go (is_left es gs n x) refl (latest_below es gs x n)
  where
    go : (b : Bool) → is_left es gs n x ≡ b → after (latest_left es gs x n) ≤ n → after (latest_left es gs x (suc n)) ≤ suc n
    go true e h = rw (latest_left, e) (omega arith)
    go false e h = rw (latest_left, e) (omega arith)

-- what is taken out of the list when the search finds i
abbrev found : List ℕ → List ℕ → List ℕ → ℕ → Option ℕ → Taken
found fs ts gs n None = no_edge
found fs ts gs n (Some i) = taken (edge_at fs ts i) (kept fs ts (set gs i 1) n)

found_keep : (fs ts gs : List ℕ) (n : ℕ) (i : Option ℕ) → after i ≤ n → get_or gs n 0 ≡ 0
    → keep (edge_at fs ts n) (found fs ts gs n i) ≡ found fs ts gs (suc n) i
found_keep fs ts gs n None h e = refl
found_keep fs ts gs n (Some i) h e =
    ap (taken (edge_at fs ts i))
    (sym (kept_yes fs ts (set gs i 1) n (get_or-set_other gs i n 1 0 (λ q. omega (arith, q)) ∙ e)))

found_skip : (fs ts gs : List ℕ) (n : ℕ) (i : Option ℕ) → after i ≤ n → (get_or gs n 0 ≡ 0 → ⊥)
    → found fs ts gs n i ≡ found fs ts gs (suc n) i
found_skip fs ts gs n None h e = refl
found_skip fs ts gs n (Some i) h e =
    ap (taken (edge_at fs ts i))
    (sym (kept_no fs ts (set gs i 1) n (λ z. e (sym (get_or-set_other gs i n 1 0 (λ q. omega (arith, q))) ∙ z))))

-- the search by the latest edge's mark and end
latest_by : (es gs : List ℕ) (x n : ℕ) (b : Bool) → is_left es gs n x ≡ b
    → latest_left es gs x (suc n) ≡ elim b [ true ↦ Some n | false ↦ latest_left es gs x n ]
unfolding latest_left
latest_by es gs x n true e = rw (latest_left, e)
latest_by es gs x n false e = rw (latest_left, e)

left_by_lem : (es gs : List ℕ) (i x : ℕ) (a b : Bool) → eqb (get_or gs i 0) 0 ≡ a → eqb (get_or es i 0) x ≡ b
    → is_left es gs i x ≡ elim a [ true ↦ b | false ↦ false ]
unfolding is_left
left_by_lem es gs i x a b e f = ap₂ (λ (c d : Bool). elim c [ true ↦ d | false ↦ false ]) e f

-- turning either way: es are the arrays' ends that an edge is taken from, os those that it is taken to
module _ (near far : Edge → ℕ) (take : ℕ → List Edge → Taken) (turn : ℕ → ℕ → List Edge → List Edge) (T : Turn near far take turn)
    (fs ts es os : List ℕ) (ends : (i : ℕ) → near (edge_at fs ts i) ≡ get_or es i 0)
    (others : (i : ℕ) → far (edge_at fs ts i) ≡ get_or os i 0) where
  take_step : (gs : List ℕ) (x n : ℕ) → n < length gs → take x (kept fs ts gs n) ≡ found fs ts gs n (latest_left es gs x n)
      → (a b : Bool) → eqb (get_or gs n 0) 0 ≡ a → eqb (get_or es n 0) x ≡ b
      → take x (kept fs ts gs (suc n)) ≡ found fs ts gs (suc n) (latest_left es gs x (suc n))
  take_step gs x n l h true true e f =
      ap (take x) (kept_yes fs ts gs n (eqb-true (get_or gs n 0) 0 e))
      ∙ T.pick_here x (edge_at fs ts n) (kept fs ts gs n) (ap (λ (k : ℕ). eqb k x) (ends n) ∙ f)
      ∙ ap (taken (edge_at fs ts n)) (sym (kept_taken fs ts gs n l))
      ∙ ap (found fs ts gs (suc n)) (sym (latest_by es gs x n true (left_by_lem es gs n x true true e f)))
  take_step gs x n l h true false e f =
      ap (take x) (kept_yes fs ts gs n (eqb-true (get_or gs n 0) 0 e))
      ∙ T.pick_later x (edge_at fs ts n) (kept fs ts gs n) (ap (λ (k : ℕ). eqb k x) (ends n) ∙ f)
      ∙ ap (keep (edge_at fs ts n)) h
      ∙ found_keep fs ts gs n (latest_left es gs x n) (latest_below es gs x n) (eqb-true (get_or gs n 0) 0 e)
      ∙ ap (found fs ts gs (suc n)) (sym (latest_by es gs x n false (left_by_lem es gs n x true false e f)))
  take_step gs x n l h false b e f =
      ap (take x) (kept_no fs ts gs n (eqb-false (get_or gs n 0) 0 e)) ∙ h
      ∙ found_skip fs ts gs n (latest_left es gs x n) (latest_below es gs x n) (eqb-false (get_or gs n 0) 0 e)
      ∙ ap (found fs ts gs (suc n)) (sym (latest_by es gs x n false (left_by_lem es gs n x false b e f)))

  take_found : (gs : List ℕ) (x n : ℕ) → n ≤ length gs → take x (kept fs ts gs n) ≡ found fs ts gs n (latest_left es gs x n)
  unfolding kept latest_left
  take_found gs x zero l = T.pick_none x
  take_found gs x (suc n) l =
      take_step gs x n (omega arith) (take_found gs x n (omega arith)) (eqb (get_or gs n 0) 0) (eqb (get_or es n 0) x) refl refl

  turn_turned : (k x n : ℕ) (gs : List ℕ) → n ≤ length gs → turn k x (kept fs ts gs n) ≡ kept fs ts (turned es os n k x gs) n
  unfolding turned
  turn_turned zero x n gs l = T.turn_zero x (kept fs ts gs n)
  turn_turned (suc k) x n gs l =
      go (latest_left es gs x n) refl
      (λ i. turn_turned k (get_or os i 0) n (set gs i 1) (subst (λ (m : ℕ). n ≤ m) (sym (length-set gs i 1)) l))
    where
      go : (i : Option ℕ) → latest_left es gs x n ≡ i
          → ((j : ℕ) → turn k (get_or os j 0) (kept fs ts (set gs j 1) n) ≡ kept fs ts (turned es os n k (get_or os j 0) (set gs j 1)) n)
          → turn (suc k) x (kept fs ts gs n) ≡ kept fs ts (turned es os n (suc k) x gs) n
      go None e h =
          T.turn_stop k x (kept fs ts gs n) (take_found gs x n l ∙ ap (found fs ts gs n) e)
          ∙ rw (turned, e)
      go (Some i) e h =
          T.turn_more k x (kept fs ts gs n) (edge_at fs ts i) (kept fs ts (set gs i 1) n) (take_found gs x n l ∙ ap (found fs ts gs n) e)
          ∙ ap (λ (y : ℕ). turn k y (kept fs ts (set gs i 1) n)) (others i) ∙ h i ∙ rw (turned, e)

length_turned : (es os : List ℕ) (n k x : ℕ) (gs : List ℕ) → length (turned es os n k x gs) ≡ length gs
unfolding turned
length_turned es os n zero x gs = refl
length_turned es os n (suc k) x gs = go (latest_left es gs x n) refl (λ i. length_turned es os n k (get_or os i 0) (set gs i 1))
  where
    go : (i : Option ℕ) → latest_left es gs x n ≡ i
        → ((j : ℕ) → length (turned es os n k (get_or os j 0) (set gs j 1)) ≡ length (set gs j 1))
        → length (turned es os n (suc k) x gs) ≡ length gs
    go None e h = rw (turned, e)
    go (Some i) e h = rw (turned, e) (h i ∙ length-set gs i 1)

-- ---- the whole test at a vertex

pub no_run : (fs ts : List ℕ) (k : ℕ) (ds : List Edge) → k ≡ 0 → listed fs ts k ≡ ds → true ≡ one_run ds
unfolding one_run listed
no_run fs ts zero ds e h = ap one_run h
no_run fs ts (suc k) ds e h = absurd (omega arith)

module _ (fs ts : List ℕ) (m n : ℕ) (few : n ≤ m) where
  abbrev on : List ℕ
  on = turned fs ts n n (get_or ts n 0) (replicate m 0)

  on_long : n ≤ length on
  on_long = omega (arith, length_turned fs ts n n (get_or ts n 0) (replicate m 0), length-replicate {A = ℕ} m 0)

  run_is : one_run (listed fs ts (suc n)) ≡ all_taken (turned ts fs n n (get_or fs n 0) on) n
  unfolding one_run listed
  run_is =
      let ds = listed fs ts n in
      let a : turn_on (length ds) (get_or ts n 0) ds ≡ kept fs ts on n
      = ap (λ (k : ℕ). turn_on k (get_or ts n 0) ds) (length_listed fs ts n)
      ∙ ap (turn_on n (get_or ts n 0)) (sym (kept_all fs ts m n few))
      ∙ turn_turned (λ d. d.from) (λ d. d.to) leaving turn_on onward fs ts fs ts (λ i. refl) (λ i. refl) n (get_or ts n 0) n (replicate m 0)
      (omega (arith, length-replicate {A = ℕ} m 0)) in
      ap (λ (es : List Edge). is_nil (turn_back (length ds) (get_or fs n 0) es)) a
      ∙ ap (λ (k : ℕ). is_nil (turn_back k (get_or fs n 0) (kept fs ts on n))) (length_listed fs ts n)
      ∙ ap is_nil
      (turn_turned (λ d. d.to) (λ d. d.from) entering turn_back backward fs ts ts fs (λ i. refl) (λ i. refl) n (get_or fs n 0) n on on_long)
      ∙ none_left fs ts (turned ts fs n n (get_or fs n 0) on) n

  -- by what the code did: the marks after turning on, and after turning back
  pub is_run : (k : ℕ) → k ≡ suc n → (ds : List Edge) → listed fs ts k ≡ ds → (gs hs : List ℕ)
      → gs ≡ turned fs ts n n (get_or ts n 0) (replicate m 0) → hs ≡ turned ts fs n n (get_or fs n 0) gs → (b : Bool) → b ≡ all_taken hs n
      → b ≡ one_run ds
  is_run k e ds h gs hs f g b q =
      q ∙ ap (λ (js : List ℕ). all_taken js n) (g ∙ ap (turned ts fs n n (get_or fs n 0)) f) ∙ sym run_is
      ∙ ap (λ (j : ℕ). one_run (listed fs ts j)) (sym e) ∙ ap one_run h

-- one edge more
pub turned_more : (es os : List ℕ) (n k j x : ℕ) (gs : List ℕ) (i : ℕ) → k ≡ suc j → latest_left es gs x n ≡ Some i
    → turned es os n j (get_or os i 0) (set gs i 1) ≡ turned es os n k x gs
unfolding turned
turned_more es os n k j x gs i d e = rw (d, turned, e) refl

-- ---- the edges about a vertex

listed_past : (fs ts : List ℕ) (i x y n : ℕ) → n ≤ i → listed (set fs i x) (set ts i y) n ≡ listed fs ts n
unfolding listed
listed_past fs ts i x y zero h = refl
listed_past fs ts i x y (suc n) h =
    ap₂ (λ (d : Edge) (ds : List Edge). d ∷ ds)
    (ap₂ edge (get_or-set_other fs i n x 0 (λ e. omega (arith, e))) (get_or-set_other ts i n y 0 (λ e. omega (arith, e))))
    (listed_past fs ts i x y n (omega arith))

listed_more : (fs ts : List ℕ) (k x y : ℕ) → k < length fs → k < length ts
    → listed (set fs k x) (set ts k y) (k + 1) ≡ edge x y ∷ listed fs ts k
unfolding listed
listed_more fs ts k x y h i =
    let q : k + 1 ≡ suc k = omega arith in
    ap (listed (set fs k x) (set ts k y)) q
    ∙ ap₂ (λ (d : Edge) (ds : List Edge). d ∷ ds) (ap₂ edge (get_or-set_same fs k x 0 h) (get_or-set_same ts k y 0 i))
    (listed_past fs ts k x y k (omega arith))

module _ (v : ℕ) (xs : List ℕ) (t : ℕ) (fs ts : List ℕ) (k : ℕ) where
  abbrev p : ℕ
  p = get_or xs (3 * t) 0

  abbrev q : ℕ
  q = get_or xs (3 * t + 1) 0

  abbrev r : ℕ
  r = get_or xs (3 * t + 2) 0

  puts : (x y : ℕ) → ((us : List Triangle) → about v (triangle_at xs t ∷ us) ≡ edge x y ∷ about v us) → (fs' ts' : List ℕ) (k' : ℕ)
      → fs' ≡ set fs k x → ts' ≡ set ts k y → k' ≡ k + 1 → Adds v xs t fs ts k fs' ts' k'
  puts x y h fs' ts' k' ef et ek = record {
    few = omega (arith, ek);
    starts = ap length ef ∙ length-set fs k x;
    ends = ap length et ∙ length-set ts k y;
    added = λ i j us e.
        rw (ef, et, ek) (listed_more fs ts k x y i j ∙ ap (λ (ds : List Edge). edge x y ∷ ds) e ∙ sym (h us));
  }

  pub adds_p : p ≡ v → (fs' ts' : List ℕ) (k' : ℕ) → fs' ≡ set fs k q → ts' ≡ set ts k r → k' ≡ k + 1 → Adds v xs t fs ts k fs' ts' k'
  unfolding about
  adds_p e = puts q r (λ us. rw (about, eq-eqb v p (sym e)))

  pub adds_q : (p ≡ v → ⊥) → q ≡ v → (fs' ts' : List ℕ) (k' : ℕ) → fs' ≡ set fs k r → ts' ≡ set ts k p → k' ≡ k + 1
      → Adds v xs t fs ts k fs' ts' k'
  unfolding about
  adds_q n e = puts r p (λ us. rw (about, ne_eqb v p (λ i. n (sym i)), eq-eqb v q (sym e)))

  pub adds_r : (p ≡ v → ⊥) → (q ≡ v → ⊥) → r ≡ v → (fs' ts' : List ℕ) (k' : ℕ) → fs' ≡ set fs k p → ts' ≡ set ts k q → k' ≡ k + 1
      → Adds v xs t fs ts k fs' ts' k'
  unfolding about
  adds_r n o e = puts p q (λ us. rw (about, ne_eqb v p (λ i. n (sym i)), ne_eqb v q (λ i. o (sym i)), eq-eqb v r (sym e)))

  pub adds_none : (p ≡ v → ⊥) → (q ≡ v → ⊥) → (r ≡ v → ⊥) → Adds v xs t fs ts k fs ts k
  unfolding about
  adds_none n o w = record {
    few = omega arith;
    starts = refl;
    ends = refl;
    added = λ i j us e. e ∙ rw (about, ne_eqb v p (λ i. n (sym i)), ne_eqb v q (λ i. o (sym i)), ne_eqb v r (λ i. w (sym i)));
  }

pub holds_none : (v : ℕ) (xs fs ts : List ℕ) → Spacious fs ts → Holds v xs 0 fs ts 0
unfolding listed about triangles_built
holds_none v xs fs ts s = record { few = omega arith; room = s; edges = refl }

pub holds_more : (v : ℕ) (xs : List ℕ) (t : ℕ) (fs ts : List ℕ) (k : ℕ) (fs' ts' : List ℕ) (k' : ℕ) → t < max_triangles
    → Holds v xs t fs ts k → Adds v xs t fs ts k fs' ts' k' → Holds v xs (t + 1) fs' ts' k'
unfolding triangles_built
holds_more v xs t fs ts k fs' ts' k' l h a =
    let q : suc t ≡ t + 1 = omega arith in
    let s = h.room in
    record {
      few = omega (arith, h.few, a.few);
      room = record { starts = a.starts ∙ s.starts; ends = a.ends ∙ s.ends };
      edges = a.added (omega (arith, s.starts, h.few)) (omega (arith, s.ends, h.few)) (triangles_built xs t) h.edges
          ∙ ap (λ (n : ℕ). about v (triangles_built xs n)) q;
    }
