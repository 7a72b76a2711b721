-- A step with no live loop: nothing is left, or the lowest triangle left is built as a loop of three places.
-- Assumes nothing.
use Prim.Native.Nat.{ℕ, ◌+◌, ◌*◌, ◌≤◌, ◌<◌}
use native.Mathlib.Omega.{arith}
use mathlib.Core.Bool.{false}
use mathlib.Core.List.{List, [], ◌∷◌, ◌++◌, append_assoc}
use mathlib.Core.Path.{◌≡◌, refl, sym, ap, ◌∙◌, subst}
use lib.ListN.{length, get_or, set, length-set, length-append}
use Rattle.rules.specs.declared.Triangle.{Triangle}
use Rattle.rules.specs.declared.Counts.{Counts}
use Rattle.rules.specs.declared.Operation.TheVariants.{Start}
use Rattle.rules.specs.Limits.{max_places, max_triangles}
use Rattle.rules.specs.Triangle.{tri, triangles_of, at_p, at_q, at_r, Rot, In, here}
use Rattle.rules.specs.Ring.{opened, Ring, reached, places}
use Rattle.rules.specs.Table.{fresh, at_rest, effect}
use Rattle.rules.specs.Choice.{Packing, has, packing_after, limited, choose}
use Rattle.rules.specs.Across.{across}
use Rattle.rules.specs.Order.{number_found, next_number_in, next_number}
use Rattle.rules.specs.Fan.{Neighbours}
use Rattle.mesh_theory.specs.Chains.Corner.{triangle_at}
use Rattle.mesh_theory.proofs.Fans.Checks.{accepted_count}
use Rattle.choice_theory.proofs.Runs.Working.{none_shown}
use Rattle.choice_theory.proofs.Steps.Triangle.{Keeps}
use Rattle.choice_theory.proofs.Steps.Starting.{all_built, keeps_start}
use Rattle.choice_theory.proofs.Steps.Choosing.{Fits, choose_start}
use Rattle.choice_theory.proofs.Places.Numbering.{not_met, has_not, numbered_start}
use Rattle.choice_theory.proofs.Places.Distinct.{distinct_start}
use Rattle.choice_theory.proofs.Runs.Accepted.{Packable, accepted_packable}
use Rattle.choice_theory.proofs.Runs.Following.{limited_takes}
use Rattle.border_theory.specs.Memory.Stands.{rings_in}
use Rattle.pack_theory.specs.Choosing.Choosable.{flag_of, unbuilt_of}
use Rattle.cutborder.specs.declared.Course.{Course}
use Rattle.pack_theory.specs.Packing.Done.{Done}
use Rattle.pack_theory.specs.Packing.Done.{Going, Refused}
use Rattle.pack_theory.specs.Packing.Numbers.{entries}
use Rattle.pack_theory.specs.Packing.Doing.{readied, done_of, memory_of}
use Rattle.pack_theory.specs.Packing.Course.{Holds, renamed, numbered_three}
use Rattle.pack_theory.specs.Packing.Steps.{StepsTo}
use Rattle.pack_theory.proofs.Packing.Numbers.{number_stored}
use Rattle.pack_theory.proofs.Packing.Flags.{number_own, lowest_first, lowest_rest, lowest_set, lowest_none}
use Rattle.pack_theory.proofs.Packing.Doing.{Outcome, built_outcome}
use Rattle.pack_theory.proofs.Packing.Reading.{live_none}
use Rattle.pack_theory.proofs.Packing.Renaming.{Renamed, renamed_three}

-- what the operation on the loops says of the step that builds triangle k
abbrev pub Begins : ℕ → List ℕ → Packing → Course → ℕ → Done → List ℕ → List ℕ → List ℕ → List ℕ → Type 0
Begins v xs s t k (Refused j) fs ns rest m' = ⊥
Begins v xs s t k (Going f') fs ns rest m' =
    Renamed max_places f'.loops m' (get_or xs (3 * k) 0) (get_or xs (3 * k + 1) 0) (get_or xs (3 * k + 2) 0)
    × (length m' ≡ 5320)
    × StepsTo v xs (choose s) Start (record { front = f'; given = t.given + 3; lowest = k + 1 }) (set fs k 1)
    (numbered_three ns t.given (get_or xs (3 * k) 0) (get_or xs (3 * k + 1) 0) (get_or xs (3 * k + 2) 0)) rest
    (renamed m' f'.loops.current (get_or xs (3 * k) 0) (get_or xs (3 * k + 1) 0) (get_or xs (3 * k + 2) 0))

module _ (v : ℕ) (xs : List ℕ) (s : Packing) (t : Course) (fs ns rest m : List ℕ) (h : Holds v xs s t fs ns rest m)
    (rest-time : t.front.loops.live ≡ 0) where
  packable : Packable v (triangles_of xs)
  packable = accepted_packable v xs h.accepted

  fan : (c : ℕ) → Neighbours s.mesh c
  fan c = subst (λ (M : List Triangle). Neighbours M c) (sym h.mesh) (packable.fans c)

  triangles : (3 * length (triangles_of xs) ≡ length xs) × (1 ≤ length (triangles_of xs)) × (length (triangles_of xs) ≤ max_triangles)
  triangles = accepted_count v xs h.accepted

  pub no_loop : s.loops ≡ []
  no_loop = h.standing.loops
      ∙ live_none max_places t.front.loops m (rings_in max_places t.front.loops m) h.standing.stands rest-time

  -- none is left
  pub start_none : (k : ℕ) → length (triangles_of xs) ≤ k → ((j : ℕ) → j < k → flag_of fs j ≡ 0 → ⊥)
      → t.front.built ≡ t.front.stated.triangles
  start_none k l f =
      omega (
        arith,
        h.count,
        ap length (h.left ∙ lowest_none fs k (triangles_of xs) l f),
        ap (λ (c : Counts). c.triangles)
            h.standing.stated,
      )

  -- triangle k is the lowest left
  module _ (k : ℕ) (within : k < length (triangles_of xs)) (below : (j : ℕ) → j < k → flag_of fs j ≡ 0 → ⊥) (left : flag_of fs k ≡ 0) where
    p : ℕ
    p = get_or xs (3 * k) 0

    q : ℕ
    q = get_or xs (3 * k + 1) 0

    r : ℕ
    r = get_or xs (3 * k + 2) 0

    R : List Triangle
    R = unbuilt_of (set fs k 1) xs

    first : s.left ≡ tri p q r ∷ R
    unfolding p q r R
    first =
        h.left ∙ lowest_first fs xs k below within left
        ∙ ap (λ (l : List Triangle). triangle_at xs k ∷ l) (sym (lowest_rest fs xs k below within (omega (arith, h.flags, triangles.2))))

    -- triangle k is built next, and it is left
    pub start_next : (next_number s ≡ k ∷ []) × (1 + length (unbuilt_of (set fs k 1) xs) ≡ length s.left)
    unfolding p q r R
    start_next = (
      ap (λ (ls : List Ring). next_number_in s.mesh ls s.left) no_loop ∙ ap (next_number_in s.mesh []) first
          ∙ ap (λ (M : List Triangle). number_found (across p q M)) h.mesh ∙ ap number_found (number_own k xs packable.once within),
      omega (arith, ap length first),
    )

    before : Keeps s.mesh (tri p q r ∷ R) h.built [] h.rims
    before =
        subst (λ (ls : List Ring). Keeps s.mesh (tri p q r ∷ R) h.built ls h.rims)
        (none_shown h.fits.full (sym h.fits.shows ∙ no_loop))
        (subst (λ (ts : List Triangle). Keeps s.mesh ts h.built h.fits.full h.rims) first h.fits.keeps)

    none : (x y z : ℕ) → Rot (tri p q r) x y z → has x s.numbered ≡ false
    none x y z w =
        not_met s.numbered h.built h.fits.numbers x
        (λ a b j. all_built s.mesh (tri p q r ∷ R) h.built h.rims before fan x y z a b (here w) j)

    no_p : has p s.numbered ≡ false
    no_p = none p q r (at_p refl refl refl)

    no_q : has q s.numbered ≡ false
    no_q = none q r p (at_q refl refl refl)

    no_r : has r s.numbered ≡ false
    no_r = none r p q (at_r refl refl refl)

    apart : ((p ≡ q) → ⊥) × ((q ≡ r) → ⊥) × ((r ≡ p) → ⊥)
    apart = before.once.1

    near : (x y z : ℕ) → Rot (tri p q r) x y z → x < v
    near x y z w = packable.below x y z (subst (In x y z) h.mesh (before.sub_r x y z (here w)))

    ring : List Ring
    ring = (opened p ∷ (opened q ∷ (opened r ∷ []))) ∷ []

    after : Packing
    after = packing_after s R (s.numbered ++ (p ∷ (q ∷ (r ∷ [])))) ring

    chooses : choose s ≡ limited Start after
    unfolding after ring
    chooses = choose_start s (tri p q r) R no_loop first

    fits : Fits after (tri p q r ∷ h.built) h.rims
    unfolding after ring reached
    fits = record {
      full = ring;
      shows = refl;
      keeps = keeps_start s.mesh R h.built h.rims p q r before fan;
      good = ((refl, omega arith), tt);
      numbers = numbered_start s.numbered h.built (tri p q r) h.fits.numbers;
      distinct = distinct_start s.numbered p q r h.fits.distinct no_p no_q no_r apart;
    }

    numbers : numbered_three ns t.given p q r ≡ entries v (s.numbered ++ (p ∷ (q ∷ (r ∷ [])))) ++ rest
    numbers =
        let vs = s.numbered in
        let vp = vs ++ (p ∷ []) in
        let vq = vp ++ (q ∷ []) in
        let n1 = number_stored v vs rest ns p t.given h.numbers (near p q r (at_p refl refl refl)) no_p h.given in
        let n2 =
        number_stored v vp rest (set ns p t.given) q (t.given + 1) n1 (near q r p (at_q refl refl refl))
        (has_not q p vs no_q (λ e. apart.0 (sym e)))
        (omega (arith, h.given, length-append vs (p ∷ []))) in
        let n3 =
        number_stored v vq rest (set (set ns p t.given) q (t.given + 1)) r (t.given + 2) n2 (near r p q (at_r refl refl refl))
        (has_not r q vp (has_not r p vs no_r apart.2) (λ e. apart.1 (sym e)))
        (omega (arith, h.given, length-append vs (p ∷ []), length-append vp (q ∷ []))) in
        let e : vq ++ (r ∷ []) ≡ vs ++ (p ∷ (q ∷ (r ∷ []))) =
        append_assoc vp (q ∷ []) (r ∷ []) ∙ append_assoc vs (p ∷ []) (q ∷ (r ∷ [])) in
        n3 ∙ ap (λ (l : List ℕ). entries v l ++ rest) e

    outcome : Outcome v (length (triangles_of xs)) t.front ((opened 0 ∷ (opened 1 ∷ (opened 2 ∷ []))) ∷ []) s.most_places s.most_loops
        1 (done_of (readied t.front 0) m Start) (memory_of (readied t.front 0) m Start)
    unfolding effect at_rest
    outcome =
        built_outcome v (length (triangles_of xs)) t.front m s.loops s.most_places s.most_loops h.standing 0 (omega arith) Start
        _ (tri 0 1 2) fresh fresh fresh 3 1 0
        (ap (effect Start 0) no_loop) (λ e. omega (arith, e)) (λ e. omega (arith, e)) (λ e. omega (arith, e))
        (omega (arith, apart_three)) (omega (arith, h.count, ap length first))
      where
        apart_three : 3 ≤ v
        apart_three =
            let a = near p q r (at_p refl refl refl) in
            let b = near q r p (at_q refl refl refl) in
            let c = near r p q (at_r refl refl refl) in
            omega (arith, a, b, c, apart.0, apart.1, apart.2)

    begins : (d : Done) (m' : List ℕ)
        → Outcome v (length (triangles_of xs)) t.front ((opened 0 ∷ (opened 1 ∷ (opened 2 ∷ []))) ∷ []) s.most_places s.most_loops 1 d
        m'
        → Begins v xs s t k d fs ns rest m'
    unfolding places p q r R after ring
    begins (Refused j) m' o = o.1 (omega arith) (omega arith)
    begins (Going f') m' o =
        let st = o.0 in
        let rn = renamed_three max_places f'.loops m' 0 1 2 p q r (omega (arith, st.whole)) st.stands (sym st.loops) in (
          rn,
          st.whole,
          record {
            after = after;
            goes = chooses ∙ limited_takes Start after (omega (arith, h.limit_places_lem)) (omega (arith, h.limit_loops_lem));
            holds =
                record {
                  accepted = h.accepted;
                  built = tri p q r ∷ h.built;
                  rims = h.rims;
                  fits = fits;
                  mesh = h.mesh;
                  limit_places_lem = h.limit_places_lem;
                  limit_loops_lem = h.limit_loops_lem;
                  left = refl;
                  lowest = λ j l e. lowest_set fs xs k below within (omega (arith, h.flags, triangles.2)) j (omega (arith, l)) e;
                  before = omega (arith, within);
                  flags = length-set fs k 1 ∙ h.flags;
                  numbers = numbers;
                  given = omega (arith, h.given, length-append s.numbered (p ∷ (q ∷ (r ∷ []))));
                  few = omega (arith, h.few, ap length first, length-append s.numbered (p ∷ (q ∷ (r ∷ []))));
                  count = omega (arith, o.1, h.count, ap length first);
                  standing =
                      record {
                        vertices = st.vertices;
                        triangles = st.triangles;
                        stated = st.stated;
                        built = st.built;
                        whole = rn.lengths ∙ st.whole;
                        stands = rn.stands;
                        loops = sym rn.loops;
                        few = omega arith;
                        places = st.places;
                        most = st.most;
                        few_places = st.few_places;
                        few_loops = st.few_loops;
                      };
                };
          },
        )

    pub start_begins : Begins v xs s t k (done_of (readied t.front 0) m Start) fs ns rest (memory_of (readied t.front 0) m Start)
    start_begins = begins (done_of (readied t.front 0) m Start) (memory_of (readied t.front 0) m Start) outcome
