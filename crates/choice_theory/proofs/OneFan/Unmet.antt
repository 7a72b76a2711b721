-- A vertex that is not met has one fan: at any machine that is fanned, and so at any time of a run.
-- Assumes nothing.
use Prim.Native.Nat.{ℕ, ◌≤◌}
use native.Mathlib.Omega.{arith}
use mathlib.Core.Bool.{Bool, true, false, ◌||◌, false≢true}
use mathlib.Core.List.{List, [], ◌∷◌}
use mathlib.Core.Path.{◌≡◌, refl, sym, subst}
use Rattle.rules.specs.declared.Triangle.{Triangle}
use Rattle.rules.specs.declared.Operation.{Operation}
use Rattle.rules.specs.Triangle.{Edge, edges_of, In}
use Rattle.rules.specs.Count.{uses}
use Rattle.rules.specs.Fan.{about, one_run}
use Rattle.rules.specs.Check.{all_distinct}
use Rattle.rules.specs.Machine.{Machine, Step}
use Rattle.rules.specs.Book.{Book, entered}
use Rattle.mesh_theory.proofs.Fans.OneRun.{chain_run, chained_count}
use Rattle.mesh_theory.proofs.Fans.Corners.{in_next, in_uses}
use Rattle.mesh_theory.proofs.Fans.Tests.{all_distinct_lem, none_twice_lem}
use Rattle.mesh_theory.proofs.Fans.OneFan.{one_fan}
use Rattle.book.specs.Consistent.{Consistent}
use Rattle.book.proofs.Kept.{kept, empty_consistent}
use Rattle.choice_theory.specs.Works.{Works, w_none, w_built, w_declared}
use Rattle.choice_theory.specs.Met.{met_by}
use Rattle.choice_theory.specs.Fanned.{Fanned}
use Rattle.choice_theory.specs.OneFan.{met_in, UnmetHaveOneFan}
use Rattle.choice_theory.proofs.OneFan.Steps.{fanned_empty, fanned_more, fanned_built, fanned_declared}

-- no edge leads from a vertex to itself: each triangle has three vertices
proper_different : (ts : List Triangle) → ((x : ℕ) → uses x x ts ≡ 0) → all_distinct ts ≡ true
proper_different ts p = (all_distinct_lem ts).1
    (λ x y z i. record { x_y = apart i; y_z = apart (in_next i); z_x = apart (in_next (in_next i)) })
  where
    apart : {x y z : ℕ} → In x y z ts → x ≡ y → ⊥
    apart {x} {y} {z} i e = omega (arith, p x, subst (λ (w : ℕ). 1 ≤ uses x w ts) (sym e) (in_uses i))

pub fanned_one_run : {met : ℕ → Bool} {M : Machine} {B : List Edge} → Consistent (record { machine = M; borders = B }) → Fanned met M
    → (v : ℕ) → met v ≡ false → one_run (about v M.triangles) ≡ true
fanned_one_run {M = M} c f v h =
    let ts = M.triangles in
    let k = (f.unmet v h).chained in
    (one_fan ts (proper_different ts c.proper) ((none_twice_lem (edges_of ts)).1 c.once) v).1 (record {
      run = k.path;
      each = chained_count (about v ts) k;
      shared = chain_run k.start k.finish k.path k.chain;
    })

-- runs
neither : (a b : Bool) → a || b ≡ false → (a ≡ false) × (b ≡ false)
neither true b h = absurd (false≢true (sym h))
neither false b h = (refl, h)

run_fanned : {m n : Machine} {os : List Operation} (met met' : ℕ → Bool) (w : Works m os n)
    → ((v : ℕ) → met' v ≡ false → (met v ≡ false) × (met_in w v ≡ false)) → Fanned met m → Fanned met' n
run_fanned met met' w_none h f = fanned_more f (λ v e. (h v e).0)
run_fanned met met' (w_built {o = o} {t = t} e w) h f =
    run_fanned (λ v. met v || met_by o t v) met' w
    (λ v z. let k = neither (met_by o t v) (met_in w v) (h v z).1 in (rw (h v z).0 k.0, k.1))
    (fanned_built o f e (λ v z. neither (met v) (met_by o t v) z))
run_fanned met met' (w_declared {o = o} e w) h f =
    run_fanned met met' w h (fanned_declared o f e)

run_consistent : {m n : Machine} {os : List Operation} (B : List Edge) → Works m os n → Consistent (record { machine = m; borders = B })
    → (C : List Edge) × Consistent (record { machine = n; borders = C })
run_consistent B w_none c = (B, c)
run_consistent B (w_built {m = m} {o = o} e w) c =
    let b : Book = record { machine = m; borders = B } in
    run_consistent B w (subst (λ (s : Step). Consistent (entered b s)) e (kept b c o))
run_consistent B (w_declared {m = m} {o = o} {d = d} e w) c =
    let b : Book = record { machine = m; borders = B } in
    run_consistent (d ∷ B) w (subst (λ (s : Step). Consistent (entered b s)) e (kept b c o))

pub unmet_have_one_fan : UnmetHaveOneFan
unmet_have_one_fan c os M w v h =
    let k = run_consistent [] w (empty_consistent c) in
    fanned_one_run k.1 (run_fanned (λ u. false) (met_in w) w (λ u z. (refl, z)) (fanned_empty c (λ u. false))) v h
