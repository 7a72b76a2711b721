-- The whole packing of a list with no directed edge twice and one fan at each vertex: it is refused by 9 or 10, or its
-- operations are a run of the machine, over the list's own vertex numbers, that builds every triangle of the list.
-- Assumes nothing.
use Prim.Native.Nat.{ℕ, zero, suc, ◌+◌, ◌*◌, ◌≤◌, ◌<◌}
use native.Mathlib.Omega.{arith}
use mathlib.Core.Bool.{Bool, true, false, false≢true}
use mathlib.Core.List.{List, [], ◌∷◌, ◌++◌}
use mathlib.Core.Path.{◌≡◌, refl, sym, ap, ◌∙◌, subst}
use mathlib.Core.Logic.{◌⊎◌, inl, inr}
use lib.ListN.{length}
use lib.Dec.{leb}
use Rattle.rules.specs.declared.Triangle.{Triangle}
use Rattle.rules.specs.declared.Operation.{Operation}
use Rattle.rules.specs.Count.{occurs}
use Rattle.rules.specs.Ring.{Ring, places}
use Rattle.rules.specs.Choice.{Packing, has, Next, ended, refuses, takes, limited, choose_in, choose}
use Rattle.rules.specs.Pack.{Chosen, stopped, chosen, cons, choose_all, Most, nothing_built, chosen_for}
use Rattle.mesh_theory.specs.Fans.Corner.{Once}
use Rattle.rules.specs.Fan.{Neighbours}
use Rattle.rules.specs.Triangle.{In}
use Rattle.choice_theory.specs.Building.{next_built, built_by}
use Rattle.choice_theory.proofs.Steps.Progress.{begin}
use Rattle.choice_theory.proofs.Runs.Machine.{r_done}
use Rattle.choice_theory.proofs.Runs.Tracking.{RunsAt, Runs}
use Rattle.choice_theory.proofs.Steps.Choosing.{onto, Fits, labour, GoesOn, choose_step}

-- from a packing under way, with the full rings ls, to its end, by the operations os
pub record Complete (s : Packing) (ls : List Ring) (B : List Triangle) (rims : List Ring) (os : List Operation) (s' : Packing) : Type
    0 where
  pub mesh : s'.mesh ≡ s.mesh
  pub no_loop : s'.loops ≡ []
  pub none_left : s'.left ≡ []
  -- the triangles and rims at the end
  pub built : List Triangle
  pub ended_rims : List Ring
  -- they are added in the order of building
  pub adds : (n : ℕ) → length os < n → built ≡ onto (built_by n s) B
  pub fits : Fits s' built ended_rims
  pub runs : Runs s ls s' built B rims os

unfoldable pub Ends : Packing → List Ring → List Triangle → List Ring → Chosen → Type 0
Ends s ls B rims (stopped n) = (n ≡ 9) ⊎ (n ≡ 10)
Ends s ls B rims (chosen os s') = Complete s ls B rims os s'

onto_append : (us vs B : List Triangle) → onto (us ++ vs) B ≡ onto vs (onto us B)
onto_append [] vs B = refl
onto_append (u ∷ us) vs B = onto_append us vs (u ∷ B)

built_none : (n : ℕ) (s : Packing) → choose s ≡ ended → built_by n s ≡ []
unfolding built_by
built_none zero s h = refl
built_none (suc n) s h = rw (built_by, h) refl

built_next : (n : ℕ) (s s' : Packing) (o : Operation) → choose s ≡ takes o s'
    → built_by (suc n) s ≡ next_built s.mesh s.loops s.left ++ built_by n s'
unfolding built_by
built_next n s s' o h = rw (built_by, h) refl

ends_cons : (s : Packing) (ls : List Ring) (B : List Triangle) (rims : List Ring) (g : GoesOn s ls B rims) (x : Chosen)
    → choose s ≡ takes g.o g.after
    → Ends g.after g.fits.full g.built_after_lem g.rims_after x → Ends s ls B rims (cons g.o x)
unfolding Ends
ends_cons s ls B rims g (stopped n) e h = h
ends_cons s ls B rims g (chosen os s') e h =
    record {
      mesh = h.mesh ∙ g.mesh;
      no_loop = h.no_loop;
      none_left = h.none_left;
      built = h.built;
      ended_rims = h.ended_rims;
      adds = more;
      fits = h.fits;
      runs = g.runs s' h.built os h.runs;
    }
  where
    more : (n : ℕ) → suc (length os) < n → h.built ≡ onto (built_by n s) B
    more zero l = absurd (omega arith)
    more (suc n) l =
        h.adds n (omega arith)
        ∙ (ap (onto (built_by n g.after)) g.adds
        ∙ (sym (onto_append (next_built s.mesh s.loops s.left) (built_by n g.after) B)
        ∙ ap (λ (ts : List Triangle). onto ts B) (sym (built_next n s g.after g.o e))))

-- an operation is taken, or refused by 9 or 10
abbrev limited_by : Operation → Packing → Bool → Bool → Next
limited_by o s u v = elim u [ true ↦ elim v [ true ↦ takes o s | false ↦ refuses 10 ] | false ↦ refuses 9 ]

limited_by_lem : (o : Operation) (s : Packing) (u v : Bool)
    → (limited_by o s u v ≡ takes o s) ⊎ ((limited_by o s u v ≡ refuses 9) ⊎ (limited_by o s u v ≡ refuses 10))
limited_by_lem o s true true = inl refl
limited_by_lem o s true false = inr (inr refl)
limited_by_lem o s false v = inr (inl refl)

limited_cases : (o : Operation) (s : Packing) → (limited o s ≡ takes o s) ⊎ ((limited o s ≡ refuses 9) ⊎ (limited o s ≡ refuses 10))
unfolding limited
limited_cases o s = limited_by_lem o s (leb (places s.loops) s.limit_places) (leb (length s.loops) s.limit_loops)

pub all_ended : (n : ℕ) (s : Packing) → choose s ≡ ended → choose_all (suc n) s ≡ chosen [] s
unfolding choose_all
all_ended n s h = rw (choose_all, h) refl

all_refused : (n k : ℕ) (s : Packing) → choose s ≡ refuses k → choose_all (suc n) s ≡ stopped k
unfolding choose_all
all_refused n k s h = rw (choose_all, h) refl

pub all_taken_lem : (n : ℕ) (s s' : Packing) (o : Operation) → choose s ≡ takes o s' → choose_all (suc n) s ≡ cons o (choose_all n s')
unfolding choose_all
all_taken_lem n s s' o h = rw (choose_all, h) refl

pub choose_ended : (s : Packing) → s.loops ≡ [] → s.left ≡ [] → choose s ≡ ended
unfolding choose_in
choose_ended s l h = rw (l, h, choose_in) refl

-- n operations are enough
pub choose_all_lem : (n : ℕ) (s : Packing) (B : List Triangle) (rims : List Ring) (fit : Fits s B rims) → ((c : ℕ) → Neighbours s.mesh c)
    → labour s < n
    → Ends s fit.full B rims (choose_all n s)
unfolding Ends
choose_all_lem zero s B rims fit fan h = absurd (omega arith)
choose_all_lem (suc n) s B rims fit fan h =
    go (λ g. choose_all_lem n g.after g.built_after_lem g.rims_after g.fits
    (subst (λ (M : List Triangle). (c : ℕ) → Neighbours M c) (sym g.mesh) fan) (let f = g.falls in omega arith))
    (choose_step s B rims fit fan)
  where
    refused : (k : ℕ) → (k ≡ 9) ⊎ (k ≡ 10) → choose s ≡ refuses k → Ends s fit.full B rims (choose_all (suc n) s)
    refused k w e = subst (Ends s fit.full B rims) (sym (all_refused n k s e)) w

    on : (g : GoesOn s fit.full B rims) → Ends g.after g.fits.full g.built_after_lem g.rims_after (choose_all n g.after)
        → (limited g.o g.after ≡ takes g.o g.after)
        ⊎ ((limited g.o g.after ≡ refuses 9) ⊎ (limited g.o g.after ≡ refuses 10))
        → Ends s fit.full B rims (choose_all (suc n) s)
    on g r (inl e) = subst (Ends s fit.full B rims) (sym (all_taken_lem n s g.after g.o (g.chooses ∙ e)))
        (ends_cons s fit.full B rims g (choose_all n g.after) (g.chooses ∙ e) r)
    on g r (inr (inl e)) = refused 9 (inl refl) (g.chooses ∙ e)
    on g r (inr (inr e)) = refused 10 (inr refl) (g.chooses ∙ e)

    go : ((g : GoesOn s fit.full B rims) → Ends g.after g.fits.full g.built_after_lem g.rims_after (choose_all n g.after))
        → ((s.loops ≡ []) × (s.left ≡ []) × (fit.full ≡ [])) ⊎ GoesOn s fit.full B rims
        → Ends s fit.full B rims (choose_all (suc n) s)
    go ih (inl e) =
        subst (Ends s fit.full B rims) (sym (all_ended n s (choose_ended s e.0 e.1)))
        (record {
          mesh = refl;
          no_loop = e.0;
          none_left = e.1;
          built = B;
          ended_rims = rims;
          adds = λ n l. sym (ap (λ (ts : List Triangle). onto ts B) (built_none n s (choose_ended s e.0 e.1)));
          fits = fit;
          runs =
              subst (λ (l : List Ring). RunsAt s B B rims [] l (length s.left) s.most_places s.most_loops s.numbered) (sym e.2)
              (record {
                order = [];
                count = sym (ap length e.1);
                run = r_done;
                most_places_lem = refl;
                most_loops_lem = refl;
                numbers =
                    refl;
                agrees = tt;
              });
        })
    go ih (inr g) = on g (ih g) (limited_cases g.o g.after)

has_none : (c : ℕ) → has c [] ≡ true → ⊥
unfolding has
has_none c h = false≢true h

occurs_nil : (x : ℕ) → occurs x [] ≤ 1
unfolding occurs
occurs_nil x = omega arith

-- a list that is to be packed
pub fits_begin : (h : Most) (M : List Triangle) → Once M → Fits (nothing_built h M) [] []
fits_begin h M o = record {
  full = [];
  shows = refl;
  keeps = begin M o;
  good = tt;
  numbers = record { met = λ c g. absurd (has_none c g); numbered = λ c m. elim m.2 [ ] };
  distinct = occurs_nil;
}

-- the whole packing
pub packs_whole : (h : Most) (M : List Triangle) → Once M → ((c : ℕ) → Neighbours M c) → Ends (nothing_built h M) [] [] [] (chosen_for h M)
unfolding fits_begin
packs_whole h M o fan = choose_all_lem (4 * length M + 1) (nothing_built h M) [] [] (fits_begin h M o) fan (omega arith)

-- its run builds the triangles of the list, and no others
module _ (h : Most) (M : List Triangle) (os : List Operation) (s' : Packing) (c : Complete (nothing_built h M) [] [] [] os s') where
  pub complete_all : (x y z : ℕ) → In x y z M → In x y z c.built
  complete_all x y z i = go (c.fits.keeps.part x y z (subst (In x y z) (sym c.mesh) i))
    where
      go : In x y z s'.left ⊎ In x y z c.built → In x y z c.built
      go (inl j) = elim (subst (In x y z) c.none_left j) [ ]
      go (inr j) = j

  pub complete_only : (x y z : ℕ) → In x y z c.built → In x y z M
  complete_only x y z i = subst (In x y z) c.mesh (c.fits.keeps.sub_b x y z i)
