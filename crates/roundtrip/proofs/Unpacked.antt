-- An accepted unpacking is a run of the machine, so all that holds of the builder's book holds of it.
-- Assumes nothing.
use Prim.Native.Nat.{ℕ}
use mathlib.Core.List.{List, [], ◌∷◌}
use mathlib.Core.Path.{sym, ap, ◌∙◌, subst}
use Rattle.rules.specs.declared.Model.{Model}
use Rattle.rules.specs.declared.Operation.{Operation}
use Rattle.rules.specs.Triangle.{Edge}
use Rattle.rules.specs.Machine.{Machine, totals}
use Rattle.rules.specs.Book.{Book, entered}
use Rattle.rules.specs.Buffer.{Buffers}
use Rattle.book.specs.Consistent.{Consistent}
use Rattle.book.proofs.Kept.{kept, empty_consistent}
use Rattle.book.proofs.Calls.{recounted_same}
use Rattle.choice_theory.specs.Works.{Works, w_none, w_built, w_declared}
use Rattle.roundtrip.specs.Claims.{AcceptedRun, AcceptedUnpackingIsARun}
use Rattle.roundtrip.proofs.Results.{UnpackedBy, unpacked_by}
use Rattle.roundtrip.proofs.Back.{held, used_is, triangles_are, list_is, checks}

-- operations that the machine accepts keep the book consistent
works_consistent : {m n : Machine} {os : List Operation} → Works m os n → (ds : List Edge)
    → Consistent (record { machine = m; borders = ds })
    → (es : List Edge) × Consistent (record { machine = n; borders = es })
works_consistent w_none ds c = (ds, c)
works_consistent {m} (w_built {o = o} e w) ds c =
    let b : Book = record { machine = m; borders = ds } in
    works_consistent w ds (subst Consistent (ap (entered b) e) (kept b c o))
works_consistent {m} (w_declared {o = o} {d = d} e w) ds c =
    let b : Book = record { machine = m; borders = ds } in
    works_consistent w (d ∷ ds) (subst Consistent (ap (entered b) e) (kept b c o))

module _ (bytes : List ℕ) (r : Buffers) (m : Model) (u : UnpackedBy bytes r m) where
  book : (es : List Edge) × Consistent (record { machine = u.end; borders = es })
  book = works_consistent (held bytes r m u).works [] (empty_consistent u.counts)

  run_accepted : AcceptedRun bytes r m
  run_accepted =
      let b : Book = record { machine = u.end; borders = book.0 } in
      record {
        counts = u.counts;
        ops = u.ops;
        left = u.left;
        fields = u.found;
        operations = (held bytes r m u).operations;
        reads = (held bytes r m u).reads;
        end = u.end;
        works = (held bytes r m u).works;
        borders = book.0;
        consistent = book.1;
        list = list_is bytes r m u;
        accepted = checks bytes r m u;
        vertices = sym (used_is bytes r m u) ∙ sym book.1.vertices;
        triangles = sym (triangles_are bytes r m u);
        totals = ap (λ (k : Model). k.totals) u.model ∙ sym (ap totals (recounted_same b book.1));
      }

pub accepted_unpacking_is_a_run : AcceptedUnpackingIsARun
accepted_unpacking_is_a_run bytes r m e = run_accepted bytes r m (unpacked_by bytes r m e)
