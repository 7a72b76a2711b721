-- What is rehearsed keeps the builder's book, by the theorem of demand 3; the tetrahedron by computing the book.
-- Assumes nothing.
use Prim.Native.Nat.{◌*◌, ◌≤◌}
use mathlib.Core.Bool.{true}
use mathlib.Core.List.{List, [], ◌∷◌, ◌++◌}
use mathlib.Core.Path.{◌≡◌, refl, ap, ◌∙◌, subst}
use borrow.Author.Tests.{le-leb}
use Rattle.rules.specs.declared.Counts.{Counts}
use Rattle.rules.specs.Limits.{max_places, in_range}
use Rattle.rules.specs.Triangle.{corners, edges_of}
use Rattle.rules.specs.Count.{same, hit, occurs, count, different, pairs}
use Rattle.rules.specs.Fan.{about, leaving, entering, turn_on, turn_back, one_run, one_fan_each}
use Rattle.rules.specs.Ring.{all_open, vertex_at, last_open, last_vertex, front, onward, reached, places, loop_at, without}
use Rattle.rules.specs.Table.{allowed, in_order, at_edge, at_rest, effect}
use Rattle.rules.specs.Machine.{test, done, beginning, finishing}
use Rattle.rules.specs.Answer.{Answer, accepted, finished_answer}
use Rattle.rules.specs.Book.{Call, begin, finish, Book, empty_book, answer_of, answer, after}
use Rattle.rules.specs.Calls.{answers, after_all}
use Rattle.rules.specs.Buffer.{Lengths, lengths}
use Rattle.promises.specs.Promises.{lent_to}
use Rattle.promises.specs.BuildersBook.{Run, KeepsTheBook}
use Rattle.promises.proofs.BuildersBook.{building_calls_keep_the_book}
use Rattle.rehearsal.specs.Rehearsal.{operations, calls_of, lent_world, left_by, book_of, RehearsalMeetsTheBook, TetrahedronRehearsed}

-- the last element of a list
last_same : (xs ys : List Answer) (a b : Answer) → xs ++ (a ∷ []) ≡ ys ++ (b ∷ []) → a ≡ b
last_same [] [] a b e = cc
last_same [] (y ∷ []) a b e = cc
last_same [] (y ∷ (z ∷ ys)) a b e = cc
last_same (x ∷ []) [] a b e = cc
last_same (x ∷ (z ∷ xs)) [] a b e = cc
last_same (x ∷ xs) (y ∷ ys) a b e = last_same xs ys a b cc

-- the book's answers to one call more
answers_more : (n : Lengths) (b : Book) (cs : List Call) (c : Call)
    → answers n b (cs ++ (c ∷ [])) ≡ answers n b cs ++ (answer n (after_all n b cs) c ∷ [])
unfolding answers after_all
answers_more n b [] c = refl
answers_more n b (d ∷ cs) c = ap (λ (xs : List Answer). answer n b d ∷ xs) (answers_more n (after n b d) cs c)

-- 13 and 14 are passed
begins_accepted : (n : Lengths) (s : Counts) → in_range s ≡ true → 3 * s.triangles ≤ n.triangles → max_places ≤ n.places
    → answer_of (beginning n s) ≡ accepted
unfolding beginning test
begins_accepted n s h l k = rw (h, le-leb (3 * s.triangles) n.triangles l, le-leb max_places n.places k) refl

pub rehearsal_meets_the_book : RehearsalMeetsTheBook
rehearsal_meets_the_book s os ts ps r ts' ps' h l k x =
    let n = lengths (lent_to ts ps) in
    let g = x.run in
    let ok : g.first ≡ accepted = g.called.answer ∙ g.called.promised.answer ∙ begins_accepted n s h l k in
    let e : x.answers ++ (finished_answer r ∷ []) ≡ accepted ∷ g.others = g.answers ∙ ap (λ (a : Answer). a ∷ g.others) ok in
    let b = building_calls_keep_the_book (lent_world ts ps) s (calls_of os) g.others (left_by x)
    (subst (λ (xs : List Answer). Run (begin s ∷ calls_of os) (lent_world ts ps) xs (left_by x)) e g) in
    record {
      answer =
          last_same x.answers (accepted ∷ answers n (empty_book s) (operations os)) (finished_answer r) (answer n (book_of n s os) finish)
          (e ∙ ap (λ (xs : List Answer). accepted ∷ xs) (b.each_answer ∙ answers_more n (empty_book s) (operations os) finish));
      book =
          subst (λ (xs : List Answer).
          KeepsTheBook (lent_world ts ps) s (calls_of os) xs (left_by x) (after_all n (empty_book s) (calls_of os)))
          b.each_answer b;
    }

pub tetrahedron_rehearsed : TetrahedronRehearsed
unfolding corners edges_of same hit occurs count different pairs about leaving entering turn_on turn_back one_run one_fan_each all_open
    vertex_at
    last_open last_vertex front onward reached places loop_at without allowed in_order at_edge at_rest effect test done finishing operations
    after_all
tetrahedron_rehearsed ts ps r ts' ps' l k x = (rehearsal_meets_the_book _ _ ts ps r ts' ps' refl l k x).answer
