-- The book after any list of calls: what holds of it holds after each.
-- Assumes nothing.
use mathlib.Core.Bool.{Bool, true, false, false≢true, true≢false}
use mathlib.Core.List.{List, [], ◌∷◌}
use mathlib.Core.Path.{◌≡◌, refl, sym}
use Rattle.rules.specs.declared.Counts.{Counts}
use Rattle.rules.specs.Limits.{in_range}
use Rattle.rules.specs.Machine.{Machine, empty, Step, refused, begun, built, declared, finished, beginning, finishing}
use Rattle.rules.specs.Buffer.{Lengths}
use Rattle.rules.specs.Book.{Call, begin, operate, finish, Book, recounted, empty_book, entered, after, is_accepted}
use Rattle.rules.specs.Calls.{after_all}
use Rattle.book.specs.Consistent.{Consistent}
use Rattle.book.specs.Reached.{reached}
use Rattle.book.proofs.Kept.{test_law, kept, empty_consistent}
use Rattle.book.specs.Bounded.{Bounded}
use Rattle.book.proofs.Bounds.{bounded_kept, empty_bounded}

-- a beginning that is accepted
pub record Begun (s : Counts) (x : Step) : Type 0 where
  pub step : x ≡ begun (empty s)
  pub range : in_range s ≡ true

pub begins_empty : (r : Lengths) (s : Counts) → is_accepted (beginning r s) ≡ true → Begun s (beginning r s)
unfolding beginning
begins_empty r s =
    test_law (λ (x : Step). is_accepted x ≡ true → Begun s x) (in_range s) _ _ (λ h. absurd (false≢true h))
    (λ i. test_law (λ (x : Step). is_accepted x ≡ true → Begun s x) _ _ _ (λ h. absurd (false≢true h))
    (λ j h. record { step = refl; range = i }))

-- a finish changes nothing
pub finish_same : (b : Book) (m : Machine) → entered b (finishing m) ≡ b
unfolding finishing
finish_same b m =
    test_law (λ (x : Step). entered b x ≡ b) _ _ _ refl
    (λ i. test_law (λ (x : Step). entered b x ≡ b) _ _ _ refl (λ j. test_law (λ (x : Step). entered b x ≡ b) _ _ _ refl (λ k. refl)))

-- counted anew, the vertices and edges are the same
pub recounted_same : (b : Book) → Consistent b → recounted b.machine ≡ b.machine
recounted_same b k = λ i. record {
  stated = b.machine.stated;
  triangles = b.machine.triangles;
  loops = b.machine.loops;
  used = k.vertices i;
  most_places = b.machine.most_places;
  most_loops = b.machine.most_loops;
  edges = sym k.edges i;
  starts = b.machine.starts;
  unions = b.machine.unions;
  rims = b.machine.rims;
}

-- a call that is refused changes nothing
pub refused_same : (b : Book) (s : Step) → is_accepted s ≡ false → entered b s ≡ b
refused_same b (refused n) h = refl
refused_same b (begun m) h = absurd (true≢false h)
refused_same b (built t m) h = absurd (true≢false h)
refused_same b (declared d m) h = absurd (true≢false h)
refused_same b (finished x) h = absurd (true≢false h)

pub machine_entered : (b : Book) (s : Step) → (entered b s).machine ≡ reached b.machine s
machine_entered b (refused n) = refl
machine_entered b (begun m) = refl
machine_entered b (built t m) = refl
machine_entered b (declared d m) = refl
machine_entered b (finished x) = refl

-- what holds of the book after any list of calls
pub record Holds (b : Book) : Type 0 where
  pub consistent : Consistent b
  pub bounded : Bounded b

pub empty_holds : (s : Counts) → in_range s ≡ true → Holds (empty_book s)
empty_holds s h = record { consistent = empty_consistent s; bounded = empty_bounded s h }

begin_holds : (r : Lengths) (b : Book) → Holds b → (s : Counts) → (t : Bool) → is_accepted (beginning r s) ≡ t → Holds (after r b (begin s))
begin_holds r b k s true e = let f = begins_empty r s e in rw f.step (empty_holds s f.range)
begin_holds r b k s false e = rw (refused_same b (beginning r s) e) k

pub holds_kept : (r : Lengths) (b : Book) → Holds b → (c : Call) → Holds (after r b c)
holds_kept r b k (begin s) = begin_holds r b k s (is_accepted (beginning r s)) refl
holds_kept r b k (operate o) = record {
  consistent = kept b k.consistent o;
  bounded = bounded_kept b k.consistent k.bounded o;
}
holds_kept r b k finish = rw (finish_same b (recounted b.machine)) k

pub holds_all : (r : Lengths) (b : Book) → Holds b → (cs : List Call) → Holds (after_all r b cs)
unfolding after_all
holds_all r b k [] = k
holds_all r b k (c ∷ cs) = holds_all r (after r b c) (holds_kept r b k c) cs

-- an accepted beginning, then any list of calls
pub holds_after : (r : Lengths) (s : Counts) → is_accepted (beginning r s) ≡ true → (cs : List Call) → Holds (after_all r (empty_book s) cs)
holds_after r s ok cs = holds_all r (empty_book s) (empty_holds s (begins_empty r s ok).range) cs
