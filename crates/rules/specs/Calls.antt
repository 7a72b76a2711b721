-- Lists of calls: what the book answers and holds after them, which of them a new builder is given, and the state last returned.
-- Assumes nothing.
use Rattle.std.specs.Prelude.{Bool, true, false, List, [], ◌∷◌}
use Rattle.rules.specs.declared.Builder.{Builder}
use Rattle.rules.specs.Checked.{Checked}
use Rattle.rules.specs.Checked.{Accepted, Refused}
use Rattle.rules.specs.Buffer.{Lengths}
use Rattle.rules.specs.Answer.{Answer}
use Rattle.rules.specs.Book.{Call, begin, operate, finish, Book, call, answer, after, is_accepted}

-- the answers, and the book after the last call
unfoldable pub answers : Lengths → Book → List Call → List Answer
answers r b [] = []
answers r b (c ∷ cs) = answer r b c ∷ answers r (after r b c) cs

unfoldable pub after_all : Lengths → Book → List Call → Book
after_all r b [] = b
after_all r b (c ∷ cs) = after_all r (after r b c) cs

-- the last accepted beginning and the operations accepted since, the latest first
abbrev pub logged : List Call → Call → Bool → List Call
logged l c false = l
logged l (begin s) true = begin s ∷ []
logged l (operate o) true = operate o ∷ l
logged l finish true = l

unfoldable pub log_all : Lengths → Book → List Call → List Call → List Call
log_all r b l [] = l
log_all r b l (c ∷ cs) = log_all r (after r b c) (logged l c (is_accepted (call r b.machine c))) cs

-- the state last returned: a refused beginning returns its number only, and the state before it is still the last
abbrev pub last_state : Builder → Checked → Builder → Builder
last_state b Accepted b' = b'
last_state b (Refused n) b' = b
