use Rattle.std.proofs.Common.{◌≡◌, [], ◌++◌, get_or}
use Rattle.books.specs.Rest.{literals_left}
use Rattle.checking.proofs.values.read.Given as goal

-- the literals before the next one are copied
abbrev pub invariant-loop-l : goal.invariant-loop-l
invariant-loop-l g l =
    l.clause.items ++ literals_left g.B.Book.clauses l.l-iterator ≡ get_or (g.B.Book.clauses l.book) l.i []
