-- What a walk over the literals of a clause has left.
use Rattle.std.specs.Prelude.{List, [], drop, slice_index_or}
use Rattle.syntax.specs.declared.types.Literal.{Literal}
use Rattle.books.specs.declared.literals.Literals.{Literals}

-- the literals from the next one on, at a book that means these clauses
abbrev pub literals_left : {B : Type 0} → (B → List (List Literal)) → Literals B → List Literal
literals_left clauses s = drop s.next (slice_index_or (clauses s.book.now) s.clause [])
