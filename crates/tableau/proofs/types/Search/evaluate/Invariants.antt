use Rattle.std.proofs.Common.{[], get_or}
use Rattle.books.specs.Rest.{literals_left}
use Rattle.instances.specs.Assignments.{names_of}
use Rattle.tableau.proofs.Looks.{Looked}
use Rattle.tableau.proofs.types.Search.evaluate.Given as goal

abbrev pub invariant-loop-l : goal.invariant-loop-l
invariant-loop-l g l =
    let b = g.B.Book in
    let book = l.self.book.now in
    Looked (b.counts book) (g.T.BranchTable.marks l.self.table.now) (names_of l.names) (get_or (b.clauses book) l.i []) (literals_left b.clauses l.l-iterator) l.status
