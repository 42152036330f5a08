use Rattle.std.proofs.Common.{map}
use Rattle.books.specs.Working.{standing_of}
use Rattle.tables.specs.Spaces.{SameMemory}
use Rattle.tableau.specs.Judged.{lent}
use Rattle.runs.specs.Runs.{meant}
use Rattle.runs.proofs.Performing.{Performing}
use Rattle.runs.proofs.perform.perform.Given as goal

abbrev pub invariant-loop-k : goal.invariant-loop-k
invariant-loop-k g l = record {
  performing : Performing l.initial.book.counts (standing_of l.initial.book) (map (meant g.B.Book) l.calls) (lent g.T.BranchTable l.initial.space l.initial.model) l.initial.journal l.k l.book.counts (standing_of l.book) (lent g.T.BranchTable l.space l.model) l.journal;
  memory : SameMemory l.initial.space l.space;
}
