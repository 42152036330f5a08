use Rattle.std.proofs.Common.{ℕ, ◌<◌, ◌≤◌, [], get_or}
use Rattle.tableau.specs.Scans.{FulfilsClause}
use Rattle.tableau.proofs.types.Search.survey_from.Given as goal

abbrev pub invariant-loop-i : goal.invariant-loop-i
invariant-loop-i g l =
    (i : ℕ) → i < l.i → l.from ≤ i → FulfilsClause (g.B.Book.counts l.self.book.now) (g.T.BranchTable.marks l.self.table.now) (get_or (g.B.Book.clauses l.self.book.now) i [])
