use Rattle.std.proofs.Common.{ℕ, ◌<◌, ◌≤◌, [], get_or}
use Rattle.instances.specs.Assignments.{names_of, nth_assignment}
use Rattle.tableau.specs.Signs.{SomeOf, StandsIn, instance}
use Rattle.tableau.proofs.types.Search.survey_clause.Given as goal

abbrev pub invariant-loop-k : goal.invariant-loop-k
invariant-loop-k g l =
    let c = g.B.Book.counts l.self.book.now in
    let cl = get_or (g.B.Book.clauses l.self.book.now) l.i [] in
    (k : ℕ) → k < l.k → l.first ≤ k → SomeOf (StandsIn (g.T.BranchTable.marks l.self.table.now)) (instance c (names_of (nth_assignment l.ranges k)) cl)
