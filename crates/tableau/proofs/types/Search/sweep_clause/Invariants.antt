use Rattle.std.proofs.Common.{Ok}
use Rattle.tableau.specs.Views.{Passes}
use Rattle.tableau.proofs.types.Search.sweep_clause.Given as goal

abbrev pub invariant-loop-k : goal.invariant-loop-k
invariant-loop-k g l = Passes g.B.Book g.T.BranchTable l.initial.self l.self (Ok l.moved)
