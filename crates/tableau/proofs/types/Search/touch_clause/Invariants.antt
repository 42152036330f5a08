use Rattle.std.proofs.Common.{Ok}
use Rattle.tableau.specs.Views.{Passes}
use Rattle.tableau.proofs.types.Search.touch_clause.Given as goal

abbrev pub invariant-loop-l : goal.invariant-loop-l
invariant-loop-l g l = Passes g.B.Book g.T.BranchTable l.initial.self l.self (Ok l.moved)
