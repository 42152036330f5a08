use Rattle.std.proofs.Common.{Ok}
use Rattle.tableau.specs.Views.{Passes}
use Rattle.tableau.proofs.types.Search.touch.Given as goal

abbrev pub invariant-loop-i : goal.invariant-loop-i
invariant-loop-i g l = Passes g.B.Book g.T.BranchTable l.initial.self l.self (Ok l.moved)
