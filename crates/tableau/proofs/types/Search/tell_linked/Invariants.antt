use Rattle.std.proofs.Common.{Ok}
use Rattle.tableau.specs.Views.{Passes}
use Rattle.tableau.proofs.types.Search.tell_linked.Given as goal

abbrev pub invariant-loop-x : goal.invariant-loop-x
invariant-loop-x g l = Passes g.B.Book g.T.BranchTable l.initial.self l.self (Ok l.moved)

abbrev pub invariant-loop-y : goal.invariant-loop-y
invariant-loop-y g l = Passes g.B.Book g.T.BranchTable l.fn.self l.self (Ok l.moved)
