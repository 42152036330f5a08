use Rattle.classes.specs.Symbols.{view}
use Rattle.classes.proofs.Gathering.{Sofar}
use Rattle.classes.proofs.classed.Classed.found.Given as goal

abbrev pub invariant-loop-y : goal.invariant-loop-y
invariant-loop-y g l =
    Sofar (view g.T.BranchTable.marks l.self) l.symbol l.mark l.x l.y l.pairs

abbrev pub invariant-loop-x : goal.invariant-loop-x
invariant-loop-x g l =
    Sofar (view g.T.BranchTable.marks l.self) l.symbol l.mark l.x 0 l.pairs
