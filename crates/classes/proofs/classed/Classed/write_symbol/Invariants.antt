use Rattle.classes.specs.Symbols.{view}
use Rattle.classes.specs.Writing.{own_of}
use Rattle.classes.proofs.Writing.{Sofar}
use Rattle.classes.proofs.classed.Classed.write_symbol.Given as goal

abbrev pub invariant-loop-y : goal.invariant-loop-y
invariant-loop-y g l =
    Sofar l.self.counts (own_of (view g.T.BranchTable.marks l.self)) l.symbol l.x l.y l.fn.memory l.memory

abbrev pub invariant-loop-x : goal.invariant-loop-x
invariant-loop-x g l =
    Sofar l.self.counts (own_of (view g.T.BranchTable.marks l.self)) l.symbol l.x 0 l.fn.memory l.memory
