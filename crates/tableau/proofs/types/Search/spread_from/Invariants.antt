use Rattle.std.proofs.Common.{◌-◌, Ok}
use Rattle.syntax.specs.Numbers.{atoms}
use Rattle.tableau.specs.Views.{Passes}
use Rattle.tableau.proofs.types.Search.spread_from.Given as goal

abbrev pub invariant-loop-at : goal.invariant-loop-at
invariant-loop-at g l = Passes g.B.Book g.T.BranchTable l.initial.self l.self (Ok l.moved)

abbrev pub decreases-loop-at : goal.decreases-loop-at
decreases-loop-at g l = atoms (g.B.Book.counts l.initial.self.book.now) - l.at
