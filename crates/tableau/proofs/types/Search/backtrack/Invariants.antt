use Rattle.std.proofs.Common.{false}
use Rattle.tableau.specs.Views.{Gone, Lost, weight_of}
use Rattle.tableau.proofs.types.Search.backtrack.Given as goal

abbrev pub invariant-loop-self : goal.invariant-loop-self
invariant-loop-self g l = Gone g.B.Book g.T.BranchTable l.initial.self l.self false × Lost g.B.Book g.T.BranchTable l.self

abbrev pub decreases-loop-self : goal.decreases-loop-self
decreases-loop-self g l = weight_of g.B.Book g.T.BranchTable l.self
