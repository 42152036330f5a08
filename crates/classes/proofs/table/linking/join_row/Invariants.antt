use Rattle.classes.specs.Linking.{Coarser, Joined, Leading}
use Rattle.classes.proofs.table.linking.join_row.Given as goal

abbrev pub invariant-loop-b : goal.invariant-loop-b
invariant-loop-b g l =
    Leading l.counts (g.T.BranchTable.marks l.table) l.leaders
    × Coarser l.initial.leaders l.leaders
    × Joined l.counts (g.T.BranchTable.marks l.table) l.leaders l.a l.b
