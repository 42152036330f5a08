use Rattle.std.proofs.Common.{ℕ, ◌<◌}
use Rattle.classes.specs.Linking.{Joined, Leading}
use Rattle.classes.proofs.table.ClassTable.of.Given as goal

abbrev pub invariant-loop-a : goal.invariant-loop-a
invariant-loop-a g l =
    record {
      leading : Leading l.counts (g.T.BranchTable.marks l.table) l.leaders;
      joined : (a : ℕ) → a < l.a → Joined l.counts (g.T.BranchTable.marks l.table) l.leaders a l.counts.names;
    }
