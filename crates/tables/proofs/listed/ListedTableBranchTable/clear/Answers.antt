use Rattle.std.proofs.Common.{take, arith}
use Rattle.tables.proofs.Rows.{none_stand, all_cleared}
use Rattle.tables.proofs.listed.ListedTableBranchTable.clear.Goals as goal

pub invariant_of-self : goal.invariant_of-self
invariant_of-self c = record { within = omega arith; each = none_stand }

pub returns-clause-cleared : goal.returns-clause-cleared
returns-clause-cleared c = all_cleared (take c.args.self.now.len c.args.self.now.rows.now)
