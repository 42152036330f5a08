use Rattle.std.proofs.Common.{take, sym}
use Rattle.tables.proofs.Rows.{listed_length}
use Rattle.tables.proofs.listed.ListedTableBranchTable.reach.Goals as goal

pub returns : goal.returns
returns c = sym (listed_length (take c.args.self.now.len c.args.self.now.rows.now))
