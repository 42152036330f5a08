use Rattle.std.proofs.Common.{arith}
use Rattle.tables.specs.Within.{packed_length}
use Rattle.tables.proofs.packed.PackedTableBranchTable.reach.Goals as goal

pub returns : goal.returns
returns c = omega (arith, packed_length c.args.self.now.bytes.now)
