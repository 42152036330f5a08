use Rattle.std.proofs.Common.{◌∙◌}
use Rattle.tables.specs.Within.{packed_length}
use Rattle.tables.proofs.packed.PackedTableBranchTable.capacity.Goals as goal

pub returns : goal.returns
returns c = c.reach.ensures ∙ packed_length c.args.self.now.bytes.now
