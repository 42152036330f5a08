use Rattle.std.proofs.Common.{arith}
use Rattle.tables.specs.Packed.{packed_marks}
use Rattle.tables.specs.Within.{packed_length}
use Rattle.tables.proofs.Refused.{ask_done}
use Rattle.tables.proofs.packed.PackedTableBranchTable.untell.Goals as goal

pub put_mark-requires : goal.put_mark-requires
put_mark-requires c = let bs = c.args.self.now.bytes.now in omega (arith, ask_done (packed_marks bs) c.args.atom c.in_ok-ask.ensures.0, packed_length bs)
