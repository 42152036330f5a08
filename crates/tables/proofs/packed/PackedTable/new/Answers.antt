use Rattle.std.proofs.Common.{ap, ◌∙◌}
use Rattle.tables.specs.Packed.{packed_marks}
use Rattle.tables.proofs.Packs.{wiped_open}
use Rattle.tables.proofs.packed.PackedTable.new.Goals as goal

pub returns-clause-clear : goal.returns-clause-clear
returns-clause-clear c = ap packed_marks c.put_zeros.ensures ∙ wiped_open c.args.bytes.now
