use Rattle.std.proofs.Common.{ap, ◌∙◌}
use Rattle.tables.specs.Packed.{packed_marks, beyond}
use Rattle.tables.proofs.Packs.{wiped_cleared, wiped_beyond}
use Rattle.tables.proofs.packed.PackedTableBranchTable.clear.Goals as goal

pub returns-clause-cleared : goal.returns-clause-cleared
returns-clause-cleared c = ap packed_marks c.put_zeros.ensures ∙ wiped_cleared c.args.self.now.bytes.now

pub returns-clause-loan : goal.returns-clause-loan
returns-clause-loan c =
    ap (λ s. record { name = c.args.self.now.bytes.ghost_name; spare = s }) (ap beyond c.put_zeros.ensures ∙ wiped_beyond c.args.self.now.bytes.now)
