use Rattle.std.proofs.Common.{ap, ◌∙◌, rules}
use Rattle.tables.specs.Memory.{Loan}
use Rattle.tables.specs.Packed.{beyond}
use Rattle.tables.proofs.Packs.{wiped_beyond}
use Rattle.tables_tests.proofs.lent.try_bytes.Goals as goal

pub returns-clause-beyond : goal.returns-clause-beyond
returns-clause-beyond c = ap beyond (search rules) ∙ ap (λ (l : Loan). l.spare) c.try_table.ensures.loan ∙ ap beyond c.new.ensures.bytes ∙ wiped_beyond c.args.bytes.now
