use Rattle.semantics.proofs.Own as lemmas
use Rattle.semantics.proofs.class_table.Goals as goal

pub returns : goal.returns
returns c = record { one = lemmas.one_table; from = lemmas.table_from }
