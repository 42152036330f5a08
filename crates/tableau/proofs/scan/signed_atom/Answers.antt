use Rattle.std.proofs.Common.{subst, arith}
use Rattle.syntax.specs.Numbers.{Numbered}
use Rattle.syntax.proofs.Laws.{few}
use Rattle.tableau.proofs.scan.signed_atom.Goals as goal

pub overflow_cast-result : goal.overflow_cast-result
overflow_cast-result c = omega (arith, few c.args.counts, (subst (Numbered c.args.counts c.instance.result) c.unwrap.ensures c.atom_number.ensures).2)
