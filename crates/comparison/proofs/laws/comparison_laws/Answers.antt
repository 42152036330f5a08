use Rattle.comparison.proofs.Weighing.{compared_once, exact_comparison}
use Rattle.comparison.proofs.laws.comparison_laws.Goals as goal

pub returns : goal.returns
returns c = record { one = compared_once; exact = exact_comparison }
