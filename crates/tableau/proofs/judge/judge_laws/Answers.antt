use Rattle.tableau.proofs.Judging.{one_verdict}
use Rattle.tableau.proofs.judge.judge_laws.Goals as goal

pub returns : goal.returns
returns c = one_verdict
