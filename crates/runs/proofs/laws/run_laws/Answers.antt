use Rattle.runs.proofs.Steps.{run_law, one_answer}
use Rattle.runs.proofs.laws.run_laws.Goals as goal

pub returns : goal.returns
returns c = record { run = run_law; one = one_answer }
