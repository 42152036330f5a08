use Rattle.semantics.proofs.Worked as lemmas
use Rattle.semantics.proofs.worked_examples.Goals as goal

pub returns : goal.returns
returns c = lemmas.examples
