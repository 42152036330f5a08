use Rattle.semantics.proofs.Steps as lemmas
use Rattle.semantics.proofs.refuting.Goals as goal

pub returns : goal.returns
returns c = lemmas.refutation
