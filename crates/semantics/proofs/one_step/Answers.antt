use Rattle.semantics.proofs.Steps as lemmas
use Rattle.semantics.proofs.one_step.Goals as goal

pub returns : goal.returns
returns c = record { forced = lemmas.forced; conflict = lemmas.denied_all; alike = lemmas.told_alike; split = lemmas.split }
