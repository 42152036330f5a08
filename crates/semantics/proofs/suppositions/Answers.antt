use Rattle.semantics.proofs.Suppose as lemmas
use Rattle.semantics.proofs.suppositions.Goals as goal

pub returns : goal.returns
returns c = record { denial = lemmas.denial; counter = lemmas.counter_instance }
