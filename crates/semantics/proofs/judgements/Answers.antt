use Rattle.semantics.proofs.Suppose as lemmas
use Rattle.semantics.proofs.judgements.Goals as goal

pub returns : goal.returns
returns c = record { truth = lemmas.one_truth; comparison = lemmas.one_comparison }
