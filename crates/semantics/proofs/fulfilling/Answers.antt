use Rattle.semantics.proofs.Own as lemmas
use Rattle.semantics.proofs.fulfilling.Goals as goal

pub returns : goal.returns
returns c = lemmas.fulfilled_from
