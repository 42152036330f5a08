use Rattle.semantics.proofs.Steps as lemmas
use Rattle.semantics.proofs.agreement.Goals as goal

pub returns : goal.returns
returns c = record { thing = lemmas.one_thing; clash = lemmas.no_clash }
